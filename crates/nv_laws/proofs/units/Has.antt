-- Bytes that a memory has at places.
use Rattle.std.proofs.Common.{◌≡◌, ℕ, zero, suc, ◌+◌, ◌*◌, ◌<◌, ◌≤◌, ◌⊎◌, inl, inr, List, [], ◌∷◌, ◌++◌}
use Rattle.std.proofs.Common.{All, drop, get_or, length, take, arith, refl, sym, ap, ◌∙◌, subst}
use Rattle.std.proofs.lemmas.Bool.{cases_eq, cases_lt}
use Rattle.std.proofs.lemmas.List.{drop-drop, get_or_default, get_or-drop, get_or-take, length-drop, length-take, take-append-drop}
use Rattle.std.proofs.lemmas.List.Elements.{All-cons, All-head, All-nil, All-tail, All-weaker}
use Rattle.nv_mem.specs.Places.{At, Bucket, Place}
use Rattle.nv_mem.proofs.Images.{AllPairs-head, AllPairs-tail}
use Rattle.nv_model.specs.Laws.{IsAnother}
use Rattle.nv_model.specs.Limits.{block}
use Rattle.nv_model.specs.Memory.{byte_at_place, bytes_from, scattered, stored}
use Rattle.nv_model.proofs.MemoryLemmas.{bytes_from-append}
use Rattle.nv_model.proofs.UnitsElsewhere.{scattered-elsewhere}
use Rattle.nv_laws.specs.Places.{HasAt, IsElse, NameNoneTwice}
use Rattle.nv_laws.proofs.units.Lies.{stored-here, stored-there}

-- ---- scattered bytes are there

-- no place beside one that names an address names it, too
else-another : (addr : ℕ) (places : List Place) → All (IsElse (At addr)) places → All (IsAnother (At addr)) places
else-another addr places each = All-weaker (IsElse (At addr)) (IsAnother (At addr)) (λ other is same. is addr refl same) places each

-- bytes that are scattered to places that name no byte twice are there
pub has-scattered : (memory : ℕ → ℕ) (places : List Place) (bytes : List ℕ) → NameNoneTwice places → length places ≡ length bytes
    → HasAt (scattered memory places bytes) places bytes
unfolding scattered
has-scattered memory [] [] once count = tt
has-scattered memory [] (byte ∷ bytes) once count = absurd (omega (arith, count))
has-scattered memory (At addr ∷ places) [] once count = absurd (omega (arith, count))
has-scattered memory (Bucket ∷ places) [] once count = absurd (omega (arith, count))
has-scattered memory (At addr ∷ places) (byte ∷ bytes) once count = (
  scattered-elsewhere (stored memory addr (byte ∷ [])) places bytes addr (else-another addr places (AllPairs-head IsElse (At addr) places once))
      ∙ stored-here memory addr byte,
  has-scattered (stored memory addr (byte ∷ [])) places bytes (AllPairs-tail IsElse (At addr) places once) (omega (arith, count)),
)
has-scattered memory (Bucket ∷ places) (byte ∷ bytes) once count =
    has-scattered memory places bytes (AllPairs-tail IsElse Bucket places once) (omega (arith, count))

-- they stay where the memory stays the same
pub has-kept : (memory now : ℕ → ℕ) (places : List Place) (bytes : List ℕ) → All (λ p. byte_at_place now p ≡ byte_at_place memory p) places
    → HasAt memory places bytes → HasAt now places bytes
has-kept memory now [] [] same has = tt
has-kept memory now [] (byte ∷ bytes) same has = absurd has
has-kept memory now (At addr ∷ places) [] same has = absurd has
has-kept memory now (Bucket ∷ places) [] same has = absurd has
has-kept memory now (At addr ∷ places) (byte ∷ bytes) same has = (
  All-head (λ p. byte_at_place now p ≡ byte_at_place memory p) (At addr) places same ∙ has.0,
  has-kept memory now places bytes (All-tail (λ p. byte_at_place now p ≡ byte_at_place memory p) (At addr) places same) has.1,
)
has-kept memory now (Bucket ∷ places) (byte ∷ bytes) same has =
    has-kept memory now places bytes (All-tail (λ p. byte_at_place now p ≡ byte_at_place memory p) Bucket places same) has

-- a memory that gets bytes that another has at the same places has at each address what the other has, if it had so at those that are not named
pub delivered-same : (memory other : ℕ → ℕ) (places : List Place) (bytes : List ℕ) (addr : ℕ) → HasAt other places bytes
    → (All (IsAnother (At addr)) places → memory addr ≡ other addr) → scattered memory places bytes addr ≡ other addr
unfolding scattered
delivered-same memory other [] [] addr has same = same (All-nil (IsAnother (At addr)))
delivered-same memory other [] (byte ∷ bytes) addr has same = absurd has
delivered-same memory other (At at ∷ places) [] addr has same = absurd has
delivered-same memory other (Bucket ∷ places) [] addr has same = absurd has
delivered-same memory other (At at ∷ places) (byte ∷ bytes) addr has same =
    delivered-same (stored memory at (byte ∷ [])) other places bytes addr has.1 (λ others. by_place others (cases_eq at addr))
  where
    at-same : At at ≡ At addr → at ≡ addr
    at-same e = cc

    by_place : All (IsAnother (At addr)) places → (at ≡ addr) ⊎ (at ≡ addr → ⊥) → stored memory at (byte ∷ []) addr ≡ other addr
    by_place others (inl here) =
        ap (stored memory at (byte ∷ [])) (sym here) ∙ stored-here memory at byte ∙ sym has.0 ∙ ap other here
    by_place others (inr apart) =
        stored-there memory at byte addr apart ∙ same (All-cons (IsAnother (At addr)) (At at) places (λ e. apart (at-same e)) others)
delivered-same memory other (Bucket ∷ places) (byte ∷ bytes) addr has same =
    delivered-same memory other places bytes addr has (λ others. same (All-cons (IsAnother (At addr)) Bucket places (λ e. no-bucket e) others))
  where
    no-bucket : Bucket ≡ At addr → ⊥
    no-bucket e = cc

-- ---- block by block

has-append : (memory : ℕ → ℕ) (places more : List Place) (bytes others : List ℕ) → HasAt memory places bytes → HasAt memory more others
    → HasAt memory (places ++ more) (bytes ++ others)
has-append memory [] more [] others has also = also
has-append memory [] more (byte ∷ bytes) others has also = absurd has
has-append memory (At addr ∷ places) more [] others has also = absurd has
has-append memory (Bucket ∷ places) more [] others has also = absurd has
has-append memory (At addr ∷ places) more (byte ∷ bytes) others has also = (has.0, has-append memory places more bytes others has.1 also)
has-append memory (Bucket ∷ places) more (byte ∷ bytes) others has also = has-append memory places more bytes others has also

-- what a memory has at the places of each block it has at all of them
pub has-blocks : (n : ℕ) (memory host : ℕ → ℕ) (places : List Place) (from : ℕ) → length places ≡ block * n
    → ((index : ℕ) → index < n → HasAt memory (take block (drop (block * index) places)) (bytes_from host (from + block * index) block))
    → HasAt memory places (bytes_from host from (block * n))
unfolding bytes_from
has-blocks zero memory host [] from count each = tt
has-blocks zero memory host (place ∷ places) from count each = absurd (omega (arith, count))
has-blocks (suc n) memory host places from count each =
    let here : from + block * 0 ≡ from = omega arith in
    let first : HasAt memory (take block places) (bytes_from host from block) =
    subst (λ a. HasAt memory (take block places) (bytes_from host a block)) here (each 0 (omega arith)) in
    let left : length (drop block places) ≡ block * n = length-drop block places ∙ omega (arith, count) in
    let rest = has-blocks n memory host (drop block places) (from + block) left (λ index below. further index (each (suc index) (omega (arith, below)))) in
    let more : block + block * n ≡ block * suc n = omega arith in
    subst (λ ps. HasAt memory ps (bytes_from host from (block * suc n))) (take-append-drop block places)
    (subst (λ bs. HasAt memory (take block places ++ drop block places) bs) (sym (bytes_from-append host from block (block * n)) ∙ ap (bytes_from host from) more)
    (has-append memory (take block places) (drop block places) (bytes_from host from block) (bytes_from host (from + block) (block * n)) first rest))
  where
    further : (index : ℕ) → HasAt memory (take block (drop (block * suc index) places)) (bytes_from host (from + block * suc index) block)
        → HasAt memory (take block (drop (block * index) (drop block places))) (bytes_from host (from + block + block * index) block)
    further index has =
        (let behind : block + block * index ≡ block * suc index = omega arith in
        let there : from + block * suc index ≡ from + block + block * index = omega arith in
        subst (λ ps. HasAt memory (take block ps) (bytes_from host (from + block + block * index) block))
        (sym (drop-drop (block * index) block places ∙ ap (λ k. drop k places) behind))
        (subst (λ a. HasAt memory (take block (drop (block * suc index) places)) (bytes_from host a block)) there has))

-- ---- blocks that name no byte of each other

-- two of these places, the earlier first or not
once-any : (places : List Place) (i j : ℕ) (d : Place) → NameNoneTwice places → (i ≡ j → ⊥) → i < length places → j < length places
    → IsElse (get_or places i d) (get_or places j d)
once-any places i j d once apart first second =
    elim (cases_lt i j) [
      | inl before ↦ once i j d before second
      | inr behind ↦ (λ addr here there. once j i d (less behind apart) first addr there here)
    ]
  where
    less : j ≤ i → (i ≡ j → ⊥) → j < i
    less most other = elim (cases_eq i j) [ inl same ↦ absurd (other same) | inr differ ↦ omega (arith, most, differ) ]

-- a place of a block is one of the whole
part-within : (len : ℕ) (places : List Place) (from k : ℕ) → k < length (take len (drop from places)) → (k < len) × (from + k < length places)
part-within len places from k small =
    let taken = length-take len (drop from places) in
    let dropped = length-drop from places in
    (omega (arith, taken, small), omega (arith, taken, dropped, small))

-- where the whole names none twice, a part of it does not
pub once-part : (len : ℕ) (places : List Place) (from : ℕ) → NameNoneTwice places → NameNoneTwice (take len (drop from places))
once-part len places from once i j d order below =
    let first = part-within len places from i (omega (arith, order, below)) in
    let second = part-within len places from j below in
    let named = once (from + i) (from + j) d (omega (arith, order)) second.1 in
    let here : get_or (take len (drop from places)) i d ≡ get_or places (from + i) d =
    get_or-take len (drop from places) i d first.0 ∙ get_or-drop from places i d in
    let there : get_or (take len (drop from places)) j d ≡ get_or places (from + j) d =
    get_or-take len (drop from places) j d second.0 ∙ get_or-drop from places j d in
    λ addr one two. named addr (sym here ∙ one) (sym there ∙ two)

-- a place of one block is none of another's
pub once-blocks : (places : List Place) (index other : ℕ) → NameNoneTwice places → (index ≡ other → ⊥)
    → All (λ p. All (IsElse p) (take block (drop (block * other) places))) (take block (drop (block * index) places))
once-blocks places index other once apart i d below j e under =
    let first = part-within block places (block * index) i below in
    let second = part-within block places (block * other) j under in
    let named = once-any places (block * index + i) (block * other + j) d once (λ same. differ first.0 second.0 same (cases_lt index other)) first.1 second.1 in
    let here : get_or (take block (drop (block * index) places)) i d ≡ get_or places (block * index + i) d =
    get_or-take block (drop (block * index) places) i d first.0 ∙ get_or-drop (block * index) places i d in
    let there : get_or (take block (drop (block * other) places)) j e ≡ get_or places (block * other + j) d =
    get_or-take block (drop (block * other) places) j e second.0 ∙ get_or-drop (block * other) places j e
    ∙ get_or_default places (block * other + j) e d second.1 in
    λ addr one two. named addr (sym here ∙ one) (sym there ∙ two)
  where
    differ : i < block → j < block → block * index + i ≡ block * other + j → (index < other) ⊎ (other ≤ index) → ⊥
    differ low high same (inl less) = absurd (omega (arith, low, high, same, less))
    differ low high same (inr most) = elim (cases_eq index other) [ inl is ↦ apart is | inr not ↦ absurd (omega (arith, low, high, same, most, not)) ]

-- what is given to one block leaves another's bytes
pub others-kept : (memory : ℕ → ℕ) (places : List Place) (index other : ℕ) (given : List ℕ) → NameNoneTwice places → (index ≡ other → ⊥)
    → All (λ p. byte_at_place (scattered memory (take block (drop (block * other) places)) given) p ≡ byte_at_place memory p) (take block (drop (block * index) places))
others-kept memory places index other given once apart =
    All-weaker (λ p. All (IsElse p) (take block (drop (block * other) places)))
    (λ p. byte_at_place (scattered memory (take block (drop (block * other) places)) given) p ≡ byte_at_place memory p)
    by_place (take block (drop (block * index) places)) (once-blocks places index other once apart)
  where
    by_place : (p : Place) → All (IsElse p) (take block (drop (block * other) places))
        → byte_at_place (scattered memory (take block (drop (block * other) places)) given) p ≡ byte_at_place memory p
    by_place (At addr) each =
        scattered-elsewhere memory (take block (drop (block * other) places)) given addr (else-another addr (take block (drop (block * other) places)) each)
    by_place Bucket each = refl
