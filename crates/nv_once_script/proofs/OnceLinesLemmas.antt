-- Lines one after another
use Rattle.std.proofs.Common.{◌≡◌, ℕ, suc, cond, map, not, ◌*◌, ◌+◌, ◌<◌, ◌≤◌, Bool, true, false, eqb}
use Rattle.std.proofs.Common.{List, [], ◌∷◌, ◌++◌, length, get_or, take, drop, refl, sym, subst, ap, ◌∙◌, arith}
use Rattle.std.specs.List.{All, slice_split}
use Rattle.std.proofs.lemmas.List.{drop-drop, drop_more, get_or-take, get_or_default, length-take-le, take-append-drop, take_all}
use Rattle.std.proofs.lemmas.List.Splits.{length-slice_split, slice_split_none, slice_split_at}
use Rattle.std.proofs.lemmas.List.Sums.{count_by-le-length}
use Rattle.std.proofs.lemmas.Simd.{run_in_chunk_fails, run_in_chunk_stops, trailing_mask_l}
use Rattle.std.proofs.lemmas.Bool.{false≢true}
use Rattle.std.specs.List.{prefix_len}
use lib.Count.{count_trailing_zeros}
use lib.Lanes.{mask_l}
use Rattle.memchr.specs.Find.{NoneBefore, Nowhere, Passes, is_byte}

abbrev pub is_feed : ℕ → Bool
is_feed b = eqb b 10

not-true : (t : Bool) → ¬ (t ≡ true) → t ≡ false
not-true true never = absurd (never refl)
not-true false never = refl

-- no byte up to a place ends a line
none-ends : (text : List ℕ) (n : ℕ) → n ≤ length text → Nowhere (Passes (is_byte 10) text) 0 n → All (λ b. is_feed b ≡ false) (take n text)
none-ends text n le none = λ k d l.
    let len = length-take-le n text le in
    let same : get_or (take n text) k d ≡ get_or text k 0 = get_or-take n text k d (omega arith) ∙ get_or_default text k d 0 (omega arith) in
    ap is_feed same ∙ not-true (is_feed (get_or text k 0)) (none k (omega arith) (omega arith))

-- the last line
pub last-line : (text : List ℕ) → Nowhere (Passes (is_byte 10) text) 0 (length text) → slice_split is_feed text ≡ text ∷ []
last-line text none =
    let A : List ℕ → Type 0 = λ bs. All (λ b. is_feed b ≡ false) bs in
    slice_split_none is_feed text (subst A (take_all (length text) text (omega arith)) (none-ends text (length text) (omega arith) none))

-- a line that a line feed ends
first-line : (text : List ℕ) (end : ℕ) → NoneBefore (Passes (is_byte 10) text) 0 (length text) end → Passes (is_byte 10) text end
    → slice_split is_feed text ≡ take end text ∷ slice_split is_feed (drop 1 (drop end text))
first-line text end found feed =
    let high = found.high in
    let behind : drop end text ≡ get_or text end 0 ∷ drop (end + 1) text = drop_more text end 0 high in
    ap (slice_split is_feed) (sym (take-append-drop end text) ∙ ap (λ (bs : List ℕ). take end text ++ bs) behind)
    ∙ slice_split_at is_feed (take end text) (get_or text end 0) (drop (end + 1) text) (none-ends text end (omega arith) found.before) feed
    ∙ ap (λ (bs : List ℕ). take end text ∷ slice_split is_feed bs) (sym (drop-drop 1 end text))

-- the same, of the parts that it is cut into
pub one-line : (text line behind left : List ℕ) (end : ℕ) → NoneBefore (Passes (is_byte 10) text) 0 (length text) end → Passes (is_byte 10) text end
    → line ≡ take end text → behind ≡ drop end text → left ≡ drop 1 behind → slice_split is_feed text ≡ line ∷ slice_split is_feed left
one-line text line behind left end found feed front back rest =
    first-line text end found feed ∙ rw (front, rest, back) refl

-- and fewer lines are left behind it
pub fewer-lines : (text line behind left : List ℕ) (end : ℕ) → NoneBefore (Passes (is_byte 10) text) 0 (length text) end → Passes (is_byte 10) text end
    → line ≡ take end text → behind ≡ drop end text → left ≡ drop 1 behind → length (slice_split is_feed left) < length (slice_split is_feed text)
fewer-lines text line behind left end found feed front back rest =
    let is = ap length (one-line text line behind left end found feed front back rest) in
    omega arith

-- a text has no more lines than bytes and one
pub few-lines : (text : List ℕ) → length (slice_split is_feed text) ≤ length text + 1
few-lines text =
    let lines = length-slice_split is_feed text in
    let feeds = count_by-le-length is_feed text in
    omega arith

-- ---- the first bytes of a text as the lanes of a vector

set-at : (p : ℕ → Bool) (x : ℕ) (xs : List ℕ) (t : Bool) → p x ≡ t → (0 < mask_l (map p xs) → prefix_len (λ y. not (p y)) xs < length xs)
    → 0 < cond t 1 0 + 2 * mask_l (map p xs) → prefix_len (λ y. not (p y)) (x ∷ xs) < suc (length xs)
set-at p x xs true e rest some = rw e (omega arith)
set-at p x xs false e rest some = let more = rest (omega arith) in rw e (omega (arith, more))

-- where a bit is set, a lane passes
some-set : (p : ℕ → Bool) (xs : List ℕ) → 0 < mask_l (map p xs) → prefix_len (λ x. not (p x)) xs < length xs
some-set p [] some = absurd (omega arith)
some-set p (x ∷ xs) some = set-at p x xs (p x) refl (some-set p xs) some

-- the lowest bit that is set stands for the first line feed
pub first-feed : (text : List ℕ) (mask place : ℕ) → 32 ≤ length text → mask ≡ mask_l (map is_feed (take 32 text)) → 0 < mask
    → place ≡ count_trailing_zeros 64 mask → NoneBefore (Passes (is_byte 10) text) 0 (length text) place × Passes (is_byte 10) text place
first-feed text mask place room is some at =
    let long = length-take-le 32 text room in
    let counted : place ≡ prefix_len (λ x. not (is_feed x)) (take 32 text) =
    at ∙ ap (count_trailing_zeros 64) is ∙ trailing_mask_l is_feed 64 (take 32 text) (omega (arith, long)) (omega (arith, is)) in
    let within = some-set is_feed (take 32 text) (omega (arith, is)) in
    let before = run_in_chunk_fails is_feed text 0 32 place 0 room counted in
    let here = run_in_chunk_stops is_feed text 0 32 place 0 room counted (omega (arith, counted, within, long)) in
    let from_start : 0 + place ≡ place = omega arith in (
      record {
        low = omega arith;
        high = omega (arith, counted, within, long);
        before = λ k low high feed. false≢true (sym (before k low (omega arith)) ∙ feed);
      },
      ap (λ k. is_feed (get_or text k 0)) (sym from_start) ∙ here,
    )
