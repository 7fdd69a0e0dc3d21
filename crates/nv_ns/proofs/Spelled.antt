-- What the cuts of a run of blocks name: each block of it, in order, where it lies.
use Rattle.std.proofs.Common.{◌≡◌, ℕ, zero, suc, ◌+◌, ◌-◌, ◌<◌, ◌≤◌, List, [], ◌∷◌, ◌++◌, map, length, take, sum_by, Bool, Some}
use Rattle.std.proofs.Common.{None, if◌then◌else◌, refl, ap, sym, ◌∙◌, inl, inr, subst, arith, length-append}
use Rattle.std.specs.List.{All, Contains, flat_map, range_with_len, slice_get}
use Rattle.std.proofs.lemmas.Bool.{cases_lt}
use Rattle.std.proofs.lemmas.Grind.{common_steps}
use Rattle.std.proofs.lemmas.List.{map-append}
use Rattle.std.proofs.lemmas.List.Concat.{flat_map-append}
use Rattle.std.proofs.lemmas.List.Elements.{All-append, All-cons, All-nil, All-weaker}
use Rattle.std.proofs.lemmas.List.Sums.{sum_by-append, sum_by-cons}
use Rattle.nv_ns.specs.BlockRange.{Extent}
use Rattle.nv_ns.specs.Extents.{Cut, Namespace, blocks_in, cut_out, cuts, place_in}
use Rattle.nv_ns.specs.Laws.{LiesInOne, NamesBlocks, places_of_cut}
use Rattle.nv_ns.proofs.Ranges.{in_namespace-true}
use Rattle.nv_ns.proofs.CutWalk.{cut_here, cuts-walk, here, one_cut, one_cut-none, one_cut-some, walk, walk-none}

-- ---- numbers in a row

range-append : (a m n : ℕ) → range_with_len a (m + n) ≡ range_with_len a m ++ range_with_len (a + m) n
range-append a zero n = grind (arith, common_steps)
range-append a (suc m) n =
    let sum : suc m + n ≡ suc (m + n) = omega arith in
    let on : a + 1 + m ≡ a + suc m = omega arith in
    ap (range_with_len a) sum ∙ ap (λ (xs : List ℕ). a ∷ xs)
    (range-append (a + 1) m n ∙ ap (λ (b : ℕ). range_with_len (a + 1) m ++ range_with_len b n) on)

-- one function over numbers in a row is another over others
map-range : (f g : ℕ → ℕ) (a b n : ℕ) → ((i : ℕ) → i < n → f (a + i) ≡ g (b + i))
    → map f (range_with_len a n) ≡ map g (range_with_len b n)
map-range f g a b zero same = refl
map-range f g a b (suc n) same =
    let a_on : a + 0 ≡ a = omega arith in
    let b_on : b + 0 ≡ b = omega arith in
    let head : f a ≡ g b = sym (ap f a_on) ∙ same 0 (omega arith) ∙ ap g b_on in
    let tail = map-range f g (a + 1) (b + 1) n (λ (i : ℕ) (below : i < n).
    (let left : a + 1 + i ≡ a + (i + 1) = omega arith in
    let right : b + 1 + i ≡ b + (i + 1) = omega arith in
    ap f left ∙ same (i + 1) (omega arith) ∙ sym (ap g right))) in
    cc

map-range-row : (f : ℕ → ℕ) (a b n : ℕ) → ((i : ℕ) → i < n → f (a + i) ≡ b + i) → map f (range_with_len a n) ≡ range_with_len b n
map-range-row f a b zero same = refl
map-range-row f a b (suc n) same =
    let a_on : a + 0 ≡ a = omega arith in
    let head : f a ≡ b = sym (ap f a_on) ∙ same 0 (omega arith) ∙ omega arith in
    let tail = map-range-row f (a + 1) (b + 1) n (λ (i : ℕ) (below : i < n).
    (let left : a + 1 + i ≡ a + (i + 1) = omega arith in
    let right : b + (i + 1) ≡ b + 1 + i = omega arith in
    ap f left ∙ same (i + 1) (omega arith) ∙ right)) in
    cc

-- ---- where a block lies

pub place_in-here : (extent : Extent) (rest : Namespace) (lba : ℕ) → lba < extent.blocks
    → place_in (extent ∷ rest) lba ≡ extent.base + lba
place_in-here extent rest lba below = grind (arith, common_steps)

pub place_in-beyond : (extent : Extent) (rest : Namespace) (lba : ℕ) → extent.blocks ≤ lba
    → place_in (extent ∷ rest) lba ≡ place_in rest (lba - extent.blocks)
place_in-beyond extent rest lba past = grind (arith, common_steps)

-- the blocks of an extent lie in a row behind those of the extents before it
pub place_in-row : (front : Namespace) (extent : Extent) (rest : Namespace) (i : ℕ) → i < extent.blocks
    → place_in (front ++ extent ∷ rest) (blocks_in front + i) ≡ extent.base + i
place_in-row [] extent rest i below =
    let same : 0 + i ≡ i = omega arith in ap (place_in (extent ∷ rest)) same ∙ place_in-here extent rest i below
place_in-row (first ∷ front) extent rest i below =
    let on : first.blocks + blocks_in front + i - first.blocks ≡ blocks_in front + i = omega arith in
    place_in-beyond first (front ++ extent ∷ rest) (first.blocks + blocks_in front + i) (omega arith)
    ∙ ap (place_in (front ++ extent ∷ rest)) on ∙ place_in-row front extent rest i below

-- ---- cuts

places_one_cut : (cut : Cut) → flat_map places_of_cut (one_cut cut) ≡ places_of_cut cut
places_one_cut cut =
    elim (cases_lt 0 cut.count) [
      | inl some ↦ (let one = one_cut-some cut some in grind (arith, common_steps))
      | inr none ↦
          (let zero_count : cut.count ≡ 0 = omega arith in
          ap (flat_map places_of_cut) (one_cut-none cut zero_count) ∙ sym (ap (range_with_len cut.start) zero_count))
    ]

-- the cuts spell the places of the blocks
pub walk-spells : (first : ℕ) (ns : Namespace) (skip left : ℕ) → skip + left ≤ blocks_in ns
    → flat_map places_of_cut (walk first ns skip left) ≡ map (place_in ns) (range_with_len skip left)
walk-spells first [] skip left within =
    let nothing : left ≡ 0 = omega arith in sym (ap (λ (n : ℕ). map (place_in []) (range_with_len skip n)) nothing)
walk-spells first (extent ∷ rest) skip left within =
    let now : ℕ = here extent skip left in
    let behind = walk (first + now) rest (skip - extent.blocks) (left - now) in
    let split = flat_map-append places_of_cut (one_cut (cut_here first extent skip left)) behind in
    let head = places_one_cut (cut_here first extent skip left) in
    let tail = walk-spells (first + now) rest (skip - extent.blocks) (left - now) (omega arith) in
    let sum : left ≡ now + (left - now) = omega arith in
    let numbers = ap (range_with_len skip) sum ∙ range-append skip now (left - now) in
    let both = ap (map (place_in (extent ∷ rest))) numbers
    ∙ map-append (place_in (extent ∷ rest)) (range_with_len skip now) (range_with_len (skip + now) (left - now)) in
    let front = map-range-row (place_in (extent ∷ rest)) skip (extent.base + skip) now (λ (i : ℕ) (below : i < now).
    (let inside : skip + i < extent.blocks = omega arith in
    place_in-here extent rest (skip + i) inside ∙ omega arith)) in
    let back = map-range (place_in (extent ∷ rest)) (place_in rest) (skip + now) (skip - extent.blocks) (left - now) (λ (i : ℕ) (below : i < left - now).
    (let past : extent.blocks ≤ skip + now + i = omega arith in
    let on : skip + now + i - extent.blocks ≡ skip - extent.blocks + i = omega arith in
    place_in-beyond extent rest (skip + now + i) past ∙ ap (place_in rest) on)) in
    cc

-- ---- each cut

All-one_cut : (P : Cut → Type 0) (cut : Cut) → (0 < cut.count → P cut) → All P (one_cut cut)
All-one_cut P cut holds =
    elim (cases_lt 0 cut.count) [
      | inl some ↦ (let one = one_cut-some cut some in subst (All P) (sym one) (All-cons P cut [] (holds some) (All-nil P)))
      | inr none ↦
          (let zero_count : cut.count ≡ 0 = omega arith in
          let nothing = one_cut-none cut zero_count in subst (All P) (sym nothing) (All-nil P))
    ]

-- none is empty
pub walk-some : (first : ℕ) (ns : Namespace) (skip left : ℕ) → All (λ (cut : Cut). 0 < cut.count) (walk first ns skip left)
walk-some first [] skip left = All-nil (λ (cut : Cut). 0 < cut.count)
walk-some first (extent ∷ rest) skip left =
    let now : ℕ = here extent skip left in
    All-append (λ (cut : Cut). 0 < cut.count) (one_cut (cut_here first extent skip left))
    (walk (first + now) rest (skip - extent.blocks) (left - now))
    (All-one_cut (λ (cut : Cut). 0 < cut.count) (cut_here first extent skip left) (λ some. some))
    (walk-some (first + now) rest (skip - extent.blocks) (left - now))

-- each lies in one of the extents
Contains-first : (extent : Extent) (rest : Namespace) → Contains (extent ∷ rest) extent
Contains-first extent rest = grind (arith, common_steps)

LiesInOne-more : (extent : Extent) (rest : Namespace) (cut : Cut) → LiesInOne rest cut → LiesInOne (extent ∷ rest) cut
LiesInOne-more extent rest cut lies =
    (lies.0, ((suc lies.1.0.0, omega arith, lies.1.0.2), lies.1.1, lies.1.2))

pub walk-lies : (first : ℕ) (ns : Namespace) (skip left : ℕ) → All (LiesInOne ns) (walk first ns skip left)
walk-lies first [] skip left = All-nil (LiesInOne [])
walk-lies first (extent ∷ rest) skip left =
    let now : ℕ = here extent skip left in
    All-append (LiesInOne (extent ∷ rest)) (one_cut (cut_here first extent skip left))
    (walk (first + now) rest (skip - extent.blocks) (left - now))
    (All-one_cut (LiesInOne (extent ∷ rest)) (cut_here first extent skip left)
    (λ some. (extent, (Contains-first extent rest, omega arith, omega arith))))
    (All-weaker (LiesInOne rest) (LiesInOne (extent ∷ rest)) (λ cut lies. LiesInOne-more extent rest cut lies)
    (walk (first + now) rest (skip - extent.blocks) (left - now))
    (walk-lies (first + now) rest (skip - extent.blocks) (left - now)))

-- there are no more cuts than extents
pub length-one_cut : (cut : Cut) → length (one_cut cut) ≤ 1
length-one_cut cut = grind (arith, common_steps)

pub walk-few : (first : ℕ) (ns : Namespace) (skip left : ℕ) → length (walk first ns skip left) ≤ length ns
walk-few first [] skip left = omega arith
walk-few first (extent ∷ rest) skip left =
    let now : ℕ = here extent skip left in
    let one = length-one_cut (cut_here first extent skip left) in
    let more = walk-few (first + now) rest (skip - extent.blocks) (left - now) in
    let both = length-append (one_cut (cut_here first extent skip left)) (walk (first + now) rest (skip - extent.blocks) (left - now)) in
    omega arith

-- their numbers of blocks are all blocks
sum-one_cut : (cut : Cut) → sum_by (λ (c : Cut). c.count) (one_cut cut) ≡ cut.count
sum-one_cut cut = grind (arith, common_steps)

pub walk-sums : (first : ℕ) (ns : Namespace) (skip left : ℕ) → skip + left ≤ blocks_in ns
    → sum_by (λ (c : Cut). c.count) (walk first ns skip left) ≡ left
walk-sums first [] skip left within = omega arith
walk-sums first (extent ∷ rest) skip left within =
    let now : ℕ = here extent skip left in
    let one = sum-one_cut (cut_here first extent skip left) in
    let more = walk-sums (first + now) rest (skip - extent.blocks) (left - now) (omega arith) in
    let both = sum_by-append (λ (c : Cut). c.count) (one_cut (cut_here first extent skip left)) (walk (first + now) rest (skip - extent.blocks) (left - now)) in
    omega arith

-- each begins as many blocks behind the first as the cuts before it have
firsts-none : (first i : ℕ) (cut : Cut) → slice_get {X = Cut} [] i ≡ Some cut → cut.first ≡ first + sum_by (λ (c : Cut). c.count) (take i [])
firsts-none first zero cut is = absurd (cc)
firsts-none first (suc i) cut is = absurd (cc)

firsts-cons : (first i : ℕ) (head : Cut) (rest : List Cut) (cut : Cut) → head.first ≡ first
    → ((k : ℕ) (c : Cut) → slice_get rest k ≡ Some c → c.first ≡ first + head.count + sum_by (λ (d : Cut). d.count) (take k rest))
    → slice_get (head ∷ rest) i ≡ Some cut
    → cut.first ≡ first + sum_by (λ (d : Cut). d.count) (take i (head ∷ rest))
firsts-cons first zero head rest cut begins behind is =
    let same : head ≡ cut = cc in
    let firsts = ap (λ (c : Cut). c.first) same in omega arith
firsts-cons first (suc i) head rest cut begins behind is =
    let on = behind i cut is in
    let sum = sum_by-cons (λ (d : Cut). d.count) head (take i rest) in omega arith

firsts-one_cut : (first i : ℕ) (head : Cut) (rest : List Cut) (cut : Cut) → head.first ≡ first
    → ((k : ℕ) (c : Cut) → slice_get rest k ≡ Some c → c.first ≡ first + head.count + sum_by (λ (d : Cut). d.count) (take k rest))
    → slice_get (one_cut head ++ rest) i ≡ Some cut
    → cut.first ≡ first + sum_by (λ (d : Cut). d.count) (take i (one_cut head ++ rest))
firsts-one_cut first i head rest cut begins behind is =
    elim (cases_lt 0 head.count) [
      | inl some ↦
          (let one = one_cut-some head some in
          let got : slice_get (head ∷ rest) i ≡ Some cut = sym (ap (λ (xs : List Cut). slice_get (xs ++ rest) i) one) ∙ is in
          let sum = ap (λ (xs : List Cut). sum_by (λ (d : Cut). d.count) (take i (xs ++ rest))) one in
          let on = firsts-cons first i head rest cut begins behind got in omega arith)
      | inr none ↦
          (let zero_count : head.count ≡ 0 = omega arith in
          let nothing = one_cut-none head zero_count in
          let got : slice_get rest i ≡ Some cut = sym (ap (λ (xs : List Cut). slice_get (xs ++ rest) i) nothing) ∙ is in
          let sum = ap (λ (xs : List Cut). sum_by (λ (d : Cut). d.count) (take i (xs ++ rest))) nothing in
          let on = behind i cut got in omega arith)
    ]

pub walk-firsts : (first : ℕ) (ns : Namespace) (skip left i : ℕ) (cut : Cut) → slice_get (walk first ns skip left) i ≡ Some cut
    → cut.first ≡ first + sum_by (λ (c : Cut). c.count) (take i (walk first ns skip left))
walk-firsts first [] skip left i cut is = firsts-none first i cut is
walk-firsts first (extent ∷ rest) skip left i cut is =
    firsts-one_cut first i (cut_here first extent skip left)
    (walk (first + here extent skip left) rest (skip - extent.blocks) (left - here extent skip left)) cut refl
    (λ k c got. walk-firsts (first + here extent skip left) rest (skip - extent.blocks) (left - here extent skip left) k c got) is

-- each names blocks of the run where they lie
abbrev NamesFrom : (first : ℕ) → Namespace → (skip left : ℕ) → Cut → Type 0
NamesFrom first ns skip left cut =
    (first ≤ cut.first) × (cut.first + cut.count ≤ first + left)
    × ((i : ℕ) → i < cut.count → place_in ns (skip + (cut.first - first + i)) ≡ cut.start + i)

NamesFrom-more : (first : ℕ) (extent : Extent) (rest : Namespace) (skip left : ℕ) (cut : Cut)
    → NamesFrom (first + here extent skip left) rest (skip - extent.blocks) (left - here extent skip left) cut
    → NamesFrom first (extent ∷ rest) skip left cut
NamesFrom-more first extent rest skip left cut names =
    let low = names.0 in
    let high = names.1 in (
      omega arith,
      omega arith,
      λ (i : ℕ) (below : i < cut.count).
          (let past : extent.blocks ≤ skip + (cut.first - first + i) = omega arith in
          let on : skip + (cut.first - first + i) - extent.blocks
          ≡ skip - extent.blocks + (cut.first - (first + here extent skip left) + i) = omega arith in
          place_in-beyond extent rest (skip + (cut.first - first + i)) past ∙ ap (place_in rest) on ∙ names.2 i below),
    )

NamesFrom-here : (first : ℕ) (extent : Extent) (rest : Namespace) (skip left : ℕ)
    → NamesFrom first (extent ∷ rest) skip left (cut_here first extent skip left)
NamesFrom-here first extent rest skip left = (
  omega arith,
  omega arith,
  λ (i : ℕ) (below : i < here extent skip left).
      (let inside : skip + (first - first + i) < extent.blocks = omega arith in
      place_in-here extent rest (skip + (first - first + i)) inside ∙ omega arith),
)

walk-names_from : (first : ℕ) (ns : Namespace) (skip left : ℕ) → All (NamesFrom first ns skip left) (walk first ns skip left)
walk-names_from first [] skip left = All-nil (NamesFrom first [] skip left)
walk-names_from first (extent ∷ rest) skip left =
    let now : ℕ = here extent skip left in
    All-append (NamesFrom first (extent ∷ rest) skip left) (one_cut (cut_here first extent skip left))
    (walk (first + now) rest (skip - extent.blocks) (left - now))
    (All-one_cut (NamesFrom first (extent ∷ rest) skip left) (cut_here first extent skip left)
    (λ some. NamesFrom-here first extent rest skip left))
    (All-weaker (NamesFrom (first + now) rest (skip - extent.blocks) (left - now)) (NamesFrom first (extent ∷ rest) skip left)
    (λ cut names. NamesFrom-more first extent rest skip left cut names)
    (walk (first + now) rest (skip - extent.blocks) (left - now))
    (walk-names_from (first + now) rest (skip - extent.blocks) (left - now)))

NamesBlocks-from : (ns : Namespace) (slba count : ℕ) (cut : Cut) → NamesFrom 0 ns slba count cut → NamesBlocks ns slba count cut
NamesBlocks-from ns slba count cut names =
    let high = names.1 in (
      omega arith,
      λ (i : ℕ) (below : i < cut.count).
          (let on : slba + (cut.first + i) ≡ slba + (cut.first - 0 + i) = omega arith in
          ap (place_in ns) on ∙ names.2 i below),
    )

pub walk-names : (ns : Namespace) (slba count : ℕ) → All (NamesBlocks ns slba count) (walk 0 ns slba count)
walk-names ns slba count =
    All-weaker (NamesFrom 0 ns slba count) (NamesBlocks ns slba count) (λ cut names. NamesBlocks-from ns slba count cut names)
    (walk 0 ns slba count) (walk-names_from 0 ns slba count)

-- each cut of a run of blocks does so, and has some
pub cuts-name : (ns : Namespace) (slba count : ℕ) → All (NamesBlocks ns slba count) (cuts ns slba count)
cuts-name ns slba count = subst (All (NamesBlocks ns slba count)) (sym (cuts-walk ns slba count)) (walk-names ns slba count)

pub cuts-some : (ns : Namespace) (slba count : ℕ) → All (λ (cut : Cut). 0 < cut.count) (cuts ns slba count)
cuts-some ns slba count = subst (All (λ (cut : Cut). 0 < cut.count)) (sym (cuts-walk ns slba count)) (walk-some 0 ns slba count)

-- blocks that lie in the first extent are one cut
pub walk-first : (extent : Extent) (rest : Namespace) (slba count : ℕ) → 0 < count → slba + count ≤ extent.blocks
    → walk 0 (extent ∷ rest) slba count ≡ record { first = 0; start = extent.base + slba; count = count } ∷ []
walk-first extent rest slba count some within =
    let all : here extent slba count ≡ count = omega arith in
    let none : count - here extent slba count ≡ 0 = omega arith in
    let one = one_cut-some (cut_here 0 extent slba count) (omega arith) in
    let nothing = ap (walk (0 + here extent slba count) rest (slba - extent.blocks)) none
    ∙ walk-none (0 + here extent slba count) rest (slba - extent.blocks) in
    cc

cut_out-in_first : (extent : Extent) (rest : Namespace) (slba count : ℕ) → 0 < count → count ≤ extent.blocks → slba ≤ extent.blocks - count
    → cut_out (extent ∷ rest) slba count ≡ Some (record { first = 0; start = extent.base + slba; count = count } ∷ [])
cut_out-in_first extent rest slba count some fits within =
    let inside = in_namespace-true slba count (blocks_in (extent ∷ rest)) (omega arith, omega arith) in
    let one = cuts-walk (extent ∷ rest) slba count ∙ walk-first extent rest slba count some (omega arith) in
    ap (λ (b : Bool). if b then Some (cuts (extent ∷ rest) slba count) else None) inside ∙ ap Some one

-- so they are what is cut out there
pub cut_out-first : (ns : Namespace) (extent : Extent) (rest : Namespace) (slba count : ℕ) → ns ≡ extent ∷ rest → 0 < count
    → count ≤ extent.blocks → slba ≤ extent.blocks - count
    → cut_out ns slba count ≡ Some (record { first = 0; start = extent.base + slba; count = count } ∷ [])
cut_out-first ns extent rest slba count is some fits within =
    ap (λ (xs : Namespace). cut_out xs slba count) is ∙ cut_out-in_first extent rest slba count some fits within

pub cuts-first : (ns : Namespace) (extent : Extent) (rest : Namespace) (slba count : ℕ) → ns ≡ extent ∷ rest → 0 < count
    → count ≤ extent.blocks → slba ≤ extent.blocks - count
    → cuts ns slba count ≡ record { first = 0; start = extent.base + slba; count = count } ∷ []
cuts-first ns extent rest slba count is some fits within =
    ap (λ (xs : Namespace). cuts xs slba count) is ∙ cuts-walk (extent ∷ rest) slba count
    ∙ walk-first extent rest slba count some (omega arith)
