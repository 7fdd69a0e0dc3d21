-- The numbers of all shares' units are those of the whole, each as often.
use Rattle.std.proofs.Common.{◌≡◌, ℕ, zero, suc, ◌+◌, ◌-◌, ◌≤◌, eqb, cond, List, [], ◌∷◌, ◌++◌, sum_by, count_by, Option, Some, None, refl, ap}
use Rattle.std.proofs.Common.{sym, ◌∙◌, inl, inr, arith}
use Rattle.std.specs.List.{cons_option, filter_map, flat_map, range_with_len}
use Rattle.std.proofs.lemmas.Bool.{cases_lt}
use Rattle.std.proofs.lemmas.Grind.{common_steps}
use Rattle.std.proofs.lemmas.List.Concat.{flat_map-append}
use Rattle.std.proofs.lemmas.List.Sums.{sum_by-append, sum_by-cons}
use Rattle.nv_entry.specs.Range.{blocks_of, start_of}
use Rattle.nv_ns.specs.BlockRange.{InNamespace}
use Rattle.nv_ns.specs.Extents.{Cut, Namespace, Placed, blocks_in, common, cuts, if_any, placed}
use Rattle.nv_ns.proofs.CutWalk.{cut_here, cuts-walk, here, one_cut, one_cut-none, one_cut-some, walk}
use Rattle.nv_world_model.specs.Share.{numbers_met}

-- ---- numbers in a row

pub range-append : (a m n : ℕ) → range_with_len a (m + n) ≡ range_with_len a m ++ range_with_len (a + m) n
range-append a zero n = grind (arith, common_steps)
range-append a (suc m) n =
    let sum : suc m + n ≡ suc (m + n) = omega arith in
    let on : a + 1 + m ≡ a + suc m = omega arith in
    ap (range_with_len a) sum ∙ ap (λ (xs : List ℕ). a ∷ xs)
    (range-append (a + 1) m n ∙ ap (λ (b : ℕ). range_with_len (a + 1) m ++ range_with_len b n) on)

-- the numbers that a cut's blocks have where the run's are numbered from `from` on
abbrev pub cut_numbers : (from : ℕ) → Cut → List ℕ
cut_numbers from cut = range_with_len (from + cut.first) cut.count

cut_numbers-one_cut : (from : ℕ) (cut : Cut) → flat_map (cut_numbers from) (one_cut cut) ≡ cut_numbers from cut
cut_numbers-one_cut from cut =
    elim (cases_lt 0 cut.count) [
      | inl some ↦ (let one = one_cut-some cut some in grind (arith, common_steps))
      | inr none ↦
          (let zero_count : cut.count ≡ 0 = omega arith in
          ap (flat_map (cut_numbers from)) (one_cut-none cut zero_count) ∙ sym (ap (range_with_len (from + cut.first)) zero_count))
    ]

walk-numbers : (from first : ℕ) (ns : Namespace) (skip left : ℕ) → skip + left ≤ blocks_in ns
    → flat_map (cut_numbers from) (walk first ns skip left) ≡ range_with_len (from + first) left
walk-numbers from first [] skip left within =
    let nothing : 0 ≡ left = omega arith in ap (range_with_len (from + first)) nothing
walk-numbers from first (extent ∷ rest) skip left within =
    let now : ℕ = here extent skip left in
    let behind = walk (first + now) rest (skip - extent.blocks) (left - now) in
    let split = flat_map-append (cut_numbers from) (one_cut (cut_here first extent skip left)) behind in
    let head = cut_numbers-one_cut from (cut_here first extent skip left) in
    let tail = walk-numbers from (first + now) rest (skip - extent.blocks) (left - now) (omega arith) in
    let sum : now + (left - now) ≡ left = omega arith in
    let on : from + (first + now) ≡ from + first + now = omega arith in
    let front = ap (λ (a : ℕ). range_with_len a (left - now)) on in
    let whole = sym (range-append (from + first) now (left - now)) ∙ ap (range_with_len (from + first)) sum in
    cc

-- all cuts of a run number its blocks in order
pub cuts-numbers : (from : ℕ) (ns : Namespace) (slba count : ℕ) → InNamespace slba count (blocks_in ns)
    → flat_map (cut_numbers from) (cuts ns slba count) ≡ range_with_len from count
cuts-numbers from ns slba count within =
    let none : from + 0 ≡ from = omega arith in
    ap (flat_map (cut_numbers from)) (cuts-walk ns slba count) ∙ walk-numbers from 0 ns slba count (omega arith)
    ∙ ap (λ (a : ℕ). range_with_len a count) none

-- an extent that has none of the blocks adds none
numbers-if_any : (from : ℕ) (cut : Cut) (rest : List Cut)
    → flat_map (cut_numbers from) (cons_option (if_any cut) rest) ≡ cut_numbers from cut ++ flat_map (cut_numbers from) rest
numbers-if_any from cut rest =
    elim (cases_lt 0 cut.count) [
      | inl some ↦
          (let one : if_any cut ≡ Some cut = grind (arith, common_steps) in
          ap (λ (o : Option Cut). flat_map (cut_numbers from) (cons_option o rest)) one)
      | inr none ↦
          (let zero_count : cut.count ≡ 0 = omega arith in
          let nothing : if_any cut ≡ None = grind (arith, common_steps) in
          ap (λ (o : Option Cut). flat_map (cut_numbers from) (cons_option o rest)) nothing
          ∙ sym (ap (λ (n : ℕ). range_with_len (from + cut.first) n ++ flat_map (cut_numbers from) rest) zero_count))
    ]

placed-numbers : (from before : ℕ) (ns : Namespace) (slba count : ℕ)
    → flat_map (λ (at : Placed). cut_numbers from (common at slba count)) (placed before ns)
    ≡ flat_map (cut_numbers from) (filter_map (λ (at : Placed). if_any (common at slba count)) (placed before ns))
placed-numbers from before [] slba count = refl
placed-numbers from before (extent ∷ rest) slba count =
    let at : Placed = record { before = before; extent = extent } in
    ap (λ (xs : List ℕ). cut_numbers from (common at slba count) ++ xs) (placed-numbers from (before + extent.blocks) rest slba count)
    ∙ sym (numbers-if_any from (common at slba count)
    (filter_map (λ (p : Placed). if_any (common p slba count)) (placed (before + extent.blocks) rest)))

pub extents-numbers : (from : ℕ) (ns : Namespace) (slba count : ℕ) → InNamespace slba count (blocks_in ns)
    → flat_map (λ (at : Placed). cut_numbers from (common at slba count)) (placed 0 ns) ≡ range_with_len from count
extents-numbers from ns slba count within = placed-numbers from 0 ns slba count ∙ cuts-numbers from ns slba count within

-- ---- counted

-- how often a number is there
abbrev pub times : (k : ℕ) → List ℕ → ℕ
times k numbers = count_by (λ n. eqb n k) numbers

times-append : (k : ℕ) (xs ys : List ℕ) → times k (xs ++ ys) ≡ times k xs + times k ys
times-append k xs ys = sum_by-append (λ n. cond (eqb n k) 1 0) xs ys

times-split : {A : Type 0} (k : ℕ) (f g : A → List ℕ) (xs : List A)
    → times k (flat_map (λ x. f x ++ g x) xs) ≡ times k (flat_map f xs) + times k (flat_map g xs)
times-split k f g [] = refl
times-split {A = A} k f g (x ∷ xs) =
    let both = times-append k (f x ++ g x) (flat_map (λ y. f y ++ g y) xs) in
    let own = times-append k (f x) (g x) in
    let left = times-append k (f x) (flat_map f xs) in
    let right = times-append k (g x) (flat_map g xs) in
    let on = times-split k f g xs in
    omega arith

no_numbers : {A : Type 0} (xs : List A) → flat_map {X = A} {A = ℕ} (λ x. []) xs ≡ []
no_numbers [] = refl
no_numbers (x ∷ xs) = no_numbers xs

-- the blocks of ranges together
abbrev pub all_blocks : List (List ℕ) → ℕ
all_blocks ranges = sum_by blocks_of ranges

-- ranges that lie in the namespace
abbrev pub AreWithin : Namespace → List (List ℕ) → Type 0
AreWithin ns [] = Unit {0}
AreWithin ns (range ∷ rest) = InNamespace (start_of range) (blocks_of range) (blocks_in ns) × AreWithin ns rest

pub ranges-times : (k from : ℕ) (ns : Namespace) (ranges : List (List ℕ)) → AreWithin ns ranges
    → times k (flat_map (λ (at : Placed). numbers_met from at ranges) (placed 0 ns)) ≡ times k (range_with_len from (all_blocks ranges))
ranges-times k from ns [] within = ap (times k) (no_numbers (placed 0 ns))
ranges-times k from ns (range ∷ rest) within =
    let own : Placed → List ℕ = λ at. cut_numbers from (common at (start_of range) (blocks_of range)) in
    let others : Placed → List ℕ = λ at. numbers_met (from + blocks_of range) at rest in
    let split = times-split k own others (placed 0 ns) in
    let first = extents-numbers from ns (start_of range) (blocks_of range) within.0 in
    let behind = ranges-times k (from + blocks_of range) ns rest within.1 in
    let sum = sum_by-cons blocks_of range rest in
    let all = ap (range_with_len from) sum ∙ range-append from (blocks_of range) (all_blocks rest) in
    let counted = ap (times k) all ∙ times-append k (range_with_len from (blocks_of range)) (range_with_len (from + blocks_of range) (all_blocks rest)) in
    let front = ap (times k) first in
    split ∙ (let total : times k (flat_map own (placed 0 ns)) + times k (flat_map others (placed 0 ns))
    ≡ times k (range_with_len from (all_blocks (range ∷ rest))) = omega arith in total)
