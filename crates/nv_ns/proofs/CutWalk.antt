-- The cuts of a run of blocks, met by a walk over the extents that passes over `skip` blocks and then takes `left`.
use Rattle.std.proofs.Common.{◌≡◌, ℕ, ◌+◌, ◌-◌, ◌<◌, ◌≤◌, min, max, nat_lt, if◌then◌else◌, List, [], ◌∷◌, ◌++◌, length, drop}
use Rattle.std.proofs.Common.{append-nil, append_assoc, length-append, Option, Some, None, refl, ap, sym, ◌∙◌, inl, inr, arith}
use Rattle.std.specs.List.{filter_map}
use Rattle.std.specs.List.{cons_option}
use Rattle.std.specs.Option.{option_to_list}
use Rattle.std.proofs.lemmas.Bool.{cases_lt}
use Rattle.std.proofs.lemmas.Grind.{common_steps}
use Rattle.std.proofs.lemmas.List.{drop_all}
use Rattle.nv_ns.specs.BlockRange.{Extent}
use Rattle.nv_ns.specs.Extents.{Cut, Namespace, Placed, blocks_in, common, cuts, if_any, placed}

-- how many of the blocks that are left lie in an extent behind those passed over
abbrev pub here : Extent → (skip left : ℕ) → ℕ
here extent skip left = min left (extent.blocks - skip)

-- the cut of them
abbrev pub cut_here : (first : ℕ) → Extent → (skip left : ℕ) → Cut
cut_here first extent skip left = record { first = first; start = extent.base + skip; count = here extent skip left }

-- a cut, if it has blocks
abbrev pub one_cut : Cut → List Cut
one_cut cut = if nat_lt 0 cut.count then cut ∷ [] else []

abbrev pub walk : (first : ℕ) → Namespace → (skip left : ℕ) → List Cut
walk first [] skip left = []
walk first (extent ∷ rest) skip left =
    one_cut (cut_here first extent skip left)
    ++ walk (first + here extent skip left) rest (skip - extent.blocks) (left - here extent skip left)

pub one_cut-some : (cut : Cut) → 0 < cut.count → one_cut cut ≡ cut ∷ []
one_cut-some cut some = grind (arith, common_steps)

pub one_cut-none : (cut : Cut) → cut.count ≡ 0 → one_cut cut ≡ []
one_cut-none cut none = grind (arith, common_steps)

-- two cuts of as many blocks, which begin alike where they have any
same_cut : (first other start place count number : ℕ) → count ≡ number → (0 < number → first ≡ other) → (0 < number → start ≡ place)
    → one_cut (record { first = first; start = start; count = count }) ≡ one_cut (record { first = other; start = place; count = number })
same_cut first other start place count number counts firsts starts =
    elim (cases_lt 0 number) [
      | inl some ↦
          (let f = firsts some in
          let s = starts some in cc)
      | inr none ↦
          (let zero_count : count ≡ 0 = omega arith in
          let zero_number : number ≡ 0 = omega arith in
          one_cut-none (record { first = first; start = start; count = count }) zero_count
          ∙ sym (one_cut-none (record { first = other; start = place; count = number }) zero_number))
    ]

-- no blocks, no cuts
pub walk-none : (first : ℕ) (ns : Namespace) (skip : ℕ) → walk first ns skip 0 ≡ []
walk-none first [] skip = refl
walk-none first (extent ∷ rest) skip =
    let zero_here : here extent skip 0 ≡ 0 = omega arith in
    let nothing = one_cut-none (cut_here first extent skip 0) zero_here in
    let behind : walk (first + here extent skip 0) rest (skip - extent.blocks) (0 - here extent skip 0) ≡ [] =
    (let zero_left : 0 - here extent skip 0 ≡ 0 = omega arith in
    ap (walk (first + here extent skip 0) rest (skip - extent.blocks)) zero_left
    ∙ walk-none (first + here extent skip 0) rest (skip - extent.blocks)) in
    cc

-- a cut in front of others, if it has blocks
cons-one_cut : (cut : Cut) (rest : List Cut) → cons_option (if_any cut) rest ≡ one_cut cut ++ rest
cons-one_cut cut rest = grind (arith, common_steps)

-- the cuts with extents that lie behind `before` blocks of the namespace
abbrev pub cuts_behind : (before : ℕ) → Namespace → (slba count : ℕ) → List Cut
cuts_behind before ns slba count = filter_map (λ (at : Placed). if_any (common at slba count)) (placed before ns)

-- they are met by the walk
pub cuts_behind-walk : (before : ℕ) (ns : Namespace) (slba count first skip left : ℕ)
    → skip ≡ slba - before → left ≡ count - (before - slba) → (0 < left → first ≡ before - slba)
    → cuts_behind before ns slba count ≡ walk first ns skip left
cuts_behind-walk before [] slba count first skip left skips lefts firsts = refl
cuts_behind-walk before (extent ∷ rest) slba count first skip left skips lefts firsts =
    let counts : min (slba + count) (before + extent.blocks) - max slba before ≡ here extent skip left = omega arith in
    let head = same_cut (before - slba) first (extent.base + (slba - before)) (extent.base + skip)
    (min (slba + count) (before + extent.blocks) - max slba before) (here extent skip left) counts
    (λ (some : 0 < here extent skip left). let f = firsts (omega arith) in sym f) (λ (some : 0 < here extent skip left). omega arith) in
    let tail = cuts_behind-walk (before + extent.blocks) rest slba count (first + here extent skip left) (skip - extent.blocks)
    (left - here extent skip left) (omega arith) (omega arith)
    (λ (some : 0 < left - here extent skip left). let f = firsts (omega arith) in omega arith) in
    let front = cons-one_cut (common (record { before = before; extent = extent }) slba count) (cuts_behind (before + extent.blocks) rest slba count) in
    cc

pub cuts-walk : (ns : Namespace) (slba count : ℕ) → cuts ns slba count ≡ walk 0 ns slba count
cuts-walk ns slba count =
    cuts_behind-walk 0 ns slba count 0 slba count (omega arith) (omega arith) (λ (some : 0 < count). omega arith)

-- ---- in a loop over the extents

-- the parts so far, and those still to come, are the cuts of the run
pub record AreMet (ns : Namespace) (slba count at before : ℕ) (parts : List Cut) : Type 0 where
  pub few : length parts ≤ at
  pub blocks : before + blocks_in (drop at ns) ≡ blocks_in ns
  pub rest : parts ++ cuts_behind before (drop at ns) slba count ≡ cuts ns slba count

pub AreMet-start : (ns : Namespace) (slba count : ℕ) → AreMet ns slba count 0 0 []
AreMet-start ns slba count = record { few = omega arith; blocks = omega arith; rest = refl }

cons_option-list : (cut : Option Cut) (rest : List Cut) → cons_option cut rest ≡ option_to_list cut ++ rest
cons_option-list None rest = refl
cons_option-list (Some cut) rest = refl

length-option_to_list : (cut : Option Cut) → length (option_to_list cut) ≤ 1
length-option_to_list None = omega arith
length-option_to_list (Some cut) = omega arith

-- one extent more, which is met or not
pub AreMet-next : (ns : Namespace) (slba count at before : ℕ) (parts others : List Cut) (extent : Extent)
    → AreMet ns slba count at before parts → drop at ns ≡ extent ∷ drop (at + 1) ns
    → others ≡ parts ++ option_to_list (if_any (common (record { before = before; extent = extent }) slba count))
    → AreMet ns slba count (at + 1) (before + extent.blocks) others
AreMet-next ns slba count at before parts others extent met next same =
    let few = met.few in
    let blocks = met.blocks in
    let cut : Option Cut = if_any (common (record { before = before; extent = extent }) slba count) in
    let one = length-option_to_list cut in
    let size = ap length same ∙ length-append parts (option_to_list cut) in
    let all = ap blocks_in next in
    let behind : List Cut = cuts_behind (before + extent.blocks) (drop (at + 1) ns) slba count in
    record {
      few = omega arith;
      blocks = omega arith;
      rest = ap (λ (xs : List Cut). xs ++ behind) same ∙ append_assoc parts (option_to_list cut) behind
          ∙ sym (ap (λ (xs : List Cut). parts ++ xs) (cons_option-list cut behind))
          ∙ sym (ap (λ (xs : Namespace). parts ++ cuts_behind before xs slba count) next) ∙ met.rest;
    }

pub AreMet-end : (ns : Namespace) (slba count at before : ℕ) (parts : List Cut) → AreMet ns slba count at before parts
    → length ns ≤ at → parts ≡ cuts ns slba count
AreMet-end ns slba count at before parts met ended =
    let gone = drop_all at ns ended in
    sym (append-nil parts) ∙ sym (ap (λ (xs : Namespace). parts ++ cuts_behind before xs slba count) gone) ∙ met.rest
