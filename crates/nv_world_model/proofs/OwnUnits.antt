-- The units of a share of Dataset Management are those of its own ranges.
use Rattle.std.proofs.Common.{◌≡◌, ℕ, zero, suc, ◌+◌, ◌*◌, ◌^◌, ◌<◌, ◌≤◌, eqb, cond, Bool, true, false, ◌&&◌, List, [], ◌∷◌, ◌++◌, map, length}
use Rattle.std.proofs.Common.{append-nil, append_assoc, length-append, Option, Some, None, refl, ap, sym, ◌∙◌, inl, inr, subst, arith, eq-eqb}
use Rattle.std.specs.List.{All, cons_option, enumerate_from, flat_map, list_all, range_with_len, slice_get}
use Rattle.std.specs.Option.{option_map, option_to_list}
use Rattle.std.proofs.lemmas.Bool.{cases_eq, cases_lt}
use Rattle.std.proofs.lemmas.List.Elements.{All-cons, All-head, All-nil, All-tail, filter_map-append}
use Rattle.std.proofs.lemmas.List.FromFn.{length-map-range_with_len}
use Rattle.nv_entry.specs.Range.{blocks_of, start_of}
use Rattle.nv_mem.specs.declared.region.Region.{Region}
use Rattle.nv_ns.specs.Extents.{Cut, Namespace, Placed, common, if_any, placed}
use Rattle.nv_ns.proofs.Ranges.{InNamespace-tested}
use Rattle.nv_model.specs.Judge.{ClearBlock, Form, Go, LeaveBlock, Manage, Work, WorkUnit, clear_units, form_of, one_range_units}
use Rattle.nv_model.specs.Judge.{range_fits, range_units}
use Rattle.nv_model.specs.Limits.{range_size}
use Rattle.nv_world_model.specs.Plan.{Bounced, go_plan, plan_of}
use Rattle.nv_world_model.specs.Share.{cut_pieces, cut_range, numbers_met, range_in, range_share, ranges_met, shares_by}
use Rattle.nv_world_model.specs.Share.{shares_of, unit_behind, units_at}
use Rattle.nv_world_model.specs.SharesLaws.{FitsFields, HasItsUnits}
use Rattle.nv_world_model.proofs.RangeCuts.{cut-blocks, cut-start, no_cut, not_zero, some_cut}
use Rattle.nv_world_model.proofs.ShareUnits.{unit_behind-none}

-- ---- units of a range

-- the unit of a block
abbrev range_unit : (deallocate : Bool) → ℕ → WorkUnit
range_unit true = λ lba. ClearBlock lba false
range_unit false = λ lba. LeaveBlock lba

-- those of a row of blocks
abbrev row_units : (deallocate : Bool) → (start count : ℕ) → List WorkUnit
row_units deallocate start count = map (range_unit deallocate) (range_with_len start count)

range-row : (deallocate : Bool) (range : List ℕ) → one_range_units deallocate range ≡ row_units deallocate (start_of range) (blocks_of range)
unfolding clear_units
range-row true range = refl
range-row false range = refl

row-get : (f : ℕ → WorkUnit) (start count i : ℕ) → i < count → slice_get (map f (range_with_len start count)) i ≡ Some (f (start + i))
row-get f start zero i below = absurd (omega arith)
row-get f start (suc count) zero below = let here : start ≡ start + zero = omega arith in ap (λ (n : ℕ). Some (f n)) here
row-get f start (suc count) (suc i) below =
    let on : start + 1 + i ≡ start + suc i = omega arith in
    row-get f (start + 1) count i (omega arith) ∙ ap (λ (n : ℕ). Some (f n)) on

get-behind : (front units : List WorkUnit) (i : ℕ) → slice_get (front ++ units) (length front + i) ≡ slice_get units i
get-behind [] units i = let same : 0 + i ≡ i = omega arith in ap (slice_get units) same
get-behind (unit ∷ front) units i =
    let same : length (unit ∷ front) + i ≡ suc (length front + i) = omega arith in
    ap (slice_get (unit ∷ (front ++ units))) same ∙ get-behind front units i

get-before : (units back : List WorkUnit) (i : ℕ) (unit : WorkUnit) → slice_get units i ≡ Some unit → slice_get (units ++ back) i ≡ Some unit
get-before [] back i unit is = absurd (cc)
get-before (first ∷ rest) back zero unit is = is
get-before (first ∷ rest) back (suc i) unit is = get-before rest back i unit is

-- a row of numbers picks what stands there
picked : (units : List WorkUnit) (f : ℕ → WorkUnit) (at start count : ℕ)
    → ((i : ℕ) → i < count → slice_get units (at + i) ≡ Some (f (start + i)))
    → units_at 0 units (range_with_len at count) ≡ map f (range_with_len start count)
picked units f at start zero each = refl
picked units f at start (suc count) each =
    let here : at + 0 ≡ at = omega arith in
    let first : start + 0 ≡ start = omega arith in
    let got = sym (ap (slice_get units) here) ∙ each 0 (omega arith) ∙ ap (λ (n : ℕ). Some (f n)) first in
    let on = picked units f (at + 1) (start + 1) count (λ i below.
    (let next : at + suc i ≡ at + 1 + i = omega arith in
    let after : start + suc i ≡ start + 1 + i = omega arith in
    sym (ap (slice_get units) next) ∙ each (suc i) (omega arith) ∙ ap (λ (n : ℕ). Some (f n)) after)) in
    ap (λ (o : Option WorkUnit). cons_option (option_map (unit_behind 0) o) (units_at 0 units (range_with_len (at + 1) count))) got
    ∙ ap (λ (u : WorkUnit). u ∷ units_at 0 units (range_with_len (at + 1) count)) (unit_behind-none (f start))
    ∙ ap (λ (us : List WorkUnit). f start ∷ us) on

-- a part of a row that stands between others
row-picked : (deallocate : Bool) (front back : List WorkUnit) (start blocks first count : ℕ) → first + count ≤ blocks
    → units_at 0 (front ++ (row_units deallocate start blocks ++ back)) (range_with_len (length front + first) count)
    ≡ row_units deallocate (start + first) count
row-picked deallocate front back start blocks first count within =
    picked (front ++ (row_units deallocate start blocks ++ back)) (range_unit deallocate) (length front + first) (start + first) count (λ i below.
    (let at : length front + first + i ≡ length front + (first + i) = omega arith in
    let lba : start + (first + i) ≡ start + first + i = omega arith in
    ap (slice_get (front ++ (row_units deallocate start blocks ++ back))) at
    ∙ get-behind front (row_units deallocate start blocks ++ back) (first + i)
    ∙ get-before (row_units deallocate start blocks) back (first + i) (range_unit deallocate (start + (first + i)))
    (row-get (range_unit deallocate) start blocks (first + i) (omega arith))
    ∙ ap (λ (n : ℕ). Some (range_unit deallocate n)) lba))

-- ---- one range

-- the units of a range that is there, or of none
abbrev units_of : (deallocate : Bool) → Option (List ℕ) → List WorkUnit
units_of deallocate range = range_units deallocate (option_to_list range)

units_of-some : (deallocate : Bool) (range : List ℕ) → units_of deallocate (Some range) ≡ row_units deallocate (start_of range) (blocks_of range)
unfolding range_units
units_of-some deallocate range = append-nil (one_range_units deallocate range) ∙ range-row deallocate range

units_of-none : (deallocate : Bool) → units_of deallocate None ≡ []
unfolding range_units
units_of-none deallocate = refl

-- what an extent has of it, where it has blocks
range_in-some : (deallocate : Bool) (number : ℕ) (at : Placed) (range : List ℕ) (cut : Cut) → FitsFields range → 0 < blocks_of range
    → common at (start_of range) (blocks_of range) ≡ cut → cut.first + cut.count ≤ blocks_of range → (cut.count ≡ blocks_of range → cut.first ≡ 0)
    → 0 < cut.count → units_of deallocate (range_in number at range) ≡ row_units deallocate (start_of range + cut.first) cut.count
range_in-some deallocate number at range cut fits some is within all any =
    let blocks = fits.blocks in
    let last = fits.last in
    let there = ap (λ (b : Bool). cond b (cond (eqb number 0) (Some range) None) (option_map (cut_range range) (if_any (common at (start_of range) (blocks_of range)))))
    (not_zero (blocks_of range) some)
    ∙ ap (λ (c : Cut). option_map (cut_range range) (if_any c)) is ∙ ap (option_map (cut_range range)) (some_cut cut any) in
    ap (units_of deallocate) there ∙ units_of-some deallocate (cut_range range cut)
    ∙ ap (λ (n : ℕ). row_units deallocate n (blocks_of (cut_range range cut))) (cut-start range cut all (omega arith))
    ∙ ap (row_units deallocate (start_of range + cut.first)) (cut-blocks range cut (omega arith) blocks)

-- where it has none of its blocks
range_in-none : (deallocate : Bool) (number : ℕ) (at : Placed) (range : List ℕ) → 0 < blocks_of range
    → (common at (start_of range) (blocks_of range)).count ≡ 0 → units_of deallocate (range_in number at range) ≡ []
range_in-none deallocate number at range some none =
    let cut : Cut = common at (start_of range) (blocks_of range) in
    let nothing = ap (λ (b : Bool). cond b (cond (eqb number 0) (Some range) None) (option_map (cut_range range) (if_any cut)))
    (not_zero (blocks_of range) some) ∙ ap (option_map (cut_range range)) (no_cut cut none) in
    ap (units_of deallocate) nothing ∙ units_of-none deallocate

-- a range of no blocks has no units, whichever extent has it
range_in-empty : (deallocate : Bool) (number : ℕ) (at : Placed) (range : List ℕ) → blocks_of range ≡ 0
    → units_of deallocate (range_in number at range) ≡ []
range_in-empty deallocate number at range none =
    let empty = ap (λ (b : Bool). cond b (cond (eqb number 0) (Some range) None) (option_map (cut_range range) (if_any (common at (start_of range) (blocks_of range)))))
    (eq-eqb (blocks_of range) 0 none) in
    ap (units_of deallocate) empty
    ∙ (elim (eqb number 0) as (λ b. units_of deallocate (cond b (Some range) None) ≡ []) [
      | true ↦ units_of-some deallocate range ∙ ap (row_units deallocate (start_of range)) none
      | false ↦ units_of-none deallocate
    ])

one-met : (deallocate : Bool) (number : ℕ) (at : Placed) (range : List ℕ) (front back : List WorkUnit) → FitsFields range
    → units_at 0 (front ++ (row_units deallocate (start_of range) (blocks_of range) ++ back))
    (range_with_len (length front + (common at (start_of range) (blocks_of range)).first) (common at (start_of range) (blocks_of range)).count)
    ≡ units_of deallocate (range_in number at range)
one-met deallocate number at range front back fits =
    let cut : Cut = common at (start_of range) (blocks_of range) in
    let units : List WorkUnit = front ++ (row_units deallocate (start_of range) (blocks_of range) ++ back) in
    elim (cases_lt 0 cut.count) [
      | inl some ↦
          row-picked deallocate front back (start_of range) (blocks_of range) cut.first cut.count (omega arith)
          ∙ sym (range_in-some deallocate number at range cut fits (omega arith) refl (omega arith) (λ whole. omega arith) some)
      | inr past ↦
          (let none : cut.count ≡ 0 = omega arith in
          let nothing : units_at 0 units (range_with_len (length front + cut.first) cut.count) ≡ [] =
          ap (λ (n : ℕ). units_at 0 units (range_with_len (length front + cut.first) n)) none in
          nothing ∙ sym (elim (cases_eq (blocks_of range) 0) [
            | inl empty ↦ range_in-empty deallocate number at range empty
            | inr some ↦ range_in-none deallocate number at range (omega arith) none
          ]))
    ]

-- ---- all ranges

units-cons : (deallocate : Bool) (range : Option (List ℕ)) (rest : List (List ℕ))
    → range_units deallocate (cons_option range rest) ≡ units_of deallocate range ++ range_units deallocate rest
unfolding range_units
units-cons deallocate None rest = refl
units-cons deallocate (Some range) rest =
    ap (λ (us : List WorkUnit). us ++ flat_map (one_range_units deallocate) rest) (sym (append-nil (one_range_units deallocate range)))

units-range : (deallocate : Bool) (range : List ℕ) (rest : List (List ℕ))
    → range_units deallocate (range ∷ rest) ≡ row_units deallocate (start_of range) (blocks_of range) ++ range_units deallocate rest
unfolding range_units
units-range deallocate range rest = ap (λ (us : List WorkUnit). us ++ flat_map (one_range_units deallocate) rest) (range-row deallocate range)

met-behind : (deallocate : Bool) (number : ℕ) (at : Placed) (ranges : List (List ℕ)) (front : List WorkUnit) (from : ℕ) → length front ≡ from
    → All FitsFields ranges → units_at 0 (front ++ range_units deallocate ranges) (numbers_met from at ranges) ≡ range_units deallocate (ranges_met number at ranges)
met-behind deallocate number at [] front from size fit = sym (units_of-none deallocate)
met-behind deallocate number at (range ∷ rest) front from size fit =
    let cut : Cut = common at (start_of range) (blocks_of range) in
    let row : List WorkUnit = row_units deallocate (start_of range) (blocks_of range) in
    let back : List WorkUnit = range_units deallocate rest in
    let units : List WorkUnit = front ++ (row ++ back) in
    let spelled = ap (λ (us : List WorkUnit). front ++ us) (units-range deallocate range rest) in
    let first = sym (ap (λ (n : ℕ). units_at 0 units (range_with_len (n + cut.first) cut.count)) size)
    ∙ one-met deallocate number at range front back (All-head FitsFields range rest fit) in
    let sum = length-append front row in
    let long = length-map-range_with_len (range_unit deallocate) (start_of range) (blocks_of range) in
    let more = ap (λ (us : List WorkUnit). units_at 0 us (numbers_met (from + blocks_of range) at rest)) (sym (append_assoc front row back))
    ∙ met-behind deallocate number at rest (front ++ row) (from + blocks_of range) (omega arith) (All-tail FitsFields range rest fit) in
    ap (λ (us : List WorkUnit). units_at 0 us (range_with_len (from + cut.first) cut.count ++ numbers_met (from + blocks_of range) at rest)) spelled
    ∙ filter_map-append (λ (n : ℕ). option_map (unit_behind 0) (slice_get units n)) (range_with_len (from + cut.first) cut.count) (numbers_met (from + blocks_of range) at rest)
    ∙ ap (λ (us : List WorkUnit). us ++ units_at 0 units (numbers_met (from + blocks_of range) at rest)) first
    ∙ ap (λ (us : List WorkUnit). units_of deallocate (range_in number at range) ++ us) more
    ∙ sym (units-cons deallocate (range_in number at range) (ranges_met number at rest))

-- the units that an extent's numbers pick are those of what it has of the ranges
pub units_at-met : (deallocate : Bool) (number : ℕ) (at : Placed) (ranges : List (List ℕ)) → All FitsFields ranges
    → units_at 0 (range_units deallocate ranges) (numbers_met 0 at ranges) ≡ range_units deallocate (ranges_met number at ranges)
units_at-met deallocate number at ranges fit = met-behind deallocate number at ranges [] 0 refl fit

-- ---- every share

range_shares-units : (deallocate : Bool) (work : Work) (from : ℕ) (ats : List Placed) → work.units ≡ range_units deallocate work.ranges
    → All FitsFields work.ranges → All (HasItsUnits deallocate) (map (λ p. range_share (Bounced work) work p.0 p.1) (enumerate_from from ats))
range_shares-units deallocate work from [] units fit = All-nil (HasItsUnits deallocate)
range_shares-units deallocate work from (at ∷ rest) units fit =
    let own : Work = record work {
      pieces = cut_pieces 0 (range_size * length (ranges_met from at work.ranges)) work.pieces;
      ranges = ranges_met from at work.ranges;
      units = units_at 0 work.units (numbers_met 0 at work.ranges);
    } in
    All-cons (HasItsUnits deallocate) (range_share (Bounced work) work from at) (map (λ p. range_share (Bounced work) work p.0 p.1) (enumerate_from (from + 1) rest))
    (own, (refl, ap (λ (us : List WorkUnit). units_at 0 us (numbers_met 0 at work.ranges)) units ∙ units_at-met deallocate from at work.ranges fit))
    (range_shares-units deallocate work (from + 1) rest units fit)

pub shares_of-units : (regions : List Region) (ns : Namespace) (entry : List ℕ) (deallocate : Bool) (work : Work)
    → form_of work.opcode ≡ Manage → work.units ≡ range_units deallocate work.ranges → All FitsFields work.ranges
    → All (HasItsUnits deallocate) (shares_of ns entry (plan_of regions (Go work)))
shares_of-units regions ns entry deallocate work form units fit =
    let shares = ap (λ (f : Form). shares_of ns entry (go_plan f regions work)) form
    ∙ ap (λ (f : Form). shares_by f ns entry (Bounced work) work) form in
    subst (All (HasItsUnits deallocate)) (sym shares) (range_shares-units deallocate work 0 (placed 0 ns) units fit)

-- ---- in a small namespace

left_of : (a b : Bool) → (a && b) ≡ true → a ≡ true
left_of true b both = refl
left_of false b both = absurd (cc)

right_of : (a b : Bool) → (a && b) ≡ true → b ≡ true
right_of true b both = both
right_of false b both = absurd (cc)

pub FitsFields-small : (blocks : ℕ) (ranges : List (List ℕ)) → blocks ≤ 2 ^ 32 → list_all (range_fits blocks) ranges ≡ true → All FitsFields ranges
FitsFields-small blocks [] small fit = All-nil FitsFields
FitsFields-small blocks (range ∷ rest) small fit =
    let within = InNamespace-tested (start_of range) (blocks_of range) blocks (left_of (range_fits blocks range) (list_all (range_fits blocks) rest) fit) in
    All-cons FitsFields range rest (record { blocks = omega arith; last = omega arith })
    (FitsFields-small blocks rest small (right_of (range_fits blocks range) (list_all (range_fits blocks) rest) fit))
