-- What each extent has of the ranges of a Dataset Management, as the disk has it.
use Rattle.std.proofs.Common.{◌≡◌, ℕ, zero, suc, ◌+◌, ◌-◌, ◌*◌, ◌/◌, ◌^◌, ◌<◌, ◌≤◌, min, max, eqb, nat_lt, Bool, true, false, cond, IsTrue}
use Rattle.std.proofs.Common.{List, [], ◌∷◌, ◌++◌, append-nil, append_assoc}
use Rattle.std.proofs.Common.{Option, Some, None, drop, length, map, slice_get, take, inl, inr, refl, ap, sym, subst, ◌∙◌, arith, eq-eqb}
use Rattle.std.specs.List.{cons_option, enumerate_from, list_all}
use Rattle.std.specs.Option.{option_map, option_to_list}
use Rattle.std.proofs.lemmas.Bool.{cases_eq, ne_eqb}
use Rattle.std.proofs.lemmas.List.{drop_all, length-append, length-map, map-append}
use Rattle.std.proofs.lemmas.Bool.Decides.{nat_tests}
use Rattle.nv_entry.specs.Layout.{number_bytes}
use Rattle.nv_entry.specs.Range.{blocks_of, start_of}
use Rattle.nv_judge.proofs.RangeLemmas.{both-fit, ranges_in-more, ranges_in-none}
use Rattle.nv_model.specs.Judge.{range_fits, ranges_in}
use Rattle.nv_ns.specs.BlockRange.{Extent}
use Rattle.nv_ns.specs.Extents.{Cut, Namespace, Placed, blocks_in, common, if_any, is_namespace, place_in, placed}
use Rattle.nv_ns.proofs.Ranges.{InNamespace-tested}
use Rattle.nv_ns.proofs.Spelled.{place_in-beyond, place_in-here}
use Rattle.nv_world_model.specs.Area.{first_base, range_place, translated_range}
use Rattle.nv_world_model.specs.Share.{cut_range, range_in, ranges_met}
use Rattle.nv_world_model.proofs.OneExtent.{cut_range-all}
use Rattle.nv_world_model.proofs.RangeCuts.{bytes-blocks, bytes-start, cut_bytes, ranges_met-few}
use Rattle.nv_plan.specs.Outline.{Portion}
use Rattle.nv_plan.specs.Runs.{AreEnds, runs}
use Rattle.nv_plan.specs.Told.{of_ranges, portion_met}
use Rattle.nv_plan.proofs.CutRuns.{AreEnds-more, runs-more}

-- ---- where an extent's blocks lie

placed-after : (before : ℕ) (ns : Namespace) (k : ℕ) (at : Placed) → slice_get (placed before ns) k ≡ Some at → before ≤ at.before
placed-after before [] k at is = absurd (cc)
placed-after before (extent ∷ rest) zero at is =
    let same : before ≡ at.before = ap (λ (o : Option Placed). before_of o) is in omega arith
  where
    before_of : Option Placed → ℕ
    before_of None = 0
    before_of (Some p) = p.before
placed-after before (extent ∷ rest) (suc k) at is = let on = placed-after (before + extent.blocks) rest k at is in omega arith

-- a block of an extent that comes behind `before` others
pub place-placed : (before : ℕ) (ns : Namespace) (k : ℕ) (at : Placed) (lba : ℕ) → slice_get (placed before ns) k ≡ Some at
    → at.before ≤ before + lba → before + lba < at.before + at.extent.blocks → place_in ns lba ≡ at.extent.base + (before + lba - at.before)
place-placed before [] k at lba is low high = absurd (cc)
place-placed before (extent ∷ rest) zero at lba is low high =
    subst (λ (p : Placed). p.before ≤ before + lba → before + lba < p.before + p.extent.blocks
    → place_in (extent ∷ rest) lba ≡ p.extent.base + (before + lba - p.before)) (same at is)
    (λ least most. (let there : before + lba - before ≡ lba = omega arith in
    place_in-here extent rest lba (omega arith) ∙ sym (ap (λ (n : ℕ). extent.base + n) there))) low high
  where
    same : (p : Placed) → Some (record { before = before; extent = extent }) ≡ Some p → record { before = before; extent = extent } ≡ p
    same p e = cc
place-placed before (extent ∷ rest) (suc k) at lba is low high =
    let after = placed-after (before + extent.blocks) rest k at is in
    let on : before + extent.blocks + (lba - extent.blocks) ≡ before + lba = omega arith in
    place_in-beyond extent rest lba (omega arith)
    ∙ place-placed (before + extent.blocks) rest k at (lba - extent.blocks) is (omega arith) (omega arith)
    ∙ ap (λ (n : ℕ). at.extent.base + (n - at.before)) on

-- the first of them
pub first-placed : (ns : Namespace) (at : Placed) → slice_get (placed 0 ns) 0 ≡ Some at → first_base ns ≡ at.extent.base
first-placed [] at is = absurd (cc)
first-placed (extent ∷ rest) at is = ap (λ (o : Option Placed). base_of o) is
  where
    base_of : Option Placed → ℕ
    base_of None = 0
    base_of (Some p) = p.extent.base

pub first-within : (ns : Namespace) → IsTrue (is_namespace ns) → first_base ns + blocks_in ns < 2 ^ 64
first-within [] kept = grind (arith, nat_tests)
first-within (extent ∷ rest) kept = grind (arith, nat_tests)

-- ---- a range on the disk

-- the bytes of a range on the disk
abbrev pub disk_bytes : (start blocks : ℕ) → List ℕ
disk_bytes start blocks = number_bytes 4 0 ++ number_bytes 4 blocks ++ number_bytes 8 start

translated-some : (ns : Namespace) (range : List ℕ) (start blocks place : ℕ) → blocks_of range ≡ blocks → start_of range ≡ start → 0 < blocks
    → place_in ns start ≡ place → translated_range ns range ≡ disk_bytes place blocks
translated-some ns range start blocks place many at some there =
    let other : eqb (blocks_of range) 0 ≡ false = ne_eqb (blocks_of range) 0 (λ none. absurd (omega (arith, many, none))) in
    let lies : range_place ns range ≡ place =
    ap (λ (b : Bool). cond b (first_base ns + start_of range) (place_in ns (start_of range))) other ∙ ap (place_in ns) at ∙ there in
    ap (λ (n : ℕ). number_bytes 4 0 ++ number_bytes 4 n ++ number_bytes 8 (range_place ns range)) many
    ∙ ap (λ (n : ℕ). number_bytes 4 0 ++ number_bytes 4 blocks ++ number_bytes 8 n) lies

translated-cut : (ns : Namespace) (range : List ℕ) (cut : Cut) → 0 < cut.count → cut.first + cut.count ≤ blocks_of range
    → blocks_of range < 2 ^ 32 → start_of range + cut.first < 2 ^ 64 → place_in ns (start_of range + cut.first) ≡ cut.start
    → translated_range ns (cut_range range cut) ≡ disk_bytes cut.start cut.count
translated-cut ns range cut some within short fits there =
    elim (cases_eq cut.count (blocks_of range)) [
      | inl all ↦
          (let first : start_of range ≡ start_of range + cut.first = omega arith in
          ap (translated_range ns) (cut_range-all range cut all)
          ∙ translated-some ns range (start_of range + cut.first) cut.count cut.start (sym all) first some there)
      | inr part ↦
          (let other : eqb cut.count (blocks_of range) ≡ false = ne_eqb cut.count (blocks_of range) part in
          ap (λ (b : Bool). translated_range ns (cond b range (cut_bytes range cut))) other
          ∙ translated-some ns (cut_bytes range cut) (start_of range + cut.first) cut.count cut.start
          (bytes-blocks range cut (omega arith)) (bytes-start range cut fits) some there)
    ]

-- what an extent has of a range that has blocks
pub count-some : (cut other : Cut) → if_any cut ≡ Some other → (0 < other.count) × (cut ≡ other)
count-some cut other is = by_test (nat_lt 0 cut.count) refl is
  where
    by_test : (b : Bool) → nat_lt 0 cut.count ≡ b → cond b (Some cut) None ≡ Some other → (0 < other.count) × (cut ≡ other)
    by_test true test e =
        let same : cut ≡ other = cc in
        let some : 0 < cut.count = grind (arith, nat_tests) in (subst (λ (c : Cut). 0 < c.count) same some, same)
    by_test false test e = absurd (cc)

pub met-some : (ns : Namespace) (number : ℕ) (at : Placed) (range : List ℕ) (cut : Cut) → slice_get (placed 0 ns) number ≡ Some at
    → range_fits (blocks_in ns) range ≡ true → blocks_in ns < 2 ^ 64 → blocks_of range < 2 ^ 32 → 0 < blocks_of range
    → if_any (common at (start_of range) (blocks_of range)) ≡ Some cut
    → Some (disk_bytes cut.start cut.count) ≡ option_map (translated_range ns) (range_in number at range)
met-some ns number at range cut is fits few short some meets =
    let inside = InNamespace-tested (start_of range) (blocks_of range) (blocks_in ns) fits in
    let met = count-some (common at (start_of range) (blocks_of range)) cut meets in
    let has = met.0 in
    let first : at.before - start_of range ≡ cut.first = ap (λ (c : Cut). c.first) met.1 in
    let start : at.extent.base + (start_of range - at.before) ≡ cut.start = ap (λ (c : Cut). c.start) met.1 in
    let count : min (start_of range + blocks_of range) (at.before + at.extent.blocks) - max (start_of range) at.before ≡ cut.count =
    ap (λ (c : Cut). c.count) met.1 in
    let low = inside.0 in
    let high = inside.1 in
    let lies = place-placed 0 ns number at (start_of range + cut.first) is (omega arith) (omega arith) in
    let same : at.extent.base + (0 + (start_of range + cut.first) - at.before) ≡ cut.start = omega arith in
    let other : eqb (blocks_of range) 0 ≡ false = ne_eqb (blocks_of range) 0 (λ none. absurd (omega (arith, some, none))) in
    sym (ap (λ (b : Bool). option_map (translated_range ns) (cond b (cond (eqb number 0) (Some range) None)
    (option_map (cut_range range) (if_any (common at (start_of range) (blocks_of range)))))) other
    ∙ ap (λ (o : Option Cut). option_map (translated_range ns) (option_map (cut_range range) o)) meets
    ∙ ap Some (translated-cut ns range cut has (omega arith) short (omega arith) (lies ∙ same)))

pub met-none : (ns : Namespace) (number : ℕ) (at : Placed) (range : List ℕ) → 0 < blocks_of range
    → if_any (common at (start_of range) (blocks_of range)) ≡ None → None ≡ option_map (translated_range ns) (range_in number at range)
met-none ns number at range some meets =
    let other : eqb (blocks_of range) 0 ≡ false = ne_eqb (blocks_of range) 0 (λ none. absurd (omega (arith, some, none))) in
    sym (ap (λ (b : Bool). option_map (translated_range ns) (cond b (cond (eqb number 0) (Some range) None)
    (option_map (cut_range range) (if_any (common at (start_of range) (blocks_of range)))))) other
    ∙ ap (λ (o : Option Cut). option_map (translated_range ns) (option_map (cut_range range) o)) meets)

-- and of one that has none
pub met-empty : (ns : Namespace) (number : ℕ) (at : Placed) (range : List ℕ) → slice_get (placed 0 ns) number ≡ Some at → number ≡ 0
    → blocks_of range ≡ 0 → Some (disk_bytes (at.extent.base + start_of range) 0) ≡ option_map (translated_range ns) (range_in number at range)
met-empty ns number at range is first none =
    let no_blocks = eq-eqb (blocks_of range) 0 none in
    let front = eq-eqb number 0 first in
    let base = first-placed ns at (ap (slice_get (placed 0 ns)) (sym first) ∙ is) in
    let lies : range_place ns range ≡ at.extent.base + start_of range =
    ap (λ (b : Bool). cond b (first_base ns + start_of range) (place_in ns (start_of range))) no_blocks ∙ ap (λ (n : ℕ). n + start_of range) base in
    sym (ap (λ (b : Bool). option_map (translated_range ns) (cond b (cond (eqb number 0) (Some range) None)
    (option_map (cut_range range) (if_any (common at (start_of range) (blocks_of range)))))) no_blocks
    ∙ ap (λ (b : Bool). option_map (translated_range ns) (cond b (Some range) None)) front
    ∙ ap (λ (n : ℕ). Some (number_bytes 4 0 ++ number_bytes 4 n ++ number_bytes 8 (range_place ns range))) none
    ∙ ap (λ (n : ℕ). Some (number_bytes 4 0 ++ number_bytes 4 0 ++ number_bytes 8 n)) lies)

pub met-elsewhere : (ns : Namespace) (number : ℕ) (at : Placed) (range : List ℕ) → 0 < number → blocks_of range ≡ 0
    → None ≡ option_map (translated_range ns) (range_in number at range)
met-elsewhere ns number at range behind none =
    let no_blocks = eq-eqb (blocks_of range) 0 none in
    let other : eqb number 0 ≡ false = ne_eqb number 0 (λ e. absurd (omega (arith, e, behind))) in
    sym (ap (λ (b : Bool). option_map (translated_range ns) (cond b (cond (eqb number 0) (Some range) None)
    (option_map (cut_range range) (if_any (common at (start_of range) (blocks_of range)))))) no_blocks
    ∙ ap (λ (b : Bool). option_map (translated_range ns) (cond b (Some range) None)) other)

-- ---- the ranges one by one

-- what a loop over the ranges keeps: what there is so far, and what there will be of the rest, is what there is of all, and those in the
-- rest fit
pub record IsMeeting (ns : Namespace) (number : ℕ) (at : Placed) (all ranges : List (List ℕ)) (rest : List ℕ) : Type 0 where
  pub fit : list_all (range_fits (blocks_in ns)) (ranges_in (length rest / 16) rest) ≡ true
  pub goes : ranges ++ map (translated_range ns) (ranges_met number at (ranges_in (length rest / 16) rest)) ≡ all

pub IsMeeting-fits : (ns : Namespace) (number : ℕ) (at : Placed) (all ranges : List (List ℕ)) (rest range more : List ℕ)
    → IsMeeting ns number at all ranges rest → range ≡ take 16 rest → more ≡ drop 16 rest → length more + 16 ≡ length rest
    → range_fits (blocks_in ns) range ≡ true
IsMeeting-fits ns number at all ranges rest range more so_far first others sized =
    (both-fit (blocks_in ns) rest range more first others sized so_far.fit).0

map-option : (ns : Namespace) (o : Option (List ℕ)) (rest : List (List ℕ))
    → map (translated_range ns) (cons_option o rest) ≡ option_to_list (option_map (translated_range ns) o) ++ map (translated_range ns) rest
map-option ns None rest = refl
map-option ns (Some range) rest = refl

pub IsMeeting-more : (ns : Namespace) (number : ℕ) (at : Placed) (all ranges : List (List ℕ)) (rest range more : List ℕ)
    (next : List (List ℕ)) (met : Option (List ℕ))
    → IsMeeting ns number at all ranges rest → range ≡ take 16 rest → more ≡ drop 16 rest → length more + 16 ≡ length rest
    → next ≡ ranges ++ option_to_list met → met ≡ option_map (translated_range ns) (range_in number at range)
    → IsMeeting ns number at all next more
IsMeeting-more ns number at all ranges rest range more next met so_far first others sized grown is =
    let behind : List (List ℕ) = ranges_met number at (ranges_in (length more / 16) more) in
    record {
      fit = (both-fit (blocks_in ns) rest range more first others sized so_far.fit).1;
      goes =
          ap (λ (rs : List (List ℕ)). rs ++ map (translated_range ns) behind) grown
          ∙ append_assoc ranges (option_to_list met) (map (translated_range ns) behind)
          ∙ ap (λ (o : Option (List ℕ)). ranges ++ (option_to_list o ++ map (translated_range ns) behind)) is
          ∙ ap (λ (rs : List (List ℕ)). ranges ++ rs) (sym (map-option ns (range_in number at range) behind))
          ∙ ap (λ (rs : List (List ℕ)). ranges ++ map (translated_range ns) (ranges_met number at rs)) (sym (ranges_in-more rest range more first others sized))
          ∙ so_far.goes;
    }

pub IsMeeting-end : (ns : Namespace) (number : ℕ) (at : Placed) (all ranges : List (List ℕ)) (rest : List ℕ)
    → IsMeeting ns number at all ranges rest → length rest < 16
    → ranges ≡ all
IsMeeting-end ns number at all ranges rest so_far few =
    sym (append-nil ranges)
    ∙ ap (λ (rs : List (List ℕ)). ranges ++ map (translated_range ns) (ranges_met number at rs)) (sym (ranges_in-none rest few))
    ∙ so_far.goes

-- ---- the extents one by one

-- what all extents from one on have, of which so many blocks come before
abbrev pub portions_from : Namespace → (ranges : List (List ℕ)) → (number : ℕ) → List Placed → List Portion
portions_from ns ranges number ats = map (λ (p : ℕ × Placed). portion_met ns ranges p.0 p.1) (enumerate_from number ats)

-- what a loop over the extents keeps
pub record AreMet (ns : Namespace) (ranges : List (List ℕ)) (number before : ℕ) (portions : List Portion) : Type 0 where
  pub blocks : before + blocks_in (drop number ns) ≡ blocks_in ns
  pub there : placed before (drop number ns) ≡ drop number (placed 0 ns)
  pub goes : portions ++ portions_from ns ranges number (placed before (drop number ns)) ≡ portions_from ns ranges 0 (placed 0 ns)

pub AreMet-start : (ns : Namespace) (ranges : List (List ℕ)) → AreMet ns ranges 0 0 []
AreMet-start ns ranges = record { blocks = omega arith; there = refl; goes = refl }

get-drop : {X : Type 0} (xs : List X) (n : ℕ) (x : X) (rest : List X) → drop n xs ≡ x ∷ rest → slice_get xs n ≡ Some x
get-drop [] zero x rest is = absurd (cc)
get-drop [] (suc n) x rest is = absurd (cc)
get-drop {X = X} (y ∷ xs) zero x rest is = ap (λ (ys : List X). slice_get ys 0) is
get-drop (y ∷ xs) (suc n) x rest is = get-drop xs n x rest is

drop-rest : {X : Type 0} (xs : List X) (n : ℕ) (x : X) (rest : List X) → drop n xs ≡ x ∷ rest → drop (n + 1) xs ≡ rest
drop-rest [] zero x rest is = absurd (cc)
drop-rest [] (suc n) x rest is = absurd (cc)
drop-rest {X = X} (y ∷ xs) zero x rest is = ap (λ (ys : List X). drop 1 ys) is
drop-rest {X = X} (y ∷ xs) (suc n) x rest is =
    let next : suc n + 1 ≡ suc (n + 1) = omega arith in ap (λ (k : ℕ). drop k (y ∷ xs)) next ∙ drop-rest xs n x rest is

-- the extent at this number stands there
pub AreMet-there : (ns : Namespace) (ranges : List (List ℕ)) (number before : ℕ) (portions : List Portion) (extent : Extent)
    → AreMet ns ranges number before portions → drop number ns ≡ extent ∷ drop (number + 1) ns
    → slice_get (placed 0 ns) number ≡ Some (record { before = before; extent = extent })
AreMet-there ns ranges number before portions extent so_far next =
    get-drop (placed 0 ns) number (record { before = before; extent = extent }) (placed (before + extent.blocks) (drop (number + 1) ns))
    (sym so_far.there ∙ ap (placed before) next)

pub AreMet-more : (ns : Namespace) (ranges : List (List ℕ)) (number before : ℕ) (portions : List Portion) (extent : Extent) (others : List Portion)
    → AreMet ns ranges number before portions → drop number ns ≡ extent ∷ drop (number + 1) ns
    → others ≡ portions ++ portion_met ns ranges number (record { before = before; extent = extent }) ∷ []
    → AreMet ns ranges (number + 1) (before + extent.blocks) others
AreMet-more ns ranges number before portions extent others so_far next grown =
    let so_many = so_far.blocks in
    let sum = ap blocks_in next in
    let one : Portion = portion_met ns ranges number (record { before = before; extent = extent }) in
    let behind : List Portion = portions_from ns ranges (number + 1) (placed (before + extent.blocks) (drop (number + 1) ns)) in
    record {
      blocks = omega arith;
      there =
          sym (drop-rest (placed 0 ns) number (record { before = before; extent = extent }) (placed (before + extent.blocks) (drop (number + 1) ns))
          (sym so_far.there ∙ ap (placed before) next));
      goes =
          ap (λ (ps : List Portion). ps ++ behind) grown ∙ append_assoc portions (one ∷ []) behind
          ∙ sym (ap (λ (xs : Namespace). portions ++ portions_from ns ranges number (placed before xs)) next) ∙ so_far.goes;
    }

pub AreMet-end : (ns : Namespace) (ranges : List (List ℕ)) (number before : ℕ) (portions : List Portion) → AreMet ns ranges number before portions
    → length ns ≤ number → portions ≡ portions_from ns ranges 0 (placed 0 ns)
AreMet-end ns ranges number before portions so_far ended =
    sym (append-nil portions)
    ∙ sym (ap (λ (xs : Namespace). portions ++ portions_from ns ranges number (placed before xs)) (drop_all number ns ended)) ∙ so_far.goes

-- ---- in one list

-- what a loop over the extents keeps of their list: it has the ranges of the first extents, and where those of each end
pub record AreListed (ns : Namespace) (ranges : List (List ℕ)) (number before : ℕ) (items : List (List ℕ)) (ends : List ℕ) : Type 0 where
  pub count : length ends ≡ number
  pub short : length items ≤ number * 256
  pub parted : AreEnds 0 ends (length items)
  pub met : AreMet ns ranges number before (map of_ranges (runs items 0 ends))

pub AreListed-start : (ns : Namespace) (ranges : List (List ℕ)) → AreListed ns ranges 0 0 [] []
AreListed-start ns ranges = record { count = refl; short = omega arith; parted = refl; met = AreMet-start ns ranges }

abbrev pub listed_next : Namespace → (ranges : List (List ℕ)) → (number before : ℕ) → Extent → (items : List (List ℕ)) → List (List ℕ)
listed_next ns ranges number before extent items =
    items ++ map (translated_range ns) (ranges_met number (record { before = before; extent = extent }) ranges)

pub AreListed-short : (ns : Namespace) (ranges : List (List ℕ)) (number before : ℕ) (items : List (List ℕ)) (ends : List ℕ) (extent : Extent)
    (next : List (List ℕ)) → AreListed ns ranges number before items ends → length ranges ≤ 256
    → next ≡ listed_next ns ranges number before extent items → length next ≤ (number + 1) * 256
AreListed-short ns ranges number before items ends extent next so_far few grown =
    let met : List (List ℕ) = ranges_met number (record { before = before; extent = extent }) ranges in
    let more = ranges_met-few number (record { before = before; extent = extent }) ranges in
    let len = ap (λ (rs : List (List ℕ)). length rs) grown ∙ length-append items (map (translated_range ns) met) in
    let same = length-map met (translated_range ns) in
    let short = so_far.short in omega arith

pub AreListed-more : (ns : Namespace) (ranges : List (List ℕ)) (number before : ℕ) (items : List (List ℕ)) (ends : List ℕ) (extent : Extent)
    (next : List (List ℕ)) (others : List ℕ) → AreListed ns ranges number before items ends → length ranges ≤ 256
    → drop number ns ≡ extent ∷ drop (number + 1) ns → next ≡ listed_next ns ranges number before extent items
    → others ≡ ends ++ length next ∷ [] → AreListed ns ranges (number + 1) (before + extent.blocks) next others
AreListed-more ns ranges number before items ends extent next others so_far few there grown ended =
    let more : List (List ℕ) = map (translated_range ns) (ranges_met number (record { before = before; extent = extent }) ranges) in
    let len = ap (λ (rs : List (List ℕ)). length rs) grown ∙ length-append items more in
    let ends_len = ap (λ (es : List ℕ). length es) ended ∙ length-append ends (length next ∷ []) in
    let count = so_far.count in
    record {
      count = omega arith;
      short = AreListed-short ns ranges number before items ends extent next so_far few grown;
      parted = subst (λ (es : List ℕ). AreEnds 0 es (length next)) (sym ended) (AreEnds-more 0 ends (length items) (length next) so_far.parted (omega arith));
      met =
          AreMet-more ns ranges number before (map of_ranges (runs items 0 ends)) extent (map of_ranges (runs next 0 others)) so_far.met there
          (ap (λ (es : List ℕ). map of_ranges (runs next 0 es)) ended
          ∙ ap (λ (rs : List (List ℕ)). map of_ranges (runs rs 0 (ends ++ length rs ∷ []))) grown
          ∙ ap (λ (rss : List (List (List ℕ))). map of_ranges rss) (runs-more items more 0 ends so_far.parted)
          ∙ map-append of_ranges (runs items 0 ends) (more ∷ []));
    }
