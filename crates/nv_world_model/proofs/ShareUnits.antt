-- The units of shares: how many a work has, where they lie, and what is picked out of them.
use Rattle.std.proofs.Common.{◌≡◌, ℕ, zero, suc, ◌+◌, ◌-◌, ◌<◌, ◌≤◌, Bool, true, false, List, [], ◌∷◌, drop, map, length, take, get_or, Option, Some}
use Rattle.std.proofs.Common.{refl, ap, sym, ◌∙◌, subst, arith}
use Rattle.std.specs.List.{All, cons_option, flat_map, range_with_len, slice_get}
use Rattle.std.specs.Option.{option_map}
use Rattle.std.proofs.lemmas.List.{drop_more, length-append, length-drop, length-map, length-take-le, take_all}
use Rattle.std.proofs.lemmas.List.FromFn.{length-range_with_len}
use Rattle.std.proofs.lemmas.List.Sums.{sum_by-cons}
use Rattle.std.proofs.lemmas.Option.{slice_get-get_or, slice_get-map}
use Rattle.nv_entry.specs.Range.{blocks_of, start_of}
use Rattle.nv_model.specs.Judge.{ClearBlock, KeepAll, LeaveBlock, MoveBlock, WorkUnit, clear_units, move_units, one_range_units, range_units}
use Rattle.nv_model.specs.Laws.{IsUnitWithin}
use Rattle.nv_model.proofs.Units.{clear_units-at, length-clear_units, length-move_units, move_units-at}
use Rattle.nv_world_model.specs.Share.{unit_behind, units_at}
use Rattle.nv_world_model.specs.ShareArea.{first_lba, unit_lba}
use Rattle.nv_world_model.proofs.ShareNumbers.{all_blocks}
use Rattle.nv_world_model.proofs.Windows.{window, window-get}

-- ---- how many there are

pub length-one_range : (deallocate : Bool) (range : List ℕ) → length (one_range_units deallocate range) ≡ blocks_of range
length-one_range true range = length-clear_units false (start_of range) (blocks_of range)
length-one_range false range =
    length-map (range_with_len (start_of range) (blocks_of range)) LeaveBlock ∙ length-range_with_len (start_of range) (blocks_of range)

pub length-range_units : (deallocate : Bool) (ranges : List (List ℕ)) → length (range_units deallocate ranges) ≡ all_blocks ranges
unfolding range_units
length-range_units deallocate [] = refl
length-range_units deallocate (range ∷ rest) =
    let one = length-one_range deallocate range in
    let more = length-range_units deallocate rest in
    let both = length-append (one_range_units deallocate range) (flat_map (one_range_units deallocate) rest) in
    let sum = sum_by-cons blocks_of range rest in omega arith

-- ---- where they lie

last-within : (blocks : ℕ) (units : List WorkUnit) (unit : WorkUnit) (at : ℕ) → All (IsUnitWithin blocks) units → at < length units
    → slice_get units at ≡ Some unit → IsUnitWithin blocks unit
last-within blocks units unit at each below is =
    let got = slice_get-get_or units at unit below in
    let same : get_or units at unit ≡ unit = cc in
    subst (IsUnitWithin blocks) same (each at unit below)

-- a run of blocks that are each in the namespace is in it
pub moves-within : (blocks slba count : ℕ) → 0 < count → All (IsUnitWithin blocks) (move_units (range_with_len slba count)) → slba + count ≤ blocks
moves-within blocks slba count some each =
    let size = length-move_units slba count in
    let last = last-within blocks (move_units (range_with_len slba count)) (MoveBlock (count - 1) (slba + (count - 1))) (count - 1) each
    (omega arith) (move_units-at slba count (count - 1) (omega arith)) in
    omega (arith, last)

pub clears-within : (blocks : ℕ) (mark : Bool) (slba count : ℕ) → 0 < count → All (IsUnitWithin blocks) (clear_units mark (range_with_len slba count))
    → slba + count ≤ blocks
clears-within blocks mark slba count some each =
    let size = length-clear_units mark slba count in
    let last = last-within blocks (clear_units mark (range_with_len slba count)) (ClearBlock (slba + (count - 1)) mark) (count - 1) each
    (omega arith) (clear_units-at mark slba count (count - 1) (omega arith)) in
    omega (arith, last)

-- ---- what is picked

pub unit_behind-none : (unit : WorkUnit) → unit_behind 0 unit ≡ unit
unit_behind-none (MoveBlock index lba) = let same : index - 0 ≡ index = omega arith in ap (λ (n : ℕ). MoveBlock n lba) same
unit_behind-none (ClearBlock lba mark) = refl
unit_behind-none (LeaveBlock lba) = refl
unit_behind-none (KeepAll blocks) = refl

pub map-unit_behind-none : (units : List WorkUnit) → map (unit_behind 0) units ≡ units
map-unit_behind-none [] = refl
map-unit_behind-none (unit ∷ rest) =
    let head = unit_behind-none unit in
    let tail = map-unit_behind-none rest in cc

-- the units of numbers in a row are those that stand there
pub units_at-range : (first : ℕ) (units : List WorkUnit) (from count : ℕ) → from + count ≤ length units
    → units_at first units (range_with_len from count) ≡ map (unit_behind first) (window from count units)
units_at-range first units from zero within = refl
units_at-range first units from (suc count) within =
    let d : WorkUnit = KeepAll 0 in
    let got = slice_get-get_or units from d (omega arith) in
    let next = drop_more units from d (omega arith) in
    let on = units_at-range first units (from + 1) count (omega arith) in
    ap (λ (o : Option WorkUnit). cons_option (option_map (unit_behind first) o) (units_at first units (range_with_len (from + 1) count))) got
    ∙ ap (λ (xs : List WorkUnit). unit_behind first (get_or units from d) ∷ xs) on
    ∙ sym (ap (λ (xs : List WorkUnit). map (unit_behind first) (take (suc count) xs)) next)

pub units_at-all : (units : List WorkUnit) (count : ℕ) → length units ≡ count → units_at 0 units (range_with_len 0 count) ≡ units
units_at-all units count size =
    units_at-range 0 units 0 count (omega arith) ∙ ap (map (unit_behind 0)) (take_all count units (omega arith)) ∙ map-unit_behind-none units

-- ---- what is cut out of a run of blocks

-- units of blocks in a row
pub record IsFrom (slba count : ℕ) (units : List WorkUnit) : Type 0 where
  pub size : length units ≡ count
  pub at : (k : ℕ) → k < count → (unit : WorkUnit) × ((slice_get units k ≡ Some unit) × (unit_lba unit ≡ slba + k))

pub moves-from : (slba count : ℕ) (units : List WorkUnit) → units ≡ move_units (range_with_len slba count) → IsFrom slba count units
moves-from slba count units is =
    record {
      size = ap length is ∙ length-move_units slba count;
      at = (λ k below. (MoveBlock k (slba + k), (ap (λ us. slice_get us k) is ∙ move_units-at slba count k below, refl)));
    }

pub clears-from : (mark : Bool) (slba count : ℕ) (units : List WorkUnit) → units ≡ clear_units mark (range_with_len slba count)
    → IsFrom slba count units
clears-from mark slba count units is =
    record {
      size = ap length is ∙ length-clear_units mark slba count;
      at = (λ k below. (ClearBlock (slba + k) mark, (ap (λ us. slice_get us k) is ∙ clear_units-at mark slba count k below, refl)));
    }

lba-behind : (first : ℕ) (unit : WorkUnit) → unit_lba (unit_behind first unit) ≡ unit_lba unit
lba-behind first (MoveBlock index lba) = refl
lba-behind first (ClearBlock lba mark) = refl
lba-behind first (LeaveBlock lba) = refl
lba-behind first (KeepAll blocks) = refl

-- the units of a cut, one by one
pub units-get : (first count k : ℕ) (units : List WorkUnit) (unit : WorkUnit) → k < count → first + count ≤ length units
    → slice_get units (first + k) ≡ Some unit → slice_get (units_at first units (range_with_len first count)) k ≡ Some (unit_behind first unit)
units-get first count k units unit below within is =
    ap (λ (xs : List WorkUnit). slice_get xs k) (units_at-range first units first count within)
    ∙ slice_get-map (unit_behind first) (window first count units) k
    ∙ ap (option_map (unit_behind first)) (window-get units first count k below ∙ is)

-- how many they are
pub units-size : (first count : ℕ) (units : List WorkUnit) → first + count ≤ length units
    → length (units_at first units (range_with_len first count)) ≡ count
units-size first count units within =
    let rest = length-drop first units in
    ap length (units_at-range first units first count within) ∙ length-map (window first count units) (unit_behind first)
    ∙ length-take-le count (drop first units) (omega (arith, rest, within))

-- and where the first lies
pub units_at-lba : (first count lba : ℕ) (units : List WorkUnit) (unit : WorkUnit) → 0 < count → slice_get units first ≡ Some unit
    → unit_lba unit ≡ lba → first_lba (units_at first units (range_with_len first count)) ≡ lba
units_at-lba first zero lba units unit some there is = absurd (omega (arith, some))
units_at-lba first (suc count) lba units unit some there is =
    ap (λ o. first_lba (cons_option (option_map (unit_behind first) o) (units_at first units (range_with_len (first + 1) count)))) there
    ∙ lba-behind first unit ∙ is
