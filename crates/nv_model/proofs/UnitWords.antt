-- The words for what moves units one after another, and the units that they stand for.
use Rattle.std.proofs.Common.{◌≡◌, ℕ, zero, suc, ◌+◌, Bool, true, false, ◌||◌, List, [], ◌∷◌, map, refl, ap, ◌∙◌}
use Rattle.std.specs.List.{range_with_len, enumerate_from}
use Rattle.nv_entry.specs.declared.opcode.IoOpcode.{IoOpcode}
use Rattle.nv_entry.specs.declared.opcode.IoOpcode.TheVariants.{Flush, Write, Read, Compare, WriteZeroes, DatasetManagement}
use Rattle.nv_model.specs.Judge.{WorkUnit, MoveBlock, ClearBlock, LeaveBlock, KeepAll, Work, clear_units, move_units}
use Rattle.nv_model.specs.Private.{Moved, block_moved}
use Rattle.nv_model.specs.Carried.{moved_on, units_moved}
use Rattle.nv_model.specs.Carrying.{cleared, cleared_one, units_from}

pub or-false : (b : Bool) → b || false ≡ b
or-false true = refl
or-false false = refl

-- a unit that differs not leaves the flag as it was
pub differed-kept : (m : Moved) → (let r : Moved = record m { differed = m.differed || false } in r) ≡ m
differed-kept m = ap (λ (d : Bool). let r : Moved = record m { differed = d } in r) (or-false m.differed)

-- ---- a unit depends on no other

block_moved-others : (opcode : IoOpcode) (work : Work) (others : List WorkUnit) (index lba : ℕ) (memory : ℕ → ℕ) (disk : ℕ → ℕ → ℕ) (kept : ℕ → Bool)
    → block_moved opcode (record work { units = others }) index lba memory disk kept ≡ block_moved opcode work index lba memory disk kept
block_moved-others Read work others index lba memory disk kept = refl
block_moved-others Write work others index lba memory disk kept = refl
block_moved-others Compare work others index lba memory disk kept = refl
block_moved-others WriteZeroes work others index lba memory disk kept = refl
block_moved-others DatasetManagement work others index lba memory disk kept = refl
block_moved-others Flush work others index lba memory disk kept = refl

moved_on-others : (unit : WorkUnit) (others : List WorkUnit) (work : Work) (m : Moved)
    → moved_on unit (record work { units = others }) m ≡ moved_on unit work m
moved_on-others (MoveBlock index lba) others work m =
    ap (λ (n : Moved). let r : Moved = record { memory = n.memory; disk = n.disk; kept = n.kept; differed = m.differed || n.differed } in r)
    (block_moved-others work.opcode work others index lba m.memory m.disk m.kept)
moved_on-others (ClearBlock lba mark) others work m = refl
moved_on-others (LeaveBlock lba) others work m = refl
moved_on-others (KeepAll blocks) others work m = refl

pub units_moved-others : (units others : List WorkUnit) (work : Work) (m : Moved)
    → units_moved units (record work { units = others }) m ≡ units_moved units work m
unfolding units_moved
units_moved-others [] others work m = refl
units_moved-others (unit ∷ units) others work m =
    ap (units_moved units (record work { units = others })) (moved_on-others unit others work m)
    ∙ units_moved-others units others work (moved_on unit work m)

-- ---- blocks in a row

units_from-enumerated : (index lba n : ℕ)
    → map (λ (p : ℕ × ℕ). MoveBlock p.0 p.1) (enumerate_from index (range_with_len lba n)) ≡ units_from index lba n
unfolding units_from
units_from-enumerated index lba zero = refl
units_from-enumerated index lba (suc n) =
    ap (λ (units : List WorkUnit). MoveBlock index lba ∷ units) (units_from-enumerated (index + 1) (lba + 1) n)

pub move_units-range : (lba n : ℕ) → move_units (range_with_len lba n) ≡ units_from 0 lba n
unfolding move_units
move_units-range lba n = units_from-enumerated 0 lba n

-- ---- blocks that are cleared, or left

pub units_moved-cleared : (mark : Bool) (lbas : List ℕ) (work : Work) (m : Moved)
    → units_moved (clear_units mark lbas) work m ≡ cleared lbas mark m
unfolding units_moved clear_units cleared
units_moved-cleared mark [] work m = refl
units_moved-cleared mark (lba ∷ lbas) work m =
    ap (units_moved (clear_units mark lbas) work) (differed-kept (cleared_one lba mark m))
    ∙ units_moved-cleared mark lbas work (cleared_one lba mark m)

pub units_moved-left : (lbas : List ℕ) (work : Work) (m : Moved) → units_moved (map LeaveBlock lbas) work m ≡ m
unfolding units_moved
units_moved-left [] work m = refl
units_moved-left (lba ∷ lbas) work m =
    ap (units_moved (map LeaveBlock lbas) work) (differed-kept m) ∙ units_moved-left lbas work m
