-- What the units of a command leave as it was: bytes that its buffer does not name, and blocks that no unit names.
use Rattle.std.proofs.Common.{◌≡◌, ℕ, ◌*◌, ◌≤◌, Bool, true, false, ◌||◌, ◌==◌, nat_lt, List, [], ◌∷◌, All, drop, cond, refl, sym, ap, ◌∙◌, arith, eqb-true}
use Rattle.std.proofs.lemmas.Bool.Decides.{nat_tests}
use Rattle.std.proofs.lemmas.List.Elements.{All-drop, All-head, All-tail, All-take}
use mathlib.Core.Path.{fun_ext}
use Rattle.nv_entry.specs.declared.opcode.IoOpcode.{IoOpcode}
use Rattle.nv_entry.specs.declared.opcode.IoOpcode.TheVariants.{Flush, Write, Read, Compare, WriteZeroes, DatasetManagement}
use Rattle.nv_mem.specs.Places.{Place, At, Bucket, places_of}
use Rattle.nv_model.specs.Memory.{scattered, stored}
use Rattle.nv_model.specs.Judge.{WorkUnit, MoveBlock, ClearBlock, LeaveBlock, KeepAll, Work, is_read}
use Rattle.nv_model.specs.Laws.{IsAnother, IsElsewhere}
use Rattle.nv_model.specs.Limits.{block}
use Rattle.nv_model.specs.Private.{Moved, block_bytes, block_moved, places_of_block}
use Rattle.nv_model.specs.Carried.{moved_on, units_moved}
use Rattle.nv_model.proofs.UnitWords.{or-false}

-- ---- the memory

stored-elsewhere : (m : ℕ → ℕ) (at byte addr : ℕ) → (at ≡ addr → ⊥) → stored m at (byte ∷ []) addr ≡ m addr
unfolding stored
stored-elsewhere m at byte addr other = grind (arith, nat_tests)

-- bytes scattered to other places
pub scattered-elsewhere : (m : ℕ → ℕ) (places : List Place) (bytes : List ℕ) (addr : ℕ) → All (IsAnother (At addr)) places
    → scattered m places bytes addr ≡ m addr
unfolding scattered
scattered-elsewhere m [] bytes addr each = refl
scattered-elsewhere m (place ∷ places) [] addr each = refl
scattered-elsewhere m (At at ∷ places) (byte ∷ bytes) addr each =
    scattered-elsewhere (stored m at (byte ∷ [])) places bytes addr (All-tail (IsAnother (At addr)) (At at) places each)
    ∙ stored-elsewhere m at byte addr (λ same. All-head (IsAnother (At addr)) (At at) places each (ap At same))
scattered-elsewhere m (Bucket ∷ places) (byte ∷ bytes) addr each =
    scattered-elsewhere m places bytes addr (All-tail (IsAnother (At addr)) Bucket places each)

block-memory_at : (opcode : IoOpcode) (work : Work) (index lba addr : ℕ) (m : Moved)
    → All (IsAnother (At addr)) (places_of work.pieces)
    → (block_moved opcode work index lba m.memory m.disk m.kept).memory addr ≡ m.memory addr
block-memory_at Read work index lba addr m each =
    scattered-elsewhere m.memory (places_of_block work index) (block_bytes m.disk lba) addr
    (All-take (IsAnother (At addr)) block (drop (block * index) (places_of work.pieces)) (All-drop (IsAnother (At addr)) (block * index) (places_of work.pieces) each))
block-memory_at Write work index lba addr m each = refl
block-memory_at Compare work index lba addr m each = refl
block-memory_at WriteZeroes work index lba addr m each = refl
block-memory_at DatasetManagement work index lba addr m each = refl
block-memory_at Flush work index lba addr m each = refl

block-memory : (opcode : IoOpcode) (work : Work) (index lba : ℕ) (m : Moved) → is_read opcode ≡ false
    → (block_moved opcode work index lba m.memory m.disk m.kept).memory ≡ m.memory
block-memory Read work index lba m other = (cc)
block-memory Write work index lba m other = refl
block-memory Compare work index lba m other = refl
block-memory WriteZeroes work index lba m other = refl
block-memory DatasetManagement work index lba m other = refl
block-memory Flush work index lba m other = refl

pub units-memory_at : (units : List WorkUnit) (work : Work) (addr : ℕ) (m : Moved)
    → All (IsAnother (At addr)) (places_of work.pieces)
    → (units_moved units work m).memory addr ≡ m.memory addr
unfolding units_moved
units-memory_at [] work addr m each = refl
units-memory_at (MoveBlock index lba ∷ units) work addr m each =
    units-memory_at units work addr (moved_on (MoveBlock index lba) work m) each
    ∙ block-memory_at work.opcode work index lba addr m each
units-memory_at (ClearBlock lba mark ∷ units) work addr m each =
    units-memory_at units work addr (moved_on (ClearBlock lba mark) work m) each
units-memory_at (LeaveBlock lba ∷ units) work addr m each =
    units-memory_at units work addr (moved_on (LeaveBlock lba) work m) each
units-memory_at (KeepAll blocks ∷ units) work addr m each =
    units-memory_at units work addr (moved_on (KeepAll blocks) work m) each

pub units-memory : (units : List WorkUnit) (work : Work) (m : Moved) → is_read work.opcode ≡ false
    → (units_moved units work m).memory ≡ m.memory
unfolding units_moved
units-memory [] work m other = refl
units-memory (MoveBlock index lba ∷ units) work m other =
    units-memory units work (moved_on (MoveBlock index lba) work m) other
    ∙ block-memory work.opcode work index lba m other
units-memory (ClearBlock lba mark ∷ units) work m other =
    units-memory units work (moved_on (ClearBlock lba mark) work m) other
units-memory (LeaveBlock lba ∷ units) work m other = units-memory units work (moved_on (LeaveBlock lba) work m) other
units-memory (KeepAll blocks ∷ units) work m other = units-memory units work (moved_on (KeepAll blocks) work m) other

-- ---- a Compare

block-differs : (opcode : IoOpcode) (work : Work) (index lba : ℕ) (m : Moved) → (opcode ≡ Compare → ⊥)
    → (block_moved opcode work index lba m.memory m.disk m.kept).differed ≡ false
block-differs Read work index lba m other = refl
block-differs Write work index lba m other = refl
block-differs Compare work index lba m other = absurd (other refl)
block-differs WriteZeroes work index lba m other = refl
block-differs DatasetManagement work index lba m other = refl
block-differs Flush work index lba m other = refl

pub units-differ : (units : List WorkUnit) (work : Work) (m : Moved) → (work.opcode ≡ Compare → ⊥)
    → (units_moved units work m).differed ≡ m.differed
unfolding units_moved
units-differ [] work m other = refl
units-differ (MoveBlock index lba ∷ units) work m other =
    units-differ units work (moved_on (MoveBlock index lba) work m) other
    ∙ ap (λ (b : Bool). m.differed || b) (block-differs work.opcode work index lba m other) ∙ or-false m.differed
units-differ (ClearBlock lba mark ∷ units) work m other =
    units-differ units work (moved_on (ClearBlock lba mark) work m) other ∙ or-false m.differed
units-differ (LeaveBlock lba ∷ units) work m other =
    units-differ units work (moved_on (LeaveBlock lba) work m) other ∙ or-false m.differed
units-differ (KeepAll blocks ∷ units) work m other =
    units-differ units work (moved_on (KeepAll blocks) work m) other ∙ or-false m.differed

-- ---- the disk

-- a block and its mark are as they were
pub record IsSame (lba : ℕ) (m n : Moved) : Type 0 where
  pub bytes : n.disk lba ≡ m.disk lba
  pub mark : n.kept lba ≡ m.kept lba

not-here : {A : Type 0} (lba at : ℕ) (x y : A) → (at ≡ lba → ⊥) → cond (lba == at) x y ≡ y
not-here lba at x y other =
    (elim (lba == at) as (λ b. (lba == at) ≡ b → cond b x y ≡ y) [
      | true ↦ λ is. absurd (other (sym (eqb-true lba at is)))
      | false ↦ λ is. refl
    ]) refl

block-elsewhere : (opcode : IoOpcode) (work : Work) (index at lba : ℕ) (m : Moved) → (at ≡ lba → ⊥)
    → IsSame lba m (block_moved opcode work index at m.memory m.disk m.kept)
block-elsewhere Read work index at lba m other = record { bytes = refl; mark = not-here lba at _ (m.kept lba) other }
block-elsewhere Write work index at lba m other =
    record { bytes = fun_ext (λ offset. not-here lba at _ (m.disk lba offset) other); mark = not-here lba at _ (m.kept lba) other }
block-elsewhere Compare work index at lba m other = record { bytes = refl; mark = not-here lba at _ (m.kept lba) other }
block-elsewhere WriteZeroes work index at lba m other = record { bytes = refl; mark = refl }
block-elsewhere DatasetManagement work index at lba m other = record { bytes = refl; mark = refl }
block-elsewhere Flush work index at lba m other = record { bytes = refl; mark = refl }

unit-elsewhere : (unit : WorkUnit) (work : Work) (lba : ℕ) (m : Moved) → IsElsewhere lba unit
    → IsSame lba m (moved_on unit work m)
unit-elsewhere (MoveBlock index at) work lba m other =
    let same = block-elsewhere work.opcode work index at lba m other in
    record { bytes = same.bytes; mark = same.mark }
unit-elsewhere (ClearBlock at mark) work lba m other =
    record { bytes = fun_ext (λ offset. not-here lba at _ (m.disk lba offset) other); mark = not-here lba at mark (m.kept lba) other }
unit-elsewhere (LeaveBlock at) work lba m other = record { bytes = refl; mark = refl }
unit-elsewhere (KeepAll blocks) work lba m past =
    record { bytes = refl; mark = ap (λ (b : Bool). b || m.kept lba) (not-below lba blocks past) }
  where
    not-below : (lba blocks : ℕ) → blocks ≤ lba → nat_lt lba blocks ≡ false
    not-below lba blocks past = grind (arith, nat_tests)

pub units-elsewhere : (units : List WorkUnit) (work : Work) (lba : ℕ) (m : Moved) → All (IsElsewhere lba) units
    → IsSame lba m (units_moved units work m)
unfolding units_moved
units-elsewhere [] work lba m each = record { bytes = refl; mark = refl }
units-elsewhere (unit ∷ units) work lba m each =
    let one = unit-elsewhere unit work lba m (All-head (IsElsewhere lba) unit units each) in
    let rest = units-elsewhere units work lba (moved_on unit work m) (All-tail (IsElsewhere lba) unit units each) in
    record { bytes = rest.bytes ∙ one.bytes; mark = rest.mark ∙ one.mark }
