-- Blocks that move one after another
use Rattle.std.proofs.Common.{◌≡◌, ℕ, suc, ◌+◌, ◌-◌, ◌*◌, ◌<◌, ◌≤◌, Bool, false, List, length, drop, arith, refl, sym, ap, ◌∙◌}
use Rattle.std.proofs.lemmas.List.{drop-drop, length-drop}
use Rattle.nv_mem.specs.Places.{Place}
use Rattle.nv_model.specs.Judge.{Work, MoveBlock}
use Rattle.nv_model.specs.Carried.{moved_on, units_moved}
use Rattle.nv_model.specs.Carrying.{units_from}
use Rattle.nv_disk.specs.Flat.{Flat, moved_of}
use Rattle.nv_disk.proofs.MoveLemmas.{units_moved-from, units_moved-none}

-- what a loop over the blocks of a transfer keeps
pub record IsMoving (work : Work) (slba count : ℕ) (all : List Place) (old : Flat) (index : ℕ) (f : Flat) (differed : Bool) (buffer : List Place) : Type 0 where
  pub units : units_moved (units_from index (slba + index) (count - index)) work (moved_of f differed) ≡ units_moved (units_from 0 slba count) work (moved_of old false)
  pub left : buffer ≡ drop (512 * index) all
  pub memory_size : length f.memory ≡ length old.memory
  pub disk_size : length f.disk ≡ length old.disk

-- before the first block
pub IsMoving-start : (work : Work) (slba count : ℕ) (all : List Place) (old : Flat)
    → IsMoving work slba count all old 0 old false all
IsMoving-start work slba count all old =
    let e : slba + 0 ≡ slba = omega arith in
    let n : count - 0 ≡ count = omega arith in
    record {
      units = ap (λ (lba : ℕ). units_moved (units_from 0 lba (count - 0)) work (moved_of old false)) e ∙ ap (λ (k : ℕ). units_moved (units_from 0 slba k) work (moved_of old false)) n;
      left = refl;
      memory_size = refl;
      disk_size = refl;
    }

-- one more
pub IsMoving-more : (work : Work) (slba count : ℕ) (all : List Place) (old : Flat) (index : ℕ) (f g : Flat) (differed differs : Bool) (buffer rest : List Place)
    → IsMoving work slba count all old index f differed buffer → index < count
    → moved_of g differs ≡ moved_on (MoveBlock index (slba + index)) work (moved_of f differed)
    → rest ≡ drop 512 buffer → length g.memory ≡ length f.memory → length g.disk ≡ length f.disk
    → IsMoving work slba count all old (index + 1) g differs rest
IsMoving-more work slba count all old index f g differed differs buffer rest so_far below moved behind memory_size disk_size =
    let next : slba + (index + 1) ≡ slba + index + 1 = omega arith in
    let left : count - index ≡ suc (count - (index + 1)) = omega arith in
    let at : 512 * index + 512 ≡ 512 * (index + 1) = omega arith in
    record {
      units =
          ap (λ (lba : ℕ). units_moved (units_from (index + 1) lba (count - (index + 1))) work (moved_of g differs)) next
          ∙ ap (units_moved (units_from (index + 1) (slba + index + 1) (count - (index + 1))) work) moved
          ∙ sym (units_moved-from work (moved_of f differed) index (slba + index) (count - (index + 1)) (count - index) left)
          ∙ so_far.units;
      left = behind ∙ ap (drop 512) so_far.left ∙ drop-drop 512 (512 * index) all ∙ ap (λ (n : ℕ). drop n all) at;
      memory_size = memory_size ∙ so_far.memory_size;
      disk_size = disk_size ∙ so_far.disk_size;
    }

-- behind the last
pub IsMoving-end : (work : Work) (slba count : ℕ) (all : List Place) (old : Flat) (index : ℕ) (f : Flat) (differed : Bool) (buffer : List Place)
    → IsMoving work slba count all old index f differed buffer → count ≤ index
    → moved_of f differed ≡ units_moved (units_from 0 slba count) work (moved_of old false)
IsMoving-end work slba count all old index f differed buffer so_far past =
    sym (units_moved-none work (moved_of f differed) index (slba + index) (count - index) (omega arith)) ∙ so_far.units

-- enough is left for a block
pub IsMoving-enough : (work : Work) (slba count : ℕ) (all : List Place) (old : Flat) (index : ℕ) (f : Flat) (differed : Bool) (buffer : List Place)
    → IsMoving work slba count all old index f differed buffer → index < count → 512 * count ≤ length all
    → 512 ≤ length buffer
IsMoving-enough work slba count all old index f differed buffer so_far below enough =
    let len : length buffer ≡ length all - 512 * index = ap length so_far.left ∙ length-drop (512 * index) all in
    omega arith
