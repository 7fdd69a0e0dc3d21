use Rattle.std.proofs.Common.{◌≡◌, ℕ, Bool, true, false, arith, refl}
use Rattle.nv_model.specs.Memory.{image, stored}
use Rattle.nv_world_model.specs.CutDown.{cut}
use Rattle.nv_world_model.specs.View.{shown, shared_numbers}
use Rattle.nv_world_model.specs.World.{opening_world}
use Rattle.nv_examples.proofs.extents.contained.changed.Goals as goal

-- its first byte
pub returns-clause-its_last_block : goal.returns-clause-its_last_block
unfolding image stored cut shown shared_numbers opening_world
returns-clause-its_last_block c k = (let bad : ◌≡◌ {A = ℕ} 13 0 = k.others.blocks 13 0 refl in absurd (omega arith))

-- that mark
pub returns-clause-its_last_mark : goal.returns-clause-its_last_mark
unfolding image stored cut shown shared_numbers opening_world
returns-clause-its_last_mark c k = (let bad : ◌≡◌ {A = Bool} false true = k.others.marks 13 refl refl in absurd (cc))

-- that mark
pub returns-clause-its_first_mark : goal.returns-clause-its_first_mark
unfolding image stored cut shown shared_numbers opening_world
returns-clause-its_first_mark c k = (let bad : ◌≡◌ {A = Bool} false true = k.others.marks 4 refl refl in absurd (cc))
