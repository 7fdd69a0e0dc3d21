use Rattle.std.proofs.Common.{◌≡◌, ℕ, Bool, true, false, arith, refl}
use Rattle.nv_model.specs.Memory.{image, stored}
use Rattle.nv_world_model.specs.CutDown.{cut}
use Rattle.nv_world_model.specs.View.{shown, shared_numbers}
use Rattle.nv_world_model.specs.World.{opening_world}
use Rattle.nv_examples.specs.extents.Guests.{first}
use Rattle.nv_examples.proofs.extents.contained.followed.Goals as goal

-- that byte
pub returns-clause-the_last_block : goal.returns-clause-the_last_block
unfolding image stored cut shown shared_numbers opening_world
returns-clause-the_last_block c k = (let bad : ◌≡◌ {A = ℕ} 9 0 = (k.own 0 first refl refl).alike.view.memory 0x3fff in absurd (omega arith))

-- that byte
pub returns-clause-the_first_block : goal.returns-clause-the_first_block
unfolding image stored cut shown shared_numbers opening_world
returns-clause-the_first_block c k = (let bad : ◌≡◌ {A = ℕ} 9 0 = (k.own 0 first refl refl).alike.view.memory 0x3fff in absurd (omega arith))

-- its first byte
pub returns-clause-its_own_last_block : goal.returns-clause-its_own_last_block
unfolding image stored cut shown shared_numbers opening_world
returns-clause-its_own_last_block c k = (let bad : ◌≡◌ {A = ℕ} 0 10 = (k.own 0 first refl refl).alike.view.blocks 3 0 (omega arith) in absurd (omega arith))

-- that mark
pub returns-clause-its_own_last_mark : goal.returns-clause-its_own_last_mark
unfolding image stored cut shown shared_numbers opening_world
returns-clause-its_own_last_mark c k = (let bad : ◌≡◌ {A = Bool} false true = (k.own 0 first refl refl).alike.marks 3 (omega arith) in absurd (cc))
