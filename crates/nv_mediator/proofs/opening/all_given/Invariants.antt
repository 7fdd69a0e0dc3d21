use Rattle.std.proofs.Common.{◌≡◌, ◌++◌, ℕ, List, Some, slice_get}
use Rattle.nv_mem.specs.GuestMap.{IsSound}
use Rattle.nv_world_model.specs.Geometry.{Guest}
use Rattle.nv_mediator.proofs.opening.all_given.Given as goal

-- those that were given, and those to come
pub record Going (guests : List Guest) (given : List Guest) (rest : List Guest) : Type 0 where
  pub all : guests ≡ given ++ rest
  pub sound : (number : ℕ) (guest : Guest) → slice_get given number ≡ Some guest → IsSound guest.memory_map

abbrev pub invariant-loop-guest : goal.invariant-loop-guest
invariant-loop-guest l = Going l.fn.guests.items l.given.items l.guest-iterator.rest.items
