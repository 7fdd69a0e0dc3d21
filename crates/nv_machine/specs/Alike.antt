-- When two of the mediator's sides are alike to a guest, whatever they hold of other guests, and when two calls come to the same for it. What other guests do
-- is to be seen in the shared numbers alone (profile).
use Rattle.std.specs.Prelude.{◌≡◌, ℕ, map, slice_get}
use Rattle.nv_laws_sound.specs.Side.{Side}
use Rattle.nv_machine.specs.Doing.{Called, tag_at}
use Rattle.nv_world_model.specs.View.{lane_numbers, own_tag}

-- as many lanes, each with the same head and phase tag and with the same tags free; the same tails of the submission rings; the guest's controller; and each tag
-- where it is the guest's
pub record IsAlike (number : ℕ) (s z : Side) : Type 0 where
  pub lanes : map lane_numbers s.lanes ≡ map lane_numbers z.lanes
  pub tails : s.tails ≡ z.tails
  pub controller : slice_get s.controllers number ≡ slice_get z.controllers number
  pub tags : (lane tag : ℕ) → own_tag number (tag_at s lane tag) ≡ own_tag number (tag_at z lane tag)

-- the same reply and the same effects, and sides that are alike
pub record ComeToAlike (number : ℕ) (c d : Called) : Type 0 where
  pub reply : c.reply ≡ d.reply
  pub effects : c.now.effects ≡ d.now.effects
  pub sides : IsAlike number c.now.side d.now.side
