use Rattle.std.proofs.Common.{◌≡◌, sym, subst, ap, ◌∙◌, ℕ, List, slice_get, Some}
use Rattle.nv_mem.specs.GuestMap.{IsSound}
use Rattle.nv_mediator.specs.Hosted.{MayBeGiven}
use Rattle.nv_world_model.specs.Geometry.{Geometry, Guest}
use Rattle.nv_world_model.specs.SetUp.{SetUp}
use Rattle.nv_mediator.proofs.setup.Setup.into_layout.Goals as goal

pub all_given-requires : goal.all_given-requires
all_given-requires c =
    subst (λ (s : SetUp). (number : ℕ) (guest : Guest) → slice_get s.geometry.guests number ≡ Some guest → MayBeGiven guest) (sym c.self.view_is) c.requires

pub returns-clause-given : goal.returns-clause-given
returns-clause-given c =
    c.new.ensures
    ∙ ap (λ (g : List Guest). let x : Geometry = record { mediator = c.self.inside.mediator; disk_blocks = c.self.inside.disk_blocks; guests = g } in x)
    c.in_ok-guests.ensures.given
    ∙ ap (λ (s : SetUp). s.geometry) c.self.view_is

pub returns-clause-sound : goal.returns-clause-sound
returns-clause-sound c =
    subst (λ (g : Geometry). (number : ℕ) (guest : Guest) → slice_get g.guests number ≡ Some guest → IsSound guest.memory_map) (sym c.new.ensures)
    c.in_ok-guests.ensures.sound
