-- Commands that wait for room in their guests' completion queues, as they are noted (profile).
use Rattle.std.specs.Prelude.{◌≡◌, ◌==◌, ℕ, if◌then◌else◌, true, replicate, slice_get, Some}
use Rattle.std.specs.List.{list_any}
use Rattle.nv_laws_sound.specs.Side.{Side}
use Rattle.nv_core.specs.FullQueues.{IsFull}
use Rattle.nv_core.specs.News.{tags_at}
use Rattle.nv_core.specs.Tags.{command_at}
use Rattle.nv_host.specs.Served.{IsServed, Served}
use Rattle.nv_host.specs.declared.holds.Holds.{Holds}
use Rattle.nv_model.specs.declared.reply.Reply.{Reply}
use Rattle.nv_tags.specs.Kept.{tags_in}
use Rattle.nv_world_model.specs.SetUp.{most_lanes}
use Rattle.nv_world_model.specs.Step.{is_telling}
use Rattle.nv_world_model.specs.World.{Command, tag_in}

-- none is noted
abbrev pub no_holds : Holds
no_holds = record { guests = 0; tags = replicate most_lanes 0 }

-- all are dropped where a guest is noted; so they are by an event of it that was answered so
abbrev pub forgotten : Holds → (guest : ℕ) → Holds
forgotten holds guest = if list_any (λ g. g == guest) (tags_in holds.guests) then no_holds else holds

abbrev pub noted : Holds → Reply → (guest : ℕ) → Holds
noted holds r guest = if is_telling r then forgotten holds guest else holds

-- each command that is noted is one of the guests that are noted, and its completion queue is full
abbrev pub AreHeld : Side → Holds → Type 0
AreHeld side holds = (lane tag : ℕ) (command : Command)
    → list_any (λ t. t == tag) (tags_at holds.tags lane) ≡ true
    → command_at (tag_in (slice_get side.lanes lane) tag) ≡ Some command
    → (list_any (λ g. g == command.guest) (tags_in holds.guests) ≡ true) × IsFull command.guest command.queue side

-- what a mediator keeps with its notes
pub record IsServedWith (h : Served) (holds : Holds) : Type 0 where
  pub served : IsServed h
  pub held : AreHeld h.side holds
