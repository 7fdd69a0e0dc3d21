-- A command that has ended, completed for its guest without the host's memory (profile).
use Rattle.std.specs.Prelude.{◌≡◌, ℕ, ◌<◌, if◌then◌else◌, Bool, true, false, List, [], filter, is_some, slice_get, slice_index, slice_set, Option, Some, None}
use Rattle.std.specs.Option.{option_map}
use Rattle.nv_core.specs.Groups.{statuses_in, tags_changed}
use Rattle.nv_core.specs.declared.completing.Completion.{Completion}
use Rattle.nv_core.specs.declared.completing.Ending.{Ending}
use Rattle.nv_entry.specs.Status.{StatusField}
use Rattle.nv_entry.specs.Submission.{cid_of}
use Rattle.nv_laws_sound.specs.Counted.{IsCounted}
use Rattle.nv_laws_sound.specs.Side.{Side}
use Rattle.nv_machine.specs.Doing.{replied}
use Rattle.nv_machine.specs.Effects.{Copy, Effect, Store, completion_stores}
use Rattle.nv_machine.specs.InWorld.{side_of}
use Rattle.nv_machine.specs.Machine.{call}
use Rattle.nv_mem.specs.declared.region.Region.{Region}
use Rattle.nv_model.specs.Controller.{Controller, is_enabled, post, ran_out}
use Rattle.nv_model.specs.Memory.{image, put_image, stored}
use Rattle.nv_model.specs.declared.reply.Reply.{Reply}
use Rattle.nv_model.specs.declared.reply.Reply.TheVariants as reply
use Rattle.nv_vctl.specs.Vctl.{CompletionsFit, controller_behind, posting_of}
use Rattle.nv_vctl.specs.declared.posting.Posting.{Posting}
use Rattle.nv_world_model.specs.Geometry.{Geometry, Guest, regions_of}
use Rattle.nv_world_model.specs.Share.{Share}
use Rattle.nv_world_model.specs.Step.{deciding}
use Rattle.nv_world_model.specs.World.{Command, Ended, Free, Lane, World, group_in}
use Rattle.nv_world_model.specs.declared.event.Event.{Event}

-- each guest's controller counts the guest's commands, in each world that has this side
abbrev pub AreCounted : Geometry → Side → Type 0
AreCounted geometry side = (w : World) → side_of w ≡ side → IsCounted geometry w

-- ---- effects

-- the copies of some effects
abbrev pub is_copy : Effect → Bool
is_copy (Store to bytes) = false
is_copy (Copy from to) = true

abbrev pub copies : List Effect → List Effect
copies effects = filter is_copy effects

-- the stores of a completion, in the memory of its guest
abbrev pub stored_for : Option Guest → Posting → List Effect
stored_for None p = []
stored_for (Some given) p = completion_stores (regions_of given) p.addr p.entry

abbrev pub stores_of : Geometry → Option Completion → List Effect
stores_of geometry None = []
stores_of geometry (Some c) = stored_for (slice_get geometry.guests c.guest) c.posting

-- the host after a completion is stored in a guest's memory, where there is one
abbrev pub completion_stored : Option Completion → List Region → (host : ℕ → ℕ) → ℕ → ℕ
completion_stored None regions host = host
completion_stored (Some c) regions host = put_image regions (stored (image regions host) c.posting.addr c.posting.entry) host

-- ---- one by one

-- an event without fetched bytes is answered, and nothing else: it has no effects, and the side stays
pub record IsAnswered (geometry : Geometry) (e : Event) (s : Side) (r : Reply) : Type 0 where
  pub is : call geometry e [] s ≡ replied r (record { side = s; effects = [] })
  pub undone : r ≡ reply.Done → ⊥

-- the completion of a command of a queue that has ended, and the controller after it: the command runs out where the controller is not enabled
abbrev pub ended_posting : (queue cid : ℕ) → StatusField → Controller → Option Posting
ended_posting queue cid st c = if is_enabled c then option_map posting_of (post c queue 0 cid st) else None

abbrev pub ended_controller : (queue cid : ℕ) → StatusField → Controller → Controller
ended_controller queue cid st c = if is_enabled c then controller_behind c (post c queue 0 cid st) else ran_out c queue

-- the completion that a guest is told
abbrev pub completion_for : (guest : ℕ) → Option Posting → Option Completion
completion_for guest p = option_map (λ x. record { guest = guest; posting = x }) p

-- whether there is room for a completion, if there is to be one
abbrev pub may_end : (queue cid : ℕ) → StatusField → Controller → Bool
may_end queue cid st c = if is_enabled c then is_some (post c queue 0 cid st) else true

-- the command that goes by a tag has ended, with that status, and may be completed for its guest
pub record IsEnding (lane tag : ℕ) (s : Side) (e : Ending) : Type 0 where
  pub at : Lane
  pub command : Command
  pub first : StatusField
  pub share : Option Share
  pub controller : Controller
  pub found : slice_get s.lanes lane ≡ Some at
  pub there : slice_get at.tags tag ≡ Some (Ended command first share)
  pub led : command.leader ≡ tag
  pub guest_is : e.guest ≡ command.guest
  pub queue_is : e.queue ≡ command.queue
  pub cid_is : e.cid ≡ cid_of command.entry
  pub has : slice_get s.controllers command.guest ≡ Some controller
  pub decided : option_map deciding (statuses_in (group_in (Some at) tag) at) ≡ Some e.status
  pub room : may_end e.queue e.cid e.status controller ≡ true
  pub fits : CompletionsFit controller

-- its controller counts it
abbrev pub IsCountedIn : Side → Ending → Type 0
IsCountedIn s e = (c : Controller) → slice_get s.controllers e.guest ≡ Some c → (0 < e.queue) × (0 < slice_index c.taken e.queue)

-- its tags are free, and its controller goes on
abbrev pub ended_side : (lane tag : ℕ) → Ending → Lane → Controller → Side → Side
ended_side lane tag e l c s =
    record s {
      lanes = slice_set s.lanes lane (tags_changed (group_in (Some l) tag) Free l);
      controllers = slice_set s.controllers e.guest (ended_controller e.queue e.cid e.status c);
    }
