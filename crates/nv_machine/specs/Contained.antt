-- What a call may fetch, and what its effects may touch, whatever bytes were fetched: of guests the memory, tags and pages of the one that it is for, and
-- of the rings the next slots, which get entries of the owner's. Neither a world nor the physical controller is in it. Isolation between guests is the project's own (profile).
use Rattle.std.specs.Prelude.{◌≡◌, ◌≢◌, ℕ, ◌+◌, ◌<◌, ◌≤◌, All, Bool, true, false, ◌&&◌, ◌==◌, List, [], ◌∷◌, length, slice_get, take, Option, Some, None}
use Rattle.std.specs.Bool.{⊤}
use Rattle.std.specs.List.{Contains}
use Rattle.nv_entry.specs.Completion.{cid_of as completed_cid}
use Rattle.nv_laws_sound.specs.Consistent.{IsBetween}
use Rattle.nv_laws_sound.specs.Side.{Side}
use Rattle.nv_machine.specs.Doing.{tag_at}
use Rattle.nv_machine.specs.Effects.{Copy, Effect, Store}
use Rattle.nv_machine.specs.Machine.{call, fetch, fetch_then, in_order, is_flying}
use Rattle.nv_model.specs.Queue.{cqe_size, sqe_size}
use Rattle.nv_world_model.specs.Area.{completion_slot, list_page, submission_slot}
use Rattle.nv_world_model.specs.Contained.{guest_of_one}
use Rattle.nv_world_model.specs.Geometry.{Geometry, Guest}
use Rattle.nv_world_model.specs.Share.{Share}
use Rattle.nv_world_model.specs.ShareArea.{share_entry}
use Rattle.nv_world_model.specs.View.{guest_of_tag, in_image, own_tag}
use Rattle.nv_world_model.specs.World.{Command, Flying, Lane, Queued, Tag}
use Rattle.nv_world_model.specs.declared.event.Event.{Event}
use Rattle.nv_world_model.specs.declared.event.Event.TheVariants as event

-- ---- what was fetched

-- as many bytes as were asked for: those that are fetched first, and those that are fetched then
abbrev pub IsFetched : Geometry → Event → Side → (fetched : List ℕ) → Type 0
IsFetched geometry e s fetched =
    length fetched ≡ length (fetch geometry e s) + length (fetch_then geometry e s (take (length (fetch geometry e s)) fetched))

-- the side after several calls, with what was fetched for each
unfoldable pub after_calls : Geometry → List (Event × List ℕ) → Side → Side
after_calls geometry [] s = s
after_calls geometry (one ∷ calls) s = after_calls geometry calls (call geometry one.0 one.1 s).now.side

-- for each as many bytes as were asked for, whichever they are
unfoldable pub AreFetched : Geometry → List (Event × List ℕ) → Side → Type 0
AreFetched geometry [] s = ⊤
AreFetched geometry (one ∷ calls) s = IsFetched geometry one.0 s one.1 × AreFetched geometry calls (call geometry one.0 one.1 s).now.side

-- ---- the owner

-- the guest that a call is for: that of the event, of the tag that it names, or of the tag that the fetched completion names
abbrev pub guest_for : Event → (fetched : List ℕ) → Side → Option ℕ
guest_for (event.Guest guest a) fetched s = Some guest
guest_for (event.Admin guest) fetched s = Some guest
guest_for (event.Take guest queue lane) fetched s = Some guest
guest_for (event.List lane tag addr len) fetched s = guest_of_one (tag_at s lane tag)
guest_for (event.Submit lane tag) fetched s = guest_of_one (tag_at s lane tag)
guest_for (event.GiveUp lane tag) fetched s = guest_of_one (tag_at s lane tag)
guest_for (event.Reap lane) fetched s = guest_of_one (tag_at s lane (completed_cid (in_order fetched)))
guest_for (event.Post lane tag) fetched s = guest_of_one (tag_at s lane tag)
guest_for _ fetched s = None

-- ---- host addresses

-- a host address is the memory of a guest, or in the list page or the bounce pages of one of its tags
pub data IsOwn (geometry : Geometry) (s : Side) (number : ℕ) (at : ℕ) : Type 0 where
  OfMemory : (given : Guest) → slice_get geometry.guests number ≡ Some given → in_image given at ≡ true → IsOwn geometry s number at
  OfPages : (lane tag : ℕ) (t : Tag) → tag_at s lane tag ≡ Some t → guest_of_tag t ≡ Some number → list_page geometry.mediator lane tag ≤ at
      → at < list_page geometry.mediator lane (tag + 1) → IsOwn geometry s number at

-- or it is in one of the slots of a lane's submission ring from its tail up to the one after the call
pub data IsOwnOrNext (geometry : Geometry) (s after : Side) (number : ℕ) (at : ℕ) : Type 0 where
  Own : IsOwn geometry s number at → IsOwnOrNext geometry s after number at
  NextSlot : (lane tail behind slot : ℕ) → slice_get s.tails lane ≡ Some tail → slice_get after.tails lane ≡ Some behind → IsBetween tail behind slot
      → submission_slot geometry.mediator lane slot ≤ at → at < submission_slot geometry.mediator lane slot + sqe_size → IsOwnOrNext geometry s after number at

-- what may be fetched: a Reap fetches of the slot of its lane's completion ring that is read next, and all others of the owner's memory
abbrev pub MayFetch : Geometry → Event → Side → (number : Option ℕ) → (at : ℕ) → Type 0
MayFetch geometry (event.Reap lane) s number at =
    (l : Lane) × ((slice_get s.lanes lane ≡ Some l) × ((completion_slot geometry.mediator lane l.head ≤ at)
    × (at < completion_slot geometry.mediator lane l.head + cqe_size)))
MayFetch geometry e s None at = ⊥
MayFetch geometry e s (Some number) at = (given : Guest) × ((slice_get geometry.guests number ≡ Some given) × (in_image given at ≡ true))

-- what an effect may do
abbrev pub MayDo : Geometry → (s after : Side) → (number : Option ℕ) → Effect → Type 0
MayDo geometry s after None effect = ⊥
MayDo geometry s after (Some number) (Store to bytes) = (i : ℕ) → i < length bytes → IsOwnOrNext geometry s after number (to + i)
MayDo geometry s after (Some number) (Copy from to) = IsOwn geometry s number from × IsOwn geometry s number to

-- a slot of a lane's submission ring gets the physical entry of a share of the owner's, under a tag that flies with that slot after the call
pub record HasEntry (geometry : Geometry) (after : Side) (number lane slot : ℕ) (effects : List Effect) : Type 0 where
  pub given : Guest
  pub is : slice_get geometry.guests number ≡ Some given
  pub command : Command
  pub whose : command.guest ≡ number
  pub share : Share
  pub tag : ℕ
  pub flies : tag_at after lane tag ≡ Some (Flying command share (Queued slot))
  pub stored : Contains effects
      (Store (submission_slot geometry.mediator lane slot) (share_entry share given.namespace given command.entry geometry.mediator lane tag))

-- what the tail of a lane's submission ring may pass, so that the physical controller takes it
abbrev pub MayPass : Geometry → (after : Side) → (number : Option ℕ) → (lane slot : ℕ) → List Effect → Type 0
MayPass geometry after None lane slot effects = ⊥
MayPass geometry after (Some number) lane slot effects = HasEntry geometry after number lane slot effects

-- ---- the mediator's side

-- what is another guest's is as before: its controller, its tags, and which tags are whose
pub record LeavesOthers (number : Option ℕ) (s after : Side) : Type 0 where
  pub controllers : (other : ℕ) → number ≢ Some other → slice_get after.controllers other ≡ slice_get s.controllers other
  pub tags : (other lane tag : ℕ) → number ≢ Some other → own_tag other (tag_at after lane tag) ≡ own_tag other (tag_at s lane tag)

-- a completion that was fetched is read, and names that tag
abbrev pub reads_for : Event → (fetched : List ℕ) → (lane tag : ℕ) → Bool
reads_for (event.Reap number) fetched lane tag = number == lane && completed_cid (in_order fetched) == tag
reads_for _ fetched lane tag = false

-- what was handed on stays in flight until its completion is read: nothing of the physical controller's reaches a tag that is another's by then
abbrev pub LeavesFlying : Event → (fetched : List ℕ) → (s after : Side) → Type 0
LeavesFlying e fetched s after =
    (lane tag : ℕ) → is_flying (tag_at s lane tag) ≡ true → reads_for e fetched lane tag ≡ false → tag_at after lane tag ≡ tag_at s lane tag

-- ---- the whole

-- a call is contained
pub record IsContained (geometry : Geometry) (e : Event) (fetched : List ℕ) (s : Side) : Type 0 where
  pub first : All (MayFetch geometry e s (guest_for e fetched s)) (fetch geometry e s)
  pub then : All (MayFetch geometry e s (guest_for e fetched s)) (fetch_then geometry e s (take (length (fetch geometry e s)) fetched))
  pub effects : All (MayDo geometry s (call geometry e fetched s).now.side (guest_for e fetched s)) (call geometry e fetched s).now.effects
  pub others : LeavesOthers (guest_for e fetched s) s (call geometry e fetched s).now.side
  pub rings : (lane tail behind slot : ℕ) → slice_get s.tails lane ≡ Some tail → slice_get (call geometry e fetched s).now.side.tails lane ≡ Some behind
      → IsBetween tail behind slot
      → MayPass geometry (call geometry e fetched s).now.side (guest_for e fetched s) lane slot (call geometry e fetched s).now.effects
  pub flying : LeavesFlying e fetched s (call geometry e fetched s).now.side
