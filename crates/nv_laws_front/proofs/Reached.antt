-- From the start, call by call, to the promise.
use Rattle.std.proofs.Common.{◌≡◌, ℕ, List, [], ◌∷◌, ◌++◌, slice_get, map, None, Some, refl, sym, subst, ap, ◌∙◌}
use Rattle.std.proofs.lemmas.List.{length-replicate}
use Rattle.std.proofs.lemmas.List.Elements.{All-append, All-cons, All-nil}
use Rattle.nv_core.proofs.FrontLaws.{controller-beside, start-side}
use Rattle.nv_core.specs.Front.{IsBeside, IsLive, IsStepBeside}
use Rattle.nv_laws_sound.specs.Side.{Side, opening_side}
use Rattle.nv_laws.proofs.headline.Each.{promise-kept}
use Rattle.nv_laws.specs.Alike.{HasFittingStatus}
use Rattle.nv_laws_front.specs.Reached.{IsFirst, IsReached}
use Rattle.nv_laws_sound.proofs.LaidOuts.{host-laid-out}
use Rattle.nv_laws_sound.proofs.Openings.{opening-consistent}
use Rattle.nv_laws_sound.proofs.Steps.{replay-consistent}
use Rattle.nv_laws_sound.proofs.phases.Steps.{opening-phased, replay-phased}
use Rattle.nv_laws_sound.specs.LaidOut.{IsLaidOut}
use Rattle.nv_laws_sound.specs.Mediators.{IsMediators}
use Rattle.nv_laws_sound.specs.Phased.{AreRingsClear}
use Rattle.nv_laws_sound.specs.Unplaced.{IsControllers, unplaced_lane}
use Rattle.nv_mediator.proofs.Logs.{replay-more}
use Rattle.nv_mem.specs.GuestMap.{IsSound}
use Rattle.nv_model.specs.Memory.{byte_in}
use Rattle.nv_model.specs.declared.reply.Reply.{Reply}
use Rattle.nv_world_model.specs.declared.event.Event.{Event}
use Rattle.nv_world_model.specs.declared.event.Event.TheVariants as event
use Rattle.nv_world_model.specs.declared.logged.Logged.{Logged}
use Rattle.nv_world_model.specs.Geometry.{Geometry, Guest}
use Rattle.nv_world_model.specs.Headline.{Headline}
use Rattle.nv_world_model.specs.Log.{IsReplay, events_of}
use Rattle.nv_world_model.specs.SetUp.{SetUp, host_refusal_of}
use Rattle.nv_world_model.specs.Step.{After, replay, replies, step}
use Rattle.nv_world_model.specs.World.{World, opening_lane, opening_world}

-- the start
pub start-first : (s : SetUp) (host : ℕ → ℕ) (disk : ℕ → ℕ → ℕ) → AreRingsClear s host → IsFirst s (opening_world host disk s.geometry s.lanes)
unfolding opening_world
start-first s host disk clear = record { world = refl; clear = clear }

pub start-reached : (s : SetUp) (memory : List ℕ) (disk : ℕ → ℕ → ℕ) → AreRingsClear s (byte_in memory)
    → (let w = opening_world (byte_in memory) disk s.geometry s.lanes in IsReached s w (opening_side s.geometry s.lanes) memory [] w)
unfolding replay replies
start-reached s memory disk clear =
    let is = start-side memory disk s.geometry s.lanes in
    record {
      starts = start-first s (byte_in memory) disk clear;
      replayed = record { end = refl; told = refl };
      fitting = All-nil (λ l. HasFittingStatus l.event);
      beside = record { host = is.host; lanes = ap (λ ls. map unplaced_lane ls) is.lanes; controllers = is.controllers; tails = is.tails };
    }

-- an event of a guest or of the mediator fails no command
fits-mediators : (e : Event) → IsMediators e → HasFittingStatus e
fits-mediators (event.Guest guest a) mine = tt
fits-mediators (event.Admin guest) mine = tt
fits-mediators (event.Take guest queue lane) mine = tt
fits-mediators (event.List lane tag addr len) mine = tt
fits-mediators (event.Submit lane tag) mine = tt
fits-mediators (event.GiveUp lane tag) mine = tt
fits-mediators (event.DevTake lane) mine = absurd mine
fits-mediators (event.DevMove lane slot number) mine = absurd mine
fits-mediators (event.DevPost lane slot) mine = absurd mine
fits-mediators (event.DevFail lane slot st) mine = absurd mine
fits-mediators (event.Keep block) mine = absurd mine
fits-mediators (event.Reap lane) mine = tt
fits-mediators (event.Post lane tag) mine = tt

-- a replay and one more event, with its step's reply
replay-longer : (geometry : Geometry) (l : Logged) (log : List Logged) (w z : World) → IsReplay geometry w log z
    → (step geometry l.event z).reply ≡ l.reply → IsReplay geometry w (log ++ l ∷ []) (step geometry l.event z).world
replay-longer geometry l log w z so is =
    let after : World = (step geometry l.event z).world in
    replay-more geometry l log w z after so (ap (λ (r : Reply). let a : After = record { world = after; reply = r } in a) (sym is))

-- a log and one more event that may be in it
reached-more : (s : SetUp) (first : World) (l : Logged) (old new : Side) (before after : List ℕ) (log : List Logged) (z : World) → HasFittingStatus l.event
    → IsReached s first old before log z → (step s.geometry l.event z).reply ≡ l.reply → IsBeside new after (step s.geometry l.event z).world
    → IsReached s first new after (log ++ l ∷ []) (step s.geometry l.event z).world
reached-more s first l old new before after log z fits so is beside =
    record {
      starts = so.starts;
      replayed = replay-longer s.geometry l log first z so.replayed is;
      fitting =
          All-append (λ l. HasFittingStatus l.event) log (l ∷ []) so.fitting
          (All-cons (λ l. HasFittingStatus l.event) l [] fits (All-nil (λ l. HasFittingStatus l.event)));
      beside = beside;
    }

-- a call
pub call-reached : (s : SetUp) (first : World) (e : Event) (old new : Side) (before after : List ℕ) (r : Reply) (log : List Logged) (z : World) → IsMediators e
    → IsReached s first old before log z → IsStepBeside s.geometry e z r new after
    → IsReached s first new after (log ++ record { event = e; reply = r } ∷ []) (step s.geometry e z).world
call-reached s first e old new before after r log z mine so is =
    reached-more s first (record { event = e; reply = r }) old new before after log z (fits-mediators e mine) so is.reply is.world

-- what the physical controller does
pub controller-reached : (s : SetUp) (first : World) (e : Event) (side : Side) (before after : List ℕ) (log : List Logged) (z : World) → IsControllers e
    → HasFittingStatus e → IsReached s first side before log z → (step s.geometry e z).world.host ≡ byte_in after
    → IsReached s first side after (log ++ record { event = e; reply = (step s.geometry e z).reply } ∷ []) (step s.geometry e z).world
controller-reached s first e side before after log z his fits so host =
    reached-more s first (record { event = e; reply = (step s.geometry e z).reply }) side side before after log z fits so refl
    (controller-beside s.geometry e his side before after z so.beside host)

-- the world at the start, as it was made
module _ (s : SetUp) (none : host_refusal_of s ≡ None)
    (sound : (number : ℕ) (guest : Guest) → slice_get s.geometry.guests number ≡ Some guest → IsSound guest.memory_map)
    (host : ℕ → ℕ) (disk : ℕ → ℕ → ℕ) where
  abbrev opened : World
  opened = opening_world host disk s.geometry s.lanes

  opened-live : AreRingsClear s host → (log : List Logged) → IsLive s.geometry (replay s.geometry (events_of log) opened)
  unfolding opening_world
  opened-live clear log =
      let laid = subst (λ n. IsLaidOut s.host_bytes n s.geometry) (sym (length-replicate s.lanes opening_lane)) (host-laid-out s none sound) in
      let opening = opening-consistent host disk s.geometry s.lanes in
      record {
        consistent = replay-consistent s.host_bytes s.geometry (events_of log) opened laid opening;
        phased = replay-phased s.host_bytes s.geometry (events_of log) opened laid opening (opening-phased s host disk clear);
      }

-- as events leave it
pub reached-live : (s : SetUp) (first : World) (side : Side) (memory : List ℕ) (log : List Logged) (z : World) → host_refusal_of s ≡ None
    → ((number : ℕ) (guest : Guest) → slice_get s.geometry.guests number ≡ Some guest → IsSound guest.memory_map)
    → IsReached s first side memory log z → IsLive s.geometry z
reached-live s first side memory log z none sound so =
    subst (IsLive s.geometry) (ap (λ (w : World). replay s.geometry (events_of log) w) (sym so.starts.world) ∙ so.replayed.end)
    (opened-live s none sound first.host first.disk so.starts.clear log)

pub reached-promised : (s : SetUp) (first : World) (side : Side) (memory : List ℕ) (log : List Logged) (z : World) → host_refusal_of s ≡ None
    → ((number : ℕ) (guest : Guest) → slice_get s.geometry.guests number ≡ Some guest → IsSound guest.memory_map)
    → IsReached s first side memory log z → Headline s.geometry first log z
reached-promised s first side memory log z none sound so =
    subst (λ (w : World). Headline s.geometry w log z) (sym so.starts.world)
    (promise-kept s first.host first.disk log z none sound so.fitting
    (subst (λ (w : World). IsReplay s.geometry w log z) so.starts.world so.replayed))
