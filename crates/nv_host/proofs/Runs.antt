-- Events by which a lane's commands end, one after the other, from one world to another, and the log of them.
use Rattle.std.proofs.Common.{◌≡◌, ℕ, List, [], ◌∷◌, ◌++◌, length, refl, sym, ap, ◌∙◌, subst, append_assoc, append-nil, lit<}
use Rattle.std.proofs.lemmas.List.{length-map}
use Rattle.std.proofs.lemmas.List.Elements.{All-append, All-cons, All-head, All-nil, All-tail}
use Rattle.std.specs.List.{All}
use Rattle.nv_core.specs.Front.{IsBeside, IsLive}
use Rattle.nv_laws_sound.specs.Side.{Side}
use Rattle.nv_host.specs.Closing.{Fails, GivesUp, IsEnding, IsEndedBy, Reads, Takes}
use Rattle.nv_host.specs.Ending.{IsIdleRun, IsRun, Leads}
use Rattle.nv_host.specs.Served.{LeadsTo, Served}
use Rattle.nv_laws.specs.Alike.{HasFittingStatus}
use Rattle.nv_laws_sound.proofs.Steps.{step-consistent}
use Rattle.nv_laws_sound.proofs.phases.Steps.{step-phased}
use Rattle.nv_laws_sound.specs.LaidOut.{IsLaidOut}
use Rattle.nv_laws_sound.specs.Unplaced.{unplaced_lane}
use Rattle.nv_mediator.proofs.Logs.{replay-more}
use Rattle.nv_world_model.specs.Geometry.{Geometry}
use Rattle.nv_world_model.specs.Log.{IsReplay}
use Rattle.nv_world_model.specs.Step.{replay, step}
use Rattle.nv_world_model.specs.World.{Lane, World}
use Rattle.nv_world_model.specs.declared.event.Event.{Event}
use Rattle.nv_world_model.specs.declared.logged.Logged.{Logged}

-- ---- runs

module _ (geometry : Geometry) (lane : ℕ) where
  replay-append : (es fs : List Event) (w : World) → replay geometry (es ++ fs) w ≡ replay geometry fs (replay geometry es w)
  unfolding replay
  replay-append [] fs w = refl
  replay-append (e ∷ es) fs w = replay-append es fs (step geometry e w).world

  pub lead-same : (w : World) (side : Side) (memory : List ℕ) → IsBeside side memory w → IsLive geometry w → Leads geometry lane w side memory
  unfolding replay
  lead-same w side memory on live = record { events = []; ending = All-nil (IsEnding lane); beside = on; live = live }

  pub lead-on : (w : World) (mid new : Side) (between after : List ℕ) (first : Leads geometry lane w mid between)
      → Leads geometry lane (replay geometry first.events w) new after → Leads geometry lane w new after
  lead-on w mid new between after first second =
      let same = sym (replay-append first.events second.events w) in
      record {
        events = first.events ++ second.events;
        ending = All-append (IsEnding lane) first.events second.events first.ending second.ending;
        beside = subst (IsBeside new after) same second.beside;
        live = subst (IsLive geometry) same second.live;
      }

  -- one more event before
  pub lead-first : (w : World) (e : Event) (new : Side) (after : List ℕ) → IsEnding lane e → Leads geometry lane (step geometry e w).world new after
      → Leads geometry lane w new after
  unfolding replay
  lead-first w e new after ends led =
      record { events = e ∷ led.events; ending = All-cons (IsEnding lane) e led.events ends led.ending; beside = led.beside; live = led.live }

  pub run-twice : (old mid new : Side) (before between after : List ℕ) → IsRun geometry lane old before mid between → IsRun geometry lane mid between new after
      → IsRun geometry lane old before new after
  run-twice old mid new before between after first second w on live =
      let led = first w on live in
      lead-on w mid new between after led (second (replay geometry led.events w) led.beside led.live)

  pub idle-twice : (old mid new : Side) (before between after : List ℕ) → IsIdleRun geometry lane old before mid between
      → IsIdleRun geometry lane mid between new after → IsIdleRun geometry lane old before new after
  idle-twice old mid new before between after first second w on live idle =
      let led = first w on live idle in
      let more = second (replay geometry led.0.events w) led.0.beside led.0.live led.1 in
      (lead-on w mid new between after led.0 more.0, more.1)

-- as many lanes
pub many-beside : (side : Side) (memory : List ℕ) (w : World) → IsBeside side memory w → length w.lanes ≡ length side.lanes
many-beside side memory w on = sym (length-map w.lanes unplaced_lane) ∙ ap (λ (ls : List Lane). length ls) on.lanes ∙ length-map side.lanes unplaced_lane

-- an event
module _ (host_bytes : ℕ) (geometry : Geometry) (lane : ℕ) (old : Side) (before : List ℕ) (laid : IsLaidOut host_bytes (length old.lanes) geometry)
    (w : World) (on : IsBeside old before w) (live : IsLive geometry w) where
  laid_world : IsLaidOut host_bytes (length w.lanes) geometry
  laid_world = subst (λ n. IsLaidOut host_bytes n geometry) (sym (many-beside old before w on)) laid

  pub step-live : (e : Event) → IsLive geometry (step geometry e w).world
  step-live e =
      record {
        consistent = step-consistent host_bytes geometry e w laid_world live.consistent;
        phased = step-phased host_bytes geometry e w laid_world live.consistent live.phased;
      }

  pub lead-step : (e : Event) (new : Side) (after : List ℕ) → IsEnding lane e → IsBeside new after (step geometry e w).world → Leads geometry lane w new after
  unfolding replay
  lead-step e new after ends is =
      record { events = e ∷ []; ending = All-cons (IsEnding lane) e [] ends (All-nil (IsEnding lane)); beside = is; live = step-live e }

-- ---- logs

-- the log of events from a world on
abbrev pub logged : Geometry → List Event → World → List Logged
logged geometry [] w = []
logged geometry (e ∷ es) w = record { event = e; reply = (step geometry e w).reply } ∷ logged geometry es (step geometry e w).world

module _ (geometry : Geometry) (start : World) where
  pub replay-many : (es : List Event) (log : List Logged) (z : World) → IsReplay geometry start log z
      → IsReplay geometry start (log ++ logged geometry es z) (replay geometry es z)
  unfolding replay
  replay-many [] log z so = subst (λ (ls : List Logged). IsReplay geometry start ls z) (sym (append-nil log)) so
  replay-many (e ∷ es) log z so =
      let l : Logged = record { event = e; reply = (step geometry e z).reply } in
      let after : World = (step geometry e z).world in
      subst (λ (ls : List Logged). IsReplay geometry start ls (replay geometry es after)) (append_assoc log (l ∷ []) (logged geometry es after))
      (replay-many es (log ++ l ∷ []) after (replay-more geometry l log start z after so refl))

-- what holds of each event
pub all-logged : (geometry : Geometry) (P : Event → Type 0) (es : List Event) (w : World) → All P es → All (λ (l : Logged). P l.event) (logged geometry es w)
all-logged geometry P [] w are = All-nil (λ (l : Logged). P l.event)
all-logged geometry P (e ∷ es) w are =
    let after : World = (step geometry e w).world in
    All-cons (λ (l : Logged). P l.event) (record { event = e; reply = (step geometry e w).reply }) (logged geometry es after) (All-head P e es are)
    (all-logged geometry P es after (All-tail P e es are))

-- a command fails with a status that a completion holds
ending-fits : (lane : ℕ) (e : Event) → IsEnding lane e → HasFittingStatus e
ending-fits lane e (Reads is) = subst HasFittingStatus (sym is) tt
ending-fits lane e (Takes is) = subst HasFittingStatus (sym is) tt
ending-fits lane e (Fails tag is) = subst HasFittingStatus (sym is) (lit< tt, lit< tt)
ending-fits lane e (GivesUp tag is) = subst HasFittingStatus (sym is) tt

all-fit : (lane : ℕ) (es : List Event) → All (IsEnding lane) es → All HasFittingStatus es
all-fit lane [] are = All-nil HasFittingStatus
all-fit lane (e ∷ es) are =
    All-cons HasFittingStatus e es (ending-fits lane e (All-head (IsEnding lane) e es are)) (all-fit lane es (All-tail (IsEnding lane) e es are))

-- a run after a log
pub ended-by : (lane : ℕ) (old new : Served) (before after : List ℕ) → new.setup ≡ old.setup → (first : World) (log : List Logged) (z : World) → LeadsTo old first before log z
    → Leads old.setup.geometry lane z new.side after → IsEndedBy lane first log new after
ended-by lane old new before after setup first log z so led =
    let added : List Logged = logged old.setup.geometry led.events z in
    record {
      added = added;
      ending = all-logged old.setup.geometry (IsEnding lane) led.events z led.ending;
      world = replay old.setup.geometry led.events z;
      leads =
          subst (λ s. LeadsTo (record new { setup = s }) first after (log ++ added) (replay old.setup.geometry led.events z)) (sym setup)
          (record {
            starts = so.starts;
            replayed = replay-many old.setup.geometry _ led.events log z so.replayed;
            fitting =
                All-append (λ l. HasFittingStatus l.event) log added so.fitting
                (all-logged old.setup.geometry HasFittingStatus led.events z (all-fit lane led.events led.ending));
            beside = led.beside;
          });
    }
