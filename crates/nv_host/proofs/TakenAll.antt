-- The physical controller takes what waits in a lane's submission ring, entry after entry, until none is left.
use Rattle.std.proofs.Common.{◌≡◌, ℕ, zero, suc, ◌+◌, ◌<◌, ◌⊎◌, inl, inr, Bool, cond, List, [], ◌∷◌, length, slice_get, Option, Some, None, arith, refl, sym, ap, ◌∙◌, subst}
use Rattle.std.proofs.lemmas.Bool.{cases_eq, ne_eqb}
use Rattle.std.proofs.lemmas.List.Elements.{All-cons, All-nil}
use Rattle.std.specs.Prelude.{◌≢◌}
use Rattle.nv_core.proofs.Besides.{seen}
use Rattle.nv_core.proofs.FrontLaws.{controller-beside}
use Rattle.nv_core.specs.Front.{IsBeside, IsLive}
use Rattle.nv_laws_sound.specs.Side.{Side}
use Rattle.nv_entry.specs.Submission.{cid_of}
use Rattle.nv_host.proofs.Runs.{step-live}
use Rattle.nv_host.specs.Closing.{IsEnding, Takes}
use Rattle.nv_host.specs.Ending.{Leads}
use Rattle.nv_laws_sound.proofs.Lists.{slice_get-below, slice_get-there, some-same}
use Rattle.nv_laws_sound.proofs.Rings.{far, far-less, far-some}
use Rattle.nv_laws_sound.specs.Consistent.{IsLane}
use Rattle.nv_laws_sound.specs.LaidOut.{IsLaidOut}
use Rattle.nv_laws_sound.specs.Phased.{IsPhased}
use Rattle.nv_laws_sound.specs.Unplaced.{unplaced_lane}
use Rattle.nv_model.specs.Queue.{next_slot}
use Rattle.nv_model.specs.declared.reply.Reply.TheVariants as reply
use Rattle.nv_world_model.proofs.Seats.{slice_get-set}
use Rattle.nv_world_model.specs.Area.{ring_size}
use Rattle.nv_world_model.specs.Device.{DeviceLane, entry_taken, front_entry}
use Rattle.nv_world_model.specs.Geometry.{Geometry}
use Rattle.nv_world_model.specs.Step.{device_take, device_took, for_one, replay, replied, standing_at, step}
use Rattle.nv_world_model.specs.World.{Ended, Flying, Free, InDevice, Lane, Standing, Tag, Taken, World, changed_at, tag_of, with_device}
use Rattle.nv_world_model.specs.declared.event.Event.{Event}
use Rattle.nv_world_model.specs.declared.event.Event.TheVariants as event

-- ---- a lane of the side, in a world

pub record IsFound (geometry : Geometry) (lane : ℕ) (l : Lane) (w : World) : Type 0 where
  pub k : Lane
  pub d : DeviceLane
  pub at : slice_get w.lanes lane ≡ Some k
  pub there : slice_get w.device lane ≡ Some d
  pub same : unplaced_lane k ≡ unplaced_lane l
  pub is : IsLane geometry lane w.host k d
  pub phased : IsPhased geometry w.host lane k.head k.phase d.posted d.phase

pub find : (geometry : Geometry) (lane : ℕ) (side : Side) (memory : List ℕ) (l : Lane) → slice_get side.lanes lane ≡ Some l
    → (w : World) → IsBeside side memory w → IsLive geometry w → IsFound geometry lane l w
find geometry lane side memory l found w on live =
    let s = seen side memory w on lane l found in
    let below = slice_get-below w.lanes lane s.k s.there in
    let sides = live.consistent.of_tags.sides in
    let d = slice_get-there w.device lane (omega (arith, below, sides)) in
    record {
      k = s.k;
      d = d.0;
      at = s.there;
      there = d.1;
      same = s.same;
      is = live.consistent.of_tags.lanes lane s.k d.0 s.there d.1;
      phased = live.phased lane s.k d.0 s.there d.1;
    }

-- ---- an entry

standing-rest : (o : Option Tag) (s : Standing) (lane tag : ℕ) (w : World)
    → ((standing_at o s lane tag w).device ≡ w.device) × ((standing_at o s lane tag w).host ≡ w.host)
standing-rest None s lane tag w = (refl, refl)
standing-rest (Some Free) s lane tag w = (refl, refl)
standing-rest (Some (Taken command reads)) s lane tag w = (refl, refl)
standing-rest (Some (Flying command share before)) s lane tag w = (refl, refl)
standing-rest (Some (Ended command st share)) s lane tag w = (refl, refl)

module _ (geometry : Geometry) (lane : ℕ) (w : World) (d : DeviceLane) (there : slice_get w.device lane ≡ Some d) (waits : d.head ≢ d.tail) where
  abbrev entry : List ℕ
  entry = front_entry geometry.mediator lane d w.host

  took : (step geometry (event.DevTake lane) w).world ≡ device_took lane entry w
  unfolding step
  took =
      ap (λ (o : Option DeviceLane). (for_one o w (λ e. device_take geometry.mediator lane e w)).world) there
      ∙ ap (λ (b : Bool). (cond b (replied reply.Idle w) (replied reply.Done (device_took lane entry w))).world) (ne_eqb d.head d.tail waits)

  abbrev z : World
  z = with_device lane (entry_taken entry w.host) w

  pub took-host : (step geometry (event.DevTake lane) w).world.host ≡ w.host
  unfolding device_took
  took-host = ap (λ (v : World). v.host) took ∙ (standing-rest (tag_of z lane (cid_of entry)) InDevice lane (cid_of entry) z).1

  pub took-device : slice_get (step geometry (event.DevTake lane) w).world.device lane ≡ Some (entry_taken entry w.host d)
  unfolding device_took
  took-device =
      ap (λ (v : World). slice_get v.device lane) took
      ∙ ap (λ (ds : List DeviceLane). slice_get ds lane) (standing-rest (tag_of z lane (cid_of entry)) InDevice lane (cid_of entry) z).0
      ∙ ap (λ (o : Option DeviceLane). slice_get (changed_at o lane (entry_taken entry w.host) w.device) lane) there
      ∙ slice_get-set w.device lane d (entry_taken entry w.host d) there

-- ---- all of them

-- none waits
abbrev pub AllTaken : (lane : ℕ) → World → Type 0
AllTaken lane w = (d : DeviceLane) → slice_get w.device lane ≡ Some d → d.head ≡ d.tail

module _ (host_bytes : ℕ) (geometry : Geometry) (lane : ℕ) (side : Side) (memory : List ℕ) (laid : IsLaidOut host_bytes (length side.lanes) geometry)
    (l : Lane) (found : slice_get side.lanes lane ≡ Some l) where
  abbrev TakesAll : World → Type 0
  TakesAll w = (led : Leads geometry lane w side memory) × AllTaken lane (replay geometry led.events w)

  none-left : (w : World) (d : DeviceLane) → slice_get w.device lane ≡ Some d → d.head ≡ d.tail → AllTaken lane w
  none-left w d there same e at = subst (λ (x : DeviceLane). x.head ≡ x.tail) (some-same d e (sym there ∙ at)) same

  some-waits : (w : World) → IsBeside side memory w → IsLive geometry w → (d : DeviceLane) → slice_get w.device lane ≡ Some d → d.head ≢ d.tail
      → (0 < far d.head d.tail) × (far (next_slot ring_size d.head) d.tail + 1 ≡ far d.head d.tail)
  some-waits w on live d there waits =
      let f = find geometry lane side memory l found w on live in
      let same : f.d ≡ d = some-same f.d d (sym f.there ∙ there) in
      let low : d.head < ring_size = subst (λ (x : DeviceLane). x.head < ring_size) same f.is.positions.head in
      let high : d.tail < ring_size = subst (λ (x : DeviceLane). x.tail < ring_size) same f.is.positions.tail in
      let some = far-some d.head d.tail low high waits in
      (some, far-less d.head d.tail low high some)

  take-so-many : (n : ℕ) (w : World) → IsBeside side memory w → IsLive geometry w → (d : DeviceLane) → slice_get w.device lane ≡ Some d
      → far d.head d.tail ≡ n → (d.head ≡ d.tail) ⊎ (d.head ≢ d.tail) → TakesAll w
  unfolding replay
  take-so-many n w on live d there left (inl same) =
      (record { events = []; ending = All-nil (IsEnding lane); beside = on; live = live }, none-left w d there same)
  take-so-many zero w on live d there left (inr waits) =
      let some = some-waits w on live d there waits in
      absurd (omega (arith, left, some.0))
  take-so-many (suc m) w on live d there left (inr waits) =
      let some = some-waits w on live d there waits in
      let less = some.1 in
      let e : Event = event.DevTake lane in
      let after : World = (step geometry e w).world in
      let now : DeviceLane = entry_taken (front_entry geometry.mediator lane d w.host) w.host d in
      let rest = take-so-many m after
      (controller-beside geometry e tt side memory memory w on (took-host geometry lane w d there waits ∙ on.host))
      (step-live host_bytes geometry lane side memory laid w on live e) now (took-device geometry lane w d there waits)
      (omega (arith, left, less)) (cases_eq now.head now.tail) in (
        record {
          events = e ∷ rest.0.events;
          ending = All-cons (IsEnding lane) e rest.0.events (Takes refl) rest.0.ending;
          beside = rest.0.beside;
          live = rest.0.live;
        },
        rest.1,
      )

  pub take-all : (w : World) → IsBeside side memory w → IsLive geometry w → TakesAll w
  take-all w on live =
      let f = find geometry lane side memory l found w on live in
      take-so-many (far f.d.head f.d.tail) w on live f.d f.there refl (cases_eq f.d.head f.d.tail)
