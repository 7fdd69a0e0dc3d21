-- The calls of the simulated world, by those of its front: the front's side is that of the world, and doorbells are rung with the front's tails.
use Rattle.std.proofs.Common.{◌≡◌, ℕ, ◌<◌, ◌≤◌, zero, suc, Bool, true, false, cond, List, [], ◌∷◌, length, map, replicate, set, slice_get, get_or}
use Rattle.std.proofs.Common.{Option, Some, None, arith, refl, sym, ap, ◌∙◌, subst, inl, inr}
use Rattle.std.specs.Prelude.{IfSome}
use Rattle.std.proofs.lemmas.List.{length-set}
use Rattle.std.proofs.lemmas.Option.{slice_get_past}
use Rattle.std.specs.List.{slice_index_or}
use Rattle.nv_core.proofs.Alike.{as-many, beside-told, held-alike, holder-alike, job-alike, kept-alike, those-alike}
use Rattle.nv_core.proofs.DeviceNeeds.{holding-at}
use Rattle.nv_core.proofs.DevicePosts.{answered, ended-by, post-done, post-not}
use Rattle.nv_core.proofs.DeviceSteps.{same-world}
use Rattle.nv_core.specs.Answers.{said}
use Rattle.nv_world_model.specs.Area.{tag_count}
use Rattle.nv_core.proofs.Handed.{lane-there}
use Rattle.nv_core.proofs.LentHost.{after-lent}
use Rattle.nv_core.proofs.PlacesFollow.{lanes-unplaced, places-found}
use Rattle.nv_core.proofs.Sides.{in-each}
use Rattle.nv_laws_sound.proofs.Tails.{rung-one, rung-same, set-nowhere, length-tails, tail-of}
use Rattle.nv_core.proofs.KeptStates.{kept-of}
use Rattle.nv_core.specs.Front.{ComesTo, HasTailMoved, IsBeside, IsLive, IsLiveStep, IsSideOf, IsSideStep, IsStepInEach}
use Rattle.nv_laws_sound.specs.Side.{Side, rung_with, tails_of, AreKept, IsKept}
use Rattle.nv_core.specs.Held.{held_in}
use Rattle.nv_core.specs.Jobs.{holder_in, holder_of, job_in, job_of}
use Rattle.nv_core.specs.Kept.{IsLent}
use Rattle.nv_core.specs.Seat.{IsLoaded}
use Rattle.nv_core.specs.State.{IsOf, IsStep, State, state_of, world_of}
use Rattle.nv_core.specs.Places.{placed_lanes}
use Rattle.nv_core.specs.Tags.{is_ended, is_flying, is_taken, those_in}
use Rattle.nv_device.specs.Moving.{IsMoved, unit_of}
use Rattle.nv_device.specs.Physical.{done_where, has_ended, has_left, held_at, lane_of, no_lane, with_lane}
use Rattle.nv_device.specs.Posting.{IsPosted}
use Rattle.nv_device.specs.State.{Physical}
use Rattle.nv_device.specs.Taking.{front_of, taken, waits}
use Rattle.nv_device.specs.declared.response.Response.{Response}
use Rattle.nv_device.specs.declared.response.Response.TheVariants as response
use Rattle.nv_entry.specs.Status.{StatusField}
use Rattle.nv_laws_sound.proofs.Lists.{some-same}
use Rattle.nv_laws_sound.proofs.ControllersSide.{side-alone}
use Rattle.nv_laws_sound.proofs.Steps.{step-consistent}
use Rattle.nv_laws_sound.specs.Consistent.{IsConsistent}
use Rattle.nv_laws_sound.specs.LaidOut.{IsLaidOut}
use Rattle.nv_laws_sound.specs.Mediators.{IsMediators}
use Rattle.nv_laws_sound.specs.Unplaced.{IsControllers, after_unplaced, unplaced_lane, unplaced_tag}
use Rattle.nv_mem.specs.Lent.{bytes_of_hosts}
use Rattle.nv_model.specs.Controller.{Controller}
use Rattle.nv_model.specs.Memory.{byte_in}
use Rattle.nv_model.specs.declared.reply.Reply.{Reply}
use Rattle.nv_model.specs.declared.reply.Reply.TheVariants as reply
use Rattle.nv_world_model.specs.Device.{DeviceLane, Held, completion_posted, entry_taken, held_status, opening_device_lane, unit_gone, with_held}
use Rattle.nv_world_model.specs.Due.{due}
use Rattle.nv_world_model.specs.Geometry.{Geometry}
use Rattle.nv_world_model.specs.Step.{After, step}
use Rattle.nv_world_model.proofs.Seats.{slice_get-set}
use Rattle.nv_world_model.specs.World.{Ended, Flying, Free, Lane, Tag, Taken, World, tag_in}
use Rattle.nv_world_model.specs.declared.event.Event.{Event}
use Rattle.nv_world_model.specs.declared.event.Event.TheVariants as event

-- doorbells that were rung with tails have these
pub tails-rung : (ds : List DeviceLane) (ts : List ℕ) → length ts ≡ length ds → tails_of (rung_with ts ds) ≡ ts
tails-rung [] [] e = refl
tails-rung [] (t ∷ ts) e = cc
tails-rung (d ∷ ds) [] e = cc
tails-rung (d ∷ ds) (t ∷ ts) e = ap (λ (us : List ℕ). t ∷ us) (tails-rung ds ts (omega (arith, e)))

-- a lane whose tail stays leaves the tails as they are
tails-set : (ds : List DeviceLane) (lane : ℕ) (x : DeviceLane) → x.tail ≡ (get_or ds lane no_lane).tail → tails_of (set ds lane x) ≡ tails_of ds
tails-set [] lane x e = refl
tails-set (d ∷ ds) zero x e = ap (λ (t : ℕ). t ∷ tails_of ds) e
tails-set (d ∷ ds) (suc lane) x e = ap (λ (ts : List ℕ). d.tail ∷ ts) (tails-set ds lane x e)

pub tails-stay : (p : Physical) (lane : ℕ) (x : DeviceLane) → x.tail ≡ (lane_of p lane).tail → tails_of (with_lane lane x p).lanes ≡ tails_of p.lanes
tails-stay p lane x e = tails-set p.lanes lane x e

-- and so does each event of the physical controller
pub tails-taken : (lane : ℕ) (host : List ℕ) (p : Physical) → tails_of (taken lane host p).lanes ≡ tails_of p.lanes
tails-taken lane host p = by (waits lane p)
  where
    by : (b : Bool) → tails_of (cond b (with_lane lane (entry_taken (front_of lane host p) (byte_in host) (lane_of p lane)) p) p).lanes ≡ tails_of p.lanes
    by true = tails-stay p lane (entry_taken (front_of lane host p) (byte_in host) (lane_of p lane)) refl
    by false = refl

module _ (lane slot : ℕ) (host host_new : List ℕ) (p q : Physical) where
  pub tails-posted : (st : StatusField) → IsPosted lane slot st host p host_new q → tails_of q.lanes ≡ tails_of p.lanes
  tails-posted st is = ap (λ (x : Physical). tails_of x.lanes) is.device ∙ tails-stay p lane (completion_posted slot (lane_of p lane)) refl

  posted-some : (o : Option Held) → IfSome o (λ h. IsPosted lane slot (held_status h) host p host_new q) → (done_where (has_ended o) ≡ response.Done)
      → tails_of q.lanes ≡ tails_of p.lanes
  posted-some None is e = cc
  posted-some (Some h) is e = tails-posted (held_status h) is

  pub tails-completed : (r : Response) → r ≡ response.Done → r ≡ done_where (has_ended (held_at p lane slot))
      → (r ≡ response.Done → IfSome (held_at p lane slot) (λ h. IsPosted lane slot (held_status h) host p host_new q)) → tails_of q.lanes ≡ tails_of p.lanes
  tails-completed r done e is = posted-some (held_at p lane slot) (is done) (sym e ∙ done)

  moved-some : (number : ℕ) (o : Option Held) → IfSome o (λ h. IsMoved lane slot number h host p host_new q) → (done_where (has_left number o) ≡ response.Done)
      → tails_of q.lanes ≡ tails_of p.lanes
  moved-some number None is e = cc
  moved-some number (Some h) is e =
      let gone : DeviceLane = with_held slot (Some (unit_gone number (unit_of number h host p.disk p.kept).differed h)) (lane_of p lane) in
      ap tails_of is.lanes ∙ tails-stay p lane gone refl

  pub tails-moved : (number : ℕ) (r : Response) → r ≡ done_where (has_left number (held_at p lane slot))
      → (r ≡ response.Done → IfSome (held_at p lane slot) (λ h. IsMoved lane slot number h host p host_new q))
      → (r ≡ response.Idle → (q ≡ p) × (host_new ≡ host)) → tails_of q.lanes ≡ tails_of p.lanes
  tails-moved number response.Done e done idle = moved-some number (held_at p lane slot) (done refl) (sym e)
  tails-moved number response.Idle e done idle = ap (λ (x : Physical). tails_of x.lanes) (idle refl).0

-- at the start each is in the first slot
pub tails-opening : (lanes : ℕ) → tails_of (replicate lanes opening_device_lane) ≡ replicate lanes 0
tails-opening zero = refl
tails-opening (suc lanes) = ap (λ (ts : List ℕ). 0 ∷ ts) (tails-opening lanes)

module _ (p : Physical) (lane : ℕ) (tails : List ℕ) (moved : HasTailMoved lane (tails_of p.lanes) tails) where
  many : length tails ≡ length p.lanes
  many = ap (λ (ts : List ℕ). length ts) moved.is ∙ length-set (tails_of p.lanes) lane moved.tail ∙ length-tails p.lanes

  pub tails-after : tails_of (rung_with tails p.lanes) ≡ tails
  tails-after = tails-rung p.lanes tails many

  pub lane-below : lane < length tails → lane < length p.lanes
  lane-below below = (let m = many in omega (arith, below, m))

  -- the tail in the place of the lane is the one that it moved to
  pub tail-is : (t : ℕ) → lane < length tails → slice_get tails lane ≡ Some t → t ≡ moved.tail
  tail-is t below there =
      let d : DeviceLane = lane_of p lane in
      let was = tail-of p.lanes lane d (lane-there lane p (lane-below below)) in
      some-same t moved.tail (sym there ∙ ap (λ (ts : List ℕ). slice_get ts lane) moved.is ∙ slice_get-set (tails_of p.lanes) lane d.tail moved.tail was)

  pub rung-there : (t : ℕ) → lane < length tails → slice_get tails lane ≡ Some t
      → with_lane lane (record (lane_of p lane) { tail = t }) p ≡ (let q : Physical = record p { lanes = rung_with tails p.lanes } in q)
  rung-there t below there =
      let d : DeviceLane = lane_of p lane in
      ap (λ (n : ℕ). with_lane lane (record d { tail = n }) p) (tail-is t below there)
      ∙ ap (λ (ds : List DeviceLane). let q : Physical = record p { lanes = ds } in q)
      (sym (ap (λ (ts : List ℕ). rung_with ts p.lanes) moved.is ∙ rung-one p.lanes lane moved.tail d (lane-there lane p (lane-below below))))

  pub rung-nowhere : length tails ≤ lane → p ≡ (let q : Physical = record p { lanes = rung_with tails p.lanes } in q)
  rung-nowhere past =
      let none = slice_get_past p.lanes lane (let m = many in omega (arith, past, m)) in
      ap (λ (ds : List DeviceLane). let q : Physical = record p { lanes = ds } in q)
      (sym (ap (λ (ts : List ℕ). rung_with ts p.lanes) (moved.is ∙ set-nowhere p.lanes lane moved.tail none) ∙ rung-same p.lanes))

-- ---- a state, by its host, its device and its side

-- as it is after an event, its lanes are those of any side that has them but for places
pub refold : (geometry : Geometry) (e : Event) (s t : State) (r : Reply) (new : Side) → IsOf geometry s → IsStep geometry e s r t
    → map unplaced_lane t.lanes ≡ map unplaced_lane new.lanes → t.controllers ≡ new.controllers → IsStep geometry e s r (state_of t.host t.device new)
refold geometry e s t r new of made lanes controllers =
    let after : IsConsistent geometry (world_of t) =
    subst (IsConsistent geometry) (sym (ap (λ (a : After). a.world) made.after)) (step-consistent (length s.host) geometry e (world_of s) of.laid_out of.consistent) in
    let at : t.device.mediator ≡ geometry.mediator = made.size.mediator ∙ of.mediator in
    let found : placed_lanes t.device.mediator 0 (byte_in t.host) t.device.lanes new.lanes ≡ t.lanes =
    ap (λ (m : ℕ). placed_lanes m 0 (byte_in t.host) t.device.lanes new.lanes) at
    ∙ places-found geometry (world_of t) new.lanes after (as-many new.lanes t.lanes (sym lanes)) (sym lanes) in
    subst (IsStep geometry e s r)
    (sym (ap (λ (ls : List Lane). let x : State = record { host = t.host; device = t.device; lanes = ls; controllers = new.controllers } in x) found
    ∙ ap (λ (cs : List Controller). let x : State = record { host = t.host; device = t.device; lanes = t.lanes; controllers = cs } in x) (sym controllers)))
    made

module _ (geometry : Geometry) (host : List ℕ) (device : Physical) (front : Side) (of : IsOf geometry (state_of host device front)) where
  abbrev here : State
  here = state_of host device front

  alike : map unplaced_lane here.lanes ≡ map unplaced_lane front.lanes
  alike = lanes-unplaced device.mediator 0 (byte_in host) device.lanes front.lanes

  -- an event of the physical controller, which leaves the side alone
  pub controllers-step : (e : Event) → IsControllers e → (r : Reply) (t : State) → IsStep geometry e here r t
      → IsStep geometry e here r (state_of t.host t.device front)
  controllers-step e his r t made =
      let side = side-alone (world_of here) geometry e his in
      let world = ap (λ (a : After). a.world) made.after in
      refold geometry e here t r front of made (ap (λ (w : World). map unplaced_lane w.lanes) world ∙ side.lanes ∙ alike)
      (ap (λ (w : World). w.controllers) world ∙ side.controllers)

  -- a completion that is posted, or is not
  pub posts-step : (lane slot : ℕ) (r : Response) (host_new : List ℕ) (device_new : Physical) → lane < length device.lanes → slot < tag_count
      → r ≡ done_where (has_ended (held_at device lane slot))
      → (r ≡ response.Done → IfSome (held_at device lane slot) (λ h. IsPosted lane slot (held_status h) host device host_new device_new))
      → (r ≡ response.Idle → (device_new ≡ device) × (host_new ≡ host)) → length host_new ≡ length host
      → IsStep geometry (event.DevPost lane slot) here (said r) (state_of host_new device_new front)
  posts-step lane slot response.Done host_new device_new below slot_below told done idle sized =
      let o = ended-by (held_at device lane slot) told in
      let a = holding-at geometry here lane slot o.h of below o.there in
      controllers-step (event.DevPost lane slot) tt reply.Done
      (record here { host = host_new; device = device_new; lanes = answered geometry here lane slot o.h a })
      (post-done geometry here of lane slot host_new device_new o a (done refl) sized)
  posts-step lane slot response.Idle host_new device_new below slot_below told done idle sized =
      controllers-step (event.DevPost lane slot) tt reply.Idle (record here { host = host_new; device = device_new })
      (post-not geometry here of lane slot host_new device_new below slot_below told (idle refl))

  -- an event of guests or of the mediator
  pub comes-step : (e : Event) (r : Reply) (new : Side) (after : List ℕ) → ComesTo geometry e (world_of here) r new after → length after ≡ length host
      → IsStep geometry e here r (state_of after (record device { lanes = rung_with new.tails device.lanes }) new)
  comes-step e r new after comes sized =
      let w : World = (step geometry e (world_of here)).world in
      let t : State = record {
        host = after;
        device = record device { lanes = rung_with new.tails device.lanes };
        lanes = w.lanes;
        controllers = new.controllers;
      } in
      let is : world_of t ≡ w =
      same-world (world_of t) w (ap (λ (a : After). a.world.host) comes) (ap (λ (a : After). a.world.disk) comes) (ap (λ (a : After). a.world.kept) comes)
      (ap (λ (a : After). a.world.device) comes) refl (ap (λ (a : After). a.world.controllers) comes) in
      refold geometry e here t r new of
      (record {
        after =
            ap (λ (v : World). let a : After = record { world = v; reply = r } in a) is
            ∙ ap (λ (x : Reply). let a : After = record { world = w; reply = x } in a) (ap (λ (a : After). a.reply) comes);
        size = record { host = sized; mediator = refl; blocks = refl };
      })
      (sym (ap (λ (a : After). a.world.lanes) comes)) refl

module _ (geometry : Geometry) (host : List ℕ) (device : Physical) (front : Side) (old : State) (same : state_of host device front ≡ old)
    (of : IsOf geometry old) (rung : tails_of device.lanes ≡ front.tails) where
  abbrev s : State
  s = state_of host device front

  of-here : IsOf geometry s
  of-here = subst (IsOf geometry) (sym same) of

  pub beside-here : IsBeside front host (world_of s)
  beside-here = record { host = refl; lanes = alike geometry host device front of-here; controllers = refl; tails = rung }

  pub live-here : IsLive geometry (world_of s)
  live-here = record { consistent = of-here.consistent; phased = of-here.phased }

  pub kept-here : IsKept geometry front
  kept-here =
      subst (λ (ts : List ℕ). AreKept geometry front.lanes ts front.controllers) rung
      (kept-alike geometry front.lanes s.lanes (tails_of device.lanes) front.controllers (sym (alike geometry host device front of-here)) (kept-of geometry s of-here).kept)

  pub lent-here : IsLent geometry front host
  lent-here =
      record {
        laid_out = subst (λ n. IsLaidOut (length host) n geometry) (as-many s.lanes front.lanes (alike geometry host device front of-here)) of-here.laid_out;
        kept = kept-here;
      }

  -- a call after which doorbells are rung
  pub rung-step : (e : Event) (r : Reply) (new : Side) (after : List ℕ) → IsStepInEach geometry e front host r new after → length after ≡ length host
      → IsStep geometry e old r (state_of after (record device { lanes = rung_with new.tails device.lanes }) new)
  rung-step e r new after made sized =
      subst (λ (o : State). IsStep geometry e o r (state_of after (record device { lanes = rung_with new.tails device.lanes }) new)) same
      (comes-step geometry host device front of-here e r new after (made (world_of s) beside-here) sized)

  -- one that rings none
  quiet-at : (e : Event) (r : Reply) (new : Side) (after : List ℕ) → ComesTo geometry e (world_of s) r new after → new.tails ≡ front.tails
      → length after ≡ length host → IsStep geometry e old r (state_of after device new)
  quiet-at e r new after made stays sized =
      subst (λ (o : State). IsStep geometry e o r (state_of after device new)) same
      (subst (λ (ds : List DeviceLane). IsStep geometry e s r (state_of after (record device { lanes = ds }) new))
      (ap (λ (ts : List ℕ). rung_with ts device.lanes) (stays ∙ sym rung) ∙ rung-same device.lanes)
      (comes-step geometry host device front of-here e r new after made sized))

  pub quiet-step : (e : Event) → IsMediators e → (r : Reply) (new : Side) (after : List ℕ) → IsSideStep geometry e front host r new after
      → new.tails ≡ front.tails → length after ≡ length host → IsStep geometry e old r (state_of after device new)
  quiet-step e mine r new after made stays sized =
      quiet-at e r new after (in-each geometry e front new host after r mine (λ w is. ap after_unplaced (made w is)) (world_of s) beside-here) stays sized

  -- one that needs a world as events leave it
  pub live-step : (e : Event) (r : Reply) (new : Side) → IsLiveStep geometry e front host r new host → new.tails ≡ front.tails
      → IsStep geometry e old r (state_of host device new)
  live-step e r new made stays = quiet-at e r new host (made (world_of s) beside-here live-here) stays refl

  pub due-here : (e : Event) → IsMediators e → (b : Bool) → ((w : World) → IsSideOf front host w → b ≡ due geometry e w) → b ≡ due geometry e (world_of old)
  due-here e mine b is =
      beside-told geometry e mine front host b is (world_of s) beside-here ∙ ap (λ (o : State). due geometry e (world_of o)) same

-- what is told of a tag
module _ (host : List ℕ) (device : Physical) (front : Side) (old : State) (same : state_of host device front ≡ old) where
  found-here : map unplaced_lane front.lanes ≡ map unplaced_lane (state_of host device front).lanes
  found-here = sym (lanes-unplaced device.mediator 0 (byte_in host) device.lanes front.lanes)

  pub job-here : (lane tag : ℕ) → job_in lane tag (tag_in (slice_get front.lanes lane) tag) ≡ job_of (world_of old) lane tag
  job-here lane tag =
      job-alike front.lanes (state_of host device front).lanes found-here lane tag ∙ ap (λ (o : State). job_of (world_of o) lane tag) same

  pub holder-here : (lane tag : ℕ) → holder_in (tag_in (slice_get front.lanes lane) tag) ≡ holder_of (world_of old) lane tag
  holder-here lane tag =
      holder-alike front.lanes (state_of host device front).lanes found-here lane tag ∙ ap (λ (o : State). holder_of (world_of o) lane tag) same

  pub held-here : (guest lane : ℕ) → held_in guest (slice_get front.lanes lane) ≡ held_in guest (slice_get (world_of old).lanes lane)
  held-here guest lane =
      held-alike front.lanes (state_of host device front).lanes found-here guest lane
      ∙ ap (λ (o : State). held_in guest (slice_get (world_of o).lanes lane)) same

  pub those-here : (test : Tag → Bool) → ((t : Tag) → test (unplaced_tag t) ≡ test t) → (lane : ℕ)
      → those_in test (slice_get front.lanes lane) ≡ those_in test (slice_get (world_of old).lanes lane)
  those-here test placeless lane =
      those-alike front.lanes (state_of host device front).lanes found-here test placeless lane
      ∙ ap (λ (o : State). those_in test (slice_get (world_of o).lanes lane)) same

-- tests that ask for no place
pub placeless-taken : (t : Tag) → is_taken (unplaced_tag t) ≡ is_taken t
placeless-taken Free = refl
placeless-taken (Taken command reads) = refl
placeless-taken (Flying command share at) = refl
placeless-taken (Ended command st share) = refl

pub placeless-flying : (t : Tag) → is_flying (Some (unplaced_tag t)) ≡ is_flying (Some t)
placeless-flying Free = refl
placeless-flying (Taken command reads) = refl
placeless-flying (Flying command share at) = refl
placeless-flying (Ended command st share) = refl

pub placeless-ended : (t : Tag) → is_ended (unplaced_tag t) ≡ is_ended t
placeless-ended Free = refl
placeless-ended (Taken command reads) = refl
placeless-ended (Flying command share at) = refl
placeless-ended (Ended command st share) = refl

-- the same where the host is lent as a slice of one
module _ (geometry : Geometry) (hosts : List (List ℕ)) (host : List ℕ) (is : hosts ≡ host ∷ []) (device : Physical) (front : Side) (old : State)
    (same : state_of host device front ≡ old) (of : IsOf geometry old) (rung : tails_of device.lanes ≡ front.tails) where
  abbrev lent : List ℕ
  lent = bytes_of_hosts hosts

  lent-same : state_of lent device front ≡ old
  lent-same = ap (λ (h : List ℕ). state_of h device front) (ap bytes_of_hosts is) ∙ same

  pub lent-kept : IsLent geometry front lent
  lent-kept = lent-here geometry lent device front old lent-same of rung

  pub lent-due : (e : Event) → IsMediators e → (b : Bool) → ((w : World) → IsSideOf front lent w → b ≡ due geometry e w) → b ≡ due geometry e (world_of old)
  lent-due e mine b holds = due-here geometry lent device front old lent-same of rung e mine b holds

  -- for a call that reads it
  pub shown-step : (e : Event) → IsMediators e → (r : Reply) (new : Side) → IsSideStep geometry e front lent r new lent → new.tails ≡ front.tails
      → IsStep geometry e old r (state_of host device new)
  shown-step e mine r new made stays =
      subst (λ (h : List ℕ). IsStep geometry e old r (state_of h device new)) (ap bytes_of_hosts is)
      (quiet-step geometry lent device front old lent-same of rung e mine r new lent made stays refl)

  -- and for one that needs a world as events leave it
  pub shown-live : (e : Event) (r : Reply) (new : Side) → IsLiveStep geometry e front lent r new lent → new.tails ≡ front.tails
      → IsStep geometry e old r (state_of host device new)
  shown-live e r new made stays =
      subst (λ (h : List ℕ). IsStep geometry e old r (state_of h device new)) (ap bytes_of_hosts is)
      (live-step geometry lent device front old lent-same of rung e r new made stays)

  pub lent-beside : IsBeside front lent (world_of (state_of lent device front))
  lent-beside = beside-here geometry lent device front old lent-same of rung

  pub lent-live : IsLive geometry (world_of (state_of lent device front))
  lent-live = live-here geometry lent device front old lent-same of rung

  pub lent-due-live : (e : Event) (b : Bool) → ((w : World) → IsBeside front lent w → IsLive geometry w → b ≡ due geometry e w) → b ≡ due geometry e (world_of old)
  lent-due-live e b holds = holds _ lent-beside lent-live ∙ ap (λ (o : State). due geometry e (world_of o)) lent-same

  -- for one that stores to it
  module _ (after : List (List ℕ)) (sized : length (bytes_of_hosts after) ≡ length lent) where
    pub lent-step : (e : Event) → IsMediators e → (r : Reply) (new : Side) → IsSideStep geometry e front lent r new (bytes_of_hosts after)
        → new.tails ≡ front.tails → IsStep geometry e old r (state_of (slice_index_or after 0 host) device new)
    lent-step e mine r new made stays =
        subst (λ (h : List ℕ). IsStep geometry e old r (state_of h device new)) (after-lent hosts host is after sized)
        (quiet-step geometry lent device front old lent-same of rung e mine r new (bytes_of_hosts after) made stays sized)

    pub lent-rung : (e : Event) (r : Reply) (new : Side) → IsStepInEach geometry e front lent r new (bytes_of_hosts after)
        → IsStep geometry e old r (state_of (slice_index_or after 0 host) (record device { lanes = rung_with new.tails device.lanes }) new)
    lent-rung e r new made =
        subst (λ (h : List ℕ). IsStep geometry e old r (state_of h (record device { lanes = rung_with new.tails device.lanes }) new))
        (after-lent hosts host is after sized)
        (rung-step geometry lent device front old lent-same of rung e r new (bytes_of_hosts after) made sized)

-- what is said of a load's reply
pub loaded-so : (P Q : Reply → Type 0) → ((r : Reply) → P r → Q r) → (r : Reply) (before after : List ℕ) → IsLoaded P r before after → IsLoaded Q r before after
loaded-so P Q from r before after (inl is) = inl (is.0, from (reply.Bytes after) is.1)
loaded-so P Q from r before after (inr is) = inr (is.0, is.1, from r is.2)
