-- A command that the physical controller has fails, in a world where no completion of its lane waits: what is written, and that none waits after it was
-- read.
use Rattle.std.proofs.Common.{◌≡◌, ℕ, ◌<◌, Bool, true, false, not, ◌==◌, eqb-true, List, set, slice_get, Option, Some, None, arith, refl, sym, ap, ◌∙◌}
use Rattle.nv_core.proofs.Besides.{FliesToo, flies-too}
use Rattle.nv_core.proofs.FrontLaws.{controller-beside}
use Rattle.nv_laws_sound.proofs.Tails.{tail-of}
use Rattle.nv_core.specs.Front.{IsBeside, IsLive}
use Rattle.nv_laws_sound.specs.Side.{Side}
use Rattle.nv_core.specs.Reaping.{waits_in}
use Rattle.nv_entry.specs.Completion.{completion}
use Rattle.nv_entry.specs.Status.{StatusField, bit}
use Rattle.nv_entry.specs.StatusCode.{done_with}
use Rattle.nv_entry.specs.declared.status_code.StatusCode.TheVariants.{InternalError}
use Rattle.nv_host.proofs.TakenAll.{AllTaken, IsFound}
use Rattle.nv_host.specs.Ending.{IsIdle}
use Rattle.nv_laws_sound.proofs.Lists.{slice_get-below, slice_get-there, some-same}
use Rattle.nv_laws_sound.proofs.Retags.{stands-is}
use Rattle.nv_laws_sound.proofs.Rings.{next-below}
use Rattle.nv_laws_sound.proofs.phases.Rounds.{slot-tells, wanted-same}
use Rattle.nv_laws_sound.specs.Consistent.{IsBetween, IsFlying}
use Rattle.nv_laws_sound.specs.Phased.{IsPhased, phase_at}
use Rattle.nv_model.specs.Memory.{byte_in, stored}
use Rattle.nv_model.specs.Queue.{is_empty, next_slot}
use Rattle.nv_world_model.proofs.Seats.{slice_get-set}
use Rattle.nv_world_model.specs.Area.{completion_slot, queue_pair, ring_size}
use Rattle.nv_world_model.specs.Device.{DeviceLane, Held, completion_posted, completion_written, next_phase}
use Rattle.nv_world_model.specs.Geometry.{Geometry}
use Rattle.nv_world_model.specs.Share.{Share}
use Rattle.nv_world_model.specs.Step.{completion_read, device_fail, device_posted, for_held, for_one, step}
use Rattle.nv_world_model.specs.World.{Answered, Command, Flying, InDevice, Lane, Queued, Standing, Tag, World, tag_changed}
use Rattle.nv_world_model.specs.declared.event.Event.{Event}
use Rattle.nv_world_model.specs.declared.event.Event.TheVariants as event

abbrev pub fault : StatusField
fault = done_with InternalError

nothing-between : (from to at : ℕ) → from ≡ to → to < ring_size → IsBetween from to at → ⊥
nothing-between from to at same high is = let before = is.before in absurd (omega (arith, same, high, before))

must-equal : (head posted : ℕ) → not (is_empty head posted) ≡ false → head ≡ posted
must-equal head posted none = by (is_empty head posted) refl
  where
    by : (b : Bool) → is_empty head posted ≡ b → head ≡ posted
    by true is = eqb-true head posted is
    by false is = let bad : true ≡ false = sym (ap not is) ∙ none in cc

other-bit : (b : Bool) → (bit (not b) == bit b) ≡ false
other-bit true = refl
other-bit false = refl

module _ (geometry : Geometry) (lane tag : ℕ) (side : Side) (memory : List ℕ) (w : World) (on : IsBeside side memory w) (live : IsLive geometry w)
    (l : Lane) (found : slice_get side.lanes lane ≡ Some l) (f : IsFound geometry lane l w) (idle : IsIdle geometry lane side memory) where
  head-same : f.k.head ≡ l.head
  head-same = ap (λ (x : Lane). x.head) f.same

  phase-same : f.k.phase ≡ l.phase
  phase-same = ap (λ (x : Lane). x.phase) f.same

  -- the slot that is written next is the one that is read next
  pub posted-is : f.d.posted ≡ l.head
  posted-is =
      sym (must-equal f.k.head f.d.posted
      (slot-tells geometry w.host lane f.k.head f.k.phase f.d.posted f.d.phase f.is.positions.read f.phased
      ∙ ap (λ (h : ℕ → ℕ). phase_at geometry h lane f.k.head == bit f.k.phase) on.host
      ∙ ap (λ (n : ℕ). phase_at geometry (byte_in memory) lane n == bit f.k.phase) head-same
      ∙ ap (λ (b : Bool). phase_at geometry (byte_in memory) lane l.head == bit b) phase-same
      ∙ sym (ap (λ (o : Option Lane). waits_in geometry lane o memory) found) ∙ idle))
      ∙ head-same

  -- in its pass
  pub phase-is : f.d.phase ≡ l.phase
  phase-is =
      let same = posted-is in
      let mine = head-same in
      sym (f.phased.wants ∙ wanted-same f.k.head f.d.posted f.d.phase (omega (arith, same, mine))) ∙ phase-same

  module _ (taken : AllTaken lane w) (command : Command) (share : Share) (at : Standing) (flies : slice_get l.tags tag ≡ Some (Flying command share at)) where
    -- all entries were taken
    pub head-is : slice_get side.tails lane ≡ Some f.d.head
    head-is =
        ap (λ (ts : List ℕ). slice_get ts lane) (sym on.tails) ∙ tail-of w.device lane f.d f.there ∙ ap (λ (n : ℕ). Some n) (sym (taken f.d f.there))

    its : FliesToo (slice_get f.k.tags tag) command share
    its = flies-too f.k l (sym f.same) tag command share at flies

    -- the controller has the command
    in-device : (standing : Standing) (held : Option Held) → IsFlying geometry command share standing lane tag w.host f.k.head f.d held
        → (h : Held) × (held ≡ Some h)
    in-device (Queued slot) held is =
        absurd (nothing-between f.d.head f.d.tail slot (taken f.d f.there) f.is.positions.tail is.stands.0.slot)
    in-device InDevice None is = absurd is.stands
    in-device InDevice (Some h) is = (h, refl)
    in-device (Answered slot) held is =
        absurd (nothing-between f.k.head f.d.posted slot (head-same ∙ sym posted-is) f.is.positions.posted is.stands.0.slot)

    holds : (h : Held) × (slice_get f.d.held tag ≡ Some (Some h))
    holds =
        let tags = f.is.positions.tags in
        let sized = f.is.positions.held in
        let below = slice_get-below f.k.tags tag (Flying command share its.at) its.is in
        let under = slice_get-there f.d.held tag (omega (arith, tags, sized, below)) in
        let has = in-device its.at under.0 (f.is.tags tag (Flying command share its.at) under.0 its.is under.1) in
        (has.0, under.1 ∙ ap (λ (o : Option Held). Some o) has.1)

    abbrev pub fails : Event
    fails = event.DevFail lane tag fault

    abbrev memory_after : ℕ → ℕ
    memory_after = completion_written geometry.mediator lane tag fault f.d w.host

    abbrev answered : World
    answered =
        record w {
          host = memory_after;
          lanes = set w.lanes lane (tag_changed tag (Flying command share (Answered f.d.posted)) f.k);
          device = set w.device lane (completion_posted tag f.d);
        }

    became : (step geometry fails w).world ≡ answered
    unfolding step device_posted
    became =
        ap (λ (o : Option DeviceLane). (for_one o w (λ e. for_held (slice_get e.held tag) w (λ h. device_fail geometry.mediator lane tag fault e w))).world) f.there
        ∙ ap (λ (o : Option (Option Held)). (for_held o w (λ h. device_fail geometry.mediator lane tag fault f.d w)).world) holds.1
        ∙ stands-is w lane tag f.k f.d command share its.at (Answered f.d.posted) memory_after (completion_posted tag) f.at f.there its.is

    -- what is written
    module _ (tail : ℕ) (tail_is : slice_get side.tails lane ≡ Some tail) (after : List ℕ)
        (written : byte_in after
        ≡ stored (byte_in memory) (completion_slot geometry.mediator lane l.head) (completion 0 tail (queue_pair lane) tag l.phase fault)) where
      pub fails-host : (step geometry fails w).world.host ≡ byte_in after
      unfolding completion_written
      fails-host =
          ap (λ (v : World). v.host) became
          ∙ ap (λ (h : ℕ → ℕ). stored h (completion_slot geometry.mediator lane f.d.posted) (completion 0 f.d.head (queue_pair lane) tag f.d.phase fault)) on.host
          ∙ ap (λ (n : ℕ). stored (byte_in memory) (completion_slot geometry.mediator lane n) (completion 0 f.d.head (queue_pair lane) tag f.d.phase fault)) posted-is
          ∙ ap (λ (n : ℕ). stored (byte_in memory) (completion_slot geometry.mediator lane l.head) (completion 0 n (queue_pair lane) tag f.d.phase fault))
          (some-same f.d.head tail (sym head-is ∙ tail_is))
          ∙ ap (λ (b : Bool). stored (byte_in memory) (completion_slot geometry.mediator lane l.head) (completion 0 tail (queue_pair lane) tag b fault)) phase-is
          ∙ sym written

      pub fails-beside : IsBeside side after (step geometry fails w).world
      fails-beside = controller-beside geometry fails tt side memory after w on fails-host

      -- the slot after it has the phase tag of the pass before
      module _ (then_live : IsLive geometry (step geometry fails w).world) (new : Side) (ended : Tag)
          (lanes : new.lanes ≡ set side.lanes lane (completion_read (tag_changed tag ended l))) where
        next-phased : phase_at geometry (byte_in after) lane (next_slot ring_size l.head) ≡ bit (not (next_phase l.head l.phase))
        next-phased =
            let posted : ℕ = next_slot ring_size f.d.posted in
            let now : Lane = tag_changed tag (Flying command share (Answered f.d.posted)) f.k in
            let phased : IsPhased geometry (step geometry fails w).world.host lane now.head now.phase posted (next_phase f.d.posted f.d.phase) =
            then_live.phased lane now (completion_posted tag f.d)
            (ap (λ (v : World). slice_get v.lanes lane) became ∙ slice_get-set w.lanes lane f.k now f.at)
            (ap (λ (v : World). slice_get v.device lane) became ∙ slice_get-set w.device lane f.d (completion_posted tag f.d) f.there) in
            ap (λ (n : ℕ). phase_at geometry (byte_in after) lane (next_slot ring_size n)) (sym posted-is)
            ∙ ap (λ (h : ℕ → ℕ). phase_at geometry h lane posted) (sym fails-host)
            ∙ phased.earlier posted (omega arith) (next-below f.d.posted f.is.positions.posted)
            ∙ ap (λ (n : ℕ). bit (not (next_phase n f.d.phase))) posted-is
            ∙ ap (λ (b : Bool). bit (not (next_phase l.head b))) phase-is

        pub fails-idle : IsIdle geometry lane new after
        fails-idle =
            let now : Lane = completion_read (tag_changed tag ended l) in
            ap (λ (ls : List Lane). waits_in geometry lane (slice_get ls lane) after) lanes
            ∙ ap (λ (o : Option Lane). waits_in geometry lane o after) (slice_get-set side.lanes lane l now found)
            ∙ ap (λ (n : ℕ). n == bit (next_phase l.head l.phase)) next-phased
            ∙ other-bit (next_phase l.head l.phase)
