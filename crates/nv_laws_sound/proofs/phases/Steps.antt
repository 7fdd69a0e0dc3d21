-- Each event, and each list of events, keeps the phase tags of the completion rings; and they are so at the start.
use Rattle.std.proofs.Common.{◌≡◌, ℕ, ◌+◌, ◌*◌, ◌<◌, false, ◌&&◌, ◌==◌, nat_le, List, [], ◌∷◌, length, replicate, slice_get, arith, refl, sym, ap, ◌∙◌, subst}
use Rattle.std.specs.List.{list_any}
use Rattle.std.proofs.lemmas.Bool.{eqb-false}
use Rattle.std.proofs.lemmas.List.{length-replicate}
use Rattle.nv_entry.specs.Completion.{phase_of}
use Rattle.nv_entry.specs.Layout.{bits, dword, number_at}
use Rattle.nv_entry.specs.Status.{bit}
use Rattle.nv_entry.specs.StatusCode.{done_with}
use Rattle.nv_entry.specs.declared.status_code.StatusCode.TheVariants.{InternalError}
use Rattle.nv_mem.specs.GuestMap.{all_mapped}
use Rattle.nv_model.proofs.Agreeing.{bytes_from-agree}
use Rattle.nv_model.specs.Admin.{admin}
use Rattle.nv_model.specs.Controller.{front}
use Rattle.nv_model.specs.Limits.{part_size}
use Rattle.nv_model.specs.Memory.{bytes_from, image}
use Rattle.nv_model.specs.Private.{acted}
use Rattle.nv_model.specs.Queue.{cqe_size, is_empty}
use Rattle.nv_world_model.specs.declared.event.Event.{Event}
use Rattle.nv_world_model.specs.declared.event.Event.TheVariants as event
use Rattle.nv_world_model.specs.Area.{completion_slot, ring_size}
use Rattle.nv_world_model.specs.Device.{opening_device_lane}
use Rattle.nv_world_model.specs.Geometry.{Geometry, regions_of, shape_of}
use Rattle.nv_world_model.specs.Plan.{plan_over}
use Rattle.nv_world_model.specs.Seat.{owner_of, seat}
use Rattle.nv_world_model.specs.SetUp.{SetUp}
use Rattle.nv_world_model.specs.Step.{acted_by, acted_in, administered_in, device_fail, device_move, device_post, device_take, is_io_queue, is_success, list_at}
use Rattle.nv_world_model.specs.Step.{post_all, reap, replay, statuses_of, step, submit_by, take_from}
use Rattle.nv_world_model.specs.World.{World, group, opening_lane, opening_world, tag_of}
use Rattle.nv_world_model.proofs.Seats.{owner_of-is}
use Rattle.nv_laws_sound.specs.Consistent.{IsConsistent}
use Rattle.nv_laws_sound.specs.LaidOut.{IsLaidOut}
use Rattle.nv_laws_sound.proofs.Lists.{slice_get-below, slice_get-replicate}
use Rattle.nv_laws_sound.proofs.ManyLanes.{lanes-kept}
use Rattle.nv_laws_sound.proofs.Steps.{step-consistent}
use Rattle.nv_laws_sound.proofs.Walks.{device-walk, either, ended-walk, guest-walk, held-walk, lane-walk, owner-walk, taken-walk}
use Rattle.nv_laws_sound.specs.Phased.{ArePhased, AreRingsClear, IsPhased, phase_at}
use Rattle.nv_laws_sound.proofs.phases.Ends.{answered-phased, left-phased, post-phased, reaped-phased}
use Rattle.nv_laws_sound.proofs.phases.Events.{act-phased, admin-phased, ended-phased, front-phased, kept-phased, listed-phased, moved-phased, took-phased}
use Rattle.nv_laws_sound.proofs.phases.Handed.{submit-phased}

-- ---- an event

module _ (host_bytes : ℕ) (geometry : Geometry) where
  pub step-phased : (e : Event) (w : World) → IsLaidOut host_bytes (length w.lanes) geometry → IsConsistent geometry w → ArePhased geometry w
      → ArePhased geometry (step geometry e w).world
  unfolding step acted_in administered_in
  step-phased (event.Guest number a) w laid is are =
      guest-walk (ArePhased geometry) w are (owner_of geometry w number) (λ o. acted_by (acted (shape_of o.given) a (seat geometry o w)) o w) (λ o found.
      act-phased host_bytes geometry w laid is are (acted (shape_of o.given) a (seat geometry o w)).reply (acted (shape_of o.given) a (seat geometry o w)).state o
      (owner_of-is geometry w number o found).given)
  step-phased (event.Admin number) w laid is are =
      guest-walk (ArePhased geometry) w are (owner_of geometry w number) _ (λ o found.
      admin-phased host_bytes geometry w laid is are
      (admin (shape_of o.given).mapped (shape_of o.given).blocks o.controller (image (regions_of o.given) w.host)) o (owner_of-is geometry w number o found).given)
  step-phased (event.Take number queue lane) w laid is are =
      guest-walk (ArePhased geometry) w are (owner_of geometry w number) _ (λ o found.
      lane-walk (ArePhased geometry) w are (slice_get w.lanes lane) (λ l. take_from queue lane l o w) (λ l at.
      either (ArePhased geometry) w are (is_io_queue queue) _ _
      (λ so. front-phased host_bytes geometry w laid is are (front o.controller queue) queue lane l o) (λ out. are)))
  step-phased (event.List lane tag addr len) w laid is are =
      taken-walk (ArePhased geometry) w are tag (tag_of w lane tag) _ (λ command reads at leads.
      owner-walk (ArePhased geometry) w are (owner_of geometry w command.guest) (λ o. list_at addr len lane tag command reads o w) (λ o found.
      either (ArePhased geometry) w are (all_mapped (regions_of o.given) addr len) _ _
      (λ there. either (ArePhased geometry) w are (nat_le 1 len && nat_le len part_size) _ _
      (λ fits. listed-phased host_bytes geometry w laid is are addr len lane tag command reads o) (λ out. are)) (λ out. are)))
  step-phased (event.Submit lane tag) w laid is are =
      taken-walk (ArePhased geometry) w are tag (tag_of w lane tag) _ (λ command reads at leads.
      owner-walk (ArePhased geometry) w are (owner_of geometry w command.guest) _ (λ o found.
      device-walk (ArePhased geometry) w are (slice_get w.device lane)
      (λ d. submit_by (plan_over o.given command.entry reads) geometry.mediator lane (group w lane tag) command o w) (λ d there.
      submit-phased host_bytes geometry w laid is are lane tag command reads o at (plan_over o.given command.entry reads) refl)))
  step-phased (event.GiveUp lane tag) w laid is are =
      taken-walk (ArePhased geometry) w are tag (tag_of w lane tag) _ (λ command reads at leads.
      ended-phased host_bytes geometry w laid is are lane (group w lane tag) command (done_with InternalError))
  step-phased (event.DevTake lane) w laid is are =
      device-walk (ArePhased geometry) w are (slice_get w.device lane) (λ d. device_take geometry.mediator lane d w) (λ d there.
      either (ArePhased geometry) w are (is_empty d.head d.tail) _ _ (λ none. are) (λ some. took-phased host_bytes geometry w laid is are lane _))
  step-phased (event.DevMove lane slot number) w laid is are =
      device-walk (ArePhased geometry) w are (slice_get w.device lane) _ (λ d there.
      held-walk (ArePhased geometry) w are (slice_get d.held slot) (λ h. device_move geometry.disk_blocks lane slot number h w) (λ h held.
      either (ArePhased geometry) w are (list_any (λ k. k == number) h.left) _ _
      (λ left. moved-phased host_bytes geometry w laid is are lane slot number d h there held) (λ none. are)))
  step-phased (event.DevPost lane slot) w laid is are =
      device-walk (ArePhased geometry) w are (slice_get w.device lane) _ (λ d there.
      held-walk (ArePhased geometry) w are (slice_get d.held slot) (λ h. device_post h.left geometry.mediator lane slot h d w) (λ h held.
      left-phased host_bytes geometry w laid is are h.left lane slot h d there held))
  step-phased (event.DevFail lane slot st) w laid is are =
      device-walk (ArePhased geometry) w are (slice_get w.device lane) _ (λ d there.
      held-walk (ArePhased geometry) w are (slice_get d.held slot) (λ h. device_fail geometry.mediator lane slot st d w) (λ h held.
      either (ArePhased geometry) w are (is_success st) _ _ (λ good. are) (λ bad. answered-phased host_bytes geometry w laid is are lane slot st d h there held)))
  step-phased (event.Keep block) w laid is are =
      either (ArePhased geometry) w are (nat_le (block + 1) geometry.disk_blocks) _ _ (λ there. kept-phased host_bytes geometry w laid is are block) (λ out. are)
  step-phased (event.Reap lane) w laid is are =
      lane-walk (ArePhased geometry) w are (slice_get w.lanes lane) _ (λ l at.
      device-walk (ArePhased geometry) w are (slice_get w.device lane) (λ d. reap geometry lane l d w) (λ d there.
      either (ArePhased geometry) w are (is_empty l.head d.posted) _ _ (λ none. are)
      (λ some. reaped-phased host_bytes geometry w laid is are lane _ l d at there (eqb-false l.head d.posted some))))
  step-phased (event.Post lane tag) w laid is are =
      ended-walk (ArePhased geometry) w are tag (tag_of w lane tag) _ (λ command st share at leads.
      owner-walk (ArePhased geometry) w are (owner_of geometry w command.guest)
      (λ o. post_all (statuses_of lane (group w lane tag) w) command geometry.mediator lane (group w lane tag) o w) (λ o found.
      post-phased host_bytes geometry w laid is are o (owner_of-is geometry w command.guest o found).given
      (statuses_of lane (group w lane tag) w) command lane (group w lane tag)))

  -- behind any events
  pub replay-phased : (events : List Event) (w : World) → IsLaidOut host_bytes (length w.lanes) geometry → IsConsistent geometry w → ArePhased geometry w
      → ArePhased geometry (replay geometry events w)
  unfolding replay
  replay-phased [] w laid is are = are
  replay-phased (e ∷ events) w laid is are =
      replay-phased events (step geometry e w).world (subst (λ n. IsLaidOut host_bytes n geometry) (sym (lanes-kept geometry w e)) laid)
      (step-consistent host_bytes geometry e w laid is) (step-phased e w laid is are)

-- ---- the start

-- bytes of zero have the phase tag 0
no-phase : (addr : ℕ) → phase_of (bytes_from (λ _. 0) addr cqe_size) ≡ bit false
unfolding bits dword number_at bytes_from
no-phase addr = refl

-- and so have the slots of a clear ring
slot-clear : (s : SetUp) (host : ℕ → ℕ) → AreRingsClear s host → (lane at : ℕ) → lane < s.lanes → at < ring_size
    → phase_at s.geometry host lane at ≡ bit false
slot-clear s host clear lane at there within =
    let slot = completion_slot s.geometry.mediator lane at in
    ap phase_of
    (bytes_from-agree host (λ _. 0) slot cqe_size (λ i below.
    let same : completion_slot s.geometry.mediator lane 0 + (cqe_size * at + i) ≡ slot + i = omega arith in
    subst (λ (a : ℕ). host a ≡ 0) same (clear lane (cqe_size * at + i) there (omega (arith, within, below)))))
    ∙ no-phase slot

lane-phased : (s : SetUp) (host : ℕ → ℕ) → AreRingsClear s host → (lane : ℕ) → lane < s.lanes
    → IsPhased s.geometry host lane opening_lane.head opening_lane.phase opening_device_lane.posted opening_device_lane.phase
lane-phased s host clear lane there =
    record { wants = refl; written = (λ at less. absurd (omega (arith, less))); earlier = (λ at most last. slot-clear s host clear lane at there last) }

pub opening-phased : (s : SetUp) (host : ℕ → ℕ) (disk : ℕ → ℕ → ℕ) → AreRingsClear s host
    → ArePhased s.geometry (opening_world host disk s.geometry s.lanes)
unfolding opening_world
opening-phased s host disk clear lane l d at there =
    let below : lane < s.lanes =
    subst (λ n. lane < n) (length-replicate s.lanes opening_lane) (slice_get-below (replicate s.lanes opening_lane) lane l at) in
    subst (λ x. IsPhased s.geometry host lane l.head l.phase x.posted x.phase) (slice_get-replicate s.lanes lane opening_device_lane d there)
    (subst (λ x. IsPhased s.geometry host lane x.head x.phase opening_device_lane.posted opening_device_lane.phase) (slice_get-replicate s.lanes lane opening_lane l at)
    (lane-phased s host clear lane below))

-- zeros are clear
pub blank-clear : (s : SetUp) → AreRingsClear s (λ _. 0)
blank-clear s lane at there within = refl
