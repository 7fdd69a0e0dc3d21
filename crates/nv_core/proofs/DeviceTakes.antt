-- A DevTake, from the device to the world.
use Rattle.std.proofs.Common.{◌≡◌, ℕ, ◌<◌, ◌≤◌, Bool, true, false, cond, not, List, length, set, Option, Some, refl, sym, ap, ◌∙◌}
use Rattle.std.proofs.lemmas.Option.{slice_get_past}
use Rattle.nv_core.specs.State.{IsOf, IsStep, State, world_of}
use Rattle.nv_core.proofs.DeviceNeeds.{HasSides, IsNext, has-sides}
use Rattle.nv_core.proofs.DeviceSteps.{after, same-world}
use Rattle.nv_core.proofs.Placed.{same-size}
use Rattle.nv_device.specs.Physical.{lane_of, with_lane}
use Rattle.nv_device.specs.State.{Physical}
use Rattle.nv_device.specs.Taking.{front_of, taken, waits}
use Rattle.nv_entry.specs.Submission.{cid_of}
use Rattle.nv_model.specs.Memory.{byte_in}
use Rattle.nv_model.specs.Queue.{is_empty, next_slot}
use Rattle.nv_model.specs.declared.reply.Reply.TheVariants as reply
use Rattle.nv_disk.specs.Flat.{byte_of_block}
use Rattle.nv_disk.specs.Marks.{mark_of}
use Rattle.nv_world_model.specs.Area.{ring_size}
use Rattle.nv_world_model.specs.Device.{DeviceLane, entry_taken, front_entry, held_of}
use Rattle.nv_world_model.specs.Geometry.{Geometry}
use Rattle.nv_world_model.specs.ShareArea.{share_entry}
use Rattle.nv_world_model.specs.Step.{After, device_take, device_took, for_one, replied, step}
use Rattle.nv_world_model.specs.World.{Flying, InDevice, Lane, World, tag_changed}
use Rattle.nv_world_model.specs.declared.event.Event.TheVariants as event
use Rattle.nv_laws_sound.proofs.EntryFields.{entry-cid}
use Rattle.nv_laws_sound.proofs.TakenEvents.{took-world}

module _ (geometry : Geometry) (s : State) (is : IsOf geometry s) (lane : ℕ) where
  abbrev takes : DeviceLane → After
  takes d = device_take geometry.mediator lane d (world_of s)

  -- no such lane
  pub take-no_device : length s.device.lanes ≤ lane → IsStep geometry (event.DevTake lane) s reply.Ignored s
  unfolding step
  take-no_device past =
      record {
        after = sym (ap (λ (o : Option DeviceLane). for_one o (world_of s) takes) (slice_get_past s.device.lanes lane past));
        size = same-size s;
      }

  -- a lane by whether an entry waits
  take-by : (b : Bool) (sides : HasSides s lane) → waits lane s.device ≡ b
      → step geometry (event.DevTake lane) (world_of s)
      ≡ cond (not b) (replied reply.Idle (world_of s)) (replied reply.Done (device_took lane (front_entry geometry.mediator lane sides.d (byte_in s.host)) (world_of s)))
  unfolding step
  take-by b sides e =
      let d = sides.d in
      let empty : is_empty d.head d.tail ≡ not b =
      twice (is_empty d.head d.tail) b (sym (ap (λ (x : DeviceLane). not (is_empty x.head x.tail)) sides.seen) ∙ e) in
      ap (λ (o : Option DeviceLane). for_one o (world_of s) takes) sides.at_device
      ∙ ap (λ (x : Bool). cond x (replied reply.Idle (world_of s)) (replied reply.Done (device_took lane (front_entry geometry.mediator lane d (byte_in s.host)) (world_of s)))) empty
    where
      twice : (a b : Bool) → not a ≡ b → a ≡ not b
      twice true b e = ap not e
      twice false b e = ap not e

  pub take-idle : lane < length s.device.lanes → waits lane s.device ≡ false → IsStep geometry (event.DevTake lane) s reply.Idle s
  take-idle below none = record { after = sym (take-by false (has-sides geometry s lane is below) none); size = same-size s }

  module _ (a : IsNext geometry s lane) where
    abbrev physical : List ℕ
    physical = share_entry a.next.share a.next.guest.namespace a.next.guest a.next.command.entry geometry.mediator lane a.tag

    -- the device's side of it
    taken-lane : entry_taken (front_of lane s.host s.device) (byte_in s.host) (lane_of s.device lane)
        ≡ record a.sides.d { head = next_slot ring_size a.sides.d.head; held = set a.sides.d.held a.tag (Some (held_of physical (byte_in s.host))) }
    taken-lane =
        let d = a.sides.d in
        let cid : cid_of physical ≡ a.tag = entry-cid a.next.share a.next.guest a.next.command.entry geometry.mediator lane a.tag a.tag_below in
        ap (λ (x : DeviceLane). entry_taken (front_of lane s.host s.device) (byte_in s.host) x) a.sides.seen
        ∙ ap (λ (e : List ℕ). entry_taken e (byte_in s.host) d) a.front_is
        ∙ ap (λ (n : ℕ). let x : DeviceLane = record d { head = next_slot ring_size d.head; held = set d.held n (Some (held_of physical (byte_in s.host))) } in x) cid

    pub take-done : (device : Physical) → waits lane s.device ≡ true → device ≡ taken lane s.host s.device
        → IsStep geometry (event.DevTake lane) s reply.Done
        (record s { device = device; lanes = set s.lanes lane (tag_changed a.tag (Flying a.next.command a.next.share InDevice) a.sides.l) })
    take-done device waiting done =
        let w = world_of s in
        let d = a.sides.d in
        let is_taken : device ≡ with_lane lane (entry_taken (front_of lane s.host s.device) (byte_in s.host) (lane_of s.device lane)) s.device =
        done ∙ ap (λ (b : Bool). cond b (with_lane lane (entry_taken (front_of lane s.host s.device) (byte_in s.host) (lane_of s.device lane)) s.device) s.device) waiting in
        let lanes : List Lane = set s.lanes lane (tag_changed a.tag (Flying a.next.command a.next.share InDevice) a.sides.l) in
        let behind : World = record w {
          lanes = lanes;
          device = set s.device.lanes lane (record d { head = next_slot ring_size d.head; held = set d.held a.tag (Some (held_of physical (byte_in s.host))) });
        } in
        let new_world : World = world_of (record s { device = device; lanes = lanes }) in
        let same : new_world ≡ behind =
        same-world new_world behind refl
        (ap (λ (q : Physical). byte_of_block q.disk) is_taken)
        (ap (λ (q : Physical). mark_of q.kept) is_taken)
        (ap (λ (q : Physical). q.lanes) is_taken ∙ ap (λ (x : DeviceLane). set s.device.lanes lane x) taken-lane)
        refl refl in
        record {
          after =
              ap (λ (v : World). after v reply.Done)
              (took-world (λ (v : World). new_world ≡ v) geometry w lane a.tag a.sides.l d a.held a.t a.next a.tag_below a.sides.at_lane a.sides.at_device a.at_tag same)
              ∙ sym (take-by true a.sides waiting);
          size = record {
            host = refl;
            mediator = ap (λ (q : Physical). q.mediator) is_taken;
            blocks = ap (λ (q : Physical). length q.disk) is_taken;
          };
        }
