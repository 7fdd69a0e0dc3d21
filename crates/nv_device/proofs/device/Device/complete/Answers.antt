use Rattle.std.proofs.Common.{◌≡◌, ◌+◌, ◌<◌, ℕ, length, sym, ap, subst, ◌∙◌, arith}
use Rattle.nv_model.specs.Memory.{byte_in}
use Rattle.nv_world_model.specs.Area.{completion_slot}
use Rattle.nv_world_model.specs.Device.{DeviceLane, completion_posted}
use Rattle.nv_device.specs.Physical.{lane_of, with_lane}
use Rattle.nv_device.specs.State.{Physical}
use Rattle.nv_device.proofs.LaneLemmas.{completion-stored, lane-changed, lane-got, same-completion}
use Rattle.nv_device.proofs.device.Device.complete.Goals as goal

pub returns-clause-posted : goal.returns-clause-posted
returns-clause-posted c =
    let L : Physical → Type 0 = λ p. c.args.lane < length p.lanes in
    let there : c.args.lane < length c.self.inside.lanes.items = subst L (sym c.self.view_is) c.requires.lane in
    let ring : c.index-ring.result.now ≡ lane_of c.args.self.now c.args.lane =
    lane-got (record { mediator = c.self.inside.mediator; disk = c.self.inside.disk; kept = c.self.inside.kept; lanes = c.self.inside.lanes.items })
    c.args.lane c.from.result c.index-ring.result.now c.from.ensures there c.index-ring.ensures
    ∙ ap (λ (p : Physical). lane_of p c.args.lane) c.self.view_is in
    record {
      host =
          ap byte_in c.store.ensures.bytes
          ∙ completion-stored c.args.host.now c.args.self.now.mediator c.args.lane c.args.slot c.completion_slot-addr.result c.args.status
          (lane_of c.args.self.now c.args.lane) c.bytes.result
          (let len = c.bytes.type_inv in let inside = c.completion_slot-addr.ensures.inside in let area = c.requires.area in omega arith)
          (c.completion_slot-addr.ensures.value
          ∙ ap (completion_slot c.args.self.now.mediator c.args.lane) (c.posted-posted.ensures.value ∙ ap (λ (d : DeviceLane). d.posted) ring))
          (c.bytes.ensures ∙ c.new-cqe.ensures.bytes
          ∙ same-completion _ _ _ _ _ _ _ _ c.args.status (c.head-head.ensures.value ∙ ap (λ (d : DeviceLane). d.head) ring)
          (ap (λ (n : ℕ). n + 1) c.from-queue.ensures) c.from-2.ensures (c.phase-phase.ensures ∙ ap (λ (d : DeviceLane). d.phase) ring));
      device =
          lane-changed (record { mediator = c.self.inside.mediator; disk = c.self.inside.disk; kept = c.self.inside.kept; lanes = c.self.inside.lanes.items })
          c.args.lane c.from-3.result c.index_mut.result.now c.complete.new.self (completion_posted c.args.slot) c.from-3.ensures there c.index_mut.ensures.value c.complete.ensures
          ∙ ap (λ (p : Physical). with_lane c.args.lane (completion_posted c.args.slot (lane_of p c.args.lane)) p) c.self.view_is;
    }
