use Rattle.std.proofs.Common.{◌≡◌, ◌≤◌, ◌<◌, ◌^◌, ℕ, true, not, List, length, Some, sym, ap, subst, ◌∙◌, arith, set}
use Rattle.std.proofs.lemmas.List.{length-set}
use Rattle.nv_model.specs.Queue.{is_empty}
use Rattle.nv_model.specs.Memory.{byte_in}
use Rattle.nv_world_model.specs.Area.{lane_start}
use Rattle.nv_world_model.specs.Device.{DeviceLane, Held, held_of}
use Rattle.nv_device.specs.Physical.{IsHeld, lane_of}
use Rattle.nv_device.specs.State.{Physical}
use Rattle.nv_device.specs.Taking.{waits}
use Rattle.nv_device.proofs.LaneLemmas.{lane-seen}
use Rattle.nv_device.proofs.TakeLemmas.{lanes-held, taken-held}
use Rattle.nv_device.proofs.device.Device.take.Goals as goal

pub invariant_of-self : goal.invariant_of-self
invariant_of-self c =
    let L : Physical → Type 0 = λ p. c.args.lane < length p.lanes in
    let there : c.args.lane < length c.self.inside.lanes.items = subst L (sym c.self.view_is) c.requires.lane in
    let at : c.from-2.result ≡ c.args.lane = c.from-2.ensures in
    let ring : c.index-ring.result.now ≡ lane_of c.args.self.now c.args.lane =
    lane-seen c.args.self.now _ c.args.lane c.from.result c.index-ring.result.now c.self.view_is c.from.ensures c.requires.lane c.index-ring.ensures in
    let waiting : waits c.args.lane c.args.self.now ≡ true =
    sym (ap (λ (d : DeviceLane). not (is_empty d.head d.tail)) ring) ∙ ap not (sym c.is_idle.ensures ∙ c.if-is_idle.false) in
    let kept : IsHeld (length c.args.self.now.disk) (held_of c.front_entry-sqe.result (byte_in c.args.host.now)) =
    (let E : List ℕ → Type 0 = λ e. IsHeld (length c.args.self.now.disk) (held_of e (byte_in c.args.host.now)) in
    subst E (sym c.front_entry-sqe.ensures) (taken-held (length c.args.self.now.disk) c.args.host.now _ _ (c.requires.may waiting))) in
    let H : Held → Type 0 = λ h. IsHeld (length c.self.inside.disk) h in
    let D : Physical → Type 0 = λ p. IsHeld (length p.disk) (held_of c.front_entry-sqe.result (byte_in c.args.host.now)) in
    let size : length (set c.self.inside.lanes.items c.from-2.result c.take.new.self) ≡ length c.self.inside.lanes.items =
    length-set c.self.inside.lanes.items c.from-2.result c.take.new.self in
    let A : ℕ → Type 0 = λ n. lane_start c.self.inside.mediator n ≤ 2 ^ 64 in
    let few = c.self.invariant.few in
    record {
      area = subst A (sym size) c.self.invariant.area;
      few = omega arith;
      marked = c.self.invariant.marked;
      held = lanes-held (length c.self.inside.disk) c.self.inside.lanes.items c.from-2.result c.index_mut.result.now c.take.new.self _ (Some c.in_ok-command.command)
          c.self.invariant.held (omega arith) c.index_mut.ensures.value (ap (λ (d : DeviceLane). d.held) c.take.ensures)
          (subst H (sym c.in_ok-command.ensures) (subst D (sym c.self.view_is) kept));
    }
