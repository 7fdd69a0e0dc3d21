use Rattle.std.proofs.Common.{◌≡◌, ◌<◌, Option, Some, None, length, set, sym, ap, subst, ◌∙◌, arith}
use Rattle.std.specs.Prelude.{IfSome, MatchOption}
use Rattle.std.specs.List.{slice_index_or}
use Rattle.nv_disk.specs.Flat.{flat, moved_of}
use Rattle.nv_world_model.specs.Device.{DeviceLane, Held, unit_gone, with_held}
use Rattle.nv_device.specs.Moving.{IsMoved, unit_of}
use Rattle.nv_device.specs.Physical.{held_at, lane_of}
use Rattle.nv_device.specs.State.{Physical}
use Rattle.nv_device.proofs.LaneLemmas.{lane-seen}
use Rattle.nv_device.proofs.MoveLemmas.{moved-device, moved-whole}
use Rattle.nv_device.proofs.device.Device.move_unit.Goals as goal

pub invariant_of-self : goal.invariant_of-self
invariant_of-self c =
    let L : Physical → Type 0 = λ p. c.args.lane < length p.lanes in
    let within : c.args.lane < length c.self.inside.lanes.items = subst L (sym c.self.view_is) c.requires.lane in
    let at : c.from-2.result ≡ c.args.lane = c.from-2.ensures in
    let ring : c.index-ring.result.now ≡ lane_of c.args.self.now c.args.lane =
    lane-seen c.args.self.now _ c.args.lane c.from.result c.index-ring.result.now c.self.view_is c.from.ensures c.requires.lane c.index-ring.ensures in
    let lane : c.index_mut.result.now ≡ lane_of c.args.self.now c.args.lane =
    lane-seen c.args.self.now _ c.args.lane c.from-2.result c.index_mut.result.now c.self.view_is c.from-2.ensures c.requires.lane c.index_mut.ensures.value in
    let there : slice_index_or c.index_mut.result.now.held c.args.slot None ≡ Some c.in-Some.command.now =
    ap (λ (d : DeviceLane). slice_index_or d.held c.args.slot None) (lane ∙ sym ring) ∙ c.in-Some.ensures in
    let M : Option Held → Type 0 =
    λ o. MatchOption o ⊥ (λ h. c.unit_done.new.self
    ≡ with_held c.args.slot (Some (unit_gone c.args.number c.move_one-differed.result h)) c.index_mut.result.now) in
    moved-whole c.self.inside.mediator c.self.inside.disk _ c.self.inside.kept _ c.self.inside.lanes.items c.from-2.result c.args.slot c.args.number
    c.index_mut.result.now c.unit_done.new.self c.in-Some.command.now c.move_one-differed.result c.self.invariant
    c.move_one-differed.ensures.disk_size c.move_one-differed.ensures.marks_size
    (omega arith) c.index_mut.ensures.value there (subst M there c.unit_done.ensures)

pub returns-clause-done : goal.returns-clause-done
returns-clause-done c = λ done.
    let ring : c.index-ring.result.now ≡ lane_of c.args.self.now c.args.lane =
    lane-seen c.args.self.now _ c.args.lane c.from.result c.index-ring.result.now c.self.view_is c.from.ensures c.requires.lane c.index-ring.ensures in
    let lane : c.index_mut.result.now ≡ lane_of c.args.self.now c.args.lane =
    lane-seen c.args.self.now _ c.args.lane c.from-2.result c.index_mut.result.now c.self.view_is c.from-2.ensures c.requires.lane c.index_mut.ensures.value in
    let there : slice_index_or c.index_mut.result.now.held c.args.slot None ≡ Some c.in-Some.command.now =
    ap (λ (d : DeviceLane). slice_index_or d.held c.args.slot None) (lane ∙ sym ring) ∙ c.in-Some.ensures in
    let held : held_at c.args.self.now c.args.lane c.args.slot ≡ Some c.in-Some.command.now =
    ap (λ (d : DeviceLane). slice_index_or d.held c.args.slot None) (sym lane) ∙ there in
    let unit : moved_of (flat c.move_one-differed.new.host c.move_one-differed.new.disk c.move_one-differed.new.kept) c.move_one-differed.result
    ≡ unit_of c.args.number c.in-Some.command.now c.args.host.now c.self.inside.disk c.self.inside.kept =
    c.move_one-differed.ensures.moved in
    let L : Physical → Type 0 = λ p. c.args.lane < length p.lanes in
    let within : c.args.lane < length c.self.inside.lanes.items = subst L (sym c.self.view_is) c.requires.lane in
    let M : Option Held → Type 0 =
    λ o. MatchOption o ⊥ (λ h. c.unit_done.new.self
    ≡ with_held c.args.slot (Some (unit_gone c.args.number c.move_one-differed.result h)) c.index_mut.result.now) in
    let before : Physical = record { mediator = c.self.inside.mediator; disk = c.self.inside.disk; kept = c.self.inside.kept; lanes = c.self.inside.lanes.items } in
    let behind : Physical = record {
      mediator = c.self.inside.mediator;
      disk = c.move_one-differed.new.disk;
      kept = c.move_one-differed.new.kept;
      lanes = set c.self.inside.lanes.items c.from-2.result c.unit_done.new.self;
    } in
    let P : Physical → Type 0 = λ p. IsMoved c.args.lane c.args.slot c.args.number c.in-Some.command.now c.args.host.now p c.move_one-differed.new.host behind in
    let H : Option Held → Type 0 = λ o. IfSome o (λ h. IsMoved c.args.lane c.args.slot c.args.number h c.args.host.now c.args.self.now c.move_one-differed.new.host behind) in
    subst H (sym held) (subst P c.self.view_is
    (moved-device c.args.lane c.args.slot c.args.number c.from-2.result c.in-Some.command.now c.args.host.now c.move_one-differed.new.host before behind.disk behind.kept
    c.index_mut.result.now c.unit_done.new.self c.move_one-differed.result c.from-2.ensures within c.index_mut.ensures.value
    unit
    (subst M there c.unit_done.ensures)))
