use Rattle.std.proofs.Common.{◌≡◌, ◌+◌, ◌≤◌, ℕ, length, ap, ◌∙◌, arith}
use Rattle.nv_model.specs.Memory.{byte_in, bytes_from}
use Rattle.nv_disk.proofs.BufferLemmas.{bytes_at-from}
use Rattle.nv_world_model.specs.Area.{submission_slot}
use Rattle.nv_world_model.specs.Device.{DeviceLane}
use Rattle.nv_device.specs.Physical.{lane_of}
use Rattle.nv_device.proofs.LaneLemmas.{lane-seen}
use Rattle.nv_device.proofs.device.Device.front_entry.Goals as goal

pub returns : goal.returns
returns c =
    let ring : c.index.result.now ≡ lane_of c.args.self.now c.args.lane =
    lane-seen c.args.self.now _ c.args.lane c.from.result c.index.result.now c.self.view_is c.from.ensures c.requires.lane c.index.ensures in
    let inside : c.submission_slot.result + 64 ≤ length c.args.host.now =
    (let slot = c.submission_slot.ensures.inside in let area = c.requires.area in omega arith) in
    c.of.ensures ∙ c.load.ensures
    ∙ bytes_at-from c.args.host.now c.submission_slot.result 64 inside
    ∙ ap (λ (a : ℕ). bytes_from (byte_in c.args.host.now) a 64)
    (c.submission_slot.ensures.value
    ∙ ap (submission_slot c.args.self.now.mediator c.args.lane) (c.head-head.ensures.value ∙ ap (λ (d : DeviceLane). d.head) ring))
