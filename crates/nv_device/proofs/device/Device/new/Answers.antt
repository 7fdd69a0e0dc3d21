use Rattle.std.proofs.Common.{false, length, replicate, ap, ◌∙◌}
use Rattle.std.proofs.lemmas.List.{length-replicate}
use Rattle.nv_device.proofs.HeldLemmas.{opening-whole}
use Rattle.nv_device.proofs.device.Device.new.Goals as goal

pub invariant_of-result : goal.invariant_of-result
invariant_of-result c = opening-whole c.args.mediator c.args.lanes c.args.blocks c.in_ok-disk.disk c.in_ok-kept.kept c.in_ok-lanes.lanes.items c.requires
    (ap length c.in_ok-disk.ensures ∙ length-replicate c.args.blocks (replicate 512 0)) (ap length c.in_ok-kept.ensures ∙ length-replicate c.args.blocks false)
    c.in_ok-lanes.ensures
