use Rattle.nv_device.proofs.TakeLemmas.{held-made}
use Rattle.std.proofs.Common.{◌∙◌, ap}
use Rattle.std.specs.List.{range_with_len}
use Rattle.nv_device.proofs.command.Command.new.Goals as goal

pub returns : goal.returns
returns c = held-made c.args.sqe c.args.host.now c.in_ok-places.places c.in_ok-left.left c.in_ok-places.ensures.named (c.in_ok-left.ensures ∙ ap (range_with_len 0) c.unit_count.ensures)
