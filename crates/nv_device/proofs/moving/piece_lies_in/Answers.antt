use Rattle.std.proofs.Common.{length, sym, ap, ◌∙◌}
use Rattle.nv_device.specs.Pages.{piece_in}
use Rattle.nv_device.proofs.SpellLemmas.{holds-everywhere}
use Rattle.nv_device.proofs.moving.piece_lies_in.Goals as goal

pub returns-in-Run : goal.returns-in-Run
returns-in-Run c =
    holds-everywhere c.holds.result (length c.args.host.now) c.in-Run.addr c.in-Run.len c.holds.ensures
    ∙ ap (piece_in (length c.args.host.now)) (sym c.in-Run.is)
