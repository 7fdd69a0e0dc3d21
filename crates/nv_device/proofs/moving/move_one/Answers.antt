use Rattle.std.proofs.Common.{ap, sym, ◌∙◌}
use Rattle.nv_disk.specs.Flat.{flat, moved_of}
use Rattle.nv_device.proofs.UnitLemmas.{no-unit}
use Rattle.nv_device.proofs.moving.move_one.Goals as goal

pub returns-in-None-clause-moved : goal.returns-in-None-clause-moved
returns-in-None-clause-moved c =
    ap (moved_of (flat c.args.host.now c.args.disk.now c.args.kept.now)) c.has_differed.ensures
    ∙ no-unit c.args.number c.args.command.now c.args.host.now c.args.disk.now c.args.kept.now (sym c.in-None.ensures)
