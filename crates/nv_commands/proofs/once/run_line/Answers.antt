use Rattle.std.proofs.Common.{[], refl}
use Rattle.nv_print.proofs.Growing.{Appends-nothing}
use Rattle.nv_commands.proofs.once.run_line.Goals as goal

pub returns-in-Paint-clause-ok : goal.returns-in-Paint-clause-ok
returns-in-Paint-clause-ok g c = rw c.in-Paint.is ([], Appends-nothing _, (refl, c.paint.ensures.block))
