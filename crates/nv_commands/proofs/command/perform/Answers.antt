use Rattle.nv_commands.proofs.JobLemmas.{Prints-ended}
use Rattle.nv_commands.proofs.command.perform.Goals as goal

pub returns-clause-ok : goal.returns-clause-ok
returns-clause-ok g c =
    Prints-ended g.C.One.built c.args.command _ _ (λ w. g.W.Write.contents w) c.in-Ok.job _ c.in-Ok.ensures.ok c.finish.ensures.ok
