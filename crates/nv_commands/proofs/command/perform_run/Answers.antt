use Rattle.nv_commands.proofs.RunLemmas.{text-printed-ended}
use Rattle.nv_commands.proofs.command.perform_run.Goals as goal

pub returns-clause-ok : goal.returns-clause-ok
returns-clause-ok g c =
    text-printed-ended _ c.in-Ok.played _ (λ w. g.W.Write.contents w) _ c.in-Ok.ensures.ok c.finish.ensures.ok
