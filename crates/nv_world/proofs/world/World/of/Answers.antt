use Rattle.std.proofs.Common.{List, subst, sym}
use Rattle.nv_mediator.proofs.Logs.{log-none}
use Rattle.nv_mediator.specs.Hosted.{IsLog}
use Rattle.nv_world_model.specs.declared.logged.Logged.{Logged}
use Rattle.nv_world.proofs.world.World.of.Goals as goal

pub invariant_of-result : goal.invariant_of-result
invariant_of-result c =
    subst (λ (log : List Logged). IsLog log c.args.mediator) (sym c.new.ensures.items)
    (log-none c.requires.0 c.args.mediator c.requires.1)
