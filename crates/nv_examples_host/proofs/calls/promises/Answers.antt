use Rattle.std.proofs.Common.{[]}
use Rattle.nv_examples_host.proofs.Starting.{start-led}
use Rattle.nv_examples_host.specs.Scenes.{start}
use Rattle.nv_examples_host.proofs.calls.promises.Goals as goal

pub returns-clause-a_start_is_reached : goal.returns-clause-a_start_is_reached
returns-clause-a_start_is_reached c u = u start [] start start-led

pub returns-clause-of_each_log : goal.returns-clause-of_each_log
returns-clause-of_each_log c h first memory log z p l = p first memory log z l
