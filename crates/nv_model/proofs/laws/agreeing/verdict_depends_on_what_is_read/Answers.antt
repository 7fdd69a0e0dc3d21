use Rattle.nv_model.specs.Judge.{judge}
use Rattle.nv_model.proofs.Agreeing.{asked-agree, in_memory-agree, io_named-agree}
use Rattle.nv_model.proofs.laws.agreeing.verdict_depends_on_what_is_read.Goals as goal

pub returns-clause-verdict : goal.returns-clause-verdict
returns-clause-verdict c shape memory other entry agree =
    in_memory-agree memory other (judge shape.mapped shape.limit shape.blocks entry) agree

pub returns-clause-asked : goal.returns-clause-asked
returns-clause-asked c shape memory other entry agree =
    asked-agree memory other (judge shape.mapped shape.limit shape.blocks entry) agree

pub returns-clause-named : goal.returns-clause-named
returns-clause-named c = io_named-agree
