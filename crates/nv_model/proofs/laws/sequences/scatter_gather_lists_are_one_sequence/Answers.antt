use Rattle.std.proofs.Common.{add-one}
use Rattle.nv_model.proofs.SglSequenced.{read_sgl-faulty, read_sgl-spells, read_sgl-too_long}
use Rattle.nv_model.proofs.laws.sequences.scatter_gather_lists_are_one_sequence.Goals as goal

pub returns-clause-faulty : goal.returns-clause-faulty
returns-clause-faulty c = read_sgl-faulty

pub returns-clause-too_long : goal.returns-clause-too_long
returns-clause-too_long c mapped dest limit own memory each many =
    read_sgl-too_long mapped dest limit own memory each (rw add-one at many)

pub returns-clause-spells : goal.returns-clause-spells
returns-clause-spells c mapped dest limit own memory each many =
    read_sgl-spells mapped dest limit own memory each (rw add-one at many)
