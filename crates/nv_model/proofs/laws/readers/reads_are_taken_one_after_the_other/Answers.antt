use Rattle.nv_model.proofs.InTurn.{in_transcript-append, in_transcript-given, reads_met-append}
use Rattle.nv_model.proofs.laws.readers.reads_are_taken_one_after_the_other.Goals as goal

pub returns-clause-each : goal.returns-clause-each
returns-clause-each g c = in_transcript-given

pub returns-clause-further : goal.returns-clause-further
returns-clause-further g c = in_transcript-append

pub returns-clause-met : goal.returns-clause-met
returns-clause-met g c = reads_met-append
