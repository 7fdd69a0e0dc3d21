use Rattle.nv_fine.proofs.Traces.{traces-within, turns-within}
use Rattle.nv_fine.proofs.laws.each_access_leaves_the_others_alone.Goals as goal

pub returns-clause-traces : goal.returns-clause-traces
returns-clause-traces c = λ s o zeroes accesses f call accepted sound is under. traces-within s o accepted sound zeroes accesses f call is under

pub returns-clause-whatever_others_do : goal.returns-clause-whatever_others_do
returns-clause-whatever_others_do c = λ s o turns f call accepted sound is under. turns-within s o accepted sound turns f call is under
