use Rattle.nv_run.proofs.Castings.{AreEmpty}
use Rattle.nv_run.proofs.part.empty_parts.Given as goal

-- so many parts, none of which has a line
abbrev pub invariant-loop : goal.invariant-loop
invariant-loop l = AreEmpty l.parts.items l.counter
