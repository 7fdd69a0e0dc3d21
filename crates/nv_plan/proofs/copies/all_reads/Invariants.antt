use Rattle.std.proofs.Common.{◌≡◌, take}
use Rattle.nv_plan.proofs.copies.all_reads.Given as goal

-- the copies so far are the front of the reads
abbrev pub invariant-loop-read : goal.invariant-loop-read
invariant-loop-read l = l.copies.items ≡ take l.read-index l.reads
