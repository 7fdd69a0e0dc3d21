use Rattle.std.proofs.Common.{◌≡◌, ◌≤◌, length}
use Rattle.nv_model.specs.Transcript.{first_read}
use Rattle.nv_plan.proofs.transcript.ReadsLeft.take.Given as goal

abbrev pub invariant-loop-read : goal.invariant-loop-read
invariant-loop-read l = record {
  same : first_read l.addr l.len l.rest ≡ first_read l.addr l.len l.initial.rest;
  fewer : length l.rest ≤ length l.initial.rest;
  kept : l.self-inside.reads.now ≡ l.initial.self-inside.reads.now;
}

abbrev pub decreases-loop-read : goal.decreases-loop-read
decreases-loop-read l = length l.rest
