use Rattle.std.proofs.Common.{length}
use Rattle.nv_admin.proofs.Written.{IsWrittenTo}
use Rattle.nv_admin.proofs.data_structure.write_fields.Given as goal

abbrev pub invariant-loop-field : goal.invariant-loop-field
invariant-loop-field l = IsWrittenTo l.fields l.bytes l.left

abbrev pub decreases-loop-field : goal.decreases-loop-field
decreases-loop-field l = length l.left
