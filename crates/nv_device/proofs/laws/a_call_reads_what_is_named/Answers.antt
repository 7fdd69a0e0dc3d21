use Rattle.std.proofs.Common.{length}
use Rattle.nv_model.specs.Memory.{byte_in}
use Rattle.nv_disk.specs.Flat.{byte_of_block}
use Rattle.nv_disk.specs.Marks.{mark_of}
use Rattle.nv_world_model.proofs.LaneReach.{unit-agree}
use Rattle.nv_device.proofs.LeftLemmas.{taken-reads}
use Rattle.nv_device.proofs.laws.a_call_reads_what_is_named.Goals as goal

pub returns-clause-taken : goal.returns-clause-taken
returns-clause-taken c = taken-reads

pub returns-clause-moved : goal.returns-clause-moved
returns-clause-moved c = λ number h host other disk kept same.
    unit-agree number (length disk) h (byte_in host) (byte_in other) (byte_of_block disk) (mark_of kept) same
