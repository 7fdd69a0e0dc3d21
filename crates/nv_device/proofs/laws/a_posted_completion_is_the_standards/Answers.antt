use Rattle.std.proofs.Common.{◌+◌, ℕ, subst, sym, arith}
use Rattle.nv_entry.specs.Completion.{IsCompletion}
use Rattle.nv_model.specs.Memory.{byte_in, bytes_from}
use Rattle.nv_world_model.specs.Area.{completion_slot}
use Rattle.nv_world_model.proofs.LaneReach.{completion-fields}
use Rattle.nv_device.specs.Physical.{lane_of}
use Rattle.nv_device.proofs.LeftLemmas.{posted-elsewhere}
use Rattle.nv_device.proofs.laws.a_posted_completion_is_the_standards.Goals as goal

pub returns-clause-entry : goal.returns-clause-entry
returns-clause-entry c = λ lane slot st old_host new_host old new posted head few below sct sc.
    let P : (ℕ → ℕ) → Type 0 = λ m. IsCompletion 0 (lane_of old lane).head (lane + 1) slot (lane_of old lane).phase st
    (bytes_from m (completion_slot old.mediator lane (lane_of old lane).posted) 16) in
    subst P (sym posted.host)
    (completion-fields old.mediator lane slot st (lane_of old lane) (byte_in old_host) (omega arith) (omega arith) (omega arith) sct sc)

pub returns-clause-others : goal.returns-clause-others
returns-clause-others c = posted-elsewhere
