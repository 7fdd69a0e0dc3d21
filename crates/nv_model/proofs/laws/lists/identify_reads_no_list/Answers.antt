use Rattle.nv_entry.specs.Submission.{prp1_of, prp2_of}
use Rattle.nv_model.proofs.Judged.{asked-page, in_memory-page}
use Rattle.nv_model.proofs.laws.lists.identify_reads_no_list.Goals as goal

pub returns-clause-nothing : goal.returns-clause-nothing
returns-clause-nothing c = asked-page

pub returns-clause-in_any_memory : goal.returns-clause-in_any_memory
returns-clause-in_any_memory c mapped memory entry =
    in_memory-page mapped (λ _. 0) memory (prp1_of entry) (prp2_of entry)
