use Rattle.std.proofs.Common.{refl}
use Rattle.nv_entry.specs.Layout.{number_at, dword, qword, bits}
use Rattle.nv_mem.specs.GuestMap.{everywhere}
use Rattle.nv_model.specs.Sgl.{read_array, read_sgl}
use Rattle.nv_model.specs.Transcript.{first_read, in_transcript}
use Rattle.nv_model.proofs.rows.answers.two_reads_of_a_list_that_changes.Goals as goal

pub returns : goal.returns
unfolding number_at dword qword bits everywhere read_array read_sgl first_read in_transcript
returns c = refl
