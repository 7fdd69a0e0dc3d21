use Rattle.std.proofs.Common.{refl}
use Rattle.nv_entry.specs.Layout.{number_at, dword, qword, bits}
use Rattle.nv_mem.specs.GuestMap.{everywhere}
use Rattle.nv_model.specs.Dialogue.{and_then}
use Rattle.nv_model.specs.Sgl.{read_array, read_sgl}
use Rattle.nv_model.specs.Prp.{read_entries}
use Rattle.nv_model.specs.Judge.{read_source, ranges_in, move_units, clear_units, range_units, judge}
use Rattle.nv_model.specs.Transcript.{first_read, in_transcript}
use Rattle.nv_model.proofs.rows.answers.a_read_at_another_address_does_not_meet_it.Goals as goal

pub returns : goal.returns
unfolding number_at dword qword bits everywhere and_then read_array read_sgl read_entries read_source ranges_in move_units clear_units range_units judge first_read in_transcript
returns c = refl
