use Rattle.std.proofs.Common.{refl}
use Rattle.nv_entry.specs.Layout.{number_at, dword, qword, bits}
use Rattle.nv_mem.specs.GuestMap.{everywhere}
use Rattle.nv_model.specs.Memory.{bytes_from, stored}
use Rattle.nv_model.specs.SglSequence.{members_from}
use Rattle.nv_model.proofs.rows.answers.the_descriptors_of_a_list_in_order.Goals as goal

pub returns : goal.returns
unfolding number_at dword qword bits everywhere bytes_from stored members_from
returns c = refl
