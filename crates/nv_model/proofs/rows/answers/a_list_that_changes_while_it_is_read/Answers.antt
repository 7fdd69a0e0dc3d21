use Rattle.std.proofs.Common.{refl}
use Rattle.nv_entry.specs.Layout.{number_at, dword, qword, bits}
use Rattle.nv_mem.specs.GuestMap.{everywhere}
use Rattle.nv_model.specs.Rows.{bit_bucket, data_block, segment}
use Rattle.nv_model.specs.Sgl.{read_array, read_sgl}
use Rattle.nv_model.proofs.rows.answers.a_list_that_changes_while_it_is_read.Goals as goal

pub returns : goal.returns
unfolding number_at dword qword bits everywhere read_array read_sgl
returns c =
    (data_block 0 0, (refl, (segment 0x6000 32, (refl, (data_block 0x3000 512, (refl, (bit_bucket 0, (refl, refl))))))))
