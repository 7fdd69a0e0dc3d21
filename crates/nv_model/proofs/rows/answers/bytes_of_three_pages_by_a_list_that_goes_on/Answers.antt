use Rattle.std.proofs.Common.{refl}
use Rattle.nv_entry.specs.Layout.{number_at}
use Rattle.nv_model.specs.Memory.{bytes_from, stored}
use Rattle.nv_model.specs.PrpAddresses.{byte_address, slot_of}
use Rattle.nv_model.proofs.rows.answers.bytes_of_three_pages_by_a_list_that_goes_on.Goals as goal

pub returns : goal.returns
unfolding number_at bytes_from stored byte_address slot_of
returns c = refl
