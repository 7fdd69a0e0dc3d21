use Rattle.std.proofs.Common.{refl}
use Rattle.nv_entry.specs.Completion.{completion}
use Rattle.nv_entry.specs.Layout.{bits, bytes_of_dwords, dword, number_at}
use Rattle.nv_model.specs.Memory.{byte_in, bytes_from}
use Rattle.nv_examples_host.proofs.reaping.commands.Goals as goal

pub returns-clause-one_that_was_handed_on : goal.returns-clause-one_that_was_handed_on
unfolding number_at dword bits bytes_of_dwords completion bytes_from byte_in
returns-clause-one_that_was_handed_on c = refl

pub returns-clause-one_of_another_guest : goal.returns-clause-one_of_another_guest
unfolding number_at dword bits bytes_of_dwords completion bytes_from byte_in
returns-clause-one_of_another_guest c = refl

pub returns-clause-of_another_queue : goal.returns-clause-of_another_queue
unfolding number_at dword bits bytes_of_dwords completion bytes_from byte_in
returns-clause-of_another_queue c = refl

pub returns-clause-of_the_admin_queue : goal.returns-clause-of_the_admin_queue
unfolding number_at dword bits bytes_of_dwords completion bytes_from byte_in
returns-clause-of_the_admin_queue c = refl

pub returns-clause-of_the_second_lane : goal.returns-clause-of_the_second_lane
unfolding number_at dword bits bytes_of_dwords completion bytes_from byte_in
returns-clause-of_the_second_lane c = refl

pub returns-clause-one_that_waits : goal.returns-clause-one_that_waits
unfolding number_at dword bits bytes_of_dwords completion bytes_from byte_in
returns-clause-one_that_waits c = refl

pub returns-clause-one_that_has_ended : goal.returns-clause-one_that_has_ended
unfolding number_at dword bits bytes_of_dwords completion bytes_from byte_in
returns-clause-one_that_has_ended c = refl

pub returns-clause-a_free_tag : goal.returns-clause-a_free_tag
unfolding number_at dword bits bytes_of_dwords completion bytes_from byte_in
returns-clause-a_free_tag c = refl

pub returns-clause-no_tag : goal.returns-clause-no_tag
unfolding number_at dword bits bytes_of_dwords completion bytes_from byte_in
returns-clause-no_tag c = refl
