use Rattle.nv_machine.proofs.Orders.{admins-ordered, dword-last, post-ordered}
use Rattle.nv_machine.proofs.laws.order.a_completion_comes_last.Goals as goal

pub returns-clause-posts : goal.returns-clause-posts
returns-clause-posts c =
    λ host_bytes geometry s lane tag number fetched given d laid kept pages. post-ordered host_bytes geometry s laid kept pages lane tag number fetched given d

pub returns-clause-admins : goal.returns-clause-admins
returns-clause-admins c =
    λ host_bytes geometry s number entry given d laid kept pages. admins-ordered host_bytes geometry s laid kept pages number entry given d

pub returns-clause-dword : goal.returns-clause-dword
returns-clause-dword c = dword-last
