use Rattle.std.proofs.Common.{IfSome, Option, subst, true}
use Rattle.nv_model.specs.Controller.{Controller, Posted}
use Rattle.nv_model.specs.Admin.{AdminStep}
use Rattle.nv_model.specs.Laws.{IsCompletionOnPage, IsSubmissionOnPage, QueuesOnPages}
use Rattle.nv_model.proofs.QueuesKept.{HaveBehind, QueuesHave-opening, doorbell-kept, post-kept, ran_out-kept, reg_write-kept, took-kept}
use Rattle.nv_model.proofs.QueueOrder.{IsKept-on_pages}
use Rattle.nv_model.proofs.AdminKept.{AdminHas, admin-kept}
use Rattle.nv_model.proofs.laws.queues.queues_begin_with_a_page.Goals as goal

pub returns-clause-opening : goal.returns-clause-opening
returns-clause-opening c =
    QueuesHave-opening (λ _. true) IsSubmissionOnPage IsCompletionOnPage (IsKept-on_pages (λ _. true))

pub returns-clause-reg_write : goal.returns-clause-reg_write
returns-clause-reg_write c mapped was after offset value order is =
    subst (λ (o : Option Controller). IfSome o QueuesOnPages) is
    (reg_write-kept mapped IsSubmissionOnPage IsCompletionOnPage (IsKept-on_pages mapped) was offset value order)

pub returns-clause-doorbell : goal.returns-clause-doorbell
returns-clause-doorbell c was after offset value order is =
    subst (λ (o : Option Controller). IfSome o QueuesOnPages) is
    (doorbell-kept (λ _. true) IsSubmissionOnPage IsCompletionOnPage (IsKept-on_pages (λ _. true)) was offset value order)

pub returns-clause-took : goal.returns-clause-took
returns-clause-took c = took-kept (λ _. true) IsSubmissionOnPage IsCompletionOnPage (IsKept-on_pages (λ _. true))

pub returns-clause-post : goal.returns-clause-post
returns-clause-post c was y dw0 cid st r order is =
    subst (λ (o : Option Posted). HaveBehind IsSubmissionOnPage IsCompletionOnPage o) is
    (post-kept (λ _. true) IsSubmissionOnPage IsCompletionOnPage (IsKept-on_pages (λ _. true)) was y dw0 cid st order)

pub returns-clause-ran_out : goal.returns-clause-ran_out
returns-clause-ran_out c =
    ran_out-kept (λ _. true) IsSubmissionOnPage IsCompletionOnPage (IsKept-on_pages (λ _. true))

pub returns-clause-admin : goal.returns-clause-admin
returns-clause-admin c mapped blocks was after memory behind order is =
    subst (λ (a : AdminStep). AdminHas IsSubmissionOnPage IsCompletionOnPage a) is
    (admin-kept mapped IsSubmissionOnPage IsCompletionOnPage (IsKept-on_pages mapped) blocks was memory order)
