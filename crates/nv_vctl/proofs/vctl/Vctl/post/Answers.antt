use Rattle.std.proofs.Common.{◌≡◌, Option, length, arith, sym, ap, ◌∙◌, subst}
use Rattle.std.specs.Option.{option_map}
use Rattle.nv_model.specs.Controller.{Posted, submission_queue}
use Rattle.nv_model.specs.Laws.{QueuesInPlace}
use Rattle.nv_model.specs.Queue.{SubmissionQueue}
use Rattle.nv_vctl.specs.Vctl.{IsWhole, controller_behind, posting_of}
use Rattle.nv_vctl.proofs.Entries.{AreFound, post-done, post-held, post-made, posting-made}
use Rattle.nv_vctl.proofs.Places.{in_place-post}
use Rattle.nv_vctl.proofs.Whole.{completion-below, whole-posted}
use Rattle.nv_vctl.proofs.vctl.Vctl.post.Goals as goal

pub returns-then-is_full-clause-posting : goal.returns-then-is_full-clause-posting
returns-then-is_full-clause-posting c =
    let n = c.args.self.now in
    let found : AreFound n c.args.queue c.from-completes_to.result c.in_ok-from.from c.in_ok-to.to c.is_full.result = record {
      from = ap (submission_queue n) (sym c.from-number.ensures) ∙ sym c.submission_queue.ensures ∙ c.in_ok-from.was;
      goes = c.from-completes_to.ensures ∙ ap (λ (s : SubmissionQueue). s.completes_to) c.from.view_is;
      there = sym c.completion_queue.ensures ∙ c.in_ok-to.was;
      room = c.is_full.ensures;
    } in
    ap (λ (o : Option Posted). option_map posting_of o)
    (sym (post-held c.args.dw0 c.args.cid c.args.status found c.if-is_full.true))

pub returns-then-is_full-clause-state : goal.returns-then-is_full-clause-state
returns-then-is_full-clause-state c =
    let n = c.args.self.now in
    let found : AreFound n c.args.queue c.from-completes_to.result c.in_ok-from.from c.in_ok-to.to c.is_full.result = record {
      from = ap (submission_queue n) (sym c.from-number.ensures) ∙ sym c.submission_queue.ensures ∙ c.in_ok-from.was;
      goes = c.from-completes_to.ensures ∙ ap (λ (s : SubmissionQueue). s.completes_to) c.from.view_is;
      there = sym c.completion_queue.ensures ∙ c.in_ok-to.was;
      room = c.is_full.ensures;
    } in
    ap (controller_behind n)
    (sym (post-held c.args.dw0 c.args.cid c.args.status found c.if-is_full.true))

pub bounds-self-inside-completes_to : goal.bounds-self-inside-completes_to
bounds-self-inside-completes_to c =
    completion-below c.args.self.now c.from-completes_to.result c.in_ok-to.to
    (subst IsWhole c.self.view_is c.self.invariant)
    (sym c.completion_queue.ensures ∙ c.in_ok-to.was)

pub listed : goal.listed
listed c =
    let below = completion-below c.args.self.now c.from-completes_to.result c.in_ok-to.to
    (subst IsWhole c.self.view_is c.self.invariant)
    (sym c.completion_queue.ensures ∙ c.in_ok-to.was) in
    let count : length c.self.inside.completion ≡ 9 = c.self.invariant.together.completion_count in
    omega arith

pub invariant_of-self : goal.invariant_of-self
invariant_of-self c =
    let n = c.args.self.now in
    let found : AreFound n c.args.queue c.from-completes_to.result c.in_ok-from.from c.in_ok-to.to c.is_full.result = record {
      from = ap (submission_queue n) (sym c.from-number.ensures) ∙ sym c.submission_queue.ensures ∙ c.in_ok-from.was;
      goes = c.from-completes_to.ensures ∙ ap (λ (s : SubmissionQueue). s.completes_to) c.from.view_is;
      there = sym c.completion_queue.ensures ∙ c.in_ok-to.was;
      room = c.is_full.ensures;
    } in
    subst IsWhole
    (sym (post-made _ n c.args.queue c.from-number.result c.args.dw0 c.args.cid c.args.status
    c.in_ok-from.from c.in_ok-to.to c.go_on.new.self
    c.from-completes_to.result c.count_ended.new.taken c.self.view_is c.from-number.ensures found.goes c.go_on.ensures c.count_ended.ensures))
    (whole-posted n c.args.queue c.args.dw0 c.args.cid c.args.status _ c.requires.ready
    (post-done c.args.dw0 c.args.cid c.args.status found c.if-is_full.false)
    (subst IsWhole c.self.view_is c.self.invariant))

pub returns-clause-posting : goal.returns-clause-posting
returns-clause-posting c =
    let n = c.args.self.now in
    let found : AreFound n c.args.queue c.from-completes_to.result c.in_ok-from.from c.in_ok-to.to c.is_full.result = record {
      from = ap (submission_queue n) (sym c.from-number.ensures) ∙ sym c.submission_queue.ensures ∙ c.in_ok-from.was;
      goes = c.from-completes_to.ensures ∙ ap (λ (s : SubmissionQueue). s.completes_to) c.from.view_is;
      there = sym c.completion_queue.ensures ∙ c.in_ok-to.was;
      room = c.is_full.ensures;
    } in
    posting-made n c.in_ok-from.from c.in_ok-to.to c.args.queue
    c.args.dw0 c.args.cid c.head.result c.next-addr.result c.phase.result c.args.status
    c.bytes.result c.new-cqe.result c.next-addr.ensures
    c.bytes.ensures c.new-cqe.ensures.bytes c.head.ensures.value c.phase.ensures
    ∙ ap (λ (o : Option Posted). option_map posting_of o)
    (sym (post-done c.args.dw0 c.args.cid c.args.status found c.if-is_full.false))

pub returns-clause-state : goal.returns-clause-state
returns-clause-state c =
    let n = c.args.self.now in
    let found : AreFound n c.args.queue c.from-completes_to.result c.in_ok-from.from c.in_ok-to.to c.is_full.result = record {
      from = ap (submission_queue n) (sym c.from-number.ensures) ∙ sym c.submission_queue.ensures ∙ c.in_ok-from.was;
      goes = c.from-completes_to.ensures ∙ ap (λ (s : SubmissionQueue). s.completes_to) c.from.view_is;
      there = sym c.completion_queue.ensures ∙ c.in_ok-to.was;
      room = c.is_full.ensures;
    } in
    post-made _ n c.args.queue c.from-number.result c.args.dw0 c.args.cid c.args.status c.in_ok-from.from c.in_ok-to.to c.go_on.new.self
    c.from-completes_to.result c.count_ended.new.taken c.self.view_is c.from-number.ensures found.goes c.go_on.ensures c.count_ended.ensures
    ∙ ap (controller_behind n)
    (sym (post-done c.args.dw0 c.args.cid c.args.status found c.if-is_full.false))

pub returns-clause-in_place : goal.returns-clause-in_place
returns-clause-in_place c = λ test place.
    subst (QueuesInPlace test) (sym (returns-clause-state c))
    (in_place-post test c.args.self.now c.args.queue c.args.dw0 c.args.cid c.args.status place)
