use Rattle.std.proofs.Common.{ℕ, Option, Some, ap, sym, ◌∙◌}
use Rattle.nv_model.specs.Controller.{submission_queue}
use Rattle.nv_vctl.proofs.Entries.{front-at, front-there}
use Rattle.nv_vctl.proofs.vctl.Vctl.front.Goals as goal

pub returns-in_err-found : goal.returns-in_err-found
returns-in_err-found c =
    absurd (front-there c.args.self.now c.args.queue (sym c.if-not-waits.ensures)
    (ap (submission_queue c.args.self.now) (sym c.from.ensures) ∙ sym c.submission_queue.ensures ∙ c.in_err-found.was))

pub returns : goal.returns
returns c =
    ap (λ (addr : ℕ). let at : Option ℕ = Some addr in at) c.front.ensures
    ∙ sym (front-at c.args.self.now c.args.queue c.in_ok-found.found (sym c.if-not-waits.ensures)
    (ap (submission_queue c.args.self.now) (sym c.from.ensures) ∙ sym c.submission_queue.ensures ∙ c.in_ok-found.was))
