use Rattle.std.proofs.Common.{slice_index, ap, sym, ◌∙◌}
use Rattle.nv_admin.specs.Administering.{answer_of, answered_with}
use Rattle.nv_admin.specs.Effect.{stored_by}
use Rattle.nv_admin.specs.declared.carried.Carried.{Carried}
use Rattle.nv_admin.proofs.Cases.{deletion-goes, deletion-held, deletion-waits}
use Rattle.nv_admin.proofs.event.finish_deletion.Goals as goal

pub returns-then-taken-ne0-clause-event : goal.returns-then-taken-ne0-clause-event
returns-then-taken-ne0-clause-event c =
    deletion-waits c.args.deletion c.args.vctl.now (λ none. c.if-taken-ne0.true (c.taken.ensures ∙ ap (slice_index c.args.vctl.now.taken) c.queue.ensures ∙ none))

pub returns-then-is_admin_full-clause-event : goal.returns-then-is_admin_full-clause-event
returns-then-is_admin_full-clause-event c =
    deletion-held c.args.deletion c.args.vctl.now
    (ap (slice_index c.args.vctl.now.taken) (sym c.queue.ensures) ∙ sym c.taken.ensures ∙ c.if-taken-ne0.false) (sym c.if-is_admin_full.ensures)

pub returns-clause-event : goal.returns-clause-event
returns-clause-event c =
    deletion-goes c.args.deletion c.args.vctl.now
    (ap (slice_index c.args.vctl.now.taken) (sym c.queue.ensures) ∙ sym c.taken.ensures ∙ c.if-taken-ne0.false) (sym c.if-is_admin_full.ensures)
    c.requires.waits
    ∙ rw (← c.cid.ensures, ← c.finish_deletion.ensures.state)
    (ap (λ (d : Carried). answered_with (answer_of d.outcome) c.cid.result c.finish_deletion.new.self (stored_by d.page) c.args.vctl.now) (sym c.quiet.ensures))
    ∙ c.complete.ensures.event c.args.vctl.now
