use Rattle.std.proofs.Common.{◌==◌, ℕ, slice_index, ap, sym, ◌∙◌}
use Rattle.nv_admin.proofs.Dues.{command-by, deletion-by, full-not, idle-not}
use Rattle.nv_admin.proofs.due.is_due.Goals as goal

pub returns-then-not-is_ready : goal.returns-then-not-is_ready
returns-then-not-is_ready c = λ test blocks memory. sym (idle-not test blocks c.args.vctl.now memory (sym c.if-not-is_ready.ensures.value))

pub returns-then-is_admin_full : goal.returns-then-is_admin_full
returns-then-is_admin_full c = λ test blocks memory.
    sym (full-not c.args.vctl.now c.if-not-is_ready.ensures.whole (sym c.if-not-is_ready.ensures.value) test blocks memory (sym c.if-is_admin_full.ensures))

pub returns-in-Some : goal.returns-in-Some
returns-in-Some c = λ test blocks memory.
    ap (λ (n : ℕ). n == 0) (c.taken.ensures ∙ ap (slice_index c.args.vctl.now.taken) c.queue.ensures)
    ∙ sym (deletion-by c.args.vctl.now c.if-not-is_ready.ensures.whole (sym c.if-not-is_ready.ensures.value) test blocks memory (sym c.if-is_admin_full.ensures)
    c.in-Some.deletion (sym c.in-Some.ensures))

pub returns-in-None : goal.returns-in-None
returns-in-None c = λ test blocks memory.
    c.waits.ensures
    ∙ sym (command-by c.args.vctl.now c.if-not-is_ready.ensures.whole (sym c.if-not-is_ready.ensures.value) test blocks memory (sym c.if-is_admin_full.ensures) (sym c.in-None.ensures))
