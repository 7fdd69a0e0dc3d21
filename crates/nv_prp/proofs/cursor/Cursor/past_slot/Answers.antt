use Rattle.std.proofs.Common.{Bool, cond, sym, ap, ◌∙◌}
use Rattle.nv_mem.specs.GuestMap.{mapped}
use Rattle.nv_prp.specs.Cursor.{read_entry, read_pointer, read_slot}
use Rattle.nv_prp.proofs.cursor.Cursor.past_slot.Goals as goal

pub returns-then-is_at_pointer-clause-dialogue : goal.returns-then-is_at_pointer-clause-dialogue
unfolding read_slot
returns-then-is_at_pointer-clause-dialogue c =
    c.past_pointer.ensures.dialogue c.args.runs.now
    ∙ ap
    (λ (b : Bool).
    cond
    b
    (read_pointer (mapped c.args.map.now.regions) c.args.self c.args.runs.now c.args.value)
    (read_entry (mapped c.args.map.now.regions) c.args.self c.args.runs.now c.args.value))
    (sym (sym c.is_at_pointer.ensures ∙ c.if-is_at_pointer.true))

pub returns-else-is_at_pointer-clause-dialogue : goal.returns-else-is_at_pointer-clause-dialogue
unfolding read_slot
returns-else-is_at_pointer-clause-dialogue c =
    c.past_entry.ensures.dialogue
    ∙ ap
    (λ (b : Bool).
    cond
    b
    (read_pointer (mapped c.args.map.now.regions) c.args.self c.args.runs.now c.args.value)
    (read_entry (mapped c.args.map.now.regions) c.args.self c.args.runs.now c.args.value))
    (sym (sym c.is_at_pointer.ensures ∙ c.if-is_at_pointer.false))
