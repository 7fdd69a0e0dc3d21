use Rattle.std.proofs.Common.{sym, ◌∙◌}
use Rattle.nv_entry.specs.Layout.{number_at}
use Rattle.nv_prp.proofs.Cursors.{Progress-step, reading-ended, reading-unfed}
use Rattle.nv_prp.proofs.cursor.read_part.Goals as goal

pub loop-rest-preserved : goal.loop-rest-preserved
unfolding number_at
loop-rest-preserved c =
    Progress-step
    _ _ _ _ _ _ _ c.in-Some.slot.now c.read_u64.result _ _ _ c.loop-rest.invariant (sym c.is_asking.ensures ∙ c.loop-rest-test.true)
    c.in-Some.ensures.cases.0 c.in-Some.ensures.cases.1 c.in-Some.ensures.cases.2
    c.read_u64.ensures c.past_slot-cursor.ensures.dialogue c.past_slot-cursor.ensures.in_range c.past_slot-cursor.ensures.progress

pub returns-after-loop-rest-clause-dialogue : goal.returns-after-loop-rest-clause-dialogue
returns-after-loop-rest-clause-dialogue c =
    sym (reading-ended _ _ _ _ (sym c.is_asking.ensures ∙ c.loop-rest-test.false)) ∙ c.loop-rest.invariant.dialogue

pub returns-in_default-clause-dialogue : goal.returns-in_default-clause-dialogue
returns-in_default-clause-dialogue c =
    sym (reading-unfed _ _ _ _ c.loop-rest.invariant.whole c.in_default.ensures.cases) ∙ c.loop-rest.invariant.dialogue
