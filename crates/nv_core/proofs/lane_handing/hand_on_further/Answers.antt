use Rattle.std.proofs.Common.{◌≡◌, ◌+◌, ◌<◌, ◌∙◌, ℕ, List, ap, arith, drop, sym}
use Rattle.std.specs.Vec.{vec_len}
use Rattle.nv_core.proofs.GroupTags.{rising-lower}
use Rattle.nv_core.proofs.HandedParts.{behind-of, drop-past, group-behind, group-order, left-rise, no-kept, no-slots}
use Rattle.nv_core.specs.Handing.{parts_kept, parts_slots}
use Rattle.nv_plan.specs.Made.{shares_made}
use Rattle.nv_tags.specs.Tags.{group, state_at}
use Rattle.nv_tags.specs.declared.state.TagState.TheVariants as state
use Rattle.nv_core.proofs.lane_handing.hand_on_further.Goals as goal

pub returns-then-parts-eq1-clause-tags : goal.returns-then-parts-eq1-clause-tags
returns-then-parts-eq1-clause-tags c =
    no-slots _ _ c.args.tags.now (drop-past (shares_made c.args.plan.now) 1 (let many = c.parts.ensures.value in let one = c.if-parts-eq1.true in omega arith))

pub returns-then-parts-eq1-clause-kept : goal.returns-then-parts-eq1-clause-kept
returns-then-parts-eq1-clause-kept c =
    no-kept _ _ 1 c.args.kept.now.items
    (drop-past (shares_made c.args.plan.now) 1 (let many = c.parts.ensures.value in let one = c.if-parts-eq1.true in omega arith))

pub hand_on_others-requires-clause-taken : goal.hand_on_others-requires-clause-taken
hand_on_others-requires-clause-taken c =
    let g = group-behind c.args.leader c.args.tags.now c.pop-leader.result c.group-others.result c.pop-leader.new.self c.requires.leads c.group-others.ensures
    c.pop-leader.ensures.lowest in
    behind-of (λ (u : ℕ). state_at c.args.tags.now u ≡ state.Taken) (group c.args.leader c.args.tags.now) c.pop-leader.new.self g.0 g.1 c.requires.taken

pub hand_on_others-requires-clause-below : goal.hand_on_others-requires-clause-below
hand_on_others-requires-clause-below c =
    let g = group-behind c.args.leader c.args.tags.now c.pop-leader.result c.group-others.result c.pop-leader.new.self c.requires.leads c.group-others.ensures
    c.pop-leader.ensures.lowest in
    behind-of (λ (u : ℕ). u < vec_len c.args.kept.now) (group c.args.leader c.args.tags.now) c.pop-leader.new.self g.0 g.1 c.requires.below

pub hand_on_others-requires-clause-order : goal.hand_on_others-requires-clause-order
hand_on_others-requires-clause-order c =
    let g = group-behind c.args.leader c.args.tags.now c.pop-leader.result c.group-others.result c.pop-leader.new.self c.requires.leads c.group-others.ensures
    c.pop-leader.ensures.lowest in
    rising-lower 0 (g.0 + 1) c.pop-leader.new.self (omega arith)
    (left-rise (group c.args.leader c.args.tags.now) c.pop-leader.new.self g.0 g.1 (group-order c.args.leader c.args.tags.now))

pub returns-clause-tags : goal.returns-clause-tags
returns-clause-tags c =
    let g = group-behind c.args.leader c.args.tags.now c.pop-leader.result c.group-others.result c.pop-leader.new.self c.requires.leads c.group-others.ensures
    c.pop-leader.ensures.lowest in
    c.hand_on_others.ensures.tags
    ∙ sym (ap (λ (ts : List ℕ). parts_slots (drop 1 ts) (drop 1 (shares_made c.args.plan.now)) c.args.tags.now) g.1)

pub returns-clause-kept : goal.returns-clause-kept
returns-clause-kept c =
    let g = group-behind c.args.leader c.args.tags.now c.pop-leader.result c.group-others.result c.pop-leader.new.self c.requires.leads c.group-others.ensures
    c.pop-leader.ensures.lowest in
    c.hand_on_others.ensures.kept
    ∙ sym (ap (λ (ts : List ℕ). parts_kept (drop 1 ts) (drop 1 (shares_made c.args.plan.now)) 1 c.args.kept.now.items) g.1)
