use Rattle.std.proofs.Common.{◌∙◌, Some, ap, arith}
use Rattle.nv_core.proofs.LaneTags.{lane-past, lane-state}
use Rattle.nv_tags.specs.declared.state.TagState.{TagState}
use Rattle.nv_core.proofs.lane.Lane.state.Goals as goal

pub returns-then-from-ge-TAG_COUNT : goal.returns-then-from-ge-TAG_COUNT
returns-then-from-ge-TAG_COUNT c =
    let i = c.self.inside in
    lane-past i.head i.phase i.tags i.progress.items c.args.self.now c.self.invariant c.self.view_is
    c.args.tag (let e = c.from.ensures in let t = c.if-from-ge-TAG_COUNT.true in omega arith)

pub returns : goal.returns
returns c =
    let i = c.self.inside in
    ap (λ (t : TagState). Some t) c.state.ensures
    ∙ lane-state i.head i.phase i.tags i.progress.items c.args.self.now c.self.invariant c.self.view_is
    c.args.tag (let e = c.from.ensures in let t = c.if-from-ge-TAG_COUNT.false in omega arith)
