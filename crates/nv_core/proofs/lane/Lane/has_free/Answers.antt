use Rattle.std.proofs.Common.{Option, ℕ, List, is_some, ap, sym, ◌∙◌}
use Rattle.nv_core.proofs.ClaimedTags.{lane-claimed, one-free}
use Rattle.nv_core.proofs.lane.Lane.has_free.Goals as goal

pub returns-then-count-eq1 : goal.returns-then-count-eq1
returns-then-count-eq1 c =
    let i = c.self.inside in
    c.has_free.ensures ∙ one-free i.tags c.args.count c.if-count-eq1.true
    ∙ sym (ap (λ (o : Option (List ℕ)). is_some o) (lane-claimed i.head i.phase i.tags i.progress.items c.args.self.now c.self.invariant c.self.view_is c.args.count))

pub returns : goal.returns
returns c =
    let i = c.self.inside in
    c.has_free_group.ensures
    ∙ sym (ap (λ (o : Option (List ℕ)). is_some o) (lane-claimed i.head i.phase i.tags i.progress.items c.args.self.now c.self.invariant c.self.view_is c.args.count))
