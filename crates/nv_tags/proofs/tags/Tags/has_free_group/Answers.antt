use Rattle.std.proofs.Common.{ℕ, nat_le, count_ones, arith, ap, ◌∙◌}
use Rattle.nv_tags.proofs.Lowest.{many-seen}
use Rattle.nv_tags.proofs.tags.Tags.has_free_group.Goals as goal

pub returns : goal.returns
returns c =
    ap (λ (n : ℕ). nat_le n (count_ones c.self.inside.free)) c.from.ensures
    ∙ many-seen c.self.inside.states c.self.inside.claims c.self.inside.leaders c.self.inside.groups c.self.invariant.0 c.args.self.now c.self.view_is
    c.self.inside.free c.self.invariant.1.free_are c.args.count (omega arith)
