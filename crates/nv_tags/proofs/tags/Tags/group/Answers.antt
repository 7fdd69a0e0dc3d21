use Rattle.std.proofs.Common.{arith, ◌∙◌}
use Rattle.nv_tags.proofs.Together.{group-seen, leads-there}
use Rattle.nv_tags.proofs.tags.Tags.group.Goals as goal

pub bounds-self-inside-from : goal.bounds-self-inside-from
bounds-self-inside-from c =
    leads-there c.self.inside.states c.self.inside.claims c.self.inside.leaders c.self.inside.groups c.self.invariant.0 c.args.self.now c.self.view_is
    c.args.leader c.from.result c.from.ensures c.requires.leads

pub with-requires : goal.with-requires
with-requires c =
    let below = leads-there c.self.inside.states c.self.inside.claims c.self.inside.leaders c.self.inside.groups c.self.invariant.0 c.args.self.now c.self.view_is
    c.args.leader c.from.result c.from.ensures c.requires.leads in
    let same = c.from.ensures in
    omega arith

pub returns : goal.returns
returns c =
    c.of.ensures
    ∙ group-seen c.self.inside.states c.self.inside.claims c.self.inside.leaders c.self.inside.groups c.self.invariant.0 c.args.self.now c.self.view_is
    c.args.leader c.from.result c.from.ensures c.requires.leads
    c.with.result c.with.ensures
