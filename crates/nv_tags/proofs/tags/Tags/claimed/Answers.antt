use Rattle.std.proofs.Common.{arith}
use Rattle.nv_tags.proofs.Slots.{claim-seen, there}
use Rattle.nv_tags.proofs.tags.Tags.claimed.Goals as goal

pub listed : goal.listed
listed c =
    let below = there c.self.inside.states c.self.inside.claims c.self.inside.leaders c.self.inside.groups c.self.invariant.0 c.args.self.now c.self.view_is
    c.args.tag c.from.result c.from.ensures c.requires.used in
    let all = c.self.invariant.0.claims_are in
    omega arith

pub bounds-self-inside-from : goal.bounds-self-inside-from
bounds-self-inside-from c =
    there c.self.inside.states c.self.inside.claims c.self.inside.leaders c.self.inside.groups c.self.invariant.0 c.args.self.now c.self.view_is
    c.args.tag c.from.result c.from.ensures c.requires.used

pub returns : goal.returns
returns c =
    claim-seen c.self.inside.states c.self.inside.claims c.self.inside.leaders c.self.inside.groups c.self.invariant.0 c.args.self.now c.self.view_is
    c.args.tag c.from.result c.from.ensures
    c.index-self-from.result c.requires.used
