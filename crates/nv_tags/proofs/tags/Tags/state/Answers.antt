use Rattle.std.proofs.Common.{arith}
use Rattle.nv_tags.proofs.Slots.{state-seen}
use Rattle.nv_tags.proofs.tags.Tags.state.Goals as goal

pub returns : goal.returns
returns c =
    state-seen c.self.inside.states c.self.inside.claims c.self.inside.leaders c.self.inside.groups c.self.invariant.0 c.args.self.now c.self.view_is
    c.args.tag c.from.result c.from.ensures
    c.index-self-from.result (omega arith)
