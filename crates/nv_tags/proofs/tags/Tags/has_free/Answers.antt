use Rattle.std.proofs.Common.{arith}
use Rattle.nv_tags.proofs.Lowest.{any-seen}
use Rattle.nv_tags.proofs.tags.Tags.has_free.Goals as goal

pub returns : goal.returns
returns c =
    any-seen c.self.inside.states c.self.inside.claims c.self.inside.leaders c.self.inside.groups c.self.invariant.0 c.args.self.now c.self.view_is
    c.self.inside.free c.self.invariant.1.free_are (omega arith)
