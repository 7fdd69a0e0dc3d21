use Rattle.std.proofs.Common.{◌∙◌}
use Rattle.nv_tags.proofs.Parted.{from-seen}
use Rattle.nv_tags.proofs.tags.Tags.from_queue.Goals as goal

pub returns : goal.returns
returns c =
    c.of.ensures
    ∙ from-seen c.self.inside.states c.self.inside.claims c.self.inside.leaders c.self.inside.groups c.self.invariant.0 c.args.self.now c.self.view_is
    c.self.inside.owned c.self.inside.queued c.self.invariant.2 c.self.invariant.3 c.args.guest c.args.queue c.from.result c.from-2.result c.from.ensures
    c.from-2.ensures c.requires.guest c.requires.queue
