use Rattle.std.proofs.Common.{◌∙◌}
use Rattle.nv_tags.specs.Kept.{is_ended_state}
use Rattle.nv_tags.specs.Tags.{is_ended}
use Rattle.nv_tags.proofs.Marks.{marked-seen, slot-ended}
use Rattle.nv_tags.proofs.tags.Tags.ended.Goals as goal

pub returns : goal.returns
returns c =
    c.of.ensures
    ∙ marked-seen c.self.inside.states c.self.inside.claims c.self.inside.leaders c.self.inside.groups c.self.invariant.0 c.args.self.now c.self.view_is
    is_ended_state is_ended c.self.inside.ended slot-ended c.self.invariant.1.ended_are
