use Rattle.std.proofs.Common.{◌∙◌}
use Rattle.nv_tags.specs.Kept.{is_taken_state}
use Rattle.nv_tags.specs.Tags.{is_taken}
use Rattle.nv_tags.proofs.Marks.{marked-seen, slot-taken}
use Rattle.nv_tags.proofs.tags.Tags.taken.Goals as goal

pub returns : goal.returns
returns c =
    c.of.ensures
    ∙ marked-seen c.self.inside.states c.self.inside.claims c.self.inside.leaders c.self.inside.groups c.self.invariant.0 c.args.self.now c.self.view_is
    is_taken_state is_taken c.self.inside.taken slot-taken c.self.invariant.1.taken_are
