use Rattle.std.proofs.Common.{◌∙◌, arith}
use Rattle.std.proofs.lemmas.Nat.{or_lt}
use Rattle.nv_tags.specs.Kept.{is_flying_state}
use Rattle.nv_tags.specs.Tags.{is_flying}
use Rattle.nv_tags.proofs.Marks.{flying-marked, marked-seen, slot-flying}
use Rattle.nv_tags.proofs.tags.Tags.flying.Goals as goal

pub returns : goal.returns
returns c =
    c.of.ensures
    ∙ marked-seen c.self.inside.states c.self.inside.claims c.self.inside.leaders c.self.inside.groups c.self.invariant.0 c.args.self.now c.self.view_is
    is_flying_state is_flying _ slot-flying
    (flying-marked c.self.inside.states c.self.inside.free c.self.inside.taken c.self.inside.ended c.self.invariant.1
    (or_lt 64 _ c.self.inside.ended (or_lt 64 c.self.inside.free c.self.inside.taken (omega arith) (omega arith)) (omega arith)))
