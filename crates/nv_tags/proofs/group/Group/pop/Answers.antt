use Rattle.std.proofs.Common.{arith, sym, ◌∙◌}
use Rattle.nv_tags.proofs.Masks.{tags_in-lowest, tags_in-zero}
use Rattle.nv_tags.proofs.group.Group.pop.Goals as goal

pub returns-then-self-eq0-clause-lowest : goal.returns-then-self-eq0-clause-lowest
returns-then-self-eq0-clause-lowest c = sym c.self.view_is ∙ sym (tags_in-zero c.self.inside.mask c.if-self-eq0.true)

pub returns-clause-lowest : goal.returns-clause-lowest
returns-clause-lowest c =
    sym c.self.view_is
    ∙ tags_in-lowest c.self.inside.mask c.without-self-inside.result (omega arith) (omega arith) c.without-self-inside.ensures
