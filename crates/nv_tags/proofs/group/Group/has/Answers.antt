use Rattle.std.proofs.Common.{List, ℕ, ◌==◌, not, ap, arith, sym, ◌∙◌}
use Rattle.std.proofs.lemmas.Bool.{le-ltb}
use Rattle.std.proofs.lemmas.Nat.Bits.{shr_and_one}
use Rattle.nv_tags.proofs.Masks.{among-past}
use Rattle.nv_tags.proofs.Parted.{among-bit}
use Rattle.nv_tags.proofs.Rows.{is_among}
use Rattle.nv_tags.proofs.group.Group.has.Goals as goal

pub returns-then-tag-lt-TAGS : goal.returns-then-tag-lt-TAGS
returns-then-tag-lt-TAGS c =
    ap (λ (n : ℕ). not (n == 0)) (shr_and_one c.self.inside.mask c.args.tag)
    ∙ sym (among-bit c.self.inside.mask c.args.tag (omega (arith, c.if-tag-lt-TAGS.true)))
    ∙ ap (λ (xs : List ℕ). is_among xs c.args.tag) c.self.view_is

pub returns-else-tag-lt-TAGS : goal.returns-else-tag-lt-TAGS
returns-else-tag-lt-TAGS c =
    le-ltb c.args.tag 64 (omega (arith, c.if-tag-lt-TAGS.false))
    ∙ sym (among-past c.self.inside.mask c.args.tag (omega (arith, c.if-tag-lt-TAGS.false)))
    ∙ ap (λ (xs : List ℕ). is_among xs c.args.tag) c.self.view_is
