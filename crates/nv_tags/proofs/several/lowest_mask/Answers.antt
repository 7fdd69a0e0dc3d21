use Rattle.std.proofs.Common.{ℕ, ◌+◌, option_map, Option, arith, refl, subst, sym, ap, ◌∙◌}
use Rattle.nv_tags.specs.Kept.{tags_in}
use Rattle.nv_tags.proofs.Lowest.{IsLowest, IsLowest-all, IsLowest-few, IsLowest-more, IsLowest-none}
use Rattle.nv_tags.proofs.several.lowest_mask.Goals as goal

pub loop-tag-init : goal.loop-tag-init
loop-tag-init c =
    subst (IsLowest c.args.mask 0 0 c.args.count) (sym c.of-left.ensures) (IsLowest-none c.args.mask 0 c.args.count refl)

pub returns-in_err-pop : goal.returns-in_err-pop
returns-in_err-pop c =
    ap (λ (o : Option ℕ). option_map tags_in o) c.from_residual.ensures
    ∙ IsLowest-few c.args.mask c.loop-tag._tag c.loop-tag.found c.args.count c.loop-tag.left c.loop-tag.invariant (omega arith) c.in_err-pop.ensures.lowest

pub loop-tag-preserved : goal.loop-tag-preserved
loop-tag-preserved c =
    IsLowest-more c.args.mask c.loop-tag._tag c.loop-tag.found c.args.count c.loop-tag.left c.pop.new.self c.in_ok-pop.field-0 c.with-found.result
    (c.loop-tag._tag + 1) c.loop-tag.invariant (omega arith) c.in_ok-pop.ensures.lowest c.with-found.ensures refl

pub returns : goal.returns
returns c =
    IsLowest-all c.args.mask c.loop-tag._tag c.loop-tag.found c.args.count c.loop-tag.left c.loop-tag.invariant (omega arith)
