use Rattle.std.proofs.Common.{ℕ, List, not, ap, ◌∙◌, arith}
use Rattle.std.specs.List.{filter}
use Rattle.nv_tags.specs.Kept.{tags_in}
use Rattle.nv_tags.proofs.Parted.{tags_in-parted}
use Rattle.nv_tags.proofs.Rows.{is_among}
use Rattle.nv_tags.proofs.group.Group.drop_all.Goals as goal

pub returns : goal.returns
returns c =
    tags_in-parted c.self.inside.mask c.others.inside.mask (omega arith)
    ∙ ap (λ (ts : List ℕ). filter (λ t. not (is_among ts t)) (tags_in c.self.inside.mask)) c.others.view_is
    ∙ ap (filter (λ t. not (is_among c.args.others t))) c.self.view_is
