use Rattle.std.proofs.Common.{◌||◌, List, ℕ, ap, ◌∙◌}
use Rattle.nv_tags.proofs.Parted.{among-or}
use Rattle.nv_tags.proofs.Rows.{is_among}
use Rattle.nv_tags.specs.Kept.{tags_in}
use Rattle.nv_tags.proofs.group.Group.add_all.Goals as goal

pub returns : goal.returns
returns c = λ tag.
    among-or c.self.inside.mask c.others.inside.mask tag
    ∙ ap (λ (xs : List ℕ). is_among xs tag || is_among (tags_in c.others.inside.mask) tag) c.self.view_is
    ∙ ap (λ (xs : List ℕ). is_among c.args.self.now tag || is_among xs tag) c.others.view_is
