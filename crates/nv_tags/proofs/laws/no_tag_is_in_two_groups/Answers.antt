use Rattle.nv_tags.proofs.GroupLaws.{one-group}
use Rattle.nv_tags.proofs.laws.no_tag_is_in_two_groups.Goals as goal

pub returns : goal.returns
returns c = one-group
