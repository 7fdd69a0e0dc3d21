use Rattle.nv_tags.proofs.Parted.{among-one}
use Rattle.nv_tags.proofs.group.Group.one.Goals as goal

pub returns : goal.returns
returns c = λ t. among-one c.args.tag c.with.result t c.requires c.with.ensures
