use Rattle.nv_tags.proofs.Masks.{without-is}
use Rattle.nv_tags.proofs.group.without.Goals as goal

pub returns : goal.returns
returns c = without-is c.args.mask c.args.tag c.requires
