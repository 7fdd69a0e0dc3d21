use Rattle.nv_tags.proofs.Masks.{with-is}
use Rattle.nv_tags.proofs.group.with.Goals as goal

pub returns : goal.returns
returns c = with-is c.args.mask c.args.tag c.requires
