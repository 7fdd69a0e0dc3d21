use Rattle.std.proofs.Common.{refl, sym}
use Rattle.nv_tags.proofs.Masks.{tags_in-zero}
use Rattle.nv_tags.proofs.group.Group.none.Goals as goal

pub returns : goal.returns
returns c = sym (tags_in-zero 0 refl)
