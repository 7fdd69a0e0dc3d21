use Rattle.nv_tags.specs.Numbers.{ByGuest, ByQueue}
use Rattle.nv_tags.proofs.Groups.{AreKept-new}
use Rattle.nv_tags.proofs.Marks.{marked-new}
use Rattle.nv_tags.proofs.Owners.{numbered-new}
use Rattle.nv_tags.proofs.Slots.{slots_of-free}
use Rattle.nv_tags.proofs.tags.Tags.new.Goals as goal

pub invariant_of-result : goal.invariant_of-result
invariant_of-result c = (AreKept-new _, marked-new, numbered-new ByGuest _, numbered-new ByQueue _)

pub returns : goal.returns
returns c = slots_of-free 64 _
