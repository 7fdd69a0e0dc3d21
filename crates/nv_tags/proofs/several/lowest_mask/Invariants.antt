use Rattle.nv_tags.proofs.Lowest.{IsLowest}
use Rattle.nv_tags.proofs.several.lowest_mask.Given as goal

abbrev pub invariant-loop-tag : goal.invariant-loop-tag
invariant-loop-tag l = IsLowest l.mask l._tag l.found l.count l.left
