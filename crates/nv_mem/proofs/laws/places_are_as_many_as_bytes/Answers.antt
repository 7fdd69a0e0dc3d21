use Rattle.nv_mem.proofs.PlaceLists.{length-places_of}
use Rattle.nv_mem.proofs.laws.places_are_as_many_as_bytes.Goals as goal

pub returns : goal.returns
returns c = length-places_of
