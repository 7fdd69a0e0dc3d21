use Rattle.std.proofs.Common.{refl}
use Rattle.nv_model.specs.Memory.{bytes_from, scattered, stored}
use Rattle.nv_examples.proofs.edges.bytes_given.Goals as goal

pub returns-clause-a_bucket_takes_its_byte : goal.returns-clause-a_bucket_takes_its_byte
unfolding bytes_from scattered stored
returns-clause-a_bucket_takes_its_byte c = refl

pub returns-clause-an_address_named_twice : goal.returns-clause-an_address_named_twice
unfolding bytes_from scattered stored
returns-clause-an_address_named_twice c = refl
