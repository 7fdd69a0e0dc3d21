use Rattle.nv_plan.proofs.PartLaws.{places-blocks, places-mapped, places-most, places-named, places-ranges, places-source}
use Rattle.nv_plan.proofs.laws.places_are_mapped_and_as_long_as_the_transfer.Goals as goal

pub returns-clause-mapped : goal.returns-clause-mapped
returns-clause-mapped c = places-mapped

pub returns-clause-source : goal.returns-clause-source
returns-clause-source c = places-source

pub returns-clause-places : goal.returns-clause-places
returns-clause-places c = places-named

pub returns-clause-blocks : goal.returns-clause-blocks
returns-clause-blocks c = places-blocks

pub returns-clause-ranges : goal.returns-clause-ranges
returns-clause-ranges c = places-ranges

pub returns-clause-most : goal.returns-clause-most
returns-clause-most c = places-most
