use Rattle.nv_machine.proofs.PlaceCalls.{call-same, fetch-same, for-same, then-same}
use Rattle.nv_machine.proofs.PlaceKept.{after-same}
use Rattle.nv_machine.proofs.laws.places.a_call_does_not_ask_where_parts_are.Goals as goal

pub returns-clause-fetches : goal.returns-clause-fetches
returns-clause-fetches c = λ geometry e s z same. fetch-same s z same geometry e

pub returns-clause-fetches_then : goal.returns-clause-fetches_then
returns-clause-fetches_then c = λ geometry e first s z same. then-same s z same geometry e first

pub returns-clause-guests : goal.returns-clause-guests
returns-clause-guests c = λ e fetched s z same. for-same s z same e fetched

pub returns-clause-calls : goal.returns-clause-calls
returns-clause-calls c = λ geometry e fetched s z same. call-same s z same geometry e fetched

pub returns-clause-several : goal.returns-clause-several
returns-clause-several c = λ geometry calls s z same. after-same geometry calls s z same
