use Rattle.nv_machine.proofs.AlikeCalls.{call-alike, fetch-alike, fetch_then-alike}
use Rattle.nv_machine.proofs.laws.independence.a_call_depends_on_its_guest_alone.Goals as goal

pub returns-clause-fetches : goal.returns-clause-fetches
returns-clause-fetches c = λ geometry e fetched s z number alike. fetch-alike geometry number s z alike e fetched

pub returns-clause-fetches_then : goal.returns-clause-fetches_then
returns-clause-fetches_then c = λ geometry e first s z number alike. fetch_then-alike geometry number s z alike e first

pub returns-clause-calls : goal.returns-clause-calls
returns-clause-calls c = λ geometry e fetched s z number kept also alike. call-alike geometry number s z alike kept also e fetched
