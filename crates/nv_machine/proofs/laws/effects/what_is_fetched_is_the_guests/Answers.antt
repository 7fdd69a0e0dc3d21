use Rattle.nv_machine.proofs.Hosts.{hosts-own, hosts-row, row-in-page}
use Rattle.nv_machine.proofs.laws.effects.what_is_fetched_is_the_guests.Goals as goal

pub returns-clause-each : goal.returns-clause-each
returns-clause-each c = hosts-own

pub returns-clause-row : goal.returns-clause-row
returns-clause-row c = λ map addr len sound some within there.
    let row = row-in-page map addr len sound some within there in (row.0, hosts-row map.regions addr row.0 len row.1)
