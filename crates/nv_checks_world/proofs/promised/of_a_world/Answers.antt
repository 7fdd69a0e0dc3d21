use Rattle.nv_checks_world.proofs.promised.of_a_world.Goals as goal

pub returns-clause-private : goal.returns-clause-private
returns-clause-private c k number guest kept here none disciplined = kept.private number guest here none disciplined

pub returns-clause-contained : goal.returns-clause-contained
returns-clause-contained c k kept = kept.contained

pub returns-clause-half : goal.returns-clause-half
returns-clause-half c k contained = contained

pub returns-clause-replayed : goal.returns-clause-replayed
returns-clause-replayed c k kept = kept.replay
