use Rattle.nv_mediator.proofs.Logs.{log-more, log-none}
use Rattle.nv_checks_world.proofs.promised.of_a_mediator.Goals as goal

pub returns-clause-private : goal.returns-clause-private
returns-clause-private c h log number guest promised is here none disciplined = (promised log is).private number guest here none disciplined

pub returns-clause-contained : goal.returns-clause-contained
returns-clause-contained c h log promised is = (promised log is).contained

pub returns-clause-led : goal.returns-clause-led
returns-clause-led c h has = (has.log, has.leads, has.leads.replayed)

pub returns-clause-at_start : goal.returns-clause-at_start
returns-clause-at_start c s h is = log-none s h is

pub returns-clause-one_more : goal.returns-clause-one_more
returns-clause-one_more c old new log l so is = log-more old new log so l is
