use Rattle.nv_laws.proofs.related.Following.{log-followed, private-run}
use Rattle.nv_laws.proofs.laws.related.following.logs_are_followed.Goals as goal

pub returns-clause-along : goal.returns-clause-along
returns-clause-along c = λ host_bytes number geometry guest log w z p each reached given unfailed disciplined replayed related.
    log-followed geometry host_bytes number guest given each log w z p reached unfailed disciplined replayed related

pub returns-clause-from_start : goal.returns-clause-from_start
returns-clause-from_start c = private-run
