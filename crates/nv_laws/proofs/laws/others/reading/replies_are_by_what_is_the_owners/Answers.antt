use Rattle.nv_world_model.specs.CutDown.{cut}
use Rattle.nv_laws.proofs.others.AlikeReplies.{replies-same}
use Rattle.nv_laws.proofs.others.Cuts.{cut-alike}
use Rattle.nv_laws.proofs.others.Owned.{consistent-owned, cut-owned}
use Rattle.nv_laws.proofs.laws.others.reading.replies_are_by_what_is_the_owners.Goals as goal

pub returns-clause-alike : goal.returns-clause-alike
returns-clause-alike c = λ geometry w z number guest e given one two alike mine. replies-same geometry w z number guest given alike one two e mine

pub returns-clause-cut_down : goal.returns-clause-cut_down
returns-clause-cut_down c = λ host_bytes lanes geometry w number guest e laid fine given mine.
    replies-same geometry w (cut number guest geometry w) number guest given (cut-alike host_bytes lanes geometry laid w number guest given)
    (consistent-owned geometry w number fine) (cut-owned host_bytes lanes geometry w number guest laid given fine) e mine
