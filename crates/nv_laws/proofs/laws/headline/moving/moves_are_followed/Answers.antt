use Rattle.nv_laws.proofs.headline.MoveEvents.{moves-go}
use Rattle.nv_laws.proofs.laws.headline.moving.moves_are_followed.Goals as goal

pub returns : goal.returns
returns c = λ host_bytes geometry number guest w p lane slot unit given reached related disciplined mine.
    moves-go host_bytes geometry number guest given w reached p related lane slot unit disciplined mine
