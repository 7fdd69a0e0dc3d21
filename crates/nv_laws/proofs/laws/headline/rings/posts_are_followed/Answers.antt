use Rattle.nv_laws.proofs.headline.Posts.{posts-go}
use Rattle.nv_laws.proofs.laws.headline.rings.posts_are_followed.Goals as goal

pub returns : goal.returns
returns c = λ host_bytes geometry number guest w p lane slot given reached related mine.
    posts-go host_bytes geometry number guest given w reached p related lane slot mine
