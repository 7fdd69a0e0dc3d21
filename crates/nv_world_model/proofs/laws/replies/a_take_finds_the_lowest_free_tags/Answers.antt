use Rattle.nv_world_model.proofs.FreeTags.{busy-few, claimed-lowest}
use Rattle.nv_world_model.proofs.laws.replies.a_take_finds_the_lowest_free_tags.Goals as goal

pub returns-clause-busy : goal.returns-clause-busy
returns-clause-busy c =
    (λ geometry guest queue lane w l there is. (let busy = busy-few geometry guest queue lane w l there is in
    (busy.o, busy.addr, busy.owns, busy.found, busy.few)))

pub returns-clause-count : goal.returns-clause-count
returns-clause-count c = (λ tags count found is. (claimed-lowest count tags found is).many)

pub returns-clause-free : goal.returns-clause-free
returns-clause-free c = (λ tags count i tag found is at. (claimed-lowest count tags found is).free i tag at)

pub returns-clause-lowest : goal.returns-clause-lowest
returns-clause-lowest c =
    (λ tags count i tag other found t is at below there free. (claimed-lowest count tags found is).lowest i tag other t at below there free)

pub returns-clause-order : goal.returns-clause-order
returns-clause-order c = (λ tags count i j tag other found is at there before. (claimed-lowest count tags found is).rise i j tag other at there before)
