use Rattle.std.proofs.lemmas.Result.{IfOk-weaker}
use Rattle.nv_sgl.proofs.Chains.{ExtendsChain-more_at}
use Rattle.nv_sgl.proofs.chain.Chain.read_more.Goals as goal

pub returns-clause-ok : goal.returns-clause-ok
returns-clause-ok g c =
    IfOk-weaker
    c.read_part.result _ _
    (λ to reads. ExtendsChain-more_at _ _ _ _ _ _ _ to _ c.self.view_is c.requires.more reads)
    c.read_part.ensures.ok
