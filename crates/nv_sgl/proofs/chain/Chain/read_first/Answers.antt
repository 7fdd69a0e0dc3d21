use Rattle.nv_sgl.proofs.Chains.{ExtendsChain-first_at}
use Rattle.nv_sgl.proofs.chain.Chain.read_first.Goals as goal

pub returns-clause-ok : goal.returns-clause-ok
returns-clause-ok g c =
    ExtendsChain-first_at
    _ _ _ _ c.new-blocks.result.items _ _ _ _ c.new-blocks.ensures.items c.in_ok-put_in_front.ensures.ok c.requires.first c.in_ok-cursor.ensures.ok
