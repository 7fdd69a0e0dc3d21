use Rattle.std.proofs.Common.{arith, false}
use Rattle.nv_flat.proofs.TransferLemmas.{IsMoving-end, IsMoving-more}
use Rattle.nv_flat.proofs.controller.FlatController.write_blocks.Goals as goal

pub loop-index-preserved : goal.loop-index-preserved
loop-index-preserved c =
    IsMoving-more _ _ _ _ _ c.loop-index.index c.loop-index.self c.write_block.new.self false false c.loop-index.buffer _
    c.loop-index.invariant c.loop-index-test.true (c.write_block.ensures.moved c.loop-index.index c.args.places.now c.loop-index.invariant.left)
    c.write_block.ensures.rest c.write_block.ensures.memory_size c.write_block.ensures.disk_size

pub returns-clause-moved : goal.returns-clause-moved
returns-clause-moved c = IsMoving-end _ _ _ _ _ c.loop-index.index _ _ _ c.loop-index.invariant (omega arith)
