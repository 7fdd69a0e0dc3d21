use Rattle.std.proofs.Common.{false}
use Rattle.nv_model.specs.Carried.{block_work}
use Rattle.nv_entry.specs.declared.opcode.IoOpcode.TheVariants.{Write}
use Rattle.nv_mem.specs.Places.{places_of}
use Rattle.nv_flat.proofs.TransferLemmas.{IsMoving}
use Rattle.nv_flat.proofs.controller.FlatController.write_blocks.Given as goal

abbrev pub invariant-loop-index : goal.invariant-loop-index
invariant-loop-index l =
    IsMoving (block_work Write l.places l.fua) l.slba l.count (places_of l.places) l.fn.self l.index l.self false l.buffer
