use Rattle.nv_entry.specs.declared.data_pointer.DataPointer.TheVariants as pointer
use Rattle.nv_sgl.specs.Parse.{reading_of}
use Rattle.nv_flat.specs.Listed.{reading_by}
use Rattle.nv_flat.proofs.ListLemmas.{IsReading}
use Rattle.nv_flat.proofs.controller.FlatController.read_sgl.Given as goal

abbrev pub invariant-loop-part : goal.invariant-loop-part
invariant-loop-part l =
    IsReading l.fn.self (reading_by pointer.Sgl l.fn.self l.fn.sqe l.fn.need) l._part (reading_of l.parse)
