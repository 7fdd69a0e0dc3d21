use Rattle.std.proofs.Common.{false, length, ap, ◌∙◌}
use Rattle.nv_model.specs.Judge.{KeepAll}
use Rattle.nv_model.specs.Carried.{moved_on}
use Rattle.nv_disk.specs.Flat.{Flat, moved_of}
use Rattle.nv_flat.proofs.controller.FlatController.keep_all.Goals as goal

pub returns-clause-moved : goal.returns-clause-moved
returns-clause-moved c = λ work.
    c.keep_all.ensures.moved work c.self.inside.memory c.self.inside.disk false c.self.invariant.marked
    ∙ ap (λ (f : Flat). moved_on (KeepAll (length f.disk)) work (moved_of f false)) c.self.view_is
