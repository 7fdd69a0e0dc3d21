use Rattle.std.proofs.Common.{ℕ, false, length, sym, ap, subst, ◌∙◌}
use Rattle.std.specs.List.{range_with_len}
use Rattle.nv_entry.specs.Status.{StatusField}
use Rattle.nv_entry.specs.Submission.{slba_of}
use Rattle.nv_entry.specs.declared.opcode.IoOpcode.{IoOpcode}
use Rattle.nv_disk.specs.Flat.{moved_of}
use Rattle.nv_model.specs.Carrying.{cleared}
use Rattle.nv_judge.specs.Need.{HasFieldsInOrder}
use Rattle.nv_flat.specs.One.{IsRun}
use Rattle.nv_flat.proofs.DoneLemmas.{flush-run, zeroes-run}
use Rattle.nv_flat.proofs.controller.FlatController.run.Goals as goal

pub returns-in-Flush-clause-ok : goal.returns-in-Flush-clause-ok
returns-in-Flush-clause-ok c =
    let O : IoOpcode → Type 0 = λ o. HasFieldsInOrder (length c.args.self.now.disk) c.args.sqe.now o c.args.need in
    let S : StatusField → Type 0 = λ st. IsRun c.args.self.now c.args.sqe.now st c.keep_all.new.self in
    subst S (sym c.status.ensures) (flush-run c.args.self.now c.keep_all.new.self c.args.sqe.now c.args.need (subst O c.in-Flush.is c.requires.in_order) c.keep_all.ensures.moved)

pub returns-in-WriteZeroes-clause-ok : goal.returns-in-WriteZeroes-clause-ok
returns-in-WriteZeroes-clause-ok c =
    let O : IoOpcode → Type 0 = λ o. HasFieldsInOrder (length c.args.self.now.disk) c.args.sqe.now o c.args.need in
    let S : StatusField → Type 0 = λ st. IsRun c.args.self.now c.args.sqe.now st c.clear.new.self in
    subst S (sym c.status-in-WriteZeroes.ensures)
    (zeroes-run c.args.self.now c.clear.new.self c.args.sqe.now c.args.need (subst O c.in-WriteZeroes.is c.requires.in_order)
    (c.clear.ensures.moved
    ∙ ap (λ (n : ℕ). cleared (range_with_len n c.from.result) c.args.need.fua (moved_of c.args.self.now false)) c.slba.ensures
    ∙ ap (λ (n : ℕ). cleared (range_with_len (slba_of c.args.sqe.now) n) c.args.need.fua (moved_of c.args.self.now false)) c.from.ensures))
