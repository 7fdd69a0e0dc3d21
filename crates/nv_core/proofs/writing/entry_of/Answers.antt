use Rattle.std.proofs.Common.{◌∙◌, ℕ, ap, sym}
use Rattle.nv_core.proofs.MadeParts.{known}
use Rattle.nv_entry.specs.Opcode.{io_opcode}
use Rattle.nv_entry.specs.Submission.{opcode_of}
use Rattle.nv_laws_sound.proofs.Lists.{slice_get-there}
use Rattle.nv_plan.specs.Made.{shares_made}
use Rattle.nv_plan.specs.declared.job.Job.{Job}
use Rattle.nv_world_model.specs.Area.{physical_entry}
use Rattle.nv_core.proofs.writing.entry_of.Goals as goal

pub unreachable-requires : goal.unreachable-requires
unreachable-requires c =
    let s = slice_get-there (shares_made c.args.plan.now) c.args.part c.requires.part in
    let some = known c.args.plan.now c.args.part s.0 c.job.ensures.is_plan s.1 in
    let none = ap (λ (j : Job). io_opcode (opcode_of j.sqe)) (sym c.job.ensures.value) ∙ sym c.io_opcode.ensures ∙ c.in_default.is in
    cc

pub dwords-requires-clause-opcode : goal.dwords-requires-clause-opcode
dwords-requires-clause-opcode c =
    ap (λ (j : Job). io_opcode (opcode_of j.sqe)) (sym c.job.ensures.value) ∙ sym c.io_opcode.ensures ∙ c.in-Some.is

pub returns : goal.returns
returns c = λ share at.
    let p = c.args.plan.now in
    c.physical_entry.ensures
    ∙ ap (λ (o : ℕ). physical_entry o c.args.tag c.args.prps.now c.dwords.result) (c.opcode.ensures ∙ ap (λ (j : Job). opcode_of j.sqe) c.job.ensures.value)
    ∙ ap (physical_entry (opcode_of p.job.sqe) c.args.tag c.args.prps.now) (c.dwords.ensures share at)
