use Rattle.std.proofs.Common.{◌≡◌, ◌⊎◌, ◌∙◌, inl, inr, ℕ, ◌==◌, length, ap, sym}
use Rattle.nv_core.proofs.MadeParts.{form-is, known, nothing-is, own, ranges-count, something}
use Rattle.nv_entry.specs.Opcode.{io_opcode}
use Rattle.nv_entry.specs.Submission.{opcode_of}
use Rattle.nv_entry.specs.declared.opcode.IoOpcode.{IoOpcode}
use Rattle.nv_entry.specs.declared.opcode.IoOpcode.TheVariants as opcode
use Rattle.nv_model.specs.Judge.{Form, form_of}
use Rattle.nv_plan.specs.declared.job.Job.{Job}
use Rattle.nv_world_model.specs.ShareArea.{is_no_work}
use Rattle.nv_core.proofs.parts.is_nothing.Goals as goal

-- none of these manages ranges
no-manage : (it : IoOpcode) → (it ≡ opcode.Read) ⊎ ((it ≡ opcode.Write) ⊎ ((it ≡ opcode.Compare) ⊎ ((it ≡ opcode.WriteZeroes) ⊎ (it ≡ opcode.Flush))))
    → it ≡ opcode.DatasetManagement → ⊥
no-manage it (inl read) manage = cc
no-manage it (inr (inl write)) manage = cc
no-manage it (inr (inr (inl compare))) manage = cc
no-manage it (inr (inr (inr (inl zeroes)))) manage = cc
no-manage it (inr (inr (inr (inr flush)))) manage = cc

pub returns-in_default : goal.returns-in_default
returns-in_default c = λ share at.
    let some = known c.args.plan.now c.args.part share c.job.ensures.is_plan at in
    let none = ap (λ (j : Job). io_opcode (opcode_of j.sqe)) (sym c.job.ensures.value) ∙ sym c.io_opcode.ensures ∙ c.in_default.is in
    absurd (cc)

pub returns-in-DatasetManagement : goal.returns-in-DatasetManagement
returns-in-DatasetManagement c = λ share at.
    let p = c.args.plan.now in
    let part = c.args.part in
    let is = c.job.ensures.is_plan in
    let known_is = ap (λ (j : Job). io_opcode (opcode_of j.sqe)) (sym c.job.ensures.value) ∙ sym c.io_opcode.ensures ∙ c.in-Some.is in
    let f = form-is p part share is at c.in-Some.opcode known_is ∙ ap form_of c.in-DatasetManagement.is in
    c.is_empty.ensures
    ∙ ap (λ (n : ℕ). n == 0) (ap length (c.part_ranges.ensures.value share at) ∙ ranges-count p part share is at f)
    ∙ sym (nothing-is p part share is at ∙ ap (λ (g : Form). is_no_work g (own p part share is at)) f)

pub returns-in-Read : goal.returns-in-Read
returns-in-Read c = λ share at.
    let known_is = ap (λ (j : Job). io_opcode (opcode_of j.sqe)) (sym c.job.ensures.value) ∙ sym c.io_opcode.ensures ∙ c.in-Some.is in
    sym (something c.args.plan.now c.args.part share c.job.ensures.is_plan at c.in-Some.opcode known_is (no-manage c.in-Some.opcode c.in-Read.is))
