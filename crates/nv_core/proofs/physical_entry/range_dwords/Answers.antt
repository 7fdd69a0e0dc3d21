use Rattle.std.proofs.Common.{◌≡◌, ◌-◌, ◌*◌, ◌∙◌, ℕ, [], ◌∷◌, length, arith, ap, sym}
use Rattle.nv_core.proofs.MadeParts.{dwords-are, few-ranges, form-is, own, ranges-count, some-ranges}
use Rattle.nv_entry.specs.Submission.{deallocate_of}
use Rattle.nv_entry.specs.declared.opcode.IoOpcode.TheVariants as opcode
use Rattle.nv_laws_sound.proofs.Lists.{slice_get-there}
use Rattle.nv_model.specs.Judge.{Form}
use Rattle.nv_plan.specs.Made.{shares_made}
use Rattle.nv_plan.specs.declared.job.Job.{Job}
use Rattle.nv_world_model.specs.ShareArea.{work_dwords}
use Rattle.nv_core.proofs.physical_entry.range_dwords.Goals as goal

two : (a b x y : ℕ) → a ≡ x → b ≡ y → a ∷ b ∷ 0 ∷ [] ≡ x ∷ y ∷ 0 ∷ []
two a b x y one other = cc

pub overflow_sub-nr : goal.overflow_sub-nr
overflow_sub-nr c =
    let p = c.args.plan.now in
    let part = c.args.part in
    let is = c.part_ranges-ranges.ensures.is_plan in
    let s = slice_get-there (shares_made p) part c.requires.part in
    let f = form-is p part s.0 is s.1 opcode.DatasetManagement c.requires.opcode in
    let many = ap length (c.part_ranges-ranges.ensures.value s.0 s.1) ∙ ranges-count p part s.0 is s.1 f in
    let some = some-ranges p part s.0 is s.1 f (c.requires.some s.0 s.1) in
    omega (arith, many, some)

pub overflow_cast-nr : goal.overflow_cast-nr
overflow_cast-nr c =
    let p = c.args.plan.now in
    let part = c.args.part in
    let is = c.part_ranges-ranges.ensures.is_plan in
    let s = slice_get-there (shares_made p) part c.requires.part in
    let f = form-is p part s.0 is s.1 opcode.DatasetManagement c.requires.opcode in
    let many = ap length (c.part_ranges-ranges.ensures.value s.0 s.1) ∙ ranges-count p part s.0 is s.1 f in
    let few = few-ranges p part s.0 is s.1 f in
    omega (arith, many, few)

pub returns : goal.returns
returns c = λ share at.
    let p = c.args.plan.now in
    let part = c.args.part in
    let is = c.part_ranges-ranges.ensures.is_plan in
    let f = form-is p part share is at opcode.DatasetManagement c.requires.opcode in
    let many = ap length (c.part_ranges-ranges.ensures.value share at) ∙ ranges-count p part share is at f in
    let work = own p part share is at in
    two _ _ (length work.ranges - 1) (4 * deallocate_of p.job.sqe) (ap (λ (n : ℕ). n - 1) many)
    (c.deallocate_dword.ensures ∙ ap (λ (j : Job). 4 * deallocate_of j.sqe) c.job.ensures.value)
    ∙ sym (dwords-are p part share is at ∙ ap (λ (g : Form). work_dwords g p.given.namespace p.job.sqe work) f)
