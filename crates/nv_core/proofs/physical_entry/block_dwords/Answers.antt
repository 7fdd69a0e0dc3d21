use Rattle.std.proofs.Common.{◌≡◌, ◌+◌, ◌-◌, ◌*◌, ◌^◌, ◌%◌, ◌/◌, ◌∙◌, ℕ, [], ◌∷◌, true, length, ap, sym}
use Rattle.nv_core.proofs.MadeParts.{block-dwords, known, own, own-form, own-work}
use Rattle.nv_entry.specs.Status.{bit}
use Rattle.nv_model.specs.Judge.{form_has_blocks, is_fua}
use Rattle.nv_ns.specs.Extents.{place_in}
use Rattle.nv_plan.specs.declared.job.Job.{Job}
use Rattle.nv_world_model.specs.ShareArea.{first_lba}
use Rattle.nv_core.proofs.physical_entry.block_dwords.Goals as goal

three : (a b d x y z : ℕ) → a ≡ x → b ≡ y → d ≡ z → a ∷ b ∷ d ∷ [] ≡ x ∷ y ∷ z ∷ []
three a b d x y z first second third = cc

pub returns : goal.returns
returns c = λ share at.
    let p = c.args.plan.now in
    let part = c.args.part in
    let is = c.job.ensures.is_plan in
    let work = own p part share is at in
    let has : form_has_blocks _ ≡ true = ap form_has_blocks (sym (own-form p part share is at)) ∙ c.requires.opcode work.opcode (known p part share is at) in
    let blocks = c.part_blocks-blocks.ensures.value share work at (own-work p part share is at) in
    let place = place_in p.given.namespace (first_lba work.units) in
    let start : c.start-start.result ≡ place = c.start-start.ensures.value ∙ blocks.0 in
    let count : c.count.result ≡ length work.units = c.count.ensures.value ∙ blocks.1 in
    three c.low.result c.high.result c.count_dword.result (place % 2 ^ 32) (place / 2 ^ 32) (length work.units - 1 + 2 ^ 30 * bit (is_fua p.job.sqe))
    (c.low.ensures ∙ ap (λ (n : ℕ). n % 2 ^ 32) start) (c.high.ensures ∙ ap (λ (n : ℕ). n / 2 ^ 32) start)
    (c.count_dword.ensures ∙ ap (λ (n : ℕ). n - 1 + 2 ^ 30 * bit (is_fua c.job.result.now.sqe)) count
    ∙ ap (λ (j : Job). length work.units - 1 + 2 ^ 30 * bit (is_fua j.sqe)) c.job.ensures.value)
    ∙ sym (block-dwords p part share is at has)
