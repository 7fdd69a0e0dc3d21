use Rattle.std.proofs.Common.{◌≡◌, ◌⊎◌, inl, inr, ℕ, List, length, sym, ap, ◌∙◌, arith}
use Rattle.nv_entry.specs.Submission.{slba_of}
use Rattle.nv_entry.specs.declared.opcode.IoOpcode.{IoOpcode}
use Rattle.nv_entry.specs.declared.opcode.IoOpcode.TheVariants.{Compare, Read, Write, WriteZeroes}
use Rattle.nv_judge.proofs.FieldLemmas.{field_verdict-ok}
use Rattle.nv_model.specs.Judge.{count_of, form_of}
use Rattle.nv_ns.specs.Extents.{Cut, Namespace, blocks_in, cuts}
use Rattle.nv_world_model.specs.Share.{form_tags, tags_of_entry}
use Rattle.nv_world_model.proofs.TagCounts.{tags_of_entry-some}
use Rattle.nv_plan.proofs.PlanCases.{tags-known}
use Rattle.nv_plan.proofs.tags.tags_wanted.Goals as goal

-- the tags of a command that names blocks
blocks-tags : (ns : Namespace) (entry : List ℕ) (opcode : IoOpcode)
    → (opcode ≡ Read) ⊎ ((opcode ≡ Write) ⊎ ((opcode ≡ Compare) ⊎ (opcode ≡ WriteZeroes)))
    → form_tags (form_of opcode) ns entry ≡ length (cuts ns (slba_of entry) (count_of entry))
blocks-tags ns entry opcode (inl is) = ap (λ (o : IoOpcode). form_tags (form_of o) ns entry) is
blocks-tags ns entry opcode (inr (inl is)) = ap (λ (o : IoOpcode). form_tags (form_of o) ns entry) is
blocks-tags ns entry opcode (inr (inr (inl is))) = ap (λ (o : IoOpcode). form_tags (form_of o) ns entry) is
blocks-tags ns entry opcode (inr (inr (inr is))) = ap (λ (o : IoOpcode). form_tags (form_of o) ns entry) is

pub returns-then-len-eq1-clause-value : goal.returns-then-len-eq1-clause-value
returns-then-len-eq1-clause-value c =
    let one = c.if-len-eq1.true in
    let many = c.len.ensures.value in
    let some = tags_of_entry-some c.args.ns.now c.args.sqe.now c.len.ensures.some in
    let least = some.0 in
    let most = some.1 in omega arith

pub returns-in-Read : goal.returns-in-Read
returns-in-Read c =
    let fine = field_verdict-ok (blocks_in c.args.ns.now) c.args.sqe.now c.in_default.field-0 (sym c.judge_fields.ensures ∙ c.in_default.is) in
    let known = tags-known c.args.ns.now c.args.sqe.now c.in-Some.opcode fine.0 (sym c.in-Some.ensures) in
    let some = tags_of_entry-some c.args.ns.now c.args.sqe.now c.len.ensures.some in
    let least = some.0 in
    let few = c.len-in-Read.ensures.few in
    let value : c.len-in-Read.result ≡ tags_of_entry c.args.ns.now c.args.sqe.now =
    c.len-in-Read.ensures.value ∙ ap (λ (parts : List Cut). length parts) c.parts_of.ensures.value
    ∙ sym (known ∙ blocks-tags c.args.ns.now c.args.sqe.now c.in-Some.opcode c.in-Read.is) in
    record { value = value; some = omega arith; most = omega arith }
