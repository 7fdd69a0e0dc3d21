use Rattle.std.proofs.Common.{◌≡◌, ℕ, Ok, Err, sym, subst, ◌∙◌}
use Rattle.nv_judge.specs.Need.{field_verdict}
use Rattle.nv_flat.proofs.DoneLemmas.{fields-refused, in-order}
use Rattle.nv_flat.proofs.controller.FlatController.carry_out.Goals as goal

pub returns-in-Err-clause-ok : goal.returns-in-Err-clause-ok
returns-in-Err-clause-ok c =
    let P : ℕ → Type 0 = λ n. field_verdict n c.args.sqe.now ≡ Err c.in-Err.status in
    fields-refused c.args.self.now c.args.sqe.now c.in-Err.status (subst P c.namespace.ensures.blocks (sym c.judge_fields.ensures ∙ c.in-Err.is))

pub run-requires : goal.run-requires
run-requires c =
    let P : ℕ → Type 0 = λ n. field_verdict n c.args.sqe.now ≡ Ok c.in-Ok.need in
    let fine = subst P c.namespace.ensures.blocks (sym c.judge_fields.ensures ∙ c.in-Ok.is) in
    let known = sym c.io_opcode.ensures ∙ c.in-Some.is in
    record { in_order = in-order c.args.self.now c.args.sqe.now c.in-Ok.need c.in-Some.opcode fine known }
