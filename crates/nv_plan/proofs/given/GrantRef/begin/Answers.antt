use Rattle.std.proofs.Common.{◌≡◌, inl, inr, false, refl, sym, ap}
use Rattle.nv_model.specs.Judge.{has_buffer}
use Rattle.nv_plan.specs.Drawn.{given_of}
use Rattle.nv_plan.proofs.PlanCases.{known-by, left-bare, left-refused}
use Rattle.nv_plan.proofs.given.GrantRef.begin.Goals as goal

pub returns-in-Err-clause-ahead : goal.returns-in-Err-clause-ahead
returns-in-Err-clause-ahead g c = left-refused (given_of c.args.self.now) c.args.sqe.now c.in-Err.status (sym c.in-Err.ensures)

pub returns-in-Flush-clause-sound : goal.returns-in-Flush-clause-sound
returns-in-Flush-clause-sound g c =
    let known = known-by (given_of c.args.self.now) c.args.sqe.now c.in-Some.opcode c.in-Ok.need (sym c.in-Ok.ensures) (sym c.in-Some.ensures) in
    let none : has_buffer c.in-Some.opcode ≡ false = elim c.in-Flush.is [ inl is ↦ ap has_buffer is | inr is ↦ ap has_buffer is ] in
    (record { unrefused = known.unrefused; known = known.known; needs = refl }, none)

pub returns-in-Flush-clause-ahead : goal.returns-in-Flush-clause-ahead
returns-in-Flush-clause-ahead g c =
    let known = known-by (given_of c.args.self.now) c.args.sqe.now c.in-Some.opcode c.in-Ok.need (sym c.in-Ok.ensures) (sym c.in-Some.ensures) in
    let none : has_buffer c.in-Some.opcode ≡ false = elim c.in-Flush.is [ inl is ↦ ap has_buffer is | inr is ↦ ap has_buffer is ] in
    left-bare (given_of c.args.self.now) c.args.sqe.now c.in-Some.opcode c.in-Ok.need known none
