use Rattle.std.proofs.Common.{◌≡◌, ◌∙◌, map}
use Rattle.nv_replay_script.specs.ReplaySetUp.{guest_value}
use Rattle.nv_replay.specs.Opening.{IsFaultOf, set_up_of, set_up_with}
use Rattle.nv_replay.specs.Refused.{of_refusal}
use Rattle.nv_replay.proofs.Guests.{MatchResult-err}
use Rattle.nv_replay.proofs.Openings.{accepted-opened, accepted-refused, set_up_of-mapped, set_up_of-refused}
use Rattle.nv_replay.proofs.opening.open_mediator.Goals as goal

pub returns-in_err-guests-clause-opened : goal.returns-in_err-guests-clause-opened
returns-in_err-guests-clause-opened c =
    let refusal = c.in_err-guests.field-0.0 in
    let refused = set_up_of-refused c.args.sizes (map guest_value c.args.guests.items) refusal c.in_err-guests.ensures in
    MatchResult-err c.from_residual.result _ _ _ c.from_residual.ensures.1
    (λ fault is. let same : fault ≡ refusal = is in rw same refused)

pub returns-in_err-mediator-clause-opened : goal.returns-in_err-mediator-clause-opened
returns-in_err-mediator-clause-opened c =
    let guests = map guest_value c.args.guests.items in
    let mapped = c.in_ok-guests.guests.items in
    let refusal = c.in_err-mediator.field-0.0 in
    let refused = accepted-refused (set_up_with c.args.sizes mapped) refusal c.in_err-mediator.ensures.err in
    let wanted : IsFaultOf (set_up_of c.args.sizes guests) (of_refusal refusal) =
    rw (set_up_of-mapped c.args.sizes guests mapped c.in_ok-guests.ensures) refused in
    MatchResult-err c.from_residual-in_err-mediator.result _ _ _ c.from_residual-in_err-mediator.ensures.1
    (λ fault is. let same : fault ≡ of_refusal refusal = is in rw same wanted)

pub returns-clause-opened : goal.returns-clause-opened
returns-clause-opened c =
    let guests = map guest_value c.args.guests.items in
    let mapped = c.in_ok-guests.guests.items in
    set_up_of-mapped c.args.sizes guests mapped c.in_ok-guests.ensures
    ∙ accepted-opened (set_up_with c.args.sizes mapped) _ c.in_ok-mediator.ensures.accepted c.in_ok-mediator.ensures.ok.setup
