use Rattle.std.proofs.Common.{◌≡◌, ◌+◌, ◌∷◌, [], length, map, Ok, ap, ◌∙◌, arith, rules, length-append}
use Rattle.std.proofs.lemmas.List.{nil_from_length}
use Rattle.std.specs.Vec.Iter.{into_iter_items}
use Rattle.nv_replay_script.specs.ReplaySetUp.{guest_value}
use Rattle.nv_replay.specs.Opening.{mapped_guest}
use Rattle.nv_replay.proofs.Guests.{behind_from, guests_from-end, guests_from-mapped, guests_from-refused, MatchResult-err}
use Rattle.nv_replay.proofs.opening.map_guests.Goals as goal

pub returns-in_err-mapped : goal.returns-in_err-mapped
returns-in_err-mapped c =
    let made = c.loop-guest.made.items in
    let guest = guest_value c.in-Some.guest in
    let left = map guest_value (into_iter_items c.next.new.self) in
    let fault = c.in_err-mapped.field-0.0 in
    let number : c.len-in-loop-guest.result ≡ length made = search rules in
    let refused = guests_from-refused c.args.host (length made) made guest left fault (rw number at c.in_err-mapped.ensures) in
    let wanted = c.loop-guest.invariant.0 ∙ ap (λ gs. behind_from c.args.host made (map guest_value gs)) c.in-Some.ensures.steps.0 in
    MatchResult-err c.from_residual-in_err-mapped.result _ _ _ c.from_residual-in_err-mapped.ensures.1
    (λ told is. let same : told ≡ fault = is in rw (same, wanted) refused)

pub loop-guest-preserved : goal.loop-guest-preserved
loop-guest-preserved c =
    let made = c.loop-guest.made.items in
    let guest = guest_value c.in-Some.guest in
    let left = map guest_value (into_iter_items c.next.new.self) in
    let mapped = c.in_ok-mapped.mapped in
    let number : c.len-in-loop-guest.result ≡ length made = search rules in
    let turn : into_iter_items c.loop-guest.guest-iterator ≡ c.in-Some.guest ∷ into_iter_items c.next.new.self = c.in-Some.ensures.steps.0 in
    let is : mapped_guest c.args.host (length made) guest ≡ Ok mapped = rw number at c.in_ok-mapped.ensures in
    let wanted = c.loop-guest.invariant.0
    ∙ ap (λ gs. behind_from c.args.host made (map guest_value gs)) turn
    ∙ guests_from-mapped c.args.host (length made) made guest left mapped is
    in
    let pushed = c.in_ok-push.ensures.items in
    let count : length c.push.new.self.items ≡ length made + 1 = omega (arith, ap length pushed, length-append made (mapped ∷ [])) in (
      rw (count, pushed) wanted,
      omega (arith, ap length turn, c.in-Some.ensures.steps.1),
      search rules,
      search rules,
    )

pub returns : goal.returns
returns c =
    let made = c.loop-guest.made.items in
    let none : into_iter_items c.loop-guest.guest-iterator ≡ [] = nil_from_length _ (c.loop-guest.invariant.1 ∙ c.in-None.ensures.steps.0) in
    c.loop-guest.invariant.0
    ∙ ap (λ gs. behind_from c.args.host made (map guest_value gs)) none
    ∙ guests_from-end c.args.host (length made) made
