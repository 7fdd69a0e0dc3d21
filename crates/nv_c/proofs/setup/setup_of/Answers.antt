use Rattle.std.proofs.Common.{◌∙◌, ap, arith, get_or, inl, inr, refl}
use Rattle.std.proofs.lemmas.Result.{err_from_is_err_and}
use Rattle.nv_c.specs.Tables.{all_given, given, setup_of}
use Rattle.nv_c.proofs.Tables.{given_at, given_count, given_next, too_many, too_many_serving}
use Rattle.nv_mediator.specs.Refused.{refused}
use Rattle.nv_mediator.specs.declared.refusal.Refusal.TheVariants as refusal
use Rattle.nv_c.proofs.setup.setup_of.Goals as goal

pub loop-number-init : goal.loop-number-init
unfolding all_given
loop-number-init c = c.new-guests.ensures.items

pub loop-number-preserved : goal.loop-number-preserved
loop-number-preserved c =
    c.in-Ok.ensures.items
    ∙ given_next c.args.sizes.now.host_bytes c.args.regions.now c.args.extents.now c.args.limits.now c.loop-number.number _ c.loop-number.guests.items c.in_ok-given.given
    c.loop-number-test.true c.loop-number.invariant c.in_ok-given.ensures.ok

pub returns-then-limits-gt-MOST_GUESTS-clause-err : goal.returns-then-limits-gt-MOST_GUESTS-clause-err
returns-then-limits-gt-MOST_GUESTS-clause-err c =
    let more = c.if-limits-gt-MOST_GUESTS.true in
    let count = given_count c.args.sizes.now.host_bytes c.args.regions.now c.args.extents.now 0 c.args.limits.now in
    inr (inr (
      refusal.TooManyGuests,
      ap refused
          (too_many (setup_of c.args.sizes.now c.args.limits.now c.args.regions.now c.args.extents.now) (omega (arith, more, count))),
      refl,
    ))

pub returns-in_err-given-clause-err : goal.returns-in_err-given-clause-err
returns-in_err-given-clause-err c =
    let i = c.loop-number.number in
    let host_bytes = c.args.sizes.now.host_bytes in
    let p = err_from_is_err_and c.from_residual.result c.from_residual.ensures.1 in
    rw (p.1, p.2)
    (inr (inl (
      i,
      given host_bytes c.args.regions.now c.args.extents.now i (get_or c.args.limits.now i 0),
      given_at host_bytes c.args.regions.now c.args.extents.now 0 c.args.limits.now i 0 i c.loop-number-test.true (omega arith),
      c.in_err-given.ensures.err,
    )))

pub returns-then-limits-gt-MOST_GUESTS-clause-host : goal.returns-then-limits-gt-MOST_GUESTS-clause-host
returns-then-limits-gt-MOST_GUESTS-clause-host c =
    let more = c.if-limits-gt-MOST_GUESTS.true in
    let count = given_count c.args.sizes.now.host_bytes c.args.regions.now c.args.extents.now 0 c.args.limits.now in
    inr (inr (
      refusal.TooManyGuests,
      ap refused
          (too_many_serving (setup_of c.args.sizes.now c.args.limits.now c.args.regions.now c.args.extents.now) (omega (arith, more, count))),
      refl,
    ))

pub returns-in_err-given-clause-host : goal.returns-in_err-given-clause-host
returns-in_err-given-clause-host c =
    let i = c.loop-number.number in
    let host_bytes = c.args.sizes.now.host_bytes in
    let p = err_from_is_err_and c.from_residual.result c.from_residual.ensures.1 in
    rw (p.1, p.2)
    (inr (inl (
      i,
      given host_bytes c.args.regions.now c.args.extents.now i (get_or c.args.limits.now i 0),
      given_at host_bytes c.args.regions.now c.args.extents.now 0 c.args.limits.now i 0 i c.loop-number-test.true (omega arith),
      c.in_err-given.ensures.err,
    )))
