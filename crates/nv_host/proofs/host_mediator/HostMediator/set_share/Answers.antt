use Rattle.std.proofs.Common.{◌≡◌, ◌∙◌, ◌-◌, ◌≤◌, ℕ, Some, arith, ap, length, refl, slice_get, sym}
use Rattle.nv_core.proofs.GroupWorlds.{looked-up}
use Rattle.nv_host.proofs.Unshared.{share-small, too-large}
use Rattle.nv_host.specs.Served.{Served}
use Rattle.nv_laws_sound.proofs.Lists.{slice_get-below}
use Rattle.nv_host.proofs.host_mediator.HostMediator.set_share.Goals as goal

pub returns-then-more-from-clause-err : goal.returns-then-more-from-clause-err
returns-then-more-from-clause-err c =
    let o : Served = c.args.self.now in
    let guest : ℕ = c.args.guest in
    let there : slice_get o.setup.geometry.guests guest ≡ Some c.in-Some.given.now =
    ap (λ (x : Served). slice_get x.setup.geometry.guests guest) (sym c.self.view_is) ∙ c.in-Some.ensures in
    let known = slice_get-below c.self.inside.layout.guests guest c.in-Some.given.now c.in-Some.ensures in
    let each = c.self.invariant.served.shares.each in
    let at = c.from-at.ensures in
    let has : slice_get o.spare guest ≡ Some c.index.result.now =
    ap (λ (x : Served). slice_get x.spare guest) (sym c.self.view_is)
    ∙ looked-up c.self.inside.spare.items guest c.from-at.result c.index.result.now c.from-at.ensures (omega (arith, known, each, at)) c.index.ensures in
    let from = c.from.ensures in
    let above = c.if-more-from.true in
    let sub = c.in-Some-checked_sub.ensures in
    let value = c.len-needed.ensures.value ∙ ap length c.ns.ensures in
    let fits = sub.0 in
    let more = sub.1 in
    let least : length c.in-Some.given.now.namespace ≤ c.args.tags = omega (arith, value, fits) in (
      refl,
      (
        c.in-Some.given.now,
        record { there = there; least = least },
        too-large o.setup.geometry.guests o.spare c.unshared.result c.unshared.ensures guest c.index.result.now (c.args.tags - length c.in-Some.given.now.namespace) has
            (omega (arith, above, from, more, value)),
      ),
    )

pub overflow_cast-more : goal.overflow_cast-more
overflow_cast-more c =
    let o : Served = c.args.self.now in
    let guest : ℕ = c.args.guest in
    let known = slice_get-below c.self.inside.layout.guests guest c.in-Some.given.now c.in-Some.ensures in
    let each = c.self.invariant.served.shares.each in
    let at = c.from-at.ensures in
    let has : slice_get o.spare guest ≡ Some c.index.result.now =
    ap (λ (x : Served). slice_get x.spare guest) (sym c.self.view_is)
    ∙ looked-up c.self.inside.spare.items guest c.from-at.result c.index.result.now c.from-at.ensures (omega (arith, known, each, at)) c.index.ensures in
    let from = c.from.ensures in
    let below = c.if-more-from.false in
    let small = share-small o.setup.geometry.guests o.spare c.unshared.result c.unshared.ensures guest c.index.result.now c.in-Some-checked_sub.more has
    (omega (arith, from, below)) in
    omega (arith, small)

pub index_mut-requires : goal.index_mut-requires
index_mut-requires c =
    let known = slice_get-below c.self.inside.layout.guests c.args.guest c.in-Some.given.now c.in-Some.ensures in
    let each = c.self.invariant.served.shares.each in
    let at = c.from-at.ensures in
    omega (arith, known, each, at)
