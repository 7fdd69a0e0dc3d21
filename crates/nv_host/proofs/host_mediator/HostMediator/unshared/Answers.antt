use Rattle.std.proofs.Common.{◌≡◌, ◌∙◌, ◌-◌, ◌<◌, ℕ, Some, arith, ap, length, refl, slice_get, subst, sym}
use Rattle.std.proofs.lemmas.Option.{none-some}
use Rattle.nv_core.proofs.GroupWorlds.{looked-up}
use Rattle.nv_host.proofs.Unshared.{left-enough, next-counted}
use Rattle.nv_host.specs.Served.{Served}
use Rattle.nv_host.specs.Shares.{AreShares}
use Rattle.nv_laws_sound.proofs.Lists.{slice_get-there}
use Rattle.nv_host.proofs.host_mediator.HostMediator.unshared.Goals as goal
use Rattle.nv_host.proofs.host_mediator.HostMediator.unshared.Goals.{in-Some, in_default}

pub overflow_sub-left : goal.overflow_sub-left
overflow_sub-left c =
    let o : Served = c.args.self.now in
    let i : ℕ = c.loop-guest.guest in
    let are : AreShares o.setup.geometry.guests o.spare = subst (λ (x : Served). AreShares x.setup.geometry.guests x.spare) c.self.view_is c.self.invariant.served.shares in
    let below : i < length c.self.inside.spare.items = (let t = c.loop-guest-test.true in let l = c.len-guest-end.ensures in omega arith) in
    let n = slice_get-there c.self.inside.spare.items i below in
    let enough = left-enough o.setup.geometry.guests o.spare are i c.loop-guest.left c.loop-guest.invariant c.in-Some.given.now n.0
    (ap (λ (x : Served). slice_get x.setup.geometry.guests i) (sym c.self.view_is) ∙ c.in-Some.ensures)
    (ap (λ (x : Served). slice_get x.spare i) (sym c.self.view_is) ∙ n.1) in
    let value = c.len-left.ensures.value in
    let same = ap length c.ns.ensures in
    omega (arith, enough, value, same)

pub overflow_sub-left-in-loop-guest : goal.overflow_sub-left-in-loop-guest
overflow_sub-left-in-loop-guest c =
    let o : Served = c.args.self.now in
    let i : ℕ = c.loop-guest.guest in
    let are : AreShares o.setup.geometry.guests o.spare = subst (λ (x : Served). AreShares x.setup.geometry.guests x.spare) c.self.view_is c.self.invariant.served.shares in
    let below : i < length c.self.inside.spare.items = (let t = c.loop-guest-test.true in let l = c.len-guest-end.ensures in omega arith) in
    let has : slice_get o.spare i ≡ Some c.index.result.now =
    ap (λ (x : Served). slice_get x.spare i) (sym c.self.view_is) ∙ looked-up c.self.inside.spare.items i i c.index.result.now refl below c.index.ensures in
    let from = c.from-left.ensures in
    elim c.match-guest.branch [
      | in-Some w ↦
          (let enough = left-enough o.setup.geometry.guests o.spare are i c.loop-guest.left c.loop-guest.invariant w.in-Some.given.now c.index.result.now
          (ap (λ (x : Served). slice_get x.setup.geometry.guests i) (sym c.self.view_is) ∙ w.in-Some.ensures) has in
          let value = w.len-left.ensures.value in
          let same = ap length w.ns.ensures in
          let left = w.left-is in
          omega (arith, enough, value, same, left, from))
      | in_default w ↦
          (let each = c.self.invariant.served.shares.each in
          let g = slice_get-there c.self.inside.layout.guests i (omega (arith, each, below)) in
          absurd (none-some g.0 (sym w.in_default.ensures ∙ g.1)))
    ]

pub loop-guest-preserved : goal.loop-guest-preserved
loop-guest-preserved c =
    let o : Served = c.args.self.now in
    let i : ℕ = c.loop-guest.guest in
    let are : AreShares o.setup.geometry.guests o.spare = subst (λ (x : Served). AreShares x.setup.geometry.guests x.spare) c.self.view_is c.self.invariant.served.shares in
    let below : i < length c.self.inside.spare.items = (let t = c.loop-guest-test.true in let l = c.len-guest-end.ensures in omega arith) in
    let has : slice_get o.spare i ≡ Some c.index.result.now =
    ap (λ (x : Served). slice_get x.spare i) (sym c.self.view_is) ∙ looked-up c.self.inside.spare.items i i c.index.result.now refl below c.index.ensures in
    let from = c.from-left.ensures in
    elim c.match-guest.branch [
      | in-Some w ↦
          (let there = ap (λ (x : Served). slice_get x.setup.geometry.guests i) (sym c.self.view_is) ∙ w.in-Some.ensures in
          let enough = left-enough o.setup.geometry.guests o.spare are i c.loop-guest.left c.loop-guest.invariant w.in-Some.given.now c.index.result.now there has in
          let value = w.len-left.ensures.value in
          let same = ap length w.ns.ensures in
          let left = w.left-is in
          next-counted o.setup.geometry.guests o.spare are i c.loop-guest.left c.loop-guest.invariant w.in-Some.given.now c.index.result.now there has
          (c.match-guest.left - c.from-left.result) (omega (arith, enough, value, same, left, from)))
      | in_default w ↦
          (let each = c.self.invariant.served.shares.each in
          let g = slice_get-there c.self.inside.layout.guests i (omega (arith, each, below)) in
          absurd (none-some g.0 (sym w.in_default.ensures ∙ g.1)))
    ]
