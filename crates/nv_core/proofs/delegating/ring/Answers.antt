use Rattle.std.proofs.Common.{◌≡◌, ◌<◌, ◌∙◌, ℕ, Some, length, slice_get, refl, sym, subst, arith}
use Rattle.std.proofs.lemmas.Option.{slice_get_read}
use Rattle.nv_core.proofs.Delegated.{lane-below, rung-nowhere, rung-there, tail-is}
use Rattle.nv_core.specs.Front.{HasTailMoved}
use Rattle.nv_laws_sound.specs.Side.{Side, rung_with, tails_of}
use Rattle.nv_world_model.specs.Area.{ring_size}
use Rattle.nv_core.proofs.delegating.ring.Goals as goal

pub ring-requires-clause-lane : goal.ring-requires-clause-lane
ring-requires-clause-lane c =
    let moved : HasTailMoved c.args.lane (tails_of c.args.device.now.lanes) c.front.inside.tails.items = subst (λ (f : Side). HasTailMoved c.args.lane (tails_of c.args.device.now.lanes) f.tails) (sym c.front.view_is) c.requires in
    let below : c.args.lane < length c.front.inside.tails.items = (let n = c.from-at.ensures in let l = c.len.ensures in let t = c.if-at-len.true in omega (arith, n, l, t)) in
    lane-below c.args.device.now c.args.lane c.front.inside.tails.items moved below

pub ring-requires-clause-tail : goal.ring-requires-clause-tail
ring-requires-clause-tail c =
    let moved : HasTailMoved c.args.lane (tails_of c.args.device.now.lanes) c.front.inside.tails.items = subst (λ (f : Side). HasTailMoved c.args.lane (tails_of c.args.device.now.lanes) f.tails) (sym c.front.view_is) c.requires in
    let below : c.args.lane < length c.front.inside.tails.items = (let n = c.from-at.ensures in let l = c.len.ensures in let t = c.if-at-len.true in omega (arith, n, l, t)) in
    let read : slice_get c.front.inside.tails.items c.args.lane ≡ Some c.index.result.now =
    subst (λ (n : ℕ). slice_get c.front.inside.tails.items n ≡ Some c.index.result.now) c.from-at.ensures
    (slice_get_read c.front.inside.tails.items (length c.front.inside.tails.items) c.from-at.result c.index.result.now refl
    (let n = c.from-at.ensures in omega (arith, below, n)) c.index.ensures) in
    subst (λ (t : ℕ). t < ring_size) (sym (tail-is c.args.device.now c.args.lane c.front.inside.tails.items moved c.index.result.now below read)) moved.fits

pub returns-then-at-len : goal.returns-then-at-len
returns-then-at-len c =
    let moved : HasTailMoved c.args.lane (tails_of c.args.device.now.lanes) c.front.inside.tails.items = subst (λ (f : Side). HasTailMoved c.args.lane (tails_of c.args.device.now.lanes) f.tails) (sym c.front.view_is) c.requires in
    let below : c.args.lane < length c.front.inside.tails.items = (let n = c.from-at.ensures in let l = c.len.ensures in let t = c.if-at-len.true in omega (arith, n, l, t)) in
    let read : slice_get c.front.inside.tails.items c.args.lane ≡ Some c.index.result.now =
    subst (λ (n : ℕ). slice_get c.front.inside.tails.items n ≡ Some c.index.result.now) c.from-at.ensures
    (slice_get_read c.front.inside.tails.items (length c.front.inside.tails.items) c.from-at.result c.index.result.now refl
    (let n = c.from-at.ensures in omega (arith, below, n)) c.index.ensures) in
    subst (λ (f : Side). c.ring.new.self ≡ record c.args.device.now { lanes = rung_with f.tails c.args.device.now.lanes }) c.front.view_is
    (c.ring.ensures ∙ rung-there c.args.device.now c.args.lane c.front.inside.tails.items moved c.index.result.now below read)

pub returns-else-at-len : goal.returns-else-at-len
returns-else-at-len c =
    let moved : HasTailMoved c.args.lane (tails_of c.args.device.now.lanes) c.front.inside.tails.items = subst (λ (f : Side). HasTailMoved c.args.lane (tails_of c.args.device.now.lanes) f.tails) (sym c.front.view_is) c.requires in
    subst (λ (f : Side). c.args.device.now ≡ record c.args.device.now { lanes = rung_with f.tails c.args.device.now.lanes }) c.front.view_is
    (rung-nowhere c.args.device.now c.args.lane c.front.inside.tails.items moved (let n = c.from-at.ensures in let l = c.len.ensures in let t = c.if-at-len.false in omega (arith, n, l, t)))
