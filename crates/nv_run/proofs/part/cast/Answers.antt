use Rattle.std.proofs.Common.{◌≡◌, ◌∷◌, ◌<◌, length, ap, rules, arith}
use Rattle.std.specs.Vec.Iter.{into_iter_items}
use Rattle.nv_run.proofs.Castings.{IsGiven-then}
use Rattle.nv_run.proofs.part.cast.Goals as goal

pub loop-line-preserved-in-Continue-branch-2 : goal.loop-line-preserved-in-Continue-branch-2
loop-line-preserved-in-Continue-branch-2 c =
    let line = c.in-Some.line in
    let left = into_iter_items c.next.new.self in
    let steps = c.in-Some.ensures.steps in
    let turn : into_iter_items c.loop-line.line-iterator ≡ line ∷ left = steps.0 in
    let below : line.guest < length c.loop-line.parts.items = first_of (omega arith, search rules) in (
      IsGiven-then c.loop-line.parts.items line left c.args.lines.items c.in-Some-get_mut.part.now c.add.new.self
          (rw turn at c.loop-line.invariant.0) below c.in-Some-get_mut.ensures.value c.in_ok-add.ensures.ok,
      omega (arith, ap length turn, steps.1),
      search rules,
      search rules,
    )
