use Rattle.std.proofs.Common.{ap, refl, ◌∙◌, eq-eqb, sym}
use Rattle.nv_threads.specs.Finished.{acts_of, is_act_of}
use Rattle.nv_threads.proofs.Acts.{acts-ended, differ-behind, ended-differs, front-act, goes-on, other-differs}
use Rattle.nv_threads.proofs.calls.first_difference.Goals as goal
use Rattle.nv_threads.proofs.calls.first_difference.Goals.{then-met-told-via-then-met-told, then-met-told-via-else-met-told+then-not-is_told}
use Rattle.std.proofs.Common.{List, drop, slice_get}
use Rattle.nv_world_model.specs.declared.logged.Logged.{Logged}

pub returns-then-met-told : goal.returns-then-met-told
returns-then-met-told c =
    let log = c.args.log.now in
    let told = c.args.told.now in
    let met = c.loop-logged.met in
    let rest = acts_of c.args.guest (drop c.loop-logged.logged-index log) in
    let front = front-act c.args.guest log c.loop-logged.logged-index c.logged-item.result c.loop-logged-test.true c.logged-item.is
    (ap (is_act_of c.args.guest) c.in-Some.ensures ∙ eq-eqb c.args.guest c.args.guest refl) in
    differ-behind told met (acts_of c.args.guest log) rest c.loop-logged.invariant.within c.loop-logged.invariant.alike
    (elim c.then-met-told.branch [
      | then-met-told-via-then-met-told w ↦ ended-differs told met (slice_get rest 0) c.logged-item.result w.if-met-told.true front
      | then-met-told-via-else-met-told+then-not-is_told w ↦
          other-differs told met (slice_get rest 0) c.logged-item.result w.index-told-met.result w.if-met-told.false w.index-told-met.is front
          (λ same. let told_so = w.if-not-is_told.ensures.1 same in cc)
    ])

pub returns-then-met-told-2 : goal.returns-then-met-told-2
returns-then-met-told-2 c =
    let log = c.args.log.now in
    let told = c.args.told.now in
    let met = c.loop-logged.met in
    let rest = acts_of c.args.guest (drop c.loop-logged.logged-index log) in
    differ-behind told met (acts_of c.args.guest log) rest c.loop-logged.invariant.within c.loop-logged.invariant.alike
    (λ same. goes-on told met c.if-met-told-2.true
    (sym (ap (λ (ys : List Logged). slice_get ys 0) (acts-ended c.args.guest log c.loop-logged.logged-index c.loop-logged-test.false)) ∙ same))
