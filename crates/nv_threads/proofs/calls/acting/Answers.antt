use Rattle.std.proofs.Common.{◌≡◌, List, Bool, false, length-set, slice_get, Some, ◌∙◌, subst, arith}
use borrow.Author.Tests.{ne_eqb}
use Rattle.nv_threads.proofs.Acts.{acts-passed, unmarked}
use Rattle.nv_threads.proofs.calls.acting.Goals as goal
use Rattle.nv_threads.proofs.calls.acting.Goals.{in-Some, in_default}

pub loop-logged-preserved : goal.loop-logged-preserved
loop-logged-preserved c = elim c.match-actor.branch [
  | in-Some w ↦ record {
    all = rw w.acting-is (omega (arith, length-set {A = Bool}, c.loop-logged.invariant.all));
    none = λ guest at.
        let old = unmarked c.loop-logged.acting w.from.result guest (subst (λ (marks : List Bool). slice_get marks guest ≡ Some false) w.acting-is at) in
        c.loop-logged.invariant.none guest old.0
        ∙ acts-passed guest c.args.log.now c.loop-logged.logged-index c.logged-item.result c.loop-logged-test.true c.logged-item.is
        (w.in-Some.ensures guest ∙ ne_eqb w.in-Some.guest guest (λ same. old.1 (w.from.ensures ∙ same)));
  }
  | in_default w ↦ record {
    all = rw w.acting-is c.loop-logged.invariant.all;
    none = λ guest at.
        c.loop-logged.invariant.none guest (subst (λ (marks : List Bool). slice_get marks guest ≡ Some false) w.acting-is at)
        ∙ acts-passed guest c.args.log.now c.loop-logged.logged-index c.logged-item.result c.loop-logged-test.true c.logged-item.is
        (w.in_default.ensures guest);
  }
]
