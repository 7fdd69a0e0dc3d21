use Rattle.std.proofs.Common.{IfSome, None, Option, ap, ◌∙◌, subst}
use Rattle.nv_model.specs.Private.{After, Bag, RunOutStep}
use Rattle.nv_model.specs.Running.{IsRunning}
use Rattle.nv_model.proofs.Bags.{put-elsewhere, put-here}
use Rattle.nv_model.proofs.Running.{along-running, step-running}
use Rattle.nv_model.proofs.RunningFacts.{ready-taken, step-runs_out}
use Rattle.nv_model.proofs.laws.running.ready_falls_with_the_last.Goals as goal

pub returns-clause-gone : goal.returns-clause-gone
returns-clause-gone c shape p a name is =
    ap (λ (bag : Bag). bag name) (step-runs_out shape name p a is).bag ∙ put-here p.bag name None

pub returns-clause-others : goal.returns-clause-others
returns-clause-others c shape p a name other is apart =
    ap (λ (bag : Bag). bag other) (step-runs_out shape name p a is).bag ∙ put-elsewhere p.bag name None other apart

pub returns-clause-ready : goal.returns-clause-ready
returns-clause-ready c memory disk shape steps r along within a name is =
    let was = subst (λ (o : Option After). IfSome o (λ b. IsRunning b.state)) is (step-running within (RunOutStep name) r.state (along-running memory disk shape steps r along)) in
    ready-taken a.state.controller a.state.bag was (step-runs_out within name r.state a is).out
