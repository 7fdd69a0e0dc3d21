use Rattle.std.proofs.Common.{List, Some, ap, sym, ◌∙◌, subst}
use Rattle.nv_model.specs.Private.{Step, run_of, start}
use Rattle.nv_world_model.specs.Agrees.{Agrees}
use Rattle.nv_world_model.specs.Geometry.{shape_of}
use Rattle.nv_world_model.specs.PrivateSteps.{private_steps, seen_by}
use Rattle.nv_world_model.specs.World.{World}
use Rattle.nv_world_model.specs.declared.logged.Logged.{Logged}
use Rattle.nv_examples.specs.extents.Guests.{first, opened, set_up}
use Rattle.nv_examples.specs.Logs.{logged}
use Rattle.nv_examples.proofs.Blank.{from-blank}
use Rattle.nv_examples.proofs.Own.{logged-own, replay-own, steps-own}
use Rattle.nv_examples.proofs.extents.wrong_worlds.the_worlds_own_step.Goals as goal

pub returns : goal.returns
returns c events p =
    record {
      run = p.run;
      runs = ap (λ (ss : List Step). run_of (shape_of first) ss start) (steps-own set_up first events opened)
          ∙ from-blank first set_up 1 (private_steps set_up 0 first (logged set_up events opened) opened) (Some p.run) p.runs;
      seen = p.seen ∙ ap (λ (ls : List Logged). seen_by 0 ls) (sym (logged-own set_up events opened));
      agrees = subst (λ (w : World). Agrees 0 first w p.run.state) (sym (replay-own set_up events opened)) p.agrees;
    }
