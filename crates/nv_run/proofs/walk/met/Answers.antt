use Rattle.std.proofs.Common.{◌≡◌, ◌∙◌, true, ap}
use Rattle.nv_model.specs.declared.act.Act.{Act}
use Rattle.nv_run.specs.Driving.{look_of}
use Rattle.nv_run.proofs.Drives.{IsUnmetBefore-met, IsUnmetBefore-none, IsUnmetBefore-then}
use Rattle.nv_world_model.specs.declared.event.Event.TheVariants as event
use Rattle.nv_run.proofs.walk.met.Goals as goal

pub loop-call-init : goal.loop-call-init
loop-call-init c = (c.act-look.ensures, IsUnmetBefore-none c.args.guest (look_of c.args.probe) c.args.value c.args.calls.now)

pub loop-call-preserved : goal.loop-call-preserved
loop-call-preserved c =
    let acts : c.is_act.result ≡ true = cc in (
      c.loop-call.invariant.0,
      IsUnmetBefore-then c.args.guest (look_of c.args.probe) c.args.value c.args.calls.now c.loop-call.left.now c.in-Some.rest.now c.in-Some.call.now
          c.loop-call.invariant.1 c.in-Some.ensures.cases.0 (c.is_act.ensures.0 acts ∙ ap (λ (a : Act). event.Guest c.args.guest a) c.loop-call.invariant.0)
          (λ same. let found = c.shows.ensures.is.1 same in cc),
    )

pub returns-then-shows : goal.returns-then-shows
returns-then-shows c =
    let acts : c.is_act.result ≡ true = cc in
    IsUnmetBefore-met c.args.guest (look_of c.args.probe) c.args.value c.args.calls.now c.loop-call.left.now c.in-Some.rest.now c.in-Some.call.now
    c.loop-call.invariant.1 c.in-Some.ensures.cases.0 (c.is_act.ensures.0 acts ∙ ap (λ (a : Act). event.Guest c.args.guest a) c.loop-call.invariant.0)
    (c.shows.ensures.is.0 c.if-shows.true)
