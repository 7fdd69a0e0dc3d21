use Rattle.nv_mem.specs.GuestMap.{mapped}
use Rattle.nv_model.specs.Controller.{post}
use Rattle.nv_vctl.proofs.Entries.{completions-fit, post-mapped}
use Rattle.nv_admin.specs.Effect.{stored_by}
use Rattle.nv_admin.proofs.Steps.{posted-event}
use Rattle.nv_admin.proofs.event.post.Goals as goal

pub post-requires-clause-fits : goal.post-requires-clause-fits
post-requires-clause-fits c = completions-fit c.args.map.now c.args.vctl.now c.host_len-known.ensures.sound c.requires.in_place

pub returns-in-Some-clause-event : goal.returns-in-Some-clause-event
returns-in-Some-clause-event c = λ before.
    posted-event c.args.vctl.now c.post.new.self before (post c.args.vctl.now 0 c.args.dw0 c.args.cid c.args.status) (stored_by c.args.page)
    c.in-Some.completion c.in-Some.ensures.posting c.post.ensures.state

pub returns-in-Some-clause-in_map : goal.returns-in-Some-clause-in_map
returns-in-Some-clause-in_map c = (
  c.requires.page,
  post-mapped (mapped c.args.map.now.regions) c.args.vctl.now 0 c.args.dw0 c.args.cid c.args.status c.in-Some.completion
      c.requires.in_place c.in-Some.ensures.posting,
)

pub returns-in-Some-clause-in_place : goal.returns-in-Some-clause-in_place
returns-in-Some-clause-in_place c = c.post.ensures.in_place (mapped c.args.map.now.regions) c.requires.in_place
