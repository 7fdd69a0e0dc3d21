use Rattle.std.proofs.Common.{◌∙◌, [], Some, refl, ap, sym, subst}
use Rattle.nv_core.proofs.SubmitJobs.{carried-on, come-some, given-is, made-is, one-taken, outcome-is, put-back}
use Rattle.nv_core.proofs.Waits.{moved-there, moved-waits}
use Rattle.nv_core.specs.Submit.{HaveRoom, IsCarriedOut, IsSubmitted, WaitsForPlan}
use Rattle.nv_core.specs.Tags.{state_in}
use Rattle.nv_laws_sound.proofs.Lists.{some-same}
use Rattle.nv_model.specs.Memory.{byte_in}
use Rattle.nv_model.specs.Transcript.{Outcome}
use Rattle.nv_model.specs.declared.reply.Reply.TheVariants as reply
use Rattle.nv_plan.specs.Made.{MadePlan, plan_made}
use Rattle.nv_plan.specs.Planned.{IsPlanned}
use Rattle.nv_plan.specs.declared.job.Job.{Job}
use Rattle.nv_plan.specs.declared.planned.Planned.{Planned}
use Rattle.nv_world_model.specs.Geometry.{Guest}
use Rattle.nv_world_model.specs.Plan.{Plan}
use Rattle.nv_world_model.specs.World.{Command, Taken, group_in}
use Rattle.nv_core.proofs.submitting.submit_on.Goals as goal

pub take_job-job-requires : goal.take_job-job-requires
take_job-job-requires g c = ap state_in c.requires.waits.led.is

pub replace_reads-requires : goal.replace_reads-requires
replace_reads-requires g c =
    let led = c.requires.waits.led in
    ap state_in (moved-there c.args.given.now.namespace c.args.ring.now c.take_job-job.new.ring c.args.place.tag c.requires.waits (c.take_job-job.ensures.moved led.command led.reads led.is))

pub replace_reads-requires-in-NoMemory : goal.replace_reads-requires-in-NoMemory
replace_reads-requires-in-NoMemory g c =
    let led = c.requires.waits.led in
    ap state_in (moved-there c.args.given.now.namespace c.args.ring.now c.take_job-job.new.ring c.args.place.tag c.requires.waits (c.take_job-job.ensures.moved led.command led.reads led.is))

pub carry_out-requires-clause-room : goal.carry_out-requires-clause-room
carry_out-requires-clause-room g c =
    let given : Guest = record { memory_map = c.map.result.now; namespace = c.ns.result.now; limit = c.limit.result } in
    let planned = subst (λ (x : Planned). IsPlanned x c.take_job-job.result given) c.in-Plan.is c.make_plan.ensures in
    let whose = ap (λ (m : MadePlan). m.given) planned.1.1 ∙ given-is c.args.given.now given c.map.ensures c.ns.ensures c.limit.ensures.value in
    subst (λ (given : Guest). HaveRoom c.args.place.mediator c.args.place.lane given (g.C.MemoryCell.bytes c.args.host.now)) (sym whose) c.requires.room

pub carry_out-requires-clause-waits : goal.carry_out-requires-clause-waits
carry_out-requires-clause-waits g c =
    let given : Guest = record { memory_map = c.map.result.now; namespace = c.ns.result.now; limit = c.limit.result } in
    let planned = subst (λ (x : Planned). IsPlanned x c.take_job-job.result given) c.in-Plan.is c.make_plan.ensures in
    let whose = ap (λ (m : MadePlan). m.given) planned.1.1 ∙ given-is c.args.given.now given c.map.ensures c.ns.ensures c.limit.ensures.value in
    let led = c.requires.waits.led in
    subst (λ (given : Guest). WaitsForPlan given.namespace c.args.place.tag c.take_job-job.new.ring) (sym whose)
    (moved-waits c.args.given.now.namespace c.args.ring.now c.take_job-job.new.ring c.args.place.tag c.requires.waits (c.take_job-job.ensures.moved led.command led.reads led.is))

pub carry_out-requires-clause-whose : goal.carry_out-requires-clause-whose
carry_out-requires-clause-whose g c = λ command reads there.
    let given : Guest = record { memory_map = c.map.result.now; namespace = c.ns.result.now; limit = c.limit.result } in
    let planned = subst (λ (x : Planned). IsPlanned x c.take_job-job.result given) c.in-Plan.is c.make_plan.ensures in
    let led = c.requires.waits.led in
    let moved = moved-there c.args.given.now.namespace c.args.ring.now c.take_job-job.new.ring c.args.place.tag c.requires.waits (c.take_job-job.ensures.moved led.command led.reads led.is) in
    let same = one-taken command led.command reads [] (some-same (Taken command reads) (Taken led.command []) (sym there ∙ moved)) in
    ap (λ (x : Command). x.entry) same.0 ∙ sym (c.take_job-job.ensures.job led.command led.reads led.is).entry
    ∙ ap (λ (m : MadePlan). m.job.sqe) (sym planned.1.1)

pub returns-in-Need-clause-ok : goal.returns-in-Need-clause-ok
returns-in-Need-clause-ok g c = λ command reads there.
    let given : Guest = record { memory_map = c.map.result.now; namespace = c.ns.result.now; limit = c.limit.result } in
    let whose = given-is c.args.given.now given c.map.ensures c.ns.ensures c.limit.ensures.value in
    let place = c.args.place in
    let led = c.requires.waits.led in
    let job = c.take_job-job.ensures.job command reads there in
    let own = c.take_job-job.ensures.job led.command led.reads led.is in
    let moved = c.take_job-job.ensures.moved led.command led.reads led.is in
    let planned = subst (λ (x : Planned). IsPlanned x c.take_job-job.result given) c.in-Need.is c.make_plan.ensures in
    let come = outcome-is c.args.given.now given place.lane place.tag command reads c.take_job-job.result _ whose job planned.1 in
    subst (λ (o : Outcome Plan). IsSubmitted o c.args.given.now place.mediator place.lane (group_in (Some c.args.ring.now) place.tag) command reply.Stale
    (byte_in (g.C.MemoryCell.bytes c.args.host.now)) (byte_in (g.C.MemoryCell.bytes c.args.host.now)) c.args.tail.now c.args.tail.now c.args.ring.now c.replace_reads.new.self) (sym come)
    (record {
      answered = refl;
      memory = refl;
      tail = refl;
      tags_are =
          put-back c.args.given.now.namespace c.args.ring.now c.take_job-job.new.ring place.tag c.requires.waits moved c.replace_reads.new.self c.in-Need.job.reads
          (ap (λ (j : Job). j.reads) planned.0 ∙ own.read)
          (c.replace_reads.ensures.changed led.command [] (moved-there c.args.given.now.namespace c.args.ring.now c.take_job-job.new.ring place.tag c.requires.waits moved));
    })

pub returns-in-NoMemory-clause-err : goal.returns-in-NoMemory-clause-err
returns-in-NoMemory-clause-err g c =
    let given : Guest = record { memory_map = c.map.result.now; namespace = c.ns.result.now; limit = c.limit.result } in
    let led = c.requires.waits.led in
    let own = c.take_job-job.ensures.job led.command led.reads led.is in
    let moved = c.take_job-job.ensures.moved led.command led.reads led.is in
    let planned = subst (λ (x : Planned). IsPlanned x c.take_job-job.result given) c.in-NoMemory.is c.make_plan.ensures in (
      refl,
      (
        refl,
        put-back c.args.given.now.namespace c.args.ring.now c.take_job-job.new.ring c.args.place.tag c.requires.waits moved c.replace_reads-in-NoMemory.new.self c.in-NoMemory.job.reads
            (ap (λ (j : Job). j.reads) planned ∙ own.read)
            (c.replace_reads-in-NoMemory.ensures.changed led.command []
            (moved-there c.args.given.now.namespace c.args.ring.now c.take_job-job.new.ring c.args.place.tag c.requires.waits moved)),
      ),
    )

pub returns-in-Plan-clause-ok : goal.returns-in-Plan-clause-ok
returns-in-Plan-clause-ok g c = λ command reads there.
    let given : Guest = record { memory_map = c.map.result.now; namespace = c.ns.result.now; limit = c.limit.result } in
    let whose = given-is c.args.given.now given c.map.ensures c.ns.ensures c.limit.ensures.value in
    let place = c.args.place in
    let waits = c.requires.waits in
    let led = waits.led in
    let ns = c.args.given.now.namespace in
    let job = c.take_job-job.ensures.job command reads there in
    let moved = c.take_job-job.ensures.moved led.command led.reads led.is in
    let planned = subst (λ (x : Planned). IsPlanned x c.take_job-job.result given) c.in-Plan.is c.make_plan.ensures in
    let come = outcome-is c.args.given.now given place.lane place.tag command reads c.take_job-job.result _ whose job planned.1.0 in
    let own = ap (λ (m : MadePlan). m.job) planned.1.1 in
    let has = ap (λ (m : MadePlan). m.given) planned.1.1 in
    let plan = made-is c.in-Plan.plan c.take_job-job.result given planned.0 own has planned.1.0 in
    let same = one-taken led.command command led.reads reads (some-same (Taken led.command led.reads) (Taken command reads) (sym led.is ∙ there)) in
    let out = carried-on ns c.args.ring.now c.take_job-job.new.ring place.tag waits moved (plan_made c.in-Plan.plan) planned.0 c.in-Plan.plan.given c.args.given.now
    place.mediator place.lane (byte_in (g.C.MemoryCell.bytes c.args.host.now)) (byte_in (g.C.MemoryCell.bytes c.carry_out.new.host)) c.args.tail.now c.carry_out.new.tail c.carry_out.new.ring plan (has ∙ whose)
    (come-some c.args.given.now led.command.entry led.reads planned.0
    (outcome-is c.args.given.now given place.lane place.tag led.command led.reads c.take_job-job.result _ whose (c.take_job-job.ensures.job led.command led.reads led.is) planned.1.0)
    waits.some)
    (c.carry_out.ensures.done led.command [] (moved-there ns c.args.ring.now c.take_job-job.new.ring place.tag waits moved)) in
    subst (λ (o : Outcome Plan). IsSubmitted o c.args.given.now place.mediator place.lane (group_in (Some c.args.ring.now) place.tag) command reply.Done
    (byte_in (g.C.MemoryCell.bytes c.args.host.now)) (byte_in (g.C.MemoryCell.bytes c.carry_out.new.host)) c.args.tail.now c.carry_out.new.tail c.args.ring.now c.carry_out.new.ring) (sym come) (
      refl,
      subst (λ (x : Command). IsCarriedOut planned.0 c.args.given.now place.mediator place.lane (group_in (Some c.args.ring.now) place.tag) x
          (byte_in (g.C.MemoryCell.bytes c.args.host.now)) (byte_in (g.C.MemoryCell.bytes c.carry_out.new.host)) c.args.tail.now c.carry_out.new.tail c.args.ring.now c.carry_out.new.ring) same.0 out,
    )
