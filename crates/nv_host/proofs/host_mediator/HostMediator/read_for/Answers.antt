use Rattle.std.proofs.Common.{◌≡◌, ◌∙◌, ap, refl, slice_get, Some, sym}
use Rattle.nv_core.specs.Jobs.{job_in}
use Rattle.nv_host.proofs.Readings.{job-guest, some-job, waiting-guest, waiting-wants}
use Rattle.nv_host.proofs.Rests.{no-job}
use Rattle.nv_host.proofs.Rounds.{pass-none, pass-some}
use Rattle.nv_host.proofs.Works.{leads_none}
use Rattle.nv_host.specs.Passes.{NoneWaitsAt}
use Rattle.nv_host.specs.Work.{Scene, scene}
use Rattle.nv_host.specs.declared.worked.Scope.TheVariants as scope
use Rattle.nv_world_model.specs.World.{tag_in}
use Rattle.nv_host.proofs.host_mediator.HostMediator.read_for.Goals as goal

pub returns-in-None-clause-pass : goal.returns-in-None-clause-pass
returns-in-None-clause-pass g c =
    let a : Scene = scene c.args.self.now (g.C.MemoryCell.bytes c.args.memory.now) in
    pass-none (scope.Guest c.args.guest) (NoneWaitsAt a c.args.guest c.args.lane c.args.tag) c.args.most c.so_far.result a a c.so_far.ensures refl
    (no-job a c.args.guest c.args.lane c.args.tag (sym c.in-Ok.ensures.ok ∙ c.in-None.is))

pub read_lists-requires-clause-waits : goal.read_lists-requires-clause-waits
read_lists-requires-clause-waits g c =
    let a : Scene = scene c.args.self.now (g.C.MemoryCell.bytes c.args.memory.now) in
    let h = c.requires.there in
    let there : job_in c.args.lane c.args.tag (tag_in (slice_get c.args.self.now.side.lanes c.args.lane) c.args.tag) ≡ Some c.in-Some.job = sym c.in-Ok.ensures.ok ∙ c.in-Some.is in
    let its : slice_get c.args.self.now.setup.geometry.guests c.in-Some.job.guest ≡ Some h.0 =
    ap (slice_get c.args.self.now.setup.geometry.guests) (job-guest a c.args.guest c.args.lane c.args.tag c.in-Some.job c.requires.own there) ∙ h.1 in
    (h.0, waiting-guest a c.args.guest c.args.lane c.args.tag c.in-Some.job h.0 c.requires.own there its)

pub returns-in-Some-clause-pass : goal.returns-in-Some-clause-pass
returns-in-Some-clause-pass g c =
    pass-some (scope.Guest c.args.guest) _ c.args.most c.read_lists.result (scene c.args.self.now (g.C.MemoryCell.bytes c.args.memory.now))
    (scene c.read_lists.new.self (g.C.MemoryCell.bytes c.read_lists.new.memory)) c.read_lists.ensures.pass

pub returns-in-Err-clause-pass : goal.returns-in-Err-clause-pass
returns-in-Err-clause-pass g c =
    let a : Scene = scene c.args.self.now (g.C.MemoryCell.bytes c.args.memory.now) in
    let there = c.requires.there in
    let some = some-job (job_in c.args.lane c.args.tag (tag_in (slice_get c.args.self.now.side.lanes c.args.lane) c.args.tag)) c.in-Err.ensures.err in
    let its : slice_get c.args.self.now.setup.geometry.guests some.0.guest ≡ Some there.0 =
    ap (slice_get c.args.self.now.setup.geometry.guests) (job-guest a c.args.guest c.args.lane c.args.tag some.0 c.requires.own some.1) ∙ there.1 in (
      leads_none (scope.Guest c.args.guest) a a refl,
      c.requires.some,
      waiting-wants c.args.guest a some.0 there.0 (waiting-guest a c.args.guest c.args.lane c.args.tag some.0 there.0 c.requires.own some.1 its),
    )
