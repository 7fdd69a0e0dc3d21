use Rattle.std.proofs.Common.{◌∙◌, sym, refl, slice_get}
use Rattle.nv_host.proofs.Rests.{no-limit, no_guest-rests}
use Rattle.nv_host.proofs.Rounds.{pass-none}
use Rattle.nv_host.specs.Work.{Rests, Scene, scene}
use Rattle.nv_host.specs.declared.worked.Scope.TheVariants as scope
use Rattle.nv_host.proofs.host_mediator.HostMediator.serve_guest.Goals as goal

pub returns-in-None-clause-pass : goal.returns-in-None-clause-pass
returns-in-None-clause-pass g c =
    let a : Scene = scene c.args.self.now (g.C.MemoryCell.bytes c.args.memory.now) in
    pass-none (scope.Guest c.args.guest) (Rests (scope.Guest c.args.guest) a) c.args.most c.so_far.result a a c.so_far.ensures refl
    (no_guest-rests a c.args.guest (no-limit (slice_get c.args.self.now.setup.geometry.guests c.args.guest) (sym c.in-None.is ∙ c.limit.ensures.value)))
