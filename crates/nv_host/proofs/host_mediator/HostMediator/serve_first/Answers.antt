use Rattle.std.proofs.Common.{refl}
use Rattle.std.specs.Bool.{⊤}
use Rattle.nv_host.proofs.Rounds.{pass-none}
use Rattle.nv_host.specs.Work.{Scene, scene}
use Rattle.nv_host.proofs.host_mediator.HostMediator.serve_first.Goals as goal

pub returns-then-most-eq0-clause-pass : goal.returns-then-most-eq0-clause-pass
returns-then-most-eq0-clause-pass g c =
    let a : Scene = scene c.args.self.now (g.C.MemoryCell.bytes c.args.memory.now) in
    pass-none c.args.scope ⊤ c.args.most c.so_far.result a a c.so_far.ensures refl tt

pub returns-in-Guest-clause-pass : goal.returns-in-Guest-clause-pass
returns-in-Guest-clause-pass g c =
    let a : Scene = scene c.args.self.now (g.C.MemoryCell.bytes c.args.memory.now) in
    pass-none c.args.scope ⊤ c.args.most c.so_far-in-Guest.result a a c.so_far-in-Guest.ensures refl tt

pub returns-in-Lane-clause-pass : goal.returns-in-Lane-clause-pass
returns-in-Lane-clause-pass g c =
    let a : Scene = scene c.args.self.now (g.C.MemoryCell.bytes c.args.memory.now) in
    pass-none c.args.scope ⊤ c.args.most c.so_far-in-Lane.result a a c.so_far-in-Lane.ensures refl tt
