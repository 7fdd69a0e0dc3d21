use Rattle.std.proofs.Common.{arith}
use Rattle.nv_host.proofs.Works.{leads_give}
use Rattle.nv_host.specs.Work.{scene}
use Rattle.nv_host.proofs.host_mediator.HostMediator.end_unplanned.Goals as goal

pub returns-clause-pass : goal.returns-clause-pass
returns-clause-pass g c =
    let some = c.requires.some in (
      leads_give c.args._guest c.args.lane c.args.tag (scene c.args.self.now (g.C.MemoryCell.bytes c.args._memory.now)) (scene c.give_up-reply.new.self (g.C.MemoryCell.bytes c.args._memory.now)) c.give_up-reply.result
          c.requires.may (c.give_up-reply.ensures (g.C.MemoryCell.bytes c.args._memory.now)),
      omega (arith, some),
    )

pub returns-clause-setup : goal.returns-clause-setup
returns-clause-setup g c = (c.give_up-reply.ensures (g.C.MemoryCell.bytes c.args._memory.now)).next.setup
