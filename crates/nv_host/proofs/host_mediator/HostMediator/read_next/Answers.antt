use Rattle.std.proofs.Common.{ap}
use Rattle.nv_host.proofs.Readings.{stride-made, stride-read, waiting-wants}
use Rattle.nv_host.specs.Served.{Served}
use Rattle.nv_host.specs.Work.{scene}
use Rattle.nv_host.proofs.host_mediator.HostMediator.read_next.Goals as goal

pub returns-in_default-clause-stride : goal.returns-in_default-clause-stride
returns-in_default-clause-stride g c = (
  ap (λ (x : Served). scene x (g.C.MemoryCell.bytes c.args.memory.now)) c.in_default.ensures.err,
  waiting-wants c.args._guest (scene c.args.self.now (g.C.MemoryCell.bytes c.args.memory.now)) c.args.planning.now.job c.args.planning.now.given c.requires.reading,
)

pub returns-in_default-reply-clause-stride : goal.returns-in_default-reply-clause-stride
returns-in_default-reply-clause-stride g c =
    stride-made c.args._guest (scene c.args.self.now (g.C.MemoryCell.bytes c.args.memory.now)) (scene c.list.new.self (g.C.MemoryCell.bytes c.args.memory.now)) c.args.planning.now c.wants.new.self c.job.result.now c.in-Ok-Read.field-0 c.in-Ok-Read.addr c.in-Ok-Read.len c.in-Ok.reply
    c.requires.reading c.wants.ensures.same c.job.ensures c.in-Ok-Read.ensures.next c.in-Ok-Read.field-0-is c.in-Ok.ensures.ok

pub returns-then-as_slice-len-clause-stride : goal.returns-then-as_slice-len-clause-stride
returns-then-as_slice-len-clause-stride g c =
    stride-made c.args._guest (scene c.args.self.now (g.C.MemoryCell.bytes c.args.memory.now)) (scene c.list.new.self (g.C.MemoryCell.bytes c.args.memory.now)) c.args.planning.now c.wants.new.self c.job.result.now c.in-Ok-Read.field-0 c.in-Ok-Read.addr c.in-Ok-Read.len c.in-Ok.reply
    c.requires.reading c.wants.ensures.same c.job.ensures c.in-Ok-Read.ensures.next c.in-Ok-Read.field-0-is c.in-Ok.ensures.ok

pub returns-in-Ok-feed-clause-stride : goal.returns-in-Ok-feed-clause-stride
returns-in-Ok-feed-clause-stride g c = (
  stride-made c.args._guest (scene c.args.self.now (g.C.MemoryCell.bytes c.args.memory.now)) (scene c.list.new.self (g.C.MemoryCell.bytes c.args.memory.now)) c.args.planning.now c.wants.new.self c.job.result.now c.in-Ok-Read.field-0 c.in-Ok-Read.addr c.in-Ok-Read.len c.in-Ok.reply
      c.requires.reading c.wants.ensures.same c.job.ensures c.in-Ok-Read.ensures.next c.in-Ok-Read.field-0-is c.in-Ok.ensures.ok,
  stride-read c.args._guest (scene c.args.self.now (g.C.MemoryCell.bytes c.args.memory.now)) (scene c.list.new.self (g.C.MemoryCell.bytes c.args.memory.now)) c.args.planning.now c.wants.new.self c.feed.new.self c.job.result.now c.in-Ok-Read.addr c.in-Ok-Read.len c.in-Ok.reply c.in-Bytes.bytes c.new.result
      c.requires.reading c.wants.ensures.same c.job.ensures c.in-Ok.ensures.ok c.in-Bytes.is c.new.ensures c.in-Ok-feed.ensures.ok,
)

pub returns-clause-stride : goal.returns-clause-stride
returns-clause-stride g c =
    stride-made c.args._guest (scene c.args.self.now (g.C.MemoryCell.bytes c.args.memory.now)) (scene c.list.new.self (g.C.MemoryCell.bytes c.args.memory.now)) c.args.planning.now c.wants.new.self c.job.result.now c.in-Ok-Read.field-0 c.in-Ok-Read.addr c.in-Ok-Read.len c.in-Ok.reply
    c.requires.reading c.wants.ensures.same c.job.ensures c.in-Ok-Read.ensures.next c.in-Ok-Read.field-0-is c.in-Ok.ensures.ok
