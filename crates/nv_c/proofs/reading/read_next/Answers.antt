use Rattle.nv_c.proofs.Readings.{stride-made, stride-read, waiting-wants}
use Rattle.nv_c.proofs.reading.read_next.Goals as goal

pub returns-in_default : goal.returns-in_default
returns-in_default c =
    (c.in_default.ensures.err.0, waiting-wants c.args._scope c.args.mediator.now c.args.planning.now.job c.args.planning.now.given c.requires)

pub returns-in_default-reply : goal.returns-in_default-reply
returns-in_default-reply c =
    stride-made c.args._scope c.args.mediator.now c.step.new.self c.args.planning.now c.wants.new.self c.job.result.now c.in-Ok-Read.field-0 c.in-Ok-Read.addr c.in-Ok-Read.len c.in-Ok.reply
    c.requires c.wants.ensures.same c.job.ensures c.in-Ok-Read.ensures.next c.in-Ok-Read.field-0-is c.in-Ok.ensures.ok

pub returns-then-as_slice-len : goal.returns-then-as_slice-len
returns-then-as_slice-len c =
    stride-made c.args._scope c.args.mediator.now c.step.new.self c.args.planning.now c.wants.new.self c.job.result.now c.in-Ok-Read.field-0 c.in-Ok-Read.addr c.in-Ok-Read.len c.in-Ok.reply
    c.requires c.wants.ensures.same c.job.ensures c.in-Ok-Read.ensures.next c.in-Ok-Read.field-0-is c.in-Ok.ensures.ok

pub returns-in-Ok-feed : goal.returns-in-Ok-feed
returns-in-Ok-feed c = (
  stride-made c.args._scope c.args.mediator.now c.step.new.self c.args.planning.now c.wants.new.self c.job.result.now c.in-Ok-Read.field-0 c.in-Ok-Read.addr c.in-Ok-Read.len c.in-Ok.reply
      c.requires c.wants.ensures.same c.job.ensures c.in-Ok-Read.ensures.next c.in-Ok-Read.field-0-is c.in-Ok.ensures.ok,
  stride-read c.args._scope c.args.mediator.now c.step.new.self c.args.planning.now c.wants.new.self c.feed.new.self c.job.result.now c.in-Ok-Read.addr c.in-Ok-Read.len c.in-Ok.reply c.in-Bytes.bytes c.new.result
      c.requires c.wants.ensures.same c.job.ensures c.in-Ok.ensures.ok c.in-Bytes.is c.new.ensures c.in-Ok-feed.ensures.ok,
)

pub returns : goal.returns
returns c =
    stride-made c.args._scope c.args.mediator.now c.step.new.self c.args.planning.now c.wants.new.self c.job.result.now c.in-Ok-Read.field-0 c.in-Ok-Read.addr c.in-Ok-Read.len c.in-Ok.reply
    c.requires c.wants.ensures.same c.job.ensures c.in-Ok-Read.ensures.next c.in-Ok-Read.field-0-is c.in-Ok.ensures.ok
