use Rattle.std.proofs.Common.{◌∙◌, sym}
use Rattle.nv_world.specs.Mediated.{mediated}
use Rattle.nv_threads.proofs.Replies.{act-bytes, act-memory}
use Rattle.nv_threads.proofs.telling.tell.Goals as goal

pub returns-in-NoMemory-clause-err : goal.returns-in-NoMemory-clause-err
returns-in-NoMemory-clause-err c =
    act-memory c.args.guest c.args.act (mediated c.args.world.now) (mediated c.step-reply.new.self) c.step-reply.result c.step-reply.ensures.step c.in-NoMemory.is

pub filled-again-requires : goal.filled-again-requires
filled-again-requires c = λ bytes told.
    c.in_ok-room.ensures
    ∙ sym (act-bytes c.args.guest c.args.act (mediated c.args.world.now) (mediated c.step-reply.new.self) c.step-reply.result bytes c.step-reply.ensures.step told)
