use Rattle.nv_c.proofs.serving.give_up.Goals as goal

pub returns : goal.returns
returns c = (c.give_up.result, c.of_reply.ensures, c.give_up.ensures c.args._memory.now)
