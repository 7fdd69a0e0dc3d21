use Rattle.nv_host.proofs.Made.{made}
use Rattle.std.proofs.Common.{◌≡◌, ap, sym, ◌∙◌}
use Rattle.std.specs.Prelude.{Ok}
use Rattle.std.specs.Result.{result_ok}
use Rattle.nv_host.proofs.Failed.{done-alone}
use Rattle.nv_host.proofs.Fails.{laid-there}
use Rattle.nv_host.proofs.Reaps.{read-run}
use Rattle.nv_model.specs.declared.reply.Reply.TheVariants as reply
use Rattle.nv_host.proofs.host_mediator.HostMediator.has_reaped.Goals as goal

pub returns-in-Ok-Done-clause-alone : goal.returns-in-Ok-Done-clause-alone
returns-in-Ok-Done-clause-alone g c =
    let is : c.reap.result ≡ Ok reply.Done = cc in
    done-alone c.args.self.now.setup.geometry c.args.lane c.args.self.now.side c.reap.new.self.side (g.C.MemoryCell.bytes c.args.memory.now)
    (sym c.reap.ensures.answer ∙ ap result_ok is) (c.reap.ensures.ended is) c.reap.ensures.tails

pub returns-in-Ok-Done-clause-run : goal.returns-in-Ok-Done-clause-run
returns-in-Ok-Done-clause-run g c = λ told.
    let h = made c.self.inside.host_bytes c.self.inside.lanes c.self.inside.layout c.self.inside.front c.self.inside.closed.items c.self.inside.spare.items in
    let is : c.reap.result ≡ Ok reply.Done = cc in
    read-run c.args.self.now.setup.geometry c.args.lane c.args.self.now.side c.reap.new.self.side (g.C.MemoryCell.bytes c.args.memory.now) c.reap.result
    c.args.self.now.setup.host_bytes (laid-there h c.args.self.now c.self.view_is c.self.invariant.served) c.reap.ensures.worlds is
