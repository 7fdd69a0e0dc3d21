use Rattle.std.proofs.Common.{◌≡◌, false, slice_get, subst, arith}
use Rattle.nv_core.specs.Noted.{has_front}
use Rattle.nv_host.proofs.Queues.{none-takes}
use Rattle.nv_host.specs.Served.{Served}
use Rattle.nv_host.specs.Work.{scene}
use Rattle.nv_host.proofs.host_mediator.HostMediator.next_waiting.Goals as goal

pub returns-clause-passed : goal.returns-clause-passed
returns-clause-passed c = λ memory queue lane from below.
    let none = subst (λ (x : Served). has_front queue (slice_get x.side.controllers c.args.guest) ≡ false) c.self.view_is
    (c.next_waiting.ensures.passed queue from below) in
    none-takes (scene c.args.self.now memory) c.args.guest queue none lane

pub returns-clause-on : goal.returns-clause-on
returns-clause-on c = λ less. (c.next_waiting.ensures.here (omega (arith, less))).0

pub returns-clause-within : goal.returns-clause-within
returns-clause-within c = c.next_waiting.ensures.within
