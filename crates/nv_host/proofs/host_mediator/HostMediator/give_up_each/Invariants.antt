use Rattle.std.proofs.Common.{◌≡◌, ℕ, List}
use Rattle.nv_host.proofs.GivenUp.{given_up_below}
use Rattle.nv_host.specs.Closing.{AreEach, IsLaneAlone}
use Rattle.nv_host.specs.Ending.{IsIdleRun}
use Rattle.nv_host.proofs.host_mediator.HostMediator.give_up_each.Given as goal

abbrev pub invariant-loop-tag : goal.invariant-loop-tag
invariant-loop-tag l =
    record {
      each : AreEach (given_up_below l.tag) l.fn.lane l.fn.self.side l.self.side;
      run : (memory : List ℕ) → IsIdleRun l.fn.self.setup.geometry l.fn.lane l.fn.self.side memory l.self.side memory;
      alone : IsLaneAlone l.fn.lane l.fn.self.side l.self.side;
      setup : l.self.setup ≡ l.fn.self.setup;
      closed : l.self.closed ≡ l.fn.self.closed;
      spare : l.self.spare ≡ l.fn.self.spare;
    }
