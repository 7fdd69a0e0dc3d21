use Rattle.std.proofs.Common.{◌≡◌, ◌≤◌, ◌<◌, ℕ, false, is_some}
use Rattle.nv_model.specs.Controller.{front}
use Rattle.nv_vctl.proofs.vctl.Vctl.next_waiting.Given as goal

-- the queues up to here are passed by
abbrev pub invariant-loop-queue : goal.invariant-loop-queue
invariant-loop-queue l =
    record {
      from : l.from ≤ l.queue;
      passed : (queue : ℕ) → l.from ≤ queue → queue < l.queue → is_some (front l.self queue) ≡ false;
    }
