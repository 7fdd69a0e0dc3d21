use Rattle.std.proofs.Common.{◌≡◌, Some, slice_get}
use Rattle.nv_c.proofs.News.{AreAsked}
use Rattle.nv_model.specs.Controller.{Controller}
use Rattle.nv_c.proofs.posted.ask_each.Given as goal

abbrev pub invariant-loop-queue : goal.invariant-loop-queue
invariant-loop-queue l =
    (c : Controller) → slice_get l.mediator.side.controllers l.guest ≡ Some c → AreAsked c l.fn.seen l.seen l.vectors l.queue
