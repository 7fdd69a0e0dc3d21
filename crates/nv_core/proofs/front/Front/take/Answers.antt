use Rattle.std.proofs.Common.{ℕ, List}
use Rattle.nv_core.proofs.CallSteps.{quiet-step}
use Rattle.nv_core.proofs.CallTakes.{take-law}
use Rattle.nv_world_model.specs.declared.event.Event.TheVariants as event
use Rattle.nv_core.proofs.front.Front.take.Goals as goal

pub returns-clause-step : goal.returns-clause-step
returns-clause-step g c =
    let m : List ℕ = g.C.MemoryCell.bytes c.args.host.now in
    quiet-step c.args.layout.now (event.Take c.args.guest c.args.queue c.args.lane) c.front_entry-entry.result c.args.self.now c.take_fetched.new.self m
    c.take_fetched.result
    (take-law c.args.layout.now c.args.self.now m c.args.guest c.args.queue c.args.lane c.front_entry-entry.result c.front_entry-entry.ensures)
    c.take_fetched.ensures.call
