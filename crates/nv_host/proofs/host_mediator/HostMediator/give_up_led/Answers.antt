use Rattle.nv_host.proofs.Made.{made}
use Rattle.std.proofs.Common.{ℕ, List, [], length, refl, replicate, subst}
use Rattle.std.proofs.lemmas.List.{length-replicate}
use Rattle.nv_host.proofs.Calls.{call-served, many-same, served-lent}
use Rattle.nv_host.proofs.HoldNotes.{gives-still}
use Rattle.nv_host.proofs.GivenUp.{gives-alone, gives-each, gives-run}
use Rattle.nv_host.specs.Closing.{AreEach, IsLaneAlone}
use Rattle.nv_host.specs.Ending.{given_up_by}
use Rattle.nv_host.specs.Ending.{IsIdleRun}
use Rattle.nv_host.specs.Served.{Served}
use Rattle.nv_world_model.specs.declared.event.Event.TheVariants as event
use Rattle.nv_host.proofs.host_mediator.HostMediator.give_up_led.Goals as goal

pub invariant_of-self : goal.invariant_of-self
invariant_of-self c =
    let h = made c.self.inside.host_bytes c.self.inside.lanes c.self.inside.layout c.self.inside.front c.self.inside.closed.items c.self.inside.spare.items in
    let zeros : List ℕ = replicate c.args.self.now.setup.host_bytes 0 in
    record {
      served = call-served h c.args.self.now c.self.view_is c.self.invariant.served (event.GiveUp c.args.lane c.args.tag) tt c.give_up-told.new.self zeros zeros c.give_up-told.result
          (c.give_up-told.ensures.step zeros) (many-same h.side c.give_up-told.new.self c.give_up-told.ensures.tails) refl (length-replicate c.args.self.now.setup.host_bytes 0);
      held = gives-still h c.self.invariant.served c.self.inside.holds c.self.invariant.held c.give_up-told.new.self zeros zeros c.give_up-told.result c.args.lane c.args.tag
          (c.give_up-told.ensures.step zeros);
    }

pub returns-clause-each : goal.returns-clause-each
returns-clause-each c =
    let h = made c.self.inside.host_bytes c.self.inside.lanes c.self.inside.layout c.self.inside.front c.self.inside.closed.items c.self.inside.spare.items in
    subst (λ (x : Served). AreEach (given_up_by c.args.tag) c.args.lane x.side c.give_up-told.new.self) c.self.view_is
    (gives-each h.setup.geometry c.args.lane c.args.tag h.side c.give_up-told.new.self [] c.give_up-told.result (c.give_up-told.ensures.step []) c.self.invariant.served.kept)

pub returns-clause-alone : goal.returns-clause-alone
returns-clause-alone c =
    let h = made c.self.inside.host_bytes c.self.inside.lanes c.self.inside.layout c.self.inside.front c.self.inside.closed.items c.self.inside.spare.items in
    subst (λ (x : Served). IsLaneAlone c.args.lane x.side c.give_up-told.new.self) c.self.view_is
    (gives-alone h.setup.geometry c.args.lane c.args.tag h.side c.give_up-told.new.self [] c.give_up-told.result (c.give_up-told.ensures.step []) c.give_up-told.ensures.tails)

pub returns-clause-run : goal.returns-clause-run
returns-clause-run c = λ memory.
    let h = made c.self.inside.host_bytes c.self.inside.lanes c.self.inside.layout c.self.inside.front c.self.inside.closed.items c.self.inside.spare.items in
    let zeros : List ℕ = replicate c.args.self.now.setup.host_bytes 0 in
    let lent = served-lent h c.args.self.now c.self.view_is c.self.invariant.served zeros (length-replicate c.args.self.now.setup.host_bytes 0) in
    subst (λ (x : Served). IsIdleRun x.setup.geometry c.args.lane x.side memory c.give_up-told.new.self memory) c.self.view_is
    (gives-run (length zeros) h.setup.geometry c.args.lane c.args.tag h.side c.give_up-told.new.self c.give_up-told.result lent.laid_out
    c.give_up-told.ensures.step (many-same h.side c.give_up-told.new.self c.give_up-told.ensures.tails) memory)
