use Rattle.nv_host.proofs.Made.{made}
use Rattle.std.proofs.Common.{refl, rules, subst, ◌∙◌}
use Rattle.nv_laws_sound.specs.Side.{IsKept}
use Rattle.nv_host.proofs.Failed.{alone-same, alone-twice}
use Rattle.nv_host.proofs.GivenUp.{all-given}
use Rattle.nv_host.proofs.Runs.{idle-twice, lead-same}
use Rattle.nv_host.specs.Ending.{IsIdleRun}
use Rattle.nv_host.specs.Served.{Served}
use Rattle.nv_world_model.specs.SetUp.{SetUp}
use Rattle.nv_host.proofs.host_mediator.HostMediator.give_up_each.Goals as goal

pub loop-tag-init : goal.loop-tag-init
loop-tag-init c =
    record {
      each = search rules;
      run = (λ memory w on live idle. (lead-same c.args.self.now.setup.geometry c.args.lane w c.args.self.now.side memory on live, idle));
      alone = alone-same c.args.lane c.args.self.now.side;
      setup = refl;
      closed = refl;
      spare = refl;
    }

pub loop-tag-preserved : goal.loop-tag-preserved
loop-tag-preserved c =
    let so_far = c.loop-tag.invariant in
    record {
      each = search rules;
      run = (λ memory.
          idle-twice c.args.self.now.setup.geometry c.args.lane c.args.self.now.side c.loop-tag.self.side c.give_up_led.new.self.side memory memory memory
          (so_far.run memory)
          (subst (λ (s : SetUp). IsIdleRun s.geometry c.args.lane c.loop-tag.self.side memory c.give_up_led.new.self.side memory) so_far.setup
          (c.give_up_led.ensures.run memory)));
      alone = alone-twice c.args.lane c.args.self.now.side c.loop-tag.self.side c.give_up_led.new.self.side so_far.alone c.give_up_led.ensures.alone;
      setup = c.give_up_led.ensures.setup ∙ so_far.setup;
      closed = c.give_up_led.ensures.closed ∙ so_far.closed;
      spare = c.give_up_led.ensures.spare ∙ so_far.spare;
    }

pub returns-clause-each : goal.returns-clause-each
returns-clause-each c =
    let h = made c.self.inside.host_bytes c.self.inside.lanes c.self.inside.layout c.self.inside.front c.self.inside.closed.items c.self.inside.spare.items in
    all-given c.args.self.now.setup.geometry c.loop-tag.tag c.args.lane c.args.self.now.side c.loop-tag.self.side
    (subst (λ (x : Served). IsKept x.setup.geometry x.side) c.self.view_is c.self.invariant.served.kept) c.loop-tag-test.false c.loop-tag.invariant.each
