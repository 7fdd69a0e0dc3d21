use Rattle.nv_host.proofs.Made.{made}
use Rattle.std.proofs.Common.{ℕ, List, refl, rules, subst, ◌∙◌}
use Rattle.nv_laws_sound.specs.Side.{IsKept}
use Rattle.nv_host.proofs.Failed.{all-failed, alone-same, alone-twice}
use Rattle.nv_host.proofs.Ring.{ring-same, ring-twice}
use Rattle.nv_host.proofs.Runs.{idle-twice, lead-same}
use Rattle.nv_host.specs.Closing.{IsRingAlone}
use Rattle.nv_host.specs.Ending.{IsIdleRun}
use Rattle.nv_host.specs.Served.{Served}
use Rattle.nv_world_model.specs.Geometry.{Geometry}
use Rattle.nv_world_model.specs.SetUp.{SetUp}
use Rattle.nv_host.proofs.host_mediator.HostMediator.fail_each.Goals as goal

pub loop-tag-init : goal.loop-tag-init
loop-tag-init g c =
    record {
      each = search rules;
      run = (λ w on live idle.
          (lead-same c.args.self.now.setup.geometry c.args.lane w c.args.self.now.side (g.C.MemoryCell.bytes c.args.memory.now) on live, idle));
      alone = alone-same c.args.lane c.args.self.now.side;
      ring = ring-same c.args.self.now.setup.geometry c.args.lane (g.C.MemoryCell.bytes c.args.memory.now);
      setup = refl;
      closed = refl;
      spare = refl;
    }

pub loop-tag-preserved : goal.loop-tag-preserved
loop-tag-preserved g c =
    let so_far = c.loop-tag.invariant in
    let geometry : Geometry = c.args.self.now.setup.geometry in
    let before : List ℕ = g.C.MemoryCell.bytes c.args.memory.now in
    let between : List ℕ = g.C.MemoryCell.bytes c.loop-tag.memory in
    let after : List ℕ = g.C.MemoryCell.bytes c.fail.new.memory in
    record {
      each = search rules;
      run = idle-twice geometry c.args.lane c.args.self.now.side c.loop-tag.self.side c.fail.new.self.side before between after so_far.run
          (subst (λ (s : SetUp). IsIdleRun s.geometry c.args.lane c.loop-tag.self.side between c.fail.new.self.side after) so_far.setup c.fail.ensures.run);
      alone = alone-twice c.args.lane c.args.self.now.side c.loop-tag.self.side c.fail.new.self.side so_far.alone c.fail.ensures.alone;
      ring = ring-twice geometry c.args.lane before between after so_far.ring
          (subst (λ (s : SetUp). IsRingAlone s.geometry c.args.lane between after) so_far.setup c.fail.ensures.ring);
      setup = c.fail.ensures.setup ∙ so_far.setup;
      closed = c.fail.ensures.closed ∙ so_far.closed;
      spare = c.fail.ensures.spare ∙ so_far.spare;
    }

pub returns-clause-each : goal.returns-clause-each
returns-clause-each g c =
    let h = made c.self.inside.host_bytes c.self.inside.lanes c.self.inside.layout c.self.inside.front c.self.inside.closed.items c.self.inside.spare.items in
    all-failed c.args.self.now.setup.geometry c.loop-tag.tag c.args.lane c.args.self.now.side c.loop-tag.self.side
    (subst (λ (x : Served). IsKept x.setup.geometry x.side) c.self.view_is c.self.invariant.served.kept) c.loop-tag-test.false c.loop-tag.invariant.each
