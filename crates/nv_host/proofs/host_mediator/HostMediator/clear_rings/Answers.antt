use Rattle.std.proofs.Common.{◌≡◌, arith, ap, ◌∙◌}
use Rattle.nv_host.proofs.Cleared.{all-alone, more-alone, more-clear}
use Rattle.nv_host.specs.Served.{Served}
use Rattle.nv_host.proofs.host_mediator.HostMediator.clear_rings.Goals as goal

pub loop-lane-preserved : goal.loop-lane-preserved
loop-lane-preserved g c =
    let same = ap (λ (x : Served). x.setup.lanes) c.self.view_is in
    let less = c.loop-lane-test.true in
    record {
      low = omega (arith, same, less);
      clear = more-clear c.args.self.now.setup c.loop-lane.lane (g.C.MemoryCell.bytes c.args.memory.now) (g.C.MemoryCell.bytes c.loop-lane.memory)
          (g.C.MemoryCell.bytes c.clear_ring.new.memory) c.clear_ring.ensures.alone c.clear_ring.ensures.clear c.loop-lane.invariant.clear;
      alone = more-alone c.args.self.now.setup c.loop-lane.lane (g.C.MemoryCell.bytes c.args.memory.now) (g.C.MemoryCell.bytes c.loop-lane.memory)
          (g.C.MemoryCell.bytes c.clear_ring.new.memory) c.clear_ring.ensures.alone c.clear_ring.ensures.clear c.loop-lane.invariant.alone;
      size = c.clear_ring.ensures.alone.size ∙ c.loop-lane.invariant.size;
    }

pub returns-clause-alone : goal.returns-clause-alone
returns-clause-alone g c =
    let view = ap (λ (x : Served). x.setup.lanes) c.self.view_is in
    let most = c.loop-lane-test.false in
    let low = c.loop-lane.invariant.low in
    let same : c.loop-lane.lane ≡ c.args.self.now.setup.lanes = omega (arith, view, most, low) in
    all-alone c.args.self.now.setup c.loop-lane.lane (g.C.MemoryCell.bytes c.args.memory.now) (g.C.MemoryCell.bytes c.loop-lane.memory) same
    c.loop-lane.invariant.alone
