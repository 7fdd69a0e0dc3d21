use Rattle.std.proofs.Common.{◌≡◌, ◌∙◌, Some, refl, slice_get, suc, subst}
use Rattle.nv_core.specs.Front.{IsReaped}
use Rattle.nv_core.specs.Reaping.{answer_of}
use Rattle.nv_host.proofs.Failed.{alone-same, alone-twice, reap-fewer}
use Rattle.nv_host.proofs.Runs.{lead-same, run-twice}
use Rattle.nv_host.specs.Ending.{IsRun}
use Rattle.nv_model.specs.declared.reply.Reply.TheVariants as reply
use Rattle.nv_world_model.specs.SetUp.{SetUp}
use Rattle.nv_host.proofs.host_mediator.HostMediator.drain.Goals as goal

pub loop-smaller : goal.loop-smaller
loop-smaller g c =
    reap-fewer c.loop.self.setup.geometry c.args.lane c.loop.self.side c.has_reaped.new.self.side (g.C.MemoryCell.bytes c.args.memory.now)
    (c.has_reaped.ensures.answer.0 c.loop-test.true) (c.has_reaped.ensures.done c.loop-test.true)

pub loop-init : goal.loop-init
loop-init g c =
    record {
      reads = (0, refl);
      run = (λ w on live.
          lead-same c.args.self.now.setup.geometry c.args.lane w c.args.self.now.side (g.C.MemoryCell.bytes c.args.memory.now) on live);
      alone = alone-same c.args.lane c.args.self.now.side;
      setup = refl;
      closed = refl;
      spare = refl;
    }

pub loop-preserved : goal.loop-preserved
loop-preserved g c =
    let so_far = c.loop.invariant in
    record {
      reads = (
        suc so_far.reads.0,
        (
          c.loop.self.side,
          (
            so_far.reads.1,
            subst (λ (s : SetUp). answer_of s.geometry c.args.lane (slice_get c.loop.self.side.lanes c.args.lane) (g.C.MemoryCell.bytes c.args.memory.now) ≡ Some reply.Done)
                so_far.setup (c.has_reaped.ensures.answer.0 c.loop-test.true),
            subst (λ (s : SetUp). IsReaped s.geometry c.args.lane c.loop.self.side c.has_reaped.new.self.side (g.C.MemoryCell.bytes c.args.memory.now)) so_far.setup
                (c.has_reaped.ensures.done c.loop-test.true),
          ),
        ),
      );
      run = run-twice c.args.self.now.setup.geometry c.args.lane c.args.self.now.side c.loop.self.side c.has_reaped.new.self.side
          (g.C.MemoryCell.bytes c.args.memory.now) (g.C.MemoryCell.bytes c.args.memory.now) (g.C.MemoryCell.bytes c.args.memory.now) so_far.run
          (subst (λ (s : SetUp). IsRun s.geometry c.args.lane c.loop.self.side (g.C.MemoryCell.bytes c.args.memory.now) c.has_reaped.new.self.side (g.C.MemoryCell.bytes c.args.memory.now))
          so_far.setup (c.has_reaped.ensures.run c.loop-test.true));
      alone = alone-twice c.args.lane c.args.self.now.side c.loop.self.side c.has_reaped.new.self.side so_far.alone c.has_reaped.ensures.alone;
      setup = c.has_reaped.ensures.setup ∙ so_far.setup;
      closed = c.has_reaped.ensures.closed ∙ so_far.closed;
      spare = c.has_reaped.ensures.spare ∙ so_far.spare;
    }
