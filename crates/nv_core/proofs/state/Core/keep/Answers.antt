use Rattle.std.proofs.Common.{◌≤◌, ◌<◌, subst, sym, arith}
use Rattle.nv_core.proofs.Placed.{keep-marks, keep-not, same-size}
use Rattle.nv_core.specs.State.{State, IsStep, state_of, world_of}
use Rattle.nv_device.specs.State.{Physical}
use Rattle.nv_model.specs.declared.reply.Reply.TheVariants as reply
use Rattle.nv_world_model.specs.declared.event.Event.TheVariants as event
use Rattle.nv_core.proofs.state.Core.keep.Goals as goal

pub returns-then-block-disk_blocks : goal.returns-then-block-disk_blocks
returns-then-block-disk_blocks c =
    let past : c.args.layout.now.disk_blocks ≤ c.args.block = (let e = c.disk_blocks.ensures in let p = c.if-block-disk_blocks.true in omega arith) in
    record { after = sym (keep-not c.args.layout.now (world_of c.args.self.now) c.args.block past); size = same-size c.args.self.now }

pub returns : goal.returns
returns c =
    let below : c.args.block < c.args.layout.now.disk_blocks = (let e = c.disk_blocks.ensures in let p = c.if-block-disk_blocks.false in omega arith) in
    let s : State = state_of c.self.inside.host c.self.inside.device c.self.inside.front in
    subst (λ (d : Physical). IsStep c.args.layout.now (event.Keep c.args.block) c.args.self.now reply.Done (state_of c.self.inside.host d c.self.inside.front))
    (sym c.keep.ensures.state)
    (keep-marks c.args.layout.now s c.args.self.now c.args.block c.self.view_is c.requires c.blocks-known.ensures.marked below)
