use Rattle.std.proofs.Common.{arith}
use Rattle.nv_core.proofs.LaneTags.{lane-taken, reading-at, same-taken}
use Rattle.nv_core.proofs.lane.Lane.reads.Goals as goal

pub index-requires : goal.index-requires
index-requires c =
    let i = c.self.inside in
    let at = lane-taken i.head i.phase i.tags i.progress.items c.args.self.now c.self.invariant c.self.view_is c.args.tag c.requires in
    let below = at.below in
    let slots = c.self.invariant.slots_are in
    let many = c.self.invariant.progress_is in
    let number = c.from.ensures in omega arith

pub unreachable-requires : goal.unreachable-requires
unreachable-requires c =
    let i = c.self.inside in
    let at = lane-taken i.head i.phase i.tags i.progress.items c.args.self.now c.self.invariant c.self.view_is c.args.tag c.requires in
    c.in_default.not-Reading at.reads
    (reading-at i.head i.phase i.tags i.progress.items c.args.self.now c.self.invariant c.self.view_is c.args.tag
    c.from.result c.index.result.now at c.from.ensures c.index.ensures)

pub returns : goal.returns
returns c = λ command reads there.
    let i = c.self.inside in
    let at = lane-taken i.head i.phase i.tags i.progress.items c.args.self.now c.self.invariant c.self.view_is c.args.tag c.requires in
    let is = reading-at i.head i.phase i.tags i.progress.items c.args.self.now c.self.invariant c.self.view_is c.args.tag
    c.from.result c.index.result.now at c.from.ensures c.index.ensures in
    let same = (same-taken i.head i.phase i.tags i.progress.items c.args.self.now c.self.invariant c.self.view_is c.args.tag command reads at there).1 in
    let here = c.in-Reading.is in
    cc
