use Rattle.std.proofs.Common.{ap, arith}
use Rattle.nv_core.specs.Tags.{command_at}
use Rattle.nv_core.proofs.GroupTags.{leads}
use Rattle.nv_core.proofs.LaneTags.{lane-command}
use Rattle.nv_core.proofs.ReleasedTags.{freed-below, freed-changed, freed-whole}
use Rattle.nv_core.proofs.lane.Lane.release.Goals as goal

pub free_all-requires-clause-leads : goal.free_all-requires-clause-leads
free_all-requires-clause-leads c =
    let i = c.self.inside in
    let t = c.requires.ended in
    let whose = lane-command i.head i.phase i.tags i.progress.items c.args.self.now c.self.invariant c.self.view_is c.args.tag t.command (ap command_at t.is) in
    leads i.head i.tags i.progress.items c.self.invariant c.args.tag t.command whose (c.requires.led t.command t.status t.share t.is)

pub free_all-requires-clause-below : goal.free_all-requires-clause-below
free_all-requires-clause-below c =
    let i = c.self.inside in
    let t = c.requires.ended in
    let whose = lane-command i.head i.phase i.tags i.progress.items c.args.self.now c.self.invariant c.self.view_is c.args.tag t.command (ap command_at t.is) in
    λ k d within.
    (let below = freed-below i.head i.phase i.tags i.progress.items c.args.self.now c.self.invariant c.self.view_is c.args.tag t.command whose
    (c.requires.led t.command t.status t.share t.is) k d within in
    let size = i.progress.ok.0 in omega arith)

pub invariant_of-self : goal.invariant_of-self
invariant_of-self c =
    let i = c.self.inside in
    let t = c.requires.ended in
    let whose = lane-command i.head i.phase i.tags i.progress.items c.args.self.now c.self.invariant c.self.view_is c.args.tag t.command (ap command_at t.is) in
    freed-whole i.head i.phase i.tags i.progress.items c.args.self.now c.self.invariant c.self.view_is c.args.tag t.command whose
    (c.requires.led t.command t.status t.share t.is) c.free_all.new.tags c.free_all.new.kept.items c.free_all.ensures.tags c.free_all.ensures.kept

pub returns : goal.returns
returns c =
    let i = c.self.inside in
    let t = c.requires.ended in
    let whose = lane-command i.head i.phase i.tags i.progress.items c.args.self.now c.self.invariant c.self.view_is c.args.tag t.command (ap command_at t.is) in
    freed-changed i.head i.phase i.tags i.progress.items c.args.self.now c.self.invariant c.self.view_is c.args.tag t.command whose
    (c.requires.led t.command t.status t.share t.is) c.free_all.new.tags c.free_all.new.kept.items c.free_all.ensures.tags c.free_all.ensures.kept
