use Rattle.std.proofs.Common.{◌∙◌, sym}
use Rattle.nv_core.specs.Tags.{command_at}
use Rattle.nv_core.proofs.Claims.{holder-is, not-free, some-there}
use Rattle.nv_core.proofs.LaneTags.{lane-command}
use Rattle.nv_tags.specs.Tags.{leader_of, slot_at}
use Rattle.nv_core.proofs.lane.Lane.held.Goals as goal

pub claimed-requires : goal.claimed-requires
claimed-requires c =
    let i = c.self.inside in
    let there = some-there (command_at _) c.requires in
    let is = lane-command i.head i.phase i.tags i.progress.items c.args.self.now c.self.invariant c.self.view_is c.args.tag there.0 there.1 in
    record { used = not-free (slot_at i.tags c.args.tag) there.0 is }

pub returns : goal.returns
returns c = λ command there.
    let i = c.self.inside in
    let is = lane-command i.head i.phase i.tags i.progress.items c.args.self.now c.self.invariant c.self.view_is c.args.tag command there in
    holder-is c.claimed.result.now (leader_of (slot_at i.tags c.args.tag)) command c.leader.result (sym c.claimed.ensures ∙ is) c.leader.ensures.value
