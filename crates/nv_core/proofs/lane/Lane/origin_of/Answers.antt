use Rattle.std.proofs.Common.{◌∙◌, sym}
use Rattle.nv_core.specs.Tags.{command_at}
use Rattle.nv_core.proofs.Claims.{not-free, some-there}
use Rattle.nv_core.proofs.FullQueues.{origin-is}
use Rattle.nv_core.proofs.LaneTags.{lane-command}
use Rattle.nv_tags.specs.Tags.{leader_of, slot_at}
use Rattle.nv_core.proofs.lane.Lane.origin_of.Goals as goal

pub claimed-claim-requires : goal.claimed-claim-requires
claimed-claim-requires c =
    let i = c.self.inside in
    let there = some-there (command_at _) c.requires in
    let is = lane-command i.head i.phase i.tags i.progress.items c.args.self.now c.self.invariant c.self.view_is c.args.tag there.0 there.1 in
    record { used = not-free (slot_at i.tags c.args.tag) there.0 is }

pub returns : goal.returns
returns c = λ command there.
    let i = c.self.inside in
    let is = lane-command i.head i.phase i.tags i.progress.items c.args.self.now c.self.invariant c.self.view_is c.args.tag command there in
    origin-is c.claimed-claim.result.now (leader_of (slot_at i.tags c.args.tag)) command (sym c.claimed-claim.ensures ∙ is)
