use Rattle.std.proofs.Common.{◌∙◌, Some, ap, sym}
use Rattle.nv_core.proofs.Claims.{claim-is}
use Rattle.nv_core.proofs.LaneTags.{lane-taken, same-taken}
use Rattle.nv_tags.specs.Tags.{command_in, leader_of, slot_at, state_of}
use Rattle.nv_world_model.specs.World.{Command}
use Rattle.nv_core.proofs.lane.Lane.claimed.Goals as goal

pub claimed-requires : goal.claimed-requires
claimed-requires c =
    let i = c.self.inside in
    let at = lane-taken i.head i.phase i.tags i.progress.items c.args.self.now c.self.invariant c.self.view_is c.args.tag c.requires in
    record { used = λ free. (let taken = ap state_of at.slot_is in cc) }

pub returns : goal.returns
returns c = λ command reads there.
    let i = c.self.inside in
    let at = lane-taken i.head i.phase i.tags i.progress.items c.args.self.now c.self.invariant c.self.view_is c.args.tag c.requires in
    claim-is c.claimed.result.now (leader_of (slot_at i.tags c.args.tag)) command
    (sym c.claimed.ensures ∙ ap command_in at.slot_is
    ∙ ap (λ (d : Command). Some d) (same-taken i.head i.phase i.tags i.progress.items c.args.self.now c.self.invariant c.self.view_is
    c.args.tag command reads at there).0)
