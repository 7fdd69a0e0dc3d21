use Rattle.std.proofs.Common.{◌∙◌, ap, sym}
use Rattle.nv_core.proofs.Claims.{claim-is}
use Rattle.nv_core.proofs.EndingTags.{ended-at}
use Rattle.nv_tags.specs.Tags.{command_in, leader_of, slot_at, state_of}
use Rattle.nv_core.proofs.lane.Lane.ended.Goals as goal

pub claimed-requires : goal.claimed-requires
claimed-requires c =
    let i = c.self.inside in
    let t = c.requires in
    let e = ended-at i.head i.phase i.tags i.progress.items c.args.self.now c.self.invariant c.self.view_is c.args.tag t.command t.status t.share t.is in
    record { used = λ free. (let ended = ap state_of e.slot_is in cc) }

pub returns : goal.returns
returns c = λ command st share there.
    let i = c.self.inside in
    let e = ended-at i.head i.phase i.tags i.progress.items c.args.self.now c.self.invariant c.self.view_is c.args.tag command st share there in
    claim-is c.claimed.result.now (leader_of (slot_at i.tags c.args.tag)) command (sym c.claimed.ensures ∙ ap command_in e.slot_is)
