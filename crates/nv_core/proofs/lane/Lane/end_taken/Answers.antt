use Rattle.std.proofs.Common.{◌∙◌, None, ap, inl, refl, arith}
use Rattle.nv_core.specs.declared.progress.Progress.TheVariants as progress
use Rattle.nv_core.proofs.LaneTags.{lane-changed, lane-taken, lane-whole, moved-slot, same-taken, taken-led, taken-next}
use Rattle.nv_tags.specs.Tags.{Ended, Taken, Used, state_of}
use Rattle.nv_world_model.specs.World.{Command, Ended as EndedTag, tag_changed}
use Rattle.nv_core.proofs.lane.Lane.end_taken.Goals as goal

pub end-requires : goal.end-requires
end-requires c =
    let i = c.self.inside in
    let at = lane-taken i.head i.phase i.tags i.progress.items c.args.self.now c.self.invariant c.self.view_is c.args.tag c.requires in
    record { going = inl (ap state_of at.slot_is) }

pub index_mut-requires : goal.index_mut-requires
index_mut-requires c =
    let i = c.self.inside in
    let at = lane-taken i.head i.phase i.tags i.progress.items c.args.self.now c.self.invariant c.self.view_is c.args.tag c.requires in
    let below = at.below in
    let slots = c.self.invariant.slots_are in
    let many = c.self.invariant.progress_is in
    let number = c.from.ensures in omega arith

pub invariant_of-self : goal.invariant_of-self
invariant_of-self c =
    let i = c.self.inside in
    let at = lane-taken i.head i.phase i.tags i.progress.items c.args.self.now c.self.invariant c.self.view_is c.args.tag c.requires in
    lane-whole i.head i.phase i.tags i.progress.items c.args.self.now c.self.invariant c.self.view_is
    c.args.tag c.from.result (Used at.command (Ended c.args.status)) progress.Nothing (EndedTag at.command c.args.status None) c.end.new.self c.from.ensures
    (c.end.ensures ∙ moved-slot i.tags c.args.tag at.command Taken (Ended c.args.status) at.slot_is)
    (taken-next i.head i.phase i.tags i.progress.items c.args.self.now c.self.invariant c.self.view_is
    c.args.tag (Used at.command (Ended c.args.status)) progress.Nothing (EndedTag at.command c.args.status None) at tt refl)
    (taken-led i.head i.phase i.tags i.progress.items c.args.self.now c.self.invariant c.self.view_is c.args.tag (Ended c.args.status) at)

pub returns : goal.returns
returns c = λ command reads there.
    let i = c.self.inside in
    let at = lane-taken i.head i.phase i.tags i.progress.items c.args.self.now c.self.invariant c.self.view_is c.args.tag c.requires in
    lane-changed i.head i.phase i.tags i.progress.items c.args.self.now c.self.invariant c.self.view_is
    c.args.tag c.from.result (Used at.command (Ended c.args.status)) progress.Nothing (EndedTag at.command c.args.status None) c.end.new.self c.from.ensures
    (c.end.ensures ∙ moved-slot i.tags c.args.tag at.command Taken (Ended c.args.status) at.slot_is)
    (taken-next i.head i.phase i.tags i.progress.items c.args.self.now c.self.invariant c.self.view_is
    c.args.tag (Used at.command (Ended c.args.status)) progress.Nothing (EndedTag at.command c.args.status None) at tt refl)
    ∙ ap (λ (d : Command). tag_changed c.args.tag (EndedTag d c.args.status None) c.args.self.now)
    (same-taken i.head i.phase i.tags i.progress.items c.args.self.now c.self.invariant c.self.view_is c.args.tag command reads at there).0
