use Rattle.std.proofs.Common.{◌∙◌, ap, inr, arith}
use Rattle.nv_core.specs.Handing.{part_ended}
use Rattle.nv_core.proofs.FlyingTags.{ends-changed, ends-whole, flies-at, flying-tag}
use Rattle.nv_core.proofs.LaneTags.{progress-at, progress-below}
use Rattle.nv_tags.specs.Tags.{state_of}
use Rattle.nv_core.proofs.lane.Lane.end_with.Goals as goal

pub end-requires : goal.end-requires
end-requires c =
    let i = c.self.inside in
    let t = flying-tag _ c.requires in
    let f = flies-at i.head i.phase i.tags i.progress.items c.args.self.now c.self.invariant c.self.view_is c.args.tag t.command t.share t.standing t.is in
    record { going = inr (ap state_of f.slot_is) }

pub index_mut-kept-requires : goal.index_mut-kept-requires
index_mut-kept-requires c =
    let i = c.self.inside in
    let t = flying-tag _ c.requires in
    let f = flies-at i.head i.phase i.tags i.progress.items c.args.self.now c.self.invariant c.self.view_is c.args.tag t.command t.share t.standing t.is in
    let below = f.below in
    let slots = c.self.invariant.slots_are in
    let many = c.self.invariant.progress_is in
    let number = c.from.ensures in omega arith

pub invariant_of-self : goal.invariant_of-self
invariant_of-self c =
    let i = c.self.inside in
    let t = flying-tag _ c.requires in
    let f = flies-at i.head i.phase i.tags i.progress.items c.args.self.now c.self.invariant c.self.view_is c.args.tag t.command t.share t.standing t.is in
    let below = progress-below i.head i.phase i.tags i.progress.items c.args.self.now c.self.invariant c.self.view_is c.args.tag f.below in
    ends-whole i.head i.phase i.tags i.progress.items c.args.self.now c.self.invariant c.self.view_is c.args.tag t.command t.share t.standing t.is
    c.from.result c.args.status c.end_part.new.kept c.end.new.self f c.from.ensures c.end.ensures
    (c.end_part.ensures ∙ ap part_ended
    (progress-at i.progress.items c.args.tag c.from.result c.index_mut-kept.result.now f.progress below f.progress_is c.from.ensures c.index_mut-kept.ensures.value))

pub returns : goal.returns
returns c = λ command share standing there.
    let i = c.self.inside in
    let f = flies-at i.head i.phase i.tags i.progress.items c.args.self.now c.self.invariant c.self.view_is c.args.tag command share standing there in
    let below = progress-below i.head i.phase i.tags i.progress.items c.args.self.now c.self.invariant c.self.view_is c.args.tag f.below in
    ends-changed i.head i.phase i.tags i.progress.items c.args.self.now c.self.invariant c.self.view_is c.args.tag command share standing there
    c.from.result c.args.status c.end_part.new.kept c.end.new.self f c.from.ensures c.end.ensures
    (c.end_part.ensures ∙ ap part_ended
    (progress-at i.progress.items c.args.tag c.from.result c.index_mut-kept.result.now f.progress below f.progress_is c.from.ensures c.index_mut-kept.ensures.value))
