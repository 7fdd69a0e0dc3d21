use Rattle.std.proofs.Common.{◌∙◌, ap, sym, subst, arith}
use Rattle.nv_core.proofs.LaneTags.{lane-taken, read-changed, read-whole, reading-at, same-taken}
use Rattle.nv_core.specs.Tags.{IsReading}
use Rattle.nv_world_model.specs.World.{Command, Taken, tag_changed}
use Rattle.nv_core.proofs.lane.Lane.replace_reads.Goals as goal

pub index_mut-kept-requires : goal.index_mut-kept-requires
index_mut-kept-requires c =
    let i = c.self.inside in
    let at = lane-taken i.head i.phase i.tags i.progress.items c.args.self.now c.self.invariant c.self.view_is c.args.tag c.requires in
    let below = at.below in
    let slots = c.self.invariant.slots_are in
    let many = c.self.invariant.progress_is in
    let number = c.from.ensures in omega arith

pub transcript_of-requires : goal.transcript_of-requires
transcript_of-requires c =
    let i = c.self.inside in
    let at = lane-taken i.head i.phase i.tags i.progress.items c.args.self.now c.self.invariant c.self.view_is c.args.tag c.requires in
    subst IsReading (sym (c.replace-before.ensures.value ∙ reading-at i.head i.phase i.tags i.progress.items c.args.self.now c.self.invariant c.self.view_is c.args.tag
    c.from.result c.index_mut-kept.result.now at c.from.ensures c.index_mut-kept.ensures.value)) tt

pub invariant_of-self : goal.invariant_of-self
invariant_of-self c =
    let i = c.self.inside in
    let at = lane-taken i.head i.phase i.tags i.progress.items c.args.self.now c.self.invariant c.self.view_is c.args.tag c.requires in
    read-whole i.head i.phase i.tags i.progress.items c.args.self.now c.self.invariant c.self.view_is c.args.tag
    c.from.result c.replace-before.new.dest c.args.reads at c.from.ensures c.replace-before.ensures.after

pub returns-clause-before : goal.returns-clause-before
returns-clause-before c = λ command reads there.
    let i = c.self.inside in
    let at = lane-taken i.head i.phase i.tags i.progress.items c.args.self.now c.self.invariant c.self.view_is c.args.tag c.requires in
    c.transcript_of.ensures at.reads (c.replace-before.ensures.value
    ∙ reading-at i.head i.phase i.tags i.progress.items c.args.self.now c.self.invariant c.self.view_is c.args.tag
    c.from.result c.index_mut-kept.result.now at c.from.ensures c.index_mut-kept.ensures.value)
    ∙ (same-taken i.head i.phase i.tags i.progress.items c.args.self.now c.self.invariant c.self.view_is c.args.tag command reads at there).1

pub returns-clause-changed : goal.returns-clause-changed
returns-clause-changed c = λ command reads there.
    let i = c.self.inside in
    let at = lane-taken i.head i.phase i.tags i.progress.items c.args.self.now c.self.invariant c.self.view_is c.args.tag c.requires in
    read-changed i.head i.phase i.tags i.progress.items c.args.self.now c.self.invariant c.self.view_is c.args.tag
    c.from.result c.replace-before.new.dest c.args.reads at c.from.ensures c.replace-before.ensures.after
    ∙ ap (λ (d : Command). tag_changed c.args.tag (Taken d c.args.reads) c.args.self.now)
    (same-taken i.head i.phase i.tags i.progress.items c.args.self.now c.self.invariant c.self.view_is c.args.tag command reads at there).0
