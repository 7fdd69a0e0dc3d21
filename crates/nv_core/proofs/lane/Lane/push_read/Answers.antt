use Rattle.std.proofs.Common.{◌∙◌, ◌++◌, ◌∷◌, [], List, ap, sym, subst, arith}
use Rattle.nv_core.proofs.LaneTags.{lane-taken, read-changed, read-whole, reading-at, same-taken}
use Rattle.nv_core.specs.Tags.{IsReading}
use Rattle.nv_model.specs.Transcript.{ReadDone}
use Rattle.nv_world_model.specs.World.{Command, Taken, tag_changed}
use Rattle.nv_core.proofs.lane.Lane.push_read.Goals as goal

pub index_mut-kept-requires : goal.index_mut-kept-requires
index_mut-kept-requires c =
    let i = c.self.inside in
    let at = lane-taken i.head i.phase i.tags i.progress.items c.args.self.now c.self.invariant c.self.view_is c.args.tag c.requires in
    let below = at.below in
    let slots = c.self.invariant.slots_are in
    let many = c.self.invariant.progress_is in
    let number = c.from.ensures in omega arith

pub push_to-requires : goal.push_to-requires
push_to-requires c =
    let i = c.self.inside in
    let at = lane-taken i.head i.phase i.tags i.progress.items c.args.self.now c.self.invariant c.self.view_is c.args.tag c.requires in
    subst IsReading (sym (reading-at i.head i.phase i.tags i.progress.items c.args.self.now c.self.invariant c.self.view_is c.args.tag
    c.from.result c.index_mut-kept.result.now at c.from.ensures c.index_mut-kept.ensures.value)) tt

pub invariant_of-self-2 : goal.invariant_of-self-2
invariant_of-self-2 c =
    let i = c.self.inside in
    let at = lane-taken i.head i.phase i.tags i.progress.items c.args.self.now c.self.invariant c.self.view_is c.args.tag c.requires in
    let is = c.in_ok-push_to.ensures.ok at.reads (reading-at i.head i.phase i.tags i.progress.items c.args.self.now c.self.invariant c.self.view_is c.args.tag
    c.from.result c.index_mut-kept.result.now at c.from.ensures c.index_mut-kept.ensures.value) in
    read-whole i.head i.phase i.tags i.progress.items c.args.self.now c.self.invariant c.self.view_is c.args.tag
    c.from.result c.push_to.new.kept (at.reads ++ c.args.read ∷ []) at c.from.ensures is

pub returns-clause-ok : goal.returns-clause-ok
returns-clause-ok c = λ command reads there.
    let i = c.self.inside in
    let at = lane-taken i.head i.phase i.tags i.progress.items c.args.self.now c.self.invariant c.self.view_is c.args.tag c.requires in
    let is = c.in_ok-push_to.ensures.ok at.reads (reading-at i.head i.phase i.tags i.progress.items c.args.self.now c.self.invariant c.self.view_is c.args.tag
    c.from.result c.index_mut-kept.result.now at c.from.ensures c.index_mut-kept.ensures.value) in
    let same = same-taken i.head i.phase i.tags i.progress.items c.args.self.now c.self.invariant c.self.view_is c.args.tag command reads at there in
    read-changed i.head i.phase i.tags i.progress.items c.args.self.now c.self.invariant c.self.view_is c.args.tag
    c.from.result c.push_to.new.kept (at.reads ++ c.args.read ∷ []) at c.from.ensures is
    ∙ ap (λ (d : Command). tag_changed c.args.tag (Taken d (at.reads ++ c.args.read ∷ [])) c.args.self.now) same.0
    ∙ ap (λ (rs : List ReadDone). tag_changed c.args.tag (Taken command (rs ++ c.args.read ∷ [])) c.args.self.now) same.1
