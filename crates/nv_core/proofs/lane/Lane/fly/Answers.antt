use Rattle.std.proofs.Common.{arith, slice_get}
use Rattle.nv_core.specs.Tags.{IsTaken}
use Rattle.nv_core.proofs.AnsweredTags.{its-command, its-led}
use Rattle.nv_core.proofs.FlownTags.{all-below, all-taken, first-state, flown-changed, flown-whole, tag-below}
use Rattle.nv_core.proofs.GroupTags.{leads}
use Rattle.nv_core.proofs.lane.Lane.fly.Goals as goal

pub hand_on_further-requires-clause-leads : goal.hand_on_further-requires-clause-leads
hand_on_further-requires-clause-leads c =
    let i = c.self.inside in
    let t = c.requires.led in
    leads i.head i.tags i.progress.items c.self.invariant c.args.tag t.command
    (its-command i.head i.phase i.tags i.progress.items c.args.self.now c.self.invariant c.self.view_is c.args.tag t) t.led

pub hand_on_further-requires-clause-taken : goal.hand_on_further-requires-clause-taken
hand_on_further-requires-clause-taken c =
    let i = c.self.inside in
    all-taken i.head i.phase i.tags i.progress.items c.args.self.now c.self.invariant c.self.view_is c.args.tag c.requires.led c.requires.together

pub hand_on_further-requires-clause-below : goal.hand_on_further-requires-clause-below
hand_on_further-requires-clause-below c =
    let i = c.self.inside in
    λ k d within.
    (let below = all-below i.head i.phase i.tags i.progress.items c.args.self.now c.self.invariant c.self.view_is c.args.tag c.requires.led c.requires.together k d within in
    let size = i.progress.ok.0 in omega arith)

pub hand_on-requires : goal.hand_on-requires
hand_on-requires c =
    let i = c.self.inside in
    first-state i.head i.phase i.tags i.progress.items c.args.self.now c.self.invariant c.self.view_is c.args.tag c.requires.led c.requires.together
    c.args.plan c.requires.some c.is_nothing-nothing.result c.is_nothing-nothing.ensures
    c.hand_on_further.new.tags c.hand_on_further.ensures.tags c.hand_on_further.new.kept.items c.hand_on_further.ensures.kept

pub index_mut-requires : goal.index_mut-requires
index_mut-requires c =
    let i = c.self.inside in
    let below = tag-below i.head i.phase i.tags i.progress.items c.args.self.now c.self.invariant c.self.view_is c.args.tag c.requires.led c.requires.together in
    let size = i.progress.ok.0 in
    let len = c.hand_on_further.ensures.len in
    let number = c.from.ensures in omega arith

pub invariant_of-self : goal.invariant_of-self
invariant_of-self c =
    let i = c.self.inside in
    flown-whole i.head i.phase i.tags i.progress.items c.args.self.now c.self.invariant c.self.view_is c.args.tag c.requires.led c.requires.together
    c.args.plan c.requires.some c.is_nothing-nothing.result c.is_nothing-nothing.ensures
    c.hand_on_further.new.tags c.hand_on_further.ensures.tags c.hand_on_further.new.kept.items c.hand_on_further.ensures.kept
    c.hand_on.new.tags c.from.result c.first_kept.result c.hand_on.ensures c.from.ensures c.first_kept.ensures

pub returns : goal.returns
returns c = λ command reads there.
    let i = c.self.inside in
    let t : IsTaken c.args.tag (slice_get c.args.self.now.tags c.args.tag) =
    record { command = command; reads = reads; is = there; led = its-led c.args.tag _ command reads c.requires.led there } in
    flown-changed i.head i.phase i.tags i.progress.items c.args.self.now c.self.invariant c.self.view_is c.args.tag t c.requires.together
    c.args.plan c.requires.some c.is_nothing-nothing.result c.is_nothing-nothing.ensures
    c.hand_on_further.new.tags c.hand_on_further.ensures.tags c.hand_on_further.new.kept.items c.hand_on_further.ensures.kept
    c.hand_on.new.tags c.from.result c.first_kept.result c.hand_on.ensures c.from.ensures c.first_kept.ensures
