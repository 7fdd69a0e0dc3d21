use Rattle.std.proofs.Common.{◌<◌, ◌∙◌, ℕ, [], All, List, ap, arith, set, subst, sym}
use Rattle.std.specs.Vec.{vec_len}
use Rattle.nv_core.specs.Groups.{tags_changed}
use Rattle.nv_core.specs.declared.progress.Progress.TheVariants as progress
use Rattle.nv_core.proofs.ClaimedTags.{all-below, given-changed, given-found, given-group, given-leader, given-leads, given-lowest, given-none, given-one, given-tags}
use Rattle.nv_core.proofs.ClaimedTags.{given-whole, leader-below}
use Rattle.nv_model.specs.Transcript.{ReadDone}
use Rattle.nv_tags.specs.Tags.{set_each}
use Rattle.nv_world_model.specs.World.{Command, Taken as TakenTag}
use Rattle.nv_core.proofs.lane.Lane.claim.Goals as goal

pub returns-in_err-tag-clause-tag : goal.returns-in_err-tag-clause-tag
returns-in_err-tag-clause-tag c =
    let i = c.self.inside in
    c.from_residual.ensures
    ∙ given-leader i.head i.phase i.tags i.progress.items c.args.self.now c.self.invariant c.self.view_is c.args.count c.requires _ c.in_err-tag.ensures.leader

pub returns-in_err-tag-clause-some : goal.returns-in_err-tag-clause-some
returns-in_err-tag-clause-some c = λ tags found.
    let i = c.self.inside in
    absurd (given-none i.head i.phase i.tags i.progress.items c.args.self.now c.self.invariant c.self.view_is c.args.count c.requires tags
    c.in_err-tag.ensures.leader found)

pub index_mut-requires : goal.index_mut-requires
index_mut-requires c =
    let i = c.self.inside in
    let f = given-found i.head i.phase i.tags i.progress.items c.args.self.now c.self.invariant c.self.view_is c.args.count c.requires
    c.in_ok-tag.tag c.in_ok-tag.ensures.leader in
    let below = leader-below i.head i.phase i.tags i.progress.items c.args.self.now c.self.invariant c.self.view_is c.args.count c.requires
    c.args.claim c.in_ok-tag.tag c.in_ok-tag.ensures.leader f.0 f.1 in
    let slots = c.self.invariant.slots_are in
    let many = c.self.invariant.progress_is in
    let number = c.from.ensures in omega arith

pub invariant_of-self-then-count-eq1 : goal.invariant_of-self-then-count-eq1
invariant_of-self-then-count-eq1 c =
    let i = c.self.inside in
    let f = given-found i.head i.phase i.tags i.progress.items c.args.self.now c.self.invariant c.self.view_is c.args.count c.requires
    c.in_ok-tag.tag c.in_ok-tag.ensures.leader in
    let one = given-one i.head i.phase i.tags i.progress.items c.args.self.now c.self.invariant c.self.view_is c.args.count c.requires
    c.args.claim c.in_ok-tag.tag c.in_ok-tag.ensures.leader f.0 f.1 c.if-count-eq1.true in
    given-whole i.head i.phase i.tags i.progress.items c.args.self.now c.self.invariant c.self.view_is c.args.count c.requires
    c.args.claim c.in_ok-tag.tag c.in_ok-tag.ensures.leader f.0 f.1 c.claim_group.new.self _ (c.in_ok-tag.ensures.some f.0 f.1)
    (ap (λ (reads : List ReadDone). set i.progress.items c.from.result (progress.Reading reads)) c.new.ensures
    ∙ ap (λ (k : ℕ). set i.progress.items k (progress.Reading [])) c.from.ensures
    ∙ sym (ap (λ (ts : List ℕ). set_each ts (progress.Reading []) i.progress.items) one))

pub returns-then-count-eq1-clause-tag : goal.returns-then-count-eq1-clause-tag
returns-then-count-eq1-clause-tag c =
    let i = c.self.inside in
    given-leader i.head i.phase i.tags i.progress.items c.args.self.now c.self.invariant c.self.view_is c.args.count c.requires _ c.in_ok-tag.ensures.leader

pub returns-then-count-eq1-clause-some : goal.returns-then-count-eq1-clause-some
returns-then-count-eq1-clause-some c = λ tags found.
    let i = c.self.inside in
    let its = given-tags i.head i.phase i.tags i.progress.items c.args.self.now c.self.invariant c.self.view_is c.args.count c.requires tags found in
    let one = given-one i.head i.phase i.tags i.progress.items c.args.self.now c.self.invariant c.self.view_is c.args.count c.requires
    c.args.claim c.in_ok-tag.tag c.in_ok-tag.ensures.leader tags its c.if-count-eq1.true in
    given-changed i.head i.phase i.tags i.progress.items c.args.self.now c.self.invariant c.self.view_is c.args.count c.requires
    c.args.claim c.in_ok-tag.tag c.in_ok-tag.ensures.leader tags its c.claim_group.new.self
    (set i.progress.items c.from.result (progress.Reading c.new.result)) (c.in_ok-tag.ensures.some tags its)
    (ap (λ (reads : List ReadDone). set i.progress.items c.from.result (progress.Reading reads)) c.new.ensures
    ∙ ap (λ (k : ℕ). set i.progress.items k (progress.Reading [])) c.from.ensures
    ∙ sym (ap (λ (ts : List ℕ). set_each ts (progress.Reading []) i.progress.items) one))
    ∙ ap (λ (d : Command). tags_changed tags (TakenTag d []) c.args.self.now)
    (given-lowest i.head i.phase i.tags i.progress.items c.args.self.now c.self.invariant c.self.view_is c.args.count c.requires
    c.args.claim c.in_ok-tag.tag c.in_ok-tag.ensures.leader tags its)

pub group-requires : goal.group-requires
group-requires c =
    let i = c.self.inside in
    let f = given-found i.head i.phase i.tags i.progress.items c.args.self.now c.self.invariant c.self.view_is c.args.count c.requires
    c.in_ok-tag.tag c.in_ok-tag.ensures.leader in
    record {
      leads =
          given-leads i.head i.phase i.tags i.progress.items c.args.self.now c.self.invariant c.self.view_is c.args.count c.requires
          c.args.claim c.in_ok-tag.tag c.in_ok-tag.ensures.leader f.0 f.1 c.claim_group.new.self (c.in_ok-tag.ensures.some f.0 f.1);
    }

pub read_nothing-requires : goal.read_nothing-requires
read_nothing-requires c =
    let i = c.self.inside in
    let f = given-found i.head i.phase i.tags i.progress.items c.args.self.now c.self.invariant c.self.view_is c.args.count c.requires
    c.in_ok-tag.tag c.in_ok-tag.ensures.leader in
    let its = given-group i.head i.phase i.tags i.progress.items c.args.self.now c.self.invariant c.self.view_is c.args.count c.requires
    c.args.claim c.in_ok-tag.tag c.in_ok-tag.ensures.leader f.0 f.1 c.claim_group.new.self (c.in_ok-tag.ensures.some f.0 f.1) in
    subst (All (λ (t : ℕ). t < vec_len i.progress)) (sym (c.group.ensures ∙ its))
    (λ k d within.
    (let below = all-below i.head i.phase i.tags i.progress.items c.args.self.now c.self.invariant c.self.view_is c.args.count c.requires
    c.args.claim c.in_ok-tag.tag c.in_ok-tag.ensures.leader f.0 f.1 k d within in
    let size = i.progress.ok.0 in omega arith))

pub invariant_of-self-2 : goal.invariant_of-self-2
invariant_of-self-2 c =
    let i = c.self.inside in
    let f = given-found i.head i.phase i.tags i.progress.items c.args.self.now c.self.invariant c.self.view_is c.args.count c.requires
    c.in_ok-tag.tag c.in_ok-tag.ensures.leader in
    let its = given-group i.head i.phase i.tags i.progress.items c.args.self.now c.self.invariant c.self.view_is c.args.count c.requires
    c.args.claim c.in_ok-tag.tag c.in_ok-tag.ensures.leader f.0 f.1 c.claim_group.new.self (c.in_ok-tag.ensures.some f.0 f.1) in
    given-whole i.head i.phase i.tags i.progress.items c.args.self.now c.self.invariant c.self.view_is c.args.count c.requires
    c.args.claim c.in_ok-tag.tag c.in_ok-tag.ensures.leader f.0 f.1 c.claim_group.new.self c.read_nothing.new.kept.items (c.in_ok-tag.ensures.some f.0 f.1)
    (c.read_nothing.ensures ∙ ap (λ (ts : List ℕ). set_each ts (progress.Reading []) i.progress.items) (c.group.ensures ∙ its))

pub returns-clause-tag : goal.returns-clause-tag
returns-clause-tag c =
    let i = c.self.inside in
    given-leader i.head i.phase i.tags i.progress.items c.args.self.now c.self.invariant c.self.view_is c.args.count c.requires _ c.in_ok-tag.ensures.leader

pub returns-clause-some : goal.returns-clause-some
returns-clause-some c = λ tags found.
    let i = c.self.inside in
    let given = given-tags i.head i.phase i.tags i.progress.items c.args.self.now c.self.invariant c.self.view_is c.args.count c.requires tags found in
    let its = given-group i.head i.phase i.tags i.progress.items c.args.self.now c.self.invariant c.self.view_is c.args.count c.requires
    c.args.claim c.in_ok-tag.tag c.in_ok-tag.ensures.leader tags given c.claim_group.new.self (c.in_ok-tag.ensures.some tags given) in
    given-changed i.head i.phase i.tags i.progress.items c.args.self.now c.self.invariant c.self.view_is c.args.count c.requires
    c.args.claim c.in_ok-tag.tag c.in_ok-tag.ensures.leader tags given c.claim_group.new.self c.read_nothing.new.kept.items (c.in_ok-tag.ensures.some tags given)
    (c.read_nothing.ensures ∙ ap (λ (ts : List ℕ). set_each ts (progress.Reading []) i.progress.items) (c.group.ensures ∙ its))
    ∙ ap (λ (d : Command). tags_changed tags (TakenTag d []) c.args.self.now)
    (given-lowest i.head i.phase i.tags i.progress.items c.args.self.now c.self.invariant c.self.view_is c.args.count c.requires
    c.args.claim c.in_ok-tag.tag c.in_ok-tag.ensures.leader tags given)
