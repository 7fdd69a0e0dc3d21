-- A command that was taken ends in all its tags.
use Rattle.std.proofs.Common.{◌≡◌, ℕ, ◌+◌, Bool, List, [], ◌∷◌, MatchOption, get_or, slice_get, Option, Some, None}
use Rattle.std.proofs.Common.{All, arith, sym, ap, ◌∙◌, subst}
use Rattle.std.proofs.lemmas.List.Elements.{All-tail}
use Rattle.nv_core.specs.Groups.{all_ended, tags_changed}
use Rattle.nv_core.specs.Handing.{IsRising}
use Rattle.nv_core.specs.Tags.{IsTaken, IsWhole, command_at, state_in, tags_of}
use Rattle.nv_core.specs.declared.progress.Progress.{Progress}
use Rattle.nv_core.proofs.GroupTags.{group-front, lane-group, others-members, others-rise, others_of, rising-above, rising-lower}
use Rattle.nv_core.proofs.LaneTags.{lane-command, lane-taken, seen}
use Rattle.nv_core.proofs.TagLists.{get-other}
use Rattle.nv_entry.specs.Status.{StatusField}
use Rattle.nv_entry.specs.StatusCode.{done_with}
use Rattle.nv_entry.specs.declared.status_code.StatusCode.TheVariants.{Success}
use Rattle.nv_model.specs.Transcript.{ReadDone}
use Rattle.nv_tags.specs.Tags.{Slot, command_in, group, slot_at}
use Rattle.nv_tags.specs.declared.state.TagState.TheVariants as state
use Rattle.nv_world_model.specs.World.{Command, Ended, Lane, Tag, Taken, group_in, tag_changed}

-- a tag of a command that was taken
abbrev pub IsTakenOf : Command → Option Tag → Type 0
IsTakenOf command t = (reads : List ReadDone) × (t ≡ Some (Taken command reads))

abbrev pub AreTakenOf : Command → Lane → (tags : List ℕ) → Type 0
AreTakenOf command l tags = All (λ u. IsTakenOf command (slice_get l.tags u)) tags

-- the first of some was taken off
pub popped : (first : Option ℕ) (all left : List ℕ) (tag : ℕ) (others : List ℕ) → all ≡ tag ∷ others
    → MatchOption first (all ≡ []) (λ t. all ≡ t ∷ left) → left ≡ others
popped None all left tag others is none = (let never : [] ≡ tag ∷ others = sym none ∙ is in cc)
popped (Some t) all left tag others is some = (let same : t ∷ left ≡ tag ∷ others = sym some ∙ is in cc)

-- ---- at the start

module _ (head : ℕ) (phase : Bool) (slots : List Slot) (ps : List Progress) (old : Lane) (whole : IsWhole head slots ps)
    (view : (let l : Lane = record { head = head; phase = phase; tags = tags_of slots ps } in l) ≡ old)
    (tag : ℕ) (t : IsTaken tag (slice_get old.tags tag)) where
  pub its-command : command_in (slot_at slots tag) ≡ Some t.command
  its-command = lane-command head phase slots ps old whole view tag t.command (ap command_at t.is)

  -- its other tags
  pub others : List ℕ
  others = others_of head slots ps whole tag t.command its-command t.led

  pub taken-front : group tag slots ≡ tag ∷ others
  unfolding others
  taken-front = group-front head slots ps whole tag t.command its-command t.led

  pub group-is : group_in (Some old) tag ≡ tag ∷ others
  group-is = lane-group head phase slots ps old whole view tag ∙ taken-front

  pub taken-rise : IsRising (tag + 1) others
  unfolding others
  taken-rise = others-rise head slots ps whole tag t.command its-command t.led

  pub others-taken : All (λ u. state_in (slice_get old.tags u) ≡ Some state.Taken) (group_in (Some old) tag) → AreTakenOf t.command old others
  unfolding others
  others-taken together = λ k d within.
      (let of : List ℕ = others_of head slots ps whole tag t.command its-command t.led in
      let u : ℕ = get_or of k d in
      let rest = All-tail (λ u. state_in (slice_get old.tags u) ≡ Some state.Taken) tag of
      (subst (λ (xs : List ℕ). All (λ u. state_in (slice_get old.tags u) ≡ Some state.Taken) xs) group-is together) in
      let at = lane-taken head phase slots ps old whole view u (rest k d within) in
      let its = (others-members head slots ps whole tag t.command its-command t.led k d within).its in
      let whose : Some at.command ≡ Some t.command = sym (ap command_in at.slot_is) ∙ its in
      let same : at.command ≡ t.command = cc in (
        at.reads,
        ap (λ (ts : List Tag). slice_get ts u) (sym (seen head phase slots ps old whole view)) ∙ at.is
            ∙ ap (λ (c : Command). Some (Taken c at.reads)) same,
      ))

  -- the first of the group was taken off
  module _ (first : Option ℕ) (all left : List ℕ) (are : all ≡ group_in (Some old) tag) (off : MatchOption first (all ≡ []) (λ u. all ≡ u ∷ left)) where
    left-is : left ≡ others
    left-is = popped first all left tag others (are ∙ group-is) off

    pub start-group : group_in (Some old) tag ≡ tag ∷ left
    start-group = group-is ∙ ap (λ (xs : List ℕ). tag ∷ xs) (sym left-is)

    pub start-behind : IsRising (tag + 1) left
    start-behind = subst (IsRising (tag + 1)) (sym left-is) taken-rise

    pub start-rise : IsRising 0 left
    start-rise = rising-lower 0 (tag + 1) left (omega arith) start-behind

    pub start-taken : All (λ u. state_in (slice_get old.tags u) ≡ Some state.Taken) (group_in (Some old) tag) → AreTakenOf t.command old left
    start-taken together = subst (AreTakenOf t.command old) (sym left-is) (others-taken together)

-- one command is that of a tag, and goes by it
pub its-led : (tag : ℕ) (o : Option Tag) (command : Command) (reads : List ReadDone) → IsTaken tag o → o ≡ Some (Taken command reads) → command.leader ≡ tag
its-led tag o command reads t there =
    let both : Some (Taken t.command t.reads) ≡ Some (Taken command reads) = sym t.is ∙ there in
    let same : t.command ≡ command = cc in
    sym (ap (λ (c : Command). c.leader) same) ∙ t.led

-- none was left
pub none-left : (first : Option ℕ) (all left : List ℕ) → first ≡ None → MatchOption first (all ≡ []) (λ t. all ≡ t ∷ left) → all ≡ []
none-left None all left is none = none
none-left (Some t) all left is some = cc

-- ---- tag by tag

-- the tags of which one was changed that is none of these
taken-behind : (command : Command) (l : Lane) (at : ℕ) (t : Tag) (tags : List ℕ) → IsRising (at + 1) tags → AreTakenOf command l tags
    → AreTakenOf command (tag_changed at t l) tags
taken-behind command l at t tags rise taken = λ k d within.
    let above = rising-above (at + 1) tags rise k d within in
    let was = taken k d within in
    (was.0, get-other l.tags at (get_or tags k d) t (λ same. absurd (omega arith)) ∙ was.1)

pub first-taken : (command : Command) (l : Lane) (tag : ℕ) (tags left : List ℕ) → tags ≡ tag ∷ left → AreTakenOf command l tags
    → IsTakenOf command (slice_get l.tags tag)
first-taken command l tag tags left are taken =
    subst (AreTakenOf command l) are taken 0 0 (omega arith)

module _ (command : Command) (l new : Lane) (at : ℕ) (tags left : List ℕ) (st : StatusField) (are : tags ≡ at ∷ left) (rise : IsRising 0 tags)
    (taken : AreTakenOf command l tags)
    (changed : (c : Command) (reads : List ReadDone) → slice_get l.tags at ≡ Some (Taken c reads) → new ≡ tag_changed at (Ended c st None) l)
    (success : st ≡ done_with Success) where
  step-rises : IsRising (at + 1) left
  step-rises = (let all : IsRising 0 (at ∷ left) = subst (IsRising 0) are rise in all.1)

  pub left-rises : IsRising 0 left
  left-rises = rising-lower 0 (at + 1) left (omega arith) step-rises

  now : new ≡ tag_changed at (Ended command (done_with Success) None) l
  now =
      (let first = first-taken command l at tags left are taken in
      changed command first.0 first.1 ∙ ap (λ (s : StatusField). tag_changed at (Ended command s None) l) success)

  pub left-taken : AreTakenOf command new left
  left-taken =
      subst (λ (x : Lane). AreTakenOf command x left) (sym now)
      (taken-behind command l at (Ended command (done_with Success) None) left step-rises
      (All-tail (λ u. IsTakenOf command (slice_get l.tags u)) at left (subst (AreTakenOf command l) are taken)))

  pub left-goes : tags_changed left (Ended command (done_with Success) None) new ≡ tags_changed tags (Ended command (done_with Success) None) l
  left-goes =
      ap (tags_changed left (Ended command (done_with Success) None)) now
      ∙ sym (ap (λ (ts : List ℕ). tags_changed ts (Ended command (done_with Success) None) l) are)

-- the first tag, which gets the status
module _ (l new : Lane) (tag : ℕ) (others : List ℕ) (st : StatusField) (rise : IsRising (tag + 1) others)
    (changed : (c : Command) (reads : List ReadDone) → slice_get l.tags tag ≡ Some (Taken c reads) → new ≡ tag_changed tag (Ended c st None) l) where
  pub first-behind : (command : Command) (reads : List ReadDone) → slice_get l.tags tag ≡ Some (Taken command reads) → AreTakenOf command l others
      → AreTakenOf command new others
  first-behind command reads there taken =
      subst (λ (x : Lane). AreTakenOf command x others) (sym (changed command reads there))
      (taken-behind command l tag (Ended command st None) others rise taken)

  pub first-goes : (group : List ℕ) (command : Command) (reads : List ReadDone) → slice_get l.tags tag ≡ Some (Taken command reads) → group ≡ tag ∷ others
      → tags_changed others (Ended command (done_with Success) None) new ≡ all_ended group command st l
  first-goes group command reads there are =
      ap (tags_changed others (Ended command (done_with Success) None)) (changed command reads there)
      ∙ sym (ap (λ (ts : List ℕ). all_ended ts command st l) are)
