-- What the statuses of a command's tags decide.
use Rattle.std.proofs.Common.{◌≡◌, ℕ, ◌<◌, cond, Bool, true, false, List, [], ◌∷◌, MatchOption, Option, Some, None, refl, slice_get, sym, ap, ◌∙◌}
use Rattle.std.specs.Option.{option_map}
use Rattle.nv_core.specs.Groups.{statuses_in}
use Rattle.nv_core.specs.Tags.{IsWhole, state_in, tags_of}
use Rattle.nv_core.specs.declared.progress.Progress.{Progress}
use Rattle.nv_core.proofs.AnsweredTags.{popped}
use Rattle.nv_core.proofs.GroupTags.{group-front, lane-group, others_of}
use Rattle.nv_core.proofs.LaneTags.{lane-state}
use Rattle.nv_entry.specs.Status.{StatusField}
use Rattle.nv_laws_sound.proofs.Lists.{some-same}
use Rattle.nv_tags.specs.Tags.{Slot, command_in, ended_with, slot_at, state_at}
use Rattle.nv_tags.specs.declared.state.TagState.{TagState}
use Rattle.nv_world_model.specs.Area.{tag_count}
use Rattle.nv_world_model.specs.Step.{deciding, ended_status, is_success, status_before}
use Rattle.nv_world_model.specs.World.{Command, Ended, Flying, Free, Lane, Tag, Taken, group_in}

-- ---- one status more

pub decided-first : (st : StatusField) (o : Option (List StatusField))
    → option_map (λ (sts : List StatusField). deciding (st ∷ sts)) o ≡ option_map deciding (status_before (Some st) o)
decided-first st None = refl
decided-first st (Some sts) = refl

decided-two : (first second : StatusField) (sts : List StatusField) (b : Bool) → is_success first ≡ b
    → deciding (cond b second first ∷ sts) ≡ deciding (first ∷ second ∷ sts)
decided-two first second sts true is = sym (ap (λ (b : Bool). cond b (deciding (second ∷ sts)) first) is)
decided-two first second sts false is =
    ap (λ (b : Bool). cond b (deciding sts) first) is ∙ sym (ap (λ (b : Bool). cond b (deciding (second ∷ sts)) first) is)

pub decided-next : (first second now : StatusField) (o : Option (List StatusField)) → now ≡ cond (is_success first) second first
    → option_map (λ (sts : List StatusField). deciding (now ∷ sts)) o
    ≡ option_map (λ (sts : List StatusField). deciding (first ∷ sts)) (status_before (Some second) o)
decided-next first second now None is = refl
decided-next first second now (Some sts) is =
    ap (λ (st : StatusField). Some (deciding (st ∷ sts))) is
    ∙ ap (λ (st : StatusField). Some st) (decided-two first second sts (is_success first) refl)

-- ---- the status of a tag

ended-told : (t : Option Tag) (s : TagState) → Some s ≡ state_in t → ended_with s ≡ ended_status t
ended-told None s is = cc
ended-told (Some Free) s is = ap ended_with (some-same s _ is)
ended-told (Some (Taken command reads)) s is = ap ended_with (some-same s _ is)
ended-told (Some (Flying command share standing)) s is = ap ended_with (some-same s _ is)
ended-told (Some (Ended command st share)) s is = ap ended_with (some-same s _ is)

module _ (head : ℕ) (phase : Bool) (slots : List Slot) (ps : List Progress) (old : Lane) (whole : IsWhole head slots ps)
    (view : (let l : Lane = record { head = head; phase = phase; tags = tags_of slots ps } in l) ≡ old) where
  pub told-status : (tag : ℕ) (s : TagState) (o : Option StatusField) → tag < tag_count → s ≡ state_at slots tag → o ≡ ended_with s
      → o ≡ ended_status (slice_get old.tags tag)
  told-status tag s o below is told =
      told ∙ ended-told (slice_get old.tags tag) s (ap (λ (x : TagState). Some x) is ∙ lane-state head phase slots ps old whole view tag below)

  -- the first of the group was taken off
  pub front-left : (tag : ℕ) (command : Command) → command_in (slot_at slots tag) ≡ Some command → command.leader ≡ tag
      → (first : Option ℕ) (all left : List ℕ) → all ≡ group_in (Some old) tag → MatchOption first (all ≡ []) (λ u. all ≡ u ∷ left)
      → group_in (Some old) tag ≡ tag ∷ left
  front-left tag command whose led first all left are off =
      let is = lane-group head phase slots ps old whole view tag ∙ group-front head slots ps whole tag command whose led in
      is ∙ ap (λ (xs : List ℕ). tag ∷ xs) (sym (popped first all left tag (others_of head slots ps whole tag command whose led) (are ∙ is) off))

-- ---- statuses of tags in order

pub statuses-front : (l : Lane) (tag : ℕ) (tags left : List ℕ) (st : Option StatusField) → tags ≡ tag ∷ left → st ≡ ended_status (slice_get l.tags tag)
    → statuses_in tags l ≡ status_before st (statuses_in left l)
statuses-front l tag tags left st are is =
    ap (λ (xs : List ℕ). statuses_in xs l) are ∙ ap (λ (o : Option StatusField). status_before o (statuses_in left l)) (sym is)
