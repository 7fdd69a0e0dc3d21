-- A guest's commands behind a change of one tag.
use Rattle.std.proofs.Common.{◌≡◌, ℕ, ◌/◌, ◌%◌, ◌<◌, ◌⊎◌, inl, inr, false, ◌==◌, List, set, slice_get, Some, arith, sym, ap, ◌∙◌, subst}
use Rattle.std.proofs.lemmas.Bool.{cases_eq, ne_eqb}
use mathlib.Core.Path.{fun_ext}
use Rattle.nv_model.specs.Private.{Bag, put}
use Rattle.nv_model.specs.Running.{IsConsistent as IsRunningWith}
use Rattle.nv_model.proofs.Bags.{put-elsewhere, put-here}
use Rattle.nv_world_model.specs.Area.{tag_count}
use Rattle.nv_world_model.specs.Geometry.{Geometry}
use Rattle.nv_world_model.specs.Seat.{name_of}
use Rattle.nv_world_model.specs.World.{Lane, Tag, World, tag_in}
use Rattle.nv_world_model.proofs.Seats.{slice_get-set, slice_get-set-other}
use Rattle.nv_laws_sound.specs.Counted.{IsCounted, command_in, commands}

-- ---- one tag changed

module _ (lanes : List Lane) (lane tag : ℕ) (l now : Lane) (t new : Tag) (at : slice_get lanes lane ≡ Some l) (found : slice_get l.tags tag ≡ Some t)
    (changed : now.tags ≡ set l.tags tag new) where
  -- the tag is there
  pub tag-here : tag_in (slice_get (set lanes lane now) lane) tag ≡ Some new
  tag-here =
      ap (λ o. tag_in o tag) (slice_get-set lanes lane l now at) ∙ ap (λ ts. slice_get ts tag) changed ∙ slice_get-set l.tags tag t new found

  -- the others are as they were
  tag-of-lane : (b : ℕ) → (b == tag) ≡ false → tag_in (slice_get (set lanes lane now) lane) b ≡ tag_in (slice_get lanes lane) b
  tag-of-lane b apart =
      ap (λ o. tag_in o b) (slice_get-set lanes lane l now at) ∙ ap (λ ts. slice_get ts b) changed ∙ slice_get-set-other l.tags tag b new apart
      ∙ sym (ap (λ o. tag_in o b) at)

  pub tag-elsewhere : (a b : ℕ) → ((a ≡ lane) → (b ≡ tag) → ⊥) → tag_in (slice_get (set lanes lane now) a) b ≡ tag_in (slice_get lanes a) b
  tag-elsewhere a b apart =
      elim (cases_eq a lane) [
        | inl same ↦
            subst (λ n. tag_in (slice_get (set lanes lane now) n) b ≡ tag_in (slice_get lanes n) b) (sym same)
            (tag-of-lane b (ne_eqb b tag (apart same)))
        | inr other ↦ ap (λ o. tag_in o b) (slice_get-set-other lanes lane a now (ne_eqb a lane other))
      ]

  -- where it has the same command, each has
  same-by : (number a b : ℕ) → command_in (Some new) tag number ≡ command_in (Some t) tag number
      → (a ≡ lane) ⊎ (a ≡ lane → ⊥) → (b ≡ tag) ⊎ (b ≡ tag → ⊥)
      → command_in (tag_in (slice_get (set lanes lane now) a) b) b number ≡ command_in (tag_in (slice_get lanes a) b) b number
  same-by number a b same (inl here) (inl there) =
      subst (λ x. command_in (tag_in (slice_get (set lanes lane now) x) b) b number ≡ command_in (tag_in (slice_get lanes x) b) b number) (sym here)
      (subst (λ x. command_in (tag_in (slice_get (set lanes lane now) lane) x) x number ≡ command_in (tag_in (slice_get lanes lane) x) x number) (sym there)
      (ap (λ o. command_in o tag number) tag-here ∙ same ∙ sym (ap (λ o. command_in o tag number) (ap (λ o. tag_in o tag) at ∙ found))))
  same-by number a b same (inl here) (inr other) = ap (λ o. command_in o b number) (tag-elsewhere a b (λ _ there. other there))
  same-by number a b same (inr other) any = ap (λ o. command_in o b number) (tag-elsewhere a b (λ here _. other here))

  pub same-commands : (w z : World) (number : ℕ) → w.lanes ≡ lanes → z.lanes ≡ set lanes lane now
      → command_in (Some new) tag number ≡ command_in (Some t) tag number → commands z number ≡ commands w number
  unfolding commands
  same-commands w z number was is same =
      fun_ext (λ name.
      ap (λ ls. command_in (tag_in (slice_get ls (name / tag_count)) (name % tag_count)) (name % tag_count) number) is
      ∙ same-by number (name / tag_count) (name % tag_count) same (cases_eq (name / tag_count) lane) (cases_eq (name % tag_count) tag)
      ∙ sym (ap (λ ls. command_in (tag_in (slice_get ls (name / tag_count)) (name % tag_count)) (name % tag_count) number) was))

  -- otherwise the tag's name has the new one
  put-by : (number name : ℕ) → tag < tag_count → (name ≡ name_of lane tag) ⊎ (name ≡ name_of lane tag → ⊥) → (bag : Bag)
      → ((n : ℕ) → bag n ≡ command_in (tag_in (slice_get lanes (n / tag_count)) (n % tag_count)) (n % tag_count) number)
      → command_in (tag_in (slice_get (set lanes lane now) (name / tag_count)) (name % tag_count)) (name % tag_count) number ≡ put bag (name_of lane tag) (command_in (Some new) tag number) name
  put-by number name below (inl same) bag was =
      let in_lane : name / tag_count ≡ lane = omega (arith, same, below) in
      let in_tag : name % tag_count ≡ tag = omega (arith, same, below) in
      ap (λ a. command_in (tag_in (slice_get (set lanes lane now) a) (name % tag_count)) (name % tag_count) number) in_lane
      ∙ ap (λ b. command_in (tag_in (slice_get (set lanes lane now) lane) b) b number) in_tag
      ∙ ap (λ o. command_in o tag number) tag-here
      ∙ sym (ap (λ n. put bag (name_of lane tag) (command_in (Some new) tag number) n) same ∙ put-here bag (name_of lane tag) (command_in (Some new) tag number))
  put-by number name below (inr other) bag was =
      ap (λ o. command_in o (name % tag_count) number) (tag-elsewhere (name / tag_count) (name % tag_count) (λ here there. other (omega (arith, here, there))))
      ∙ sym (was name) ∙ sym (put-elsewhere bag (name_of lane tag) (command_in (Some new) tag number) name other)

  pub put-commands : (w z : World) (number : ℕ) → tag < tag_count → w.lanes ≡ lanes → z.lanes ≡ set lanes lane now
      → commands z number ≡ put (commands w number) (name_of lane tag) (command_in (Some new) tag number)
  unfolding commands
  put-commands w z number below was is =
      fun_ext (λ name.
      ap (λ ls. command_in (tag_in (slice_get ls (name / tag_count)) (name % tag_count)) (name % tag_count) number) is
      ∙ put-by number name below (cases_eq name (name_of lane tag)) (commands w number)
      (λ n. ap (λ ls. command_in (tag_in (slice_get ls (n / tag_count)) (n % tag_count)) (n % tag_count) number) was))

-- ---- worlds with the same commands

-- each controller counts them still
pub counted-same : (geometry : Geometry) (w z : World) → z.controllers ≡ w.controllers → ((number : ℕ) → commands z number ≡ commands w number)
    → IsCounted geometry w → IsCounted geometry z
counted-same geometry w z controllers same is =
    record {
      running = (λ number guest c given at.
          subst (IsRunningWith c) (sym (same number)) (is.running number guest c given (sym (ap (λ cs. slice_get cs number) controllers) ∙ at)));
    }
