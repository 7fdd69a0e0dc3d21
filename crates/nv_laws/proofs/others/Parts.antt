-- What is left of others' tags, and of what the device holds of them, where one tag of the owner's changes.
use Rattle.std.proofs.Common.{◌≡◌, ℕ, ◌⊎◌, inl, inr, false, cond, List, set, slice_get, Option, Some, None, refl, sym, ap, ◌∙◌, subst}
use Rattle.std.specs.Prelude.{◌≢◌}
use Rattle.std.proofs.lemmas.Bool.{cases_eq, ne_eqb}
use Rattle.nv_world_model.specs.Device.{DeviceLane, Held}
use Rattle.nv_world_model.specs.Seat.{held_by, held_in}
use Rattle.nv_world_model.specs.View.{guest_of_tag, is_tag_of, own_held, own_tag}
use Rattle.nv_world_model.specs.World.{Ended, Flying, Free, Lane, Tag, Taken, tag_in}
use Rattle.nv_world_model.proofs.Seats.{slice_get-set, slice_get-set-other}
use Rattle.nv_laws_sound.proofs.Commands.{tag-elsewhere, tag-here}

-- ---- whose a tag is

-- a tag of an owner's is no other's
pub tag-apart : (whose : Option ℕ) (number : ℕ) (t : Tag) → guest_of_tag t ≡ whose → whose ≢ Some number → is_tag_of number (Some t) ≡ false
tag-apart whose number Free is differ = refl
tag-apart whose number (Taken command reads) is differ = ne_eqb command.guest number (λ same. differ (sym is ∙ ap (λ n. Some n) same))
tag-apart whose number (Flying command share standing) is differ = ne_eqb command.guest number (λ same. differ (sym is ∙ ap (λ n. Some n) same))
tag-apart whose number (Ended command st share) is differ = ne_eqb command.guest number (λ same. differ (sym is ∙ ap (λ n. Some n) same))

-- ---- one tag changed

module _ (number : ℕ) (lanes : List Lane) (lane tag : ℕ) (l now : Lane) (t new : Tag) (at : slice_get lanes lane ≡ Some l)
    (found : slice_get l.tags tag ≡ Some t) (changed : now.tags ≡ set l.tags tag new) (was : is_tag_of number (Some t) ≡ false)
    (is : is_tag_of number (Some new) ≡ false) where
  there : tag_in (slice_get lanes lane) tag ≡ Some t
  there = ap (λ o. tag_in o tag) at ∙ found

  here : tag_in (slice_get (set lanes lane now) lane) tag ≡ Some new
  here = tag-here lanes lane tag l now t new at found changed

  tags-by : (a b : ℕ) → (a ≡ lane) ⊎ (a ≡ lane → ⊥) → (b ≡ tag) ⊎ (b ≡ tag → ⊥)
      → own_tag number (tag_in (slice_get lanes a) b) ≡ own_tag number (tag_in (slice_get (set lanes lane now) a) b)
  tags-by a b (inl same) (inl also) =
      subst (λ n. own_tag number (tag_in (slice_get lanes n) b) ≡ own_tag number (tag_in (slice_get (set lanes lane now) n) b)) (sym same)
      (subst (λ n. own_tag number (tag_in (slice_get lanes lane) n) ≡ own_tag number (tag_in (slice_get (set lanes lane now) lane) n)) (sym also)
      (ap (own_tag number) there ∙ ap (λ x. cond x (Some t) None) was ∙ sym (ap (own_tag number) here ∙ ap (λ x. cond x (Some new) None) is)))
  tags-by a b (inl same) (inr other) = sym (ap (own_tag number) (tag-elsewhere lanes lane tag l now t new at found changed a b (λ _ also. other also)))
  tags-by a b (inr other) any = sym (ap (own_tag number) (tag-elsewhere lanes lane tag l now t new at found changed a b (λ same _. other same)))

  pub tags-left : (a b : ℕ) → own_tag number (tag_in (slice_get lanes a) b) ≡ own_tag number (tag_in (slice_get (set lanes lane now) a) b)
  tags-left a b = tags-by a b (cases_eq a lane) (cases_eq b tag)

  -- and what the device holds, where it holds the same of other tags
  helds-by : (old_held new_held : ℕ → ℕ → Option Held) → ((a b : ℕ) → ((a ≡ lane) → (b ≡ tag) → ⊥) → old_held a b ≡ new_held a b)
      → (a b : ℕ) → (a ≡ lane) ⊎ (a ≡ lane → ⊥) → (b ≡ tag) ⊎ (b ≡ tag → ⊥)
      → own_held number (tag_in (slice_get lanes a) b) (old_held a b) ≡ own_held number (tag_in (slice_get (set lanes lane now) a) b) (new_held a b)
  helds-by old_held new_held same_held a b (inl same) (inl also) =
      subst (λ n. own_held number (tag_in (slice_get lanes n) b) (old_held n b) ≡ own_held number (tag_in (slice_get (set lanes lane now) n) b) (new_held n b)) (sym same)
      (subst (λ n. own_held number (tag_in (slice_get lanes lane) n) (old_held lane n) ≡ own_held number (tag_in (slice_get (set lanes lane now) lane) n) (new_held lane n)) (sym also)
      (ap (λ o. own_held number o (old_held lane tag)) there ∙ ap (λ x. cond x (old_held lane tag) None) was
      ∙ sym (ap (λ o. own_held number o (new_held lane tag)) here ∙ ap (λ x. cond x (new_held lane tag) None) is)))
  helds-by old_held new_held same_held a b (inl same) (inr other) =
      ap (λ h. own_held number (tag_in (slice_get lanes a) b) h) (same_held a b (λ _ also. other also))
      ∙ sym (ap (λ o. own_held number o (new_held a b)) (tag-elsewhere lanes lane tag l now t new at found changed a b (λ _ also. other also)))
  helds-by old_held new_held same_held a b (inr other) any =
      ap (λ h. own_held number (tag_in (slice_get lanes a) b) h) (same_held a b (λ same _. other same))
      ∙ sym (ap (λ o. own_held number o (new_held a b)) (tag-elsewhere lanes lane tag l now t new at found changed a b (λ same _. other same)))

  pub helds-left : (old_held new_held : ℕ → ℕ → Option Held) → ((a b : ℕ) → ((a ≡ lane) → (b ≡ tag) → ⊥) → old_held a b ≡ new_held a b) → (a b : ℕ)
      → own_held number (tag_in (slice_get lanes a) b) (old_held a b) ≡ own_held number (tag_in (slice_get (set lanes lane now) a) b) (new_held a b)
  helds-left old_held new_held same_held a b = helds-by old_held new_held same_held a b (cases_eq a lane) (cases_eq b tag)

-- ---- the device's side of a lane changed

-- what the device holds elsewhere
pub device-elsewhere : (devices : List DeviceLane) (lane tag : ℕ) (d now : DeviceLane) → slice_get devices lane ≡ Some d
    → ((b : ℕ) → (b ≡ tag → ⊥) → slice_get now.held b ≡ slice_get d.held b) → (a b : ℕ) → ((a ≡ lane) → (b ≡ tag) → ⊥)
    → held_in (slice_get devices a) b ≡ held_in (slice_get (set devices lane now) a) b
device-elsewhere devices lane tag d now at same a b apart =
    elim (cases_eq a lane) [
      | inl here ↦
          subst (λ n. held_in (slice_get devices n) b ≡ held_in (slice_get (set devices lane now) n) b) (sym here)
          (ap (λ o. held_in o b) at ∙ sym (ap held_by (same b (apart here))) ∙ sym (ap (λ o. held_in o b) (slice_get-set devices lane d now at)))
      | inr other ↦ sym (ap (λ o. held_in o b) (slice_get-set-other devices lane a now (ne_eqb a lane other)))
    ]

-- one that is put elsewhere
pub held-put : (helds : List (Option Held)) (tag : ℕ) (x : Option Held) (b : ℕ) → (b ≡ tag → ⊥) → slice_get (set helds tag x) b ≡ slice_get helds b
held-put helds tag x b apart = slice_get-set-other helds tag b x (ne_eqb b tag apart)
