-- Several tags that are changed alike.
use Rattle.std.proofs.Common.{◌≡◌, ℕ, ◌<◌, ◌||◌, cond, Bool, true, false, inl, inr, List, [], ◌∷◌, length, set, slice_get, Option, Some}
use Rattle.std.proofs.Common.{refl, sym, ap, ◌∙◌, arith}
use Rattle.std.proofs.lemmas.Bool.{cases_eq, eq-eqb, ne_eqb}
use Rattle.nv_core.specs.Groups.{tags_changed}
use Rattle.nv_core.proofs.TagLists.{get-other, get-set}
use Rattle.nv_laws_sound.proofs.Lists.{length-set}
use Rattle.nv_tags.proofs.Rows.{is_among}
use Rattle.nv_tags.specs.Tags.{set_each}
use Rattle.nv_world_model.specs.World.{Lane, Tag, tag_changed}

-- one tag after the other, in a lane
pub changed-each : (tags : List ℕ) (t : Tag) (l : Lane) → (let new : Lane = record l { tags = set_each tags t l.tags } in new) ≡ tags_changed tags t l
changed-each [] t l = refl
changed-each (tag ∷ tags) t l = changed-each tags t (tag_changed tag t l)

-- what stands at a place then
either-way : {X : Type 0} (b : Bool) (x : X) → cond b x x ≡ x
either-way true x = refl
either-way false x = refl

pub get-each : {X : Type 0} (places : List ℕ) (x : X) (xs : List X) (i : ℕ) → i < length xs
    → slice_get (set_each places x xs) i ≡ cond (is_among places i) (Some x) (slice_get xs i)
get-each [] x xs i within = refl
get-each {X = X} (at ∷ places) x xs i within =
    (let behind = get-each places x (set xs at x) i (let long = length-set xs at x in omega arith) in
    elim (cases_eq i at) [
      | inl here ↦
          behind
          ∙ ap (λ (o : Option X). cond (is_among places i) (Some x) o) (ap (slice_get (set xs at x)) here ∙ get-set xs at x (omega arith))
          ∙ either-way (is_among places i) (Some x)
          ∙ sym (ap (λ (b : Bool). cond (b || is_among places i) (Some x) (slice_get xs i)) (eq-eqb at i (sym here)))
      | inr apart ↦
          behind
          ∙ ap (λ (o : Option X). cond (is_among places i) (Some x) o) (get-other xs at i x apart)
          ∙ sym (ap (λ (b : Bool). cond (b || is_among places i) (Some x) (slice_get xs i)) (ne_eqb at i (λ same. apart (sym same))))
    ])
