-- How many tags of a lane are a guest's, by their slots.
use Rattle.std.proofs.Common.{◌≡◌, ℕ, suc, ◌+◌, arith, cond, Bool, true, false, List, [], ◌∷◌, length, map, Some, refl, sym, ap, ◌∙◌}
use Rattle.std.proofs.lemmas.List.Sums.{sum_by-cons}
use Rattle.std.specs.List.{count_by, enumerate_from, filter}
use Rattle.nv_core.specs.Held.{held_in, is_of}
use Rattle.nv_core.specs.Tags.{IsUsed, IsWhole, tag_made, tags_of}
use Rattle.nv_core.specs.declared.progress.Progress.{Progress}
use Rattle.nv_core.proofs.GroupTags.{lane-where}
use Rattle.nv_core.proofs.TagLists.{made-at}
use Rattle.nv_tags.specs.Tags.{Slot, tags_where}
use Rattle.nv_tags.specs.Tags as slot
use Rattle.nv_world_model.specs.World.{Lane, Tag}

made-held : (kept : List Progress) (s : Slot) (p : Progress) (guest : ℕ) → IsUsed kept s p → is_of guest (tag_made kept s p) ≡ slot.is_of guest s
made-held kept slot.Free p guest is = refl
made-held kept (slot.Used command slot.Taken) p guest is = ap (is_of guest) (made-at kept command slot.Taken p is).1
made-held kept (slot.Used command slot.Flying) p guest is = ap (is_of guest) (made-at kept command slot.Flying p is).1.1
made-held kept (slot.Used command (slot.Ended st)) p guest is = ap (is_of guest) (made-at kept command (slot.Ended st) p is).1

-- one more in front
pub count-cons : {X : Type 0} (p : X → Bool) (x : X) (xs : List X) → count_by p (x ∷ xs) ≡ cond (p x) 1 0 + count_by p xs
count-cons p x xs = sum_by-cons (λ y. cond (p y) 1 0) x xs

-- as many numbers as tags
abbrev pub numbers : (test : Tag → Bool) (from : ℕ) → List Tag → List ℕ
numbers test from tags = map (λ (u : ℕ × Tag). u.0) (filter (λ (u : ℕ × Tag). test u.1) (enumerate_from from tags))

-- one in front, or not
pub in-front : (test : Tag → Bool) (from : ℕ) (t : Tag) (tags : List Tag) (b : Bool) → test t ≡ b
    → numbers test from (t ∷ tags) ≡ cond b (from ∷ numbers test (from + 1) tags) (numbers test (from + 1) tags)
in-front test from t tags true is =
    let rest : List (ℕ × Tag) = filter (λ (v : ℕ × Tag). test v.1) (enumerate_from (from + 1) tags) in
    ap (λ (x : Bool). map (λ (v : ℕ × Tag). v.0) (cond x ((from, t) ∷ rest) rest)) is
in-front test from t tags false is =
    let rest : List (ℕ × Tag) = filter (λ (v : ℕ × Tag). test v.1) (enumerate_from (from + 1) tags) in
    ap (λ (x : Bool). map (λ (v : ℕ × Tag). v.0) (cond x ((from, t) ∷ rest) rest)) is

one-more : (test : Tag → Bool) (from : ℕ) (t : Tag) (tags : List Tag) (b : Bool) → test t ≡ b → length (numbers test (from + 1) tags) ≡ count_by test tags
    → length (numbers test from (t ∷ tags)) ≡ count_by test (t ∷ tags)
one-more test from t tags true is n =
    let rest : List (ℕ × Tag) = filter (λ (u : ℕ × Tag). test u.1) (enumerate_from (from + 1) tags) in
    let here : length (numbers test from (t ∷ tags)) ≡ suc (length (numbers test (from + 1) tags)) =
    ap (λ (x : Bool). length (map (λ (u : ℕ × Tag). u.0) (cond x ((from, t) ∷ rest) rest))) is in
    let counted : count_by test (t ∷ tags) ≡ 1 + count_by test tags =
    count-cons test t tags ∙ ap (λ (x : Bool). cond x 1 0 + count_by test tags) is in
    omega (arith, n, here, counted)
one-more test from t tags false is n =
    let rest : List (ℕ × Tag) = filter (λ (u : ℕ × Tag). test u.1) (enumerate_from (from + 1) tags) in
    let here : length (numbers test from (t ∷ tags)) ≡ length (numbers test (from + 1) tags) =
    ap (λ (x : Bool). length (map (λ (u : ℕ × Tag). u.0) (cond x ((from, t) ∷ rest) rest))) is in
    let counted : count_by test (t ∷ tags) ≡ 0 + count_by test tags =
    count-cons test t tags ∙ ap (λ (x : Bool). cond x 1 0 + count_by test tags) is in
    omega (arith, n, here, counted)

pub numbers-count : (test : Tag → Bool) (from : ℕ) (tags : List Tag) → length (numbers test from tags) ≡ count_by test tags
numbers-count test from [] = refl
numbers-count test from (t ∷ tags) = one-more test from t tags (test t) refl (numbers-count test (from + 1) tags)

module _ (head : ℕ) (phase : Bool) (slots : List Slot) (ps : List Progress) (old : Lane) (whole : IsWhole head slots ps)
    (view : (let l : Lane = record { head = head; phase = phase; tags = tags_of slots ps } in l) ≡ old) where
  pub held-there : (guest : ℕ) → length (tags_where (slot.is_of guest) slots) ≡ held_in guest (Some old)
  held-there guest =
      ap length (sym (lane-where head phase slots ps old whole view (is_of guest) (slot.is_of guest) (λ s p is. made-held ps s p guest is)))
      ∙ numbers-count (is_of guest) 0 old.tags
