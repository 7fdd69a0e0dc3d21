-- The further parts of a plan, each in its tag.
use Rattle.std.proofs.Common.{◌≡◌, ℕ, zero, suc, ◌+◌, ◌≤◌, Bool, true, false, List, [], ◌∷◌, All, MatchOption, drop, get_or, length, set}
use Rattle.std.proofs.Common.{slice_get, Option, Some, None, inl, inr, refl, sym, ap, ◌∙◌, subst, arith}
use Rattle.std.proofs.lemmas.Bool.{cases_lt}
use Rattle.std.proofs.lemmas.List.Elements.{All-tail}
use Rattle.std.proofs.lemmas.Option.{slice_get_past}
use Rattle.nv_core.specs.Handing.{IsRising, part_kept, parts_kept, parts_slots, point_of}
use Rattle.nv_core.specs.declared.progress.Progress.{Progress}
use Rattle.nv_core.proofs.GroupTags.{rising-above, rising-from}
use Rattle.nv_core.proofs.TagLists.{get-other}
use Rattle.nv_tags.proofs.Rows.{among-holding, is_among}
use Rattle.nv_tags.specs.Tags.{Leads, Point, Slot, goes_by, group, moved_to, slot_at, slot_or_free, state_at, state_of, tags_where, with_point}
use Rattle.nv_tags.specs.declared.state.TagState.TheVariants as state
use Rattle.nv_world_model.specs.Share.{Share}
use Rattle.nv_world_model.specs.ShareArea.{is_no_command}

-- ---- parts that are left

pub drop-front : {X : Type 0} (xs : List X) (i : ℕ) (x : X) → slice_get xs i ≡ Some x → drop i xs ≡ x ∷ drop (i + 1) xs
drop-front [] i x e = cc
drop-front {X = X} (y ∷ ys) zero x e = (let same : y ≡ x = cc in ap (λ (z : X). z ∷ ys) same)
drop-front (y ∷ ys) (suc i) x e =
    (let next : suc (i + 1) ≡ suc i + 1 = omega arith in
    drop-front ys i x e ∙ ap (λ n. x ∷ drop n (y ∷ ys)) next)

pub drop-past : {X : Type 0} (xs : List X) (i : ℕ) → length xs ≤ i → drop i xs ≡ []
drop-past [] zero past = refl
drop-past [] (suc i) past = refl
drop-past (y ∷ ys) zero past = absurd (omega arith)
drop-past (y ∷ ys) (suc i) past = drop-past ys i (omega arith)

pub no-slots : (tags : List ℕ) (shares : List Share) (slots : List Slot) → shares ≡ [] → slots ≡ parts_slots tags shares slots
no-slots [] shares slots none = refl
no-slots (tag ∷ tags) [] slots none = refl
no-slots (tag ∷ tags) (share ∷ shares) slots none = cc

pub no-kept : (tags : List ℕ) (shares : List Share) (part : ℕ) (kept : List Progress) → shares ≡ [] → kept ≡ parts_kept tags shares part kept
no-kept [] shares part kept none = refl
no-kept (tag ∷ tags) [] part kept none = refl
no-kept (tag ∷ tags) (share ∷ shares) part kept none = cc

-- one part
pub one-slots : (tags left : List ℕ) (shares rest : List Share) (slots new : List Slot) (tag : ℕ) (share : Share) (nothing : Bool)
    → tags ≡ tag ∷ left → shares ≡ share ∷ rest → nothing ≡ is_no_command share → new ≡ with_point (point_of nothing) tag slots
    → parts_slots left rest new ≡ parts_slots tags shares slots
one-slots tags left shares rest slots new tag share nothing are parts is changed =
    ap (parts_slots left rest) (changed ∙ ap (λ (b : Bool). with_point (point_of b) tag slots) is)
    ∙ sym (ap (λ (ts : List ℕ). parts_slots ts shares slots) are ∙ ap (λ (ss : List Share). parts_slots (tag ∷ left) ss slots) parts)

pub one-kept : (tags left : List ℕ) (shares rest : List Share) (kept new : List Progress) (tag part : ℕ) (share : Share) (p : Progress) (nothing : Bool)
    → tags ≡ tag ∷ left → shares ≡ share ∷ rest → nothing ≡ is_no_command share → p ≡ part_kept nothing part → new ≡ set kept tag p
    → parts_kept left rest (part + 1) new ≡ parts_kept tags shares part kept
one-kept tags left shares rest kept new tag part share p nothing are parts is made changed =
    ap (parts_kept left rest (part + 1)) (changed ∙ ap (set kept tag) (made ∙ ap (λ (b : Bool). part_kept b part) is))
    ∙ sym (ap (λ (ts : List ℕ). parts_kept ts shares part kept) are ∙ ap (λ (ss : List Share). parts_kept (tag ∷ left) ss part kept) parts)

-- ---- tags that are left

pub left-rise : (tags left : List ℕ) (tag : ℕ) → tags ≡ tag ∷ left → IsRising 0 tags → IsRising (tag + 1) left
left-rise tags left tag are rise = (let all : IsRising 0 (tag ∷ left) = subst (IsRising 0) are rise in all.1)

pub moved-other : (slots : List Slot) (tag other : ℕ) (point : Point) → (other ≡ tag → ⊥) → slot_at (with_point point tag slots) other ≡ slot_at slots other
moved-other slots tag other point apart = ap slot_or_free (get-other slots tag other (moved_to point (slot_at slots tag)) apart)

pub left-taken : (slots new : List Slot) (tags left : List ℕ) (tag : ℕ) (point : Point) → tags ≡ tag ∷ left → IsRising 0 tags
    → new ≡ with_point point tag slots → All (λ u. state_at slots u ≡ state.Taken) tags → All (λ u. state_at new u ≡ state.Taken) left
left-taken slots new tags left tag point are rise changed taken =
    subst (λ (n : List Slot). All (λ u. state_at n u ≡ state.Taken) left) (sym changed)
    (λ k d within.
    (let above = rising-above (tag + 1) left (left-rise tags left tag are rise) k d within in
    let was = All-tail (λ u. state_at slots u ≡ state.Taken) tag left (subst (All (λ u. state_at slots u ≡ state.Taken)) are taken) k d within in
    ap state_of (moved-other slots tag (get_or left k d) point (λ same. absurd (omega arith))) ∙ was))

pub first-of : (P : ℕ → Type 0) (tags left : List ℕ) (tag : ℕ) → tags ≡ tag ∷ left → All P tags → P tag
first-of P tags left tag are each = subst (All P) are each 0 0 (omega arith)

pub behind-of : (P : ℕ → Type 0) (tags left : List ℕ) (tag : ℕ) → tags ≡ tag ∷ left → All P tags → All P left
behind-of P tags left tag are each = All-tail P tag left (subst (All P) are each)

-- ---- the tags behind a leader

-- there is one at least
leads-some : (leader : ℕ) (slots : List Slot) → Leads leader slots → group leader slots ≡ [] → ⊥
unfolding tags_where
leads-some leader slots leads none = elim (cases_lt leader (length slots)) [
  | inl below ↦
      (let among = sym (ap (λ (xs : List ℕ). is_among xs leader) none)
      ∙ among-holding (λ i. goes_by leader (slot_at slots i)) 0 (length slots) leader (omega arith) (omega arith) ∙ leads in
      never among)
  | inr past ↦ never (sym (ap (λ (o : Option Slot). goes_by leader (slot_or_free o)) (slice_get_past slots leader past)) ∙ leads)
]
  where
    never : false ≡ true → ⊥
    never e = cc

pub group-behind : (leader : ℕ) (slots : List Slot) (first : Option ℕ) (all left : List ℕ) → Leads leader slots → all ≡ group leader slots
    → MatchOption first (all ≡ []) (λ t. all ≡ t ∷ left) → (t : ℕ) × (group leader slots ≡ t ∷ left)
group-behind leader slots None all left leads are none = absurd (leads-some leader slots leads (sym are ∙ none))
group-behind leader slots (Some t) all left leads are some = (t, sym are ∙ some)

pub group-order : (leader : ℕ) (slots : List Slot) → IsRising 0 (group leader slots)
unfolding tags_where
group-order leader slots = rising-from (λ i. goes_by leader (slot_at slots i)) 0 (length slots)
