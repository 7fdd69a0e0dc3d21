-- All tags of a command in its lane, in order.
use Rattle.std.proofs.Common.{◌≡◌, ℕ, zero, suc, ◌+◌, ◌<◌, ◌≤◌, ◌==◌, cond, Bool, true, false, inl, inr, List, [], ◌∷◌, length, map, slice_get, Option, Some}
use Rattle.std.proofs.Common.{All, arith, refl, sym, ap, ◌∙◌, subst}
use Rattle.std.specs.List.{enumerate_from, filter, range_with_len}
use Rattle.std.proofs.lemmas.Bool.{cases_lt, eq-eqb, eqb-true}
use Rattle.std.proofs.lemmas.List.Elements.{All-tail, filter_passes}
use Rattle.std.proofs.lemmas.Option.{slice_get_past}
use Rattle.nv_core.specs.Handing.{IsRising}
use Rattle.nv_core.specs.Tags.{IsUsed, IsWhole, tag_made, tags_of}
use Rattle.nv_core.specs.declared.progress.Progress.{Progress}
use Rattle.nv_core.proofs.LaneTags.{same, seen}
use Rattle.nv_core.proofs.TagLists.{made-at, made-free, tags-kept, tags-length}
use Rattle.nv_tags.proofs.Rows.{holding, holding-high, holding-lowest}
use Rattle.nv_tags.specs.Tags.{Leads, Slot, command_in, goes_by, group, slot_at, slot_or_free, tags_where}
use Rattle.nv_tags.specs.Tags as slot
use Rattle.nv_world_model.specs.World.{Command, Lane, Tag, group_in, is_free as tag_is_free, leader_of, tags_where as tags_that}
use Rattle.nv_world_model.specs.World.{is_that as tag_goes_by}

-- ---- numbers of tags

-- tags that meet a test, by a test of their numbers
number-here : (test : ℕ → Bool) (from count : ℕ) (b : Bool) → test from ≡ b
    → holding test from (suc count) ≡ cond b (from ∷ holding test (from + 1) count) (holding test (from + 1) count)
number-here test from count b is = ap (λ (x : Bool). cond x (from ∷ holding test (from + 1) count) (holding test (from + 1) count)) is

-- one tag more, in front
one-number : (test : Tag → Bool) (number : ℕ → Bool) (from : ℕ) (t : Tag) (tags : List Tag) → number from ≡ test t
    → map (λ (u : ℕ × Tag). u.0) (filter (λ (u : ℕ × Tag). test u.1) (enumerate_from (from + 1) tags)) ≡ holding number (from + 1) (length tags)
    → (b : Bool) → test t ≡ b
    → map (λ (u : ℕ × Tag). u.0) (filter (λ (u : ℕ × Tag). test u.1) (enumerate_from from (t ∷ tags))) ≡ holding number from (length (t ∷ tags))
one-number test number from t tags here behind true is =
    let numbered : List (ℕ × Tag) = filter (λ (u : ℕ × Tag). test u.1) (enumerate_from (from + 1) tags) in
    ap (λ (x : Bool). map (λ (u : ℕ × Tag). u.0) (cond x ((from, t) ∷ numbered) numbered)) is
    ∙ ap (λ (xs : List ℕ). from ∷ xs) behind
    ∙ sym (number-here number from (length tags) true (here ∙ is))
one-number test number from t tags here behind false is =
    let numbered : List (ℕ × Tag) = filter (λ (u : ℕ × Tag). test u.1) (enumerate_from (from + 1) tags) in
    ap (λ (x : Bool). map (λ (u : ℕ × Tag). u.0) (cond x ((from, t) ∷ numbered) numbered)) is
    ∙ behind
    ∙ sym (number-here number from (length tags) false (here ∙ is))

pub numbers-from : (test : Tag → Bool) (number : ℕ → Bool) (from : ℕ) (tags : List Tag)
    → ((i : ℕ) (t : Tag) → slice_get tags i ≡ Some t → test t ≡ number (from + i))
    → map (λ (u : ℕ × Tag). u.0) (filter (λ (u : ℕ × Tag). test u.1) (enumerate_from from tags)) ≡ holding number from (length tags)
numbers-from test number from [] same = refl
numbers-from test number from (t ∷ tags) same =
    one-number test number from t tags (sym (same 0 t refl ∙ ap number (omega arith)))
    (numbers-from test number (from + 1) tags (λ i u there. same (suc i) u there ∙ ap number (omega arith)))
    (test t) refl

-- numbers in a row rise
pub rising-lower : (low high : ℕ) (xs : List ℕ) → low ≤ high → IsRising high xs → IsRising low xs
rising-lower low high [] less rise = tt
rising-lower low high (x ∷ xs) less rise = (let first = rise.0 in omega arith, rise.1)

one-rises : (test : ℕ → Bool) (from count : ℕ) → IsRising (from + 1) (holding test (from + 1) count) → (b : Bool) → test from ≡ b
    → IsRising from (holding test from (suc count))
one-rises test from count behind true is = subst (IsRising from) (sym (number-here test from count true is)) (omega arith, behind)
one-rises test from count behind false is =
    subst (IsRising from) (sym (number-here test from count false is))
    (rising-lower from (from + 1) (holding test (from + 1) count) (omega arith) behind)

pub rising-from : (test : ℕ → Bool) (from count : ℕ) → IsRising from (holding test from count)
rising-from test from zero = tt
rising-from test from (suc count) = one-rises test from count (rising-from test (from + 1) count) (test from) refl

-- each is as high as the first at least
pub rising-above : (from : ℕ) (xs : List ℕ) → IsRising from xs → All (λ x. from ≤ x) xs
rising-above from [] rise k d within = absurd (omega arith)
rising-above from (x ∷ xs) rise zero d within = rise.0
rising-above from (x ∷ xs) rise (suc k) d within =
    let first = rise.0 in
    let above = rising-above (x + 1) xs rise.1 k d (omega arith) in omega arith

-- ---- whose tags are

made-goes : (kept : List Progress) (s : Slot) (p : Progress) (leader : ℕ) → IsUsed kept s p
    → tag_goes_by leader (leader_of (tag_made kept s p)) ≡ goes_by leader s
made-goes kept slot.Free p leader is = refl
made-goes kept (slot.Used command slot.Taken) p leader is = ap (λ (t : Tag). tag_goes_by leader (leader_of t)) (made-at kept command slot.Taken p is).1
made-goes kept (slot.Used command slot.Flying) p leader is = ap (λ (t : Tag). tag_goes_by leader (leader_of t)) (made-at kept command slot.Flying p is).1.1
made-goes kept (slot.Used command (slot.Ended st)) p leader is =
    ap (λ (t : Tag). tag_goes_by leader (leader_of t)) (made-at kept command (slot.Ended st) p is).1

goes-command : (s : Slot) (leader : ℕ) → goes_by leader s ≡ true → (command : Command) × ((command_in s ≡ Some command) × (command.leader ≡ leader))
goes-command slot.Free leader goes = cc
goes-command (slot.Used command point) leader goes = (command, (refl, eqb-true command.leader leader goes))

pub command-goes : (s : Slot) (leader : ℕ) (command : Command) → command_in s ≡ Some command → command.leader ≡ leader → goes_by leader s ≡ true
command-goes slot.Free leader command is led = cc
command-goes (slot.Used c point) leader command is led =
    let same : c ≡ command = cc in
    ap (λ (d : Command). d.leader == leader) same ∙ eq-eqb command.leader leader led

module _ (head : ℕ) (phase : Bool) (slots : List Slot) (ps : List Progress) (old : Lane) (whole : IsWhole head slots ps)
    (view : (let l : Lane = record { head = head; phase = phase; tags = tags_of slots ps } in l) ≡ old) where
  -- tags by a test of their slots
  pub lane-where : (test : Tag → Bool) (slot_test : Slot → Bool)
      → ((s : Slot) (p : Progress) → IsUsed ps s p → test (tag_made ps s p) ≡ slot_test s)
      → tags_that test old.tags ≡ tags_where slot_test slots
  unfolding tags_where
  lane-where test slot_test alike =
      ap (tags_that test) (sym (seen head phase slots ps old whole view))
      ∙ numbers-from test (λ i. slot_test (slot_at slots i)) 0 (tags_of slots ps) (λ i t there. each i t there)
      ∙ ap (holding (λ i. slot_test (slot_at slots i)) 0) (tags-length ps slots ps (same head phase slots ps old whole view))
    where
      each : (i : ℕ) (t : Tag) → slice_get (tags_of slots ps) i ≡ Some t → test t ≡ slot_test (slot_at slots (0 + i))
      each i t there =
          (let k = tags-kept slots ps i t there in
          let number : 0 + i ≡ i = omega arith in
          sym (ap test k.made) ∙ alike k.slot k.progress (whole.used i k.slot k.progress k.slot_is k.progress_is)
          ∙ sym (ap (λ (o : Option Slot). slot_test (slot_or_free o)) k.slot_is)
          ∙ sym (ap (λ (n : ℕ). slot_test (slot_at slots n)) number))

  -- a group
  pub lane-group : (leader : ℕ) → group_in (Some old) leader ≡ group leader slots
  lane-group leader =
      lane-where (λ t. tag_goes_by leader (leader_of t)) (goes_by leader) (λ s p is. made-goes ps s p leader is)

  -- the free tags
  pub lane-free : tags_that tag_is_free old.tags ≡ slot.free_slots slots
  lane-free = lane-where tag_is_free slot.is_free (λ s p is. made-free ps s p is)

-- a command and the tag that it goes by
module _ (head : ℕ) (slots : List Slot) (ps : List Progress) (whole : IsWhole head slots ps) (tag : ℕ) (command : Command)
    (whose : command_in (slot_at slots tag) ≡ Some command) (led : command.leader ≡ tag) where
  pub leads : Leads tag slots
  leads = command-goes (slot_at slots tag) tag command whose led

  pub led-below : tag < length slots
  led-below = elim (cases_lt tag (length slots)) [
    | inl below ↦ below
    | inr past ↦ absurd (never (sym (ap (λ (o : Option Slot). command_in (slot_or_free o)) (slice_get_past slots tag past)) ∙ whose))
  ]
    where
      never : command_in slot.Free ≡ Some command → ⊥
      never e = cc

  -- each of the group is of this command
  each-of : (t : ℕ) → goes_by tag (slot_at slots t) ≡ true → command_in (slot_at slots t) ≡ Some command
  each-of t goes =
      (let its = goes-command (slot_at slots t) tag goes in
      its.1.0 ∙ sym (whole.led t its.0 its.1.0).same ∙ ap (λ (n : ℕ). command_in (slot_at slots n)) its.1.1 ∙ whose)

  none-before : (i : ℕ) → i < tag → goes_by tag (slot_at slots i) ≡ false
  none-before i before = by (goes_by tag (slot_at slots i)) refl
    where
      by : (b : Bool) → goes_by tag (slot_at slots i) ≡ b → b ≡ false
      by true goes =
          (let its = goes-command (slot_at slots i) tag goes in
          let low = (whole.led i its.0 its.1.0).low in
          let by_tag = its.1.1 in absurd (omega arith))
      by false goes = refl

  -- its other tags
  pub others_of : List ℕ
  others_of = holding (λ i. cond (i == tag) false (goes_by tag (slot_at slots i))) 0 (length slots)

  pub group-front : group tag slots ≡ tag ∷ others_of
  unfolding tags_where others_of
  group-front =
      (let below = led-below in
      holding-lowest (λ i. goes_by tag (slot_at slots i)) (λ i. cond (i == tag) false (goes_by tag (slot_at slots i))) 0 (length slots) tag
      (omega arith) (omega arith) leads (λ i low before. none-before i before) (λ i low there. refl))

  pub group-rises : IsRising 0 (group tag slots)
  unfolding tags_where
  group-rises = rising-from (λ i. goes_by tag (slot_at slots i)) 0 (length slots)

  pub others-rise : IsRising (tag + 1) others_of
  others-rise = (let all : IsRising 0 (tag ∷ others_of) = subst (IsRising 0) group-front group-rises in all.1)

  -- a tag of the command
  pub record IsMember (t : ℕ) : Type 0 where
    pub below : t < length slots
    pub its : command_in (slot_at slots t) ≡ Some command

  pub group-members : All IsMember (group tag slots)
  unfolding tags_where
  group-members = λ k d within.
      (let low = holding-high (λ i. goes_by tag (slot_at slots i)) 0 (length slots) k d within in
      record {
        below = omega arith;
        its = each-of _ (filter_passes (λ i. goes_by tag (slot_at slots i)) (range_with_len 0 (length slots)) k d within);
      })

  pub others-members : All IsMember others_of
  others-members = All-tail IsMember tag others_of (subst (All IsMember) group-front group-members)
