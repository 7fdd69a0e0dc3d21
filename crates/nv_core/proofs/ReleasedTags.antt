-- All tags of a command that become free at once.
use Rattle.std.proofs.Common.{◌≡◌, ℕ, zero, suc, ◌<◌, ◌≤◌, ◌==◌, ◌⊎◌, cond, Bool, true, false, inl, inr, List, [], ◌∷◌, All, length, map, slice_get}
use Rattle.std.proofs.Common.{Option, Some, None, refl, sym, ap, ◌∙◌, subst, arith}
use Rattle.std.specs.Option.{option_map}
use Rattle.std.proofs.lemmas.Bool.{cases_lt}
use Rattle.std.proofs.lemmas.List.{length-map}
use Rattle.std.proofs.lemmas.Option.{slice_get_past}
use Rattle.nv_core.specs.Groups.{tags_changed}
use Rattle.nv_core.specs.Tags.{AreLed, AreUsed, IsLed, IsNothing, IsUsed, IsWhole, plan_in, tags_of}
use Rattle.nv_core.specs.declared.progress.Progress.{Progress}
use Rattle.nv_core.specs.declared.progress.Progress.TheVariants as progress
use Rattle.nv_core.proofs.EachTags.{changed-each, get-each}
use Rattle.nv_core.proofs.GroupTags.{group-members, lane-group}
use Rattle.nv_core.proofs.LaneTags.{same}
use Rattle.nv_core.proofs.TagLists.{StaysPlan, kept-there, made-stays, same-lists, tag_at, tags-get, tags-length, used-stays}
use Rattle.nv_laws_sound.proofs.Lists.{slice_get-below, some-same}
use Rattle.nv_plan.specs.Made.{MadePlan}
use Rattle.nv_tags.proofs.Groups.{length-set_each, slot_at-map}
use Rattle.nv_tags.proofs.Rows.{among-holding, is_among}
use Rattle.nv_tags.specs.Tags.{Slot, command_in, freed, goes_by, group, leader_of, released, set_each, slot_at, slot_or_free, tags_where}
use Rattle.nv_tags.specs.Tags as slot
use Rattle.nv_world_model.specs.World.{Command, Free, Lane, Tag, group_in}

get-map : {X Y : Type 0} (f : X → Y) (xs : List X) (i : ℕ) → slice_get (map f xs) i ≡ option_map f (slice_get xs i)
get-map f [] i = refl
get-map f (x ∷ xs) zero = refl
get-map f (x ∷ xs) (suc i) = get-map f xs i

module _ (head : ℕ) (phase : Bool) (slots : List Slot) (ps : List Progress) (old : Lane) (whole : IsWhole head slots ps)
    (view : (let l : Lane = record { head = head; phase = phase; tags = tags_of slots ps } in l) ≡ old)
    (tag : ℕ) (command : Command) (whose : command_in (slot_at slots tag) ≡ Some command) (its_led : command.leader ≡ tag) where
  even : length slots ≡ length ps
  even = same head phase slots ps old whole view

  pub freed-below : All (λ t. t < length ps) (group tag slots)
  freed-below = λ k d within.
      (let its = group-members head slots ps whole tag command whose its_led k d within in
      let below = its.below in let e = even in omega arith)

  -- which tags are freed
  among-group : (t : ℕ) → t < length slots → is_among (group tag slots) t ≡ goes_by tag (slot_at slots t)
  unfolding tags_where
  among-group t below = among-holding (λ i. goes_by tag (slot_at slots i)) 0 (length slots) t (omega arith) (omega arith)

  abbrev slots_now : List Slot
  slots_now = released tag slots

  abbrev kept_now : List Progress
  kept_now = set_each (group tag slots) progress.Nothing ps

  kept-at : (t : ℕ) → t < length slots → slice_get kept_now t ≡ cond (goes_by tag (slot_at slots t)) (Some progress.Nothing) (slice_get ps t)
  kept-at t below =
      get-each (group tag slots) progress.Nothing ps t (let e = even in omega arith)
      ∙ ap (λ (b : Bool). cond b (Some progress.Nothing) (slice_get ps t)) (among-group t below)

  -- of the others their plans stay
  leader-goes : (t : ℕ) (c : Command) → command_in (slot_at slots t) ≡ Some c → goes_by tag (slot_at slots t) ≡ false
      → goes_by tag (slot_at slots c.leader) ≡ false
  leader-goes t c is apart =
      (let led = whole.led t c is in
      by (slot_at slots t) (slot_at slots c.leader) is led.same apart)
    where
      by : (s z : Slot) → command_in s ≡ Some c → command_in z ≡ Some c → goes_by tag s ≡ false → goes_by tag z ≡ false
      by slot.Free z one two apart = cc
      by (slot.Used d point) slot.Free one two apart = cc
      by (slot.Used d point) (slot.Used x other) one two apart =
          (let first : d ≡ c = cc in
          let second : x ≡ c = cc in
          ap (λ (y : Command). y.leader == tag) (second ∙ sym first) ∙ apart)

  leader-below : (t : ℕ) (c : Command) → command_in (slot_at slots t) ≡ Some c → c.leader < length slots
  leader-below t c is = elim (cases_lt c.leader (length slots)) [
    | inl below ↦ below
    | inr past ↦
        absurd (never (sym (ap (λ (o : Option Slot). command_in (slot_or_free o)) (slice_get_past slots c.leader past)) ∙ (whole.led t c is).same))
  ]
    where
      never : command_in slot.Free ≡ Some c → ⊥
      never e = cc

  stays-other : (t : ℕ) (s : Slot) → slice_get slots t ≡ Some s → goes_by tag s ≡ false → StaysPlan ps kept_now (leader_of s)
  stays-other t slot.Free is apart = λ plan kept. absurd (past plan (sym (ap plan_in (slice_get_past ps 64 (let n = whole.progress_is in omega arith))) ∙ kept))
    where
      past : (plan : MadePlan) → None ≡ Some plan → ⊥
      past plan e = cc
  stays-other t (slot.Used c point) is apart = λ plan kept.
      (let at : slot_at slots t ≡ slot.Used c point = ap slot_or_free is in
      let has = ap command_in at in
      let goes = leader-goes t c has (ap (goes_by tag) at ∙ apart) in
      ap plan_in (kept-at c.leader (leader-below t c has) ∙ ap (λ (b : Bool). cond b (Some progress.Nothing) (slice_get ps c.leader)) goes) ∙ kept)

  slot-then : (t : ℕ) (s : Slot) → slice_get slots t ≡ Some s → slice_get slots_now t ≡ Some (freed tag s)
  slot-then t s is = get-map (freed tag) slots t ∙ ap (option_map (freed tag)) is

  kept-then : (t : ℕ) (s : Slot) → slice_get slots t ≡ Some s → slice_get kept_now t ≡ cond (goes_by tag s) (Some progress.Nothing) (slice_get ps t)
  kept-then t s is =
      kept-at t (slice_get-below slots t s is)
      ∙ ap (λ (x : Slot). cond (goes_by tag x) (Some progress.Nothing) (slice_get ps t)) (ap slot_or_free is)

  now-below : (t : ℕ) (s : Slot) → slice_get slots_now t ≡ Some s → t < length slots
  now-below t s is = (let below = slice_get-below slots_now t s is in let long = length-map slots (freed tag) in omega arith)

  freed-used : AreUsed kept_now slots_now
  freed-used t s p slot_is progress_is =
      (let k = kept-there slots ps t even (now-below t s slot_is) in
      by k.0 k.1.0 k.1.1.0 k.1.1.1 (goes_by tag k.0) refl)
    where
      by : (z : Slot) (q : Progress) → slice_get slots t ≡ Some z → slice_get ps t ≡ Some q → (b : Bool) → goes_by tag z ≡ b → IsUsed kept_now s p
      by z q at has true goes =
          (let free : slot.Free ≡ s =
          some-same slot.Free s (ap (λ (b : Bool). Some (cond b slot.Free z)) (sym goes) ∙ sym (slot-then t z at) ∙ slot_is) in
          let nothing : progress.Nothing ≡ p =
          some-same progress.Nothing p
          (ap (λ (b : Bool). cond b (Some progress.Nothing) (slice_get ps t)) (sym goes) ∙ sym (kept-then t z at) ∙ progress_is) in
          subst (λ (x : Slot). IsUsed kept_now x p) free (subst IsNothing nothing tt))
      by z q at has false apart =
          (let is_slot : z ≡ s =
          some-same z s (ap (λ (b : Bool). Some (cond b slot.Free z)) (sym apart) ∙ sym (slot-then t z at) ∙ slot_is) in
          let is_kept : q ≡ p =
          some-same q p
          (sym has ∙ ap (λ (b : Bool). cond b (Some progress.Nothing) (slice_get ps t)) (sym apart) ∙ sym (kept-then t z at) ∙ progress_is) in
          subst (λ (x : Slot). IsUsed kept_now x p) is_slot
          (subst (IsUsed kept_now z) is_kept (used-stays ps kept_now z q (stays-other t z at apart) (whole.used t z q at has))))

  freed-seen : tags_of slots_now kept_now ≡ set_each (group tag slots) Free (tags_of slots ps)
  freed-seen =
      same-lists (tags_of slots_now kept_now) (set_each (group tag slots) Free (tags_of slots ps)) (λ t. at t (cases_lt t (length slots)))
    where
      long : length (tags_of slots ps) ≡ length slots
      long = tags-length ps slots ps even

      then : (t : ℕ) → t < length slots
          → slice_get (set_each (group tag slots) Free (tags_of slots ps)) t ≡ cond (goes_by tag (slot_at slots t)) (Some Free) (slice_get (tags_of slots ps) t)
      then t below =
          get-each (group tag slots) Free (tags_of slots ps) t (let l = long in omega arith)
          ∙ ap (λ (b : Bool). cond b (Some Free) (slice_get (tags_of slots ps) t)) (among-group t below)

      by : (t : ℕ) (z : Slot) (q : Progress) → slice_get slots t ≡ Some z → slice_get ps t ≡ Some q → (b : Bool) → goes_by tag z ≡ b
          → tag_at kept_now (Some (freed tag z)) (cond (goes_by tag z) (Some progress.Nothing) (slice_get ps t))
          ≡ cond (goes_by tag z) (Some Free) (slice_get (tags_of slots ps) t)
      by t z q at has true goes =
          ap (λ (b : Bool). tag_at kept_now (Some (cond b slot.Free z)) (cond b (Some progress.Nothing) (slice_get ps t))) goes
          ∙ sym (ap (λ (b : Bool). cond b (Some Free) (slice_get (tags_of slots ps) t)) goes)
      by t z q at has false apart =
          ap (λ (b : Bool). tag_at kept_now (Some (cond b slot.Free z)) (cond b (Some progress.Nothing) (slice_get ps t))) apart
          ∙ ap (tag_at kept_now (Some z)) has
          ∙ ap (λ (x : Tag). Some x) (made-stays ps kept_now z q (stays-other t z at apart) (whole.used t z q at has))
          ∙ sym (tags-get ps slots ps t ∙ ap (λ (o : Option Slot). tag_at ps o (slice_get ps t)) at ∙ ap (tag_at ps (Some z)) has)
          ∙ sym (ap (λ (b : Bool). cond b (Some Free) (slice_get (tags_of slots ps) t)) apart)

      at : (t : ℕ) → (t < length slots) ⊎ (length slots ≤ t)
          → slice_get (tags_of slots_now kept_now) t ≡ slice_get (set_each (group tag slots) Free (tags_of slots ps)) t
      at t (inl below) =
          (let k = kept-there slots ps t even below in
          tags-get kept_now slots_now kept_now t
          ∙ ap (λ (o : Option Slot). tag_at kept_now o (slice_get kept_now t)) (slot-then t k.0 k.1.1.0)
          ∙ ap (tag_at kept_now (Some (freed tag k.0))) (kept-then t k.0 k.1.1.0)
          ∙ by t k.0 k.1.0 k.1.1.0 k.1.1.1 (goes_by tag k.0) refl
          ∙ sym (then t below ∙ ap (λ (x : Slot). cond (goes_by tag x) (Some Free) (slice_get (tags_of slots ps) t)) (ap slot_or_free k.1.1.0)))
      at t (inr past) =
          tags-get kept_now slots_now kept_now t
          ∙ ap (λ (o : Option Slot). tag_at kept_now o (slice_get kept_now t)) (slice_get_past slots_now t (let l = length-map slots (freed tag) in omega arith))
          ∙ sym (slice_get_past (set_each (group tag slots) Free (tags_of slots ps)) t
          (let l = length-set_each (group tag slots) Free (tags_of slots ps) in let m = long in omega arith))

  freed-led : AreLed slots_now
  freed-led t c is =
      (let now = slot_at-map (freed tag) slots t refl in
      by (goes_by tag (slot_at slots t)) refl (sym (ap command_in now) ∙ is))
    where
      never : command_in slot.Free ≡ Some c → ⊥
      never e = cc

      by : (b : Bool) → goes_by tag (slot_at slots t) ≡ b → command_in (freed tag (slot_at slots t)) ≡ Some c → IsLed slots_now t c
      by true goes e = absurd (never (ap (λ (b : Bool). command_in (cond b slot.Free (slot_at slots t))) (sym goes) ∙ e))
      by false apart e =
          (let has : command_in (slot_at slots t) ≡ Some c = ap (λ (b : Bool). command_in (cond b slot.Free (slot_at slots t))) (sym apart) ∙ e in
          let led = whole.led t c has in
          record {
            low = led.low;
            same =
                ap command_in (slot_at-map (freed tag) slots c.leader refl)
                ∙ ap (λ (b : Bool). command_in (cond b slot.Free (slot_at slots c.leader))) (leader-goes t c has apart)
                ∙ led.same;
          })

  pub freed-whole : (new : List Slot) (kept : List Progress) → new ≡ slots_now → kept ≡ kept_now → IsWhole head new kept
  freed-whole new kept is now =
      subst (λ (n : List Slot). IsWhole head n kept) (sym is)
      (subst (λ (k : List Progress). IsWhole head slots_now k) (sym now)
      (record {
        head_is = whole.head_is;
        slots_are = length-map slots (freed tag) ∙ whole.slots_are;
        progress_is = length-set_each (group tag slots) progress.Nothing ps ∙ whole.progress_is;
        used = freed-used;
        led = freed-led;
      }))

  pub freed-changed : (new : List Slot) (kept : List Progress) → new ≡ slots_now → kept ≡ kept_now
      → (let l : Lane = record { head = head; phase = phase; tags = tags_of new kept } in l) ≡ tags_changed (group_in (Some old) tag) Free old
  freed-changed new kept is now =
      ap (λ (n : List Slot). let l : Lane = record { head = head; phase = phase; tags = tags_of n kept } in l) is
      ∙ ap (λ (k : List Progress). let l : Lane = record { head = head; phase = phase; tags = tags_of slots_now k } in l) now
      ∙ ap (λ (ts : List Tag). let l : Lane = record { head = head; phase = phase; tags = ts } in l) freed-seen
      ∙ changed-each (group tag slots) Free (record { head = head; phase = phase; tags = tags_of slots ps })
      ∙ ap (tags_changed (group tag slots) Free) view
      ∙ ap (λ (ts : List ℕ). tags_changed ts Free old) (sym (lane-group head phase slots ps old whole view tag))
