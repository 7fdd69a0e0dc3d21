-- Tags that a command is given, all at once.
use Rattle.std.proofs.Common.{◌≡◌, ℕ, zero, suc, ◌+◌, ◌<◌, ◌≤◌, ◌||◌, cond, Bool, true, false, ◌⊎◌, inl, inr, List, [], ◌∷◌, get_or, length, set, slice_get}
use Rattle.std.proofs.Common.{All, Option, Some, None, is_some, take, refl, sym, ap, ◌∙◌, subst, arith}
use Rattle.std.specs.List.{range_with_len}
use Rattle.std.specs.Option.{option_map}
use Rattle.std.proofs.lemmas.Bool.{cases_eq, cases_lt, eq-eqb}
use Rattle.std.proofs.lemmas.List.Elements.{All-take, filter_passes}
use Rattle.std.proofs.lemmas.Option.{slice_get_past}
use Rattle.nv_core.specs.Groups.{tags_changed}
use Rattle.nv_core.specs.Handing.{IsRising}
use Rattle.nv_core.specs.Tags.{AreLed, AreUsed, IsLed, IsUsed, IsWhole, plan_in, plan_kept, tags_of}
use Rattle.nv_core.specs.declared.progress.Progress.{Progress}
use Rattle.nv_core.specs.declared.progress.Progress.TheVariants as progress
use Rattle.nv_core.proofs.EachTags.{changed-each, get-each}
use Rattle.nv_core.proofs.GroupTags.{lane-free, rising-above, rising-from}
use Rattle.nv_core.proofs.LaneTags.{same}
use Rattle.nv_core.proofs.TagLists.{IsNext, get-other, get-set, tags-set, used-set}
use Rattle.nv_laws_sound.proofs.Lists.{length-set, slice_get-there}
use Rattle.nv_plan.specs.Made.{MadePlan}
use Rattle.nv_tags.proofs.GroupLaws.{claimed-count, claimed-group}
use Rattle.nv_tags.proofs.Groups.{length-set_each}
use Rattle.nv_tags.proofs.Rows.{holding-high, is_among}
use Rattle.nv_tags.proofs.Together.{among-all, claimed-one, lowest-some}
use Rattle.nv_tags.specs.Tags.{Leads, Slot, command_in, command_of, free_slot, free_slots, goes_by, group, leader_in, set_each, slot_at, slot_or_free}
use Rattle.nv_tags.specs.Tags.{tags_where, taken_by}
use Rattle.nv_tags.specs.Tags as slot
use Rattle.nv_tags.specs.declared.claim.Claim.{Claim}
use Rattle.nv_world_model.specs.World.{Command, Lane, Tag, Taken, claimed, lowest}

-- ---- which tags

-- the first of some
pub first-lowest : (o : Option (List ℕ)) → ((tags : List ℕ) → o ≡ Some tags → 0 < length tags) → leader_in o ≡ option_map lowest o
first-lowest None some = refl
first-lowest (Some []) some = absurd (let never = some [] refl in omega arith)
first-lowest (Some (tag ∷ tags)) some = refl

pub lane-claimed : (head : ℕ) (phase : Bool) (slots : List Slot) (ps : List Progress) (old : Lane) (whole : IsWhole head slots ps)
    (view : (let l : Lane = record { head = head; phase = phase; tags = tags_of slots ps } in l) ≡ old) (count : ℕ)
    → claimed count old.tags ≡ slot.claimed count slots
unfolding claimed
lane-claimed head phase slots ps old whole view count = ap (slot.lowest count) (lane-free head phase slots ps old whole view)

some-map : {X Y : Type 0} (f : X → Y) (o : Option X) → is_some o ≡ is_some (option_map f o)
some-map f None = refl
some-map f (Some x) = refl

-- one tag is free
pub one-free : (slots : List Slot) (count : ℕ) → count ≡ 1 → is_some (free_slot slots) ≡ is_some (slot.claimed count slots)
one-free slots count one =
    some-map (λ (tag : ℕ). tag ∷ []) (free_slot slots)
    ∙ ap (λ (o : Option (List ℕ)). is_some o) (sym (claimed-one slots))
    ∙ sym (ap (λ (n : ℕ). is_some (slot.claimed n slots)) one)

take-rises : (count from : ℕ) (xs : List ℕ) → IsRising from xs → IsRising from (take count xs)
take-rises zero from xs rise = tt
take-rises (suc count) from [] rise = tt
take-rises (suc count) from (x ∷ xs) rise = (rise.0, take-rises count (x + 1) xs rise.1)

nothing-kept : (kept : List Progress) (s : Slot) (p : Progress) → slot.is_free s ≡ true → IsUsed kept s p → plan_kept p ≡ None
nothing-kept kept slot.Free progress.Nothing free is = refl
nothing-kept kept slot.Free (progress.Reading reads) free is = absurd is
nothing-kept kept slot.Free (progress.Going plan) free is = absurd is
nothing-kept kept slot.Free (progress.Over plan) free is = absurd is
nothing-kept kept slot.Free (progress.Part part) free is = absurd is
nothing-kept kept slot.Free (progress.PartOver part) free is = absurd is
nothing-kept kept (slot.Used command point) p free is = cc

-- ---- tag by tag

-- a tag in which no plan is kept
pub record HasNoPlan (slots : List Slot) (ps : List Progress) (tag : ℕ) : Type 0 where
  pub below : tag < length slots
  pub none : plan_in (slice_get ps tag) ≡ None

-- what is kept of tags that are given to a command, and what they are
pub record AreGiven (command : Command) (slots : List Slot) (ps : List Progress) (tags : List ℕ) : Type 0 where
  pub used : AreUsed (set_each tags (progress.Reading []) ps) (set_each tags (slot.Used command slot.Taken) slots)
  pub seen : tags_of (set_each tags (slot.Used command slot.Taken) slots) (set_each tags (progress.Reading []) ps)
      ≡ set_each tags (Taken command []) (tags_of slots ps)

given-next : (command : Command) (slots : List Slot) (ps : List Progress) (tag : ℕ) → length slots ≡ length ps → HasNoPlan slots ps tag
    → IsNext slots ps tag (slot.Used command slot.Taken) (progress.Reading []) (Taken command [])
given-next command slots ps tag even has =
    let there = slice_get-there ps tag (let b = has.below in omega arith) in
    record {
      below = has.below;
      before = there.0;
      before_is = there.1;
      stays = λ plan kept. absurd (never plan (sym has.none ∙ ap plan_in there.1 ∙ kept));
      used = tt;
      made = refl;
    }
  where
    never : (plan : MadePlan) → None ≡ Some plan → ⊥
    never plan e = cc

given-behind : (command : Command) (slots : List Slot) (ps : List Progress) (tag other : ℕ) → length slots ≡ length ps → HasNoPlan slots ps tag
    → HasNoPlan slots ps other → HasNoPlan (set slots tag (slot.Used command slot.Taken)) (set ps tag (progress.Reading [])) other
given-behind command slots ps tag other even first has =
    record {
      below = (let b = has.below in let long = length-set slots tag (slot.Used command slot.Taken) in omega arith);
      none = by (cases_eq other tag);
    }
  where
    by : (other ≡ tag) ⊎ (other ≡ tag → ⊥) → plan_in (slice_get (set ps tag (progress.Reading [])) other) ≡ None
    by (inl here) =
        ap (λ (n : ℕ). plan_in (slice_get (set ps tag (progress.Reading [])) n)) here
        ∙ ap plan_in (get-set ps tag (progress.Reading []) (let b = first.below in omega arith))
    by (inr apart) = ap plan_in (get-other ps tag other (progress.Reading []) apart) ∙ has.none

pub are-given : (command : Command) (slots : List Slot) (ps : List Progress) (tags : List ℕ) → length slots ≡ length ps → AreUsed ps slots
    → All (HasNoPlan slots ps) tags → AreGiven command slots ps tags
are-given command slots ps [] even are each = record { used = are; seen = refl }
are-given command slots ps (tag ∷ tags) even are each =
    let first : HasNoPlan slots ps tag = each 0 0 (omega arith) in
    let next = given-next command slots ps tag even first in
    let s = slot.Used command slot.Taken in
    let longer = length-set slots tag s in
    let shorter = length-set ps tag (progress.Reading []) in
    let behind = are-given command (set slots tag s) (set ps tag (progress.Reading [])) tags (omega arith)
    (used-set slots ps even are tag s (progress.Reading []) (Taken command []) next)
    (λ k d within. given-behind command slots ps tag (get_or tags k d) even first (each (suc k) d (omega arith))) in
    record {
      used = behind.used;
      seen =
          behind.seen
          ∙ ap (set_each tags (Taken command [])) (tags-set slots ps even are tag s (progress.Reading []) (Taken command []) next);
    }

-- ---- in a lane

module _ (head : ℕ) (phase : Bool) (slots : List Slot) (ps : List Progress) (old : Lane) (whole : IsWhole head slots ps)
    (view : (let l : Lane = record { head = head; phase = phase; tags = tags_of slots ps } in l) ≡ old) (count : ℕ) (some : 0 < count) where
  -- as many as are wanted are more than none
  pub given-some : (tags : List ℕ) → slot.claimed count slots ≡ Some tags → 0 < length tags
  given-some tags found = (let many = claimed-count slots count tags found in omega arith)

  pub given-leader : (leader : Option ℕ) → leader ≡ leader_in (slot.claimed count slots) → leader ≡ option_map lowest (claimed count old.tags)
  given-leader leader is =
      is ∙ first-lowest (slot.claimed count slots) given-some
      ∙ sym (ap (λ (o : Option (List ℕ)). option_map lowest o) (lane-claimed head phase slots ps old whole view count))

  pub given-tags : (tags : List ℕ) → claimed count old.tags ≡ Some tags → slot.claimed count slots ≡ Some tags
  given-tags tags found = sym (lane-claimed head phase slots ps old whole view count) ∙ found

  -- none are given where the lane has too few
  pub given-none : (tags : List ℕ) → None ≡ leader_in (slot.claimed count slots) → claimed count old.tags ≡ Some tags → ⊥
  given-none tags none found = never tags (given-some tags (given-tags tags found)) (none ∙ ap leader_in (given-tags tags found))
    where
      never : (tags : List ℕ) → 0 < length tags → None ≡ leader_in (Some tags) → ⊥
      never [] more e = omega arith
      never (tag ∷ tags) more e = cc

  -- the tags of which this is the first
  pub given-found : (leader : ℕ) → Some leader ≡ leader_in (slot.claimed count slots) → (tags : List ℕ) × (slot.claimed count slots ≡ Some tags)
  given-found leader is = by (slot.claimed count slots) refl is
    where
      by : (o : Option (List ℕ)) → slot.claimed count slots ≡ o → Some leader ≡ leader_in o → (tags : List ℕ) × (slot.claimed count slots ≡ Some tags)
      by None found e = cc
      by (Some tags) found e = (tags, found)

  module _ (claim : Claim) (leader : ℕ) (first : Some leader ≡ leader_in (slot.claimed count slots)) (tags : List ℕ) (found : slot.claimed count slots ≡ Some tags) where
    abbrev pub its : Command
    its = command_of claim leader

    are-free : tags ≡ take count (free_slots slots)
    are-free = (lowest-some count (free_slots slots) tags found).0

    -- which are as free as they were found
    was-free : All (λ t. slot.is_free (slot_at slots t) ≡ true) tags
    unfolding tags_where
    was-free =
        subst (All (λ t. slot.is_free (slot_at slots t) ≡ true)) (sym are-free)
        (All-take (λ t. slot.is_free (slot_at slots t) ≡ true) count (free_slots slots)
        (filter_passes (λ t. slot.is_free (slot_at slots t)) (range_with_len 0 (length slots))))

    was-there : All (λ t. t < 0 + length slots) tags
    unfolding tags_where
    was-there =
        subst (All (λ t. t < 0 + length slots)) (sym are-free)
        (All-take (λ t. t < 0 + length slots) count (free_slots slots)
        (holding-high (λ t. slot.is_free (slot_at slots t)) 0 (length slots)))

    rises : IsRising 0 tags
    unfolding tags_where
    rises = subst (IsRising 0) (sym are-free) (take-rises count 0 (free_slots slots) (rising-from (λ t. slot.is_free (slot_at slots t)) 0 (length slots)))

    first-is : Some leader ≡ leader_in (Some tags)
    first-is = first ∙ ap leader_in found

    -- the first is the lowest
    above : All (λ t. leader ≤ t) tags
    above = by tags rises first-is
      where
        by : (ts : List ℕ) → IsRising 0 ts → Some leader ≡ leader_in (Some ts) → All (λ t. leader ≤ t) ts
        by [] rise e = cc
        by (t ∷ ts) rise e =
            (let same : leader ≡ t = cc in
            rising-above leader (t ∷ ts) (omega arith, rise.1))

    leads-among : is_among tags leader ≡ true
    leads-among = by tags first-is
      where
        by : (ts : List ℕ) → Some leader ≡ leader_in (Some ts) → is_among ts leader ≡ true
        by [] e = cc
        by (t ∷ ts) e = (let same : t ≡ leader = cc in ap (λ (b : Bool). b || is_among ts leader) (eq-eqb t leader same))

    pub leader-below : leader < length slots
    leader-below = (let below = among-all (λ t. t < 0 + length slots) tags leader was-there leads-among in omega arith)

    pub all-below : All (λ t. t < length ps) tags
    all-below = λ k d within. (let below = was-there k d within in let even = same head phase slots ps old whole view in omega arith)

    -- no plan is kept there
    no-plans : All (HasNoPlan slots ps) tags
    no-plans = λ k d within. by (get_or tags k d) (was-free k d within) (was-there k d within)
      where
        by : (t : ℕ) → slot.is_free (slot_at slots t) ≡ true → t < 0 + length slots → HasNoPlan slots ps t
        by t free there =
            (let s = slice_get-there slots t (omega arith) in
            let p = slice_get-there ps t (let even = same head phase slots ps old whole view in omega arith) in
            record {
              below = omega arith;
              none =
                  ap plan_in p.1
                  ∙ nothing-kept ps s.0 p.0 (sym (ap (λ (o : Option Slot). slot.is_free (slot_or_free o)) s.1) ∙ free) (whole.used t s.0 p.0 s.1 p.1);
            })

    given : AreGiven its slots ps tags
    given = are-given its slots ps tags (same head phase slots ps old whole view) whole.used no-plans

    -- the slots now
    abbrev slots_now : List Slot
    slots_now = taken_by its tags slots

    slot-now : (t : ℕ) → t < length slots → slot_at slots_now t ≡ slot_or_free (cond (is_among tags t) (Some (slot.Used its slot.Taken)) (slice_get slots t))
    slot-now t within = ap slot_or_free (get-each tags (slot.Used its slot.Taken) slots t within)

    slot-among : (t : ℕ) → t < length slots → is_among tags t ≡ true → slot_at slots_now t ≡ slot.Used its slot.Taken
    slot-among t within among =
        slot-now t within ∙ ap (λ (b : Bool). slot_or_free (cond b (Some (slot.Used its slot.Taken)) (slice_get slots t))) among

    slot-apart : (t : ℕ) → t < length slots → is_among tags t ≡ false → slot_at slots_now t ≡ slot_at slots t
    slot-apart t within apart =
        slot-now t within ∙ ap (λ (b : Bool). slot_or_free (cond b (Some (slot.Used its slot.Taken)) (slice_get slots t))) apart

    -- a tag that has a command is there, and was not free
    has-below : (xs : List Slot) (t : ℕ) (c : Command) → command_in (slot_at xs t) ≡ Some c → t < length xs
    has-below xs t c is = elim (cases_lt t (length xs)) [
      | inl below ↦ below
      | inr past ↦ absurd (never (sym (ap (λ (o : Option Slot). command_in (slot_or_free o)) (slice_get_past xs t past)) ∙ is))
    ]
      where
        never : command_in slot.Free ≡ Some c → ⊥
        never e = cc

    busy : (t : ℕ) (c : Command) → command_in (slot_at slots t) ≡ Some c → is_among tags t ≡ false
    busy t c is = by (is_among tags t) refl
      where
        free-has : (s : Slot) → slot.is_free s ≡ true → command_in s ≡ Some c → ⊥
        free-has slot.Free free has = cc
        free-has (slot.Used d point) free has = cc

        by : (b : Bool) → is_among tags t ≡ b → b ≡ false
        by true among = absurd (free-has (slot_at slots t) (among-all (λ u. slot.is_free (slot_at slots u) ≡ true) tags t was-free among) is)
        by false apart = refl

    led-now : AreLed slots_now
    led-now tag c is = by (is_among tags tag) refl
      where
        within : tag < length slots
        within = (let b = has-below slots_now tag c is in let long = length-set_each tags (slot.Used its slot.Taken) slots in omega arith)

        leader-has : command_in (slot_at slots_now leader) ≡ Some its
        leader-has = ap command_in (slot-among leader leader-below leads-among)

        by : (b : Bool) → is_among tags tag ≡ b → IsLed slots_now tag c
        by true among =
            (let both : Some its ≡ Some c = sym (ap command_in (slot-among tag within among)) ∙ is in
            let whose : its ≡ c = cc in
            subst (IsLed slots_now tag) whose (record { low = among-all (λ t. leader ≤ t) tags tag above among; same = leader-has }))
        by false apart =
            (let led = whole.led tag c (sym (ap command_in (slot-apart tag within apart)) ∙ is) in
            record {
              low = led.low;
              same =
                  ap command_in (slot-apart c.leader (has-below slots c.leader c led.same) (busy c.leader c led.same)) ∙ led.same;
            })

    pub given-whole : (new : List Slot) (kept : List Progress) → new ≡ slots_now → kept ≡ set_each tags (progress.Reading []) ps → IsWhole head new kept
    given-whole new kept is now =
        subst (λ (n : List Slot). IsWhole head n kept) (sym is)
        (subst (λ (k : List Progress). IsWhole head slots_now k) (sym now)
        (record {
          head_is = whole.head_is;
          slots_are = length-set_each tags (slot.Used its slot.Taken) slots ∙ whole.slots_are;
          progress_is = length-set_each tags (progress.Reading []) ps ∙ whole.progress_is;
          used = given.used;
          led = led-now;
        }))

    pub given-changed : (new : List Slot) (kept : List Progress) → new ≡ slots_now → kept ≡ set_each tags (progress.Reading []) ps
        → (let l : Lane = record { head = head; phase = phase; tags = tags_of new kept } in l) ≡ tags_changed tags (Taken its []) old
    given-changed new kept is now =
        ap (λ (n : List Slot). let l : Lane = record { head = head; phase = phase; tags = tags_of n kept } in l) is
        ∙ ap (λ (k : List Progress). let l : Lane = record { head = head; phase = phase; tags = tags_of slots_now k } in l) now
        ∙ ap (λ (ts : List Tag). let l : Lane = record { head = head; phase = phase; tags = ts } in l) given.seen
        ∙ changed-each tags (Taken its []) (record { head = head; phase = phase; tags = tags_of slots ps })
        ∙ ap (tags_changed tags (Taken its [])) view

    -- it goes by the first
    pub given-lowest : its ≡ command_of claim (lowest tags)
    given-lowest = ap (command_of claim) (by tags first-is)
      where
        by : (ts : List ℕ) → Some leader ≡ leader_in (Some ts) → leader ≡ lowest ts
        by [] e = cc
        by (t ∷ ts) e = cc

    pub given-leads : (new : List Slot) → new ≡ slots_now → Leads leader new
    given-leads new is =
        ap (λ (n : List Slot). goes_by leader (slot_at n leader)) is
        ∙ ap (goes_by leader) (slot-among leader leader-below leads-among)
        ∙ eq-eqb leader leader refl

    pub given-group : (new : List Slot) → new ≡ slots_now → group leader new ≡ tags
    given-group new is =
        ap (group leader) is
        ∙ claimed-group slots count leader tags its (λ tag c point at. not-free c.leader c (whole.led tag c (ap command_in at)).same) found (sym first-is) refl
      where
        not-free : (t : ℕ) (c : Command) → command_in (slot_at slots t) ≡ Some c → slot.is_free (slot_at slots t) ≡ false
        not-free t c is = by (slot_at slots t) is
          where
            by : (s : Slot) → command_in s ≡ Some c → slot.is_free s ≡ false
            by slot.Free e = cc
            by (slot.Used d point) e = refl

    -- one tag alone
    pub given-one : count ≡ 1 → tags ≡ leader ∷ []
    given-one one = by tags first-is (claimed-count slots count tags found)
      where
        by : (ts : List ℕ) → Some leader ≡ leader_in (Some ts) → length ts ≡ count → ts ≡ leader ∷ []
        by [] e many = cc
        by (t ∷ []) e many = (let same : t ≡ leader = cc in ap (λ (n : ℕ). n ∷ []) same)
        by (t ∷ u ∷ ts) e many = absurd (omega arith)
