-- A command that was taken is handed on, part by part, each in its tag.
use Rattle.std.proofs.Common.{◌≡◌, ℕ, zero, suc, ◌+◌, ◌<◌, cond, Bool, true, false, List, [], ◌∷◌, All, drop, get_or, length, set, slice_get}
use Rattle.std.proofs.Common.{Option, Some, refl, sym, ap, ◌∙◌, subst, arith}
use Rattle.nv_core.specs.Groups.{all_handed}
use Rattle.nv_core.specs.Handing.{IsRising, first_kept, part_kept, parts_kept, parts_slots, point_of}
use Rattle.nv_core.specs.Tags.{HasCommand, IsTaken, IsUsed, IsWhole, ended_as, flying_as, part_in, plan_in, plan_kept, state_in, tag_made, tags_of}
use Rattle.nv_core.specs.declared.progress.Progress.{Progress}
use Rattle.nv_core.specs.declared.progress.Progress.TheVariants as progress
use Rattle.nv_core.proofs.AnsweredTags.{its-command}
use Rattle.nv_core.proofs.GroupTags.{group-front, group-members, lane-group, others-rise, others_of, rising-above}
use Rattle.nv_core.proofs.HandedParts.{drop-front}
use Rattle.nv_core.proofs.LaneTags.{lane-changed, lane-taken, lane-whole, led-set, moved-slot, same}
use Rattle.nv_core.proofs.TagLists.{IsNext, get-other, get-set, next-stays, set-apart}
use Rattle.nv_entry.specs.StatusCode.{done_with}
use Rattle.nv_entry.specs.declared.status_code.StatusCode.TheVariants.{Success}
use Rattle.nv_laws_sound.proofs.Lists.{length-set, slice_get-there}
use Rattle.nv_model.specs.Transcript.{ReadDone}
use Rattle.nv_plan.specs.Made.{MadePlan, share_made, shares_made}
use Rattle.nv_tags.specs.Tags.{Point, Slot, command_in, group, moved_to, slot_at, slot_or_free, state_at, state_of, with_point}
use Rattle.nv_tags.specs.Tags as slot
use Rattle.nv_tags.specs.declared.state.TagState.TheVariants as state
use Rattle.nv_world_model.specs.Share.{Share}
use Rattle.nv_world_model.specs.ShareArea.{is_no_command}
use Rattle.nv_world_model.specs.World.{Command, Ended, Flying, InDevice, Lane, Tag, group_in, tag_changed}

-- ---- a tag with a share

abbrev handed_tag : (nothing : Bool) → Command → Share → Tag
handed_tag nothing command share = cond nothing (Ended command (done_with Success) (Some share)) (Flying command share InDevice)

has-command : (nothing : Bool) (command : Command) (share : Share) → HasCommand (handed_tag nothing command share)
has-command true command share = tt
has-command false command share = tt

first-made : (ps : List Progress) (command : Command) (plan : MadePlan) (share : Share) (nothing : Bool) → share_made 0 plan ≡ Some share
    → tag_made ps (slot.Used command (point_of nothing)) (first_kept nothing plan) ≡ handed_tag nothing command share
first-made ps command plan share true is = ap (λ (o : Option Share). ended_as command (done_with Success) o) is
first-made ps command plan share false is = ap (λ (o : Option Share). flying_as command o) is

part-made : (ps : List Progress) (command : Command) (plan : MadePlan) (share : Share) (part : ℕ) (nothing : Bool)
    → plan_in (slice_get ps command.leader) ≡ Some plan → share_made part plan ≡ Some share
    → tag_made ps (slot.Used command (point_of nothing)) (part_kept nothing part) ≡ handed_tag nothing command share
part-made ps command plan share part true kept is =
    ap (λ (o : Option MadePlan). ended_as command (done_with Success) (part_in part o)) kept
    ∙ ap (λ (o : Option Share). ended_as command (done_with Success) o) is
part-made ps command plan share part false kept is =
    ap (λ (o : Option MadePlan). flying_as command (part_in part o)) kept ∙ ap (λ (o : Option Share). flying_as command o) is

first-plan : (nothing : Bool) (plan : MadePlan) → plan_kept (first_kept nothing plan) ≡ Some plan
first-plan true plan = refl
first-plan false plan = refl

-- ---- tags that wait for their parts

pub record IsWaiting (slots : List Slot) (ps : List Progress) (command : Command) (tag : ℕ) : Type 0 where
  pub below : tag < length slots
  pub there : slot_at slots tag ≡ slot.Used command slot.Taken
  pub reads : List ReadDone
  pub kept_is : slice_get ps tag ≡ Some (progress.Reading reads)

waiting-behind : (slots : List Slot) (ps : List Progress) (command : Command) (tag other : ℕ) (s : Slot) (p : Progress) → (other ≡ tag → ⊥)
    → IsWaiting slots ps command other → IsWaiting (set slots tag s) (set ps tag p) command other
waiting-behind slots ps command tag other s p apart was =
    record {
      below = (let b = was.below in let long = length-set slots tag s in omega arith);
      there = ap slot_or_free (get-other slots tag other s apart) ∙ was.there;
      reads = was.reads;
      kept_is = get-other ps tag other p apart ∙ was.kept_is;
    }

waiting-next : (slots : List Slot) (ps : List Progress) (command : Command) (tag : ℕ) (s : Slot) (p : Progress) (t : Tag) → IsWaiting slots ps command tag
    → IsUsed ps s p → tag_made ps s p ≡ t → IsNext slots ps tag s p t
waiting-next slots ps command tag s p t was used made =
    record {
      below = was.below;
      before = progress.Reading was.reads;
      before_is = was.kept_is;
      stays = λ plan none. (cc);
      used = used;
      made = made;
    }

part-next : (slots : List Slot) (ps : List Progress) (command : Command) (plan : MadePlan) (share : Share) (tag part : ℕ) (nothing : Bool)
    → IsWaiting slots ps command tag → plan_in (slice_get ps command.leader) ≡ Some plan → share_made part plan ≡ Some share
    → IsNext slots ps tag (slot.Used command (point_of nothing)) (part_kept nothing part) (handed_tag nothing command share)
part-next slots ps command plan share tag part nothing was kept is =
    let made = part-made ps command plan share part nothing kept is in
    waiting-next slots ps command tag (slot.Used command (point_of nothing)) (part_kept nothing part) (handed_tag nothing command share) was
    (subst HasCommand (sym made) (has-command nothing command share)) made

first-next : (slots : List Slot) (ps : List Progress) (command : Command) (plan : MadePlan) (share : Share) (tag : ℕ) (nothing : Bool)
    → IsWaiting slots ps command tag → share_made 0 plan ≡ Some share
    → IsNext slots ps tag (slot.Used command (point_of nothing)) (first_kept nothing plan) (handed_tag nothing command share)
first-next slots ps command plan share tag nothing was is =
    let made = first-made ps command plan share nothing is in
    waiting-next slots ps command tag (slot.Used command (point_of nothing)) (first_kept nothing plan) (handed_tag nothing command share) was
    (subst HasCommand (sym made) (has-command nothing command share)) made

-- ---- further parts, where the plan is kept

pub record AreHanded (head : ℕ) (phase : Bool) (slots : List Slot) (ps : List Progress) (others : List ℕ) (shares : List Share) (part : ℕ)
    (command : Command) (l : Lane) : Type 0 where
  pub whole : IsWhole head (parts_slots others shares slots) (parts_kept others shares part ps)
  pub seen : (let new : Lane = record { head = head; phase = phase; tags = tags_of (parts_slots others shares slots) (parts_kept others shares part ps) } in new)
      ≡ all_handed others shares command l

drop-first : {X : Type 0} (xs : List X) (i : ℕ) (x : X) (rest : List X) → x ∷ rest ≡ drop i xs → (slice_get xs i ≡ Some x) × (rest ≡ drop (i + 1) xs)
drop-first [] zero x rest e = cc
drop-first [] (suc i) x rest e = cc
drop-first {X = X} (y ∷ ys) zero x rest e =
    (let same : y ≡ x = cc in ap (λ (z : X). Some z) same, cc)
drop-first (y ∷ ys) (suc i) x rest e =
    (let both = drop-first ys i x rest e in
    let next : i + 1 + 1 ≡ suc i + 1 = omega arith in
    let more : suc (i + 1) ≡ suc i + 1 = omega arith in
    (both.0, both.1 ∙ ap (λ n. drop n (y ∷ ys)) more))

handed : (head : ℕ) (phase : Bool) (command : Command) (plan : MadePlan) (others : List ℕ) (shares : List Share) (from part : ℕ) (slots : List Slot)
    (ps : List Progress) (l : Lane) → IsWhole head slots ps → (let v : Lane = record { head = head; phase = phase; tags = tags_of slots ps } in v) ≡ l
    → IsRising from others → All (IsWaiting slots ps command) others → plan_in (slice_get ps command.leader) ≡ Some plan
    → shares ≡ drop part (shares_made plan) → AreHanded head phase slots ps others shares part command l
handed head phase command plan [] shares from part slots ps l whole view rise waiting kept are = record { whole = whole; seen = view }
handed head phase command plan (tag ∷ others) [] from part slots ps l whole view rise waiting kept are = record { whole = whole; seen = view }
handed head phase command plan (tag ∷ others) (share ∷ shares) from part slots ps l whole view rise waiting kept are =
    let nothing : Bool = is_no_command share in
    let s : Slot = slot.Used command (point_of nothing) in
    let p : Progress = part_kept nothing part in
    let t : Tag = handed_tag nothing command share in
    let new : List Slot = with_point (point_of nothing) tag slots in
    let both = drop-first (shares_made plan) part share shares are in
    let was : IsWaiting slots ps command tag = waiting 0 0 (omega arith) in
    let next = part-next slots ps command plan share tag part nothing was kept both.0 in
    let moved = moved-slot slots tag command slot.Taken (point_of nothing) was.there in
    let behind = handed head phase command plan others shares (tag + 1) (part + 1) new (set ps tag p) (tag_changed tag t l)
    (lane-whole head phase slots ps l whole view tag tag s p t new refl moved next
    (led-set slots tag s whole.led was.below (sym (ap command_in was.there))))
    (lane-changed head phase slots ps l whole view tag tag s p t new refl moved next)
    rise.1
    (λ k d within.
    (let above = rising-above (tag + 1) others rise.1 k d within in
    waiting-behind slots ps command tag (get_or others k d) (moved_to (point_of nothing) (slot_at slots tag)) p (λ same. absurd (omega arith))
    (waiting (suc k) d (omega arith))))
    (next-stays slots ps (same head phase slots ps l whole view) whole.used tag s p t next command.leader plan kept)
    both.1 in
    record { whole = behind.whole; seen = behind.seen }

-- ---- the first part is handed on last

slots-apart : (tags : List ℕ) (shares : List Share) (slots : List Slot) (tag from : ℕ) (s : Slot) → tag < from → IsRising from tags
    → parts_slots tags shares (set slots tag s) ≡ set (parts_slots tags shares slots) tag s
slots-apart [] shares slots tag from s low rise = refl
slots-apart (u ∷ tags) [] slots tag from s low rise = refl
slots-apart (u ∷ tags) (share ∷ shares) slots tag from s low rise =
    let first = rise.0 in
    let point : Point = point_of (is_no_command share) in
    let other : with_point point u (set slots tag s) ≡ set (with_point point u slots) tag s =
    ap (λ (o : Option Slot). set (set slots tag s) u (moved_to point (slot_or_free o))) (get-other slots tag u s (λ same. absurd (omega arith)))
    ∙ set-apart slots tag u s (moved_to point (slot_at slots u)) (λ same. absurd (omega arith)) in
    ap (parts_slots tags shares) other ∙ slots-apart tags shares (with_point point u slots) tag (u + 1) s (omega arith) rise.1

kept-apart : (tags : List ℕ) (shares : List Share) (part : ℕ) (ps : List Progress) (tag from : ℕ) (p : Progress) → tag < from → IsRising from tags
    → parts_kept tags shares part (set ps tag p) ≡ set (parts_kept tags shares part ps) tag p
kept-apart [] shares part ps tag from p low rise = refl
kept-apart (u ∷ tags) [] part ps tag from p low rise = refl
kept-apart (u ∷ tags) (share ∷ shares) part ps tag from p low rise =
    let first = rise.0 in
    let nothing : Bool = is_no_command share in
    ap (parts_kept tags shares (part + 1)) (set-apart ps tag u p (part_kept nothing part) (λ same. absurd (omega arith)))
    ∙ kept-apart tags shares (part + 1) (set ps u (part_kept nothing part)) tag (u + 1) p (omega arith) rise.1

slot-stays : (tags : List ℕ) (shares : List Share) (slots : List Slot) (tag from : ℕ) → tag < from → IsRising from tags
    → slot_at (parts_slots tags shares slots) tag ≡ slot_at slots tag
slot-stays [] shares slots tag from low rise = refl
slot-stays (u ∷ tags) [] slots tag from low rise = refl
slot-stays (u ∷ tags) (share ∷ shares) slots tag from low rise =
    let first = rise.0 in
    let point : Point = point_of (is_no_command share) in
    slot-stays tags shares (with_point point u slots) tag (u + 1) (omega arith) rise.1
    ∙ ap slot_or_free (get-other slots u tag (moved_to point (slot_at slots u)) (λ same. absurd (omega arith)))

-- ---- in a lane

module _ (head : ℕ) (phase : Bool) (slots : List Slot) (ps : List Progress) (old : Lane) (whole : IsWhole head slots ps)
    (view : (let l : Lane = record { head = head; phase = phase; tags = tags_of slots ps } in l) ≡ old)
    (tag : ℕ) (t : IsTaken tag (slice_get old.tags tag))
    (together : All (λ u. state_in (slice_get old.tags u) ≡ Some state.Taken) (group_in (Some old) tag)) where
  whose : command_in (slot_at slots tag) ≡ Some t.command
  whose = its-command head phase slots ps old whole view tag t

  -- all tags of the command wait
  pub all-waiting : All (IsWaiting slots ps t.command) (group tag slots)
  all-waiting = λ k d within.
      (let u : ℕ = get_or (group tag slots) k d in
      let taken = subst (λ (xs : List ℕ). All (λ u. state_in (slice_get old.tags u) ≡ Some state.Taken) xs) (lane-group head phase slots ps old whole view tag) together k d within in
      let at = lane-taken head phase slots ps old whole view u taken in
      let its = (group-members head slots ps whole tag t.command whose t.led k d within).its in
      let both : Some at.command ≡ Some t.command = sym (ap command_in at.slot_is) ∙ its in
      let one : at.command ≡ t.command = cc in
      record {
        below = at.below;
        there = at.slot_is ∙ ap (λ (c : Command). slot.Used c slot.Taken) one;
        reads = at.reads;
        kept_is = at.progress_is;
      })

  pub all-taken : All (λ u. state_at slots u ≡ state.Taken) (group tag slots)
  all-taken = λ k d within. ap state_of (all-waiting k d within).there

  pub all-below : All (λ u. u < length ps) (group tag slots)
  all-below = λ k d within.
      (let below = (all-waiting k d within).below in let even = same head phase slots ps old whole view in omega arith)

  others : List ℕ
  others = others_of head slots ps whole tag t.command whose t.led

  front : group tag slots ≡ tag ∷ others
  unfolding others
  front = group-front head slots ps whole tag t.command whose t.led

  rises : IsRising (tag + 1) others
  unfolding others
  rises = others-rise head slots ps whole tag t.command whose t.led

  tag-waiting : IsWaiting slots ps t.command tag
  tag-waiting = subst (All (IsWaiting slots ps t.command)) front all-waiting 0 0 (omega arith)

  others-waiting : All (IsWaiting slots ps t.command) others
  others-waiting = λ k d within. subst (All (IsWaiting slots ps t.command)) front all-waiting (suc k) d (omega arith)

  pub tag-below : tag < length ps
  tag-below = (let below = tag-waiting.below in let even = same head phase slots ps old whole view in omega arith)

  -- the other parts are handed on, and the first one waits
  module _ (plan : MadePlan) (some : 0 < length (shares_made plan)) (nothing : Bool)
      (is : (share : Share) → share_made 0 plan ≡ Some share → nothing ≡ is_no_command share)
      (slots_then : List Slot) (slots_are : slots_then ≡ parts_slots (drop 1 (group tag slots)) (drop 1 (shares_made plan)) slots)
      (kept_then : List Progress) (kept_are : kept_then ≡ parts_kept (drop 1 (group tag slots)) (drop 1 (shares_made plan)) 1 ps) where
    abbrev rest : List Share
    rest = drop 1 (shares_made plan)

    slots-others : slots_then ≡ parts_slots others rest slots
    slots-others = slots_are ∙ ap (λ (ts : List ℕ). parts_slots (drop 1 ts) rest slots) front

    kept-others : kept_then ≡ parts_kept others rest 1 ps
    kept-others = kept_are ∙ ap (λ (ts : List ℕ). parts_kept (drop 1 ts) rest 1 ps) front

    first-slot : slot_at slots_then tag ≡ slot.Used t.command slot.Taken
    first-slot =
        ap (λ (xs : List Slot). slot_at xs tag) slots-others ∙ slot-stays others rest slots tag (tag + 1) (omega arith) rises ∙ tag-waiting.there

    pub first-state : state_at slots_then tag ≡ state.Taken
    first-state = ap state_of first-slot

    -- the first part
    share-there : (share : Share) × (share_made 0 plan ≡ Some share)
    share-there = slice_get-there (shares_made plan) 0 some

    abbrev first_slot : Slot
    first_slot = slot.Used t.command (point_of nothing)

    first-step : IsNext slots ps tag first_slot (first_kept nothing plan) (handed_tag nothing t.command share-there.0)
    first-step = first-next slots ps t.command plan share-there.0 tag nothing tag-waiting share-there.1

    after : AreHanded head phase (set slots tag first_slot) (set ps tag (first_kept nothing plan)) others rest 1 t.command
        (tag_changed tag (handed_tag nothing t.command share-there.0) old)
    after =
        handed head phase t.command plan others rest (tag + 1) 1 (set slots tag first_slot) (set ps tag (first_kept nothing plan))
        (tag_changed tag (handed_tag nothing t.command share-there.0) old)
        (lane-whole head phase slots ps old whole view tag tag first_slot (first_kept nothing plan) (handed_tag nothing t.command share-there.0)
        (set slots tag first_slot) refl refl first-step (led-set slots tag first_slot whole.led tag-waiting.below (sym (ap command_in tag-waiting.there))))
        (lane-changed head phase slots ps old whole view tag tag first_slot (first_kept nothing plan) (handed_tag nothing t.command share-there.0)
        (set slots tag first_slot) refl refl first-step)
        rises
        (λ k d within.
        (let above = rising-above (tag + 1) others rises k d within in
        waiting-behind slots ps t.command tag (get_or others k d) first_slot (first_kept nothing plan) (λ same. absurd (omega arith)) (others-waiting k d within)))
        (ap (λ (n : ℕ). plan_in (slice_get (set ps tag (first_kept nothing plan)) n)) t.led
        ∙ ap plan_in (get-set ps tag (first_kept nothing plan) tag-below) ∙ first-plan nothing plan)
        refl

    -- as it is done
    slots-done : (new : List Slot) → new ≡ with_point (point_of nothing) tag slots_then → new ≡ parts_slots others rest (set slots tag first_slot)
    slots-done new changed =
        changed ∙ moved-slot slots_then tag t.command slot.Taken (point_of nothing) first-slot
        ∙ ap (λ (xs : List Slot). set xs tag first_slot) slots-others
        ∙ sym (slots-apart others rest slots tag (tag + 1) first_slot (omega arith) rises)

    kept-done : (i : ℕ) (p : Progress) → i ≡ tag → p ≡ first_kept nothing plan
        → set kept_then i p ≡ parts_kept others rest 1 (set ps tag (first_kept nothing plan))
    kept-done i p number made =
        ap (λ (k : ℕ). set kept_then k p) number ∙ ap (set kept_then tag) made
        ∙ ap (λ (xs : List Progress). set xs tag (first_kept nothing plan)) kept-others
        ∙ sym (kept-apart others rest 1 ps tag (tag + 1) (first_kept nothing plan) (omega arith) rises)

    pub flown-whole : (new : List Slot) (i : ℕ) (p : Progress) → new ≡ with_point (point_of nothing) tag slots_then → i ≡ tag → p ≡ first_kept nothing plan
        → IsWhole head new (set kept_then i p)
    flown-whole new i p changed number made =
        subst (λ (n : List Slot). IsWhole head n (set kept_then i p)) (sym (slots-done new changed))
        (subst (λ (k : List Progress). IsWhole head (parts_slots others rest (set slots tag first_slot)) k) (sym (kept-done i p number made)) after.whole)

    pub flown-changed : (new : List Slot) (i : ℕ) (p : Progress) → new ≡ with_point (point_of nothing) tag slots_then → i ≡ tag → p ≡ first_kept nothing plan
        → (let l : Lane = record { head = head; phase = phase; tags = tags_of new (set kept_then i p) } in l)
        ≡ all_handed (group_in (Some old) tag) (shares_made plan) t.command old
    flown-changed new i p changed number made =
        (let whole_is = lane-group head phase slots ps old whole view tag ∙ front in
        let nothing_is = is share-there.0 share-there.1 in
        ap (λ (n : List Slot). let l : Lane = record { head = head; phase = phase; tags = tags_of n (set kept_then i p) } in l) (slots-done new changed)
        ∙ ap (λ (k : List Progress). let l : Lane = record { head = head; phase = phase; tags = tags_of (parts_slots others rest (set slots tag first_slot)) k } in l)
        (kept-done i p number made)
        ∙ after.seen
        ∙ ap (λ (b : Bool). all_handed others rest t.command (tag_changed tag (handed_tag b t.command share-there.0) old)) nothing_is
        ∙ sym (ap (λ (ss : List Share). all_handed (tag ∷ others) ss t.command old) (drop-front (shares_made plan) 0 share-there.0 share-there.1))
        ∙ sym (ap (λ (ts : List ℕ). all_handed ts (shares_made plan) t.command old) whole_is))
