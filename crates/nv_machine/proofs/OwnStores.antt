-- Each effect of a Submit is of a share of the plan, and what it writes in a submission ring is the share's entry.
use Rattle.std.proofs.Common.{◌≡◌, ℕ, ◌+◌, ◌<◌, ◌≤◌, true, false, cond, List, [], ◌∷◌, ◌++◌, All, length, slice_get, Option, Some, None, arith, refl, sym}
use Rattle.std.proofs.Common.{set, subst}
use Rattle.std.specs.List.{Contains}
use Rattle.std.proofs.lemmas.Bool.Decides.{nat_tests}
use Rattle.std.proofs.lemmas.List.Elements.{All-append, All-cons, All-contains, All-contains_itself, All-head, All-nil, All-tail, All-weaker}
use Rattle.nv_entry.specs.Status.{StatusField}
use Rattle.nv_entry.specs.StatusCode.{done_with}
use Rattle.nv_entry.specs.declared.status_code.StatusCode.TheVariants.{Success}
use Rattle.nv_laws_sound.specs.Area.{form_ranges, ranges_of}
use Rattle.nv_laws_sound.specs.Consistent.{IsPlanned}
use Rattle.nv_laws_sound.specs.LaidOut.{IsLaidOut}
use Rattle.nv_laws_sound.specs.Side.{IsKept, Side}
use Rattle.nv_laws_sound.proofs.Lists.{IsThere, Put, Was, set-there, slice_get-below}
use Rattle.nv_laws_sound.proofs.PlanSizes.{list-short, ranges-short}
use Rattle.nv_laws_sound.proofs.Planned.{Answers, IsAnswerOr, Plans, plan_over-is, shares-planned}
use Rattle.nv_laws_sound.proofs.Rings.{next-below}
use Rattle.nv_machine.specs.Doing.{Called, Doing, group_at, owner_in, tag_at, tag_put, tags_put}
use Rattle.nv_machine.specs.Effects.{Effect, Store, WritesIn, copies_from, writes_to}
use Rattle.nv_machine.specs.Entries.{IsInRing, IsOfShare, StoresEntry}
use Rattle.nv_machine.specs.Machine.{bounce_effects, call, called, carried_out, carry_out, ended_at_once, form_effects, handed_on, share_effects, submit_by, submitted_on}
use Rattle.nv_machine.proofs.Cases.{tag-lane}
use Rattle.nv_machine.proofs.Elims.{each-one, each-owner, each-taken, owner-given}
use Rattle.nv_machine.proofs.OwnEntries.{own-entry}
use Rattle.nv_machine.proofs.OwnPages.{HasFew, plan-few}
use Rattle.nv_machine.proofs.SubmitCalls.{group-below}
use Rattle.nv_machine.proofs.Writes.{copies_from-written}
use Rattle.nv_mem.specs.Places.{places_of}
use Rattle.nv_model.specs.Judge.{Clear, Form, Keep, Manage, Transfer, Work, form_of}
use Rattle.nv_model.specs.Limits.{most_bytes}
use Rattle.nv_model.specs.Queue.{next_slot}
use Rattle.nv_model.specs.Transcript.{Outcome, ReadDone, Settled, Wanted}
use Rattle.nv_world_model.specs.Area.{bounce_page, list_bytes, list_page, prps_of, ring_size, submission_slot, tag_count}
use Rattle.nv_world_model.specs.Geometry.{Geometry, Guest, regions_of}
use Rattle.nv_world_model.specs.Plan.{Answer, Bounced, Direct, NoData, Plan, plan_over}
use Rattle.nv_world_model.specs.Seat.{Owner}
use Rattle.nv_world_model.specs.Share.{Share, shares_of}
use Rattle.nv_world_model.specs.ShareArea.{is_no_command, share_entry}
use Rattle.nv_world_model.specs.World.{Command, Ended, Tag, Taken}
use Rattle.nv_world_model.specs.declared.event.Event.TheVariants as event

-- ---- shares

-- the shares of a plan are planned
pub plan-shares : (given : Guest) (entry : List ℕ) (plan : Plan) → IsAnswerOr given entry plan → All (IsPlanned given entry) (shares_of given.namespace entry plan)
plan-shares given entry plan (Plans whole) = shares-planned given entry plan whole
plan-shares given entry plan (Answers st fails same) =
    subst (λ p. All (IsPlanned given entry) (shares_of given.namespace entry p)) (sym same) (All-nil (IsPlanned given entry))

-- ---- a call under way

-- its effects are such, and the lane's tail is a slot
record IsSoFar (P : Effect → Type 0) (lane : ℕ) (m : Doing) : Type 0 where
  effects : All P m.effects
  slot : (tail : ℕ) → slice_get m.side.tails lane ≡ Some tail → tail < ring_size

module _ (P : Effect → Type 0) (lane : ℕ) where
  -- tags are no effects
  tags-far : (tags : List ℕ) (t : Tag) (m : Doing) → IsSoFar P lane m → IsSoFar P lane (tags_put lane tags t m)
  unfolding tags_put
  tags-far [] t m is = is
  tags-far (tag ∷ tags) t m is = tags-far tags t (tag_put lane tag t m) (record { effects = is.effects; slot = is.slot })

  once-far : (tags : List ℕ) (command : Command) (st : StatusField) (m : Doing) → IsSoFar P lane m → IsSoFar P lane (ended_at_once lane tags command st m)
  once-far [] command st m is = is
  once-far (tag ∷ tags) command st m is = tags-far tags _ (tag_put lane tag _ m) (record { effects = is.effects; slot = is.slot })

  module _ (mediator : ℕ) (command : Command) (o : Owner)
      (each : (share : Share) (tag slot : ℕ) → IsPlanned o.given command.entry share → is_no_command share ≡ false → tag < tag_count → slot < ring_size
      → All P (share_effects share o.given command.entry mediator lane tag slot)) where
    slot-set : (tails : List ℕ) (at tail : ℕ) → at < ring_size → ((n : ℕ) → slice_get tails lane ≡ Some n → n < ring_size)
        → slice_get (set tails lane (next_slot ring_size at)) lane ≡ Some tail → tail < ring_size
    slot-set tails at tail below slot there = by (set-there tails lane (next_slot ring_size at) lane tail there)
      where
        by : IsThere tails lane (next_slot ring_size at) lane tail → tail < ring_size
        by (Put same is) = subst (λ n. n < ring_size) is (next-below at below)
        by (Was apart was) = slot tail was

    one-submitted : (t : Option ℕ) (tag : ℕ) (share : Share) (m : Doing) → slice_get m.side.tails lane ≡ t → tag < tag_count → IsPlanned o.given command.entry share
        → is_no_command share ≡ false → IsSoFar P lane m → IsSoFar P lane (submitted_on t mediator lane tag command share o m)
    one-submitted None tag share m there tag_below planned some is = is
    one-submitted (Some at) tag share m there tag_below planned some is =
        let below = is.slot at there in
        record {
          effects = All-append P m.effects (share_effects share o.given command.entry mediator lane tag at) is.effects (each share tag at planned some tag_below below);
          slot = λ tail found. slot-set m.side.tails at tail below is.slot found;
        }

    one-carried : (tag : ℕ) (share : Share) (m : Doing) → tag < tag_count → IsPlanned o.given command.entry share → IsSoFar P lane m
        → IsSoFar P lane (carried_out mediator lane tag command share o m)
    one-carried tag share m tag_below planned is =
        (elim (is_no_command share) as (λ b. is_no_command share ≡ b
        → IsSoFar P lane (cond b (tag_put lane tag (Ended command (done_with Success) (Some share)) m)
        (submitted_on (slice_get m.side.tails lane) mediator lane tag command share o m))) [
          | true ↦ λ none. record { effects = is.effects; slot = is.slot }
          | false ↦ λ some. one-submitted (slice_get m.side.tails lane) tag share m refl tag_below planned some is
        ]) refl

    all-handed : (tags : List ℕ) (shares : List Share) (m : Doing) → All (λ n. n < tag_count) tags → All (IsPlanned o.given command.entry) shares → IsSoFar P lane m
        → IsSoFar P lane (handed_on mediator lane tags shares command o m)
    unfolding handed_on
    all-handed [] shares m below planned is = is
    all-handed (tag ∷ tags) [] m below planned is = is
    all-handed (tag ∷ tags) (share ∷ shares) m below planned is =
        all-handed tags shares (carried_out mediator lane tag command share o m) (All-tail (λ n. n < tag_count) tag tags below)
        (All-tail (IsPlanned o.given command.entry) share shares planned)
        (one-carried tag share m (All-head (λ n. n < tag_count) tag tags below) (All-head (IsPlanned o.given command.entry) share shares planned) is)

    plan-carried : (plan : Plan) (tags : List ℕ) (m : Doing) → All (λ n. n < tag_count) tags → All (IsPlanned o.given command.entry) (shares_of o.given.namespace command.entry plan)
        → IsSoFar P lane m → IsSoFar P lane (carry_out plan mediator lane tags command o m)
    plan-carried (Answer st) tags m below planned is = once-far tags command st m is
    plan-carried (NoData work) tags m below planned is = all-handed tags _ m below planned is
    plan-carried (Direct work) tags m below planned is = all-handed tags _ m below planned is
    plan-carried (Bounced work) tags m below planned is = all-handed tags _ m below planned is

    outcome-submitted : (reads : List ReadDone) (outcome : Outcome Plan) → plan_over o.given command.entry reads ≡ outcome → (tags : List ℕ) (m : Doing)
        → All (λ n. n < tag_count) tags → IsSoFar P lane m → All P (submit_by outcome mediator lane tags command o m).now.effects
    outcome-submitted reads (Wanted addr len) over tags m below is = is.effects
    outcome-submitted reads (Settled plan) over tags m below is =
        (plan-carried plan tags m below (plan-shares o.given command.entry plan (plan_over-is o.given command.entry reads plan over)) is).effects

-- ---- the event

-- what holds of the effects of each share of the plan holds of those of a Submit
submit-each : (P : Effect → Type 0) (geometry : Geometry) (s : Side) (lane leader : ℕ) (fetched : List ℕ) → IsKept geometry s
    → ((command : Command) (reads : List ReadDone) (given : Guest) (share : Share) (tag slot : ℕ) → tag_at s lane leader ≡ Some (Taken command reads)
    → slice_get geometry.guests command.guest ≡ Some given → IsPlanned given command.entry share → is_no_command share ≡ false → tag < tag_count → slot < ring_size
    → All P (share_effects share given command.entry geometry.mediator lane tag slot))
    → All P (call geometry (event.Submit lane leader) fetched s).now.effects
unfolding called
submit-each P geometry s lane leader fetched kept each =
    let m : Doing = record { side = s; effects = [] } in
    let Each : Called → Type 0 = λ c. All P c.now.effects in
    each-taken Each m (λ r. All-nil P) leader (tag_at s lane leader) _ (λ command reads there.
    each-owner Each m (λ r. All-nil P) (owner_in geometry s command.guest) _ (λ o whose.
    each-one Each m (λ r. All-nil P) (slice_get s.tails lane) _ (λ tail found.
    (let l = tag-lane (slice_get s.lanes lane) leader (Taken command reads) there in
    let given = owner-given command.guest (slice_get geometry.guests command.guest) (slice_get s.controllers command.guest) o whose in
    outcome-submitted P lane geometry.mediator command o
    (λ share tag slot planned some tag_below slot_below. each command reads o.given share tag slot there given planned some tag_below slot_below)
    reads (plan_over o.given command.entry reads) refl (group_at s lane leader) m
    (group-below s.lanes lane leader l.0 l.1.0 (kept.lanes lane l.0 l.1.0).tags_are)
    (record { effects = All-nil P; slot = kept.slots lane })))))

pub submit-shares : (geometry : Geometry) (s : Side) (lane leader : ℕ) (fetched : List ℕ) → IsKept geometry s
    → All (IsOfShare geometry s lane leader) (call geometry (event.Submit lane leader) fetched s).now.effects
submit-shares geometry s lane leader fetched kept =
    submit-each (IsOfShare geometry s lane leader) geometry s lane leader fetched kept
    (λ command reads given share tag slot there owner planned some tag_below slot_below.
    (let effects : List Effect = share_effects share given command.entry geometry.mediator lane tag slot in
    All-weaker (Contains effects) (IsOfShare geometry s lane leader) (λ effect among.
    record {
      command = command;
      reads = reads;
      taken = there;
      given = given;
      owner = owner;
      share = share;
      planned = planned;
      some = some;
      tag = tag;
      tag_below = tag_below;
      slot = slot;
      slot_below = slot_below;
      among = among;
    }) effects (All-contains_itself effects)))

-- ---- rings

-- where a store writes
store-written : (to : ℕ) (bytes : List ℕ) (at : ℕ) → writes_to (Store to bytes) at ≡ true → (to ≤ at) × (at < to + length bytes)
store-written to bytes at is = (grind (arith, nat_tests), grind (arith, nat_tests))

module _ (bounce : ℕ) where
  -- an effect writes in the tag's bounce pages
  abbrev InPages : ℕ → Type 0
  InPages at = (bounce ≤ at) × (at < bounce + most_bytes)

  form-written : (form : Form) (given : Guest) (work : Work) → length (places_of work.pieces) ≤ most_bytes → length (form_ranges form given work) ≤ most_bytes
      → All (WritesIn InPages) (form_effects form given bounce work)
  form-written (Transfer true) given work few short = All-nil (WritesIn InPages)
  form-written (Transfer false) given work few short =
      All-weaker (WritesIn (λ at. (bounce ≤ at) × (at < bounce + length (places_of work.pieces)))) (WritesIn InPages)
      (λ e within at is. (let there = within at is in let high = there.1 in (there.0, omega (arith, high, few))))
      (copies_from (regions_of given) (places_of work.pieces) bounce) (copies_from-written (regions_of given) (places_of work.pieces) bounce)
  form-written Clear given work few short = All-nil (WritesIn InPages)
  form-written Manage given work few short =
      All-cons (WritesIn InPages) _ [] (λ at is. (let there = store-written bounce (form_ranges Manage given work) at is in
      let high = there.1 in (there.0, omega (arith, high, short)))) (All-nil (WritesIn InPages))
  form-written Keep given work few short = All-nil (WritesIn InPages)

  plan-written : (plan : Plan) (given : Guest) → HasFew plan → length (ranges_of plan given) ≤ most_bytes → All (WritesIn InPages) (bounce_effects plan given bounce)
  plan-written (Answer st) given few short = All-nil (WritesIn InPages)
  plan-written (NoData work) given few short = All-nil (WritesIn InPages)
  plan-written (Direct work) given few short = All-nil (WritesIn InPages)
  plan-written (Bounced work) given few short = form-written (form_of work.opcode) given work few short

module _ (host_bytes lanes : ℕ) (geometry : Geometry) (laid : IsLaidOut host_bytes lanes geometry) (lane other at : ℕ)
    (inside : IsInRing geometry other at) where
  -- an effect that writes there is that store
  abbrev IsThat : Effect → Effect → Type 0
  IsThat that effect = writes_to effect at ≡ true → effect ≡ that

  module _ (command : Command) (given : Guest) (share : Share) (tag slot : ℕ) (planned : IsPlanned given command.entry share) (tag_below : tag < tag_count) where
    abbrev list : ℕ
    list = list_page geometry.mediator lane tag

    abbrev bounce : ℕ
    bounce = bounce_page geometry.mediator lane tag

    abbrev that : Effect
    that = Store (submission_slot geometry.mediator lane slot) (share_entry share given.namespace given command.entry geometry.mediator lane tag)

    -- the tag's pages are in no ring
    pages-outside : list ≤ at → at < bounce + most_bytes → ⊥
    pages-outside low high =
        let from = inside.0 in
        let to = inside.1 in
        omega (arith, low, high, from, to, tag_below)

    ring-that : All (IsThat that) (share_effects share given command.entry geometry.mediator lane tag slot)
    ring-that =
        let bytes : List ℕ = list_bytes (prps_of share.plan given list bounce) in
        let pages = laid.pages in
        let few = list-short given command.entry share list bounce (omega (arith, pages)) planned in
        let short = ranges-short given command.entry share planned in
        All-cons (IsThat that) (Store list bytes) (bounce_effects share.plan given bounce ++ that ∷ [])
        (λ is. (let there = store-written list bytes at is in let high = there.1 in absurd (pages-outside there.0 (omega (arith, high, few)))))
        (All-append (IsThat that) (bounce_effects share.plan given bounce) (that ∷ [])
        (All-weaker (WritesIn (InPages bounce)) (IsThat that)
        (λ e within is. (let there = within at is in let low = there.0 in absurd (pages-outside (omega (arith, low)) there.1)))
        (bounce_effects share.plan given bounce) (plan-written bounce share.plan given (plan-few given command.entry share planned) (omega (arith, short))))
        (All-cons (IsThat that) that [] (λ is. refl) (All-nil (IsThat that))))

pub submit-rings : (host_bytes : ℕ) (geometry : Geometry) (s : Side) (lane leader other at : ℕ) (fetched : List ℕ) (effect : Effect)
    → IsLaidOut host_bytes (length s.lanes) geometry → IsKept geometry s
    → Contains (call geometry (event.Submit lane leader) fetched s).now.effects effect
    → IsInRing geometry other at → writes_to effect at ≡ true → StoresEntry geometry s lane leader effect
submit-rings host_bytes geometry s lane leader other at fetched effect laid kept among inside written =
    let of = All-contains (IsOfShare geometry s lane leader) (call geometry (event.Submit lane leader) fetched s).now.effects effect
    (submit-shares geometry s lane leader fetched kept) among in
    let l = tag-lane (slice_get s.lanes lane) leader (Taken of.command of.reads) of.taken in
    let that : Effect = Store (submission_slot geometry.mediator lane of.slot)
    (share_entry of.share of.given.namespace of.given of.command.entry geometry.mediator lane of.tag) in
    record {
      of = of;
      own = own-entry host_bytes (length s.lanes) geometry laid of.command.guest of.given of.owner lane of.tag (slice_get-below s.lanes lane l.0 l.1.0) of.tag_below
          of.command.entry of.share of.planned of.some;
      is = All-contains (IsThat host_bytes (length s.lanes) geometry laid lane other at inside that)
          (share_effects of.share of.given of.command.entry geometry.mediator lane of.tag of.slot) effect
          (ring-that host_bytes (length s.lanes) geometry laid lane other at inside of.command of.given of.share of.tag of.slot of.planned of.tag_below) of.among written;
    }
