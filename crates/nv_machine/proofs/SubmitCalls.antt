-- Submit in a world.
use Rattle.std.proofs.Common.{◌≡◌, ℕ, ◌<◌, ◌≤◌, Bool, true, false, cond, List, [], ◌∷◌, length, slice_get, All, Option, Some, None, arith, refl, sym, ap, ◌∙◌, subst}
use Rattle.std.proofs.lemmas.List.Elements.{All-head, All-tail, All-weaker}
use Rattle.nv_entry.specs.StatusCode.{done_with}
use Rattle.nv_entry.specs.declared.status_code.StatusCode.TheVariants.{Success}
use Rattle.nv_laws_sound.proofs.Lists.{length-set, slice_get-below}
use Rattle.nv_laws_sound.proofs.Numbers.{Passes, numbers-are, numbers-pass, numbers_where}
use Rattle.nv_laws_sound.proofs.Planned.{Answers, IsAnswerOr, Plans, plan_over-is, shares-planned}
use Rattle.nv_laws_sound.specs.Consistent.{IsPlanned}
use Rattle.nv_laws_sound.specs.LaidOut.{IsLaidOut}
use Rattle.nv_laws_sound.specs.Side.{IsKept}
use Rattle.nv_machine.specs.Doing.{Doing, for_one, group_at, owner_in, tag_at, tag_put, told}
use Rattle.nv_machine.specs.Effects.{Effect, effects_on}
use Rattle.nv_machine.specs.InWorld.{in_world}
use Rattle.nv_machine.specs.Machine.{bounce_effects, called, carried_out, carry_out, form_effects, handed_on, share_effects, submit_by, submitted, submitted_on}
use Rattle.nv_machine.proofs.Cases.{both-owner, both-taken, tag-lane}
use Rattle.nv_machine.proofs.Effects.{copies-gather, effects_on-append}
use Rattle.nv_machine.proofs.InWorlds.{Is, in-tail_put, in-told, no-rung, rung-there}
use Rattle.nv_machine.proofs.OwnPages.{HasFew, bounce-apart, list-apart, plan-few}
use Rattle.nv_machine.proofs.TakeCalls.{at_once-ended}
use Rattle.nv_mem.specs.GuestMap.{span_met}
use Rattle.nv_mem.specs.Places.{places_of}
use Rattle.nv_model.specs.Judge.{Clear, Form, Keep, Manage, Transfer, Work, form_of}
use Rattle.nv_model.specs.Limits.{most_bytes}
use Rattle.nv_model.specs.Memory.{gathered, image, stored}
use Rattle.nv_model.specs.Queue.{next_slot}
use Rattle.nv_model.specs.Transcript.{Outcome, ReadDone, Settled, Wanted}
use Rattle.nv_model.specs.declared.reply.Reply.TheVariants as reply
use Rattle.nv_model.proofs.MemoryLemmas.{stored-nil}
use Rattle.nv_model.proofs.PutImages.{image-stored_clear}
use Rattle.nv_world_model.specs.Area.{bounce_page, list_bytes, list_page, prps_of, ring_size, submission_slot, tag_count}
use Rattle.nv_world_model.specs.Device.{DeviceLane, rung}
use Rattle.nv_world_model.specs.Geometry.{Geometry, Guest, regions_of}
use Rattle.nv_world_model.specs.Plan.{Answer, Bounced, Direct, NoData, Plan, plan_over}
use Rattle.nv_world_model.specs.Seat.{Owner}
use Rattle.nv_world_model.specs.Share.{Share}
use Rattle.nv_world_model.specs.ShareArea.{form_own_bytes, is_no_command, own_bytes, share_entry, share_written}
use Rattle.nv_world_model.specs.Step as step
use Rattle.nv_world_model.specs.World.{Command, Ended, Flying, Lane, Queued, Tag, Taken, World, group, group_in, is_that, leader_of, with_device, with_host, with_tag}
use Rattle.nv_world_model.specs.declared.event.Event.TheVariants as event
use Rattle.nv_world_model.proofs.Seats.{owner_of-is}

-- ---- a share in memory

-- what goes to the bounce pages, where the guest sees nothing of them nor of what was stored before
form-bounced : (form : Form) (given : Guest) (bounce : ℕ) (work : Work) (host listed : ℕ → ℕ) → image (regions_of given) listed ≡ image (regions_of given) host
    → span_met (regions_of given) bounce (length (places_of work.pieces)) ≡ false
    → effects_on (form_effects form given bounce work) listed ≡ stored listed bounce (form_own_bytes form given.namespace given host work)
unfolding effects_on
form-bounced (Transfer true) given bounce work host listed same apart = sym (stored-nil listed bounce)
form-bounced (Transfer false) given bounce work host listed same apart =
    copies-gather (regions_of given) (places_of work.pieces) bounce listed apart
    ∙ ap (λ (m : ℕ → ℕ). stored listed bounce (gathered m (places_of work.pieces))) same
form-bounced Clear given bounce work host listed same apart = sym (stored-nil listed bounce)
form-bounced Manage given bounce work host listed same apart = refl
form-bounced Keep given bounce work host listed same apart = sym (stored-nil listed bounce)

plan-bounced : (plan : Plan) (given : Guest) (bounce : ℕ) (host listed : ℕ → ℕ) → image (regions_of given) listed ≡ image (regions_of given) host
    → ((len : ℕ) → len ≤ most_bytes → span_met (regions_of given) bounce len ≡ false) → HasFew plan
    → effects_on (bounce_effects plan given bounce) listed ≡ stored listed bounce (own_bytes plan given.namespace given host)
unfolding effects_on
plan-bounced (Answer st) given bounce host listed same apart few = sym (stored-nil listed bounce)
plan-bounced (NoData work) given bounce host listed same apart few = sym (stored-nil listed bounce)
plan-bounced (Direct work) given bounce host listed same apart few = sym (stored-nil listed bounce)
plan-bounced (Bounced work) given bounce host listed same apart few =
    form-bounced (form_of work.opcode) given bounce work host listed same (apart (length (places_of work.pieces)) few)

module _ (host_bytes lanes : ℕ) (geometry : Geometry) (laid : IsLaidOut host_bytes lanes geometry) (lane : ℕ) (in_lanes : lane < lanes) (o : Owner)
    (given : slice_get geometry.guests o.number ≡ Some o.given) where
  share-stored : (tag : ℕ) → tag < tag_count → (share : Share) (entry : List ℕ) (slot : ℕ) (host : ℕ → ℕ) → IsPlanned o.given entry share
      → effects_on (share_effects share o.given entry geometry.mediator lane tag slot) host
      ≡ share_written share o.given entry geometry.mediator lane tag slot host
  unfolding effects_on share_written
  share-stored tag in_tags share entry slot host is =
      let list : ℕ = list_page geometry.mediator lane tag in
      let bounce : ℕ = bounce_page geometry.mediator lane tag in
      let bytes : List ℕ = list_bytes (prps_of share.plan o.given list bounce) in
      let listed : ℕ → ℕ = stored host list bytes in
      let same : image (regions_of o.given) listed ≡ image (regions_of o.given) host =
      image-stored_clear (regions_of o.given) host list bytes
      (list-apart host_bytes lanes geometry laid o.number o.given given lane tag in_lanes in_tags o.given entry share is) in
      effects_on-append (bounce_effects share.plan o.given bounce) _ listed
      ∙ ap (λ (h : ℕ → ℕ). stored h (submission_slot geometry.mediator lane slot) (share_entry share o.given.namespace o.given entry geometry.mediator lane tag))
      (plan-bounced share.plan o.given bounce host listed same
      (bounce-apart host_bytes lanes geometry laid o.number o.given given lane tag in_lanes in_tags) (plan-few o.given entry share is))

  -- ---- the shares of a command

  module _ (w : World) (command : Command) where
    -- a doorbell for each lane
    abbrev HasTails : Doing → Type 0
    HasTails m = length m.side.tails ≡ length w.device

    tail-submitted : (t : Option ℕ) (tag : ℕ) (share : Share) (m : Doing) → slice_get m.side.tails lane ≡ t → HasTails m → tag < tag_count
        → IsPlanned o.given command.entry share
        → in_world w (submitted_on t geometry.mediator lane tag command share o m)
        ≡ step.submitted_on (slice_get (in_world w m).device lane) geometry.mediator lane tag command share o (in_world w m)
    unfolding step.submitted
    tail-submitted None tag share m there many in_tags is =
        ap (λ (d : Option DeviceLane). step.submitted_on d geometry.mediator lane tag command share o (in_world w m)) (sym (no-rung m.side.tails w.device lane many there))
    tail-submitted (Some tail) tag share m there many in_tags is =
        let effects : List Effect = share_effects share o.given command.entry geometry.mediator lane tag tail in
        let t : Tag = Flying command share (Queued tail) in
        let d = rung-there m.side.tails w.device lane tail many there in
        ap (with_tag lane tag t)
        (in-tail_put w lane tail (told effects m) many there
        ∙ ap (with_device lane rung)
        (in-told w effects m
        ∙ ap (λ (h : ℕ → ℕ). with_host h (in_world w m)) (share-stored tag in_tags share command.entry tail (in_world w m).host is)))
        ∙ ap (λ (x : Option DeviceLane). step.submitted_on x geometry.mediator lane tag command share o (in_world w m)) (sym d.1)

    tail-carried : (tag : ℕ) (share : Share) (m : Doing) → HasTails m → tag < tag_count → IsPlanned o.given command.entry share
        → in_world w (carried_out geometry.mediator lane tag command share o m)
        ≡ step.carried_out geometry.mediator lane tag command share o (in_world w m)
    tail-carried tag share m many in_tags is =
        by (is_no_command share)
      where
        by : (b : Bool)
            → in_world w (cond b (tag_put lane tag (Ended command (done_with Success) (Some share)) m)
            (submitted_on (slice_get m.side.tails lane) geometry.mediator lane tag command share o m))
            ≡ cond b (with_tag lane tag (Ended command (done_with Success) (Some share)) (in_world w m))
            (step.submitted_on (slice_get (in_world w m).device lane) geometry.mediator lane tag command share o (in_world w m))
        by true = refl
        by false = tail-submitted (slice_get m.side.tails lane) tag share m refl many in_tags is

    tails-kept : (tag : ℕ) (share : Share) (m : Doing) → HasTails m → HasTails (carried_out geometry.mediator lane tag command share o m)
    tails-kept tag share m many = by (is_no_command share) (slice_get m.side.tails lane)
      where
        by : (b : Bool) (t : Option ℕ)
            → HasTails (cond b (tag_put lane tag (Ended command (done_with Success) (Some share)) m)
            (submitted_on t geometry.mediator lane tag command share o m))
        by true t = many
        by false None = many
        by false (Some tail) = length-set m.side.tails lane (next_slot ring_size tail) ∙ many

    all-handed : (tags : List ℕ) (shares : List Share) (m : Doing) → HasTails m → All (λ tag. tag < tag_count) tags
        → All (IsPlanned o.given command.entry) shares
        → in_world w (handed_on geometry.mediator lane tags shares command o m)
        ≡ step.handed_on geometry.mediator lane tags shares command o (in_world w m)
    unfolding handed_on step.handed_on
    all-handed [] shares m many in_tags are = refl
    all-handed (tag ∷ tags) [] m many in_tags are = refl
    all-handed (tag ∷ tags) (share ∷ shares) m many in_tags are =
        all-handed tags shares (carried_out geometry.mediator lane tag command share o m) (tails-kept tag share m many)
        (All-tail (λ tag. tag < tag_count) tag tags in_tags) (All-tail (IsPlanned o.given command.entry) share shares are)
        ∙ ap (step.handed_on geometry.mediator lane tags shares command o)
        (tail-carried tag share m many (All-head (λ tag. tag < tag_count) tag tags in_tags) (All-head (IsPlanned o.given command.entry) share shares are))

    module _ (tags : List ℕ) (m : Doing) (many : HasTails m) (in_tags : All (λ tag. tag < tag_count) tags) where
      plan-carried : (plan : Plan) → IsAnswerOr o.given command.entry plan
          → in_world w (carry_out plan geometry.mediator lane tags command o m)
          ≡ step.carry_out plan geometry.mediator lane tags command o (in_world w m)
      plan-carried (Answer st) is = at_once-ended w m lane tags command st
      plan-carried (NoData work) (Answers st fails same) = cc
      plan-carried (Direct work) (Answers st fails same) = cc
      plan-carried (Bounced work) (Answers st fails same) = cc
      plan-carried (NoData work) (Plans whole) = all-handed tags _ m many in_tags (shares-planned o.given command.entry (NoData work) whole)
      plan-carried (Direct work) (Plans whole) = all-handed tags _ m many in_tags (shares-planned o.given command.entry (Direct work) whole)
      plan-carried (Bounced work) (Plans whole) = all-handed tags _ m many in_tags (shares-planned o.given command.entry (Bounced work) whole)

      pub outcome-submitted : (reads : List ReadDone) (outcome : Outcome Plan) → plan_over o.given command.entry reads ≡ outcome
          → Is w (submit_by outcome geometry.mediator lane tags command o m)
          (step.submit_by outcome geometry.mediator lane tags command o (in_world w m))
      outcome-submitted reads (Wanted addr len) over = refl
      outcome-submitted reads (Settled plan) over =
          ap (λ (x : World). let a : step.After = record { world = x; reply = reply.Done } in Some a)
          (plan-carried plan (plan_over-is o.given command.entry reads plan over))

-- ---- the event

-- the tags of a command are tags
pub group-below : (lanes : List Lane) (lane leader : ℕ) (l : Lane) → slice_get lanes lane ≡ Some l → length l.tags ≡ tag_count
    → All (λ tag. tag < tag_count) (group_in (slice_get lanes lane) leader)
group-below lanes lane leader l there many =
    let test : Tag → Bool = λ t. is_that leader (leader_of t) in
    subst (λ (x : Option Lane). All (λ tag. tag < tag_count) (group_in x leader)) (sym there)
    (subst (All (λ tag. tag < tag_count)) (sym (numbers-are test l.tags))
    (All-weaker (Passes test l.tags) (λ tag. tag < tag_count)
    (λ n p. (let below = slice_get-below l.tags n p.x p.is in omega (arith, below, many))) (numbers_where test l.tags) (numbers-pass test l.tags)))

module _ (host_bytes : ℕ) (geometry : Geometry) (w : World) (m : Doing) (laid : IsLaidOut host_bytes (length m.side.lanes) geometry)
    (kept : IsKept geometry m.side) (many : length m.side.tails ≡ length w.device) where
  pub submit-is : (lane tag : ℕ) (fetched : List ℕ)
      → Is w (called geometry (event.Submit lane tag) fetched m) (step.step geometry (event.Submit lane tag) (in_world w m))
  unfolding called step.step group
  submit-is lane tag fetched =
      both-taken w m tag (tag_at m.side lane tag) _ _ (λ command reads there leads.
      both-owner w m (owner_in geometry m.side command.guest) _ _ (λ o whose.
      (let l = tag-lane (slice_get m.side.lanes lane) tag (Taken command reads) there in
      let below = slice_get-below m.side.lanes lane l.0 l.1.0 in
      let owns = owner_of-is geometry (in_world w m) command.guest o whose in
      by command reads o below owns.given (group-below m.side.lanes lane tag l.0 l.1.0 (kept.lanes lane l.0 l.1.0).tags_are)
      (slice_get m.side.tails lane) refl)))
    where
      by : (command : Command) (reads : List ReadDone) (o : Owner) → lane < length m.side.lanes → slice_get geometry.guests o.number ≡ Some o.given
          → All (λ n. n < tag_count) (group_at m.side lane tag) → (t : Option ℕ) → slice_get m.side.tails lane ≡ t
          → Is w (for_one t m (λ tail. submit_by (plan_over o.given command.entry reads) geometry.mediator lane (group_at m.side lane tag) command o m))
          (step.for_one (slice_get (in_world w m).device lane) (in_world w m) (λ d.
          step.submit_by (plan_over o.given command.entry reads) geometry.mediator lane (group_at m.side lane tag) command o (in_world w m)))
      by command reads o below given in_tags None there =
          ap (λ (d : Option DeviceLane). Some (step.for_one d (in_world w m) (λ d.
          step.submit_by (plan_over o.given command.entry reads) geometry.mediator lane (group_at m.side lane tag) command o (in_world w m))))
          (sym (no-rung m.side.tails w.device lane many there))
      by command reads o below given in_tags (Some tail) there =
          let d = rung-there m.side.tails w.device lane tail many there in
          outcome-submitted host_bytes (length m.side.lanes) geometry laid lane below o given w command (group_at m.side lane tag) m many in_tags reads
          (plan_over o.given command.entry reads) refl
          ∙ ap (λ (d : Option DeviceLane). Some (step.for_one d (in_world w m) (λ d.
          step.submit_by (plan_over o.given command.entry reads) geometry.mediator lane (group_at m.side lane tag) command o (in_world w m)))) (sym d.1)
