-- Each event of a guest or of the mediator keeps what is kept of the mediator's side.
use Rattle.std.proofs.Common.{◌≡◌, ℕ, zero, suc, ◌≤◌, false, List, length, nat_le, slice_get, Option, Some, None}
use Rattle.std.proofs.Common.{take, ◌&&◌, arith, refl, sym, ap, ◌∙◌, subst}
use Rattle.nv_entry.specs.Status.{StatusField}
use Rattle.nv_entry.specs.StatusCode.{done_with}
use Rattle.nv_entry.specs.Submission.{cid_of}
use Rattle.nv_entry.specs.declared.status_code.StatusCode.TheVariants.{InternalError}
use Rattle.nv_mem.specs.GuestMap.{all_mapped, mapped}
use Rattle.nv_model.specs.Controller.{Posted, front, is_enabled, post, ran_out}
use Rattle.nv_model.specs.Judge.{Keep, form_of}
use Rattle.nv_model.specs.Laws.{IsCompletionInPlace, IsSubmissionInPlace, QueuesInPlace}
use Rattle.nv_model.specs.Limits.{part_size}
use Rattle.nv_model.specs.Memory.{image, stored}
use Rattle.nv_model.specs.Queue.{is_empty}
use Rattle.nv_model.specs.Private.{acted}
use Rattle.nv_model.specs.Transcript.{Outcome, ReadDone, Settled, Wanted}
use Rattle.nv_model.proofs.QueueOrder.{IsKept-in_place}
use Rattle.nv_model.proofs.QueuesKept.{HaveBehind, post-kept, ran_out-kept}
use Rattle.nv_world_model.proofs.Seats.{IsOwner, owner_of-is, owner_of-number}
use Rattle.nv_world_model.proofs.TagCounts.{tags_of_entry-some}
use Rattle.nv_world_model.specs.Device.{DeviceLane}
use Rattle.nv_world_model.specs.Geometry.{Geometry, Guest, regions_of, shape_of}
use Rattle.nv_world_model.specs.Plan.{Answer, Bounced, Direct, NoData, Plan, plan_over}
use Rattle.nv_world_model.specs.Seat.{Owner, owner_of, put_back, seat}
use Rattle.nv_world_model.specs.Share.{Share, shares_of, tags_of_entry}
use Rattle.nv_world_model.specs.Step.{acted_by, acted_in, administered_in, carry_out, deciding, delivered, ended_at_once, entry_at, handed_on, is_io_queue, posted_to, ran_out_of}
use Rattle.nv_world_model.specs.Step.{is_success, list_at, listed, post_all, post_by, reap, reaped, statuses_of, step, submit_by, take_from, take_front, take_tags, taken_to}
use Rattle.nv_world_model.specs.World.{Command, Ended, Free, Lane, Tag, Taken, World, claimed, group, is_free, tag_in, tag_of, with_controller, with_tags}
use Rattle.nv_world_model.specs.declared.event.Event.{Event}
use Rattle.nv_world_model.specs.declared.event.Event.TheVariants as event
use Rattle.nv_laws_sound.specs.Consistent.{IsPlanned}
use Rattle.nv_laws_sound.specs.Groups.{command_of, part_of}
use Rattle.nv_laws_sound.specs.Kept.{IsGuests, IsKeptWorld}
use Rattle.nv_laws_sound.specs.LaidOut.{IsLaidOut}
use Rattle.nv_laws_sound.specs.Mediators.{IsMediators}
use Rattle.nv_laws_sound.proofs.Folds.{group-distinct}
use Rattle.nv_laws_sound.proofs.GroupEvents.{acts-groups, admins-groups, lists-groups}
use Rattle.nv_laws_sound.proofs.GroupsKept.{HasGroups, ended-groups, freed-groups}
use Rattle.nv_laws_sound.proofs.HandedOn.{handed-fold, handed-groups, no-answer}
use Rattle.nv_laws_sound.proofs.KeptSteps.{IsHosted, IsSided, Keeps, act-sided, admin-sided, apart, carried_out-sided, delivered-hosted, ended_at_once-sided}
use Rattle.nv_laws_sound.proofs.KeptSteps.{listed-sided, posted_to-sided, ran_out-sided, reaped-keeps, tag-kept, taken_to-sided, together}
use Rattle.nv_laws_sound.proofs.Numbers.{numbers_where}
use Rattle.nv_laws_sound.proofs.Planned.{Answers, IsAnswerOr, IsWhole, Plans, plan_over-is, shares-planned}
use Rattle.nv_laws_sound.proofs.Stages.{leader-at, taken-tags}
use Rattle.nv_laws_sound.proofs.Takes.{claimed-is, taken_to-groups}
use Rattle.nv_laws_sound.proofs.Walks.{device-walk, either, ended-walk, guest-walk, lane-walk, owner-walk, taken-walk}

-- the lane of a tag that is there
tag-lane : (o : Option Lane) (tag : ℕ) (t : Tag) → tag_in o tag ≡ Some t → (l : Lane) × ((o ≡ Some l) × (slice_get l.tags tag ≡ Some t))
tag-lane None tag t e = cc
tag-lane (Some l) tag t e = (l, (refl, e))

module _ (host_bytes : ℕ) (geometry : Geometry) where
  -- ---- Take

  claims : (w : World) (o : Owner) (addr queue lane : ℕ) (l : Lane) → IsLaidOut host_bytes (length w.lanes) geometry → Keeps geometry w
      → IsOwner geometry w o → slice_get w.lanes lane ≡ Some l → (found : Option (List ℕ))
      → claimed (tags_of_entry o.given.namespace (entry_at addr o w)) l.tags ≡ found → Keeps geometry (take_tags found addr queue lane o w).world
  claims w o addr queue lane l laid keeps owns at None e = keeps
  claims w o addr queue lane l laid keeps owns at (Some ns) e =
      let given = laid.given o.number o.given owns.given in
      let some = (tags_of_entry-some o.given.namespace (entry_at addr o w) given.some).0 in
      let wanted : ℕ = tags_of_entry o.given.namespace (entry_at addr o w) in
      let c = claimed-is wanted l.tags ns e in
      subst (λ ks. Keeps geometry (taken_to addr queue lane ks o w)) (sym c.is) (
        taken_to-sided geometry w o addr queue lane _ owns keeps.0,
        by wanted refl some c.many,
      )
    where
      by : (n : ℕ) → tags_of_entry o.given.namespace (entry_at addr o w) ≡ n → 1 ≤ n → n ≤ length (numbers_where is_free l.tags)
          → HasGroups geometry (taken_to addr queue lane (take n (numbers_where is_free l.tags)) o w).lanes
      by zero wanted some many = absurd (omega (arith, some))
      by (suc n) wanted some many = taken_to-groups host_bytes geometry w o addr queue lane n l keeps.1 owns at many wanted

  front-claims : (w : World) (o : Owner) (queue lane : ℕ) (l : Lane) → IsLaidOut host_bytes (length w.lanes) geometry → Keeps geometry w
      → IsOwner geometry w o → slice_get w.lanes lane ≡ Some l → (addr : Option ℕ) → Keeps geometry (take_front addr queue lane l o w).world
  front-claims w o queue lane l laid keeps owns at None = keeps
  front-claims w o queue lane l laid keeps owns at (Some addr) =
      claims w o addr queue lane l laid keeps owns at (claimed (tags_of_entry o.given.namespace (entry_at addr o w)) l.tags) refl

  -- ---- Submit and GiveUp

  guests-share : (command : Command) (guest : Guest) (share : Share) → IsGuests geometry command None → slice_get geometry.guests command.guest ≡ Some guest
      → IsPlanned guest command.entry share → IsGuests geometry command (Some share)
  guests-share command guest share of given planned = record { guest = guest; is = record { given = given; bytes = of.is.bytes }; planned = planned }

  module _ (w : World) (lane leader : ℕ) (l : Lane) (command : Command) (reads : List ReadDone) (keeps : Keeps geometry w)
      (at : slice_get w.lanes lane ≡ Some l) (found : tag_of w lane leader ≡ Some (Taken command reads)) (leads : command.leader ≡ leader) where
    of : IsGuests geometry command None
    of = tag-kept geometry w lane leader (Taken command reads) keeps.0 found

    pub at_once-keeps : (st : StatusField) → is_success st ≡ false → Keeps geometry (ended_at_once lane (group w lane leader) command st w)
    at_once-keeps st fails = (
      ended_at_once-sided geometry lane (group w lane leader) command st w of keeps.0,
      ended-groups geometry w lane leader l command (Taken command reads) keeps.1 at
          (leader-at geometry w lane leader l command reads at (keeps.1 lane l at) found leads) refl leads st fails,
    )

    module _ (d : DeviceLane) (o : Owner) (there : slice_get w.device lane ≡ Some d) (given : slice_get geometry.guests command.guest ≡ Some o.given) where
      shares-keep : (plan : Plan) → IsWhole o.given command.entry plan
          → Keeps geometry (handed_on geometry.mediator lane (group w lane leader) (shares_of o.given.namespace command.entry plan) command o w)
      shares-keep plan whole = (
        handed-fold (IsSided geometry) (IsPlanned o.given command.entry) geometry.mediator lane command o
            (λ z tag t share has taken planned sided.
            carried_out-sided geometry geometry.mediator lane tag command share o z (guests-share command o.given share of given planned) sided)
            (group w lane leader) (shares_of o.given.namespace command.entry plan) w
            (taken-tags geometry w lane leader l command reads at (keeps.1 lane l at) found leads) (group-distinct w lane leader)
            (shares-planned o.given command.entry plan whole) keeps.0,
        handed-groups geometry w lane leader l d command reads o plan keeps.1 at there found leads given whole,
      )

      carried-keeps : (plan : Plan) → IsAnswerOr o.given command.entry plan
          → Keeps geometry (carry_out plan geometry.mediator lane (group w lane leader) command o w)
      carried-keeps (Answer st) (Answers other fails same) =
          let one : st ≡ other = cc in at_once-keeps st (ap is_success one ∙ fails)
      carried-keeps (Answer st) (Plans whole) = absurd (no-answer st (form_of whole.work.opcode) (regions_of o.given) whole.work whole.plan_is)
      carried-keeps (NoData work) (Plans whole) = shares-keep (NoData work) whole
      carried-keeps (Direct work) (Plans whole) = shares-keep (Direct work) whole
      carried-keeps (Bounced work) (Plans whole) = shares-keep (Bounced work) whole
      carried-keeps (NoData work) (Answers st fails same) = cc
      carried-keeps (Direct work) (Answers st fails same) = cc
      carried-keeps (Bounced work) (Answers st fails same) = cc

      pub submitted-keeps : (outcome : Outcome Plan) → plan_over o.given command.entry reads ≡ outcome
          → Keeps geometry (submit_by outcome geometry.mediator lane (group w lane leader) command o w).world
      submitted-keeps (Wanted addr len) over = keeps
      submitted-keeps (Settled plan) over = carried-keeps plan (plan_over-is o.given command.entry reads plan over)

  -- ---- Post

  module _ (w : World) (lane tag : ℕ) (l : Lane) (command : Command) (ended_with : StatusField) (share : Option Share) (o : Owner) (keeps : Keeps geometry w)
      (at : slice_get w.lanes lane ≡ Some l) (there : slice_get l.tags tag ≡ Some (Ended command ended_with share)) (leads : command.leader ≡ tag)
      (owns : IsOwner geometry w o) where
    ended-has : (x : Option Share) → command_of (part_of (Ended command ended_with x)) ≡ Some command
    ended-has None = refl
    ended-has (Some s) = refl

    -- in a world with the same lanes
    free-groups : (z : World) → z.lanes ≡ w.lanes → HasGroups geometry (with_tags lane (group w lane tag) Free z).lanes
    free-groups z same =
        freed-groups geometry w lane tag l command (Ended command ended_with share) keeps.1 at there (ended-has share) leads z
        (ap (λ ls. slice_get ls lane) same ∙ at) (subst (HasGroups geometry) (sym same) keeps.1)

    posted-keeps : (posted : Posted) (v : World) → IsHosted geometry w v → QueuesInPlace (mapped (regions_of o.given)) posted.controller
        → Keeps geometry (posted_to posted lane (group w lane tag) o v)
    unfolding posted_to put_back
    posted-keeps posted v d place = (
      posted_to-sided geometry w v lane (group w lane tag) o posted owns d place keeps.0,
      free-groups (put_back o (stored (image (regions_of o.given) v.host) posted.addr posted.entry) posted.controller v) (ap (λ (x : World). x.lanes) d.is),
    )

    out-keeps : (queue : ℕ) (v : World) → IsHosted geometry w v → QueuesInPlace (mapped (regions_of o.given)) (ran_out o.controller queue)
        → Keeps geometry (ran_out_of queue lane (group w lane tag) o v)
    unfolding ran_out_of
    out-keeps queue v d place = (
      ran_out-sided geometry w v queue lane (group w lane tag) o owns d place keeps.0,
      free-groups (with_controller o.number (ran_out o.controller queue) v) (ap (λ (x : World). x.lanes) d.is),
    )

    post-found : (found : Option Posted) (st : StatusField)
        → HaveBehind (IsSubmissionInPlace (mapped (regions_of o.given))) (IsCompletionInPlace (mapped (regions_of o.given))) found
        → Keeps geometry (post_by found st geometry.mediator lane (group w lane tag) o w).world
    post-found None st place = keeps
    post-found (Some posted) st place =
        posted-keeps posted (delivered st geometry.mediator lane (group w lane tag) o w)
        (delivered-hosted geometry st geometry.mediator lane (group w lane tag) o w) place

    pub all-keep : (sts : Option (List StatusField)) → Keeps geometry (post_all sts command geometry.mediator lane (group w lane tag) o w).world
    all-keep None = keeps
    all-keep (Some sts) =
        let test = mapped (regions_of o.given) in
        let kept = IsKept-in_place test in
        let place = (keeps.0).queues o.number o.given o.controller owns.given owns.controller in
        let st = deciding sts in
        either (Keeps geometry) w keeps (is_enabled o.controller) _ _
        (λ enabled. post-found (post o.controller command.queue 0 (cid_of command.entry) st) st
        (post-kept test (IsSubmissionInPlace test) (IsCompletionInPlace test) kept o.controller command.queue 0 (cid_of command.entry) st place))
        (λ fell. out-keeps command.queue (delivered st geometry.mediator lane (group w lane tag) o w)
        (delivered-hosted geometry st geometry.mediator lane (group w lane tag) o w)
        (ran_out-kept test (IsSubmissionInPlace test) (IsCompletionInPlace test) kept o.controller command.queue place))

  -- ---- an event

  step-keeps : (e : Event) (w : World) → IsMediators e → IsLaidOut host_bytes (length w.lanes) geometry → Keeps geometry w
      → Keeps geometry (step geometry e w).world
  unfolding step acted_in administered_in listed
  step-keeps (event.Guest number a) w mine laid keeps = (
    guest-walk (IsSided geometry) w keeps.0 (owner_of geometry w number) (λ o. acted_by (acted (shape_of o.given) a (seat geometry o w)) o w)
        (λ o found. act-sided geometry w o a (owner_of-is geometry w number o found) keeps.0),
    acts-groups geometry w keeps.1 number a,
  )
  step-keeps (event.Admin number) w mine laid keeps = (
    guest-walk (IsSided geometry) w keeps.0 (owner_of geometry w number) (λ o. administered_in o w)
        (λ o found. admin-sided geometry w o (owner_of-is geometry w number o found) keeps.0),
    admins-groups geometry w keeps.1 number,
  )
  step-keeps (event.Take number queue lane) w mine laid keeps =
      guest-walk (Keeps geometry) w keeps (owner_of geometry w number) _ (λ o found.
      lane-walk (Keeps geometry) w keeps (slice_get w.lanes lane) (λ l. take_from queue lane l o w) (λ l at.
      either (Keeps geometry) w keeps (is_io_queue queue) _ _
      (λ in_range. front-claims w o queue lane l laid keeps (owner_of-is geometry w number o found) at (front o.controller queue)) (λ out. keeps)))
  step-keeps (event.List lane tag addr len) w mine laid keeps = (
    taken-walk (IsSided geometry) w keeps.0 tag (tag_of w lane tag) _ (λ command reads at leads.
        owner-walk (IsSided geometry) w keeps.0 (owner_of geometry w command.guest) (λ o. list_at addr len lane tag command reads o w) (λ o found.
        either (IsSided geometry) w keeps.0 (all_mapped (regions_of o.given) addr len) _ _
        (λ there. either (IsSided geometry) w keeps.0 (nat_le 1 len && nat_le len part_size) _ _
        (λ fits. listed-sided geometry addr len lane tag command reads o w keeps.0 at) (λ out. keeps.0)) (λ out. keeps.0))),
    lists-groups geometry w keeps.1 lane tag addr len,
  )
  step-keeps (event.Submit lane tag) w mine laid keeps =
      taken-walk (Keeps geometry) w keeps tag (tag_of w lane tag) _ (λ command reads found leads.
      owner-walk (Keeps geometry) w keeps (owner_of geometry w command.guest) _ (λ o whose.
      device-walk (Keeps geometry) w keeps (slice_get w.device lane)
      (λ d. submit_by (plan_over o.given command.entry reads) geometry.mediator lane (group w lane tag) command o w) (λ d there.
      (let t = tag-lane (slice_get w.lanes lane) tag (Taken command reads) found in
      submitted-keeps w lane tag t.0 command reads keeps t.1.0 found leads d o there
      (subst (λ n. slice_get geometry.guests n ≡ Some o.given) (sym (owner_of-number geometry w command.guest o whose))
      (owner_of-is geometry w command.guest o whose).given) (plan_over o.given command.entry reads) refl))))
  step-keeps (event.GiveUp lane tag) w mine laid keeps =
      taken-walk (Keeps geometry) w keeps tag (tag_of w lane tag) _ (λ command reads found leads.
      (let t = tag-lane (slice_get w.lanes lane) tag (Taken command reads) found in
      at_once-keeps w lane tag t.0 command reads keeps t.1.0 found leads (done_with InternalError) refl))
  step-keeps (event.DevTake lane) w mine laid keeps = absurd mine
  step-keeps (event.DevMove lane slot number) w mine laid keeps = absurd mine
  step-keeps (event.DevPost lane slot) w mine laid keeps = absurd mine
  step-keeps (event.DevFail lane slot st) w mine laid keeps = absurd mine
  step-keeps (event.Keep block) w mine laid keeps = absurd mine
  step-keeps (event.Reap lane) w mine laid keeps =
      lane-walk (Keeps geometry) w keeps (slice_get w.lanes lane) _ (λ l at.
      device-walk (Keeps geometry) w keeps (slice_get w.device lane) (λ d. reap geometry lane l d w) (λ d there.
      either (Keeps geometry) w keeps (is_empty l.head d.posted) _ _ (λ none. keeps) (λ some. reaped-keeps geometry lane _ w keeps)))
  step-keeps (event.Post lane tag) w mine laid keeps =
      ended-walk (Keeps geometry) w keeps tag (tag_of w lane tag) _ (λ command st share at leads.
      owner-walk (Keeps geometry) w keeps (owner_of geometry w command.guest)
      (λ o. post_all (statuses_of lane (group w lane tag) w) command geometry.mediator lane (group w lane tag) o w) (λ o found.
      (let t = tag-lane (slice_get w.lanes lane) tag (Ended command st share) at in
      all-keep w lane tag t.0 command st share o keeps t.1.0 t.1.1 leads (owner_of-is geometry w command.guest o found)
      (statuses_of lane (group w lane tag) w))))

  pub step-kept : (e : Event) (w : World) → IsMediators e → IsLaidOut host_bytes (length w.lanes) geometry → IsKeptWorld geometry w
      → IsKeptWorld geometry (step geometry e w).world
  step-kept e w mine laid is = together geometry _ (step-keeps e w mine laid (apart geometry w is))

pub reaped-kept : (geometry : Geometry) (lane : ℕ) (completion : List ℕ) (w : World) → IsKeptWorld geometry w → IsKeptWorld geometry (reaped lane completion w)
reaped-kept geometry lane completion w is = together geometry _ (reaped-keeps geometry lane completion w (apart geometry w is))
