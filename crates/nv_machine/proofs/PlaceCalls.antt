-- In sides that are the same but for the places of parts, a call fetches the same and comes to the same.
use Rattle.std.proofs.Common.{◌≡◌, ℕ, ◌+◌, List, [], cond, slice_get, Option, Some, None}
use Rattle.std.proofs.Common.{refl, ap, ◌∙◌, subst}
use Rattle.std.specs.List.{range_with_len}
use Rattle.nv_entry.specs.Completion.{cid_of as completed_cid}
use Rattle.nv_entry.specs.StatusCode.{done_with}
use Rattle.nv_entry.specs.declared.status_code.StatusCode.TheVariants.{InternalError}
use Rattle.nv_laws_sound.specs.Side.{Side}
use Rattle.nv_laws_sound.specs.Unplaced.{unplaced_tag}
use Rattle.nv_machine.specs.Contained.{guest_for}
use Rattle.nv_machine.specs.Doing.{Called, Doing, for_one, for_owner, group_at, owner_in, replied, tag_at}
use Rattle.nv_machine.specs.Machine.{call, called, ended_at_once, fetch, fetch_then, front_entry, from_one, in_order, is_new, list_fetch, post_all}
use Rattle.nv_machine.specs.Machine.{statuses_of, submit_by}
use Rattle.nv_machine.specs.Unplaced.{AreSameButPlaces, ComeToSameButPlaces}
use Rattle.nv_machine.proofs.PlaceActs.{both-acted, both-administered, both-all, both-ended, both-listed, both-once, both-one, both-owner, both-reap, both-submit}
use Rattle.nv_machine.proofs.PlaceActs.{both-taken, both-taking}
use Rattle.nv_machine.proofs.PlaceSides.{AreSame, group-same, lanes-told, same-replied, statuses-same, tag-same, tags-told}
use Rattle.nv_model.specs.Controller.{Controller}
use Rattle.nv_model.specs.Transcript.{ReadDone}
use Rattle.nv_model.specs.declared.reply.Reply.TheVariants as reply
use Rattle.nv_world_model.specs.Area.{completion_slot}
use Rattle.nv_world_model.specs.Contained.{guest_of_one}
use Rattle.nv_world_model.specs.Geometry.{Geometry}
use Rattle.nv_world_model.specs.Plan.{plan_over}
use Rattle.nv_world_model.specs.Seat.{Owner, owner_by}
use Rattle.nv_world_model.specs.Step.{is_io_queue}
use Rattle.nv_world_model.specs.View.{guest_of_tag}
use Rattle.nv_world_model.specs.World.{Command, Ended, Flying, Free, Lane, Tag, Taken}
use Rattle.nv_world_model.specs.declared.event.Event.{Event}
use Rattle.nv_world_model.specs.declared.event.Event.TheVariants as event

pub guest-unplaced : (t : Tag) → guest_of_tag (unplaced_tag t) ≡ guest_of_tag t
guest-unplaced Free = refl
guest-unplaced (Taken command reads) = refl
guest-unplaced (Flying command share standing) = refl
guest-unplaced (Ended command st share) = refl

module _ (s z : Side) (same : AreSameButPlaces s z) where
  -- a tag has the same guest
  pub guest-same : (lane tag : ℕ) → guest_of_one (tag_at s lane tag) ≡ guest_of_one (tag_at z lane tag)
  guest-same lane tag = tags-told guest_of_one guest-unplaced (tag_at s lane tag) (tag_at z lane tag) (tag-same s z same lane tag)

  -- a call is for the same guest
  pub for-same : (e : Event) (fetched : List ℕ) → guest_for e fetched s ≡ guest_for e fetched z
  for-same (event.Guest guest a) fetched = refl
  for-same (event.Admin guest) fetched = refl
  for-same (event.Take guest queue lane) fetched = refl
  for-same (event.List lane tag addr len) fetched = guest-same lane tag
  for-same (event.Submit lane tag) fetched = guest-same lane tag
  for-same (event.GiveUp lane tag) fetched = guest-same lane tag
  for-same (event.DevTake lane) fetched = refl
  for-same (event.DevMove lane slot unit) fetched = refl
  for-same (event.DevPost lane slot) fetched = refl
  for-same (event.DevFail lane slot st) fetched = refl
  for-same (event.Keep block) fetched = refl
  for-same (event.Reap lane) fetched = guest-same lane (completed_cid (in_order fetched))
  for-same (event.Post lane tag) fetched = guest-same lane tag

  module _ (geometry : Geometry) where
    abbrev now : Doing
    now = record { side = s; effects = [] }

    abbrev other : Doing
    other = record { side = z; effects = [] }

    abbrev same-now : AreSame now other
    same-now = record { effects = refl; sides = same }

    -- the owner is the same
    owners : (guest : ℕ) → owner_in geometry s guest ≡ owner_in geometry z guest
    owners guest = ap (λ (cs : List Controller). owner_by guest (slice_get geometry.guests guest) (slice_get cs guest)) same.controllers

    -- ---- what is fetched

    owned-fetch : (guest : ℕ) (addresses : Owner → List ℕ) → from_one (owner_in geometry s guest) addresses ≡ from_one (owner_in geometry z guest) addresses
    owned-fetch guest addresses = ap (λ (o : Option Owner). from_one o addresses) (owners guest)

    list-same : (addr len tag : ℕ) (t : Option Tag) → list_fetch geometry s addr len tag t ≡ list_fetch geometry z addr len tag t
    list-same addr len tag None = refl
    list-same addr len tag (Some Free) = refl
    list-same addr len tag (Some (Taken command reads)) = owned-fetch command.guest _
    list-same addr len tag (Some (Flying command share standing)) = refl
    list-same addr len tag (Some (Ended command st share)) = refl

    list-unplaced : (addr len tag : ℕ) (t : Tag) → list_fetch geometry z addr len tag (Some (unplaced_tag t)) ≡ list_fetch geometry z addr len tag (Some t)
    list-unplaced addr len tag Free = refl
    list-unplaced addr len tag (Taken command reads) = refl
    list-unplaced addr len tag (Flying command share standing) = refl
    list-unplaced addr len tag (Ended command st share) = refl

    pub fetch-same : (e : Event) → fetch geometry e s ≡ fetch geometry e z
    unfolding fetch
    fetch-same (event.Guest guest a) = owned-fetch guest _
    fetch-same (event.Admin guest) = owned-fetch guest _
    fetch-same (event.Take guest queue lane) =
        owned-fetch guest (λ o. from_one (slice_get s.lanes lane) (λ l. cond (is_io_queue queue) (front_entry o queue) []))
        ∙ by (owner_in geometry z guest)
      where
        by : (o : Option Owner) → from_one o (λ o. from_one (slice_get s.lanes lane) (λ l. cond (is_io_queue queue) (front_entry o queue) []))
            ≡ from_one o (λ o. from_one (slice_get z.lanes lane) (λ l. cond (is_io_queue queue) (front_entry o queue) []))
        by None = refl
        by (Some o) = lanes-told (λ (x : Option Lane). from_one x (λ l. cond (is_io_queue queue) (front_entry o queue) [])) (λ l. refl) s z same lane
    fetch-same (event.List lane tag addr len) =
        list-same addr len tag (tag_at s lane tag)
        ∙ tags-told (list_fetch geometry z addr len tag) (list-unplaced addr len tag) (tag_at s lane tag) (tag_at z lane tag) (tag-same s z same lane tag)
    fetch-same (event.Submit lane tag) = refl
    fetch-same (event.GiveUp lane tag) = refl
    fetch-same (event.DevTake lane) = refl
    fetch-same (event.DevMove lane slot unit) = refl
    fetch-same (event.DevPost lane slot) = refl
    fetch-same (event.DevFail lane slot st) = refl
    fetch-same (event.Keep block) = refl
    fetch-same (event.Reap lane) =
        lanes-told (λ (x : Option Lane). from_one x (λ l. range_with_len (completion_slot geometry.mediator lane l.head + 12) 4)) (λ l. refl) s z same lane
    fetch-same (event.Post lane tag) = refl

    pub then-same : (e : Event) (first : List ℕ) → fetch_then geometry e s first ≡ fetch_then geometry e z first
    unfolding fetch_then
    then-same (event.Guest guest a) first = refl
    then-same (event.Admin guest) first = refl
    then-same (event.Take guest queue lane) first = refl
    then-same (event.List lane tag addr len) first = refl
    then-same (event.Submit lane tag) first = refl
    then-same (event.GiveUp lane tag) first = refl
    then-same (event.DevTake lane) first = refl
    then-same (event.DevMove lane slot unit) first = refl
    then-same (event.DevPost lane slot) first = refl
    then-same (event.DevFail lane slot st) first = refl
    then-same (event.Keep block) first = refl
    then-same (event.Reap lane) first =
        lanes-told (λ (x : Option Lane). from_one x (λ l. cond (is_new l first) (range_with_len (completion_slot geometry.mediator lane l.head) 12) []))
        (λ l. refl) s z same lane
    then-same (event.Post lane tag) first = refl

    -- ---- the call

    -- of an owner that is the same
    both-owned : (guest : ℕ) (j k : Owner → Called) → ((o : Owner) → ComeToSameButPlaces (j o) (k o))
        → ComeToSameButPlaces (for_one (owner_in geometry s guest) now j) (for_one (owner_in geometry z guest) other k)
    both-owned guest j k each =
        subst (λ o. ComeToSameButPlaces (for_one (owner_in geometry s guest) now j) (for_one o other k)) (owners guest)
        (both-one now other same-now (owner_in geometry s guest) j k each)

    both-commanded : (guest : ℕ) (j k : Owner → Called) → ((o : Owner) → ComeToSameButPlaces (j o) (k o))
        → ComeToSameButPlaces (for_owner (owner_in geometry s guest) now j) (for_owner (owner_in geometry z guest) other k)
    both-commanded guest j k each =
        subst (λ o. ComeToSameButPlaces (for_owner (owner_in geometry s guest) now j) (for_owner o other k)) (owners guest)
        (both-owner now other same-now (owner_in geometry s guest) j k each)

    submits-same : (lane tag : ℕ) (command : Command) (reads : List ReadDone) (o : Owner) → ComeToSameButPlaces
        (for_one (slice_get s.tails lane) now (λ tail. submit_by (plan_over o.given command.entry reads) geometry.mediator lane (group_at s lane tag) command o now))
        (for_one (slice_get z.tails lane) other (λ tail. submit_by (plan_over o.given command.entry reads) geometry.mediator lane (group_at z lane tag) command o other))
    submits-same lane tag command reads o =
        subst (λ ts. ComeToSameButPlaces
        (for_one (slice_get s.tails lane) now (λ tail. submit_by (plan_over o.given command.entry reads) geometry.mediator lane (group_at s lane tag) command o now))
        (for_one (slice_get ts lane) other (λ tail. submit_by (plan_over o.given command.entry reads) geometry.mediator lane (group_at z lane tag) command o other)))
        same.tails
        (both-one now other same-now (slice_get s.tails lane) _ _ (λ tail.
        subst (λ tags. ComeToSameButPlaces (submit_by (plan_over o.given command.entry reads) geometry.mediator lane (group_at s lane tag) command o now)
        (submit_by (plan_over o.given command.entry reads) geometry.mediator lane tags command o other)) (group-same s z same lane tag)
        (both-submit geometry.mediator lane command o (plan_over o.given command.entry reads) (group_at s lane tag) now other same-now)))

    gives-same : (lane tag : ℕ) (command : Command) → ComeToSameButPlaces
        (replied reply.Done (ended_at_once lane (group_at s lane tag) command (done_with InternalError) now))
        (replied reply.Done (ended_at_once lane (group_at z lane tag) command (done_with InternalError) other))
    gives-same lane tag command =
        subst (λ tags. ComeToSameButPlaces (replied reply.Done (ended_at_once lane (group_at s lane tag) command (done_with InternalError) now))
        (replied reply.Done (ended_at_once lane tags command (done_with InternalError) other))) (group-same s z same lane tag)
        (same-replied reply.Done _ _ (both-once lane (group_at s lane tag) command (done_with InternalError) now other same-now))

    posts-same : (lane tag : ℕ) (command : Command) (o : Owner) → ComeToSameButPlaces
        (post_all (statuses_of lane (group_at s lane tag) s) command geometry.mediator lane (group_at s lane tag) o now)
        (post_all (statuses_of lane (group_at z lane tag) z) command geometry.mediator lane (group_at z lane tag) o other)
    posts-same lane tag command o =
        subst (λ tags. ComeToSameButPlaces (post_all (statuses_of lane (group_at s lane tag) s) command geometry.mediator lane (group_at s lane tag) o now)
        (post_all (statuses_of lane tags z) command geometry.mediator lane tags o other)) (group-same s z same lane tag)
        (subst (λ sts. ComeToSameButPlaces (post_all (statuses_of lane (group_at s lane tag) s) command geometry.mediator lane (group_at s lane tag) o now)
        (post_all sts command geometry.mediator lane (group_at s lane tag) o other)) (statuses-same s z same lane (group_at s lane tag))
        (both-all now other same-now o (statuses_of lane (group_at s lane tag) s) command geometry.mediator lane (group_at s lane tag)))

    pub call-same : (e : Event) (fetched : List ℕ) → ComeToSameButPlaces (call geometry e fetched s) (call geometry e fetched z)
    unfolding called
    call-same (event.Guest guest a) fetched = both-owned guest _ _ (λ o. both-acted now other same-now o a fetched)
    call-same (event.Admin guest) fetched = both-owned guest _ _ (λ o. both-administered now other same-now o fetched)
    call-same (event.Take guest queue lane) fetched = both-owned guest _ _ (λ o. both-taking now other same-now o queue lane fetched)
    call-same (event.List lane tag addr len) fetched =
        both-taken now other same-now tag (tag_at s lane tag) (tag_at z lane tag) _ _ (tag-same s z same lane tag) (λ command reads.
        both-commanded command.guest _ _ (λ o. both-listed now other same-now o addr len lane tag fetched command reads))
    call-same (event.Submit lane tag) fetched =
        both-taken now other same-now tag (tag_at s lane tag) (tag_at z lane tag) _ _ (tag-same s z same lane tag) (λ command reads.
        both-commanded command.guest _ _ (λ o. submits-same lane tag command reads o))
    call-same (event.GiveUp lane tag) fetched =
        both-taken now other same-now tag (tag_at s lane tag) (tag_at z lane tag) _ _ (tag-same s z same lane tag) (λ command reads.
        gives-same lane tag command)
    call-same (event.DevTake lane) fetched = same-replied reply.Ignored now other same-now
    call-same (event.DevMove lane slot unit) fetched = same-replied reply.Ignored now other same-now
    call-same (event.DevPost lane slot) fetched = same-replied reply.Ignored now other same-now
    call-same (event.DevFail lane slot st) fetched = same-replied reply.Ignored now other same-now
    call-same (event.Keep block) fetched = same-replied reply.Ignored now other same-now
    call-same (event.Reap lane) fetched = both-reap lane fetched now other same-now
    call-same (event.Post lane tag) fetched =
        both-ended now other same-now tag (tag_at s lane tag) (tag_at z lane tag) _ _ (tag-same s z same lane tag) (λ command.
        both-commanded command.guest _ _ (λ o. posts-same lane tag command o))
