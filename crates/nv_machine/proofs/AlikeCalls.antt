-- In sides that are alike to a guest, a call for it comes to the same.
use Rattle.std.proofs.Common.{◌≡◌, ℕ, ◌&&◌, nat_le, List, [], slice_get, Option, Some, None}
use Rattle.std.proofs.Common.{refl, sym, ap, ◌∙◌, subst}
use Rattle.nv_entry.specs.Completion.{cid_of as completed_cid}
use Rattle.nv_entry.specs.Status.{StatusField}
use Rattle.nv_entry.specs.StatusCode.{done_with}
use Rattle.nv_entry.specs.declared.status_code.StatusCode.TheVariants.{InternalError}
use Rattle.nv_laws_sound.specs.Side.{IsKept, Side}
use Rattle.nv_laws_sound.proofs.Lists.{some-same}
use Rattle.nv_machine.specs.Alike.{ComeToAlike, IsAlike}
use Rattle.nv_machine.specs.Contained.{guest_for}
use Rattle.nv_machine.specs.Doing.{Doing, for_one, group_at, owner_in, replied}
use Rattle.nv_machine.specs.Doing.{tag_at}
use Rattle.nv_machine.specs.Machine.{call, called}
use Rattle.nv_machine.specs.Machine.{ended_at_once, fetch, fetch_then, from_one, in_order}
use Rattle.nv_machine.specs.Machine.{list_at, list_fetch, post_all, reap, statuses_of}
use Rattle.nv_machine.specs.Machine.{submit_by}
use Rattle.nv_machine.proofs.AlikeGroups.{group-same, is-own, statuses-alike, tag-same}
use Rattle.nv_machine.proofs.AlikeSides.{AreFound, AreSame, BothLanes, NoLane, lanes-found, same-replied, same-tag}
use Rattle.nv_model.specs.Transcript.{ReadDone}
use Rattle.nv_model.specs.declared.reply.Reply.TheVariants as reply
use Rattle.nv_world_model.specs.Contained.{guest_of_one}
use Rattle.nv_world_model.specs.Geometry.{Geometry}
use Rattle.nv_world_model.specs.Plan.{plan_over}
use Rattle.nv_world_model.specs.Seat.{Owner, owner_by}
use Rattle.nv_world_model.specs.Share.{Share}
use Rattle.nv_world_model.specs.View.{LaneNumbers, guest_of_tag}
use Rattle.nv_world_model.specs.World.{Command, Ended, Flying, Free, Tag, Taken, tag_in}
use Rattle.nv_world_model.specs.declared.event.Event.{Event}
use Rattle.nv_world_model.specs.declared.event.Event.TheVariants as event
use Rattle.nv_machine.proofs.AlikeActs.{owner-number, both-acted, both-administered, both-all, both-cond, both-ended, both-once, both-one, both-owner, both-reap, both-submit, both-taken, both-taking}

-- what one thing is fetched for is fetched for the same thing
from-same : {A : Type 0} (o p : Option A) (addresses : A → List ℕ) → o ≡ p → from_one o addresses ≡ from_one p addresses
from-same o p addresses same = ap (λ q. from_one q addresses) same

-- ---- the event

module _ (geometry : Geometry) (number : ℕ) (s z : Side) (alike : IsAlike number s z) where
  abbrev now : Doing
  now = record { side = s; effects = [] }

  abbrev other : Doing
  other = record { side = z; effects = [] }

  abbrev same-now : AreSame number now other
  same-now = record { effects = refl; sides = alike }

  -- the owner is the same
  owners : (guest : ℕ) → guest ≡ number → owner_in geometry s guest ≡ owner_in geometry z guest
  owners guest is = subst (λ g. owner_in geometry s g ≡ owner_in geometry z g) (sym is) (ap (owner_by number (slice_get geometry.guests number)) alike.controller)

  owned : (guest : ℕ) → guest ≡ number → (o : Owner) → owner_in geometry s guest ≡ Some o → o.number ≡ number
  owned guest is o found = owner-number guest (slice_get geometry.guests guest) (slice_get s.controllers guest) o found ∙ is

  -- and the tag
  tags-are : (lane tag : ℕ) → guest_of_one (tag_at s lane tag) ≡ Some number → tag_at s lane tag ≡ tag_at z lane tag
  tags-are lane tag whose = tag-same number s z alike lane tag (is-own number (tag_at s lane tag) whose)

  guest-is : (lane tag guest : ℕ) → guest_of_one (tag_at s lane tag) ≡ Some number → (t : Tag) → tag_at s lane tag ≡ Some t → guest_of_tag t ≡ Some guest
      → guest ≡ number
  guest-is lane tag guest whose t there of = some-same guest number (sym of ∙ sym (ap guest_of_one there) ∙ whose)

  -- ---- what is fetched

  tag-fetches : (addr len tag : ℕ) (t : Option Tag) → guest_of_one t ≡ Some number → list_fetch geometry s addr len tag t ≡ list_fetch geometry z addr len tag t
  tag-fetches addr len tag None whose = refl
  tag-fetches addr len tag (Some Free) whose = refl
  tag-fetches addr len tag (Some (Taken command reads)) whose =
      from-same _ _ _ (owners command.guest (some-same command.guest number whose))
  tag-fetches addr len tag (Some (Flying command share standing)) whose = refl
  tag-fetches addr len tag (Some (Ended command st share)) whose = refl

  pub fetch-alike : (e : Event) (fetched : List ℕ) → guest_for e fetched s ≡ Some number → fetch geometry e s ≡ fetch geometry e z
  unfolding fetch
  fetch-alike (event.Guest guest a) fetched whose = from-same _ _ _ (owners guest (some-same guest number whose))
  fetch-alike (event.Admin guest) fetched whose = from-same _ _ _ (owners guest (some-same guest number whose))
  fetch-alike (event.Take guest queue lane) fetched whose = by (lanes-found number s z lane alike)
    where
      by : AreFound number (slice_get s.lanes lane) (slice_get z.lanes lane) → fetch geometry (event.Take guest queue lane) s ≡ fetch geometry (event.Take guest queue lane) z
      by (NoLane none also) = rw (none, also) (from-same _ _ _ (owners guest (some-same guest number whose)))
      by (BothLanes l k is also lanes) = rw (is, also) (from-same _ _ _ (owners guest (some-same guest number whose)))
  fetch-alike (event.List lane tag addr len) fetched whose =
      tag-fetches addr len tag (tag_at s lane tag) whose ∙ ap (list_fetch geometry z addr len tag) (tags-are lane tag whose)
  fetch-alike (event.Submit lane tag) fetched whose = refl
  fetch-alike (event.GiveUp lane tag) fetched whose = refl
  fetch-alike (event.DevTake lane) fetched whose = refl
  fetch-alike (event.DevMove lane slot unit) fetched whose = refl
  fetch-alike (event.DevPost lane slot) fetched whose = refl
  fetch-alike (event.DevFail lane slot st) fetched whose = refl
  fetch-alike (event.Keep block) fetched whose = refl
  fetch-alike (event.Reap lane) fetched whose = by (lanes-found number s z lane alike)
    where
      by : AreFound number (slice_get s.lanes lane) (slice_get z.lanes lane) → fetch geometry (event.Reap lane) s ≡ fetch geometry (event.Reap lane) z
      by (NoLane none also) = rw (none, also) refl
      by (BothLanes l k is also lanes) =
          let head : l.head ≡ k.head = ap (λ (ns : LaneNumbers). ns.head) lanes.numbers in
          rw (is, also, head) refl
  fetch-alike (event.Post lane tag) fetched whose = refl

  pub fetch_then-alike : (e : Event) (first : List ℕ) → fetch_then geometry e s first ≡ fetch_then geometry e z first
  unfolding fetch_then
  fetch_then-alike (event.Guest guest a) first = refl
  fetch_then-alike (event.Admin guest) first = refl
  fetch_then-alike (event.Take guest queue lane) first = refl
  fetch_then-alike (event.List lane tag addr len) first = refl
  fetch_then-alike (event.Submit lane tag) first = refl
  fetch_then-alike (event.GiveUp lane tag) first = refl
  fetch_then-alike (event.DevTake lane) first = refl
  fetch_then-alike (event.DevMove lane slot unit) first = refl
  fetch_then-alike (event.DevPost lane slot) first = refl
  fetch_then-alike (event.DevFail lane slot st) first = refl
  fetch_then-alike (event.Keep block) first = refl
  fetch_then-alike (event.Reap lane) first = by (lanes-found number s z lane alike)
    where
      by : AreFound number (slice_get s.lanes lane) (slice_get z.lanes lane) → fetch_then geometry (event.Reap lane) s first ≡ fetch_then geometry (event.Reap lane) z first
      by (NoLane none also) = rw (none, also) refl
      by (BothLanes l k is also lanes) =
          let head : l.head ≡ k.head = ap (λ (ns : LaneNumbers). ns.head) lanes.numbers in
          let phase : l.phase ≡ k.phase = ap (λ (ns : LaneNumbers). ns.phase) lanes.numbers in
          rw (is, also, head, phase) refl
  fetch_then-alike (event.Post lane tag) first = refl

  -- ---- the call

  both-listed : (addr len lane tag : ℕ) (fetched : List ℕ) (command : Command) (reads : List ReadDone) (o : Owner)
      → ComeToAlike number (list_at addr len lane tag fetched command reads o now) (list_at addr len lane tag fetched command reads o other)
  both-listed addr len lane tag fetched command reads o =
      both-cond number _ _ _ _ _
      (both-cond number (nat_le 1 len && nat_le len 4096) _ _ _ _ (same-replied number (reply.Bytes fetched) _ _ (same-tag number lane tag _ now other same-now))
      (same-replied number reply.Ignored now other same-now))
      (same-replied number reply.Unmapped now other same-now)

  module _ (kept : IsKept geometry s) (also : IsKept geometry z) where
    submits-alike : (lane tag : ℕ) (command : Command) (reads : List ReadDone) (o : Owner) → tag_at s lane tag ≡ Some (Taken command reads) → command.guest ≡ number
        → ComeToAlike number
        (for_one (slice_get s.tails lane) now (λ tail. submit_by (plan_over o.given command.entry reads) geometry.mediator lane (group_at s lane tag) command o now))
        (for_one (slice_get z.tails lane) other (λ tail. submit_by (plan_over o.given command.entry reads) geometry.mediator lane (group_at z lane tag) command o other))
    submits-alike lane tag command reads o there is =
        let group = group-same number geometry s z kept also alike lane tag (Taken command reads) there (ap (λ (g : ℕ). Some g) is) in
        both-one number now other same-now (slice_get s.tails lane) (slice_get z.tails lane) _ _ (ap (λ ts. slice_get ts lane) alike.tails) (λ tail found.
        subst (λ tags. ComeToAlike number (submit_by (plan_over o.given command.entry reads) geometry.mediator lane (group_at s lane tag) command o now)
        (submit_by (plan_over o.given command.entry reads) geometry.mediator lane tags command o other)) group.0
        (both-submit number geometry.mediator lane command o (plan_over o.given command.entry reads) (group_at s lane tag) now other same-now))

    posts-alike : (lane tag : ℕ) (command : Command) (st : StatusField) (share : Option Share) (o : Owner) → tag_at s lane tag ≡ Some (Ended command st share)
        → command.guest ≡ number → o.number ≡ number
        → ComeToAlike number
        (post_all (statuses_of lane (group_at s lane tag) s) command geometry.mediator lane (group_at s lane tag) o now)
        (post_all (statuses_of lane (group_at z lane tag) z) command geometry.mediator lane (group_at z lane tag) o other)
    posts-alike lane tag command st share o there is own =
        let group = group-same number geometry s z kept also alike lane tag (Ended command st share) there (ap (λ (g : ℕ). Some g) is) in
        subst (λ tags. ComeToAlike number (post_all (statuses_of lane (group_at s lane tag) s) command geometry.mediator lane (group_at s lane tag) o now)
        (post_all (statuses_of lane tags z) command geometry.mediator lane tags o other)) group.0
        (subst (λ sts. ComeToAlike number (post_all (statuses_of lane (group_at s lane tag) s) command geometry.mediator lane (group_at s lane tag) o now)
        (post_all sts command geometry.mediator lane (group_at s lane tag) o other)) (statuses-alike number s z alike lane (group_at s lane tag) group.1)
        (both-all number now other same-now o own (statuses_of lane (group_at s lane tag) s) command geometry.mediator lane (group_at s lane tag) group.1))

    gives-alike : (lane tag : ℕ) (command : Command) (reads : List ReadDone) → tag_at s lane tag ≡ Some (Taken command reads) → command.guest ≡ number
        → ComeToAlike number (replied reply.Done (ended_at_once lane (group_at s lane tag) command (done_with InternalError) now))
        (replied reply.Done (ended_at_once lane (group_at z lane tag) command (done_with InternalError) other))
    gives-alike lane tag command reads there is =
        let group = group-same number geometry s z kept also alike lane tag (Taken command reads) there (ap (λ (g : ℕ). Some g) is) in
        subst (λ tags. ComeToAlike number (replied reply.Done (ended_at_once lane (group_at s lane tag) command (done_with InternalError) now))
        (replied reply.Done (ended_at_once lane tags command (done_with InternalError) other))) group.0
        (same-replied number reply.Done _ _ (both-once number lane (group_at s lane tag) command (done_with InternalError) now other same-now))

    reaps-alike : (lane : ℕ) (fetched : List ℕ) → guest_of_one (tag_at s lane (completed_cid (in_order fetched))) ≡ Some number
        → ComeToAlike number (for_one (slice_get s.lanes lane) now (λ l. reap lane l fetched now)) (for_one (slice_get z.lanes lane) other (λ l. reap lane l fetched other))
    reaps-alike lane fetched whose = by (lanes-found number s z lane alike)
      where
        by : AreFound number (slice_get s.lanes lane) (slice_get z.lanes lane)
            → ComeToAlike number (for_one (slice_get s.lanes lane) now (λ l. reap lane l fetched now)) (for_one (slice_get z.lanes lane) other (λ l. reap lane l fetched other))
        by (NoLane none absent) = rw (none, absent) (same-replied number reply.Ignored now other same-now)
        by (BothLanes l k is there lanes) =
            let cid : ℕ = completed_cid (in_order fetched) in
            let tags : slice_get l.tags cid ≡ slice_get k.tags cid =
            sym (ap (λ o. tag_in o cid) is) ∙ tags-are lane cid whose ∙ ap (λ o. tag_in o cid) there in
            subst (λ o. ComeToAlike number (for_one o now (λ l. reap lane l fetched now)) (for_one (slice_get z.lanes lane) other (λ l. reap lane l fetched other))) (sym is)
            (subst (λ o. ComeToAlike number (reap lane l fetched now) (for_one o other (λ l. reap lane l fetched other))) (sym there)
            (both-reap number lane l k fetched lanes tags now other same-now))

    pub call-alike : (e : Event) (fetched : List ℕ) → guest_for e fetched s ≡ Some number → ComeToAlike number (call geometry e fetched s) (call geometry e fetched z)
    unfolding called
    call-alike (event.Guest guest a) fetched whose =
        let is : guest ≡ number = some-same guest number whose in
        both-one number now other same-now (owner_in geometry s guest) (owner_in geometry z guest) _ _ (owners guest is) (λ o found.
        both-acted number now other same-now o (owned guest is o found) a fetched)
    call-alike (event.Admin guest) fetched whose =
        let is : guest ≡ number = some-same guest number whose in
        both-one number now other same-now (owner_in geometry s guest) (owner_in geometry z guest) _ _ (owners guest is) (λ o found.
        both-administered number now other same-now o (owned guest is o found) fetched)
    call-alike (event.Take guest queue lane) fetched whose =
        let is : guest ≡ number = some-same guest number whose in
        both-one number now other same-now (owner_in geometry s guest) (owner_in geometry z guest) _ _ (owners guest is) (λ o found.
        both-taking number now other same-now o (owned guest is o found) queue lane fetched)
    call-alike (event.List lane tag addr len) fetched whose =
        both-taken number now other same-now tag (tag_at s lane tag) (tag_at z lane tag) _ _ (tags-are lane tag whose) (λ command reads there.
        both-owner number now other same-now (owner_in geometry s command.guest) (owner_in geometry z command.guest) _ _
        (owners command.guest (guest-is lane tag command.guest whose (Taken command reads) there refl)) (λ o found.
        both-listed addr len lane tag fetched command reads o))
    call-alike (event.Submit lane tag) fetched whose =
        both-taken number now other same-now tag (tag_at s lane tag) (tag_at z lane tag) _ _ (tags-are lane tag whose) (λ command reads there.
        (let is = guest-is lane tag command.guest whose (Taken command reads) there refl in
        both-owner number now other same-now (owner_in geometry s command.guest) (owner_in geometry z command.guest) _ _ (owners command.guest is) (λ o found.
        submits-alike lane tag command reads o there is)))
    call-alike (event.GiveUp lane tag) fetched whose =
        both-taken number now other same-now tag (tag_at s lane tag) (tag_at z lane tag) _ _ (tags-are lane tag whose) (λ command reads there.
        gives-alike lane tag command reads there (guest-is lane tag command.guest whose (Taken command reads) there refl))
    call-alike (event.DevTake lane) fetched whose = cc
    call-alike (event.DevMove lane slot unit) fetched whose = cc
    call-alike (event.DevPost lane slot) fetched whose = cc
    call-alike (event.DevFail lane slot st) fetched whose = cc
    call-alike (event.Keep block) fetched whose = cc
    call-alike (event.Reap lane) fetched whose = reaps-alike lane fetched whose
    call-alike (event.Post lane tag) fetched whose =
        both-ended number now other same-now tag (tag_at s lane tag) (tag_at z lane tag) _ _ (tags-are lane tag whose) (λ command st share there.
        (let is = guest-is lane tag command.guest whose (Ended command st share) there refl in
        both-owner number now other same-now (owner_in geometry s command.guest) (owner_in geometry z command.guest) _ _ (owners command.guest is) (λ o found.
        posts-alike lane tag command st share o there is (owned command.guest is o found))))
