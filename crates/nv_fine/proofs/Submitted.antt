-- Each effect of a call comes from where it may: those of a Submit from shares that go by tags which wait for their plan.
use Rattle.std.proofs.Common.{◌≡◌, ℕ, ◌<◌, Bool, true, false, cond, ◌&&◌, List, [], ◌∷◌, ◌++◌, nat_le, set, slice_get, take, All, Option, Some, None}
use Rattle.std.proofs.Common.{refl, sym, subst}
use Rattle.std.proofs.lemmas.List.Elements.{All-append, All-contains_itself, All-head, All-nil, All-tail, All-weaker}
use Rattle.std.specs.List.{Contains}
use Rattle.nv_entry.specs.Completion.{cid_of as completed_cid, status_of}
use Rattle.nv_entry.specs.StatusCode.{done_with}
use Rattle.nv_entry.specs.Submission.{cid_of}
use Rattle.nv_entry.specs.declared.status_code.StatusCode.TheVariants.{InternalError, Success}
use Rattle.nv_fine.proofs.Comes.{Comes, OfShare, acted-fine, administered-fine, at_once-none, begun-fine, ended-none, post-fine, quiet-fine, taken-quiet}
use Rattle.nv_laws_sound.proofs.Lists.{IsThere, Put, Was, set-there}
use Rattle.nv_laws_sound.proofs.Planned.{Answers, IsAnswerOr, Plans, plan_over-is, shares-planned}
use Rattle.nv_laws_sound.proofs.Rings.{next-below}
use Rattle.nv_laws_sound.specs.Consistent.{IsPlanned}
use Rattle.nv_laws_sound.specs.LaidOut.{IsLaidOut}
use Rattle.nv_laws_sound.specs.Side.{IsKept, Side}
use Rattle.nv_machine.proofs.CallWalks.{either, ended-walk, one-walk, owner-walk, owner_in-named, taken-walk}
use Rattle.nv_machine.proofs.Cases.{tag-lane}
use Rattle.nv_machine.proofs.ContainedFetch.{AreSound}
use Rattle.nv_machine.proofs.ContainedRings.{group-taken}
use Rattle.nv_machine.proofs.Posted.{post-placed}
use Rattle.nv_machine.proofs.SideWorlds.{begun}
use Rattle.nv_machine.proofs.SubmitRings.{IsTakenTag}
use Rattle.nv_machine.specs.Doing.{Doing, for_one, group_at, lane_changed, owner_in, tag_at, tag_put}
use Rattle.nv_machine.specs.Effects.{Effect}
use Rattle.nv_machine.specs.InWorld.{AreOnPages}
use Rattle.nv_machine.specs.Machine.{call, called, carried_out, carry_out, ended_at, ended_at_once, handed_on, in_order, is_new, list_at, names_command}
use Rattle.nv_machine.specs.Machine.{post_all, reap, share_effects, statuses_of, submit_by, submitted_on, take_from}
use Rattle.nv_mem.specs.GuestMap.{all_mapped}
use Rattle.nv_model.specs.Limits.{part_size}
use Rattle.nv_model.specs.Queue.{next_slot}
use Rattle.nv_model.specs.Transcript.{Outcome, ReadDone, Settled, Wanted}
use Rattle.nv_world_model.specs.Area.{ring_size}
use Rattle.nv_world_model.specs.Geometry.{Geometry, regions_of}
use Rattle.nv_world_model.specs.Plan.{Answer, Bounced, Direct, NoData, Plan, plan_over}
use Rattle.nv_world_model.specs.Seat.{Owner}
use Rattle.nv_world_model.specs.Share.{Share, shares_of}
use Rattle.nv_world_model.specs.ShareArea.{is_no_command}
use Rattle.nv_world_model.specs.Step as step
use Rattle.nv_world_model.specs.World.{Command, Ended, Tag, Taken}
use Rattle.nv_world_model.specs.declared.event.Event.{Event}
use Rattle.nv_world_model.specs.declared.event.Event.TheVariants as event

module _ (geometry : Geometry) (sound : AreSound geometry) (s : Side) (lane : ℕ) (command : Command) (o : Owner) where
  abbrev Mine : ℕ → Type 0
  Mine = IsTakenTag command lane s

  abbrev Planned : Share → Type 0
  Planned = IsPlanned o.given command.entry

  -- so far the effects are such, and the tail is a slot
  record IsSoFar (m : Doing) : Type 0 where
    effects : All (Comes geometry s) m.effects
    slot : (tail : ℕ) → slice_get m.side.tails lane ≡ Some tail → tail < ring_size

  share-comes : (tag slot : ℕ) (share : Share) → Mine tag → Planned share → slot < ring_size
      → All (Comes geometry s) (share_effects share o.given command.entry geometry.mediator lane tag slot)
  share-comes tag slot share mine planned below =
      let es : List Effect = share_effects share o.given command.entry geometry.mediator lane tag slot in
      All-weaker (Contains es) (Comes geometry s)
      (λ (e : Effect). λ among. OfShare lane tag slot o.given command mine.reads share mine.there planned below among) es (All-contains_itself es)

  slot-set : (tails : List ℕ) (at tail : ℕ) → at < ring_size → ((n : ℕ) → slice_get tails lane ≡ Some n → n < ring_size)
      → slice_get (set tails lane (next_slot ring_size at)) lane ≡ Some tail → tail < ring_size
  slot-set tails at tail below slot there = by (set-there tails lane (next_slot ring_size at) lane tail there)
    where
      by : IsThere tails lane (next_slot ring_size at) lane tail → tail < ring_size
      by (Put same is) = subst (λ n. n < ring_size) is (next-below at below)
      by (Was apart was) = slot tail was

  one-submitted : (t : Option ℕ) (tag : ℕ) (share : Share) (m : Doing) → slice_get m.side.tails lane ≡ t → Mine tag → Planned share → IsSoFar m
      → IsSoFar (submitted_on t geometry.mediator lane tag command share o m)
  one-submitted None tag share m there mine planned is = is
  one-submitted (Some at) tag share m there mine planned is =
      let below = is.slot at there in
      record {
        effects = All-append (Comes geometry s) m.effects (share_effects share o.given command.entry geometry.mediator lane tag at) is.effects
            (share-comes tag at share mine planned below);
        slot = λ tail found. slot-set m.side.tails at tail below is.slot found;
      }

  one-carried : (tag : ℕ) (share : Share) (m : Doing) → Mine tag → Planned share → IsSoFar m
      → IsSoFar (carried_out geometry.mediator lane tag command share o m)
  one-carried tag share m mine planned is = by (is_no_command share)
    where
      by : (b : Bool) → IsSoFar (cond b (tag_put lane tag (Ended command (done_with Success) (Some share)) m)
          (submitted_on (slice_get m.side.tails lane) geometry.mediator lane tag command share o m))
      by true = record { effects = is.effects; slot = is.slot }
      by false = one-submitted (slice_get m.side.tails lane) tag share m refl mine planned is

  all-handed : (tags : List ℕ) (shares : List Share) (m : Doing) → All Mine tags → All Planned shares → IsSoFar m
      → IsSoFar (handed_on geometry.mediator lane tags shares command o m)
  unfolding handed_on
  all-handed [] shares m mine planned is = is
  all-handed (tag ∷ tags) [] m mine planned is = is
  all-handed (tag ∷ tags) (share ∷ shares) m mine planned is =
      all-handed tags shares (carried_out geometry.mediator lane tag command share o m) (All-tail Mine tag tags mine) (All-tail Planned share shares planned)
      (one-carried tag share m (All-head Mine tag tags mine) (All-head Planned share shares planned) is)

  abbrev Fine : Doing → Type 0
  Fine n = All (Comes geometry s) n.effects

  plan-comes : (plan : Plan) → IsAnswerOr o.given command.entry plan → (tags : List ℕ) → All Mine tags → IsSoFar (begun s)
      → Fine (carry_out plan geometry.mediator lane tags command o (begun s))
  plan-comes (Answer st) is tags mine so =
      quiet-fine geometry sound s (ended_at_once lane tags command st (begun s)) (at_once-none lane tags command st (begun s) refl)
  plan-comes (NoData work) (Answers st fails same) tags mine so = cc
  plan-comes (Direct work) (Answers st fails same) tags mine so = cc
  plan-comes (Bounced work) (Answers st fails same) tags mine so = cc
  plan-comes (NoData work) (Plans whole) tags mine so =
      (all-handed tags (shares_of o.given.namespace command.entry (NoData work)) (begun s) mine (shares-planned o.given command.entry (NoData work) whole) so).effects
  plan-comes (Direct work) (Plans whole) tags mine so =
      (all-handed tags (shares_of o.given.namespace command.entry (Direct work)) (begun s) mine (shares-planned o.given command.entry (Direct work) whole) so).effects
  plan-comes (Bounced work) (Plans whole) tags mine so =
      (all-handed tags (shares_of o.given.namespace command.entry (Bounced work)) (begun s) mine (shares-planned o.given command.entry (Bounced work) whole) so).effects

  outcome-comes : (reads : List ReadDone) (outcome : Outcome Plan) → plan_over o.given command.entry reads ≡ outcome → (tags : List ℕ) → All Mine tags
      → ((tail : ℕ) → slice_get s.tails lane ≡ Some tail → tail < ring_size)
      → Fine (submit_by outcome geometry.mediator lane tags command o (begun s)).now
  outcome-comes reads (Wanted addr len) over tags mine slot = begun-fine geometry sound s
  outcome-comes reads (Settled plan) over tags mine slot =
      plan-comes plan (plan_over-is o.given command.entry reads plan over) tags mine (record { effects = All-nil (Comes geometry s); slot = slot })

-- ---- the event

module _ (host_bytes lanes : ℕ) (geometry : Geometry) (laid : IsLaidOut host_bytes lanes geometry) (s : Side) (kept : IsKept geometry s)
    (on_pages : AreOnPages s.controllers) where
  sound : AreSound geometry
  sound number guest found = (laid.given number guest found).sound

  abbrev Good : Doing → Type 0
  Good n = All (Comes geometry s) n.effects

  stay : Good (begun s)
  stay = begun-fine geometry sound s

  named : (number : ℕ) (o : Owner) → owner_in geometry s number ≡ Some o → slice_get geometry.guests number ≡ Some o.given
  named number o whose =
      let n = owner_in-named geometry s number o whose in subst (λ k. slice_get geometry.guests k ≡ Some o.given) (sym n.same) n.given

  pub call-comes : (e : Event) (fetched : List ℕ) → Good (call geometry e fetched s).now
  unfolding called
  call-comes (event.Guest guest a) fetched =
      one-walk Good (begun s) stay (owner_in geometry s guest) _ (λ o whose. acted-fine geometry sound s guest o (named guest o whose) a fetched)
  call-comes (event.Admin guest) fetched =
      one-walk Good (begun s) stay (owner_in geometry s guest) _ (λ o whose.
      (let n = owner_in-named geometry s guest o whose in
      administered-fine geometry sound s guest o (named guest o whose) (kept.queues o.number o.given o.controller n.given n.controller)
      (on_pages o.number o.controller n.controller) fetched))
  call-comes (event.Take guest queue lane) fetched =
      one-walk Good (begun s) stay (owner_in geometry s guest) _ (λ o whose.
      one-walk Good (begun s) stay (slice_get s.lanes lane) (λ l. take_from queue lane l fetched o (begun s)) (λ l at.
      quiet-fine geometry sound s (take_from queue lane l fetched o (begun s)).now (taken-quiet o s queue lane l fetched)))
  call-comes (event.List lane tag addr len) fetched =
      taken-walk Good (begun s) stay tag (tag_at s lane tag) _ (λ command reads there leads.
      owner-walk Good (begun s) stay (owner_in geometry s command.guest) (λ o. list_at addr len lane tag fetched command reads o (begun s)) (λ o whose.
      either Good (begun s) stay (all_mapped (regions_of o.given) addr len) _ _ (λ mapped.
      either Good (begun s) stay (nat_le 1 len && nat_le len part_size) _ _
      (λ fits. quiet-fine geometry sound s (tag_put lane tag (Taken command (reads ++ record { addr = addr; bytes = fetched } ∷ [])) (begun s)) refl) (λ no. stay)) (λ no. stay)))
  call-comes (event.Submit lane tag) fetched =
      taken-walk Good (begun s) stay tag (tag_at s lane tag) _ (λ command reads there leads.
      owner-walk Good (begun s) stay (owner_in geometry s command.guest) (λ o. for_one (slice_get s.tails lane) (begun s) (λ tail.
      submit_by (plan_over o.given command.entry reads) geometry.mediator lane (group_at s lane tag) command o (begun s))) (λ o whose.
      one-walk Good (begun s) stay (slice_get s.tails lane) _ (λ tail at.
      (let l = tag-lane (slice_get s.lanes lane) tag (Taken command reads) there in
      outcome-comes geometry sound s lane command o reads (plan_over o.given command.entry reads) refl (group_at s lane tag)
      (group-taken geometry s lane tag l.0 command reads l.1.0 (kept.lanes lane l.0 l.1.0).groups there leads) (kept.slots lane)))))
  call-comes (event.GiveUp lane tag) fetched =
      taken-walk Good (begun s) stay tag (tag_at s lane tag) _ (λ command reads there leads.
      quiet-fine geometry sound s (ended_at_once lane (group_at s lane tag) command (done_with InternalError) (begun s))
      (at_once-none lane (group_at s lane tag) command (done_with InternalError) (begun s) refl))
  call-comes (event.DevTake lane) fetched = stay
  call-comes (event.DevMove lane slot unit) fetched = stay
  call-comes (event.DevPost lane slot) fetched = stay
  call-comes (event.DevFail lane slot st) fetched = stay
  call-comes (event.Keep block) fetched = stay
  call-comes (event.Reap lane) fetched =
      one-walk Good (begun s) stay (slice_get s.lanes lane) (λ l. reap lane l fetched (begun s)) (λ l at.
      either Good (begun s) stay (is_new l (take 4 fetched)) _ _ (λ new.
      either Good (begun s) stay (names_command lane l (in_order fetched)) _ _
      (λ names.
      (let n : Doing = lane_changed lane step.completion_read (begun s) in
      let t : Option Tag = slice_get l.tags (completed_cid (in_order fetched)) in
      quiet-fine geometry sound s (ended_at t (status_of (in_order fetched)) lane (completed_cid (in_order fetched)) n)
      (ended-none t (status_of (in_order fetched)) lane (completed_cid (in_order fetched)) n refl)))
      (λ strays. stay)) (λ old. stay))
  call-comes (event.Post lane tag) fetched =
      ended-walk Good (begun s) stay tag (tag_at s lane tag) _ (λ command st share there leads.
      owner-walk Good (begun s) stay (owner_in geometry s command.guest)
      (λ o. post_all (statuses_of lane (group_at s lane tag) s) command geometry.mediator lane (group_at s lane tag) o (begun s)) (λ o whose.
      (let n = owner_in-named geometry s command.guest o whose in
      post-fine geometry sound s command.guest o (named command.guest o whose) command lane (group_at s lane tag)
      (statuses_of lane (group_at s lane tag) s)
      (λ sts. post-placed geometry o (kept.queues o.number o.given o.controller n.given n.controller) (on_pages o.number o.controller n.controller)
      command.queue 0 (cid_of command.entry) sts))))
