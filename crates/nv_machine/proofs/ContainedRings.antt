-- The tail of a submission ring passes entries of the owner's alone, and only in a Submit.
use Rattle.std.proofs.Common.{◌≡◌, ℕ, ◌≤◌, Bool, true, false, cond, ◌&&◌, ◌==◌, List, [], ◌∷◌, length, nat_le, slice_get, take, All}
use Rattle.std.proofs.Common.{Option, Some, None, eqb-true, refl, sym, ap, ◌∙◌, subst}
use Rattle.std.proofs.lemmas.List.Elements.{All-weaker}
use Rattle.nv_entry.specs.Completion.{cid_of as completed_cid, status_of}
use Rattle.nv_entry.specs.Status.{StatusField}
use Rattle.nv_entry.specs.StatusCode.{done_with}
use Rattle.nv_entry.specs.Submission.{cid_of}
use Rattle.nv_entry.specs.declared.status_code.StatusCode.TheVariants.{InternalError, Success}
use Rattle.nv_laws_sound.proofs.Folds.{HasTag, group-distinct}
use Rattle.nv_laws_sound.proofs.Lists.{some-same}
use Rattle.nv_laws_sound.proofs.Numbers.{AreDistinct}
use Rattle.nv_laws_sound.proofs.Planned.{Answers, IsAnswerOr, Plans, plan_over-is, shares-planned}
use Rattle.nv_laws_sound.proofs.Stages.{taken-tags}
use Rattle.nv_laws_sound.proofs.TagEvents.{IsTakenBy}
use Rattle.nv_laws_sound.specs.Consistent.{IsBetween, IsPlanned}
use Rattle.nv_laws_sound.specs.Groups.{AreGroups}
use Rattle.nv_laws_sound.specs.LaidOut.{IsLaidOut}
use Rattle.nv_laws_sound.specs.Side.{IsKept, Side}
use Rattle.nv_machine.specs.Contained.{MayPass, guest_for}
use Rattle.nv_machine.specs.Doing.{Doing, controller_put, for_one, for_owner, group_at, lane_changed, owner_in, replied, tag_at, tag_put, tags_put, told}
use Rattle.nv_machine.specs.Effects.{Effect}
use Rattle.nv_machine.specs.Machine.{acted_in, administered_in, call, called, carried_out, carry_out}
use Rattle.nv_machine.specs.Machine.{ended_at, ended_at_once, handed_on, in_order, is_new, list_at, names_command, post_all, post_by}
use Rattle.nv_machine.specs.Machine.{reap, statuses_of, submit_by, submitted_on, take_from, take_front, take_tags}
use Rattle.nv_machine.proofs.CallWalks.{either, ended-walk, one-walk, owner-walk, owner_in-named, tags_put-keeps, taken-walk}
use Rattle.nv_machine.proofs.Cases.{tag-lane}
use Rattle.nv_machine.proofs.ContainedEffects.{group-few}
use Rattle.nv_machine.proofs.ContainedFetch.{AreSound}
use Rattle.nv_machine.proofs.ControllerCalls.{acted-alone, administered-alone}
use Rattle.nv_machine.proofs.FetchedHosts.{nothing}
use Rattle.nv_machine.proofs.SideWorlds.{begun, world_with}
use Rattle.nv_machine.proofs.SubmitRings.{IsTakenTag, between-none, entries-on}
use Rattle.nv_mem.specs.GuestMap.{all_mapped}
use Rattle.nv_model.specs.Controller.{Posted, front, is_enabled, post, ran_out, took}
use Rattle.nv_model.specs.Limits.{part_size}
use Rattle.nv_model.specs.Queue.{next_slot}
use Rattle.nv_model.specs.Transcript.{Outcome, ReadDone, Settled, Wanted}
use Rattle.nv_model.specs.declared.reply.Reply.TheVariants as reply
use Rattle.nv_world_model.specs.Area.{ring_size}
use Rattle.nv_world_model.specs.Contained.{guest_of_one}
use Rattle.nv_world_model.specs.Geometry.{Geometry, regions_of}
use Rattle.nv_world_model.specs.Plan.{Answer, Bounced, Direct, NoData, Plan, plan_over}
use Rattle.nv_world_model.specs.Seat.{Owner}
use Rattle.nv_world_model.specs.Share.{Share, shares_of}
use Rattle.nv_world_model.specs.ShareArea.{is_no_command}
use Rattle.nv_world_model.specs.Step as step
use Rattle.nv_world_model.specs.World.{Command, Ended, Flying, Free, Lane, Tag, Taken, World, group}
use Rattle.nv_world_model.proofs.Seats.{slice_get-set-other}
use Rattle.nv_world_model.specs.declared.event.Event.{Event}
use Rattle.nv_world_model.specs.declared.event.Event.TheVariants as event

-- ---- what leaves all tails

-- of tags that change
tags-tails : (lane : ℕ) (tags : List ℕ) (t : Tag) (m : Doing) → (tags_put lane tags t m).side.tails ≡ m.side.tails
tags-tails lane tags t m = tags_put-keeps (λ n. n.side.tails ≡ m.side.tails) lane t (λ n tag same. same) tags m refl

at_once-tails : (lane : ℕ) (tags : List ℕ) (command : Command) (st : StatusField) (m : Doing)
    → (ended_at_once lane tags command st m).side.tails ≡ m.side.tails
at_once-tails lane [] command st m = refl
at_once-tails lane (tag ∷ tags) command st m = tags-tails lane tags (Ended command (done_with Success) None) (tag_put lane tag (Ended command st None) m)

ended-tails : (t : Option Tag) (st : StatusField) (lane tag : ℕ) (m : Doing) → (ended_at t st lane tag m).side.tails ≡ m.side.tails
ended-tails None st lane tag m = refl
ended-tails (Some Free) st lane tag m = refl
ended-tails (Some (Taken command reads)) st lane tag m = refl
ended-tails (Some (Flying command share standing)) st lane tag m = refl
ended-tails (Some (Ended command before share)) st lane tag m = refl

module _ (o : Owner) (s : Side) where
  abbrev Same : Doing → Type 0
  Same n = n.side.tails ≡ s.tails

  tags-taken_tails : (found : Option (List ℕ)) (queue lane : ℕ) (entry : List ℕ) → Same (take_tags found queue lane entry o (begun s)).now
  tags-taken_tails None queue lane entry = refl
  tags-taken_tails (Some tags) queue lane entry = tags-tails lane tags _ (controller_put o.number (took o.controller queue) (begun s))

  front-taken_tails : (found : Option ℕ) (queue lane : ℕ) (l : Lane) (entry : List ℕ) → Same (take_front found queue lane l entry o (begun s)).now
  front-taken_tails None queue lane l entry = refl
  front-taken_tails (Some addr) queue lane l entry = tags-taken_tails _ queue lane entry

  taken-tails : (queue lane : ℕ) (l : Lane) (entry : List ℕ) → Same (take_from queue lane l entry o (begun s)).now
  taken-tails queue lane l entry =
      either Same (begun s) refl (step.is_io_queue queue) _ _ (λ io. front-taken_tails (front o.controller queue) queue lane l entry) (λ no. refl)

  posted-tails : (p : Option Posted) (es : List Effect) (lane : ℕ) (tags : List ℕ) → Same (post_by p es lane tags o (begun s)).now
  posted-tails None es lane tags = refl
  posted-tails (Some p) es lane tags = tags-tails lane tags Free (controller_put o.number p.controller (told _ (begun s)))

  all-tails : (sts : Option (List StatusField)) (command : Command) (mediator lane : ℕ) (tags : List ℕ)
      → Same (post_all sts command mediator lane tags o (begun s)).now
  all-tails None command mediator lane tags = refl
  all-tails (Some sts) command mediator lane tags =
      either Same (begun s) refl (is_enabled o.controller) _ _
      (λ enabled. posted-tails (post o.controller command.queue 0 (cid_of command.entry) (step.deciding sts)) _ lane tags)
      (λ fell. tags-tails lane tags Free (controller_put o.number (ran_out o.controller command.queue) (told _ (begun s))))

-- ---- what a Submit hands on

module _ (mediator lane : ℕ) (command : Command) (o : Owner) where
  -- the tails of other lanes
  carried-elsewhere : (tag other : ℕ) (share : Share) (m : Doing) → (other == lane) ≡ false
      → slice_get (carried_out mediator lane tag command share o m).side.tails other ≡ slice_get m.side.tails other
  carried-elsewhere tag other share m apart = by (is_no_command share) (slice_get m.side.tails lane)
    where
      by : (b : Bool) (t : Option ℕ)
          → slice_get (cond b (tag_put lane tag (Ended command (done_with Success) (Some share)) m)
          (submitted_on t mediator lane tag command share o m)).side.tails other ≡ slice_get m.side.tails other
      by true t = refl
      by false None = refl
      by false (Some tail) = slice_get-set-other m.side.tails lane other (next_slot ring_size tail) apart

  handed-elsewhere : (tags : List ℕ) (shares : List Share) (m : Doing) (other : ℕ) → (other == lane) ≡ false
      → slice_get (handed_on mediator lane tags shares command o m).side.tails other ≡ slice_get m.side.tails other
  unfolding handed_on
  handed-elsewhere [] shares m other apart = refl
  handed-elsewhere (tag ∷ tags) [] m other apart = refl
  handed-elsewhere (tag ∷ tags) (share ∷ shares) m other apart =
      handed-elsewhere tags shares (carried_out mediator lane tag command share o m) other apart ∙ carried-elsewhere tag other share m apart

-- all tags of a command that is taken wait for its plan
pub group-taken : (geometry : Geometry) (s : Side) (lane tag : ℕ) (l : Lane) (command : Command) (reads : List ReadDone) → slice_get s.lanes lane ≡ Some l
    → AreGroups geometry l.tags → tag_at s lane tag ≡ Some (Taken command reads) → command.leader ≡ tag
    → All (IsTakenTag command lane s) (group_at s lane tag)
unfolding group
group-taken geometry s lane tag l command reads at groups there leads =
    let w : World = world_with nothing s in
    All-weaker (HasTag (IsTakenBy command) w lane) (IsTakenTag command lane s)
    (λ n h. record { reads = h.has.reads; there = h.is ∙ ap (λ (t : Tag). Some t) h.has.is }) (group_at s lane tag)
    (taken-tags geometry w lane tag l command reads at groups there leads)

group-apart : (s : Side) (lane tag : ℕ) → AreDistinct (group_at s lane tag)
unfolding group
group-apart s lane tag = group-distinct (world_with nothing s) lane tag

-- ---- the event

module _ (host_bytes lanes : ℕ) (geometry : Geometry) (laid : IsLaidOut host_bytes lanes geometry) (s : Side) (kept : IsKept geometry s) where
  abbrev Fine : Option ℕ → Doing → Type 0
  Fine number n =
      (lane tail behind slot : ℕ) → slice_get s.tails lane ≡ Some tail → slice_get n.side.tails lane ≡ Some behind → IsBetween tail behind slot
      → MayPass geometry n.side number lane slot n.effects

  -- where the tails are as they were none is passed
  none-passed : (number : Option ℕ) (n : Doing) (lane tail behind slot : ℕ) → slice_get n.side.tails lane ≡ slice_get s.tails lane
      → slice_get s.tails lane ≡ Some tail → slice_get n.side.tails lane ≡ Some behind → IsBetween tail behind slot
      → MayPass geometry n.side number lane slot n.effects
  none-passed number n lane tail behind slot same before past between =
      let one : behind ≡ tail = some-same behind tail (sym past ∙ same ∙ before) in
      absurd (between-none tail slot (kept.slots lane tail before) (subst (λ k. IsBetween tail k slot) one between))

  still : (number : Option ℕ) (n : Doing) → n.side.tails ≡ s.tails → Fine number n
  still number n same lane tail behind slot = none-passed number n lane tail behind slot (ap (λ (ts : List ℕ). slice_get ts lane) same)

  sound : AreSound geometry
  sound number guest found = (laid.given number guest found).sound

  module _ (lane tail : ℕ) (command : Command) (o : Owner) (given : slice_get geometry.guests command.guest ≡ Some o.given)
      (at : slice_get s.tails lane ≡ Some tail) (tags : List ℕ) (room : length tags ≤ 64) (apart : AreDistinct tags)
      (mine : All (IsTakenTag command lane s) tags) where
    handed-pass : (shares : List Share) → All (IsPlanned o.given command.entry) shares
        → Fine (Some command.guest) (handed_on geometry.mediator lane tags shares command o (begun s))
    handed-pass shares are other start behind slot before past between = by (other == lane) refl
      where
        n : Doing
        n = handed_on geometry.mediator lane tags shares command o (begun s)

        by : (b : Bool) → (other == lane) ≡ b → MayPass geometry n.side (Some command.guest) other slot n.effects
        by false differ =
            none-passed (Some command.guest) n other start behind slot (handed-elsewhere geometry.mediator lane command o tags shares (begun s) other differ)
            before past between
        by true here =
            subst (λ (k : ℕ). slice_get s.tails k ≡ Some start → slice_get n.side.tails k ≡ Some behind
            → MayPass geometry n.side (Some command.guest) k slot n.effects) (sym (eqb-true other lane here))
            (λ from to. entries-on geometry sound laid.pages s lane command o given tags shares (begun s) start from (kept.slots lane start from) room apart mine
            (λ k d below. refl) are behind slot to between) before past

    plan-pass : (plan : Plan) → IsAnswerOr o.given command.entry plan
        → Fine (Some command.guest) (carry_out plan geometry.mediator lane tags command o (begun s))
    plan-pass (Answer st) is = still (Some command.guest) (ended_at_once lane tags command st (begun s)) (at_once-tails lane tags command st (begun s))
    plan-pass (NoData work) (Answers st fails same) = cc
    plan-pass (Direct work) (Answers st fails same) = cc
    plan-pass (Bounced work) (Answers st fails same) = cc
    plan-pass (NoData work) (Plans whole) =
        handed-pass (shares_of o.given.namespace command.entry (NoData work)) (shares-planned o.given command.entry (NoData work) whole)
    plan-pass (Direct work) (Plans whole) =
        handed-pass (shares_of o.given.namespace command.entry (Direct work)) (shares-planned o.given command.entry (Direct work) whole)
    plan-pass (Bounced work) (Plans whole) =
        handed-pass (shares_of o.given.namespace command.entry (Bounced work)) (shares-planned o.given command.entry (Bounced work) whole)

    outcome-pass : (reads : List ReadDone) (outcome : Outcome Plan) → plan_over o.given command.entry reads ≡ outcome
        → Fine (Some command.guest) (submit_by outcome geometry.mediator lane tags command o (begun s)).now
    outcome-pass reads (Wanted addr len) over = still (Some command.guest) (begun s) refl
    outcome-pass reads (Settled plan) over = plan-pass plan (plan_over-is o.given command.entry reads plan over)

  -- the guest that is named by its number
  named : (number : ℕ) (o : Owner) → owner_in geometry s number ≡ Some o → slice_get geometry.guests number ≡ Some o.given
  named number o whose =
      let n = owner_in-named geometry s number o whose in subst (λ k. slice_get geometry.guests k ≡ Some o.given) (sym n.same) n.given

  submit-pass : (lane tag : ℕ) (command : Command) (reads : List ReadDone) (o : Owner) → tag_at s lane tag ≡ Some (Taken command reads) → command.leader ≡ tag
      → owner_in geometry s command.guest ≡ Some o → (tail : ℕ) → slice_get s.tails lane ≡ Some tail
      → Fine (guest_of_one (tag_at s lane tag))
      (submit_by (plan_over o.given command.entry reads) geometry.mediator lane (group_at s lane tag) command o (begun s)).now
  submit-pass lane tag command reads o there leads whose tail at =
      let l = tag-lane (slice_get s.lanes lane) tag (Taken command reads) there in
      let k = kept.lanes lane l.0 l.1.0 in
      subst (λ (t : Option Tag). Fine (guest_of_one t)
      (submit_by (plan_over o.given command.entry reads) geometry.mediator lane (group_at s lane tag) command o (begun s)).now) (sym there)
      (outcome-pass lane tail command o (named command.guest o whose) at (group_at s lane tag) (group-few s lane tag l.0 l.1.0 k.tags_are) (group-apart s lane tag)
      (group-taken geometry s lane tag l.0 command reads l.1.0 k.groups there leads) reads (plan_over o.given command.entry reads) refl)

  -- all others leave the tails
  abbrev Stays : Doing → Type 0
  Stays n = n.side.tails ≡ s.tails

  pub rings-pass : (e : Event) (fetched : List ℕ) → Fine (guest_for e fetched s) (call geometry e fetched s).now
  unfolding called
  rings-pass (event.Guest guest a) fetched =
      still (Some guest) _ (one-walk Stays (begun s) refl (owner_in geometry s guest) (λ o. acted_in a fetched o (begun s)) (λ o whose. (acted-alone o s a fetched).1))
  rings-pass (event.Admin guest) fetched =
      still (Some guest) _
      (one-walk Stays (begun s) refl (owner_in geometry s guest) (λ o. administered_in fetched o (begun s)) (λ o whose. (administered-alone o s fetched).1))
  rings-pass (event.Take guest queue lane) fetched =
      still (Some guest) _
      (one-walk Stays (begun s) refl (owner_in geometry s guest) (λ o. for_one (slice_get s.lanes lane) (begun s) (λ l. take_from queue lane l fetched o (begun s)))
      (λ o whose.
      one-walk Stays (begun s) refl (slice_get s.lanes lane) (λ l. take_from queue lane l fetched o (begun s)) (λ l at. taken-tails o s queue lane l fetched)))
  rings-pass (event.List lane tag addr len) fetched =
      still (guest_of_one (tag_at s lane tag)) _
      (taken-walk Stays (begun s) refl tag (tag_at s lane tag)
      (λ command reads. for_owner (owner_in geometry s command.guest) (begun s) (λ o. list_at addr len lane tag fetched command reads o (begun s)))
      (λ command reads there leads.
      owner-walk Stays (begun s) refl (owner_in geometry s command.guest) (λ o. list_at addr len lane tag fetched command reads o (begun s)) (λ o whose.
      either Stays (begun s) refl (all_mapped (regions_of o.given) addr len) _ _ (λ mapped.
      either Stays (begun s) refl (nat_le 1 len && nat_le len part_size) _ _ (λ fits. refl) (λ no. refl)) (λ no. refl))))
  rings-pass (event.Submit lane tag) fetched =
      let P : Doing → Type 0 = Fine (guest_of_one (tag_at s lane tag)) in
      let none : P (begun s) = still (guest_of_one (tag_at s lane tag)) (begun s) refl in
      taken-walk P (begun s) none tag (tag_at s lane tag) _ (λ command reads there leads.
      owner-walk P (begun s) none (owner_in geometry s command.guest) (λ o. for_one (slice_get s.tails lane) (begun s) (λ tail.
      submit_by (plan_over o.given command.entry reads) geometry.mediator lane (group_at s lane tag) command o (begun s))) (λ o whose.
      one-walk P (begun s) none (slice_get s.tails lane) _ (λ tail at. submit-pass lane tag command reads o there leads whose tail at)))
  rings-pass (event.GiveUp lane tag) fetched =
      still (guest_of_one (tag_at s lane tag)) _
      (taken-walk Stays (begun s) refl tag (tag_at s lane tag)
      (λ command reads. replied reply.Done (ended_at_once lane (group_at s lane tag) command (done_with InternalError) (begun s)))
      (λ command reads there leads. at_once-tails lane (group_at s lane tag) command (done_with InternalError) (begun s)))
  rings-pass (event.DevTake lane) fetched = still None (begun s) refl
  rings-pass (event.DevMove lane slot unit) fetched = still None (begun s) refl
  rings-pass (event.DevPost lane slot) fetched = still None (begun s) refl
  rings-pass (event.DevFail lane slot st) fetched = still None (begun s) refl
  rings-pass (event.Keep block) fetched = still None (begun s) refl
  rings-pass (event.Reap lane) fetched =
      still (guest_of_one (tag_at s lane (completed_cid (in_order fetched)))) _
      (one-walk Stays (begun s) refl (slice_get s.lanes lane) (λ l. reap lane l fetched (begun s)) (λ l at.
      either Stays (begun s) refl (is_new l (take 4 fetched)) _ _ (λ new.
      either Stays (begun s) refl (names_command lane l (in_order fetched)) _ _
      (λ names. ended-tails (slice_get l.tags (completed_cid (in_order fetched))) (status_of (in_order fetched)) lane (completed_cid (in_order fetched))
      (lane_changed lane step.completion_read (begun s))) (λ strays. refl)) (λ old. refl)))
  rings-pass (event.Post lane tag) fetched =
      still (guest_of_one (tag_at s lane tag)) _
      (ended-walk Stays (begun s) refl tag (tag_at s lane tag)
      (λ command. for_owner (owner_in geometry s command.guest) (begun s)
      (λ o. post_all (statuses_of lane (group_at s lane tag) s) command geometry.mediator lane (group_at s lane tag) o (begun s)))
      (λ command st share there leads.
      owner-walk Stays (begun s) refl (owner_in geometry s command.guest)
      (λ o. post_all (statuses_of lane (group_at s lane tag) s) command geometry.mediator lane (group_at s lane tag) o (begun s)) (λ o whose.
      all-tails o s (statuses_of lane (group_at s lane tag) s) command geometry.mediator lane (group_at s lane tag))))
