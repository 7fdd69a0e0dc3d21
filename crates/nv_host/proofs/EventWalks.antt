-- What holds of the worlds that an event of the mediator's side makes, one tag and one controller after the other; but for a Take, which gives tags.
use Rattle.std.proofs.Common.{◌≡◌, ℕ, ◌&&◌, Bool, true, false, cond, List, [], ◌∷◌, nat_le, slice_get}
use Rattle.std.proofs.Common.{Option, Some, None, refl, ap, subst, ◌∙◌}
use Rattle.std.specs.Bool.{⊤}
use Rattle.std.specs.List.{All}
use Rattle.std.specs.Option.{option_map}
use Rattle.std.proofs.lemmas.List.Elements.{All-head, All-tail}
use Rattle.nv_core.specs.Tags.{command_at}
use Rattle.nv_entry.specs.Completion.{cid_of as completed_cid, status_of}
use Rattle.nv_entry.specs.Status.{StatusField}
use Rattle.nv_entry.specs.StatusCode.{done_with}
use Rattle.nv_entry.specs.Submission.{cid_of}
use Rattle.nv_entry.specs.declared.status_code.StatusCode.TheVariants.{InternalError, Success}
use Rattle.nv_laws_sound.proofs.CountedEvents.{AreWhole, all-taken}
use Rattle.nv_laws_sound.proofs.Folds.{HasTag, group-distinct, have-other, tag_of-other, with_tags-fold}
use Rattle.nv_laws_sound.proofs.GroupsKept.{read-tag}
use Rattle.nv_laws_sound.proofs.HandedOn.{handed-fold}
use Rattle.nv_laws_sound.proofs.Numbers.{AreDistinct}
use Rattle.nv_laws_sound.proofs.TagEvents.{IsTakenBy}
use Rattle.nv_laws_sound.proofs.Walks.{device-walk, either, ended-walk, guest-walk, lane-walk, owner-walk, taken-walk}
use Rattle.nv_laws_sound.specs.Mediators.{IsMediators}
use Rattle.nv_mem.specs.GuestMap.{all_mapped}
use Rattle.nv_model.specs.Admin.{AdminStep, NothingToDo, QueueFull, Stepped}
use Rattle.nv_model.specs.Controller.{Controller, Posted, is_enabled, post, ran_out}
use Rattle.nv_model.specs.Limits.{part_size}
use Rattle.nv_model.specs.Private.{Private, acted}
use Rattle.nv_model.specs.Queue.{is_empty}
use Rattle.nv_model.specs.Transcript.{Outcome, ReadDone, Settled, Wanted}
use Rattle.nv_model.specs.declared.reply.Reply.{Reply}
use Rattle.nv_model.specs.declared.reply.Reply.TheVariants as reply
use Rattle.nv_world_model.proofs.Seats.{owner_of-number}
use Rattle.nv_world_model.proofs.SeatPosts.{delivered-memory}
use Rattle.nv_world_model.specs.Device.{DeviceLane, rung}
use Rattle.nv_world_model.specs.Geometry.{Geometry, regions_of, shape_of}
use Rattle.nv_world_model.specs.Plan.{Answer, Bounced, Direct, NoData, Plan, plan_over}
use Rattle.nv_world_model.specs.Seat.{Owner, owner_of, put_back, seat, with_memory}
use Rattle.nv_world_model.specs.Share.{Share, shares_of}
use Rattle.nv_world_model.specs.ShareArea.{is_no_command, share_written}
use Rattle.nv_world_model.specs.Step.{act_put_back, acted_by, acted_in, administered_by, administered_in, carried_out, completion_read, deciding, delivered}
use Rattle.nv_world_model.specs.Step.{ended_at, ended_at_once, handed_on, list_at, listed, post_all, post_by, posted_to, ran_out_of, reap}
use Rattle.nv_world_model.specs.Step.{reaped, statuses_of, step, submit_by, submitted, submitted_on}
use Rattle.nv_world_model.specs.World.{Command, Ended, Flying, Free, Queued, Tag, Taken, World, group, tag_of}
use Rattle.nv_world_model.specs.World.{with_controller, with_device, with_host, with_lane, with_tag, with_tags}
use Rattle.nv_world_model.specs.declared.event.Event.{Event}
use Rattle.nv_world_model.specs.declared.event.Event.TheVariants as event

-- whether an event is a Take
abbrev pub IsTake : Event → Type 0
IsTake (event.Take guest queue lane) = ⊤
IsTake (event.Guest guest a) = ⊥
IsTake (event.Admin guest) = ⊥
IsTake (event.List lane tag addr len) = ⊥
IsTake (event.Submit lane tag) = ⊥
IsTake (event.GiveUp lane tag) = ⊥
IsTake (event.DevTake lane) = ⊥
IsTake (event.DevMove lane slot number) = ⊥
IsTake (event.DevPost lane slot) = ⊥
IsTake (event.DevFail lane slot st) = ⊥
IsTake (event.Keep block) = ⊥
IsTake (event.Reap lane) = ⊥
IsTake (event.Post lane tag) = ⊥

abbrev pub guest_by : Command → ℕ
guest_by command = command.guest

-- the guest whose controller an event may change
abbrev pub touched : Event → World → Option ℕ
touched (event.Guest guest a) w = Some guest
touched (event.Admin guest) w = Some guest
touched (event.Take guest queue lane) w = Some guest
touched (event.List lane tag addr len) w = None
touched (event.Submit lane tag) w = None
touched (event.GiveUp lane tag) w = None
touched (event.DevTake lane) w = None
touched (event.DevMove lane slot number) w = None
touched (event.DevPost lane slot) w = None
touched (event.DevFail lane slot st) w = None
touched (event.Keep block) w = None
touched (event.Reap lane) w = None
touched (event.Post lane tag) w = option_map guest_by (command_at (tag_of w lane tag))

-- what is kept from a world on: where neither tags nor controllers change; where the controller of a guest that may be touched does; where a tag has
-- the same command as before, or tags become free; and where a completion of a lane is read
module _ (Q : World → World → Type 0) (May : ℕ → Type 0) (none : (w : World) → Q w w)
    (on : (w v z : World) → z.lanes ≡ v.lanes → z.controllers ≡ v.controllers → Q w v → Q w z)
    (seated : (w v : World) (number : ℕ) (c : Controller) → May number → Q w v → Q w (with_controller number c v))
    (retag : (w z : World) (lane tag : ℕ) (t now : Tag) → tag_of z lane tag ≡ Some t → command_at (Some now) ≡ command_at (Some t) → Q w z
    → Q w (with_tag lane tag now z))
    (freed : (w z : World) (lane : ℕ) (tags : List ℕ) → Q w z → Q w (with_tags lane tags Free z))
    (read : (w : World) (lane : ℕ) → Q w (with_lane lane completion_read w)) where
  -- ---- acts and admin steps

  put_back-walk : (o : Owner) (memory : ℕ → ℕ) (c : Controller) (w v : World) → May o.number → Q w v → Q w (put_back o memory c v)
  unfolding put_back
  put_back-walk o memory c w v may is = seated w (with_memory o memory v) o.number c may (on w v (with_memory o memory v) refl refl is)

  act-walk : (r : Reply) (p : Private) (o : Owner) (w : World) → May o.number → Q w (act_put_back r p o w).world
  act-walk reply.Done p o w may = put_back-walk o p.memory p.controller w w may (none w)
  act-walk (reply.Bytes bytes) p o w may = none w
  act-walk reply.Idle p o w may = none w
  act-walk reply.Busy p o w may = none w
  act-walk reply.Held p o w may = none w
  act-walk reply.Stale p o w may = none w
  act-walk reply.Unmapped p o w may = none w
  act-walk reply.Ignored p o w may = none w
  act-walk reply.NoMemory p o w may = none w

  admin-walk : (x : AdminStep) (o : Owner) (w : World) → May o.number → Q w (administered_by x o w).world
  admin-walk NothingToDo o w may = none w
  admin-walk QueueFull o w may = none w
  admin-walk (Stepped c memory) o w may = put_back-walk o memory c w w may (none w)

  -- ---- a command that waits for its plan

  listed-walk : (addr len lane tag : ℕ) (command : Command) (reads : List ReadDone) (o : Owner) (w : World) → tag_of w lane tag ≡ Some (Taken command reads)
      → Q w (listed addr len lane tag command reads o w).world
  unfolding listed
  listed-walk addr len lane tag command reads o w there =
      retag w w lane tag (Taken command reads) (Taken command _) there refl (none w)

  taken-tag : (w z : World) (lane tag : ℕ) (t now : Tag) (command : Command) → tag_of z lane tag ≡ Some t → IsTakenBy command t
      → command_at (Some now) ≡ Some command → Q w z → Q w (with_tag lane tag now z)
  taken-tag w z lane tag t now command there taken same is =
      retag w z lane tag (Taken command taken.reads) now (there ∙ ap (λ (x : Tag). Some x) taken.is) same is

  at_once-walk : (lane : ℕ) (tags : List ℕ) (command : Command) (st : StatusField) (w : World) → All (HasTag (IsTakenBy command) w lane) tags
      → AreDistinct tags → Q w (ended_at_once lane tags command st w)
  at_once-walk lane [] command st w have apart = none w
  at_once-walk lane (tag ∷ tags) command st w have apart =
      (let h = All-head (HasTag (IsTakenBy command) w lane) tag tags have in
      let z : World = with_tag lane tag (Ended command st None) w in
      with_tags-fold (Q w) (IsTakenBy command) lane (Ended command (done_with Success) None)
      (λ v n t holds at taken. taken-tag w v lane n t (Ended command (done_with Success) None) command at taken refl holds) tags z
      (have-other (IsTakenBy command) w z lane tag tags (λ other differ. tag_of-other w lane tag other (Ended command st None) differ) apart.0
      (All-tail (HasTag (IsTakenBy command) w lane) tag tags have)) apart.1
      (taken-tag w w lane tag h.t (Ended command st None) command h.is h.has refl (none w)))

  submitted-walk : (w z : World) (mediator lane tag : ℕ) (command : Command) (t : Tag) (share : Share) (o : Owner) (d : DeviceLane)
      → tag_of z lane tag ≡ Some t → IsTakenBy command t → Q w z → Q w (submitted mediator lane tag command share o d z)
  unfolding submitted
  submitted-walk w z mediator lane tag command t share o d there taken is =
      (let written = share_written share o.given command.entry mediator lane tag d.tail z.host in
      let v : World = with_device lane rung (with_host written z) in
      taken-tag w v lane tag t (Flying command share (Queued d.tail)) command there taken refl (on w z v refl refl is))

  -- a share is carried out in its tag, and leaves the other tags
  share-walk : (w z : World) (mediator lane tag : ℕ) (command : Command) (t : Tag) (share : Share) (o : Owner) → tag_of z lane tag ≡ Some t
      → IsTakenBy command t → Q w z → Q w (carried_out mediator lane tag command share o z)
  share-walk w z mediator lane tag command t share o there taken is = by (is_no_command share)
    where
      by_device : (d : Option DeviceLane) → Q w (submitted_on d mediator lane tag command share o z)
      by_device None = is
      by_device (Some d) = submitted-walk w z mediator lane tag command t share o d there taken is

      by : (b : Bool) → Q w (cond b (with_tag lane tag (Ended command (done_with Success) (Some share)) z)
          (submitted_on (slice_get z.device lane) mediator lane tag command share o z))
      by true = taken-tag w z lane tag t (Ended command (done_with Success) (Some share)) command there taken refl is
      by false = by_device (slice_get z.device lane)

  handed-walk : (mediator lane : ℕ) (tags : List ℕ) (shares : List Share) (command : Command) (o : Owner) (w z : World)
      → All (HasTag (IsTakenBy command) z lane) tags → AreDistinct tags → Q w z → Q w (handed_on mediator lane tags shares command o z)
  handed-walk mediator lane tags shares command o w z have apart is =
      handed-fold (Q w) (λ (share : Share). ⊤) mediator lane command o
      (λ v tag t share there taken any holds. share-walk w v mediator lane tag command t share o there taken holds) tags shares z have apart
      (λ k d within. tt) is

  submit-walk : (outcome : Outcome Plan) (w : World) (mediator lane : ℕ) (tags : List ℕ) (command : Command) (o : Owner)
      → All (HasTag (IsTakenBy command) w lane) tags → AreDistinct tags → Q w (submit_by outcome mediator lane tags command o w).world
  submit-walk (Wanted addr len) w mediator lane tags command o have apart = none w
  submit-walk (Settled (Answer st)) w mediator lane tags command o have apart = at_once-walk lane tags command st w have apart
  submit-walk (Settled (NoData work)) w mediator lane tags command o have apart =
      handed-walk mediator lane tags (shares_of o.given.namespace command.entry (NoData work)) command o w w have apart (none w)
  submit-walk (Settled (Direct work)) w mediator lane tags command o have apart =
      handed-walk mediator lane tags (shares_of o.given.namespace command.entry (Direct work)) command o w w have apart (none w)
  submit-walk (Settled (Bounced work)) w mediator lane tags command o have apart =
      handed-walk mediator lane tags (shares_of o.given.namespace command.entry (Bounced work)) command o w w have apart (none w)

  -- ---- completions

  end-walk : (o : Option Tag) (st : StatusField) (lane tag : ℕ) (w z : World) → tag_of z lane tag ≡ o → Q w z → Q w (ended_at o st lane tag z)
  end-walk None st lane tag w z there is = is
  end-walk (Some Free) st lane tag w z there is = is
  end-walk (Some (Taken command reads)) st lane tag w z there is = is
  end-walk (Some (Flying command share before)) st lane tag w z there is =
      retag w z lane tag (Flying command share before) _ there refl is
  end-walk (Some (Ended command before share)) st lane tag w z there is = is

  posted-walk : (posted : Posted) (lane : ℕ) (tags : List ℕ) (o : Owner) (w v : World) → May o.number → Q w v → Q w (posted_to posted lane tags o v)
  unfolding posted_to
  posted-walk posted lane tags o w v may is = freed w _ lane tags (put_back-walk o _ posted.controller w v may is)

  out-walk : (queue lane : ℕ) (tags : List ℕ) (o : Owner) (w v : World) → May o.number → Q w v → Q w (ran_out_of queue lane tags o v)
  unfolding ran_out_of
  out-walk queue lane tags o w v may is = freed w _ lane tags (seated w v o.number (ran_out o.controller queue) may is)

  module _ (geometry : Geometry) where
    pub reaped-walk : (w : World) (lane : ℕ) (completion : List ℕ) → Q w (reaped lane completion w)
    unfolding reaped
    reaped-walk w lane completion =
        end-walk (tag_of w lane (completed_cid completion)) (status_of completion) lane (completed_cid completion) w (with_lane lane completion_read w)
        (read-tag geometry w lane (completed_cid completion)) (read w lane)

    delivered-walk : (st : StatusField) (lane : ℕ) (tags : List ℕ) (o : Owner) (w : World) → Q w (delivered st geometry.mediator lane tags o w)
    delivered-walk st lane tags o w =
        (let same = (delivered-memory st geometry.mediator lane tags o w).rest in
        on w w (delivered st geometry.mediator lane tags o w) (ap (λ (x : World). x.lanes) same) (ap (λ (x : World). x.controllers) same) (none w))

    post-walk : (found : Option Posted) (st : StatusField) (lane : ℕ) (tags : List ℕ) (o : Owner) (w : World) → May o.number
        → Q w (post_by found st geometry.mediator lane tags o w).world
    post-walk None st lane tags o w may = none w
    post-walk (Some posted) st lane tags o w may =
        posted-walk posted lane tags o w (delivered st geometry.mediator lane tags o w) may (delivered-walk st lane tags o w)

    post_all-walk : (sts : Option (List StatusField)) (command : Command) (lane : ℕ) (tags : List ℕ) (o : Owner) (w : World) → May o.number
        → Q w (post_all sts command geometry.mediator lane tags o w).world
    post_all-walk None command lane tags o w may = none w
    post_all-walk (Some sts) command lane tags o w may =
        (let st = deciding sts in
        either (Q w) w (none w) (is_enabled o.controller) _ _
        (λ enabled. post-walk (post o.controller command.queue 0 (cid_of command.entry) st) st lane tags o w may)
        (λ fell. out-walk command.queue lane tags o w (delivered st geometry.mediator lane tags o w) may (delivered-walk st lane tags o w)))

    -- ---- the step

    module _ (w : World) (whole : AreWhole geometry w) where
      may-owner : (number : ℕ) (o : Owner) → owner_of geometry w number ≡ Some o → May number → May o.number
      may-owner number o found may = subst May (owner_of-number geometry w number o found) may

      pub step-walk : (e : Event) → IsMediators e → (IsTake e → ⊥) → ((number : ℕ) → touched e w ≡ Some number → May number) → Q w (step geometry e w).world
      unfolding step acted_in administered_in
      step-walk (event.Guest number a) mine other may =
          guest-walk (Q w) w (none w) (owner_of geometry w number) (λ o. acted_by (acted (shape_of o.given) a (seat geometry o w)) o w)
          (λ o found. (let x = acted (shape_of o.given) a (seat geometry o w) in act-walk x.reply x.state o w (may-owner number o found (may number refl))))
      step-walk (event.Admin number) mine other may =
          guest-walk (Q w) w (none w) (owner_of geometry w number) (λ o. administered_in o w)
          (λ o found. admin-walk _ o w (may-owner number o found (may number refl)))
      step-walk (event.Take number queue lane) mine other may = absurd (other tt)
      step-walk (event.List lane tag addr len) mine other may =
          taken-walk (Q w) w (none w) tag (tag_of w lane tag) _ (λ command reads at leads.
          owner-walk (Q w) w (none w) (owner_of geometry w command.guest) (λ o. list_at addr len lane tag command reads o w) (λ o found.
          either (Q w) w (none w) (all_mapped (regions_of o.given) addr len) _ _
          (λ there. either (Q w) w (none w) (nat_le 1 len && nat_le len part_size) _ _
          (λ fits. listed-walk addr len lane tag command reads o w at) (λ out. none w)) (λ out. none w)))
      step-walk (event.Submit lane tag) mine other may =
          taken-walk (Q w) w (none w) tag (tag_of w lane tag) _ (λ command reads at leads.
          owner-walk (Q w) w (none w) (owner_of geometry w command.guest) _ (λ o found.
          device-walk (Q w) w (none w) (slice_get w.device lane)
          (λ d. submit_by (plan_over o.given command.entry reads) geometry.mediator lane (group w lane tag) command o w) (λ d there.
          submit-walk (plan_over o.given command.entry reads) w geometry.mediator lane (group w lane tag) command o
          (all-taken geometry w lane tag command reads whole at leads) (group-distinct w lane tag))))
      step-walk (event.GiveUp lane tag) mine other may =
          taken-walk (Q w) w (none w) tag (tag_of w lane tag) _ (λ command reads at leads.
          at_once-walk lane (group w lane tag) command (done_with InternalError) w
          (all-taken geometry w lane tag command reads whole at leads) (group-distinct w lane tag))
      step-walk (event.DevTake lane) mine other may = absurd mine
      step-walk (event.DevMove lane slot number) mine other may = absurd mine
      step-walk (event.DevPost lane slot) mine other may = absurd mine
      step-walk (event.DevFail lane slot st) mine other may = absurd mine
      step-walk (event.Keep block) mine other may = absurd mine
      step-walk (event.Reap lane) mine other may =
          lane-walk (Q w) w (none w) (slice_get w.lanes lane) _ (λ l at.
          device-walk (Q w) w (none w) (slice_get w.device lane) (λ d. reap geometry lane l d w) (λ d there.
          either (Q w) w (none w) (is_empty l.head d.posted) _ _ (λ empty. none w) (λ some. reaped-walk w lane _)))
      step-walk (event.Post lane tag) mine other may =
          ended-walk (Q w) w (none w) tag (tag_of w lane tag) _ (λ command st share at leads.
          owner-walk (Q w) w (none w) (owner_of geometry w command.guest)
          (λ o. post_all (statuses_of lane (group w lane tag) w) command geometry.mediator lane (group w lane tag) o w)
          (λ o found.
          post_all-walk (statuses_of lane (group w lane tag) w) command lane (group w lane tag) o w
          (may-owner command.guest o found (may command.guest (ap (λ (t : Option Tag). option_map guest_by (command_at t)) at)))))
