-- Which events raise no mark.
use Rattle.std.proofs.Common.{◌≡◌, ℕ, Bool, true, false, cond, ◌&&◌, nat_le, List, [], ◌∷◌, slice_get, Option, Some, None, refl}
use Rattle.nv_entry.specs.Status.{StatusField}
use Rattle.nv_entry.specs.StatusCode.{done_with}
use Rattle.nv_entry.specs.Submission.{cid_of}
use Rattle.nv_entry.specs.declared.status_code.StatusCode.TheVariants.{InternalError, Success}
use Rattle.nv_mem.specs.GuestMap.{all_mapped}
use Rattle.nv_model.specs.Admin.{AdminStep, NothingToDo, QueueFull, Stepped}
use Rattle.nv_model.specs.Controller.{Posted, front, is_enabled, post}
use Rattle.nv_model.specs.Judge.{Work, is_read}
use Rattle.nv_model.specs.Limits.{part_size}
use Rattle.nv_model.specs.Private.{Private, acted}
use Rattle.nv_model.specs.Queue.{is_empty}
use Rattle.nv_model.specs.Transcript.{Outcome, ReadDone, Settled, Wanted}
use Rattle.nv_model.specs.declared.reply.Reply.{Reply}
use Rattle.nv_model.specs.declared.reply.Reply.TheVariants as reply
use Rattle.nv_world_model.specs.declared.event.Event.{Event}
use Rattle.nv_world_model.specs.declared.event.Event.TheVariants as event
use Rattle.nv_world_model.specs.Area.{bounce_page}
use Rattle.nv_world_model.specs.Device.{DeviceLane, Held, held_status}
use Rattle.nv_world_model.specs.Geometry.{Geometry, regions_of, shape_of}
use Rattle.nv_world_model.specs.Plan.{Answer, Bounced, Direct, NoData, Plan, plan_over}
use Rattle.nv_world_model.specs.Share.{Share, shares_of, tags_of_entry}
use Rattle.nv_world_model.specs.ShareArea.{is_no_command}
use Rattle.nv_world_model.specs.Seat.{Owner, owner_of, put_back, seat}
use Rattle.nv_world_model.specs.Step.{act_put_back, acted_in, administered_by, administered_in, carried_out, carry_out, deciding, delivered}
use Rattle.nv_world_model.specs.Step.{delivered_all, delivered_by, delivered_from, device_fail, device_post, device_posted}
use Rattle.nv_world_model.specs.Step.{device_take, device_took, ended_at, ended_at_once, entry_at, handed_on, is_io_queue, is_success, list_at, listed}
use Rattle.nv_world_model.specs.Step.{post_all, post_by, posted_to, ran_out_of, reap, reaped, scattered_to, standing_at, statuses_of, step, submit_by}
use Rattle.nv_world_model.specs.Step.{submitted, submitted_on, take_from, take_front, take_tags, taken_to}
use Rattle.nv_world_model.specs.World.{Command, Ended, Flying, Free, Lane, Standing, Tag, Taken, World, claimed, group, tag_of, with_tag, with_tags}
use Rattle.std.specs.Bool.{⊤}
use Rattle.nv_laws_sound.proofs.Walks.{device-walk, either, ended-walk, guest-walk, held-walk, lane-walk, owner-walk, taken-walk}

-- the event moves no unit, and keeps no block
abbrev pub RaisesNone : Event → Type 0
RaisesNone (event.Guest guest a) = ⊤
RaisesNone (event.Admin guest) = ⊤
RaisesNone (event.Take guest queue lane) = ⊤
RaisesNone (event.List lane tag addr len) = ⊤
RaisesNone (event.Submit lane tag) = ⊤
RaisesNone (event.GiveUp lane tag) = ⊤
RaisesNone (event.DevTake lane) = ⊤
RaisesNone (event.DevMove lane slot number) = ⊥
RaisesNone (event.DevPost lane slot) = ⊤
RaisesNone (event.DevFail lane slot st) = ⊤
RaisesNone (event.Keep block) = ⊥
RaisesNone (event.Reap lane) = ⊤
RaisesNone (event.Post lane tag) = ⊤

module _ (geometry : Geometry) (w : World) where
  -- a world has the marks of this one
  abbrev HasMarks : World → Type 0
  HasMarks z = z.kept ≡ w.kept

  tag-marks : (lane tag : ℕ) (t : Tag) (z : World) → HasMarks z → HasMarks (with_tag lane tag t z)
  tag-marks lane tag t z same = same

  act-marks : (r : Reply) (p : Private) (o : Owner) → HasMarks (act_put_back r p o w).world
  unfolding put_back
  act-marks reply.Done p o = refl
  act-marks (reply.Bytes bytes) p o = refl
  act-marks reply.Idle p o = refl
  act-marks reply.Busy p o = refl
  act-marks reply.Held p o = refl
  act-marks reply.Stale p o = refl
  act-marks reply.Unmapped p o = refl
  act-marks reply.Ignored p o = refl
  act-marks reply.NoMemory p o = refl

  admin-marks : (x : AdminStep) (o : Owner) → HasMarks (administered_by x o w).world
  unfolding put_back
  admin-marks NothingToDo o = refl
  admin-marks QueueFull o = refl
  admin-marks (Stepped c memory) o = refl

  tags-marks : (lane : ℕ) (tags : List ℕ) (t : Tag) (z : World) → HasMarks z → HasMarks (with_tags lane tags t z)
  unfolding with_tags
  tags-marks lane [] t z same = same
  tags-marks lane (tag ∷ tags) t z same = tags-marks lane tags t (with_tag lane tag t z) (tag-marks lane tag t z same)

  taken-marks : (addr queue lane : ℕ) (tags : List ℕ) (o : Owner) → HasMarks (taken_to addr queue lane tags o w)
  unfolding taken_to
  taken-marks addr queue lane tags o = tags-marks lane tags _ _ refl

  tags-found : (found : Option (List ℕ)) (addr queue lane : ℕ) (o : Owner) → HasMarks (take_tags found addr queue lane o w).world
  tags-found None addr queue lane o = refl
  tags-found (Some tags) addr queue lane o = taken-marks addr queue lane tags o

  front-found : (addr : Option ℕ) (queue lane : ℕ) (l : Lane) (o : Owner) → HasMarks (take_front addr queue lane l o w).world
  front-found None queue lane l o = refl
  front-found (Some addr) queue lane l o = tags-found (claimed (tags_of_entry o.given.namespace (entry_at addr o w)) l.tags) addr queue lane o

  listed-marks : (addr len lane tag : ℕ) (command : Command) (reads : List ReadDone) (o : Owner) → HasMarks (listed addr len lane tag command reads o w).world
  unfolding listed
  listed-marks addr len lane tag command reads o = refl

  ended-marks : (lane : ℕ) (tags : List ℕ) (command : Command) (st : StatusField) → HasMarks (ended_at_once lane tags command st w)
  ended-marks lane [] command st = refl
  ended-marks lane (tag ∷ tags) command st = tags-marks lane tags _ _ (tag-marks lane tag (Ended command st None) w refl)

  submitted-marks : (mediator lane tag : ℕ) (command : Command) (share : Share) (o : Owner) (d : DeviceLane) (z : World) → HasMarks z
      → HasMarks (submitted mediator lane tag command share o d z)
  unfolding submitted
  submitted-marks mediator lane tag command share o d z same = same

  share-marks : (mediator lane tag : ℕ) (command : Command) (share : Share) (o : Owner) (z : World) → HasMarks z
      → HasMarks (carried_out mediator lane tag command share o z)
  share-marks mediator lane tag command share o z same = by (is_no_command share)
    where
      on : (d : Option DeviceLane) → HasMarks (submitted_on d mediator lane tag command share o z)
      on None = same
      on (Some d) = submitted-marks mediator lane tag command share o d z same

      by : (b : Bool) → HasMarks (cond b (with_tag lane tag (Ended command (done_with Success) (Some share)) z)
          (submitted_on (slice_get z.device lane) mediator lane tag command share o z))
      by true = same
      by false = on (slice_get z.device lane)

  handed-marks : (mediator lane : ℕ) (tags : List ℕ) (shares : List Share) (command : Command) (o : Owner) (z : World) → HasMarks z
      → HasMarks (handed_on mediator lane tags shares command o z)
  unfolding handed_on
  handed-marks mediator lane [] shares command o z same = same
  handed-marks mediator lane (tag ∷ tags) [] command o z same = same
  handed-marks mediator lane (tag ∷ tags) (share ∷ shares) command o z same =
      handed-marks mediator lane tags shares command o (carried_out mediator lane tag command share o z) (share-marks mediator lane tag command share o z same)

  carried-marks : (plan : Plan) (mediator lane : ℕ) (tags : List ℕ) (command : Command) (o : Owner) → HasMarks (carry_out plan mediator lane tags command o w)
  carried-marks (Answer st) mediator lane tags command o = ended-marks lane tags command st
  carried-marks (NoData work) mediator lane tags command o =
      handed-marks mediator lane tags (shares_of o.given.namespace command.entry (NoData work)) command o w refl
  carried-marks (Direct work) mediator lane tags command o =
      handed-marks mediator lane tags (shares_of o.given.namespace command.entry (Direct work)) command o w refl
  carried-marks (Bounced work) mediator lane tags command o =
      handed-marks mediator lane tags (shares_of o.given.namespace command.entry (Bounced work)) command o w refl

  submit-marks : (outcome : Outcome Plan) (mediator lane : ℕ) (tags : List ℕ) (command : Command) (o : Owner)
      → HasMarks (submit_by outcome mediator lane tags command o w).world
  submit-marks (Wanted addr len) mediator lane tags command o = refl
  submit-marks (Settled plan) mediator lane tags command o = carried-marks plan mediator lane tags command o

  stand-marks : (t : Option Tag) (s : Standing) (lane tag : ℕ) (z : World) → HasMarks z → HasMarks (standing_at t s lane tag z)
  stand-marks None s lane tag z same = same
  stand-marks (Some Free) s lane tag z same = same
  stand-marks (Some (Taken command reads)) s lane tag z same = same
  stand-marks (Some (Flying command share before)) s lane tag z same = tag-marks lane tag (Flying command share s) z same
  stand-marks (Some (Ended command st share)) s lane tag z same = same

  took-marks : (lane : ℕ) (entry : List ℕ) → HasMarks (device_took lane entry w)
  unfolding device_took
  took-marks lane entry = stand-marks _ _ lane (cid_of entry) _ refl

  answered-marks : (mediator lane slot : ℕ) (st : StatusField) (d : DeviceLane) → HasMarks (device_posted mediator lane slot st d w)
  unfolding device_posted
  answered-marks mediator lane slot st d = stand-marks _ _ lane slot _ refl

  left-marks : (left : List ℕ) (mediator lane slot : ℕ) (h : Held) (d : DeviceLane) → HasMarks (device_post left mediator lane slot h d w).world
  left-marks [] mediator lane slot h d = answered-marks mediator lane slot (held_status h) d
  left-marks (number ∷ left) mediator lane slot h d = refl

  end-marks : (t : Option Tag) (st : StatusField) (lane tag : ℕ) (z : World) → HasMarks z → HasMarks (ended_at t st lane tag z)
  end-marks None st lane tag z same = same
  end-marks (Some Free) st lane tag z same = same
  end-marks (Some (Taken command reads)) st lane tag z same = same
  end-marks (Some (Flying command share before)) st lane tag z same = same
  end-marks (Some (Ended command before share)) st lane tag z same = same

  reaped-marks : (lane : ℕ) (completion : List ℕ) → HasMarks (reaped lane completion w)
  unfolding reaped
  reaped-marks lane completion = end-marks _ _ lane _ _ refl

  to-marks : (bounce : ℕ) (work : Work) (o : Owner) (z : World) → HasMarks z → HasMarks (scattered_to bounce work o z)
  unfolding scattered_to
  to-marks bounce work o z same = same

  plan-marks : (plan : Plan) (bounce : ℕ) (o : Owner) (z : World) → HasMarks z → HasMarks (delivered_by plan bounce o z)
  plan-marks (Answer answer) bounce o z same = same
  plan-marks (NoData work) bounce o z same = same
  plan-marks (Direct work) bounce o z same = same
  plan-marks (Bounced work) bounce o z same = by (is_read work.opcode)
    where
      by : (b : Bool) → HasMarks (cond b (scattered_to bounce work o z) z)
      by true = to-marks bounce work o z same
      by false = same

  from-marks : (t : Option Tag) (bounce : ℕ) (o : Owner) (z : World) → HasMarks z → HasMarks (delivered_from t bounce o z)
  from-marks None bounce o z same = same
  from-marks (Some Free) bounce o z same = same
  from-marks (Some (Taken command reads)) bounce o z same = same
  from-marks (Some (Flying command share standing)) bounce o z same = same
  from-marks (Some (Ended command st None)) bounce o z same = same
  from-marks (Some (Ended command st (Some share))) bounce o z same = plan-marks share.plan bounce o z same

  all-marks : (mediator lane : ℕ) (tags : List ℕ) (o : Owner) (z : World) → HasMarks z → HasMarks (delivered_all mediator lane tags o z)
  unfolding delivered_all
  all-marks mediator lane [] o z same = same
  all-marks mediator lane (tag ∷ tags) o z same =
      all-marks mediator lane tags o (delivered_from (tag_of z lane tag) (bounce_page mediator lane tag) o z)
      (from-marks (tag_of z lane tag) (bounce_page mediator lane tag) o z same)

  delivered-marks : (st : StatusField) (mediator lane : ℕ) (tags : List ℕ) (o : Owner) → HasMarks (delivered st mediator lane tags o w)
  delivered-marks st mediator lane tags o = by (is_success st)
    where
      by : (b : Bool) → HasMarks (cond b (delivered_all mediator lane tags o w) w)
      by true = all-marks mediator lane tags o w refl
      by false = refl

  posted-marks : (posted : Posted) (lane : ℕ) (tags : List ℕ) (o : Owner) (z : World) → HasMarks z → HasMarks (posted_to posted lane tags o z)
  unfolding posted_to put_back
  posted-marks posted lane tags o z same = tags-marks lane tags Free _ same

  out-marks : (queue lane : ℕ) (tags : List ℕ) (o : Owner) (z : World) → HasMarks z → HasMarks (ran_out_of queue lane tags o z)
  unfolding ran_out_of
  out-marks queue lane tags o z same = tags-marks lane tags Free _ same

  post-marks : (found : Option Posted) (st : StatusField) (mediator lane : ℕ) (tags : List ℕ) (o : Owner)
      → HasMarks (post_by found st mediator lane tags o w).world
  post-marks None st mediator lane tags o = refl
  post-marks (Some posted) st mediator lane tags o =
      posted-marks posted lane tags o (delivered st mediator lane tags o w) (delivered-marks st mediator lane tags o)

  post_all-marks : (sts : Option (List StatusField)) (command : Command) (mediator lane : ℕ) (tags : List ℕ) (o : Owner)
      → HasMarks (post_all sts command mediator lane tags o w).world
  post_all-marks None command mediator lane tags o = refl
  post_all-marks (Some sts) command mediator lane tags o =
      either HasMarks w refl (is_enabled o.controller) _ _
      (λ enabled. post-marks (post o.controller command.queue 0 (cid_of command.entry) (deciding sts)) (deciding sts) mediator lane tags o)
      (λ fell. out-marks command.queue lane tags o (delivered (deciding sts) mediator lane tags o w) (delivered-marks (deciding sts) mediator lane tags o))

  -- behind each event but those that move a unit, or keep a block
  pub marks-kept : (e : Event) → RaisesNone e → HasMarks (step geometry e w).world
  unfolding step acted_in administered_in
  marks-kept (event.Guest number a) none =
      guest-walk HasMarks w refl (owner_of geometry w number) _ (λ o found. act-marks (acted (shape_of o.given) a (seat geometry o w)).reply _ o)
  marks-kept (event.Admin number) none = guest-walk HasMarks w refl (owner_of geometry w number) _ (λ o found. admin-marks _ o)
  marks-kept (event.Take number queue lane) none =
      guest-walk HasMarks w refl (owner_of geometry w number) _ (λ o found.
      lane-walk HasMarks w refl (slice_get w.lanes lane) (λ l. take_from queue lane l o w) (λ l at.
      either HasMarks w refl (is_io_queue queue) _ _ (λ is. front-found (front o.controller queue) queue lane l o) (λ out. refl)))
  marks-kept (event.List lane tag addr len) none =
      taken-walk HasMarks w refl tag (tag_of w lane tag) _ (λ command reads at leads.
      owner-walk HasMarks w refl (owner_of geometry w command.guest) (λ o. list_at addr len lane tag command reads o w) (λ o found.
      either HasMarks w refl (all_mapped (regions_of o.given) addr len) _ _
      (λ there. either HasMarks w refl (nat_le 1 len && nat_le len part_size) _ _ (λ fits. listed-marks addr len lane tag command reads o) (λ out. refl)) (λ out. refl)))
  marks-kept (event.Submit lane tag) none =
      taken-walk HasMarks w refl tag (tag_of w lane tag) _ (λ command reads at leads.
      owner-walk HasMarks w refl (owner_of geometry w command.guest) _ (λ o found.
      device-walk HasMarks w refl (slice_get w.device lane)
      (λ d. submit_by (plan_over o.given command.entry reads) geometry.mediator lane (group w lane tag) command o w) (λ d there.
      submit-marks (plan_over o.given command.entry reads) geometry.mediator lane (group w lane tag) command o)))
  marks-kept (event.GiveUp lane tag) none =
      taken-walk HasMarks w refl tag (tag_of w lane tag) _ (λ command reads at leads. ended-marks lane (group w lane tag) command (done_with InternalError))
  marks-kept (event.DevTake lane) none =
      device-walk HasMarks w refl (slice_get w.device lane) (λ d. device_take geometry.mediator lane d w) (λ d there.
      either HasMarks w refl (is_empty d.head d.tail) _ _ (λ none. refl) (λ some. took-marks lane _))
  marks-kept (event.DevMove lane slot number) none = absurd none
  marks-kept (event.DevPost lane slot) none =
      device-walk HasMarks w refl (slice_get w.device lane) _ (λ d there.
      held-walk HasMarks w refl (slice_get d.held slot) (λ h. device_post h.left geometry.mediator lane slot h d w) (λ h held.
      left-marks h.left geometry.mediator lane slot h d))
  marks-kept (event.DevFail lane slot st) none =
      device-walk HasMarks w refl (slice_get w.device lane) _ (λ d there.
      held-walk HasMarks w refl (slice_get d.held slot) (λ h. device_fail geometry.mediator lane slot st d w) (λ h held.
      either HasMarks w refl (is_success st) _ _ (λ good. refl) (λ bad. answered-marks geometry.mediator lane slot st d)))
  marks-kept (event.Keep block) none = absurd none
  marks-kept (event.Reap lane) none =
      lane-walk HasMarks w refl (slice_get w.lanes lane) _ (λ l at.
      device-walk HasMarks w refl (slice_get w.device lane) (λ d. reap geometry lane l d w) (λ d there.
      either HasMarks w refl (is_empty l.head d.posted) _ _ (λ none. refl) (λ some. reaped-marks lane _)))
  marks-kept (event.Post lane tag) none =
      ended-walk HasMarks w refl tag (tag_of w lane tag) _ (λ command st share at leads.
      owner-walk HasMarks w refl (owner_of geometry w command.guest)
      (λ o. post_all (statuses_of lane (group w lane tag) w) command geometry.mediator lane (group w lane tag) o w) (λ o found.
      post_all-marks (statuses_of lane (group w lane tag) w) command geometry.mediator lane (group w lane tag) o))
