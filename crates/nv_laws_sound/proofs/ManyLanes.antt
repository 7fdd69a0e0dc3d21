-- Each event leaves as many lanes as there were.
use Rattle.std.proofs.Common.{◌≡◌, ℕ, ◌+◌, Bool, true, false, cond, ◌&&◌, ◌==◌, nat_le, List, [], ◌∷◌, length, slice_get, Option, Some, None, refl, ◌∙◌}
use Rattle.std.specs.List.{list_any}
use Rattle.nv_entry.specs.Status.{StatusField}
use Rattle.nv_entry.specs.StatusCode.{done_with}
use Rattle.nv_entry.specs.Submission.{cid_of}
use Rattle.nv_entry.specs.declared.status_code.StatusCode.TheVariants.{InternalError, Success}
use Rattle.nv_mem.specs.GuestMap.{all_mapped}
use Rattle.nv_model.specs.Admin.{AdminStep, NothingToDo, QueueFull, Stepped}
use Rattle.nv_model.specs.Controller.{Posted, front, is_enabled, post}
use Rattle.nv_model.specs.Judge.{Work, is_read}
use Rattle.nv_model.specs.Limits.{part_size}
use Rattle.nv_model.specs.Private.{Private, acted}
use Rattle.nv_model.specs.Queue.{is_empty}
use Rattle.nv_model.specs.Transcript.{Outcome, ReadDone, Settled, Wanted}
use Rattle.nv_model.specs.declared.reply.Reply.{Reply}
use Rattle.nv_model.specs.declared.reply.Reply.TheVariants as reply
use Rattle.nv_world_model.specs.declared.event.Event.{Event}
use Rattle.nv_world_model.specs.declared.event.Event.TheVariants as event
use Rattle.nv_world_model.specs.Area.{bounce_page}
use Rattle.nv_world_model.specs.Device.{DeviceLane, Held, held_status}
use Rattle.nv_world_model.specs.Geometry.{Geometry, regions_of, shape_of}
use Rattle.nv_world_model.specs.Plan.{Answer, Bounced, Direct, NoData, Plan, plan_over}
use Rattle.nv_world_model.specs.Share.{Share, shares_of, tags_of_entry}
use Rattle.nv_world_model.specs.ShareArea.{is_no_command}
use Rattle.nv_world_model.specs.Seat.{Owner, owner_of, put_back, seat}
use Rattle.nv_world_model.specs.Step.{act_put_back, acted_in, administered_by, administered_in, carried_out, carry_out, completion_read, deciding, delivered}
use Rattle.nv_world_model.specs.Step.{delivered_all, delivered_by, delivered_from, device_fail, device_move, device_moved, device_post, device_posted}
use Rattle.nv_world_model.specs.Step.{device_take, device_took, ended_at, ended_at_once, entry_at, handed_on, is_io_queue, is_success, kept_block, list_at, listed}
use Rattle.nv_world_model.specs.Step.{post_all, post_by, posted_to, ran_out_of, reap, reaped, scattered_to, standing_at, statuses_of, step, submit_by}
use Rattle.nv_world_model.specs.Step.{submitted, submitted_on, take_from, take_front, take_tags, taken_to}
use Rattle.nv_world_model.specs.World.{Command, Ended, Flying, Free, Lane, Standing, Tag, Taken, World, changed_at, claimed, group, tag_of, with_tag, with_tags}
use Rattle.nv_laws_sound.proofs.Lists.{length-set}
use Rattle.nv_laws_sound.proofs.Walks.{device-walk, either, ended-walk, guest-walk, held-walk, lane-walk, owner-walk, taken-walk}

-- one is changed, or none
length-changed_at : {L : Type 0} (o : Option L) (at : ℕ) (change : L → L) (lanes : List L) → length (changed_at o at change lanes) ≡ length lanes
length-changed_at None at change lanes = refl
length-changed_at (Some lane) at change lanes = length-set lanes at (change lane)

module _ (geometry : Geometry) (w : World) where
  -- a world has as many lanes as this one
  abbrev AsMany : World → Type 0
  AsMany z = length z.lanes ≡ length w.lanes

  tag-many : (lane tag : ℕ) (t : Tag) (z : World) → AsMany z → AsMany (with_tag lane tag t z)
  tag-many lane tag t z many = length-changed_at (slice_get z.lanes lane) lane _ z.lanes ∙ many

  act-many : (r : Reply) (p : Private) (o : Owner) → AsMany (act_put_back r p o w).world
  unfolding put_back
  act-many reply.Done p o = refl
  act-many (reply.Bytes bytes) p o = refl
  act-many reply.Idle p o = refl
  act-many reply.Busy p o = refl
  act-many reply.Held p o = refl
  act-many reply.Stale p o = refl
  act-many reply.Unmapped p o = refl
  act-many reply.Ignored p o = refl
  act-many reply.NoMemory p o = refl

  admin-many : (x : AdminStep) (o : Owner) → AsMany (administered_by x o w).world
  unfolding put_back
  admin-many NothingToDo o = refl
  admin-many QueueFull o = refl
  admin-many (Stepped c memory) o = refl

  tags-many : (lane : ℕ) (tags : List ℕ) (t : Tag) (z : World) → AsMany z → AsMany (with_tags lane tags t z)
  unfolding with_tags
  tags-many lane [] t z many = many
  tags-many lane (tag ∷ tags) t z many = tags-many lane tags t (with_tag lane tag t z) (tag-many lane tag t z many)

  taken-many : (addr queue lane : ℕ) (tags : List ℕ) (o : Owner) → AsMany (taken_to addr queue lane tags o w)
  unfolding taken_to
  taken-many addr queue lane tags o = tags-many lane tags _ _ refl

  tags-found : (found : Option (List ℕ)) (addr queue lane : ℕ) (o : Owner) → AsMany (take_tags found addr queue lane o w).world
  tags-found None addr queue lane o = refl
  tags-found (Some tags) addr queue lane o = taken-many addr queue lane tags o

  front-found : (addr : Option ℕ) (queue lane : ℕ) (l : Lane) (o : Owner) → AsMany (take_front addr queue lane l o w).world
  front-found None queue lane l o = refl
  front-found (Some addr) queue lane l o = tags-found (claimed (tags_of_entry o.given.namespace (entry_at addr o w)) l.tags) addr queue lane o

  listed-many : (addr len lane tag : ℕ) (command : Command) (reads : List ReadDone) (o : Owner) → AsMany (listed addr len lane tag command reads o w).world
  unfolding listed
  listed-many addr len lane tag command reads o = length-changed_at (slice_get w.lanes lane) lane _ w.lanes

  ended-many : (lane : ℕ) (tags : List ℕ) (command : Command) (st : StatusField) → AsMany (ended_at_once lane tags command st w)
  ended-many lane [] command st = refl
  ended-many lane (tag ∷ tags) command st = tags-many lane tags _ _ (tag-many lane tag (Ended command st None) w refl)

  submitted-many : (mediator lane tag : ℕ) (command : Command) (share : Share) (o : Owner) (d : DeviceLane) (z : World) → AsMany z
      → AsMany (submitted mediator lane tag command share o d z)
  unfolding submitted
  submitted-many mediator lane tag command share o d z many = length-changed_at (slice_get z.lanes lane) lane _ z.lanes ∙ many

  share-many : (mediator lane tag : ℕ) (command : Command) (share : Share) (o : Owner) (z : World) → AsMany z
      → AsMany (carried_out mediator lane tag command share o z)
  share-many mediator lane tag command share o z many = by (is_no_command share)
    where
      on : (d : Option DeviceLane) → AsMany (submitted_on d mediator lane tag command share o z)
      on None = many
      on (Some d) = submitted-many mediator lane tag command share o d z many

      by : (b : Bool) → AsMany (cond b (with_tag lane tag (Ended command (done_with Success) (Some share)) z)
          (submitted_on (slice_get z.device lane) mediator lane tag command share o z))
      by true = tag-many lane tag _ z many
      by false = on (slice_get z.device lane)

  handed-many : (mediator lane : ℕ) (tags : List ℕ) (shares : List Share) (command : Command) (o : Owner) (z : World) → AsMany z
      → AsMany (handed_on mediator lane tags shares command o z)
  unfolding handed_on
  handed-many mediator lane [] shares command o z many = many
  handed-many mediator lane (tag ∷ tags) [] command o z many = many
  handed-many mediator lane (tag ∷ tags) (share ∷ shares) command o z many =
      handed-many mediator lane tags shares command o (carried_out mediator lane tag command share o z) (share-many mediator lane tag command share o z many)

  carried-many : (plan : Plan) (mediator lane : ℕ) (tags : List ℕ) (command : Command) (o : Owner) → AsMany (carry_out plan mediator lane tags command o w)
  carried-many (Answer st) mediator lane tags command o = ended-many lane tags command st
  carried-many (NoData work) mediator lane tags command o =
      handed-many mediator lane tags (shares_of o.given.namespace command.entry (NoData work)) command o w refl
  carried-many (Direct work) mediator lane tags command o =
      handed-many mediator lane tags (shares_of o.given.namespace command.entry (Direct work)) command o w refl
  carried-many (Bounced work) mediator lane tags command o =
      handed-many mediator lane tags (shares_of o.given.namespace command.entry (Bounced work)) command o w refl

  submit-many : (outcome : Outcome Plan) (mediator lane : ℕ) (tags : List ℕ) (command : Command) (o : Owner)
      → AsMany (submit_by outcome mediator lane tags command o w).world
  submit-many (Wanted addr len) mediator lane tags command o = refl
  submit-many (Settled plan) mediator lane tags command o = carried-many plan mediator lane tags command o

  stand-many : (t : Option Tag) (s : Standing) (lane tag : ℕ) (z : World) → AsMany z → AsMany (standing_at t s lane tag z)
  stand-many None s lane tag z many = many
  stand-many (Some Free) s lane tag z many = many
  stand-many (Some (Taken command reads)) s lane tag z many = many
  stand-many (Some (Flying command share before)) s lane tag z many = tag-many lane tag (Flying command share s) z many
  stand-many (Some (Ended command st share)) s lane tag z many = many

  took-many : (lane : ℕ) (entry : List ℕ) → AsMany (device_took lane entry w)
  unfolding device_took
  took-many lane entry = stand-many _ _ lane (cid_of entry) _ refl

  moved-many : (blocks lane slot number : ℕ) (h : Held) → AsMany (device_moved blocks lane slot number h w)
  unfolding device_moved
  moved-many blocks lane slot number h = refl

  answered-many : (mediator lane slot : ℕ) (st : StatusField) (d : DeviceLane) → AsMany (device_posted mediator lane slot st d w)
  unfolding device_posted
  answered-many mediator lane slot st d = stand-many _ _ lane slot _ refl

  left-many : (left : List ℕ) (mediator lane slot : ℕ) (h : Held) (d : DeviceLane) → AsMany (device_post left mediator lane slot h d w).world
  left-many [] mediator lane slot h d = answered-many mediator lane slot (held_status h) d
  left-many (number ∷ left) mediator lane slot h d = refl

  end-many : (t : Option Tag) (st : StatusField) (lane tag : ℕ) (z : World) → AsMany z → AsMany (ended_at t st lane tag z)
  end-many None st lane tag z many = many
  end-many (Some Free) st lane tag z many = many
  end-many (Some (Taken command reads)) st lane tag z many = many
  end-many (Some (Flying command share before)) st lane tag z many = tag-many lane tag _ z many
  end-many (Some (Ended command before share)) st lane tag z many = many

  reaped-many : (lane : ℕ) (completion : List ℕ) → AsMany (reaped lane completion w)
  unfolding reaped
  reaped-many lane completion = end-many _ _ lane _ _ (length-changed_at (slice_get w.lanes lane) lane completion_read w.lanes)

  to-many : (bounce : ℕ) (work : Work) (o : Owner) (z : World) → AsMany z → AsMany (scattered_to bounce work o z)
  unfolding scattered_to
  to-many bounce work o z many = many

  plan-many : (plan : Plan) (bounce : ℕ) (o : Owner) (z : World) → AsMany z → AsMany (delivered_by plan bounce o z)
  plan-many (Answer answer) bounce o z many = many
  plan-many (NoData work) bounce o z many = many
  plan-many (Direct work) bounce o z many = many
  plan-many (Bounced work) bounce o z many = by (is_read work.opcode)
    where
      by : (b : Bool) → AsMany (cond b (scattered_to bounce work o z) z)
      by true = to-many bounce work o z many
      by false = many

  from-many : (t : Option Tag) (bounce : ℕ) (o : Owner) (z : World) → AsMany z → AsMany (delivered_from t bounce o z)
  from-many None bounce o z many = many
  from-many (Some Free) bounce o z many = many
  from-many (Some (Taken command reads)) bounce o z many = many
  from-many (Some (Flying command share standing)) bounce o z many = many
  from-many (Some (Ended command st None)) bounce o z many = many
  from-many (Some (Ended command st (Some share))) bounce o z many = plan-many share.plan bounce o z many

  all-many : (mediator lane : ℕ) (tags : List ℕ) (o : Owner) (z : World) → AsMany z → AsMany (delivered_all mediator lane tags o z)
  unfolding delivered_all
  all-many mediator lane [] o z many = many
  all-many mediator lane (tag ∷ tags) o z many =
      all-many mediator lane tags o (delivered_from (tag_of z lane tag) (bounce_page mediator lane tag) o z)
      (from-many (tag_of z lane tag) (bounce_page mediator lane tag) o z many)

  delivered-many : (st : StatusField) (mediator lane : ℕ) (tags : List ℕ) (o : Owner) → AsMany (delivered st mediator lane tags o w)
  delivered-many st mediator lane tags o = by (is_success st)
    where
      by : (b : Bool) → AsMany (cond b (delivered_all mediator lane tags o w) w)
      by true = all-many mediator lane tags o w refl
      by false = refl

  posted-many : (posted : Posted) (lane : ℕ) (tags : List ℕ) (o : Owner) (z : World) → AsMany z → AsMany (posted_to posted lane tags o z)
  unfolding posted_to put_back
  posted-many posted lane tags o z many = tags-many lane tags Free _ many

  out-many : (queue lane : ℕ) (tags : List ℕ) (o : Owner) (z : World) → AsMany z → AsMany (ran_out_of queue lane tags o z)
  unfolding ran_out_of
  out-many queue lane tags o z many = tags-many lane tags Free _ many

  post-many : (found : Option Posted) (st : StatusField) (mediator lane : ℕ) (tags : List ℕ) (o : Owner)
      → AsMany (post_by found st mediator lane tags o w).world
  post-many None st mediator lane tags o = refl
  post-many (Some posted) st mediator lane tags o =
      posted-many posted lane tags o (delivered st mediator lane tags o w) (delivered-many st mediator lane tags o)

  post_all-many : (sts : Option (List StatusField)) (command : Command) (mediator lane : ℕ) (tags : List ℕ) (o : Owner)
      → AsMany (post_all sts command mediator lane tags o w).world
  post_all-many None command mediator lane tags o = refl
  post_all-many (Some sts) command mediator lane tags o =
      either AsMany w refl (is_enabled o.controller) _ _
      (λ enabled. post-many (post o.controller command.queue 0 (cid_of command.entry) (deciding sts)) (deciding sts) mediator lane tags o)
      (λ fell. out-many command.queue lane tags o (delivered (deciding sts) mediator lane tags o w) (delivered-many (deciding sts) mediator lane tags o))

  keep-many : (block : ℕ) → AsMany (kept_block block w)
  unfolding kept_block
  keep-many block = refl

  -- behind each event
  pub lanes-kept : (e : Event) → AsMany (step geometry e w).world
  unfolding step acted_in administered_in
  lanes-kept (event.Guest number a) =
      guest-walk AsMany w refl (owner_of geometry w number) _ (λ o found. act-many (acted (shape_of o.given) a (seat geometry o w)).reply _ o)
  lanes-kept (event.Admin number) = guest-walk AsMany w refl (owner_of geometry w number) _ (λ o found. admin-many _ o)
  lanes-kept (event.Take number queue lane) =
      guest-walk AsMany w refl (owner_of geometry w number) _ (λ o found.
      lane-walk AsMany w refl (slice_get w.lanes lane) (λ l. take_from queue lane l o w) (λ l at.
      either AsMany w refl (is_io_queue queue) _ _ (λ is. front-found (front o.controller queue) queue lane l o) (λ out. refl)))
  lanes-kept (event.List lane tag addr len) =
      taken-walk AsMany w refl tag (tag_of w lane tag) _ (λ command reads at leads.
      owner-walk AsMany w refl (owner_of geometry w command.guest) (λ o. list_at addr len lane tag command reads o w) (λ o found.
      either AsMany w refl (all_mapped (regions_of o.given) addr len) _ _
      (λ there. either AsMany w refl (nat_le 1 len && nat_le len part_size) _ _ (λ fits. listed-many addr len lane tag command reads o) (λ out. refl)) (λ out. refl)))
  lanes-kept (event.Submit lane tag) =
      taken-walk AsMany w refl tag (tag_of w lane tag) _ (λ command reads at leads.
      owner-walk AsMany w refl (owner_of geometry w command.guest) _ (λ o found.
      device-walk AsMany w refl (slice_get w.device lane)
      (λ d. submit_by (plan_over o.given command.entry reads) geometry.mediator lane (group w lane tag) command o w) (λ d there.
      submit-many (plan_over o.given command.entry reads) geometry.mediator lane (group w lane tag) command o)))
  lanes-kept (event.GiveUp lane tag) =
      taken-walk AsMany w refl tag (tag_of w lane tag) _ (λ command reads at leads. ended-many lane (group w lane tag) command (done_with InternalError))
  lanes-kept (event.DevTake lane) =
      device-walk AsMany w refl (slice_get w.device lane) (λ d. device_take geometry.mediator lane d w) (λ d there.
      either AsMany w refl (is_empty d.head d.tail) _ _ (λ none. refl) (λ some. took-many lane _))
  lanes-kept (event.DevMove lane slot number) =
      device-walk AsMany w refl (slice_get w.device lane) _ (λ d there.
      held-walk AsMany w refl (slice_get d.held slot) (λ h. device_move geometry.disk_blocks lane slot number h w) (λ h held.
      either AsMany w refl (list_any (λ k. k == number) h.left) _ _ (λ left. moved-many geometry.disk_blocks lane slot number h) (λ none. refl)))
  lanes-kept (event.DevPost lane slot) =
      device-walk AsMany w refl (slice_get w.device lane) _ (λ d there.
      held-walk AsMany w refl (slice_get d.held slot) (λ h. device_post h.left geometry.mediator lane slot h d w) (λ h held.
      left-many h.left geometry.mediator lane slot h d))
  lanes-kept (event.DevFail lane slot st) =
      device-walk AsMany w refl (slice_get w.device lane) _ (λ d there.
      held-walk AsMany w refl (slice_get d.held slot) (λ h. device_fail geometry.mediator lane slot st d w) (λ h held.
      either AsMany w refl (is_success st) _ _ (λ good. refl) (λ bad. answered-many geometry.mediator lane slot st d)))
  lanes-kept (event.Keep block) = either AsMany w refl (nat_le (block + 1) geometry.disk_blocks) _ _ (λ there. keep-many block) (λ out. refl)
  lanes-kept (event.Reap lane) =
      lane-walk AsMany w refl (slice_get w.lanes lane) _ (λ l at.
      device-walk AsMany w refl (slice_get w.device lane) (λ d. reap geometry lane l d w) (λ d there.
      either AsMany w refl (is_empty l.head d.posted) _ _ (λ none. refl) (λ some. reaped-many lane _)))
  lanes-kept (event.Post lane tag) =
      ended-walk AsMany w refl tag (tag_of w lane tag) _ (λ command st share at leads.
      owner-walk AsMany w refl (owner_of geometry w command.guest)
      (λ o. post_all (statuses_of lane (group w lane tag) w) command geometry.mediator lane (group w lane tag) o w) (λ o found.
      post_all-many (statuses_of lane (group w lane tag) w) command geometry.mediator lane (group w lane tag) o))
