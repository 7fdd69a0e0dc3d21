-- Blocks and marks change by a unit that moves, and marks by a block that becomes kept; no other event changes them.
use Rattle.std.proofs.Common.{◌≡◌, ℕ, true, false, cond, List, [], ◌∷◌, Option, Some, None, slice_get, refl}
use Rattle.std.specs.Prelude.{◌&&◌, nat_le}
use Rattle.nv_entry.specs.Completion.{cid_of as completed_cid, status_of}
use Rattle.nv_entry.specs.Status.{StatusField}
use Rattle.nv_entry.specs.Submission.{cid_of}
use Rattle.nv_mem.specs.GuestMap.{all_mapped}
use Rattle.nv_model.specs.Admin.{AdminStep, NothingToDo, QueueFull, Stepped, admin}
use Rattle.nv_entry.specs.StatusCode.{done_with}
use Rattle.nv_entry.specs.declared.status_code.StatusCode.TheVariants.{Success}
use Rattle.nv_model.specs.Controller.{Posted, front, is_enabled, ran_out, took}
use Rattle.nv_model.specs.Memory.{image, stored}
use Rattle.nv_model.specs.Judge.{is_read}
use Rattle.nv_model.specs.Limits.{part_size}
use Rattle.nv_model.specs.Private.{Private, acted}
use Rattle.nv_model.specs.Queue.{is_empty}
use Rattle.nv_model.specs.Transcript.{Outcome, ReadDone, Settled, Wanted}
use Rattle.nv_model.specs.declared.reply.Reply.{Reply}
use Rattle.nv_model.specs.declared.reply.Reply.TheVariants as reply
use Rattle.nv_world_model.specs.declared.event.Event.{Event}
use Rattle.nv_world_model.specs.declared.event.Event.TheVariants as event
use Rattle.nv_world_model.specs.Device.{DeviceLane, Held, completion_posted, completion_written, entry_taken}
use Rattle.nv_world_model.specs.Area.{bounce_page}
use Rattle.nv_world_model.specs.Geometry.{Geometry, regions_of, shape_of}
use Rattle.nv_world_model.specs.Share.{Share, tags_of_entry}
use Rattle.nv_world_model.specs.ShareArea.{is_no_command}
use Rattle.nv_world_model.specs.Plan.{Answer, Bounced, Direct, NoData, Plan, plan_over}
use Rattle.nv_world_model.specs.Seat.{Owner, owner_of, put_back, seat}
use Rattle.nv_world_model.specs.Step.{act_put_back, acted_in, administered_by, administered_in, carried_out, carry_out, completion_read, delivered}
use Rattle.nv_world_model.specs.Step.{delivered_all, delivered_by, delivered_from}
use Rattle.nv_world_model.specs.Step.{device_fail, device_post, device_posted, device_take, device_took, ended_at, ended_at_once, handed_on}
use Rattle.nv_world_model.specs.Step.{is_io_queue, is_success}
use Rattle.nv_world_model.specs.Step.{entry_at, list_at, listed, post_all, post_at, post_by, posted_to, ran_out_of, reap, reaped, scattered_to}
use Rattle.nv_world_model.specs.Step.{standing_at, statuses_of, step}
use Rattle.nv_world_model.specs.Step.{submit_by, submitted, submitted_on, take_from, take_front, take_tags, taken_to}
use Rattle.nv_world_model.specs.World.{Answered, Command, Ended, Flying, Free, InDevice, Lane, Standing, Tag, Taken, World}
use Rattle.nv_world_model.specs.World.{claimed, group, tag_of, with_controller, with_device, with_host, with_lane, with_tag, with_tags}
use Rattle.nv_laws_sound.proofs.Walks.{device-walk, either, ended-walk, guest-walk, held-walk, lane-walk, owner-walk, taken-walk}
use Rattle.nv_laws.specs.Marks.{HasSameDisk, touches_blocks}

module _ (w : World) where
  abbrev P : World → Type 0
  P z = HasSameDisk w z

  here : P w
  here = record { bytes = refl; marks = refl }

  -- ---- a guest's acts, and its admin queue

  act-same : (r : Reply) (p : Private) (o : Owner) → P (act_put_back r p o w).world
  unfolding put_back
  act-same reply.Done p o = record { bytes = refl; marks = refl }
  act-same (reply.Bytes bytes) p o = here
  act-same reply.Idle p o = here
  act-same reply.Busy p o = here
  act-same reply.Held p o = here
  act-same reply.Stale p o = here
  act-same reply.Unmapped p o = here
  act-same reply.Ignored p o = here
  act-same reply.NoMemory p o = here

  acted-same : (geometry : Geometry) (a : _) (o : Owner) → P (acted_in geometry a o w).world
  unfolding acted_in
  acted-same geometry a o = act-same (acted (shape_of o.given) a (seat geometry o w)).reply (acted (shape_of o.given) a (seat geometry o w)).state o

  admin-same : (s : AdminStep) (o : Owner) → P (administered_by s o w).world
  unfolding put_back
  admin-same NothingToDo o = here
  admin-same QueueFull o = here
  admin-same (Stepped c memory) o = record { bytes = refl; marks = refl }

  administered-same : (o : Owner) → P (administered_in o w).world
  unfolding administered_in
  administered-same o =
      admin-same (admin (shape_of o.given).mapped (shape_of o.given).blocks o.controller (image (regions_of o.given) w.host)) o

  -- ---- a command is taken, listed, and handed on

  -- tags that change
  tags-same : (lane : ℕ) (tags : List ℕ) (t : Tag) (z : World) → P z → P (with_tags lane tags t z)
  unfolding with_tags
  tags-same lane [] t z same = same
  tags-same lane (tag ∷ tags) t z same = tags-same lane tags t (with_tag lane tag t z) (record { bytes = same.bytes; marks = same.marks })

  tag-same : (found : Option (List ℕ)) (addr queue lane : ℕ) (o : Owner) → P (take_tags found addr queue lane o w).world
  unfolding taken_to
  tag-same None addr queue lane o = here
  tag-same (Some tags) addr queue lane o =
      tags-same lane tags _ (with_controller o.number (took o.controller queue) w) (record { bytes = refl; marks = refl })

  front-same : (found : Option ℕ) (queue lane : ℕ) (l : Lane) (o : Owner) → P (take_front found queue lane l o w).world
  front-same None queue lane l o = here
  front-same (Some addr) queue lane l o = tag-same (claimed (tags_of_entry o.given.namespace (entry_at addr o w)) l.tags) addr queue lane o

  take-same : (queue lane : ℕ) (l : Lane) (o : Owner) → P (take_from queue lane l o w).world
  take-same queue lane l o =
      either P w here (is_io_queue queue) _ _ (λ _. front-same (front o.controller queue) queue lane l o) (λ _. here)

  list-same : (addr len lane tag : ℕ) (command : Command) (reads : List ReadDone) (o : Owner) → P (list_at addr len lane tag command reads o w).world
  unfolding listed
  list-same addr len lane tag command reads o =
      either P w here (all_mapped (regions_of o.given) addr len) _ _
      (λ _. either P w here (nat_le 1 len && nat_le len part_size) _ _ (λ _. record { bytes = refl; marks = refl }) (λ _. here)) (λ _. here)

  -- a share is handed on, or ends with success at once
  on-same : (found : Option DeviceLane) (mediator lane tag : ℕ) (command : Command) (share : Share) (o : Owner) (z : World) → P z
      → P (submitted_on found mediator lane tag command share o z)
  unfolding submitted
  on-same None mediator lane tag command share o z same = same
  on-same (Some d) mediator lane tag command share o z same = record { bytes = same.bytes; marks = same.marks }

  out-same : (mediator lane tag : ℕ) (command : Command) (share : Share) (o : Owner) (z : World) → P z
      → P (carried_out mediator lane tag command share o z)
  out-same mediator lane tag command share o z same =
      elim (is_no_command share) as (λ b. P (cond b (with_tag lane tag (Ended command (done_with Success) (Some share)) z)
      (submitted_on (slice_get z.device lane) mediator lane tag command share o z))) [
        | true ↦ record { bytes = same.bytes; marks = same.marks }
        | false ↦ on-same (slice_get z.device lane) mediator lane tag command share o z same
      ]

  handed-same : (mediator lane : ℕ) (tags : List ℕ) (shares : List Share) (command : Command) (o : Owner) (z : World) → P z
      → P (handed_on mediator lane tags shares command o z)
  unfolding handed_on
  handed-same mediator lane [] shares command o z same = same
  handed-same mediator lane (tag ∷ tags) [] command o z same = same
  handed-same mediator lane (tag ∷ tags) (share ∷ shares) command o z same =
      handed-same mediator lane tags shares command o (carried_out mediator lane tag command share o z) (out-same mediator lane tag command share o z same)

  given_up-same : (lane : ℕ) (tags : List ℕ) (command : Command) (st : StatusField) → P (ended_at_once lane tags command st w)
  given_up-same lane [] command st = here
  given_up-same lane (tag ∷ tags) command st =
      tags-same lane tags (Ended command (done_with Success) None) (with_tag lane tag (Ended command st None) w) (record { bytes = refl; marks = refl })

  carry-same : (plan : Plan) (mediator lane : ℕ) (tags : List ℕ) (command : Command) (o : Owner) → P (carry_out plan mediator lane tags command o w)
  carry-same (Answer st) mediator lane tags command o = given_up-same lane tags command st
  carry-same (NoData work) mediator lane tags command o = handed-same mediator lane tags _ command o w here
  carry-same (Direct work) mediator lane tags command o = handed-same mediator lane tags _ command o w here
  carry-same (Bounced work) mediator lane tags command o = handed-same mediator lane tags _ command o w here

  submit-same : (outcome : Outcome Plan) (mediator lane : ℕ) (tags : List ℕ) (command : Command) (o : Owner)
      → P (submit_by outcome mediator lane tags command o w).world
  submit-same (Wanted addr len) mediator lane tags command o = here
  submit-same (Settled plan) mediator lane tags command o = carry-same plan mediator lane tags command o

  -- ---- the device takes and posts

  stands-same : (found : Option Tag) (standing : Standing) (lane tag : ℕ) (z : World) → P z → P (standing_at found standing lane tag z)
  stands-same None standing lane tag z same = same
  stands-same (Some Free) standing lane tag z same = same
  stands-same (Some (Taken command reads)) standing lane tag z same = same
  stands-same (Some (Flying command share before)) standing lane tag z same = record { bytes = same.bytes; marks = same.marks }
  stands-same (Some (Ended command st share)) standing lane tag z same = same

  took-same : (lane : ℕ) (entry : List ℕ) → P (device_took lane entry w)
  unfolding device_took
  took-same lane entry =
      let z : World = with_device lane (entry_taken entry w.host) w in
      stands-same (tag_of z lane (cid_of entry)) InDevice lane (cid_of entry) z (record { bytes = refl; marks = refl })

  device_take-same : (mediator lane : ℕ) (d : DeviceLane) → P (device_take mediator lane d w).world
  device_take-same mediator lane d = either P w here (is_empty d.head d.tail) _ _ (λ _. here) (λ _. took-same lane _)

  posts-same : (mediator lane slot : ℕ) (st : StatusField) (d : DeviceLane) → P (device_posted mediator lane slot st d w)
  unfolding device_posted
  posts-same mediator lane slot st d =
      let z : World = with_device lane (completion_posted slot) (with_host (completion_written mediator lane slot st d w.host) w) in
      stands-same (tag_of z lane slot) (Answered d.posted) lane slot z (record { bytes = refl; marks = refl })

  device_post-same : (left : List ℕ) (mediator lane slot : ℕ) (h : Held) (d : DeviceLane) → P (device_post left mediator lane slot h d w).world
  device_post-same [] mediator lane slot h d = posts-same mediator lane slot _ d
  device_post-same (number ∷ left) mediator lane slot h d = here

  device_fail-same : (mediator lane slot : ℕ) (st : StatusField) (d : DeviceLane) → P (device_fail mediator lane slot st d w).world
  device_fail-same mediator lane slot st d = either P w here (is_success st) _ _ (λ _. here) (λ _. posts-same mediator lane slot st d)

  -- ---- a completion is read, and passed on

  ended-same : (found : Option Tag) (st : StatusField) (lane tag : ℕ) (z : World) → P z → P (ended_at found st lane tag z)
  ended-same None st lane tag z same = same
  ended-same (Some Free) st lane tag z same = same
  ended-same (Some (Taken command reads)) st lane tag z same = same
  ended-same (Some (Flying command share standing)) st lane tag z same = record { bytes = same.bytes; marks = same.marks }
  ended-same (Some (Ended command before share)) st lane tag z same = same

  reaped-same : (lane : ℕ) (completion : List ℕ) → P (reaped lane completion w)
  unfolding reaped
  reaped-same lane completion =
      ended-same (tag_of w lane (completed_cid completion)) (status_of completion) lane (completed_cid completion) (with_lane lane completion_read w) (record { bytes = refl; marks = refl })

  reap-same : (geometry : Geometry) (number : ℕ) (l : Lane) (d : DeviceLane) → P (reap geometry number l d w).world
  reap-same geometry number l d = either P w here (is_empty l.head d.posted) _ _ (λ _. here) (λ _. reaped-same number _)

  by-same : (plan : Plan) (bounce : ℕ) (o : Owner) (z : World) → P z → P (delivered_by plan bounce o z)
  unfolding scattered_to
  by-same (Answer answer) bounce o z same = same
  by-same (NoData work) bounce o z same = same
  by-same (Direct work) bounce o z same = same
  by-same (Bounced work) bounce o z same =
      elim (is_read work.opcode) as (λ b. P (cond b (scattered_to bounce work o z) z)) [
        | true ↦ record { bytes = same.bytes; marks = same.marks }
        | false ↦ same
      ]

  from-same : (found : Option Tag) (bounce : ℕ) (o : Owner) (z : World) → P z → P (delivered_from found bounce o z)
  from-same None bounce o z same = same
  from-same (Some Free) bounce o z same = same
  from-same (Some (Taken command reads)) bounce o z same = same
  from-same (Some (Flying command share standing)) bounce o z same = same
  from-same (Some (Ended command st None)) bounce o z same = same
  from-same (Some (Ended command st (Some share))) bounce o z same = by-same share.plan bounce o z same

  all-same : (mediator lane : ℕ) (tags : List ℕ) (o : Owner) (z : World) → P z → P (delivered_all mediator lane tags o z)
  unfolding delivered_all
  all-same mediator lane [] o z same = same
  all-same mediator lane (tag ∷ tags) o z same =
      all-same mediator lane tags o (delivered_from (tag_of z lane tag) (bounce_page mediator lane tag) o z)
      (from-same (tag_of z lane tag) (bounce_page mediator lane tag) o z same)

  delivered-same : (st : StatusField) (mediator lane : ℕ) (tags : List ℕ) (o : Owner) → P (delivered st mediator lane tags o w)
  delivered-same st mediator lane tags o =
      elim (is_success st) as (λ b. P (cond b (delivered_all mediator lane tags o w) w)) [
        | true ↦ all-same mediator lane tags o w here
        | false ↦ here
      ]

  posted-same : (posted : Posted) (lane : ℕ) (tags : List ℕ) (o : Owner) (z : World) → P z → P (posted_to posted lane tags o z)
  unfolding posted_to put_back
  posted-same posted lane tags o z same =
      tags-same lane tags Free (put_back o (stored (image (regions_of o.given) z.host) posted.addr posted.entry) posted.controller z)
      (record { bytes = same.bytes; marks = same.marks })

  ran_out-same : (queue lane : ℕ) (tags : List ℕ) (o : Owner) (z : World) → P z → P (ran_out_of queue lane tags o z)
  unfolding ran_out_of
  ran_out-same queue lane tags o z same =
      tags-same lane tags Free (with_controller o.number (ran_out o.controller queue) z) (record { bytes = same.bytes; marks = same.marks })

  post_by-same : (found : Option Posted) (st : StatusField) (mediator lane : ℕ) (tags : List ℕ) (o : Owner)
      → P (post_by found st mediator lane tags o w).world
  post_by-same None st mediator lane tags o = here
  post_by-same (Some posted) st mediator lane tags o =
      posted-same posted lane tags o (delivered st mediator lane tags o w) (delivered-same st mediator lane tags o)

  post-same : (command : Command) (st : StatusField) (mediator lane : ℕ) (tags : List ℕ) (o : Owner)
      → P (post_at command st mediator lane tags o w).world
  post-same command st mediator lane tags o =
      either P w here (is_enabled o.controller) _ _ (λ _. post_by-same _ st mediator lane tags o)
      (λ _. ran_out-same command.queue lane tags o (delivered st mediator lane tags o w) (delivered-same st mediator lane tags o))

  post_all-same : (sts : Option (List StatusField)) (command : Command) (mediator lane : ℕ) (tags : List ℕ) (o : Owner)
      → P (post_all sts command mediator lane tags o w).world
  post_all-same None command mediator lane tags o = here
  post_all-same (Some sts) command mediator lane tags o = post-same command _ mediator lane tags o

  -- ---- every event but those two

  pub step-same : (geometry : Geometry) (e : Event) → touches_blocks e ≡ false → P (step geometry e w).world
  unfolding step
  step-same geometry (event.Guest guest a) none = guest-walk P w here (owner_of geometry w guest) _ (λ o found. acted-same geometry a o)
  step-same geometry (event.Admin guest) none = guest-walk P w here (owner_of geometry w guest) _ (λ o found. administered-same o)
  step-same geometry (event.Take guest queue lane) none =
      guest-walk P w here (owner_of geometry w guest) _ (λ o found. lane-walk P w here (slice_get w.lanes lane) _ (λ l at. take-same queue lane l o))
  step-same geometry (event.List lane tag addr len) none =
      taken-walk P w here tag (tag_of w lane tag) _ (λ command reads at leads.
      owner-walk P w here (owner_of geometry w command.guest) _ (λ o found. list-same addr len lane tag command reads o))
  step-same geometry (event.Submit lane tag) none =
      taken-walk P w here tag (tag_of w lane tag) _ (λ command reads at leads.
      owner-walk P w here (owner_of geometry w command.guest) _ (λ o found.
      device-walk P w here (slice_get w.device lane) _ (λ d there. submit-same (plan_over o.given command.entry reads) geometry.mediator lane (group w lane tag) command o)))
  step-same geometry (event.GiveUp lane tag) none =
      taken-walk P w here tag (tag_of w lane tag) _ (λ command reads at leads. given_up-same lane (group w lane tag) command _)
  step-same geometry (event.DevTake lane) none =
      device-walk P w here (slice_get w.device lane) _ (λ d there. device_take-same geometry.mediator lane d)
  step-same geometry (event.DevMove lane slot number) none = cc
  step-same geometry (event.DevPost lane slot) none =
      device-walk P w here (slice_get w.device lane) _ (λ d there.
      held-walk P w here (slice_get d.held slot) _ (λ h held. device_post-same h.left geometry.mediator lane slot h d))
  step-same geometry (event.DevFail lane slot st) none =
      device-walk P w here (slice_get w.device lane) _ (λ d there.
      held-walk P w here (slice_get d.held slot) _ (λ h held. device_fail-same geometry.mediator lane slot st d))
  step-same geometry (event.Keep block) none = cc
  step-same geometry (event.Reap lane) none =
      lane-walk P w here (slice_get w.lanes lane) _ (λ l at.
      device-walk P w here (slice_get w.device lane) _ (λ d there. reap-same geometry lane l d))
  step-same geometry (event.Post lane tag) none =
      ended-walk P w here tag (tag_of w lane tag) _ (λ command st share at leads.
      owner-walk P w here (owner_of geometry w command.guest) _ (λ o found. post_all-same (statuses_of lane (group w lane tag) w) command geometry.mediator lane (group w lane tag) o))
