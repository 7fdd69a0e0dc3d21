-- The tags of commands behind the events that take none and give none a plan.
use Rattle.std.proofs.Common.{◌≡◌, ℕ, ◌+◌, ◌&&◌, ◌==◌, nat_le, List, [], ◌∷◌, length, slice_get, Option, Some, None}
use Rattle.std.proofs.Common.{refl, sym, ap, ◌∙◌, subst}
use Rattle.std.specs.List.{list_any}
use Rattle.nv_entry.specs.Completion.{cid_of as completed_cid, status_of}
use Rattle.nv_entry.specs.Status.{StatusField}
use Rattle.nv_entry.specs.Submission.{cid_of}
use Rattle.nv_mem.specs.GuestMap.{all_mapped}
use Rattle.nv_model.specs.Admin.{AdminStep, NothingToDo, QueueFull, Stepped}
use Rattle.nv_model.specs.Controller.{Posted, is_enabled, post, ran_out}
use Rattle.nv_model.specs.Limits.{part_size}
use Rattle.nv_model.specs.Memory.{image, stored}
use Rattle.nv_model.specs.Private.{Private, acted}
use Rattle.nv_model.specs.Queue.{is_empty}
use Rattle.nv_model.specs.Transcript.{ReadDone}
use Rattle.nv_model.specs.declared.act.Act.{Act}
use Rattle.nv_model.specs.declared.reply.Reply.{Reply}
use Rattle.nv_model.specs.declared.reply.Reply.TheVariants as reply
use Rattle.nv_world_model.specs.declared.event.Event.TheVariants as event
use Rattle.nv_world_model.specs.Device.{DeviceLane, Held, held_status}
use Rattle.nv_world_model.specs.Geometry.{Geometry, regions_of, shape_of}
use Rattle.nv_world_model.specs.Share.{Share}
use Rattle.nv_world_model.specs.Seat.{Owner, owner_of, put_back, seat}
use Rattle.nv_world_model.specs.Step.{act_put_back, acted_in, administered_by, administered_in, completion_read, deciding, delivered, device_fail}
use Rattle.nv_world_model.specs.Step.{device_move, device_moved, device_post, device_posted, device_take, device_took, is_success, kept_block, list_at}
use Rattle.nv_world_model.specs.Step.{listed, post_all, post_by, posted_to, ran_out_of, reap, reaped, statuses_of, step}
use Rattle.nv_world_model.specs.World.{Command, Ended, Free, Taken, World, group, tag_of, with_controller, with_host, with_lane, with_tags}
use Rattle.nv_world_model.proofs.Seats.{IsOwner, owner_of-is}
use Rattle.nv_laws_sound.specs.Consistent.{IsConsistentOfTags}
use Rattle.nv_laws_sound.specs.Groups.{command_of, ended_part}
use Rattle.nv_laws_sound.specs.LaidOut.{IsLaidOut}
use Rattle.nv_laws_sound.proofs.GroupsKept.{HasGroups, ends-groups, freed-groups, read-groups, read-tag, retagged-groups, stands-groups}
use Rattle.nv_laws_sound.proofs.Retags.{IsAt, is-at}
use Rattle.nv_laws_sound.proofs.TagEvents.{IsDelivery, delivered-consistent}
use Rattle.nv_laws_sound.proofs.Walks.{device-walk, either, ended-walk, guest-walk, held-walk, lane-walk, owner-walk, taken-walk}

module _ (geometry : Geometry) (w : World) (are : HasGroups geometry w.lanes) where
  abbrev InGroups : World → Type 0
  InGroups z = HasGroups geometry z.lanes

  -- ---- what leaves the lanes as they are

  act-groups : (r : Reply) (p : Private) (o : Owner) → InGroups (act_put_back r p o w).world
  unfolding put_back
  act-groups reply.Done p o = are
  act-groups (reply.Bytes bytes) p o = are
  act-groups reply.Idle p o = are
  act-groups reply.Busy p o = are
  act-groups reply.Held p o = are
  act-groups reply.Stale p o = are
  act-groups reply.Unmapped p o = are
  act-groups reply.Ignored p o = are
  act-groups reply.NoMemory p o = are

  pub acts-groups : (number : ℕ) (a : Act) → InGroups (step geometry (event.Guest number a) w).world
  unfolding step acted_in
  acts-groups number a =
      guest-walk InGroups w are (owner_of geometry w number) _ (λ o found. act-groups (acted (shape_of o.given) a (seat geometry o w)).reply _ o)

  admin-groups : (x : AdminStep) (o : Owner) → InGroups (administered_by x o w).world
  unfolding put_back
  admin-groups NothingToDo o = are
  admin-groups QueueFull o = are
  admin-groups (Stepped c memory) o = are

  pub admins-groups : (number : ℕ) → InGroups (step geometry (event.Admin number) w).world
  unfolding step administered_in
  admins-groups number = guest-walk InGroups w are (owner_of geometry w number) _ (λ o found. admin-groups _ o)

  moved-groups : (blocks lane slot number : ℕ) (h : Held) → InGroups (device_moved blocks lane slot number h w)
  unfolding device_moved
  moved-groups blocks lane slot number h = are

  pub moves-groups : (lane slot number : ℕ) → InGroups (step geometry (event.DevMove lane slot number) w).world
  unfolding step
  moves-groups lane slot number =
      device-walk InGroups w are (slice_get w.device lane) _ (λ d there.
      held-walk InGroups w are (slice_get d.held slot) (λ h. device_move geometry.disk_blocks lane slot number h w) (λ h held.
      either InGroups w are (list_any (λ k. k == number) h.left) _ _ (λ left. moved-groups geometry.disk_blocks lane slot number h) (λ none. are)))

  kept-groups : (block : ℕ) → InGroups (kept_block block w)
  unfolding kept_block
  kept-groups block = are

  pub keeps-groups : (block : ℕ) → InGroups (step geometry (event.Keep block) w).world
  unfolding step
  keeps-groups block = either InGroups w are (nat_le (block + 1) geometry.disk_blocks) _ _ (λ there. kept-groups block) (λ out. are)

  -- ---- what changes how far a tag is

  listed-groups : (addr len lane tag : ℕ) (command : Command) (reads : List ReadDone) (o : Owner) → tag_of w lane tag ≡ Some (Taken command reads)
      → InGroups (listed addr len lane tag command reads o w).world
  unfolding listed
  listed-groups addr len lane tag command reads o at = retagged-groups geometry w lane tag (Taken command reads) (Taken command _) are at refl

  pub lists-groups : (lane tag addr len : ℕ) → InGroups (step geometry (event.List lane tag addr len) w).world
  unfolding step
  lists-groups lane tag addr len =
      taken-walk InGroups w are tag (tag_of w lane tag) _ (λ command reads at leads.
      owner-walk InGroups w are (owner_of geometry w command.guest) (λ o. list_at addr len lane tag command reads o w) (λ o found.
      either InGroups w are (all_mapped (regions_of o.given) addr len) _ _
      (λ there. either InGroups w are (nat_le 1 len && nat_le len part_size) _ _ (λ fits. listed-groups addr len lane tag command reads o at) (λ out. are))
      (λ out. are)))

  took-groups : (lane : ℕ) (entry : List ℕ) → InGroups (device_took lane entry w)
  unfolding device_took
  took-groups lane entry = stands-groups geometry _ _ lane (cid_of entry) _ are refl

  pub device_takes-groups : (lane : ℕ) → InGroups (step geometry (event.DevTake lane) w).world
  unfolding step
  device_takes-groups lane =
      device-walk InGroups w are (slice_get w.device lane) (λ d. device_take geometry.mediator lane d w) (λ d there.
      either InGroups w are (is_empty d.head d.tail) _ _ (λ none. are) (λ some. took-groups lane _))

  answered-groups : (mediator lane slot : ℕ) (st : StatusField) (d : DeviceLane) → InGroups (device_posted mediator lane slot st d w)
  unfolding device_posted
  answered-groups mediator lane slot st d = stands-groups geometry _ _ lane slot _ are refl

  left-groups : (left : List ℕ) (mediator lane slot : ℕ) (h : Held) (d : DeviceLane) → InGroups (device_post left mediator lane slot h d w).world
  left-groups [] mediator lane slot h d = answered-groups mediator lane slot (held_status h) d
  left-groups (number ∷ left) mediator lane slot h d = are

  pub device_posts-groups : (lane slot : ℕ) → InGroups (step geometry (event.DevPost lane slot) w).world
  unfolding step
  device_posts-groups lane slot =
      device-walk InGroups w are (slice_get w.device lane) _ (λ d there.
      held-walk InGroups w are (slice_get d.held slot) (λ h. device_post h.left geometry.mediator lane slot h d w) (λ h held.
      left-groups h.left geometry.mediator lane slot h d))

  pub device_fails-groups : (lane slot : ℕ) (st : StatusField) → InGroups (step geometry (event.DevFail lane slot st) w).world
  unfolding step
  device_fails-groups lane slot st =
      device-walk InGroups w are (slice_get w.device lane) _ (λ d there.
      held-walk InGroups w are (slice_get d.held slot) (λ h. device_fail geometry.mediator lane slot st d w) (λ h held.
      either InGroups w are (is_success st) _ _ (λ good. are) (λ bad. answered-groups geometry.mediator lane slot st d)))

  reaped-groups : (lane : ℕ) (completion : List ℕ) → InGroups (reaped lane completion w)
  unfolding reaped
  reaped-groups lane completion =
      ends-groups geometry (tag_of w lane (completed_cid completion)) (status_of completion) lane (completed_cid completion)
      (with_lane lane completion_read w) (read-groups geometry w lane are) (read-tag geometry w lane (completed_cid completion))

  pub reaps-groups : (lane : ℕ) → InGroups (step geometry (event.Reap lane) w).world
  unfolding step
  reaps-groups lane =
      lane-walk InGroups w are (slice_get w.lanes lane) _ (λ l at.
      device-walk InGroups w are (slice_get w.device lane) (λ d. reap geometry lane l d w) (λ d there.
      either InGroups w are (is_empty l.head d.posted) _ _ (λ none. are) (λ some. reaped-groups lane _)))

-- ---- the tags of a command become free

ended-has : (command : Command) (st : StatusField) (share : Option Share) → command_of (ended_part command st share) ≡ Some command
ended-has command st None = refl
ended-has command st (Some share) = refl

module _ (host_bytes : ℕ) (geometry : Geometry) where
  abbrev Grouped : World → Type 0
  Grouped z = HasGroups geometry z.lanes

  -- of a command that has ended
  module _ (w : World) (lane tag : ℕ) (command : Command) (ended_with : StatusField) (share : Option Share) (o : Owner)
      (laid : IsLaidOut host_bytes (length w.lanes) geometry) (is : IsConsistentOfTags geometry w) (are : HasGroups geometry w.lanes)
      (found : tag_of w lane tag ≡ Some (Ended command ended_with share)) (leads : command.leader ≡ tag) (owns : IsOwner geometry w o) where
    place : IsAt w lane tag (Ended command ended_with share)
    place = is-at geometry w lane tag (Ended command ended_with share) is found

    -- in a world with the same lanes
    free-groups : (z : World) → z.lanes ≡ w.lanes → HasGroups geometry (with_tags lane (group w lane tag) Free z).lanes
    free-groups z same =
        freed-groups geometry w lane tag place.l command (Ended command ended_with share) are place.at_lane place.at_tag
        (ended-has command ended_with share) leads z (ap (λ ls. slice_get ls lane) same ∙ place.at_lane) (subst (HasGroups geometry) (sym same) are)

    posted-groups : (posted : Posted) (v : World) → IsDelivery host_bytes geometry w v → Grouped (posted_to posted lane (group w lane tag) o v)
    unfolding posted_to put_back
    posted-groups posted v d =
        let z = with_host d.host w in
        subst (λ x. Grouped (posted_to posted lane (group w lane tag) o x)) (sym d.is)
        (free-groups (put_back o (stored (image (regions_of o.given) z.host) posted.addr posted.entry) posted.controller z) refl)

    out-groups : (queue : ℕ) (v : World) → IsDelivery host_bytes geometry w v → Grouped (ran_out_of queue lane (group w lane tag) o v)
    unfolding ran_out_of
    out-groups queue v d =
        subst (λ x. Grouped (ran_out_of queue lane (group w lane tag) o x)) (sym d.is)
        (free-groups (with_controller o.number (ran_out o.controller queue) (with_host d.host w)) refl)

    post-groups : (found : Option Posted) (st : StatusField) → Grouped (post_by found st geometry.mediator lane (group w lane tag) o w).world
    post-groups None st = are
    post-groups (Some posted) st =
        posted-groups posted (delivered st geometry.mediator lane (group w lane tag) o w)
        (delivered-consistent host_bytes geometry st lane (group w lane tag) o w laid owns.given is)

    all-groups : (sts : Option (List StatusField)) → Grouped (post_all sts command geometry.mediator lane (group w lane tag) o w).world
    all-groups None = are
    all-groups (Some sts) =
        either Grouped w are (is_enabled o.controller) _ _
        (λ enabled. post-groups (post o.controller command.queue 0 (cid_of command.entry) (deciding sts)) (deciding sts))
        (λ fell. out-groups command.queue (delivered (deciding sts) geometry.mediator lane (group w lane tag) o w)
        (delivered-consistent host_bytes geometry (deciding sts) lane (group w lane tag) o w laid owns.given is))

  pub posts-groups : (w : World) (lane tag : ℕ) → IsLaidOut host_bytes (length w.lanes) geometry → IsConsistentOfTags geometry w → HasGroups geometry w.lanes
      → Grouped (step geometry (event.Post lane tag) w).world
  unfolding step
  posts-groups w lane tag laid is are =
      ended-walk Grouped w are tag (tag_of w lane tag) _ (λ command st share at leads.
      owner-walk Grouped w are (owner_of geometry w command.guest)
      (λ o. post_all (statuses_of lane (group w lane tag) w) command geometry.mediator lane (group w lane tag) o w) (λ o found.
      all-groups w lane tag command st share o laid is are at leads (owner_of-is geometry w command.guest o found)
      (statuses_of lane (group w lane tag) w)))
