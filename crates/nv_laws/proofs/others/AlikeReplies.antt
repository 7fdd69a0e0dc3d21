-- An event of a guest's is answered by that guest's view and the shared numbers alone.
use Rattle.std.proofs.Common.{◌≡◌, ℕ, zero, suc, Bool, true, false, cond, ◌&&◌, ◌==◌, nat_le, List, [], ◌∷◌}
use Rattle.std.proofs.Common.{length, map, slice_get, Option}
use Rattle.std.proofs.Common.{Some, None, arith, refl, sym, ap, ◌∙◌}
use Rattle.std.specs.List.{list_any}
use Rattle.std.specs.Option.{option_map}
use Rattle.std.proofs.lemmas.Option.{slice_get-map}
use mathlib.Core.Path.{fun_ext}
use Rattle.nv_entry.specs.Status.{StatusField}
use Rattle.nv_entry.specs.StatusCode.{done_with}
use Rattle.nv_entry.specs.Submission.{cid_of}
use Rattle.nv_entry.specs.declared.status_code.StatusCode.TheVariants.{InternalError}
use Rattle.nv_mem.specs.GuestMap.{all_mapped, everywhere}
use Rattle.nv_model.specs.Admin.{AdminStep, NothingToDo, QueueFull, Stepped, admin}
use Rattle.nv_model.specs.Controller.{Controller, Posted, doorbell, front, is_enabled, post, reg_read, reg_write}
use Rattle.nv_model.specs.Limits.{part_size}
use Rattle.nv_model.specs.Memory.{bytes_from, image}
use Rattle.nv_model.specs.Private.{Acted, Private, Shape, acted, controlled, register_replied}
use Rattle.nv_model.specs.Queue.{is_empty, sqe_size}
use Rattle.nv_model.specs.Transcript.{Outcome, ReadDone, Settled, Wanted}
use Rattle.nv_model.specs.declared.act.Act.{Act}
use Rattle.nv_model.specs.declared.act.Act.TheVariants as act
use Rattle.nv_model.specs.declared.reply.Reply.{Reply}
use Rattle.nv_model.specs.declared.reply.Reply.TheVariants as reply
use Rattle.nv_world_model.specs.declared.event.Event.{Event}
use Rattle.nv_world_model.specs.declared.event.Event.TheVariants as event
use Rattle.nv_world_model.specs.Share.{tags_of_entry}
use Rattle.nv_world_model.specs.Contained.{guest_of_one, owner}
use Rattle.nv_world_model.specs.Device.{DeviceLane, Held}
use Rattle.nv_world_model.specs.Geometry.{Geometry, Guest, regions_of, shape_of}
use Rattle.nv_world_model.specs.Plan.{Plan, plan_over}
use Rattle.nv_world_model.specs.Seat.{Owner, held_by, held_in, owner_by, owner_of, seat}
use Rattle.nv_world_model.specs.Step.{After, act_put_back, acted_in, administered_by, administered_in, device_fail, device_move, device_post, ended_at_once}
use Rattle.nv_world_model.specs.Step.{deciding, entry_at, for_one, for_ended, for_held, for_leader, for_owner, for_taken}
use Rattle.nv_world_model.specs.Step.{is_io_queue, is_success}
use Rattle.nv_world_model.specs.Step.{list_at, listed, post_all, post_by, replied, statuses_of, step, submit_by, take_from, take_front, take_tags}
use Rattle.nv_world_model.specs.View.{IsAlike, is_tag_of, lane_numbers, own_held, ring_numbers, shared_numbers}
use Rattle.nv_world_model.specs.World.{Command, Ended, Flying, Free, Lane, Tag, Taken, World, claimed, group, is_free, tag_of}
use Rattle.nv_laws_sound.proofs.Lists.{some-same}
use Rattle.nv_laws.specs.Alike.{GoesByItsOwn}
use Rattle.nv_laws.proofs.others.AlikeGroups.{claimed-same, group-mine, groups-alike, statuses-alike, tag-own, tag-same}

-- ---- lists

abbrev first : List Bool → Bool
first [] = false
first (b ∷ bs) = b

abbrev rest : List Bool → List Bool
rest [] = []
rest (b ∷ bs) = bs

module _ {X : Type 0} (p : X → Bool) where
  pub same-length : (xs ys : List X) → map p xs ≡ map p ys → length xs ≡ length ys
  same-length [] [] e = refl
  same-length [] (y ∷ ys) e = cc
  same-length (x ∷ xs) [] e = cc
  same-length (x ∷ xs) (y ∷ ys) e = ap (λ n. suc n) (same-length xs ys (ap rest e))

-- the same is held at a place of lists of one length
pub same-slot : (xs ys : List (Option Held)) (i : ℕ) → length xs ≡ length ys → held_by (slice_get xs i) ≡ held_by (slice_get ys i)
    → slice_get xs i ≡ slice_get ys i
same-slot [] [] i sized same = refl
same-slot [] (y ∷ ys) i sized same = absurd (omega (arith, sized))
same-slot (x ∷ xs) [] i sized same = absurd (omega (arith, sized))
same-slot (x ∷ xs) (y ∷ ys) zero sized same = ap (λ h. Some h) same
same-slot (x ∷ xs) (y ∷ ys) (suc i) sized same = same-slot xs ys i (omega (arith, sized)) same

-- ---- answers

-- one of two, by a test
either-same : (b : Bool) (x y u v : After) → x.reply ≡ y.reply → u.reply ≡ v.reply → (cond b x u).reply ≡ (cond b y v).reply
either-same true x y u v one other = one
either-same false x y u v one other = other

-- by tests that are the same
tests-same : (b c : Bool) (x y u v : After) → b ≡ c → x.reply ≡ y.reply → u.reply ≡ v.reply → (cond b x u).reply ≡ (cond c y v).reply
tests-same b c x y u v same one other = ap (λ t. (cond t x u).reply) same ∙ either-same c x y u v one other

module _ (w z : World) where
  leader-same : (tag : ℕ) (command : Command) (x y : After) → x.reply ≡ y.reply → (for_leader tag command w x).reply ≡ (for_leader tag command z y).reply
  leader-same tag command x y same = either-same (command.leader == tag) x y (replied reply.Stale w) (replied reply.Stale z) same refl

  taken-same : (number tag : ℕ) (t : Option Tag) → guest_of_one t ≡ Some number → (more again : Command → List ReadDone → After)
      → ((command : Command) (reads : List ReadDone) → command.guest ≡ number → (more command reads).reply ≡ (again command reads).reply)
      → (for_taken tag t w more).reply ≡ (for_taken tag t z again).reply
  taken-same number tag None own more again same = refl
  taken-same number tag (Some Free) own more again same = refl
  taken-same number tag (Some (Taken command reads)) own more again same =
      leader-same tag command (more command reads) (again command reads) (same command reads (some-same command.guest number own))
  taken-same number tag (Some (Flying command share standing)) own more again same = refl
  taken-same number tag (Some (Ended command st share)) own more again same = refl

  ended-same : (number tag : ℕ) (t : Option Tag) → guest_of_one t ≡ Some number → (more again : Command → After)
      → ((command : Command) → command.guest ≡ number → (more command).reply ≡ (again command).reply)
      → (for_ended tag t w more).reply ≡ (for_ended tag t z again).reply
  ended-same number tag None own more again same = refl
  ended-same number tag (Some Free) own more again same = refl
  ended-same number tag (Some (Taken command reads)) own more again same = refl
  ended-same number tag (Some (Flying command share standing)) own more again same = refl
  ended-same number tag (Some (Ended command st share)) own more again same =
      leader-same tag command (more command) (again command) (same command (some-same command.guest number own))

  lane-same : (x y : Option Lane) → option_map lane_numbers x ≡ option_map lane_numbers y → (more again : Lane → After)
      → ((l m : Lane) → lane_numbers l ≡ lane_numbers m → (more l).reply ≡ (again m).reply)
      → (for_one x w more).reply ≡ (for_one y z again).reply
  lane-same None None numbers more again same = refl
  lane-same None (Some m) numbers more again same = cc
  lane-same (Some l) None numbers more again same = cc
  lane-same (Some l) (Some m) numbers more again same = same l m (some-same (lane_numbers l) (lane_numbers m) numbers)

  device-same : (x y : Option DeviceLane) → option_map ring_numbers x ≡ option_map ring_numbers y → (more again : DeviceLane → After)
      → ((d e : DeviceLane) → x ≡ Some d → y ≡ Some e → ring_numbers d ≡ ring_numbers e → (more d).reply ≡ (again e).reply)
      → (for_one x w more).reply ≡ (for_one y z again).reply
  device-same None None numbers more again same = refl
  device-same None (Some e) numbers more again same = cc
  device-same (Some d) None numbers more again same = cc
  device-same (Some d) (Some e) numbers more again same = same d e refl refl (some-same (ring_numbers d) (ring_numbers e) numbers)

  held-same : (x : Option (Option Held)) (more again : Held → After) → ((h : Held) → (more h).reply ≡ (again h).reply)
      → (for_held x w more).reply ≡ (for_held x z again).reply
  held-same None more again same = refl
  held-same (Some None) more again same = refl
  held-same (Some (Some h)) more again same = same h

-- ---- acts and admin steps

put-back-reply : (r : Reply) (p : Private) (o : Owner) (w : World) → (act_put_back r p o w).reply ≡ r
put-back-reply reply.Done p o w = refl
put-back-reply (reply.Bytes bytes) p o w = refl
put-back-reply reply.Idle p o w = refl
put-back-reply reply.Busy p o w = refl
put-back-reply reply.Held p o w = refl
put-back-reply reply.Stale p o w = refl
put-back-reply reply.Unmapped p o w = refl
put-back-reply reply.Ignored p o w = refl
put-back-reply reply.NoMemory p o w = refl

either-act : (b : Bool) (x y u v : Acted) → x.reply ≡ y.reply → u.reply ≡ v.reply → (cond b x u).reply ≡ (cond b y v).reply
either-act true x y u v one other = one
either-act false x y u v one other = other

controlled-same : (c : Option Controller) (p q : Private) → (controlled c p).reply ≡ (controlled c q).reply
controlled-same None p q = refl
controlled-same (Some c) p q = refl

register-same : (value : Option ℕ) (p q : Private) → (register_replied value p).reply ≡ (register_replied value q).reply
register-same None p q = refl
register-same (Some value) p q = refl

-- an act is answered by memory and controller alone
pub acted-same : (shape : Shape) (a : Act) (p q : Private) → p.memory ≡ q.memory → p.controller ≡ q.controller
    → (acted shape a p).reply ≡ (acted shape a q).reply
acted-same shape (act.Store addr bytes) p q memory controller = either-act (everywhere shape.mapped addr (length bytes)) _ _ _ _ refl refl
acted-same shape (act.Load addr len) p q memory controller =
    either-act (everywhere shape.mapped addr len) _ _ _ _ (ap (λ m. reply.Bytes (bytes_from m addr len)) memory) refl
acted-same shape (act.RegRead offset) p q memory controller =
    register-same (reg_read p.controller offset) p q ∙ ap (λ c. (register_replied (reg_read c offset) q).reply) controller
acted-same shape (act.RegWrite offset value) p q memory controller =
    controlled-same (reg_write shape.mapped p.controller offset value) p q
    ∙ ap (λ c. (controlled (reg_write shape.mapped c offset value) q).reply) controller
acted-same shape (act.Doorbell offset value) p q memory controller =
    controlled-same (doorbell p.controller offset value) p q ∙ ap (λ c. (controlled (doorbell c offset value) q).reply) controller

administered-same : (x : AdminStep) (o : Owner) (w z : World) → (administered_by x o w).reply ≡ (administered_by x o z).reply
administered-same NothingToDo o w z = refl
administered-same QueueFull o w z = refl
administered-same (Stepped c memory) o w z = refl

-- ---- tags

-- what is held under it
pub held-alike : (number : ℕ) (t u : Option Tag) (g h : Option Held) → own_held number t g ≡ own_held number u h → t ≡ u → is_tag_of number t ≡ true → g ≡ h
held-alike number t u g h same tags own =
    sym (ap (λ b. cond b g None) own) ∙ same ∙ ap (λ x. own_held number x h) (sym tags) ∙ ap (λ b. cond b h None) own

-- ---- the events

module _ (geometry : Geometry) (w z : World) (number : ℕ) (guest : Guest) (given : slice_get geometry.guests number ≡ Some guest)
    (alike : IsAlike number guest geometry w z) where
  pub memory : image (regions_of guest) w.host ≡ image (regions_of guest) z.host
  memory = fun_ext (λ addr. alike.view.memory addr)

  abbrev pub own : Controller → Owner
  own c = record { number = number; given = guest; controller = c }

  -- its owner is the same
  pub by-guest : (n : ℕ) → n ≡ number → (v : World) → owner_of geometry v n ≡ owner_by number (Some guest) (slice_get v.controllers number)
  by-guest n same v =
      ap (λ m. owner_of geometry v m) same ∙ ap (λ g. owner_by number g (slice_get v.controllers number)) given

  pub by-controller : (n : ℕ) → n ≡ number → owner_of geometry w n ≡ owner_by number (Some guest) (slice_get z.controllers number)
  by-controller n same = by-guest n same w ∙ ap (owner_by number (Some guest)) alike.view.controller

  guest-same : (n : ℕ) → n ≡ number → (more again : Owner → After) → ((c : Controller) → (more (own c)).reply ≡ (again (own c)).reply)
      → (for_one (owner_of geometry w n) w more).reply ≡ (for_one (owner_of geometry z n) z again).reply
  guest-same n same more again replies =
      ap (λ o. (for_one o w more).reply) (by-controller n same)
      ∙ by_there (slice_get z.controllers number)
      ∙ sym (ap (λ o. (for_one o z again).reply) (by-guest n same z))
    where
      by_there : (c : Option Controller) → (for_one (owner_by number (Some guest) c) w more).reply ≡ (for_one (owner_by number (Some guest) c) z again).reply
      by_there None = refl
      by_there (Some c) = replies c

  owner-same : (n : ℕ) → n ≡ number → (more again : Owner → After) → ((c : Controller) → (more (own c)).reply ≡ (again (own c)).reply)
      → (for_owner (owner_of geometry w n) w more).reply ≡ (for_owner (owner_of geometry z n) z again).reply
  owner-same n same more again replies =
      ap (λ o. (for_owner o w more).reply) (by-controller n same)
      ∙ by_there (slice_get z.controllers number)
      ∙ sym (ap (λ o. (for_owner o z again).reply) (by-guest n same z))
    where
      by_there : (c : Option Controller) → (for_owner (owner_by number (Some guest) c) w more).reply ≡ (for_owner (owner_by number (Some guest) c) z again).reply
      by_there None = refl
      by_there (Some c) = replies c

  -- the shared numbers of a lane
  pub lanes-same : (lane : ℕ) → option_map lane_numbers (slice_get w.lanes lane) ≡ option_map lane_numbers (slice_get z.lanes lane)
  unfolding shared_numbers
  lanes-same lane =
      sym (slice_get-map lane_numbers w.lanes lane) ∙ ap (λ n. slice_get n.lanes lane) alike.shared ∙ slice_get-map lane_numbers z.lanes lane

  pub rings-same : (lane : ℕ) → option_map ring_numbers (slice_get w.device lane) ≡ option_map ring_numbers (slice_get z.device lane)
  unfolding shared_numbers
  rings-same lane =
      sym (slice_get-map ring_numbers w.device lane) ∙ ap (λ n. slice_get n.rings lane) alike.shared ∙ slice_get-map ring_numbers z.device lane

  -- its tags
  pub tag-here : (lane tag : ℕ) → guest_of_one (tag_of w lane tag) ≡ Some number → tag_of w lane tag ≡ tag_of z lane tag
  tag-here lane tag mine =
      tag-same number (tag_of w lane tag) (tag_of z lane tag) (alike.view.tags lane tag) (tag-own number (tag_of w lane tag) mine)

  -- what the device holds of them
  pub slot-here : (lane slot : ℕ) (d e : DeviceLane) → slice_get w.device lane ≡ Some d → slice_get z.device lane ≡ Some e → ring_numbers d ≡ ring_numbers e
      → guest_of_one (tag_of w lane slot) ≡ Some number → slice_get d.held slot ≡ slice_get e.held slot
  slot-here lane slot d e there again numbers mine =
      let held = held-alike number (tag_of w lane slot) (tag_of z lane slot) _ _ (alike.view.held lane slot) (tag-here lane slot mine) (tag-own number (tag_of w lane slot) mine) in
      same-slot d.held e.held slot (ap (λ n. n.slots) numbers)
      (sym (ap (λ o. held_in o slot) there) ∙ held ∙ ap (λ o. held_in o slot) again)

  act-replies : (n : ℕ) (a : Act) → n ≡ number → (step geometry (event.Guest n a) w).reply ≡ (step geometry (event.Guest n a) z).reply
  unfolding step acted_in seat
  act-replies n a same =
      guest-same n same (λ o. acted_in geometry a o w) (λ o. acted_in geometry a o z)
      (λ c.
      put-back-reply _ _ (own c) w
      ∙ acted-same (shape_of guest) a (seat geometry (own c) w) (seat geometry (own c) z) memory refl
      ∙ sym (put-back-reply _ _ (own c) z))

  admin-replies : (n : ℕ) → n ≡ number → (step geometry (event.Admin n) w).reply ≡ (step geometry (event.Admin n) z).reply
  unfolding step administered_in
  admin-replies n same =
      guest-same n same (λ o. administered_in o w) (λ o. administered_in o z)
      (λ c.
      administered-same (admin (shape_of guest).mapped (shape_of guest).blocks c (image (regions_of guest) w.host)) (own c) w z
      ∙ ap (λ m. (administered_by (admin (shape_of guest).mapped (shape_of guest).blocks c m) (own c) z).reply) memory)

  tags-replies : (t u : Option (List ℕ)) (addr queue lane : ℕ) (o : Owner) → t ≡ u
      → (take_tags t addr queue lane o w).reply ≡ (take_tags u addr queue lane o z).reply
  tags-replies t u addr queue lane o same = by_tags t ∙ ap (λ x. (take_tags x addr queue lane o z).reply) same
    where
      by_tags : (x : Option (List ℕ)) → (take_tags x addr queue lane o w).reply ≡ (take_tags x addr queue lane o z).reply
      by_tags None = refl
      by_tags (Some tags) = refl

  -- its entry wants the same tags
  pub entry-same : (addr : ℕ) (c : Controller) → entry_at addr (own c) w ≡ entry_at addr (own c) z
  entry-same addr c = ap (λ m. bytes_from m addr sqe_size) memory

  front-replies : (at : Option ℕ) (queue lane : ℕ) (l m : Lane) (c : Controller) → map is_free l.tags ≡ map is_free m.tags
      → (take_front at queue lane l (own c) w).reply ≡ (take_front at queue lane m (own c) z).reply
  front-replies None queue lane l m c same = refl
  front-replies (Some addr) queue lane l m c same =
      tags-replies _ _ addr queue lane (own c)
      (claimed-same (tags_of_entry guest.namespace (entry_at addr (own c) w)) l.tags m.tags same
      ∙ ap (λ e. claimed (tags_of_entry guest.namespace e) m.tags) (entry-same addr c))

  take-replies : (n queue lane : ℕ) → n ≡ number → (step geometry (event.Take n queue lane) w).reply ≡ (step geometry (event.Take n queue lane) z).reply
  unfolding step
  take-replies n queue lane same =
      guest-same n same (λ o. for_one (slice_get w.lanes lane) w (λ l. take_from queue lane l o w))
      (λ o. for_one (slice_get z.lanes lane) z (λ l. take_from queue lane l o z))
      (λ c.
      lane-same w z (slice_get w.lanes lane) (slice_get z.lanes lane) (lanes-same lane) (λ l. take_from queue lane l (own c) w) (λ l. take_from queue lane l (own c) z)
      (λ l m numbers.
      either-same (is_io_queue queue) _ _ _ _
      (front-replies (front c queue) queue lane l m c (ap (λ n. n.free) numbers)) refl))

  list-replies : (lane tag addr len : ℕ) → guest_of_one (tag_of w lane tag) ≡ Some number
      → (step geometry (event.List lane tag addr len) w).reply ≡ (step geometry (event.List lane tag addr len) z).reply
  unfolding step listed
  list-replies lane tag addr len mine =
      taken-same w z number tag (tag_of w lane tag) mine
      (λ command reads. for_owner (owner_of geometry w command.guest) w (λ o. list_at addr len lane tag command reads o w))
      (λ command reads. for_owner (owner_of geometry z command.guest) z (λ o. list_at addr len lane tag command reads o z))
      (λ command reads whose.
      owner-same command.guest whose (λ o. list_at addr len lane tag command reads o w) (λ o. list_at addr len lane tag command reads o z)
      (λ c.
      either-same (all_mapped (regions_of guest) addr len) _ _ _ _
      (either-same (nat_le 1 len && nat_le len part_size) _ _ _ _ (ap (λ m. reply.Bytes (bytes_from m addr len)) memory) refl) refl))
      ∙ ap (λ t. (for_taken tag t z (λ command reads. for_owner (owner_of geometry z command.guest) z (λ o. list_at addr len lane tag command reads o z))).reply) (tag-here lane tag mine)

  outcome-replies : (x : Outcome Plan) (lane : ℕ) (tags others : List ℕ) (command : Command) (o : Owner)
      → (submit_by x geometry.mediator lane tags command o w).reply ≡ (submit_by x geometry.mediator lane others command o z).reply
  outcome-replies (Wanted addr len) lane tags others command o = refl
  outcome-replies (Settled plan) lane tags others command o = refl

  submit-replies : (lane tag : ℕ) → guest_of_one (tag_of w lane tag) ≡ Some number
      → (step geometry (event.Submit lane tag) w).reply ≡ (step geometry (event.Submit lane tag) z).reply
  unfolding step
  submit-replies lane tag mine =
      taken-same w z number tag (tag_of w lane tag) mine
      (λ command reads.
      for_owner (owner_of geometry w command.guest) w (λ o. for_one (slice_get w.device lane) w (λ d.
      submit_by (plan_over o.given command.entry reads) geometry.mediator lane (group w lane tag) command o w)))
      (λ command reads.
      for_owner (owner_of geometry z command.guest) z (λ o. for_one (slice_get z.device lane) z (λ d.
      submit_by (plan_over o.given command.entry reads) geometry.mediator lane (group z lane tag) command o z)))
      (λ command reads whose.
      owner-same command.guest whose _ _
      (λ c.
      device-same w z (slice_get w.device lane) (slice_get z.device lane) (rings-same lane) _ _
      (λ d e there again numbers. outcome-replies (plan_over guest command.entry reads) lane (group w lane tag) (group z lane tag) command (own c))))
      ∙ ap (λ t. (for_taken tag t z (λ command reads.
      for_owner (owner_of geometry z command.guest) z (λ o. for_one (slice_get z.device lane) z (λ d.
      submit_by (plan_over o.given command.entry reads) geometry.mediator lane (group z lane tag) command o z)))).reply)
      (tag-here lane tag mine)

  give-up-replies : (lane tag : ℕ) → guest_of_one (tag_of w lane tag) ≡ Some number
      → (step geometry (event.GiveUp lane tag) w).reply ≡ (step geometry (event.GiveUp lane tag) z).reply
  unfolding step
  give-up-replies lane tag mine =
      taken-same w z number tag (tag_of w lane tag) mine _ _ (λ command reads whose. refl)
      ∙ ap (λ t. (for_taken tag t z (λ command reads. replied reply.Done (ended_at_once lane (group z lane tag) command (done_with InternalError) z))).reply) (tag-here lane tag mine)

  device-take-replies : (lane : ℕ) → (step geometry (event.DevTake lane) w).reply ≡ (step geometry (event.DevTake lane) z).reply
  unfolding step
  device-take-replies lane =
      device-same w z (slice_get w.device lane) (slice_get z.device lane) (rings-same lane) _ _
      (λ d e there again numbers.
      tests-same (is_empty d.head d.tail) (is_empty e.head e.tail) _ _ _ _ (ap (λ n. is_empty n.head n.tail) numbers) refl refl)

  -- an event of a slot whose command is in the device
  slot-replies : (lane slot : ℕ) (more again : DeviceLane → Held → After) → guest_of_one (tag_of w lane slot) ≡ Some number
      → ((d e : DeviceLane) (h : Held) → (more d h).reply ≡ (again e h).reply)
      → (for_one (slice_get w.device lane) w (λ d. for_held (slice_get d.held slot) w (more d))).reply
      ≡ (for_one (slice_get z.device lane) z (λ d. for_held (slice_get d.held slot) z (again d))).reply
  slot-replies lane slot more again mine replies =
      device-same w z (slice_get w.device lane) (slice_get z.device lane) (rings-same lane) _ _
      (λ d e there behind numbers.
      held-same w z (slice_get d.held slot) (more d) (again e) (replies d e)
      ∙ ap (λ x. (for_held x z (again e)).reply) (slot-here lane slot d e there behind numbers mine))

  post-replies-by : (left : List ℕ) (lane slot : ℕ) (h : Held) (d e : DeviceLane)
      → (device_post left geometry.mediator lane slot h d w).reply ≡ (device_post left geometry.mediator lane slot h e z).reply
  post-replies-by [] lane slot h d e = refl
  post-replies-by (k ∷ left) lane slot h d e = refl

  reap-replies : (lane : ℕ) → (step geometry (event.Reap lane) w).reply ≡ (step geometry (event.Reap lane) z).reply
  unfolding step
  reap-replies lane =
      lane-same w z (slice_get w.lanes lane) (slice_get z.lanes lane) (lanes-same lane) _ _
      (λ l m of_lane.
      device-same w z (slice_get w.device lane) (slice_get z.device lane) (rings-same lane) _ _
      (λ d e there again numbers.
      tests-same (is_empty l.head d.posted) (is_empty m.head e.posted) _ _ _ _
      (ap (λ n. is_empty n.head d.posted) of_lane ∙ ap (λ n. is_empty m.head n.posted) numbers) refl refl))

  posted-replies : (x : Option Posted) (st : StatusField) (lane : ℕ) (tags others : List ℕ) (o : Owner)
      → (post_by x st geometry.mediator lane tags o w).reply ≡ (post_by x st geometry.mediator lane others o z).reply
  posted-replies None st lane tags others o = refl
  posted-replies (Some posted) st lane tags others o = refl

  all-replies : (sts : Option (List StatusField)) (command : Command) (lane : ℕ) (tags others : List ℕ) (c : Controller)
      → (post_all sts command geometry.mediator lane tags (own c) w).reply ≡ (post_all sts command geometry.mediator lane others (own c) z).reply
  all-replies None command lane tags others c = refl
  all-replies (Some sts) command lane tags others c =
      either-same (is_enabled c) _ _ _ _
      (posted-replies (post c command.queue 0 (cid_of command.entry) (deciding sts)) (deciding sts) lane tags others (own c)) refl

  abbrev post_after : World → (lane tag : ℕ) → Command → After
  post_after v lane tag command =
      for_owner (owner_of geometry v command.guest) v
      (λ o. post_all (statuses_of lane (group v lane tag) v) command geometry.mediator lane (group v lane tag) o v)

  -- its command's tags are the same, and so have they ended
  pub group-same : GoesByItsOwn number w → GoesByItsOwn number z → (lane leader : ℕ) → is_tag_of number (tag_of w lane leader) ≡ true
      → group w lane leader ≡ group z lane leader
  group-same one two lane leader mine = groups-alike number w z lane leader (alike.view.tags lane) (lanes-same lane) one two mine

  pub statuses-same : GoesByItsOwn number w → GoesByItsOwn number z → (lane tag : ℕ) → is_tag_of number (tag_of w lane tag) ≡ true
      → statuses_of lane (group w lane tag) w ≡ statuses_of lane (group z lane tag) z
  statuses-same one two lane tag mine =
      statuses-alike number w z lane (alike.view.tags lane) (group w lane tag) (group-mine number w lane tag one mine)
      ∙ ap (λ tags. statuses_of lane tags z) (group-same one two lane tag mine)

  post-replies : GoesByItsOwn number w → GoesByItsOwn number z → (lane tag : ℕ) → guest_of_one (tag_of w lane tag) ≡ Some number
      → (step geometry (event.Post lane tag) w).reply ≡ (step geometry (event.Post lane tag) z).reply
  unfolding step
  post-replies one two lane tag mine =
      ended-same w z number tag (tag_of w lane tag) mine (post_after w lane tag) (post_after z lane tag)
      (λ command whose.
      owner-same command.guest whose _ _
      (λ c.
      all-replies (statuses_of lane (group w lane tag) w) command lane (group w lane tag) (group z lane tag) c
      ∙ ap (λ sts. (post_all sts command geometry.mediator lane (group z lane tag) (own c) z).reply)
      (statuses-same one two lane tag (tag-own number (tag_of w lane tag) mine))))
      ∙ ap (λ t. (for_ended tag t z (post_after z lane tag)).reply) (tag-here lane tag mine)

  pub replies-same : GoesByItsOwn number w → GoesByItsOwn number z → (e : Event) → owner e w ≡ Some number → (step geometry e w).reply ≡ (step geometry e z).reply
  unfolding step
  replies-same one two (event.Guest n a) mine = act-replies n a (some-same n number mine)
  replies-same one two (event.Admin n) mine = admin-replies n (some-same n number mine)
  replies-same one two (event.Take n queue lane) mine = take-replies n queue lane (some-same n number mine)
  replies-same one two (event.List lane tag addr len) mine = list-replies lane tag addr len mine
  replies-same one two (event.Submit lane tag) mine = submit-replies lane tag mine
  replies-same one two (event.GiveUp lane tag) mine = give-up-replies lane tag mine
  replies-same one two (event.DevTake lane) mine = device-take-replies lane
  replies-same one two (event.DevMove lane slot k) mine =
      slot-replies lane slot (λ d h. device_move geometry.disk_blocks lane slot k h w) (λ d h. device_move geometry.disk_blocks lane slot k h z) mine
      (λ d e h. either-same (list_any (λ other. other == k) h.left) _ _ _ _ refl refl)
  replies-same one two (event.DevPost lane slot) mine =
      slot-replies lane slot (λ d h. device_post h.left geometry.mediator lane slot h d w) (λ d h. device_post h.left geometry.mediator lane slot h d z) mine
      (λ d e h. post-replies-by h.left lane slot h d e)
  replies-same one two (event.DevFail lane slot st) mine =
      slot-replies lane slot (λ d h. device_fail geometry.mediator lane slot st d w) (λ d h. device_fail geometry.mediator lane slot st d z) mine
      (λ d e h. either-same (is_success st) _ _ _ _ refl refl)
  replies-same one two (event.Keep block) mine = cc
  replies-same one two (event.Reap lane) mine = reap-replies lane
  replies-same one two (event.Post lane tag) mine = post-replies one two lane tag mine
