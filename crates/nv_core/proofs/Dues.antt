-- Which events are due, by what is looked at.
use Rattle.std.proofs.Common.{◌≡◌, ℕ, ◌<◌, Bool, true, false, cond, not, ◌&&◌, ◌==◌, List, [], ◌∷◌, get_or, length, slice_get, Option, Some, None, is_some}
use Rattle.std.proofs.Common.{refl, sym, ap, ◌∙◌, arith}
use Rattle.std.specs.List.{list_any}
use Rattle.nv_admin.specs.Event.{is_stepped}
use Rattle.nv_core.specs.Groups.{statuses_in}
use Rattle.nv_core.proofs.KeptStates.{IsKeptOf}
use Rattle.nv_laws_sound.proofs.Tails.{length-tails}
use Rattle.nv_core.specs.State.{IsOf, IsStep, State, world_of}
use Rattle.nv_core.specs.Tags.{unended, unled}
use Rattle.nv_core.specs.Take.{is_front_takeable}
use Rattle.nv_core.proofs.DeviceNeeds.{has-sides, holding-at}
use Rattle.nv_core.proofs.DeviceSteps.{after, none-held, some-held}
use Rattle.nv_core.proofs.GroupWorlds.{IsEndedHere, ended-found, ended-step, group-lane, looked-up, not-ended, statuses-lane}
use Rattle.nv_core.proofs.Placed.{admin-there, owner, owner-there}
use Rattle.nv_core.proofs.Reaps.{slice_get-or}
use Rattle.nv_core.proofs.Takes.{take-step}
use Rattle.nv_device.specs.Physical.{has_ended, has_left, held_at, is_over, lane_of, no_lane}
use Rattle.nv_device.specs.Taking.{waits}
use Rattle.nv_device.specs.Units.{IsLowest}
use Rattle.nv_entry.specs.Status.{StatusField}
use Rattle.nv_entry.specs.Submission.{cid_of}
use Rattle.nv_laws_sound.proofs.Lists.{some-same}
use Rattle.nv_mem.specs.GuestMap.{mapped}
use Rattle.nv_model.specs.Admin.{AdminStep, NothingToDo, QueueFull, Stepped, admin}
use Rattle.nv_model.specs.Controller.{Controller, Posted, front, is_enabled, post}
use Rattle.nv_model.specs.Memory.{byte_in, bytes_from, image}
use Rattle.nv_model.specs.Queue.{is_empty, sqe_size}
use Rattle.nv_model.specs.declared.reply.Reply.{Reply}
use Rattle.nv_model.specs.declared.reply.Reply.TheVariants as reply
use Rattle.nv_ns.specs.Extents.{Namespace}
use Rattle.nv_world_model.proofs.TagCounts.{tags_of_entry-some}
use Rattle.nv_world_model.specs.Area.{tag_count}
use Rattle.nv_world_model.specs.Device.{DeviceLane, Held}
use Rattle.nv_world_model.specs.Geometry.{Geometry, Guest, regions_of, shape_of}
use Rattle.nv_world_model.specs.Seat.{Owner, owner_by, owner_of}
use Rattle.nv_world_model.specs.Share.{tags_of_entry}
use Rattle.nv_world_model.specs.Step.{After, administered_by, deciding, device_move, device_post, device_take, for_one, for_owner}
use Rattle.nv_world_model.specs.Due.{due}
use Rattle.nv_world_model.specs.Step.{is_done, is_io_queue, post_all, post_by, reap, replied, statuses_of, step, take_from, take_front, take_tags}
use Rattle.nv_world_model.specs.Due.{is_due_kind}
use Rattle.nv_world_model.specs.World.{Command, Ended, Flying, Free, Lane, Tag, Taken, World, claimed, group, group_in, tag_of}
use Rattle.nv_world_model.specs.declared.event.Event.{Event}
use Rattle.nv_world_model.specs.declared.event.Event.TheVariants as event

-- ---- by the reply

pub due-by : (geometry : Geometry) (e : Event) (w : World) (a : After) → step geometry e w ≡ a → due geometry e w ≡ (is_due_kind e && is_done a.reply)
unfolding due
due-by geometry e w a is = ap (λ (x : After). is_due_kind e && is_done x.reply) is

-- an event that was carried out
pub due-told : (geometry : Geometry) (e : Event) (s t : State) (r : Reply) → IsStep geometry e s r t → due geometry e (world_of s) ≡ (is_due_kind e && is_done r)
due-told geometry e s t r is = due-by geometry e (world_of s) (after (world_of t) r) (sym is.after)

idle-or-done : (b : Bool) (w v : World) → is_done (cond b (replied reply.Idle w) (replied reply.Done v)).reply ≡ not b
idle-or-done true w v = refl
idle-or-done false w v = refl

done-or-idle : (b : Bool) (w v : World) → is_done (cond b (replied reply.Done v) (replied reply.Idle w)).reply ≡ b
done-or-idle true w v = refl
done-or-idle false w v = refl

-- ---- the physical controller

module _ (geometry : Geometry) (s : State) (is : IsOf geometry s) (lane : ℕ) (below : lane < length s.device.lanes) where
  pub dev_take-due : due geometry (event.DevTake lane) (world_of s) ≡ waits lane s.device
  unfolding step
  dev_take-due =
      let sides = has-sides geometry s lane is below in
      due-by geometry (event.DevTake lane) (world_of s) (device_take geometry.mediator lane sides.d (world_of s))
      (ap (λ (o : Option DeviceLane). for_one o (world_of s) (λ d. device_take geometry.mediator lane d (world_of s))) sides.at_device)
      ∙ idle-or-done (is_empty sides.d.head sides.d.tail) (world_of s) _
      ∙ ap (λ (d : DeviceLane). not (is_empty d.head d.tail)) (sym sides.seen)

  module _ (slot : ℕ) (slot_below : slot < tag_count) where
    abbrev moves : (number : ℕ) → Held → DeviceLane → After
    moves number h d = device_move geometry.disk_blocks lane slot number h (world_of s)

    abbrev posts : Held → DeviceLane → After
    posts h d = device_post h.left geometry.mediator lane slot h d (world_of s)

    pub dev_move-due : (number : ℕ) → due geometry (event.DevMove lane slot number) (world_of s) ≡ has_left number (held_at s.device lane slot)
    unfolding step
    dev_move-due number = by_held (held_at s.device lane slot) refl
      where
        by_held : (o : Option Held) → held_at s.device lane slot ≡ o
            → due geometry (event.DevMove lane slot number) (world_of s) ≡ has_left number (held_at s.device lane slot)
        by_held None e =
            due-by geometry (event.DevMove lane slot number) (world_of s) (replied reply.Idle (world_of s)) (none-held geometry s is lane slot (moves number) below slot_below e)
            ∙ sym (ap (has_left number) e)
        by_held (Some h) e =
            let a = holding-at geometry s lane slot h is below e in
            due-by geometry (event.DevMove lane slot number) (world_of s) (moves number h a.sides.d) (some-held geometry s is lane slot (moves number) h a)
            ∙ done-or-idle (list_any (λ k. k == number) h.left) (world_of s) _
            ∙ sym (ap (has_left number) e)

    over-done : (left : List ℕ) (h : Held) (d : DeviceLane) → is_done (device_post left geometry.mediator lane slot h d (world_of s)).reply ≡ is_over left
    over-done [] h d = refl
    over-done (k ∷ left) h d = refl

    pub dev_post-due : due geometry (event.DevPost lane slot) (world_of s) ≡ has_ended (held_at s.device lane slot)
    unfolding step
    dev_post-due = by_held (held_at s.device lane slot) refl
      where
        by_held : (o : Option Held) → held_at s.device lane slot ≡ o
            → due geometry (event.DevPost lane slot) (world_of s) ≡ has_ended (held_at s.device lane slot)
        by_held None e =
            due-by geometry (event.DevPost lane slot) (world_of s) (replied reply.Idle (world_of s)) (none-held geometry s is lane slot posts below slot_below e)
            ∙ sym (ap has_ended e)
        by_held (Some h) e =
            let a = holding-at geometry s lane slot h is below e in
            due-by geometry (event.DevPost lane slot) (world_of s) (posts h a.sides.d) (some-held geometry s is lane slot posts h a)
            ∙ over-done h.left h a.sides.d
            ∙ sym (ap has_ended e)

-- the lowest of numbers that pass the one test is that of those that pass the other
pub lowest-same : (test other : ℕ → Bool) (o : Option ℕ) → ((k : ℕ) → other k ≡ test k) → IsLowest test o → IsLowest other o
lowest-same test other None same none = λ k. same k ∙ none k
lowest-same test other (Some number) same lowest = (same number ∙ lowest.0, λ k below. same k ∙ lowest.1 k below)

-- ---- Reap

pub reap-due : (geometry : Geometry) (s : State) (is : IsKeptOf geometry s) (lane i : ℕ) (l : Lane) → i ≡ lane → i < length s.lanes → l ≡ get_or s.lanes i l
    → due geometry (event.Reap lane) (world_of s) ≡ not (l.head == (lane_of s.device lane).posted)
unfolding step
reap-due geometry s is lane i l at below has =
    let w = world_of s in
    let d = lane_of s.device lane in
    let found = looked-up s.lanes lane i l at below has in
    let there : slice_get s.device.lanes lane ≡ Some d = slice_get-or s.device.lanes lane no_lane (let many = is.kept.many in let sides = length-tails s.device.lanes in omega (arith, many, sides, at, below)) in
    due-by geometry (event.Reap lane) w (reap geometry lane l d w)
    (ap (λ (x : Option Lane). for_one x w (λ k. for_one (slice_get w.device lane) w (λ e. reap geometry lane k e w))) found
    ∙ ap (λ (x : Option DeviceLane). for_one x w (λ e. reap geometry lane l e w)) there)
    ∙ idle-or-done (is_empty l.head d.posted) w _

-- ---- Take

module _ (geometry : Geometry) (s : State) (number queue lane : ℕ) (guest : Guest) (c : Controller) (l : Lane)
    (there : slice_get geometry.guests number ≡ Some guest) (found : slice_get s.controllers number ≡ Some c)
    (found_lane : slice_get s.lanes lane ≡ Some l) where
  tagged : (t : Option (List ℕ)) (addr : ℕ) → is_done (take_tags t addr queue lane (owner number guest c) (world_of s)).reply ≡ is_some t
  tagged None addr = refl
  tagged (Some tags) addr = refl

  fronted : (f : Option ℕ) → is_done (take_front f queue lane l (owner number guest c) (world_of s)).reply
      ≡ is_front_takeable f guest.namespace (image (regions_of guest) (byte_in s.host)) l.tags
  fronted None = refl
  fronted (Some addr) = tagged (claimed (tags_of_entry guest.namespace (bytes_from (image (regions_of guest) (byte_in s.host)) addr sqe_size)) l.tags) addr

  pub take-due : is_io_queue queue ≡ true → due geometry (event.Take number queue lane) (world_of s)
      ≡ is_front_takeable (front c queue) guest.namespace (image (regions_of guest) (byte_in s.host)) l.tags
  take-due e =
      let w = world_of s in
      let o = owner number guest c in
      due-by geometry (event.Take number queue lane) w (take_from queue lane l o w)
      (take-step geometry number queue lane o l w (owner-there geometry w number guest c there found) found_lane)
      ∙ ap (λ (b : Bool). is_done (cond b (take_front (front c queue) queue lane l o w) (replied reply.Ignored w)).reply) e
      ∙ fronted (front c queue)

-- where a guest has one extent, a command wants one tag
pub one-takeable : (ns : Namespace) (f : Option ℕ) (memory : ℕ → ℕ) (tags : List Tag) → length ns ≡ 1
    → (is_some f && is_some (claimed 1 tags)) ≡ is_front_takeable f ns memory tags
one-takeable ns None memory tags one = refl
one-takeable ns (Some addr) memory tags one =
    let entry = bytes_from memory addr sqe_size in
    let few = tags_of_entry-some ns entry (omega (arith, one)) in
    let count : 1 ≡ tags_of_entry ns entry = omega (arith, one, few) in
    ap (λ (n : ℕ). is_some (claimed n tags)) count

-- ---- Post

-- what is told of an option
pub none-by : {X : Type 0} (o : Option X) (b : Bool) → b ≡ is_some o → b ≡ false → o ≡ None
none-by None b is e = refl
none-by (Some x) b is e = let bad : true ≡ false = sym is ∙ e in cc

-- what is not ended is not due
untold : (tag : ℕ) (command : Command) (r : Reply) → unled tag command ≡ Some r → is_done r ≡ false
untold tag command r e = by (command.leader == tag) e
  where
    by : (b : Bool) → cond b None (Some reply.Stale) ≡ Some r → is_done r ≡ false
    by true e = cc
    by false e = ap is_done (sym (some-same reply.Stale r e))

unended-told : (tag : ℕ) (t : Option Tag) (r : Reply) → unended tag t ≡ Some r → is_done r ≡ false
unended-told tag None r e = ap is_done (sym (some-same reply.Ignored r e))
unended-told tag (Some Free) r e = ap is_done (sym (some-same reply.Stale r e))
unended-told tag (Some (Taken command reads)) r e = ap is_done (sym (some-same reply.Stale r e))
unended-told tag (Some (Flying command share at)) r e = ap is_done (sym (some-same reply.Stale r e))
unended-told tag (Some (Ended command st share)) r e = untold tag command r e

pub post-not : (geometry : Geometry) (s : State) (lane tag : ℕ) (u : Option Reply) → u ≡ unended tag (tag_of (world_of s) lane tag) → is_some u ≡ true
    → due geometry (event.Post lane tag) (world_of s) ≡ false
unfolding step
post-not geometry s lane tag None is e = cc
post-not geometry s lane tag (Some r) is e =
    let w = world_of s in
    due-by geometry (event.Post lane tag) w (replied r w) (not-ended tag (tag_of w lane tag) r w _ (sym is))
    ∙ unended-told tag (tag_of w lane tag) r (sym is)

module _ (geometry : Geometry) (s : State) (lane tag i : ℕ) (l : Lane) (t : IsEndedHere s.lanes lane tag) (at : i ≡ lane) (has : l ≡ get_or s.lanes i l)
    (b : Bool) (told : b ≡ is_some (statuses_in (group_in (Some l) tag) l)) where
  abbrev at_post : Option (List StatusField) → Owner → After
  at_post sts o = post_all sts t.command geometry.mediator lane (group (world_of s) lane tag) o (world_of s)

  -- the event of it, by the statuses of its tags
  post-step : step geometry (event.Post lane tag) (world_of s)
      ≡ for_owner (owner_of geometry (world_of s) t.command.guest) (world_of s) (at_post (statuses_in (group_in (Some l) tag) l))
  unfolding step
  post-step =
      let w = world_of s in
      let found = ended-found s.lanes lane tag t i l at has in
      ended-step w lane tag t (λ command. for_owner (owner_of geometry w command.guest) w (λ o.
      (let tags = group w lane tag in post_all (statuses_of lane tags w) command geometry.mediator lane tags o w)))
      ∙ ap (λ (sts : Option (List StatusField)). for_owner (owner_of geometry w t.command.guest) w (at_post sts))
      (ap (λ (tags : List ℕ). statuses_of lane tags w) (group-lane w lane tag l found) ∙ statuses-lane lane (group_in (Some l) tag) w l found)

  -- some tag has not ended
  pub post-waits : b ≡ false → due geometry (event.Post lane tag) (world_of s) ≡ false
  post-waits none = by (statuses_in (group_in (Some l) tag) l) refl
    where
      stale : (o : Option Owner) → is_done (for_owner o (world_of s) (at_post None)).reply ≡ false
      stale None = refl
      stale (Some o) = refl

      by : (sts : Option (List StatusField)) → statuses_in (group_in (Some l) tag) l ≡ sts → due geometry (event.Post lane tag) (world_of s) ≡ false
      by None is =
          due-by geometry (event.Post lane tag) (world_of s) (for_owner (owner_of geometry (world_of s) t.command.guest) (world_of s) (at_post None))
          (post-step ∙ ap (λ (sts : Option (List StatusField)). for_owner (owner_of geometry (world_of s) t.command.guest) (world_of s) (at_post sts)) is)
          ∙ stale (owner_of geometry (world_of s) t.command.guest)
      by (Some sts) is =
          let bad : true ≡ false = sym (told ∙ ap is_some is) ∙ none in cc

  -- nobody's command
  pub post-nobody : slice_get geometry.guests t.command.guest ≡ None → due geometry (event.Post lane tag) (world_of s) ≡ false
  post-nobody none =
      let w = world_of s in
      due-by geometry (event.Post lane tag) w (replied reply.Stale w)
      (post-step ∙ ap (λ (g : Option Guest). for_owner (owner_by t.command.guest g (slice_get w.controllers t.command.guest)) w
      (at_post (statuses_in (group_in (Some l) tag) l))) none)

  module _ (guest : Guest) (c : Controller) (there : slice_get geometry.guests t.command.guest ≡ Some guest)
      (found : slice_get s.controllers t.command.guest ≡ Some c) where
    posted : (f : Option Posted) (st : StatusField) (tags : List ℕ) (o : Owner) → is_done (post_by f st geometry.mediator lane tags o (world_of s)).reply ≡ is_some f
    posted None st tags o = refl
    posted (Some p) st tags o = refl

    by_enabled : (b : Bool) (x y : After) (r : Bool) → is_done x.reply ≡ r → is_done y.reply ≡ true → is_done (cond b x y).reply ≡ cond b r true
    by_enabled true x y r e f = e
    by_enabled false x y r e f = f

    -- all have ended
    pub post-due : b ≡ true → (may : Bool)
        → ((cid : ℕ) (st : StatusField) → may ≡ cond (is_enabled c) (is_some (post c t.command.queue 0 cid st)) true)
        → may ≡ due geometry (event.Post lane tag) (world_of s)
    post-due some may tells = by (statuses_in (group_in (Some l) tag) l) refl
      where
        by : (sts : Option (List StatusField)) → statuses_in (group_in (Some l) tag) l ≡ sts → may ≡ due geometry (event.Post lane tag) (world_of s)
        by None is =
            let bad : false ≡ true = sym (told ∙ ap is_some is) ∙ some in cc
        by (Some sts) is =
            let w = world_of s in
            let o = owner t.command.guest guest c in
            let st = deciding sts in
            tells (cid_of t.command.entry) st
            ∙ sym (due-by geometry (event.Post lane tag) w (at_post (Some sts) o)
            (post-step ∙ ap (λ (x : Option Owner). for_owner x w (at_post (statuses_in (group_in (Some l) tag) l)))
            (owner-there geometry w t.command.guest guest c there found)
            ∙ ap (λ (x : Option (List StatusField)). at_post x o) is)
            ∙ by_enabled (is_enabled c) _ _ _ (posted (post c t.command.queue 0 (cid_of t.command.entry) st) st (group w lane tag) o) refl)

-- ---- Admin

administered-done : (x : AdminStep) (o : Owner) (w : World) → is_done (administered_by x o w).reply ≡ is_stepped x
administered-done NothingToDo o w = refl
administered-done QueueFull o w = refl
administered-done (Stepped c memory) o w = refl

pub admin-due : (geometry : Geometry) (s : State) (number : ℕ) (guest : Guest) (c : Controller) → slice_get geometry.guests number ≡ Some guest
    → slice_get s.controllers number ≡ Some c → (b : Bool) → ((test : ℕ → Bool) (blocks : ℕ) (memory : ℕ → ℕ) → b ≡ is_stepped (admin test blocks c memory))
    → b ≡ due geometry (event.Admin number) (world_of s)
admin-due geometry s number guest c there found b told =
    let w = world_of s in
    let o = owner number guest c in
    let x = admin (mapped (regions_of guest)) (shape_of guest).blocks c (image (regions_of guest) w.host) in
    told (mapped (regions_of guest)) (shape_of guest).blocks (image (regions_of guest) w.host)
    ∙ sym (administered-done x o w)
    ∙ sym (due-by geometry (event.Admin number) w (administered_by x o w) (admin-there geometry number o w (owner-there geometry w number guest c there found)))
