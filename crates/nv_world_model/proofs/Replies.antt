-- Which replies the parts of a step have, and that one that tells of no change comes with none.
use Rattle.std.proofs.Common.{◌≡◌, ℕ, ◌+◌, Bool, true, false, cond, ◌&&◌, ◌==◌, nat_le, inl, inr, List, [], ◌∷◌, length}
use Rattle.std.proofs.Common.{slice_get, Option, Some, None, refl}
use Rattle.nv_entry.specs.Status.{StatusField}
use Rattle.nv_model.specs.Admin.{AdminStep, NothingToDo, QueueFull, Stepped, admin}
use Rattle.nv_entry.specs.Layout.{number_bytes}
use Rattle.nv_mem.specs.GuestMap.{all_mapped, everywhere}
use Rattle.nv_model.specs.Memory.{bytes_from, image, stored}
use Rattle.nv_model.specs.Controller.{Controller, Posted, doorbell, front, is_enabled, post, reg_read, reg_write}
use Rattle.nv_model.specs.Private.{Acted, Private, Shape, acted, controlled, register_replied, replied as acted_with}
use Rattle.nv_model.specs.Transcript.{Outcome, ReadDone, Settled, Wanted}
use Rattle.nv_model.specs.declared.act.Act.{Act}
use Rattle.nv_model.specs.declared.act.Act.TheVariants as act
use Rattle.nv_model.specs.declared.reply.Reply.{Reply}
use Rattle.nv_model.specs.declared.reply.Reply.TheVariants as reply
use Rattle.nv_world_model.specs.Device.{DeviceLane, Held, front_entry, held_status}
use Rattle.nv_world_model.specs.Geometry.{Geometry, regions_of, shape_of}
use Rattle.nv_world_model.specs.Laws.{IsAmong, IsBytesOr, MayAnswer, MayAnswerAct}
use Rattle.nv_world_model.specs.Plan.{Plan, plan_over}
use Rattle.nv_world_model.specs.Seat.{Owner, completion_at, owner_of, put_back, seat}
use Rattle.nv_world_model.specs.Step.{After, act_put_back, acted_by, acted_in, administered_by, administered_in, carry_out, deciding, delivered}
use Rattle.nv_world_model.specs.Step.{device_moved, entry_at}
use Rattle.nv_world_model.specs.Step.{device_post, device_posted, device_took, ended_at_once, for_one, for_ended, for_held, for_owner}
use Rattle.nv_world_model.specs.Step.{for_leader, for_taken, is_io_queue, is_success, is_telling, kept_block, list_at, listed, post_all, post_by, posted_to}
use Rattle.nv_world_model.specs.Step.{ran_out_of, reaped, replied, statuses_of, step, submit_by, take_front, take_tags, taken_to}
use Rattle.nv_world_model.specs.World.{Command, Ended, Flying, Free, Lane, Tag, Taken, World, claimed, group, tag_of}
use Rattle.nv_world_model.specs.Share.{tags_of_entry}
use Rattle.nv_world_model.specs.declared.event.Event.{Event}
use Rattle.nv_world_model.specs.declared.event.Event.TheVariants as event
use Rattle.nv_model.specs.Limits.{part_size}
use Rattle.nv_model.specs.Queue.{is_empty}
use Rattle.nv_entry.specs.StatusCode.{done_with}
use Rattle.nv_entry.specs.Submission.{cid_of}
use Rattle.nv_entry.specs.declared.status_code.StatusCode.TheVariants.{InternalError}
use Rattle.std.specs.List.{list_any}

-- an answer has a reply that it may have, and one that tells of no change leaves the world as it was
pub record IsAnswer (May : Reply → Type 0) (w : World) (after : After) : Type 0 where
  pub may : May after.reply
  pub dull : is_telling after.reply ≡ false → after.world ≡ w

module _ (May : Reply → Type 0) (w : World) where
  -- a reply that it may have, with the world as it was
  pub nothing : (r : Reply) → May r → IsAnswer May w (replied r w)
  nothing r may = record { may = may; dull = (λ e. refl) }

  -- a change that is done
  pub done : (z : World) → May reply.Done → IsAnswer May w (replied reply.Done z)
  done z may = record { may = may; dull = (λ e. cc) }

  -- one of two, by a test
  pub either : (b : Bool) (x y : After) → IsAnswer May w x → IsAnswer May w y → IsAnswer May w (cond b x y)
  either true x y so not_so = so
  either false x y so not_so = not_so

  pub guest-answers : (o : Option Owner) (more : Owner → After) → May reply.Ignored → ((p : Owner) → IsAnswer May w (more p)) → IsAnswer May w (for_one o w more)
  guest-answers None more ignored rest = nothing reply.Ignored ignored
  guest-answers (Some o) more ignored rest = rest o

  pub owner-answers : (o : Option Owner) (more : Owner → After) → May reply.Stale → ((p : Owner) → IsAnswer May w (more p)) → IsAnswer May w (for_owner o w more)
  owner-answers None more stale rest = nothing reply.Stale stale
  owner-answers (Some o) more stale rest = rest o

  pub lane-answers : (l : Option Lane) (more : Lane → After) → May reply.Ignored → ((x : Lane) → IsAnswer May w (more x)) → IsAnswer May w (for_one l w more)
  lane-answers None more ignored rest = nothing reply.Ignored ignored
  lane-answers (Some l) more ignored rest = rest l

  pub device-answers : (d : Option DeviceLane) (more : DeviceLane → After) → May reply.Ignored → ((x : DeviceLane) → IsAnswer May w (more x)) → IsAnswer May w (for_one d w more)
  device-answers None more ignored rest = nothing reply.Ignored ignored
  device-answers (Some d) more ignored rest = rest d

  pub held-answers : (h : Option (Option Held)) (more : Held → After) → May reply.Ignored → May reply.Idle → ((x : Held) → IsAnswer May w (more x)) → IsAnswer May w (for_held h w more)
  held-answers None more ignored idle rest = nothing reply.Ignored ignored
  held-answers (Some None) more ignored idle rest = nothing reply.Idle idle
  held-answers (Some (Some h)) more ignored idle rest = rest h

  -- a command is found by the tag that it goes by alone
  leader-answers : (tag : ℕ) (c : Command) (after : After) → May reply.Stale → IsAnswer May w after → IsAnswer May w (for_leader tag c w after)
  leader-answers tag c after stale is = either (c.leader == tag) after (replied reply.Stale w) is (nothing reply.Stale stale)

  pub taken-answers : (tag : ℕ) (t : Option Tag) (more : Command → List ReadDone → After) → May reply.Ignored → May reply.Stale
      → ((c : Command) (reads : List ReadDone) → IsAnswer May w (more c reads)) → IsAnswer May w (for_taken tag t w more)
  taken-answers tag None more ignored stale rest = nothing reply.Ignored ignored
  taken-answers tag (Some Free) more ignored stale rest = nothing reply.Stale stale
  taken-answers tag (Some (Taken c reads)) more ignored stale rest = leader-answers tag c (more c reads) stale (rest c reads)
  taken-answers tag (Some (Flying c share standing)) more ignored stale rest = nothing reply.Stale stale
  taken-answers tag (Some (Ended c st share)) more ignored stale rest = nothing reply.Stale stale

  pub ended-answers : (tag : ℕ) (t : Option Tag) (more : Command → After) → May reply.Ignored → May reply.Stale → ((c : Command) → IsAnswer May w (more c))
      → IsAnswer May w (for_ended tag t w more)
  ended-answers tag None more ignored stale rest = nothing reply.Ignored ignored
  ended-answers tag (Some Free) more ignored stale rest = nothing reply.Stale stale
  ended-answers tag (Some (Taken c reads)) more ignored stale rest = nothing reply.Stale stale
  ended-answers tag (Some (Flying c share standing)) more ignored stale rest = nothing reply.Stale stale
  ended-answers tag (Some (Ended c st share)) more ignored stale rest = leader-answers tag c (more c) stale (rest c)

-- ---- by event

act-answers : (a : Act) (r : Reply) (p : Private) (o : Owner) (w : World) → MayAnswerAct a r → IsAnswer (MayAnswerAct a) w (act_put_back r p o w)
act-answers a reply.Done p o w may = done (MayAnswerAct a) w (put_back o p.memory p.controller w) may
act-answers a (reply.Bytes bytes) p o w may = nothing (MayAnswerAct a) w (reply.Bytes bytes) may
act-answers a reply.Idle p o w may = nothing (MayAnswerAct a) w reply.Idle may
act-answers a reply.Busy p o w may = nothing (MayAnswerAct a) w reply.Busy may
act-answers a reply.Held p o w may = nothing (MayAnswerAct a) w reply.Held may
act-answers a reply.Stale p o w may = nothing (MayAnswerAct a) w reply.Stale may
act-answers a reply.Unmapped p o w may = nothing (MayAnswerAct a) w reply.Unmapped may
act-answers a reply.Ignored p o w may = nothing (MayAnswerAct a) w reply.Ignored may
act-answers a reply.NoMemory p o w may = nothing (MayAnswerAct a) w reply.NoMemory may

-- the reply of one of two acts, by a test
either-act : (a : Act) (b : Bool) (x y : Acted) → MayAnswerAct a x.reply → MayAnswerAct a y.reply → MayAnswerAct a (cond b x y).reply
either-act a true x y so not_so = so
either-act a false x y so not_so = not_so

controlled-answers : (a : Act) (c : Option Controller) (p : Private) → MayAnswerAct a reply.Done → MayAnswerAct a reply.Ignored → MayAnswerAct a (controlled c p).reply
controlled-answers a None p done ignored = ignored
controlled-answers a (Some c) p done ignored = done

register-answers : (a : Act) (value : Option ℕ) (p : Private) → MayAnswerAct a reply.Ignored → ((bytes : List ℕ) → MayAnswerAct a (reply.Bytes bytes))
    → MayAnswerAct a (register_replied value p).reply
register-answers a None p ignored some = ignored
register-answers a (Some value) p ignored some = some (number_bytes 4 value)

-- the reply of the private controller to an act
acted-answers : (shape : Shape) (a : Act) (p : Private) → MayAnswerAct a (acted shape a p).reply
acted-answers shape (act.Store addr bytes) p =
    either-act (act.Store addr bytes) (everywhere shape.mapped addr (length bytes))
    (acted_with reply.Done (record p { memory = stored p.memory addr bytes })) (acted_with reply.Unmapped p) (inl refl) (inr (inl refl))
acted-answers shape (act.Load addr len) p =
    either-act (act.Load addr len) (everywhere shape.mapped addr len)
    (acted_with (reply.Bytes (bytes_from p.memory addr len)) p) (acted_with reply.Unmapped p) (inl (_, refl)) (inr (inl refl))
acted-answers shape (act.RegRead offset) p =
    register-answers (act.RegRead offset) (reg_read p.controller offset) p (inr (inl refl)) (λ bytes. inl (bytes, refl))
acted-answers shape (act.RegWrite offset value) p =
    controlled-answers (act.RegWrite offset value) (reg_write shape.mapped p.controller offset value) p (inl refl) (inr (inl refl))
acted-answers shape (act.Doorbell offset value) p =
    controlled-answers (act.Doorbell offset value) (doorbell p.controller offset value) p (inl refl) (inr (inl refl))

acted_by-answers : (a : Act) (x : Acted) (o : Owner) (w : World) → MayAnswerAct a x.reply → IsAnswer (MayAnswerAct a) w (acted_by x o w)
acted_by-answers a x o w may = act-answers a x.reply x.state o w may

administered-answers : (May : Reply → Type 0) (w : World) (done_may : May reply.Done) (idle : May reply.Idle) (held : May reply.Held) (x : AdminStep) (o : Owner)
    → IsAnswer May w (administered_by x o w)
administered-answers May w done_may idle held NothingToDo o = nothing May w reply.Idle idle
administered-answers May w done_may idle held QueueFull o = nothing May w reply.Held held
administered-answers May w done_may idle held (Stepped c memory) o = done May w (put_back o memory c w) done_may

-- the events that a guest makes with its queues
abbrev MayTake : Reply → Type 0
MayTake r = IsAmong (reply.Done ∷ reply.Idle ∷ reply.Busy ∷ reply.Ignored ∷ []) r

take_tags-answers : (tags : Option (List ℕ)) (addr queue lane : ℕ) (o : Owner) (w : World) → IsAnswer MayTake w (take_tags tags addr queue lane o w)
take_tags-answers None addr queue lane o w = nothing MayTake w reply.Busy (inr (inr (inl refl)))
take_tags-answers (Some tags) addr queue lane o w = done MayTake w (taken_to addr queue lane tags o w) (inl refl)

take_front-answers : (front : Option ℕ) (queue number : ℕ) (l : Lane) (o : Owner) (w : World) → IsAnswer MayTake w (take_front front queue number l o w)
take_front-answers None queue number l o w = nothing MayTake w reply.Idle (inr (inl refl))
take_front-answers (Some addr) queue number l o w =
    take_tags-answers (claimed (tags_of_entry o.given.namespace (entry_at addr o w)) l.tags) addr queue number o w

-- what is done with a tag
abbrev MayList : Reply → Type 0
MayList r = IsBytesOr (reply.Stale ∷ reply.Unmapped ∷ reply.Ignored ∷ []) r

listed-answers : (addr len lane tag : ℕ) (c : Command) (reads : List ReadDone) (o : Owner) (w : World) → IsAnswer MayList w (listed addr len lane tag c reads o w)
unfolding listed
listed-answers addr len lane tag c reads o w = record { may = inl (_, refl); dull = (λ e. cc) }

list_at-answers : (addr len lane tag : ℕ) (c : Command) (reads : List ReadDone) (o : Owner) (w : World) → IsAnswer MayList w (list_at addr len lane tag c reads o w)
list_at-answers addr len lane tag c reads o w =
    either MayList w (all_mapped (regions_of o.given) addr len) _ (replied reply.Unmapped w)
    (either MayList w (nat_le 1 len && nat_le len part_size) (listed addr len lane tag c reads o w) (replied reply.Ignored w)
    (listed-answers addr len lane tag c reads o w) (nothing MayList w reply.Ignored (inr (inr (inr (inl refl))))))
    (nothing MayList w reply.Unmapped (inr (inr (inl refl))))

abbrev MaySubmit : Reply → Type 0
MaySubmit r = IsAmong (reply.Done ∷ reply.Stale ∷ reply.Ignored ∷ []) r

submit-answers : (outcome : Outcome Plan) (mediator lane : ℕ) (tags : List ℕ) (c : Command) (o : Owner) (w : World)
    → IsAnswer MaySubmit w (submit_by outcome mediator lane tags c o w)
submit-answers (Wanted addr len) mediator lane tags c o w = nothing MaySubmit w reply.Stale (inr (inl refl))
submit-answers (Settled plan) mediator lane tags c o w = done MaySubmit w (carry_out plan mediator lane tags c o w) (inl refl)

-- what the physical controller does
abbrev MayMove : Reply → Type 0
MayMove r = IsAmong (reply.Done ∷ reply.Idle ∷ reply.Ignored ∷ []) r

device_post-answers : (left : List ℕ) (mediator lane slot : ℕ) (h : Held) (d : DeviceLane) (w : World) → IsAnswer MayMove w (device_post left mediator lane slot h d w)
device_post-answers [] mediator lane slot h d w = done MayMove w (device_posted mediator lane slot (held_status h) d w) (inl refl)
device_post-answers (number ∷ left) mediator lane slot h d w = nothing MayMove w reply.Idle (inr (inl refl))

-- what is done with an ended command
abbrev MayPost : Reply → Type 0
MayPost r = IsAmong (reply.Done ∷ reply.Stale ∷ reply.Held ∷ reply.Ignored ∷ []) r

post_by-answers : (posted : Option Posted) (st : StatusField) (mediator lane : ℕ) (tags : List ℕ) (o : Owner) (w : World)
    → IsAnswer MayPost w (post_by posted st mediator lane tags o w)
post_by-answers None st mediator lane tags o w = nothing MayPost w reply.Held (inr (inr (inl refl)))
post_by-answers (Some posted) st mediator lane tags o w =
    done MayPost w (posted_to posted lane tags o (delivered st mediator lane tags o w)) (inl refl)

post_all-answers : (sts : Option (List StatusField)) (c : Command) (mediator lane : ℕ) (tags : List ℕ) (o : Owner) (w : World)
    → IsAnswer MayPost w (post_all sts c mediator lane tags o w)
post_all-answers None c mediator lane tags o w = nothing MayPost w reply.Stale (inr (inl refl))
post_all-answers (Some sts) c mediator lane tags o w =
    either MayPost w (is_enabled o.controller) _ _
    (post_by-answers (post o.controller c.queue 0 (cid_of c.entry) (deciding sts)) (deciding sts) mediator lane tags o w)
    (done MayPost w (ran_out_of c.queue lane tags o (delivered (deciding sts) mediator lane tags o w)) (inl refl))

-- each event answers as it may
pub step-answers : (geometry : Geometry) (e : Event) (w : World) → IsAnswer (MayAnswer e) w (step geometry e w)
unfolding step acted_in administered_in
step-answers geometry (event.Guest guest a) w =
    guest-answers (MayAnswerAct a) w (owner_of geometry w guest) _ (ignored a)
    (λ o. acted_by-answers a (acted (shape_of o.given) a (seat geometry o w)) o w (acted-answers (shape_of o.given) a (seat geometry o w)))
  where
    ignored : (a : Act) → MayAnswerAct a reply.Ignored
    ignored (act.Store addr bytes) = inr (inr (inl refl))
    ignored (act.Load addr len) = inr (inr (inl refl))
    ignored (act.RegRead offset) = inr (inl refl)
    ignored (act.RegWrite offset value) = inr (inl refl)
    ignored (act.Doorbell offset value) = inr (inl refl)
step-answers geometry (event.Admin guest) w =
    guest-answers (MayAnswer (event.Admin guest)) w (owner_of geometry w guest) _ (inr (inr (inr (inl refl))))
    (λ o. administered-answers (MayAnswer (event.Admin guest)) w (inl refl) (inr (inl refl)) (inr (inr (inl refl)))
    (admin (shape_of o.given).mapped (shape_of o.given).blocks o.controller (image (regions_of o.given) w.host)) o)
step-answers geometry (event.Take guest queue lane) w =
    guest-answers MayTake w (owner_of geometry w guest) _ (inr (inr (inr (inl refl))))
    (λ o. lane-answers MayTake w (slice_get w.lanes lane) _ (inr (inr (inr (inl refl))))
    (λ l. either MayTake w (is_io_queue queue) _ _ (take_front-answers (front o.controller queue) queue lane l o w)
    (nothing MayTake w reply.Ignored (inr (inr (inr (inl refl)))))))
step-answers geometry (event.List lane tag addr len) w =
    taken-answers MayList w tag (tag_of w lane tag) _ (inr (inr (inr (inl refl)))) (inr (inl refl))
    (λ c reads. owner-answers MayList w (owner_of geometry w c.guest) _ (inr (inl refl))
    (λ o. list_at-answers addr len lane tag c reads o w))
step-answers geometry (event.Submit lane tag) w =
    taken-answers MaySubmit w tag (tag_of w lane tag) _ (inr (inr (inl refl))) (inr (inl refl))
    (λ c reads. owner-answers MaySubmit w (owner_of geometry w c.guest) _ (inr (inl refl))
    (λ o. device-answers MaySubmit w (slice_get w.device lane) _ (inr (inr (inl refl)))
    (λ d. submit-answers (plan_over o.given c.entry reads) geometry.mediator lane (group w lane tag) c o w)))
step-answers geometry (event.GiveUp lane tag) w =
    taken-answers MaySubmit w tag (tag_of w lane tag) _ (inr (inr (inl refl))) (inr (inl refl))
    (λ c reads. done MaySubmit w (ended_at_once lane (group w lane tag) c (done_with InternalError) w) (inl refl))
step-answers geometry (event.DevTake lane) w =
    device-answers MayMove w (slice_get w.device lane) _ (inr (inr (inl refl)))
    (λ d. either MayMove w (is_empty d.head d.tail) _ _ (nothing MayMove w reply.Idle (inr (inl refl)))
    (done MayMove w (device_took lane (front_entry geometry.mediator lane d w.host) w) (inl refl)))
step-answers geometry (event.DevMove lane slot number) w =
    device-answers MayMove w (slice_get w.device lane) _ (inr (inr (inl refl)))
    (λ d. held-answers MayMove w (slice_get d.held slot) _ (inr (inr (inl refl))) (inr (inl refl))
    (λ h. either MayMove w (list_any (λ k. k == number) h.left) _ _
    (done MayMove w (device_moved geometry.disk_blocks lane slot number h w) (inl refl)) (nothing MayMove w reply.Idle (inr (inl refl)))))
step-answers geometry (event.DevPost lane slot) w =
    device-answers MayMove w (slice_get w.device lane) _ (inr (inr (inl refl)))
    (λ d. held-answers MayMove w (slice_get d.held slot) _ (inr (inr (inl refl))) (inr (inl refl))
    (λ h. device_post-answers h.left geometry.mediator lane slot h d w))
step-answers geometry (event.DevFail lane slot st) w =
    device-answers MayMove w (slice_get w.device lane) _ (inr (inr (inl refl)))
    (λ d. held-answers MayMove w (slice_get d.held slot) _ (inr (inr (inl refl))) (inr (inl refl))
    (λ h. either MayMove w (is_success st) _ _ (nothing MayMove w reply.Ignored (inr (inr (inl refl))))
    (done MayMove w (device_posted geometry.mediator lane slot st d w) (inl refl))))
step-answers geometry (event.Keep block) w =
    either (MayAnswer (event.Keep block)) w (nat_le (block + 1) geometry.disk_blocks) _ _
    (done (MayAnswer (event.Keep block)) w (kept_block block w) (inl refl)) (nothing (MayAnswer (event.Keep block)) w reply.Idle (inr (inl refl)))
step-answers geometry (event.Reap lane) w =
    lane-answers MayMove w (slice_get w.lanes lane) _ (inr (inr (inl refl)))
    (λ l. device-answers MayMove w (slice_get w.device lane) _ (inr (inr (inl refl)))
    (λ d. either MayMove w (is_empty l.head d.posted) _ _ (nothing MayMove w reply.Idle (inr (inl refl)))
    (done MayMove w (reaped lane (completion_at geometry w lane l.head) w) (inl refl))))
step-answers geometry (event.Post lane tag) w =
    ended-answers MayPost w tag (tag_of w lane tag) _ (inr (inr (inr (inl refl)))) (inr (inl refl))
    (λ c. owner-answers MayPost w (owner_of geometry w c.guest) _ (inr (inl refl))
    (λ o. post_all-answers (statuses_of lane (group w lane tag) w) c geometry.mediator lane (group w lane tag) o w))
