-- Events of guests and of the mediator but Submit, in a world with another disk, other marks and other places of parts that were handed on: they come to
-- what they came to before, in the same way.
use Rattle.std.proofs.Common.{◌≡◌, ℕ, Bool, true, false, cond, ◌&&◌, ◌==◌, nat_le, List, [], ◌∷◌, length, map, set, slice_get, Option, Some, None, refl, sym, ap, ◌∙◌}
use Rattle.std.specs.Bool.{⊤}
use Rattle.std.specs.Option.{option_map}
use Rattle.std.proofs.lemmas.List.{map-set}
use Rattle.std.proofs.lemmas.Option.{slice_get-map}
use Rattle.nv_entry.specs.StatusCode.{done_with}
use Rattle.nv_entry.specs.Submission.{cid_of}
use Rattle.nv_entry.specs.Completion.{cid_of as completed_cid, status_of}
use Rattle.nv_entry.specs.Status.{StatusField}
use Rattle.nv_entry.specs.declared.status_code.StatusCode.TheVariants.{InternalError, Success}
use Rattle.nv_laws_sound.proofs.Folds.{numbers-same}
use Rattle.nv_laws_sound.proofs.Numbers.{numbers-are, numbers-map}
use Rattle.nv_mem.specs.GuestMap.{all_mapped, everywhere}
use Rattle.nv_model.specs.Admin.{NothingToDo, QueueFull, Stepped, admin}
use Rattle.nv_model.specs.Controller.{Posted, doorbell, front, is_enabled, post, ran_out, reg_read, reg_write, took}
use Rattle.nv_model.specs.Judge.{is_read}
use Rattle.nv_model.specs.Limits.{part_size}
use Rattle.nv_model.specs.Memory.{bytes_from, image, stored}
use Rattle.nv_model.specs.Private.{controlled, register_replied, replied as done_as}
use Rattle.nv_model.specs.Queue.{is_empty}
use Rattle.nv_model.specs.Transcript.{ReadDone}
use Rattle.nv_model.specs.declared.act.Act.{Act}
use Rattle.nv_model.specs.declared.act.Act.TheVariants as act
use Rattle.nv_model.specs.declared.reply.Reply.TheVariants as reply
use Rattle.nv_world_model.specs.Area.{bounce_page}
use Rattle.nv_world_model.specs.Device.{DeviceLane}
use Rattle.nv_world_model.specs.Geometry.{Geometry, regions_of, shape_of}
use Rattle.nv_world_model.specs.Plan.{Answer, Bounced, Direct, NoData, Plan}
use Rattle.nv_world_model.specs.Seat.{Owner, completion_at, owner_of, put_back, seat}
use Rattle.nv_world_model.specs.Share.{Share, tags_of_entry}
use Rattle.nv_world_model.specs.Step.{After, acted_by, acted_in, administered_by, administered_in, completion_read, deciding, delivered, delivered_all, delivered_by, delivered_from}
use Rattle.nv_world_model.specs.Step.{ended_at, ended_at_once, ended_status, entry_at, for_ended, for_one, for_owner, for_taken, is_io_queue, is_success, list_at, listed, post_all, post_at, post_by}
use Rattle.nv_world_model.specs.Step.{posted_to, ran_out_of, reap, reaped, replied, scattered_to, status_before, statuses_of, step, take_from, take_front, take_tags, taken_to}
use Rattle.nv_world_model.specs.World.{Command, Ended, Flying, Free, Lane, Standing, Tag, Taken, World, changed_at, claimed, first_of, group, group_in, is_free, is_that}
use Rattle.nv_world_model.specs.World.{leader_of, tag_changed, tag_in, tag_of, tags_where, with_controller, with_lane, with_tag, with_tags}
use Rattle.nv_world_model.specs.declared.event.Event.{Event}
use Rattle.nv_world_model.specs.declared.event.Event.TheVariants as event

-- what is done with a tag leaves it as it is, but for where a part is that was handed on
pub record IsPlacing (moved : Tag → Tag) : Type 0 where
  pub free : moved Free ≡ Free
  pub taken : (c : Command) (rs : List ReadDone) → moved (Taken c rs) ≡ Taken c rs
  pub flying : (c : Command) (share : Share) (standing : Standing) → (other : Standing) × (moved (Flying c share standing) ≡ Flying c share other)
  pub ended : (c : Command) (st : StatusField) (share : Option Share) → moved (Ended c st share) ≡ Ended c st share

-- it is done with all tags of a lane, and of a world, whose disk and marks become others
abbrev pub lane_moved : (moved : Tag → Tag) → Lane → Lane
lane_moved moved l = record l { tags = map moved l.tags }

abbrev pub world_moved : (moved : Tag → Tag) → (disk_on : (ℕ → ℕ → ℕ) → ℕ → ℕ → ℕ) → (kept_on : (ℕ → Bool) → ℕ → Bool) → World → World
world_moved moved disk_on kept_on w = record w { lanes = map (lane_moved moved) w.lanes; disk = disk_on w.disk; kept = kept_on w.kept }

abbrev pub after_moved : (moved : Tag → Tag) → (disk_on : (ℕ → ℕ → ℕ) → ℕ → ℕ → ℕ) → (kept_on : (ℕ → Bool) → ℕ → Bool) → After → After
after_moved moved disk_on kept_on a = record { world = world_moved moved disk_on kept_on a.world; reply = a.reply }

-- an event is a guest's or the mediator's, and no Submit
abbrev pub IsNoSubmit : Event → Type 0
IsNoSubmit (event.Guest guest a) = ⊤
IsNoSubmit (event.Admin guest) = ⊤
IsNoSubmit (event.Take guest queue lane) = ⊤
IsNoSubmit (event.List lane tag addr len) = ⊤
IsNoSubmit (event.Submit lane tag) = ⊥
IsNoSubmit (event.GiveUp lane tag) = ⊤
IsNoSubmit (event.DevTake lane) = ⊥
IsNoSubmit (event.DevMove lane slot number) = ⊥
IsNoSubmit (event.DevPost lane slot) = ⊥
IsNoSubmit (event.DevFail lane slot st) = ⊥
IsNoSubmit (event.Keep block) = ⊥
IsNoSubmit (event.Reap lane) = ⊤
IsNoSubmit (event.Post lane tag) = ⊤

module _ (moved : Tag → Tag) (is : IsPlacing moved) (disk_on : (ℕ → ℕ → ℕ) → ℕ → ℕ → ℕ) (kept_on : (ℕ → Bool) → ℕ → Bool) where
  abbrev lane_by : Lane → Lane
  lane_by l = lane_moved moved l

  abbrev onto : World → World
  onto w = world_moved moved disk_on kept_on w

  abbrev after : After → After
  after a = after_moved moved disk_on kept_on a

  -- ---- tags and lanes

  pub lane-of : (ls : List Lane) (n : ℕ) → slice_get (map lane_by ls) n ≡ option_map lane_by (slice_get ls n)
  lane-of ls n = slice_get-map lane_by ls n

  pub moved-tag : (w : World) (lane tag : ℕ) → tag_of (onto w) lane tag ≡ option_map moved (tag_of w lane tag)
  moved-tag w lane tag = ap (λ o. tag_in o tag) (lane-of w.lanes lane) ∙ by (slice_get w.lanes lane)
    where
      by : (o : Option Lane) → tag_in (option_map lane_by o) tag ≡ option_map moved (tag_in o tag)
      by None = refl
      by (Some l) = slice_get-map moved l.tags tag

  -- one lane is changed
  changed-onto : (n : ℕ) (f g : Lane → Lane) → ((l : Lane) → lane_by (f l) ≡ g (lane_by l)) → (ls : List Lane)
      → map lane_by (changed_at (slice_get ls n) n f ls) ≡ changed_at (slice_get (map lane_by ls) n) n g (map lane_by ls)
  changed-onto n f g same ls =
      by (slice_get ls n) ∙ ap (λ o. changed_at o n g (map lane_by ls)) (sym (lane-of ls n))
    where
      by : (o : Option Lane) → map lane_by (changed_at o n f ls) ≡ changed_at (option_map lane_by o) n g (map lane_by ls)
      by None = refl
      by (Some l) = map-set lane_by ls n (f l) ∙ ap (set (map lane_by ls) n) (same l)

  pub moved-onto : (lane tag : ℕ) (t : Tag) (w : World) → with_tag lane tag (moved t) (onto w) ≡ onto (with_tag lane tag t w)
  moved-onto lane tag t w =
      ap (λ (ls : List Lane). let v : World = record w { lanes = ls; disk = disk_on w.disk; kept = kept_on w.kept } in v)
      (sym (changed-onto lane (tag_changed tag t) (tag_changed tag (moved t))
      (λ l. ap (λ (ts : List Tag). let k : Lane = record l { tags = ts } in k) (map-set moved l.tags tag t)) w.lanes))

  read-onto : (lane : ℕ) (w : World) → with_lane lane completion_read (onto w) ≡ onto (with_lane lane completion_read w)
  read-onto lane w =
      ap (λ (ls : List Lane). let v : World = record w { lanes = ls; disk = disk_on w.disk; kept = kept_on w.kept } in v)
      (sym (changed-onto lane completion_read completion_read (λ l. refl) w.lanes))

  -- ---- which tags

  where-same : (test : Tag → Bool) → ((t : Tag) → test t ≡ test (moved t)) → (tags : List Tag) → tags_where test (map moved tags) ≡ tags_where test tags
  where-same test each tags =
      numbers-are test (map moved tags)
      ∙ sym (numbers-same test (λ t. test (moved t)) tags each ∙ numbers-map test moved tags)
      ∙ sym (numbers-are test tags)

  free-same : (t : Tag) → is_free t ≡ is_free (moved t)
  free-same Free = sym (ap is_free is.free)
  free-same (Taken c rs) = sym (ap is_free (is.taken c rs))
  free-same (Flying c share standing) = sym (ap is_free (is.flying c share standing).1)
  free-same (Ended c st share) = sym (ap is_free (is.ended c st share))

  claimed-same : (count : ℕ) (tags : List Tag) → claimed count (map moved tags) ≡ claimed count tags
  unfolding claimed
  claimed-same count tags = ap (first_of count) (where-same is_free free-same tags)

  leader-same : (t : Tag) → leader_of t ≡ leader_of (moved t)
  leader-same Free = sym (ap leader_of is.free)
  leader-same (Taken c rs) = sym (ap leader_of (is.taken c rs))
  leader-same (Flying c share standing) = sym (ap leader_of (is.flying c share standing).1)
  leader-same (Ended c st share) = sym (ap leader_of (is.ended c st share))

  pub group-same : (w : World) (lane leader : ℕ) → group (onto w) lane leader ≡ group w lane leader
  unfolding group
  group-same w lane leader = ap (λ o. group_in o leader) (lane-of w.lanes lane) ∙ by (slice_get w.lanes lane)
    where
      by : (o : Option Lane) → group_in (option_map lane_by o) leader ≡ group_in o leader
      by None = refl
      by (Some l) = where-same (λ t. is_that leader (leader_of t)) (λ t. ap (is_that leader) (leader-same t)) l.tags

  -- ---- what an event names

  one : {X : Type 0} (x : Option X) (w : World) (f g : X → After) → ((y : X) → f y ≡ after (g y)) → for_one x (onto w) f ≡ after (for_one x w g)
  one None w f g each = refl
  one (Some y) w f g each = each y

  -- the lane that it names
  laned : (x : Option Lane) (w : World) (f g : Lane → After) → ((l : Lane) → f (lane_by l) ≡ after (g l))
      → for_one (option_map lane_by x) (onto w) f ≡ after (for_one x w g)
  laned None w f g each = refl
  laned (Some l) w f g each = each l

  owned : (x : Option Owner) (w : World) (f g : Owner → After) → ((o : Owner) → f o ≡ after (g o)) → for_owner x (onto w) f ≡ after (for_owner x w g)
  owned None w f g each = refl
  owned (Some o) w f g each = each o

  either : (b : Bool) (x y u v : After) → x ≡ after u → y ≡ after v → cond b x y ≡ after (cond b u v)
  either true x y u v first second = first
  either false x y u v first second = second

  taken : (tag : ℕ) (t : Option Tag) (w : World) (f g : Command → List ReadDone → After) → ((c : Command) (rs : List ReadDone) → f c rs ≡ after (g c rs))
      → for_taken tag (option_map moved t) (onto w) f ≡ after (for_taken tag t w g)
  taken tag None w f g each = refl
  taken tag (Some Free) w f g each = ap (λ t. for_taken tag (Some t) (onto w) f) is.free
  taken tag (Some (Taken c rs)) w f g each =
      ap (λ t. for_taken tag (Some t) (onto w) f) (is.taken c rs)
      ∙ either (c.leader == tag) (f c rs) (replied reply.Stale (onto w)) (g c rs) (replied reply.Stale w) (each c rs) refl
  taken tag (Some (Flying c share standing)) w f g each = ap (λ t. for_taken tag (Some t) (onto w) f) (is.flying c share standing).1
  taken tag (Some (Ended c st share)) w f g each = ap (λ t. for_taken tag (Some t) (onto w) f) (is.ended c st share)

  ended : (tag : ℕ) (t : Option Tag) (w : World) (f g : Command → After) → ((c : Command) → f c ≡ after (g c))
      → for_ended tag (option_map moved t) (onto w) f ≡ after (for_ended tag t w g)
  ended tag None w f g each = refl
  ended tag (Some Free) w f g each = ap (λ t. for_ended tag (Some t) (onto w) f) is.free
  ended tag (Some (Taken c rs)) w f g each = ap (λ t. for_ended tag (Some t) (onto w) f) (is.taken c rs)
  ended tag (Some (Flying c share standing)) w f g each = ap (λ t. for_ended tag (Some t) (onto w) f) (is.flying c share standing).1
  ended tag (Some (Ended c st share)) w f g each =
      ap (λ t. for_ended tag (Some t) (onto w) f) (is.ended c st share)
      ∙ either (c.leader == tag) (f c) (replied reply.Stale (onto w)) (g c) (replied reply.Stale w) (each c) refl

  pub tags-onto : (lane : ℕ) (tags : List ℕ) (t : Tag) (w : World) → with_tags lane tags (moved t) (onto w) ≡ onto (with_tags lane tags t w)
  unfolding with_tags
  tags-onto lane [] t w = refl
  tags-onto lane (tag ∷ tags) t w = ap (with_tags lane tags (moved t)) (moved-onto lane tag t w) ∙ tags-onto lane tags t (with_tag lane tag t w)

  -- a tag that stays as it is
  tag-as : (lane tag : ℕ) (t : Tag) (w : World) → moved t ≡ t → with_tag lane tag t (onto w) ≡ onto (with_tag lane tag t w)
  tag-as lane tag t w same = sym (ap (λ x. with_tag lane tag x (onto w)) same) ∙ moved-onto lane tag t w

  tags-as : (lane : ℕ) (tags : List ℕ) (t : Tag) (w : World) → moved t ≡ t → with_tags lane tags t (onto w) ≡ onto (with_tags lane tags t w)
  tags-as lane tags t w same = sym (ap (λ x. with_tags lane tags x (onto w)) same) ∙ tags-onto lane tags t w

  -- ---- guests

  acted-onto : (geometry : Geometry) (a : Act) (o : Owner) (w : World) → acted_in geometry a o (onto w) ≡ after (acted_in geometry a o w)
  unfolding acted_in seat put_back
  acted-onto geometry (act.Store addr bytes) o w =
      let p = seat geometry o (onto w) in
      let q = seat geometry o w in
      elim (everywhere (shape_of o.given).mapped addr (length bytes)) as (λ b.
      acted_by (cond b (done_as reply.Done (record p { memory = stored p.memory addr bytes })) (done_as reply.Unmapped p)) o (onto w)
      ≡ after (acted_by (cond b (done_as reply.Done (record q { memory = stored q.memory addr bytes })) (done_as reply.Unmapped q)) o w)) [ true ↦ refl | false ↦ refl ]
  acted-onto geometry (act.Load addr len) o w =
      let p = seat geometry o (onto w) in
      let q = seat geometry o w in
      elim (everywhere (shape_of o.given).mapped addr len) as (λ b.
      acted_by (cond b (done_as (reply.Bytes (bytes_from p.memory addr len)) p) (done_as reply.Unmapped p)) o (onto w)
      ≡ after (acted_by (cond b (done_as (reply.Bytes (bytes_from q.memory addr len)) q) (done_as reply.Unmapped q)) o w)) [ true ↦ refl | false ↦ refl ]
  acted-onto geometry (act.RegRead offset) o w =
      elim (reg_read o.controller offset) as (λ x.
      acted_by (register_replied x (seat geometry o (onto w))) o (onto w) ≡ after (acted_by (register_replied x (seat geometry o w)) o w)) [ None ↦ refl | Some value ↦ refl ]
  acted-onto geometry (act.RegWrite offset value) o w =
      elim (reg_write (shape_of o.given).mapped o.controller offset value) as (λ x.
      acted_by (controlled x (seat geometry o (onto w))) o (onto w) ≡ after (acted_by (controlled x (seat geometry o w)) o w)) [ None ↦ refl | Some c ↦ refl ]
  acted-onto geometry (act.Doorbell offset value) o w =
      elim (doorbell o.controller offset value) as (λ x.
      acted_by (controlled x (seat geometry o (onto w))) o (onto w) ≡ after (acted_by (controlled x (seat geometry o w)) o w)) [ None ↦ refl | Some c ↦ refl ]

  administered-onto : (o : Owner) (w : World) → administered_in o (onto w) ≡ after (administered_in o w)
  unfolding administered_in put_back
  administered-onto o w =
      elim (admin (shape_of o.given).mapped (shape_of o.given).blocks o.controller (image (regions_of o.given) w.host)) as (λ x.
      administered_by x o (onto w) ≡ after (administered_by x o w)) [ NothingToDo ↦ refl | QueueFull ↦ refl | Stepped c memory ↦ refl ]

  -- ---- Take and List

  by-tags : (x : Option (List ℕ)) (addr queue lane : ℕ) (o : Owner) (w : World) → take_tags x addr queue lane o (onto w) ≡ after (take_tags x addr queue lane o w)
  unfolding taken_to
  by-tags None addr queue lane o w = refl
  by-tags (Some tags) addr queue lane o w = ap (replied reply.Done) (tags-as lane tags _ (with_controller o.number (took o.controller queue) w) (is.taken _ _))

  by-front : (x : Option ℕ) (queue number : ℕ) (l : Lane) (o : Owner) (w : World)
      → take_front x queue number (lane_by l) o (onto w) ≡ after (take_front x queue number l o w)
  by-front None queue number l o w = refl
  by-front (Some addr) queue number l o w =
      ap (λ ts. take_tags ts addr queue number o (onto w)) (claimed-same (tags_of_entry o.given.namespace (entry_at addr o w)) l.tags)
      ∙ by-tags (claimed (tags_of_entry o.given.namespace (entry_at addr o w)) l.tags) addr queue number o w

  take-onto : (queue number : ℕ) (l : Lane) (o : Owner) (w : World) → take_from queue number (lane_by l) o (onto w) ≡ after (take_from queue number l o w)
  take-onto queue number l o w =
      either (is_io_queue queue) (take_front (front o.controller queue) queue number (lane_by l) o (onto w)) (replied reply.Ignored (onto w))
      (take_front (front o.controller queue) queue number l o w) (replied reply.Ignored w) (by-front (front o.controller queue) queue number l o w) refl

  list-onto : (addr len lane tag : ℕ) (c : Command) (rs : List ReadDone) (o : Owner) (w : World) → list_at addr len lane tag c rs o (onto w) ≡ after (list_at addr len lane tag c rs o w)
  unfolding listed
  list-onto addr len lane tag c rs o w =
      elim (all_mapped (regions_of o.given) addr len) as (λ b.
      cond b (cond (nat_le 1 len && nat_le len part_size) (listed addr len lane tag c rs o (onto w)) (replied reply.Ignored (onto w))) (replied reply.Unmapped (onto w))
      ≡ after (cond b (cond (nat_le 1 len && nat_le len part_size) (listed addr len lane tag c rs o w) (replied reply.Ignored w)) (replied reply.Unmapped w))) [
        | true ↦ either (nat_le 1 len && nat_le len part_size) (listed addr len lane tag c rs o (onto w)) (replied reply.Ignored (onto w))
            (listed addr len lane tag c rs o w) (replied reply.Ignored w)
            (ap (replied (reply.Bytes (bytes_from (image (regions_of o.given) w.host) addr len))) (tag-as lane tag _ w (is.taken _ _))) refl
        | false ↦ refl
      ]

  -- ---- GiveUp

  pub at-once : (lane : ℕ) (tags : List ℕ) (c : Command) (st : StatusField) (w : World) → ended_at_once lane tags c st (onto w) ≡ onto (ended_at_once lane tags c st w)
  at-once lane [] c st w = refl
  at-once lane (tag ∷ tags) c st w =
      ap (with_tags lane tags (Ended c (done_with Success) None)) (tag-as lane tag (Ended c st None) w (is.ended c st None))
      ∙ tags-as lane tags (Ended c (done_with Success) None) (with_tag lane tag (Ended c st None) w) (is.ended c (done_with Success) None)

  -- ---- Reap and Post

  ended-onto : (x : Option Tag) (st : StatusField) (lane tag : ℕ) (w : World)
      → ended_at (option_map moved x) st lane tag (onto w) ≡ onto (ended_at x st lane tag w)
  ended-onto None st lane tag w = refl
  ended-onto (Some Free) st lane tag w = ap (λ t. ended_at (Some t) st lane tag (onto w)) is.free
  ended-onto (Some (Taken c rs)) st lane tag w = ap (λ t. ended_at (Some t) st lane tag (onto w)) (is.taken c rs)
  ended-onto (Some (Flying c share standing)) st lane tag w =
      ap (λ t. ended_at (Some t) st lane tag (onto w)) (is.flying c share standing).1 ∙ tag-as lane tag _ w (is.ended _ _ _)
  ended-onto (Some (Ended c other share)) st lane tag w = ap (λ t. ended_at (Some t) st lane tag (onto w)) (is.ended c other share)

  reaped-onto : (lane : ℕ) (completion : List ℕ) (w : World) → reaped lane completion (onto w) ≡ onto (reaped lane completion w)
  unfolding reaped
  reaped-onto lane completion w =
      let cid = completed_cid completion in
      ap (λ (t : Option Tag). ended_at t (status_of completion) lane cid (with_lane lane completion_read (onto w))) (moved-tag w lane cid)
      ∙ ap (ended_at (option_map moved (tag_of w lane cid)) (status_of completion) lane cid) (read-onto lane w)
      ∙ ended-onto (tag_of w lane cid) (status_of completion) lane cid (with_lane lane completion_read w)

  reap-onto : (geometry : Geometry) (number : ℕ) (l : Lane) (d : DeviceLane) (w : World)
      → reap geometry number (lane_by l) d (onto w) ≡ after (reap geometry number l d w)
  reap-onto geometry number l d w =
      let completion = completion_at geometry w number l.head in
      either (is_empty l.head d.posted) (replied reply.Idle (onto w)) (replied reply.Done (reaped number completion (onto w)))
      (replied reply.Idle w) (replied reply.Done (reaped number completion w)) refl
      (ap (replied reply.Done) (reaped-onto number completion w))

  by-plan : (plan : Plan) (bounce : ℕ) (o : Owner) (w : World) → delivered_by plan bounce o (onto w) ≡ onto (delivered_by plan bounce o w)
  unfolding scattered_to
  by-plan (Answer st) bounce o w = refl
  by-plan (NoData work) bounce o w = refl
  by-plan (Direct work) bounce o w = refl
  by-plan (Bounced work) bounce o w =
      elim (is_read work.opcode) as (λ b. cond b (scattered_to bounce work o (onto w)) (onto w) ≡ onto (cond b (scattered_to bounce work o w) w)) [ true ↦ refl | false ↦ refl ]

  from-onto : (x : Option Tag) (bounce : ℕ) (o : Owner) (w : World) → delivered_from (option_map moved x) bounce o (onto w) ≡ onto (delivered_from x bounce o w)
  from-onto None bounce o w = refl
  from-onto (Some Free) bounce o w = ap (λ t. delivered_from (Some t) bounce o (onto w)) is.free
  from-onto (Some (Taken c rs)) bounce o w = ap (λ t. delivered_from (Some t) bounce o (onto w)) (is.taken c rs)
  from-onto (Some (Flying c share standing)) bounce o w = ap (λ t. delivered_from (Some t) bounce o (onto w)) (is.flying c share standing).1
  from-onto (Some (Ended c st None)) bounce o w = ap (λ t. delivered_from (Some t) bounce o (onto w)) (is.ended c st None)
  from-onto (Some (Ended c st (Some share))) bounce o w =
      ap (λ t. delivered_from (Some t) bounce o (onto w)) (is.ended c st (Some share)) ∙ by-plan share.plan bounce o w

  all-onto : (mediator lane : ℕ) (tags : List ℕ) (o : Owner) (w : World) → delivered_all mediator lane tags o (onto w) ≡ onto (delivered_all mediator lane tags o w)
  unfolding delivered_all
  all-onto mediator lane [] o w = refl
  all-onto mediator lane (tag ∷ tags) o w =
      ap (λ (t : Option Tag). delivered_all mediator lane tags o (delivered_from t (bounce_page mediator lane tag) o (onto w))) (moved-tag w lane tag)
      ∙ ap (delivered_all mediator lane tags o) (from-onto (tag_of w lane tag) (bounce_page mediator lane tag) o w)
      ∙ all-onto mediator lane tags o (delivered_from (tag_of w lane tag) (bounce_page mediator lane tag) o w)

  delivered-onto : (st : StatusField) (mediator lane : ℕ) (tags : List ℕ) (o : Owner) (w : World)
      → delivered st mediator lane tags o (onto w) ≡ onto (delivered st mediator lane tags o w)
  delivered-onto st mediator lane tags o w =
      elim (is_success st) as (λ b. cond b (delivered_all mediator lane tags o (onto w)) (onto w) ≡ onto (cond b (delivered_all mediator lane tags o w) w)) [
        | true ↦ all-onto mediator lane tags o w
        | false ↦ refl
      ]

  by-posted : (x : Option Posted) (st : StatusField) (mediator lane : ℕ) (tags : List ℕ) (o : Owner) (w : World)
      → post_by x st mediator lane tags o (onto w) ≡ after (post_by x st mediator lane tags o w)
  unfolding posted_to put_back
  by-posted None st mediator lane tags o w = refl
  by-posted (Some posted) st mediator lane tags o w =
      let v = delivered st mediator lane tags o w in
      ap (λ (u : World). replied reply.Done (posted_to posted lane tags o u)) (delivered-onto st mediator lane tags o w)
      ∙ ap (replied reply.Done) (tags-as lane tags Free (put_back o (stored (image (regions_of o.given) v.host) posted.addr posted.entry) posted.controller v) is.free)

  settled-onto : (c : Command) (st : StatusField) (mediator lane : ℕ) (tags : List ℕ) (o : Owner) (w : World)
      → post_at c st mediator lane tags o (onto w) ≡ after (post_at c st mediator lane tags o w)
  unfolding ran_out_of
  settled-onto c st mediator lane tags o w =
      let v = delivered st mediator lane tags o w in
      let posted = post o.controller c.queue 0 (cid_of c.entry) st in
      either (is_enabled o.controller) (post_by posted st mediator lane tags o (onto w))
      (replied reply.Done (ran_out_of c.queue lane tags o (delivered st mediator lane tags o (onto w))))
      (post_by posted st mediator lane tags o w) (replied reply.Done (ran_out_of c.queue lane tags o v)) (by-posted posted st mediator lane tags o w)
      (ap (λ (u : World). replied reply.Done (ran_out_of c.queue lane tags o u)) (delivered-onto st mediator lane tags o w)
      ∙ ap (replied reply.Done) (tags-as lane tags Free (with_controller o.number (ran_out o.controller c.queue) v) is.free))

  statuses-onto : (lane : ℕ) (tags : List ℕ) (w : World) → statuses_of lane tags (onto w) ≡ statuses_of lane tags w
  unfolding statuses_of
  statuses-onto lane [] w = refl
  statuses-onto lane (tag ∷ tags) w =
      ap (λ (t : Option Tag). status_before (ended_status t) (statuses_of lane tags (onto w))) (moved-tag w lane tag)
      ∙ ap (λ x. status_before x (statuses_of lane tags (onto w))) (status-same (tag_of w lane tag))
      ∙ ap (status_before (ended_status (tag_of w lane tag))) (statuses-onto lane tags w)
    where
      status-same : (t : Option Tag) → ended_status (option_map moved t) ≡ ended_status t
      status-same None = refl
      status-same (Some Free) = ap (λ t. ended_status (Some t)) is.free
      status-same (Some (Taken c rs)) = ap (λ t. ended_status (Some t)) (is.taken c rs)
      status-same (Some (Flying c share standing)) = ap (λ t. ended_status (Some t)) (is.flying c share standing).1
      status-same (Some (Ended c st share)) = ap (λ t. ended_status (Some t)) (is.ended c st share)

  post-onto : (x : Option (List StatusField)) (c : Command) (mediator lane : ℕ) (tags : List ℕ) (o : Owner) (w : World)
      → post_all x c mediator lane tags o (onto w) ≡ after (post_all x c mediator lane tags o w)
  post-onto None c mediator lane tags o w = refl
  post-onto (Some sts) c mediator lane tags o w = settled-onto c (deciding sts) mediator lane tags o w

  -- ---- the step

  pub others-onto : (geometry : Geometry) (e : Event) (w : World) → IsNoSubmit e → step geometry e (onto w) ≡ after (step geometry e w)
  unfolding step
  others-onto geometry (event.Guest guest a) w plain = one (owner_of geometry w guest) w _ _ (λ o. acted-onto geometry a o w)
  others-onto geometry (event.Admin guest) w plain = one (owner_of geometry w guest) w _ _ (λ o. administered-onto o w)
  others-onto geometry (event.Take guest queue lane) w plain =
      one (owner_of geometry w guest) w _ _ (λ o.
      ap (λ (x : Option Lane). for_one x (onto w) (λ l. take_from queue lane l o (onto w))) (lane-of w.lanes lane)
      ∙ laned (slice_get w.lanes lane) w _ _ (λ l. take-onto queue lane l o w))
  others-onto geometry (event.List lane tag addr len) w plain =
      ap (λ (t : Option Tag). for_taken tag t (onto w) (λ c rs. for_owner (owner_of geometry w c.guest) (onto w) (λ o. list_at addr len lane tag c rs o (onto w)))) (moved-tag w lane tag)
      ∙ taken tag (tag_of w lane tag) w _ _ (λ c rs. owned (owner_of geometry w c.guest) w _ _ (λ o. list-onto addr len lane tag c rs o w))
  others-onto geometry (event.Submit lane tag) w plain = absurd plain
  others-onto geometry (event.GiveUp lane tag) w plain =
      let more : List ℕ → Command → List ReadDone → After = λ ts c rs. replied reply.Done (ended_at_once lane ts c (done_with InternalError) (onto w)) in
      ap (λ (ts : List ℕ). for_taken tag (tag_of (onto w) lane tag) (onto w) (more ts)) (group-same w lane tag)
      ∙ ap (λ (t : Option Tag). for_taken tag t (onto w) (more (group w lane tag))) (moved-tag w lane tag)
      ∙ taken tag (tag_of w lane tag) w _ _ (λ c rs. ap (replied reply.Done) (at-once lane (group w lane tag) c (done_with InternalError) w))
  others-onto geometry (event.DevTake lane) w plain = absurd plain
  others-onto geometry (event.DevMove lane slot number) w plain = absurd plain
  others-onto geometry (event.DevPost lane slot) w plain = absurd plain
  others-onto geometry (event.DevFail lane slot st) w plain = absurd plain
  others-onto geometry (event.Keep block) w plain = absurd plain
  others-onto geometry (event.Reap lane) w plain =
      ap (λ (x : Option Lane). for_one x (onto w) (λ l. for_one (slice_get w.device lane) (onto w) (λ d. reap geometry lane l d (onto w)))) (lane-of w.lanes lane)
      ∙ laned (slice_get w.lanes lane) w _ _ (λ l. one (slice_get w.device lane) w _ _ (λ d. reap-onto geometry lane l d w))
  others-onto geometry (event.Post lane tag) w plain =
      let more : List ℕ → Command → After = λ ts c. for_owner (owner_of geometry w c.guest) (onto w) (λ o.
      post_all (statuses_of lane ts (onto w)) c geometry.mediator lane ts o (onto w)) in
      ap (λ (ts : List ℕ). for_ended tag (tag_of (onto w) lane tag) (onto w) (more ts)) (group-same w lane tag)
      ∙ ap (λ (t : Option Tag). for_ended tag t (onto w) (more (group w lane tag))) (moved-tag w lane tag)
      ∙ ended tag (tag_of w lane tag) w _ _ (λ c. owned (owner_of geometry w c.guest) w _ _ (λ o.
      ap (λ (x : Option (List StatusField)). post_all x c geometry.mediator lane (group w lane tag) o (onto w)) (statuses-onto lane (group w lane tag) w)
      ∙ post-onto (statuses_of lane (group w lane tag) w) c geometry.mediator lane (group w lane tag) o w))
