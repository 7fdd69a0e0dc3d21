-- A Reap, from the lane to the world.
use Rattle.std.proofs.Common.{◌≡◌, ℕ, zero, suc, ◌<◌, ◌≤◌, Bool, true, false, cond, List, [], ◌∷◌, get_or, length, set, slice_get, Option, Some, None, arith, refl, sym, ap, ◌∙◌, eq-eqb, subst}
use Rattle.std.proofs.lemmas.Bool.{ne_eqb}
use Rattle.std.proofs.lemmas.Option.{slice_get_past}
use Rattle.std.specs.List.{slice_index_or}
use Rattle.nv_core.specs.State.{IsOf, IsStep, State, world_of}
use Rattle.nv_core.specs.Tags.{is_flying, state_in}
use Rattle.nv_core.proofs.Placed.{same-size}
use Rattle.nv_core.proofs.GroupWorlds.{looked-up}
use Rattle.nv_device.specs.Physical.{lane_of, no_lane}
use Rattle.nv_entry.specs.Completion.{cid_of as completed_cid, sqid_of, status_of}
use Rattle.nv_entry.specs.Status.{StatusField}
use Rattle.nv_laws_sound.proofs.Lists.{set-same, slice_get-below, slice_get-there}
use Rattle.nv_laws_sound.proofs.ReapEvents.{IsAnsweredAt, answered-at, ended-is}
use Rattle.nv_laws_sound.proofs.Rings.{between-head, far-some}
use Rattle.nv_laws_sound.specs.Consistent.{IsLane}
use Rattle.nv_model.specs.Memory.{byte_in, bytes_from}
use Rattle.nv_model.specs.Queue.{cqe_size, is_empty}
use Rattle.nv_model.specs.declared.reply.Reply.TheVariants as reply
use Rattle.nv_tags.specs.declared.state.TagState.TheVariants as state
use Rattle.nv_world_model.specs.Area.{completion_slot, queue_pair, tag_count}
use Rattle.nv_world_model.specs.Device.{DeviceLane, Held}
use Rattle.nv_world_model.specs.Geometry.{Geometry}
use Rattle.nv_world_model.specs.Seat.{completion_at}
use Rattle.nv_world_model.specs.Share.{Share}
use Rattle.nv_world_model.specs.Step.{After, completion_read, ended_at, for_one, passed_on, reap, reaped, replied, step}
use Rattle.nv_world_model.specs.World.{Answered, Command, Ended, Flying, Free, Lane, Standing, Tag, Taken, World, tag_changed, tag_of, with_lane}
use Rattle.nv_world_model.specs.declared.event.Event.TheVariants as event

-- what is there is what is looked up
pub slice_get-or : {X : Type 0} (xs : List X) (i : ℕ) (x : X) → i < length xs → slice_get xs i ≡ Some (slice_index_or xs i x)
slice_get-or [] i x below = absurd (omega arith)
slice_get-or (y ∷ ys) zero x below = refl
slice_get-or (y ∷ ys) (suc i) x below = slice_get-or ys i x (omega arith)

-- the event of a lane that is there
reap-step : (geometry : Geometry) (lane : ℕ) (l : Lane) (d : DeviceLane) (w : World) → slice_get w.lanes lane ≡ Some l → slice_get w.device lane ≡ Some d
    → step geometry (event.Reap lane) w ≡ reap geometry lane l d w
unfolding step
reap-step geometry lane l d w at there =
    ap (λ (x : Option Lane). for_one x w (λ k. for_one (slice_get w.device lane) w (λ e. reap geometry lane k e w))) at
    ∙ ap (λ (x : Option DeviceLane). for_one x w (λ e. reap geometry lane l e w)) there

-- the tag whose completion is read next
pub record IsNext (geometry : Geometry) (lane : ℕ) (host : ℕ → ℕ) (l : Lane) : Type 0 where
  pub tag : ℕ
  pub command : Command
  pub share : Share
  pub below : tag < tag_count
  pub flies : slice_get l.tags tag ≡ Some (Flying command share (Answered l.head))
  pub named : completed_cid (bytes_from host (completion_slot geometry.mediator lane l.head) cqe_size) ≡ tag
  pub queue : sqid_of (bytes_from host (completion_slot geometry.mediator lane l.head) cqe_size) ≡ queue_pair lane

next-by : (geometry : Geometry) (lane tag : ℕ) (host : ℕ → ℕ) (l : Lane) (held : Option Held) (t : Tag) → IsAnsweredAt geometry lane tag l.head host held t
    → slice_get l.tags tag ≡ Some t → tag < tag_count → IsNext geometry lane host l
next-by geometry lane tag host l held t a there below =
    record {
      tag = tag;
      command = a.command;
      share = a.share;
      below = below;
      flies = there ∙ ap (λ (u : Tag). Some u) a.flies;
      named = a.identifier;
      queue = a.queue;
    }

next-is : (geometry : Geometry) (lane : ℕ) (host : ℕ → ℕ) (l : Lane) (d : DeviceLane) → IsLane geometry lane host l d → (l.head ≡ d.posted → ⊥)
    → IsNext geometry lane host l
next-is geometry lane host l d is waits =
    let next = is.answered l.head (between-head l.head d.posted is.positions.read is.positions.posted (far-some l.head d.posted is.positions.read is.positions.posted waits)) in
    let tags = is.positions.tags in
    let sized = is.positions.held in
    let among = slice_get-below l.tags next.tag next.there next.is in
    let held = slice_get-there d.held next.tag (omega (arith, tags, sized, among)) in
    next-by geometry lane next.tag host l held.0 next.there
    (answered-at geometry lane next.tag l.head host l.head d held.0 next.there (is.tags next.tag next.there held.0 next.is held.1) next.stands) next.is (omega (arith, tags, among))

-- in any world: the lane whose next completion was read, and has ended its tag
pub reaped-as : (w : World) (lane cid : ℕ) (l mid l_new : Lane) (command : Command) (share : Share) (standing : Standing) (completion target : List ℕ)
    (st passed : StatusField) → slice_get w.lanes lane ≡ Some l → slice_get l.tags cid ≡ Some (Flying command share standing)
    → st ≡ status_of completion → passed ≡ passed_on st
    → ((c : Command) (x : Share) (at : Standing) → slice_get l.tags cid ≡ Some (Flying c x at) → mid ≡ tag_changed cid (Ended c passed (Some x)) l)
    → l_new ≡ completion_read mid → cid ≡ completed_cid completion → completion ≡ target
    → (let v : World = record w { lanes = set w.lanes lane l_new } in v) ≡ reaped lane target w
unfolding reaped
reaped-as w lane cid l mid l_new command share standing completion target st passed found flies told by ends reads named same =
    let behind : Lane = completion_read (tag_changed cid (Ended command (passed_on (status_of completion)) (Some share)) l) in
    let lane_is : l_new ≡ behind =
    reads ∙ ap completion_read (ends command share standing flies
    ∙ ap (λ (x : StatusField). tag_changed cid (Ended command x (Some share)) l) (by ∙ ap passed_on told)) in
    ap (λ (k : Lane). let v : World = record w { lanes = set w.lanes lane k } in v) lane_is
    ∙ sym (ended-is w lane cid l command share standing (status_of completion) found flies)
    ∙ ap (λ (n : ℕ). ended_at (tag_of w lane n) (status_of completion) lane n (with_lane lane completion_read w)) named
    ∙ ap (λ (bytes : List ℕ). reaped lane bytes w) same

-- a tag whose part is with the physical controller
pub record IsAloft (t : Option Tag) : Type 0 where
  pub command : Command
  pub share : Share
  pub at : Standing
  pub is : t ≡ Some (Flying command share at)

pub aloft : (t : Option Tag) → is_flying t ≡ true → IsAloft t
aloft None e = cc
aloft (Some Free) e = cc
aloft (Some (Taken command reads)) e = cc
aloft (Some (Flying command share at)) e = record { command = command; share = share; at = at; is = refl }
aloft (Some (Ended command st share)) e = cc

module _ (geometry : Geometry) (s old : State) (lane : ℕ) (same : s ≡ old) where
  -- no such lane
  pub reap-no_lane : length s.lanes ≤ lane → IsStep geometry (event.Reap lane) old reply.Ignored old
  unfolding step
  reap-no_lane past =
      let w = world_of s in
      subst (λ (o : State). IsStep geometry (event.Reap lane) o reply.Ignored o) same
      (record {
        after =
            sym (ap (λ (x : Option Lane). for_one x w (λ k. for_one (slice_get w.device lane) w (λ e. reap geometry lane k e w))) (slice_get_past s.lanes lane past));
        size = same-size s;
      })

  module _ (of : IsOf geometry old) (i : ℕ) (l : Lane) (at : i ≡ lane) (below : i < length s.lanes) (has : l ≡ get_or s.lanes i l) where
    abbrev d : DeviceLane
    d = lane_of s.device lane

    here : IsOf geometry s
    here = subst (λ (o : State). IsOf geometry o) (sym same) of

    found : slice_get s.lanes lane ≡ Some l
    found = looked-up s.lanes lane i l at below has

    there : slice_get s.device.lanes lane ≡ Some d
    there = slice_get-or s.device.lanes lane no_lane (let sides = here.consistent.of_tags.sides in omega arith)

    is : IsLane geometry lane (byte_in s.host) l d
    is = here.consistent.of_tags.lanes lane l d found there

    -- the ring is empty
    pub reap-idle : (head posted : ℕ) → head ≡ l.head → posted ≡ d.posted → head ≡ posted
        → IsStep geometry (event.Reap lane) old reply.Idle (record s { lanes = set s.lanes i l })
    reap-idle head posted h p equal =
        let w = world_of s in
        let e : is_empty l.head d.posted ≡ true = eq-eqb l.head d.posted (sym h ∙ equal ∙ p) in
        subst (λ (o : State). IsStep geometry (event.Reap lane) o reply.Idle (record s { lanes = set s.lanes i l })) same
        (subst (λ (k : ℕ). IsStep geometry (event.Reap lane) s reply.Idle (record s { lanes = set s.lanes k l })) (sym at)
        (record {
          after =
              ap (λ (ls : List Lane). let a : After = record { world = record w { lanes = ls }; reply = reply.Idle } in a) (set-same s.lanes lane l found)
              ∙ sym (reap-step geometry lane l d w found there
              ∙ ap (λ (b : Bool). cond b (replied reply.Idle w) (replied reply.Done (reaped lane (completion_at geometry w lane l.head) w))) e);
          size = record { host = refl; mediator = refl; blocks = refl };
        }))

    module _ (head posted : ℕ) (h : head ≡ l.head) (p : posted ≡ d.posted) (waits : head ≡ posted → ⊥) where
      next : IsNext geometry lane (byte_in s.host) l
      next = next-is geometry lane (byte_in s.host) l d is (λ equal. waits (h ∙ equal ∙ sym p))

      module _ (addr cid : ℕ) (completion : List ℕ) (located : addr ≡ completion_slot s.device.mediator lane head)
          (read : completion ≡ bytes_from (byte_in s.host) addr cqe_size) (named : cid ≡ completed_cid completion) where
        completion-is : completion ≡ completion_at geometry (world_of s) lane l.head
        completion-is =
            read ∙ ap (λ (a : ℕ). bytes_from (byte_in s.host) a cqe_size)
            (located ∙ ap (λ (m : ℕ). completion_slot m lane head) here.mediator ∙ ap (completion_slot geometry.mediator lane) h)

        tag-is : cid ≡ next.tag
        tag-is = named ∙ ap completed_cid completion-is ∙ next.named

        pub queue-named : sqid_of completion ≡ queue_pair lane
        queue-named = ap sqid_of completion-is ∙ next.queue

        pub cid-below : cid < tag_count
        cid-below = let below_tag = next.below in let equal = tag-is in omega arith

        pub cid-flies : state_in (slice_get l.tags cid) ≡ Some state.Flying
        cid-flies = ap (λ (t : ℕ). state_in (slice_get l.tags t)) tag-is ∙ ap state_in next.flies

        pub reap-done : (st passed : StatusField) (mid l_new : Lane) → st ≡ status_of completion → passed ≡ passed_on st
            → ((command : Command) (share : Share) (standing : Standing) → slice_get l.tags cid ≡ Some (Flying command share standing)
            → mid ≡ tag_changed cid (Ended command passed (Some share)) l) → l_new ≡ completion_read mid
            → IsStep geometry (event.Reap lane) old reply.Done (record s { lanes = set s.lanes i l_new })
        reap-done st passed mid l_new told by ends reads =
            let w = world_of s in
            let e : is_empty l.head d.posted ≡ false = ne_eqb l.head d.posted (λ equal. waits (h ∙ equal ∙ sym p)) in
            let flies : slice_get l.tags cid ≡ Some (Flying next.command next.share (Answered l.head)) = ap (slice_get l.tags) tag-is ∙ next.flies in
            subst (λ (o : State). IsStep geometry (event.Reap lane) o reply.Done (record s { lanes = set s.lanes i l_new })) same
            (subst (λ (k : ℕ). IsStep geometry (event.Reap lane) s reply.Done (record s { lanes = set s.lanes k l_new })) (sym at)
            (record {
              after =
                  ap (λ (v : World). let a : After = record { world = v; reply = reply.Done } in a)
                  (reaped-as w lane cid l mid l_new next.command next.share (Answered l.head) completion (completion_at geometry w lane l.head) st passed
                  found flies told by ends reads named completion-is)
                  ∙ sym (reap-step geometry lane l d w found there
                  ∙ ap (λ (b : Bool). cond b (replied reply.Idle w) (replied reply.Done (reaped lane (completion_at geometry w lane l.head) w))) e);
              size = record { host = refl; mediator = refl; blocks = refl };
            }))
