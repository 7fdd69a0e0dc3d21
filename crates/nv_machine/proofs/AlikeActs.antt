-- What calls for a guest do comes to the same in sides that are alike to it.
use Rattle.std.proofs.Common.{◌≡◌, ℕ, Bool, true, false, cond, ◌&&◌, ◌==◌, replicate, List, [], ◌∷◌, ◌++◌, All, slice_get, take, Option, Some, None}
use Rattle.std.proofs.Common.{refl, sym, ap, subst}
use Rattle.nv_entry.specs.Completion.{cid_of as completed_cid, phase_of, sqid_of, status_of}
use Rattle.nv_entry.specs.Status.{StatusField, bit}
use Rattle.nv_entry.specs.StatusCode.{done_with}
use Rattle.nv_entry.specs.declared.status_code.StatusCode.TheVariants.{Success}
use Rattle.nv_entry.specs.Submission.{cid_of}
use Rattle.nv_machine.proofs.AdminWords.{no_memory}
use Rattle.nv_machine.specs.Alike.{ComeToAlike}
use Rattle.nv_entry.specs.Layout.{number_bytes}
use Rattle.nv_machine.specs.Doing.{Called, Doing, controller_put, for_ended, for_one, for_owner, for_taken, lane_changed, replied, stray}
use Rattle.nv_machine.specs.Doing.{tag_at, tag_put}
use Rattle.nv_machine.specs.Effects.{Effect}
use Rattle.nv_machine.specs.Machine.{acted_in, admin_stores, administered_in, answered_with, carried_out, carry_out, completed_with, controlled}
use Rattle.nv_machine.specs.Machine.{deletion_done, ended_at, ended_at_once, front_done, handed_on, in_order, is_flying, is_new}
use Rattle.nv_machine.specs.Machine.{post_all, post_at, post_by, ready_done, reap, reaped_by}
use Rattle.nv_machine.specs.Machine.{submit_by, submitted_on, take_from, take_front, take_tags}
use Rattle.nv_machine.proofs.AlikeGroups.{claimed-same, delivery-alike}
use Rattle.nv_machine.proofs.AlikeSides.{AreFound, ChangesAlike, AreLanes, AreSame, BothLanes, NoLane, lanes-found, same-controller, same-lane, same-replied, same-tag, same-tags}
use Rattle.nv_machine.proofs.AlikeSides.{same-tail, same-told}
use Rattle.nv_model.specs.Admin.{AdminEffect, answered, is_queue_full}
use Rattle.nv_model.specs.Controller.{Controller, Deletion, Posted, completion_queue, front, post, with_submission}
use Rattle.nv_model.specs.Queue.{next_slot}
use Rattle.nv_model.specs.Transcript.{Outcome, ReadDone, Settled, Wanted}
use Rattle.nv_model.specs.declared.act.Act.{Act}
use Rattle.nv_model.specs.declared.act.Act.TheVariants as act
use Rattle.nv_model.specs.declared.reply.Reply.{Reply}
use Rattle.nv_model.specs.declared.reply.Reply.TheVariants as reply
use Rattle.nv_world_model.specs.Area.{queue_pair, ring_size}
use Rattle.nv_world_model.specs.Device.{next_phase}
use Rattle.nv_world_model.specs.Plan.{Answer, Bounced, Direct, NoData, Plan}
use Rattle.nv_world_model.specs.Seat.{Owner, owner_by}
use Rattle.nv_world_model.specs.Share.{Share}
use Rattle.nv_world_model.specs.ShareArea.{is_no_command}
use Rattle.nv_world_model.specs.Step.{completion_read, deciding, is_io_queue}
use Rattle.nv_world_model.specs.View.{LaneNumbers, is_tag_of}
use Rattle.nv_world_model.specs.World.{Command, Ended, Flying, Free, Lane, Tag, Taken}

-- the number of an owner
pub owner-number : (number : ℕ) (g : _) (c : _) (o : Owner) → owner_by number g c ≡ Some o → o.number ≡ number
owner-number number None c o is = cc
owner-number number (Some guest) None o is = cc
owner-number number (Some guest) (Some c) o is = cc

module _ (number : ℕ) where
  abbrev Alike : Called → Called → Type 0
  Alike c d = ComeToAlike number c d

  -- ---- cases

  pub both-cond : (b : Bool) (c d x y : Called) → Alike c x → Alike d y → Alike (cond b c d) (cond b x y)
  both-cond true c d x y so not_so = so
  both-cond false c d x y so not_so = not_so

  module _ (m n : Doing) (same : AreSame number m n) where
    -- nothing is done
    told-only : (r : Reply) → Alike (replied r m) (replied r n)
    told-only r = same-replied number r m n same

    pub both-one : {A : Type 0} (o p : Option A) (j k : A → Called) → o ≡ p → ((x : A) → o ≡ Some x → Alike (j x) (k x)) → Alike (for_one o m j) (for_one p n k)
    both-one o p j k are each = subst (λ q. Alike (for_one o m j) (for_one q n k)) are (by o refl)
      where
        by : (q : _) → o ≡ q → Alike (for_one q m j) (for_one q n k)
        by None is = told-only reply.Ignored
        by (Some x) is = each x is

    pub both-owner : (o p : Option Owner) (j k : Owner → Called) → o ≡ p → ((x : Owner) → o ≡ Some x → Alike (j x) (k x))
        → Alike (for_owner o m j) (for_owner p n k)
    both-owner o p j k are each = subst (λ q. Alike (for_owner o m j) (for_owner q n k)) are (by o refl)
      where
        by : (q : Option Owner) → o ≡ q → Alike (for_owner q m j) (for_owner q n k)
        by None is = told-only reply.Stale
        by (Some x) is = each x is

    pub both-taken : (tag : ℕ) (t u : Option Tag) (j k : Command → List ReadDone → Called) → t ≡ u
        → ((command : Command) (reads : List ReadDone) → t ≡ Some (Taken command reads) → Alike (j command reads) (k command reads))
        → Alike (for_taken tag t m j) (for_taken tag u n k)
    both-taken tag t u j k are each = subst (λ q. Alike (for_taken tag t m j) (for_taken tag q n k)) are (by t refl)
      where
        by : (q : Option Tag) → t ≡ q → Alike (for_taken tag q m j) (for_taken tag q n k)
        by None is = told-only reply.Ignored
        by (Some Free) is = told-only reply.Stale
        by (Some (Taken command reads)) is = both-cond (command.leader == tag) _ _ _ _ (each command reads is) (told-only reply.Stale)
        by (Some (Flying command share standing)) is = told-only reply.Stale
        by (Some (Ended command st share)) is = told-only reply.Stale

    pub both-ended : (tag : ℕ) (t u : Option Tag) (j k : Command → Called) → t ≡ u
        → ((command : Command) (st : StatusField) (share : Option Share) → t ≡ Some (Ended command st share) → Alike (j command) (k command))
        → Alike (for_ended tag t m j) (for_ended tag u n k)
    both-ended tag t u j k are each = subst (λ q. Alike (for_ended tag t m j) (for_ended tag q n k)) are (by t refl)
      where
        by : (q : Option Tag) → t ≡ q → Alike (for_ended tag q m j) (for_ended tag q n k)
        by None is = told-only reply.Ignored
        by (Some Free) is = told-only reply.Stale
        by (Some (Taken command reads)) is = told-only reply.Stale
        by (Some (Flying command share standing)) is = told-only reply.Stale
        by (Some (Ended command st share)) is = both-cond (command.leader == tag) _ _ _ _ (each command st share is) (told-only reply.Stale)

    -- ---- a guest's acts, and Admin

    module _ (o : Owner) (whose : o.number ≡ number) where
      put : (c : Controller) (x y : Doing) → AreSame number x y → AreSame number (controller_put o.number c x) (controller_put o.number c y)
      put c x y are = subst (λ k. AreSame number (controller_put k c x) (controller_put k c y)) (sym whose) (same-controller number c x y are)

      pub both-controlled : (c : Option Controller) → Alike (controlled c o m) (controlled c o n)
      both-controlled None = told-only reply.Ignored
      both-controlled (Some c) = same-replied number reply.Done _ _ (put c m n same)

      pub both-register : (value : Option ℕ) → Alike (for_one value m (λ value. replied (reply.Bytes (number_bytes 4 value)) m))
          (for_one value n (λ value. replied (reply.Bytes (number_bytes 4 value)) n))
      both-register None = told-only reply.Ignored
      both-register (Some value) = told-only _

      pub both-acted : (a : Act) (fetched : List ℕ) → Alike (acted_in a fetched o m) (acted_in a fetched o n)
      both-acted (act.Store addr bytes) fetched =
          both-cond _ _ _ _ _ (same-replied number reply.Done _ _ (same-told number _ m n same)) (told-only reply.Unmapped)
      both-acted (act.Load addr len) fetched = both-cond _ _ _ _ _ (told-only (reply.Bytes fetched)) (told-only reply.Unmapped)
      both-acted (act.RegRead offset) fetched = both-register _
      both-acted (act.RegWrite offset value) fetched = both-controlled _
      both-acted (act.Doorbell offset value) fetched = both-controlled _

      pub both-completed : (p : Option Posted) (effects : List Effect) → Alike (completed_with p effects o m) (completed_with p effects o n)
      both-completed None effects = told-only reply.Held
      both-completed (Some p) effects =
          same-replied number reply.Done _ _ (same-told number _ (controller_put o.number p.controller m) (controller_put o.number p.controller n) (put p.controller m n same))

      pub both-answered : (answer : Option (ℕ × StatusField)) (cid : ℕ) (c : Controller) (effects : List Effect)
          → Alike (answered_with answer cid c effects o m) (answered_with answer cid c effects o n)
      both-answered None cid c effects =
          same-replied number reply.Done _ _ (same-told number effects (controller_put o.number c m) (controller_put o.number c n) (put c m n same))
      both-answered (Some answer) cid c effects = both-completed (post c 0 answer.0 cid answer.1) effects

      pub both-deleted : (d : Deletion) → Alike (deletion_done d o m) (deletion_done d o n)
      both-deleted d =
          let done : AdminEffect = answered 0 (record (with_submission o.controller d.queue None) { deletion = None }) no_memory in
          both-cond _ _ _ _ _ (told-only reply.Idle) (both-cond _ _ _ _ _ (told-only reply.Held) (both-answered done.answer d.cid done.controller []))

      pub both-front : (addr : Option ℕ) (entry : List ℕ) → Alike (front_done addr entry o m) (front_done addr entry o n)
      both-front None entry = told-only reply.Idle
      both-front (Some addr) entry =
          both-cond (is_queue_full (completion_queue o.controller 0)) _ _ _ _ (told-only reply.Held) (both-answered _ (cid_of entry) _ (admin_stores entry o.given))

      pub both-ready : (d : Option Deletion) (entry : List ℕ) → Alike (ready_done d entry o m) (ready_done d entry o n)
      both-ready None entry = both-front (front o.controller 0) entry
      both-ready (Some d) entry = both-deleted d

      pub both-administered : (entry : List ℕ) → Alike (administered_in entry o m) (administered_in entry o n)
      both-administered entry = both-cond _ _ _ _ _ (both-ready o.controller.deletion entry) (told-only reply.Idle)

      -- ---- Take

      pub both-took : (tags : Option (List ℕ)) (queue lane : ℕ) (entry : List ℕ) → Alike (take_tags tags queue lane entry o m) (take_tags tags queue lane entry o n)
      both-took None queue lane entry = told-only reply.Busy
      both-took (Some tags) queue lane entry = same-replied number reply.Done _ _ (same-tags number lane tags _ _ _ (put _ m n same))

      pub both-fronts : (addr : Option ℕ) (queue lane : ℕ) (l k : Lane) (entry : List ℕ) → AreLanes number l k
          → Alike (take_front addr queue lane l entry o m) (take_front addr queue lane k entry o n)
      both-fronts None queue lane l k entry lanes = told-only reply.Idle
      both-fronts (Some addr) queue lane l k entry lanes =
          let free = ap (λ (ns : LaneNumbers). ns.free) lanes.numbers in
          subst (λ c. Alike (take_front (Some addr) queue lane l entry o m) (take_tags c queue lane entry o n)) (claimed-same _ l.tags k.tags free)
          (both-took _ queue lane entry)

      pub both-taking : (queue lane : ℕ) (entry : List ℕ) → Alike (for_one (slice_get m.side.lanes lane) m (λ l. take_from queue lane l entry o m))
          (for_one (slice_get n.side.lanes lane) n (λ l. take_from queue lane l entry o n))
      both-taking queue lane entry = by (lanes-found number m.side n.side lane same.sides)
        where
          by : AreFound number (slice_get m.side.lanes lane) (slice_get n.side.lanes lane)
              → Alike (for_one (slice_get m.side.lanes lane) m (λ l. take_from queue lane l entry o m))
              (for_one (slice_get n.side.lanes lane) n (λ l. take_from queue lane l entry o n))
          by (NoLane none also) = rw (none, also) (told-only reply.Ignored)
          by (BothLanes l k is also lanes) =
              rw (is, also) (both-cond (is_io_queue queue) _ _ _ _ (both-fronts (front o.controller queue) queue lane l k entry lanes) (told-only reply.Ignored))

      -- ---- Post

      pub both-posted : (p : Option Posted) (delivered : List Effect) (lane : ℕ) (tags : List ℕ)
          → Alike (post_by p delivered lane tags o m) (post_by p delivered lane tags o n)
      both-posted None delivered lane tags = told-only reply.Held
      both-posted (Some p) delivered lane tags =
          same-replied number reply.Done _ _ (same-tags number lane tags Free _ _ (put p.controller _ _ (same-told number _ m n same)))

      pub both-at : (command : Command) (st : StatusField) (delivered : List Effect) (lane : ℕ) (tags : List ℕ)
          → Alike (post_at command st delivered lane tags o m) (post_at command st delivered lane tags o n)
      both-at command st delivered lane tags =
          both-cond _ _ _ _ _ (both-posted _ delivered lane tags)
          (same-replied number reply.Done _ _ (same-tags number lane tags Free _ _ (put _ _ _ (same-told number delivered m n same))))

      pub both-all : (sts : Option (List StatusField)) (command : Command) (mediator lane : ℕ) (tags : List ℕ)
          → All (λ n. is_tag_of number (tag_at m.side lane n) ≡ true) tags
          → Alike (post_all sts command mediator lane tags o m) (post_all sts command mediator lane tags o n)
      both-all None command mediator lane tags own = told-only reply.Stale
      both-all (Some sts) command mediator lane tags own =
          subst (λ es. Alike (post_all (Some sts) command mediator lane tags o m) (post_at command (deciding sts) es lane tags o n))
          (delivery-alike number m.side n.side same.sides lane mediator o.given (deciding sts) tags own)
          (both-at command (deciding sts) _ lane tags)

  -- ---- Submit and GiveUp

  pub both-once : (lane : ℕ) (tags : List ℕ) (command : Command) (st : StatusField) (m n : Doing) → AreSame number m n
      → AreSame number (ended_at_once lane tags command st m) (ended_at_once lane tags command st n)
  both-once lane [] command st m n same = same
  both-once lane (tag ∷ tags) command st m n same = same-tags number lane tags _ _ _ (same-tag number lane tag _ m n same)

  module _ (mediator lane : ℕ) (command : Command) (o : Owner) where
    pub both-submitted : (t : Option ℕ) (tag : ℕ) (share : Share) (m n : Doing) → AreSame number m n
        → AreSame number (submitted_on t mediator lane tag command share o m) (submitted_on t mediator lane tag command share o n)
    both-submitted None tag share m n same = same
    both-submitted (Some tail) tag share m n same =
        same-tag number lane tag _ _ _ (same-tail number lane _ _ _ (same-told number _ m n same))

    pub both-carried : (tag : ℕ) (share : Share) (m n : Doing) → AreSame number m n
        → AreSame number (carried_out mediator lane tag command share o m) (carried_out mediator lane tag command share o n)
    both-carried tag share m n same = by (is_no_command share)
      where
        tails : AreSame number (submitted_on (slice_get m.side.tails lane) mediator lane tag command share o m)
            (submitted_on (slice_get n.side.tails lane) mediator lane tag command share o n)
        tails =
            subst (λ ts. AreSame number (submitted_on (slice_get m.side.tails lane) mediator lane tag command share o m)
            (submitted_on (slice_get ts lane) mediator lane tag command share o n)) same.sides.tails
            (both-submitted (slice_get m.side.tails lane) tag share m n same)

        by : (b : Bool)
            → AreSame number (cond b (tag_put lane tag (Ended command (done_with Success) (Some share)) m) (submitted_on (slice_get m.side.tails lane) mediator lane tag command share o m))
            (cond b (tag_put lane tag (Ended command (done_with Success) (Some share)) n) (submitted_on (slice_get n.side.tails lane) mediator lane tag command share o n))
        by true = same-tag number lane tag _ m n same
        by false = tails

    pub both-handed : (tags : List ℕ) (shares : List Share) (m n : Doing) → AreSame number m n
        → AreSame number (handed_on mediator lane tags shares command o m) (handed_on mediator lane tags shares command o n)
    unfolding handed_on
    both-handed [] shares m n same = same
    both-handed (tag ∷ tags) [] m n same = same
    both-handed (tag ∷ tags) (share ∷ shares) m n same = both-handed tags shares _ _ (both-carried tag share m n same)

    pub both-planned : (plan : Plan) (tags : List ℕ) (m n : Doing) → AreSame number m n
        → AreSame number (carry_out plan mediator lane tags command o m) (carry_out plan mediator lane tags command o n)
    both-planned (Answer st) tags m n same = both-once lane tags command st m n same
    both-planned (NoData work) tags m n same = both-handed tags _ m n same
    both-planned (Direct work) tags m n same = both-handed tags _ m n same
    both-planned (Bounced work) tags m n same = both-handed tags _ m n same

    pub both-submit : (outcome : Outcome Plan) (tags : List ℕ) (m n : Doing) → AreSame number m n
        → Alike (submit_by outcome mediator lane tags command o m) (submit_by outcome mediator lane tags command o n)
    both-submit (Wanted addr len) tags m n same = same-replied number reply.Stale m n same
    both-submit (Settled plan) tags m n same = same-replied number reply.Done _ _ (both-planned plan tags m n same)

  -- ---- Reap

  pub both-stray : (m n : Doing) → AreSame number m n → Alike (stray m) (stray n)
  both-stray m n same = record { reply = refl; effects = same.effects; sides = same.sides }

  pub both-ending : (t : Option Tag) (st : StatusField) (lane tag : ℕ) (m n : Doing) → AreSame number m n
      → AreSame number (ended_at t st lane tag m) (ended_at t st lane tag n)
  both-ending None st lane tag m n same = same
  both-ending (Some Free) st lane tag m n same = same
  both-ending (Some (Taken command reads)) st lane tag m n same = same
  both-ending (Some (Flying command share standing)) st lane tag m n same = same-tag number lane tag _ m n same
  both-ending (Some (Ended command other share)) st lane tag m n same = same

  read-alike : ChangesAlike number completion_read
  read-alike l k each = record { numbers = ap read each.numbers; tags = each.tags }
    where
      read : LaneNumbers → LaneNumbers
      read ns = record { head = next_slot ring_size ns.head; phase = next_phase ns.head ns.phase; free = ns.free }

  pub both-reaped : (lane : ℕ) (l k : Lane) (completion : List ℕ) → slice_get l.tags (completed_cid completion) ≡ slice_get k.tags (completed_cid completion)
      → (m n : Doing) → AreSame number m n → Alike (reaped_by lane l completion m) (reaped_by lane k completion n)
  both-reaped lane l k completion tags m n same =
      let cid : ℕ = completed_cid completion in
      subst (λ t. Alike (reaped_by lane l completion m)
      (cond (sqid_of completion == queue_pair lane && is_flying t)
      (replied reply.Done (ended_at t (status_of completion) lane cid (lane_changed lane completion_read n))) (stray n))) tags
      (both-cond (sqid_of completion == queue_pair lane && is_flying (slice_get l.tags cid)) _ _ _ _
      (same-replied number reply.Done _ _ (both-ending (slice_get l.tags cid) (status_of completion) lane cid _ _ (same-lane number lane completion_read read-alike m n same)))
      (both-stray m n same))

  pub both-reap : (lane : ℕ) (l k : Lane) (fetched : List ℕ) → AreLanes number l k
      → slice_get l.tags (completed_cid (in_order fetched)) ≡ slice_get k.tags (completed_cid (in_order fetched))
      → (m n : Doing) → AreSame number m n → Alike (reap lane l fetched m) (reap lane k fetched n)
  both-reap lane l k fetched lanes tags m n same =
      let phase : l.phase ≡ k.phase = ap (λ (ns : LaneNumbers). ns.phase) lanes.numbers in
      subst (λ p. Alike (reap lane l fetched m)
      (cond (phase_of (replicate 12 0 ++ take 4 fetched) == bit p) (reaped_by lane k (in_order fetched) n) (replied reply.Idle n))) phase
      (both-cond (is_new l (take 4 fetched)) _ _ _ _ (both-reaped lane l k (in_order fetched) tags m n same) (same-replied number reply.Idle m n same))
