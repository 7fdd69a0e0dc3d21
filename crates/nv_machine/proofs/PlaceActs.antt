-- What calls do comes to the same in sides that are the same but for the places of parts.
use Rattle.std.proofs.Common.{◌≡◌, ℕ, Bool, true, false, cond, ◌&&◌, nat_le, ◌==◌, List, [], ◌∷◌, slice_get, take, Option, Some, None}
use Rattle.std.proofs.Common.{refl, sym, ap, ◌∙◌, subst}
use Rattle.std.specs.Option.{option_map}
use Rattle.std.proofs.lemmas.Option.{slice_get-map}
use Rattle.nv_entry.specs.Completion.{cid_of as completed_cid, sqid_of, status_of}
use Rattle.nv_entry.specs.Layout.{number_bytes}
use Rattle.nv_entry.specs.Status.{StatusField}
use Rattle.nv_entry.specs.StatusCode.{done_with}
use Rattle.nv_entry.specs.Submission.{cid_of}
use Rattle.nv_entry.specs.declared.status_code.StatusCode.TheVariants.{Success}
use Rattle.nv_laws_sound.specs.Unplaced.{unplaced_lane, unplaced_tag}
use Rattle.nv_machine.proofs.AdminWords.{no_memory}
use Rattle.nv_machine.specs.Doing.{Called, Doing, controller_put, for_ended, for_one, for_owner, for_taken, lane_changed, replied, stray}
use Rattle.nv_machine.specs.Doing.{tag_put}
use Rattle.nv_machine.specs.Effects.{Effect}
use Rattle.nv_machine.specs.Machine.{acted_in, admin_stores, administered_in, answered_with, carried_out, carry_out, completed_with, controlled}
use Rattle.nv_machine.specs.Machine.{deletion_done, ended_at, ended_at_once, front_done, handed_on, in_order, is_flying, is_new, list_at}
use Rattle.nv_machine.specs.Machine.{post_all, post_at, post_by, ready_done, reap, reaped_by}
use Rattle.nv_machine.specs.Machine.{submit_by, submitted_on, take_from, take_front, take_tags}
use Rattle.nv_machine.specs.Unplaced.{ComeToSameButPlaces}
use Rattle.nv_machine.proofs.PlaceSides.{AreSame, claimed-same, delivery-same, lanes-told, same-controller, same-lane, same-replied, same-tag, same-tags}
use Rattle.nv_machine.proofs.PlaceSides.{same-tail, same-told}
use Rattle.nv_model.specs.Admin.{AdminEffect, answered, is_queue_full}
use Rattle.nv_model.specs.Controller.{Controller, Deletion, Posted, completion_queue, front, post, with_submission}
use Rattle.nv_model.specs.Transcript.{Outcome, ReadDone, Settled, Wanted}
use Rattle.nv_model.specs.declared.act.Act.{Act}
use Rattle.nv_model.specs.declared.act.Act.TheVariants as act
use Rattle.nv_model.specs.declared.reply.Reply.{Reply}
use Rattle.nv_model.specs.declared.reply.Reply.TheVariants as reply
use Rattle.nv_world_model.specs.Area.{queue_pair}
use Rattle.nv_world_model.specs.Plan.{Answer, Bounced, Direct, NoData, Plan}
use Rattle.nv_world_model.specs.Seat.{Owner}
use Rattle.nv_world_model.specs.Share.{Share, tags_of_entry}
use Rattle.nv_world_model.specs.ShareArea.{is_no_command}
use Rattle.nv_world_model.specs.Step.{completion_read, deciding, is_io_queue}
use Rattle.nv_world_model.specs.World.{Command, Ended, Flying, Free, Lane, Tag, Taken}

abbrev Same : Called → Called → Type 0
Same c d = ComeToSameButPlaces c d

-- ---- cases

pub both-cond : (b : Bool) (c d x y : Called) → Same c x → Same d y → Same (cond b c d) (cond b x y)
both-cond true c d x y so not_so = so
both-cond false c d x y so not_so = not_so

module _ (m n : Doing) (same : AreSame m n) where
  -- nothing is done
  told-only : (r : Reply) → Same (replied r m) (replied r n)
  told-only r = same-replied r m n same

  pub both-one : {A : Type 0} (o : Option A) (j k : A → Called) → ((x : A) → Same (j x) (k x)) → Same (for_one o m j) (for_one o n k)
  both-one None j k each = told-only reply.Ignored
  both-one (Some x) j k each = each x

  pub both-owner : (o : Option Owner) (j k : Owner → Called) → ((x : Owner) → Same (j x) (k x)) → Same (for_owner o m j) (for_owner o n k)
  both-owner None j k each = told-only reply.Stale
  both-owner (Some x) j k each = each x

  -- a tag that is the same but for its place
  pub both-taken : (tag : ℕ) (t u : Option Tag) (j k : Command → List ReadDone → Called) → option_map unplaced_tag t ≡ option_map unplaced_tag u
      → ((command : Command) (reads : List ReadDone) → Same (j command reads) (k command reads))
      → Same (for_taken tag t m j) (for_taken tag u n k)
  both-taken tag None None j k are each = told-only reply.Ignored
  both-taken tag None (Some u) j k are each = cc
  both-taken tag (Some t) None j k are each = cc
  both-taken tag (Some t) (Some u) j k are each =
      subst (λ c. Same c (for_taken tag (Some u) n k)) (plain t m j)
      (subst (λ c. Same (for_taken tag (Some (unplaced_tag t)) m j) c) (plain u n k)
      (subst (λ o. Same (for_taken tag (Some (unplaced_tag t)) m j) (for_taken tag o n k)) are (by (unplaced_tag t))))
    where
      plain : (x : Tag) (d : Doing) (f : Command → List ReadDone → Called) → for_taken tag (Some (unplaced_tag x)) d f ≡ for_taken tag (Some x) d f
      plain Free d f = refl
      plain (Taken command reads) d f = refl
      plain (Flying command share standing) d f = refl
      plain (Ended command st share) d f = refl

      by : (x : Tag) → Same (for_taken tag (Some x) m j) (for_taken tag (Some x) n k)
      by Free = told-only reply.Stale
      by (Taken command reads) = both-cond (command.leader == tag) _ _ _ _ (each command reads) (told-only reply.Stale)
      by (Flying command share standing) = told-only reply.Stale
      by (Ended command st share) = told-only reply.Stale

  pub both-ended : (tag : ℕ) (t u : Option Tag) (j k : Command → Called) → option_map unplaced_tag t ≡ option_map unplaced_tag u
      → ((command : Command) → Same (j command) (k command)) → Same (for_ended tag t m j) (for_ended tag u n k)
  both-ended tag None None j k are each = told-only reply.Ignored
  both-ended tag None (Some u) j k are each = cc
  both-ended tag (Some t) None j k are each = cc
  both-ended tag (Some t) (Some u) j k are each =
      subst (λ c. Same c (for_ended tag (Some u) n k)) (plain t m j)
      (subst (λ c. Same (for_ended tag (Some (unplaced_tag t)) m j) c) (plain u n k)
      (subst (λ o. Same (for_ended tag (Some (unplaced_tag t)) m j) (for_ended tag o n k)) are (by (unplaced_tag t))))
    where
      plain : (x : Tag) (d : Doing) (f : Command → Called) → for_ended tag (Some (unplaced_tag x)) d f ≡ for_ended tag (Some x) d f
      plain Free d f = refl
      plain (Taken command reads) d f = refl
      plain (Flying command share standing) d f = refl
      plain (Ended command st share) d f = refl

      by : (x : Tag) → Same (for_ended tag (Some x) m j) (for_ended tag (Some x) n k)
      by Free = told-only reply.Stale
      by (Taken command reads) = told-only reply.Stale
      by (Flying command share standing) = told-only reply.Stale
      by (Ended command st share) = both-cond (command.leader == tag) _ _ _ _ (each command) (told-only reply.Stale)

  -- ---- a guest's acts, and Admin

  module _ (o : Owner) where
    put : (c : Controller) (x y : Doing) → AreSame x y → AreSame (controller_put o.number c x) (controller_put o.number c y)
    put c x y are = same-controller o.number c x y are

    both-controlled : (c : Option Controller) → Same (controlled c o m) (controlled c o n)
    both-controlled None = told-only reply.Ignored
    both-controlled (Some c) = same-replied reply.Done _ _ (put c m n same)

    both-register : (value : Option ℕ)
        → Same (for_one value m (λ value. replied (reply.Bytes (number_bytes 4 value)) m)) (for_one value n (λ value. replied (reply.Bytes (number_bytes 4 value)) n))
    both-register None = told-only reply.Ignored
    both-register (Some value) = told-only _

    pub both-acted : (a : Act) (fetched : List ℕ) → Same (acted_in a fetched o m) (acted_in a fetched o n)
    both-acted (act.Store addr bytes) fetched = both-cond _ _ _ _ _ (same-replied reply.Done _ _ (same-told _ m n same)) (told-only reply.Unmapped)
    both-acted (act.Load addr len) fetched = both-cond _ _ _ _ _ (told-only (reply.Bytes fetched)) (told-only reply.Unmapped)
    both-acted (act.RegRead offset) fetched = both-register _
    both-acted (act.RegWrite offset value) fetched = both-controlled _
    both-acted (act.Doorbell offset value) fetched = both-controlled _

    both-completed : (p : Option Posted) (effects : List Effect) → Same (completed_with p effects o m) (completed_with p effects o n)
    both-completed None effects = told-only reply.Held
    both-completed (Some p) effects =
        same-replied reply.Done _ _ (same-told _ (controller_put o.number p.controller m) (controller_put o.number p.controller n) (put p.controller m n same))

    both-answered : (answer : Option (ℕ × StatusField)) (cid : ℕ) (c : Controller) (effects : List Effect)
        → Same (answered_with answer cid c effects o m) (answered_with answer cid c effects o n)
    both-answered None cid c effects =
        same-replied reply.Done _ _ (same-told effects (controller_put o.number c m) (controller_put o.number c n) (put c m n same))
    both-answered (Some answer) cid c effects = both-completed (post c 0 answer.0 cid answer.1) effects

    both-deleted : (d : Deletion) → Same (deletion_done d o m) (deletion_done d o n)
    both-deleted d =
        let done : AdminEffect = answered 0 (record (with_submission o.controller d.queue None) { deletion = None }) no_memory in
        both-cond _ _ _ _ _ (told-only reply.Idle) (both-cond _ _ _ _ _ (told-only reply.Held) (both-answered done.answer d.cid done.controller []))

    both-front : (addr : Option ℕ) (entry : List ℕ) → Same (front_done addr entry o m) (front_done addr entry o n)
    both-front None entry = told-only reply.Idle
    both-front (Some addr) entry =
        both-cond (is_queue_full (completion_queue o.controller 0)) _ _ _ _ (told-only reply.Held) (both-answered _ (cid_of entry) _ (admin_stores entry o.given))

    both-ready : (d : Option Deletion) (entry : List ℕ) → Same (ready_done d entry o m) (ready_done d entry o n)
    both-ready None entry = both-front (front o.controller 0) entry
    both-ready (Some d) entry = both-deleted d

    pub both-administered : (entry : List ℕ) → Same (administered_in entry o m) (administered_in entry o n)
    both-administered entry = both-cond _ _ _ _ _ (both-ready o.controller.deletion entry) (told-only reply.Idle)

    -- ---- Take

    both-took : (tags : Option (List ℕ)) (queue lane : ℕ) (entry : List ℕ) → Same (take_tags tags queue lane entry o m) (take_tags tags queue lane entry o n)
    both-took None queue lane entry = told-only reply.Busy
    both-took (Some tags) queue lane entry = same-replied reply.Done _ _ (same-tags lane tags _ _ _ (put _ m n same))

    both-fronts : (addr : Option ℕ) (queue lane : ℕ) (l : Lane) (entry : List ℕ)
        → Same (take_front addr queue lane l entry o m) (take_front addr queue lane l entry o n)
    both-fronts None queue lane l entry = told-only reply.Idle
    both-fronts (Some addr) queue lane l entry = both-took _ queue lane entry

    fronts-unplaced : (addr : Option ℕ) (queue lane : ℕ) (l : Lane) (entry : List ℕ)
        → take_front addr queue lane (unplaced_lane l) entry o m ≡ take_front addr queue lane l entry o m
    fronts-unplaced None queue lane l entry = refl
    fronts-unplaced (Some addr) queue lane l entry =
        ap (λ (tags : Option (List ℕ)). take_tags tags queue lane entry o m) (claimed-same (tags_of_entry o.given.namespace entry) l.tags)

    pub both-taking : (queue lane : ℕ) (entry : List ℕ) → Same (for_one (slice_get m.side.lanes lane) m (λ l. take_from queue lane l entry o m))
        (for_one (slice_get n.side.lanes lane) n (λ l. take_from queue lane l entry o n))
    both-taking queue lane entry =
        subst (λ c. Same c (for_one (slice_get n.side.lanes lane) n (λ l. take_from queue lane l entry o n)))
        (sym (lanes-told (λ (x : Option Lane). for_one x m (λ l. take_from queue lane l entry o m)) each m.side n.side same.sides lane))
        (both-one (slice_get n.side.lanes lane) _ _ (λ l.
        both-cond (is_io_queue queue) _ _ _ _ (both-fronts (front o.controller queue) queue lane l entry) (told-only reply.Ignored)))
      where
        each : (l : Lane) → take_from queue lane (unplaced_lane l) entry o m ≡ take_from queue lane l entry o m
        each l = ap (λ (c : Called). cond (is_io_queue queue) c (replied reply.Ignored m)) (fronts-unplaced (front o.controller queue) queue lane l entry)

    -- ---- List

    pub both-listed : (addr len lane tag : ℕ) (fetched : List ℕ) (command : Command) (reads : List ReadDone)
        → Same (list_at addr len lane tag fetched command reads o m) (list_at addr len lane tag fetched command reads o n)
    both-listed addr len lane tag fetched command reads =
        both-cond _ _ _ _ _
        (both-cond (nat_le 1 len && nat_le len 4096) _ _ _ _ (same-replied (reply.Bytes fetched) _ _ (same-tag lane tag _ m n same)) (told-only reply.Ignored))
        (told-only reply.Unmapped)

    -- ---- Post

    both-posted : (p : Option Posted) (delivered : List Effect) (lane : ℕ) (tags : List ℕ)
        → Same (post_by p delivered lane tags o m) (post_by p delivered lane tags o n)
    both-posted None delivered lane tags = told-only reply.Held
    both-posted (Some p) delivered lane tags =
        same-replied reply.Done _ _ (same-tags lane tags Free _ _ (put p.controller _ _ (same-told _ m n same)))

    both-at : (command : Command) (st : StatusField) (delivered : List Effect) (lane : ℕ) (tags : List ℕ)
        → Same (post_at command st delivered lane tags o m) (post_at command st delivered lane tags o n)
    both-at command st delivered lane tags =
        both-cond _ _ _ _ _ (both-posted _ delivered lane tags)
        (same-replied reply.Done _ _ (same-tags lane tags Free _ _ (put _ _ _ (same-told delivered m n same))))

    pub both-all : (sts : Option (List StatusField)) (command : Command) (mediator lane : ℕ) (tags : List ℕ)
        → Same (post_all sts command mediator lane tags o m) (post_all sts command mediator lane tags o n)
    both-all None command mediator lane tags = told-only reply.Stale
    both-all (Some sts) command mediator lane tags =
        subst (λ es. Same (post_all (Some sts) command mediator lane tags o m) (post_at command (deciding sts) es lane tags o n))
        (delivery-same m.side n.side same.sides lane mediator o.given (deciding sts) tags)
        (both-at command (deciding sts) _ lane tags)

-- ---- Submit and GiveUp

pub both-once : (lane : ℕ) (tags : List ℕ) (command : Command) (st : StatusField) (m n : Doing) → AreSame m n
    → AreSame (ended_at_once lane tags command st m) (ended_at_once lane tags command st n)
both-once lane [] command st m n same = same
both-once lane (tag ∷ tags) command st m n same = same-tags lane tags _ _ _ (same-tag lane tag _ m n same)

module _ (mediator lane : ℕ) (command : Command) (o : Owner) where
  both-submitted : (t : Option ℕ) (tag : ℕ) (share : Share) (m n : Doing) → AreSame m n
      → AreSame (submitted_on t mediator lane tag command share o m) (submitted_on t mediator lane tag command share o n)
  both-submitted None tag share m n same = same
  both-submitted (Some tail) tag share m n same = same-tag lane tag _ _ _ (same-tail lane _ _ _ (same-told _ m n same))

  both-carried : (tag : ℕ) (share : Share) (m n : Doing) → AreSame m n
      → AreSame (carried_out mediator lane tag command share o m) (carried_out mediator lane tag command share o n)
  both-carried tag share m n same = by (is_no_command share)
    where
      tails : AreSame (submitted_on (slice_get m.side.tails lane) mediator lane tag command share o m)
          (submitted_on (slice_get n.side.tails lane) mediator lane tag command share o n)
      tails =
          subst (λ ts. AreSame (submitted_on (slice_get m.side.tails lane) mediator lane tag command share o m)
          (submitted_on (slice_get ts lane) mediator lane tag command share o n)) same.sides.tails
          (both-submitted (slice_get m.side.tails lane) tag share m n same)

      by : (b : Bool) → AreSame
          (cond b (tag_put lane tag (Ended command (done_with Success) (Some share)) m) (submitted_on (slice_get m.side.tails lane) mediator lane tag command share o m))
          (cond b (tag_put lane tag (Ended command (done_with Success) (Some share)) n) (submitted_on (slice_get n.side.tails lane) mediator lane tag command share o n))
      by true = same-tag lane tag _ m n same
      by false = tails

  both-handed : (tags : List ℕ) (shares : List Share) (m n : Doing) → AreSame m n
      → AreSame (handed_on mediator lane tags shares command o m) (handed_on mediator lane tags shares command o n)
  unfolding handed_on
  both-handed [] shares m n same = same
  both-handed (tag ∷ tags) [] m n same = same
  both-handed (tag ∷ tags) (share ∷ shares) m n same = both-handed tags shares _ _ (both-carried tag share m n same)

  both-planned : (plan : Plan) (tags : List ℕ) (m n : Doing) → AreSame m n
      → AreSame (carry_out plan mediator lane tags command o m) (carry_out plan mediator lane tags command o n)
  both-planned (Answer st) tags m n same = both-once lane tags command st m n same
  both-planned (NoData work) tags m n same = both-handed tags _ m n same
  both-planned (Direct work) tags m n same = both-handed tags _ m n same
  both-planned (Bounced work) tags m n same = both-handed tags _ m n same

  pub both-submit : (outcome : Outcome Plan) (tags : List ℕ) (m n : Doing) → AreSame m n
      → Same (submit_by outcome mediator lane tags command o m) (submit_by outcome mediator lane tags command o n)
  both-submit (Wanted addr len) tags m n same = same-replied reply.Stale m n same
  both-submit (Settled plan) tags m n same = same-replied reply.Done _ _ (both-planned plan tags m n same)

-- ---- Reap

both-stray : (m n : Doing) → AreSame m n → Same (stray m) (stray n)
both-stray m n same = record { reply = refl; effects = same.effects; sides = same.sides }

both-ending : (t : Option Tag) (st : StatusField) (lane tag : ℕ) (m n : Doing) → AreSame m n
    → AreSame (ended_at t st lane tag m) (ended_at t st lane tag n)
both-ending None st lane tag m n same = same
both-ending (Some Free) st lane tag m n same = same
both-ending (Some (Taken command reads)) st lane tag m n same = same
both-ending (Some (Flying command share standing)) st lane tag m n same = same-tag lane tag _ m n same
both-ending (Some (Ended command other share)) st lane tag m n same = same

both-reaped : (lane : ℕ) (l : Lane) (completion : List ℕ) (m n : Doing) → AreSame m n → Same (reaped_by lane l completion m) (reaped_by lane l completion n)
both-reaped lane l completion m n same =
    let cid : ℕ = completed_cid completion in
    both-cond (sqid_of completion == queue_pair lane && is_flying (slice_get l.tags cid)) _ _ _ _
    (same-replied reply.Done _ _
    (both-ending (slice_get l.tags cid) (status_of completion) lane cid _ _ (same-lane lane completion_read completion_read (λ k. refl) m n same)))
    (both-stray m n same)

-- the tag that a completion names
reaped-unplaced : (lane : ℕ) (l : Lane) (completion : List ℕ) (m : Doing) → reaped_by lane (unplaced_lane l) completion m ≡ reaped_by lane l completion m
reaped-unplaced lane l completion m =
    ap named (slice_get-map unplaced_tag l.tags (completed_cid completion)) ∙ by (slice_get l.tags (completed_cid completion))
  where
    named : Option Tag → Called
    named t =
        cond (sqid_of completion == queue_pair lane && is_flying t)
        (replied reply.Done (ended_at t (status_of completion) lane (completed_cid completion) (lane_changed lane completion_read m))) (stray m)

    by : (t : Option Tag) → named (option_map unplaced_tag t) ≡ named t
    by None = refl
    by (Some Free) = refl
    by (Some (Taken command reads)) = refl
    by (Some (Flying command share standing)) = refl
    by (Some (Ended command st share)) = refl

pub both-reap : (lane : ℕ) (fetched : List ℕ) (m n : Doing) → AreSame m n → Same (for_one (slice_get m.side.lanes lane) m (λ l. reap lane l fetched m))
    (for_one (slice_get n.side.lanes lane) n (λ l. reap lane l fetched n))
both-reap lane fetched m n same =
    subst (λ c. Same c (for_one (slice_get n.side.lanes lane) n (λ l. reap lane l fetched n)))
    (sym (lanes-told (λ (x : Option Lane). for_one x m (λ l. reap lane l fetched m)) each m.side n.side same.sides lane))
    (both-one m n same (slice_get n.side.lanes lane) _ _ (λ l.
    both-cond (is_new l (take 4 fetched)) _ _ _ _ (both-reaped lane l (in_order fetched) m n same) (same-replied reply.Idle m n same)))
  where
    each : (l : Lane) → reap lane (unplaced_lane l) fetched m ≡ reap lane l fetched m
    each l = ap (λ (c : Called). cond (is_new l (take 4 fetched)) c (replied reply.Idle m)) (reaped-unplaced lane l (in_order fetched) m)
