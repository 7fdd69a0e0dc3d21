-- Events of guests and of the mediator neither read nor write the disk and its marks.
use Rattle.std.proofs.Common.{◌≡◌, ℕ, Bool, true, false, cond, ◌==◌, List, [], ◌∷◌, map, slice_get, Option, Some, None, refl, sym, ap, ◌∙◌}
use Rattle.std.proofs.lemmas.List.{map-id}
use Rattle.nv_entry.specs.StatusCode.{done_with}
use Rattle.nv_entry.specs.Status.{StatusField}
use Rattle.nv_entry.specs.declared.status_code.StatusCode.TheVariants.{Success}
use Rattle.nv_laws_sound.proofs.Moved.{IsNoSubmit, IsPlacing, lane_moved, others-onto, world_moved}
use Rattle.nv_laws_sound.specs.Mediators.{IsMediators, after_on, on_disk}
use Rattle.nv_model.specs.Transcript.{Outcome, ReadDone, Settled, Wanted}
use Rattle.nv_model.specs.declared.act.Act.TheVariants as act
use Rattle.nv_model.specs.declared.reply.Reply.TheVariants as reply
use Rattle.nv_world_model.specs.Device.{DeviceLane}
use Rattle.nv_world_model.specs.Geometry.{Geometry}
use Rattle.nv_world_model.specs.Plan.{Answer, Bounced, Direct, NoData, Plan, plan_over}
use Rattle.nv_world_model.specs.Seat.{Owner, owner_of}
use Rattle.nv_world_model.specs.Share.{Share, shares_of}
use Rattle.nv_world_model.specs.ShareArea.{is_no_command}
use Rattle.nv_world_model.specs.Step.{After, carried_out, carry_out}
use Rattle.nv_world_model.specs.Step.{ended_at_once, for_one, for_owner, for_taken, handed_on}
use Rattle.nv_world_model.specs.Step.{replied, step, submit_by, submitted, submitted_on}
use Rattle.nv_world_model.specs.World.{Command, Ended, Flying, Free, Lane, Tag, Taken, World, group, tag_of, with_tag, with_tags}
use Rattle.nv_world_model.specs.declared.event.Event.{Event}
use Rattle.nv_world_model.specs.declared.event.Event.TheVariants as event

module _ (disk : ℕ → ℕ → ℕ) (kept : ℕ → Bool) where
  abbrev onto : World → World
  onto w = on_disk disk kept w

  abbrev after : After → After
  after a = after_on disk kept a

  -- ---- what an event names

  one : {X : Type 0} (x : Option X) (w : World) (f g : X → After) → ((y : X) → f y ≡ after (g y)) → for_one x (onto w) f ≡ after (for_one x w g)
  one None w f g each = refl
  one (Some y) w f g each = each y

  owned : (x : Option Owner) (w : World) (f g : Owner → After) → ((o : Owner) → f o ≡ after (g o)) → for_owner x (onto w) f ≡ after (for_owner x w g)
  owned None w f g each = refl
  owned (Some o) w f g each = each o

  either : (b : Bool) (x y u v : After) → x ≡ after u → y ≡ after v → cond b x y ≡ after (cond b u v)
  either true x y u v first second = first
  either false x y u v first second = second

  taken : (tag : ℕ) (t : Option Tag) (w : World) (f g : Command → List ReadDone → After) → ((c : Command) (rs : List ReadDone) → f c rs ≡ after (g c rs))
      → for_taken tag t (onto w) f ≡ after (for_taken tag t w g)
  taken tag None w f g each = refl
  taken tag (Some Free) w f g each = refl
  taken tag (Some (Taken c rs)) w f g each = either (c.leader == tag) (f c rs) (replied reply.Stale (onto w)) (g c rs) (replied reply.Stale w) (each c rs) refl
  taken tag (Some (Flying c share standing)) w f g each = refl
  taken tag (Some (Ended c st share)) w f g each = refl

  tags-onto : (lane : ℕ) (tags : List ℕ) (t : Tag) (w : World) → with_tags lane tags t (onto w) ≡ onto (with_tags lane tags t w)
  unfolding with_tags
  tags-onto lane [] t w = refl
  tags-onto lane (tag ∷ tags) t w = tags-onto lane tags t (with_tag lane tag t w)

  -- ---- Submit

  at-once : (lane : ℕ) (tags : List ℕ) (c : Command) (st : StatusField) (w : World) → ended_at_once lane tags c st (onto w) ≡ onto (ended_at_once lane tags c st w)
  at-once lane [] c st w = refl
  at-once lane (tag ∷ tags) c st w = tags-onto lane tags (Ended c (done_with Success) None) (with_tag lane tag (Ended c st None) w)

  by-device : (x : Option DeviceLane) (mediator lane tag : ℕ) (c : Command) (share : Share) (o : Owner) (w : World)
      → submitted_on x mediator lane tag c share o (onto w) ≡ onto (submitted_on x mediator lane tag c share o w)
  unfolding submitted
  by-device None mediator lane tag c share o w = refl
  by-device (Some d) mediator lane tag c share o w = refl

  carried-onto : (mediator lane tag : ℕ) (c : Command) (share : Share) (o : Owner) (w : World)
      → carried_out mediator lane tag c share o (onto w) ≡ onto (carried_out mediator lane tag c share o w)
  carried-onto mediator lane tag c share o w =
      elim (is_no_command share) as (λ b.
      cond b (with_tag lane tag (Ended c (done_with Success) (Some share)) (onto w)) (submitted_on (slice_get w.device lane) mediator lane tag c share o (onto w))
      ≡ onto (cond b (with_tag lane tag (Ended c (done_with Success) (Some share)) w) (submitted_on (slice_get w.device lane) mediator lane tag c share o w))) [
        | true ↦ refl
        | false ↦ by-device (slice_get w.device lane) mediator lane tag c share o w
      ]

  handed-onto : (mediator lane : ℕ) (tags : List ℕ) (shares : List Share) (c : Command) (o : Owner) (w : World)
      → handed_on mediator lane tags shares c o (onto w) ≡ onto (handed_on mediator lane tags shares c o w)
  unfolding handed_on
  handed-onto mediator lane [] shares c o w = refl
  handed-onto mediator lane (tag ∷ tags) [] c o w = refl
  handed-onto mediator lane (tag ∷ tags) (share ∷ shares) c o w =
      ap (handed_on mediator lane tags shares c o) (carried-onto mediator lane tag c share o w)
      ∙ handed-onto mediator lane tags shares c o (carried_out mediator lane tag c share o w)

  carry-onto : (plan : Plan) (mediator lane : ℕ) (tags : List ℕ) (c : Command) (o : Owner) (w : World)
      → carry_out plan mediator lane tags c o (onto w) ≡ onto (carry_out plan mediator lane tags c o w)
  carry-onto (Answer st) mediator lane tags c o w = at-once lane tags c st w
  carry-onto (NoData work) mediator lane tags c o w = handed-onto mediator lane tags (shares_of o.given.namespace c.entry (NoData work)) c o w
  carry-onto (Direct work) mediator lane tags c o w = handed-onto mediator lane tags (shares_of o.given.namespace c.entry (Direct work)) c o w
  carry-onto (Bounced work) mediator lane tags c o w = handed-onto mediator lane tags (shares_of o.given.namespace c.entry (Bounced work)) c o w

  submit-onto : (x : Outcome Plan) (mediator lane : ℕ) (tags : List ℕ) (c : Command) (o : Owner) (w : World)
      → submit_by x mediator lane tags c o (onto w) ≡ after (submit_by x mediator lane tags c o w)
  submit-onto (Wanted addr len) mediator lane tags c o w = refl
  submit-onto (Settled plan) mediator lane tags c o w = ap (replied reply.Done) (carry-onto plan mediator lane tags c o w)

  -- ---- every other event

  abbrev to_disk : (ℕ → ℕ → ℕ) → ℕ → ℕ → ℕ
  to_disk _ = disk

  abbrev to_marks : (ℕ → Bool) → ℕ → Bool
  to_marks _ = kept

  placing : IsPlacing (λ t. t)
  placing = record { free = refl; taken = λ c rs. refl; flying = λ c share standing. (standing, refl); ended = λ c st share. refl }

  lanes-same : (ls : List Lane) → map (lane_moved (λ t. t)) ls ≡ ls
  lanes-same [] = refl
  lanes-same (l ∷ ls) =
      ap (λ (ts : List Tag). let k : Lane = record l { tags = ts } in (k ∷ map (lane_moved (λ t. t)) ls)) (map-id l.tags)
      ∙ ap (λ (ks : List Lane). l ∷ ks) (lanes-same ls)

  moved-same : (w : World) → world_moved (λ t. t) to_disk to_marks w ≡ onto w
  moved-same w = ap (λ (ls : List Lane). let v : World = record w { lanes = ls; disk = disk; kept = kept } in v) (lanes-same w.lanes)

  other-alone : (geometry : Geometry) (e : Event) (w : World) → IsNoSubmit e → step geometry e (onto w) ≡ after (step geometry e w)
  other-alone geometry e w plain =
      let a : After = step geometry e w in
      sym (ap (step geometry e) (moved-same w)) ∙ others-onto (λ t. t) placing to_disk to_marks geometry e w plain
      ∙ ap (λ (v : World). let b : After = record { world = v; reply = a.reply } in b) (moved-same a.world)

  -- ---- the step

  pub left-alone : (geometry : Geometry) (e : Event) (w : World) → IsMediators e → step geometry e (onto w) ≡ after (step geometry e w)
  unfolding step group
  left-alone geometry (event.Guest guest a) w is = other-alone geometry (event.Guest guest a) w tt
  left-alone geometry (event.Admin guest) w is = other-alone geometry (event.Admin guest) w tt
  left-alone geometry (event.Take guest queue lane) w is = other-alone geometry (event.Take guest queue lane) w tt
  left-alone geometry (event.List lane tag addr len) w is = other-alone geometry (event.List lane tag addr len) w tt
  left-alone geometry (event.Submit lane tag) w is =
      taken tag (tag_of w lane tag) w _ _ (λ c rs. owned (owner_of geometry w c.guest) w _ _ (λ o. one (slice_get w.device lane) w _ _
      (λ d. submit-onto (plan_over o.given c.entry rs) geometry.mediator lane (group w lane tag) c o w)))
  left-alone geometry (event.GiveUp lane tag) w is = other-alone geometry (event.GiveUp lane tag) w tt
  left-alone geometry (event.DevTake lane) w is = absurd is
  left-alone geometry (event.DevMove lane slot number) w is = absurd is
  left-alone geometry (event.DevPost lane slot) w is = absurd is
  left-alone geometry (event.DevFail lane slot st) w is = absurd is
  left-alone geometry (event.Keep block) w is = absurd is
  left-alone geometry (event.Reap lane) w is = other-alone geometry (event.Reap lane) w tt
  left-alone geometry (event.Post lane tag) w is = other-alone geometry (event.Post lane tag) w tt
