-- Post in a world.
use Rattle.std.proofs.Common.{◌≡◌, ℕ, ◌<◌, ◌≤◌, Bool, true, false, cond, List, [], ◌∷◌, ◌++◌, flat_map, length, slice_get, All, Option, Some, None, refl, sym, ap, ◌∙◌}
use Rattle.std.proofs.lemmas.List.Elements.{All-head, All-tail}
use Rattle.std.specs.Bool.{⊤}
use Rattle.nv_entry.specs.Status.{StatusField}
use Rattle.nv_entry.specs.Submission.{cid_of}
use Rattle.nv_laws_sound.proofs.Lists.{slice_get-below}
use Rattle.nv_laws_sound.specs.LaidOut.{IsLaidOut}
use Rattle.nv_laws_sound.specs.Side.{IsKept}
use Rattle.nv_machine.specs.Doing.{Doing, controller_put, group_at, owner_in, tag_at, told}
use Rattle.nv_machine.specs.Effects.{Effect, completion_stores, copies_to, effects_on}
use Rattle.nv_machine.specs.InWorld.{AreOnPages, in_world}
use Rattle.nv_machine.specs.Machine.{called, delivered_by, delivered_from, delivery, post_all, post_at, post_by, statuses_of}
use Rattle.nv_machine.proofs.Cases.{both-cond, both-ended, both-owner, tag-lane}
use Rattle.nv_machine.proofs.Effects.{completion-stored, copies-scatter, effects_on-append}
use Rattle.nv_machine.proofs.InWorlds.{Is, in-tags_put, in-told}
use Rattle.nv_machine.proofs.OwnPages.{HasFew, bounce-apart, plan-few}
use Rattle.nv_machine.proofs.Posted.{IsPlaced, post-placed}
use Rattle.nv_machine.proofs.SubmitCalls.{group-below}
use Rattle.nv_mem.specs.GuestMap.{span_met}
use Rattle.nv_mem.specs.Places.{places_of}
use Rattle.nv_mem.proofs.PlaceLists.{length-places_of}
use Rattle.nv_model.specs.Controller.{Posted, is_enabled, post, ran_out}
use Rattle.nv_model.specs.Judge.{is_read}
use Rattle.nv_model.specs.Limits.{most_bytes}
use Rattle.nv_model.specs.Memory.{bytes_from, image, put_image, scattered, stored}
use Rattle.nv_model.specs.declared.reply.Reply.TheVariants as reply
use Rattle.nv_world_model.specs.Area.{bounce_page, tag_count}
use Rattle.nv_world_model.specs.Geometry.{Geometry, regions_of}
use Rattle.nv_world_model.specs.Plan.{Answer, Bounced, Direct, NoData, Plan}
use Rattle.nv_world_model.specs.Seat.{Owner, put_back, with_memory}
use Rattle.nv_world_model.specs.Step as step
use Rattle.nv_world_model.specs.World.{Command, Ended, Flying, Free, Lane, Tag, Taken, World, group, tag_in, with_controller, with_host, with_tags}
use Rattle.nv_world_model.specs.declared.event.Event.TheVariants as event
use Rattle.nv_world_model.proofs.Seats.{owner_of-is}

module _ (host_bytes lanes : ℕ) (geometry : Geometry) (laid : IsLaidOut host_bytes lanes geometry) (o : Owner)
    (given : slice_get geometry.guests o.number ≡ Some o.given) where
  abbrev Apart : (bounce : ℕ) → Type 0
  Apart bounce = (len : ℕ) → len ≤ most_bytes → span_met (regions_of o.given) bounce len ≡ false

  -- the effects in memory of a plan that is delivered
  plan-delivered : (plan : Plan) (bounce : ℕ) (w : World) → Apart bounce → HasFew plan
      → step.delivered_by plan bounce o w ≡ with_host (effects_on (delivered_by plan bounce o.given) w.host) w
  unfolding effects_on step.scattered_to
  plan-delivered (Answer st) bounce w apart few = refl
  plan-delivered (NoData work) bounce w apart few = refl
  plan-delivered (Direct work) bounce w apart few = refl
  plan-delivered (Bounced work) bounce w apart few = by (is_read work.opcode)
    where
      by : (b : Bool) → cond b (step.scattered_to bounce work o w) w
          ≡ with_host (effects_on (cond b (copies_to (regions_of o.given) bounce (places_of work.pieces)) []) w.host) w
      by false = refl
      by true =
          ap (λ (h : ℕ → ℕ). with_host h w)
          (ap (λ (n : ℕ). put_image (regions_of o.given) (scattered (image (regions_of o.given) w.host) (places_of work.pieces) (bytes_from w.host bounce n)) w.host)
          (sym (length-places_of work.pieces))
          ∙ sym (copies-scatter (regions_of o.given) (places_of work.pieces) bounce w.host (laid.given o.number o.given given).sound.apart
          (apart (length (places_of work.pieces)) few)))

  -- so of a tag
  abbrev IsFine : Option Tag → (bounce : ℕ) → Type 0
  IsFine (Some (Ended command st (Some share))) bounce = Apart bounce × HasFew share.plan
  IsFine _ bounce = ⊤

  tag-delivered : (t : Option Tag) (bounce : ℕ) (w : World) → IsFine t bounce
      → step.delivered_from t bounce o w ≡ with_host (effects_on (delivered_from t bounce o.given) w.host) w
  unfolding effects_on
  tag-delivered None bounce w fine = refl
  tag-delivered (Some Free) bounce w fine = refl
  tag-delivered (Some (Taken command reads)) bounce w fine = refl
  tag-delivered (Some (Flying command share standing)) bounce w fine = refl
  tag-delivered (Some (Ended command st None)) bounce w fine = refl
  tag-delivered (Some (Ended command st (Some share))) bounce w fine = plan-delivered share.plan bounce w fine.0 fine.1

  -- and of several
  tags-delivered : (lane : ℕ) (tags : List ℕ) (w : World)
      → ((tag : ℕ) → tag < tag_count → IsFine (tag_in (slice_get w.lanes lane) tag) (bounce_page geometry.mediator lane tag))
      → All (λ tag. tag < tag_count) tags
      → step.delivered_all geometry.mediator lane tags o w
      ≡ with_host (effects_on (flat_map (λ tag. delivered_from (tag_in (slice_get w.lanes lane) tag) (bounce_page geometry.mediator lane tag) o.given) tags) w.host) w
  unfolding effects_on step.delivered_all
  tags-delivered lane [] w fine in_tags = refl
  tags-delivered lane (tag ∷ tags) w fine in_tags =
      let t : Option Tag = tag_in (slice_get w.lanes lane) tag in
      let own : List Effect = delivered_from t (bounce_page geometry.mediator lane tag) o.given in
      let rest : List Effect = flat_map (λ tag. delivered_from (tag_in (slice_get w.lanes lane) tag) (bounce_page geometry.mediator lane tag) o.given) tags in
      ap (step.delivered_all geometry.mediator lane tags o)
      (tag-delivered t (bounce_page geometry.mediator lane tag) w (fine tag (All-head (λ tag. tag < tag_count) tag tags in_tags)))
      ∙ tags-delivered lane tags (with_host (effects_on own w.host) w) fine (All-tail (λ tag. tag < tag_count) tag tags in_tags)
      ∙ ap (λ (h : ℕ → ℕ). with_host h w) (sym (effects_on-append own rest w.host))

  -- ---- with the completion

  module _ (w : World) (m : Doing) (lane : ℕ) (tags : List ℕ) (in_tags : All (λ tag. tag < tag_count) tags)
      (fine : (tag : ℕ) → tag < tag_count → IsFine (tag_in (slice_get m.side.lanes lane) tag) (bounce_page geometry.mediator lane tag)) where
    all-delivered : (st : StatusField)
        → step.delivered st geometry.mediator lane tags o (in_world w m)
        ≡ with_host (effects_on (delivery st geometry.mediator lane tags o.given m.side) (in_world w m).host) (in_world w m)
    unfolding effects_on
    all-delivered st = by (step.is_success st)
      where
        by : (b : Bool) → cond b (step.delivered_all geometry.mediator lane tags o (in_world w m)) (in_world w m)
            ≡ with_host (effects_on (cond b (flat_map (λ tag. delivered_from (tag_at m.side lane tag) (bounce_page geometry.mediator lane tag) o.given) tags) []) (in_world w m).host) (in_world w m)
        by false = refl
        by true = tags-delivered lane tags (in_world w m) fine in_tags

    posted-is : (found : Option Posted) (st : StatusField) → IsPlaced o.given found
        → Is w (post_by found (delivery st geometry.mediator lane tags o.given m.side) lane tags o m)
        (step.post_by found st geometry.mediator lane tags o (in_world w m))
    unfolding step.posted_to put_back
    posted-is None st placed = refl
    posted-is (Some p) st placed =
        let effects : List Effect = delivery st geometry.mediator lane tags o.given m.side in
        let host : ℕ → ℕ = effects_on effects (in_world w m).host in
        let both : List Effect = effects ++ completion_stores (regions_of o.given) p.addr p.entry in
        ap (λ (x : World). let a : step.After = record { world = x; reply = reply.Done } in Some a)
        (in-tags_put w lane tags Free (controller_put o.number p.controller (told both m))
        ∙ ap (λ (x : World). with_tags lane tags Free (with_controller o.number p.controller x))
        (in-told w both m
        ∙ ap (λ (h : ℕ → ℕ). with_host h (in_world w m))
        (effects_on-append effects (completion_stores (regions_of o.given) p.addr p.entry) (in_world w m).host
        ∙ completion-stored o.given.memory_map p.addr p.entry host (laid.given o.number o.given given).sound placed.0 placed.1 placed.2))
        ∙ ap (λ (x : World). with_tags lane tags Free (with_controller o.number p.controller
        (with_memory o (stored (image (regions_of o.given) x.host) p.addr p.entry) x))) (sym (all-delivered st)))

    ended-is : (command : Command) (st : StatusField) → IsPlaced o.given (post o.controller command.queue 0 (cid_of command.entry) st)
        → Is w (post_at command st (delivery st geometry.mediator lane tags o.given m.side) lane tags o m)
        (step.post_at command st geometry.mediator lane tags o (in_world w m))
    unfolding step.ran_out_of
    ended-is command st placed =
        both-cond w m (is_enabled o.controller) _ _ _ _ (λ enabled. posted-is (post o.controller command.queue 0 (cid_of command.entry) st) st placed)
        (λ fell.
        (let effects : List Effect = delivery st geometry.mediator lane tags o.given m.side in
        ap (λ (x : World). let a : step.After = record { world = x; reply = reply.Done } in Some a)
        (in-tags_put w lane tags Free (controller_put o.number (ran_out o.controller command.queue) (told effects m))
        ∙ ap (λ (x : World). with_tags lane tags Free (with_controller o.number (ran_out o.controller command.queue) x))
        (in-told w effects m ∙ sym (all-delivered st)))))

    all-is : (sts : Option (List StatusField)) (command : Command)
        → ((st : StatusField) → IsPlaced o.given (post o.controller command.queue 0 (cid_of command.entry) st))
        → Is w (post_all sts command geometry.mediator lane tags o m) (step.post_all sts command geometry.mediator lane tags o (in_world w m))
    all-is None command placed = refl
    all-is (Some sts) command placed = ended-is command (step.deciding sts) (placed (step.deciding sts))

statuses-same : (w : World) (m : Doing) (lane : ℕ) (tags : List ℕ) → statuses_of lane tags m.side ≡ step.statuses_of lane tags (in_world w m)
unfolding statuses_of step.statuses_of
statuses-same w m lane [] = refl
statuses-same w m lane (tag ∷ tags) = ap (step.status_before (step.ended_status (tag_at m.side lane tag))) (statuses-same w m lane tags)

-- ---- the event

module _ (host_bytes : ℕ) (geometry : Geometry) (w : World) (m : Doing) (laid : IsLaidOut host_bytes (length m.side.lanes) geometry)
    (kept : IsKept geometry m.side) (on_pages : AreOnPages m.side.controllers) where
  pub post-is : (lane tag : ℕ) (fetched : List ℕ)
      → Is w (called geometry (event.Post lane tag) fetched m) (step.step geometry (event.Post lane tag) (in_world w m))
  unfolding called step.step group
  post-is lane tag fetched =
      both-ended w m tag (tag_at m.side lane tag) _ _ (λ command st share there leads.
      both-owner w m (owner_in geometry m.side command.guest) _ _ (λ o whose.
      (let l = tag-lane (slice_get m.side.lanes lane) tag (Ended command st share) there in
      let below = slice_get-below m.side.lanes lane l.0 l.1.0 in
      let fine_lane = kept.lanes lane l.0 l.1.0 in
      let owns = owner_of-is geometry (in_world w m) command.guest o whose in
      let tags : List ℕ = group_at m.side lane tag in
      all-is host_bytes (length m.side.lanes) geometry laid o owns.given w m lane tags (group-below m.side.lanes lane tag l.0 l.1.0 fine_lane.tags_are)
      (λ n in_tags. fine o owns.given lane n below in_tags l.0 l.1.0 (tag_at m.side lane n) refl)
      (statuses_of lane tags m.side) command
      (λ st. post-placed geometry o (kept.queues o.number o.given o.controller owns.given owns.controller) (on_pages o.number o.controller owns.controller)
      command.queue 0 (cid_of command.entry) st)
      ∙ ap (λ (sts : Option (List StatusField)). Some (step.post_all sts command geometry.mediator lane tags o (in_world w m))) (statuses-same w m lane tags))))
    where
      fine : (o : Owner) (given : slice_get geometry.guests o.number ≡ Some o.given) (lane n : ℕ) → lane < length m.side.lanes → n < tag_count
          → (l : Lane) → slice_get m.side.lanes lane ≡ Some l → (t : Option Tag) → tag_at m.side lane n ≡ t
          → IsFine host_bytes (length m.side.lanes) geometry laid o given t (bounce_page geometry.mediator lane n)
      fine o given lane n below in_tags l found None there = tt
      fine o given lane n below in_tags l found (Some Free) there = tt
      fine o given lane n below in_tags l found (Some (Taken command reads)) there = tt
      fine o given lane n below in_tags l found (Some (Flying command share standing)) there = tt
      fine o given lane n below in_tags l found (Some (Ended command st None)) there = tt
      fine o given lane n below in_tags l found (Some (Ended command st (Some share))) there =
          let is = (kept.lanes lane l found).tags n (Ended command st (Some share)) (ap (λ (x : Option Lane). tag_in x n) (sym found) ∙ there) in (
            bounce-apart host_bytes (length m.side.lanes) geometry laid o.number o.given given lane n below in_tags,
            plan-few is.guest command.entry share is.planned,
          )
