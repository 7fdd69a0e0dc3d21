-- A Post of the machine without memory, by what the mediator's side has.
use Rattle.std.proofs.Common.{◌≡◌, ℕ, ◌+◌, ◌==◌, Bool, true, false, cond, eq-eqb, List, [], ◌∷◌, ◌++◌, drop, flat_map, set, slice_get, take, Option, Some, None, is_some, refl, sym, ap, ◌∙◌}
use Rattle.std.specs.Option.{option_map}
use Rattle.std.proofs.lemmas.List.{append-nil}
use Rattle.std.proofs.lemmas.List.Elements.{filter-append}
use Rattle.nv_core.proofs.GroupWorlds.{IsEndedHere}
use Rattle.nv_core.specs.Completing.{IsAnswered, completion_for, copies, ended_posting, ended_side, is_copy, may_end, stored_for, stores_of}
use Rattle.nv_core.specs.Groups.{statuses_in, tags_changed}
use Rattle.nv_core.specs.Tags.{unended, unled}
use Rattle.nv_core.specs.declared.completing.Completion.{Completion}
use Rattle.nv_core.specs.declared.completing.Ending.{Ending}
use Rattle.nv_entry.specs.Status.{StatusField}
use Rattle.nv_entry.specs.Submission.{cid_of}
use Rattle.nv_laws_sound.proofs.Lists.{set-same, set-set, some-same}
use Rattle.nv_laws_sound.specs.Side.{Side}
use Rattle.nv_machine.specs.Doing.{Called, Doing, controller_put, for_ended, for_leader, for_owner, owner_in, replied, tag_at, tags_put, told}
use Rattle.nv_machine.specs.Effects.{Effect, copies_to, copy_to, host_of_place, store_at}
use Rattle.nv_machine.specs.Machine.{call, called, delivered_by, delivered_from, delivery, post_all, post_at, post_by, statuses_of}
use Rattle.nv_mem.specs.GuestMap.{host_of}
use Rattle.nv_mem.specs.Places.{Place, places_of}
use Rattle.nv_mem.specs.declared.region.Region.{Region}
use Rattle.nv_model.specs.Controller.{Controller, Posted, is_enabled, post, ran_out}
use Rattle.nv_model.specs.Judge.{is_read}
use Rattle.nv_model.specs.declared.reply.Reply.{Reply}
use Rattle.nv_model.specs.declared.reply.Reply.TheVariants as reply
use Rattle.nv_vctl.specs.Vctl.{controller_behind, posting_of}
use Rattle.nv_vctl.specs.declared.posting.Posting.{Posting}
use Rattle.nv_world_model.proofs.Seats.{slice_get-set}
use Rattle.nv_world_model.specs.Area.{bounce_page}
use Rattle.nv_world_model.specs.Geometry.{Geometry, Guest, regions_of}
use Rattle.nv_world_model.specs.Plan.{Answer, Bounced, Direct, NoData, Plan}
use Rattle.nv_world_model.specs.Seat.{Owner, owner_by}
use Rattle.nv_world_model.specs.Step.{deciding, ended_status, is_success, status_before}
use Rattle.nv_world_model.specs.World.{Command, Ended, Flying, Free, Lane, Tag, Taken, changed_at, group_in, tag_changed, tag_in}
use Rattle.nv_world_model.specs.declared.event.Event.TheVariants as event

-- ---- copies and stores

copy_to-copies : (from : ℕ) (o : Option ℕ) → copies (copy_to from o) ≡ copy_to from o
copy_to-copies from None = refl
copy_to-copies from (Some to) = refl

both-copies : (a b : List Effect) → copies a ≡ a → copies b ≡ b → copies (a ++ b) ≡ a ++ b
both-copies a b one other =
    filter-append is_copy a b ∙ ap (λ (x : List Effect). x ++ copies b) one ∙ ap (λ (x : List Effect). a ++ x) other

copies_to-copies : (regions : List Region) (from : ℕ) (places : List Place) → copies (copies_to regions from places) ≡ copies_to regions from places
copies_to-copies regions from [] = refl
copies_to-copies regions from (place ∷ places) =
    both-copies (copy_to from (host_of_place regions place)) _ (copy_to-copies from (host_of_place regions place)) (copies_to-copies regions _ places)

delivered_by-copies : (plan : Plan) (bounce : ℕ) (given : Guest) → copies (delivered_by plan bounce given) ≡ delivered_by plan bounce given
delivered_by-copies (Answer st) bounce given = refl
delivered_by-copies (NoData work) bounce given = refl
delivered_by-copies (Direct work) bounce given = refl
delivered_by-copies (Bounced work) bounce given = by (is_read work.opcode)
  where
    by : (b : Bool) → copies (cond b (copies_to (regions_of given) bounce (places_of work.pieces)) [])
        ≡ cond b (copies_to (regions_of given) bounce (places_of work.pieces)) []
    by true = copies_to-copies (regions_of given) bounce (places_of work.pieces)
    by false = refl

delivered_from-copies : (t : Option Tag) (bounce : ℕ) (given : Guest) → copies (delivered_from t bounce given) ≡ delivered_from t bounce given
delivered_from-copies None bounce given = refl
delivered_from-copies (Some Free) bounce given = refl
delivered_from-copies (Some (Taken command reads)) bounce given = refl
delivered_from-copies (Some (Flying command share standing)) bounce given = refl
delivered_from-copies (Some (Ended command st None)) bounce given = refl
delivered_from-copies (Some (Ended command st (Some share))) bounce given = delivered_by-copies share.plan bounce given

-- what is delivered is copied
pub delivery-copies : (st : StatusField) (mediator lane : ℕ) (tags : List ℕ) (given : Guest) (s : Side)
    → copies (delivery st mediator lane tags given s) ≡ delivery st mediator lane tags given s
delivery-copies st mediator lane tags given s = by (is_success st)
  where
    each : (tags : List ℕ) → copies (flat_map (λ tag. delivered_from (tag_at s lane tag) (bounce_page mediator lane tag) given) tags)
        ≡ flat_map (λ tag. delivered_from (tag_at s lane tag) (bounce_page mediator lane tag) given) tags
    each [] = refl
    each (tag ∷ tags) =
        both-copies (delivered_from (tag_at s lane tag) (bounce_page mediator lane tag) given) _
        (delivered_from-copies (tag_at s lane tag) (bounce_page mediator lane tag) given) (each tags)

    by : (b : Bool) → copies (cond b (flat_map (λ tag. delivered_from (tag_at s lane tag) (bounce_page mediator lane tag) given) tags) [])
        ≡ cond b (flat_map (λ tag. delivered_from (tag_at s lane tag) (bounce_page mediator lane tag) given) tags) []
    by true = each tags
    by false = refl

no-copies : (to : Option ℕ) (bytes : List ℕ) → copies (store_at to bytes) ≡ []
no-copies None bytes = refl
no-copies (Some to) bytes = refl

-- and a completion is stored
stored_for-copies : (o : Option Guest) (p : Posting) → copies (stored_for o p) ≡ []
stored_for-copies None p = refl
stored_for-copies (Some given) p =
    let first : Option ℕ = host_of (regions_of given) p.addr in
    let last : Option ℕ = host_of (regions_of given) (p.addr + 12) in
    filter-append is_copy (store_at first (take 12 p.entry)) (store_at last (drop 12 p.entry))
    ∙ ap (λ (x : List Effect). x ++ copies (store_at last (drop 12 p.entry))) (no-copies first (take 12 p.entry))
    ∙ no-copies last (drop 12 p.entry)

stores_of-copies : (geometry : Geometry) (c : Option Completion) → copies (stores_of geometry c) ≡ []
stores_of-copies geometry None = refl
stores_of-copies geometry (Some c) = stored_for-copies (slice_get geometry.guests c.guest) c.posting

-- copies, and then the stores of a completion
pub copies-then : (geometry : Geometry) (c : Option Completion) (effects delivered : List Effect) → copies delivered ≡ delivered
    → effects ≡ delivered ++ stores_of geometry c → effects ≡ copies effects ++ stores_of geometry c
copies-then geometry c effects delivered are is =
    is ∙ ap (λ (x : List Effect). x ++ stores_of geometry c)
    (sym (ap copies is ∙ filter-append is_copy delivered (stores_of geometry c) ∙ ap (λ (x : List Effect). copies delivered ++ x) (stores_of-copies geometry c)
    ∙ append-nil (copies delivered) ∙ are))

-- ---- tags in a call

abbrev lane_put : (lane : ℕ) → Lane → Doing → Doing
lane_put lane l m = record m { side = record m.side { lanes = set m.side.lanes lane l } }

tags-lane : (lane : ℕ) (tags : List ℕ) (t : Tag) (m : Doing) (l : Lane) → slice_get m.side.lanes lane ≡ Some l
    → tags_put lane tags t m ≡ lane_put lane (tags_changed tags t l) m
unfolding tags_put
tags-lane lane [] t m l at =
    ap (λ (ls : List Lane). let n : Doing = record m { side = record m.side { lanes = ls } } in n) (sym (set-same m.side.lanes lane l at))
tags-lane lane (tag ∷ tags) t m l at =
    let one = tag_changed tag t l in
    ap (λ (o : Option Lane). let n : Doing = record m { side = record m.side { lanes = changed_at o lane (tag_changed tag t) m.side.lanes } } in tags_put lane tags t n) at
    ∙ tags-lane lane tags t (lane_put lane one m) one (slice_get-set m.side.lanes lane l one at)
    ∙ ap (λ (ls : List Lane). let n : Doing = record m { side = record m.side { lanes = ls } } in n) (set-set m.side.lanes lane one (tags_changed tags t one))

statuses-side : (lane : ℕ) (tags : List ℕ) (s : Side) (l : Lane) → slice_get s.lanes lane ≡ Some l → statuses_of lane tags s ≡ statuses_in tags l
unfolding statuses_of
statuses-side lane [] s l at = refl
statuses-side lane (tag ∷ tags) s l at =
    ap (λ (o : Option Lane). status_before (ended_status (tag_in o tag)) (statuses_of lane tags s)) at
    ∙ ap (status_before (ended_status (slice_get l.tags tag))) (statuses-side lane tags s l at)

-- ---- a command whose first part has ended, by the tag that it goes by

leader-not : (tag : ℕ) (command : Command) (r : Reply) (m : Doing) (done : Called) → unled tag command ≡ Some r → for_leader tag command m done ≡ replied r m
leader-not tag command r m done e = by (command.leader == tag) refl
  where
    by : (b : Bool) → command.leader == tag ≡ b → for_leader tag command m done ≡ replied r m
    by true is = let bad : None ≡ Some r = sym (ap (λ (x : Bool). cond x None (Some reply.Stale)) is) ∙ e in cc
    by false is =
        ap (λ (x : Bool). cond x done (replied reply.Stale m)) is
        ∙ ap (λ (x : Reply). replied x m) (some-same reply.Stale r (sym (ap (λ (x : Bool). cond x None (Some reply.Stale)) is) ∙ e))

leader-undone : (b : Bool) → cond b None (Some reply.Stale) ≡ Some reply.Done → ⊥
leader-undone true e = cc
leader-undone false e = cc

call-not-ended : (tag : ℕ) (t : Option Tag) (r : Reply) (m : Doing) (more : Command → Called) → unended tag t ≡ Some r → for_ended tag t m more ≡ replied r m
call-not-ended tag None r m more e = ap (λ x. replied x m) (some-same reply.Ignored r e)
call-not-ended tag (Some Free) r m more e = ap (λ x. replied x m) (some-same reply.Stale r e)
call-not-ended tag (Some (Taken command reads)) r m more e = ap (λ x. replied x m) (some-same reply.Stale r e)
call-not-ended tag (Some (Flying command share at)) r m more e = ap (λ x. replied x m) (some-same reply.Stale r e)
call-not-ended tag (Some (Ended command st share)) r m more e = leader-not tag command r m (more command) e

unended-undone : (tag : ℕ) (t : Option Tag) → unended tag t ≡ Some reply.Done → ⊥
unended-undone tag None e = cc
unended-undone tag (Some Free) e = cc
unended-undone tag (Some (Taken command reads)) e = cc
unended-undone tag (Some (Flying command share at)) e = cc
unended-undone tag (Some (Ended command st share)) e = leader-undone (command.leader == tag) e

-- no tag has an outcome
no-outcome : (o : Option (List StatusField)) → option_map deciding o ≡ None → o ≡ None
no-outcome None e = refl
no-outcome (Some sts) e = cc

stale-anyway : (o : Option Owner) (m : Doing) → for_owner o m (λ x. replied reply.Stale m) ≡ replied reply.Stale m
stale-anyway None m = refl
stale-anyway (Some x) m = refl

stale-undone : reply.Stale ≡ reply.Done → ⊥
stale-undone e = cc

held-undone : reply.Held ≡ reply.Done → ⊥
held-undone e = cc

module _ (geometry : Geometry) (s : Side) (lane tag : ℕ) where
  abbrev m : Doing
  m = record { side = s; effects = [] }

  -- there is none
  pub call-post-not : (r : Reply) → unended tag (tag_at s lane tag) ≡ Some r → IsAnswered geometry (event.Post lane tag) s r
  unfolding called
  call-post-not r e =
      record {
        is = call-not-ended tag (tag_at s lane tag) r m _ e;
        undone = λ done. unended-undone tag (tag_at s lane tag) (e ∙ ap (λ (x : Reply). Some x) done);
      }

  module _ (t : IsEndedHere s.lanes lane tag) (l : Lane) (found : slice_get s.lanes lane ≡ Some l) where
    abbrev tags : List ℕ
    tags = group_in (Some l) tag

    call-ended : (more : Command → Called) → for_ended tag (tag_at s lane tag) m more ≡ more t.command
    call-ended more =
        ap (λ (x : Option Tag). for_ended tag x m more) (ap (λ (x : Option Lane). tag_in x tag) t.found ∙ t.there)
        ∙ ap (λ (x : Bool). cond x (more t.command) (replied reply.Stale m)) (eq-eqb t.command.leader tag t.led)

    call-post : call geometry (event.Post lane tag) [] s
        ≡ for_owner (owner_in geometry s t.command.guest) m (λ o. post_all (statuses_in tags l) t.command geometry.mediator lane tags o m)
    unfolding called
    call-post =
        call-ended _
        ∙ ap (λ (x : Option Lane). for_owner (owner_in geometry s t.command.guest) m
        (λ o. post_all (statuses_of lane (group_in x tag) s) t.command geometry.mediator lane (group_in x tag) o m)) found
        ∙ ap (λ (sts : Option (List StatusField)). for_owner (owner_in geometry s t.command.guest) m
        (λ o. post_all sts t.command geometry.mediator lane tags o m)) (statuses-side lane tags s l found)

    -- nobody's command
    pub call-post-nobody : slice_get geometry.guests t.command.guest ≡ None → IsAnswered geometry (event.Post lane tag) s reply.Stale
    call-post-nobody none =
        record {
          is =
              call-post
              ∙ ap (λ (g : Option Guest). for_owner (owner_by t.command.guest g (slice_get s.controllers t.command.guest)) m
              (λ o. post_all (statuses_in tags l) t.command geometry.mediator lane tags o m)) none;
          undone = stale-undone;
        }

    -- some part has not ended
    pub call-post-early : option_map deciding (statuses_in tags l) ≡ None → IsAnswered geometry (event.Post lane tag) s reply.Stale
    call-post-early none =
        record {
          is =
              call-post
              ∙ ap (λ (sts : Option (List StatusField)). for_owner (owner_in geometry s t.command.guest) m
              (λ o. post_all sts t.command geometry.mediator lane tags o m)) (no-outcome (statuses_in tags l) none)
              ∙ stale-anyway (owner_in geometry s t.command.guest) m;
          undone = stale-undone;
        }

    module _ (guest : Guest) (c : Controller) (given : slice_get geometry.guests t.command.guest ≡ Some guest)
        (has : slice_get s.controllers t.command.guest ≡ Some c) (st : StatusField) (decides : option_map deciding (statuses_in tags l) ≡ Some st) where
      abbrev o : Owner
      o = record { number = t.command.guest; given = guest; controller = c }

      abbrev out : List Effect
      out = delivery st geometry.mediator lane tags guest s

      decided : (sts : Option (List StatusField)) → option_map deciding sts ≡ Some st
          → post_all sts t.command geometry.mediator lane tags o m ≡ post_at t.command st out lane tags o m
      decided None e = cc
      decided (Some sts) e =
          ap (λ (y : StatusField). post_at t.command y (delivery y geometry.mediator lane tags guest s) lane tags o m) (some-same (deciding sts) st e)

      call-owned : call geometry (event.Post lane tag) [] s ≡ post_at t.command st out lane tags o m
      call-owned =
          call-post
          ∙ ap (λ (g : Option Guest). for_owner (owner_by t.command.guest g (slice_get s.controllers t.command.guest)) m
          (λ x. post_all (statuses_in tags l) t.command geometry.mediator lane tags x m)) given
          ∙ ap (λ (k : Option Controller). for_owner (owner_by t.command.guest (Some guest) k) m
          (λ x. post_all (statuses_in tags l) t.command geometry.mediator lane tags x m)) has
          ∙ decided (statuses_in tags l) decides

      -- no room for its completion
      pub call-post-held : may_end t.command.queue (cid_of t.command.entry) st c ≡ false → IsAnswered geometry (event.Post lane tag) s reply.Held
      call-post-held full =
          record {
            is = call-owned ∙ by (is_enabled c) (post c t.command.queue 0 (cid_of t.command.entry) st) full;
            undone = held-undone;
          }
        where
          by_room : (f : Option Posted) → is_some f ≡ false → post_by f out lane tags o m ≡ replied reply.Held m
          by_room None e = refl
          by_room (Some p) e = cc

          by : (b : Bool) (f : Option Posted) → cond b (is_some f) true ≡ false
              → cond b (post_by f out lane tags o m)
              (replied reply.Done (tags_put lane tags Free (controller_put o.number (ran_out c t.command.queue) (told out m)))) ≡ replied reply.Held m
          by true f e = by_room f e
          by false f e = cc

      -- it is completed, or runs out
      abbrev ending : Ending
      ending = record { guest = t.command.guest; queue = t.command.queue; cid = cid_of t.command.entry; status = st }

      abbrev after : Controller → Option Posting → Called
      after k p = replied reply.Done (record {
        side = record s { lanes = set s.lanes lane (tags_changed tags Free l); controllers = set s.controllers t.command.guest k };
        effects = out ++ stores_of geometry (completion_for t.command.guest p);
      })

      pub call-post-done : may_end t.command.queue (cid_of t.command.entry) st c ≡ true
          → call geometry (event.Post lane tag) [] s ≡ replied reply.Done (record {
            side = ended_side lane tag ending l c s;
            effects = out ++ stores_of geometry (completion_for t.command.guest (ended_posting t.command.queue (cid_of t.command.entry) st c));
          })
      call-post-done room = call-owned ∙ by (is_enabled c) (post c t.command.queue 0 (cid_of t.command.entry) st) room
        where
          by_room : (f : Option Posted) → is_some f ≡ true → post_by f out lane tags o m ≡ after (controller_behind c f) (option_map posting_of f)
          by_room None e = cc
          by_room (Some p) e =
              ap (replied reply.Done) (tags-lane lane tags Free _ l found)
              ∙ ap (λ (g : Option Guest). replied reply.Done (record {
                side = record s { lanes = set s.lanes lane (tags_changed tags Free l); controllers = set s.controllers t.command.guest p.controller };
                effects = out ++ stored_for g (posting_of p);
              })) (sym given)

          by : (b : Bool) (f : Option Posted) → cond b (is_some f) true ≡ true
              → cond b (post_by f out lane tags o m)
              (replied reply.Done (tags_put lane tags Free (controller_put o.number (ran_out c t.command.queue) (told out m))))
              ≡ after (cond b (controller_behind c f) (ran_out c t.command.queue)) (cond b (option_map posting_of f) None)
          by true f e = by_room f e
          by false f e =
              ap (replied reply.Done) (tags-lane lane tags Free _ l found)
              ∙ ap (λ (x : List Effect). replied reply.Done (record {
                side = record s { lanes = set s.lanes lane (tags_changed tags Free l); controllers = set s.controllers t.command.guest (ran_out c t.command.queue) };
                effects = x;
              })) (sym (append-nil out))
