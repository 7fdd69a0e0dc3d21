-- Events of guests and of the mediator do not depend on where a part is that was handed on.
use Rattle.std.proofs.Common.{◌≡◌, ℕ, Bool, true, false, cond, ◌==◌, List, [], ◌∷◌, map, slice_get, Option, Some, None, refl, sym, ap, ◌∙◌}
use Rattle.std.specs.Option.{option_map}
use Rattle.nv_entry.specs.StatusCode.{done_with}
use Rattle.nv_entry.specs.declared.status_code.StatusCode.TheVariants.{Success}
use Rattle.nv_laws_sound.proofs.Moved.{IsNoSubmit, IsPlacing, at-once, group-same, moved-onto, moved-tag, others-onto}
use Rattle.nv_laws_sound.specs.Mediators.{IsMediators}
use Rattle.nv_laws_sound.specs.Unplaced.{after_unplaced, unplaced, unplaced_lane, unplaced_tag}
use Rattle.nv_model.specs.Transcript.{Outcome, ReadDone, Settled, Wanted}
use Rattle.nv_model.specs.declared.act.Act.TheVariants as act
use Rattle.nv_model.specs.declared.reply.Reply.TheVariants as reply
use Rattle.nv_world_model.specs.Device.{DeviceLane, rung}
use Rattle.nv_world_model.specs.Geometry.{Geometry}
use Rattle.nv_world_model.specs.Plan.{Answer, Bounced, Direct, NoData, Plan, plan_over}
use Rattle.nv_world_model.specs.Seat.{Owner, owner_of}
use Rattle.nv_world_model.specs.Share.{Share, shares_of}
use Rattle.nv_world_model.specs.ShareArea.{is_no_command, share_written}
use Rattle.nv_world_model.specs.Step.{After, carried_out, carry_out}
use Rattle.nv_world_model.specs.Step.{ended_at_once, for_one, for_owner, for_taken, handed_on}
use Rattle.nv_world_model.specs.Step.{replied, step, submit_by, submitted, submitted_on}
use Rattle.nv_world_model.specs.World.{Command, Ended, Flying, Free, InDevice, Lane, Queued, Tag, Taken, World, group}
use Rattle.nv_world_model.specs.World.{tag_of, with_device, with_host, with_tag}
use Rattle.nv_world_model.specs.declared.event.Event.{Event}
use Rattle.nv_world_model.specs.declared.event.Event.TheVariants as event

abbrev onto : World → World
onto w = unplaced w

abbrev after : After → After
after a = after_unplaced a

abbrev same_disk : (ℕ → ℕ → ℕ) → ℕ → ℕ → ℕ
same_disk disk = disk

abbrev same_marks : (ℕ → Bool) → ℕ → Bool
same_marks kept = kept

placing : IsPlacing unplaced_tag
placing = record { free = refl; taken = λ c rs. refl; flying = λ c share standing. (InDevice, refl); ended = λ c st share. refl }

-- ---- tags and lanes

tag-twice : (t : Tag) → unplaced_tag (unplaced_tag t) ≡ unplaced_tag t
tag-twice Free = refl
tag-twice (Taken c rs) = refl
tag-twice (Flying c share standing) = refl
tag-twice (Ended c st share) = refl

map-twice : {X : Type 0} (f : X → X) → ((x : X) → f (f x) ≡ f x) → (xs : List X) → map f (map f xs) ≡ map f xs
map-twice f same [] = refl
map-twice f same (x ∷ xs) = ap (λ y. y ∷ map f (map f xs)) (same x) ∙ ap (λ ys. f x ∷ ys) (map-twice f same xs)

lane-twice : (l : Lane) → unplaced_lane (unplaced_lane l) ≡ unplaced_lane l
lane-twice l = ap (λ (ts : List Tag). let k : Lane = record l { tags = ts } in k) (map-twice unplaced_tag tag-twice l.tags)

pub twice : (w : World) → onto (onto w) ≡ onto w
twice w = ap (λ (ls : List Lane). let v : World = record w { lanes = ls } in v) (map-twice unplaced_lane lane-twice w.lanes)

after-twice : (a : After) → after (after a) ≡ after a
after-twice a = ap (λ (w : World). let b : After = record { world = w; reply = a.reply } in b) (twice a.world)

pub tag-of : (w : World) (lane tag : ℕ) → tag_of (onto w) lane tag ≡ option_map unplaced_tag (tag_of w lane tag)
tag-of w lane tag = moved-tag unplaced_tag placing same_disk same_marks w lane tag

pub tag-onto : (lane tag : ℕ) (t : Tag) (w : World) → with_tag lane tag (unplaced_tag t) (onto w) ≡ onto (with_tag lane tag t w)
tag-onto lane tag t w = moved-onto unplaced_tag placing same_disk same_marks lane tag t w

-- ---- Submit

-- what is left of a world is the same where the world before it had no places
by-device : (x : Option DeviceLane) (mediator lane tag : ℕ) (c : Command) (share : Share) (o : Owner) (w : World)
    → onto (submitted_on x mediator lane tag c share o (onto w)) ≡ onto (submitted_on x mediator lane tag c share o w)
unfolding submitted
by-device None mediator lane tag c share o w = twice w
by-device (Some d) mediator lane tag c share o w =
    let t : Tag = Flying c share (Queued d.tail) in
    let v : World = with_device lane rung (with_host (share_written share o.given c.entry mediator lane tag d.tail w.host) w) in
    sym (tag-onto lane tag t (onto v)) ∙ ap (with_tag lane tag (unplaced_tag t)) (twice v) ∙ tag-onto lane tag t v

carried-onto : (mediator lane tag : ℕ) (c : Command) (share : Share) (o : Owner) (w : World)
    → onto (carried_out mediator lane tag c share o (onto w)) ≡ onto (carried_out mediator lane tag c share o w)
carried-onto mediator lane tag c share o w = by (is_no_command share)
  where
    ends : Tag
    ends = Ended c (done_with Success) (Some share)

    by : (b : Bool) → onto (cond b (with_tag lane tag (Ended c (done_with Success) (Some share)) (onto w)) (submitted_on (slice_get w.device lane) mediator lane tag c share o (onto w)))
        ≡ onto (cond b (with_tag lane tag (Ended c (done_with Success) (Some share)) w) (submitted_on (slice_get w.device lane) mediator lane tag c share o w))
    by true = ap onto (tag-onto lane tag (Ended c (done_with Success) (Some share)) w) ∙ twice (with_tag lane tag (Ended c (done_with Success) (Some share)) w)
    by false = by-device (slice_get w.device lane) mediator lane tag c share o w

handed-onto : (mediator lane : ℕ) (tags : List ℕ) (shares : List Share) (c : Command) (o : Owner) (w : World)
    → onto (handed_on mediator lane tags shares c o (onto w)) ≡ onto (handed_on mediator lane tags shares c o w)
unfolding handed_on
handed-onto mediator lane [] shares c o w = twice w
handed-onto mediator lane (tag ∷ tags) [] c o w = twice w
handed-onto mediator lane (tag ∷ tags) (share ∷ shares) c o w =
    sym (handed-onto mediator lane tags shares c o (carried_out mediator lane tag c share o (onto w)))
    ∙ ap (λ (v : World). onto (handed_on mediator lane tags shares c o v)) (carried-onto mediator lane tag c share o w)
    ∙ handed-onto mediator lane tags shares c o (carried_out mediator lane tag c share o w)

carry-onto : (plan : Plan) (mediator lane : ℕ) (tags : List ℕ) (c : Command) (o : Owner) (w : World)
    → onto (carry_out plan mediator lane tags c o (onto w)) ≡ onto (carry_out plan mediator lane tags c o w)
carry-onto (Answer st) mediator lane tags c o w = ap onto (at-once unplaced_tag placing same_disk same_marks lane tags c st w) ∙ twice (ended_at_once lane tags c st w)
carry-onto (NoData work) mediator lane tags c o w = handed-onto mediator lane tags (shares_of o.given.namespace c.entry (NoData work)) c o w
carry-onto (Direct work) mediator lane tags c o w = handed-onto mediator lane tags (shares_of o.given.namespace c.entry (Direct work)) c o w
carry-onto (Bounced work) mediator lane tags c o w = handed-onto mediator lane tags (shares_of o.given.namespace c.entry (Bounced work)) c o w

submit-onto : (x : Outcome Plan) (mediator lane : ℕ) (tags : List ℕ) (c : Command) (o : Owner) (w : World)
    → after (submit_by x mediator lane tags c o (onto w)) ≡ after (submit_by x mediator lane tags c o w)
submit-onto (Wanted addr len) mediator lane tags c o w = ap (replied reply.Stale) (twice w)
submit-onto (Settled plan) mediator lane tags c o w = ap (replied reply.Done) (carry-onto plan mediator lane tags c o w)

-- the events that are named so: what is left after them is the same
one-after : {X : Type 0} (x : Option X) (w : World) (f g : X → After) → ((y : X) → after (f y) ≡ after (g y)) → after (for_one x (onto w) f) ≡ after (for_one x w g)
one-after None w f g each = ap (replied reply.Ignored) (twice w)
one-after (Some y) w f g each = each y

owned-after : (x : Option Owner) (w : World) (f g : Owner → After) → ((o : Owner) → after (f o) ≡ after (g o)) → after (for_owner x (onto w) f) ≡ after (for_owner x w g)
owned-after None w f g each = ap (replied reply.Stale) (twice w)
owned-after (Some o) w f g each = each o

either-after : (b : Bool) (x y u v : After) → after x ≡ after u → after y ≡ after v → after (cond b x y) ≡ after (cond b u v)
either-after true x y u v first second = first
either-after false x y u v first second = second

taken-after : (tag : ℕ) (t : Option Tag) (w : World) (f g : Command → List ReadDone → After)
    → ((c : Command) (rs : List ReadDone) → after (f c rs) ≡ after (g c rs))
    → after (for_taken tag (option_map unplaced_tag t) (onto w) f) ≡ after (for_taken tag t w g)
taken-after tag None w f g each = ap (replied reply.Ignored) (twice w)
taken-after tag (Some Free) w f g each = ap (replied reply.Stale) (twice w)
taken-after tag (Some (Taken c rs)) w f g each =
    either-after (c.leader == tag) (f c rs) (replied reply.Stale (onto w)) (g c rs) (replied reply.Stale w) (each c rs) (ap (replied reply.Stale) (twice w))
taken-after tag (Some (Flying c share standing)) w f g each = ap (replied reply.Stale) (twice w)
taken-after tag (Some (Ended c st share)) w f g each = ap (replied reply.Stale) (twice w)

-- ---- the step

-- any other event
other-alike : (geometry : Geometry) (e : Event) (w : World) → IsNoSubmit e → after (step geometry e (onto w)) ≡ after (step geometry e w)
other-alike geometry e w plain = ap after (others-onto unplaced_tag placing same_disk same_marks geometry e w plain) ∙ after-twice (step geometry e w)

pub placed-alike : (geometry : Geometry) (e : Event) (w : World) → IsMediators e → after (step geometry e (onto w)) ≡ after (step geometry e w)
unfolding step
placed-alike geometry (event.Guest guest a) w is = other-alike geometry (event.Guest guest a) w tt
placed-alike geometry (event.Admin guest) w is = other-alike geometry (event.Admin guest) w tt
placed-alike geometry (event.Take guest queue lane) w is = other-alike geometry (event.Take guest queue lane) w tt
placed-alike geometry (event.List lane tag addr len) w is = other-alike geometry (event.List lane tag addr len) w tt
placed-alike geometry (event.Submit lane tag) w is =
    let more : List ℕ → Command → List ReadDone → After = λ ts c rs. for_owner (owner_of geometry w c.guest) (onto w) (λ o. for_one (slice_get w.device lane) (onto w)
    (λ d. submit_by (plan_over o.given c.entry rs) geometry.mediator lane ts c o (onto w))) in
    ap (λ (ts : List ℕ). after (for_taken tag (tag_of (onto w) lane tag) (onto w) (more ts))) (group-same unplaced_tag placing same_disk same_marks w lane tag)
    ∙ ap (λ (t : Option Tag). after (for_taken tag t (onto w) (more (group w lane tag)))) (tag-of w lane tag)
    ∙ taken-after tag (tag_of w lane tag) w _ _ (λ c rs. owned-after (owner_of geometry w c.guest) w _ _ (λ o. one-after (slice_get w.device lane) w _ _
    (λ d. submit-onto (plan_over o.given c.entry rs) geometry.mediator lane (group w lane tag) c o w)))
placed-alike geometry (event.GiveUp lane tag) w is = other-alike geometry (event.GiveUp lane tag) w tt
placed-alike geometry (event.DevTake lane) w is = absurd is
placed-alike geometry (event.DevMove lane slot number) w is = absurd is
placed-alike geometry (event.DevPost lane slot) w is = absurd is
placed-alike geometry (event.DevFail lane slot st) w is = absurd is
placed-alike geometry (event.Keep block) w is = absurd is
placed-alike geometry (event.Reap lane) w is = other-alike geometry (event.Reap lane) w tt
placed-alike geometry (event.Post lane tag) w is = other-alike geometry (event.Post lane tag) w tt
