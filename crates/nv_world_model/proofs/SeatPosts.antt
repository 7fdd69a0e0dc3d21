-- Posts in a guest's seat, behind what is delivered.
use Rattle.std.proofs.Common.{◌≡◌, ℕ, ◌<◌, Bool, true, false, cond, ◌==◌, eq-eqb, eqb-true, List, [], ◌∷◌, map, slice_get, Option, Some, None}
use Rattle.std.proofs.Common.{refl, sym, ap, ◌∙◌, subst}
use Rattle.nv_entry.specs.Completion.{status_of}
use Rattle.nv_entry.specs.Status.{StatusField}
use Rattle.nv_entry.specs.Submission.{cid_of}
use Rattle.nv_mem.specs.GuestMap.{IsSound}
use Rattle.nv_model.specs.Controller.{Posted, is_enabled, post, ran_out}
use Rattle.nv_model.specs.Judge.{is_read}
use Rattle.nv_model.specs.Memory.{image, stored}
use Rattle.nv_model.specs.Private.{PostStep, Private, RunOutStep, Taken as Member, ending, put, step as private_step}
use Rattle.nv_model.specs.declared.reply.Reply.{Reply}
use Rattle.nv_model.specs.declared.reply.Reply.TheVariants as reply
use Rattle.nv_world_model.specs.declared.event.Event.TheVariants as event
use Rattle.nv_world_model.specs.Area.{bounce_page, tag_count}
use Rattle.nv_world_model.specs.Device.{Held}
use Rattle.nv_world_model.specs.Geometry.{Geometry, regions_of, shape_of}
use Rattle.nv_world_model.specs.Laws.{IsSeatOf, LeadsTo}
use Rattle.nv_world_model.specs.Plan.{Answer, Bounced, Direct, NoData, Plan}
use Rattle.nv_world_model.specs.Seat.{Owner, completion_at, ended_progress, held_in, members, name_of, owner_of, put_back, rest_at, rests_of, seat}
use Rattle.nv_world_model.specs.Seat.{tag_rest}
use Rattle.nv_world_model.specs.Share.{Share}
use Rattle.nv_world_model.specs.Step.{After, deciding, delivered, delivered_all, delivered_by, delivered_from, ended_status, for_leader, for_owner, is_success}
use Rattle.nv_world_model.specs.Step.{post_all, post_at, post_by, posted_to, ran_out_of, replied, scattered_to, status_before, statuses_of, step}
use Rattle.nv_world_model.specs.World.{Command, Ended, Flying, Free, Tag, Taken, World, group, tag_of}
use Rattle.nv_model.proofs.PutImages.{image-put_image}
use Rattle.nv_world_model.proofs.Seats.{IsOwner, owner_of-is, owner_of-number, slice_get-set}
use Rattle.nv_world_model.proofs.SeatTags.{members-at, with_tags-rest}

-- ---- what is delivered

-- a world but for its memory
pub record IsButMemory (w z : World) : Type 0 where
  pub rest : z ≡ record w { host = z.host }

-- one after the other
but-both : (w z y : World) → IsButMemory w z → IsButMemory z y → IsButMemory w y
but-both w z y first second = record { rest = second.rest ∙ ap (λ (x : World). record x { host = y.host }) first.rest }

but-either : (b : Bool) (x w : World) → IsButMemory w x → IsButMemory w (cond b x w)
but-either true x w so = so
but-either false x w so = record { rest = refl }

delivered_by-memory : (plan : Plan) (bounce : ℕ) (o : Owner) (w : World) → IsButMemory w (delivered_by plan bounce o w)
unfolding scattered_to
delivered_by-memory (Answer answer) bounce o w = record { rest = refl }
delivered_by-memory (NoData work) bounce o w = record { rest = refl }
delivered_by-memory (Direct work) bounce o w = record { rest = refl }
delivered_by-memory (Bounced work) bounce o w = but-either (is_read work.opcode) (scattered_to bounce work o w) w (record { rest = refl })

delivered_from-memory : (t : Option Tag) (bounce : ℕ) (o : Owner) (w : World) → IsButMemory w (delivered_from t bounce o w)
delivered_from-memory None bounce o w = record { rest = refl }
delivered_from-memory (Some Free) bounce o w = record { rest = refl }
delivered_from-memory (Some (Taken command reads)) bounce o w = record { rest = refl }
delivered_from-memory (Some (Flying command share standing)) bounce o w = record { rest = refl }
delivered_from-memory (Some (Ended command st None)) bounce o w = record { rest = refl }
delivered_from-memory (Some (Ended command st (Some share))) bounce o w = delivered_by-memory share.plan bounce o w

delivered_all-memory : (mediator lane : ℕ) (tags : List ℕ) (o : Owner) (w : World) → IsButMemory w (delivered_all mediator lane tags o w)
unfolding delivered_all
delivered_all-memory mediator lane [] o w = record { rest = refl }
delivered_all-memory mediator lane (tag ∷ tags) o w =
    (let z = delivered_from (tag_of w lane tag) (bounce_page mediator lane tag) o w in
    but-both w z (delivered_all mediator lane tags o z) (delivered_from-memory (tag_of w lane tag) (bounce_page mediator lane tag) o w)
    (delivered_all-memory mediator lane tags o z))

pub delivered-memory : (st : StatusField) (mediator lane : ℕ) (tags : List ℕ) (o : Owner) (w : World) → IsButMemory w (delivered st mediator lane tags o w)
delivered-memory st mediator lane tags o w =
    but-either (is_success st) (delivered_all mediator lane tags o w) w (delivered_all-memory mediator lane tags o w)

-- ---- how far tags are that have ended

ended-rest : (t : Option Tag) (st : StatusField) (held other : Option Held) (status_at else_at : ℕ → StatusField) → ended_status t ≡ Some st
    → tag_rest t held status_at ≡ tag_rest t other else_at
ended-rest None st held other status_at else_at e = cc
ended-rest (Some Free) st held other status_at else_at e = cc
ended-rest (Some (Taken command reads)) st held other status_at else_at e = cc
ended-rest (Some (Flying command share standing)) st held other status_at else_at e = cc
ended-rest (Some (Ended command before share)) st held other status_at else_at e = refl

-- of several that have all ended, each has
status-first : (x : Option StatusField) (y : Option (List StatusField)) (sts : List StatusField) → status_before x y ≡ Some sts
    → ((st : StatusField) × (x ≡ Some st)) × ((rest : List StatusField) × (y ≡ Some rest))
status-first None y sts e = cc
status-first (Some st) None sts e = cc
status-first (Some st) (Some rest) sts e = ((st, refl), (rest, refl))

module _ (geometry : Geometry) (w z : World) (rest : IsButMemory w z) (lane : ℕ) where
  abbrev held : World → (tag : ℕ) → Option Held
  held x tag = held_in (slice_get x.device lane) tag

  abbrev told : World → (at : ℕ) → StatusField
  told x at = status_of (completion_at geometry x lane at)

  rest-same : (tag : ℕ) (st : StatusField) → ended_status (tag_of w lane tag) ≡ Some st → rest_at geometry z lane tag ≡ rest_at geometry w lane tag
  unfolding rest_at
  rest-same tag st ended =
      ap (λ (x : World). tag_rest (tag_of x lane tag) (held z tag) (told z)) rest.rest
      ∙ ended-rest (tag_of w lane tag) st (held z tag) (held w tag) (told z) (told w) ended

  each-same : (tags : List ℕ) (sts : List StatusField) → statuses_of lane tags w ≡ Some sts
      → map (rest_at geometry z lane) tags ≡ map (rest_at geometry w lane) tags
  unfolding statuses_of
  each-same [] sts e = refl
  each-same (tag ∷ tags) sts e =
      (let both = status-first (ended_status (tag_of w lane tag)) (statuses_of lane tags w) sts e in
      ap (λ r. r ∷ map (rest_at geometry z lane) tags) (rest-same tag both.0.0 both.0.1)
      ∙ ap (λ rs. rest_at geometry w lane tag ∷ rs) (each-same tags both.1.0 both.1.1))

  -- the tags of a command are the same, and so is what has come of them
  pub rests-same : (tag : ℕ) (sts : List StatusField) → statuses_of lane (group w lane tag) w ≡ Some sts → rests_of geometry z lane tag ≡ rests_of geometry w lane tag
  unfolding rests_of group
  rests-same tag sts e = ap (λ (x : World). map (rest_at geometry z lane) (group x lane tag)) rest.rest ∙ each-same (group w lane tag) sts e

-- ---- in the world behind it

module _ (geometry : Geometry) (w z : World) (rest : IsButMemory w z) (lane tag : ℕ) (command : Command) (st : StatusField) (share : Option Share) (o : Owner)
    (there : tag_of w lane tag ≡ Some (Ended command st share)) (leads : command.leader ≡ tag) (below : tag < tag_count) (mine : command.guest ≡ o.number)
    (sts : List StatusField) (all : statuses_of lane (group w lane tag) w ≡ Some sts)
    (ended : ending (ended_progress share st (rests_of geometry w lane tag)) ≡ Some (deciding sts))
    (is : IsOwner geometry w o) (sound : IsSound o.given.memory_map) where
  abbrev member : Member
  member = record { queue = command.queue; entry = command.entry; progress = ended_progress share st (rests_of geometry w lane tag) }

  tag-behind : tag_of z lane tag ≡ Some (Ended command st share)
  tag-behind = ap (λ (x : World). tag_of x lane tag) rest.rest ∙ there

  owner-behind : slice_get z.controllers o.number ≡ Some o.controller
  owner-behind = ap (λ (x : World). slice_get x.controllers o.number) rest.rest ∙ is.controller

  named : members geometry z o.number (name_of lane tag) ≡ Some member
  named =
      members-at geometry z o.number lane tag below
      ∙ rw (tag-behind, rests-same geometry w z rest lane tag sts all, eq-eqb command.leader tag leads, eq-eqb command.guest o.number mine) refl

  -- the private controller behind a completion
  behind_post : Posted → Private
  behind_post posted =
      record (seat geometry o z) {
        memory = stored (image (regions_of o.given) z.host) posted.addr posted.entry;
        controller = posted.controller;
        bag = put (seat geometry o z).bag (name_of lane tag) None;
      }

  private-post : (posted : Posted) → is_enabled o.controller ≡ true → post o.controller command.queue 0 (cid_of command.entry) (deciding sts) ≡ Some posted
      → private_step (shape_of o.given) (PostStep (name_of lane tag)) (seat geometry o z) ≡ Some (record { state = behind_post posted; seen = None })
  unfolding private_step seat behind_post
  private-post posted enabled room = rw (named, ended, enabled, room)

  seat-posted : (posted : Posted) (tags : List ℕ) → IsSeatOf o.number o.given (posted_to posted lane tags o z) (behind_post posted)
  unfolding seat posted_to put_back behind_post
  seat-posted posted tags =
      (let free = with_tags-rest lane tags Free _ in
      subst (λ y. IsSeatOf o.number o.given y (behind_post posted)) (sym free)
      (record {
        controller = slice_get-set z.controllers o.number o.controller posted.controller owner-behind;
        memory = (λ addr mapped. image-put_image (regions_of o.given) (stored (image (regions_of o.given) z.host) posted.addr posted.entry) z.host addr sound.apart mapped);
        blocks = (λ lba offset. refl);
        marks = (λ lba. refl);
      }))

  pub posted-leads : (posted : Posted) (tags : List ℕ) → is_enabled o.controller ≡ true
      → post o.controller command.queue 0 (cid_of command.entry) (deciding sts) ≡ Some posted
      → LeadsTo geometry o (PostStep (name_of lane tag)) z (posted_to posted lane tags o z)
  posted-leads posted tags enabled room =
      record {
        after = record { state = behind_post posted; seen = None };
        made = private-post posted enabled room;
        there = seat-posted posted tags;
      }

  -- the private controller behind a run-out
  behind_run_out : Private
  behind_run_out =
      record (seat geometry o z) { controller = ran_out o.controller command.queue; bag = put (seat geometry o z).bag (name_of lane tag) None }

  private-run_out : is_enabled o.controller ≡ false
      → private_step (shape_of o.given) (RunOutStep (name_of lane tag)) (seat geometry o z) ≡ Some (record { state = behind_run_out; seen = None })
  unfolding private_step seat behind_run_out
  private-run_out disabled = rw (named, ended, disabled)

  seat-ran_out : (tags : List ℕ) → IsSeatOf o.number o.given (ran_out_of command.queue lane tags o z) behind_run_out
  unfolding seat ran_out_of behind_run_out
  seat-ran_out tags =
      (let free = with_tags-rest lane tags Free _ in
      subst (λ y. IsSeatOf o.number o.given y behind_run_out) (sym free)
      (record {
        controller = slice_get-set z.controllers o.number o.controller (ran_out o.controller command.queue) owner-behind;
        memory = (λ addr mapped. refl);
        blocks = (λ lba offset. refl);
        marks = (λ lba. refl);
      }))

  pub run_out-leads : (tags : List ℕ) → is_enabled o.controller ≡ false
      → LeadsTo geometry o (RunOutStep (name_of lane tag)) z (ran_out_of command.queue lane tags o z)
  run_out-leads tags disabled =
      record {
        after = record { state = behind_run_out; seen = None };
        made = private-run_out disabled;
        there = seat-ran_out tags;
      }

-- ---- the event

-- with room, a completion; with none, Held
post_by-posts : (f : Option Posted) (st : StatusField) (mediator lane : ℕ) (tags : List ℕ) (o : Owner) (w : World)
    → (post_by f st mediator lane tags o w).reply ≡ reply.Done
    → (posted : Posted) × ((f ≡ Some posted)
    × ((post_by f st mediator lane tags o w).world ≡ posted_to posted lane tags o (delivered st mediator lane tags o w)))
post_by-posts None st mediator lane tags o w e = cc
post_by-posts (Some posted) st mediator lane tags o w e = (posted, (refl, refl))

post_by-holds : (f : Option Posted) (st : StatusField) (mediator lane : ℕ) (tags : List ℕ) (o : Owner) (w : World)
    → (post_by f st mediator lane tags o w).reply ≡ reply.Held → f ≡ None
post_by-holds None st mediator lane tags o w e = refl
post_by-holds (Some posted) st mediator lane tags o w e = cc

-- what is not Stale is of a command that goes by that tag
leads-by : (b : Bool) (r : Reply) (done : After) (w : World) → (cond b done (replied reply.Stale w)).reply ≡ r → (r ≡ reply.Stale → ⊥) → b ≡ true
leads-by true r done w e other = refl
leads-by false r done w e other = absurd (other (sym e))

-- it is held where there is no room
post_at-holds : (b : Bool) (f : Option Posted) (queue : ℕ) (st : StatusField) (mediator lane : ℕ) (tags : List ℕ) (o : Owner) (w : World)
    → (cond b (post_by f st mediator lane tags o w) (replied reply.Done (ran_out_of queue lane tags o (delivered st mediator lane tags o w)))).reply ≡ reply.Held
    → (b ≡ true) × (f ≡ None)
post_at-holds true f queue st mediator lane tags o w e = (refl, post_by-holds f st mediator lane tags o w e)
post_at-holds false f queue st mediator lane tags o w e = cc

post_all-holds : (x : Option (List StatusField)) (command : Command) (mediator lane : ℕ) (tags : List ℕ) (o : Owner) (w : World)
    → (post_all x command mediator lane tags o w).reply ≡ reply.Held
    → (sts : List StatusField) × (x ≡ Some sts) × (is_enabled o.controller ≡ true)
    × (post o.controller command.queue 0 (cid_of command.entry) (deciding sts) ≡ None)
post_all-holds None command mediator lane tags o w e = cc
post_all-holds (Some sts) command mediator lane tags o w e =
    (let f = post o.controller command.queue 0 (cid_of command.entry) (deciding sts) in
    let held = post_at-holds (is_enabled o.controller) f command.queue (deciding sts) mediator lane tags o w e in
    (sts, refl, held.0, held.1))

module _ (geometry : Geometry) (lane tag : ℕ) (command : Command) (st : StatusField) (share : Option Share) (o : Owner) (w : World)
    (there : tag_of w lane tag ≡ Some (Ended command st share)) (e : owner_of geometry w command.guest ≡ Some o) where
  abbrev tags : List ℕ
  tags = group w lane tag

  -- whose command it is
  mine : command.guest ≡ o.number
  mine = owner_of-number geometry w command.guest o e

  -- the event of a tag that has ended
  ended-step : step geometry (event.Post lane tag) w
      ≡ for_leader tag command w (for_owner (owner_of geometry w command.guest) w (λ p. post_all (statuses_of lane tags w) command geometry.mediator lane tags p w))
  unfolding step
  ended-step = rw there refl

  post-led : (r : Reply) → (step geometry (event.Post lane tag) w).reply ≡ r → (r ≡ reply.Stale → ⊥) → command.leader ≡ tag
  post-led r is other =
      eqb-true command.leader tag (leads-by (command.leader == tag) r _ w (ap (λ (x : After). x.reply) (sym ended-step) ∙ is) other)

  post-all : command.leader ≡ tag → step geometry (event.Post lane tag) w ≡ post_all (statuses_of lane tags w) command geometry.mediator lane tags o w
  post-all leads = ended-step ∙ rw (eq-eqb command.leader tag leads, e) refl

  post-step : command.leader ≡ tag → (sts : List StatusField) → statuses_of lane tags w ≡ Some sts
      → step geometry (event.Post lane tag) w ≡ post_at command (deciding sts) geometry.mediator lane tags o w
  post-step leads sts all = post-all leads ∙ ap (λ x. post_all x command geometry.mediator lane tags o w) all

  module _ (sts : List StatusField) (all : statuses_of lane (group w lane tag) w ≡ Some sts) (below : tag < tag_count) (sound : IsSound o.given.memory_map)
      (ended : ending (ended_progress share st (rests_of geometry w lane tag)) ≡ Some (deciding sts)) where
    abbrev behind : World
    behind = delivered (deciding sts) geometry.mediator lane (group w lane tag) o w

    pub post-leads : is_enabled o.controller ≡ true → (step geometry (event.Post lane tag) w).reply ≡ reply.Done
        → LeadsTo geometry o (PostStep (name_of lane tag)) behind (step geometry (event.Post lane tag) w).world
    post-leads enabled is_done =
        (let leads = post-led reply.Done is_done (λ bad. cc) in
        let f = post o.controller command.queue 0 (cid_of command.entry) (deciding sts) in
        let same : step geometry (event.Post lane tag) w ≡ post_by f (deciding sts) geometry.mediator lane tags o w = post-step leads sts all ∙ rw enabled refl in
        let found = post_by-posts f (deciding sts) geometry.mediator lane tags o w (subst (λ (x : After). x.reply ≡ reply.Done) same is_done) in
        let world : (step geometry (event.Post lane tag) w).world ≡ posted_to found.0 lane tags o behind = ap (λ (x : After). x.world) same ∙ found.1.1 in
        subst (LeadsTo geometry o (PostStep (name_of lane tag)) behind) (sym world)
        (posted-leads geometry w behind (delivered-memory (deciding sts) geometry.mediator lane tags o w) lane tag command st share o there leads below mine
        sts all ended (owner_of-is geometry w command.guest o e) sound found.0 tags enabled found.1.0))

    pub run-leads : command.leader ≡ tag → is_enabled o.controller ≡ false
        → LeadsTo geometry o (RunOutStep (name_of lane tag)) behind (step geometry (event.Post lane tag) w).world
    run-leads leads disabled =
        (let same : step geometry (event.Post lane tag) w ≡ replied reply.Done (ran_out_of command.queue lane tags o behind) =
        post-step leads sts all ∙ rw disabled refl in
        subst (λ (x : After). LeadsTo geometry o (RunOutStep (name_of lane tag)) behind x.world) (sym same)
        (run_out-leads geometry w behind (delivered-memory (deciding sts) geometry.mediator lane tags o w) lane tag command st share o there leads below mine
        sts all ended (owner_of-is geometry w command.guest o e) sound tags disabled))

  pub post-held : (step geometry (event.Post lane tag) w).reply ≡ reply.Held
      → (sts : List StatusField) × (statuses_of lane (group w lane tag) w ≡ Some sts) × (is_enabled o.controller ≡ true)
      × (post o.controller command.queue 0 (cid_of command.entry) (deciding sts) ≡ None)
  post-held held =
      (let leads = post-led reply.Held held (λ bad. cc) in
      post_all-holds (statuses_of lane tags w) command geometry.mediator lane tags o w (ap (λ (x : After). x.reply) (sym (post-all leads)) ∙ held))
