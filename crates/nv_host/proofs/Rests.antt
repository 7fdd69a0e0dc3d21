-- Where nothing of a scope is left to be done.
use Rattle.std.proofs.Common.{◌≡◌, refl, sym, subst, ap, ◌∙◌, ℕ, ◌<◌, ◌≤◌, Bool, true, false, ◌&&◌, ◌||◌, ◌==◌, cond, inl, inr, arith, eqb-true, nat_lt}
use Rattle.std.proofs.Common.{List, length, slice_get, Option, Some, None, is_some}
use Rattle.std.proofs.lemmas.Bool.{cases_lt}
use Rattle.std.proofs.lemmas.Bool.Decides.{nat_tests}
use Rattle.std.proofs.lemmas.Option.{none-some, slice_get_past}
use Rattle.std.specs.Option.{option_map}
use Rattle.nv_core.specs.Front.{IsBeside}
use Rattle.nv_core.specs.Jobs.{holder_in, job_in, job_with}
use Rattle.nv_core.specs.Reaping.{answer_of, is_new, names_command, next_completion, waits_in}
use Rattle.nv_core.specs.Submit.{IsOfTag}
use Rattle.nv_core.specs.declared.holding.Holder.{Holder}
use Rattle.nv_core.proofs.Alike.{unplaced-due}
use Rattle.nv_host.specs.Passes.{IsOwn, NonePosts, NoneWaits, NoneWaitsAt, QueuesRest}
use Rattle.nv_host.specs.Served.{IsAccepted}
use Rattle.nv_host.specs.Work.{IsIn, NotDue, Rests, Scene, Waits, is_allowed}
use Rattle.nv_host.specs.declared.worked.Scope.TheVariants as scope
use Rattle.nv_laws_sound.proofs.Lists.{some-same}
use Rattle.nv_laws_sound.specs.Mediators.{IsMediators}
use Rattle.nv_mediator.specs.Hosted.{limit_of}
use Rattle.nv_model.specs.Controller.{front}
use Rattle.nv_model.specs.declared.reply.Reply.{Reply}
use Rattle.nv_model.specs.declared.reply.Reply.TheVariants as reply
use Rattle.nv_plan.specs.declared.job.Job.{Job}
use Rattle.nv_world_model.specs.Area.{tag_count}
use Rattle.nv_world_model.specs.Due.{due, is_due_kind}
use Rattle.nv_world_model.specs.Geometry.{Geometry, Guest}
use Rattle.nv_world_model.specs.Seat.{Owner, owner_by, owner_of}
use Rattle.nv_world_model.specs.SetUp.{Refusal, SetUp, TooManyGuests, host_refusal_of, most_guests}
use Rattle.nv_world_model.specs.Step.{After, administered_in, for_ended, for_one, for_owner, is_done, is_io_queue, post_all, replied, statuses_of, step, take_from, take_front}
use Rattle.nv_world_model.specs.World.{Ended, Flying, Free, Lane, Tag, Taken, World, group, tag_in, tag_of}
use Rattle.nv_world_model.specs.declared.event.Event.{Event}
use Rattle.nv_world_model.specs.declared.event.Event.TheVariants as event

-- ---- what is due nowhere

pub true-false : (b : Bool) → b ≡ true → b ≡ false → ⊥
true-false b is isnt = (let bad : true ≡ false = sym is ∙ isnt in cc)

pub or-true : (b : Bool) → b || true ≡ true
or-true true = refl
or-true false = refl

pub and-false : (b : Bool) → b && false ≡ false
and-false true = refl
and-false false = refl

pub due-not : (geometry : Geometry) (e : Event) (w : World) (a : After) → step geometry e w ≡ a → is_done a.reply ≡ false → due geometry e w ≡ false
unfolding due
due-not geometry e w a is undone =
    ap (λ (x : After). is_due_kind e && is_done x.reply) is ∙ ap (λ (b : Bool). is_due_kind e && b) undone ∙ and-false (is_due_kind e)

module _ (geometry : Geometry) (w : World) where
  -- an admin command of no guest
  pub admin-no_guest : (guest : ℕ) → owner_of geometry w guest ≡ None → due geometry (event.Admin guest) w ≡ false
  unfolding step
  admin-no_guest guest none =
      due-not geometry (event.Admin guest) w (replied reply.Ignored w)
      (ap (λ (o : Option Owner). for_one o w (λ owner. administered_in owner w)) none) refl

  -- a command of no guest taken, or one on no lane, or from no I/O queue
  pub take-no_guest : (guest queue lane : ℕ) → owner_of geometry w guest ≡ None → due geometry (event.Take guest queue lane) w ≡ false
  unfolding step
  take-no_guest guest queue lane none =
      due-not geometry (event.Take guest queue lane) w (replied reply.Ignored w)
      (ap (λ (o : Option Owner). for_one o w (λ owner. for_one (slice_get w.lanes lane) w (λ l. take_from queue lane l owner w))) none) refl

  pub take-no_lane : (guest queue lane : ℕ) → slice_get w.lanes lane ≡ None → due geometry (event.Take guest queue lane) w ≡ false
  unfolding due step
  take-no_lane guest queue lane none = by_owner (owner_of geometry w guest)
    where
      by_owner : (x : Option Owner) → is_done (for_one x w (λ o. for_one (slice_get w.lanes lane) w (λ l. take_from queue lane l o w))).reply ≡ false
      by_owner None = refl
      by_owner (Some o) = ap (λ (y : Option Lane). is_done (for_one y w (λ l. take_from queue lane l o w)).reply) none

  pub take-no_queue : (guest queue lane : ℕ) → is_io_queue queue ≡ false → due geometry (event.Take guest queue lane) w ≡ false
  unfolding due step
  take-no_queue guest queue lane none = by_owner (owner_of geometry w guest)
    where
      by_lane : (o : Owner) (y : Option Lane) → is_done (for_one y w (λ l. take_from queue lane l o w)).reply ≡ false
      by_lane o None = refl
      by_lane o (Some l) =
          ap (λ (b : Bool). is_done (cond b (take_front (front o.controller queue) queue lane l o w) (replied reply.Ignored w)).reply) none

      by_owner : (x : Option Owner) → is_done (for_one x w (λ o. for_one (slice_get w.lanes lane) w (λ l. take_from queue lane l o w))).reply ≡ false
      by_owner None = refl
      by_owner (Some o) = by_lane o (slice_get w.lanes lane)

  -- a completion of no tag
  pub post-no_tag : (lane tag : ℕ) → tag_of w lane tag ≡ None → due geometry (event.Post lane tag) w ≡ false
  unfolding step
  post-no_tag lane tag none =
      due-not geometry (event.Post lane tag) w (replied reply.Ignored w)
      (ap (λ (o : Option Tag). for_ended tag o w (λ command.
      for_owner (owner_of geometry w command.guest) w (λ o.
      post_all (statuses_of lane (group w lane tag) w) command geometry.mediator lane (group w lane tag) o w))) none) refl

pub act-not_due : (geometry : Geometry) (e : Event) (w : World) → is_due_kind e ≡ false → due geometry e w ≡ false
unfolding due
act-not_due geometry e w kind = ap (λ (b : Bool). b && is_done (step geometry e w).reply) kind

-- ---- a scene

-- a world that may be there, with the lanes of the side
abbrev pub placed : Scene → World → World
placed s w = record w { lanes = s.served.side.lanes }

-- what is due in it is due there
pub placed-due : (s : Scene) (w : World) (e : Event) → IsMediators e → IsBeside s.served.side s.memory w
    → due s.served.setup.geometry e w ≡ due s.served.setup.geometry e (placed s w)
placed-due s w e mine on =
    unplaced-due s.served.setup.geometry e mine w (placed s w)
    (ap (λ (ls : List Lane). let u : World = record w { lanes = ls } in u) on.lanes)

-- what is not due there is not due
pub not-there : (s : Scene) (w : World) (e : Event) → IsMediators e → IsBeside s.served.side s.memory w
    → due s.served.setup.geometry e (placed s w) ≡ false → due s.served.setup.geometry e w ≡ true → ⊥
not-there s w e mine on gone is = true-false (due s.served.setup.geometry e w) is (placed-due s w e mine on ∙ gone)

no-owner : (s : Scene) (w : World) (guest : ℕ) → slice_get s.served.setup.geometry.guests guest ≡ None
    → owner_of s.served.setup.geometry (placed s w) guest ≡ None
no-owner s w guest none = ap (λ (x : Option Guest). owner_by guest x (slice_get w.controllers guest)) none

-- what the code was told
pub not-told : (s : Scene) (e : Event) (b : Bool) → b ≡ false
    → ((w : World) → IsBeside s.served.side s.memory w → b ≡ (is_allowed s.served e && due s.served.setup.geometry e w))
    → (w : World) → IsBeside s.served.side s.memory w → is_allowed s.served e ≡ true → due s.served.setup.geometry e w ≡ true → ⊥
not-told s e b isnt told w on allowed is =
    true-false b (told w on ∙ ap (λ (x : Bool). x && due s.served.setup.geometry e w) allowed ∙ is) isnt

pub and-both : (a b : Bool) → (a && b) ≡ true → (a ≡ true) × (b ≡ true)
and-both true b is = (refl, is)
and-both false b is = absurd (true-false false is refl)

pub told : (s : Scene) (e : Event) (b : Bool) → b ≡ true
    → ((w : World) → IsBeside s.served.side s.memory w → b ≡ (is_allowed s.served e && due s.served.setup.geometry e w))
    → (w : World) → IsBeside s.served.side s.memory w → (is_allowed s.served e ≡ true) × (due s.served.setup.geometry e w ≡ true)
told s e b so tells w on = and-both (is_allowed s.served e) (due s.served.setup.geometry e w) (sym (tells w on) ∙ so)

-- ---- whether a guest is there

pub no-limit : (o : Option Guest) → None ≡ limit_of o → o ≡ None
no-limit None e = refl
no-limit (Some guest) e = absurd (none-some guest.limit e)

pub some-limit : (o : Option Guest) (limit : ℕ) → Some limit ≡ limit_of o → (guest : Guest) × (o ≡ Some guest)
some-limit None limit e = absurd (none-some limit (sym e))
some-limit (Some guest) limit e = (guest, refl)

-- ---- a completion

-- what answers that it was read, or answers otherwise, by whether it waits
module _ (geometry : Geometry) (lane : ℕ) (memory : List ℕ) where
  abbrev answered : Bool → Bool → Option Reply
  answered new names = cond new (cond names (Some reply.Done) None) (Some reply.Idle)

  pub done-waits : (o : Option Lane) → answer_of geometry lane o memory ≡ Some reply.Done → waits_in geometry lane o memory ≡ true
  done-waits None e = (cc)
  done-waits (Some l) e = by (is_new l (next_completion geometry lane l memory)) (names_command lane l (next_completion geometry lane l memory)) e
    where
      by : (new names : Bool) → answered new names ≡ Some reply.Done → new ≡ true
      by true names e = refl
      by false names e = (cc)

  pub other-waits : (o : Option Lane) (r : Reply) → answer_of geometry lane o memory ≡ Some r → (r ≡ reply.Done → ⊥) → waits_in geometry lane o memory ≡ false
  other-waits None r e other = refl
  other-waits (Some l) r e other = by (is_new l (next_completion geometry lane l memory)) (names_command lane l (next_completion geometry lane l memory)) e
    where
      by : (new names : Bool) → answered new names ≡ Some r → new ≡ false
      by true true e = absurd (other (sym (some-same reply.Done r e)))
      by true false e = absurd (none-some r e)
      by false names e = refl

-- ---- a job

-- a tag that a job is told of is the guest's, and its command goes by it
pub record IsOwnJob (lane tag : ℕ) (t : Option Tag) (job : Job) : Type 0 where
  pub holder : holder_in t ≡ Some (record { guest = job.guest; leader = tag })
  pub current : IsOfTag t job
  pub on : job.lane ≡ lane
  pub under : job.tag ≡ tag

pub own-job : (lane tag : ℕ) (t : Option Tag) (job : Job) → job_in lane tag t ≡ Some job → IsOwnJob lane tag t job
own-job lane tag None job is = absurd (none-some job is)
own-job lane tag (Some Free) job is = absurd (none-some job is)
own-job lane tag (Some (Taken command reads)) job is = by_leader (command.leader == tag) refl is
  where
    by_leader : (b : Bool) → command.leader == tag ≡ b → cond b (Some (job_with lane tag command reads)) None ≡ Some job
        → IsOwnJob lane tag (Some (Taken command reads)) job
    by_leader false e is = absurd (none-some job is)
    by_leader true e is =
        (let leads : command.leader ≡ tag = eqb-true command.leader tag e in
        subst (λ (j : Job). IsOwnJob lane tag (Some (Taken command reads)) j) (some-same (job_with lane tag command reads) job is)
        (record {
          holder = ap (λ (n : ℕ). let h : Holder = record { guest = command.guest; leader = n } in Some h) leads;
          current = (leads, record { on = refl; under = refl; whose = refl; entry = refl; read = refl });
          on = refl;
          under = refl;
        }))
own-job lane tag (Some (Flying command share at)) job is = absurd (none-some job is)
own-job lane tag (Some (Ended command st share)) job is = absurd (none-some job is)

-- where a guest's command doesn't go by a tag, none of its commands waits there; nor where none does
pub not-own : (s : Scene) (guest lane tag : ℕ) → (IsOwn s guest lane tag → ⊥) → NoneWaitsAt s guest lane tag
not-own s guest lane tag isnt job given waits whose =
    isnt ((own-job lane tag (tag_in (slice_get s.served.side.lanes lane) tag) job waits.taken).holder
    ∙ ap (λ (n : ℕ). let h : Holder = record { guest = n; leader = tag } in Some h) whose)

pub no-job : (s : Scene) (guest lane tag : ℕ) → job_in lane tag (tag_in (slice_get s.served.side.lanes lane) tag) ≡ None
    → NoneWaitsAt s guest lane tag
no-job s guest lane tag none job given waits whose = none-some job (sym none ∙ waits.taken)

pub none-waiting : (s : Scene) (guest lane tag : ℕ) (waiting : Bool) → waiting ≡ false
    → (is_some (job_in lane tag (tag_in (slice_get s.served.side.lanes lane) tag)) ≡ true → waiting ≡ true) → NoneWaitsAt s guest lane tag
none-waiting s guest lane tag waiting isnt so job given waits whose = true-false waiting (so (ap is_some waits.taken)) isnt

-- ---- a guest

module _ (s : Scene) (guest : ℕ) where
  abbrev lanes : List Lane
  lanes = s.served.side.lanes

  -- one that is not there
  pub no_guest-waits : slice_get s.served.setup.geometry.guests guest ≡ None → (lane tag : ℕ) → NoneWaitsAt s guest lane tag
  no_guest-waits none lane tag job given waits whose =
      none-some given (sym none ∙ ap (slice_get s.served.setup.geometry.guests) (sym whose) ∙ waits.whose)

  -- a command that waits is not the guest's
  waits-not : ((lane tag : ℕ) → NoneWaitsAt s guest lane tag) → (lane tag : ℕ) (job : Job) (given : Guest)
      → option_map (λ (x : Holder). x.guest) (holder_in (tag_in (slice_get lanes lane) tag)) ≡ Some guest → Waits s lane tag job given → ⊥
  waits-not none lane tag job given whose waits =
      let own = own-job lane tag (tag_in (slice_get lanes lane) tag) job waits.taken in
      none lane tag job given waits (some-same job.guest guest (sym (ap (option_map (λ (x : Holder). x.guest)) own.holder) ∙ whose))

  module _ (no_admin : NotDue s (event.Admin guest)) (none_waits : (lane tag : ℕ) → NoneWaitsAt s guest lane tag)
      (none_takes : (queue lane : ℕ) → NotDue s (event.Take guest queue lane)) where
    rests-by : (e : Event) → IsIn (scope.Guest guest) s e → NotDue s e
    rests-by (event.Guest g a) own w on is = none-some guest own
    rests-by (event.Admin g) own w on is =
        subst (λ (n : ℕ). NotDue s (event.Admin n)) (sym (some-same g guest own)) no_admin w on is
    rests-by (event.Take g queue lane) own w on is =
        subst (λ (n : ℕ). NotDue s (event.Take n queue lane)) (sym (some-same g guest own)) (none_takes queue lane) w on is
    rests-by (event.List lane tag addr len) own w on is = waits-not none_waits lane tag is.0 is.1 own is.2
    rests-by (event.Submit lane tag) own w on is = waits-not none_waits lane tag is.0 is.1 own is.3
    rests-by (event.GiveUp lane tag) own w on is =
        true-false (due s.served.setup.geometry (event.GiveUp lane tag) w) is.1 (act-not_due s.served.setup.geometry (event.GiveUp lane tag) w refl)
    rests-by (event.DevTake lane) own w on is = none-some guest own
    rests-by (event.DevMove lane slot number) own w on is = none-some guest own
    rests-by (event.DevPost lane slot) own w on is = none-some guest own
    rests-by (event.DevFail lane slot st) own w on is = none-some guest own
    rests-by (event.Keep block) own w on is = none-some guest own
    rests-by (event.Reap lane) own w on is = none-some guest own
    rests-by (event.Post lane tag) own w on is = none-some guest own

  no_guest-admin : slice_get s.served.setup.geometry.guests guest ≡ None → NotDue s (event.Admin guest)
  no_guest-admin none w on is =
      not-there s w (event.Admin guest) tt on
      (admin-no_guest s.served.setup.geometry (placed s w) guest (no-owner s w guest none)) is.1

  no_guest-take : slice_get s.served.setup.geometry.guests guest ≡ None → (queue lane : ℕ) → NotDue s (event.Take guest queue lane)
  no_guest-take none queue lane w on is =
      not-there s w (event.Take guest queue lane) tt on
      (take-no_guest s.served.setup.geometry (placed s w) guest queue lane (no-owner s w guest none)) is.1

  pub no_guest-rests : slice_get s.served.setup.geometry.guests guest ≡ None → Rests (scope.Guest guest) s
  no_guest-rests none = rests-by (no_guest-admin none) (no_guest-waits none) (no_guest-take none)

  -- of a lane that is not there, or of no I/O queue, nothing is taken
  pub past-take : (queue lane : ℕ) → length lanes ≤ lane → NotDue s (event.Take guest queue lane)
  past-take queue lane beyond w on is =
      not-there s w (event.Take guest queue lane) tt on
      (take-no_lane s.served.setup.geometry (placed s w) guest queue lane (slice_get_past lanes lane beyond)) is.1

  pub no_queue-take : (queue lane : ℕ) → is_io_queue queue ≡ false → NotDue s (event.Take guest queue lane)
  no_queue-take queue lane none w on is =
      not-there s w (event.Take guest queue lane) tt on
      (take-no_queue s.served.setup.geometry (placed s w) guest queue lane none) is.1

  past-waits : (lane tag : ℕ) → length lanes ≤ lane → NoneWaitsAt s guest lane tag
  past-waits lane tag beyond job given waits whose =
      none-some job (sym (ap (λ (o : Option Lane). job_in lane tag (tag_in o tag)) (slice_get_past lanes lane beyond)) ∙ waits.taken)

  -- and one that is there, where nothing of its queues is due, and none of its commands waits on any lane
  pub guest-rests : QueuesRest s guest → ((lane : ℕ) → lane < length lanes → NoneWaits s guest lane) → Rests (scope.Guest guest) s
  guest-rests queues none = rests-by queues.admin waits queues.takes
    where
      waits : (lane tag : ℕ) → NoneWaitsAt s guest lane tag
      waits lane tag = elim (cases_lt lane (length lanes)) [
        | inl below ↦ none lane below tag
        | inr beyond ↦ past-waits lane tag beyond
      ]

-- ---- tags of a lane

module _ (s : Scene) (lane : ℕ) (many : (n : ℕ) (l : Lane) → slice_get s.served.side.lanes n ≡ Some l → length l.tags ≡ tag_count) where
  pub past-tag : (tag : ℕ) → tag_count ≤ tag → tag_in (slice_get s.served.side.lanes lane) tag ≡ None
  past-tag tag beyond = by_lane (slice_get s.served.side.lanes lane) refl
    where
      by_lane : (o : Option Lane) → slice_get s.served.side.lanes lane ≡ o → tag_in o tag ≡ None
      by_lane None at = refl
      by_lane (Some l) at = (let size = many lane l at in slice_get_past l.tags tag (omega (arith, size, beyond)))

  pub past-post : (tag : ℕ) → tag_count ≤ tag → NotDue s (event.Post lane tag)
  past-post tag beyond w on is =
      not-there s w (event.Post lane tag) tt on (post-no_tag s.served.setup.geometry (placed s w) lane tag (past-tag tag beyond)) is.1

  pub past-job : (guest tag : ℕ) → tag_count ≤ tag → NoneWaitsAt s guest lane tag
  past-job guest tag beyond = no-job s guest lane tag (ap (job_in lane tag) (past-tag tag beyond))

-- ---- a lane

pub lane-rests : (s : Scene) (lane : ℕ) → NotDue s (event.Reap lane) → NonePosts s lane → Rests (scope.Lane lane) s
lane-rests s lane no_reap none_posts (event.Guest g a) own w on is = none-some lane own
lane-rests s lane no_reap none_posts (event.Admin g) own w on is = none-some lane own
lane-rests s lane no_reap none_posts (event.Take g queue n) own w on is = none-some lane own
lane-rests s lane no_reap none_posts (event.List n tag addr len) own w on is = none-some lane own
lane-rests s lane no_reap none_posts (event.Submit n tag) own w on is = none-some lane own
lane-rests s lane no_reap none_posts (event.GiveUp n tag) own w on is = none-some lane own
lane-rests s lane no_reap none_posts (event.DevTake n) own w on is = none-some lane own
lane-rests s lane no_reap none_posts (event.DevMove n slot number) own w on is = none-some lane own
lane-rests s lane no_reap none_posts (event.DevPost n slot) own w on is = none-some lane own
lane-rests s lane no_reap none_posts (event.DevFail n slot st) own w on is = none-some lane own
lane-rests s lane no_reap none_posts (event.Keep block) own w on is = none-some lane own
lane-rests s lane no_reap none_posts (event.Reap n) own w on is =
    subst (λ (k : ℕ). NotDue s (event.Reap k)) (sym (some-same n lane own)) no_reap w on is
lane-rests s lane no_reap none_posts (event.Post n tag) own w on is =
    subst (λ (k : ℕ). NotDue s (event.Post k tag)) (sym (some-same n lane own)) (none_posts tag) w on is

-- one that is not there
no_lane-rests : (s : Scene) (lane : ℕ) → length s.served.side.lanes ≤ lane → Rests (scope.Lane lane) s
no_lane-rests s lane beyond = lane-rests s lane no_reap none_posts
  where
    none : slice_get s.served.side.lanes lane ≡ None
    none = slice_get_past s.served.side.lanes lane beyond

    no_reap : NotDue s (event.Reap lane)
    no_reap w on is =
        true-false (waits_in s.served.setup.geometry lane (slice_get s.served.side.lanes lane) s.memory) is
        (ap (λ (o : Option Lane). waits_in s.served.setup.geometry lane o s.memory) none)

    none_posts : NonePosts s lane
    none_posts tag w on is =
        not-there s w (event.Post lane tag) tt on
        (post-no_tag s.served.setup.geometry (placed s w) lane tag (ap (λ (o : Option Lane). tag_in o tag) none)) is.1

-- ---- all

module _ (s : Scene) (few : length s.served.setup.geometry.guests ≤ 16) (lanes_rest : (lane : ℕ) → lane < length s.served.side.lanes → Rests (scope.Lane lane) s)
    (guests_rest : (guest : ℕ) → guest < 16 → Rests (scope.Guest guest) s) where
  of_lane : (lane : ℕ) → Rests (scope.Lane lane) s
  of_lane lane = elim (cases_lt lane (length s.served.side.lanes)) [
    | inl below ↦ lanes_rest lane below
    | inr beyond ↦ no_lane-rests s lane beyond
  ]

  of_guest : (guest : ℕ) → Rests (scope.Guest guest) s
  of_guest guest = elim (cases_lt guest 16) [
    | inl below ↦ guests_rest guest below
    | inr beyond ↦ no_guest-rests s guest (slice_get_past s.served.setup.geometry.guests guest (omega (arith, few, beyond)))
  ]

  of_job : (lane tag : ℕ) (job : Job) (given : Guest) → Waits s lane tag job given
      → option_map (λ (x : Holder). x.guest) (holder_in (tag_in (slice_get s.served.side.lanes lane) tag)) ≡ Some job.guest
  of_job lane tag job given waits =
      ap (option_map (λ (x : Holder). x.guest)) (own-job lane tag (tag_in (slice_get s.served.side.lanes lane) tag) job waits.taken).holder

  no_act : (e : Event) (w : World) → is_due_kind e ≡ false → due s.served.setup.geometry e w ≡ true → ⊥
  no_act e w kind is = true-false (due s.served.setup.geometry e w) is (act-not_due s.served.setup.geometry e w kind)

  not_offered : true ≡ false → ⊥
  not_offered bad = cc

  pub all-rests : Rests scope.All s
  all-rests (event.Guest g a) own w on is = no_act (event.Guest g a) w refl is.1
  all-rests (event.Admin g) own w on is = of_guest g (event.Admin g) refl w on is
  all-rests (event.Take g queue n) own w on is = of_guest g (event.Take g queue n) refl w on is
  all-rests (event.List n tag addr len) own w on is = of_guest is.0.guest (event.List n tag addr len) (of_job n tag is.0 is.1 is.2) w on is
  all-rests (event.Submit n tag) own w on is = of_guest is.0.guest (event.Submit n tag) (of_job n tag is.0 is.1 is.3) w on is
  all-rests (event.GiveUp n tag) own w on is = no_act (event.GiveUp n tag) w refl is.1
  all-rests (event.DevTake n) own w on is = not_offered (sym is.0)
  all-rests (event.DevMove n slot number) own w on is = not_offered (sym is.0)
  all-rests (event.DevPost n slot) own w on is = not_offered (sym is.0)
  all-rests (event.DevFail n slot st) own w on is = not_offered (sym is.0)
  all-rests (event.Keep block) own w on is = not_offered (sym is.0)
  all-rests (event.Reap n) own w on is = of_lane n (event.Reap n) refl w on is
  all-rests (event.Post n tag) own w on is = of_lane n (event.Post n tag) refl w on is

-- ---- how many guests an accepted set-up has at most

pub refused-not : (b : Bool) (r : Refusal) (rest : Option Refusal) → cond b (Some r) rest ≡ None → b ≡ false
refused-not true r rest e = absurd (none-some r (sym e))
refused-not false r rest e = refl

pub few-guests : (s : SetUp) → IsAccepted s → length s.geometry.guests ≤ 16
unfolding host_refusal_of
few-guests s none =
    let not_more : nat_lt most_guests (length s.geometry.guests) ≡ false =
    refused-not (nat_lt most_guests (length s.geometry.guests)) TooManyGuests _ none in
    grind (arith, nat_tests, not_more)
