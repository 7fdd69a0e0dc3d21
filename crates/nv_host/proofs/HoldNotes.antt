-- Notes of commands that wait for room, as events leave them.
use Rattle.std.proofs.Common.{◌≡◌, ℕ, zero, suc, ◌<◌, ◌≤◌, ◌==◌, ◌&&◌, ◌||◌, ◌⊎◌, inl, inr, not, cond, Bool, true, false, List, [], ◌∷◌, length, map, nat_lt, replicate, set, slice_get, slice_index_or}
use Rattle.std.proofs.Common.{Option, Some, None, arith, refl, sym, ap, subst, ◌∙◌, eqb-true}
use Rattle.std.specs.Option.{option_map, unwrap_or}
use Rattle.std.specs.Prelude.{Err, IfOk, IfSome, Ok, OnErr, Result}
use Rattle.std.proofs.lemmas.Bool.{cases_eq, eq-eqb, lt-ltb, ne_eqb}
use Rattle.std.proofs.lemmas.Option.{slice_get-map}
use Rattle.nv_core.proofs.Besides.{beside-of}
use Rattle.nv_core.proofs.FrontLaws.{in-beside, own-kept}
use Rattle.nv_core.proofs.FullQueues.{full-held}
use Rattle.nv_core.proofs.Sides.{own-side, own-world}
use Rattle.nv_core.specs.Front.{ComesTo, IsReaped, IsSideOf, IsSideStep, IsStepInEach, with_side}
use Rattle.nv_laws_sound.specs.Side.{Side}
use Rattle.nv_core.specs.FullQueues.{AreHeldWith, IsFull, from_in, is_from}
use Rattle.nv_core.specs.Jobs.{held_by, holder_in}
use Rattle.nv_core.specs.News.{is_busy, others, tags_at}
use Rattle.nv_core.specs.Reaping.{waits_in}
use Rattle.nv_core.specs.Tags.{command_at, ended_in}
use Rattle.nv_core.specs.declared.holding.Holder.{Holder}
use Rattle.nv_entry.specs.Status.{StatusField}
use Rattle.nv_host.proofs.EventWalks.{IsTake, guest_by, touched}
use Rattle.nv_host.proofs.HoldEvents.{reaped-older, reaped-seated, step-older, step-seated, take-kept}
use Rattle.nv_host.proofs.Marked.{both-true, no-part, not-ended, not-taken, post-unended, where-among}
use Rattle.nv_host.proofs.Rests.{lane-rests, not-there, or-true, placed, true-false}
use Rattle.nv_host.proofs.Searches.{search-drop, search-none}
use Rattle.nv_host.specs.Holds.{AreHeld, forgotten, no_holds, noted}
use Rattle.nv_host.specs.Served.{IsServed, Served}
use Rattle.nv_host.specs.Passes.{LaneRests}
use Rattle.nv_host.specs.Work.{NotDue, Scene, scene}
use Rattle.nv_host.specs.declared.holds.Holds.{Holds}
use Rattle.nv_host.specs.declared.worked.Scope.TheVariants as scope
use Rattle.nv_laws_sound.proofs.CountedEvents.{kept-whole}
use Rattle.std.proofs.lemmas.Option.{none-some}
use Rattle.nv_laws_sound.proofs.Lists.{slice_get-there, some-same}
use Rattle.nv_laws_sound.specs.Mediators.{IsMediators}
use Rattle.nv_laws_sound.specs.Unplaced.{unplaced_lane, unplaced_tag}
use Rattle.nv_model.specs.Controller.{Controller}
use Rattle.nv_model.specs.declared.act.Act.{Act}
use Rattle.nv_model.specs.declared.reply.Reply.{Reply}
use Rattle.nv_tags.proofs.Masks.{tags_in-zero}
use Rattle.nv_tags.proofs.Rows.{is_among}
use Rattle.nv_tags.specs.Kept.{tags_in}
use Rattle.nv_world_model.proofs.Seats.{slice_get-set, slice_get-set-other}
use Rattle.nv_world_model.specs.Due.{due}
use Rattle.nv_world_model.specs.Seat.{completion_at}
use Rattle.nv_world_model.specs.Share.{Share}
use Rattle.nv_world_model.specs.Step.{After, is_telling, step}
use Rattle.nv_world_model.specs.World.{Command, Ended, Flying, Free, Lane, Tag, Taken, World, tag_in, tag_of}
use Rattle.nv_world_model.specs.declared.event.Event.{Event}
use Rattle.nv_world_model.specs.declared.event.Event.TheVariants as event

-- ---- no note

zeros : (n lane : ℕ) → ◌≡◌ {A = ℕ} (unwrap_or (slice_get (replicate n 0) lane) 0) 0
zeros zero lane = refl
zeros (suc n) zero = refl
zeros (suc n) (suc lane) = zeros n lane

none-at : (lane tag : ℕ) → is_among (tags_at no_holds.tags lane) tag ≡ false
none-at lane tag = ap (λ (xs : List ℕ). is_among xs tag) (ap tags_in (zeros 8 lane) ∙ sym (tags_in-zero 0 refl))

pub held-none : (side : Side) → AreHeld side no_holds
held-none side = λ lane tag command among at. (let bad : true ≡ false = sym among ∙ none-at lane tag in cc)

-- ---- notes as they were

full-still : (guest queue : ℕ) (old new : Side) → slice_get new.controllers guest ≡ slice_get old.controllers guest → IsFull guest queue old
    → IsFull guest queue new
full-still guest queue old new same is =
    record {
      guest_is = is.guest_is;
      queue_is = is.queue_is;
      controller = is.controller;
      there = same ∙ is.there;
      enabled = is.enabled;
      full = is.full;
    }

-- no tag has another command, and no controller of a guest that is noted has changed
pub held-still : (old new : Side) (holds : Holds) → AreHeld old holds
    → ((lane tag : ℕ) (command : Command) → is_among (tags_at holds.tags lane) tag ≡ true → command_at (tag_in (slice_get new.lanes lane) tag) ≡ Some command
    → command_at (tag_in (slice_get old.lanes lane) tag) ≡ Some command)
    → ((guest : ℕ) → is_among (tags_in holds.guests) guest ≡ true → slice_get new.controllers guest ≡ slice_get old.controllers guest)
    → AreHeld new holds
held-still old new holds are older seats = λ lane tag command among at.
    (let was = are lane tag command among (older lane tag command among at) in
    (was.0, full-still command.guest command.queue old new (seats command.guest was.0) was.1))

pub held-same : (old new : Side) (holds : Holds) → new ≡ old → AreHeld old holds → AreHeld new holds
held-same old new holds same are = subst (λ (x : Side). AreHeld x holds) (sym same) are

-- a guest that is not noted has touched none of the others
apart : (holds : Holds) (guest other : ℕ) → is_among (tags_in holds.guests) guest ≡ false → is_among (tags_in holds.guests) other ≡ true
    → (b : Option ℕ) → b ≡ Some guest → b ≡ Some other → ⊥
apart holds guest other out among b is named =
    (let same : guest ≡ other = some-same guest other (sym is ∙ named) in
    let bad : true ≡ false = sym among ∙ ap (is_among (tags_in holds.guests)) (sym same) ∙ out in
    cc)

-- ---- places of parts

unplaced-command : (t : Tag) → command_at (Some (unplaced_tag t)) ≡ command_at (Some t)
unplaced-command Free = refl
unplaced-command (Taken command reads) = refl
unplaced-command (Flying command share at) = refl
unplaced-command (Ended command st share) = refl

unplaced-at : (o : Option Lane) (tag : ℕ) → command_at (tag_in (option_map unplaced_lane o) tag) ≡ command_at (tag_in o tag)
unplaced-at None tag = refl
unplaced-at (Some l) tag = ap command_at (slice_get-map unplaced_tag l.tags tag) ∙ by (slice_get l.tags tag)
  where
    by : (t : Option Tag) → command_at (option_map unplaced_tag t) ≡ command_at t
    by None = refl
    by (Some t) = unplaced-command t

commands-alike : (ls ms : List Lane) → map unplaced_lane ls ≡ map unplaced_lane ms → (lane tag : ℕ)
    → command_at (tag_in (slice_get ls lane) tag) ≡ command_at (tag_in (slice_get ms lane) tag)
commands-alike ls ms same lane tag =
    sym (unplaced-at (slice_get ls lane) tag)
    ∙ ap (λ (o : Option Lane). command_at (tag_in o tag))
    (sym (slice_get-map unplaced_lane ls lane) ∙ ap (λ (ns : List Lane). slice_get ns lane) same ∙ slice_get-map unplaced_lane ms lane)
    ∙ unplaced-at (slice_get ms lane) tag

-- ---- events

module _ (h : Served) (is : IsServed h) (holds : Holds) (are : AreHeld h.side holds) (e : Event) (mine : IsMediators e) (new : Side) (before after : List ℕ)
    (r : Reply) (made : IsStepInEach h.setup.geometry e h.side before r new after) where
  abbrev own : World
  own = own-world h.side before

  abbrev next : World
  next = (step h.setup.geometry e own).world

  comes : ComesTo h.setup.geometry e own r new after
  comes = made own (beside-of h.side before own (own-side h.side before))

  module _ (other : IsTake e → ⊥) where
    older : (lane tag : ℕ) (command : Command) → command_at (tag_in (slice_get new.lanes lane) tag) ≡ Some command
        → command_at (tag_in (slice_get h.side.lanes lane) tag) ≡ Some command
    older lane tag command at =
        ap (λ (ls : List Lane). command_at (tag_in (slice_get ls lane) tag)) (sym (own-side h.side before).lanes)
        ∙ step-older h.setup.geometry own (kept-whole h.setup.geometry own (own-kept h.setup.geometry h.side before is.kept)) e mine other lane tag command
        (commands-alike next.lanes new.lanes (sym (ap (λ (a : After). a.world.lanes) comes)) lane tag ∙ at)

    seated : (guest : ℕ) → (touched e own ≡ Some guest → ⊥) → slice_get new.controllers guest ≡ slice_get h.side.controllers guest
    seated guest untouched =
        ap (λ (cs : List Controller). slice_get cs guest) (ap (λ (a : After). a.world.controllers) comes)
        ∙ step-seated h.setup.geometry own (kept-whole h.setup.geometry own (own-kept h.setup.geometry h.side before is.kept)) e mine other guest untouched
        ∙ ap (λ (cs : List Controller). slice_get cs guest) (own-side h.side before).controllers

    -- an event that touches no guest that is noted
    pub event-still : ((guest : ℕ) → is_among (tags_in holds.guests) guest ≡ true → touched e own ≡ Some guest → ⊥) → AreHeld new holds
    event-still untouched =
        held-still h.side new holds are (λ lane tag command among at. older lane tag command at) (λ guest among. seated guest (untouched guest among))

    -- an event of a guest's that was forgotten, where it was noted
    pub event-forgets : (guest : ℕ) → touched e own ≡ Some guest → AreHeld new (forgotten holds guest)
    event-forgets guest is_his = by (is_among (tags_in holds.guests) guest) refl
      where
        by : (b : Bool) → is_among (tags_in holds.guests) guest ≡ b → AreHeld new (cond b no_holds holds)
        by true among = held-none new
        by false out = event-still (λ its among named. apart holds guest its out among (touched e own) is_his named)

-- a Take: of its lane only those are noted still whose parts have ended
module _ (h : Served) (holds : Holds) (are : AreHeld h.side holds) (guest queue lane : ℕ) (new : Side) (before after : List ℕ) (r : Reply)
    (made : IsSideStep h.setup.geometry (event.Take guest queue lane) h.side before r new after) where
  abbrev own_taken : World
  own_taken = own-world h.side before

  abbrev next_taken : World
  next_taken = (step h.setup.geometry (event.Take guest queue lane) own_taken).world

  made-taken : with_side new after own_taken ≡ next_taken
  made-taken = ap (λ (a : After). a.world) (made own_taken (own-side h.side before))

  lanes-taken : next_taken.lanes ≡ new.lanes
  lanes-taken = sym (ap (λ (w : World). w.lanes) made-taken)

  abbrev OfLane : Holds → Type 0
  OfLane kept = (tag : ℕ) → is_among (tags_at kept.tags lane) tag ≡ true → is_among (ended_in (slice_get new.lanes lane)) tag ≡ true

  take-still : (kept : Holds) → AreHeld h.side kept → OfLane kept → is_among (tags_in kept.guests) guest ≡ false → AreHeld new kept
  take-still kept still ended out =
      (let law = take-kept h.setup.geometry own_taken guest queue lane in
      held-still h.side new kept still
      (λ a tag command among at.
      ap (λ (ls : List Lane). command_at (tag_in (slice_get ls a) tag)) (sym (own-side h.side before).lanes)
      ∙ law.0 a tag command
      (λ here.
      ap (λ (ls : List Lane). is_among (ended_in (slice_get ls a)) tag) lanes-taken
      ∙ ap (λ (n : ℕ). is_among (ended_in (slice_get new.lanes n)) tag) here
      ∙ ended tag (ap (λ (n : ℕ). is_among (tags_at kept.tags n) tag) (sym here) ∙ among))
      (ap (λ (ls : List Lane). command_at (tag_in (slice_get ls a) tag)) lanes-taken ∙ at))
      (λ its among.
      ap (λ (cs : List Controller). slice_get cs its) (ap (λ (w : World). w.controllers) made-taken)
      ∙ law.1 its (by-bool (its == guest) (λ same.
      (let bad : true ≡ false = sym among ∙ ap (is_among (tags_in kept.guests)) (eqb-true its guest same) ∙ out in cc)))
      ∙ ap (λ (cs : List Controller). slice_get cs its) (own-side h.side before).controllers))
    where
      by-bool : (b : Bool) → (b ≡ true → ⊥) → b ≡ false
      by-bool true not = absurd (not refl)
      by-bool false not = refl

-- a completion was read, or nothing has changed
module _ (h : Served) (holds : Holds) (are : AreHeld h.side holds) (lane : ℕ) (new : Side) (memory : List ℕ) where
  pub reap-still : (l : Lane) → slice_get h.side.lanes lane ≡ Some l → IsReaped h.setup.geometry lane h.side new memory → AreHeld new holds
  reap-still l there read =
      (let own : World = own-world h.side memory in
      let on = own-side h.side memory in
      let same = read own l on (ap (λ (ls : List Lane). slice_get ls lane) on.lanes ∙ there) in
      let completion = completion_at h.setup.geometry own lane l.head in
      held-still h.side new holds are
      (λ a tag command among at.
      ap (λ (ls : List Lane). command_at (tag_in (slice_get ls a) tag)) (sym on.lanes)
      ∙ reaped-older h.setup.geometry own lane completion a tag command
      (ap (λ (w : World). command_at (tag_of w a tag)) (sym same) ∙ at))
      (λ its among.
      ap (λ (w : World). slice_get w.controllers its) same ∙ reaped-seated h.setup.geometry own its lane completion
      ∙ ap (λ (cs : List Controller). slice_get cs its) on.controllers))

-- ---- what is not due

-- a command that is noted may not be completed
pub held-undue : (s : Scene) (holds : Holds) → AreHeld s.served.side holds → (lane tag : ℕ) → is_among (tags_at holds.tags lane) tag ≡ true
    → NotDue s (event.Post lane tag)
held-undue s holds are lane tag among w on is = by_lane (slice_get s.served.side.lanes lane) refl
  where
    side_of : IsSideOf s.served.side s.memory (placed s w)
    side_of = record { host = on.host; lanes = refl; controllers = on.controllers; tails = on.tails }

    undue : due s.served.setup.geometry (event.Post lane tag) (placed s w) ≡ false → ⊥
    undue gone = not-there s w (event.Post lane tag) tt on gone is.1

    by_command : (l : Lane) (t : Tag) (command : Command) → slice_get s.served.side.lanes lane ≡ Some l → slice_get l.tags tag ≡ Some t
        → command_at (Some t) ≡ Some command → is_from command.guest command.queue t ≡ true → ⊥
    by_command l t command there at has from =
        undue
        (full-held s.served.setup.geometry s.served.side s.memory (placed s w) side_of lane tag command.guest command.queue
        (are lane tag command among (ap (λ (o : Option Lane). command_at (tag_in o tag)) there ∙ ap command_at at ∙ has)).1 l there
        (from_in command.guest command.queue l) refl (where-among (is_from command.guest command.queue) l.tags tag t at from))

    own_queue : (command : Command) → (command.guest == command.guest && command.queue == command.queue) ≡ true
    own_queue command = both-true (command.guest == command.guest) (command.queue == command.queue) (eq-eqb command.guest command.guest refl) (eq-eqb command.queue command.queue refl)

    unended : (o : Option Tag) → tag_in (slice_get s.served.side.lanes lane) tag ≡ o → ((command : Command) (st : StatusField) (share : Option Share) → o ≡ Some (Ended command st share) → ⊥) → ⊥
    unended o at never = undue (post-unended s.served.setup.geometry (placed s w) lane tag o at never)

    by_tag : (l : Lane) → slice_get s.served.side.lanes lane ≡ Some l → (o : Option Tag) → slice_get l.tags tag ≡ o → ⊥
    by_tag l there None at = unended None (ap (λ (x : Option Lane). tag_in x tag) there ∙ at) (λ command st share e. cc)
    by_tag l there (Some Free) at = unended (Some Free) (ap (λ (x : Option Lane). tag_in x tag) there ∙ at) (λ command st share e. cc)
    by_tag l there (Some (Taken command reads)) at = by_command l (Taken command reads) command there at refl (own_queue command)
    by_tag l there (Some (Flying command share standing)) at = by_command l (Flying command share standing) command there at refl (own_queue command)
    by_tag l there (Some (Ended command st share)) at = by_command l (Ended command st share) command there at refl (own_queue command)

    by_lane : (o : Option Lane) → slice_get s.served.side.lanes lane ≡ o → ⊥
    by_lane None there = unended None (ap (λ (x : Option Lane). tag_in x tag) there) (λ command st share e. cc)
    by_lane (Some l) there = by_tag l there (slice_get l.tags tag) refl

-- ---- one more note

either-true : (a b : Bool) → (a || b) ≡ true → (a ≡ true) ⊎ (b ≡ true)
either-true true b is = inl refl
either-true false b is = inr is

and-true : (a b : Bool) → (a && b) ≡ true → (a ≡ true) × (b ≡ true)
and-true true b is = (refl, is)
and-true false b is = cc

command-there : (o : Option Lane) (tag : ℕ) (command : Command) → command_at (tag_in o tag) ≡ Some command
    → (l : Lane) × (o ≡ Some l) × (command_at (slice_get l.tags tag) ≡ Some command)
command-there None tag command at = cc
command-there (Some l) tag command at = (l, refl, at)

command-held : (t : Option Tag) (holder : Holder) → holder_in t ≡ Some holder → (command : Command) × (command_at t ≡ Some command) × (command.guest ≡ holder.guest)
command-held t holder is = by (command_at t) refl is
  where
    by : (o : Option Command) → command_at t ≡ o → option_map held_by o ≡ Some holder → (command : Command) × (command_at t ≡ Some command) × (command.guest ≡ holder.guest)
    by None at e = cc
    by (Some command) at e = (command, at, ap (λ (x : Holder). x.guest) (some-same (held_by command) holder e))

-- those of one queue that is full, with the guest
pub held-more : (side : Side) (holds more : Holds) → AreHeld side holds → (lane tag : ℕ) (tags : List ℕ) → AreHeldWith lane tag side tags
    → (holder : Holder) → holder_in (tag_in (slice_get side.lanes lane) tag) ≡ Some holder
    → ((g : ℕ) → is_among (tags_in more.guests) g ≡ (is_among (tags_in holds.guests) g || g == holder.guest))
    → ((l t : ℕ) → is_among (tags_at more.tags l) t ≡ (is_among (tags_at holds.tags l) t || (l == lane && is_among tags t)))
    → AreHeld side more
held-more side holds more are lane tag tags with holder his guests all = λ a k command among at.
    elim (either-true (is_among (tags_at holds.tags a) k) (a == lane && is_among tags k) (sym (all a k) ∙ among)) [
      | inl before ↦
          (let was = are a k command before at in
          (guests command.guest ∙ ap (λ (b : Bool). b || command.guest == holder.guest) was.0, was.1))
      | inr now ↦
          (let both = and-true (a == lane) (is_among tags k) now in
          let here : a ≡ lane = eqb-true a lane both.0 in
          let theirs = command-there (slice_get side.lanes a) k command at in
          let there : slice_get side.lanes lane ≡ Some theirs.0 = ap (slice_get side.lanes) (sym here) ∙ theirs.1 in
          let mine = command-held (tag_in (slice_get side.lanes lane) tag) holder his in
          let of = with theirs.0 k mine.0 command there both.1 (ap (λ (o : Option Lane). command_at (tag_in o tag)) (sym there) ∙ mine.1) theirs.2 in (
            guests command.guest
                ∙ ap (λ (b : Bool). is_among (tags_in holds.guests) command.guest || b) (eq-eqb command.guest holder.guest (of.0 ∙ mine.2))
                ∙ or-true (is_among (tags_in holds.guests) command.guest),
            of.1,
          ))
    ]

-- fewer of a lane's
pub held-fewer : (side : Side) (holds fewer : Holds) → AreHeld side holds → fewer.guests ≡ holds.guests
    → ((l t : ℕ) → is_among (tags_at fewer.tags l) t ≡ true → is_among (tags_at holds.tags l) t ≡ true) → AreHeld side fewer
held-fewer side holds fewer are guests some = λ a k command among at.
    (let was = are a k command (some a k among) at in
    (ap (λ (n : ℕ). is_among (tags_in n) command.guest) guests ∙ was.0, was.1))

-- ---- lanes that are passed by

-- what is not busy: no command waits for its plan, no part has ended but those that are noted, and no completion waits
no-parts : (taken ended : List ℕ) (waits : Bool) → (nat_lt 0 (length taken) || (nat_lt 0 (length ended) || waits)) ≡ false
    → (waits ≡ false) × (ended ≡ []) × (taken ≡ [])
no-parts [] ended waits none = (let rest = no-part ended waits none in (rest.0, rest.1, refl))
no-parts (tag ∷ tags) ended waits none =
    absurd (true-false (nat_lt 0 (length (tag ∷ tags)) || (nat_lt 0 (length ended) || waits))
    (ap (λ (b : Bool). b || (nat_lt 0 (length ended) || waits)) (lt-ltb 0 (length (tag ∷ tags)) (omega arith))) none)

-- no command of a lane may be completed but for those that have ended, and of these none that is noted
pub none-posts : (s : Scene) (holds : Holds) → AreHeld s.served.side holds → (lane : ℕ) (left : List ℕ)
    → left ≡ others (tags_at holds.tags lane) (ended_in (slice_get s.served.side.lanes lane)) → (tag : ℕ) → is_among left tag ≡ false
    → NotDue s (event.Post lane tag)
none-posts s holds are lane left is tag out =
    (search-drop (scope.Lane lane) 0 0 ended (tags_at holds.tags lane) left (λ (x : Scene) (k : ℕ). NotDue x (event.Post lane k)) s s
    (search-none (scope.Lane lane) 0 ended (λ (x : Scene) (k : ℕ). NotDue x (event.Post lane k)) s (λ k other. not-ended s lane k other))
    is (λ k among. held-undue s holds are lane k among)).rests refl tag out
  where
    ended : List ℕ
    ended = ended_in (slice_get s.served.side.lanes lane)

-- a lane that the front passes by
pub passed-rests : (h o : Served) → h ≡ o → (holds : Holds) → AreHeld h.side holds → (memory : List ℕ) (lane : ℕ)
    → is_busy h.setup.geometry lane (slice_get h.side.lanes lane) (tags_at holds.tags lane) memory ≡ false → LaneRests (scene o memory) lane
passed-rests h o view holds are memory lane idle =
    subst (λ (x : Served). LaneRests (scene x memory) lane) view
    (let none = no-parts _ _ _ idle in
    let s = scene h memory in (
      lane-rests s lane (λ w on is. true-false (waits_in h.setup.geometry lane (slice_get h.side.lanes lane) memory) is none.0)
          (λ tag. none-posts s holds are lane [] (sym none.1) tag refl),
      λ tag. not-taken s lane tag (ap (λ (xs : List ℕ). is_among xs tag) none.2),
    ))

-- ---- calls

pub forgotten-same : (side : Side) (holds : Holds) (guest : ℕ) → AreHeld side holds → AreHeld side (forgotten holds guest)
forgotten-same side holds guest are = by (is_among (tags_in holds.guests) guest)
  where
    by : (b : Bool) → AreHeld side (cond b no_holds holds)
    by true = held-none side
    by false = are

-- the guest is not noted then
forgotten-out : (holds : Holds) (guest : ℕ) → is_among (tags_in (forgotten holds guest).guests) guest ≡ false
forgotten-out holds guest = by (is_among (tags_in holds.guests) guest) refl
  where
    by : (b : Bool) → is_among (tags_in holds.guests) guest ≡ b → is_among (tags_in (cond b no_holds holds).guests) guest ≡ false
    by true among = ap (λ (xs : List ℕ). is_among xs guest) (sym (tags_in-zero 0 refl))
    by false out = out

-- an event was made, or nothing has changed
pub either-still : {T E : Type 0} (P : T → Type 0) (old new : Side) (now : Holds) (Failed : Type 0) (result : Result T E) → IfOk result P
    → ((t : T) → P t → AreHeld new now) → OnErr result Failed → (Failed → new ≡ old) → AreHeld old now → AreHeld new now
either-still P old new now Failed (Ok t) made then failed same are = then t made
either-still P old new now Failed (Err x) made then failed same are = held-same old new now (same failed) are

pub option-still : {T : Type 0} (P : T → Type 0) (old new : Side) (now : Holds) (result : Option T) → IfSome result P
    → ((t : T) → P t → AreHeld new now) → (result ≡ None → new ≡ old) → AreHeld old now → AreHeld new now
option-still P old new now (Some t) made then same are = then t made
option-still P old new now None made then same are = held-same old new now (same refl) are

-- nobody's controller is touched where nobody has the tag, and its holder's where somebody has
post-touches : (o : Option Tag) → holder_in o ≡ None → option_map guest_by (command_at o) ≡ None
post-touches o none = by (command_at o) none
  where
    by : (c : Option Command) → option_map held_by c ≡ None → option_map guest_by c ≡ None
    by None e = refl
    by (Some c) e = cc

post-touches_his : (o : Option Tag) (holder : Holder) → holder_in o ≡ Some holder → option_map guest_by (command_at o) ≡ Some holder.guest
post-touches_his o holder his = by (command_at o) his
  where
    by : (c : Option Command) → option_map held_by c ≡ Some holder → option_map guest_by c ≡ Some holder.guest
    by None e = cc
    by (Some c) e = ap (option_map (λ (x : Holder). x.guest)) e

module _ (h : Served) (is : IsServed h) (holds : Holds) (are : AreHeld h.side holds) (new : Side) (before after : List ℕ) (r : Reply) where
  pub guest-forgets : (guest : ℕ) (act : Act) → IsSideStep h.setup.geometry (event.Guest guest act) h.side before r new after → AreHeld new (forgotten holds guest)
  guest-forgets guest act made =
      event-forgets h is holds are (event.Guest guest act) tt new before after r (in-beside h.setup.geometry (event.Guest guest act) tt h.side new before after r made)
      (λ e. e) guest refl

  pub admin-forgets : (guest : ℕ) → IsSideStep h.setup.geometry (event.Admin guest) h.side before r new after → AreHeld new (forgotten holds guest)
  admin-forgets guest made =
      event-forgets h is holds are (event.Admin guest) tt new before after r (in-beside h.setup.geometry (event.Admin guest) tt h.side new before after r made)
      (λ e. e) guest refl

  pub list-still : (lane tag addr len : ℕ) → IsSideStep h.setup.geometry (event.List lane tag addr len) h.side before r new after → AreHeld new holds
  list-still lane tag addr len made =
      (let e : Event = event.List lane tag addr len in
      event-still h is holds are e tt new before after r (in-beside h.setup.geometry e tt h.side new before after r made) (λ bad. bad) (λ guest among named. cc))

  pub gives-still : (lane tag : ℕ) → IsSideStep h.setup.geometry (event.GiveUp lane tag) h.side before r new after → AreHeld new holds
  gives-still lane tag made =
      (let e : Event = event.GiveUp lane tag in
      event-still h is holds are e tt new before after r (in-beside h.setup.geometry e tt h.side new before after r made) (λ bad. bad) (λ guest among named. cc))

  pub submit-still : (lane tag : ℕ) → IsStepInEach h.setup.geometry (event.Submit lane tag) h.side before r new after → AreHeld new holds
  submit-still lane tag made =
      event-still h is holds are (event.Submit lane tag) tt new before after r made (λ bad. bad) (λ guest among named. cc)

  module _ (lane tag : ℕ) (made : IsSideStep h.setup.geometry (event.Post lane tag) h.side before r new after) where
    abbrev beside : IsStepInEach h.setup.geometry (event.Post lane tag) h.side before r new after
    beside = in-beside h.setup.geometry (event.Post lane tag) tt h.side new before after r made

    at-own : (tag_of (own-world h.side before) lane tag) ≡ tag_in (slice_get h.side.lanes lane) tag
    at-own = ap (λ (ls : List Lane). tag_in (slice_get ls lane) tag) (own-side h.side before).lanes

    pub post-still : holder_in (tag_in (slice_get h.side.lanes lane) tag) ≡ None → AreHeld new holds
    post-still nobody =
        event-still h is holds are (event.Post lane tag) tt new before after r beside (λ bad. bad)
        (λ guest among named.
        none-some guest (sym (ap (λ (t : Option Tag). option_map guest_by (command_at t)) at-own ∙ post-touches _ nobody) ∙ named))

    pub post-forgets : (holder : Holder) → holder_in (tag_in (slice_get h.side.lanes lane) tag) ≡ Some holder → AreHeld new (forgotten holds holder.guest)
    post-forgets holder his =
        event-forgets h is holds are (event.Post lane tag) tt new before after r beside (λ bad. bad) holder.guest
        (ap (λ (t : Option Tag). option_map guest_by (command_at t)) at-own ∙ post-touches_his _ holder his)

  module _ (guest queue lane : ℕ) (made : IsSideStep h.setup.geometry (event.Take guest queue lane) h.side before r new after) (kept : Holds) (ended : List ℕ)
      (are_ended : ended ≡ ended_in (slice_get new.lanes lane)) where
    abbrev IsLess : Holds → Type 0
    IsLess more = (l t : ℕ) → is_among (tags_at kept.tags l) t ≡ (is_among (tags_at more.tags l) t && (not (l == lane) || is_among ended t))

    of-lane : (b x : Bool) → b ≡ true → (not b || x) ≡ true → x ≡ true
    of-lane true x e is = is
    of-lane false x e is = cc

    take-forgets : kept.guests ≡ (forgotten holds guest).guests → IsLess (forgotten holds guest) → AreHeld new kept
    take-forgets guests some =
        take-still h holds are guest queue lane new before after r made kept
        (held-fewer h.side (forgotten holds guest) kept (forgotten-same h.side holds guest are) guests
        (λ l t among. (and-true _ _ (sym (some l t) ∙ among)).0))
        (λ tag among.
        ap (λ (xs : List ℕ). is_among xs tag) (sym are_ended)
        ∙ of-lane (lane == lane) (is_among ended tag) (eq-eqb lane lane refl) (and-true _ _ (sym (some lane tag) ∙ among)).1)
        (ap (λ (n : ℕ). is_among (tags_in n) guest) guests ∙ forgotten-out holds guest)

    pub take-noted : (is_telling r ≡ false → new ≡ h.side) → kept.guests ≡ (noted holds r guest).guests → IsLess (noted holds r guest) → AreHeld new kept
    take-noted dull = by (is_telling r) refl
      where
        by : (b : Bool) → is_telling r ≡ b → kept.guests ≡ (cond b (forgotten holds guest) holds).guests → IsLess (cond b (forgotten holds guest) holds) → AreHeld new kept
        by true tells guests some = take-forgets guests some
        by false quiet guests some =
            held-same h.side new kept (dull quiet)
            (held-fewer h.side holds kept are guests (λ l t among. (and-true _ _ (sym (some l t) ∙ among)).0))

-- by what was answered
pub reply-noted : (old new : Side) (holds : Holds) (r : Reply) (guest : ℕ) → (is_telling r ≡ false → new ≡ old) → AreHeld old holds
    → AreHeld new (forgotten holds guest) → AreHeld new (noted holds r guest)
reply-noted old new holds r guest dull are fell = by (is_telling r) refl
  where
    by : (b : Bool) → is_telling r ≡ b → AreHeld new (cond b (forgotten holds guest) holds)
    by true tells = fell
    by false quiet = held-same old new holds (dull quiet) are

-- ---- masks

slice_get-past : {X : Type 0} (xs : List X) (i : ℕ) → length xs ≤ i → slice_get xs i ≡ None
slice_get-past [] i past = refl
slice_get-past (x ∷ xs) zero past = absurd (omega (arith, past))
slice_get-past (x ∷ xs) (suc i) past = slice_get-past xs i (omega (arith, past))

and-one : (b : Bool) → b && true ≡ b
and-one true = refl
and-one false = refl

-- where nothing is noted of a lane, nothing is dropped
pub past-none : (masks : List ℕ) (lane : ℕ) (tags : List ℕ) → length masks ≤ lane → (l t : ℕ)
    → is_among (tags_at masks l) t ≡ (is_among (tags_at masks l) t && (not (l == lane) || is_among tags t))
past-none masks lane tags past l t = (elim (cases_eq l lane) [
  | inl same ↦
      (let none : is_among (tags_at masks l) t ≡ false =
      ap (λ (n : ℕ). is_among (tags_at masks n) t) same
      ∙ ap (λ (o : Option ℕ). is_among (tags_in (unwrap_or o 0)) t) (slice_get-past masks lane past)
      ∙ ap (λ (xs : List ℕ). is_among xs t) (sym (tags_in-zero 0 refl)) in
      none ∙ sym (ap (λ (b : Bool). b && (not (l == lane) || is_among tags t)) none))
  | inr other ↦
      sym (ap (λ (b : Bool). is_among (tags_at masks l) t && (not b || is_among tags t)) (ne_eqb l lane other) ∙ and-one (is_among (tags_at masks l) t))
])

read-or : (xs : List ℕ) (i : ℕ) → slice_index_or xs i 0 ≡ unwrap_or (slice_get xs i) 0
read-or [] i = refl
read-or (x ∷ xs) zero = refl
read-or (x ∷ xs) (suc i) = read-or xs i

-- a lane's mask has those alone that were among some
pub kept-of : (masks : List ℕ) (lane at mask : ℕ) (tags : List ℕ) → at ≡ lane → at < length masks
    → ((t : ℕ) → is_among (tags_in mask) t ≡ (is_among (tags_in (slice_index_or masks at 0)) t && is_among tags t)) → (l t : ℕ)
    → is_among (tags_at (set masks at mask) l) t ≡ (is_among (tags_at masks l) t && (not (l == lane) || is_among tags t))
kept-of masks lane at mask tags same below are l t = (elim (cases_eq l lane) [
  | inl here ↦
      (let there = slice_get-there masks at below in
      ap (λ (n : ℕ). is_among (tags_at (set masks at mask) n) t) (here ∙ sym same)
      ∙ ap (λ (o : Option ℕ). is_among (tags_in (unwrap_or o 0)) t) (slice_get-set masks at there.0 mask there.1)
      ∙ are t ∙ ap (λ (n : ℕ). is_among (tags_in n) t && is_among tags t) (read-or masks at)
      ∙ ap (λ (n : ℕ). is_among (tags_at masks n) t && is_among tags t) (same ∙ sym here)
      ∙ ap (λ (b : Bool). is_among (tags_at masks l) t && (not b || is_among tags t)) (sym (eq-eqb l lane here)))
  | inr other ↦
      ap (λ (o : Option ℕ). is_among (tags_in (unwrap_or o 0)) t) (slice_get-set-other masks at l mask (ne_eqb l at (λ e. other (e ∙ same))))
      ∙ sym (ap (λ (b : Bool). is_among (tags_at masks l) t && (not b || is_among tags t)) (ne_eqb l lane other) ∙ and-one (is_among (tags_at masks l) t))
])
