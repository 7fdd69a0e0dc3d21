-- An event gives a guest no tags but a Take, which gives what one command of the guest may need.
use Rattle.std.proofs.Common.{◌≡◌, ℕ, ◌+◌, ◌≤◌, ◌&&◌, ◌==◌, ◌⊎◌, inl, inr, Bool, false, cond, List, [], length, slice_get}
use Rattle.std.proofs.Common.{Option, Some, None, arith, refl, sym, ap, ◌∙◌, eq-eqb}
use Rattle.std.specs.Bool.{⊤}
use Rattle.std.proofs.lemmas.Bool.{cases_eq, ne_eqb}
use Rattle.std.proofs.lemmas.List.{length-take-le}
use Rattle.nv_core.specs.Held.{held_in, is_of}
use Rattle.nv_core.specs.Tags.{command_at}
use Rattle.nv_host.proofs.EventWalks.{IsTake, reaped-walk, step-walk}
use Rattle.nv_host.proofs.HeldLanes.{changed-more, held, tag-same, tags-apart, tags-more, tags-none}
use Rattle.nv_host.specs.Shares.{most_given, needed_of}
use Rattle.nv_laws_sound.proofs.CountedEvents.{AreWhole}
use Rattle.nv_laws_sound.proofs.Numbers.{numbers_where}
use Rattle.nv_laws_sound.proofs.Takes.{claimed-is}
use Rattle.nv_laws_sound.proofs.Walks.{either, guest-walk, lane-walk}
use Rattle.nv_laws_sound.specs.LaidOut.{IsLaidOut}
use Rattle.nv_laws_sound.specs.Mediators.{IsMediators}
use Rattle.nv_model.specs.Controller.{front, took}
use Rattle.nv_world_model.proofs.Seats.{owner_of-is, owner_of-number}
use Rattle.nv_world_model.proofs.TagCounts.{tags_of_entry-some}
use Rattle.nv_world_model.specs.Geometry.{Geometry}
use Rattle.nv_world_model.specs.Seat.{Owner, owner_of}
use Rattle.nv_world_model.specs.Share.{tags_of_entry}
use Rattle.nv_world_model.specs.Step.{completion_read, entry_at, is_io_queue, reaped, step, take_front, take_from, take_tags, taken_to}
use Rattle.nv_world_model.specs.World.{Command, Ended, Flying, Free, Lane, Tag, Taken, World, claimed, is_free, lowest, tag_of}
use Rattle.nv_world_model.specs.World.{with_controller, with_lane, with_tag, with_tags}
use Rattle.nv_world_model.specs.declared.event.Event.{Event}
use Rattle.nv_world_model.specs.declared.event.Event.TheVariants as event

-- ---- no guest has more tags

abbrev pub IsFewer : World → World → Type 0
IsFewer w z = (guest a : ℕ) → held z guest a ≤ held w guest a

pub as-many : (w z : World) → z.lanes ≡ w.lanes → IsFewer w z
as-many w z same = λ guest a.
    (let e = ap (λ (ls : List Lane). held_in guest (slice_get ls a)) same in
    omega (arith, e))

none-more : (w : World) → IsFewer w w
none-more w = as-many w w refl

-- a tag becomes another of the same guest's
guests-same : (guest : ℕ) (t now : Tag) → command_at (Some now) ≡ command_at (Some t) → is_of guest now ≡ is_of guest t
guests-same guest t now same = of-command guest now ∙ ap (commands guest) same ∙ sym (of-command guest t)
  where
    commands : (guest : ℕ) → Option Command → Bool
    commands guest None = false
    commands guest (Some command) = command.guest == guest

    of-command : (guest : ℕ) (t : Tag) → is_of guest t ≡ commands guest (command_at (Some t))
    of-command guest Free = refl
    of-command guest (Taken command reads) = refl
    of-command guest (Flying command share at) = refl
    of-command guest (Ended command st share) = refl

retag-fewer : (w z : World) (lane tag : ℕ) (t now : Tag) → tag_of z lane tag ≡ Some t → command_at (Some now) ≡ command_at (Some t) → IsFewer w z
    → IsFewer w (with_tag lane tag now z)
retag-fewer w z lane tag t now there same is = λ guest a.
    (let now_held = tag-same z lane tag guest a t now there (guests-same guest t now same) in
    let was = is guest a in
    omega (arith, now_held, was))

free-fewer : (w z : World) (lane : ℕ) (tags : List ℕ) → IsFewer w z → IsFewer w (with_tags lane tags Free z)
free-fewer w z lane tags is = λ guest a.
    (let none = tags-none lane tags z guest a Free refl in
    let was = is guest a in
    omega (arith, none, was))

read-fewer : (w : World) (lane : ℕ) → IsFewer w (with_lane lane completion_read w)
read-fewer w lane = λ guest a.
    (let more = changed-more (slice_get w.lanes lane) w.lanes lane guest a 0 completion_read refl (λ l at. omega arith) in
    omega (arith, more))

still-fewer : (w v z : World) → z.lanes ≡ v.lanes → z.controllers ≡ v.controllers → IsFewer w v → IsFewer w z
still-fewer w v z same seats is = λ guest a.
    (let e = ap (λ (ls : List Lane). held_in guest (slice_get ls a)) same in
    let was = is guest a in
    omega (arith, e, was))

abbrev any-guest : ℕ → Type 0
any-guest guest = ⊤

module _ (geometry : Geometry) where
  pub reaped-fewer : (w : World) (lane : ℕ) (completion : List ℕ) → IsFewer w (reaped lane completion w)
  reaped-fewer =
      reaped-walk IsFewer any-guest none-more still-fewer (λ w v number c may is. is) retag-fewer free-fewer read-fewer geometry

  -- ---- takes

  -- the tags that an event gives at most
  abbrev pub IsGiven : Event → World → World → Type 0
  IsGiven e w z = (guest a : ℕ) → held z guest a ≤ held w guest a + most_given geometry.guests e guest a

  pub fewer-given : (e : Event) (w z : World) → IsFewer w z → IsGiven e w z
  fewer-given e w z is = λ guest a. (let fewer = is guest a in omega (arith, fewer))

  given-same : (o : Owner) (number queue lane guest a : ℕ) → slice_get geometry.guests o.number ≡ Some o.given → o.number ≡ number → guest ≡ number → a ≡ lane
      → most_given geometry.guests (event.Take number queue lane) guest a ≡ length o.given.namespace
  given-same o number queue lane guest a at same of there =
      ap (λ (b : Bool). cond (b && a == lane) (needed_of (slice_get geometry.guests guest)) 0) (eq-eqb guest number of)
      ∙ ap (λ (b : Bool). cond b (needed_of (slice_get geometry.guests guest)) 0) (eq-eqb a lane there)
      ∙ ap (λ (n : ℕ). needed_of (slice_get geometry.guests n)) (of ∙ sym same) ∙ ap needed_of at

  taken-given : (w : World) (o : Owner) (number addr queue lane : ℕ) (tags : List ℕ) → slice_get geometry.guests o.number ≡ Some o.given → o.number ≡ number
      → length tags ≤ length o.given.namespace → IsGiven (event.Take number queue lane) w (taken_to addr queue lane tags o w)
  unfolding taken_to
  taken-given w o number addr queue lane tags at same few = λ guest a. by guest a (cases_eq guest number) (cases_eq a lane)
    where
      now : Tag
      now = Taken (record { guest = o.number; queue = queue; entry = entry_at addr o w; leader = lowest tags }) []

      z : World
      z = with_controller o.number (took o.controller queue) w

      by : (guest a : ℕ) → (guest ≡ number) ⊎ (guest ≡ number → ⊥) → (a ≡ lane) ⊎ (a ≡ lane → ⊥)
          → held (taken_to addr queue lane tags o w) guest a ≤ held w guest a + most_given geometry.guests (event.Take number queue lane) guest a
      by guest a (inl of) (inl there) =
          (let more = tags-more lane tags z guest a now in
          let most = given-same o number queue lane guest a at same of there in
          omega (arith, more, most, few))
      by guest a (inr others) there =
          (let none = tags-none lane tags z guest a now (ne_eqb o.number guest (λ e. others (sym e ∙ same))) in
          omega (arith, none))
      by guest a (inl of) (inr apart) =
          (let still = tags-apart lane tags z guest a now (ne_eqb a lane apart) in
          omega (arith, still))

  claimed-given : (found : Option (List ℕ)) (w : World) (o : Owner) (number addr queue lane : ℕ) (l : Lane)
      → claimed (tags_of_entry o.given.namespace (entry_at addr o w)) l.tags ≡ found → slice_get geometry.guests o.number ≡ Some o.given → o.number ≡ number
      → tags_of_entry o.given.namespace (entry_at addr o w) ≤ length o.given.namespace
      → IsGiven (event.Take number queue lane) w (take_tags found addr queue lane o w).world
  claimed-given None w o number addr queue lane l e at same few = fewer-given (event.Take number queue lane) w w (none-more w)
  claimed-given (Some tags) w o number addr queue lane l e at same few =
      (let count = tags_of_entry o.given.namespace (entry_at addr o w) in
      let c = claimed-is count l.tags tags e in
      let many = ap length c.is ∙ length-take-le count (numbers_where is_free l.tags) c.many in
      taken-given w o number addr queue lane tags at same (omega (arith, many, few)))

  front-given : (found : Option ℕ) (w : World) (o : Owner) (number queue lane : ℕ) (l : Lane) → slice_get geometry.guests o.number ≡ Some o.given
      → o.number ≡ number → ((addr : ℕ) → tags_of_entry o.given.namespace (entry_at addr o w) ≤ length o.given.namespace)
      → IsGiven (event.Take number queue lane) w (take_front found queue lane l o w).world
  front-given None w o number queue lane l at same few = fewer-given (event.Take number queue lane) w w (none-more w)
  front-given (Some addr) w o number queue lane l at same few =
      claimed-given (claimed (tags_of_entry o.given.namespace (entry_at addr o w)) l.tags) w o number addr queue lane l refl at same (few addr)

  -- ---- the step

  module _ (host_bytes : ℕ) (w : World) (laid : IsLaidOut host_bytes (length w.lanes) geometry) (whole : AreWhole geometry w) where
    other-given : (e : Event) → IsMediators e → (IsTake e → ⊥) → IsGiven e w (step geometry e w).world
    other-given e mine other =
        fewer-given e w (step geometry e w).world
        (step-walk IsFewer any-guest none-more still-fewer (λ w v number c may is. is) retag-fewer free-fewer read-fewer geometry w whole e mine other
        (λ number named. tt))

    take-given : (number queue lane : ℕ) → IsGiven (event.Take number queue lane) w (step geometry (event.Take number queue lane) w).world
    unfolding step
    take-given number queue lane =
        (let e : Event = event.Take number queue lane in
        let none : IsGiven e w w = fewer-given e w w (none-more w) in
        guest-walk (IsGiven e w) w none (owner_of geometry w number) _ (λ o found.
        lane-walk (IsGiven e w) w none (slice_get w.lanes lane) (λ l. take_from queue lane l o w) (λ l at.
        either (IsGiven e w) w none (is_io_queue queue) _ _
        (λ io.
        (let owns = owner_of-is geometry w number o found in
        let given = laid.given o.number o.given owns.given in
        front-given (front o.controller queue) w o number queue lane l owns.given (sym (owner_of-number geometry w number o found))
        (λ addr. (tags_of_entry-some o.given.namespace (entry_at addr o w) given.some).1)))
        (λ out. none))))

    pub step-given : (e : Event) → IsMediators e → IsGiven e w (step geometry e w).world
    step-given (event.Take number queue lane) mine = take-given number queue lane
    step-given (event.Guest number a) mine = other-given (event.Guest number a) mine (λ e. e)
    step-given (event.Admin number) mine = other-given (event.Admin number) mine (λ e. e)
    step-given (event.List lane tag addr len) mine = other-given (event.List lane tag addr len) mine (λ e. e)
    step-given (event.Submit lane tag) mine = other-given (event.Submit lane tag) mine (λ e. e)
    step-given (event.GiveUp lane tag) mine = other-given (event.GiveUp lane tag) mine (λ e. e)
    step-given (event.DevTake lane) mine = absurd mine
    step-given (event.DevMove lane slot number) mine = absurd mine
    step-given (event.DevPost lane slot) mine = absurd mine
    step-given (event.DevFail lane slot st) mine = absurd mine
    step-given (event.Keep block) mine = absurd mine
    step-given (event.Reap lane) mine = other-given (event.Reap lane) mine (λ e. e)
    step-given (event.Post lane tag) mine = other-given (event.Post lane tag) mine (λ e. e)
