-- What an event leaves of tags' commands, and of the controllers of guests that it doesn't touch.
use Rattle.std.proofs.Common.{◌≡◌, ℕ, zero, suc, ◌==◌, ◌⊎◌, inl, inr, true, false, List, [], ◌∷◌, set, slice_get, Option, Some, None, refl, sym, ap, subst, ◌∙◌}
use Rattle.std.specs.Bool.{⊤}
use Rattle.std.proofs.lemmas.Bool.{cases_eq, ne_eqb}
use Rattle.nv_core.proofs.FullQueues.{among-test}
use Rattle.nv_core.specs.Tags.{command_at, ended_in, is_ended}
use Rattle.nv_host.proofs.EventWalks.{IsTake, reaped-walk, step-walk, touched}
use Rattle.nv_laws_sound.proofs.CountedEvents.{AreWhole}
use Rattle.nv_laws_sound.proofs.Walks.{either, guest-walk, lane-walk}
use Rattle.nv_laws_sound.specs.Mediators.{IsMediators}
use Rattle.nv_model.specs.Controller.{Controller, front, took}
use Rattle.nv_tags.proofs.Rows.{is_among}
use Rattle.nv_world_model.proofs.Seats.{owner_of-number, slice_get-set, slice_get-set-other}
use Rattle.nv_world_model.specs.Geometry.{Geometry}
use Rattle.nv_world_model.specs.Seat.{Owner, owner_of}
use Rattle.nv_world_model.specs.Share.{tags_of_entry}
use Rattle.nv_world_model.specs.Step.{completion_read, entry_at, is_io_queue, reaped, step, take_front, take_from, take_tags, taken_to}
use Rattle.nv_world_model.specs.World.{Command, Free, Lane, Tag, Taken, World, changed_at, claimed, lowest, tag_changed, tag_in, tag_of}
use Rattle.nv_world_model.specs.World.{with_controller, with_lane, with_tag, with_tags}
use Rattle.nv_world_model.specs.declared.event.Event.{Event}
use Rattle.nv_world_model.specs.declared.event.Event.TheVariants as event

-- ---- one tag becomes another

set-none : {X : Type 0} (xs : List X) (i : ℕ) (y : X) → slice_get xs i ≡ None → slice_get (set xs i y) i ≡ None
set-none [] i y e = refl
set-none (x ∷ xs) zero y e = cc
set-none (x ∷ xs) (suc i) y e = set-none xs i y e

-- a tag is as it was, or is what one became
abbrev pub IsOr : (lane : ℕ) → Tag → (a : ℕ) → (was is : Option Tag) → Type 0
IsOr lane now a was is = (is ≡ was) ⊎ ((a ≡ lane) × (is ≡ Some now))

abbrev pub IsOrAt : (lane tag : ℕ) → Tag → (a k : ℕ) → (was is : Option Tag) → Type 0
IsOrAt lane tag now a k was is = (is ≡ was) ⊎ ((a ≡ lane) × (k ≡ tag) × (is ≡ Some now))

changed-tag : (o : Option Lane) (lanes : List Lane) (lane tag : ℕ) (now : Tag) (a k : ℕ) → slice_get lanes lane ≡ o
    → IsOrAt lane tag now a k (tag_in (slice_get lanes a) k) (tag_in (slice_get (changed_at o lane (tag_changed tag now) lanes) a) k)
changed-tag None lanes lane tag now a k at = inl refl
changed-tag (Some l) lanes lane tag now a k at = by_lane (cases_eq a lane)
  where
    next : List Lane
    next = set lanes lane (tag_changed tag now l)

    here : (j : ℕ) → tag_in (slice_get next lane) j ≡ slice_get (set l.tags tag now) j
    here j = ap (λ (o : Option Lane). tag_in o j) (slice_get-set lanes lane l (tag_changed tag now l) at)

    before : (j : ℕ) → slice_get l.tags j ≡ tag_in (slice_get lanes lane) j
    before j = sym (ap (λ (o : Option Lane). tag_in o j) at)

    by_found : (u : Option Tag) → slice_get l.tags tag ≡ u → k ≡ tag → IsOrAt lane tag now lane k (tag_in (slice_get lanes lane) k) (tag_in (slice_get next lane) k)
    by_found None found same =
        inl (here k ∙ ap (slice_get (set l.tags tag now)) same ∙ set-none l.tags tag now found ∙ sym found ∙ ap (slice_get l.tags) (sym same) ∙ before k)
    by_found (Some u) found same = inr (refl, same, here k ∙ ap (slice_get (set l.tags tag now)) same ∙ slice_get-set l.tags tag u now found)

    by_tag : (k ≡ tag) ⊎ (k ≡ tag → ⊥) → IsOrAt lane tag now lane k (tag_in (slice_get lanes lane) k) (tag_in (slice_get next lane) k)
    by_tag (inl same) = by_found (slice_get l.tags tag) refl same
    by_tag (inr other) = inl (here k ∙ slice_get-set-other l.tags tag k now (ne_eqb k tag other) ∙ before k)

    by_lane : (a ≡ lane) ⊎ (a ≡ lane → ⊥) → IsOrAt lane tag now a k (tag_in (slice_get lanes a) k) (tag_in (slice_get next a) k)
    by_lane (inl same) =
        subst (λ (n : ℕ). IsOrAt lane tag now n k (tag_in (slice_get lanes n) k) (tag_in (slice_get next n) k)) (sym same) (by_tag (cases_eq k tag))
    by_lane (inr other) =
        inl (ap (λ (o : Option Lane). tag_in o k) (slice_get-set-other lanes lane a (tag_changed tag now l) (ne_eqb a lane other)))

with_tag-or : (lane tag : ℕ) (now : Tag) (w : World) (a k : ℕ) → IsOrAt lane tag now a k (tag_of w a k) (tag_of (with_tag lane tag now w) a k)
with_tag-or lane tag now w a k = changed-tag (slice_get w.lanes lane) w.lanes lane tag now a k refl

with_tags-or : (lane : ℕ) (tags : List ℕ) (now : Tag) (w : World) (a k : ℕ) → IsOr lane now a (tag_of w a k) (tag_of (with_tags lane tags now w) a k)
unfolding with_tags
with_tags-or lane [] now w a k = inl refl
with_tags-or lane (tag ∷ tags) now w a k = by (with_tags-or lane tags now z a k) (with_tag-or lane tag now w a k)
  where
    z : World
    z = with_tag lane tag now w

    by : IsOr lane now a (tag_of z a k) (tag_of (with_tags lane tags now z) a k) → IsOrAt lane tag now a k (tag_of w a k) (tag_of z a k)
        → IsOr lane now a (tag_of w a k) (tag_of (with_tags lane tags now z) a k)
    by (inr is) first = inr is
    by (inl same) (inl was) = inl (same ∙ was)
    by (inl same) (inr is) = inr (is.0, same ∙ is.2)

-- ---- no tag has another command

-- a tag that has a command had it before
abbrev pub IsOlder : World → World → Type 0
IsOlder w z = (a k : ℕ) (command : Command) → command_at (tag_of z a k) ≡ Some command → command_at (tag_of w a k) ≡ Some command

same-older : (w : World) → IsOlder w w
same-older w = λ a k command is. is

still-older : (w v z : World) → z.lanes ≡ v.lanes → z.controllers ≡ v.controllers → IsOlder w v → IsOlder w z
still-older w v z same seats is = λ a k command at.
    is a k command (ap (λ (ls : List Lane). command_at (tag_in (slice_get ls a) k)) (sym same) ∙ at)

retag-older : (w z : World) (lane tag : ℕ) (t now : Tag) → tag_of z lane tag ≡ Some t → command_at (Some now) ≡ command_at (Some t) → IsOlder w z
    → IsOlder w (with_tag lane tag now z)
retag-older w z lane tag t now there same is = λ a k command at. by a k command at (with_tag-or lane tag now z a k)
  where
    by : (a k : ℕ) (command : Command) → command_at (tag_of (with_tag lane tag now z) a k) ≡ Some command
        → IsOrAt lane tag now a k (tag_of z a k) (tag_of (with_tag lane tag now z) a k) → command_at (tag_of w a k) ≡ Some command
    by a k command at (inl was) = is a k command (ap command_at (sym was) ∙ at)
    by a k command at (inr new) =
        is a k command
        (ap (λ (n : ℕ). command_at (tag_of z n k)) new.0 ∙ ap (λ (n : ℕ). command_at (tag_of z lane n)) new.1
        ∙ ap command_at there ∙ sym same ∙ sym (ap command_at new.2) ∙ at)

freed-older : (w z : World) (lane : ℕ) (tags : List ℕ) → IsOlder w z → IsOlder w (with_tags lane tags Free z)
freed-older w z lane tags is = λ a k command at. by a k command at (with_tags-or lane tags Free z a k)
  where
    by : (a k : ℕ) (command : Command) → command_at (tag_of (with_tags lane tags Free z) a k) ≡ Some command
        → IsOr lane Free a (tag_of z a k) (tag_of (with_tags lane tags Free z) a k) → command_at (tag_of w a k) ≡ Some command
    by a k command at (inl was) = is a k command (ap command_at (sym was) ∙ at)
    by a k command at (inr new) = absurd (none command (sym (ap command_at new.1) ∙ at))
      where
        none : (command : Command) → ◌≡◌ {A = Option Command} None (Some command) → ⊥
        none command e = cc

read-older : (w : World) (lane : ℕ) → IsOlder w (with_lane lane completion_read w)
read-older w lane = λ a k command at. sym (ap command_at (read-tags (slice_get w.lanes lane) w.lanes lane a k refl)) ∙ at
  where
    read-tags : (o : Option Lane) (lanes : List Lane) (lane a k : ℕ) → slice_get lanes lane ≡ o
        → tag_in (slice_get (changed_at o lane completion_read lanes) a) k ≡ tag_in (slice_get lanes a) k
    read-tags None lanes lane a k at = refl
    read-tags (Some l) lanes lane a k at = (elim (cases_eq a lane) [
      | inl same ↦
          ap (λ (n : ℕ). tag_in (slice_get (set lanes lane (completion_read l)) n) k) same
          ∙ ap (λ (o : Option Lane). tag_in o k) (slice_get-set lanes lane l (completion_read l) at ∙ ap (λ (x : Lane). Some (completion_read x)) refl)
          ∙ sym (ap (λ (o : Option Lane). tag_in o k) at) ∙ ap (λ (n : ℕ). tag_in (slice_get lanes n) k) (sym same)
      | inr other ↦ ap (λ (o : Option Lane). tag_in o k) (slice_get-set-other lanes lane a (completion_read l) (ne_eqb a lane other))
    ])

-- ---- a guest's controller is as it was

abbrev pub HasSeat : (guest : ℕ) → World → World → Type 0
HasSeat guest w z = slice_get z.controllers guest ≡ slice_get w.controllers guest

still-seated : (guest : ℕ) (w v z : World) → z.lanes ≡ v.lanes → z.controllers ≡ v.controllers → HasSeat guest w v → HasSeat guest w z
still-seated guest w v z same seats is = ap (λ (cs : List Controller). slice_get cs guest) seats ∙ is

seats-apart : (guest : ℕ) (w v : World) (number : ℕ) (c : Controller) → (guest == number) ≡ false → HasSeat guest w v → HasSeat guest w (with_controller number c v)
seats-apart guest w v number c apart is = slice_get-set-other v.controllers number guest c apart ∙ is

freed-seated : (guest : ℕ) (now : Tag) (w z : World) (lane : ℕ) (tags : List ℕ) → HasSeat guest w z → HasSeat guest w (with_tags lane tags now z)
unfolding with_tags
freed-seated guest now w z lane [] is = is
freed-seated guest now w z lane (tag ∷ tags) is = freed-seated guest now w (with_tag lane tag now z) lane tags is

abbrev any-guest : ℕ → Type 0
any-guest guest = ⊤

module _ (geometry : Geometry) (w : World) where
  pub reaped-older : (lane : ℕ) (completion : List ℕ) → IsOlder w (reaped lane completion w)
  reaped-older lane completion =
      reaped-walk IsOlder any-guest same-older still-older (λ w v number c may is. is) retag-older freed-older read-older geometry w lane completion

  pub reaped-seated : (guest lane : ℕ) (completion : List ℕ) → HasSeat guest w (reaped lane completion w)
  reaped-seated guest lane completion =
      reaped-walk (HasSeat guest) (λ number. (guest == number) ≡ false) (λ w. refl) (still-seated guest) (seats-apart guest)
      (λ w z lane tag t now there same is. is) (freed-seated guest Free) (λ w lane. refl) geometry w lane completion

  module _ (whole : AreWhole geometry w) (e : Event) (mine : IsMediators e) (other : IsTake e → ⊥) where
    pub step-older : IsOlder w (step geometry e w).world
    step-older =
        step-walk IsOlder any-guest same-older still-older (λ w v number c may is. is) retag-older freed-older read-older geometry w whole e mine other
        (λ number named. tt)

    pub step-seated : (guest : ℕ) → (touched e w ≡ Some guest → ⊥) → HasSeat guest w (step geometry e w).world
    step-seated guest apart =
        step-walk (HasSeat guest) (λ number. (guest == number) ≡ false) (λ w. refl) (still-seated guest) (seats-apart guest)
        (λ w z lane tag t now there same is. is) (freed-seated guest Free) (λ w lane. refl) geometry w whole e mine other
        (λ number named. ne_eqb guest number (λ same. apart (named ∙ ap (λ (n : ℕ). Some n) (sym same))))

  -- ---- a Take

  -- a tag of another lane, or whose part has ended, had its command before
  abbrev pub IsOlderBut : (lane : ℕ) → World → Type 0
  IsOlderBut lane z = (a k : ℕ) (command : Command) → (a ≡ lane → is_among (ended_in (slice_get z.lanes a)) k ≡ true)
      → command_at (tag_of z a k) ≡ Some command → command_at (tag_of w a k) ≡ Some command

  ended-among : (o : Option Lane) (k : ℕ) (t : Tag) → tag_in o k ≡ Some t → is_among (ended_in o) k ≡ true → is_ended t ≡ true
  ended-among None k t at among = cc
  ended-among (Some l) k t at among = among-test is_ended l.tags k t among at

  module _ (number queue lane : ℕ) where
    abbrev Kept : World → Type 0
    Kept z = IsOlderBut lane z × ((guest : ℕ) → (guest == number) ≡ false → HasSeat guest w z)

    none : Kept w
    none = (λ a k command ended at. at, λ guest apart. refl)

    taken-kept : (addr : ℕ) (tags : List ℕ) (o : Owner) → o.number ≡ number → Kept (taken_to addr queue lane tags o w)
    unfolding taken_to
    taken-kept addr tags o same = (
      λ a k command ended at. by a k command ended at (with_tags-or lane tags now z a k),
      λ guest apart.
          freed-seated guest now w z lane tags
          (seats-apart guest w w o.number (took o.controller queue) (ap (λ (n : ℕ). guest == n) same ∙ apart) refl),
    )
      where
        now : Tag
        now = Taken (record { guest = o.number; queue = queue; entry = entry_at addr o w; leader = lowest tags }) []

        z : World
        z = with_controller o.number (took o.controller queue) w

        by : (a k : ℕ) (command : Command) → (a ≡ lane → is_among (ended_in (slice_get (with_tags lane tags now z).lanes a)) k ≡ true)
            → command_at (tag_of (with_tags lane tags now z) a k) ≡ Some command → IsOr lane now a (tag_of z a k) (tag_of (with_tags lane tags now z) a k)
            → command_at (tag_of w a k) ≡ Some command
        by a k command ended at (inl was) = ap command_at (sym was) ∙ at
        by a k command ended at (inr new) =
            (let bad : is_ended now ≡ true = ended-among (slice_get (with_tags lane tags now z).lanes a) k now new.1 (ended new.0) in cc)

    tags-kept : (found : Option (List ℕ)) (addr : ℕ) (o : Owner) → o.number ≡ number → Kept (take_tags found addr queue lane o w).world
    tags-kept None addr o same = none
    tags-kept (Some tags) addr o same = taken-kept addr tags o same

    front-kept : (found : Option ℕ) (o : Owner) (l : Lane) → o.number ≡ number → Kept (take_front found queue lane l o w).world
    front-kept None o l same = none
    front-kept (Some addr) o l same = tags-kept (claimed (tags_of_entry o.given.namespace (entry_at addr o w)) l.tags) addr o same

    pub take-kept : Kept (step geometry (event.Take number queue lane) w).world
    unfolding step
    take-kept =
        guest-walk Kept w none (owner_of geometry w number) _ (λ o found.
        lane-walk Kept w none (slice_get w.lanes lane) (λ l. take_from queue lane l o w) (λ l at.
        either Kept w none (is_io_queue queue) _ _
        (λ io. front-kept (front o.controller queue) o l (sym (owner_of-number geometry w number o found)))
        (λ out. none)))
