-- What a call may touch it may touch in a side that is the same but for the places of parts.
use Rattle.std.proofs.Common.{◌≡◌, ℕ, Bool, true, false, List, length, slice_get, take, All, Option, Some, None, refl, sym, ap, ◌∙◌, subst}
use Rattle.std.specs.Option.{option_map}
use Rattle.std.proofs.lemmas.List.Elements.{All-weaker}
use Rattle.nv_laws_sound.specs.LaidOut.{IsLaidOut}
use Rattle.nv_laws_sound.specs.Side.{IsKept, Side}
use Rattle.nv_laws_sound.specs.Unplaced.{unplaced_tag}
use Rattle.nv_machine.specs.Contained.{IsContained, IsOwn, IsOwnOrNext, LeavesOthers, MayDo, MayFetch, NextSlot, OfMemory, OfPages, Own, guest_for}
use Rattle.nv_machine.specs.Doing.{Called, tag_at}
use Rattle.nv_machine.specs.Effects.{Copy, Effect, Store}
use Rattle.nv_machine.specs.Machine.{call, fetch, fetch_then}
use Rattle.nv_machine.specs.Unplaced.{AreSameButPlaces}
use Rattle.nv_machine.proofs.PlaceCalls.{call-same, fetch-same, for-same, guest-same, guest-unplaced, then-same}
use Rattle.nv_machine.proofs.ContainedFlying.{flying-left}
use Rattle.nv_machine.proofs.ContainedRings.{rings-pass}
use Rattle.nv_machine.proofs.PlaceKept.{kept-same, lane-same}
use Rattle.nv_machine.proofs.PlacePuts.{AsBefore, NotTheirs, Stands, call-puts}
use Rattle.nv_machine.proofs.PlaceSides.{places-back, tag-same, tags-told}
use Rattle.nv_model.specs.Controller.{Controller}
use Rattle.nv_world_model.specs.Contained.{guest_of_one}
use Rattle.nv_world_model.specs.Geometry.{Geometry}
use Rattle.nv_world_model.specs.View.{is_tag_of, own_tag}
use Rattle.nv_world_model.specs.World.{Lane, Tag, is_that}
use Rattle.nv_world_model.specs.declared.event.Event.{Event}
use Rattle.nv_world_model.specs.declared.event.Event.TheVariants as event

-- ---- another guest's tag

module _ (other : ℕ) where
  -- what of it is a guest's is all of it, or nothing
  own-is : (t : Option Tag) (b : Bool) → is_tag_of other t ≡ b → is_tag_of other (own_tag other t) ≡ b
  own-is t true is = rw is is
  own-is t false is = rw is refl

  own-none : (t : Option Tag) → is_tag_of other t ≡ false → own_tag other t ≡ None
  own-none t is = rw is refl

  whose-same : (t u : Option Tag) → option_map unplaced_tag t ≡ option_map unplaced_tag u → is_tag_of other t ≡ is_tag_of other u
  whose-same t u same = tags-told (is_tag_of other) (λ x. ap (is_that other) (guest-unplaced x)) t u same

  -- it is left alone in the one where it is left alone in the other
  own-left : (t u was now : Option Tag) → option_map unplaced_tag t ≡ option_map unplaced_tag was → option_map unplaced_tag u ≡ option_map unplaced_tag now
      → own_tag other u ≡ own_tag other t → Stands other was now → own_tag other now ≡ own_tag other was
  own-left t u was now first second left (AsBefore same) = ap (own_tag other) same
  own-left t u was now first second left (NotTheirs none) =
      let not_now : is_tag_of other now ≡ false = sym (own-is now (is_tag_of other now) refl) ∙ ap (is_tag_of other) none in
      let not_was : is_tag_of other was ≡ false =
      sym (whose-same t was first) ∙ sym (own-is t (is_tag_of other t) refl) ∙ sym (ap (is_tag_of other) left) ∙ own-is u (is_tag_of other u) refl
      ∙ whose-same u now second ∙ not_now in
      none ∙ sym (own-none was not_was)

-- ---- host addresses

module _ (geometry : Geometry) (s z : Side) (same : AreSameButPlaces s z) where
  own-same : (number at : ℕ) → IsOwn geometry s number at → IsOwn geometry z number at
  own-same number at (OfMemory given found in_) = OfMemory given found in_
  own-same number at (OfPages lane tag t there whose low high) =
      by (tag_at z lane tag) refl (sym (guest-same s z same lane tag) ∙ ap guest_of_one there ∙ whose)
    where
      by : (o : Option Tag) → tag_at z lane tag ≡ o → guest_of_one o ≡ Some number → IsOwn geometry z number at
      by None is bad = cc
      by (Some u) is mine = OfPages lane tag u is mine low high

  module _ (c d : Side) (after : AreSameButPlaces c d) where
    next-same : (number at : ℕ) → IsOwnOrNext geometry s c number at → IsOwnOrNext geometry z d number at
    next-same number at (Own own) = Own (own-same number at own)
    next-same number at (NextSlot lane tail behind slot was now between low high) =
        NextSlot lane tail behind slot (ap (λ (ts : List ℕ). slice_get ts lane) (sym same.tails) ∙ was)
        (ap (λ (ts : List ℕ). slice_get ts lane) (sym after.tails) ∙ now) between low high

    do-same : (number : Option ℕ) (effect : Effect) → MayDo geometry s c number effect → MayDo geometry z d number effect
    do-same None effect may = absurd may
    do-same (Some number) (Store to bytes) may = λ i less. next-same number _ (may i less)
    do-same (Some number) (Copy from to) may = (own-same number from may.0, own-same number to may.1)

  may-same : (e : Event) (number : Option ℕ) (at : ℕ) → MayFetch geometry e s number at → MayFetch geometry e z number at
  may-same (event.Guest guest a) None at may = may
  may-same (event.Guest guest a) (Some number) at may = may
  may-same (event.Admin guest) None at may = may
  may-same (event.Admin guest) (Some number) at may = may
  may-same (event.Take guest queue lane) None at may = may
  may-same (event.Take guest queue lane) (Some number) at may = may
  may-same (event.List lane tag addr len) None at may = may
  may-same (event.List lane tag addr len) (Some number) at may = may
  may-same (event.Submit lane tag) None at may = may
  may-same (event.Submit lane tag) (Some number) at may = may
  may-same (event.GiveUp lane tag) None at may = may
  may-same (event.GiveUp lane tag) (Some number) at may = may
  may-same (event.DevTake lane) None at may = may
  may-same (event.DevTake lane) (Some number) at may = may
  may-same (event.DevMove lane slot unit) None at may = may
  may-same (event.DevMove lane slot unit) (Some number) at may = may
  may-same (event.DevPost lane slot) None at may = may
  may-same (event.DevPost lane slot) (Some number) at may = may
  may-same (event.DevFail lane slot st) None at may = may
  may-same (event.DevFail lane slot st) (Some number) at may = may
  may-same (event.Keep block) None at may = may
  may-same (event.Keep block) (Some number) at may = may
  may-same (event.Reap lane) number at may =
      let k = lane-same s z same lane may.0 may.1.0 in
      let head : may.0.head ≡ k.k.head = sym (ap (λ (l : Lane). l.head) k.same) in
      (k.k, (k.there, rw (sym head) may.1.1))
  may-same (event.Post lane tag) None at may = may
  may-same (event.Post lane tag) (Some number) at may = may

  -- ---- the whole

  module _ (e : Event) (fetched : List ℕ) where
    abbrev mine : Option ℕ
    mine = guest_for e fetched s

    abbrev theirs : Option ℕ
    theirs = guest_for e fetched z

    abbrev of_s : Called
    of_s = call geometry e fetched s

    abbrev of_z : Called
    of_z = call geometry e fetched z

    is-for : mine ≡ theirs
    is-for = for-same s z same e fetched

    -- what may be fetched
    all-may : (xs ys : List ℕ) → xs ≡ ys → All (MayFetch geometry e s mine) xs → All (MayFetch geometry e z theirs) ys
    all-may xs ys are may =
        subst (λ (g : Option ℕ). All (MayFetch geometry e z g) ys) is-for
        (subst (All (MayFetch geometry e z mine)) are
        (All-weaker (MayFetch geometry e s mine) (MayFetch geometry e z mine) (may-same e mine) xs may))

    pub all-do : All (MayDo geometry s of_s.now.side mine) of_s.now.effects → All (MayDo geometry z of_z.now.side theirs) of_z.now.effects
    all-do may =
        let both = call-same s z same geometry e fetched in
        subst (λ (g : Option ℕ). All (MayDo geometry z of_z.now.side g) of_z.now.effects) is-for
        (subst (All (MayDo geometry z of_z.now.side mine)) both.effects
        (All-weaker (MayDo geometry s of_s.now.side mine) (MayDo geometry z of_z.now.side mine) (do-same of_s.now.side of_z.now.side both.sides mine)
        of_s.now.effects may))

    pub all-left : LeavesOthers mine s of_s.now.side → LeavesOthers theirs z of_z.now.side
    all-left left =
        let both = call-same s z same geometry e fetched in
        record {
          controllers = (λ other apart.
              sym (ap (λ (cs : List Controller). slice_get cs other) both.sides.controllers) ∙ left.controllers other (λ is. apart (sym is-for ∙ is))
              ∙ ap (λ (cs : List Controller). slice_get cs other) same.controllers);
          tags = (λ other lane tag apart.
              own-left other (tag_at s lane tag) (tag_at of_s.now.side lane tag) (tag_at z lane tag) (tag_at of_z.now.side lane tag)
              (tag-same s z same lane tag) (tag-same of_s.now.side of_z.now.side both.sides lane tag)
              (left.tags other lane tag (λ is. apart (sym is-for ∙ is))) (call-puts geometry z e fetched other lane tag apart));
        }

    abbrev first_s : ℕ
    first_s = length (fetch geometry e s)

    abbrev first_z : ℕ
    first_z = length (fetch geometry e z)

    pub first-may : All (MayFetch geometry e s mine) (fetch geometry e s) → All (MayFetch geometry e z theirs) (fetch geometry e z)
    first-may may = all-may (fetch geometry e s) (fetch geometry e z) (fetch-same s z same geometry e) may

    pub then-may : All (MayFetch geometry e s mine) (fetch_then geometry e s (take first_s fetched))
        → All (MayFetch geometry e z theirs) (fetch_then geometry e z (take first_z fetched))
    then-may may =
        all-may (fetch_then geometry e s (take first_s fetched)) (fetch_then geometry e z (take first_z fetched))
        (then-same s z same geometry e (take first_s fetched)
        ∙ ap (λ (first : List ℕ). fetch_then geometry e z (take (length first) fetched)) (fetch-same s z same geometry e)) may

    -- and a call that is contained, where the mediator's side keeps what it keeps: what is in flight, and what a tail passes, is told with places
    pub contained-same : (host_bytes lanes : ℕ) → IsLaidOut host_bytes lanes geometry → IsKept geometry s → IsContained geometry e fetched s
        → IsContained geometry e fetched z
    contained-same host_bytes lanes laid kept is =
        let also : IsKept geometry z = kept-same geometry z s (places-back s z same) kept in
        record {
          first = first-may is.first;
          then = then-may is.then;
          effects = all-do is.effects;
          others = all-left is.others;
          rings = rings-pass host_bytes lanes geometry laid z also e fetched;
          flying = flying-left geometry z also e fetched;
        }
