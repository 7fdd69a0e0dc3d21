-- Each access of a fine trace keeps a world in which the physical controller has what the drive has.
use Rattle.std.proofs.Common.{◌≡◌, ℕ, zero, suc, Bool, List, [], ◌∷◌, ◌++◌, length, map, replicate, slice_get, All, Option, Some, None}
use Rattle.std.proofs.Common.{arith, refl, sym, ap, ◌∙◌, subst}
use Rattle.std.proofs.lemmas.List.{length-replicate}
use Rattle.std.proofs.lemmas.List.Elements.{All-cons, All-head, All-nil, All-tail}
use Rattle.std.proofs.lemmas.Option.{option_and_then_some}
use Rattle.std.specs.Option.{option_map}
use Rattle.nv_fine.proofs.Answering.{answers}
use Rattle.nv_fine.proofs.Entries.{sees-entry}
use Rattle.nv_fine.proofs.Fetching.{fetching-holds, reaping}
use Rattle.nv_fine.proofs.Mirrors.{AreRead, HasRead, Holds, IsLaneMirrored, behind, behind_of, begun_of, left_of, undone, whole}
use Rattle.nv_fine.proofs.Placed.{IsFixed, IsPlaced, fixed-high, fixed-low, no-image}
use Rattle.nv_fine.proofs.Posting.{completes}
use Rattle.nv_fine.proofs.Reaches.{stored-one}
use Rattle.nv_fine.proofs.Returning.{returned-holds}
use Rattle.nv_fine.proofs.Takings.{takes}
use Rattle.nv_fine.proofs.Traces.{accessed-good}
use Rattle.nv_fine.proofs.Within.{IsCalled, IsGood, IsUnderWay}
use Rattle.nv_fine.proofs.Works.{does, knows, memory-holds, sees, writes}
use Rattle.nv_fine.specs.Drive.{Answers, Completes, Does, DriveAccess, DriveLane, Keeps, Knows, Outside, Sees, SeesEntry, Takes, Writes, driven}
use Rattle.nv_fine.specs.Fine.{Access, Begins, Call, Drives, Fine, GoesOn, Loads, Stores, accessed, begins, fetching, goes_on, guest_byte, next_fetch, traced, went_on, with_memory}
use Rattle.nv_fine.specs.Owned.{IsFresh, fresh_lane}
use Rattle.nv_fine.specs.Turns.{start_of}
use Rattle.nv_laws_sound.proofs.Lists.{slice_get-replicate, some-same}
use Rattle.nv_laws_sound.proofs.Openings.{opening-consistent}
use Rattle.nv_laws_sound.proofs.phases.Steps.{opening-phased}
use Rattle.nv_laws_sound.specs.LaidOut.{IsLaidOut}
use Rattle.nv_laws_sound.specs.Side.{Side, tails_of}
use Rattle.nv_machine.proofs.ContainedCalls.{opening-reached}
use Rattle.nv_machine.specs.Contained.{IsFetched}
use Rattle.nv_machine.specs.Effects.{Copy, Effect, Store, effects_on}
use Rattle.nv_machine.specs.Machine.{call}
use Rattle.nv_mem.specs.GuestMap.{host_of}
use Rattle.nv_model.specs.Memory.{stored}
use Rattle.nv_world_model.specs.Area.{tag_count}
use Rattle.nv_world_model.specs.Device.{opening_device_lane}
use Rattle.nv_world_model.specs.Geometry.{Geometry, Guest, regions_of}
use Rattle.nv_world_model.specs.SetUp.{SetUp}
use Rattle.nv_world_model.specs.World.{World, opening_lane, opening_world}
use Rattle.nv_world_model.specs.declared.event.Event.{Event}

-- ---- the start

tails-opening : (lanes : ℕ) → tails_of (replicate lanes opening_device_lane) ≡ replicate lanes 0
tails-opening zero = refl
tails-opening (suc lanes) = ap (λ (ts : List ℕ). 0 ∷ ts) (tails-opening lanes)

abbrev pub first_world : SetUp → Outside → World
first_world s o = opening_world o.memory o.disk s.geometry s.lanes

pub start-holds : (s : SetUp) (o : Outside) → IsFresh s o → Holds s.lanes s.geometry (start_of s o) (first_world s o)
unfolding opening_world effects_on
start-holds s o fresh =
    record {
      live = record {
        consistent = opening-consistent o.memory o.disk s.geometry s.lanes;
        phased = opening-phased s o.memory o.disk fresh.clear;
        on_pages = (opening-reached s.geometry s.lanes).on_pages;
      };
      many = length-replicate s.lanes opening_lane;
      sides = record { lanes = refl; tails = tails-opening s.lanes; controllers = refl };
      drives = ap (λ (ds : List DriveLane). length ds) fresh.lanes ∙ length-replicate s.lanes fresh_lane ∙ sym (length-replicate s.lanes opening_device_lane);
      mirrored = λ lane d v at there.
          subst (IsLaneMirrored s.geometry (first_world s o) lane d) (slice_get-replicate s.lanes lane opening_device_lane v there)
          (subst (λ (e : DriveLane). IsLaneMirrored s.geometry (first_world s o) lane e opening_device_lane)
          (slice_get-replicate s.lanes lane fresh_lane d (ap (λ (ds : List DriveLane). slice_get ds lane) (sym fresh.lanes) ∙ at)) (one lane));
      memory = λ at fixed. refl;
      placed = All-nil (IsPlaced s.geometry s.lanes (start_of s o).side (start_of s o).side);
      read = tt;
    }
  where
    one : (lane : ℕ) → IsLaneMirrored s.geometry (first_world s o) lane fresh_lane opening_device_lane
    one lane =
        record {
          head = refl;
          posted = refl;
          phase = refl;
          seen = λ at byte none. (let bad : None ≡ Some byte = none in cc);
          working = λ id k there. (let bad : None ≡ Some k = slice_get-replicate tag_count id None (Some k) there in cc);
        }

-- ---- an access

-- what holds of all that an option may be made into holds of what it is made into
mapped-some : {A : Type 0} (P : Fine → Type 0) (make : A → Fine) (o : Option A) (g : Fine) → option_map make o ≡ Some g → ((a : A) → o ≡ Some a → P (make a)) → P g
mapped-some P make None g is all = cc
mapped-some P make (Some a) g is all = subst P (some-same (make a) g is) (all a refl)

begins-has : (geometry : Geometry) (P : Fine → Type 0) (e : Event) (o : Option Call) (f g : Fine) → begins geometry e o f ≡ Some g
    → (o ≡ None → P (fetching geometry e [] f)) → P g
begins-has geometry P e None f g is has = subst P (some-same (fetching geometry e [] f) g is) (has refl)
begins-has geometry P e (Some c) f g is has = cc

goes-has : (geometry : Geometry) (P : Fine → Type 0) (o : Option Call) (f g : Fine) → goes_on geometry o f ≡ Some g
    → ((c : Call) → o ≡ Some c → P (went_on geometry c c.left f)) → P g
goes-has geometry P None f g is has = cc
goes-has geometry P (Some c) f g is has = subst P (some-same (went_on geometry c c.left f) g is) (has c refl)

module _ (host_bytes lanes : ℕ) (geometry : Geometry) (laid : IsLaidOut host_bytes lanes geometry) where
  abbrev Next : Fine → Type 0
  Next g = (z : World) × Holds lanes geometry g z

  module _ (f : Fine) (w : World) (good : IsGood lanes geometry f) (holds : Holds lanes geometry f w) where
    stores-next : (number addr byte at : ℕ) → guest_byte geometry number addr ≡ Some at → Next (with_memory (stored f.outside.memory at (byte ∷ [])) f)
    stores-next number addr byte at there =
        option_and_then_some (λ (given : Guest). host_of (regions_of given) addr) (slice_get geometry.guests number) at there (λ given found is. (
          w,
          memory-holds lanes geometry f w (stored f.outside.memory at (byte ∷ [])) holds (λ a fixed.
              stored-one f.outside.memory at byte a (λ same.
              no-image host_bytes lanes geometry laid number given found a (fixed-low geometry.mediator lanes a fixed) (fixed-high geometry.mediator lanes a fixed)
              (addr, is ∙ ap (λ (n : ℕ). Some n) same))),
        ))

    -- no effects are under way
    plain-none : f.call ≡ None → (at : ℕ) → IsFixed geometry.mediator lanes at → f.outside.memory at ≡ w.host at
    unfolding effects_on
    plain-none none at fixed =
        subst (λ (o : Option Call). effects_on (undone o) f.outside.memory at ≡ effects_on (whole geometry f.side o) w.host at) none (holds.memory at fixed)

    module _ (c : Call) (under : f.call ≡ Some c) where
      memory-is : (left : Option (List Effect)) → c.left ≡ left → (at : ℕ) → IsFixed geometry.mediator lanes at
          → effects_on (left_of left) f.outside.memory at ≡ effects_on (begun_of left (call geometry c.event c.fetched f.side).now.effects) w.host at
      memory-is left so at fixed =
          subst (λ (x : Option (List Effect)). effects_on (left_of x) f.outside.memory at
          ≡ effects_on (begun_of x (call geometry c.event c.fetched f.side).now.effects) w.host at) so
          (subst (λ (o : Option Call). effects_on (undone o) f.outside.memory at ≡ effects_on (whole geometry f.side o) w.host at) under (holds.memory at fixed))

      placed-is : (left : Option (List Effect)) → c.left ≡ left
          → All (IsPlaced geometry lanes f.side (behind_of left f.side (call geometry c.event c.fetched f.side).now.side)) (left_of left)
      placed-is left so =
          subst (λ (x : Option (List Effect)). All (IsPlaced geometry lanes f.side (behind_of x f.side (call geometry c.event c.fetched f.side).now.side)) (left_of x)) so
          (subst (λ (o : Option Call). All (IsPlaced geometry lanes f.side (behind geometry f.side o)) (undone o)) under holds.placed)

      read-is : AreRead geometry f.side f.outside.lanes w.host (Some c)
      read-is = subst (AreRead geometry f.side f.outside.lanes w.host) under holds.read

      plain-fetching : c.left ≡ None → (at : ℕ) → IsFixed geometry.mediator lanes at → f.outside.memory at ≡ w.host at
      unfolding effects_on
      plain-fetching none at fixed = memory-is None none at fixed

      size-is : (left : List Effect) → c.left ≡ Some left → IsFetched geometry c.event f.side c.fetched
      size-is left so =
          (subst (IsUnderWay geometry f.side c) so (subst (IsCalled geometry f.side) under good.called)).0

      went-next : (left : Option (List Effect)) → c.left ≡ left → Next (went_on geometry c left f)
      unfolding effects_on
      went-next None so = (
        w,
        fetching-holds host_bytes lanes geometry laid f w good holds (plain-fetching so) c.event _ (λ lane l d is found there.
            subst (λ (e : Event). HasRead geometry w.host lane l.head l.phase d.posted (c.fetched ++ map f.outside.memory (next_fetch geometry f.side e c.fetched)))
            (sym is) (reaping host_bytes lanes geometry laid f w good holds (plain-fetching so) lane l d c.fetched found there (read-is lane l d is found there))),
      )
      went-next (Some []) so = (_, returned-holds host_bytes lanes geometry laid f w good holds c under (size-is [] so) so)
      went-next (Some (Copy from to ∷ left)) so =
          let after : Side = (call geometry c.event c.fetched f.side).now.side in
          let before = placed-is (Some (Copy from to ∷ left)) so in (
            w,
            record {
              live = holds.live;
              many = holds.many;
              sides = holds.sides;
              drives = holds.drives;
              mirrored = holds.mirrored;
              memory = memory-is (Some (Copy from to ∷ left)) so;
              placed =
                  All-cons (IsPlaced geometry lanes f.side after) (Store to (f.outside.memory from ∷ [])) left
                  (λ at fixed writes. absurd (All-head (IsPlaced geometry lanes f.side after) (Copy from to) left before at fixed writes).0)
                  (All-tail (IsPlaced geometry lanes f.side after) (Copy from to) left before);
              read = read-is;
            },
          )
      went-next (Some (Store to bytes ∷ left)) so =
          let after : Side = (call geometry c.event c.fetched f.side).now.side in (
            w,
            record {
              live = holds.live;
              many = holds.many;
              sides = holds.sides;
              drives = holds.drives;
              mirrored = holds.mirrored;
              memory = memory-is (Some (Store to bytes ∷ left)) so;
              placed = All-tail (IsPlaced geometry lanes f.side after) (Store to bytes) left (placed-is (Some (Store to bytes ∷ left)) so);
              read = read-is;
            },
          )

    begins-next : (e : Event) → f.call ≡ None → Next (fetching geometry e [] f)
    begins-next e none =
        (w, fetching-holds host_bytes lanes geometry laid f w good holds (plain-none none) e [] (λ lane l d same found there some. absurd (omega (arith, some))))

    drives-next : (zeroes : Bool) (a : DriveAccess) (p : Outside) → driven geometry zeroes f.side.tails a f.outside ≡ Some p → Next (record f { outside = p })
    unfolding driven
    drives-next zeroes (SeesEntry lane slot i) p is = sees-entry host_bytes lanes geometry laid f w good holds zeroes p lane slot i is
    drives-next zeroes (Takes lane) p is = takes host_bytes lanes geometry laid f w good holds zeroes p lane is
    drives-next zeroes (Sees lane id at) p is = sees host_bytes lanes geometry laid f w good holds zeroes p lane id at is
    drives-next zeroes (Knows lane id) p is = knows host_bytes lanes geometry laid f w good holds zeroes p lane id is
    drives-next zeroes (Does lane id number leaves) p is = does host_bytes lanes geometry laid f w good holds zeroes p lane id number leaves is
    drives-next zeroes (Writes lane id at) p is = writes host_bytes lanes geometry laid f w good holds zeroes p lane id at is
    drives-next zeroes (Answers lane i byte) p is = answers host_bytes lanes geometry laid f w good holds zeroes p lane i byte is
    drives-next zeroes (Completes lane id fails byte) p is = completes host_bytes lanes geometry laid f w good holds zeroes p lane id fails byte is
    drives-next zeroes (Keeps block) p is =
        subst (λ (q : Outside). Next (record f { outside = q })) (some-same _ p is) (
          w,
          record {
            live = holds.live;
            many = holds.many;
            sides = holds.sides;
            drives = holds.drives;
            mirrored = holds.mirrored;
            memory = holds.memory;
            placed = holds.placed;
            read = holds.read;
          },
        )

    accessed-next : (zeroes : Bool) (a : Access) (g : Fine) → accessed geometry zeroes a f ≡ Some g → Next g
    unfolding accessed
    accessed-next zeroes (Loads number addr) g is = mapped-some Next (λ at. f) (guest_byte geometry number addr) g is (λ at there. (w, holds))
    accessed-next zeroes (Stores number addr byte) g is =
        mapped-some Next (λ at. with_memory (stored f.outside.memory at (byte ∷ [])) f) (guest_byte geometry number addr) g is (λ at there.
        stores-next number addr byte at there)
    accessed-next zeroes (Begins e) g is = begins-has geometry Next e f.call f g is (λ none. begins-next e none)
    accessed-next zeroes GoesOn g is = goes-has geometry Next f.call f g is (λ c under. went-next c under c.left refl)
    accessed-next zeroes (Drives a) g is =
        mapped-some Next (λ (o : Outside). record f { outside = o }) (driven geometry zeroes f.side.tails a f.outside) g is (λ p there. drives-next zeroes a p there)

  -- ---- a trace

  pub traced-holds : (zeroes : Bool) (accesses : List Access) (f g : Fine) (w : World) → IsGood lanes geometry f → Holds lanes geometry f w
      → traced geometry zeroes accesses f ≡ Some g → IsGood lanes geometry g × ((z : World) × Holds lanes geometry g z)
  unfolding traced
  traced-holds zeroes [] f g w good holds is =
      subst (λ (h : Fine). IsGood lanes geometry h × ((z : World) × Holds lanes geometry h z)) (some-same f g is) (good, (w, holds))
  traced-holds zeroes (a ∷ accesses) f g w good holds is =
      option_and_then_some (traced geometry zeroes accesses) (accessed geometry zeroes a f) g is (λ h first then.
      (let next = accessed-next f w good holds zeroes a h first in
      traced-holds zeroes accesses h g next.0 (accessed-good host_bytes lanes geometry laid zeroes a f h good first) next.1 then))
