-- A guest's seat behind what is done in it.
use Rattle.std.proofs.Common.{◌≡◌, ℕ, zero, suc, false, ◌==◌, List, [], ◌∷◌, set, slice_get, Option, Some, None, arith, refl, subst}
use Rattle.std.proofs.lemmas.Bool.Decides.{nat_tests}
use Rattle.nv_mem.specs.GuestMap.{IsSound}
use Rattle.nv_model.proofs.PutImages.{image-put_image, put_image-elsewhere}
use Rattle.nv_model.specs.Controller.{Controller}
use Rattle.nv_world_model.specs.Geometry.{Geometry, Guest, regions_of}
use Rattle.nv_world_model.specs.Laws.{IsSeatOf, OnlyInSeat}
use Rattle.nv_world_model.specs.Seat.{Owner, owner_by, owner_of, put_back, seat}
use Rattle.nv_world_model.specs.World.{World}

-- ---- lists

-- what was put at a place is there, where something was
pub slice_get-set : {X : Type 0} (xs : List X) (i : ℕ) (x y : X) → slice_get xs i ≡ Some x → slice_get (set xs i y) i ≡ Some y
slice_get-set [] i x y e = cc
slice_get-set (z ∷ xs) zero x y e = refl
slice_get-set (z ∷ xs) (suc i) x y e = slice_get-set xs i x y e

-- and the others are as they were
pub slice_get-set-other : {X : Type 0} (xs : List X) (i j : ℕ) (y : X) → (j == i) ≡ false → slice_get (set xs i y) j ≡ slice_get xs j
slice_get-set-other [] i j y e = refl
slice_get-set-other (z ∷ xs) zero zero y e = cc
slice_get-set-other (z ∷ xs) zero (suc j) y e = refl
slice_get-set-other (z ∷ xs) (suc i) zero y e = refl
slice_get-set-other (z ∷ xs) (suc i) (suc j) y e = slice_get-set-other xs i j y (grind (arith, nat_tests))

-- ---- owners

-- who owns is a guest of the world
pub record IsOwner (geometry : Geometry) (w : World) (o : Owner) : Type 0 where
  pub given : slice_get geometry.guests o.number ≡ Some o.given
  pub controller : slice_get w.controllers o.number ≡ Some o.controller

-- of two that are looked up
owner_by-is : (number : ℕ) (g : Option Guest) (c : Option Controller) (o : Owner) → owner_by number g c ≡ Some o → (number ≡ o.number) × ((g ≡ Some o.given) × (c ≡ Some o.controller))
owner_by-is number None c o e = cc
owner_by-is number (Some guest) None o e = cc
owner_by-is number (Some guest) (Some c) o e = (cc, (cc, cc))

pub owner_of-is : (geometry : Geometry) (w : World) (number : ℕ) (o : Owner) → owner_of geometry w number ≡ Some o → IsOwner geometry w o
owner_of-is geometry w number o e =
    (let found = owner_by-is number (slice_get geometry.guests number) (slice_get w.controllers number) o e in
    record {
      given = subst (λ n. slice_get geometry.guests n ≡ Some o.given) found.0 found.1.0;
      controller = subst (λ n. slice_get w.controllers n ≡ Some o.controller) found.0 found.1.1;
    })

-- and the guest of that number
pub owner_of-number : (geometry : Geometry) (w : World) (number : ℕ) (o : Owner) → owner_of geometry w number ≡ Some o → number ≡ o.number
owner_of-number geometry w number o e = (owner_by-is number (slice_get geometry.guests number) (slice_get w.controllers number) o e).0

-- ---- seats

-- the seat as it stands
pub seat-stands : (geometry : Geometry) (w : World) (o : Owner) → IsOwner geometry w o → IsSeatOf o.number o.given w (seat geometry o w)
unfolding seat
seat-stands geometry w o is =
    record { controller = is.controller; memory = (λ addr there. refl); blocks = (λ lba offset. refl); marks = (λ lba. refl) }

-- the seat with a memory and a controller that are put back
pub seat-put_back : (geometry : Geometry) (w : World) (o : Owner) (memory : ℕ → ℕ) (c : Controller) → IsOwner geometry w o → IsSound o.given.memory_map
    → IsSeatOf o.number o.given (put_back o memory c w) (record (seat geometry o w) { memory = memory; controller = c })
unfolding seat put_back
seat-put_back geometry w o memory c is sound =
    record {
      controller = slice_get-set w.controllers o.number o.controller c is.controller;
      memory = (λ addr there. image-put_image (regions_of o.given) memory w.host addr sound.apart there);
      blocks = (λ lba offset. refl);
      marks = (λ lba. refl);
    }

-- nothing is changed elsewhere
pub only-put_back : (w : World) (o : Owner) (memory : ℕ → ℕ) (c : Controller) → OnlyInSeat o w (put_back o memory c w)
unfolding put_back
only-put_back w o memory c =
    record {
      bytes = (λ at outside. put_image-elsewhere (regions_of o.given) memory w.host at outside);
      controllers = (λ other apart. slice_get-set-other w.controllers o.number other c apart);
      rest = refl;
    }

pub only-nothing : (w : World) (o : Owner) → OnlyInSeat o w w
only-nothing w o = record { bytes = (λ at outside. refl); controllers = (λ other apart. refl); rest = refl }
