-- The tails of the submission rings.
use Rattle.std.proofs.Common.{◌≡◌, ℕ, zero, suc, List, [], ◌∷◌, length, set, slice_get, Some, None, refl, ap, ◌∙◌}
use Rattle.nv_laws_sound.specs.Side.{rung_with, tails_of}
use Rattle.nv_laws_sound.proofs.Lists.{some-same}
use Rattle.nv_world_model.specs.Device.{DeviceLane}

pub length-tails : (ds : List DeviceLane) → length (tails_of ds) ≡ length ds
length-tails [] = refl
length-tails (d ∷ ds) = ap suc (length-tails ds)

pub tail-of : (ds : List DeviceLane) (lane : ℕ) (d : DeviceLane) → slice_get ds lane ≡ Some d → slice_get (tails_of ds) lane ≡ Some d.tail
tail-of [] lane d there = cc
tail-of (e ∷ ds) zero d there = ap (λ (x : DeviceLane). Some x.tail) (some-same e d there)
tail-of (e ∷ ds) (suc lane) d there = tail-of ds lane d there

-- a tail is that of a lane of the physical controller
pub of-tail : (ds : List DeviceLane) (lane tail : ℕ) → slice_get (tails_of ds) lane ≡ Some tail → (d : DeviceLane) × ((slice_get ds lane ≡ Some d) × (d.tail ≡ tail))
of-tail [] lane tail there = cc
of-tail (e ∷ ds) zero tail there = (e, (refl, some-same e.tail tail there))
of-tail (e ∷ ds) (suc lane) tail there = of-tail ds lane tail there

-- tails that are rung again
pub rung-same : (ds : List DeviceLane) → rung_with (tails_of ds) ds ≡ ds
rung-same [] = refl
rung-same (d ∷ ds) = ap (λ (es : List DeviceLane). d ∷ es) (rung-same ds)

-- one that is rung with another
pub rung-one : (ds : List DeviceLane) (lane tail : ℕ) (d : DeviceLane) → slice_get ds lane ≡ Some d
    → rung_with (set (tails_of ds) lane tail) ds ≡ set ds lane (record d { tail = tail })
rung-one [] lane tail d there = cc
rung-one (e ∷ ds) zero tail d there =
    let same : e ≡ d = some-same e d there in
    ap (λ (x : DeviceLane). record x { tail = tail } ∷ rung_with (tails_of ds) ds) same ∙ ap (λ (es : List DeviceLane). record d { tail = tail } ∷ es) (rung-same ds)
rung-one (e ∷ ds) (suc lane) tail d there = ap (λ (es : List DeviceLane). e ∷ es) (rung-one ds lane tail d there)

pub set-nowhere : (ds : List DeviceLane) (lane tail : ℕ) → slice_get ds lane ≡ None → set (tails_of ds) lane tail ≡ tails_of ds
set-nowhere [] lane tail none = refl
set-nowhere (e ∷ ds) zero tail none = cc
set-nowhere (e ∷ ds) (suc lane) tail none = ap (λ (ts : List ℕ). e.tail ∷ ts) (set-nowhere ds lane tail none)
