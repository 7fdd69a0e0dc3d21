-- What the copies come to.
use Rattle.std.proofs.Common.{◌≡◌, ℕ, false, ◌+◌, ◌-◌, inl, inr, List, [], ◌∷◌, length, slice_index, arith, refl, sym, ap, ◌∙◌}
use Rattle.std.proofs.lemmas.Bool.{cases_lt}
use Rattle.std.specs.List.{AllPairs}
use mathlib.Core.Path.{fun_ext}
use Rattle.nv_mem.specs.GuestMap.{IsApart, span_met}
use Rattle.nv_mem.specs.Places.{Place, At, Bucket}
use Rattle.nv_mem.specs.declared.region.Region.{Region}
use Rattle.nv_model.specs.Memory.{bytes_from, gathered, image, put_image, scattered, stored}
use Rattle.nv_model.proofs.MemoryLemmas.{bytes_from-stored, length-gathered, stored-inside, stored-outside}
use Rattle.nv_model.proofs.PutImages.{image-stored_clear, put_image-own}
use Rattle.nv_bounce.specs.Bounce.{gathered_to, scattered_from}

-- a gathered slot is read back
pub bytes_from-gathered_to : (rs : List Region) (places : List Place) (slot : ℕ) (m : ℕ → ℕ)
    → bytes_from (gathered_to rs places slot m) slot (length places) ≡ gathered (image rs m) places
bytes_from-gathered_to rs places slot m =
    ap (λ (n : ℕ). bytes_from (gathered_to rs places slot m) slot n) (sym (length-gathered (image rs m) places))
    ∙ bytes_from-stored m slot (gathered (image rs m) places)

-- the guest's memory behind a gather
pub image-gathered_to : (rs : List Region) (places : List Place) (slot : ℕ) (m : ℕ → ℕ) → span_met rs slot (length places) ≡ false
    → image rs (gathered_to rs places slot m) ≡ image rs m
image-gathered_to rs places slot m clear =
    image-stored_clear rs m slot (gathered (image rs m) places) (ap (span_met rs slot) (length-gathered (image rs m) places) ∙ clear)

-- a byte that is stored where it was changes nothing
stored-own_at : (g : ℕ → ℕ) (addr at : ℕ) → stored g addr (g addr ∷ []) at ≡ g at
stored-own_at g addr at =
    elim (cases_lt at addr) [
      | inl low ↦ stored-outside g addr (g addr ∷ []) at (inl low)
      | inr from ↦ elim (cases_lt at (addr + 1)) [
        | inl within ↦
            let here : at ≡ addr = omega arith in
            let offset : at - addr ≡ 0 = omega arith in
            stored-inside g addr (g addr ∷ []) at from within
            ∙ ap (λ (k : ℕ). slice_index (g addr ∷ []) k) offset
            ∙ ap g (sym here)
        | inr high ↦ stored-outside g addr (g addr ∷ []) at (inr high)
      ]
    ]

-- nor do bytes that are scattered to where they were gathered
scattered-gathered : (g : ℕ → ℕ) (places : List Place) → scattered g places (gathered g places) ≡ g
unfolding scattered gathered
scattered-gathered g [] = refl
scattered-gathered g (At addr ∷ places) =
    ap (λ (f : ℕ → ℕ). scattered f places (gathered g places)) (fun_ext (stored-own_at g addr)) ∙ scattered-gathered g places
scattered-gathered g (Bucket ∷ places) = scattered-gathered g places

-- what was gathered is scattered back
pub scattered_from-gathered_to : (rs : List Region) (places : List Place) (slot : ℕ) (m : ℕ → ℕ) → AllPairs IsApart rs → span_met rs slot (length places) ≡ false
    → scattered_from rs places slot (gathered_to rs places slot m) ≡ gathered_to rs places slot m
scattered_from-gathered_to rs places slot m apart clear =
    let new : ℕ → ℕ = gathered_to rs places slot m in
    let same : image rs new ≡ image rs m = image-gathered_to rs places slot m clear in
    ap (λ (bytes : List ℕ). put_image rs (scattered (image rs new) places bytes) new)
    (bytes_from-gathered_to rs places slot m ∙ ap (λ (g : ℕ → ℕ). gathered g places) (sym same))
    ∙ ap (λ (g : ℕ → ℕ). put_image rs g new) (scattered-gathered (image rs new) places)
    ∙ put_image-own rs new apart
