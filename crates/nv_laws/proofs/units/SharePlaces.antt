-- Where a share's bytes lie among those of its command's buffer.
use Rattle.std.proofs.Common.{◌≡◌, ℕ, zero, suc, ◌+◌, ◌*◌, ◌<◌, Bool, List, [], ◌∷◌, All, drop, length, slice_get, take}
use Rattle.std.proofs.Common.{Some, arith, sym, ap, ◌∙◌, subst}
use Rattle.std.proofs.lemmas.List.{drop-drop, length-drop, take-append-drop}
use Rattle.std.proofs.lemmas.List.Elements.{All-append, All-drop, All-nil, All-take}
use Rattle.nv_mem.specs.Places.{Place, places_of}
use Rattle.nv_model.specs.Judge.{Transfer, Work, form_of}
use Rattle.nv_model.specs.Limits.{block}
use Rattle.nv_model.specs.Private.{places_of_block}
use Rattle.nv_world_model.specs.Geometry.{Guest}
use Rattle.nv_world_model.specs.Share.{Share}
use Rattle.nv_world_model.specs.Seat.{work_of}
use Rattle.nv_laws_sound.specs.Consistent.{IsPlanned}
use Rattle.nv_laws.specs.Places.{NameNoneTwice}
use Rattle.nv_laws.proofs.units.Has.{once-part}
use Rattle.nv_laws.proofs.units.OwnShares.{cut-of, cut-own}

module _ (guest : Guest) (entry : List ℕ) (share : Share) (is : IsPlanned guest entry share) (own : Work) (goes : work_of share.plan ≡ Some own) where
  -- a block of it lies where the whole's of its number does
  pub share-blocks : (dest : Bool) → form_of is.work.opcode ≡ Transfer dest → (k n : ℕ) → slice_get share.numbers k ≡ Some n
      → places_of_block own k ≡ places_of_block is.work n
  share-blocks dest form k n at =
      ap (λ (w : Work). places_of_block w k) (sym (cut-own guest entry share is own goes)) ∙ (cut-of guest entry share is).blocks dest form k n at

  -- where the whole names no byte twice, it does not
  pub share-once : NameNoneTwice (places_of is.work.pieces) → NameNoneTwice (places_of own.pieces)
  share-once once =
      let cut = cut-of guest entry share is in
      subst (λ (w : Work). NameNoneTwice (places_of w.pieces)) (cut-own guest entry share is own goes)
      (subst NameNoneTwice (sym cut.pieces) (once-part cut.len (places_of is.work.pieces) cut.skip once))

  -- what holds of each of the whole's places holds of its own
  pub share-all : (P : Place → Type 0) → All P (places_of is.work.pieces) → All P (places_of own.pieces)
  share-all P each =
      let cut = cut-of guest entry share is in
      subst (λ (w : Work). All P (places_of w.pieces)) (cut-own guest entry share is own goes)
      (subst (All P) (sym cut.pieces) (All-take P cut.len (drop cut.skip (places_of is.work.pieces)) (All-drop P cut.skip (places_of is.work.pieces) each)))

-- what holds of the places of each block holds of all
pub blocks-all : (P : Place → Type 0) (n : ℕ) (places : List Place) → length places ≡ block * n
    → ((i : ℕ) → i < n → All P (take block (drop (block * i) places))) → All P places
blocks-all P zero [] count each = All-nil P
blocks-all P zero (place ∷ places) count each = absurd (omega (arith, count))
blocks-all P (suc n) places count each =
    let left : length (drop block places) ≡ block * n = length-drop block places ∙ omega (arith, count) in
    subst (All P) (take-append-drop block places)
    (All-append P (take block places) (drop block places) (each 0 (omega arith))
    (blocks-all P n (drop block places) left (λ i below.
    (let behind : block + block * i ≡ block * suc i = omega arith in
    subst (λ ps. All P (take block ps)) (sym (drop-drop (block * i) block places ∙ ap (λ k. drop k places) behind)) (each (suc i) (omega (arith, below)))))))
