-- The SGL descriptor in a command's data pointer
use Rattle.std.proofs.Common.{◌≡◌, ℕ, zero, suc, ◌*◌, ◌<◌, ◌≤◌, List, [], ◌∷◌, ◌++◌, length, slice_index, take, drop, refl, ap, ◌∙◌, arith, length-drop}
use Rattle.byteorder.specs.Endian.{little_bytes}
use Rattle.nv_entry.specs.Layout.{bytes_of_dwords}
use Rattle.nv_entry.specs.Submission.{sgl_of}

-- dropping i dwords drops their bytes
pub drop-bytes_of_dwords : (i : ℕ) (ds : List ℕ) → i ≤ length ds
    → drop (4 * i) (bytes_of_dwords ds) ≡ bytes_of_dwords (drop i ds)
unfolding bytes_of_dwords
drop-bytes_of_dwords zero ds h = refl
drop-bytes_of_dwords (suc i) [] h = absurd (omega arith)
drop-bytes_of_dwords (suc i) (d ∷ ds) h =
    let e : 4 * suc i ≡ suc (suc (suc (suc (4 * i)))) = omega arith in
    rw e (drop-bytes_of_dwords i ds (omega arith))

-- taking i dwords takes their bytes
pub take-bytes_of_dwords : (i : ℕ) (ds : List ℕ) → i ≤ length ds
    → take (4 * i) (bytes_of_dwords ds) ≡ bytes_of_dwords (take i ds)
unfolding bytes_of_dwords
take-bytes_of_dwords zero ds h = refl
take-bytes_of_dwords (suc i) [] h = absurd (omega arith)
take-bytes_of_dwords (suc i) (d ∷ ds) h =
    let e : 4 * suc i ≡ suc (suc (suc (suc (4 * i)))) = omega arith in
    let others = take-bytes_of_dwords i ds (omega arith) in
    rw e (ap (λ (xs : List ℕ). little_bytes 4 d ++ xs) others)

-- the element at i, and what is behind it
drop-at : (i : ℕ) (ds : List ℕ) → i < length ds → drop i ds ≡ slice_index ds i ∷ drop (suc i) ds
drop-at zero [] h = absurd (omega arith)
drop-at zero (d ∷ ds) h = refl
drop-at (suc i) [] h = absurd (omega arith)
drop-at (suc i) (d ∷ ds) h = drop-at i ds (omega arith)

-- dwords 6 to 9 of an entry are its SGL descriptor
pub sgl_back : (ds : List ℕ) → length ds ≡ 16
    → sgl_of (bytes_of_dwords ds) ≡ bytes_of_dwords (slice_index ds 6 ∷ slice_index ds 7 ∷ slice_index ds 8 ∷ slice_index ds 9 ∷ [])
sgl_back ds sized =
    let dropped = drop-bytes_of_dwords 6 ds (omega arith) in
    let four : take 4 (drop 6 ds) ≡ slice_index ds 6 ∷ slice_index ds 7 ∷ slice_index ds 8 ∷ slice_index ds 9 ∷ [] =
    rw (drop-at 6 ds (omega arith), drop-at 7 ds (omega arith), drop-at 8 ds (omega arith), drop-at 9 ds (omega arith)) refl in
    ap (take 16) dropped ∙ take-bytes_of_dwords 4 (drop 6 ds) (omega (arith, length-drop 6 ds))
    ∙ ap bytes_of_dwords four
