-- The source of a unit is the same to the device as to the guest's private controller, where its pages have it, or no byte of it is hidden.
use Rattle.std.proofs.Common.{◌≡◌, ℕ, zero, suc, ◌+◌, ◌*◌, List, [], ◌∷◌, All, drop, length, slice_get, Some, arith, refl, sym, ap, ◌∙◌}
use Rattle.std.proofs.lemmas.List.Elements.{All-append, All-cons, All-head, All-nil, All-tail}
use Rattle.nv_mem.specs.Places.{At, Bucket, Place, addresses, places_of}
use Rattle.nv_mem.specs.declared.piece.Piece.{Piece}
use Rattle.nv_mem.specs.declared.piece.Piece.TheVariants as piece
use Rattle.nv_model.proofs.RunPieces.{IsRunPiece}
use Rattle.nv_model.specs.Judge.{Work}
use Rattle.nv_model.specs.Limits.{block}
use Rattle.nv_model.specs.Memory.{bytes_from, gathered}
use Rattle.nv_model.specs.Private.{places_of_block}
use Rattle.nv_laws.specs.Related.{IsOnPage}
use Rattle.nv_laws.proofs.related.Agreed.{all-at}
use Rattle.nv_laws.proofs.related.Slices.{slice-drop, slice-take}

-- a place is an address
abbrev pub IsAddress : Place → Type 0
IsAddress place = place ≡ Bucket → ⊥

addresses-all : (addr len : ℕ) → All IsAddress (addresses addr len)
unfolding addresses
addresses-all addr zero = All-nil IsAddress
addresses-all addr (suc len) = All-cons IsAddress (At addr) (addresses (addr + 1) len) (λ e. cc) (addresses-all (addr + 1) len)

pub runs-all : (pieces : List Piece) → All IsRunPiece pieces → All IsAddress (places_of pieces)
unfolding IsRunPiece
runs-all [] runs = All-nil IsAddress
runs-all (piece.Run addr len ∷ pieces) runs =
    All-append IsAddress (addresses addr len) (places_of pieces) (addresses-all addr len) (runs-all pieces (All-tail IsRunPiece (piece.Run addr len) pieces runs))
runs-all (piece.Bucket len ∷ pieces) runs = absurd (All-head IsRunPiece (piece.Bucket len) pieces runs)

-- bytes are the same where each is that has a place
pub gathered-same : (m n : ℕ → ℕ) (places : List Place) → ((i addr : ℕ) → slice_get places i ≡ Some (At addr) → m addr ≡ n addr) → gathered m places ≡ gathered n places
unfolding gathered
gathered-same m n [] same = refl
gathered-same m n (At addr ∷ places) same = rw (same 0 addr refl) (rw (gathered-same m n places (λ i x at. same (suc i) x at)) refl)
gathered-same m n (Bucket ∷ places) same = rw (gathered-same m n places (λ i x at. same (suc i) x at)) refl

page-bytes : (host memory : ℕ → ℕ) (from len : ℕ) (places : List Place) → length places ≡ len → ((i : ℕ) → slice_get places i ≡ Some Bucket → ⊥)
    → ((i addr : ℕ) → slice_get places i ≡ Some (At addr) → host (from + i) ≡ memory addr) → gathered memory places ≡ bytes_from host from len
unfolding gathered bytes_from
page-bytes host memory from zero [] sized none same = refl
page-bytes host memory from (suc len) [] sized none same = absurd (omega (arith, sized))
page-bytes host memory from zero (place ∷ places) sized none same = absurd (omega (arith, sized))
page-bytes host memory from (suc len) (At addr ∷ places) sized none same =
    let here : from + 0 ≡ from = omega arith in
    let rest = page-bytes host memory (suc from) len places (omega (arith, sized)) (λ i at. none (suc i) at)
    (λ i x at. (let next : suc from + i ≡ from + suc i = omega arith in ap host next ∙ same (suc i) x at)) in
    rw (sym (same 0 addr refl)) (rw (ap host here) (rw rest refl))
page-bytes host memory from (suc len) (Bucket ∷ places) sized none same = absurd (none 0 refl)

-- what stands in a source's page is what the guest has there
pub source-page : (work : Work) (unit bounce : ℕ) (host memory : ℕ → ℕ) → All IsAddress (places_of work.pieces) → length (places_of_block work unit) ≡ block
    → IsOnPage work unit bounce host memory → gathered memory (places_of_block work unit) ≡ bytes_from host (bounce + block * unit) block
source-page work unit bounce host memory each sized page =
    page-bytes host memory (bounce + block * unit) block (places_of_block work unit) sized
    (λ i at.
    all-at IsAddress (places_of work.pieces) (block * unit + i) Bucket
    (slice-drop (block * unit) (places_of work.pieces) i Bucket (slice-take block (drop (block * unit) (places_of work.pieces)) i Bucket at)) each refl)
    page
