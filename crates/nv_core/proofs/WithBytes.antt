-- Pieces that name no byte make no difference to a transfer, and cut pieces of a source are runs.
use Rattle.std.proofs.Common.{◌≡◌, ℕ, ◌-◌, Bool, true, false, ◌&&◌, cond, All, List, [], ◌∷◌, ◌++◌, filter, length, nat_lt, replicate, arith, refl, sym, ap, ◌∙◌}
use Rattle.std.proofs.lemmas.Bool.Decides.{nat_tests}
use Rattle.std.specs.List.{list_all}
use Rattle.std.proofs.lemmas.List.Elements.{All-cons, All-head, All-nil, All-tail}
use Rattle.nv_bounce.specs.Bounce.{NamesNoBucket}
use Rattle.nv_mem.specs.Places.{Bucket, Place, addresses, places_of, places_of_piece, total_len}
use Rattle.nv_mem.specs.declared.piece.Piece.{Piece}
use Rattle.nv_mem.specs.declared.piece.Piece.TheVariants as piece
use Rattle.nv_mem.proofs.PlaceLists.{length-places_of}
use Rattle.nv_mem.specs.declared.region.Region.{Region}
use Rattle.nv_model.proofs.Endings.{and-true}
use Rattle.nv_model.proofs.RunPieces.{IsRunPiece}
use Rattle.nv_plan.specs.Parts.{has_bytes}
use Rattle.nv_prp.specs.Fits.{fit_prp, host_addresses, hosts_of, is_run, places_fit}
use Rattle.nv_world_model.specs.Share.{cut_pieces}

-- ---- pieces without a byte

no-len : (len : ℕ) → nat_lt 0 len ≡ false → len ≡ 0
no-len len e = grind (arith, nat_tests)

no-place : (p : Piece) → has_bytes p ≡ false → places_of_piece p ≡ []
unfolding addresses
no-place (piece.Run addr len) e = ap (λ (n : ℕ). addresses addr n) (no-len len e)
no-place (piece.Bucket len) e = ap (λ (n : ℕ). replicate n Bucket) (no-len len e)

-- the same places
pub filter-places : (pieces : List Piece) → places_of (filter has_bytes pieces) ≡ places_of pieces
filter-places [] = refl
filter-places (p ∷ pieces) =
    let rest = filter-places pieces in
    (elim (has_bytes p) as (λ b. has_bytes p ≡ b
    → places_of (cond b (p ∷ filter has_bytes pieces) (filter has_bytes pieces)) ≡ places_of_piece p ++ places_of pieces) [
      | true ↦ λ e. ap (λ (ps : List Place). places_of_piece p ++ ps) rest
      | false ↦ λ e. rest ∙ ap (λ (ps : List Place). ps ++ places_of pieces) (sym (no-place p e))
    ]) refl

-- as many bytes
pub filter-total : (pieces : List Piece) → total_len (filter has_bytes pieces) ≡ total_len pieces
filter-total pieces =
    sym (length-places_of (filter has_bytes pieces)) ∙ ap length (filter-places pieces) ∙ length-places_of pieces

-- the same host addresses
pub filter-addresses : (regions : List Region) (pieces : List Piece) → host_addresses regions (filter has_bytes pieces) ≡ host_addresses regions pieces
filter-addresses regions pieces = ap (hosts_of regions) (filter-places pieces)

-- which fit PRP as well
filter-runs : (pieces : List Piece) → list_all is_run pieces ≡ true → list_all is_run (filter has_bytes pieces) ≡ true
filter-runs [] runs = refl
filter-runs (p ∷ pieces) runs =
    let both = and-true (is_run p) (list_all is_run pieces) runs in
    (elim (has_bytes p) as (λ b. list_all is_run (cond b (p ∷ filter has_bytes pieces) (filter has_bytes pieces)) ≡ true) [
      | true ↦ ap (λ (b : Bool). b && list_all is_run (filter has_bytes pieces)) both.0 ∙ filter-runs pieces both.1
      | false ↦ filter-runs pieces both.1
    ])

pub filter-fit : (regions : List Region) (pieces : List Piece) → places_fit regions pieces ≡ true → places_fit regions (filter has_bytes pieces) ≡ true
filter-fit regions pieces fit =
    let both = and-true (list_all is_run pieces) (fit_prp (host_addresses regions pieces)) fit in
    ap (λ (b : Bool). b && fit_prp (host_addresses regions (filter has_bytes pieces))) (filter-runs pieces both.0)
    ∙ ap fit_prp (filter-addresses regions pieces) ∙ both.1

-- ---- runs

-- those that are cut out of runs are runs
pub cut-runs : (skip len : ℕ) (pieces : List Piece) → All IsRunPiece pieces → All IsRunPiece (cut_pieces skip len pieces)
unfolding IsRunPiece
cut-runs skip len [] runs = All-nil IsRunPiece
cut-runs skip len (piece.Run addr bytes ∷ pieces) runs =
    All-cons IsRunPiece _ (cut_pieces (skip - bytes) (len - (bytes - skip)) pieces) tt
    (cut-runs (skip - bytes) (len - (bytes - skip)) pieces (All-tail IsRunPiece (piece.Run addr bytes) pieces runs))
cut-runs skip len (piece.Bucket bytes ∷ pieces) runs = absurd (All-head IsRunPiece (piece.Bucket bytes) pieces runs)

-- and name no bucket
pub no-bucket : (pieces : List Piece) → All IsRunPiece pieces → All NamesNoBucket pieces
unfolding IsRunPiece
no-bucket [] runs = All-nil NamesNoBucket
no-bucket (piece.Run addr len ∷ pieces) runs =
    All-cons NamesNoBucket (piece.Run addr len) pieces tt (no-bucket pieces (All-tail IsRunPiece (piece.Run addr len) pieces runs))
no-bucket (piece.Bucket len ∷ pieces) runs = absurd (All-head IsRunPiece (piece.Bucket len) pieces runs)
