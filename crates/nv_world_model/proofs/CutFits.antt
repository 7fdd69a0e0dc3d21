-- What fits PRP still fits where it is cut at a multiple of four bytes: within a page the addresses run on, and behind a page's end comes a
-- page's start, so each byte's address is its number modulo 4.
use Rattle.std.proofs.Common.{◌≡◌, ℕ, zero, suc, ◌+◌, ◌-◌, ◌%◌, ◌<◌, Bool, true, false, ◌&&◌, eqb, List, [], ◌∷◌, ◌++◌, length, take, drop, map}
use Rattle.std.proofs.Common.{Option, Some, None, is_some, refl, ap, sym, ◌∙◌, inl, inr, arith, eq-eqb}
use Rattle.std.specs.List.{All, flat_map, list_all, range_with_len}
use Rattle.std.specs.Option.{option_to_list}
use Rattle.std.proofs.lemmas.Bool.{eqb-true, or_cases}
use Rattle.std.proofs.lemmas.List.{length-append, length-drop}
use Rattle.std.proofs.lemmas.List.Elements.{All-append, All-cons, All-head, All-nil, All-tail}
use Rattle.nv_mem.specs.GuestMap.{host_of, mapped}
use Rattle.nv_mem.specs.Places.{At, Bucket, Place, addresses, piece_len, places_of, places_of_piece, total_len}
use Rattle.nv_mem.specs.declared.piece.Piece.{Piece}
use Rattle.nv_mem.specs.declared.piece.Piece.TheVariants as piece
use Rattle.nv_mem.specs.declared.region.Region.{Region}
use Rattle.nv_mem.proofs.PlaceLists.{length-places_of}
use Rattle.nv_model.specs.Laws.{IsMappedPiece, IsMappedPlace}
use Rattle.nv_model.proofs.Judged.{IsMappedPlace-pieces}
use Rattle.nv_prp.specs.Fits.{fit_behind, fit_prp, host_address, host_addresses, hosts_of, is_run, may_follow, places_fit}
use Rattle.nv_world_model.specs.Share.{cut_piece, cut_pieces}
use Rattle.nv_world_model.proofs.CutPieces.{places_of-cut_pieces}
use Rattle.nv_world_model.proofs.Windows.{window, window-none}

left_of : (a b : Bool) → (a && b) ≡ true → a ≡ true
left_of true b both = refl
left_of false b both = absurd (cc)

right_of : (a b : Bool) → (a && b) ≡ true → b ≡ true
right_of true b both = both
right_of false b both = absurd (cc)

both : (a b : Bool) → a ≡ true → b ≡ true → (a && b) ≡ true
both a b first second = cc

-- ---- addresses

follow-mod : (end addr : ℕ) → may_follow (Some end) addr ≡ true → addr % 4 ≡ end % 4
follow-mod end addr follows =
    elim (or_cases (eqb addr end) (eqb (end % 4096) 0 && eqb (addr % 4096) 0) follows) [
      | inl same ↦ ap (λ (n : ℕ). n % 4) (eqb-true addr end same)
      | inr pages ↦
          (let ends = eqb-true (end % 4096) 0 (left_of (eqb (end % 4096) 0) (eqb (addr % 4096) 0) pages) in
          let starts = eqb-true (addr % 4096) 0 (right_of (eqb (end % 4096) 0) (eqb (addr % 4096) 0) pages) in omega arith)
    ]

-- what fits from a byte on, and where the bytes before it end
pub record FitsFrom (xs : List ℕ) (residue : ℕ) : Type 0 where
  pub end : ℕ
  pub fits : fit_behind (Some end) xs ≡ true
  pub aligned : end % 4 ≡ residue

drop-fits : (n end : ℕ) (xs : List ℕ) → fit_behind (Some end) xs ≡ true → FitsFrom (drop n xs) ((end + n) % 4)
unfolding fit_behind
drop-fits zero end xs fits = let same : end ≡ end + 0 = omega arith in record { end = end; fits = fits; aligned = ap (λ (m : ℕ). m % 4) same }
drop-fits (suc n) end [] fits = record { end = end + suc n; fits = refl; aligned = refl }
drop-fits (suc n) end (x ∷ xs) fits =
    let first = follow-mod end x (left_of (may_follow (Some end) x) (fit_behind (Some (x + 1)) xs) fits) in
    let on = drop-fits n (x + 1) xs (right_of (may_follow (Some end) x) (fit_behind (Some (x + 1)) xs) fits) in
    let aligned = on.aligned in
    record { end = on.end; fits = on.fits; aligned = omega arith }

take-fits : (n end : ℕ) (xs : List ℕ) → fit_behind (Some end) xs ≡ true → fit_behind (Some end) (take n xs) ≡ true
unfolding fit_behind
take-fits zero end xs fits = refl
take-fits (suc n) end [] fits = refl
take-fits (suc n) end (x ∷ xs) fits =
    both (may_follow (Some end) x) (fit_behind (Some (x + 1)) (take n xs))
    (left_of (may_follow (Some end) x) (fit_behind (Some (x + 1)) xs) fits)
    (take-fits n (x + 1) xs (right_of (may_follow (Some end) x) (fit_behind (Some (x + 1)) xs) fits))

-- at a multiple of four they fit as the first
first-fits : (end : ℕ) (xs : List ℕ) → 0 < length xs → fit_behind (Some end) xs ≡ true → end % 4 ≡ 0 → fit_prp xs ≡ true
unfolding fit_behind
first-fits end [] some fits aligned = absurd (omega arith)
first-fits end (x ∷ xs) some fits aligned =
    let first = follow-mod end x (left_of (may_follow (Some end) x) (fit_behind (Some (x + 1)) xs) fits) in
    both (eqb (x % 4) 0) (fit_behind (Some (x + 1)) xs) (eq-eqb (x % 4) 0 (first ∙ aligned))
    (right_of (may_follow (Some end) x) (fit_behind (Some (x + 1)) xs) fits)

length-take-some : (n : ℕ) (xs : List ℕ) → 0 < length xs → 0 < length (take (suc n) xs)
length-take-some n [] some = absurd (omega arith)
length-take-some n (x ∷ xs) some = omega arith

-- so does what is cut out
pub window-fits : (skip len : ℕ) (xs : List ℕ) → fit_prp xs ≡ true → skip % 4 ≡ 0 → skip < length xs → 0 < len → fit_prp (window skip len xs) ≡ true
unfolding fit_behind
window-fits skip zero xs fits aligned below some = absurd (omega arith)
window-fits skip (suc len) [] fits aligned below some = absurd (omega arith)
window-fits zero (suc len) (x ∷ xs) fits aligned below some =
    both (may_follow None x) (fit_behind (Some (x + 1)) (take len xs)) (left_of (may_follow None x) (fit_behind (Some (x + 1)) xs) fits)
    (take-fits len (x + 1) xs (right_of (may_follow None x) (fit_behind (Some (x + 1)) xs) fits))
window-fits (suc skip) (suc len) (x ∷ xs) fits aligned below some =
    let first = eqb-true (x % 4) 0 (left_of (may_follow None x) (fit_behind (Some (x + 1)) xs) fits) in
    let from = drop-fits skip (x + 1) xs (right_of (may_follow None x) (fit_behind (Some (x + 1)) xs) fits) in
    let there = from.aligned in
    let rest = length-drop skip xs in
    let size = length-take-some len (drop skip xs) in
    first-fits from.end (take (suc len) (drop skip xs)) (size (omega arith)) (take-fits (suc len) from.end (drop skip xs) from.fits) (omega arith)

-- ---- places

-- each has a host address
abbrev AreHosted : List Region → List Place → Type 0
AreHosted regions [] = Unit {0}
AreHosted regions (p ∷ ps) = ((h : ℕ) × (host_address regions p ≡ h ∷ [])) × AreHosted regions ps

abbrev IsAt : Place → Type 0
IsAt (At addr) = Unit {0}
IsAt Bucket = ⊥

some-one : (o : Option ℕ) → is_some o ≡ true → (h : ℕ) × (option_to_list o ≡ h ∷ [])
some-one (Some h) is = (h, refl)
some-one None is = absurd (cc)

hosted-place : (regions : List Region) (p : Place) → IsMappedPlace (mapped regions) p → IsAt p → (h : ℕ) × (host_address regions p ≡ h ∷ [])
hosted-place regions (At addr) is run = some-one (host_of regions addr) is
hosted-place regions Bucket is run = absurd run

hosted : (regions : List Region) (places : List Place) → All (IsMappedPlace (mapped regions)) places → All IsAt places → AreHosted regions places
hosted regions [] each runs = tt
hosted regions (p ∷ ps) each runs = (
  hosted-place regions p (All-head (IsMappedPlace (mapped regions)) p ps each) (All-head IsAt p ps runs),
  hosted regions ps (All-tail (IsMappedPlace (mapped regions)) p ps each) (All-tail IsAt p ps runs),
)

hosts_of-window : (regions : List Region) (skip len : ℕ) (places : List Place) → AreHosted regions places
    → hosts_of regions (window skip len places) ≡ window skip len (hosts_of regions places)
unfolding hosts_of
hosts_of-window regions skip len [] each =
    ap (flat_map (host_address regions)) (window-none skip len) ∙ sym (window-none skip len)
hosts_of-window regions zero zero (p ∷ ps) each = refl
hosts_of-window regions zero (suc len) (p ∷ ps) each =
    let one = each.0.1 in
    let on = hosts_of-window regions zero len ps each.1 in
    ap (λ (xs : List ℕ). xs ++ flat_map (host_address regions) (take len ps)) one ∙ ap (λ (xs : List ℕ). each.0.0 ∷ xs) on
    ∙ sym (ap (λ (xs : List ℕ). take (suc len) (xs ++ flat_map (host_address regions) ps)) one)
hosts_of-window regions (suc skip) len (p ∷ ps) each =
    let one = each.0.1 in
    hosts_of-window regions skip len ps each.1
    ∙ sym (ap (λ (xs : List ℕ). window (suc skip) len (xs ++ flat_map (host_address regions) ps)) one)

length-hosts_of : (regions : List Region) (places : List Place) → AreHosted regions places → length (hosts_of regions places) ≡ length places
unfolding hosts_of
length-hosts_of regions [] each = refl
length-hosts_of regions (p ∷ ps) each =
    let on = length-hosts_of regions ps each.1 in
    let one = ap length each.0.1 in
    let both = length-append (host_address regions p) (hosts_of regions ps) in omega arith

-- ---- pieces

row-at : (addr len : ℕ) → All IsAt (map At (range_with_len addr len))
row-at addr zero = All-nil IsAt
row-at addr (suc len) = All-cons IsAt (At addr) (map At (range_with_len (addr + 1) len)) tt (row-at (addr + 1) len)

run-at : (p : Piece) → is_run p ≡ true → All IsAt (places_of_piece p)
unfolding addresses
run-at (piece.Run addr len) run = row-at addr len
run-at (piece.Bucket len) run = absurd (cc)

runs-at : (pieces : List Piece) → list_all is_run pieces ≡ true → All IsAt (places_of pieces)
runs-at [] runs = All-nil IsAt
runs-at (p ∷ ps) runs =
    All-append IsAt (places_of_piece p) (places_of ps) (run-at p (left_of (is_run p) (list_all is_run ps) runs))
    (runs-at ps (right_of (is_run p) (list_all is_run ps) runs))

cut-run : (skip len : ℕ) (p : Piece) → is_run p ≡ true → is_run (cut_piece skip len p) ≡ true
cut-run skip len (piece.Run addr bytes) run = refl
cut-run skip len (piece.Bucket bytes) run = absurd (cc)

cut-runs : (skip len : ℕ) (pieces : List Piece) → list_all is_run pieces ≡ true → list_all is_run (cut_pieces skip len pieces) ≡ true
cut-runs skip len [] runs = refl
cut-runs skip len (p ∷ ps) runs =
    both (is_run (cut_piece skip len p)) (list_all is_run (cut_pieces (skip - piece_len p) (len - (piece_len p - skip)) ps))
    (cut-run skip len p (left_of (is_run p) (list_all is_run ps) runs))
    (cut-runs (skip - piece_len p) (len - (piece_len p - skip)) ps (right_of (is_run p) (list_all is_run ps) runs))

-- what fits PRP still fits, cut at a multiple of four bytes
pub cut_pieces-fit : (regions : List Region) (skip len : ℕ) (pieces : List Piece) → All (IsMappedPiece (mapped regions)) pieces
    → places_fit regions pieces ≡ true → skip % 4 ≡ 0 → skip < total_len pieces → 0 < len → places_fit regions (cut_pieces skip len pieces) ≡ true
cut_pieces-fit regions skip len pieces each fits aligned below some =
    let runs = left_of (list_all is_run pieces) (fit_prp (host_addresses regions pieces)) fits in
    let fit = right_of (list_all is_run pieces) (fit_prp (host_addresses regions pieces)) fits in
    let there = hosted regions (places_of pieces) (IsMappedPlace-pieces (mapped regions) pieces each) (runs-at pieces runs) in
    let size = length-hosts_of regions (places_of pieces) there in
    let bytes = length-places_of pieces in
    let cut = ap (hosts_of regions) (places_of-cut_pieces skip len pieces) ∙ hosts_of-window regions skip len (places_of pieces) there in
    both (list_all is_run (cut_pieces skip len pieces)) (fit_prp (host_addresses regions (cut_pieces skip len pieces))) (cut-runs skip len pieces runs)
    (ap fit_prp cut ∙ window-fits skip len (hosts_of regions (places_of pieces)) fit aligned (omega arith) some)
