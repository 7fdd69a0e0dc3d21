-- Runs that share no byte name none twice.
use Rattle.std.proofs.Common.{◌≡◌, ℕ, zero, suc, ◌+◌, ◌<◌, ◌≤◌, Bool, true, false, ◌||◌, List, [], ◌∷◌, ◌++◌, All}
use Rattle.std.proofs.Common.{replicate, arith, refl, sym, ◌∙◌}
use Rattle.std.specs.List.{list_any, range_with_len}
use Rattle.std.proofs.lemmas.Bool.Decides.{nat_tests}
use Rattle.std.proofs.lemmas.List.Elements.{All-append, All-cons, All-head, All-map, All-nil, All-tail}
use Rattle.std.proofs.lemmas.List.Kept.{AllPairs-cons}
use Rattle.nv_mem.specs.Places.{At, Bucket, Place, addresses, places_of}
use Rattle.nv_mem.specs.declared.piece.Piece.{Piece}
use Rattle.nv_mem.specs.declared.piece.Piece.TheVariants as piece
use Rattle.nv_mem.proofs.Images.{AllPairs-head, AllPairs-tail}
use Rattle.nv_model.specs.Footprint.{Destination, buffer_named, meet, named_as}
use Rattle.nv_world_model.specs.Disciplined.{clash}
use Rattle.nv_world_model.specs.SetUp.{any_two}
use Rattle.nv_laws_sound.proofs.Named.{row-all}
use Rattle.nv_laws.specs.Places.{IsElse, NameNoneTwice}

once-nil : NameNoneTwice []
once-nil i j d order below = absurd (omega (arith, below))

-- places of which none is among others
once-append : (places more : List Place) → NameNoneTwice places → NameNoneTwice more → All (λ p. All (IsElse p) more) places → NameNoneTwice (places ++ more)
once-append [] more once also apart = also
once-append (place ∷ places) more once also apart =
    AllPairs-cons IsElse place (places ++ more)
    (All-append (IsElse place) places more (AllPairs-head IsElse place places once) (All-head (λ p. All (IsElse p) more) place places apart))
    (once-append places more (AllPairs-tail IsElse place places once) also (All-tail (λ p. All (IsElse p) more) place places apart))

-- two addresses
else-apart : (a b : ℕ) → (a ≡ b → ⊥) → IsElse (At a) (At b)
else-apart a b apart addr one two = apart (at-same a addr one ∙ sym (at-same b addr two))
  where
    at-same : (x y : ℕ) → At x ≡ At y → x ≡ y
    at-same x y e = cc

bucket-else : (place : Place) → IsElse Bucket place
bucket-else place addr one two = cc

-- a row
once-row : (len addr : ℕ) → NameNoneTwice (addresses addr len)
unfolding addresses
once-row zero addr = once-nil
once-row (suc len) addr =
    AllPairs-cons IsElse (At addr) (addresses (addr + 1) len)
    (All-map (IsElse (At addr)) At (range_with_len (addr + 1) len)
    (row-all (λ x. IsElse (At addr) (At x)) (addr + 1) len (λ x low high. else-apart addr x (λ same. absurd (omega (arith, same, low))))))
    (once-row len (addr + 1))

-- buckets
buckets-once : (len : ℕ) → NameNoneTwice (replicate len Bucket)
buckets-once zero = once-nil
buckets-once (suc len) = AllPairs-cons IsElse Bucket (replicate len Bucket) (all-else (replicate len Bucket)) (buckets-once len)
  where
    all-else : (places : List Place) → All (IsElse Bucket) places
    all-else [] = All-nil (IsElse Bucket)
    all-else (place ∷ places) = All-cons (IsElse Bucket) place places (bucket-else place) (all-else places)

buckets-apart : (len : ℕ) (places : List Place) → All (λ p. All (IsElse p) places) (replicate len Bucket)
buckets-apart zero places = All-nil (λ p. All (IsElse p) places)
buckets-apart (suc len) places =
    All-cons (λ p. All (IsElse p) places) Bucket (replicate len Bucket) (all-else places) (buckets-apart len places)
  where
    all-else : (ps : List Place) → All (IsElse Bucket) ps
    all-else [] = All-nil (IsElse Bucket)
    all-else (place ∷ ps) = All-cons (IsElse Bucket) place ps (bucket-else place) (all-else ps)

replicate-else : (a len : ℕ) → All (IsElse (At a)) (replicate len Bucket)
replicate-else a zero = All-nil (IsElse (At a))
replicate-else a (suc len) = All-cons (IsElse (At a)) Bucket (replicate len Bucket) (λ addr one two. no-bucket addr two) (replicate-else a len)
  where
    no-bucket : (addr : ℕ) → Bucket ≡ At addr → ⊥
    no-bucket addr e = cc

-- neither of two tests
neither : (a b : Bool) → (a || b) ≡ false → (a ≡ false) × (b ≡ false)
neither true b e = cc
neither false b e = (refl, e)

-- an address of a run is none of a run that shares no byte with it
run-else : (addr len from more a : ℕ) → meet addr len from more ≡ false → addr ≤ a → a < addr + len → All (IsElse (At a)) (addresses from more)
unfolding addresses
run-else addr len from more a apart low high =
    All-map (IsElse (At a)) At (range_with_len from more)
    (row-all (λ x. IsElse (At a) (At x)) from more (λ x least most. else-apart a x (λ same. meets-not a x least most same)))
  where
    meets-not : (b x : ℕ) → from ≤ x → x < from + more → a ≡ x → ⊥
    meets-not b x least most same =
        (let met : meet addr len from more ≡ true = grind (arith, nat_tests, low, high, least, most, same) in
        let both : true ≡ false = sym met ∙ apart in
        cc)

-- nor of runs none of which does
runs-else : (addr len a : ℕ) (pieces : List Piece) → list_any (clash (named_as Destination addr len)) (buffer_named Destination pieces) ≡ false
    → addr ≤ a → a < addr + len → All (IsElse (At a)) (places_of pieces)
runs-else addr len a [] apart low high = All-nil (IsElse (At a))
runs-else addr len a (piece.Run from more ∷ pieces) apart low high =
    let both = neither (meet addr len from more) (list_any (clash (named_as Destination addr len)) (buffer_named Destination pieces)) apart in
    All-append (IsElse (At a)) (addresses from more) (places_of pieces) (run-else addr len from more a both.0 low high)
    (runs-else addr len a pieces both.1 low high)
runs-else addr len a (piece.Bucket more ∷ pieces) apart low high =
    All-append (IsElse (At a)) (replicate more Bucket) (places_of pieces) (replicate-else a more) (runs-else addr len a pieces apart low high)

-- a destination none of whose runs shares a byte with another names none twice
pub destination-once : (pieces : List Piece) → any_two clash (buffer_named Destination pieces) ≡ false → NameNoneTwice (places_of pieces)
unfolding addresses
destination-once [] apart = once-nil
destination-once (piece.Run addr len ∷ pieces) apart =
    let both = neither (list_any (clash (named_as Destination addr len)) (buffer_named Destination pieces)) (any_two clash (buffer_named Destination pieces)) apart in
    once-append (addresses addr len) (places_of pieces) (once-row len addr) (destination-once pieces both.1) (row-apart both.0)
  where
    row-apart : list_any (clash (named_as Destination addr len)) (buffer_named Destination pieces) ≡ false
        → All (λ p. All (IsElse p) (places_of pieces)) (addresses addr len)
    row-apart none =
        All-map (λ p. All (IsElse p) (places_of pieces)) At (range_with_len addr len)
        (row-all (λ a. All (IsElse (At a)) (places_of pieces)) addr len (λ a low high. runs-else addr len a pieces none low high))
destination-once (piece.Bucket len ∷ pieces) apart =
    once-append (replicate len Bucket) (places_of pieces) (buckets-once len) (destination-once pieces apart) (buckets-apart len (places_of pieces))
