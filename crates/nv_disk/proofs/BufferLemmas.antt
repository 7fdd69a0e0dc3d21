-- Bytes of a buffer, piece by piece
use Rattle.std.proofs.Common.{◌≡◌, ℕ, zero, suc, ◌+◌, ◌-◌, ◌<◌, ◌≤◌, List, [], ◌∷◌, ◌++◌, length, take, drop, replicate, refl, sym, ap, subst, ◌∙◌, arith}
use Rattle.std.proofs.lemmas.List.Elements.{All-head, All-tail, All-cons, All-nil}
use Rattle.std.proofs.lemmas.List.{append_assoc, length-append, length-take-le, take-append-drop}
use Rattle.std.proofs.Math.Seq.{drop-append-add, take-append_seam}
use Rattle.nv_mem.specs.Bytes.{after_store, bytes_at}
use Rattle.nv_mem.specs.Places.{Place, At, Bucket, addresses, places_of, places_of_piece, piece_len}
use Rattle.nv_mem.specs.declared.piece.Piece.{Piece}
use Rattle.nv_mem.proofs.PlaceLists.{length-places_of_piece}
use Rattle.nv_disk.specs.Buffer.{AreBelow, IsBelow, IsFront}
use Rattle.nv_model.specs.Memory.{byte_in, bytes_from, gathered, scattered, stored}
use Rattle.nv_model.proofs.MemoryLemmas.{bytes_from-list, gathered-addresses, gathered-append, scattered-addresses, scattered-append, stored-list}

-- ---- places below a size

-- those behind others
pub AreBelow-behind : (size : ℕ) (front rest : List Place) → AreBelow size (front ++ rest) → AreBelow size rest
AreBelow-behind size [] rest each = each
AreBelow-behind size (p ∷ front) rest each = AreBelow-behind size front rest (All-tail (IsBelow size) p (front ++ rest) each)

-- and those in front
pub AreBelow-front : (size : ℕ) (front rest : List Place) → AreBelow size (front ++ rest) → AreBelow size front
AreBelow-front size [] rest each = All-nil (IsBelow size)
AreBelow-front size (p ∷ front) rest each =
    All-cons (IsBelow size) p front (All-head (IsBelow size) p (front ++ rest) each)
    (AreBelow-front size front rest (All-tail (IsBelow size) p (front ++ rest) each))

-- below more
IsBelow-more : (size more : ℕ) (p : Place) → size ≤ more → IsBelow size p → IsBelow more p
IsBelow-more size more (At addr) le below = omega arith
IsBelow-more size more Bucket le below = tt

pub AreBelow-more : (size more : ℕ) (places : List Place) → size ≤ more → AreBelow size places → AreBelow more places
AreBelow-more size more [] le each = All-nil (IsBelow more)
AreBelow-more size more (p ∷ places) le each =
    All-cons (IsBelow more) p places (IsBelow-more size more p le (All-head (IsBelow size) p places each))
    (AreBelow-more size more places le (All-tail (IsBelow size) p places each))

-- consecutive addresses end at the size at the latest
pub addresses-below : (size addr len : ℕ) → 0 < len → AreBelow size (addresses addr len) → addr + len ≤ size
unfolding addresses
addresses-below size addr zero some each = absurd (omega arith)
addresses-below size addr (suc zero) some each =
    let first : addr < size = All-head (IsBelow size) (At addr) [] each in
    omega arith
addresses-below size addr (suc (suc n)) some each =
    let rest = addresses-below size (addr + 1) (suc n) (omega arith) (All-tail (IsBelow size) (At addr) (addresses (addr + 1) (suc n)) each) in
    omega arith

pub AreBelow-drop : (size n : ℕ) (places : List Place) → AreBelow size places → AreBelow size (drop n places)
AreBelow-drop size n places each =
    let W : List Place → Type 0 = λ ps. AreBelow size ps in
    AreBelow-behind size (take n places) (drop n places) (subst W (sym (take-append-drop n places)) each)

-- ---- a piece that is empty

pub nothing-left : (p : Piece) (behind : List Piece) → piece_len p ≡ 0 → length behind ≡ 0
    → places_of_piece p ++ places_of behind ≡ []
nothing-left p [] empty none = no-places (places_of_piece p) (length-places_of_piece p ∙ empty)
  where
    no-places : (places : List Place) → length places ≡ 0 → places ++ [] ≡ []
    no-places [] e = refl
    no-places (place ∷ places) e = absurd (omega arith)
nothing-left p (q ∷ behind) empty none = absurd (omega arith)

pub one-piece-less : (p first : Piece) (behind rest : List Piece) → piece_len p ≡ 0 → behind ≡ first ∷ rest
    → places_of_piece p ++ places_of behind ≡ places_of_piece first ++ places_of rest
one-piece-less p first behind rest empty is =
    no-places (places_of_piece p) (places_of behind) (length-places_of_piece p ∙ empty) ∙ ap places_of is
  where
    no-places : (places others : List Place) → length places ≡ 0 → places ++ others ≡ others
    no-places [] others e = refl
    no-places (place ∷ places) others e = absurd (omega arith)

-- ---- a piece that is cut

-- consecutive addresses in two parts
pub addresses-split : (addr n k : ℕ) → addresses addr (n + k) ≡ addresses addr n ++ addresses (addr + n) k
unfolding addresses
addresses-split addr zero k =
    let none : zero + k ≡ k = omega arith in
    let same : addr ≡ addr + zero = omega arith in
    ap (addresses addr) none ∙ ap (λ (a : ℕ). addresses a k) same
addresses-split addr (suc n) k =
    let more : suc n + k ≡ suc (n + k) = omega arith in
    let e : addr + 1 + n ≡ addr + suc n = omega arith in
    ap (addresses addr) more
    ∙ ap (λ (places : List Place). At addr ∷ places) (addresses-split (addr + 1) n k ∙ ap (λ (a : ℕ). addresses (addr + 1) n ++ addresses a k) e)

pub run-split : (addr len most : ℕ) → most ≤ len
    → addresses addr len ≡ addresses addr most ++ addresses (addr + most) (len - most)
run-split addr len most le =
    let e : len ≡ most + (len - most) = omega arith in
    ap (addresses addr) e ∙ addresses-split addr most (len - most)

-- a bucket in two parts
replicate-split : (n k : ℕ) → replicate (n + k) Bucket ≡ replicate n Bucket ++ replicate k Bucket
replicate-split zero k =
    let none : zero + k ≡ k = omega arith in
    ap (λ (n : ℕ). replicate n Bucket) none
replicate-split (suc n) k =
    let more : suc n + k ≡ suc (n + k) = omega arith in
    ap (λ (n : ℕ). replicate n Bucket) more ∙ ap (λ (places : List Place). Bucket ∷ places) (replicate-split n k)

pub bucket-split : (len most : ℕ) → most ≤ len
    → replicate len Bucket ≡ replicate most Bucket ++ replicate (len - most) Bucket
bucket-split len most le =
    let e : len ≡ most + (len - most) = omega arith in
    ap (λ (n : ℕ). replicate n Bucket) e ∙ replicate-split most (len - most)

-- ---- bytes that are moved

-- bytes stored in a list are bytes scattered to their addresses
pub scattered-run : (memory : List ℕ) (addr : ℕ) (bytes : List ℕ) → addr + length bytes ≤ length memory
    → byte_in (after_store memory addr bytes) ≡ scattered (byte_in memory) (addresses addr (length bytes)) bytes
unfolding byte_in
scattered-run memory addr bytes inside =
    sym (stored-list memory addr bytes inside) ∙ sym (scattered-addresses (byte_in memory) addr bytes)

-- bytes read from a list are the bytes gathered from their addresses
pub gathered-run : (memory : List ℕ) (addr len : ℕ) → addr + len ≤ length memory
    → bytes_at memory addr len ≡ gathered (byte_in memory) (addresses addr len)
unfolding byte_in
gathered-run memory addr len inside =
    sym (bytes_from-list memory addr len inside) ∙ sym (gathered-addresses (byte_in memory) addr len)

-- bytes of a list are those of the memory that it is
pub bytes_at-from : (memory : List ℕ) (addr len : ℕ) → addr + len ≤ length memory
    → bytes_at memory addr len ≡ bytes_from (byte_in memory) addr len
unfolding byte_in
bytes_at-from memory addr len inside = sym (bytes_from-list memory addr len inside)

-- nothing is taken from a bucket
pub gathered-buckets : (m : ℕ → ℕ) (n : ℕ) → gathered m (replicate n Bucket) ≡ replicate n 0
unfolding gathered
gathered-buckets m zero = refl
gathered-buckets m (suc n) = ap (λ (bytes : List ℕ). 0 ∷ bytes) (gathered-buckets m n)

-- no bytes are taken from no places
pub gathered-none : (m : ℕ → ℕ) → [] ≡ gathered m []
unfolding gathered
gathered-none m = refl

-- nothing is given where no byte is left, or no place
pub scattered-no_bytes : (m : ℕ → ℕ) (places : List Place) (bytes : List ℕ) → length bytes ≡ 0
    → scattered m places bytes ≡ m
unfolding scattered
scattered-no_bytes m [] bytes none = refl
scattered-no_bytes m (place ∷ places) [] none = refl
scattered-no_bytes m (place ∷ places) (b ∷ bytes) none = absurd (omega arith)

pub scattered-no_places : (m : ℕ → ℕ) (places : List Place) (bytes : List ℕ) → places ≡ []
    → scattered m places bytes ≡ m
unfolding scattered
scattered-no_places m [] bytes none = refl
scattered-no_places m (place ∷ places) bytes none = (cc)

-- only as many places get a byte as there are bytes
pub scattered-take : (m : ℕ → ℕ) (n : ℕ) (places : List Place) (bytes : List ℕ) → length bytes ≡ n
    → scattered m (take n places) bytes ≡ scattered m places bytes
unfolding scattered
scattered-take m zero places [] e =
    scattered-no_bytes m (take zero places) [] refl ∙ sym (scattered-no_bytes m places [] refl)
scattered-take m zero places (b ∷ bytes) e = absurd (omega arith)
scattered-take m (suc n) [] bytes e = refl
scattered-take m (suc n) (place ∷ places) [] e = absurd (omega arith)
scattered-take m (suc n) (At addr ∷ places) (b ∷ bytes) e =
    scattered-take (stored m addr (b ∷ [])) n places bytes (omega arith)
scattered-take m (suc n) (Bucket ∷ places) (b ∷ bytes) e = scattered-take m n places bytes (omega arith)

-- ---- a loop over a buffer's pieces

pub drop-nil : (j : ℕ) → drop {A = Place} j [] ≡ []
drop-nil zero = refl
drop-nil (suc j) = refl

-- the front gets its bytes, and then the others theirs
pub scattered-front : (m : ℕ → ℕ) (places left : List Place) (most : ℕ) (p : Piece) (bytes now rest : List ℕ)
    → IsFront places most p left
    → most ≡ length bytes → now ≡ take (piece_len p) bytes → rest ≡ drop (piece_len p) bytes
    → scattered (scattered m (places_of_piece p) now) left rest ≡ scattered m places bytes
scattered-front m places left most p bytes now rest front all first others =
    let len : length (places_of_piece p) ≡ length now =
    length-places_of_piece p
    ∙ sym (ap length first ∙ length-take-le (piece_len p) bytes (let l = front.at_most in omega arith)) in
    let joined : now ++ rest ≡ bytes = ap (λ (xs : List ℕ). xs ++ rest) first ∙ ap (λ (xs : List ℕ). take (piece_len p) bytes ++ xs) others ∙ take-append-drop (piece_len p) bytes in
    sym (scattered-append m (places_of_piece p) left now rest len)
    ∙ ap (λ (ps : List Place). scattered m ps (now ++ rest)) (sym front.whole)
    ∙ ap (scattered m places) joined

-- the places behind the front
pub drop-front : (places left : List Place) (most n k : ℕ) (p : Piece) → IsFront places most p left
    → n ≡ piece_len p + k → drop k left ≡ drop n places
drop-front places left most n k p front e =
    let len : n ≡ length (places_of_piece p) + k = e ∙ ap (λ (l : ℕ). l + k) (sym (length-places_of_piece p)) in
    sym (ap (drop n) front.whole ∙ ap (λ (i : ℕ). drop i (places_of_piece p ++ left)) len ∙ drop-append-add (places_of_piece p) left k)

-- a piece all of whose places are skipped
pub skip-piece : (p : Piece) (behind : List Place) (left : ℕ) → piece_len p ≤ left
    → drop left (places_of_piece p ++ behind) ≡ drop (left - piece_len p) behind
skip-piece p behind left le =
    let len : left ≡ length (places_of_piece p) + (left - piece_len p) = omega (arith, length-places_of_piece p) in
    ap (λ (n : ℕ). drop n (places_of_piece p ++ behind)) len ∙ drop-append-add (places_of_piece p) behind (left - piece_len p)

-- and one that is cut where the rest begins
pub skip-front : (whole front rest : List Place) (behind : List Place) (left : ℕ) → whole ≡ front ++ rest → length front ≡ left
    → drop left (whole ++ behind) ≡ rest ++ behind
skip-front whole front rest behind left cut len =
    let n : left ≡ length front + 0 = omega (arith, len) in
    ap (λ (places : List Place). drop left (places ++ behind)) cut
    ∙ ap (drop left) (append_assoc front rest behind)
    ∙ ap (λ (n : ℕ). drop n (front ++ (rest ++ behind))) n
    ∙ drop-append-add front (rest ++ behind) 0

-- none is left behind the last piece
pub no-pieces : (behind : List Piece) (n : ℕ) → length behind ≡ 0 → drop n (places_of behind) ≡ places_of behind
no-pieces [] zero none = refl
no-pieces [] (suc n) none = refl
no-pieces (p ∷ behind) n none = absurd (omega arith)

-- what a loop that gives bytes to a buffer keeps: the bytes that are left, given to the places that are left, make the memory that
-- all bytes make
pub record IsPutting (before : List ℕ) (all : List Place) (bytes memory : List ℕ) (places : List Place) (rest : List ℕ) : Type 0 where
  pub moved : scattered (byte_in memory) places rest ≡ scattered (byte_in before) all bytes
  pub size : length memory ≡ length before
  pub left : drop (length rest) places ≡ drop (length bytes) all
  pub below : AreBelow (length memory) places

-- one more piece
pub IsPutting-more : (before : List ℕ) (all : List Place) (bytes memory : List ℕ) (places : List Place) (rest : List ℕ)
    (p : Piece) (left : List Place) (new now others : List ℕ)
    → IsPutting before all bytes memory places rest → IsFront places (length rest) p left
    → now ≡ take (piece_len p) rest → others ≡ drop (piece_len p) rest → length others + piece_len p ≡ length rest
    → byte_in new ≡ scattered (byte_in memory) (places_of_piece p) now → length new ≡ length memory
    → IsPutting before all bytes new left others
IsPutting-more before all bytes memory places rest p left new now others so_far front first behind sum moved size =
    let e : length rest ≡ piece_len p + length others = omega arith in
    record {
      moved = ap (λ (m : ℕ → ℕ). scattered m left others) moved
          ∙ scattered-front (byte_in memory) places left (length rest) p rest now others front refl first behind ∙ so_far.moved;
      size = size ∙ so_far.size;
      left = drop-front places left (length rest) (length rest) (length others) p front e ∙ so_far.left;
      below =
          let B : ℕ → Type 0 = λ n. AreBelow n left in
          let W : List Place → Type 0 = λ ps. AreBelow (length memory) ps in
          subst B (sym size) (AreBelow-behind (length memory) (places_of_piece p) left (subst W front.whole so_far.below));
    }

-- the pieces of the front are below, too
pub IsFront-below : (size : ℕ) (places left : List Place) (most : ℕ) (p : Piece) → IsFront places most p left
    → AreBelow size places → AreBelow size (places_of_piece p)
IsFront-below size places left most p front each =
    let W : List Place → Type 0 = λ ps. AreBelow size ps in
    AreBelow-front size (places_of_piece p) left (subst W front.whole each)

-- what a loop that takes bytes from a buffer keeps: the first bytes are taken, the places that are left are those behind them
pub record IsFetching (m : ℕ → ℕ) (all : List Place) (whole : ℕ) (out : List ℕ) (places : List Place) (done : ℕ) : Type 0 where
  pub taken : take done out ≡ gathered m (take done all)
  pub len : length out ≡ whole
  pub left : places ≡ drop done all
  pub within : done ≤ whole
  pub enough : whole ≤ length all

-- one more piece
pub IsFetching-more : (m : ℕ → ℕ) (all : List Place) (whole : ℕ) (out : List ℕ) (places : List Place) (done : ℕ)
    (p : Piece) (left : List Place) (most : ℕ) (bytes new : List ℕ)
    → IsFetching m all whole out places done → IsFront places most p left → most ≡ whole - done
    → bytes ≡ gathered m (places_of_piece p) → take (done + piece_len p) new ≡ take done out ++ bytes
    → length new ≡ length out
    → IsFetching m all whole new left (done + piece_len p)
IsFetching-more m all whole out places done p left most bytes new so_far front all_left given begins size =
    let some : piece_len p ≤ whole - done = (let l = front.at_most in omega arith) in
    let within : done ≤ length all = (let w = so_far.within in let e = so_far.enough in omega arith) in
    let n : piece_len p ≡ piece_len p + 0 = omega arith in
    record {
      taken =
          begins
          ∙ ap (λ (xs : List ℕ). xs ++ bytes) so_far.taken
          ∙ ap (λ (xs : List ℕ). gathered m (take done all) ++ xs) given
          ∙ sym (gathered-append m (take done all) (places_of_piece p))
          ∙ ap (gathered m) (take-more all done p left (sym so_far.left ∙ front.whole) within);
      len = size ∙ so_far.len;
      left = drop-front places left most (piece_len p) 0 p front n ∙ ap (drop (piece_len p)) so_far.left ∙ drop-drop-sum all done (piece_len p);
      within = (let w = so_far.within in omega arith);
      enough = so_far.enough;
    }
  where
    -- the first places, and those of the next piece
    take-more : (all : List Place) (done : ℕ) (p : Piece) (left : List Place)
        → drop done all ≡ places_of_piece p ++ left → done ≤ length all
        → take done all ++ places_of_piece p ≡ take (done + piece_len p) all
    take-more all done p left rest within =
        let front : length (take done all) ≡ done = length-take-le done all within in
        let whole : all ≡ take done all ++ (places_of_piece p ++ left) = sym (take-append-drop done all) ∙ ap (λ (ps : List Place). take done all ++ ps) rest in
        let seam : done + piece_len p ≡ length (take done all ++ places_of_piece p) =
        (let a = length-append (take done all) (places_of_piece p) in let b = length-places_of_piece p in omega arith) in
        sym (ap (take (done + piece_len p)) (whole ∙ sym (append_assoc (take done all) (places_of_piece p) left))
        ∙ ap (λ (k : ℕ). take k ((take done all ++ places_of_piece p) ++ left)) seam
        ∙ take-append_seam (take done all ++ places_of_piece p) left)

    drop-drop-sum : (all : List Place) (i j : ℕ) → drop j (drop i all) ≡ drop (i + j) all
    drop-drop-sum all zero j = (let e : zero + j ≡ j = omega arith in ap (λ (k : ℕ). drop k all) (sym e))
    drop-drop-sum [] (suc i) j =
        (let e : suc i + j ≡ suc (i + j) = omega arith in drop-nil j ∙ ap (λ (k : ℕ). drop {A = Place} k []) (sym e))
    drop-drop-sum (a ∷ all) (suc i) j =
        (let e : suc i + j ≡ suc (i + j) = omega arith in drop-drop-sum all i j ∙ ap (λ (k : ℕ). drop k (a ∷ all)) (sym e))
