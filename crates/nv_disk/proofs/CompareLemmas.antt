-- Bytes that are compared, part by part
use Rattle.std.proofs.Common.{◌≡◌, ℕ, suc, ◌+◌, ◌≤◌, Bool, true, false, true≢false, not, ◌||◌}
use Rattle.std.proofs.Common.{◌&&◌, ◌==◌, ◌↔◌, IsTrue, nat_eq, List, [], ◌∷◌, ◌++◌, length}
use Rattle.std.proofs.Common.{take, drop, replicate, refl, sym, ap, subst, ◌∙◌, arith}
use Rattle.std.proofs.lemmas.Bool.Decides.{nat_tests}
use lib.Pointwise.{bytes_decides, pointwise}
use Rattle.std.specs.List.{list_any}
use Rattle.std.proofs.lemmas.List.{length-take-le, take-append-drop, length-append}
use Rattle.nv_mem.specs.Places.{Place, places_of_piece, piece_len}
use Rattle.nv_mem.specs.declared.piece.Piece.{Piece}
use Rattle.nv_mem.proofs.PlaceLists.{length-places_of_piece}
use Rattle.nv_model.specs.Memory.{gathered}
use Rattle.nv_model.specs.Private.{differs}
use Rattle.nv_model.proofs.MemoryLemmas.{gathered-append, length-gathered}
use Rattle.nv_disk.specs.Buffer.{AreBelow, IsFront}
use Rattle.nv_disk.proofs.BufferLemmas.{AreBelow-behind, drop-front}

-- one of three
pub or-assoc : (a b c : Bool) → (a || (b || c)) ≡ ((a || b) || c)
or-assoc true b c = refl
or-assoc false b c = refl

-- lists in two parts differ where one of their parts does
pub differs-append : (xs us ys vs : List ℕ) → length xs ≡ length us
    → differs (xs ++ ys) (us ++ vs) ≡ (differs xs us || differs ys vs)
unfolding differs
differs-append [] [] ys vs e = refl
differs-append [] (u ∷ us) ys vs e = absurd (omega arith)
differs-append (x ∷ xs) [] ys vs e = absurd (omega arith)
differs-append (x ∷ xs) (u ∷ us) ys vs e =
    ap (λ (b : Bool). not (x == u) || b) (differs-append xs us ys vs (omega arith))
    ∙ or-assoc (not (x == u)) (differs xs us) (differs ys vs)

-- two lists of bytes differ where they are not equal byte by byte
differs-pointwise : (xs ys : List ℕ) → differs xs ys ≡ not (pointwise nat_eq xs ys)
unfolding differs
differs-pointwise [] [] = refl
differs-pointwise [] (y ∷ ys) = refl
differs-pointwise (x ∷ xs) [] = refl
differs-pointwise (x ∷ xs) (y ∷ ys) =
    ap (λ (b : Bool). not (x == y) || b) (differs-pointwise xs ys) ∙ not-and (x == y) (pointwise nat_eq xs ys)
  where
    not-and : (a b : Bool) → not a || not b ≡ not (a && b)
    not-and true b = refl
    not-and false b = refl

-- what tells whether they are equal tells whether they differ
pub differs-told : (xs ys : List ℕ) (same : Bool) → (IsTrue same ↔ (xs ≡ ys)) → not same ≡ differs xs ys
differs-told xs ys same told = told-not same (pointwise nat_eq xs ys) (λ t. (bytes_decides xs ys).1 (told.0 t)) (λ t. told.1 ((bytes_decides xs ys).0 t))
    ∙ sym (differs-pointwise xs ys)
  where
    told-not : (a b : Bool) → (a ≡ true → b ≡ true) → (b ≡ true → a ≡ true) → not a ≡ not b
    told-not true true there back = refl
    told-not false false there back = refl
    told-not true false there back = absurd (true≢false (sym (there refl)))
    told-not false true there back = absurd (true≢false (sym (back refl)))

-- bytes other than zeros
pub differs-zeros : (bytes : List ℕ) → differs (replicate (length bytes) 0) bytes ≡ list_any (λ b. not (b == 0)) bytes
unfolding differs
differs-zeros [] = refl
differs-zeros (b ∷ bytes) =
    let turned : (0 == b) ≡ (b == 0) = grind (arith, nat_tests) in
    ap (λ (t : Bool). not t || differs (replicate (length bytes) 0) bytes) turned ∙ ap (λ (t : Bool). not (b == 0) || t) (differs-zeros bytes)

-- the first places of a piece and of those behind it
take-piece : (p : Piece) (left : List Place) (k : ℕ)
    → take (piece_len p + k) (places_of_piece p ++ left) ≡ places_of_piece p ++ take k left
take-piece p left k =
    ap (λ (n : ℕ). take (n + k) (places_of_piece p ++ left)) (sym (length-places_of_piece p)) ∙ over (places_of_piece p)
  where
    over : (front : List Place) → take (length front + k) (front ++ left) ≡ front ++ take k left
    over [] = (let e : 0 + k ≡ k = omega arith in ap (λ (n : ℕ). take n left) e)
    over (place ∷ front) =
        (let e : suc (length front) + k ≡ suc (length front + k) = omega arith in ap (λ (n : ℕ). take n (place ∷ front ++ left)) e ∙ ap (λ (ps : List Place). place ∷ ps) (over front))

-- what a loop that compares bytes with those of a buffer keeps: whether what was compared differs, or what is left, is whether the whole does
pub record IsComparing (size : ℕ) (m : ℕ → ℕ) (all : List Place) (bytes : List ℕ) (places : List Place) (rest : List ℕ) (differed : Bool) : Type 0 where
  pub value : (differed || differs (gathered m (take (length rest) places)) rest) ≡ differs (gathered m (take (length bytes) all)) bytes
  pub left : drop (length rest) places ≡ drop (length bytes) all
  pub below : AreBelow size places
  pub enough : length rest ≤ length places

-- one more piece
pub IsComparing-more : (size : ℕ) (m : ℕ → ℕ) (all : List Place) (bytes : List ℕ) (places : List Place) (rest : List ℕ) (differed : Bool)
    (p : Piece) (left : List Place) (now others : List ℕ) (new : Bool)
    → IsComparing size m all bytes places rest differed → IsFront places (length rest) p left
    → now ≡ take (piece_len p) rest → others ≡ drop (piece_len p) rest → length others + piece_len p ≡ length rest
    → new ≡ (differed || differs (gathered m (places_of_piece p)) now)
    → IsComparing size m all bytes left others new
IsComparing-more size m all bytes places rest differed p left now others new so_far front first behind sum is =
    let e : length rest ≡ piece_len p + length others = omega arith in
    let len : length (gathered m (places_of_piece p)) ≡ length now =
    length-gathered m (places_of_piece p) ∙ length-places_of_piece p
    ∙ sym (ap length first ∙ length-take-le (piece_len p) rest (omega arith)) in
    let joined : rest ≡ now ++ others =
    sym (ap (λ (xs : List ℕ). xs ++ others) first ∙ ap (λ (xs : List ℕ). take (piece_len p) rest ++ xs) behind ∙ take-append-drop (piece_len p) rest) in
    let places_so : take (length rest) places ≡ places_of_piece p ++ take (length others) left =
    ap (λ (ps : List Place). take (length rest) ps) front.whole ∙ ap (λ (n : ℕ). take n (places_of_piece p ++ left)) e
    ∙ take-piece p left (length others) in
    let split : differs (gathered m (take (length rest) places)) rest ≡ (differs (gathered m (places_of_piece p)) now || differs (gathered m (take (length others) left)) others) =
    ap (λ (ps : List Place). differs (gathered m ps) rest) places_so
    ∙ ap (λ (l : List ℕ). differs l rest) (gathered-append m (places_of_piece p) (take (length others) left))
    ∙ ap (differs (gathered m (places_of_piece p) ++ gathered m (take (length others) left))) joined
    ∙ differs-append (gathered m (places_of_piece p)) now (gathered m (take (length others) left)) others len in
    record {
      value =
          ap (λ (b : Bool). b || differs (gathered m (take (length others) left)) others) is
          ∙ sym (or-assoc differed (differs (gathered m (places_of_piece p)) now) (differs (gathered m (take (length others) left)) others))
          ∙ ap (λ (b : Bool). differed || b) (sym split)
          ∙ so_far.value;
      left = drop-front places left (length rest) (length rest) (length others) p front e ∙ so_far.left;
      below =
          let W : List Place → Type 0 = λ ps. AreBelow size ps in
          AreBelow-behind size (places_of_piece p) left (subst W front.whole so_far.below);
      enough = length-left (places_of_piece p) left places (length others) front.whole (let l = length-places_of_piece p in let w = so_far.enough in omega arith);
    }
  where
    length-left : (front left places : List Place) (k : ℕ) → places ≡ front ++ left → length front + k ≤ length places
        → k ≤ length left
    length-left front left places k is le = (let l = ap length is in let s = length-append front left in omega arith)

-- behind the last byte
pub IsComparing-end : (size : ℕ) (m : ℕ → ℕ) (all : List Place) (bytes : List ℕ) (places : List Place) (rest : List ℕ) (differed : Bool)
    → IsComparing size m all bytes places rest differed → length rest ≡ 0
    → differed ≡ differs (gathered m (take (length bytes) all)) bytes
unfolding differs gathered
IsComparing-end size m all bytes places [] differed so_far none = or-none differed ∙ so_far.value
  where
    or-none : (b : Bool) → b ≡ (b || false)
    or-none true = refl
    or-none false = refl
IsComparing-end size m all bytes places (b ∷ rest) differed so_far none = absurd (omega arith)
