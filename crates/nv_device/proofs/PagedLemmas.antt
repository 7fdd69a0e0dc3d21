-- Pieces of which all between the first and the last are pages
use Rattle.std.proofs.Common.{◌≡◌, ℕ, zero, suc, ◌+◌, ◌-◌, ◌*◌, ◌≤◌, ◌<◌, List, [], ◌∷◌, ◌++◌, length, take, drop, refl, sym, ap, ◌∙◌, arith}
use Rattle.std.specs.Prelude.{All}
use Rattle.std.proofs.lemmas.List.Elements.{All-append, All-head, All-tail, All-cons, All-nil}
use Rattle.std.proofs.lemmas.List.{drop-drop, length-append}
use Rattle.nv_mem.specs.Places.{piece_len, places_of, places_of_piece}
use Rattle.nv_mem.specs.declared.piece.Piece.{Piece}
use Rattle.nv_disk.specs.Buffer.{AreBelow}
use Rattle.nv_disk.proofs.BufferLemmas.{AreBelow-behind, skip-piece}
use Rattle.nv_device.specs.Pages.{ArePaged, IsPage}

-- ---- one more piece

-- the front of pages with one piece more behind them is pages
front : (rest : List Piece) (p : Piece) (k : ℕ) → k ≤ length rest → All IsPage rest → All IsPage (take k (rest ++ p ∷ []))
front rest p zero le each = All-nil IsPage
front [] p (suc k) le each = absurd (omega arith)
front (q ∷ rest) p (suc k) le each =
    All-cons IsPage q (take k (rest ++ p ∷ [])) (All-head IsPage q rest each) (front rest p k (omega arith) (All-tail IsPage q rest each))

-- behind the first piece and pages any piece may stand
pub paged-push : (pieces : List Piece) (p : Piece) → 0 < length pieces → All IsPage (drop 1 pieces) → ArePaged (pieces ++ p ∷ [])
paged-push [] p some each = absurd (omega arith)
paged-push (q ∷ rest) p some each = λ k more. front rest p k (let n = length-append rest (p ∷ []) in omega arith) each

-- and a page behind them is one of the pages
pub pages-push : (pieces : List Piece) (p : Piece) → 0 < length pieces → All IsPage (drop 1 pieces) → IsPage p
    → All IsPage (drop 1 (pieces ++ p ∷ []))
pages-push [] p some each is = absurd (omega arith)
pages-push (q ∷ rest) p some each is = All-append IsPage rest (p ∷ []) each (All-cons IsPage p [] is (All-nil IsPage))

-- behind one piece alone there are no pages
pub pages-none : (pieces : List Piece) → length pieces ≡ 1 → All IsPage (drop 1 pieces)
pages-none [] one = absurd (omega arith)
pages-none (q ∷ []) one = All-nil IsPage
pages-none (q ∷ r ∷ rest) one = absurd (omega arith)

pub paged-few : (pieces : List Piece) → length pieces ≤ 1 → ArePaged pieces
paged-few pieces few = λ k more. absurd (omega arith)

-- ---- the place of a byte

-- behind so many pages
behind-pages : (k : ℕ) (rest : List Piece) → All IsPage (take k rest) → k ≤ length rest → drop (4096 * k) (places_of rest) ≡ places_of (drop k rest)
behind-pages zero rest each le = refl
behind-pages (suc k) [] each le = absurd (omega arith)
behind-pages (suc k) (q ∷ rest) each le =
    let is : piece_len q ≡ 4096 = All-head IsPage q (take k rest) each in
    let less : 4096 * suc k - piece_len q ≡ 4096 * k = omega arith in
    skip-piece q (places_of rest) (4096 * suc k) (omega arith)
    ∙ ap (λ (n : ℕ). drop n (places_of rest)) less
    ∙ behind-pages k rest (All-tail IsPage q (take k rest) each) (omega arith)

-- behind the first piece, so many pages, and so many bytes more
pub place-behind : (first : Piece) (rest : List Piece) (count k left : ℕ) → piece_len first ≤ count → 4096 * k + left ≡ count - piece_len first
    → All IsPage (take k rest) → k ≤ length rest → drop left (places_of (drop (1 + k) (first ∷ rest))) ≡ drop count (places_of (first ∷ rest))
place-behind first rest count k left fits is each le =
    let next : 1 + k ≡ suc k = omega arith in
    ap (λ (n : ℕ). drop left (places_of (drop n (first ∷ rest)))) next
    ∙ ap (drop left) (sym (behind-pages k rest each le))
    ∙ drop-drop left (4096 * k) (places_of rest)
    ∙ ap (λ (n : ℕ). drop n (places_of rest)) is
    ∙ sym (skip-piece first (places_of rest) count fits)

-- what is below a size is so behind some pieces
pub below-behind : (size k : ℕ) (pieces : List Piece) → AreBelow size (places_of pieces) → AreBelow size (places_of (drop k pieces))
below-behind size zero pieces each = each
below-behind size (suc k) [] each = each
below-behind size (suc k) (q ∷ rest) each = below-behind size k rest (AreBelow-behind size (places_of_piece q) (places_of rest) each)
