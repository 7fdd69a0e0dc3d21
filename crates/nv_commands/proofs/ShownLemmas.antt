-- Bytes moved in chunks, and lines shown one after another
use Rattle.std.proofs.Common.{◌≡◌, ℕ, ◌+◌, ◌≤◌, Bool, List, [], ◌∷◌, ◌++◌, length, take, drop, refl, sym, ap, ◌∙◌, arith, append_assoc, subst}
use Rattle.std.proofs.lemmas.List.{length-append, length-take, drop-drop, append-nil}
use Rattle.std.proofs.Math.Seq.{take-add, take-append_seam, drop-append-add}
use Rattle.nv_mem.specs.Bytes.{after_store, bytes_at}
use Rattle.nv_disk.specs.Flat.{Flat}
use Rattle.nv_once_script.specs.OnceLine.{LineValue}
use Rattle.nv_commands.specs.Shown.{AreShown, IsShown}

-- ---- chunks

-- bytes are those of their parts
pub bytes_at-append : (memory : List ℕ) (addr n k : ℕ)
    → bytes_at memory addr (n + k) ≡ bytes_at memory addr n ++ bytes_at memory (addr + n) k
bytes_at-append memory addr n k =
    take-add n k (drop addr memory) ∙ ap (λ xs. take n (drop addr memory) ++ take k xs) (drop-drop n addr memory)

-- bytes stored behind bytes that were stored
pub after_store-append : (memory xs ys : List ℕ) (addr : ℕ) → addr + length xs ≤ length memory
    → after_store (after_store memory addr xs) (addr + length xs) ys ≡ after_store memory addr (xs ++ ys)
after_store-append memory xs ys addr inside =
    let front : List ℕ = take addr memory ++ xs in
    let back : List ℕ = drop (addr + length xs) memory in
    let seam : length front ≡ addr + length xs = simp (length-append, length-take) (omega arith) in
    let kept : take (addr + length xs) (front ++ back) ≡ front = subst (λ n. take n (front ++ back) ≡ front) seam (take-append_seam front back) in
    let rest : drop (addr + length xs + length ys) (front ++ back) ≡ drop (addr + length (xs ++ ys)) memory =
    let sum : addr + length xs + length ys ≡ addr + length (xs ++ ys) = simp length-append (omega arith) in
    ap (λ n. drop (n + length ys) (front ++ back)) (sym seam) ∙ drop-append-add front back (length ys)
    ∙ drop-drop (length ys) (addr + length xs) memory
    ∙ ap (λ n. drop n memory) sum
    in
    ap (λ zs. zs ++ ys ++ drop (addr + length xs + length ys) (front ++ back)) kept
    ∙ ap (λ zs. front ++ ys ++ zs) rest
    ∙ ap (λ zs. zs ++ drop (addr + length (xs ++ ys)) memory) (append_assoc (take addr memory) xs ys)

-- ---- lines

-- one more line behind lines
pub AreShown-then : (built : List ℕ → Bool) (first between last : Flat) (lines : List LineValue) (line : LineValue) (xs ys : List ℕ)
    → AreShown built first lines xs between → IsShown built between line ys last
    → AreShown built first (lines ++ line ∷ []) (xs ++ ys) last
unfolding AreShown
AreShown-then built first between last [] line xs ys (none, same) one =
    (ys, [], last, subst (λ c. IsShown built c line ys last) same one, (refl, refl), ap (λ zs. zs ++ ys) none ∙ sym (append-nil ys))
AreShown-then built first between last (l ∷ lines) line xs ys (front, back, next, here, more, whole) one =
    (front, back ++ ys, next, here, AreShown-then built next between last lines line back ys more one, ap (λ zs. zs ++ ys) whole ∙ append_assoc front back ys)
