-- Blocks that are moved or compared row by row
use Rattle.std.proofs.Common.{◌≡◌, ℕ, zero, suc, ◌+◌, ◌-◌, ◌*◌, ◌≤◌, Bool, false, ◌||◌, List, [], ◌++◌, length, take, drop, refl, sym, ap, ◌∙◌, arith}
use Rattle.std.proofs.lemmas.List.{drop-drop, length-take-le, take-append-drop}
use Rattle.std.proofs.Math.Seq.{take-add}
use Rattle.std.proofs.lemmas.Grind.{flat_map-append}
use Rattle.nv_mem.specs.Places.{Place}
use Rattle.nv_model.specs.Memory.{gathered, scattered}
use Rattle.nv_model.proofs.MemoryLemmas.{gathered-append, length-gathered, scattered-append}
use Rattle.nv_model.specs.Private.{differs}
use Rattle.nv_disk.proofs.BufferLemmas.{scattered-no_bytes, scattered-take}
use Rattle.nv_disk.proofs.CompareLemmas.{differs-append}
use Rattle.nv_disk.specs.Flat.{joined}

-- rows that stand one behind the other
joined-append : (xs ys : List (List ℕ)) → joined (xs ++ ys) ≡ joined xs ++ joined ys
joined-append xs ys = flat_map-append (λ (x : List ℕ). x) xs ys

-- the first row, and what is behind it
joined-rows : (disk : List (List ℕ)) (at left n : ℕ) → n ≤ left → joined (take left (drop at disk)) ≡ joined (take n (drop at disk)) ++ joined (take (left - n) (drop (at + n) disk))
joined-rows disk at left n within =
    let sum : left ≡ n + (left - n) = omega arith in
    ap (λ (k : ℕ). joined (take k (drop at disk))) sum
    ∙ ap joined (take-add n (left - n) (drop at disk))
    ∙ joined-append (take n (drop at disk)) (take (left - n) (drop n (drop at disk)))
    ∙ ap (λ (bs : List (List ℕ)). joined (take n (drop at disk)) ++ joined (take (left - n) bs)) (drop-drop n at disk)

-- a row is given to the first places, and what is behind it to those behind
pub put-row : (m n : ℕ → ℕ) (places left : List Place) (disk : List (List ℕ)) (at count k : ℕ) (bytes : List ℕ) → k ≤ count
    → bytes ≡ joined (take k (drop at disk)) → length bytes ≤ length places → n ≡ scattered m places bytes → left ≡ drop (length bytes) places
    → scattered n left (joined (take (count - k) (drop (at + k) disk))) ≡ scattered m places (joined (take count (drop at disk)))
put-row m n places left disk at count k bytes within are enough put rest =
    let behind : List ℕ = joined (take (count - k) (drop (at + k) disk)) in
    ap (λ (f : ℕ → ℕ). scattered f left behind) put
    ∙ ap (λ (ps : List Place). scattered (scattered m places bytes) ps behind) rest
    ∙ ap (λ (f : ℕ → ℕ). scattered f (drop (length bytes) places) behind) (sym (scattered-take m (length bytes) places bytes refl))
    ∙ sym (scattered-append m (take (length bytes) places) (drop (length bytes) places) bytes behind (length-take-le (length bytes) places enough))
    ∙ ap (λ (ps : List Place). scattered m ps (bytes ++ behind)) (take-append-drop (length bytes) places)
    ∙ ap (λ (bs : List ℕ). scattered m places (bs ++ behind)) are
    ∙ ap (scattered m places) (sym (joined-rows disk at count k within))

-- a row is compared with the first places, and what is behind it with those behind
pub compare-row : (m : ℕ → ℕ) (places left : List Place) (disk : List (List ℕ)) (at count k : ℕ) (bytes : List ℕ) (unlike : Bool) → k ≤ count
    → bytes ≡ joined (take k (drop at disk)) → length bytes ≡ 512 * k → 512 * count ≤ length places
    → unlike ≡ differs (gathered m (take (length bytes) places)) bytes → left ≡ drop (length bytes) places
    → (unlike || differs (gathered m (take (512 * (count - k)) left)) (joined (take (count - k) (drop (at + k) disk))))
    ≡ differs (gathered m (take (512 * count) places)) (joined (take count (drop at disk)))
compare-row m places left disk at count k bytes unlike within are sized enough told rest =
    let behind : List ℕ = joined (take (count - k) (drop (at + k) disk)) in
    let first : List ℕ = gathered m (take (length bytes) places) in
    let more : List ℕ = gathered m (take (512 * (count - k)) (drop (length bytes) places)) in
    let len : length first ≡ length bytes = length-gathered m (take (length bytes) places) ∙ length-take-le (length bytes) places (omega arith) in
    let sum : length bytes + 512 * (count - k) ≡ 512 * count = omega arith in
    let all : first ++ more ≡ gathered m (take (512 * count) places) =
    sym (gathered-append m (take (length bytes) places) (take (512 * (count - k)) (drop (length bytes) places)))
    ∙ ap (gathered m) (sym (take-add (length bytes) (512 * (count - k)) places) ∙ ap (λ (n : ℕ). take n places) sum) in
    ap (λ (ps : List Place). unlike || differs (gathered m (take (512 * (count - k)) ps)) behind) rest
    ∙ ap (λ (b : Bool). b || differs more behind) told
    ∙ sym (differs-append first bytes more behind len)
    ∙ ap (λ (l : List ℕ). differs l (bytes ++ behind)) all
    ∙ ap (λ (bs : List ℕ). differs (gathered m (take (512 * count) places)) (bs ++ behind)) are
    ∙ ap (differs (gathered m (take (512 * count) places))) (sym (joined-rows disk at count k within))

-- as many bytes as blocks in a row
pub row-bytes : (n k : ℕ) → n ≡ k * 512 → n ≡ 512 * k
row-bytes n k is = omega arith

-- behind the last row
pub put-end : (m done : ℕ → ℕ) (places : List Place) (left : ℕ) (blocks : List (List ℕ)) → left ≤ 0 → scattered m places (joined (take left blocks)) ≡ done → m ≡ done
put-end m done places zero blocks none so_far = sym (scattered-no_bytes m places [] refl) ∙ so_far
put-end m done places (suc left) blocks none so_far = absurd (omega arith)

pub compare-end : (m : ℕ → ℕ) (places : List Place) (left : ℕ) (blocks : List (List ℕ)) (done : Bool) → left ≤ 0
    → differs (gathered m (take (512 * left) places)) (joined (take left blocks)) ≡ done → false ≡ done
unfolding differs gathered
compare-end m places zero blocks done none so_far = so_far
compare-end m places (suc left) blocks done none so_far = absurd (omega arith)
