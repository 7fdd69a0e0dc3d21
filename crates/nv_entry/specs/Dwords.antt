-- An entry that is kept as dwords, read back
use Rattle.std.proofs.Common.{◌≡◌, ℕ, zero, suc, ◌+◌, ◌*◌, ◌^◌, ◌<◌, List, [], ◌∷◌, length, slice_index, refl, ◌∙◌, arith}
use Rattle.std.specs.List.{flat_map}
use Rattle.byteorder.specs.Endian.{little_bytes, little_from}
use Rattle.byteorder.specs.Numbers.{little_number-reads_back}
use Rattle.nv_entry.specs.Layout.{AreDwords, FitDwords, bytes_of_dwords, dwords_from, dword, qword, number_at}

-- the first dword is read back
pub dword-bytes_of_dwords_zero : (d : ℕ) (ds : List ℕ) → d < 2 ^ 32 → dword (bytes_of_dwords (d ∷ ds)) 0 ≡ d
unfolding dword number_at bytes_of_dwords
dword-bytes_of_dwords_zero d ds h = little_number-reads_back 4 d (flat_map (little_bytes 4) ds) h

-- the bytes of a dword in front move the others on
pub dword-bytes_of_dwords_suc : (d : ℕ) (ds : List ℕ) (i : ℕ) → dword (bytes_of_dwords (d ∷ ds)) (suc i) ≡ dword (bytes_of_dwords ds) i
unfolding dword number_at bytes_of_dwords
dword-bytes_of_dwords_suc d ds i =
    let e : 4 * suc i ≡ suc (suc (suc (suc (4 * i)))) = omega arith in
    rw e refl

-- each dword is read back
pub dword-bytes_of_dwords : (ds : List ℕ) (i : ℕ) → ((k : ℕ) → slice_index ds k < 2 ^ 32) → i < length ds → dword (bytes_of_dwords ds) i ≡ slice_index ds i
dword-bytes_of_dwords [] i fit h = absurd (omega arith)
dword-bytes_of_dwords (d ∷ ds) zero fit h = dword-bytes_of_dwords_zero d ds (fit 0)
dword-bytes_of_dwords (d ∷ ds) (suc i) fit h =
    dword-bytes_of_dwords_suc d ds i ∙ dword-bytes_of_dwords ds i (λ k. fit (suc k)) (omega arith)

-- what follows a dword in front is what the others give
pub dwords_from-cons : (i n d : ℕ) (ds : List ℕ) → dwords_from (suc i) n (bytes_of_dwords (d ∷ ds)) ≡ dwords_from i n (bytes_of_dwords ds)
unfolding dwords_from
dwords_from-cons i zero d ds = refl
dwords_from-cons i (suc n) d ds =
    rw (dword-bytes_of_dwords_suc d ds i, dwords_from-cons (suc i) n d ds) refl

-- all dwords are read back
dwords_back_lem : (n : ℕ) (ds : List ℕ) → length ds ≡ n → ((k : ℕ) → slice_index ds k < 2 ^ 32) → dwords_from 0 n (bytes_of_dwords ds) ≡ ds
unfolding dwords_from
dwords_back_lem zero [] e fit = refl
dwords_back_lem zero (d ∷ ds) e fit = absurd (omega arith)
dwords_back_lem (suc n) [] e fit = absurd (omega arith)
dwords_back_lem (suc n) (d ∷ ds) e fit =
    rw (dword-bytes_of_dwords_zero d ds (fit 0), dwords_from-cons 0 n d ds, dwords_back_lem n ds (omega arith) (λ k. fit (suc k))) refl

-- the dwords of an entry's bytes are its dwords
pub dwords_back : (n : ℕ) (ds : List ℕ) → AreDwords n ds → dwords_from 0 n (bytes_of_dwords ds) ≡ ds
dwords_back n ds h = dwords_back_lem n ds h.count h.fit.each

-- eight bytes spell two dwords, the low one first
pub halves : (entry : List ℕ) (i : ℕ) → little_from (4 * i) 8 entry ≡ dword entry i + 2 ^ 32 * dword entry (i + 1)
unfolding dword number_at
halves entry i =
    let e : 4 * (i + 1) ≡ suc (suc (suc (suc (4 * i)))) = omega arith in
    rw e (omega arith)

-- dword i of an entry's bytes is its dword i
pub dword_back : (ds : List ℕ) (i : ℕ) → FitDwords ds → i < length ds → dword (bytes_of_dwords ds) i ≡ slice_index ds i
dword_back ds i fit below = dword-bytes_of_dwords ds i fit.each below

-- dwords i and i + 1 of an entry's bytes, as one number
pub qword_back : (ds : List ℕ) (i : ℕ) → FitDwords ds → i + 1 < length ds → qword (bytes_of_dwords ds) i ≡ slice_index ds i + 2 ^ 32 * slice_index ds (i + 1)
unfolding qword number_at
qword_back ds i fit below =
    let low = dword_back ds i fit (omega arith) in
    let high = dword_back ds (i + 1) fit below in
    halves (bytes_of_dwords ds) i ∙ rw (low, high) refl

-- four numbers that fit 32 bits
pub FitDwords-four : (a b c d : ℕ) → a < 2 ^ 32 → b < 2 ^ 32 → c < 2 ^ 32 → d < 2 ^ 32 → FitDwords (a ∷ b ∷ c ∷ d ∷ [])
FitDwords-four a b c d ha hb hc hd = record { each = each-four a b c d ha hb hc hd }
  where
    each-four : (a b c d : ℕ) → a < 2 ^ 32 → b < 2 ^ 32 → c < 2 ^ 32 → d < 2 ^ 32 → (i : ℕ) → slice_index (a ∷ b ∷ c ∷ d ∷ []) i < 2 ^ 32
    each-four a b c d ha hb hc hd zero = ha
    each-four a b c d ha hb hc hd (suc zero) = hb
    each-four a b c d ha hb hc hd (suc (suc zero)) = hc
    each-four a b c d ha hb hc hd (suc (suc (suc zero))) = hd
    each-four a b c d ha hb hc hd (suc (suc (suc (suc i)))) = omega arith
