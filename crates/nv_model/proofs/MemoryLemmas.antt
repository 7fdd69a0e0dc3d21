-- Memory as a function: what bytes read, gathered, stored and scattered are to each other, and to a memory that is a list of bytes
use Rattle.std.proofs.Common.{◌≡◌, ℕ, zero, suc, ◌+◌, ◌-◌, ◌<◌, ◌≤◌, ◌⊎◌, List, [], ◌∷◌, ◌++◌}
use Rattle.std.proofs.Common.{length, slice_index, get_or, take, drop, replicate, refl, sym, ap, ◌∙◌, arith, drop-cons, inl, inr}
use Rattle.std.proofs.lemmas.Bool.{cases_lt}
use mathlib.Core.Path.{fun_ext}
use Rattle.std.proofs.lemmas.Bool.Decides.{nat_tests}
use Rattle.nv_mem.specs.Bytes.{InMemory, after_store}
use Rattle.nv_mem.proofs.Memory.{get_or-after_store, get_or-after_store_other}
use Rattle.nv_mem.specs.Places.{Place, At, Bucket, addresses}
use Rattle.nv_model.specs.Memory.{byte_at_place, bytes_from, gathered, scattered, stored}

-- gathering from places one after another
pub gathered-append : (m : ℕ → ℕ) (xs ys : List Place) → gathered m (xs ++ ys) ≡ gathered m xs ++ gathered m ys
unfolding gathered
gathered-append m [] ys = refl
gathered-append m (x ∷ xs) ys = ap (λ (bytes : List ℕ). byte_at_place m x ∷ bytes) (gathered-append m xs ys)

-- as many bytes as places
pub length-gathered : (m : ℕ → ℕ) (xs : List Place) → length (gathered m xs) ≡ length xs
unfolding gathered
length-gathered m [] = refl
length-gathered m (x ∷ xs) = ap suc (length-gathered m xs)

-- gathering from consecutive addresses
pub gathered-addresses : (m : ℕ → ℕ) (addr n : ℕ) → gathered m (addresses addr n) ≡ bytes_from m addr n
unfolding gathered addresses bytes_from
gathered-addresses m addr zero = refl
gathered-addresses m addr (suc n) =
    let rest = gathered-addresses m (suc addr) n in
    let e : addr + 1 ≡ suc addr = omega arith in
    rw e (ap (λ (bytes : List ℕ). m addr ∷ bytes) rest)

-- scattering to places one after another
pub scattered-append : (m : ℕ → ℕ) (xs ys : List Place) (bs cs : List ℕ) → length xs ≡ length bs
    → scattered m (xs ++ ys) (bs ++ cs) ≡ scattered (scattered m xs bs) ys cs
unfolding scattered
scattered-append m [] ys [] cs e = refl
scattered-append m [] ys (b ∷ bs) cs e = absurd (omega arith)
scattered-append m (x ∷ xs) ys [] cs e = absurd (omega arith)
scattered-append m (At addr ∷ xs) ys (b ∷ bs) cs e =
    scattered-append (stored m addr (b ∷ [])) xs ys bs cs (omega arith)
scattered-append m (Bucket ∷ xs) ys (b ∷ bs) cs e = scattered-append m xs ys bs cs (omega arith)

-- a byte in front, and then the others behind it, at each address
stored-cons_at : (m : ℕ → ℕ) (addr b : ℕ) (bs : List ℕ) (at : ℕ)
    → stored (stored m addr (b ∷ [])) (suc addr) bs at ≡ stored m addr (b ∷ bs) at
unfolding stored
stored-cons_at m addr b bs at = grind (arith, nat_tests, get_or_front b bs)
  where
    get_or_front : (b : ℕ) (bs : List ℕ) (k : ℕ) → 0 < k → get_or (b ∷ bs) k 0 ≡ get_or bs (k - 1) 0
    get_or_front b bs zero h = absurd (omega arith)
    get_or_front b bs (suc k) h = ap (λ (n : ℕ). get_or bs n 0) (omega arith)

pub stored-cons : (m : ℕ → ℕ) (addr b : ℕ) (bs : List ℕ) → stored (stored m addr (b ∷ [])) (suc addr) bs ≡ stored m addr (b ∷ bs)
stored-cons m addr b bs = fun_ext (stored-cons_at m addr b bs)

-- nothing is stored
stored-nil_at : (m : ℕ → ℕ) (addr at : ℕ) → stored m addr [] at ≡ m at
unfolding stored
stored-nil_at m addr at = grind (arith, nat_tests)

pub stored-nil : (m : ℕ → ℕ) (addr : ℕ) → stored m addr [] ≡ m
stored-nil m addr = fun_ext (stored-nil_at m addr)

-- scattering to consecutive addresses is storing
pub scattered-addresses : (m : ℕ → ℕ) (addr : ℕ) (bytes : List ℕ)
    → scattered m (addresses addr (length bytes)) bytes ≡ stored m addr bytes
unfolding scattered addresses
scattered-addresses m addr [] = sym (stored-nil m addr)
scattered-addresses m addr (b ∷ bs) =
    let e : addr + 1 ≡ suc addr = omega arith in
    rw e (scattered-addresses (stored m addr (b ∷ [])) (suc addr) bs ∙ stored-cons m addr b bs)

-- buckets discard their bytes
pub scattered-buckets : (m : ℕ → ℕ) (n : ℕ) (bytes : List ℕ) → scattered m (replicate n Bucket) bytes ≡ m
unfolding scattered
scattered-buckets m zero bytes = refl
scattered-buckets m (suc n) [] = refl
scattered-buckets m (suc n) (b ∷ bs) = scattered-buckets m n bs

-- ---- a memory that is a list of bytes

-- reading consecutive bytes of a list
pub bytes_from-list : (memory : List ℕ) (addr n : ℕ) → addr + n ≤ length memory
    → bytes_from (λ a. slice_index memory a) addr n ≡ take n (drop addr memory)
unfolding bytes_from
bytes_from-list memory addr zero h = refl
bytes_from-list memory addr (suc n) h =
    let below : addr < length memory = omega arith in
    let rest = bytes_from-list memory (suc addr) n (omega arith) in
    rw (drop-cons memory addr 0) (ap (λ (bytes : List ℕ). slice_index memory addr ∷ bytes) rest)

-- storing in a list, at each address
stored-list_at : (memory : List ℕ) (addr : ℕ) (bytes : List ℕ) → addr + length bytes ≤ length memory → (at : ℕ)
    → stored (λ a. slice_index memory a) addr bytes at ≡ slice_index (after_store memory addr bytes) at
unfolding stored
stored-list_at memory addr bytes h at =
    let inside : InMemory (length memory) addr (length bytes) = λ _. h in
    elim (cases_lt at addr) [
      | inl low ↦
          let other = get_or-after_store_other memory bytes addr at 0 inside (inl low) in
          grind (arith, nat_tests, other)
      | inr behind ↦ elim (cases_lt at (addr + length bytes)) [
        | inl within ↦
            let e : addr + (at - addr) ≡ at = omega arith in
            let here = get_or-after_store memory bytes addr (at - addr) inside (omega arith) in
            let moved = rw e at here in
            grind (arith, nat_tests, moved)
        | inr past ↦
            let other = get_or-after_store_other memory bytes addr at 0 inside (inr past) in
            grind (arith, nat_tests, other)
      ]
    ]

pub stored-list : (memory : List ℕ) (addr : ℕ) (bytes : List ℕ) → addr + length bytes ≤ length memory
    → stored (λ a. slice_index memory a) addr bytes ≡ (λ a. slice_index (after_store memory addr bytes) a)
stored-list memory addr bytes h = fun_ext (stored-list_at memory addr bytes h)

-- ---- what was stored is read back

bytes_from-each : (memory : ℕ → ℕ) (addr : ℕ) (bytes : List ℕ)
    → ((i : ℕ) → i < length bytes → memory (addr + i) ≡ slice_index bytes i)
    → bytes_from memory addr (length bytes) ≡ bytes
unfolding bytes_from
bytes_from-each memory addr [] each = refl
bytes_from-each memory addr (byte ∷ bytes) each =
    let here : addr + 0 ≡ addr = omega arith in
    let first : memory addr ≡ byte = ap memory (sym here) ∙ each 0 (omega arith) in
    rw (
      first,
      bytes_from-each memory (suc addr) bytes
          (λ i below. let next : suc addr + i ≡ addr + suc i = omega arith in ap memory next ∙ each (suc i) (omega arith)),
    ) refl

stored-at_offset : (memory : ℕ → ℕ) (addr : ℕ) (bytes : List ℕ) (i : ℕ) → i < length bytes
    → stored memory addr bytes (addr + i) ≡ slice_index bytes i
unfolding stored
stored-at_offset memory addr bytes i below =
    let offset : addr + i - addr ≡ i = omega arith in
    let same = ap (λ (n : ℕ). slice_index bytes n) offset in
    grind (arith, nat_tests, same)

-- bytes that are stored are read back from where they were stored
pub bytes_from-stored : (memory : ℕ → ℕ) (addr : ℕ) (bytes : List ℕ) → bytes_from (stored memory addr bytes) addr (length bytes) ≡ bytes
bytes_from-stored memory addr bytes = bytes_from-each (stored memory addr bytes) addr bytes (stored-at_offset memory addr bytes)

-- ---- stretches one behind the other

-- a byte among those that are stored
pub stored-inside : (m : ℕ → ℕ) (addr : ℕ) (bytes : List ℕ) (at : ℕ) → addr ≤ at → at < addr + length bytes → stored m addr bytes at ≡ slice_index bytes (at - addr)
unfolding stored
stored-inside m addr bytes at low high = grind (arith, nat_tests)

-- and one that isn't
pub stored-outside : (m : ℕ → ℕ) (addr : ℕ) (bytes : List ℕ) (at : ℕ) → (at < addr) ⊎ (addr + length bytes ≤ at) → stored m addr bytes at ≡ m at
unfolding stored
stored-outside m addr bytes at (inl low) = grind (arith, nat_tests)
stored-outside m addr bytes at (inr high) = grind (arith, nat_tests)

-- bytes stored one behind the other
pub stored-append : (m : ℕ → ℕ) (addr : ℕ) (xs ys : List ℕ) → stored (stored m addr xs) (addr + length xs) ys ≡ stored m addr (xs ++ ys)
stored-append m addr [] ys =
    let e : addr + 0 ≡ addr = omega arith in
    ap (λ (a : ℕ). stored (stored m addr []) a ys) e ∙ ap (λ (h : ℕ → ℕ). stored h addr ys) (stored-nil m addr)
stored-append m addr (x ∷ xs) ys =
    let e : addr + suc (length xs) ≡ suc addr + length xs = omega arith in
    ap (λ (a : ℕ). stored (stored m addr (x ∷ xs)) a ys) e
    ∙ ap (λ (h : ℕ → ℕ). stored h (suc addr + length xs) ys) (sym (stored-cons m addr x xs))
    ∙ stored-append (stored m addr (x ∷ [])) (suc addr) xs ys
    ∙ stored-cons m addr x (xs ++ ys)

-- two stretches one behind the other
pub bytes_from-append : (m : ℕ → ℕ) (addr n k : ℕ) → bytes_from m addr (n + k) ≡ bytes_from m addr n ++ bytes_from m (addr + n) k
unfolding bytes_from
bytes_from-append m addr zero k =
    let none : zero + k ≡ k = omega arith in
    let same : addr ≡ addr + zero = omega arith in
    ap (bytes_from m addr) none ∙ ap (λ (a : ℕ). bytes_from m a k) same
bytes_from-append m addr (suc n) k =
    let more : suc n + k ≡ suc (n + k) = omega arith in
    let e : suc addr + n ≡ addr + suc n = omega arith in
    ap (bytes_from m addr) more
    ∙ ap (λ (bytes : List ℕ). m addr ∷ bytes) (bytes_from-append m (suc addr) n k ∙ ap (λ (a : ℕ). bytes_from m (suc addr) n ++ bytes_from m a k) e)

-- stretches of two memories that are the same byte by byte
pub bytes_from-same : (f g : ℕ → ℕ) (a b n : ℕ) → ((i : ℕ) → i < n → f (a + i) ≡ g (b + i)) → bytes_from f a n ≡ bytes_from g b n
unfolding bytes_from
bytes_from-same f g a b zero each = refl
bytes_from-same f g a b (suc n) each =
    let from : a ≡ a + 0 = omega arith in
    let to : b + 0 ≡ b = omega arith in
    let first : f a ≡ g b = ap f from ∙ each 0 (omega arith) ∙ ap g to in
    let rest = bytes_from-same f g (suc a) (suc b) n (λ i below.
    let from : suc a + i ≡ a + suc i = omega arith in
    let to : b + suc i ≡ suc b + i = omega arith in
    ap f from ∙ each (suc i) (omega arith) ∙ ap g to) in
    rw (first, rest) refl
