-- The first so many members of a list that pass a test become another.
use Rattle.std.proofs.Common.{◌≡◌, ℕ, zero, suc, ◌≤◌, ◌⊎◌, inl, inr, Bool, true, false, cond, List, [], ◌∷◌, filter, length, map, replicate}
use Rattle.std.proofs.Common.{slice_get, take, Some, arith, refl, sym, ap, ◌∙◌}
use Rattle.nv_world_model.specs.World.{lowest}
use Rattle.nv_laws_sound.proofs.Numbers.{numbers-length, numbers_where, puts, puts-suc}

abbrev pub filled : {X : Type 0} → (X → Bool) → ℕ → X → List X → List X
filled p zero v xs = xs
filled p (suc n) v [] = []
filled p (suc n) v (x ∷ xs) = cond (p x) (v ∷ filled p n v xs) (x ∷ filled p (suc n) v xs)

take-map : (n : ℕ) (ns : List ℕ) → take n (map suc ns) ≡ map suc (take n ns)
take-map zero ns = refl
take-map (suc n) [] = refl
take-map (suc n) (m ∷ ns) = ap (λ ks. suc m ∷ ks) (take-map n ns)

-- as they are put one after another
pub puts-filled : {X : Type 0} (p : X → Bool) (n : ℕ) (v : X) (xs : List X) → puts (take n (numbers_where p xs)) (replicate n v) xs ≡ filled p n v xs
puts-filled p zero v xs = refl
puts-filled p (suc n) v [] = refl
puts-filled p (suc n) v (x ∷ xs) =
    let ns = numbers_where p xs in
    elim (p x) as (λ b. puts (take (suc n) (cond b (0 ∷ map suc ns) (map suc ns))) (v ∷ replicate n v) (x ∷ xs)
    ≡ cond b (v ∷ filled p n v xs) (x ∷ filled p (suc n) v xs)) [
      | true ↦
          ap (λ ks. puts ks (replicate n v) (v ∷ xs)) (take-map n ns) ∙ puts-suc (take n ns) (replicate n v) xs v
          ∙ ap (λ zs. v ∷ zs) (puts-filled p n v xs)
      | false ↦
          ap (λ ks. puts ks (v ∷ replicate n v) (x ∷ xs)) (take-map (suc n) ns) ∙ puts-suc (take (suc n) ns) (v ∷ replicate n v) xs x
          ∙ ap (λ zs. x ∷ zs) (puts-filled p (suc n) v xs)
    ]

-- they are all that pass a test that no other passes
pub filter-filled : {X : Type 0} (p q : X → Bool) (n : ℕ) (v : X) (xs : List X) → n ≤ length (filter p xs) → q v ≡ true
    → filter q xs ≡ [] → filter q (filled p n v xs) ≡ replicate n v
filter-filled p q zero v xs many passes none = none
filter-filled p q (suc n) v [] many passes none = absurd (omega (arith, many))
filter-filled {X = X} p q (suc n) v (x ∷ xs) many passes none =
    let tail = none-tail (q x) x (filter q xs) none in
    (elim (p x) as (λ b. suc n ≤ length (cond b (x ∷ filter p xs) (filter p xs))
    → filter q (cond b (v ∷ filled p n v xs) (x ∷ filled p (suc n) v xs)) ≡ v ∷ replicate n v) [
      | true ↦ λ count.
          ap (λ b. cond b (v ∷ filter q (filled p n v xs)) (filter q (filled p n v xs))) passes
          ∙ ap (λ zs. v ∷ zs) (filter-filled p q n v xs (omega (arith, count)) passes tail.1)
      | false ↦ λ count.
          ap (λ b. cond b (x ∷ filter q (filled p (suc n) v xs)) (filter q (filled p (suc n) v xs))) tail.0
          ∙ filter-filled p q (suc n) v xs count passes tail.1
    ]) many
  where
    none-tail : (b : Bool) (x : X) (rest : List X) → cond b (x ∷ rest) rest ≡ [] → (b ≡ false) × (rest ≡ [])
    none-tail true x rest e = cc
    none-tail false x rest e = (refl, e)

-- another test leaves what it left
pub filter-filled_other : {X : Type 0} (p q : X → Bool) (n : ℕ) (v : X) (xs : List X) → ((x : X) → p x ≡ true → q x ≡ false) → q v ≡ false
    → filter q (filled p n v xs) ≡ filter q xs
filter-filled_other p q zero v xs apart out = refl
filter-filled_other p q (suc n) v [] apart out = refl
filter-filled_other p q (suc n) v (x ∷ xs) apart out =
    (elim (p x) as (λ b. p x ≡ b → filter q (cond b (v ∷ filled p n v xs) (x ∷ filled p (suc n) v xs)) ≡ filter q (x ∷ xs)) [
      | true ↦ λ passes.
          ap (λ b. cond b (v ∷ filter q (filled p n v xs)) (filter q (filled p n v xs))) out
          ∙ filter-filled_other p q n v xs apart out ∙ sym (ap (λ b. cond b (x ∷ filter q xs) (filter q xs)) (apart x passes))
      | false ↦ λ fails. ap (λ zs. cond (q x) (x ∷ zs) zs) (filter-filled_other p q (suc n) v xs apart out)
    ]) refl

-- ---- what is there

lowest-suc : (ns : List ℕ) (m : ℕ) → lowest ns ≤ m → lowest (map suc ns) ≤ suc m
lowest-suc [] m low = omega arith
lowest-suc (n ∷ ns) m low = omega (arith, low)

-- the new one, no lower than the first, or what was there
pub filled-there : {X : Type 0} (p : X → Bool) (n : ℕ) (v : X) (xs : List X) (m : ℕ) (y : X) → slice_get (filled p n v xs) m ≡ Some y
    → ((v ≡ y) × (lowest (take n (numbers_where p xs)) ≤ m)) ⊎ (slice_get xs m ≡ Some y)
filled-there p zero v xs m y at = inr at
filled-there p (suc n) v [] m y at = inr at
filled-there {X = X} p (suc n) v (x ∷ xs) m y at =
    (elim (p x) as (λ b. slice_get (cond b (v ∷ filled p n v xs) (x ∷ filled p (suc n) v xs)) m ≡ Some y
    → ((v ≡ y) × (lowest (take (suc n) (cond b (0 ∷ map suc (numbers_where p xs)) (map suc (numbers_where p xs)))) ≤ m)) ⊎ (slice_get (x ∷ xs) m ≡ Some y)) [
      | true ↦ λ there. first m there (λ k at. filled-there p n v xs k y at)
      | false ↦ λ there. later m there (λ k at. filled-there p (suc n) v xs k y at)
    ]) at
  where
    first : (m : ℕ) → slice_get (v ∷ filled p n v xs) m ≡ Some y
        → ((k : ℕ) → slice_get (filled p n v xs) k ≡ Some y → ((v ≡ y) × (lowest (take n (numbers_where p xs)) ≤ k)) ⊎ (slice_get xs k ≡ Some y))
        → ((v ≡ y) × (0 ≤ m)) ⊎ (slice_get (x ∷ xs) m ≡ Some y)
    first zero there rest = inl (cc, omega arith)
    first (suc m) there rest = elim (rest m there) [ inl is ↦ inl (is.0, omega arith) | inr was ↦ inr was ]

    later : (m : ℕ) → slice_get (x ∷ filled p (suc n) v xs) m ≡ Some y
        → ((k : ℕ) → slice_get (filled p (suc n) v xs) k ≡ Some y
        → ((v ≡ y) × (lowest (take (suc n) (numbers_where p xs)) ≤ k)) ⊎ (slice_get xs k ≡ Some y))
        → ((v ≡ y) × (lowest (take (suc n) (map suc (numbers_where p xs))) ≤ m)) ⊎ (slice_get (x ∷ xs) m ≡ Some y)
    later zero there rest = inr there
    later (suc m) there rest =
        elim (rest m there) [
          | inl is ↦ inl (is.0, rw (take-map (suc n) (numbers_where p xs)) (lowest-suc (take (suc n) (numbers_where p xs)) m is.1))
          | inr was ↦ inr was
        ]

-- what does not pass stays
pub filled-stays : {X : Type 0} (p : X → Bool) (n : ℕ) (v : X) (xs : List X) (m : ℕ) (x : X) → slice_get xs m ≡ Some x → p x ≡ false
    → slice_get (filled p n v xs) m ≡ Some x
filled-stays p zero v xs m x at fails = at
filled-stays p (suc n) v [] m x at fails = at
filled-stays {X = X} p (suc n) v (z ∷ xs) m x at fails =
    (elim (p z) as (λ b. p z ≡ b → slice_get (cond b (v ∷ filled p n v xs) (z ∷ filled p (suc n) v xs)) m ≡ Some x) [
      | true ↦ λ passes. first passes m at (λ k there. filled-stays p n v xs k x there fails)
      | false ↦ λ other. later m at (λ k there. filled-stays p (suc n) v xs k x there fails)
    ]) refl
  where
    first : p z ≡ true → (m : ℕ) → slice_get (z ∷ xs) m ≡ Some x → ((k : ℕ) → slice_get xs k ≡ Some x → slice_get (filled p n v xs) k ≡ Some x)
        → slice_get (v ∷ filled p n v xs) m ≡ Some x
    first passes zero at rest =
        let same : z ≡ x = cc in
        let bad : true ≡ false = sym passes ∙ ap p same ∙ fails in cc
    first passes (suc m) at rest = rest m at

    later : (m : ℕ) → slice_get (z ∷ xs) m ≡ Some x → ((k : ℕ) → slice_get xs k ≡ Some x → slice_get (filled p (suc n) v xs) k ≡ Some x)
        → slice_get (z ∷ filled p (suc n) v xs) m ≡ Some x
    later zero at rest = at
    later (suc m) at rest = rest m at

-- the first is the new one
pub filled-first : {X : Type 0} (p : X → Bool) (n : ℕ) (v : X) (xs : List X) → 1 ≤ length (filter p xs)
    → slice_get (filled p (suc n) v xs) (lowest (take (suc n) (numbers_where p xs))) ≡ Some v
filled-first p n v [] some = absurd (omega (arith, some))
filled-first {X = X} p n v (x ∷ xs) some =
    (elim (p x) as (λ b. 1 ≤ length (cond b (x ∷ filter p xs) (filter p xs))
    → slice_get (cond b (v ∷ filled p n v xs) (x ∷ filled p (suc n) v xs))
    (lowest (take (suc n) (cond b (0 ∷ map suc (numbers_where p xs)) (map suc (numbers_where p xs))))) ≡ Some v) [
      | true ↦ λ count. refl
      | false ↦ λ count. behind (numbers_where p xs) (filled-first p n v xs count) (numbers-some p xs count)
    ]) some
  where
    numbers-some : (p : X → Bool) (xs : List X) → 1 ≤ length (filter p xs) → 1 ≤ length (numbers_where p xs)
    numbers-some p xs count = let many = numbers-length p xs in omega (arith, many, count)

    behind : (ns : List ℕ) → slice_get (filled p (suc n) v xs) (lowest (take (suc n) ns)) ≡ Some v → 1 ≤ length ns
        → slice_get (x ∷ filled p (suc n) v xs) (lowest (take (suc n) (map suc ns))) ≡ Some v
    behind [] at none = absurd (omega (arith, none))
    behind (m ∷ ns) at count = at
