-- The numbers of a share's units grow, and so do those that a unit of the device's stands for.
use Rattle.std.proofs.Common.{◌≡◌, ℕ, zero, suc, ◌+◌, ◌-◌, ◌<◌, ◌≤◌, Bool, true, false, not, ◌||◌, ◌==◌, cond, List}
use Rattle.std.proofs.Common.{[], ◌∷◌, ◌++◌, All}
use Rattle.std.proofs.Common.{filter, slice_get, Option, Some, None, arith, refl, sym, ap, ◌∙◌, eq-eqb, inl, inr}
use Rattle.std.proofs.lemmas.Bool.{cases_eq, ne_eqb}
use Rattle.std.specs.List.{cons_option, filter_map, list_any, range_with_len}
use Rattle.std.proofs.lemmas.List.Elements.{All-append, All-cons, All-head, All-nil, All-tail, All-weaker}
use Rattle.nv_entry.specs.Range.{blocks_of, start_of}
use Rattle.nv_ns.specs.Extents.{Cut, Placed, common}
use Rattle.nv_model.specs.Private.{others}
use Rattle.nv_world_model.specs.Share.{numbers_met}
use Rattle.nv_laws_sound.proofs.Named.{row-all}
use Rattle.nv_laws.specs.Units.{left_without}
use Rattle.nv_laws.proofs.units.Runs.{Grow, without}

-- ---- numbers that grow

pub row-grow : (len from : ℕ) → Grow (range_with_len from len)
row-grow zero from = tt
row-grow (suc len) from = (row-all (λ k. from < k) (from + 1) len (λ k low high. omega (arith, low)), row-grow len (from + 1))

grow-append : (bound : ℕ) (xs ys : List ℕ) → Grow xs → Grow ys → All (λ k. k < bound) xs → All (λ k. bound ≤ k) ys → Grow (xs ++ ys)
grow-append bound [] ys first second below above = second
grow-append bound (x ∷ xs) ys first second below above =
    let here = All-head (λ k. k < bound) x xs below in (
      All-append (λ k. x < k) xs ys first.0 (All-weaker (λ k. bound ≤ k) (λ k. x < k) (λ k least. omega (arith, here, least)) ys above),
      grow-append bound xs ys first.1 second (All-tail (λ k. k < bound) x xs below) above,
    )

-- those of what an extent has of ranges
met-above : (from : ℕ) (at : Placed) (ranges : List (List ℕ)) (least : ℕ) → least ≤ from → All (λ k. least ≤ k) (numbers_met from at ranges)
met-above from at [] least low = All-nil (λ k. least ≤ k)
met-above from at (range ∷ rest) least low =
    let cut : Cut = common at (start_of range) (blocks_of range) in
    All-append (λ k. least ≤ k) (range_with_len (from + cut.first) cut.count) (numbers_met (from + blocks_of range) at rest)
    (row-all (λ k. least ≤ k) (from + cut.first) cut.count (λ k more high. omega (arith, more, low)))
    (met-above (from + blocks_of range) at rest least (omega (arith, low)))

cut-ends : (at : Placed) (slba count k : ℕ) → k < (common at slba count).first + (common at slba count).count → (common at slba count).first ≤ k → k < count
cut-ends at slba count k high low = omega (arith, high, low)

pub met-grow : (from : ℕ) (at : Placed) (ranges : List (List ℕ)) → Grow (numbers_met from at ranges)
met-grow from at [] = tt
met-grow from at (range ∷ rest) =
    let cut : Cut = common at (start_of range) (blocks_of range) in
    grow-append (from + blocks_of range) (range_with_len (from + cut.first) cut.count) (numbers_met (from + blocks_of range) at rest)
    (row-grow cut.count (from + cut.first)) (met-grow (from + blocks_of range) at rest)
    (row-all (λ k. k < from + blocks_of range) (from + cut.first) cut.count (λ k low high.
    (let ends = cut-ends at (start_of range) (blocks_of range) (k - from) (omega (arith, low, high)) (omega (arith, low)) in omega (arith, low, ends))))
    (met-above (from + blocks_of range) at rest (from + blocks_of range) (omega arith))

-- ---- numbers at places

-- what each number that is there has, those at these places have
pub behind-all : (P : ℕ → Type 0) (numbers : List ℕ) → ((k n : ℕ) → slice_get numbers k ≡ Some n → P n) → (ks : List ℕ)
    → All P (filter_map (slice_get numbers) ks)
behind-all P numbers each [] = All-nil P
behind-all P numbers each (k ∷ ks) = by_found (slice_get numbers k) refl (behind-all P numbers each ks)
  where
    by_found : (o : Option ℕ) → slice_get numbers k ≡ o → All P (filter_map (slice_get numbers) ks) → All P (cons_option o (filter_map (slice_get numbers) ks))
    by_found None is rest = rest
    by_found (Some n) is rest = All-cons P n (filter_map (slice_get numbers) ks) (each k n is) rest

above-at : (numbers : List ℕ) (least j n : ℕ) → All (λ k. least < k) numbers → slice_get numbers j ≡ Some n → least < n
above-at [] least j n above is = cc
above-at (x ∷ numbers) least zero n above is =
    let same : x ≡ n = cc in
    let here = All-head (λ k. least < k) x numbers above in omega (arith, here, same)
above-at (x ∷ numbers) least (suc j) n above is = above-at numbers least j n (All-tail (λ k. least < k) x numbers above) is

-- a later one is more
pub later-more : (numbers : List ℕ) (i j a b : ℕ) → Grow numbers → i < j → slice_get numbers i ≡ Some a → slice_get numbers j ≡ Some b → a < b
later-more [] i j a b grow order first second = cc
later-more (x ∷ numbers) zero zero a b grow order first second = absurd (omega (arith, order))
later-more (x ∷ numbers) zero (suc j) a b grow order first second =
    let same : x ≡ a = cc in
    let more = above-at numbers x j b grow.0 second in omega (arith, more, same)
later-more (x ∷ numbers) (suc i) zero a b grow order first second = absurd (omega (arith, order))
later-more (x ∷ numbers) (suc i) (suc j) a b grow order first second = later-more numbers i j a b grow.1 (omega (arith, order)) first second

pub behind-grow : (numbers : List ℕ) → Grow numbers → (ks : List ℕ) → Grow ks → Grow (filter_map (slice_get numbers) ks)
behind-grow numbers grow [] order = tt
behind-grow numbers grow (k ∷ ks) order = by_found (slice_get numbers k) refl (behind-grow numbers grow ks order.1)
  where
    above : (n : ℕ) → slice_get numbers k ≡ Some n → (js : List ℕ) → All (λ j. k < j) js → All (λ m. n < m) (filter_map (slice_get numbers) js)
    above n is [] each = All-nil (λ m. n < m)
    above n is (j ∷ js) each = next (slice_get numbers j) refl (above n is js (All-tail (λ i. k < i) j js each))
      where
        next : (o : Option ℕ) → slice_get numbers j ≡ o → All (λ m. n < m) (filter_map (slice_get numbers) js)
            → All (λ m. n < m) (cons_option o (filter_map (slice_get numbers) js))
        next None found rest = rest
        next (Some m) found rest =
            All-cons (λ i. n < i) m (filter_map (slice_get numbers) js)
            (later-more numbers k j n m grow (All-head (λ i. k < i) j js each) is found) rest

    by_found : (o : Option ℕ) → slice_get numbers k ≡ o → Grow (filter_map (slice_get numbers) ks) → Grow (cons_option o (filter_map (slice_get numbers) ks))
    by_found None is rest = rest
    by_found (Some n) is rest = (above n is ks order.0, rest)

-- ---- numbers that go

keep-all : (left : List ℕ) → left ≡ filter (λ k. true) left
keep-all [] = refl
keep-all (k ∷ left) = ap (λ ks. k ∷ ks) (keep-all left)

same-eqb : (a b : ℕ) → (a == b) ≡ (b == a)
same-eqb a b =
    elim (cases_eq a b) [
      | inl same ↦ eq-eqb a b same ∙ sym (eq-eqb b a (sym same))
      | inr differ ↦ ne_eqb a b differ ∙ sym (ne_eqb b a (λ same. differ (sym same)))
    ]

one-then : (n : ℕ) (ns left : List ℕ) → left_without ns (others n left) ≡ left_without (n ∷ ns) left
one-then n ns [] = refl
one-then n ns (k ∷ left) =
    ap (λ b. left_without ns (cond (not b) (k ∷ others n left) (others n left))) (same-eqb k n) ∙ by_test (n == k) (one-then n ns left)
  where
    by_test : (b : Bool) → left_without ns (others n left) ≡ left_without (n ∷ ns) left
        → left_without ns (cond (not b) (k ∷ others n left) (others n left))
        ≡ cond (not (b || list_any (λ m. m == k) ns)) (k ∷ left_without (n ∷ ns) left) (left_without (n ∷ ns) left)
    by_test true rest = rest
    by_test false rest = ap (λ ks. cond (not (list_any (λ m. m == k) ns)) (k ∷ ks) ks) rest

-- one after the other, or all at once
pub without-left : (numbers left : List ℕ) → without numbers left ≡ left_without numbers left
unfolding without
without-left [] left = keep-all left
without-left (n ∷ numbers) left = without-left numbers (others n left) ∙ one-then n numbers left
