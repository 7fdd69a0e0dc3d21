-- Members of a list by their numbers: those that pass a test, in order, and the list with others in their places.
use Rattle.std.proofs.Common.{◌≡◌, ℕ, zero, suc, ◌+◌, Bool, true, false, cond, ◌==◌, List, [], ◌∷◌, filter, length, map}
use Rattle.std.proofs.Common.{set, slice_get, take, Some, arith, refl, sym, ap, ◌∙◌, subst}
use Rattle.std.specs.Bool.{⊤}
use Rattle.std.specs.List.{All, enumerate_from}
use Rattle.std.proofs.lemmas.Bool.{eqb-false, ne_eqb}
use Rattle.std.proofs.lemmas.List.Elements.{All-cons, All-head, All-map, All-nil, All-tail, All-weaker}
use Rattle.nv_laws_sound.proofs.Lists.{IsThere, Put, Was, length-set, set-there}

-- ---- the numbers of those that pass

abbrev pub numbers_where : {X : Type 0} → (X → Bool) → List X → List ℕ
numbers_where test [] = []
numbers_where test (x ∷ xs) = cond (test x) (0 ∷ map suc (numbers_where test xs)) (map suc (numbers_where test xs))

-- as the world says it
map-plus : (from : ℕ) (ns : List ℕ) → map (λ n. from + n) (map suc ns) ≡ map (λ n. from + 1 + n) ns
map-plus from [] = refl
map-plus from (n ∷ ns) =
    let here : from + suc n ≡ from + 1 + n = omega arith in
    ap (λ k. k ∷ map (λ n. from + n) (map suc ns)) here ∙ ap (λ ks. (from + 1 + n) ∷ ks) (map-plus from ns)

numbers-from : {X : Type 0} (test : X → Bool) (from : ℕ) (xs : List X)
    → map (λ p. p.0) (filter (λ p. test p.1) (enumerate_from from xs)) ≡ map (λ n. from + n) (numbers_where test xs)
numbers-from test from [] = refl
numbers-from {X = X} test from (x ∷ xs) =
    let rest = numbers-from test (from + 1) xs ∙ sym (map-plus from (numbers_where test xs)) in
    let none : from + 0 ≡ from = omega arith in
    elim (test x) as (λ b. map (λ (p : ℕ × X). p.0) (cond b ((from, x) ∷ filter (λ (p : ℕ × X). test p.1) (enumerate_from (from + 1) xs))
    (filter (λ (p : ℕ × X). test p.1) (enumerate_from (from + 1) xs)))
    ≡ map (λ n. from + n) (cond b (0 ∷ map suc (numbers_where test xs)) (map suc (numbers_where test xs)))) [
      | true ↦ ap (λ k. from ∷ k) rest ∙ ap (λ k. k ∷ map (λ n. from + n) (map suc (numbers_where test xs))) (sym none)
      | false ↦ rest
    ]

map-zero : (ns : List ℕ) → map (λ n. 0 + n) ns ≡ ns
map-zero [] = refl
map-zero (n ∷ ns) = let none : 0 + n ≡ n = omega arith in ap (λ k. k ∷ map (λ m. 0 + m) ns) none ∙ ap (λ ks. n ∷ ks) (map-zero ns)

pub numbers-are : {X : Type 0} (test : X → Bool) (xs : List X)
    → map (λ p. p.0) (filter (λ p. test p.1) (enumerate_from 0 xs)) ≡ numbers_where test xs
numbers-are test xs = numbers-from test 0 xs ∙ map-zero (numbers_where test xs)

-- of what is mapped
pub numbers-map : {X Y : Type 0} (test : Y → Bool) (f : X → Y) (xs : List X) → numbers_where (λ x. test (f x)) xs ≡ numbers_where test (map f xs)
numbers-map test f [] = refl
numbers-map test f (x ∷ xs) =
    ap (λ (ns : List ℕ). cond (test (f x)) (0 ∷ map suc ns) (map suc ns)) (numbers-map test f xs)

-- each is one that passes
pub record Passes {X : Type 0} (test : X → Bool) (xs : List X) (n : ℕ) : Type 0 where
  pub x : X
  pub is : slice_get xs n ≡ Some x
  pub passes : test x ≡ true

pub numbers-pass : {X : Type 0} (test : X → Bool) (xs : List X) → All (Passes test xs) (numbers_where test xs)
numbers-pass test [] = All-nil (Passes test [])
numbers-pass test (x ∷ xs) =
    let rest : All (Passes test (x ∷ xs)) (map suc (numbers_where test xs)) =
    All-map (Passes test (x ∷ xs)) suc (numbers_where test xs) (further (numbers_where test xs) (numbers-pass test xs)) in
    (elim (test x) as (λ b. test x ≡ b → All (Passes test (x ∷ xs)) (cond b (0 ∷ map suc (numbers_where test xs)) (map suc (numbers_where test xs)))) [
      | true ↦ λ is. All-cons (Passes test (x ∷ xs)) 0 (map suc (numbers_where test xs)) (record { x = x; is = refl; passes = is }) rest
      | false ↦ λ is. rest
    ]) refl
  where
    further : (ns : List ℕ) → All (Passes test xs) ns → All (λ n. Passes test (x ∷ xs) (suc n)) ns
    further [] each = All-nil (λ n. Passes test (x ∷ xs) (suc n))
    further (n ∷ ns) each =
        let first = All-head (Passes test xs) n ns each in
        All-cons (λ n. Passes test (x ∷ xs) (suc n)) n ns (record { x = first.x; is = first.is; passes = first.passes })
        (further ns (All-tail (Passes test xs) n ns each))

-- no two are the same
abbrev pub AreDistinct : List ℕ → Type 0
AreDistinct [] = ⊤
AreDistinct (n ∷ ns) = All (λ m. (m == n) ≡ false) ns × AreDistinct ns

suc-apart : (n m : ℕ) → (m == n) ≡ false → (suc m == suc n) ≡ false
suc-apart n m apart = ne_eqb (suc m) (suc n) (λ same. eqb-false m n apart (omega (arith, same)))

suc-distinct : (ns : List ℕ) → AreDistinct ns → AreDistinct (map suc ns)
suc-distinct [] apart = tt
suc-distinct (n ∷ ns) apart = (
  All-map (λ m. (m == suc n) ≡ false) suc ns (All-weaker (λ m. (m == n) ≡ false) (λ m. (suc m == suc n) ≡ false) (suc-apart n) ns apart.0),
  suc-distinct ns apart.1,
)

not-zero : (ns : List ℕ) → All (λ m. (m == 0) ≡ false) (map suc ns)
not-zero [] = All-nil (λ m. (m == 0) ≡ false)
not-zero (n ∷ ns) = All-cons (λ m. (m == 0) ≡ false) (suc n) (map suc ns) (ne_eqb (suc n) 0 (λ same. absurd (omega (arith, same)))) (not-zero ns)

pub numbers-distinct : {X : Type 0} (test : X → Bool) (xs : List X) → AreDistinct (numbers_where test xs)
numbers-distinct test [] = tt
numbers-distinct test (x ∷ xs) =
    let rest = suc-distinct (numbers_where test xs) (numbers-distinct test xs) in
    elim (test x) as (λ b. AreDistinct (cond b (0 ∷ map suc (numbers_where test xs)) (map suc (numbers_where test xs)))) [
      | true ↦ (not-zero (numbers_where test xs), rest)
      | false ↦ rest
    ]

-- of the first of them, too
pub take-all : (P : ℕ → Type 0) (n : ℕ) (ns : List ℕ) → All P ns → All P (take n ns)
take-all P zero ns each = All-nil P
take-all P (suc n) [] each = All-nil P
take-all P (suc n) (m ∷ ns) each = All-cons P m (take n ns) (All-head P m ns each) (take-all P n ns (All-tail P m ns each))

pub take-distinct : (n : ℕ) (ns : List ℕ) → AreDistinct ns → AreDistinct (take n ns)
take-distinct zero ns apart = tt
take-distinct (suc n) [] apart = tt
take-distinct (suc n) (m ∷ ns) apart = (take-all (λ k. (k == m) ≡ false) n ns apart.0, take-distinct n ns apart.1)

length-suc : (ns : List ℕ) → length (map suc ns) ≡ length ns
length-suc [] = refl
length-suc (n ∷ ns) = ap suc (length-suc ns)

-- as many as are left by the test
pub numbers-length : {X : Type 0} (test : X → Bool) (xs : List X) → length (numbers_where test xs) ≡ length (filter test xs)
numbers-length test [] = refl
numbers-length test (x ∷ xs) =
    let rest : length (map suc (numbers_where test xs)) ≡ length (filter test xs) = length-suc (numbers_where test xs) ∙ numbers-length test xs in
    elim (test x) as (λ b. length (cond b (0 ∷ map suc (numbers_where test xs)) (map suc (numbers_where test xs))) ≡ length (cond b (x ∷ filter test xs) (filter test xs))) [
      | true ↦ ap suc rest
      | false ↦ rest
    ]

-- ---- others in their places

-- one after another
abbrev pub puts : {X : Type 0} → List ℕ → List X → List X → List X
puts [] vs xs = xs
puts (n ∷ ns) [] xs = xs
puts (n ∷ ns) (v ∷ vs) xs = puts ns vs (set xs n v)

pub puts-suc : {X : Type 0} (ns : List ℕ) (vs xs : List X) (x : X) → puts (map suc ns) vs (x ∷ xs) ≡ x ∷ puts ns vs xs
puts-suc [] vs xs x = refl
puts-suc (n ∷ ns) [] xs x = refl
puts-suc (n ∷ ns) (v ∷ vs) xs x = puts-suc ns vs (set xs n v) x

-- where they pass another test that none of those that stay passes, they are what passes it
pub filter-puts : {X : Type 0} (p q : X → Bool) (xs vs : List X) → length vs ≡ length (numbers_where p xs) → All (λ v. q v ≡ true) vs
    → ((x : X) → p x ≡ false → q x ≡ false) → filter q (puts (numbers_where p xs) vs xs) ≡ vs
filter-puts p q [] [] many pass others = refl
filter-puts p q [] (v ∷ vs) many pass others = absurd (omega (arith, many))
filter-puts {X = X} p q (x ∷ xs) vs many pass others =
    (elim (p x) as (λ b. p x ≡ b → length vs ≡ length (cond b (0 ∷ map suc (numbers_where p xs)) (map suc (numbers_where p xs)))
    → filter q (puts (cond b (0 ∷ map suc (numbers_where p xs)) (map suc (numbers_where p xs))) vs (x ∷ xs)) ≡ vs) [
      | true ↦ λ is count. passing (λ zs fewer each. filter-puts p q xs zs fewer each others) vs count pass
      | false ↦ λ is count.
          ap (filter q) (puts-suc (numbers_where p xs) vs xs x)
          ∙ ap (λ b. cond b (x ∷ filter q (puts (numbers_where p xs) vs xs)) (filter q (puts (numbers_where p xs) vs xs))) (others x is)
          ∙ filter-puts p q xs vs (count ∙ length-suc (numbers_where p xs)) pass others
    ]) refl many
  where
    passing : ((zs : List X) → length zs ≡ length (numbers_where p xs) → All (λ v. q v ≡ true) zs → filter q (puts (numbers_where p xs) zs xs) ≡ zs)
        → (vs : List X) → length vs ≡ length (0 ∷ map suc (numbers_where p xs)) → All (λ v. q v ≡ true) vs
        → filter q (puts (0 ∷ map suc (numbers_where p xs)) vs (x ∷ xs)) ≡ vs
    passing rest [] count each = absurd (omega (arith, count))
    passing rest (v ∷ vs) count each =
        let fewer : length vs ≡ length (map suc (numbers_where p xs)) = omega (arith, count) in
        ap (filter q) (puts-suc (numbers_where p xs) vs xs v)
        ∙ ap (λ b. cond b (v ∷ filter q (puts (numbers_where p xs) vs xs)) (filter q (puts (numbers_where p xs) vs xs))) (All-head (λ z. q z ≡ true) v vs each)
        ∙ ap (λ zs. v ∷ zs) (rest vs (fewer ∙ length-suc (numbers_where p xs)) (All-tail (λ z. q z ≡ true) v vs each))

-- what passes another test is as it was, where neither those that go nor those that come pass it
abbrev pub FailsAt : {X : Type 0} → (X → Bool) → List X → ℕ → Type 0
FailsAt {X = X} q xs n = (x : X) → slice_get xs n ≡ Some x → q x ≡ false

filter-set : {X : Type 0} (q : X → Bool) (xs : List X) (n : ℕ) (v : X) → FailsAt q xs n → q v ≡ false → filter q (set xs n v) ≡ filter q xs
filter-set q [] n v fails out = refl
filter-set q (x ∷ xs) zero v fails out =
    ap (λ b. cond b (v ∷ filter q xs) (filter q xs)) out ∙ sym (ap (λ b. cond b (x ∷ filter q xs) (filter q xs)) (fails x refl))
filter-set q (x ∷ xs) (suc n) v fails out = ap (λ zs. cond (q x) (x ∷ zs) zs) (filter-set q xs n v fails out)

pub filter-puts_other : {X : Type 0} (q : X → Bool) (ns : List ℕ) (vs xs : List X) → All (FailsAt q xs) ns → All (λ v. q v ≡ false) vs
    → filter q (puts ns vs xs) ≡ filter q xs
filter-puts_other q [] vs xs fail out = refl
filter-puts_other q (n ∷ ns) [] xs fail out = refl
filter-puts_other {X = X} q (n ∷ ns) (v ∷ vs) xs fail out =
    let first = All-head (λ z. q z ≡ false) v vs out in
    filter-puts_other q ns vs (set xs n v) (still ns (All-tail (FailsAt q xs) n ns fail)) (All-tail (λ z. q z ≡ false) v vs out)
    ∙ filter-set q xs n v (All-head (FailsAt q xs) n ns fail) first
  where
    one : (m : ℕ) → FailsAt q xs m → (x : X) → IsThere xs n v m x → q x ≡ false
    one m fails x (Put same put) = subst (λ z. q z ≡ false) put (All-head (λ z. q z ≡ false) v vs out)
    one m fails x (Was apart at) = fails x at

    still : (ms : List ℕ) → All (FailsAt q xs) ms → All (FailsAt q (set xs n v)) ms
    still [] each = All-nil (FailsAt q (set xs n v))
    still (m ∷ ms) each =
        All-cons (FailsAt q (set xs n v)) m ms (λ x at. one m (All-head (FailsAt q xs) m ms each) x (set-there xs n v m x at))
        (still ms (All-tail (FailsAt q xs) m ms each))

-- ---- what is there

-- one that passed has become one of these, and any other is as it was
pub data IsPut {X : Type 0} (p : X → Bool) (xs vs : List X) (m : ℕ) (y : X) : Type 0 where
  Replaced : (x : X) → slice_get xs m ≡ Some x → p x ≡ true → (k : ℕ) → slice_get vs k ≡ Some y → IsPut p xs vs m y
  Stayed : slice_get xs m ≡ Some y → p y ≡ false → IsPut p xs vs m y

put-behind : {X : Type 0} (p : X → Bool) (x : X) (xs vs : List X) (m : ℕ) (y : X) → IsPut p xs vs m y → IsPut p (x ∷ xs) vs (suc m) y
put-behind p x xs vs m y (Replaced z at passes k is) = Replaced z at passes k is
put-behind p x xs vs m y (Stayed at fails) = Stayed at fails

put-more : {X : Type 0} (p : X → Bool) (x v : X) (xs vs : List X) (m : ℕ) (y : X) → IsPut p xs vs m y → IsPut p (x ∷ xs) (v ∷ vs) (suc m) y
put-more p x v xs vs m y (Replaced z at passes k is) = Replaced z at passes (suc k) is
put-more p x v xs vs m y (Stayed at fails) = Stayed at fails

pub puts-there : {X : Type 0} (p : X → Bool) (xs vs : List X) (m : ℕ) (y : X) → length vs ≡ length (numbers_where p xs)
    → slice_get (puts (numbers_where p xs) vs xs) m ≡ Some y → IsPut p xs vs m y
puts-there p [] vs m y many is = cc
puts-there {X = X} p (x ∷ xs) vs m y many is =
    (elim (p x) as (λ b. p x ≡ b → length vs ≡ length (cond b (0 ∷ map suc (numbers_where p xs)) (map suc (numbers_where p xs)))
    → slice_get (puts (cond b (0 ∷ map suc (numbers_where p xs)) (map suc (numbers_where p xs))) vs (x ∷ xs)) m ≡ Some y → IsPut p (x ∷ xs) vs m y) [
      | true ↦ λ passes count at. passing (λ zs k fewer there. puts-there p xs zs k y fewer there) passes vs count m at
      | false ↦ λ fails count at.
          staying (λ k there. puts-there p xs vs k y (count ∙ length-suc (numbers_where p xs)) there) fails m
          (count ∙ length-suc (numbers_where p xs)) (sym (ap (λ zs. slice_get zs m) (puts-suc (numbers_where p xs) vs xs x)) ∙ at)
    ]) refl many is
  where
    passing : ((zs : List X) (k : ℕ) → length zs ≡ length (numbers_where p xs) → slice_get (puts (numbers_where p xs) zs xs) k ≡ Some y
        → IsPut p xs zs k y) → p x ≡ true → (vs : List X) → length vs ≡ length (0 ∷ map suc (numbers_where p xs)) → (m : ℕ)
        → slice_get (puts (0 ∷ map suc (numbers_where p xs)) vs (x ∷ xs)) m ≡ Some y → IsPut p (x ∷ xs) vs m y
    passing rest passes [] count m at = absurd (omega (arith, count))
    passing rest passes (v ∷ vs) count zero at =
        let here : Some v ≡ Some y = sym (ap (λ zs. slice_get zs 0) (puts-suc (numbers_where p xs) vs xs v)) ∙ at in
        Replaced x refl passes 0 here
    passing rest passes (v ∷ vs) count (suc m) at =
        let fewer : length vs ≡ length (map suc (numbers_where p xs)) = omega (arith, count) in
        put-more p x v xs vs m y
        (rest vs m (fewer ∙ length-suc (numbers_where p xs)) (sym (ap (λ zs. slice_get zs (suc m)) (puts-suc (numbers_where p xs) vs xs v)) ∙ at))

    staying : ((k : ℕ) → slice_get (puts (numbers_where p xs) vs xs) k ≡ Some y → IsPut p xs vs k y) → p x ≡ false → (m : ℕ)
        → length vs ≡ length (numbers_where p xs) → slice_get (x ∷ puts (numbers_where p xs) vs xs) m ≡ Some y
        → IsPut p (x ∷ xs) vs m y
    staying rest fails zero count at = let same : x ≡ y = cc in Stayed at (subst (λ z. p z ≡ false) same fails)
    staying rest fails (suc m) count at = put-behind p x xs vs m y (rest m at)

-- what does not pass stays
pub puts-stays : {X : Type 0} (p : X → Bool) (xs vs : List X) (m : ℕ) (x : X) → slice_get xs m ≡ Some x → p x ≡ false
    → slice_get (puts (numbers_where p xs) vs xs) m ≡ Some x
puts-stays p [] vs m x at fails = cc
puts-stays {X = X} p (z ∷ xs) vs m x at fails =
    (elim (p z) as (λ b. p z ≡ b → slice_get (puts (cond b (0 ∷ map suc (numbers_where p xs)) (map suc (numbers_where p xs))) vs (z ∷ xs)) m ≡ Some x) [
      | true ↦ λ passes. first passes (λ zs k there. puts-stays p xs zs k x there fails) vs m at
      | false ↦ λ other. ap (λ zs. slice_get zs m) (puts-suc (numbers_where p xs) vs xs z) ∙ later (λ k there. puts-stays p xs vs k x there fails) m at
    ]) refl
  where
    later : ((k : ℕ) → slice_get xs k ≡ Some x → slice_get (puts (numbers_where p xs) vs xs) k ≡ Some x)
        → (m : ℕ) → slice_get (z ∷ xs) m ≡ Some x → slice_get (z ∷ puts (numbers_where p xs) vs xs) m ≡ Some x
    later rest zero at = at
    later rest (suc m) at = rest m at

    first : p z ≡ true → ((zs : List X) (k : ℕ) → slice_get xs k ≡ Some x → slice_get (puts (numbers_where p xs) zs xs) k ≡ Some x)
        → (vs : List X) (m : ℕ) → slice_get (z ∷ xs) m ≡ Some x → slice_get (puts (0 ∷ map suc (numbers_where p xs)) vs (z ∷ xs)) m ≡ Some x
    first passes rest [] m at = at
    first passes rest (v ∷ vs) zero at =
        let same : z ≡ x = cc in
        let bad : true ≡ false = sym passes ∙ ap p same ∙ fails in cc
    first passes rest (v ∷ vs) (suc m) at = ap (λ zs. slice_get zs (suc m)) (puts-suc (numbers_where p xs) vs xs v) ∙ rest vs m at

pub length-puts : {X : Type 0} (ns : List ℕ) (vs xs : List X) → length (puts ns vs xs) ≡ length xs
length-puts [] vs xs = refl
length-puts (n ∷ ns) [] xs = refl
length-puts (n ∷ ns) (v ∷ vs) xs = length-puts ns vs (set xs n v) ∙ length-set xs n v

-- a member of a list has what all have
pub all-at : {X : Type 0} (P : X → Type 0) (xs : List X) (i : ℕ) (x : X) → All P xs → slice_get xs i ≡ Some x → P x
all-at P [] i x each at = cc
all-at P (y ∷ ys) zero x each at = let same : y ≡ x = cc in subst P same (All-head P y ys each)
all-at P (y ∷ ys) (suc i) x each at = all-at P ys i x (All-tail P y ys each) at
