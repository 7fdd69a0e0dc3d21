-- How many addresses of a range the regions cover, against which of them are mapped.
use Rattle.std.proofs.Common.{◌≡◌, ℕ, zero, suc, ◌+◌, ◌-◌, ◌<◌, ◌≤◌, ◌↔◌, Bool, IsTrue, true, false, ◌&&◌}
use Rattle.std.proofs.Common.{List, [], ◌∷◌, Some, is_some, arith, refl, sym, ap, ◌∙◌, cond, sum_by, get_or, eqb, eq-eqb}
use Rattle.std.proofs.lemmas.Bool.Decides.{nat_tests, Decides-below_and}
use Rattle.std.proofs.lemmas.List.Elements.{All-head, All-tail}
use Rattle.std.proofs.lemmas.List.Sums.{sum_by-cons}
use Rattle.std.specs.Bool.{Decides}
use Rattle.std.specs.List.{All, AllPairs}
use Rattle.nv_mem.specs.declared.region.Region.{Region}
use Rattle.nv_mem.specs.GuestMap.{covers, host_of, mapped, all_mapped, everywhere, IsApart}
use Rattle.nv_mem.specs.MapRuns.{overlap, AllMapped, covered_of}
use Rattle.nv_mem.proofs.Images.{AllPairs-head, AllPairs-tail}

-- ---- the test that computes

-- the test decides whether all is mapped
pub Decides-all_mapped : (rs : List Region) (addr len : ℕ) → Decides (all_mapped rs addr len) (AllMapped rs addr len)
unfolding everywhere
Decides-all_mapped rs addr len =
    Decides-below_and (λ k. mapped rs (addr + k)) (λ k. mapped rs (addr + k) ≡ true) (λ n. all_mapped rs addr n)
    (λ k. ((λ h. h), (λ h. h))) refl (λ _. refl) len

-- the test says so only where all is mapped
pub AllMapped-tested : (rs : List Region) (addr len : ℕ) → all_mapped rs addr len ≡ true → AllMapped rs addr len
AllMapped-tested rs addr len = (Decides-all_mapped rs addr len).0

-- and wherever it is
pub all_mapped-true : (rs : List Region) (addr len : ℕ) → AllMapped rs addr len → all_mapped rs addr len ≡ true
all_mapped-true rs addr len = (Decides-all_mapped rs addr len).1

-- what is equal to the test decides, too
pub AllMapped-told : (rs : List Region) (addr len : ℕ) (told : Bool) → told ≡ all_mapped rs addr len → IsTrue told ↔ AllMapped rs addr len
AllMapped-told rs addr len told same = (λ is. AllMapped-tested rs addr len (sym same ∙ is), λ all. same ∙ all_mapped-true rs addr len all)

-- ---- the count

-- a number and the next, each one more
eqb-suc : (a b n : ℕ) → a ≡ b + 1 → eqb a (suc n) ≡ eqb b n
eqb-suc a b n more = grind (arith, nat_tests)

-- a smaller number is another
eqb-below : (a n : ℕ) → a < n → eqb a n ≡ false
eqb-below a n below = grind (arith, nat_tests)

-- one more address is one more of the region where it covers it
pub overlap-suc : (r : Region) (addr n : ℕ) → overlap r addr (suc n) ≡ overlap r addr n + cond (covers r (addr + n)) 1 0
overlap-suc r addr n = grind (arith, nat_tests)

-- no address is in a region
pub overlap-zero : (r : Region) (addr : ℕ) → overlap r addr 0 ≡ 0
overlap-zero r addr = omega arith

-- a sum of sums, term by term
sum_by-plus : {X : Type 0} (f g h : X → ℕ) (xs : List X) → ((x : X) → h x ≡ f x + g x)
    → sum_by h xs ≡ sum_by f xs + sum_by g xs
sum_by-plus f g h [] each = refl
sum_by-plus f g h (x ∷ xs) each =
    let rest = sum_by-plus f g h xs each in
    let head = each x in
    rw (sum_by-cons f x xs, sum_by-cons g x xs, sum_by-cons h x xs) (omega (arith, rest, head))

-- a sum of nothing
sum_by-none : {X : Type 0} (f : X → ℕ) (xs : List X) → All (λ x. f x ≡ 0) xs → sum_by f xs ≡ 0
sum_by-none f [] none = refl
sum_by-none f (x ∷ xs) none =
    let head = All-head (λ y. f y ≡ 0) x xs none in
    let rest = sum_by-none f xs (All-tail (λ y. f y ≡ 0) x xs none) in
    rw (sum_by-cons f x xs) (omega (arith, head, rest))

-- one address is in one region at most, and in one exactly where it is mapped
count_by-covers : (rs : List Region) (addr : ℕ) → AllPairs IsApart rs
    → sum_by (λ r. cond (covers r addr) 1 0) rs ≡ cond (mapped rs addr) 1 0
count_by-covers [] addr apart = refl
count_by-covers (r ∷ rs) addr apart =
    let rest = count_by-covers rs addr (AllPairs-tail IsApart r rs apart) in
    rw (sum_by-cons (λ s. cond (covers s addr) 1 0) r rs)
    ((elim (covers r addr) as (λ b. covers r addr ≡ b → cond b 1 0 + sum_by (λ s. cond (covers s addr) 1 0) rs
    ≡ cond (is_some (cond b (Some (r.host + (addr - r.guest))) (host_of rs addr))) 1 0) [
      | true ↦ λ is.
          let none = sum_by-none (λ s. cond (covers s addr) 1 0) rs (λ k d below.
          let clear = (AllPairs-head IsApart r rs apart k d below).guest addr is in ap (λ b. cond b 1 0) clear) in
          omega (arith, none)
      | false ↦ λ is. omega (arith, rest)
    ]) refl)

-- one more address counts where it is mapped
covered_of-suc : (rs : List Region) (addr n : ℕ) → AllPairs IsApart rs
    → covered_of rs addr (suc n) ≡ covered_of rs addr n + cond (mapped rs (addr + n)) 1 0
unfolding covered_of
covered_of-suc rs addr n apart =
    sum_by-plus (λ r. overlap r addr n) (λ r. cond (covers r (addr + n)) 1 0) (λ r. overlap r addr (suc n)) rs (λ r. overlap-suc r addr n)
    ∙ ap (λ k. sum_by (λ r. overlap r addr n) rs + k) (count_by-covers rs (addr + n) apart)

-- no address counts nothing
covered_of-zero : (rs : List Region) (addr : ℕ) → covered_of rs addr 0 ≡ 0
unfolding covered_of
covered_of-zero rs addr = sum_by-none (λ r. overlap r addr 0) rs (λ k d below. overlap-zero (get_or rs k d) addr)

-- no more addresses are covered than there are
pub covered_of-le : (rs : List Region) (addr n : ℕ) → AllPairs IsApart rs → covered_of rs addr n ≤ n
covered_of-le rs addr zero apart = omega (arith, covered_of-zero rs addr)
covered_of-le rs addr (suc n) apart =
    let step = covered_of-suc rs addr n apart in
    let rest = covered_of-le rs addr n apart in
    let one : cond (mapped rs (addr + n)) 1 0 ≤ 1 = elim (mapped rs (addr + n)) as (λ b. cond b 1 0 ≤ 1) [ true ↦ omega arith | false ↦ omega arith ] in
    omega (arith, step, rest, one)

-- and all of them exactly where all are mapped
pub covered_of-all : (rs : List Region) (addr n : ℕ) → AllPairs IsApart rs
    → eqb (covered_of rs addr n) n ≡ all_mapped rs addr n
unfolding everywhere
covered_of-all rs addr zero apart = eq-eqb (covered_of rs addr 0) 0 (covered_of-zero rs addr)
covered_of-all rs addr (suc n) apart =
    let step = covered_of-suc rs addr n apart in
    let rest = covered_of-all rs addr n apart in
    let most = covered_of-le rs addr n apart in
    (elim (mapped rs (addr + n)) as (λ b. covered_of rs addr (suc n) ≡ covered_of rs addr n + cond b 1 0 → eqb (covered_of rs addr (suc n)) (suc n) ≡ (b && all_mapped rs addr n)) [
      | true ↦ λ e. eqb-suc (covered_of rs addr (suc n)) (covered_of rs addr n) n (omega (arith, e)) ∙ rest
      | false ↦ λ e. eqb-below (covered_of rs addr (suc n)) (suc n) (omega (arith, e, most))
    ]) step
