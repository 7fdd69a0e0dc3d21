-- Lemmas on what a map means: `host_of`, over regions that are apart.
use Rattle.std.proofs.Common.{◌≡◌, ℕ, suc, ◌+◌, ◌-◌, ◌<◌, ◌≤◌, ◌^◌, Bool, true, false}
use Rattle.std.proofs.Common.{List, [], ◌∷◌, Some, None, arith, refl, sym, ap, ◌∙◌, subst, cond, inl, inr}
use Rattle.std.proofs.lemmas.Bool.Decides.{nat_tests}
use Rattle.std.proofs.lemmas.List.Elements.{All-head, All-tail}
use Rattle.std.proofs.lemmas.Bool.{cases_lt}
use Rattle.std.specs.List.{All, AllPairs, find}
use Rattle.nv_mem.specs.declared.region.Region.{Region}
use Rattle.nv_mem.specs.GuestMap.{covers, covers_host, guest_of, host_of, IsApart, IsInside}
use Rattle.nv_mem.specs.MapRuns.{IsContiguous, IsLongestRun}

-- what holds of the first element and each later one
pub AllPairs-head : {X : Type 0} (R : X → X → Type 0) (x : X) (xs : List X) → AllPairs R (x ∷ xs) → All (R x) xs
AllPairs-head R x xs pairs = λ k d below. pairs 0 (suc k) d (omega arith) (omega arith)

-- what holds of each two later elements
pub AllPairs-tail : {X : Type 0} (R : X → X → Type 0) (x : X) (xs : List X) → AllPairs R (x ∷ xs) → AllPairs R xs
AllPairs-tail R x xs pairs = λ i j d order below. pairs (suc i) (suc j) d (omega arith) (omega arith)

-- what `find` finds has what each element has
pub All-find : {X : Type 0} (P : X → Type 0) (p : X → Bool) (xs : List X) (x : X) → All P xs → find p xs ≡ Some x → P x
All-find P p [] x all found = cc
All-find P p (y ∷ ys) x all found =
    elim (p y) as (λ b. cond b (Some y) (find p ys) ≡ Some x → P x) [
      | true ↦ λ e. let same : y ≡ x = cc in subst P same (All-head P y ys all)
      | false ↦ λ e. All-find P p ys x (All-tail P y ys all) e
    ] found

-- what `find` finds passes the test
pub find-passes : {X : Type 0} (p : X → Bool) (xs : List X) (x : X) → find p xs ≡ Some x → p x ≡ true
find-passes p [] x found = cc
find-passes p (y ∷ ys) x found =
    (elim (p y) as (λ b. p y ≡ b → cond b (Some y) (find p ys) ≡ Some x → p x ≡ true) [
      | true ↦ λ is e. let same : y ≡ x = cc in cc
      | false ↦ λ is e. find-passes p ys x e
    ]) refl found

-- an address that no region covers is not mapped
pub host_of-uncovered : (rs : List Region) (addr : ℕ) → find (λ r. covers r addr) rs ≡ None → host_of rs addr ≡ None
host_of-uncovered [] addr none = refl
host_of-uncovered (r ∷ rs) addr none =
    (elim (covers r addr) as (λ b. cond b (Some r) (find (λ s. covers s addr) rs) ≡ None → cond b (Some (r.host + (addr - r.guest))) (host_of rs addr) ≡ None)
    [ true ↦ λ e. cc | false ↦ λ e. host_of-uncovered rs addr e ]) none

-- the address is in a region, and the later ones are apart from it
pub covers-shift : (r : Region) (addr i : ℕ) → covers r addr ≡ true → i < r.len - (addr - r.guest)
    → covers r (addr + i) ≡ true
covers-shift r addr i covered below = grind (arith, nat_tests)

-- an address of a region is in none that is apart from it
pub covers-apart : (s r : Region) (addr : ℕ) → IsApart s r → covers r addr ≡ true → covers s addr ≡ false
covers-apart s r addr apart covered =
    (elim (covers s addr) as (λ b. covers s addr ≡ b → b ≡ false)
    [ true ↦ λ is. let e = apart.guest addr is in cc | false ↦ λ is. refl ]) refl

-- the first region decides an address that it covers
pub host_of-covered : (r : Region) (rs : List Region) (addr : ℕ) → covers r addr ≡ true
    → host_of (r ∷ rs) addr ≡ Some (r.host + (addr - r.guest))
host_of-covered r rs addr covered = rw covered

-- and the later ones any other
pub host_of-other : (r : Region) (rs : List Region) (addr : ℕ) → covers r addr ≡ false
    → host_of (r ∷ rs) addr ≡ host_of rs addr
host_of-other r rs addr uncovered = rw uncovered

-- a region that covers two addresses keeps their distance
pub offset_more : (r : Region) (addr i : ℕ) → covers r addr ≡ true
    → r.host + (addr + i - r.guest) ≡ r.host + (addr - r.guest) + i
offset_more r addr i covered = grind (arith, nat_tests)

-- from a covered address to the end of its region the map is one run
pub host_of-front : (rs : List Region) (r : Region) (addr i : ℕ) → AllPairs IsApart rs
    → find (λ s. covers s addr) rs ≡ Some r → i < r.len - (addr - r.guest)
    → host_of rs (addr + i) ≡ Some (r.host + (addr - r.guest) + i)
host_of-front [] r addr i apart found below = cc
host_of-front (s ∷ rs) r addr i apart found below =
    (elim (covers s addr) as (λ b. covers s addr ≡ b → cond b (Some s) (find (λ q. covers q addr) rs) ≡ Some r → host_of (s ∷ rs) (addr + i) ≡ Some (r.host + (addr - r.guest) + i)) [
      | true ↦ λ is e.
          let same : s ≡ r = cc in
          let P : Region → Type 0 = λ q. host_of (q ∷ rs) (addr + i) ≡ Some (r.host + (addr - r.guest) + i) in
          let covered : covers r addr ≡ true = cc in
          subst P (sym same) (host_of-covered r rs (addr + i) (covers-shift r addr i covered below) ∙ ap (λ n. Some n) (offset_more r addr i covered))
      | false ↦ λ is e.
          let covered = find-passes (λ q. covers q addr) rs r e in
          let apart_s : IsApart s r = All-find (IsApart s) (λ q. covers q addr) rs r (AllPairs-head IsApart s rs apart) e in
          host_of-other s rs (addr + i) (covers-apart s r (addr + i) apart_s (covers-shift r addr i covered below))
          ∙ host_of-front rs r addr i (AllPairs-tail IsApart s rs apart) e below
    ]) refl found

-- a mapped address is in some region, and lies as far in the host's part as in the guest's
pub host_of-found : (rs : List Region) (addr host : ℕ) → host_of rs addr ≡ Some host
    → (r : Region) × (find (λ s. covers s addr) rs ≡ Some r) × (r.host + (addr - r.guest) ≡ host)
host_of-found [] addr host is = cc
host_of-found (s ∷ rs) addr host is =
    (elim (covers s addr) as (λ b. cond b (Some (s.host + (addr - s.guest))) (host_of rs addr) ≡ Some host
    → (r : Region) × (cond b (Some s) (find (λ q. covers q addr) rs) ≡ Some r) × (r.host + (addr - r.guest) ≡ host))
    [ true ↦ λ e. (s, refl, cc) | false ↦ λ e. host_of-found rs addr host e ]) is

-- a mapped address lies inside the host
pub host_of-inside : (host_len : ℕ) (rs : List Region) (addr host : ℕ) → All (IsInside host_len) rs
    → host_of rs addr ≡ Some host → host < host_len
host_of-inside host_len rs addr host inside is =
    let found = host_of-found rs addr host is in
    let r : Region = found.0 in
    let covered : covers r addr ≡ true = find-passes (λ s. covers s addr) rs r found.1 in
    let within : IsInside host_len r = All-find (IsInside host_len) (λ s. covers s addr) rs r inside found.1 in
    let at : r.host + (addr - r.guest) ≡ host = found.2 in
    let end : r.host + r.len ≤ host_len = within.host in
    grind (arith, nat_tests)

-- and below 2 to the 64
pub host_of-high : (host_len : ℕ) (rs : List Region) (addr : ℕ) → All (IsInside host_len) rs → 2 ^ 64 ≤ addr
    → host_of rs addr ≡ None
host_of-high host_len [] addr inside high = refl
host_of-high host_len (r ∷ rs) addr inside high =
    let within : IsInside host_len r = All-head (IsInside host_len) r rs inside in
    let end : r.guest + r.len ≤ 2 ^ 64 = within.guest in
    let outside : covers r addr ≡ false = grind (arith, nat_tests) in
    host_of-other r rs addr outside ∙ host_of-high host_len rs addr (All-tail (IsInside host_len) r rs inside) high

-- ---- runs

-- the run from a covered address to the end of its region
pub IsContiguous-front : (rs : List Region) (r : Region) (addr : ℕ) → AllPairs IsApart rs
    → find (λ s. covers s addr) rs ≡ Some r
    → IsContiguous rs addr (r.host + (addr - r.guest)) (r.len - (addr - r.guest))
IsContiguous-front rs r addr apart found =
    let covered : covers r addr ≡ true = find-passes (λ s. covers s addr) rs r found in
    record { nonempty = grind (arith, nat_tests); contiguous = λ i below. host_of-front rs r addr i apart found below }

-- a front of a run is a run
pub IsContiguous-take : (rs : List Region) (addr host n k : ℕ) → IsContiguous rs addr host n → 0 < k → k ≤ n
    → IsContiguous rs addr host k
IsContiguous-take rs addr host n k run some within =
    record { nonempty = some; contiguous = λ i below. run.contiguous i (omega arith) }

-- a run and the front of another that goes on where it ends
pub IsContiguous-append : (rs : List Region) (addr host n m k : ℕ) → IsContiguous rs addr host n
    → IsContiguous rs (addr + n) (host + n) m → k ≤ m → IsContiguous rs addr host (n + k)
IsContiguous-append rs addr host n m k run next within = record {
  nonempty = let some = run.nonempty in omega arith;
  contiguous = λ i below.
      elim (cases_lt i n) [
        | inl low ↦ run.contiguous i low
        | inr high ↦
            let at : host_of rs (addr + n + (i - n)) ≡ Some (host + n + (i - n)) = next.contiguous (i - n) (omega arith) in
            let a : addr + n + (i - n) ≡ addr + i = omega arith in
            let h : host + n + (i - n) ≡ host + i = omega arith in
            cc
      ];
}

-- a run ends inside the host
pub IsContiguous-inside : (host_len : ℕ) (rs : List Region) (addr host n : ℕ) → All (IsInside host_len) rs
    → IsContiguous rs addr host n → host + n ≤ host_len
IsContiguous-inside host_len rs addr host n inside run =
    let some : 0 < n = run.nonempty in
    let last = host_of-inside host_len rs (addr + (n - 1)) (host + (n - 1)) inside (run.contiguous (n - 1) (omega arith)) in
    omega (arith, last)

-- the region that is found for an address has it
pub found-covers : (rs : List Region) (addr : ℕ) (r : Region) → find (λ s. covers s addr) rs ≡ Some r
    → (r.guest ≤ addr) × (addr - r.guest < r.len)
found-covers rs addr r found =
    let covered : covers r addr ≡ true = find-passes (λ s. covers s addr) rs r found in
    (grind (arith, nat_tests), grind (arith, nat_tests))

-- and ends inside the host
pub found-inside : (host_len : ℕ) (rs : List Region) (addr : ℕ) (r : Region) → All (IsInside host_len) rs
    → find (λ s. covers s addr) rs ≡ Some r → r.host + r.len ≤ host_len
found-inside host_len rs addr r inside found =
    let within : IsInside host_len r = All-find (IsInside host_len) (λ s. covers s addr) rs r inside found in within.host

-- the longest run is one
pub IsLongestRun-one : (rs : List Region) (addr len h n k m : ℕ) → IsLongestRun rs addr len h n
    → IsLongestRun rs addr len k m → (h ≡ k) × (n ≡ m)
IsLongestRun-one rs addr len h n k m one other =
    let at_h : host_of rs (addr + 0) ≡ Some (h + 0) = one.run.contiguous 0 one.run.nonempty in
    let at_k : host_of rs (addr + 0) ≡ Some (k + 0) = other.run.contiguous 0 other.run.nonempty in
    let sums : h + 0 ≡ k + 0 = cc in
    let same : h ≡ k = omega arith in
    let fits_n : n ≤ len = one.within in
    let fits_m : m ≤ len = other.within in (
      same,
      elim (cases_lt n m) [
        | inl less ↦ absurd (one.longest (omega arith) (other.run.contiguous n less ∙ ap (λ x. Some (x + n)) (sym same)))
        | inr no_less ↦ elim (cases_lt m n) [
          | inl more ↦ absurd (other.longest (omega arith) (one.run.contiguous m more ∙ ap (λ x. Some (x + m)) same))
          | inr no_more ↦ omega arith
        ]
      ],
    )

-- ---- the map, and back

-- a host address that is mapped by regions lies in none that is apart from them
host_of-apart : (r : Region) (rs : List Region) (addr at : ℕ) → All (IsApart r) rs → host_of rs addr ≡ Some at → covers_host r at ≡ false
host_of-apart r [] addr at apart e = cc
host_of-apart r (s ∷ rs) addr at apart e =
    (elim (covers s addr) as (λ b. covers s addr ≡ b → cond b (Some (s.host + (addr - s.guest))) (host_of rs addr) ≡ Some at → covers_host r at ≡ false) [
      | true ↦ λ is same.
          let here : s.host + (addr - s.guest) ≡ at = cc in
          in_another (covers_host r at) refl (subst (λ x. covers_host s x ≡ true) here (in_region s addr is))
      | false ↦ λ is same. host_of-apart r rs addr at (All-tail (IsApart r) s rs apart) same
    ]) refl e
  where
    in_region : (q : Region) (a : ℕ) → covers q a ≡ true → covers_host q (q.host + (a - q.guest)) ≡ true
    in_region q a is = grind (arith, nat_tests)

    in_another : (b : Bool) → covers_host r at ≡ b → covers_host s at ≡ true → b ≡ false
    in_another true is there = let not_there = (All-head (IsApart r) s rs apart).host at is in cc
    in_another false is there = refl

-- the host address of a guest address leads back to it
pub guest_of-host : (rs : List Region) (addr at : ℕ) → AllPairs IsApart rs → host_of rs addr ≡ Some at → guest_of rs at ≡ Some addr
guest_of-host [] addr at apart e = cc
guest_of-host (r ∷ rs) addr at apart e =
    (elim (covers r addr) as (λ b. covers r addr ≡ b → cond b (Some (r.host + (addr - r.guest))) (host_of rs addr) ≡ Some at → guest_of (r ∷ rs) at ≡ Some addr) [
      | true ↦ λ is same.
          let here : r.host + (addr - r.guest) ≡ at = cc in
          subst (λ x. guest_of (r ∷ rs) x ≡ Some addr) here (back is)
      | false ↦ λ is same.
          let outside : covers_host r at ≡ false = host_of-apart r rs addr at (AllPairs-head IsApart r rs apart) same in
          rw outside (guest_of-host rs addr at (AllPairs-tail IsApart r rs apart) same)
    ]) refl e
  where
    back : covers r addr ≡ true → guest_of (r ∷ rs) (r.host + (addr - r.guest)) ≡ Some addr
    back is =
        (let inside : covers_host r (r.host + (addr - r.guest)) ≡ true = grind (arith, nat_tests) in
        let place : r.guest + (r.host + (addr - r.guest) - r.host) ≡ addr = grind (arith, nat_tests) in
        rw inside (ap (λ n. Some n) place))

-- the guest address of a host address leads back to it
pub host_of-guest : (rs : List Region) (at addr : ℕ) → AllPairs IsApart rs → guest_of rs at ≡ Some addr → host_of rs addr ≡ Some at
host_of-guest [] at addr apart e = cc
host_of-guest (r ∷ rs) at addr apart e =
    (elim (covers_host r at) as (λ b. covers_host r at ≡ b → cond b (Some (r.guest + (at - r.host))) (guest_of rs at) ≡ Some addr → host_of (r ∷ rs) addr ≡ Some at) [
      | true ↦ λ is same.
          let here : r.guest + (at - r.host) ≡ addr = cc in
          subst (λ a. host_of (r ∷ rs) a ≡ Some at) here (back is)
      | false ↦ λ is same.
          let rest = host_of-guest rs at addr (AllPairs-tail IsApart r rs apart) same in
          host_of-other r rs addr (uncovered rest) ∙ rest
    ]) refl e
  where
    back : covers_host r at ≡ true → host_of (r ∷ rs) (r.guest + (at - r.host)) ≡ Some at
    back is =
        (let inside : covers r (r.guest + (at - r.host)) ≡ true = grind (arith, nat_tests) in
        let place : r.host + (r.guest + (at - r.host) - r.guest) ≡ at = grind (arith, nat_tests) in
        rw inside (ap (λ n. Some n) place))

    uncovered : host_of rs addr ≡ Some at → covers r addr ≡ false
    uncovered rest =
        let found = host_of-found rs addr at rest in
        let clear : IsApart r found.0 = All-find (IsApart r) (λ s. covers s addr) rs found.0 (AllPairs-head IsApart r rs apart) found.1 in
        covers-apart r found.0 addr clear (find-passes (λ s. covers s addr) rs found.0 found.1)
