-- Lemmas on the order of regions by guest address: what the region of a rank tells of the others, and the search for a rank.
use Rattle.std.proofs.Common.{◌≡◌, ◌≢◌, ℕ, zero, suc, ◌+◌, ◌-◌, ◌*◌, ◌<◌, ◌≤◌, ◌⊎◌, true, false}
use Rattle.std.proofs.Common.{cond, leb, List, [], ◌∷◌, length, get_or, Some, None, arith, refl, sym, ap, ◌∙◌, subst, inl, inr}
use Rattle.std.proofs.lemmas.Bool.Decides.{nat_tests}
use Rattle.std.proofs.lemmas.Bool.{cases_lt}
use Rattle.std.proofs.lemmas.List.Elements.{All-head, All-tail}
use Rattle.std.proofs.lemmas.List.{get_or_default}
use Rattle.std.proofs.lemmas.List.Sorted.{All-permutation, Contains-permutation, length_permutation}
use Rattle.std.specs.List.{All, AllPairs, Contains, find}
use Rattle.std.specs.List.Sorted.{IsNonDecreasingBy, IsPermutation}
use Rattle.nv_mem.specs.declared.region.Region.{Region}
use Rattle.nv_mem.specs.GuestMap.{covers, IsApart, IsPaged}
use Rattle.nv_mem.specs.GuestOrder.{IsGuestOrder, IsWindow, begin_of, ranked_begin}
use Rattle.nv_mem.proofs.Images.{AllPairs-head, AllPairs-tail, covers-apart}

-- ---- the region that covers an address

-- it is the one that is found, wherever it stands
pub find-covering : (rs : List Region) (place addr : ℕ) (d : Region) → AllPairs IsApart rs → place < length rs
    → covers (get_or rs place d) addr ≡ true → find (λ r. covers r addr) rs ≡ Some (get_or rs place d)
find-covering [] place addr d apart below covered = absurd (omega arith)
find-covering (r ∷ rs) zero addr d apart below covered = rw covered
find-covering (r ∷ rs) (suc place) addr d apart below covered =
    let less : place < length rs = omega arith in
    let other : covers r addr ≡ false = covers-apart r (get_or rs place d) addr (AllPairs-head IsApart r rs apart place d less) covered in
    rw other (find-covering rs place addr d (AllPairs-tail IsApart r rs apart) less covered)

-- where none covers it, none is found
pub find-uncovered : (rs : List Region) (addr : ℕ) → All (λ r. covers r addr ≡ false) rs → find (λ r. covers r addr) rs ≡ None
find-uncovered [] addr none = refl
find-uncovered (r ∷ rs) addr none =
    let head : covers r addr ≡ false = All-head (λ s. covers s addr ≡ false) r rs none in
    rw head (find-uncovered rs addr (All-tail (λ s. covers s addr ≡ false) r rs none))

-- ---- what the order tells

-- where the region at a place begins
pub begin_of-get_or : (rs : List Region) (place : ℕ) (d : Region) → place < length rs → begin_of rs place ≡ (get_or rs place d).guest
begin_of-get_or [] place d below = absurd (omega arith)
begin_of-get_or (r ∷ rs) zero d below = refl
begin_of-get_or (r ∷ rs) (suc place) d below = begin_of-get_or rs place d (omega arith)

-- regions at two places have no guest address in common
apart-at : (rs : List Region) (i j addr : ℕ) (d : Region) → AllPairs IsApart rs → i ≢ j → i < length rs → j < length rs
    → covers (get_or rs i d) addr ≡ true → covers (get_or rs j d) addr ≡ false
apart-at rs i j addr d apart differ below_i below_j covered =
    elim (cases_lt i j) [
      | inl less ↦ (apart i j d less below_j).guest addr covered
      | inr more ↦ covers-apart (get_or rs j d) (get_or rs i d) addr (apart j i d (omega arith) below_i) covered
    ]

-- a region that begins before another one ends before it
ends-before : (r s : Region) (addr : ℕ) → (covers s s.guest ≡ true → covers r s.guest ≡ false) → 0 < s.len → r.guest ≤ s.guest → s.guest ≤ addr
    → covers r addr ≡ false
ends-before r s addr clear some order behind =
    let first : covers s s.guest ≡ true = grind (arith, nat_tests) in
    let other : covers r s.guest ≡ false = clear first in
    grind (arith, nat_tests)

-- a region that begins behind an address does not cover it
begins-behind : (r : Region) (addr : ℕ) → addr < r.guest → covers r addr ≡ false
begins-behind r addr behind = grind (arith, nat_tests)

-- where the last region that begins at or before an address does not cover it, none does
pub uncovered-ranked : (rs : List Region) (places : List ℕ) (addr rank : ℕ) → IsGuestOrder rs places → All IsPaged rs → AllPairs IsApart rs
    → IsWindow (ranked_begin rs places) (length rs) addr rank 1 → ((d : Region) → covers (get_or rs (get_or places rank 0) d) addr ≡ false)
    → All (λ r. covers r addr ≡ false) rs
uncovered-ranked rs places addr rank order paged apart last uncovered = λ place d below.
    let at = order.complete place below in
    let here : place < length rs = below in
    let there : get_or places rank 0 < length rs = order.within rank (let w = last.within in omega arith) in
    elim (cases_lt rank at.0) [
      | inl behind ↦
          let begins : addr < ranked_begin rs places at.0 = last.later at.0 (omega arith) at.1 in
          let same : ranked_begin rs places at.0 ≡ (get_or rs place d).guest = ap (begin_of rs) at.2 ∙ begin_of-get_or rs place d below in
          begins-behind (get_or rs place d) addr (omega arith)
      | inr not_behind ↦ at_or_before place d here there at.0 (omega arith) at.2
    ]
  where
    begun : (place k : ℕ) → k ≤ rank → get_or places k 0 ≡ place → place ≢ get_or places rank 0 → ranked_begin rs places rank ≤ addr
    begun place k order_k is differ =
        elim (cases_lt k rank) [
          | inl less ↦ last.begun (omega arith)
          | inr not_less ↦ (let e : k ≡ rank = omega arith in absurd (differ (sym is ∙ ap (λ n. get_or places n 0) e)))
        ]

    before : (place : ℕ) (d : Region) → place < length rs → get_or places rank 0 < length rs → (k : ℕ) → k ≤ rank → get_or places k 0 ≡ place
        → place ≢ get_or places rank 0 → covers (get_or rs place d) addr ≡ false
    before place d here there k order_k is differ =
        let within : rank < length rs = (let w = last.within in omega arith) in
        let ascends : ranked_begin rs places k ≤ ranked_begin rs places rank = order.ascending k rank order_k within in
        let first : ranked_begin rs places k ≡ (get_or rs place d).guest = ap (begin_of rs) is ∙ begin_of-get_or rs place d here in
        let second : ranked_begin rs places rank ≡ (get_or rs (get_or places rank 0) d).guest = begin_of-get_or rs (get_or places rank 0) d there in
        ends-before (get_or rs place d) (get_or rs (get_or places rank 0) d) addr
        (λ covered. apart-at rs (get_or places rank 0) place (get_or rs (get_or places rank 0) d).guest d apart (λ e. differ (sym e)) there here covered)
        ((paged (get_or places rank 0) d there).nonempty)
        (omega arith)
        (let start = begun place k order_k is differ in omega arith)

    at_or_before : (place : ℕ) (d : Region) → place < length rs → get_or places rank 0 < length rs → (k : ℕ) → k ≤ rank → get_or places k 0 ≡ place
        → covers (get_or rs place d) addr ≡ false
    at_or_before place d here there k order_k is =
        elim (cases_lt place (get_or places rank 0)) [
          | inl less ↦ before place d here there k order_k is (omega arith)
          | inr not_less ↦ elim (cases_lt (get_or places rank 0) place) [
            | inl more ↦ before place d here there k order_k is (omega arith)
            | inr same ↦ (let e : get_or places rank 0 ≡ place = omega arith in
                let P : ℕ → Type 0 = λ n. covers (get_or rs n d) addr ≡ false in subst P e (uncovered d))
          ]
        ]

-- ---- the search

-- at first any rank may be it
pub IsWindow-all : (begins : ℕ → ℕ) (count addr : ℕ) → 0 < count → IsWindow begins count addr 0 count
IsWindow-all begins count addr some =
    record { nonempty = some; within = omega arith; begun = λ more. absurd (omega arith); later = λ k past below. absurd (omega arith) }

-- a look at a rank tells on which side of it the last one is
looked : (begin addr look : ℕ) → look ≡ cond (leb begin addr) 1 0 → ((look ≡ 1) × (begin ≤ addr)) ⊎ ((look ≡ 0) × (addr < begin))
looked begin addr look is =
    elim (cases_lt addr begin) [
      | inl behind ↦ inr (grind (arith, nat_tests), behind)
      | inr at ↦ inl (grind (arith, nat_tests), omega arith)
    ]

-- what is behind a look that tells that the last rank is before it
behind : (begins : ℕ → ℕ) (count addr at : ℕ) → ((j k : ℕ) → j ≤ k → k < count → begins j ≤ begins k) → addr < begins at
    → (k : ℕ) → at ≤ k → k < count → addr < begins k
behind begins count addr at ascending after k past below = omega (arith, ascending at k past below)

-- one look in the middle leaves one part
pub IsWindow-half : (begins : ℕ → ℕ) (count addr rank size half look : ℕ) → ((j k : ℕ) → j ≤ k → k < count → begins j ≤ begins k)
    → IsWindow begins count addr rank size → 0 < half → half + half ≤ size → look ≡ cond (leb (begins (rank + half)) addr) 1 0
    → IsWindow begins count addr (rank + half * look) (size - half)
IsWindow-half begins count addr rank size half look ascending window some fits is =
    let P : ℕ → Type 0 = λ at. IsWindow begins count addr at (size - half) in
    let w = window.within in
    elim (looked (begins (rank + half)) addr look is) [
      | inl (e, at) ↦
          let same : rank + half ≡ rank + half * look = rw e (omega arith) in
          subst P same (record {
            nonempty = omega arith;
            within = omega arith;
            begun = λ _. at;
            later = λ k past below. window.later k (omega arith) below;
          })
      | inr (e, after) ↦
          let same : rank ≡ rank + half * look = rw e (omega arith) in
          subst P same (record {
            nonempty = omega arith;
            within = omega arith;
            begun = window.begun;
            later = λ k past below. behind begins count addr (rank + half) ascending after k (omega arith) below;
          })
    ]

-- three looks leave one of four parts
pub IsWindow-quarter : (begins : ℕ → ℕ) (count addr rank size quarter a b c : ℕ) → ((j k : ℕ) → j ≤ k → k < count → begins j ≤ begins k)
    → IsWindow begins count addr rank size → 0 < quarter → 4 * quarter ≤ size
    → a ≡ cond (leb (begins (rank + quarter)) addr) 1 0 → b ≡ cond (leb (begins (rank + 2 * quarter)) addr) 1 0
    → c ≡ cond (leb (begins (rank + 3 * quarter)) addr) 1 0
    → IsWindow begins count addr (rank + quarter * (a + b + c)) (size - 3 * quarter)
IsWindow-quarter begins count addr rank size quarter a b c ascending window some fits is_a is_b is_c =
    let P : ℕ → Type 0 = λ at. IsWindow begins count addr at (size - 3 * quarter) in
    let w = window.within in
    let ab : begins (rank + quarter) ≤ begins (rank + 2 * quarter) = ascending _ _ (omega arith) (omega arith) in
    let bc : begins (rank + 2 * quarter) ≤ begins (rank + 3 * quarter) = ascending _ _ (omega arith) (omega arith) in
    elim (looked (begins (rank + quarter)) addr a is_a) [
      | inr (ea, after) ↦ elim (looked (begins (rank + 2 * quarter)) addr b is_b) [
        | inl (eb, at) ↦ absurd (omega arith)
        | inr (eb, _) ↦ elim (looked (begins (rank + 3 * quarter)) addr c is_c) [
          | inl (ec, at) ↦ absurd (omega arith)
          | inr (ec, _) ↦
              let same : rank ≡ rank + quarter * (a + b + c) = rw (ea, eb, ec) (omega arith) in
              subst P same (record {
                nonempty = omega arith;
                within = omega arith;
                begun = window.begun;
                later = λ k past below. behind begins count addr (rank + quarter) ascending after k (omega arith) below;
              })
        ]
      ]
      | inl (ea, at_a) ↦ elim (looked (begins (rank + 2 * quarter)) addr b is_b) [
        | inr (eb, after) ↦ elim (looked (begins (rank + 3 * quarter)) addr c is_c) [
          | inl (ec, at) ↦ absurd (omega arith)
          | inr (ec, _) ↦
              let same : rank + quarter ≡ rank + quarter * (a + b + c) = rw (ea, eb, ec) (omega arith) in
              subst P same (record {
                nonempty = omega arith;
                within = omega arith;
                begun = λ _. at_a;
                later = λ k past below. behind begins count addr (rank + 2 * quarter) ascending after k (omega arith) below;
              })
        ]
        | inl (eb, at_b) ↦ elim (looked (begins (rank + 3 * quarter)) addr c is_c) [
          | inr (ec, after) ↦
              let same : rank + 2 * quarter ≡ rank + quarter * (a + b + c) = rw (ea, eb, ec) (omega arith) in
              subst P same (record {
                nonempty = omega arith;
                within = omega arith;
                begun = λ _. at_b;
                later = λ k past below. behind begins count addr (rank + 3 * quarter) ascending after k (omega arith) below;
              })
          | inl (ec, at_c) ↦
              let same : rank + 3 * quarter ≡ rank + quarter * (a + b + c) = rw (ea, eb, ec) (omega arith) in
              subst P same (record {
                nonempty = omega arith;
                within = omega arith;
                begun = λ _. at_c;
                later = λ k past below. window.later k (omega arith) below;
              })
        ]
      ]
    ]

-- ---- the order that a sort makes

-- the places of a list, in the order of the regions that they name
pub IsGuestOrder-sorted : (rs : List Region) (before after places : List ℕ) → ((k : ℕ) → k < length rs → get_or before k 0 ≡ k) → length before ≡ length rs
    → IsPermutation before after → IsNonDecreasingBy (begin_of rs) after → ((k : ℕ) → k < length rs → get_or places k 0 ≡ get_or after k 0)
    → IsGuestOrder rs places
IsGuestOrder-sorted rs before after places is_before long moved ascending is =
    let long_after : length after ≡ length before = length_permutation before after moved in
    record {
      within = λ rank below.
          let all : All (λ n. n < length rs) after = All-permutation (λ n. n < length rs) before after moved (λ k d less. before_within k d (omega arith)) in
          let here : get_or after rank 0 < length rs = all rank 0 (omega arith) in
          rw (is rank below) here;
      complete = λ place below.
          let there : Contains before place = (place, omega arith, get_or_default before place place 0 (omega arith) ∙ is_before place below) in
          let found = Contains-permutation before after place moved there in
          let less : found.0 < length rs = (let l = found.1 in omega arith) in
          (found.0, less, is found.0 less ∙ (get_or_default after found.0 0 place found.1 ∙ found.2));
      ascending = λ j k order below.
          let sorted : begin_of rs (get_or after j 0) ≤ begin_of rs (get_or after k 0) = ascending j k 0 order (omega arith) in
          rw (is j (omega arith), is k below) sorted;
    }
  where
    before_within : (k d : ℕ) → k < length rs → get_or before k d < length rs
    before_within k d less =
        let same : get_or before k d ≡ k = get_or_default before k d 0 (omega arith) ∙ is_before k less in
        omega arith
