-- The guests' shares of a lane's tags, added up and changed.
use Rattle.std.proofs.Common.{◌≡◌, ℕ, zero, suc, ◌+◌, ◌<◌, ◌≤◌, List, [], ◌∷◌, get_or, set, slice_get, sum, sum_by, take, Some, arith, ap}
use Rattle.std.proofs.lemmas.List.Sums.{get_or-le-sum_by, sum_by-set, sum_by_more, sum_by_more_le}
use Rattle.nv_host.specs.Shares.{AreShares, most_needed, needed_in_all}
use Rattle.nv_laws_sound.proofs.Lists.{slice_get-below, some-same}
use Rattle.nv_world_model.specs.Area.{tag_count}
use Rattle.nv_world_model.specs.Geometry.{Guest}

got : {X : Type 0} (xs : List X) (i : ℕ) (x d : X) → slice_get xs i ≡ Some x → get_or xs i d ≡ x
got [] i x d at = cc
got (y ∷ xs) zero x d at = some-same y x at
got (y ∷ xs) (suc i) x d at = got xs i x d at

-- of some guests the shares are counted, and so many tags are left
abbrev pub AreCounted : (guests : List Guest) (spare : List ℕ) (i left : ℕ) → Type 0
AreCounted guests spare i left = left + (sum_by most_needed (take i guests) + sum (take i spare)) ≡ tag_count

-- one more guest's is counted
module _ (guests : List Guest) (spare : List ℕ) (are : AreShares guests spare) (i left : ℕ) (counted : AreCounted guests spare i left)
    (g : Guest) (n : ℕ) (there : slice_get guests i ≡ Some g) (has : slice_get spare i ≡ Some n) where
  pub left-enough : most_needed g + n ≤ left
  left-enough =
      (let below = slice_get-below guests i g there in
      let low = slice_get-below spare i n has in
      let needed = sum_by_more_le most_needed guests i g below in
      let more = sum_by_more_le (λ (k : ℕ). k) spare i 0 low in
      let one = ap most_needed (got guests i g g there) in
      let two = got spare i n 0 has in
      let all = are.enough in
      omega (arith, needed, more, one, two, all, counted))

  pub next-counted : (now : ℕ) → now + (most_needed g + n) ≡ left → AreCounted guests spare (i + 1) now
  next-counted now less =
      (let below = slice_get-below guests i g there in
      let low = slice_get-below spare i n has in
      let needed = sum_by_more most_needed guests i g below in
      let more = sum_by_more (λ (k : ℕ). k) spare i 0 low in
      let one = ap most_needed (got guests i g g there) in
      let two = got spare i n 0 has in
      omega (arith, needed, more, one, two, counted, less))

-- a guest has another share
module _ (guests : List Guest) (spare : List ℕ) (unshared : ℕ) (all : needed_in_all guests + (sum spare + unshared) ≡ tag_count) (i n more : ℕ)
    (has : slice_get spare i ≡ Some n) where
  abbrev now : ℕ
  now = sum (set spare i more)

  changed : now + n ≡ sum spare + more
  changed =
      (let low = slice_get-below spare i n has in
      let other = sum_by-set (λ (k : ℕ). k) spare i more 0 low in
      let two = got spare i n 0 has in
      omega (arith, other, two))

  pub too-large : n + unshared < more → tag_count < needed_in_all guests + now
  too-large above = (let e = changed in omega (arith, e, above, all))

  pub still-enough : more ≤ n + unshared → needed_in_all guests + now ≤ tag_count
  still-enough few = (let e = changed in omega (arith, e, few, all))

  pub share-small : more ≤ n + unshared → more < 256
  share-small few =
      (let low = slice_get-below spare i n has in
      let part = get_or-le-sum_by (λ (k : ℕ). k) spare i 0 low in
      let two = got spare i n 0 has in
      omega (arith, part, two, few, all))
