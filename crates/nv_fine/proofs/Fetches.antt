-- What a call has fetched fits what it wants.
use Rattle.std.proofs.Common.{◌≡◌, ℕ, zero, suc, ◌+◌, ◌<◌, ◌≤◌, ◌⊎◌, inl, inr, ⊎_elim, List, [], ◌∷◌, ◌++◌, drop, length, slice_get, take, Option, Some, None, arith, refl, ap}
use Rattle.std.proofs.lemmas.Bool.{cases_lt}
use Rattle.std.specs.List.{range_with_len}
use Rattle.std.proofs.lemmas.List.{length-append, length-drop, take-append-le}
use Rattle.nv_fine.specs.Fine.{at_once, next_fetch, wanted}
use Rattle.nv_laws_sound.specs.Side.{Side}
use Rattle.nv_machine.specs.Contained.{IsFetched}
use Rattle.nv_machine.specs.Machine.{fetch, fetch_then, from_one}
use Rattle.nv_world_model.specs.Area.{completion_slot}
use Rattle.nv_world_model.specs.Geometry.{Geometry}
use Rattle.nv_world_model.specs.World.{Lane}
use Rattle.nv_world_model.specs.declared.event.Event.{Event}
use Rattle.nv_world_model.specs.declared.event.Event.TheVariants as event

-- ---- lists

take-at-most : (k : ℕ) (xs : List ℕ) → length (take k xs) ≤ k
take-at-most zero xs = omega arith
take-at-most (suc k) [] = omega arith
take-at-most (suc k) (x ∷ xs) = (let is = take-at-most k xs in omega (arith, is))

take-within : (k : ℕ) (xs : List ℕ) → length (take k xs) ≤ length xs
take-within zero xs = omega arith
take-within (suc k) [] = omega arith
take-within (suc k) (x ∷ xs) = (let is = take-within k xs in omega (arith, is))

take-nothing : (k : ℕ) (xs : List ℕ) → 0 < k → take k xs ≡ [] → length xs ≡ 0
take-nothing zero xs some is = absurd (omega (arith, some))
take-nothing (suc k) [] some is = refl
take-nothing (suc k) (x ∷ xs) some is = cc

-- ---- at once

at-once-some : (e : Event) (fetched : List ℕ) → 0 < at_once e fetched
at-once-some (event.Guest guest a) fetched = omega arith
at-once-some (event.Admin guest) fetched = omega arith
at-once-some (event.Take guest queue lane) fetched = omega arith
at-once-some (event.List lane tag addr len) fetched = omega arith
at-once-some (event.Submit lane tag) fetched = omega arith
at-once-some (event.GiveUp lane tag) fetched = omega arith
at-once-some (event.DevTake lane) fetched = omega arith
at-once-some (event.DevMove lane slot number) fetched = omega arith
at-once-some (event.DevPost lane slot) fetched = omega arith
at-once-some (event.DevFail lane slot st) fetched = omega arith
at-once-some (event.Keep block) fetched = omega arith
at-once-some (event.Reap lane) [] = omega arith
at-once-some (event.Reap lane) (byte ∷ fetched) = omega arith
at-once-some (event.Post lane tag) fetched = omega arith

-- all that is fetched first is there, or there is room for what is fetched at once
abbrev Fits : (size many once : ℕ) → Type 0
Fits size many once = (size ≤ many) ⊎ (many + once ≤ size)

fits-one : (size many : ℕ) → Fits size many 1
fits-one size many = ⊎_elim (λ below. inr (omega (arith, below))) (λ above. inl above) (cases_lt many size)

dword-fits : (mediator lane : ℕ) (o : Option Lane) → Fits (length (from_one o (λ l. range_with_len (completion_slot mediator lane l.head + 12) 4))) 0 4
dword-fits mediator lane None = inl (omega arith)
dword-fits mediator lane (Some l) = inr (omega arith)

reap-fits : (geometry : Geometry) (s : Side) (lane : ℕ) → Fits (length (fetch geometry (event.Reap lane) s)) 0 4
unfolding fetch
reap-fits geometry s lane = dword-fits geometry.mediator lane (slice_get s.lanes lane)

fits : (geometry : Geometry) (s : Side) (e : Event) (fetched : List ℕ) → Fits (length (fetch geometry e s)) (length fetched) (at_once e fetched)
fits geometry s (event.Guest guest a) fetched = fits-one (length (fetch geometry (event.Guest guest a) s)) (length fetched)
fits geometry s (event.Admin guest) fetched = fits-one (length (fetch geometry (event.Admin guest) s)) (length fetched)
fits geometry s (event.Take guest queue lane) fetched = fits-one (length (fetch geometry (event.Take guest queue lane) s)) (length fetched)
fits geometry s (event.List lane tag addr len) fetched = fits-one (length (fetch geometry (event.List lane tag addr len) s)) (length fetched)
fits geometry s (event.Submit lane tag) fetched = fits-one (length (fetch geometry (event.Submit lane tag) s)) (length fetched)
fits geometry s (event.GiveUp lane tag) fetched = fits-one (length (fetch geometry (event.GiveUp lane tag) s)) (length fetched)
fits geometry s (event.DevTake lane) fetched = fits-one (length (fetch geometry (event.DevTake lane) s)) (length fetched)
fits geometry s (event.DevMove lane slot number) fetched = fits-one (length (fetch geometry (event.DevMove lane slot number) s)) (length fetched)
fits geometry s (event.DevPost lane slot) fetched = fits-one (length (fetch geometry (event.DevPost lane slot) s)) (length fetched)
fits geometry s (event.DevFail lane slot st) fetched = fits-one (length (fetch geometry (event.DevFail lane slot st) s)) (length fetched)
fits geometry s (event.Keep block) fetched = fits-one (length (fetch geometry (event.Keep block) s)) (length fetched)
fits geometry s (event.Reap lane) [] = reap-fits geometry s lane
fits geometry s (event.Reap lane) (byte ∷ fetched) = fits-one (length (fetch geometry (event.Reap lane) s)) (length (byte ∷ fetched))
fits geometry s (event.Post lane tag) fetched = fits-one (length (fetch geometry (event.Post lane tag) s)) (length fetched)

module _ (geometry : Geometry) (s : Side) (e : Event) (fetched : List ℕ) where
  abbrev first : List ℕ
  first = fetch geometry e s

  abbrev then : List ℕ → List ℕ
  then bytes = fetch_then geometry e s (take (length first) bytes)

  -- where nothing is to be fetched, all is
  pub fetched-all : length fetched ≤ length (wanted geometry s e fetched) → next_fetch geometry s e fetched ≡ [] → IsFetched geometry e s fetched
  fetched-all below none =
      let rest : length (drop (length fetched) (first ++ then fetched)) ≡ 0 =
      take-nothing (at_once e fetched) (drop (length fetched) (first ++ then fetched)) (at-once-some e fetched) none in
      let size = length-drop (length fetched) (first ++ then fetched) in
      let sum = length-append first (then fetched) in
      omega (arith, below, rest, size, sum)

  -- and what was fetched fits still with what is fetched next
  pub fetched-fits : (bytes : List ℕ) → length bytes ≡ length (next_fetch geometry s e fetched) → length fetched ≤ length (wanted geometry s e fetched)
      → length (fetched ++ bytes) ≤ length (wanted geometry s e (fetched ++ bytes))
  fetched-fits bytes many below =
      let more = length-append fetched bytes in
      let sum = length-append first (then (fetched ++ bytes)) in
      let before = length-append first (then fetched) in
      let left = length-drop (length fetched) (first ++ then fetched) in
      let once = take-at-most (at_once e fetched) (drop (length fetched) (first ++ then fetched)) in
      let within = take-within (at_once e fetched) (drop (length fetched) (first ++ then fetched)) in
      ⊎_elim (λ there.
      let same : length (then (fetched ++ bytes)) ≡ length (then fetched) =
      ap (λ (xs : List ℕ). length (fetch_then geometry e s xs)) (take-append-le (length first) fetched bytes there) in
      omega (arith, many, below, more, sum, before, left, within, same))
      (λ room. omega (arith, many, more, sum, once, room)) (fits geometry s e fetched)
