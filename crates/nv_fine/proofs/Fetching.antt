-- A call begins and fetches: what a Reap has read is a completion that was posted.
use Rattle.std.proofs.Common.{◌≡◌, ◌≢◌, ℕ, zero, suc, ◌+◌, ◌<◌, ◌≤◌, Bool, true, false, cond, not, ◌==◌, nat_le, nat_lt, List, [], ◌∷◌, ◌++◌, drop, length, map, replicate, slice_get, take, All}
use Rattle.std.proofs.Common.{Option, Some, arith, eq-eqb, le-leb, lt-ltb, refl, sym, ap, ◌∙◌, subst}
use Rattle.std.proofs.lemmas.Bool.Decides.{nat_tests}
use Rattle.std.proofs.lemmas.List.{length-append, length-map, take-append-le}
use Rattle.std.proofs.lemmas.List.Elements.{All-append, All-drop, All-nil, All-take}
use Rattle.std.proofs.lemmas.List.FromFn.{length-range_with_len}
use Rattle.std.specs.List.{range_with_len}
use Rattle.nv_entry.specs.Completion.{phase_of}
use Rattle.nv_entry.specs.Layout.{dword, number_at}
use Rattle.nv_entry.specs.Status.{bit}
use Rattle.nv_fine.proofs.Mirrors.{HasRead, Holds, is_wanted, reap_addresses}
use Rattle.nv_fine.proofs.Placed.{InRings, IsFixed, IsPlaced}
use Rattle.nv_fine.proofs.Quiets.{all-steady, call-placed, world-lane_of}
use Rattle.nv_fine.proofs.Reaped.{map-append, row-read, take-all, take-exact}
use Rattle.nv_fine.proofs.Steady.{all-parts, all-parts-on, effects_on-at, parts-each}
use Rattle.nv_fine.proofs.Within.{IsGood, map-same}
use Rattle.nv_fine.specs.Drive.{DriveLane}
use Rattle.nv_fine.specs.Fine.{Fine, call_with, fetching, next_fetch, parts_of, wanted}
use Rattle.nv_laws_sound.proofs.Lists.{slice_get-below, slice_get-there, some-same}
use Rattle.nv_laws_sound.proofs.Named.{row-all}
use Rattle.nv_laws_sound.proofs.phases.Rounds.{slot-tells}
use Rattle.nv_laws_sound.specs.LaidOut.{IsLaidOut}
use Rattle.nv_laws_sound.specs.Phased.{phase_at}
use Rattle.nv_laws_sound.specs.Side.{Side}
use Rattle.nv_machine.proofs.PlaceKept.{lane-same}
use Rattle.nv_machine.specs.Effects.{Effect, Store, effects_on, writes_to}
use Rattle.nv_machine.specs.InWorld.{side_of}
use Rattle.nv_machine.specs.Machine.{call, fetch, fetch_then, from_one, is_new}
use Rattle.nv_model.proofs.MemoryLemmas.{bytes_from-append}
use Rattle.nv_model.specs.Memory.{bytes_from}
use Rattle.nv_model.specs.Queue.{cqe_size, is_empty}
use Rattle.nv_world_model.specs.Area.{completion_slot, ring_size}
use Rattle.nv_world_model.specs.Geometry.{Geometry}
use Rattle.nv_world_model.specs.World.{Lane, World}
use Rattle.nv_world_model.specs.declared.event.Event.{Event}
use Rattle.nv_world_model.specs.declared.event.Event.TheVariants as event

-- ---- parts

store-writes : (to : ℕ) (bytes : List ℕ) (at : ℕ) → to ≤ at → at < to + length bytes → writes_to (Store to bytes) at ≡ true
store-writes to bytes at low high =
    let first : nat_le to at ≡ true = le-leb to at low in
    let second : nat_lt at (to + length bytes) ≡ true = lt-ltb at (to + length bytes) high in
    rw (first, second) refl

one-written : (to byte at : ℕ) → writes_to (Store to (byte ∷ [])) at ≡ true → to ≡ at
one-written to byte at is = grind (arith, nat_tests)

-- the parts of what is placed are placed
pub parts-placed : (geometry : Geometry) (lanes : ℕ) (s after : Side) (e : Effect) → IsPlaced geometry lanes s after e → All (IsPlaced geometry lanes s after) (parts_of e)
parts-placed geometry lanes s after e placed =
    parts-each (IsPlaced geometry lanes s after) e placed (λ to bytes is i byte inside at fixed writes.
    (let here = one-written (to + i) byte at writes in
    let there : writes_to e at ≡ true = ap (λ (x : Effect). writes_to x at) is ∙ store-writes to bytes at (omega (arith, here)) (omega (arith, here, inside)) in
    (tt, (placed at fixed there).1)))

-- ---- lists

take-nil : (n : ℕ) → take {A = ℕ} n [] ≡ []
take-nil zero = refl
take-nil (suc n) = refl

take-more : (n : ℕ) (xs : List ℕ) → take n xs ++ take 1 (drop n xs) ≡ take (n + length (take 1 (drop n xs))) xs
take-more zero [] = refl
take-more zero (x ∷ xs) = refl
take-more (suc n) [] = sym (take-nil (suc n + 0))
take-more (suc n) (x ∷ xs) =
    let more : suc n + length (take 1 (drop n xs)) ≡ suc (n + length (take 1 (drop n xs))) = omega arith in
    ap (λ (ys : List ℕ). x ∷ ys) (take-more n xs) ∙ sym (ap (λ (k : ℕ). take k (x ∷ xs)) more)

-- the last dword of a completion has its phase tag
phase-first : (host : ℕ → ℕ) (slot : ℕ) → phase_of (replicate 12 0 ++ bytes_from host (slot + 12) 4) ≡ phase_of (bytes_from host slot 16)
unfolding bytes_from dword number_at
phase-first host slot = ap phase_of (sym (bytes_from-append host slot 12 4))

-- ---- a Reap

module _ (geometry : Geometry) (s : Side) (lane : ℕ) (l : Lane) (found : slice_get s.lanes lane ≡ Some l) where
  abbrev first : List ℕ
  first = range_with_len (completion_slot geometry.mediator lane l.head + 12) 4

  abbrev rest : List ℕ
  rest = range_with_len (completion_slot geometry.mediator lane l.head) 12

  abbrev all : List ℕ
  all = reap_addresses geometry.mediator lane l.head

  first-is : fetch geometry (event.Reap lane) s ≡ first
  unfolding fetch
  first-is = ap (λ (o : Option Lane). from_one o (λ k. range_with_len (completion_slot geometry.mediator lane k.head + 12) 4)) found

  then-is : (dword : List ℕ) → fetch_then geometry (event.Reap lane) s dword ≡ cond (is_wanted l.phase dword) rest []
  unfolding fetch_then
  then-is dword = ap (λ (o : Option Lane). from_one o (λ k. cond (is_new k dword) (range_with_len (completion_slot geometry.mediator lane k.head) 12) [])) found

  size : length first ≡ 4
  size = length-range_with_len (completion_slot geometry.mediator lane l.head + 12) 4

  wanted-is : (fetched : List ℕ) → wanted geometry s (event.Reap lane) fetched ≡ first ++ cond (is_wanted l.phase (take 4 fetched)) rest []
  wanted-is fetched =
      ap (λ (xs : List ℕ). xs ++ fetch_then geometry (event.Reap lane) s (take (length xs) fetched)) first-is
      ∙ ap (λ (n : ℕ). first ++ fetch_then geometry (event.Reap lane) s (take n fetched)) size
      ∙ ap (λ (xs : List ℕ). first ++ xs) (then-is (take 4 fetched))

  module _ (host memory : ℕ → ℕ) (same : All (λ at. memory at ≡ host at) all) (posted : ℕ)
      (tells : (phase_at geometry host lane l.head == bit l.phase) ≡ true → l.head ≢ posted) where
    abbrev Read : List ℕ → Type 0
    Read fetched = HasRead geometry host lane l.head l.phase posted fetched

    abbrev Same : ℕ → Type 0
    Same at = memory at ≡ host at

    abbrev more : List ℕ → List ℕ
    more fetched = fetched ++ map memory (next_fetch geometry s (event.Reap lane) fetched)

    -- the dword with the phase tag
    begins-next : next_fetch geometry s (event.Reap lane) [] ≡ first
    begins-next =
        ap (λ (xs : List ℕ). take 4 xs) (wanted-is []) ∙ take-exact 4 first (cond (is_wanted l.phase (take 4 [])) rest []) size

    front : All Same first
    front = subst (All Same) (take-exact 4 first rest size) (All-take Same 4 all same)

    dword-is : more [] ≡ bytes_from host (completion_slot geometry.mediator lane l.head + 12) 4
    dword-is =
        ap (map memory) begins-next ∙ map-same memory host first front ∙ row-read host (completion_slot geometry.mediator lane l.head + 12) 4

    dword-size : length (more []) ≡ 4
    dword-size = length-map (next_fetch geometry s (event.Reap lane) []) memory ∙ ap (λ (xs : List ℕ). length xs) begins-next ∙ size

    take-four : (xs : List ℕ) → length xs ≡ 4 → take 4 xs ≡ xs
    take-four xs is = take-all 4 xs (omega (arith, is))

    reads-first : Read (more [])
    reads-first = λ some.
        (let long = dword-size in (
          omega (arith, long),
          λ new. (
            tells
                (ap (λ (n : ℕ). n == bit l.phase)
                (sym (phase-first host (completion_slot geometry.mediator lane l.head)) ∙ ap (λ (xs : List ℕ). phase_of (replicate 12 0 ++ xs)) (sym dword-is ∙ sym (take-four (more []) dword-size))) ∙ new),
            ap (map memory) begins-next ∙ map-same memory host first front
                ∙ ap (map host) (sym (ap (λ (n : ℕ). take n all) dword-size ∙ take-exact 4 first rest size)),
          ),
        ))

    -- another byte
    module _ (byte : ℕ) (bytes : List ℕ) (read : Read (byte ∷ bytes)) where
      abbrev old : List ℕ
      old = byte ∷ bytes

      four : 4 ≤ length (byte ∷ bytes)
      four = (read (omega arith)).0

      take-still : take 4 (more (byte ∷ bytes)) ≡ take 4 (byte ∷ bytes)
      take-still = take-append-le 4 (byte ∷ bytes) (map memory (next_fetch geometry s (event.Reap lane) (byte ∷ bytes))) four

      next-is : is_wanted l.phase (take 4 (byte ∷ bytes)) ≡ true → next_fetch geometry s (event.Reap lane) (byte ∷ bytes) ≡ take 1 (drop (length (byte ∷ bytes)) all)
      next-is new =
          ap (λ (xs : List ℕ). take 1 (drop (length (byte ∷ bytes)) xs))
          (wanted-is (byte ∷ bytes) ∙ ap (λ (b : Bool). first ++ cond b rest []) new)

      reads-more : Read (more (byte ∷ bytes))
      reads-more = λ some.
          (let sum = length-append (byte ∷ bytes) (map memory (next_fetch geometry s (event.Reap lane) (byte ∷ bytes))) in
          let enough = four in
          (omega (arith, sum, enough), λ new. longer (ap (is_wanted l.phase) (sym take-still) ∙ new)))
        where
          longer : is_wanted l.phase (take 4 (byte ∷ bytes)) ≡ true
              → (l.head ≢ posted) × (more (byte ∷ bytes) ≡ map host (take (length (more (byte ∷ bytes))) (reap_addresses geometry.mediator lane l.head)))
          longer new =
              let r = (read (omega arith)).1 new in
              let k : ℕ = length (byte ∷ bytes) in
              let step : List ℕ = take 1 (drop (length (byte ∷ bytes)) (reap_addresses geometry.mediator lane l.head)) in
              let long : length (more (byte ∷ bytes)) ≡ length (byte ∷ bytes) + length step =
              length-append (byte ∷ bytes) (map memory (next_fetch geometry s (event.Reap lane) (byte ∷ bytes)))
              ∙ ap (λ (n : ℕ). length (byte ∷ bytes) + n)
              (length-map (next_fetch geometry s (event.Reap lane) (byte ∷ bytes)) memory ∙ ap (λ (xs : List ℕ). length xs) (next-is new)) in (
                r.0,
                ap (λ (xs : List ℕ). (byte ∷ bytes) ++ map memory xs) (next-is new)
                    ∙ ap (λ (xs : List ℕ). (byte ∷ bytes) ++ xs)
                    (map-same memory host step (All-take Same 1 (drop (length (byte ∷ bytes)) all) (All-drop Same (length (byte ∷ bytes)) all same)))
                    ∙ ap (λ (xs : List ℕ). xs ++ map host step) r.1
                    ∙ sym (map-append host (take (length (byte ∷ bytes)) all) step)
                    ∙ ap (map host) (take-more (length (byte ∷ bytes)) all)
                    ∙ ap (λ (n : ℕ). map host (take n (reap_addresses geometry.mediator lane l.head))) (sym long),
              )

    pub reads-on : (fetched : List ℕ) → Read fetched → Read (more fetched)
    reads-on [] read = reads-first
    reads-on (byte ∷ bytes) read = reads-more byte bytes read

-- ---- a call fetches

module _ (host_bytes lanes : ℕ) (geometry : Geometry) (laid : IsLaidOut host_bytes lanes geometry) (f : Fine) (w : World) (good : IsGood lanes geometry f)
    (holds : Holds lanes geometry f w) (plain : (at : ℕ) → IsFixed geometry.mediator lanes at → f.outside.memory at ≡ w.host at) where
  pub fetching-holds : (e : Event) (fetched : List ℕ)
      → ((lane : ℕ) (l : Lane) (d : DriveLane) → e ≡ event.Reap lane → slice_get f.side.lanes lane ≡ Some l → slice_get f.outside.lanes lane ≡ Some d
      → HasRead geometry w.host lane l.head l.phase d.posted fetched) → Holds lanes geometry (fetching geometry e fetched f) w
  unfolding effects_on
  fetching-holds e fetched read = by (next_fetch geometry f.side e fetched)
    where
      Its : Effect → Type 0
      Its = IsPlaced geometry lanes f.side (call geometry e fetched f.side).now.side

      es : List Effect
      es = (call geometry e fetched f.side).now.effects

      placed : All (IsPlaced geometry lanes f.side (call geometry e fetched f.side).now.side) (call geometry e fetched f.side).now.effects
      placed = call-placed host_bytes lanes geometry laid f.side good.reached e fetched

      by : (next : List ℕ) → Holds lanes geometry (record f { call = Some (call_with geometry f.side e fetched next) }) w
      by [] =
          record {
            live = holds.live;
            many = holds.many;
            sides = holds.sides;
            drives = holds.drives;
            mirrored = holds.mirrored;
            memory = λ at fixed.
                (let steady = all-steady geometry lanes f.side (call geometry e fetched f.side).now.side at fixed (call geometry e fetched f.side).now.effects placed in
                all-parts-on (call geometry e fetched f.side).now.effects f.outside.memory at steady
                ∙ effects_on-at (call geometry e fetched f.side).now.effects f.outside.memory w.host at steady (plain at fixed));
            placed = all-parts (IsPlaced geometry lanes f.side (call geometry e fetched f.side).now.side) (call geometry e fetched f.side).now.effects
                (parts-placed geometry lanes f.side (call geometry e fetched f.side).now.side) placed;
            read = read;
          }
      by (at ∷ more) =
          record {
            live = holds.live;
            many = holds.many;
            sides = holds.sides;
            drives = holds.drives;
            mirrored = holds.mirrored;
            memory = plain;
            placed = All-nil (IsPlaced geometry lanes f.side f.side);
            read = read;
          }

  -- a Reap that has read goes on
  pub reaping : (lane : ℕ) (l : Lane) (d : DriveLane) (fetched : List ℕ) → slice_get f.side.lanes lane ≡ Some l → slice_get f.outside.lanes lane ≡ Some d
      → HasRead geometry w.host lane l.head l.phase d.posted fetched
      → HasRead geometry w.host lane l.head l.phase d.posted (fetched ++ map f.outside.memory (next_fetch geometry f.side (event.Reap lane) fetched))
  reaping lane l d fetched found there read =
      reads-on geometry f.side lane l found w.host f.outside.memory same d.posted tells fetched read
    where
      inside : lane < lanes
      inside = let below = slice_get-below f.side.lanes lane l found in let many = good.reached.many in omega (arith, below, many)

      low : l.head < ring_size
      low = (good.reached.kept.lanes lane l found).head

      Same : ℕ → Type 0
      Same at = f.outside.memory at ≡ w.host at

      one : (at : ℕ) → completion_slot geometry.mediator lane l.head ≤ at → at < completion_slot geometry.mediator lane l.head + cqe_size → f.outside.memory at ≡ w.host at
      one at from to = let few = low in plain at (InRings lane inside (omega (arith, from)) (omega (arith, to, few)))

      same : All (λ at. f.outside.memory at ≡ w.host at) (reap_addresses geometry.mediator lane l.head)
      same =
          All-append (λ at. f.outside.memory at ≡ w.host at) (range_with_len (completion_slot geometry.mediator lane l.head + 12) 4)
          (range_with_len (completion_slot geometry.mediator lane l.head) 12)
          (row-all (λ at. f.outside.memory at ≡ w.host at) (completion_slot geometry.mediator lane l.head + 12) 4 (λ a from high. one a (omega (arith, from)) (omega (arith, high))))
          (row-all (λ at. f.outside.memory at ≡ w.host at) (completion_slot geometry.mediator lane l.head) 12 (λ a from high. one a from (omega (arith, high))))

      -- a completion with the wanted phase tag was posted
      tells : (phase_at geometry w.host lane l.head == bit l.phase) ≡ true → l.head ≢ d.posted
      tells new equal =
          let v = world-lane_of host_bytes lanes geometry laid f w good holds lane d there in
          let below = slice_get-below w.device lane v.0 v.1 in
          let sides = holds.live.consistent.of_tags.sides in
          let k = slice_get-there w.lanes lane (omega (arith, below, sides)) in
          let s = lane-same (side_of w) f.side holds.sides lane k.0 k.1 in
          let is : s.k ≡ l = some-same s.k l (sym s.there ∙ found) in
          let head : k.0.head ≡ l.head = sym (ap (λ (x : Lane). x.head) s.same) ∙ ap (λ (x : Lane). x.head) is in
          let phase : k.0.phase ≡ l.phase = sym (ap (λ (x : Lane). x.phase) s.same) ∙ ap (λ (x : Lane). x.phase) is in
          let told = slot-tells geometry w.host lane k.0.head k.0.phase v.0.posted v.0.phase (holds.live.consistent.of_tags.lanes lane k.0 v.0 k.1 v.1).positions.read
          (holds.live.phased lane k.0 v.0 k.1 v.1) in
          let same_slot : k.0.head ≡ v.0.posted = head ∙ equal ∙ (holds.mirrored lane d v.0 there v.1).posted in
          let one_side : not (is_empty k.0.head v.0.posted) ≡ false = ap not (eq-eqb k.0.head v.0.posted same_slot) in
          let other_side : (phase_at geometry w.host lane k.0.head == bit k.0.phase) ≡ true =
          ap (λ (n : ℕ). phase_at geometry w.host lane n == bit k.0.phase) head ∙ ap (λ (p : Bool). phase_at geometry w.host lane l.head == bit p) phase ∙ new in
          clash (sym one_side ∙ told ∙ other_side)
        where
          clash : false ≡ true → ⊥
          clash e = cc
