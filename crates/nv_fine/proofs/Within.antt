-- An access of a call touches what it may.
use Rattle.std.proofs.Common.{◌≡◌, ℕ, suc, ◌+◌, ◌-◌, ◌<◌, ◌≤◌, Bool, true, false, cond, ◌==◌, List, [], ◌∷◌, ◌++◌, drop, length, map, take, All, Option, Some, None}
use Rattle.std.proofs.Common.{⊎_elim, inl, inr, arith, refl, ap, ◌∙◌, subst}
use Rattle.std.proofs.lemmas.Bool.{cases_lt}
use Rattle.std.proofs.lemmas.List.{length-map}
use Rattle.std.proofs.lemmas.List.Elements.{All-append, All-cons, All-drop, All-head, All-nil, All-tail, All-take, All-weaker}
use Rattle.std.specs.List.{enumerate_from, flat_map}
use Rattle.nv_fine.proofs.Fetches.{fetched-all, fetched-fits}
use Rattle.nv_fine.specs.Fine.{Call, Fine, call_with, fetching, next_fetch, parts_of, wanted, went_on, with_memory}
use Rattle.nv_fine.specs.Turns.{MayTouch, StaysWithin, ToDo, ToFetch, read_next}
use Rattle.nv_laws_sound.specs.LaidOut.{IsLaidOut}
use Rattle.nv_laws_sound.specs.Side.{Side}
use Rattle.nv_machine.proofs.ContainedCalls.{call-contained}
use Rattle.nv_machine.proofs.Reached.{IsReached, reached-kept}
use Rattle.nv_machine.specs.Contained.{IsContained, IsFetched, IsOwnOrNext, LeavesOthers, MayDo, MayFetch, Own, guest_for}
use Rattle.nv_machine.specs.Effects.{Copy, Effect, Store}
use Rattle.nv_machine.specs.Machine.{call, fetch, fetch_then}
use Rattle.nv_model.proofs.MemoryLemmas.{stored-outside}
use Rattle.nv_model.specs.Memory.{stored}
use Rattle.nv_world_model.specs.Geometry.{Geometry}
use Rattle.nv_world_model.specs.declared.event.Event.{Event}

-- ---- memory

stored-off : (memory : ℕ → ℕ) (to : ℕ) (bytes : List ℕ) (at : ℕ) → (to ≤ at → at < to + length bytes → ⊥) → stored memory to bytes at ≡ memory at
stored-off memory to bytes at off =
    ⊎_elim (λ before. stored-outside memory to bytes at (inl before))
    (λ from. ⊎_elim (λ below. absurd (off from below)) (λ above. stored-outside memory to bytes at (inr above)) (cases_lt at (to + length bytes))) (cases_lt at to)

pub map-same : (memory other : ℕ → ℕ) (addresses : List ℕ) → All (λ at. memory at ≡ other at) addresses → map memory addresses ≡ map other addresses
map-same memory other [] same = refl
map-same memory other (at ∷ addresses) same =
    ap (λ (byte : ℕ). byte ∷ map memory addresses) (All-head (λ at. memory at ≡ other at) at addresses same)
    ∙ ap (λ (bytes : List ℕ). other at ∷ bytes) (map-same memory other addresses (All-tail (λ at. memory at ≡ other at) at addresses same))

-- ---- parts of effects

module _ (geometry : Geometry) (s after : Side) where
  bytes-may : (number to : ℕ) (bytes : List ℕ) (k : ℕ) → ((i : ℕ) → i < length bytes → IsOwnOrNext geometry s after number (to + (k + i)))
      → All (MayDo geometry s after (Some number)) (map (λ b. Store (to + b.0) (b.1 ∷ [])) (enumerate_from k bytes))
  bytes-may number to [] k own = All-nil (MayDo geometry s after (Some number))
  bytes-may number to (x ∷ bytes) k own =
      All-cons (MayDo geometry s after (Some number)) (Store (to + k) (x ∷ [])) (map (λ b. Store (to + b.0) (b.1 ∷ [])) (enumerate_from (k + 1) bytes))
      (λ i below. let same : to + (k + 0) ≡ to + k + i = omega (arith, below) in
      subst (λ (n : ℕ). IsOwnOrNext geometry s after number n) same (own 0 (omega arith)))
      (bytes-may number to bytes (k + 1) (λ i below. let same : to + (k + suc i) ≡ to + (k + 1 + i) = omega arith in
      subst (λ (n : ℕ). IsOwnOrNext geometry s after number n) same (own (suc i) (omega (arith, below)))))

  parts-may : (number : Option ℕ) (effect : Effect) → MayDo geometry s after number effect → All (MayDo geometry s after number) (parts_of effect)
  parts-may None effect may = absurd may
  parts-may (Some number) (Copy from to) may =
      All-cons (MayDo geometry s after (Some number)) (Copy from to) [] may (All-nil (MayDo geometry s after (Some number)))
  parts-may (Some number) (Store to bytes) may = by (length bytes == 4)
    where
      by : (whole : Bool) → All (MayDo geometry s after (Some number))
          (cond whole (Store to bytes ∷ []) (map (λ b. Store (to + b.0) (b.1 ∷ [])) (enumerate_from 0 bytes)))
      by true = All-cons (MayDo geometry s after (Some number)) (Store to bytes) [] may (All-nil (MayDo geometry s after (Some number)))
      by false =
          bytes-may number to bytes 0
          (λ i below. let same : to + i ≡ to + (0 + i) = omega arith in subst (λ (n : ℕ). IsOwnOrNext geometry s after number n) same (may i below))

  all-parts-may : (number : Option ℕ) (effects : List Effect) → All (MayDo geometry s after number) effects
      → All (MayDo geometry s after number) (flat_map parts_of effects)
  all-parts-may number [] may = All-nil (MayDo geometry s after number)
  all-parts-may number (effect ∷ effects) may =
      All-append (MayDo geometry s after number) (parts_of effect) (flat_map parts_of effects)
      (parts-may number effect (All-head (MayDo geometry s after number) effect effects may))
      (all-parts-may number effects (All-tail (MayDo geometry s after number) effect effects may))

  -- a byte that is copied is stored where it may be
  copied-may : (number : Option ℕ) (from to byte : ℕ) → MayDo geometry s after number (Copy from to) → MayDo geometry s after number (Store to (byte ∷ []))
  copied-may None from to byte may = absurd may
  copied-may (Some number) from to byte may =
      λ i below. let same : to ≡ to + i = omega (arith, below) in subst (λ (n : ℕ). IsOwnOrNext geometry s after number n) same (Own may.1)

-- ---- a call under way

abbrev pub IsUnderWay : Geometry → Side → Call → (left : Option (List Effect)) → Type 0
IsUnderWay geometry s c None = length c.fetched ≤ length (wanted geometry s c.event c.fetched)
IsUnderWay geometry s c (Some left) =
    IsFetched geometry c.event s c.fetched
    × All (MayDo geometry s (call geometry c.event c.fetched s).now.side (guest_for c.event c.fetched s)) left

abbrev pub IsCalled : Geometry → Side → Option Call → Type 0
IsCalled geometry s None = Unit
IsCalled geometry s (Some c) = IsUnderWay geometry s c c.left

pub record IsGood (lanes : ℕ) (geometry : Geometry) (f : Fine) : Type 0 where
  pub reached : IsReached lanes geometry f.side
  pub called : IsCalled geometry f.side f.call

module _ (host_bytes lanes : ℕ) (geometry : Geometry) (laid : IsLaidOut host_bytes lanes geometry) where
  fetching-good : (e : Event) (fetched : List ℕ) (f : Fine) → IsReached lanes geometry f.side
      → length fetched ≤ length (wanted geometry f.side e fetched) → IsGood lanes geometry (fetching geometry e fetched f)
  fetching-good e fetched f reached below = record { reached = reached; called = by (next_fetch geometry f.side e fetched) refl }
    where
      by : (next : List ℕ) → next_fetch geometry f.side e fetched ≡ next
          → IsUnderWay geometry f.side (call_with geometry f.side e fetched next) (call_with geometry f.side e fetched next).left
      by [] none = (
        fetched-all geometry f.side e fetched below none,
        all-parts-may geometry f.side (call geometry e fetched f.side).now.side (guest_for e fetched f.side) (call geometry e fetched f.side).now.effects
            (call-contained host_bytes lanes geometry laid e fetched f.side reached).effects,
      )
      by (at ∷ more) some = below

  pub opens-good : (e : Event) (f : Fine) → IsReached lanes geometry f.side → IsGood lanes geometry (fetching geometry e [] f)
  opens-good e f reached = fetching-good e [] f reached (omega arith)

  pub went-good : (c : Call) (left : Option (List Effect)) (f : Fine) → IsReached lanes geometry f.side → IsUnderWay geometry f.side c left
      → IsGood lanes geometry (went_on geometry c left f)
  went-good c None f reached below =
      fetching-good c.event (c.fetched ++ map f.outside.memory (next_fetch geometry f.side c.event c.fetched)) f reached
      (fetched-fits geometry f.side c.event c.fetched (map f.outside.memory (next_fetch geometry f.side c.event c.fetched))
      (length-map (next_fetch geometry f.side c.event c.fetched) f.outside.memory) below)
  went-good c (Some []) f reached is =
      record { reached = reached-kept host_bytes lanes geometry laid f.side reached c.event c.fetched is.0; called = tt }
  went-good c (Some (Copy from to ∷ left)) f reached is =
      let May : Effect → Type 0 = MayDo geometry f.side (call geometry c.event c.fetched f.side).now.side (guest_for c.event c.fetched f.side) in
      record {
        reached = reached;
        called = (
          is.0,
          All-cons May (Store to (f.outside.memory from ∷ [])) left
              (copied-may geometry f.side (call geometry c.event c.fetched f.side).now.side (guest_for c.event c.fetched f.side) from to (f.outside.memory from)
              (All-head May (Copy from to) left is.1)) (All-tail May (Copy from to) left is.1),
        );
      }
  went-good c (Some (Store to bytes ∷ left)) f reached is =
      let May : Effect → Type 0 = MayDo geometry f.side (call geometry c.event c.fetched f.side).now.side (guest_for c.event c.fetched f.side) in
      record { reached = reached; called = (is.0, All-tail May (Store to bytes) left is.1) }

  -- ---- its next access

  module _ (f : Fine) (reached : IsReached lanes geometry f.side) (c : Call) where
    abbrev May : ℕ → Type 0
    May = MayTouch geometry f.side c

    abbrev Does : Effect → Type 0
    Does = MayDo geometry f.side (call geometry c.event c.fetched f.side).now.side (guest_for c.event c.fetched f.side)

    abbrev Fetches : ℕ → Type 0
    Fetches = MayFetch geometry c.event f.side (guest_for c.event c.fetched f.side)

    contained : IsContained geometry c.event c.fetched f.side
    contained = call-contained host_bytes lanes geometry laid c.event c.fetched f.side reached

    copy-may : (x : Option ℕ) (from to : ℕ) → guest_for c.event c.fetched f.side ≡ x
        → MayDo geometry f.side (call geometry c.event c.fetched f.side).now.side x (Copy from to) → May from
    copy-may None from to is may = absurd may
    copy-may (Some number) from to is may = ToDo number is (Own may.0)

    store-may : (x : Option ℕ) (to at : ℕ) (bytes : List ℕ) → guest_for c.event c.fetched f.side ≡ x
        → MayDo geometry f.side (call geometry c.event c.fetched f.side).now.side x (Store to bytes) → to ≤ at → at < to + length bytes → May at
    store-may None to at bytes is may from below = absurd may
    store-may (Some number) to at bytes is may from below =
        let same : to + (at - to) ≡ at = omega (arith, from) in
        ToDo number is (subst (λ (n : ℕ). IsOwnOrNext geometry f.side (call geometry c.event c.fetched f.side).now.side number n) same
        (may (at - to) (omega (arith, from, below))))

    reads-may : (left : Option (List Effect)) → IsUnderWay geometry f.side c left → All May (read_next geometry f.side c left)
    reads-may None below =
        let first : List ℕ = fetch geometry c.event f.side in
        let then : List ℕ = fetch_then geometry c.event f.side (take (length first) c.fetched) in
        let all : All Fetches (first ++ then) = All-append Fetches first then contained.first contained.then in
        All-weaker Fetches May (λ (at : ℕ). λ may. ToFetch may) (next_fetch geometry f.side c.event c.fetched)
        (All-take Fetches _ (drop (length c.fetched) (first ++ then)) (All-drop Fetches (length c.fetched) (first ++ then) all))
    reads-may (Some []) is = All-nil May
    reads-may (Some (Copy from to ∷ left)) is =
        All-cons May from [] (copy-may (guest_for c.event c.fetched f.side) from to refl (All-head Does (Copy from to) left is.1)) (All-nil May)
    reads-may (Some (Store to bytes ∷ left)) is = All-nil May

    bytes-stay : (left : Option (List Effect)) → IsUnderWay geometry f.side c left → (at : ℕ) → (May at → ⊥)
        → (went_on geometry c left f).outside.memory at ≡ f.outside.memory at
    bytes-stay None is at off = refl
    bytes-stay (Some []) is at off = refl
    bytes-stay (Some (Copy from to ∷ left)) is at off = refl
    bytes-stay (Some (Store to bytes ∷ left)) is at off =
        stored-off f.outside.memory to bytes at (λ from below. off
        (store-may (guest_for c.event c.fetched f.side) to at bytes refl (All-head Does (Store to bytes) left is.1) from below))

    outside-stays : (left : Option (List Effect))
        → (went_on geometry c left f).outside ≡ record f.outside { memory = (went_on geometry c left f).outside.memory }
    outside-stays None = refl
    outside-stays (Some []) = refl
    outside-stays (Some (Copy from to ∷ left)) = refl
    outside-stays (Some (Store to bytes ∷ left)) = refl

    stays : LeavesOthers (guest_for c.event c.fetched f.side) f.side f.side
    stays = record { controllers = λ other not_own. refl; tags = λ other lane tag not_own. refl }

    side-stays : (left : Option (List Effect)) → LeavesOthers (guest_for c.event c.fetched f.side) f.side (went_on geometry c left f).side
    side-stays None = stays
    side-stays (Some []) = contained.others
    side-stays (Some (Copy from to ∷ left)) = stays
    side-stays (Some (Store to bytes ∷ left)) = stays

    same-goes : (left : Option (List Effect)) (memory : ℕ → ℕ) → All (λ at. f.outside.memory at ≡ memory at) (read_next geometry f.side c left)
        → (went_on geometry c left f).call ≡ (went_on geometry c left (with_memory memory f)).call
    same-goes None memory same =
        ap (λ (bytes : List ℕ). Some (call_with geometry f.side c.event (c.fetched ++ bytes) (next_fetch geometry f.side c.event (c.fetched ++ bytes))))
        (map-same f.outside.memory memory (next_fetch geometry f.side c.event c.fetched) same)
    same-goes (Some []) memory same = refl
    same-goes (Some (Copy from to ∷ left)) memory same =
        ap (λ (byte : ℕ). Some (record c { left = Some (Store to (byte ∷ []) ∷ left) }))
        (All-head (λ at. f.outside.memory at ≡ memory at) from [] same)
    same-goes (Some (Store to bytes ∷ left)) memory same = refl

    pub stays-within : IsUnderWay geometry f.side c c.left → StaysWithin geometry f c
    stays-within is =
        record {
          reads = reads-may c.left is;
          same = same-goes c.left;
          bytes = bytes-stay c.left is;
          outside = outside-stays c.left;
          side = side-stays c.left;
        }
