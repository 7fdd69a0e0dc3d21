-- What of the rings and the list pages no call under way writes, is in memory as it is in the world.
use Rattle.std.proofs.Common.{◌≡◌, ℕ, ◌+◌, ◌%◌, ◌<◌, Bool, true, false, nat_le, nat_lt, List, length, slice_get, All}
use Rattle.std.proofs.Common.{Some, arith, le-leb, lt-ltb, refl, sym, ap, subst}
use Rattle.std.proofs.lemmas.List.Elements.{All-weaker}
use Rattle.nv_fine.proofs.Comes.{Comes}
use Rattle.nv_fine.proofs.Mirrors.{AreRead, HasRead, Holds, behind}
use Rattle.nv_fine.proofs.Placed.{IsFixed, IsPlaced, Where, comes-placed}
use Rattle.nv_fine.proofs.Reaped.{reap-how}
use Rattle.nv_fine.proofs.Returns.{HowFetched, IsReturned, Shows, none-read, quiet-others, returned}
use Rattle.nv_fine.proofs.Runs.{shown}
use Rattle.nv_fine.proofs.Steady.{IsSteady, Spares}
use Rattle.nv_fine.proofs.Submitted.{call-comes}
use Rattle.nv_fine.proofs.Within.{IsGood}
use Rattle.nv_fine.specs.Drive.{DriveLane}
use Rattle.nv_fine.specs.Fine.{Call, Fine}
use Rattle.nv_laws_sound.proofs.KeptWorlds.{kept-consistent, kept-world}
use Rattle.nv_laws_sound.proofs.Lists.{slice_get-below, slice_get-there}
use Rattle.nv_laws_sound.specs.Consistent.{IsBetween}
use Rattle.nv_laws_sound.specs.LaidOut.{IsLaidOut}
use Rattle.nv_laws_sound.specs.Side.{IsKept, Side}
use Rattle.nv_machine.proofs.ContainedCalls.{call-contained}
use Rattle.nv_machine.proofs.PlaceKept.{fetched-same, lane-same}
use Rattle.nv_machine.proofs.Reached.{IsReached}
use Rattle.nv_machine.specs.Contained.{IsFetched, MayDo, guest_for}
use Rattle.nv_machine.specs.Effects.{Copy, Effect, Store, writes_to}
use Rattle.nv_machine.specs.InWorld.{IsNoReap, side_of}
use Rattle.nv_machine.specs.Machine.{call}
use Rattle.nv_world_model.specs.Area.{ring_size}
use Rattle.nv_world_model.specs.Device.{DeviceLane}
use Rattle.nv_world_model.specs.Geometry.{Geometry}
use Rattle.nv_world_model.specs.World.{Lane, World}
use Rattle.nv_world_model.specs.declared.event.Event.{Event}
use Rattle.nv_world_model.specs.declared.event.Event.TheVariants as event

-- ---- effects

-- one that is placed leaves a byte alone that is nowhere where it may be
spared : (geometry : Geometry) (lanes : ℕ) (s after : Side) (at : ℕ) → IsFixed geometry.mediator lanes at → (Where geometry s after at → ⊥) → (e : Effect)
    → IsPlaced geometry lanes s after e → Spares at e
spared geometry lanes s after at fixed nowhere e placed =
    (elim (writes_to e at) as (λ b. writes_to e at ≡ b → b ≡ false) [ true ↦ λ is. absurd (nowhere (placed at fixed is).1) | false ↦ λ is. refl ]) refl

pub all-spared : (geometry : Geometry) (lanes : ℕ) (s after : Side) (at : ℕ) → IsFixed geometry.mediator lanes at → (Where geometry s after at → ⊥) → (es : List Effect)
    → All (IsPlaced geometry lanes s after) es → All (Spares at) es
all-spared geometry lanes s after at fixed nowhere es placed =
    All-weaker (IsPlaced geometry lanes s after) (Spares at) (spared geometry lanes s after at fixed nowhere) es placed

copy-writes : (from to at : ℕ) → at ≡ to → writes_to (Copy from to) at ≡ true
copy-writes from to at same =
    let low : nat_le to at ≡ true = le-leb to at (omega (arith, same)) in
    let high : nat_lt at (to + 1) ≡ true = lt-ltb at (to + 1) (omega (arith, same)) in
    rw (low, high) refl

-- and copies nothing to a byte that is fixed
steady : (geometry : Geometry) (lanes : ℕ) (s after : Side) (at : ℕ) → IsFixed geometry.mediator lanes at → (e : Effect) → IsPlaced geometry lanes s after e → IsSteady at e
steady geometry lanes s after at fixed (Store to bytes) placed = tt
steady geometry lanes s after at fixed (Copy from to) placed = λ same. (placed at fixed (copy-writes from to at same)).0

pub all-steady : (geometry : Geometry) (lanes : ℕ) (s after : Side) (at : ℕ) → IsFixed geometry.mediator lanes at → (es : List Effect)
    → All (IsPlaced geometry lanes s after) es → All (IsSteady at) es
all-steady geometry lanes s after at fixed es placed = All-weaker (IsPlaced geometry lanes s after) (IsSteady at) (steady geometry lanes s after at fixed) es placed

-- those of a call are placed
pub call-placed : (host_bytes lanes : ℕ) (geometry : Geometry) → IsLaidOut host_bytes lanes geometry → (s : Side) → IsReached lanes geometry s → (e : Event) (fetched : List ℕ)
    → All (IsPlaced geometry lanes s (call geometry e fetched s).now.side) (call geometry e fetched s).now.effects
call-placed host_bytes lanes geometry laid s reached e fetched =
    let es : List Effect = (call geometry e fetched s).now.effects in
    let after : Side = (call geometry e fetched s).now.side in
    let comes : All (Comes geometry s) es = call-comes host_bytes lanes geometry laid s reached.kept reached.on_pages e fetched in
    let may : All (MayDo geometry s after (guest_for e fetched s)) es = (call-contained host_bytes lanes geometry laid e fetched s reached).effects in
    All-weaker (λ (x : Effect). Comes geometry s x × MayDo geometry s after (guest_for e fetched s) x) (IsPlaced geometry lanes s after)
    (λ (x : Effect). λ both. comes-placed host_bytes lanes geometry laid s after reached.kept reached.many (guest_for e fetched s) x both.0 both.1) es
    (λ k d below. (comes k d below, may k d below))

-- ---- an event is a Reap or none

data Kind (e : Event) : Type 0 where
  Other : IsNoReap e → Kind e
  IsReap : (lane : ℕ) → e ≡ event.Reap lane → Kind e

kind-of : (e : Event) → Kind e
kind-of (event.Guest guest a) = Other tt
kind-of (event.Admin guest) = Other tt
kind-of (event.Take guest queue lane) = Other tt
kind-of (event.List lane tag addr len) = Other tt
kind-of (event.Submit lane tag) = Other tt
kind-of (event.GiveUp lane tag) = Other tt
kind-of (event.DevTake lane) = Other tt
kind-of (event.DevMove lane slot number) = Other tt
kind-of (event.DevPost lane slot) = Other tt
kind-of (event.DevFail lane slot st) = Other tt
kind-of (event.Keep block) = Other tt
kind-of (event.Reap lane) = IsReap lane refl
kind-of (event.Post lane tag) = Other tt

-- ---- a position that goes on

-- what lies behind the tail does not lie before it, where the tail goes on as far as all that waits does
pub beyond : (head tail behind slot : ℕ) → head < ring_size → tail < ring_size → behind < ring_size
    → ((at : ℕ) → IsBetween head tail at → IsBetween head behind at) → IsBetween head tail slot → IsBetween tail behind slot → ⊥
beyond head tail behind slot low mid high goes before past =
    let last : ℕ = (tail + 64) % 65 in
    let there = before.slot in
    let first = before.before in
    let next = past.before in
    let at : IsBetween head tail ((tail + 64) % 65) = record { slot = omega arith; before = omega (arith, low, mid, there, first) } in
    let still = (goes ((tail + 64) % 65) at).before in
    absurd (omega (arith, low, mid, high, there, first, next, still))

module _ (host_bytes lanes : ℕ) (geometry : Geometry) (laid : IsLaidOut host_bytes lanes geometry) (f : Fine) (w : World) (good : IsGood lanes geometry f)
    (holds : Holds lanes geometry f w) where
  pub laid-here : IsLaidOut host_bytes (length w.lanes) geometry
  laid-here = subst (λ n. IsLaidOut host_bytes n geometry) (sym holds.many) laid

  pub kept-here : IsKept geometry (side_of w)
  kept-here = kept-world geometry w (kept-consistent geometry w holds.live.consistent)

  -- the drive's lane by the world's
  pub drive-lane : (lane : ℕ) (v : DeviceLane) → slice_get w.device lane ≡ Some v → (d : DriveLane) × (slice_get f.outside.lanes lane ≡ Some d)
  drive-lane lane v there =
      let below = slice_get-below w.device lane v there in
      let many = holds.drives in
      slice_get-there f.outside.lanes lane (omega (arith, below, many))

  pub world-lane_of : (lane : ℕ) (d : DriveLane) → slice_get f.outside.lanes lane ≡ Some d → (v : DeviceLane) × (slice_get w.device lane ≡ Some v)
  world-lane_of lane d there =
      let below = slice_get-below f.outside.lanes lane d there in
      let many = holds.drives in
      slice_get-there w.device lane (omega (arith, below, many))

  -- ---- the call under way

  module _ (c : Call) (under : f.call ≡ Some c) (size : IsFetched geometry c.event f.side c.fetched) where
    size-here : IsFetched geometry c.event (side_of w) c.fetched
    size-here = fetched-same geometry (side_of w) f.side holds.sides c.event c.fetched size

    read-here : (lane : ℕ) → c.event ≡ event.Reap lane → HowFetched geometry w (event.Reap lane) c.fetched
    read-here lane is =
        reap-how geometry w holds.live lane c.fetched (subst (λ (e : Event). IsFetched geometry e (side_of w) c.fetched) is size-here) (λ l v found there.
        (let k = lane-same (side_of w) f.side holds.sides lane l found in
        let d = drive-lane lane v there in
        let mirror = holds.mirrored lane d.0 v d.1 there in
        let head : k.k.head ≡ l.head = ap (λ (x : Lane). x.head) k.same in
        let phase : k.k.phase ≡ l.phase = ap (λ (x : Lane). x.phase) k.same in
        let read : AreRead geometry f.side f.outside.lanes w.host (Some c) = subst (AreRead geometry f.side f.outside.lanes w.host) under holds.read in
        subst (λ (n : ℕ). HasRead geometry w.host lane l.head l.phase n c.fetched) mirror.posted
        (subst (λ (p : Bool). HasRead geometry w.host lane l.head p d.0.posted c.fetched) phase
        (subst (λ (n : ℕ). HasRead geometry w.host lane n k.k.phase d.0.posted c.fetched) head
        (read lane k.k d.0 is k.there d.1)))))

    pub how-fetched : HowFetched geometry w c.event c.fetched
    how-fetched = by (kind-of c.event)
      where
        by : Kind c.event → HowFetched geometry w c.event c.fetched
        by (Other other) =
            quiet-others geometry w c.event c.fetched (λ mine.
            Shows mine (shown host_bytes geometry w laid-here holds.live kept-here c.event other c.fetched size-here) (none-read geometry w c.event c.fetched other))
        by (IsReap lane is) = subst (λ (e : Event). HowFetched geometry w e c.fetched) (sym is) (read-here lane is)

    pub call-returned : IsReturned geometry w (call geometry c.event c.fetched (side_of w)).now
    call-returned = returned host_bytes geometry w laid-here holds.live kept-here c.event c.fetched how-fetched
