-- A call returns: the world goes on with it, and what the drive has stays what it has there.
use Rattle.std.proofs.Common.{◌≡◌, ℕ, zero, suc, ◌+◌, ◌-◌, ◌<◌, true, List, [], ◌∷◌, length, map, slice_get, All, Option, Some, None}
use Rattle.std.proofs.Common.{arith, refl, sym, ap, ◌∙◌, subst}
use Rattle.std.proofs.lemmas.List.{length-map}
use Rattle.std.proofs.lemmas.List.Elements.{All-nil}
use Rattle.nv_fine.proofs.Commands.{list-there}
use Rattle.nv_fine.proofs.Mirrors.{AreMirrored, Holds, IsLaneMirrored, IsNoted, IsOfTag, begun_of, left_of, list_of, undone, whole}
use Rattle.nv_fine.proofs.Placed.{IsFixed, IsPlaced, fixed-high, fixed-low}
use Rattle.nv_fine.proofs.Quiets.{all-steady, call-placed, call-returned, kept-here}
use Rattle.nv_fine.proofs.Returns.{IsReturned}
use Rattle.nv_fine.proofs.Spared.{goes, goes-shown}
use Rattle.nv_fine.proofs.Steady.{IsSteady}
use Rattle.nv_fine.proofs.Within.{IsGood}
use Rattle.nv_fine.specs.Drive.{Working}
use Rattle.nv_fine.specs.Fine.{Call, Fine}
use Rattle.nv_laws_sound.proofs.Lists.{some-same}
use Rattle.nv_laws_sound.proofs.Tails.{length-tails}
use Rattle.nv_laws_sound.specs.LaidOut.{IsLaidOut}
use Rattle.nv_laws_sound.specs.Side.{Side, rung_with, tails_of}
use Rattle.nv_laws_sound.specs.Unplaced.{unplaced_lane}
use Rattle.nv_machine.proofs.ContainedOthers.{rest-left}
use Rattle.nv_machine.proofs.PlaceCalls.{call-same}
use Rattle.nv_machine.proofs.Reached.{reached-kept}
use Rattle.nv_machine.specs.Contained.{IsFetched}
use Rattle.nv_machine.specs.Doing.{Doing}
use Rattle.nv_machine.specs.Effects.{Effect, effects_on}
use Rattle.nv_machine.specs.Entries.{NamesOwn}
use Rattle.nv_machine.specs.InWorld.{side_of}
use Rattle.nv_machine.specs.Machine.{call}
use Rattle.nv_machine.specs.Unplaced.{AreSameButPlaces, ComeToSameButPlaces}
use Rattle.nv_mem.specs.Places.{places_of}
use Rattle.nv_model.proofs.Judged.{IsSoundWork}
use Rattle.nv_model.specs.Memory.{bytes_from}
use Rattle.nv_model.specs.Queue.{sqe_size}
use Rattle.nv_world_model.specs.Area.{lane_start, list_page, submission_slot}
use Rattle.nv_world_model.specs.Device.{DeviceLane}
use Rattle.nv_world_model.specs.Geometry.{Geometry}
use Rattle.nv_world_model.specs.World.{Flying, InDevice, Lane, World, tag_in, tag_of}

-- nothing is no thing
no-one : {A : Type 0} (P : Type 0) (a : A) → None ≡ Some a → P
no-one P a is = cc

-- ---- lists

-- the same bytes are the same one by one
bytes-each : (memory other : ℕ → ℕ) (addr len i : ℕ) → bytes_from memory addr len ≡ bytes_from other addr len → i < len → memory (addr + i) ≡ other (addr + i)
unfolding bytes_from
bytes-each memory other addr zero i same below = absurd (omega (arith, below))
bytes-each memory other addr (suc len) zero same below =
    let start : addr + 0 ≡ addr = omega arith in
    let here : memory addr ≡ other addr = cc in ap memory start ∙ here ∙ ap other (sym start)
bytes-each memory other addr (suc len) (suc i) same below =
    let next : addr + suc i ≡ suc addr + i = omega arith in
    let rest : bytes_from memory (suc addr) len ≡ bytes_from other (suc addr) len = cc in
    ap memory next ∙ bytes-each memory other (suc addr) len i rest (omega (arith, below)) ∙ ap other (sym next)

-- a lane whose doorbell was written
pub record IsRung (ts : List ℕ) (ds : List DeviceLane) (lane : ℕ) (x : DeviceLane) : Type 0 where
  pub v : DeviceLane
  pub tail : ℕ
  pub there : slice_get ds lane ≡ Some v
  pub after : slice_get ts lane ≡ Some tail
  pub is : record v { tail = tail } ≡ x

rung-from : (ts : List ℕ) (ds : List DeviceLane) (lane : ℕ) (x : DeviceLane) → length ts ≡ length ds → slice_get (rung_with ts ds) lane ≡ Some x → IsRung ts ds lane x
rung-from [] [] lane x many at = cc
rung-from [] (d ∷ ds) lane x many at = absurd (omega (arith, many))
rung-from (t ∷ ts) [] lane x many at = cc
rung-from (t ∷ ts) (d ∷ ds) zero x many at = record { v = d; tail = t; there = refl; after = refl; is = some-same (record d { tail = t }) x at }
rung-from (t ∷ ts) (d ∷ ds) (suc lane) x many at =
    let r = rung-from ts ds lane x (omega (arith, many)) at in record { v = r.v; tail = r.tail; there = r.there; after = r.after; is = r.is }

tails-rung : (ts : List ℕ) (ds : List DeviceLane) → length ts ≡ length ds → tails_of (rung_with ts ds) ≡ ts
tails-rung [] [] many = refl
tails-rung [] (d ∷ ds) many = absurd (omega (arith, many))
tails-rung (t ∷ ts) [] many = absurd (omega (arith, many))
tails-rung (t ∷ ts) (d ∷ ds) many = ap (λ (xs : List ℕ). t ∷ xs) (tails-rung ts ds (omega (arith, many)))

length-rung : (ts : List ℕ) (ds : List DeviceLane) → length ts ≡ length ds → length (rung_with ts ds) ≡ length ds
length-rung [] [] many = refl
length-rung [] (d ∷ ds) many = absurd (omega (arith, many))
length-rung (t ∷ ts) [] many = absurd (omega (arith, many))
length-rung (t ∷ ts) (d ∷ ds) many = ap suc (length-rung ts ds (omega (arith, many)))

module _ (host_bytes lanes : ℕ) (geometry : Geometry) (laid : IsLaidOut host_bytes lanes geometry) (f : Fine) (w : World) (good : IsGood lanes geometry f)
    (holds : Holds lanes geometry f w) (c : Call) (under : f.call ≡ Some c) (size : IsFetched geometry c.event f.side c.fetched) where
  abbrev now : Doing
  now = (call geometry c.event c.fetched (side_of w)).now

  abbrev comes : IsReturned geometry w now
  comes = call-returned host_bytes lanes geometry laid f w good holds c under size

  abbrev z : World
  z = comes.world

  abbrev side : Side
  side = (call geometry c.event c.fetched f.side).now.side

  both : ComeToSameButPlaces (call geometry c.event c.fetched (side_of w)) (call geometry c.event c.fetched f.side)
  both = call-same (side_of w) f.side holds.sides geometry c.event c.fetched

  many : length now.side.tails ≡ length w.device
  many = (rest-left geometry (side_of w) (kept-here host_bytes lanes geometry laid f w good holds) c.event c.fetched).many ∙ length-tails w.device

  sides : AreSameButPlaces (side_of z) side
  sides =
      record {
        lanes = ap (map unplaced_lane) comes.lanes ∙ both.sides.lanes;
        tails = ap tails_of comes.device ∙ tails-rung now.side.tails w.device many ∙ both.sides.tails;
        controllers = comes.controllers ∙ both.sides.controllers;
      }

  lanes-many : length z.lanes ≡ lanes
  lanes-many =
      sym (length-map z.lanes unplaced_lane) ∙ ap (λ (ls : List Lane). length ls) sides.lanes ∙ length-map side.lanes unplaced_lane
      ∙ (reached-kept host_bytes lanes geometry laid f.side good.reached c.event c.fetched size).many

  flies-still : (lane id : ℕ) (k : Working) → (is : IsOfTag geometry w lane id k) → tag_of z lane id ≡ Some (Flying is.command is.share InDevice)
  flies-still lane id k is =
      ap (λ (ls : List Lane). tag_in (slice_get ls lane) id) comes.lanes ∙ comes.stays lane id (Flying is.command is.share InDevice) is.flies tt

  -- a command with nothing read
  abbrev bare : (lane id : ℕ) (k : Working) → IsOfTag geometry w lane id k → IsOfTag geometry z lane id (record k { buffer = (λ _. None); work = None })
  bare lane id k is =
      record {
        command = is.command;
        share = is.share;
        given = is.given;
        flies = flies-still lane id k is;
        guest = is.guest;
        planned = is.planned;
        some = is.some;
        entry = is.entry;
        read = λ i byte inside none. no-one (z.host (list_page geometry.mediator lane id + i) ≡ byte) byte none;
        work = λ work none. no-one (All (NamesOwn geometry is.given lane id) (places_of work.pieces)) work none;
        sound = λ work none. no-one (IsSoundWork (λ _. true) geometry.disk_blocks k.entry work) work none;
      }

  of-tag-then : (lane id : ℕ) (k : Working) → IsOfTag geometry w lane id k → IsOfTag geometry z lane id k
  of-tag-then lane id k is =
      record {
        command = is.command;
        share = is.share;
        given = is.given;
        flies = flies-still lane id k is;
        guest = is.guest;
        planned = is.planned;
        some = is.some;
        entry = is.entry;
        read = λ i byte inside has.
            sym (bytes-each w.host z.host (list_page geometry.mediator lane id) (length (list_of geometry is.given is.share lane id)) i
            (list-there host_bytes lanes geometry laid w holds.live holds.many lane id k is
            ∙ sym (list-there host_bytes lanes geometry laid z comes.live lanes-many lane id (record k { buffer = (λ _. None); work = None }) (bare lane id k is))) inside)
            ∙ is.read i byte inside has;
        work = is.work;
        sound = is.sound;
      }

  noted-then : (lane : ℕ) (r : DeviceLane) (tail : ℕ) (there : slice_get w.device lane ≡ Some r) → slice_get now.side.tails lane ≡ Some tail → (at byte : ℕ)
      → IsNoted geometry w lane r at byte → IsNoted geometry z lane (record r { tail = tail }) at byte
  noted-then lane r tail there after at byte is =
      let low = is.low in
      let high = is.high in
      let slot : ℕ = submission_slot geometry.mediator lane is.slot in
      let same : slot + (at - slot) ≡ at = omega (arith, low) in
      record {
        slot = is.slot;
        between = goes host_bytes lanes geometry laid f w good holds lane r there c under size tail after is.slot is.between;
        low = is.low;
        high = is.high;
        same =
            ap z.host (sym same)
            ∙ bytes-each z.host w.host slot sqe_size (at - slot)
            (goes-shown host_bytes lanes geometry laid f w good holds lane r there c under size tail after is.slot is.between) (omega (arith, low, high))
            ∙ ap w.host same ∙ is.same;
      }

  mirrored : AreMirrored geometry z f.outside.lanes
  mirrored lane d x at there = by (rung-from now.side.tails w.device lane x many (sym (ap (λ (ds : List DeviceLane). slice_get ds lane) comes.device) ∙ there))
    where
      by : IsRung (call geometry c.event c.fetched (side_of w)).now.side.tails w.device lane x → IsLaneMirrored geometry z lane d x
      by r =
          let is = holds.mirrored lane d r.v at r.there in
          subst (IsLaneMirrored geometry z lane d) r.is
          (record {
            head = is.head;
            posted = is.posted;
            phase = is.phase;
            seen = λ a byte has. noted-then lane r.v r.tail r.there r.after a byte (is.seen a byte has);
            working = λ id k has. of-tag-then lane id k (is.working id k has);
          })

  steady : (at : ℕ) → IsFixed geometry.mediator lanes at → All (IsSteady at) (call geometry c.event c.fetched (side_of w)).now.effects
  steady at fixed =
      subst (All (IsSteady at)) (sym both.effects)
      (all-steady geometry lanes f.side side at fixed (call geometry c.event c.fetched f.side).now.effects
      (call-placed host_bytes lanes geometry laid f.side good.reached c.event c.fetched))

  pub returned-holds : c.left ≡ Some [] → Holds lanes geometry (record f { side = (call geometry c.event c.fetched f.side).now.side; call = None }) comes.world
  unfolding effects_on
  returned-holds done =
      record {
        live = comes.live;
        many = lanes-many;
        sides = sides;
        drives = holds.drives ∙ sym (ap (λ (ds : List DeviceLane). length ds) comes.device ∙ length-rung now.side.tails w.device many);
        mirrored = mirrored;
        memory = λ at fixed.
            (let high = fixed-high geometry.mediator lanes at fixed in
            was at fixed
            ∙ ap (λ (es : List Effect). effects_on es w.host at) (sym both.effects)
            ∙ sym (comes.host at (fixed-low geometry.mediator lanes at fixed)
            (subst (λ (n : ℕ). at < lane_start geometry.mediator n) (sym holds.many) high) (steady at fixed)));
        placed = All-nil (IsPlaced geometry lanes side side);
        read = tt;
      }
    where
      was : (at : ℕ) → IsFixed geometry.mediator lanes at
          → f.outside.memory at ≡ effects_on (call geometry c.event c.fetched f.side).now.effects w.host at
      was at fixed =
          subst (λ (left : Option (List Effect)). effects_on (left_of left) f.outside.memory at
          ≡ effects_on (begun_of left (call geometry c.event c.fetched f.side).now.effects) w.host at) done
          (subst (λ (o : Option Call). effects_on (undone o) f.outside.memory at
          ≡ effects_on (whole geometry f.side o) w.host at) under (holds.memory at fixed))
