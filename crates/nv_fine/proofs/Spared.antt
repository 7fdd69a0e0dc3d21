-- Lists of commands that fly, completions, and entries that wait are in memory as they are in the world, whatever call is under way.
use Rattle.std.proofs.Common.{◌≡◌, ℕ, zero, suc, ◌+◌, ◌<◌, ◌≤◌, List, [], ◌∷◌, length, slice_get, All, Option, Some, None}
use Rattle.std.proofs.Common.{arith, refl, sym, ap, ◌∙◌, subst}
use Rattle.std.proofs.lemmas.List.Elements.{All-nil}
use Rattle.std.specs.Option.{option_map}
use Rattle.nv_fine.proofs.Mirrors.{Holds, behind, behind_of, begun_of, undone, whole}
use Rattle.nv_fine.proofs.Placed.{InList, InNext, InRings, InTaken, IsFixed, IsPlaced, Where, in-order, ring-no_page, tag-few}
use Rattle.nv_fine.proofs.Quiets.{all-spared, beyond, call-placed, call-returned, kept-here}
use Rattle.nv_fine.proofs.Returns.{IsReturned}
use Rattle.nv_fine.proofs.Within.{IsCalled, IsGood, IsUnderWay}
use Rattle.nv_fine.specs.Fine.{Call, Fine}
use Rattle.nv_laws_sound.proofs.Lists.{slice_get-below, slice_get-there, some-same}
use Rattle.nv_laws_sound.proofs.Slots.{held-under}
use Rattle.nv_laws_sound.proofs.Tails.{length-tails, tail-of}
use Rattle.nv_laws_sound.proofs.TakenEvents.{queued-at}
use Rattle.nv_laws_sound.proofs.PlanSizes.{entry-length}
use Rattle.nv_laws_sound.specs.Area.{Shows}
use Rattle.nv_laws_sound.specs.Consistent.{IsBetween, IsLane}
use Rattle.nv_laws_sound.specs.LaidOut.{IsLaidOut}
use Rattle.nv_laws_sound.specs.Side.{rung_with}
use Rattle.nv_laws_sound.specs.Unplaced.{unplaced_tag}
use Rattle.nv_machine.proofs.Cases.{tag-lane}
use Rattle.nv_machine.proofs.ContainedOthers.{rest-left}
use Rattle.nv_machine.proofs.Effects.{effects_on-elsewhere}
use Rattle.nv_machine.proofs.PlaceCalls.{call-same}
use Rattle.nv_machine.proofs.PlaceSides.{tag-same}
use Rattle.nv_machine.proofs.SubmitRings.{between-none}
use Rattle.nv_machine.specs.Contained.{IsFetched}
use Rattle.nv_machine.specs.Doing.{Doing, tag_at}
use Rattle.nv_machine.specs.Effects.{Effect}
use Rattle.nv_machine.specs.InWorld.{side_of}
use Rattle.nv_machine.specs.Machine.{call}
use Rattle.nv_model.specs.Memory.{bytes_from}
use Rattle.nv_model.specs.Queue.{sqe_size}
use Rattle.nv_model.specs.Transcript.{ReadDone}
use Rattle.nv_world_model.specs.Area.{bounce_page, completion_slot, list_page, ring_size, submission_slot, tag_count}
use Rattle.nv_world_model.specs.Device.{DeviceLane}
use Rattle.nv_world_model.specs.Geometry.{Geometry, Guest}
use Rattle.nv_world_model.specs.Share.{Share}
use Rattle.nv_world_model.specs.ShareArea.{share_entry}
use Rattle.nv_world_model.specs.World.{Command, Ended, Flying, Free, InDevice, Lane, Queued, Standing, Tag, Taken, World, tag_in, tag_of}

-- a byte of two list pages is of one
page-one : (P : Type 0) (mediator lane tag other page at : ℕ) → tag < tag_count → page < tag_count → list_page mediator lane tag ≤ at → at < bounce_page mediator lane tag
    → list_page mediator other page ≤ at → at < bounce_page mediator other page → (lane ≡ other → tag ≡ page → P) → P
page-one P mediator lane tag other page at below also low high from to one =
    in-order P lane other (λ less. absurd (omega (arith, less, high, from, below)))
    (λ same. in-order P tag page (λ less. absurd (omega (arith, same, less, high, from))) (λ equal. one same equal)
    (λ more. absurd (omega (arith, same, more, low, to))))
    (λ more. absurd (omega (arith, more, low, to, also)))

-- and one of two slots
slot-one : (P : Type 0) (mediator lane slot other place at : ℕ) → slot < ring_size → place < ring_size → submission_slot mediator lane slot ≤ at
    → at < submission_slot mediator lane slot + sqe_size → submission_slot mediator other place ≤ at → at < submission_slot mediator other place + sqe_size
    → (lane ≡ other → slot ≡ place → P) → P
slot-one P mediator lane slot other place at below also low high from to one =
    in-order P lane other (λ less. absurd (omega (arith, less, high, from, below)))
    (λ same. in-order P slot place (λ less. absurd (omega (arith, same, less, high, from))) (λ equal. one same equal)
    (λ more. absurd (omega (arith, same, more, low, to))))
    (λ more. absurd (omega (arith, more, low, to, also)))

-- a tag that flies in the world does so in the side
flies-from : (o : Option Tag) (command : Command) (share : Share) → Some (Flying command share InDevice) ≡ option_map unplaced_tag o
    → (standing : Standing) × (o ≡ Some (Flying command share standing))
flies-from None command share is = cc
flies-from (Some Free) command share is = cc
flies-from (Some (Taken c reads)) command share is = cc
flies-from (Some (Flying c s standing)) command share is = (standing, cc)
flies-from (Some (Ended c st s)) command share is = cc

-- a lane of which the tail goes on
rung-at : (ts : List ℕ) (ds : List DeviceLane) (lane tail : ℕ) (v : DeviceLane) → length ts ≡ length ds → slice_get ds lane ≡ Some v → slice_get ts lane ≡ Some tail
    → slice_get (rung_with ts ds) lane ≡ Some (record v { tail = tail })
rung-at [] [] lane tail v many there at = cc
rung-at [] (d ∷ ds) lane tail v many there at = cc
rung-at (t ∷ ts) [] lane tail v many there at = cc
rung-at (t ∷ ts) (d ∷ ds) zero tail v many there at =
    ap (λ (n : ℕ). let e : DeviceLane = record d { tail = n } in Some e) (some-same t tail at)
    ∙ ap (λ (x : DeviceLane). let e : DeviceLane = record x { tail = tail } in Some e) (some-same d v there)
rung-at (t ∷ ts) (d ∷ ds) (suc lane) tail v many there at = rung-at ts ds lane tail v (omega (arith, many)) there at

module _ (host_bytes lanes : ℕ) (geometry : Geometry) (laid : IsLaidOut host_bytes lanes geometry) (f : Fine) (w : World) (good : IsGood lanes geometry f)
    (holds : Holds lanes geometry f w) where
  pub side-flies : (lane tag : ℕ) (command : Command) (share : Share) (standing : Standing) → tag_of w lane tag ≡ Some (Flying command share standing)
      → (there : Standing) × (tag_at f.side lane tag ≡ Some (Flying command share there))
  side-flies lane tag command share standing there =
      flies-from (tag_at f.side lane tag) command share (sym (ap (option_map unplaced_tag) there) ∙ tag-same (side_of w) f.side holds.sides lane tag)

  -- ---- what is not written

  pub whole-placed : All (IsPlaced geometry lanes f.side (behind geometry f.side f.call)) (whole geometry f.side f.call)
  whole-placed = by f.call
    where
      of_left : (c : Call) (left : Option (List Effect))
          → All (IsPlaced geometry lanes f.side (behind_of left f.side (call geometry c.event c.fetched f.side).now.side))
          (begun_of left (call geometry c.event c.fetched f.side).now.effects)
      of_left c None = All-nil (IsPlaced geometry lanes f.side f.side)
      of_left c (Some left) = call-placed host_bytes lanes geometry laid f.side good.reached c.event c.fetched

      by : (o : Option Call) → All (IsPlaced geometry lanes f.side (behind geometry f.side o)) (whole geometry f.side o)
      by None = All-nil (IsPlaced geometry lanes f.side f.side)
      by (Some c) = of_left c c.left

  -- a byte that no call under way writes
  pub quiet-at : (at : ℕ) → IsFixed geometry.mediator lanes at → (Where geometry f.side (behind geometry f.side f.call) at → ⊥) → f.outside.memory at ≡ w.host at
  quiet-at at fixed nowhere =
      sym (effects_on-elsewhere (undone f.call) f.outside.memory at
      (all-spared geometry lanes f.side (behind geometry f.side f.call) at fixed nowhere (undone f.call) holds.placed))
      ∙ holds.memory at fixed
      ∙ effects_on-elsewhere (whole geometry f.side f.call) w.host at
      (all-spared geometry lanes f.side (behind geometry f.side f.call) at fixed nowhere (whole geometry f.side f.call) whole-placed)

  -- ---- lists

  not-both : (o : Option Tag) (c k : Command) (reads : List ReadDone) (share : Share) (standing : Standing) → o ≡ Some (Taken c reads) → o ≡ Some (Flying k share standing) → ⊥
  not-both o c k reads share standing one other = clash (sym one ∙ other)
    where
      clash : Some (Taken c reads) ≡ Some (Flying k share standing) → ⊥
      clash is = cc

  pub quiet-list : (lane tag : ℕ) (command : Command) (share : Share) (standing : Standing) → tag_at f.side lane tag ≡ Some (Flying command share standing)
      → (at : ℕ) → list_page geometry.mediator lane tag ≤ at → at < bounce_page geometry.mediator lane tag → f.outside.memory at ≡ w.host at
  quiet-list lane tag command share standing flies at low high = quiet-at at (InList lane tag in_lanes below low high) nowhere
    where
      below : tag < tag_count
      below = tag-few host_bytes lanes geometry laid f.side f.side good.reached.kept lane tag (Flying command share standing) flies

      in_lanes : lane < lanes
      in_lanes =
          let l = tag-lane (slice_get f.side.lanes lane) tag (Flying command share standing) flies in
          let inside = slice_get-below f.side.lanes lane l.0 l.1.0 in
          let many = good.reached.many in
          omega (arith, inside, many)

      nowhere : Where geometry f.side (behind geometry f.side f.call) at → ⊥
      nowhere (InTaken other page c reads taken from to) =
          page-one ⊥ geometry.mediator lane tag other page at below
          (tag-few host_bytes lanes geometry laid f.side f.side good.reached.kept other page (Taken c reads) taken) low high from to (λ same equal.
          not-both (tag_at f.side other page) c command reads share standing taken
          (subst (λ n. tag_at f.side n page ≡ Some (Flying command share standing)) same
          (subst (λ n. tag_at f.side lane n ≡ Some (Flying command share standing)) equal flies)))
      nowhere (InNext other tail behind slot was now between from to) =
          let few = between.slot in
          ring-no_page geometry.mediator other lane tag at below (omega (arith, from)) (omega (arith, to, few)) low (omega (arith, high))

  -- ---- completions

  pub quiet-completion : (lane at : ℕ) → lane < lanes → completion_slot geometry.mediator lane 0 ≤ at → at < list_page geometry.mediator lane 0
      → Where geometry f.side (behind geometry f.side f.call) at → ⊥
  quiet-completion lane at below low high (InTaken other page c reads taken from to) =
      ring-no_page geometry.mediator lane other page at
      (tag-few host_bytes lanes geometry laid f.side f.side good.reached.kept other page (Taken c reads) taken) (omega (arith, low)) high from (omega (arith, to))
  quiet-completion lane at below low high (InNext other tail behind slot was now between from to) =
      let few = between.slot in
      in-order ⊥ lane other (λ less. absurd (omega (arith, less, high, from))) (λ same. absurd (omega (arith, same, low, to, few)))
      (λ more. absurd (omega (arith, more, low, to, few)))

  -- ---- entries

  module _ (lane : ℕ) (v : DeviceLane) (there : slice_get w.device lane ≡ Some v) where
    pub own : (l : Lane) × (slice_get w.lanes lane ≡ Some l)
    own =
        let below = slice_get-below w.device lane v there in
        let sides = holds.live.consistent.of_tags.sides in
        slice_get-there w.lanes lane (omega (arith, below, sides))

    pub fine : IsLane geometry lane w.host own.0 v
    fine = holds.live.consistent.of_tags.lanes lane own.0 v own.1 there

    module _ (c : Call) (under : f.call ≡ Some c) (size : IsFetched geometry c.event f.side c.fetched) where
      abbrev pub now : Doing
      now = (call geometry c.event c.fetched (side_of w)).now

      abbrev pub comes : IsReturned geometry w now
      comes = call-returned host_bytes lanes geometry laid f w good holds c under size

      many : length now.side.tails ≡ length w.device
      many = (rest-left geometry (side_of w) (kept-here host_bytes lanes geometry laid f w good holds) c.event c.fetched).many ∙ length-tails w.device

      -- what waits still does behind the call
      module _ (tail : ℕ) (after : slice_get now.side.tails lane ≡ Some tail) where
        abbrev rung_lane : DeviceLane
        rung_lane = record v { tail = tail }

        rung_there : slice_get comes.world.device lane ≡ Some (record v { tail = tail })
        rung_there = ap (λ (ds : List DeviceLane). slice_get ds lane) comes.device ∙ rung-at now.side.tails w.device lane tail v many there after

        going : (at : ℕ) → IsBetween v.head v.tail at
            → IsBetween v.head tail at × (bytes_from comes.world.host (submission_slot geometry.mediator lane at) sqe_size ≡ bytes_from w.host (submission_slot geometry.mediator lane at) sqe_size)
        going at between =
            let s = fine.queued at between in
            let held = held-under geometry lane w.host own.0 v fine s.tag s.there s.is in
            let a = queued-at geometry lane s.tag at w.host own.0.head v held.0 s.there (fine.tags s.tag s.there held.0 s.is held.1) s.stands in
            let is : tag_at (side_of w) lane s.tag ≡ Some (Flying a.command a.share (Queued at)) =
            ap (λ (o : Option Lane). tag_in o s.tag) own.1 ∙ s.is ∙ ap (λ (t : Tag). Some t) a.flies in
            let still : tag_in (slice_get comes.world.lanes lane) s.tag ≡ Some (Flying a.command a.share (Queued at)) =
            ap (λ (ls : List Lane). tag_in (slice_get ls lane) s.tag) comes.lanes ∙ comes.stays lane s.tag (Flying a.command a.share (Queued at)) is tt in
            let k = tag-lane (slice_get comes.world.lanes lane) s.tag (Flying a.command a.share (Queued at)) still in
            let later = comes.live.consistent.of_tags.lanes lane k.0 (record v { tail = tail }) k.1.0 rung_there in
            let holding = held-under geometry lane comes.world.host k.0 (record v { tail = tail }) later s.tag (Flying a.command a.share (Queued at)) k.1.1 in
            let flies = later.tags s.tag (Flying a.command a.share (Queued at)) holding.0 k.1.1 holding.1 in
            let one : flies.guest ≡ a.guest = some-same flies.guest a.guest (sym flies.is.given ∙ a.is.given) in
            let slot : ℕ = submission_slot geometry.mediator lane at in
            let shown : Shows comes.world.host slot (share_entry a.share a.guest.namespace a.guest a.command.entry geometry.mediator lane s.tag) =
            subst (λ (g : Guest). Shows comes.world.host slot (share_entry a.share g.namespace g a.command.entry geometry.mediator lane s.tag)) one flies.stands.0.shown in
            let sized = entry-length a.share a.guest a.command.entry geometry.mediator lane s.tag in (
              flies.stands.0.slot,
              subst (λ (n : ℕ). bytes_from comes.world.host slot n ≡ share_entry a.share a.guest.namespace a.guest a.command.entry geometry.mediator lane s.tag) sized shown
                  ∙ sym a.entry_is,
            )

        pub goes : (at : ℕ) → IsBetween v.head v.tail at → IsBetween v.head tail at
        goes at between = (going at between).0

        pub goes-shown : (at : ℕ) → IsBetween v.head v.tail at
            → bytes_from comes.world.host (submission_slot geometry.mediator lane at) sqe_size ≡ bytes_from w.host (submission_slot geometry.mediator lane at) sqe_size
        goes-shown at between = (going at between).1

        high-tail : tail < ring_size
        high-tail =
            let below = slice_get-below w.device lane v there in
            let sides = comes.live.consistent.of_tags.sides in
            let same = slice_get-below comes.world.device lane (record v { tail = tail }) rung_there in
            let k = slice_get-there comes.world.lanes lane (omega (arith, sides, same)) in
            (comes.live.consistent.of_tags.lanes lane k.0 (record v { tail = tail }) k.1 rung_there).positions.tail

        apart : (slot : ℕ) → IsBetween v.head v.tail slot → IsBetween v.tail tail slot → ⊥
        apart slot = beyond v.head v.tail tail slot fine.positions.head fine.positions.tail high-tail goes

    -- no next slot waits already
    next-apart : (o : Option Call) → f.call ≡ o → (tail past slot : ℕ) → slice_get f.side.tails lane ≡ Some tail
        → slice_get (behind geometry f.side o).tails lane ≡ Some past → IsBetween tail past slot → IsBetween v.head v.tail slot → ⊥
    next-apart None under tail past slot was now between before =
        between-none tail slot (good.reached.kept.slots lane tail was) (subst (λ n. IsBetween tail n slot) (some-same past tail (sym now ∙ was)) between)
    next-apart (Some c) under tail past slot was now between before = by c.left refl now
      where
        called : IsUnderWay geometry f.side c c.left
        called = subst (IsCalled geometry f.side) under good.called

        is : v.tail ≡ tail
        is = some-same v.tail tail (sym (tail-of w.device lane v there) ∙ ap (λ (ts : List ℕ). slice_get ts lane) holds.sides.tails ∙ was)

        by : (left : Option (List Effect)) → c.left ≡ left → slice_get (behind_of left f.side (call geometry c.event c.fetched f.side).now.side).tails lane ≡ Some past → ⊥
        by None none later =
            between-none tail slot (good.reached.kept.slots lane tail was) (subst (λ n. IsBetween tail n slot) (some-same past tail (sym later ∙ was)) between)
        by (Some left) so later =
            let size : IsFetched geometry c.event f.side c.fetched = (subst (IsUnderWay geometry f.side c) so called).0 in
            let after : slice_get (call geometry c.event c.fetched (side_of w)).now.side.tails lane ≡ Some past =
            ap (λ (ts : List ℕ). slice_get ts lane) (call-same (side_of w) f.side holds.sides geometry c.event c.fetched).sides.tails ∙ later in
            apart c under size past after slot before (subst (λ n. IsBetween n past slot) (sym is) between)

    pub quiet-slot : (slot at : ℕ) → IsBetween v.head v.tail slot → submission_slot geometry.mediator lane slot ≤ at
        → at < submission_slot geometry.mediator lane slot + sqe_size → f.outside.memory at ≡ w.host at
    quiet-slot slot at between low high =
        let few = between.slot in
        quiet-at at (InRings lane in_lanes (omega (arith, low)) (omega (arith, high, few))) nowhere
      where
        in_lanes : lane < lanes
        in_lanes =
            let below = slice_get-below w.lanes lane own.0 own.1 in
            let many = holds.many in
            omega (arith, below, many)

        nowhere : Where geometry f.side (behind geometry f.side f.call) at → ⊥
        nowhere (InTaken other page c reads taken from to) =
            let few = between.slot in
            ring-no_page geometry.mediator lane other page at
            (tag-few host_bytes lanes geometry laid f.side f.side good.reached.kept other page (Taken c reads) taken) (omega (arith, low)) (omega (arith, high, few)) from
            (omega (arith, to))
        nowhere (InNext other tail past place was now next from to) =
            slot-one ⊥ geometry.mediator lane slot other place at between.slot next.slot low high from to (λ same equal.
            next-apart f.call refl tail past slot (subst (λ n. slice_get f.side.tails n ≡ Some tail) (sym same) was)
            (subst (λ n. slice_get (behind geometry f.side f.call).tails n ≡ Some past) (sym same) now)
            (subst (IsBetween tail past) (sym equal) next) between)
