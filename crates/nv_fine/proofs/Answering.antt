-- The drive writes a byte of the next completion: no call under way reads or writes it, and the world gets it, too.
use Rattle.std.proofs.Common.{◌≡◌, ◌≢◌, ℕ, ◌+◌, ◌/◌, ◌^◌, ◌<◌, ◌≤◌, ◌⊎◌, inl, inr, Bool, true, false, not, ◌&&◌, ◌==◌, nat_lt, List, [], ◌∷◌, length, slice_get, take}
use Rattle.std.proofs.Common.{Option, Some, None, is_some, ⊎_elim, arith, mod-lt, eq-eqb, refl, sym, ap, ◌∙◌, subst}
use Rattle.std.proofs.lemmas.Bool.{and_parts, cases_eq, cases_lt, ltb-true}
use Rattle.std.proofs.lemmas.List.Elements.{All-append, All-take}
use Rattle.std.proofs.lemmas.Option.{option_and_then_some}
use Rattle.std.specs.List.{list_any, range_with_len}
use Rattle.nv_entry.specs.Completion.{phase_of}
use Rattle.nv_entry.specs.Layout.{bits, dword}
use Rattle.nv_entry.specs.Status.{bit}
use Rattle.nv_fine.proofs.Mirrors.{AreMirrored, AreRead, HasRead, Holds, IsLaneMirrored, behind, reap_addresses, undone, whole}
use Rattle.nv_fine.proofs.Moves.{few-here, lane-kept, moved, moved-live, moved-mirrored, moved-side, tag-here}
use Rattle.nv_fine.proofs.Placed.{InRings, IsFixed, Where}
use Rattle.nv_fine.proofs.Quiets.{all-spared, all-steady, world-lane_of}
use Rattle.nv_fine.proofs.Reaches.{stored-one, when-has}
use Rattle.nv_fine.proofs.Slots.{lane-answered, lane-elsewhere, phased-answered}
use Rattle.nv_fine.proofs.Spared.{fine, own, quiet-at, quiet-completion, whole-placed}
use Rattle.nv_fine.proofs.Steady.{effects_on-at}
use Rattle.nv_fine.proofs.Takings.{side-then}
use Rattle.nv_fine.proofs.Within.{IsGood, map-same}
use Rattle.nv_fine.specs.Drive.{Answers, DriveLane, Outside, driven}
use Rattle.nv_fine.specs.Fine.{Call, Fine}
use Rattle.nv_laws_sound.proofs.Lists.{set-same, length-set, slice_get-below, some-same}
use Rattle.nv_laws_sound.proofs.Named.{row-all}
use Rattle.nv_laws_sound.specs.Area.{SameInLane}
use Rattle.nv_laws_sound.specs.Consistent.{IsLane}
use Rattle.nv_laws_sound.specs.LaidOut.{IsLaidOut}
use Rattle.nv_laws_sound.specs.Phased.{phase_at}
use Rattle.nv_machine.proofs.Effects.{effects_on-elsewhere}
use Rattle.nv_machine.specs.Effects.{effects_on}
use Rattle.nv_machine.specs.InWorld.{side_of}
use Rattle.nv_model.proofs.Agreeing.{bytes_from-agree}
use Rattle.nv_model.proofs.MemoryAlike.{stored-at}
use Rattle.nv_model.specs.Memory.{bytes_from, stored}
use Rattle.nv_model.specs.Queue.{cqe_size}
use Rattle.nv_world_model.specs.Area.{completion_slot, lane_start, list_page, ring_size}
use Rattle.nv_world_model.specs.Device.{DeviceLane}
use Rattle.nv_world_model.specs.Geometry.{Geometry}
use Rattle.nv_world_model.specs.World.{Lane, World, tag_in}

-- ---- a phase tag is 0 or 1

phase-small : (entry : List ℕ) → phase_of entry < 2
unfolding bits
phase-small entry = mod-lt (dword entry 3 / 2 ^ 16) (omega arith)

pub phase-other : (entry : List ℕ) (phase : Bool) → not (phase_of entry == bit phase) ≡ true → phase_of entry ≡ bit (not phase)
phase-other entry phase other = by phase (phase_of entry) (phase-small entry) other
  where
    one : (n : ℕ) → n < 2 → (n ≡ 0 → ⊥) → n ≡ 1
    one n small off = ⊎_elim (λ same. absurd (off same)) (λ differ. omega (arith, small, differ)) (cases_eq n 0)

    zero_is : (n : ℕ) → n < 2 → (n ≡ 1 → ⊥) → n ≡ 0
    zero_is n small off = ⊎_elim (λ same. absurd (off same)) (λ differ. omega (arith, small, differ)) (cases_eq n 1)

    clash : (b : Bool) → b ≡ true → not b ≡ true → ⊥
    clash true is none = cc
    clash false is none = cc

    by : (b : Bool) (n : ℕ) → n < 2 → not (n == bit b) ≡ true → n ≡ bit (not b)
    by true n small off = zero_is n small (λ same. clash (n == 1) (eq-eqb n 1 same) off)
    by false n small off = one n small (λ same. clash (n == 0) (eq-eqb n 0 same) off)

-- ---- what a Reap has read is elsewhere

slot-off : (mediator lane posted i other head at : ℕ) → i < cqe_size → posted < ring_size → head < ring_size → (other ≡ lane → head ≡ posted → ⊥)
    → completion_slot mediator other head ≤ at → at < completion_slot mediator other head + cqe_size → completion_slot mediator lane posted + i ≡ at → ⊥
slot-off mediator lane posted i other head at within below low apart from to same =
    ⊎_elim (λ one. ⊎_elim (λ equal. apart one equal) (λ differ. absurd (by one differ)) (cases_eq head posted))
    (λ differ. absurd (lanes differ (cases_lt other lane))) (cases_eq other lane)
  where
    by : other ≡ lane → head ≢ posted → ⊥
    by one differ = ⊎_elim (λ less. absurd (omega (arith, one, less, within, to, same))) (λ most. absurd (omega (arith, one, most, differ, within, from, same))) (cases_lt head posted)

    lanes : other ≢ lane → (other < lane) ⊎ (lane ≤ other) → ⊥
    lanes differ (inl less) = absurd (omega (arith, less, to, same, low))
    lanes differ (inr most) = absurd (omega (arith, most, differ, from, same, within, below))

module _ (geometry : Geometry) (lane posted i byte : ℕ) (host : ℕ → ℕ) (within : i < cqe_size) (below : posted < ring_size) where
  abbrev to : ℕ
  to = completion_slot geometry.mediator lane posted + i

  pub read-byte : (other head : ℕ) (phase : Bool) (at : ℕ) (fetched : List ℕ) → head < ring_size → (other ≡ lane → at ≡ posted)
      → HasRead geometry host other head phase at fetched
      → HasRead geometry (stored host (completion_slot geometry.mediator lane posted + i) (byte ∷ [])) other head phase at fetched
  read-byte other head phase at fetched low same read = λ some.
      (let r = read some in (
        r.0,
        λ new.
            (let both = r.1 new in (
              both.0,
              both.1 ∙ map-same host (stored host to (byte ∷ [])) (take (length fetched) (reap_addresses geometry.mediator other head))
                  (All-take Same (length fetched) (reap_addresses geometry.mediator other head)
                  (All-append Same (range_with_len (completion_slot geometry.mediator other head + 12) 4) (range_with_len (completion_slot geometry.mediator other head) 12)
                  (row-all Same (completion_slot geometry.mediator other head + 12) 4 (λ a from high. one both.0 a (omega (arith, from)) (omega (arith, high))))
                  (row-all Same (completion_slot geometry.mediator other head) 12 (λ a from high. one both.0 a from (omega (arith, high)))))),
            )),
      ))
    where
      Same : ℕ → Type 0
      Same a = host a ≡ stored host (completion_slot geometry.mediator lane posted + i) (byte ∷ []) a

      one : head ≢ at → (a : ℕ) → completion_slot geometry.mediator other head ≤ a → a < completion_slot geometry.mediator other head + cqe_size
          → host a ≡ stored host (completion_slot geometry.mediator lane posted + i) (byte ∷ []) a
      one apart a from high =
          sym (stored-one host (completion_slot geometry.mediator lane posted + i) byte a
          (slot-off geometry.mediator lane posted i other head a within below low (λ here equal. apart (equal ∙ sym (same here))) from high))

-- ---- the byte

module _ (host_bytes lanes : ℕ) (geometry : Geometry) (laid : IsLaidOut host_bytes lanes geometry) (f : Fine) (w : World) (good : IsGood lanes geometry f)
    (holds : Holds lanes geometry f w) (lane : ℕ) (d : DriveLane) (there : slice_get f.outside.lanes lane ≡ Some d) (i byte : ℕ) (within : i < cqe_size) where
  abbrev pub v : DeviceLane
  v = (world-lane_of host_bytes lanes geometry laid f w good holds lane d there).0

  pub under : slice_get w.device lane ≡ Some v
  under = (world-lane_of host_bytes lanes geometry laid f w good holds lane d there).1

  abbrev pub l : Lane
  l = (own host_bytes lanes geometry laid f w good holds lane v under).0

  pub found : slice_get w.lanes lane ≡ Some l
  found = (own host_bytes lanes geometry laid f w good holds lane v under).1

  pub before : IsLane geometry lane w.host l v
  before = fine host_bytes lanes geometry laid f w good holds lane v under

  pub mirror : IsLaneMirrored geometry w lane d v
  mirror = holds.mirrored lane d v there under

  pub below : v.posted < ring_size
  below = before.positions.posted

  pub in_lanes : lane < lanes
  in_lanes = let inside = slice_get-below w.lanes lane l found in let many = holds.many in omega (arith, inside, many)

  abbrev pub place : ℕ
  place = completion_slot geometry.mediator lane v.posted + i

  abbrev pub host : ℕ → ℕ
  host = stored w.host (completion_slot geometry.mediator lane v.posted + i) (byte ∷ [])

  abbrev pub memory : ℕ → ℕ
  memory = stored f.outside.memory (completion_slot geometry.mediator lane d.posted + i) (byte ∷ [])

  -- the slot is as it is in the world
  slot-same : (at : ℕ) → completion_slot geometry.mediator lane v.posted ≤ at → at < completion_slot geometry.mediator lane v.posted + cqe_size → memory at ≡ host at
  slot-same at low high =
      let few = below in
      ap (λ (n : ℕ). stored f.outside.memory (completion_slot geometry.mediator lane n + i) (byte ∷ []) at) mirror.posted
      ∙ stored-at f.outside.memory w.host (completion_slot geometry.mediator lane v.posted + i) (byte ∷ []) at
      (quiet-at host_bytes lanes geometry laid f w good holds at (InRings lane in_lanes (omega (arith, low)) (omega (arith, high, few)))
      (quiet-completion host_bytes lanes geometry laid f w good holds lane at in_lanes (omega (arith, low)) (omega (arith, high, few))))

  pub slot-is : bytes_from memory (completion_slot geometry.mediator lane d.posted) cqe_size ≡ bytes_from host (completion_slot geometry.mediator lane v.posted) cqe_size
  slot-is =
      ap (λ (n : ℕ). bytes_from memory (completion_slot geometry.mediator lane n) cqe_size) mirror.posted
      ∙ bytes_from-agree memory host (completion_slot geometry.mediator lane v.posted) cqe_size (λ k inside.
      slot-same (completion_slot geometry.mediator lane v.posted + k) (omega arith) (omega (arith, inside)))

  -- rings and lists have what they have in the world still
  pub memory-still : (at : ℕ) → IsFixed geometry.mediator lanes at
      → effects_on (undone f.call) memory at ≡ effects_on (whole geometry f.side f.call) host at
  memory-still at fixed = ⊎_elim (λ here. same here) (λ apart. other apart) (cases_eq place at)
    where
      moved_to : (at : ℕ) → memory at ≡ stored f.outside.memory (completion_slot geometry.mediator lane v.posted + i) (byte ∷ []) at
      moved_to at = ap (λ (n : ℕ). stored f.outside.memory (completion_slot geometry.mediator lane n + i) (byte ∷ []) at) mirror.posted

      same : completion_slot geometry.mediator lane v.posted + i ≡ at → effects_on (undone f.call) memory at ≡ effects_on (whole geometry f.side f.call) host at
      same here =
          let few = below in
          let nowhere : Where geometry f.side (behind geometry f.side f.call) at → ⊥ =
          quiet-completion host_bytes lanes geometry laid f w good holds lane at in_lanes (omega (arith, here)) (omega (arith, here, few, within)) in
          effects_on-elsewhere (undone f.call) memory at
          (all-spared geometry lanes f.side (behind geometry f.side f.call) at fixed nowhere (undone f.call) holds.placed)
          ∙ slot-same at (omega (arith, here)) (omega (arith, here, within))
          ∙ sym (effects_on-elsewhere (whole geometry f.side f.call) host at
          (all-spared geometry lanes f.side (behind geometry f.side f.call) at fixed nowhere (whole geometry f.side f.call)
          (whole-placed host_bytes lanes geometry laid f w good holds)))

      other : completion_slot geometry.mediator lane v.posted + i ≢ at → effects_on (undone f.call) memory at ≡ effects_on (whole geometry f.side f.call) host at
      other apart =
          effects_on-at (undone f.call) memory f.outside.memory at
          (all-steady geometry lanes f.side (behind geometry f.side f.call) at fixed (undone f.call) holds.placed)
          (moved_to at ∙ stored-one f.outside.memory (completion_slot geometry.mediator lane v.posted + i) byte at apart)
          ∙ holds.memory at fixed
          ∙ effects_on-at (whole geometry f.side f.call) w.host host at
          (all-steady geometry lanes f.side (behind geometry f.side f.call) at fixed (whole geometry f.side f.call)
          (whole-placed host_bytes lanes geometry laid f w good holds))
          (sym (stored-one w.host (completion_slot geometry.mediator lane v.posted + i) byte at apart))

  -- the slots of the submission ring, and list pages, are as they were
  pub rings-same : (at : ℕ) → lane_start geometry.mediator lane ≤ at → at < completion_slot geometry.mediator lane 0 → w.host at ≡ host at
  rings-same at low high = sym (stored-one w.host place byte at (λ same. absurd (omega (arith, same, high))))

  pub lists-same : (at : ℕ) → list_page geometry.mediator lane 0 ≤ at → at < lane_start geometry.mediator (lane + 1) → w.host at ≡ host at
  lists-same at low high = let few = below in sym (stored-one w.host place byte at (λ same. absurd (omega (arith, same, low, few, within))))

  pub elsewhere : (at : ℕ) → (at == lane) ≡ false → SameInLane w.host host geometry.mediator at
  elsewhere = lane-elsewhere geometry lane w.host v i byte within below

  -- ---- a byte that does not post it

  abbrev pub z : World
  z = moved geometry w holds.live laid.pages lane l v found under host l v elsewhere

  module _ (still : not (phase_of (bytes_from memory (completion_slot geometry.mediator lane d.posted) cqe_size) == bit d.phase) ≡ true) where
    here : phase_at geometry host lane v.posted ≡ bit (not v.phase)
    here =
        phase-other (bytes_from host (completion_slot geometry.mediator lane v.posted) cqe_size) v.phase
        (ap (λ (xs : List ℕ). not (phase_of xs == bit v.phase)) (sym slot-is)
        ∙ ap (λ (b : Bool). not (phase_of (bytes_from memory (completion_slot geometry.mediator lane d.posted) cqe_size) == bit b)) (sym mirror.phase) ∙ still)

    kept-read : (o : Option Call) → AreRead geometry f.side f.outside.lanes w.host o → AreRead geometry f.side f.outside.lanes host o
    kept-read None are = tt
    kept-read (Some c) are = λ n k e is at_lane at.
        read-byte geometry lane v.posted i byte w.host within below n k.head k.phase e.posted c.fetched (good.reached.kept.lanes n k at_lane).head
        (λ same. ap (λ (x : DriveLane). x.posted) (some-same e d (sym at ∙ ap (λ (j : ℕ). slice_get f.outside.lanes j) same ∙ there)) ∙ mirror.posted)
        (are n k e is at_lane at)

    pub answered-holds : Holds lanes geometry (record f { outside = record f.outside { memory = memory } }) z
    answered-holds =
        record {
          live = moved-live geometry w holds.live laid.pages lane l v found under host l v elsewhere refl refl
              (lane-answered geometry lane w.host v i byte within below l laid.pages before)
              (phased-answered geometry lane w.host v i byte within below l.head l.phase here (holds.live.phased lane l v found under));
          many = length-set w.lanes lane l ∙ holds.many;
          sides = side-then (side_of z) (side_of w) f.side (moved-side geometry w holds.live laid.pages lane l v found under host l v elsewhere refl refl) holds.sides;
          drives = holds.drives ∙ sym (length-set w.device lane v);
          mirrored =
              subst (AreMirrored geometry z) (set-same f.outside.lanes lane d there)
              (moved-mirrored geometry w holds.live laid.pages lane l v found under host l v elsewhere f.outside.lanes d holds.mirrored
              (lane-kept geometry w z lane rings-same lists-same laid.pages d v (λ id t flies. (
                few-here geometry w holds.live laid.pages lane l v found under host l v elsewhere id t flies,
                tag-here geometry w holds.live laid.pages lane l v found under host l v elsewhere id ∙ sym (ap (λ (o : Option Lane). tag_in o id) found) ∙ flies,
              )) mirror));
          memory = memory-still;
          placed = holds.placed;
          read = kept-read f.call holds.read;
        }

module _ (host_bytes lanes : ℕ) (geometry : Geometry) (laid : IsLaidOut host_bytes lanes geometry) (f : Fine) (w : World) (good : IsGood lanes geometry f)
    (holds : Holds lanes geometry f w) (zeroes : Bool) (p : Outside) where
  pub answers : (lane i byte : ℕ) → driven geometry zeroes f.side.tails (Answers lane i byte) f.outside ≡ Some p
      → (y : World) × Holds lanes geometry (record f { outside = p }) y
  unfolding driven
  answers lane i byte is =
      let Next : Outside → Type 0 = λ q. (y : World) × Holds lanes geometry (record f { outside = q }) y in
      option_and_then_some _ (slice_get f.outside.lanes lane) p is (λ d there ruled.
      when-has _ _ p Next ruled (λ may.
      (let first = and_parts (list_any is_some d.working && nat_lt i cqe_size) _ may in
      let both = and_parts (list_any is_some d.working) (nat_lt i cqe_size) first.0 in
      (_, answered-holds host_bytes lanes geometry laid f w good holds lane d there i byte (ltb-true i cqe_size both.1) first.1))))
