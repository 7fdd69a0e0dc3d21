-- The drive posts a completion: its command is in the drive no longer, and its tag is read once.
use Rattle.std.proofs.Common.{◌≡◌, ◌≢◌, ℕ, ◌<◌, Bool, false, ◌==◌, set, slice_get}
use Rattle.std.proofs.Common.{Option, Some, None, arith, eqb-true, refl, sym, ap, ◌∙◌, subst}
use Rattle.std.proofs.lemmas.Bool.{and_parts, eqb-false}
use Rattle.nv_entry.specs.Completion.{cid_of as completed_cid, phase_of, sqid_of}
use Rattle.nv_entry.specs.Status.{bit}
use Rattle.nv_fine.proofs.Answering.{before, below, elsewhere, found, host, l, lists-same, memory, memory-still, mirror, read-byte, rings-same, slot-is, under, v}
use Rattle.nv_fine.proofs.Mirrors.{AreRead, HasRead, Holds, IsLaneMirrored, IsOfTag}
use Rattle.nv_fine.proofs.Moves.{few-here, lane-plain, moved, moved-live, moved-mirrored, moved-side, noted-kept, of-tag-kept, tag-here}
use Rattle.nv_fine.proofs.Reaches.{when-has, working-has}
use Rattle.nv_fine.proofs.Slots.{lane-answered, lane-posted, phased-posted, room-there}
use Rattle.nv_fine.proofs.Takings.{side-then}
use Rattle.nv_fine.proofs.Within.{IsGood}
use Rattle.nv_fine.proofs.Works.{of-tag}
use Rattle.nv_fine.specs.Drive.{Completes, DriveLane, Outside, Working, driven}
use Rattle.nv_fine.specs.Fine.{Call, Fine}
use Rattle.nv_laws_sound.proofs.Lists.{IsThere, Put, Was, length-set, set-there, some-same}
use Rattle.nv_laws_sound.proofs.Rings.{far}
use Rattle.nv_laws_sound.proofs.Slots.{held-under}
use Rattle.nv_laws_sound.specs.Area.{SameInLane}
use Rattle.nv_laws_sound.specs.Consistent.{IsLane, IsTag}
use Rattle.nv_laws_sound.specs.LaidOut.{IsLaidOut}
use Rattle.nv_laws_sound.specs.Phased.{IsPhased}
use Rattle.nv_laws_sound.specs.Unplaced.{unplaced_lane}
use Rattle.nv_machine.proofs.PlaceKept.{lane-same}
use Rattle.nv_machine.specs.InWorld.{side_of}
use Rattle.nv_model.specs.Memory.{bytes_from}
use Rattle.nv_model.specs.Queue.{cqe_size, next_slot}
use Rattle.nv_world_model.proofs.Seats.{slice_get-set-other}
use Rattle.nv_world_model.specs.Area.{completion_slot, queue_pair, ring_size}
use Rattle.nv_world_model.specs.Device.{DeviceLane, Held, completion_posted, next_phase}
use Rattle.nv_world_model.specs.Geometry.{Geometry}
use Rattle.nv_world_model.specs.World.{Answered, Flying, InDevice, Lane, Tag, World, tag_changed, tag_in, tag_of}
use Rattle.nv_world_model.specs.declared.event.Event.TheVariants as event

module _ (host_bytes lanes : ℕ) (geometry : Geometry) (laid : IsLaidOut host_bytes lanes geometry) (f : Fine) (w : World) (good : IsGood lanes geometry f)
    (holds : Holds lanes geometry f w) (lane id : ℕ) (d : DriveLane) (k : Working) (there : slice_get f.outside.lanes lane ≡ Some d)
    (at : slice_get d.working id ≡ Some (Some k)) (byte : ℕ) where
  pub last : 14 < cqe_size
  last = omega arith

  abbrev pub x : DeviceLane
  x = v host_bytes lanes geometry laid f w good holds lane d there 14 byte last

  abbrev pub y : Lane
  y = l host_bytes lanes geometry laid f w good holds lane d there 14 byte last

  abbrev pub found_lane : slice_get w.lanes lane ≡ Some y
  found_lane = found host_bytes lanes geometry laid f w good holds lane d there 14 byte last

  abbrev pub found_device : slice_get w.device lane ≡ Some x
  found_device = under host_bytes lanes geometry laid f w good holds lane d there 14 byte last

  abbrev pub after : ℕ → ℕ
  after = host host_bytes lanes geometry laid f w good holds lane d there 14 byte last

  abbrev pub now_memory : ℕ → ℕ
  now_memory = memory host_bytes lanes geometry laid f w good holds lane d there 14 byte last

  was : IsLane geometry lane w.host y x
  was = before host_bytes lanes geometry laid f w good holds lane d there 14 byte last

  like : IsLaneMirrored geometry w lane d x
  like = mirror host_bytes lanes geometry laid f w good holds lane d there 14 byte last

  few : x.posted < ring_size
  few = below host_bytes lanes geometry laid f w good holds lane d there 14 byte last

  abbrev pub tag : IsOfTag geometry w lane id k
  tag = of-tag host_bytes lanes geometry laid f w good holds lane id d k there at

  pub tag_is : slice_get y.tags id ≡ Some (Flying tag.command tag.share InDevice)
  tag_is = sym (ap (λ (o : Option Lane). tag_in o id) found_lane) ∙ tag.flies

  -- it is held
  record IsHeld : Type 0 where
    h : Held
    held_it : slice_get x.held id ≡ Some (Some h)

  holding : IsHeld
  holding =
      let held = held-under geometry lane w.host y x was id (Flying tag.command tag.share InDevice) tag_is in
      by held.0 held.1 (was.tags id (Flying tag.command tag.share InDevice) held.0 tag_is held.1)
    where
      by : (o : Option Held) → slice_get (v host_bytes lanes geometry laid f w good holds lane d there 14 byte last).held id ≡ Some o
          → IsTag geometry lane id w.host (l host_bytes lanes geometry laid f w good holds lane d there 14 byte last).head
          (v host_bytes lanes geometry laid f w good holds lane d there 14 byte last) o (Flying tag.command tag.share InDevice) → IsHeld
      by None under_it is = absurd is.stands
      by (Some h) under_it is = record { h = h; held_it = under_it }

  -- the world's lane, and the drive's, behind it
  abbrev pub m : Lane
  m = tag_changed id (Flying tag.command tag.share (Answered x.posted)) y

  abbrev pub n : DeviceLane
  n = completion_posted id x

  abbrev pub now : DriveLane
  now = record d { posted = next_slot ring_size d.posted; phase = next_phase d.posted d.phase; working = set d.working id None }

  pub off : (a : ℕ) → (a == lane) ≡ false → SameInLane w.host after geometry.mediator a
  off = elsewhere host_bytes lanes geometry laid f w good holds lane d there 14 byte last

  abbrev pub z : World
  z = moved geometry w holds.live laid.pages lane y x found_lane found_device after m n off

  plain : unplaced_lane m ≡ unplaced_lane y
  plain = lane-plain y id (Flying tag.command tag.share InDevice) (Flying tag.command tag.share (Answered x.posted)) tag_is refl

  room : far y.head x.posted < 64
  room = room-there geometry lane w.host y x laid.pages was id tag.command tag.share holding.h tag_is holding.held_it

  tag-then : (other : ℕ) → (other == id) ≡ false → (t : Tag) → tag_of w lane other ≡ Some t → tag_of z lane other ≡ Some t
  tag-then other apart t is =
      tag-here geometry w holds.live laid.pages lane y x found_lane found_device after m n off other
      ∙ slice_get-set-other y.tags id other (Flying tag.command tag.share (Answered x.posted)) apart ∙ sym (ap (λ (o : Option Lane). tag_in o other) found_lane) ∙ is

  working-now : (other : ℕ) (j : Working) → IsThere d.working id None other (Some j) → IsOfTag geometry z lane other j
  working-now other j (Put same put) = (let bad : None ≡ Some j = put in cc)
  working-now other j (Was apart was_it) =
      let is = like.working other j was_it in
      of-tag-kept geometry w z lane (rings-same host_bytes lanes geometry laid f w good holds lane d there 14 byte last)
      (lists-same host_bytes lanes geometry laid f w good holds lane d there 14 byte last) laid.pages other j
      (few-here geometry w holds.live laid.pages lane y x found_lane found_device after m n off other _ is.flies) (tag-then other apart) is

  mine : IsLaneMirrored geometry z lane now n
  mine =
      record {
        head = like.head;
        posted = ap (λ (a : ℕ). next_slot ring_size a) like.posted;
        phase = ap (λ (a : ℕ). next_phase a d.phase) like.posted ∙ ap (λ (p : Bool). next_phase x.posted p) like.phase;
        seen = λ a b is.
            (let seen = noted-kept geometry w z lane (rings-same host_bytes lanes geometry laid f w good holds lane d there 14 byte last)
            (lists-same host_bytes lanes geometry laid f w good holds lane d there 14 byte last) laid.pages x a b (like.seen a b is) in
            record { slot = seen.slot; between = seen.between; low = seen.low; high = seen.high; same = seen.same });
        working = λ other j is. working-now other j (set-there d.working id None other (Some j) is);
      }

  -- what a Reap has read is before it
  next-off : (head posted : ℕ) → head < ring_size → posted < ring_size → far head posted < 64 → head ≢ next_slot ring_size posted
  next-off head posted low high space same = absurd (omega (arith, low, high, space, same))

  kept-read : (o : Option Call) → AreRead geometry f.side f.outside.lanes w.host o → AreRead geometry f.side (set f.outside.lanes lane now) after o
  kept-read None are = tt
  kept-read (Some c) are = λ a q e is at_lane there_is. by a q e is at_lane (set-there f.outside.lanes lane now a e there_is)
    where
      by : (a : ℕ) (q : Lane) (e : DriveLane) → c.event ≡ event.Reap a → slice_get f.side.lanes a ≡ Some q → IsThere f.outside.lanes lane now a e
          → HasRead geometry after a q.head q.phase e.posted c.fetched
      by a q e is at_lane (Was apart was_it) =
          read-byte geometry lane x.posted 14 byte w.host last few a q.head q.phase e.posted c.fetched (good.reached.kept.lanes a q at_lane).head
          (λ same. absurd (eqb-false a lane apart same)) (are a q e is at_lane was_it)
      by a q e is at_lane (Put here put) =
          let read = read-byte geometry lane x.posted 14 byte w.host last few a q.head q.phase d.posted c.fetched (good.reached.kept.lanes a q at_lane).head
          (λ same. like.posted) (are a q d is at_lane (ap (λ (j : ℕ). slice_get f.outside.lanes j) here ∙ there)) in
          let posted : next_slot ring_size d.posted ≡ e.posted = ap (λ (j : DriveLane). j.posted) put in
          subst (λ (p : ℕ). HasRead geometry after a q.head q.phase p c.fetched) posted (λ some.
          (let r = read some in
          (r.0, λ new. (let both = r.1 new in (q-off a q here at_lane, both.1)))))
        where
          q-off : (a : ℕ) (q : Lane) → a ≡ lane → slice_get f.side.lanes a ≡ Some q → q.head ≢ next_slot ring_size d.posted
          q-off a q here at_lane same =
              let s = lane-same (side_of w) f.side holds.sides lane y found_lane in
              let one : s.k ≡ q = some-same s.k q (sym s.there ∙ sym (ap (λ (j : ℕ). slice_get f.side.lanes j) here) ∙ at_lane) in
              let head : y.head ≡ q.head = sym (ap (λ (j : Lane). j.head) s.same) ∙ ap (λ (j : Lane). j.head) one in
              next-off y.head x.posted was.positions.read few room (head ∙ same ∙ ap (λ (j : ℕ). next_slot ring_size j) like.posted)

  module _ (names : completed_cid (bytes_from now_memory (completion_slot geometry.mediator lane d.posted) cqe_size) ≡ id)
      (queue : sqid_of (bytes_from now_memory (completion_slot geometry.mediator lane d.posted) cqe_size) ≡ queue_pair lane)
      (phase : phase_of (bytes_from now_memory (completion_slot geometry.mediator lane d.posted) cqe_size) ≡ bit d.phase) where
    is : bytes_from now_memory (completion_slot geometry.mediator lane d.posted) cqe_size ≡ bytes_from after (completion_slot geometry.mediator lane x.posted) cqe_size
    is = slot-is host_bytes lanes geometry laid f w good holds lane d there 14 byte last

    lane_is : IsLane geometry lane after m n
    lane_is =
        lane-posted geometry lane after y x laid.pages (lane-answered geometry lane w.host x 14 byte last few y laid.pages was) id tag.command tag.share holding.h tag_is
        holding.held_it (ap completed_cid (sym is) ∙ names) (ap sqid_of (sym is) ∙ queue)

    phases : IsPhased geometry after lane m.head m.phase n.posted n.phase
    phases =
        phased-posted geometry lane w.host x 14 byte last few y.head y.phase was.positions.read room
        (ap phase_of (sym is) ∙ phase ∙ ap bit like.phase) (holds.live.phased lane y x found_lane found_device)

    pub posted-holds : Holds lanes geometry (record f { outside = record f.outside { memory = now_memory; lanes = set f.outside.lanes lane now } }) z
    posted-holds =
        record {
          live = moved-live geometry w holds.live laid.pages lane y x found_lane found_device after m n off plain refl lane_is phases;
          many = length-set w.lanes lane m ∙ holds.many;
          sides = side-then (side_of z) (side_of w) f.side
              (moved-side geometry w holds.live laid.pages lane y x found_lane found_device after m n off plain refl) holds.sides;
          drives = length-set f.outside.lanes lane now ∙ holds.drives ∙ sym (length-set w.device lane n);
          mirrored = moved-mirrored geometry w holds.live laid.pages lane y x found_lane found_device after m n off f.outside.lanes now holds.mirrored mine;
          memory = memory-still host_bytes lanes geometry laid f w good holds lane d there 14 byte last;
          placed = holds.placed;
          read = kept-read f.call holds.read;
        }

module _ (host_bytes lanes : ℕ) (geometry : Geometry) (laid : IsLaidOut host_bytes lanes geometry) (f : Fine) (w : World) (good : IsGood lanes geometry f)
    (holds : Holds lanes geometry f w) (zeroes : Bool) (p : Outside) where
  pub completes : (lane id : ℕ) (fails : Bool) (byte : ℕ) → driven geometry zeroes f.side.tails (Completes lane id fails byte) f.outside ≡ Some p
      → (y : World) × Holds lanes geometry (record f { outside = p }) y
  unfolding driven
  completes lane id fails byte is =
      let Next : Outside → Type 0 = λ q. (y : World) × Holds lanes geometry (record f { outside = q }) y in
      working-has geometry f.side.tails f.outside lane id _ p (Next p) is (λ k d there at ruled.
      when-has _ _ p Next ruled (λ may.
      (let three = and_parts _ _ may in
      let two = and_parts _ _ three.0 in
      let one = and_parts _ _ two.0 in (
        _,
        posted-holds host_bytes lanes geometry laid f w good holds lane id d k there at byte (eqb-true _ id one.0) (eqb-true _ (queue_pair lane) one.1)
            (eqb-true _ (bit d.phase) two.1),
      ))))
