-- The drive takes an entry: it is that of a tag which flies.
use Rattle.std.proofs.Common.{◌≡◌, ◌≢◌, ℕ, ◌+◌, ◌<◌, ◌≤◌, Bool, true, false, cond, not, ◌&&◌, ◌==◌, nat_le, nat_lt, List, [], length, set, slice_get}
use Rattle.std.proofs.Common.{Option, Some, None, arith, eq-eqb, le-leb, lt-ltb, refl, sym, ap, ◌∙◌, subst}
use Rattle.std.proofs.lemmas.Bool.{and_parts}
use Rattle.nv_entry.specs.Submission.{cid_of}
use Rattle.nv_fine.proofs.Entries.{read-set, tail-is}
use Rattle.nv_fine.proofs.Known.{bytes-are}
use Rattle.nv_fine.proofs.Mirrors.{Holds, IsLaneMirrored, IsNoted, IsOfTag}
use Rattle.nv_fine.proofs.Moves.{few-here, lane-plain, moved, moved-live, moved-mirrored, moved-side, of-tag-kept, tag-here}
use Rattle.nv_fine.proofs.Quiets.{laid-here, world-lane_of}
use Rattle.nv_fine.proofs.Reaches.{tail-has, when-has}
use Rattle.nv_fine.proofs.Spared.{fine, own}
use Rattle.nv_fine.proofs.Within.{IsGood}
use Rattle.nv_fine.specs.Drive.{DriveLane, Outside, Takes, Working, byte_of, driven, has}
use Rattle.nv_fine.specs.Fine.{Fine}
use Rattle.nv_laws_sound.proofs.EntryFields.{entry-cid}
use Rattle.nv_laws_sound.proofs.Lists.{IsThere, Put, Was, length-set, set-there, slice_get-below, some-same}
use Rattle.nv_laws_sound.proofs.Rings.{between-head, between-less, far-some}
use Rattle.nv_laws_sound.proofs.Slots.{held-under}
use Rattle.nv_laws_sound.proofs.TakenEvents.{IsQueuedAt, lane-taken, queued-at}
use Rattle.nv_laws_sound.specs.Consistent.{IsLane, SomeStands}
use Rattle.nv_laws_sound.specs.LaidOut.{IsLaidOut}
use Rattle.nv_laws_sound.specs.Phased.{IsPhased}
use Rattle.nv_laws_sound.specs.Side.{Side}
use Rattle.nv_laws_sound.specs.Unplaced.{unplaced_lane}
use Rattle.nv_machine.specs.InWorld.{side_of}
use Rattle.nv_machine.specs.Unplaced.{AreSameButPlaces}
use Rattle.nv_model.specs.Memory.{bytes_from}
use Rattle.nv_model.specs.Queue.{is_empty, next_slot, sqe_size}
use Rattle.nv_world_model.proofs.Seats.{slice_get-set, slice_get-set-other}
use Rattle.nv_world_model.specs.Area.{ring_size, submission_slot, tag_count}
use Rattle.nv_world_model.specs.Contained.{is_queued_at}
use Rattle.nv_world_model.specs.Device.{DeviceLane, Held, held_of}
use Rattle.nv_world_model.specs.Geometry.{Geometry}
use Rattle.nv_world_model.specs.ShareArea.{share_entry}
use Rattle.nv_world_model.specs.World.{Flying, InDevice, Lane, Queued, Tag, World, tag_changed, tag_in, tag_of}

-- two sides that are the same as a third
pub side-then : (s z t : Side) → AreSameButPlaces s z → AreSameButPlaces z t → AreSameButPlaces s t
side-then s z t first second =
    record { lanes = first.lanes ∙ second.lanes; tails = first.tails ∙ second.tails; controllers = first.controllers ∙ second.controllers }

module _ (host_bytes lanes : ℕ) (geometry : Geometry) (laid : IsLaidOut host_bytes lanes geometry) (f : Fine) (w : World) (good : IsGood lanes geometry f)
    (holds : Holds lanes geometry f w) (lane : ℕ) (d : DriveLane) (tail : ℕ) (there : slice_get f.outside.lanes lane ≡ Some d)
    (at : slice_get f.side.tails lane ≡ Some tail) (some : not (is_empty d.head tail) ≡ true)
    (read : has d.seen (submission_slot geometry.mediator lane d.head) sqe_size ≡ true) where
  -- the world's side of the lane
  abbrev pub v : DeviceLane
  v = (world-lane_of host_bytes lanes geometry laid f w good holds lane d there).0

  pub under : slice_get w.device lane ≡ Some v
  under = (world-lane_of host_bytes lanes geometry laid f w good holds lane d there).1

  abbrev pub l : Lane
  l = (own host_bytes lanes geometry laid f w good holds lane v under).0

  pub found : slice_get w.lanes lane ≡ Some l
  found = (own host_bytes lanes geometry laid f w good holds lane v under).1

  pub before : IsLane geometry lane w.host l v
  before = fine host_bytes lanes geometry laid f w good holds lane v under

  mirror : IsLaneMirrored geometry w lane d v
  mirror = holds.mirrored lane d v there under

  pub waits : v.head ≢ v.tail
  waits same = by (is_empty d.head tail) refl some
    where
      both : d.head ≡ tail
      both = mirror.head ∙ same ∙ sym (tail-is host_bytes lanes geometry laid f w good holds lane tail v under at)

      by : (b : Bool) → is_empty d.head tail ≡ b → not b ≡ true → ⊥
      by true empty is = cc
      by false other is = clash (sym (eq-eqb d.head tail both) ∙ other)
        where
          clash : true ≡ false → ⊥
          clash e = cc

  -- the tag that is next
  abbrev pub next : SomeStands (is_queued_at v.head) l.tags
  next =
      before.queued v.head (between-head v.head v.tail before.positions.head before.positions.tail
      (far-some v.head v.tail before.positions.head before.positions.tail waits))

  abbrev pub holding : (held : Option Held) × (slice_get v.held next.tag ≡ Some held)
  holding = held-under geometry lane w.host l v before next.tag next.there next.is

  abbrev pub a : IsQueuedAt geometry lane next.tag v.head w.host holding.0 next.there
  a = queued-at geometry lane next.tag v.head w.host l.head v holding.0 next.there (before.tags next.tag next.there holding.0 next.is holding.1) next.stands

  tag_is : slice_get l.tags next.tag ≡ Some (Flying a.command a.share (Queued v.head))
  tag_is = next.is ∙ ap (λ (t : Tag). Some t) a.flies

  pub below : next.tag < tag_count
  below = let few = slice_get-below l.tags next.tag next.there next.is in let many = before.positions.tags in omega (arith, few, many)

  pub in_lanes : lane < length w.lanes
  in_lanes = slice_get-below w.lanes lane l found

  abbrev pub physical : List ℕ
  physical = share_entry a.share a.guest.namespace a.guest a.command.entry geometry.mediator lane next.tag

  -- what was read is its entry
  abbrev pub to : ℕ
  to = submission_slot geometry.mediator lane d.head

  abbrev pub entry : List ℕ
  entry = bytes_from (byte_of d.seen) (submission_slot geometry.mediator lane d.head) sqe_size

  entry_is : entry ≡ physical
  entry_is =
      bytes-are d.seen w.host to sqe_size (λ x byte is. (mirror.seen x byte is).same) read
      ∙ ap (λ (n : ℕ). bytes_from w.host (submission_slot geometry.mediator lane n) sqe_size) mirror.head ∙ a.entry_is

  cid_is : cid_of entry ≡ next.tag
  cid_is = ap cid_of entry_is ∙ entry-cid a.share a.guest a.command.entry geometry.mediator lane next.tag below

  -- ---- the world behind it

  abbrev pub m : Lane
  m = tag_changed next.tag (Flying a.command a.share InDevice) l

  abbrev pub x : DeviceLane
  x = record v { head = next_slot ring_size v.head; held = set v.held next.tag (Some (held_of physical w.host)) }

  lane_is : IsLane geometry lane w.host m x
  lane_is =
      lane-taken host_bytes (length w.lanes) geometry (laid-here host_bytes lanes geometry laid f w good holds) lane in_lanes w.host l v before waits next.tag next.there
      holding.0 next.is holding.1 a

  phases : IsPhased geometry w.host lane m.head m.phase x.posted x.phase
  phases = holds.live.phased lane l v found under

  plain : unplaced_lane m ≡ unplaced_lane l
  plain = lane-plain l next.tag (Flying a.command a.share (Queued v.head)) (Flying a.command a.share InDevice) tag_is refl

  abbrev pub z : World
  z = moved geometry w holds.live laid.pages lane l v found under w.host m x (λ n apart low_at low high. refl)

  -- ---- the drive's lane behind it

  abbrev pub now : DriveLane
  now = record d {
    head = next_slot ring_size d.head;
    seen = (λ b. cond (nat_le (submission_slot geometry.mediator lane d.head) b && nat_lt b (submission_slot geometry.mediator lane d.head + sqe_size)) None (d.seen b));
    working = set d.working (cid_of (bytes_from (byte_of d.seen) (submission_slot geometry.mediator lane d.head) sqe_size))
        (Some (record {
          entry = bytes_from (byte_of d.seen) (submission_slot geometry.mediator lane d.head) sqe_size;
          buffer = (λ _. None);
          work = None;
          left = [];
          differed = false;
          owed = [];
        }));
  }

  -- another slot waits still
  seen-then : (b byte : ℕ) → IsNoted geometry w lane v b byte → (to ≤ b → b < to + sqe_size → ⊥) → IsNoted geometry z lane x b byte
  seen-then b byte is off =
      record {
        slot = is.slot;
        between = between-less v.head v.tail is.slot before.positions.head before.positions.tail is.between (λ same.
            (let here : is.slot ≡ d.head = same ∙ sym mirror.head in
            let low = is.low in
            let high = is.high in
            off (omega (arith, here, low)) (omega (arith, here, high))));
        low = is.low;
        high = is.high;
        same = is.same;
      }

  seen-now : (b byte : ℕ) (test : Bool) → (nat_le to b && nat_lt b (to + sqe_size)) ≡ test → cond test None (d.seen b) ≡ Some byte → IsNoted geometry z lane x b byte
  seen-now b byte true inside none = cc
  seen-now b byte false outside there_is =
      seen-then b byte (mirror.seen b byte there_is) (λ low high. clash (ap (λ (c : Bool). c && nat_lt b (to + sqe_size)) (le-leb to b low) ∙ lt-ltb b (to + sqe_size) high))
    where
      clash : (nat_le (submission_slot geometry.mediator lane d.head) b && nat_lt b (submission_slot geometry.mediator lane d.head + sqe_size)) ≡ true → ⊥
      clash inside = both (sym outside ∙ inside)
        where
          both : false ≡ true → ⊥
          both e = cc

  tag-then : (id : ℕ) → (id == next.tag) ≡ false → (t : Tag) → tag_of w lane id ≡ Some t → tag_of z lane id ≡ Some t
  tag-then id apart t is =
      tag-here geometry w holds.live laid.pages lane l v found under w.host m x (λ n off low_at low high. refl) id
      ∙ slice_get-set-other l.tags next.tag id (Flying a.command a.share InDevice) apart ∙ sym (ap (λ (o : Option Lane). tag_in o id) found) ∙ is

  abbrev pub taken_now : Working
  taken_now =
      record {
        entry = bytes_from (byte_of d.seen) (submission_slot geometry.mediator lane d.head) sqe_size;
        buffer = (λ _. None);
        work = None;
        left = [];
        differed = false;
        owed = [];
      }

  working-put : IsOfTag geometry z lane next.tag taken_now
  working-put =
      record {
        command = a.command;
        share = a.share;
        given = a.guest;
        flies = tag-here geometry w holds.live laid.pages lane l v found under w.host m x (λ n off low_at low high. refl) next.tag
            ∙ slice_get-set l.tags next.tag (Flying a.command a.share (Queued v.head)) (Flying a.command a.share InDevice) tag_is;
        guest = a.is.given;
        planned = a.planned;
        some = a.some;
        entry = entry_is;
        read = λ i byte inside none. (let bad : None ≡ Some byte = none in cc);
        work = λ work none. (let bad : None ≡ Some work = none in cc);
        sound = λ work none. (let bad : None ≡ Some work = none in cc);
      }

  working-was : (id : ℕ) (k : Working) → (id == cid_of entry) ≡ false → slice_get d.working id ≡ Some (Some k) → IsOfTag geometry z lane id k
  working-was id k apart was =
      let is = mirror.working id k was in
      let other : (id == next.tag) ≡ false = ap (λ (n : ℕ). id == n) (sym cid_is) ∙ apart in
      of-tag-kept geometry w z lane (λ b low high. refl) (λ b low high. refl) laid.pages id k
      (few-here geometry w holds.live laid.pages lane l v found under w.host m x (λ n off low_at low high. refl) id _ is.flies) (tag-then id other) is

  working-now : (id : ℕ) (k : Working) → IsThere d.working (cid_of entry) (Some taken_now) id (Some k) → IsOfTag geometry z lane id k
  working-now id k (Put same put) =
      subst (λ (n : ℕ). IsOfTag geometry z lane n k) (sym (same ∙ cid_is)) (subst (IsOfTag geometry z lane next.tag) (some-same taken_now k put) working-put)
  working-now id k (Was apart was) = working-was id k apart was

  mine : IsLaneMirrored geometry z lane now x
  mine =
      record {
        head = ap (λ (n : ℕ). next_slot ring_size n) mirror.head;
        posted = mirror.posted;
        phase = mirror.phase;
        seen = λ b byte is. seen-now b byte (nat_le to b && nat_lt b (to + sqe_size)) refl is;
        working = λ id k is. working-now id k (set-there d.working (cid_of entry) (Some taken_now) id (Some k) is);
      }

  pub taken-holds : Holds lanes geometry (record f { outside = record f.outside { lanes = set f.outside.lanes lane now } }) z
  taken-holds =
      record {
        live = moved-live geometry w holds.live laid.pages lane l v found under w.host m x (λ n apart low_at low high. refl) plain refl lane_is phases;
        many = length-set w.lanes lane m ∙ holds.many;
        sides = side-then (side_of z) (side_of w) f.side
            (moved-side geometry w holds.live laid.pages lane l v found under w.host m x (λ n apart low_at low high. refl) plain refl) holds.sides;
        drives = length-set f.outside.lanes lane now ∙ holds.drives ∙ sym (length-set w.device lane x);
        mirrored = moved-mirrored geometry w holds.live laid.pages lane l v found under w.host m x (λ n apart low_at low high. refl) f.outside.lanes now holds.mirrored mine;
        memory = holds.memory;
        placed = holds.placed;
        read = read-set geometry f.side f.outside.lanes lane d now w.host there refl f.call holds.read;
      }

module _ (host_bytes lanes : ℕ) (geometry : Geometry) (laid : IsLaidOut host_bytes lanes geometry) (f : Fine) (w : World) (good : IsGood lanes geometry f)
    (holds : Holds lanes geometry f w) (zeroes : Bool) (p : Outside) where
  pub takes : (lane : ℕ) → driven geometry zeroes f.side.tails (Takes lane) f.outside ≡ Some p → (z : World) × Holds lanes geometry (record f { outside = p }) z
  unfolding driven
  takes lane is =
      let Next : Outside → Type 0 = λ q. (z : World) × Holds lanes geometry (record f { outside = q }) z in
      tail-has geometry f.side.tails f.outside lane _ p (Next p) is (λ d tail there at ruled.
      when-has _ _ p Next ruled (λ may.
      (let both = and_parts (not (is_empty d.head tail)) (has d.seen (submission_slot geometry.mediator lane d.head) sqe_size) may in
      (_, taken-holds host_bytes lanes geometry laid f w good holds lane d tail there at both.0 both.1))))
