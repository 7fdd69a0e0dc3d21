-- The rings of a consistent world: how much waits in them, and whose each slot is.
use Rattle.std.proofs.Common.{◌≡◌, ℕ, ◌<◌, ◌≤◌, true, false, slice_get, Option, Some, arith, sym, ap, ◌∙◌}
use Rattle.std.proofs.lemmas.Bool.{ne_eqb}
use Rattle.std.proofs.lemmas.List.Sums.{count_by-le-length}
use Rattle.nv_entry.specs.Submission.{cid_of}
use Rattle.nv_model.specs.Queue.{ahead, is_full, next_slot}
use Rattle.nv_world_model.specs.Area.{ring_size, tag_count}
use Rattle.nv_world_model.specs.Contained.{is_answered_at, is_queued_at, tag_stands}
use Rattle.nv_world_model.specs.Device.{DeviceLane, Held}
use Rattle.nv_world_model.specs.Geometry.{Geometry}
use Rattle.nv_world_model.specs.World.{Lane, Tag, World}
use Rattle.nv_laws_sound.specs.Consistent.{IsConsistentOfTags, IsLane, waits_for_device, waits_for_mediator}
use Rattle.nv_laws_sound.proofs.EntryFields.{entry-cid}
use Rattle.nv_laws_sound.proofs.Lists.{count-fewer, slice_get-below, slice_get-there}
use Rattle.nv_laws_sound.proofs.ReapEvents.{answered-at}
use Rattle.nv_laws_sound.proofs.TakenEvents.{queued-at}

-- a ring with room isn't full
not-full : (head tail : ℕ) → head < ring_size → tail < ring_size → ahead ring_size head tail < 64 → is_full ring_size head tail ≡ false
not-full head tail low high room = ne_eqb head (next_slot ring_size tail) (λ same. absurd (omega (arith, same, room, low, high)))

module _ (geometry : Geometry) (lane : ℕ) (host : ℕ → ℕ) (l : Lane) (d : DeviceLane) (is : IsLane geometry lane host l d) where
  pub entries-few : ahead ring_size d.head d.tail ≤ tag_count
  entries-few =
      let most = count_by-le-length (tag_stands waits_for_device) l.tags in
      let many = is.queued_count in
      let tags = is.positions.tags in
      omega (arith, most, many, tags)

  pub completions-few : ahead ring_size l.head d.posted ≤ tag_count
  completions-few =
      let most = count_by-le-length (tag_stands waits_for_mediator) l.tags in
      let many = is.answered_count in
      let tags = is.positions.tags in
      omega (arith, most, many, tags)

  pub entry-room : (tag : ℕ) (t : Tag) → slice_get l.tags tag ≡ Some t → tag_stands waits_for_device t ≡ false → is_full ring_size d.head d.tail ≡ false
  entry-room tag t at none =
      let fewer = count-fewer (tag_stands waits_for_device) l.tags tag t at none in
      let many = is.queued_count in
      let tags = is.positions.tags in
      not-full d.head d.tail is.positions.head is.positions.tail (omega (arith, fewer, many, tags))

  pub completion-room : (tag : ℕ) (t : Tag) → slice_get l.tags tag ≡ Some t → tag_stands waits_for_mediator t ≡ false → is_full ring_size l.head d.posted ≡ false
  completion-room tag t at none =
      let fewer = count-fewer (tag_stands waits_for_mediator) l.tags tag t at none in
      let many = is.answered_count in
      let tags = is.positions.tags in
      not-full l.head d.posted is.positions.read is.positions.posted (omega (arith, fewer, many, tags))

  -- what the device holds under a tag's number
  pub held-under : (tag : ℕ) (t : Tag) → slice_get l.tags tag ≡ Some t → (held : Option Held) × (slice_get d.held tag ≡ Some held)
  held-under tag t at =
      let among = slice_get-below l.tags tag t at in
      let tags = is.positions.tags in
      let sized = is.positions.held in
      slice_get-there d.held tag (omega (arith, among, tags, sized))

  pub entry-one : (at one other : ℕ) (t u : Tag) → slice_get l.tags one ≡ Some t → slice_get l.tags other ≡ Some u
      → tag_stands (is_queued_at at) t ≡ true → tag_stands (is_queued_at at) u ≡ true → one ≡ other
  entry-one at one other t u here there stands also =
      let tags = is.positions.tags in
      let first = slice_get-below l.tags one t here in
      let second = slice_get-below l.tags other u there in
      let held = held-under one t here in
      let holds = held-under other u there in
      let a = queued-at geometry lane one at host l.head d held.0 t (is.tags one t held.0 here held.1) stands in
      let b = queued-at geometry lane other at host l.head d holds.0 u (is.tags other u holds.0 there holds.1) also in
      sym (entry-cid a.share a.guest a.command.entry geometry.mediator lane one (omega (arith, first, tags)))
      ∙ ap cid_of (sym a.entry_is ∙ b.entry_is)
      ∙ entry-cid b.share b.guest b.command.entry geometry.mediator lane other (omega (arith, second, tags))

  pub completion-one : (at one other : ℕ) (t u : Tag) → slice_get l.tags one ≡ Some t → slice_get l.tags other ≡ Some u
      → tag_stands (is_answered_at at) t ≡ true → tag_stands (is_answered_at at) u ≡ true → one ≡ other
  completion-one at one other t u here there stands also =
      let held = held-under one t here in
      let holds = held-under other u there in
      let a = answered-at geometry lane one at host l.head d held.0 t (is.tags one t held.0 here held.1) stands in
      let b = answered-at geometry lane other at host l.head d holds.0 u (is.tags other u holds.0 there holds.1) also in
      sym a.identifier ∙ b.identifier

-- the device's side of a lane that is there
pub device-there : (geometry : Geometry) (w : World) (lane : ℕ) (l : Lane) → IsConsistentOfTags geometry w → slice_get w.lanes lane ≡ Some l
    → (d : DeviceLane) × (slice_get w.device lane ≡ Some d)
device-there geometry w lane l is at =
    let below = slice_get-below w.lanes lane l at in
    let sides = is.sides in
    slice_get-there w.device lane (omega (arith, below, sides))
