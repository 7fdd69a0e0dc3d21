-- Worlds that look alike to a guest behind a change of one of its tags, of its lane, and of the device's side of it.
use Rattle.std.proofs.Common.{◌≡◌, ℕ, ◌+◌, ◌<◌, ◌≤◌, inl, inr, true, List, [], ◌∷◌, ◌++◌, length, map, set, slice_get}
use Rattle.std.proofs.Common.{Some, arith, refl, sym, ap, ◌∙◌}
use Rattle.std.specs.List.{list_any}
use Rattle.std.proofs.lemmas.Bool.{le-leb, lt-ltb}
use Rattle.nv_entry.specs.Completion.{status_of}
use Rattle.nv_model.specs.Memory.{bytes_from, stored}
use Rattle.nv_model.specs.Queue.{cqe_size, sqe_size}
use Rattle.nv_model.proofs.MemoryLemmas.{stored-inside}
use Rattle.nv_ns.specs.Extents.{blocks_in, place_in}
use Rattle.nv_world_model.specs.Area.{bounce_page, completion_slot, list_page, submission_slot}
use Rattle.nv_world_model.specs.Device.{DeviceLane}
use Rattle.nv_world_model.specs.Geometry.{Geometry, Guest}
use Rattle.nv_world_model.specs.Share.{Share}
use Rattle.nv_world_model.specs.Seat.{completion_at, held_by, held_in}
use Rattle.nv_world_model.specs.View.{IsAlike, SameMarks, Span, is_tag_of, lane_numbers, list_shown, own_held, read_shown, ring_numbers, slot_shown}
use Rattle.nv_world_model.specs.View.{source_shown}
use Rattle.nv_world_model.specs.World.{Answered, Command, Flying, Lane, Queued, Standing, Tag, World, tag_of}
use Rattle.nv_world_model.proofs.Seats.{slice_get-set}
use Rattle.nv_laws_sound.proofs.Shows.{bytes_from-between}
use Rattle.nv_laws.specs.Leaving.{IsBytes}
use Rattle.nv_laws.proofs.others.AlikeWalks.{IsInBoth}
use Rattle.nv_laws.proofs.others.Behind.{alike-retagged, guests-shared, lanes-shared, put-same, retagged-by, rings-shared, shared-of}
use Rattle.nv_laws.proofs.others.Shown.{any-append, in_span}
use Rattle.nv_laws.proofs.others.ShownTags.{any-behind, any-front, shows-it, tag_spans}

-- ---- spans

-- what lies in a span
pub one-in : (addr from len : ℕ) → from ≤ addr → addr < from + len → list_any (in_span addr) ((from, len) ∷ []) ≡ true
one-in addr from len low high = rw (le-leb from addr low, lt-ltb addr (from + len) high) refl

module _ (guest : Guest) (geometry : Geometry) (w : World) (lane tag : ℕ) (command : Command) (share : Share) (standing : Standing) (addr : ℕ) where
  abbrev slot : List Span
  slot = slot_shown standing geometry.mediator lane

  abbrev listed : List Span
  listed = list_shown share.plan guest (list_page geometry.mediator lane tag) (bounce_page geometry.mediator lane tag)

  abbrev source : List Span
  source = source_shown share.plan (bounce_page geometry.mediator lane tag)

  abbrev reading : List Span
  reading =
      read_shown standing share.plan (held_in (slice_get w.device lane) tag) (λ at. status_of (completion_at geometry w lane at)) (bounce_page geometry.mediator lane tag)

  abbrev all : List Span
  all = tag_spans guest geometry w lane tag (Flying command share standing)

  -- what a tag that was handed on shows: its slot, its list, its source, or what was read
  pub flying-shows : (P : Type 0) → list_any (in_span addr) all ≡ true → (list_any (in_span addr) slot ≡ true → P)
      → (list_any (in_span addr) listed ≡ true → P) → (list_any (in_span addr) source ≡ true → P) → (list_any (in_span addr) reading ≡ true → P) → P
  flying-shows P lies by_slot by_list by_source by_read =
      elim (any-append (in_span addr) (slot ++ listed ++ source) reading lies) [
        | inr read ↦ by_read read
        | inl front ↦ elim (any-append (in_span addr) (slot ++ listed) source front) [
          | inr of_source ↦ by_source of_source
          | inl start ↦ elim (any-append (in_span addr) slot listed start) [
            | inl of_slot ↦ by_slot of_slot
            | inr of_list ↦ by_list of_list
          ]
        ]
      ]

  pub slot-is : list_any (in_span addr) slot ≡ true → list_any (in_span addr) all ≡ true
  slot-is e =
      any-front (in_span addr) (slot ++ listed ++ source) reading (any-front (in_span addr) (slot ++ listed) source (any-front (in_span addr) slot listed e))

  pub list-is : list_any (in_span addr) listed ≡ true → list_any (in_span addr) all ≡ true
  list-is e =
      any-front (in_span addr) (slot ++ listed ++ source) reading (any-front (in_span addr) (slot ++ listed) source (any-behind (in_span addr) slot listed e))

  pub source-is : list_any (in_span addr) source ≡ true → list_any (in_span addr) all ≡ true
  source-is e = any-front (in_span addr) (slot ++ listed ++ source) reading (any-behind (in_span addr) (slot ++ listed) source e)

  pub read-is : list_any (in_span addr) reading ≡ true → list_any (in_span addr) all ≡ true
  read-is e = any-behind (in_span addr) (slot ++ listed ++ source) reading e

-- ---- bytes that are stored in both

-- the same bytes stored in two memories are the same where they are stored
pub stored-both : (memory other : ℕ → ℕ) (from : ℕ) (bytes : List ℕ) (addr : ℕ) → from ≤ addr → addr < from + length bytes
    → stored memory from bytes addr ≡ stored other from bytes addr
stored-both memory other from bytes addr low high = stored-inside memory from bytes addr low high ∙ sym (stored-inside other from bytes addr low high)

module _ (geometry : Geometry) (number : ℕ) (guest : Guest) (w z : World) (alike : IsAlike number guest geometry w z) where
  -- what a tag of its own shows is the same in both
  pub own-same : (lane tag : ℕ) (t : Tag) (addr : ℕ) → tag_of w lane tag ≡ Some t → is_tag_of number (Some t) ≡ true
      → list_any (in_span addr) (tag_spans guest geometry w lane tag t) ≡ true → w.host addr ≡ z.host addr
  own-same lane tag t addr there mine lies =
      alike.view.area addr (shows-it geometry w number guest addr (record { lane = lane; tag = tag; t = t; there = there; own = mine; lies = lies }))

  -- a completion that waits for it
  pub completion-same : (lane tag at : ℕ) (command : Command) (share : Share) → tag_of w lane tag ≡ Some (Flying command share (Answered at))
      → is_tag_of number (Some (Flying command share (Answered at))) ≡ true → completion_at geometry w lane at ≡ completion_at geometry z lane at
  completion-same lane tag at command share there mine =
      bytes_from-between w.host z.host (completion_slot geometry.mediator lane at) (completion_slot geometry.mediator lane at + cqe_size) (completion_slot geometry.mediator lane at) cqe_size
      (λ addr low high.
      own-same lane tag (Flying command share (Answered at)) addr there mine
      (slot-is guest geometry w lane tag command share (Answered at) addr (one-in addr (completion_slot geometry.mediator lane at) cqe_size low high))) (omega arith) (omega arith)

  -- an entry of its that waits
  pub entry-same : (lane tag at : ℕ) (command : Command) (share : Share) → tag_of w lane tag ≡ Some (Flying command share (Queued at))
      → is_tag_of number (Some (Flying command share (Queued at))) ≡ true
      → bytes_from w.host (submission_slot geometry.mediator lane at) sqe_size ≡ bytes_from z.host (submission_slot geometry.mediator lane at) sqe_size
  entry-same lane tag at command share there mine =
      bytes_from-between w.host z.host (submission_slot geometry.mediator lane at) (submission_slot geometry.mediator lane at + sqe_size) (submission_slot geometry.mediator lane at) sqe_size
      (λ addr low high.
      own-same lane tag (Flying command share (Queued at)) addr there mine
      (slot-is guest geometry w lane tag command share (Queued at) addr (one-in addr (submission_slot geometry.mediator lane at) sqe_size low high))) (omega arith) (omega arith)

  -- ---- a lane changes, and the device's side of it

  pub lane-alike : (lane tag : ℕ) (t s new : Tag) (x : IsInBoth w z lane tag t s) (now again : Lane) (behind after : DeviceLane) (v u : World)
      → now.tags ≡ set x.l.tags tag new → again.tags ≡ set x.m.tags tag new → lane_numbers now ≡ lane_numbers again
      → v.lanes ≡ set w.lanes lane now → u.lanes ≡ set z.lanes lane again → v.device ≡ set w.device lane behind → u.device ≡ set z.device lane after
      → ring_numbers behind ≡ ring_numbers after
      → ((b : ℕ) → (b ≡ tag → ⊥) → slice_get behind.held b ≡ slice_get x.d.held b) → ((b : ℕ) → (b ≡ tag → ⊥) → slice_get after.held b ≡ slice_get x.e.held b)
      → ((addr : ℕ) → w.host addr ≡ z.host addr → v.host addr ≡ u.host addr)
      → ((a b : ℕ) (t : Tag) (addr : ℕ) → ((a ≡ lane) → (b ≡ tag) → ⊥) → tag_of w a b ≡ Some t → IsBytes geometry.mediator a b t addr → w.host addr ≡ v.host addr)
      → ((lba offset : ℕ) → lba < blocks_in guest.namespace → v.disk (place_in guest.namespace lba) offset ≡ u.disk (place_in guest.namespace lba) offset)
      → SameMarks guest v u → slice_get v.controllers number ≡ slice_get u.controllers number
      → length v.controllers ≡ length w.controllers → length u.controllers ≡ length z.controllers
      → ((addr : ℕ) → is_tag_of number (Some new) ≡ true → list_any (in_span addr) (tag_spans guest geometry v lane tag new) ≡ true → v.host addr ≡ u.host addr)
      → own_held number (Some new) (held_by (slice_get behind.held tag)) ≡ own_held number (Some new) (held_by (slice_get after.held tag))
      → IsAlike number guest geometry v u
  lane-alike lane tag t s new x now again behind after v u tags tags_too numbers lanes lanes_too device device_too rings held held_too bytes left blocks marks
      controller many many_too written here =
      alike-retagged geometry number guest w z alike lane tag new v u
      (retagged-by w v lane tag x.l now x.d behind t new x.lane_one x.device_one x.tag_one tags lanes device held)
      (retagged-by z u lane tag x.m again x.e after s new x.lane_two x.device_two x.tag_two tags_too lanes_too device_too held_too)
      (record {
        bytes = bytes;
        blocks = blocks;
        marks = marks;
        controller = controller;
        shared =
            shared-of v u
            (ap (map lane_numbers) lanes ∙ put-same lane_numbers w.lanes z.lanes lane now again (lanes-shared w z alike.shared) numbers ∙ sym (ap (map lane_numbers) lanes_too))
            (ap (map ring_numbers) device ∙ put-same ring_numbers w.device z.device lane behind after (rings-shared w z alike.shared) rings ∙ sym (ap (map ring_numbers) device_too))
            (many ∙ guests-shared w z alike.shared ∙ sym many_too);
      })
      left written
      (ap (own_held number (Some new)) (ap (λ ds. held_in (slice_get ds lane) tag) device ∙ ap (λ o. held_in o tag) (slice_get-set w.device lane x.d behind x.device_one))
      ∙ here
      ∙ sym (ap (own_held number (Some new)) (ap (λ ds. held_in (slice_get ds lane) tag) device_too ∙ ap (λ o. held_in o tag) (slice_get-set z.device lane x.e after x.device_two))))
