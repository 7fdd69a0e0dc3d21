-- An access of the drive reads and changes what is one guest's, or the rings'.
use Rattle.std.proofs.Common.{◌≡◌, ℕ, ◌+◌, ◌<◌, Bool, true, false, not, ◌&&◌, ◌==◌, nat_lt, [], ◌∷◌, All, slice_get, Option, Some, None, is_none, is_some}
use Rattle.std.proofs.Common.{arith, refl, sym, ap, ◌∙◌, subst}
use Rattle.std.proofs.lemmas.Bool.{and_parts, ltb-true}
use Rattle.std.proofs.lemmas.List.Elements.{All-cons, All-nil}
use Rattle.std.proofs.lemmas.Option.{option_and_then_some}
use Rattle.std.specs.List.{list_any}
use Rattle.std.specs.Prelude.{option_and_then}
use Rattle.nv_entry.specs.Completion.{phase_of}
use Rattle.nv_entry.specs.Status.{bit}
use Rattle.nv_fine.proofs.Reaches.{chosen-lba, due-is, stored-one, tail-has, unit-elsewhere, when-has, work-has, working-has}
use Rattle.nv_fine.specs.Drive.{Answers, Completes, Does, DriveAccess, DriveLane, Keeps, Knows, Outside, Sees, SeesEntry, Takes, Working, Writes, driven}
use Rattle.nv_fine.specs.Drive.{byte_of, chosen, is_at, known, may_see, reading, unit_due, with_verdict}
use Rattle.nv_fine.specs.Fine.{Fine}
use Rattle.nv_fine.specs.Owned.{IsOwned, IsWaiting}
use Rattle.nv_fine.specs.Reach.{IsAtWork, IsIn, read_by}
use Rattle.nv_fine.specs.Whose.{ByRanges, InExtents, IsItsGuests, IsToChange, IsToRead, IsToWrite, OfOwn, OfWaiting, ToNext, ToOwn}
use Rattle.nv_laws_sound.proofs.Lists.{some-same}
use Rattle.nv_laws_sound.specs.Consistent.{IsBetween}
use Rattle.nv_machine.specs.Doing.{tag_at}
use Rattle.nv_mem.specs.Places.{places_of}
use Rattle.nv_model.specs.Judge.{Go, Refuse, Verdict, Work, WorkUnit, form_of, has_blocks, is_read}
use Rattle.nv_model.specs.Queue.{ahead, cqe_size, sqe_size}
use Rattle.nv_world_model.specs.Area.{completion_slot, ring_size, submission_slot}
use Rattle.nv_world_model.specs.Contained.{guest_of_one}
use Rattle.nv_world_model.specs.Geometry.{Geometry}
use Rattle.nv_world_model.specs.ShareArea.{unit_lba}
use Rattle.nv_world_model.specs.View.{in_extents}

module _ (geometry : Geometry) (zeroes : Bool) (f : Fine) (p : Outside)
    (owned : (lane id : ℕ) (k : Working) → IsIn f.outside lane id k → IsOwned geometry f lane id k)
    (waits : (lane slot tail : ℕ) (d : DriveLane) → slice_get f.outside.lanes lane ≡ Some d → slice_get f.side.tails lane ≡ Some tail → IsBetween d.head tail slot
    → IsWaiting geometry f lane slot) where
  none-read : (a : DriveAccess) → read_by geometry a ≡ [] → All (IsToRead geometry f a) (read_by geometry a)
  none-read a none = subst (All (IsToRead geometry f a)) (sym none) (All-nil (IsToRead geometry f a))

  one-read : (a : DriveAccess) (at : ℕ) → IsToRead geometry f a at → All (IsToRead geometry f a) (at ∷ [])
  one-read a at may = All-cons (IsToRead geometry f a) at [] may (All-nil (IsToRead geometry f a))

  fourteen : 14 < 16
  fourteen = omega arith

  -- memory and blocks stay
  quiet : (a : DriveAccess) (q : Outside) → All (IsToRead geometry f a) (read_by geometry a) → q.memory ≡ f.outside.memory → q.disk ≡ f.outside.disk
      → IsItsGuests geometry f a q
  quiet a q reads memory disk =
      record {
        reads = reads;
        bytes = λ at off. ap (λ (m : ℕ → ℕ). m at) memory;
        blocks = λ lba offset off. ap (λ (d : ℕ → ℕ → ℕ). d lba offset) disk;
      }

  -- the tag by whose identifier a command is in the drive is its guest's
  whose : (lane id : ℕ) (k : Working) (o : IsOwned geometry f lane id k) → guest_of_one (tag_at f.side lane id) ≡ Some o.of.command.guest
  whose lane id k o = ap guest_of_one o.of.flies

  -- a block that a unit names
  unit-may : (lane id number n : ℕ) (leaves : Bool) (work : Work) (unit : WorkUnit) (lba : ℕ) → IsAtWork f.outside lane id work → slice_get work.units n ≡ Some unit
      → unit_lba unit ≡ lba → IsToChange geometry f (Does lane id number leaves) lba
  unit-may lane id number n leaves work unit lba at_work is names = by (has_blocks work.opcode) refl
    where
      by : (b : Bool) → has_blocks work.opcode ≡ b → IsToChange geometry f (Does lane id number leaves) lba
      by true has =
          let o = owned lane id at_work.w at_work.there in
          InExtents o.of.command.guest o.of.given (whose lane id at_work.w o) o.of.guest
          (ap (in_extents o.of.given.namespace) (sym names) ∙ o.blocks work n unit at_work.known has is)
      by false has = ByRanges lane id n work unit refl at_work has is names

  pub its-guests : (a : DriveAccess) → driven geometry zeroes f.side.tails a f.outside ≡ Some p → IsItsGuests geometry f a p
  unfolding driven
  its-guests (SeesEntry lane slot i) is =
      tail-has geometry f.side.tails f.outside lane _ p (IsItsGuests geometry f (SeesEntry lane slot i) p) is (λ d tail there at ruled.
      when-has (nat_lt i sqe_size && nat_lt slot ring_size && nat_lt (ahead ring_size d.head slot) (ahead ring_size d.head tail)) _ p
      (λ q. IsItsGuests geometry f (SeesEntry lane slot i) q) ruled (λ may.
      let both = and_parts (nat_lt i sqe_size && nat_lt slot ring_size) (nat_lt (ahead ring_size d.head slot) (ahead ring_size d.head tail)) may in
      let front = and_parts (nat_lt i sqe_size) (nat_lt slot ring_size) both.0 in
      quiet (SeesEntry lane slot i) _
      (one-read (SeesEntry lane slot i) (submission_slot geometry.mediator lane slot + i) (OfWaiting lane slot i (waits lane slot tail d there at
      (record { slot = ltb-true slot ring_size front.1; before = ltb-true (ahead ring_size d.head slot) (ahead ring_size d.head tail) both.1 }))
      (ltb-true i sqe_size front.0) refl)) refl refl))
  its-guests (Takes lane) is =
      tail-has geometry f.side.tails f.outside lane _ p (IsItsGuests geometry f (Takes lane) p) is (λ d tail there at ruled.
      when-has _ _ p (λ q. IsItsGuests geometry f (Takes lane) q) ruled (λ may. quiet (Takes lane) _ (none-read (Takes lane) refl) refl refl))
  its-guests (Sees lane id at) is =
      working-has geometry f.side.tails f.outside lane id _ p (IsItsGuests geometry f (Sees lane id at) p) is (λ w d there found ruled.
      when-has (may_see (reading geometry w.entry) f.outside.memory w.work at) _ p (λ q. IsItsGuests geometry f (Sees lane id at) q) ruled (λ may.
      let o = owned lane id w (record { d = d; on = there; is = found }) in
      quiet (Sees lane id at) _ (one-read (Sees lane id at) at (OfOwn o.of.command.guest (whose lane id w o) (o.reads at may))) refl refl))
  its-guests (Knows lane id) is =
      working-has geometry f.side.tails f.outside lane id _ p (IsItsGuests geometry f (Knows lane id) p) is (λ w d there found ruled.
      verdict-has (known w.buffer (reading geometry w.entry)) _ ruled (λ work done. when-has (is_none w.work) _ p Its done (λ may. quiet (Knows lane id) _ (none-read (Knows lane id) refl) refl refl)))
    where
      Its : Outside → Type 0
      Its q = IsItsGuests geometry f (Knows lane id) q

      verdict-has : (v : Option Verdict) (rule : Work → Option Outside) → with_verdict v rule ≡ Some p → ((work : Work) → rule work ≡ Some p → Its p) → Its p
      verdict-has None rule is has = cc
      verdict-has (Some (Refuse st)) rule is has = cc
      verdict-has (Some (Go work)) rule is has = has work is
  its-guests (Does lane id number leaves) is =
      work-has geometry f.side.tails f.outside lane id _ p (IsItsGuests geometry f (Does lane id number leaves) p) is (λ work w d there at_work ruled.
      option_and_then_some _ (option_and_then (chosen zeroes leaves (form_of work.opcode)) (unit_due work w.left number)) p ruled (λ unit due done.
      option_and_then_some (chosen zeroes leaves (form_of work.opcode)) (unit_due work w.left number) unit due (λ whole is_due is_chosen.
      when-has _ _ p (λ q. IsItsGuests geometry f (Does lane id number leaves) q) done (λ may.
      record {
        reads = none-read (Does lane id number leaves) refl;
        bytes = λ at off. refl;
        blocks = λ lba offset off.
            unit-elsewhere geometry f.side.tails f.outside unit work lba offset (byte_of w.buffer) (λ same. off (unit-may lane id number number leaves work whole lba at_work
            (due-is geometry f.side.tails f.outside work w.left number whole is_due)
            (sym (chosen-lba geometry f.side.tails f.outside zeroes leaves (form_of work.opcode) whole unit is_chosen) ∙ same)));
      }))))
  its-guests (Writes lane id to) is =
      work-has geometry f.side.tails f.outside lane id _ p (IsItsGuests geometry f (Writes lane id to) p) is (λ work w d there at_work ruled.
      option_and_then_some _ (w.buffer to) p ruled (λ byte has_byte done.
      when-has (is_read work.opcode && list_any (is_at to) (places_of work.pieces)) _ p (λ q. IsItsGuests geometry f (Writes lane id to) q) done (λ may.
      let both = and_parts (is_read work.opcode) (list_any (is_at to) (places_of work.pieces)) may in
      let o = owned lane id at_work.w at_work.there in
      record {
        reads = none-read (Writes lane id to) refl;
        bytes = λ at off. stored-one f.outside.memory to byte at (λ same. off (subst (IsToWrite geometry f (Writes lane id to)) same
            (ToOwn o.of.command.guest (whose lane id at_work.w o) (o.places work to at_work.known both.1))));
        blocks = λ lba offset off. refl;
      })))
  its-guests (Answers lane i byte) is =
      option_and_then_some _ (slice_get f.outside.lanes lane) p is (λ d there ruled.
      when-has (list_any is_some d.working && nat_lt i cqe_size && not (phase_of _ == bit d.phase)) _ p
      (λ q. IsItsGuests geometry f (Answers lane i byte) q) ruled (λ may.
      let front = and_parts (list_any is_some d.working && nat_lt i cqe_size) _ may in
      let both = and_parts (list_any is_some d.working) (nat_lt i cqe_size) front.0 in
      record {
        reads = none-read (Answers lane i byte) refl;
        bytes = λ at off. stored-one f.outside.memory (completion_slot geometry.mediator lane d.posted + i) byte at
            (λ same. off (ToNext lane i d there (ltb-true i cqe_size both.1) same));
        blocks = λ lba offset off. refl;
      }))
  its-guests (Completes lane id fails byte) is =
      working-has geometry f.side.tails f.outside lane id _ p (IsItsGuests geometry f (Completes lane id fails byte) p) is (λ w d there found ruled.
      when-has _ _ p (λ q. IsItsGuests geometry f (Completes lane id fails byte) q) ruled (λ may.
      record {
        reads = none-read (Completes lane id fails byte) refl;
        bytes = λ at off. stored-one f.outside.memory (completion_slot geometry.mediator lane d.posted + 14) byte at
            (λ same. off (ToNext lane 14 d there fourteen same));
        blocks = λ lba offset off. refl;
      }))
  its-guests (Keeps block) is = subst (λ q. IsItsGuests geometry f (Keeps block) q) (some-same _ p is) (quiet (Keeps block) _ (none-read (Keeps block) refl) refl refl)
