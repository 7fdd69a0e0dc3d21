-- An access of the drive reads and changes what commands in it name.
use Rattle.std.proofs.Common.{◌≡◌, ℕ, ◌+◌, ◌<◌, ◌≤◌, Bool, true, false, cond, not, ◌&&◌, ◌==◌, nat_lt, List, [], ◌∷◌, All, slice_get, Option, Some, None, is_none, is_some}
use Rattle.std.proofs.Common.{⊎_elim, inl, inr, arith, refl, sym, ap, ◌∙◌, subst}
use Rattle.std.proofs.lemmas.Bool.{and_parts, cases_lt, cases_eq, ltb-true, ne_eqb}
use Rattle.std.proofs.lemmas.List.Elements.{All-cons, All-nil}
use Rattle.std.proofs.lemmas.Option.{option_and_then_some}
use Rattle.std.specs.List.{list_any}
use Rattle.std.specs.Prelude.{option_and_then}
use Rattle.nv_entry.specs.Completion.{phase_of}
use Rattle.nv_entry.specs.Status.{bit}
use Rattle.nv_entry.specs.declared.opcode.IoOpcode.{IoOpcode}
use Rattle.nv_entry.specs.declared.opcode.IoOpcode.TheVariants as opcode
use Rattle.nv_fine.specs.Drive.{Answers, Completes, Does, DriveAccess, DriveLane, Keeps, Knows, Outside, Sees, SeesEntry, Takes, Working, Writes, driven}
use Rattle.nv_fine.specs.Drive.{byte_of, chosen, is_at, known, may_see, on_tail, on_work, on_working, reading, unit_due, when, with_verdict}
use Rattle.nv_fine.specs.Reach.{ByUnit, IsAtWork, IsForCommands, MayRead, MayWrite, OfCommand, OfEntry, ToCompletion, ToDestination, read_by}
use Rattle.nv_laws_sound.proofs.Lists.{some-same}
use Rattle.nv_mem.specs.Places.{places_of}
use Rattle.nv_model.proofs.MemoryLemmas.{stored-outside}
use Rattle.nv_model.specs.Judge.{Clear, ClearBlock, Form, Go, Keep, KeepAll, LeaveBlock, Manage, MoveBlock, Refuse, Transfer, Verdict, Work, WorkUnit, form_of, is_read}
use Rattle.nv_model.specs.Memory.{stored}
use Rattle.nv_model.specs.Private.{block_moved, block_written, unit_left, unit_moved}
use Rattle.nv_model.specs.Queue.{ahead, cqe_size, sqe_size}
use Rattle.nv_world_model.specs.Area.{completion_slot, ring_size, submission_slot}
use Rattle.nv_world_model.specs.Geometry.{Geometry}
use Rattle.nv_world_model.specs.ShareArea.{unit_lba}

-- ---- what an access may do is done

pub when-has : (may : Bool) (p q : Outside) (P : Outside → Type 0) → when may p ≡ Some q → (may ≡ true → P p) → P q
when-has true p q P is has = subst P (some-same p q is) (has refl)
when-has false p q P is has = cc

pub stored-one : (memory : ℕ → ℕ) (to byte at : ℕ) → (to ≡ at → ⊥) → stored memory to (byte ∷ []) at ≡ memory at
stored-one memory to byte at off =
    ⊎_elim (λ before. stored-outside memory to (byte ∷ []) at (inl before))
    (λ from. ⊎_elim (λ same. absurd (off same)) (λ other. stored-outside memory to (byte ∷ []) at (inr (above from other))) (cases_eq to at)) (cases_lt at to)
  where
    above : to ≤ at → (to ≡ at → ⊥) → to + 1 ≤ at
    above from other = ⊎_elim (λ below. absurd (other (omega (arith, from, below)))) (λ is. is) (cases_lt at (to + 1))

module _ (geometry : Geometry) (tails : List ℕ) (o : Outside) where
  -- memory and blocks stay
  Same : Outside → Type 0
  Same p = (p.memory ≡ o.memory) × (p.disk ≡ o.disk)

  quiet : (a : DriveAccess) (p : Outside) → All (MayRead geometry tails o) (read_by geometry a) → p.memory ≡ o.memory → p.disk ≡ o.disk
      → IsForCommands geometry tails a o p
  quiet a p reads memory disk =
      record {
        reads = reads;
        bytes = λ at off. ap (λ (m : ℕ → ℕ). m at) memory;
        blocks = λ lba offset off. ap (λ (d : ℕ → ℕ → ℕ). d lba offset) disk;
      }

  pub working-has : (lane id : ℕ) (rule : Working → DriveLane → Option Outside) (q : Outside) (P : Type 0) → on_working o lane id rule ≡ Some q
      → ((w : Working) (d : DriveLane) → slice_get o.lanes lane ≡ Some d → slice_get d.working id ≡ Some (Some w) → rule w d ≡ Some q → P) → P
  working-has lane id rule q P is has =
      option_and_then_some (λ (d : DriveLane). option_and_then (λ slot. option_and_then (λ w. rule w d) slot) (slice_get d.working id)) (slice_get o.lanes lane) q is
      (λ d there in_lane.
      option_and_then_some (λ (slot : Option Working). option_and_then (λ w. rule w d) slot) (slice_get d.working id) q in_lane (λ slot at in_slot.
      option_and_then_some (λ (w : Working). rule w d) slot q in_slot
      (λ w found ruled. has w d there (at ∙ ap (λ (x : Option Working). Some x) found) ruled)))

  pub work-has : (lane id : ℕ) (rule : Work → Working → DriveLane → Option Outside) (q : Outside) (P : Type 0) → on_work o lane id rule ≡ Some q
      → ((work : Work) (w : Working) (d : DriveLane) → slice_get o.lanes lane ≡ Some d → IsAtWork o lane id work → rule work w d ≡ Some q → P) → P
  work-has lane id rule q P is has =
      working-has lane id (λ w d. option_and_then (λ work. rule work w d) w.work) q P is (λ w d there found ruled.
      option_and_then_some (λ (work : Work). rule work w d) w.work q ruled (λ work known then.
      has work w d there (record { w = w; there = record { d = d; on = there; is = found }; known = known }) then))

  pub tail-has : (lane : ℕ) (rule : DriveLane → ℕ → Option Outside) (q : Outside) (P : Type 0) → on_tail o lane tails rule ≡ Some q
      → ((d : DriveLane) (tail : ℕ) → slice_get o.lanes lane ≡ Some d → slice_get tails lane ≡ Some tail → rule d tail ≡ Some q → P) → P
  tail-has lane rule q P is has =
      option_and_then_some (λ (d : DriveLane). option_and_then (rule d) (slice_get tails lane)) (slice_get o.lanes lane) q is (λ d there in_lane.
      option_and_then_some (rule d) (slice_get tails lane) q in_lane (λ tail at ruled. has d tail there at ruled))

  -- ---- blocks

  written-elsewhere : (disk : ℕ → ℕ → ℕ) (lba at offset : ℕ) (bytes : List ℕ) → (lba ≡ at → ⊥) → block_written disk lba bytes at offset ≡ disk at offset
  written-elsewhere disk lba at offset bytes off =
      ap (λ (b : Bool). cond b (stored (λ _. 0) 0 bytes offset) (disk at offset)) (ne_eqb at lba (λ same. off (sym same)))

  block-elsewhere : (op : IoOpcode) (work : Work) (index lba at offset : ℕ) (memory : ℕ → ℕ) → (lba ≡ at → ⊥)
      → (block_moved op work index lba memory o.disk o.kept).disk at offset ≡ o.disk at offset
  block-elsewhere opcode.Flush work index lba at offset memory off = refl
  block-elsewhere opcode.Write work index lba at offset memory off = written-elsewhere o.disk lba at offset _ off
  block-elsewhere opcode.Read work index lba at offset memory off = refl
  block-elsewhere opcode.Compare work index lba at offset memory off = refl
  block-elsewhere opcode.WriteZeroes work index lba at offset memory off = refl
  block-elsewhere opcode.DatasetManagement work index lba at offset memory off = refl

  pub unit-elsewhere : (unit : WorkUnit) (work : Work) (at offset : ℕ) (memory : ℕ → ℕ) → (unit_lba unit ≡ at → ⊥)
      → (unit_moved unit work memory o.disk o.kept).disk at offset ≡ o.disk at offset
  unit-elsewhere (MoveBlock index lba) work at offset memory off = block-elsewhere work.opcode work index lba at offset memory off
  unit-elsewhere (ClearBlock lba mark) work at offset memory off = written-elsewhere o.disk lba at offset _ off
  unit-elsewhere (LeaveBlock lba) work at offset memory off = refl
  unit-elsewhere (KeepAll blocks) work at offset memory off = refl

  -- a unit is one of the command's
  pub due-is : (work : Work) (left : List ℕ) (number : ℕ) (unit : WorkUnit) → unit_due work left number ≡ Some unit → slice_get work.units number ≡ Some unit
  due-is work left number unit is = by (is_read work.opcode) is
    where
      left-is : (test : Bool) → cond test (slice_get work.units number) None ≡ Some unit → slice_get work.units number ≡ Some unit
      left-is true due = due
      left-is false due = cc

      by : (reads : Bool) → cond reads (slice_get work.units number) (unit_left work left number) ≡ Some unit → slice_get work.units number ≡ Some unit
      by true due = due
      by false due = left-is (list_any (λ k. k == number) left) due

  -- and is done as it is, or its block is left alone
  pub chosen-lba : (zeroes leaves : Bool) (form : Form) (unit one : WorkUnit) → chosen zeroes leaves form unit ≡ Some one → unit_lba one ≡ unit_lba unit
  chosen-lba zeroes false form unit one is = ap unit_lba (sym (same-unit unit one is))
    where
      same-unit : (x y : WorkUnit) → Some x ≡ Some y → x ≡ y
      same-unit x y e = cc
  chosen-lba true true form unit one is = cc
  chosen-lba false true Manage (ClearBlock lba mark) one is = ap unit_lba (sym (left-one one is))
    where
      left-one : (y : WorkUnit) → Some (LeaveBlock lba) ≡ Some y → LeaveBlock lba ≡ y
      left-one y e = cc
  chosen-lba false true Manage (MoveBlock index lba) one is = cc
  chosen-lba false true Manage (LeaveBlock lba) one is = cc
  chosen-lba false true Manage (KeepAll blocks) one is = cc
  chosen-lba false true (Transfer dest) unit one is = cc
  chosen-lba false true Clear unit one is = cc
  chosen-lba false true Keep unit one is = cc

  -- ---- each access

  module _ (zeroes : Bool) (p : Outside) where
    none-read : (a : DriveAccess) → read_by geometry a ≡ [] → All (MayRead geometry tails o) (read_by geometry a)
    none-read a none = subst (All (MayRead geometry tails o)) (sym none) (All-nil (MayRead geometry tails o))

    fourteen : 14 < 16
    fourteen = omega arith

    one-read : (at : ℕ) → MayRead geometry tails o at → All (MayRead geometry tails o) (at ∷ [])
    one-read at may = All-cons (MayRead geometry tails o) at [] may (All-nil (MayRead geometry tails o))

    pub for-commands : (a : DriveAccess) → driven geometry zeroes tails a o ≡ Some p → IsForCommands geometry tails a o p
    unfolding driven
    for-commands (SeesEntry lane slot i) is =
        tail-has lane _ p (IsForCommands geometry tails (SeesEntry lane slot i) o p) is (λ d tail there at ruled.
        when-has (nat_lt i sqe_size && nat_lt slot ring_size && nat_lt (ahead ring_size d.head slot) (ahead ring_size d.head tail)) _ p
        (λ q. IsForCommands geometry tails (SeesEntry lane slot i) o q) ruled (λ may.
        let both = and_parts (nat_lt i sqe_size && nat_lt slot ring_size) (nat_lt (ahead ring_size d.head slot) (ahead ring_size d.head tail)) may in
        let front = and_parts (nat_lt i sqe_size) (nat_lt slot ring_size) both.0 in
        quiet (SeesEntry lane slot i) _
        (one-read (submission_slot geometry.mediator lane slot + i) (OfEntry lane slot i tail d there at
        (record { slot = ltb-true slot ring_size front.1; before = ltb-true (ahead ring_size d.head slot) (ahead ring_size d.head tail) both.1 })
        (ltb-true i sqe_size front.0) refl)) refl refl))
    for-commands (Takes lane) is =
        tail-has lane _ p (IsForCommands geometry tails (Takes lane) o p) is (λ d tail there at ruled.
        when-has _ _ p (λ q. IsForCommands geometry tails (Takes lane) o q) ruled (λ may. quiet (Takes lane) _ (none-read (Takes lane) refl) refl refl))
    for-commands (Sees lane id at) is =
        working-has lane id _ p (IsForCommands geometry tails (Sees lane id at) o p) is (λ w d there found ruled.
        when-has (may_see (reading geometry w.entry) o.memory w.work at) _ p (λ q. IsForCommands geometry tails (Sees lane id at) o q) ruled (λ may.
        quiet (Sees lane id at) _ (one-read at (OfCommand lane id w (record { d = d; on = there; is = found }) may)) refl refl))
    for-commands (Knows lane id) is =
        working-has lane id _ p (IsForCommands geometry tails (Knows lane id) o p) is (λ w d there found ruled.
        verdict-has (known w.buffer (reading geometry w.entry)) _ ruled (λ work done. when-has (is_none w.work) _ p Its done (λ may. quiet (Knows lane id) _ (none-read (Knows lane id) refl) refl refl)))
      where
        Its : Outside → Type 0
        Its q = IsForCommands geometry tails (Knows lane id) o q

        verdict-has : (v : Option Verdict) (rule : Work → Option Outside) → with_verdict v rule ≡ Some p → ((work : Work) → rule work ≡ Some p → Its p) → Its p
        verdict-has None rule is has = cc
        verdict-has (Some (Refuse st)) rule is has = cc
        verdict-has (Some (Go work)) rule is has = has work is
    for-commands (Does lane id number leaves) is =
        work-has lane id _ p (IsForCommands geometry tails (Does lane id number leaves) o p) is (λ work w d there at_work ruled.
        option_and_then_some _ (option_and_then (chosen zeroes leaves (form_of work.opcode)) (unit_due work w.left number)) p ruled (λ unit due done.
        option_and_then_some (chosen zeroes leaves (form_of work.opcode)) (unit_due work w.left number) unit due (λ whole is_due is_chosen.
        when-has _ _ p (λ q. IsForCommands geometry tails (Does lane id number leaves) o q) done (λ may.
        record {
          reads = none-read (Does lane id number leaves) refl;
          bytes = λ at off. refl;
          blocks = λ lba offset off.
              unit-elsewhere unit work lba offset (byte_of w.buffer) (λ same. off (ByUnit lane id number work whole at_work
              (due-is work w.left number whole is_due) (sym (chosen-lba zeroes leaves (form_of work.opcode) whole unit is_chosen) ∙ same)));
        }))))
    for-commands (Writes lane id to) is =
        work-has lane id _ p (IsForCommands geometry tails (Writes lane id to) o p) is (λ work w d there at_work ruled.
        option_and_then_some _ (w.buffer to) p ruled (λ byte has_byte done.
        when-has (is_read work.opcode && list_any (is_at to) (places_of work.pieces)) _ p (λ q. IsForCommands geometry tails (Writes lane id to) o q) done (λ may.
        let both = and_parts (is_read work.opcode) (list_any (is_at to) (places_of work.pieces)) may in
        record {
          reads = none-read (Writes lane id to) refl;
          bytes = λ at off. stored-one o.memory to byte at (λ same. off (subst (MayWrite geometry o) same (ToDestination lane id work at_work both.0 both.1)));
          blocks = λ lba offset off. refl;
        })))
    for-commands (Answers lane i byte) is =
        option_and_then_some _ (slice_get o.lanes lane) p is (λ d there ruled.
        when-has (list_any is_some d.working && nat_lt i cqe_size && not (phase_of _ == bit d.phase)) _ p
        (λ q. IsForCommands geometry tails (Answers lane i byte) o q) ruled (λ may.
        let front = and_parts (list_any is_some d.working && nat_lt i cqe_size) _ may in
        let both = and_parts (list_any is_some d.working) (nat_lt i cqe_size) front.0 in
        record {
          reads = none-read (Answers lane i byte) refl;
          bytes = λ at off. stored-one o.memory (completion_slot geometry.mediator lane d.posted + i) byte at
              (λ same. off (ToCompletion lane i d there (ltb-true i cqe_size both.1) same));
          blocks = λ lba offset off. refl;
        }))
    for-commands (Completes lane id fails byte) is =
        working-has lane id _ p (IsForCommands geometry tails (Completes lane id fails byte) o p) is (λ w d there found ruled.
        when-has _ _ p (λ q. IsForCommands geometry tails (Completes lane id fails byte) o q) ruled (λ may.
        record {
          reads = none-read (Completes lane id fails byte) refl;
          bytes = λ at off. stored-one o.memory (completion_slot geometry.mediator lane d.posted + 14) byte at
              (λ same. off (ToCompletion lane 14 d there fourteen same));
          blocks = λ lba offset off. refl;
        }))
    for-commands (Keeps block) is = subst (λ q. IsForCommands geometry tails (Keeps block) o q) (some-same _ p is) (quiet (Keeps block) _ (none-read (Keeps block) refl) refl refl)
