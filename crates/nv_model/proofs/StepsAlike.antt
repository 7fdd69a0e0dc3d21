-- States that look alike take the same steps, with the same replies, to states that look alike.
use Rattle.std.proofs.Common.{◌≡◌, ℕ, zero, suc, ◌+◌, ◌*◌, ◌<◌, Bool, true, cond, ◌||◌, ◌==◌, nat_lt, List, [], ◌∷◌, length, drop, replicate, slice_get, All}
use Rattle.std.proofs.Common.{Option, Some, None, IfSome, refl, ap, ◌∙◌, subst, arith}
use Rattle.std.specs.List.{list_any}
use Rattle.std.proofs.lemmas.List.Elements.{All-head, All-tail, All-take, All-drop}
use Rattle.nv_entry.specs.Submission.{cid_of}
use Rattle.nv_entry.specs.Status.{StatusField}
use Rattle.nv_entry.specs.declared.opcode.IoOpcode.{IoOpcode}
use Rattle.nv_entry.specs.declared.opcode.IoOpcode.TheVariants.{Flush, Write, Read, Compare, WriteZeroes, DatasetManagement}
use Rattle.nv_mem.specs.GuestMap.{everywhere}
use Rattle.nv_mem.specs.Places.{places_of}
use Rattle.nv_model.specs.declared.act.Act.{Act}
use Rattle.nv_model.specs.declared.act.Act.TheVariants as act
use Rattle.nv_model.specs.declared.reply.Reply.{Reply}
use Rattle.nv_model.specs.declared.reply.Reply.TheVariants as reply
use Rattle.nv_model.specs.Memory.{gathered, scattered, stored}
use Rattle.nv_model.specs.Judge.{ClearBlock, KeepAll, LeaveBlock, MoveBlock, Verdict, Work, WorkUnit}
use Rattle.nv_model.specs.Limits.{block}
use Rattle.nv_model.specs.Queue.{sqe_size}
use Rattle.nv_model.specs.Controller.{Controller, Posted, doorbell, front, is_enabled, post, reg_read, reg_write}
use Rattle.nv_model.specs.Admin.{AdminStep, NothingToDo, QueueFull, Stepped, admin}
use Rattle.nv_model.specs.Private.{Acted, ActStep, AdminQueueStep, After, AtWork, Bag, Ended, GiveUpStep, JudgeStep, KeepStep, MoveStep, Moved}
use Rattle.nv_model.specs.Private.{PostStep, Private, Progress, Run, RunOutStep, Seen, Shape, Step, TakeStep, Taken, Unjudged, acted, administered}
use Rattle.nv_model.specs.Private.{block_bytes, block_moved, block_written, completed_at, controlled, differs, ending, further, given_up_at}
use Rattle.nv_model.specs.Private.{judged_at, marked, may_take, moved_at, others, places_of_block, posted_at, progress_of, put, register_replied}
use Rattle.nv_model.specs.Private.{run_of, run_out_at, step, taken_at, unit_done, unit_left, unit_moved, with_progress, with_seen, with_taken}
use Rattle.nv_model.specs.Laws.{IsInPlace, IsMappedPiece, IsMappedPlace, IsProgressInPlace, IsTakenInPlace, IsUnitWithin, LookAlike, RunsAlike, StepsAlike}
use Rattle.nv_model.proofs.Agreeing.{bytes_from-agree}
use Rattle.nv_model.proofs.Asking.{IsMappedFrom}
use Rattle.nv_model.proofs.Judged.{IsMappedPlace-pieces, everywhere-at}
use Rattle.nv_model.proofs.MemoryAlike.{AdminAlike, admin-alike, by_test_both, bytes_from-mapped, front-mapped, gathered-mapped, scattered-at, stored-at, verdict-mapped}
use Rattle.nv_model.proofs.InPlace.{step-in_place}
use Rattle.nv_model.proofs.QueuesKept.{by_test}

-- a state with another memory, disk and marks
abbrev twin : Private → (ℕ → ℕ) → (ℕ → ℕ → ℕ) → (ℕ → Bool) → Private
twin p memory disk kept = record p { memory = memory; disk = disk; kept = kept }

-- what two units did is alike
record MovedAlike (shape : Shape) (m n : Moved) : Type 0 where
  pub memory : (addr : ℕ) → shape.mapped addr ≡ true → m.memory addr ≡ n.memory addr
  pub disk : (lba offset : ℕ) → lba < shape.blocks → offset < block → m.disk lba offset ≡ n.disk lba offset
  pub kept : (lba : ℕ) → lba < shape.blocks → m.kept lba ≡ n.kept lba
  pub differed : m.differed ≡ n.differed

-- what two acts did is alike, and so are their replies
abbrev ActedAlike : Shape → Acted → Acted → Type 0
ActedAlike shape a b = (a.reply ≡ b.reply) × LookAlike shape a.state b.state

-- an element that is found among those that have something has it
pub slice_get-has : {X : Type 0} (P : X → Type 0) (xs : List X) (i : ℕ) → All P xs → IfSome (slice_get xs i) P
slice_get-has P [] i each = tt
slice_get-has P (x ∷ xs) zero each = All-head P x xs each
slice_get-has P (x ∷ xs) (suc i) each = slice_get-has P xs i (All-tail P x xs each)

-- a unit that is left lies in the namespace where the work's units do
unit_left-within : (blocks : ℕ) (work : Work) (left : List ℕ) (number : ℕ) → All (IsUnitWithin blocks) work.units
    → IfSome (unit_left work left number) (IsUnitWithin blocks)
unit_left-within blocks work left number each =
    by_test (λ o. IfSome o (IsUnitWithin blocks)) (list_any (λ k. k == number) left) _ _ (λ _. slice_get-has (IsUnitWithin blocks) work.units number each) (λ _. tt)

-- ---- marks and blocks

marked-at : (kept other : ℕ → Bool) (lba : ℕ) (mark also : Bool) (at : ℕ) → mark ≡ also → kept at ≡ other at
    → marked kept lba mark at ≡ marked other lba also at
marked-at kept other lba mark also at same rest =
    ap (λ (b : Bool). cond (at == lba) b (kept at)) same ∙ ap (λ (b : Bool). cond (at == lba) also b) rest

block_written-at : (disk other : ℕ → ℕ → ℕ) (lba : ℕ) (bytes also : List ℕ) (at offset : ℕ) → bytes ≡ also
    → disk at offset ≡ other at offset → block_written disk lba bytes at offset ≡ block_written other lba also at offset
block_written-at disk other lba bytes also at offset same rest =
    ap (λ (bs : List ℕ). cond (at == lba) (stored (λ _. 0) 0 bs offset) (disk at offset)) same
    ∙ ap (λ (v : ℕ). cond (at == lba) (stored (λ _. 0) 0 also offset) v) rest

module _ (shape : Shape) (p : Private) (memory : ℕ → ℕ) (disk : ℕ → ℕ → ℕ) (kept : ℕ → Bool) (alike : LookAlike shape p (twin p memory disk kept)) where
  -- ---- units

  -- the bytes of a block of the namespace
  block_bytes-alike : (lba : ℕ) → lba < shape.blocks → block_bytes p.disk lba ≡ block_bytes disk lba
  block_bytes-alike lba within =
      bytes_from-agree (p.disk lba) (disk lba) 0 block (λ i below. alike.disk lba (0 + i) within (omega arith))

  -- the bytes of a block of a mapped buffer
  buffer-alike : (work : Work) (index : ℕ) → All (IsMappedPiece shape.mapped) work.pieces
      → gathered p.memory (places_of_block work index) ≡ gathered memory (places_of_block work index)
  buffer-alike work index pieces =
      gathered-mapped shape.mapped p.memory memory alike.memory (places_of_block work index)
      (All-take (IsMappedPlace shape.mapped) block (drop (block * index) (places_of work.pieces))
      (All-drop (IsMappedPlace shape.mapped) (block * index) (places_of work.pieces) (IsMappedPlace-pieces shape.mapped work.pieces pieces)))

  block_moved-alike : (opcode : IoOpcode) (work : Work) (index lba : ℕ) → lba < shape.blocks
      → All (IsMappedPiece shape.mapped) work.pieces
      → MovedAlike shape (block_moved opcode work index lba p.memory p.disk p.kept) (block_moved opcode work index lba memory disk kept)
  block_moved-alike Read work index lba within pieces =
      record {
        memory =
            λ at is. scattered-at p.memory memory (places_of_block work index) (block_bytes p.disk lba) at (alike.memory at is)
            ∙ ap (λ (bs : List ℕ). scattered memory (places_of_block work index) bs at) (block_bytes-alike lba within);
        disk = alike.disk;
        kept = λ at below. marked-at p.kept kept lba (p.kept lba || work.fua) (kept lba || work.fua) at (ap (λ (b : Bool). b || work.fua) (alike.kept lba within)) (alike.kept at below);
        differed = refl;
      }
  block_moved-alike Write work index lba within pieces =
      record {
        memory = alike.memory;
        disk = λ at offset below inside. block_written-at p.disk disk lba _ _ at offset (buffer-alike work index pieces) (alike.disk at offset below inside);
        kept = λ at below. marked-at p.kept kept lba work.fua work.fua at refl (alike.kept at below);
        differed = refl;
      }
  block_moved-alike Compare work index lba within pieces =
      record {
        memory = alike.memory;
        disk = alike.disk;
        kept = λ at below. marked-at p.kept kept lba (p.kept lba || work.fua) (kept lba || work.fua) at (ap (λ (b : Bool). b || work.fua) (alike.kept lba within)) (alike.kept at below);
        differed = ap (λ (bs : List ℕ). differs bs (block_bytes p.disk lba)) (buffer-alike work index pieces)
            ∙ ap (λ (bs : List ℕ). differs (gathered memory (places_of_block work index)) bs) (block_bytes-alike lba within);
      }
  block_moved-alike WriteZeroes work index lba within pieces =
      record { memory = alike.memory; disk = alike.disk; kept = alike.kept; differed = refl }
  block_moved-alike DatasetManagement work index lba within pieces =
      record { memory = alike.memory; disk = alike.disk; kept = alike.kept; differed = refl }
  block_moved-alike Flush work index lba within pieces =
      record { memory = alike.memory; disk = alike.disk; kept = alike.kept; differed = refl }

  unit_moved-alike : (unit : WorkUnit) (work : Work) → IsUnitWithin shape.blocks unit
      → All (IsMappedPiece shape.mapped) work.pieces
      → MovedAlike shape (unit_moved unit work p.memory p.disk p.kept) (unit_moved unit work memory disk kept)
  unit_moved-alike (MoveBlock index lba) work within pieces = block_moved-alike work.opcode work index lba within pieces
  unit_moved-alike (ClearBlock lba mark) work within pieces =
      record {
        memory = alike.memory;
        disk = λ at offset below inside. block_written-at p.disk disk lba (replicate block 0) (replicate block 0) at offset refl (alike.disk at offset below inside);
        kept = λ at below. marked-at p.kept kept lba mark mark at refl (alike.kept at below);
        differed = refl;
      }
  unit_moved-alike (LeaveBlock lba) work within pieces =
      record { memory = alike.memory; disk = alike.disk; kept = alike.kept; differed = refl }
  unit_moved-alike (KeepAll all) work within pieces =
      record {
        memory = alike.memory;
        disk = alike.disk;
        kept = λ at below. ap (λ (mark : Bool). nat_lt at all || mark) (alike.kept at below);
        differed = refl;
      }

  -- ---- acts

  controlled-alike : (o : Option Controller)
      → ActedAlike shape (controlled o p) (controlled o (twin p memory disk kept))
  controlled-alike None = (refl, alike)
  controlled-alike (Some c) =
      (refl, record { controller = refl; bag = refl; memory = alike.memory; disk = alike.disk; kept = alike.kept })

  register_replied-alike : (o : Option ℕ)
      → ActedAlike shape (register_replied o p) (register_replied o (twin p memory disk kept))
  register_replied-alike None = (refl, alike)
  register_replied-alike (Some value) = (refl, alike)

  acted-alike : (a : Act) → ActedAlike shape (acted shape a p) (acted shape a (twin p memory disk kept))
  acted-alike (act.Store addr bytes) =
      by_test_both (ActedAlike shape) (everywhere shape.mapped addr (length bytes)) _ _ _ _
      (λ _. (
        refl,
        record {
          controller = refl;
          bag = refl;
          memory = λ at is. stored-at p.memory memory addr bytes at (alike.memory at is);
          disk = alike.disk;
          kept = alike.kept;
        },
      ))
      (λ _. (refl, alike))
  acted-alike (act.Load addr len) =
      by_test_both (ActedAlike shape) (everywhere shape.mapped addr len) _ _ _ _
      (λ there. (
        ap (λ (bs : List ℕ). reply.Bytes bs)
            (bytes_from-mapped shape.mapped p.memory memory alike.memory addr len (λ i below. everywhere-at shape.mapped addr len i there below)),
        alike,
      ))
      (λ _. (refl, alike))
  acted-alike (act.RegRead offset) = register_replied-alike (reg_read p.controller offset)
  acted-alike (act.RegWrite offset value) = controlled-alike (reg_write shape.mapped p.controller offset value)
  acted-alike (act.Doorbell offset value) = controlled-alike (doorbell p.controller offset value)

  -- ---- commands

  taken_at-alike : (at : Option ℕ) (queue name : ℕ)
      → ((addr : ℕ) → at ≡ Some addr → IsMappedFrom shape.mapped addr sqe_size)
      → StepsAlike shape (taken_at at queue name p) (taken_at at queue name (twin p memory disk kept))
  taken_at-alike None queue name there = tt
  taken_at-alike (Some addr) queue name there = (
    refl,
    record {
      controller = refl;
      bag = ap (λ (bs : List ℕ). put p.bag name (Some (record { queue = queue; entry = bs; progress = Unjudged })))
          (bytes_from-mapped shape.mapped p.memory memory alike.memory addr sqe_size (there addr refl));
      memory = alike.memory;
      disk = alike.disk;
      kept = alike.kept;
    },
  )

  judged_at-alike : (progress : Progress) (name : ℕ) (t : Taken)
      → StepsAlike shape (judged_at progress shape name t p) (judged_at progress shape name t (twin p memory disk kept))
  judged_at-alike Unjudged name t = (
    refl,
    record {
      controller = refl;
      bag = ap (λ (v : Verdict). with_progress p.bag name t (progress_of v)) (verdict-mapped shape.mapped p.memory memory alike.memory shape.limit shape.blocks t.entry);
      memory = alike.memory;
      disk = alike.disk;
      kept = alike.kept;
    },
  )
  judged_at-alike (Ended st) name t = tt
  judged_at-alike (AtWork work left differed) name t = tt

  given_up_at-alike : (progress : Progress) (name : ℕ) (t : Taken)
      → StepsAlike shape (given_up_at progress name t p) (given_up_at progress name t (twin p memory disk kept))
  given_up_at-alike Unjudged name t =
      (refl, record { controller = refl; bag = refl; memory = alike.memory; disk = alike.disk; kept = alike.kept })
  given_up_at-alike (Ended st) name t = tt
  given_up_at-alike (AtWork work left differed) name t = tt

  unit_done-alike : (o : Option WorkUnit) (left : List ℕ) (work : Work) (differed : Bool) (name : ℕ) (t : Taken)
      → IfSome o (IsUnitWithin shape.blocks) → All (IsMappedPiece shape.mapped) work.pieces
      → StepsAlike shape (unit_done o left work differed name t p) (unit_done o left work differed name t (twin p memory disk kept))
  unit_done-alike None left work differed name t within pieces = tt
  unit_done-alike (Some unit) left work differed name t within pieces =
      let moved = unit_moved-alike unit work within pieces in (
        refl,
        record {
          controller = refl;
          bag = ap (λ (b : Bool). with_progress p.bag name t (AtWork work left (differed || b))) moved.differed;
          memory = moved.memory;
          disk = moved.disk;
          kept = moved.kept;
        },
      )

  moved_at-alike : (progress : Progress) (number name : ℕ) (t : Taken) → IsProgressInPlace shape progress
      → StepsAlike shape (moved_at progress number name t p) (moved_at progress number name t (twin p memory disk kept))
  moved_at-alike Unjudged number name t there = tt
  moved_at-alike (Ended st) number name t there = tt
  moved_at-alike (AtWork work left differed) number name t there =
      unit_done-alike (unit_left work left number) (others number left) work differed name t (unit_left-within shape.blocks work left number there.1) there.0

  posted_at-alike : (o : Option Posted) (name : ℕ)
      → StepsAlike shape (posted_at o name p) (posted_at o name (twin p memory disk kept))
  posted_at-alike None name = tt
  posted_at-alike (Some posted) name = (
    refl,
    record {
      controller = refl;
      bag = refl;
      memory = λ at is. stored-at p.memory memory posted.addr posted.entry at (alike.memory at is);
      disk = alike.disk;
      kept = alike.kept;
    },
  )

  completed_at-alike : (o : Option StatusField) (name : ℕ) (t : Taken)
      → StepsAlike shape (completed_at o name t p) (completed_at o name t (twin p memory disk kept))
  completed_at-alike None name t = tt
  completed_at-alike (Some st) name t =
      by_test_both (StepsAlike shape) (is_enabled p.controller) _ _ _ _ (λ _. posted_at-alike (post p.controller t.queue 0 (cid_of t.entry) st) name) (λ _. tt)

  run_out_at-alike : (o : Option StatusField) (name : ℕ) (t : Taken)
      → StepsAlike shape (run_out_at o name t p) (run_out_at o name t (twin p memory disk kept))
  run_out_at-alike None name t = tt
  run_out_at-alike (Some st) name t =
      by_test_both (StepsAlike shape) (is_enabled p.controller) _ _ _ _ (λ _. tt)
      (λ _. (refl, record { controller = refl; bag = refl; memory = alike.memory; disk = alike.disk; kept = alike.kept }))

  with_taken-alike : (o : Option Taken) (change also : Taken → Option After) → IsTakenInPlace shape o
      → ((t : Taken) → IsProgressInPlace shape t.progress → StepsAlike shape (change t) (also t))
      → StepsAlike shape (with_taken o change) (with_taken o also)
  with_taken-alike None change also there each = tt
  with_taken-alike (Some t) change also there each = each t there

  administered-alike : (a b : AdminStep) → AdminAlike shape.mapped a b
      → StepsAlike shape (administered a p) (administered b (twin p memory disk kept))
  administered-alike NothingToDo NothingToDo same = tt
  administered-alike QueueFull QueueFull same = tt
  administered-alike (Stepped c m) (Stepped d n) same =
      (refl, record { controller = same.0; bag = refl; memory = same.1; disk = alike.disk; kept = alike.kept })
  administered-alike NothingToDo QueueFull same = absurd same
  administered-alike NothingToDo (Stepped d n) same = absurd same
  administered-alike QueueFull NothingToDo same = absurd same
  administered-alike QueueFull (Stepped d n) same = absurd same
  administered-alike (Stepped c m) NothingToDo same = absurd same
  administered-alike (Stepped c m) QueueFull same = absurd same

  -- ---- steps

  twin_step-alike : (s : Step) → IsInPlace shape p
      → StepsAlike shape (step shape s p) (step shape s (twin p memory disk kept))
  unfolding step
  twin_step-alike (ActStep a) place =
      (ap (λ (r : Reply). Some (record { act = a; reply = r })) (acted-alike a).0, (acted-alike a).1)
  twin_step-alike (TakeStep queue name) place =
      by_test_both (StepsAlike shape) (may_take queue name p) _ _ _ _
      (λ _. taken_at-alike (front p.controller queue) queue name (λ addr at. front-mapped shape.mapped p.controller queue addr place.queues at)) (λ _. tt)
  twin_step-alike (JudgeStep name) place =
      with_taken-alike (p.bag name) _ _ (place.taken name) (λ t there. judged_at-alike t.progress name t)
  twin_step-alike (MoveStep name number) place =
      with_taken-alike (p.bag name) _ _ (place.taken name) (λ t there. moved_at-alike t.progress number name t there)
  twin_step-alike (GiveUpStep name) place =
      with_taken-alike (p.bag name) _ _ (place.taken name) (λ t there. given_up_at-alike t.progress name t)
  twin_step-alike (PostStep name) place =
      with_taken-alike (p.bag name) _ _ (place.taken name) (λ t there. completed_at-alike (ending t.progress) name t)
  twin_step-alike (RunOutStep name) place =
      with_taken-alike (p.bag name) _ _ (place.taken name) (λ t there. run_out_at-alike (ending t.progress) name t)
  twin_step-alike AdminQueueStep place =
      administered-alike (admin shape.mapped shape.blocks p.controller p.memory) (admin shape.mapped shape.blocks p.controller memory)
      (admin-alike shape.mapped p.memory memory alike.memory shape.blocks p.controller place.queues)
  twin_step-alike (KeepStep lba) place =
      by_test_both (StepsAlike shape) (nat_lt lba shape.blocks) _ _ _ _
      (λ _. (
        refl,
        record {
          controller = refl;
          bag = refl;
          memory = alike.memory;
          disk = alike.disk;
          kept = λ at below. marked-at p.kept kept lba true true at refl (alike.kept at below);
        },
      ))
      (λ _. tt)

-- a state that looks alike is a twin
twin-is : (p q : Private) → p.controller ≡ q.controller → p.bag ≡ q.bag → twin p q.memory q.disk q.kept ≡ q
twin-is p q controller bag =
    ap (λ (c : Controller). record { memory = q.memory; disk = q.disk; kept = q.kept; controller = c; bag = p.bag }) controller
    ∙ ap (λ (b : Bag). record { memory = q.memory; disk = q.disk; kept = q.kept; controller = q.controller; bag = b }) bag

-- each step does the same to states that look alike
pub step-alike : (shape : Shape) (s : Step) (p q : Private) → LookAlike shape p q → IsInPlace shape p
    → StepsAlike shape (step shape s p) (step shape s q)
step-alike shape s p q alike place =
    subst (λ (x : Private). StepsAlike shape (step shape s p) (step shape s x)) (twin-is p q alike.controller alike.bag)
    (twin_step-alike shape p q.memory q.disk q.kept (record { controller = refl; bag = refl; memory = alike.memory; disk = alike.disk; kept = alike.kept }) s place)

-- ---- runs

-- one more step in front of runs that are alike
further_some-alike : (shape : Shape) (state also : Private) (a : Option Seen) (tail other : Option Run)
    → RunsAlike shape tail other
    → RunsAlike shape (further (Some (record { state = state; seen = a })) (λ _. tail)) (further (Some (record { state = also; seen = a })) (λ _. other))
further_some-alike shape state also a None None same = tt
further_some-alike shape state also a None (Some s) same = absurd same
further_some-alike shape state also a (Some r) None same = absurd same
further_some-alike shape state also a (Some r) (Some s) same =
    (ap (λ (seen : List Seen). with_seen a seen) same.0, same.1)

further-alike : (shape : Shape) (o also : Option After) (steps : List Step) → StepsAlike shape o also
    → IfSome o (λ a. IsInPlace shape a.state)
    → ((p q : Private) → LookAlike shape p q → IsInPlace shape p → RunsAlike shape (run_of shape steps p) (run_of shape steps q))
    → RunsAlike shape (further o (λ p. run_of shape steps p)) (further also (λ q. run_of shape steps q))
further-alike shape None None steps same place rest = tt
further-alike shape None (Some b) steps same place rest = absurd same
further-alike shape (Some a) None steps same place rest = absurd same
further-alike shape (Some a) (Some b) steps same place rest =
    subst (λ (r : Option Seen). RunsAlike shape (further (Some a) (λ p. run_of shape steps p)) (further (Some (record { state = b.state; seen = r })) (λ q. run_of shape steps q))) same.0
    (further_some-alike shape a.state b.state a.seen (run_of shape steps a.state) (run_of shape steps b.state) (rest a.state b.state same.1 place))

-- each run does
pub run_of-alike : (shape : Shape) (steps : List Step) (p q : Private) → LookAlike shape p q → IsInPlace shape p
    → RunsAlike shape (run_of shape steps p) (run_of shape steps q)
unfolding run_of
run_of-alike shape [] p q alike place = (refl, alike)
run_of-alike shape (s ∷ steps) p q alike place =
    further-alike shape (step shape s p) (step shape s q) steps (step-alike shape s p q alike place) (step-in_place shape s p place)
    (λ x y same there. run_of-alike shape steps x y same there)
