-- Words of the laws about the definitions
use Rattle.std.specs.Prelude.{◌≡◌, ◌≢◌, ℕ, ◌+◌, ◌<◌, ◌≤◌, ◌*◌, ◌%◌, Bool, true, List, [], ◌∷◌, All, IfSome, Option, Some, None, remove, slice_get}
use Rattle.std.specs.Bool.{⊤}
use Rattle.nv_mem.specs.GuestMap.{everywhere}
use Rattle.nv_mem.specs.Places.{Place, At, Bucket}
use Rattle.nv_mem.specs.declared.piece.Piece.{Piece}
use Rattle.nv_mem.specs.declared.piece.Piece.TheVariants as piece
use Rattle.nv_entry.specs.Status.{StatusField}
use Rattle.nv_model.specs.Memory.{bytes_from}
use Rattle.nv_model.specs.Dialogue.{Dialogue, End, Ask}
use Rattle.nv_model.specs.Judge.{WorkUnit, MoveBlock, ClearBlock, LeaveBlock, KeepAll, Work}
use Rattle.nv_model.specs.Limits.{block, most_slots, page}
use Rattle.nv_model.specs.Queue.{SubmissionQueue, CompletionQueue, cqe_size, sqe_size}
use Rattle.nv_model.specs.Controller.{Controller}
use Rattle.nv_model.specs.Private.{After, AtWork, Ended, Private, Progress, Run, Shape, Taken, Unjudged, moved_status}
use Rattle.nv_model.specs.Carried.{units_moved}
use Rattle.nv_model.specs.Carrying.{at_work, unmoved}

-- ---- memories

-- two memories have the same bytes, from the first number on as many as the second says
abbrev pub AgreeAt : (memory other : ℕ → ℕ) → ℕ × ℕ → Type 0
AgreeAt memory other span = (i : ℕ) → i < span.1 → memory (span.0 + i) ≡ other (span.0 + i)

-- and so for each of these
abbrev pub AgreeOn : (memory other : ℕ → ℕ) → List (ℕ × ℕ) → Type 0
AgreeOn memory other spans = All (AgreeAt memory other) spans

-- each of these addresses is mapped, from the first number on as many as the second says
abbrev pub IsMappedSpan : (ℕ → Bool) → ℕ × ℕ → Type 0
IsMappedSpan mapped span = (i : ℕ) → i < span.1 → mapped (span.0 + i) ≡ true

-- what a dialogue with a memory still wants where it asks, in order: the address, and all that is left of the array or list page there
unfoldable pub still_wanted : {A : Type 0} → (ℕ → ℕ) → Dialogue A → List (ℕ × ℕ)
still_wanted memory (End value) = []
still_wanted memory (Ask addr unit left next) = (addr, left) ∷ still_wanted memory (next (bytes_from memory addr unit))

-- ---- verdicts

-- a run of bytes is mapped; a bucket names none
abbrev pub IsMappedPiece : (ℕ → Bool) → Piece → Type 0
IsMappedPiece mapped (piece.Run addr len) = everywhere mapped addr len ≡ true
IsMappedPiece mapped (piece.Bucket len) = ⊤

-- a place is a mapped address or a bucket
abbrev pub IsMappedPlace : (ℕ → Bool) → Place → Type 0
IsMappedPlace mapped (At addr) = mapped addr ≡ true
IsMappedPlace mapped Bucket = ⊤

-- a unit is that of a block of the namespace, or of all its blocks
abbrev pub IsUnitWithin : (blocks : ℕ) → WorkUnit → Type 0
IsUnitWithin blocks (MoveBlock index lba) = lba < blocks
IsUnitWithin blocks (ClearBlock lba mark) = lba < blocks
IsUnitWithin blocks (LeaveBlock lba) = lba < blocks
IsUnitWithin blocks (KeepAll all) = all ≡ blocks

-- ---- commands that are carried out

-- these are the units, each once, in some order: each is one of those that are left
abbrev pub IsOrderOf : (order units : List WorkUnit) → Type 0
IsOrderOf [] units = units ≡ []
IsOrderOf (unit ∷ order) units = (place : ℕ) × ((slice_get units place ≡ Some unit) × IsOrderOf order (remove units place))

-- the units of the command t of that name, which goes with this work, have moved from p to q, each once, and it has ended with this
-- status
pub record HasMoved (p : Private) (name : ℕ) (t : Taken) (work : Work) (st : StatusField) (q : Private) : Type 0 where
  pub order : List WorkUnit
  pub each_once : IsOrderOf order work.units
  pub status : st ≡ moved_status (units_moved order work (unmoved p)).differed
  pub behind : q ≡ at_work name t work [] (units_moved order work (unmoved p)) p

-- ---- what units leave

-- another place
abbrev pub IsAnother : Place → Place → Type 0
IsAnother place other = other ≢ place

-- a unit changes neither this block nor its mark: it is that of another block, it leaves its block as it is, or it keeps all blocks of a
-- namespace that ends before it
abbrev pub IsElsewhere : (lba : ℕ) → WorkUnit → Type 0
IsElsewhere lba (MoveBlock index at) = at ≢ lba
IsElsewhere lba (ClearBlock at mark) = at ≢ lba
IsElsewhere lba (LeaveBlock at) = ⊤
IsElsewhere lba (KeepAll blocks) = blocks ≤ lba

-- ---- queues

-- a queue of this size may be, and its head and tail are slots
pub record IsInOrder (size head tail : ℕ) : Type 0 where
  pub at_least : 2 ≤ size
  pub at_most : size ≤ most_slots
  pub head_is_slot : head < size
  pub tail_is_slot : tail < size

abbrev pub IsSubmissionInOrder : SubmissionQueue → Type 0
IsSubmissionInOrder q = IsInOrder q.size q.head q.tail

abbrev pub IsCompletionInOrder : CompletionQueue → Type 0
IsCompletionInOrder q = IsInOrder q.size q.head q.tail

-- each submission queue of a controller has the one, and each completion queue the other
pub record QueuesHave (P : SubmissionQueue → Type 0) (Q : CompletionQueue → Type 0) (c : Controller) : Type 0 where
  pub submission_queues : All (λ o. IfSome o P) c.submission
  pub completion_queues : All (λ o. IfSome o Q) c.completion_queues

-- each queue of a controller is in order
abbrev pub QueuesInOrder : Controller → Type 0
QueuesInOrder c = QueuesHave IsSubmissionInOrder IsCompletionInOrder c

-- a queue is in order, and its slots are mapped
abbrev pub IsSubmissionInPlace : (ℕ → Bool) → SubmissionQueue → Type 0
IsSubmissionInPlace mapped q = IsInOrder q.size q.head q.tail × (everywhere mapped q.base (sqe_size * q.size) ≡ true)

abbrev pub IsCompletionInPlace : (ℕ → Bool) → CompletionQueue → Type 0
IsCompletionInPlace mapped q = IsInOrder q.size q.head q.tail × (everywhere mapped q.base (cqe_size * q.size) ≡ true)

-- each queue of a controller is in order, and its slots are mapped
abbrev pub QueuesInPlace : (ℕ → Bool) → Controller → Type 0
QueuesInPlace mapped c = QueuesHave (IsSubmissionInPlace mapped) (IsCompletionInPlace mapped) c

-- a queue begins with a page, so that none of its entries crosses one
abbrev pub IsSubmissionOnPage : SubmissionQueue → Type 0
IsSubmissionOnPage q = q.base % page ≡ 0

abbrev pub IsCompletionOnPage : CompletionQueue → Type 0
IsCompletionOnPage q = q.base % page ≡ 0

-- each queue of a controller begins with a page
abbrev pub QueuesOnPages : Controller → Type 0
QueuesOnPages c = QueuesHave IsSubmissionOnPage IsCompletionOnPage c

-- ---- states that look alike

-- a command at work: the runs of its buffer are mapped, and its units lie in the namespace
abbrev pub IsProgressInPlace : Shape → Progress → Type 0
IsProgressInPlace shape Unjudged = ⊤
IsProgressInPlace shape (Ended st) = ⊤
IsProgressInPlace shape (AtWork work left differed) = All (IsMappedPiece shape.mapped) work.pieces × All (IsUnitWithin shape.blocks) work.units

-- so is a command that is taken, where one is
abbrev pub IsTakenInPlace : Shape → Option Taken → Type 0
IsTakenInPlace shape None = ⊤
IsTakenInPlace shape (Some t) = IsProgressInPlace shape t.progress

-- the queues lie in mapped memory, and the taken commands work in mapped memory and in the namespace
pub record IsInPlace (shape : Shape) (p : Private) : Type 0 where
  pub queues : QueuesInPlace shape.mapped p.controller
  pub taken : (name : ℕ) → IsTakenInPlace shape (p.bag name)

-- two states differ at most in what lies at unmapped addresses, in blocks past the namespace, and past the end of a block
pub record LookAlike (shape : Shape) (p q : Private) : Type 0 where
  pub controller : p.controller ≡ q.controller
  pub bag : p.bag ≡ q.bag
  pub memory : (addr : ℕ) → shape.mapped addr ≡ true → p.memory addr ≡ q.memory addr
  pub disk : (lba offset : ℕ) → lba < shape.blocks → offset < block → p.disk lba offset ≡ q.disk lba offset
  pub kept : (lba : ℕ) → lba < shape.blocks → p.kept lba ≡ q.kept lba

-- neither step can be made, or both can: the guest sees the same of both, and they lead to states that look alike
abbrev pub StepsAlike : Shape → Option After → Option After → Type 0
StepsAlike shape None None = ⊤
StepsAlike shape None (Some b) = ⊥
StepsAlike shape (Some a) None = ⊥
StepsAlike shape (Some a) (Some b) = (a.seen ≡ b.seen) × LookAlike shape a.state b.state

-- neither run can be made, or both can: the guest sees the same of both, and they lead to states that look alike
abbrev pub RunsAlike : Shape → Option Run → Option Run → Type 0
RunsAlike shape None None = ⊤
RunsAlike shape None (Some s) = ⊥
RunsAlike shape (Some r) None = ⊥
RunsAlike shape (Some r) (Some s) = (r.seen ≡ s.seen) × LookAlike shape r.state s.state
