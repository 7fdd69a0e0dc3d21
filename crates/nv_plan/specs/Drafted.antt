-- Words of private functions: a command whose lists are being read, what is still to be read of them, and what comes next.
use Rattle.std.specs.Prelude.{◌≡◌, ◌≤◌, ◌+◌, ◌*◌, ℕ, All, true, false, List, [], ◌∷◌, ◌++◌, Some, None, drop, length}
use Rattle.std.specs.Bool.{⊤}
use Rattle.nv_entry.specs.declared.opcode.IoOpcode.{IoOpcode}
use Rattle.nv_entry.specs.declared.opcode.IoOpcode.TheVariants as opcode
use Rattle.nv_judge.specs.Need.{HasFieldsInOrder, need_of}
use Rattle.nv_judge.specs.declared.need.Need.{Need}
use Rattle.nv_mem.specs.GuestMap.{mapped}
use Rattle.nv_mem.specs.Places.{total_len}
use Rattle.nv_mem.specs.declared.piece.Piece.{Piece}
use Rattle.nv_mem.specs.declared.piece.Piece.TheVariants as piece
use Rattle.nv_model.specs.Dialogue.{Dialogue, End, and_then}
use Rattle.nv_model.specs.Judge.{Go, Refuse, Verdict, has_buffer, judge, judge_ranges, judge_reading, range_count_of, ranges_in, read_source, work_of}
use Rattle.nv_model.specs.Limits.{part_size, range_size}
use Rattle.nv_model.specs.Reading.{Reading, Spells}
use Rattle.nv_model.specs.Transcript.{ReadDone, Settled, first_read, in_transcript}
use Rattle.nv_model.specs.Want.{want_of}
use Rattle.nv_model.specs.declared.want.Want.{Want}
use Rattle.nv_model.specs.declared.want.Want.TheVariants as want
use Rattle.nv_model.proofs.Endings.{EndsIn, OfPieces}
use Rattle.nv_model.proofs.ListsFed.{IsListAhead}
use Rattle.nv_model.proofs.RunPieces.{IsRunPiece}
use Rattle.nv_ns.specs.Extents.{blocks_in}
use Rattle.nv_prp.specs.Parse.{dialogue_of as pages_of}
use Rattle.nv_sgl.specs.Parse.{dialogue_of as descriptors_of}
use Rattle.nv_world_model.specs.Geometry.{Guest, regions_of}
use Rattle.nv_world_model.specs.Plan.{planned}
use Rattle.nv_plan.specs.Drawn.{given_of}
use Rattle.nv_plan.specs.Outline.{Outline, outlined}
use Rattle.nv_plan.specs.Parts.{HasBytes}
use Rattle.nv_plan.specs.declared.draft.Ahead.{Ahead}
use Rattle.nv_plan.specs.declared.draft.Ahead.TheVariants as ahead
use Rattle.nv_plan.specs.declared.draft.Buffered.{Buffered}
use Rattle.nv_plan.specs.declared.draft.Draft.{Draft}
use Rattle.nv_plan.specs.declared.draft.Stage.{Stage}
use Rattle.nv_plan.specs.declared.draft.Stage.TheVariants as stage
use Rattle.nv_plan.specs.declared.given.GrantRef.{GrantRef}
use Rattle.nv_plan.specs.declared.job.Job.{Job}
use Rattle.nv_plan.specs.declared.next.Next.{Next}
use Rattle.nv_plan.specs.declared.next.Next.TheVariants as next
use Rattle.nv_plan.specs.declared.source.Source.{Source}

-- ---- what is still to be read

-- the pieces of a source that were not read
abbrev pub left_of : Source → List Piece
left_of source = drop source.read source.places

-- nothing was read of a source of these places
pub record IsUnread (places : List Piece) (source : Source) : Type 0 where
  pub own : source.places ≡ places
  pub none : source.read ≡ 0
  pub bytes : source.bytes.items ≡ []

-- one run more was read, which has these bytes
pub record IsReadOn (old : Source) (run : List ℕ) (new : Source) : Type 0 where
  pub places : new.places ≡ old.places
  pub read : new.read ≡ old.read + 1
  pub bytes : new.bytes.items ≡ old.bytes.items ++ run

-- none was
pub record IsAsBefore (old new : Source) : Type 0 where
  pub places : new.places ≡ old.places
  pub read : new.read ≡ old.read
  pub bytes : new.bytes.items ≡ old.bytes.items

-- what is still to be read of a command in a namespace of `blocks` blocks, and the verdict in which that ends
abbrev pub ahead_at : {A : Type 0} → (blocks : ℕ) → List ℕ → Stage A → Dialogue Verdict
ahead_at blocks entry (stage.Refused st) = End (Refuse st)
ahead_at blocks entry (stage.Bare opcode) = End (Go (work_of blocks opcode entry [] []))
ahead_at blocks entry (stage.Named b runs) = and_then (End (Spells runs)) (judge_reading blocks entry b.opcode)
ahead_at blocks entry (stage.Pages b parse) = and_then (pages_of parse.value) (judge_reading blocks entry b.opcode)
ahead_at blocks entry (stage.Descriptors b parse) = and_then (descriptors_of parse) (judge_reading blocks entry b.opcode)
ahead_at blocks entry (stage.Ranges source) =
    and_then (read_source (left_of source) source.bytes.items)
    (λ bytes. End (judge_ranges blocks opcode.DatasetManagement entry source.places (ranges_in (range_count_of entry) bytes)))

abbrev pub left_to_read : {A : Type 0} → Draft A → Dialogue Verdict
left_to_read d = ahead_at (blocks_in (given_of d.given).namespace) d.sqe d.stage

-- ---- what comes next

-- of a list of a command with that opcode
abbrev pub done_next : IoOpcode → Ahead
done_next opcode.DatasetManagement = ahead.Turn
done_next _ = ahead.End

abbrev pub next_of : IoOpcode → Want → Ahead
next_of opcode (want.Read addr len) = ahead.Read addr len
next_of opcode want.Done = done_next opcode
next_of opcode (want.Fault st) = ahead.End
next_of opcode want.TooLong = ahead.End

-- of a source
abbrev pub front_of : List Piece → Ahead
front_of [] = ahead.End
front_of (piece.Run addr len ∷ pieces) = ahead.Read addr len
front_of (piece.Bucket len ∷ pieces) = ahead.End

abbrev pub next_at : {A : Type 0} → Stage A → Ahead
next_at (stage.Refused st) = ahead.End
next_at (stage.Bare opcode) = ahead.End
next_at (stage.Named b runs) = next_of b.opcode want.Done
next_at (stage.Pages b parse) = next_of b.opcode (want_of (pages_of parse.value))
next_at (stage.Descriptors b parse) = next_of b.opcode (want_of (descriptors_of parse))
next_at (stage.Ranges source) = front_of (left_of source)

-- what is said of it
abbrev pub ahead_of : Next → Ahead
ahead_of (next.Read addr len) = ahead.Read addr len
ahead_of next.Done = ahead.End

-- what the parse of a list wants; nothing of a list is wanted elsewhere
abbrev pub want_at : {A : Type 0} → Stage A → Want
want_at (stage.Refused st) = want.TooLong
want_at (stage.Bare opcode) = want.TooLong
want_at (stage.Named b runs) = want.Done
want_at (stage.Pages b parse) = want_of (pages_of parse.value)
want_at (stage.Descriptors b parse) = want_of (descriptors_of parse)
want_at (stage.Ranges source) = want.TooLong

-- a list is read
abbrev pub IsReadingList : {A : Type 0} → Stage A → Type 0
IsReadingList (stage.Refused st) = ⊥
IsReadingList (stage.Bare opcode) = ⊥
IsReadingList (stage.Named b runs) = ⊤
IsReadingList (stage.Pages b parse) = ⊤
IsReadingList (stage.Descriptors b parse) = ⊤
IsReadingList (stage.Ranges source) = ⊥

-- the list has named these pieces
abbrev pub IsSpelledBy : {A : Type 0} → Stage A → List Piece → Type 0
IsSpelledBy (stage.Refused st) pieces = ⊥
IsSpelledBy (stage.Bare opcode) pieces = ⊥
IsSpelledBy (stage.Named b runs) pieces = End (Spells runs) ≡ End (Spells pieces)
IsSpelledBy (stage.Pages b parse) pieces = pages_of parse.value ≡ End (Spells pieces)
IsSpelledBy (stage.Descriptors b parse) pieces = descriptors_of parse ≡ End (Spells pieces)
IsSpelledBy (stage.Ranges source) pieces = ⊥

-- ---- what is kept of each

-- the fields of a command with that opcode are in order, and it needs this
abbrev pub IsKnown : Guest → (entry : List ℕ) → IoOpcode → Need → Type 0
IsKnown given entry opcode need = HasFieldsInOrder (blocks_in given.namespace) entry opcode need

-- a list of a command with a buffer, of which this is still to be read
pub record IsListed (given : Guest) (entry : List ℕ) (b : Buffered) (d : Dialogue Reading) : Type 0 where
  pub known : IsKnown given entry b.opcode b.need
  pub buffer : has_buffer b.opcode ≡ true
  pub often : ℕ
  pub ahead : IsListAhead (mapped (regions_of given)) often b.need.dest b.need.bytes d
  pub bytes : EndsIn (OfPieces (λ pieces. All HasBytes pieces)) d

-- the source of a Dataset Management
pub record IsSource (given : Guest) (entry : List ℕ) (source : Source) : Type 0 where
  pub known : IsKnown given entry opcode.DatasetManagement (need_of entry opcode.DatasetManagement)
  pub short : total_len (left_of source) ≤ part_size
  pub runs : All IsRunPiece (left_of source)
  pub many : length source.bytes.items + total_len (left_of source) ≡ range_size * range_count_of entry

abbrev pub IsSoundStage : {A : Type 0} → Guest → List ℕ → Stage A → Type 0
IsSoundStage given entry (stage.Refused st) = ⊤
IsSoundStage given entry (stage.Bare opcode) = IsKnown given entry opcode (need_of entry opcode) × (has_buffer opcode ≡ false)
IsSoundStage given entry (stage.Named b runs) = IsListed given entry b (End (Spells runs))
IsSoundStage given entry (stage.Pages b parse) = IsListed given entry b (pages_of parse.value)
IsSoundStage given entry (stage.Descriptors b parse) = IsListed given entry b (descriptors_of parse)
IsSoundStage given entry (stage.Ranges source) = IsSource given entry source

abbrev pub IsSound : {A : Type 0} → Draft A → Type 0
IsSound d = IsSoundStage (given_of d.given) d.sqe d.stage

-- ---- what becomes of a draft

-- reads that meet nothing of what comes next; none are left where the ranges come next
abbrev pub IsUnmet : Ahead → List ReadDone → Type 0
IsUnmet (ahead.Read addr len) reads = first_read addr len reads ≡ None
IsUnmet ahead.Turn reads = reads ≡ []
IsUnmet ahead.End reads = ⊤

-- it is of the same command, and sound
pub record IsOfSame {A : Type 0} (old new : Draft A) : Type 0 where
  pub given : new.given ≡ old.given
  pub sqe : new.sqe ≡ old.sqe
  pub sound : IsSound new

-- nothing was read, and what meets nothing of it still meets nothing
pub record IsGoingOn {A : Type 0} (old new : Draft A) : Type 0 where
  pub same : IsOfSame old new
  pub left : left_to_read new ≡ left_to_read old
  pub unmet : (reads : List ReadDone) → IsUnmet (next_at old.stage) reads → IsUnmet (next_at new.stage) reads

-- a source is what comes after the list
pub record IsTurned {A : Type 0} (d : Draft A) (source : Source) : Type 0 where
  pub sound : IsSoundStage {A = A} (given_of d.given) d.sqe (stage.Ranges source)
  pub left : ahead_at {A = A} (blocks_in (given_of d.given).namespace) d.sqe (stage.Ranges source) ≡ left_to_read d

-- these bytes were read where they were wanted: reads in which they come first, and what is left of these, come to the same
abbrev pub GoesOn : (old : Dialogue Verdict) → (addr : ℕ) → (bytes : List ℕ) → (new : Dialogue Verdict) → Type 0
GoesOn old addr bytes new =
    (reads rest : List ReadDone) → first_read addr (length bytes) reads ≡ Some (bytes, rest)
    → in_transcript old [] reads ≡ in_transcript new [] rest

pub record IsFed {A : Type 0} (old : Draft A) (bytes : List ℕ) (new : Draft A) : Type 0 where
  pub same : IsOfSame old new
  pub on : (addr : ℕ) → next_at old.stage ≡ ahead.Read addr (length bytes) → GoesOn (left_to_read old) addr bytes (left_to_read new)

-- this is what the plan says, whatever else is read
abbrev pub Says : {A : Type 0} → Draft A → Outline → Type 0
Says d outline =
    (reads : List ReadDone) → Settled outline
    ≡ outlined (given_of d.given).namespace d.sqe (planned (regions_of (given_of d.given)) (in_transcript (left_to_read d) [] reads))

-- ---- a plan under way

-- what has still to be read comes to what the whole command comes to, over these reads that are left of a job's, whatever else is read
abbrev pub ComesTo : {A : Type 0} → Draft A → Job → (left : List ReadDone) → Type 0
ComesTo d job left =
    (more : List ReadDone) → in_transcript (left_to_read d) [] (left ++ more)
    ≡ in_transcript (judge (mapped (regions_of (given_of d.given))) (given_of d.given).limit (blocks_in (given_of d.given).namespace) job.sqe) [] (job.reads ++ more)

-- a draft was fed all that a job's transcript has: what is left of it meets nothing
pub record IsUnderWay {A : Type 0} (d : Draft A) (job : Job) : Type 0 where
  pub same : d.sqe ≡ job.sqe
  pub sound : IsSound d
  pub left : List ReadDone
  pub comes : ComesTo d job left
  pub unmet : IsUnmet (next_at d.stage) left

-- nothing was read of a command
pub record IsDraft {A : Type 0} (given : GrantRef) (entry : List ℕ) (d : Draft A) : Type 0 where
  pub own : d.given ≡ given
  pub same : d.sqe ≡ entry
  pub sound : IsSound d
  pub left : left_to_read d ≡ judge (mapped (regions_of (given_of d.given))) (given_of d.given).limit (blocks_in (given_of d.given).namespace) d.sqe

-- nor of a job's
abbrev pub IsBegun : {A : Type 0} → Draft A → Job → Type 0
IsBegun d job = IsDraft d.given job.sqe d

-- all was read that the job's transcript has, and this is wanted next
pub record IsCaughtUp {A : Type 0} (old : Draft A) (job : Job) (new : Draft A) (n : Next) : Type 0 where
  pub own : new.given ≡ old.given
  pub under_way : IsUnderWay new job
  pub wants : next_at new.stage ≡ ahead_of n
