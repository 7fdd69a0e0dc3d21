-- The bytes of guest memory that a guest's outstanding commands name. Outstanding are the entries from head to tail of each submission
-- queue that is not being deleted, and the taken I/O commands that are neither completed nor run out.
use Rattle.std.specs.Prelude.{ℕ, ◌+◌, ◌*◌, ◌%◌, Bool, true, false, ◌&&◌, ◌==◌, nat_le, nat_lt}
use Rattle.std.specs.Prelude.{if◌then◌else◌, List, [], ◌∷◌, ◌++◌, length, map, Option, Some, None}
use Rattle.std.specs.List.{flat_map, list_any, range_with_len, enumerate_from}
use Rattle.nv_entry.specs.Submission.{opcode_of, fuse_of, psdt_of}
use Rattle.nv_entry.specs.Opcode.{admin_opcode}
use Rattle.nv_entry.specs.declared.opcode.AdminOpcode.{AdminOpcode}
use Rattle.nv_entry.specs.declared.opcode.AdminOpcode.TheVariants.{Identify}
use Rattle.nv_mem.specs.declared.piece.Piece.{Piece}
use Rattle.nv_mem.specs.declared.piece.Piece.TheVariants.{Run, Bucket}
use Rattle.nv_model.specs.Memory.{bytes_from}
use Rattle.nv_model.specs.Dialogue.{asked}
use Rattle.nv_model.specs.Reading.{Reading, Faulty, TooLong, Spells}
use Rattle.nv_model.specs.Judge.{Verdict, Refuse, Go, is_read, judge}
use Rattle.nv_model.specs.declared.act.Act.{Act}
use Rattle.nv_model.specs.declared.act.Act.TheVariants as act
use Rattle.nv_model.specs.Queue.{SubmissionQueue, CompletionQueue, cqe_size, sqe_size, waiting}
use Rattle.nv_model.specs.Controller.{Controller}
use Rattle.nv_model.specs.Admin.{Shown, Hidden, Structure, identify_reading, shown}
use Rattle.nv_model.specs.Private.{Shape, verdict_in}

-- what the bytes are to the command
pub data Use : Type 0 where
  Entry : Use
  ListBytes : Use
  Source : Use
  Destination : Use

-- bytes that a command names
pub record Named : Type 0 where
  pub use_of : Use
  pub addr : ℕ
  pub len : ℕ

abbrev pub named_as : Use → (addr len : ℕ) → Named
named_as use_of addr len = record { use_of = use_of; addr = addr; len = len }

-- the runs of a buffer
abbrev pub runs_of : Use → Piece → List Named
runs_of use_of (Run addr len) = named_as use_of addr len ∷ []
runs_of use_of (Bucket len) = []

abbrev pub buffer_named : Use → List Piece → List Named
buffer_named use_of pieces = flat_map (runs_of use_of) pieces

-- the source or destination of a command; a refused one has neither
abbrev pub verdict_named : Verdict → List Named
verdict_named (Refuse st) = []
verdict_named (Go work) = buffer_named (if is_read work.opcode then Destination else Source) work.pieces

-- what a taken I/O command of 64 bytes names in this memory: its lists, of which the members up to the first fault, the ranges of
-- Dataset Management where they are checked, and its source or destination
abbrev pub io_named : Shape → (ℕ → ℕ) → List ℕ → List Named
io_named shape memory entry =
    map (λ a. named_as ListBytes a.0 a.1) (asked memory (judge shape.mapped shape.limit shape.blocks entry))
    ++ verdict_named (verdict_in shape memory entry)

-- whether an admin command of this opcode is Identify
abbrev pub is_identify : Option AdminOpcode → Bool
is_identify (Some Identify) = true
is_identify _ = false

abbrev pub identify_named : Shown → Reading → List Named
identify_named (Hidden why) reading = []
identify_named (Structure bytes) (Spells pieces) = buffer_named Destination pieces
identify_named (Structure bytes) (Faulty why) = []
identify_named (Structure bytes) TooLong = []

-- what an admin command names beside its entry: an Identify that is not refused, its destination
abbrev pub admin_named : Shape → List ℕ → List Named
admin_named shape entry =
    if fuse_of entry == 0 && is_identify (admin_opcode (opcode_of entry)) && psdt_of entry == 0
    then identify_named (shown shape.blocks entry) (identify_reading shape.mapped entry) else []

-- what a command of that queue that is not taken names: its entry, at that address, and what the entry says
abbrev pub untaken_named : Shape → (ℕ → ℕ) → (queue addr : ℕ) → List Named
untaken_named shape memory queue addr =
    named_as Entry addr sqe_size
    ∷ (if queue == 0 then admin_named shape (bytes_from memory addr sqe_size) else io_named shape memory (bytes_from memory addr sqe_size))

-- the addresses of the entries from a queue's head to its tail
abbrev pub entries_of : SubmissionQueue → List ℕ
entries_of q = map (λ i. q.base + sqe_size * ((q.head + i) % q.size)) (range_with_len 0 (waiting q))

-- what the untaken commands of a queue name, a list for each command
abbrev pub queue_named : Shape → (ℕ → ℕ) → (queue : ℕ) → Option SubmissionQueue → List (List Named)
queue_named shape memory queue None = []
queue_named shape memory queue (Some q) =
    if q.closing then [] else map (untaken_named shape memory queue) (entries_of q)

-- what the outstanding commands name in this memory, a list for each: those that the controller's queues hold, and then the taken I/O
-- commands, whose entries are these
unfoldable pub footprints : Shape → (ℕ → ℕ) → Controller → (entries : List (List ℕ)) → List (List Named)
footprints shape memory c entries =
    flat_map (λ q. queue_named shape memory q.0 q.1) (enumerate_from 0 c.submission) ++ map (io_named shape memory) entries

-- the slots of the completion queues that are there
abbrev pub slots_named : Option CompletionQueue → List (ℕ × ℕ)
slots_named None = []
slots_named (Some q) = (q.base, cqe_size * q.size) ∷ []

unfoldable pub completion_slots : Controller → List (ℕ × ℕ)
completion_slots c = flat_map slots_named c.completion_queues

-- ---- what meets them

-- whether an address lies in named bytes
abbrev pub names : Named → ℕ → Bool
names n addr = nat_le n.addr addr && nat_lt addr (n.addr + n.len)

-- whether two runs of bytes share one
abbrev pub meet : (addr len other more : ℕ) → Bool
meet addr len other more =
    nat_lt 0 len && nat_lt 0 more && nat_lt addr (other + more) && nat_lt other (addr + len)

abbrev pub meets : (addr len : ℕ) → Named → Bool
meets addr len n = meet addr len n.addr n.len

-- whether they are a destination
abbrev pub is_destination : Named → Bool
is_destination n = use_is_destination n.use_of
  where
    use_is_destination : Use → Bool
    use_is_destination Entry = false
    use_is_destination ListBytes = false
    use_is_destination Source = false
    use_is_destination Destination = true

-- whether an act is a store into bytes that an outstanding command names
unfoldable pub stores_into : List (List Named) → Act → Bool
stores_into commands (act.Store addr bytes) = list_any (λ spans. list_any (meets addr (length bytes)) spans) commands
stores_into commands _ = false

-- whether an act is a load from the destination of one
unfoldable pub loads_from_destination : List (List Named) → Act → Bool
loads_from_destination commands (act.Load addr len) =
    list_any (λ spans. list_any (λ n. is_destination n && meets addr len n) spans) commands
loads_from_destination commands _ = false
