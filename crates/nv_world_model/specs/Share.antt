-- What each of the physical commands of a guest's command does where the guest's namespace has several extents: its share of the plan
-- (profile). With one extent the share is the plan.
use Rattle.std.specs.Prelude.{ℕ, ◌+◌, ◌-◌, ◌*◌, ◌==◌, min, if◌then◌else◌, List, [], ◌∷◌, ◌++◌, map, length, slice_get, Option, Some, None}
use Rattle.std.specs.List.{enumerate_from, filter_map, range_with_len}
use Rattle.std.specs.Option.{option_map}
use Rattle.nv_entry.specs.Layout.{number_bytes}
use Rattle.nv_entry.specs.Range.{attributes_of, blocks_of, start_of}
use Rattle.nv_entry.specs.Opcode.{io_opcode}
use Rattle.nv_entry.specs.Submission.{opcode_of, slba_of}
use Rattle.nv_entry.specs.declared.opcode.IoOpcode.{IoOpcode}
use Rattle.nv_entry.specs.declared.status_code.StatusCode.{StatusCode}
use Rattle.nv_mem.specs.Places.{piece_len}
use Rattle.nv_mem.specs.declared.piece.Piece.{Piece}
use Rattle.nv_mem.specs.declared.piece.Piece.TheVariants as piece
use Rattle.nv_ns.specs.Extents.{Cut, Namespace, Placed, blocks_in, common, cuts, if_any, placed}
use Rattle.nv_model.specs.Judge.{Form, Keep, Manage, MoveBlock, Work, WorkUnit, count_of}
use Rattle.nv_model.specs.Judge.{field_refusal, form_of}
use Rattle.nv_model.specs.Limits.{block, range_size}
use Rattle.nv_model.specs.Private.{numbers_of}
use Rattle.nv_world_model.specs.Plan.{Answer, Bounced, Direct, NoData, Plan}

-- the command's plan, as it was decided; this physical command's own, of the same kind and of a work that is cut out of the whole; and of
-- each of that work's units its number in the whole
pub record Share : Type 0 where
  pub whole : Plan
  pub plan : Plan
  pub numbers : List ℕ

-- ---- what is cut out of a work

-- a piece of a buffer without its first `skip` bytes, and of at most `len`
abbrev pub cut_piece : (skip len : ℕ) → Piece → Piece
cut_piece skip len (piece.Run addr bytes) = piece.Run (addr + skip) (min len (bytes - skip))
cut_piece skip len (piece.Bucket bytes) = piece.Bucket (min len (bytes - skip))

-- `len` bytes of a buffer after its first `skip`; a piece with none of them is empty
abbrev pub cut_pieces : (skip len : ℕ) → List Piece → List Piece
cut_pieces skip len [] = []
cut_pieces skip len (first ∷ rest) =
    cut_piece skip len first ∷ cut_pieces (skip - piece_len first) (len - (piece_len first - skip)) rest

-- a unit of a transfer without its first blocks: its block lies so many nearer to the front of the buffer
abbrev pub unit_behind : (first : ℕ) → WorkUnit → WorkUnit
unit_behind first (MoveBlock index lba) = MoveBlock (index - first) lba
unit_behind first unit = unit

-- the units of these numbers, of which the first blocks are cut off
abbrev pub units_at : (first : ℕ) → List WorkUnit → (numbers : List ℕ) → List WorkUnit
units_at first units numbers = filter_map (λ number. option_map (unit_behind first) (slice_get units number)) numbers

-- ---- ranges of Dataset Management

-- the part of a range that a cut is: itself where that is all of it
abbrev pub cut_range : (range : List ℕ) → Cut → List ℕ
cut_range range cut =
    if cut.count == blocks_of range then range
    else number_bytes 4 (attributes_of range) ++ number_bytes 4 cut.count ++ number_bytes 8 (start_of range + cut.first)

-- what an extent of this number has of a range: one of no blocks is the first extent's
abbrev pub range_in : (number : ℕ) → Placed → (range : List ℕ) → Option (List ℕ)
range_in number at range =
    if blocks_of range == 0 then (if number == 0 then Some range else None)
    else option_map (cut_range range) (if_any (common at (start_of range) (blocks_of range)))

-- and of each range, in their order
abbrev pub ranges_met : (number : ℕ) → Placed → (ranges : List (List ℕ)) → List (List ℕ)
ranges_met number at ranges = filter_map (range_in number at) ranges

-- the numbers of the units that those are, where the units of the first range are numbered from `from` on
abbrev pub numbers_met : (from : ℕ) → Placed → (ranges : List (List ℕ)) → List ℕ
numbers_met from at [] = []
numbers_met from at (range ∷ rest) =
    (let cut = common at (start_of range) (blocks_of range) in range_with_len (from + cut.first) cut.count)
    ++ numbers_met (from + blocks_of range) at rest

-- ---- shares

-- a plan of the same kind
abbrev pub with_work : Plan → Work → Plan
with_work (Answer st) work = Answer st
with_work (NoData whole) work = NoData work
with_work (Direct whole) work = Direct work
with_work (Bounced whole) work = Bounced work

-- the share of a run of blocks: its bytes of the buffer, and its units
abbrev pub block_share : Plan → Work → Cut → Share
block_share plan work cut =
    (let numbers = range_with_len cut.first cut.count in
    record {
      whole = plan;
      plan =
          with_work plan
          (record work {
            pieces = cut_pieces (block * cut.first) (block * cut.count) work.pieces;
            units = units_at cut.first work.units numbers;
          });
      numbers = numbers;
    })

-- the share of an extent: its parts of the ranges, as many bytes as these take up, and the units that they are
abbrev pub range_share : Plan → Work → (number : ℕ) → Placed → Share
range_share plan work number at =
    (let ranges = ranges_met number at work.ranges in
    let numbers = numbers_met 0 at work.ranges in
    record {
      whole = plan;
      plan =
          with_work plan
          (record work {
            pieces = cut_pieces 0 (range_size * length ranges) work.pieces;
            ranges = ranges;
            units = units_at 0 work.units numbers;
          });
      numbers = numbers;
    })

-- the whole as one share
abbrev pub whole_share : Plan → Work → Share
whole_share plan work = record { whole = plan; plan = plan; numbers = numbers_of work }

-- the shares of a command of that form: a run of blocks has one for each extent that it meets, Dataset Management one for each extent
-- there is, and a command that keeps all blocks has one
abbrev pub shares_by : Form → Namespace → (entry : List ℕ) → Plan → Work → List Share
shares_by Manage ns entry plan work = map (λ p. range_share plan work p.0 p.1) (enumerate_from 0 (placed 0 ns))
shares_by Keep ns entry plan work = whole_share plan work ∷ []
shares_by _ ns entry plan work = map (block_share plan work) (cuts ns (slba_of entry) (count_of entry))

-- the shares of a plan of that entry, in order; what is answered at once has none
abbrev pub shares_of : Namespace → (entry : List ℕ) → Plan → List Share
shares_of ns entry (Answer st) = []
shares_of ns entry (NoData work) = shares_by (form_of work.opcode) ns entry (NoData work) work
shares_of ns entry (Direct work) = shares_by (form_of work.opcode) ns entry (Direct work) work
shares_of ns entry (Bounced work) = shares_by (form_of work.opcode) ns entry (Bounced work) work

-- ---- tags

-- how many physical commands a command of that form is, which has as many shares
abbrev pub form_tags : Form → Namespace → (entry : List ℕ) → ℕ
form_tags Manage ns entry = length ns
form_tags Keep ns entry = 1
form_tags _ ns entry = length (cuts ns (slba_of entry) (count_of entry))

-- the same by what the fields say: one where they refuse the command, or its opcode is none of the six
abbrev pub tags_by : Option StatusCode → Option IoOpcode → Namespace → (entry : List ℕ) → ℕ
tags_by (Some code) opcode ns entry = 1
tags_by None None ns entry = 1
tags_by None (Some opcode) ns entry = form_tags (form_of opcode) ns entry

-- how many tags a command takes, before any list of it is read
abbrev pub tags_of_entry : Namespace → (entry : List ℕ) → ℕ
tags_of_entry ns entry = tags_by (field_refusal (blocks_in ns) entry) (io_opcode (opcode_of entry)) ns entry
