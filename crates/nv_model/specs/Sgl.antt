-- The reading of a scatter gather list: Base Specification 2.0, "Scatter Gather List (SGL)". Descriptors are read in order; a Segment or Last
-- Segment is last in its array, and the list goes on with the array that it names. The order of the checks, the alignment of 8 and the limit on
-- descriptors are the project's own (profile).
use Rattle.std.specs.Prelude.{ℕ, zero, suc, ◌+◌, ◌*◌, ◌/◌, ◌%◌, Bool, true, false, not, ◌&&◌}
use Rattle.std.specs.Prelude.{◌||◌, ◌==◌, if◌then◌else◌, List, [], ◌∷◌, ◌++◌, Option, Some, None}
use Rattle.nv_entry.specs.Descriptor.{address_of, length_of, kind_of}
use Rattle.nv_entry.specs.declared.descriptor_type.DescriptorType.{DescriptorType}
use Rattle.nv_entry.specs.declared.descriptor_type.DescriptorType.TheVariants.{DataBlock, BitBucket, Segment, LastSegment}
use Rattle.nv_entry.specs.declared.status_code.StatusCode.{StatusCode}
use Rattle.nv_entry.specs.declared.status_code.StatusCode.TheVariants.{DataTransferError, InvalidSglCount, InvalidSglSegment, SglTypeInvalid}
use Rattle.nv_mem.specs.GuestMap.{everywhere}
use Rattle.nv_mem.specs.declared.piece.Piece.{Piece}
use Rattle.nv_mem.specs.declared.piece.Piece.TheVariants.{Bucket}
use Rattle.nv_model.specs.Dialogue.{Dialogue, End, Ask}
use Rattle.nv_model.specs.Reading.{Reading, TooLong, Spells, first_failing, unless_faulty, run}

-- what is left of an array of descriptors: where the next one is, how many there are, and whether a Last Segment named the array
pub record Array : Type 0 where
  pub from : ℕ
  pub left : ℕ
  pub by_last : Bool

-- after the command's own descriptor: it is the first of the list and last in an array of one
abbrev pub behind_own : Array
behind_own = record { from = 0; left = 0; by_last = false }

-- the fault of a Segment or Last Segment, where `rest` is after it
abbrev pub segment_fault : (ℕ → Bool) → Array → List ℕ → Option StatusCode
segment_fault mapped rest d =
    first_failing (
    (rest.by_last, InvalidSglSegment)
    ∷ (not (rest.left == 0), InvalidSglCount)
    ∷ (length_of d == 0 || not (length_of d % 16 == 0), InvalidSglSegment)
    ∷ (not (address_of d % 8 == 0), InvalidSglSegment)
    ∷ (not (everywhere mapped (address_of d) (length_of d)), DataTransferError) ∷ []
    )

-- the first check that a descriptor of this kind fails; a Data Block of length 0 moves nothing, and its address isn't checked
abbrev pub fault_by : Option DescriptorType → (ℕ → Bool) → Array → List ℕ → Option StatusCode
fault_by None mapped rest d = Some SglTypeInvalid
fault_by (Some DataBlock) mapped rest d = first_failing ((not (everywhere mapped (address_of d) (length_of d)), DataTransferError) ∷ [])
fault_by (Some BitBucket) mapped rest d = None
fault_by (Some _) mapped rest d = segment_fault mapped rest d

-- what is read after a descriptor of this kind
abbrev pub array_by : Option DescriptorType → Array → List ℕ → Array
array_by (Some Segment) rest d = record { from = address_of d; left = length_of d / 16; by_last = false }
array_by (Some LastSegment) rest d = record { from = address_of d; left = length_of d / 16; by_last = true }
array_by _ rest d = rest

-- the pieces that a descriptor of this kind names: a bucket discards bytes of a destination, and is nothing for a source
abbrev pub pieces_by : Option DescriptorType → Bool → List ℕ → List Piece
pieces_by (Some DataBlock) dest d = run (address_of d) (length_of d)
pieces_by (Some BitBucket) dest d = if dest && not (length_of d == 0) then Bucket (length_of d) ∷ [] else []
pieces_by _ dest d = []

-- a descriptor with `rest` after it, and then what follows
abbrev pub read_descriptor : (ℕ → Bool) → Bool → Array → List Piece → (Array → List Piece → Dialogue Reading) → List ℕ → Dialogue Reading
read_descriptor mapped dest rest pieces follow d =
    unless_faulty (fault_by (kind_of d) mapped rest d) (follow (array_by (kind_of d) rest d) (pieces ++ pieces_by (kind_of d) dest d))

-- an array and those that it leads to, of which `budget` more descriptors may be read
unfoldable pub read_array : (ℕ → Bool) → Bool → (budget left from : ℕ) → Bool → List Piece → Dialogue Reading
read_array mapped dest budget zero from by_last pieces = End (Spells pieces)
read_array mapped dest zero (suc left) from by_last pieces = End TooLong
read_array mapped dest (suc budget) (suc left) from by_last pieces =
    Ask from 16 (16 * suc left) (λ d.
    read_descriptor mapped dest (record { from = from + 16; left = left; by_last = by_last }) pieces
    (λ a ps. read_array mapped dest budget a.left a.from a.by_last ps) d)

-- the list of a command's own descriptor, of which at most `limit` descriptors are read, the own one among them
unfoldable pub read_sgl : (ℕ → Bool) → Bool → ℕ → List ℕ → Dialogue Reading
read_sgl mapped dest zero own = End TooLong
read_sgl mapped dest (suc budget) own =
    read_descriptor mapped dest behind_own []
    (λ a ps. read_array mapped dest budget a.left a.from a.by_last ps) own
