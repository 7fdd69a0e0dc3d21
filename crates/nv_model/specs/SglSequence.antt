-- A scatter gather list in a memory as one sequence of descriptors. Base Specification 2.0, "Scatter Gather List
-- (SGL)": the descriptor in the command comes first; the descriptors of a segment follow one another; and where the
-- last of them is a Segment or Last Segment descriptor, those of the segment that it describes come next.
use Rattle.std.specs.Prelude.{◌≡◌, ℕ, zero, suc, ◌+◌, ◌-◌, ◌/◌, Bool, true, false, nat_lt, if◌then◌else◌, List, [], ◌∷◌, Option, Some, None, is_some}
use Rattle.nv_entry.specs.Descriptor.{address_of, length_of, kind_of}
use Rattle.nv_entry.specs.declared.descriptor_type.DescriptorType.{DescriptorType}
use Rattle.nv_entry.specs.declared.descriptor_type.DescriptorType.TheVariants.{DataBlock, BitBucket, Segment, LastSegment}
use Rattle.nv_entry.specs.declared.status_code.StatusCode.{StatusCode}
use Rattle.nv_mem.specs.declared.piece.Piece.{Piece}
use Rattle.nv_model.specs.Memory.{bytes_from}
use Rattle.nv_model.specs.Sgl.{Array, behind_own, fault_by, pieces_by}

-- a descriptor in its place: its 16 bytes, and what is left of its array after it
pub record Member : Type 0 where
  pub descriptor : List ℕ
  pub rest : Array

-- the first check that it fails
abbrev pub fault_of : (ℕ → Bool) → Member → Option StatusCode
fault_of mapped m = fault_by (kind_of m.descriptor) mapped m.rest m.descriptor

-- it fails none
abbrev pub IsFaultless : (ℕ → Bool) → Member → Type 0
IsFaultless mapped m = fault_of mapped m ≡ None

-- the pieces that it names, of a destination or a source
abbrev pub member_pieces : Bool → Member → List Piece
member_pieces dest m = pieces_by (kind_of m.descriptor) dest m.descriptor

-- the one in a memory at an address, with `behind` more of its array
abbrev pub member_at : (ℕ → ℕ) → (addr behind : ℕ) → Bool → Member
member_at memory addr behind by_last =
    record { descriptor = bytes_from memory addr 16; rest = record { from = addr + 16; left = behind; by_last = by_last } }

-- the first of the array that a descriptor of this kind names
abbrev pub named_by : Option DescriptorType → (ℕ → ℕ) → List ℕ → Option Member
named_by (Some Segment) memory d = Some (member_at memory (address_of d) (length_of d / 16 - 1) false)
named_by (Some LastSegment) memory d = Some (member_at memory (address_of d) (length_of d / 16 - 1) true)
named_by (Some DataBlock) memory d = None
named_by (Some BitBucket) memory d = None
named_by None memory d = None

-- the one that follows: the next of its array; and after the last of it, if that has no fault, the first of the array that it names
abbrev pub member_behind : (ℕ → Bool) → (ℕ → ℕ) → Member → Option Member
member_behind mapped memory m =
    if nat_lt 0 m.rest.left then Some (member_at memory m.rest.from (m.rest.left - 1) m.rest.by_last)
    else if is_some (fault_of mapped m) then None
    else named_by (kind_of m.descriptor) memory m.descriptor

-- the first n from one on, if there is one
unfoldable pub members_from : (ℕ → Bool) → (ℕ → ℕ) → ℕ → Option Member → List Member
members_from mapped memory zero m = []
members_from mapped memory (suc n) None = []
members_from mapped memory (suc n) (Some m) = m ∷ members_from mapped memory n (member_behind mapped memory m)

-- the first n of the list of a command's own descriptor
abbrev pub first_members : (ℕ → Bool) → (ℕ → ℕ) → List ℕ → ℕ → List Member
first_members mapped memory own n = members_from mapped memory n (Some (record { descriptor = own; rest = behind_own }))
