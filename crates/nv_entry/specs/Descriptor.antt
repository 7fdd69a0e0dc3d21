-- An SGL descriptor, 16 bytes: Base Specification 2.0, "Scatter Gather List (SGL)"
use Rattle.std.specs.Prelude.{ℕ, ◌==◌, List, if◌then◌else◌, Option, Some, None}
use Rattle.nv_entry.specs.Layout.{dword, qword, bits}
use Rattle.nv_entry.specs.declared.descriptor_type.DescriptorType.{DescriptorType}
use Rattle.nv_entry.specs.declared.descriptor_type.DescriptorType.TheVariants.{DataBlock, BitBucket, Segment, LastSegment}

-- the address: bytes 7:0
abbrev pub address_of : List ℕ → ℕ
address_of descriptor = qword descriptor 0

-- the length in bytes: bytes 11:8
abbrev pub length_of : List ℕ → ℕ
length_of descriptor = dword descriptor 2

-- the descriptor type: bits 7:4 of byte 15
abbrev pub type_of : List ℕ → ℕ
type_of descriptor = bits (dword descriptor 3) 31 28

-- the descriptor subtype: bits 3:0 of byte 15
abbrev pub subtype_of : List ℕ → ℕ
subtype_of descriptor = bits (dword descriptor 3) 27 24

-- the descriptor types that the mediator knows; the others, keyed and transport ones among them, are none (profile)
abbrev pub descriptor_type : ℕ → Option DescriptorType
descriptor_type code =
    if code == 0x0 then Some DataBlock else
    if code == 0x1 then Some BitBucket else
    if code == 0x2 then Some Segment else
    if code == 0x3 then Some LastSegment else None

-- the code of a descriptor type
abbrev pub type_code : DescriptorType → ℕ
type_code DataBlock = 0x0
type_code BitBucket = 0x1
type_code Segment = 0x2
type_code LastSegment = 0x3

-- what a descriptor is, where its subtype is Address (0h)
abbrev pub kind_of : List ℕ → Option DescriptorType
kind_of descriptor = if subtype_of descriptor == 0 then descriptor_type (type_of descriptor) else None
