-- The descriptors that were read of a list, one list of them for each array, the newest array first. A descriptor is its 16 bytes.
-- Which kinds of descriptor name an array, and which name bytes: Base Specification 2.0, "Scatter Gather List (SGL)" (Segment, Last
-- Segment; Data Block, Bit Bucket). That what was read is kept, array by array, is the project's own (profile).
use Rattle.std.specs.Prelude.{ℕ, ◌-◌, Bool, true, false, List, [], ◌∷◌, ◌++◌, length, slice_get, Option, Some, None, flat_map}
use Rattle.std.specs.Option.{option_map_or}
use Rattle.nv_entry.specs.Descriptor.{kind_of}
use Rattle.nv_entry.specs.declared.descriptor_type.DescriptorType.{DescriptorType}
use Rattle.nv_entry.specs.declared.descriptor_type.DescriptorType.TheVariants.{DataBlock, BitBucket, Segment, LastSegment}
use Rattle.nv_mem.specs.declared.piece.Piece.{Piece}
use Rattle.nv_model.specs.Sgl.{pieces_by}

-- the newest array
abbrev pub newest : List (List (List ℕ)) → List (List ℕ)
newest [] = []
newest (array ∷ older) = array

-- the arrays before it, the newest of these first
abbrev pub older_of : List (List (List ℕ)) → List (List (List ℕ))
older_of [] = []
older_of (array ∷ older) = older

-- whether a descriptor of this kind names an array, with which the list goes on
abbrev pub names_array : Option DescriptorType → Bool
names_array (Some Segment) = true
names_array (Some LastSegment) = true
names_array (Some DataBlock) = false
names_array (Some BitBucket) = false
names_array None = false

-- whether what is read next begins an array: the last descriptor of the newest one names it
abbrev pub begins_array : List (List (List ℕ)) → Bool
begins_array chain =
    option_map_or (λ d. names_array (kind_of d)) (slice_get (newest chain) (length (newest chain) - 1)) false

-- the chain with more descriptors of one array: the array's first ones come in front, the later ones come after those
abbrev pub grown_by : Bool → List (List (List ℕ)) → List (List ℕ) → List (List (List ℕ))
grown_by true chain descriptors = descriptors ∷ chain
grown_by false chain descriptors = (newest chain ++ descriptors) ∷ older_of chain

-- the chain with the descriptors that were read next
abbrev pub grown : List (List (List ℕ)) → List (List ℕ) → List (List (List ℕ))
grown chain descriptors = grown_by (begins_array chain) chain descriptors

-- the pieces that descriptors name, in order
unfoldable pub pieces_of : Bool → List (List ℕ) → List Piece
pieces_of dest descriptors = flat_map (λ d. pieces_by (kind_of d) dest d) descriptors

-- the pieces that a chain names, in the order in which it was read
unfoldable pub pieces_in : Bool → List (List (List ℕ)) → List Piece
pieces_in dest [] = []
pieces_in dest (array ∷ older) = pieces_in dest older ++ pieces_of dest array
