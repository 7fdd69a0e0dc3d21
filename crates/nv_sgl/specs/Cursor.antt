-- The position of a parse between two descriptors of an array: Base Specification 2.0, "Scatter Gather List (SGL)" (SGL segments). The limit on the
-- descriptors that may still be read is the project's own (profile).
use Rattle.std.specs.Prelude.{◌≡◌, ℕ, ◌+◌, ◌-◌, ◌*◌, ◌^◌, ◌<◌, ◌≤◌, Bool, ◌&&◌, nat_lt, List, ◌++◌, None, is_none}
use Rattle.nv_entry.specs.Descriptor.{kind_of}
use Rattle.nv_mem.specs.Places.{total_len}
use Rattle.nv_mem.specs.declared.piece.Piece.{Piece}
use Rattle.nv_mem.specs.declared.region.Region.{Region}
use Rattle.nv_model.specs.Dialogue.{Dialogue}
use Rattle.nv_model.specs.Reading.{Reading, unless_faulty}
use Rattle.nv_model.specs.Sgl.{Array, array_by, fault_by, pieces_by, read_array}
use Rattle.nv_sgl.specs.Chain.{grown, pieces_in, pieces_of}
use Rattle.nv_model.specs.Transcript.{fed, units_fed}
use Rattle.nv_sgl.specs.Parse.{Naming, Parse}
use Rattle.nv_sgl.specs.declared.cursor.Cursor.{Cursor}

-- what is left of the array
abbrev pub array_at : Cursor → Array
array_at c = record { from = c.from; left = c.left; by_last = c.by_last }

-- whether the next descriptor is asked for
abbrev pub is_asking : Cursor → Bool
is_asking c = is_none c.fault && nat_lt 0 c.left && nat_lt 0 c.budget

-- what is read from there on, where these pieces come before
unfoldable pub reading_from : (ℕ → Bool) → Bool → Cursor → List Piece → Dialogue Reading
reading_from mapped dest c pieces = unless_faulty c.fault (read_array mapped dest c.budget c.left c.from c.by_last pieces)

-- the array ends at 2 to the 64 at the latest, and the bytes that may still be named have room in the total
pub record IsInRange (c : Cursor) : Type 0 where
  pub array : c.from + 16 * c.left ≤ 2 ^ 64
  pub total : c.total + (2 ^ 32 - 1) * c.budget < 2 ^ 64

-- the cursor `to` is after the descriptor `d`, where `rest` was after it before it was examined
pub record StandsBehind (mapped : ℕ → Bool) (dest : Bool) (rest : Cursor) (d : List ℕ) (to : Cursor) : Type 0 where
  pub fault : to.fault ≡ fault_by (kind_of d) mapped (array_at rest) d
  pub array : to.fault ≡ None → array_at to ≡ array_by (kind_of d) (array_at rest) d
  pub budget : to.budget ≡ rest.budget
  pub total : to.total ≡ rest.total + total_len (pieces_by (kind_of d) dest d)

-- the bytes led from the one cursor to the other, and the descriptors that were taken of them from those to these
pub record ReadsPart (mapped : ℕ → Bool) (dest : Bool) (from : Cursor) (bytes : List ℕ) (those : List (List ℕ)) (to : Cursor) (these : List (List ℕ)) : Type 0 where
  pub dialogue : (before : List Piece) → reading_from mapped dest to (before ++ pieces_of dest these) ≡ fed (reading_from mapped dest from (before ++ pieces_of dest those)) bytes
  pub blocks : (before : List Piece) → these ≡ those ++ units_fed (reading_from mapped dest from (before ++ pieces_of dest those)) bytes
  pub total : to.total + total_len (pieces_of dest those) ≡ from.total + total_len (pieces_of dest these)
  pub in_range : IsInRange to

-- the same for the whole chain
pub record ExtendsChain (mapped : ℕ → Bool) (dest : Bool) (from : Cursor) (bytes : List ℕ) (old : List (List (List ℕ))) (to : Cursor) (new : List (List (List ℕ))) : Type 0 where
  pub dialogue : reading_from mapped dest to (pieces_in dest new) ≡ fed (reading_from mapped dest from (pieces_in dest old)) bytes
  pub chain : new ≡ grown old (units_fed (reading_from mapped dest from (pieces_in dest old)) bytes)
  pub total : to.total + total_len (pieces_in dest old) ≡ from.total + total_len (pieces_in dest new)
  pub in_range : IsInRange to

-- a parse keeps the total of the bytes that its chain names
pub record IsParse (dest : Bool) (c : Cursor) (chain : List (List (List ℕ))) : Type 0 where
  pub in_range : IsInRange c
  pub total : c.total ≡ total_len (pieces_in dest chain)

-- the parse at that position
abbrev pub parse_at : List Region → Bool → ℕ → Cursor → List (List (List ℕ)) → Parse
parse_at regions dest need c chain =
    record { regions = regions; dest = dest; need = need; budget = c.budget; ahead = array_at c; fault = c.fault; chain = chain }

-- the same of a parse that keeps pieces alone
abbrev pub naming_at : List Region → Bool → ℕ → Cursor → List Piece → Naming
naming_at regions dest need c pieces =
    record { regions = regions; dest = dest; need = need; budget = c.budget; ahead = array_at c; fault = c.fault; pieces = pieces }

-- it keeps the total of the bytes that its pieces name
pub record IsNaming (c : Cursor) (pieces : List Piece) : Type 0 where
  pub in_range : IsInRange c
  pub total : c.total ≡ total_len pieces

-- the bytes led from the one cursor to the other, and from those pieces to these
pub record NamesPart (mapped : ℕ → Bool) (dest : Bool) (from : Cursor) (bytes : List ℕ) (those : List Piece) (to : Cursor) (these : List Piece) : Type 0 where
  pub dialogue : reading_from mapped dest to these ≡ fed (reading_from mapped dest from those) bytes
  pub total : to.total + total_len those ≡ from.total + total_len these
  pub in_range : IsInRange to
