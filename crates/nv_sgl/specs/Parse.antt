-- What a parse of a list means: the dialogue that it still has to go through. The reading of the list is in nv_model: Base Specification 2.0,
-- "Scatter Gather List (SGL)"; a list whose bytes are not those of the transfer: "Status Field Definition" (Data SGL Length Invalid).
use Rattle.std.specs.Prelude.{ℕ, Bool, List, Option}
use Rattle.nv_entry.specs.declared.status_code.StatusCode.{StatusCode}
use Rattle.nv_mem.specs.declared.piece.Piece.{Piece}
use Rattle.nv_mem.specs.declared.region.Region.{Region}
use Rattle.nv_mem.specs.GuestMap.{mapped}
use Rattle.nv_model.specs.Dialogue.{Dialogue, End, and_then}
use Rattle.nv_model.specs.Judge.{sized}
use Rattle.nv_model.specs.Reading.{Reading, unless_faulty}
use Rattle.nv_model.specs.Sgl.{Array, read_array}
use Rattle.nv_sgl.specs.Chain.{pieces_in}

-- a parse: the guest's regions, whether the buffer is a destination, the bytes that the transfer needs, how many more descriptors
-- may be read, what is left of the array that is read, the fault of the last descriptor if it has one, and the descriptors read
pub record Parse : Type 0 where
  pub regions : List Region
  pub dest : Bool
  pub need : ℕ
  pub budget : ℕ
  pub ahead : Array
  pub fault : Option StatusCode
  pub chain : List (List (List ℕ))

-- what is still read of the list
unfoldable pub list_ahead : Parse → Dialogue Reading
list_ahead p =
    unless_faulty p.fault (read_array (mapped p.regions) p.dest p.budget p.ahead.left p.ahead.from p.ahead.by_last (pieces_in p.dest p.chain))

-- what is still read, and how it ends
unfoldable pub dialogue_of : Parse → Dialogue Reading
dialogue_of p = and_then (list_ahead p) (λ reading. End (sized p.need reading))

-- a parse that keeps the pieces alone that its descriptors name: the rest is as of a parse
pub record Naming : Type 0 where
  pub regions : List Region
  pub dest : Bool
  pub need : ℕ
  pub budget : ℕ
  pub ahead : Array
  pub fault : Option StatusCode
  pub pieces : List Piece

-- what it has still to read, and how that ends
unfoldable pub reading_of : Naming → Dialogue Reading
reading_of n =
    and_then (unless_faulty n.fault (read_array (mapped n.regions) n.dest n.budget n.ahead.left n.ahead.from n.ahead.by_last n.pieces)) (λ reading. End (sized n.need reading))
