-- What each physical command of a plan transfers, where in the guest's memory, and its ranges (profile).
use Rattle.std.specs.Prelude.{ℕ, ◌<◌, Bool, nat_lt, List, [], filter, map}
use Rattle.nv_mem.specs.Places.{piece_len, total_len}
use Rattle.nv_mem.specs.declared.piece.Piece.{Piece}
use Rattle.nv_model.specs.Judge.{Clear, Form, Keep, Manage, Transfer, Work, form_of}
use Rattle.nv_ns.specs.Extents.{Namespace}
use Rattle.nv_world_model.specs.Area.{translated_range}
use Rattle.nv_world_model.specs.Plan.{Answer, Bounced, Direct, NoData, Plan}

-- whether a piece names a byte
abbrev pub has_bytes : Piece → Bool
has_bytes p = nat_lt 0 (piece_len p)

abbrev pub HasBytes : Piece → Type 0
HasBytes p = 0 < piece_len p

-- where the bytes of a transfer of blocks lie, in pieces that have bytes; those of a Dataset Management are its ranges
abbrev pub form_places : Form → Work → List Piece
form_places (Transfer dest) work = filter has_bytes work.pieces
form_places Clear work = []
form_places Manage work = []
form_places Keep work = []

abbrev pub places_in : Plan → List Piece
places_in (Answer st) = []
places_in (NoData work) = []
places_in (Direct work) = form_places (form_of work.opcode) work
places_in (Bounced work) = form_places (form_of work.opcode) work

-- the ranges of a Dataset Management as the disk has them
abbrev pub form_ranges : Form → Namespace → Work → List (List ℕ)
form_ranges (Transfer dest) ns work = []
form_ranges Clear ns work = []
form_ranges Manage ns work = map (translated_range ns) work.ranges
form_ranges Keep ns work = []

abbrev pub ranges_of : Namespace → Plan → List (List ℕ)
ranges_of ns (Answer st) = []
ranges_of ns (NoData work) = []
ranges_of ns (Direct work) = []
ranges_of ns (Bounced work) = form_ranges (form_of work.opcode) ns work

-- how many bytes are transferred
abbrev pub len_in : Plan → ℕ
len_in (Answer st) = 0
len_in (NoData work) = 0
len_in (Direct work) = total_len work.pieces
len_in (Bounced work) = total_len work.pieces
