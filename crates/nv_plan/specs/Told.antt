-- Words of private functions: portions and a namespace as they are kept, and what portions are cut out of.
use Rattle.std.specs.Prelude.{ℕ, ◌+◌, ◌*◌, ◌^◌, ◌<◌, List, [], ◌∷◌, filter, length, map, replicate}
use Rattle.std.specs.Bool.{⊤}
use Rattle.nv_mem.specs.declared.piece.Piece.{Piece}
use Rattle.nv_mem.specs.declared.piece.Piece.TheVariants as piece
use Rattle.nv_model.specs.Limits.{block}
use Rattle.nv_ns.specs.Extents.{Cut, Namespace, Placed}
use Rattle.nv_plan.specs.Outline.{Portion}
use Rattle.nv_plan.specs.Parts.{has_bytes}
use Rattle.nv_plan.specs.Runs.{AreEnds, runs}
use Rattle.nv_plan.specs.declared.kept_ns.Extents.{Extents}
use Rattle.nv_plan.specs.declared.kept_ns.Extents.TheVariants as extents
use Rattle.nv_plan.specs.declared.portions.Kept.{Kept}
use Rattle.nv_plan.specs.declared.portions.Kept.TheVariants as kept
use Rattle.nv_plan.specs.declared.ranges.Standing.{Standing}
use Rattle.nv_world_model.specs.Area.{translated_range}
use Rattle.nv_world_model.specs.Share.{cut_pieces, ranges_met}

-- a portion of these places, and one of these ranges
abbrev pub of_places : List Piece → Portion
of_places places = record { places = places; ranges = [] }

abbrev pub of_ranges : (ranges : List (List ℕ)) → Portion
of_ranges ranges = record { places = []; ranges = ranges }

abbrev pub portions_of : Kept → List Portion
portions_of (kept.Bare count) = replicate count (of_places [])
portions_of (kept.Whole places) = of_places places ∷ []
portions_of (kept.Listed ranges) = of_ranges ranges.items ∷ []
portions_of (kept.Placed cut) = map of_places (runs cut.value.places 0 cut.value.ends)
portions_of (kept.Ranged cut) = map of_ranges (runs cut.value.ranges.items 0 cut.value.ends)

-- a list that several portions have parts of is cut where they end
abbrev pub IsKept : Kept → Type 0
IsKept (kept.Bare count) = ⊤
IsKept (kept.Whole places) = ⊤
IsKept (kept.Listed ranges) = ⊤
IsKept (kept.Placed cut) = AreEnds 0 cut.value.ends (length cut.value.places)
IsKept (kept.Ranged cut) = AreEnds 0 cut.value.ends (length cut.value.ranges.items)

-- the namespace that extents are as a plan keeps them
abbrev pub namespace_of : Extents → Namespace
namespace_of (extents.One extent) = extent ∷ []
namespace_of (extents.Several ns) = ns.value

-- `len` bytes of a buffer after its first `skip`, in pieces that have bytes
abbrev pub cut_places : (skip len : ℕ) → List Piece → List Piece
cut_places skip len pieces = filter has_bytes (cut_pieces skip len pieces)

-- the addresses of a run fit in 64 bits
abbrev pub IsAddressed : Piece → Type 0
IsAddressed (piece.Run addr len) = (i : ℕ) → i < len → addr + i < 2 ^ 64
IsAddressed (piece.Bucket len) = ⊤

-- what a cut of a transfer's blocks has of its places
abbrev pub portion_cut : List Piece → Cut → Portion
portion_cut pieces cut = record { places = cut_places (block * cut.first) (block * cut.count) pieces; ranges = [] }

-- what an extent has of these ranges
abbrev pub portion_met : Namespace → (ranges : List (List ℕ)) → (number : ℕ) → Placed → Portion
portion_met ns ranges number at = record { places = []; ranges = map (translated_range ns) (ranges_met number at ranges) }

-- an extent as it is in its namespace
abbrev pub standing : Standing → Placed
standing s = record { before = s.before; extent = s.extent }
