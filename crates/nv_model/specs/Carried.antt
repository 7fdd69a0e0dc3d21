-- What units do one after another, in order
use Rattle.std.specs.Prelude.{Bool, ◌||◌, List, [], ◌∷◌}
use Rattle.nv_entry.specs.declared.opcode.IoOpcode.{IoOpcode}
use Rattle.nv_mem.specs.declared.piece.Piece.{Piece}
use Rattle.nv_model.specs.Judge.{WorkUnit, Work}
use Rattle.nv_model.specs.Private.{Moved, unit_moved}

-- one more unit; a Compare has differed once one of its units has
abbrev pub moved_on : WorkUnit → Work → Moved → Moved
moved_on unit work m =
    (let n = unit_moved unit work m.memory m.disk m.kept in
    record { memory = n.memory; disk = n.disk; kept = n.kept; differed = m.differed || n.differed })

-- memory, disk and marks after the units in order, and whether a Compare has differed
unfoldable pub units_moved : List WorkUnit → Work → Moved → Moved
units_moved [] work m = m
units_moved (unit ∷ units) work m = units_moved units work (moved_on unit work m)

-- what a unit that moves a block needs of a work
abbrev pub block_work : IoOpcode → List Piece → (fua : Bool) → Work
block_work opcode pieces fua = record { opcode = opcode; pieces = pieces; ranges = []; units = []; fua = fua }
