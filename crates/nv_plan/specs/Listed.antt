-- Words of private functions: the list of a command.
use Rattle.std.specs.Prelude.{ℕ, List}
use Rattle.nv_entry.specs.declared.data_pointer.DataPointer.{DataPointer}
use Rattle.nv_judge.specs.declared.need.Need.{Need}
use Rattle.nv_mem.specs.declared.region.Region.{Region}
use Rattle.nv_mem.specs.GuestMap.{mapped}
use Rattle.nv_model.specs.Dialogue.{Dialogue, End, and_then}
use Rattle.nv_model.specs.Judge.{read_by, sized}
use Rattle.nv_model.specs.Reading.{Reading}

-- the list of a command whose data pointer holds this, for the transfer that the command needs
abbrev pub list_of : DataPointer → List Region → (limit : ℕ) → Need → List ℕ → Dialogue Reading
list_of pointer regions limit need entry =
    and_then (read_by pointer (mapped regions) limit need.dest need.bytes entry) (λ reading. End (sized need.bytes reading))
