-- A worked example: a failure whose status no completion holds (profile).
use Rattle.std.specs.Prelude.{◌∷◌, [], false}
use Rattle.nv_entry.specs.Status.{StatusField}
use Rattle.nv_model.specs.Memory.{stored}
use Rattle.nv_model.specs.Rows.{by_sgl, data_block}
use Rattle.nv_world_model.specs.Area.{bounce_page}
use Rattle.nv_world_model.specs.RowsExtents.{behind, in_device, one_command, set_up}
use Rattle.nv_world_model.specs.World.{World, with_host}

-- a status of type 8, where a completion has three bits for the type
abbrev pub type_eight : StatusField
type_eight = record { sct = 8; sc = 0; dnr = false }

-- a bounced Read is in the device, and in its bounce pages is a byte that an earlier command left there
abbrev pub left_over : World
left_over =
    behind in_device (one_command (by_sgl 0x02 5 0 (data_block 0x3002 512)))
    (λ w. with_host (stored w.host (bounce_page set_up.mediator 0 0) (7 ∷ [])) w)
