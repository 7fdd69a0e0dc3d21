-- A set-up that is refused, since both guests are given the same memory and the same blocks.
use Rattle.std.specs.Prelude.{List, [], ◌∷◌}
use Rattle.nv_model.specs.declared.act.Act.TheVariants as act
use Rattle.nv_model.specs.declared.reply.Reply.TheVariants as reply
use Rattle.nv_world_model.specs.declared.event.Event.TheVariants as event
use Rattle.nv_world_model.specs.declared.logged.Logged.{Logged}
use Rattle.nv_world_model.specs.Log.{events_of}
use Rattle.nv_world_model.specs.Rows.{set_up}
use Rattle.nv_world_model.specs.RowsShown.{first_guest}
use Rattle.nv_world_model.specs.SetUp.{SetUp, world_at_start}
use Rattle.nv_world_model.specs.Step.{replay}
use Rattle.nv_world_model.specs.World.{World}

abbrev pub twice : SetUp
twice = record { host_bytes = 0x1000000; lanes = 1; geometry = record set_up { guests = first_guest ∷ first_guest ∷ [] } }

-- the second guest stores a byte
abbrev pub second_stores : List Logged
second_stores = record { event = event.Guest 1 (act.Store 0x3000 (9 ∷ [])); reply = reply.Done } ∷ []

abbrev pub behind_it : World
behind_it = replay twice.geometry (events_of second_stores) (world_at_start twice)
