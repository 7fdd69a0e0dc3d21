-- Events that the examples of wrong worlds are made of
use Rattle.std.specs.Prelude.{ℕ, List, [], ◌∷◌, ◌++◌}
use Rattle.nv_model.specs.declared.act.Act.TheVariants as act
use Rattle.nv_world_model.specs.declared.event.Event.{Event}
use Rattle.nv_world_model.specs.declared.event.Event.TheVariants as event
use Rattle.nv_examples.specs.Guests.{create_completion_queue, create_submission_queue, own}

-- a guest brings its controller up, with a completion queue of so many slots and a submission queue of eight
abbrev pub up_with : (guest slots : ℕ) → List Event
up_with guest slots =
    event.Guest guest (act.Store 0x0000 (create_completion_queue slots)) ∷ event.Guest guest (act.Store 0x0040 (create_submission_queue 8))
    ∷ event.Guest guest (act.RegWrite 0x24 0x00070007) ∷ event.Guest guest (act.RegWrite 0x30 0x1000)
    ∷ event.Guest guest (act.RegWrite 0x14 0x00460001) ∷ event.Guest guest (act.Doorbell 0x1000 2) ∷ event.Admin guest ∷ event.Admin guest ∷ []

abbrev pub up : (guest : ℕ) → List Event
up guest = up_with guest 4

-- the first guest stores bytes, or loads some; commands are stored from 3000h on, and the doorbell is written for so many of them
abbrev pub stores : (addr : ℕ) → List ℕ → Event
stores addr bytes = own (act.Store addr bytes)

abbrev pub loads : (addr len : ℕ) → Event
loads addr len = own (act.Load addr len)

abbrev pub rings : (tail : ℕ) → Event
rings tail = own (act.Doorbell 0x1008 tail)

-- a guest's next command of two parts is taken, which gets tags 0 and 1, and the device has both
abbrev pub begins : (guest : ℕ) → List Event
begins guest = event.Take guest 1 0 ∷ event.Submit 0 0 ∷ event.DevTake 0 ∷ event.DevTake 0 ∷ []

-- a unit of a part moves
abbrev pub moves : (tag unit : ℕ) → Event
moves tag unit = event.DevMove 0 tag unit

-- a part is completed by the device
abbrev pub part_ends : (tag : ℕ) → List Event
part_ends tag = event.DevPost 0 tag ∷ event.Reap 0 ∷ []

-- both parts are, and the command is completed for its guest
abbrev pub ends : List Event
ends = part_ends 0 ++ part_ends 1 ++ event.Post 0 0 ∷ []
