-- Events that the examples of broken discipline and of wrong worlds are made of
use Rattle.std.specs.Prelude.{ℕ, List, [], ◌∷◌, ◌++◌}
use Rattle.nv_model.specs.declared.act.Act.TheVariants as act
use Rattle.nv_world_model.specs.declared.event.Event.{Event}
use Rattle.nv_world_model.specs.declared.event.Event.TheVariants as event
use Rattle.nv_examples.specs.Guests.{create_completion_queue, create_submission_queue, own}

-- the first guest brings its controller up, with a completion queue of so many slots and a submission queue of four
abbrev pub up_with : (slots : ℕ) → List Event
up_with slots =
    own (act.Store 0x0000 (create_completion_queue slots)) ∷ own (act.Store 0x0040 (create_submission_queue 4))
    ∷ own (act.RegWrite 0x24 0x00070007) ∷ own (act.RegWrite 0x30 0x1000) ∷ own (act.RegWrite 0x14 0x00460001)
    ∷ own (act.Doorbell 0x1000 2) ∷ event.Admin 0 ∷ event.Admin 0 ∷ []

abbrev pub up : List Event
up = up_with 4

-- it stores bytes, or loads some; commands are stored from 3000h on, and the doorbell is written for so many of them
abbrev pub stores : (addr : ℕ) → List ℕ → Event
stores addr bytes = own (act.Store addr bytes)

abbrev pub loads : (addr len : ℕ) → Event
loads addr len = own (act.Load addr len)

abbrev pub rings : (tail : ℕ) → Event
rings tail = own (act.Doorbell 0x1008 tail)

-- the next command is taken, which gets this tag, and is handed on; one with 16 bytes of a list at 3800h, too
abbrev pub begins : (tag : ℕ) → List Event
begins tag = event.Take 0 1 0 ∷ event.Submit 0 tag ∷ event.DevTake 0 ∷ []

abbrev pub begins_with_list : (tag : ℕ) → List Event
begins_with_list tag = event.Take 0 1 0 ∷ event.List 0 tag 0x3800 16 ∷ event.Submit 0 tag ∷ event.DevTake 0 ∷ []

-- a unit of it moves
abbrev pub moves : (tag unit : ℕ) → Event
moves tag unit = event.DevMove 0 tag unit

-- it is completed
abbrev pub ends : (tag : ℕ) → List Event
ends tag = event.DevPost 0 tag ∷ event.Reap 0 ∷ event.Post 0 tag ∷ []

-- it is the first, and of one unit
abbrev pub whole : List Event
whole = begins 0 ++ moves 0 0 ∷ ends 0
