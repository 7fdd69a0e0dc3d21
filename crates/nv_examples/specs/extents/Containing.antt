-- Events of the first guest, and steps that are wrong in one thing alone, of blocks that are not in its first extent
use Rattle.std.specs.Prelude.{ℕ, ◌==◌, true, if◌then◌else◌, [], ◌∷◌, replicate, Some, None}
use Rattle.nv_model.specs.Controller.{Controller, opening}
use Rattle.nv_model.specs.Memory.{stored}
use Rattle.nv_model.specs.Queue.{new_completion, new_submission}
use Rattle.nv_model.specs.declared.act.Act.TheVariants as act
use Rattle.nv_model.specs.declared.reply.Reply.TheVariants as reply
use Rattle.nv_world_model.specs.declared.event.Event.TheVariants as event
use Rattle.nv_world_model.specs.Contained.{IsContained}
use Rattle.nv_world_model.specs.Rows.{numbered}
use Rattle.nv_world_model.specs.RowsExtents.{others}
use Rattle.nv_world_model.specs.Step.{After, replay, replied}
use Rattle.nv_world_model.specs.World.{Free, World, with_host}
use Rattle.nv_examples.specs.Guests.{own}
use Rattle.nv_examples.specs.extents.Guests.{opened, set_up, write_zeroes_over}

-- ---- steps that are wrong

-- each block of the disk holds its number, and is kept
abbrev pub full : World
full = record opened { disk = numbered; kept = (λ _. true) }

-- a step that changes this where that block of the disk isn't zeros
abbrev pub follows : (at : ℕ) → (World → World) → World → After
follows at change w = replied reply.Done (if w.disk at 0 == 0 then w else change w)

-- a byte of the first guest's memory changes
abbrev pub own_byte : World → World
own_byte w = with_host (stored w.host 0x13fff (9 ∷ [])) w

-- it is contained as a step of the first guest's from the full disk
abbrev pub IsFirstGuests : (World → After) → Type 0
IsFirstGuests done = IsContained done set_up (own (act.Store 0x3000 (7 ∷ []))) full

-- ---- a unit of a part

-- the first guest's controller: its queue pair 1 has two slots each, at 3000h and 2000h, and the doorbell is written for one submission
abbrev pub one_rung : Controller
one_rung =
    record opening {
      cc = 0x00460001;
      ready = true;
      submission = None ∷ Some (record (new_submission 0x3000 2 1) { tail = 1 }) ∷ replicate 7 None;
      completion_queues = None ∷ Some (new_completion 0x2000 2 None) ∷ replicate 7 None;
    }

-- a world of one lane of three tags, of which the neighbour has the last, where the first guest has written the doorbell for a Write Zeroes of its
-- blocks 1 to 3
abbrev pub rung : World
rung =
    record full {
      host = stored (λ _. 0) 0x13000 (write_zeroes_over 5);
      device = record { head = 0; tail = 0; posted = 0; phase = true; held = None ∷ None ∷ None ∷ [] } ∷ [];
      lanes = record { head = 0; phase = true; tags = Free ∷ Free ∷ others 2 ∷ [] } ∷ [];
      controllers = one_rung ∷ opening ∷ [];
    }

-- both its parts are in the device: block 3 of the disk in tag 0, and blocks 9 and 10 in tag 1
abbrev pub both_held : World
both_held = replay set_up (event.Take 0 1 0 ∷ event.Submit 0 0 ∷ event.DevTake 0 ∷ event.DevTake 0 ∷ []) rung
