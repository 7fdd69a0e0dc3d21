-- Worked examples: the steps of a guest's private controller that events represent, and what a disciplined guest does
use Rattle.std.specs.Prelude.{ℕ, Bool, List, [], ◌∷◌, ◌++◌, map, Option, Some, None}
use Rattle.nv_model.specs.declared.reply.Reply.TheVariants as reply
use Rattle.nv_model.specs.Memory.{bytes_from, stored}
use Rattle.nv_model.specs.Private.{AtWork, Ended, Private, Progress, Run, Step, Taken, Unjudged, run_of}
use Rattle.nv_model.specs.Rows.{by_sgl, data_block, last_segment}
use Rattle.nv_world_model.specs.declared.event.Event.{Event}
use Rattle.nv_world_model.specs.declared.logged.Logged.{Logged}
use Rattle.nv_world_model.specs.Agrees.{is_awaited}
use Rattle.nv_world_model.specs.Disciplined.{is_disciplined}
use Rattle.nv_world_model.specs.Geometry.{shape_of}
use Rattle.nv_world_model.specs.PrivateSteps.{private_steps, steps_of}
use Rattle.nv_world_model.specs.Rows.{behind, controller_with, holding, set_up, world_with}
use Rattle.nv_world_model.specs.RowsShown.{first_guest, second_guest}
use Rattle.nv_world_model.specs.Seat.{Owner, members, owner_of, seat}
use Rattle.nv_world_model.specs.Step.{step}
use Rattle.nv_world_model.specs.World.{World}

-- ---- logs

-- these events with their replies, from that world on
unfoldable pub logged : List Event → World → List Logged
logged [] w = []
logged (e ∷ events) w = (record { event = e; reply = (step set_up e w).reply }) ∷ logged events (step set_up e w).world

-- the steps that these events represent, of the first guest's private controller, and of the second's
abbrev pub first_steps : List Event → World → List Step
first_steps events w = private_steps set_up 0 first_guest (logged events w) w

abbrev pub second_steps : List Event → World → List Step
second_steps events w = private_steps set_up 1 second_guest (logged events w) w

-- those of one event after these, where it is done
abbrev pub first_steps_of : List Event → World → Event → List Step
first_steps_of events w e = behind events w (λ z. steps_of 0 first_guest z e reply.Done)

-- ---- runs

-- the run of the first guest's private controller, from its seat in a world on, of the steps that these events represent
abbrev pub run_by : Option Owner → List Step → World → Option Run
run_by None steps w = None
run_by (Some o) steps w = run_of (shape_of o.given) steps (seat set_up o w)

abbrev pub first_run : List Event → World → Option Run
first_run events w = run_by (owner_of set_up w 0) (first_steps events w) w

-- what is seen at its end, or none where it can't be made
abbrev pub at_end : {A : Type 0} → Option Run → (Private → A) → Option A
at_end None look = None
at_end (Some run) look = Some (look run.state)

-- bytes of its memory
abbrev pub private_bytes : (addr len : ℕ) → Private → List ℕ
private_bytes addr len p = bytes_from p.memory addr len

-- ---- discipline

-- whether the first guest keeps to it along these events
abbrev pub keeps_to_it : List Event → World → Bool
keeps_to_it events w = is_disciplined set_up 0 first_guest (logged events w) w

-- a world in which the first guest has written the doorbell for these two commands
abbrev pub two_rung : (first second : List ℕ) → World
two_rung first second = world_with (holding 0x113000 (first ++ second)) 16 2 0

-- a Read of block 5 with a Last Segment at 6000h, whose two Data Blocks name these places
abbrev pub read_named_twice : (first second : ℕ) → World
read_named_twice first second =
    world_with (stored (holding 0x113000 (by_sgl 0x02 5 1 (last_segment 0x6000 32))) 0x106000 (data_block first 512 ++ data_block second 512)) 16 1 0

-- two Writes of blocks 5 and 6 by one Last Segment at 6000h, whose two Data Blocks name 1,024 bytes from 3000h on
abbrev pub writes_by_one_list : World
writes_by_one_list =
    world_with (stored (holding 0x113000 (by_sgl 0x01 5 1 (last_segment 0x6000 32) ++ by_sgl 0x01 5 1 (last_segment 0x6000 32)))
    0x106000 (data_block 0x3000 512 ++ data_block 0x3200 512)) 16 2 0

-- ---- agreement

-- whether these addresses of the first guest are awaited after these events
abbrev pub awaited_behind : List Event → World → List ℕ → List Bool
awaited_behind events w addrs = behind events w (λ z. map (is_awaited 0 first_guest z) addrs)

-- the first guest's private controller as it is in a world in which it has written the doorbell for one command and none is taken
abbrev pub first_seat : World → Private
first_seat w = seat set_up (record { number = 0; given = first_guest; controller = controller_with 16 1 }) w

-- ---- how far a command is

-- the units that have not moved, and whether a Compare differed, of a command at work; none of any other
abbrev pub progress_told : Progress → Option (List ℕ × Bool)
progress_told Unjudged = None
progress_told (Ended st) = None
progress_told (AtWork work left differed) = Some (left, differed)

abbrev pub member_told : Option Taken → Option (List ℕ × Bool)
member_told None = None
member_told (Some t) = progress_told t.progress

-- those of the first guest's command in tag 0 of lane 0
abbrev pub how_far : World → Option (List ℕ × Bool)
how_far w = member_told (members set_up w 0 0)
