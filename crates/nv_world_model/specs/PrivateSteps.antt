-- Which steps of a guest's private controller each event of the world represents: the guest's acts and its admin queue's steps are its own; a
-- command is taken, judged, given up and completed by the events of the tag that it goes by; its units move where the device's do; and marks rise
-- where any event raises them (profile).
use Rattle.std.specs.Prelude.{ℕ, Bool, true, false, ◌||◌, ◌==◌, if◌then◌else◌, List, [], ◌∷◌, ◌++◌, filter, map, slice_get, Option, Some, None}
use Rattle.std.specs.List.{range_with_len}
use Rattle.nv_ns.specs.Extents.{Namespace, blocks_in, place_in}
use Rattle.nv_model.specs.Controller.{Controller, is_enabled}
use Rattle.nv_model.specs.Judge.{Form, Keep, Work, form_of}
use Rattle.nv_model.specs.Private.{ActStep, AdminQueueStep, GiveUpStep, JudgeStep, KeepStep, MoveStep, PostStep, RunOutStep, Seen, Step, TakeStep}
use Rattle.nv_model.specs.declared.act.Act.{Act}
use Rattle.nv_model.specs.declared.reply.Reply.{Reply}
use Rattle.nv_world_model.specs.declared.event.Event.{Event}
use Rattle.nv_world_model.specs.declared.event.Event.TheVariants as event
use Rattle.nv_world_model.specs.declared.logged.Logged.{Logged}
use Rattle.nv_world_model.specs.Geometry.{Geometry, Guest}
use Rattle.nv_world_model.specs.Seat.{name_of, numbers_behind, work_of}
use Rattle.nv_world_model.specs.Step.{is_done, step}
use Rattle.nv_world_model.specs.View.{is_tag_of}
use Rattle.nv_world_model.specs.World.{Flying, Lane, Tag, World, is_free, tag_of, tags_where}

-- ---- acts

-- the act of a guest, where the event is one
abbrev pub act_of : (number : ℕ) → Event → Option Act
act_of number (event.Guest guest a) = if guest == number then Some a else None
act_of number _ = None

-- what a guest has seen: its acts with their replies
abbrev pub with_act : Option Act → Reply → List Seen → List Seen
with_act None r seen = seen
with_act (Some a) r seen = record { act = a; reply = r } ∷ seen

unfoldable pub seen_by : (number : ℕ) → List Logged → List Seen
seen_by number [] = []
seen_by number (l ∷ log) = with_act (act_of number l.event) l.reply (seen_by number log)

-- ---- commands

-- a command is taken under the name of the lowest free tag, whatever more it takes
abbrev pub taken_as : List ℕ → (queue lane : ℕ) → List Step
taken_as [] queue lane = []
taken_as (tag ∷ tags) queue lane = TakeStep queue (name_of lane tag) ∷ []

abbrev pub takes : Option Lane → (queue lane : ℕ) → List Step
takes None queue lane = []
takes (Some l) queue lane = taken_as (tags_where is_free l.tags) queue lane

-- an ended command is completed, or runs out after a reset
abbrev pub leaves : Option Controller → (name : ℕ) → List Step
leaves None name = []
leaves (Some c) name = if is_enabled c then PostStep name ∷ [] else RunOutStep name ∷ []

-- ---- units

-- a unit of the guest's own command, in the tag of one of its parts: the whole's unit of that number, and of a range
-- each of its blocks
abbrev pub own_moves : Option Tag → (lane unit : ℕ) → List Step
own_moves (Some (Flying command share standing)) lane unit =
    map (MoveStep (name_of lane command.leader)) (numbers_behind share (unit ∷ []))
own_moves _ lane unit = []

-- the work of a part that was handed on
abbrev pub work_in : Option Tag → Option Work
work_in (Some (Flying command share standing)) = work_of share.plan
work_in _ = None

-- whether a command of that form keeps all blocks of the disk
abbrev pub keeps_all : Form → Bool
keeps_all Keep = true
keeps_all _ = false

-- a unit of another's command: a Flush makes each block of the guest's namespace kept
abbrev pub others_moves : Option Work → Namespace → List Step
others_moves None ns = []
others_moves (Some work) ns =
    if keeps_all (form_of work.opcode) then map KeepStep (range_with_len 0 (blocks_in ns)) else []

-- the block of the guest's namespace that is that block of the disk, if one is
abbrev pub keeps : Namespace → (at : ℕ) → List Step
keeps ns at = map KeepStep (filter (λ lba. place_in ns lba == at) (range_with_len 0 (blocks_in ns)))

-- ---- the table

-- the steps of an event that was done
abbrev pub steps_done : (number : ℕ) → Guest → World → Event → List Step
steps_done number guest w (event.Guest g a) = if g == number then ActStep a ∷ [] else []
steps_done number guest w (event.Admin g) = if g == number then AdminQueueStep ∷ [] else []
steps_done number guest w (event.Take g queue lane) =
    if g == number then takes (slice_get w.lanes lane) queue lane else []
steps_done number guest w (event.Submit lane tag) =
    if is_tag_of number (tag_of w lane tag) then JudgeStep (name_of lane tag) ∷ [] else []
steps_done number guest w (event.GiveUp lane tag) =
    if is_tag_of number (tag_of w lane tag) then GiveUpStep (name_of lane tag) ∷ [] else []
steps_done number guest w (event.DevMove lane slot unit) =
    if is_tag_of number (tag_of w lane slot) then own_moves (tag_of w lane slot) lane unit
    else others_moves (work_in (tag_of w lane slot)) guest.namespace
steps_done number guest w (event.Keep at) = keeps guest.namespace at
steps_done number guest w (event.Post lane tag) =
    if is_tag_of number (tag_of w lane tag) then leaves (slice_get w.controllers number) (name_of lane tag) else []
steps_done number guest w _ = []

-- whether it is the guest's act, which it sees whatever the reply
abbrev pub is_act : Option Act → Bool
is_act None = false
is_act (Some a) = true

-- the steps of an event with that reply
abbrev pub steps_of : (number : ℕ) → Guest → World → Event → Reply → List Step
steps_of number guest w e r =
    if is_act (act_of number e) || is_done r then steps_done number guest w e else []

-- those of a log that begins in that world
unfoldable pub private_steps : Geometry → (number : ℕ) → Guest → List Logged → World → List Step
private_steps geometry number guest [] w = []
private_steps geometry number guest (l ∷ log) w =
    steps_of number guest w l.event l.reply ++ private_steps geometry number guest log (step geometry l.event w).world
