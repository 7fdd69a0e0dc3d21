-- Worlds whose step is wrong, and logs that show it
use Rattle.std.specs.Prelude.{ℕ, ◌+◌, Bool, true, ◌&&◌, ◌==◌, if◌then◌else◌, List, [], ◌∷◌, ◌++◌, slice_get, slice_set, Option, Some, None}
use Rattle.nv_entry.specs.Status.{StatusField}
use Rattle.nv_entry.specs.StatusCode.{done_with}
use Rattle.nv_entry.specs.Submission.{opcode_of}
use Rattle.nv_entry.specs.declared.status_code.StatusCode.TheVariants.{Success}
use Rattle.nv_model.specs.Controller.{Controller, is_enabled}
use Rattle.nv_model.specs.Memory.{stored}
use Rattle.nv_model.specs.Queue.{CompletionQueue}
use Rattle.nv_model.specs.Rows.{command, data_block, with_fua}
use Rattle.nv_model.specs.declared.act.Act.TheVariants as act
use Rattle.nv_model.specs.declared.reply.Reply.TheVariants as reply
use Rattle.nv_world_model.specs.Area.{submission_slot}
use Rattle.nv_world_model.specs.Device.{DeviceLane}
use Rattle.nv_world_model.specs.Seat.{Owner, owner_of}
use Rattle.nv_world_model.specs.Step.{After, ended_at_once, for_ended, for_owner, for_taken, ran_out_of, replied, statuses_of, step}
use Rattle.nv_world_model.specs.World.{World, group, tag_of, with_controller, with_host}
use Rattle.nv_world_model.specs.declared.event.Event.{Event}
use Rattle.nv_world_model.specs.declared.event.Event.TheVariants as event
use Rattle.nv_examples.specs.Stepping.{Stepping}
use Rattle.nv_examples.specs.Events.{begins, ends, loads, moves, rings, stores, up, up_with, whole}
use Rattle.nv_examples.specs.Guests.{flush, own, read, set_up}

-- the world's own step
abbrev pub right : Stepping
right e w = step set_up.geometry e w

-- ---- a Flush without its unit

-- a Submit that answers a Flush at once, with Success
abbrev pub flush_at_once : Stepping
flush_at_once (event.Submit lane tag) w =
    for_taken tag (tag_of w lane tag) w (λ command reads.
    if opcode_of command.entry == 0 then replied reply.Done (ended_at_once lane (group w lane tag) command (done_with Success) w)
    else right (event.Submit lane tag) w)
flush_at_once e w = right e w

-- a Flush
abbrev pub flushed : List Event
flushed = up ++ stores 0x3000 (flush 3) ∷ rings 1 ∷ event.Take 0 1 0 ∷ event.Submit 0 0 ∷ event.Post 0 0 ∷ []

-- ---- FUA is dropped

-- the byte of CDW12 of an entry that has FUA is cleared, of the entry that is just before the tail
abbrev pub without_fua : Option DeviceLane → (lane : ℕ) → After → After
without_fua None lane after = after
without_fua (Some d) lane after =
    record after { world = with_host (stored after.world.host (submission_slot 0x30000 lane d.tail + 51) (0 ∷ [])) after.world }

-- a Submit that does so
abbrev pub fua_dropped : Stepping
fua_dropped (event.Submit lane tag) w = without_fua (slice_get w.device lane) lane (right (event.Submit lane tag) w)
fua_dropped e w = right e w

-- a Write of block 0 with FUA
abbrev pub written_with_fua : List Event
written_with_fua =
    up ++ stores 0x3000 (command 0x00034001 1 (data_block 0x0800 512) 0 0 (with_fua 0)) ∷ rings 1 ∷ whole

-- ---- a phase tag is not inverted

-- a controller whose completion queue 1 keeps that phase tag
abbrev pub with_phase : Bool → Option CompletionQueue → Option CompletionQueue
with_phase phase None = None
with_phase phase (Some q) = Some (record q { phase = phase })

abbrev pub phase_kept : Option (Option CompletionQueue) → Controller → Controller
phase_kept None c = c
phase_kept (Some q) c = record c { completion_queues = slice_set c.completion_queues 1 (with_phase true q) }

abbrev pub phases_kept : Option Controller → World → World
phases_kept None w = w
phases_kept (Some c) w = with_controller 0 (phase_kept (slice_get c.completion_queues 1) c) w

-- a Post of the first guest after which its completion queue still has phase tag 1
abbrev pub phase_not_inverted : Stepping
phase_not_inverted (event.Post lane tag) w =
    (let after = right (event.Post lane tag) w in record after { world = phases_kept (slice_get after.world.controllers 0) after.world })
phase_not_inverted e w = right e w

-- three Flushes, one after the other, and a completion queue of two slots; the last dword of the third completion is loaded
abbrev pub three_flushes : List Event
three_flushes =
    up_with 2 ++ stores 0x3000 (flush 3 ++ flush 4 ++ flush 5) ∷ rings 3 ∷ whole ++ own (act.Doorbell 0x100c 1) ∷ whole
    ++ own (act.Doorbell 0x100c 0) ∷ whole ++ loads 0x200e 1 ∷ []

-- ---- a Read's bytes are dropped

-- a command all of whose tags have ended runs out, and nothing is delivered
abbrev pub dropped_by : Option (List StatusField) → (queue lane : ℕ) → (tags : List ℕ) → Owner → World → After
dropped_by None queue lane tags o w = replied reply.Stale w
dropped_by (Some sts) queue lane tags o w = replied reply.Done (ran_out_of queue lane tags o w)

-- a Post that delivers nothing where its command runs out
abbrev pub bytes_dropped : Stepping
bytes_dropped (event.Post lane tag) w =
    for_ended tag (tag_of w lane tag) w (λ command.
    for_owner (owner_of set_up.geometry w command.guest) w (λ o.
    (let tags = group w lane tag in
    if is_enabled o.controller then right (event.Post lane tag) w
    else dropped_by (statuses_of lane tags w) command.queue lane tags o w)))
bytes_dropped e w = right e w

-- a bounced Read of zeros to where a 7 is, which runs out after a reset; that byte is loaded then
abbrev pub read_run_out : List Event
read_run_out =
    up ++ stores 0x0801 (7 ∷ []) ∷ stores 0x3000 (read 3 0 0x0801) ∷ rings 1 ∷ begins 0 ++ own (act.RegWrite 0x14 0x00460000)
    ∷ moves 0 0 ∷ ends 0 ++ loads 0x0801 1 ∷ []

-- ---- RDY falls early

-- a controller that isn't enabled isn't ready either, whatever is taken
abbrev pub fallen : Controller → Controller
fallen c = record c { ready = is_enabled c && c.ready }

abbrev pub ready_fallen : Option Controller → World → World
ready_fallen None w = w
ready_fallen (Some c) w = with_controller 0 (fallen c) w

-- an act of the first guest after which RDY has fallen with EN
abbrev pub ready_falls_early : Stepping
ready_falls_early (event.Guest guest a) w =
    (let after = right (event.Guest guest a) w in record after { world = ready_fallen (slice_get after.world.controllers 0) after.world })
ready_falls_early e w = right e w

-- a reset with a Read taken, after which CSTS is read
abbrev pub reset_with_read : List Event
reset_with_read =
    up ++ stores 0x3000 (read 3 0 0x0801) ∷ rings 1 ∷ begins 0 ++ own (act.RegWrite 0x14 0x00460000) ∷ own (act.RegRead 0x1c) ∷ []

-- ---- a completion bears the tag

-- a Post whose completion has the tag as its identifier: that is what is in the first slot of completion queue 1
abbrev pub tag_as_identifier : Stepping
tag_as_identifier (event.Post lane tag) w =
    (let after = right (event.Post lane tag) w in record after { world = with_host (stored after.world.host 0x1200c (tag ∷ 0 ∷ [])) after.world })
tag_as_identifier e w = right e w

-- a Flush with identifier 3, whose completion's identifier is loaded
abbrev pub flush_told : List Event
flush_told = up ++ stores 0x3000 (flush 3) ∷ rings 1 ∷ whole ++ loads 0x200c 2 ∷ []
