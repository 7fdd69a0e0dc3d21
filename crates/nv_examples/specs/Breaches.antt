-- Logs of a guest that breaks a clause of its discipline, and then is not followed by its private controller
use Rattle.std.specs.Prelude.{ℕ, ◌-◌, Bool, true, not, ◌&&◌, List, [], ◌∷◌, ◌++◌, flat_map, length, take, slice_get, slice_index, Option, Some, None}
use Rattle.std.specs.List.{list_any}
use Rattle.nv_model.specs.Controller.{Controller}
use Rattle.nv_model.specs.Footprint.{Named, completion_slots, loads_from_destination, meets, stores_into}
use Rattle.nv_model.specs.Private.{AtWork, Ended, Progress, Seen, Taken, Unjudged, run_of, start}
use Rattle.nv_model.specs.declared.reply.Reply.{Reply}
use Rattle.nv_model.specs.declared.reply.Reply.TheVariants as reply
use Rattle.nv_model.specs.Rows.{data_block, last_segment}
use Rattle.nv_model.specs.declared.act.Act.{Act}
use Rattle.nv_world_model.specs.declared.event.Event.{Event}
use Rattle.nv_world_model.specs.declared.event.Event.TheVariants as event
use Rattle.nv_world_model.specs.Disciplined.{clash, commands_named, is_disciplined}
use Rattle.nv_world_model.specs.Headline.{IsPrivateRun, none_failed}
use Rattle.nv_world_model.specs.PrivateSteps.{act_of, private_steps}
use Rattle.nv_world_model.specs.SetUp.{any_two}
use Rattle.nv_world_model.specs.Step.{replay, step}
use Rattle.nv_world_model.specs.World.{World}
use Rattle.nv_examples.specs.Stepping.{behind_run}
use Rattle.nv_examples.specs.Events.{begins, begins_with_list, ends, loads, moves, rings, stores, up, whole}
use Rattle.nv_examples.specs.Guests.{by_sgl, first, flush, opened, read, set_up, write}
use Rattle.nv_examples.specs.Logs.{logged}
use Rattle.nv_world_model.specs.Geometry.{shape_of}

-- ---- the premises and the promise, of the log of these events from the start

abbrev pub none_failed_in : List Event → Bool
none_failed_in events = none_failed set_up.geometry 0 (logged set_up.geometry events opened) opened

abbrev pub is_disciplined_in : List Event → Bool
is_disciplined_in events = is_disciplined set_up.geometry 0 first (logged set_up.geometry events opened) opened

abbrev pub HasPrivateRun : List Event → Type 0
HasPrivateRun events =
    IsPrivateRun set_up.geometry 0 first (logged set_up.geometry events opened) opened (replay set_up.geometry events opened)

-- ---- which clause is kept

-- the clauses of discipline, each by itself: no destination names a byte twice or shares one; no completion slot is where bytes are named; the next
-- act is no store into them; and no load from a destination
abbrev pub Clause : Type 0
Clause = Option Act → List (List Named) → List (ℕ × ℕ) → Bool

abbrev pub act_is_not : (List (List Named) → Act → Bool) → Option Act → List (List Named) → Bool
act_is_not forbidden None commands = true
act_is_not forbidden (Some a) commands = not (forbidden commands a)

abbrev pub shares_none : Clause
shares_none a commands slots = not (any_two clash (flat_map (λ named. named) commands))

abbrev pub has_no_slot : Clause
has_no_slot a commands slots = not (list_any (λ s. list_any (meets s.0 s.1) (flat_map (λ named. named) commands)) slots)

abbrev pub stores_elsewhere : Clause
stores_elsewhere a commands slots = act_is_not stores_into a commands

abbrev pub loads_elsewhere : Clause
loads_elsewhere a commands slots = act_is_not loads_from_destination a commands

-- whether one holds in a state of the first guest, and in each along these events
abbrev pub holds_by : Option Controller → Clause → Option Act → World → Bool
holds_by None clause a w = true
holds_by (Some c) clause a w = clause a (commands_named 0 first w c) (completion_slots c)

unfoldable pub holds_along : Clause → List Event → World → Bool
holds_along clause [] w = holds_by (slice_get w.controllers 0) clause None w
holds_along clause (e ∷ events) w =
    holds_by (slice_get w.controllers 0) clause (act_of 0 e) w && holds_along clause events (step set_up.geometry e w).world

-- which of the four hold along these events from the start
abbrev pub clauses_kept : List Event → List Bool
clauses_kept events =
    holds_along shares_none events opened ∷ holds_along has_no_slot events opened ∷ holds_along stores_elsewhere events opened
    ∷ holds_along loads_elsewhere events opened ∷ []

-- ---- observing

-- the last byte that a guest was shown
abbrev pub byte_told : (otherwise : ℕ) → Reply → ℕ
byte_told otherwise reply.Done = otherwise
byte_told otherwise (reply.Bytes bytes) = slice_index bytes 0
byte_told otherwise reply.Idle = otherwise
byte_told otherwise reply.Busy = otherwise
byte_told otherwise reply.Held = otherwise
byte_told otherwise reply.Stale = otherwise
byte_told otherwise reply.Unmapped = otherwise
byte_told otherwise reply.Ignored = otherwise
byte_told otherwise reply.NoMemory = otherwise

unfoldable pub last_byte : List Seen → ℕ
last_byte [] = 0
last_byte (s ∷ []) = byte_told 0 s.reply
last_byte (s ∷ t ∷ seen) = last_byte (t ∷ seen)

-- the status code with which a command was refused
abbrev pub code_of : Progress → Option ℕ
code_of Unjudged = None
code_of (Ended st) = Some st.sc
code_of (AtWork work left differed) = None

abbrev pub code_in : Option Taken → Option ℕ
code_in None = None
code_in (Some t) = code_of t.progress

-- that of the private controller's command named 1, after all of these events but the last
abbrev pub refused_before_last : List Event → Option ℕ
refused_before_last events =
    code_in ((behind_run (run_of (shape_of first)
    (private_steps set_up.geometry 0 first (logged set_up.geometry (take (length events - 1) events) opened) opened) start)).bag 1)

-- ---- commands

-- a Read of a block with a list of 16 bytes at 3800h
abbrev pub read_by_list : (cid slba : ℕ) → List ℕ
read_by_list cid slba = by_sgl 0x02 cid slba 0 (last_segment 0x3800 16)

-- block 1 holds a byte 7 at first: it is written from 0800h
abbrev pub block_written : List Event
block_written = stores 0x0800 (7 ∷ []) ∷ stores 0x3000 (write 3 1 0x0800) ∷ rings 1 ∷ whole

-- ---- stores

-- into the source of a bounced Write, once it was copied and before its block moves
abbrev pub store_into_source : List Event
store_into_source =
    up ++ stores 0x3000 (write 3 0 0x0801) ∷ rings 1 ∷ begins 0 ++ stores 0x0801 (7 ∷ []) ∷ moves 0 0 ∷ []

-- into the destination of a bounced Read, once its block has moved and before it is delivered
abbrev pub store_into_destination : List Event
store_into_destination =
    up ++ stores 0x3000 (read 3 0 0x0801) ∷ rings 1 ∷ begins 0 ++ moves 0 0 ∷ stores 0x0801 (7 ∷ []) ∷ ends 0

-- into a list, once it was read and before the command is judged: its buffer was at 0801h, and is at 0a01h
abbrev pub store_into_list : List Event
store_into_list =
    up ++ stores 0x0801 (7 ∷ []) ∷ stores 0x3800 (data_block 0x0801 512) ∷ stores 0x3000 (read_by_list 3 0) ∷ rings 1
    ∷ event.Take 0 1 0 ∷ event.List 0 0 0x3800 16 ∷ stores 0x3800 (data_block 0x0a01 512) ∷ event.Submit 0 0 ∷ event.DevTake 0 ∷ moves 0 0
    ∷ ends 0

-- ---- a load

-- from the destination of a bounced Read, once its block has moved and before it is delivered
abbrev pub load_from_destination : List Event
load_from_destination =
    up ++ stores 0x0801 (7 ∷ []) ∷ stores 0x3000 (read 3 0 0x0801) ∷ rings 1 ∷ begins 0 ++ moves 0 0 ∷ loads 0x0801 1 ∷ []

-- ---- bytes that are shared

-- the last byte of block 0 and the first of block 1 have one place, and block 1 moves first
abbrev pub byte_named_twice : List Event
byte_named_twice =
    up ++ block_written ++ stores 0x3800 (data_block 0x0a01 512 ++ data_block 0x0c00 512)
    ∷ stores 0x3040 (by_sgl 0x02 4 0 1 (last_segment 0x3800 32)) ∷ rings 2
    ∷ event.Take 0 1 0 ∷ event.List 0 0 0x3800 32 ∷ event.Submit 0 0 ∷ event.DevTake 0 ∷ moves 0 1 ∷ moves 0 0 ∷ ends 0

-- two bounced Reads into one buffer: they move one way round, and are delivered the other
abbrev pub destination_in_destination : List Event
destination_in_destination =
    up ++ block_written ++ stores 0x3040 (read 4 0 0x0a01) ∷ stores 0x3080 (read 5 1 0x0a01) ∷ rings 3
    ∷ begins 0 ++ begins 1 ++ moves 0 0 ∷ moves 1 0 ∷ ends 1 ++ ends 0

-- a bounced Write from the buffer of a bounced Read that has moved and is not delivered
abbrev pub source_in_destination : List Event
source_in_destination =
    up ++ stores 0x0801 (7 ∷ []) ∷ stores 0x3000 (read 3 0 0x0801) ∷ stores 0x3040 (write 4 1 0x0801) ∷ rings 2
    ∷ begins 0 ++ moves 0 0 ∷ begins 1 ++ moves 1 0 ∷ []

-- a list in such a buffer
abbrev pub list_in_destination : List Event
list_in_destination =
    up ++ stores 0x3800 (data_block 0x0801 512) ∷ stores 0x3000 (read 3 0 0x3801) ∷ stores 0x3040 (read_by_list 4 0) ∷ rings 2
    ∷ begins 0 ++ moves 0 0 ∷ begins_with_list 1 ++ moves 1 0 ∷ []

-- an entry in such a buffer
abbrev pub entry_in_destination : List Event
entry_in_destination =
    up ++ stores 0x3000 (read 3 0 0x3041) ∷ stores 0x3040 (read 4 0 0x0801) ∷ rings 1
    ∷ begins 0 ++ moves 0 0 ∷ rings 2 ∷ begins 1 ++ moves 1 0 ∷ []

-- ---- completion slots

-- a Flush is completed into the source of a bounced Write, once that was copied and before its block moves
abbrev pub slot_in_source : List Event
slot_in_source =
    up ++ stores 0x3000 (flush 3) ∷ stores 0x3040 (write 4 1 0x1e11) ∷ rings 2
    ∷ begins 0 ++ moves 0 0 ∷ begins 1 ++ ends 0 ++ moves 1 0 ∷ []

-- into the destination of a bounced Read, once its block has moved and before it is delivered
abbrev pub slot_in_destination : List Event
slot_in_destination =
    up ++ stores 0x3000 (flush 3) ∷ stores 0x3040 (read 4 0 0x1e11) ∷ rings 2
    ∷ begins 0 ++ moves 0 0 ∷ begins 1 ++ moves 1 0 ∷ ends 0 ++ ends 1

-- into a list, once it was read and before the command is judged
abbrev pub slot_in_list : List Event
slot_in_list =
    up ++ stores 0x2000 (data_block 0x0801 512) ∷ stores 0x3000 (flush 3) ∷ stores 0x3040 (by_sgl 0x02 4 0 0 (last_segment 0x2000 16)) ∷ rings 2
    ∷ begins 0 ++ moves 0 0 ∷ event.Take 0 1 0 ∷ event.List 0 1 0x2000 16 ∷ ends 0 ++ event.Submit 0 1 ∷ event.DevTake 0 ∷ moves 1 0 ∷ []
