-- A second log, of the guest of three extents: the other forms of command over its joins, and how they end
use Rattle.std.specs.Prelude.{ℕ, List, [], ◌∷◌, ◌++◌, map}
use Rattle.nv_model.specs.declared.act.Act.TheVariants as act
use Rattle.nv_model.specs.declared.reply.Reply.TheVariants as reply
use Rattle.nv_model.specs.Rows.{block_range, command, data_block, last_segment}
use Rattle.nv_world_model.specs.declared.event.Event.{Event}
use Rattle.nv_world_model.specs.declared.event.Event.TheVariants as event
use Rattle.nv_world_model.specs.declared.logged.Logged.{Logged}
use Rattle.nv_examples.specs.Guests.{by_sgl, other}
use Rattle.nv_examples.specs.extents.Events.{part_ends, rings, stores, up_with}
use Rattle.nv_examples.specs.extents.Guests.{read_over}
use Rattle.nv_examples.specs.Logs.{done, told}

-- ---- words

-- these events were all done
abbrev pub all_done : List Event → List Logged
all_done events = map done events

-- the guest of three extents stores bytes, or rings so many of its commands; and what it loads
abbrev pub puts : (addr : ℕ) → List ℕ → Event
puts addr bytes = other (act.Store addr bytes)

abbrev pub tolls : (tail : ℕ) → Event
tolls tail = other (act.Doorbell 0x1008 tail)

abbrev pub gets : (addr len : ℕ) → List ℕ → Logged
gets addr len bytes = told (other (act.Load addr len)) (reply.Bytes bytes)

-- its next command is taken
abbrev pub next : Event
next = event.Take 1 1 0

-- ---- both controllers are up

-- the guest of two extents has a Read taken, in tags 0 and 1, and leaves it at that; so the other's commands begin with tag 2
abbrev pub tags_taken : List Logged
tags_taken = all_done (up_with 0 4 ++ stores 0x3000 (read_over 3 0x2400) ∷ rings 1 ∷ event.Take 0 1 0 ∷ up_with 1 8)

-- ---- a Write by a list

-- its two pieces, at odd addresses: 700 bytes, and 836
abbrev pub both_pieces : List ℕ
both_pieces = data_block 0x0801 700 ++ data_block 0x1401 836

-- of blocks 1 to 3, one in each extent: each block's first bytes, and the first of the second piece, which lies in block 2
abbrev pub written : List Logged
written =
    all_done (
    puts 0x0801 (1 ∷ 2 ∷ []) ∷ puts 0x0a01 (3 ∷ 4 ∷ []) ∷ puts 0x1401 (9 ∷ []) ∷ puts 0x1545 (5 ∷ 6 ∷ [])
    ∷ puts 0x3800 both_pieces ∷ puts 0x3000 (by_sgl 0x01 3 1 2 (last_segment 0x3800 32)) ∷ tolls 1 ∷ next ∷ []
    )
    ++ told (event.List 0 2 0x3800 32) (reply.Bytes both_pieces)
    ∷ all_done (
    event.Submit 0 2 ∷ event.DevTake 0 ∷ event.DevTake 0 ∷ event.DevTake 0
    ∷ event.DevMove 0 4 0 ∷ event.DevMove 0 2 0 ∷ event.DevMove 0 3 0 ∷ part_ends 3 ++ part_ends 4 ++ part_ends 2 ++ event.Post 0 2 ∷ []
    )
    ++ gets 0x200c 4 (3 ∷ 0 ∷ 1 ∷ 0 ∷ []) ∷ []

-- ---- a Compare

-- with these blocks, of an aligned buffer whose third block differs in its second byte
abbrev pub compared : List Logged
compared =
    all_done (
    puts 0x2400 (1 ∷ 2 ∷ []) ∷ puts 0x2600 (3 ∷ 4 ∷ []) ∷ puts 0x26bc (9 ∷ []) ∷ puts 0x2800 (5 ∷ 7 ∷ [])
    ∷ puts 0x3040 (by_sgl 0x05 4 1 2 (data_block 0x2400 1536)) ∷ tolls 2
    ∷ next ∷ event.Submit 0 2 ∷ event.DevTake 0 ∷ event.DevTake 0 ∷ event.DevTake 0
    ∷ event.DevMove 0 4 0 ∷ event.DevMove 0 3 0 ∷ event.DevMove 0 2 0 ∷ part_ends 4 ++ part_ends 3 ++ part_ends 2 ++ event.Post 0 2 ∷ []
    )
    ++ gets 0x201c 4 (4 ∷ 0 ∷ 0x0b ∷ 5 ∷ []) ∷ []

-- ---- a range in the last extent

-- the first two parts have no range, and are no physical commands
abbrev pub deallocated : List Logged
deallocated =
    all_done (puts 0x3840 (block_range 3 1) ∷ puts 0x3080 (command 0x00054009 1 (data_block 0x3840 16) 0 4 0) ∷ tolls 3 ∷ next ∷ [])
    ++ told (event.List 0 2 0x3840 16) (reply.Bytes (block_range 3 1))
    ∷ done (event.Submit 0 2) ∷ told (event.Post 0 2) reply.Stale ∷ done (event.DevTake 0) ∷ told (event.DevTake 0) reply.Idle
    ∷ all_done (event.DevMove 0 4 0 ∷ part_ends 4 ++ event.Post 0 2 ∷ [])
    ++ gets 0x202c 4 (5 ∷ 0 ∷ 1 ∷ 0 ∷ []) ∷ []

-- ---- nothing is handed on

-- a Read of blocks 1 and 2 that is given up, and one whose list is too short
abbrev pub too_short : List ℕ
too_short = by_sgl 0x02 7 1 1 (data_block 0x2c00 512)

abbrev pub ended_early : List Logged
ended_early =
    all_done (puts 0x30c0 (read_over 6 0x2c00 ++ too_short) ∷ tolls 5 ∷ next ∷ [])
    ++ told (event.GiveUp 0 3) reply.Stale ∷ done (event.GiveUp 0 2) ∷ told (event.Post 0 3) reply.Stale ∷ done (event.Post 0 2)
    ∷ gets 0x203c 4 (6 ∷ 0 ∷ 0x0d ∷ 0 ∷ [])
    ∷ done next ∷ done (event.Submit 0 2) ∷ told (event.DevTake 0) reply.Idle ∷ done (event.Post 0 2)
    ∷ gets 0x204c 4 (7 ∷ 0 ∷ 0x1f ∷ 0x80 ∷ []) ∷ []

-- ---- a reset

-- it finds a bounced Read of blocks 1 and 2 in the device: RDY falls once both parts have ended, and its bytes have come
abbrev pub run_out : List Logged
run_out =
    all_done (
    puts 0x3140 (read_over 8 0x1801) ∷ tolls 6 ∷ next ∷ event.Submit 0 2 ∷ event.DevTake 0 ∷ event.DevTake 0
    ∷ event.DevMove 0 3 0 ∷ other (act.RegWrite 0x14 0x00460000) ∷ part_ends 3
    )
    ++ told (event.Post 0 2) reply.Stale ∷ told (other (act.RegRead 0x1c)) (reply.Bytes (1 ∷ 0 ∷ 0 ∷ 0 ∷ []))
    ∷ all_done (event.DevMove 0 2 0 ∷ part_ends 2 ++ event.Post 0 2 ∷ [])
    ++ told (other (act.RegRead 0x1c)) (reply.Bytes (0 ∷ 0 ∷ 0 ∷ 0 ∷ []))
    ∷ gets 0x1800 4 (0 ∷ 1 ∷ 2 ∷ 0 ∷ []) ∷ gets 0x1a00 4 (0 ∷ 3 ∷ 4 ∷ 0 ∷ []) ∷ []

-- ---- the whole

abbrev pub second_story : List Logged
second_story = tags_taken ++ written ++ compared ++ deallocated ++ ended_early ++ run_out
