-- The log of a disciplined guest of two extents beside a hostile neighbour of three, from the start of their world on
use Rattle.std.specs.Prelude.{false, List, [], ◌∷◌, ◌++◌}
use Rattle.nv_model.specs.declared.act.Act.TheVariants as act
use Rattle.nv_model.specs.declared.reply.Reply.TheVariants as reply
use Rattle.nv_model.specs.Rows.{block_range}
use Rattle.nv_world_model.specs.declared.event.Event.TheVariants as event
use Rattle.nv_world_model.specs.declared.logged.Logged.{Logged}
use Rattle.nv_examples.specs.Guests.{create_completion_queue, create_submission_queue, flush, other, own}
use Rattle.nv_examples.specs.extents.Guests.{deallocate, read_over, write_all, write_zeroes_over}
use Rattle.nv_examples.specs.Logs.{done, told}

-- ---- both guests bring their controllers up

-- admin queues of eight slots each, at 0 and at 1000h, a completion queue of four slots and a submission queue of eight
abbrev pub bring_up : List Logged
bring_up =
    done (own (act.Store 0x0000 (create_completion_queue 4)))
    ∷ done (own (act.Store 0x0040 (create_submission_queue 8)))
    ∷ done (own (act.RegWrite 0x24 0x00070007))
    ∷ done (own (act.RegWrite 0x30 0x1000))
    ∷ done (own (act.RegWrite 0x14 0x00460001))
    ∷ done (own (act.Doorbell 0x1000 2))
    ∷ done (event.Admin 0)
    ∷ done (event.Admin 0)
    ∷ []

-- the neighbour reaches for what it was not given, too
abbrev pub neighbour_comes : List Logged
neighbour_comes =
    done (other (act.Store 0x0000 (create_completion_queue 2)))
    ∷ done (other (act.Store 0x0040 (create_submission_queue 4)))
    ∷ done (other (act.RegWrite 0x24 0x00070007))
    ∷ done (other (act.RegWrite 0x30 0x1000))
    ∷ done (other (act.RegWrite 0x14 0x00460001))
    ∷ told (other (act.Load 0x10000 1)) reply.Unmapped
    ∷ done (other (act.Doorbell 0x1000 2))
    ∷ done (event.Admin 1)
    ∷ done (event.Admin 1)
    ∷ []

-- ---- a Write is two physical commands

-- of two blocks each, whose moves are interleaved; the neighbour's Write Zeroes, whose entry it writes once the doorbell was written, is three, in
-- tags 2 to 4. The second part of the Write ends first, and by none of its tags is the Write completed before the first part has ended
abbrev pub write_of_all : List Logged
write_of_all =
    done (own (act.Store 0x0800 (1 ∷ 2 ∷ [])))
    ∷ done (own (act.Store 0x0a00 (7 ∷ 8 ∷ 9 ∷ [])))
    ∷ done (own (act.Store 0x0c00 (5 ∷ 6 ∷ [])))
    ∷ done (own (act.Store 0x0e00 (4 ∷ [])))
    ∷ done (own (act.Store 0x3000 (write_all 3 0x0800)))
    ∷ done (own (act.Doorbell 0x1008 1))
    ∷ done (event.Take 0 1 0)
    ∷ done (other (act.Doorbell 0x1008 1))
    ∷ done (other (act.Store 0x3000 (write_zeroes_over 4)))
    ∷ done (event.Take 1 1 0)
    ∷ told (event.Submit 0 1) reply.Stale
    ∷ done (event.Submit 0 0)
    ∷ done (event.DevTake 0)
    ∷ done (event.Submit 0 2)
    ∷ done (event.DevTake 0)
    ∷ done (event.DevTake 0)
    ∷ done (event.DevTake 0)
    ∷ done (event.DevTake 0)
    ∷ done (event.DevMove 0 3 0)
    ∷ done (event.DevMove 0 1 0)
    ∷ told (event.DevMove 0 1 0) reply.Idle
    ∷ done (event.DevMove 0 0 1)
    ∷ told (event.DevMove 0 0 2) reply.Idle
    ∷ told (event.DevPost 0 1) reply.Idle
    ∷ done (event.DevMove 0 1 1)
    ∷ done (event.DevPost 0 1)
    ∷ done (event.Reap 0)
    ∷ told (event.Post 0 1) reply.Stale
    ∷ told (event.Post 0 0) reply.Stale
    ∷ done (event.DevMove 0 0 0)
    ∷ done (event.DevPost 0 0)
    ∷ done (event.Reap 0)
    ∷ done (event.Post 0 0)
    ∷ told (event.Post 0 0) reply.Stale
    ∷ told (own (act.Load 0x200c 4)) (reply.Bytes (3 ∷ 0 ∷ 1 ∷ 0 ∷ []))
    ∷ done (own (act.Doorbell 0x100c 1))
    ∷ []

-- ---- a part of the neighbour's command fails

-- its second, once its block has moved; the whole fails with it
abbrev pub a_part_fails : List Logged
a_part_fails =
    done (event.DevFail 0 3 (record { sct = 2; sc = 0x81; dnr = false }))
    ∷ done (event.DevMove 0 2 0)
    ∷ done (event.DevPost 0 2)
    ∷ done (event.Reap 0)
    ∷ done (event.Reap 0)
    ∷ told (event.Post 0 2) reply.Stale
    ∷ done (event.DevMove 0 4 0)
    ∷ done (event.DevPost 0 4)
    ∷ done (event.Reap 0)
    ∷ done (event.Post 0 2)
    ∷ told (other (act.Load 0x200c 4)) (reply.Bytes (4 ∷ 0 ∷ 3 ∷ 5 ∷ []))
    ∷ []

-- ---- two Reads, of which one comes late

-- both read what was written: the first is direct, and the second, at an odd address, is bounced. Their four parts are handed on, moved and
-- ended each in another order, and the bounced Read's bytes come once both of its parts have ended
abbrev pub two_reads : List Logged
two_reads =
    done (own (act.Store 0x3040 (read_over 4 0x2400)))
    ∷ done (own (act.Store 0x3080 (read_over 5 0x1801)))
    ∷ done (own (act.Doorbell 0x1008 3))
    ∷ done (event.Take 0 1 0)
    ∷ done (event.Take 0 1 0)
    ∷ done (event.Submit 0 2)
    ∷ done (event.Submit 0 0)
    ∷ done (event.DevTake 0)
    ∷ done (event.DevTake 0)
    ∷ done (event.DevTake 0)
    ∷ done (event.DevTake 0)
    ∷ done (event.DevMove 0 3 0)
    ∷ done (event.DevMove 0 1 0)
    ∷ done (event.DevMove 0 2 0)
    ∷ done (event.DevMove 0 0 0)
    ∷ done (event.DevPost 0 3)
    ∷ done (event.DevPost 0 1)
    ∷ done (event.DevPost 0 2)
    ∷ done (event.Reap 0)
    ∷ told (event.Post 0 2) reply.Stale
    ∷ done (event.Reap 0)
    ∷ done (event.Reap 0)
    ∷ done (event.Post 0 2)
    ∷ told (own (act.Load 0x1800 4)) (reply.Bytes (0 ∷ 7 ∷ 8 ∷ 9 ∷ []))
    ∷ told (own (act.Load 0x1a00 4)) (reply.Bytes (0 ∷ 5 ∷ 6 ∷ 0 ∷ []))
    ∷ told (own (act.Load 0x201c 4)) (reply.Bytes (5 ∷ 0 ∷ 1 ∷ 0 ∷ []))
    ∷ told (event.Post 0 0) reply.Stale
    ∷ done (event.DevPost 0 0)
    ∷ done (event.Reap 0)
    ∷ done (event.Post 0 0)
    ∷ told (own (act.Load 0x2400 4)) (reply.Bytes (7 ∷ 8 ∷ 9 ∷ 0 ∷ []))
    ∷ told (own (act.Load 0x2600 3)) (reply.Bytes (5 ∷ 6 ∷ 0 ∷ []))
    ∷ told (own (act.Load 0x202c 4)) (reply.Bytes (4 ∷ 0 ∷ 1 ∷ 0 ∷ []))
    ∷ done (own (act.Doorbell 0x100c 3))
    ∷ []

-- ---- a range over the join is deallocated

-- blocks 1 and 2; the range of no blocks after it is the first part's, too. The neighbour's Flush moves in between, and keeps all blocks
abbrev pub range_over_the_join : List Logged
range_over_the_join =
    done (own (act.Store 0x3800 (block_range 1 2 ++ block_range 3 0)))
    ∷ done (own (act.Store 0x30c0 (deallocate 6 0x3800)))
    ∷ done (own (act.Doorbell 0x1008 4))
    ∷ done (event.Take 0 1 0)
    ∷ told (event.List 0 1 0x3800 32) reply.Stale
    ∷ told (event.List 0 0 0x3800 32) (reply.Bytes (block_range 1 2 ++ block_range 3 0))
    ∷ done (event.Submit 0 0)
    ∷ done (other (act.Store 0x3040 (flush 5)))
    ∷ done (other (act.Doorbell 0x1008 2))
    ∷ done (event.Take 1 1 0)
    ∷ done (event.Submit 0 2)
    ∷ done (event.DevTake 0)
    ∷ done (event.DevTake 0)
    ∷ done (event.DevTake 0)
    ∷ done (event.DevMove 0 1 0)
    ∷ done (event.DevMove 0 2 0)
    ∷ done (event.DevMove 0 0 1)
    ∷ done (event.DevMove 0 0 0)
    ∷ done (event.DevPost 0 1)
    ∷ done (event.DevPost 0 0)
    ∷ done (event.Reap 0)
    ∷ done (event.Reap 0)
    ∷ done (event.Post 0 0)
    ∷ told (own (act.Load 0x203c 4)) (reply.Bytes (6 ∷ 0 ∷ 1 ∷ 0 ∷ []))
    ∷ done (event.Keep 10)
    ∷ []

-- ---- the whole

abbrev pub story : List Logged
story = bring_up ++ neighbour_comes ++ write_of_all ++ a_part_fails ++ two_reads ++ range_over_the_join
