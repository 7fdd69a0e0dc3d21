-- The log of a disciplined guest beside a hostile one, from the start of their world on
use Rattle.std.specs.Prelude.{false, List, [], ◌∷◌, ◌++◌, replicate}
use Rattle.nv_model.specs.declared.act.Act.TheVariants as act
use Rattle.nv_model.specs.declared.reply.Reply.TheVariants as reply
use Rattle.nv_model.specs.Rows.{last_segment}
use Rattle.nv_world_model.specs.declared.event.Event.TheVariants as event
use Rattle.nv_world_model.specs.declared.logged.Logged.{Logged}
use Rattle.nv_examples.specs.Guests.{by_sgl, create_completion_queue, create_submission_queue, delete_completion_queue, delete_submission_queue, flush, other, own, read, read_by_prp, write}
use Rattle.nv_examples.specs.Logs.{done, told}

-- ---- the first guest brings its controller up

-- admin queues of eight slots each, at 0 and at 1000h, a completion queue of two slots and a submission queue of four
abbrev pub bring_up : List Logged
bring_up =
    done (own (act.Store 0x0000 (create_completion_queue 2)))
    ∷ done (own (act.Store 0x0040 (create_submission_queue 4)))
    ∷ done (own (act.RegWrite 0x24 0x00070007))
    ∷ done (own (act.RegWrite 0x30 0x1000))
    ∷ done (own (act.RegWrite 0x14 0x00460001))
    ∷ told (own (act.RegRead 0x1c)) (reply.Bytes (1 ∷ 0 ∷ 0 ∷ 0 ∷ []))
    ∷ done (own (act.Doorbell 0x1000 2))
    ∷ done (event.Admin 0)
    ∷ done (event.Admin 0)
    ∷ told (event.Admin 0) reply.Idle
    ∷ done (own (act.Doorbell 0x1004 2))
    ∷ []

-- ---- so does its neighbour, which is hostile

-- garbage is its first admin command; it rings what isn't there, and reaches for what it was not given
abbrev pub neighbour_comes : List Logged
neighbour_comes =
    done (other (act.RegWrite 0x24 0x00030003))
    ∷ done (other (act.RegWrite 0x30 0x1000))
    ∷ done (other (act.RegWrite 0x14 0x00460001))
    ∷ done (other (act.Store 0x0000 (replicate 64 0xff)))
    ∷ told (other (act.Doorbell 0x1000 9)) reply.Ignored
    ∷ done (other (act.Doorbell 0x1000 1))
    ∷ done (event.Admin 1)
    ∷ told (other (act.Store 0x4000 (1 ∷ []))) reply.Unmapped
    ∷ told (other (act.Load 0x10000 1)) reply.Unmapped
    ∷ told (other (act.Doorbell 0x1008 1)) reply.Ignored
    ∷ done (other (act.Store 0x0040 (create_completion_queue 2)))
    ∷ done (other (act.Store 0x0080 (create_submission_queue 4)))
    ∷ done (other (act.Doorbell 0x1000 3))
    ∷ done (event.Admin 1)
    ∷ done (event.Admin 1)
    ∷ []

-- ---- a Write is direct

-- its buffer is aligned; the neighbour's Read has a list, which the neighbour fills with garbage once it was read in part, and a buffer
-- over its own entry
abbrev pub direct_write : List Logged
direct_write =
    done (own (act.Store 0x0800 (7 ∷ 8 ∷ 9 ∷ [])))
    ∷ done (own (act.Store 0x3000 (write 3 0 0x0800)))
    ∷ done (own (act.Doorbell 0x1008 1))
    ∷ done (event.Take 0 1 0)
    ∷ done (other (act.Store 0x3000 (by_sgl 0x02 3 0 0 (last_segment 0x3800 16))))
    ∷ done (other (act.Doorbell 0x1008 1))
    ∷ done (event.Take 1 1 0)
    ∷ done (event.Submit 0 0)
    ∷ told (event.List 0 1 0x3800 16) (reply.Bytes (replicate 16 0))
    ∷ done (other (act.Store 0x3800 (replicate 16 0xee)))
    ∷ done (event.DevTake 0)
    ∷ done (event.Submit 0 1)
    ∷ done (event.DevMove 0 0 0)
    ∷ told (event.DevMove 0 0 0) reply.Idle
    ∷ done (event.DevPost 0 0)
    ∷ done (event.Reap 0)
    ∷ done (event.Post 0 1)
    ∷ done (event.Post 0 0)
    ∷ told (own (act.Load 0x200c 4)) (reply.Bytes (3 ∷ 0 ∷ 1 ∷ 0 ∷ []))
    ∷ done (own (act.Doorbell 0x100c 1))
    ∷ []

-- ---- two Reads, of which one comes late

-- one by PRP, which is direct, and one whose buffer is at an odd address, which is bounced: the device moves its block first, but the
-- completion queue has one slot only, and so the guest has its bytes once it has taken the other's completion
abbrev pub two_reads : List Logged
two_reads =
    done (own (act.Store 0x3040 (read_by_prp 4 0 0x0a00)))
    ∷ done (own (act.Store 0x3080 (read 5 0 0x0c01)))
    ∷ done (own (act.Doorbell 0x1008 3))
    ∷ done (event.Take 0 1 0)
    ∷ done (event.Take 0 1 0)
    ∷ done (event.Submit 0 1)
    ∷ done (event.Submit 0 0)
    ∷ done (event.DevTake 0)
    ∷ done (event.DevTake 0)
    ∷ done (event.DevMove 0 1 0)
    ∷ told (own (act.Load 0x0800 3)) (reply.Bytes (7 ∷ 8 ∷ 9 ∷ []))
    ∷ done (event.DevMove 0 0 0)
    ∷ done (event.DevPost 0 1)
    ∷ done (event.DevPost 0 0)
    ∷ done (event.Reap 0)
    ∷ done (event.Reap 0)
    ∷ done (event.Post 0 0)
    ∷ told (event.Post 0 1) reply.Held
    ∷ told (own (act.Load 0x0a00 3)) (reply.Bytes (7 ∷ 8 ∷ 9 ∷ []))
    ∷ told (own (act.Load 0x201c 4)) (reply.Bytes (4 ∷ 0 ∷ 1 ∷ 0 ∷ []))
    ∷ done (own (act.Doorbell 0x100c 0))
    ∷ done (event.Post 0 1)
    ∷ told (own (act.Load 0x0c00 4)) (reply.Bytes (0 ∷ 7 ∷ 8 ∷ 9 ∷ []))
    ∷ told (own (act.Load 0x200c 4)) (reply.Bytes (5 ∷ 0 ∷ 0 ∷ 0 ∷ []))
    ∷ done (own (act.Doorbell 0x100c 1))
    ∷ []

-- ---- a reset with a command in flight

-- RDY stays until the command has run out, and its bytes arrive after the reset; the neighbour's Flush moves, and then fails
abbrev pub reset_in_flight : List Logged
reset_in_flight =
    done (own (act.Store 0x30c0 (read 6 0 0x3401)))
    ∷ done (own (act.Doorbell 0x1008 0))
    ∷ done (event.Take 0 1 0)
    ∷ done (event.Submit 0 0)
    ∷ done (event.DevTake 0)
    ∷ done (other (act.Store 0x3040 (flush 4)))
    ∷ done (other (act.Doorbell 0x1008 2))
    ∷ done (own (act.RegWrite 0x14 0x00460000))
    ∷ told (own (act.RegRead 0x1c)) (reply.Bytes (1 ∷ 0 ∷ 0 ∷ 0 ∷ []))
    ∷ told (own (act.RegWrite 0x14 0x00460001)) reply.Ignored
    ∷ done (event.DevMove 0 0 0)
    ∷ done (event.Take 1 1 0)
    ∷ done (event.Submit 0 1)
    ∷ done (event.DevTake 0)
    ∷ done (event.DevMove 0 1 0)
    ∷ done (event.DevFail 0 1 (record { sct = 2; sc = 0x81; dnr = false }))
    ∷ done (event.DevPost 0 0)
    ∷ done (event.Reap 0)
    ∷ done (event.Reap 0)
    ∷ told (event.Post 0 1) reply.Held
    ∷ done (event.Post 0 0)
    ∷ told (own (act.RegRead 0x1c)) (reply.Bytes (0 ∷ 0 ∷ 0 ∷ 0 ∷ []))
    ∷ told (own (act.Load 0x3400 4)) (reply.Bytes (0 ∷ 7 ∷ 8 ∷ 9 ∷ []))
    ∷ []

-- ---- its queues are there again, and are deleted

-- the deletion of the submission queue waits for a Flush that was taken
abbrev pub deletion : List Logged
deletion =
    done (own (act.RegWrite 0x14 0x00460001))
    ∷ done (own (act.Doorbell 0x1000 2))
    ∷ done (event.Admin 0)
    ∷ done (event.Admin 0)
    ∷ done (own (act.Doorbell 0x1004 2))
    ∷ done (own (act.Store 0x3000 (flush 7)))
    ∷ done (own (act.Doorbell 0x1008 1))
    ∷ done (event.Take 0 1 0)
    ∷ done (own (act.Store 0x0080 (delete_submission_queue 8)))
    ∷ done (own (act.Store 0x00c0 (delete_completion_queue 9)))
    ∷ done (own (act.Doorbell 0x1000 4))
    ∷ done (event.Admin 0)
    ∷ told (event.Admin 0) reply.Idle
    ∷ done (event.Submit 0 0)
    ∷ done (event.DevTake 0)
    ∷ done (event.DevMove 0 0 0)
    ∷ done (event.DevPost 0 0)
    ∷ done (event.Reap 0)
    ∷ done (event.Post 0 0)
    ∷ done (event.Admin 0)
    ∷ done (event.Admin 0)
    ∷ told (own (act.Doorbell 0x1008 2)) reply.Ignored
    ∷ told (own (act.Load 0x102c 4)) (reply.Bytes (8 ∷ 0 ∷ 1 ∷ 0 ∷ []))
    ∷ told (own (act.Load 0x103c 4)) (reply.Bytes (9 ∷ 0 ∷ 1 ∷ 0 ∷ []))
    ∷ done (event.Keep 2)
    ∷ []

-- ---- the whole

abbrev pub story : List Logged
story = bring_up ++ neighbour_comes ++ direct_write ++ two_reads ++ reset_in_flight ++ deletion
