-- Worked examples: steps that are wrong, each of which would let a guest be seen or changed by another
use Rattle.std.specs.Prelude.{ℕ, ◌==◌, List, [], ◌∷◌, ◌++◌, map, true, not, ◌&&◌, if◌then◌else◌, slice_get, Option, Some, None}
use Rattle.nv_entry.specs.Status.{StatusField}
use Rattle.nv_entry.specs.StatusCode.{done_with}
use Rattle.nv_entry.specs.Submission.{cid_of}
use Rattle.nv_entry.specs.declared.status_code.StatusCode.TheVariants.{Success}
use Rattle.nv_ns.specs.BlockRange.{Extent}
use Rattle.nv_model.specs.declared.act.Act.TheVariants as act
use Rattle.nv_model.specs.declared.reply.Reply.TheVariants as reply
use Rattle.nv_model.specs.Controller.{post}
use Rattle.nv_model.specs.Memory.{stored}
use Rattle.nv_model.specs.Rows.{block_range, by_sgl, data_block, first_example, manage}
use Rattle.nv_world_model.specs.declared.event.Event.{Event}
use Rattle.nv_world_model.specs.declared.event.Event.TheVariants as event
use Rattle.nv_world_model.specs.Geometry.{Geometry}
use Rattle.nv_world_model.specs.Plan.{plan_over}
use Rattle.nv_world_model.specs.Rows.{behind, guest_at, holding, in_device, moves, one_command, one_command_on, set_up, world_with}
use Rattle.nv_world_model.specs.Seat.{Owner, owner_of}
use Rattle.nv_world_model.specs.Step.{After, deciding, for_one, for_ended, for_owner, for_taken, post_by, replay, replied, statuses_of, submit_by}
use Rattle.nv_world_model.specs.World.{World, group, tag_of, with_host}

-- ---- a failed Read is delivered

-- the status of a command all of whose tags have ended
abbrev pub for_statuses : Option (List StatusField) → World → (StatusField → After) → After
for_statuses None w more = replied reply.Stale w
for_statuses (Some sts) w more = more (deciding sts)

-- a Post that delivers the bytes of a bounced Read whatever its status
abbrev pub delivered_anyway : (geometry : Geometry) (lane tag : ℕ) → World → After
delivered_anyway geometry lane tag w =
    for_ended tag (tag_of w lane tag) w (λ command.
    for_owner (owner_of geometry w command.guest) w (λ o.
    (let tags = group w lane tag in
    for_statuses (statuses_of lane tags w) w (λ st.
    post_by (post o.controller command.queue 0 (cid_of command.entry) st) (done_with Success) geometry.mediator lane tags o w))))

-- Data Transfer Error
abbrev pub data_transfer_error : StatusField
data_transfer_error = record { sct = 0; sc = 0x04; dnr = true }

-- a bounced Read whose block was moved, and which failed
abbrev pub read_failed : World
read_failed =
    behind (in_device ++ moves 1 ++ event.DevFail 0 0 data_transfer_error ∷ event.Reap 0 ∷ [])
    (one_command (by_sgl 0x02 5 0 (data_block 0x3002 512))) (λ w. w)

-- a guest's command goes through the first tag, and fails before any of its units has moved
abbrev pub failed_unmoved : (guest : ℕ) → List Event
failed_unmoved guest = event.Take guest 1 0 ∷ event.Submit 0 0 ∷ event.DevTake 0 ∷ event.DevFail 0 0 data_transfer_error ∷ event.Reap 0 ∷ []

-- so does the second guest's Write, whose source is in the bounce pages from then on, and next the first guest's Read
abbrev pub old_bytes_left : World
old_bytes_left =
    behind (failed_unmoved 1 ++ event.Post 0 0 ∷ failed_unmoved 0)
    (world_with
    (stored (stored (holding 0x113000 (by_sgl 0x02 5 0 (data_block 0x3002 512))) 0x213000 (by_sgl 0x01 5 0 (data_block 0x3002 512)))
    0x203002 (7 ∷ [])) 16 1 1) (λ w. w)

-- ---- a completion goes astray

-- a Post whose completion is put in this guest's queue, whoever's command it is
abbrev pub posted_astray : (geometry : Geometry) (guest lane tag : ℕ) → World → After
posted_astray geometry guest lane tag w =
    for_ended tag (tag_of w lane tag) w (λ command.
    for_owner (owner_of geometry w guest) w (λ o.
    (let tags = group w lane tag in
    for_statuses (statuses_of lane tags w) w (λ st.
    post_by (post o.controller command.queue 0 (cid_of command.entry) st) st geometry.mediator lane tags o w))))

-- a Read of the first guest that has ended
abbrev pub read_ended : World
read_ended = behind (in_device ++ moves 1 ++ event.DevPost 0 0 ∷ event.Reap 0 ∷ []) (one_command first_example) (λ w. w)

-- ---- blocks and ranges are not translated

-- the same set-up, where the second guest's blocks begin with block 0 of the disk
abbrev pub low_set_up : Geometry
low_set_up = record set_up { guests = guest_at 0x100000 1000 ∷ guest_at 0x200000 0 ∷ [] }

-- a guest whose own numbers of blocks are taken for the disk's
abbrev pub as_if_at_zero : Owner → Owner
as_if_at_zero o = record o { given = record o.given { namespace = map (λ (e : Extent). record e { base = 0 }) o.given.namespace } }

-- a Submit that adds no base to the guest's blocks: neither to those of the entry, nor to those of its ranges
abbrev pub submitted_untranslated : (geometry : Geometry) (lane tag : ℕ) → World → After
submitted_untranslated geometry lane tag w =
    for_taken tag (tag_of w lane tag) w (λ command reads.
    for_owner (owner_of geometry w command.guest) w (λ o.
    for_one (slice_get w.device lane) w (λ d.
    submit_by (plan_over o.given command.entry reads) geometry.mediator lane (group w lane tag) command (as_if_at_zero o) w)))

-- the first guest's command is taken, its lists are read by these events, it is handed on so, and the device has it
abbrev pub untranslated : (reads : List Event) → World → World
untranslated reads w =
    replay low_set_up (event.DevTake 0 ∷ [])
    (submitted_untranslated low_set_up 0 0 (replay low_set_up (event.Take 0 1 0 ∷ reads) w)).world

-- a Write Zeroes of its block 6
abbrev pub clear_untranslated : World
clear_untranslated = untranslated [] (one_command (by_sgl 0x08 6 0 (data_block 0x3000 512)))

-- a Read of its block 6
abbrev pub read_untranslated : World
read_untranslated = untranslated [] (one_command (by_sgl 0x02 6 0 (data_block 0x3000 512)))

-- a Dataset Management of its blocks 6 and 7
abbrev pub ranges_untranslated : World
ranges_untranslated =
    untranslated (event.List 0 0 0x3000 16 ∷ []) (one_command_on 0x3000 (block_range 6 2) (manage true 0 (data_block 0x3000 16)))

-- ---- a store is not mapped

-- a Store to the host's address of that number
abbrev pub stored_unmapped : (addr : ℕ) → List ℕ → World → After
stored_unmapped addr bytes w = replied reply.Done (with_host (stored w.host addr bytes) w)

-- ---- a reply reports another's byte

-- a Load of a byte of the host
abbrev pub loaded_unmapped : (addr : ℕ) → World → After
loaded_unmapped addr w = replied (reply.Bytes (w.host addr ∷ [])) w

-- a world in which the second guest has stored a byte
abbrev pub second_stored : World
second_stored = behind (event.Guest 1 (act.Store 0x3000 (7 ∷ [])) ∷ []) (one_command first_example) (λ w. w)

-- ---- what is nobody's, and marks

-- a change of block 500, which is nobody's
abbrev pub stray_block : World → After
stray_block w = replied reply.Done (record w { disk = (λ lba offset. if lba == 500 then 7 else w.disk lba offset) })

-- its mark is lost
abbrev pub mark_lost : World → After
mark_lost w = replied reply.Done (record w { kept = (λ lba. not (lba == 500) && w.kept lba) })

-- the second guest's mark of block 2000 is taken for the first guest's of block 1000
abbrev pub mark_told : World → After
mark_told w = replied reply.Done (record w { kept = (λ lba. if lba == 1000 then w.kept 2000 else w.kept lba) })

-- a Keep that takes the device's lanes away
abbrev pub kept_and_more : World → After
kept_and_more w = replied reply.Done (record w { device = [] })

-- a world in which each block is kept, and one in which block 2000 alone is
abbrev pub all_kept : World
all_kept = record (one_command first_example) { kept = (λ lba. true) }

abbrev pub second_kept : World
second_kept = record (one_command first_example) { kept = (λ lba. lba == 2000) }
