-- The private run of the whole log, written out, and where it ends
use Rattle.std.specs.Prelude.{ℕ, true, List, [], ◌∷◌, ◌++◌, map, replicate, take, Option, Some, None}
use Rattle.nv_model.specs.Controller.{Controller, opening}
use Rattle.nv_model.specs.Queue.{new_completion, new_submission}
use Rattle.nv_model.specs.declared.act.Act.TheVariants as act
use Rattle.nv_model.specs.Memory.{bytes_from, image, stored}
use Rattle.nv_model.specs.Private.{ActStep, AdminQueueStep, JudgeStep, KeepStep, MoveStep, PostStep, Private, Run, RunOutStep, Step, TakeStep, run_of, start}
use Rattle.nv_world_model.specs.Geometry.{regions_of, shape_of}
use Rattle.nv_world_model.specs.Log.{events_of}
use Rattle.nv_world_model.specs.PrivateSteps.{private_steps}
use Rattle.nv_world_model.specs.Step.{replay}
use Rattle.nv_world_model.specs.declared.logged.Logged.{Logged}
use Rattle.nv_world_model.specs.World.{World}
use Rattle.nv_examples.specs.Guests.{create_completion_queue, create_submission_queue, delete_completion_queue, delete_submission_queue, first, flush, opened, read, read_by_prp, set_up, write}
use Rattle.nv_examples.specs.Stepping.{behind_run}
use Rattle.nv_examples.specs.Story.{story}

-- ---- the run

-- the guest brings its controller up
abbrev pub steps_of_bring_up : List Step
steps_of_bring_up =
    ActStep (act.Store 0x0000 (create_completion_queue 2)) ∷ ActStep (act.Store 0x0040 (create_submission_queue 4))
    ∷ ActStep (act.RegWrite 0x24 0x00070007) ∷ ActStep (act.RegWrite 0x30 0x1000) ∷ ActStep (act.RegWrite 0x14 0x00460001)
    ∷ ActStep (act.RegRead 0x1c) ∷ ActStep (act.Doorbell 0x1000 2) ∷ AdminQueueStep ∷ AdminQueueStep ∷ ActStep (act.Doorbell 0x1004 2) ∷ []

-- its Write is taken, judged, moved and completed
abbrev pub steps_of_write : List Step
steps_of_write =
    ActStep (act.Store 0x0800 (7 ∷ 8 ∷ 9 ∷ [])) ∷ ActStep (act.Store 0x3000 (write 3 0 0x0800)) ∷ ActStep (act.Doorbell 0x1008 1)
    ∷ TakeStep 1 0 ∷ JudgeStep 0 ∷ MoveStep 0 0 ∷ PostStep 0
    ∷ ActStep (act.Load 0x200c 4) ∷ ActStep (act.Doorbell 0x100c 1) ∷ []

-- so are its Reads, of which the second moves where its block moves in the device, although the guest's bytes come later
abbrev pub steps_of_reads : List Step
steps_of_reads =
    ActStep (act.Store 0x3040 (read_by_prp 4 0 0x0a00)) ∷ ActStep (act.Store 0x3080 (read 5 0 0x0c01)) ∷ ActStep (act.Doorbell 0x1008 3)
    ∷ TakeStep 1 0 ∷ TakeStep 1 1 ∷ JudgeStep 1 ∷ JudgeStep 0 ∷ MoveStep 1 0 ∷ ActStep (act.Load 0x0800 3) ∷ MoveStep 0 0 ∷ PostStep 0
    ∷ ActStep (act.Load 0x0a00 3) ∷ ActStep (act.Load 0x201c 4) ∷ ActStep (act.Doorbell 0x100c 0) ∷ PostStep 1
    ∷ ActStep (act.Load 0x0c00 4) ∷ ActStep (act.Load 0x200c 4) ∷ ActStep (act.Doorbell 0x100c 1) ∷ []

-- a Read runs out after a reset, and the neighbour's Flush keeps both blocks
abbrev pub steps_of_reset : List Step
steps_of_reset =
    ActStep (act.Store 0x30c0 (read 6 0 0x3401)) ∷ ActStep (act.Doorbell 0x1008 0) ∷ TakeStep 1 0 ∷ JudgeStep 0
    ∷ ActStep (act.RegWrite 0x14 0x00460000) ∷ ActStep (act.RegRead 0x1c) ∷ ActStep (act.RegWrite 0x14 0x00460001)
    ∷ MoveStep 0 0 ∷ KeepStep 0 ∷ KeepStep 1 ∷ RunOutStep 0 ∷ ActStep (act.RegRead 0x1c) ∷ ActStep (act.Load 0x3400 4) ∷ []

-- the queues are there again, and a Flush is completed before they go
abbrev pub steps_of_deletion : List Step
steps_of_deletion =
    ActStep (act.RegWrite 0x14 0x00460001) ∷ ActStep (act.Doorbell 0x1000 2) ∷ AdminQueueStep ∷ AdminQueueStep ∷ ActStep (act.Doorbell 0x1004 2)
    ∷ ActStep (act.Store 0x3000 (flush 7)) ∷ ActStep (act.Doorbell 0x1008 1) ∷ TakeStep 1 0
    ∷ ActStep (act.Store 0x0080 (delete_submission_queue 8)) ∷ ActStep (act.Store 0x00c0 (delete_completion_queue 9))
    ∷ ActStep (act.Doorbell 0x1000 4) ∷ AdminQueueStep ∷ JudgeStep 0 ∷ MoveStep 0 0 ∷ PostStep 0 ∷ AdminQueueStep ∷ AdminQueueStep
    ∷ ActStep (act.Doorbell 0x1008 2) ∷ ActStep (act.Load 0x102c 4) ∷ ActStep (act.Load 0x103c 4) ∷ KeepStep 0 ∷ []

abbrev pub story_steps : List Step
story_steps = steps_of_bring_up ++ steps_of_write ++ steps_of_reads ++ steps_of_reset ++ steps_of_deletion

-- ---- its end

-- the world after the log
abbrev pub story_end : World
story_end = replay set_up.geometry (events_of story) opened

-- the run of these steps, and the private controller after it
abbrev pub story_run : Option Run
story_run = run_of (shape_of first) story_steps start

abbrev pub story_private : Private
story_private = behind_run story_run

-- what is examined: the first bytes of each of its buffers, its completion slots, and four of its admin queue's
abbrev pub places : List (ℕ × ℕ)
places = (0x0800, 4) ∷ (0x0a00, 4) ∷ (0x0c00, 5) ∷ (0x3400, 5) ∷ (0x2000, 16) ∷ (0x2010, 16) ∷ (0x1000, 64) ∷ []

abbrev pub bytes_at_places : (ℕ → ℕ) → List (List ℕ)
bytes_at_places memory = map (λ s. bytes_from memory s.0 s.1) places

-- the guest's memory in a world
abbrev pub memory_in : World → ℕ → ℕ
memory_in w = image (regions_of first) w.host

-- what is there: what was written in all buffers, after a byte that is no buffer's where their addresses are odd; the completions of a Flush, in a
-- queue's second life, and of a Read; and those of the admin queue's second life
abbrev pub bytes_at_end : List (List ℕ)
bytes_at_end =
    (7 ∷ 8 ∷ 9 ∷ 0 ∷ []) ∷ (7 ∷ 8 ∷ 9 ∷ 0 ∷ []) ∷ (0 ∷ 7 ∷ 8 ∷ 9 ∷ 0 ∷ []) ∷ (0 ∷ 7 ∷ 8 ∷ 9 ∷ 0 ∷ [])
    ∷ (0 ∷ 0 ∷ 0 ∷ 0 ∷ 0 ∷ 0 ∷ 0 ∷ 0 ∷ 1 ∷ 0 ∷ 1 ∷ 0 ∷ 7 ∷ 0 ∷ 1 ∷ 0 ∷ [])
    ∷ (0 ∷ 0 ∷ 0 ∷ 0 ∷ 0 ∷ 0 ∷ 0 ∷ 0 ∷ 3 ∷ 0 ∷ 1 ∷ 0 ∷ 4 ∷ 0 ∷ 1 ∷ 0 ∷ [])
    ∷ (0 ∷ 0 ∷ 0 ∷ 0 ∷ 0 ∷ 0 ∷ 0 ∷ 0 ∷ 1 ∷ 0 ∷ 0 ∷ 0 ∷ 1 ∷ 0 ∷ 1 ∷ 0
    ∷ 0 ∷ 0 ∷ 0 ∷ 0 ∷ 0 ∷ 0 ∷ 0 ∷ 0 ∷ 2 ∷ 0 ∷ 0 ∷ 0 ∷ 2 ∷ 0 ∷ 1 ∷ 0
    ∷ 0 ∷ 0 ∷ 0 ∷ 0 ∷ 0 ∷ 0 ∷ 0 ∷ 0 ∷ 3 ∷ 0 ∷ 0 ∷ 0 ∷ 8 ∷ 0 ∷ 1 ∷ 0
    ∷ 0 ∷ 0 ∷ 0 ∷ 0 ∷ 0 ∷ 0 ∷ 0 ∷ 0 ∷ 4 ∷ 0 ∷ 0 ∷ 0 ∷ 9 ∷ 0 ∷ 1 ∷ 0 ∷ [])
    ∷ []

-- a block that was written once: these bytes, and zeros
abbrev pub block_at_end : (offset : ℕ) → ℕ
block_at_end offset = stored (λ _. 0) 0 (7 ∷ 8 ∷ 9 ∷ replicate 509 0) offset

-- the controller: enabled, its admin queues after four commands, and no other queue
abbrev pub controller_at_end : Controller
controller_at_end =
    record opening {
      cc = 0x00460001;
      aqa = 0x00070007;
      acq_low = 0x1000;
      ready = true;
      submission = Some (record (new_submission 0 8 0) { head = 4; tail = 4 }) ∷ replicate 8 None;
      completion_queues = Some (record (new_completion 0x1000 8 (Some 0)) { head = 2; tail = 4 }) ∷ replicate 8 None;
    }

-- ---- on the way

-- the log up to where the bounced Read's block has moved, and both ends then
abbrev pub up_to_late : List Logged
up_to_late = take 56 story

abbrev pub late_world : World
late_world = replay set_up.geometry (events_of up_to_late) opened

abbrev pub late_private : Private
late_private = behind_run (run_of (shape_of first) (private_steps set_up.geometry 0 first up_to_late opened) start)
