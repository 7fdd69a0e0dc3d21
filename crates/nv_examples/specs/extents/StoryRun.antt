-- The private run of the whole log, written out, and where it ends
use Rattle.std.specs.Prelude.{ℕ, ◌-◌, true, false, List, [], ◌∷◌, ◌++◌, length, map, replicate, take, Option, Some, None}
use Rattle.nv_model.specs.Controller.{Controller, opening}
use Rattle.nv_model.specs.Queue.{new_completion, new_submission}
use Rattle.nv_model.specs.declared.act.Act.TheVariants as act
use Rattle.nv_model.specs.Memory.{bytes_from, image, stored}
use Rattle.nv_model.specs.Private.{ActStep, AdminQueueStep, JudgeStep, KeepStep, MoveStep, PostStep, Private, Run, Step, TakeStep, run_of, start}
use Rattle.nv_model.specs.Rows.{block_range}
use Rattle.nv_world_model.specs.Geometry.{regions_of, shape_of}
use Rattle.nv_world_model.specs.Log.{events_of}
use Rattle.nv_world_model.specs.PrivateSteps.{private_steps}
use Rattle.nv_world_model.specs.Step.{replay}
use Rattle.nv_world_model.specs.declared.logged.Logged.{Logged}
use Rattle.nv_world_model.specs.World.{World}
use Rattle.nv_examples.specs.Guests.{create_completion_queue, create_submission_queue}
use Rattle.nv_examples.specs.extents.Guests.{deallocate, first, opened, read_over, set_up, write_all}
use Rattle.nv_examples.specs.Stepping.{behind_run}
use Rattle.nv_examples.specs.extents.Story.{story}

-- ---- the run

-- the guest brings its controller up
abbrev pub steps_of_bring_up : List Step
steps_of_bring_up =
    ActStep (act.Store 0x0000 (create_completion_queue 4)) ∷ ActStep (act.Store 0x0040 (create_submission_queue 8))
    ∷ ActStep (act.RegWrite 0x24 0x00070007) ∷ ActStep (act.RegWrite 0x30 0x1000) ∷ ActStep (act.RegWrite 0x14 0x00460001)
    ∷ ActStep (act.Doorbell 0x1000 2) ∷ AdminQueueStep ∷ AdminQueueStep ∷ []

-- its Write is one command, which is taken, judged and completed once; its blocks move in the order in which they do in the device
abbrev pub steps_of_write : List Step
steps_of_write =
    ActStep (act.Store 0x0800 (1 ∷ 2 ∷ [])) ∷ ActStep (act.Store 0x0a00 (7 ∷ 8 ∷ 9 ∷ [])) ∷ ActStep (act.Store 0x0c00 (5 ∷ 6 ∷ []))
    ∷ ActStep (act.Store 0x0e00 (4 ∷ [])) ∷ ActStep (act.Store 0x3000 (write_all 3 0x0800)) ∷ ActStep (act.Doorbell 0x1008 1)
    ∷ TakeStep 1 0 ∷ JudgeStep 0 ∷ MoveStep 0 2 ∷ MoveStep 0 1 ∷ MoveStep 0 3 ∷ MoveStep 0 0 ∷ PostStep 0
    ∷ ActStep (act.Load 0x200c 4) ∷ ActStep (act.Doorbell 0x100c 1) ∷ []

-- so are its Reads, by the names of their lowest tags; the blocks of the second move where they do in the device, although its bytes come later
abbrev pub steps_of_reads : List Step
steps_of_reads =
    ActStep (act.Store 0x3040 (read_over 4 0x2400)) ∷ ActStep (act.Store 0x3080 (read_over 5 0x1801)) ∷ ActStep (act.Doorbell 0x1008 3)
    ∷ TakeStep 1 0 ∷ TakeStep 1 2 ∷ JudgeStep 2 ∷ JudgeStep 0 ∷ MoveStep 2 1 ∷ MoveStep 0 1 ∷ MoveStep 2 0 ∷ MoveStep 0 0 ∷ PostStep 2
    ∷ ActStep (act.Load 0x1800 4) ∷ ActStep (act.Load 0x1a00 4) ∷ ActStep (act.Load 0x201c 4) ∷ PostStep 0
    ∷ ActStep (act.Load 0x2400 4) ∷ ActStep (act.Load 0x2600 3) ∷ ActStep (act.Load 0x202c 4) ∷ ActStep (act.Doorbell 0x100c 3) ∷ []

-- the range is one unit a block, and the range of no blocks is none; the neighbour's Flush keeps all four blocks, and one is kept by itself
abbrev pub steps_of_range : List Step
steps_of_range =
    ActStep (act.Store 0x3800 (block_range 1 2 ++ block_range 3 0)) ∷ ActStep (act.Store 0x30c0 (deallocate 6 0x3800))
    ∷ ActStep (act.Doorbell 0x1008 4) ∷ TakeStep 1 0 ∷ JudgeStep 0 ∷ MoveStep 0 1 ∷ KeepStep 0 ∷ KeepStep 1 ∷ KeepStep 2 ∷ KeepStep 3
    ∷ MoveStep 0 0 ∷ PostStep 0 ∷ ActStep (act.Load 0x203c 4) ∷ KeepStep 3 ∷ []

abbrev pub story_steps : List Step
story_steps = steps_of_bring_up ++ steps_of_write ++ steps_of_reads ++ steps_of_range

-- ---- its end

-- the world after the log
abbrev pub story_end : World
story_end = replay set_up (events_of story) opened

-- the run of these steps, and the private controller after it
abbrev pub story_run : Option Run
story_run = run_of (shape_of first) story_steps start

abbrev pub story_private : Private
story_private = behind_run story_run

-- what is examined: the first bytes of each block of its buffers, and its completion slots
abbrev pub places : List (ℕ × ℕ)
places =
    (0x0800, 3) ∷ (0x0a00, 4) ∷ (0x0c00, 3) ∷ (0x0e00, 2) ∷ (0x2400, 4) ∷ (0x2600, 3) ∷ (0x1800, 5) ∷ (0x1a00, 4) ∷ (0x2000, 16)
    ∷ (0x2010, 16) ∷ (0x2020, 16) ∷ (0x2030, 16) ∷ []

abbrev pub bytes_at_places : (ℕ → ℕ) → List (List ℕ)
bytes_at_places memory = map (λ s. bytes_from memory s.0 s.1) places

-- the guest's memory in a world
abbrev pub memory_in : World → ℕ → ℕ
memory_in w = image (regions_of first) w.host

-- what is there: what was written in all buffers, after a byte that is no buffer's where their addresses are odd; and one completion a command
abbrev pub bytes_at_end : List (List ℕ)
bytes_at_end =
    (1 ∷ 2 ∷ 0 ∷ []) ∷ (7 ∷ 8 ∷ 9 ∷ 0 ∷ []) ∷ (5 ∷ 6 ∷ 0 ∷ []) ∷ (4 ∷ 0 ∷ []) ∷ (7 ∷ 8 ∷ 9 ∷ 0 ∷ []) ∷ (5 ∷ 6 ∷ 0 ∷ [])
    ∷ (0 ∷ 7 ∷ 8 ∷ 9 ∷ 0 ∷ []) ∷ (0 ∷ 5 ∷ 6 ∷ 0 ∷ [])
    ∷ (0 ∷ 0 ∷ 0 ∷ 0 ∷ 0 ∷ 0 ∷ 0 ∷ 0 ∷ 1 ∷ 0 ∷ 1 ∷ 0 ∷ 3 ∷ 0 ∷ 1 ∷ 0 ∷ [])
    ∷ (0 ∷ 0 ∷ 0 ∷ 0 ∷ 0 ∷ 0 ∷ 0 ∷ 0 ∷ 3 ∷ 0 ∷ 1 ∷ 0 ∷ 5 ∷ 0 ∷ 1 ∷ 0 ∷ [])
    ∷ (0 ∷ 0 ∷ 0 ∷ 0 ∷ 0 ∷ 0 ∷ 0 ∷ 0 ∷ 3 ∷ 0 ∷ 1 ∷ 0 ∷ 4 ∷ 0 ∷ 1 ∷ 0 ∷ [])
    ∷ (0 ∷ 0 ∷ 0 ∷ 0 ∷ 0 ∷ 0 ∷ 0 ∷ 0 ∷ 4 ∷ 0 ∷ 1 ∷ 0 ∷ 6 ∷ 0 ∷ 1 ∷ 0 ∷ [])
    ∷ []

-- a block of these bytes, and zeros after them
abbrev pub block_of : List ℕ → (offset : ℕ) → ℕ
block_of bytes offset = stored (λ _. 0) 0 (bytes ++ replicate (512 - length bytes) 0) offset

-- the controller: enabled, its admin queues after two commands, and its I/O queues after four
abbrev pub controller_at_end : Controller
controller_at_end =
    record opening {
      cc = 0x00460001;
      aqa = 0x00070007;
      acq_low = 0x1000;
      ready = true;
      submission =
          Some (record (new_submission 0 8 0) { head = 2; tail = 2 }) ∷ Some (record (new_submission 0x3000 8 1) { head = 4; tail = 4 })
          ∷ replicate 7 None;
      completion_queues =
          Some (record (new_completion 0x1000 8 (Some 0)) { tail = 2 }) ∷ Some (record (new_completion 0x2000 4 None) { head = 3; tail = 0; phase = false })
          ∷ replicate 7 None;
    }

-- ---- on the way

-- the log up to where both blocks of the bounced Read have moved, and both ends then
abbrev pub up_to_late : List Logged
up_to_late = take 79 story

abbrev pub late_world : World
late_world = replay set_up (events_of up_to_late) opened

abbrev pub late_private : Private
late_private = behind_run (run_of (shape_of first) (private_steps set_up 0 first up_to_late opened) start)

-- the bytes of the bounced Read, and whether one is awaited, there
abbrev pub read_bytes : (ℕ → ℕ) → List ℕ
read_bytes memory = bytes_from memory 0x1801 3 ++ bytes_from memory 0x1a01 2
