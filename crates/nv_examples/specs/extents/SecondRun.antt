-- The private run of the second log, written out, and where it ends
use Rattle.std.specs.Prelude.{ℕ, List, [], ◌∷◌, ◌++◌, map, Option}
use Rattle.nv_model.specs.declared.act.Act.TheVariants as act
use Rattle.nv_model.specs.Memory.{image}
use Rattle.nv_model.specs.Private.{ActStep, AdminQueueStep, GiveUpStep, JudgeStep, MoveStep, PostStep, Private, Run, RunOutStep, Step, TakeStep, run_of, start}
use Rattle.nv_model.specs.Rows.{block_range, command, data_block, last_segment}
use Rattle.nv_world_model.specs.Geometry.{regions_of, shape_of}
use Rattle.nv_world_model.specs.Log.{events_of}
use Rattle.nv_world_model.specs.Step.{replay}
use Rattle.nv_world_model.specs.World.{World}
use Rattle.nv_examples.specs.Guests.{by_sgl, create_completion_queue, create_submission_queue}
use Rattle.nv_examples.specs.Stepping.{behind_run}
use Rattle.nv_examples.specs.extents.Guests.{neighbour, opened, read_over, set_up}
use Rattle.nv_examples.specs.extents.SecondStory.{both_pieces, second_story, too_short}

-- ---- the run

-- the guest stores bytes, loads some, or rings so many of its commands
abbrev pub puts_step : (addr : ℕ) → List ℕ → Step
puts_step addr bytes = ActStep (act.Store addr bytes)

abbrev pub gets_step : (addr len : ℕ) → Step
gets_step addr len = ActStep (act.Load addr len)

abbrev pub tolls_step : (tail : ℕ) → Step
tolls_step tail = ActStep (act.Doorbell 0x1008 tail)

abbrev pub steps_of_bring_up : List Step
steps_of_bring_up =
    puts_step 0x0000 (create_completion_queue 8) ∷ puts_step 0x0040 (create_submission_queue 8)
    ∷ ActStep (act.RegWrite 0x24 0x00070007) ∷ ActStep (act.RegWrite 0x30 0x1000) ∷ ActStep (act.RegWrite 0x14 0x00460001)
    ∷ ActStep (act.Doorbell 0x1000 2) ∷ AdminQueueStep ∷ AdminQueueStep ∷ []

-- each command is taken, judged and completed once, by the name of the lowest of its tags
abbrev pub steps_of_write : List Step
steps_of_write =
    puts_step 0x0801 (1 ∷ 2 ∷ []) ∷ puts_step 0x0a01 (3 ∷ 4 ∷ []) ∷ puts_step 0x1401 (9 ∷ []) ∷ puts_step 0x1545 (5 ∷ 6 ∷ [])
    ∷ puts_step 0x3800 both_pieces ∷ puts_step 0x3000 (by_sgl 0x01 3 1 2 (last_segment 0x3800 32)) ∷ tolls_step 1
    ∷ TakeStep 1 2 ∷ JudgeStep 2 ∷ MoveStep 2 2 ∷ MoveStep 2 0 ∷ MoveStep 2 1 ∷ PostStep 2 ∷ gets_step 0x200c 4 ∷ []

abbrev pub steps_of_compare : List Step
steps_of_compare =
    puts_step 0x2400 (1 ∷ 2 ∷ []) ∷ puts_step 0x2600 (3 ∷ 4 ∷ []) ∷ puts_step 0x26bc (9 ∷ []) ∷ puts_step 0x2800 (5 ∷ 7 ∷ [])
    ∷ puts_step 0x3040 (by_sgl 0x05 4 1 2 (data_block 0x2400 1536)) ∷ tolls_step 2
    ∷ TakeStep 1 2 ∷ JudgeStep 2 ∷ MoveStep 2 2 ∷ MoveStep 2 1 ∷ MoveStep 2 0 ∷ PostStep 2 ∷ gets_step 0x201c 4 ∷ []

abbrev pub steps_of_range : List Step
steps_of_range =
    puts_step 0x3840 (block_range 3 1) ∷ puts_step 0x3080 (command 0x00054009 1 (data_block 0x3840 16) 0 4 0) ∷ tolls_step 3
    ∷ TakeStep 1 2 ∷ JudgeStep 2 ∷ MoveStep 2 0 ∷ PostStep 2 ∷ gets_step 0x202c 4 ∷ []

abbrev pub steps_ended_early : List Step
steps_ended_early =
    puts_step 0x30c0 (read_over 6 0x2c00 ++ too_short) ∷ tolls_step 5 ∷ TakeStep 1 2 ∷ GiveUpStep 2 ∷ PostStep 2 ∷ gets_step 0x203c 4
    ∷ TakeStep 1 2 ∷ JudgeStep 2 ∷ PostStep 2 ∷ gets_step 0x204c 4 ∷ []

abbrev pub steps_run_out : List Step
steps_run_out =
    puts_step 0x3140 (read_over 8 0x1801) ∷ tolls_step 6 ∷ TakeStep 1 2 ∷ JudgeStep 2 ∷ MoveStep 2 1 ∷ ActStep (act.RegWrite 0x14 0x00460000)
    ∷ ActStep (act.RegRead 0x1c) ∷ MoveStep 2 0 ∷ RunOutStep 2 ∷ ActStep (act.RegRead 0x1c) ∷ gets_step 0x1800 4 ∷ gets_step 0x1a00 4 ∷ []

abbrev pub second_steps : List Step
second_steps = steps_of_bring_up ++ steps_of_write ++ steps_of_compare ++ steps_of_range ++ steps_ended_early ++ steps_run_out

-- ---- its end

abbrev pub second_run : Option Run
second_run = run_of (shape_of neighbour) second_steps start

abbrev pub second_private : Private
second_private = behind_run second_run

abbrev pub second_end : World
second_end = replay set_up (events_of second_story) opened

-- bytes of a block: its first two, and those where the second piece of the Write begins in block 2
abbrev pub bytes_of_block : (disk : ℕ → ℕ → ℕ) → (at : ℕ) → List ℕ
bytes_of_block disk at = disk at 0 ∷ disk at 1 ∷ disk at 187 ∷ disk at 188 ∷ disk at 511 ∷ []

abbrev pub bytes_of_blocks : (disk : ℕ → ℕ → ℕ) → (blocks : List ℕ) → List (List ℕ)
bytes_of_blocks disk blocks = map (bytes_of_block disk) blocks

-- the guest's memory in a world
abbrev pub second_memory : World → ℕ → ℕ
second_memory w = image (regions_of neighbour) w.host
