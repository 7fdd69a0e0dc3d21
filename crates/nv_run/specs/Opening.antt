-- The world that a script of `run` opens (profile)
use Rattle.std.specs.Prelude.{ℕ, List, Result}
use Rattle.std.specs.Result.{result_map_both}
use Rattle.nv_replay.specs.Opening.{set_up_of}
use Rattle.nv_replay.specs.Refused.{of_script}
use Rattle.nv_replay.specs.declared.fault.ReplayFault.{ReplayFault}
use Rattle.nv_run_script.specs.RunScript.{script_of}
use Rattle.nv_once_script.specs.OnceFault.{◌>>=◌}
use Rattle.nv_world_model.specs.SetUp.{SetUp}

-- the set-up of the world that a text opens
unfoldable pub run_of : List ℕ → Result SetUp ReplayFault
run_of text = do
  script ← result_map_both (λ s. s) of_script (script_of text)
  set_up_of script.sizes script.guests
