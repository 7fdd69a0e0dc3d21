-- Worked examples: lines after a set-up of two guests
use Rattle.std.specs.Prelude.{ℕ, List, [], ◌∷◌, ◌++◌, Result}
use Rattle.nv_once_script.specs.declared.once.fault.ScriptFault.{ScriptFault}
use Rattle.nv_replay_script.specs.ReplayRows.{guest_at, guest_lines, size_lines, text_of}
use Rattle.nv_run_script.specs.declared.line.Line.{Line}
use Rattle.nv_run_script.specs.RunScript.{ScriptValue, script_of}

-- what these lines are after the whole set-up: the first of them is line 9
abbrev pub behind_set_up : List (List ℕ) → Result ScriptValue ScriptFault
behind_set_up lines = script_of (text_of (size_lines ++ guest_lines ++ lines))

-- a script of the whole set-up with these lines
abbrev pub of_lines : List Line → ScriptValue
of_lines lines =
    record {
      sizes = record { host = 0x1000000; mediator = 0x400000; disk = 4096; lanes = 1 };
      guests = guest_at 0x100000 1000 ∷ guest_at 0x200000 2000 ∷ [];
      lines = lines;
    }
