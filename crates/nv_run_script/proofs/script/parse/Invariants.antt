use Rattle.std.proofs.Common.{◌≡◌, ◌+◌, length}
use Rattle.nv_once_script.specs.OnceWords.{lines_of}
use Rattle.nv_once_script.specs.OnceFold.{after_lines}
use Rattle.nv_run_script.specs.RunScript.{after_line, nothing, progress}
use Rattle.nv_run_script.proofs.script.parse.Given as goal

-- the lines that were read and those that are left make the script
abbrev pub invariant-loop-line : goal.invariant-loop-line
invariant-loop-line l = record {
  count : l.number + length l.lines ≡ length (lines_of l.text);
  kept : after_lines after_line (l.number + 1) (progress l.reading) l.lines ≡ after_lines after_line 1 nothing (lines_of l.text);
}

abbrev pub decreases-loop-line : goal.decreases-loop-line
decreases-loop-line l = length l.lines
