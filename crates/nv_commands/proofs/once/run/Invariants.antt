use Rattle.std.proofs.Common.{ℕ, List, take, map}
use Rattle.std.specs.Io.KnownBytes.{Appends}
use Rattle.nv_once_script.specs.OnceLine.{value_of}
use Rattle.nv_once_script.specs.OnceScript.{script_value}
use Rattle.nv_commands.specs.Once.{HasSizes}
use Rattle.nv_commands.specs.Shown.{AreShown, fresh}
use Rattle.nv_commands.proofs.once.run.Given as goal

abbrev pub invariant-loop-line : goal.invariant-loop-line
invariant-loop-line g l =
    HasSizes (g.C.One.seen l.controller) l.script.memory l.script.blocks
    × (printed : List ℕ) × Appends (g.W.Write.contents l.initial.output) (g.W.Write.contents l.output) printed
    × AreShown g.C.One.built (fresh (script_value l.script)) (take l.line-index (map value_of l.script.lines.items)) printed (g.C.One.seen l.controller)
