-- What a script prints, line by line
use Rattle.std.specs.Prelude.{◌≡◌, ℕ, Bool, true, false, List, [], ◌∷◌, ◌++◌, replicate, slice_set, Option, IfSome, Ok}
use Rattle.std.specs.Io.KnownBytes.{Appends}
use Rattle.std.specs.List.{slice_index_or}
use Rattle.nv_entry.specs.Completion.{completion}
use Rattle.nv_entry.specs.Status.{StatusField}
use Rattle.nv_entry.specs.Submission.{cid_of}
use Rattle.nv_mem.specs.Bytes.{after_store, bytes_at}
use Rattle.nv_model.specs.Limits.{block as block_size}
use Rattle.nv_disk.specs.Flat.{Flat, flat}
use Rattle.nv_flat.specs.One.{IsDone}
use Rattle.nv_once_script.specs.OnceLine.{LineValue, Store, Fill, Paint, Command, Dump, Block}
use Rattle.nv_once_script.specs.OnceScript.{ScriptValue, script_of}
use Rattle.nv_print.specs.Printed.{dump_line, hex_line}

-- what a line prints, and the controller as it leaves it: a command is done as the first of a fresh queue 1, and prints its completion
abbrev pub IsShown : (built : List ℕ → Bool) → (old : Flat) → LineValue → (printed : List ℕ) → (new : Flat) → Type 0
IsShown built old (Store addr bytes) printed new = (printed ≡ []) × (new ≡ flat (after_store old.memory addr bytes) old.disk old.kept)
IsShown built old (Fill addr len byte) printed new = (printed ≡ []) × (new ≡ flat (after_store old.memory addr (replicate len byte)) old.disk old.kept)
IsShown built old (Paint block byte) printed new = (printed ≡ []) × (new ≡ flat old.memory (slice_set old.disk block (replicate block_size byte)) old.kept)
IsShown built old (Command entry) printed new =
    (st : StatusField) × IsDone built old entry st new × (printed ≡ hex_line (completion 0 1 1 (cid_of entry) true st))
IsShown built old (Dump addr len) printed new = (printed ≡ dump_line (bytes_at old.memory addr len)) × (new ≡ old)
IsShown built old (Block block) printed new = (printed ≡ hex_line (slice_index_or old.disk block [])) × (new ≡ old)

-- what lines print one after another
unfoldable pub AreShown : (built : List ℕ → Bool) → (old : Flat) → List LineValue → (printed : List ℕ) → (new : Flat) → Type 0
AreShown built old [] printed new = (printed ≡ []) × (new ≡ old)
AreShown built old (line ∷ lines) printed new =
    (first : List ℕ) × (rest : List ℕ) × (between : Flat)
    × IsShown built old line first between × AreShown built between lines rest new × (printed ≡ first ++ rest)

-- a controller as a script begins with it: all zeros, and no mark set
abbrev pub fresh : ScriptValue → Flat
fresh script = flat (replicate script.sizes.memory 0) (replicate script.sizes.blocks (replicate block_size 0)) (replicate script.sizes.blocks false)

-- what a script prints on a controller that carries these commands out
abbrev pub IsPrinted : (built : List ℕ → Bool) → ScriptValue → (printed : List ℕ) → Type 0
IsPrinted built script printed = (last : Flat) × AreShown built (fresh script) script.lines printed last

-- an output has grown by what a line prints
abbrev pub Shows : (built : List ℕ → Bool) → (old : Flat) → LineValue → (before after : Option (List ℕ)) → (new : Flat) → Type 0
Shows built old line before after new = (printed : List ℕ) × Appends before after printed × IsShown built old line printed new

-- an output has grown by what a script prints
abbrev pub PrintsScript : (built : List ℕ → Bool) → ScriptValue → (before after : Option (List ℕ)) → Type 0
PrintsScript built script before after = (printed : List ℕ) × Appends before after printed × IsPrinted built script printed

-- the text is a script, where it is known, and an output has grown by what it prints
abbrev pub PrintsText : (built : List ℕ → Bool) → (text before after : Option (List ℕ)) → Type 0
PrintsText built text before after =
    IfSome text (λ bytes. (script : ScriptValue) × (script_of bytes ≡ Ok script) × PrintsScript built script before after)
