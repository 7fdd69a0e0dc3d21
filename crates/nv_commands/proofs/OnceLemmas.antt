-- What a script in range says of a controller of its sizes
use Rattle.std.proofs.Common.{◌≡◌, ℕ, ◌<◌, true, List, length, get_or, sym, ap, ◌∙◌, arith}
use Rattle.std.specs.List.{AllPass}
use Rattle.std.specs.Prelude.{map}
use Rattle.std.proofs.lemmas.List.{get_or-map, length-map}
use Rattle.nv_disk.specs.Flat.{Flat}
use Rattle.nv_once_script.specs.declared.once.line.Line.{Line}
use Rattle.nv_once_script.specs.OnceLine.{is_there, value_of}
use Rattle.nv_commands.specs.Once.{HasSizes, IsThere}

-- each line names bytes and blocks of a controller of the script's sizes
pub IsThere-in_range : (controller : Flat) (memory blocks : ℕ) (lines : List Line) (k : ℕ) (line : Line)
    → HasSizes controller memory blocks
    → AllPass (is_there (record { memory = memory; blocks = blocks })) (map value_of lines) → k < length lines
    → line ≡ get_or lines k line → IsThere controller (value_of line)
IsThere-in_range controller memory blocks lines k line sizes there below at =
    let named : get_or (map value_of lines) k (value_of line) ≡ value_of line = get_or-map value_of lines k line (value_of line) below ∙ ap value_of (sym at) in
    let here : is_there (record { memory = memory; blocks = blocks }) (get_or (map value_of lines) k (value_of line)) ≡ true = there k (value_of line) (omega (arith, length-map lines value_of)) in
    rw (sizes.memory_size, sizes.disk_size)
    (ap (is_there (record { memory = memory; blocks = blocks })) (sym named) ∙ here)
