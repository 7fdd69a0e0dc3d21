-- The first words of lines. The language is one: each word of each subcommand is known to all.
use Rattle.std.specs.Prelude.{ℕ, nat_lt, List, [], ◌∷◌, codes, Option, Result, Ok, Err, if◌then◌else◌}
use Rattle.std.specs.Map.{lookup}
use Rattle.std.specs.Str.{bytes_eq}
use Rattle.nv_once_script.specs.declared.once.fault.FaultKind.{FaultKind}
use Rattle.nv_once_script.specs.declared.once.fault.FaultKind.TheVariants.{MissingWord, TooManyWords}
use Rattle.nv_once_script.specs.declared.once.vocabulary.Keyword.{Keyword}
use Rattle.nv_once_script.specs.declared.once.vocabulary.Keyword.TheVariants.{Memory, Blocks, Store, Fill, Paint, Cmd, Dump, Block, Foreign}

-- the first words, and the lines that they begin. A line of another subcommand keeps only how many words come after its first; of `store` and
-- `fill` it is the count of `once`.
unfoldable pub vocabulary : List (List ℕ × Keyword)
vocabulary =
    (codes "memory", Memory) ∷ (codes "blocks", Blocks) ∷ (codes "store", Store) ∷ (codes "fill", Fill)
    ∷ (codes "paint", Paint) ∷ (codes "cmd", Cmd) ∷ (codes "dump", Dump) ∷ (codes "block", Block)
    ∷ (codes "host", Foreign 1) ∷ (codes "mediator", Foreign 1) ∷ (codes "disk", Foreign 1) ∷ (codes "lanes", Foreign 1)
    ∷ (codes "guest", Foreign 6) ∷ (codes "extent", Foreign 3) ∷ (codes "map", Foreign 4) ∷ (codes "descriptors", Foreign 2)
    ∷ (codes "load", Foreign 3) ∷ (codes "regread", Foreign 2) ∷ (codes "regwrite", Foreign 3) ∷ (codes "bell", Foreign 3)
    ∷ (codes "admin", Foreign 1) ∷ (codes "take", Foreign 3)
    ∷ (codes "list", Foreign 4) ∷ (codes "submit", Foreign 2) ∷ (codes "giveup", Foreign 2) ∷ (codes "devtake", Foreign 1)
    ∷ (codes "devmove", Foreign 3) ∷ (codes "devpost", Foreign 2) ∷ (codes "devfail", Foreign 5) ∷ (codes "keep", Foreign 1)
    ∷ (codes "reap", Foreign 1) ∷ (codes "post", Foreign 2) ∷ (codes "await", Foreign 3) ∷ (codes "awaitreg", Foreign 3)
    ∷ []

-- the line that a first word begins
unfoldable pub keyword_of : List ℕ → Option Keyword
keyword_of word = lookup (λ name. bytes_eq name word) vocabulary

-- how many words come after the first
abbrev pub arguments_of : Keyword → ℕ
arguments_of Memory = 1
arguments_of Blocks = 1
arguments_of Store = 2
arguments_of Fill = 3
arguments_of Paint = 2
arguments_of Cmd = 1
arguments_of Dump = 2
arguments_of Block = 1
arguments_of (Foreign arguments) = arguments

-- words that are as many as are wanted
abbrev pub count_check : (found wanted : ℕ) → Result (Unit {0}) FaultKind
count_check found wanted =
    if nat_lt found wanted then Err MissingWord else if nat_lt wanted found then Err TooManyWords else Ok tt
