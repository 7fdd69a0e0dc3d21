-- The first words of lines, under `replay` and `run` (profile)
use Rattle.std.specs.Prelude.{ℕ, ◌+◌, List, [], ◌∷◌, codes, length, Option, Result, Err}
use Rattle.std.specs.Map.{lookup}
use Rattle.std.specs.Str.{bytes_eq}
use Rattle.nv_once_script.specs.declared.once.fault.FaultKind.{FaultKind}
use Rattle.nv_once_script.specs.declared.once.fault.FaultKind.TheVariants.{OutOfPlace}
use Rattle.nv_once_script.specs.OnceFault.{◌>>=◌}
use Rattle.nv_once_script.specs.OnceVocabulary.{count_check}
use Rattle.nv_replay_script.specs.declared.vocabulary.ActKind.{ActKind}
use Rattle.nv_replay_script.specs.declared.vocabulary.ActKind.TheVariants as act
use Rattle.nv_replay_script.specs.declared.vocabulary.EventKind.{EventKind}
use Rattle.nv_replay_script.specs.declared.vocabulary.EventKind.TheVariants as kind
use Rattle.nv_replay_script.specs.declared.vocabulary.Size.TheVariants.{Host, Mediator, Disk, Lanes}
use Rattle.nv_replay_script.specs.declared.vocabulary.Keyword.{Keyword}
use Rattle.nv_replay_script.specs.declared.vocabulary.SetUpKind.{SetUpKind}
use Rattle.nv_replay_script.specs.declared.vocabulary.SetUpKind.TheVariants.{Size, Guest, Extent, Map, Descriptors}
use Rattle.nv_replay_script.specs.declared.vocabulary.Keyword.TheVariants.{SetUp, Event, Await, AwaitReg, Foreign}

-- the first words, and the lines that they begin. A line of `once` keeps only how many words follow its first; for `store` and `fill` it is the
-- count of `replay` and `run`.
unfoldable pub vocabulary : List (List ℕ × Keyword)
vocabulary =
    (codes "devmove", Event kind.DevMove) ∷ (codes "devtake", Event kind.DevTake)
    ∷ (codes "devpost", Event kind.DevPost) ∷ (codes "reap", Event kind.Reap) ∷ (codes "post", Event kind.Post)
    ∷ (codes "bell", Event (kind.Act act.Bell)) ∷ (codes "store", Event (kind.Act act.Store)) ∷ (codes "take", Event kind.Take)
    ∷ (codes "submit", Event kind.Submit) ∷ (codes "list", Event kind.List) ∷ (codes "load", Event (kind.Act act.Load))
    ∷ (codes "regread", Event (kind.Act act.RegRead)) ∷ (codes "regwrite", Event (kind.Act act.RegWrite))
    ∷ (codes "admin", Event kind.Admin) ∷ (codes "fill", Event (kind.Act act.Fill)) ∷ (codes "giveup", Event kind.GiveUp)
    ∷ (codes "devfail", Event kind.DevFail) ∷ (codes "keep", Event kind.Keep) ∷ (codes "host", SetUp (Size Host))
    ∷ (codes "mediator", SetUp (Size Mediator)) ∷ (codes "disk", SetUp (Size Disk)) ∷ (codes "lanes", SetUp (Size Lanes))
    ∷ (codes "guest", SetUp Guest) ∷ (codes "extent", SetUp Extent) ∷ (codes "map", SetUp Map)
    ∷ (codes "descriptors", SetUp Descriptors)
    ∷ (codes "await", Await) ∷ (codes "awaitreg", AwaitReg)
    ∷ (codes "memory", Foreign 1) ∷ (codes "blocks", Foreign 1) ∷ (codes "paint", Foreign 2)
    ∷ (codes "cmd", Foreign 1) ∷ (codes "dump", Foreign 2) ∷ (codes "block", Foreign 1)
    ∷ []

-- the line that a first word begins
unfoldable pub keyword_of : List ℕ → Option Keyword
keyword_of word = lookup (λ name. bytes_eq name word) vocabulary

-- how many words follow the number of the guest whose act a line is
abbrev pub act_arguments : ActKind → ℕ
act_arguments act.Store = 2
act_arguments act.Fill = 3
act_arguments act.Load = 2
act_arguments act.RegRead = 1
act_arguments act.RegWrite = 2
act_arguments act.Bell = 2

-- how many words follow the first of an event's line
abbrev pub event_arguments : EventKind → ℕ
event_arguments (kind.Act act) = 1 + act_arguments act
event_arguments kind.Admin = 1
event_arguments kind.Take = 3
event_arguments kind.List = 4
event_arguments kind.Submit = 2
event_arguments kind.GiveUp = 2
event_arguments kind.DevTake = 1
event_arguments kind.DevMove = 3
event_arguments kind.DevPost = 2
event_arguments kind.DevFail = 5
event_arguments kind.Keep = 1
event_arguments kind.Reap = 1
event_arguments kind.Post = 2

-- how many words follow the first of a set-up line
abbrev pub set_up_arguments : SetUpKind → ℕ
set_up_arguments (Size size) = 1
set_up_arguments Guest = 6
set_up_arguments Extent = 3
set_up_arguments Map = 4
set_up_arguments Descriptors = 2

-- and how many follow the first of a line of `run` alone
abbrev pub await_arguments : ℕ
await_arguments = 3

-- a line of another subcommand, which wants so many words: its count is checked first
abbrev pub foreign : {P : Type 0} → (arguments : ℕ) → List (List ℕ) → Result P FaultKind
foreign arguments words = do
  counted ← count_check (length words) arguments
  Err OutOfPlace
