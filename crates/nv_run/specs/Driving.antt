-- What a guest's port gets while its thread goes through its lines (profile)
use Rattle.std.specs.Prelude.{◌≡◌, ◌≢◌, ℕ, ◌<◌, All, Bool, true, false, List, [], ◌∷◌, ◌++◌, length, ⊤}
use Rattle.std.specs.Int.{w32, to_le_bytes}
use Rattle.nv_model.specs.declared.act.Act.{Act}
use Rattle.nv_model.specs.declared.act.Act.TheVariants as act
use Rattle.nv_model.specs.declared.reply.Reply.{Reply}
use Rattle.nv_model.specs.declared.reply.Reply.TheVariants as reply
use Rattle.nv_run.specs.declared.driven.Probe.{Probe}
use Rattle.nv_run.specs.declared.driven.Probe.TheVariants.{Memory, Register}
use Rattle.nv_run.specs.declared.driven.End.{End}
use Rattle.nv_run.specs.declared.driven.End.TheVariants.{Through, NoCompletion, NoMemory}
use Rattle.nv_run_script.specs.declared.line.Line.{Line}
use Rattle.nv_run_script.specs.declared.line.Task.{Task}
use Rattle.nv_run_script.specs.declared.line.Task.TheVariants as task
use Rattle.nv_world_model.specs.declared.event.Event.TheVariants as event
use Rattle.nv_world_model.specs.declared.logged.Logged.{Logged}
use Rattle.nv_world_model.specs.SetUp.{most_guests}

-- how often a line that waits polls
abbrev pub polls : ℕ
polls = 1000000

-- an act of a guest, with its reply
abbrev pub told : (guest : ℕ) → Act → Reply → Logged
told guest act reply = record { event = event.Guest guest act; reply = reply }

-- the reply that has the 4 bytes of a value, lowest first
abbrev pub shown : (value : ℕ) → Reply
shown value = reply.Bytes (to_le_bytes w32 value)

-- what a line that waits polls
abbrev pub look_of : Probe → Act
look_of (Memory addr) = act.Load addr 4
look_of (Register offset) = act.RegRead offset

-- a poll that did not find the value
pub record IsUnmet (guest : ℕ) (look : Act) (value : ℕ) (call : Logged) : Type 0 where
  pub event : call.event ≡ event.Guest guest look
  pub reply : call.reply ≢ shown value

-- polls of which only the last found the value
pub record IsMet (guest : ℕ) (look : Act) (value : ℕ) (calls : List Logged) : Type 0 where
  pub before : List Logged
  pub unmet : All (IsUnmet guest look value) before
  pub last : calls ≡ before ++ told guest look (shown value) ∷ []

-- as many polls as there may be, none of which found the value
pub record IsLeft (guest : ℕ) (look : Act) (value : ℕ) (calls : List Logged) : Type 0 where
  pub unmet : All (IsUnmet guest look value) calls
  pub all : length calls ≡ polls

-- a line that waited was met, or was not
abbrev pub HasWaited : (guest : ℕ) → (look : Act) → (value : ℕ) → (met : Bool) → (calls : List Logged) → Type 0
HasWaited guest look value true calls = IsMet guest look value calls
HasWaited guest look value false calls = IsLeft guest look value calls

-- a list has grown by some calls of which this holds
pub record Grows (old new : List Logged) (P : List Logged → Type 0) : Type 0 where
  pub more : List Logged
  pub grown : new ≡ old ++ more
  pub holds : P more

-- a list is some calls of which this holds, and then others
pub record Follows (P : List Logged → Type 0) (calls rest : List Logged) : Type 0 where
  pub first : List Logged
  pub holds : P first
  pub parted : calls ≡ first ++ rest

-- what a guest's port gets along a line that went well
abbrev pub IsGone : (guest : ℕ) → Task → (calls : List Logged) → Type 0
IsGone guest (task.Act act) calls = (reply : Reply) × (calls ≡ told guest act reply ∷ [])
IsGone guest (task.Await addr value) calls = IsMet guest (act.Load addr 4) value calls
IsGone guest (task.AwaitReg offset value) calls = IsMet guest (act.RegRead offset) value calls

-- and along lines one after another
unfoldable pub AreGone : (guest : ℕ) → List Line → (calls : List Logged) → Type 0
AreGone guest [] calls = calls ≡ []
AreGone guest (line ∷ lines) calls = (rest : List Logged) × AreGone guest lines rest × Follows (IsGone guest line.task) calls rest

-- and of each guest, along the lines that are its own
abbrev pub AllGone : (lines : (guest : ℕ) → List Line) → (calls : (guest : ℕ) → List Logged) → Type 0
AllGone lines calls = (guest : ℕ) → guest < most_guests → AreGone guest (lines guest) (calls guest)

-- a guest that went through all its lines got exactly that
abbrev pub IsThrough : (guest : ℕ) → List Line → (calls : List Logged) → End → Type 0
IsThrough guest lines calls Through = AreGone guest lines calls
IsThrough guest lines calls (NoCompletion line) = ⊤
IsThrough guest lines calls NoMemory = ⊤

-- an end before all lines were gone through
abbrev pub IsEarly : End → Type 0
IsEarly Through = ⊥
IsEarly (NoCompletion line) = ⊤
IsEarly NoMemory = ⊤
