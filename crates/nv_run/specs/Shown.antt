-- What a run prints: for each guest in order, a line for each of its own, and `ok` (profile)
use Rattle.std.specs.Prelude.{ℕ, Bool, false, zero, suc, cond, List, [], ◌∷◌, ◌++◌, bytes_eq, codes}
use Rattle.std.specs.Fmt.{decimal}
use Rattle.std.specs.Int.{w32, to_le_bytes}
use Rattle.nv_model.specs.declared.reply.Reply.{Reply}
use Rattle.nv_model.specs.declared.reply.Reply.TheVariants as reply
use Rattle.nv_print.specs.Printed.{line_feed}
use Rattle.nv_replay.specs.Shown.{reply_line}
use Rattle.nv_run_script.specs.declared.line.Line.{Line}
use Rattle.nv_run_script.specs.declared.line.Task.{Task}
use Rattle.nv_run_script.specs.declared.line.Task.TheVariants.{Act, Await, AwaitReg}
use Rattle.nv_world_model.specs.SetUp.{most_guests}
use Rattle.nv_world_model.specs.declared.logged.Logged.{Logged}

-- whether a reply is the 4 bytes of a value, lowest first
abbrev pub shows : (value : ℕ) → Reply → Bool
shows value reply.Done = false
shows value (reply.Bytes bytes) = bytes_eq bytes (to_le_bytes w32 value)
shows value reply.Idle = false
shows value reply.Busy = false
shows value reply.Held = false
shows value reply.Stale = false
shows value reply.Unmapped = false
shows value reply.Ignored = false
shows value reply.NoMemory = false

-- the calls after the first that shows a value
abbrev pub behind_shown : (value : ℕ) → List Logged → List Logged
behind_shown value [] = []
behind_shown value (call ∷ calls) = cond (shows value call.reply) calls (behind_shown value calls)

-- the calls after those that a line's answer takes up
abbrev pub behind : Task → List Logged → List Logged
behind (Act act) [] = []
behind (Act act) (call ∷ calls) = calls
behind (Await addr value) calls = behind_shown value calls
behind (AwaitReg offset value) calls = behind_shown value calls

-- the line of the first call's reply
abbrev pub first_line : (guest : ℕ) → List Logged → List ℕ
first_line guest [] = []
first_line guest (call ∷ calls) = reply_line guest call.reply

-- the line of a guest that what it waited for was met
abbrev pub met_line : (guest : ℕ) → List ℕ
met_line guest = decimal guest ++ codes " met" ++ line_feed

-- the result of a guest's line for which the guest's port got the first of these calls
abbrev pub line_of : (guest : ℕ) → Task → List Logged → List ℕ
line_of guest (Act act) calls = first_line guest calls
line_of guest (Await addr value) calls = met_line guest
line_of guest (AwaitReg offset value) calls = met_line guest

-- what its lines came to
unfoldable pub guest_lines : (guest : ℕ) → List Line → List Logged → List ℕ
guest_lines guest [] calls = []
guest_lines guest (line ∷ lines) calls = line_of guest line.task calls ++ guest_lines guest lines (behind line.task calls)

-- what the lines of the guests below a number came to, in their order
unfoldable pub lines_below : ℕ → (lines : (guest : ℕ) → List Line) → (calls : (guest : ℕ) → List Logged) → List ℕ
lines_below zero lines calls = []
lines_below (suc guest) lines calls = lines_below guest lines calls ++ guest_lines guest (lines guest) (calls guest)

-- what is printed
abbrev pub printed : (lines : (guest : ℕ) → List Line) → (calls : (guest : ℕ) → List Logged) → List ℕ
printed lines calls = lines_below most_guests lines calls ++ (codes "ok" ++ line_feed)
