-- What a run prints: a line for each event, its number and its reply, and the number of events (profile)
use Rattle.std.specs.Prelude.{◌≡◌, ◌⊎◌, ℕ, ◌+◌, List, [], ◌∷◌, ◌++◌, length, codes, Option, IfSome, IsTrue, Ok}
use Rattle.std.specs.Fmt.{decimal}
use Rattle.std.specs.Io.KnownBytes.{Appends}
use Rattle.nv_mediator.specs.Hosted.{Hosted, hosted_world, may_want, setup_of}
use Rattle.nv_model.specs.declared.reply.Reply.{Reply}
use Rattle.nv_model.specs.declared.reply.Reply.TheVariants.{Done, Bytes, Idle, Busy, Held, Stale, Unmapped, Ignored, NoMemory}
use Rattle.nv_print.specs.Printed.{dump_line, line_feed}
use Rattle.nv_world_model.specs.Geometry.{Geometry}
use Rattle.nv_world_model.specs.SetUp.{world_at_start}
use Rattle.nv_world_model.specs.Step.{step}
use Rattle.nv_world_model.specs.World.{World}
use Rattle.nv_world_model.specs.declared.event.Event.{Event}
use Rattle.nv_replay.specs.Opening.{ReplayValue, replay_of}

-- ---- lines

-- a reply, and the end of its line
abbrev pub reply_text : Reply → List ℕ
reply_text Done = codes "done" ++ line_feed
reply_text (Bytes bytes) = codes "bytes " ++ dump_line bytes
reply_text Idle = codes "idle" ++ line_feed
reply_text Busy = codes "busy" ++ line_feed
reply_text Held = codes "held" ++ line_feed
reply_text Stale = codes "stale" ++ line_feed
reply_text Unmapped = codes "unmapped" ++ line_feed
reply_text Ignored = codes "ignored" ++ line_feed
reply_text NoMemory = codes "nomemory" ++ line_feed

-- the line of the reply to event number n
abbrev pub reply_line : (n : ℕ) → Reply → List ℕ
reply_line n reply = decimal n ++ codes " " ++ reply_text reply

-- the lines of replies, of which the first is to event number n
unfoldable pub reply_lines : (n : ℕ) → List Reply → List ℕ
reply_lines n [] = []
reply_lines n (reply ∷ replies) = reply_line n reply ++ reply_lines (n + 1) replies

-- the last line
abbrev pub count_line : ℕ → List ℕ
count_line count = codes "events " ++ decimal count ++ line_feed

-- what these replies print
unfoldable pub shown : List Reply → List ℕ
shown replies = reply_lines 1 replies ++ count_line (length replies)

-- ---- replies

-- the reply to an event is the step's, and the world goes on by it; or there was no memory for one that may want some, and the world stays
abbrev pub IsAnswered : Geometry → (old : World) → Event → Reply → (new : World) → Type 0
IsAnswered geometry old event reply new =
    (IsTrue (may_want event) × (reply ≡ NoMemory) × (new ≡ old)) ⊎ (record { world = new; reply = reply } ≡ step geometry event old)

-- each event is answered where the one before left the world
unfoldable pub AreAnswered : Geometry → (old : World) → List Event → List Reply → (new : World) → Type 0
AreAnswered geometry old [] [] new = new ≡ old
AreAnswered geometry old [] (reply ∷ replies) new = ⊥
AreAnswered geometry old (event ∷ events) [] new = ⊥
AreAnswered geometry old (event ∷ events) (reply ∷ replies) new =
    (between : World) × IsAnswered geometry old event reply between × AreAnswered geometry between events replies new

-- ---- a run

-- an event was carried out, or there was no memory for it, and an output has grown by the line of its reply
abbrev pub PrintsStep : (n : ℕ) → Event → (old new : Hosted) → (before after : Option (List ℕ)) → Type 0
PrintsStep n event old new before after =
    (reply : Reply) × IsAnswered old.geometry (hosted_world old) event reply (hosted_world new) × (setup_of new ≡ setup_of old)
    × Appends before after (reply_line n reply)

-- what a run prints
abbrev pub IsPrinted : ReplayValue → (printed : List ℕ) → Type 0
IsPrinted replay printed =
    (replies : List Reply) × (last : World)
    × AreAnswered replay.set_up.geometry (world_at_start replay.set_up) replay.events replies last
    × (printed ≡ shown replies)

-- an output has grown by what a run prints
abbrev pub PrintsReplay : ReplayValue → (before after : Option (List ℕ)) → Type 0
PrintsReplay replay before after = (printed : List ℕ) × Appends before after printed × IsPrinted replay printed

-- the text is a script whose world opens, where it is known, and an output has grown by what its run prints
abbrev pub PrintsText : (text before after : Option (List ℕ)) → Type 0
PrintsText text before after =
    IfSome text (λ bytes. (replay : ReplayValue) × (replay_of bytes ≡ Ok replay) × PrintsReplay replay before after)
