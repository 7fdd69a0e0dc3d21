-- What is known of a run that ended well, and what it prints (profile)
use Rattle.std.specs.Prelude.{◌≡◌, ℕ, List, Ok, Option, IfSome, true}
use Rattle.std.specs.Io.KnownBytes.{Appends}
use Rattle.std.specs.Result.{is_ok}
use Rattle.nv_run.specs.Driving.{AllGone}
use Rattle.nv_run.specs.Opening.{run_of}
use Rattle.nv_run.specs.Parts.{AreParted, lines_of, part_of}
use Rattle.nv_run.specs.Shown.{printed}
use Rattle.nv_run.specs.declared.part.Part.{Part}
use Rattle.nv_run.specs.declared.played.Played.{Played}
use Rattle.nv_run_script.specs.RunScript.{ScriptValue, script_of}
use Rattle.nv_threads.specs.Finished.{IsFinished, acts_of, told_to}
use Rattle.nv_world.specs.Mediated.{KeepsPromise, Kept}

-- ---- a run

-- the log keeps the whole promise, it holds what the ports got and what the workers did and nothing else, and each guest's port got exactly what
-- its lines say
pub record IsPlayed (parts : List Part) (played : Played) : Type 0 where
  pub kept : played.parts.items ≡ parts
  pub promise : KeepsPromise played.world
  pub finished : IsFinished played.world.log played.ports.items played.shares.items
  pub gone : AllGone (λ guest. part_of guest parts) (λ guest. told_to guest played.ports.items)

-- the guests are to do what the lines of a text say, which is a script whose world opens
pub record ArePartsOf (text : List ℕ) (parts : List Part) : Type 0 where
  pub script : ScriptValue
  pub read : script_of text ≡ Ok script
  pub opens : is_ok (run_of text) ≡ true
  pub parted : AreParted script.lines parts

-- they are, where the text is known
abbrev pub AreRead : Option (List ℕ) → List Part → Type 0
AreRead text parts = IfSome text (λ bytes. ArePartsOf bytes parts)

-- and they did
abbrev pub IsPlayOf : Option (List ℕ) → Played → Type 0
IsPlayOf text played = (parts : List Part) × AreRead text parts × IsPlayed parts played

-- ---- what it prints

-- the results of the guests' lines, by what their ports got
abbrev pub PrintsPlayed : Played → (before after : Option (List ℕ)) → Type 0
PrintsPlayed played before after =
    Appends before after (printed (λ guest. part_of guest played.parts.items) (λ guest. told_to guest played.ports.items))

-- a text is a script whose world opens, and there is a log that keeps the whole promise and has of each guest just what its lines say: what
-- they came to by that log is printed
pub record PrintsRun (text : List ℕ) (before after : Option (List ℕ)) : Type 0 where
  pub script : ScriptValue
  pub read : script_of text ≡ Ok script
  pub opens : is_ok (run_of text) ≡ true
  pub world : Kept
  pub promise : KeepsPromise world
  pub gone : AllGone (λ guest. lines_of guest script.lines) (λ guest. acts_of guest world.log)
  pub grown : Appends before after (printed (λ guest. lines_of guest script.lines) (λ guest. acts_of guest world.log))

-- where the text is known
abbrev pub PrintsText : (text before after : Option (List ℕ)) → Type 0
PrintsText text before after = IfSome text (λ bytes. PrintsRun bytes before after)
