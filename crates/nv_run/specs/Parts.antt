-- What each guest of a script is to do (profile)
use Rattle.std.specs.Prelude.{◌≡◌, ℕ, ◌<◌, ◌==◌, List, [], filter, length, Option, Some, None, slice_get}
use Rattle.nv_run.specs.declared.part.Part.{Part}
use Rattle.nv_run_script.specs.declared.line.Line.{Line}
use Rattle.nv_world_model.specs.SetUp.{most_guests}

-- a guest's lines, in the order written
abbrev pub lines_of : (guest : ℕ) → List Line → List Line
lines_of guest lines = filter (λ line. line.guest == guest) lines

-- the lines of a part; none where there is no part
abbrev pub lines_in : Option Part → List Line
lines_in None = []
lines_in (Some part) = part.lines.items

-- what a guest is to do by a list of parts, which are indexed by the numbers of their guests
abbrev pub part_of : (guest : ℕ) → List Part → List Line
part_of guest parts = lines_in (slice_get parts guest)

-- there is a part for each guest that there can be, and it is the guest's lines
pub record AreParted (lines : List Line) (parts : List Part) : Type 0 where
  pub all : length parts ≡ most_guests
  pub each : (guest : ℕ) → guest < most_guests → part_of guest parts ≡ lines_of guest lines
