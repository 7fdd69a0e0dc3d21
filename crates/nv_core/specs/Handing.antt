-- How the further parts of a plan are kept as they are handed on, each in its tag (profile).
use Rattle.std.specs.Prelude.{ℕ, ◌+◌, ◌≤◌, Bool, if◌then◌else◌, List, [], ◌∷◌, slice_set}
use Rattle.std.specs.Bool.{⊤}
use Rattle.nv_core.specs.declared.progress.Progress.{Progress}
use Rattle.nv_core.specs.declared.progress.Progress.TheVariants as progress
use Rattle.nv_entry.specs.StatusCode.{done_with}
use Rattle.nv_entry.specs.declared.status_code.StatusCode.TheVariants.{Success}
use Rattle.nv_plan.specs.Made.{MadePlan}
use Rattle.nv_tags.specs.Tags.{Ended, Flying, Point, Slot, with_point}
use Rattle.nv_world_model.specs.Share.{Share}
use Rattle.nv_world_model.specs.ShareArea.{is_no_command}

-- tags in order, from that one on
abbrev pub IsRising : (from : ℕ) → (tags : List ℕ) → Type 0
IsRising from [] = ⊤
IsRising from (tag ∷ tags) = (from ≤ tag) × IsRising (tag + 1) tags

-- the point at which a part is: one that is no command has ended
abbrev pub point_of : (nothing : Bool) → Point
point_of nothing = if nothing then Ended (done_with Success) else Flying

-- what is kept of a further part
abbrev pub part_kept : (nothing : Bool) → (part : ℕ) → Progress
part_kept nothing part = if nothing then progress.PartOver part else progress.Part part

-- and what is kept of the first, with its plan
abbrev pub first_kept : (nothing : Bool) → MadePlan → Progress
first_kept nothing plan = if nothing then progress.Over plan else progress.Going plan

-- all further parts, each in its tag, the first of them of that number
abbrev pub parts_slots : (tags : List ℕ) → List Share → List Slot → List Slot
parts_slots [] shares slots = slots
parts_slots (tag ∷ tags) [] slots = slots
parts_slots (tag ∷ tags) (share ∷ shares) slots = parts_slots tags shares (with_point (point_of (is_no_command share)) tag slots)

abbrev pub parts_kept : (tags : List ℕ) → List Share → (part : ℕ) → List Progress → List Progress
parts_kept [] shares part kept = kept
parts_kept (tag ∷ tags) [] part kept = kept
parts_kept (tag ∷ tags) (share ∷ shares) part kept =
    parts_kept tags shares (part + 1) (slice_set kept tag (part_kept (is_no_command share) part))

-- a part that was handed on has ended
abbrev pub part_ended : Progress → Progress
part_ended progress.Nothing = progress.Nothing
part_ended (progress.Reading reads) = progress.Reading reads
part_ended (progress.Going plan) = progress.Over plan
part_ended (progress.Over plan) = progress.Over plan
part_ended (progress.Part part) = progress.PartOver part
part_ended (progress.PartOver part) = progress.PartOver part
