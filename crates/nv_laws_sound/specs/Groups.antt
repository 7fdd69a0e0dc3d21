-- A command's tags in a lane: they go by the lowest, are all at the same stage, and have the command's shares in order (profile).
use Rattle.std.specs.Prelude.{◌≡◌, ℕ, ◌≤◌, ◌==◌, Bool, false, List, ◌∷◌, filter, map, replicate, slice_get, Option, Some, None}
use Rattle.nv_entry.specs.Status.{StatusField}
use Rattle.nv_entry.specs.StatusCode.{done_with}
use Rattle.nv_entry.specs.declared.status_code.StatusCode.TheVariants.{Success}
use Rattle.nv_ns.specs.Extents.{Namespace}
use Rattle.nv_world_model.specs.Geometry.{Geometry, Guest}
use Rattle.nv_world_model.specs.Plan.{Plan}
use Rattle.nv_world_model.specs.Share.{Share, shares_of, tags_of_entry}
use Rattle.nv_world_model.specs.Step.{is_success}
use Rattle.nv_world_model.specs.World.{Command, Ended, Flying, Free, Tag, Taken}

-- ---- what a tag is of a command

-- nothing; one that has no plan yet; one that was handed on, with its share, whatever has come of that; one that ended at once
pub data Part : Type 0 where
  NoPart : Part
  Reading : Command → Part
  Handed : Command → Share → Part
  AtOnce : Command → StatusField → Part

abbrev pub ended_part : Command → StatusField → Option Share → Part
ended_part command st None = AtOnce command st
ended_part command st (Some share) = Handed command share

abbrev pub part_of : Tag → Part
part_of Free = NoPart
part_of (Taken command reads) = Reading command
part_of (Flying command share standing) = Handed command share
part_of (Ended command st share) = ended_part command st share

abbrev pub parts_of : List Tag → List Part
parts_of tags = map part_of tags

-- the command that it is of
abbrev pub command_of : Part → Option Command
command_of NoPart = None
command_of (Reading command) = Some command
command_of (Handed command share) = Some command
command_of (AtOnce command st) = Some command

-- whether it goes by that tag
abbrev pub is_led_by : (leader : ℕ) → Option Command → Bool
is_led_by leader None = false
is_led_by leader (Some command) = command.leader == leader

abbrev pub goes_by : (leader : ℕ) → Part → Bool
goes_by leader part = is_led_by leader (command_of part)

-- all that go by a tag, in order
abbrev pub group_of : (leader : ℕ) → List Part → List Part
group_of leader parts = filter (goes_by leader) parts

-- ---- the tags of a command

-- together, in order: as many as the command may become physical commands, all without a plan; the shares of its plan; or those of one that ended
-- at once, the first with its status, which reports a failure, and the others with success
pub data IsGroup (ns : Namespace) (command : Command) (parts : List Part) : Type 0 where
  AllRead : parts ≡ replicate (tags_of_entry ns command.entry) (Reading command) → IsGroup ns command parts
  AllHanded : (whole : Plan) → parts ≡ map (Handed command) (shares_of ns command.entry whole) → IsGroup ns command parts
  AllAnswered : (st : StatusField) (others : ℕ) → is_success st ≡ false
      → parts ≡ AtOnce command st ∷ replicate others (AtOnce command (done_with Success)) → IsGroup ns command parts

-- a tag of a command is one of a guest's group, which goes by a tag of that command that is no higher
pub record IsMember (geometry : Geometry) (parts : List Part) (tag : ℕ) (command : Command) : Type 0 where
  pub low : command.leader ≤ tag
  pub first : Part
  pub there : slice_get parts command.leader ≡ Some first
  pub same : command_of first ≡ Some command
  pub guest : Guest
  pub given : slice_get geometry.guests command.guest ≡ Some guest
  pub group : IsGroup guest.namespace command (group_of command.leader parts)

-- so is each tag of a lane that isn't free
abbrev pub AreGrouped : Geometry → List Part → Type 0
AreGrouped geometry parts = (tag : ℕ) (part : Part) (command : Command) → slice_get parts tag ≡ Some part → command_of part ≡ Some command
    → IsMember geometry parts tag command

abbrev pub AreGroups : Geometry → List Tag → Type 0
AreGroups geometry tags = AreGrouped geometry (parts_of tags)
