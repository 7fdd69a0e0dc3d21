-- What becomes of all tags of a command at once, in the mediator's side of its lane (profile). `nv_world_model/specs/Step` says the same of the
-- world.
use Rattle.std.specs.Prelude.{◌≡◌, ℕ, if◌then◌else◌, All, List, [], ◌∷◌, slice_get, Option, Some, None}
use Rattle.nv_core.specs.Tags.{state_in}
use Rattle.nv_entry.specs.Status.{StatusField}
use Rattle.nv_entry.specs.StatusCode.{done_with}
use Rattle.nv_entry.specs.declared.status_code.StatusCode.TheVariants.{Success}
use Rattle.nv_tags.specs.declared.state.TagState.TheVariants as state
use Rattle.nv_world_model.specs.Share.{Share}
use Rattle.nv_world_model.specs.ShareArea.{is_no_command}
use Rattle.nv_world_model.specs.Step.{ended_status, status_before}
use Rattle.nv_world_model.specs.World.{Command, Ended, Flying, InDevice, Lane, Tag, tag_changed}

-- one tag after the other
abbrev pub tags_changed : (tags : List ℕ) → Tag → Lane → Lane
tags_changed [] t l = l
tags_changed (tag ∷ tags) t l = tags_changed tags t (tag_changed tag t l)

-- the tags of a command were all taken, and no more
abbrev pub AreTaken : (tags : List ℕ) → Lane → Type 0
AreTaken tags l = All (λ tag. state_in (slice_get l.tags tag) ≡ Some state.Taken) tags

-- a command ends at once: with that status in the tag that it goes by, and with success in its others
abbrev pub all_ended : (tags : List ℕ) → Command → StatusField → Lane → Lane
all_ended [] command st l = l
all_ended (tag ∷ tags) command st l =
    tags_changed tags (Ended command (done_with Success) None) (tag_changed tag (Ended command st None) l)

-- a command is handed on, each share in its tag, in order, without where it is then; a share without a range is no physical command: it has ended
abbrev pub all_handed : (tags : List ℕ) → List Share → Command → Lane → Lane
all_handed [] shares command l = l
all_handed (tag ∷ tags) [] command l = l
all_handed (tag ∷ tags) (share ∷ shares) command l =
    all_handed tags shares command
    (tag_changed tag (if is_no_command share then Ended command (done_with Success) (Some share) else Flying command share InDevice) l)

-- the statuses of tags that have all ended, in order
abbrev pub statuses_in : (tags : List ℕ) → Lane → Option (List StatusField)
statuses_in [] l = Some []
statuses_in (tag ∷ tags) l = status_before (ended_status (slice_get l.tags tag)) (statuses_in tags l)
