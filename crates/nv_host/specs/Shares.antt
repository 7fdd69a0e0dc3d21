-- How guests share the tags of a lane (profile).
--
-- A guest's share is what one command of it may need, and what it may have besides: `HostMediator::work` takes a command of a guest for a lane only where
-- the guest has no more than the latter there. So it never has more than its share, whatever the command needs.
use Rattle.std.specs.Prelude.{◌≡◌, ℕ, ◌+◌, ◌-◌, ◌/◌, ◌≤◌, ◌==◌, ◌&&◌, if◌then◌else◌, max, Bool, false, nat_le, slice_get, List, length, replicate, Option, Some, None}
use Rattle.std.specs.List.{sum, sum_by}
use Rattle.nv_world_model.specs.Area.{tag_count}
use Rattle.nv_world_model.specs.Geometry.{Guest}
use Rattle.nv_world_model.specs.declared.event.Event.{Event}
use Rattle.nv_world_model.specs.declared.event.Event.TheVariants as event

-- the most tags that one command of a guest may need: one for each extent
abbrev pub most_needed : Guest → ℕ
most_needed given = length given.namespace

abbrev pub needed_in_all : List Guest → ℕ
needed_in_all guests = sum_by most_needed guests

-- at the start the tags that are left are divided among the guests
abbrev pub opening_spare : List Guest → List ℕ
opening_spare guests = replicate (length guests) ((tag_count - needed_in_all guests) / max (length guests) 1)

-- each guest has a share, and together they are no more than a lane has
pub record AreShares (guests : List Guest) (spare : List ℕ) : Type 0 where
  pub each : length spare ≡ length guests
  pub enough : needed_in_all guests + sum spare ≤ tag_count

-- whether a guest that has so many tags may have those of one more command
abbrev pub is_within : (held : ℕ) → (spare : Option ℕ) → Bool
is_within held None = false
is_within held (Some spare) = nat_le held spare

-- a number that is no guest's needs none
abbrev pub needed_of : Option Guest → ℕ
needed_of None = 0
needed_of (Some given) = most_needed given

-- how many tags of a lane an event gives a guest at most: a Take what one command of its guest may need, and no other event any
abbrev pub most_given : List Guest → Event → (guest lane : ℕ) → ℕ
most_given guests (event.Take number queue on) guest lane = if guest == number && lane == on then needed_of (slice_get guests guest) else 0
most_given guests _ guest lane = 0
