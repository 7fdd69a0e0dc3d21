-- The numbers of a command by which its tags are found: its guest's, and that of the submission queue that it was taken from (profile).
use Rattle.std.specs.Prelude.{ℕ, Bool, false, ◌==◌, ◌&&◌, Option, Some, None}
use Rattle.nv_world_model.specs.SetUp.{most_guests}
use Rattle.nv_world_model.specs.World.{Command}
use Rattle.nv_tags.specs.Tags.{Free, Slot, Used}
use Rattle.nv_tags.specs.declared.claim.Claim.{Claim}

-- how many numbers are kept: those of all guests, and so those of all queues
abbrev pub number_count : ℕ
number_count = most_guests

-- which number it is
pub data Key : Type 0 where
  ByGuest : Key
  ByQueue : Key

-- that of a command, and of a claim
abbrev pub number_of : Key → Command → ℕ
number_of ByGuest command = command.guest
number_of ByQueue command = command.queue

abbrev pub number_in : Key → Claim → ℕ
number_in ByGuest claim = claim.guest
number_in ByQueue claim = claim.queue

-- whether a tag is one of a command of that number; whether a claim is
abbrev pub has_number : Key → (number : ℕ) → Slot → Bool
has_number key number Free = false
has_number key number (Used command point) = number_of key command == number

abbrev pub is_claim_of : Key → (number : ℕ) → Option Claim → Bool
is_claim_of key number None = false
is_claim_of key number (Some claim) = number_in key claim == number

-- whether a tag is one of a command that was taken from that submission queue of that guest
abbrev pub is_from : (guest queue : ℕ) → Slot → Bool
is_from guest queue Free = false
is_from guest queue (Used command point) = command.guest == guest && command.queue == queue
