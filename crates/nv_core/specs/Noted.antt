-- Which guests something may be due of, noted with a bit for each (profile).
use Rattle.std.specs.Prelude.{◌≡◌, ℕ, ◌<◌, ◌==◌, Bool, true, false, if◌then◌else◌, List, slice_get, Option, Some, None, is_some}
use Rattle.std.specs.Int.{bit_at}
use Rattle.nv_admin.specs.Event.{is_stepped}
use Rattle.nv_laws_sound.specs.Side.{Side}
use Rattle.nv_model.specs.Admin.{admin}
use Rattle.nv_model.specs.Controller.{Controller, front}
use Rattle.nv_world_model.specs.SetUp.{most_guests}
use Rattle.nv_world_model.specs.Step.{is_io_queue}

-- nothing is due of a controller's queues, whatever is in memory: no admin event, and no command that may be taken
pub record IsQuiet (c : Controller) : Type 0 where
  pub admin : (test : ℕ → Bool) (blocks : ℕ) (memory : ℕ → ℕ) → is_stepped (admin test blocks c memory) ≡ false
  pub queues : (queue : ℕ) → is_io_queue queue ≡ true → front c queue ≡ None

-- the same of a guest's controller, where there is one
abbrev pub IsQuietAt : (guest : ℕ) → List Controller → Type 0
IsQuietAt guest cs = (c : Controller) → slice_get cs guest ≡ Some c → IsQuiet c

-- a side has nothing that is due of a guest's queues
abbrev pub Rests : (guest : ℕ) → Side → Type 0
Rests guest side = IsQuietAt guest side.controllers

-- whether a command of a controller's queue may be taken, where enough tags are free; none where there is no such controller
abbrev pub has_front : (queue : ℕ) → Option Controller → Bool
has_front queue None = false
has_front queue (Some c) = is_some (front c queue)

-- a guest is noted, or not any more
abbrev pub IsNoted : (before guest now : ℕ) → Type 0
IsNoted before guest now = (g : ℕ) → g < most_guests → bit_at now g ≡ (if g == guest then 1 else bit_at before g)

abbrev pub IsSettled : (before guest now : ℕ) → Type 0
IsSettled before guest now = (g : ℕ) → g < most_guests → bit_at now g ≡ (if g == guest then 0 else bit_at before g)

-- nothing is due of a guest that is not noted
abbrev pub AreNoted : List Controller → (notes : ℕ) → Type 0
AreNoted cs notes =
    (guest : ℕ) (c : Controller) → guest < most_guests → slice_get cs guest ≡ Some c → bit_at notes guest ≡ 0 → IsQuiet c
