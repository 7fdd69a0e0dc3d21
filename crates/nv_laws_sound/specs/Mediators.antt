-- The events of guests and of the mediator, which leave the disk and its marks alone (profile).
use Rattle.std.specs.Prelude.{ℕ, Bool}
use Rattle.std.specs.Bool.{⊤}
use Rattle.nv_world_model.specs.Step.{After}
use Rattle.nv_world_model.specs.World.{World}
use Rattle.nv_world_model.specs.declared.event.Event.{Event}
use Rattle.nv_world_model.specs.declared.event.Event.TheVariants as event

-- an event is not the physical controller's
abbrev pub IsMediators : Event → Type 0
IsMediators (event.Guest guest a) = ⊤
IsMediators (event.Admin guest) = ⊤
IsMediators (event.Take guest queue lane) = ⊤
IsMediators (event.List lane tag addr len) = ⊤
IsMediators (event.Submit lane tag) = ⊤
IsMediators (event.GiveUp lane tag) = ⊤
IsMediators (event.DevTake lane) = ⊥
IsMediators (event.DevMove lane slot number) = ⊥
IsMediators (event.DevPost lane slot) = ⊥
IsMediators (event.DevFail lane slot st) = ⊥
IsMediators (event.Keep block) = ⊥
IsMediators (event.Reap lane) = ⊤
IsMediators (event.Post lane tag) = ⊤

-- a world with that disk and these marks in the place of its own
abbrev pub on_disk : (disk : ℕ → ℕ → ℕ) → (kept : ℕ → Bool) → World → World
on_disk disk kept w = record w { disk = disk; kept = kept }

-- and what comes after an event
abbrev pub after_on : (disk : ℕ → ℕ → ℕ) → (kept : ℕ → Bool) → After → After
after_on disk kept a = record { world = on_disk disk kept a.world; reply = a.reply }
