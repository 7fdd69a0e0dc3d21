-- The mediator does not know where a part is that it has handed on: in the submission ring, in the physical controller, or in the completion ring. What
-- is left of a world without that (profile).
use Rattle.std.specs.Prelude.{◌≡◌, map}
use Rattle.std.specs.Bool.{⊤}
use Rattle.nv_world_model.specs.Step.{After}
use Rattle.nv_world_model.specs.World.{Ended, Flying, Free, InDevice, Lane, Tag, Taken, World}
use Rattle.nv_world_model.specs.declared.event.Event.{Event}
use Rattle.nv_world_model.specs.declared.event.Event.TheVariants as event

-- of all places the one in the physical controller
abbrev pub unplaced_tag : Tag → Tag
unplaced_tag Free = Free
unplaced_tag (Taken command reads) = Taken command reads
unplaced_tag (Flying command share standing) = Flying command share InDevice
unplaced_tag (Ended command st share) = Ended command st share

abbrev pub unplaced_lane : Lane → Lane
unplaced_lane l = record l { tags = map unplaced_tag l.tags }

abbrev pub unplaced : World → World
unplaced w = record w { lanes = map unplaced_lane w.lanes }

-- and what comes after an event
abbrev pub after_unplaced : After → After
after_unplaced a = record { world = unplaced a.world; reply = a.reply }

-- an event is the physical controller's
abbrev pub IsControllers : Event → Type 0
IsControllers (event.Guest guest a) = ⊥
IsControllers (event.Admin guest) = ⊥
IsControllers (event.Take guest queue lane) = ⊥
IsControllers (event.List lane tag addr len) = ⊥
IsControllers (event.Submit lane tag) = ⊥
IsControllers (event.GiveUp lane tag) = ⊥
IsControllers (event.DevTake lane) = ⊤
IsControllers (event.DevMove lane slot number) = ⊤
IsControllers (event.DevPost lane slot) = ⊤
IsControllers (event.DevFail lane slot st) = ⊤
IsControllers (event.Keep block) = ⊤
IsControllers (event.Reap lane) = ⊥
IsControllers (event.Post lane tag) = ⊥

-- the mediator's side of two worlds is the same, but for the places of parts
pub record HasSameSide (w v : World) : Type 0 where
  pub lanes : (unplaced v).lanes ≡ (unplaced w).lanes
  pub controllers : v.controllers ≡ w.controllers
  pub tails : map (λ d. d.tail) v.device ≡ map (λ d. d.tail) w.device
