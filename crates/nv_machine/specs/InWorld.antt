-- A call in a world: with the bytes that lie there at its fetch, and with its effects in that world's memory (profile).
use Rattle.std.specs.Prelude.{◌≡◌, ℕ, List, ◌++◌, map, slice_get, Option, Some, None}
use Rattle.std.specs.Bool.{⊤}
use Rattle.nv_laws_sound.specs.Phased.{ArePhased}
use Rattle.nv_laws_sound.specs.Consistent.{IsConsistent}
use Rattle.nv_laws_sound.specs.Side.{Side, rung_with, tails_of}
use Rattle.nv_machine.specs.Doing.{Called, Doing}
use Rattle.nv_machine.specs.Effects.{effects_on}
use Rattle.nv_machine.specs.Machine.{fetch, fetch_then}
use Rattle.nv_model.specs.Controller.{Controller}
use Rattle.nv_model.specs.Laws.{QueuesOnPages}
use Rattle.nv_model.specs.declared.reply.Reply.{Reply}
use Rattle.nv_world_model.specs.Geometry.{Geometry}
use Rattle.nv_world_model.specs.Step.{After}
use Rattle.nv_world_model.specs.World.{World}
use Rattle.nv_world_model.specs.declared.event.Event.{Event}
use Rattle.nv_world_model.specs.declared.event.Event.TheVariants as event

-- the mediator's side of a world
abbrev pub side_of : World → Side
side_of w = record { lanes = w.lanes; tails = tails_of w.device; controllers = w.controllers }

-- the bytes that are fetched for an event in a world
abbrev pub fetched_in : Geometry → Event → World → List ℕ
fetched_in geometry e w =
    (let first = map w.host (fetch geometry e (side_of w)) in first ++ map w.host (fetch_then geometry e (side_of w) first))

-- the world with the side of a call under way, its effects in memory, and the doorbells written
abbrev pub in_world : World → Doing → World
in_world w m =
    record w {
      host = effects_on m.effects w.host;
      device = rung_with m.side.tails w.device;
      lanes = m.side.lanes;
      controllers = m.side.controllers;
    }

abbrev pub after_in : World → Called → Option Reply → Option After
after_in w c None = None
after_in w c (Some r) = Some (record { world = in_world w c.now; reply = r })

-- what a call comes to in a world, where it has a reply
abbrev pub called_in : World → Called → Option After
called_in w c = after_in w c c.reply

-- each queue of each controller begins with a page
abbrev pub AreOnPages : List Controller → Type 0
AreOnPages controllers = (number : ℕ) (c : Controller) → slice_get controllers number ≡ Some c → QueuesOnPages c

-- a world is as events leave it: consistent, with the phase tags of its passes, and with queues that begin with pages
pub record IsLive (geometry : Geometry) (w : World) : Type 0 where
  pub consistent : IsConsistent geometry w
  pub phased : ArePhased geometry w
  pub on_pages : AreOnPages w.controllers

-- an event is no Reap: what a Reap comes to depends on what the physical controller has posted
abbrev pub IsNoReap : Event → Type 0
IsNoReap (event.Reap lane) = ⊥
IsNoReap _ = ⊤
