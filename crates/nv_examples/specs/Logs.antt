-- Logs of the examples: events with their replies
use Rattle.std.specs.Prelude.{List, [], ◌∷◌}
use Rattle.nv_model.specs.declared.reply.Reply.{Reply}
use Rattle.nv_model.specs.declared.reply.Reply.TheVariants as reply
use Rattle.nv_world_model.specs.declared.event.Event.{Event}
use Rattle.nv_world_model.specs.declared.logged.Logged.{Logged}
use Rattle.nv_world_model.specs.Step.{step}
use Rattle.nv_world_model.specs.World.{World}
use Rattle.nv_world_model.specs.Geometry.{Geometry}

-- an event with its reply
abbrev pub told : Event → Reply → Logged
told e r = record { event = e; reply = r }

-- one that was done
abbrev pub done : Event → Logged
done e = told e reply.Done

-- these events with their replies, from that world on
unfoldable pub logged : Geometry → List Event → World → List Logged
logged geometry [] w = []
logged geometry (e ∷ events) w =
    (record { event = e; reply = (step geometry e w).reply }) ∷ logged geometry events (step geometry e w).world
