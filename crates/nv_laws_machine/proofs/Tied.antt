-- A step of each world that has a side and a memory is the machine's call.
use Rattle.std.proofs.Common.{◌≡◌, ℕ, List, length, map, Option, Some, None, refl, sym, ap, ◌∙◌, subst}
use Rattle.nv_core.specs.Front.{IsBeside, IsStepBeside}
use Rattle.nv_laws_machine.specs.Made.{IsMachines, fetched_from}
use Rattle.nv_laws_sound.proofs.Lists.{some-same}
use Rattle.nv_laws_sound.specs.LaidOut.{IsLaidOut}
use Rattle.nv_laws_sound.specs.Mediators.{IsMediators}
use Rattle.nv_laws_sound.specs.Side.{IsKept, Side, tails_of}
use Rattle.nv_laws_sound.specs.Unplaced.{unplaced_lane}
use Rattle.nv_machine.proofs.ContainedOthers.{rest-left}
use Rattle.nv_machine.proofs.EventCalls.{kept-is}
use Rattle.nv_machine.proofs.SideWorlds.{kept-with, side-with, tails-behind, world_with}
use Rattle.nv_machine.specs.Doing.{Called}
use Rattle.nv_machine.specs.InWorld.{AreOnPages, IsNoReap, after_in, called_in, in_world}
use Rattle.nv_machine.specs.Machine.{call}
use Rattle.nv_model.specs.Memory.{byte_in}
use Rattle.nv_model.specs.declared.reply.Reply.{Reply}
use Rattle.nv_world_model.specs.Geometry.{Geometry}
use Rattle.nv_world_model.specs.Step.{After, step}
use Rattle.nv_world_model.specs.World.{World}
use Rattle.nv_world_model.specs.declared.event.Event.{Event}

-- the reply of a call that comes to something in a world, and the world then
called-reply : (w : World) (c : Called) (r : Option Reply) (a : After) → after_in w c r ≡ Some a → r ≡ Some a.reply
called-reply w c None a is = cc
called-reply w c (Some r) a is = ap (λ (x : After). Some x.reply) (some-same _ a is)

called-world : (w : World) (c : Called) (r : Option Reply) (a : After) → after_in w c r ≡ Some a → in_world w c.now ≡ a.world
called-world w c None a is = cc
called-world w c (Some r) a is = ap (λ (x : After). x.world) (some-same _ a is)

module _ (host_bytes : ℕ) (geometry : Geometry) (old new : Side) (before after : List ℕ) (r : Reply) (e : Event) (mine : IsMediators e) (other : IsNoReap e)
    (laid : IsLaidOut host_bytes (length old.lanes) geometry) (kept : IsKept geometry old) (on_pages : AreOnPages old.controllers)
    (steps : (w : World) → IsBeside old before w → IsStepBeside geometry e w r new after) where
  abbrev w : World
  w = world_with (byte_in before) old

  abbrev c : Called
  c = call geometry e (fetched_from geometry e old (byte_in before)) old

  on : IsBeside old before w
  on = record { host = refl; lanes = refl; controllers = refl; tails = ap (λ (s : Side). s.tails) (side-with (byte_in before) old) }

  called : called_in w c ≡ Some (step geometry e w)
  called =
      subst (λ (s : Side). called_in w (call geometry e (fetched_from geometry e s (byte_in before)) s) ≡ Some (step geometry e w))
      (side-with (byte_in before) old) (kept-is host_bytes geometry w laid (kept-with (byte_in before) old geometry kept) on_pages e mine other)

  behind : in_world w c.now ≡ (step geometry e w).world
  behind = called-world w c c.reply (step geometry e w) called

  pub step-machines : IsMachines geometry e old before (Some r) new after
  step-machines =
      let is = steps w on in
      let many = (rest-left geometry old kept e (fetched_from geometry e old (byte_in before))).many in
      record {
        reply = called-reply w c c.reply (step geometry e w) called ∙ ap (λ (x : Reply). Some x) is.reply;
        side = record {
          lanes = ap (λ (v : World). map unplaced_lane v.lanes) behind ∙ is.world.lanes;
          tails = sym (tails-behind (byte_in before) old c.now many) ∙ ap (λ (v : World). tails_of v.device) behind ∙ is.world.tails;
          controllers = ap (λ (v : World). v.controllers) behind ∙ is.world.controllers;
        };
        memory = sym is.world.host ∙ sym (ap (λ (v : World). v.host) behind);
      }
