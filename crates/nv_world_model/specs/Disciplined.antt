-- What a guest has to obey so that it can't distinguish the mediator from a controller of its own: buffers overlap only where both are read, and
-- the guest leaves alone what its outstanding commands name. The standard leaves open what a host finds in a buffer before the command's
-- completion, and forbids it to change an outstanding command's entry and data (Base Specification 2.0, "Memory-based Transport Queue Model",
-- "Submission Queue Entry").
use Rattle.std.specs.Prelude.{ℕ, Bool, true, not, ◌&&◌, ◌||◌, ◌==◌, if◌then◌else◌, List, [], ◌∷◌, flat_map, slice_get, Option, Some, None}
use Rattle.std.specs.List.{enumerate_from, list_any}
use Rattle.nv_model.specs.Controller.{Controller}
use Rattle.nv_model.specs.Footprint.{Named, completion_slots, footprints, is_destination, loads_from_destination, meets, stores_into}
use Rattle.nv_model.specs.Memory.{image}
use Rattle.nv_model.specs.declared.act.Act.{Act}
use Rattle.nv_world_model.specs.declared.logged.Logged.{Logged}
use Rattle.nv_world_model.specs.Geometry.{Geometry, Guest, regions_of, shape_of}
use Rattle.nv_world_model.specs.PrivateSteps.{act_of}
use Rattle.nv_world_model.specs.SetUp.{any_two}
use Rattle.nv_world_model.specs.Step.{step}
use Rattle.nv_world_model.specs.World.{Command, Ended, Flying, Free, Tag, Taken, World}

-- ---- what is outstanding

-- the entry of a guest's command, under the tag that it goes by alone
abbrev pub entry_in : (number tag : ℕ) → Command → List (List ℕ)
entry_in number tag command = if command.guest == number && command.leader == tag then command.entry ∷ [] else []

abbrev pub own_entry : (number tag : ℕ) → Tag → List (List ℕ)
own_entry number tag Free = []
own_entry number tag (Taken command reads) = entry_in number tag command
own_entry number tag (Flying command share standing) = entry_in number tag command
own_entry number tag (Ended command st share) = entry_in number tag command

-- the entries of a guest's commands that are taken, and neither completed nor run out
unfoldable pub taken_entries : (number : ℕ) → World → List (List ℕ)
taken_entries number w = flat_map (λ l. flat_map (λ t. own_entry number t.0 t.1) (enumerate_from 0 l.tags)) w.lanes

-- the bytes that a guest's outstanding commands name in its memory as it is, a list for each command
abbrev pub commands_named : (number : ℕ) → Guest → World → Controller → List (List Named)
commands_named number guest w c =
    footprints (shape_of guest) (image (regions_of guest) w.host) c (taken_entries number w)

-- ---- a state in order

-- whether two runs of bytes share one that is a destination of either
abbrev pub clash : Named → Named → Bool
clash n m = (is_destination n || is_destination m) && meets n.addr n.len m

-- no destination names a byte twice, or shares one with any other run that is named; and no completion queue that is
-- there has a slot where bytes are named
abbrev pub is_clear : List Named → (slots : List (ℕ × ℕ)) → Bool
is_clear named slots = not (any_two clash named) && not (list_any (λ s. list_any (meets s.0 s.1) named) slots)

-- the guest's next act is no store into named bytes, and no load from a destination
abbrev pub may_act : Option Act → List (List Named) → Bool
may_act None commands = true
may_act (Some a) commands = not (stores_into commands a) && not (loads_from_destination commands a)

-- ---- along a log

-- a state is in order, and this act may be the guest's next
abbrev pub keeps_to : Option Act → List (List Named) → (slots : List (ℕ × ℕ)) → Bool
keeps_to a commands slots = is_clear (flat_map (λ named. named) commands) slots && may_act a commands

abbrev pub in_order_by : Option Controller → Option Act → (number : ℕ) → Guest → World → Bool
in_order_by None a number guest w = true
in_order_by (Some c) a number guest w = keeps_to a (commands_named number guest w c) (completion_slots c)

abbrev pub in_order : Option Act → (number : ℕ) → Guest → World → Bool
in_order a number guest w = in_order_by (slice_get w.controllers number) a number guest w

-- in each state along a log, from that world on, this guest keeps to it; the others are free
unfoldable pub is_disciplined : Geometry → (number : ℕ) → Guest → List Logged → World → Bool
is_disciplined geometry number guest [] w = in_order None number guest w
is_disciplined geometry number guest (l ∷ log) w =
    in_order (act_of number l.event) number guest w
    && is_disciplined geometry number guest log (step geometry l.event w).world
