-- A call of the mediator under way: its side as it is by now, and what the host was told to do in memory so far (profile).
use Rattle.std.specs.Prelude.{ℕ, List, [], ◌∷◌, ◌++◌, ◌==◌, if◌then◌else◌, slice_get, slice_set, Option, Some, None}
use Rattle.nv_laws_sound.specs.Side.{Side}
use Rattle.nv_machine.specs.Effects.{Effect}
use Rattle.nv_model.specs.Controller.{Controller}
use Rattle.nv_model.specs.declared.reply.Reply.{Reply}
use Rattle.nv_model.specs.declared.reply.Reply.TheVariants as reply
use Rattle.nv_world_model.specs.Geometry.{Geometry}
use Rattle.nv_world_model.specs.Seat.{Owner, owner_by}
use Rattle.nv_world_model.specs.World.{Command, Ended, Lane, Tag, Taken, changed_at, group_in, tag_changed, tag_in}
use Rattle.nv_model.specs.Transcript.{ReadDone}

pub record Doing : Type 0 where
  pub side : Side
  pub effects : List Effect

-- what a call comes to: it has no reply where a physical completion names no command of its lane
pub record Called : Type 0 where
  pub now : Doing
  pub reply : Option Reply

abbrev pub replied : Reply → Doing → Called
replied r m = record { now = m; reply = Some r }

abbrev pub stray : Doing → Called
stray m = record { now = m; reply = None }

-- ---- what changes

abbrev pub told : List Effect → Doing → Doing
told effects m = record m { effects = m.effects ++ effects }

abbrev pub lane_changed : (lane : ℕ) → (Lane → Lane) → Doing → Doing
lane_changed lane change m = record m { side = record m.side { lanes = changed_at (slice_get m.side.lanes lane) lane change m.side.lanes } }

abbrev pub tag_put : (lane tag : ℕ) → Tag → Doing → Doing
tag_put lane tag t m = lane_changed lane (tag_changed tag t) m

unfoldable pub tags_put : (lane : ℕ) → (tags : List ℕ) → Tag → Doing → Doing
tags_put lane [] t m = m
tags_put lane (tag ∷ tags) t m = tags_put lane tags t (tag_put lane tag t m)

abbrev pub tail_put : (lane tail : ℕ) → Doing → Doing
tail_put lane tail m = record m { side = record m.side { tails = slice_set m.side.tails lane tail } }

abbrev pub controller_put : (number : ℕ) → Controller → Doing → Doing
controller_put number c m = record m { side = record m.side { controllers = slice_set m.side.controllers number c } }

-- ---- what an event names: a guest, a lane, a command by the tag that it goes by

abbrev pub owner_in : Geometry → Side → (number : ℕ) → Option Owner
owner_in geometry s number = owner_by number (slice_get geometry.guests number) (slice_get s.controllers number)

abbrev pub tag_at : Side → (lane tag : ℕ) → Option Tag
tag_at s lane tag = tag_in (slice_get s.lanes lane) tag

abbrev pub group_at : Side → (lane leader : ℕ) → List ℕ
group_at s lane leader = group_in (slice_get s.lanes lane) leader

abbrev pub for_one : {A : Type 0} → Option A → Doing → (A → Called) → Called
for_one None m more = replied reply.Ignored m
for_one (Some a) m more = more a

abbrev pub for_owner : Option Owner → Doing → (Owner → Called) → Called
for_owner None m more = replied reply.Stale m
for_owner (Some o) m more = more o

abbrev pub for_leader : (tag : ℕ) → Command → Doing → Called → Called
for_leader tag command m done = if command.leader == tag then done else replied reply.Stale m

abbrev pub for_taken : (tag : ℕ) → Option Tag → Doing → (Command → List ReadDone → Called) → Called
for_taken tag None m more = replied reply.Ignored m
for_taken tag (Some (Taken command reads)) m more = for_leader tag command m (more command reads)
for_taken tag (Some _) m more = replied reply.Stale m

abbrev pub for_ended : (tag : ℕ) → Option Tag → Doing → (Command → Called) → Called
for_ended tag None m more = replied reply.Ignored m
for_ended tag (Some (Ended command st share)) m more = for_leader tag command m (more command)
for_ended tag (Some _) m more = replied reply.Stale m
