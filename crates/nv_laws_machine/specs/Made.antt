-- A call of the mediator's code, which is lent a memory, as a call of the machine without memory (profile).
use Rattle.std.specs.Prelude.{◌≡◌, ℕ, List, [], ◌∷◌, ◌++◌, length, map, Option}
use Rattle.std.specs.Bool.{⊤}
use Rattle.nv_laws_sound.specs.Side.{IsKept, Side}
use Rattle.nv_machine.specs.Effects.{effects_on}
use Rattle.nv_machine.specs.Machine.{call, fetch, fetch_then}
use Rattle.nv_machine.specs.Unplaced.{AreSameButPlaces}
use Rattle.nv_model.specs.Memory.{byte_in}
use Rattle.nv_model.specs.declared.reply.Reply.{Reply}
use Rattle.nv_world_model.specs.Geometry.{Geometry}
use Rattle.nv_world_model.specs.declared.event.Event.{Event}

-- the bytes that lie in a memory at an event's fetch
abbrev pub fetched_from : Geometry → Event → Side → (host : ℕ → ℕ) → List ℕ
fetched_from geometry e s host =
    (let first = map host (fetch geometry e s) in first ++ map host (fetch_then geometry e s first))

-- a call with that reply, which leaves that side and memory, is the machine's: with the bytes that lie in memory at its fetch, and its effects there
pub record IsMachines (geometry : Geometry) (e : Event) (old : Side) (before : List ℕ) (r : Option Reply) (new : Side) (after : List ℕ) : Type 0 where
  pub reply : (call geometry e (fetched_from geometry e old (byte_in before)) old).reply ≡ r
  pub side : AreSameButPlaces (call geometry e (fetched_from geometry e old (byte_in before)) old).now.side new
  pub memory : byte_in after ≡ effects_on (call geometry e (fetched_from geometry e old (byte_in before)) old).now.effects (byte_in before)

-- ---- calls in a row

-- a call: its event, the memory that it was lent, its reply, and side and memory behind it
pub record Made : Type 0 where
  pub event : Event
  pub before : List ℕ
  pub reply : Option Reply
  pub side : Side
  pub after : List ℕ

-- a lane was closed: the side keeps what it keeps, and the guests' controllers are as they were
pub record IsClosing (geometry : Geometry) (old new : Side) : Type 0 where
  pub kept : IsKept geometry new
  pub controllers : new.controllers ≡ old.controllers
  pub many : length new.lanes ≡ length old.lanes

-- a call is the machine's, or it has closed a lane
pub data IsOne (geometry : Geometry) (old : Side) (made : Made) : Type 0 where
  Machines : IsMachines geometry made.event old made.before made.reply made.side made.after → IsOne geometry old made
  Closes : IsClosing geometry old made.side → IsOne geometry old made

-- calls from a side on, each of which is such a one. Between two calls guests and the physical controller leave in memory what they like
unfoldable pub AreMachines : Geometry → List Made → Side → Type 0
AreMachines geometry [] s = ⊤
AreMachines geometry (made ∷ more) s = IsOne geometry s made × AreMachines geometry more made.side

-- the side behind them
unfoldable pub side_behind : List Made → Side → Side
side_behind [] s = s
side_behind (made ∷ more) s = side_behind more made.side
