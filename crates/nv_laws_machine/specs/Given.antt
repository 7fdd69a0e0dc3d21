-- Calls of the mediator's code without memory, in a row: each is given the bytes that were fetched for it (profile).
use Rattle.std.specs.Prelude.{◌≡◌, ℕ, List, [], ◌∷◌, take, Option}
use Rattle.std.specs.Bool.{⊤}
use Rattle.nv_laws_sound.specs.Side.{Side}
use Rattle.nv_machine.specs.Contained.{IsFetched}
use Rattle.nv_machine.specs.Effects.{Effect}
use Rattle.nv_machine.specs.Machine.{call, fetch, fetch_then}
use Rattle.nv_model.specs.declared.reply.Reply.{Reply}
use Rattle.nv_world_model.specs.Geometry.{Geometry}
use Rattle.nv_world_model.specs.declared.event.Event.{Event}
use Rattle.nv_world_model.specs.declared.event.Event.TheVariants as event

-- a call: its event, the bytes that it was given, its reply, its effects in memory, and the side behind it
pub record Given : Type 0 where
  pub event : Event
  pub fetched : List ℕ
  pub reply : Option Reply
  pub effects : List Effect
  pub side : Side

-- a call asks for no bytes, and doesn't look at those that it is given; a Reap, whose last dword is looked at first, asks for no others then
abbrev pub AsksForNone : Geometry → Event → Side → (fetched : List ℕ) → Type 0
AsksForNone geometry (event.Take guest queue lane) s fetched = fetch geometry (event.Take guest queue lane) s ≡ []
AsksForNone geometry (event.List lane tag addr len) s fetched = fetch geometry (event.List lane tag addr len) s ≡ []
AsksForNone geometry (event.Reap lane) s fetched = fetch_then geometry (event.Reap lane) s (take 4 fetched) ≡ []
AsksForNone geometry _ s fetched = ⊥

-- it was given as many bytes as it asks for, or any, where it asks for none
pub data IsGiven (geometry : Geometry) (old : Side) (one : Given) : Type 0 where
  Asked : IsFetched geometry one.event old one.fetched → IsGiven geometry old one
  Unasked : AsksForNone geometry one.event old one.fetched → IsGiven geometry old one

-- it is the machine's, as the contract of the code has it
pub record IsAnswered (geometry : Geometry) (old : Side) (one : Given) : Type 0 where
  pub given : IsGiven geometry old one
  pub is : call geometry one.event one.fetched old ≡ record { now = record { side = one.side; effects = one.effects }; reply = one.reply }

-- and so each of several
unfoldable pub AreAnswered : Geometry → List Given → Side → Type 0
AreAnswered geometry [] s = ⊤
AreAnswered geometry (one ∷ more) s = IsAnswered geometry s one × AreAnswered geometry more one.side

-- the side behind them
unfoldable pub side_given : List Given → Side → Side
side_given [] s = s
side_given (one ∷ more) s = side_given more one.side
