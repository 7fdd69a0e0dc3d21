-- Events that are made in a row, over states of any kind: a simulation, or a host's mediator and its memory (profile).
use Rattle.std.specs.Prelude.{◌≡◌, ◌+◌, ℕ, List, [], ◌∷◌, length}
use Rattle.nv_world_model.specs.declared.event.Event.{Event}

-- these events lead from one state to the other, each as one may
unfoldable pub AreMadeBy : (S : Type 0) → (one : Event → S → S → Type 0) → List Event → (old new : S) → Type 0
AreMadeBy S one [] old new = new ≡ old
AreMadeBy S one (e ∷ es) old new = (between : S) × one e old between × AreMadeBy S one es between new

-- so many do
pub record LeadsBy (S : Type 0) (one : Event → S → S → Type 0) (count : ℕ) (old new : S) : Type 0 where
  pub events : List Event
  pub made : AreMadeBy S one events old new
  pub counted : length events ≡ count

-- so many do, of which the last gives a command up
pub record LeadsUpBy (S : Type 0) (one : Event → S → S → Type 0) (gives_up : S → S → Type 0) (count : ℕ) (old new : S) : Type 0 where
  pub less : ℕ
  pub before : S
  pub leads : LeadsBy S one less old before
  pub counted : count ≡ less + 1
  pub last : gives_up before new
