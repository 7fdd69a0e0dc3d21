-- When the log, the ports and the workers' counts agree, and where they first differ. Guests have numbers of eight bits, and places
-- are counted from 1 (profile).
use Rattle.std.specs.Prelude.{◌≡◌, ◌≢◌, ◌⊎◌, ℕ, ◌+◌, ◌<◌, ◌≤◌, ◌==◌, Bool, false, if◌then◌else◌, List, [], ◌∷◌, count_by, filter, length, slice_get, sum, sum_by, take}
use Rattle.nv_threads.specs.Told.{Told}
use Rattle.nv_world_model.specs.declared.event.Event.{Event}
use Rattle.nv_world_model.specs.declared.event.Event.TheVariants as event
use Rattle.nv_world_model.specs.declared.logged.Logged.{Logged}

-- how many numbers of guests there are
abbrev pub guest_numbers : ℕ
guest_numbers = 256

-- whether an event is an act of the guest
abbrev pub is_act_of : (guest : ℕ) → Event → Bool
is_act_of guest (event.Guest by a) = by == guest
is_act_of guest (event.Admin by) = false
is_act_of guest (event.Take by queue lane) = false
is_act_of guest (event.List lane tag addr len) = false
is_act_of guest (event.Submit lane tag) = false
is_act_of guest (event.GiveUp lane tag) = false
is_act_of guest (event.DevTake lane) = false
is_act_of guest (event.DevMove lane slot number) = false
is_act_of guest (event.DevPost lane slot) = false
is_act_of guest (event.DevFail lane slot st) = false
is_act_of guest (event.Keep block) = false
is_act_of guest (event.Reap lane) = false
is_act_of guest (event.Post lane tag) = false

-- what the log has of a guest: its acts with their replies, in order
abbrev pub acts_of : (guest : ℕ) → (log : List Logged) → List Logged
acts_of guest log = filter (λ l. is_act_of guest l.event) log

-- how many ports a guest has
abbrev pub ports_of : (guest : ℕ) → (ports : List Told) → ℕ
ports_of guest ports = count_by (λ p. p.guest == guest) ports

-- what a guest's port got; nothing where it has none
abbrev pub told_to : (guest : ℕ) → (ports : List Told) → List Logged
told_to guest [] = []
told_to guest (p ∷ ports) = if p.guest == guest then p.calls else told_to guest ports

-- a guest has no two ports, and what the log has of it is what its port got
pub record IsTold (log : List Logged) (ports : List Told) (guest : ℕ) : Type 0 where
  pub single : ports_of guest ports ≤ 1
  pub same : acts_of guest log ≡ told_to guest ports

-- all that ports got, and all that workers put into the log
abbrev pub counted : (ports : List Told) → (shares : List ℕ) → ℕ
counted ports shares = sum_by (λ p. length p.calls) ports + sum shares

-- all agree
pub record IsFinished (log : List Logged) (ports : List Told) (shares : List ℕ) : Type 0 where
  pub told : (guest : ℕ) → guest < guest_numbers → IsTold log ports guest
  pub counted : length log ≡ counted ports shares

-- ---- where they differ

-- two lists are alike before a place, and at it differ, or one of them has ended
pub record DifferAt (place : ℕ) (xs ys : List Logged) : Type 0 where
  pub index : ℕ
  pub from_one : place ≡ index + 1
  pub before : take index xs ≡ take index ys
  pub there : slice_get xs index ≢ slice_get ys index

-- a guest has two ports, which place 0 represents; or it has at most one, and that is the first place at which the log differs from it
abbrev pub DiffersAt : (log : List Logged) → (ports : List Told) → (guest place : ℕ) → Type 0
DiffersAt log ports guest place =
    (1 < ports_of guest ports) × (place ≡ 0)
    ⊎ (ports_of guest ports ≤ 1) × DifferAt place (acts_of guest log) (told_to guest ports)

-- the lowest guest that differs, and where
pub record IsLowest (log : List Logged) (ports : List Told) (guest place : ℕ) : Type 0 where
  pub below : (lower : ℕ) → lower < guest → IsTold log ports lower
  pub here : DiffersAt log ports guest place

-- no guest differs, but the sum does: guest 255 and place 0 represent it
pub record IsSumOff (log : List Logged) (ports : List Told) (shares : List ℕ) (guest place : ℕ) : Type 0 where
  pub last : guest ≡ 255
  pub nowhere : place ≡ 0
  pub told : (any : ℕ) → any < guest_numbers → IsTold log ports any
  pub off : length log ≢ counted ports shares

-- the first difference
abbrev pub IsFirstMismatch : (log : List Logged) → (ports : List Told) → (shares : List ℕ) → (guest place : ℕ) → Type 0
IsFirstMismatch log ports shares guest place = IsLowest log ports guest place ⊎ IsSumOff log ports shares guest place
