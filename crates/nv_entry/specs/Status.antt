-- The status of a completion: Base Specification 2.0, "Status Field Definition"
use Rattle.std.specs.Prelude.{ℕ, Bool, if◌then◌else◌}

-- status code type, status code, and whether the command should not be tried again
pub record StatusField : Type 0 where
  pub sct : ℕ
  pub sc : ℕ
  pub dnr : Bool

-- a status of this type and code
abbrev pub status : ℕ → ℕ → Bool → StatusField
status sct sc dnr = record { sct = sct; sc = sc; dnr = dnr }

-- a bit as a number
abbrev pub bit : Bool → ℕ
bit set = if set then 1 else 0
