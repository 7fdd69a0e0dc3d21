-- The first number of some that passes a test (profile).
use Rattle.std.specs.Prelude.{◌≡◌, ℕ, ◌<◌, ◌≤◌, Bool, true, false}

-- the first number from one on and below another of which a test holds; that other, where it holds of none
pub record IsNext (test : ℕ → Bool) (from to found : ℕ) : Type 0 where
  pub passed : (number : ℕ) → from ≤ number → number < found → test number ≡ false
  pub here : found < to → (from ≤ found) × (test found ≡ true)
  pub within : found ≤ to
