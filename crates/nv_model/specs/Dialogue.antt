-- Reading lists in guest memory. What is read next depends on what was read before, so a reading is a dialogue: it asks for
-- bytes, goes on with what it is given, and ends in a value. A memory answers every question.
use Rattle.std.specs.Prelude.{ℕ, List, [], ◌∷◌}
use Rattle.nv_model.specs.Memory.{bytes_from}

-- `Ask addr unit left next`: the next `unit` bytes are at `addr`; with them, `left` bytes are still wanted of their array or list page
pub data Dialogue (A : Type 0) : Type 0 where
  End : A → Dialogue A
  Ask : ℕ → ℕ → ℕ → (List ℕ → Dialogue A) → Dialogue A

-- the value in which a dialogue with a memory ends
unfoldable pub in_memory : {A : Type 0} → (ℕ → ℕ) → Dialogue A → A
in_memory memory (End value) = value
in_memory memory (Ask addr unit left next) = in_memory memory (next (bytes_from memory addr unit))

-- what a dialogue with a memory asks for, in order: address and number of bytes
unfoldable pub asked : {A : Type 0} → (ℕ → ℕ) → Dialogue A → List (ℕ × ℕ)
asked memory (End value) = []
asked memory (Ask addr unit left next) = (addr, unit) ∷ asked memory (next (bytes_from memory addr unit))

-- one dialogue, and then another that depends on its value
unfoldable pub and_then : {A B : Type 0} → Dialogue A → (A → Dialogue B) → Dialogue B
and_then (End value) more = more value
and_then (Ask addr unit left next) more = Ask addr unit left (λ bytes. and_then (next bytes) more)
