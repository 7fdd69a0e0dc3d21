-- Words of the laws about a dialogue whatever answers it: one memory, a transcript, or memory that changes from
-- question to question.
use Rattle.std.specs.Prelude.{◌≡◌, ◌⊎◌, ℕ, List, length}
use Rattle.std.specs.Bool.{⊤}
use Rattle.nv_model.specs.Dialogue.{Dialogue, End, Ask}
use Rattle.nv_model.specs.Transcript.{part}

-- some answers, each of as many bytes as were asked for, lead the dialogue to this value
abbrev pub MayEndIn : {A : Type 0} → Dialogue A → A → Type 0
MayEndIn (End end) value = end ≡ value
MayEndIn (Ask addr unit left next) value = (bytes : List ℕ) × ((length bytes ≡ unit) × MayEndIn (next bytes) value)

-- and so to this question: `unit` bytes at `addr`, where `left` bytes are wanted
abbrev pub MayAsk : {A : Type 0} → Dialogue A → (addr unit left : ℕ) → Type 0
MayAsk (End end) addr unit left = ⊥
MayAsk (Ask at count rest next) addr unit left =
    ((at ≡ addr) × (count ≡ unit) × (rest ≡ left)) ⊎ ((bytes : List ℕ) × ((length bytes ≡ count) × MayAsk (next bytes) addr unit left))

-- these are as many bytes as a dialogue wants at once where it asks
abbrev pub IsPartFor : {A : Type 0} → Dialogue A → List ℕ → Type 0
IsPartFor (End end) bytes = ⊤
IsPartFor (Ask addr unit left next) bytes = length bytes ≡ part left
