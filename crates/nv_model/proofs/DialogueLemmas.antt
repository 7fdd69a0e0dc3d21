-- Dialogues one behind the other
use Rattle.std.proofs.Common.{◌≡◌, ℕ, refl}
use Rattle.nv_model.specs.Memory.{bytes_from}
use Rattle.nv_model.specs.Dialogue.{Dialogue, End, Ask, and_then, in_memory}

-- a memory answers the first, and then the second
pub in_memory-and_then : {A B : Type 0} (memory : ℕ → ℕ) (d : Dialogue A) (more : A → Dialogue B)
    → in_memory memory (and_then d more) ≡ in_memory memory (more (in_memory memory d))
unfolding in_memory and_then
in_memory-and_then memory (End value) more = refl
in_memory-and_then memory (Ask addr unit left next) more =
    in_memory-and_then memory (next (bytes_from memory addr unit)) more
