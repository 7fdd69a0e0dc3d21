-- A reader that takes reads one after the other, and one that reads in a memory what is wanted: words of the laws about
-- transcripts.
use Rattle.std.specs.Prelude.{ℕ, ◌&&◌, ◌==◌, if◌then◌else◌, List, [], ◌∷◌, drop, length, take}
use Rattle.nv_model.specs.Dialogue.{Dialogue, End, Ask}
use Rattle.nv_model.specs.Memory.{bytes_from}
use Rattle.nv_model.specs.Transcript.{Outcome, ReadDone, Settled, Wanted, fed, part}

-- a dialogue with one read: it is fed what it wants where it asks, and any other read changes nothing
abbrev pub given : {A : Type 0} → Dialogue A → ReadDone → Dialogue A
given (End value) r = End value
given (Ask addr unit left next) r =
    if r.addr == addr && length r.bytes == part left then fed (next (take unit r.bytes)) (drop unit r.bytes) else Ask addr unit left next

-- with each of these in turn
unfoldable pub given_all : {A : Type 0} → Dialogue A → List ReadDone → Dialogue A
given_all d [] = d
given_all d (r ∷ rs) = given_all (given d r) rs

-- the state of a dialogue: it wants a part where it asks, or has ended
abbrev pub standing : {A : Type 0} → Dialogue A → Outcome A
standing (End value) = Settled value
standing (Ask addr unit left next) = Wanted addr (part left)

-- the reads that a dialogue wants, each made in this memory when it is wanted; `buffer` is what is left of the last one
unfoldable pub reads_in : {A : Type 0} → (ℕ → ℕ) → Dialogue A → List ℕ → List ReadDone
reads_in memory (End value) buffer = []
reads_in memory (Ask addr unit left next) (byte ∷ buffer) = reads_in memory (next (take unit (byte ∷ buffer))) (drop unit (byte ∷ buffer))
reads_in memory (Ask addr unit left next) [] =
    record { addr = addr; bytes = bytes_from memory addr (part left) }
    ∷ reads_in memory (next (take unit (bytes_from memory addr (part left)))) (drop unit (bytes_from memory addr (part left)))
