-- Words of the laws about transcripts: a list is fetched part by part, and asked for unit by unit; and what reads show
-- of a memory.
use Rattle.std.specs.Prelude.{◌≡◌, ℕ, ◌+◌, ◌-◌, ◌<◌, ◌≤◌, ◌==◌, if◌then◌else◌, List, [], ◌∷◌, All, Option, Some, None, drop, length, slice_index, take}
use Rattle.std.specs.Bool.{⊤}
use Rattle.nv_model.specs.Dialogue.{Dialogue, End, Ask}
use Rattle.nv_model.specs.Transcript.{ReadDone, first_read, part}

-- ---- dialogues that ask in parts

-- how many bytes a question may take: those that are left of the part that was met last, or those of a new part
abbrev pub in_hand : (rest left : ℕ) → ℕ
in_hand rest left = if rest == 0 then part left else rest

-- of the part that was met last `rest` bytes are left, from `from` on: the dialogue uses them up where they are, unit by unit, before it asks
-- elsewhere; and so with each part that is met then
abbrev pub UsesUp : {A : Type 0} → (from rest : ℕ) → Dialogue A → Type 0
UsesUp from rest (End value) = ⊤
UsesUp from rest (Ask addr unit left next) =
    (0 < rest → addr ≡ from)
    × (unit ≤ in_hand rest left)
    × ((bytes : List ℕ) → length bytes ≡ unit → UsesUp (addr + unit) (in_hand rest left - unit) (next bytes))

-- a dialogue asks in parts: it uses each up before it asks elsewhere
abbrev pub AsksInParts : {A : Type 0} → Dialogue A → Type 0
AsksInParts d = UsesUp 0 0 d

-- ---- reads that meet it

-- where a want was met, the read that met it and those of what follows
abbrev pub met_behind : (addr : ℕ) → Option (List ℕ × List ReadDone) → (List ℕ → List ReadDone → List ReadDone) → List ReadDone
met_behind addr None more = []
met_behind addr (Some found) more = record { addr = addr; bytes = found.0 } ∷ more found.0 found.1

-- the reads that a dialogue met, in order; `buffer` is what is left of the part that was met last
unfoldable pub reads_met : {A : Type 0} → Dialogue A → List ℕ → List ReadDone → List ReadDone
reads_met (End value) buffer reads = []
reads_met (Ask addr unit left next) (byte ∷ buffer) reads =
    reads_met (next (take unit (byte ∷ buffer))) (drop unit (byte ∷ buffer)) reads
reads_met (Ask addr unit left next) [] reads =
    met_behind addr (first_read addr (part left) reads) (λ bytes rest. reads_met (next (take unit bytes)) (drop unit bytes) rest)

-- ---- reads that show a memory

-- a read shows the memory's bytes at the addresses of a span that it has
abbrev pub ShowsAt : (memory : ℕ → ℕ) → ReadDone → ℕ × ℕ → Type 0
ShowsAt memory r span =
    (i : ℕ) → i < length r.bytes → span.0 ≤ r.addr + i → r.addr + i < span.0 + span.1 → slice_index r.bytes i ≡ memory (r.addr + i)

-- and so for each of these spans
abbrev pub ShowsOn : (memory : ℕ → ℕ) → List (ℕ × ℕ) → ReadDone → Type 0
ShowsOn memory spans r = All (ShowsAt memory r) spans
