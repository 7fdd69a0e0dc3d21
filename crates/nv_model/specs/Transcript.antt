-- What a mediator has read of a command's lists: reads in the order in which they were made, each with its address and bytes. A
-- command's wants follow from it: each array of descriptors in parts of 4,096 bytes from its start, the needed slots of each list
-- page, and each run of the ranges of Dataset Management (profile).
use Rattle.std.specs.Prelude.{ℕ, min, ◌&&◌, ◌==◌, if◌then◌else◌, List, [], ◌∷◌, length, take, drop, Option, Some, None}
use Rattle.nv_model.specs.Dialogue.{Dialogue, End, Ask}
use Rattle.nv_model.specs.Limits.{part_size}

-- one read
pub record ReadDone : Type 0 where
  pub addr : ℕ
  pub bytes : List ℕ

-- more is wanted, `len` bytes at `addr`; or all was met and gave this value
pub data Outcome (A : Type 0) : Type 0 where
  Wanted : (addr len : ℕ) → Outcome A
  Settled : A → Outcome A

-- how many bytes are wanted at once, where this many are left
abbrev pub part : ℕ → ℕ
part left = min left part_size

-- the first read of that address and length, and the reads after it
unfoldable pub first_read : (addr len : ℕ) → List ReadDone → Option (List ℕ × List ReadDone)
first_read addr len [] = None
first_read addr len (r ∷ rs) =
    if r.addr == addr && length r.bytes == len then Some (r.bytes, rs) else first_read addr len rs

-- a want that no read meets is wanted; one that a read meets goes on
abbrev pub met_by : {A : Type 0} → (addr len : ℕ) → Option (List ℕ × List ReadDone) → (List ℕ → List ReadDone → Outcome A) → Outcome A
met_by addr len None more = Wanted addr len
met_by addr len (Some found) more = more found.0 found.1

-- the outcome of a dialogue with a transcript; `buffer` is what is left of the part that was met last
unfoldable pub in_transcript : {A : Type 0} → Dialogue A → List ℕ → List ReadDone → Outcome A
in_transcript (End value) buffer reads = Settled value
in_transcript (Ask addr unit left next) (byte ∷ buffer) reads =
    in_transcript (next (take unit (byte ∷ buffer))) (drop unit (byte ∷ buffer)) reads
in_transcript (Ask addr unit left next) [] reads =
    met_by addr (part left) (first_read addr (part left) reads)
    (λ bytes rest. in_transcript (next (take unit bytes)) (drop unit bytes) rest)

-- ---- a dialogue that is fed: bytes that were read where it asks are given to it unit by unit

-- the dialogue with the bytes given to it, until they are used up or it ends
unfoldable pub fed : {A : Type 0} → Dialogue A → List ℕ → Dialogue A
fed (End value) bytes = End value
fed (Ask addr unit left next) [] = Ask addr unit left next
fed (Ask addr unit left next) (byte ∷ bytes) = fed (next (take unit (byte ∷ bytes))) (drop unit (byte ∷ bytes))

-- the units that it takes of them
unfoldable pub units_fed : {A : Type 0} → Dialogue A → List ℕ → List (List ℕ)
units_fed (End value) bytes = []
units_fed (Ask addr unit left next) [] = []
units_fed (Ask addr unit left next) (byte ∷ bytes) =
    take unit (byte ∷ bytes) ∷ units_fed (next (take unit (byte ∷ bytes))) (drop unit (byte ∷ bytes))
