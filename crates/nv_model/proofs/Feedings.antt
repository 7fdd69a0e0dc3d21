-- Dialogues that are fed: what is left of one, and what a memory shows where it asks.
use Rattle.std.proofs.Common.{◌≡◌, ℕ, zero, suc, ◌+◌, ◌<◌, List, [], ◌∷◌, take, drop, Option, Some, None, arith, refl, ◌∙◌, ap}
use Rattle.nv_entry.specs.declared.status_code.StatusCode.{StatusCode}
use Rattle.nv_model.specs.Dialogue.{Dialogue, End, Ask, and_then, in_memory}
use Rattle.nv_model.specs.Memory.{bytes_from}
use Rattle.nv_model.specs.Reading.{Reading, unless_faulty}
use Rattle.nv_model.specs.Transcript.{ReadDone, fed, in_transcript, units_fed}

-- ---- a dialogue that is fed

-- no bytes change nothing
pub fed-nil : {A : Type 0} (d : Dialogue A) → fed d [] ≡ d
unfolding fed
fed-nil (End value) = refl
fed-nil (Ask addr unit left next) = refl

-- and nothing is taken of them
pub taken-nil : {A : Type 0} (d : Dialogue A) → units_fed d [] ≡ []
unfolding units_fed
taken-nil (End value) = refl
taken-nil (Ask addr unit left next) = refl

-- a dialogue that goes on to its end at once is fed as it is
pub fed-and_then : {A B : Type 0} (d : Dialogue A) (f : A → B) (bytes : List ℕ)
    → fed (and_then d (λ v. End (f v))) bytes ≡ and_then (fed d bytes) (λ v. End (f v))
unfolding fed and_then
fed-and_then (End value) f bytes = refl
fed-and_then (Ask addr unit left next) f [] = refl
fed-and_then (Ask addr unit left next) f (byte ∷ bytes) =
    fed-and_then (next (take unit (byte ∷ bytes))) f (drop unit (byte ∷ bytes))

-- and takes the same units
pub taken-and_then : {A B : Type 0} (d : Dialogue A) (f : A → B) (bytes : List ℕ)
    → units_fed (and_then d (λ v. End (f v))) bytes ≡ units_fed d bytes
unfolding units_fed and_then
taken-and_then (End value) f bytes = refl
taken-and_then (Ask addr unit left next) f [] = refl
taken-and_then (Ask addr unit left next) f (byte ∷ bytes) =
    ap (λ units. take unit (byte ∷ bytes) ∷ units) (taken-and_then (next (take unit (byte ∷ bytes))) f (drop unit (byte ∷ bytes)))

-- ---- bytes of a memory

-- the first of them
pub take-bytes_from : (m : ℕ → ℕ) (addr n k : ℕ) → take n (bytes_from m addr (n + k)) ≡ bytes_from m addr n
unfolding bytes_from
take-bytes_from m addr zero k = refl
take-bytes_from m addr (suc n) k =
    let more : suc n + k ≡ suc (n + k) = omega arith in
    rw more (ap (λ (bytes : List ℕ). m addr ∷ bytes) (take-bytes_from m (suc addr) n k))

-- and those behind
pub drop-bytes_from : (m : ℕ → ℕ) (addr n k : ℕ) → drop n (bytes_from m addr (n + k)) ≡ bytes_from m (addr + n) k
unfolding bytes_from
drop-bytes_from m addr zero k =
    let none : zero + k ≡ k = omega arith in
    let at : addr ≡ addr + zero = omega arith in
    ap (bytes_from m addr) none ∙ ap (λ (a : ℕ). bytes_from m a k) at
drop-bytes_from m addr (suc n) k =
    let more : suc n + k ≡ suc (n + k) = omega arith in
    let at : suc addr + n ≡ addr + suc n = omega arith in
    rw more (drop-bytes_from m (suc addr) n k ∙ ap (λ (a : ℕ). bytes_from m a k) at)

-- one that asks takes a unit of bytes, if there are any
pub fed-some : {A : Type 0} (m : ℕ → ℕ) (from : ℕ) (addr unit left : ℕ) (next : List ℕ → Dialogue A) (n : ℕ) → 0 < n
    → fed (Ask addr unit left next) (bytes_from m from n) ≡ fed (next (take unit (bytes_from m from n))) (drop unit (bytes_from m from n))
unfolding fed bytes_from
fed-some m from addr unit left next zero some = absurd (omega arith)
fed-some m from addr unit left next (suc n) some = refl

-- ---- and its end in a memory

-- the end of a dialogue that goes on to its end at once
pub in_memory-end : {A B : Type 0} (m : ℕ → ℕ) (d : Dialogue A) (f : A → B)
    → in_memory m (and_then d (λ v. End (f v))) ≡ f (in_memory m d)
unfolding in_memory and_then
in_memory-end m (End value) f = refl
in_memory-end m (Ask addr unit left next) f = in_memory-end m (next (bytes_from m addr unit)) f

-- feeding these bytes leaves its end in this memory as it is
pub record KeepsEnd (m : ℕ → ℕ) (d : Dialogue Reading) (bytes : List ℕ) : Type 0 where
  pub same : in_memory m (fed d bytes) ≡ in_memory m d

-- no bytes do
pub KeepsEnd-nil : (m : ℕ → ℕ) (d : Dialogue Reading) → KeepsEnd m d []
KeepsEnd-nil m d = record { same = ap (in_memory m) (fed-nil d) }

-- what a fault ends does
pub KeepsEnd-fault : (m : ℕ → ℕ) (fault : Option StatusCode) (d : Dialogue Reading) (bytes : List ℕ)
    → (fault ≡ None → KeepsEnd m d bytes) → KeepsEnd m (unless_faulty fault d) bytes
unfolding fed
KeepsEnd-fault m (Some code) d bytes keeps = record { same = refl }
KeepsEnd-fault m None d bytes keeps = keeps refl

-- ---- in a transcript

-- what is left of a part that a transcript met is fed
pub in_transcript-fed : {A : Type 0} (d : Dialogue A) (bytes : List ℕ) (reads : List ReadDone)
    → in_transcript d bytes reads ≡ in_transcript (fed d bytes) [] reads
unfolding in_transcript fed
in_transcript-fed (End value) bytes reads = refl
in_transcript-fed (Ask addr unit left next) [] reads = refl
in_transcript-fed (Ask addr unit left next) (byte ∷ bytes) reads =
    in_transcript-fed (next (take unit (byte ∷ bytes))) (drop unit (byte ∷ bytes)) reads
