-- The last dword of a completion, which is read first, and the whole.
use Rattle.std.proofs.Common.{◌≡◌, ◌+◌, ◌∙◌, ℕ, List, [], ◌∷◌, ap, sym, slice_index_or}
use Rattle.nv_entry.specs.Completion.{phase_of}
use Rattle.nv_entry.specs.Layout.{dword, number_at}
use Rattle.nv_model.proofs.MemoryLemmas.{bytes_from-append}
use Rattle.nv_model.specs.Memory.{bytes_from}

-- sixteen bytes, twelve and then four
abbrev pub whole : (f l : List ℕ) → List ℕ
whole f l =
    slice_index_or f 0 0 ∷ slice_index_or f 1 0 ∷ slice_index_or f 2 0 ∷ slice_index_or f 3 0 ∷ slice_index_or f 4 0 ∷ slice_index_or f 5 0 ∷ slice_index_or f 6 0 ∷ slice_index_or f 7 0 ∷ slice_index_or f 8 0 ∷ slice_index_or f 9 0 ∷ slice_index_or f 10 0 ∷ slice_index_or f 11 0 ∷ slice_index_or l 0 0 ∷ slice_index_or l 1 0 ∷ slice_index_or l 2 0 ∷ slice_index_or l 3 0 ∷ []

-- the four behind zeros
abbrev pub alone : (l : List ℕ) → List ℕ
alone l = 0 ∷ 0 ∷ 0 ∷ 0 ∷ 0 ∷ 0 ∷ 0 ∷ 0 ∷ 0 ∷ 0 ∷ 0 ∷ 0 ∷ slice_index_or l 0 0 ∷ slice_index_or l 1 0 ∷ slice_index_or l 2 0 ∷ slice_index_or l 3 0 ∷ []

pub read-whole : (m : ℕ → ℕ) (addr : ℕ) (f l : List ℕ) → f ≡ bytes_from m addr 12 → l ≡ bytes_from m (addr + 12) 4
    → whole f l ≡ bytes_from m addr 16
unfolding bytes_from
read-whole m addr f l first last =
    ap (λ (x : List ℕ). whole x l) first ∙ ap (whole (bytes_from m addr 12)) last ∙ sym (bytes_from-append m addr 12 4)

-- they have the phase tag
pub phase-alone : (m : ℕ → ℕ) (addr : ℕ) (l : List ℕ) → l ≡ bytes_from m (addr + 12) 4 → phase_of (alone l) ≡ phase_of (bytes_from m addr 16)
unfolding bytes_from dword number_at
phase-alone m addr l last =
    ap (λ (x : List ℕ). phase_of (alone x)) last ∙ ap phase_of (sym (bytes_from-append m addr 12 4))
