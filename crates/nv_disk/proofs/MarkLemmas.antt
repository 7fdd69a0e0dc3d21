-- Marks by the number of flushes, as a list of marks.
use Rattle.std.proofs.Common.{◌≡◌, ℕ, zero, suc, ◌+◌, ◌<◌, ◌≤◌, Bool, true, false, nat_le, List, [], ◌∷◌, length, map, replicate, set, All, refl, sym, ap, ◌∙◌, arith}
use Rattle.std.specs.List.{slice_index_or}
use Rattle.std.proofs.lemmas.Bool.Decides.{nat_tests}
use Rattle.std.proofs.lemmas.List.{get_or-map, length-map, map-set}
use Rattle.nv_disk.specs.Since.{is_kept, marks_of}

-- as many marks as numbers
pub length-marks : (flushes : ℕ) (since : List ℕ) → length (marks_of flushes since) ≡ length since
unfolding marks_of
length-marks flushes since = length-map since (is_kept flushes)

-- the mark of a block
pub mark-told : (flushes : ℕ) (since : List ℕ) (block : ℕ) → block < length since
    → nat_le (slice_index_or since block 0) flushes ≡ slice_index_or (marks_of flushes since) block false
unfolding marks_of
mark-told flushes since block below = sym (get_or-map (is_kept flushes) since block 0 false below)

-- a mark that is given
pub mark-given : (flushes : ℕ) (since : List ℕ) (block at : ℕ) (mark : Bool) → nat_le at flushes ≡ mark
    → marks_of flushes (set since block at) ≡ set (marks_of flushes since) block mark
unfolding marks_of
mark-given flushes since block at mark told =
    map-set (is_kept flushes) since block at ∙ ap (set (map (is_kept flushes) since) block) told

-- marks that are all alike
pub marks-alike : (flushes at n : ℕ) (mark : Bool) → nat_le at flushes ≡ mark → marks_of flushes (replicate n at) ≡ replicate n mark
unfolding marks_of
marks-alike flushes at zero mark told = refl
marks-alike flushes at (suc n) mark told = ap (λ (ms : List Bool). nat_le at flushes ∷ ms) (marks-alike flushes at n mark told) ∙ ap (λ (m : Bool). m ∷ replicate n mark) told

-- behind one more flush all are set
pub marks-flushed : (flushes : ℕ) (since : List ℕ) → All (λ at. at ≤ flushes + 1) since → marks_of (flushes + 1) since ≡ replicate (length since) true
unfolding marks_of
marks-flushed flushes [] soon = refl
marks-flushed flushes (at ∷ since) soon =
    let first : at ≤ flushes + 1 = soon 0 0 (omega arith) in
    let told : nat_le at (flushes + 1) ≡ true = grind (arith, nat_tests) in
    let rest : All (λ k. k ≤ flushes + 1) since = λ i d below. soon (suc i) d (omega arith) in
    ap (λ (m : Bool). m ∷ map (is_kept (flushes + 1)) since) told ∙ ap (λ (ms : List Bool). true ∷ ms) (marks-flushed flushes since rest)
