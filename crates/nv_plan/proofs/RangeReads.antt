-- The bytes of a source, as a transcript shows them
use Rattle.std.proofs.Common.{◌≡◌, ℕ, zero, suc, ◌+◌, ◌-◌, ◌<◌, ◌≤◌, All, List, [], ◌∷◌, ◌++◌, Option, Some, None}
use Rattle.std.proofs.Common.{drop}
use Rattle.std.proofs.Common.{length, take, arith, refl, sym, ap, subst, ◌∙◌}
use Rattle.std.proofs.lemmas.List.{drop_all, length-drop}
use Rattle.std.proofs.lemmas.List.Elements.{All-head}
use Rattle.std.proofs.lemmas.List.Sums.{sum_by-cons}
use Rattle.std.proofs.Math.Seq.{take-length}
use Rattle.nv_mem.specs.Places.{piece_len, total_len}
use Rattle.nv_mem.specs.declared.piece.Piece.{Piece}
use Rattle.nv_mem.specs.declared.piece.Piece.TheVariants.{Bucket, Run}
use Rattle.nv_model.specs.Dialogue.{End, and_then}
use Rattle.nv_model.specs.Judge.{Verdict, read_source}
use Rattle.nv_model.specs.Transcript.{Outcome, ReadDone, Wanted, first_read, in_transcript, met_by, part}
use Rattle.nv_model.proofs.RunPieces.{IsRunPiece}
use Rattle.nv_model.proofs.Shown.{first_read-length}
use Rattle.nv_plan.specs.Drafted.{front_of}
use Rattle.nv_plan.specs.declared.draft.Ahead.TheVariants as ahead

-- what comes of a source of these pieces behind these bytes, over these reads
abbrev pub source_over : List Piece → (bytes : List ℕ) → List ReadDone → (List ℕ → Verdict) → Outcome Verdict
source_over pieces bytes reads f = in_transcript (and_then (read_source pieces bytes) (λ b. End (f b))) [] reads

-- a run that no read meets is wanted
pub source-wanted : (addr len : ℕ) (pieces : List Piece) (bytes : List ℕ) (reads : List ReadDone) (f : List ℕ → Verdict)
    → len ≤ 4096 → first_read addr len reads ≡ None
    → source_over (Run addr len ∷ pieces) bytes reads f ≡ Wanted addr len
unfolding read_source and_then in_transcript
source-wanted addr len pieces bytes reads f short none =
    let whole : part len ≡ len = omega arith in
    let more : List ℕ → List ReadDone → Outcome Verdict = λ b rest. in_transcript (and_then (read_source pieces (bytes ++ take len b)) (λ all. End (f all))) (drop len b) rest in
    ap (λ (n : ℕ). met_by addr n (first_read addr n reads) more) whole
    ∙ ap (λ (found : Option (List ℕ × List ReadDone)). met_by addr len found more) none

take-all : (n : ℕ) (xs : List ℕ) → length xs ≡ n → take n xs ≡ xs
take-all n xs many = subst (λ (k : ℕ). take k xs ≡ xs) many (take-length xs)

-- one that a read meets goes on with its bytes
pub source-met : (addr len : ℕ) (pieces : List Piece) (bytes : List ℕ) (reads : List ReadDone) (f : List ℕ → Verdict) (run : List ℕ) (behind : List ReadDone)
    → len ≤ 4096 → first_read addr len reads ≡ Some (run, behind)
    → source_over pieces (bytes ++ run) behind f ≡ source_over (Run addr len ∷ pieces) bytes reads f
unfolding read_source and_then in_transcript
source-met addr len pieces bytes reads f run behind short found =
    let whole : part len ≡ len = omega arith in
    let many : length run ≡ len = first_read-length addr len reads (run, behind) found in
    let more : List ℕ → List ReadDone → Outcome Verdict = λ b rest. in_transcript (and_then (read_source pieces (bytes ++ take len b)) (λ all. End (f all))) (drop len b) rest in
    sym (ap (λ (n : ℕ). met_by addr n (first_read addr n reads) more) whole
    ∙ ap (λ (met : Option (List ℕ × List ReadDone)). met_by addr len met more) found
    ∙ ap (λ (b : List ℕ). in_transcript (and_then (read_source pieces (bytes ++ b)) (λ all. End (f all))) (drop len run) behind) (take-all len run many)
    ∙ ap (λ (b : List ℕ). in_transcript (and_then (read_source pieces (bytes ++ run)) (λ all. End (f all))) b behind) (drop_all len run (omega arith)))

-- ---- the run in front of what is left

pub record IsNextRun (left : List Piece) (addr len : ℕ) (rest : List Piece) : Type 0 where
  pub is : left ≡ Run addr len ∷ rest
  pub sized : total_len left ≡ len + total_len rest

next-run : (left : List Piece) (addr len : ℕ) (rest : List Piece) → left ≡ Run addr len ∷ rest → IsNextRun left addr len rest
next-run left addr len rest is = record { is = is; sized = ap total_len is ∙ sum_by-cons piece_len (Run addr len) rest }

-- it is what comes next
pub front-run : (left : List Piece) (addr len : ℕ) → front_of left ≡ ahead.Read addr len → (rest : List Piece) × IsNextRun left addr len rest
front-run [] addr len e = absurd (cc)
front-run (Run a n ∷ rest) addr len e =
    let at : a ≡ addr = (cc) in
    let size : n ≡ len = (cc) in
    (rest, next-run (Run a n ∷ rest) addr len rest (ap (λ (x : ℕ). Run x n ∷ rest) at ∙ ap (λ (x : ℕ). Run addr x ∷ rest) size))
front-run (Bucket n ∷ rest) addr len e = absurd (cc)

-- where nothing comes next of runs, none is left
pub front-none : (left : List Piece) → All IsRunPiece left → front_of left ≡ ahead.End → left ≡ []
unfolding IsRunPiece
front-none [] runs e = refl
front-none (Run a n ∷ rest) runs e = absurd (cc)
front-none (Bucket n ∷ rest) runs e = absurd (All-head IsRunPiece (Bucket n) rest runs)

-- a source never comes to a list's end
pub front-no_turn : (left : List Piece) → front_of left ≡ ahead.Turn → ⊥
front-no_turn [] e = (cc)
front-no_turn (Run a n ∷ rest) e = (cc)
front-no_turn (Bucket n ∷ rest) e = (cc)

-- what is left after one more
pub drop-one : {X : Type 0} (n : ℕ) (xs : List X) (x : X) (rest : List X) → drop n xs ≡ x ∷ rest → drop (n + 1) xs ≡ rest
drop-one zero xs x rest e = ap (drop 1) e
drop-one (suc n) [] x rest e = absurd (cc)
drop-one (suc n) (y ∷ ys) x rest e =
    let next : suc n + 1 ≡ suc (n + 1) = omega arith in
    ap (λ (k : ℕ). drop k (y ∷ ys)) next ∙ drop-one n ys x rest e

pub drop-within : {X : Type 0} (n : ℕ) (xs : List X) (x : X) (rest : List X) → drop n xs ≡ x ∷ rest → n < length xs
drop-within n xs x rest e =
    let left : length xs - n ≡ length (x ∷ rest) = sym (length-drop n xs) ∙ ap length e in
    omega arith
