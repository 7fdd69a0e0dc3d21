-- What all ends of a dialogue have in common, whatever it is given.
use Rattle.std.proofs.Common.{◌≡◌, ℕ, Bool, true, false, cond, not, ◌&&◌, List, ◌∷◌, Option, Some, None, refl}
use Rattle.std.specs.Bool.{⊤}
use Rattle.nv_entry.specs.declared.status_code.StatusCode.{StatusCode}
use Rattle.nv_model.specs.Dialogue.{Dialogue, End, Ask, and_then, in_memory}
use Rattle.nv_model.specs.Reading.{Reading, Faulty, TooLong, Spells, first_failing, unless_faulty}
use Rattle.nv_mem.specs.declared.piece.Piece.{Piece}

-- each end has this, whatever the bytes are
abbrev pub EndsIn : {A : Type 0} → (A → Type 0) → Dialogue A → Type 0
EndsIn P (End value) = P value
EndsIn P (Ask addr unit left next) = (bytes : List ℕ) → EndsIn P (next bytes)

-- so has the end in a memory
pub in_memory-ends : {A : Type 0} (P : A → Type 0) (memory : ℕ → ℕ) (d : Dialogue A) → EndsIn P d
    → P (in_memory memory d)
unfolding in_memory
in_memory-ends P memory (End value) ends = ends
in_memory-ends P memory (Ask addr unit left next) ends = in_memory-ends P memory (next _) (ends _)

-- one dialogue behind another
pub EndsIn-and_then : {A B : Type 0} (P : A → Type 0) (Q : B → Type 0) (d : Dialogue A) (more : A → Dialogue B)
    → EndsIn P d → ((value : A) → P value → EndsIn Q (more value)) → EndsIn Q (and_then d more)
unfolding and_then
EndsIn-and_then P Q (End value) more ends goes = goes value ends
EndsIn-and_then P Q (Ask addr unit left next) more ends goes = λ bytes. EndsIn-and_then P Q (next bytes) more (ends bytes) goes

-- each dialogue ends
pub EndsIn-any : {A : Type 0} (d : Dialogue A) → EndsIn (λ _. ⊤) d
EndsIn-any (End value) = tt
EndsIn-any (Ask addr unit left next) = λ bytes. EndsIn-any (next bytes)

-- a dialogue that goes by a test
pub EndsIn-if : {A : Type 0} (P : A → Type 0) (b : Bool) (x y : Dialogue A) → (b ≡ true → EndsIn P x)
    → (b ≡ false → EndsIn P y) → EndsIn P (cond b x y)
EndsIn-if P true x y so not_so = so refl
EndsIn-if P false x y so not_so = not_so refl

-- ---- readings

-- the pieces that a reading spells have this
abbrev pub OfPieces : (List Piece → Type 0) → Reading → Type 0
OfPieces P (Faulty code) = ⊤
OfPieces P TooLong = ⊤
OfPieces P (Spells pieces) = P pieces

-- what is read where there is no fault
pub EndsIn-unless_faulty : (P : List Piece → Type 0) (fault : Option StatusCode) (more : Dialogue Reading)
    → (fault ≡ None → EndsIn (OfPieces P) more) → EndsIn (OfPieces P) (unless_faulty fault more)
EndsIn-unless_faulty P None more goes = goes refl
EndsIn-unless_faulty P (Some code) more goes = tt

-- ---- tests

-- both of two tests
pub and-true : (a b : Bool) → (a && b) ≡ true → (a ≡ true) × (b ≡ true)
and-true true b both = (refl, both)
and-true false b both = cc

-- not both of two tests, and the first
pub and-false : (a b : Bool) → (a && b) ≡ false → a ≡ true → b ≡ false
and-false true b both first = both
and-false false b both first = cc

pub not-false : (a : Bool) → not a ≡ false → a ≡ true
not-false true is = refl
not-false false is = cc

pub not-true : (a : Bool) → not a ≡ true → a ≡ false
not-true true is = cc
not-true false is = refl

-- where no check fails, the first does not, and none behind it
pub first_failing-none : (failed : Bool) (code : StatusCode) (checks : List (Bool × StatusCode))
    → first_failing ((failed, code) ∷ checks) ≡ None → (failed ≡ false) × (first_failing checks ≡ None)
first_failing-none true code checks none = cc
first_failing-none false code checks none = (refl, none)
