-- Lines that are given to their guests, one after another
use Rattle.std.proofs.Common.{◌≡◌, ℕ, ◌+◌, ◌<◌, ◌≤◌, ◌==◌, zero, suc, Bool, true, false, cond, List, [], ◌∷◌, ◌++◌, length, get_or, set, slice_get, Option}
use Rattle.std.proofs.Common.{Some, refl, sym, ap, ◌∙◌, subst, append_assoc, arith, length-append, length-set}
use Rattle.std.proofs.lemmas.Bool.Decides.{nat_tests}
use Rattle.std.proofs.lemmas.List.{append-nil}
use Rattle.nv_run.specs.Parts.{AreParted, lines_in, lines_of, part_of}
use Rattle.nv_run.specs.declared.part.Part.{Part}
use Rattle.nv_run_script.specs.declared.line.Line.{Line}
use Rattle.nv_world_model.proofs.Seats.{slice_get-set, slice_get-set-other}

-- there is a part for each guest, and with the guest's lines among those that are left it is all of them
pub record IsGiven (parts : List Part) (left lines : List Line) : Type 0 where
  pub all : length parts ≡ 16
  pub each : (guest : ℕ) → guest < 16 → part_of guest parts ++ lines_of guest left ≡ lines_of guest lines

-- before the first line
pub IsGiven-none : (parts : List Part) (all : List Line) → AreParted [] parts → IsGiven parts all all
IsGiven-none parts all none =
    record { all = none.all; each = λ guest below. ap (λ (front : List Line). front ++ lines_of guest all) (none.each guest below) }

-- behind the last
pub IsGiven-all : (parts : List Part) (left all : List Line) → IsGiven parts left all → left ≡ [] → AreParted all parts
IsGiven-all parts left all given none =
    record {
      all = given.all;
      each = λ guest below.
          sym (append-nil (part_of guest parts)) ∙ ap (λ (ls : List Line). part_of guest parts ++ lines_of guest ls) (sym none) ∙ given.each guest below;
    }

-- an item that is there
there : {X : Type 0} (xs : List X) (i : ℕ) (x : X) → i < length xs → x ≡ get_or xs i x → slice_get xs i ≡ Some x
there [] i x below at = absurd (omega (arith, below))
there (y ∷ xs) zero x below at = ap (λ z. Some z) (sym at)
there (y ∷ xs) (suc i) x below at = there xs i x (omega (arith, below)) at

-- a line of this guest, or of another
given-one : (guest : ℕ) (parts : List Part) (line : Line) (left all : List Line) (old new : Part) (same : Bool) → (line.guest == guest) ≡ same
    → slice_get parts line.guest ≡ Some old → new.lines.items ≡ old.lines.items ++ line ∷ []
    → part_of guest parts ++ cond same (line ∷ lines_of guest left) (lines_of guest left) ≡ lines_of guest all
    → part_of guest (set parts line.guest new) ++ lines_of guest left ≡ lines_of guest all
given-one guest parts line left all old new true same at more before =
    let is : line.guest ≡ guest = grind (arith, nat_tests, same) in
    let was : slice_get parts guest ≡ Some old = subst (λ (n : ℕ). slice_get parts n ≡ Some old) is at in
    let now : slice_get (set parts line.guest new) guest ≡ Some new =
    subst (λ (n : ℕ). slice_get (set parts line.guest new) n ≡ Some new) is (slice_get-set parts line.guest old new at) in
    ap (λ (o : Option Part). lines_in o ++ lines_of guest left) now ∙ ap (λ (ls : List Line). ls ++ lines_of guest left) more
    ∙ append_assoc old.lines.items (line ∷ []) (lines_of guest left)
    ∙ ap (λ (o : Option Part). lines_in o ++ line ∷ lines_of guest left) (sym was) ∙ before
given-one guest parts line left all old new false other at more before =
    let apart : (guest == line.guest) ≡ false = grind (arith, nat_tests, other) in
    ap (λ (o : Option Part). lines_in o ++ lines_of guest left) (slice_get-set-other parts line.guest guest new apart) ∙ before

-- one more line, to the part of its guest
pub IsGiven-then : (parts : List Part) (line : Line) (left all : List Line) (old new : Part)
    → IsGiven parts (line ∷ left) all → line.guest < length parts → old ≡ get_or parts line.guest old
    → new.lines.items ≡ old.lines.items ++ line ∷ [] → IsGiven (set parts line.guest new) left all
IsGiven-then parts line left all old new given below at more =
    record {
      all = length-set parts line.guest new ∙ given.all;
      each = λ guest under.
          given-one guest parts line left all old new (line.guest == guest) refl (there parts line.guest old below at) more (given.each guest under);
    }

-- a line of no guest that there can be
passed-one : (guest : ℕ) (parts : List Part) (line : Line) (left all : List Line) (same : Bool) → (line.guest == guest) ≡ same
    → length parts ≡ 16 → guest < 16 → length parts ≤ line.guest
    → part_of guest parts ++ cond same (line ∷ lines_of guest left) (lines_of guest left) ≡ lines_of guest all
    → part_of guest parts ++ lines_of guest left ≡ lines_of guest all
passed-one guest parts line left all true same places under beyond before =
    let is : line.guest ≡ guest = grind (arith, nat_tests, same) in
    absurd (omega (arith, is, places, under, beyond))
passed-one guest parts line left all false other places under beyond before = before

pub IsGiven-passed : (parts : List Part) (line : Line) (left all : List Line)
    → IsGiven parts (line ∷ left) all → length parts ≤ line.guest → IsGiven parts left all
IsGiven-passed parts line left all given beyond =
    record {
      all = given.all;
      each = λ guest under. passed-one guest parts line left all (line.guest == guest) refl given.all under beyond (given.each guest under);
    }

-- ---- parts of no lines

-- so many parts, none of which has a line
pub record AreEmpty (parts : List Part) (count : ℕ) : Type 0 where
  pub all : length parts ≡ count
  pub each : (guest : ℕ) → part_of guest parts ≡ []

pub AreEmpty-none : AreEmpty [] 0
AreEmpty-none = record { all = refl; each = λ guest. refl }

one-more : (parts : List Part) (part : Part) (guest : ℕ) → part.lines.items ≡ [] → ((n : ℕ) → part_of n parts ≡ []) → part_of guest (parts ++ part ∷ []) ≡ []
one-more [] part zero none each = none
one-more [] part (suc guest) none each = refl
one-more (first ∷ parts) part zero none each = each 0
one-more (first ∷ parts) part (suc guest) none each = one-more parts part guest none (λ n. each (suc n))

pub AreEmpty-then : (parts : List Part) (count : ℕ) (part : Part) → AreEmpty parts count → part.lines.items ≡ [] → AreEmpty (parts ++ part ∷ []) (count + 1)
AreEmpty-then parts count part empty none =
    record {
      all = omega (arith, empty.all, length-append parts (part ∷ []));
      each = λ guest. one-more parts part guest none empty.each;
    }
