-- The first read of a transcript that meets a want
use Rattle.std.proofs.Common.{◌≡◌, ℕ, Bool, true, false, cond, ◌&&◌, ◌==◌, List, [], ◌∷◌, ◌++◌, length, Some, None, arith, ap, refl}
use Rattle.std.specs.Option.{option_map}
use Rattle.std.proofs.lemmas.Bool.{eq-eqb}
use Rattle.nv_model.specs.Transcript.{ReadDone, first_read}

-- there is none among no reads
pub first_read-nil : (addr len : ℕ) (reads : List ReadDone) → length reads ≡ 0 → first_read addr len reads ≡ None
unfolding first_read
first_read-nil addr len [] none = refl
first_read-nil addr len (r ∷ rs) none = absurd (omega arith)

-- the one in front
pub first_read-here : (addr len : ℕ) (reads : List ReadDone) (r : ReadDone) (rs : List ReadDone) → reads ≡ r ∷ rs
    → (r.addr == addr && length r.bytes == len) ≡ true → first_read addr len reads ≡ Some (r.bytes, rs)
unfolding first_read
first_read-here addr len reads r rs e meets =
    rw e (by_test (r.addr == addr && length r.bytes == len) meets)
  where
    by_test : (b : Bool) → b ≡ true → cond b (Some (r.bytes, rs)) (first_read addr len rs) ≡ Some (r.bytes, rs)
    by_test true is = refl
    by_test false is = (cc)

-- or one behind it
pub first_read-behind : (addr len : ℕ) (reads : List ReadDone) (r : ReadDone) (rs : List ReadDone) → reads ≡ r ∷ rs
    → (r.addr == addr && length r.bytes == len) ≡ false → first_read addr len rs ≡ first_read addr len reads
unfolding first_read
first_read-behind addr len reads r rs e meets =
    rw e (by_test (r.addr == addr && length r.bytes == len) meets)
  where
    by_test : (b : Bool) → b ≡ false → first_read addr len rs ≡ cond b (Some (r.bytes, rs)) (first_read addr len rs)
    by_test true is = (cc)
    by_test false is = refl

-- reads that come after change nothing of the first that meets
pub first_read-more : (addr len : ℕ) (reads : List ReadDone) (bytes : List ℕ) (rest more : List ReadDone)
    → first_read addr len reads ≡ Some (bytes, rest) → first_read addr len (reads ++ more) ≡ Some (bytes, rest ++ more)
unfolding first_read
first_read-more addr len [] bytes rest more e = absurd (cc)
first_read-more addr len (r ∷ rs) bytes rest more e =
    by_test (first_read-more addr len rs bytes rest more) (r.addr == addr && length r.bytes == len) e
  where
    by_test : (first_read addr len rs ≡ Some (bytes, rest) → first_read addr len (rs ++ more) ≡ Some (bytes, rest ++ more))
        → (b : Bool) → cond b (Some (r.bytes, rs)) (first_read addr len rs) ≡ Some (bytes, rest)
        → cond b (Some (r.bytes, rs ++ more)) (first_read addr len (rs ++ more)) ≡ Some (bytes, rest ++ more)
    by_test later true is = ap (option_map (λ (found : List ℕ × List ReadDone). (found.0, found.1 ++ more))) is
    by_test later false is = later is

-- where none meets, the next that does is the first
pub first_read-next : (addr len : ℕ) (reads : List ReadDone) (r : ReadDone) (more : List ReadDone)
    → first_read addr len reads ≡ None → (r.addr == addr && length r.bytes == len) ≡ true
    → first_read addr len (reads ++ r ∷ more) ≡ Some (r.bytes, more)
unfolding first_read
first_read-next addr len [] r more none meets = by_test (r.addr == addr && length r.bytes == len) meets
  where
    by_test : (b : Bool) → b ≡ true → cond b (Some (r.bytes, more)) (first_read addr len more) ≡ Some (r.bytes, more)
    by_test true is = refl
    by_test false is = (cc)
first_read-next addr len (q ∷ qs) r more none meets =
    by_test (λ others. first_read-next addr len qs r more others meets) (q.addr == addr && length q.bytes == len) none
  where
    by_test : (first_read addr len qs ≡ None → first_read addr len (qs ++ r ∷ more) ≡ Some (r.bytes, more))
        → (b : Bool) → cond b (Some (q.bytes, qs)) (first_read addr len qs) ≡ None
        → cond b (Some (q.bytes, qs ++ r ∷ more)) (first_read addr len (qs ++ r ∷ more)) ≡ Some (r.bytes, more)
    by_test later true is = absurd (cc)
    by_test later false is = later is

-- one of that address and length meets
pub meets-own : (r : ReadDone) → (r.addr == r.addr && length r.bytes == length r.bytes) ≡ true
meets-own r = by_tests (r.addr == r.addr) (length r.bytes == length r.bytes) (eq-eqb r.addr r.addr refl) (eq-eqb (length r.bytes) (length r.bytes) refl)
  where
    by_tests : (a b : Bool) → a ≡ true → b ≡ true → (a && b) ≡ true
    by_tests true true p q = refl
    by_tests true false p q = (cc)
    by_tests false b p q = (cc)
