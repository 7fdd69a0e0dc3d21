-- Digits one after another
use Rattle.std.proofs.Common.{◌≡◌, ℕ, ◌+◌, ◌*◌, ◌^◌, ◌<◌, ◌≤◌, Bool, true, false, cond, ltb}
use Rattle.std.proofs.Common.{◌&&◌, List, [], ◌∷◌, length, Option, Some, None, refl, sym, ap, ◌∙◌, arith}
use Rattle.std.specs.Char.{digit_value, is_digit}
use Rattle.std.specs.List.{list_all}
use Rattle.std.specs.Str.Parse.{digits_value_after}
use Rattle.std.proofs.lemmas.Bool.Decides.{nat_tests}
use Rattle.std.proofs.Math.Nat.{mul-le-mul_left}
use Rattle.nv_once_script.specs.OnceNumber.{spelled}

abbrev pub all_digits : ℕ → List ℕ → Bool
all_digits base digits = list_all (λ c. is_digit c base) digits

-- the number that the digits read so far and the others spell, where it is one
unfoldable pub spelled_after : ℕ → ℕ → List ℕ → Option ℕ
spelled_after base value rest =
    cond (all_digits base rest && ltb (digits_value_after base value rest) (2 ^ 64)) (Some (digits_value_after base value rest)) None

-- before the first digit
pub spelled_after-all : (base : ℕ) (digits : List ℕ) → 0 < length digits
    → spelled_after base 0 digits ≡ spelled base digits
unfolding spelled_after spelled
spelled_after-all base digits h =
    let some : ltb 0 (length digits) ≡ true = grind (arith, nat_tests) in
    rw some refl

-- no digits
pub spelled-none : (base : ℕ) (digits : List ℕ) → length digits ≡ 0 → spelled base digits ≡ None
unfolding spelled
spelled-none base digits e =
    let none : ltb 0 (length digits) ≡ false = grind (arith, nat_tests) in
    rw none refl

-- what digits follow makes no number smaller
digits_value_after-ge : (base value : ℕ) (rest : List ℕ) → 0 < base → value ≤ digits_value_after base value rest
digits_value_after-ge base value [] h = omega arith
digits_value_after-ge base value (c ∷ rest) h =
    let more = digits_value_after-ge base (value * base + digit_value c) rest h in
    let whole = mul-le-mul_left value h in
    omega (arith, more, whole)

and-false : (b : Bool) (o : Option ℕ) → cond (b && false) o None ≡ None
and-false true o = refl
and-false false o = refl

-- a number beyond 64 bits stays beyond
pub spelled_after-large : (base value : ℕ) (rest : List ℕ) → 0 < base → 2 ^ 64 ≤ value
    → spelled_after base value rest ≡ None
unfolding spelled_after
spelled_after-large base value rest h large =
    let grown = digits_value_after-ge base value rest h in
    let beyond : ltb (digits_value_after base value rest) (2 ^ 64) ≡ false = grind (arith, nat_tests) in
    rw beyond (and-false (all_digits base rest) _)

-- one digit
pub spelled_after-digit : (base value c : ℕ) (rest : List ℕ) → digit_value c < base
    → spelled_after base value (c ∷ rest) ≡ spelled_after base (value * base + digit_value c) rest
unfolding spelled_after
spelled_after-digit base value c rest h =
    let good : ltb (digit_value c) base ≡ true = grind (arith, nat_tests) in
    rw good refl

-- a byte that is no digit
pub spelled_after-other : (base value c : ℕ) (rest : List ℕ) → base ≤ digit_value c
    → spelled_after base value (c ∷ rest) ≡ None
unfolding spelled_after
spelled_after-other base value c rest h =
    let bad : ltb (digit_value c) base ≡ false = grind (arith, nat_tests) in
    rw bad refl

-- behind the last digit
pub spelled_after-end : (base value : ℕ) → value < 2 ^ 64 → spelled_after base value [] ≡ Some value
unfolding spelled_after
spelled_after-end base value h =
    let fits : ltb value (2 ^ 64) ≡ true = grind (arith, nat_tests) in
    rw fits refl

not-below : (a b : ℕ) → (a < b → ⊥) → b ≤ a
not-below a b h = omega (arith, h)

-- a byte that was read, and is no digit
pub spelled_after-read_other : (base value c d : ℕ) (rest : List ℕ) → c ≡ d → (digit_value c < base → ⊥)
    → spelled_after base value (d ∷ rest) ≡ None
spelled_after-read_other base value c d rest e h =
    let h' = rw e at h in
    spelled_after-other base value d rest (not-below (digit_value d) base h')

-- a digit that was read
pub spelled_after-read : (base value c d digit new : ℕ) (rest : List ℕ) → c ≡ d
    → (digit_value c < base) × (digit ≡ digit_value c) → new ≡ value * base + digit
    → spelled_after base value (d ∷ rest) ≡ spelled_after base new rest
spelled_after-read base value c d digit new rest e h made =
    let good : digit_value d < base = rw (← e) h.0 in
    let same : value * base + digit_value d ≡ new = sym (made ∙ ap (λ (n : ℕ). value * base + n) (h.1 ∙ ap digit_value e)) in
    spelled_after-digit base value d rest good ∙ ap (λ (n : ℕ). spelled_after base n rest) same

-- a digit that makes the number too large
pub spelled_after-read_large : (base value c d digit : ℕ) (rest : List ℕ) → 0 < base → c ≡ d
    → (digit_value c < base) × (digit ≡ digit_value c)
    → 2 ^ 64 ≤ value * base + digit → spelled_after base value (d ∷ rest) ≡ None
spelled_after-read_large base value c d digit rest some e h large =
    spelled_after-read base value c d digit (value * base + digit) rest e h refl
    ∙ spelled_after-large base (value * base + digit) rest some large

-- a product or a sum that does not fit
pub large-product : (value base base' digit : ℕ) → base' ≡ base → (value * base' < 2 ^ 64 → ⊥)
    → 2 ^ 64 ≤ value * base + digit
large-product value base base' digit e h =
    let h' = rw e at h in
    let product = not-below (value * base) (2 ^ 64) h' in
    omega (arith, product)

pub large-sum : (value base base' product digit digit' : ℕ) → base' ≡ base → product ≡ value * base' → digit' ≡ digit
    → (product + digit' < 2 ^ 64 → ⊥) → 2 ^ 64 ≤ value * base + digit
large-sum value base base' product digit digit' e p d h =
    let sum = not-below (product + digit') (2 ^ 64) h in
    let same : product ≡ value * base = p ∙ ap (λ (n : ℕ). value * n) e in
    omega (arith, sum, same, d)

pub sum-is : (value base base' product digit digit' new : ℕ) → base' ≡ base → product ≡ value * base' → digit' ≡ digit
    → new ≡ product + digit' → new ≡ value * base + digit
sum-is value base base' product digit digit' new e p d n =
    let same : product ≡ value * base = p ∙ ap (λ (n : ℕ). value * n) e in
    omega (arith, same, d, n)
