-- Decimal digits at the beginning of a word
use Rattle.std.proofs.Common.{◌≡◌, ℕ, ◌+◌, ◌-◌, ◌*◌, ◌^◌, ◌<◌, ◌≤◌, zero, suc, Bool, true, false}
use Rattle.std.proofs.Common.{ltb, eqb, ◌&&◌, List, [], ◌∷◌, length, get_or, take, drop, refl, sym, ap, ◌∙◌, arith}
use Rattle.std.specs.Prelude.{Ok, codes}
use Rattle.std.specs.Char.{digit_value, is_digit}
use Rattle.std.specs.List.{list_all, position_or_len}
use Rattle.std.specs.Str.{bytes_eq}
use Rattle.std.specs.Str.Parse.{digits_value}
use Rattle.std.proofs.lemmas.Bool.{and_parts, false≢true}
use Rattle.std.proofs.lemmas.Bool.Decides.{nat_tests}
use Rattle.std.proofs.lemmas.Int.Digits.{digits_value_more}
use Rattle.std.proofs.lemmas.List.{length-take-le, take_more}
use Rattle.std.proofs.lemmas.List.Folds.{list_all-append}
use Rattle.nv_once_script.specs.OnceNumber.{number_of, spelled, written}
use Rattle.nv_once_script.proofs.OnceWordsLemmas.{ends_word}

abbrev pub is_decimal : ℕ → Bool
is_decimal c = is_digit c 10

-- the value of a decimal digit
digit-value : (c : ℕ) → 48 ≤ c → c ≤ 57 → digit_value c ≡ c - 48
digit-value c low high =
    let no_lower : ltb c 48 ≡ false = grind (arith, nat_tests) in
    let no_higher : ltb c 58 ≡ true = grind (arith, nat_tests) in
    rw (no_lower, no_higher) refl

is_decimal-digit : (c : ℕ) → 48 ≤ c → c ≤ 57 → is_decimal c ≡ true
is_decimal-digit c low high =
    let value = digit-value c low high in
    rw value (grind (arith, nat_tests))

-- one more digit: all are digits
pub digits-more : (text : List ℕ) (i : ℕ) → i < length text → list_all is_decimal (take i text) ≡ true
    → 48 ≤ get_or text i 0 → get_or text i 0 ≤ 57 → list_all is_decimal (take (i + 1) text) ≡ true
digits-more text i within all low high =
    ap (list_all is_decimal) (take_more text i 0 within)
    ∙ list_all-append is_decimal (take i text) (get_or text i 0 ∷ [])
    ∙ rw (all, is_decimal-digit (get_or text i 0) low high) refl

-- one more digit: the number that they spell
pub value-more : (text : List ℕ) (i value digit : ℕ) → i < length text → digits_value 10 (take i text) ≡ value
    → 48 ≤ get_or text i 0 → get_or text i 0 ≤ 57 → digit ≡ get_or text i 0 - 48
    → digits_value 10 (take (i + 1) text) ≡ 10 * value + digit
value-more text i value digit within sofar low high is =
    let made = digits_value_more 10 text i within in
    let own = digit-value (get_or text i 0) low high in
    omega (arith, made, own, sofar, is)

-- a digit ends no word
decimal-goes_on-at : (c : ℕ) (low : Bool) → ltb c 48 ≡ low → is_decimal c ≡ true → ends_word c ≡ false
decimal-goes_on-at c true e digit =
    absurd (false≢true (let none : is_decimal c ≡ false = rw e refl in sym none ∙ digit))
decimal-goes_on-at c false e digit =
    let space : eqb c 32 ≡ false = grind (arith, nat_tests) in
    let hash : eqb c 35 ≡ false = grind (arith, nat_tests) in
    rw (space, hash) refl

decimal-goes_on : (c : ℕ) → is_decimal c ≡ true → ends_word c ≡ false
decimal-goes_on c digit = decimal-goes_on-at c (ltb c 48) refl digit

-- behind digits, a word ends where what stands there says
pub ends-behind : (n : ℕ) (text : List ℕ) → n ≤ length text → list_all is_decimal (take n text) ≡ true
    → position_or_len ends_word text ≡ n + position_or_len ends_word (drop n text)
ends-behind zero text h digits = omega arith
ends-behind (suc n) [] h digits = absurd (omega (arith, h))
ends-behind (suc n) (c ∷ text) h digits =
    let parts = and_parts (is_decimal c) (list_all is_decimal (take n text)) digits in
    let goes_on = decimal-goes_on c parts.0 in
    let rest = ends-behind n text (omega (arith, h)) parts.1 in
    rw (goes_on, rest) (omega arith)

-- digits have no `x`
decimal-no_x : (c : ℕ) → is_decimal c ≡ true → eqb c 120 ≡ false
decimal-no_x c digit = at (eqb c 120) refl
  where
    at : (t : Bool) → eqb c 120 ≡ t → eqb c 120 ≡ false
    at true e =
        let same : c ≡ 120 = grind (arith, nat_tests) in
        absurd (false≢true (ap is_decimal (sym same) ∙ digit))
    at false e = e

no_prefix : (word : List ℕ) → list_all is_decimal word ≡ true → bytes_eq (take 2 word) (codes "0x") ≡ false
no_prefix [] digits = refl
no_prefix (c ∷ []) digits = and-none (eqb c 48)
  where
    and-none : (a : Bool) → (a && false) ≡ false
    and-none true = refl
    and-none false = refl
no_prefix (c ∷ d ∷ rest) digits =
    let parts = and_parts (is_decimal c) (list_all is_decimal (d ∷ rest)) digits in
    let more = and_parts (is_decimal d) (list_all is_decimal rest) parts.1 in
    rw (decimal-no_x d more.0) (and-none (eqb c 48))
  where
    and-none : (a : Bool) → (a && false) ≡ false
    and-none true = refl
    and-none false = refl

-- the number that a word of digits writes
pub number-of_digits : (word : List ℕ) (value : ℕ) → 0 < length word → list_all is_decimal word ≡ true → digits_value 10 word ≡ value
    → value < 2 ^ 64 → number_of word ≡ Ok value
unfolding number_of written spelled
number-of_digits word value some digits is fits =
    let long : ltb 0 (length word) ≡ true = grind (arith, nat_tests) in
    let small : ltb value (2 ^ 64) ≡ true = grind (arith, nat_tests) in
    rw (no_prefix word digits, long, digits, is, small) refl

-- the end of a word that may begin with digits
pub whole-end : (text behind : List ℕ) (n more : ℕ) → n ≤ length text → list_all is_decimal (take n text) ≡ true → behind ≡ drop n text
    → more ≡ position_or_len ends_word behind → n + more ≡ position_or_len ends_word text
whole-end text behind n more within digits cut place =
    rw (place, cut) (sym (ends-behind n text within digits))

-- the end of a word of digits
pub digits-end : (text behind : List ℕ) (n : ℕ) → n ≤ length text → list_all is_decimal (take n text) ≡ true → behind ≡ drop n text
    → position_or_len ends_word behind ≡ 0 → n ≡ position_or_len ends_word text
digits-end text behind n within digits cut place =
    omega (arith, whole-end text behind n 0 within digits cut (sym place))

-- the number of a word that is nothing but digits
pub plain-number : (text word : List ℕ) (n value : ℕ) → 0 < n → n ≤ length text → list_all is_decimal (take n text) ≡ true
    → digits_value 10 (take n text) ≡ value → value < 2 ^ 64 → word ≡ take n text → number_of word ≡ Ok value
plain-number text word n value some within digits is fits cut =
    let long : length (take n text) ≡ n = length-take-le n text within in
    rw cut (number-of_digits (take n text) value (omega (arith, long, some)) digits is fits)
