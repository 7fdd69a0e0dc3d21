-- A word of one decimal digit, behind one space
use Rattle.std.proofs.Common.{◌≡◌, ℕ, ◌-◌, ◌≤◌, true, false, eqb, List, [], ◌∷◌, length, get_or, take, drop, refl, ap, ◌∙◌, arith}
use Rattle.std.specs.Prelude.{Ok}
use Rattle.std.specs.List.{list_all, position_or_len}
use Rattle.std.specs.Str.Parse.{digits_value}
use Rattle.std.proofs.lemmas.Bool.{eq-eqb, ne_eqb}
use Rattle.nv_once_script.specs.OnceNumber.{number_of}
use Rattle.nv_once_script.specs.OnceWords.{words_of}
use Rattle.nv_once_script.proofs.OnceDigitsLemmas.{digits-end, digits-more, is_decimal, plain-number, value-more}
use Rattle.nv_once_script.proofs.OnceWordsLemmas.{ends_word, first_word-some, is_no_space}

pub first-taken : (xs : List ℕ) → 1 ≤ length xs → get_or (take 1 xs) 0 0 ≡ get_or xs 0 0
first-taken [] some = absurd (omega arith)
first-taken (x ∷ xs) some = refl

-- one space, and then what is none
one-space : (line : List ℕ) → 2 ≤ length line → get_or line 0 0 ≡ 32 → 48 ≤ get_or (drop 1 line) 0 0 → 1 ≡ position_or_len is_no_space line
one-space [] long space digit = absurd (omega arith)
one-space (a ∷ []) long space digit = absurd (omega arith)
one-space (a ∷ b ∷ more) long space digit =
    let first : eqb a 32 ≡ true = eq-eqb a 32 space in
    let second : eqb b 32 ≡ false = ne_eqb b 32 (λ same. absurd (omega (arith, same, digit))) in
    rw (first, second) refl

module _ (line rest text behind : List ℕ) (digit : ℕ) (long : 1 ≤ length rest) (front : text ≡ take 1 rest)
    (is : digit ≡ get_or text 0 0) (low : 48 ≤ digit) (high : digit ≤ 57) where
  same : digit ≡ get_or rest 0 0
  same = is ∙ ap (λ t. get_or t 0 0) front ∙ first-taken rest long

  all_digits : list_all is_decimal (take 1 rest) ≡ true
  all_digits = digits-more rest 0 (omega arith) refl (omega (arith, same)) (omega (arith, same))

  -- its number
  pub digit-number : number_of text ≡ Ok (digit - 48)
  digit-number =
      let value : digits_value 10 (take 1 rest) ≡ digit - 48 =
      omega (arith, value-more rest 0 0 (digit - 48) (omega arith) refl (omega (arith, same)) (omega (arith, same)) (ap (λ n. n - 48) same)) in
      plain-number rest text 1 (digit - 48) (omega arith) long all_digits value (omega arith) front

  -- and its place in the line
  pub digit-word : 2 ≤ length line → get_or line 0 0 ≡ 32 → rest ≡ drop 1 line → behind ≡ drop 1 rest → position_or_len ends_word behind ≡ 0
      → words_of line ≡ text ∷ words_of behind
  digit-word two space cut back ends =
      let starts = one-space line two space (omega (arith, ap (λ t. get_or t 0 0) cut, same)) in
      first_word-some line rest text behind 1 1 starts cut (digits-end rest behind 1 long all_digits back ends) (omega arith) front back
