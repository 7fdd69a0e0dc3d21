-- The decimal digits of a number and of the next
use Rattle.std.proofs.Common.{◌≡◌, ℕ, ◌+◌, ◌-◌, ◌/◌, ◌%◌, ◌<◌, ◌≤◌, ◌^◌, Bool, true, false}
use Rattle.std.proofs.Common.{if◌then◌else◌, List, [], ◌∷◌, ◌++◌, decimal, length, drop, refl, sym, ap, ◌∙◌, arith, inl, inr}
use Rattle.std.proofs.lemmas.Bool.{cases_lt}
use Rattle.std.proofs.lemmas.Fmt.{decimal_digit, decimal_step}
use Rattle.std.proofs.Math.ListN.{set}
use Rattle.std.proofs.lemmas.List.{drop-set, length-append, length-drop, take_all}
use Rattle.std.proofs.lemmas.Slice.{between-put_mid, between_to_end}
use borrow.Rule.Slice.PartMut.{mid_of, put_mid, same_len_mid}
use Rattle.std.specs.Prelude.{get_or}

-- lists that are the same have the same last member
parts-last : (xs ys : List ℕ) (x y : ℕ) → xs ++ (x ∷ []) ≡ ys ++ (y ∷ []) → (xs ≡ ys) × (x ≡ y)
parts-last [] [] x y e = (refl, ap (λ l. get_or l 0 0) e)
parts-last [] (b ∷ ys) x y e = absurd (omega (arith, ap length e, length-append ys (y ∷ [])))
parts-last (a ∷ xs) [] x y e = absurd (omega (arith, ap length e, length-append xs (x ∷ [])))
parts-last (a ∷ xs) (b ∷ ys) x y e =
    let rest = parts-last xs ys x y (ap (drop 1) e) in
    (ap (λ h. h ∷ xs) (ap (λ l. get_or l 0 0) e) ∙ ap (λ t. b ∷ t) rest.0, rest.1)

-- the next number, whose last digit is no 9
pub next-last : (n : ℕ) (front : List ℕ) (d : ℕ) → n + 1 < 2 ^ 64 → front ++ (d ∷ []) ≡ decimal n → d < 57
    → front ++ ((d + 1) ∷ []) ≡ decimal (n + 1)
next-last n front d small is low =
    elim (cases_lt n 10) [
      | inl few ↦
          let both = parts-last front [] d (48 + n) (is ∙ decimal_digit n few) in
          let one : 48 + (n + 1) ≡ d + 1 = omega (arith, both.1) in
          ap (λ l. l ++ ((d + 1) ∷ [])) both.0
          ∙ ap (λ k. k ∷ []) (sym one)
          ∙ sym (decimal_digit (n + 1) (omega (arith, both.1)))
      | inr many ↦
          let both = parts-last front (decimal (n / 10)) d (48 + n % 10) (is ∙ decimal_step n many (omega arith)) in
          let tens : (n + 1) / 10 ≡ n / 10 = omega (arith, both.1) in
          let ones : 48 + (n + 1) % 10 ≡ d + 1 = omega (arith, both.1) in
          ap (λ l. l ++ ((d + 1) ∷ [])) both.0
          ∙ (λ i. decimal (sym tens i) ++ ((sym ones i) ∷ []))
          ∙ sym (decimal_step (n + 1) (omega arith) small)
    ]

-- a digit that is put behind
pushed : (carry : Bool) (after : List ℕ) → (if carry then 49 ∷ (after ++ (48 ∷ [])) else after ++ (48 ∷ [])) ≡ (if carry then 49 ∷ after else after) ++ (48 ∷ [])
pushed true after = refl
pushed false after = refl

-- where it is one, it becomes a 0, and what stands in front becomes the digits of the next number
pub next-front : (n : ℕ) (front after : List ℕ) (d : ℕ) (carry : Bool) → n + 1 < 2 ^ 64 → front ++ (d ∷ []) ≡ decimal n → 57 ≤ d
    → ((m : ℕ) → m + 1 < 2 ^ 64 → front ≡ decimal m → (if carry then 49 ∷ after else after) ≡ decimal (m + 1))
    → (front ≡ [] → (if carry then 49 ∷ after else after) ≡ 49 ∷ [])
    → (if carry then 49 ∷ (after ++ (48 ∷ [])) else after ++ (48 ∷ [])) ≡ decimal (n + 1)
next-front n front after d carry small is high some none =
    elim (cases_lt n 10) [
      | inl few ↦
          let both = parts-last front [] d (48 + n) (is ∙ decimal_digit n few) in
          let tens : (n + 1) / 10 ≡ 1 = omega (arith, both.1) in
          let ones : 48 + (n + 1) % 10 ≡ 48 = omega (arith, both.1) in
          pushed carry after
          ∙ ap (λ l. l ++ (48 ∷ [])) (none both.0 ∙ sym (decimal_digit 1 (omega arith)))
          ∙ (λ i. decimal (sym tens i) ++ ((sym ones i) ∷ []))
          ∙ sym (decimal_step (n + 1) (omega (arith, both.1)) small)
      | inr many ↦
          let both = parts-last front (decimal (n / 10)) d (48 + n % 10) (is ∙ decimal_step n many (omega arith)) in
          let tens : (n + 1) / 10 ≡ n / 10 + 1 = omega (arith, both.1) in
          let ones : 48 + (n + 1) % 10 ≡ 48 = omega (arith, both.1) in
          pushed carry after
          ∙ ap (λ l. l ++ (48 ∷ [])) (some (n / 10) (omega arith) both.0)
          ∙ (λ i. decimal (sym tens i) ++ ((sym ones i) ∷ []))
          ∙ sym (decimal_step (n + 1) (omega arith) small)
    ]

-- ---- digits at the end of their place

-- those from a start on, as a part of the place, and the place once they are others
pub part-drop : (start k : ℕ) (place : List ℕ) → length place ≤ start + k → mid_of start k place ≡ drop start place
part-drop start k place all = take_all k (drop start place) (omega (arith, length-drop start place))

length-place : (start k : ℕ) (place digits : List ℕ) → start + k ≡ length place → length digits ≡ k → length (put_mid start k place digits) ≡ length place
length-place start k place digits all len =
    let part = ap length (part-drop start k place (omega (arith, all))) in
    same_len_mid start k place digits (omega (arith, part, all, len, length-drop start place))

pub drop-part : (start k : ℕ) (place digits : List ℕ) → start + k ≡ length place → length digits ≡ k → drop start (put_mid start k place digits) ≡ digits
drop-part start k place digits all len =
    sym (between_to_end (put_mid start k place digits) start (start + k) (omega (arith, length-place start k place digits all len, all)))
    ∙ between-put_mid start k place digits (start + k) (omega (arith, all)) (omega (arith, len))

-- and once a 1 stands in front of these
pub drop-one : (start k : ℕ) (place digits : List ℕ) → 1 ≤ start → start + k ≡ length place → length digits ≡ k
    → drop (start - 1) (set (put_mid start k place digits) (start - 1) 49) ≡ 49 ∷ digits
drop-one start k place digits some all len =
    let back : start - 1 + 1 ≡ start = omega arith in
    drop-set (put_mid start k place digits) (start - 1) 49 (omega (arith, length-place start k place digits all len, all))
    ∙ ap (λ m. 49 ∷ drop m (put_mid start k place digits)) back
    ∙ ap (λ l. 49 ∷ l) (drop-part start k place digits all len)
