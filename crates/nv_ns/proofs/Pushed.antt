-- A namespace with one extent more behind the others.
use Rattle.std.proofs.Common.{◌≡◌, ℕ, ◌+◌, ◌-◌, ◌^◌, ◌<◌, ◌≤◌, Bool, true, false, ◌&&◌, leb, ltb, [], ◌∷◌, ◌++◌, length, take}
use Rattle.std.proofs.Common.{drop, set, get_or, refl, ap, sym, ◌∙◌, arith}
use Rattle.std.specs.List.{list_all}
use Rattle.std.proofs.lemmas.Grind.{common_steps}
use Rattle.std.proofs.lemmas.List.{drop_more, get_or-take, length_push, take_more_set}
use Rattle.std.proofs.lemmas.List.Folds.{list_all-append}
use Rattle.nv_ns.specs.BlockRange.{Extent}
use Rattle.nv_ns.specs.Extents.{Namespace, blocks_in, is_namespace, is_within}
use Rattle.nv_ns.specs.Filled.{IsFilled-push, filled_len, nowhere}
use Rattle.nv_ns.specs.Joined.{AreJoined}

pub blocks_in-push : (ns : Namespace) (extent : Extent) → blocks_in (ns ++ extent ∷ []) ≡ blocks_in ns + extent.blocks
blocks_in-push [] extent = omega arith
blocks_in-push (first ∷ rest) extent = let on = blocks_in-push rest extent in omega arith

long_enough : (n : ℕ) → ltb 0 (n + 1) ≡ true
long_enough n = grind (arith, common_steps)

short_enough : (n : ℕ) → n < 8 → leb (n + 1) 8 ≡ true
short_enough n room = grind (arith, common_steps)

too_long : (n : ℕ) → n ≡ 8 → leb (n + 1) 8 ≡ false
too_long n full = grind (arith, common_steps)

all_three : (a b c : Bool) → a ≡ true → b ≡ true → (a && b && c) ≡ c
all_three a b c first second = cc

not_second : (a b c : Bool) → b ≡ false → (a && b && c) ≡ false
not_second true b c second = ap (λ (x : Bool). x && c) second
not_second false b c second = refl

not_third : (a b c : Bool) → c ≡ false → (a && b && c) ≡ false
not_third true true c third = third
not_third true false c third = refl
not_third false b c third = refl

and-true : (b : Bool) → (b && true) ≡ b
and-true true = refl
and-true false = refl

and-false : (b : Bool) → (b && false) ≡ false
and-false true = refl
and-false false = refl

-- whether it may be there, by all blocks
pub is_namespace-push : (ns : Namespace) (extent : Extent) (total : ℕ) → length ns < 8 → blocks_in ns + extent.blocks ≡ total
    → is_namespace (ns ++ extent ∷ []) ≡ (list_all (is_within total) ns && is_within total extent)
is_namespace-push ns extent total room sum =
    let size = length_push ns extent in
    let some = ap (ltb 0) size ∙ long_enough (length ns) in
    let few = ap (λ (n : ℕ). leb n 8) size ∙ short_enough (length ns) room in
    let all = blocks_in-push ns extent ∙ sum in
    all_three (ltb 0 (length (ns ++ extent ∷ []))) (leb (length (ns ++ extent ∷ [])) 8)
    (list_all (is_within (blocks_in (ns ++ extent ∷ []))) (ns ++ extent ∷ [])) some few
    ∙ ap (λ (n : ℕ). list_all (is_within n) (ns ++ extent ∷ [])) all
    ∙ list_all-append (is_within total) ns (extent ∷ [])
    ∙ ap (λ (b : Bool). list_all (is_within total) ns && b) (and-true (is_within total extent))

-- not behind eight
pub is_namespace-ninth : (ns : Namespace) (extent : Extent) → length ns ≡ 8 → is_namespace (ns ++ extent ∷ []) ≡ false
is_namespace-ninth ns extent full =
    let many = ap (λ (n : ℕ). leb n 8) (length_push ns extent) ∙ too_long (length ns) full in
    not_second (ltb 0 (length (ns ++ extent ∷ []))) (leb (length (ns ++ extent ∷ [])) 8)
    (list_all (is_within (blocks_in (ns ++ extent ∷ []))) (ns ++ extent ∷ [])) many

not_within : (extent : Extent) (total : ℕ) → 2 ^ 64 ≤ total → is_within total extent ≡ false
not_within extent total many = grind (arith, common_steps)

-- not where there are too many blocks
pub is_namespace-many : (ns : Namespace) (extent : Extent) → 2 ^ 64 ≤ blocks_in ns + extent.blocks
    → is_namespace (ns ++ extent ∷ []) ≡ false
is_namespace-many ns extent many =
    let all = blocks_in-push ns extent in
    let total : ℕ = blocks_in (ns ++ extent ∷ []) in
    let outside = list_all-append (is_within total) ns (extent ∷ [])
    ∙ ap (λ (b : Bool). list_all (is_within total) ns && (b && true)) (not_within extent total (omega arith))
    ∙ and-false (list_all (is_within total) ns) in
    not_third (ltb 0 (length (ns ++ extent ∷ []))) (leb (length (ns ++ extent ∷ [])) 8) (list_all (is_within total) (ns ++ extent ∷ [])) outside

second_of : (a b c : Bool) → (a && b && c) ≡ true → b ≡ true
second_of true true c all = refl
second_of true false c all = absurd (cc)
second_of false b c all = absurd (cc)

third_of : (a b c : Bool) → (a && b && c) ≡ true → c ≡ true
third_of true true c all = all
third_of true false c all = absurd (cc)
third_of false b c all = absurd (cc)

right_of : (a b : Bool) → (a && b) ≡ true → b ≡ true
right_of true b both = both
right_of false b both = absurd (cc)

first_of : (a b c : Bool) → (a && b && c) ≡ true → a ≡ true
first_of true b c all = refl
first_of false b c all = absurd (cc)

some_there : (n : ℕ) → ltb 0 n ≡ true → 0 < n
some_there n is = grind (arith, common_steps)

few_enough : (n : ℕ) → leb (n + 1) 8 ≡ true → n < 8
few_enough n is = grind (arith, common_steps)

is_within-fits : (extent : Extent) (total : ℕ) → is_within total extent ≡ true → extent.base + total < 2 ^ 64
is_within-fits extent total is = grind (arith, common_steps)

-- what it has, where it may be there
pub record MayPush (ns : Namespace) (extent : Extent) : Type 0 where
  pub room : length ns < 8
  pub fits : blocks_in ns + extent.blocks < 2 ^ 64

pub may_push : (ns : Namespace) (extent : Extent) → is_namespace (ns ++ extent ∷ []) ≡ true → MayPush ns extent
may_push ns extent is = record {
  room = few_enough (length ns) (sym (ap (λ (n : ℕ). leb n 8) (length_push ns extent))
      ∙ second_of (ltb 0 (length (ns ++ extent ∷ []))) (leb (length (ns ++ extent ∷ [])) 8)
      (list_all (is_within (blocks_in (ns ++ extent ∷ []))) (ns ++ extent ∷ [])) is);
  fits =
      (let total : ℕ = blocks_in (ns ++ extent ∷ []) in
      let all = third_of (ltb 0 (length (ns ++ extent ∷ []))) (leb (length (ns ++ extent ∷ [])) 8)
      (list_all (is_within total) (ns ++ extent ∷ [])) is in
      let last = right_of (list_all (is_within total) ns) (is_within total extent && true)
      (sym (list_all-append (is_within total) ns (extent ∷ [])) ∙ all) in
      let within = is_within-fits extent total (sym (and-true (is_within total extent)) ∙ last) in
      let sum = blocks_in-push ns extent in omega arith);
}

-- and then it stands there
pub AreJoined-push : (extents : Namespace) (len number : ℕ) (extent : Extent) → AreJoined extents len number
    → is_namespace (take len extents ++ extent ∷ []) ≡ true
    → AreJoined (set extents len extent) (len + 1) (number + extent.blocks)
AreJoined-push extents len number extent joined is =
    let size = filled_len nowhere extents len joined.filled in
    let all = joined.filled.size in
    let may = may_push (take len extents) extent is in
    let room : len < 8 = omega (arith, may.room) in
    let there = take_more_set extents len extent (omega arith) in
    record {
      filled = IsFilled-push nowhere extents len extent joined.filled room;
      blocks = ap blocks_in there ∙ blocks_in-push (take len extents) extent ∙ ap (λ (n : ℕ). n + extent.blocks) joined.blocks;
      kept = ap is_namespace there ∙ is;
    }

-- the test of a number of 64 bits
pub leb-within : (extent : Extent) (total : ℕ) → total < 2 ^ 64 → leb extent.base (18446744073709551615 - total) ≡ is_within total extent
leb-within extent total fits = grind (arith, common_steps)

-- ---- the first extent

-- it stands in front
pub first-joined : (extents : Namespace) (len number : ℕ) (d : Extent) → AreJoined extents len number
    → take len extents ≡ get_or extents 0 d ∷ drop 1 (take len extents)
first-joined extents len number d joined =
    let size = filled_len nowhere extents len joined.filled in
    let some = first_of (ltb 0 (length (take len extents))) (leb (length (take len extents)) 8)
    (list_all (is_within (blocks_in (take len extents))) (take len extents)) joined.kept in
    let more : 0 < length (take len extents) = some_there (length (take len extents)) some in
    let front = drop_more (take len extents) 0 d more in
    let place = get_or-take len extents 0 d (omega arith) in
    front ∙ ap (λ (e : Extent). e ∷ drop 1 (take len extents)) place
