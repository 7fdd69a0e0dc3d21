-- A list of at most eight that is stored in place: it is filled up to eight with one value. The types of this crate keep their lists so; no
-- contract names it.
use Rattle.std.specs.Prelude.{◌≡◌, ℕ, ◌+◌, ◌-◌, ◌<◌, ◌≤◌, List, ◌++◌, length, replicate, set, take, drop}
use Rattle.std.proofs.Common.{ap, ◌∙◌, sym, arith}
use Rattle.std.proofs.lemmas.List.{drop-drop, drop-replicate, drop-set-lt, length-set, length-take-le, take-append-drop}
use Rattle.nv_ns.specs.BlockRange.{Extent}
use Rattle.nv_ns.specs.Extents.{Cut, most_extents}

-- what fills up extents, and parts
abbrev pub nowhere : Extent
nowhere = record { base = 0; blocks = 0 }

abbrev pub no_part : Cut
no_part = record { first = 0; start = 0; count = 1 }

-- the list and what fills it up
abbrev pub filled : {X : Type 0} → X → List X → List X
filled filler xs = xs ++ replicate (most_extents - length xs) filler

-- eight values of which `len` are the list and the others fill it up
pub record IsFilled {X : Type 0} (filler : X) (xs : List X) (len : ℕ) : Type 0 where
  pub size : length xs ≡ 8
  pub within : len ≤ 8
  pub rest : drop len xs ≡ replicate (most_extents - len) filler

-- the list filled up is what is stored there
pub filled_back : {X : Type 0} (filler : X) (xs : List X) (len : ℕ) → IsFilled filler xs len → filled filler (take len xs) ≡ xs
filled_back {X = X} filler xs len is =
    let size = is.size in
    let within = is.within in
    let count : length (take len xs) ≡ len = length-take-le len xs (omega arith) in
    let fill = ap (λ (n : ℕ). take len xs ++ replicate (most_extents - n) filler) count in
    let rest = ap (λ (ys : List X). take len xs ++ ys) (sym is.rest) in
    fill ∙ rest ∙ take-append-drop len xs

pub filled_len : {X : Type 0} (filler : X) (xs : List X) (len : ℕ) → IsFilled filler xs len → length (take len xs) ≡ len
filled_len filler xs len is =
    let size = is.size in
    let within = is.within in length-take-le len xs (omega arith)

-- one more in place of the first that fills up
pub IsFilled-push : {X : Type 0} (filler : X) (xs : List X) (len : ℕ) (x : X) → IsFilled filler xs len → len < 8
    → IsFilled filler (set xs len x) (len + 1)
IsFilled-push {X = X} filler xs len x is room =
    let size = is.size in
    let less : most_extents - len - 1 ≡ most_extents - (len + 1) = omega arith in
    record {
      size = length-set xs len x ∙ size;
      within = omega arith;
      rest = drop-set-lt (len + 1) xs len x (omega arith) ∙ sym (drop-drop 1 len xs) ∙ ap (drop 1) is.rest
          ∙ drop-replicate 1 (most_extents - len) filler ∙ ap (λ (n : ℕ). replicate n filler) less;
    }
