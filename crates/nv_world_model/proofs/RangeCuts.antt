-- What an extent has of a range: whether it is anything, and what is read of it.
use Rattle.std.proofs.Common.{◌≡◌, ℕ, ◌+◌, ◌^◌, ◌<◌, ◌≤◌, eqb, cond, true, false, List, [], ◌∷◌, ◌++◌, length, Option, Some, None, refl, sym, inl, inr, arith}
use Rattle.std.proofs.Common.{eqb-true}
use Rattle.std.specs.List.{cons_option}
use Rattle.std.proofs.lemmas.Bool.{cases_eq, eqb-false}
use Rattle.std.proofs.lemmas.Grind.{common_steps}
use Rattle.byteorder.specs.Numbers.{little_number-reads_back}
use Rattle.nv_entry.specs.Layout.{dword, number_at, number_bytes, qword}
use Rattle.nv_entry.specs.Range.{attributes_of, blocks_of, start_of}
use Rattle.nv_ns.specs.Extents.{Cut, Placed, if_any}
use Rattle.nv_world_model.specs.Share.{cut_range, range_in, ranges_met}

-- ---- whether it is anything

pub not_zero : (n : ℕ) → 0 < n → eqb n 0 ≡ false
not_zero n some = grind (arith, common_steps)

pub some_cut : (cut : Cut) → 0 < cut.count → if_any cut ≡ Some cut
some_cut cut some = grind (arith, common_steps)

pub no_cut : (cut : Cut) → cut.count ≡ 0 → if_any cut ≡ None
no_cut cut none = grind (arith, common_steps)

-- there are no more such parts than ranges
pub ranges_met-few : (number : ℕ) (at : Placed) (ranges : List (List ℕ)) → length (ranges_met number at ranges) ≤ length ranges
ranges_met-few number at [] = omega arith
ranges_met-few number at (range ∷ rest) = one (range_in number at range) (ranges_met-few number at rest)
  where
    one : (o : Option (List ℕ)) → length (ranges_met number at rest) ≤ length rest
        → length (cons_option o (ranges_met number at rest)) ≤ length (range ∷ rest)
    one None few = omega (arith, few)
    one (Some part) few = omega (arith, few)

-- ---- what is read of it

-- what is spelled where it isn't all of the range
abbrev pub cut_bytes : (range : List ℕ) → Cut → List ℕ
cut_bytes range cut = number_bytes 4 (attributes_of range) ++ number_bytes 4 cut.count ++ number_bytes 8 (start_of range + cut.first)

pub bytes-blocks : (range : List ℕ) (cut : Cut) → cut.count < 2 ^ 32 → blocks_of (cut_bytes range cut) ≡ cut.count
unfolding dword number_at
bytes-blocks range cut fits = little_number-reads_back 4 cut.count (number_bytes 8 (start_of range + cut.first)) fits

pub bytes-start : (range : List ℕ) (cut : Cut) → start_of range + cut.first < 2 ^ 64 → start_of (cut_bytes range cut) ≡ start_of range + cut.first
unfolding qword number_at
bytes-start range cut fits = little_number-reads_back 8 (start_of range + cut.first) [] fits

pub cut-blocks : (range : List ℕ) (cut : Cut) → cut.count ≤ blocks_of range → blocks_of range ≤ 2 ^ 32 → blocks_of (cut_range range cut) ≡ cut.count
cut-blocks range cut within fits =
    (elim (eqb cut.count (blocks_of range)) as (λ b. eqb cut.count (blocks_of range) ≡ b → blocks_of (cond b range (cut_bytes range cut)) ≡ cut.count) [
      | true ↦ λ is. sym (eqb-true cut.count (blocks_of range) is)
      | false ↦ λ is. (let other = eqb-false cut.count (blocks_of range) is in bytes-blocks range cut (less other))
    ]) refl
  where
    less : (cut.count ≡ blocks_of range → ⊥) → cut.count < 2 ^ 32
    less other = elim (cases_eq cut.count (blocks_of range)) [ inl same ↦ absurd (other same) | inr apart ↦ omega arith ]

pub cut-start : (range : List ℕ) (cut : Cut) → (cut.count ≡ blocks_of range → cut.first ≡ 0) → start_of range + cut.first < 2 ^ 64
    → start_of (cut_range range cut) ≡ start_of range + cut.first
cut-start range cut all fits =
    (elim (eqb cut.count (blocks_of range)) as (λ b. eqb cut.count (blocks_of range) ≡ b → start_of (cond b range (cut_bytes range cut)) ≡ start_of range + cut.first) [
      | true ↦ λ is. (let none = all (eqb-true cut.count (blocks_of range) is) in omega arith)
      | false ↦ λ is. bytes-start range cut fits
    ]) refl

-- its blocks, from its first on
pub cut-fields : (range : List ℕ) (cut : Cut) → cut.first + cut.count ≤ blocks_of range → blocks_of range < 2 ^ 32
    → start_of range + blocks_of range < 2 ^ 64
    → (blocks_of (cut_range range cut) ≡ cut.count) × (start_of (cut_range range cut) ≡ start_of range + cut.first)
cut-fields range cut within short fits =
    (cut-blocks range cut (omega arith) (omega arith), cut-start range cut (λ all. omega (arith, all, within)) (omega arith))
