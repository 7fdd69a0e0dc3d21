-- What an extent has of a run of blocks, or of a range, lies in a row.
use Rattle.std.proofs.Common.{◌≡◌, ℕ, ◌+◌, ◌^◌, ◌<◌, ◌≤◌, ◌⊎◌, eqb, cond, Bool, true, false, List, [], ◌∷◌, Option, Some, None}
use Rattle.std.proofs.Common.{refl, ap, sym, ◌∙◌, inl, inr, subst, arith, eqb-true}
use Rattle.std.specs.Bool.{⊤}
use Rattle.std.specs.List.{All, Contains, cons_option, enumerate_from, filter_map, list_all}
use Rattle.std.specs.Option.{option_map}
use Rattle.std.proofs.lemmas.Bool.{cases_lt}
use Rattle.std.proofs.lemmas.List.Elements.{All-cons, All-contains, All-head, All-nil, All-tail}
use Rattle.nv_entry.specs.Range.{blocks_of, start_of}
use Rattle.nv_ns.specs.Extents.{Cut, Namespace, Placed, blocks_in, common, if_any, place_in, placed}
use Rattle.nv_ns.specs.Laws.{NamesBlocks}
use Rattle.nv_ns.proofs.Spelled.{cuts-name}
use Rattle.nv_model.specs.Judge.{range_fits}
use Rattle.nv_model.proofs.Endings.{and-true}
use Rattle.nv_world_model.specs.Area.{range_place}
use Rattle.nv_world_model.specs.Share.{cut_range, range_in, ranges_met}
use Rattle.nv_world_model.proofs.RangeCuts.{cut-fields, no_cut, some_cut}
use Rattle.nv_laws_sound.proofs.Namespaces.{range-within, range_place-some}

-- ---- what an extent has of a run

-- what holds of all cuts holds of what each extent has, where it has blocks
met-all : (P : Cut → Type 0) (f : Placed → Cut) (ats : List Placed) → All P (filter_map (λ at. if_any (f at)) ats)
    → All (λ at. 0 < (f at).count → P (f at)) ats
met-all P f [] each = All-nil (λ at. 0 < (f at).count → P (f at))
met-all P f (at ∷ rest) each =
    let others = filter_map (λ x. if_any (f x)) rest in
    elim (cases_lt 0 (f at).count) [
      | inl some ↦
          (let here : All P (f at ∷ others) = subst (λ o. All P (cons_option o others)) (some_cut (f at) some) each in
          All-cons (λ x. 0 < (f x).count → P (f x)) at rest (λ _. All-head P (f at) others here) (met-all P f rest (All-tail P (f at) others here)))
      | inr none ↦
          (let zero_count : (f at).count ≡ 0 = omega (arith, none) in
          let here : All P others = subst (λ o. All P (cons_option o others)) (no_cut (f at) zero_count) each in
          All-cons (λ x. 0 < (f x).count → P (f x)) at rest (λ some. absurd (omega (arith, some, none))) (met-all P f rest here))
    ]

-- it names the blocks where they lie
pub common-names : (ns : Namespace) (at : Placed) (slba count : ℕ) → Contains (placed 0 ns) at → 0 < (common at slba count).count
    → NamesBlocks ns slba count (common at slba count)
common-names ns at slba count among =
    All-contains (λ x. 0 < (common x slba count).count → NamesBlocks ns slba count (common x slba count)) (placed 0 ns) at
    (met-all (NamesBlocks ns slba count) (λ x. common x slba count) (placed 0 ns) (cuts-name ns slba count)) among

-- ---- a range in one extent

-- the blocks of a range lie in a row, in the namespace and on the disk
pub record IsRangeRow (ns : Namespace) (range : List ℕ) : Type 0 where
  pub within : start_of range + blocks_of range ≤ blocks_in ns
  pub row : (i : ℕ) → i < blocks_of range → place_in ns (start_of range + i) ≡ range_place ns range + i

-- the part that an extent has of a range
cut-row : (ns : Namespace) (at : Placed) (range : List ℕ) → Contains (placed 0 ns) at → range_fits (blocks_in ns) range ≡ true
    → blocks_in ns < 2 ^ 32 → 0 < (common at (start_of range) (blocks_of range)).count
    → IsRangeRow ns (cut_range range (common at (start_of range) (blocks_of range)))
cut-row ns at range among fits small some =
    let cut : Cut = common at (start_of range) (blocks_of range) in
    let names = common-names ns at (start_of range) (blocks_of range) among some in
    let inside = names.0 in
    let ends = range-within (blocks_in ns) range fits in
    let fields = cut-fields range cut inside (omega (arith, ends, small)) (omega (arith, ends, small)) in
    let blocks = fields.0 in
    let start = fields.1 in
    let part : List ℕ = cut_range range cut in
    let place : range_place ns part ≡ cut.start =
    range_place-some ns part (omega (arith, blocks, some))
    ∙ ap (place_in ns) start ∙ (let none : start_of range + cut.first ≡ start_of range + (cut.first + 0) = omega arith in ap (place_in ns) none)
    ∙ names.1 0 some ∙ omega arith in
    record {
      within = omega (arith, blocks, start, inside, ends);
      row = (λ i below.
          (let there : start_of part + i ≡ start_of range + (cut.first + i) = omega (arith, start) in
          ap (place_in ns) there ∙ names.1 i (omega (arith, below, blocks)) ∙ sym (ap (λ n. n + i) place)));
    }

-- one of no blocks has none that could lie elsewhere
none-row : (ns : Namespace) (range : List ℕ) → range_fits (blocks_in ns) range ≡ true → blocks_of range ≡ 0 → IsRangeRow ns range
none-row ns range fits none =
    record { within = range-within (blocks_in ns) range fits; row = (λ i below. absurd (omega (arith, below, none))) }

-- what an extent has of a range, if anything
abbrev IfRow : Namespace → Option (List ℕ) → Type 0
IfRow ns None = ⊤
IfRow ns (Some range) = IsRangeRow ns range

first-row : (ns : Namespace) (b : Bool) (range : List ℕ) → IsRangeRow ns range → IfRow ns (cond b (Some range) None)
first-row ns true range is = is
first-row ns false range is = tt

range_in-row : (ns : Namespace) (number : ℕ) (at : Placed) (range : List ℕ) → Contains (placed 0 ns) at → range_fits (blocks_in ns) range ≡ true
    → blocks_in ns < 2 ^ 32 → IfRow ns (range_in number at range)
range_in-row ns number at range among fits small =
    let cut : Cut = common at (start_of range) (blocks_of range) in
    (elim (eqb (blocks_of range) 0) as (λ b. eqb (blocks_of range) 0 ≡ b
    → IfRow ns (cond b (cond (eqb number 0) (Some range) None) (option_map (cut_range range) (if_any cut)))) [
      | true ↦ λ is. first-row ns (eqb number 0) range (none-row ns range fits (eqb-true (blocks_of range) 0 is))
      | false ↦ λ is. by_count cut refl (cases_lt 0 cut.count)
    ]) refl
  where
    by_count : (cut : Cut) → common at (start_of range) (blocks_of range) ≡ cut → (0 < cut.count) ⊎ (cut.count ≤ 0)
        → IfRow ns (option_map (cut_range range) (if_any cut))
    by_count cut same (inl some) =
        subst (λ o. IfRow ns (option_map (cut_range range) o)) (sym (some_cut cut some))
        (subst (λ c. IsRangeRow ns (cut_range range c)) same
        (cut-row ns at range among fits small (subst (λ (c : Cut). 0 < c.count) (sym same) some)))
    by_count cut same (inr none) =
        subst (λ o. IfRow ns (option_map (cut_range range) o)) (sym (no_cut cut (omega (arith, none)))) tt

-- what it has of all ranges
pub ranges-rows : (ns : Namespace) (number : ℕ) (at : Placed) (ranges : List (List ℕ)) → Contains (placed 0 ns) at
    → list_all (range_fits (blocks_in ns)) ranges ≡ true → blocks_in ns < 2 ^ 32 → All (IsRangeRow ns) (ranges_met number at ranges)
ranges-rows ns number at [] among fit small = All-nil (IsRangeRow ns)
ranges-rows ns number at (range ∷ rest) among fit small =
    let both = and-true (range_fits (blocks_in ns) range) (list_all (range_fits (blocks_in ns)) rest) fit in
    joined (range_in number at range) (range_in-row ns number at range among both.0 small) (ranges-rows ns number at rest among both.1 small)
  where
    joined : (o : Option (List ℕ)) → IfRow ns o → All (IsRangeRow ns) (ranges_met number at rest)
        → All (IsRangeRow ns) (cons_option o (ranges_met number at rest))
    joined None is others = others
    joined (Some part) is others = All-cons (IsRangeRow ns) part (ranges_met number at rest) is others

-- ---- members by their numbers

pub enumerated-all : {X : Type 0} (P : X → Type 0) (from : ℕ) (xs : List X) → All P xs → All (λ p. P p.1) (enumerate_from from xs)
enumerated-all P from [] each = All-nil (λ p. P p.1)
enumerated-all P from (x ∷ xs) each =
    All-cons (λ p. P p.1) (from, x) (enumerate_from (from + 1) xs) (All-head P x xs each) (enumerated-all P (from + 1) xs (All-tail P x xs each))
