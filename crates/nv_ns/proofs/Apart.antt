-- Where extents are apart, two blocks of a namespace at one place are one block.
use Rattle.std.proofs.Common.{◌≡◌, ℕ, ◌+◌, ◌-◌, ◌<◌, ◌≤◌, Bool, cond, true, [], ◌∷◌, ap, sym, ◌∙◌, inl, inr, arith}
use Rattle.std.specs.List.{count_by}
use Rattle.std.proofs.lemmas.Bool.{cases_lt}
use Rattle.std.proofs.lemmas.Grind.{common_steps}
use Rattle.std.proofs.lemmas.List.Sums.{sum_by-cons}
use Rattle.nv_ns.specs.BlockRange.{Extent}
use Rattle.nv_ns.specs.Extents.{Namespace, blocks_in, has_block, place_in}
use Rattle.nv_ns.specs.Laws.{AreApart}
use Rattle.nv_ns.proofs.Spelled.{place_in-beyond, place_in-here}

-- an extent more has one place more, or as many
count-cons : (at : ℕ) (extent : Extent) (rest : Namespace)
    → count_by (has_block at) (extent ∷ rest) ≡ cond (has_block at extent) 1 0 + count_by (has_block at) rest
count-cons at extent rest = sum_by-cons (λ (e : Extent). cond (has_block at e) 1 0) extent rest

has_block-in : (extent : Extent) (lba : ℕ) → lba < extent.blocks → has_block (extent.base + lba) extent ≡ true
has_block-in extent lba below = grind (arith, common_steps)

cond-one : (b : Bool) → b ≡ true → cond {A = ℕ} b 1 0 ≡ 1
cond-one b is = grind (arith, common_steps)

-- each block lies in an extent
pub count-some : (ns : Namespace) (lba : ℕ) → lba < blocks_in ns → 1 ≤ count_by (has_block (place_in ns lba)) ns
count-some [] lba below = absurd (omega arith)
count-some (extent ∷ rest) lba below =
    elim (cases_lt lba extent.blocks) [
      | inl inside ↦
          (let place = place_in-here extent rest lba inside in
          let has = ap (λ (at : ℕ). has_block at extent) place ∙ has_block-in extent lba inside in
          let one = cond-one (has_block (place_in (extent ∷ rest) lba) extent) has in
          let both = count-cons (place_in (extent ∷ rest) lba) extent rest in omega arith)
      | inr past ↦
          (let place = place_in-beyond extent rest lba past in
          let more = count-some rest (lba - extent.blocks) (omega arith) in
          let there = ap (λ (at : ℕ). count_by (has_block at) rest) place in
          let both = count-cons (place_in (extent ∷ rest) lba) extent rest in omega arith)
    ]

-- in exactly one where they are apart
pub count-one : (ns : Namespace) (lba : ℕ) → AreApart ns → lba < blocks_in ns → count_by (has_block (place_in ns lba)) ns ≡ 1
count-one ns lba apart below =
    let some = count-some ns lba below in
    let one = apart (place_in ns lba) in omega arith

AreApart-rest : (extent : Extent) (rest : Namespace) → AreApart (extent ∷ rest) → AreApart rest
AreApart-rest extent rest apart = λ (at : ℕ). (let both = count-cons at extent rest in let one = apart at in omega arith)

-- a block of the first extent is at no place of one behind it
not_both : (extent : Extent) (rest : Namespace) (lba other : ℕ) → AreApart (extent ∷ rest) → lba < extent.blocks
    → extent.blocks ≤ other → other < extent.blocks + blocks_in rest
    → place_in (extent ∷ rest) lba ≡ place_in (extent ∷ rest) other → lba ≡ other
not_both extent rest lba other apart inside past below same =
    let place = place_in-here extent rest lba inside in
    let has = ap (λ (at : ℕ). has_block at extent) place ∙ has_block-in extent lba inside in
    let one = cond-one (has_block (place_in (extent ∷ rest) lba) extent) has in
    let there = ap (λ (at : ℕ). count_by (has_block at) rest) (same ∙ place_in-beyond extent rest other past) in
    let some = count-some rest (other - extent.blocks) (omega arith) in
    let both = count-cons (place_in (extent ∷ rest) lba) extent rest in
    let at_most = apart (place_in (extent ∷ rest) lba) in absurd (omega arith)

pub place_in-apart : (ns : Namespace) (lba other : ℕ) → AreApart ns → lba < blocks_in ns → other < blocks_in ns
    → place_in ns lba ≡ place_in ns other → lba ≡ other
place_in-apart [] lba other apart below under same = absurd (omega arith)
place_in-apart (extent ∷ rest) lba other apart below under same =
    elim (cases_lt lba extent.blocks) [
      | inl inside ↦ elim (cases_lt other extent.blocks) [
        | inl there ↦
            (let here = place_in-here extent rest lba inside in
            let place = place_in-here extent rest other there in omega arith)
        | inr past ↦ not_both extent rest lba other apart inside past under same
      ]
      | inr beyond ↦ elim (cases_lt other extent.blocks) [
        | inl there ↦ sym (not_both extent rest other lba apart there beyond below (sym same))
        | inr past ↦
            (let here = place_in-beyond extent rest lba beyond in
            let place = place_in-beyond extent rest other past in
            let on = place_in-apart rest (lba - extent.blocks) (other - extent.blocks) (AreApart-rest extent rest apart)
            (omega arith) (omega arith) (sym here ∙ same ∙ place) in
            omega arith)
      ]
    ]
