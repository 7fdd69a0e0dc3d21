use Rattle.std.proofs.Common.{◌≡◌, ℕ, ◌+◌, ◌*◌, ◌^◌, List, [], ◌∷◌, ◌++◌, get_or, length, arith, refl, ap, sym, ◌∙◌}
use Rattle.nv_entry.specs.Layout.{bytes_of_dwords}
use Rattle.nv_prp.specs.declared.prps.Prps.{Prps}
use Rattle.nv_world_model.specs.Area.{physical_entry, two_dwords}
use Rattle.nv_core.proofs.physical_entry.physical_entry.Goals as goal

-- a list of three is these three
three-are : (xs : List ℕ) → length xs ≡ 3 → xs ≡ get_or xs 0 0 ∷ get_or xs 1 0 ∷ get_or xs 2 0 ∷ []
three-are [] e = absurd (omega arith)
three-are (a ∷ []) e = absurd (omega arith)
three-are (a ∷ b ∷ []) e = absurd (omega arith)
three-are (a ∷ b ∷ c ∷ []) e = refl
three-are (a ∷ b ∷ c ∷ d ∷ more) e = absurd (omega arith)

-- sixteen dwords by their parts
entry-is : (opcode tag first low high low_2 high_2 : ℕ) (prps : Prps) (xs : List ℕ) → length xs ≡ 3 → first ≡ opcode + 2 ^ 16 * tag
    → low ∷ high ∷ [] ≡ two_dwords prps.prp1 → low_2 ∷ high_2 ∷ [] ≡ two_dwords prps.prp2
    → bytes_of_dwords (first ∷ 1 ∷ 0 ∷ 0 ∷ 0 ∷ 0 ∷ low ∷ high ∷ low_2 ∷ high_2 ∷ get_or xs 0 0 ∷ get_or xs 1 0 ∷ get_or xs 2 0 ∷ 0 ∷ 0 ∷ 0 ∷ [])
    ≡ physical_entry opcode tag prps xs
unfolding physical_entry
entry-is opcode tag first low high low_2 high_2 prps xs many is one two =
    let last : List ℕ = 0 ∷ 0 ∷ 0 ∷ [] in
    ap (λ (d : ℕ). bytes_of_dwords (d ∷ 1 ∷ 0 ∷ 0 ∷ 0 ∷ 0 ∷ low ∷ high ∷ low_2 ∷ high_2 ∷ get_or xs 0 0 ∷ get_or xs 1 0 ∷ get_or xs 2 0 ∷ 0 ∷ 0 ∷ 0 ∷ [])) is
    ∙ ap (λ (p : List ℕ). bytes_of_dwords ((opcode + 2 ^ 16 * tag) ∷ 1 ∷ 0 ∷ 0 ∷ 0 ∷ 0 ∷ p ++ low_2 ∷ high_2 ∷ get_or xs 0 0 ∷ get_or xs 1 0 ∷ get_or xs 2 0 ∷ last)) one
    ∙ ap (λ (p : List ℕ). bytes_of_dwords ((opcode + 2 ^ 16 * tag) ∷ 1 ∷ 0 ∷ 0 ∷ 0 ∷ 0 ∷ two_dwords prps.prp1 ++ p ++ get_or xs 0 0 ∷ get_or xs 1 0 ∷ get_or xs 2 0 ∷ last)) two
    ∙ ap (λ (p : List ℕ). bytes_of_dwords ((opcode + 2 ^ 16 * tag) ∷ 1 ∷ 0 ∷ 0 ∷ 0 ∷ 0 ∷ two_dwords prps.prp1 ++ two_dwords prps.prp2 ++ p ++ last)) (sym (three-are xs many))

pair-is : (a b c d : ℕ) → a ≡ c → b ≡ d → a ∷ b ∷ [] ≡ c ∷ d ∷ []
pair-is a b c d p q = cc

pub returns : goal.returns
returns c =
    c.write.ensures
    ∙ entry-is c.args.opcode c.args.tag _ c.low.result c.high.result c.low-2.result c.high-2.result c.args.prps.now c.args.dwords c.requires
    (let a = c.from.ensures in let b = c.from-2.ensures in let r = c.ranges.tag.fits in omega arith)
    (pair-is _ _ _ _ c.low.ensures c.high.ensures) (pair-is _ _ _ _ c.low-2.ensures c.high-2.ensures)
