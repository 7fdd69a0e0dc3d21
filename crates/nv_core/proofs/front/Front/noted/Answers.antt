use Rattle.std.proofs.Common.{◌≡◌, ◌∙◌, ◌<◌, ◌==◌, ℕ, List, ap, arith, false, refl, suc, zero, slice_get, sym}
use Rattle.std.specs.Int.{bit_at}
use Rattle.std.proofs.lemmas.Nat.Bits.{bit_at-lt}
use Rattle.nv_laws_sound.specs.Side.{Side}
use Rattle.nv_tags.proofs.Masks.{among-tags_in}
use Rattle.nv_tags.proofs.Rows.{is_among}
use Rattle.nv_core.proofs.front.Front.noted.Goals as goal

not-one : (n : ℕ) → n < 2 → n == 1 ≡ false → n ≡ 0
not-one zero low isnt = refl
not-one (suc zero) low isnt = cc
not-one (suc (suc n)) low isnt = absurd (omega (arith, low))

pub returns : goal.returns
returns c = λ guest below out x there.
    c.self.invariant guest x below (ap (λ (s : Side). slice_get s.controllers guest) c.self.view_is ∙ there)
    (not-one (bit_at c.self.inside.noted guest) (bit_at-lt c.self.inside.noted guest)
    (ap (λ (n : ℕ). bit_at n guest == 1) (sym c.from.ensures) ∙ sym (among-tags_in c.from.result guest (omega (arith, below)))
    ∙ ap (λ (xs : List ℕ). is_among xs guest) (sym c.of.ensures) ∙ out))
