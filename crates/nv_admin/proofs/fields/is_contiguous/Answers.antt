use Rattle.std.proofs.Common.{◌≡◌, ◌/◌, ◌%◌, ◌==◌, not, ◌∙◌, ap, arith}
use Rattle.std.proofs.lemmas.Nat.{and_mask}
use Rattle.nv_entry.specs.Layout.{bits}
use Rattle.nv_admin.proofs.fields.is_contiguous.Goals as goal

pub returns : goal.returns
unfolding bits
returns c =
    let whole : c.cdw11.result % 2 ≡ c.cdw11.result / 1 % 2 = omega arith in
    rw (← c.cdw11.ensures) (ap (λ n. not (n == 0)) (and_mask c.cdw11.result 1 ∙ whole))
