use Rattle.std.proofs.Common.{◌≡◌, ◌/◌, ◌%◌, ◌∙◌, arith}
use Rattle.std.proofs.lemmas.Nat.{and_mask}
use Rattle.nv_entry.specs.Layout.{bits}
use Rattle.nv_admin.proofs.fields.selector.Goals as goal

pub returns : goal.returns
unfolding bits
returns c =
    let whole : c.cdw10.result % 256 ≡ c.cdw10.result / 1 % 256 = omega arith in
    rw (← c.cdw10.ensures) (and_mask c.cdw10.result 8 ∙ whole)
