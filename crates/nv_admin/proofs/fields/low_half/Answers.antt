use Rattle.std.proofs.Common.{◌≡◌, ◌/◌, ◌%◌, ◌∙◌, arith}
use Rattle.std.proofs.lemmas.Nat.{and_mask}
use Rattle.nv_entry.specs.Layout.{bits}
use Rattle.nv_admin.proofs.fields.low_half.Goals as goal

pub returns : goal.returns
unfolding bits
returns c =
    let whole : c.args.dword % 65536 ≡ c.args.dword / 1 % 65536 = omega arith in
    and_mask c.args.dword 16 ∙ whole
