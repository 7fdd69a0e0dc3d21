use Rattle.std.proofs.Common.{◌/◌, ◌^◌, ◌==◌, ap}
use Rattle.std.proofs.lemmas.Nat.{and_mask}
use Rattle.nv_entry.specs.Layout.{bits}
use Rattle.nv_admin.proofs.fields.enables_interrupts.Goals as goal

pub returns : goal.returns
unfolding bits
returns c = rw (← c.cdw11.ensures) (ap (λ n. n == 1) (and_mask (c.cdw11.result / 2 ^ 1) 1))
