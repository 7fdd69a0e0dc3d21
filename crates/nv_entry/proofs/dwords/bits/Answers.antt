use Rattle.std.proofs.Common.{◌≡◌, ◌+◌, ◌-◌, ◌/◌, ◌^◌, refl, arith, mod-lt}
use Rattle.std.proofs.lemmas.Nat.{and_mask, pow_pos}
use Rattle.std.proofs.lemmas.Nat.Bits.{ones_shr}
use Rattle.nv_entry.specs.Layout.{bits}
use Rattle.nv_entry.proofs.dwords.bits.Goals as goal

pub returns-clause-value : goal.returns-clause-value
unfolding bits
returns-clause-value c =
    let mask : 4294967295 / 2 ^ (31 - (c.args.high - c.args.low)) ≡ 2 ^ (32 - (31 - (c.args.high - c.args.low))) - 1 = ones_shr 32 (31 - (c.args.high - c.args.low)) (omega arith) in
    let width : 32 - (31 - (c.args.high - c.args.low)) ≡ c.args.high + 1 - c.args.low = omega arith in
    rw (mask, width, and_mask) refl

pub returns-clause-fits : goal.returns-clause-fits
unfolding bits
returns-clause-fits c =
    let value = returns-clause-value c in
    rw value (mod-lt (c.args.dword / 2 ^ c.args.low) (pow_pos (c.args.high + 1 - c.args.low)))
