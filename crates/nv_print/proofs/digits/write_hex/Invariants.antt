use Rattle.std.proofs.Common.{◌≡◌, ◌≤◌, ◌-◌, ◌*◌, length, take}
use Rattle.hex.specs.Hex.{encode_lower}
use Rattle.nv_print.proofs.digits.write_hex.Given as goal

-- so many bytes are written, and the rest is left
abbrev pub invariant-sixteens : goal.invariant-sixteens
invariant-sixteens l = record {
  within : l.done ≤ length l.bytes;
  written : take (2 * l.done) l.digits ≡ encode_lower (take l.done l.bytes);
}

abbrev pub decreases-sixteens : goal.decreases-sixteens
decreases-sixteens l = length l.bytes - l.done
