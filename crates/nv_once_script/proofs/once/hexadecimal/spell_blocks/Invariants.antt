use Rattle.std.proofs.Common.{◌≡◌, ◌≤◌, ◌-◌, ◌*◌, drop, length, take}
use Rattle.hex.specs.Hex.{decode_pairs}
use Rattle.nv_once_script.specs.OnceHexadecimal.{behind}
use Rattle.nv_once_script.proofs.once.hexadecimal.spell_blocks.Given as goal

-- so many bytes are spelled, and the rest of the text is left
abbrev pub invariant-sixteens : goal.invariant-sixteens
invariant-sixteens l = record {
  within : l.done ≤ length l.bytes;
  spelled : decode_pairs 0 l.digits ≡ behind (take l.done l.bytes) (decode_pairs (2 * l.done) (drop (2 * l.done) l.digits));
}

abbrev pub decreases-sixteens : goal.decreases-sixteens
decreases-sixteens l = length l.initial.bytes - l.done
