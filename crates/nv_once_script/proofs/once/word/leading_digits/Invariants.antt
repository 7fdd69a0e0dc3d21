use Rattle.std.proofs.Common.{◌≡◌, ◌≤◌, length, take, true}
use Rattle.std.specs.Char.{is_digit}
use Rattle.std.specs.List.{list_all}
use Rattle.std.specs.Str.Parse.{digits_value}
use Rattle.nv_once_script.proofs.once.word.leading_digits.Given as goal

-- the bytes so far are digits, and spell the number
abbrev pub invariant-loop-byte : goal.invariant-loop-byte
invariant-loop-byte l =
    (l.count ≡ l.byte-index) × (l.byte-index ≤ length l.text)
    × (list_all (λ c. is_digit c 10) (take l.byte-index l.text) ≡ true)
    × (digits_value 10 (take l.byte-index l.text) ≡ l.value)
