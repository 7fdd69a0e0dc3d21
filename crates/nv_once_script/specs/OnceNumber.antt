-- Numbers and bytes as words write them
use Rattle.std.specs.Prelude.{ℕ, ◌^◌, ◌&&◌, nat_le, nat_lt, List, [], length, take, drop, codes, Option, Some, None, Result, Ok, Err, if◌then◌else◌}
use Rattle.std.specs.Char.{is_digit}
use Rattle.std.specs.List.{list_all}
use Rattle.std.specs.Option.{ok_or}
use Rattle.std.specs.Result.{result_ok}
use Rattle.std.specs.Str.{bytes_eq}
use Rattle.std.specs.Str.Parse.{digits_value}
use Rattle.hex.specs.Hex.{decode_of, decode_sized}
use Rattle.nv_once_script.specs.declared.once.fault.FaultKind.{FaultKind}
use Rattle.nv_once_script.specs.declared.once.fault.FaultKind.TheVariants.{BadNumber, BadBytes}
use Rattle.nv_once_script.specs.OnceFault.{◌>>=◌}

-- the number that digits of a base spell, where there is a digit, nothing else, and the number has 64 bits
unfoldable pub spelled : ℕ → List ℕ → Option ℕ
spelled base digits =
    if nat_lt 0 (length digits) && list_all (λ c. is_digit c base) digits && nat_lt (digits_value base digits) (2 ^ 64)
    then Some (digits_value base digits)
    else None

-- the number that a word writes, if it does: decimal, or `0x` and hexadecimal digits of either case
unfoldable pub written : List ℕ → Option ℕ
written word = if bytes_eq (take 2 word) (codes "0x") then spelled 16 (drop 2 word) else spelled 10 word

-- the number that a word writes
unfoldable pub number_of : List ℕ → Result ℕ FaultKind
number_of word = ok_or (written word) BadNumber

-- the number that a word writes, where it is at most `most`
abbrev pub number_up_to : ℕ → List ℕ → Result ℕ FaultKind
number_up_to most word = do
  number ← number_of word
  if nat_le number most then Ok number else Err BadNumber

-- what a word spells, or bad bytes
abbrev pub or_bad_bytes : Option (List ℕ) → Result (List ℕ) FaultKind
or_bad_bytes spelled = ok_or spelled BadBytes

-- the bytes that a word spells: two hexadecimal digits of either case each, or `-` for none
abbrev pub bytes_of : List ℕ → Result (List ℕ) FaultKind
bytes_of word = if bytes_eq word (codes "-") then Ok [] else or_bad_bytes (result_ok (decode_of word))

-- the 64 bytes that a word of 128 hexadecimal digits spells
abbrev pub entry_of : List ℕ → Result (List ℕ) FaultKind
entry_of word = or_bad_bytes (result_ok (decode_sized word 64))
