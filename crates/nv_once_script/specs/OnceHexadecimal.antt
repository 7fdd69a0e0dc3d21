-- Hexadecimal digits in parts
use Rattle.std.specs.Prelude.{ℕ, ◌+◌, ◌*◌, List, [], ◌∷◌, ◌++◌, Result, Ok, Err}
use Rattle.std.specs.Option.{unwrap_or}
use Rattle.hex.specs.Hex.{hex_digit_value}
use Rattle.hex.specs.declared.error.FromHexError.{FromHexError}

-- the value of a digit
abbrev pub digit_value : ℕ → ℕ
digit_value digit = unwrap_or (hex_digit_value digit) 0

-- the bytes of two values each, the high one first
unfoldable pub paired : List ℕ → List ℕ
paired (high ∷ low ∷ values) = (high * 16 + low) ∷ paired values
paired values = []

-- what a text spells: these bytes, and after them what its rest spells
abbrev pub behind : List ℕ → Result (List ℕ) FromHexError → Result (List ℕ) FromHexError
behind bytes (Ok more) = Ok (bytes ++ more)
behind bytes (Err error) = Err error
