-- Bytes in lines (profile)
use Rattle.std.specs.Prelude.{ℕ, List, [], ◌∷◌, ◌++◌, codes}
use Rattle.hex.specs.Hex.{encode_lower}

-- what ends a line
abbrev pub line_feed : List ℕ
line_feed = 10 ∷ []

-- bytes as a line of hexadecimal digits in lower case
abbrev pub hex_line : List ℕ → List ℕ
hex_line bytes = encode_lower bytes ++ line_feed

-- a line of bytes that may be none: a dash means none
abbrev pub dump_line : List ℕ → List ℕ
dump_line [] = codes "-" ++ line_feed
dump_line (byte ∷ bytes) = hex_line (byte ∷ bytes)
