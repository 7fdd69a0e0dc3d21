-- The fields of a line, one behind another
use Rattle.std.proofs.Common.{◌≡◌, ℕ, ◌==◌, Bool, List, ◌++◌, Option, IsTrue, ◌↔◌, ap, ◌∙◌, subst, rules}
use Rattle.std.specs.Int.{bytes_high_first}
use Rattle.std.specs.Io.KnownBytes.{Appends}
use Rattle.std.specs.Fmt.{decimal}
use Rattle.hex.specs.Hex.{encode_lower}
use Rattle.nv_commands.specs.Printed.{flag, hex_number}

-- a field of hexadecimal digits, by the number that its bytes spell
pub hex_field : (u v : Option (List ℕ)) (label bytes : List ℕ) (k m n : ℕ) → bytes ≡ bytes_high_first k m → m ≡ n
    → Appends u v (label ++ encode_lower bytes) → Appends u v (label ++ hex_number k n)
hex_field u v label bytes k m n spelled same printed =
    subst (λ xs. Appends u v (label ++ encode_lower xs)) (spelled ∙ ap (bytes_high_first k) same) printed

-- a field of bytes
pub bytes_field : (u v : Option (List ℕ)) (label bytes those : List ℕ) → bytes ≡ those
    → Appends u v (label ++ encode_lower bytes) → Appends u v (label ++ encode_lower those)
bytes_field u v label bytes those same printed = subst (λ xs. Appends u v (label ++ encode_lower xs)) same printed

-- a field in base 10
pub number_field : (u v : Option (List ℕ)) (label : List ℕ) (m n : ℕ) → m ≡ n → Appends u v (label ++ decimal m)
    → Appends u v (label ++ decimal n)
number_field u v label m n same printed = subst (λ k. Appends u v (label ++ decimal k)) same printed

-- a bit, by the test that it is set
pub flag_field : (u v : Option (List ℕ)) (label : List ℕ) (a b : Bool) → a ≡ b → Appends u v (label ++ flag a)
    → Appends u v (label ++ flag b)
flag_field u v label a b same printed = subst (λ it. Appends u v (label ++ flag it)) same printed

-- a test of a number, by when it holds
pub as_test : (b : Bool) (n m : ℕ) → (IsTrue b ↔ (n ≡ m)) → b ≡ (n == m)
as_test b n m says = search rules
