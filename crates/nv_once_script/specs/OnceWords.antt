-- Lines and words of a script. A byte is its code: 10 is the line feed, 32 the space, 35 is `#`.
use Rattle.std.specs.Prelude.{ℕ, ◌-◌, ◌==◌, nat_lt, Bool, true, false, List, [], length, slice_index, take, filter, if◌then◌else◌}
use Rattle.std.specs.List.{before_first, slice_split}

-- a text without the line feed that ends its last line
unfoldable pub without_last_feed : List ℕ → List ℕ
without_last_feed text = if slice_index text (length text - 1) == 10 then take (length text - 1) text else text

-- the lines of a text. A line feed ends a line, and the last line may lack it; a text of no bytes is one empty line.
unfoldable pub lines_of : List ℕ → List (List ℕ)
lines_of text = slice_split (λ b. b == 10) (without_last_feed text)

-- the lines of what is left of a text, or none where the last was taken
abbrev pub lines_left : (is_over : Bool) → List ℕ → List (List ℕ)
lines_left true text = []
lines_left false text = slice_split (λ b. b == 10) text

-- the words in a text: what is between its spaces
unfoldable pub words_in : List ℕ → List (List ℕ)
words_in text = filter (λ word. nat_lt 0 (length word)) (slice_split (λ b. b == 32) text)

-- the words of a line: those before its comment
unfoldable pub words_of : List ℕ → List (List ℕ)
words_of line = words_in (before_first (λ b. b == 35) line)
