-- Worked examples of the definitions, computed
use Rattle.std.proofs.Common.{◌≡◌, ℕ, List, [], ◌∷◌, ◌++◌, Ok, Err, refl}
use Rattle.std.specs.Prelude.{codes}
use Rattle.hex.specs.Hex.{decode_pairs}
use Rattle.nv_once_script.specs.declared.once.fault.FaultKind.TheVariants.{UnknownWord, MissingWord, BadNumber, BadBytes, OutOfPlace, OutOfRange}
use Rattle.nv_once_script.specs.declared.once.fault.ScriptFault.TheVariants as fault
use Rattle.nv_once_script.specs.OnceFold.{after_lines, after_words, script_by}
use Rattle.nv_once_script.specs.OnceLine.{Store, Block}
use Rattle.nv_once_script.specs.OnceNumber.{number_of, spelled, written}
use Rattle.nv_once_script.specs.OnceScript.{after_keyword, script_of}
use Rattle.nv_once_script.specs.OnceVocabulary.{keyword_of, vocabulary}
use Rattle.nv_once_script.specs.OnceWords.{lines_of, without_last_feed, words_in, words_of}

-- numbers
number_of-decimal : number_of (codes "0018446744073709551615") ≡ Ok 18446744073709551615
unfolding number_of written spelled
number_of-decimal = refl

number_of-hexadecimal : number_of (codes "0xFf") ≡ Ok 255
unfolding number_of written spelled
number_of-hexadecimal = refl

number_of-large : number_of (codes "18446744073709551616") ≡ Err BadNumber
unfolding number_of written spelled
number_of-large = refl

number_of-prefix : number_of (codes "0x") ≡ Err BadNumber
unfolding number_of written spelled
number_of-prefix = refl

number_of-sign : number_of (codes "+1") ≡ Err BadNumber
unfolding number_of written spelled
number_of-sign = refl

-- words and lines
words_of-comment : words_of (codes "  a  bc# d") ≡ codes "a" ∷ codes "bc" ∷ []
unfolding words_of words_in
words_of-comment = refl

lines_of-none : lines_of [] ≡ [] ∷ []
unfolding lines_of without_last_feed
lines_of-none = refl

lines_of-fed : lines_of (codes "a" ++ 10 ∷ 10 ∷ []) ≡ codes "a" ∷ [] ∷ []
unfolding lines_of without_last_feed
lines_of-fed = refl

-- scripts
abbrev set_up : List ℕ → List ℕ
set_up text = codes "memory 4096" ++ 10 ∷ codes "blocks 2" ++ 10 ∷ text

script_of-none : script_of ([]) ≡ Err (fault.Line 1 OutOfPlace)
unfolding script_of script_by lines_of without_last_feed words_of words_in after_lines after_words after_keyword keyword_of vocabulary
    number_of written spelled decode_pairs
script_of-none = refl

script_of-store : script_of (set_up (codes "store 0xffe aBcd")) ≡ Ok (record { sizes = record { memory = 4096; blocks = 2 }; lines = Store 4094 (171 ∷ 205 ∷ []) ∷ [] })
unfolding script_of script_by lines_of without_last_feed words_of words_in after_lines after_words after_keyword keyword_of vocabulary
    number_of written spelled decode_pairs
script_of-store = refl

script_of-dash : script_of (set_up (codes "store 5000 -")) ≡ Ok (record { sizes = record { memory = 4096; blocks = 2 }; lines = Store 5000 [] ∷ [] })
unfolding script_of script_by lines_of without_last_feed words_of words_in after_lines after_words after_keyword keyword_of vocabulary
    number_of written spelled decode_pairs
script_of-dash = refl

script_of-block : script_of (set_up (codes "block 1" ++ 10 ∷ [])) ≡ Ok (record { sizes = record { memory = 4096; blocks = 2 }; lines = Block 1 ∷ [] })
unfolding script_of script_by lines_of without_last_feed words_of words_in after_lines after_words after_keyword keyword_of vocabulary
    number_of written spelled decode_pairs
script_of-block = refl

script_of-range : script_of (set_up (codes "dump 4095 2")) ≡ Err (fault.Line 3 OutOfRange)
unfolding script_of script_by lines_of without_last_feed words_of words_in after_lines after_words after_keyword keyword_of vocabulary
    number_of written spelled decode_pairs
script_of-range = refl

script_of-late : script_of (set_up (codes "memory zz")) ≡ Err (fault.Line 3 OutOfPlace)
unfolding script_of script_by lines_of without_last_feed words_of words_in after_lines after_words after_keyword keyword_of vocabulary
    number_of written spelled decode_pairs
script_of-late = refl

script_of-late_count : script_of (set_up (codes "memory")) ≡ Err (fault.Line 3 MissingWord)
unfolding script_of script_by lines_of without_last_feed words_of words_in after_lines after_words after_keyword keyword_of vocabulary
    number_of written spelled decode_pairs
script_of-late_count = refl

script_of-foreign : script_of (set_up (codes "take 1 2 3")) ≡ Err (fault.Line 3 OutOfPlace)
unfolding script_of script_by lines_of without_last_feed words_of words_in after_lines after_words after_keyword keyword_of vocabulary
    number_of written spelled decode_pairs
script_of-foreign = refl

script_of-foreign_count : script_of (set_up (codes "take 1 2")) ≡ Err (fault.Line 3 MissingWord)
unfolding script_of script_by lines_of without_last_feed words_of words_in after_lines after_words after_keyword keyword_of vocabulary
    number_of written spelled decode_pairs
script_of-foreign_count = refl

script_of-unknown : script_of (set_up (codes "takes 1 2 3 4 5")) ≡ Err (fault.Line 3 UnknownWord)
unfolding script_of script_by lines_of without_last_feed words_of words_in after_lines after_words after_keyword keyword_of vocabulary
    number_of written spelled decode_pairs
script_of-unknown = refl

script_of-bytes : script_of (set_up (codes "store 9999 abc")) ≡ Err (fault.Line 3 BadBytes)
unfolding script_of script_by lines_of without_last_feed words_of words_in after_lines after_words after_keyword keyword_of vocabulary
    number_of written spelled decode_pairs
script_of-bytes = refl

script_of-first : script_of (set_up (codes "store zz zz")) ≡ Err (fault.Line 3 BadNumber)
unfolding script_of script_by lines_of without_last_feed words_of words_in after_lines after_words after_keyword keyword_of vocabulary
    number_of written spelled decode_pairs
script_of-first = refl
