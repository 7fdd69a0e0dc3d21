-- A line that begins with a known word and a space
use Rattle.std.proofs.Common.{◌≡◌, ℕ, ◌<◌, Bool, true, false, cond, not, Option, Some, refl, sym, ap, ◌∙◌, arith}
use Rattle.std.proofs.Common.{List, [], ◌∷◌, ◌++◌, drop, get_or, length, take}
use Rattle.std.specs.Prelude.{◌&&◌, nat_lt}
use Rattle.std.specs.List.{list_all}
use Rattle.std.specs.Map.{lookup}
use Rattle.std.specs.Str.{bytes_eq}
use Rattle.std.proofs.lemmas.Bool.{and_parts, ltb-true}
use Rattle.std.proofs.lemmas.List.{take-append-drop}
use Rattle.std.proofs.lemmas.Slice.Eq.{bytes_eq-Decides}
use Rattle.nv_once_script.specs.OnceWords.{words_of}
use Rattle.nv_once_script.proofs.OnceWordsLemmas.{ends_word, words_of-named}
use Rattle.nv_replay_script.specs.declared.vocabulary.Keyword.{Keyword}
use Rattle.nv_replay_script.specs.ReplayVocabulary.{keyword_of, vocabulary}

same-bytes : (xs ys : List ℕ) → bytes_eq xs ys ≡ true → xs ≡ ys
same-bytes xs ys same = (bytes_eq-Decides xs ys).0 same

-- a word none of whose bytes ends it
abbrev is_name : List ℕ → Bool
is_name word = nat_lt 0 (length word) && list_all (λ b. not (ends_word b)) word

abbrev are_names : List (List ℕ × Keyword) → Bool
are_names [] = true
are_names (row ∷ rows) = is_name row.0 && are_names rows

found-at : (word name : List ℕ) (t : Bool) (here k : Keyword) (rest : Option Keyword) → bytes_eq name word ≡ t → is_name name ≡ true
    → (rest ≡ Some k → is_name word ≡ true) → cond t (Some here) rest ≡ Some k → is_name word ≡ true
found-at word name true here k rest same named further found = ap is_name (sym (same-bytes name word same)) ∙ named
found-at word name false here k rest same named further found = further found

found : (word : List ℕ) (k : Keyword) (rows : List (List ℕ × Keyword)) → are_names rows ≡ true
    → lookup (λ name. bytes_eq name word) rows ≡ Some k → is_name word ≡ true
found word k [] named is = cc is
found word k (row ∷ rows) named is =
    let parts = and_parts (is_name row.0) (are_names rows) named in
    found-at word row.0 (bytes_eq row.0 word) row.1 k (lookup (λ name. bytes_eq name word) rows) refl parts.0 (found word k rows parts.1) is

-- a word that is known is a name
known : (word : List ℕ) (k : Keyword) → keyword_of word ≡ Some k → is_name word ≡ true
unfolding keyword_of vocabulary
known word k is = found word k vocabulary refl is

behind-space : (name behind : List ℕ) → 0 < length behind → get_or behind 0 0 ≡ 32 → is_name name ≡ true
    → words_of (name ++ behind) ≡ name ∷ words_of behind
behind-space name [] some space named = absurd (omega arith)
behind-space name (b ∷ more) some space named =
    let parts = and_parts (nat_lt 0 (length name)) (list_all (λ c. not (ends_word c)) name) named in
    ap (λ c. words_of (name ++ c ∷ more)) space
    ∙ words_of-named name more (ltb-true 0 (length name) parts.0) parts.1
    ∙ ap (λ c. name ∷ words_of (c ∷ more)) (sym space)

-- the first word of a line that begins so, and what stands behind it
pub leading_word : (line name behind : List ℕ) (k : Keyword) → keyword_of name ≡ Some k
    → bytes_eq (take (length name) line) name ≡ true → behind ≡ drop (length name) line → 0 < length behind → get_or behind 0 0 ≡ 32
    → words_of line ≡ name ∷ words_of behind
leading_word line name behind k is same cut some space =
    let parts : line ≡ name ++ behind =
    sym (take-append-drop (length name) line)
    ∙ (λ i. same-bytes (take (length name) line) name same i ++ sym cut i) in
    ap words_of parts ∙ behind-space name behind some space (known name k is)
