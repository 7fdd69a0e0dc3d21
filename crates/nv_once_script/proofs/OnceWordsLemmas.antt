-- Words one after another
use Rattle.std.proofs.Common.{◌≡◌, ℕ, zero, suc, ◌+◌, ◌-◌, ◌<◌, ◌≤◌, ◌≢◌, Bool, true, false, not, cond, eqb, ltb, List, [], ◌∷◌, ◌++◌, length, get_or, take}
use Rattle.std.proofs.Common.{drop, Option, Some, None, refl, sym, ap, ◌∙◌, arith, inl, inr, ◌⊎◌}
use Rattle.std.specs.Prelude.{◌||◌, filter, nat_lt, unwrap_or}
use Rattle.std.proofs.Math.Seq.{drop-append_seam, take-append_seam}
use Rattle.std.specs.List.{before_first, list_all, onto_first, position, position_or_len, slice_split}
use Rattle.std.proofs.lemmas.Bool.{and_parts, cases_lt}
use Rattle.std.proofs.lemmas.Bool.Decides.{nat_tests}
use Rattle.std.proofs.lemmas.List.{take_all, take_at, drop_all, drop_more, get_or_push, length-take-le, length_push}
use Rattle.std.proofs.lemmas.List.Sums.{prefix_len-le-length, prefix_len_is, passes_at_first}
use Rattle.std.proofs.lemmas.List.Splits.{slice_split_first}
use Rattle.memchr.specs.Find.{IsFirstByte}
use Rattle.nv_once_script.specs.OnceWords.{without_last_feed, words_in, words_of}

-- a place is within the text or its end
pub position_or_len-le : (p : ℕ → Bool) (xs : List ℕ) → position_or_len p xs ≤ length xs
position_or_len-le p xs = prefix_len-le-length (λ x. not (p x)) xs

-- a place, or the end, in one number
unwrap_or-below : (n m : ℕ) → n ≤ m → unwrap_or (cond (ltb n m) (Some n) None) m ≡ n
unwrap_or-below n m h = grind (arith, nat_tests)

-- the place of the first element that passes, where `position` gave it
pub unwrap_or-position : (p : ℕ → Bool) (xs : List ℕ) (r : Option ℕ) → r ≡ position p xs
    → unwrap_or r (length xs) ≡ position_or_len p xs
unwrap_or-position p xs r e =
    ap (λ (o : Option ℕ). unwrap_or o (length xs)) e
    ∙ unwrap_or-below (position_or_len p xs) (length xs) (position_or_len-le p xs)

abbrev pub is_space : ℕ → Bool
is_space b = eqb b 32

abbrev pub is_no_space : ℕ → Bool
is_no_space b = not (eqb b 32)

-- a space in front begins no word
words_in-space : (b : ℕ) (text : List ℕ) → is_space b ≡ true → words_in (b ∷ text) ≡ words_in text
unfolding words_in
words_in-space b text e = rw e refl

words_in-skip-at : (b : ℕ) (text : List ℕ) (t : Bool) → is_space b ≡ t
    → words_in text ≡ words_in (drop (position_or_len is_no_space text) text)
    → words_in (b ∷ text) ≡ words_in (drop (position_or_len is_no_space (b ∷ text)) (b ∷ text))
words_in-skip-at b text true e rest =
    let one : 1 + position_or_len is_no_space text ≡ suc (position_or_len is_no_space text) = omega arith in
    words_in-space b text e ∙ rest ∙ rw (e, one) refl
words_in-skip-at b text false e rest = rw e refl

-- several spaces in front begin none either
pub words_in-skip : (text : List ℕ) → words_in text ≡ words_in (drop (position_or_len is_no_space text) text)
words_in-skip [] = refl
words_in-skip (b ∷ text) = words_in-skip-at b text (is_space b) refl (words_in-skip text)

abbrev BeginsWithWord : List ℕ → Type 0
BeginsWithWord rest = 0 < length rest → 0 < position_or_len is_space rest

place-skip-at : (b : ℕ) (text : List ℕ) (t : Bool) → is_space b ≡ t
    → BeginsWithWord (drop (position_or_len is_no_space text) text)
    → BeginsWithWord (drop (position_or_len is_no_space (b ∷ text)) (b ∷ text))
place-skip-at b text true e rest =
    let one : 1 + position_or_len is_no_space text ≡ suc (position_or_len is_no_space text) = omega arith in
    rw (e, one) rest
place-skip-at b text false e rest = rw (e, e) (λ h. omega arith)

-- what stands behind leading spaces begins with a word
pub place-skip : (text : List ℕ) → 0 < length (drop (position_or_len is_no_space text) text)
    → 0 < position_or_len is_space (drop (position_or_len is_no_space text) text)
place-skip [] = λ h. h
place-skip (b ∷ text) = place-skip-at b text (is_space b) refl (place-skip text)

abbrev is_word : List ℕ → Bool
is_word word = nat_lt 0 (length word)

-- a part that is a word
filter-word : (word : List ℕ) (parts : List (List ℕ)) → 0 < length word
    → filter is_word (word ∷ parts) ≡ word ∷ filter is_word parts
filter-word [] parts h = absurd (omega arith)
filter-word (b ∷ word) parts h =
    let long : ltb 0 (length (b ∷ word)) ≡ true = grind (arith, nat_tests) in
    rw long refl

-- a word, and what stands behind it
words_in-parts : (text word rest : List ℕ) → slice_split is_space text ≡ word ∷ slice_split is_space rest
    → 0 < length word → words_in text ≡ word ∷ words_in rest
unfolding words_in
words_in-parts text word rest e h = ap (filter is_word) e ∙ filter-word word (slice_split is_space rest) h

-- a word alone
words_in-one : (text word : List ℕ) → slice_split is_space text ≡ word ∷ [] → 0 < length word
    → words_in text ≡ word ∷ []
unfolding words_in
words_in-one text word e h = ap (filter is_word) e ∙ filter-word word [] h

words_in-none : words_in [] ≡ []
unfolding words_in
words_in-none = refl

slice_split-whole-at : (b : ℕ) (text : List ℕ) (t : Bool) → is_space b ≡ t
    → length (b ∷ text) ≤ position_or_len is_space (b ∷ text)
    → (length text ≤ position_or_len is_space text → slice_split is_space text ≡ text ∷ [])
    → slice_split is_space (b ∷ text) ≡ (b ∷ text) ∷ []
slice_split-whole-at b text true e h rest = absurd (let h' = rw e at h in omega (arith, h'))
slice_split-whole-at b text false e h rest =
    let h' = rw e at h in
    let below : length text ≤ position_or_len is_space text = omega (arith, h') in
    rw e (ap (onto_first b) (rest below))

-- a text with no space is one part
slice_split-whole : (text : List ℕ) → length text ≤ position_or_len is_space text
    → slice_split is_space text ≡ text ∷ []
slice_split-whole [] h = refl
slice_split-whole (b ∷ text) h = slice_split-whole-at b text (is_space b) refl h (slice_split-whole text)

words_in-first-at : (text : List ℕ) → 0 < position_or_len is_space text
    → (position_or_len is_space text < length text) ⊎ (length text ≤ position_or_len is_space text)
    → words_in text ≡ take (position_or_len is_space text) text ∷ words_in (drop (position_or_len is_space text) text)
words_in-first-at text h (inl within) =
    let n = position_or_len is_space text in
    let long : 0 < length (take n text) = rw (length-take-le n text (position_or_len-le is_space text)) h in
    let parts = words_in-parts text (take n text) (drop (n + 1) text) (slice_split_first is_space text 0 within) long in
    let behind : words_in (drop n text) ≡ words_in (drop (n + 1) text) =
    ap words_in (drop_more text n 0 within)
    ∙ words_in-space (get_or text n 0) (drop (n + 1) text) (passes_at_first is_space text 0 within) in
    parts ∙ ap (λ (ws : List (List ℕ)). take n text ∷ ws) (sym behind)
words_in-first-at text h (inr whole) =
    let n = position_or_len is_space text in
    let long : 0 < length text = omega (arith, position_or_len-le is_space text) in
    words_in-one text text (slice_split-whole text whole) long
    ∙ rw (take_all n text whole, drop_all n text whole) (ap (λ (ws : List (List ℕ)). text ∷ ws) (sym words_in-none))

-- a word in front
pub words_in-first : (text : List ℕ) → 0 < position_or_len is_space text
    → words_in text ≡ take (position_or_len is_space text) text ∷ words_in (drop (position_or_len is_space text) text)
words_in-first text h = words_in-first-at text h (cases_lt (position_or_len is_space text) (length text))

-- a text of spaces has no word
pub split_word-none : (text rest : List ℕ) (start : ℕ) → start ≡ position_or_len is_no_space text
    → rest ≡ drop start text → eqb (length rest) 0 ≡ true → words_in text ≡ []
split_word-none text rest start at cut none =
    let same : rest ≡ drop (position_or_len is_no_space text) text = cut ∙ ap (λ (n : ℕ). drop n text) at in
    words_in-skip text ∙ ap words_in (sym same) ∙ words_in-empty rest none
  where
    words_in-empty : (rest : List ℕ) → eqb (length rest) 0 ≡ true → words_in rest ≡ []
    words_in-empty [] e = words_in-none
    words_in-empty (b ∷ rest) e = absurd (grind (arith, nat_tests))

-- any other text has a first word, and what stands behind it
pub split_word-some : (text rest word more : List ℕ) (start end : ℕ) → start ≡ position_or_len is_no_space text
    → rest ≡ drop start text → eqb (length rest) 0 ≡ false
    → end ≡ position_or_len is_space rest → word ≡ take end rest → more ≡ drop end rest
    → words_in text ≡ word ∷ words_in more
split_word-some text rest word more start end at cut some place front back =
    let same : rest ≡ drop (position_or_len is_no_space text) text = cut ∙ ap (λ (n : ℕ). drop n text) at in
    let there : 0 < length rest = grind (arith, nat_tests) in
    let long : 0 < position_or_len is_space rest = rw same (place-skip text (rw (← same) there)) in
    let first = words_in-first rest long in
    words_in-skip text ∙ ap words_in (sym same) ∙ first ∙ (cc)

-- a last line feed goes
pub without_last_feed-fed : (text front : List ℕ) (last : ℕ) → text ≡ front ++ last ∷ [] → last ≡ 10
    → front ≡ without_last_feed text
unfolding without_last_feed
without_last_feed-fed text front last e feed =
    let n : length (front ++ last ∷ []) - 1 ≡ length front = omega (arith, length_push front last) in
    rw (e, n, get_or_push front last 0 (length front) refl, feed, take_at front (10 ∷ []) (length front) refl) refl

-- any other last byte stays
pub without_last_feed-other : (text front : List ℕ) (last : ℕ) → text ≡ front ++ last ∷ [] → last ≢ 10
    → text ≡ without_last_feed text
unfolding without_last_feed
without_last_feed-other text front last e other =
    let n : length (front ++ last ∷ []) - 1 ≡ length front = omega (arith, length_push front last) in
    let test : eqb last 10 ≡ false = grind (arith, nat_tests) in
    rw (e, n, get_or_push front last 0 (length front) refl, test) refl

-- nothing has no last byte
pub without_last_feed-none : (text : List ℕ) → length text ≡ 0 → text ≡ without_last_feed text
unfolding without_last_feed
without_last_feed-none [] e = refl
without_last_feed-none (b ∷ text) e = absurd (omega arith)

-- ---- comments

abbrev pub is_hash : ℕ → Bool
is_hash b = eqb b 35

-- what ends a word: a space, or the beginning of a comment
abbrev pub ends_word : ℕ → Bool
ends_word b = eqb b 32 || eqb b 35

-- a line without its comment
abbrev pub bare : List ℕ → List ℕ
bare line = before_first is_hash line

-- a comment ends a line, and any other byte stands in front of what is left of it
bare-at : (b : ℕ) (text : List ℕ) (t : Bool) → is_hash b ≡ t → bare (b ∷ text) ≡ cond t [] (b ∷ bare text)
bare-at b text true e = rw e refl
bare-at b text false e =
    let one : 1 + position_or_len is_hash text ≡ suc (position_or_len is_hash text) = omega arith in
    rw (e, one) refl

-- the beginning of a comment is no space
hash-no_space : (b : ℕ) → is_hash b ≡ true → is_space b ≡ false
hash-no_space b e = grind (arith, nat_tests)

bare-word_end-at : (b : ℕ) (text : List ℕ) (t : Bool) → is_hash b ≡ t
    → position_or_len ends_word text ≡ position_or_len is_space (bare text)
    → position_or_len ends_word (b ∷ text) ≡ position_or_len is_space (bare (b ∷ text))
bare-word_end-at b text true e rest = rw (bare-at b text true e, hash-no_space b e, e) refl
bare-word_end-at b text false e rest = rw (bare-at b text false e, e, rest) (space-first (is_space b))
  where
    space-first : (t : Bool)
        → cond (not (t || false)) (1 + position_or_len is_space (bare text)) 0 ≡ cond (not t) (1 + position_or_len is_space (bare text)) 0
    space-first true = refl
    space-first false = refl

-- a word ends at the first space of what stands before the comment
pub bare-word_end : (text : List ℕ) → position_or_len ends_word text ≡ position_or_len is_space (bare text)
bare-word_end [] = refl
bare-word_end (b ∷ text) = bare-word_end-at b text (is_hash b) refl (bare-word_end text)

bare-leading-at : (b : ℕ) (text : List ℕ) (t : Bool) → is_hash b ≡ t
    → position_or_len is_no_space text ≡ position_or_len is_no_space (bare text)
    → position_or_len is_no_space (b ∷ text) ≡ position_or_len is_no_space (bare (b ∷ text))
bare-leading-at b text true e rest = rw (bare-at b text true e, hash-no_space b e) refl
bare-leading-at b text false e rest = rw (bare-at b text false e, rest) refl

-- and so do leading spaces
bare-leading : (text : List ℕ) → position_or_len is_no_space text ≡ position_or_len is_no_space (bare text)
bare-leading [] = refl
bare-leading (b ∷ text) = bare-leading-at b text (is_hash b) refl (bare-leading text)

bare-drop-at : (k b : ℕ) (text : List ℕ) (t : Bool) → is_hash b ≡ t → suc k ≤ length (bare (b ∷ text))
    → (k ≤ length (bare text) → bare (drop k text) ≡ drop k (bare text))
    → bare (drop k text) ≡ drop (suc k) (bare (b ∷ text))
bare-drop-at k b text true e h rest = absurd (let h' = rw (bare-at b text true e) at h in omega (arith, h'))
bare-drop-at k b text false e h rest =
    let h' = rw (bare-at b text false e) at h in
    rw (bare-at b text false e) (rest (omega (arith, h')))

-- what stands behind so many bytes
bare-drop : (k : ℕ) (text : List ℕ) → k ≤ length (bare text) → bare (drop k text) ≡ drop k (bare text)
bare-drop zero text h = refl
bare-drop (suc k) [] h = refl
bare-drop (suc k) (b ∷ text) h = bare-drop-at k b text (is_hash b) refl h (bare-drop k text)

bare-take-at : (k b : ℕ) (text : List ℕ) (t : Bool) → is_hash b ≡ t → suc k ≤ length (bare (b ∷ text))
    → (k ≤ length (bare text) → take k text ≡ take k (bare text))
    → b ∷ take k text ≡ take (suc k) (bare (b ∷ text))
bare-take-at k b text true e h rest = absurd (let h' = rw (bare-at b text true e) at h in omega (arith, h'))
bare-take-at k b text false e h rest =
    let h' = rw (bare-at b text false e) at h in
    rw (bare-at b text false e) (ap (λ (bs : List ℕ). b ∷ bs) (rest (omega (arith, h'))))

-- the first so many bytes
bare-take : (k : ℕ) (text : List ℕ) → k ≤ length (bare text) → take k text ≡ take k (bare text)
bare-take zero text h = refl
bare-take (suc k) [] h = refl
bare-take (suc k) (b ∷ text) h = bare-take-at k b text (is_hash b) refl h (bare-take k text)

-- what stands behind leading spaces
bare-skipped : (text rest : List ℕ) (start : ℕ) → start ≡ position_or_len is_no_space text → rest ≡ drop start text
    → bare rest ≡ drop (position_or_len is_no_space (bare text)) (bare text)
bare-skipped text rest start at cut =
    let same = at ∙ bare-leading text in
    ap bare (cut ∙ ap (λ (n : ℕ). drop n text) same)
    ∙ bare-drop (position_or_len is_no_space (bare text)) text (position_or_len-le is_no_space (bare text))

-- a line of spaces and a comment has no word
pub first_word-none : (text rest : List ℕ) (start end : ℕ) → start ≡ position_or_len is_no_space text
    → rest ≡ drop start text → end ≡ position_or_len ends_word rest → end ≡ 0 → words_of text ≡ []
unfolding words_of
first_word-none text rest start end at cut place none =
    let skipped = bare-skipped text rest start at cut in
    let no_word : position_or_len is_space (bare rest) ≡ 0 = sym (bare-word_end rest) ∙ sym place ∙ none in
    split_word-none (bare text) (bare rest) _ refl skipped (empty (bare text) (bare rest) skipped no_word (cases_lt 0 (length (bare rest))))
  where
    empty : (line rest : List ℕ) → rest ≡ drop (position_or_len is_no_space line) line → position_or_len is_space rest ≡ 0
        → (0 < length rest) ⊎ (length rest ≤ 0) → eqb (length rest) 0 ≡ true
    empty line rest same no_word (inl some) =
        let long : 0 < position_or_len is_space rest = rw same (place-skip line (rw (← same) some)) in
        absurd (omega (arith, long, no_word))
    empty line rest same no_word (inr none) = grind (arith, nat_tests)

-- any other line has a first word, and what stands behind it
pub first_word-some : (text rest word more : List ℕ) (start end : ℕ) → start ≡ position_or_len is_no_space text
    → rest ≡ drop start text → end ≡ position_or_len ends_word rest → 0 < end → word ≡ take end rest → more ≡ drop end rest
    → words_of text ≡ word ∷ words_of more
unfolding words_of
first_word-some text rest word more start end at cut place some front back =
    let ends : end ≡ position_or_len is_space (bare rest) = place ∙ bare-word_end rest in
    let within : end ≤ length (bare rest) = omega (arith, ends, position_or_len-le is_space (bare rest)) in
    let there : eqb (length (bare rest)) 0 ≡ false = grind (arith, nat_tests) in
    split_word-some (bare text) (bare rest) word (bare more) _ end refl (bare-skipped text rest start at cut) there ends
    (front ∙ bare-take end rest within) (ap bare back ∙ bare-drop end rest within)

-- ---- a search for two bytes

never-true : (t : Bool) → ¬ (t ≡ true) → not t ≡ true
never-true true never = absurd (never refl)
never-true false never = refl

is-true : (t : Bool) → t ≡ true → not t ≡ false
is-true t e = ap not e

-- the place that a search for a byte gives is the first, or the length where it gives none
pub first-byte : (p : ℕ → Bool) (text : List ℕ) (r : Option ℕ) → IsFirstByte p text r → unwrap_or r (length text) ≡ position_or_len p text
first-byte p text None nowhere =
    sym (prefix_len_is (λ b. not (p b)) text (length text) 0 (omega arith) (λ k l. never-true (p (get_or text k 0)) (nowhere k (omega arith) l)) (λ l. absurd (omega arith)))
first-byte p text (Some end) found =
    let high = found.0.high in
    sym (prefix_len_is (λ b. not (p b)) text end 0 (omega arith) (λ k l. never-true (p (get_or text k 0)) (found.0.before k (omega arith) l)) (λ l. is-true (p (get_or text end 0)) found.1))

-- ---- a line that begins with a name

place-named : (p : ℕ → Bool) (name more : List ℕ) (b : ℕ) → list_all (λ x. not (p x)) name ≡ true → p b ≡ true
    → length name ≡ position_or_len p (name ++ b ∷ more)
place-named p [] more b none ends = rw ends refl
place-named p (x ∷ name) more b none ends =
    let parts = and_parts (not (p x)) (list_all (λ y. not (p y)) name) none in
    let rest = place-named p name more b parts.1 ends in
    rw parts.0 (omega (arith, rest))

no_space-first : (x : ℕ) (text : List ℕ) → not (ends_word x) ≡ true → 0 ≡ position_or_len is_no_space (x ∷ text)
no_space-first x text none = grind (arith, nat_tests)

-- a name of whole letters, and a space behind it: it is the first word, and what stands behind it has the others
pub words_of-named : (name more : List ℕ) → 0 < length name → list_all (λ b. not (ends_word b)) name ≡ true
    → words_of (name ++ 32 ∷ more) ≡ name ∷ words_of (32 ∷ more)
words_of-named [] more some none = absurd (omega arith)
words_of-named (x ∷ name) more some none =
    let parts = and_parts (not (ends_word x)) (list_all (λ y. not (ends_word y)) name) none in
    first_word-some ((x ∷ name) ++ 32 ∷ more) ((x ∷ name) ++ 32 ∷ more) (x ∷ name) (32 ∷ more) 0 (length (x ∷ name))
    (no_space-first x (name ++ 32 ∷ more) parts.0) refl (place-named ends_word (x ∷ name) more 32 none refl) some
    (sym (take-append_seam (x ∷ name) (32 ∷ more))) (sym (drop-append_seam (x ∷ name) (32 ∷ more)))
