-- Lines one after another, of a script of any kind
use Rattle.std.proofs.Common.{◌≡◌, ℕ, ◌+◌, List, [], ◌∷◌, length, Option, Result, Ok, Err, refl, sym, ap, ◌∙◌, arith, inl, inr, ◌⊎◌}
use Rattle.std.specs.Option.{ok_or}
use Rattle.std.specs.Prelude.{MatchResult}
use Rattle.nv_once_script.specs.declared.once.fault.FaultKind.{FaultKind}
use Rattle.nv_once_script.specs.declared.once.fault.FaultKind.TheVariants.{UnknownWord}
use Rattle.nv_once_script.specs.declared.once.fault.LineFault.{LineFault}
use Rattle.nv_once_script.specs.declared.once.fault.LineFault.TheVariants.{Faulty, NoMemory}
use Rattle.nv_once_script.specs.declared.once.fault.ScriptFault.{ScriptFault}
use Rattle.nv_once_script.specs.declared.once.fault.ScriptFault.TheVariants as fault
use Rattle.nv_once_script.specs.OnceFault.{Refuses, fault_on}
use Rattle.nv_once_script.specs.OnceFold.{after_lines, after_words, script_by}
use Rattle.nv_once_script.specs.OnceWords.{lines_of, words_of}

-- ---- a line

-- what the first words of lines are, and what lines add by that
abbrev pub Known : Type 0 → Type 0
Known K = List ℕ → Option K

abbrev pub ByKeyword : Type 0 → Type 0 → Type 0
ByKeyword K P = K → List (List ℕ) → Result P FaultKind

pub after_words-none : {K P : Type 0} → (known : Known K) (by : ByKeyword K P) (p : P) (words : List (List ℕ)) → words ≡ []
    → after_words known by p words ≡ Ok p
unfolding after_words
after_words-none known by p words e = rw e refl

pub after_words-unknown : {K P : Type 0} → (known : Known K) (by : ByKeyword K P) (p : P) (words : List (List ℕ))
    (first : List ℕ) (rest : List (List ℕ)) (kind : FaultKind) → words ≡ first ∷ rest
    → ok_or (known first) UnknownWord ≡ Err kind → after_words known by p words ≡ Err kind
unfolding after_words
after_words-unknown known by p words first rest kind e unknown = rw (e, unknown) refl

pub after_words-known : {K P : Type 0} → (known : Known K) (by : ByKeyword K P) (p : P) (words : List (List ℕ))
    (first : List ℕ) (rest : List (List ℕ)) (k : K) → words ≡ first ∷ rest
    → ok_or (known first) UnknownWord ≡ Ok k → after_words known by p words ≡ by k rest
unfolding after_words
after_words-known known by p words first rest k e is = rw (e, is) refl

-- ---- a script

-- what lines add, by their numbers
abbrev pub ByLine : Type 0 → Type 0
ByLine P = ℕ → P → List (List ℕ) → Result P FaultKind

-- a line that is read
pub after_lines-read : {P : Type 0} → (add : ByLine P) (n : ℕ) (p next : P) (line : List ℕ) (rest : List (List ℕ))
    → add n p (words_of line) ≡ Ok next → after_lines add n p (line ∷ rest) ≡ after_lines add (n + 1) next rest
unfolding after_lines
after_lines-read add n p next line rest read = rw read refl

-- a line that is faulty
after_lines-faulty : {P : Type 0} → (add : ByLine P) (n : ℕ) (p : P) (line : List ℕ) (rest : List (List ℕ)) (kind : FaultKind)
    → add n p (words_of line) ≡ Err kind → after_lines add n p (line ∷ rest) ≡ Err (fault.Line n kind)
unfolding after_lines
after_lines-faulty add n p line rest kind faulty = rw faulty refl

-- behind the last line
after_lines-end : {P : Type 0} → (add : ByLine P) (n : ℕ) (p : P) → after_lines add n p [] ≡ Ok p
unfolding after_lines
after_lines-end add n p = refl

-- the fault of a script is that of its first faulty line
pub script_by-refused : {P S : Type 0} → (add : ByLine P) (finish : ℕ → P → Result S ScriptFault) (nothing : P)
    (n : ℕ) (p : P) (text line : List ℕ) (left rest : List (List ℕ)) (refusal : LineFault)
    → left ≡ line ∷ rest → after_lines add n p left ≡ after_lines add 1 nothing (lines_of text)
    → Refuses (add n p (words_of line)) refusal
    → (fault_on n refusal ≡ fault.NoMemory) ⊎ (script_by add finish nothing text ≡ Err (fault_on n refusal))
unfolding script_by
script_by-refused add finish nothing n p text line left rest (Faulty kind) is kept refused =
    let first = sym kept ∙ ap (after_lines add n p) is ∙ after_lines-faulty add n p line rest kind refused in
    inr (rw first refl)
script_by-refused add finish nothing n p text line left rest NoMemory is kept refused = inl refl

-- a script whose lines were all read
script_by-read : {P S : Type 0} → (add : ByLine P) (finish : ℕ → P → Result S ScriptFault) (nothing : P)
    (n : ℕ) (p : P) (text : List ℕ) (left : List (List ℕ)) → left ≡ [] → n + length left ≡ length (lines_of text)
    → after_lines add (n + 1) p left ≡ after_lines add 1 nothing (lines_of text)
    → script_by add finish nothing text ≡ finish n p
unfolding script_by
script_by-read add finish nothing n p text left none count kept =
    let read = sym kept ∙ ap (after_lines add (n + 1) p) none ∙ after_lines-end add (n + 1) p in
    let whole : length (lines_of text) ≡ n = (let zero = ap length none in omega arith) in
    rw (read, whole) refl

-- and what comes of it
pub script_by-finished : {P S T : Type 0} → (add : ByLine P) (finish : ℕ → P → Result S ScriptFault) (nothing : P)
    (value : T → S) (n : ℕ) (p : P) (text : List ℕ) (left : List (List ℕ)) (r : Result T ScriptFault)
    → left ≡ [] → n + length left ≡ length (lines_of text)
    → after_lines add (n + 1) p left ≡ after_lines add 1 nothing (lines_of text)
    → MatchResult r (λ script. finish n p ≡ Ok (value script)) (λ e. finish n p ≡ Err e)
    → MatchResult r (λ script. script_by add finish nothing text ≡ Ok (value script))
    (λ e. (e ≡ fault.NoMemory) ⊎ (script_by add finish nothing text ≡ Err e))
script_by-finished add finish nothing value n p text left (Ok script) none count kept made =
    script_by-read add finish nothing n p text left none count kept ∙ made
script_by-finished add finish nothing value n p text left (Err e) none count kept made =
    inr (script_by-read add finish nothing n p text left none count kept ∙ made)
