-- A script that was read is in range
use Rattle.std.proofs.Common.{◌≡◌, ℕ, Bool, true, false, cond, List, [], ◌∷◌, ◌++◌, length, Option}
use Rattle.std.proofs.Common.{Some, None, Result, Ok, Err, refl, sym, ap, subst, ◌∙◌, ◌⊎◌, inl, inr, ◌+◌}
use Rattle.std.specs.List.{AllPass}
use Rattle.std.specs.Option.{ok_or}
use Rattle.std.specs.Prelude.{IfOk, IfSome, MatchOption, MatchResult}
use Rattle.std.proofs.lemmas.List.Elements.{All-append, All-cons, All-nil}
use Rattle.nv_once_script.specs.declared.once.fault.FaultKind.{FaultKind}
use Rattle.nv_once_script.specs.declared.once.fault.FaultKind.TheVariants.{BadNumber, OutOfPlace, OutOfRange, UnknownWord}
use Rattle.nv_once_script.specs.declared.once.fault.ScriptFault.{ScriptFault}
use Rattle.nv_once_script.specs.declared.once.fault.ScriptFault.TheVariants as fault
use Rattle.nv_once_script.specs.declared.once.script.Script.{Script}
use Rattle.nv_once_script.specs.declared.once.sizes.Sizes.{Sizes}
use Rattle.nv_once_script.specs.declared.once.vocabulary.Keyword.{Keyword}
use Rattle.nv_once_script.specs.declared.once.vocabulary.Keyword.TheVariants.{Memory, Blocks, Store, Fill, Paint, Cmd, Dump, Block}
use Rattle.nv_once_script.specs.OnceFault.{◌>>=◌}
use Rattle.nv_once_script.specs.OnceFold.{after_lines, after_words, on_line, script_by}
use Rattle.nv_once_script.specs.OnceLine.{LineValue, if_there, is_there, line_of}
use Rattle.nv_once_script.specs.OnceLine as value
use Rattle.nv_once_script.specs.OnceLimits.{longest_fill}
use Rattle.nv_once_script.specs.OnceNumber.{bytes_of, entry_of, number_of, number_up_to}
use Rattle.nv_once_script.specs.OnceScript.{IsInRange, Progress, ScriptValue, after_body, after_keyword, after_line, both, counted_keyword, finished}
use Rattle.nv_once_script.specs.OnceScript.{first_time, nothing, script_of, script_value, sizes_in}
use Rattle.nv_once_script.specs.OnceSizes.{block_count, is_block_count, is_memory_size, memory_size}
use Rattle.nv_once_script.specs.OnceVocabulary.{arguments_of, count_check, keyword_of}
use Rattle.nv_once_script.specs.OnceWords.{lines_of, words_of}

-- ---- steps

-- both steps of two gave a value
steps : {E A B : Type 0} (r : Result A E) (f : A → Result B E) (y : B) → (r >>= f) ≡ Ok y
    → (x : A) × (r ≡ Ok x) × (f x ≡ Ok y)
steps (Ok x) f y h = (x, refl, h)
steps (Err e) f y h = cc

-- a value that is given only where a test holds
tested : {A E : Type 0} (b : Bool) (x y : A) (e : E) → cond b (Ok x) (Err e) ≡ Ok y → (b ≡ true) × (x ≡ y)
tested true x y e h = (refl, (cc))
tested false x y e h = cc

line_tested : (sizes : Sizes) (value line : LineValue) → if_there sizes value ≡ Ok line → is_there sizes line ≡ true
line_tested sizes value line h =
    let t = tested (is_there sizes value) value line OutOfRange h in
    ap (is_there sizes) (sym t.1) ∙ t.0

there_always : (sizes : Sizes) (entry : List ℕ) (line : LineValue)
    → (let made : Result LineValue FaultKind = Ok (value.Command entry) in made ≡ Ok line) → is_there sizes line ≡ true
there_always sizes entry (value.Command e) h = refl
there_always sizes entry line h = cc

-- ---- a line

-- what a line names is there
line_of-there : (sizes : Sizes) (k : Keyword) (words : List (List ℕ)) (line : LineValue)
    → line_of sizes k words ≡ Ok line → is_there sizes line ≡ true
line_of-there sizes Store (addr ∷ digits ∷ []) line h =
    let a = steps (number_of addr) _ line h in
    let b = steps (bytes_of digits) _ line a.2 in
    line_tested sizes (value.Store a.0 b.0) line b.2
line_of-there sizes Fill (addr ∷ len ∷ byte ∷ []) line h =
    let a = steps (number_of addr) _ line h in
    let n = steps (number_up_to longest_fill len) _ line a.2 in
    let b = steps (number_up_to 255 byte) _ line n.2 in
    line_tested sizes (value.Fill a.0 n.0 b.0) line b.2
line_of-there sizes Paint (block ∷ byte ∷ []) line h =
    let n = steps (number_of block) _ line h in
    let b = steps (number_up_to 255 byte) _ line n.2 in
    line_tested sizes (value.Paint n.0 b.0) line b.2
line_of-there sizes Cmd (digits ∷ []) line h =
    let e = steps (entry_of digits) _ line h in
    there_always sizes e.0 line e.2
line_of-there sizes Dump (addr ∷ len ∷ []) line h =
    let a = steps (number_of addr) _ line h in
    let n = steps (number_of len) _ line a.2 in
    line_tested sizes (value.Dump a.0 n.0) line n.2
line_of-there sizes Block (block ∷ []) line h =
    let n = steps (number_of block) _ line h in
    line_tested sizes (value.Block n.0) line n.2
line_of-there sizes k words line h = cc

-- ---- sizes

memory_size-right : (word : List ℕ) (size : ℕ) → memory_size word ≡ Ok size → is_memory_size size ≡ true
memory_size-right word size h =
    let n = steps (number_of word) _ size h in
    let t = tested (is_memory_size n.0) n.0 size BadNumber n.2 in
    ap is_memory_size (sym t.1) ∙ t.0

block_count-right : (word : List ℕ) (count : ℕ) → block_count word ≡ Ok count → is_block_count count ≡ true
block_count-right word count h =
    let n = steps (number_of word) _ count h in
    let t = tested (is_block_count n.0) n.0 count BadNumber n.2 in
    ap is_block_count (sym t.1) ∙ t.0

first_time-right : (o : Option ℕ) (size : Result ℕ FaultKind) (n : ℕ) → first_time o size ≡ Ok n
    → (o ≡ None) × (size ≡ Ok n)
first_time-right None size n h = (refl, h)
first_time-right (Some before) size n h = cc

-- ---- what the lines so far have said

-- the lines are none before the sizes are known, and behind that what they name is there
abbrev AreThere : Option Sizes → List LineValue → Type 0
AreThere sizes lines = MatchOption sizes (lines ≡ []) (λ s. AllPass (is_there s) lines)

record IsKept (p : Progress) : Type 0 where
  memory : IfSome p.memory (λ size. is_memory_size size ≡ true)
  blocks : IfSome p.blocks (λ count. is_block_count count ≡ true)
  lines : AreThere (both p.memory p.blocks) p.lines

no_lines : (memory blocks : Option ℕ) (lines : List LineValue) → (memory ≡ None) ⊎ (blocks ≡ None)
    → AreThere (both memory blocks) lines → lines ≡ []
no_lines None None lines open_still there = there
no_lines None (Some n) lines open_still there = there
no_lines (Some m) None lines open_still there = there
no_lines (Some m) (Some n) lines (inl e) there = cc
no_lines (Some m) (Some n) lines (inr e) there = cc

none_there : (sizes : Option Sizes) (lines : List LineValue) → lines ≡ [] → AreThere sizes lines
none_there None lines e = e
none_there (Some s) lines e = rw e (All-nil (λ line. is_there s line ≡ true))

one_more_there : (o : Option Sizes) (sizes : Sizes) (lines : List LineValue) (line : LineValue) → o ≡ Some sizes
    → is_there sizes line ≡ true → AreThere o lines → AreThere o (lines ++ line ∷ [])
one_more_there None sizes lines line e h there = cc
one_more_there (Some s) sizes lines line e h there =
    let same : s ≡ sizes = cc in
    let P : LineValue → Type 0 = λ l. is_there s l ≡ true in
    All-append P lines (line ∷ []) there (All-cons P line [] (ap (λ (z : Sizes). is_there z line) same ∙ h) (All-nil P))

known_sizes : (o : Option Sizes) (kind : FaultKind) (sizes : Sizes) → ok_or o kind ≡ Ok sizes → o ≡ Some sizes
known_sizes None kind sizes h = cc
known_sizes (Some s) kind sizes h = cc

-- ---- steps keep it

after_memory-kept : (p q : Progress) (word : List ℕ) → IsKept p
    → (first_time p.memory (memory_size word) >>= λ size. Ok (record p { memory = Some size })) ≡ Ok q → IsKept q
after_memory-kept p q word kept h =
    let a = steps (first_time p.memory (memory_size word)) _ q h in
    let first = first_time-right p.memory (memory_size word) a.0 a.1 in
    let made : record p { memory = Some a.0 } ≡ q = cc (a.2) in
    let next : IsKept (record p { memory = Some a.0 }) = record {
      memory = memory_size-right word a.0 first.1;
      blocks = kept.blocks;
      lines = none_there (both (Some a.0) p.blocks) p.lines (no_lines p.memory p.blocks p.lines (inl first.0) kept.lines);
    } in
    subst IsKept made next

after_blocks-kept : (p q : Progress) (word : List ℕ) → IsKept p
    → (first_time p.blocks (block_count word) >>= λ count. Ok (record p { blocks = Some count })) ≡ Ok q → IsKept q
after_blocks-kept p q word kept h =
    let a = steps (first_time p.blocks (block_count word)) _ q h in
    let first = first_time-right p.blocks (block_count word) a.0 a.1 in
    let made : record p { blocks = Some a.0 } ≡ q = cc (a.2) in
    let next : IsKept (record p { blocks = Some a.0 }) = record {
      memory = kept.memory;
      blocks = block_count-right word a.0 first.1;
      lines = none_there (both p.memory (Some a.0)) p.lines (no_lines p.memory p.blocks p.lines (inr first.0) kept.lines);
    } in
    subst IsKept made next

after_body-kept : (p q : Progress) (k : Keyword) (words : List (List ℕ)) → IsKept p → after_body p k words ≡ Ok q
    → IsKept q
after_body-kept p q k words kept h =
    let a = steps (ok_or (sizes_in p) OutOfPlace) _ q h in
    let l = steps (line_of a.0 k words) _ q a.2 in
    let made : record p { lines = p.lines ++ l.0 ∷ [] } ≡ q = cc (l.2) in
    let next : IsKept (record p { lines = p.lines ++ l.0 ∷ [] }) = record {
      memory = kept.memory;
      blocks = kept.blocks;
      lines = one_more_there (both p.memory p.blocks) a.0 p.lines l.0 (known_sizes (sizes_in p) OutOfPlace a.0 a.1) (line_of-there a.0 k words l.0 l.1) kept.lines;
    } in
    subst IsKept made next

after_keyword-kept : (p q : Progress) (k : Keyword) (words : List (List ℕ)) → IsKept p → after_keyword p k words ≡ Ok q
    → IsKept q
unfolding after_keyword
after_keyword-kept p q Memory (word ∷ []) kept h = after_memory-kept p q word kept h
after_keyword-kept p q Blocks (word ∷ []) kept h = after_blocks-kept p q word kept h
after_keyword-kept p q k words kept h = after_body-kept p q k words kept h

counted_keyword-kept : (p q : Progress) (k : Keyword) (words : List (List ℕ)) → IsKept p → counted_keyword p k words ≡ Ok q
    → IsKept q
counted_keyword-kept p q k words kept h =
    let u = steps (count_check (length words) (arguments_of k)) _ q h in
    after_keyword-kept p q k words kept u.2

after_line-kept : (n : ℕ) (p q : Progress) (words : List (List ℕ)) → IsKept p → after_line n p words ≡ Ok q → IsKept q
unfolding after_words
after_line-kept n p q [] kept h = let same : p ≡ q = cc in subst IsKept same kept
after_line-kept n p q (first ∷ words) kept h =
    let k = steps (ok_or (keyword_of first) UnknownWord) _ q h in
    counted_keyword-kept p q k.0 words kept k.2

on_line-right : {A : Type 0} (n : ℕ) (r : Result A FaultKind) (x : A) → on_line n r ≡ Ok x → r ≡ Ok x
on_line-right n (Ok y) x h = cc
on_line-right n (Err kind) x h = cc

after_lines-kept : (n : ℕ) (p q : Progress) (lines : List (List ℕ)) → IsKept p → after_lines after_line n p lines ≡ Ok q → IsKept q
unfolding after_lines
after_lines-kept n p q [] kept h = let same : p ≡ q = cc in subst IsKept same kept
after_lines-kept n p q (line ∷ lines) kept h =
    let a = steps (on_line n (after_line n p (words_of line))) _ q h in
    after_lines-kept (n + 1) a.0 q lines (after_line-kept n p a.0 (words_of line) kept (on_line-right n (after_line n p (words_of line)) a.0 a.1)) a.2

-- ---- the whole script

in_range_of : (memory blocks : Option ℕ) (lines : List LineValue) (sizes : Sizes) → both memory blocks ≡ Some sizes
    → IfSome memory (λ size. is_memory_size size ≡ true) → IfSome blocks (λ count. is_block_count count ≡ true)
    → AreThere (both memory blocks) lines → IsInRange (record { sizes = sizes; lines = lines })
in_range_of (Some m) (Some n) lines sizes e right_m right_n there =
    let same : record { memory = m; blocks = n } ≡ sizes = cc in
    let P : Sizes → Type 0 = λ s. IsInRange (record { sizes = s; lines = lines }) in
    subst P same (record { memory = right_m; blocks = right_n; lines = there })
in_range_of None None lines sizes e right_m right_n there = cc
in_range_of None (Some n) lines sizes e right_m right_n there = cc
in_range_of (Some m) None lines sizes e right_m right_n there = cc

finished-in_range : (n : ℕ) (p : Progress) (script : ScriptValue) → IsKept p → finished n p ≡ Ok script
    → IsInRange script
finished-in_range n p script kept h =
    let a = steps (on_line n (ok_or (sizes_in p) OutOfPlace)) _ script h in
    let known = known_sizes (sizes_in p) OutOfPlace a.0 (on_line-right n (ok_or (sizes_in p) OutOfPlace) a.0 a.1) in
    let made : record { sizes = a.0; lines = p.lines } ≡ script = cc (a.2) in
    subst IsInRange made (in_range_of p.memory p.blocks p.lines a.0 known kept.memory kept.blocks kept.lines)

-- a text that is a script is one in range
pub script_of-in_range : (text : List ℕ) (script : ScriptValue) → script_of text ≡ Ok script → IsInRange script
unfolding script_of script_by
script_of-in_range text script h =
    let a = steps (after_lines after_line 1 nothing (lines_of text)) _ script h in
    let start : IsKept nothing = record { memory = tt; blocks = tt; lines = refl } in
    finished-in_range (length (lines_of text)) a.0 script (after_lines-kept 1 nothing a.0 (lines_of text) start a.1) a.2

-- and so is what was parsed
pub IsInRange-parsed : (text : List ℕ) (r : Result Script ScriptFault)
    → MatchResult r (λ script. script_of text ≡ Ok (script_value script)) (λ e. (e ≡ fault.NoMemory) ⊎ (script_of text ≡ Err e))
    → IfOk r (λ script. IsInRange (script_value script))
IsInRange-parsed text (Ok script) h = script_of-in_range text (script_value script) h
IsInRange-parsed text (Err e) h = tt
