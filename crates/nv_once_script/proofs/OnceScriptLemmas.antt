-- What lines add
use Rattle.std.proofs.Common.{◌≡◌, ℕ, zero, suc, ◌+◌, ◌<◌, ◌≤◌, true, false, ltb, List, [], ◌∷◌, ◌++◌}
use Rattle.std.proofs.Common.{length, drop, Option, Some, None, Result, Ok, Err, refl, sym, ap, ◌∙◌, arith}
use Rattle.std.specs.Option.{is_some, ok_or}
use Rattle.std.specs.Prelude.{map}
use Rattle.std.proofs.lemmas.Bool.Decides.{nat_tests}
use Rattle.std.proofs.lemmas.List.{map-append}
use Rattle.nv_once_script.specs.declared.once.fault.FaultKind.{FaultKind}
use Rattle.nv_once_script.specs.declared.once.fault.FaultKind.TheVariants.{OutOfPlace, MissingWord, TooManyWords}
use Rattle.nv_once_script.specs.declared.once.vocabulary.Keyword.{Keyword}
use Rattle.nv_once_script.specs.declared.once.vocabulary.Keyword.TheVariants.{Memory, Blocks, Store, Fill, Paint, Cmd, Dump, Block, Foreign}
use Rattle.nv_once_script.specs.OnceVocabulary.{arguments_of, count_check}
use Rattle.nv_once_script.specs.OnceSizes.{block_count, memory_size}
use Rattle.nv_once_script.specs.declared.once.fault.LineFault.{LineFault}
use Rattle.nv_once_script.specs.declared.once.fault.LineFault.TheVariants.{Faulty, NoMemory}
use Rattle.nv_once_script.specs.declared.once.line.Line.{Line}
use Rattle.nv_once_script.specs.declared.once.sizes.Sizes.{Sizes}
use Rattle.nv_once_script.specs.OnceFault.{◌>>=◌, Refuses}
use Rattle.nv_once_script.specs.OnceLine.{LineValue, line_of, value_of}
use Rattle.nv_once_script.specs.OnceScript.{Progress, sizes_in, first_time, after_body, after_keyword, counted_keyword}

-- ---- counts

-- the first of what is left, taken
pub drop-next : (xs ys : List (List ℕ)) (x : List ℕ) (n : ℕ) → drop n xs ≡ x ∷ ys
    → (n + 1 ≤ length xs) × (drop (n + 1) xs ≡ ys)
drop-next [] ys x zero e = cc
drop-next [] ys x (suc n) e = cc
drop-next (z ∷ xs) ys x zero e = (omega arith, (cc))
drop-next (z ∷ xs) ys x (suc n) e =
    let rest = drop-next xs ys x n e in
    let one : suc n + 1 ≡ suc (n + 1) = omega arith in
    (omega (arith, rest.0), rw one rest.1)

-- nothing is left
pub drop-last : (xs : List (List ℕ)) (n : ℕ) → n ≤ length xs → drop n xs ≡ [] → length xs ≡ n
drop-last [] zero h e = refl
drop-last [] (suc n) h e = absurd (omega arith)
drop-last (z ∷ xs) zero h e = cc
drop-last (z ∷ xs) (suc n) h e =
    let rest = drop-last xs n (omega arith) e in
    omega (arith, rest)

pub count_check-missing : (found wanted : ℕ) → found < wanted → Err MissingWord ≡ count_check found wanted
count_check-missing found wanted h =
    let test : ltb found wanted ≡ true = grind (arith, nat_tests) in
    rw test refl

pub count_check-many : (found wanted : ℕ) → wanted < found → Err TooManyWords ≡ count_check found wanted
count_check-many found wanted h =
    let under : ltb found wanted ≡ false = grind (arith, nat_tests) in
    let over : ltb wanted found ≡ true = grind (arith, nat_tests) in
    rw (under, over) refl

pub count_check-right : (found wanted : ℕ) → found ≡ wanted → Ok tt ≡ count_check found wanted
count_check-right found wanted h =
    let under : ltb found wanted ≡ false = grind (arith, nat_tests) in
    let over : ltb wanted found ≡ false = grind (arith, nat_tests) in
    rw (under, over) refl

-- ---- the set-up

-- one word
one-word : (words : List (List ℕ)) (word : List ℕ) (rest : List (List ℕ)) → words ≡ word ∷ rest → length words ≡ 1
    → words ≡ word ∷ []
one-word words word [] e h = e
one-word words word (other ∷ rest) e h = absurd (let h' = rw e at h in omega (arith, h'))

late-size : (o : Option ℕ) (size : Result ℕ FaultKind) → is_some o ≡ true → first_time o size ≡ Err OutOfPlace
late-size None size h = cc
late-size (Some before) size h = refl

new-size : (o : Option ℕ) (size : Result ℕ FaultKind) → is_some o ≡ false → first_time o size ≡ size
new-size None size h = refl
new-size (Some before) size h = cc

memory-one : (p : Progress) (word : List ℕ)
    → after_keyword p Memory (word ∷ []) ≡ (first_time p.memory (memory_size word) >>= λ size. Ok (record p { memory = Some size }))
unfolding after_keyword
memory-one p word = refl

blocks-one : (p : Progress) (word : List ℕ)
    → after_keyword p Blocks (word ∷ []) ≡ (first_time p.blocks (block_count word) >>= λ count. Ok (record p { blocks = Some count }))
unfolding after_keyword
blocks-one p word = refl

-- a second size of the memory
pub memory-late : (p : Progress) (k : Keyword) (words : List (List ℕ)) → k ≡ Memory → length words ≡ arguments_of k
    → is_some p.memory ≡ true → after_keyword p k words ≡ Err OutOfPlace
memory-late p k [] e h late = absurd (let h' = rw e at h in omega (arith, h'))
memory-late p k (word ∷ []) e h late = rw (e, memory-one p word, late-size p.memory (memory_size word) late) refl
memory-late p k (word ∷ other ∷ rest) e h late = absurd (let h' = rw e at h in omega (arith, h'))

-- the size of the memory
pub memory-new : (p : Progress) (k : Keyword) (words : List (List ℕ)) (word : List ℕ) (rest : List (List ℕ)) (size : Result ℕ FaultKind)
    → k ≡ Memory → length words ≡ arguments_of k → words ≡ word ∷ rest
    → is_some p.memory ≡ false → size ≡ memory_size word
    → after_keyword p k words ≡ (size >>= λ s. Ok (record p { memory = Some s }))
memory-new p k words word rest size e h w new made =
    let h' = rw e at h in
    rw (one-word words word rest w h', e, memory-one p word, new-size p.memory (memory_size word) new, ← made) refl

-- a second number of blocks
pub blocks-late : (p : Progress) (k : Keyword) (words : List (List ℕ)) → k ≡ Blocks → length words ≡ arguments_of k
    → is_some p.blocks ≡ true → after_keyword p k words ≡ Err OutOfPlace
blocks-late p k [] e h late = absurd (let h' = rw e at h in omega (arith, h'))
blocks-late p k (word ∷ []) e h late = rw (e, blocks-one p word, late-size p.blocks (block_count word) late) refl
blocks-late p k (word ∷ other ∷ rest) e h late = absurd (let h' = rw e at h in omega (arith, h'))

-- the number of blocks
pub blocks-new : (p : Progress) (k : Keyword) (words : List (List ℕ)) (word : List ℕ) (rest : List (List ℕ)) (count : Result ℕ FaultKind)
    → k ≡ Blocks → length words ≡ arguments_of k → words ≡ word ∷ rest
    → is_some p.blocks ≡ false → count ≡ block_count word
    → after_keyword p k words ≡ (count >>= λ n. Ok (record p { blocks = Some n }))
blocks-new p k words word rest count e h w new made =
    let h' = rw e at h in
    rw (one-word words word rest w h', e, blocks-one p word, new-size p.blocks (block_count word) new, ← made) refl

-- ---- behind the set-up

pub after_keyword-body : (p : Progress) (k : Keyword) (words : List (List ℕ)) → (k ≡ Memory → ⊥) → (k ≡ Blocks → ⊥)
    → after_keyword p k words ≡ after_body p k words
unfolding after_keyword
after_keyword-body p Memory words m b = absurd (m refl)
after_keyword-body p Blocks words m b = absurd (b refl)
after_keyword-body p Store words m b = refl
after_keyword-body p Fill words m b = refl
after_keyword-body p Paint words m b = refl
after_keyword-body p Cmd words m b = refl
after_keyword-body p Dump words m b = refl
after_keyword-body p Block words m b = refl
after_keyword-body p (Foreign n) words m b = refl

-- ---- a line

-- words that are too few or too many
pub counted_keyword-wrong : (p : Progress) (k : Keyword) (words : List (List ℕ)) (kind : FaultKind)
    → count_check (length words) (arguments_of k) ≡ Err kind → counted_keyword p k words ≡ Err kind
counted_keyword-wrong p k words kind wrong = rw wrong refl

-- and as many as are wanted
pub counted_keyword-right : (p : Progress) (k : Keyword) (words : List (List ℕ)) (u : Unit {0})
    → count_check (length words) (arguments_of k) ≡ Ok u → counted_keyword p k words ≡ after_keyword p k words
counted_keyword-right p k words u right = rw right refl

-- ---- refusals

refuses-step : {A B : Type 0} (answer : Result A FaultKind) (g : A → Result B FaultKind) (refusal : LineFault)
    → Refuses answer refusal → Refuses (answer >>= g) refusal
refuses-step answer g (Faulty kind) h = rw h refl
refuses-step answer g NoMemory h = tt

-- a line before the set-up is whole
pub body-unset : (p : Progress) (k : Keyword) (words : List (List ℕ)) (kind : FaultKind) → (k ≡ Memory → ⊥)
    → (k ≡ Blocks → ⊥)
    → ok_or (sizes_in p) OutOfPlace ≡ Err kind → after_keyword p k words ≡ Err kind
body-unset p k words kind m b unset = after_keyword-body p k words m b ∙ rw unset refl

-- a line that is refused
pub body-refused : (p : Progress) (k : Keyword) (words : List (List ℕ)) (sizes : Sizes) (refusal : LineFault)
    → (k ≡ Memory → ⊥) → (k ≡ Blocks → ⊥)
    → ok_or (sizes_in p) OutOfPlace ≡ Ok sizes → Refuses (line_of sizes k words) refusal
    → Refuses (after_keyword p k words) refusal
body-refused p k words sizes refusal m b set h =
    rw (after_keyword-body p k words m b, set) (refuses-step (line_of sizes k words) _ refusal h)

-- a line that is read
pub body-read : (p : Progress) (k : Keyword) (words : List (List ℕ)) (sizes : Sizes) (old new : List Line) (line : Line)
    → (k ≡ Memory → ⊥) → (k ≡ Blocks → ⊥)
    → ok_or (sizes_in p) OutOfPlace ≡ Ok sizes → line_of sizes k words ≡ Ok (value_of line) → p.lines ≡ map value_of old
    → new ≡ old ++ line ∷ []
    → after_keyword p k words ≡ Ok (record p { lines = map value_of new })
body-read p k words sizes old new line m b set made before after =
    let pushed : p.lines ++ value_of line ∷ [] ≡ map value_of new =
    sym (ap (map value_of) after ∙ map-append value_of old (line ∷ []) ∙ ap (λ (xs : List LineValue). xs ++ value_of line ∷ []) (sym before)) in
    after_keyword-body p k words m b
    ∙ rw (set, made) (ap (λ (xs : List LineValue). Ok (record p { lines = xs })) pushed)
