-- What is asked for of a list that was built: bytes of its page alone, whatever they are.
use Rattle.std.proofs.Common.{◌≡◌, ℕ, zero, suc, ◌+◌, ◌-◌, ◌*◌, ◌%◌, ◌≤◌, min, Bool, true, false, cond, ◌&&◌, ◌==◌, nat_lt, List, [], ◌∷◌, ◌++◌, length, All}
use Rattle.std.proofs.Common.{Option, Some, None, arith, refl, sym, ap, ◌∙◌, subst}
use Rattle.std.proofs.lemmas.Bool.Decides.{nat_tests}
use Rattle.std.proofs.lemmas.List.Elements.{All-cons, All-nil}
use Rattle.std.specs.List.{filter}
use Rattle.nv_entry.specs.Layout.{number_at}
use Rattle.nv_entry.specs.declared.status_code.StatusCode.{StatusCode}
use Rattle.nv_mem.specs.declared.piece.Piece.{Piece}
use Rattle.nv_model.specs.Dialogue.{Ask, Dialogue, End, and_then, asked, in_memory}
use Rattle.nv_model.specs.Limits.{page}
use Rattle.nv_model.specs.Memory.{bytes_from}
use Rattle.nv_model.specs.Prp.{entry_fault, first_len, pages_of, read_entries, read_prp, read_prp2, slots_of}
use Rattle.nv_model.specs.Reading.{Reading, run, unless_faulty}
use Rattle.nv_prp.proofs.Cursors.{read_prp2-list}
use Rattle.nv_prp.proofs.Pages.{Paged-fit, both, room_from}
use Rattle.nv_prp.specs.Built.{built, prp2_by, starts_page}
use Rattle.nv_prp.specs.Fits.{fit_behind, fit_prp, may_follow}

abbrev all : ℕ → Bool
all = λ _. true

-- a question is for bytes of a page
abbrev pub InPage : (list : ℕ) → ℕ × ℕ → Type 0
InPage list s = (list ≤ s.0) × (s.0 + s.1 ≤ list + page)

-- one dialogue behind another
pub asked-and_then : {A B : Type 0} (memory : ℕ → ℕ) (d : Dialogue A) (more : A → Dialogue B)
    → asked memory (and_then d more) ≡ asked memory d ++ asked memory (more (in_memory memory d))
unfolding asked in_memory and_then
asked-and_then memory (End value) more = refl
asked-and_then memory (Ask addr unit left next) more =
    ap (λ (xs : List (ℕ × ℕ)). (addr, unit) ∷ xs) (asked-and_then memory (next (bytes_from memory addr unit)) more)

-- a list that is refused is asked for no further
asked-unless : (P : ℕ × ℕ → Type 0) (memory : ℕ → ℕ) (fault : Option StatusCode) (d : Dialogue Reading) → All P (asked memory d) → All P (asked memory (unless_faulty fault d))
unfolding asked
asked-unless P memory None d each = each
asked-unless P memory (Some code) d each = All-nil P

when-false : {A : Type 0} (P : A → Type 0) (b : Bool) (x y : A) → b ≡ false → P y → P (cond b x y)
when-false P false x y is holds = holds
when-false P true x y is holds = cc

no_pointer : (slots more : ℕ) → suc more ≤ slots → (slots == 1 && nat_lt 0 more) ≡ false
no_pointer slots more fits = grind (arith, nat_tests)

-- the entries of a list that has a slot for each
asked-entries : (memory : ℕ → ℕ) (list pages slots from bytes : ℕ) (pieces : List Piece) → pages ≤ slots → list ≤ from → from + 8 * pages ≤ list + page
    → All (InPage list) (asked memory (read_entries all pages slots from bytes pieces))
unfolding asked read_entries
asked-entries memory list zero slots from bytes pieces fits low high = All-nil (InPage list)
asked-entries memory list (suc pages) slots from bytes pieces fits low high =
    when-false (λ (d : Dialogue Reading). All (InPage list) (asked memory d)) (slots == 1 && nat_lt 0 pages) _ _ (no_pointer slots pages fits)
    (All-cons (InPage list) (from, 8) _ (low, omega (arith, high))
    (asked-unless (InPage list) memory (entry_fault all page (number_at (bytes_from memory from 8) 0 8) (min bytes page)) _
    (asked-entries memory list pages (slots - 1) (from + 8) (bytes - page) (pieces ++ run (number_at (bytes_from memory from 8) 0 8) (min bytes page)) (omega (arith, fits))
    (omega (arith, low)) (omega (arith, high)))))

asked-prp2 : (memory : ℕ → ℕ) (list pages : ℕ) (entries : List ℕ) (bytes : ℕ) (pieces : List Piece) → pages ≡ length entries → length entries ≤ 512
    → list % 4096 ≡ 0 → All (InPage list) (asked memory (read_prp2 all pages (prp2_by list entries) bytes pieces))
unfolding asked
asked-prp2 memory list pages [] bytes pieces count fits starts =
    subst (λ (n : ℕ). All (InPage list) (asked memory (read_prp2 all n 0 bytes pieces))) (sym count) (All-nil (InPage list))
asked-prp2 memory list pages (entry ∷ []) bytes pieces count fits starts =
    subst (λ (n : ℕ). All (InPage list) (asked memory (read_prp2 all n entry bytes pieces))) (sym count)
    (asked-unless (InPage list) memory (entry_fault all page entry (min bytes page)) _ (All-nil (InPage list)))
asked-prp2 memory list pages (entry ∷ next ∷ entries) bytes pieces count fits starts =
    let n : ℕ = length (entry ∷ next ∷ entries) in
    let slots : slots_of list ≡ 512 = omega arith in
    subst (λ (k : ℕ). All (InPage list) (asked memory (read_prp2 all k list bytes pieces))) (sym count)
    (subst (λ (d : Dialogue Reading). All (InPage list) (asked memory d)) (sym (read_prp2-list all (length (entry ∷ next ∷ entries)) list bytes pieces (omega arith)))
    (asked-unless (InPage list) memory (entry_fault all 8 list (8 * min (slots_of list) n)) (read_entries all n (slots_of list) list bytes pieces)
    (asked-entries memory list n (slots_of list) list bytes pieces (omega (arith, slots, fits)) (omega arith) (omega (arith, fits)))))

asked-some : (memory : ℕ → ℕ) (list addr : ℕ) (addresses : List ℕ) → fit_behind None (addr ∷ addresses) ≡ true → suc (length addresses) ≤ 131072 → list % 4096 ≡ 0
    → All (InPage list) (asked memory (read_prp all addr (prp2_by list (filter starts_page addresses)) (suc (length addresses))))
unfolding fit_behind
asked-some memory list addr addresses fit most starts =
    let es : List ℕ = filter starts_page addresses in
    let n : ℕ = suc (length addresses) in
    let first : ℕ = first_len addr n in
    let parts = both (may_follow None addr) (fit_behind (Some (addr + 1)) addresses) fit in
    let count = (Paged-fit (addr + 1) addresses parts.1).count in
    let left : n - first ≡ length addresses - room_from (addr + 1) = omega arith in
    let pages : pages_of (n - first) ≡ length es = ap (λ (k : ℕ). pages_of k) left ∙ sym count in
    let few : length es ≤ 512 = omega (arith, count, most) in
    asked-unless (InPage list) memory (entry_fault all 4 addr first) _
    (asked-prp2 memory list (pages_of (n - first)) es (n - first) (run addr first) pages few starts)

-- so it is of addresses that PRP can name
pub asked-built : (memory : ℕ → ℕ) (list : ℕ) (addresses : List ℕ) → (addresses ≡ [] → ⊥) → fit_prp addresses ≡ true → length addresses ≤ 131072 → list % 4096 ≡ 0
    → All (InPage list) (asked memory (read_prp all (built list addresses).prp1 (built list addresses).prp2 (length addresses)))
unfolding built
asked-built memory list [] some fit most starts = absurd (some refl)
asked-built memory list (addr ∷ addresses) some fit most starts = asked-some memory list addr addresses fit most starts
