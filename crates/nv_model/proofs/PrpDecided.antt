-- The first faulty entry of a transfer by physical region pages decides.
use Rattle.std.proofs.Common.{◌≡◌, ℕ, zero, suc, ◌+◌, ◌-◌, ◌*◌, ◌/◌, ◌%◌, ◌<◌, ◌≤◌}
use Rattle.std.proofs.Common.{min, Bool, true, false, cond, not, ◌&&◌, ◌==◌, nat_le, nat_lt, List, []}
use Rattle.std.proofs.Common.{◌∷◌, ◌++◌, All, Option, Some, None, slice_get, take, arith, refl, sym, ap, ◌∙◌, subst, eqb-true, ltb-true, eq-or-lt_of_le, inl}
use Rattle.std.proofs.Common.{inr}
use Rattle.std.proofs.lemmas.Bool.{cases_lt}
use Rattle.std.proofs.lemmas.Bool.Decides.{nat_tests}
use Rattle.std.proofs.lemmas.List.Elements.{All-head, All-tail}
use Rattle.nv_entry.specs.Layout.{number_at}
use Rattle.nv_entry.specs.declared.status_code.StatusCode.{StatusCode}
use Rattle.nv_entry.specs.declared.status_code.StatusCode.TheVariants.{DataTransferError, PrpOffsetInvalid}
use Rattle.nv_mem.specs.GuestMap.{everywhere}
use Rattle.nv_mem.specs.declared.piece.Piece.{Piece}
use Rattle.nv_model.specs.Dialogue.{Dialogue, End, Ask, in_memory}
use Rattle.nv_model.specs.Reading.{Reading, Faulty, Spells, first_failing, run, unless_faulty}
use Rattle.nv_model.specs.Prp.{entry_fault, first_len, pages_of, read_entries, read_page, read_prp, read_prp2, slots_of}
use Rattle.nv_model.specs.Limits.{page}
use Rattle.nv_model.specs.PrpAddresses.{last_page, slot_at}
use Rattle.nv_model.specs.PrpEntries.{IsFaultlessEntry, PrpEntry, entries_at, entries_behind, entry_fault_of, list_entries, list_pointer, page_entry, transfer_entries}
use Rattle.nv_model.proofs.Endings.{and-true}
use Rattle.nv_model.proofs.Asking.{entry_fault-mapped}
use Rattle.nv_model.proofs.PrpAddressed.{IsNextSlot, alone, last_page-counts, many}
use Rattle.nv_model.proofs.SglSequenced.{unless}

-- ---- entries in a row

-- the reading, where these decide first
abbrev decided : (ℕ → Bool) → List PrpEntry → Reading → Reading
decided mapped [] more = more
decided mapped (e ∷ es) more = unless (entry_fault_of mapped e) (decided mapped es more)

-- the first with a fault decides
decided-faulty : (mapped : ℕ → Bool) (es : List PrpEntry) (more : Reading) (i : ℕ) (e : PrpEntry) (code : StatusCode)
    → slice_get es i ≡ Some e → entry_fault_of mapped e ≡ Some code → All (IsFaultlessEntry mapped) (take i es)
    → decided mapped es more ≡ Faulty code
decided-faulty mapped [] more i e code at is before = cc
decided-faulty mapped (first ∷ es) more zero e code at is before =
    let same : first ≡ e = cc in
    ap (λ (c : Option StatusCode). unless c (decided mapped es more)) (ap (entry_fault_of mapped) same ∙ is)
decided-faulty mapped (first ∷ es) more (suc i) e code at is before =
    let fine = All-head (IsFaultlessEntry mapped) first _ before in
    ap (λ (c : Option StatusCode). unless c (decided mapped es more)) fine
    ∙ decided-faulty mapped es more i e code at is (All-tail (IsFaultlessEntry mapped) first _ before)

-- and none without a fault
decided-fine : (mapped : ℕ → Bool) (es : List PrpEntry) (more : Reading) → All (IsFaultlessEntry mapped) es
    → decided mapped es more ≡ more
decided-fine mapped [] more each = refl
decided-fine mapped (first ∷ es) more each =
    let fine = All-head (IsFaultlessEntry mapped) first es each in
    ap (λ (c : Option StatusCode). unless c (decided mapped es more)) fine
    ∙ decided-fine mapped es more (All-tail (IsFaultlessEntry mapped) first es each)

-- ---- a list

-- a list by a test
if-true : (b : Bool) (x y : List PrpEntry) → b ≡ true → cond b x y ≡ x
if-true b x y is = rw is refl

if-false : (b : Bool) (x y : List PrpEntry) → b ≡ false → cond b x y ≡ y
if-false b x y is = rw is refl

-- entries that stand before the last slot of a page, and those that it points to
list_entries-past : (memory : ℕ → ℕ) (times pointer entries bytes here : ℕ) → here ≡ slots_of pointer - 1
    → slots_of pointer < entries
    → list_entries memory (suc times) pointer entries bytes
    ≡ entries_at memory pointer here bytes
    ++ list_pointer page (slot_at memory (pointer + 8 * here)) (entries - here)
    ∷ list_entries memory times (slot_at memory (pointer + 8 * here)) (entries - here) (bytes - page * here)
unfolding list_entries
list_entries-past memory times pointer entries bytes here is more =
    let no : nat_le entries (slots_of pointer) ≡ false = grind (arith, nat_tests) in
    if-false (nat_le entries (slots_of pointer)) (entries_at memory pointer entries bytes) _ no
    ∙ ap (λ (h : ℕ). entries_at memory pointer h bytes
    ++ list_pointer page (slot_at memory (pointer + 8 * h)) (entries - h)
    ∷ list_entries memory times (slot_at memory (pointer + 8 * h)) (entries - h) (bytes - page * h)) (sym is)

-- entries that all stand on the pointer's page
list_entries-all : (memory : ℕ → ℕ) (times pointer entries bytes : ℕ) → entries ≤ slots_of pointer
    → list_entries memory times pointer entries bytes ≡ entries_at memory pointer entries bytes
unfolding list_entries
list_entries-all memory zero pointer entries bytes few = refl
list_entries-all memory (suc times) pointer entries bytes few =
    let yes' : nat_le entries (slots_of pointer) ≡ true = grind (arith, nat_tests) in
    if-true (nat_le entries (slots_of pointer)) (entries_at memory pointer entries bytes) _ yes'

-- the first entry of a list stands at its pointer, but for one slot where more are to come
list_entries-first : (memory : ℕ → ℕ) (times pointer entries bytes : ℕ) → 0 < slots_of pointer
    → (slots_of pointer ≡ 1 → entries ≡ 0)
    → list_entries memory times pointer (suc entries) bytes ≡ page_entry (slot_at memory pointer) bytes ∷ list_entries memory times (pointer + 8) entries (bytes - page)
unfolding list_entries entries_at
list_entries-first memory zero pointer entries bytes some one = refl
list_entries-first memory (suc times) pointer entries bytes some one =
    elim (cases_lt (slots_of pointer) (suc entries)) [
      | inl past ↦
          let two : 1 < slots_of pointer = several (slots_of pointer) entries some one past in
          let k : ℕ = slots_of (pointer + 8) - 1 in
          let at : pointer + 8 * suc k ≡ pointer + 8 + 8 * k = omega arith in
          let left : suc entries - suc k ≡ entries - k = omega arith in
          let size : bytes - page * suc k ≡ bytes - page - page * k = omega arith in
          let behind : (a n b : ℕ) → List PrpEntry = λ a n b. list_pointer page (slot_at memory a) n ∷ list_entries memory times (slot_at memory a) n b in
          list_entries-past memory times pointer (suc entries) bytes (suc k) (omega arith) past
          ∙ ap (λ (es : List PrpEntry). page_entry (slot_at memory pointer) bytes ∷ entries_at memory (pointer + 8) k (bytes - page) ++ es)
          (ap (λ (a : ℕ). behind a (suc entries - suc k) (bytes - page * suc k)) at
          ∙ ap (λ (n : ℕ). behind (pointer + 8 + 8 * k) n (bytes - page * suc k)) left
          ∙ ap (λ (b : ℕ). behind (pointer + 8 + 8 * k) (entries - k) b) size)
          ∙ ap (λ (es : List PrpEntry). page_entry (slot_at memory pointer) bytes ∷ es)
          (sym (list_entries-past memory times (pointer + 8) entries (bytes - page) k refl (omega arith)))
      | inr all ↦
          let few : entries ≤ slots_of (pointer + 8) = fits (slots_of pointer) entries (slots_of (pointer + 8)) some one (omega arith) (λ two. omega arith) in
          list_entries-all memory (suc times) pointer (suc entries) bytes all
          ∙ ap (λ (es : List PrpEntry). page_entry (slot_at memory pointer) bytes ∷ es)
          (sym (list_entries-all memory (suc times) (pointer + 8) entries (bytes - page) few))
    ]
  where
    several : (slots entries : ℕ) → 0 < slots → (slots ≡ 1 → entries ≡ 0) → slots < suc entries → 1 < slots
    several slots entries some one past =
        (elim (eq-or-lt_of_le some) [ inl single ↦ (let none = one (sym single) in absurd (omega arith)) | inr two ↦ two ])

    fits : (slots entries fewer : ℕ) → 0 < slots → (slots ≡ 1 → entries ≡ 0) → suc entries ≤ slots
        → (1 < slots → slots ≡ suc fewer) → entries ≤ fewer
    fits slots entries fewer some one all less =
        (elim (eq-or-lt_of_le some) [ inl single ↦ (let none = one (sym single) in omega arith) | inr two ↦ (let same = less two in omega arith) ])

-- the last slot of a page points to the others
list_entries-behind : (memory : ℕ → ℕ) (times pointer entries bytes : ℕ) → slots_of pointer ≡ 1 → 1 < entries
    → list_entries memory (suc times) pointer entries bytes
    ≡ list_pointer page (slot_at memory pointer) entries ∷ list_entries memory times (slot_at memory pointer) entries bytes
unfolding entries_at
list_entries-behind memory times pointer entries bytes one more =
    let here : pointer + 8 * 0 ≡ pointer = omega arith in
    let left : entries - 0 ≡ entries = omega arith in
    let size : bytes - page * 0 ≡ bytes = omega arith in
    let behind : (a n b : ℕ) → List PrpEntry = λ a n b. list_pointer page (slot_at memory a) n ∷ list_entries memory times (slot_at memory a) n b in
    list_entries-past memory times pointer entries bytes 0 (omega arith) (omega arith)
    ∙ ap (λ (a : ℕ). behind a (entries - 0) (bytes - page * 0)) here
    ∙ ap (λ (n : ℕ). behind pointer n (bytes - page * 0)) left
    ∙ ap (λ (b : ℕ). behind pointer entries b) size

-- ---- what is read

-- these entries decide a reading: some pieces are spelled where none has a fault
abbrev Decide : (ℕ → Bool) → List PrpEntry → Reading → Type 0
Decide mapped es reading = (out : List Piece) × (reading ≡ decided mapped es (Spells out))

-- a check of an entry, and what follows
unless_faulty-decided : (mapped : ℕ → Bool) (memory : ℕ → ℕ) (e : PrpEntry) (es : List PrpEntry) (more : Dialogue Reading)
    → (entry_fault_of mapped e ≡ None → Decide mapped es (in_memory memory more))
    → Decide mapped (e ∷ es) (in_memory memory (unless_faulty (entry_fault_of mapped e) more))
unfolding in_memory
unless_faulty-decided mapped memory e es more goes =
    (elim (entry_fault_of mapped e) as (λ o. entry_fault_of mapped e ≡ o
    → (out : List Piece) × (in_memory memory (unless_faulty o more) ≡ unless o (decided mapped es (Spells out)))) [
      | Some code ↦ λ is. ([], refl)
      | None ↦ λ is. goes is
    ]) refl

-- the same entries
Decide-same : (mapped : ℕ → Bool) (es fs : List PrpEntry) (reading : Reading) → es ≡ fs → Decide mapped fs reading
    → Decide mapped es reading
Decide-same mapped es fs reading same so = subst (λ (gs : List PrpEntry). Decide mapped gs reading) (sym same) so

-- a dialogue that goes by a test
Decide-if : (mapped : ℕ → Bool) (memory : ℕ → ℕ) (es : List PrpEntry) (b : Bool) (x y : Dialogue Reading)
    → (b ≡ true → Decide mapped es (in_memory memory x)) → (b ≡ false → Decide mapped es (in_memory memory y))
    → Decide mapped es (in_memory memory (cond b x y))
Decide-if mapped memory es true x y so not_so = so refl
Decide-if mapped memory es false x y so not_so = not_so refl

-- a list pointer that is not a page's start has the same fault, whatever is needed there
pointer_fault : (mapped : ℕ → Bool) (addr n : ℕ)
    → entry_fault mapped page addr (8 * min (page / 8) n) ≡ entry_fault_of mapped (list_pointer page addr n)
pointer_fault mapped addr n =
    (elim (addr % page == 0) as (λ b. (addr % page == 0) ≡ b
    → cond (not b) (Some PrpOffsetInvalid) (first_failing ((not (everywhere mapped addr (8 * min (page / 8) n)), DataTransferError) ∷ []))
    ≡ cond (not b) (Some PrpOffsetInvalid) (first_failing ((not (everywhere mapped addr (8 * min (slots_of addr) n)), DataTransferError) ∷ []))) [
      | true ↦ λ is.
          let aligned : addr % page ≡ 0 = eqb-true (addr % page) 0 is in
          let full : page / 8 ≡ slots_of addr = omega arith in
          ap (λ (s : ℕ). first_failing ((not (everywhere mapped addr (8 * min s n)), DataTransferError) ∷ [])) full
      | false ↦ λ is. refl
    ]) refl

-- the entries of the last pages
read_entries-decided : (mapped : ℕ → Bool) (memory : ℕ → ℕ) (times pages slots from bytes : ℕ) (pieces : List Piece)
    → IsNextSlot times pages slots from
    → Decide mapped (list_entries memory times from pages bytes) (in_memory memory (read_entries mapped pages slots from bytes pieces))
unfolding read_entries in_memory entries_at
read_entries-decided mapped memory times zero slots from bytes pieces next =
    Decide-same mapped _ [] (Spells pieces) (list_entries-all memory times from 0 bytes (omega arith)) (pieces, refl)
read_entries-decided mapped memory times (suc pages) slots from bytes pieces next =
    Decide-if mapped memory (list_entries memory times from (suc pages) bytes) (slots == 1 && nat_lt 0 pages) _ _
    (λ is.
    let both = and-true (slots == 1) (nat_lt 0 pages) is in
    let one : slots ≡ 1 = eqb-true slots 1 both.0 in
    let some : 0 < pages = ltb-true 0 pages both.1 in
    let from_one : slots_of from ≡ 1 = sym (next.counted (omega arith)) ∙ one in
    let enough = next.last one (omega arith) in
    let more : times ≡ suc (times - 1) = omega arith in
    let pointer : ℕ = slot_at memory from in
    let needed : ℕ = 8 * min (page / 8) (suc pages) in
    let follow : List Piece → Dialogue Reading = λ ps. read_entries mapped pages (page / 8 - 1) (pointer + 8) (bytes - page) ps in
    let behind : Dialogue Reading = Ask pointer 8 needed (λ entry. read_page mapped bytes pieces follow (number_at entry 0 8)) in
    Decide-same mapped _ (list_pointer page pointer (suc pages) ∷ list_entries memory (times - 1) pointer (suc pages) bytes) _
    (ap (λ (t : ℕ). list_entries memory t from (suc pages) bytes) more ∙ list_entries-behind memory (times - 1) from (suc pages) bytes from_one (omega arith))
    (subst (λ (o : Option StatusCode). Decide mapped (list_pointer page pointer (suc pages) ∷ list_entries memory (times - 1) pointer (suc pages) bytes) (in_memory memory (unless_faulty o behind)))
    (sym (pointer_fault mapped pointer (suc pages)))
    (unless_faulty-decided mapped memory (list_pointer page pointer (suc pages)) (list_entries memory (times - 1) pointer (suc pages) bytes) behind
    (λ fine.
    let aligned : pointer % 4096 ≡ 0 = (entry_fault-mapped mapped page pointer (8 * min (slots_of pointer) (suc pages)) fine).0 in
    Decide-same mapped _ (page_entry (slot_at memory pointer) bytes ∷ list_entries memory (times - 1) (pointer + 8) pages (bytes - page)) _
    (list_entries-first memory (times - 1) pointer pages bytes (omega arith) (λ single. absurd (omega arith)))
    (unless_faulty-decided mapped memory (page_entry (slot_at memory pointer) bytes) (list_entries memory (times - 1) (pointer + 8) pages (bytes - page))
    (follow (pieces ++ run (slot_at memory pointer) (min bytes page)))
    (λ _. read_entries-decided mapped memory (times - 1) pages (page / 8 - 1) (pointer + 8) (bytes - page) (pieces ++ run (slot_at memory pointer) (min bytes page))
    (record { counted = λ _. omega arith; some = λ _. omega arith; enough = omega arith; last = λ single. absurd (omega arith) })))))))
    (λ is.
    let counted = next.counted (omega arith) in
    let some = next.some (omega arith) in
    let enough = next.enough in
    let follow : List Piece → Dialogue Reading = λ ps. read_entries mapped pages (slots - 1) (from + 8) (bytes - page) ps in
    Decide-same mapped _ (page_entry (slot_at memory from) bytes ∷ list_entries memory times (from + 8) pages (bytes - page)) _
    (list_entries-first memory times from pages bytes (omega arith) (λ one. alone slots pages is (omega arith)))
    (unless_faulty-decided mapped memory (page_entry (slot_at memory from) bytes) (list_entries memory times (from + 8) pages (bytes - page))
    (follow (pieces ++ run (slot_at memory from) (min bytes page)))
    (λ _. read_entries-decided mapped memory times pages (slots - 1) (from + 8) (bytes - page) (pieces ++ run (slot_at memory from) (min bytes page))
    (record {
      counted = λ left. let two = many slots pages _ is some left counted in omega arith;
      some = λ left. let two = many slots pages _ is some left counted in omega arith;
      enough = omega arith;
      last = λ single left. omega arith;
    }))))

-- the pages behind PRP1's
read_prp2-decided : (mapped : ℕ → Bool) (memory : ℕ → ℕ) (pages prp2 bytes : ℕ) (pieces : List Piece)
    → Decide mapped (entries_behind memory prp2 pages bytes) (in_memory memory (read_prp2 mapped pages prp2 bytes pieces))
unfolding in_memory
read_prp2-decided mapped memory zero prp2 bytes pieces = (pieces, refl)
read_prp2-decided mapped memory (suc zero) prp2 bytes pieces =
    unless_faulty-decided mapped memory (page_entry prp2 bytes) [] (End (Spells (pieces ++ run prp2 (min bytes page)))) (λ _. (pieces ++ run prp2 (min bytes page), refl))
read_prp2-decided mapped memory (suc (suc pages)) prp2 bytes pieces =
    let n : ℕ = suc (suc pages) in
    let some : (n == 0) ≡ false = grind (arith, nat_tests) in
    let more : (n == 1) ≡ false = grind (arith, nat_tests) in
    Decide-same mapped _ (list_pointer 8 prp2 n ∷ list_entries memory n prp2 n bytes) _ (if-false (n == 0) [] _ some ∙ if-false (n == 1) (page_entry prp2 bytes ∷ []) _ more)
    (unless_faulty-decided mapped memory (list_pointer 8 prp2 n) (list_entries memory n prp2 n bytes) (read_entries mapped n (slots_of prp2) prp2 bytes pieces)
    (λ fine.
    let aligned : prp2 % 8 ≡ 0 = (entry_fault-mapped mapped 8 prp2 (8 * min (slots_of prp2) n) fine).0 in
    read_entries-decided mapped memory n n (slots_of prp2) prp2 bytes pieces
    (record { counted = λ _. refl; some = λ _. omega arith; enough = omega arith; last = λ _ _. omega arith })))

-- all of a transfer
read_prp-decided : (mapped : ℕ → Bool) (memory : ℕ → ℕ) (prp1 prp2 len : ℕ) → 0 < len
    → Decide mapped (transfer_entries memory prp1 prp2 len) (in_memory memory (read_prp mapped prp1 prp2 len))
read_prp-decided mapped memory prp1 prp2 len some =
    let first = first_len prp1 len in
    let e : PrpEntry = record { alignment = 4; addr = prp1; needed = first } in
    let last = last_page-counts prp1 len some in
    unless_faulty-decided mapped memory e (entries_behind memory prp2 (last_page prp1 len) (len - first)) (read_prp2 mapped (pages_of (len - first)) prp2 (len - first) (run prp1 first))
    (λ _. subst (λ (n : ℕ). Decide mapped (entries_behind memory prp2 n (len - first)) (in_memory memory (read_prp2 mapped (pages_of (len - first)) prp2 (len - first) (run prp1 first)))) last
    (read_prp2-decided mapped memory (pages_of (len - first)) prp2 (len - first) (run prp1 first)))

-- ---- the laws

pub read_prp-faulty : (mapped : ℕ → Bool) (memory : ℕ → ℕ) (prp1 prp2 len i : ℕ) (e : PrpEntry) (code : StatusCode)
    → 0 < len
    → slice_get (transfer_entries memory prp1 prp2 len) i ≡ Some e → entry_fault_of mapped e ≡ Some code
    → All (IsFaultlessEntry mapped) (take i (transfer_entries memory prp1 prp2 len))
    → in_memory memory (read_prp mapped prp1 prp2 len) ≡ Faulty code
read_prp-faulty mapped memory prp1 prp2 len i e code some at is before =
    let both = read_prp-decided mapped memory prp1 prp2 len some in
    both.1 ∙ decided-faulty mapped (transfer_entries memory prp1 prp2 len) (Spells both.0) i e code at is before

pub read_prp-spells : (mapped : ℕ → Bool) (memory : ℕ → ℕ) (prp1 prp2 len : ℕ) → 0 < len
    → All (IsFaultlessEntry mapped) (transfer_entries memory prp1 prp2 len)
    → (pieces : List Piece) × (in_memory memory (read_prp mapped prp1 prp2 len) ≡ Spells pieces)
read_prp-spells mapped memory prp1 prp2 len some each =
    let both = read_prp-decided mapped memory prp1 prp2 len some in
    (both.0, both.1 ∙ decided-fine mapped (transfer_entries memory prp1 prp2 len) (Spells both.0) each)
