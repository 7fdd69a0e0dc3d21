-- Each byte of a transfer by physical region pages lies where the entry of its page says.
use Rattle.std.proofs.Common.{◌≡◌, ℕ, zero, suc, ◌+◌, ◌-◌, ◌*◌, ◌/◌, ◌%◌, ◌<◌, ◌≤◌}
use Rattle.std.proofs.Common.{min, Bool, true, false, cond, ◌&&◌, ◌||◌, ◌==◌, nat_le, nat_lt, List, []}
use Rattle.std.proofs.Common.{◌∷◌, ◌++◌, Option, Some, None, slice_get, arith, refl, sym, ap, ◌∙◌, eqb-true, ltb-true, append_assoc, append-nil, eq-or-lt_of_le}
use Rattle.std.proofs.Common.{inl, inr}
use Rattle.std.proofs.lemmas.Bool.{cases_lt}
use Rattle.std.proofs.lemmas.Bool.Decides.{nat_tests}
use Rattle.std.proofs.lemmas.Grind.{flat_map-append}
use Rattle.nv_entry.specs.Layout.{number_at}
use Rattle.nv_entry.specs.declared.status_code.StatusCode.{StatusCode}
use Rattle.nv_mem.specs.Places.{Place, At, addresses, places_of, places_of_piece}
use Rattle.nv_mem.specs.declared.piece.Piece.{Piece}
use Rattle.nv_mem.specs.declared.piece.Piece.TheVariants.{Run}
use Rattle.nv_model.specs.Dialogue.{Dialogue, End, Ask, in_memory}
use Rattle.nv_model.specs.Reading.{Reading, Spells, run, unless_faulty}
use Rattle.nv_model.specs.Prp.{entry_fault, first_len, pages_of, read_entries, read_page, read_prp, read_prp2, slots_of}
use Rattle.nv_model.specs.Limits.{page}
use Rattle.nv_model.specs.PrpAddresses.{byte_address, entry_of, last_page, slot_at, slot_of}
use Rattle.nv_model.proofs.Endings.{and-true}
use Rattle.nv_model.proofs.Spelled.{pages_of-fit}
use Rattle.nv_model.proofs.Asking.{entry_fault-mapped}

-- ---- places of runs

-- the places of a run are its addresses
places_of-run : (addr len : ℕ) → places_of (run addr len) ≡ addresses addr len
unfolding addresses
places_of-run addr len =
    (elim (len == 0) as (λ b. (len == 0) ≡ b → places_of (cond b [] (Run addr len ∷ [])) ≡ addresses addr len) [
      | true ↦ λ is. ap (λ (n : ℕ). addresses addr n) (sym (eqb-true len 0 is))
      | false ↦ λ is. append-nil (addresses addr len)
    ]) refl

-- the places of two lists of pieces
places_of-append : (ps qs : List Piece) → places_of (ps ++ qs) ≡ places_of ps ++ places_of qs
places_of-append ps qs = flat_map-append places_of_piece ps qs

-- a place in a run of addresses
addresses-at : (addr len i : ℕ) (rest : List Place) → i < len
    → slice_get (addresses addr len ++ rest) i ≡ Some (At (addr + i))
unfolding addresses
addresses-at addr zero i rest below = absurd (omega arith)
addresses-at addr (suc len) zero rest below =
    let here : addr ≡ addr + 0 = omega arith in ap (λ (a : ℕ). Some (At a)) here
addresses-at addr (suc len) (suc i) rest below =
    let next : addr + 1 + i ≡ addr + suc i = omega arith in
    addresses-at (addr + 1) len i rest (omega arith) ∙ ap (λ (a : ℕ). Some (At a)) next

-- a place behind it
addresses-behind : (addr len i : ℕ) (rest : List Place)
    → slice_get (addresses addr len ++ rest) (len + i) ≡ slice_get rest i
unfolding addresses
addresses-behind addr zero i rest = let same : 0 + i ≡ i = omega arith in ap (slice_get rest) same
addresses-behind addr (suc len) i rest =
    let more : suc len + i ≡ suc (len + i) = omega arith in
    ap (slice_get (addresses addr (suc len) ++ rest)) more ∙ addresses-behind (addr + 1) len i rest

-- ---- runs of pages

-- the runs of the last pages, whose entries these are, and which hold the last bytes
runs_of : (ℕ → ℕ) → (pages bytes : ℕ) → List Piece
runs_of f zero bytes = []
runs_of f (suc pages) bytes = run (f 0) (min bytes page) ++ runs_of (λ i. f (suc i)) pages (bytes - page)

-- the same entries give the same runs
runs_of-same : (f g : ℕ → ℕ) (pages bytes : ℕ) → ((i : ℕ) → i < pages → f i ≡ g i)
    → runs_of f pages bytes ≡ runs_of g pages bytes
unfolding runs_of
runs_of-same f g zero bytes same = refl
runs_of-same f g (suc pages) bytes same =
    let first : f 0 ≡ g 0 = same 0 (omega arith) in
    let rest = runs_of-same (λ i. f (suc i)) (λ i. g (suc i)) pages (bytes - page) (λ i below. same (suc i) (omega arith)) in
    ap (λ (a : ℕ). run a (min bytes page) ++ runs_of (λ i. f (suc i)) pages (bytes - page)) first
    ∙ ap (λ (ps : List Piece). run (g 0) (min bytes page) ++ ps) rest

-- a byte of them lies in its page
runs_of-at : (f : ℕ → ℕ) (pages bytes i : ℕ) → i < bytes → bytes ≤ pages * 4096
    → slice_get (places_of (runs_of f pages bytes)) i ≡ Some (At (f (i / 4096) + i % 4096))
unfolding runs_of
runs_of-at f zero bytes i below fit = absurd (omega arith)
runs_of-at f (suc pages) bytes i below fit =
    let n = min bytes page in
    let rest = places_of (runs_of (λ j. f (suc j)) pages (bytes - page)) in
    let split : places_of (run (f 0) n ++ runs_of (λ j. f (suc j)) pages (bytes - page)) ≡ addresses (f 0) n ++ rest =
    places_of-append (run (f 0) n) (runs_of (λ j. f (suc j)) pages (bytes - page))
    ∙ ap (λ (ps : List Place). ps ++ rest) (places_of-run (f 0) n) in
    ap (λ (ps : List Place). slice_get ps i) split
    ∙ elim (cases_lt i 4096) [
      | inl here ↦
          let first : i / 4096 ≡ 0 = omega arith in
          let low : i % 4096 ≡ i = omega arith in
          addresses-at (f 0) n i rest (omega arith) ∙ ap (λ (a : ℕ). Some (At (f 0 + a))) (sym low)
          ∙ ap (λ (k : ℕ). Some (At (f k + i % 4096))) (sym first)
      | inr behind ↦
          let whole : n + (i - 4096) ≡ i = omega arith in
          let next : suc ((i - 4096) / 4096) ≡ i / 4096 = omega arith in
          let low : (i - 4096) % 4096 ≡ i % 4096 = omega arith in
          ap (λ (k : ℕ). slice_get (addresses (f 0) n ++ rest) k) (sym whole)
          ∙ addresses-behind (f 0) n (i - 4096) rest
          ∙ runs_of-at (λ j. f (suc j)) pages (bytes - page) (i - 4096) (omega arith) (omega arith)
          ∙ ap (λ (a : ℕ). Some (At (f (suc ((i - 4096) / 4096)) + a))) low
          ∙ ap (λ (k : ℕ). Some (At (f k + i % 4096))) next
    ]

-- ---- slots

-- the first entry stands at the pointer, but for one slot where more are to come
slot_of-first : (memory : ℕ → ℕ) (times pointer entries : ℕ) → (slots_of pointer ≡ 1 → entries ≤ 1)
    → 0 < slots_of pointer → slot_of memory times pointer entries 0 ≡ pointer
unfolding slot_of
slot_of-first memory zero pointer entries one some = omega arith
slot_of-first memory (suc times) pointer entries one some =
    rw (stands entries (slots_of pointer) one some) (omega arith)
  where
    stands : (entries slots : ℕ) → (slots ≡ 1 → entries ≤ 1) → 0 < slots
        → (nat_le entries slots || nat_lt 0 (slots - 1)) ≡ true
    stands entries slots one some = grind (arith, nat_tests)

-- each other one stands where the list from the next slot on has it
slot_of-next : (memory : ℕ → ℕ) (times pointer entries i : ℕ) → 1 < slots_of pointer
    → slot_of memory times pointer (suc entries) (suc i) ≡ slot_of memory times (pointer + 8) entries i
unfolding slot_of
slot_of-next memory zero pointer entries i some = omega arith
slot_of-next memory (suc times) pointer entries i some =
    let fewer : slots_of pointer ≡ suc (slots_of (pointer + 8)) = omega arith in
    let at : pointer + 8 * (slots_of pointer - 1) ≡ pointer + 8 + 8 * (slots_of (pointer + 8) - 1) = omega arith in
    let left : suc entries - (slots_of pointer - 1) ≡ entries - (slots_of (pointer + 8) - 1) = omega arith in
    let which : suc i - (slots_of pointer - 1) ≡ i - (slots_of (pointer + 8) - 1) = omega arith in
    by_test _ _ _ _ _ _ (stands entries i (slots_of pointer) (slots_of (pointer + 8)) fewer (omega arith)) (omega arith)
    (ap (λ (a : ℕ). slot_of memory times (slot_at memory a) (suc entries - (slots_of pointer - 1)) (suc i - (slots_of pointer - 1))) at
    ∙ ap (λ (n : ℕ). slot_of memory times (slot_at memory (pointer + 8 + 8 * (slots_of (pointer + 8) - 1))) n (suc i - (slots_of pointer - 1))) left
    ∙ ap (λ (n : ℕ). slot_of memory times (slot_at memory (pointer + 8 + 8 * (slots_of (pointer + 8) - 1))) (entries - (slots_of (pointer + 8) - 1)) n) which)
  where
    by_test : (b c : Bool) (x y u v : ℕ) → b ≡ c → x ≡ y → u ≡ v → cond b x u ≡ cond c y v
    by_test b c x y u v test here behind = rw (test, here, behind) refl

    stands : (entries i slots fewer : ℕ) → slots ≡ suc fewer → 0 < fewer
        → (nat_le (suc entries) slots || nat_lt (suc i) (slots - 1)) ≡ (nat_le entries fewer || nat_lt i (fewer - 1))
    stands entries i slots fewer is some = grind (arith, nat_tests)

-- the last slot of a page points to the others
slot_of-behind : (memory : ℕ → ℕ) (times pointer entries i : ℕ) → slots_of pointer ≡ 1 → 1 < entries
    → slot_of memory (suc times) pointer entries i ≡ slot_of memory times (slot_at memory pointer) entries i
unfolding slot_of
slot_of-behind memory times pointer entries i one more =
    let all : entries - 0 ≡ entries = omega arith in
    let which : i - 0 ≡ i = omega arith in
    rw (one, no entries i more, here)
    (ap (λ (n : ℕ). slot_of memory times (slot_at memory pointer) n (i - 0)) all ∙ ap (λ (n : ℕ). slot_of memory times (slot_at memory pointer) entries n) which)
  where
    no : (entries i : ℕ) → 1 < entries → (nat_le entries 1 || nat_lt i 0) ≡ false
    no entries i more = grind (arith, nat_tests)

    here : pointer + 8 * 0 ≡ pointer
    here = omega arith

-- ---- entries

-- a list that spells has no fault
spells-faultless : (memory : ℕ → ℕ) (fault : Option StatusCode) (more : Dialogue Reading) (out : List Piece)
    → in_memory memory (unless_faulty fault more) ≡ Spells out → (fault ≡ None) × (in_memory memory more ≡ Spells out)
unfolding in_memory
spells-faultless memory None more out spells = (refl, spells)
spells-faultless memory (Some code) more out spells = cc

-- the next slot of a list of that many entries, which may go on that many times
pub record IsNextSlot (times entries slots from : ℕ) : Type 0 where
  pub counted : 0 < entries → slots ≡ slots_of from
  pub some : 0 < entries → 0 < slots
  pub enough : entries ≤ times + 1
  pub last : slots ≡ 1 → 1 < entries → entries ≤ times

-- a page entry, and what follows
read_page-spells : (mapped : ℕ → Bool) (memory : ℕ → ℕ) (bytes : ℕ) (pieces : List Piece) (follow : List Piece → Dialogue Reading) (addr : ℕ) (out rest : List Piece)
    → in_memory memory (read_page mapped bytes pieces follow addr) ≡ Spells out
    → (in_memory memory (follow (pieces ++ run addr (min bytes page))) ≡ Spells out → out ≡ (pieces ++ run addr (min bytes page)) ++ rest)
    → out ≡ pieces ++ (run addr (min bytes page) ++ rest)
read_page-spells mapped memory bytes pieces follow addr out rest spells goes =
    let behind = (spells-faultless memory (entry_fault mapped page addr (min bytes page)) (follow (pieces ++ run addr (min bytes page))) out spells).1 in
    goes behind ∙ append_assoc pieces (run addr (min bytes page)) rest

-- a dialogue that goes by a test
spells-if : {G : Type 0} (memory : ℕ → ℕ) (b : Bool) (x y : Dialogue Reading) (out : List Piece)
    → in_memory memory (cond b x y) ≡ Spells out
    → (b ≡ true → in_memory memory x ≡ Spells out → G) → (b ≡ false → in_memory memory y ≡ Spells out → G) → G
spells-if memory true x y out spells so not_so = so refl spells
spells-if memory false x y out spells so not_so = not_so refl spells

-- where one slot is no pointer, no entry is to come
pub alone : (slots pages : ℕ) → (slots == 1 && nat_lt 0 pages) ≡ false → slots ≡ 1 → pages ≡ 0
alone slots pages is one = grind (arith, nat_tests)

-- and where one is to come, others stand on the page
pub many : (slots pages at : ℕ) → (slots == 1 && nat_lt 0 pages) ≡ false → 0 < slots → 0 < pages → slots ≡ at → 1 < at
many slots pages at is some left same =
    (elim (eq-or-lt_of_le some) [ inl one ↦ (let none = alone slots pages is (sym one) in absurd (omega arith)) | inr two ↦ omega arith ])

-- the run of the first entry, and those of the others
runs_of-first : (memory : ℕ → ℕ) (pages bytes : ℕ) (pieces out : List Piece) (f g : ℕ → ℕ) (addr : ℕ)
    → f 0 ≡ addr → ((i : ℕ) → i < pages → f (suc i) ≡ g i)
    → out ≡ pieces ++ (run (slot_at memory addr) (min bytes page) ++ runs_of (λ i. slot_at memory (g i)) pages (bytes - page))
    → out ≡ pieces ++ runs_of (λ i. slot_at memory (f i)) (suc pages) bytes
unfolding runs_of
runs_of-first memory pages bytes pieces out f g addr first others is =
    is
    ∙ ap (λ (a : ℕ). pieces ++ (run (slot_at memory a) (min bytes page) ++ runs_of (λ i. slot_at memory (g i)) pages (bytes - page))) (sym first)
    ∙ ap (λ (ps : List Piece). pieces ++ (run (slot_at memory (f 0)) (min bytes page) ++ ps))
    (sym (runs_of-same (λ i. slot_at memory (f (suc i))) (λ i. slot_at memory (g i)) pages (bytes - page) (λ i below. ap (slot_at memory) (others i below))))

-- the entries of the last pages name their runs
read_entries-runs : (mapped : ℕ → Bool) (memory : ℕ → ℕ) (times pages slots from bytes : ℕ) (pieces out : List Piece)
    → IsNextSlot times pages slots from
    → in_memory memory (read_entries mapped pages slots from bytes pieces) ≡ Spells out
    → out ≡ pieces ++ runs_of (λ i. slot_at memory (slot_of memory times from pages i)) pages bytes
unfolding read_entries in_memory runs_of
read_entries-runs mapped memory times zero slots from bytes pieces out next spells =
    let same : pieces ≡ out = cc in sym same ∙ sym (append-nil pieces)
read_entries-runs mapped memory times (suc pages) slots from bytes pieces out next spells =
    spells-if memory (slots == 1 && nat_lt 0 pages) _ _ out spells
    (λ is here.
    let both = and-true (slots == 1) (nat_lt 0 pages) is in
    let one : slots ≡ 1 = eqb-true slots 1 both.0 in
    let some : 0 < pages = ltb-true 0 pages both.1 in
    let from_one : slots_of from ≡ 1 = sym (next.counted (omega arith)) ∙ one in
    let enough = next.last one (omega arith) in
    let more : times ≡ suc (times - 1) = omega arith in
    let pointer : ℕ = slot_at memory from in
    let needed : ℕ = 8 * min (page / 8) (suc pages) in
    let fine = spells-faultless memory (entry_fault mapped page pointer needed)
    (Ask pointer 8 needed (λ entry. read_page mapped bytes pieces (λ ps. read_entries mapped pages (page / 8 - 1) (pointer + 8) (bytes - page) ps) (number_at entry 0 8))) out here in
    let aligned : pointer % 4096 ≡ 0 = (entry_fault-mapped mapped page pointer needed fine.0).0 in
    let hop : (i : ℕ) → slot_of memory times from (suc pages) i ≡ slot_of memory (times - 1) pointer (suc pages) i =
    λ i. ap (λ (t : ℕ). slot_of memory t from (suc pages) i) more ∙ slot_of-behind memory (times - 1) from (suc pages) i from_one (omega arith) in
    runs_of-first memory pages bytes pieces out (λ i. slot_of memory times from (suc pages) i) (λ i. slot_of memory (times - 1) (pointer + 8) pages i) pointer
    (hop 0 ∙ slot_of-first memory (times - 1) pointer (suc pages) (λ single. absurd (omega arith)) (omega arith))
    (λ i below. hop (suc i) ∙ slot_of-next memory (times - 1) pointer pages i (omega arith))
    (read_page-spells mapped memory bytes pieces (λ ps. read_entries mapped pages (page / 8 - 1) (pointer + 8) (bytes - page) ps) (slot_at memory pointer) out _ fine.1
    (λ behind. read_entries-runs mapped memory (times - 1) pages (page / 8 - 1) (pointer + 8) (bytes - page) (pieces ++ run (slot_at memory pointer) (min bytes page)) out
    (record { counted = λ _. omega arith; some = λ _. omega arith; enough = omega arith; last = λ single. absurd (omega arith) }) behind)))
    (λ is here.
    let counted = next.counted (omega arith) in
    let some = next.some (omega arith) in
    let enough = next.enough in
    runs_of-first memory pages bytes pieces out (λ i. slot_of memory times from (suc pages) i) (λ i. slot_of memory times (from + 8) pages i) from
    (slot_of-first memory times from (suc pages) (λ one. let none = alone slots pages is (omega arith) in omega arith) (omega arith))
    (λ i below. slot_of-next memory times from pages i (many slots pages _ is some (omega arith) counted))
    (read_page-spells mapped memory bytes pieces (λ ps. read_entries mapped pages (slots - 1) (from + 8) (bytes - page) ps) (slot_at memory from) out _ here
    (λ behind. read_entries-runs mapped memory times pages (slots - 1) (from + 8) (bytes - page) (pieces ++ run (slot_at memory from) (min bytes page)) out
    (record {
      counted = λ left. let two = many slots pages _ is some left counted in omega arith;
      some = λ left. let two = many slots pages _ is some left counted in omega arith;
      enough = omega arith;
      last = λ single left. omega arith;
    }) behind)))

-- ---- PRP1 and PRP2

-- an entry of a list
entry_of-list : (memory : ℕ → ℕ) (prp2 last i : ℕ) → 1 < last
    → slot_at memory (slot_of memory last prp2 last i) ≡ entry_of memory prp2 last (suc i)
entry_of-list memory prp2 last i some =
    let more : (last == 1) ≡ false = grind (arith, nat_tests) in
    let same : suc i - 1 ≡ i = omega arith in
    rw (more, same) refl

-- the pages behind PRP1's
read_prp2-runs : (mapped : ℕ → Bool) (memory : ℕ → ℕ) (pages prp2 bytes : ℕ) (pieces out : List Piece)
    → in_memory memory (read_prp2 mapped pages prp2 bytes pieces) ≡ Spells out
    → out ≡ pieces ++ runs_of (λ i. entry_of memory prp2 pages (suc i)) pages bytes
unfolding in_memory runs_of
read_prp2-runs mapped memory zero prp2 bytes pieces out spells =
    let same : pieces ≡ out = cc in sym same ∙ sym (append-nil pieces)
read_prp2-runs mapped memory (suc zero) prp2 bytes pieces out spells =
    read_page-spells mapped memory bytes pieces (λ ps. End (Spells ps)) prp2 out [] spells
    (λ behind. let same : pieces ++ run prp2 (min bytes page) ≡ out = cc in sym same ∙ sym (append-nil (pieces ++ run prp2 (min bytes page))))
read_prp2-runs mapped memory (suc (suc pages)) prp2 bytes pieces out spells =
    let n : ℕ = suc (suc pages) in
    let fine = spells-faultless memory (entry_fault mapped 8 prp2 (8 * min (slots_of prp2) n)) (read_entries mapped n (slots_of prp2) prp2 bytes pieces) out spells in
    let aligned : prp2 % 8 ≡ 0 = (entry_fault-mapped mapped 8 prp2 (8 * min (slots_of prp2) n) fine.0).0 in
    read_entries-runs mapped memory n n (slots_of prp2) prp2 bytes pieces out
    (record { counted = λ _. refl; some = λ _. omega arith; enough = omega arith; last = λ _ _. omega arith }) fine.1
    ∙ ap (λ (ps : List Piece). pieces ++ ps)
    (runs_of-same (λ i. slot_at memory (slot_of memory n prp2 n i)) (λ i. entry_of memory prp2 n (suc i)) n bytes
    (λ i below. entry_of-list memory prp2 n i (omega arith)))

-- how many pages are behind PRP1's
pub last_page-counts : (prp1 len : ℕ) → 0 < len → pages_of (len - first_len prp1 len) ≡ last_page prp1 len
last_page-counts prp1 len some = omega arith

-- each byte lies in its page
pub read_prp-at : (mapped : ℕ → Bool) (memory : ℕ → ℕ) (prp1 prp2 len : ℕ) (out : List Piece) (i : ℕ)
    → in_memory memory (read_prp mapped prp1 prp2 len) ≡ Spells out → i < len
    → slice_get (places_of out) i ≡ Some (At (byte_address memory prp1 prp2 len i))
unfolding byte_address
read_prp-at mapped memory prp1 prp2 len out i spells below =
    let first = first_len prp1 len in
    let bytes = len - first in
    let n = pages_of bytes in
    let fine = spells-faultless memory (entry_fault mapped 4 prp1 first) (read_prp2 mapped n prp2 bytes (run prp1 first)) out spells in
    let entry : ℕ → ℕ = λ k. entry_of memory prp2 n (suc k) in
    let runs = runs_of entry n bytes in
    let is : out ≡ run prp1 first ++ runs = read_prp2-runs mapped memory n prp2 bytes (run prp1 first) out fine.1 in
    let split : places_of out ≡ addresses prp1 first ++ places_of runs =
    ap (λ (ps : List Piece). places_of ps) is ∙ places_of-append (run prp1 first) runs
    ∙ ap (λ (ps : List Place). ps ++ places_of runs) (places_of-run prp1 first) in
    let last : n ≡ last_page prp1 len = last_page-counts prp1 len (omega arith) in
    ap (λ (ps : List Place). slice_get ps i) split
    ∙ elim (cases_lt (prp1 % 4096 + i) 4096) [
      | inl here ↦
          let test : nat_lt (prp1 % page + i) page ≡ true = grind (arith, nat_tests) in
          addresses-at prp1 first i (places_of runs) (omega arith) ∙ rw test refl
      | inr behind ↦
          let test : nat_lt (prp1 % page + i) page ≡ false = grind (arith, nat_tests) in
          let whole : first + (i - first) ≡ i = omega arith in
          let which : suc ((i - first) / 4096) ≡ (prp1 % 4096 + i) / 4096 = omega arith in
          let low : (i - first) % 4096 ≡ (prp1 % 4096 + i) % 4096 = omega arith in
          ap (λ (k : ℕ). slice_get (addresses prp1 first ++ places_of runs) k) (sym whole)
          ∙ addresses-behind prp1 first (i - first) (places_of runs)
          ∙ runs_of-at entry n bytes (i - first) (omega arith) (pages_of-fit bytes)
          ∙ ap (λ (k : ℕ). Some (At (entry_of memory prp2 n k + (i - first) % 4096))) which
          ∙ ap (λ (x : ℕ). Some (At (entry_of memory prp2 n ((prp1 % 4096 + i) / 4096) + x))) low
          ∙ ap (λ (m : ℕ). Some (At (entry_of memory prp2 m ((prp1 % 4096 + i) / 4096) + (prp1 % 4096 + i) % 4096))) last
          ∙ rw test refl
    ]
