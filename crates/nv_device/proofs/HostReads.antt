-- What PRPs spell where every address is there, they spell in a host in which its places and its list lie.
use Rattle.std.proofs.Common.{◌≡◌, ℕ, zero, suc, ◌+◌, ◌-◌, ◌*◌, ◌<◌, ◌≤◌, min, Bool, true, false, ◌&&◌}
use Rattle.std.proofs.Common.{◌==◌, nat_lt, List, [], ◌++◌, length, arith, refl, sym, ap, ◌∙◌, append_assoc, append-nil}
use Rattle.std.specs.List.{list_all}
use Rattle.std.proofs.lemmas.Bool.Decides.{nat_tests}
use Rattle.std.proofs.lemmas.List.Folds.{list_all-append}
use Rattle.nv_entry.specs.Layout.{number_at}
use Rattle.nv_mem.specs.GuestMap.{everywhere}
use Rattle.nv_mem.specs.Places.{places_of}
use Rattle.nv_mem.specs.declared.piece.Piece.{Piece}
use Rattle.nv_mem.specs.declared.piece.Piece.TheVariants.{Run}
use Rattle.nv_model.specs.Dialogue.{End, in_memory}
use Rattle.nv_model.specs.Limits.{page}
use Rattle.nv_model.specs.Memory.{byte_in, bytes_from}
use Rattle.nv_model.specs.Prp.{entry_fault, first_len, pages_of, read_entries, read_prp, read_prp2, slots_of}
use Rattle.nv_model.specs.Reading.{Spells, run}
use Rattle.nv_model.proofs.Endings.{and-true}
use Rattle.nv_disk.specs.Buffer.{AreBelow}
use Rattle.nv_prp.proofs.Cursors.{run-some}
use Rattle.nv_device.specs.Pages.{host_reading, in_host, piece_in}
use Rattle.nv_device.proofs.PageLemmas.{entry-passed, fault-there, passed, passes, taken_false}
use Rattle.nv_device.proofs.SpellLemmas.{below-pieces, in_host-all}

-- every address may be named
abbrev any : ℕ → Bool
any = λ _. true

-- where there is a list, its slots lie in a host of that length, in one page
pub record IsListIn (host_len pages prp2 : ℕ) : Type 0 where
  pub fits : pages ≤ slots_of prp2
  pub there : prp2 + 8 * pages ≤ host_len

-- ---- pieces that lie in a host

-- of all of them, those at the front do, and those behind
all-parts : {X : Type 0} (p : X → Bool) (xs ys : List X) → list_all p (xs ++ ys) ≡ true → (list_all p xs ≡ true) × (list_all p ys ≡ true)
all-parts p xs ys each = and-true (list_all p xs) (list_all p ys) (sym (list_all-append p xs ys) ∙ each)

run-in : (n addr len : ℕ) → list_all (piece_in n) (run addr len) ≡ true → everywhere (in_host n) addr len ≡ true
unfolding everywhere
run-in n addr zero each = refl
run-in n addr (suc len) each =
    (and-true (piece_in n (Run addr (suc len))) true (sym (ap (list_all (piece_in n)) (run-some addr (suc len) (omega arith))) ∙ each)).0

-- a run that is among others does
run-among : (n addr len : ℕ) (front rest r : List Piece) → r ≡ (front ++ run addr len) ++ rest → list_all (piece_in n) r ≡ true
    → everywhere (in_host n) addr len ≡ true
run-among n addr len front rest r is each =
    run-in n addr len
    (all-parts (piece_in n) front (run addr len)
    (all-parts (piece_in n) (front ++ run addr len) rest (sym (ap (list_all (piece_in n)) is) ∙ each)).0).1

-- ---- the entries of a list

-- the last slot that is needed is no pointer
plain-slot : (slots pages : ℕ) → suc pages ≤ slots → (slots == 1 && nat_lt 0 pages) ≡ false
plain-slot slots pages fits = grind (arith, nat_tests)

-- what is read behind pieces spells these first
entries-grow : (m : ℕ → ℕ) (pages slots from bytes : ℕ) (pieces r : List Piece) → pages ≤ slots
    → in_memory m (read_entries any pages slots from bytes pieces) ≡ Spells r → (rest : List Piece) × (r ≡ pieces ++ rest)
unfolding in_memory read_entries
entries-grow m zero slots from bytes pieces r fits is = ([], (let same : pieces ≡ r = cc in sym same ∙ sym (append-nil pieces)))
entries-grow m (suc pages) slots from bytes pieces r fits is =
    let addr = number_at (bytes_from m from 8) 0 8 in
    let behind = entry-passed m any pages slots from bytes pieces r (plain-slot slots pages fits) is in
    let rest = entries-grow m pages (slots - 1) (from + 8) (bytes - page) (pieces ++ run addr (min bytes page)) r (omega arith) behind.1 in
    (run addr (min bytes page) ++ rest.0, rest.1 ∙ append_assoc pieces (run addr (min bytes page)) rest.0)

entries-in : (m : ℕ → ℕ) (n pages slots from bytes : ℕ) (pieces r : List Piece) → pages ≤ slots
    → in_memory m (read_entries any pages slots from bytes pieces) ≡ Spells r → list_all (piece_in n) r ≡ true
    → in_memory m (read_entries (in_host n) pages slots from bytes pieces) ≡ Spells r
unfolding in_memory read_entries
entries-in m n zero slots from bytes pieces r fits is each = is
entries-in m n (suc pages) slots from bytes pieces r fits is each =
    let addr = number_at (bytes_from m from 8) 0 8 in
    let plain = plain-slot slots pages fits in
    let behind = entry-passed m any pages slots from bytes pieces r plain is in
    let more = pieces ++ run addr (min bytes page) in
    let rest = entries-grow m pages (slots - 1) (from + 8) (bytes - page) more r (omega arith) behind.1 in
    taken_false m (slots == 1 && nat_lt 0 pages) _ _ plain
    ∙ passes m (entry_fault (in_host n) page addr (min bytes page)) (read_entries (in_host n) pages (slots - 1) (from + 8) (bytes - page) more) r
    (fault-there any (in_host n) page addr (min bytes page) behind.0 (run-among n addr (min bytes page) pieces rest.0 r rest.1 each))
    (entries-in m n pages (slots - 1) (from + 8) (bytes - page) more r (omega arith) behind.1 each)

-- ---- what is behind PRP1's page

prp2-grows : (m : ℕ → ℕ) (pages prp2 bytes : ℕ) (pieces r : List Piece) → (1 < pages → pages ≤ slots_of prp2)
    → in_memory m (read_prp2 any pages prp2 bytes pieces) ≡ Spells r → (rest : List Piece) × (r ≡ pieces ++ rest)
unfolding in_memory
prp2-grows m zero prp2 bytes pieces r fits is = ([], (let same : pieces ≡ r = cc in sym same ∙ sym (append-nil pieces)))
prp2-grows m (suc zero) prp2 bytes pieces r fits is =
    let behind = passed m (entry_fault any page prp2 (min bytes page)) (End (Spells (pieces ++ run prp2 (min bytes page)))) r is in
    (run prp2 (min bytes page), (let same : Spells (pieces ++ run prp2 (min bytes page)) ≡ Spells r = behind.1 in cc))
prp2-grows m (suc (suc pages)) prp2 bytes pieces r fits is =
    let behind = passed m (entry_fault any 8 prp2 (8 * min (slots_of prp2) (suc (suc pages)))) (read_entries any (suc (suc pages)) (slots_of prp2) prp2 bytes pieces) r is in
    entries-grow m (suc (suc pages)) (slots_of prp2) prp2 bytes pieces r (fits (omega arith)) behind.1

prp2-in : (m : ℕ → ℕ) (n pages prp2 bytes : ℕ) (pieces r : List Piece) → (1 < pages → IsListIn n pages prp2)
    → in_memory m (read_prp2 any pages prp2 bytes pieces) ≡ Spells r → list_all (piece_in n) r ≡ true
    → in_memory m (read_prp2 (in_host n) pages prp2 bytes pieces) ≡ Spells r
unfolding in_memory
prp2-in m n zero prp2 bytes pieces r list is each = is
prp2-in m n (suc zero) prp2 bytes pieces r list is each =
    let last = run prp2 (min bytes page) in
    let behind = passed m (entry_fault any page prp2 (min bytes page)) (End (Spells (pieces ++ last))) r is in
    let same : Spells (pieces ++ last) ≡ Spells r = behind.1 in
    let whole : r ≡ (pieces ++ last) ++ [] = (let e : pieces ++ last ≡ r = cc in sym e ∙ sym (append-nil (pieces ++ last))) in
    passes m (entry_fault (in_host n) page prp2 (min bytes page)) (End (Spells (pieces ++ last))) r
    (fault-there any (in_host n) page prp2 (min bytes page) behind.0 (run-among n prp2 (min bytes page) pieces [] r whole each)) behind.1
prp2-in m n (suc (suc pages)) prp2 bytes pieces r list is each =
    let needed = 8 * min (slots_of prp2) (suc (suc pages)) in
    let behind = passed m (entry_fault any 8 prp2 needed) (read_entries any (suc (suc pages)) (slots_of prp2) prp2 bytes pieces) r is in
    let lies = list (omega arith) in
    let fits = lies.fits in
    let there = lies.there in
    passes m (entry_fault (in_host n) 8 prp2 needed) (read_entries (in_host n) (suc (suc pages)) (slots_of prp2) prp2 bytes pieces) r
    (fault-there any (in_host n) 8 prp2 needed behind.0 (in_host-all n prp2 needed (omega (arith, fits, there))))
    (entries-in m n (suc (suc pages)) (slots_of prp2) prp2 bytes pieces r fits behind.1 each)

-- ---- a transfer

pub host_reading-there : (host : List ℕ) (prp1 prp2 len : ℕ) (r : List Piece) → in_memory (byte_in host) (read_prp (λ _. true) prp1 prp2 len) ≡ Spells r
    → AreBelow (length host) (places_of r)
    → (1 < pages_of (len - first_len prp1 len) → IsListIn (length host) (pages_of (len - first_len prp1 len)) prp2)
    → host_reading host prp1 prp2 len ≡ Spells r
unfolding host_reading
host_reading-there host prp1 prp2 len r is below list =
    let m = byte_in host in
    let n = length host in
    let each = below-pieces n r below in
    let first = first_len prp1 len in
    let pages = pages_of (len - first) in
    let behind = passed m (entry_fault any 4 prp1 first) (read_prp2 any pages prp2 (len - first) (run prp1 first)) r is in
    let rest = prp2-grows m pages prp2 (len - first) (run prp1 first) r (λ more. (list more).fits) behind.1 in
    passes m (entry_fault (in_host n) 4 prp1 first) (read_prp2 (in_host n) pages prp2 (len - first) (run prp1 first)) r
    (fault-there any (in_host n) 4 prp1 first behind.0 (run-among n prp1 first [] rest.0 r rest.1 each))
    (prp2-in m n pages prp2 (len - first) (run prp1 first) r list behind.1 each)
