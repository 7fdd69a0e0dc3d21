-- Reading PRPs entry by entry
use Rattle.std.proofs.Common.{◌≡◌, ℕ, zero, suc, ◌+◌, ◌-◌, ◌*◌, ◌%◌, ◌<◌, ◌≤◌, min}
use Rattle.std.proofs.Common.{Bool, true, false, cond, not, ◌&&◌, ◌==◌, nat_lt, List, [], ◌∷◌, ◌++◌}
use Rattle.std.proofs.Common.{length, Option, Some, None, Result, Ok, Err, refl, sym, ap, ◌∙◌, arith, eqb-true}
use Rattle.std.specs.Prelude.{OnOk}
use Rattle.std.proofs.lemmas.Bool.Decides.{nat_tests}
use Rattle.nv_entry.specs.Layout.{number_at}
use Rattle.nv_entry.specs.declared.status_code.StatusCode.{StatusCode}
use Rattle.nv_entry.specs.declared.status_code.StatusCode.TheVariants.{DataTransferError, PrpOffsetInvalid}
use Rattle.nv_mem.specs.GuestMap.{everywhere}
use Rattle.nv_mem.specs.declared.piece.Piece.{Piece}
use Rattle.nv_mem.specs.declared.piece.Piece.TheVariants.{Run}
use Rattle.nv_model.specs.Dialogue.{Dialogue, End, in_memory}
use Rattle.nv_model.specs.Limits.{page}
use Rattle.nv_model.specs.Memory.{byte_in, bytes_from}
use Rattle.nv_model.specs.Prp.{entry_fault, first_len, pages_of, read_entries, read_prp, read_prp2, slots_of}
use Rattle.nv_model.specs.Reading.{Reading, Faulty, Spells, TooLong, run, unless_faulty}
use Rattle.nv_prp.proofs.Cursors.{run-some}
use Rattle.nv_device.specs.Pages.{IsEntryAt, behind_reading, entries_reading, host_reading, in_host, spells}

-- a reading that spells places
pub spelled-is : (reading : Reading) → spells reading ≡ true → (r : List Piece) × (reading ≡ Spells r)
spelled-is (Faulty code) is = (let wrong : false ≡ true = is in cc)
spelled-is TooLong is = (let wrong : false ≡ true = is in cc)
spelled-is (Spells pieces) is = (pieces, refl)

-- ---- checks

-- what spells places behind a check has passed it
pub passed : (m : ℕ → ℕ) (f : Option StatusCode) (d : Dialogue Reading) (r : List Piece)
    → in_memory m (unless_faulty f d) ≡ Spells r → (f ≡ None) × (in_memory m d ≡ Spells r)
unfolding in_memory
passed m None d r is = (refl, is)
passed m (Some code) d r is = absurd (cc)

-- and what has passed it spells what it spells behind it
pub passes : (m : ℕ → ℕ) (f : Option StatusCode) (d : Dialogue Reading) (r : List Piece)
    → f ≡ None → in_memory m d ≡ Spells r → in_memory m (unless_faulty f d) ≡ Spells r
unfolding in_memory
passes m None d r none is = is
passes m (Some code) d r none is = absurd (cc)

-- a check that is passed
pub checked : (mapped : ℕ → Bool) (alignment addr len : ℕ) → entry_fault mapped alignment addr len ≡ None
    → ((addr % alignment == 0) ≡ true) × (everywhere mapped addr len ≡ true)
checked mapped alignment addr len none = both (addr % alignment == 0) (everywhere mapped addr len) none
  where
    both : (a b : Bool) → cond (not a) (Some PrpOffsetInvalid) (cond (not b) (Some DataTransferError) None) ≡ None → (a ≡ true) × (b ≡ true)
    both true true is = (refl, refl)
    both true false is = absurd (cc)
    both false b is = absurd (cc)

-- the addresses from one on lie in the host
pub all-in_host : (host_len addr len : ℕ) → everywhere (in_host host_len) addr len ≡ true → 0 < len → addr + len ≤ host_len
unfolding everywhere
all-in_host host_len addr zero is some = absurd (omega arith)
all-in_host host_len addr (suc len) is some = last (nat_lt (addr + len) host_len) (everywhere (in_host host_len) addr len) refl is
  where
    last : (a b : Bool) → nat_lt (addr + len) host_len ≡ a → a && b ≡ true → addr + suc len ≤ host_len
    last true b below is = grind (arith, nat_tests)
    last false b below is = absurd (cc)

-- ---- one slot

-- the branch that is taken
pub taken_false : (m : ℕ → ℕ) (b : Bool) (d e : Dialogue Reading) → b ≡ false → in_memory m (cond b d e) ≡ in_memory m e
taken_false m true d e is = absurd (cc)
taken_false m false d e is = refl

taken_true : (m : ℕ → ℕ) (b : Bool) (d e : Dialogue Reading) → b ≡ true → in_memory m (cond b d e) ≡ in_memory m d
taken_true m true d e is = refl
taken_true m false d e is = absurd (cc)

-- the entry of the next page
pub entry-passed : (m : ℕ → ℕ) (mapped : ℕ → Bool) (pages slots from bytes : ℕ) (pieces r : List Piece)
    → (slots == 1 && nat_lt 0 pages) ≡ false
    → in_memory m (read_entries mapped (suc pages) slots from bytes pieces) ≡ Spells r
    → (entry_fault mapped page (number_at (bytes_from m from 8) 0 8) (min bytes page) ≡ None)
    × (in_memory m (read_entries mapped pages (slots - 1) (from + 8) (bytes - page) (pieces ++ run (number_at (bytes_from m from 8) 0 8) (min bytes page))) ≡ Spells r)
unfolding in_memory read_entries
entry-passed m mapped pages slots from bytes pieces r plain is =
    passed m (entry_fault mapped page (number_at (bytes_from m from 8) 0 8) (min bytes page))
    (read_entries mapped pages (slots - 1) (from + 8) (bytes - page) (pieces ++ run (number_at (bytes_from m from 8) 0 8) (min bytes page))) r
    (sym (taken_false m (slots == 1 && nat_lt 0 pages) _ _ plain) ∙ is)

-- a pointer to the next list page
pub pointer-passed : (m : ℕ → ℕ) (mapped : ℕ → Bool) (pages slots from bytes : ℕ) (pieces r : List Piece)
    → (slots == 1 && nat_lt 0 pages) ≡ true
    → in_memory m (read_entries mapped (suc pages) slots from bytes pieces) ≡ Spells r
    → (entry_fault mapped page (number_at (bytes_from m from 8) 0 8) (8 * min 512 (suc pages)) ≡ None)
    × (in_memory m (read_entries mapped (suc pages) 512 (number_at (bytes_from m from 8) 0 8) bytes pieces) ≡ Spells r)
unfolding in_memory read_entries
pointer-passed m mapped pages slots from bytes pieces r last is =
    passed m (entry_fault mapped page (number_at (bytes_from m from 8) 0 8) (8 * min 512 (suc pages)))
    (read_entries mapped (suc pages) 512 (number_at (bytes_from m from 8) 0 8) bytes pieces) r
    (sym (taken_true m (slots == 1 && nat_lt 0 pages) _ _ last) ∙ is)

-- ---- a reading where every address is there

everywhere-there : (addr len : ℕ) → everywhere (λ _. true) addr len ≡ true
unfolding everywhere
everywhere-there addr zero = refl
everywhere-there addr (suc len) = everywhere-there addr len

-- a check that is passed where some addresses are there is passed where others are that have its bytes
pub fault-there : (mapped there : ℕ → Bool) (alignment addr len : ℕ) → entry_fault mapped alignment addr len ≡ None → everywhere there addr len ≡ true
    → entry_fault there alignment addr len ≡ None
fault-there mapped there alignment addr len none has =
    neither (addr % alignment == 0) (everywhere there addr len) (checked mapped alignment addr len none).0 has
  where
    neither : (a b : Bool) → a ≡ true → b ≡ true → cond (not a) (Some PrpOffsetInvalid) (cond (not b) (Some DataTransferError) None) ≡ None
    neither true true one other = refl
    neither true false one other = absurd (cc)
    neither false b one other = absurd (cc)

fault-anywhere : (mapped : ℕ → Bool) (alignment addr len : ℕ) → entry_fault mapped alignment addr len ≡ None
    → entry_fault (λ _. true) alignment addr len ≡ None
fault-anywhere mapped alignment addr len none = fault-there mapped (λ _. true) alignment addr len none (everywhere-there addr len)

-- that the last pages' entries spell where every address is there what they spell where some are
abbrev EntriesAnywhere : (m : ℕ → ℕ) (mapped : ℕ → Bool) (pages : ℕ) (r : List Piece) → Type 0
EntriesAnywhere m mapped pages r = (slots from bytes : ℕ) (pieces : List Piece)
    → in_memory m (read_entries mapped pages slots from bytes pieces) ≡ Spells r
    → in_memory m (read_entries (λ _. true) pages slots from bytes pieces) ≡ Spells r

-- one more page, at its entry
entry-anywhere : (m : ℕ → ℕ) (mapped : ℕ → Bool) (pages : ℕ) (r : List Piece) → EntriesAnywhere m mapped pages r
    → (slots from bytes : ℕ) (pieces : List Piece) → (slots == 1 && nat_lt 0 pages) ≡ false
    → in_memory m (read_entries mapped (suc pages) slots from bytes pieces) ≡ Spells r
    → in_memory m (read_entries (λ _. true) (suc pages) slots from bytes pieces) ≡ Spells r
unfolding in_memory read_entries
entry-anywhere m mapped pages r rest slots from bytes pieces plain is =
    let entry : ℕ = number_at (bytes_from m from 8) 0 8 in
    let behind = entry-passed m mapped pages slots from bytes pieces r plain is in
    taken_false m (slots == 1 && nat_lt 0 pages) _ _ plain
    ∙ passes m (entry_fault (λ _. true) page entry (min bytes page))
    (read_entries (λ _. true) pages (slots - 1) (from + 8) (bytes - page) (pieces ++ run entry (min bytes page))) r
    (fault-anywhere mapped page entry (min bytes page) behind.0)
    (rest (slots - 1) (from + 8) (bytes - page) (pieces ++ run entry (min bytes page)) behind.1)

-- and behind a pointer
slot-anywhere : (m : ℕ → ℕ) (mapped : ℕ → Bool) (pages : ℕ) (r : List Piece) → EntriesAnywhere m mapped pages r
    → (b : Bool) (slots from bytes : ℕ) (pieces : List Piece) → (slots == 1 && nat_lt 0 pages) ≡ b
    → in_memory m (read_entries mapped (suc pages) slots from bytes pieces) ≡ Spells r
    → in_memory m (read_entries (λ _. true) (suc pages) slots from bytes pieces) ≡ Spells r
unfolding in_memory read_entries
slot-anywhere m mapped pages r rest false slots from bytes pieces plain is = entry-anywhere m mapped pages r rest slots from bytes pieces plain is
slot-anywhere m mapped pages r rest true slots from bytes pieces last is =
    let pointer : ℕ = number_at (bytes_from m from 8) 0 8 in
    let behind = pointer-passed m mapped pages slots from bytes pieces r last is in
    taken_true m (slots == 1 && nat_lt 0 pages) _ _ last
    ∙ passes m (entry_fault (λ _. true) page pointer (8 * min 512 (suc pages)))
    (read_entries (λ _. true) (suc pages) 512 pointer bytes pieces) r
    (fault-anywhere mapped page pointer (8 * min 512 (suc pages)) behind.0)
    (entry-anywhere m mapped pages r rest 512 pointer bytes pieces refl behind.1)

-- the entries of a list
entries-anywhere : (m : ℕ → ℕ) (mapped : ℕ → Bool) (pages : ℕ) (r : List Piece) → EntriesAnywhere m mapped pages r
unfolding in_memory read_entries
entries-anywhere m mapped zero r slots from bytes pieces is = is
entries-anywhere m mapped (suc pages) r slots from bytes pieces is =
    slot-anywhere m mapped pages r (entries-anywhere m mapped pages r) (slots == 1 && nat_lt 0 pages) slots from bytes pieces refl is

-- what is behind PRP1's page
prp2-anywhere : (m : ℕ → ℕ) (mapped : ℕ → Bool) (pages prp2 bytes : ℕ) (pieces r : List Piece)
    → in_memory m (read_prp2 mapped pages prp2 bytes pieces) ≡ Spells r
    → in_memory m (read_prp2 (λ _. true) pages prp2 bytes pieces) ≡ Spells r
unfolding in_memory
prp2-anywhere m mapped zero prp2 bytes pieces r is = is
prp2-anywhere m mapped (suc zero) prp2 bytes pieces r is =
    let behind = passed m (entry_fault mapped page prp2 (min bytes page)) (End (Spells (pieces ++ run prp2 (min bytes page)))) r is in
    passes m (entry_fault (λ _. true) page prp2 (min bytes page)) (End (Spells (pieces ++ run prp2 (min bytes page)))) r
    (fault-anywhere mapped page prp2 (min bytes page) behind.0) behind.1
prp2-anywhere m mapped (suc (suc pages)) prp2 bytes pieces r is =
    let needed : ℕ = 8 * min (slots_of prp2) (suc (suc pages)) in
    let behind = passed m (entry_fault mapped 8 prp2 needed) (read_entries mapped (suc (suc pages)) (slots_of prp2) prp2 bytes pieces) r is in
    passes m (entry_fault (λ _. true) 8 prp2 needed) (read_entries (λ _. true) (suc (suc pages)) (slots_of prp2) prp2 bytes pieces) r
    (fault-anywhere mapped 8 prp2 needed behind.0)
    (entries-anywhere m mapped (suc (suc pages)) r (slots_of prp2) prp2 bytes pieces behind.1)

-- what spells places in a host spells them where every address is there
pub host_reading-anywhere : (host : List ℕ) (prp1 prp2 len : ℕ) (r : List Piece) → host_reading host prp1 prp2 len ≡ Spells r
    → in_memory (byte_in host) (read_prp (λ _. true) prp1 prp2 len) ≡ Spells r
unfolding host_reading
host_reading-anywhere host prp1 prp2 len r is =
    let first : ℕ = first_len prp1 len in
    let behind = passed (byte_in host) (entry_fault (in_host (length host)) 4 prp1 first)
    (read_prp2 (in_host (length host)) (pages_of (len - first)) prp2 (len - first) (run prp1 first)) r is in
    passes (byte_in host) (entry_fault (λ _. true) 4 prp1 first) (read_prp2 (λ _. true) (pages_of (len - first)) prp2 (len - first) (run prp1 first)) r
    (fault-anywhere (in_host (length host)) 4 prp1 first behind.0)
    (prp2-anywhere (byte_in host) (in_host (length host)) (pages_of (len - first)) prp2 (len - first) (run prp1 first) r behind.1)

-- ---- reading on in a host

-- behind a pointer the next list page begins
pub entry-behind_pointer : (host : List ℕ) (pages slots from pointer : ℕ) → slots ≡ 1 → 1 < pages
    → pointer ≡ number_at (bytes_from (byte_in host) from 8) 0 8 → IsEntryAt host pages slots from 512 pointer
unfolding entries_reading
entry-behind_pointer host zero slots from pointer last more is = absurd (omega arith)
entry-behind_pointer host (suc pages) slots from pointer last more is =
    let at_pointer : (slots == 1 && nat_lt 0 pages) ≡ true = (let above : 0 < pages = omega arith in grind (arith, nat_tests)) in
    record {
      same = λ bytes pieces r spelt.
          ap (λ (p : ℕ). in_memory (byte_in host) (read_entries (in_host (length host)) (suc pages) 512 p bytes pieces)) is
          ∙ (pointer-passed (byte_in host) (in_host (length host)) pages slots from bytes pieces r at_pointer spelt).1;
      there = λ bytes pieces r spelt.
          (let fine = pointer-passed (byte_in host) (in_host (length host)) pages slots from bytes pieces r at_pointer spelt in
          let mapped = (checked (in_host (length host)) page (number_at (bytes_from (byte_in host) from 8) 0 8) (8 * min 512 (suc pages)) fine.0).1 in
          let inside = all-in_host (length host) (number_at (bytes_from (byte_in host) from 8) 0 8) (8 * min 512 (suc pages)) mapped (omega arith) in
          omega arith);
      some = omega arith;
      no_pointer = λ more. omega arith;
    }

-- what a loop over the entries of a list keeps: the rest of the list, read behind the pieces so far, spells what the whole
-- does; and the slots that are needed lie in the host
pub record IsListing (host : List ℕ) (r : List Piece) (pages slots from bytes : ℕ) (pieces : List Piece) : Type 0 where
  pub spelt : entries_reading host pages slots from bytes pieces ≡ Spells r
  pub there : from + 8 * min slots pages ≤ length host
  pub some : 0 < pages → 0 < slots
  pub most : bytes ≤ 4096 * pages
  pub full : 4096 * pages < bytes + 4096

no_pointer : (slots pages : ℕ) → (1 < suc pages → 1 < slots) → 0 < slots → (slots == 1 && nat_lt 0 pages) ≡ false
no_pointer slots zero longer some = and-none (slots == 1)
  where
    and-none : (b : Bool) → b && false ≡ false
    and-none true = refl
    and-none false = refl
no_pointer slots (suc pages) longer some = let more : 1 < slots = longer (omega arith) in grind (arith, nat_tests)

min-some : (a b : ℕ) → 0 < a → 0 < b → 0 < min a b
min-some a b some other = omega arith

minus-min : (a b : ℕ) → a - min a b ≡ a - b
minus-min a b = omega arith

-- the slots behind one that is in the host
slots-behind : (host_len from slots pages : ℕ) → 0 < slots → from + 8 * min slots (suc pages) ≤ host_len
    → from + 8 + 8 * min (slots - 1) (suc pages - 1) ≤ host_len
slots-behind host_len from slots pages some inside = omega arith

-- one page more
pub listing-more : (host : List ℕ) (r : List Piece) (pages slots from entry_slots entry bytes len addr : ℕ) (pieces new : List Piece)
    → IsListing host r pages slots from bytes pieces → 0 < pages → IsEntryAt host pages slots from entry_slots entry
    → len ≡ min bytes 4096 → addr ≡ number_at (bytes_from (byte_in host) entry 8) 0 8 → new ≡ pieces ++ Run addr len ∷ []
    → IsListing host r (pages - 1) (entry_slots - 1) (entry + 8) (bytes - len) new
unfolding entries_reading
listing-more host r zero slots from entry_slots entry bytes len addr pieces new so_far more at is_len is_addr is_new = absurd (omega arith)
listing-more host r (suc pages) slots from entry_slots entry bytes len addr pieces new so_far more at is_len is_addr is_new =
    let spelt = at.same bytes pieces r so_far.spelt in
    let there = at.there bytes pieces r so_far.spelt in
    let longer = at.no_pointer in
    let first = at.some in
    let most = so_far.most in
    let full = so_far.full in
    let plain : (entry_slots == 1 && nat_lt 0 pages) ≡ false = no_pointer entry_slots pages longer first in
    let behind = (entry-passed (byte_in host) (in_host (length host)) pages entry_slots entry bytes pieces r plain spelt).1 in
    let size : len ≡ min bytes page = is_len in
    let some_bytes : 0 < bytes = omega arith in
    let some_len : 0 < len = rw is_len (min-some bytes 4096 some_bytes (omega arith)) in
    let less : suc pages - 1 ≡ pages = omega arith in
    let left : bytes - len ≡ bytes - page = ap (λ (n : ℕ). bytes - n) is_len ∙ minus-min bytes 4096 in
    let piece : new ≡ pieces ++ run (number_at (bytes_from (byte_in host) entry 8) 0 8) (min bytes page) =
    is_new ∙ ap (λ (ps : List Piece). pieces ++ ps) (sym (run-some addr len some_len) ∙ ap (λ (a : ℕ). run a len) is_addr
    ∙ ap (run (number_at (bytes_from (byte_in host) entry 8) 0 8)) is_len) in
    record {
      spelt =
          ap (λ (n : ℕ). in_memory (byte_in host) (read_entries (in_host (length host)) n (entry_slots - 1) (entry + 8) (bytes - len) new)) less
          ∙ ap (λ (n : ℕ). in_memory (byte_in host) (read_entries (in_host (length host)) pages (entry_slots - 1) (entry + 8) n new)) left
          ∙ ap (λ (ps : List Piece). in_memory (byte_in host) (read_entries (in_host (length host)) pages (entry_slots - 1) (entry + 8) (bytes - page) ps)) piece
          ∙ behind;
      there = slots-behind (length host) entry entry_slots pages first there;
      some = λ more. omega arith;
      most = rw left (omega arith);
      full = rw left (omega arith);
    }

-- at the list's start
pub listing-start : (host : List ℕ) (r : List Piece) (pages list bytes : ℕ) (pieces : List Piece) → list % 8 ≡ 0
    → entries_reading host pages (slots_of list) list bytes pieces ≡ Spells r → list + 8 * min (slots_of list) pages ≤ length host
    → bytes ≤ 4096 * pages → 4096 * pages < bytes + 4096 → IsListing host r pages (slots_of list) list bytes pieces
listing-start host r pages list bytes pieces aligned spelt there most full =
    record { spelt = spelt; there = there; some = λ some. omega arith; most = most; full = full }

-- at its end
pub listing-end : (host : List ℕ) (r : List Piece) (pages slots from bytes : ℕ) (pieces : List Piece)
    → IsListing host r pages slots from bytes pieces → pages ≡ 0 → r ≡ pieces
unfolding entries_reading in_memory read_entries
listing-end host r zero slots from bytes pieces so_far none = let e : Spells pieces ≡ Spells r = so_far.spelt in cc
listing-end host r (suc pages) slots from bytes pieces so_far none = absurd (omega arith)

-- ---- what is behind PRP1's page

-- what spells places behind a check is what is read behind it
passed-by : (m : ℕ → ℕ) (f : Option StatusCode) (d : Dialogue Reading) → spells (in_memory m (unless_faulty f d)) ≡ true
    → (f ≡ None) × (in_memory m (unless_faulty f d) ≡ in_memory m d)
unfolding in_memory
passed-by m None d is = (refl, refl)
passed-by m (Some code) d is = absurd (cc)

-- nothing
pub behind-none : (host : List ℕ) (pages prp2 bytes : ℕ) (pieces : List Piece) → pages ≡ 0 → behind_reading host pages prp2 bytes pieces ≡ Spells pieces
unfolding behind_reading in_memory
behind-none host pages prp2 bytes pieces none = rw none refl

-- one page
pub behind-one : (host : List ℕ) (pages prp2 bytes : ℕ) (pieces : List Piece) → pages ≡ 1 → 0 < bytes → bytes ≤ 4096
    → spells (behind_reading host pages prp2 bytes pieces) ≡ true → behind_reading host pages prp2 bytes pieces ≡ Spells (pieces ++ Run prp2 bytes ∷ [])
unfolding behind_reading in_memory
behind-one host zero prp2 bytes pieces one some most is = absurd (omega arith)
behind-one host (suc zero) prp2 bytes pieces one some most is =
    let all : min bytes page ≡ bytes = omega arith in
    (passed-by (byte_in host) (entry_fault (in_host (length host)) page prp2 (min bytes page)) (End (Spells (pieces ++ run prp2 (min bytes page)))) is).1
    ∙ ap (λ (n : ℕ). Spells (pieces ++ run prp2 n)) all
    ∙ ap (λ (ps : List Piece). Spells (pieces ++ ps)) (run-some prp2 bytes some)
behind-one host (suc (suc pages)) prp2 bytes pieces one some most is = absurd (omega arith)

-- a list, whose slots lie in the host
pub record IsListThere (host : List ℕ) (pages prp2 bytes : ℕ) (pieces : List Piece) : Type 0 where
  pub same : behind_reading host pages prp2 bytes pieces ≡ entries_reading host pages (slots_of prp2) prp2 bytes pieces
  pub aligned : prp2 % 8 ≡ 0
  pub there : prp2 + 8 * min (slots_of prp2) pages ≤ length host

pub behind-list : (host : List ℕ) (pages prp2 bytes : ℕ) (pieces : List Piece) → 1 < pages
    → spells (behind_reading host pages prp2 bytes pieces) ≡ true → IsListThere host pages prp2 bytes pieces
unfolding behind_reading entries_reading in_memory
behind-list host zero prp2 bytes pieces more is = absurd (omega arith)
behind-list host (suc zero) prp2 bytes pieces more is = absurd (omega arith)
behind-list host (suc (suc pages)) prp2 bytes pieces more is =
    let needed : ℕ = 8 * min (slots_of prp2) (suc (suc pages)) in
    let fine = passed-by (byte_in host) (entry_fault (in_host (length host)) 8 prp2 needed)
    (read_entries (in_host (length host)) (suc (suc pages)) (slots_of prp2) prp2 bytes pieces) is in
    let good = checked (in_host (length host)) 8 prp2 needed fine.0 in
    let aligned : prp2 % 8 ≡ 0 = eqb-true (prp2 % 8) 0 good.0 in
    record {
      same = fine.1;
      aligned = aligned;
      there = all-in_host (length host) prp2 needed good.1 (omega arith);
    }

-- PRP1's page, and what is behind it
pub host_reading-behind : (host : List ℕ) (prp1 prp2 len first : ℕ) (pieces : List Piece) → 0 < len → first ≡ min len (4096 - prp1 % 4096) → pieces ≡ Run prp1 first ∷ []
    → spells (host_reading host prp1 prp2 len) ≡ true
    → host_reading host prp1 prp2 len ≡ behind_reading host (pages_of (len - first)) prp2 (len - first) pieces
unfolding host_reading behind_reading
host_reading-behind host prp1 prp2 len first pieces some is_first is_pieces is =
    let whole : ℕ = first_len prp1 len in
    let some_first : 0 < first = omega arith in
    let runs : run prp1 whole ≡ pieces = ap (run prp1) (sym is_first) ∙ run-some prp1 first some_first ∙ sym is_pieces in
    (passed-by (byte_in host) (entry_fault (in_host (length host)) 4 prp1 whole)
    (read_prp2 (in_host (length host)) (pages_of (len - whole)) prp2 (len - whole) (run prp1 whole)) is).1
    ∙ ap (λ (ps : List Piece). in_memory (byte_in host) (read_prp2 (in_host (length host)) (pages_of (len - whole)) prp2 (len - whole) ps)) runs
    ∙ ap (λ (n : ℕ). in_memory (byte_in host) (read_prp2 (in_host (length host)) (pages_of (len - n)) prp2 (len - n) pieces)) (sym is_first)

-- what follows on success
pub on_ok : {A E : Type 0} (r : Result A E) (P Q : Type 0) → (P → Q) → OnOk r P → OnOk r Q
on_ok (Ok x) P Q follows p = follows p
on_ok (Err e) P Q follows p = p
