-- Whether a reading spells places, check by check
use Rattle.std.proofs.Common.{◌≡◌, ◌↔◌, IsTrue, ℕ, zero, suc, ◌+◌, ◌-◌, ◌*◌, ◌%◌, ◌<◌}
use Rattle.std.proofs.Common.{◌≤◌, min, Bool, true, false, cond, not, ◌&&◌, ◌==◌, nat_lt, List, []}
use Rattle.std.proofs.Common.{◌∷◌, ◌++◌, length, replicate, Option, Some, None, refl, sym, ap, ◌∙◌, arith, eqb-true}
use Rattle.std.specs.Prelude.{is_none}
use Rattle.std.specs.List.{list_all}
use Rattle.std.proofs.lemmas.List.Elements.{All-cons, All-head, All-nil, All-tail}
use Rattle.std.proofs.lemmas.Bool.Decides.{nat_tests}
use Rattle.nv_entry.specs.Layout.{number_at}
use Rattle.nv_entry.specs.declared.status_code.StatusCode.{StatusCode}
use Rattle.nv_entry.specs.declared.status_code.StatusCode.TheVariants.{DataTransferError, PrpOffsetInvalid}
use Rattle.nv_mem.specs.Bytes.{InMemory}
use Rattle.nv_mem.specs.GuestMap.{everywhere}
use Rattle.nv_mem.specs.Places.{At, Bucket, Place, addresses, places_of, places_of_piece}
use Rattle.nv_mem.specs.declared.piece.Piece.{Piece}
use Rattle.nv_mem.specs.declared.piece.Piece.TheVariants.{Run}
use Rattle.nv_mem.specs.declared.piece.Piece.TheVariants as piece
use Rattle.nv_model.specs.Dialogue.{Dialogue, End, in_memory}
use Rattle.nv_model.specs.Limits.{page}
use Rattle.nv_model.specs.Memory.{byte_in, bytes_from}
use Rattle.nv_model.specs.Prp.{entry_fault, first_len, pages_of, read_entries, read_prp2, slots_of}
use Rattle.nv_model.specs.Reading.{Reading, Spells, run, unless_faulty}
use Rattle.nv_disk.specs.Buffer.{AreBelow, IsBelow}
use Rattle.nv_disk.proofs.BufferLemmas.{AreBelow-behind, AreBelow-front, addresses-below}
use Rattle.nv_device.specs.Pages.{IsNextEntry, behind_reading, entries_reading, host_reading, in_host, piece_in, spells}
use Rattle.nv_device.proofs.PageLemmas.{all-in_host, checked}

-- two tests that follow from each other
same-test : (a b : Bool) → (a ≡ true → b ≡ true) → (b ≡ true → a ≡ true) → a ≡ b
same-test true b right left = sym (right refl)
same-test false true right left = let e : false ≡ true = left refl in cc
same-test false false right left = refl

-- ---- one check

-- addresses that lie in the host
pub in_host-all : (host_len addr len : ℕ) → addr + len ≤ host_len → everywhere (in_host host_len) addr len ≡ true
unfolding everywhere
in_host-all host_len addr zero inside = refl
in_host-all host_len addr (suc len) inside =
    let below : nat_lt (addr + len) host_len ≡ true = (let less : addr + len < host_len = omega arith in grind (arith, nat_tests)) in
    ap (λ (b : Bool). b && everywhere (in_host host_len) addr len) below ∙ in_host-all host_len addr len (omega arith)

everywhere-none : (host_len addr len : ℕ) → len ≡ 0 → everywhere (in_host host_len) addr len ≡ true
unfolding everywhere
everywhere-none host_len addr zero none = refl
everywhere-none host_len addr (suc len) none = absurd (omega arith)

-- the test of a host is the check's
pub holds-everywhere : (holds : Bool) (host_len addr len : ℕ) → IsTrue holds ↔ InMemory host_len addr len → holds ≡ everywhere (in_host host_len) addr len
holds-everywhere holds host_len addr len tells =
    same-test holds (everywhere (in_host host_len) addr len) (λ is. by_len len (tells.0 is)) (λ all. tells.1 (λ some. all-in_host host_len addr len all some))
  where
    by_len : (n : ℕ) → InMemory host_len addr n → everywhere (in_host host_len) addr n ≡ true
    by_len zero inside = everywhere-none host_len addr zero refl
    by_len (suc n) inside = in_host-all host_len addr (suc n) (inside (omega arith))

-- an entry passes where it is aligned and its bytes are there
pub passes-both : (mapped : ℕ → Bool) (alignment addr len : ℕ) → is_none (entry_fault mapped alignment addr len) ≡ (addr % alignment == 0) && everywhere mapped addr len
passes-both mapped alignment addr len = both (addr % alignment == 0) (everywhere mapped addr len)
  where
    both : (a b : Bool) → is_none (cond (not a) (Some PrpOffsetInvalid) (cond (not b) (Some DataTransferError) None)) ≡ a && b
    both true true = refl
    both true false = refl
    both false b = refl

-- what is behind a check spells places where the check is passed and it does
spells-behind : (m : ℕ → ℕ) (f : Option StatusCode) (d : Dialogue Reading) → spells (in_memory m (unless_faulty f d)) ≡ is_none f && spells (in_memory m d)
unfolding in_memory
spells-behind m None d = refl
spells-behind m (Some code) d = refl

-- ---- one slot

branch : (m : ℕ → ℕ) (b c : Bool) (d e : Dialogue Reading) → b ≡ c → in_memory m (cond b d e) ≡ in_memory m (cond c d e)
branch m b c d e is = ap (λ (x : Bool). in_memory m (cond x d e)) is

-- an entry
pub spells-entry : (m : ℕ → ℕ) (mapped : ℕ → Bool) (pages slots from bytes : ℕ) (pieces : List Piece) → (slots == 1 && nat_lt 0 pages) ≡ false
    → spells (in_memory m (read_entries mapped (suc pages) slots from bytes pieces))
    ≡ is_none (entry_fault mapped page (number_at (bytes_from m from 8) 0 8) (min bytes page))
    && spells (in_memory m (read_entries mapped pages (slots - 1) (from + 8) (bytes - page) (pieces ++ run (number_at (bytes_from m from 8) 0 8) (min bytes page))))
unfolding in_memory read_entries
spells-entry m mapped pages slots from bytes pieces plain =
    ap spells (branch m (slots == 1 && nat_lt 0 pages) false _ _ plain)
    ∙ spells-behind m (entry_fault mapped page (number_at (bytes_from m from 8) 0 8) (min bytes page))
    (read_entries mapped pages (slots - 1) (from + 8) (bytes - page) (pieces ++ run (number_at (bytes_from m from 8) 0 8) (min bytes page)))

-- a pointer
pub spells-pointer : (m : ℕ → ℕ) (mapped : ℕ → Bool) (pages slots from bytes : ℕ) (pieces : List Piece) → (slots == 1 && nat_lt 0 pages) ≡ true
    → spells (in_memory m (read_entries mapped (suc pages) slots from bytes pieces))
    ≡ is_none (entry_fault mapped page (number_at (bytes_from m from 8) 0 8) (8 * min 512 (suc pages)))
    && spells (in_memory m (read_entries mapped (suc pages) 512 (number_at (bytes_from m from 8) 0 8) bytes pieces))
unfolding in_memory read_entries
spells-pointer m mapped pages slots from bytes pieces last =
    ap spells (branch m (slots == 1 && nat_lt 0 pages) true _ _ last)
    ∙ spells-behind m (entry_fault mapped page (number_at (bytes_from m from 8) 0 8) (8 * min 512 (suc pages)))
    (read_entries mapped (suc pages) 512 (number_at (bytes_from m from 8) 0 8) bytes pieces)

-- ---- reading on in a host

-- a pointer that fits leads on, and with one that does not nothing is spelled
pub next-pointer : (host : List ℕ) (pages slots from pointer : ℕ) → slots ≡ 1 → 1 < pages → pointer ≡ number_at (bytes_from (byte_in host) from 8) 0 8
    → is_none (entry_fault (in_host (length host)) page pointer (8 * min 512 pages)) ≡ true → IsNextEntry host pages slots from 512 pointer
unfolding entries_reading
next-pointer host zero slots from pointer last more is fits = absurd (omega arith)
next-pointer host (suc pages) slots from pointer last more is fits =
    let at_pointer : (slots == 1 && nat_lt 0 pages) ≡ true = (let above : 0 < pages = omega arith in grind (arith, nat_tests)) in
    let fault : Option StatusCode = entry_fault (in_host (length host)) page pointer (8 * min 512 (suc pages)) in
    let good = checked (in_host (length host)) page pointer (8 * min 512 (suc pages)) (none-is fault fits) in
    record {
      same = λ bytes pieces.
          spells-pointer (byte_in host) (in_host (length host)) pages slots from bytes pieces at_pointer
          ∙ ap (λ (p : ℕ). is_none (entry_fault (in_host (length host)) page p (8 * min 512 (suc pages)))
          && spells (in_memory (byte_in host) (read_entries (in_host (length host)) (suc pages) 512 p bytes pieces))) (sym is)
          ∙ ap (λ (b : Bool). b && spells (in_memory (byte_in host) (read_entries (in_host (length host)) (suc pages) 512 pointer bytes pieces))) fits;
      there = all-in_host (length host) pointer (8 * min 512 (suc pages)) good.1 (omega arith);
      some = omega arith;
      no_pointer = λ more. omega arith;
    }
  where
    none-is : (f : Option StatusCode) → is_none f ≡ true → f ≡ None
    none-is None is = refl
    none-is (Some code) is = (let e : false ≡ true = is in cc)

pub no-pointer_spells : (host : List ℕ) (pages slots from pointer : ℕ) → slots ≡ 1 → 1 < pages → pointer ≡ number_at (bytes_from (byte_in host) from 8) 0 8
    → is_none (entry_fault (in_host (length host)) page pointer (8 * min 512 pages)) ≡ false
    → (bytes : ℕ) (pieces : List Piece) → spells (entries_reading host pages slots from bytes pieces) ≡ false
unfolding entries_reading
no-pointer_spells host zero slots from pointer last more is fails bytes pieces = absurd (omega arith)
no-pointer_spells host (suc pages) slots from pointer last more is fails bytes pieces =
    let at_pointer : (slots == 1 && nat_lt 0 pages) ≡ true = (let above : 0 < pages = omega arith in grind (arith, nat_tests)) in
    spells-pointer (byte_in host) (in_host (length host)) pages slots from bytes pieces at_pointer
    ∙ ap (λ (p : ℕ). is_none (entry_fault (in_host (length host)) page p (8 * min 512 (suc pages)))
    && spells (in_memory (byte_in host) (read_entries (in_host (length host)) (suc pages) 512 p bytes pieces))) (sym is)
    ∙ ap (λ (b : Bool). b && spells (in_memory (byte_in host) (read_entries (in_host (length host)) (suc pages) 512 pointer bytes pieces))) fails

-- what a loop over the entries of a list keeps
pub record IsSpelling (host : List ℕ) (all list whole pages slots from bytes : ℕ) : Type 0 where
  pub same : (front : List Piece) → (pieces : List Piece) × (spells (entries_reading host all (slots_of list) list whole front)
      ≡ spells (entries_reading host pages slots from bytes pieces))
  pub there : from + 8 * min slots pages ≤ length host
  pub some : 0 < pages → 0 < slots
  pub most : bytes ≤ 4096 * pages
  pub full : 4096 * pages < bytes + 4096

pub spelling-start : (host : List ℕ) (pages list bytes : ℕ) → list % 8 ≡ 0 → list + 8 * min (slots_of list) pages ≤ length host
    → bytes ≤ 4096 * pages → 4096 * pages < bytes + 4096 → IsSpelling host pages list bytes pages (slots_of list) list bytes
spelling-start host pages list bytes aligned there most full =
    record { same = λ front. (front, refl); there = there; some = λ some. omega arith; most = most; full = full }

pub spelling-end : (host : List ℕ) (all list whole pages slots from bytes : ℕ) → IsSpelling host all list whole pages slots from bytes → pages ≡ 0
    → (front : List Piece) → true ≡ spells (entries_reading host all (slots_of list) list whole front)
unfolding entries_reading in_memory read_entries
spelling-end host all list whole zero slots from bytes so_far none front = sym (so_far.same front).1
spelling-end host all list whole (suc pages) slots from bytes so_far none front = absurd (omega arith)

-- where there is no next entry nothing is spelled
pub spelling-none : (host : List ℕ) (all list whole pages slots from bytes : ℕ) → IsSpelling host all list whole pages slots from bytes
    → ((bytes : ℕ) (pieces : List Piece) → spells (entries_reading host pages slots from bytes pieces) ≡ false)
    → (front : List Piece) → false ≡ spells (entries_reading host all (slots_of list) list whole front)
spelling-none host all list whole pages slots from bytes so_far none front =
    let behind = so_far.same front in sym (behind.1 ∙ none bytes behind.0)

-- the next entry, and what is read behind it
entry-spells : (host : List ℕ) (pages slots from entry_slots entry bytes addr : ℕ) (pieces : List Piece) → IsNextEntry host (suc pages) slots from entry_slots entry
    → addr ≡ number_at (bytes_from (byte_in host) entry 8) 0 8
    → spells (entries_reading host (suc pages) slots from bytes pieces)
    ≡ is_none (entry_fault (in_host (length host)) page addr (min bytes page))
    && spells (entries_reading host pages (entry_slots - 1) (entry + 8) (bytes - page) (pieces ++ run addr (min bytes page)))
unfolding entries_reading
entry-spells host pages slots from entry_slots entry bytes addr pieces next is =
    let plain : (entry_slots == 1 && nat_lt 0 pages) ≡ false = plain-slot entry_slots pages next.no_pointer next.some in
    next.same bytes pieces
    ∙ spells-entry (byte_in host) (in_host (length host)) pages entry_slots entry bytes pieces plain
    ∙ ap (λ (a : ℕ). is_none (entry_fault (in_host (length host)) page a (min bytes page))
    && spells (in_memory (byte_in host) (read_entries (in_host (length host)) pages (entry_slots - 1) (entry + 8) (bytes - page) (pieces ++ run a (min bytes page))))) (sym is)
  where
    plain-slot : (slots pages : ℕ) → (1 < suc pages → 1 < slots) → 0 < slots → (slots == 1 && nat_lt 0 pages) ≡ false
    plain-slot slots zero longer some = and-none (slots == 1)
      where
        and-none : (b : Bool) → b && false ≡ false
        and-none true = refl
        and-none false = refl
    plain-slot slots (suc pages) longer some = (let more : 1 < slots = longer (omega arith) in grind (arith, nat_tests))

-- an entry that does not fit
pub spelling-fails : (host : List ℕ) (all list whole pages slots from bytes entry_slots entry addr len : ℕ) → IsSpelling host all list whole pages slots from bytes → 0 < pages
    → IsNextEntry host pages slots from entry_slots entry → addr ≡ number_at (bytes_from (byte_in host) entry 8) 0 8 → len ≡ min bytes 4096
    → is_none (entry_fault (in_host (length host)) page addr len) ≡ false
    → (front : List Piece) → false ≡ spells (entries_reading host all (slots_of list) list whole front)
spelling-fails host all list whole zero slots from bytes entry_slots entry addr len so_far some next is size fails front = absurd (omega arith)
spelling-fails host all list whole (suc pages) slots from bytes entry_slots entry addr len so_far some next is size fails front =
    let behind = so_far.same front in
    sym (behind.1 ∙ entry-spells host pages slots from entry_slots entry bytes addr behind.0 next is
    ∙ ap (λ (n : ℕ). is_none (entry_fault (in_host (length host)) page addr n)
    && spells (entries_reading host pages (entry_slots - 1) (entry + 8) (bytes - page) (behind.0 ++ run addr (min bytes page)))) (sym size)
    ∙ ap (λ (b : Bool). b && spells (entries_reading host pages (entry_slots - 1) (entry + 8) (bytes - page) (behind.0 ++ run addr (min bytes page)))) fails)

-- and one that does
pub spelling-more : (host : List ℕ) (all list whole pages slots from bytes entry_slots entry addr len : ℕ) → IsSpelling host all list whole pages slots from bytes → 0 < pages
    → IsNextEntry host pages slots from entry_slots entry → addr ≡ number_at (bytes_from (byte_in host) entry 8) 0 8 → len ≡ min bytes 4096
    → is_none (entry_fault (in_host (length host)) page addr len) ≡ true
    → IsSpelling host all list whole (pages - 1) (entry_slots - 1) (entry + 8) (bytes - len)
spelling-more host all list whole zero slots from bytes entry_slots entry addr len so_far some next is size fits = absurd (omega arith)
spelling-more host all list whole (suc pages) slots from bytes entry_slots entry addr len so_far some next is size fits =
    let there = next.there in
    let longer = next.no_pointer in
    let first = next.some in
    let most = so_far.most in
    let full = so_far.full in
    let less : suc pages - 1 ≡ pages = omega arith in
    let left : bytes - len ≡ bytes - page = omega arith in
    record {
      same = λ front.
          (let behind = so_far.same front in (
            behind.0 ++ run addr (min bytes page),
            behind.1 ∙ entry-spells host pages slots from entry_slots entry bytes addr behind.0 next is
                ∙ ap (λ (n : ℕ). is_none (entry_fault (in_host (length host)) page addr n)
                && spells (entries_reading host pages (entry_slots - 1) (entry + 8) (bytes - page) (behind.0 ++ run addr (min bytes page)))) (sym size)
                ∙ ap (λ (b : Bool). b && spells (entries_reading host pages (entry_slots - 1) (entry + 8) (bytes - page) (behind.0 ++ run addr (min bytes page)))) fits
                ∙ ap (λ (n : ℕ). spells (entries_reading host n (entry_slots - 1) (entry + 8) (bytes - page) (behind.0 ++ run addr (min bytes page)))) (sym less)
                ∙ ap (λ (n : ℕ). spells (entries_reading host (suc pages - 1) (entry_slots - 1) (entry + 8) n (behind.0 ++ run addr (min bytes page)))) (sym left),
          ));
      there = omega arith;
      some = λ more. omega arith;
      most = rw left (omega arith);
      full = rw left (omega arith);
    }

-- ---- the whole

and-true : (b : Bool) → b && true ≡ b
and-true true = refl
and-true false = refl

-- nothing is behind PRP1's page
pub spells-none : (host : List ℕ) (pages prp2 bytes : ℕ) (pieces : List Piece) → pages ≡ 0 → true ≡ spells (behind_reading host pages prp2 bytes pieces)
unfolding behind_reading in_memory
spells-none host zero prp2 bytes pieces none = refl
spells-none host (suc pages) prp2 bytes pieces none = absurd (omega arith)

-- one page
pub spells-one : (host : List ℕ) (pages prp2 bytes : ℕ) (pieces : List Piece) → pages ≡ 1 → bytes ≤ 4096
    → is_none (entry_fault (in_host (length host)) page prp2 bytes) ≡ spells (behind_reading host pages prp2 bytes pieces)
unfolding behind_reading in_memory
spells-one host zero prp2 bytes pieces one most = absurd (omega arith)
spells-one host (suc zero) prp2 bytes pieces one most =
    let all : bytes ≡ min bytes page = omega arith in
    ap (λ (n : ℕ). is_none (entry_fault (in_host (length host)) page prp2 n)) all
    ∙ sym (spells-behind (byte_in host) (entry_fault (in_host (length host)) page prp2 (min bytes page)) (End (Spells (pieces ++ run prp2 (min bytes page))))
    ∙ and-true (is_none (entry_fault (in_host (length host)) page prp2 (min bytes page))))
spells-one host (suc (suc pages)) prp2 bytes pieces one most = absurd (omega arith)

-- a list
pub spells-list : (host : List ℕ) (pages prp2 bytes : ℕ) (pieces : List Piece) → 1 < pages
    → spells (behind_reading host pages prp2 bytes pieces)
    ≡ is_none (entry_fault (in_host (length host)) 8 prp2 (8 * min (slots_of prp2) pages)) && spells (entries_reading host pages (slots_of prp2) prp2 bytes pieces)
unfolding behind_reading entries_reading in_memory
spells-list host zero prp2 bytes pieces more = absurd (omega arith)
spells-list host (suc zero) prp2 bytes pieces more = absurd (omega arith)
spells-list host (suc (suc pages)) prp2 bytes pieces more =
    spells-behind (byte_in host) (entry_fault (in_host (length host)) 8 prp2 (8 * min (slots_of prp2) (suc (suc pages))))
    (read_entries (in_host (length host)) (suc (suc pages)) (slots_of prp2) prp2 bytes pieces)

-- PRP1, and what is behind its page
pub spells-whole : (host : List ℕ) (prp1 prp2 len first : ℕ) → first ≡ min len (4096 - prp1 % 4096)
    → spells (host_reading host prp1 prp2 len)
    ≡ is_none (entry_fault (in_host (length host)) 4 prp1 first) && spells (behind_reading host (pages_of (len - first)) prp2 (len - first) (run prp1 first))
unfolding host_reading behind_reading
spells-whole host prp1 prp2 len first is =
    spells-behind (byte_in host) (entry_fault (in_host (length host)) 4 prp1 (first_len prp1 len))
    (read_prp2 (in_host (length host)) (pages_of (len - first_len prp1 len)) prp2 (len - first_len prp1 len) (run prp1 (first_len prp1 len)))
    ∙ ap (λ (n : ℕ). is_none (entry_fault (in_host (length host)) 4 prp1 n)
    && spells (in_memory (byte_in host) (read_prp2 (in_host (length host)) (pages_of (len - n)) prp2 (len - n) (run prp1 n)))) (sym is)

-- a list that fits has its slots in the host
pub list-there : (host : List ℕ) (prp2 pages : ℕ) → 1 < pages
    → is_none (entry_fault (in_host (length host)) 8 prp2 (8 * min (slots_of prp2) pages)) ≡ true
    → prp2 + 8 * min (slots_of prp2) pages ≤ length host
list-there host prp2 pages more fits =
    let good = both (prp2 % 8 == 0) (everywhere (in_host (length host)) prp2 (8 * min (slots_of prp2) pages))
    (sym (passes-both (in_host (length host)) 8 prp2 (8 * min (slots_of prp2) pages)) ∙ fits) in
    let aligned : prp2 % 8 ≡ 0 = eqb-true (prp2 % 8) 0 good.0 in
    let some : 0 < slots_of prp2 = omega arith in
    all-in_host (length host) prp2 (8 * min (slots_of prp2) pages) good.1 (omega arith)
  where
    both : (a b : Bool) → a && b ≡ true → (a ≡ true) × (b ≡ true)
    both true b is = (refl, is)
    both false b is = (let e : false ≡ true = is in absurd (cc))

-- ---- pieces

-- addresses that lie in the host are below its length
addresses-in : (host_len addr len : ℕ) → addr + len ≤ host_len → AreBelow host_len (addresses addr len)
unfolding addresses
addresses-in host_len addr zero inside = All-nil (IsBelow host_len)
addresses-in host_len addr (suc len) inside =
    All-cons (IsBelow host_len) (At addr) (addresses (addr + 1) len) (omega arith) (addresses-in host_len (addr + 1) len (omega arith))

buckets-in : (host_len len : ℕ) → AreBelow host_len (replicate len Bucket)
buckets-in host_len zero = All-nil (IsBelow host_len)
buckets-in host_len (suc len) = All-cons (IsBelow host_len) Bucket (replicate len Bucket) tt (buckets-in host_len len)

-- so do those of a piece that lies there, and of no other
piece-below : (host_len : ℕ) (p : Piece) → piece_in host_len p ≡ true → AreBelow host_len (places_of_piece p)
unfolding addresses
piece-below host_len (Run addr zero) is = All-nil (IsBelow host_len)
piece-below host_len (Run addr (suc len)) is = addresses-in host_len addr (suc len) (all-in_host host_len addr (suc len) is (omega arith))
piece-below host_len (piece.Bucket len) is = buckets-in host_len len

below-piece : (host_len : ℕ) (p : Piece) → AreBelow host_len (places_of_piece p) → piece_in host_len p ≡ true
below-piece host_len (Run addr zero) below = everywhere-none host_len addr zero refl
below-piece host_len (Run addr (suc len)) below = in_host-all host_len addr (suc len) (addresses-below host_len addr (suc len) (omega arith) below)
below-piece host_len (piece.Bucket len) below = refl

below-joined : (host_len : ℕ) (xs ys : List Place) → AreBelow host_len xs → AreBelow host_len ys → AreBelow host_len (xs ++ ys)
below-joined host_len [] ys front rest = rest
below-joined host_len (x ∷ xs) ys front rest =
    All-cons (IsBelow host_len) x (xs ++ ys) (All-head (IsBelow host_len) x xs front) (below-joined host_len xs ys (All-tail (IsBelow host_len) x xs front) rest)

-- and of all
pub pieces-below : (host_len : ℕ) (ps : List Piece) → list_all (piece_in host_len) ps ≡ true → AreBelow host_len (places_of ps)
pieces-below host_len [] is = All-nil (IsBelow host_len)
pieces-below host_len (p ∷ ps) is =
    let good = two (piece_in host_len p) (list_all (piece_in host_len) ps) is in
    below-joined host_len (places_of_piece p) (places_of ps) (piece-below host_len p good.0) (pieces-below host_len ps good.1)
  where
    two : (a b : Bool) → a && b ≡ true → (a ≡ true) × (b ≡ true)
    two true b is = (refl, is)
    two false b is = (let e : false ≡ true = is in absurd (cc))

pub below-pieces : (host_len : ℕ) (ps : List Piece) → AreBelow host_len (places_of ps) → list_all (piece_in host_len) ps ≡ true
below-pieces host_len [] below = refl
below-pieces host_len (p ∷ ps) below =
    ap (λ (b : Bool). b && list_all (piece_in host_len) ps) (below-piece host_len p (AreBelow-front host_len (places_of_piece p) (places_of ps) below))
    ∙ below-pieces host_len ps (AreBelow-behind host_len (places_of_piece p) (places_of ps) below)
