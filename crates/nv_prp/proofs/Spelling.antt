-- Lemmas on what built PRPs spell.
use Rattle.std.proofs.Common.{◌≡◌, ℕ, zero, suc, ◌+◌, ◌-◌, ◌*◌, ◌%◌, ◌≤◌, min, Bool, true}
use Rattle.std.proofs.Common.{false, cond, not, ◌&&◌, ◌==◌, nat_lt, List, [], ◌∷◌, ◌++◌, length}
use Rattle.std.proofs.Common.{map, take, replicate, Option, Some, None, arith, refl, sym, ap, subst, ◌∙◌, append_assoc, append-nil, eq-eqb}
use Rattle.std.specs.List.{filter, range_with_len}
use Rattle.std.proofs.Math.Seq.{take-append_seam}
use Rattle.std.proofs.lemmas.Bool.Decides.{nat_tests}
use Rattle.std.proofs.lemmas.Grind.{flat_map-append}
use Rattle.std.proofs.lemmas.List.{map-append}
use Rattle.nv_entry.specs.declared.status_code.StatusCode.{StatusCode}
use Rattle.nv_entry.specs.declared.status_code.StatusCode.TheVariants.{DataTransferError, PrpOffsetInvalid}
use Rattle.nv_mem.specs.GuestMap.{everywhere}
use Rattle.nv_mem.specs.Places.{Place, At, addresses, places_of, places_of_piece}
use Rattle.nv_mem.specs.declared.piece.Piece.{Piece}
use Rattle.nv_model.specs.Dialogue.{Dialogue, End, in_memory}
use Rattle.nv_model.specs.Prp.{entry_fault, first_len, pages_of, read_entries, read_page, read_prp, read_prp2, slots_of}
use Rattle.nv_model.specs.Limits.{page}
use Rattle.nv_model.specs.Reading.{Reading, Spells, unless_faulty, run}
use Rattle.nv_prp.specs.Built.{built, entries_of, listed, padded, prp2_by, starts_page}
use Rattle.nv_prp.specs.Spelled.{reading_of, HoldsList, HoldsNumbers, SpellsAddresses}
use Rattle.nv_prp.specs.Fits.{fit_behind, fit_prp, may_follow}
use Rattle.nv_prp.proofs.Cursors.{behind_slot, read_prp2-list, run-some}
use Rattle.nv_prp.proofs.Pages.{ArePages, page_more, paged, room_from, Paged-fit, both}
use Rattle.nv_prp.proofs.Shown.{in_memory-entries}

-- ---- nothing is refused

-- every address may be named
abbrev pub all : ℕ → Bool
all = λ _. true

everywhere-all : (addr len : ℕ) → everywhere all addr len ≡ true
unfolding everywhere
everywhere-all addr zero = refl
everywhere-all addr (suc len) = everywhere-all addr len

-- so an entry is refused for its offset alone
entry-fine : (alignment addr len : ℕ) → addr % alignment ≡ 0 → entry_fault all alignment addr len ≡ None
entry-fine alignment addr len aligned =
    ap (λ (b : Bool). cond (not b) (Some PrpOffsetInvalid) (cond (not (everywhere all addr len)) (Some DataTransferError) None)) (eq-eqb (addr % alignment) 0 aligned)
    ∙ ap (λ (b : Bool). cond (not b) (Some DataTransferError) None) (everywhere-all addr len)

-- ---- the runs of pages

-- the runs of `bytes` bytes in these pages
abbrev pub paged_runs : List ℕ → ℕ → List Piece
paged_runs [] bytes = []
paged_runs (entry ∷ entries) bytes = run entry (min bytes page) ++ paged_runs entries (bytes - page)

-- a page entry that is not refused
unrefused : (m : ℕ → ℕ) (alignment addr len : ℕ) (d : Dialogue Reading) → addr % alignment ≡ 0
    → in_memory m (unless_faulty (entry_fault all alignment addr len) d) ≡ in_memory m d
unrefused m alignment addr len d aligned =
    ap (λ (f : Option StatusCode). in_memory m (unless_faulty f d)) (entry-fine alignment addr len aligned)

no_pointer : (slots more : ℕ) → suc more ≤ slots → (slots == 1 && nat_lt 0 more) ≡ false
no_pointer slots more fits = grind (arith, nat_tests)

-- the entries of a list that has a slot for each
read_entries-spelt : (m : ℕ → ℕ) (entries : List ℕ) (slots from bytes : ℕ) (pieces : List Piece) → ArePages entries
    → length entries ≤ slots → HoldsNumbers m from entries
    → in_memory m (read_entries all (length entries) slots from bytes pieces) ≡ Spells (pieces ++ paged_runs entries bytes)
unfolding in_memory read_entries HoldsNumbers
read_entries-spelt m [] slots from bytes pieces aligned fits holds =
    ap (λ (ps : List Piece). Spells ps) (sym (append-nil pieces))
read_entries-spelt m (entry ∷ entries) slots from bytes pieces (page_more _ _ starts aligned) fits holds =
    let more : List Piece = pieces ++ run entry (min bytes page) in
    in_memory-entries m all (length entries) slots from bytes pieces
    ∙ ap (λ (v : ℕ). in_memory m (behind_slot all (length entries) slots from bytes pieces v)) holds.0
    ∙ ap
    (λ (b : Bool).
    in_memory m
    (cond b (unless_faulty (entry_fault all page entry (8 * min 512 (suc (length entries)))) (read_entries all (suc (length entries)) 512 entry bytes pieces))
    (read_page all bytes pieces (λ rs. read_entries all (length entries) (slots - 1) (from + 8) (bytes - page) rs) entry)))
    (no_pointer slots (length entries) fits)
    ∙ unrefused m page entry (min bytes page) (read_entries all (length entries) (slots - 1) (from + 8) (bytes - page) more) starts
    ∙ read_entries-spelt m entries (slots - 1) (from + 8) (bytes - page) more aligned (omega arith) holds.1
    ∙ ap (λ (ps : List Piece). Spells ps) (append_assoc pieces (run entry (min bytes page)) (paged_runs entries (bytes - page)))

-- what PRP2 names
read_prp2-spelt : (m : ℕ → ℕ) (list_page pages : ℕ) (entries : List ℕ) (bytes : ℕ) (pieces : List Piece)
    → pages ≡ length entries → ArePages entries → length entries ≤ 512
    → list_page % 4096 ≡ 0 → HoldsNumbers m list_page (listed entries)
    → in_memory m (read_prp2 all pages (prp2_by list_page entries) bytes pieces) ≡ Spells (pieces ++ paged_runs entries bytes)
unfolding in_memory
read_prp2-spelt m list_page pages [] bytes pieces count aligned fits starts holds =
    ap (λ (n : ℕ). in_memory m (read_prp2 all n 0 bytes pieces)) count
    ∙ ap (λ (ps : List Piece). Spells ps) (sym (append-nil pieces))
read_prp2-spelt m list_page pages (entry ∷ []) bytes pieces count (page_more _ _ at aligned) fits starts holds =
    ap (λ (n : ℕ). in_memory m (read_prp2 all n entry bytes pieces)) count
    ∙ unrefused m page entry (min bytes page) (End (Spells (pieces ++ run entry (min bytes page)))) at
    ∙ ap (λ (ps : List Piece). Spells (pieces ++ ps)) (sym (append-nil (run entry (min bytes page))))
read_prp2-spelt m list_page pages (entry ∷ next ∷ entries) bytes pieces count aligned fits starts holds =
    let es : List ℕ = entry ∷ next ∷ entries in
    let slots : slots_of list_page ≡ 512 = omega arith in
    let eight : list_page % 8 ≡ 0 = omega arith in
    ap (λ (n : ℕ). in_memory m (read_prp2 all n list_page bytes pieces)) count
    ∙ ap (in_memory m) (read_prp2-list all (length es) list_page bytes pieces (omega arith))
    ∙ unrefused m 8 list_page (8 * min (slots_of list_page) (length es)) (read_entries all (length es) (slots_of list_page) list_page bytes pieces) eight
    ∙ ap (λ (n : ℕ). in_memory m (read_entries all (length es) n list_page bytes pieces)) slots
    ∙ read_entries-spelt m es 512 list_page bytes pieces aligned fits holds

-- ---- the places of runs

-- a run's places are its addresses
places_of-run : (addr len : ℕ) → places_of (run addr len) ≡ map At (range_with_len addr len)
unfolding addresses
places_of-run addr zero = refl
places_of-run addr (suc len) =
    ap (λ (ps : List Piece). places_of ps) (run-some addr (suc len) (omega arith))
    ∙ append-nil (map At (range_with_len addr (suc len)))

places_of-append : (ps qs : List Piece) → places_of (ps ++ qs) ≡ places_of ps ++ places_of qs
places_of-append ps qs = flat_map-append places_of_piece ps qs

-- and those of pages their addresses
places_of-paged : (entries : List ℕ) (bytes : ℕ) → places_of (paged_runs entries bytes) ≡ map At (paged entries bytes)
places_of-paged [] bytes = refl
places_of-paged (entry ∷ entries) bytes =
    places_of-append (run entry (min bytes page)) (paged_runs entries (bytes - page))
    ∙ ap (λ (ps : List Place). ps ++ places_of (paged_runs entries (bytes - page))) (places_of-run entry (min bytes page))
    ∙ ap (λ (ps : List Place). map At (range_with_len entry (min bytes page)) ++ ps) (places_of-paged entries (bytes - page))
    ∙ sym (map-append At (range_with_len entry (min bytes page)) (paged entries (bytes - page)))

-- ---- what is built spells the addresses

-- what is read of a list of addresses that is not empty, wherever its list stands
built-reads-some : (m : ℕ → ℕ) (list_page addr : ℕ) (addresses : List ℕ) → fit_behind None (addr ∷ addresses) ≡ true
    → suc (length addresses) ≤ 131072 → list_page % 4096 ≡ 0
    → HoldsNumbers m list_page (listed (filter starts_page addresses))
    → in_memory m (read_prp all addr (prp2_by list_page (filter starts_page addresses)) (suc (length addresses)))
    ≡ Spells (run addr (first_len addr (suc (length addresses))) ++ paged_runs (filter starts_page addresses) (suc (length addresses) - first_len addr (suc (length addresses))))
unfolding fit_behind
built-reads-some m list_page addr addresses fit most starts holds =
    let es : List ℕ = filter starts_page addresses in
    let n : ℕ = suc (length addresses) in
    let first : ℕ = first_len addr n in
    let parts = both (may_follow None addr) (fit_behind (Some (addr + 1)) addresses) fit in
    let four : addr % 4 ≡ 0 = let is = parts.0 in grind (arith, nat_tests) in
    let paged_so = Paged-fit (addr + 1) addresses parts.1 in
    let count = paged_so.count in
    let left : n - first ≡ length addresses - room_from (addr + 1) = omega arith in
    let pages : pages_of (n - first) ≡ length es = ap (λ (k : ℕ). pages_of k) left ∙ sym count in
    let few : length es ≤ 512 = omega (arith, count) in
    unrefused m 4 addr first (read_prp2 all (pages_of (n - first)) (prp2_by list_page es) (n - first) (run addr first)) four
    ∙ read_prp2-spelt m list_page (pages_of (n - first)) es (n - first) (run addr first) pages paged_so.aligned few starts holds

-- a list of addresses that is not empty
built-spells-some : (m : ℕ → ℕ) (list_page addr : ℕ) (addresses : List ℕ) → fit_behind None (addr ∷ addresses) ≡ true
    → suc (length addresses) ≤ 131072 → list_page % 4096 ≡ 0
    → HoldsNumbers m list_page (listed (filter starts_page addresses))
    → SpellsAddresses (addr ∷ addresses) (in_memory m (read_prp all addr (prp2_by list_page (filter starts_page addresses)) (suc (length addresses))))
unfolding fit_behind
built-spells-some m list_page addr addresses fit most starts holds =
    let es : List ℕ = filter starts_page addresses in
    let n : ℕ = suc (length addresses) in
    let first : ℕ = first_len addr n in
    let parts = both (may_follow None addr) (fit_behind (Some (addr + 1)) addresses) fit in
    let paged_so = Paged-fit (addr + 1) addresses parts.1 in
    let left : n - first ≡ length addresses - room_from (addr + 1) = omega arith in
    let row : first ≡ suc (min (length addresses) (room_from (addr + 1))) = omega arith in
    let read = built-reads-some m list_page addr addresses fit most starts holds in
    let places : places_of (run addr first ++ paged_runs es (n - first)) ≡ map At (addr ∷ addresses) =
    places_of-append (run addr first) (paged_runs es (n - first))
    ∙ ap (λ (ps : List Place). ps ++ places_of (paged_runs es (n - first))) (places_of-run addr first)
    ∙ ap (λ (ps : List Place). map At (range_with_len addr first) ++ ps) (places_of-paged es (n - first))
    ∙ sym (map-append At (range_with_len addr first) (paged es (n - first)))
    ∙ ap (λ (k : ℕ). map At (range_with_len addr k ++ paged es (n - first))) row
    ∙ ap (λ (k : ℕ). map At (range_with_len addr (suc (min (length addresses) (room_from (addr + 1)))) ++ paged es k)) left
    ∙ ap (λ (xs : List ℕ). map At (addr ∷ xs)) (sym paged_so.rows) in
    subst (SpellsAddresses (addr ∷ addresses)) (sym read) places

pub built-spells : (m : ℕ → ℕ) (list_page : ℕ) (addresses : List ℕ) → fit_prp addresses ≡ true
    → length addresses ≤ 131072 → list_page % 4096 ≡ 0
    → HoldsList m list_page (built list_page addresses)
    → SpellsAddresses addresses (reading_of m (built list_page addresses) (length addresses))
unfolding built in_memory everywhere
built-spells m list_page [] fit most starts holds = refl
built-spells m list_page (addr ∷ addresses) fit most starts holds =
    built-spells-some m list_page addr addresses fit most starts
    (subst (HoldsNumbers m list_page) (take-append_seam (listed (filter starts_page addresses)) (replicate (32 - length (listed (filter starts_page addresses))) 0)) holds)

-- and reads the same wherever its list stands
pub built-same : (m other : ℕ → ℕ) (list_page : ℕ) (addresses : List ℕ) → fit_prp addresses ≡ true
    → length addresses ≤ 131072 → list_page % 4096 ≡ 0
    → HoldsList m list_page (built list_page addresses) → HoldsList other list_page (built list_page addresses)
    → reading_of m (built list_page addresses) (length addresses) ≡ reading_of other (built list_page addresses) (length addresses)
unfolding built in_memory everywhere
built-same m other list_page [] fit most starts holds also = refl
built-same m other list_page (addr ∷ addresses) fit most starts holds also =
    let numbers : List ℕ = listed (filter starts_page addresses) in
    let front = take-append_seam numbers (replicate (32 - length numbers) 0) in
    built-reads-some m list_page addr addresses fit most starts (subst (HoldsNumbers m list_page) front holds)
    ∙ sym (built-reads-some other list_page addr addresses fit most starts (subst (HoldsNumbers other list_page) front also))

-- behind the list stand zeros
zeros_by : (numbers : List ℕ)
    → padded numbers ≡ take (length numbers) (padded numbers) ++ replicate (32 - length numbers) 0
zeros_by numbers =
    ap (λ (ns : List ℕ). ns ++ replicate (32 - length numbers) 0) (sym (take-append_seam numbers (replicate (32 - length numbers) 0)))

pub built-zeros : (list_page : ℕ) (addresses : List ℕ)
    → (built list_page addresses).list ≡ take (built list_page addresses).used (built list_page addresses).list ++ replicate (32 - (built list_page addresses).used) 0
unfolding built
built-zeros list_page addresses = zeros_by (listed (entries_of addresses))
