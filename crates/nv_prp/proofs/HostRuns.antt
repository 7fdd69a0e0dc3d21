-- Lemmas on host addresses that fit PRP.
use Rattle.std.proofs.Common.{◌≡◌, ℕ, zero, suc, ◌+◌, ◌-◌, ◌%◌, ◌<◌, ◌≤◌, Bool}
use Rattle.std.proofs.Common.{true, false, ◌&&◌, ◌||◌, ◌==◌, List, [], ◌∷◌, ◌++◌, All, length, drop}
use Rattle.std.proofs.Common.{get_or, replicate, Option, Some, None, is_some, option_to_list, arith, refl, sym, ap, ◌∙◌, append_assoc, length-append, eq-eqb}
use Rattle.std.specs.List.{range_with_len, list_all}
use Rattle.std.proofs.lemmas.Grind.{flat_map-append}
use Rattle.std.proofs.lemmas.List.Elements.{All-head, All-tail}
use Rattle.std.proofs.lemmas.List.Sums.{sum_by-cons}
use Rattle.nv_mem.specs.GuestMap.{everywhere, host_of, mapped}
use Rattle.nv_mem.specs.MapRuns.{IsLongestRun}
use Rattle.nv_mem.specs.Places.{Place, At, Bucket, addresses, piece_len, places_of, places_of_piece, total_len}
use Rattle.nv_mem.specs.declared.piece.Piece.{Piece}
use Rattle.nv_mem.specs.declared.piece.Piece.TheVariants as piece
use Rattle.nv_mem.specs.declared.region.Region.{Region}
use Rattle.nv_mem.proofs.Counts.{AllMapped-tested}
use Rattle.nv_mem.proofs.PlaceLists.{length-places_of, pieces_from, pieces_from-past, total_len-from}
use Rattle.nv_model.specs.Laws.{IsMappedPiece}
use Rattle.nv_prp.specs.Fits.{fit_behind, host_address, host_addresses, hosts_of, is_run, may_follow, places_fit_behind}

-- ---- host addresses of a run

-- addresses in a row in the host, and those behind them
hosts_of-row : (regions : List Region) (addr host n m : ℕ)
    → ((i : ℕ) → i < n → host_of regions (addr + i) ≡ Some (host + i))
    → hosts_of regions (addresses addr (n + m)) ≡ range_with_len host n ++ hosts_of regions (addresses (addr + n) m)
unfolding hosts_of addresses
hosts_of-row regions addr host zero m row =
    let none : zero + m ≡ m = omega arith in
    let at : addr ≡ addr + zero = omega arith in
    ap (λ (k : ℕ). hosts_of regions (addresses addr k)) none ∙ ap (λ (a : ℕ). hosts_of regions (addresses a m)) at
hosts_of-row regions addr host (suc n) m row =
    let more : suc n + m ≡ suc (n + m) = omega arith in
    let at : addr + 0 ≡ addr = omega arith in
    let start : host + 0 ≡ host = omega arith in
    let first : host_of regions addr ≡ Some host = ap (host_of regions) (sym at) ∙ row 0 (omega arith) ∙ ap (λ (h : ℕ). Some h) start in
    let end : addr + 1 + n ≡ addr + suc n = omega arith in
    ap (λ (k : ℕ). hosts_of regions (addresses addr k)) more
    ∙ ap (λ (o : Option ℕ). option_to_list o ++ hosts_of regions (addresses (addr + 1) (n + m))) first
    ∙ ap (λ (hs : List ℕ). host ∷ hs)
    (hosts_of-row regions (addr + 1) (host + 1) n m (λ i below.
    let from : addr + 1 + i ≡ addr + suc i = omega arith in
    let to : host + suc i ≡ host + 1 + i = omega arith in
    ap (host_of regions) from ∙ row (suc i) (omega arith) ∙ ap (λ (h : ℕ). Some h) to))
    ∙ ap (λ (a : ℕ). range_with_len host (suc n) ++ hosts_of regions (addresses a m)) end

-- the host addresses of places one behind the other
pub hosts_of-append : (regions : List Region) (ps qs : List Place)
    → hosts_of regions (ps ++ qs) ≡ hosts_of regions ps ++ hosts_of regions qs
unfolding hosts_of
hosts_of-append regions ps qs = flat_map-append (host_address regions) ps qs

-- ---- what fits

-- the next byte in a row may follow
may_follow-next : (addr : ℕ) → may_follow (Some addr) addr ≡ true
may_follow-next addr = ap (λ (b : Bool). b || (addr % 4096 == 0 && addr % 4096 == 0)) (eq-eqb addr addr refl)

-- bytes in a row fit where the first may follow
pub fit_behind-row : (end : Option ℕ) (host n : ℕ) (rest : List ℕ)
    → fit_behind end (range_with_len host (suc n) ++ rest) ≡ (may_follow end host && fit_behind (Some (host + suc n)) rest)
unfolding fit_behind
fit_behind-row end host zero rest = refl
fit_behind-row end host (suc n) rest =
    let at : host + 1 + suc n ≡ host + suc (suc n) = omega arith in
    ap (λ (b : Bool). may_follow end host && b)
    (fit_behind-row (Some (host + 1)) (host + 1) n rest
    ∙ ap (λ (b : Bool). b && fit_behind (Some (host + 1 + suc n)) rest) (may_follow-next (host + 1))
    ∙ ap (λ (a : ℕ). fit_behind (Some a) rest) at)

-- the next row of a run, and what is behind it
pub hosts_of-run : (regions : List Region) (addr len done host n : ℕ) → done < len
    → IsLongestRun regions (addr + done) (len - done) host n
    → hosts_of regions (addresses (addr + done) (len - done)) ≡ range_with_len host n ++ hosts_of regions (addresses (addr + (done + n)) (len - (done + n)))
hosts_of-run regions addr len done host n below longest =
    let within = longest.within in
    let split : len - done ≡ n + (len - (done + n)) = omega arith in
    let at : addr + done + n ≡ addr + (done + n) = omega arith in
    ap (λ (k : ℕ). hosts_of regions (addresses (addr + done) k)) split
    ∙ hosts_of-row regions (addr + done) host n (len - (done + n)) longest.run.contiguous
    ∙ ap (λ (a : ℕ). range_with_len host n ++ hosts_of regions (addresses a (len - (done + n)))) at

-- whether it fits, and then what is behind it
pub fit_behind-run : (regions : List Region) (end : Option ℕ) (addr len done host n : ℕ) (rest : List ℕ) → done < len
    → IsLongestRun regions (addr + done) (len - done) host n
    → fit_behind end (hosts_of regions (addresses (addr + done) (len - done)) ++ rest)
    ≡ (may_follow end host && fit_behind (Some (host + n)) (hosts_of regions (addresses (addr + (done + n)) (len - (done + n))) ++ rest))
fit_behind-run regions end addr len done host n rest below longest =
    let some = longest.run.nonempty in
    let one : n ≡ suc (n - 1) = omega arith in
    let more : List ℕ = hosts_of regions (addresses (addr + (done + n)) (len - (done + n))) ++ rest in
    ap (λ (hs : List ℕ). fit_behind end (hs ++ rest)) (hosts_of-run regions addr len done host n below longest)
    ∙ ap (fit_behind end) (append_assoc (range_with_len host n) (hosts_of regions (addresses (addr + (done + n)) (len - (done + n)))) rest)
    ∙ ap (λ (k : ℕ). fit_behind end (range_with_len host k ++ more)) one
    ∙ fit_behind-row end host (n - 1) more
    ∙ ap (λ (k : ℕ). may_follow end host && fit_behind (Some (host + k)) more) (sym one)

-- a run of no bytes has no host addresses
pub hosts_of-none : (regions : List Region) (addr len : ℕ) (rest : List ℕ) → len ≡ 0
    → hosts_of regions (addresses addr len) ++ rest ≡ rest
unfolding hosts_of addresses
hosts_of-none regions addr len rest none = rw none refl

-- ---- piece by piece

-- a run, and the pieces behind it
pub places_fit-run : (regions : List Region) (old new : Option ℕ) (pieces : List Piece) (i : ℕ) (d : Piece) (addr len : ℕ) (fit : Bool)
    → i < length pieces → get_or pieces i d ≡ piece.Run addr len
    → ((rest : List ℕ) → fit_behind old (hosts_of regions (addresses addr len) ++ rest) ≡ (fit && fit_behind new rest))
    → places_fit_behind regions old (drop i pieces) ≡ (list_all is_run (drop (i + 1) pieces) && (fit && fit_behind new (host_addresses regions (drop (i + 1) pieces))))
places_fit-run regions old new pieces i d addr len fit below is fits =
    let rest : List Piece = drop (i + 1) pieces in
    ap (places_fit_behind regions old) (pieces_from pieces i d below ∙ ap (λ (p : Piece). p ∷ rest) is)
    ∙ ap (λ (hs : List ℕ). list_all is_run rest && fit_behind old hs) (hosts_of-append regions (addresses addr len) (places_of rest))
    ∙ ap (λ (b : Bool). list_all is_run rest && b) (fits (host_addresses regions rest))

-- the host addresses of a piece, and of those behind it
pub host_addresses-at : (regions : List Region) (pieces : List Piece) (i : ℕ) (d p : Piece) → i < length pieces
    → get_or pieces i d ≡ p
    → host_addresses regions (drop i pieces) ≡ hosts_of regions (places_of_piece p) ++ host_addresses regions (drop (i + 1) pieces)
host_addresses-at regions pieces i d p below is =
    ap (host_addresses regions) (pieces_from pieces i d below ∙ ap (λ (q : Piece). q ∷ drop (i + 1) pieces) is)
    ∙ hosts_of-append regions (places_of_piece p) (places_of (drop (i + 1) pieces))

-- its bytes, and those behind it
pub total_len-at : (pieces : List Piece) (i : ℕ) (d p : Piece) → i < length pieces → get_or pieces i d ≡ p
    → total_len (drop i pieces) ≡ piece_len p + total_len (drop (i + 1) pieces)
total_len-at pieces i d p below is =
    total_len-from pieces i d below ∙ ap (λ (q : Piece). piece_len q + total_len (drop (i + 1) pieces)) is

-- there are no more host addresses than places
host_address-one : (o : Option ℕ) → length (option_to_list o) ≤ 1
host_address-one None = omega arith
host_address-one (Some host) = omega arith

place-one : (regions : List Region) (p : Place) → length (host_address regions p) ≤ 1
place-one regions (At addr) = host_address-one (host_of regions addr)
place-one regions Bucket = omega arith

length-hosts_of : (regions : List Region) (ps : List Place) → length (hosts_of regions ps) ≤ length ps
unfolding hosts_of
length-hosts_of regions [] = omega arith
length-hosts_of regions (p ∷ ps) =
    let count = length-append (host_address regions p) (hosts_of regions ps) in
    let one = place-one regions p in
    let rest = length-hosts_of regions ps in
    omega arith

-- nor than bytes
pub length-host_addresses : (regions : List Region) (pieces : List Piece)
    → length (host_addresses regions pieces) ≤ total_len pieces
length-host_addresses regions pieces =
    let hosts = length-hosts_of regions (places_of pieces) in
    let places = length-places_of pieces in
    omega arith

-- and as many, where all are mapped
some-one : (o : Option ℕ) → is_some o ≡ true → length (option_to_list o) ≡ 1
some-one (Some host) is = refl
some-one None is = absurd (cc)

length-mapped : (regions : List Region) (addr len : ℕ)
    → ((i : ℕ) → i < len → is_some (host_of regions (addr + i)) ≡ true)
    → length (hosts_of regions (addresses addr len)) ≡ len
unfolding hosts_of addresses
length-mapped regions addr zero all = refl
length-mapped regions addr (suc len) all =
    let at : addr + 0 ≡ addr = omega arith in
    let here : is_some (host_of regions addr) ≡ true = ap (λ (a : ℕ). is_some (host_of regions a)) (sym at) ∙ all 0 (omega arith) in
    let one = some-one (host_of regions addr) here in
    let rest = length-mapped regions (addr + 1) len (λ i below.
    let from : addr + 1 + i ≡ addr + suc i = omega arith in
    ap (λ (a : ℕ). is_some (host_of regions a)) from ∙ all (suc i) (omega arith)) in
    let count = length-append (option_to_list (host_of regions addr)) (hosts_of regions (addresses (addr + 1) len)) in
    omega arith

pub length-mapped_runs : (regions : List Region) (pieces : List Piece) → All (IsMappedPiece (mapped regions)) pieces
    → list_all is_run pieces ≡ true
    → length (host_addresses regions pieces) ≡ total_len pieces
unfolding hosts_of
length-mapped_runs regions [] all runs = refl
length-mapped_runs regions (piece.Bucket len ∷ pieces) all runs = absurd (cc)
length-mapped_runs regions (piece.Run addr len ∷ pieces) all runs =
    let here : everywhere (mapped regions) addr len ≡ true = All-head (IsMappedPiece (mapped regions)) (piece.Run addr len) pieces all in
    let first = length-mapped regions addr len (λ i below. AllMapped-tested regions addr len here i below) in
    let rest = length-mapped_runs regions pieces (All-tail (IsMappedPiece (mapped regions)) (piece.Run addr len) pieces all) runs in
    let split = ap (λ (hs : List ℕ). length hs) (hosts_of-append regions (addresses addr len) (places_of pieces)) in
    let count = length-append (hosts_of regions (addresses addr len)) (hosts_of regions (places_of pieces)) in
    let total = sum_by-cons piece_len (piece.Run addr len) pieces in
    omega arith

-- buckets have no host addresses
pub hosts_of-buckets : (regions : List Region) (len : ℕ) → hosts_of regions (replicate len Bucket) ≡ []
unfolding hosts_of
hosts_of-buckets regions zero = refl
hosts_of-buckets regions (suc len) = hosts_of-buckets regions len

-- no pieces have none
pub host_addresses-none : (regions : List Region) (pieces : List Piece) (i : ℕ) → length pieces ≤ i
    → host_addresses regions (drop i pieces) ≡ []
unfolding hosts_of
host_addresses-none regions pieces i past = ap (host_addresses regions) (pieces_from-past pieces i past)

-- a bucket does not fit
pub places_fit-bucket : (regions : List Region) (old : Option ℕ) (pieces : List Piece) (i : ℕ) (d : Piece) (len : ℕ)
    → i < length pieces → get_or pieces i d ≡ piece.Bucket len → places_fit_behind regions old (drop i pieces) ≡ false
places_fit-bucket regions old pieces i d len below is =
    ap (places_fit_behind regions old) (pieces_from pieces i d below ∙ ap (λ (p : Piece). p ∷ drop (i + 1) pieces) is)

-- no pieces fit behind others
pub places_fit-none : (regions : List Region) (old : Option ℕ) (pieces : List Piece) (i : ℕ) → length pieces ≤ i
    → places_fit_behind regions old (drop i pieces) ≡ is_some old
unfolding hosts_of fit_behind
places_fit-none regions old pieces i past = ap (places_fit_behind regions old) (pieces_from-past pieces i past)

-- both tests, of which the second fails
pub and-not : (b : Bool) → (b && false) ≡ false
and-not true = refl
and-not false = refl
