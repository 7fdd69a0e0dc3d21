-- Lemmas on what is met of a transfer whose addresses fit PRP.
use Rattle.std.proofs.Common.{◌≡◌, ℕ, zero, suc, ◌+◌, ◌-◌, ◌%◌, ◌<◌, ◌≤◌, Bool, true, ◌&&◌, List, [], ◌∷◌, ◌++◌, length, drop, get_or, Option, Some, None}
use Rattle.std.proofs.Common.{arith, refl, sym, ap, subst, ◌∙◌, append_assoc, append-nil, length-append, eq-eqb}
use Rattle.std.specs.List.{filter, range_with_len}
use Rattle.std.proofs.lemmas.List.Elements.{filter-append}
use Rattle.nv_mem.specs.MapRuns.{IsLongestRun}
use Rattle.nv_mem.specs.Places.{addresses, places_of_piece, total_len}
use Rattle.nv_mem.specs.declared.piece.Piece.{Piece}
use Rattle.nv_mem.specs.declared.piece.Piece.TheVariants as piece
use Rattle.nv_mem.specs.declared.region.Region.{Region}
use Rattle.nv_prp.specs.Built.{built, starts_page}
use Rattle.nv_prp.specs.Fits.{fit_behind, fit_prp, host_addresses, hosts_of, may_follow}
use Rattle.nv_prp.specs.Met.{Met, met_by, met_more, nothing_met, prps_met}
use Rattle.nv_prp.proofs.Entries.{met_of}
use Rattle.nv_prp.proofs.HostRuns.{fit_behind-row, host_addresses-at, host_addresses-none, hosts_of-buckets, hosts_of-none, hosts_of-run, total_len-at}
use Rattle.nv_prp.proofs.Pages.{Paged-fit, both}

-- ---- addresses one behind the other

joined : (first : ℕ) (entries xs ys : List ℕ)
    → met_of (Some first) (entries ++ filter starts_page (xs ++ ys)) ≡ met_of (Some first) ((entries ++ filter starts_page xs) ++ filter starts_page ys)
joined first entries xs ys =
    ap (met_of (Some first))
    (ap (λ (zs : List ℕ). entries ++ zs) (filter-append starts_page xs ys) ∙ sym (append_assoc entries (filter starts_page xs) (filter starts_page ys)))

met_by-append : (first : Option ℕ) (entries xs ys : List ℕ)
    → met_by first entries (xs ++ ys) ≡ (let m : Met = met_by first entries xs in met_by m.first m.entries ys)
met_by-append (Some first) entries xs ys = joined first entries xs ys
met_by-append None entries [] ys = refl
met_by-append None entries (x ∷ xs) ys = joined x entries xs ys

-- addresses are met one behind the other
pub met_more-append : (m : Met) (xs ys : List ℕ) → met_more m (xs ++ ys) ≡ met_more (met_more m xs) ys
unfolding met_more
met_more-append m xs ys = met_by-append m.first m.entries xs ys

-- none change nothing
met_by-none : (first : Option ℕ) (entries : List ℕ) → met_by first entries [] ≡ met_of first entries
met_by-none (Some first) entries = ap (met_of (Some first)) (append-nil entries)
met_by-none None entries = refl

pub met_more-none : (m : Met) → met_more m [] ≡ m
unfolding met_more
met_more-none m = met_by-none m.first m.entries

-- the entries become no fewer
met_by-grows : (first : Option ℕ) (entries xs : List ℕ) → length entries ≤ length (met_by first entries xs).entries
met_by-grows (Some first) entries xs = let count = length-append entries (filter starts_page xs) in omega arith
met_by-grows None entries [] = omega arith
met_by-grows None entries (x ∷ xs) = let count = length-append entries (filter starts_page xs) in omega arith

met_more-grows : (m : Met) (xs : List ℕ) → length m.entries ≤ length (met_more m xs).entries
unfolding met_more
met_more-grows m xs = met_by-grows m.first m.entries xs

-- so there is room for the first of them where there is for all
pub met_more-room : (m : Met) (xs ys : List ℕ) → length (met_more m (xs ++ ys)).entries ≤ 32
    → length (met_more m xs).entries ≤ 32
met_more-room m xs ys room =
    let grows = met_more-grows (met_more m xs) ys in
    let count = ap (λ (n : Met). length n.entries) (met_more-append m xs ys) in
    omega arith

-- ---- a transfer

-- there is room for the entries of a transfer that fits
pub met-room : (xs : List ℕ) → fit_prp xs ≡ true → length xs ≤ 131072 → length (met_more nothing_met xs).entries ≤ 32
unfolding met_more fit_behind
met-room [] fit most = omega arith
met-room (x ∷ xs) fit most =
    let parts = both (may_follow None x) (fit_behind (Some (x + 1)) xs) fit in
    let count = (Paged-fit (x + 1) xs parts.1).count in
    omega arith

-- what names what was met names the addresses
pub prps_met-built : (list_page : ℕ) (xs : List ℕ) → prps_met list_page (met_more nothing_met xs) ≡ built list_page xs
unfolding met_more built
prps_met-built list_page [] = refl
prps_met-built list_page (x ∷ xs) = refl

-- addresses in a row fit
pub fit-row : (addr len : ℕ) → 0 < len → addr % 4 ≡ 0 → fit_prp (range_with_len addr len) ≡ true
unfolding fit_behind
fit-row addr zero some aligned = absurd (omega arith)
fit-row addr (suc len) some aligned =
    ap (fit_behind None) (sym (append-nil (range_with_len addr (suc len))))
    ∙ fit_behind-row None addr len []
    ∙ ap (λ (b : Bool). b && true) (eq-eqb (addr % 4) 0 aligned)

-- ---- row by row

-- what was met, and what is left of the run, are the whole run
pub record Rows (regions : List Region) (start : Met) (addr len done : ℕ) (now : Met) : Type 0 where
  pub within : done ≤ len
  pub rest : met_more now (hosts_of regions (addresses (addr + done) (len - done))) ≡ met_more start (hosts_of regions (addresses addr len))

-- there is room for the next row
pub Rows-room : (regions : List Region) (start : Met) (addr len done : ℕ) (now : Met) (host n : ℕ)
    → Rows regions start addr len done now → done < len
    → IsLongestRun regions (addr + done) (len - done) host n
    → length (met_more start (hosts_of regions (addresses addr len))).entries ≤ 32
    → length (met_more now (range_with_len host n)).entries ≤ 32
Rows-room regions start addr len done now host n rows below longest room =
    met_more-room now (range_with_len host n) (hosts_of regions (addresses (addr + (done + n)) (len - (done + n))))
    (subst (λ (m : Met). length m.entries ≤ 32)
    (sym rows.rest ∙ ap (met_more now) (hosts_of-run regions addr len done host n below longest)) room)

-- behind it
pub Rows-next : (regions : List Region) (start : Met) (addr len done : ℕ) (now next : Met) (host n : ℕ)
    → Rows regions start addr len done now → done < len
    → IsLongestRun regions (addr + done) (len - done) host n → next ≡ met_more now (range_with_len host n)
    → Rows regions start addr len (done + n) next
Rows-next regions start addr len done now next host n rows below longest is =
    let more : List ℕ = hosts_of regions (addresses (addr + (done + n)) (len - (done + n))) in
    let fits = longest.within in
    record {
      within = omega arith;
      rest =
          ap (λ (m : Met). met_more m more) is
          ∙ sym (met_more-append now (range_with_len host n) more)
          ∙ ap (met_more now) (sym (hosts_of-run regions addr len done host n below longest))
          ∙ rows.rest;
    }

-- behind the last
pub Rows-end : (regions : List Region) (start : Met) (addr len done : ℕ) (now : Met)
    → Rows regions start addr len done now → len ≤ done
    → now ≡ met_more start (hosts_of regions (addresses addr len))
Rows-end regions start addr len done now rows over =
    let none : len - done ≡ 0 = omega arith in
    sym (met_more-none now)
    ∙ ap (met_more now) (sym (sym (append-nil (hosts_of regions (addresses (addr + done) (len - done)))) ∙ hosts_of-none regions (addr + done) (len - done) [] none))
    ∙ rows.rest

-- ---- piece by piece

-- what was met, and what is left of the pieces, are all of them
pub record Pieces (regions : List Region) (pieces : List Piece) (i : ℕ) (all : List ℕ) (now : Met) : Type 0 where
  pub rest : met_more now (host_addresses regions (drop i pieces)) ≡ met_more nothing_met all
  pub most : total_len (drop i pieces) ≤ 131072

-- there is room for the next piece
pub Pieces-room : (regions : List Region) (pieces : List Piece) (i : ℕ) (all : List ℕ) (now : Met) (d p : Piece)
    → Pieces regions pieces i all now
    → i < length pieces → get_or pieces i d ≡ p → fit_prp all ≡ true → length all ≤ 131072
    → length (met_more now (hosts_of regions (places_of_piece p))).entries ≤ 32
Pieces-room regions pieces i all now d p so_far below is fit most =
    met_more-room now (hosts_of regions (places_of_piece p)) (host_addresses regions (drop (i + 1) pieces))
    (subst (λ (m : Met). length m.entries ≤ 32)
    (sym so_far.rest ∙ ap (met_more now) (host_addresses-at regions pieces i d p below is)) (met-room all fit most))

-- behind it
pub Pieces-next : (regions : List Region) (pieces : List Piece) (i : ℕ) (all : List ℕ) (now next : Met) (d p : Piece)
    → Pieces regions pieces i all now
    → i < length pieces → get_or pieces i d ≡ p → next ≡ met_more now (hosts_of regions (places_of_piece p))
    → Pieces regions pieces (i + 1) all next
Pieces-next regions pieces i all now next d p so_far below is met =
    let count = total_len-at pieces i d p below is in
    let most = so_far.most in
    record {
      rest =
          ap (λ (m : Met). met_more m (host_addresses regions (drop (i + 1) pieces))) met
          ∙ sym (met_more-append now (hosts_of regions (places_of_piece p)) (host_addresses regions (drop (i + 1) pieces)))
          ∙ ap (met_more now) (sym (host_addresses-at regions pieces i d p below is))
          ∙ so_far.rest;
      most = omega arith;
    }

-- nothing is met of a bucket
pub met-bucket : (regions : List Region) (now : Met) (len : ℕ)
    → now ≡ met_more now (hosts_of regions (places_of_piece (piece.Bucket len)))
met-bucket regions now len = sym (ap (met_more now) (hosts_of-buckets regions len) ∙ met_more-none now)

-- behind the last
pub Pieces-end : (regions : List Region) (pieces : List Piece) (i : ℕ) (all : List ℕ) (now : Met)
    → Pieces regions pieces i all now → length pieces ≤ i
    → now ≡ met_more nothing_met all
Pieces-end regions pieces i all now so_far past =
    sym (met_more-none now) ∙ ap (met_more now) (sym (host_addresses-none regions pieces i past)) ∙ so_far.rest
