-- Lemmas on the page starts of addresses in a row, and on the array in which they stand.
use Rattle.std.proofs.Common.{◌≡◌, ℕ, zero, suc, ◌+◌, ◌-◌, ◌%◌, ◌<◌, ◌≤◌, Bool, cond, List, [], ◌∷◌, ◌++◌, length, drop, replicate, slice_set, Option, Some}
use Rattle.std.proofs.Common.{None, arith, refl, sym, ap, ◌∙◌, append_assoc, append-nil, length-append}
use Rattle.std.specs.List.{filter, range_with_len}
use Rattle.std.proofs.lemmas.List.{drop-set-lt}
use Rattle.nv_prp.specs.Built.{starts_page}
use Rattle.nv_prp.proofs.Pages.{starts, starts-not}
use Rattle.nv_prp.specs.Met.{Met, IsFilled, met_by, met_later, met_more}

-- ---- the array

-- one zero less
drop-more : (xs : List ℕ) (k n : ℕ) → drop k xs ≡ replicate (suc n) 0 → drop (k + 1) xs ≡ replicate n 0
drop-more [] zero n is = absurd (cc)
drop-more [] (suc k) n is = absurd (cc)
drop-more (x ∷ xs) zero n is = let rest : xs ≡ replicate n 0 = cc in rest
drop-more (x ∷ xs) (suc k) n is =
    let next : suc k + 1 ≡ suc (k + 1) = omega arith in
    ap (λ (j : ℕ). drop j (x ∷ xs)) next ∙ drop-more xs k n is

-- one more entry in front of the zeros
pub IsFilled-push : (used : ℕ) (list : List ℕ) (entry : ℕ) → IsFilled used list → used < 32
    → IsFilled (used + 1) (slice_set list used entry)
IsFilled-push used list entry filled room =
    let more : 32 - used ≡ suc (32 - (used + 1)) = omega arith in
    let behind : used < used + 1 = omega arith in
    record {
      count = omega arith;
      zeros =
          drop-set-lt (used + 1) list used entry behind
          ∙ drop-more list used (32 - (used + 1)) (filled.zeros ∙ ap (λ (n : ℕ). replicate n 0) more);
    }

-- ---- page starts

-- none starts before the end of a page
pub starts-skipped : (k from len : ℕ) → (0 < k → 0 < from % 4096) → from % 4096 + k ≤ 4096
    → filter starts_page (range_with_len from len) ≡ filter starts_page (range_with_len (from + k) (len - k))
starts-skipped zero from len within fits =
    let at : from ≡ from + zero = omega arith in
    let left : len ≡ len - zero = omega arith in
    ap (λ (a : ℕ). filter starts_page (range_with_len a len)) at
    ∙ ap (λ (n : ℕ). filter starts_page (range_with_len (from + zero) n)) left
starts-skipped (suc k) from zero within fits =
    let none : 0 ≡ zero - suc k = omega arith in
    ap (λ (n : ℕ). filter starts_page (range_with_len (from + suc k) n)) none
starts-skipped (suc k) from (suc len) within fits =
    let here : 0 < from % 4096 = within (omega arith) in
    let rest : List ℕ = filter starts_page (range_with_len (from + 1) len) in
    let at : from + 1 + k ≡ from + suc k = omega arith in
    let left : len - k ≡ suc len - suc k = omega arith in
    ap (λ (b : Bool). cond b (from ∷ rest) rest) (starts-not from here)
    ∙ starts-skipped k (from + 1) len (λ some. omega arith) (omega arith)
    ∙ ap (λ (a : ℕ). filter starts_page (range_with_len a (len - k))) at
    ∙ ap (λ (n : ℕ). filter starts_page (range_with_len (from + suc k) n)) left

-- a page's start, and the next
pub starts-next : (from len : ℕ) → from % 4096 ≡ 0 → 0 < len
    → filter starts_page (range_with_len from len) ≡ from ∷ filter starts_page (range_with_len (from + 4096) (len - 4096))
starts-next from zero start some = absurd (omega arith)
starts-next from (suc len) start some =
    let rest : List ℕ = filter starts_page (range_with_len (from + 1) len) in
    let at : from + 1 + 4095 ≡ from + 4096 = omega arith in
    let left : len - 4095 ≡ suc len - 4096 = omega arith in
    ap (λ (b : Bool). cond b (from ∷ rest) rest) (starts from start)
    ∙ ap (λ (xs : List ℕ). from ∷ xs)
    (starts-skipped 4095 (from + 1) len (λ some. omega arith) (omega arith)
    ∙ ap (λ (a : ℕ). filter starts_page (range_with_len a (len - 4095))) at
    ∙ ap (λ (n : ℕ). filter starts_page (range_with_len (from + 4096) n)) left)

-- ---- how far a row was met

-- what was met, and the page starts of what is left of the row, are those of the whole row
pub record Row (start : Met) (from len skipped : ℕ) (now : Met) : Type 0 where
  pub first : now.first ≡ start.first
  pub entries : now.entries ++ filter starts_page (range_with_len (from + skipped) (len - skipped)) ≡ start.entries ++ filter starts_page (range_with_len from len)
  pub at_start : (from + skipped) % 4096 ≡ 0
  pub within : skipped ≤ len + 4096

-- at the first page's start
pub Row-start : (start : Met) (from len skipped : ℕ) → skipped ≡ (4096 - from % 4096) % 4096
    → Row start from len skipped start
Row-start start from len skipped is =
    record {
      first = refl;
      entries = ap (λ (xs : List ℕ). start.entries ++ xs) (sym (starts-skipped skipped from len (λ some. omega arith) (omega arith)));
      at_start = omega arith;
      within = omega arith;
    }

-- at the next one
pub Row-next : (start : Met) (from len skipped : ℕ) (now next : Met) → Row start from len skipped now → skipped < len
    → next ≡ record now { entries = now.entries ++ (from + skipped) ∷ [] } → Row start from len (skipped + 4096) next
Row-next start from len skipped now next row more is =
    let at : from + skipped + 4096 ≡ from + (skipped + 4096) = omega arith in
    let left : len - skipped - 4096 ≡ len - (skipped + 4096) = omega arith in
    let some : 0 < len - skipped = omega arith in
    let rest : List ℕ = filter starts_page (range_with_len (from + (skipped + 4096)) (len - (skipped + 4096))) in
    record {
      first = ap (λ (m : Met). m.first) is ∙ row.first;
      entries =
          ap (λ (m : Met). m.entries ++ rest) is
          ∙ append_assoc now.entries ((from + skipped) ∷ []) rest
          ∙ ap (λ (a : ℕ). now.entries ++ (from + skipped) ∷ filter starts_page (range_with_len a (len - (skipped + 4096)))) (sym at)
          ∙ ap (λ (n : ℕ). now.entries ++ (from + skipped) ∷ filter starts_page (range_with_len (from + skipped + 4096) n)) (sym left)
          ∙ ap (λ (xs : List ℕ). now.entries ++ xs) (sym (starts-next (from + skipped) (len - skipped) row.at_start some))
          ∙ row.entries;
      at_start = let is_start = row.at_start in omega arith;
      within = omega arith;
    }

-- what was met, of its parts
abbrev pub met_of : Option ℕ → List ℕ → Met
met_of first entries = record { first = first; entries = entries }

met-same : (f g : Option ℕ) (xs ys : List ℕ) → f ≡ g → xs ≡ ys → met_of f xs ≡ met_of g ys
met-same f g xs ys first entries =
    ap (λ (h : Option ℕ). met_of h xs) first ∙ ap (met_of g) entries

-- behind the row
pub Row-end : (start : Met) (from len skipped : ℕ) (now : Met) → Row start from len skipped now → len ≤ skipped
    → now ≡ met_later start (range_with_len from len)
Row-end start from len skipped now row over =
    let none : len - skipped ≡ 0 = omega arith in
    let all : now.entries ≡ start.entries ++ filter starts_page (range_with_len from len) =
    sym (append-nil now.entries)
    ∙ ap (λ (n : ℕ). now.entries ++ filter starts_page (range_with_len (from + skipped) n)) (sym none)
    ∙ row.entries in
    met-same now.first start.first now.entries (start.entries ++ filter starts_page (range_with_len from len)) row.first all

-- there is room for the next page's start
pub Row-room : (start : Met) (from len skipped : ℕ) (now : Met) → Row start from len skipped now → skipped < len
    → length (met_later start (range_with_len from len)).entries ≤ 32 → length now.entries < 32
Row-room start from len skipped now row more room =
    let some : 0 < len - skipped = omega arith in
    let rest : List ℕ = filter starts_page (range_with_len (from + skipped + 4096) (len - skipped - 4096)) in
    let split : now.entries ++ (from + skipped) ∷ rest ≡ start.entries ++ filter starts_page (range_with_len from len) =
    ap (λ (xs : List ℕ). now.entries ++ xs) (sym (starts-next (from + skipped) (len - skipped) row.at_start some))
    ∙ row.entries in
    let count = ap (λ (xs : List ℕ). length xs) split in
    let parts = length-append now.entries ((from + skipped) ∷ rest) in
    let one : length ((from + skipped) ∷ rest) ≡ suc (length rest) = refl in
    omega arith

-- ---- a row

-- a row behind the first address
pub met_more-later : (m : Met) (first : ℕ) (addresses : List ℕ) → m.first ≡ Some first
    → met_more m addresses ≡ met_later m addresses
unfolding met_more
met_more-later m first addresses is =
    let all : List ℕ = m.entries ++ filter starts_page addresses in
    ap (λ (f : Option ℕ). met_by f m.entries addresses) is ∙ ap (λ (f : Option ℕ). met_of f all) (sym is)

-- a row that begins with it
pub met_more-first : (m : Met) (addr len : ℕ) → m.first ≡ None → 0 < len
    → met_more m (range_with_len addr len) ≡ met_later (record { first = Some addr; entries = m.entries }) (range_with_len (addr + 1) (len - 1))
unfolding met_more
met_more-first m addr zero is some = absurd (omega arith)
met_more-first m addr (suc len) is some =
    let less : len ≡ suc len - 1 = omega arith in
    ap (λ (f : Option ℕ). met_by f m.entries (range_with_len addr (suc len))) is
    ∙ ap (λ (n : ℕ). met_of (Some addr) (m.entries ++ filter starts_page (range_with_len (addr + 1) n))) less
