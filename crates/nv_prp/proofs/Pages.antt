-- Lemmas on the pages of a transfer whose addresses fit PRP.
use Rattle.std.proofs.Common.{◌≡◌, ℕ, suc, ◌+◌, ◌-◌, ◌%◌, ◌<◌, min, Bool, true, false, cond, ◌&&◌}
use Rattle.std.proofs.Common.{List, [], ◌∷◌, ◌++◌, length, Some, arith, refl, sym, ap, subst, ◌∙◌, inl, inr}
use Rattle.std.specs.List.{filter, range_with_len}
use Rattle.std.proofs.lemmas.Bool.{cases_lt}
use Rattle.std.proofs.lemmas.Bool.Decides.{nat_tests}
use Rattle.nv_model.specs.Prp.{pages_of}
use Rattle.nv_prp.specs.Built.{starts_page}
use Rattle.nv_prp.specs.Fits.{fit_behind, may_follow}

-- how many bytes there are from an address to the end of its page; none from a page's start
abbrev pub room_from : ℕ → ℕ
room_from addr = (4096 - addr % 4096) % 4096

-- the addresses of `bytes` bytes in these pages
abbrev pub paged : List ℕ → ℕ → List ℕ
paged [] bytes = []
paged (entry ∷ entries) bytes = range_with_len entry (min bytes 4096) ++ paged entries (bytes - 4096)

-- each of these is the start of a page
pub data ArePages : List ℕ → Type 0 where
  no_pages : ArePages []
  page_more : (entry : ℕ) (entries : List ℕ) → entry % 4096 ≡ 0 → ArePages entries → ArePages (entry ∷ entries)

-- addresses that fit behind `end`: the rest of its page in a row, and then whole pages, the last of which may be shorter
pub record Paged (end : ℕ) (addresses : List ℕ) : Type 0 where
  pub rows : addresses ≡ range_with_len end (min (length addresses) (room_from end)) ++ paged (filter starts_page addresses) (length addresses - room_from end)
  pub count : length (filter starts_page addresses) ≡ pages_of (length addresses - room_from end)
  pub aligned : ArePages (filter starts_page addresses)

-- what may follow within a page, and behind its end
follows-within : (end addr : ℕ) → may_follow (Some end) addr ≡ true → 0 < end % 4096 → addr ≡ end
follows-within end addr may within = grind (arith, nat_tests)

follows-end : (end addr : ℕ) → may_follow (Some end) addr ≡ true → end % 4096 ≡ 0 → addr % 4096 ≡ 0
follows-end end addr may at_end = grind (arith, nat_tests)

-- two tests that both hold
pub both : (a b : Bool) → (a && b) ≡ true → (a ≡ true) × (b ≡ true)
both true b is = (refl, is)
both false b is = absurd (cc)

-- which addresses start a page
pub starts : (addr : ℕ) → addr % 4096 ≡ 0 → starts_page addr ≡ true
starts addr is = grind (arith, nat_tests)

pub starts-not : (addr : ℕ) → 0 < addr % 4096 → starts_page addr ≡ false
starts-not addr is = grind (arith, nat_tests)

-- one more address within a page
Paged-within : (addr : ℕ) (addresses : List ℕ) → 0 < addr % 4096 → Paged (addr + 1) addresses
    → Paged addr (addr ∷ addresses)
Paged-within addr addresses within rest =
    let room : room_from addr ≡ suc (room_from (addr + 1)) = omega arith in
    let es : List ℕ = filter starts_page addresses in
    let same : filter starts_page (addr ∷ addresses) ≡ es = ap (λ (b : Bool). cond b (addr ∷ es) es) (starts-not addr within) in
    let row : min (suc (length addresses)) (room_from addr) ≡ suc (min (length addresses) (room_from (addr + 1))) = omega arith in
    let left : suc (length addresses) - room_from addr ≡ length addresses - room_from (addr + 1) = omega arith in
    record {
      rows =
          ap (λ (xs : List ℕ). addr ∷ xs) rest.rows
          ∙ ap (λ (k : ℕ). range_with_len addr k ++ paged es (length addresses - room_from (addr + 1))) (sym row)
          ∙ ap (λ (k : ℕ). range_with_len addr (min (suc (length addresses)) (room_from addr)) ++ paged es k) (sym left)
          ∙ ap (λ (xs : List ℕ). range_with_len addr (min (suc (length addresses)) (room_from addr)) ++ paged xs (suc (length addresses) - room_from addr)) (sym same);
      count = ap (λ (xs : List ℕ). length xs) same ∙ rest.count ∙ ap (λ (k : ℕ). pages_of k) (sym left);
      aligned = subst (λ (xs : List ℕ). ArePages xs) (sym same) rest.aligned;
    }

-- one more page
Paged-page : (end addr : ℕ) (addresses : List ℕ) → end % 4096 ≡ 0 → addr % 4096 ≡ 0 → Paged (addr + 1) addresses
    → Paged end (addr ∷ addresses)
Paged-page end addr addresses at_end at_start rest =
    let none : room_from end ≡ 0 = omega arith in
    let room : room_from (addr + 1) ≡ 4095 = omega arith in
    let es : List ℕ = filter starts_page addresses in
    let same : filter starts_page (addr ∷ addresses) ≡ addr ∷ es = ap (λ (b : Bool). cond b (addr ∷ es) es) (starts addr at_start) in
    let row : min (suc (length addresses)) 4096 ≡ suc (min (length addresses) (room_from (addr + 1))) = omega arith in
    let left : suc (length addresses) - 4096 ≡ length addresses - room_from (addr + 1) = omega arith in
    let all : suc (length addresses) - room_from end ≡ suc (length addresses) = omega arith in
    let no_row : min (suc (length addresses)) (room_from end) ≡ 0 = omega arith in
    record {
      rows =
          ap (λ (xs : List ℕ). addr ∷ xs) rest.rows
          ∙ ap (λ (k : ℕ). range_with_len addr k ++ paged es (length addresses - room_from (addr + 1))) (sym row)
          ∙ ap (λ (k : ℕ). range_with_len addr (min (suc (length addresses)) 4096) ++ paged es k) (sym left)
          ∙ ap (λ (k : ℕ). paged (addr ∷ es) k) (sym all)
          ∙ ap (λ (xs : List ℕ). paged xs (suc (length addresses) - room_from end)) (sym same)
          ∙ ap (λ (k : ℕ). range_with_len end k ++ paged (filter starts_page (addr ∷ addresses)) (suc (length addresses) - room_from end)) (sym no_row);
      count =
          ap (λ (xs : List ℕ). length xs) same
          ∙ ap suc rest.count
          ∙ (let count : suc (pages_of (length addresses - room_from (addr + 1))) ≡ pages_of (suc (length addresses) - room_from end) = omega arith in count);
      aligned = subst (λ (xs : List ℕ). ArePages xs) (sym same) (page_more addr es at_start rest.aligned);
    }

-- addresses that fit behind others lie in pages
pub Paged-fit : (end : ℕ) (addresses : List ℕ) → fit_behind (Some end) addresses ≡ true → Paged end addresses
unfolding fit_behind
Paged-fit end [] fit =
    let nothing : min 0 (room_from end) ≡ 0 = omega arith in
    let left : 0 - room_from end ≡ 0 = omega arith in
    record {
      rows = ap (λ (k : ℕ). range_with_len end k ++ []) (sym nothing);
      count = let count : 0 ≡ pages_of (0 - room_from end) = omega arith in count;
      aligned = no_pages;
    }
Paged-fit end (addr ∷ addresses) fit =
    let parts = both (may_follow (Some end) addr) (fit_behind (Some (addr + 1)) addresses) fit in
    let rest = Paged-fit (addr + 1) addresses parts.1 in
    elim (cases_lt 0 (end % 4096)) [
      | inl within ↦
          let same : addr ≡ end = follows-within end addr parts.0 within in
          let here : 0 < addr % 4096 = subst (λ (a : ℕ). 0 < a % 4096) (sym same) within in
          subst (λ (a : ℕ). Paged a (addr ∷ addresses)) same (Paged-within addr addresses here rest)
      | inr at_end ↦
          let none : end % 4096 ≡ 0 = omega arith in
          Paged-page end addr addresses none (follows-end end addr parts.0 none) rest
    ]
