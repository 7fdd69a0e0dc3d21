-- How often a list asks, and where
use Rattle.std.proofs.Common.{◌≡◌, ℕ, zero, suc, ◌+◌, ◌-◌, ◌*◌, ◌/◌, ◌%◌, ◌<◌, ◌≤◌}
use Rattle.std.proofs.Common.{min, Bool, true, false, cond, ◌&&◌, ◌==◌, nat_lt, List, [], ◌∷◌, ◌++◌}
use Rattle.std.proofs.Common.{length, take, drop, Option, Some, None, arith, refl, sym, subst}
use Rattle.nv_entry.specs.Descriptor.{kind_of}
use Rattle.nv_entry.specs.declared.status_code.StatusCode.{StatusCode}
use Rattle.nv_mem.specs.declared.piece.Piece.{Piece}
use Rattle.nv_model.specs.Dialogue.{Dialogue, End, Ask, and_then}
use Rattle.nv_model.specs.Reading.{Reading, Faulty, TooLong, Spells, run, unless_faulty}
use Rattle.nv_model.specs.Sgl.{Array, array_by, behind_own, fault_by, pieces_by, read_array, read_descriptor, read_sgl}
use Rattle.nv_model.specs.Transcript.{part}
use Rattle.nv_entry.specs.Layout.{number_at}
use Rattle.nv_model.specs.Prp.{entry_fault, first_len, pages_of, read_entries, read_page, read_prp, read_prp2, slots_of}
use Rattle.nv_model.specs.Limits.{page}
use Rattle.nv_model.proofs.Asking.{IsMappedFrom, IsMappedFrom-part, array_by-mapped, entry_fault-mapped, others-left}
use Rattle.nv_model.specs.Transcript.{fed}
use Rattle.nv_model.specs.Want.{want_of}
use Rattle.nv_model.specs.declared.want.Want.TheVariants as want

-- a dialogue asks so often at most, whatever the bytes are, and each time for some bytes that are mapped, with those behind them that
-- are still wanted
abbrev pub AsksAtMost : {A : Type 0} → (ℕ → Bool) → ℕ → Dialogue A → Type 0
AsksAtMost mapped n (End value) = Unit {0}
AsksAtMost mapped zero (Ask addr unit left next) = ⊥
AsksAtMost mapped (suc n) (Ask addr unit left next) =
    (0 < left) × (IsMappedFrom mapped addr left × ((bytes : List ℕ) → AsksAtMost mapped n (next bytes)))

-- once more does no harm
AsksAtMost-more : {A : Type 0} (mapped : ℕ → Bool) (n : ℕ) (d : Dialogue A) → AsksAtMost mapped n d
    → AsksAtMost mapped (suc n) d
AsksAtMost-more mapped n (End value) asks = tt
AsksAtMost-more mapped zero (Ask addr unit left next) asks = absurd asks
AsksAtMost-more mapped (suc n) (Ask addr unit left next) asks = (asks.0, (asks.1.0, λ bytes. AsksAtMost-more mapped n (next bytes) (asks.1.1 bytes)))

-- feeding makes it ask no more often
pub AsksAtMost-fed : {A : Type 0} (mapped : ℕ → Bool) (n : ℕ) (d : Dialogue A) (bytes : List ℕ) → AsksAtMost mapped n d
    → AsksAtMost mapped n (fed d bytes)
unfolding fed
AsksAtMost-fed mapped n (End value) bytes asks = tt
AsksAtMost-fed mapped n (Ask addr unit left next) [] asks = asks
AsksAtMost-fed mapped zero (Ask addr unit left next) (byte ∷ bytes) asks = absurd asks
AsksAtMost-fed mapped (suc n) (Ask addr unit left next) (byte ∷ bytes) asks =
    AsksAtMost-more mapped n (fed (next (take unit (byte ∷ bytes))) (drop unit (byte ∷ bytes)))
    (AsksAtMost-fed mapped n (next (take unit (byte ∷ bytes))) (drop unit (byte ∷ bytes)) (asks.1.1 (take unit (byte ∷ bytes))))

-- what is wanted is mapped, and is some bytes, 4,096 at most; and behind it the dialogue asks less often
pub record WantsMore (mapped : ℕ → Bool) (n : ℕ) (d : Dialogue Reading) (addr len : ℕ) : Type 0 where
  pub often : 0 < n
  pub some : 0 < len
  pub at_most : len ≤ 4096
  pub there : IsMappedFrom mapped addr len
  pub behind : (bytes : List ℕ) → 0 < length bytes → AsksAtMost mapped (n - 1) (fed d bytes)

-- a dialogue that asks, and is fed some bytes
AsksAtMost-behind : {A : Type 0} (mapped : ℕ → Bool) (n addr unit left : ℕ) (next : List ℕ → Dialogue A) (bytes : List ℕ)
    → ((given : List ℕ) → AsksAtMost mapped n (next given)) → 0 < length bytes
    → AsksAtMost mapped n (fed (Ask addr unit left next) bytes)
unfolding fed
AsksAtMost-behind mapped n addr unit left next [] asks more = absurd (omega arith)
AsksAtMost-behind mapped n addr unit left next (byte ∷ bytes) asks more =
    AsksAtMost-fed mapped n (next (take unit (byte ∷ bytes))) (drop unit (byte ∷ bytes)) (asks (take unit (byte ∷ bytes)))

pub wants-more : (mapped : ℕ → Bool) (n : ℕ) (d : Dialogue Reading) (addr len : ℕ) → AsksAtMost mapped n d
    → want_of d ≡ want.Read addr len → WantsMore mapped n d addr len
wants-more mapped n (End (Spells pieces)) addr len asks wanted = (cc)
wants-more mapped n (End (Faulty code)) addr len asks wanted = (cc)
wants-more mapped n (End TooLong) addr len asks wanted = (cc)
wants-more mapped zero (Ask from unit left next) addr len asks wanted = absurd asks
wants-more mapped (suc n) (Ask from unit left next) addr len asks wanted =
    let at : from ≡ addr = (cc) in
    let size : part left ≡ len = (cc) in
    let some = asks.0 in
    let M : ℕ → Type 0 = λ a. IsMappedFrom mapped a len in
    record {
      often = omega arith;
      some = omega arith;
      at_most = omega arith;
      there = subst M at (λ i below. asks.1.0 i (omega arith));
      behind = λ bytes more.
          let e : n ≡ suc n - 1 = omega arith in
          let P : ℕ → Type 0 = λ k. AsksAtMost mapped k (fed (Ask from unit left next) bytes) in
          subst P e (AsksAtMost-behind mapped n from unit left next bytes asks.1.1 more);
    }

-- a dialogue that may not ask wants nothing
pub wants-nothing : (mapped : ℕ → Bool) (d : Dialogue Reading) (addr len : ℕ) → AsksAtMost mapped 0 d
    → want_of d ≡ want.Read addr len → ⊥
wants-nothing mapped d addr len asks wanted =
    let often = (wants-more mapped 0 d addr len asks wanted).often in omega arith

-- a dialogue that goes on to its end at once
pub AsksAtMost-and_then : {A B : Type 0} (mapped : ℕ → Bool) (n : ℕ) (d : Dialogue A) (f : A → B)
    → AsksAtMost mapped n d → AsksAtMost mapped n (and_then d (λ v. End (f v)))
unfolding and_then
AsksAtMost-and_then mapped n (End value) f asks = tt
AsksAtMost-and_then mapped zero (Ask addr unit left next) f asks = absurd asks
AsksAtMost-and_then mapped (suc n) (Ask addr unit left next) f asks = (asks.0, (asks.1.0, λ bytes. AsksAtMost-and_then mapped n (next bytes) f (asks.1.1 bytes)))

-- ---- scatter gather lists

AsksAtMost-unless_faulty : (mapped : ℕ → Bool) (n : ℕ) (fault : Option StatusCode) (more : Dialogue Reading)
    → (fault ≡ None → AsksAtMost mapped n more) → AsksAtMost mapped n (unless_faulty fault more)
AsksAtMost-unless_faulty mapped n None more goes = goes refl
AsksAtMost-unless_faulty mapped n (Some code) more goes = tt

read_descriptor-often : (mapped : ℕ → Bool) (n : ℕ) (dest : Bool) (rest : Array) (pieces : List Piece) (follow : Array → List Piece → Dialogue Reading) (d : List ℕ)
    → IsMappedFrom mapped rest.from (16 * rest.left)
    → ((a : Array) (ps : List Piece) → IsMappedFrom mapped a.from (16 * a.left) → AsksAtMost mapped n (follow a ps))
    → AsksAtMost mapped n (read_descriptor mapped dest rest pieces follow d)
read_descriptor-often mapped n dest rest pieces follow d each goes =
    AsksAtMost-unless_faulty mapped n (fault_by (kind_of d) mapped rest d) _
    (λ fine. goes (array_by (kind_of d) rest d) (pieces ++ pieces_by (kind_of d) dest d) (array_by-mapped mapped (kind_of d) rest d fine each))

read_array-often : (mapped : ℕ → Bool) (dest : Bool) (budget left from : ℕ) (by_last : Bool) (pieces : List Piece)
    → IsMappedFrom mapped from (16 * left)
    → AsksAtMost mapped budget (read_array mapped dest budget left from by_last pieces)
unfolding read_array
read_array-often mapped dest budget zero from by_last pieces each = tt
read_array-often mapped dest zero (suc left) from by_last pieces each = tt
read_array-often mapped dest (suc budget) (suc left) from by_last pieces each = (
  omega arith,
  (
    each,
    λ d. read_descriptor-often mapped budget dest (record { from = from + 16; left = left; by_last = by_last }) pieces
        (λ a ps. read_array mapped dest budget a.left a.from a.by_last ps) d
        (IsMappedFrom-part mapped from (16 * suc left) (from + 16) (16 * left) each (omega arith) (omega arith))
        (λ a ps there. read_array-often mapped dest budget a.left a.from a.by_last ps there),
  ),
)

-- a list asks for one descriptor less than it may have at most
pub read_sgl-often : (mapped : ℕ → Bool) (dest : Bool) (limit : ℕ) (own : List ℕ)
    → AsksAtMost mapped (limit - 1) (read_sgl mapped dest limit own)
unfolding read_sgl
read_sgl-often mapped dest zero own = tt
read_sgl-often mapped dest (suc budget) own =
    let e : suc budget - 1 ≡ budget = omega arith in
    let P : ℕ → Type 0 = λ n. AsksAtMost mapped n (read_descriptor mapped dest behind_own [] (λ a ps. read_array mapped dest budget a.left a.from a.by_last ps) own) in
    subst P (sym e)
    (read_descriptor-often mapped budget dest behind_own [] (λ a ps. read_array mapped dest budget a.left a.from a.by_last ps) own
    (λ i below. absurd (omega arith)) (λ a ps there. read_array-often mapped dest budget a.left a.from a.by_last ps there))

-- ---- physical region pages

-- as often as that is no more often than this
AsksAtMost-weaken : {A : Type 0} (mapped : ℕ → Bool) (more n : ℕ) (d : Dialogue A) → AsksAtMost mapped n d
    → AsksAtMost mapped (more + n) d
AsksAtMost-weaken mapped zero n d asks =
    let e : n ≡ zero + n = omega arith in
    let P : ℕ → Type 0 = λ k. AsksAtMost mapped k d in
    subst P e asks
AsksAtMost-weaken mapped (suc more) n d asks =
    let e : suc (more + n) ≡ suc more + n = omega arith in
    let P : ℕ → Type 0 = λ k. AsksAtMost mapped k d in
    subst P e (AsksAtMost-more mapped (more + n) d (AsksAtMost-weaken mapped more n d asks))

AsksAtMost-if : {A : Type 0} (mapped : ℕ → Bool) (n : ℕ) (b : Bool) (x y : Dialogue A)
    → (b ≡ true → AsksAtMost mapped n x) → (b ≡ false → AsksAtMost mapped n y) → AsksAtMost mapped n (cond b x y)
AsksAtMost-if mapped n true x y so not_so = so refl
AsksAtMost-if mapped n false x y so not_so = not_so refl

read_page-often : (mapped : ℕ → Bool) (n bytes : ℕ) (pieces : List Piece) (follow : List Piece → Dialogue Reading) (addr : ℕ)
    → ((ps : List Piece) → AsksAtMost mapped n (follow ps))
    → AsksAtMost mapped n (read_page mapped bytes pieces follow addr)
read_page-often mapped n bytes pieces follow addr goes =
    AsksAtMost-unless_faulty mapped n (entry_fault mapped page addr (min bytes page)) _ (λ fine. goes (pieces ++ run addr (min bytes page)))

-- each page asks for its entry, and for a pointer before it at most
read_entries-often : (mapped : ℕ → Bool) (pages slots from bytes : ℕ) (pieces : List Piece)
    → (0 < pages → 0 < slots) → IsMappedFrom mapped from (8 * min slots pages)
    → AsksAtMost mapped (pages + pages) (read_entries mapped pages slots from bytes pieces)
unfolding read_entries
read_entries-often mapped zero slots from bytes pieces some each = tt
read_entries-often mapped (suc pages) slots from bytes pieces some each =
    let here = some (omega arith) in
    let twice : suc (suc (pages + pages)) ≡ suc pages + suc pages = omega arith in
    let P : ℕ → Type 0 = λ k. AsksAtMost mapped k (read_entries mapped (suc pages) slots from bytes pieces) in
    subst P twice
    (AsksAtMost-if mapped (suc (suc (pages + pages))) (slots == 1 && nat_lt 0 pages) _ _
    (λ _. (
      omega arith,
      (
        IsMappedFrom-part mapped from (8 * min slots (suc pages)) from 8 each (omega arith) (omega arith),
        λ slot.
            AsksAtMost-unless_faulty mapped (suc (pages + pages)) (entry_fault mapped page (number_at slot 0 8) (8 * min (page / 8) (suc pages))) _ (λ fine.
            let there = (entry_fault-mapped mapped page (number_at slot 0 8) (8 * min (page / 8) (suc pages)) fine).1 in (
              omega arith,
              (
                there,
                λ entry. read_page-often mapped (pages + pages) bytes pieces _ (number_at entry 0 8) (λ ps.
                    read_entries-often mapped pages (page / 8 - 1) (number_at slot 0 8 + 8) (bytes - page) ps (λ _. omega arith)
                    (IsMappedFrom-part mapped (number_at slot 0 8) (8 * min (page / 8) (suc pages)) (number_at slot 0 8 + 8) (8 * min (page / 8 - 1) pages) there (omega arith) (omega arith))),
              ),
            )),
      ),
    ))
    (λ more. (
      omega arith,
      (
        each,
        λ entry. AsksAtMost-more mapped (pages + pages) _
            (read_page-often mapped (pages + pages) bytes pieces _ (number_at entry 0 8) (λ ps.
            read_entries-often mapped pages (slots - 1) (from + 8) (bytes - page) ps
            (λ left. let not_one = others-left slots pages more left in omega arith)
            (IsMappedFrom-part mapped from (8 * min slots (suc pages)) (from + 8) (8 * min (slots - 1) pages) each (omega arith) (omega arith)))),
      ),
    )))

read_prp2-often : (mapped : ℕ → Bool) (pages prp2 bytes : ℕ) (pieces : List Piece)
    → AsksAtMost mapped (pages + pages) (read_prp2 mapped pages prp2 bytes pieces)
read_prp2-often mapped zero prp2 bytes pieces = tt
read_prp2-often mapped (suc zero) prp2 bytes pieces =
    read_page-often mapped (1 + 1) bytes pieces (λ ps. End (Spells ps)) prp2 (λ ps. tt)
read_prp2-often mapped (suc (suc pages)) prp2 bytes pieces =
    AsksAtMost-unless_faulty mapped (suc (suc pages) + suc (suc pages)) (entry_fault mapped 8 prp2 (8 * min (slots_of prp2) (suc (suc pages)))) _ (λ fine.
    let there = entry_fault-mapped mapped 8 prp2 (8 * min (slots_of prp2) (suc (suc pages))) fine in
    let aligned : prp2 % 8 ≡ 0 = there.0 in
    read_entries-often mapped (suc (suc pages)) (slots_of prp2) prp2 bytes pieces (λ _. omega arith) there.1)

-- a list of PRPs for 128 KiB asks less often than an SGL may
pub read_prp-often : (mapped : ℕ → Bool) (prp1 prp2 len : ℕ) → len ≤ 131072
    → AsksAtMost mapped 1023 (read_prp mapped prp1 prp2 len)
read_prp-often mapped prp1 prp2 len most =
    AsksAtMost-unless_faulty mapped 1023 (entry_fault mapped 4 prp1 (first_len prp1 len)) _
    (λ fine.
    let pages : ℕ = pages_of (len - first_len prp1 len) in
    let few : pages ≤ 33 = omega arith in
    let e : 1023 - (pages + pages) + (pages + pages) ≡ 1023 = omega arith in
    let P : ℕ → Type 0 = λ k. AsksAtMost mapped k (read_prp2 mapped pages prp2 (len - first_len prp1 len) (run prp1 (first_len prp1 len))) in
    subst P e (AsksAtMost-weaken mapped (1023 - (pages + pages)) (pages + pages) _ (read_prp2-often mapped pages prp2 (len - first_len prp1 len) (run prp1 (first_len prp1 len)))))
