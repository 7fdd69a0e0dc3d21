-- Lemmas on a parse that is fed what a memory shows where it asks.
use Rattle.std.proofs.Common.{◌≡◌, ℕ, zero, suc, ◌+◌, ◌-◌, ◌*◌, ◌≤◌, min, Bool, true, false, cond}
use Rattle.std.proofs.Common.{◌&&◌, ◌==◌, nat_lt, List, ◌++◌, take, drop, arith, refl, sym, ap, ◌∙◌}
use Rattle.nv_entry.specs.Layout.{number_at}
use Rattle.nv_mem.specs.GuestMap.{mapped}
use Rattle.nv_mem.specs.declared.piece.Piece.{Piece}
use Rattle.nv_model.specs.Dialogue.{Dialogue, Ask, in_memory}
use Rattle.nv_model.specs.Memory.{bytes_from}
use Rattle.nv_model.specs.Prp.{entry_fault, read_entries}
use Rattle.nv_model.specs.Limits.{page}
use Rattle.nv_model.specs.Reading.{Reading, run}
use Rattle.nv_model.specs.Transcript.{fed}
use Rattle.nv_model.specs.Want.{want_of}
use Rattle.nv_model.specs.declared.want.Want.TheVariants as want
use Rattle.nv_model.proofs.Feedings.{drop-bytes_from, take-bytes_from, KeepsEnd, KeepsEnd-fault, KeepsEnd-nil}
use Rattle.nv_prp.specs.Parse.{Parse, dialogue_of}
use Rattle.nv_prp.proofs.Cursors.{behind_slot, read_entries-fed}
use Rattle.nv_prp.proofs.Parses.{at-pointer, want_of-part_of}

-- no slots
KeepsEnd-none : (m : ℕ → ℕ) (d : Dialogue Reading) (from n : ℕ) → n ≡ 0 → KeepsEnd m d (bytes_from m from (8 * n))
unfolding bytes_from
KeepsEnd-none m d from n none = rw none (KeepsEnd-nil m d)

-- the next slot is answered by its memory
in_memory-if : (m : ℕ → ℕ) (b : Bool) (from left other : ℕ) (f g : List ℕ → Dialogue Reading)
    → in_memory m (cond b (Ask from 8 left f) (Ask from 8 other g)) ≡ in_memory m (cond b (f (bytes_from m from 8)) (g (bytes_from m from 8)))
unfolding in_memory
in_memory-if m true from left other f g = refl
in_memory-if m false from left other f g = refl

pub in_memory-entries : (m : ℕ → ℕ) (mapped : ℕ → Bool) (pages slots from bytes : ℕ) (runs : List Piece)
    → in_memory m (read_entries mapped (suc pages) slots from bytes runs)
    ≡ in_memory m (behind_slot mapped pages slots from bytes runs (number_at (bytes_from m from 8) 0 8))
unfolding read_entries
in_memory-entries m mapped pages slots from bytes runs = in_memory-if m _ _ _ _ _ _

-- and fed by it
fed-entries : (m : ℕ → ℕ) (mapped : ℕ → Bool) (pages slots from bytes : ℕ) (runs : List Piece) (n : ℕ)
    → fed (read_entries mapped (suc pages) slots from bytes runs) (bytes_from m from (suc n))
    ≡ fed (behind_slot mapped pages slots from bytes runs (number_at (take 8 (bytes_from m from (suc n))) 0 8)) (drop 8 (bytes_from m from (suc n)))
unfolding bytes_from
fed-entries m mapped pages slots from bytes runs n =
    read_entries-fed mapped pages slots from bytes runs (m from) (bytes_from m (suc from) n)

-- behind a slot, where feeding does behind an entry
KeepsEnd-if : (m : ℕ → ℕ) (b : Bool) (x y : Dialogue Reading) (bytes : List ℕ) → (b ≡ true → KeepsEnd m x bytes)
    → (b ≡ false → KeepsEnd m y bytes) → KeepsEnd m (cond b x y) bytes
KeepsEnd-if m true x y bytes so not_so = so refl
KeepsEnd-if m false x y bytes so not_so = not_so refl

-- slots of a list page that are there are read as they would be asked for
KeepsEnd-entries : (m : ℕ → ℕ) (mapped : ℕ → Bool) (n pages slots from bytes : ℕ) (runs : List Piece) → n ≤ slots
    → n ≤ pages
    → KeepsEnd m (read_entries mapped pages slots from bytes runs) (bytes_from m from (8 * n))
KeepsEnd-entries m mapped zero pages slots from bytes runs within needed = KeepsEnd-none m _ from zero refl
KeepsEnd-entries m mapped (suc n) zero slots from bytes runs within needed = absurd (omega arith)
KeepsEnd-entries m mapped (suc n) (suc pages) slots from bytes runs within needed =
    let all : Dialogue Reading = read_entries mapped (suc pages) slots from bytes runs in
    let behind : ℕ → Dialogue Reading = λ v. behind_slot mapped pages slots from bytes runs v in
    let value : ℕ = number_at (bytes_from m from 8) 0 8 in
    let more : 8 * suc n ≡ 8 + 8 * n = omega arith in
    let less : n ≤ slots - 1 = omega arith in
    let fewer : n ≤ pages = omega arith in
    let one : 8 + 8 * n ≡ suc (7 + 8 * n) = omega arith in
    let keeps : KeepsEnd m (behind value) (bytes_from m (from + 8) (8 * n)) =
    KeepsEnd-if
    m (slots == 1 && nat_lt 0 pages) _ _ (bytes_from m (from + 8) (8 * n))
    (λ is. KeepsEnd-none m _ (from + 8) n (let at = at-pointer slots pages is in omega arith))
    (λ is.
    KeepsEnd-fault
    m (entry_fault mapped page value (min bytes page)) (read_entries mapped pages (slots - 1) (from + 8) (bytes - page) (runs ++ run value (min bytes page)))
    (bytes_from m (from + 8) (8 * n))
    (λ none. KeepsEnd-entries m mapped n pages (slots - 1) (from + 8) (bytes - page) (runs ++ run value (min bytes page)) less fewer)) in
    record {
      same =
          ap (λ (k : ℕ). in_memory m (fed all (bytes_from m from k))) (more ∙ one)
          ∙ ap (in_memory m) (fed-entries m mapped pages slots from bytes runs (7 + 8 * n))
          ∙ ap (λ (k : ℕ). in_memory m (fed (behind (number_at (take 8 (bytes_from m from k)) 0 8)) (drop 8 (bytes_from m from k)))) (sym one)
          ∙ ap (λ (e : List ℕ). in_memory m (fed (behind (number_at e 0 8)) (drop 8 (bytes_from m from (8 + 8 * n))))) (take-bytes_from m from 8 (8 * n))
          ∙ ap (λ (e : List ℕ). in_memory m (fed (behind value) e)) (drop-bytes_from m from 8 (8 * n))
          ∙ keeps.same
          ∙ sym (in_memory-entries m mapped pages slots from bytes runs);
    }

-- feeding a parse what a memory shows at what it wants leaves its end in this memory as it is
pub in_memory-fed : (m : ℕ → ℕ) (p : Parse) (addr len : ℕ) → want_of (dialogue_of p) ≡ want.Read addr len
    → in_memory m (fed (dialogue_of p) (bytes_from m addr len)) ≡ in_memory m (dialogue_of p)
unfolding dialogue_of
in_memory-fed m p addr len wanted =
    let part = want_of-part_of p addr len wanted in
    let all : Dialogue Reading = dialogue_of p in
    ap (λ (a : ℕ). in_memory m (fed all (bytes_from m a len))) part.start
    ∙ ap (λ (k : ℕ). in_memory m (fed all (bytes_from m p.from k))) part.size
    ∙ (KeepsEnd-fault
    m p.fault _ _
    (λ none. KeepsEnd-entries m (mapped p.regions) part.count p.pages p.slots p.from p.bytes p.runs part.within part.needed)).same
