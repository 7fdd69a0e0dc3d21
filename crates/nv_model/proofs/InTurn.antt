-- A transcript is read one read after the other; and what is wanted, read in a memory, settles the value of that memory.
use Rattle.std.proofs.Common.{◌≡◌, ℕ, ◌+◌, Bool, true, false, cond, ◌&&◌, ◌==◌, List, [], ◌∷◌, ◌++◌}
use Rattle.std.proofs.Common.{All, Some, None, drop, length, take, refl, sym, ap, ◌∙◌, eq-eqb, eqb-true, append_assoc}
use Rattle.std.proofs.lemmas.List.Elements.{All-nil, All-cons, All-weaker}
use Rattle.nv_model.specs.Memory.{bytes_from}
use Rattle.nv_model.specs.Dialogue.{Dialogue, End, Ask, asked, in_memory}
use Rattle.nv_model.specs.Transcript.{ReadDone, Settled, fed, first_read, in_transcript, met_by, part}
use Rattle.nv_model.specs.Parts.{AsksInParts, ShowsOn, met_behind, reads_met}
use Rattle.nv_model.specs.Readers.{given, given_all, reads_in, standing}
use Rattle.std.proofs.lemmas.List.{length-take-le}
use Rattle.nv_model.proofs.AnyAnswers.{LeadsOn, LeadsOn-behind, fed-leads, uses-next}
use Rattle.nv_model.proofs.Endings.{and-true}
use Rattle.nv_model.proofs.Feedings.{in_transcript-fed}
use Rattle.nv_model.proofs.Shown.{ShowsOn-whole, length-bytes_from, reads_met-all, settled-in_memory}

-- ---- one after the other

-- nothing was read
in_transcript-nil : {A : Type 0} (d : Dialogue A) → in_transcript d [] [] ≡ standing d
unfolding in_transcript first_read
in_transcript-nil (End value) = refl
in_transcript-nil (Ask addr unit left next) = refl

-- the first read is given
in_transcript-cons : {A : Type 0} (d : Dialogue A) (r : ReadDone) (rs : List ReadDone)
    → in_transcript d [] (r ∷ rs) ≡ in_transcript (given d r) [] rs
unfolding in_transcript first_read
in_transcript-cons (End value) r rs = refl
in_transcript-cons (Ask addr unit left next) r rs =
    (elim (r.addr == addr && length r.bytes == part left) as (λ b.
    met_by addr (part left) (cond b (Some (r.bytes, rs)) (first_read addr (part left) rs)) (λ bytes rest. in_transcript (next (take unit bytes)) (drop unit bytes) rest)
    ≡ in_transcript (cond b (fed (next (take unit r.bytes)) (drop unit r.bytes)) (Ask addr unit left next)) [] rs) [
      | true ↦ in_transcript-fed (next (take unit r.bytes)) (drop unit r.bytes) rs
      | false ↦ refl
    ])

-- and so each of them
pub in_transcript-given : {A : Type 0} (d : Dialogue A) (reads : List ReadDone)
    → in_transcript d [] reads ≡ standing (given_all d reads)
unfolding given_all
in_transcript-given d [] = in_transcript-nil d
in_transcript-given d (r ∷ rs) = in_transcript-cons d r rs ∙ in_transcript-given (given d r) rs

-- some reads and then others
pub in_transcript-append : {A : Type 0} (d : Dialogue A) (reads more : List ReadDone)
    → in_transcript d [] (reads ++ more) ≡ in_transcript (given_all d reads) [] more
unfolding given_all
in_transcript-append d [] more = refl
in_transcript-append d (r ∷ rs) more = in_transcript-cons d r (rs ++ more) ∙ in_transcript-append (given d r) rs more

-- what has ended is given nothing
given_all-end : {A : Type 0} (value : A) (reads : List ReadDone) → given_all (End value) reads ≡ End value
unfolding given_all
given_all-end value [] = refl
given_all-end value (r ∷ rs) = given_all-end value rs

-- a dialogue that stands settled has ended
standing-settled : {A : Type 0} (d : Dialogue A) (value : A) → standing d ≡ Settled value → d ≡ End value
standing-settled (End end) value is = let same : end ≡ value = cc in ap (λ v. End v) same
standing-settled (Ask addr unit left next) value is = cc

-- a settled transcript stays settled
pub in_transcript-settled : {A : Type 0} (d : Dialogue A) (reads more : List ReadDone) (value : A)
    → in_transcript d [] reads ≡ Settled value → in_transcript d [] (reads ++ more) ≡ Settled value
in_transcript-settled d reads more value settled =
    let over = standing-settled (given_all d reads) value (sym (in_transcript-given d reads) ∙ settled) in
    in_transcript-append d reads more ∙ ap (λ e. in_transcript e [] more) over ∙ in_transcript-given (End value) more
    ∙ ap standing (given_all-end value more)

-- ---- the reads that were met

-- what is left of a part is fed
reads_met-fed : {A : Type 0} (d : Dialogue A) (bytes : List ℕ) (reads : List ReadDone)
    → reads_met d bytes reads ≡ reads_met (fed d bytes) [] reads
unfolding reads_met fed
reads_met-fed (End value) bytes reads = refl
reads_met-fed (Ask addr unit left next) [] reads = refl
reads_met-fed (Ask addr unit left next) (byte ∷ bytes) reads =
    reads_met-fed (next (take unit (byte ∷ bytes))) (drop unit (byte ∷ bytes)) reads

reads_met-nil : {A : Type 0} (d : Dialogue A) → reads_met d [] [] ≡ []
unfolding reads_met first_read
reads_met-nil (End value) = refl
reads_met-nil (Ask addr unit left next) = refl

-- the first, where it meets what is wanted, and those behind it
reads_met-cons : {A : Type 0} (d : Dialogue A) (r : ReadDone) (rs : List ReadDone)
    → reads_met d [] (r ∷ rs) ≡ reads_met d [] (r ∷ []) ++ reads_met (given d r) [] rs
unfolding reads_met first_read
reads_met-cons (End value) r rs = refl
reads_met-cons (Ask addr unit left next) r rs =
    (elim (r.addr == addr && length r.bytes == part left) as (λ b.
    met_behind addr (cond b (Some (r.bytes, rs)) (first_read addr (part left) rs)) (λ bytes rest. reads_met (next (take unit bytes)) (drop unit bytes) rest)
    ≡ met_behind addr (cond b (Some (r.bytes, [])) None) (λ bytes rest. reads_met (next (take unit bytes)) (drop unit bytes) rest)
    ++ reads_met (cond b (fed (next (take unit r.bytes)) (drop unit r.bytes)) (Ask addr unit left next)) [] rs) [
      | true ↦
          let d = next (take unit r.bytes) in
          let bytes = drop unit r.bytes in
          let none : reads_met d bytes [] ≡ [] = reads_met-fed d bytes [] ∙ reads_met-nil (fed d bytes) in
          ap (λ (found : List ReadDone). record { addr = addr; bytes = r.bytes } ∷ found)
          (reads_met-fed d bytes rs ∙ ap (λ (found : List ReadDone). found ++ reads_met (fed d bytes) [] rs) (sym none))
      | false ↦ refl
    ])

-- those of some reads and then others
pub reads_met-append : {A : Type 0} (d : Dialogue A) (reads more : List ReadDone)
    → reads_met d [] (reads ++ more) ≡ reads_met d [] reads ++ reads_met (given_all d reads) [] more
unfolding given_all
reads_met-append d [] more = ap (λ (found : List ReadDone). found ++ reads_met d [] more) (sym (reads_met-nil d))
reads_met-append d (r ∷ rs) more =
    reads_met-cons d r (rs ++ more)
    ∙ ap (λ (found : List ReadDone). reads_met d [] (r ∷ []) ++ found) (reads_met-append (given d r) rs more)
    ∙ sym (append_assoc (reads_met d [] (r ∷ [])) (reads_met (given d r) [] rs) (reads_met (given_all (given d r) rs) [] more))
    ∙ ap (λ (found : List ReadDone). found ++ reads_met (given_all (given d r) rs) [] more) (sym (reads_met-cons d r rs))

-- ---- what a dialogue may do with them

-- a read that meets what is wanted is an answer
pub given-leads : {A : Type 0} (d : Dialogue A) (r : ReadDone) → AsksInParts d → LeadsOn d (given d r)
given-leads (End value) r uses = record { ends = λ v may. may; asks = λ addr unit left may. may; parts = tt }
given-leads (Ask addr unit left next) r uses =
    (elim (r.addr == addr && length r.bytes == part left) as (λ b. (r.addr == addr && length r.bytes == part left) ≡ b
    → LeadsOn (Ask addr unit left next) (cond b (fed (next (take unit r.bytes)) (drop unit r.bytes)) (Ask addr unit left next))) [
      | true ↦ λ is.
          let many : length r.bytes ≡ part left = eqb-true (length r.bytes) (part left) (and-true (r.addr == addr) (length r.bytes == part left) is).1 in
          let behind = uses-next 0 0 addr unit left next r.bytes uses many in
          LeadsOn-behind addr unit left next (take unit r.bytes) (fed (next (take unit r.bytes)) (drop unit r.bytes)) (length-take-le unit r.bytes behind.0)
          (fed-leads (next (take unit r.bytes)) (addr + unit) (drop unit r.bytes) behind.1)
      | false ↦ λ is. record { ends = λ v may. may; asks = λ a u l may. may; parts = uses }
    ]) refl

-- and so are all of them
pub given_all-leads : {A : Type 0} (d : Dialogue A) (reads : List ReadDone) → AsksInParts d
    → LeadsOn d (given_all d reads)
unfolding given_all
given_all-leads d [] uses = record { ends = λ v may. may; asks = λ addr unit left may. may; parts = uses }
given_all-leads d (r ∷ rs) uses =
    let first = given-leads d r uses in
    let others = given_all-leads (given d r) rs first.parts in
    record {
      ends = λ v may. first.ends v (others.ends v may);
      asks = λ addr unit left may. first.asks addr unit left (others.asks addr unit left may);
      parts = others.parts;
    }

-- ---- reads in a memory

-- each is the memory's
reads_in-whole : {A : Type 0} (memory : ℕ → ℕ) (d : Dialogue A) (buffer : List ℕ)
    → All (λ (r : ReadDone). r.bytes ≡ bytes_from memory r.addr (length r.bytes)) (reads_in memory d buffer)
unfolding reads_in
reads_in-whole memory (End value) buffer =
    All-nil (λ (r : ReadDone). r.bytes ≡ bytes_from memory r.addr (length r.bytes))
reads_in-whole memory (Ask addr unit left next) (byte ∷ buffer) =
    reads_in-whole memory (next (take unit (byte ∷ buffer))) (drop unit (byte ∷ buffer))
reads_in-whole memory (Ask addr unit left next) [] =
    let bytes = bytes_from memory addr (part left) in
    let same : bytes ≡ bytes_from memory addr (length bytes) = ap (bytes_from memory addr) (sym (length-bytes_from memory addr (part left))) in
    All-cons (λ (r : ReadDone). r.bytes ≡ bytes_from memory r.addr (length r.bytes)) (record { addr = addr; bytes = bytes }) _ same
    (reads_in-whole memory (next (take unit bytes)) (drop unit bytes))

-- and they settle some value
reads_in-settle : {A : Type 0} (memory : ℕ → ℕ) (d : Dialogue A) (buffer : List ℕ)
    → (value : A) × (in_transcript d buffer (reads_in memory d buffer) ≡ Settled value)
unfolding in_transcript first_read reads_in
reads_in-settle memory (End value) buffer = (value, refl)
reads_in-settle memory (Ask addr unit left next) (byte ∷ buffer) =
    reads_in-settle memory (next (take unit (byte ∷ buffer))) (drop unit (byte ∷ buffer))
reads_in-settle memory (Ask addr unit left next) [] =
    let bytes = bytes_from memory addr (part left) in
    let later = reads_in-settle memory (next (take unit bytes)) (drop unit bytes) in
    let meets : (addr == addr && length bytes == part left) ≡ true = rw (eq-eqb addr addr refl, eq-eqb (length bytes) (part left) (length-bytes_from memory addr (part left))) refl in (
      later.0,
      ap (λ (b : Bool). met_by addr (part left) (cond b (Some (bytes, reads_in memory (next (take unit bytes)) (drop unit bytes)))
          (first_read addr (part left) (reads_in memory (next (take unit bytes)) (drop unit bytes)))) (λ bytes rest. in_transcript (next (take unit bytes)) (drop unit bytes) rest)) meets ∙ later.1,
    )

-- that of the memory
pub reads_in-settled : {A : Type 0} (memory : ℕ → ℕ) (d : Dialogue A) → AsksInParts d
    → in_transcript d [] (reads_in memory d []) ≡ Settled (in_memory memory d)
reads_in-settled memory d parts =
    let some = reads_in-settle memory d [] in
    let reads = reads_in memory d [] in
    let shown = All-weaker (λ (r : ReadDone). r.bytes ≡ bytes_from memory r.addr (length r.bytes)) (ShowsOn memory (asked memory d))
    (λ r whole. ShowsOn-whole memory (asked memory d) r whole) reads (reads_in-whole memory d []) in
    let same = settled-in_memory memory d reads some.0 parts (reads_met-all (ShowsOn memory (asked memory d)) d [] reads shown) some.1 in
    some.1 ∙ ap (λ v. Settled v) (sym same)
