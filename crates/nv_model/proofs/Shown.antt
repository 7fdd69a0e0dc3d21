-- A transcript that shows a memory settles in the value of that memory.
use Rattle.std.proofs.Common.{◌≡◌, ℕ, zero, suc, ◌+◌, ◌-◌, ◌<◌, ◌≤◌, true, false, cond, ◌&&◌, ◌==◌, List, [], ◌∷◌, All, Some, None, drop, length, slice_index}
use Rattle.std.proofs.Common.{take, arith, refl, sym, ap, ◌∙◌, subst, eqb-true}
use Rattle.std.proofs.lemmas.Bool.Decides.{nat_tests}
use Rattle.std.proofs.lemmas.List.{get_or-drop, length-drop}
use Rattle.std.proofs.lemmas.List.Elements.{All-nil, All-cons, All-head, All-tail, All-weaker}
use Rattle.nv_model.specs.Memory.{bytes_from}
use Rattle.nv_model.specs.Dialogue.{Dialogue, End, Ask, asked, in_memory}
use Rattle.nv_model.specs.Transcript.{ReadDone, Settled, first_read, in_transcript, met_by, part}
use Rattle.nv_model.specs.Parts.{AsksInParts, ShowsAt, ShowsOn, UsesUp, in_hand, met_behind, reads_met}
use Rattle.nv_model.proofs.Endings.{and-true}

-- ---- bytes that a read shows

-- as many bytes as are asked for
pub length-bytes_from : (memory : ℕ → ℕ) (addr len : ℕ) → length (bytes_from memory addr len) ≡ len
unfolding bytes_from
length-bytes_from memory addr zero = refl
length-bytes_from memory addr (suc len) = ap suc (length-bytes_from memory (suc addr) len)

-- bytes that are the memory's one by one are the memory's
pub take-shown : (memory : ℕ → ℕ) (addr unit : ℕ) (bytes : List ℕ) → unit ≤ length bytes
    → ((i : ℕ) → i < unit → slice_index bytes i ≡ memory (addr + i)) → take unit bytes ≡ bytes_from memory addr unit
unfolding bytes_from
take-shown memory addr zero bytes fit each = refl
take-shown memory addr (suc unit) [] fit each = absurd (omega arith)
take-shown memory addr (suc unit) (byte ∷ bytes) fit each =
    let here : addr + 0 ≡ addr = omega arith in
    let first : byte ≡ memory addr = each 0 (omega arith) ∙ ap memory here in
    let rest = take-shown memory (suc addr) unit bytes (omega arith)
    (λ i below. let next : addr + suc i ≡ suc addr + i = omega arith in each (suc i) (omega arith) ∙ ap memory next) in
    rw (first, rest) refl

-- the unit that is taken of what a read shows
pub unit-shown : (memory : ℕ → ℕ) (addr unit : ℕ) (spans : List (ℕ × ℕ)) (bytes : List ℕ) → unit ≤ length bytes
    → ShowsOn memory ((addr, unit) ∷ spans) (record { addr = addr; bytes = bytes })
    → take unit bytes ≡ bytes_from memory addr unit
unit-shown memory addr unit spans bytes fit shows =
    let here = All-head (ShowsAt memory (record { addr = addr; bytes = bytes })) (addr, unit) spans shows in
    take-shown memory addr unit bytes fit (λ i below. here i (omega arith) (omega arith) (omega arith))

-- what is left of it shows the memory, too
ShowsAt-drop : (memory : ℕ → ℕ) (addr unit : ℕ) (span : ℕ × ℕ) (bytes : List ℕ) → unit ≤ length bytes
    → ShowsAt memory (record { addr = addr; bytes = bytes }) span
    → ShowsAt memory (record { addr = addr + unit; bytes = drop unit bytes }) span
ShowsAt-drop memory addr unit span bytes fit shows = λ i below low high.
    let many = length-drop unit bytes in
    let at : addr + (unit + i) ≡ addr + unit + i = omega arith in
    let low_too : span.0 ≤ addr + (unit + i) = omega arith in
    let high_too : addr + (unit + i) < span.0 + span.1 = omega arith in
    get_or-drop unit bytes i 0 ∙ shows (unit + i) (omega arith) low_too high_too ∙ ap memory at

pub rest-shown : (memory : ℕ → ℕ) (addr unit : ℕ) (spans : List (ℕ × ℕ)) (bytes : List ℕ) → unit ≤ length bytes
    → ShowsOn memory ((addr, unit) ∷ spans) (record { addr = addr; bytes = bytes })
    → ShowsOn memory spans (record { addr = addr + unit; bytes = drop unit bytes })
rest-shown memory addr unit spans bytes fit shows =
    All-weaker (ShowsAt memory (record { addr = addr; bytes = bytes })) (ShowsAt memory (record { addr = addr + unit; bytes = drop unit bytes }))
    (λ span here. ShowsAt-drop memory addr unit span bytes fit here) spans
    (All-tail (ShowsAt memory (record { addr = addr; bytes = bytes })) (addr, unit) spans shows)

-- fewer spans
pub shown-fewer : (memory : ℕ → ℕ) (span : ℕ × ℕ) (spans : List (ℕ × ℕ)) (reads : List ReadDone)
    → All (ShowsOn memory (span ∷ spans)) reads → All (ShowsOn memory spans) reads
shown-fewer memory span spans reads shown =
    All-weaker (ShowsOn memory (span ∷ spans)) (ShowsOn memory spans) (λ r here. All-tail (ShowsAt memory r) span spans here) reads shown

-- ---- reads that meet a want

-- a read that is found has the length
pub first_read-length : (addr len : ℕ) (reads : List ReadDone) (found : List ℕ × List ReadDone)
    → first_read addr len reads ≡ Some found → length found.0 ≡ len
unfolding first_read
first_read-length addr len [] found is = cc
first_read-length addr len (r ∷ reads) found is =
    (elim (r.addr == addr && length r.bytes == len) as (λ b. (r.addr == addr && length r.bytes == len) ≡ b
    → cond b (Some (r.bytes, reads)) (first_read addr len reads) ≡ Some found → length found.0 ≡ len) [
      | true ↦ λ both same.
          let met = eqb-true (length r.bytes) len (and-true (r.addr == addr) (length r.bytes == len) both).1 in
          let this : (r.bytes, reads) ≡ found = cc in
          ap (λ (f : List ℕ × List ReadDone). length f.0) (sym this) ∙ met
      | false ↦ λ no same. first_read-length addr len reads found same
    ]) refl is

-- ---- the value

-- while bytes of a part are left, those are at hand
pub in_hand-some : (rest left : ℕ) → 0 < rest → in_hand rest left ≡ rest
in_hand-some rest left some = grind (arith, nat_tests)

-- a dialogue that uses up what is left of a part, with reads that show the memory where it asks there
pub in_transcript-shown : {A : Type 0} (memory : ℕ → ℕ) (d : Dialogue A) (from : ℕ) (buffer : List ℕ) (reads : List ReadDone) (value : A)
    → UsesUp from (length buffer) d → ShowsOn memory (asked memory d) (record { addr = from; bytes = buffer })
    → All (ShowsOn memory (asked memory d)) (reads_met d buffer reads)
    → in_transcript d buffer reads ≡ Settled value → in_memory memory d ≡ value
unfolding in_transcript in_memory asked reads_met
in_transcript-shown memory (End end) from buffer reads value uses shows shown settled = cc
in_transcript-shown memory (Ask addr unit left next) from (byte ∷ buffer) reads value uses shows shown settled =
    let at : from ≡ addr = sym (uses.0 (omega arith)) in
    let bytes : List ℕ = byte ∷ buffer in
    let hand : in_hand (length bytes) left ≡ length bytes = in_hand-some (length bytes) left (omega arith) in
    let fit : unit ≤ length bytes = subst (λ (n : ℕ). unit ≤ n) hand uses.1 in
    let spans = asked memory (next (bytes_from memory addr unit)) in
    let shows_here : ShowsOn memory ((addr, unit) ∷ spans) (record { addr = addr; bytes = bytes }) =
    subst (λ (a : ℕ). ShowsOn memory ((addr, unit) ∷ spans) (record { addr = a; bytes = bytes })) at shows in
    let same = unit-shown memory addr unit spans bytes fit shows_here in
    let uses_next = uses.2 (bytes_from memory addr unit) (length-bytes_from memory addr unit) in
    in_transcript-shown memory (next (bytes_from memory addr unit)) (addr + unit) (drop unit bytes) reads value
    (subst (λ (n : ℕ). UsesUp (addr + unit) n (next (bytes_from memory addr unit))) (ap (λ (n : ℕ). n - unit) hand ∙ sym (length-drop unit bytes)) uses_next)
    (rest-shown memory addr unit spans bytes fit shows_here)
    (shown-fewer memory (addr, unit) spans _
    (subst (λ (b : List ℕ). All (ShowsOn memory ((addr, unit) ∷ spans)) (reads_met (next b) (drop unit bytes) reads)) same shown))
    (subst (λ (b : List ℕ). in_transcript (next b) (drop unit bytes) reads ≡ Settled value) same settled)
in_transcript-shown memory (Ask addr unit left next) from [] reads value uses shows shown settled =
    let spans = asked memory (next (bytes_from memory addr unit)) in
    (elim (first_read addr (part left) reads) as (λ o. first_read addr (part left) reads ≡ o
    → All (ShowsOn memory ((addr, unit) ∷ spans)) (met_behind addr o (λ bytes rest. reads_met (next (take unit bytes)) (drop unit bytes) rest))
    → met_by addr (part left) o (λ bytes rest. in_transcript (next (take unit bytes)) (drop unit bytes) rest) ≡ Settled value
    → in_memory memory (next (bytes_from memory addr unit)) ≡ value) [
      | None ↦ λ is shown_here settled_here. cc
      | Some found ↦ λ is shown_here settled_here.
          let many = first_read-length addr (part left) reads found is in
          let fit : unit ≤ length found.0 = subst (λ (n : ℕ). unit ≤ n) (sym many) uses.1 in
          let behind = reads_met (next (take unit found.0)) (drop unit found.0) found.1 in
          let read : ReadDone = record { addr = addr; bytes = found.0 } in
          let shows_here = All-head (ShowsOn memory ((addr, unit) ∷ spans)) read behind shown_here in
          let same = unit-shown memory addr unit spans found.0 fit shows_here in
          let uses_next = uses.2 (bytes_from memory addr unit) (length-bytes_from memory addr unit) in
          let left_over : part left - unit ≡ length (drop unit found.0) = ap (λ (n : ℕ). n - unit) (sym many) ∙ sym (length-drop unit found.0) in
          in_transcript-shown memory (next (bytes_from memory addr unit)) (addr + unit) (drop unit found.0) found.1 value
          (subst (λ (n : ℕ). UsesUp (addr + unit) n (next (bytes_from memory addr unit))) left_over uses_next)
          (rest-shown memory addr unit spans found.0 fit shows_here)
          (shown-fewer memory (addr, unit) spans _
          (subst (λ (b : List ℕ). All (ShowsOn memory ((addr, unit) ∷ spans)) (reads_met (next b) (drop unit found.0) found.1)) same
          (All-tail (ShowsOn memory ((addr, unit) ∷ spans)) read behind shown_here)))
          (subst (λ (b : List ℕ). in_transcript (next b) (drop unit found.0) found.1 ≡ Settled value) same settled_here)
    ]) refl shown settled

-- ---- transcripts

-- no bytes show nothing else
ShowsOn-nil : (memory : ℕ → ℕ) (addr : ℕ) (spans : List (ℕ × ℕ))
    → ShowsOn memory spans (record { addr = addr; bytes = [] })
ShowsOn-nil memory addr [] = All-nil (ShowsAt memory (record { addr = addr; bytes = [] }))
ShowsOn-nil memory addr (span ∷ spans) =
    All-cons (ShowsAt memory (record { addr = addr; bytes = [] })) span spans (λ i below low high. absurd (omega arith)) (ShowsOn-nil memory addr spans)

-- from the start on
pub settled-in_memory : {A : Type 0} (memory : ℕ → ℕ) (d : Dialogue A) (reads : List ReadDone) (value : A)
    → AsksInParts d → All (ShowsOn memory (asked memory d)) (reads_met d [] reads)
    → in_transcript d [] reads ≡ Settled value → in_memory memory d ≡ value
settled-in_memory memory d reads value parts shown settled =
    in_transcript-shown memory d 0 [] reads value parts (ShowsOn-nil memory 0 (asked memory d)) shown settled

-- a read that is found has what each read has, and so have those behind it
first_read-all : (P : ReadDone → Type 0) (addr len : ℕ) (reads : List ReadDone) (found : List ℕ × List ReadDone)
    → All P reads → first_read addr len reads ≡ Some found → P (record { addr = addr; bytes = found.0 }) × All P found.1
unfolding first_read
first_read-all P addr len [] found each is = cc
first_read-all P addr len (r ∷ reads) found each is =
    (elim (r.addr == addr && length r.bytes == len) as (λ b. (r.addr == addr && length r.bytes == len) ≡ b
    → cond b (Some (r.bytes, reads)) (first_read addr len reads) ≡ Some found
    → P (record { addr = addr; bytes = found.0 }) × All P found.1) [
      | true ↦ λ both same.
          let at : addr ≡ r.addr = sym (eqb-true r.addr addr (and-true (r.addr == addr) (length r.bytes == len) both).0) in
          let this : found ≡ (r.bytes, reads) = cc in
          rw (this, at) (All-head P r reads each, All-tail P r reads each)
      | false ↦ λ no same. first_read-all P addr len reads found (All-tail P r reads each) same
    ]) refl is

-- so have the reads that were met
pub reads_met-all : {A : Type 0} (P : ReadDone → Type 0) (d : Dialogue A) (buffer : List ℕ) (reads : List ReadDone)
    → All P reads → All P (reads_met d buffer reads)
unfolding reads_met
reads_met-all P (End value) buffer reads each = All-nil P
reads_met-all P (Ask addr unit left next) (byte ∷ buffer) reads each =
    reads_met-all P (next (take unit (byte ∷ buffer))) (drop unit (byte ∷ buffer)) reads each
reads_met-all P (Ask addr unit left next) [] reads each =
    (elim (first_read addr (part left) reads) as (λ o. first_read addr (part left) reads ≡ o
    → All P (met_behind addr o (λ bytes rest. reads_met (next (take unit bytes)) (drop unit bytes) rest))) [
      | None ↦ λ is. All-nil P
      | Some found ↦ λ is.
          let both = first_read-all P addr (part left) reads found each is in
          All-cons P (record { addr = addr; bytes = found.0 }) _ both.0 (reads_met-all P (next (take unit found.0)) (drop unit found.0) found.1 both.1)
    ]) refl

-- the byte of a memory where it stands
bytes_from-at : (memory : ℕ → ℕ) (addr len i : ℕ) → i < len
    → slice_index (bytes_from memory addr len) i ≡ memory (addr + i)
unfolding bytes_from
bytes_from-at memory addr zero i below = absurd (omega arith)
bytes_from-at memory addr (suc len) zero below = ap memory (omega arith)
bytes_from-at memory addr (suc len) (suc i) below =
    let next : suc addr + i ≡ addr + suc i = omega arith in
    bytes_from-at memory (suc addr) len i (omega arith) ∙ ap memory next

-- a read whose bytes are the memory's shows it wherever it is asked
pub ShowsOn-whole : (memory : ℕ → ℕ) (spans : List (ℕ × ℕ)) (r : ReadDone)
    → r.bytes ≡ bytes_from memory r.addr (length r.bytes) → ShowsOn memory spans r
ShowsOn-whole memory [] r whole = All-nil (ShowsAt memory r)
ShowsOn-whole memory (span ∷ spans) r whole =
    All-cons (ShowsAt memory r) span spans
    (λ i below low high. ap (λ (b : List ℕ). slice_index b i) whole ∙ bytes_from-at memory r.addr (length r.bytes) i below)
    (ShowsOn-whole memory spans r whole)
