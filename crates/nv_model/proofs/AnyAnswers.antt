-- What holds of all ends and questions of a dialogue holds with each memory, with each transcript, and where it is fed.
use Rattle.std.proofs.Common.{◌≡◌, ℕ, ◌+◌, ◌-◌, ◌/◌, ◌^◌, ◌<◌, ◌≤◌, Bool, true, false}
use Rattle.std.proofs.Common.{cond, not, ◌&&◌, ◌==◌, nat_lt, ltb-false, mod-lt, List, [], ◌∷◌, All}
use Rattle.std.proofs.Common.{Option, Some, None, drop, length, take, arith, refl, sym, ap, ◌∙◌, subst, inl, inr}
use Rattle.std.proofs.lemmas.List.{length-drop, length-take-le}
use Rattle.std.proofs.lemmas.List.Elements.{All-nil, All-cons, All-weaker}
use Rattle.nv_model.specs.Memory.{bytes_from}
use Rattle.nv_model.specs.Dialogue.{Dialogue, End, Ask, asked, in_memory}
use Rattle.nv_model.specs.Transcript.{ReadDone, Settled, Wanted, fed, first_read, in_transcript, met_by, part}
use Rattle.nv_entry.specs.Layout.{bits}
use Rattle.nv_entry.specs.Opcode.{io_opcode}
use Rattle.nv_entry.specs.Submission.{cdw_of, fuse_of, nr_of, opcode_of, slba_of}
use Rattle.nv_ns.specs.BlockRange.{in_namespace}
use Rattle.nv_entry.specs.declared.opcode.IoOpcode.{IoOpcode}
use Rattle.nv_entry.specs.declared.status_code.StatusCode.{StatusCode}
use Rattle.nv_entry.specs.declared.status_code.StatusCode.TheVariants.{InvalidField}
use Rattle.nv_model.specs.Judge.{Form, Transfer, Clear, Manage, Keep, Work, Go, count_of, field_refusal, form_has_blocks, form_has_buffer, form_of}
use Rattle.nv_model.specs.Judge.{form_transfer_len, has_blocks, judge, judge_fields, refusal_by_opcode, transfer_len}
use Rattle.nv_model.specs.Limits.{most_blocks, most_bytes}
use Rattle.nv_model.specs.Laws.{still_wanted}
use Rattle.nv_model.specs.Parts.{AsksInParts, UsesUp, in_hand}
use Rattle.nv_model.specs.Endings.{IsPartFor, MayAsk, MayEndIn}
use Rattle.nv_model.proofs.Endings.{EndsIn, and-false, not-false}
use Rattle.nv_model.proofs.Asking.{AsksIn, IsMappedFrom}
use Rattle.nv_model.proofs.Judged.{IfGo, IsSoundWork, judge-sound, refusal_by_opcode-few, refusal_by_opcode-none}
use Rattle.nv_model.proofs.Shown.{first_read-length, in_hand-some, length-bytes_from}

-- ---- all ends and questions

-- what all ends have, each has
pub MayEndIn-has : {A : Type 0} (P : A → Type 0) (d : Dialogue A) (value : A) → EndsIn P d → MayEndIn d value → P value
MayEndIn-has P (End end) value ends may = subst P may ends
MayEndIn-has P (Ask addr unit left next) value ends may = MayEndIn-has P (next may.0) value (ends may.0) may.1.1

-- where all that is asked for is mapped, so is each question
pub MayAsk-mapped : {A : Type 0} (mapped : ℕ → Bool) (d : Dialogue A) (addr unit left : ℕ) → AsksIn mapped d
    → MayAsk d addr unit left
    → IsMappedFrom mapped addr left × (unit ≤ left)
MayAsk-mapped mapped (End end) addr unit left asks may = absurd may
MayAsk-mapped mapped (Ask at count rest next) addr unit left asks (inl same) =
    subst (λ (a : ℕ). IsMappedFrom mapped a left × (unit ≤ left)) same.0
    (subst (λ (n : ℕ). IsMappedFrom mapped at left × (n ≤ left)) same.1
    (subst (λ (n : ℕ). IsMappedFrom mapped at n × (count ≤ n)) same.2 asks.0))
MayAsk-mapped mapped (Ask at count rest next) addr unit left asks (inr later) = MayAsk-mapped mapped (next later.0) addr unit left (asks.1 later.0) later.1.1

-- a question behind an answer
MayAsk-behind : {A : Type 0} (at count rest : ℕ) (next : List ℕ → Dialogue A) (bytes : List ℕ) (addr unit left : ℕ)
    → length bytes ≡ count → MayAsk (next bytes) addr unit left → MayAsk (Ask at count rest next) addr unit left
MayAsk-behind at count rest next bytes addr unit left many may = inr (bytes, (many, may))

-- ---- with a memory

-- its value is an end
pub in_memory-may : {A : Type 0} (memory : ℕ → ℕ) (d : Dialogue A) → MayEndIn d (in_memory memory d)
unfolding in_memory
in_memory-may memory (End end) = refl
in_memory-may memory (Ask addr unit left next) =
    (bytes_from memory addr unit, (length-bytes_from memory addr unit, in_memory-may memory (next (bytes_from memory addr unit))))

-- and what is asked for there may be asked for
pub asked-may : {A : Type 0} (memory : ℕ → ℕ) (d : Dialogue A)
    → All (λ (s : ℕ × ℕ). (left : ℕ) × MayAsk d s.0 s.1 left) (asked memory d)
unfolding asked
asked-may memory (End end) = All-nil (λ (s : ℕ × ℕ). (left : ℕ) × MayAsk (End end) s.0 s.1 left)
asked-may memory (Ask addr unit left next) =
    let bytes = bytes_from memory addr unit in
    All-cons (λ (s : ℕ × ℕ). (wanted : ℕ) × MayAsk (Ask addr unit left next) s.0 s.1 wanted) (addr, unit) (asked memory (next bytes))
    (left, inl (refl, refl, refl))
    (All-weaker (λ (s : ℕ × ℕ). (wanted : ℕ) × MayAsk (next bytes) s.0 s.1 wanted) (λ (s : ℕ × ℕ). (wanted : ℕ) × MayAsk (Ask addr unit left next) s.0 s.1 wanted)
    (λ s may. (may.0, MayAsk-behind addr unit left next bytes s.0 s.1 may.0 (length-bytes_from memory addr unit) may.1))
    (asked memory (next bytes)) (asked-may memory (next bytes)))

-- ---- with bytes that were read

-- what is left of a part, from a question on
pub uses-next : {A : Type 0} (from rest addr unit left : ℕ) (next : List ℕ → Dialogue A) (bytes : List ℕ)
    → UsesUp from rest (Ask addr unit left next) → length bytes ≡ in_hand rest left
    → (unit ≤ length bytes) × UsesUp (addr + unit) (length (drop unit bytes)) (next (take unit bytes))
uses-next from rest addr unit left next bytes uses many =
    let fit : unit ≤ length bytes = subst (λ (n : ℕ). unit ≤ n) (sym many) uses.1 in
    let same : in_hand rest left - unit ≡ length (drop unit bytes) = ap (λ (n : ℕ). n - unit) (sym many) ∙ sym (length-drop unit bytes) in
    (fit, subst (λ (n : ℕ). UsesUp (addr + unit) n (next (take unit bytes))) same (uses.2 (take unit bytes) (length-take-le unit bytes fit)))

-- the value in which a transcript settles is an end
pub settled-may : {A : Type 0} (d : Dialogue A) (from : ℕ) (buffer : List ℕ) (reads : List ReadDone) (value : A)
    → UsesUp from (length buffer) d → in_transcript d buffer reads ≡ Settled value → MayEndIn d value
unfolding in_transcript
settled-may (End end) from buffer reads value uses settled = cc
settled-may (Ask addr unit left next) from (byte ∷ buffer) reads value uses settled =
    let bytes : List ℕ = byte ∷ buffer in
    let behind = uses-next from (length bytes) addr unit left next bytes uses (sym (in_hand-some (length bytes) left (omega arith))) in
    (take unit bytes, (length-take-le unit bytes behind.0, settled-may (next (take unit bytes)) (addr + unit) (drop unit bytes) reads value behind.1 settled))
settled-may (Ask addr unit left next) from [] reads value uses settled =
    (elim (first_read addr (part left) reads) as (λ o. first_read addr (part left) reads ≡ o
    → met_by addr (part left) o (λ bytes rest. in_transcript (next (take unit bytes)) (drop unit bytes) rest) ≡ Settled value
    → MayEndIn (Ask addr unit left next) value) [
      | None ↦ λ is same. cc
      | Some found ↦ λ is same.
          let behind = uses-next from 0 addr unit left next found.0 uses (first_read-length addr (part left) reads found is) in
          (take unit found.0, (length-take-le unit found.0 behind.0, settled-may (next (take unit found.0)) (addr + unit) (drop unit found.0) found.1 value behind.1 same))
    ]) refl settled

-- what it wants may be asked for
pub wanted-may : {A : Type 0} (d : Dialogue A) (from : ℕ) (buffer : List ℕ) (reads : List ReadDone) (at len : ℕ)
    → UsesUp from (length buffer) d → in_transcript d buffer reads ≡ Wanted at len
    → (unit : ℕ) × ((left : ℕ) × ((len ≡ part left) × MayAsk d at unit left))
unfolding in_transcript
wanted-may (End end) from buffer reads at len uses wanted = cc
wanted-may (Ask addr unit left next) from (byte ∷ buffer) reads at len uses wanted =
    let bytes : List ℕ = byte ∷ buffer in
    let behind = uses-next from (length bytes) addr unit left next bytes uses (sym (in_hand-some (length bytes) left (omega arith))) in
    let later = wanted-may (next (take unit bytes)) (addr + unit) (drop unit bytes) reads at len behind.1 wanted in
    (later.0, (later.1.0, (later.1.1.0, MayAsk-behind addr unit left next (take unit bytes) at later.0 later.1.0 (length-take-le unit bytes behind.0) later.1.1.1)))
wanted-may (Ask addr unit left next) from [] reads at len uses wanted =
    (elim (first_read addr (part left) reads) as (λ o. first_read addr (part left) reads ≡ o
    → met_by addr (part left) o (λ bytes rest. in_transcript (next (take unit bytes)) (drop unit bytes) rest) ≡ Wanted at len
    → (unit' : ℕ) × ((left' : ℕ) × ((len ≡ part left') × MayAsk (Ask addr unit left next) at unit' left'))) [
      | None ↦ λ is same.
          let here : addr ≡ at = cc in
          let many : len ≡ part left = cc in
          (unit, (left, (many, inl (here, refl, refl))))
      | Some found ↦ λ is same.
          let behind = uses-next from 0 addr unit left next found.0 uses (first_read-length addr (part left) reads found is) in
          let later = wanted-may (next (take unit found.0)) (addr + unit) (drop unit found.0) found.1 at len behind.1 same in
          (later.0, (later.1.0, (later.1.1.0, MayAsk-behind addr unit left next (take unit found.0) at later.0 later.1.0 (length-take-le unit found.0 behind.0) later.1.1.1)))
    ]) refl wanted

-- ---- where it is fed

-- its ends, its questions, and its parts
pub record LeadsOn {A : Type 0} (d behind : Dialogue A) : Type 0 where
  pub ends : (value : A) → MayEndIn behind value → MayEndIn d value
  pub asks : (addr unit left : ℕ) → MayAsk behind addr unit left → MayAsk d addr unit left
  pub parts : AsksInParts behind

-- none of a part is left, wherever it stood
uses-none : {A : Type 0} (from at : ℕ) (d : Dialogue A) → UsesUp from 0 d → UsesUp at 0 d
uses-none from at (End end) uses = tt
uses-none from at (Ask addr unit left next) uses = (λ some. absurd (omega arith), uses.1, uses.2)

-- behind an answer
pub LeadsOn-behind : {A : Type 0} (addr unit left : ℕ) (next : List ℕ → Dialogue A) (bytes : List ℕ) (behind : Dialogue A)
    → length bytes ≡ unit → LeadsOn (next bytes) behind → LeadsOn (Ask addr unit left next) behind
LeadsOn-behind addr unit left next bytes behind many leads =
    record {
      ends = λ value may. (bytes, (many, leads.ends value may));
      asks = λ at count rest may. inr (bytes, (many, leads.asks at count rest may));
      parts = leads.parts;
    }

-- what is left of a part is fed
pub fed-leads : {A : Type 0} (d : Dialogue A) (from : ℕ) (bytes : List ℕ) → UsesUp from (length bytes) d
    → LeadsOn d (fed d bytes)
unfolding fed
fed-leads (End end) from bytes uses = record { ends = λ value may. may; asks = λ addr unit left may. may; parts = tt }
fed-leads (Ask addr unit left next) from [] uses =
    record { ends = λ value may. may; asks = λ at count rest may. may; parts = uses-none from 0 (Ask addr unit left next) uses }
fed-leads (Ask addr unit left next) from (byte ∷ bytes) uses =
    let all : List ℕ = byte ∷ bytes in
    let behind = uses-next from (length all) addr unit left next all uses (sym (in_hand-some (length all) left (omega arith))) in
    LeadsOn-behind addr unit left next (take unit all) (fed (next (take unit all)) (drop unit all)) (length-take-le unit all behind.0)
    (fed-leads (next (take unit all)) (addr + unit) (drop unit all) behind.1)

-- a new part is fed
pub fed_part-leads : {A : Type 0} (d : Dialogue A) (bytes : List ℕ) → AsksInParts d → IsPartFor d bytes
    → LeadsOn d (fed d bytes)
unfolding fed
fed_part-leads (End end) bytes uses whole =
    record { ends = λ value may. may; asks = λ addr unit left may. may; parts = tt }
fed_part-leads (Ask addr unit left next) [] uses whole =
    record { ends = λ value may. may; asks = λ at count rest may. may; parts = uses }
fed_part-leads (Ask addr unit left next) (byte ∷ bytes) uses whole =
    let all : List ℕ = byte ∷ bytes in
    let behind = uses-next 0 0 addr unit left next all uses whole in
    LeadsOn-behind addr unit left next (take unit all) (fed (next (take unit all)) (drop unit all)) (length-take-le unit all behind.0)
    (fed-leads (next (take unit all)) (addr + unit) (drop unit all) behind.1)

-- what is still wanted where it asks in a memory
pub still_wanted-may : {A : Type 0} (memory : ℕ → ℕ) (d : Dialogue A)
    → All (λ (s : ℕ × ℕ). (unit : ℕ) × MayAsk d s.0 unit s.1) (still_wanted memory d)
unfolding still_wanted
still_wanted-may memory (End end) = All-nil (λ (s : ℕ × ℕ). (unit : ℕ) × MayAsk (End end) s.0 unit s.1)
still_wanted-may memory (Ask addr unit left next) =
    let bytes = bytes_from memory addr unit in
    All-cons (λ (s : ℕ × ℕ). (count : ℕ) × MayAsk (Ask addr unit left next) s.0 count s.1) (addr, left) (still_wanted memory (next bytes))
    (unit, inl (refl, refl, refl))
    (All-weaker (λ (s : ℕ × ℕ). (count : ℕ) × MayAsk (next bytes) s.0 count s.1) (λ (s : ℕ × ℕ). (count : ℕ) × MayAsk (Ask addr unit left next) s.0 count s.1)
    (λ s may. (may.0, MayAsk-behind addr unit left next bytes s.0 may.0 s.1 (length-bytes_from memory addr unit) may.1))
    (still_wanted memory (next bytes)) (still_wanted-may memory (next bytes)))

-- ---- the verdict

-- what each verdict that goes says, whatever answers
pub end-sound : (mapped : ℕ → Bool) (limit blocks : ℕ) (entry : List ℕ) (work : Work)
    → MayEndIn (judge mapped limit blocks entry) (Go work) → IsSoundWork mapped blocks entry work
end-sound mapped limit blocks entry work may =
    MayEndIn-has (IfGo (IsSoundWork mapped blocks entry)) (judge mapped limit blocks entry) (Go work) (judge-sound mapped limit blocks entry) may

-- a command that goes isn't refused by its fields
not-refused : (refusal : Option StatusCode) (mapped : ℕ → Bool) (limit blocks : ℕ) (entry : List ℕ) (work : Work)
    → MayEndIn (judge_fields refusal mapped limit blocks entry) (Go work) → refusal ≡ None
not-refused (Some code) mapped limit blocks entry work may = cc
not-refused None mapped limit blocks entry work may = refl

-- nor is its opcode unknown
not-refused-by : (opcode : Option IoOpcode) (blocks : ℕ) (entry : List ℕ) (it : IoOpcode) → opcode ≡ Some it
    → (b : Bool) → cond (not b) (Some InvalidField) (refusal_by_opcode blocks entry opcode) ≡ None
    → refusal_by_opcode blocks entry (Some it) ≡ None
not-refused-by opcode blocks entry it is true none = subst (λ (o : Option IoOpcode). refusal_by_opcode blocks entry o ≡ None) is none
not-refused-by opcode blocks entry it is false none = cc

-- NR has eight bits
nr_of-below : (entry : List ℕ) → nr_of entry < 256
unfolding bits
nr_of-below entry = mod-lt (cdw_of 10 entry / 2 ^ 0) (omega arith)

-- a transfer of so many blocks is short
short-by : (form : Form) (entry : List ℕ)
    → (form_has_buffer form && form_has_blocks form && nat_lt most_blocks (count_of entry)) ≡ false
    → form_transfer_len form entry ≤ most_bytes
short-by (Transfer dest) entry few = let least = ltb-false most_blocks (count_of entry) few in omega arith
short-by Clear entry few = omega arith
short-by Manage entry few = let below = nr_of-below entry in omega arith
short-by Keep entry few = omega arith

-- so its transfer has at most 131,072 bytes, whatever answers
pub end-short : (mapped : ℕ → Bool) (limit blocks : ℕ) (entry : List ℕ) (work : Work)
    → MayEndIn (judge mapped limit blocks entry) (Go work) → transfer_len work.opcode entry ≤ most_bytes
unfolding judge
end-short mapped limit blocks entry work may =
    let fields = not-refused (field_refusal blocks entry) mapped limit blocks entry work may in
    let is = (end-sound mapped limit blocks entry work may).opcode in
    let none = not-refused-by (io_opcode (opcode_of entry)) blocks entry work.opcode is (fuse_of entry == 0) fields in
    short-by (form_of work.opcode) entry (refusal_by_opcode-few blocks entry work.opcode none)

-- and its range of blocks lies in the namespace
pub end-within : (mapped : ℕ → Bool) (limit blocks : ℕ) (entry : List ℕ) (work : Work)
    → MayEndIn (judge mapped limit blocks entry) (Go work) → has_blocks work.opcode ≡ true
    → in_namespace (slba_of entry) (count_of entry) blocks ≡ true
unfolding judge
end-within mapped limit blocks entry work may has =
    let fields = not-refused (field_refusal blocks entry) mapped limit blocks entry work may in
    let is = (end-sound mapped limit blocks entry work may).opcode in
    let none = not-refused-by (io_opcode (opcode_of entry)) blocks entry work.opcode is (fuse_of entry == 0) fields in
    not-false (in_namespace (slba_of entry) (count_of entry) blocks)
    (and-false (has_blocks work.opcode) (not (in_namespace (slba_of entry) (count_of entry) blocks)) (refusal_by_opcode-none blocks entry work.opcode none) has)
