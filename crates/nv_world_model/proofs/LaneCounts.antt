-- How many entries and completions stand in a lane's rings
use Rattle.std.proofs.Common.{◌≡◌, ℕ, ◌+◌, ◌-◌, ◌/◌, ◌%◌, ◌<◌, ◌≤◌, ◌==◌, Bool, true, false, cond, not, List, [], ◌∷◌, length, Option, Some, None, set, get_or}
use Rattle.std.proofs.Common.{refl, sym, ap, ◌∙◌, arith, inl, inr, eqb-true, eq-eqb}
use Rattle.std.specs.Prelude.{is_some}
use Rattle.std.specs.List.{count_by, slice_index_or}
use Rattle.std.proofs.lemmas.Bool.{cases_lt}
use Rattle.std.proofs.lemmas.Bool.Decides.{nat_tests}
use Rattle.std.proofs.lemmas.List.{get_or_past, length-set}
use Rattle.std.proofs.lemmas.List.Sums.{sum_by-set}
use Rattle.nv_entry.specs.Submission.{cid_of}
use Rattle.nv_model.specs.Queue.{ahead, is_empty, next_slot}
use Rattle.nv_world_model.specs.Area.{ring_size}
use Rattle.nv_world_model.specs.Device.{Held, completion_posted, entry_taken, held_of, next_phase, unit_gone}
use Rattle.nv_world_model.specs.LaneRuns.{AreWithinTags, IsNotOverrun, IsWithinTags, LaneEvent, LaneRun, Moves, Posts, Reads, Rings, Takes, held_count}
use Rattle.nv_world_model.specs.LaneRuns.{in_flight, lane_behind, newly_rung, opening_run, posted_of, run_behind, unit_moved_of}

-- ---- positions and counts

-- a slot that is rung is that of the count
rung-slot : (rung tail : ℕ) → tail < 65 → tail ≡ (rung + (tail + 65 - rung % 65) % 65) % 65
rung-slot rung tail below = omega arith

-- the next slot
next-count : (count : ℕ) → (count % 65 + 1) % 65 ≡ (count + 1) % 65
next-count count = omega arith

-- how far one count is ahead of another that it passed by less than the slots
ahead-count : (from to : ℕ) → from ≤ to → to ≤ from + 64 → (to % 65 + 65 - from % 65) % 65 ≡ to - from
ahead-count from to low high = omega arith

same-count : (from to : ℕ) → from ≤ to → to ≤ from + 64 → from % 65 ≡ to % 65 → from ≡ to
same-count from to low high same = omega arith

-- the phase tag of a pass, which is inverted where the next slot is the first
other-pass : (pass : ℕ) → not (pass % 2 == 0) ≡ ((pass + 1) % 2 == 0)
other-pass pass = grind (arith, nat_tests)

phase-next : (count : ℕ)
    → cond ((count % 65 + 1) % 65 == 0) (not (count / 65 % 2 == 0)) (count / 65 % 2 == 0) ≡ ((count + 1) / 65 % 2 == 0)
phase-next count =
    (elim ((count % 65 + 1) % 65 == 0) as (λ b. ((count % 65 + 1) % 65 == 0) ≡ b
    → cond b (not (count / 65 % 2 == 0)) (count / 65 % 2 == 0) ≡ ((count + 1) / 65 % 2 == 0)) [
      | true ↦ λ is.
          let first : (count % 65 + 1) % 65 ≡ 0 = eqb-true ((count % 65 + 1) % 65) 0 is in
          let pass : count / 65 + 1 ≡ (count + 1) / 65 = omega arith in
          other-pass (count / 65) ∙ ap (λ (n : ℕ). n % 2 == 0) pass
      | false ↦ λ is.
          let other : (count % 65 + 1) % 65 ≡ 0 → ⊥ = λ e. let t = eq-eqb ((count % 65 + 1) % 65) 0 e in cc in
          let pass : count / 65 ≡ (count + 1) / 65 = omega arith in
          ap (λ (n : ℕ). n % 2 == 0) pass
    ]) refl

-- ---- along the events

abbrev one_if_some : Option Held → ℕ
one_if_some o = cond (is_some o) 1 0

-- positions are those of the counts, each command in the device was taken and has no completion yet, and no more
-- entries are rung than completions read, but for one a tag
record IsCounted (r : LaneRun) : Type 0 where
  slots : length r.device.held ≡ 64
  tail : r.device.tail ≡ r.rung % 65
  head : r.device.head ≡ r.taken % 65
  slot : r.device.posted ≡ r.posted % 65
  reader : r.reader ≡ r.read % 65
  taken_were_rung : r.taken ≤ r.rung
  read_were_posted : r.read ≤ r.posted
  held : held_count r.device + r.posted ≡ r.taken
  few : r.rung ≤ r.read + 64
  phase : r.device.phase ≡ (r.posted / 65 % 2 == 0)

opening-counted : IsCounted opening_run
opening-counted = record {
  slots = refl;
  tail = refl;
  head = refl;
  slot = refl;
  reader = refl;
  taken_were_rung = omega arith;
  read_were_posted = omega arith;
  held = refl;
  few = omega arith;
  phase = refl;
}

-- a tail that is rung
rings-counted : (tail : ℕ) (r : LaneRun) → tail < 65 → in_flight r + newly_rung tail r.device ≤ 64 → IsCounted r
    → IsCounted (lane_behind (Rings tail) r)
rings-counted tail r below few s =
    let before : r.device.tail ≡ r.rung % 65 = s.tail in
    let new : newly_rung tail r.device ≡ (tail + 65 - r.rung % 65) % 65 = ap (λ (at : ℕ). (tail + 65 - at) % 65) before in
    record {
      slots = s.slots;
      tail = rung-slot r.rung tail below ∙ ap (λ (n : ℕ). (r.rung + n) % 65) (sym new);
      head = s.head;
      slot = s.slot;
      reader = s.reader;
      taken_were_rung = (let was = s.taken_were_rung in omega arith);
      read_were_posted = s.read_were_posted;
      held = s.held;
      few = (let was = s.few in omega arith);
      phase = s.phase;
    }

-- how many commands are in the device once one is there, still is, or is there no longer
count-put : (held : List (Option Held)) (slot : ℕ) (h : Option Held) → slot < length held
    → count_by is_some (set held slot h) + one_if_some (get_or held slot None) ≡ count_by is_some held + one_if_some h
count-put held slot h below = sum_by-set one_if_some held slot h None below

count-more : (held : List (Option Held)) (slot : ℕ) (h : Held) → slot < length held → get_or held slot None ≡ None
    → count_by is_some (set held slot (Some h)) ≡ count_by is_some held + 1
count-more held slot h below none =
    let free : one_if_some (get_or held slot None) ≡ 0 = ap one_if_some none in
    let put = count-put held slot (Some h) below in
    omega arith

count-same : (held : List (Option Held)) (slot : ℕ) (h now : Held) → slot < length held → get_or held slot None ≡ Some h
    → count_by is_some (set held slot (Some now)) ≡ count_by is_some held
count-same held slot h now below there =
    let one : one_if_some (get_or held slot None) ≡ 1 = ap one_if_some there in
    let put = count-put held slot (Some now) below in
    omega arith

count-less : (held : List (Option Held)) (slot : ℕ) (h : Held) → slot < length held → get_or held slot None ≡ Some h
    → count_by is_some (set held slot None) + 1 ≡ count_by is_some held
count-less held slot h below there =
    let one : one_if_some (get_or held slot None) ≡ 1 = ap one_if_some there in
    let put = count-put held slot None below in
    omega arith

takes-counted : (entry : List ℕ) (host : ℕ → ℕ) (r : LaneRun) → IsWithinTags (Takes entry host) r → IsCounted r
    → IsCounted (lane_behind (Takes entry host) r)
takes-counted entry host r within s =
    (elim (is_empty r.device.head r.device.tail) as (λ b. is_empty r.device.head r.device.tail ≡ b → IsCounted (cond b r behind)) [
      | true ↦ λ is. s
      | false ↦ λ is.
          let may = within is in
          let below = may.0 in
          let apart : r.device.head ≡ r.device.tail → ⊥ = λ same. let t = eq-eqb r.device.head r.device.tail same in cc in
          let counts : r.taken ≡ r.rung → ⊥ = λ same. apart (s.head ∙ ap (λ (n : ℕ). n % 65) same ∙ sym s.tail) in
          let before = s.taken_were_rung in
          let sized = s.slots in
          let more : held_count behind.device ≡ held_count r.device + 1 =
          count-more r.device.held (cid_of entry) (held_of entry host) (omega arith) may.1 in
          let held = s.held in
          record {
            slots = length-set r.device.held (cid_of entry) (Some (held_of entry host)) ∙ s.slots;
            tail = s.tail;
            head = ap (λ (at : ℕ). (at + 1) % 65) s.head ∙ next-count r.taken;
            slot = s.slot;
            reader = s.reader;
            taken_were_rung = omega arith;
            read_were_posted = s.read_were_posted;
            held = omega arith;
            few = s.few;
            phase = s.phase;
          }
    ]) refl
  where
    behind : LaneRun
    behind = record r { device = entry_taken entry host r.device; taken = r.taken + 1 }

-- a command that is there has a slot
there-below : (held : List (Option Held)) (slot : ℕ) (h : Held) → slice_index_or held slot None ≡ Some h
    → slot < length held
there-below held slot h there =
    elim (cases_lt slot (length held)) [
      | inl below ↦ below
      | inr past ↦ let none : slice_index_or held slot None ≡ None = get_or_past held slot None past in absurd (cc)
    ]

moves-counted : (slot number : ℕ) (differed : Bool) (r : LaneRun) → IsCounted r
    → IsCounted (lane_behind (Moves slot number differed) r)
moves-counted slot number differed r s =
    (elim (slice_index_or r.device.held slot None) as (λ o. slice_index_or r.device.held slot None ≡ o
    → IsCounted (unit_moved_of o slot number differed r)) [
      | None ↦ λ is. s
      | Some h ↦ λ is.
          let now : Option Held = Some (unit_gone number differed h) in
          let as_many = count-same r.device.held slot h (unit_gone number differed h) (there-below r.device.held slot h is) is in
          record {
            slots = length-set r.device.held slot now ∙ s.slots;
            tail = s.tail;
            head = s.head;
            slot = s.slot;
            reader = s.reader;
            taken_were_rung = s.taken_were_rung;
            read_were_posted = s.read_were_posted;
            held = ap (λ (n : ℕ). n + r.posted) as_many ∙ s.held;
            few = s.few;
            phase = s.phase;
          }
    ]) refl

posts-counted : (slot : ℕ) (r : LaneRun) → IsCounted r → IsCounted (lane_behind (Posts slot) r)
posts-counted slot r s =
    (elim (slice_index_or r.device.held slot None) as (λ o. slice_index_or r.device.held slot None ≡ o → IsCounted (posted_of o slot r)) [
      | None ↦ λ is. s
      | Some h ↦ λ is.
          let less : held_count (completion_posted slot r.device) + 1 ≡ held_count r.device =
          count-less r.device.held slot h (there-below r.device.held slot h is) is in
          let held = s.held in
          let before = s.read_were_posted in
          record {
            slots = length-set r.device.held slot None ∙ s.slots;
            tail = s.tail;
            head = s.head;
            slot = ap (λ (at : ℕ). (at + 1) % 65) s.slot ∙ next-count r.posted;
            reader = s.reader;
            taken_were_rung = s.taken_were_rung;
            read_were_posted = omega arith;
            held = omega arith;
            few = s.few;
            phase = ap (λ (at : ℕ). next_phase at r.device.phase) s.slot ∙ ap (next_phase (r.posted % 65)) s.phase ∙ phase-next r.posted;
          }
    ]) refl

-- a completion that is read was posted
reads-counted : (r : LaneRun) → IsCounted r → IsCounted (lane_behind Reads r)
reads-counted r s =
    (elim (is_empty r.reader r.device.posted) as (λ b. is_empty r.reader r.device.posted ≡ b → IsCounted (cond b r behind)) [
      | true ↦ λ is. s
      | false ↦ λ is.
          let apart : r.reader ≡ r.device.posted → ⊥ = λ same. let t = eq-eqb r.reader r.device.posted same in cc in
          let counts : r.read ≡ r.posted → ⊥ = λ same. apart (s.reader ∙ ap (λ (n : ℕ). n % 65) same ∙ sym s.slot) in
          let before = s.read_were_posted in
          let few = s.few in
          record {
            slots = s.slots;
            tail = s.tail;
            head = s.head;
            slot = s.slot;
            reader = ap (λ (at : ℕ). (at + 1) % 65) s.reader ∙ next-count r.read;
            taken_were_rung = s.taken_were_rung;
            read_were_posted = omega arith;
            held = s.held;
            few = omega arith;
            phase = s.phase;
          }
    ]) refl
  where
    behind : LaneRun
    behind = record r { reader = next_slot ring_size r.reader; read = r.read + 1 }

event-counted : (e : LaneEvent) (r : LaneRun) → IsWithinTags e r → IsCounted r → IsCounted (lane_behind e r)
event-counted (Rings tail) r within s = rings-counted tail r within.0 within.1 s
event-counted (Takes entry host) r within s = takes-counted entry host r within s
event-counted (Moves slot number differed) r within s = moves-counted slot number differed r s
event-counted (Posts slot) r within s = posts-counted slot r s
event-counted Reads r within s = reads-counted r s

run-counted : (events : List LaneEvent) (r : LaneRun) → AreWithinTags events r → IsCounted r
    → IsCounted (run_behind events r)
unfolding run_behind
run-counted [] r within s = s
run-counted (e ∷ events) r within s = run-counted events (lane_behind e r) within.1 (event-counted e r within.0 s)

-- so neither ring is overrun
counted-fits : (r : LaneRun) → IsCounted r → IsNotOverrun r
counted-fits r s =
    let rung = s.taken_were_rung in
    let posted = s.read_were_posted in
    let held = s.held in
    let few = s.few in
    record {
      taken_were_rung = rung;
      read_were_posted = posted;
      submissions_fit = omega arith;
      completions_fit = omega arith;
      submissions_stand = ap (λ (at : ℕ). ahead 65 at r.device.tail) s.head
          ∙ ap (λ (at : ℕ). ahead 65 (r.taken % 65) at) s.tail
          ∙ ahead-count r.taken r.rung rung (omega arith);
      completions_stand = ap (λ (at : ℕ). ahead 65 at r.device.posted) s.reader
          ∙ ap (λ (at : ℕ). ahead 65 (r.read % 65) at) s.slot
          ∙ ahead-count r.read r.posted posted (omega arith);
      tags = omega arith;
      few_tags = omega arith;
      slot = s.slot;
      phase = s.phase;
    }

pub never-overrun : (events : List LaneEvent) → AreWithinTags events opening_run
    → IsNotOverrun (run_behind events opening_run)
never-overrun events within = counted-fits (run_behind events opening_run) (run-counted events opening_run within opening-counted)
