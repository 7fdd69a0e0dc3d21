-- Positions of a completion ring that go on, and the phase tags of their passes.
use Rattle.std.proofs.Common.{◌≡◌, ℕ, ◌^◌, ◌<◌, ◌≤◌, ◌⊎◌, inl, inr, Bool, true, false, not, ◌==◌, nat_le, arith, refl, sym, ap, ◌∙◌, eq-eqb}
use Rattle.std.specs.Prelude.{◌≢◌}
use Rattle.std.proofs.lemmas.Bool.{cases_eq, cases_lt, ne_eqb}
use Rattle.std.proofs.lemmas.Bool.Decides.{nat_tests}
use Rattle.nv_entry.specs.Completion.{completion, phase_of}
use Rattle.nv_entry.specs.Layout.{bits, bytes_of_dwords, dword, number_at}
use Rattle.nv_entry.specs.Status.{StatusField, bit}
use Rattle.nv_model.specs.Queue.{is_empty, next_slot}
use Rattle.nv_world_model.specs.Area.{ring_size}
use Rattle.nv_world_model.specs.Device.{next_phase}
use Rattle.nv_world_model.specs.Geometry.{Geometry}
use Rattle.nv_laws_sound.proofs.Rings.{far}
use Rattle.nv_laws_sound.specs.Phased.{IsPhased, phase_at, wanted_at}

-- the phase tag of a completion is read back, whatever its status
pub completion-phase : (dw0 sqhd sqid cid : ℕ) (phase : Bool) (st : StatusField) → cid < 2 ^ 16
    → phase_of (completion dw0 sqhd sqid cid phase st) ≡ bit phase
unfolding completion bits dword number_at bytes_of_dwords
completion-phase dw0 sqhd sqid cid true st below = omega arith
completion-phase dw0 sqhd sqid cid false st below = omega arith

-- ---- tests

le-true : (a b : ℕ) → a ≤ b → nat_le a b ≡ true
le-true a b h = grind (arith, nat_tests, h)

le-false : (a b : ℕ) → b < a → nat_le a b ≡ false
le-false a b h = grind (arith, nat_tests, h)

pub not-not : (b : Bool) → not (not b) ≡ b
not-not true = refl
not-not false = refl

-- what is wanted in the pass of the writer, and in the one before
pub wanted-same : (head posted : ℕ) (phase : Bool) → head ≤ posted → wanted_at head posted phase ≡ phase
wanted-same head posted phase h = rw (le-true head posted h) refl

pub wanted-before : (head posted : ℕ) (phase : Bool) → posted < head → wanted_at head posted phase ≡ not phase
wanted-before head posted phase h = rw (le-false head posted h) refl

-- the phase tag of the next pass, behind the last slot and before it
pub next-last : (at : ℕ) (phase : Bool) → at ≡ 64 → next_phase at phase ≡ not phase
next-last at phase e = rw (eq-eqb (next_slot ring_size at) 0 (omega (arith, e))) refl

pub next-within : (at : ℕ) (phase : Bool) → at < 64 → next_phase at phase ≡ phase
next-within at phase h = rw (ne_eqb (next_slot ring_size at) 0 (λ same. absurd (omega (arith, h, same)))) refl

-- ---- the writer goes on

pub wanted-posted : (head posted : ℕ) (phase : Bool) → head < ring_size → posted < ring_size → far head posted < 64
    → wanted_at head posted phase ≡ wanted_at head (next_slot ring_size posted) (next_phase posted phase)
wanted-posted head posted phase low high room = by (cases_lt posted 64) (cases_lt posted head)
  where
    by : (posted < 64) ⊎ (64 ≤ posted) → (posted < head) ⊎ (head ≤ posted)
        → wanted_at head posted phase ≡ wanted_at head (next_slot ring_size posted) (next_phase posted phase)
    by (inl within) (inr least) =
        wanted-same head posted phase least
        ∙ sym (wanted-same head (next_slot ring_size posted) (next_phase posted phase) (omega (arith, within, least)) ∙ next-within posted phase within)
    by (inl within) (inl most) =
        wanted-before head posted phase most
        ∙ sym (wanted-before head (next_slot ring_size posted) (next_phase posted phase) (omega (arith, within, most, low, room)) ∙ ap not (next-within posted phase within))
    by (inr last) (inr least) =
        wanted-same head posted phase least
        ∙ sym (wanted-before head (next_slot ring_size posted) (next_phase posted phase) (omega (arith, last, high, low, room)) ∙ ap not (next-last posted phase (omega (arith, last, high)))
        ∙ not-not phase)
    by (inr last) (inl most) = absurd (omega (arith, last, most, low))

-- ---- the reader goes on

pub wanted-read : (head posted : ℕ) (phase : Bool) → head < ring_size → posted < ring_size → (head ≡ posted → ⊥)
    → next_phase head (wanted_at head posted phase) ≡ wanted_at (next_slot ring_size head) posted phase
wanted-read head posted phase low high apart = by (cases_lt head 64) (cases_lt posted head) (cases_eq head posted)
  where
    by : (head < 64) ⊎ (64 ≤ head) → (posted < head) ⊎ (head ≤ posted) → (head ≡ posted) ⊎ (head ≢ posted)
        → next_phase head (wanted_at head posted phase) ≡ wanted_at (next_slot ring_size head) posted phase
    by w h (inl same) = absurd (apart same)
    by (inl within) (inr least) (inr differ) =
        next-within head (wanted_at head posted phase) within ∙ wanted-same head posted phase least
        ∙ sym (wanted-same (next_slot ring_size head) posted phase (omega (arith, within, least, differ)))
    by (inl within) (inl most) (inr differ) =
        next-within head (wanted_at head posted phase) within ∙ wanted-before head posted phase most
        ∙ sym (wanted-before (next_slot ring_size head) posted phase (omega (arith, within, most)))
    by (inr last) (inl most) (inr differ) =
        next-last head (wanted_at head posted phase) (omega (arith, last, low)) ∙ ap not (wanted-before head posted phase most) ∙ not-not phase
        ∙ sym (wanted-same (next_slot ring_size head) posted phase (omega (arith, last, low)))
    by (inr last) (inr least) (inr differ) = absurd (omega (arith, last, least, differ, low, high))

-- ---- what the slot that is read next tells

bit-same : (b : Bool) → (bit b == bit b) ≡ true
bit-same true = refl
bit-same false = refl

bit-other : (b : Bool) → (bit (not b) == bit b) ≡ false
bit-other true = refl
bit-other false = refl

pub slot-tells : (geometry : Geometry) (host : ℕ → ℕ) (lane head : ℕ) (wanted : Bool) (posted : ℕ) (phase : Bool) → head < ring_size
    → IsPhased geometry host lane head wanted posted phase → not (is_empty head posted) ≡ (phase_at geometry host lane head == bit wanted)
slot-tells geometry host lane head wanted posted phase low is = by (cases_eq head posted) (cases_lt posted head)
  where
    told : (tag : Bool) (want : Bool) → phase_at geometry host lane head ≡ bit tag → wanted ≡ want → (phase_at geometry host lane head == bit wanted) ≡ (bit tag == bit want)
    told tag want there wants = rw (there, wants) refl

    by : (head ≡ posted) ⊎ (head ≢ posted) → (posted < head) ⊎ (head ≤ posted) → not (is_empty head posted) ≡ (phase_at geometry host lane head == bit wanted)
    by (inl same) h =
        ap not (eq-eqb head posted same)
        ∙ sym (told (not phase) phase (is.earlier head (omega (arith, same)) low) (is.wants ∙ wanted-same head posted phase (omega (arith, same))) ∙ bit-other phase)
    by (inr differ) (inr least) =
        ap not (ne_eqb head posted differ)
        ∙ sym (told phase phase (is.written head (omega (arith, least, differ))) (is.wants ∙ wanted-same head posted phase least) ∙ bit-same phase)
    by (inr differ) (inl most) =
        ap not (ne_eqb head posted differ)
        ∙ sym (told (not phase) (not phase) (is.earlier head (omega (arith, most)) low) (is.wants ∙ wanted-before head posted phase most) ∙ bit-same (not phase))
