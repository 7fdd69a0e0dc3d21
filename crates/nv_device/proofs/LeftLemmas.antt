-- What a call of a device leaves
use Rattle.std.proofs.Common.{◌≡◌, ◌≢◌, ℕ, ◌+◌, ◌<◌, ◌≤◌, ◌==◌, ◌⊎◌, true, false, cond, List, slice_get, refl, ap, ◌∙◌, arith, inl, inr, eqb-true}
use Rattle.std.proofs.lemmas.Bool.{cases_lt}
use Rattle.nv_entry.specs.Opcode.{io_opcode}
use Rattle.nv_entry.specs.Status.{StatusField}
use Rattle.nv_entry.specs.Submission.{opcode_of}
use Rattle.nv_model.specs.Laws.{AgreeAt, AgreeOn}
use Rattle.nv_model.specs.Memory.{byte_in}
use Rattle.nv_model.specs.Private.{Moved}
use Rattle.nv_disk.specs.Flat.{byte_of_block, moved_of}
use Rattle.nv_disk.specs.Marks.{mark_of}
use Rattle.nv_world_model.specs.Area.{completion_slot, ring_size, submission_slot}
use Rattle.nv_world_model.specs.Device.{DeviceLane, Held, entry_taken}
use Rattle.nv_world_model.specs.LaneRuns.{IsInLane, IsNotAmong, list_named, unit_places}
use Rattle.nv_world_model.proofs.LaneReach.{completion-elsewhere, front-agree, taken-agree, unit-elsewhere}
use Rattle.nv_world_model.proofs.Seats.{slice_get-set-other}
use Rattle.nv_device.specs.Moving.{IsMoved}
use Rattle.nv_device.specs.Physical.{lane_of, with_lane}
use Rattle.nv_device.specs.State.{Physical}
use Rattle.nv_device.specs.Posting.{IsPosted}
use Rattle.nv_device.specs.Taking.{front_of, taken, waits}

-- two numbers that are not equal
apart-test : (other lane : ℕ) → other ≢ lane → (other == lane) ≡ false
apart-test other lane apart =
    (elim (other == lane) as (λ b. (other == lane) ≡ b → b ≡ false) [
      | true ↦ λ is. absurd (apart (eqb-true other lane is))
      | false ↦ λ _. refl
    ]) refl

-- a lane that changes leaves the others
pub lane-others : (lane other : ℕ) (d : DeviceLane) (p : Physical) → other ≢ lane
    → slice_get (with_lane lane d p).lanes other ≡ slice_get p.lanes other
lane-others lane other d p apart = slice_get-set-other p.lanes lane other d (apart-test other lane apart)

pub taken-others : (lane other : ℕ) (host : List ℕ) (p : Physical) → other ≢ lane
    → slice_get (taken lane host p).lanes other ≡ slice_get p.lanes other
taken-others lane other host p apart =
    elim (waits lane p) as (λ b. slice_get
    (cond b (with_lane lane (entry_taken (front_of lane host p) (byte_in host) (lane_of p lane)) p) p).lanes other
    ≡ slice_get p.lanes other) [
      | true ↦ lane-others lane other (entry_taken (front_of lane host p) (byte_in host) (lane_of p lane)) p apart
      | false ↦ refl
    ]

-- a completion is written in its lane
pub posted-elsewhere : (lane slot at : ℕ) (st : StatusField) (old_host new_host : List ℕ) (old new : Physical)
    → IsPosted lane slot st old_host old new_host new
    → (at < completion_slot old.mediator lane (lane_of old lane).posted)
    ⊎ (completion_slot old.mediator lane (lane_of old lane).posted + 16 ≤ at)
    → byte_in new_host at ≡ byte_in old_host at
posted-elsewhere lane slot at st old_host new_host old new posted outside =
    ap (λ (f : ℕ → ℕ). f at) posted.host
    ∙ completion-elsewhere old.mediator lane slot at st (lane_of old lane) (byte_in old_host) outside

pub posted-others : (lane slot other at : ℕ) (st : StatusField) (old_host new_host : List ℕ) (old new : Physical)
    → IsPosted lane slot st old_host old new_host new → (lane_of old lane).posted < ring_size
    → IsInLane old.mediator other at → other ≢ lane
    → byte_in new_host at ≡ byte_in old_host at
posted-others lane slot other at st old_host new_host old new posted below there apart =
    let from = there.from in
    let to = there.to in
    posted-elsewhere lane slot at st old_host new_host old new posted
    (elim (cases_lt other lane) [ inl before ↦ inl (omega arith) | inr behind ↦ inr (omega arith) ])

-- a unit writes where its command names
pub moved-elsewhere : (lane slot number at : ℕ) (h : Held) (old_host new_host : List ℕ) (old new : Physical)
    → IsMoved lane slot number h old_host old new_host new
    → IsNotAmong at (unit_places (io_opcode (opcode_of h.entry)) number h.pieces)
    → byte_in new_host at ≡ byte_in old_host at
unfolding moved_of
moved-elsewhere lane slot number at h old_host new_host old new moved none =
    ap (λ (m : Moved). m.memory at) moved.moved
    ∙ unit-elsewhere number _ at h (byte_in old_host) (byte_of_block old.disk) (mark_of old.kept) none

-- what a take reads
pub taken-reads : (lane : ℕ) (host other : List ℕ) (p : Physical)
    → AgreeAt (byte_in host) (byte_in other) (submission_slot p.mediator lane (lane_of p lane).head, 64)
    → AgreeOn (byte_in host) (byte_in other) (list_named (io_opcode (opcode_of (front_of lane host p))) (front_of lane host p) (byte_in host))
    → taken lane other p ≡ taken lane host p
taken-reads lane host other p slot list =
    ap (λ (d : DeviceLane). cond (waits lane p) (with_lane lane d p) p)
    (ap (λ (entry : List ℕ). entry_taken entry (byte_in other) (lane_of p lane))
    (front-agree p.mediator lane (lane_of p lane) (byte_in host) (byte_in other) slot)
    ∙ taken-agree (front_of lane host p) (lane_of p lane) (byte_in host) (byte_in other) list)
