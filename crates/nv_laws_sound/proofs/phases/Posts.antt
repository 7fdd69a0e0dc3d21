-- The physical controller posts a completion: the slot gets the phase tag of this pass, and the writer goes on.
use Rattle.std.proofs.Common.{◌≡◌, ℕ, ◌+◌, ◌^◌, ◌<◌, ◌≤◌, ◌⊎◌, inl, inr, Bool, not, List, length, arith, sym, ap, ◌∙◌, subst}
use Rattle.std.specs.Prelude.{◌≢◌}
use Rattle.std.proofs.lemmas.Bool.{cases_eq, cases_lt}
use Rattle.nv_entry.specs.Completion.{completion, phase_of}
use Rattle.nv_entry.specs.Status.{StatusField, bit}
use Rattle.nv_entry.proofs.CompletionLemmas.{length-completion}
use Rattle.nv_model.specs.Memory.{bytes_from, stored}
use Rattle.nv_model.specs.Queue.{cqe_size, next_slot}
use Rattle.nv_model.proofs.MemoryLemmas.{bytes_from-stored}
use Rattle.nv_world_model.specs.Area.{completion_slot, queue_pair, ring_size}
use Rattle.nv_world_model.specs.Device.{DeviceLane, next_phase}
use Rattle.nv_world_model.specs.Geometry.{Geometry}
use Rattle.nv_laws_sound.proofs.AnswerEvents.{written-same}
use Rattle.nv_laws_sound.proofs.Rings.{far}
use Rattle.nv_laws_sound.specs.Phased.{IsPhased, phase_at}
use Rattle.nv_laws_sound.proofs.phases.Kept.{phase-same}
use Rattle.nv_laws_sound.proofs.phases.Rounds.{completion-phase, next-last, next-within, not-not, wanted-posted}

module _ (geometry : Geometry) (lanes lane : ℕ) (host : ℕ → ℕ) (d : DeviceLane) (slot : ℕ) (st : StatusField) (below : lane < lanes)
    (posted_below : d.posted < ring_size) (small : slot < 2 ^ 16) where
  -- the completion, and the host's memory with it
  abbrev bytes : List ℕ
  bytes = completion 0 d.head (queue_pair lane) slot d.phase st

  abbrev pub memory_posted : ℕ → ℕ
  memory_posted = stored host (completion_slot geometry.mediator lane d.posted) bytes

  sized : length bytes ≡ cqe_size
  sized = length-completion 0 d.head (queue_pair lane) slot d.phase st

  -- the slot that is written has the phase tag of this pass
  here : phase_at geometry memory_posted lane d.posted ≡ bit d.phase
  here =
      ap phase_of (subst (λ n. bytes_from memory_posted (completion_slot geometry.mediator lane d.posted) n ≡ bytes) sized
      (bytes_from-stored host (completion_slot geometry.mediator lane d.posted) bytes))
      ∙ completion-phase 0 d.head (queue_pair lane) slot d.phase st small

  -- every other keeps its own
  elsewhere : (at : ℕ) → (at < d.posted) ⊎ (d.posted < at) → phase_at geometry host lane at ≡ phase_at geometry memory_posted lane at
  elsewhere at choice =
      phase-same geometry host memory_posted lane at (completion_slot geometry.mediator lane at) (completion_slot geometry.mediator lane (at + 1))
      (written-same geometry lanes lane host d bytes sized below posted_below (completion_slot geometry.mediator lane at) (completion_slot geometry.mediator lane (at + 1)) (away choice))
      (omega arith) (omega arith)
    where
      away : (at < d.posted) ⊎ (d.posted < at)
          → (completion_slot geometry.mediator lane (at + 1) ≤ completion_slot geometry.mediator lane d.posted)
          ⊎ (completion_slot geometry.mediator lane (d.posted + 1) ≤ completion_slot geometry.mediator lane at)
      away (inl less) = inl (omega (arith, less))
      away (inr more) = inr (omega (arith, more))

  pub slot-posted : (head : ℕ) (wanted : Bool) → head < ring_size → far head d.posted < 64 → IsPhased geometry host lane head wanted d.posted d.phase
      → IsPhased geometry memory_posted lane head wanted (next_slot ring_size d.posted) (next_phase d.posted d.phase)
  slot-posted head wanted low room is =
      record {
        wants = is.wants ∙ wanted-posted head d.posted d.phase low posted_below room;
        written = (λ at less. written at less (cases_lt d.posted 64) (cases_eq at d.posted));
        earlier = (λ at most last. earlier at most last (cases_lt d.posted 64) (cases_eq at d.posted));
      }
    where
      written : (at : ℕ) → at < next_slot ring_size d.posted → (d.posted < 64) ⊎ (64 ≤ d.posted) → (at ≡ d.posted) ⊎ (at ≢ d.posted)
          → phase_at geometry memory_posted lane at ≡ bit (next_phase d.posted d.phase)
      written at less (inl within) (inl same) =
          subst (λ n. phase_at geometry memory_posted lane n ≡ bit (next_phase d.posted d.phase)) (sym same)
          (here ∙ ap bit (sym (next-within d.posted d.phase within)))
      written at less (inl within) (inr differ) =
          let before : at < d.posted = omega (arith, less, within, differ) in
          sym (elsewhere at (inl before)) ∙ is.written at before ∙ ap bit (sym (next-within d.posted d.phase within))
      written at less (inr last) any = absurd (omega (arith, less, last, posted_below))

      earlier : (at : ℕ) → next_slot ring_size d.posted ≤ at → at < ring_size → (d.posted < 64) ⊎ (64 ≤ d.posted) → (at ≡ d.posted) ⊎ (at ≢ d.posted)
          → phase_at geometry memory_posted lane at ≡ bit (not (next_phase d.posted d.phase))
      earlier at most last (inl within) any =
          let behind : d.posted < at = omega (arith, most, within) in
          sym (elsewhere at (inr behind)) ∙ is.earlier at (omega (arith, behind)) last ∙ ap (λ p. bit (not p)) (sym (next-within d.posted d.phase within))
      earlier at most last (inr full) (inl same) =
          subst (λ n. phase_at geometry memory_posted lane n ≡ bit (not (next_phase d.posted d.phase))) (sym same)
          (here ∙ ap bit (sym (ap not (next-last d.posted d.phase (omega (arith, full, posted_below))) ∙ not-not d.phase)))
      earlier at most last (inr full) (inr differ) =
          let before : at < d.posted = omega (arith, last, full, differ) in
          sym (elsewhere at (inl before)) ∙ is.written at before
          ∙ ap bit (sym (ap not (next-last d.posted d.phase (omega (arith, full, posted_below))) ∙ not-not d.phase))
