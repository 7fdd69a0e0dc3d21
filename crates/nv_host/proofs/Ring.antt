-- What is written into a lane's completion ring, and what is read there next.
use Rattle.std.proofs.Common.{◌≡◌, ℕ, ◌+◌, ◌^◌, ◌<◌, ◌≤◌, ◌⊎◌, inl, inr, Bool, true, false, List, length, get_or, slice_get, Option, Some, None, arith, refl, sym, ap, ◌∙◌, subst}
use Rattle.std.specs.Option.{option_map, unwrap_or}
use Rattle.std.specs.Prelude.{◌↔◌, IsTrue, MatchOption}
use Rattle.nv_core.proofs.ReapAnswers.{waits-told}
use Rattle.nv_core.proofs.StoredRows.{byte_in-stored}
use Rattle.nv_core.specs.Reaping.{next_completion, waits_in}
use Rattle.nv_entry.specs.Completion.{phase_of}
use Rattle.nv_host.proofs.Accepted.{lies-out}
use Rattle.nv_host.specs.Closing.{IsRingAlone}
use Rattle.nv_host.specs.Served.{IsServed, Served}
use Rattle.nv_mem.proofs.Memory.{get_or-after_store_other, length-after_store}
use Rattle.nv_mem.specs.Bytes.{after_store}
use Rattle.nv_model.proofs.MemoryLemmas.{bytes_from-stored}
use Rattle.nv_model.specs.Memory.{byte_in, bytes_from, stored}
use Rattle.nv_model.specs.Queue.{cqe_size}
use Rattle.nv_world_model.specs.Area.{completion_slot, lane_start, ring_size}
use Rattle.nv_world_model.specs.Geometry.{Geometry}
use Rattle.nv_world_model.specs.World.{Lane}
use mathlib.Core.Bool.{beq}

-- ---- bytes

module _ (geometry : Geometry) (lane : ℕ) where
  pub ring-same : (memory : List ℕ) → IsRingAlone geometry lane memory memory
  ring-same memory = record { size = refl; bytes = (λ at outside. refl) }

  pub ring-twice : (before mid after : List ℕ) → IsRingAlone geometry lane before mid → IsRingAlone geometry lane mid after
      → IsRingAlone geometry lane before after
  ring-twice before mid after first second =
      record { size = second.size ∙ first.size; bytes = (λ at outside. second.bytes at outside ∙ first.bytes at outside) }

  module _ (memory bytes after : List ℕ) (addr : ℕ) (sized : length bytes ≡ cqe_size) (inside : addr + cqe_size ≤ length memory)
      (is : after ≡ after_store memory addr bytes) where
    fits : addr + length bytes ≤ length memory
    fits = omega (arith, sized, inside)

    pub store-alone : completion_slot geometry.mediator lane 0 ≤ addr → addr + cqe_size ≤ completion_slot geometry.mediator lane ring_size
        → IsRingAlone geometry lane memory after
    unfolding byte_in
    store-alone low high =
        record {
          size = ap (λ (xs : List ℕ). length xs) is ∙ length-after_store memory bytes addr (λ some. fits);
          bytes = (λ at outside.
              ap (λ (xs : List ℕ). get_or xs at 0) is
              ∙ get_or-after_store_other memory bytes addr at 0 (λ some. fits) (apart at outside));
        }
      where
        apart : (at : ℕ) → (at < completion_slot geometry.mediator lane 0) ⊎ (completion_slot geometry.mediator lane ring_size ≤ at)
            → (at < addr) ⊎ (addr + length bytes ≤ at)
        apart at (inl below) = inl (omega (arith, below, low))
        apart at (inr above) = inr (omega (arith, above, high, sized))

    pub put-stored : (l : Lane) → addr ≡ completion_slot geometry.mediator lane l.head
        → byte_in after ≡ stored (byte_in memory) (completion_slot geometry.mediator lane l.head) bytes
    put-stored l at =
        ap byte_in is ∙ byte_in-stored memory addr bytes fits ∙ ap (λ (a : ℕ). stored (byte_in memory) a bytes) at

    pub next-stored : (l : Lane) → addr ≡ completion_slot geometry.mediator lane l.head → next_completion geometry lane l after ≡ bytes
    next-stored l at =
        ap (λ (xs : List ℕ). bytes_from (byte_in xs) (completion_slot geometry.mediator lane l.head) cqe_size) is
        ∙ ap (λ (a : ℕ). bytes_from (byte_in (after_store memory addr bytes)) a cqe_size) (sym at)
        ∙ ap (λ (f : ℕ → ℕ). bytes_from f addr cqe_size) (byte_in-stored memory addr bytes fits)
        ∙ subst (λ n. bytes_from (stored (byte_in memory) addr bytes) addr n ≡ bytes) sized (bytes_from-stored (byte_in memory) addr bytes)

-- ---- the phase tag

again : (p q : Bool) → beq (beq p q) p ≡ q
again true true = refl
again true false = refl
again false true = refl
again false false = refl

module _ (geometry : Geometry) (lane : ℕ) (lanes : List Lane) (l : Lane) (memory completion : List ℕ) (there : slice_get lanes lane ≡ Some l)
    (read : completion ≡ next_completion geometry lane l memory) (p waits : Bool) (iff : IsTrue p ↔ (phase_of completion ≡ 1))
    (told : waits ≡ waits_in geometry lane (slice_get lanes lane) memory) where
  -- what waits has the phase tag that is wanted
  pub waits-same : waits ≡ beq p l.phase
  waits-same = told ∙ sym (waits-told geometry lane lanes l memory completion there read p l.phase iff refl)

  pub wanted-is : beq waits p ≡ l.phase
  wanted-is = ap (λ b. beq b p) waits-same ∙ again p l.phase

-- ---- where it is

module _ (h o : Served) (view : h ≡ o) (is : IsServed h) (lane : ℕ) where
  pub head-small : unwrap_or (option_map (λ (l : Lane). l.head) (slice_get o.side.lanes lane)) 0 < ring_size
  head-small =
      subst (λ (x : Served). unwrap_or (option_map (λ (l : Lane). l.head) (slice_get x.side.lanes lane)) 0 < ring_size) view
      (by (slice_get h.side.lanes lane) refl)
    where
      by : (found : Option Lane) → slice_get h.side.lanes lane ≡ found → unwrap_or (option_map (λ (l : Lane). l.head) found) 0 < ring_size
      by None none = omega arith
      by (Some l) found = (is.kept.lanes lane l found).head

  pub lane-inside : lane < o.setup.lanes → lane_start o.setup.geometry.mediator (lane + 1) ≤ o.setup.host_bytes
  lane-inside =
      subst (λ (x : Served). lane < x.setup.lanes → lane_start x.setup.geometry.mediator (lane + 1) ≤ x.setup.host_bytes) view
      (λ below. (let area = (lies-out h.setup is.accepted is.sound).area in omega (arith, area, below)))

  pub few-bytes : o.setup.host_bytes ≤ 2 ^ 64
  few-bytes = subst (λ (x : Served). x.setup.host_bytes ≤ 2 ^ 64) view (lies-out h.setup is.accepted is.sound).few

-- where the ring of a lane that is there begins
pub ring-start : (start : Option ℕ) (lanes lane first : ℕ) → MatchOption start (lanes ≤ lane) (λ addr. (lane < lanes) × (addr ≡ first)) → lane < lanes
    → unwrap_or start 0 ≡ first
ring-start None lanes lane first is below = absurd (omega (arith, is, below))
ring-start (Some addr) lanes lane first is below = is.1
