-- The lanes' completion rings are cleared one after the other.
use Rattle.std.proofs.Common.{◌≡◌, ℕ, ◌+◌, ◌*◌, ◌<◌, ◌≤◌, ◌⊎◌, inl, inr, List, get_or, length, replicate, arith, refl, ap, ◌∙◌, subst}
use Rattle.std.proofs.lemmas.Bool.{cases_lt}
use Rattle.nv_core.proofs.Openings.{bytes-zero}
use Rattle.nv_host.specs.Closing.{IsRingAlone}
use Rattle.nv_host.specs.Served.{AreRingsAlone}
use Rattle.nv_laws_sound.specs.Phased.{AreRingsClear}
use Rattle.nv_mem.proofs.Memory.{get_or-after_store, get_or-after_store_other, length-after_store}
use Rattle.nv_mem.specs.Bytes.{after_store}
use Rattle.nv_model.specs.Memory.{byte_in}
use Rattle.nv_model.specs.Queue.{cqe_size}
use Rattle.nv_world_model.specs.Area.{completion_slot, ring_size}
use Rattle.nv_world_model.specs.Geometry.{Geometry}
use Rattle.nv_world_model.specs.SetUp.{SetUp}

-- the set-up with the first lanes alone
abbrev pub first_lanes : SetUp → (lanes : ℕ) → SetUp
first_lanes s lanes = record { host_bytes = s.host_bytes; lanes = lanes; geometry = s.geometry }

-- zeros that were stored are read back
pub zeros-stored : (memory bytes after : List ℕ) (addr n : ℕ) → bytes ≡ replicate n 0 → length bytes ≡ n → addr + n ≤ length memory
    → after ≡ after_store memory addr bytes → (at : ℕ) → at < n → byte_in after (addr + at) ≡ 0
unfolding byte_in
zeros-stored memory bytes after addr n zeros sized fits is at below =
    ap (λ (xs : List ℕ). get_or xs (addr + at) 0) is
    ∙ get_or-after_store memory bytes addr at (λ some. omega (arith, sized, fits)) (omega (arith, sized, below))
    ∙ ap (λ (xs : List ℕ). get_or xs at 0) zeros ∙ ap (λ (f : ℕ → ℕ). f at) (bytes-zero n)

-- and no other byte of the memory is another
pub zeros-alone : (geometry : Geometry) (lane : ℕ) (memory bytes after : List ℕ) (addr : ℕ) → length bytes ≡ cqe_size * ring_size
    → addr + cqe_size * ring_size ≤ length memory → addr ≡ completion_slot geometry.mediator lane 0 → after ≡ after_store memory addr bytes
    → IsRingAlone geometry lane memory after
unfolding byte_in
zeros-alone geometry lane memory bytes after addr sized fits at is =
    record {
      size = ap (λ (xs : List ℕ). length xs) is ∙ length-after_store memory bytes addr (λ some. omega (arith, sized, fits));
      bytes = (λ place outside.
          ap (λ (xs : List ℕ). get_or xs place 0) is
          ∙ get_or-after_store_other memory bytes addr place 0 (λ some. omega (arith, sized, fits)) (apart place outside));
    }
  where
    apart : (place : ℕ) → (place < completion_slot geometry.mediator lane 0) ⊎ (completion_slot geometry.mediator lane ring_size ≤ place)
        → (place < addr) ⊎ (addr + length bytes ≤ place)
    apart place (inl below) = inl (omega (arith, below, at))
    apart place (inr above) = inr (omega (arith, above, at, sized))

-- before the first
pub none-clear : (s : SetUp) (memory : List ℕ) → AreRingsClear (first_lanes s 0) (byte_in memory)
none-clear s memory lane at below within = absurd (omega (arith, below))

pub none-alone : (s : SetUp) (memory : List ℕ) → AreRingsAlone (first_lanes s 0) memory memory
none-alone s memory at outside = refl

-- and one more
module _ (s : SetUp) (lane : ℕ) (before mid after : List ℕ) (alone : IsRingAlone s.geometry lane mid after)
    (zeros : (at : ℕ) → at < cqe_size * ring_size → byte_in after (completion_slot s.geometry.mediator lane 0 + at) ≡ 0) where
  pub more-clear : AreRingsClear (first_lanes s lane) (byte_in mid) → AreRingsClear (first_lanes s (lane + 1)) (byte_in after)
  more-clear clear other at below within = by (cases_lt other lane)
    where
      by : (other < lane) ⊎ (lane ≤ other) → byte_in after (completion_slot s.geometry.mediator other 0 + at) ≡ 0
      by (inl less) =
          alone.bytes (completion_slot s.geometry.mediator other 0 + at) (inl (omega (arith, less, within))) ∙ clear other at less within
      by (inr most) =
          let same : lane ≡ other = omega (arith, most, below) in
          subst (λ (n : ℕ). byte_in after (completion_slot s.geometry.mediator n 0 + at) ≡ 0) same (zeros at within)

  pub more-alone : AreRingsAlone (first_lanes s lane) before mid → AreRingsAlone (first_lanes s (lane + 1)) before after
  more-alone kept at outside = alone.bytes at (outside lane (omega arith)) ∙ kept at (λ other below. outside other (omega (arith, below)))

-- all of them
module _ (s : SetUp) (lanes : ℕ) (before after : List ℕ) (same : lanes ≡ s.lanes) where
  pub all-clear : AreRingsClear (first_lanes s lanes) (byte_in after) → AreRingsClear s (byte_in after)
  all-clear clear = subst (λ (n : ℕ). AreRingsClear (first_lanes s n) (byte_in after)) same clear

  pub all-alone : AreRingsAlone (first_lanes s lanes) before after → AreRingsAlone s before after
  all-alone kept = subst (λ (n : ℕ). AreRingsAlone (first_lanes s n) before after) same kept
