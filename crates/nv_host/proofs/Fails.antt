-- The command of a tag that is in flight fails, as a run; of another nothing has changed.
use Rattle.std.proofs.Common.{◌≡◌, ℕ, zero, suc, ◌+◌, ◌-◌, ◌<◌, ◌≤◌, ◌⊎◌, inl, inr, true, ◌==◌, List, length, slice_get, Option, Some, arith, refl, sym, ap, ◌∙◌, subst}
use Rattle.std.proofs.lemmas.Bool.{cases_lt}
use Rattle.std.specs.Option.{unwrap_or}
use Rattle.std.specs.Prelude.{slice_index}
use Rattle.nv_core.proofs.Reaps.{aloft}
use Rattle.nv_core.specs.Front.{IsReaped}
use Rattle.nv_laws_sound.specs.Side.{Side}
use Rattle.nv_core.specs.Reaping.{next_completion, waits_in}
use Rattle.nv_core.specs.Tags.{is_flying}
use Rattle.nv_entry.proofs.CompletionLemmas.{length-completion}
use Rattle.nv_entry.specs.Completion.{cid_of, completion, phase_of, status_of}
use Rattle.nv_entry.specs.Status.{bit}
use Rattle.nv_host.proofs.Accepted.{lies-out}
use Rattle.nv_host.proofs.Failed.{reaped-lanes}
use Rattle.nv_host.proofs.Failures.{fails-beside, fails-idle, fault}
use Rattle.nv_host.proofs.Runs.{lead-first, lead-on, lead-same, step-live}
use Rattle.nv_host.proofs.TakenAll.{find, take-all}
use Rattle.nv_host.specs.Closing.{Fails}
use Rattle.nv_host.specs.Ending.{IsIdleRun, IsRun}
use Rattle.nv_host.specs.Served.{IsServed, Served}
use Rattle.nv_laws_sound.proofs.Lists.{slice_get-there}
use Rattle.nv_laws_sound.specs.LaidOut.{IsLaidOut}
use Rattle.nv_model.proofs.MemoryLemmas.{stored-inside, stored-outside}
use Rattle.nv_model.proofs.Shown.{length-bytes_from}
use Rattle.nv_model.specs.Memory.{byte_in, bytes_from, stored}
use Rattle.nv_model.specs.Queue.{cqe_size}
use Rattle.nv_world_model.specs.Area.{completion_slot, queue_pair}
use Rattle.nv_world_model.specs.Geometry.{Geometry}
use Rattle.nv_world_model.specs.Step.{passed_on, replay, step}
use Rattle.nv_world_model.specs.World.{Ended, Lane, Tag, World}
use Rattle.nv_world_model.specs.declared.event.Event.{Event}
use Rattle.nv_world_model.specs.declared.event.Event.TheVariants as event
use mathlib.Core.Path.{fun_ext}

-- ---- bytes that are put back

index-from : (m : ℕ → ℕ) (addr len i : ℕ) → i < len → slice_index (bytes_from m addr len) i ≡ m (addr + i)
unfolding bytes_from
index-from m addr zero i below = absurd (omega (arith, below))
index-from m addr (suc len) zero below = ap m (omega arith)
index-from m addr (suc len) (suc i) below =
    let next : suc addr + i ≡ addr + suc i = omega arith in
    index-from m (suc addr) len i (omega (arith, below)) ∙ ap m next

module _ (m : ℕ → ℕ) (addr n : ℕ) (bytes : List ℕ) (sized : length bytes ≡ n) where
  back_at : (at : ℕ) → (at < addr) ⊎ (addr ≤ at) → (at < addr + n) ⊎ (addr + n ≤ at) → stored (stored m addr bytes) addr (bytes_from m addr n) at ≡ m at
  back_at at (inl low) any =
      stored-outside (stored m addr bytes) addr (bytes_from m addr n) at (inl low) ∙ stored-outside m addr bytes at (inl low)
  back_at at (inr least) (inl below) =
      let many = length-bytes_from m addr n in
      let here : addr + (at - addr) ≡ at = omega (arith, least) in
      stored-inside (stored m addr bytes) addr (bytes_from m addr n) at least (omega (arith, below, many))
      ∙ index-from m addr n (at - addr) (omega (arith, least, below)) ∙ ap m here
  back_at at (inr least) (inr past) =
      let many = length-bytes_from m addr n in
      stored-outside (stored m addr bytes) addr (bytes_from m addr n) at (inr (omega (arith, past, many)))
      ∙ stored-outside m addr bytes at (inr (omega (arith, past, sized)))

  put-back : stored (stored m addr bytes) addr (bytes_from m addr n) ≡ m
  put-back = fun_ext (λ at. back_at at (cases_lt at addr) (cases_lt at (addr + n)))

-- ---- what is there

module _ (h o : Served) (view : h ≡ o) (is : IsServed h) where
  pub laid-there : IsLaidOut o.setup.host_bytes (length o.side.lanes) o.setup.geometry
  laid-there =
      subst (λ (x : Served). IsLaidOut x.setup.host_bytes (length x.side.lanes) x.setup.geometry) view
      (subst (λ n. IsLaidOut h.setup.host_bytes n h.setup.geometry) (sym is.lanes) (lies-out h.setup is.accepted is.sound))

  module _ (lane : ℕ) (below : lane < o.setup.lanes) where
    pub lane-there : (l : Lane) × (slice_get o.side.lanes lane ≡ Some l)
    lane-there =
        subst (λ (x : Served). lane < x.setup.lanes → (l : Lane) × (slice_get x.side.lanes lane ≡ Some l)) view
        (λ less. slice_get-there h.side.lanes lane (let many = is.lanes in omega (arith, many, less))) below

    pub tail-there : slice_get o.side.tails lane ≡ Some (unwrap_or (slice_get o.side.tails lane) 0)
    tail-there =
        subst (λ (x : Served). lane < x.setup.lanes → slice_get x.side.tails lane ≡ Some (unwrap_or (slice_get x.side.tails lane) 0)) view
        (λ less.
        let tail = slice_get-there h.side.tails lane (let many = is.lanes in let as_many = is.kept.many in omega (arith, many, as_many, less)) in
        tail.1 ∙ sym (ap (λ (t : Option ℕ). Some (unwrap_or t 0)) tail.1)) below

-- ---- the two ends of it

module _ (geometry : Geometry) (lane tag : ℕ) (old new : Side) (before mid there entry : List ℕ) (l : Lane) (found : slice_get old.lanes lane ≡ Some l)
    (tail : ℕ) (tail_is : slice_get old.tails lane ≡ Some tail) (entry_is : entry ≡ completion 0 tail (queue_pair lane) tag l.phase fault)
    (put : byte_in mid ≡ stored (byte_in before) (completion_slot geometry.mediator lane l.head) entry) where
  -- the completion was read
  module _ (host_bytes : ℕ) (laid : IsLaidOut host_bytes (length old.lanes) geometry) (flies : is_flying (slice_get l.tags tag) ≡ true)
      (read : IsReaped geometry lane old new mid) (run : IsRun geometry lane old mid new mid) (named : cid_of (next_completion geometry lane l mid) ≡ tag) where
    pub failed-run : IsIdleRun geometry lane old before new mid
    failed-run w on live idle =
        let a = aloft (slice_get l.tags tag) flies in
        let t = take-all host_bytes geometry lane old before laid l found w on live in
        let w1 : World = replay geometry t.0.events w in
        let f = find geometry lane old before l found w1 t.0.beside t.0.live in
        let e : Event = event.DevFail lane tag fault in
        let written = put ∙ ap (stored (byte_in before) (completion_slot geometry.mediator lane l.head)) entry_is in
        let beside =
        fails-beside geometry lane tag old before w1 t.0.beside t.0.live l found f idle t.1 a.command a.share a.at a.is tail tail_is mid written in
        let then_live = step-live host_bytes geometry lane old before laid w1 t.0.beside t.0.live e in
        let led = run (step geometry e w1).world beside then_live in
        let ended : Tag = Ended a.command (passed_on (status_of (next_completion geometry lane l mid))) (Some a.share) in
        let lanes = reaped-lanes geometry lane old new mid l found read tag a.command a.share a.at a.is (sym named) in (
          lead-on geometry lane w old new before mid t.0 (lead-first geometry lane w1 e new mid (Fails tag refl) led),
          fails-idle geometry lane tag old before w1 t.0.beside t.0.live l found f idle t.1 a.command a.share a.at a.is tail tail_is mid written
              then_live new ended lanes,
        )

  -- it was not, and what was there is there again
  module _ (after : List ℕ) (was : there ≡ next_completion geometry lane l before)
      (again : byte_in after ≡ stored (byte_in mid) (completion_slot geometry.mediator lane l.head) there) where
    same-bytes : byte_in after ≡ byte_in before
    same-bytes =
        let slot : ℕ = completion_slot geometry.mediator lane l.head in
        again ∙ ap (λ (h : ℕ → ℕ). stored h slot there) put ∙ ap (stored (stored (byte_in before) slot entry) slot) was
        ∙ put-back (byte_in before) slot cqe_size entry
        (ap (λ (xs : List ℕ). length xs) entry_is ∙ length-completion 0 tail (queue_pair lane) tag l.phase fault)

    pub kept-run : IsIdleRun geometry lane old before old after
    kept-run w on live idle = (
      lead-same geometry lane w old after
          (record { host = on.host ∙ sym same-bytes; lanes = on.lanes; controllers = on.controllers; tails = on.tails }) live,
      ap (λ (o : Option Lane). waits_in geometry lane o after) found
          ∙ ap (λ (h : ℕ → ℕ). phase_of (bytes_from h (completion_slot geometry.mediator lane l.head) cqe_size) == bit l.phase) same-bytes
          ∙ sym (ap (λ (o : Option Lane). waits_in geometry lane o before) found) ∙ idle,
    )
