-- A Reap of the mediator's code is the machine's.
use Rattle.std.proofs.Common.{◌≡◌, ℕ, Bool, true, false, ◌==◌, ◌&&◌, cond, List, map, slice_get, Option, Some, None, refl, sym, ap, ◌∙◌, subst}
use Rattle.nv_core.specs.Front.{IsReaped, IsSideOf, with_side}
use Rattle.nv_core.specs.Reaping.{answer_of, answer_to, names_command as names_there}
use Rattle.nv_core.specs.Tags.{is_flying as flying_there}
use Rattle.nv_entry.specs.Completion.{cid_of as completed_cid, phase_of, sqid_of, status_of}
use Rattle.nv_entry.specs.Status.{StatusField, bit}
use Rattle.nv_laws_machine.specs.Made.{IsMachines, fetched_from}
use Rattle.nv_laws_sound.specs.Side.{Side}
use Rattle.nv_laws_sound.specs.Unplaced.{unplaced_lane}
use Rattle.nv_machine.specs.Unplaced.{AreSameButPlaces}
use Rattle.nv_machine.proofs.ReapCalls.{reap-by, reap-fetched, reaped-in}
use Rattle.nv_machine.proofs.SideWorlds.{begun, begun-with, side-with, world_with}
use Rattle.nv_machine.specs.Doing.{Called, Doing, for_one, lane_changed, replied, stray}
use Rattle.nv_machine.specs.Effects.{effects_on}
use Rattle.nv_machine.specs.InWorld.{in_world}
use Rattle.nv_machine.specs.Machine.{called, ended_at, is_flying, names_command, reap, reaped_by}
use Rattle.nv_model.specs.Memory.{byte_in, bytes_from}
use Rattle.nv_model.specs.Queue.{cqe_size}
use Rattle.nv_model.specs.declared.reply.Reply.{Reply}
use Rattle.nv_model.specs.declared.reply.Reply.TheVariants as reply
use Rattle.nv_world_model.specs.Area.{completion_slot, queue_pair}
use Rattle.nv_world_model.specs.Geometry.{Geometry}
use Rattle.nv_world_model.specs.Step.{completion_read}
use Rattle.nv_world_model.specs.World.{Ended, Flying, Free, Lane, Tag, Taken, World}
use Rattle.nv_world_model.specs.declared.event.Event.TheVariants as event

same-side : (s : Side) → AreSameButPlaces s s
same-side s = record { lanes = refl; tails = refl; controllers = refl }

flying-same : (t : Option Tag) → is_flying t ≡ flying_there t
flying-same None = refl
flying-same (Some Free) = refl
flying-same (Some (Taken command reads)) = refl
flying-same (Some (Flying command share standing)) = refl
flying-same (Some (Ended command st share)) = refl

names-same : (lane : ℕ) (l : Lane) (completion : List ℕ) → names_command lane l completion ≡ names_there lane l completion
names-same lane l completion =
    ap (λ (b : Bool). sqid_of completion == queue_pair lane && b) (flying-same (slice_get l.tags (completed_cid completion)))

-- what a completion ends changes no tail, and no memory
ended-tails : (t : Option Tag) (st : StatusField) (lane cid : ℕ) (m : Doing) → (ended_at t st lane cid m).side.tails ≡ m.side.tails
ended-tails None st lane cid m = refl
ended-tails (Some Free) st lane cid m = refl
ended-tails (Some (Taken command reads)) st lane cid m = refl
ended-tails (Some (Flying command share standing)) st lane cid m = refl
ended-tails (Some (Ended command other share)) st lane cid m = refl

ended-quiet : (t : Option Tag) (st : StatusField) (lane cid : ℕ) (m : Doing) → (ended_at t st lane cid m).effects ≡ m.effects
ended-quiet None st lane cid m = refl
ended-quiet (Some Free) st lane cid m = refl
ended-quiet (Some (Taken command reads)) st lane cid m = refl
ended-quiet (Some (Flying command share standing)) st lane cid m = refl
ended-quiet (Some (Ended command other share)) st lane cid m = refl

module _ (geometry : Geometry) (old new : Side) (before : List ℕ) (lane : ℕ) (answer : Option Reply)
    (told : answer ≡ answer_of geometry lane (slice_get old.lanes lane) before)
    (ended : answer ≡ Some reply.Done → IsReaped geometry lane old new before)
    (same : (answer ≡ Some reply.Done → ⊥) → new ≡ old) (tails : new.tails ≡ old.tails) where
  -- what a call is to be
  abbrev Is : Called → Type 0
  Is c = (c.reply ≡ answer) × (AreSameButPlaces c.now.side new) × (byte_in before ≡ effects_on c.now.effects (byte_in before))

  -- one that changes nothing
  nothing : (r : Option Reply) → r ≡ answer → (r ≡ Some reply.Done → ⊥) → Is (record { now = begun old; reply = r })
  unfolding effects_on
  nothing r is off =
      let stays : new ≡ old = same (λ done. off (is ∙ done)) in
      (is, subst (λ (s : Side). AreSameButPlaces old s) (sym stays) (same-side old), refl)

  module _ (l : Lane) (found : slice_get old.lanes lane ≡ Some l) where
    abbrev host : ℕ → ℕ
    host = byte_in before

    abbrev slot : ℕ
    slot = completion_slot geometry.mediator lane l.head

    abbrev whole : List ℕ
    whole = bytes_from host slot cqe_size

    answers : answer ≡ answer_to lane l whole
    answers = told ∙ ap (λ (o : Option Lane). answer_of geometry lane o before) found

    -- a completion that ends its tag
    abbrev after : Doing
    after = ended_at (slice_get l.tags (completed_cid whole)) (status_of whole) lane (completed_cid whole) (lane_changed lane completion_read (begun old))

    done : answer ≡ Some reply.Done → Is (replied reply.Done after)
    unfolding effects_on
    done is =
        let w : World = world_with host old in
        let on : IsSideOf old before w = record { host = refl; lanes = refl; controllers = refl; tails = ap (λ (s : Side). s.tails) (side-with host old) } in
        let code = ended is w l on found in
        let machine = reaped-in w lane whole l (begun old) (begun-with host old) found in
        let both : in_world w after ≡ with_side new before w = machine ∙ sym code in (
          sym is,
          record {
            lanes = ap (λ (v : World). map unplaced_lane v.lanes) both;
            tails = ended-tails (slice_get l.tags (completed_cid whole)) (status_of whole) lane (completed_cid whole) (lane_changed lane completion_read (begun old)) ∙ sym tails;
            controllers = ap (λ (v : World). v.controllers) both;
          },
          ap (λ es. effects_on es host) (sym (ended-quiet (slice_get l.tags (completed_cid whole)) (status_of whole) lane (completed_cid whole) (lane_changed lane completion_read (begun old)))),
        )

    named : (names : Bool) → names_command lane l whole ≡ names → (phase_of whole == bit l.phase) ≡ true → Is (cond names (replied reply.Done after) (stray (begun old)))
    named true names new_one =
        done (answers ∙ ap (λ (b : Bool). cond b (cond (names_there lane l whole) (Some reply.Done) None) (Some reply.Idle)) new_one
        ∙ ap (λ (b : Bool). cond b (Some reply.Done) None) (sym (names-same lane l whole) ∙ names))
    named false names new_one =
        nothing None (sym (answers ∙ ap (λ (b : Bool). cond b (cond (names_there lane l whole) (Some reply.Done) None) (Some reply.Idle)) new_one
        ∙ ap (λ (b : Bool). cond b (Some reply.Done) None) (sym (names-same lane l whole) ∙ names))) (λ e. cc)

    read : (new_one : Bool) → (phase_of whole == bit l.phase) ≡ new_one → Is (cond new_one (reaped_by lane l whole (begun old)) (replied reply.Idle (begun old)))
    read true is = named (names_command lane l whole) refl is
    read false is =
        nothing (Some reply.Idle) (sym (answers ∙ ap (λ (b : Bool). cond b (cond (names_there lane l whole) (Some reply.Done) None) (Some reply.Idle)) is)) (λ e. cc)

    with-lane : Is (reap lane l (fetched_from geometry (event.Reap lane) old host) (begun old))
    with-lane =
        let new_one : Bool = phase_of whole == bit l.phase in
        subst Is (sym (ap (λ (xs : List ℕ). reap lane l xs (begun old)) (reap-fetched geometry host old lane l found)
        ∙ reap-by host slot lane l (begun old) new_one refl)) (read new_one refl)

  each : (o : Option Lane) → slice_get old.lanes lane ≡ o → Is (for_one o (begun old) (λ l. reap lane l (fetched_from geometry (event.Reap lane) old (byte_in before)) (begun old)))
  each None none = nothing (Some reply.Ignored) (sym (told ∙ ap (λ (o : Option Lane). answer_of geometry lane o before) none)) (λ e. cc)
  each (Some l) found = with-lane l found

  pub reap-machines : IsMachines geometry (event.Reap lane) old before answer new before
  unfolding called
  reap-machines = (let is = each (slice_get old.lanes lane) refl in record { reply = is.0; side = is.1; memory = is.2 })
