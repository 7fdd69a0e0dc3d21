-- Events that work makes in a row, and what is left of a world where nothing of a scope comes next.
use Rattle.std.proofs.Common.{◌≡◌, refl, sym, subst, ap, ◌∙◌, ℕ, zero, suc, ◌+◌, ◌-◌, ◌<◌, ◌≤◌, false, arith}
use Rattle.std.proofs.Common.{slice_get, Option, Some, None}
use Rattle.nv_c.specs.Work.{GivesUp, HasEnough, IsOneMade, IsStarved, IsTurn, IsWanting, IsWork, Leads, LeadsUp, MayGiveUp, Rests, turn_with}
use Rattle.nv_c.specs.declared.working.Scope.{Scope}
use Rattle.nv_c.specs.declared.working.Turn.{Turn}
use Rattle.nv_c.specs.declared.working.Turn.TheVariants as turn
use Rattle.nv_host.proofs.InRow.{give-by, more-by, none-by, one-by, up-by, zero-by}
use Rattle.nv_host.proofs.Rests.{due-not}
use Rattle.nv_mediator.specs.Hosted.{Hosted, IsMade}
use Rattle.nv_model.specs.declared.reply.Reply.{Reply}
use Rattle.nv_model.specs.declared.reply.Reply.TheVariants as reply
use Rattle.nv_world_model.specs.Device.{DeviceLane, Held}
use Rattle.nv_world_model.specs.Due.{due}
use Rattle.nv_world_model.specs.Geometry.{Geometry}
use Rattle.nv_world_model.specs.Step.{After, device_move, device_post, device_take, for_held, for_one, is_done}
use Rattle.nv_world_model.specs.Step.{reap, replied, step}
use Rattle.nv_world_model.specs.World.{Lane, World}
use Rattle.nv_world_model.specs.declared.event.Event.{Event}
use Rattle.nv_world_model.specs.declared.event.Event.TheVariants as event

-- ---- events in a row

-- nothing was done
pub leads_none : (s : Scope) (old new : Hosted) → new ≡ old → Leads s 0 old new
leads_none s = none-by Hosted (IsOneMade s)

-- one event was made
pub leads_one : (s : Scope) (e : Event) (old new : Hosted) (r : Reply) → IsWork s old e → IsMade e old r new → Leads s 1 old new
leads_one s e old new r is made = one-by Hosted (IsOneMade s) e old new (record { work = is; reply = r; made = made })

-- and more after these
pub leads_more : (s : Scope) (m n : ℕ) (a b c : Hosted) → Leads s m a b → Leads s n b c → Leads s (m + n) a c
leads_more s = more-by Hosted (IsOneMade s)

-- none lead nowhere
leads_zero : (s : Scope) (a b : Hosted) → Leads s 0 a b → b ≡ a
leads_zero s a b leads = zero-by Hosted (IsOneMade s) 0 a b leads refl

-- ---- how a call ends

-- nothing was left
pub worked_idle : (s : Scope) (most done : ℕ) (a b c : Hosted) → Leads s done a b → done < most → c ≡ b → Rests s b
    → HasEnough s most done a c
worked_idle s most done a b c leads below same rests =
    record {
      leads = subst (λ (x : Hosted). Leads s done a x) (sym same) leads;
      few = omega (arith, below);
      rests = λ less. subst (λ (x : Hosted). Rests s x) (sym same) rests;
    }

-- there was no memory for what was
pub worked_starved : (s : Scope) (most done : ℕ) (a b c : Hosted) → Leads s done a b → done < most → c ≡ b → IsWanting s b
    → IsStarved s most done a c
worked_starved s most done a b c leads below same left =
    record {
      leads = subst (λ (x : Hosted). Leads s done a x) (sym same) leads;
      few = below;
      left = subst (λ (x : Hosted). IsWanting s x) (sym same) left;
    }

-- as many were made as were asked for
pub worked_all : (s : Scope) (most done : ℕ) (a b : Hosted) → Leads s done a b → done ≤ most → most ≤ done
    → HasEnough s most done a b
worked_all s most done a b leads few all =
    record { leads = leads; few = few; rests = λ less. absurd (omega (arith, less, all)) }

-- a command was given up after some
pub leads_up : (s : Scope) (m n : ℕ) (a b c : Hosted) → Leads s m a b → LeadsUp s n b c → LeadsUp s (m + n) a c
leads_up s = up-by Hosted (IsOneMade s) (GivesUp s)

pub leads_give : (s : Scope) (lane tag : ℕ) (a b : Hosted) (r : Reply) → MayGiveUp s a lane tag → IsMade (event.GiveUp lane tag) a r b → LeadsUp s 1 a b
leads_give s lane tag a b r may made =
    give-by Hosted (IsOneMade s) (GivesUp s) a b (record { lane = lane; tag = tag; own = may.own; waits = may.waits; reply = r; made = made })

-- a turn after some events
pub turn_after : (done : ℕ) (t : Turn) (s : Scope) (most : ℕ) (a b c : Hosted) → Leads s done a b → done < most → IsTurn s (most - done) b t c
    → IsTurn s most a (turn_with done t) c
turn_after done (turn.Served count) s most a b c first below made =
    (leads_more s done count a b c first made.0, (let some = made.1 in omega (arith, some)), (let few = made.2 in omega (arith, few, below)))
turn_after done (turn.GaveUp count) s most a b c first below made = (leads_up s done count a b c first made.0, (let few = made.1 in omega (arith, few, below)))
turn_after zero turn.Idle s most a b c first below made =
    let same = leads_zero s a b first in
    (made.0 ∙ same, subst (λ (x : Hosted). Rests s x) same made.1)
turn_after (suc n) turn.Idle s most a b c first below made =
    (subst (λ (x : Hosted). Leads s (suc n) a x) (sym made.0) first, omega arith, omega (arith, below))
turn_after zero turn.Starved s most a b c first below made =
    let same = leads_zero s a b first in
    (made.0 ∙ same, subst (λ (x : Hosted). IsWanting s x) same made.1)
turn_after (suc n) turn.Starved s most a b c first below made =
    (subst (λ (x : Hosted). Leads s (suc n) a x) (sym made.0) first, omega arith, omega (arith, below))

-- ---- what is due nowhere

-- the physical controller holds no command in a slot of a lane
abbrev pub IsUnheld : World → (lane slot : ℕ) → Type 0
IsUnheld w lane slot = (d : DeviceLane) → slice_get w.device lane ≡ Some d → (h : Held) → slice_get d.held slot ≡ Some (Some h) → ⊥

module _ (geometry : Geometry) (w : World) where
  -- what the physical controller would do on no lane, or in no slot
  pub dev_take-no_lane : (lane : ℕ) → slice_get w.device lane ≡ None → due geometry (event.DevTake lane) w ≡ false
  unfolding step
  dev_take-no_lane lane none =
      due-not geometry (event.DevTake lane) w (replied reply.Ignored w)
      (ap (λ (o : Option DeviceLane). for_one o w (λ d. device_take geometry.mediator lane d w)) none) refl

  pub dev_move-no_slot : (lane slot number : ℕ) → ((d : DeviceLane) → slice_get w.device lane ≡ Some d → slice_get d.held slot ≡ None)
      → due geometry (event.DevMove lane slot number) w ≡ false
  unfolding due step
  dev_move-no_slot lane slot number none = by_lane (slice_get w.device lane) refl
    where
      moved : DeviceLane → After
      moved d = for_held (slice_get d.held slot) w (λ h. device_move geometry.disk_blocks lane slot number h w)

      by_lane : (o : Option DeviceLane) → slice_get w.device lane ≡ o
          → is_done (for_one o w (λ d. for_held (slice_get d.held slot) w (λ h. device_move geometry.disk_blocks lane slot number h w))).reply ≡ false
      by_lane None is = refl
      by_lane (Some d) is =
          ap (λ x. is_done (for_held x w (λ h. device_move geometry.disk_blocks lane slot number h w)).reply) (none d is)

  -- or in a slot that holds no command
  pub dev_move-unheld : (lane slot number : ℕ) → IsUnheld w lane slot → due geometry (event.DevMove lane slot number) w ≡ false
  unfolding due step
  dev_move-unheld lane slot number none = by_lane (slice_get w.device lane) refl
    where
      by_held : (d : DeviceLane) → slice_get w.device lane ≡ Some d → (x : Option (Option Held)) → slice_get d.held slot ≡ x
          → is_done (for_held x w (λ h. device_move geometry.disk_blocks lane slot number h w)).reply ≡ false
      by_held d is None at = refl
      by_held d is (Some None) at = refl
      by_held d is (Some (Some h)) at = absurd (none d is h at)

      by_lane : (o : Option DeviceLane) → slice_get w.device lane ≡ o
          → is_done (for_one o w (λ d. for_held (slice_get d.held slot) w (λ h. device_move geometry.disk_blocks lane slot number h w))).reply ≡ false
      by_lane None is = refl
      by_lane (Some d) is = by_held d is (slice_get d.held slot) refl

  pub dev_post-unheld : (lane slot : ℕ) → IsUnheld w lane slot → due geometry (event.DevPost lane slot) w ≡ false
  unfolding due step
  dev_post-unheld lane slot none = by_lane (slice_get w.device lane) refl
    where
      by_held : (d : DeviceLane) → slice_get w.device lane ≡ Some d → (x : Option (Option Held)) → slice_get d.held slot ≡ x
          → is_done (for_held x w (λ h. device_post h.left geometry.mediator lane slot h d w)).reply ≡ false
      by_held d is None at = refl
      by_held d is (Some None) at = refl
      by_held d is (Some (Some h)) at = absurd (none d is h at)

      by_lane : (o : Option DeviceLane) → slice_get w.device lane ≡ o
          → is_done (for_one o w (λ d. for_held (slice_get d.held slot) w (λ h. device_post h.left geometry.mediator lane slot h d w))).reply ≡ false
      by_lane None is = refl
      by_lane (Some d) is = by_held d is (slice_get d.held slot) refl

  pub dev_post-no_slot : (lane slot : ℕ) → ((d : DeviceLane) → slice_get w.device lane ≡ Some d → slice_get d.held slot ≡ None)
      → due geometry (event.DevPost lane slot) w ≡ false
  unfolding due step
  dev_post-no_slot lane slot none = by_lane (slice_get w.device lane) refl
    where
      by_lane : (o : Option DeviceLane) → slice_get w.device lane ≡ o
          → is_done (for_one o w (λ d. for_held (slice_get d.held slot) w (λ h. device_post h.left geometry.mediator lane slot h d w))).reply ≡ false
      by_lane None is = refl
      by_lane (Some d) is =
          ap (λ x. is_done (for_held x w (λ h. device_post h.left geometry.mediator lane slot h d w)).reply) (none d is)

  -- completions on no lane
  pub reap-no_lane : (lane : ℕ) → slice_get w.lanes lane ≡ None → due geometry (event.Reap lane) w ≡ false
  unfolding step
  reap-no_lane lane none =
      due-not geometry (event.Reap lane) w (replied reply.Ignored w)
      (ap (λ (o : Option Lane). for_one o w (λ l. for_one (slice_get w.device lane) w (λ d. reap geometry lane l d w))) none) refl
