-- A Post that is answered and no more is so in each world that has the side.
use Rattle.std.proofs.Common.{◌≡◌, ℕ, ◌==◌, Bool, true, false, cond, List, [], ◌∷◌, Option, Some, None, refl, sym, ap, ◌∙◌}
use Rattle.nv_core.specs.Completing.{IsAnswered}
use Rattle.nv_core.specs.Front.{IsSideOf, IsSideStep, with_side}
use Rattle.nv_entry.specs.Status.{StatusField}
use Rattle.nv_entry.specs.Submission.{cid_of}
use Rattle.nv_laws_sound.proofs.Lists.{some-same}
use Rattle.nv_laws_sound.proofs.Tails.{rung-same}
use Rattle.nv_laws_sound.specs.Side.{Side, rung_with}
use Rattle.nv_machine.specs.Doing.{Called, Doing, for_ended, for_owner, group_at, owner_in, replied, tag_at}
use Rattle.nv_machine.specs.Effects.{Effect}
use Rattle.nv_machine.specs.InWorld.{side_of}
use Rattle.nv_machine.specs.Machine.{call, called, post_all, post_at, post_by, statuses_of}
use Rattle.nv_model.specs.Controller.{Controller, Posted, is_enabled, post}
use Rattle.nv_model.specs.declared.reply.Reply.{Reply}
use Rattle.nv_model.specs.declared.reply.Reply.TheVariants as reply
use Rattle.nv_world_model.specs.Device.{DeviceLane}
use Rattle.nv_world_model.specs.Geometry.{Geometry}
use Rattle.nv_world_model.specs.Seat.{Owner}
use Rattle.nv_world_model.specs.Step as step
use Rattle.nv_world_model.specs.World.{Command, Ended, Flying, Free, Lane, Tag, Taken, World, group}
use Rattle.nv_world_model.specs.declared.event.Event.TheVariants as event

-- ---- a world that has the side

pub side-there : (side : Side) (memory : List ℕ) (w : World) → IsSideOf side memory w → side_of w ≡ side
side-there side memory w on =
    ap (λ (ls : List Lane). let s : Side = record (side_of w) { lanes = ls } in s) on.lanes
    ∙ ap (λ (ts : List ℕ). let s : Side = record { lanes = side.lanes; tails = ts; controllers = w.controllers } in s) on.tails
    ∙ ap (λ (cs : List Controller). let s : Side = record side { controllers = cs } in s) on.controllers

side-put : (side : Side) (memory : List ℕ) (w : World) → IsSideOf side memory w → with_side side memory w ≡ w
side-put side memory w on =
    ap (λ (h : ℕ → ℕ). let v : World = record (with_side side memory w) { host = h } in v) (sym on.host)
    ∙ ap (λ (ds : List DeviceLane). let v : World = record w { device = ds; lanes = side.lanes; controllers = side.controllers } in v)
    (ap (λ (ts : List ℕ). rung_with ts w.device) (sym on.tails) ∙ rung-same w.device)
    ∙ ap (λ (ls : List Lane). let v : World = record w { lanes = ls; controllers = side.controllers } in v) (sym on.lanes)
    ∙ ap (λ (cs : List Controller). let v : World = record w { controllers = cs } in v) (sym on.controllers)

-- ---- a call and the step go by the same cases

module _ (geometry : Geometry) (w : World) where
  abbrev m : Doing
  m = record { side = side_of w; effects = [] }

  -- where the call is answered, and nothing is done, the world stays
  abbrev StaysBy : Called → step.After → Type 0
  StaysBy c a = (r : Reply) → c.reply ≡ Some r → (r ≡ reply.Done → ⊥) → a ≡ step.replied r w

  stays : (q : Reply) (n : Doing) → StaysBy (replied q n) (step.replied q w)
  stays q n r is undone = ap (λ (x : Reply). step.replied x w) (some-same q r is)

  goes-on : (r : Reply) → Some reply.Done ≡ Some r → (r ≡ reply.Done → ⊥) → ⊥
  goes-on r is undone = undone (sym (some-same reply.Done r is))

  both-cond : (b : Bool) (c d : Called) (a e : step.After) → StaysBy c a → StaysBy d e → StaysBy (cond b c d) (cond b a e)
  both-cond true c d a e so not_so = so
  both-cond false c d a e so not_so = not_so

  both-ended : (tag : ℕ) (t : Option Tag) (k : Command → Called) (j : Command → step.After) → ((command : Command) → StaysBy (k command) (j command))
      → StaysBy (for_ended tag t m k) (step.for_ended tag t w j)
  both-ended tag None k j each = stays reply.Ignored m
  both-ended tag (Some Free) k j each = stays reply.Stale m
  both-ended tag (Some (Taken command reads)) k j each = stays reply.Stale m
  both-ended tag (Some (Flying command share standing)) k j each = stays reply.Stale m
  both-ended tag (Some (Ended command st share)) k j each =
      both-cond (command.leader == tag) (k command) (replied reply.Stale m) (j command) (step.replied reply.Stale w) (each command) (stays reply.Stale m)

  both-owner : (o : Option Owner) (k : Owner → Called) (j : Owner → step.After) → ((x : Owner) → StaysBy (k x) (j x))
      → StaysBy (for_owner o m k) (step.for_owner o w j)
  both-owner None k j each = stays reply.Stale m
  both-owner (Some x) k j each = each x

  both-statuses : (lane : ℕ) (tags : List ℕ) → step.statuses_of lane tags w ≡ statuses_of lane tags (side_of w)
  unfolding statuses_of step.statuses_of
  both-statuses lane [] = refl
  both-statuses lane (tag ∷ tags) = ap (step.status_before (step.ended_status (tag_at (side_of w) lane tag))) (both-statuses lane tags)

  module _ (lane : ℕ) (tags : List ℕ) (o : Owner) where
    by-room : (f : Option Posted) (delivered : List Effect) (st : StatusField)
        → StaysBy (post_by f delivered lane tags o m) (step.post_by f st geometry.mediator lane tags o w)
    by-room None delivered st = stays reply.Held m
    by-room (Some p) delivered st = λ r is undone. absurd (goes-on r is undone)

    by-enabled : (command : Command) (delivered : List Effect) (st : StatusField)
        → StaysBy (post_at command st delivered lane tags o m) (step.post_at command st geometry.mediator lane tags o w)
    by-enabled command delivered st =
        both-cond (is_enabled o.controller) _ _ _ _ (by-room (post o.controller command.queue 0 (cid_of command.entry) st) delivered st)
        (λ r is undone. absurd (goes-on r is undone))

    by-statuses : (sts : Option (List StatusField)) (command : Command)
        → StaysBy (post_all sts command geometry.mediator lane tags o m) (step.post_all sts command geometry.mediator lane tags o w)
    by-statuses None command = stays reply.Stale m
    by-statuses (Some sts) command = by-enabled command _ (step.deciding sts)

  post-stays : (lane tag : ℕ) → StaysBy (call geometry (event.Post lane tag) [] (side_of w)) (step.step geometry (event.Post lane tag) w)
  unfolding called step.step group
  post-stays lane tag =
      both-ended tag (tag_at (side_of w) lane tag) _ _ (λ command.
      both-owner (owner_in geometry (side_of w) command.guest) _ _ (λ o r is undone.
      ap (λ (sts : Option (List StatusField)). step.post_all sts command geometry.mediator lane (group_at (side_of w) lane tag) o w)
      (both-statuses lane (group_at (side_of w) lane tag))
      ∙ by-statuses lane (group_at (side_of w) lane tag) o (statuses_of lane (group_at (side_of w) lane tag) (side_of w)) command r is undone))

-- in each world that has the side
pub answered-step : (geometry : Geometry) (lane tag : ℕ) (s : Side) (memory : List ℕ) (r : Reply) → IsAnswered geometry (event.Post lane tag) s r
    → IsSideStep geometry (event.Post lane tag) s memory r s memory
answered-step geometry lane tag s memory r is w on =
    ap (λ (v : World). step.replied r v) (side-put s memory w on)
    ∙ sym (post-stays geometry w lane tag r
    (ap (λ (x : Side). (call geometry (event.Post lane tag) [] x).reply) (side-there s memory w on) ∙ ap (λ (c : Called). c.reply) is.is) is.undone)
