-- A unit of a share moves by its event.
use Rattle.std.proofs.Common.{◌≡◌, ℕ, true, ◌==◌, cond, slice_get, Option, Some, refl, ap, ◌∙◌}
use Rattle.std.specs.List.{list_any}
use Rattle.nv_model.specs.Judge.{Work}
use Rattle.nv_model.specs.declared.reply.Reply.TheVariants as reply
use Rattle.nv_world_model.specs.Device.{DeviceLane, Held, device_unit, unit_gone, with_held}
use Rattle.nv_world_model.specs.Geometry.{Geometry, Guest}
use Rattle.nv_world_model.specs.Share.{Share}
use Rattle.nv_world_model.specs.Seat.{held_by, held_in}
use Rattle.nv_world_model.specs.Step.{device_move, device_moved, for_one, for_held, replied, step}
use Rattle.nv_world_model.specs.World.{World, changed_at}
use Rattle.nv_world_model.specs.declared.event.Event.TheVariants as event
use Rattle.nv_world_model.proofs.Seats.{slice_get-set}
use Rattle.std.proofs.Common.{All, Bool, List, [], ◌∷◌, eq-eqb, length, map, sym}
use Rattle.std.specs.Prelude.{◌≢◌}
use Rattle.std.proofs.lemmas.Bool.{ne_eqb}
use Rattle.nv_model.specs.Carried.{units_moved}
use Rattle.nv_model.specs.Carrying.{at_work}
use Rattle.nv_model.specs.Private.{AtWork, Bag, MoveStep, Private, Progress, Shape, Taken, run_of}
use Rattle.nv_model.proofs.Bags.{put-same}
use Rattle.nv_world_model.specs.PrivateSteps.{others_moves, own_moves, steps_of, work_in}
use Rattle.nv_world_model.specs.Seat.{name_of, numbers_behind, work_of}
use Rattle.nv_world_model.specs.View.{is_tag_of}
use Rattle.nv_laws_sound.specs.Consistent.{IsConsistent}
use Rattle.nv_laws_sound.specs.LaidOut.{IsLaidOut}
use Rattle.nv_laws.specs.Units.{IsHeld, left_without, own_of, own_units, whole_of}
use Rattle.nv_laws.proofs.units.InWorld.{device-there, world-run}

-- it is done where the unit is left
pub event-done : (geometry : Geometry) (w : World) (number : ℕ) (guest : Guest) (lane tag : ℕ) (share : Share) (whole work : Work) (h : Held) (unit : ℕ)
    → IsHeld geometry w number guest lane tag share whole work h → list_any (λ k. k == unit) h.left ≡ true
    → step geometry (event.DevMove lane tag unit) w ≡ replied reply.Done (device_moved geometry.disk_blocks lane tag unit h w)
unfolding step
event-done geometry w number guest lane tag share whole work h unit it left =
    let there = device-there (slice_get w.device lane) tag h it.held in
    ap (λ (o : Option DeviceLane). for_one o w (λ d. for_held (slice_get d.held tag) w (λ x. device_move geometry.disk_blocks lane tag unit x w))) there.1
    ∙ ap (λ o. for_held o w (λ x. device_move geometry.disk_blocks lane tag unit x w)) there.2
    ∙ ap (λ b. cond b (replied reply.Done (device_moved geometry.disk_blocks lane tag unit h w)) (replied reply.Idle w)) left

-- host, disk and marks behind it
pub event-behind : (geometry : Geometry) (w : World) (lane tag : ℕ) (h : Held) (unit : ℕ)
    → whole_of (device_moved geometry.disk_blocks lane tag unit h w) (device_unit unit geometry.disk_blocks h w.host w.disk w.kept).differed
    ≡ device_unit unit geometry.disk_blocks h w.host w.disk w.kept
unfolding device_moved
event-behind geometry w lane tag h unit = refl

-- and the command
pub event-held : (geometry : Geometry) (w : World) (number : ℕ) (guest : Guest) (lane tag : ℕ) (share : Share) (whole work : Work) (h : Held) (unit : ℕ)
    → IsHeld geometry w number guest lane tag share whole work h
    → IsHeld geometry (device_moved geometry.disk_blocks lane tag unit h w) number guest lane tag share whole work
    (unit_gone unit (device_unit unit geometry.disk_blocks h w.host w.disk w.kept).differed h)
unfolding device_moved
event-held geometry w number guest lane tag share whole work h unit it =
    let there = device-there (slice_get w.device lane) tag h it.held in
    let d : DeviceLane = there.0 in
    let left = unit_gone unit (device_unit unit geometry.disk_blocks h w.host w.disk w.kept).differed h in
    let now = with_held tag (Some left) d in
    record {
      command = it.command;
      own = it.own;
      given = it.given;
      flies = it.flies;
      held =
          ap (λ o. held_in (slice_get (changed_at o lane (with_held tag (Some left)) w.device) lane) tag) there.1
          ∙ ap (λ o. held_in o tag) (slice_get-set w.device lane d now there.1)
          ∙ ap held_by (slice_get-set d.held tag (Some h) (Some left) there.2);
      goes = it.goes;
      part = it.part;
    }

-- ---- its steps

-- on its guest's private controller they are those of the units that it stands for
pub own-steps : (geometry : Geometry) (w : World) (number : ℕ) (guest : Guest) (lane tag : ℕ) (share : Share) (whole work : Work) (h : Held) (unit : ℕ)
    (it : IsHeld geometry w number guest lane tag share whole work h)
    → steps_of number guest w (event.DevMove lane tag unit) reply.Done
    ≡ map (MoveStep (name_of lane it.command.leader)) (numbers_behind share (unit ∷ []))
own-steps geometry w number guest lane tag share whole work h unit it =
    ap (λ o. cond (is_tag_of number o) (own_moves o lane unit) (others_moves (work_in o) guest.namespace)) it.flies
    ∙ ap (λ b. cond b (map (MoveStep (name_of lane it.command.leader)) (numbers_behind share (unit ∷ []))) (others_moves (work_of share.plan) guest.namespace))
    (eq-eqb it.command.guest number it.own)

-- and on another's those of a Flush, if it is one
pub others-steps : (geometry : Geometry) (w : World) (number : ℕ) (guest : Guest) (lane tag : ℕ) (share : Share) (whole work : Work) (h : Held)
    (unit other : ℕ) (guest_too : Guest) → IsHeld geometry w number guest lane tag share whole work h → other ≢ number
    → steps_of other guest_too w (event.DevMove lane tag unit) reply.Done ≡ others_moves (Some work) guest_too.namespace
others-steps geometry w number guest lane tag share whole work h unit other guest_too it differ =
    ap (λ o. cond (is_tag_of other o) (own_moves o lane unit) (others_moves (work_in o) guest_too.namespace)) it.flies
    ∙ ap (λ b. cond b (map (MoveStep (name_of lane it.command.leader)) (numbers_behind share (unit ∷ []))) (others_moves (work_of share.plan) guest_too.namespace))
    (ne_eqb it.command.guest other (λ same. differ (sym same ∙ it.own)))
    ∙ ap (λ o. others_moves o guest_too.namespace) it.part

-- a state in which the command of a name is at work
at_work-is : (name : ℕ) (t : Taken) (work : Work) (left : List ℕ) (differed : Bool) (p : Private) → p.bag name ≡ Some t → t.progress ≡ AtWork work left differed
    → at_work name t work left (own_of p differed) p ≡ p
at_work-is name t work left differed p there at =
    let whole : record t { progress = AtWork work left differed } ≡ t = ap (λ (g : Progress). record t { progress = g }) (sym at) in
    ap (λ (b : Bag). record p { bag = b }) (put-same p.bag name (Some (record t { progress = AtWork work left differed })) (there ∙ ap (λ (u : Taken). Some u) (sym whole)))

-- they are a run from there
pub run-from : (host_bytes : ℕ) (geometry : Geometry) (w : World) (number : ℕ) (guest : Guest) (lane tag : ℕ) (share : Share) (whole work : Work) (h : Held)
    (unit : ℕ) (shape : Shape) (name : ℕ) (t : Taken) (p : Private) (left : List ℕ) (differed : Bool) → IsLaidOut host_bytes (length w.lanes) geometry
    → IsConsistent geometry w → IsHeld geometry w number guest lane tag share whole work h → p.bag name ≡ Some t
    → t.progress ≡ AtWork whole left differed → All (λ k. list_any (λ n. n == k) left ≡ true) (numbers_behind share (unit ∷ []))
    → run_of shape (map (MoveStep name) (numbers_behind share (unit ∷ []))) p
    ≡ Some (record {
      state = at_work name t whole (left_without (numbers_behind share (unit ∷ [])) left) (units_moved (own_units whole share unit) whole (own_of p differed)) p;
      seen = [];
    })
run-from host_bytes geometry w number guest lane tag share whole work h unit shape name t p left differed laid fine it there at among =
    ap (run_of shape (map (MoveStep name) (numbers_behind share (unit ∷ [])))) (sym (at_work-is name t whole left differed p there at))
    ∙ world-run host_bytes geometry w laid fine number guest lane tag share whole work h it shape name t p unit left (own_of p differed) among
