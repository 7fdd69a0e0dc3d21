-- The private controller of a guest goes along where a unit of the guest's own command is moved, in whichever tag.
use Rattle.std.proofs.Common.{◌≡◌, ℕ, inl, inr, true, false, ◌==◌, slice_get, Some, arith, refl, sym, ap, ◌∙◌}
use Rattle.std.specs.List.{list_any}
use Rattle.nv_model.specs.Judge.{Work, is_read}
use Rattle.nv_model.specs.Private.{Private}
use Rattle.nv_model.specs.declared.reply.Reply.TheVariants as reply
use Rattle.nv_world_model.specs.declared.event.Event.TheVariants as event
use Rattle.nv_world_model.specs.Contained.{guest_of_one, owner}
use Rattle.nv_world_model.specs.Device.{DeviceLane, Held}
use Rattle.nv_world_model.specs.Geometry.{Geometry, Guest}
use Rattle.nv_world_model.specs.Step.{device_move, device_moved, replied, step}
use Rattle.nv_world_model.specs.World.{Flying, InDevice, Lane, Tag, World, tag_in}
use Rattle.nv_laws_sound.proofs.Lists.{slice_get-below, slice_get-there, some-same}
use Rattle.nv_laws_sound.proofs.MoveEvents.{held-flies}
use Rattle.nv_laws_sound.proofs.PlanSizes.{own_work}
use Rattle.nv_laws.specs.Following.{GoesAlong, IsDisciplinedAt, IsReached}
use Rattle.nv_laws.specs.Related.{Related}
use Rattle.nv_laws.proofs.related.Goings.{dull-goes}
use Rattle.nv_laws.proofs.related.Ways.{device-way, either-way, held-way}
use Rattle.nv_laws.proofs.related.Within.{planned-own, planned-work}
use Rattle.nv_laws.proofs.units.Moving.{read-form}
use Rattle.nv_laws.proofs.headline.MoveOthers.{no_read-goes}
use Rattle.nv_laws.proofs.headline.MovePlans.{moves-bytes, plan-kind}
use Rattle.nv_laws.proofs.headline.MoveReads.{bounced-goes, direct-goes}
use Rattle.nv_laws.proofs.headline.Moves.{IsMove}

module _ (host_bytes : ℕ) (geometry : Geometry) (number : ℕ) (guest : Guest) (given : slice_get geometry.guests number ≡ Some guest)
    (w : World) (reached : IsReached host_bytes geometry w) (p : Private) (related : Related geometry number guest w p) (lane tag unit : ℕ)
    (disciplined : IsDisciplinedAt geometry number guest (event.DevMove lane tag unit) w) (own : owner (event.DevMove lane tag unit) w ≡ Some number) where
  abbrev Goes : World → Type 0
  Goes z = GoesAlong geometry number guest (event.DevMove lane tag unit) w p (replied reply.Done z)

  one-goes : (l : Lane) (d : DeviceLane) (h : Held) (t : Tag) → slice_get w.lanes lane ≡ Some l → slice_get w.device lane ≡ Some d → slice_get l.tags tag ≡ Some t
      → slice_get d.held tag ≡ Some (Some h) → list_any (λ k. k == unit) h.left ≡ true → Goes (device_moved geometry.disk_blocks lane tag unit h w)
  one-goes l d h t at there found held left =
      let holds = held-flies geometry lane tag w.host l.head d h t ((reached.consistent.of_tags.lanes lane l d at there).tags tag t (Some h) found held) in
      let command = holds.command in
      let share = holds.share in
      let whole = holds.planned.work in
      let work : Work = own_work holds.guest command.entry share holds.planned in
      let flies : slice_get l.tags tag ≡ Some (Flying command share InDevice) = found ∙ ap (λ x. Some x) holds.flies in
      let m : IsMove host_bytes geometry number guest w p lane tag unit = record {
        given = given;
        reached = reached;
        related = related;
        l = l;
        d = d;
        h = h;
        command = command;
        share = share;
        whole = whole;
        work = work;
        at = at;
        there = there;
        found = flies;
        under = held;
        whose = some-same command.guest number (sym (ap guest_of_one (ap (λ o. tag_in o tag) at ∙ flies)) ∙ own);
        goes = planned-work holds.guest command.entry share holds.planned;
        part = planned-own holds.guest command.entry share holds.planned;
        left = left;
      } in
      (elim (is_read whole.opcode) as (λ b. is_read whole.opcode ≡ b → Goes (device_moved geometry.disk_blocks lane tag unit h w)) [
        | false ↦ λ other. no_read-goes host_bytes geometry number guest w p lane tag unit m disciplined.before other
        | true ↦ λ reads.
            elim (plan-kind share.plan work (planned-own holds.guest command.entry share holds.planned)) [
              | inl none ↦ absurd (moves-bytes holds.guest command.entry share holds.planned work true (read-form whole.opcode reads) none)
              | inr some ↦ elim some [
                | inl direct ↦ direct-goes host_bytes geometry number guest w p lane tag unit m disciplined.before reads direct
                | inr bounced ↦ bounced-goes host_bytes geometry number guest w p lane tag unit m disciplined.before reads bounced
              ]
            ]
      ]) refl

  pub moves-go : GoesAlong geometry number guest (event.DevMove lane tag unit) w p (step geometry (event.DevMove lane tag unit) w)
  unfolding step
  moves-go =
      let dull = dull-goes geometry number guest (event.DevMove lane tag unit) w p refl related in
      let P = GoesAlong geometry number guest (event.DevMove lane tag unit) w p in
      device-way P w dull (slice_get w.device lane) _ (λ d there.
      held-way P w dull (slice_get d.held tag) (λ h. device_move geometry.disk_blocks lane tag unit h w) (λ h held.
      either-way P w dull (list_any (λ k. k == unit) h.left) _ _
      (λ left.
      (let among = slice_get-below w.device lane d there in
      let sides = reached.consistent.of_tags.sides in
      let l = slice_get-there w.lanes lane (omega (arith, among, sides)) in
      let before = reached.consistent.of_tags.lanes lane l.0 d l.1 there in
      let tags = before.positions.tags in
      let sized = before.positions.held in
      let under = slice_get-below d.held tag (Some h) held in
      let t = slice_get-there l.0.tags tag (omega (arith, tags, sized, under)) in
      one-goes l.0 d h t.0 l.1 there t.1 held left))
      (λ gone. dull reply.Idle refl)))
