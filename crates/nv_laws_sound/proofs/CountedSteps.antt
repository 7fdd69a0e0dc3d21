-- Each event, whatever it is, leaves each guest's controller counting that guest's commands.
use Rattle.std.proofs.Common.{ℕ, ◌+◌, ◌&&◌, ◌==◌, nat_le, length, slice_get, arith, refl, sym, leb-true}
use Rattle.std.specs.List.{list_any}
use Rattle.nv_entry.specs.StatusCode.{done_with}
use Rattle.nv_entry.specs.declared.status_code.StatusCode.TheVariants.{InternalError}
use Rattle.nv_mem.specs.GuestMap.{all_mapped}
use Rattle.nv_model.specs.Controller.{front}
use Rattle.nv_model.specs.Limits.{last_queue, part_size}
use Rattle.nv_model.specs.Memory.{image}
use Rattle.nv_model.specs.Private.{acted}
use Rattle.nv_model.specs.Queue.{is_empty}
use Rattle.nv_model.proofs.Endings.{and-true}
use Rattle.nv_model.proofs.TogetherAdmin.{admin-together}
use Rattle.nv_world_model.specs.declared.event.Event.{Event}
use Rattle.nv_world_model.specs.declared.event.Event.TheVariants as event
use Rattle.nv_world_model.specs.Geometry.{Geometry, regions_of, shape_of}
use Rattle.nv_world_model.specs.Plan.{plan_over}
use Rattle.nv_world_model.proofs.TagCounts.{tags_of_entry-some}
use Rattle.nv_world_model.specs.Seat.{owner_of, seat}
use Rattle.nv_world_model.specs.Step.{acted_by, acted_in, administered_in, device_fail, device_move, device_post, device_take, entry_at, is_io_queue, is_success}
use Rattle.nv_world_model.specs.Step.{list_at, post_all, reap, statuses_of, step, submit_by, take_from}
use Rattle.nv_world_model.specs.World.{World, group, tag_of}
use Rattle.nv_world_model.proofs.Seats.{owner_of-is, owner_of-number}
use Rattle.nv_laws_sound.specs.Consistent.{IsConsistent}
use Rattle.nv_laws_sound.specs.Counted.{IsCounted}
use Rattle.nv_laws_sound.specs.Kept.{IsKeptWorld}
use Rattle.nv_laws_sound.specs.LaidOut.{IsLaidOut}
use Rattle.nv_laws_sound.proofs.CountedActs.{act-counted, admin-counted}
use Rattle.nv_laws_sound.proofs.CountedEvents.{all-taken, answered-counted, ended-counted, front-found, kept-counted, left-posted, listed-counted}
use Rattle.nv_laws_sound.proofs.CountedEvents.{AreWhole, consistent-whole, kept-whole, moved-counted, post_all-counted, reaped-counted, submit-counted, took-counted}
use Rattle.nv_laws_sound.proofs.Folds.{group-distinct}
use Rattle.nv_laws_sound.proofs.Walks.{device-walk, either, ended-walk, guest-walk, held-walk, lane-walk, owner-walk, taken-walk}

module _ (host_bytes : ℕ) (geometry : Geometry) where
  step-whole : (e : Event) (w : World) → IsLaidOut host_bytes (length w.lanes) geometry → AreWhole geometry w → IsCounted geometry w
      → IsCounted geometry (step geometry e w).world
  unfolding step acted_in administered_in
  step-whole (event.Guest number a) w laid whole is =
      guest-walk (IsCounted geometry) w is (owner_of geometry w number) (λ o. acted_by (acted (shape_of o.given) a (seat geometry o w)) o w)
      (λ o found. act-counted geometry w o a (owner_of-is geometry w number o found) is)
  step-whole (event.Admin number) w laid whole is =
      guest-walk (IsCounted geometry) w is (owner_of geometry w number) (λ o. administered_in o w) (λ o found.
      (let owns = owner_of-is geometry w number o found in
      admin-counted geometry w o owns is _ (admin-together (shape_of o.given).mapped (shape_of o.given).blocks o.controller (image (regions_of o.given) w.host)
      (is.running o.number o.given o.controller owns.given owns.controller).together)))
  step-whole (event.Take number queue lane) w laid whole is =
      guest-walk (IsCounted geometry) w is (owner_of geometry w number) _ (λ o found.
      lane-walk (IsCounted geometry) w is (slice_get w.lanes lane) (λ l. take_from queue lane l o w) (λ l at.
      either (IsCounted geometry) w is (is_io_queue queue) _ _
      (λ io.
      (let owns = owner_of-is geometry w number o found in
      let given = laid.given o.number o.given owns.given in
      front-found geometry (front o.controller queue) w queue lane l o refl
      (λ addr. (let some = (tags_of_entry-some o.given.namespace (entry_at addr o w) given.some).0 in omega (arith, some)))
      owns is at (whole lane l at).many (leb-true 1 queue (and-true (nat_le 1 queue) (nat_le queue last_queue) io).0)))
      (λ out. is)))
  step-whole (event.List lane tag addr len) w laid whole is =
      taken-walk (IsCounted geometry) w is tag (tag_of w lane tag) _ (λ command reads at leads.
      owner-walk (IsCounted geometry) w is (owner_of geometry w command.guest) (λ o. list_at addr len lane tag command reads o w) (λ o found.
      either (IsCounted geometry) w is (all_mapped (regions_of o.given) addr len) _ _
      (λ there. either (IsCounted geometry) w is (nat_le 1 len && nat_le len part_size) _ _
      (λ fits. listed-counted geometry addr len lane tag command reads o w at is) (λ out. is)) (λ out. is)))
  step-whole (event.Submit lane tag) w laid whole is =
      taken-walk (IsCounted geometry) w is tag (tag_of w lane tag) _ (λ command reads at leads.
      owner-walk (IsCounted geometry) w is (owner_of geometry w command.guest) _ (λ o found.
      device-walk (IsCounted geometry) w is (slice_get w.device lane)
      (λ d. submit_by (plan_over o.given command.entry reads) geometry.mediator lane (group w lane tag) command o w) (λ d there.
      submit-counted geometry (plan_over o.given command.entry reads) w geometry.mediator lane (group w lane tag) command o
      (all-taken geometry w lane tag command reads whole at leads) (group-distinct w lane tag) is)))
  step-whole (event.GiveUp lane tag) w laid whole is =
      taken-walk (IsCounted geometry) w is tag (tag_of w lane tag) _ (λ command reads at leads.
      ended-counted geometry lane (group w lane tag) command (done_with InternalError) w
      (all-taken geometry w lane tag command reads whole at leads) (group-distinct w lane tag) is)
  step-whole (event.DevTake lane) w laid whole is =
      device-walk (IsCounted geometry) w is (slice_get w.device lane) (λ d. device_take geometry.mediator lane d w) (λ d there.
      either (IsCounted geometry) w is (is_empty d.head d.tail) _ _ (λ none. is) (λ some. took-counted geometry w lane _ is))
  step-whole (event.DevMove lane slot number) w laid whole is =
      device-walk (IsCounted geometry) w is (slice_get w.device lane) _ (λ d there.
      held-walk (IsCounted geometry) w is (slice_get d.held slot) (λ h. device_move geometry.disk_blocks lane slot number h w) (λ h held.
      either (IsCounted geometry) w is (list_any (λ k. k == number) h.left) _ _
      (λ left. moved-counted geometry w geometry.disk_blocks lane slot number h is) (λ none. is)))
  step-whole (event.DevPost lane slot) w laid whole is =
      device-walk (IsCounted geometry) w is (slice_get w.device lane) _ (λ d there.
      held-walk (IsCounted geometry) w is (slice_get d.held slot) (λ h. device_post h.left geometry.mediator lane slot h d w) (λ h held.
      left-posted geometry h.left w geometry.mediator lane slot h d is))
  step-whole (event.DevFail lane slot st) w laid whole is =
      device-walk (IsCounted geometry) w is (slice_get w.device lane) _ (λ d there.
      held-walk (IsCounted geometry) w is (slice_get d.held slot) (λ h. device_fail geometry.mediator lane slot st d w) (λ h held.
      either (IsCounted geometry) w is (is_success st) _ _ (λ good. is) (λ bad. answered-counted geometry w geometry.mediator lane slot st d is)))
  step-whole (event.Keep block) w laid whole is =
      either (IsCounted geometry) w is (nat_le (block + 1) geometry.disk_blocks) _ _ (λ there. kept-counted geometry w block is) (λ out. is)
  step-whole (event.Reap lane) w laid whole is =
      lane-walk (IsCounted geometry) w is (slice_get w.lanes lane) _ (λ l at.
      device-walk (IsCounted geometry) w is (slice_get w.device lane) (λ d. reap geometry lane l d w) (λ d there.
      either (IsCounted geometry) w is (is_empty l.head d.posted) _ _ (λ none. is) (λ some. reaped-counted geometry w lane _ l at is)))
  step-whole (event.Post lane tag) w laid whole is =
      ended-walk (IsCounted geometry) w is tag (tag_of w lane tag) _ (λ command st share at leads.
      owner-walk (IsCounted geometry) w is (owner_of geometry w command.guest)
      (λ o. post_all (statuses_of lane (group w lane tag) w) command geometry.mediator lane (group w lane tag) o w) (λ o found.
      post_all-counted geometry w lane tag command st share o whole is at leads (owner_of-is geometry w command.guest o found)
      (sym (owner_of-number geometry w command.guest o found)) (statuses_of lane (group w lane tag) w)))

  -- in a consistent world
  pub step-counted : (e : Event) (w : World) → IsLaidOut host_bytes (length w.lanes) geometry → IsConsistent geometry w → IsCounted geometry w
      → IsCounted geometry (step geometry e w).world
  step-counted e w laid fine is = step-whole e w laid (consistent-whole geometry w fine) is

  -- and in one that keeps no more than what the mediator's side keeps
  pub side-counted : (e : Event) (w : World) → IsLaidOut host_bytes (length w.lanes) geometry → IsKeptWorld geometry w → IsCounted geometry w
      → IsCounted geometry (step geometry e w).world
  side-counted e w laid is counted = step-whole e w laid (kept-whole geometry w is) counted
