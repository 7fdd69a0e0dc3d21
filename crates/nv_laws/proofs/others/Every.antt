-- Each event leaves all but its owner as it was, in a consistent world and behind any events since a set-up.
use Rattle.std.proofs.Common.{◌+◌, Bool, true, false, cond, nat_le, refl, sym, ap, eq-eqb, subst, ◌∙◌}
use Rattle.std.specs.Prelude.{◌≡◌, ℕ, List, None, Some, length, slice_get}
use Rattle.std.proofs.lemmas.List.{length-replicate}
use Rattle.nv_mem.specs.GuestMap.{IsSound}
use Rattle.nv_world_model.specs.declared.event.Event.{Event}
use Rattle.nv_world_model.specs.declared.event.Event.TheVariants as event
use Rattle.nv_model.specs.declared.reply.Reply.TheVariants as reply
use Rattle.nv_world_model.specs.Contained.{Contained, LeavesOthers, RaisesOne, owner}
use Rattle.nv_world_model.specs.Geometry.{Geometry, Guest}
use Rattle.nv_world_model.specs.SetUp.{SetUp, host_refusal_of}
use Rattle.nv_world_model.specs.Step.{kept_block, replay, replied, step}
use Rattle.nv_world_model.specs.World.{World, opening_lane, opening_world}
use Rattle.nv_world_model.proofs.Replies.{step-answers}
use Rattle.nv_laws_sound.specs.Consistent.{IsConsistent}
use Rattle.nv_laws_sound.specs.LaidOut.{IsLaidOut}
use Rattle.nv_laws_sound.proofs.LaidOuts.{host-laid-out}
use Rattle.nv_laws_sound.proofs.Openings.{opening-consistent}
use Rattle.nv_laws_sound.proofs.Steps.{replay-consistent, replay-lanes}
use Rattle.nv_laws.specs.Leaving.{Leaves}
use Rattle.nv_laws.proofs.others.DeviceEvents.{device_fails-leave, device_posts-leave, keeps-leave}
use Rattle.nv_laws.proofs.others.Events.{acts-leave, admins-leave}
use Rattle.nv_laws.proofs.others.HandedEvents.{submits-leave}
use Rattle.nv_laws.proofs.others.Leaving.{leaves-others}
use Rattle.nv_laws.proofs.others.RingEvents.{device_takes-leave, reaps-leave}
use Rattle.nv_laws.proofs.others.TagEvents.{give_ups-leave, lists-leave, posts-leave, takes-leave}
use Rattle.nv_laws.proofs.others.UnitEvents.{moves-leave}

module _ (host_bytes : ℕ) (geometry : Geometry) where
  pub each-leaves : (w : World) (e : Event) → IsLaidOut host_bytes (length w.lanes) geometry → IsConsistent geometry w
      → Leaves geometry (owner e w) w (step geometry e w).world
  each-leaves w (event.Guest number a) laid fine = acts-leave host_bytes geometry w laid fine.of_tags number a
  each-leaves w (event.Admin number) laid fine = admins-leave host_bytes geometry w laid fine.of_tags number
  each-leaves w (event.Take number queue lane) laid fine = takes-leave host_bytes geometry w laid fine.of_tags number queue lane
  each-leaves w (event.List lane tag addr len) laid fine = lists-leave host_bytes geometry w laid fine.of_tags lane tag addr len
  each-leaves w (event.Submit lane tag) laid fine = submits-leave host_bytes geometry w laid fine.of_tags fine.groups lane tag
  each-leaves w (event.GiveUp lane tag) laid fine = give_ups-leave host_bytes geometry w laid fine.of_tags lane tag fine.groups
  each-leaves w (event.DevTake lane) laid fine = device_takes-leave host_bytes geometry w laid fine.of_tags lane
  each-leaves w (event.DevMove lane slot number) laid fine = moves-leave host_bytes geometry w laid fine.of_tags lane slot number
  each-leaves w (event.DevPost lane slot) laid fine = device_posts-leave host_bytes geometry w laid fine.of_tags lane slot
  each-leaves w (event.DevFail lane slot st) laid fine = device_fails-leave host_bytes geometry w laid fine.of_tags lane slot st
  each-leaves w (event.Keep block) laid fine = keeps-leave host_bytes geometry w laid fine.of_tags block
  each-leaves w (event.Reap lane) laid fine = reaps-leave host_bytes geometry w laid fine.of_tags lane
  each-leaves w (event.Post lane tag) laid fine = posts-leave host_bytes geometry w laid fine.of_tags lane tag fine.groups

  pub each-leaves-others : (w : World) (e : Event) → IsLaidOut host_bytes (length w.lanes) geometry → IsConsistent geometry w
      → LeavesOthers geometry (owner e w) w (step geometry e w).world
  each-leaves-others w e laid fine =
      leaves-others host_bytes geometry _ laid (owner e w) w (step geometry e w).world refl fine.of_tags (each-leaves w e laid fine)

pub leaves-others-since : (s : SetUp) (host : ℕ → ℕ) (disk : ℕ → ℕ → ℕ) (events : List Event) (e : Event) → host_refusal_of s ≡ None
    → ((number : ℕ) (guest : Guest) → slice_get s.geometry.guests number ≡ Some guest → IsSound guest.memory_map)
    → (let w = replay s.geometry events (opening_world host disk s.geometry s.lanes) in LeavesOthers s.geometry (owner e w) w (step s.geometry e w).world)
unfolding opening_world
leaves-others-since s host disk events e none sound =
    let w : World = opening_world host disk s.geometry s.lanes in
    let laid = subst (λ n. IsLaidOut s.host_bytes n s.geometry) (sym (length-replicate s.lanes opening_lane)) (host-laid-out s none sound) in
    each-leaves-others s.host_bytes s.geometry (replay s.geometry events w) e
    (subst (λ n. IsLaidOut s.host_bytes n s.geometry) (sym (replay-lanes s.host_bytes s.geometry events w)) laid)
    (replay-consistent s.host_bytes s.geometry events w laid (opening-consistent host disk s.geometry s.lanes))

-- ---- events of nobody

-- one mark at most rises
raised-one : (geometry : Geometry) (w : World) (block : ℕ) (there : Bool)
    → RaisesOne block w (cond there (replied reply.Done (kept_block block w)) (replied reply.Idle w)).world
unfolding kept_block
raised-one geometry w block true =
    record {
      others = refl;
      marks = (λ at other. sym (ap (λ b. cond b true (w.kept at)) other));
      rises = (λ was. ap (λ b. cond b true (w.kept block)) (eq-eqb block block refl));
    }
raised-one geometry w block false = record { others = refl; marks = (λ at other. refl); rises = (λ was. was) }

pub keep-raises : (geometry : Geometry) (w : World) (block : ℕ) → RaisesOne block w (step geometry (event.Keep block) w).world
unfolding step
keep-raises geometry w block = raised-one geometry w block (nat_le (block + 1) geometry.disk_blocks)

pub nobodys-contained : (host_bytes : ℕ) (geometry : Geometry) (w : World) (e : Event) → IsLaidOut host_bytes (length w.lanes) geometry
    → IsConsistent geometry w → owner e w ≡ None → Contained geometry e w
nobodys-contained host_bytes geometry w e laid fine nobody =
    record {
      others = each-leaves-others host_bytes geometry w e laid fine;
      own = (λ number guest given mine. (let bad : None ≡ Some number = sym nobody ∙ mine in cc));
      keep = (λ block is. subst (λ x. RaisesOne block w (step geometry x w).world) (sym is) (keep-raises geometry w block));
      dull = (step-answers geometry e w).dull;
    }
