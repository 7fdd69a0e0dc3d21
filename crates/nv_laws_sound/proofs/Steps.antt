-- Each event, and each list of events, leads from a consistent world to one.
use Rattle.std.proofs.Common.{◌≡◌, ℕ, List, [], ◌∷◌, length, refl, sym, ◌∙◌, subst}
use Rattle.nv_world_model.specs.declared.event.Event.{Event}
use Rattle.nv_world_model.specs.declared.event.Event.TheVariants as event
use Rattle.nv_world_model.specs.Geometry.{Geometry}
use Rattle.nv_world_model.specs.Step.{replay, step}
use Rattle.nv_world_model.specs.World.{World}
use Rattle.nv_laws_sound.specs.Consistent.{IsConsistent, IsConsistentOfTags}
use Rattle.nv_laws_sound.specs.LaidOut.{IsLaidOut}
use Rattle.nv_laws_sound.proofs.AnswerEvents.{device_fails-consistent, device_posts-consistent}
use Rattle.nv_laws_sound.proofs.GroupEvents.{acts-groups, admins-groups, device_fails-groups, device_posts-groups, device_takes-groups, keeps-groups}
use Rattle.nv_laws_sound.proofs.GroupEvents.{lists-groups, moves-groups, posts-groups, reaps-groups}
use Rattle.nv_laws_sound.proofs.GroupsKept.{HasGroups}
use Rattle.nv_laws_sound.proofs.GuestEvents.{acts-consistent, admins-consistent}
use Rattle.nv_laws_sound.proofs.ManyLanes.{lanes-kept}
use Rattle.nv_laws_sound.proofs.MoveEvents.{moves-consistent}
use Rattle.nv_laws_sound.proofs.ReapEvents.{reaps-consistent}
use Rattle.nv_laws_sound.proofs.Submits.{give_ups-kept, submits-kept}
use Rattle.nv_laws_sound.proofs.TagEvents.{keeps-consistent, lists-consistent, posts-consistent}
use Rattle.nv_laws_sound.proofs.TakenEvents.{device_takes-consistent}
use Rattle.nv_laws_sound.proofs.Takes.{takes-kept}

-- tag by tag, and each command's tags together
pub joined : (geometry : Geometry) (z : World) → IsConsistentOfTags geometry z → HasGroups geometry z.lanes → IsConsistent geometry z
joined geometry z is are = record { of_tags = is; groups = are }

module _ (host_bytes : ℕ) (geometry : Geometry) where
  -- behind each event
  pub step-consistent : (e : Event) (w : World) → IsLaidOut host_bytes (length w.lanes) geometry → IsConsistent geometry w
      → IsConsistent geometry (step geometry e w).world
  step-consistent (event.Guest number a) w laid is =
      joined geometry _ (acts-consistent host_bytes geometry w number a laid is.of_tags) (acts-groups geometry w is.groups number a)
  step-consistent (event.Admin number) w laid is =
      joined geometry _ (admins-consistent host_bytes geometry w number laid is.of_tags) (admins-groups geometry w is.groups number)
  step-consistent (event.Take number queue lane) w laid is =
      let both = takes-kept host_bytes geometry w number queue lane laid (is.of_tags, is.groups) in joined geometry _ both.0 both.1
  step-consistent (event.List lane tag addr len) w laid is =
      joined geometry _ (lists-consistent geometry w lane tag addr len laid.pages is.of_tags) (lists-groups geometry w is.groups lane tag addr len)
  step-consistent (event.Submit lane tag) w laid is =
      let both = submits-kept host_bytes geometry w lane tag laid (is.of_tags, is.groups) in joined geometry _ both.0 both.1
  step-consistent (event.GiveUp lane tag) w laid is =
      let both = give_ups-kept host_bytes geometry w lane tag laid (is.of_tags, is.groups) in joined geometry _ both.0 both.1
  step-consistent (event.DevTake lane) w laid is =
      joined geometry _ (device_takes-consistent host_bytes geometry w lane laid is.of_tags) (device_takes-groups geometry w is.groups lane)
  step-consistent (event.DevMove lane slot number) w laid is =
      joined geometry _ (moves-consistent host_bytes geometry w lane slot number laid is.of_tags) (moves-groups geometry w is.groups lane slot number)
  step-consistent (event.DevPost lane slot) w laid is =
      joined geometry _ (device_posts-consistent host_bytes geometry w lane slot laid is.of_tags) (device_posts-groups geometry w is.groups lane slot)
  step-consistent (event.DevFail lane slot st) w laid is =
      joined geometry _ (device_fails-consistent host_bytes geometry w lane slot st laid is.of_tags) (device_fails-groups geometry w is.groups lane slot st)
  step-consistent (event.Keep block) w laid is =
      joined geometry _ (keeps-consistent geometry w block is.of_tags) (keeps-groups geometry w is.groups block)
  step-consistent (event.Reap lane) w laid is =
      joined geometry _ (reaps-consistent geometry w lane laid.pages is.of_tags) (reaps-groups geometry w is.groups lane)
  step-consistent (event.Post lane tag) w laid is =
      joined geometry _ (posts-consistent host_bytes geometry w lane tag laid is.of_tags) (posts-groups host_bytes geometry w lane tag laid is.of_tags is.groups)

  -- behind any events
  pub replay-consistent : (events : List Event) (w : World) → IsLaidOut host_bytes (length w.lanes) geometry → IsConsistent geometry w
      → IsConsistent geometry (replay geometry events w)
  unfolding replay
  replay-consistent [] w laid is = is
  replay-consistent (e ∷ events) w laid is =
      replay-consistent events (step geometry e w).world
      (subst (λ n. IsLaidOut host_bytes n geometry) (sym (lanes-kept geometry w e)) laid) (step-consistent e w laid is)

  pub replay-lanes : (events : List Event) (w : World) → length (replay geometry events w).lanes ≡ length w.lanes
  unfolding replay
  replay-lanes [] w = refl
  replay-lanes (e ∷ events) w = replay-lanes events (step geometry e w).world ∙ lanes-kept geometry w e
