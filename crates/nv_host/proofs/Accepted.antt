-- What a set-up that is not refused comes to. Nothing else here looks into that.
use Rattle.std.proofs.Common.{◌≡◌, ℕ, ◌<◌, ◌≤◌, List, slice_get, Some, arith}
use Rattle.nv_core.specs.Front.{IsLive}
use Rattle.nv_laws_sound.specs.Side.{Side}
use Rattle.nv_host.specs.Served.{IsAccepted}
use Rattle.nv_laws_front.proofs.Reached.{reached-live, reached-promised}
use Rattle.nv_laws_front.specs.Reached.{IsReached}
use Rattle.nv_laws_sound.proofs.LaidOuts.{all-one, host-accepted, host-laid-out, limit-fits, sizes-of}
use Rattle.nv_laws_sound.specs.LaidOut.{IsLaidOut}
use Rattle.nv_mediator.proofs.Namespaces.{guest-namespace}
use Rattle.nv_mediator.specs.Hosted.{MayBeGiven}
use Rattle.nv_mem.specs.GuestMap.{IsSound}
use Rattle.nv_world_model.specs.Geometry.{Guest}
use Rattle.nv_world_model.specs.Headline.{Headline}
use Rattle.nv_world_model.specs.SetUp.{SetUp, guest_fits, host_limits, most_lanes}
use Rattle.nv_world_model.specs.World.{World}
use Rattle.nv_world_model.specs.declared.logged.Logged.{Logged}

module _ (s : SetUp) (is : IsAccepted s) where
  -- at most eight lanes
  pub few-lanes : s.lanes ≤ most_lanes
  few-lanes = (sizes-of host_limits s (host-accepted s is).sizes).few_lanes

  pub lanes-small : s.lanes < 256
  lanes-small = let few = few-lanes in omega (arith, few)

  -- what each guest is to have may be given to it
  pub may-have : (number : ℕ) (guest : Guest) → slice_get s.geometry.guests number ≡ Some guest → MayBeGiven guest
  may-have number guest at =
      let sizes = sizes-of host_limits s (host-accepted s is).sizes in
      let fits = all-one (guest_fits s) s.geometry.guests number guest sizes.guests at in
      let limit = limit-fits s guest fits in
      record { blocks = guest-namespace s guest fits sizes.few_blocks; limit = record { some = limit.0; most = limit.1 } }

  module _ (sound : (number : ℕ) (guest : Guest) → slice_get s.geometry.guests number ≡ Some guest → IsSound guest.memory_map) where
    -- guests and area lie apart
    pub lies-out : IsLaidOut s.host_bytes s.lanes s.geometry
    lies-out = host-laid-out s is sound

    -- a world that is reached is as events leave it, and keeps the promise
    pub leads-live : (first : World) (side : Side) (memory : List ℕ) (log : List Logged) (z : World) → IsReached s first side memory log z
        → IsLive s.geometry z
    leads-live first side memory log z so = reached-live s first side memory log z is sound so

    pub leads-promised : (first : World) (side : Side) (memory : List ℕ) (log : List Logged) (z : World) → IsReached s first side memory log z
        → Headline s.geometry first log z
    leads-promised first side memory log z so = reached-promised s first side memory log z is sound so
