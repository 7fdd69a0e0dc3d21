-- What is done in a guest's seat, in the world and on its private controller alike, leaves one standing for the other, where it leaves alone what the
-- guest's commands name.
use Rattle.std.proofs.Common.{◌≡◌, ℕ, ◌<◌, ◌≤◌, true, List, length, slice_get, Option, Some, None, arith, refl, sym, ◌∙◌}
use mathlib.Core.Path.{fun_ext}
use Rattle.nv_mem.proofs.Images.{guest_of-host}
use Rattle.nv_mem.specs.GuestMap.{guest_of, host_of, mapped}
use Rattle.nv_model.specs.Controller.{Controller}
use Rattle.nv_model.specs.Memory.{byte_at_host, image}
use Rattle.nv_model.specs.Private.{Private}
use Rattle.nv_world_model.specs.Area.{bounce_page, lane_start}
use Rattle.nv_world_model.specs.Device.{Held}
use Rattle.nv_world_model.specs.Geometry.{Geometry, Guest, regions_of}
use Rattle.nv_world_model.specs.View.{own_held, own_tag}
use Rattle.nv_world_model.specs.World.{Tag, World, tag_of}
use Rattle.nv_laws_sound.specs.Consistent.{IsConsistent}
use Rattle.nv_laws_sound.specs.LaidOut.{IsLaidOut}
use Rattle.nv_laws.specs.Leaving.{IsShownAt}
use Rattle.nv_laws.proofs.others.Leaving.{bytes-in-lane}
use Rattle.nv_laws.specs.Related.{IsTagRelated, NoneHides, Related}
use Rattle.nv_laws.proofs.related.Undisturbed.{IsTagUntouched, undisturbed}
use Rattle.nv_laws.proofs.related.Views.{AreTagsLeft, device_of, members-left, own-there, pages-left, status_in, statuses-left}
use Rattle.nv_laws.proofs.related.Within.{there-fit}

-- the world with another host and other controllers
abbrev pub seated : World → (host : ℕ → ℕ) → List Controller → World
seated w host controllers = record w { host = host; controllers = controllers }

module _ (host_bytes : ℕ) (geometry : Geometry) (number : ℕ) (guest : Guest) (given : slice_get geometry.guests number ≡ Some guest)
    (w : World) (laid : IsLaidOut host_bytes (length w.lanes) geometry) (fine : IsConsistent geometry w) (host : ℕ → ℕ) (controllers : List Controller)
    (bytes : (at : ℕ) → guest_of (regions_of guest) at ≡ None → host at ≡ w.host at) where
  -- the mediator's area is no guest's
  pub area-left : (addr : ℕ) → IsShownAt number geometry w addr → w.host addr ≡ host addr
  area-left addr s =
      let lies = bytes-in-lane geometry w s.lane s.tag addr s.t fine.of_tags s.there s.bytes in
      let below = lies.below in
      let low = lies.low in
      let high = lies.high in
      sym (bytes addr (laid.outside number guest addr given (omega (arith, low)) (omega (arith, high, below))))

  pub tags-left : AreTagsLeft number geometry w (seated w host controllers)
  tags-left = record { tags = (λ lane tag. refl); held = (λ lane tag. refl); area = area-left }

  module _ (p : Private) (memory : ℕ → ℕ) (c : Controller) (related : Related geometry number guest w p)
      (untouched : (lane tag : ℕ) (t : Tag) → own_tag number (tag_of w lane tag) ≡ Some t → IsTagUntouched t guest w.host host p.memory memory) where
    tag-seated : (lane tag : ℕ) (o : Option Tag) (held : Option Held) → own_tag number (tag_of w lane tag) ≡ o
        → IsTagRelated o guest held (status_in geometry w lane) (bounce_page geometry.mediator lane tag) w.host p.memory
        → IsTagRelated o guest held (status_in geometry (seated w host controllers) lane) (bounce_page geometry.mediator lane tag) host memory
    tag-seated lane tag None held own was = tt
    tag-seated lane tag (Some t) held own was =
        undisturbed guest (bounce_page geometry.mediator lane tag) w.host host p.memory memory
        (pages-left geometry number w (seated w host controllers) tags-left lane tag t own) (status_in geometry w lane) (status_in geometry (seated w host controllers) lane) t held
        (λ at stands. statuses-left geometry number w (seated w host controllers) tags-left lane tag at t own stands)
        (there-fit geometry w lane tag t fine.of_tags (own-there number (tag_of w lane tag) t own).0) (untouched lane tag t own) was

    pub seat-related : slice_get controllers number ≡ Some c
        → ((addr : ℕ) → mapped (regions_of guest) addr ≡ true → NoneHides number w addr → memory addr ≡ image (regions_of guest) host addr)
        → Related geometry number guest (seated w host controllers) (record p { memory = memory; controller = c })
    seat-related controller same =
        record {
          controller = controller;
          blocks = related.blocks;
          marks = related.marks;
          memory = same;
          bag = (λ name. related.bag name ∙ members-left geometry number w (seated w host controllers) tags-left fine.groups fine.groups name);
          tags = (λ lane tag.
              tag-seated lane tag (own_tag number (tag_of w lane tag)) (own_held number (tag_of w lane tag) (device_of w lane tag)) refl (related.tags lane tag));
        }

-- ---- the mediator's area

-- where bytes of the area alone change, the guest's memory is as it was
pub image-area : (host_bytes lanes : ℕ) (geometry : Geometry) (number : ℕ) (guest : Guest) → IsLaidOut host_bytes lanes geometry
    → slice_get geometry.guests number ≡ Some guest → (host other : ℕ → ℕ)
    → ((at : ℕ) → (geometry.mediator ≤ at → at < lane_start geometry.mediator lanes → ⊥) → host at ≡ other at)
    → image (regions_of guest) host ≡ image (regions_of guest) other
unfolding image
image-area host_bytes lanes geometry number guest laid given host other same =
    fun_ext (λ addr. by_host (host_of (regions_of guest) addr) addr refl)
  where
    by_host : (found : Option ℕ) (addr : ℕ) → host_of (regions_of guest) addr ≡ found → byte_at_host host found ≡ byte_at_host other found
    by_host None addr is = refl
    by_host (Some at) addr is =
        same at
        (λ low high.
        (let there = guest_of-host (regions_of guest) addr at (laid.given number guest given).sound.apart is in
        let bad : Some addr ≡ None = sym there ∙ laid.outside number guest at given low high in
        cc))
