-- A tag that an event is not about: it stands as it stood, where its pages and its slot have the same bytes, and its slot still waits.
use Rattle.std.proofs.Common.{◌≡◌, ℕ, ◌+◌, ◌%◌, true, List, Option, Some, None, arith, refl, sym, ap, ◌∙◌, eq-eqb}
use Rattle.nv_entry.specs.Completion.{cid_of as completed_cid, sqid_of}
use Rattle.nv_model.specs.Limits.{page}
use Rattle.nv_model.specs.Queue.{cqe_size}
use Rattle.nv_world_model.specs.Area.{bounce_page, completion_slot, list_bytes, list_page, prps_of, submission_slot}
use Rattle.nv_world_model.specs.Contained.{is_answered_at, is_queued_at, tag_stands}
use Rattle.nv_world_model.specs.Device.{DeviceLane, Held}
use Rattle.nv_world_model.specs.Geometry.{Geometry, Guest}
use Rattle.nv_world_model.specs.Share.{Share}
use Rattle.nv_world_model.specs.ShareArea.{share_entry}
use Rattle.nv_world_model.specs.World.{Answered, Command, Ended, Flying, Free, InDevice, Queued, Standing, Tag, Taken}
use Rattle.nv_laws_sound.specs.Area.{SameBetween, ranges_of}
use Rattle.nv_laws_sound.specs.Consistent.{HasPages, IsBetween, IsPlanned, IsTag, StandsThere}
use Rattle.nv_laws_sound.proofs.PlanSizes.{entry-length, list-short, ranges-short}
use Rattle.nv_laws_sound.proofs.Shows.{bytes_from-between, shows-between}

-- what of a tag stays as it is
pub record IsUndisturbed (mediator lane tag : ℕ) (host other : ℕ → ℕ) (head now : ℕ) (d e : DeviceLane) (t : Tag) : Type 0 where
  pub pages : SameBetween host other (list_page mediator lane tag) (list_page mediator lane (tag + 1))
  pub queued : (at : ℕ) → tag_stands (is_queued_at at) t ≡ true → IsBetween d.head d.tail at
      → IsBetween e.head e.tail at × SameBetween host other (submission_slot mediator lane at) (submission_slot mediator lane (at + 1))
  pub answered : (at : ℕ) → tag_stands (is_answered_at at) t ≡ true → IsBetween head d.posted at
      → IsBetween now e.posted at × SameBetween host other (completion_slot mediator lane at) (completion_slot mediator lane (at + 1))

module _ (geometry : Geometry) (lane tag : ℕ) (host other : ℕ → ℕ) (aligned : geometry.mediator % page ≡ 0) where
  -- its pages
  pub pages-kept : (guest : Guest) (entry : List ℕ) (share : Share) → IsPlanned guest entry share
      → SameBetween host other (list_page geometry.mediator lane tag) (list_page geometry.mediator lane (tag + 1))
      → HasPages geometry guest share lane tag host → HasPages geometry guest share lane tag other
  pages-kept guest entry share is same has =
      let list = list_page geometry.mediator lane tag in
      let bounce = bounce_page geometry.mediator lane tag in
      let aligned_bounce : bounce % 4 ≡ 0 = omega (arith, aligned) in
      let short = list-short guest entry share list bounce aligned_bounce is in
      let few = ranges-short guest entry share is in
      record {
        list = shows-between host other list (list_page geometry.mediator lane (tag + 1)) list (list_bytes (prps_of share.plan guest list bounce)) same (omega arith) (omega (arith, short)) has.list;
        ranges = shows-between host other list (list_page geometry.mediator lane (tag + 1)) bounce (ranges_of share.plan guest) same (omega arith) (omega (arith, few)) has.ranges;
      }

  stands-kept : (standing : Standing) (head now : ℕ) (d e : DeviceLane) (held : Option Held) (command : Command) (guest : Guest) (share : Share)
      → IsPlanned guest command.entry share
      → IsUndisturbed geometry.mediator lane tag host other head now d e (Flying command share standing)
      → StandsThere standing geometry guest command.entry share lane tag host head d held
      → StandsThere standing geometry guest command.entry share lane tag other now e held
  stands-kept (Queued at) head now d e held command guest share is kept there =
      let stays = kept.queued at (eq-eqb at at refl) there.0.slot in
      let sized = entry-length share guest command.entry geometry.mediator lane tag in (
        record {
          slot = stays.0;
          shown =
              shows-between host other (submission_slot geometry.mediator lane at) (submission_slot geometry.mediator lane (at + 1))
              (submission_slot geometry.mediator lane at) (share_entry share guest.namespace guest command.entry geometry.mediator lane tag) stays.1 (omega arith) (omega (arith, sized)) there.0.shown;
          pages = pages-kept guest command.entry share is kept.pages there.0.pages;
        },
        there.1,
      )
  stands-kept InDevice head now d e None command guest share is kept there = there
  stands-kept InDevice head now d e (Some h) command guest share is kept there =
      record {
        entry_is = there.entry_is;
        places = there.places;
        left = there.left;
        pages = pages-kept guest command.entry share is kept.pages there.pages;
      }
  stands-kept (Answered at) head now d e held command guest share is kept there =
      let stays = kept.answered at (eq-eqb at at refl) there.0.slot in
      let same = bytes_from-between host other (completion_slot geometry.mediator lane at) (completion_slot geometry.mediator lane (at + 1))
      (completion_slot geometry.mediator lane at) cqe_size stays.1 (omega arith) (omega arith) in
      (record { slot = stays.0; identifier = sym (ap completed_cid same) ∙ there.0.identifier; queue = sym (ap sqid_of same) ∙ there.0.queue }, there.1)

  -- the tag
  pub tag-kept : (head now : ℕ) (d e : DeviceLane) (held : Option Held) (t : Tag)
      → IsUndisturbed geometry.mediator lane tag host other head now d e t
      → IsTag geometry lane tag host head d held t → IsTag geometry lane tag other now e held t
  tag-kept head now d e held Free kept is = is
  tag-kept head now d e held (Taken command reads) kept is = is
  tag-kept head now d e held (Flying command share standing) kept is =
      record {
        guest = is.guest;
        is = is.is;
        planned = is.planned;
        some = is.some;
        stands = stands-kept standing head now d e held command is.guest share is.planned kept is.stands;
      }
  tag-kept head now d e held (Ended command st share) kept is = is
