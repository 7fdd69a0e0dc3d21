-- Worlds of which one lane, or one guest's memory and controller, is changed.
use Rattle.std.proofs.Common.{◌≡◌, ℕ, ◌+◌, ◌%◌, ◌<◌, false, ◌==◌, length, set, slice_get, Some, arith, sym, ◌∙◌, subst}
use Rattle.std.proofs.lemmas.Bool.{eqb-false}
use Rattle.nv_mem.specs.GuestMap.{mapped}
use Rattle.nv_model.specs.Controller.{Controller}
use Rattle.nv_model.specs.Laws.{QueuesInPlace}
use Rattle.nv_model.specs.Limits.{page}
use Rattle.nv_model.specs.Memory.{put_image}
use Rattle.nv_model.proofs.PutImages.{put_image-elsewhere}
use Rattle.nv_world_model.specs.Area.{completion_slot, list_page, submission_slot, tag_count}
use Rattle.nv_world_model.specs.Device.{DeviceLane}
use Rattle.nv_world_model.specs.Geometry.{Geometry, Guest, regions_of}
use Rattle.nv_world_model.specs.World.{Lane, Tag, World, with_controller, with_host}
use Rattle.nv_laws_sound.specs.Area.{SameInLane}
use Rattle.nv_laws_sound.specs.Consistent.{IsConsistentOfTags, IsLane}
use Rattle.nv_laws_sound.specs.LaidOut.{IsLaidOut}
use Rattle.nv_laws_sound.proofs.Lists.{IsThere, Put, Was, length-set, set-there, slice_get-below, some-same}
use Rattle.nv_laws_sound.proofs.Shows.{same-part}
use Rattle.nv_laws_sound.proofs.TagsKept.{IsUndisturbed, tag-kept}

-- ---- a lane whose bytes are the same

-- a tag is undisturbed where all bytes of its lane, and all positions, are the same
pub undisturbed-same : (mediator lane tag : ℕ) (host other : ℕ → ℕ) (head : ℕ) (d : DeviceLane) (t : Tag) → tag < tag_count
    → SameInLane host other mediator lane → IsUndisturbed mediator lane tag host other head head d d t
undisturbed-same mediator lane tag host other head d t below same =
    record {
      pages = same-part host other _ _ (list_page mediator lane tag) (list_page mediator lane (tag + 1)) same (omega arith) (omega arith);
      queued = (λ at stands is.
          (is, (let slot = is.slot in same-part host other _ _ (submission_slot mediator lane at) (submission_slot mediator lane (at + 1)) same (omega arith) (omega arith))));
      answered = (λ at stands is.
          (is, (let slot = is.slot in same-part host other _ _ (completion_slot mediator lane at) (completion_slot mediator lane (at + 1)) same (omega arith) (omega arith))));
    }

pub lane-same : (geometry : Geometry) (lane : ℕ) (host other : ℕ → ℕ) (l : Lane) (d : DeviceLane) → geometry.mediator % page ≡ 0
    → SameInLane host other geometry.mediator lane → IsLane geometry lane host l d → IsLane geometry lane other l d
lane-same geometry lane host other l d aligned same is =
    let sized = is.positions.tags in
    record {
      positions = is.positions;
      tags = (λ tag t held at there.
          (let below = slice_get-below l.tags tag t at in
          tag-kept geometry lane tag host other aligned l.head l.head d d held t
          (undisturbed-same geometry.mediator lane tag host other l.head d t (omega (arith, below, sized)) same) (is.tags tag t held at there)));
      queued = is.queued;
      answered = is.answered;
      queued_count = is.queued_count;
      answered_count = is.answered_count;
    }

-- ---- a guest's memory and controller

-- what is put back to a guest's memory changes no byte of a lane
pub put_image-area : (host_bytes lanes : ℕ) (geometry : Geometry) (number : ℕ) (guest : Guest) (memory host : ℕ → ℕ) (lane : ℕ)
    → IsLaidOut host_bytes lanes geometry → slice_get geometry.guests number ≡ Some guest → lane < lanes
    → SameInLane host (put_image (regions_of guest) memory host) geometry.mediator lane
put_image-area host_bytes lanes geometry number guest memory host lane laid given below at low high =
    sym (put_image-elsewhere (regions_of guest) memory host at (laid.outside number guest at given (omega arith) (omega (arith, below))))

-- the host changes, and no byte of any lane does
pub host-consistent : (geometry : Geometry) (w : World) (other : ℕ → ℕ) → geometry.mediator % page ≡ 0
    → ((lane : ℕ) → lane < length w.lanes → SameInLane w.host other geometry.mediator lane)
    → IsConsistentOfTags geometry w → IsConsistentOfTags geometry (with_host other w)
host-consistent geometry w other aligned same is =
    record {
      sides = is.sides;
      controllers = is.controllers;
      lanes = (λ lane l d at there.
          lane-same geometry lane w.host other l d aligned (same lane (slice_get-below w.lanes lane l at)) (is.lanes lane l d at there));
      queues = is.queues;
    }

-- each controller's queues are in place behind a change of one
queues-put : (geometry : Geometry) (w : World) (number : ℕ) (guest : Guest) (c : Controller)
    → slice_get geometry.guests number ≡ Some guest → QueuesInPlace (mapped (regions_of guest)) c → IsConsistentOfTags geometry w
    → (other : ℕ) (g : Guest) (x : Controller) → slice_get geometry.guests other ≡ Some g → IsThere w.controllers number c other x
    → QueuesInPlace (mapped (regions_of g)) x
queues-put geometry w number guest c given there is other g x has (Put same put) =
    let found : Some guest ≡ Some g = sym given ∙ subst (λ n. slice_get geometry.guests n ≡ Some g) same has in
    subst (QueuesInPlace (mapped (regions_of g))) put
    (subst (λ h. QueuesInPlace (mapped (regions_of h)) c) (some-same guest g found) there)
queues-put geometry w number guest c given there is other g x has (Was apart at) = is.queues other g x has at

-- a guest's controller changes, and its queues are in its memory
pub controller-consistent : (geometry : Geometry) (w : World) (number : ℕ) (guest : Guest) (c : Controller)
    → slice_get geometry.guests number ≡ Some guest → QueuesInPlace (mapped (regions_of guest)) c
    → IsConsistentOfTags geometry w → IsConsistentOfTags geometry (with_controller number c w)
controller-consistent geometry w number guest c given there is =
    record {
      sides = is.sides;
      controllers = length-set w.controllers number c ∙ is.controllers;
      lanes = is.lanes;
      queues = (λ other g x has at. queues-put geometry w number guest c given there is other g x has (set-there w.controllers number c other x at));
    }

-- ---- a lane

-- one lane, the device's side of it, and the host change, the host in no byte of another lane
pub world-lane : (geometry : Geometry) (w : World) (lane : ℕ) (other : ℕ → ℕ) (l : Lane) (d : DeviceLane) → geometry.mediator % page ≡ 0
    → ((at : ℕ) → (at == lane) ≡ false → at < length w.lanes → SameInLane w.host other geometry.mediator at)
    → IsLane geometry lane other l d → IsConsistentOfTags geometry w
    → IsConsistentOfTags geometry (record w { host = other; lanes = set w.lanes lane l; device = set w.device lane d })
world-lane geometry w lane other l d aligned same now is =
    record {
      sides = length-set w.lanes lane l ∙ is.sides ∙ sym (length-set w.device lane d);
      controllers = is.controllers;
      lanes = (λ at x y here there. one-lane at x y (set-there w.lanes lane l at x here) (set-there w.device lane d at y there));
      queues = is.queues;
    }
  where
    one-lane : (at : ℕ) (x : Lane) (y : DeviceLane) → IsThere w.lanes lane l at x → IsThere w.device lane d at y → IsLane geometry at other x y
    one-lane at x y (Put same put) (Put again given) =
        subst (λ n. IsLane geometry n other x y) (sym same)
        (subst (λ k. IsLane geometry lane other x k) given (subst (λ k. IsLane geometry lane other k d) put now))
    one-lane at x y (Put same put) (Was apart found) = absurd (eqb-false at lane apart same)
    one-lane at x y (Was apart found) (Put same put) = absurd (eqb-false at lane apart same)
    one-lane at x y (Was apart found) (Was again there) =
        lane-same geometry at w.host other x y aligned (same at apart (slice_get-below w.lanes at x found)) (is.lanes at x y found there)
