-- What a change of a tag, of the device's side of a lane, or of the host's bytes outside of the completion rings keeps.
use Rattle.std.proofs.Common.{◌≡◌, ℕ, ◌+◌, ◌<◌, ◌≤◌, Bool, List, [], ◌∷◌, length, slice_get, Option, Some, None, arith, refl, sym, ap, ◌∙◌, subst}
use Rattle.nv_entry.specs.Completion.{phase_of}
use Rattle.nv_model.specs.Queue.{cqe_size}
use Rattle.nv_world_model.specs.Area.{completion_slot, lane_start, ring_size}
use Rattle.nv_world_model.specs.Device.{DeviceLane}
use Rattle.nv_world_model.specs.Geometry.{Geometry}
use Rattle.nv_world_model.specs.Step.{standing_at}
use Rattle.nv_world_model.specs.World.{Ended, Flying, Free, Lane, Standing, Tag, Taken, World, changed_at, tag_changed, with_device, with_host, with_tag, with_tags}
use Rattle.nv_laws_sound.specs.Area.{SameBetween, SameInLane}
use Rattle.nv_laws_sound.proofs.Lists.{IsThere, Put, Was, set-there, slice_get-below}
use Rattle.nv_laws_sound.proofs.Shows.{bytes_from-between, same-part}
use Rattle.nv_laws_sound.specs.Phased.{ArePhased, IsPhased, phase_at}

-- ---- the bytes of a ring

-- two memories have the same completion ring of a lane
abbrev pub SameRing : Geometry → (lane : ℕ) → (host other : ℕ → ℕ) → Type 0
SameRing geometry lane host other =
    SameBetween host other (completion_slot geometry.mediator lane 0) (completion_slot geometry.mediator lane ring_size)

-- a lane that is the same has the same ring
pub ring-of-lane : (geometry : Geometry) (lane : ℕ) (host other : ℕ → ℕ) → SameInLane host other geometry.mediator lane → SameRing geometry lane host other
ring-of-lane geometry lane host other same =
    same-part host other (lane_start geometry.mediator lane) (lane_start geometry.mediator (lane + 1)) (completion_slot geometry.mediator lane 0)
    (completion_slot geometry.mediator lane ring_size) same (omega arith) (omega arith)

-- the phase tag of a slot whose bytes are the same
pub phase-same : (geometry : Geometry) (host other : ℕ → ℕ) (lane at from to : ℕ) → SameBetween host other from to
    → from ≤ completion_slot geometry.mediator lane at → completion_slot geometry.mediator lane (at + 1) ≤ to
    → phase_at geometry host lane at ≡ phase_at geometry other lane at
phase-same geometry host other lane at from to same low high =
    ap phase_of (bytes_from-between host other from to (completion_slot geometry.mediator lane at) cqe_size same low (omega (arith, high)))

pub phased-ring : (geometry : Geometry) (host other : ℕ → ℕ) (lane head : ℕ) (wanted : Bool) (posted : ℕ) (phase : Bool)
    → SameRing geometry lane host other → posted < ring_size → IsPhased geometry host lane head wanted posted phase
    → IsPhased geometry other lane head wanted posted phase
phased-ring geometry host other lane head wanted posted phase same below is =
    record {
      wants = is.wants;
      written = (λ at less. sym (slot at (omega (arith, less, below))) ∙ is.written at less);
      earlier = (λ at most last. sym (slot at last) ∙ is.earlier at most last);
    }
  where
    slot : (at : ℕ) → at < ring_size → phase_at geometry host lane at ≡ phase_at geometry other lane at
    slot at last =
        phase-same geometry host other lane at (completion_slot geometry.mediator lane 0) (completion_slot geometry.mediator lane ring_size) same (omega arith) (omega (arith, last))

-- ---- a change of one lane

-- a list of which one may have changed so
pub record IsOne {L : Type 0} (o : Option L) (lanes : List L) (at : ℕ) (change : L → L) (n : ℕ) (x : L) (P : L → L → Type 0) : Type 0 where
  pub was : L
  pub there : slice_get lanes n ≡ Some was
  pub alike : P was x

pub changed-one : {L : Type 0} (P : L → L → Type 0) (lanes : List L) (at : ℕ) (change : L → L) → ((x : L) → P x x) → ((x : L) → P x (change x))
    → (n : ℕ) (x : L) → slice_get (changed_at (slice_get lanes at) at change lanes) n ≡ Some x → IsOne (slice_get lanes at) lanes at change n x P
changed-one P lanes at change same changes n x e = by (slice_get lanes at) refl e
  where
    put : (y : _) → slice_get lanes at ≡ Some y → IsThere lanes at (change y) n x → IsOne (slice_get lanes at) lanes at change n x P
    put y found (Put here is) =
        record { was = y; there = ap (λ m. slice_get lanes m) here ∙ found; alike = subst (P y) is (changes y) }
    put y found (Was apart there) = record { was = x; there = there; alike = same x }

    by : (o : Option _) → slice_get lanes at ≡ o → slice_get (changed_at o at change lanes) n ≡ Some x → IsOne (slice_get lanes at) lanes at change n x P
    by None found there = record { was = x; there = there; alike = same x }
    by (Some y) found there = put y found (set-there lanes at (change y) n x there)

-- ---- worlds

module _ (geometry : Geometry) where
  -- a tag is another
  pub phased-tag : (lane tag : ℕ) (t : Tag) (w : World) → ArePhased geometry w → ArePhased geometry (with_tag lane tag t w)
  phased-tag lane tag t w are n l d at there =
      let was = changed-one (λ (x y : Lane). (x.head ≡ y.head) × (x.phase ≡ y.phase)) w.lanes lane (tag_changed tag t) (λ x. (refl, refl)) (λ x. (refl, refl)) n l at in
      subst (λ h. IsPhased geometry w.host n h l.phase d.posted d.phase) was.alike.0
      (subst (λ p. IsPhased geometry w.host n was.was.head p d.posted d.phase) was.alike.1 (are n was.was d was.there there))

  -- so are several, one after the other
  pub phased-tags : (lane : ℕ) (tags : List ℕ) (t : Tag) (w : World) → ArePhased geometry w → ArePhased geometry (with_tags lane tags t w)
  unfolding with_tags
  phased-tags lane [] t w are = are
  phased-tags lane (tag ∷ tags) t w are = phased-tags lane tags t (with_tag lane tag t w) (phased-tag lane tag t w are)

  pub phased-standing : (o : Option Tag) (s : Standing) (lane tag : ℕ) (w : World) → ArePhased geometry w → ArePhased geometry (standing_at o s lane tag w)
  phased-standing None s lane tag w are = are
  phased-standing (Some Free) s lane tag w are = are
  phased-standing (Some (Taken command reads)) s lane tag w are = are
  phased-standing (Some (Flying command plan before)) s lane tag w are = phased-tag lane tag (Flying command plan s) w are
  phased-standing (Some (Ended command st plan)) s lane tag w are = are

  -- the device's side of a lane is another, and writes the same slot next
  pub phased-device : (lane : ℕ) (change : DeviceLane → DeviceLane) (w : World) → ((x : DeviceLane) → (x.posted ≡ (change x).posted) × (x.phase ≡ (change x).phase))
      → ArePhased geometry w → ArePhased geometry (with_device lane change w)
  phased-device lane change w keeps are n l d at there =
      let was = changed-one (λ (x y : DeviceLane). (x.posted ≡ y.posted) × (x.phase ≡ y.phase)) w.device lane change (λ x. (refl, refl)) keeps n d there in
      subst (λ p. IsPhased geometry w.host n l.head l.phase p d.phase) was.alike.0
      (subst (λ p. IsPhased geometry w.host n l.head l.phase was.was.posted p) was.alike.1 (are n l was.was at was.there))

  -- bytes of the host are others, and none in a ring
  pub phased-host : (w : World) (other : ℕ → ℕ) → ((lane : ℕ) → lane < length w.lanes → SameRing geometry lane w.host other)
      → ((lane : ℕ) (d : DeviceLane) → slice_get w.device lane ≡ Some d → d.posted < ring_size)
      → ArePhased geometry w → ArePhased geometry (with_host other w)
  phased-host w other same below are n l d at there =
      phased-ring geometry w.host other n l.head l.phase d.posted d.phase (same n (slice_get-below w.lanes n l at)) (below n d there) (are n l d at there)
