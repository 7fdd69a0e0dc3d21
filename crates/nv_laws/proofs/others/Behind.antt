-- Worlds that look alike to a guest look alike to it behind an event, where each byte that was the same in both is the same still, one tag has
-- become the same in both, and what is shown of that tag is the same.
use Rattle.std.proofs.Common.{◌≡◌, ℕ, ◌+◌, ◌<◌, ◌⊎◌, inl, inr, true, List, length, map, set, slice_get, Option, Some, None, arith}
use Rattle.std.proofs.Common.{refl, sym, ap, ◌∙◌, subst}
use Rattle.std.specs.List.{list_any}
use Rattle.std.proofs.lemmas.Bool.{cases_eq}
use Rattle.std.proofs.lemmas.List.{map-set}
use Rattle.nv_entry.specs.Completion.{status_of}
use Rattle.nv_mem.specs.GuestMap.{host_of}
use Rattle.nv_model.specs.Memory.{byte_at_host, image}
use Rattle.nv_model.specs.Queue.{cqe_size, next_slot}
use Rattle.nv_ns.specs.Extents.{blocks_in, place_in}
use Rattle.nv_world_model.specs.Area.{completion_slot, ring_size}
use Rattle.nv_world_model.specs.Contained.{is_answered_at, tag_stands}
use Rattle.nv_world_model.specs.Device.{DeviceLane, next_phase}
use Rattle.nv_world_model.specs.Geometry.{Geometry, Guest, regions_of}
use Rattle.nv_world_model.specs.Seat.{completion_at, held_in}
use Rattle.nv_world_model.specs.Step.{completion_read}
use Rattle.nv_world_model.specs.View.{IsAlike, SameMarks, is_tag_of, lane_numbers, own_held, own_tag, ring_numbers, shared_numbers}
use Rattle.nv_world_model.specs.World.{Lane, Tag, World, is_free, tag_changed, tag_in, tag_of}
use Rattle.nv_laws_sound.proofs.Commands.{tag-elsewhere, tag-here}
use Rattle.nv_laws_sound.proofs.Shows.{bytes_from-between}
use Rattle.nv_laws.specs.Leaving.{InCompletion, IsBytes}
use Rattle.nv_laws.proofs.others.Parts.{device-elsewhere}
use Rattle.nv_laws.proofs.others.Shown.{in_span}
use Rattle.nv_laws.proofs.others.ShownTags.{IsShownBy, shown-by, shows-it, spans-same, tag_spans}

-- ---- one tag changes

-- a tag is this now, and no other has changed, nor what the device holds of others
pub record IsRetagged (lane tag : ℕ) (new : Tag) (w v : World) : Type 0 where
  pub here : tag_of v lane tag ≡ Some new
  pub tags : (a b : ℕ) → ((a ≡ lane) → (b ≡ tag) → ⊥) → tag_of v a b ≡ tag_of w a b
  pub held : (a b : ℕ) → ((a ≡ lane) → (b ≡ tag) → ⊥) → held_in (slice_get v.device a) b ≡ held_in (slice_get w.device a) b

pub retagged-by : (w v : World) (lane tag : ℕ) (l now : Lane) (d behind : DeviceLane) (t new : Tag) → slice_get w.lanes lane ≡ Some l → slice_get w.device lane ≡ Some d
    → slice_get l.tags tag ≡ Some t → now.tags ≡ set l.tags tag new → v.lanes ≡ set w.lanes lane now → v.device ≡ set w.device lane behind
    → ((b : ℕ) → (b ≡ tag → ⊥) → slice_get behind.held b ≡ slice_get d.held b) → IsRetagged lane tag new w v
retagged-by w v lane tag l now d behind t new at there found changed lanes device held =
    record {
      here = ap (λ ls. tag_in (slice_get ls lane) tag) lanes ∙ tag-here w.lanes lane tag l now t new at found changed;
      tags = (λ a b apart. ap (λ ls. tag_in (slice_get ls a) b) lanes ∙ tag-elsewhere w.lanes lane tag l now t new at found changed a b apart);
      held = (λ a b apart. ap (λ ds. held_in (slice_get ds a) b) device ∙ sym (device-elsewhere w.device lane tag d behind there held a b apart));
    }

-- ---- shared numbers

-- of a lane with a tag changed
pub numbers-retagged : (l m : Lane) (tag : ℕ) (new : Tag) → lane_numbers l ≡ lane_numbers m
    → lane_numbers (tag_changed tag new l) ≡ lane_numbers (tag_changed tag new m)
numbers-retagged l m tag new same =
    ap (λ free. record { head = l.head; phase = l.phase; free = free }) (map-set is_free l.tags tag new)
    ∙ ap (λ n. record { head = n.head; phase = n.phase; free = set n.free tag (is_free new) }) same
    ∙ sym (ap (λ free. record { head = m.head; phase = m.phase; free = free }) (map-set is_free m.tags tag new))

-- of a lane behind one more completion
pub numbers-read : (l m : Lane) → lane_numbers l ≡ lane_numbers m → lane_numbers (completion_read l) ≡ lane_numbers (completion_read m)
numbers-read l m same = ap (λ n. record { head = next_slot ring_size n.head; phase = next_phase n.head n.phase; free = n.free }) same

module _ (w z : World) (shared : shared_numbers w ≡ shared_numbers z) where
  pub lanes-shared : map lane_numbers w.lanes ≡ map lane_numbers z.lanes
  unfolding shared_numbers
  lanes-shared = ap (λ n. n.lanes) shared

  pub rings-shared : map ring_numbers w.device ≡ map ring_numbers z.device
  unfolding shared_numbers
  rings-shared = ap (λ n. n.rings) shared

  pub guests-shared : length w.controllers ≡ length z.controllers
  unfolding shared_numbers
  guests-shared = ap (λ n. n.guests) shared

pub shared-of : (v u : World) → map lane_numbers v.lanes ≡ map lane_numbers u.lanes → map ring_numbers v.device ≡ map ring_numbers u.device
    → length v.controllers ≡ length u.controllers → shared_numbers v ≡ shared_numbers u
unfolding shared_numbers
shared-of v u lanes rings guests =
    ap (λ ls. record { lanes = ls; rings = map ring_numbers v.device; guests = length v.controllers }) lanes
    ∙ ap (λ rs. record { lanes = map lane_numbers u.lanes; rings = rs; guests = length v.controllers }) rings
    ∙ ap (λ n. record { lanes = map lane_numbers u.lanes; rings = map ring_numbers u.device; guests = n }) guests

-- one member is put in both lists
pub put-same : {X Y : Type 0} (f : X → Y) (xs ys : List X) (i : ℕ) (x y : X) → map f xs ≡ map f ys → f x ≡ f y → map f (set xs i x) ≡ map f (set ys i y)
put-same f xs ys i x y same one =
    map-set f xs i x ∙ ap (λ ms. set ms i (f x)) same ∙ ap (λ v. set (map f ys) i v) one ∙ sym (map-set f ys i y)

-- ---- worlds behind an event

-- all but tags, and what the device holds
pub record IsRestAlike (number : ℕ) (guest : Guest) (w z v u : World) : Type 0 where
  pub bytes : (addr : ℕ) → w.host addr ≡ z.host addr → v.host addr ≡ u.host addr
  pub blocks : (lba offset : ℕ) → lba < blocks_in guest.namespace → v.disk (place_in guest.namespace lba) offset ≡ u.disk (place_in guest.namespace lba) offset
  pub marks : SameMarks guest v u
  pub controller : slice_get v.controllers number ≡ slice_get u.controllers number
  pub shared : shared_numbers v ≡ shared_numbers u

module _ (geometry : Geometry) (number : ℕ) (guest : Guest) (w z : World) (alike : IsAlike number guest geometry w z) where
  -- its memory is the same where the bytes of both are
  memory-by : (v u : World) → ((addr : ℕ) → w.host addr ≡ z.host addr → v.host addr ≡ u.host addr) → (addr : ℕ) (found : Option ℕ)
      → host_of (regions_of guest) addr ≡ found → byte_at_host w.host found ≡ byte_at_host z.host found → byte_at_host v.host found ≡ byte_at_host u.host found
  memory-by v u kept addr None is same = refl
  memory-by v u kept addr (Some at) is same = kept at same

  pub memory-behind : (v u : World) → ((addr : ℕ) → w.host addr ≡ z.host addr → v.host addr ≡ u.host addr) → (addr : ℕ)
      → image (regions_of guest) v.host addr ≡ image (regions_of guest) u.host addr
  unfolding image
  memory-behind v u kept addr = memory-by v u kept addr (host_of (regions_of guest) addr) refl (alike.view.memory addr)

  -- a tag's completion is as it was where its bytes are
  status-left : (v : World) (a b at : ℕ) (t : Tag) → tag_stands (is_answered_at at) t ≡ true
      → ((addr : ℕ) → IsBytes geometry.mediator a b t addr → w.host addr ≡ v.host addr)
      → status_of (completion_at geometry v a at) ≡ status_of (completion_at geometry w a at)
  status-left v a b at t stands left =
      sym (ap status_of
      (bytes_from-between w.host v.host (completion_slot geometry.mediator a at) (completion_slot geometry.mediator a (at + 1)) (completion_slot geometry.mediator a at) cqe_size
      (λ addr low high. left addr (InCompletion at stands low high)) (omega arith) (omega arith)))

  -- what such a tag shows was shown, and so is the same in both
  same-shown : (v u : World) → ((addr : ℕ) → w.host addr ≡ z.host addr → v.host addr ≡ u.host addr) → (addr : ℕ) (s : IsShownBy number guest geometry v addr)
      → tag_of v s.lane s.tag ≡ tag_of w s.lane s.tag → held_in (slice_get v.device s.lane) s.tag ≡ held_in (slice_get w.device s.lane) s.tag
      → ((t : Tag) (addr : ℕ) → tag_of w s.lane s.tag ≡ Some t → IsBytes geometry.mediator s.lane s.tag t addr → w.host addr ≡ v.host addr)
      → v.host addr ≡ u.host addr
  same-shown v u kept addr s tags held left =
      let there : tag_of w s.lane s.tag ≡ Some s.t = sym tags ∙ s.there in
      let spans = spans-same s.t guest _ _ (λ at. status_of (completion_at geometry v s.lane at)) (λ at. status_of (completion_at geometry w s.lane at)) geometry.mediator s.lane s.tag held
      (λ at stands. status-left v s.lane s.tag at s.t stands (λ x bytes. left s.t x there bytes)) in
      kept addr (alike.view.area addr
      (shows-it geometry w number guest addr
      (record { lane = s.lane; tag = s.tag; t = s.t; there = there; own = s.own; lies = ap (λ spans. list_any (in_span addr) spans) (sym spans) ∙ s.lies })))

  -- no tag has changed
  pub alike-lanes : (v u : World) → v.lanes ≡ w.lanes → v.device ≡ w.device → u.lanes ≡ z.lanes → u.device ≡ z.device
      → ((a b : ℕ) (t : Tag) (addr : ℕ) → tag_of w a b ≡ Some t → IsBytes geometry.mediator a b t addr → w.host addr ≡ v.host addr)
      → IsRestAlike number guest w z v u → IsAlike number guest geometry v u
  alike-lanes v u lanes device lanes_too device_too left rest =
      record {
        view = record {
          memory = memory-behind v u rest.bytes;
          blocks = rest.blocks;
          controller = rest.controller;
          tags = (λ a b.
              ap (λ ls. own_tag number (tag_in (slice_get ls a) b)) lanes ∙ alike.view.tags a b
              ∙ sym (ap (λ ls. own_tag number (tag_in (slice_get ls a) b)) lanes_too));
          held = (λ a b.
              ap (λ ls. own_held number (tag_in (slice_get ls a) b) (held_in (slice_get v.device a) b)) lanes
              ∙ ap (λ ds. own_held number (tag_of w a b) (held_in (slice_get ds a) b)) device
              ∙ alike.view.held a b
              ∙ sym (ap (λ ls. own_held number (tag_in (slice_get ls a) b) (held_in (slice_get u.device a) b)) lanes_too
              ∙ ap (λ ds. own_held number (tag_of z a b) (held_in (slice_get ds a) b)) device_too));
          area = (λ addr lies.
              (let s = shown-by geometry v number guest addr lies in
              same-shown v u rest.bytes addr s (ap (λ ls. tag_in (slice_get ls s.lane) s.tag) lanes) (ap (λ ds. held_in (slice_get ds s.lane) s.tag) device)
              (λ t x there bytes. left s.lane s.tag t x there bytes)));
        };
        marks = rest.marks;
        shared = rest.shared;
      }

  module _ (lane tag : ℕ) (new : Tag) (v u : World) (one : IsRetagged lane tag new w v) (other : IsRetagged lane tag new z u) where
    tags-by : (a b : ℕ) → (a ≡ lane) ⊎ (a ≡ lane → ⊥) → (b ≡ tag) ⊎ (b ≡ tag → ⊥) → own_tag number (tag_of v a b) ≡ own_tag number (tag_of u a b)
    tags-by a b (inl same) (inl also) =
        subst (λ n. own_tag number (tag_of v n b) ≡ own_tag number (tag_of u n b)) (sym same)
        (subst (λ n. own_tag number (tag_of v lane n) ≡ own_tag number (tag_of u lane n)) (sym also)
        (ap (own_tag number) (one.here ∙ sym other.here)))
    tags-by a b (inl same) (inr away) =
        ap (own_tag number) (one.tags a b (λ _ also. away also)) ∙ alike.view.tags a b ∙ sym (ap (own_tag number) (other.tags a b (λ _ also. away also)))
    tags-by a b (inr away) any =
        ap (own_tag number) (one.tags a b (λ same _. away same)) ∙ alike.view.tags a b ∙ sym (ap (own_tag number) (other.tags a b (λ same _. away same)))

    held-apart : (a b : ℕ) → ((a ≡ lane) → (b ≡ tag) → ⊥)
        → own_held number (tag_of v a b) (held_in (slice_get v.device a) b) ≡ own_held number (tag_of u a b) (held_in (slice_get u.device a) b)
    held-apart a b away =
        ap (λ t. own_held number t (held_in (slice_get v.device a) b)) (one.tags a b away)
        ∙ ap (own_held number (tag_of w a b)) (one.held a b away)
        ∙ alike.view.held a b
        ∙ sym (ap (λ t. own_held number t (held_in (slice_get u.device a) b)) (other.tags a b away) ∙ ap (own_held number (tag_of z a b)) (other.held a b away))

    held-by_both : (a b : ℕ) → (a ≡ lane) ⊎ (a ≡ lane → ⊥) → (b ≡ tag) ⊎ (b ≡ tag → ⊥)
        → own_held number (Some new) (held_in (slice_get v.device lane) tag) ≡ own_held number (Some new) (held_in (slice_get u.device lane) tag)
        → own_held number (tag_of v a b) (held_in (slice_get v.device a) b) ≡ own_held number (tag_of u a b) (held_in (slice_get u.device a) b)
    held-by_both a b (inl same) (inl also) held =
        subst (λ n. own_held number (tag_of v n b) (held_in (slice_get v.device n) b) ≡ own_held number (tag_of u n b) (held_in (slice_get u.device n) b)) (sym same)
        (subst (λ n. own_held number (tag_of v lane n) (held_in (slice_get v.device lane) n) ≡ own_held number (tag_of u lane n) (held_in (slice_get u.device lane) n)) (sym also)
        (ap (λ t. own_held number t (held_in (slice_get v.device lane) tag)) one.here ∙ held
        ∙ sym (ap (λ t. own_held number t (held_in (slice_get u.device lane) tag)) other.here)))
    held-by_both a b (inl same) (inr away) held = held-apart a b (λ _ also. away also)
    held-by_both a b (inr away) any held = held-apart a b (λ same _. away same)

    module _ (rest : IsRestAlike number guest w z v u)
        (left : (a b : ℕ) (t : Tag) (addr : ℕ) → ((a ≡ lane) → (b ≡ tag) → ⊥) → tag_of w a b ≡ Some t → IsBytes geometry.mediator a b t addr → w.host addr ≡ v.host addr)
        (written : (addr : ℕ) → is_tag_of number (Some new) ≡ true → list_any (in_span addr) (tag_spans guest geometry v lane tag new) ≡ true → v.host addr ≡ u.host addr) where
      area-by : (addr : ℕ) (s : IsShownBy number guest geometry v addr) → (s.lane ≡ lane) ⊎ (s.lane ≡ lane → ⊥) → (s.tag ≡ tag) ⊎ (s.tag ≡ tag → ⊥)
          → v.host addr ≡ u.host addr
      area-by addr s (inl same) (inl also) =
          let there : tag_of v lane tag ≡ Some s.t =
          subst (λ n. tag_of v n tag ≡ Some s.t) same (subst (λ n. tag_of v s.lane n ≡ Some s.t) also s.there) in
          let named : Some new ≡ Some s.t = sym one.here ∙ there in
          let is : s.t ≡ new = cc in
          written addr (ap (λ t. is_tag_of number (Some t)) (sym is) ∙ s.own)
          (subst (λ t. list_any (in_span addr) (tag_spans guest geometry v lane tag t) ≡ true) is
          (subst (λ n. list_any (in_span addr) (tag_spans guest geometry v n tag s.t) ≡ true) same
          (subst (λ n. list_any (in_span addr) (tag_spans guest geometry v s.lane n s.t) ≡ true) also s.lies)))
      area-by addr s (inl same) (inr away) =
          same-shown v u rest.bytes addr s (one.tags s.lane s.tag (λ _ also. away also)) (one.held s.lane s.tag (λ _ also. away also))
          (λ t x there bytes. left s.lane s.tag t x (λ _ also. away also) there bytes)
      area-by addr s (inr away) any =
          same-shown v u rest.bytes addr s (one.tags s.lane s.tag (λ same _. away same)) (one.held s.lane s.tag (λ same _. away same))
          (λ t x there bytes. left s.lane s.tag t x (λ same _. away same) there bytes)

      pub alike-retagged : own_held number (Some new) (held_in (slice_get v.device lane) tag) ≡ own_held number (Some new) (held_in (slice_get u.device lane) tag)
          → IsAlike number guest geometry v u
      alike-retagged held =
          record {
            view = record {
              memory = memory-behind v u rest.bytes;
              blocks = rest.blocks;
              controller = rest.controller;
              tags = (λ a b. tags-by a b (cases_eq a lane) (cases_eq b tag));
              held = (λ a b. held-by_both a b (cases_eq a lane) (cases_eq b tag) held);
              area = (λ addr lies.
                  (let s = shown-by geometry v number guest addr lies in
                  area-by addr s (cases_eq s.lane lane) (cases_eq s.tag tag)));
            };
            marks = rest.marks;
            shared = rest.shared;
          }
