-- What the device's calls want of host and device: it follows of a consistent world.
use Rattle.std.proofs.Common.{◌≡◌, ℕ, zero, suc, ◌<◌, true, false, not, ◌==◌, List, [], ◌∷◌, get_or, length, slice_get, Option, Some, None, arith, refl, sym, ap, ◌∙◌, subst, eq-eqb}
use Rattle.std.specs.Prelude.{IfSome}
use Rattle.std.specs.List.{list_any}
use Rattle.std.proofs.lemmas.Option.{get_or_from_slice_get}
use Rattle.nv_core.specs.State.{IsOf, State}
use Rattle.nv_device.specs.Moving.{IsMovable, MayMove}
use Rattle.nv_device.specs.Physical.{HoldsArea, held_at, lane_of}
use Rattle.nv_device.specs.Taking.{IsTakeable, MayTake, front_of, waits}
use Rattle.nv_entry.specs.Range.{blocks_of, start_of}
use Rattle.nv_entry.specs.Submission.{cid_of}
use Rattle.nv_entry.specs.declared.opcode.IoOpcode.TheVariants.{DatasetManagement}
use Rattle.nv_model.specs.Judge.{form_of}
use Rattle.nv_model.specs.Memory.{byte_in}
use Rattle.nv_model.specs.Queue.{is_empty}
use Rattle.nv_disk.specs.Buffer.{AreBelow}
use Rattle.nv_disk.specs.Flat.{byte_of_block}
use Rattle.nv_disk.specs.Marks.{mark_of}
use Rattle.nv_world_model.specs.Area.{tag_count}
use Rattle.nv_world_model.specs.Device.{DeviceLane, Held, front_entry, range_at}
use Rattle.nv_world_model.specs.Geometry.{Geometry}
use Rattle.nv_world_model.specs.ShareArea.{share_entry}
use Rattle.nv_world_model.specs.World.{Lane, Tag}
use Rattle.nv_laws_sound.proofs.EntryFields.{entry-cid}
use Rattle.nv_laws_sound.proofs.Lists.{slice_get-below, slice_get-there, some-same}
use Rattle.nv_laws_sound.proofs.MoveEvents.{IsHolding, held-flies, held-opcode}
use Rattle.nv_laws_sound.proofs.Namespaces.{own-ends}
use Rattle.nv_laws_sound.proofs.OnDisk.{range-own}
use Rattle.nv_laws_sound.proofs.Rings.{between-head, far-some}
use Rattle.nv_laws_sound.proofs.TakenEvents.{IsQueuedAt, queued-at}
use Rattle.nv_core.proofs.Takeable.{entry-takeable, places-below}

-- ---- looked up

-- what is read of some is there
pub some-there : {X : Type 0} (xs : List (Option X)) (i : ℕ) (x : X) → get_or xs i None ≡ Some x → slice_get xs i ≡ Some (Some x)
some-there [] i x e = cc
some-there (y ∷ ys) zero x e = ap (λ (o : Option _). Some o) e
some-there (y ∷ ys) (suc i) x e = some-there ys i x e

-- ---- lanes

-- the area of the lanes lies in the host
pub holds-area : (geometry : Geometry) (s : State) → IsOf geometry s → HoldsArea (length s.host) s.device
holds-area geometry s is =
    let at = is.mediator in
    let sides = is.consistent.of_tags.sides in
    let area = is.laid_out.area in
    omega (arith, at, sides, area)

-- the two sides of a lane that is there
pub record HasSides (s : State) (lane : ℕ) : Type 0 where
  pub l : Lane
  pub d : DeviceLane
  pub at_lane : slice_get s.lanes lane ≡ Some l
  pub at_device : slice_get s.device.lanes lane ≡ Some d
  pub seen : lane_of s.device lane ≡ d
  pub below : lane < length s.lanes

pub has-sides : (geometry : Geometry) (s : State) (lane : ℕ) → IsOf geometry s → lane < length s.device.lanes → HasSides s lane
has-sides geometry s lane is below =
    let sides = is.consistent.of_tags.sides in
    let d = slice_get-there s.device.lanes lane below in
    let l = slice_get-there s.lanes lane (omega (arith, sides, below)) in
    record {
      l = l.0;
      d = d.0;
      at_lane = l.1;
      at_device = d.1;
      seen = get_or_from_slice_get s.device.lanes lane d.0 _ d.1;
      below = omega (arith, sides, below);
    }

-- ---- a command that the device holds

pub record IsHoldingAt (geometry : Geometry) (s : State) (lane slot : ℕ) (h : Held) : Type 0 where
  pub sides : HasSides s lane
  pub t : Tag
  pub at_tag : slice_get sides.l.tags slot ≡ Some t
  pub at_held : slice_get sides.d.held slot ≡ Some (Some h)
  pub holds : IsHolding geometry lane slot (byte_in s.host) h t
  pub slot_below : slot < tag_count

pub holding-at : (geometry : Geometry) (s : State) (lane slot : ℕ) (h : Held) → IsOf geometry s → lane < length s.device.lanes
    → held_at s.device lane slot ≡ Some h → IsHoldingAt geometry s lane slot h
holding-at geometry s lane slot h is below held =
    let sides = has-sides geometry s lane is below in
    let lane_is = is.consistent.of_tags.lanes lane sides.l sides.d sides.at_lane sides.at_device in
    let at_held = some-there sides.d.held slot h (sym (ap (λ (d : DeviceLane). get_or d.held slot None) sides.seen) ∙ held) in
    let among = slice_get-below sides.d.held slot (Some h) at_held in
    let helds = lane_is.positions.held in
    let tags = lane_is.positions.tags in
    let t = slice_get-there sides.l.tags slot (omega (arith, among, helds, tags)) in
    record {
      sides = sides;
      t = t.0;
      at_tag = t.1;
      at_held = at_held;
      holds = held-flies geometry lane slot (byte_in s.host) sides.l.head sides.d h t.0 (lane_is.tags slot t.0 (Some h) t.1 at_held);
      slot_below = omega (arith, among, helds);
    }

-- a unit of it that is left may move
held-moves : (geometry : Geometry) (s : State) (lane slot number : ℕ) (h : Held) → IsOf geometry s → IsHoldingAt geometry s lane slot h
    → list_any (λ k. k == number) h.left ≡ true → IsMovable (length s.device.disk) s.host number h
held-moves geometry s lane slot number h is a left =
    let b = a.holds in
    let n = length s.lanes in
    let laid = is.laid_out in
    record {
      bytes =
          subst (AreBelow (length s.host)) (sym b.in_device.places)
          (places-below n geometry s.host laid b.command.guest b.guest b.is.given lane slot a.sides.below a.slot_below b.command.entry b.share b.planned);
      range = λ dataset deallocate some.
          (let opcode = held-opcode (length s.host) geometry n lane slot laid a.sides.below a.slot_below b.guest b.command.guest b.is.given b.command.entry b.share
          b.planned h (byte_in s.host) b.in_device number (byte_of_block s.device.disk) (mark_of s.device.kept) in
          let form = ap form_of (some-same b.planned.work.opcode DatasetManagement (sym opcode ∙ dataset)) in
          let own = range-own (length s.host) n geometry laid b.command.guest b.guest b.is.given b.command.entry b.share b.planned lane slot b.some h (byte_in s.host)
          b.in_device number left form in
          let range = range_at number h.pieces (byte_in s.host) in
          let ends = own-ends (length s.host) geometry.disk_blocks (start_of range) (blocks_of range) b.guest
          (laid.given b.command.guest b.guest b.is.given) own some in
          let blocks = is.blocks in
          omega (arith, ends, blocks));
    }

pub may-move : (geometry : Geometry) (s : State) (lane slot number : ℕ) → IsOf geometry s → lane < length s.device.lanes
    → MayMove lane slot number s.host s.device
may-move geometry s lane slot number is below = by_held (held_at s.device lane slot) refl
  where
    by_held : (o : Option Held) → held_at s.device lane slot ≡ o
        → IfSome o (λ h. list_any (λ k. k == number) h.left ≡ true → IsMovable (length s.device.disk) s.host number h)
    by_held None e = tt
    by_held (Some h) e = λ left. held-moves geometry s lane slot number h is (holding-at geometry s lane slot h is below e) left

-- ---- the entry that waits at the front

pub record IsNext (geometry : Geometry) (s : State) (lane : ℕ) : Type 0 where
  pub sides : HasSides s lane
  pub tag : ℕ
  pub t : Tag
  pub held : Option Held
  pub at_tag : slice_get sides.l.tags tag ≡ Some t
  pub at_held : slice_get sides.d.held tag ≡ Some held
  pub next : IsQueuedAt geometry lane tag sides.d.head (byte_in s.host) held t
  pub tag_below : tag < tag_count
  pub front_is : front_of lane s.host s.device ≡ share_entry next.share next.guest.namespace next.guest next.command.entry geometry.mediator lane tag
  pub cid_is : cid_of (front_of lane s.host s.device) ≡ tag

waits-apart : (head tail : ℕ) → not (is_empty head tail) ≡ true → head ≡ tail → ⊥
waits-apart head tail waits same =
    let bad : false ≡ true = sym (ap not (eq-eqb head tail same)) ∙ waits in cc

-- its bytes are those of the tag's entry
next-front : (geometry : Geometry) (s : State) (lane tag : ℕ) (sides : HasSides s lane) (held : Option Held) (t : Tag) → IsOf geometry s
    → (next : IsQueuedAt geometry lane tag sides.d.head (byte_in s.host) held t)
    → front_of lane s.host s.device ≡ share_entry next.share next.guest.namespace next.guest next.command.entry geometry.mediator lane tag
next-front geometry s lane tag sides held t is next =
    let at : front_of lane s.host s.device ≡ front_entry geometry.mediator lane (lane_of s.device lane) (byte_in s.host) =
    ap (λ (m : ℕ). front_entry m lane (lane_of s.device lane) (byte_in s.host)) is.mediator in
    let of : front_entry geometry.mediator lane (lane_of s.device lane) (byte_in s.host) ≡ front_entry geometry.mediator lane sides.d (byte_in s.host) =
    ap (λ (x : DeviceLane). front_entry geometry.mediator lane x (byte_in s.host)) sides.seen in
    at ∙ of ∙ next.entry_is

-- and its identifier the tag
next-cid : (geometry : Geometry) (s : State) (lane tag : ℕ) (sides : HasSides s lane) (held : Option Held) (t : Tag) → IsOf geometry s
    → IsQueuedAt geometry lane tag sides.d.head (byte_in s.host) held t → tag < tag_count → cid_of (front_of lane s.host s.device) ≡ tag
next-cid geometry s lane tag sides held t is next below =
    ap cid_of (next-front geometry s lane tag sides held t is next) ∙ entry-cid next.share next.guest next.command.entry geometry.mediator lane tag below

pub next-at : (geometry : Geometry) (s : State) (lane : ℕ) → IsOf geometry s → lane < length s.device.lanes → waits lane s.device ≡ true
    → IsNext geometry s lane
next-at geometry s lane is below waiting =
    let sides = has-sides geometry s lane is below in
    let l = sides.l in
    let d = sides.d in
    let lane_is = is.consistent.of_tags.lanes lane l d sides.at_lane sides.at_device in
    let apart = waits-apart d.head d.tail (sym (ap (λ (x : DeviceLane). not (is_empty x.head x.tail)) sides.seen) ∙ waiting) in
    let some = lane_is.queued d.head (between-head d.head d.tail lane_is.positions.head lane_is.positions.tail
    (far-some d.head d.tail lane_is.positions.head lane_is.positions.tail apart)) in
    let inside = slice_get-below l.tags some.tag some.there some.is in
    let tags = lane_is.positions.tags in
    let helds = lane_is.positions.held in
    let held = slice_get-there d.held some.tag (omega (arith, tags, helds, inside)) in
    let tag_below : some.tag < tag_count = omega (arith, tags, inside) in
    let next = queued-at geometry lane some.tag d.head (byte_in s.host) l.head d held.0 some.there
    (lane_is.tags some.tag some.there held.0 some.is held.1) some.stands in
    record {
      sides = sides;
      tag = some.tag;
      t = some.there;
      held = held.0;
      at_tag = some.is;
      at_held = held.1;
      next = next;
      tag_below = tag_below;
      front_is = next-front geometry s lane some.tag sides held.0 some.there is next;
      cid_is = next-cid geometry s lane some.tag sides held.0 some.there is next tag_below;
    }

-- it may be taken
pub may-take : (geometry : Geometry) (s : State) (lane : ℕ) → IsOf geometry s → lane < length s.device.lanes → MayTake lane s.host s.device
may-take geometry s lane is below waiting =
    let a = next-at geometry s lane is below waiting in
    let b = a.next in
    let free : held_at s.device lane (cid_of (front_of lane s.host s.device)) ≡ None =
    ap (held_at s.device lane) a.cid_is ∙ ap (λ (x : DeviceLane). get_or x.held a.tag None) a.sides.seen
    ∙ get_or_from_slice_get a.sides.d.held a.tag a.held None a.at_held ∙ b.not_held in
    subst (IsTakeable (length s.device.disk) s.host (held_at s.device lane (cid_of (front_of lane s.host s.device)))) (sym a.front_is)
    (entry-takeable (length s.lanes) geometry s.host is.laid_out b.command.guest b.guest b.is.given lane a.tag a.sides.below a.tag_below b.command.entry b.share b.planned b.some
    (length s.device.disk) (held_at s.device lane (cid_of (front_of lane s.host s.device))) (sym is.blocks) free b.pages.list)
