-- The device takes the front entry of a submission ring, and the tag that it names is in the device.
use Rattle.std.proofs.Common.{◌≡◌, ℕ, ◌<◌, true, false, ◌==◌, List, length, set, slice_get, Option, Some, None, arith, refl, sym, ap, ◌∙◌, eqb-true, subst}
use Rattle.std.proofs.lemmas.Bool.{eqb-false, ne_eqb}
use Rattle.nv_entry.specs.Submission.{cid_of}
use Rattle.nv_model.specs.Memory.{bytes_from}
use Rattle.nv_model.specs.Queue.{is_empty, next_slot, sqe_size}
use Rattle.nv_world_model.specs.declared.event.Event.TheVariants as event
use Rattle.nv_world_model.specs.Area.{ring_size, submission_slot, tag_count}
use Rattle.nv_world_model.specs.Contained.{is_answered_at, is_queued_at, tag_stands}
use Rattle.nv_world_model.specs.Device.{DeviceLane, Held, entry_taken, front_entry, held_of}
use Rattle.nv_world_model.specs.Geometry.{Geometry, Guest}
use Rattle.nv_world_model.specs.Share.{Share}
use Rattle.nv_world_model.specs.ShareArea.{share_entry}
use Rattle.nv_world_model.specs.ShareArea.{is_no_command}
use Rattle.nv_world_model.specs.Step.{device_take, device_took, stands, step}
use Rattle.nv_world_model.specs.World.{Answered, Command, Ended, Flying, Free, InDevice, Lane, Queued, Tag, Taken, World, tag_changed, with_device}
use Rattle.nv_laws_sound.specs.Consistent.{HasPages, IsBetween, IsCommand, IsConsistentOfTags, IsLane, IsPlanned, IsTag, SomeStands, waits_for_device, waits_for_mediator}
use Rattle.nv_laws_sound.specs.LaidOut.{IsLaidOut}
use Rattle.nv_laws_sound.proofs.Changes.{world-lane}
use Rattle.nv_laws_sound.proofs.EntryFields.{entry-cid}
use Rattle.nv_laws_sound.proofs.HeldEntries.{held-left, held-places}
use Rattle.nv_laws_sound.proofs.Lists.{count-set, length-set, slice_get-below, slice_get-there}
use Rattle.nv_laws_sound.proofs.PlanSizes.{entry-length}
use Rattle.nv_laws_sound.proofs.Retags.{count-kept, stands-is, stands-kept, tags-with}
use Rattle.nv_laws_sound.proofs.Rings.{between-gone, between-head, between-less, between-was, far, far-less, far-some, next-below}
use Rattle.nv_laws_sound.proofs.TagsKept.{IsUndisturbed, tag-kept}
use Rattle.nv_laws_sound.proofs.Walks.{device-walk, either}

-- ---- the tag whose entry is next

-- a tag whose entry stands in a slot
pub record IsQueuedAt (geometry : Geometry) (lane tag at : ℕ) (host : ℕ → ℕ) (held : Option Held) (t : Tag) : Type 0 where
  pub command : Command
  pub share : Share
  pub flies : t ≡ Flying command share (Queued at)
  pub guest : Guest
  pub is : IsCommand geometry command guest
  pub planned : IsPlanned guest command.entry share
  pub some : is_no_command share ≡ false
  pub entry_is : bytes_from host (submission_slot geometry.mediator lane at) sqe_size ≡ share_entry share guest.namespace guest command.entry geometry.mediator lane tag
  pub pages : HasPages geometry guest share lane tag host
  pub not_held : held ≡ None

pub queued-at : (geometry : Geometry) (lane tag at : ℕ) (host : ℕ → ℕ) (head : ℕ) (d : DeviceLane) (held : Option Held) (t : Tag)
    → IsTag geometry lane tag host head d held t → tag_stands (is_queued_at at) t ≡ true → IsQueuedAt geometry lane tag at host held t
queued-at geometry lane tag at host head d held Free is stands = cc
queued-at geometry lane tag at host head d held (Taken command reads) is stands = cc
queued-at geometry lane tag at host head d held (Flying command share (Queued slot)) is stands =
    let same = eqb-true slot at stands in
    let sized = entry-length share is.guest command.entry geometry.mediator lane tag in
    let shown : bytes_from host (submission_slot geometry.mediator lane slot) sqe_size ≡ share_entry share is.guest.namespace is.guest command.entry geometry.mediator lane tag =
    subst (λ n. bytes_from host (submission_slot geometry.mediator lane slot) n ≡ share_entry share is.guest.namespace is.guest command.entry geometry.mediator lane tag) sized is.stands.0.shown in
    record {
      command = command;
      share = share;
      flies = ap (λ s. Flying command share (Queued s)) same;
      guest = is.guest;
      is = is.is;
      planned = is.planned;
      some = is.some;
      entry_is = subst (λ s. bytes_from host (submission_slot geometry.mediator lane s) sqe_size
          ≡ share_entry share is.guest.namespace is.guest command.entry geometry.mediator lane tag) same shown;
      pages = is.stands.0.pages;
      not_held = is.stands.1;
    }
queued-at geometry lane tag at host head d held (Flying command share InDevice) is stands = cc
queued-at geometry lane tag at host head d held (Flying command share (Answered slot)) is stands = cc
queued-at geometry lane tag at host head d held (Ended command st share) is stands = cc

-- ---- the lane

module _ (host_bytes lanes : ℕ) (geometry : Geometry) (laid : IsLaidOut host_bytes lanes geometry) (lane : ℕ) (below : lane < lanes)
    (host : ℕ → ℕ) (l : Lane) (d : DeviceLane) (is : IsLane geometry lane host l d) (waits : d.head ≡ d.tail → ⊥) (tag : ℕ) (t : Tag)
    (held : Option Held) (found : slice_get l.tags tag ≡ Some t) (under : slice_get d.held tag ≡ Some held)
    (a : IsQueuedAt geometry lane tag d.head host held t) where
  -- its physical entry
  abbrev pub physical : List ℕ
  physical = share_entry a.share a.guest.namespace a.guest a.command.entry geometry.mediator lane tag

  -- the tag, and the device's side of the lane, behind it
  abbrev pub in_device : Tag
  in_device = Flying a.command a.share InDevice

  abbrev pub device_behind : DeviceLane
  device_behind = record d { head = next_slot ring_size d.head; held = set d.held tag (Some (held_of physical host)) }

  flies-at : slice_get l.tags tag ≡ Some (Flying a.command a.share (Queued d.head))
  flies-at = found ∙ ap (λ x. Some x) a.flies

  tag-below : tag < tag_count
  tag-below = let tags = is.positions.tags in let among = slice_get-below l.tags tag t found in omega (arith, tags, among)

  some-waits : 0 < far d.head d.tail
  some-waits = far-some d.head d.tail is.positions.head is.positions.tail waits

  own-tag : IsTag geometry lane tag host l.head device_behind (Some (held_of physical host)) in_device
  unfolding held_of
  own-tag =
      record {
        guest = a.guest;
        is = a.is;
        planned = a.planned;
        some = a.some;
        stands =
            record {
              entry_is = refl;
              places =
                  held-places host_bytes lanes geometry laid a.command.guest a.guest a.is.given lane tag below tag-below a.command.entry a.share a.planned a.some host a.pages.list;
              left = held-left host_bytes lanes geometry laid a.command.guest a.guest a.is.given lane tag below tag-below a.command.entry a.share a.planned a.some host;
              pages = a.pages;
            };
      }

  -- another tag is undisturbed: no other stands in that slot
  taken-undisturbed : (other : ℕ) (x : Tag) (o : Option Held) → (other == tag) ≡ false → other < tag_count → IsTag geometry lane other host l.head d o x
      → IsUndisturbed geometry.mediator lane other host host l.head l.head d device_behind x
  taken-undisturbed other x o apart other_below there =
      record {
        pages = (λ y low high. refl);
        queued = (λ slot stands between.
            (between-less d.head d.tail slot is.positions.head is.positions.tail between (λ same. not_there slot stands same), (λ y low high. refl)));
        answered = (λ slot stands between. (between, (λ y low high. refl)));
      }
    where
      not_there : (slot : ℕ) → tag_stands (is_queued_at slot) x ≡ true → slot ≡ d.head → ⊥
      not_there slot stands same =
          let b = queued-at geometry lane other slot host l.head d o x there stands in
          let here : bytes_from host (submission_slot geometry.mediator lane d.head) sqe_size ≡ share_entry b.share b.guest.namespace b.guest b.command.entry geometry.mediator lane other =
          subst (λ s. bytes_from host (submission_slot geometry.mediator lane s) sqe_size
          ≡ share_entry b.share b.guest.namespace b.guest b.command.entry geometry.mediator lane other) same b.entry_is in
          let one : cid_of physical ≡ other =
          ap cid_of (sym a.entry_is ∙ here) ∙ entry-cid b.share b.guest b.command.entry geometry.mediator lane other other_below in
          eqb-false other tag apart (sym one ∙ entry-cid a.share a.guest a.command.entry geometry.mediator lane tag tag-below)

  entries-left : (place : ℕ) → IsBetween (next_slot ring_size d.head) d.tail place → SomeStands (is_queued_at place) (set l.tags tag in_device)
  entries-left place between =
      stands-kept (is_queued_at place) l.tags tag (Flying a.command a.share (Queued d.head)) in_device flies-at (ne_eqb d.head place (λ same. gone same))
      (is.queued place (between-was d.head d.tail place is.positions.head is.positions.tail some-waits between))
    where
      gone : d.head ≡ place → ⊥
      gone same = between-gone d.head d.tail is.positions.head is.positions.tail some-waits (subst (IsBetween (next_slot ring_size d.head) d.tail) (sym same) between)

  pub lane-taken : IsLane geometry lane host (tag_changed tag in_device l) device_behind
  lane-taken =
      record {
        positions = record {
          head = next-below d.head is.positions.head;
          tail = is.positions.tail;
          posted = is.positions.posted;
          read = is.positions.read;
          tags = length-set l.tags tag in_device ∙ is.positions.tags;
          held = length-set d.held tag (Some (held_of physical host)) ∙ is.positions.held;
        };
        tags =
            tags-with (λ other o x. IsTag geometry lane other host l.head device_behind o x) l.tags d.held tag in_device (Some (held_of physical host)) own-tag
            (λ other x o apart here there.
            (let among = slice_get-below l.tags other x here in
            let tags = is.positions.tags in
            tag-kept geometry lane other host host laid.pages l.head l.head d device_behind o x
            (taken-undisturbed other x o apart (omega (arith, among, tags)) (is.tags other x o here there)) (is.tags other x o here there)));
        queued = entries-left;
        answered = (λ place between. stands-kept (is_answered_at place) l.tags tag (Flying a.command a.share (Queued d.head)) in_device flies-at refl (is.answered place between));
        queued_count =
            (let changed = count-set (tag_stands waits_for_device) l.tags tag (Flying a.command a.share (Queued d.head)) in_device flies-at in
            let less = far-less d.head d.tail is.positions.head is.positions.tail some-waits in
            let many = is.queued_count in
            omega (arith, changed, less, many));
        answered_count = count-kept waits_for_mediator l.tags tag (Flying a.command a.share (Queued d.head)) in_device flies-at refl ∙ is.answered_count;
      }

-- ---- the event

-- the world behind it, lane by lane: what holds of the one holds of the other
pub took-world : (P : World → Type 0) (geometry : Geometry) (w : World) (lane tag : ℕ) (l : Lane) (d : DeviceLane) (held : Option Held) (t : Tag)
    → (a : IsQueuedAt geometry lane tag d.head w.host held t) → tag < tag_count
    → slice_get w.lanes lane ≡ Some l → slice_get w.device lane ≡ Some d → slice_get l.tags tag ≡ Some t
    → P (record w {
      lanes = set w.lanes lane (tag_changed tag (Flying a.command a.share InDevice) l);
      device = set w.device lane (record d {
        head = next_slot ring_size d.head;
        held = set d.held tag (Some (held_of (share_entry a.share a.guest.namespace a.guest a.command.entry geometry.mediator lane tag) w.host));
      });
    })
    → P (device_took lane (front_entry geometry.mediator lane d w.host) w)
unfolding device_took
took-world P geometry w lane tag l d held t a below at there found holds =
    let flies : slice_get l.tags tag ≡ Some (Flying a.command a.share (Queued d.head)) = found ∙ ap (λ x. Some x) a.flies in
    let entry = share_entry a.share a.guest.namespace a.guest a.command.entry geometry.mediator lane tag in
    let cid : cid_of entry ≡ tag = entry-cid a.share a.guest a.command.entry geometry.mediator lane tag below in
    let change : DeviceLane → DeviceLane = λ x. record x { head = next_slot ring_size x.head; held = set x.held tag (Some (held_of entry w.host)) } in
    let by_tag : P (stands InDevice lane tag (with_device lane change w)) =
    subst P (sym (stands-is w lane tag l d a.command a.share (Queued d.head) InDevice w.host change at there flies)) holds in
    let by_cid : P (stands InDevice lane (cid_of entry) (with_device lane (entry_taken entry w.host) w)) =
    subst (λ n. P (stands InDevice lane n (with_device lane (λ x. record x { head = next_slot ring_size x.head; held = set x.held n (Some (held_of entry w.host)) }) w)))
    (sym cid) by_tag in
    subst (λ e. P (stands InDevice lane (cid_of e) (with_device lane (entry_taken e w.host) w))) (sym a.entry_is) by_cid

took-consistent : (host_bytes : ℕ) (geometry : Geometry) (w : World) (lane tag : ℕ) (l : Lane) (d : DeviceLane) (held : Option Held) (t : Tag)
    → IsLaidOut host_bytes (length w.lanes) geometry → IsConsistentOfTags geometry w → slice_get w.lanes lane ≡ Some l → slice_get w.device lane ≡ Some d
    → (d.head ≡ d.tail → ⊥) → slice_get l.tags tag ≡ Some t → slice_get d.held tag ≡ Some held → tag_stands (is_queued_at d.head) t ≡ true
    → IsConsistentOfTags geometry (device_took lane (front_entry geometry.mediator lane d w.host) w)
took-consistent host_bytes geometry w lane tag l d held t laid is at there waits found under next =
    let before = is.lanes lane l d at there in
    let below = slice_get-below w.lanes lane l at in
    let a = queued-at geometry lane tag d.head w.host l.head d held t (before.tags tag t held found under) next in
    let tags = before.positions.tags in
    let among = slice_get-below l.tags tag t found in
    let entry = share_entry a.share a.guest.namespace a.guest a.command.entry geometry.mediator lane tag in
    let behind = lane-taken host_bytes (length w.lanes) geometry laid lane below w.host l d before waits tag t held found under a in
    let now = record d { head = next_slot ring_size d.head; held = set d.held tag (Some (held_of entry w.host)) } in
    took-world (IsConsistentOfTags geometry) geometry w lane tag l d held t a (omega (arith, tags, among)) at there found
    (world-lane geometry w lane w.host (tag_changed tag (Flying a.command a.share InDevice) l) now laid.pages (λ x apart b y low high. refl) behind is)

pub device_takes-consistent : (host_bytes : ℕ) (geometry : Geometry) (w : World) (lane : ℕ) → IsLaidOut host_bytes (length w.lanes) geometry
    → IsConsistentOfTags geometry w → IsConsistentOfTags geometry (step geometry (event.DevTake lane) w).world
unfolding step
device_takes-consistent host_bytes geometry w lane laid is =
    device-walk (IsConsistentOfTags geometry) w is (slice_get w.device lane) (λ d. device_take geometry.mediator lane d w) (λ d there.
    either (IsConsistentOfTags geometry) w is (is_empty d.head d.tail) _ _ (λ none. is) (λ some.
    (let among = slice_get-below w.device lane d there in
    let sides = is.sides in
    let l = slice_get-there w.lanes lane (omega (arith, among, sides)) in
    let before = is.lanes lane l.0 d l.1 there in
    let waits : d.head ≡ d.tail → ⊥ = eqb-false d.head d.tail some in
    let next = before.queued d.head (between-head d.head d.tail before.positions.head before.positions.tail (far-some d.head d.tail before.positions.head before.positions.tail waits)) in
    let tags = before.positions.tags in
    let sized = before.positions.held in
    let inside = slice_get-below l.0.tags next.tag next.there next.is in
    let held = slice_get-there d.held next.tag (omega (arith, tags, sized, inside)) in
    took-consistent host_bytes geometry w lane next.tag l.0 d held.0 next.there laid is l.1 there waits next.is held.1 next.stands)))
