-- The mediator reads the next completion, and the tag that it names ends.
use Rattle.std.proofs.Common.{◌≡◌, ℕ, ◌%◌, ◌<◌, true, false, ◌==◌, set, slice_get, Option, Some, None, arith, refl, sym, ap, ◌∙◌, eqb-true, subst}
use Rattle.std.proofs.lemmas.Bool.{eqb-false, ne_eqb}
use Rattle.nv_entry.specs.Completion.{cid_of as completed_cid, sqid_of, status_of}
use Rattle.nv_entry.specs.Status.{StatusField}
use Rattle.nv_model.specs.Limits.{page}
use Rattle.nv_model.specs.Memory.{bytes_from}
use Rattle.nv_model.specs.Queue.{cqe_size, is_empty, next_slot}
use Rattle.nv_world_model.specs.declared.event.Event.TheVariants as event
use Rattle.nv_world_model.specs.Area.{completion_slot, queue_pair, ring_size}
use Rattle.nv_world_model.specs.Contained.{is_answered_at, is_queued_at, tag_stands}
use Rattle.nv_world_model.specs.Device.{DeviceLane, Held}
use Rattle.nv_world_model.specs.Geometry.{Geometry, Guest}
use Rattle.nv_world_model.specs.Share.{Share}
use Rattle.nv_world_model.specs.Seat.{completion_at}
use Rattle.nv_world_model.specs.Step.{completion_read, ended_at, passed_on, reap, reaped, step}
use Rattle.nv_world_model.specs.World.{Answered, Command, Ended, Flying, Free, InDevice, Lane, Queued, Standing, Tag, Taken, World, changed_at, tag_changed, tag_in, tag_of, with_lane}
use Rattle.nv_laws_sound.specs.Consistent.{IsBetween, IsCommand, IsConsistentOfTags, IsLane, IsPlanned, IsTag, SomeStands, waits_for_device, waits_for_mediator}
use Rattle.nv_laws_sound.proofs.Changes.{world-lane}
use Rattle.nv_laws_sound.proofs.Lists.{count-set, length-set, set-same, set-set, slice_get-below, slice_get-there}
use Rattle.nv_world_model.proofs.Seats.{slice_get-set}
use Rattle.nv_laws_sound.proofs.Retags.{count-kept, stands-kept, tags-with}
use Rattle.nv_laws_sound.proofs.Rings.{between-gone, between-head, between-less, between-was, far, far-less, far-some, next-below}
use Rattle.nv_laws_sound.proofs.TagsKept.{IsUndisturbed, tag-kept}
use Rattle.nv_laws_sound.proofs.Walks.{device-walk, either, lane-walk}

-- ---- the tag whose completion is next

-- a tag whose completion stands in a slot
pub record IsAnsweredAt (geometry : Geometry) (lane tag at : ℕ) (host : ℕ → ℕ) (held : Option Held) (t : Tag) : Type 0 where
  pub command : Command
  pub share : Share
  pub flies : t ≡ Flying command share (Answered at)
  pub guest : Guest
  pub is : IsCommand geometry command guest
  pub planned : IsPlanned guest command.entry share
  pub identifier : completed_cid (bytes_from host (completion_slot geometry.mediator lane at) cqe_size) ≡ tag
  pub queue : sqid_of (bytes_from host (completion_slot geometry.mediator lane at) cqe_size) ≡ queue_pair lane
  pub not_held : held ≡ None

pub answered-at : (geometry : Geometry) (lane tag at : ℕ) (host : ℕ → ℕ) (head : ℕ) (d : DeviceLane) (held : Option Held) (t : Tag)
    → IsTag geometry lane tag host head d held t → tag_stands (is_answered_at at) t ≡ true → IsAnsweredAt geometry lane tag at host held t
answered-at geometry lane tag at host head d held Free is stands = cc
answered-at geometry lane tag at host head d held (Taken command reads) is stands = cc
answered-at geometry lane tag at host head d held (Flying command share (Queued slot)) is stands = cc
answered-at geometry lane tag at host head d held (Flying command share InDevice) is stands = cc
answered-at geometry lane tag at host head d held (Flying command share (Answered slot)) is stands =
    let same = eqb-true slot at stands in
    record {
      command = command;
      share = share;
      flies = ap (λ s. Flying command share (Answered s)) same;
      guest = is.guest;
      is = is.is;
      planned = is.planned;
      identifier = subst (λ s. completed_cid (bytes_from host (completion_slot geometry.mediator lane s) cqe_size) ≡ tag) same is.stands.0.identifier;
      queue = subst (λ s. sqid_of (bytes_from host (completion_slot geometry.mediator lane s) cqe_size) ≡ queue_pair lane) same is.stands.0.queue;
      not_held = is.stands.1;
    }
answered-at geometry lane tag at host head d held (Ended command st share) is stands = cc

-- ---- the lane

module _ (geometry : Geometry) (lane : ℕ) (host : ℕ → ℕ) (l : Lane) (d : DeviceLane) (aligned : geometry.mediator % page ≡ 0)
    (is : IsLane geometry lane host l d) (waits : l.head ≡ d.posted → ⊥) (tag : ℕ) (command : Command) (share : Share) (st : StatusField)
    (identifier : completed_cid (bytes_from host (completion_slot geometry.mediator lane l.head) cqe_size) ≡ tag)
    (at : slice_get l.tags tag ≡ Some (Flying command share (Answered l.head))) (under : slice_get d.held tag ≡ Some None) where
  -- the lane behind it
  abbrev pub read_lane : Lane
  read_lane = tag_changed tag (Ended command st (Some share)) (completion_read l)

  some-waits : 0 < far l.head d.posted
  some-waits = far-some l.head d.posted is.positions.read is.positions.posted waits

  -- another tag is undisturbed: no other stands in that slot
  read-undisturbed : (other : ℕ) (t : Tag) (held : Option Held) → (other == tag) ≡ false → IsTag geometry lane other host l.head d held t
      → IsUndisturbed geometry.mediator lane other host host l.head (next_slot ring_size l.head) d d t
  read-undisturbed other t held apart there =
      record {
        pages = (λ x low high. refl);
        queued = (λ slot stands between. (between, (λ x low high. refl)));
        answered = (λ slot stands between.
            (between-less l.head d.posted slot is.positions.read is.positions.posted between (λ same. not_there slot stands same), (λ x low high. refl)));
      }
    where
      not_there : (slot : ℕ) → tag_stands (is_answered_at slot) t ≡ true → slot ≡ l.head → ⊥
      not_there slot stands same =
          let found = answered-at geometry lane other slot host l.head d held t there stands in
          let here : completed_cid (bytes_from host (completion_slot geometry.mediator lane l.head) cqe_size) ≡ other =
          subst (λ s. completed_cid (bytes_from host (completion_slot geometry.mediator lane s) cqe_size) ≡ other) same found.identifier in
          eqb-false other tag apart (sym here ∙ identifier)

  answers-left : (place : ℕ) → IsBetween (next_slot ring_size l.head) d.posted place → SomeStands (is_answered_at place) (set l.tags tag (Ended command st (Some share)))
  answers-left place between =
      stands-kept (is_answered_at place) l.tags tag (Flying command share (Answered l.head)) (Ended command st (Some share)) at
      (ne_eqb l.head place (λ same. gone same))
      (is.answered place (between-was l.head d.posted place is.positions.read is.positions.posted some-waits between))
    where
      gone : l.head ≡ place → ⊥
      gone same = between-gone l.head d.posted is.positions.read is.positions.posted some-waits (subst (IsBetween (next_slot ring_size l.head) d.posted) (sym same) between)

  pub lane-read : (guest : Guest) → IsCommand geometry command guest → IsPlanned guest command.entry share → IsLane geometry lane host read_lane d
  lane-read guest whose planned =
      record {
        positions = record {
          head = is.positions.head;
          tail = is.positions.tail;
          posted = is.positions.posted;
          read = next-below l.head is.positions.read;
          tags = length-set l.tags tag (Ended command st (Some share)) ∙ is.positions.tags;
          held = is.positions.held;
        };
        tags =
            subst (λ helds. (other : ℕ) (x : Tag) (o : Option Held) → slice_get (set l.tags tag (Ended command st (Some share))) other ≡ Some x
            → slice_get helds other ≡ Some o → IsTag geometry lane other host (next_slot ring_size l.head) d o x)
            (set-same d.held tag None under)
            (tags-with (λ other o x. IsTag geometry lane other host (next_slot ring_size l.head) d o x) l.tags d.held tag (Ended command st (Some share)) None
            (record { guest = guest; is = whose; planned = planned; not_held = refl })
            (λ other x o apart here there.
            tag-kept geometry lane other host host aligned l.head (next_slot ring_size l.head) d d o x
            (read-undisturbed other x o apart (is.tags other x o here there)) (is.tags other x o here there)));
        queued = (λ place between. stands-kept (is_queued_at place) l.tags tag (Flying command share (Answered l.head)) (Ended command st (Some share)) at refl (is.queued place between));
        answered = answers-left;
        queued_count = count-kept waits_for_device l.tags tag (Flying command share (Answered l.head)) (Ended command st (Some share)) at refl ∙ is.queued_count;
        answered_count =
            (let changed = count-set (tag_stands waits_for_mediator) l.tags tag (Flying command share (Answered l.head)) (Ended command st (Some share)) at in
            let less = far-less l.head d.posted is.positions.read is.positions.posted some-waits in
            let many = is.answered_count in
            omega (arith, changed, less, many));
      }

-- ---- the event

-- a tag that was handed on ends, and its lane has read a completion
pub ended-is : (w : World) (lane tag : ℕ) (l : Lane) (command : Command) (share : Share) (before : Standing) (st : StatusField)
    → slice_get w.lanes lane ≡ Some l → slice_get l.tags tag ≡ Some (Flying command share before)
    → ended_at (tag_of w lane tag) st lane tag (with_lane lane completion_read w)
    ≡ record w { lanes = set w.lanes lane (tag_changed tag (Ended command (passed_on st) (Some share)) (completion_read l)) }
ended-is w lane tag l command share before st at found =
    let z = with_lane lane completion_read w in
    let now = tag_changed tag (Ended command (passed_on st) (Some share)) in
    let here : tag_of w lane tag ≡ Some (Flying command share before) = ap (λ o. tag_in o tag) at ∙ found in
    let read : set w.lanes lane (completion_read l) ≡ changed_at (slice_get w.lanes lane) lane completion_read w.lanes =
    sym (ap (λ o. changed_at o lane completion_read w.lanes) at) in
    let there : slice_get (set w.lanes lane (completion_read l)) lane ≡ Some (completion_read l) = slice_get-set w.lanes lane l (completion_read l) at in
    ap (λ o. ended_at o st lane tag z) here
    ∙ sym (ap (λ ls. record w { lanes = changed_at (slice_get ls lane) lane now ls }) read)
    ∙ ap (λ o. record w { lanes = changed_at o lane now (set w.lanes lane (completion_read l)) }) there
    ∙ ap (λ ls. record w { lanes = ls }) (set-set w.lanes lane (completion_read l) (now (completion_read l)))

-- the completion that is next is that of one tag
reaped-consistent : (geometry : Geometry) (w : World) (lane tag : ℕ) (l : Lane) (d : DeviceLane) (held : Option Held) (t : Tag)
    → geometry.mediator % page ≡ 0 → IsConsistentOfTags geometry w → slice_get w.lanes lane ≡ Some l → slice_get w.device lane ≡ Some d
    → (l.head ≡ d.posted → ⊥) → slice_get l.tags tag ≡ Some t → slice_get d.held tag ≡ Some held → tag_stands (is_answered_at l.head) t ≡ true
    → IsConsistentOfTags geometry (reaped lane (completion_at geometry w lane l.head) w)
unfolding reaped
reaped-consistent geometry w lane tag l d held t aligned is at there waits found under stands =
    let before = is.lanes lane l d at there in
    let a = answered-at geometry lane tag l.head w.host l.head d held t (before.tags tag t held found under) stands in
    let flies : slice_get l.tags tag ≡ Some (Flying a.command a.share (Answered l.head)) = found ∙ ap (λ x. Some x) a.flies in
    let empty : slice_get d.held tag ≡ Some None = under ∙ ap (λ x. Some x) a.not_held in
    let completion = completion_at geometry w lane l.head in
    let st = status_of completion in
    let behind = lane-read geometry lane w.host l d aligned before waits tag a.command a.share (passed_on st) a.identifier flies empty a.guest a.is a.planned in
    let now = tag_changed tag (Ended a.command (passed_on st) (Some a.share)) (completion_read l) in
    let whole = world-lane geometry w lane w.host now d aligned (λ x apart below y low high. refl) behind is in
    let same_device : IsConsistentOfTags geometry (record w { lanes = set w.lanes lane now }) =
    subst (λ ds. IsConsistentOfTags geometry (record w { lanes = set w.lanes lane now; device = ds })) (set-same w.device lane d there) whole in
    subst (λ n. IsConsistentOfTags geometry (ended_at (tag_of w lane n) st lane n (with_lane lane completion_read w))) (sym a.identifier)
    (subst (IsConsistentOfTags geometry) (sym (ended-is w lane tag l a.command a.share (Answered l.head) st at flies)) same_device)

pub reaps-consistent : (geometry : Geometry) (w : World) (lane : ℕ) → geometry.mediator % page ≡ 0 → IsConsistentOfTags geometry w
    → IsConsistentOfTags geometry (step geometry (event.Reap lane) w).world
unfolding step
reaps-consistent geometry w lane aligned is =
    lane-walk (IsConsistentOfTags geometry) w is (slice_get w.lanes lane) _ (λ l at.
    device-walk (IsConsistentOfTags geometry) w is (slice_get w.device lane) (λ d. reap geometry lane l d w) (λ d there.
    either (IsConsistentOfTags geometry) w is (is_empty l.head d.posted) _ _ (λ none. is) (λ some.
    (let before = is.lanes lane l d at there in
    let waits : l.head ≡ d.posted → ⊥ = eqb-false l.head d.posted some in
    let next = before.answered l.head (between-head l.head d.posted before.positions.read before.positions.posted (far-some l.head d.posted before.positions.read before.positions.posted waits)) in
    let tags = before.positions.tags in
    let sized = before.positions.held in
    let among = slice_get-below l.tags next.tag next.there next.is in
    let held = slice_get-there d.held next.tag (omega (arith, tags, sized, among)) in
    reaped-consistent geometry w lane next.tag l d held.0 next.there aligned is at there waits next.is held.1 next.stands))))
