-- Whether a private controller stands for the world depends on its guest's view alone, and on the marks of its blocks.
use Rattle.std.proofs.Common.{◌≡◌, ℕ, ◌+◌, ◌*◌, ◌/◌, ◌%◌, ◌<◌, ◌≤◌, Bool, true, false, cond, List, [], All, drop}
use Rattle.std.proofs.Common.{slice_get, Option, Some, None, arith, refl, sym, ap, ◌∙◌, eq-eqb, subst}
use Rattle.std.proofs.lemmas.List.{length-drop, length-take}
use mathlib.Core.Path.{fun_ext}
use Rattle.nv_entry.specs.Completion.{status_of}
use Rattle.nv_entry.specs.Status.{StatusField}
use Rattle.nv_mem.proofs.PlaceLists.{length-places_of}
use Rattle.nv_mem.specs.Places.{Place, At, places_of, total_len}
use Rattle.nv_model.specs.Dialogue.{asked}
use Rattle.nv_model.specs.Judge.{Go, Work, judge}
use Rattle.nv_model.specs.Parts.{ShowsOn}
use Rattle.nv_model.specs.Limits.{block, most_bytes}
use Rattle.nv_model.specs.Memory.{image}
use Rattle.nv_model.specs.Private.{Private, places_of_block, verdict_in}
use Rattle.nv_model.specs.Queue.{cqe_size}
use Rattle.nv_ns.specs.Extents.{blocks_in, place_in}
use Rattle.nv_world_model.specs.Area.{bounce_page, completion_slot, tag_count}
use Rattle.nv_world_model.specs.Contained.{is_answered_at, tag_stands}
use Rattle.nv_world_model.specs.Device.{Held}
use Rattle.nv_world_model.specs.Geometry.{Geometry, Guest, regions_of, shape_of}
use Rattle.nv_world_model.specs.Plan.{Answer, Bounced, Direct, NoData, Plan}
use Rattle.nv_world_model.specs.Share.{Share}
use Rattle.nv_world_model.specs.Seat.{completion_at, held_in, member_in, members, rest, rest_at, rests_of, tag_rest, tells_difference, work_of}
use Rattle.nv_world_model.specs.View.{IsSameView, is_tag_of, own_held, own_tag}
use Rattle.nv_world_model.specs.World.{Answered, Command, Ended, Flying, Free, InDevice, Queued, Standing, Tag, Taken, World, tag_of}
use Rattle.nv_laws_sound.specs.Area.{SameBetween}
use Rattle.nv_laws_sound.specs.Consistent.{IsConsistent}
use Rattle.nv_laws_sound.proofs.GroupsKept.{HasGroups}
use Rattle.nv_laws_sound.proofs.Lists.{slice_get-below}
use Rattle.nv_laws_sound.proofs.Shows.{bytes_from-between}
use Rattle.nv_laws.specs.Leaving.{InCompletion, InPages, IsBytes, IsShownAt}
use Rattle.nv_laws.specs.Related.{HasBuffer, HasEndedWell, IsMovedStatus, IsTagRelated, IsUnderWay, NoneHides, Related, StandsWell, hides, left_where, none_left}
use Rattle.nv_laws.proofs.related.Rests.{group-same, guest-part, led, member-own, member-rests, rests-by}
use Rattle.nv_laws.proofs.related.Within.{IsFit, IsFitOr, IsFitTag, there-fit}

-- ---- buffers lie in their pages

-- a place of a block of a transfer is one of the transfer's
pub block-place : (work : Work) (index i : ℕ) (x : Place) → slice_get (places_of_block work index) i ≡ Some x
    → (i < block) × (block * index + i < total_len work.pieces)
block-place work index i x at =
    let below = slice_get-below (places_of_block work index) i x at in
    let taken = length-take block (drop (block * index) (places_of work.pieces)) in
    let dropped = length-drop (block * index) (places_of work.pieces) in
    let all = length-places_of work.pieces in
    (omega (arith, below, taken, dropped, all), omega (arith, below, taken, dropped, all))

-- ---- a tag

-- a tag stands well by the status of its own completion alone
pub status-kept : (f g : ℕ → StatusField) (command : Command) (standing : Standing) (share : Share) (held : Option Held)
    → ((at : ℕ) → tag_stands (is_answered_at at) (Flying command share standing) ≡ true → f at ≡ g at)
    → StandsWell standing share.plan held f → StandsWell standing share.plan held g
status-kept f g command (Queued at) share held statuses was = tt
status-kept f g command InDevice share None statuses was = tt
status-kept f g command InDevice share (Some h) statuses was = was
status-kept f g command (Answered at) share held statuses was = subst (IsMovedStatus share.plan) (statuses at (eq-eqb at at refl)) was

module _ (guest : Guest) (bounce : ℕ) (host other memory : ℕ → ℕ) (same : image (regions_of guest) host ≡ image (regions_of guest) other)
    (pages : SameBetween host other bounce (bounce + most_bytes)) where
  buffer-kept : (plan : Plan) (left : ℕ → Bool) → ((own : Work) → work_of plan ≡ Some own → total_len own.pieces ≤ most_bytes)
      → HasBuffer plan left bounce host memory → HasBuffer plan left bounce other memory
  buffer-kept (Answer st) left short was = tt
  buffer-kept (NoData work) left short was = tt
  buffer-kept (Direct work) left short was = tt
  buffer-kept (Bounced work) left short was =
      λ index has i addr at.
      let within = block-place work index i (At addr) at in
      let few = short work refl in
      sym (pages (bounce + block * index + i) (omega arith) (omega (arith, within, few))) ∙ was index has i addr at

  pub under_way-kept : (entry : List ℕ) (share : Share) (left : ℕ → Bool) → IsFit share → IsUnderWay guest entry share left bounce host memory
      → IsUnderWay guest entry share left bounce other memory
  under_way-kept entry share left fit was =
      record {
        steady = (λ work is. subst (λ m. verdict_in (shape_of guest) m entry ≡ Go work) same (was.steady work is));
        buffer = buffer-kept share.plan left (λ own is. (fit own is).short) was.buffer;
      }

  ended-kept : (share : Option Share) (entry : List ℕ) (st : StatusField) → IsFitOr share → HasEndedWell share guest entry st bounce host memory
      → HasEndedWell share guest entry st bounce other memory
  ended-kept None entry st fit was = tt
  ended-kept (Some share) entry st fit was = (under_way-kept entry share none_left fit was.0, was.1)

  module _ (f g : ℕ → StatusField) where
    pub tag-kept : (t : Tag) (held : Option Held) → ((at : ℕ) → tag_stands (is_answered_at at) t ≡ true → f at ≡ g at) → IsFitTag t
        → IsTagRelated (Some t) guest held f bounce host memory → IsTagRelated (Some t) guest held g bounce other memory
    tag-kept Free held statuses fit was = tt
    tag-kept (Taken command reads) held statuses fit was =
        subst (λ m. All (ShowsOn m (asked m (judge (shape_of guest).mapped (shape_of guest).limit (shape_of guest).blocks command.entry))) reads) same was
    tag-kept (Flying command share standing) held statuses fit was =
        (under_way-kept command.entry share (left_where standing held) fit was.0, status-kept f g command standing share held statuses was.1)
    tag-kept (Ended command st share) held statuses fit was = ended-kept share command.entry st fit was

-- ---- what has come of a tag

-- by the status that its completion has
pub rest-kept : (t : Tag) (held : Option Held) (f g : ℕ → StatusField) → ((at : ℕ) → tag_stands (is_answered_at at) t ≡ true → f at ≡ g at)
    → tag_rest (Some t) held f ≡ tag_rest (Some t) held g
rest-kept Free held f g statuses = refl
rest-kept (Taken command reads) held f g statuses = refl
rest-kept (Flying command share (Queued at)) held f g statuses = refl
rest-kept (Flying command share InDevice) held f g statuses = refl
rest-kept (Flying command share (Answered at)) held f g statuses = ap (λ st. rest [] (tells_difference st)) (statuses at (eq-eqb at at refl))
rest-kept (Ended command st share) held f g statuses = refl

-- a guest's own tag is there
pub own-there : (number : ℕ) (o : Option Tag) (t : Tag) → own_tag number o ≡ Some t → (o ≡ Some t) × (is_tag_of number (Some t) ≡ true)
own-there number o t e = by_test (is_tag_of number o) refl e
  where
    by_test : (b : Bool) → is_tag_of number o ≡ b → cond b o None ≡ Some t → (o ≡ Some t) × (is_tag_of number (Some t) ≡ true)
    by_test true is found = (found, ap (is_tag_of number) (sym found) ∙ is)
    by_test false is found = cc

pub own-is : (number : ℕ) (o : Option Tag) (t : Tag) → o ≡ Some t → is_tag_of number (Some t) ≡ true → own_tag number o ≡ Some t
own-is number o t there mine = ap (own_tag number) there ∙ ap (λ b. cond b (Some t) None) mine

pub own-held-as : (number : ℕ) (o : Option Tag) (t : Tag) (held : Option Held) → o ≡ Some t → is_tag_of number (Some t) ≡ true → own_held number o held ≡ held
own-held-as number o t held there mine = ap (λ x. own_held number x held) there ∙ ap (λ b. cond b held None) mine

-- ---- worlds

-- what the device holds under a tag, and the status in a slot of a completion ring
abbrev pub device_of : World → (lane tag : ℕ) → Option Held
device_of x lane tag = held_in (slice_get x.device lane) tag

abbrev pub status_in : Geometry → World → (lane at : ℕ) → StatusField
status_in geometry x lane at = status_of (completion_at geometry x lane at)

-- a guest's tags are the same, with what the device holds of them, and their pages and completions are
pub record AreTagsLeft (number : ℕ) (geometry : Geometry) (w z : World) : Type 0 where
  pub tags : (lane tag : ℕ) → own_tag number (tag_of w lane tag) ≡ own_tag number (tag_of z lane tag)
  pub held : (lane tag : ℕ) → own_held number (tag_of w lane tag) (device_of w lane tag) ≡ own_held number (tag_of z lane tag) (device_of z lane tag)
  pub area : (addr : ℕ) → IsShownAt number geometry w addr → w.host addr ≡ z.host addr

-- what is left of one tag's bytes: the status of its completion, and its pages
pub status-left : (geometry : Geometry) (w z : World) (lane tag at : ℕ) (t : Tag) → ((addr : ℕ) → IsBytes geometry.mediator lane tag t addr → w.host addr ≡ z.host addr)
    → tag_stands (is_answered_at at) t ≡ true → status_in geometry w lane at ≡ status_in geometry z lane at
status-left geometry w z lane tag at t left stands =
    ap status_of
    (bytes_from-between w.host z.host (completion_slot geometry.mediator lane at) (completion_slot geometry.mediator lane (at + 1)) (completion_slot geometry.mediator lane at) cqe_size
    (λ addr low high. left addr (InCompletion at stands low high)) (omega arith) (omega arith))

pub page-left : (geometry : Geometry) (w z : World) (lane tag : ℕ) (t : Tag) → ((addr : ℕ) → IsBytes geometry.mediator lane tag t addr → w.host addr ≡ z.host addr)
    → SameBetween w.host z.host (bounce_page geometry.mediator lane tag) (bounce_page geometry.mediator lane tag + most_bytes)
page-left geometry w z lane tag t left at low high = left at (InPages (omega (arith, low)) (omega (arith, high)))

module _ (geometry : Geometry) (number : ℕ) (w z : World) (left : AreTagsLeft number geometry w z) where
  bytes-left : (lane tag : ℕ) (t : Tag) → own_tag number (tag_of w lane tag) ≡ Some t → (addr : ℕ) → IsBytes geometry.mediator lane tag t addr
      → w.host addr ≡ z.host addr
  bytes-left lane tag t own addr bytes =
      let there = own-there number (tag_of w lane tag) t own in
      left.area addr (record { lane = lane; tag = tag; t = t; there = there.0; own = there.1; bytes = bytes })

  pub statuses-left : (lane tag at : ℕ) (t : Tag) → own_tag number (tag_of w lane tag) ≡ Some t → tag_stands (is_answered_at at) t ≡ true
      → status_in geometry w lane at ≡ status_in geometry z lane at
  statuses-left lane tag at t own stands = status-left geometry w z lane tag at t (bytes-left lane tag t own) stands

  pub pages-left : (lane tag : ℕ) (t : Tag) → own_tag number (tag_of w lane tag) ≡ Some t
      → SameBetween w.host z.host (bounce_page geometry.mediator lane tag) (bounce_page geometry.mediator lane tag + most_bytes)
  pages-left lane tag t own = page-left geometry w z lane tag t (bytes-left lane tag t own)

  -- of a tag of the guest's
  pub rest-left : (lane b : ℕ) (t : Tag) → own_tag number (tag_of w lane b) ≡ Some t → rest_at geometry w lane b ≡ rest_at geometry z lane b
  unfolding rest_at
  rest-left lane b t own =
      let here = own-there number (tag_of w lane b) t own in
      let there = own-there number (tag_of z lane b) t (sym (left.tags lane b) ∙ own) in
      let same : device_of w lane b ≡ device_of z lane b =
      sym (own-held-as number (tag_of w lane b) t (device_of w lane b) here.0 here.1) ∙ left.held lane b
      ∙ own-held-as number (tag_of z lane b) t (device_of z lane b) there.0 there.1 in
      ap (λ o. tag_rest o (device_of w lane b) (status_in geometry w lane)) here.0
      ∙ rest-kept t (device_of w lane b) (status_in geometry w lane) (status_in geometry z lane) (λ at stands. statuses-left lane b at t own stands)
      ∙ ap (λ h. tag_rest (Some t) h (status_in geometry z lane)) same
      ∙ sym (ap (λ o. tag_rest o (device_of z lane b) (status_in geometry z lane)) there.0)

  module _ (are : HasGroups geometry w.lanes) (are_too : HasGroups geometry z.lanes) where
    -- the tags of a command of the guest's
    led-one : (lane leader b : ℕ) (t : Tag) → own_tag number (tag_of w lane leader) ≡ Some t → led leader (Some t) ≡ true
        → (o : Option Tag) → tag_of w lane b ≡ o → led leader o ≡ true → (u : Tag) × (own_tag number (tag_of w lane b) ≡ Some u)
    led-one lane leader b t own leads None here goes = cc
    led-one lane leader b t own leads (Some u) here goes =
        let there = own-there number (tag_of w lane leader) t own in
        let same = group-same geometry w are lane leader b t u there.0 leads here goes in
        (u, own-is number (tag_of w lane b) u here (guest-part number u t same ∙ there.1))

    led-too : (lane leader b : ℕ) (t : Tag) → own_tag number (tag_of w lane leader) ≡ Some t → led leader (Some t) ≡ true
        → (o : Option Tag) → tag_of z lane b ≡ o → led leader o ≡ true → (u : Tag) × (own_tag number (tag_of z lane b) ≡ Some u)
    led-too lane leader b t own leads None here goes = cc
    led-too lane leader b t own leads (Some u) here goes =
        let there = own-there number (tag_of z lane leader) t (sym (left.tags lane leader) ∙ own) in
        let same = group-same geometry z are_too lane leader b t u there.0 leads here goes in
        (u, own-is number (tag_of z lane b) u here (guest-part number u t same ∙ there.1))

    own-led : (lane leader b : ℕ) (u : Tag) → own_tag number (tag_of w lane b) ≡ Some u → led leader (tag_of w lane b) ≡ led leader (tag_of z lane b)
    own-led lane leader b u own =
        let here = own-there number (tag_of w lane b) u own in
        let there = own-there number (tag_of z lane b) u (sym (left.tags lane b) ∙ own) in
        ap (led leader) here.0 ∙ sym (ap (led leader) there.0)

    led-same : (lane leader b : ℕ) (t : Tag) → own_tag number (tag_of w lane leader) ≡ Some t → led leader (Some t) ≡ true
        → led leader (tag_of w lane b) ≡ led leader (tag_of z lane b)
    led-same lane leader b t own leads =
        (elim (led leader (tag_of w lane b)) as (λ c. led leader (tag_of w lane b) ≡ c → led leader (tag_of w lane b) ≡ led leader (tag_of z lane b)) [
          | true ↦ λ goes. (let u = led-one lane leader b t own leads (tag_of w lane b) refl goes in own-led lane leader b u.0 u.1)
          | false ↦ λ goes. (elim (led leader (tag_of z lane b)) as (λ c. led leader (tag_of z lane b) ≡ c → led leader (tag_of w lane b) ≡ led leader (tag_of z lane b)) [
            | true ↦ λ also. (let u = led-too lane leader b t own leads (tag_of z lane b) refl also in own-led lane leader b u.0 (left.tags lane b ∙ u.1))
            | false ↦ λ also. goes ∙ sym also
          ]) refl
        ]) refl

    rests-left : (lane leader : ℕ) (t : Tag) → own_tag number (tag_of w lane leader) ≡ Some t → led leader (Some t) ≡ true
        → rests_of geometry w lane leader ≡ rests_of geometry z lane leader
    rests-left lane leader t own leads =
        rests-by geometry w z lane leader (λ b. led-same lane leader b t own leads)
        (λ b goes. (let u = led-one lane leader b t own leads (tag_of w lane b) refl goes in rest-left lane b u.0 u.1))

    member-left : (lane tag : ℕ) (o : Option Tag) → own_tag number (tag_of w lane tag) ≡ o
        → member_in o tag number (rests_of geometry w lane tag) ≡ member_in o tag number (rests_of geometry z lane tag)
    member-left lane tag None own = refl
    member-left lane tag (Some t) own =
        member-rests (Some t) tag number (rests_of geometry w lane tag) (rests_of geometry z lane tag) (λ leads mine. rests-left lane tag t own leads)

    pub members-left : (name : ℕ) → members geometry w number name ≡ members geometry z number name
    unfolding members
    members-left name =
        let lane = name / tag_count in
        let tag = name % tag_count in
        member-own (tag_of w lane tag) tag number (rests_of geometry w lane tag)
        ∙ member-left lane tag (own_tag number (tag_of w lane tag)) refl
        ∙ ap (λ o. member_in o tag number (rests_of geometry z lane tag)) (left.tags lane tag)
        ∙ sym (member-own (tag_of z lane tag) tag number (rests_of geometry z lane tag))

  pub hidden-left : (addr : ℕ) → NoneHides number z addr → NoneHides number w addr
  hidden-left addr none lane tag =
      ap (λ o. hides o (own_held number (tag_of w lane tag) (device_of w lane tag)) addr) (left.tags lane tag)
      ∙ ap (λ h. hides (own_tag number (tag_of z lane tag)) h addr) (left.held lane tag) ∙ none lane tag

-- ---- the guest's view

-- it is the same, and its tags' pages and completions are
pub record IsLeft (number : ℕ) (guest : Guest) (geometry : Geometry) (w z : World) : Type 0 where
  pub view : IsSameView number guest geometry w z
  pub area : (addr : ℕ) → IsShownAt number geometry w addr → w.host addr ≡ z.host addr

module _ (geometry : Geometry) (number : ℕ) (guest : Guest) (w z : World) (fine : IsConsistent geometry w) (are : HasGroups geometry z.lanes)
    (left : IsLeft number guest geometry w z) where
  tags-too : AreTagsLeft number geometry w z
  tags-too = record { tags = left.view.tags; held = left.view.held; area = left.area }

  tag-left : (memory : ℕ → ℕ) (lane tag : ℕ) (o : Option Tag) (held : Option Held) → own_tag number (tag_of w lane tag) ≡ o
      → IsTagRelated o guest held (status_in geometry w lane) (bounce_page geometry.mediator lane tag) w.host memory
      → IsTagRelated o guest held (status_in geometry z lane) (bounce_page geometry.mediator lane tag) z.host memory
  tag-left memory lane tag None held own was = tt
  tag-left memory lane tag (Some t) held own was =
      tag-kept guest (bounce_page geometry.mediator lane tag) w.host z.host memory (fun_ext left.view.memory) (pages-left geometry number w z tags-too lane tag t own)
      (status_in geometry w lane) (status_in geometry z lane) t held (λ at stands. statuses-left geometry number w z tags-too lane tag at t own stands)
      (there-fit geometry w lane tag t fine.of_tags (own-there number (tag_of w lane tag) t own).0) was

  -- it stands for the world behind, with the marks that the blocks have there
  pub view-related : (p : Private) (kept : ℕ → Bool) → Related geometry number guest w p
      → ((lba : ℕ) → lba < blocks_in guest.namespace → kept lba ≡ z.kept (place_in guest.namespace lba))
      → Related geometry number guest z (record p { kept = kept })
  view-related p kept was marks =
      record {
        controller = sym left.view.controller ∙ was.controller;
        blocks = (λ lba offset below. was.blocks lba offset below ∙ left.view.blocks lba offset below);
        marks = marks;
        memory = (λ addr there none. was.memory addr there (hidden-left geometry number w z tags-too addr none) ∙ left.view.memory addr);
        bag = (λ name. was.bag name ∙ members-left geometry number w z tags-too fine.groups are name);
        tags = (λ lane tag.
            subst (λ h. IsTagRelated (own_tag number (tag_of z lane tag)) guest h (status_in geometry z lane) (bounce_page geometry.mediator lane tag) z.host p.memory)
            (left.view.held lane tag)
            (subst (λ o. IsTagRelated o guest (own_held number (tag_of w lane tag) (device_of w lane tag)) (status_in geometry z lane) (bounce_page geometry.mediator lane tag) z.host p.memory)
            (left.view.tags lane tag)
            (tag-left p.memory lane tag (own_tag number (tag_of w lane tag)) (own_held number (tag_of w lane tag) (device_of w lane tag)) refl (was.tags lane tag))));
      }
