-- All tags of a guest's command become free, and what is done with that leaves alone what the guest's other commands name: one stands for the other still.
use Rattle.std.proofs.Common.{◌≡◌, ℕ, true, false, List, slice_get, Option, Some, None, refl, sym, ap, ◌∙◌, eqb-true, subst}
use Rattle.std.proofs.lemmas.Bool.{ne_eqb}
use Rattle.nv_mem.specs.GuestMap.{guest_of, mapped}
use Rattle.nv_model.specs.Controller.{Controller}
use Rattle.nv_model.specs.Memory.{image}
use Rattle.nv_model.specs.Private.{Private, put}
use Rattle.nv_world_model.specs.Area.{bounce_page}
use Rattle.nv_world_model.specs.Device.{Held}
use Rattle.nv_world_model.specs.Geometry.{Geometry, Guest, regions_of}
use Rattle.nv_world_model.specs.Seat.{member_in, members, name_of, rests_of}
use Rattle.nv_world_model.specs.View.{is_tag_of, own_held, own_tag}
use Rattle.nv_world_model.specs.World.{Command, Free, Lane, Tag, World, group, is_that, leader_of, tag_of, with_tags}
use Rattle.nv_laws_sound.specs.Groups.{command_of, part_of}
use Rattle.nv_laws_sound.proofs.CountedActs.{HasLane, lane-of}
use Rattle.nv_laws_sound.proofs.Groupings.{goes-of}
use Rattle.nv_laws_sound.proofs.GroupsKept.{HasGroups, freed-groups}
use Rattle.nv_laws.specs.Leaving.{IsShownAt}
use Rattle.nv_laws.specs.Following.{IsReached}
use Rattle.nv_laws.specs.Related.{IsTagRelated, Related, hides}
use Rattle.nv_laws.proofs.related.Changing.{all-touched, touched, with_tags-away, with_tags-here, with_tags-rest}
use Rattle.nv_laws.proofs.related.Rests.{goes-part, group-led, led}
use Rattle.nv_laws.proofs.related.Retold.{IsRetold, by-touched, told-bag}
use Rattle.nv_laws.proofs.related.SeatsRelated.{area-left, seated, tags-left}
use Rattle.nv_laws.proofs.related.Tags.{tag-below}
use Rattle.nv_laws.proofs.related.Undisturbed.{IsTagUntouched, undisturbed}
use Rattle.nv_laws.proofs.related.Views.{AreTagsLeft, device_of, members-left, own-there, pages-left, status_in, statuses-left}
use Rattle.nv_laws.proofs.related.Within.{there-fit}
use Rattle.nv_laws.proofs.headline.Answering.{led-touched}

-- a tag that goes by one goes by no other
led-other : (o : Option Tag) (leader other : ℕ) → led leader o ≡ true → (other ≡ leader → ⊥) → led other o ≡ false
led-other None leader other goes apart = refl
led-other (Some t) leader other goes apart = by (leader_of t) goes
  where
    by : (x : Option ℕ) → is_that leader x ≡ true → is_that other x ≡ false
    by None led_so = cc
    by (Some n) led_so = ne_eqb n other (λ same. apart (sym same ∙ eqb-true n leader led_so))

led-there : (o : Option Tag) (leader : ℕ) → led leader o ≡ true → (t : Tag) × (o ≡ Some t)
led-there None leader goes = cc
led-there (Some t) leader goes = (t, refl)

module _ (host_bytes : ℕ) (geometry : Geometry) (number : ℕ) (guest : Guest) (given : slice_get geometry.guests number ≡ Some guest)
    (w : World) (reached : IsReached host_bytes geometry w) (p : Private) (related : Related geometry number guest w p) (lane tag : ℕ)
    (t : Tag) (command : Command) (there : tag_of w lane tag ≡ Some t) (has : command_of (part_of t) ≡ Some command) (leads : command.leader ≡ tag)
    (host : ℕ → ℕ) (controllers : List Controller) (bytes : (at : ℕ) → guest_of (regions_of guest) at ≡ None → host at ≡ w.host at) where
  abbrev ns : List ℕ
  ns = group w lane tag

  abbrev Away : (a b : ℕ) → Type 0
  Away a b = (a ≡ lane) → touched ns b ≡ true → ⊥

  abbrev y : World
  y = seated w host controllers

  abbrev lanes : List Lane
  lanes = (with_tags lane ns Free y).lanes

  -- the world behind, and one where nothing but these tags has changed
  abbrev z : World
  z = record y { lanes = lanes }

  abbrev x : World
  x = record w { lanes = lanes }

  -- ---- tags

  pub tags-away : (a b : ℕ) → Away a b → tag_of z a b ≡ tag_of w a b
  tags-away a b away = with_tags-away lane ns Free y a b away

  goes : (b : ℕ) → touched ns b ≡ true → led tag (tag_of w lane b) ≡ true
  goes b among = all-touched (λ n. led tag (tag_of w lane n) ≡ true) ns b (group-led w lane tag) among

  tags-free : (b : ℕ) → touched ns b ≡ true → tag_of z lane b ≡ Some Free
  tags-free b among =
      let u = led-there (tag_of w lane b) tag (goes b among) in
      with_tags-here lane ns Free y b u.0 among u.1

  leader-among : touched ns tag ≡ true
  leader-among = led-touched w lane tag tag (ap (led tag) there ∙ goes-part tag t ∙ goes-of tag (part_of t) command has leads)

  retold : IsRetold geometry number guest lane tag (touched ns) w x
  retold =
      record {
        tags = tags-away;
        held = (λ a b away. refl);
        before = (λ b other among apart. led-other (tag_of w lane b) tag other (goes b among) apart);
        behind = (λ b other among apart. ap (led other) (tags-free b among));
        bytes = (λ a b u addr away own by. refl);
        memory = refl;
        disk = refl;
        kept = refl;
      }

  -- ---- what is shown is not of these

  shown-away : (addr : ℕ) (s : IsShownAt number geometry x addr) → Away s.lane s.tag
  shown-away addr s same among =
      let free : Some s.t ≡ Some Free = sym s.there ∙ ap (λ n. tag_of z n s.tag) same ∙ tags-free s.tag among in
      let bad : true ≡ false = sym s.own ∙ ap (is_tag_of number) free in cc

  shown-was : (addr : ℕ) → IsShownAt number geometry x addr → IsShownAt number geometry w addr
  shown-was addr s =
      record {
        lane = s.lane;
        tag = s.tag;
        t = s.t;
        there = sym (tags-away s.lane s.tag (shown-away addr s)) ∙ s.there;
        own = s.own;
        bytes = s.bytes;
      }

  left : AreTagsLeft number geometry x z
  left =
      record {
        tags = (λ a b. refl);
        held = (λ a b. refl);
        area = (λ addr s.
            area-left host_bytes geometry number guest given w reached.laid reached.consistent host controllers bytes addr (shown-was addr s));
      }

  groups : HasGroups geometry lanes
  groups =
      let l : HasLane w lane tag t = lane-of w lane tag t there in
      freed-groups geometry w lane tag l.l command t reached.consistent.groups l.at l.found has leads y l.at reached.consistent.groups

  freed-bag : (name : ℕ) → put p.bag (name_of lane tag) None name ≡ members geometry z number name
  freed-bag name =
      told-bag geometry number guest w x reached.consistent lane tag (touched ns)
      (tag-below host_bytes geometry number guest given w reached p related lane tag t there) retold p related None p.controller
      (sym (ap (λ o. member_in o tag number (rests_of geometry x lane tag)) (tags-free tag leader-among))) name
      ∙ members-left geometry number x z left groups groups name

  -- ---- other tags

  pub was-left : AreTagsLeft number geometry w y
  was-left = tags-left host_bytes geometry number guest given w reached.laid reached.consistent host controllers bytes

  other-hides : (a b addr : ℕ) → Away a b
      → hides (own_tag number (tag_of w a b)) (own_held number (tag_of w a b) (device_of w a b)) addr
      ≡ hides (own_tag number (tag_of z a b)) (own_held number (tag_of z a b) (device_of z a b)) addr
  other-hides a b addr away =
      ap (λ o. hides (own_tag number o) (own_held number o (device_of w a b)) addr) (sym (tags-away a b away))

  module _ (memory : ℕ → ℕ) (c : Controller)
      (untouched : (a b : ℕ) → Away a b → (u : Tag) → own_tag number (tag_of w a b) ≡ Some u → IsTagUntouched u guest w.host host p.memory memory) where
    other-row : (a b : ℕ) → Away a b → (o : Option Tag) (held : Option Held) → own_tag number (tag_of w a b) ≡ o
        → IsTagRelated o guest held (status_in geometry w a) (bounce_page geometry.mediator a b) w.host p.memory
        → IsTagRelated o guest held (status_in geometry z a) (bounce_page geometry.mediator a b) host memory
    other-row a b away None held own was = tt
    other-row a b away (Some u) held own was =
        undisturbed guest (bounce_page geometry.mediator a b) w.host host p.memory memory (pages-left geometry number w y was-left a b u own)
        (status_in geometry w a) (status_in geometry z a) u held (λ at stands. statuses-left geometry number w y was-left a b at u own stands)
        (there-fit geometry w a b u reached.consistent.of_tags (own-there number (tag_of w a b) u own).0) (untouched a b away u own) was

    abbrev TagIs : (a b : ℕ) → Type 0
    TagIs a b =
        IsTagRelated (own_tag number (tag_of z a b)) guest (own_held number (tag_of z a b) (device_of z a b)) (status_in geometry z a)
        (bounce_page geometry.mediator a b) host memory

    other-is : (a b : ℕ) → Away a b → TagIs a b
    other-is a b away =
        subst (λ o. IsTagRelated (own_tag number o) guest (own_held number o (device_of w a b)) (status_in geometry z a) (bounce_page geometry.mediator a b) host memory)
        (sym (tags-away a b away))
        (other-row a b away (own_tag number (tag_of w a b)) (own_held number (tag_of w a b) (device_of w a b)) refl (related.tags a b))

    free-is : (b : ℕ) → touched ns b ≡ true → TagIs lane b
    free-is b among =
        subst (λ o. IsTagRelated (own_tag number o) guest (own_held number o (device_of z lane b)) (status_in geometry z lane) (bounce_page geometry.mediator lane b) host memory)
        (sym (tags-free b among)) tt

    pub freed-related : slice_get controllers number ≡ Some c
        → ((addr : ℕ) → mapped (regions_of guest) addr ≡ true
        → ((a b : ℕ) → Away a b → hides (own_tag number (tag_of w a b)) (own_held number (tag_of w a b) (device_of w a b)) addr ≡ false)
        → memory addr ≡ image (regions_of guest) host addr)
        → Related geometry number guest (with_tags lane ns Free y) (record p { memory = memory; controller = c; bag = put p.bag (name_of lane tag) None })
    freed-related at same =
        subst (λ v. Related geometry number guest v (record p { memory = memory; controller = c; bag = put p.bag (name_of lane tag) None }))
        (sym (with_tags-rest lane ns Free y))
        (record {
          controller = at;
          blocks = related.blocks;
          marks = related.marks;
          memory = (λ addr inside none. same addr inside (λ a b away. other-hides a b addr away ∙ none a b));
          bag = freed-bag;
          tags = by-touched lane (touched ns) TagIs free-is other-is;
        })
