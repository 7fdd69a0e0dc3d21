-- Tags of a guest's command change in the world, and the command on the private controller alike: one stands for the other still.
use Rattle.std.proofs.Common.{◌≡◌, ℕ, ◌/◌, ◌%◌, ◌<◌, inl, inr, Bool, true, false, cond, ◌==◌, slice_get, Option, Some, None}
use Rattle.std.proofs.Common.{arith, refl, sym, ap, ◌∙◌, eq-eqb, eqb-true, subst}
use Rattle.std.proofs.lemmas.Bool.{cases_eq, ne_eqb}
use Rattle.nv_model.specs.Controller.{Controller}
use Rattle.nv_model.specs.Memory.{image}
use Rattle.nv_model.specs.Private.{Private, put, Taken as Member}
use Rattle.nv_ns.specs.Extents.{place_in}
use Rattle.nv_world_model.specs.Area.{bounce_page, tag_count}
use Rattle.nv_world_model.specs.Device.{Held}
use Rattle.nv_world_model.specs.Geometry.{Geometry, Guest, regions_of}
use Rattle.nv_world_model.specs.Seat.{member_in, members, name_of, rest_at, rests_of, tag_rest}
use Rattle.nv_world_model.specs.View.{own_held, own_tag}
use Rattle.nv_world_model.specs.World.{Tag, World, is_that, leader_of, tag_of}
use Rattle.nv_world_model.proofs.SeatTags.{name-lane, name-tag}
use Rattle.nv_laws_sound.specs.Consistent.{IsConsistent}
use Rattle.nv_laws.specs.Leaving.{IsBytes}
use Rattle.nv_laws.proofs.others.Behind.{IsRetagged}
use Rattle.nv_laws.specs.Related.{IsTagRelated, Related, hides}
use Rattle.nv_laws.proofs.related.Rests.{group-same, guest-part, led, member-elsewhere, member-own, member-rests, rests-by}
use Rattle.nv_laws.proofs.related.Views.{device_of, own-is, own-there, page-left, rest-kept, status-left, status_in, tag-kept}
use Rattle.nv_laws.proofs.related.Within.{there-fit}

-- the guest's command under a tag's name
pub members-of : (geometry : Geometry) (z : World) (number lane tag : ℕ) → tag < tag_count
    → members geometry z number (name_of lane tag) ≡ member_in (tag_of z lane tag) tag number (rests_of geometry z lane tag)
unfolding members
members-of geometry z number lane tag below = rw (name-lane lane tag below, name-tag lane tag below) refl

-- tags of a lane have changed that go by this one or are free, before and behind, and the guest's memory and blocks have not; nor have its other
-- tags' pages and completions
pub record IsRetold (geometry : Geometry) (number : ℕ) (guest : Guest) (lane leader : ℕ) (touched : ℕ → Bool) (w z : World) : Type 0 where
  pub tags : (a b : ℕ) → ((a ≡ lane) → touched b ≡ true → ⊥) → tag_of z a b ≡ tag_of w a b
  pub held : (a b : ℕ) → ((a ≡ lane) → touched b ≡ true → ⊥) → device_of z a b ≡ device_of w a b
  pub before : (b other : ℕ) → touched b ≡ true → (other ≡ leader → ⊥) → led other (tag_of w lane b) ≡ false
  pub behind : (b other : ℕ) → touched b ≡ true → (other ≡ leader → ⊥) → led other (tag_of z lane b) ≡ false
  pub bytes : (a b : ℕ) (t : Tag) (addr : ℕ) → ((a ≡ lane) → touched b ≡ true → ⊥) → own_tag number (tag_of w a b) ≡ Some t → IsBytes geometry.mediator a b t addr
      → w.host addr ≡ z.host addr
  pub memory : image (regions_of guest) w.host ≡ image (regions_of guest) z.host
  pub disk : z.disk ≡ w.disk
  pub kept : z.kept ≡ w.kept

-- so it is where one tag has changed, and goes by the tag that it went by
pub one-told : (geometry : Geometry) (number : ℕ) (guest : Guest) (lane leader tag : ℕ) (t new : Tag) (w z : World) → IsRetagged lane tag new w z
    → tag_of w lane tag ≡ Some t → leader_of t ≡ Some leader → leader_of new ≡ Some leader
    → ((a b : ℕ) (u : Tag) (addr : ℕ) → ((a ≡ lane) → (b ≡ tag) → ⊥) → own_tag number (tag_of w a b) ≡ Some u → IsBytes geometry.mediator a b u addr
    → w.host addr ≡ z.host addr)
    → image (regions_of guest) w.host ≡ image (regions_of guest) z.host → z.disk ≡ w.disk → z.kept ≡ w.kept
    → IsRetold geometry number guest lane leader (λ b. b == tag) w z
one-told geometry number guest lane leader tag t new w z changed there was now bytes memory disk kept =
    record {
      tags = (λ a b away. changed.tags a b (apart a b away));
      held = (λ a b away. changed.held a b (apart a b away));
      before = (λ b other is differ. led-only w t was there b other is differ);
      behind = (λ b other is differ. led-only z new now changed.here b other is differ);
      bytes = (λ a b u addr away own of_it. bytes a b u addr (apart a b away) own of_it);
      memory = memory;
      disk = disk;
      kept = kept;
    }
  where
    apart : (a b : ℕ) → ((a ≡ lane) → (b == tag) ≡ true → ⊥) → (a ≡ lane) → (b ≡ tag) → ⊥
    apart a b away same also = away same (eq-eqb b tag also)

    led-only : (x : World) (u : Tag) → leader_of u ≡ Some leader → tag_of x lane tag ≡ Some u → (b other : ℕ) → (b == tag) ≡ true → (other ≡ leader → ⊥)
        → led other (tag_of x lane b) ≡ false
    led-only x u leads here b other is differ =
        subst (λ n. led other (tag_of x lane n) ≡ false) (sym (eqb-true b tag is))
        (ap (led other) here ∙ ap (is_that other) leads ∙ ne_eqb leader other (λ same. differ (sym same)))

-- one of these tags of a lane or another
pub by-touched : (lane : ℕ) (touched : ℕ → Bool) (P : (a b : ℕ) → Type 0) → ((b : ℕ) → touched b ≡ true → P lane b)
    → ((a b : ℕ) → ((a ≡ lane) → touched b ≡ true → ⊥) → P a b) → (a b : ℕ) → P a b
by-touched lane touched P one others a b =
    elim (cases_eq a lane) [
      | inr away ↦ others a b (λ same also. away same)
      | inl same ↦ (elim (touched b) as (λ c. touched b ≡ c → P a b) [
        | true ↦ λ is. subst (λ x. P x b) (sym same) (one b is)
        | false ↦ λ is. others a b (λ here also. (let bad : true ≡ false = sym also ∙ is in cc))
      ]) refl
    ]

module _ (geometry : Geometry) (number : ℕ) (guest : Guest) (w z : World) (fine : IsConsistent geometry w) (lane leader : ℕ) (touched : ℕ → Bool)
    (below : leader < tag_count) (told : IsRetold geometry number guest lane leader touched w z) (p : Private) (related : Related geometry number guest w p) where
  abbrev Away : (a b : ℕ) → Type 0
  Away a b = (a ≡ lane) → touched b ≡ true → ⊥

  -- ---- commands

  -- the tags of another command are the same
  other-led : (a other b : ℕ) → ((a ≡ lane) → (other ≡ leader) → ⊥) → led other (tag_of w a b) ≡ led other (tag_of z a b)
  other-led a other b apart =
      by-touched lane touched (λ x y. ((x ≡ lane) → (other ≡ leader) → ⊥) → led other (tag_of w x y) ≡ led other (tag_of z x y))
      (λ y is away. told.before y other is (λ same. away refl same) ∙ sym (told.behind y other is (λ same. away refl same)))
      (λ x y away apart. ap (led other) (sym (told.tags x y away))) a b apart

  rest-same : (a b : ℕ) (t : Tag) → Away a b → own_tag number (tag_of w a b) ≡ Some t → rest_at geometry w a b ≡ rest_at geometry z a b
  unfolding rest_at
  rest-same a b t away own =
      let here = (own-there number (tag_of w a b) t own).0 in
      ap (λ o. tag_rest o (device_of w a b) (status_in geometry w a)) here
      ∙ rest-kept t (device_of w a b) (status_in geometry w a) (status_in geometry z a)
      (λ at stands. status-left geometry w z a b at t (λ addr bytes. told.bytes a b t addr away own bytes) stands)
      ∙ ap (λ h. tag_rest (Some t) h (status_in geometry z a)) (sym (told.held a b away))
      ∙ sym (ap (λ o. tag_rest o (device_of z a b) (status_in geometry z a)) (told.tags a b away ∙ here))

  -- a tag that goes by another is none of these
  other-away : (a other b : ℕ) → ((a ≡ lane) → (other ≡ leader) → ⊥) → led other (tag_of w a b) ≡ true → Away a b
  other-away a other b apart goes same is =
      let bad : true ≡ false = sym goes ∙ ap (λ x. led other (tag_of w x b)) same ∙ told.before b other is (λ also. apart same also) in cc

  -- it is its guest's
  led-own : (a other b : ℕ) (t : Tag) → own_tag number (tag_of w a other) ≡ Some t → led other (Some t) ≡ true
      → (o : Option Tag) → tag_of w a b ≡ o → led other o ≡ true → (u : Tag) × (own_tag number (tag_of w a b) ≡ Some u)
  led-own a other b t own leads None here goes = cc
  led-own a other b t own leads (Some u) here goes =
      let there = own-there number (tag_of w a other) t own in
      let same = group-same geometry w fine.groups a other b t u there.0 leads here goes in
      (u, own-is number (tag_of w a b) u here (guest-part number u t same ∙ there.1))

  other-rests : (a other : ℕ) (t : Tag) → ((a ≡ lane) → (other ≡ leader) → ⊥) → own_tag number (tag_of w a other) ≡ Some t → led other (Some t) ≡ true
      → rests_of geometry w a other ≡ rests_of geometry z a other
  other-rests a other t apart own leads =
      rests-by geometry w z a other (λ b. other-led a other b apart)
      (λ b goes.
      let u = led-own a other b t own leads (tag_of w a b) refl goes in
      rest-same a b u.0 (other-away a other b apart goes) u.1)

  member-as : (a b : ℕ) (o : Option Tag) → ((a ≡ lane) → (b ≡ leader) → ⊥) → own_tag number (tag_of w a b) ≡ o
      → member_in o b number (rests_of geometry w a b) ≡ member_in o b number (rests_of geometry z a b)
  member-as a b None apart own = refl
  member-as a b (Some t) apart own =
      member-rests (Some t) b number (rests_of geometry w a b) (rests_of geometry z a b) (λ leads mine. other-rests a b t apart own leads)

  other-member : (a b : ℕ) → ((a ≡ lane) → (b ≡ leader) → ⊥)
      → member_in (tag_of w a b) b number (rests_of geometry w a b) ≡ member_in (tag_of z a b) b number (rests_of geometry z a b)
  other-member a b apart =
      by-touched lane touched (λ x y. ((x ≡ lane) → (y ≡ leader) → ⊥)
      → member_in (tag_of w x y) y number (rests_of geometry w x y) ≡ member_in (tag_of z x y) y number (rests_of geometry z x y))
      (λ y is away.
      member-elsewhere (tag_of w lane y) y number (rests_of geometry w lane y) (told.before y y is (λ same. away refl same))
      ∙ sym (member-elsewhere (tag_of z lane y) y number (rests_of geometry z lane y) (told.behind y y is (λ same. away refl same))))
      (λ x y away other.
      member-own (tag_of w x y) y number (rests_of geometry w x y)
      ∙ member-as x y (own_tag number (tag_of w x y)) other refl
      ∙ sym (member-own (tag_of w x y) y number (rests_of geometry z x y))
      ∙ ap (λ o. member_in o y number (rests_of geometry z x y)) (sym (told.tags x y away)))
      a b apart

  -- ---- the other tags

  other-tag : (a b : ℕ) → Away a b → (o : Option Tag) (held : Option Held) → own_tag number (tag_of w a b) ≡ o
      → IsTagRelated o guest held (status_in geometry w a) (bounce_page geometry.mediator a b) w.host p.memory
      → IsTagRelated o guest held (status_in geometry z a) (bounce_page geometry.mediator a b) z.host p.memory
  other-tag a b away None held own was = tt
  other-tag a b away (Some t) held own was =
      tag-kept guest (bounce_page geometry.mediator a b) w.host z.host p.memory told.memory
      (page-left geometry w z a b t (λ addr bytes. told.bytes a b t addr away own bytes)) (status_in geometry w a) (status_in geometry z a) t held
      (λ at stands. status-left geometry w z a b at t (λ addr bytes. told.bytes a b t addr away own bytes) stands)
      (there-fit geometry w a b t fine.of_tags (own-there number (tag_of w a b) t own).0) was

  abbrev TagIs : (a b : ℕ) → Type 0
  TagIs a b =
      IsTagRelated (own_tag number (tag_of z a b)) guest (own_held number (tag_of z a b) (device_of z a b)) (status_in geometry z a)
      (bounce_page geometry.mediator a b) z.host p.memory

  other-is : (a b : ℕ) → Away a b → TagIs a b
  other-is a b away =
      subst (λ h. IsTagRelated (own_tag number (tag_of z a b)) guest (own_held number (tag_of z a b) h) (status_in geometry z a) (bounce_page geometry.mediator a b) z.host p.memory)
      (sym (told.held a b away))
      (subst (λ o. IsTagRelated (own_tag number o) guest (own_held number o (device_of w a b)) (status_in geometry z a) (bounce_page geometry.mediator a b) z.host p.memory)
      (sym (told.tags a b away))
      (other-tag a b away (own_tag number (tag_of w a b)) (own_held number (tag_of w a b) (device_of w a b)) refl (related.tags a b)))

  abbrev Hides : World → (a b addr : ℕ) → Bool
  Hides x a b addr = hides (own_tag number (tag_of x a b)) (own_held number (tag_of x a b) (device_of x a b)) addr

  other-hides : (a b addr : ℕ) → Away a b → Hides w a b addr ≡ Hides z a b addr
  other-hides a b addr away =
      ap (λ o. hides (own_tag number o) (own_held number o (device_of w a b)) addr) (sym (told.tags a b away))
      ∙ ap (λ h. hides (own_tag number (tag_of z a b)) (own_held number (tag_of z a b) h) addr) (sym (told.held a b away))

  -- with another member under its name
  module _ (member : Option Member) (c : Controller) where
    pub told-bag : member ≡ member_in (tag_of z lane leader) leader number (rests_of geometry z lane leader)
        → (name : ℕ) → put p.bag (name_of lane leader) member name ≡ members geometry z number name
    unfolding members
    told-bag is name =
        elim (cases_eq name (name_of lane leader)) [
          | inl same ↦
              ap (λ b. cond b member (p.bag name)) (eq-eqb name (name_of lane leader) same) ∙ is ∙ sym (members-of geometry z number lane leader below)
              ∙ sym (ap (λ n. members geometry z number n) same)
          | inr other ↦
              ap (λ b. cond b member (p.bag name)) (ne_eqb name (name_of lane leader) other) ∙ related.bag name
              ∙ other-member (name / tag_count) (name % tag_count) (λ same also. other (omega (arith, same, also)))
        ]

    pub retag-related : slice_get z.controllers number ≡ Some c
        → ((b addr : ℕ) → touched b ≡ true → Hides z lane b addr ≡ false → Hides w lane b addr ≡ false)
        → member ≡ member_in (tag_of z lane leader) leader number (rests_of geometry z lane leader) → ((b : ℕ) → touched b ≡ true → TagIs lane b)
        → Related geometry number guest z (record p { bag = put p.bag (name_of lane leader) member; controller = c })
    retag-related there hidden is each =
        record {
          controller = there;
          blocks = (λ lba offset inside. related.blocks lba offset inside ∙ sym (ap (λ d. d (place_in guest.namespace lba) offset) told.disk));
          marks = (λ lba inside. related.marks lba inside ∙ sym (ap (λ k. k (place_in guest.namespace lba)) told.kept));
          memory = (λ addr mapped none.
              related.memory addr mapped
              (by-touched lane touched (λ a b. Hides w a b addr ≡ false) (λ b touched. hidden b addr touched (none lane b)) (λ a b away. other-hides a b addr away ∙ none a b))
              ∙ ap (λ m. m addr) told.memory);
          bag = told-bag is;
          tags = by-touched lane touched TagIs each other-is;
        }
