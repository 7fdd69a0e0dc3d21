-- Worlds that look alike to a guest look alike to it behind changes of tags, one after the other, that show nothing.
use Rattle.std.proofs.Common.{◌≡◌, ℕ, true, false, ◌==◌, List, [], ◌∷◌, slice_get, Option, Some, None, refl, sym, ap}
use Rattle.std.proofs.Common.{◌∙◌}
use Rattle.std.specs.List.{All, list_any}
use Rattle.std.specs.Option.{option_map}
use Rattle.std.proofs.lemmas.List.Elements.{All-cons, All-head, All-nil, All-tail, All-weaker}
use Rattle.nv_entry.specs.Status.{StatusField}
use Rattle.nv_entry.specs.StatusCode.{done_with}
use Rattle.nv_entry.specs.declared.status_code.StatusCode.TheVariants.{Success}
use Rattle.nv_world_model.specs.Device.{DeviceLane}
use Rattle.nv_world_model.specs.Geometry.{Geometry, Guest}
use Rattle.nv_world_model.specs.Seat.{held_in}
use Rattle.nv_world_model.specs.Step.{ended_at_once}
use Rattle.nv_world_model.specs.View.{IsAlike, is_tag_of, lane_numbers, own_held, ring_numbers}
use Rattle.nv_world_model.specs.World.{Command, Ended, Lane, Tag, World, tag_changed, tag_in, tag_of, with_tag, with_tags}
use Rattle.nv_laws_sound.proofs.Folds.{HasTag, tag_of-other}
use Rattle.nv_laws_sound.proofs.Lists.{set-same, some-same}
use Rattle.nv_laws_sound.proofs.Numbers.{AreDistinct}
use Rattle.nv_laws_sound.proofs.Retags.{with_tag-is}
use Rattle.nv_laws.proofs.others.AlikeLanes.{lane-alike}
use Rattle.nv_laws.proofs.others.AlikeReplies.{lanes-same, rings-same}
use Rattle.nv_laws.proofs.others.AlikeWalks.{IsInBoth, held-too, tag-too}
use Rattle.nv_laws.proofs.others.Behind.{numbers-retagged}
use Rattle.nv_laws.proofs.others.Shown.{in_span}
use Rattle.nv_laws.proofs.others.ShownTags.{tag_spans}

-- a tag that is there is in a lane
lane-of-tag : (o : Option Lane) (tag : ℕ) (t : Tag) → tag_in o tag ≡ Some t → (l : Lane) × (o ≡ Some l) × (slice_get l.tags tag ≡ Some t)
lane-of-tag None tag t e = cc
lane-of-tag (Some l) tag t e = (l, refl, e)

-- a tag of that guest's
abbrev pub IsMine : (number : ℕ) → Tag → Type 0
IsMine number t = is_tag_of number (Some t) ≡ true

module _ (geometry : Geometry) (number : ℕ) (guest : Guest) (given : slice_get geometry.guests number ≡ Some guest) where
  abbrev Alike : World → World → Type 0
  Alike v u = IsAlike number guest geometry v u

  -- nothing is shown of such a tag
  abbrev pub ShowsNothing : (lane : ℕ) → Tag → Type 0
  ShowsNothing lane now = (v : World) (tag addr : ℕ) → list_any (in_span addr) (tag_spans guest geometry v lane tag now) ≡ false

  -- a tag in both, of which the device holds the same, so far as it is to be known
  pub record IsPair (w z : World) (lane : ℕ) (now : Tag) (tag : ℕ) : Type 0 where
    pub t : Tag
    pub s : Tag
    pub here : tag_of w lane tag ≡ Some t
    pub there : tag_of z lane tag ≡ Some s
    pub held : own_held number (Some now) (held_in (slice_get w.device lane) tag) ≡ own_held number (Some now) (held_in (slice_get z.device lane) tag)

  pub tag-alike : (w z : World) → Alike w z → (lane tag : ℕ) (d e : DeviceLane) (now : Tag) → slice_get w.device lane ≡ Some d → slice_get z.device lane ≡ Some e
      → IsPair w z lane now tag
      → ((addr : ℕ) → list_any (in_span addr) (tag_spans guest geometry (with_tag lane tag now w) lane tag now) ≡ false)
      → Alike (with_tag lane tag now w) (with_tag lane tag now z)
  tag-alike w z alike lane tag d e now there again p nothing =
      let l = lane-of-tag (slice_get w.lanes lane) tag p.t p.here in
      let m = lane-of-tag (slice_get z.lanes lane) tag p.s p.there in
      let numbers : lane_numbers l.0 ≡ lane_numbers m.0 =
      some-same (lane_numbers l.0) (lane_numbers m.0)
      (sym (ap (option_map lane_numbers) l.1) ∙ lanes-same geometry w z number guest given alike lane ∙ ap (option_map lane_numbers) m.1) in
      let rings : ring_numbers d ≡ ring_numbers e =
      some-same (ring_numbers d) (ring_numbers e)
      (sym (ap (option_map ring_numbers) there) ∙ rings-same geometry w z number guest given alike lane ∙ ap (option_map ring_numbers) again) in
      let x : IsInBoth w z lane tag p.t p.s = record {
        l = l.0;
        m = m.0;
        d = d;
        e = e;
        lane_one = l.1;
        lane_two = m.1;
        device_one = there;
        device_two = again;
        tag_one = l.2;
        tag_two = m.2;
        lanes = numbers;
        rings = rings;
      } in
      lane-alike geometry number guest w z alike lane tag p.t p.s now x (tag_changed tag now l.0) (tag_changed tag now m.0) d e
      (with_tag lane tag now w) (with_tag lane tag now z) refl refl (numbers-retagged l.0 m.0 tag now numbers)
      (ap (λ (v : World). v.lanes) (with_tag-is lane tag now w l.0 l.1)) (ap (λ (v : World). v.lanes) (with_tag-is lane tag now z m.0 m.1))
      (sym (set-same w.device lane d there)) (sym (set-same z.device lane e again)) rings (λ b apart. refl) (λ b apart. refl)
      (λ addr same. same) (λ a b y addr apart is bytes. refl) alike.view.blocks alike.marks alike.view.controller refl refl
      (λ addr own lies. (let bad : true ≡ false = sym lies ∙ nothing addr in cc))
      (sym (ap (λ o. own_held number (Some now) (held_in o tag)) there) ∙ p.held ∙ ap (λ o. own_held number (Some now) (held_in o tag)) again)

  -- the others are pairs still
  pairs-other : (w z : World) (lane tag : ℕ) (first now : Tag) (tags : List ℕ) → All (λ other. (other == tag) ≡ false) tags → All (IsPair w z lane now) tags
      → All (IsPair (with_tag lane tag first w) (with_tag lane tag first z) lane now) tags
  pairs-other w z lane tag first now [] apart pairs = All-nil (IsPair (with_tag lane tag first w) (with_tag lane tag first z) lane now)
  pairs-other w z lane tag first now (other ∷ tags) apart pairs =
      let p = All-head (IsPair w z lane now) other tags pairs in
      let differ = All-head (λ n. (n == tag) ≡ false) other tags apart in
      All-cons (IsPair (with_tag lane tag first w) (with_tag lane tag first z) lane now) other tags
      (record {
        t = p.t;
        s = p.s;
        here = tag_of-other w lane tag other first differ ∙ p.here;
        there = tag_of-other z lane tag other first differ ∙ p.there;
        held = p.held;
      })
      (pairs-other w z lane tag first now tags (All-tail (λ n. (n == tag) ≡ false) other tags apart) (All-tail (IsPair w z lane now) other tags pairs))

  pub tags-alike : (lane : ℕ) (tags : List ℕ) (now : Tag) (d e : DeviceLane) (w z : World) → Alike w z → slice_get w.device lane ≡ Some d
      → slice_get z.device lane ≡ Some e → ShowsNothing lane now → All (IsPair w z lane now) tags → AreDistinct tags
      → Alike (with_tags lane tags now w) (with_tags lane tags now z)
  unfolding with_tags
  tags-alike lane [] now d e w z alike there again nothing pairs apart = alike
  tags-alike lane (tag ∷ tags) now d e w z alike there again nothing pairs apart =
      tags-alike lane tags now d e (with_tag lane tag now w) (with_tag lane tag now z)
      (tag-alike w z alike lane tag d e now there again (All-head (IsPair w z lane now) tag tags pairs) (nothing (with_tag lane tag now w) tag))
      there again nothing (pairs-other w z lane tag now now tags apart.0 (All-tail (IsPair w z lane now) tag tags pairs)) apart.1

  -- the guest's own tags are pairs
  pub own-pair : (w z : World) → Alike w z → (lane tag : ℕ) (now : Tag) → HasTag (IsMine number) w lane tag → IsPair w z lane now tag
  own-pair w z alike lane tag now h =
      record {
        t = h.t;
        s = h.t;
        here = h.is;
        there = tag-too geometry w z number guest given alike lane tag h.t h.is h.has;
        held = ap (own_held number (Some now)) (held-too geometry w z number guest given alike lane tag h.t h.is h.has);
      }

  pub own-pairs : (w z : World) → Alike w z → (lane : ℕ) (now : Tag) (tags : List ℕ) → All (HasTag (IsMine number) w lane) tags → All (IsPair w z lane now) tags
  own-pairs w z alike lane now tags have =
      All-weaker (HasTag (IsMine number) w lane) (IsPair w z lane now) (λ tag h. own-pair w z alike lane tag now h) tags have

  -- a command of its that ends at once
  pub at_once-alike : (lane : ℕ) (tags : List ℕ) (command : Command) (st : StatusField) (d e : DeviceLane) (w z : World) → Alike w z
      → slice_get w.device lane ≡ Some d → slice_get z.device lane ≡ Some e → All (HasTag (IsMine number) w lane) tags → AreDistinct tags
      → Alike (ended_at_once lane tags command st w) (ended_at_once lane tags command st z)
  at_once-alike lane [] command st d e w z alike there again have apart = alike
  at_once-alike lane (tag ∷ tags) command st d e w z alike there again have apart =
      let first : Tag = Ended command st None in
      let now : Tag = Ended command (done_with Success) None in
      tags-alike lane tags now d e (with_tag lane tag first w) (with_tag lane tag first z)
      (tag-alike w z alike lane tag d e first there again (own-pair w z alike lane tag first (All-head (HasTag (IsMine number) w lane) tag tags have)) (λ addr. refl))
      there again (λ v n addr. refl)
      (pairs-other w z lane tag first now tags apart.0 (own-pairs w z alike lane now tags (All-tail (HasTag (IsMine number) w lane) tag tags have))) apart.1
