-- Sides that are the same but for the places of parts stay so where the same is done to both, and what is told of them is the same.
use Rattle.std.proofs.Common.{◌≡◌, ℕ, Bool, List, [], ◌∷◌, ◌++◌, cond, flat_map, map, set, slice_get, Option, Some, None}
use Rattle.std.proofs.Common.{refl, sym, ap, ◌∙◌}
use Rattle.std.specs.Option.{option_map}
use Rattle.std.proofs.lemmas.List.{map-set}
use Rattle.std.proofs.lemmas.Option.{slice_get-map}
use Rattle.nv_entry.specs.Status.{StatusField}
use Rattle.nv_laws_sound.specs.Side.{Side}
use Rattle.nv_laws_sound.specs.Unplaced.{unplaced_lane, unplaced_tag}
use Rattle.nv_laws_sound.proofs.Folds.{numbers-same}
use Rattle.nv_laws_sound.proofs.Numbers.{numbers-are, numbers-map}
use Rattle.nv_machine.specs.Doing.{Doing, controller_put, group_at, lane_changed, replied, tag_at, tag_put, tags_put, tail_put, told}
use Rattle.nv_machine.specs.Effects.{Effect}
use Rattle.nv_machine.specs.Machine.{delivered_from, delivery, statuses_of}
use Rattle.nv_machine.specs.Unplaced.{AreSameButPlaces, ComeToSameButPlaces, unplaced_side}
use Rattle.nv_model.specs.Controller.{Controller}
use Rattle.nv_model.specs.declared.reply.Reply.{Reply}
use Rattle.nv_world_model.specs.Area.{bounce_page}
use Rattle.nv_world_model.specs.Geometry.{Guest}
use Rattle.nv_world_model.specs.Step.{ended_status, is_success, status_before}
use Rattle.nv_world_model.specs.World.{Ended, Flying, Free, Lane, Tag, Taken, changed_at, claimed, first_of, group_in, is_free, is_that, leader_of, tag_changed, tag_in, tags_where}

-- ---- lanes and tags

pub tag-twice : (t : Tag) → unplaced_tag (unplaced_tag t) ≡ unplaced_tag t
tag-twice Free = refl
tag-twice (Taken command reads) = refl
tag-twice (Flying command share standing) = refl
tag-twice (Ended command st share) = refl

map-twice : {X : Type 0} (f : X → X) → ((x : X) → f (f x) ≡ f x) → (xs : List X) → map f (map f xs) ≡ map f xs
map-twice f same [] = refl
map-twice f same (x ∷ xs) = ap (λ y. y ∷ map f (map f xs)) (same x) ∙ ap (λ ys. f x ∷ ys) (map-twice f same xs)

lane-twice : (l : Lane) → unplaced_lane (unplaced_lane l) ≡ unplaced_lane l
lane-twice l = ap (λ (ts : List Tag). let k : Lane = record l { tags = ts } in k) (map-twice unplaced_tag tag-twice l.tags)

-- a side is the same without places
pub side-unplaced : (s : Side) → AreSameButPlaces (unplaced_side s) s
side-unplaced s = record { lanes = map-twice unplaced_lane lane-twice s.lanes; tails = refl; controllers = refl }

pub places-back : (s z : Side) → AreSameButPlaces s z → AreSameButPlaces z s
places-back s z same = record { lanes = sym same.lanes; tails = sym same.tails; controllers = sym same.controllers }

-- what asks for no place of a tag is the same of two that are the same but for places
pub tags-told : {X : Type 0} (f : Option Tag → X) → ((t : Tag) → f (Some (unplaced_tag t)) ≡ f (Some t)) → (a b : Option Tag)
    → option_map unplaced_tag a ≡ option_map unplaced_tag b → f a ≡ f b
tags-told f each a b same = sym (one a) ∙ ap f same ∙ one b
  where
    one : (o : Option Tag) → f (option_map unplaced_tag o) ≡ f o
    one None = refl
    one (Some t) = each t

-- so it is of lanes
pub lanes-told : {X : Type 0} (f : Option Lane → X) → ((l : Lane) → f (Some (unplaced_lane l)) ≡ f (Some l)) → (s z : Side) → AreSameButPlaces s z
    → (lane : ℕ) → f (slice_get s.lanes lane) ≡ f (slice_get z.lanes lane)
lanes-told f each s z same lane =
    sym (one (slice_get s.lanes lane))
    ∙ ap f (sym (slice_get-map unplaced_lane s.lanes lane) ∙ ap (λ (ls : List Lane). slice_get ls lane) same.lanes ∙ slice_get-map unplaced_lane z.lanes lane)
    ∙ one (slice_get z.lanes lane)
  where
    one : (o : Option Lane) → f (option_map unplaced_lane o) ≡ f o
    one None = refl
    one (Some l) = each l

pub tag-same : (s z : Side) → AreSameButPlaces s z → (lane tag : ℕ)
    → option_map unplaced_tag (tag_at s lane tag) ≡ option_map unplaced_tag (tag_at z lane tag)
tag-same s z same lane tag = lanes-told (λ o. option_map unplaced_tag (tag_in o tag)) each s z same lane
  where
    twice : (o : Option Tag) → option_map unplaced_tag (option_map unplaced_tag o) ≡ option_map unplaced_tag o
    twice None = refl
    twice (Some t) = ap (λ (u : Tag). Some u) (tag-twice t)

    each : (l : Lane) → option_map unplaced_tag (slice_get (map unplaced_tag l.tags) tag) ≡ option_map unplaced_tag (slice_get l.tags tag)
    each l = ap (option_map unplaced_tag) (slice_get-map unplaced_tag l.tags tag) ∙ twice (slice_get l.tags tag)

-- ---- which tags

where-same : (test : Tag → Bool) → ((t : Tag) → test (unplaced_tag t) ≡ test t) → (tags : List Tag)
    → tags_where test (map unplaced_tag tags) ≡ tags_where test tags
where-same test each tags =
    numbers-are test (map unplaced_tag tags)
    ∙ sym (numbers-map test unplaced_tag tags)
    ∙ numbers-same (λ t. test (unplaced_tag t)) test tags each
    ∙ sym (numbers-are test tags)

free-same : (t : Tag) → is_free (unplaced_tag t) ≡ is_free t
free-same Free = refl
free-same (Taken command reads) = refl
free-same (Flying command share standing) = refl
free-same (Ended command st share) = refl

pub claimed-same : (count : ℕ) (tags : List Tag) → claimed count (map unplaced_tag tags) ≡ claimed count tags
unfolding claimed
claimed-same count tags = ap (first_of count) (where-same is_free free-same tags)

leader-same : (t : Tag) → leader_of (unplaced_tag t) ≡ leader_of t
leader-same Free = refl
leader-same (Taken command reads) = refl
leader-same (Flying command share standing) = refl
leader-same (Ended command st share) = refl

module _ (s z : Side) (same : AreSameButPlaces s z) (lane : ℕ) where
  pub group-same : (leader : ℕ) → group_at s lane leader ≡ group_at z lane leader
  group-same leader =
      lanes-told (λ o. group_in o leader)
      (λ l. where-same (λ t. is_that leader (leader_of t)) (λ t. ap (is_that leader) (leader-same t)) l.tags) s z same lane

  status-same : (t : Tag) → ended_status (Some (unplaced_tag t)) ≡ ended_status (Some t)
  status-same Free = refl
  status-same (Taken command reads) = refl
  status-same (Flying command share standing) = refl
  status-same (Ended command st share) = refl

  pub statuses-same : (tags : List ℕ) → statuses_of lane tags s ≡ statuses_of lane tags z
  unfolding statuses_of
  statuses-same [] = refl
  statuses-same (tag ∷ tags) =
      ap (λ (st : Option StatusField). status_before st (statuses_of lane tags s))
      (tags-told ended_status status-same (tag_at s lane tag) (tag_at z lane tag) (tag-same s z same lane tag))
      ∙ ap (status_before (ended_status (tag_at z lane tag))) (statuses-same tags)

  module _ (mediator : ℕ) (given : Guest) where
    delivers : (bounce : ℕ) (t : Tag) → delivered_from (Some (unplaced_tag t)) bounce given ≡ delivered_from (Some t) bounce given
    delivers bounce Free = refl
    delivers bounce (Taken command reads) = refl
    delivers bounce (Flying command share standing) = refl
    delivers bounce (Ended command st share) = refl

    abbrev from : Side → ℕ → List Effect
    from x tag = delivered_from (tag_at x lane tag) (bounce_page mediator lane tag) given

    all-same : (tags : List ℕ) → flat_map (from s) tags ≡ flat_map (from z) tags
    all-same [] = refl
    all-same (tag ∷ tags) =
        ap (λ (es : List Effect). es ++ flat_map (from s) tags)
        (tags-told (λ t. delivered_from t (bounce_page mediator lane tag) given) (delivers (bounce_page mediator lane tag))
        (tag_at s lane tag) (tag_at z lane tag) (tag-same s z same lane tag))
        ∙ ap (λ (es : List Effect). from z tag ++ es) (all-same tags)

    pub delivery-same : (st : StatusField) (tags : List ℕ) → delivery st mediator lane tags given s ≡ delivery st mediator lane tags given z
    delivery-same st tags = ap (λ (es : List Effect). cond (is_success st) es []) (all-same tags)

-- ---- calls under way

-- the same effects, and sides that are the same but for places
pub record AreSame (m n : Doing) : Type 0 where
  pub effects : m.effects ≡ n.effects
  pub sides : AreSameButPlaces m.side n.side

pub same-replied : (r : Reply) (m n : Doing) → AreSame m n → ComeToSameButPlaces (replied r m) (replied r n)
same-replied r m n same = record { reply = refl; effects = same.effects; sides = same.sides }

pub same-told : (effects : List Effect) (m n : Doing) → AreSame m n → AreSame (told effects m) (told effects n)
same-told effects m n same =
    record {
      effects = ap (λ (es : List Effect). es ++ effects) same.effects;
      sides = record { lanes = same.sides.lanes; tails = same.sides.tails; controllers = same.sides.controllers };
    }

-- one lane is changed
changed-unplaced : (change other : Lane → Lane) → ((l : Lane) → unplaced_lane (change l) ≡ other (unplaced_lane l)) → (lane : ℕ) (ls : List Lane)
    → map unplaced_lane (changed_at (slice_get ls lane) lane change ls)
    ≡ changed_at (slice_get (map unplaced_lane ls) lane) lane other (map unplaced_lane ls)
changed-unplaced change other each lane ls =
    by (slice_get ls lane) ∙ ap (λ (o : Option Lane). changed_at o lane other (map unplaced_lane ls)) (sym (slice_get-map unplaced_lane ls lane))
  where
    by : (o : Option Lane) → map unplaced_lane (changed_at o lane change ls) ≡ changed_at (option_map unplaced_lane o) lane other (map unplaced_lane ls)
    by None = refl
    by (Some l) = map-set unplaced_lane ls lane (change l) ∙ ap (set (map unplaced_lane ls) lane) (each l)

pub same-lane : (lane : ℕ) (change other : Lane → Lane) → ((l : Lane) → unplaced_lane (change l) ≡ other (unplaced_lane l)) → (m n : Doing) → AreSame m n
    → AreSame (lane_changed lane change m) (lane_changed lane change n)
same-lane lane change other each m n same =
    record {
      effects = same.effects;
      sides =
          record {
            lanes =
                changed-unplaced change other each lane m.side.lanes
                ∙ ap (λ (ls : List Lane). changed_at (slice_get ls lane) lane other ls) same.sides.lanes
                ∙ sym (changed-unplaced change other each lane n.side.lanes);
            tails = same.sides.tails;
            controllers = same.sides.controllers;
          };
    }

pub same-tag : (lane tag : ℕ) (t : Tag) (m n : Doing) → AreSame m n → AreSame (tag_put lane tag t m) (tag_put lane tag t n)
same-tag lane tag t m n same =
    same-lane lane (tag_changed tag t) (tag_changed tag (unplaced_tag t))
    (λ l. ap (λ (ts : List Tag). let k : Lane = record l { tags = ts } in k) (map-set unplaced_tag l.tags tag t)) m n same

pub same-tags : (lane : ℕ) (tags : List ℕ) (t : Tag) (m n : Doing) → AreSame m n → AreSame (tags_put lane tags t m) (tags_put lane tags t n)
unfolding tags_put
same-tags lane [] t m n same = same
same-tags lane (tag ∷ tags) t m n same = same-tags lane tags t (tag_put lane tag t m) (tag_put lane tag t n) (same-tag lane tag t m n same)

pub same-tail : (lane tail : ℕ) (m n : Doing) → AreSame m n → AreSame (tail_put lane tail m) (tail_put lane tail n)
same-tail lane tail m n same =
    record {
      effects = same.effects;
      sides =
          record {
            lanes = same.sides.lanes;
            tails = ap (λ (ts : List ℕ). set ts lane tail) same.sides.tails;
            controllers = same.sides.controllers;
          };
    }

pub same-controller : (number : ℕ) (c : Controller) (m n : Doing) → AreSame m n → AreSame (controller_put number c m) (controller_put number c n)
same-controller number c m n same =
    record {
      effects = same.effects;
      sides =
          record {
            lanes = same.sides.lanes;
            tails = same.sides.tails;
            controllers = ap (λ (cs : List Controller). set cs number c) same.sides.controllers;
          };
    }
