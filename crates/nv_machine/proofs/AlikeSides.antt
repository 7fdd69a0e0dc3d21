-- Sides that are alike to a guest stay so where the same is done to both.
use Rattle.std.proofs.Common.{◌≡◌, ℕ, zero, suc, Bool, true, false, ◌==◌, List, [], ◌∷◌, ◌++◌, map, set, slice_get, Option, Some, None}
use Rattle.std.proofs.Common.{refl, sym, ap, ◌∙◌, subst, eqb-true}
use Rattle.std.specs.Option.{option_map}
use Rattle.std.proofs.lemmas.List.{map-set}
use Rattle.std.proofs.lemmas.Option.{slice_get-map}
use Rattle.nv_laws_sound.specs.Side.{Side}
use Rattle.nv_laws_sound.proofs.Lists.{some-same}
use Rattle.nv_machine.specs.Alike.{ComeToAlike, IsAlike}
use Rattle.nv_machine.specs.Doing.{Doing, controller_put, lane_changed, replied, tag_put, tags_put, tail_put, told}
use Rattle.nv_machine.specs.Effects.{Effect}
use Rattle.nv_model.specs.Controller.{Controller}
use Rattle.nv_model.specs.declared.reply.Reply.{Reply}
use Rattle.nv_world_model.specs.View.{LaneNumbers, is_tag_of, lane_numbers, own_tag}
use Rattle.nv_world_model.specs.World.{Lane, Tag, changed_at, is_free, tag_changed, tag_in}
use Rattle.nv_world_model.proofs.Seats.{slice_get-set, slice_get-set-other}

-- ---- lists

-- what is put where nothing is is not there
set-past : {X : Type 0} (xs : List X) (i : ℕ) (y : X) → slice_get xs i ≡ None → slice_get (set xs i y) i ≡ None
set-past [] i y none = none
set-past (x ∷ xs) zero y none = cc
set-past (x ∷ xs) (suc i) y none = set-past xs i y none

-- ---- own tags

module _ (number : ℕ) where
  own-there : (a : Option Tag) → is_tag_of number a ≡ true → own_tag number a ≡ a
  own-there a own = rw own refl

  own-other : (a : Option Tag) → is_tag_of number a ≡ false → own_tag number a ≡ None
  own-other a other = rw other refl

  -- a tag that is the guest's is the same in both
  pub own-same : (a b : Option Tag) → own_tag number a ≡ own_tag number b → is_tag_of number a ≡ true → b ≡ a
  own-same a b same own =
      (elim (is_tag_of number b) as (λ x. is_tag_of number b ≡ x → b ≡ a) [
        | true ↦ λ also. sym (own-there b also) ∙ sym same ∙ own-there a own
        | false ↦ λ other.
            (let none : a ≡ None = sym (own-there a own) ∙ same ∙ own-other b other in
            let bad : true ≡ false = sym own ∙ ap (is_tag_of number) none in cc)
      ]) refl

  -- own tags of two lists of tags
  abbrev pub AreOwnTags : (xs ys : List Tag) → Type 0
  AreOwnTags xs ys = (tag : ℕ) → own_tag number (slice_get xs tag) ≡ own_tag number (slice_get ys tag)

  -- a tag that is put in both
  put-own : (xs ys : List Tag) (i : ℕ) (t : Tag) → map is_free xs ≡ map is_free ys → AreOwnTags xs ys → AreOwnTags (set xs i t) (set ys i t)
  put-own xs ys i t free same j =
      (elim (j == i) as (λ b. (j == i) ≡ b → own_tag number (slice_get (set xs i t) j) ≡ own_tag number (slice_get (set ys i t) j)) [
        | true ↦ λ here.
            (let at : j ≡ i = eqb-true j i here in
            ap (λ n. own_tag number (slice_get (set xs i t) n)) at
            ∙ there (slice_get xs i) (slice_get ys i) refl refl (sym (slice_get-map is_free xs i) ∙ ap (λ fs. slice_get fs i) free ∙ slice_get-map is_free ys i)
            ∙ sym (ap (λ n. own_tag number (slice_get (set ys i t) n)) at))
        | false ↦ λ other.
            ap (own_tag number) (slice_get-set-other xs i j t other) ∙ same j ∙ sym (ap (own_tag number) (slice_get-set-other ys i j t other))
      ]) refl
    where
      there : (a b : Option Tag) → slice_get xs i ≡ a → slice_get ys i ≡ b → option_map is_free a ≡ option_map is_free b
          → own_tag number (slice_get (set xs i t) i) ≡ own_tag number (slice_get (set ys i t) i)
      there None None none also e = ap (own_tag number) (set-past xs i t none ∙ sym (set-past ys i t also))
      there (Some x) (Some y) is also e = ap (own_tag number) (slice_get-set xs i x t is ∙ sym (slice_get-set ys i y t also))
      there None (Some y) none also e = cc
      there (Some x) None is also e = cc

  -- ---- lanes

  -- two lanes, as the guest sees them
  pub record AreLanes (l k : Lane) : Type 0 where
    pub numbers : lane_numbers l ≡ lane_numbers k
    pub tags : AreOwnTags l.tags k.tags

  -- in both sides there is no such lane, or one each
  pub data AreFound (a b : Option Lane) : Type 0 where
    NoLane : a ≡ None → b ≡ None → AreFound a b
    BothLanes : (l k : Lane) → a ≡ Some l → b ≡ Some k → AreLanes l k → AreFound a b

  found-by : (a b : Option Lane) → option_map lane_numbers a ≡ option_map lane_numbers b → ((tag : ℕ) → own_tag number (tag_in a tag) ≡ own_tag number (tag_in b tag))
      → AreFound a b
  found-by None None e tags = NoLane refl refl
  found-by (Some l) (Some k) e tags = BothLanes l k refl refl (record { numbers = some-same (lane_numbers l) (lane_numbers k) e; tags = tags })
  found-by None (Some k) e tags = cc
  found-by (Some l) None e tags = cc

  pub lanes-found : (s z : Side) (lane : ℕ) → IsAlike number s z → AreFound (slice_get s.lanes lane) (slice_get z.lanes lane)
  lanes-found s z lane same =
      found-by (slice_get s.lanes lane) (slice_get z.lanes lane)
      (sym (slice_get-map lane_numbers s.lanes lane) ∙ ap (λ ns. slice_get ns lane) same.lanes ∙ slice_get-map lane_numbers z.lanes lane) (same.tags lane)

  -- where a lane is changed in the same way
  abbrev pub ChangesAlike : (Lane → Lane) → Type 0
  ChangesAlike change = (l k : Lane) → AreLanes l k → AreLanes (change l) (change k)

  changed-lanes : (change : Lane → Lane) → ChangesAlike change → (ls ks : List Lane) (lane : ℕ) → map lane_numbers ls ≡ map lane_numbers ks
      → (a b : Option Lane) → slice_get ls lane ≡ a → slice_get ks lane ≡ b → AreFound a b
      → map lane_numbers (changed_at a lane change ls) ≡ map lane_numbers (changed_at b lane change ks)
  changed-lanes change alike ls ks lane same None None at also found = same
  changed-lanes change alike ls ks lane same (Some l) (Some k) at also found =
      map-set lane_numbers ls lane (change l)
      ∙ ap (λ ns. set ns lane (lane_numbers (change l))) same
      ∙ ap (set (map lane_numbers ks) lane) (alike l k (lanes found)).numbers
      ∙ sym (map-set lane_numbers ks lane (change k))
    where
      lanes : AreFound (Some l) (Some k) → AreLanes l k
      lanes (NoLane none also) = cc
      lanes (BothLanes l2 k2 is also each) =
          subst (λ x. AreLanes x k) (sym (some-same l l2 is)) (subst (AreLanes l2) (sym (some-same k k2 also)) each)
  changed-lanes change alike ls ks lane same None (Some k) at also (NoLane none bad) = cc
  changed-lanes change alike ls ks lane same None (Some k) at also (BothLanes l2 k2 is bad each) = cc
  changed-lanes change alike ls ks lane same (Some l) None at also (NoLane none bad) = cc
  changed-lanes change alike ls ks lane same (Some l) None at also (BothLanes l2 k2 is bad each) = cc

  changed-tags : (change : Lane → Lane) → ChangesAlike change → (ls ks : List Lane) (lane : ℕ) → ((other tag : ℕ)
      → own_tag number (tag_in (slice_get ls other) tag) ≡ own_tag number (tag_in (slice_get ks other) tag))
      → AreFound (slice_get ls lane) (slice_get ks lane) → (other tag : ℕ)
      → own_tag number (tag_in (slice_get (changed_at (slice_get ls lane) lane change ls) other) tag)
      ≡ own_tag number (tag_in (slice_get (changed_at (slice_get ks lane) lane change ks) other) tag)
  changed-tags change alike ls ks lane same (NoLane none also) other tag =
      ap (λ o. own_tag number (tag_in (slice_get (changed_at o lane change ls) other) tag)) none ∙ same other tag
      ∙ sym (ap (λ o. own_tag number (tag_in (slice_get (changed_at o lane change ks) other) tag)) also)
  changed-tags change alike ls ks lane same (BothLanes l k is also each) other tag =
      ap (λ o. own_tag number (tag_in (slice_get (changed_at o lane change ls) other) tag)) is
      ∙ by
      ∙ sym (ap (λ o. own_tag number (tag_in (slice_get (changed_at o lane change ks) other) tag)) also)
    where
      by : own_tag number (tag_in (slice_get (set ls lane (change l)) other) tag) ≡ own_tag number (tag_in (slice_get (set ks lane (change k)) other) tag)
      by =
          (elim (other == lane) as (λ b. (other == lane) ≡ b
          → own_tag number (tag_in (slice_get (set ls lane (change l)) other) tag) ≡ own_tag number (tag_in (slice_get (set ks lane (change k)) other) tag)) [
            | true ↦ λ here.
                (let at : other ≡ lane = eqb-true other lane here in
                ap (λ n. own_tag number (tag_in (slice_get (set ls lane (change l)) n) tag)) at
                ∙ ap (λ o. own_tag number (tag_in o tag)) (slice_get-set ls lane l (change l) is)
                ∙ (alike l k each).tags tag
                ∙ sym (ap (λ o. own_tag number (tag_in o tag)) (slice_get-set ks lane k (change k) also))
                ∙ sym (ap (λ n. own_tag number (tag_in (slice_get (set ks lane (change k)) n) tag)) at))
            | false ↦ λ away.
                ap (λ o. own_tag number (tag_in o tag)) (slice_get-set-other ls lane other (change l) away) ∙ same other tag
                ∙ sym (ap (λ o. own_tag number (tag_in o tag)) (slice_get-set-other ks lane other (change k) away))
          ]) refl

  -- ---- calls under way

  -- the same effects, and sides that are alike
  pub record AreSame (m n : Doing) : Type 0 where
    pub effects : m.effects ≡ n.effects
    pub sides : IsAlike number m.side n.side

  pub same-replied : (r : Reply) (m n : Doing) → AreSame m n → ComeToAlike number (replied r m) (replied r n)
  same-replied r m n same = record { reply = refl; effects = same.effects; sides = same.sides }

  pub same-told : (effects : List Effect) (m n : Doing) → AreSame m n → AreSame (told effects m) (told effects n)
  same-told effects m n same =
      record { effects = ap (λ es. es ++ effects) same.effects; sides = record { lanes = same.sides.lanes; tails = same.sides.tails; controller = same.sides.controller; tags = same.sides.tags } }

  pub same-lane : (lane : ℕ) (change : Lane → Lane) → ChangesAlike change → (m n : Doing) → AreSame m n
      → AreSame (lane_changed lane change m) (lane_changed lane change n)
  same-lane lane change alike m n same =
      let found = lanes-found m.side n.side lane same.sides in
      record {
        effects = same.effects;
        sides =
            record {
              lanes = changed-lanes change alike m.side.lanes n.side.lanes lane same.sides.lanes (slice_get m.side.lanes lane) (slice_get n.side.lanes lane) refl refl found;
              tails = same.sides.tails;
              controller = same.sides.controller;
              tags = changed-tags change alike m.side.lanes n.side.lanes lane same.sides.tags found;
            };
      }

  -- a tag that is put in a lane
  put-alike : (tag : ℕ) (t : Tag) → ChangesAlike (tag_changed tag t)
  put-alike tag t l k each =
      let free : map is_free l.tags ≡ map is_free k.tags = ap (λ (ns : LaneNumbers). ns.free) each.numbers in
      let frees : map is_free (set l.tags tag t) ≡ map is_free (set k.tags tag t) =
      map-set is_free l.tags tag t ∙ ap (λ fs. set fs tag (is_free t)) free ∙ sym (map-set is_free k.tags tag t) in
      record {
        numbers =
            ap (λ (ns : LaneNumbers). numbered ns.head ns.phase (map is_free (set l.tags tag t))) each.numbers
            ∙ ap (numbered k.head k.phase) frees;
        tags = put-own l.tags k.tags tag t free each.tags;
      }
    where
      numbered : (head : ℕ) (phase : Bool) (free : List Bool) → LaneNumbers
      numbered head phase free = record { head = head; phase = phase; free = free }

  pub same-tag : (lane tag : ℕ) (t : Tag) (m n : Doing) → AreSame m n → AreSame (tag_put lane tag t m) (tag_put lane tag t n)
  same-tag lane tag t m n same = same-lane lane (tag_changed tag t) (put-alike tag t) m n same

  pub same-tags : (lane : ℕ) (tags : List ℕ) (t : Tag) (m n : Doing) → AreSame m n → AreSame (tags_put lane tags t m) (tags_put lane tags t n)
  unfolding tags_put
  same-tags lane [] t m n same = same
  same-tags lane (tag ∷ tags) t m n same = same-tags lane tags t (tag_put lane tag t m) (tag_put lane tag t n) (same-tag lane tag t m n same)

  pub same-tail : (lane tail : ℕ) (m n : Doing) → AreSame m n → AreSame (tail_put lane tail m) (tail_put lane tail n)
  same-tail lane tail m n same =
      record {
        effects = same.effects;
        sides =
            record {
              lanes = same.sides.lanes;
              tails = ap (λ ts. set ts lane tail) same.sides.tails;
              controller = same.sides.controller;
              tags = same.sides.tags;
            };
      }

  put-there : (cs ds : List Controller) (c : Controller) → slice_get cs number ≡ slice_get ds number
      → slice_get (set cs number c) number ≡ slice_get (set ds number c) number
  put-there cs ds c same = by (slice_get cs number) refl (sym same)
    where
      by : (a : Option Controller) → slice_get cs number ≡ a → slice_get ds number ≡ slice_get cs number → slice_get (set cs number c) number ≡ slice_get (set ds number c) number
      by None none also = set-past cs number c none ∙ sym (set-past ds number c (also ∙ none))
      by (Some d) is also = slice_get-set cs number d c is ∙ sym (slice_get-set ds number d c (also ∙ is))

  pub same-controller : (c : Controller) (m n : Doing) → AreSame m n → AreSame (controller_put number c m) (controller_put number c n)
  same-controller c m n same =
      record {
        effects = same.effects;
        sides =
            record {
              lanes = same.sides.lanes;
              tails = same.sides.tails;
              controller = put-there m.side.controllers n.side.controllers c same.sides.controller;
              tags = same.sides.tags;
            };
      }
