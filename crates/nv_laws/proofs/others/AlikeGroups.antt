-- A guest's commands have the same tags in worlds that look alike to it.
use Rattle.std.proofs.Common.{◌≡◌, ℕ, suc, Bool, true, false, cond, List, [], ◌∷◌, length, map, slice_get, Option, Some}
use Rattle.std.proofs.Common.{None, arith, refl, sym, ap, ◌∙◌, eq-eqb, eqb-true}
use Rattle.std.specs.List.{All}
use Rattle.std.specs.Option.{option_map}
use Rattle.std.proofs.lemmas.List.Elements.{All-head, All-tail}
use Rattle.nv_world_model.specs.Contained.{guest_of_one}
use Rattle.nv_world_model.specs.Step.{ended_status, status_before, statuses_of}
use Rattle.nv_world_model.specs.View.{is_tag_of, lane_numbers, own_tag}
use Rattle.nv_world_model.specs.World.{Ended, Flying, Free, Lane, Tag, Taken, World, claimed, first_of, group, group_in}
use Rattle.nv_world_model.specs.World.{is_free, is_that, leader_of, tag_in, tag_of}
use Rattle.nv_laws_sound.specs.Groups.{goes_by, part_of}
use Rattle.nv_laws_sound.proofs.Folds.{HasTag, group-has}
use Rattle.nv_laws_sound.proofs.Lists.{some-same}
use Rattle.nv_laws_sound.proofs.Numbers.{numbers-are, numbers-map, numbers_where}
use Rattle.nv_laws.specs.Alike.{GoesByItsOwn}

-- ---- tags

-- a tag that is that guest's in one is the same in both
pub tag-same : (number : ℕ) (t u : Option Tag) → own_tag number t ≡ own_tag number u → is_tag_of number t ≡ true → t ≡ u
tag-same number None u same own = cc
tag-same number (Some t) u same own =
    (elim (is_tag_of number u) as (λ b. cond (is_tag_of number (Some t)) (Some t) None ≡ cond b u None → Some t ≡ u) [
      | true ↦ λ e. sym (ap (λ b. cond b (Some t) None) own) ∙ e
      | false ↦ λ e. (let bad : Some t ≡ None = sym (ap (λ b. cond b (Some t) None) own) ∙ e in cc)
    ]) same

pub tag-own : (number : ℕ) (t : Option Tag) → guest_of_one t ≡ Some number → is_tag_of number t ≡ true
tag-own number None own = cc
tag-own number (Some t) own = ap (is_that number) own ∙ eq-eqb number number refl

-- ---- numbers of tags

-- where each passes in both lists or in none
numbers-alike : {X : Type 0} (p : X → Bool) (xs ys : List X) → length xs ≡ length ys
    → ((n : ℕ) (x y : X) → slice_get xs n ≡ Some x → slice_get ys n ≡ Some y → p x ≡ p y) → numbers_where p xs ≡ numbers_where p ys
numbers-alike p [] [] sized each = refl
numbers-alike p [] (y ∷ ys) sized each = absurd (omega (arith, sized))
numbers-alike p (x ∷ xs) [] sized each = absurd (omega (arith, sized))
numbers-alike {X = X} p (x ∷ xs) (y ∷ ys) sized each =
    ap (λ (b : Bool). cond b (0 ∷ map suc (numbers_where p xs)) (map suc (numbers_where p xs))) (each 0 x y refl refl)
    ∙ ap (λ (ns : List ℕ). cond (p y) (0 ∷ map suc ns) (map suc ns))
    (numbers-alike p xs ys (omega (arith, sized)) (λ n a b at there. each (suc n) a b at there))

-- the same tags are claimed where the same are free
pub claimed-same : (count : ℕ) (tags others : List Tag) → map is_free tags ≡ map is_free others → claimed count tags ≡ claimed count others
unfolding claimed
claimed-same count tags others same =
    ap (first_of count) (numbers-are is_free tags ∙ numbers-map (λ b. b) is_free tags ∙ ap (numbers_where (λ b. b)) same
    ∙ sym (numbers-map (λ b. b) is_free others) ∙ sym (numbers-are is_free others))

-- ---- the tags of a command

leads-to : (leader : ℕ) (o : Option ℕ) → is_that leader o ≡ true → o ≡ Some leader
leads-to leader None e = cc
leads-to leader (Some other) e = ap (λ n. Some n) (eqb-true other leader e)

part-leads : (leader : ℕ) (t : Tag) → goes_by leader (part_of t) ≡ true → leader_of t ≡ Some leader
part-leads leader Free e = cc
part-leads leader (Taken command reads) e = ap (λ n. Some n) (eqb-true command.leader leader e)
part-leads leader (Flying command share standing) e = ap (λ n. Some n) (eqb-true command.leader leader e)
part-leads leader (Ended command st None) e = ap (λ n. Some n) (eqb-true command.leader leader e)
part-leads leader (Ended command st (Some share)) e = ap (λ n. Some n) (eqb-true command.leader leader e)

-- a guest's own tag is in a lane
lane-of : (o : Option Lane) (number tag : ℕ) → is_tag_of number (tag_in o tag) ≡ true → (l : Lane) × (o ≡ Some l)
lane-of None number tag mine = cc
lane-of (Some l) number tag mine = (l, refl)

-- what goes by a tag of that guest's is its own
pub group-mine : (number : ℕ) (w : World) (lane leader : ℕ) → GoesByItsOwn number w → is_tag_of number (tag_of w lane leader) ≡ true
    → All (HasTag (λ t. is_tag_of number (Some t) ≡ true) w lane) (group w lane leader)
group-mine number w lane leader owned mine =
    let l = lane-of (slice_get w.lanes lane) number leader mine in
    group-has (λ t. is_tag_of number (Some t) ≡ true) w lane leader l.0 l.1
    (λ n t there goes. owned lane n leader t (ap (λ o. tag_in o n) l.1 ∙ there) (part-leads leader t goes) mine)

module _ (number : ℕ) (w z : World) (lane leader : ℕ) (tags : (tag : ℕ) → own_tag number (tag_of w lane tag) ≡ own_tag number (tag_of z lane tag)) where
  module _ (one : GoesByItsOwn number w) (two : GoesByItsOwn number z) (mine : is_tag_of number (tag_of w lane leader) ≡ true) where
    -- a tag that isn't its own goes by none of its own
    goes-not : (v : World) (n : ℕ) (x : Tag) → GoesByItsOwn number v → is_tag_of number (tag_of v lane leader) ≡ true → tag_of v lane n ≡ Some x
        → is_tag_of number (Some x) ≡ false → is_that leader (leader_of x) ≡ false
    goes-not v n x owned here there other =
        (elim (is_that leader (leader_of x)) as (λ b. is_that leader (leader_of x) ≡ b → b ≡ false) [
          | true ↦ λ goes. (let bad : true ≡ false = sym (owned lane n leader x there (leads-to leader (leader_of x) goes) here) ∙ other in cc)
          | false ↦ λ goes. refl
        ]) refl

    mine-too : is_tag_of number (tag_of z lane leader) ≡ true
    mine-too = sym (ap (is_tag_of number) (tag-same number (tag_of w lane leader) (tag_of z lane leader) (tags leader) mine)) ∙ mine

    other-too : (x y : Tag) → own_tag number (Some x) ≡ own_tag number (Some y) → is_tag_of number (Some x) ≡ false → is_tag_of number (Some y) ≡ false
    other-too x y same other =
        (elim (is_tag_of number (Some y)) as (λ b. is_tag_of number (Some y) ≡ b → b ≡ false) [
          | true ↦ λ its.
              (let bad : None ≡ Some y = sym (ap (λ b. cond b (Some x) None) other) ∙ same ∙ ap (λ b. cond b (Some y) None) its in cc)
          | false ↦ λ its. refl
        ]) refl

    passes-same : (n : ℕ) (x y : Tag) → tag_of w lane n ≡ Some x → tag_of z lane n ≡ Some y → is_that leader (leader_of x) ≡ is_that leader (leader_of y)
    passes-same n x y here there =
        let same : own_tag number (Some x) ≡ own_tag number (Some y) = sym (ap (own_tag number) here) ∙ tags n ∙ ap (own_tag number) there in
        (elim (is_tag_of number (Some x)) as (λ b. is_tag_of number (Some x) ≡ b → is_that leader (leader_of x) ≡ is_that leader (leader_of y)) [
          | true ↦ λ own.
              ap (λ t. is_that leader (leader_of t)) (some-same x y (tag-same number (Some x) (Some y) same own))
          | false ↦ λ other.
              goes-not w n x one mine here other ∙ sym (goes-not z n y two mine-too there (other-too x y same other))
        ]) refl

    by-lanes : (x y : Option Lane) → slice_get w.lanes lane ≡ x → slice_get z.lanes lane ≡ y → option_map lane_numbers x ≡ option_map lane_numbers y
        → group_in x leader ≡ group_in y leader
    by-lanes None None at there numbers = refl
    by-lanes None (Some m) at there numbers = cc
    by-lanes (Some l) None at there numbers = cc
    by-lanes (Some l) (Some m) at there numbers =
        let p : Tag → Bool = λ t. is_that leader (leader_of t) in
        let frees : map is_free l.tags ≡ map is_free m.tags = ap (λ n. n.free) (some-same (lane_numbers l) (lane_numbers m) numbers) in
        numbers-are p l.tags
        ∙ numbers-alike p l.tags m.tags (sizes l.tags m.tags frees)
        (λ n x y here too. passes-same n x y (ap (λ o. tag_in o n) at ∙ here) (ap (λ o. tag_in o n) there ∙ too))
        ∙ sym (numbers-are p m.tags)
      where
        sizes : (xs ys : List Tag) → map is_free xs ≡ map is_free ys → length xs ≡ length ys
        sizes [] [] e = refl
        sizes [] (y ∷ ys) e = cc
        sizes (x ∷ xs) [] e = cc
        sizes (x ∷ xs) (y ∷ ys) e = ap suc (sizes xs ys (ap rest e))
          where
            rest : List Bool → List Bool
            rest [] = []
            rest (b ∷ bs) = bs

-- so its command has the same tags in both
pub groups-alike : (number : ℕ) (w z : World) (lane leader : ℕ) → ((tag : ℕ) → own_tag number (tag_of w lane tag) ≡ own_tag number (tag_of z lane tag))
    → option_map lane_numbers (slice_get w.lanes lane) ≡ option_map lane_numbers (slice_get z.lanes lane)
    → GoesByItsOwn number w → GoesByItsOwn number z → is_tag_of number (tag_of w lane leader) ≡ true → group w lane leader ≡ group z lane leader
unfolding group
groups-alike number w z lane leader tags numbers one two mine =
    by-lanes number w z lane leader tags one two mine (slice_get w.lanes lane) (slice_get z.lanes lane) refl refl numbers

-- and these have the same statuses
pub statuses-alike : (number : ℕ) (w z : World) (lane : ℕ) → ((tag : ℕ) → own_tag number (tag_of w lane tag) ≡ own_tag number (tag_of z lane tag))
    → (tags : List ℕ) → All (HasTag (λ t. is_tag_of number (Some t) ≡ true) w lane) tags → statuses_of lane tags w ≡ statuses_of lane tags z
unfolding statuses_of
statuses-alike number w z lane same [] have = refl
statuses-alike number w z lane same (tag ∷ tags) have =
    let h = All-head (HasTag (λ t. is_tag_of number (Some t) ≡ true) w lane) tag tags have in
    ap (λ t. status_before (ended_status t) (statuses_of lane tags w))
    (tag-same number (tag_of w lane tag) (tag_of z lane tag) (same tag) (ap (is_tag_of number) h.is ∙ h.has))
    ∙ ap (status_before (ended_status (tag_of z lane tag)))
    (statuses-alike number w z lane same tags (All-tail (HasTag (λ t. is_tag_of number (Some t) ≡ true) w lane) tag tags have))
