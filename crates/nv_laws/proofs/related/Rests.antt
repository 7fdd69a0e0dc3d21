-- Which tags are a command's, and what has come of them, in two worlds that have the same tags of it.
use Rattle.std.proofs.Common.{◌≡◌, ℕ, zero, suc, Bool, true, false, cond, ◌==◌, List, [], ◌∷◌, All, map, slice_get, Option, Some, None, refl, sym, ap, ◌∙◌, subst}
use Rattle.std.proofs.lemmas.List.Elements.{All-head, All-nil, All-tail, All-weaker}
use Rattle.nv_model.specs.Private.{Progress, Unjudged, Taken as Member}
use Rattle.nv_world_model.specs.Geometry.{Geometry}
use Rattle.nv_world_model.specs.Seat.{Rest, ended_progress, member_by, member_in, member_of, rest_at, rests_of, work_of, work_progress}
use Rattle.nv_world_model.specs.View.{is_tag_of, own_tag}
use Rattle.nv_world_model.specs.World.{Command, Ended, Flying, Free, Lane, Tag, Taken, World, group, group_in, is_that, leader_of, tag_in, tag_of}
use Rattle.nv_laws_sound.specs.Groups.{command_of, part_of, parts_of, goes_by as part_goes_by}
use Rattle.nv_laws_sound.proofs.CountedActs.{HasLane, lane-of}
use Rattle.nv_laws_sound.proofs.Folds.{tag-part}
use Rattle.nv_laws_sound.proofs.Groupings.{Goes, goes-has}
use Rattle.nv_laws_sound.proofs.Groupings as groupings
use Rattle.nv_laws_sound.proofs.GroupsKept.{HasGroups}
use Rattle.nv_laws_sound.proofs.Numbers.{Passes, numbers-are, numbers-pass, numbers_where}

-- ---- which tags

-- whether a tag goes by that one
abbrev pub led : (leader : ℕ) → Option Tag → Bool
led leader None = false
led leader (Some t) = is_that leader (leader_of t)

abbrev by_test : {X : Type 0} → (X → Bool) → Option X → Bool
by_test test None = false
by_test test (Some x) = test x

none-numbers : {X : Type 0} (test : X → Bool) (xs : List X) → ((b : ℕ) → by_test test (slice_get xs b) ≡ false) → [] ≡ numbers_where test xs
none-numbers test [] none = refl
none-numbers test (x ∷ xs) none =
    ap (map suc) (none-numbers test xs (λ b. none (suc b)))
    ∙ sym (ap (λ b. cond b (0 ∷ map suc (numbers_where test xs)) (map suc (numbers_where test xs))) (none zero))

numbers-by : {X : Type 0} (test : X → Bool) (xs ys : List X) → ((b : ℕ) → by_test test (slice_get xs b) ≡ by_test test (slice_get ys b))
    → numbers_where test xs ≡ numbers_where test ys
numbers-by test [] ys same = none-numbers test ys (λ b. sym (same b))
numbers-by test (x ∷ xs) [] same = sym (none-numbers test (x ∷ xs) same)
numbers-by test (x ∷ xs) (y ∷ ys) same =
    ap (λ b. cond b (0 ∷ map suc (numbers_where test xs)) (map suc (numbers_where test xs))) (same zero)
    ∙ ap (λ (ns : List ℕ). cond (test y) (0 ∷ map suc ns) (map suc ns)) (numbers-by test xs ys (λ b. same (suc b)))

-- the tags of a command by which of its lane's go by it
pub group-by : (w z : World) (lane leader : ℕ) → ((b : ℕ) → led leader (tag_of w lane b) ≡ led leader (tag_of z lane b))
    → group w lane leader ≡ group z lane leader
unfolding group
group-by w z lane leader same = by (slice_get w.lanes lane) (slice_get z.lanes lane) same
  where
    test : Tag → Bool
    test t = is_that leader (leader_of t)

    as-by : (l : Lane) (b : ℕ) → by_test test (slice_get l.tags b) ≡ led leader (tag_in (Some l) b)
    as-by l b = elim (slice_get l.tags b) as (λ o. by_test test o ≡ led leader o) [ None ↦ refl | Some t ↦ refl ]

    by : (o p : Option Lane) → ((b : ℕ) → led leader (tag_in o b) ≡ led leader (tag_in p b)) → group_in o leader ≡ group_in p leader
    by None None same = refl
    by None (Some m) same = none-numbers test m.tags (λ b. as-by m b ∙ sym (same b)) ∙ sym (numbers-are test m.tags)
    by (Some l) None same = numbers-are test l.tags ∙ sym (none-numbers test l.tags (λ b. as-by l b ∙ same b))
    by (Some l) (Some m) same =
        numbers-are test l.tags ∙ numbers-by test l.tags m.tags (λ b. as-by l b ∙ same b ∙ sym (as-by m b)) ∙ sym (numbers-are test m.tags)

-- each goes by it
pub group-led : (w : World) (lane leader : ℕ) → All (λ b. led leader (tag_of w lane b) ≡ true) (group w lane leader)
unfolding group
group-led w lane leader = by (slice_get w.lanes lane)
  where
    test : Tag → Bool
    test t = is_that leader (leader_of t)

    by : (o : Option Lane) → All (λ b. led leader (tag_in o b) ≡ true) (group_in o leader)
    by None = All-nil (λ b. led leader (tag_in None b) ≡ true)
    by (Some l) =
        subst (All (λ b. led leader (slice_get l.tags b) ≡ true)) (sym (numbers-are test l.tags))
        (All-weaker (Passes test l.tags) (λ b. led leader (slice_get l.tags b) ≡ true) (λ n p. ap (led leader) p.is ∙ p.passes)
        (numbers_where test l.tags) (numbers-pass test l.tags))

-- ---- what has come of them

map-same : {X : Type 0} (f g : ℕ → X) (ns : List ℕ) → All (λ n. f n ≡ g n) ns → map f ns ≡ map g ns
map-same f g [] each = refl
map-same f g (n ∷ ns) each =
    ap (λ x. x ∷ map f ns) (All-head (λ n. f n ≡ g n) n ns each) ∙ ap (λ xs. g n ∷ xs) (map-same f g ns (All-tail (λ n. f n ≡ g n) n ns each))

pub rests-by : (geometry : Geometry) (w z : World) (lane leader : ℕ) → ((b : ℕ) → led leader (tag_of w lane b) ≡ led leader (tag_of z lane b))
    → ((b : ℕ) → led leader (tag_of w lane b) ≡ true → rest_at geometry w lane b ≡ rest_at geometry z lane b)
    → rests_of geometry w lane leader ≡ rests_of geometry z lane leader
unfolding rests_of
rests-by geometry w z lane leader same each =
    map-same (rest_at geometry w lane) (rest_at geometry z lane) (group w lane leader)
    (All-weaker (λ b. led leader (tag_of w lane b) ≡ true) (λ b. rest_at geometry w lane b ≡ rest_at geometry z lane b) each
    (group w lane leader) (group-led w lane leader))
    ∙ ap (map (rest_at geometry z lane)) (group-by w z lane leader same)

-- ---- a command by its tag

abbrev made : Command → Progress → Option Member
made command progress = Some (record { queue = command.queue; entry = command.entry; progress = progress })

-- a command is of that guest and goes by that tag, or it is none of the guest's under its name
member-by_test : (tag number : ℕ) (command : Command) (p q : Progress) → ((command.leader == tag) ≡ true → (command.guest == number) ≡ true → p ≡ q)
    → member_by tag number command p ≡ member_by tag number command q
member-by_test tag number command p q same =
    (elim (command.leader == tag) as (λ b. (command.leader == tag) ≡ b → cond b (member_of number command p) None ≡ cond b (member_of number command q) None) [
      | true ↦ λ leads. mine leads
      | false ↦ λ other. refl
    ]) refl
  where
    mine : (command.leader == tag) ≡ true → member_of number command p ≡ member_of number command q
    mine leads =
        (elim (command.guest == number) as (λ b. (command.guest == number) ≡ b
        → cond b (made command p) None ≡ cond b (made command q) None) [
          | true ↦ λ own. ap (made command) (same leads own)
          | false ↦ λ other. refl
        ]) refl

-- by what has come of its tags where they matter
pub member-rests : (o : Option Tag) (tag number : ℕ) (rests others : List Rest) → (led tag o ≡ true → is_tag_of number o ≡ true → rests ≡ others)
    → member_in o tag number rests ≡ member_in o tag number others
member-rests None tag number rests others same = refl
member-rests (Some Free) tag number rests others same = refl
member-rests (Some (Taken command reads)) tag number rests others same = refl
member-rests (Some (Flying command share standing)) tag number rests others same =
    member-by_test tag number command (work_progress (work_of share.whole) rests) (work_progress (work_of share.whole) others)
    (λ leads own. ap (work_progress (work_of share.whole)) (same leads own))
member-rests (Some (Ended command st share)) tag number rests others same =
    member-by_test tag number command (ended_progress share st rests) (ended_progress share st others)
    (λ leads own. ap (ended_progress share st) (same leads own))

-- it is none where the tag goes by another
pub member-elsewhere : (o : Option Tag) (tag number : ℕ) (rests : List Rest) → led tag o ≡ false → member_in o tag number rests ≡ None
member-elsewhere None tag number rests other = refl
member-elsewhere (Some Free) tag number rests other = refl
member-elsewhere (Some (Taken command reads)) tag number rests other = ap (λ b. cond b (member_of number command Unjudged) None) other
member-elsewhere (Some (Flying command share standing)) tag number rests other =
    ap (λ b. cond b (member_of number command (work_progress (work_of share.whole) rests)) None) other
member-elsewhere (Some (Ended command st share)) tag number rests other =
    ap (λ b. cond b (member_of number command (ended_progress share st rests)) None) other

-- and where it is another guest's
member-others : (tag number : ℕ) (command : Command) (p : Progress) → (command.guest == number) ≡ false → member_by tag number command p ≡ None
member-others tag number command p other = by (command.leader == tag)
  where
    by : (b : Bool) → cond b (member_of number command p) None ≡ None
    by true = ap (λ b. cond b (made command p) None) other
    by false = refl

member-not_own : (o : Option Tag) (tag number : ℕ) (rests : List Rest) → is_tag_of number o ≡ false → member_in o tag number rests ≡ None
member-not_own None tag number rests other = refl
member-not_own (Some Free) tag number rests other = refl
member-not_own (Some (Taken command reads)) tag number rests other = member-others tag number command Unjudged other
member-not_own (Some (Flying command share standing)) tag number rests other =
    member-others tag number command (work_progress (work_of share.whole) rests) other
member-not_own (Some (Ended command st share)) tag number rests other = member-others tag number command (ended_progress share st rests) other

-- what a guest's command is by its own tag
pub member-own : (o : Option Tag) (tag number : ℕ) (rests : List Rest) → member_in o tag number rests ≡ member_in (own_tag number o) tag number rests
member-own o tag number rests =
    (elim (is_tag_of number o) as (λ b. is_tag_of number o ≡ b → member_in o tag number rests ≡ member_in (cond b o None) tag number rests) [
      | true ↦ λ own. refl
      | false ↦ λ other. member-not_own o tag number rests other
    ]) refl

-- ---- a command's tags are its guest's

pub guest-part : (number : ℕ) (t u : Tag) → command_of (part_of t) ≡ command_of (part_of u) → is_tag_of number (Some t) ≡ is_tag_of number (Some u)
guest-part number t u same = by t ∙ ap guest_in same ∙ sym (by u)
  where
    guest_in : Option Command → Bool
    guest_in None = false
    guest_in (Some command) = command.guest == number

    by : (t : Tag) → is_tag_of number (Some t) ≡ guest_in (command_of (part_of t))
    by Free = refl
    by (Taken command reads) = refl
    by (Flying command share standing) = refl
    by (Ended command st None) = refl
    by (Ended command st (Some share)) = refl

pub goes-part : (leader : ℕ) (t : Tag) → is_that leader (leader_of t) ≡ part_goes_by leader (part_of t)
goes-part leader Free = refl
goes-part leader (Taken command reads) = refl
goes-part leader (Flying command share standing) = refl
goes-part leader (Ended command st None) = refl
goes-part leader (Ended command st (Some share)) = refl

-- the tags that go by the tag of a command are of the same command
pub group-same : (geometry : Geometry) (w : World) → HasGroups geometry w.lanes → (lane leader b : ℕ) (t u : Tag) → tag_of w lane leader ≡ Some t
    → led leader (Some t) ≡ true → tag_of w lane b ≡ Some u → led leader (Some u) ≡ true → command_of (part_of u) ≡ command_of (part_of t)
group-same geometry w are lane leader b t u there leads here goes =
    let l : HasLane w lane leader t = lane-of w lane leader t there in
    let g : Goes leader (part_of t) = goes-has leader (part_of t) (sym (goes-part leader t) ∙ leads) in
    let at : slice_get l.l.tags b ≡ Some u = sym (ap (λ o. tag_in o b) l.at) ∙ here in
    groupings.group-command geometry (parts_of l.l.tags) (are lane l.l l.at) leader g.command (part_of t) (tag-part l.l.tags leader t l.found) g.has g.leads
    b (part_of u) (tag-part l.l.tags b u at) (sym (goes-part leader u) ∙ goes)
    ∙ sym g.has
