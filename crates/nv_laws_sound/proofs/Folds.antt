-- Some tags of a lane become another, one after the other.
use Rattle.std.proofs.Common.{◌≡◌, ℕ, zero, suc, Bool, true, false, cond, ◌==◌, List, [], ◌∷◌, length, map, replicate, set, slice_get, Option, Some, None}
use Rattle.std.proofs.Common.{refl, sym, ap, ◌∙◌, subst}
use Rattle.std.specs.List.{All}
use Rattle.std.specs.Option.{option_map}
use Rattle.std.proofs.lemmas.List.Elements.{All-cons, All-head, All-nil, All-tail, All-weaker}
use Rattle.std.proofs.lemmas.Option.{slice_get-map}
use Rattle.nv_world_model.proofs.Seats.{slice_get-set, slice_get-set-other}
use Rattle.nv_world_model.specs.World.{Ended, Flying, Free, Lane, Tag, Taken, World, changed_at, group, group_in, is_that as tag_goes_by}
use Rattle.nv_world_model.specs.World.{leader_of, tag_changed, tag_in, tag_of, with_tag, with_tags}
use Rattle.nv_laws_sound.specs.Groups.{Part, goes_by, part_of, parts_of}
use Rattle.nv_laws_sound.proofs.Lists.{set-same, set-set}
use Rattle.nv_laws_sound.proofs.Numbers.{AreDistinct, Passes, numbers-are, numbers-distinct, numbers-map, numbers-pass, numbers_where, puts}
use Rattle.nv_laws_sound.proofs.Retags.{with_tag-is}

-- ---- tags of a lane

-- a tag of that kind is there
pub record HasTag (P : Tag → Type 0) (w : World) (lane tag : ℕ) : Type 0 where
  pub t : Tag
  pub is : tag_of w lane tag ≡ Some t
  pub has : P t

-- another tag is as it was
tag_in-other : (o : Option Lane) (lanes : List Lane) (lane tag other : ℕ) (now : Tag) → slice_get lanes lane ≡ o → (other == tag) ≡ false
    → tag_in (slice_get (changed_at o lane (tag_changed tag now) lanes) lane) other ≡ tag_in o other
tag_in-other None lanes lane tag other now at apart = ap (λ o. tag_in o other) at
tag_in-other (Some l) lanes lane tag other now at apart =
    ap (λ o. tag_in o other) (slice_get-set lanes lane l (tag_changed tag now l) at) ∙ slice_get-set-other l.tags tag other now apart

pub tag_of-other : (w : World) (lane tag other : ℕ) (now : Tag) → (other == tag) ≡ false
    → tag_of (with_tag lane tag now w) lane other ≡ tag_of w lane other
tag_of-other w lane tag other now apart = tag_in-other (slice_get w.lanes lane) w.lanes lane tag other now refl apart

-- so are all others
pub have-other : (P : Tag → Type 0) (w z : World) (lane tag : ℕ) (tags : List ℕ)
    → ((other : ℕ) → (other == tag) ≡ false → tag_of z lane other ≡ tag_of w lane other)
    → All (λ other. (other == tag) ≡ false) tags → All (HasTag P w lane) tags → All (HasTag P z lane) tags
have-other P w z lane tag [] same apart have = All-nil (HasTag P z lane)
have-other P w z lane tag (other ∷ tags) same apart have =
    let h = All-head (HasTag P w lane) other tags have in
    All-cons (HasTag P z lane) other tags
    (record { t = h.t; is = same other (All-head (λ n. (n == tag) ≡ false) other tags apart) ∙ h.is; has = h.has })
    (have-other P w z lane tag tags same (All-tail (λ n. (n == tag) ≡ false) other tags apart) (All-tail (HasTag P w lane) other tags have))

-- what one change keeps, all keep
pub with_tags-fold : (Q : World → Type 0) (P : Tag → Type 0) (lane : ℕ) (now : Tag)
    → ((z : World) (tag : ℕ) (t : Tag) → Q z → tag_of z lane tag ≡ Some t → P t → Q (with_tag lane tag now z))
    → (tags : List ℕ) (w : World) → All (HasTag P w lane) tags → AreDistinct tags → Q w → Q (with_tags lane tags now w)
unfolding with_tags
with_tags-fold Q P lane now each [] w have apart holds = holds
with_tags-fold Q P lane now each (tag ∷ tags) w have apart holds =
    let h = All-head (HasTag P w lane) tag tags have in
    with_tags-fold Q P lane now each tags (with_tag lane tag now w)
    (have-other P w (with_tag lane tag now w) lane tag tags (λ other differ. tag_of-other w lane tag other now differ) apart.0
    (All-tail (HasTag P w lane) tag tags have)) apart.1 (each w tag h.t holds h.is h.has)

-- ---- the tags of a command

-- a tag's part goes by a tag as it does
goes-part : (leader : ℕ) (t : Tag) → tag_goes_by leader (leader_of t) ≡ goes_by leader (part_of t)
goes-part leader Free = refl
goes-part leader (Taken command reads) = refl
goes-part leader (Flying command share standing) = refl
goes-part leader (Ended command st None) = refl
goes-part leader (Ended command st (Some share)) = refl

pub numbers-same : {X : Type 0} (p q : X → Bool) (xs : List X) → ((x : X) → p x ≡ q x) → numbers_where p xs ≡ numbers_where q xs
numbers-same p q [] same = refl
numbers-same {X = X} p q (x ∷ xs) same =
    ap (λ (b : Bool). cond b (0 ∷ map suc (numbers_where p xs)) (map suc (numbers_where p xs))) (same x)
    ∙ ap (λ (ns : List ℕ). cond (q x) (0 ∷ map suc ns) (map suc ns)) (numbers-same p q xs same)

-- their numbers are those of its parts
pub group-numbers : (w : World) (lane leader : ℕ) (l : Lane) → slice_get w.lanes lane ≡ Some l
    → group w lane leader ≡ numbers_where (goes_by leader) (parts_of l.tags)
unfolding group
group-numbers w lane leader l at =
    ap (λ o. group_in o leader) at ∙ numbers-are (λ t. tag_goes_by leader (leader_of t)) l.tags
    ∙ numbers-same (λ t. tag_goes_by leader (leader_of t)) (λ t. goes_by leader (part_of t)) l.tags (goes-part leader)
    ∙ numbers-map (goes_by leader) part_of l.tags

pub group-distinct : (w : World) (lane leader : ℕ) → AreDistinct (group w lane leader)
unfolding group
group-distinct w lane leader = by (slice_get w.lanes lane)
  where
    by : (o : Option Lane) → AreDistinct (group_in o leader)
    by None = tt
    by (Some l) =
        subst AreDistinct (sym (numbers-are (λ t. tag_goes_by leader (leader_of t)) l.tags))
        (numbers-distinct (λ t. tag_goes_by leader (leader_of t)) l.tags)

-- a part that is there is a tag's
pub record IsPartOfTag (tags : List Tag) (n : ℕ) (part : Part) : Type 0 where
  pub t : Tag
  pub is : slice_get tags n ≡ Some t
  pub part_is : part_of t ≡ part

pub part-tag : (tags : List Tag) (n : ℕ) (part : Part) → slice_get (parts_of tags) n ≡ Some part → IsPartOfTag tags n part
part-tag tags n part at = by (slice_get tags n) refl (sym (slice_get-map part_of tags n) ∙ at)
  where
    by : (o : Option Tag) → slice_get tags n ≡ o → option_map part_of o ≡ Some part → IsPartOfTag tags n part
    by None is mapped = cc
    by (Some t) is mapped = record { t = t; is = is; part_is = cc }

pub tag-part : (tags : List Tag) (n : ℕ) (t : Tag) → slice_get tags n ≡ Some t → slice_get (parts_of tags) n ≡ Some (part_of t)
tag-part tags n t at = slice_get-map part_of tags n ∙ ap (option_map part_of) at

-- what holds of all parts of a group, of its tags
pub group-has : (P : Tag → Type 0) (w : World) (lane leader : ℕ) (l : Lane) → slice_get w.lanes lane ≡ Some l
    → ((n : ℕ) (t : Tag) → slice_get l.tags n ≡ Some t → goes_by leader (part_of t) ≡ true → P t)
    → All (HasTag P w lane) (group w lane leader)
group-has P w lane leader l at each =
    subst (All (HasTag P w lane)) (sym (group-numbers w lane leader l at))
    (All-weaker (Passes (goes_by leader) (parts_of l.tags)) (HasTag P w lane) (λ n p. one n p) (numbers_where (goes_by leader) (parts_of l.tags))
    (numbers-pass (goes_by leader) (parts_of l.tags)))
  where
    one : (n : ℕ) → Passes (goes_by leader) (parts_of l.tags) n → HasTag P w lane n
    one n p =
        let x = part-tag l.tags n p.x p.is in
        record {
          t = x.t;
          is = ap (λ o. tag_in o n) at ∙ x.is;
          has = each n x.t x.is (subst (λ z. goes_by leader z ≡ true) (sym x.part_is) p.passes);
        }

-- ---- the lanes behind it

-- one after another becomes that
abbrev pub put_all : {X : Type 0} → List ℕ → X → List X → List X
put_all [] v xs = xs
put_all (n ∷ ns) v xs = put_all ns v (set xs n v)

pub with_tags-is : (lane : ℕ) (tags : List ℕ) (now : Tag) (w : World) (l : Lane) → slice_get w.lanes lane ≡ Some l
    → with_tags lane tags now w ≡ record w { lanes = set w.lanes lane (record l { tags = put_all tags now l.tags }) }
unfolding with_tags
with_tags-is lane [] now w l at = ap (λ ls. record w { lanes = ls }) (sym (set-same w.lanes lane l at))
with_tags-is lane (tag ∷ tags) now w l at =
    let one = tag_changed tag now l in
    let first = with_tag-is lane tag now w l at in
    let z : World = record w { lanes = set w.lanes lane one } in
    ap (with_tags lane tags now) first
    ∙ with_tags-is lane tags now z one (slice_get-set w.lanes lane l one at)
    ∙ ap (λ ls. record w { lanes = ls }) (set-set w.lanes lane one (record one { tags = put_all tags now one.tags }))

-- and their parts
map-set : {X Y : Type 0} (f : X → Y) (xs : List X) (n : ℕ) (v : X) → map f (set xs n v) ≡ set (map f xs) n (f v)
map-set f [] n v = refl
map-set f (x ∷ xs) zero v = refl
map-set f (x ∷ xs) (suc n) v = ap (λ ys. f x ∷ ys) (map-set f xs n v)

pub parts-set : (tags : List Tag) (n : ℕ) (now : Tag) → parts_of (set tags n now) ≡ set (parts_of tags) n (part_of now)
parts-set tags n now = map-set part_of tags n now

pub parts-put_all : (ns : List ℕ) (now : Tag) (tags : List Tag) → parts_of (put_all ns now tags) ≡ put_all ns (part_of now) (parts_of tags)
parts-put_all [] now tags = refl
parts-put_all (n ∷ ns) now tags = parts-put_all ns now (set tags n now) ∙ ap (put_all ns (part_of now)) (parts-set tags n now)

pub put_all-puts : {X : Type 0} (ns : List ℕ) (v : X) (xs : List X) → put_all ns v xs ≡ puts ns (replicate (length ns) v) xs
put_all-puts [] v xs = refl
put_all-puts (n ∷ ns) v xs = put_all-puts ns v (set xs n v)
