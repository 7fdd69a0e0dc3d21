-- In sides that are alike to a guest its commands have the same tags, with the same in them.
use Rattle.std.proofs.Common.{◌≡◌, ℕ, suc, Bool, true, false, cond, List, [], ◌∷◌, ◌++◌, All, flat_map, length, map, slice_get, Option, Some, None}
use Rattle.std.proofs.Common.{arith, refl, sym, ap, ◌∙◌, subst, eqb-true, eq-eqb}
use Rattle.std.specs.Option.{option_map}
use Rattle.std.proofs.lemmas.List.Elements.{All-head, All-tail, All-weaker}
use Rattle.std.proofs.lemmas.Option.{slice_get-map}
use Rattle.nv_entry.specs.Status.{StatusField}
use Rattle.nv_laws_sound.specs.Groups.{Part, command_of, part_of, parts_of}
use Rattle.nv_laws_sound.specs.Kept.{IsKeptLane}
use Rattle.nv_laws_sound.specs.Side.{IsKept, Side}
use Rattle.nv_laws_sound.proofs.Lists.{some-same}
use Rattle.nv_laws_sound.proofs.Numbers.{Passes, numbers-are, numbers-map, numbers-pass, numbers_where}
use Rattle.nv_machine.specs.Alike.{IsAlike}
use Rattle.nv_machine.specs.Doing.{group_at, tag_at}
use Rattle.nv_machine.specs.Effects.{Effect}
use Rattle.nv_machine.specs.Machine.{delivered_from, delivery, statuses_of}
use Rattle.nv_machine.proofs.AlikeSides.{AreFound, AreLanes, BothLanes, NoLane, lanes-found, own-same}
use Rattle.nv_world_model.specs.Area.{bounce_page}
use Rattle.nv_world_model.specs.Contained.{guest_of_one}
use Rattle.nv_world_model.specs.Geometry.{Geometry, Guest}
use Rattle.nv_world_model.specs.Step.{ended_status, is_success, status_before}
use Rattle.nv_world_model.specs.View.{guest_of_tag, is_tag_of}
use Rattle.nv_world_model.specs.World.{Command, Ended, Flying, Free, Lane, Tag, Taken, claimed, first_of, group_in, is_free, is_that, leader_of, tag_in}

-- ---- lists

-- what is the same of each member, of as many members, is the same list
map-same : {X Y : Type 0} (f : X → Y) (xs ys : List X) → length xs ≡ length ys
    → ((i : ℕ) (x y : X) → slice_get xs i ≡ Some x → slice_get ys i ≡ Some y → f x ≡ f y) → map f xs ≡ map f ys
map-same f [] [] many each = refl
map-same f [] (y ∷ ys) many each = cc
map-same f (x ∷ xs) [] many each = cc
map-same f (x ∷ xs) (y ∷ ys) many each =
    let fewer : length xs ≡ length ys = omega (arith, many) in
    let first : f x ≡ f y = each 0 x y refl refl in
    let rest : map f xs ≡ map f ys = map-same f xs ys fewer (λ i a b at also. each (suc i) a b at also) in
    rw (first, rest) refl

-- so are the numbers of those that pass
numbers-same : {X : Type 0} (test : X → Bool) (xs ys : List X) → map test xs ≡ map test ys → numbers_where test xs ≡ numbers_where test ys
numbers-same test xs ys same =
    numbers-map (λ b. b) test xs ∙ ap (numbers_where (λ b. b)) same ∙ sym (numbers-map (λ b. b) test ys)

-- ---- free tags

pub claimed-same : (count : ℕ) (xs ys : List Tag) → map is_free xs ≡ map is_free ys → claimed count xs ≡ claimed count ys
unfolding claimed
claimed-same count xs ys same =
    ap (first_of count) (numbers-are is_free xs ∙ numbers-same is_free xs ys same ∙ sym (numbers-are is_free ys))

-- ---- whose a tag is

-- the command that goes by a tag
by-leader : (leader : ℕ) (x : Tag) → is_that leader (leader_of x) ≡ true → (c : Command) × ((command_of (part_of x) ≡ Some c) × (c.leader ≡ leader))
by-leader leader Free goes = cc
by-leader leader (Taken command reads) goes = (command, (refl, eqb-true command.leader leader goes))
by-leader leader (Flying command share at) goes = (command, (refl, eqb-true command.leader leader goes))
by-leader leader (Ended command st None) goes = (command, (refl, eqb-true command.leader leader goes))
by-leader leader (Ended command st (Some share)) goes = (command, (refl, eqb-true command.leader leader goes))

by-command : (x : Tag) (c : Command) → command_of (part_of x) ≡ Some c → guest_of_tag x ≡ Some c.guest
by-command Free c is = cc
by-command (Taken command reads) c is = cc
by-command (Flying command share at) c is = cc
by-command (Ended command st None) c is = cc
by-command (Ended command st (Some share)) c is = cc

module _ (number : ℕ) where
  -- a tag whose guest that is
  pub is-own : (a : Option Tag) → guest_of_one a ≡ Some number → is_tag_of number a ≡ true
  is-own None whose = cc
  is-own (Some t) whose = ap (is_that number) whose ∙ eq-eqb number number refl

  -- each tag of a lane that goes by a guest's tag is the guest's
  goes-own : (geometry : Geometry) (l : Lane) → IsKeptLane geometry l → (leader : ℕ) (t : Tag) → slice_get l.tags leader ≡ Some t → guest_of_tag t ≡ Some number
      → (i : ℕ) (x : Tag) → slice_get l.tags i ≡ Some x → is_that leader (leader_of x) ≡ true → guest_of_tag x ≡ Some number
  goes-own geometry l kept leader t first whose i x at goes =
      let c = by-leader leader x goes in
      let parts : List Part = parts_of l.tags in
      let member = kept.groups i (part_of x) c.0 (slice_get-map part_of l.tags i ∙ ap (option_map part_of) at) c.1.0 in
      let there : slice_get parts leader ≡ Some (part_of t) = slice_get-map part_of l.tags leader ∙ ap (option_map part_of) first in
      let same : member.first ≡ part_of t = some-same member.first (part_of t) (sym member.there ∙ ap (slice_get parts) c.1.1 ∙ there) in
      let command : command_of (part_of t) ≡ Some c.0 = sym (ap command_of same) ∙ member.same in
      by-command x c.0 c.1.0 ∙ sym (by-command t c.0 command) ∙ whose

  module _ (geometry : Geometry) (l k : Lane) (kept : IsKeptLane geometry l) (also : IsKeptLane geometry k) (alike : AreLanes number l k)
      (leader : ℕ) (t : Tag) (first : slice_get l.tags leader ≡ Some t) (whose : guest_of_tag t ≡ Some number) where
    abbrev goes : Tag → Bool
    goes x = is_that leader (leader_of x)

    first-also : slice_get k.tags leader ≡ Some t
    first-also =
        own-same number (slice_get l.tags leader) (slice_get k.tags leader) (alike.tags leader) (is-own (slice_get l.tags leader) (ap guest_of_one first ∙ whose))
        ∙ first

    goes-same : (i : ℕ) (x y : Tag) → slice_get l.tags i ≡ Some x → slice_get k.tags i ≡ Some y → goes x ≡ goes y
    goes-same i x y at and =
        (elim (goes x) as (λ b. goes x ≡ b → goes x ≡ goes y) [
          | true ↦ λ is.
              (let own = is-own (slice_get l.tags i) (ap guest_of_one at ∙ goes-own geometry l kept leader t first whose i x at is) in
              let same : y ≡ x = some-same y x (sym and ∙ own-same number (slice_get l.tags i) (slice_get k.tags i) (alike.tags i) own ∙ at) in
              sym (ap goes same))
          | false ↦ λ is. is ∙ sym (not-either is)
        ]) refl
      where
        not-either : goes x ≡ false → goes y ≡ false
        not-either is =
            (elim (goes y) as (λ b. goes y ≡ b → b ≡ false) [
              | true ↦ λ does.
                  (let own = is-own (slice_get k.tags i) (ap guest_of_one and ∙ goes-own geometry k also leader t first-also whose i y and does) in
                  let same : x ≡ y =
                  some-same x y (sym at ∙ own-same number (slice_get k.tags i) (slice_get l.tags i) (sym (alike.tags i)) own ∙ and) in
                  let bad : true ≡ false = sym does ∙ sym (ap goes same) ∙ is in cc)
              | false ↦ λ does. refl
            ]) refl

    lane-group : group_in (Some l) leader ≡ group_in (Some k) leader
    lane-group =
        let tags = kept.tags_are in
        numbers-are goes l.tags
        ∙ numbers-same goes l.tags k.tags (map-same goes l.tags k.tags (tags ∙ sym also.tags_are) goes-same)
        ∙ sym (numbers-are goes k.tags)

    lane-own : All (λ n. is_tag_of number (slice_get l.tags n) ≡ true) (group_in (Some l) leader)
    lane-own =
        subst (All (λ n. is_tag_of number (slice_get l.tags n) ≡ true)) (sym (numbers-are goes l.tags))
        (All-weaker (Passes goes l.tags) (λ n. is_tag_of number (slice_get l.tags n) ≡ true)
        (λ n p. is-own (slice_get l.tags n) (ap guest_of_one p.is ∙ goes-own geometry l kept leader t first whose n p.x p.is p.passes))
        (numbers_where goes l.tags) (numbers-pass goes l.tags))

  -- ---- two sides

  module _ (geometry : Geometry) (s z : Side) (kept : IsKept geometry s) (also : IsKept geometry z) (alike : IsAlike number s z) (lane leader : ℕ)
      (t : Tag) (there : tag_at s lane leader ≡ Some t) (whose : guest_of_tag t ≡ Some number) where
    abbrev IsGroup : List ℕ → List ℕ → Type 0
    IsGroup tags others = (tags ≡ others) × All (λ n. is_tag_of number (tag_at s lane n) ≡ true) tags

    -- its tags are the same, and the guest's
    pub group-same : IsGroup (group_at s lane leader) (group_at z lane leader)
    group-same = by (lanes-found number s z lane alike)
      where
        by : AreFound number (slice_get s.lanes lane) (slice_get z.lanes lane) → IsGroup (group_at s lane leader) (group_at z lane leader)
        by (NoLane none other) = (let bad : None ≡ Some t = sym (ap (λ o. tag_in o leader) none) ∙ there in cc)
        by (BothLanes l k is other lanes) =
            let first : slice_get l.tags leader ≡ Some t = sym (ap (λ o. tag_in o leader) is) ∙ there in (
              ap (λ o. group_in o leader) is ∙ lane-group geometry l k (kept.lanes lane l is) (also.lanes lane k other) lanes leader t first whose
                  ∙ sym (ap (λ o. group_in o leader) other),
              subst (λ o. All (λ n. is_tag_of number (tag_in o n) ≡ true) (group_in o leader)) (sym is)
                  (lane-own geometry l k (kept.lanes lane l is) (also.lanes lane k other) lanes leader t first whose),
            )

  module _ (s z : Side) (alike : IsAlike number s z) (lane : ℕ) where
    -- a tag that is the guest's is the same
    pub tag-same : (tag : ℕ) → is_tag_of number (tag_at s lane tag) ≡ true → tag_at s lane tag ≡ tag_at z lane tag
    tag-same tag own = sym (own-same number (tag_at s lane tag) (tag_at z lane tag) (alike.tags lane tag) own)

    abbrev Own : ℕ → Type 0
    Own tag = is_tag_of number (tag_at s lane tag) ≡ true

    pub statuses-alike : (tags : List ℕ) → All Own tags → statuses_of lane tags s ≡ statuses_of lane tags z
    unfolding statuses_of
    statuses-alike [] own = refl
    statuses-alike (tag ∷ tags) own =
        ap (λ t. status_before (ended_status t) (statuses_of lane tags s)) (tag-same tag (All-head Own tag tags own))
        ∙ ap (status_before (ended_status (tag_at z lane tag))) (statuses-alike tags (All-tail Own tag tags own))

    module _ (mediator : ℕ) (given : Guest) where
      abbrev delivers : Side → ℕ → List Effect
      delivers x tag = delivered_from (tag_at x lane tag) (bounce_page mediator lane tag) given

      each-alike : (tags : List ℕ) → All Own tags → flat_map (delivers s) tags ≡ flat_map (delivers z) tags
      each-alike [] own = refl
      each-alike (tag ∷ tags) own =
          ap (λ t. delivered_from t (bounce_page mediator lane tag) given ++ flat_map (delivers s) tags) (tag-same tag (All-head Own tag tags own))
          ∙ ap (λ es. delivers z tag ++ es) (each-alike tags (All-tail Own tag tags own))

      pub delivery-alike : (st : StatusField) (tags : List ℕ) → All Own tags → delivery st mediator lane tags given s ≡ delivery st mediator lane tags given z
      delivery-alike st tags own = ap (λ es. cond (is_success st) es []) (each-alike tags own)
