-- Changes of a guest's own tags, and of its controller, leave what is another's.
use Rattle.std.proofs.Common.{◌≡◌, ◌≢◌, ℕ, Bool, true, false, cond, ◌==◌, List, [], ◌∷◌, length, set, slice_get, All, Option, Some, None}
use Rattle.std.proofs.Common.{zero, suc, refl, sym, ap, ◌∙◌, subst, eqb-true}
use Rattle.std.proofs.lemmas.Bool.{ne_eqb}
use Rattle.std.proofs.lemmas.List.Elements.{All-head, All-tail, All-weaker}
use Rattle.nv_laws_sound.specs.Groups.{AreGroups, command_of, part_of, parts_of}
use Rattle.nv_laws_sound.specs.Side.{Side}
use Rattle.nv_laws_sound.proofs.Folds.{HasTag, group-has, tag-part}
use Rattle.nv_laws_sound.proofs.Groupings.{group-command}
use Rattle.nv_machine.specs.Doing.{Doing, controller_put, group_at, tag_at, tag_put, tags_put}
use Rattle.nv_machine.proofs.SideWorlds.{world_with}
use Rattle.nv_model.specs.Controller.{Controller}
use Rattle.nv_world_model.specs.Geometry.{Geometry}
use Rattle.nv_world_model.specs.View.{guest_of_tag, own_tag}
use Rattle.nv_world_model.specs.World.{Command, Ended, Flying, Free, Lane, Tag, Taken, World, changed_at, group, is_that, tag_changed, tag_in}
use Rattle.nv_world_model.proofs.Seats.{slice_get-set, slice_get-set-other}

-- nothing is put where nothing is
set-nowhere : {X : Type 0} (xs : List X) (i : ℕ) (x : X) → slice_get xs i ≡ None → set xs i x ≡ xs
set-nowhere [] i x none = refl
set-nowhere (y ∷ xs) zero x none = cc
set-nowhere {X = X} (y ∷ xs) (suc i) x none = ap (λ (ys : List X). y ∷ ys) (set-nowhere xs i x none)

-- ---- a tag that another guest does not see

-- to all but one guest it is none of theirs
abbrev pub IsOthersNone : (number : ℕ) → Option Tag → Type 0
IsOthersNone number t = (other : ℕ) → Some number ≢ Some other → own_tag other t ≡ None

-- a free tag is nobody's
pub free-none : (number : ℕ) → IsOthersNone number (Some Free)
free-none number other apart = refl

-- one of a guest is no other's
pub guests-none : (number : ℕ) (t : Tag) → guest_of_tag t ≡ Some number → IsOthersNone number (Some t)
guests-none number t is other apart =
    ap (λ (g : Option ℕ). cond (is_that other g) (Some t) None) is
    ∙ ap (λ (b : Bool). cond b (Some t) None) (ne_eqb number other (λ same. apart (ap (λ (n : ℕ). Some n) same)))

-- ---- one tag changes

module _ (other lane tag : ℕ) (t : Tag) (now : own_tag other (Some t) ≡ None) where
  -- of its lane
  same-lane : (l : Lane) (at : ℕ) → own_tag other (slice_get l.tags tag) ≡ None → (b : Bool) → (at == tag) ≡ b
      → own_tag other (slice_get (set l.tags tag t) at) ≡ own_tag other (slice_get l.tags at)
  same-lane l at was false apart = ap (own_tag other) (slice_get-set-other l.tags tag at t apart)
  same-lane l at was true here = by (slice_get l.tags tag) refl
    where
      same : at ≡ tag
      same = eqb-true at tag here

      by : (o : Option Tag) → slice_get l.tags tag ≡ o → own_tag other (slice_get (set l.tags tag t) at) ≡ own_tag other (slice_get l.tags at)
      by None there =
          subst (λ (n : ℕ). own_tag other (slice_get (set l.tags tag t) n) ≡ own_tag other (slice_get l.tags n)) (sym same)
          (ap (λ (ts : List Tag). own_tag other (slice_get ts tag)) (set-nowhere l.tags tag t there))
      by (Some x) there =
          subst (λ (n : ℕ). own_tag other (slice_get (set l.tags tag t) n) ≡ own_tag other (slice_get l.tags n)) (sym same)
          (ap (own_tag other) (slice_get-set l.tags tag x t there) ∙ now ∙ sym was)

  -- of the lanes
  same-lanes : (lanes : List Lane) (o : Option Lane) → slice_get lanes lane ≡ o → own_tag other (tag_in o tag) ≡ None → (where_ at : ℕ)
      → own_tag other (tag_in (slice_get (changed_at o lane (tag_changed tag t) lanes) where_) at) ≡ own_tag other (tag_in (slice_get lanes where_) at)
  same-lanes lanes None there was where_ at = refl
  same-lanes lanes (Some l) there was where_ at = by (where_ == lane) refl
    where
      by : (b : Bool) → (where_ == lane) ≡ b
          → own_tag other (tag_in (slice_get (set lanes lane (tag_changed tag t l)) where_) at) ≡ own_tag other (tag_in (slice_get lanes where_) at)
      by false apart = ap (λ (x : Option Lane). own_tag other (tag_in x at)) (slice_get-set-other lanes lane where_ (tag_changed tag t l) apart)
      by true here =
          subst (λ (n : ℕ). own_tag other (tag_in (slice_get (set lanes lane (tag_changed tag t l)) n) at) ≡ own_tag other (tag_in (slice_get lanes n) at))
          (sym (eqb-true where_ lane here))
          (ap (λ (x : Option Lane). own_tag other (tag_in x at)) (slice_get-set lanes lane l (tag_changed tag t l) there)
          ∙ same-lane l at was (at == tag) refl
          ∙ ap (λ (x : Option Lane). own_tag other (tag_in x at)) (sym there))

-- ---- what is left alone

-- what is another's is as before, and there are as many rings
pub record LeavesRest (number : Option ℕ) (s after : Side) : Type 0 where
  pub controllers : (other : ℕ) → number ≢ Some other → slice_get after.controllers other ≡ slice_get s.controllers other
  pub tags : (other lane tag : ℕ) → number ≢ Some other → own_tag other (tag_at after lane tag) ≡ own_tag other (tag_at s lane tag)
  pub many : length after.tails ≡ length s.tails

abbrev pub Leaves : (number : ℕ) → (s after : Side) → Type 0
Leaves number s after = LeavesRest (Some number) s after

pub leaves-all : (number : Option ℕ) (s : Side) → LeavesRest number s s
leaves-all number s = record { controllers = λ other apart. refl; tags = λ other lane tag apart. refl; many = refl }

pub leaves-both : (number : Option ℕ) (s t u : Side) → LeavesRest number s t → LeavesRest number t u → LeavesRest number s u
leaves-both number s t u first second =
    record {
      controllers = (λ other apart. second.controllers other apart ∙ first.controllers other apart);
      tags = (λ other lane tag apart. second.tags other lane tag apart ∙ first.tags other lane tag apart);
      many = second.many ∙ first.many;
    }

pub leaves-then : (number : ℕ) (s t u : Side) → Leaves number s t → Leaves number t u → Leaves number s u
leaves-then number = leaves-both (Some number)

-- the guest's controller
pub controller-leaves : (number : ℕ) (c : Controller) (m : Doing) → Leaves number m.side (controller_put number c m).side
controller-leaves number c m =
    record {
      controllers = (λ other apart. slice_get-set-other m.side.controllers number other c
          (ne_eqb other number (λ same. apart (ap (λ (n : ℕ). Some n) (sym same)))));
      tags = (λ other lane tag apart. refl);
      many = refl;
    }

-- a tag that was no other's and is none
pub tag-leaves : (number lane tag : ℕ) (t : Tag) (m : Doing) → IsOthersNone number (tag_at m.side lane tag) → IsOthersNone number (Some t)
    → Leaves number m.side (tag_put lane tag t m).side
tag-leaves number lane tag t m was now =
    record {
      controllers = (λ other apart. refl);
      tags = (λ other at n apart.
          same-lanes other lane tag t (now other apart) m.side.lanes (slice_get m.side.lanes lane) refl (was other apart) at n);
      many = refl;
    }

-- of a lane these tags are no other's
abbrev pub AreOthersNone : (number lane : ℕ) → Side → List ℕ → Type 0
AreOthersNone number lane s tags = All (λ (tag : ℕ). IsOthersNone number (tag_at s lane tag)) tags

pub none-kept : (number lane : ℕ) (s after : Side) (tags : List ℕ) → Leaves number s after → AreOthersNone number lane s tags
    → AreOthersNone number lane after tags
none-kept number lane s after tags leaves each =
    All-weaker (λ (tag : ℕ). IsOthersNone number (tag_at s lane tag)) (λ (tag : ℕ). IsOthersNone number (tag_at after lane tag))
    (λ tag none other apart. leaves.tags other lane tag apart ∙ none other apart) tags each

pub tags-leave : (number lane : ℕ) (tags : List ℕ) (t : Tag) (m : Doing) → AreOthersNone number lane m.side tags → IsOthersNone number (Some t)
    → Leaves number m.side (tags_put lane tags t m).side
unfolding tags_put
tags-leave number lane [] t m each now = leaves-all (Some number) m.side
tags-leave number lane (tag ∷ tags) t m each now =
    let None_ : ℕ → Type 0 = λ n. IsOthersNone number (tag_at m.side lane n) in
    let one = tag-leaves number lane tag t m (All-head None_ tag tags each) now in
    leaves-then number m.side (tag_put lane tag t m).side (tags_put lane tags t (tag_put lane tag t m)).side one
    (tags-leave number lane tags t (tag_put lane tag t m)
    (none-kept number lane m.side (tag_put lane tag t m).side tags one (All-tail None_ tag tags each)) now)

-- ---- the tags of a command

-- a tag of a lane is there, and is that guest's
pub record IsGuestsTag (number lane : ℕ) (s : Side) (tag : ℕ) : Type 0 where
  pub t : Tag
  pub there : tag_at s lane tag ≡ Some t
  pub whose : guest_of_tag t ≡ Some number

pub guests-others : (number lane : ℕ) (s : Side) (tag : ℕ) → IsGuestsTag number lane s tag → IsOthersNone number (tag_at s lane tag)
guests-others number lane s tag is other apart = ap (own_tag other) is.there ∙ guests-none number is.t is.whose other apart

pub group-others : (number lane : ℕ) (s : Side) (tags : List ℕ) → All (IsGuestsTag number lane s) tags → AreOthersNone number lane s tags
group-others number lane s tags each =
    All-weaker (IsGuestsTag number lane s) (λ (tag : ℕ). IsOthersNone number (tag_at s lane tag)) (guests-others number lane s) tags each

-- the guest of a tag's command
abbrev guest_by : Option Command → Option ℕ
guest_by None = None
guest_by (Some c) = Some c.guest

guest-part : (t : Tag) → guest_of_tag t ≡ guest_by (command_of (part_of t))
guest-part Free = refl
guest-part (Taken c reads) = refl
guest-part (Flying c share standing) = refl
guest-part (Ended c st None) = refl
guest-part (Ended c st (Some share)) = refl

-- all tags of a command are its guest's
pub group-guests : (geometry : Geometry) (s : Side) (lane leader : ℕ) (l : Lane) (t : Tag) (command : Command) → slice_get s.lanes lane ≡ Some l
    → AreGroups geometry l.tags → slice_get l.tags leader ≡ Some t → command_of (part_of t) ≡ Some command → command.leader ≡ leader
    → All (IsGuestsTag command.guest lane s) (group_at s lane leader)
unfolding group
group-guests geometry s lane leader l t command at groups found has leads =
    let P : Tag → Type 0 = λ x. guest_of_tag x ≡ Some command.guest in
    let w : World = world_with (λ addr. 0) s in
    All-weaker (HasTag P w lane) (IsGuestsTag command.guest lane s) (λ tag h. record { t = h.t; there = h.is; whose = h.has })
    (group_at s lane leader)
    (group-has P w lane leader l at (λ n x there goes.
    guest-part x
    ∙ ap guest_by (group-command geometry (parts_of l.tags) groups leader command (part_of t) (tag-part l.tags leader t found) has leads n (part_of x)
    (tag-part l.tags n x there) goes)))
