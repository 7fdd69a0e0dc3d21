-- A command that waits for its plan does so with all its tags.
use Rattle.std.proofs.Common.{◌≡◌, ℕ, zero, suc, Bool, true, false, cond, List, [], ◌∷◌, filter, length, map, replicate, slice_get, Some, None}
use Rattle.std.proofs.Common.{refl, sym, ap, ◌∙◌, subst}
use Rattle.std.specs.List.{All}
use Rattle.std.proofs.lemmas.List.{length-replicate}
use Rattle.std.proofs.lemmas.List.Elements.{All-cons, All-nil, All-replicate}
use Rattle.nv_entry.specs.StatusCode.{done_with}
use Rattle.nv_entry.specs.declared.status_code.StatusCode.TheVariants.{Success}
use Rattle.nv_model.specs.Transcript.{ReadDone}
use Rattle.nv_world_model.specs.Geometry.{Geometry, Guest}
use Rattle.nv_world_model.specs.Share.{Share, shares_of, tags_of_entry}
use Rattle.nv_world_model.specs.World.{Command, Ended, Flying, Free, Lane, Tag, Taken, World, group, tag_in, tag_of}
use Rattle.nv_laws_sound.specs.Groups.{AllAnswered, AllHanded, AllRead, AreGrouped, AreGroups, AtOnce, Handed, IsGroup, NoPart, Part, Reading}
use Rattle.nv_laws_sound.specs.Groups.{goes_by, group_of, part_of, parts_of}
use Rattle.nv_laws_sound.proofs.Folds.{HasTag, group-has, group-numbers, tag-part}
use Rattle.nv_laws_sound.proofs.Groupings.{goes-of}
use Rattle.nv_laws_sound.proofs.Numbers.{all-at, numbers-length}
use Rattle.nv_laws_sound.proofs.TagEvents.{IsTakenBy}

-- ---- members of a group

-- what passes is among what is left
pub filter-at : {X : Type 0} (q : X → Bool) (xs : List X) (n : ℕ) (x : X) → slice_get xs n ≡ Some x → q x ≡ true
    → (k : ℕ) × (slice_get (filter q xs) k ≡ Some x)
filter-at q [] n x at passes = cc
filter-at {X = X} q (y ∷ ys) zero x at passes =
    let same : y ≡ x = cc in
    (0, ap (λ b. slice_get (cond b (y ∷ filter q ys) (filter q ys)) 0) (ap q same ∙ passes) ∙ ap (λ z. Some z) same)
filter-at {X = X} q (y ∷ ys) (suc n) x at passes =
    let rest = filter-at q ys n x at passes in
    elim (q y) as (λ b. (k : ℕ) × (slice_get (cond b (y ∷ filter q ys) (filter q ys)) k ≡ Some x)) [
      | true ↦ (suc rest.0, rest.1)
      | false ↦ rest
    ]

abbrev pub is_reading : Part → Bool
is_reading NoPart = false
is_reading (Reading command) = true
is_reading (Handed command share) = false
is_reading (AtOnce command st) = false

pub handed-none : (command : Command) (shares : List Share) → All (λ p. is_reading p ≡ false) (map (Handed command) shares)
handed-none command [] = All-nil (λ p. is_reading p ≡ false)
handed-none command (share ∷ shares) =
    All-cons (λ p. is_reading p ≡ false) (Handed command share) (map (Handed command) shares) refl (handed-none command shares)

-- ---- all its tags

pub record IsReadingGroup (geometry : Geometry) (parts : List Part) (leader : ℕ) (command : Command) : Type 0 where
  pub guest : Guest
  pub given : slice_get geometry.guests command.guest ≡ Some guest
  pub all : group_of leader parts ≡ replicate (tags_of_entry guest.namespace command.entry) (Reading command)

pub reading-group : (geometry : Geometry) (parts : List Part) (leader : ℕ) (command : Command) → AreGrouped geometry parts
    → slice_get parts leader ≡ Some (Reading command) → command.leader ≡ leader → IsReadingGroup geometry parts leader command
reading-group geometry parts leader command is at leads =
    let m = is leader (Reading command) command at refl in
    record {
      guest = m.guest;
      given = m.given;
      all =
          by m.guest (group_of leader parts) (filter-at (goes_by leader) parts leader (Reading command) at (goes-of leader (Reading command) command refl leads))
          (subst (λ n. IsGroup m.guest.namespace command (group_of n parts)) leads m.group);
    }
  where
    by : (guest : Guest) (ps : List Part) → (k : ℕ) × (slice_get ps k ≡ Some (Reading command)) → IsGroup guest.namespace command ps
        → ps ≡ replicate (tags_of_entry guest.namespace command.entry) (Reading command)
    by guest ps among (AllRead e) = e
    by guest ps among (AllHanded whole e) =
        let bad : true ≡ false =
        all-at (λ p. is_reading p ≡ false) (map (Handed command) (shares_of guest.namespace command.entry whole)) among.0 (Reading command)
        (handed-none command (shares_of guest.namespace command.entry whole)) (ap (λ zs. slice_get zs among.0) (sym e) ∙ among.1) in cc
    by guest ps among (AllAnswered st others fails e) =
        let answered : List Part = AtOnce command st ∷ replicate others (AtOnce command (done_with Success)) in
        let none : All (λ p. is_reading p ≡ false) answered =
        All-cons (λ p. is_reading p ≡ false) (AtOnce command st) (replicate others (AtOnce command (done_with Success))) refl
        (All-replicate (λ p. is_reading p ≡ false) others (AtOnce command (done_with Success)) refl) in
        let bad : true ≡ false =
        all-at (λ p. is_reading p ≡ false) answered among.0 (Reading command) none (ap (λ zs. slice_get zs among.0) (sym e) ∙ among.1) in cc

reading-tag : (command : Command) (t : Tag) → part_of t ≡ Reading command → IsTakenBy command t
reading-tag command Free is = cc
reading-tag command (Taken c reads) is =
    let same : c ≡ command = cc in record { reads = reads; is = ap (λ x. Taken x reads) same }
reading-tag command (Flying c share standing) is = cc
reading-tag command (Ended c st None) is = cc
reading-tag command (Ended c st (Some share)) is = cc

-- of a lane
module _ (geometry : Geometry) (w : World) (lane leader : ℕ) (l : Lane) (command : Command) (reads : List ReadDone)
    (at : slice_get w.lanes lane ≡ Some l) (is : AreGroups geometry l.tags) (found : tag_of w lane leader ≡ Some (Taken command reads))
    (leads : command.leader ≡ leader) where
  pub leader-at : slice_get l.tags leader ≡ Some (Taken command reads)
  leader-at = sym (ap (λ o. tag_in o leader) at) ∙ found

  pub reading : IsReadingGroup geometry (parts_of l.tags) leader command
  reading = reading-group geometry (parts_of l.tags) leader command is (tag-part l.tags leader (Taken command reads) leader-at) leads

  pub taken-tags : All (HasTag (IsTakenBy command) w lane) (group w lane leader)
  taken-tags = group-has (IsTakenBy command) w lane leader l at (λ n t there goes. one n t there goes)
    where
      one : (n : ℕ) (t : Tag) → slice_get l.tags n ≡ Some t → goes_by leader (part_of t) ≡ true → IsTakenBy command t
      one n t there goes =
          let among = filter-at (goes_by leader) (parts_of l.tags) n (part_of t) (tag-part l.tags n t there) goes in
          let many : ℕ = tags_of_entry reading.guest.namespace command.entry in
          reading-tag command t
          (all-at (λ p. p ≡ Reading command) (replicate many (Reading command)) among.0 (part_of t)
          (All-replicate (λ p. p ≡ Reading command) many (Reading command) refl) (ap (λ zs. slice_get zs among.0) (sym reading.all) ∙ among.1))

  pub group-count : length (group w lane leader) ≡ tags_of_entry reading.guest.namespace command.entry
  group-count =
      ap length (group-numbers w lane leader l at) ∙ numbers-length (goes_by leader) (parts_of l.tags)
      ∙ ap length reading.all ∙ length-replicate (tags_of_entry reading.guest.namespace command.entry) (Reading command)
