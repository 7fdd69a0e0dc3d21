-- The shares of a command that was handed on are those of its tags in order, and the first of those that ended at once decides.
use Rattle.std.proofs.Common.{◌≡◌, ℕ, zero, suc, ◌≤◌, Bool, true, false, cond, if◌then◌else◌, List, [], ◌∷◌, filter, length, map, replicate, slice_get, Option, Some, None}
use Rattle.std.proofs.Common.{arith, refl, sym, ap, ◌∙◌, subst}
use Rattle.std.specs.List.{All}
use Rattle.std.specs.Option.{option_map}
use Rattle.std.proofs.lemmas.List.Elements.{All-cons, All-head, All-nil, All-replicate, All-tail}
use Rattle.std.proofs.lemmas.Option.{slice_get-map}
use Rattle.nv_entry.specs.Status.{StatusField}
use Rattle.nv_entry.specs.StatusCode.{done_with}
use Rattle.nv_entry.specs.declared.status_code.StatusCode.TheVariants.{Success}
use Rattle.nv_world_model.specs.Geometry.{Geometry, Guest}
use Rattle.nv_world_model.specs.Plan.{Plan}
use Rattle.nv_world_model.specs.Share.{Share, shares_of, tags_of_entry}
use Rattle.nv_world_model.specs.Step.{deciding, is_success}
use Rattle.nv_world_model.specs.World.{Command, lowest}
use Rattle.nv_laws_sound.specs.Groups.{AllAnswered, AllHanded, AllRead, AreGrouped, AtOnce, Handed, IsGroup, NoPart, Part, Reading, command_of}
use Rattle.nv_laws_sound.specs.Groups.{goes_by, group_of}
use Rattle.nv_laws_sound.proofs.Groupings.{goes-has, goes-of}
use Rattle.nv_laws_sound.proofs.Lists.{some-same}
use Rattle.nv_laws_sound.proofs.Numbers.{Passes, all-at, numbers-length, numbers-pass, numbers_where}
use Rattle.nv_laws_sound.proofs.Planned.{IsOf, shares-whole}
use Rattle.nv_laws_sound.proofs.Stages.{filter-at}

-- ---- numbers and what stands there

map-behind : {X : Type 0} (x : X) (xs : List X) (ns : List ℕ) → map (slice_get (x ∷ xs)) (map suc ns) ≡ map (slice_get xs) ns
map-behind x xs [] = refl
map-behind x xs (n ∷ ns) = ap (λ os. slice_get xs n ∷ os) (map-behind x xs ns)

numbers-there : {X : Type 0} (p : X → Bool) (xs : List X) → map (slice_get xs) (numbers_where p xs) ≡ map (λ x. Some x) (filter p xs)
numbers-there p [] = refl
numbers-there {X = X} p (x ∷ xs) =
    let rest = map-behind x xs (numbers_where p xs) ∙ numbers-there p xs in
    elim (p x) as (λ b. map (slice_get (x ∷ xs)) (cond b (0 ∷ map suc (numbers_where p xs)) (map suc (numbers_where p xs)))
    ≡ map (λ (z : X). Some z) (cond b (x ∷ filter p xs) (filter p xs))) [
      | true ↦ ap (λ (os : List (Option X)). Some x ∷ os) rest
      | false ↦ rest
    ]

-- what is at the k-th number is the k-th that passes
pub numbers-filter : {X : Type 0} (p : X → Bool) (xs : List X) (k n : ℕ) → slice_get (numbers_where p xs) k ≡ Some n
    → slice_get (filter p xs) k ≡ slice_get xs n
numbers-filter {X = X} p xs k n at =
    by (slice_get (filter p xs) k)
    (sym (slice_get-map (λ (z : X). Some z) (filter p xs) k) ∙ sym (ap (λ (os : List (Option X)). slice_get os k) (numbers-there p xs))
    ∙ slice_get-map (slice_get xs) (numbers_where p xs) k ∙ ap (option_map (slice_get xs)) at)
  where
    by : (o : Option X) → option_map (λ (z : X). Some z) o ≡ Some (slice_get xs n) → o ≡ slice_get xs n
    by None e = cc
    by (Some z) e = some-same (Some z) (slice_get xs n) e

-- ---- the first of a group

lowest-suc : (ns : List ℕ) (m : ℕ) → lowest ns ≤ m → lowest (map suc ns) ≤ suc m
lowest-suc [] m low = omega arith
lowest-suc (n ∷ ns) m low = omega (arith, low)

pub numbers-low : {X : Type 0} (p : X → Bool) (xs : List X) (m : ℕ) (x : X) → slice_get xs m ≡ Some x → p x ≡ true → lowest (numbers_where p xs) ≤ m
numbers-low p [] m x at passes = cc
numbers-low {X = X} p (y ∷ ys) m x at passes =
    (elim (p y) as (λ b. p y ≡ b → lowest (cond b (0 ∷ map suc (numbers_where p ys)) (map suc (numbers_where p ys))) ≤ m) [
      | true ↦ λ is. omega arith
      | false ↦ λ is. later is m at (λ k there. numbers-low p ys k x there passes)
    ]) refl
  where
    later : p y ≡ false → (m : ℕ) → slice_get (y ∷ ys) m ≡ Some x → ((k : ℕ) → slice_get ys k ≡ Some x → lowest (numbers_where p ys) ≤ k)
        → lowest (map suc (numbers_where p ys)) ≤ m
    later fails zero at rest =
        let same : y ≡ x = cc in
        let bad : true ≡ false = sym passes ∙ ap p (sym same) ∙ fails in cc
    later fails (suc m) at rest = lowest-suc (numbers_where p ys) m (rest m at)

-- it is the tag that the command goes by
pub first-leader : (geometry : Geometry) (parts : List Part) (leader : ℕ) (part : Part) (command : Command) (n : ℕ) (rest : List ℕ)
    → AreGrouped geometry parts → slice_get parts leader ≡ Some part → command_of part ≡ Some command → command.leader ≡ leader
    → numbers_where (goes_by leader) parts ≡ n ∷ rest → n ≡ leader
first-leader geometry parts leader part command n rest is found has leads numbers =
    let low = numbers-low (goes_by leader) parts leader part found (goes-of leader part command has leads) in
    let here = ap lowest numbers in
    let p = All-head (Passes (goes_by leader) parts) n rest (subst (All (Passes (goes_by leader) parts)) numbers (numbers-pass (goes_by leader) parts)) in
    let g = goes-has leader p.x p.passes in
    let member = is n p.x g.command p.is g.has in
    let least = member.low in
    let led = g.leads in
    omega (arith, low, here, least, led)

-- ---- a command that was handed on

abbrev is_handed : Part → Bool
is_handed NoPart = false
is_handed (Reading command) = false
is_handed (Handed command share) = true
is_handed (AtOnce command st) = false

-- the whole of each share of a plan is that plan
handed-whole : (command : Command) (share : Share) (plan : Plan) (shares : List Share) (k : ℕ) → All (IsOf plan) shares
    → slice_get (map (Handed command) shares) k ≡ Some (Handed command share) → share.whole ≡ plan
handed-whole command share plan [] k of at = cc
handed-whole command share plan (s ∷ shares) zero of at =
    let same : s ≡ share = cc in ap (λ (x : Share). x.whole) (sym same) ∙ All-head (IsOf plan) s shares of
handed-whole command share plan (s ∷ shares) (suc k) of at = handed-whole command share plan shares k (All-tail (IsOf plan) s shares of) at

pub record IsHandedGroup (geometry : Geometry) (parts : List Part) (leader : ℕ) (command : Command) (whole : Plan) : Type 0 where
  pub guest : Guest
  pub given : slice_get geometry.guests command.guest ≡ Some guest
  pub all : group_of leader parts ≡ map (Handed command) (shares_of guest.namespace command.entry whole)

-- its tags have the shares of its plan, in order, which each of them tells
pub handed-group : (geometry : Geometry) (parts : List Part) (leader tag : ℕ) (command : Command) (share : Share) → AreGrouped geometry parts
    → slice_get parts tag ≡ Some (Handed command share) → command.leader ≡ leader → IsHandedGroup geometry parts leader command share.whole
handed-group geometry parts leader tag command share is at leads =
    let m = is tag (Handed command share) command at refl in
    record {
      guest = m.guest;
      given = m.given;
      all =
          by m.guest (group_of leader parts) (filter-at (goes_by leader) parts tag (Handed command share) at (goes-of leader (Handed command share) command refl leads))
          (subst (λ n. IsGroup m.guest.namespace command (group_of n parts)) leads m.group);
    }
  where
    by : (guest : Guest) (ps : List Part) → (k : ℕ) × (slice_get ps k ≡ Some (Handed command share)) → IsGroup guest.namespace command ps
        → ps ≡ map (Handed command) (shares_of guest.namespace command.entry share.whole)
    by guest ps among (AllRead e) =
        let many : ℕ = tags_of_entry guest.namespace command.entry in
        let bad : true ≡ false =
        all-at (λ p. is_handed p ≡ false) (replicate many (Reading command)) among.0 (Handed command share)
        (All-replicate (λ p. is_handed p ≡ false) many (Reading command) refl) (ap (λ zs. slice_get zs among.0) (sym e) ∙ among.1) in cc
    by guest ps among (AllHanded whole e) =
        let shares : List Share = shares_of guest.namespace command.entry whole in
        let same : share.whole ≡ whole =
        handed-whole command share whole shares among.0 (shares-whole guest.namespace command.entry whole) (ap (λ zs. slice_get zs among.0) (sym e) ∙ among.1) in
        e ∙ ap (λ w. map (Handed command) (shares_of guest.namespace command.entry w)) (sym same)
    by guest ps among (AllAnswered st others fails e) =
        let success : Part = AtOnce command (done_with Success) in
        let none : All (λ p. is_handed p ≡ false) (AtOnce command st ∷ replicate others success) =
        All-cons (λ p. is_handed p ≡ false) (AtOnce command st) (replicate others success) refl
        (All-replicate (λ p. is_handed p ≡ false) others success refl) in
        let bad : true ≡ false =
        all-at (λ p. is_handed p ≡ false) (AtOnce command st ∷ replicate others success) among.0 (Handed command share) none
        (ap (λ zs. slice_get zs among.0) (sym e) ∙ among.1) in cc

-- ---- a command that ended at once

pub record IsAnsweredGroup (geometry : Geometry) (parts : List Part) (leader : ℕ) (command : Command) : Type 0 where
  pub guest : Guest
  pub given : slice_get geometry.guests command.guest ≡ Some guest
  pub st : StatusField
  pub others : ℕ
  pub fails : is_success st ≡ false
  pub all : group_of leader parts ≡ AtOnce command st ∷ replicate others (AtOnce command (done_with Success))

abbrev is_at_once : Part → Bool
is_at_once NoPart = false
is_at_once (Reading command) = false
is_at_once (Handed command share) = false
is_at_once (AtOnce command st) = true

handed-none : (command : Command) (shares : List Share) → All (λ p. is_at_once p ≡ false) (map (Handed command) shares)
handed-none command [] = All-nil (λ p. is_at_once p ≡ false)
handed-none command (share ∷ shares) =
    All-cons (λ p. is_at_once p ≡ false) (Handed command share) (map (Handed command) shares) refl (handed-none command shares)

-- all its tags did, and the first tells of a failure
pub answered-group : (geometry : Geometry) (parts : List Part) (leader tag : ℕ) (command : Command) (st : StatusField) → AreGrouped geometry parts
    → slice_get parts tag ≡ Some (AtOnce command st) → command.leader ≡ leader → IsAnsweredGroup geometry parts leader command
answered-group geometry parts leader tag command st is at leads =
    let m = is tag (AtOnce command st) command at refl in
    by m.guest m.given
    (filter-at (goes_by leader) parts tag (AtOnce command st) at (goes-of leader (AtOnce command st) command refl leads))
    (subst (λ n. IsGroup m.guest.namespace command (group_of n parts)) leads m.group)
  where
    by : (guest : Guest) → slice_get geometry.guests command.guest ≡ Some guest
        → (k : ℕ) × (slice_get (group_of leader parts) k ≡ Some (AtOnce command st)) → IsGroup guest.namespace command (group_of leader parts)
        → IsAnsweredGroup geometry parts leader command
    by guest given among (AllRead e) =
        let many : ℕ = tags_of_entry guest.namespace command.entry in
        let bad : true ≡ false =
        all-at (λ p. is_at_once p ≡ false) (replicate many (Reading command)) among.0 (AtOnce command st)
        (All-replicate (λ p. is_at_once p ≡ false) many (Reading command) refl) (ap (λ zs. slice_get zs among.0) (sym e) ∙ among.1) in cc
    by guest given among (AllHanded whole e) =
        let bad : true ≡ false =
        all-at (λ p. is_at_once p ≡ false) (map (Handed command) (shares_of guest.namespace command.entry whole)) among.0 (AtOnce command st)
        (handed-none command (shares_of guest.namespace command.entry whole)) (ap (λ zs. slice_get zs among.0) (sym e) ∙ among.1) in cc
    by guest given among (AllAnswered first others fails e) =
        record { guest = guest; given = given; st = first; others = others; fails = fails; all = e }

-- and that is the tag that the command goes by
pub answered-first : (geometry : Geometry) (parts : List Part) (leader : ℕ) (command : Command) (st : StatusField) → AreGrouped geometry parts
    → slice_get parts leader ≡ Some (AtOnce command st) → command.leader ≡ leader → (g : IsAnsweredGroup geometry parts leader command) → g.st ≡ st
answered-first geometry parts leader command st is at leads g = by (numbers_where (goes_by leader) parts) refl
  where
    by : (ns : List ℕ) → numbers_where (goes_by leader) parts ≡ ns → g.st ≡ st
    by [] same =
        let none : length (group_of leader parts) ≡ 0 = sym (numbers-length (goes_by leader) parts) ∙ ap length same in
        let some = ap length g.all in absurd (omega (arith, none, some))
    by (n ∷ rest) same =
        let first = first-leader geometry parts leader (AtOnce command st) command n rest is at refl leads same in
        let there : slice_get (group_of leader parts) 0 ≡ slice_get parts n =
        numbers-filter (goes_by leader) parts 0 n (ap (λ ns. slice_get ns 0) same) in
        let both : Some (AtOnce command g.st) ≡ Some (AtOnce command st) =
        sym (ap (λ ps. slice_get ps 0) g.all) ∙ there ∙ ap (slice_get parts) first ∙ at in cc

-- so the first decides
pub deciding-first : (st : StatusField) (sts : List StatusField) → is_success st ≡ false → deciding (st ∷ sts) ≡ st
deciding-first st sts fails = ap (λ b. if b then deciding sts else st) fails
