-- Commands that wait for their plans, of which one is given up, by their tags.
use Rattle.std.proofs.Common.{◌≡◌, ℕ, zero, suc, ◌≤◌, ◌⊎◌, inl, inr, Bool, true, false, cond, ◌==◌, ◌||◌, eq-eqb, eqb-true, List, [], ◌∷◌, length, map, replicate, set, slice_get, Option, Some, None, arith, nat_lt, if◌then◌else◌}
use Rattle.std.proofs.Common.{refl, sym, ap, ◌∙◌, subst}
use Rattle.std.proofs.lemmas.Bool.{cases_eq, eqb-false, lt-ltb, ne_eqb}
use Rattle.std.proofs.lemmas.List.Elements.{All-cons, All-head, All-nil, All-replicate, All-tail}
use Rattle.std.specs.List.{All, list_any}
use Rattle.std.specs.Option.{option_map}
use Rattle.nv_core.proofs.FrontLaws.{step-beside}
use Rattle.nv_core.proofs.GroupWorlds.{ended-lane, group-lane, leads, not-taken, taken-tag, with_lane_at}
use Rattle.nv_core.proofs.Sides.{own-side, own-world}
use Rattle.nv_core.specs.Front.{IsSideStep, with_side}
use Rattle.nv_laws_sound.specs.Side.{Side, IsKept}
use Rattle.nv_core.specs.Groups.{all_ended, tags_changed}
use Rattle.nv_core.specs.Reaping.{next_completion, waits_in}
use Rattle.nv_core.specs.Tags.{IsTaken, untaken}
use Rattle.nv_entry.specs.Completion.{phase_of}
use Rattle.nv_entry.specs.Status.{StatusField, bit}
use Rattle.nv_entry.specs.StatusCode.{done_with}
use Rattle.nv_entry.specs.declared.status_code.StatusCode.TheVariants.{InternalError, Success}
use Rattle.nv_host.proofs.Runs.{lead-step}
use Rattle.nv_host.specs.Closing.{AreEach, GivesUp, IsLaneAlone, given_up}
use Rattle.nv_host.specs.Ending.{given_up_by}
use Rattle.nv_host.specs.Ending.{IsIdle, IsIdleRun}
use Rattle.nv_laws_sound.proofs.CountedTags.{group-first}
use Rattle.nv_laws_sound.proofs.Folds.{group-distinct, tag-part}
use Rattle.nv_laws_sound.proofs.Groupings.{goes-of}
use Rattle.nv_laws_sound.proofs.Lists.{slice_get-below, some-same}
use Rattle.nv_laws_sound.proofs.Numbers.{AreDistinct, all-at, numbers-are, numbers_where}
use Rattle.nv_laws_sound.proofs.Stages.{filter-at, reading-group}
use Rattle.nv_laws_sound.specs.Groups.{AllAnswered, AllHanded, AllRead, AreGroups, AtOnce, Handed, IsGroup, NoPart, Part, Reading, command_of, goes_by, group_of, part_of, parts_of}
use Rattle.nv_laws_sound.specs.LaidOut.{IsLaidOut}
use Rattle.nv_model.specs.Transcript.{ReadDone}
use Rattle.nv_model.specs.declared.reply.Reply.{Reply}
use Rattle.nv_model.specs.declared.reply.Reply.TheVariants as reply
use Rattle.nv_world_model.proofs.Seats.{slice_get-set, slice_get-set-other}
use Rattle.nv_world_model.specs.Area.{tag_count}
use Rattle.nv_world_model.specs.Geometry.{Geometry, Guest}
use Rattle.nv_world_model.specs.Share.{Share, shares_of, tags_of_entry}
use Rattle.nv_world_model.specs.Step.{After, ended_at_once, for_taken, replied, step}
use Rattle.nv_world_model.specs.World.{Command, Ended, Flying, Free, Lane, Tag, Taken, World, group, group_in, is_that, leader_of, tag_changed, tag_in, tag_of}
use Rattle.nv_world_model.specs.declared.event.Event.TheVariants as event

-- ---- lists in which some members become another

zero-apart : (n : ℕ) → (0 == suc n) ≡ false
zero-apart n = ne_eqb 0 (suc n) (λ same. absurd (omega (arith, same)))

suc-apart : (n : ℕ) → (suc n == 0) ≡ false
suc-apart n = ne_eqb (suc n) 0 (λ same. absurd (omega (arith, same)))

suc-same : (n m : ℕ) → (suc n == suc m) ≡ (n == m)
suc-same n m = by (cases_eq n m)
  where
    by : (n ≡ m) ⊎ (n ≡ m → ⊥) → (suc n == suc m) ≡ (n == m)
    by (inl same) = eq-eqb (suc n) (suc m) (omega (arith, same)) ∙ sym (eq-eqb n m same)
    by (inr other) = ne_eqb (suc n) (suc m) (λ same. other (omega (arith, same))) ∙ sym (ne_eqb n m other)

none-zero : (ns : List ℕ) → list_any (λ m. 0 == m) (map suc ns) ≡ false
none-zero [] = refl
none-zero (n ∷ ns) = ap (λ (b : Bool). b || list_any (λ m. 0 == m) (map suc ns)) (zero-apart n) ∙ none-zero ns

further : (n : ℕ) (ns : List ℕ) → list_any (λ m. suc n == m) (map suc ns) ≡ list_any (λ m. n == m) ns
further n [] = refl
further n (m ∷ ns) =
    ap (λ (b : Bool). b || list_any (λ k. suc n == k) (map suc ns)) (suc-same n m) ∙ ap (λ (b : Bool). (n == m) || b) (further n ns)

-- the numbers of those that pass
first-number : (b : Bool) (ns : List ℕ) → list_any (λ m. 0 == m) (cond b (0 ∷ map suc ns) (map suc ns)) ≡ b
first-number true ns = ap (λ (b : Bool). b || list_any (λ m. 0 == m) (map suc ns)) (eq-eqb 0 0 refl)
first-number false ns = none-zero ns

later-number : (n : ℕ) (b : Bool) (ns : List ℕ) → list_any (λ m. suc n == m) (cond b (0 ∷ map suc ns) (map suc ns)) ≡ list_any (λ m. n == m) ns
later-number n true ns = ap (λ (b : Bool). b || list_any (λ m. suc n == m) (map suc ns)) (suc-apart n) ∙ further n ns
later-number n false ns = further n ns

any-number : {X : Type 0} (test : X → Bool) (xs : List X) (n : ℕ) (x : X) → slice_get xs n ≡ Some x
    → list_any (λ m. n == m) (numbers_where test xs) ≡ test x
any-number test [] n x at = cc
any-number test (y ∷ ys) zero x at = first-number (test y) (numbers_where test ys) ∙ ap test (some-same y x at)
any-number test (y ∷ ys) (suc n) x at = later-number n (test y) (numbers_where test ys) ∙ any-number test ys n x at

apart-none : (n : ℕ) (ns : List ℕ) → All (λ m. (m == n) ≡ false) ns → list_any (λ m. n == m) ns ≡ false
apart-none n [] apart = refl
apart-none n (m ∷ ns) apart =
    let here : (m == n) ≡ false = All-head (λ k. (k == n) ≡ false) m ns apart in
    ap (λ (b : Bool). b || list_any (λ k. n == k) ns) (ne_eqb n m (λ same. eqb-false m n here (sym same)))
    ∙ apart-none n ns (All-tail (λ k. (k == n) ≡ false) m ns apart)

-- a tag of a lane some of whose tags were changed
changed-at : (ns : List ℕ) (v : Tag) (l : Lane) (n : ℕ) (t : Tag) → slice_get l.tags n ≡ Some t
    → slice_get (tags_changed ns v l).tags n ≡ Some (cond (list_any (λ m. n == m) ns) v t)
changed-at [] v l n t at = at
changed-at (m ∷ ns) v l n t at = by (λ k u there. changed-at ns v k n u there) (n == m) refl
  where
    twice : (b : Bool) → cond b v v ≡ v
    twice true = refl
    twice false = refl

    by : ((k : Lane) (u : Tag) → slice_get k.tags n ≡ Some u → slice_get (tags_changed ns v k).tags n ≡ Some (cond (list_any (λ j. n == j) ns) v u))
        → (b : Bool) → (n == m) ≡ b
        → slice_get (tags_changed ns v (tag_changed m v l)).tags n ≡ Some (cond ((n == m) || list_any (λ k. n == k) ns) v t)
    by rest true is =
        let same : n ≡ m = eqb-true n m is in
        let now : slice_get (set l.tags m v) n ≡ Some v =
        ap (slice_get (set l.tags m v)) same ∙ slice_get-set l.tags m t v (ap (slice_get l.tags) (sym same) ∙ at) in
        rest (tag_changed m v l) v now
        ∙ ap (λ (x : Tag). Some x) (twice (list_any (λ k. n == k) ns))
        ∙ sym (ap (λ (b : Bool). Some (cond (b || list_any (λ k. n == k) ns) v t)) is)
    by rest false is =
        rest (tag_changed m v l) t (slice_get-set-other l.tags m n v is ∙ at)
        ∙ sym (ap (λ (b : Bool). Some (cond (b || list_any (λ k. n == k) ns) v t)) is)

set-none : (tags : List Tag) (m n : ℕ) (v : Tag) → slice_get tags n ≡ None → slice_get (set tags m v) n ≡ None
set-none [] m n v none = refl
set-none (t ∷ tags) zero zero v none = cc
set-none (t ∷ tags) zero (suc n) v none = none
set-none (t ∷ tags) (suc m) zero v none = cc
set-none (t ∷ tags) (suc m) (suc n) v none = set-none tags m n v none

changed-none : (ns : List ℕ) (v : Tag) (l : Lane) (n : ℕ) → slice_get l.tags n ≡ None → slice_get (tags_changed ns v l).tags n ≡ None
changed-none [] v l n none = none
changed-none (m ∷ ns) v l n none = changed-none ns v (tag_changed m v l) n (set-none l.tags m n v none)

-- ---- the tags of a command that waits

abbrev is_reading : Part → Bool
is_reading NoPart = false
is_reading (Reading command) = true
is_reading (Handed command share) = false
is_reading (AtOnce command st) = false

handed-none : (command : Command) (shares : List Share) → All (λ p. is_reading p ≡ false) (map (Handed command) shares)
handed-none command [] = All-nil (λ p. is_reading p ≡ false)
handed-none command (share ∷ shares) =
    All-cons (λ p. is_reading p ≡ false) (Handed command share) (map (Handed command) shares) refl (handed-none command shares)

-- where one of a group waits, all do
all-reading : (guest : Guest) (command : Command) (ps : List Part) → (k : ℕ) → slice_get ps k ≡ Some (Reading command)
    → IsGroup guest.namespace command ps → ps ≡ replicate (tags_of_entry guest.namespace command.entry) (Reading command)
all-reading guest command ps k at (AllRead e) = e
all-reading guest command ps k at (AllHanded whole e) =
    let bad : true ≡ false =
    all-at (λ p. is_reading p ≡ false) (map (Handed command) (shares_of guest.namespace command.entry whole)) k (Reading command)
    (handed-none command (shares_of guest.namespace command.entry whole)) (ap (λ zs. slice_get zs k) (sym e) ∙ at) in cc
all-reading guest command ps k at (AllAnswered st others fails e) =
    let answered : List Part = AtOnce command st ∷ replicate others (AtOnce command (done_with Success)) in
    let none : All (λ p. is_reading p ≡ false) answered =
    All-cons (λ p. is_reading p ≡ false) (AtOnce command st) (replicate others (AtOnce command (done_with Success))) refl
    (All-replicate (λ p. is_reading p ≡ false) others (AtOnce command (done_with Success)) refl) in
    let bad : true ≡ false =
    all-at (λ p. is_reading p ≡ false) answered k (Reading command) none (ap (λ zs. slice_get zs k) (sym e) ∙ at) in cc

-- a tag that waits
abbrev Waits : Command → Option Tag → Type 0
Waits command o = (reads : List ReadDone) × (o ≡ Some (Taken command reads))

reading-tag : (command : Command) (t : Tag) → part_of t ≡ Reading command → Waits command (Some t)
reading-tag command Free is = cc
reading-tag command (Taken c reads) is = (let same : c ≡ command = cc in (reads, ap (λ x. Some (Taken x reads)) same))
reading-tag command (Flying c share standing) is = cc
reading-tag command (Ended c st None) is = cc
reading-tag command (Ended c st (Some share)) is = cc

-- a member of a group all of which waits
member-waits : (tags : List Tag) (leader n count : ℕ) (command : Command) (t : Tag) → group_of leader (parts_of tags) ≡ replicate count (Reading command)
    → slice_get tags n ≡ Some t → goes_by leader (part_of t) ≡ true → Waits command (Some t)
member-waits tags leader n count command t all at goes =
    let k = filter-at (goes_by leader) (parts_of tags) n (part_of t) (tag-part tags n t at) goes in
    reading-tag command t
    (all-at (λ p. p ≡ Reading command) (replicate count (Reading command)) k.0 (part_of t)
    (All-replicate (λ p. p ≡ Reading command) count (Reading command) refl) (ap (λ zs. slice_get zs k.0) (sym all) ∙ k.1))

part-at : (tags : List Tag) (n : ℕ) (p : Part) → slice_get (parts_of tags) n ≡ Some p → (t : Tag) × ((slice_get tags n ≡ Some t) × (part_of t ≡ p))
part-at [] n p at = cc
part-at (t ∷ tags) zero p at = (t, (refl, some-same (part_of t) p at))
part-at (t ∷ tags) (suc n) p at = part-at tags n p at

-- the tag that a command goes by waits with it
leader-waits : (geometry : Geometry) (tags : List Tag) (n : ℕ) (command : Command) (reads : List ReadDone) → AreGroups geometry tags
    → slice_get tags n ≡ Some (Taken command reads) → Waits command (slice_get tags command.leader)
leader-waits geometry tags n command reads is at =
    let m = is n (Reading command) command (tag-part tags n (Taken command reads) at) refl in
    let k = filter-at (goes_by command.leader) (parts_of tags) n (Reading command) (tag-part tags n (Taken command reads) at)
    (goes-of command.leader (Reading command) command refl refl) in
    let all = all-reading m.guest command (group_of command.leader (parts_of tags)) k.0 k.1 m.group in
    let first = part-at tags command.leader m.first m.there in
    let goes : goes_by command.leader (part_of first.0) ≡ true =
    goes-of command.leader (part_of first.0) command (ap command_of first.1.1 ∙ m.same) refl in
    let waits = member-waits tags command.leader command.leader (tags_of_entry m.guest.namespace command.entry) command first.0 all first.1.0 goes in
    (waits.0, first.1.0 ∙ waits.1)

goes-led : (leader : ℕ) (t : Tag) → is_that leader (leader_of t) ≡ goes_by leader (part_of t)
goes-led leader Free = refl
goes-led leader (Taken command reads) = refl
goes-led leader (Flying command share standing) = refl
goes-led leader (Ended command st None) = refl
goes-led leader (Ended command st (Some share)) = refl

-- what does not go by the tag is as it was
abbrev given : (tag : ℕ) → Bool → Command → List ReadDone → Tag
given tag b command reads = cond b (given_up tag (Taken command reads)) (Taken command reads)

others-stay : (leader n : ℕ) (t : Tag) → is_that leader (leader_of t) ≡ false → given_up_by leader n t ≡ t
others-stay leader n Free off = refl
others-stay leader n (Taken command reads) off = ap (λ (b : Bool). given n b command reads) off
others-stay leader n (Flying command share at) off = refl
others-stay leader n (Ended command st share) off = refl

-- ---- in a lane

module _ (geometry : Geometry) (lane tag : ℕ) (w : World) (l : Lane) (found : slice_get w.lanes lane ≡ Some l) (is : AreGroups geometry l.tags) where
  -- where none waits that goes by the tag
  module _ (r : Reply) (off : untaken tag (slice_get l.tags tag) ≡ Some r) where
    never : (n : ℕ) (command : Command) (reads : List ReadDone) → slice_get l.tags n ≡ Some (Taken command reads) → (command.leader == tag) ≡ true → ⊥
    never n command reads at leads =
        let same : command.leader ≡ tag = eqb-true command.leader tag leads in
        let first = leader-waits geometry l.tags n command reads is at in
        let there : slice_get l.tags tag ≡ Some (Taken command first.0) = ap (slice_get l.tags) (sym same) ∙ first.1 in
        let bad : None ≡ Some r =
        sym (ap (untaken tag) there ∙ ap (λ (b : Bool). cond b None (Some reply.Stale)) leads) ∙ off in cc

    still : (n : ℕ) (o : Option Tag) → slice_get l.tags n ≡ o → o ≡ option_map (given_up_by tag n) o
    still n None at = refl
    still n (Some Free) at = refl
    still n (Some (Taken command reads)) at = by (command.leader == tag) refl
      where
        by : (b : Bool) → (command.leader == tag) ≡ b → Some (Taken command reads) ≡ Some (given n (command.leader == tag) command reads)
        by true leads = absurd (never n command reads at leads)
        by false leads = sym (ap (λ (b : Bool). Some (given n b command reads)) leads)
    still n (Some (Flying command share at2)) at = refl
    still n (Some (Ended command st share)) at = refl

  -- where one does
  module _ (command : Command) (reads : List ReadDone) (there : slice_get l.tags tag ≡ Some (Taken command reads)) (led : command.leader ≡ tag) where
    abbrev numbers : List ℕ
    numbers = group_in (Some l) tag

    member : (n : ℕ) (t : Tag) → slice_get l.tags n ≡ Some t → list_any (λ m. n == m) numbers ≡ is_that tag (leader_of t)
    member n t at =
        ap (λ ns. list_any (λ m. n == m) ns) (numbers-are (λ x. is_that tag (leader_of x)) l.tags)
        ∙ any-number (λ x. is_that tag (leader_of x)) l.tags n t at

    waits-too : (n : ℕ) (t : Tag) → slice_get l.tags n ≡ Some t → is_that tag (leader_of t) ≡ true → Waits command (Some t)
    waits-too n t at goes =
        let all = reading-group geometry (parts_of l.tags) tag command is (tag-part l.tags tag (Taken command reads) there) led in
        member-waits l.tags tag n (tags_of_entry all.guest.namespace command.entry) command t all.all at (sym (goes-led tag t) ∙ goes)

    abbrev others : Tag
    others = Ended command (done_with Success) None

    abbrev first_is : Tag
    first_is = Ended command (done_with InternalError) None

    distinct : AreDistinct numbers
    distinct = subst AreDistinct (group-lane w lane tag l found) (group-distinct w lane tag)

    -- what each tag of the lane has become
    of-group : (ns : List ℕ) → numbers ≡ ns → (n : ℕ) (t : Tag) → slice_get l.tags n ≡ Some t
        → slice_get (all_ended ns command (done_with InternalError) l).tags n ≡ Some (given_up_by tag n t)
    of-group [] same n t at =
        let one = member tag (Taken command reads) there in
        let bad : false ≡ true = ap (λ ns. list_any (λ m. tag == m) ns) (sym same) ∙ one ∙ eq-eqb command.leader tag led in cc
    of-group (m ∷ rest) same n t at = by (n == tag) refl (is_that tag (leader_of t)) refl
      where
        first : m ≡ tag
        first =
            group-first geometry w lane tag l (Taken command reads) command m rest found is there refl led (group-lane w lane tag l found ∙ same)

        apart : All (λ k. (k == m) ≡ false) rest
        apart = (subst AreDistinct same distinct).0

        by : (b : Bool) → (n == tag) ≡ b → (goes : Bool) → is_that tag (leader_of t) ≡ goes
            → slice_get (tags_changed rest others (tag_changed m first_is l)).tags n ≡ Some (given_up_by tag n t)
        by true here goes led_so =
            let at_tag : n ≡ tag = eqb-true n tag here in
            let at_first : n ≡ m = at_tag ∙ sym first in
            let now : slice_get (set l.tags m first_is) n ≡ Some first_is =
            ap (slice_get (set l.tags m first_is)) at_first ∙ slice_get-set l.tags m t first_is (ap (slice_get l.tags) (sym at_first) ∙ at) in
            let is_t : t ≡ Taken command reads = some-same t (Taken command reads) (sym at ∙ ap (slice_get l.tags) at_tag ∙ there) in
            changed-at rest others (tag_changed m first_is l) n first_is now
            ∙ ap (λ (b : Bool). Some (cond b others first_is)) (ap (λ k. list_any (λ j. k == j) rest) at_first ∙ apart-none m rest apart)
            ∙ sym (ap (λ (x : Tag). Some (given_up_by tag n x)) is_t
            ∙ ap (λ (b : Bool). Some (given n b command reads)) (eq-eqb command.leader tag led)
            ∙ ap (λ (b : Bool). Some (Ended command (done_with (cond b InternalError Success)) None)) (eq-eqb command.leader n (led ∙ sym at_tag)))
        by false here true goes =
            let waits = waits-too n t at goes in
            let is_t : t ≡ Taken command waits.0 = some-same t (Taken command waits.0) waits.1 in
            let not_first : (n == m) ≡ false = ap (λ k. n == k) first ∙ here in
            let in_rest : list_any (λ k. n == k) rest ≡ true =
            sym (ap (λ (b : Bool). b || list_any (λ k. n == k) rest) not_first) ∙ ap (λ ns. list_any (λ k. n == k) ns) (sym same)
            ∙ member n t at ∙ goes in
            changed-at rest others (tag_changed m first_is l) n t (slice_get-set-other l.tags m n first_is not_first ∙ at)
            ∙ ap (λ (b : Bool). Some (cond b others t)) in_rest
            ∙ sym (ap (λ (x : Tag). Some (given_up_by tag n x)) is_t
            ∙ ap (λ (b : Bool). Some (given n b command waits.0)) (eq-eqb command.leader tag led)
            ∙ ap (λ (b : Bool). Some (Ended command (done_with (cond b InternalError Success)) None))
            (ne_eqb command.leader n (λ e. eqb-false n tag here (sym e ∙ led))))
        by false here false goes =
            let not_first : (n == m) ≡ false = ap (λ k. n == k) first ∙ here in
            let out : list_any (λ k. n == k) rest ≡ false =
            sym (ap (λ (b : Bool). b || list_any (λ k. n == k) rest) not_first) ∙ ap (λ ns. list_any (λ k. n == k) ns) (sym same)
            ∙ member n t at ∙ goes in
            changed-at rest others (tag_changed m first_is l) n t (slice_get-set-other l.tags m n first_is not_first ∙ at)
            ∙ ap (λ (b : Bool). Some (cond b others t)) out
            ∙ ap (λ (x : Tag). Some x) (sym (others-stay tag n t goes))

    none-there : (ns : List ℕ) (n : ℕ) → slice_get l.tags n ≡ None → slice_get (all_ended ns command (done_with InternalError) l).tags n ≡ None
    none-there [] n none = none
    none-there (m ∷ rest) n none = changed-none rest others (tag_changed m first_is l) n (set-none l.tags m n first_is none)

    given-each : (n : ℕ) (o : Option Tag) → slice_get l.tags n ≡ o
        → slice_get (all_ended numbers command (done_with InternalError) l).tags n ≡ option_map (given_up_by tag n) o
    given-each n None at = none-there numbers n at
    given-each n (Some t) at = of-group numbers refl n t at

-- ---- the call

module _ (geometry : Geometry) (lane tag : ℕ) (old new : Side) (memory : List ℕ) (r : Reply)
    (made : IsSideStep geometry (event.GiveUp lane tag) old memory r new memory) where
  abbrev w : World
  w = own-world old memory

  abbrev given_now : Command → List ReadDone → After
  given_now command reads = replied reply.Done (ended_at_once lane (group w lane tag) command (done_with InternalError) w)

  stepped : with_side new memory w ≡ (for_taken tag (tag_of w lane tag) w given_now).world
  unfolding step
  stepped = ap (λ (a : After). a.world) (made w (own-side old memory))

  -- nothing has changed
  module _ (u : Reply) (off : untaken tag (tag_of w lane tag) ≡ Some u) where
    stayed : with_side new memory w ≡ w
    stayed = stepped ∙ ap (λ (a : After). a.world) (not-taken tag (tag_of w lane tag) u w given_now off)

    stayed-alone : new.tails ≡ old.tails → IsLaneAlone lane old new
    stayed-alone tails =
        record {
          lanes = (λ other apart. ap (λ (v : World). slice_get v.lanes other) stayed);
          tails = tails;
          controllers = ap (λ (v : World). v.controllers) stayed;
        }

    stayed-each : IsKept geometry old → AreEach (given_up_by tag) lane old new
    stayed-each kept n = ap (λ (v : World). tag_in (slice_get v.lanes lane) n) stayed ∙ by (slice_get old.lanes lane) refl
      where
        by : (o : Option Lane) → slice_get old.lanes lane ≡ o → tag_in o n ≡ option_map (given_up_by tag n) (tag_in o n)
        by None none = refl
        by (Some l) found =
            still geometry lane tag w l found (kept.lanes lane l found).groups u
            (sym (ap (λ (o : Option Lane). untaken tag (tag_in o tag)) found) ∙ off) n (slice_get l.tags n) refl

  module _ (l : Lane) (found : slice_get old.lanes lane ≡ Some l) (t : IsTaken tag (tag_of w lane tag)) where
    abbrev now : Lane
    now = all_ended (group_in (Some l) tag) t.command (done_with InternalError) l

    there : slice_get l.tags tag ≡ Some (Taken t.command t.reads)
    there = sym (ap (λ (o : Option Lane). tag_in o tag) found) ∙ t.is

    became : with_side new memory w ≡ with_lane_at lane now w
    became =
        stepped ∙ ap (λ (o : Option Tag). (for_taken tag o w given_now).world) t.is
        ∙ ap (λ (a : After). a.world) (leads tag t.command w (given_now t.command t.reads) t.led)
        ∙ ap (λ (ns : List ℕ). ended_at_once lane ns t.command (done_with InternalError) w) (group-lane w lane tag l found)
        ∙ ended-lane lane (group_in (Some l) tag) t.command (done_with InternalError) w l found

    became-alone : new.tails ≡ old.tails → IsLaneAlone lane old new
    became-alone tails =
        record {
          lanes = (λ other apart.
              ap (λ (v : World). slice_get v.lanes other) became ∙ slice_get-set-other old.lanes lane other now (ne_eqb other lane apart));
          tails = tails;
          controllers = ap (λ (v : World). v.controllers) became;
        }

    became-each : IsKept geometry old → AreEach (given_up_by tag) lane old new
    became-each kept n =
        ap (λ (v : World). tag_in (slice_get v.lanes lane) n) became
        ∙ ap (λ (o : Option Lane). tag_in o n) (slice_get-set old.lanes lane l now found)
        ∙ given-each geometry lane tag w l found (kept.lanes lane l found).groups t.command t.reads there t.led n (slice_get l.tags n) refl
        ∙ sym (ap (λ (o : Option Lane). option_map (given_up_by tag n) (tag_in o n)) found)

  -- whichever
  decide : (P : Type 0) → ((u : Reply) → untaken tag (tag_of w lane tag) ≡ Some u → P)
      → ((l : Lane) → slice_get old.lanes lane ≡ Some l → IsTaken tag (tag_of w lane tag) → P) → P
  decide P none some = by (untaken tag (tag_of w lane tag)) refl (slice_get old.lanes lane) refl
    where
      by : (u : Option Reply) → untaken tag (tag_of w lane tag) ≡ u → (o : Option Lane) → slice_get old.lanes lane ≡ o → P
      by (Some u) is o at = none u is
      by None is (Some l) at = some l at (taken-tag tag (tag_of w lane tag) is)
      by None is None at =
          let bad : Some reply.Ignored ≡ None = sym (ap (λ (o : Option Lane). untaken tag (tag_in o tag)) at) ∙ is in cc

  pub gives-each : IsKept geometry old → AreEach (given_up_by tag) lane old new
  gives-each kept =
      decide (AreEach (given_up_by tag) lane old new) (λ u off. stayed-each u off kept) (λ l found t. became-each l found t kept)

  pub gives-alone : new.tails ≡ old.tails → IsLaneAlone lane old new
  gives-alone tails = decide (IsLaneAlone lane old new) (λ u off. stayed-alone u off tails) (λ l found t. became-alone l found t tails)

  -- the slot that is read next, and the phase tag that is wanted there, stay
  rest-same : (ns : List ℕ) (v : Tag) (l : Lane) → ((tags_changed ns v l).head ≡ l.head) × ((tags_changed ns v l).phase ≡ l.phase)
  rest-same [] v l = (refl, refl)
  rest-same (m ∷ ns) v l = rest-same ns v (tag_changed m v l)

  rest-ended : (ns : List ℕ) (command : Command) (st : StatusField) (l : Lane)
      → ((all_ended ns command st l).head ≡ l.head) × ((all_ended ns command st l).phase ≡ l.phase)
  rest-ended [] command st l = (refl, refl)
  rest-ended (m ∷ ns) command st l = rest-same ns (Ended command (done_with Success) None) (tag_changed m (Ended command st None) l)

  waits-as : (l k : Lane) → (k.head ≡ l.head) × (k.phase ≡ l.phase) → (at : List ℕ) → waits_in geometry lane (Some k) at ≡ waits_in geometry lane (Some l) at
  waits-as l k same at =
      ap (λ (n : ℕ). phase_of (next_completion geometry lane (record k { head = n }) at) == bit k.phase) same.0
      ∙ ap (λ (b : Bool). phase_of (next_completion geometry lane l at) == bit b) same.1

  pub gives-idle : (at : List ℕ) → IsIdle geometry lane old at → IsIdle geometry lane new at
  gives-idle at idle =
      decide (IsIdle geometry lane new at)
      (λ u off. ap (λ (v : World). waits_in geometry lane (slice_get v.lanes lane) at) (stayed u off) ∙ idle)
      (λ l found t.
      ap (λ (v : World). waits_in geometry lane (slice_get v.lanes lane) at) (became l found t)
      ∙ ap (λ (o : Option Lane). waits_in geometry lane o at) (slice_get-set old.lanes lane l (now l found t) found)
      ∙ waits-as l (now l found t) (rest-ended (group_in (Some l) tag) t.command (done_with InternalError) l) at
      ∙ sym (ap (λ (o : Option Lane). waits_in geometry lane o at) found) ∙ idle)

-- as a run
pub gives-run : (host_bytes : ℕ) (geometry : Geometry) (lane tag : ℕ) (old new : Side) (r : Reply) → IsLaidOut host_bytes (length old.lanes) geometry
    → ((at : List ℕ) → IsSideStep geometry (event.GiveUp lane tag) old at r new at) → length new.tails ≡ length old.tails
    → (at : List ℕ) → IsIdleRun geometry lane old at new at
gives-run host_bytes geometry lane tag old new r laid made many at w on live idle = (
  lead-step host_bytes geometry lane old at laid w on live (event.GiveUp lane tag) new at (GivesUp tag refl)
      (step-beside geometry (event.GiveUp lane tag) tt old new at at r (made at) many w on).world,
  gives-idle geometry lane tag old new at r (made at) at idle,
)

-- ---- tag after tag

-- what becomes of those that go by one of the first so many tags
abbrev pub given_up_below : (count tag : ℕ) → Tag → Tag
given_up_below count tag Free = Free
given_up_below count tag (Taken command reads) = if nat_lt command.leader count then given_up tag (Taken command reads) else Taken command reads
given_up_below count tag (Flying command share at) = Flying command share at
given_up_below count tag (Ended command st share) = Ended command st share

pub all-given : (geometry : Geometry) (count lane : ℕ) (old new : Side) → IsKept geometry old → tag_count ≤ count → AreEach (given_up_below count) lane old new
    → AreEach given_up lane old new
all-given geometry count lane old new kept all each n = each n ∙ by (slice_get old.lanes lane) refl
  where
    of : (l : Lane) → slice_get old.lanes lane ≡ Some l → (t : Option Tag) → slice_get l.tags n ≡ t
        → option_map (given_up_below count n) t ≡ option_map (given_up n) t
    of l found None at = refl
    of l found (Some Free) at = refl
    of l found (Some (Taken command reads)) at =
        let here = kept.lanes lane l found in
        let many = here.tags_are in
        let below = slice_get-below l.tags n (Taken command reads) at in
        let low = (here.groups n (Reading command) command (tag-part l.tags n (Taken command reads) at) refl).low in
        ap (λ (b : Bool). Some (given n b command reads)) (lt-ltb command.leader count (omega (arith, many, below, low, all)))
    of l found (Some (Flying command share standing)) at = refl
    of l found (Some (Ended command st share)) at = refl

    by : (o : Option Lane) → slice_get old.lanes lane ≡ o → option_map (given_up_below count n) (tag_in o n) ≡ option_map (given_up n) (tag_in o n)
    by None none = refl
    by (Some l) found = of l found (slice_get l.tags n) refl
