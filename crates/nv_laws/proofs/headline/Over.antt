-- A guest's command all of whose tags have ended: the status that decides is that with which the private controller's has ended.
use Rattle.std.proofs.Common.{◌≡◌, ℕ, Bool, true, false, ◌||◌, ◌==◌, List, [], ◌∷◌, All, map, slice_get, Option, Some, None}
use Rattle.std.proofs.Common.{refl, sym, ap, ◌∙◌, eqb-true, subst}
use Rattle.std.specs.List.{list_any}
use Rattle.std.proofs.lemmas.List.Elements.{All-cons, All-head, All-nil, All-tail}
use Rattle.nv_entry.specs.Status.{StatusField}
use Rattle.nv_model.specs.Judge.{Go, Work, is_read}
use Rattle.nv_model.specs.Private.{Private, ending, moved_status}
use Rattle.nv_world_model.specs.Area.{bounce_page}
use Rattle.nv_world_model.specs.Device.{Held}
use Rattle.nv_world_model.specs.Geometry.{Geometry, Guest}
use Rattle.nv_world_model.specs.Share.{Share}
use Rattle.nv_world_model.specs.Seat.{ended_progress, rest_at, rests_of, tag_rest, tells_difference, work_of, work_progress}
use Rattle.nv_world_model.specs.Step.{deciding, ended_status, is_success, status_before, statuses_of}
use Rattle.nv_world_model.specs.View.{own_held}
use Rattle.nv_world_model.specs.World.{Command, Ended, Flying, Free, Tag, Taken, World, group, tag_in, tag_of}
use Rattle.nv_laws_sound.specs.Consistent.{IsPlanned, IsPlannedOr}
use Rattle.nv_laws_sound.specs.Groups.{AtOnce, Handed, NoPart, Part, Reading, command_of, ended_part, goes_by, group_of, part_of, parts_of}
use Rattle.nv_laws_sound.proofs.CountedActs.{HasLane, lane-of}
use Rattle.nv_laws_sound.proofs.CountedTags.{group-first, group-some}
use Rattle.nv_laws_sound.proofs.Folds.{HasTag, tag-part}
use Rattle.nv_laws_sound.proofs.Groupings.{goes-of}
use Rattle.nv_laws_sound.proofs.GroupShares.{answered-first, answered-group, deciding-first, handed-group}
use Rattle.nv_laws_sound.proofs.Lists.{some-same}
use Rattle.nv_laws_sound.proofs.Numbers.{all-at}
use Rattle.nv_laws_sound.proofs.PlanSizes.{own_work}
use Rattle.nv_laws_sound.proofs.Retags.{is-at, tag-is}
use Rattle.nv_laws_sound.proofs.Stages.{filter-at}
use Rattle.nv_laws_sound.proofs.TagEvents.{HasEnded, statuses-ended}
use Rattle.nv_laws.specs.Following.{IsReached}
use Rattle.nv_laws.specs.Related.{HasEndedWell, IsTagRelated, Related}
use Rattle.nv_laws.proofs.related.Changing.{all-touched, first-touched, touched}
use Rattle.nv_laws.proofs.related.Rests.{group-led, group-same, led}
use Rattle.nv_laws.proofs.related.Statuses.{deciding-moved, ended_rest, group-ends}
use Rattle.nv_laws.proofs.related.Views.{device_of, own-is, status_in}
use Rattle.nv_laws.proofs.related.Within.{IsPart, planned-fit, planned-own, planned-work}

-- ---- lists of statuses

-- the status of the first tag, and those of the others
record IsSplit (w : World) (lane tag : ℕ) (tags : List ℕ) (sts : List StatusField) : Type 0 where
  st : StatusField
  rest : List StatusField
  first : ended_status (tag_of w lane tag) ≡ Some st
  others : statuses_of lane tags w ≡ Some rest
  both : st ∷ rest ≡ sts

split : (w : World) (lane tag : ℕ) (tags : List ℕ) (sts : List StatusField) → statuses_of lane (tag ∷ tags) w ≡ Some sts
    → IsSplit w lane tag tags sts
unfolding statuses_of
split w lane tag tags sts e = by (ended_status (tag_of w lane tag)) (statuses_of lane tags w) refl refl e
  where
    by : (o : Option StatusField) (rest : Option (List StatusField)) → ended_status (tag_of w lane tag) ≡ o → statuses_of lane tags w ≡ rest
        → status_before o rest ≡ Some sts → IsSplit w lane tag tags sts
    by None rest first others both = cc
    by (Some st) None first others both = cc
    by (Some st) (Some rest) first others both =
        record { st = st; rest = rest; first = first; others = others; both = some-same (st ∷ rest) sts both }

no-statuses : (w : World) (lane : ℕ) (sts : List StatusField) → statuses_of lane [] w ≡ Some sts → [] ≡ sts
unfolding statuses_of
no-statuses w lane sts e = some-same [] sts e

pub or-later : (c d : Bool) → d ≡ true → (c || d) ≡ true
or-later true d e = refl
or-later false d e = e

-- what holds of the status of each tag holds of all
statuses-all : (P : StatusField → Type 0) (w : World) (lane : ℕ) (tags : List ℕ) (sts : List StatusField) → statuses_of lane tags w ≡ Some sts
    → ((b : ℕ) (st : StatusField) → touched tags b ≡ true → ended_status (tag_of w lane b) ≡ Some st → P st) → All P sts
statuses-all P w lane [] sts e each = subst (All P) (no-statuses w lane sts e) (All-nil P)
statuses-all P w lane (tag ∷ tags) sts e each =
    let s = split w lane tag tags sts e in
    subst (All P) s.both
    (All-cons P s.st s.rest (each tag s.st (first-touched tag tags) s.first)
    (statuses-all P w lane tags s.rest s.others (λ b st among is. each b st (or-later (tag == b) (touched tags b) among) is)))

-- what has come of a tag that has ended
ended-rest : (o : Option Tag) (held : Option Held) (status_at : ℕ → StatusField) (st : StatusField) → ended_status o ≡ Some st
    → tag_rest o held status_at ≡ ended_rest st
ended-rest None held status_at st e = cc
ended-rest (Some Free) held status_at st e = cc
ended-rest (Some (Taken command reads)) held status_at st e = cc
ended-rest (Some (Flying command share standing)) held status_at st e = cc
ended-rest (Some (Ended command was share)) held status_at st e = ap ended_rest (some-same was st e)

rests-ended : (geometry : Geometry) (w : World) (lane : ℕ) (tags : List ℕ) (sts : List StatusField) → statuses_of lane tags w ≡ Some sts
    → map (rest_at geometry w lane) tags ≡ map ended_rest sts
unfolding rest_at
rests-ended geometry w lane [] sts e = ap (map ended_rest) (no-statuses w lane sts e)
rests-ended geometry w lane (tag ∷ tags) sts e =
    let s = split w lane tag tags sts e in
    ap (λ r. r ∷ map (rest_at geometry w lane) tags)
    (ended-rest (tag_of w lane tag) (device_of w lane tag) (status_in geometry w lane) s.st s.first)
    ∙ ap (λ rs. ended_rest s.st ∷ rs) (rests-ended geometry w lane tags s.rest s.others) ∙ ap (map ended_rest) s.both

-- ---- parts

pub ended-has : (command : Command) (st : StatusField) (share : Option Share) → command_of (ended_part command st share) ≡ Some command
ended-has command st None = refl
ended-has command st (Some share) = refl

abbrev is_handed : Part → Bool
is_handed NoPart = false
is_handed (Reading command) = false
is_handed (Handed command share) = true
is_handed (AtOnce command st) = false

handed-each : (command : Command) (shares : List Share) → All (λ p. is_handed p ≡ true) (map (Handed command) shares)
handed-each command [] = All-nil (λ p. is_handed p ≡ true)
handed-each command (share ∷ shares) = All-cons (λ p. is_handed p ≡ true) (Handed command share) (map (Handed command) shares) refl (handed-each command shares)

handed-share : (command : Command) (st : StatusField) (o : Option Share) → is_handed (ended_part command st o) ≡ true → (x : Share) × (o ≡ Some x)
handed-share command st None e = cc
handed-share command st (Some x) e = (x, refl)

-- ---- its tags

module _ (host_bytes : ℕ) (geometry : Geometry) (number : ℕ) (guest : Guest) (given : slice_get geometry.guests number ≡ Some guest)
    (w : World) (reached : IsReached host_bytes geometry w) (p : Private) (related : Related geometry number guest w p) (lane tag : ℕ)
    (command : Command) (first_st : StatusField) (first_share : Option Share) (there : tag_of w lane tag ≡ Some (Ended command first_st first_share))
    (leads : (command.leader == tag) ≡ true) (own : (command.guest == number) ≡ true) (sts : List StatusField)
    (are : statuses_of lane (group w lane tag) w ≡ Some sts) where
  abbrev ns : List ℕ
  ns = group w lane tag

  abbrev l : HasLane w lane tag (Ended command first_st first_share)
  l = lane-of w lane tag (Ended command first_st first_share) there

  leads_as : command.leader ≡ tag
  leads_as = eqb-true command.leader tag leads

  -- one of them has ended
  pub record IsOver (b : ℕ) : Type 0 where
    pub st : StatusField
    pub share : Option Share
    pub is : tag_of w lane b ≡ Some (Ended command st share)

  -- each has
  pub over : (b : ℕ) → touched ns b ≡ true → IsOver b
  over b among =
      let h = all-touched (HasTag HasEnded w lane) ns b (statuses-ended lane ns w sts are) among in
      let e = h.has in
      let was : tag_of w lane b ≡ Some (Ended e.command e.st e.share) = h.is ∙ ap (λ x. Some x) e.is in
      let goes : led tag (tag_of w lane b) ≡ true = all-touched (λ n. led tag (tag_of w lane n) ≡ true) ns b (group-led w lane tag) among in
      let same : Some e.command ≡ Some command =
      sym (ended-has e.command e.st e.share)
      ∙ group-same geometry w reached.consistent.groups lane tag b (Ended command first_st first_share) (Ended e.command e.st e.share) there leads was
      (sym (ap (led tag) was) ∙ goes)
      ∙ ended-has command first_st first_share in
      record { st = e.st; share = e.share; is = was ∙ ap (λ c. Some (Ended c e.st e.share)) (some-same e.command command same) }

  in-lane : (b : ℕ) (t : Tag) → tag_of w lane b ≡ Some t → slice_get l.l.tags b ≡ Some t
  in-lane b t is = sym (ap (λ o. tag_in o b) l.at) ∙ is

  -- where one has a share, each has
  pub handed : (b : ℕ) (one : IsOver b) (x : Share) → one.share ≡ Some x → (c : ℕ) (other : IsOver c) → (y : Share) × (other.share ≡ Some y)
  handed b one x is c other =
      let parts : List Part = parts_of l.l.tags in
      let here : slice_get parts b ≡ Some (Handed command x) =
      tag-part l.l.tags b (Ended command one.st one.share) (in-lane b (Ended command one.st one.share) one.is)
      ∙ ap (λ o. Some (ended_part command one.st o)) is in
      let all = (handed-group geometry parts tag b command x (reached.consistent.groups lane l.l l.at) here leads_as) in
      let part : Part = ended_part command other.st other.share in
      let among = filter-at (goes_by tag) parts c part
      (tag-part l.l.tags c (Ended command other.st other.share) (in-lane c (Ended command other.st other.share) other.is))
      (goes-of tag part command (ended-has command other.st other.share) leads_as) in
      handed-share command other.st other.share
      (all-at (λ q. is_handed q ≡ true) (group_of tag parts) among.0 part
      (subst (All (λ q. is_handed q ≡ true)) (sym all.all) (handed-each command _)) among.1)

  -- ---- how they have ended

  -- each is related
  pub ended-well : (b : ℕ) (one : IsOver b)
      → HasEndedWell one.share guest command.entry one.st (bounce_page geometry.mediator lane b) w.host p.memory
  ended-well b one =
      as_ended (own_held number (tag_of w lane b) (device_of w lane b))
      (subst (λ o. IsTagRelated o guest (own_held number (tag_of w lane b) (device_of w lane b)) (status_in geometry w lane) (bounce_page geometry.mediator lane b) w.host p.memory)
      (own-is number (tag_of w lane b) (Ended command one.st one.share) one.is own) (related.tags lane b))
    where
      as_ended : (held : Option Held)
          → IsTagRelated (Some (Ended command one.st one.share)) guest held (status_in geometry w lane) (bounce_page geometry.mediator lane b) w.host p.memory
          → HasEndedWell one.share guest command.entry one.st (bounce_page geometry.mediator lane b) w.host p.memory
      as_ended held e = e

  planned-or : (b : ℕ) (one : IsOver b) → IsPlannedOr guest command.entry one.share
  planned-or b one =
      let t = Ended command one.st one.share in
      let a = is-at geometry w lane b t reached.consistent.of_tags one.is in
      let is = tag-is geometry w lane b t reached.consistent.of_tags a in
      let same : is.guest ≡ guest =
      some-same is.guest guest (sym is.is.given ∙ ap (slice_get geometry.guests) (eqb-true command.guest number own) ∙ given) in
      subst (λ (g : Guest). IsPlannedOr g command.entry one.share) same is.planned

  -- with a share
  pub record HasOver (b : ℕ) (x : Share) : Type 0 where
    pub st : StatusField
    pub is : tag_of w lane b ≡ Some (Ended command st (Some x))
    pub planned : IsPlanned guest command.entry x
    pub well : HasEndedWell (Some x) guest command.entry st (bounce_page geometry.mediator lane b) w.host p.memory

  pub has-over : (b : ℕ) (one : IsOver b) (x : Share) → one.share ≡ Some x → HasOver b x
  has-over b one x is =
      record {
        st = one.st;
        is = one.is ∙ ap (λ o. Some (Ended command one.st o)) is;
        planned = subst (IsPlannedOr guest command.entry) is (planned-or b one);
        well = subst (λ o. HasEndedWell o guest command.entry one.st (bounce_page geometry.mediator lane b) w.host p.memory) is (ended-well b one);
      }

  -- a share's own work has the opcode of the whole, which is the verdict's
  own-part : (b : ℕ) (x : Share) (has : HasOver b x) (work : Work) → work_of x.plan ≡ Some work → IsPart x work
  own-part b x has work is = planned-fit guest command.entry x has.planned work is

  same-read : (b c : ℕ) (x y : Share) (one : HasOver b x) (other : HasOver c y) (work also : Work) → work_of x.plan ≡ Some work → work_of y.plan ≡ Some also
      → is_read work.opcode ≡ is_read also.opcode
  same-read b c x y one other work also is is_too =
      let part = own-part b x one work is in
      let part_too = own-part c y other also is_too in
      let same : Go part.whole ≡ Go part_too.whole = sym (one.well.0.steady part.whole part.is) ∙ other.well.0.steady part_too.whole part_too.is in
      ap is_read part.opcode ∙ ap (λ (v : Work). is_read v.opcode) (go-same part.whole part_too.whole same) ∙ sym (ap is_read part_too.opcode)
    where
      go-same : (a b : Work) → Go a ≡ Go b → a ≡ b
      go-same a b e = cc

  module _ (b : ℕ) (x : Share) (one : HasOver b x) where
    abbrev one-is : IsOver b
    one-is = record { st = one.st; share = Some x; is = one.is }

    -- the tag of a status, with its share
    pub record HasStatus (status : StatusField) : Type 0 where
      pub at : ℕ
      pub share : Share
      pub has : HasOver at share
      pub same : has.st ≡ status

    by-status : (c : ℕ) (status : StatusField) → touched ns c ≡ true → ended_status (tag_of w lane c) ≡ Some status → HasStatus status
    by-status c status among is =
        let other = over c among in
        let y = handed b one-is x refl c other in
        let has = has-over c other y.0 y.1 in
        record { at = c; share = y.0; has = has; same = some-same has.st status (sym (ap ended_status has.is) ∙ is) }

    moved-all : All (λ (s : StatusField). s ≡ moved_status (tells_difference s)) sts
    moved-all =
        statuses-all (λ (s : StatusField). s ≡ moved_status (tells_difference s)) w lane ns sts are
        (λ c status among is.
        let s = by-status c status among is in
        subst (λ (v : StatusField). v ≡ moved_status (tells_difference v)) s.same s.has.well.1.status)

    pub decides : deciding sts ≡ moved_status (list_any tells_difference sts)
    decides = deciding-moved sts moved-all

    -- a Read has succeeded
    pub read-succeeds : (work : Work) → work_of x.plan ≡ Some work → is_read work.opcode ≡ true → is_success (deciding sts) ≡ true
    read-succeeds work is reads =
        ap is_success (decides ∙ ap moved_status (none-any sts
        (statuses-all (λ (s : StatusField). tells_difference s ≡ false) w lane ns sts are (λ c status among e. none c status among e))))
      where
        none-any : (list : List StatusField) → All (λ (s : StatusField). tells_difference s ≡ false) list → list_any tells_difference list ≡ false
        none-any [] each = refl
        none-any (s ∷ list) each =
            ap (λ d. d || list_any tells_difference list) (All-head (λ (v : StatusField). tells_difference v ≡ false) s list each)
            ∙ none-any list (All-tail (λ (v : StatusField). tells_difference v ≡ false) s list each)

        none : (c : ℕ) (status : StatusField) → touched ns c ≡ true → ended_status (tag_of w lane c) ≡ Some status → tells_difference status ≡ false
        none c status among e =
            let s = by-status c status among e in
            let also : Work = own_work guest command.entry s.share s.has.planned in
            let goes = planned-own guest command.entry s.share s.has.planned in
            ap tells_difference (sym s.same) ∙ s.has.well.1.no_read also goes (sym (same-read b s.at x s.share one s.has work also is goes) ∙ reads)

  -- ---- the status that decides

  abbrev mine : IsOver tag
  mine = record { st = first_st; share = first_share; is = there }

  rests-are : rests_of geometry w lane tag ≡ map ended_rest sts
  unfolding rests_of
  rests-are = rests-ended geometry w lane ns sts are

  -- of a command that ended at once the first does, and tells of a failure
  at-once : first_share ≡ None → Some first_st ≡ Some (deciding sts)
  at-once none = by ns refl
    where
      t : Tag
      t = Ended command first_st first_share

      has : command_of (part_of t) ≡ Some command
      has = ended-has command first_st first_share

      fails : is_success first_st ≡ false
      fails =
          let at : slice_get (parts_of l.l.tags) tag ≡ Some (AtOnce command first_st) =
          tag-part l.l.tags tag t l.found ∙ ap (λ o. Some (ended_part command first_st o)) none in
          let groups = reached.consistent.groups lane l.l l.at in
          let g = answered-group geometry (parts_of l.l.tags) tag tag command first_st groups at leads_as in
          ap is_success (sym (answered-first geometry (parts_of l.l.tags) tag command first_st groups at leads_as g)) ∙ g.fails

      by : (list : List ℕ) → ns ≡ list → Some first_st ≡ Some (deciding sts)
      by [] same = absurd (group-some w lane tag l.l t command l.at l.found has leads_as same)
      by (n ∷ rest) same =
          let begins = group-first geometry w lane tag l.l t command n rest l.at (reached.consistent.groups lane l.l l.at) l.found has leads_as same in
          let s = split w lane tag rest sts (subst (λ list. statuses_of lane list w ≡ Some sts) (same ∙ ap (λ m. m ∷ rest) begins) are) in
          let first : s.st ≡ first_st = some-same s.st first_st (sym s.first ∙ ap ended_status there) in
          ap (λ x. Some x)
          (sym (deciding-first first_st s.rest fails) ∙ ap (λ x. deciding (x ∷ s.rest)) (sym first) ∙ ap deciding s.both)

  pub ends : ending (ended_progress first_share first_st (rests_of geometry w lane tag)) ≡ Some (deciding sts)
  ends =
      (elim first_share as (λ o. first_share ≡ o → ending (ended_progress o first_st (rests_of geometry w lane tag)) ≡ Some (deciding sts)) [
        | None ↦ λ none. at-once none
        | Some x ↦ λ is. with-share x (has-over tag mine x is)
      ]) refl
    where
      with-share : (x : Share) → HasOver tag x → ending (work_progress (work_of x.whole) (rests_of geometry w lane tag)) ≡ Some (deciding sts)
      with-share x has =
          let work : Work = has.planned.work in
          ap (λ o. ending (work_progress o (rests_of geometry w lane tag))) (planned-work guest command.entry x has.planned)
          ∙ ap (λ rs. ending (work_progress (Some work) rs)) rests-are ∙ group-ends work sts (moved-all tag x has)
