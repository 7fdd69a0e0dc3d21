-- The parts of a command that has ended and succeeded: all tags that go by its leader have parts of its plan, and each may be delivered.
use Rattle.std.proofs.Common.{◌≡◌, ℕ, ◌+◌, ◌<◌, ◌≤◌, true, false, List, [], ◌∷◌, filter, length, map, slice_get, Option, Some, None, arith}
use Rattle.std.proofs.Common.{refl, sym, ap, ◌∙◌, subst}
use Rattle.std.specs.List.{All}
use Rattle.std.specs.Option.{option_map}
use Rattle.std.proofs.lemmas.List.Elements.{All-cons, All-head, All-map, All-nil, All-tail, All-weaker}
use Rattle.nv_core.specs.Ending.{AreParts, IsPart, MayDeliver}
use Rattle.nv_core.specs.Groups.{statuses_in}
use Rattle.nv_laws_sound.proofs.Clear.{clear-span}
use Rattle.nv_core.proofs.GroupWorlds.{group-lane}
use Rattle.nv_core.proofs.PartKinds.{shares-kind}
use Rattle.nv_entry.specs.Status.{StatusField}
use Rattle.nv_entry.specs.declared.opcode.IoOpcode.{IoOpcode}
use Rattle.nv_laws_sound.proofs.Folds.{group-numbers, part-tag, tag-part}
use Rattle.nv_laws_sound.proofs.GroupShares.{answered-first, answered-group, deciding-first, first-leader, handed-group}
use Rattle.nv_laws_sound.proofs.Groupings.{goes-of}
use Rattle.nv_laws_sound.proofs.Lists.{slice_get-below, some-same}
use Rattle.nv_laws_sound.proofs.Numbers.{Passes, all-at, numbers-length, numbers-pass, numbers_where}
use Rattle.nv_laws_sound.proofs.OwnWork.{own-of}
use Rattle.nv_laws_sound.proofs.PlanSizes.{own-few, planned-kinds}
use Rattle.nv_laws_sound.proofs.Stages.{filter-at}
use Rattle.nv_laws_sound.specs.Kept.{IsKeptLane}
use Rattle.nv_laws_sound.specs.Consistent.{IsPlanned}
use Rattle.nv_laws_sound.specs.Groups.{AtOnce, Handed, Part, command_of, goes_by, group_of, part_of, parts_of}
use Rattle.nv_laws_sound.specs.LaidOut.{IsLaidOut}
use Rattle.nv_mem.specs.GuestMap.{guest_of, mapped}
use Rattle.nv_mem.specs.Places.{total_len}
use Rattle.nv_model.proofs.AnyAnswers.{end-sound}
use Rattle.nv_model.specs.Limits.{most_bytes}
use Rattle.nv_plan.specs.Outline.{kind_of}
use Rattle.nv_world_model.specs.Area.{bounce_page, tag_count}
use Rattle.nv_world_model.specs.Geometry.{Geometry, Guest, regions_of, shape_of}
use Rattle.nv_world_model.specs.Plan.{Plan}
use Rattle.nv_world_model.specs.Share.{Share, shares_of}
use Rattle.nv_world_model.specs.Step.{deciding, ended_status, is_success, status_before}
use Rattle.nv_world_model.specs.World.{Command, Ended, Flying, Free, Lane, Tag, Taken, World, group_in}

-- ---- a part that may be delivered

-- a planned one may, where its slot lies in the host and is none of the guest's memory
may-deliver : (guest : Guest) (entry : List ℕ) (share : Share) → IsPlanned guest entry share → (slot host_bytes : ℕ) → slot + most_bytes ≤ host_bytes
    → ((at : ℕ) → slot ≤ at → at < slot + most_bytes → guest_of (regions_of guest) at ≡ None)
    → MayDeliver share.plan entry slot host_bytes (regions_of guest)
may-deliver guest entry share is slot host_bytes inside outside =
    let sound = end-sound (mapped (regions_of guest)) guest.limit (shape_of guest).blocks entry is.work is.verdict in
    let part = own-of guest entry share is in
    let few = own-few guest entry share is in
    planned-kinds (λ (p : Plan). MayDeliver p entry slot host_bytes (regions_of guest)) guest entry share is tt (λ fits. tt) (
      sound.opcode ∙ ap (λ (o : IoOpcode). Some o) (sym part.opcode),
      record {
        mapped_each = part.mapped_each;
        inside = λ some. omega (arith, few, inside);
        apart = clear-span (regions_of guest) slot (total_len part.own.pieces) (λ at low high. outside at low (omega (arith, high, few)));
      },
    )

-- ---- statuses

-- a tag has ended
record HasEnded (l : Lane) (n : ℕ) : Type 0 where
  st : StatusField
  is : ended_status (slice_get l.tags n) ≡ Some st

-- statuses of some tags are that of the first, and those of the others
record AreFirstAnd (first : Option StatusField) (rest : Option (List StatusField)) (sts : List StatusField) : Type 0 where
  st : StatusField
  others : List StatusField
  is : first ≡ Some st
  rest_are : rest ≡ Some others
  all : sts ≡ st ∷ others

first-and : (first : Option StatusField) (rest : Option (List StatusField)) (sts : List StatusField) → status_before first rest ≡ Some sts
    → AreFirstAnd first rest sts
first-and None rest sts e = cc
first-and (Some st) None sts e = cc
first-and (Some st) (Some others) sts e =
    record { st = st; others = others; is = refl; rest_are = refl; all = sym (some-same (st ∷ others) sts e) }

all-ended : (l : Lane) (tags : List ℕ) (sts : List StatusField) → statuses_in tags l ≡ Some sts → All (HasEnded l) tags
all-ended l [] sts e = All-nil (HasEnded l)
all-ended l (tag ∷ tags) sts e =
    let parts = first-and (ended_status (slice_get l.tags tag)) (statuses_in tags l) sts e in
    All-cons (HasEnded l) tag tags (record { st = parts.st; is = parts.is }) (all-ended l tags parts.others parts.rest_are)

-- what was decided by
record IsDecidedBy (o : Option (List StatusField)) (st : StatusField) : Type 0 where
  sts : List StatusField
  is : o ≡ Some sts
  decides : deciding sts ≡ st

decided-by : (o : Option (List StatusField)) (st : StatusField) → option_map deciding o ≡ Some st → IsDecidedBy o st
decided-by None st e = cc
decided-by (Some sts) st e = record { sts = sts; is = refl; decides = some-same (deciding sts) st e }

-- a part that was handed on, in a tag that has ended
ended-handed : (t : Tag) (command : Command) (share : Share) (st : StatusField) → part_of t ≡ Handed command share → ended_status (Some t) ≡ Some st
    → t ≡ Ended command st (Some share)
ended-handed Free command share st part ended = cc
ended-handed (Taken c reads) command share st part ended = cc
ended-handed (Flying c s standing) command share st part ended = cc
ended-handed (Ended c x None) command share st part ended = cc
ended-handed (Ended c x (Some s)) command share st part ended =
    let same_command : c ≡ command = cc in
    let same_share : s ≡ share = cc in
    let same_status : x ≡ st = cc in cc

-- ---- the tags of a command that has ended

module _ (geometry : Geometry) (w : World) (lane tag : ℕ) (l : Lane) (at : slice_get w.lanes lane ≡ Some l) (fine : IsKeptLane geometry l)
    (command : Command) (first_st : StatusField) (share : Option Share) (found : slice_get l.tags tag ≡ Some (Ended command first_st share))
    (leads : command.leader ≡ tag) where
  abbrev parts : List Part
  parts = parts_of l.tags

  abbrev first : Part
  first = part_of (Ended command first_st share)

  has : command_of first ≡ Some command
  has = by share
    where
      by : (x : Option Share) → command_of (part_of (Ended command first_st x)) ≡ Some command
      by None = refl
      by (Some s) = refl

  there : slice_get parts tag ≡ Some first
  there = tag-part l.tags tag (Ended command first_st share) found

  group-is : group_in (Some l) tag ≡ numbers_where (goes_by tag) parts
  group-is = sym (group-lane w lane tag l at) ∙ group-numbers w lane tag l at

  -- the first is the one that it goes by
  pub group-starts : (others : List ℕ) × (group_in (Some l) tag ≡ tag ∷ others)
  group-starts = by (numbers_where (goes_by tag) parts) refl
    where
      by : (ns : List ℕ) → numbers_where (goes_by tag) parts ≡ ns → (others : List ℕ) × (group_in (Some l) tag ≡ tag ∷ others)
      by [] same =
          let among = filter-at (goes_by tag) parts tag first there (goes-of tag first command has leads) in
          let below = slice_get-below (filter (goes_by tag) parts) among.0 first among.1 in
          let many = numbers-length (goes_by tag) parts in
          let none = ap length same in absurd (omega (arith, below, many, none))
      by (n ∷ rest) same =
          let leader = first-leader geometry parts tag first command n rest fine.groups there has leads same in
          (rest, group-is ∙ same ∙ ap (λ (k : ℕ). k ∷ rest) leader)

  -- of one that ended at once the first decides, which failed
  at-once-fails : share ≡ None → (st : StatusField) → option_map deciding (statuses_in (group_in (Some l) tag) l) ≡ Some st → is_success st ≡ false
  at-once-fails none st e =
      let part_is : slice_get parts tag ≡ Some (AtOnce command first_st) = there ∙ ap (λ (x : Option Share). Some (part_of (Ended command first_st x))) none in
      let all = answered-group geometry parts tag tag command first_st fine.groups part_is leads in
      let one = answered-first geometry parts tag command first_st fine.groups part_is leads all in
      let fails : is_success first_st ≡ false = ap is_success (sym one) ∙ all.fails in
      let d = decided-by (statuses_in (group_in (Some l) tag) l) st e in
      let are = first-and (ended_status (slice_get l.tags tag)) (statuses_in group-starts.0 l) d.sts
      (ap (λ (tags : List ℕ). statuses_in tags l) (sym group-starts.1) ∙ d.is) in
      let same : are.st ≡ first_st = some-same are.st first_st (sym are.is ∙ ap ended_status found) in
      let decides : deciding d.sts ≡ first_st =
      ap deciding are.all ∙ ap (λ (x : StatusField). deciding (x ∷ are.others)) same ∙ deciding-first first_st are.others fails in
      ap is_success (sym d.decides ∙ decides) ∙ fails

  module _ (host_bytes : ℕ) (laid : IsLaidOut host_bytes (length w.lanes) geometry) (guest : Guest)
      (given : slice_get geometry.guests command.guest ≡ Some guest) where
    -- a tag's bounce pages
    room : (n : ℕ) → n < tag_count → bounce_page geometry.mediator lane n + most_bytes ≤ host_bytes
    room n below =
        let lane_below = slice_get-below w.lanes lane l at in
        let area = laid.area in omega (arith, lane_below, area, below)

    outside : (n : ℕ) → n < tag_count → (at : ℕ) → bounce_page geometry.mediator lane n ≤ at → at < bounce_page geometry.mediator lane n + most_bytes
        → guest_of (regions_of guest) at ≡ None
    outside n below at_byte low high =
        let lane_below = slice_get-below w.lanes lane l at in
        laid.outside command.guest guest at_byte given (omega (arith, low)) (omega (arith, high, below, lane_below))

    -- a tag that has ended with a part of that plan
    module _ (whole : Plan) where
      record IsHandedOf (p : Part) : Type 0 where
        own : Share
        is : p ≡ Handed command own
        same : kind_of own.plan ≡ kind_of whole

      all-handed : All IsHandedOf (map (Handed command) (shares_of guest.namespace command.entry whole))
      all-handed =
          All-map IsHandedOf (Handed command) (shares_of guest.namespace command.entry whole)
          (All-weaker (λ (s : Share). kind_of s.plan ≡ kind_of whole) (λ (s : Share). IsHandedOf (Handed command s))
          (λ s same. record { own = s; is = refl; same = same }) (shares_of guest.namespace command.entry whole)
          (shares-kind guest.namespace command.entry whole))

      abbrev IsPartAt : ℕ → Type 0
      IsPartAt n = IsPart (kind_of whole) command.entry (bounce_page geometry.mediator lane n) host_bytes (regions_of guest) (slice_get l.tags n)

      one-part : group_of tag parts ≡ map (Handed command) (shares_of guest.namespace command.entry whole) → (n : ℕ) → Passes (goes_by tag) parts n
          → HasEnded l n → IsPartAt n
      one-part all n p ended =
          let among = filter-at (goes_by tag) parts n p.x p.is p.passes in
          let handed = all-at IsHandedOf (map (Handed command) (shares_of guest.namespace command.entry whole)) among.0 p.x all-handed
          (ap (λ (ps : List Part). slice_get ps among.0) (sym all) ∙ among.1) in
          let x = part-tag l.tags n p.x p.is in
          let tag_now : x.t ≡ Ended command ended.st (Some handed.own) =
          ended-handed x.t command handed.own ended.st (x.part_is ∙ handed.is) (ap ended_status (sym x.is) ∙ ended.is) in
          let here : slice_get l.tags n ≡ Some (Ended command ended.st (Some handed.own)) = x.is ∙ ap (λ (t : Tag). Some t) tag_now in
          let taken = fine.tags n (Ended command ended.st (Some handed.own)) here in
          let planned : IsPlanned guest command.entry handed.own =
          subst (λ (g : Guest). IsPlanned g command.entry handed.own) (some-same taken.guest guest (sym taken.is.given ∙ given)) taken.planned in
          let sized = fine.tags_are in
          let among_tags = slice_get-below l.tags n (Ended command ended.st (Some handed.own)) here in
          let below : n < tag_count = omega (arith, sized, among_tags) in
          record {
            command = command;
            status = ended.st;
            share = handed.own;
            is = here;
            same = handed.same;
            may =
                may-deliver guest command.entry handed.own planned (bounce_page geometry.mediator lane n) host_bytes (room n below)
                (outside n below);
          }

      all-parts : group_of tag parts ≡ map (Handed command) (shares_of guest.namespace command.entry whole) → (ns : List ℕ)
          → All (Passes (goes_by tag) parts) ns → All (HasEnded l) ns → All IsPartAt ns
      all-parts all [] pass ended = All-nil IsPartAt
      all-parts all (n ∷ ns) pass ended =
          All-cons IsPartAt n ns
          (one-part all n (All-head (Passes (goes_by tag) parts) n ns pass) (All-head (HasEnded l) n ns ended))
          (all-parts all ns (All-tail (Passes (goes_by tag) parts) n ns pass) (All-tail (HasEnded l) n ns ended))

    -- all have parts of one plan, where the command succeeded
    pub parts-of : (st : StatusField) → option_map deciding (statuses_in (group_in (Some l) tag) l) ≡ Some st → is_success st ≡ true
        → AreParts command.entry geometry.mediator lane tag l host_bytes (regions_of guest)
    parts-of st e went = by share refl
      where
        by : (x : Option Share) → share ≡ x → AreParts command.entry geometry.mediator lane tag l host_bytes (regions_of guest)
        by None none = let bad : true ≡ false = sym went ∙ at-once-fails none st e in cc
        by (Some s) is =
            let part_is : slice_get parts tag ≡ Some (Handed command s) = there ∙ ap (λ (x : Option Share). Some (part_of (Ended command first_st x))) is in
            let handed = handed-group geometry parts tag tag command s fine.groups part_is leads in
            let all : group_of tag parts ≡ map (Handed command) (shares_of guest.namespace command.entry s.whole) =
            handed.all
            ∙ ap (λ (g : Guest). map (Handed command) (shares_of g.namespace command.entry s.whole)) (some-same handed.guest guest (sym handed.given ∙ given)) in
            let d = decided-by (statuses_in (group_in (Some l) tag) l) st e in
            record {
              plan_kind = kind_of s.whole;
              others = group-starts.0;
              group = group-starts.1;
              parts =
                  subst (All (IsPartAt s.whole)) group-starts.1
                  (all-parts s.whole all (group_in (Some l) tag)
                  (subst (All (Passes (goes_by tag) parts)) (sym group-is) (numbers-pass (goes_by tag) parts))
                  (all-ended l (group_in (Some l) tag) d.sts d.is));
            }
