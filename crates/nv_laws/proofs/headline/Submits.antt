-- The private controller of a guest goes along where a command of the guest's is answered at once or handed on, share by share.
use Rattle.std.proofs.Common.{◌≡◌, ℕ, zero, suc, ◌+◌, ◌*◌, ◌^◌, ◌<◌, Bool, true, false, cond, ◌||◌, ◌==◌, List, []}
use Rattle.std.proofs.Common.{◌∷◌, All, drop, length, map, slice_get, Option, Some, None}
use Rattle.std.proofs.Common.{arith, refl, sym, ap, ◌∙◌, eq-eqb, eqb-true, subst}
use Rattle.std.specs.Prelude.{◌≢◌}
use Rattle.std.specs.List.{list_any, AllPairs}
use Rattle.std.proofs.lemmas.Bool.{eqb-false, ne_eqb}
use Rattle.std.proofs.lemmas.List.Elements.{All-weaker}
use Rattle.std.proofs.lemmas.List.Kept.{AllPairs-cons}
use Rattle.nv_mem.specs.GuestMap.{mapped}
use Rattle.nv_mem.specs.Places.{At, places_of, total_len}
use Rattle.nv_model.specs.Endings.{MayEndIn}
use Rattle.nv_model.specs.Judge.{Clear, Form, Go, Keep, Manage, Refuse, Transfer, Verdict, Work, form_of, judge}
use Rattle.nv_model.specs.Limits.{block}
use Rattle.nv_model.specs.Memory.{bytes_from, gathered, image}
use Rattle.nv_model.specs.Private.{AtWork, Private, numbers_of, places_of_block, verdict_in}
use Rattle.nv_model.specs.Transcript.{Outcome, ReadDone, Settled, Wanted}
use Rattle.nv_model.specs.declared.reply.Reply.TheVariants as reply
use Rattle.nv_model.proofs.AnyAnswers.{in_memory-may}
use Rattle.nv_ns.specs.Extents.{blocks_in}
use Rattle.nv_world_model.specs.declared.event.Event.TheVariants as event
use Rattle.nv_world_model.specs.Area.{bounce_page, tag_count}
use Rattle.nv_world_model.specs.Contained.{guest_of_one}
use Rattle.nv_world_model.specs.Device.{DeviceLane, Held}
use Rattle.nv_world_model.specs.Disciplined.{in_order}
use Rattle.nv_world_model.specs.Geometry.{Geometry, Guest, regions_of, shape_of}
use Rattle.nv_world_model.specs.Plan.{Answer, Bounced, Direct, NoData, Plan, plan_of, plan_over}
use Rattle.nv_world_model.specs.Share.{Share, shares_of, tags_of_entry}
use Rattle.nv_world_model.specs.Seat.{Owner, member_in, owner_of, rest, rest_at, rests_of, tag_rest, work_of, work_progress}
use Rattle.nv_world_model.specs.Step.{carry_out, handed_on, replied, step, submit_by}
use Rattle.nv_world_model.specs.View.{is_tag_of, own_held, own_tag}
use Rattle.nv_world_model.specs.World.{Command, Tag, Taken, World, group, tag_of}
use Rattle.nv_laws_sound.specs.Consistent.{IsPlanned}
use Rattle.nv_laws_sound.proofs.CountedActs.{HasLane, lane-of}
use Rattle.nv_laws_sound.proofs.Folds.{HasTag, group-distinct}
use Rattle.nv_laws_sound.proofs.Lists.{slice_get-below, slice_get-there, some-same}
use Rattle.nv_laws_sound.proofs.Numbers.{AreDistinct}
use Rattle.nv_laws_sound.proofs.Planned.{IsOf, IsWhole, shares-count, shares-planned, shares-whole}
use Rattle.nv_laws_sound.proofs.PlanSizes.{go_plan-kinds}
use Rattle.nv_laws_sound.proofs.Stages.{group-count, reading, taken-tags}
use Rattle.nv_laws_sound.proofs.TagEvents.{IsTakenBy}
use Rattle.nv_laws.proofs.units.Handed.{handed-own, handed-source}
use Rattle.nv_laws.proofs.units.Submitted.{plan-shown}
use Rattle.nv_laws.specs.Following.{GoesAlong, IsReached}
use Rattle.nv_laws.specs.Related.{AreReadsShown, HasBuffer, IsOnPage, IsTagRelated, Related, form_has_bytes, is_place_at, none_left}
use Rattle.nv_laws.proofs.related.Acts.{owner-there, owner_with}
use Rattle.nv_laws.proofs.related.Agreed.{all-at, place-same}
use Rattle.nv_laws.proofs.related.Changing.{touched}
use Rattle.nv_laws.proofs.related.Goings.{dull-goes}
use Rattle.nv_laws.proofs.related.Named.{block-among}
use Rattle.nv_laws.proofs.related.Rests.{group-by, led}
use Rattle.nv_laws.proofs.related.Retold.{IsRetold, retag-related}
use Rattle.nv_laws.proofs.related.Slices.{slice-bytes, slice-drop, slice-gathered, slice-take}
use Rattle.nv_laws.proofs.related.Tags.{group-taken, hides-nothing, member-mine, own-as, tag-below, taken-mine}
use Rattle.nv_laws.proofs.related.Views.{block-place, device_of, own-there, status_in}
use Rattle.nv_laws.proofs.related.Ways.{device-way, owner-way, taken-way}
use Rattle.nv_laws.proofs.related.Within.{planned-fit, planned-own}
use Rattle.nv_laws.proofs.headline.Answering.{answered-related, bare, judge-goes, judged, led-touched}
use Rattle.nv_laws.proofs.headline.Handing.{AreHanded, HasShare, IsCarriedAs, IsOver, Waits, all-handed}
use Rattle.nv_laws.proofs.headline.Shared.{map-pairs, over-form, over-none, whole-progress, whole_rest}

-- what has bytes on its pages before its units move is a source
source-form : (form : Form) → form_has_bytes form true ≡ true → form ≡ Transfer false
source-form (Transfer true) e = cc
source-form (Transfer false) e = refl
source-form Clear e = cc
source-form Manage e = cc
source-form Keep e = cc

-- where the pages have a source's bytes in order, each block's stand on its page
source-on-page : (work : Work) (index bounce : ℕ) (host mine memory : ℕ → ℕ)
    → bytes_from host bounce (total_len work.pieces) ≡ gathered mine (places_of work.pieces)
    → ((i addr : ℕ) → slice_get (places_of_block work index) i ≡ Some (At addr) → mine addr ≡ memory addr) → IsOnPage work index bounce host memory
source-on-page work index bounce host mine memory stands same i addr at =
    let within = block-place work index i (At addr) at in
    let k : ℕ = block * index + i in
    let there = slice-drop (block * index) (places_of work.pieces) i (At addr) (slice-take block (drop (block * index) (places_of work.pieces)) i (At addr) at) in
    let byte : host (bounce + k) ≡ mine addr =
    some-same (host (bounce + k)) (mine addr)
    (sym (slice-bytes host bounce (total_len work.pieces) k within.1) ∙ ap (λ bs. slice_get bs k) stands ∙ slice-gathered mine (places_of work.pieces) k addr there) in
    let next : bounce + block * index + i ≡ bounce + k = omega arith in
    ap host next ∙ byte ∙ same i addr at

-- ---- places in lists

touched-at : (ns : List ℕ) (b : ℕ) → touched ns b ≡ true → (i : ℕ) × (slice_get ns i ≡ Some b)
touched-at [] b is = cc
touched-at (n ∷ ns) b is =
    (elim (n == b) as (λ c. (n == b) ≡ c → (c || touched ns b) ≡ true → (i : ℕ) × (slice_get (n ∷ ns) i ≡ Some b)) [
      | true ↦ λ same any. (0, ap Some (eqb-true n b same))
      | false ↦ λ other any. (let rest = touched-at ns b any in (suc rest.0, rest.1))
    ]) refl is

at-touched : (ns : List ℕ) (i b : ℕ) → slice_get ns i ≡ Some b → touched ns b ≡ true
at-touched [] i b at = cc
at-touched (n ∷ ns) zero b at = let same : n ≡ b = cc in ap (λ c. c || touched ns b) (eq-eqb n b same)
at-touched (n ∷ ns) (suc i) b at = later (n == b) (at-touched ns i b at)
  where
    later : (c : Bool) → touched ns b ≡ true → (c || touched ns b) ≡ true
    later true e = refl
    later false e = e

-- no tag stands twice
distinct-pairs : (ns : List ℕ) → AreDistinct ns → AllPairs (λ a b. a ≢ b) ns
distinct-pairs [] apart = λ i j d order below. absurd (omega (arith, below))
distinct-pairs (n ∷ ns) apart =
    AllPairs-cons (λ a b. a ≢ b) n ns (All-weaker (λ m. (m == n) ≡ false) (λ m. n ≢ m) (λ m other same. eqb-false m n other (sym same)) ns apart.0)
    (distinct-pairs ns apart.1)

module _ (host_bytes : ℕ) (geometry : Geometry) (number : ℕ) (guest : Guest) (given : slice_get geometry.guests number ≡ Some guest)
    (w : World) (reached : IsReached host_bytes geometry w) (p : Private) (related : Related geometry number guest w p) (lane tag : ℕ)
    (ordered : in_order None number guest w ≡ true) where
  abbrev mine : ℕ → ℕ
  mine = image (regions_of guest) w.host

  abbrev o : Owner
  o = owner_with number guest p.controller

  module _ (command : Command) (reads : List ReadDone) (there : tag_of w lane tag ≡ Some (Taken command reads)) (leads : (command.leader == tag) ≡ true)
      (own : (command.guest == number) ≡ true) (d : DeviceLane) (device : slice_get w.device lane ≡ Some d) where
    abbrev ns : List ℕ
    ns = group w lane tag

    abbrev l : HasLane w lane tag (Taken command reads)
    l = lane-of w lane tag (Taken command reads) there

    given-own : slice_get geometry.guests command.guest ≡ Some guest
    given-own = ap (slice_get geometry.guests) (eqb-true command.guest number own) ∙ given

    taken : All (HasTag (IsTakenBy command) w lane) ns
    taken = taken-tags geometry w lane tag l.l command reads l.at (reached.consistent.groups lane l.l l.at) there (eqb-true command.leader tag leads)

    few : blocks_in guest.namespace < 2 ^ 32
    few = (reached.laid.given number guest given).small

    abbrev judged-to : Work → Private
    judged-to work = judged host_bytes geometry number guest given w reached p related lane tag ordered command reads there leads own (AtWork work (numbers_of work) false)

    -- ---- it is handed on

    module _ (plan : Plan) (work : Work) (goes : verdict_in (shape_of guest) mine command.entry ≡ Go work)
        (is : plan ≡ plan_of (regions_of guest) (Go work)) (has : work_of plan ≡ Some work) where
      abbrev shares : List Share
      shares = shares_of guest.namespace command.entry plan

      abbrev z : World
      z = handed_on geometry.mediator lane ns shares command o w

      whole : IsWhole guest command.entry plan
      whole =
          record {
            work = work;
            verdict = subst (λ v. MayEndIn (judge (mapped (regions_of guest)) guest.limit (shape_of guest).blocks command.entry) v) goes
                (in_memory-may mine (judge (mapped (regions_of guest)) guest.limit (shape_of guest).blocks command.entry));
            plan_is = is;
          }

      planned : All (IsPlanned guest command.entry) shares
      planned = shares-planned guest command.entry plan whole

      count : length ns ≡ length shares
      count =
          let waits = reading geometry w lane tag l.l command reads l.at (reached.consistent.groups lane l.l l.at) there (eqb-true command.leader tag leads) in
          let same : guest ≡ waits.guest = some-same guest waits.guest (sym given-own ∙ waits.given) in
          group-count geometry w lane tag l.l command reads l.at (reached.consistent.groups lane l.l l.at) there (eqb-true command.leader tag leads)
          ∙ sym (shares-count guest command.entry plan whole ∙ ap (λ (g : Guest). tags_of_entry g.namespace command.entry) same)

      handed : AreHanded geometry lane ns shares command w z
      handed =
          all-handed host_bytes geometry lane command o given-own ns shares w reached.laid reached.consistent.of_tags planned taken (group-distinct w lane tag)

      -- ---- each tag has its share

      record IsShared (b : ℕ) : Type 0 where
        i : ℕ
        share : Share
        at : slice_get ns i ≡ Some b
        found : slice_get shares i ≡ Some share
        here : HasShare z lane b command share

      shared : (b : ℕ) → touched ns b ≡ true → IsShared b
      shared b among =
          let at = touched-at ns b among in
          let many = count in
          let below = slice_get-below ns at.0 b at.1 in
          let found = slice_get-there shares at.0 (omega (arith, many, below)) in
          record { i = at.0; share = found.0; at = at.1; found = found.1; here = handed.each at.0 b found.0 at.1 found.1 }

      share-planned : (i : ℕ) (share : Share) → slice_get shares i ≡ Some share → IsPlanned guest command.entry share
      share-planned i share found = all-at (IsPlanned guest command.entry) shares i share found planned

      share-work : (i : ℕ) (share : Share) → slice_get shares i ≡ Some share → work_of share.whole ≡ Some work
      share-work i share found =
          ap work_of (all-at (IsOf plan) shares i share found (shares-whole guest.namespace command.entry plan)) ∙ has

      below-of : (b : ℕ) → touched ns b ≡ true → b < tag_count
      below-of b among =
          let was = group-taken host_bytes geometry number guest given w reached p related lane tag command reads there leads own b among in
          tag-below host_bytes geometry number guest given w reached p related lane b was.t was.is

      all-below : All (λ b. b < tag_count) ns
      all-below =
          All-weaker (HasTag (IsTakenBy command) w lane) (λ b. b < tag_count)
          (λ b h. tag-below host_bytes geometry number guest given w reached p related lane b h.t h.is) ns taken

      lane-below : lane < length w.lanes
      lane-below = slice_get-below w.lanes lane l.l l.at

      memory-same : mine ≡ image (regions_of guest) z.host
      memory-same =
          sym (handed-own host_bytes (length w.lanes) geometry reached.laid lane lane-below command o given ns shares w d device
          (reached.consistent.of_tags.lanes lane l.l d l.at device).positions.tail all-below planned)

      -- ---- which tags go by the command's

      led-elsewhere : (other : ℕ) → (other ≡ tag → ⊥) → (command.leader == other) ≡ false
      led-elsewhere other apart = ne_eqb command.leader other (λ same. apart (sym same ∙ eqb-true command.leader tag leads))

      led-as : (share : Share) (now : Tag) (other : ℕ) → IsCarriedAs command share now → led other (Some now) ≡ (command.leader == other)
      led-as share now other (IsOver none) = refl
      led-as share now other (Waits slot) = refl

      retold : IsRetold geometry number guest lane tag (touched ns) w z
      retold =
          record {
            tags = handed.tags;
            held = handed.held;
            before = (λ b other among apart.
                (let was = group-taken host_bytes geometry number guest given w reached p related lane tag command reads there leads own b among in
                ap (led other) (was.is ∙ ap (λ x. Some x) was.has.is) ∙ led-elsewhere other apart));
            behind = (λ b other among apart.
                (let h = shared b among in ap (led other) h.here.is ∙ led-as h.share h.here.now other h.here.kind ∙ led-elsewhere other apart));
            bytes = (λ a b t addr away mine_too by. handed.bytes a b t addr away (own-there number (tag_of w a b) t mine_too).0 by);
            memory = memory-same;
            disk = handed.disk;
            kept = handed.kept;
          }

      group-left : group z lane tag ≡ ns
      group-left = group-by z w lane tag (λ b. by b (touched ns b) refl)
        where
          by : (b : ℕ) (c : Bool) → touched ns b ≡ c → led tag (tag_of z lane b) ≡ led tag (tag_of w lane b)
          by b true among =
              let h = shared b among in
              let was = group-taken host_bytes geometry number guest given w reached p related lane tag command reads there leads own b among in
              ap (led tag) h.here.is ∙ led-as h.share h.here.now tag h.here.kind ∙ sym (ap (led tag) (was.is ∙ ap (λ x. Some x) was.has.is))
          by b false never = ap (led tag) (handed.tags lane b (λ same any. (let bad : true ≡ false = sym any ∙ never in cc)))

      -- ---- what has come of it

      rest-by : (b : ℕ) (share : Share) (now : Tag) → IsPlanned guest command.entry share → IsCarriedAs command share now
          → tag_rest (Some now) (device_of z lane b) (status_in geometry z lane) ≡ whole_rest share
      rest-by b share now planned_too (Waits slot) = refl
      rest-by b share now planned_too (IsOver none) = ap (λ ms. rest ms false) (sym (over-none guest command.entry share planned_too none few))

      rest-is : (i b : ℕ) (share : Share) → slice_get ns i ≡ Some b → slice_get shares i ≡ Some share → rest_at geometry z lane b ≡ whole_rest share
      unfolding rest_at
      rest-is i b share at found =
          let h = handed.each i b share at found in
          ap (λ x. tag_rest x (device_of z lane b) (status_in geometry z lane)) h.is ∙ rest-by b share h.now (share-planned i share found) h.kind

      rests-are : rests_of geometry z lane tag ≡ map whole_rest shares
      unfolding rests_of
      rests-are = ap (map (rest_at geometry z lane)) group-left ∙ map-pairs (rest_at geometry z lane) whole_rest ns shares count rest-is

      progress-is : work_progress (Some work) (rests_of geometry z lane tag) ≡ AtWork work (numbers_of work) false
      unfolding whole
      progress-is = whole-progress guest command.entry plan whole (rests_of geometry z lane tag) rests-are

      member-by : (share : Share) (now : Tag) → work_of share.whole ≡ Some work → IsCarriedAs command share now
          → member_in (Some now) tag number (rests_of geometry z lane tag)
          ≡ Some (record { queue = command.queue; entry = command.entry; progress = AtWork work (numbers_of work) false })
      member-by share now works (Waits slot) =
          member-mine tag number command (work_progress (work_of share.whole) (rests_of geometry z lane tag)) leads own
          ∙ ap (λ x. Some (record { queue = command.queue; entry = command.entry; progress = x }))
          (ap (λ x. work_progress x (rests_of geometry z lane tag)) works ∙ progress-is)
      member-by share now works (IsOver none) =
          member-mine tag number command (work_progress (work_of share.whole) (rests_of geometry z lane tag)) leads own
          ∙ ap (λ x. Some (record { queue = command.queue; entry = command.entry; progress = x }))
          (ap (λ x. work_progress x (rests_of geometry z lane tag)) works ∙ progress-is)

      member-is : member_in (tag_of z lane tag) tag number (rests_of geometry z lane tag)
          ≡ Some (record { queue = command.queue; entry = command.entry; progress = AtWork work (numbers_of work) false })
      member-is =
          let h = shared tag (led-touched w lane tag tag (ap (led tag) there ∙ leads)) in
          ap (λ x. member_in x tag number (rests_of geometry z lane tag)) h.here.is ∙ member-by h.share h.here.now (share-work h.i h.share h.found) h.here.kind

      -- ---- its tags

      steady-still : (share : Share) → work_of share.whole ≡ Some work → (x : Work) → work_of share.whole ≡ Some x
          → verdict_in (shape_of guest) (image (regions_of guest) z.host) command.entry ≡ Go x
      steady-still share works x some = ap (λ m. verdict_in (shape_of guest) m command.entry) (sym memory-same) ∙ goes ∙ ap Go (some-same work x (sym works ∙ some))

      -- its source stands on its pages as the private controller has it
      page-has : (i b : ℕ) (share : Share) → slice_get ns i ≡ Some b → slice_get shares i ≡ Some share → (part : Work) → share.plan ≡ Bounced part → (index : ℕ)
          → form_has_bytes (form_of part.opcode) true ≡ true → IsOnPage part index (bounce_page geometry.mediator lane b) z.host p.memory
      page-has i b share at found part bounced index some =
          source-on-page part index (bounce_page geometry.mediator lane b) z.host mine p.memory
          (handed-source host_bytes (length w.lanes) geometry reached.laid lane lane-below command o given ns shares w d device
          (reached.consistent.of_tags.lanes lane l.l d l.at device).positions.tail all-below planned (distinct-pairs ns (group-distinct w lane tag))
          i b share part at found bounced (source-form (form_of part.opcode) some))
          (λ j addr slice.
          (let fit = planned-fit guest command.entry share (share-planned i share found) part (ap work_of bounced) in
          let same : fit.whole ≡ work = some-same fit.whole work (sym fit.is ∙ share-work i share found) in
          place-same host_bytes geometry number guest w reached p related ordered lane tag (Taken command reads) command command.entry there refl
          (ap (λ c. cond c (command.entry ∷ []) []) own)
          (bare host_bytes geometry number guest given w reached p related lane tag ordered command reads there leads own)
          work addr goes
          (subst (λ (v : Work). list_any (is_place_at addr) (places_of v.pieces) ≡ true) same (fit.within addr (block-among part index j addr slice)))))

      buffer-has : (i b : ℕ) (share : Share) → slice_get ns i ≡ Some b → slice_get shares i ≡ Some share → (x : Plan) → share.plan ≡ x
          → HasBuffer x (λ k. true) (bounce_page geometry.mediator lane b) z.host p.memory
      buffer-has i b share at found (Answer st) same = tt
      buffer-has i b share at found (NoData other) same = tt
      buffer-has i b share at found (Direct other) same = tt
      buffer-has i b share at found (Bounced other) same = λ index some. page-has i b share at found other same index some

      buffer-over : (share : Share) (part : Work) (bounce : ℕ) → work_of share.plan ≡ Some part → form_of part.opcode ≡ Manage → (x : Plan) → share.plan ≡ x
          → HasBuffer x none_left bounce z.host p.memory
      buffer-over share part bounce works form (Answer st) same = tt
      buffer-over share part bounce works form (NoData other) same = tt
      buffer-over share part bounce works form (Direct other) same = tt
      buffer-over share part bounce works form (Bounced other) same =
          λ index some.
          (let one : part ≡ other = some-same part other (sym works ∙ ap work_of same) in
          let bad : false ≡ true =
          sym (ap (λ f. form_has_bytes f false) (ap (λ (v : Work). form_of v.opcode) (sym one) ∙ form)) ∙ some in
          cc)

      tag-by : (i b : ℕ) (share : Share) (now : Tag) → slice_get ns i ≡ Some b → slice_get shares i ≡ Some share → IsCarriedAs command share now → (held : Option Held)
          → IsTagRelated (Some now) guest held (status_in geometry z lane) (bounce_page geometry.mediator lane b) z.host p.memory
      tag-by i b share now at found (Waits slot) held =
          (record { steady = steady-still share (share-work i share found); buffer = buffer-has i b share at found share.plan refl }, tt)
      tag-by i b share now at found (IsOver none) held =
          let is_planned = share-planned i share found in (
            record {
              steady = steady-still share (share-work i share found);
              buffer = buffer-over share _ (bounce_page geometry.mediator lane b) (planned-own guest command.entry share is_planned)
                  (over-form guest command.entry share is_planned none).form share.plan refl;
            },
            record { status = refl; no_read = (λ x works read. refl) },
          )

      handed-related : Related geometry number guest z (judged-to work)
      handed-related =
          retag-related geometry number guest w z reached.consistent lane tag (touched ns)
          (tag-below host_bytes geometry number guest given w reached p related lane tag (Taken command reads) there) retold p related
          (Some (record { queue = command.queue; entry = command.entry; progress = AtWork work (numbers_of work) false })) p.controller
          (ap (λ cs. slice_get cs number) handed.controllers ∙ related.controller)
          (λ b addr among none.
          (let was = group-taken host_bytes geometry number guest given w reached p related lane tag command reads there leads own b among in
          hides-nothing number (tag_of w lane b) (Taken command was.has.reads) (own_held number (tag_of w lane b) (device_of w lane b)) addr
          (was.is ∙ ap (λ x. Some x) was.has.is) refl))
          (sym member-is)
          (λ b among.
          (let h = shared b among in
          own-as number (tag_of z lane b) h.here.now
          (λ x. IsTagRelated x guest (own_held number (tag_of z lane b) (device_of z lane b)) (status_in geometry z lane) (bounce_page geometry.mediator lane b) z.host p.memory)
          h.here.is (own-by h.share h.here.now h.here.kind)
          (tag-by h.i b h.share h.here.now h.at h.found h.here.kind (own_held number (tag_of z lane b) (device_of z lane b)))))
        where
          own-by : (share : Share) (now : Tag) → IsCarriedAs command share now → is_tag_of number (Some now) ≡ true
          own-by share now (IsOver none) = own
          own-by share now (Waits slot) = own

      handed-goes : GoesAlong geometry number guest (event.Submit lane tag) w p (replied reply.Done z)
      handed-goes =
          judge-goes host_bytes geometry number guest given w reached p related lane tag ordered command reads there leads own z (Go work) goes handed-related

    -- ---- by its verdict

    abbrev Goes : World → Type 0
    Goes x = GoesAlong geometry number guest (event.Submit lane tag) w p (replied reply.Done x)

    work-goes : (work : Work) → verdict_in (shape_of guest) mine command.entry ≡ Go work
        → Goes (carry_out (plan_of (regions_of guest) (Go work)) geometry.mediator lane ns command o w)
    work-goes work goes =
        go_plan-kinds (λ x. x ≡ plan_of (regions_of guest) (Go work) → Goes (carry_out x geometry.mediator lane ns command o w)) (form_of work.opcode) (regions_of guest) work
        (λ none is. handed-goes (NoData work) work goes is refl)
        (λ some blocks fits is. handed-goes (Direct work) work goes is refl)
        (λ some is. handed-goes (Bounced work) work goes is refl) refl

    verdict-goes : (v : Verdict) → verdict_in (shape_of guest) mine command.entry ≡ v
        → Goes (carry_out (plan_of (regions_of guest) v) geometry.mediator lane ns command o w)
    verdict-goes (Refuse st) is =
        judge-goes host_bytes geometry number guest given w reached p related lane tag ordered command reads there leads own _ (Refuse st) is
        (answered-related host_bytes geometry number guest given w reached p related lane tag ordered command reads there leads own st)
    verdict-goes (Go work) is = work-goes work is

    -- what was read of its lists is shown
    shown : AreReadsShown guest command.entry w.host reads
    shown =
        as_shown (own_held number (tag_of w lane tag) (device_of w lane tag))
        (subst (λ x. IsTagRelated x guest (own_held number (tag_of w lane tag) (device_of w lane tag)) (status_in geometry w lane) (bounce_page geometry.mediator lane tag) w.host p.memory)
        (ap (own_tag number) there ∙ ap (λ b. cond b (Some (Taken command reads)) None) own) (related.tags lane tag))
      where
        as_shown : (held : Option Held)
            → IsTagRelated (Some (Taken command reads)) guest held (status_in geometry w lane) (bounce_page geometry.mediator lane tag) w.host p.memory
            → AreReadsShown guest command.entry w.host reads
        as_shown held e = e

    outcome-goes : (x : Outcome Plan) → plan_over guest command.entry reads ≡ x
        → GoesAlong geometry number guest (event.Submit lane tag) w p (submit_by x geometry.mediator lane ns command o w)
    outcome-goes (Wanted addr len) is = dull-goes geometry number guest (event.Submit lane tag) w p refl related reply.Stale refl
    outcome-goes (Settled plan) is =
        subst (λ x. Goes (carry_out x geometry.mediator lane ns command o w)) (sym (plan-shown guest command.entry reads plan mine is shown))
        (verdict-goes (verdict_in (shape_of guest) mine command.entry) refl)

    owner-goes : (q : Owner) → owner_of geometry w command.guest ≡ Some q
        → GoesAlong geometry number guest (event.Submit lane tag) w p (submit_by (plan_over q.given command.entry reads) geometry.mediator lane ns command q w)
    owner-goes q found =
        let same : o ≡ q =
        some-same o q (sym (ap (owner_of geometry w) (eqb-true command.guest number own) ∙ owner-there geometry number guest w p.controller given related.controller) ∙ found) in
        subst (λ (x : Owner). GoesAlong geometry number guest (event.Submit lane tag) w p (submit_by (plan_over x.given command.entry reads) geometry.mediator lane ns command x w)) same
        (outcome-goes (plan_over guest command.entry reads) refl)

  pub submits-go : guest_of_one (tag_of w lane tag) ≡ Some number → GoesAlong geometry number guest (event.Submit lane tag) w p (step geometry (event.Submit lane tag) w)
  unfolding step
  submits-go whose =
      let P = GoesAlong geometry number guest (event.Submit lane tag) w p in
      let dull = dull-goes geometry number guest (event.Submit lane tag) w p refl related in
      taken-way P w dull tag (tag_of w lane tag) _ (λ command reads there leads.
      owner-way P w dull (owner_of geometry w command.guest) _ (λ q found.
      device-way P w dull (slice_get w.device lane) (λ d. submit_by (plan_over q.given command.entry reads) geometry.mediator lane (group w lane tag) command q w) (λ d at.
      owner-goes command reads there leads (taken-mine host_bytes geometry number guest given w reached p related lane tag command reads whose there) d at q found)))
