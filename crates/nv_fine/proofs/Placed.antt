-- Of the mediator's area but bounce pages, an effect of a call stores in list pages of tags that wait for their plan and in the next slots of a submission ring.
use Rattle.std.proofs.Common.{◌≡◌, ℕ, ◌+◌, ◌-◌, ◌<◌, ◌≤◌, true, false, List, [], ◌∷◌, ◌++◌, length, slice_get, All}
use Rattle.std.proofs.Common.{Option, Some, None, is_some, ⊎_elim, arith, subst}
use Rattle.std.proofs.lemmas.Bool.{cases_eq, cases_lt}
use Rattle.std.proofs.lemmas.Bool.Decides.{nat_tests}
use Rattle.std.proofs.lemmas.List.Elements.{All-append, All-cons, All-contains, All-nil, All-weaker}
use Rattle.nv_fine.proofs.Comes.{Comes, OfShare, ToMemory}
use Rattle.nv_laws_sound.proofs.Lists.{slice_get-below}
use Rattle.nv_laws_sound.proofs.PlanSizes.{entry-length, list-short, ranges-short}
use Rattle.nv_laws_sound.specs.Area.{form_ranges, ranges_of}
use Rattle.nv_laws_sound.specs.Consistent.{IsBetween, IsPlanned}
use Rattle.nv_laws_sound.specs.LaidOut.{IsLaidOut}
use Rattle.nv_laws_sound.specs.Side.{IsKept, Side}
use Rattle.nv_machine.proofs.Cases.{tag-lane}
use Rattle.nv_machine.proofs.OwnPages.{HasFew, plan-few}
use Rattle.nv_machine.proofs.Writes.{copies_from-written}
use Rattle.nv_machine.specs.Contained.{IsOwnOrNext, MayDo, NextSlot, OfMemory, OfPages, Own}
use Rattle.nv_machine.specs.Doing.{tag_at}
use Rattle.nv_machine.specs.Effects.{Copy, Effect, Store, WritesIn, copies_from, writes_to}
use Rattle.nv_machine.specs.Machine.{bounce_effects, form_effects, share_effects}
use Rattle.nv_mem.proofs.Images.{guest_of-host}
use Rattle.nv_mem.specs.GuestMap.{guest_of}
use Rattle.nv_mem.specs.MapRuns.{InImage}
use Rattle.nv_mem.specs.Places.{places_of}
use Rattle.nv_model.specs.Judge.{Clear, Form, Keep, Manage, Transfer, Work, form_of}
use Rattle.nv_model.specs.Limits.{most_bytes, page}
use Rattle.nv_model.specs.Queue.{sqe_size}
use Rattle.nv_model.specs.Transcript.{ReadDone}
use Rattle.nv_world_model.specs.Area.{bounce_page, lane_start, list_bytes, list_page, prps_of, ring_size, submission_slot, tag_count}
use Rattle.nv_world_model.specs.Geometry.{Geometry, Guest, regions_of}
use Rattle.nv_world_model.specs.Plan.{Answer, Bounced, Direct, NoData, Plan}
use Rattle.nv_world_model.specs.Share.{Share}
use Rattle.nv_world_model.specs.ShareArea.{share_entry}
use Rattle.nv_world_model.specs.World.{Command, Tag, Taken}

-- ---- where what is fixed lies

-- in the rings of a lane, or in the list page of a tag
pub data IsFixed (mediator lanes at : ℕ) : Type 0 where
  InRings : (lane : ℕ) → lane < lanes → lane_start mediator lane ≤ at → at < list_page mediator lane 0 → IsFixed mediator lanes at
  InList : (lane tag : ℕ) → lane < lanes → tag < tag_count → list_page mediator lane tag ≤ at → at < bounce_page mediator lane tag → IsFixed mediator lanes at

pub fixed-low : (mediator lanes at : ℕ) → IsFixed mediator lanes at → mediator ≤ at
fixed-low mediator lanes at (InRings lane below low high) = omega (arith, low)
fixed-low mediator lanes at (InList lane tag below tag_below low high) = omega (arith, low)

pub fixed-high : (mediator lanes at : ℕ) → IsFixed mediator lanes at → at < lane_start mediator lanes
fixed-high mediator lanes at (InRings lane below low high) = omega (arith, below, high)
fixed-high mediator lanes at (InList lane tag below tag_below low high) = omega (arith, below, tag_below, high)

-- a number is less than another, the same, or more
pub in-order : (P : Type 0) (a b : ℕ) → (a < b → P) → (a ≡ b → P) → (b < a → P) → P
in-order P a b less same more =
    ⊎_elim less (λ most. ⊎_elim same (λ differ. more (omega (arith, most, differ))) (cases_eq a b)) (cases_lt a b)

-- nothing of it is in bounce pages
pub fixed-no_bounce : (mediator lanes lane tag at : ℕ) → tag < tag_count → IsFixed mediator lanes at → bounce_page mediator lane tag ≤ at
    → at < list_page mediator lane (tag + 1) → ⊥
fixed-no_bounce mediator lanes lane tag at tag_below (InRings other below low high) from to =
    in-order ⊥ lane other (λ less. absurd (omega (arith, less, low, to, tag_below))) (λ same. absurd (omega (arith, same, high, from)))
    (λ more. absurd (omega (arith, more, high, from)))
fixed-no_bounce mediator lanes lane tag at tag_below (InList other page below page_below low high) from to =
    in-order ⊥ lane other (λ less. absurd (omega (arith, less, low, to, tag_below)))
    (λ same. in-order ⊥ tag page (λ before. absurd (omega (arith, same, before, low, to))) (λ one. absurd (omega (arith, same, one, high, from)))
    (λ behind. absurd (omega (arith, same, behind, high, from))))
    (λ more. absurd (omega (arith, more, high, from, page_below)))

-- a byte of a submission ring is in no page of a tag
pub ring-no_page : (mediator lane other tag at : ℕ) → tag < tag_count → lane_start mediator lane ≤ at → at < list_page mediator lane 0
    → list_page mediator other tag ≤ at → at < list_page mediator other (tag + 1) → ⊥
ring-no_page mediator lane other tag at tag_below low high from to =
    in-order ⊥ lane other (λ less. absurd (omega (arith, less, high, from))) (λ same. absurd (omega (arith, same, high, from)))
    (λ more. absurd (omega (arith, more, low, to, tag_below)))

-- no guest has it
pub no-image : (host_bytes lanes : ℕ) (geometry : Geometry) → IsLaidOut host_bytes lanes geometry → (number : ℕ) (given : Guest)
    → slice_get geometry.guests number ≡ Some given → (at : ℕ) → geometry.mediator ≤ at → at < lane_start geometry.mediator lanes
    → InImage (regions_of given) at → ⊥
no-image host_bytes lanes geometry laid number given found at low high is =
    none (guest_of (regions_of given) at) (laid.outside number given at found low high)
    (guest_of-host (regions_of given) is.0 at (laid.given number given found).sound.apart is.1)
  where
    none : (o : Option ℕ) → o ≡ None → o ≡ Some is.0 → ⊥
    none None is_none is_some = cc
    none (Some addr) is_none is_some = cc

-- ---- where effects store

abbrev pub IsStore : Effect → Type 0
IsStore (Store to bytes) = Unit {0}
IsStore (Copy from to) = ⊥

pub data Where (geometry : Geometry) (s after : Side) (at : ℕ) : Type 0 where
  InTaken : (lane tag : ℕ) (command : Command) (reads : List ReadDone) → tag_at s lane tag ≡ Some (Taken command reads)
      → list_page geometry.mediator lane tag ≤ at → at < bounce_page geometry.mediator lane tag → Where geometry s after at
  InNext : (lane tail behind slot : ℕ) → slice_get s.tails lane ≡ Some tail → slice_get after.tails lane ≡ Some behind → IsBetween tail behind slot
      → submission_slot geometry.mediator lane slot ≤ at → at < submission_slot geometry.mediator lane slot + sqe_size → Where geometry s after at

abbrev pub IsPlaced : (geometry : Geometry) (lanes : ℕ) (s after : Side) → Effect → Type 0
IsPlaced geometry lanes s after e =
    (at : ℕ) → IsFixed geometry.mediator lanes at → writes_to e at ≡ true → IsStore e × Where geometry s after at

-- where a store writes
pub store-written : (to : ℕ) (bytes : List ℕ) (at : ℕ) → writes_to (Store to bytes) at ≡ true → (to ≤ at) × (at < to + length bytes)
store-written to bytes at is = (grind (arith, nat_tests), grind (arith, nat_tests))

pub copy-written : (from to at : ℕ) → writes_to (Copy from to) at ≡ true → at ≡ to
copy-written from to at is = grind (arith, nat_tests)

module _ (bounce : ℕ) where
  -- an effect writes in the tag's bounce pages
  abbrev InPages : ℕ → Type 0
  InPages at = (bounce ≤ at) × (at < bounce + most_bytes)

  form-written : (form : Form) (given : Guest) (work : Work) → length (places_of work.pieces) ≤ most_bytes → length (form_ranges form given work) ≤ most_bytes
      → All (WritesIn InPages) (form_effects form given bounce work)
  form-written (Transfer true) given work few short = All-nil (WritesIn InPages)
  form-written (Transfer false) given work few short =
      All-weaker (WritesIn (λ at. (bounce ≤ at) × (at < bounce + length (places_of work.pieces)))) (WritesIn InPages)
      (λ e within at is. (let there = within at is in let high = there.1 in (there.0, omega (arith, high, few))))
      (copies_from (regions_of given) (places_of work.pieces) bounce) (copies_from-written (regions_of given) (places_of work.pieces) bounce)
  form-written Clear given work few short = All-nil (WritesIn InPages)
  form-written Manage given work few short =
      All-cons (WritesIn InPages) _ [] (λ at is. (let there = store-written bounce (form_ranges Manage given work) at is in
      let high = there.1 in (there.0, omega (arith, high, short)))) (All-nil (WritesIn InPages))
  form-written Keep given work few short = All-nil (WritesIn InPages)

  plan-written : (plan : Plan) (given : Guest) → HasFew plan → length (ranges_of plan given) ≤ most_bytes → All (WritesIn InPages) (bounce_effects plan given bounce)
  plan-written (Answer st) given few short = All-nil (WritesIn InPages)
  plan-written (NoData work) given few short = All-nil (WritesIn InPages)
  plan-written (Direct work) given few short = All-nil (WritesIn InPages)
  plan-written (Bounced work) given few short = form-written (form_of work.opcode) given work few short

module _ (host_bytes lanes : ℕ) (geometry : Geometry) (laid : IsLaidOut host_bytes lanes geometry) (s after : Side) (kept : IsKept geometry s) where
  pub tag-few : (lane tag : ℕ) (t : Tag) → tag_at s lane tag ≡ Some t → tag < tag_count
  tag-few lane tag t there =
      let l = tag-lane (slice_get s.lanes lane) tag t there in
      let below = slice_get-below l.0.tags tag t l.1.1 in
      let many = (kept.lanes lane l.0 l.1.0).tags_are in
      omega (arith, below, many)

  -- what may be stored in a submission ring is in its next slots
  next-there : (number lane at : ℕ) → lane < lanes → lane_start geometry.mediator lane ≤ at → at < list_page geometry.mediator lane 0
      → IsOwnOrNext geometry s after number at → Where geometry s after at
  next-there number lane at below low high (NextSlot other tail behind slot was now between from to) = InNext other tail behind slot was now between from to
  next-there number lane at below low high (Own (OfMemory given found there)) =
      absurd (seen (guest_of (regions_of given) at) (laid.outside number given at found (omega (arith, low)) (omega (arith, below, high))) there)
    where
      seen : (o : Option ℕ) → o ≡ None → is_some o ≡ true → ⊥
      seen None is_none is = cc
      seen (Some addr) is_none is = cc
  next-there number lane at below low high (Own (OfPages other tag t there whose from to)) =
      absurd (ring-no_page geometry.mediator lane other tag at (tag-few other tag t there) low high from to)

  module _ (lane tag slot : ℕ) (given : Guest) (command : Command) (reads : List ReadDone) (share : Share)
      (taken : tag_at s lane tag ≡ Some (Taken command reads)) (in_lanes : lane < lanes) (planned : IsPlanned given command.entry share)
      (slot_below : slot < ring_size) (number : Option ℕ) where
    abbrev list : ℕ
    list = list_page geometry.mediator lane tag

    abbrev bounce : ℕ
    bounce = bounce_page geometry.mediator lane tag

    abbrev Its : Effect → Type 0
    Its e = MayDo geometry s after number e → IsPlaced geometry lanes s after e

    tag_below : tag < tag_count
    tag_below = tag-few lane tag (Taken command reads) taken

    entry-its : (entry : List ℕ) → length entry ≡ sqe_size → Its (Store (submission_slot geometry.mediator lane slot) entry)
    entry-its entry size may at fixed is = (tt, by number may)
      where
        to : ℕ
        to = submission_slot geometry.mediator lane slot

        by : (n : Option ℕ) → MayDo geometry s after n (Store (submission_slot geometry.mediator lane slot) entry) → Where geometry s after at
        by None none = absurd none
        by (Some n) each =
            let there = store-written (submission_slot geometry.mediator lane slot) entry at is in
            let low = there.0 in
            let high = there.1 in
            let same : submission_slot geometry.mediator lane slot + (at - submission_slot geometry.mediator lane slot) ≡ at = omega (arith, low) in
            next-there n lane at in_lanes (omega (arith, low)) (omega (arith, high, size, slot_below))
            (subst (λ (k : ℕ). IsOwnOrNext geometry s after n k) same (each (at - submission_slot geometry.mediator lane slot) (omega (arith, low, high))))

    share-its : All Its (share_effects share given command.entry geometry.mediator lane tag slot)
    share-its =
        let bytes : List ℕ = list_bytes (prps_of share.plan given list bounce) in
        let entry : List ℕ = share_entry share given.namespace given command.entry geometry.mediator lane tag in
        let last : Effect = Store (submission_slot geometry.mediator lane slot) entry in
        let pages = laid.pages in
        let few = list-short given command.entry share list bounce (omega (arith, pages)) planned in
        let short = ranges-short given command.entry share planned in
        let tags = tag_below in
        All-cons Its (Store list bytes) (bounce_effects share.plan given bounce ++ last ∷ [])
        (λ may at fixed is. (let there = store-written list bytes at is in let high = there.1 in
        (tt, InTaken lane tag command reads taken there.0 (omega (arith, high, few)))))
        (All-append Its (bounce_effects share.plan given bounce) (last ∷ [])
        (All-weaker (WritesIn (InPages bounce)) Its
        (λ e within may at fixed is. (let there = within at is in let high = there.1 in
        absurd (fixed-no_bounce geometry.mediator lanes lane tag at tags fixed there.0 (omega (arith, high)))))
        (bounce_effects share.plan given bounce) (plan-written bounce share.plan given (plan-few given command.entry share planned) (omega (arith, short))))
        (All-cons Its last [] (entry-its entry (entry-length share given command.entry geometry.mediator lane tag)) (All-nil Its)))

  -- an effect that comes from where it may, and does what it may
  pub comes-placed : length s.lanes ≡ lanes → (number : Option ℕ) (e : Effect) → Comes geometry s e → MayDo geometry s after number e → IsPlaced geometry lanes s after e
  comes-placed many number e (ToMemory owner given found within) may = λ at fixed is.
      absurd (no-image host_bytes lanes geometry laid owner given found at (fixed-low geometry.mediator lanes at fixed) (fixed-high geometry.mediator lanes at fixed)
      (within at is))
  comes-placed many number e (OfShare lane tag slot given command reads share taken planned below among) may =
      let l = tag-lane (slice_get s.lanes lane) tag (Taken command reads) taken in
      let inside = slice_get-below s.lanes lane l.0 l.1.0 in
      All-contains (Its lane tag slot given command reads share taken (omega (arith, inside, many)) planned below number)
      (share_effects share given command.entry geometry.mediator lane tag slot) e
      (share-its lane tag slot given command reads share taken (omega (arith, inside, many)) planned below number) among may
