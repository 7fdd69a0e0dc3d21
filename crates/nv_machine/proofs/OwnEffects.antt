-- Effects in the owner's memory, and in the pages of its tags, are ones that a call may have.
use Rattle.std.proofs.Common.{◌≡◌, ℕ, ◌+◌, ◌<◌, ◌≤◌, true, false, nat_le, nat_lt, List, [], ◌∷◌, flat_map, length, slice_get, All}
use Rattle.std.proofs.Common.{Option, Some, None, arith, eq-eqb, refl, le-leb, lt-ltb}
use Rattle.std.specs.Bool.{⊤}
use Rattle.std.proofs.lemmas.Bool.Decides.{nat_tests}
use Rattle.std.proofs.lemmas.List.Elements.{All-append, All-cons, All-head, All-nil, All-tail, All-weaker}
use Rattle.nv_entry.specs.Status.{StatusField}
use Rattle.nv_laws_sound.specs.Area.{form_ranges, ranges_of}
use Rattle.nv_laws_sound.specs.Side.{Side}
use Rattle.nv_machine.specs.Contained.{IsOwn, MayDo, OfMemory, OfPages, Own}
use Rattle.nv_machine.specs.Doing.{tag_at}
use Rattle.nv_machine.specs.Effects.{Copy, Effect, ReadsIn, Store, WritesIn, completion_stores, copies_from, copies_to, stores, writes_to}
use Rattle.nv_machine.specs.Machine.{bounce_effects, delivered_by, delivered_from, delivery, form_effects}
use Rattle.nv_machine.proofs.ContainedFetch.{AreSound, image-is}
use Rattle.nv_machine.proofs.OwnPages.{HasFew}
use Rattle.nv_machine.proofs.OwnTags.{IsGuestsTag}
use Rattle.nv_machine.proofs.Posted.{IsPlaced}
use Rattle.nv_machine.proofs.Writes.{completion_stores-read, completion_stores-written, copies_from-read, copies_from-written, copies_to-read, copies_to-written}
use Rattle.nv_machine.proofs.Writes.{stores-read, stores-written}
use Rattle.nv_mem.specs.MapRuns.{InImage}
use Rattle.nv_mem.specs.Places.{Place, places_of}
use Rattle.nv_model.specs.Controller.{Posted}
use Rattle.nv_model.specs.Judge.{Clear, Form, Keep, Manage, Transfer, Work, form_of, is_read}
use Rattle.nv_model.specs.Limits.{most_bytes, page}
use Rattle.nv_model.proofs.QueuesKept.{by_test}
use Rattle.nv_world_model.specs.Area.{bounce_page, list_page, translated_range}
use Rattle.nv_world_model.specs.Geometry.{Geometry, Guest, regions_of}
use Rattle.nv_world_model.specs.Plan.{Answer, Bounced, Direct, NoData, Plan}
use Rattle.nv_world_model.specs.Step as step
use Rattle.nv_world_model.specs.World.{Ended, Flying, Free, Tag, Taken}

-- the share of a tag that has ended
abbrev pub HasFewOf : Option Tag → Type 0
HasFewOf (Some (Ended command st (Some share))) = HasFew share.plan
HasFewOf _ = ⊤

-- what is written and read in a part
abbrev pub Within : (part : ℕ → Type 0) → Effect → Type 0
Within part e = WritesIn part e × ReadsIn part e

pub within-all : (part : ℕ → Type 0) (es : List Effect) → All (WritesIn part) es → All (ReadsIn part) es → All (Within part) es
within-all part es writes reads = λ k d below. (writes k d below, reads k d below)

-- a store writes at each of its addresses
store-writes : (to : ℕ) (bytes : List ℕ) (i : ℕ) → i < length bytes → writes_to (Store to bytes) (to + i) ≡ true
store-writes to bytes i below =
    let low : nat_le to (to + i) ≡ true = le-leb to (to + i) (omega arith) in
    let high : nat_lt (to + i) (to + length bytes) ≡ true = lt-ltb (to + i) (to + length bytes) (omega (arith, below)) in
    rw (low, high) refl

copy-writes : (from to : ℕ) → writes_to (Copy from to) to ≡ true
copy-writes from to =
    let low : nat_le to to ≡ true = le-leb to to (omega arith) in
    let high : nat_lt to (to + 1) ≡ true = lt-ltb to (to + 1) (omega arith) in
    rw (low, high) refl

-- a store of bytes within a part
pub store-within : (part : ℕ → Type 0) (to : ℕ) (bytes : List ℕ) → ((at : ℕ) → to ≤ at → at < to + length bytes → part at) → Within part (Store to bytes)
store-within part to bytes each = (
  λ at is.
      let low : to ≤ at = grind (arith, nat_tests) in
      let high : at < to + length bytes = grind (arith, nat_tests) in each at low high,
  λ at is. cc,
)

module _ (geometry : Geometry) (s after : Side) (number : ℕ) where
  -- effects in what is the owner's
  abbrev Mine : ℕ → Type 0
  Mine at = IsOwn geometry s number at

  pub mine-may : (e : Effect) → Within Mine e → MayDo geometry s after (Some number) e
  mine-may (Store to bytes) within = λ i below. Own (within.0 (to + i) (store-writes to bytes i below))
  mine-may (Copy from to) within = (within.1 from (eq-eqb from from refl), within.0 to (copy-writes from to))

  pub all-may : (es : List Effect) → All (Within Mine) es → All (MayDo geometry s after (Some number)) es
  all-may es each = All-weaker (Within Mine) (MayDo geometry s after (Some number)) mine-may es each

module _ (geometry : Geometry) (sound : AreSound geometry) (s : Side) (number : ℕ) (given : Guest) (found : slice_get geometry.guests number ≡ Some given) where
  abbrev Its : ℕ → Type 0
  Its at = IsOwn geometry s number at

  memory-own : (at : ℕ) → InImage (regions_of given) at → Its at
  memory-own at is = OfMemory given found (image-is given at (sound number given found) is)

  memory-writes : (es : List Effect) → All (WritesIn (InImage (regions_of given))) es → All (WritesIn Its) es
  memory-writes es each =
      All-weaker (WritesIn (InImage (regions_of given))) (WritesIn Its) (λ e within at is. memory-own at (within at is)) es each

  memory-reads : (es : List Effect) → All (ReadsIn (InImage (regions_of given))) es → All (ReadsIn Its) es
  memory-reads es each =
      All-weaker (ReadsIn (InImage (regions_of given))) (ReadsIn Its) (λ e within at is. memory-own at (within at is)) es each

  -- stores in its memory, and a completion there
  pub stores-within : (places : List Place) (bytes : List ℕ) → All (Within Its) (stores (regions_of given) places bytes)
  stores-within places bytes =
      within-all Its (stores (regions_of given) places bytes)
      (memory-writes (stores (regions_of given) places bytes) (stores-written (regions_of given) places bytes)) (stores-read Its (regions_of given) places bytes)

  pub completion-within : (p : Posted) → IsPlaced given (Some p) → All (Within Its) (completion_stores (regions_of given) p.addr p.entry)
  completion-within p placed =
      within-all Its (completion_stores (regions_of given) p.addr p.entry)
      (memory-writes (completion_stores (regions_of given) p.addr p.entry)
      (completion_stores-written given.memory_map p.addr p.entry (sound number given found) placed.0 placed.1 placed.2))
      (completion_stores-read Its (regions_of given) p.addr p.entry)

  -- ---- the pages of a tag

  module _ (lane tag : ℕ) (mine : IsGuestsTag number lane s tag) where
    abbrev list : ℕ
    list = list_page geometry.mediator lane tag

    abbrev bounce : ℕ
    bounce = bounce_page geometry.mediator lane tag

    pub pages-own : (at : ℕ) → list ≤ at → at < list_page geometry.mediator lane (tag + 1) → Its at
    pages-own at low high = OfPages lane tag mine.t mine.there mine.whose low high

    bounce-own : (len at : ℕ) → len ≤ most_bytes → bounce ≤ at → at < bounce + len → Its at
    bounce-own len at few low high = pages-own at (omega (arith, low)) (omega (arith, few, high))

    pub list-within : (bytes : List ℕ) → length bytes ≤ 256 → Within Its (Store list bytes)
    list-within bytes few = store-within Its list bytes (λ at low high. pages-own at low (omega (arith, few, high)))

    -- bytes that are copied from them, and to them
    copied-within : (places : List Place) → length places ≤ most_bytes → All (Within Its) (copies_to (regions_of given) bounce places)
    copied-within places few =
        within-all Its (copies_to (regions_of given) bounce places)
        (memory-writes (copies_to (regions_of given) bounce places) (copies_to-written (regions_of given) bounce places))
        (All-weaker (ReadsIn (λ (at : ℕ). (bounce ≤ at) × (at < bounce + length places))) (ReadsIn Its)
        (λ e within at is. (let there = within at is in bounce-own (length places) at few there.0 there.1))
        (copies_to (regions_of given) bounce places) (copies_to-read (regions_of given) bounce places))

    gathered-within : (places : List Place) → length places ≤ most_bytes → All (Within Its) (copies_from (regions_of given) places bounce)
    gathered-within places few =
        within-all Its (copies_from (regions_of given) places bounce)
        (All-weaker (WritesIn (λ (at : ℕ). (bounce ≤ at) × (at < bounce + length places))) (WritesIn Its)
        (λ e within at is. (let there = within at is in bounce-own (length places) at few there.0 there.1))
        (copies_from (regions_of given) places bounce) (copies_from-written (regions_of given) places bounce))
        (memory-reads (copies_from (regions_of given) places bounce) (copies_from-read (regions_of given) places bounce))

    -- what goes there of a share
    form-within : (form : Form) (work : Work) → length (places_of work.pieces) ≤ most_bytes → length (form_ranges form given work) ≤ page
        → All (Within Its) (form_effects form given bounce work)
    form-within (Transfer true) work few short = All-nil (Within Its)
    form-within (Transfer false) work few short = gathered-within (places_of work.pieces) few
    form-within Clear work few short = All-nil (Within Its)
    form-within Manage work few short =
        let bytes : List ℕ = flat_map (translated_range given.namespace) work.ranges in
        All-cons (Within Its) (Store bounce bytes) []
        (store-within Its bounce bytes (λ at low high. bounce-own (length bytes) at (omega (arith, short)) low high)) (All-nil (Within Its))
    form-within Keep work few short = All-nil (Within Its)

    pub bounce-within : (plan : Plan) → HasFew plan → length (ranges_of plan given) ≤ page → All (Within Its) (bounce_effects plan given bounce)
    bounce-within (Answer st) few short = All-nil (Within Its)
    bounce-within (NoData work) few short = All-nil (Within Its)
    bounce-within (Direct work) few short = All-nil (Within Its)
    bounce-within (Bounced work) few short = form-within (form_of work.opcode) work few short

    -- and what is delivered of it
    plan-within : (plan : Plan) → HasFew plan → All (Within Its) (delivered_by plan bounce given)
    plan-within (Answer st) few = All-nil (Within Its)
    plan-within (NoData work) few = All-nil (Within Its)
    plan-within (Direct work) few = All-nil (Within Its)
    plan-within (Bounced work) few =
        by_test (All (Within Its)) (is_read work.opcode) (copies_to (regions_of given) bounce (places_of work.pieces)) []
        (λ reads. copied-within (places_of work.pieces) few) (λ no. All-nil (Within Its))

    pub tag-within : (t : Option Tag) → HasFewOf t → All (Within Its) (delivered_from t bounce given)
    tag-within None few = All-nil (Within Its)
    tag-within (Some Free) few = All-nil (Within Its)
    tag-within (Some (Taken command reads)) few = All-nil (Within Its)
    tag-within (Some (Flying command share standing)) few = All-nil (Within Its)
    tag-within (Some (Ended command st None)) few = All-nil (Within Its)
    tag-within (Some (Ended command st (Some share))) few = plan-within share.plan few

  -- ---- what is delivered of a command

  module _ (lane : ℕ) (fine : (tag : ℕ) (t : Option Tag) → tag_at s lane tag ≡ t → IsGuestsTag number lane s tag → HasFewOf t) where
    tags-within : (tags : List ℕ) → All (IsGuestsTag number lane s) tags
        → All (Within Its) (flat_map (λ tag. delivered_from (tag_at s lane tag) (bounce_page geometry.mediator lane tag) given) tags)
    tags-within [] mine = All-nil (Within Its)
    tags-within (tag ∷ tags) mine =
        let first = All-head (IsGuestsTag number lane s) tag tags mine in
        All-append (Within Its) (delivered_from (tag_at s lane tag) (bounce_page geometry.mediator lane tag) given)
        (flat_map (λ tag. delivered_from (tag_at s lane tag) (bounce_page geometry.mediator lane tag) given) tags)
        (tag-within lane tag first (tag_at s lane tag) (fine tag (tag_at s lane tag) refl first))
        (tags-within tags (All-tail (IsGuestsTag number lane s) tag tags mine))

    pub delivery-within : (st : StatusField) (tags : List ℕ) → All (IsGuestsTag number lane s) tags
        → All (Within Its) (delivery st geometry.mediator lane tags given s)
    delivery-within st tags mine =
        by_test (All (Within Its)) (step.is_success st)
        (flat_map (λ tag. delivered_from (tag_at s lane tag) (bounce_page geometry.mediator lane tag) given) tags) []
        (λ good. tags-within tags mine) (λ bad. All-nil (Within Its))
