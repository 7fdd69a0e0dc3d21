-- What is delivered of a command all of whose tags have ended: behind it the guest's memory has what its private controller has, but for what other
-- commands hide.
use Rattle.std.proofs.Common.{◌≡◌, ℕ, zero, suc, ◌+◌, ◌*◌, ◌<◌, Bool, true, false, cond, not, ◌&&◌, ◌||◌, ◌==◌, List, [], ◌∷◌, All, drop, length, map}
use Rattle.std.proofs.Common.{slice_get, Option, Some, None, arith, refl, sym, ap, ◌∙◌, eq-eqb, eqb-true, subst}
use Rattle.std.specs.List.{list_any}
use Rattle.std.proofs.lemmas.List.Elements.{All-cons, All-head, All-nil, All-tail, All-weaker}
use Rattle.std.proofs.lemmas.List.{length-drop, length-take}
use Rattle.nv_entry.specs.Status.{StatusField}
use Rattle.nv_mem.specs.GuestMap.{IsSound, guest_of, mapped}
use Rattle.nv_mem.specs.Places.{At, Bucket, Place, places_of, total_len}
use Rattle.nv_mem.proofs.PlaceLists.{length-places_of}
use Rattle.nv_model.specs.Dialogue.{asked}
use Rattle.nv_model.specs.Footprint.{ListBytes, named_as, verdict_named}
use Rattle.nv_model.specs.Judge.{Go, Work, is_read, judge}
use Rattle.nv_model.specs.Laws.{IsAnother}
use Rattle.nv_model.specs.Limits.{block}
use Rattle.nv_model.specs.Memory.{bytes_from, image, put_image, scattered}
use Rattle.nv_model.specs.Private.{Private, numbers_of, places_of_block, verdict_in}
use Rattle.nv_model.proofs.Endings.{and-true}
use Rattle.nv_model.proofs.PutImages.{image-put_image, put_image-elsewhere}
use Rattle.nv_model.proofs.UnitsElsewhere.{scattered-elsewhere}
use Rattle.nv_world_model.specs.Area.{bounce_page, tag_count}
use Rattle.nv_world_model.specs.Geometry.{Geometry, Guest, regions_of, shape_of}
use Rattle.nv_world_model.specs.Plan.{Answer, Bounced, Direct, NoData, Plan}
use Rattle.nv_world_model.specs.Share.{Share}
use Rattle.nv_world_model.specs.Seat.{Owner, work_of}
use Rattle.nv_world_model.specs.Step.{deciding, delivered, delivered_all, delivered_by, delivered_from, is_success, scattered_to, statuses_of}
use Rattle.nv_world_model.specs.View.{own_held, own_tag}
use Rattle.nv_world_model.specs.World.{Command, Ended, Lane, World, group, tag_in, tag_of, with_host}
use Rattle.nv_laws_sound.specs.Consistent.{IsPlanned}
use Rattle.nv_laws_sound.proofs.Lists.{slice_get-below, some-same}
use Rattle.nv_laws_sound.proofs.PlanSizes.{own_work}
use Rattle.nv_laws_sound.proofs.Retags.{is-at}
use Rattle.nv_laws_sound.proofs.TagEvents.{IsDelivery, delivered-consistent}
use Rattle.nv_laws.proofs.others.ShownTags.{any-behind}
use Rattle.nv_laws.specs.Following.{IsReached}
use Rattle.nv_laws.specs.Related.{HasBuffer, Related, block_names, ended_hides, form_has_bytes, hides, is_place_at, none_left, plan_hides}
use Rattle.nv_laws.proofs.related.Acts.{image-unmapped, owner_with}
use Rattle.nv_laws.proofs.related.Beginning.{awaits, entry_awaits, verdict-awaits}
use Rattle.nv_laws.proofs.related.Changing.{all-touched, first-touched, touched}
use Rattle.nv_laws.proofs.related.Retold.{by-touched}
use Rattle.nv_laws.proofs.related.Disciplines.{never-both, not-so}
use Rattle.nv_laws.proofs.related.Named.{any-drop, any-one, any-take}
use Rattle.nv_laws.proofs.related.Tags.{tag-below}
use Rattle.nv_laws.proofs.related.Views.{device_of}
use Rattle.nv_laws.proofs.related.Within.{IsPart, planned-fit}
use Rattle.nv_laws.specs.Delivered.{HasPage, delivered_places, plan_delivered}
use Rattle.nv_laws.specs.Places.{HasAt}
use Rattle.nv_laws.proofs.units.Delivery.{transfer-count}
use Rattle.nv_laws.proofs.units.DeliveredAll.{world-delivered}
use Rattle.nv_laws.proofs.units.Has.{has-blocks}
use Rattle.nv_laws.proofs.units.Moving.{read-form}
use Rattle.nv_laws.proofs.units.OwnShares.{IsOwnShare, own-share}
use Rattle.nv_laws.proofs.headline.Over.{HasOver, IsOver, has-over, or-later, over, read-succeeds}

-- ---- places

-- what isn't among places is another than each of them, and the other way round
others-all : (addr : ℕ) (places : List Place) → list_any (is_place_at addr) places ≡ false → All (IsAnother (At addr)) places
others-all addr [] none = All-nil (IsAnother (At addr))
others-all addr (At x ∷ places) none =
    All-cons (IsAnother (At addr)) (At x) places
    (λ same.
    (let is : x ≡ addr = at-same x addr same in
    never-both ((x == addr) || list_any (is_place_at addr) places) (ap (λ b. b || list_any (is_place_at addr) places) (eq-eqb x addr is)) none))
    (others-all addr places (later (x == addr) (list_any (is_place_at addr) places) none))
  where
    at-same : (a b : ℕ) → At a ≡ At b → a ≡ b
    at-same a b e = cc

    later : (b c : Bool) → (b || c) ≡ false → c ≡ false
    later true c e = cc
    later false c e = e
others-all addr (Bucket ∷ places) none = All-cons (IsAnother (At addr)) Bucket places (λ same. bucket same) (others-all addr places none)
  where
    bucket : Bucket ≡ At addr → ⊥
    bucket e = cc

all-others : (addr : ℕ) (places : List Place) → All (IsAnother (At addr)) places → list_any (is_place_at addr) places ≡ false
all-others addr [] each = refl
all-others addr (At x ∷ places) each =
    ap (λ b. b || list_any (is_place_at addr) places)
    (not-so (x == addr) (λ is. All-head (IsAnother (At addr)) (At x) places each (ap At (eqb-true x addr is))))
    ∙ all-others addr places (All-tail (IsAnother (At addr)) (At x) places each)
all-others addr (Bucket ∷ places) each = all-others addr places (All-tail (IsAnother (At addr)) Bucket places each)

-- a memory has at places what stands in a row of bytes, where each byte is the same
has-row : (host memory : ℕ → ℕ) (places : List Place) (from n : ℕ) → length places ≡ n
    → ((i addr : ℕ) → slice_get places i ≡ Some (At addr) → host (from + i) ≡ memory addr) → HasAt memory places (bytes_from host from n)
unfolding bytes_from
has-row host memory [] from zero count each = tt
has-row host memory [] from (suc n) count each = absurd (omega (arith, count))
has-row host memory (place ∷ places) from zero count each = absurd (omega (arith, count))
has-row host memory (At addr ∷ places) from (suc n) count each =
    let here : from ≡ from + 0 = omega arith in (
      sym (ap host here ∙ each 0 addr refl),
      has-row host memory places (suc from) n (omega (arith, count)) (λ i x at. (let next : suc from + i ≡ from + suc i = omega arith in ap host next ∙ each (suc i) x at)),
    )
has-row host memory (Bucket ∷ places) from (suc n) count each =
    has-row host memory places (suc from) n (omega (arith, count)) (λ i x at. (let next : suc from + i ≡ from + suc i = omega arith in ap host next ∙ each (suc i) x at))

has-nothing : (host memory : ℕ → ℕ) (from : ℕ) → HasPage memory host from []
unfolding bytes_from
has-nothing host memory from = tt

-- ---- images

-- a byte that is put back as it was is as it was
pub image-kept : (guest : Guest) (sound : IsSound guest.memory_map) (memory host : ℕ → ℕ) (at : ℕ) → memory at ≡ image (regions_of guest) host at
    → image (regions_of guest) (put_image (regions_of guest) memory host) at ≡ image (regions_of guest) host at
image-kept guest sound memory host at same =
    (elim (mapped (regions_of guest) at) as (λ b. mapped (regions_of guest) at ≡ b
    → image (regions_of guest) (put_image (regions_of guest) memory host) at ≡ image (regions_of guest) host at) [
      | true ↦ λ there. image-put_image (regions_of guest) memory host at sound.apart there ∙ same
      | false ↦ λ out. image-unmapped guest (put_image (regions_of guest) memory host) host at out
    ]) refl

-- ---- tag by tag

-- outside of the guest's memory, and of what the command awaits, all is as it was
record IsSoFar (guest : Guest) (entry : List ℕ) (w z : World) : Type 0 where
  lanes : z.lanes ≡ w.lanes
  bytes : (at : ℕ) → guest_of (regions_of guest) at ≡ None → z.host at ≡ w.host at
  apart : (at : ℕ) → entry_awaits guest w.host at entry ≡ false → image (regions_of guest) z.host at ≡ image (regions_of guest) w.host at

-- what a Read's share is delivered to is awaited
place-awaited : (guest : Guest) (entry : List ℕ) (host : ℕ → ℕ) (at : ℕ) (share : Share) (work : Work) (part : IsPart share work)
    → verdict_in (shape_of guest) (image (regions_of guest) host) entry ≡ Go part.whole → is_read work.opcode ≡ true
    → list_any (is_place_at at) (places_of work.pieces) ≡ true → entry_awaits guest host at entry ≡ true
place-awaited guest entry host at share work part goes read named =
    let mine = image (regions_of guest) host in
    any-behind (awaits at) (map (λ a. named_as ListBytes a.0 a.1) (asked mine (judge (shape_of guest).mapped (shape_of guest).limit (shape_of guest).blocks entry)))
    (verdict_named (verdict_in (shape_of guest) mine entry))
    (verdict-awaits at (verdict_in (shape_of guest) mine entry) part.whole goes (sym (ap is_read part.opcode) ∙ read) (part.within at named))

module _ (guest : Guest) (sound : IsSound guest.memory_map) (entry : List ℕ) (w : World) (o : Owner) (is_given : o.given ≡ guest) where
  scattered-on : (work : Work) (bounce : ℕ) (z : World) → IsSoFar guest entry w z
      → ((at : ℕ) → entry_awaits guest w.host at entry ≡ false → list_any (is_place_at at) (places_of work.pieces) ≡ false)
      → IsSoFar guest entry w (scattered_to bounce work o z)
  unfolding scattered_to
  scattered-on work bounce z so_far free =
      let bytes_in = bytes_from z.host bounce (total_len work.pieces) in
      let now = scattered (image (regions_of guest) z.host) (places_of work.pieces) bytes_in in
      subst (λ (g : Guest). IsSoFar guest entry w (with_host (put_image (regions_of g) (scattered (image (regions_of g) z.host) (places_of work.pieces) bytes_in) z.host) z)) (sym is_given)
      (record {
        lanes = so_far.lanes;
        bytes = (λ at out. put_image-elsewhere (regions_of guest) now z.host at out ∙ so_far.bytes at out);
        apart = (λ at none.
            image-kept guest sound now z.host at
            (scattered-elsewhere (image (regions_of guest) z.host) (places_of work.pieces) bytes_in at (others-all at (places_of work.pieces) (free at none)))
            ∙ so_far.apart at none);
      })

  plan-on : (share : Share) (fit : (work : Work) → work_of share.plan ≡ Some work → IsPart share work)
      → ((work : Work) → work_of share.whole ≡ Some work → verdict_in (shape_of guest) (image (regions_of guest) w.host) entry ≡ Go work)
      → (bounce : ℕ) (z : World) → IsSoFar guest entry w z → (plan : Plan) → share.plan ≡ plan → IsSoFar guest entry w (delivered_by plan bounce o z)
  plan-on share fit steady bounce z so_far (Answer st) is = so_far
  plan-on share fit steady bounce z so_far (NoData work) is = so_far
  plan-on share fit steady bounce z so_far (Direct work) is = so_far
  plan-on share fit steady bounce z so_far (Bounced work) is =
      (elim (is_read work.opcode) as (λ b. is_read work.opcode ≡ b → IsSoFar guest entry w (cond b (scattered_to bounce work o z) z)) [
        | true ↦ λ read.
            let part = fit work (ap work_of is) in
            scattered-on work bounce z so_far
            (λ at none.
            not-so (list_any (is_place_at at) (places_of work.pieces))
            (λ named.
            never-both (entry_awaits guest w.host at entry)
            (place-awaited guest entry w.host at share work part (steady part.whole part.is) read named) none))
        | false ↦ λ other. so_far
      ]) refl

-- ---- pages

-- a tag's pages have what the private controller has where the share's bytes go
page-stands : (guest : Guest) (entry : List ℕ) (share : Share) (planned : IsPlanned guest entry share) (bounce : ℕ) (host memory : ℕ → ℕ)
    → HasBuffer share.plan none_left bounce host memory → HasPage memory host bounce (plan_delivered share.plan)
page-stands guest entry share planned bounce host memory buffer = by share.plan refl buffer
  where
    stands : (work : Work) → share.plan ≡ Bounced work → is_read work.opcode ≡ true → HasBuffer (Bounced work) none_left bounce host memory
        → HasPage memory host bounce (places_of work.pieces)
    stands work is read buffer =
        let mine = own-share guest entry share planned in
        let same = some-same (own_work guest entry share planned) work (sym mine.goes ∙ ap work_of is) in
        let count = transfer-count guest entry share work (subst (IsOwnShare guest entry share) same mine) true (read-form work.opcode read) in
        let all = length-places_of work.pieces in
        subst (λ n. HasAt memory (places_of work.pieces) (bytes_from host bounce n)) (sym (all ∙ count))
        (has-blocks (length work.units) memory host (places_of work.pieces) bounce (all ∙ count)
        (λ index below.
        (let taken = length-take block (drop (block * index) (places_of work.pieces)) in
        let dropped = length-drop (block * index) (places_of work.pieces) in
        has-row host memory (places_of_block work index) (bounce + block * index) block (omega (arith, taken, dropped, all, count, below))
        (buffer index (ap (λ f. form_has_bytes f false) (read-form work.opcode read))))))

    by : (plan : Plan) → share.plan ≡ plan → HasBuffer plan none_left bounce host memory → HasPage memory host bounce (plan_delivered plan)
    by (Answer st) is buffer = has-nothing host memory bounce
    by (NoData work) is buffer = has-nothing host memory bounce
    by (Direct work) is buffer = has-nothing host memory bounce
    by (Bounced work) is buffer =
        (elim (is_read work.opcode) as (λ b. is_read work.opcode ≡ b → HasPage memory host bounce (cond b (places_of work.pieces) [])) [
          | true ↦ λ read. stands work is read buffer
          | false ↦ λ other. has-nothing host memory bounce
        ]) refl

-- what is no place of it isn't hidden
plan-bare : (plan : Plan) (addr : ℕ) → All (IsAnother (At addr)) (plan_delivered plan) → plan_hides plan none_left addr ≡ false
plan-bare (Answer st) addr others = refl
plan-bare (NoData work) addr others = refl
plan-bare (Direct work) addr others = refl
plan-bare (Bounced work) addr others =
    (elim (is_read work.opcode) as (λ b. All (IsAnother (At addr)) (cond b (places_of work.pieces) [])
    → (b && list_any (λ k. not (none_left k) && block_names work k addr) (numbers_of work)) ≡ false) [
      | true ↦ λ each. not-so (list_any (λ k. not (none_left k) && block_names work k addr) (numbers_of work)) (λ some. named each some)
      | false ↦ λ each. refl
    ]) others
  where
    named : All (IsAnother (At addr)) (places_of work.pieces) → list_any (λ k. not (none_left k) && block_names work k addr) (numbers_of work) ≡ true → ⊥
    named each some =
        let one = any-one (λ k. not (none_left k) && block_names work k addr) (numbers_of work) some in
        let here = (and-true (not (none_left one.0)) (block_names work one.0 addr) one.1).1 in
        never-both (list_any (is_place_at addr) (places_of work.pieces))
        (any-drop (is_place_at addr) (block * one.0) (places_of work.pieces) (any-take (is_place_at addr) block (drop (block * one.0) (places_of work.pieces)) here))
        (all-others addr (places_of work.pieces) each)

-- what hides a byte is a Read
record IsReadPlan (plan : Plan) : Type 0 where
  work : Work
  has : work_of plan ≡ Some work
  read : is_read work.opcode ≡ true

hides-read : (plan : Plan) (left : ℕ → Bool) (addr : ℕ) → plan_hides plan left addr ≡ true → IsReadPlan plan
hides-read (Answer st) left addr e = cc
hides-read (NoData work) left addr e = cc
hides-read (Direct work) left addr e = cc
hides-read (Bounced work) left addr e =
    record { work = work; has = refl; read = (and-true (is_read work.opcode) (list_any (λ k. not (left k) && block_names work k addr) (numbers_of work)) e).0 }

-- ---- what is delivered

-- the host behind it: outside of the guest's memory, and of what the command awaits, all is as it was; and the guest's memory has what the private
-- controller has where no other command hides it
pub record IsDelivered (guest : Guest) (entry : List ℕ) (host memory : ℕ → ℕ) (OthersShow : (addr : ℕ) → Type 0) (w v : World) : Type 0 where
  pub behind : ℕ → ℕ
  pub is : v ≡ with_host behind w
  pub bytes : (at : ℕ) → guest_of (regions_of guest) at ≡ None → behind at ≡ host at
  pub apart : (at : ℕ) → entry_awaits guest host at entry ≡ false → image (regions_of guest) behind at ≡ image (regions_of guest) host at
  pub agrees : (addr : ℕ) → mapped (regions_of guest) addr ≡ true → OthersShow addr → memory addr ≡ image (regions_of guest) behind addr

touched-each : (ns : List ℕ) → All (λ b. touched ns b ≡ true) ns
touched-each [] = All-nil (λ b. touched [] b ≡ true)
touched-each (n ∷ ns) =
    All-cons (λ b. touched (n ∷ ns) b ≡ true) n ns (first-touched n ns)
    (All-weaker (λ b. touched ns b ≡ true) (λ b. touched (n ∷ ns) b ≡ true) (λ b is. or-later (n == b) (touched ns b) is) ns (touched-each ns))

module _ (host_bytes : ℕ) (geometry : Geometry) (number : ℕ) (guest : Guest) (given : slice_get geometry.guests number ≡ Some guest)
    (w : World) (reached : IsReached host_bytes geometry w) (p : Private) (related : Related geometry number guest w p) (lane tag : ℕ)
    (command : Command) (st : StatusField) (share : Option Share) (there : tag_of w lane tag ≡ Some (Ended command st share))
    (leads : (command.leader == tag) ≡ true) (own : (command.guest == number) ≡ true) (sts : List StatusField)
    (are : statuses_of lane (group w lane tag) w ≡ Some sts) where
  abbrev ns : List ℕ
  ns = group w lane tag

  abbrev me : Owner
  me = owner_with number guest p.controller

  abbrev Over : (b : ℕ) → Type 0
  Over b = IsOver host_bytes geometry number guest given w reached p related lane tag command st share there leads own sts are b

  abbrev HasShare : (b : ℕ) (x : Share) → Type 0
  HasShare b x = HasOver host_bytes geometry number guest given w reached p related lane tag command st share there leads own sts are b x

  abbrev hides_at : (a b addr : ℕ) → Bool
  hides_at a b addr = hides (own_tag number (tag_of w a b)) (own_held number (tag_of w a b) (device_of w a b)) addr

  -- no other command hides a byte
  abbrev pub OthersShow : (addr : ℕ) → Type 0
  OthersShow addr = (a b : ℕ) → ((a ≡ lane) → touched ns b ≡ true → ⊥) → hides_at a b addr ≡ false

  over-at : (b : ℕ) → touched ns b ≡ true → Over b
  over-at b among = over host_bytes geometry number guest given w reached p related lane tag command st share there leads own sts are b among

  has-share : (b : ℕ) (one : Over b) (x : Share) → one.share ≡ Some x → HasShare b x
  has-share b one x is = has-over host_bytes geometry number guest given w reached p related lane tag command st share there leads own sts are b one x is

  -- a tag of the command that hides nothing
  own-bare : (b addr : ℕ) (one : Over b) → ended_hides one.share addr ≡ false → hides_at lane b addr ≡ false
  own-bare b addr one none =
      let held = own_held number (tag_of w lane b) (device_of w lane b) in
      ap (λ o. hides (own_tag number o) held addr) one.is
      ∙ ap (λ c. hides (cond c (Some (Ended command one.st one.share)) None) held addr) own ∙ none

  -- where none does, the memory is the same
  same-at : (addr : ℕ) → mapped (regions_of guest) addr ≡ true → OthersShow addr
      → ((b : ℕ) → touched ns b ≡ true → (one : Over b) → ended_hides one.share addr ≡ false)
      → p.memory addr ≡ image (regions_of guest) w.host addr
  same-at addr inside others bare =
      related.memory addr inside
      (by-touched lane (touched ns) (λ a b. hides_at a b addr ≡ false) (λ b among. own-bare b addr (over-at b among) (bare b among (over-at b among)))
      (λ a b away. others a b away))

  -- ---- nothing is

  -- a command that has not succeeded is no Read
  failed-bare : is_success (deciding sts) ≡ false → (b : ℕ) → touched ns b ≡ true → (one : Over b) (addr : ℕ) → ended_hides one.share addr ≡ false
  failed-bare fails b among one addr =
      (elim one.share as (λ o. one.share ≡ o → ended_hides o addr ≡ false) [
        | None ↦ λ is. refl
        | Some x ↦ λ is. not-so (plan_hides x.plan none_left addr) (λ e. by x is (hides-read x.plan none_left addr e))
      ]) refl
    where
      by : (x : Share) → one.share ≡ Some x → IsReadPlan x.plan → ⊥
      by x is r =
          never-both (is_success (deciding sts))
          (read-succeeds host_bytes geometry number guest given w reached p related lane tag command st share there leads own sts are b x (has-share b one x is) r.work r.has r.read)
          fails

  undelivered : is_success (deciding sts) ≡ false → IsDelivered guest command.entry w.host p.memory OthersShow w w
  undelivered fails =
      record {
        behind = w.host;
        is = refl;
        bytes = (λ at out. refl);
        apart = (λ at free. refl);
        agrees = (λ addr inside others. same-at addr inside others (λ b among one. failed-bare fails b among one addr));
      }

  -- ---- all is

  abbrev bounce_of : (b : ℕ) → ℕ
  bounce_of b = bounce_page geometry.mediator lane b

  abbrev SoFar : World → Type 0
  SoFar z = IsSoFar guest command.entry w z

  sound : IsSound guest.memory_map
  sound = (reached.laid.given number guest given).sound

  share-on : (b : ℕ) (one : Over b) (z : World) (o : Option Share) → one.share ≡ o → SoFar z
      → SoFar (delivered_from (Some (Ended command one.st o)) (bounce_of b) me z)
  share-on b one z None is so_far = so_far
  share-on b one z (Some x) is so_far =
      let has = has-share b one x is in
      plan-on guest sound command.entry w me refl x (planned-fit guest command.entry x has.planned) has.well.0.steady (bounce_of b) z so_far x.plan refl

  tag-on : (b : ℕ) (one : Over b) (z : World) → SoFar z → SoFar (delivered_from (tag_of z lane b) (bounce_of b) me z)
  tag-on b one z so_far =
      let same : tag_of z lane b ≡ Some (Ended command one.st one.share) =
      ap (λ (ls : List Lane). tag_in (slice_get ls lane) b) so_far.lanes ∙ one.is in
      subst (λ t. SoFar (delivered_from t (bounce_of b) me z)) (sym same) (share-on b one z one.share refl so_far)

  all-on : (tags : List ℕ) (z : World) → All (λ b. touched ns b ≡ true) tags → SoFar z → SoFar (delivered_all geometry.mediator lane tags me z)
  unfolding delivered_all
  all-on [] z each so_far = so_far
  all-on (b ∷ tags) z each so_far =
      all-on tags (delivered_from (tag_of z lane b) (bounce_of b) me z) (All-tail (λ n. touched ns n ≡ true) b tags each)
      (tag-on b (over-at b (All-head (λ n. touched ns n ≡ true) b tags each)) z so_far)

  abbrev PageIs : (b : ℕ) → Type 0
  PageIs b = HasPage p.memory w.host (bounce_of b) (delivered_places (tag_of w lane b))

  page-is : (b : ℕ) → touched ns b ≡ true → PageIs b
  page-is b among =
      let one = over-at b among in
      subst (λ t. HasPage p.memory w.host (bounce_of b) (delivered_places t)) (sym one.is) (by one one.share refl)
    where
      by : (one : Over b) (o : Option Share) → one.share ≡ o → HasPage p.memory w.host (bounce_of b) (delivered_places (Some (Ended command one.st o)))
      by one None is = has-nothing w.host p.memory (bounce_of b)
      by one (Some x) is =
          let has = has-share b one x is in
          page-stands guest command.entry x has.planned (bounce_of b) w.host p.memory has.well.0.buffer

  -- what none of the tags delivers none hides
  places-bare : (addr : ℕ) → All (λ b. All (IsAnother (At addr)) (delivered_places (tag_of w lane b))) ns → (b : ℕ) → touched ns b ≡ true
      → (one : Over b) → ended_hides one.share addr ≡ false
  places-bare addr others b among one =
      by one.share
      (subst (λ t. All (IsAnother (At addr)) (delivered_places t)) one.is
      (all-touched (λ n. All (IsAnother (At addr)) (delivered_places (tag_of w lane n))) ns b others among))
    where
      by : (o : Option Share) → All (IsAnother (At addr)) (delivered_places (Some (Ended command one.st o))) → ended_hides o addr ≡ false
      by None each = refl
      by (Some x) each = plan-bare x.plan addr each

  below-of : (b : ℕ) → touched ns b ≡ true → b < tag_count
  below-of b among =
      let one = over-at b among in
      tag-below host_bytes geometry number guest given w reached p related lane b (Ended command one.st one.share) one.is

  lane-below : lane < length w.lanes
  lane-below =
      let a = is-at geometry w lane tag (Ended command st share) reached.consistent.of_tags there in
      slice_get-below w.lanes lane a.l a.at_lane

  abbrev after : World
  after = delivered_all geometry.mediator lane ns me w

  delivered-same : (addr : ℕ) → mapped (regions_of guest) addr ≡ true → OthersShow addr → image (regions_of guest) after.host addr ≡ p.memory addr
  delivered-same addr inside others =
      world-delivered host_bytes geometry w reached.laid reached.consistent lane lane-below me given p.memory ns
      (All-weaker (λ b. touched ns b ≡ true) (λ b. b < tag_count) below-of ns (touched-each ns))
      (All-weaker (λ b. touched ns b ≡ true) PageIs page-is ns (touched-each ns)) addr inside
      (λ elsewhere. sym (same-at addr inside others (places-bare addr elsewhere)))

  all-delivered : (d : IsDelivery host_bytes geometry w after) → IsDelivered guest command.entry w.host p.memory OthersShow w after
  all-delivered d =
      let so_far = all-on ns w (touched-each ns) (record { lanes = refl; bytes = (λ at out. refl); apart = (λ at free. refl) }) in
      let same : after.host ≡ d.host = ap (λ (z : World). z.host) d.is in
      record {
        behind = d.host;
        is = d.is;
        bytes = (λ at out. sym (ap (λ h. h at) same) ∙ so_far.bytes at out);
        apart = (λ at free. sym (ap (λ h. image (regions_of guest) h at) same) ∙ so_far.apart at free);
        agrees = (λ addr inside others. sym (delivered-same addr inside others) ∙ ap (λ h. image (regions_of guest) h addr) same);
      }

  -- ---- by the status that decides

  pub delivers : IsDelivered guest command.entry w.host p.memory OthersShow w (delivered (deciding sts) geometry.mediator lane ns me w)
  delivers =
      (elim (is_success (deciding sts)) as (λ b. is_success (deciding sts) ≡ b → IsDelivery host_bytes geometry w (cond b after w)
      → IsDelivered guest command.entry w.host p.memory OthersShow w (cond b after w)) [
        | true ↦ λ good d. all-delivered d
        | false ↦ λ fails d. undelivered fails
      ]) refl (delivered-consistent host_bytes geometry (deciding sts) lane ns me w reached.laid given reached.consistent.of_tags)
