-- Where a command's shares are handed on one after the other, each finds its source in its pages.
use Rattle.std.proofs.Common.{◌≡◌, ℕ, zero, suc, ◌+◌, ◌<◌, ◌≤◌, ◌⊎◌, inl, inr, Bool, true, false, cond, List, []}
use Rattle.std.proofs.Common.{◌∷◌, All, slice_get, Some, None}
use Rattle.std.proofs.Common.{arith, refl, sym, ap, ◌∙◌, subst}
use Rattle.std.specs.Prelude.{◌≢◌}
use Rattle.std.specs.List.{AllPairs}
use Rattle.std.proofs.lemmas.Bool.{cases_eq, cases_lt}
use Rattle.std.proofs.lemmas.List.Elements.{All-head, All-tail}
use Rattle.nv_entry.specs.StatusCode.{done_with}
use Rattle.nv_entry.specs.declared.status_code.StatusCode.TheVariants.{Success}
use Rattle.nv_mem.specs.GuestMap.{host_of}
use Rattle.nv_mem.specs.Places.{places_of, total_len}
use Rattle.nv_mem.proofs.Images.{AllPairs-head, AllPairs-tail, guest_of-host}
use Rattle.nv_model.specs.Judge.{Transfer, Work, form_of}
use Rattle.nv_model.specs.Limits.{most_bytes}
use Rattle.nv_model.specs.Memory.{bytes_from, gathered, image}
use Rattle.nv_world_model.specs.Area.{bounce_page, lane_start, list_page, ring_size, submission_slot, tag_count}
use Rattle.nv_world_model.specs.Device.{DeviceLane, rung}
use Rattle.nv_world_model.specs.Geometry.{Geometry, regions_of}
use Rattle.nv_world_model.specs.Plan.{Bounced}
use Rattle.nv_world_model.specs.Share.{Share}
use Rattle.nv_world_model.proofs.Seats.{slice_get-set}
use Rattle.nv_world_model.specs.ShareArea.{is_no_command, is_no_plan, is_no_work, share_written}
use Rattle.nv_world_model.specs.Seat.{Owner, work_of}
use Rattle.nv_world_model.specs.Step.{carried_out, handed_on, submitted, submitted_on}
use Rattle.nv_world_model.specs.World.{Command, Ended, World, changed_at, with_tag}
use Rattle.nv_laws_sound.specs.Area.{SameBetween}
use Rattle.nv_laws_sound.specs.Consistent.{IsPlanned}
use Rattle.nv_laws_sound.specs.LaidOut.{IsLaidOut}
use Rattle.nv_laws_sound.proofs.Lists.{some-same}
use Rattle.nv_laws_sound.proofs.PlanSizes.{own-few, own_work}
use Rattle.nv_laws_sound.proofs.Rings.{next-below}
use Rattle.nv_laws_sound.proofs.Shows.{bytes_from-between, same-then}
use Rattle.nv_laws_sound.proofs.SubmitEvents.{entered-same}
use Rattle.nv_laws.proofs.units.Lies.{image-same}
use Rattle.nv_laws.proofs.units.OwnShares.{IsOwnShare, own-share}
use Rattle.nv_laws.proofs.units.Submitted.{source-written}

-- a share of a source is a physical command
source-some : (share : Share) (work : Work) → share.plan ≡ Bounced work → form_of work.opcode ≡ Transfer false → is_no_command share ≡ false
source-some share work bounced form = ap is_no_plan bounced ∙ ap (λ f. is_no_work f work) form

module _ (host_bytes lanes : ℕ) (geometry : Geometry) (laid : IsLaidOut host_bytes lanes geometry) (lane : ℕ) (lane_below : lane < lanes) (command : Command) (o : Owner)
    (given : slice_get geometry.guests o.number ≡ Some o.given) where
  -- ---- one share

  -- behind it the guest's memory is as it was, as are other tags' pages, and its source stands in its own
  record IsCarried (z y : World) (tag : ℕ) (share : Share) : Type 0 where
    pub d : DeviceLane
    pub device : slice_get y.device lane ≡ Some d
    pub tail : d.tail < ring_size
    pub own : image (regions_of o.given) y.host ≡ image (regions_of o.given) z.host
    pub pages : (other : ℕ) → other < tag_count → other ≢ tag
        → SameBetween z.host y.host (list_page geometry.mediator lane other) (list_page geometry.mediator lane (other + 1))
    pub source : (work : Work) → share.plan ≡ Bounced work → form_of work.opcode ≡ Transfer false
        → bytes_from y.host (bounce_page geometry.mediator lane tag) (total_len work.pieces)
        ≡ gathered (image (regions_of o.given) z.host) (places_of work.pieces)

  module _ (tag : ℕ) (tag_below : tag < tag_count) (share : Share) (planned : IsPlanned o.given command.entry share) (z : World) (d : DeviceLane)
      (device : slice_get z.device lane ≡ Some d) (tail : d.tail < ring_size) where
    abbrev host : ℕ → ℕ
    host = share_written share o.given command.entry geometry.mediator lane tag d.tail z.host

    written-same : (from to : ℕ) → (to ≤ submission_slot geometry.mediator lane d.tail) ⊎ (submission_slot geometry.mediator lane (d.tail + 1) ≤ from)
        → (to ≤ list_page geometry.mediator lane tag) ⊎ (list_page geometry.mediator lane (tag + 1) ≤ from) → SameBetween z.host host from to
    unfolding share_written
    written-same = entered-same host_bytes lanes geometry laid o.given command.entry share planned lane tag d.tail tag_below tail z.host

    written-own : (addr at : ℕ) → host_of (regions_of o.given) addr ≡ Some at → host at ≡ z.host at
    written-own addr at lies = by_place (cases_lt at geometry.mediator) (cases_lt at (lane_start geometry.mediator lanes))
      where
        by_place : (at < geometry.mediator) ⊎ (geometry.mediator ≤ at) → (at < lane_start geometry.mediator lanes) ⊎ (lane_start geometry.mediator lanes ≤ at)
            → host at ≡ z.host at
        by_place (inl before) any =
            sym (written-same at (at + 1) (inl (omega (arith, before))) (inl (omega (arith, before))) at (omega arith) (omega arith))
        by_place (inr most) (inr behind) =
            sym (written-same at (at + 1) (inr (omega (arith, behind, lane_below, tail))) (inr (omega (arith, behind, lane_below, tag_below))) at (omega arith) (omega arith))
        by_place (inr most) (inl under) =
            (let there = guest_of-host (regions_of o.given) addr at (laid.given o.number o.given given).sound.apart lies in
            let outside = laid.outside o.number o.given at given most under in
            let both : Some addr ≡ None = sym there ∙ outside in cc)

    written-pages : (other : ℕ) → other < tag_count → other ≢ tag
        → SameBetween z.host host (list_page geometry.mediator lane other) (list_page geometry.mediator lane (other + 1))
    written-pages other below differ =
        written-same (list_page geometry.mediator lane other) (list_page geometry.mediator lane (other + 1)) (inr (omega (arith, tail)))
        (off (cases_lt other tag) (cases_eq other tag))
      where
        off : (other < tag) ⊎ (tag ≤ other) → (other ≡ tag) ⊎ (other ≡ tag → ⊥)
            → (list_page geometry.mediator lane (other + 1) ≤ list_page geometry.mediator lane tag)
            ⊎ (list_page geometry.mediator lane (tag + 1) ≤ list_page geometry.mediator lane other)
        off (inl less) any = inl (omega (arith, less))
        off (inr most) (inl same) = absurd (differ same)
        off (inr most) (inr apart) = inr (omega (arith, most, apart))

    written-source : (work : Work) → share.plan ≡ Bounced work → form_of work.opcode ≡ Transfer false
        → bytes_from host (bounce_page geometry.mediator lane tag) (total_len work.pieces) ≡ gathered (image (regions_of o.given) z.host) (places_of work.pieces)
    written-source work bounced form =
        let own = own-share o.given command.entry share planned in
        let same = some-same (own_work o.given command.entry share planned) work (sym own.goes ∙ ap work_of bounced) in
        source-written geometry o.given command.entry share work (subst (IsOwnShare o.given command.entry share) same own) lane tag d.tail z.host tail bounced form

    carried-on : IsCarried z (submitted geometry.mediator lane tag command share o d z) tag share
    unfolding submitted
    carried-on =
        record {
          d = rung d;
          device = ap (λ x. slice_get (changed_at x lane rung z.device) lane) device ∙ slice_get-set z.device lane d (rung d) device;
          tail = next-below d.tail tail;
          own = image-same (regions_of o.given) z.host host written-own;
          pages = written-pages;
          source = written-source;
        }

    carried : IsCarried z (carried_out geometry.mediator lane tag command share o z) tag share
    carried = by (is_no_command share) refl
      where
        by : (b : Bool) → is_no_command share ≡ b
            → IsCarried z (cond b (with_tag lane tag (Ended command (done_with Success) (Some share)) z)
            (submitted_on (slice_get z.device lane) geometry.mediator lane tag command share o z)) tag share
        by true none =
            record {
              d = d;
              device = device;
              tail = tail;
              own = refl;
              pages = (λ other below differ at low high. refl);
              source = (λ work bounced form. (let both : true ≡ false = sym none ∙ source-some share work bounced form in cc));
            }
        by false some =
            subst (λ x. IsCarried z (submitted_on x geometry.mediator lane tag command share o z) tag share) (sym device) carried-on

  -- ---- all shares

  abbrev behind : (tags : List ℕ) → List Share → World → World
  behind tags shares z = handed_on geometry.mediator lane tags shares command o z

  pub handed-own : (tags : List ℕ) (shares : List Share) (z : World) (d : DeviceLane) → slice_get z.device lane ≡ Some d → d.tail < ring_size
      → All (λ tag. tag < tag_count) tags → All (IsPlanned o.given command.entry) shares
      → image (regions_of o.given) (behind tags shares z).host ≡ image (regions_of o.given) z.host
  unfolding handed_on
  handed-own [] shares z d device tail below planned = refl
  handed-own (tag ∷ tags) [] z d device tail below planned = refl
  handed-own (tag ∷ tags) (share ∷ shares) z d device tail below planned =
      let first = carried tag (All-head (λ x. x < tag_count) tag tags below) share (All-head (IsPlanned o.given command.entry) share shares planned) z d device tail in
      handed-own tags shares (carried_out geometry.mediator lane tag command share o z) first.d first.device first.tail (All-tail (λ x. x < tag_count) tag tags below)
      (All-tail (IsPlanned o.given command.entry) share shares planned)
      ∙ first.own

  handed-pages : (tags : List ℕ) (shares : List Share) (z : World) (d : DeviceLane) → slice_get z.device lane ≡ Some d → d.tail < ring_size
      → All (λ tag. tag < tag_count) tags → All (IsPlanned o.given command.entry) shares
      → (other : ℕ) → other < tag_count → All (λ tag. other ≢ tag) tags
      → SameBetween z.host (behind tags shares z).host (list_page geometry.mediator lane other) (list_page geometry.mediator lane (other + 1))
  unfolding handed_on
  handed-pages [] shares z d device tail below planned other under apart = λ at low high. refl
  handed-pages (tag ∷ tags) [] z d device tail below planned other under apart = λ at low high. refl
  handed-pages (tag ∷ tags) (share ∷ shares) z d device tail below planned other under apart =
      let y : World = carried_out geometry.mediator lane tag command share o z in
      let first = carried tag (All-head (λ x. x < tag_count) tag tags below) share (All-head (IsPlanned o.given command.entry) share shares planned) z d device tail in
      same-then z.host y.host (behind tags shares y).host (list_page geometry.mediator lane other) (list_page geometry.mediator lane (other + 1))
      (first.pages other under (All-head (λ x. other ≢ x) tag tags apart))
      (handed-pages tags shares y first.d first.device first.tail (All-tail (λ x. x < tag_count) tag tags below)
      (All-tail (IsPlanned o.given command.entry) share shares planned) other under (All-tail (λ x. other ≢ x) tag tags apart))

  pub handed-source : (tags : List ℕ) (shares : List Share) (z : World) (d : DeviceLane) → slice_get z.device lane ≡ Some d → d.tail < ring_size
      → All (λ tag. tag < tag_count) tags → All (IsPlanned o.given command.entry) shares → AllPairs (λ a b. a ≢ b) tags
      → (i tag : ℕ) (share : Share) (work : Work) → slice_get tags i ≡ Some tag → slice_get shares i ≡ Some share → share.plan ≡ Bounced work
      → form_of work.opcode ≡ Transfer false
      → bytes_from (behind tags shares z).host (bounce_page geometry.mediator lane tag) (total_len work.pieces)
      ≡ gathered (image (regions_of o.given) z.host) (places_of work.pieces)
  unfolding handed_on
  handed-source [] shares z d device tail below planned apart i tag share work at there bounced form = cc
  handed-source (first ∷ tags) [] z d device tail below planned apart i tag share work at there bounced form = cc
  handed-source (first ∷ tags) (head ∷ shares) z d device tail below planned apart zero tag share work at there bounced form =
      let same_tag : first ≡ tag = cc in
      let same_share : head ≡ share = cc in
      let y : World = carried_out geometry.mediator lane first command head o z in
      let under = All-head (λ x. x < tag_count) first tags below in
      let here = All-head (IsPlanned o.given command.entry) head shares planned in
      let c = carried first under head here z d device tail in
      let goes = own-share o.given command.entry head here in
      let own = some-same (own_work o.given command.entry head here) work (sym goes.goes ∙ ap work_of (ap (λ (s : Share). s.plan) same_share ∙ bounced)) in
      let few : total_len work.pieces ≤ most_bytes = subst (λ (x : Work). total_len x.pieces ≤ most_bytes) own (own-few o.given command.entry head here) in
      let kept = handed-pages tags shares y c.d c.device c.tail (All-tail (λ x. x < tag_count) first tags below)
      (All-tail (IsPlanned o.given command.entry) head shares planned) first under (AllPairs-head (λ a b. a ≢ b) first tags apart) in
      ap (λ t. bytes_from (behind tags shares y).host (bounce_page geometry.mediator lane t) (total_len work.pieces)) (sym same_tag)
      ∙ sym (bytes_from-between y.host (behind tags shares y).host (list_page geometry.mediator lane first) (list_page geometry.mediator lane (first + 1))
      (bounce_page geometry.mediator lane first) (total_len work.pieces) kept (omega arith) (omega (arith, few)))
      ∙ c.source work (ap (λ (s : Share). s.plan) same_share ∙ bounced) form
  handed-source (first ∷ tags) (head ∷ shares) z d device tail below planned apart (suc i) tag share work at there bounced form =
      let y : World = carried_out geometry.mediator lane first command head o z in
      let c = carried first (All-head (λ x. x < tag_count) first tags below) head (All-head (IsPlanned o.given command.entry) head shares planned) z d device tail in
      handed-source tags shares y c.d c.device c.tail (All-tail (λ x. x < tag_count) first tags below)
      (All-tail (IsPlanned o.given command.entry) head shares planned) (AllPairs-tail (λ a b. a ≢ b) first tags apart) i tag share work at there bounced form
      ∙ ap (λ m. gathered m (places_of work.pieces)) c.own
