-- A command that is handed on: its plan is that of its verdict in the memory that its reads show, and a share's source stands in its bounce pages.
use Rattle.std.proofs.Common.{◌≡◌, ℕ, ◌+◌, ◌<◌, inr, false, List, [], All, length, arith, refl, sym, ap, ◌∙◌}
use Rattle.nv_mem.specs.GuestMap.{mapped}
use Rattle.nv_mem.specs.Places.{places_of, total_len}
use Rattle.nv_mem.proofs.PlaceLists.{length-places_of}
use Rattle.nv_model.specs.Dialogue.{asked, in_memory}
use Rattle.nv_model.specs.Judge.{Transfer, Verdict, Work, form_of, judge}
use Rattle.nv_model.specs.Memory.{bytes_from, gathered, image, stored}
use Rattle.nv_model.specs.Parts.{ShowsOn}
use Rattle.nv_model.specs.Private.{verdict_in}
use Rattle.nv_model.specs.Transcript.{Outcome, ReadDone, Settled, Wanted, in_transcript}
use Rattle.nv_model.proofs.InParts.{judge-in_parts}
use Rattle.nv_model.proofs.MemoryLemmas.{length-gathered}
use Rattle.nv_model.proofs.Shown.{reads_met-all, settled-in_memory}
use Rattle.nv_world_model.specs.Area.{bounce_page, list_bytes, list_page, prps_of, ring_size, source_bytes, submission_slot}
use Rattle.nv_world_model.specs.Geometry.{Geometry, Guest, regions_of, shape_of}
use Rattle.nv_world_model.specs.Plan.{Bounced, Plan, plan_of, plan_over, planned}
use Rattle.nv_world_model.specs.Share.{Share}
use Rattle.nv_world_model.specs.ShareArea.{form_own_bytes, own_bytes, share_entry}
use Rattle.nv_world_model.specs.ShareArea.{share_written}
use Rattle.nv_laws_sound.specs.Area.{Shows}
use Rattle.nv_laws_sound.proofs.PlanSizes.{entry-length}
use Rattle.nv_laws_sound.proofs.Shows.{same-stored, shows-between, shows-stored}
use Rattle.nv_laws.proofs.units.OwnShares.{IsOwnShare}

-- ---- the verdict

-- the plan of a settled outcome is that of its verdict
settled-plan : (guest : Guest) (outcome : Outcome Verdict) (plan : Plan) (verdict : Verdict) → planned (regions_of guest) outcome ≡ Settled plan
    → ((v : Verdict) → outcome ≡ Settled v → verdict ≡ v) → plan ≡ plan_of (regions_of guest) verdict
settled-plan guest (Wanted addr len) plan verdict settled each = cc
settled-plan guest (Settled v) plan verdict settled each = let is = each v refl in sym (ap (plan_of (regions_of guest)) is ∙ same (plan_of (regions_of guest) v) plan settled)
  where
    same : (p q : Plan) → Settled p ≡ Settled q → p ≡ q
    same p q e = cc

-- a plan over reads that show a memory wherever judging asks in it is that of the verdict in that memory
pub plan-shown : (guest : Guest) (entry : List ℕ) (reads : List ReadDone) (plan : Plan) (memory : ℕ → ℕ) → plan_over guest entry reads ≡ Settled plan
    → All (ShowsOn memory (asked memory (judge (mapped (regions_of guest)) guest.limit (shape_of guest).blocks entry))) reads
    → plan ≡ plan_of (regions_of guest) (verdict_in (shape_of guest) memory entry)
unfolding plan_over
plan-shown guest entry reads plan memory settled shown =
    let d = judge (mapped (regions_of guest)) guest.limit (shape_of guest).blocks entry in
    settled-plan guest (in_transcript d [] reads) plan (in_memory memory d) settled
    (λ v is. settled-in_memory memory d reads v (judge-in_parts (mapped (regions_of guest)) guest.limit (shape_of guest).blocks entry)
    (reads_met-all (ShowsOn memory (asked memory d)) d [] reads shown) is)

-- ---- the source

-- a share's bounced source stands in its tag's pages as the guest's memory has it
pub source-written : (geometry : Geometry) (guest : Guest) (entry : List ℕ) (share : Share) (part : Work) (is : IsOwnShare guest entry share part)
    (lane tag slot : ℕ) (host : ℕ → ℕ) → slot < ring_size → share.plan ≡ Bounced part → form_of part.opcode ≡ Transfer false
    → bytes_from (share_written share guest entry geometry.mediator lane tag slot host) (bounce_page geometry.mediator lane tag) (total_len part.pieces)
    ≡ gathered (image (regions_of guest) host) (places_of part.pieces)
unfolding share_written
source-written geometry guest entry share part is lane tag slot host slot_below bounced form =
    let list = list_page geometry.mediator lane tag in
    let bounce = bounce_page geometry.mediator lane tag in
    let at = submission_slot geometry.mediator lane slot in
    let written = share_entry share guest.namespace guest entry geometry.mediator lane tag in
    let bytes = own_bytes share.plan guest.namespace guest host in
    let listed = stored host list (list_bytes (prps_of share.plan guest list bounce)) in
    let paged = stored listed bounce bytes in
    let source : bytes ≡ source_bytes guest host part =
    ap (λ p. own_bytes p guest.namespace guest host) bounced ∙ ap (λ f. form_own_bytes f guest.namespace guest host part) form in
    let count : length bytes ≡ total_len part.pieces =
    ap length source ∙ length-gathered (image (regions_of guest) host) (places_of part.pieces) ∙ length-places_of part.pieces in
    let few = is.few in
    let sized = entry-length share guest entry geometry.mediator lane tag in
    let stands : Shows (stored paged at written) bounce bytes =
    shows-between paged (stored paged at written) bounce (list_page geometry.mediator lane (tag + 1)) bounce bytes
    (same-stored paged bounce (list_page geometry.mediator lane (tag + 1)) at written (inr (omega (arith, sized, slot_below))))
    (omega arith) (omega (arith, count, few)) (shows-stored listed bounce bytes) in
    ap (bytes_from (stored paged at written) bounce) (sym count) ∙ stands ∙ source
