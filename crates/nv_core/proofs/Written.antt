-- The host behind what is written for a part.
use Rattle.std.proofs.Common.{◌≡◌, ℕ, ◌%◌, ◌≤◌, false, cond, List, [], Some, length, arith, refl, ap, ◌∙◌}
use Rattle.nv_core.specs.Submit.{HasRoom, tag_bytes}
use Rattle.nv_core.proofs.MadeParts.{planned}
use Rattle.nv_laws_sound.proofs.PlanSizes.{addresses-nameable, list-short, used-few}
use Rattle.nv_mem.specs.GuestMap.{span_met}
use Rattle.nv_mem.proofs.Memory.{span_met-part}
use Rattle.nv_mem.specs.Places.{places_of}
use Rattle.nv_model.specs.Judge.{Clear, Form, Keep, Manage, Transfer, Work, form_of}
use Rattle.nv_model.specs.Limits.{most_bytes}
use Rattle.nv_model.specs.Memory.{byte_in, gathered, image, stored}
use Rattle.nv_model.proofs.PutImages.{image-stored_clear}
use Rattle.nv_ns.specs.Extents.{Namespace}
use Rattle.nv_plan.specs.Made.{IsJobsPlan, MadePlan, share_made}
use Rattle.nv_prp.specs.declared.prps.Prps.{Prps}
use Rattle.nv_world_model.specs.Area.{addresses_of, bounce_page, list_bytes, list_page, prps_of, submission_slot}
use Rattle.nv_world_model.specs.Geometry.{Guest, regions_of}
use Rattle.nv_world_model.specs.Plan.{Answer, Bounced, Direct, NoData, Plan}
use Rattle.nv_world_model.specs.Share.{Share}
use Rattle.nv_world_model.specs.ShareArea.{form_own_bytes, own_bytes, share_entry, share_written}

-- what stands in the bounce pages follows from the guest's memory
form-same : (form : Form) (ns : Namespace) (guest : Guest) (f g : ℕ → ℕ) (work : Work) → image (regions_of guest) f ≡ image (regions_of guest) g
    → form_own_bytes form ns guest f work ≡ form_own_bytes form ns guest g work
form-same (Transfer dest) ns guest f g work same =
    ap (λ (m : ℕ → ℕ). cond dest [] (gathered m (places_of work.pieces))) same
form-same Clear ns guest f g work same = refl
form-same Manage ns guest f g work same = refl
form-same Keep ns guest f g work same = refl

bounced-same : (plan : Plan) (ns : Namespace) (guest : Guest) (f g : ℕ → ℕ) → image (regions_of guest) f ≡ image (regions_of guest) g
    → own_bytes plan ns guest f ≡ own_bytes plan ns guest g
bounced-same (Answer st) ns guest f g same = refl
bounced-same (NoData work) ns guest f g same = refl
bounced-same (Direct work) ns guest f g same = refl
bounced-same (Bounced work) ns guest f g same = form-same (form_of work.opcode) ns guest f g work same

-- ---- a part of a plan that was made

module _ (p : MadePlan) (part : ℕ) (share : Share) (is : IsJobsPlan p) (there : share_made part p ≡ Some share) (mediator lane tag : ℕ) where
  abbrev list : ℕ
  list = list_page mediator lane tag

  abbrev bounce : ℕ
  bounce = bounce_page mediator lane tag

  abbrev prps : Prps
  prps = prps_of share.plan p.given list bounce

  -- its list has 32 entries at most
  pub list-few : mediator % 4096 ≡ 0 → prps.used ≤ 32
  list-few aligned =
      let named = addresses-nameable p.given p.job.sqe share bounce (omega (arith, aligned)) (planned p part share is there) in
      used-few list (addresses_of share.plan p.given bounce) named.fit named.few

  module _ (host : List ℕ) (room : HasRoom mediator lane tag p.given host) where
    -- its bounce pages are no guest's
    pub bounce-apart : span_met (regions_of p.given) bounce most_bytes ≡ false
    bounce-apart = span_met-part (regions_of p.given) list tag_bytes bounce most_bytes room.apart (omega arith) (omega arith)

    -- the guest sees nothing of its list
    listed-same : image (regions_of p.given) (stored (byte_in host) list (list_bytes prps)) ≡ image (regions_of p.given) (byte_in host)
    listed-same =
        let aligned = room.aligned in
        let few = list-short p.given p.job.sqe share list bounce (omega (arith, aligned)) (planned p part share is there) in
        image-stored_clear (regions_of p.given) (byte_in host) list (list_bytes prps)
        (span_met-part (regions_of p.given) list tag_bytes list (length (list_bytes prps)) room.apart (omega arith) (omega (arith, few)))

    -- list, bounce pages and entry
    pub all-written : (at : ℕ) (one two three : ℕ → ℕ)
        → one ≡ stored (byte_in host) list (list_bytes prps)
        → two ≡ stored one bounce (own_bytes share.plan p.given.namespace p.given one)
        → three ≡ stored two (submission_slot mediator lane at) (share_entry share p.given.namespace p.given p.job.sqe mediator lane tag)
        → three ≡ share_written share p.given p.job.sqe mediator lane tag at (byte_in host)
    unfolding share_written
    all-written at one two three listed bounced entered =
        let slot = submission_slot mediator lane at in
        let entry = share_entry share p.given.namespace p.given p.job.sqe mediator lane tag in
        let same = bounced-same share.plan p.given.namespace p.given one (byte_in host) (ap (image (regions_of p.given)) listed ∙ listed-same) in
        entered ∙ ap (λ (m : ℕ → ℕ). stored m slot entry) (bounced ∙ ap (stored one bounce) same)
        ∙ ap (λ (m : ℕ → ℕ). stored (stored m bounce (own_bytes share.plan p.given.namespace p.given (byte_in host))) slot entry) listed
