-- What the parts of made plans come to.
use Rattle.std.proofs.Common.{◌≡◌, ℕ, ◌*◌, ◌<◌, ◌≤◌, ◌%◌, ◌&&◌, Bool, true, false, cond, List, [], ◌∷◌, length, Some}
use Rattle.std.proofs.Common.{refl, ap, sym, subst, ◌∙◌, arith}
use Rattle.std.specs.List.{All, filter, list_all}
use Rattle.std.proofs.lemmas.List.{length-map}
use Rattle.std.proofs.lemmas.List.Elements.{All-filter, All-nil}
use Rattle.nv_entry.specs.Opcode.{io_opcode}
use Rattle.nv_entry.specs.Submission.{opcode_of}
use Rattle.nv_entry.specs.declared.opcode.IoOpcode.{IoOpcode}
use Rattle.nv_mem.specs.GuestMap.{mapped}
use Rattle.nv_mem.specs.Places.{places_of, total_len}
use Rattle.nv_mem.specs.declared.piece.Piece.{Piece}
use Rattle.nv_mem.specs.declared.region.Region.{Region}
use Rattle.nv_model.specs.Judge.{Clear, Form, Keep, Manage, Transfer, Work, count_of, form_has_buffer, form_is_read, form_of, form_transfer_len}
use Rattle.nv_model.specs.Judge.{has_buffer, range_fits}
use Rattle.nv_model.specs.Laws.{IsMappedPiece}
use Rattle.nv_model.specs.Limits.{page}
use Rattle.nv_model.proofs.Endings.{and-true}
use Rattle.nv_model.proofs.RunPieces.{IsRunPiece}
use Rattle.nv_ns.specs.Extents.{blocks_in}
use Rattle.nv_prp.specs.Built.{built}
use Rattle.nv_prp.specs.Spelled.{HoldsList, SpellsAddresses, reading_of}
use Rattle.nv_prp.specs.Fits.{fit_prp, host_addresses, hosts_of, is_run, places_fit}
use Rattle.nv_prp.proofs.HostRuns.{length-mapped_runs}
use Rattle.nv_prp.proofs.Spelling.{built-spells}
use Rattle.nv_world_model.specs.Area.{translated_range}
use Rattle.nv_world_model.specs.Geometry.{regions_of, shape_of}
use Rattle.nv_world_model.specs.Plan.{Bounced, Direct, Plan, go_plan, transfer_plan}
use Rattle.nv_world_model.specs.Seat.{work_of}
use Rattle.nv_world_model.specs.Share.{Share, cut_pieces, with_work}
use Rattle.nv_world_model.proofs.CutFits.{cut_pieces-fit}
use Rattle.nv_world_model.proofs.CutPieces.{cut_pieces-mapped, cut_pieces-runs}
use Rattle.nv_plan.specs.Made.{IsJobsPlan, MadePlan, plan_made, share_made}
use Rattle.nv_plan.specs.Parts.{form_places, form_ranges, has_bytes, len_in, places_in, ranges_of}
use Rattle.nv_plan.proofs.MadeShares.{made-going, work-go}
use Rattle.nv_plan.proofs.OwnParts.{HasLen, IsCutPart, IsMadePart, OwnBy, cut-len, filter-places, filter-total, form_len}
use Rattle.nv_plan.proofs.OwnParts.{going-short, made-own, met-len, own-work, part-len, part-places, part-ranges, work-with}
use Rattle.nv_model.proofs.SourceRuns.{source-runs}

both : (a b : Bool) → a ≡ true → b ≡ true → (a && b) ≡ true
both a b first second = cc

-- ---- what holds of a part holds of its form

-- the places of a part have what pieces keep where they are cut
all-places : (P : Piece → Type 0) (form : Form) (p : MadePlan) (work own : Work) (part : ℕ)
    → ((skip len : ℕ) → All P (cut_pieces skip len work.pieces)) → OwnBy form p.given.namespace p.job.sqe work part own → All P (form_places form own)
all-places P (Transfer dest) p work own part kept c =
    All-filter has_bytes P own.pieces (subst (All P) (sym c.pieces) (kept (512 * c.cut.first) (512 * c.cut.count)))
all-places P Clear p work own part kept c = All-nil P
all-places P Manage p work own part kept c = All-nil P
all-places P Keep p work own part kept c = All-nil P

part-all : (P : Piece → Type 0) (p : MadePlan) (part : ℕ) (share : Share) (m : IsMadePart p part share)
    → ((skip len : ℕ) → All P (cut_pieces skip len m.work.pieces)) → All P (places_in share.plan)
part-all P p part share m kept =
    subst (All P) (sym (part-places p part share m)) (all-places P (form_of m.work.opcode) p m.work m.part_is.own part kept m.part_is.by_form)

pub places-mapped : (p : MadePlan) (part : ℕ) (share : Share) → IsJobsPlan p → share_made part p ≡ Some share
    → All (IsMappedPiece (mapped (regions_of p.given))) (places_in share.plan)
places-mapped p part share is there =
    let m = made-own p part share is there in
    part-all (IsMappedPiece (mapped (regions_of p.given))) p part share m
    (λ skip len. cut_pieces-mapped (mapped (regions_of p.given)) skip len m.work.pieces m.goes.sound.mapped_each)

-- the form of a share's own work is that of the whole
own-form : (p : MadePlan) (part : ℕ) (share : Share) (m : IsMadePart p part share) (work : Work) (form : Form) → work_of share.plan ≡ Some work
    → form_of work.opcode ≡ form → form_of m.work.opcode ≡ form
own-form p part share m work form has is =
    let one = own-work p.given p.job.sqe (plan_made p) m.work part share work m.goes m.part_is has in
    sym (ap form_of m.part_is.opcode) ∙ ap (λ (w : Work). form_of w.opcode) one ∙ is

pub places-source : (p : MadePlan) (part : ℕ) (share : Share) (work : Work) → IsJobsPlan p → share_made part p ≡ Some share
    → work_of share.plan ≡ Some work → form_of work.opcode ≡ Transfer false → All IsRunPiece (places_in share.plan)
places-source p part share work is there has form =
    let m = made-own p part share is there in
    let whole = own-form p part share m work (Transfer false) has form in
    part-all IsRunPiece p part share m
    (λ skip len. cut_pieces-runs skip len m.work.pieces
    (source-runs (shape_of p.given).mapped p.given.limit (blocks_in p.given.namespace) p.job.sqe m.work m.goes.may (ap form_is_read whole)))

pub places-named : (p : MadePlan) (part : ℕ) (share : Share) (work : Work) (dest : Bool) → IsJobsPlan p → share_made part p ≡ Some share
    → work_of share.plan ≡ Some work → form_of work.opcode ≡ Transfer dest → places_of (places_in share.plan) ≡ places_of work.pieces
places-named p part share work dest is there has form =
    let m = made-own p part share is there in
    let one = own-work p.given p.job.sqe (plan_made p) m.work part share work m.goes m.part_is has in
    ap places_of (part-places p part share m ∙ ap (λ (f : Form). form_places f m.part_is.own) (own-form p part share m work (Transfer dest) has form))
    ∙ filter-places m.part_is.own.pieces ∙ ap (λ (w : Work). places_of w.pieces) one

-- ---- how long they are

-- the cut of a part of a transfer
pub transfer-cut : (p : MadePlan) (part : ℕ) (share : Share) (m : IsMadePart p part share) (dest : Bool) → form_of m.work.opcode ≡ Transfer dest
    → IsCutPart p.given.namespace p.job.sqe m.work part m.part_is.own
transfer-cut p part share m dest form = subst (λ (f : Form). OwnBy f p.given.namespace p.job.sqe m.work part m.part_is.own) form m.part_is.by_form

transfer-len : (p : MadePlan) (part : ℕ) (share : Share) (m : IsMadePart p part share) (dest : Bool) → form_of m.work.opcode ≡ Transfer dest
    → HasLen (count_of p.job.sqe) m.part_is.own
transfer-len p part share m dest form =
    cut-len p.given p.job.sqe (plan_made p) m.work m.part_is.own part dest m.goes form (transfer-cut p part share m dest form)

manage-len : (p : MadePlan) (part : ℕ) (share : Share) (m : IsMadePart p part share) → form_of m.work.opcode ≡ Manage
    → (total_len m.part_is.own.pieces ≡ 16 * length m.part_is.own.ranges) × (16 * length m.part_is.own.ranges ≤ 4096)
manage-len p part share m form =
    met-len p.given p.job.sqe (plan_made p) m.work m.part_is.own part m.goes form
    (subst (λ (f : Form). OwnBy f p.given.namespace p.job.sqe m.work part m.part_is.own) form m.part_is.by_form)

pub places-blocks : (p : MadePlan) (part : ℕ) (share : Share) (work : Work) (dest : Bool) → IsJobsPlan p → share_made part p ≡ Some share
    → work_of share.plan ≡ Some work → form_of work.opcode ≡ Transfer dest
    → (total_len work.pieces ≡ 512 * length work.units) × (0 < total_len work.pieces)
places-blocks p part share work dest is there has form =
    let m = made-own p part share is there in
    let one = own-work p.given p.job.sqe (plan_made p) m.work part share work m.goes m.part_is has in
    let len = transfer-len p part share m dest (own-form p part share m work (Transfer dest) has form) in
    let total = len.total in
    let some = len.some in
    subst (λ (w : Work). (total_len w.pieces ≡ 512 * length w.units) × (0 < total_len w.pieces)) one (total, omega arith)

pub places-ranges : (p : MadePlan) (part : ℕ) (share : Share) (work : Work) → IsJobsPlan p → share_made part p ≡ Some share
    → work_of share.plan ≡ Some work → form_of work.opcode ≡ Manage → total_len work.pieces ≡ 16 * length work.ranges
places-ranges p part share work is there has form =
    let m = made-own p part share is there in
    let one = own-work p.given p.job.sqe (plan_made p) m.work part share work m.goes m.part_is has in
    let len = manage-len p part share m (own-form p part share m work Manage has form) in
    subst (λ (w : Work). total_len w.pieces ≡ 16 * length w.ranges) one len.0

most-by : (form : Form) (p : MadePlan) (part : ℕ) (share : Share) (m : IsMadePart p part share) → form_of m.work.opcode ≡ form
    → form_len form m.part_is.own ≤ 131072
most-by (Transfer dest) p part share m form =
    let len = transfer-len p part share m dest form in
    let total = len.total in
    let most = len.most in
    let short = going-short p.given p.job.sqe (plan_made p) m.work dest m.goes form in omega arith
most-by Clear p part share m form = omega arith
most-by Manage p part share m form =
    let len = manage-len p part share m form in
    let total = len.0 in
    let short = len.1 in omega arith
most-by Keep p part share m form = omega arith

pub places-most : (p : MadePlan) (part : ℕ) (share : Share) → IsJobsPlan p → share_made part p ≡ Some share → len_in share.plan ≤ 131072
places-most p part share is there =
    let m = made-own p part share is there in
    let len = part-len p part share m in
    let few = most-by (form_of m.work.opcode) p part share m refl in omega arith

-- ---- as it is told

same-opcode : (p : MadePlan) (work : Work) (o : IoOpcode) → io_opcode (opcode_of p.job.sqe) ≡ Some work.opcode → io_opcode (opcode_of p.job.sqe) ≡ Some o
    → work.opcode ≡ o
same-opcode p work o is other = some_same (sym is ∙ other)
  where
    some_same : Some work.opcode ≡ Some o → work.opcode ≡ o
    some_same e = (cc)

-- of a command of that form
pub told-transfer : (p : MadePlan) (part : ℕ) (share : Share) (o : IoOpcode) (dest : Bool) (count : ℕ) → IsJobsPlan p → share_made part p ≡ Some share
    → io_opcode (opcode_of p.job.sqe) ≡ Some o → form_of o ≡ Transfer dest
    → ((work : Work) → work_of share.plan ≡ Some work → count ≡ length work.units) → 512 * count ≡ len_in share.plan
told-transfer p part share o dest count is there known form counted =
    let m = made-own p part share is there in
    let whole = ap form_of (same-opcode p m.work o m.goes.sound.opcode known) ∙ form in
    let len = (transfer-len p part share m dest whole).total in
    let many = counted m.part_is.own (ap work_of m.part_is.plan_is ∙ work-with (plan_made p) m.work m.part_is.own (ap work_of m.goes.is ∙ work-go (form_of m.work.opcode) (regions_of p.given) m.work)) in
    let all = part-len p part share m ∙ ap (λ (f : Form). form_len f m.part_is.own) whole in omega arith

pub told-manage : (p : MadePlan) (part : ℕ) (share : Share) (o : IoOpcode) (ranges : List (List ℕ)) → IsJobsPlan p → share_made part p ≡ Some share
    → io_opcode (opcode_of p.job.sqe) ≡ Some o → form_of o ≡ Manage → ranges ≡ ranges_of p.given.namespace share.plan
    → 16 * length ranges ≡ len_in share.plan
told-manage p part share o ranges is there known form are =
    let m = made-own p part share is there in
    let whole = ap form_of (same-opcode p m.work o m.goes.sound.opcode known) ∙ form in
    let len = (manage-len p part share m whole).0 in
    let count = ap (λ (rs : List (List ℕ)). length rs)
    (are ∙ part-ranges p part share m ∙ ap (λ (f : Form). form_ranges f p.given.namespace m.part_is.own) whole)
    ∙ length-map m.part_is.own.ranges (translated_range p.given.namespace) in
    let all = part-len p part share m ∙ ap (λ (f : Form). form_len f m.part_is.own) whole in omega arith

pub told-none : (p : MadePlan) (part : ℕ) (share : Share) (o : IoOpcode) → IsJobsPlan p → share_made part p ≡ Some share
    → io_opcode (opcode_of p.job.sqe) ≡ Some o → has_buffer o ≡ false → 0 ≡ len_in share.plan
told-none p part share o is there known none =
    let m = made-own p part share is there in
    let same = same-opcode p m.work o m.goes.sound.opcode known in
    sym (part-len p part share m ∙ ap (λ (x : IoOpcode). form_len (form_of x) m.part_is.own) same ∙ by_form (form_of o) none m.part_is.own)
  where
    by_form : (f : Form) → form_has_buffer f ≡ false → (own : Work) → form_len f own ≡ 0
    by_form (Transfer dest) e own = absurd (cc)
    by_form Clear e own = refl
    by_form Manage e own = absurd (cc)
    by_form Keep e own = refl

-- ---- direct transfers

-- a plan that is direct is of a transfer whose places fit
direct-fits : (form : Form) (regions : List Region) (work whole : Work) → go_plan form regions work ≡ Direct whole
    → (dest : Bool) × ((form ≡ Transfer dest) × (places_fit regions work.pieces ≡ true))
direct-fits (Transfer dest) regions work whole is = by_fit (places_fit regions work.pieces) refl is
  where
    by_fit : (b : Bool) → places_fit regions work.pieces ≡ b → transfer_plan b work ≡ Direct whole
        → (d : Bool) × ((Transfer dest ≡ Transfer d) × (places_fit regions work.pieces ≡ true))
    by_fit true fits e = (dest, (refl, fits))
    by_fit false fits e = absurd (cc)
direct-fits Clear regions work whole is = absurd (cc)
direct-fits Manage regions work whole is = absurd (cc)
direct-fits Keep regions work whole is = absurd (cc)

-- the whole is direct where a part is
whole-direct : (form : Form) (regions : List Region) (work own other : Work) → with_work (go_plan form regions work) own ≡ Direct other
    → go_plan form regions work ≡ Direct work
whole-direct (Transfer dest) regions work own other is = by_fit (places_fit regions work.pieces) is
  where
    by_fit : (b : Bool) → with_work (transfer_plan b work) own ≡ Direct other → transfer_plan b work ≡ Direct work
    by_fit true e = refl
    by_fit false e = absurd (cc)
whole-direct Clear regions work own other is = absurd (cc)
whole-direct Manage regions work own other is = absurd (cc)
whole-direct Keep regions work own other is = absurd (cc)

-- what is known of a part of a direct plan
record IsDirectPart (p : MadePlan) (part : ℕ) (share : Share) (m : IsMadePart p part share) : Type 0 where
  dest : Bool
  form : form_of m.work.opcode ≡ Transfer dest
  fits : places_fit (regions_of p.given) m.work.pieces ≡ true

direct-part : (p : MadePlan) (part : ℕ) (share : Share) (m : IsMadePart p part share) (work : Work) → share.plan ≡ Direct work → IsDirectPart p part share m
direct-part p part share m work direct =
    let own = sym (m.part_is.plan_is ∙ ap (λ (plan : Plan). with_work plan m.part_is.own) m.goes.is) ∙ direct in
    let whole = direct-fits (form_of m.work.opcode) (regions_of p.given) m.work m.work
    (whole-direct (form_of m.work.opcode) (regions_of p.given) m.work m.part_is.own work own) in
    record { dest = whole.0; form = whole.1.0; fits = whole.1.1 }

-- which runs there are depends on what is cut alone
filter-runs : (pieces : List Piece) → list_all is_run pieces ≡ true → list_all is_run (filter has_bytes pieces) ≡ true
filter-runs [] runs = refl
filter-runs (p ∷ ps) runs = filter-run p ps (and-true (is_run p) (list_all is_run ps) runs).0 (filter-runs ps (and-true (is_run p) (list_all is_run ps) runs).1)
  where
    filter-run : (q : Piece) (qs : List Piece) → is_run q ≡ true → list_all is_run (filter has_bytes qs) ≡ true
        → list_all is_run (filter has_bytes (q ∷ qs)) ≡ true
    filter-run q qs first rest =
        elim (has_bytes q) as (λ b. list_all is_run (cond b (q ∷ filter has_bytes qs) (filter has_bytes qs)) ≡ true) [
          | true ↦ both (is_run q) (list_all is_run (filter has_bytes qs)) first rest
          | false ↦ rest
        ]

-- so pieces with bytes fit where all do
filter-fits : (regions : List Region) (pieces : List Piece) → places_fit regions pieces ≡ true → places_fit regions (filter has_bytes pieces) ≡ true
filter-fits regions pieces fits =
    let parts = and-true (list_all is_run pieces) (fit_prp (host_addresses regions pieces)) fits in
    both (list_all is_run (filter has_bytes pieces)) (fit_prp (host_addresses regions (filter has_bytes pieces)))
    (filter-runs pieces parts.0) (ap (λ places. fit_prp (hosts_of regions places)) (filter-places pieces) ∙ parts.1)

pub direct-fit : (p : MadePlan) (part : ℕ) (share : Share) (work : Work) → IsJobsPlan p → share_made part p ≡ Some share
    → share.plan ≡ Direct work → places_fit (regions_of p.given) (places_in share.plan) ≡ true
direct-fit p part share work is there direct =
    let m = made-own p part share is there in
    let d = direct-part p part share m work direct in
    let c = transfer-cut p part share m d.dest d.form in
    let bytes = m.goes.sound.total ∙ ap (λ (f : Form). form_transfer_len f p.job.sqe) d.form in
    let some = c.some in
    let within = c.within in
    ap (places_fit (regions_of p.given)) (part-places p part share m ∙ ap (λ (f : Form). form_places f m.part_is.own) d.form)
    ∙ filter-fits (regions_of p.given) m.part_is.own.pieces (ap (places_fit (regions_of p.given)) c.pieces
    ∙ cut_pieces-fit (regions_of p.given) (512 * c.cut.first) (512 * c.cut.count) m.work.pieces m.goes.sound.mapped_each d.fits
    (omega arith) (omega arith) (omega arith))

pub bounced-unfit : (p : MadePlan) (work : Work) (dest : Bool) → IsJobsPlan p → plan_made p ≡ Bounced work → form_of work.opcode ≡ Transfer dest
    → places_fit (regions_of p.given) work.pieces ≡ false
bounced-unfit p work dest is bounced form =
    let goes = made-going p work is (ap work_of bounced) in
    by_fit (places_fit (regions_of p.given) work.pieces)
    (sym (goes.is ∙ ap (λ (f : Form). go_plan f (regions_of p.given) work) form) ∙ bounced)
  where
    by_fit : (b : Bool) → transfer_plan b work ≡ Bounced work → b ≡ false
    by_fit true e = absurd (cc)
    by_fit false e = refl

-- each byte has an address
pub direct-addresses : (p : MadePlan) (part : ℕ) (share : Share) (work : Work) → IsJobsPlan p → share_made part p ≡ Some share
    → share.plan ≡ Direct work → length (host_addresses (regions_of p.given) (places_in share.plan)) ≡ total_len work.pieces
direct-addresses p part share work is there direct =
    let m = made-own p part share is there in
    let d = direct-part p part share m work direct in
    let one = own-work p.given p.job.sqe (plan_made p) m.work part share work m.goes m.part_is (ap work_of direct) in
    let fit = direct-fit p part share work is there direct in
    length-mapped_runs (regions_of p.given) (places_in share.plan) (places-mapped p part share is there)
    (and-true (list_all is_run (places_in share.plan)) (fit_prp (host_addresses (regions_of p.given) (places_in share.plan))) fit).0
    ∙ ap total_len (part-places p part share m ∙ ap (λ (f : Form). form_places f m.part_is.own) d.form)
    ∙ filter-total m.part_is.own.pieces ∙ ap (λ (w : Work). total_len w.pieces) one

-- which PRPs spell
pub direct-spelled : (p : MadePlan) (part : ℕ) (share : Share) (work : Work) (memory : ℕ → ℕ) (list_page : ℕ) → IsJobsPlan p
    → share_made part p ≡ Some share → share.plan ≡ Direct work
    → list_page % page ≡ 0 → HoldsList memory list_page (built list_page (host_addresses (regions_of p.given) (places_in share.plan)))
    → SpellsAddresses (host_addresses (regions_of p.given) (places_in share.plan))
    (reading_of memory (built list_page (host_addresses (regions_of p.given) (places_in share.plan)))
    (length (host_addresses (regions_of p.given) (places_in share.plan))))
direct-spelled p part share work memory list_page is there direct aligned holds =
    let many = direct-addresses p part share work is there direct in
    let most = places-most p part share is there in
    let len : len_in share.plan ≡ total_len work.pieces = ap len_in direct in
    let fit = direct-fit p part share work is there direct in
    built-spells memory list_page (host_addresses (regions_of p.given) (places_in share.plan))
    (and-true (list_all is_run (places_in share.plan)) (fit_prp (host_addresses (regions_of p.given) (places_in share.plan))) fit).1
    (omega arith) aligned holds

-- ---- ranges

pub ranges-fit : (p : MadePlan) (work : Work) → IsJobsPlan p → work_of (plan_made p) ≡ Some work
    → list_all (range_fits (blocks_in p.given.namespace)) work.ranges ≡ true
ranges-fit p work is has = (made-going p work is has).sound.fit
