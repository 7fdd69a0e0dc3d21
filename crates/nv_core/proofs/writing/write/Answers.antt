use Rattle.std.proofs.Common.{◌≡◌, ◌+◌, ◌≤◌, ◌∙◌, ℕ, false, length, arith, ap, sym, subst}
use Rattle.nv_core.proofs.StoredRows.{byte_in-stored}
use Rattle.nv_core.proofs.Written.{all-written, bounce-apart, list-few}
use Rattle.nv_entry.specs.Submission.{opcode_of}
use Rattle.nv_laws_sound.proofs.Lists.{slice_get-there}
use Rattle.nv_laws_sound.proofs.PlanSizes.{entry-length}
use Rattle.nv_mem.specs.GuestMap.{span_met}
use Rattle.nv_model.specs.Limits.{most_bytes}
use Rattle.nv_model.specs.Memory.{byte_in, stored}
use Rattle.nv_plan.specs.Made.{shares_made}
use Rattle.nv_prp.specs.declared.prps.Prps.{Prps}
use Rattle.nv_world_model.specs.Area.{bounce_page, list_bytes, list_page, physical_entry, prps_of, submission_slot}
use Rattle.nv_world_model.specs.Geometry.{regions_of}
use Rattle.nv_world_model.specs.ShareArea.{own_bytes, own_dwords, share_entry}
use Rattle.nv_core.proofs.writing.write.Goals as goal

pub shared_ref_as_front-store_numbers : goal.shared_ref_as_front-store_numbers
shared_ref_as_front-store_numbers g c =
    let p = c.args.plan.now in
    let place = c.args.place in
    let s = slice_get-there (shares_made p) c.args.part c.requires.part in
    let few = list-few p c.args.part s.0 c.prps_of-prps.ensures.is_plan s.1 place.mediator place.lane place.tag c.requires.room.aligned in
    let same : c.prps_of-prps.result.used ≡ (prps_of s.0.plan p.given (list_page place.mediator place.lane place.tag) (bounce_page place.mediator place.lane place.tag)).used =
    ap (λ (x : Prps). x.used) (c.prps_of-prps.ensures.value s.0 s.1) in
    omega (arith, few, same)

pub write_bounced-requires-clause-apart : goal.write_bounced-requires-clause-apart
write_bounced-requires-clause-apart g c =
    let p = c.args.plan.now in
    let place = c.args.place in
    let s = slice_get-there (shares_made p) c.args.part c.requires.part in
    subst (λ (at : ℕ). span_met (regions_of p.given) at most_bytes ≡ false) (sym c.bounce_page.ensures)
    (bounce-apart p c.args.part s.0 c.prps_of-prps.ensures.is_plan s.1 place.mediator place.lane place.tag (g.C.MemoryCell.bytes c.args.host.now) c.requires.room)

pub returns-clause-bytes : goal.returns-clause-bytes
returns-clause-bytes g c = λ share there.
    let p = c.args.plan.now in
    let mediator = c.args.place.mediator in
    let lane = c.args.place.lane in
    let tag = c.args.place.tag in
    let list = list_page mediator lane tag in
    let ns = p.given.namespace in
    let entry : c.entry_of-entry.result ≡ share_entry share ns p.given p.job.sqe mediator lane tag =
    c.entry_of-entry.ensures share there
    ∙ ap (λ (x : Prps). physical_entry (opcode_of p.job.sqe) tag x (own_dwords share.plan ns p.job.sqe)) (c.prps_of-prps.ensures.value share there) in
    let inside : c.submission_slot.result + length c.entry_of-entry.result ≤ length (g.C.MemoryCell.bytes c.write_bounced.new.host) =
    (let sized : length c.entry_of-entry.result ≡ 64 = ap length entry ∙ entry-length share p.given p.job.sqe mediator lane tag in
    let one = c.store_numbers.ensures.len in let two = c.write_bounced.ensures.len in let area = c.requires.room.area in let below = c.requires.at in let at = c.submission_slot.ensures in
    omega (arith, sized, one, two, area, below, at)) in
    all-written p c.args.part share c.prps_of-prps.ensures.is_plan there mediator lane tag (g.C.MemoryCell.bytes c.args.host.now) c.requires.room c.args.at
    (byte_in (g.C.MemoryCell.bytes c.store_numbers.new.host)) (byte_in (g.C.MemoryCell.bytes c.write_bounced.new.host)) (byte_in (g.C.MemoryCell.bytes c.store.new.memory))
    (c.store_numbers.ensures.bytes
    ∙ ap (λ (at : ℕ). stored (byte_in (g.C.MemoryCell.bytes c.args.host.now)) at (list_bytes c.prps_of-prps.result)) c.list_page.ensures
    ∙ ap (λ (x : Prps). stored (byte_in (g.C.MemoryCell.bytes c.args.host.now)) list (list_bytes x)) (c.prps_of-prps.ensures.value share there))
    (c.write_bounced.ensures.bytes share there
    ∙ ap (λ (at : ℕ). stored (byte_in (g.C.MemoryCell.bytes c.store_numbers.new.host)) at (own_bytes share.plan ns p.given (byte_in (g.C.MemoryCell.bytes c.store_numbers.new.host)))) c.bounce_page.ensures)
    (ap byte_in c.store.ensures.bytes ∙ byte_in-stored (g.C.MemoryCell.bytes c.write_bounced.new.host) c.submission_slot.result c.entry_of-entry.result inside
    ∙ ap (λ (at : ℕ). stored (byte_in (g.C.MemoryCell.bytes c.write_bounced.new.host)) at c.entry_of-entry.result) c.submission_slot.ensures
    ∙ ap (stored (byte_in (g.C.MemoryCell.bytes c.write_bounced.new.host)) (submission_slot mediator lane c.args.at)) entry)
