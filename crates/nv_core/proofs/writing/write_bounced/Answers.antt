use Rattle.std.proofs.Common.{◌≡◌, ◌⊎◌, ◌∙◌, inl, inr, ℕ, All, List, [], false, true, flat_map, length, arith, ap, sym, subst, refl}
use Rattle.std.proofs.lemmas.List.Elements.{All-filter}
use Rattle.nv_bounce.specs.Bounce.{NamesNoBucket}
use Rattle.nv_core.proofs.MadeParts.{few, few-ranges, form-is, known, mapped-each, no-bytes, other-bytes, own, own-work, places-bounced, range-bytes, ranges-count, runs, source-bytes}
use Rattle.nv_core.proofs.WithBytes.{filter-total, no-bucket}
use Rattle.nv_entry.specs.Opcode.{io_opcode}
use Rattle.nv_entry.specs.Submission.{opcode_of}
use Rattle.nv_entry.specs.declared.opcode.IoOpcode.{IoOpcode}
use Rattle.nv_entry.specs.declared.opcode.IoOpcode.TheVariants as opcode
use Rattle.nv_laws_sound.proofs.Lists.{slice_get-there}
use Rattle.nv_mem.specs.GuestMap.{Mapping, mapped, span_met}
use Rattle.nv_mem.specs.Places.{places_of, total_len}
use Rattle.nv_mem.specs.declared.piece.Piece.{Piece}
use Rattle.nv_mem.proofs.Memory.{span_met-part}
use Rattle.nv_model.specs.Judge.{Clear, Keep, Transfer, form_of}
use Rattle.nv_model.specs.Laws.{IsMappedPiece}
use Rattle.nv_model.specs.Limits.{most_bytes}
use Rattle.nv_model.specs.Memory.{byte_in, gathered, image, stored}
use Rattle.nv_model.proofs.MemoryLemmas.{stored-nil}
use Rattle.nv_plan.specs.Made.{shares_made}
use Rattle.nv_plan.specs.Parts.{has_bytes}
use Rattle.nv_plan.specs.declared.job.Job.{Job}
use Rattle.nv_core.proofs.writing.write_bounced.Goals as goal

-- a source's form
source-form : (it : IoOpcode) → (it ≡ opcode.Write) ⊎ (it ≡ opcode.Compare) → form_of it ≡ Transfer false
source-form it (inl write) = ap form_of write
source-form it (inr compare) = ap form_of compare

-- no bytes are stored
stored-none : (host : ℕ → ℕ) (at : ℕ) (bytes : List ℕ) → bytes ≡ [] → host ≡ stored host at bytes
stored-none host at bytes none = sym (ap (stored host at) none ∙ stored-nil host at)

pub returns-in_default : goal.returns-in_default
returns-in_default g c =
    record {
      bytes =
          (λ share at. stored-none (byte_in (g.C.MemoryCell.bytes c.args.host.now)) c.args.bounce _
          (no-bytes c.args.plan.now c.args.part share c.kind.ensures.is_plan at (byte_in (g.C.MemoryCell.bytes c.args.host.now)) (λ e. c.in_default.not-Bounced (c.kind.ensures.made ∙ e))));
      len = refl;
    }

pub returns-in_default-io_opcode-clause-bytes : goal.returns-in_default-io_opcode-clause-bytes
returns-in_default-io_opcode-clause-bytes g c = λ share at.
    let some = known c.args.plan.now c.args.part share c.kind.ensures.is_plan at in
    let none = ap (λ (j : Job). io_opcode (opcode_of j.sqe)) (sym c.job.ensures.value) ∙ sym c.io_opcode.ensures ∙ c.in_default-io_opcode.is in
    absurd (cc)

pub gather-requires-clause-mapped : goal.gather-requires-clause-mapped
gather-requires-clause-mapped g c =
    let p = c.args.plan.now in
    let part = c.args.part in
    let is = c.kind.ensures.is_plan in
    let s = slice_get-there (shares_made p) part c.requires.part in
    let known_is = ap (λ (j : Job). io_opcode (opcode_of j.sqe)) (sym c.job.ensures.value) ∙ sym c.io_opcode.ensures ∙ c.in-Some.is in
    let f = form-is p part s.0 is s.1 c.in-Some.opcode known_is ∙ source-form c.in-Some.opcode c.in-Write.is in
    let pieces = (own p part s.0 is s.1).pieces in
    let are = c.part_places.ensures.value s.0 s.1 ∙ places-bounced p part s.0 is s.1 false (sym c.kind.ensures.made ∙ c.in-Bounced.is) f in
    subst (λ (m : Mapping). All (IsMappedPiece (mapped m.regions)) c.part_places.result.now) (sym c.map.ensures.value)
    (subst (λ (ps : List Piece). All (IsMappedPiece (mapped p.given.memory_map.regions)) ps) (sym are)
    (All-filter has_bytes (IsMappedPiece (mapped p.given.memory_map.regions)) pieces (mapped-each p part s.0 is s.1)))

pub gather-requires-clause-no_bucket : goal.gather-requires-clause-no_bucket
gather-requires-clause-no_bucket g c =
    let p = c.args.plan.now in
    let part = c.args.part in
    let is = c.kind.ensures.is_plan in
    let s = slice_get-there (shares_made p) part c.requires.part in
    let known_is = ap (λ (j : Job). io_opcode (opcode_of j.sqe)) (sym c.job.ensures.value) ∙ sym c.io_opcode.ensures ∙ c.in-Some.is in
    let f = form-is p part s.0 is s.1 c.in-Some.opcode known_is ∙ source-form c.in-Some.opcode c.in-Write.is in
    let pieces = (own p part s.0 is s.1).pieces in
    let are = c.part_places.ensures.value s.0 s.1 ∙ places-bounced p part s.0 is s.1 false (sym c.kind.ensures.made ∙ c.in-Bounced.is) f in
    subst (λ (ps : List Piece). All NamesNoBucket ps) (sym are)
    (All-filter has_bytes NamesNoBucket pieces (no-bucket pieces (runs p part s.0 is s.1 f (own-work p part s.0 is s.1))))

pub gather-requires-clause-inside : goal.gather-requires-clause-inside
gather-requires-clause-inside g c =
    let p = c.args.plan.now in
    let part = c.args.part in
    let is = c.kind.ensures.is_plan in
    let s = slice_get-there (shares_made p) part c.requires.part in
    let known_is = ap (λ (j : Job). io_opcode (opcode_of j.sqe)) (sym c.job.ensures.value) ∙ sym c.io_opcode.ensures ∙ c.in-Some.is in
    let f = form-is p part s.0 is s.1 c.in-Some.opcode known_is ∙ source-form c.in-Some.opcode c.in-Write.is in
    let pieces = (own p part s.0 is s.1).pieces in
    let are = c.part_places.ensures.value s.0 s.1 ∙ places-bounced p part s.0 is s.1 false (sym c.kind.ensures.made ∙ c.in-Bounced.is) f in
    let same : total_len c.part_places.result.now ≡ total_len pieces = ap total_len are ∙ filter-total pieces in
    let most = few p part s.0 is s.1 in
    let room = c.requires.inside in
    λ some. omega (arith, most, same, room)

pub gather-requires-clause-apart : goal.gather-requires-clause-apart
gather-requires-clause-apart g c =
    let p = c.args.plan.now in
    let part = c.args.part in
    let is = c.kind.ensures.is_plan in
    let s = slice_get-there (shares_made p) part c.requires.part in
    let known_is = ap (λ (j : Job). io_opcode (opcode_of j.sqe)) (sym c.job.ensures.value) ∙ sym c.io_opcode.ensures ∙ c.in-Some.is in
    let f = form-is p part s.0 is s.1 c.in-Some.opcode known_is ∙ source-form c.in-Some.opcode c.in-Write.is in
    let pieces = (own p part s.0 is s.1).pieces in
    let are = c.part_places.ensures.value s.0 s.1 ∙ places-bounced p part s.0 is s.1 false (sym c.kind.ensures.made ∙ c.in-Bounced.is) f in
    let same : total_len c.part_places.result.now ≡ total_len pieces = ap total_len are ∙ filter-total pieces in
    let most = few p part s.0 is s.1 in
    subst (λ (m : Mapping). span_met m.regions c.args.bounce (total_len c.part_places.result.now) ≡ false) (sym c.map.ensures.value)
    (span_met-part p.given.memory_map.regions c.args.bounce most_bytes c.args.bounce (total_len c.part_places.result.now) c.requires.apart (omega arith)
    (omega (arith, most, same)))

pub store_ranges-requires : goal.store_ranges-requires
store_ranges-requires g c =
    let p = c.args.plan.now in
    let part = c.args.part in
    let is = c.kind.ensures.is_plan in
    let s = slice_get-there (shares_made p) part c.requires.part in
    let known_is = ap (λ (j : Job). io_opcode (opcode_of j.sqe)) (sym c.job.ensures.value) ∙ sym c.io_opcode.ensures ∙ c.in-Some.is in
    let f = form-is p part s.0 is s.1 c.in-Some.opcode known_is ∙ ap form_of c.in-DatasetManagement.is in
    let many = ap length (c.part_ranges.ensures.value s.0 s.1) ∙ ranges-count p part s.0 is s.1 f in
    let most = few-ranges p part s.0 is s.1 f in
    let room = c.requires.inside in
    omega (arith, many, most, room)

pub returns-in-Write-clause-bytes : goal.returns-in-Write-clause-bytes
returns-in-Write-clause-bytes g c = λ share at.
    let p = c.args.plan.now in
    let part = c.args.part in
    let is = c.kind.ensures.is_plan in
    let known_is = ap (λ (j : Job). io_opcode (opcode_of j.sqe)) (sym c.job.ensures.value) ∙ sym c.io_opcode.ensures ∙ c.in-Some.is in
    let f = form-is p part share is at c.in-Some.opcode known_is ∙ source-form c.in-Some.opcode c.in-Write.is in
    let before = byte_in (g.C.MemoryCell.bytes c.args.host.now) in
    c.gather.ensures.bytes
    ∙ ap (λ (m : Mapping). stored before c.args.bounce (gathered (image m.regions before) (places_of c.part_places.result.now))) c.map.ensures.value
    ∙ ap (λ (ps : List Piece). stored before c.args.bounce (gathered (image p.given.memory_map.regions before) (places_of ps))) (c.part_places.ensures.value share at)
    ∙ ap (stored before c.args.bounce) (sym (source-bytes p part share is at before (sym c.kind.ensures.made ∙ c.in-Bounced.is) f))

pub returns-in-DatasetManagement-clause-bytes : goal.returns-in-DatasetManagement-clause-bytes
returns-in-DatasetManagement-clause-bytes g c = λ share at.
    let p = c.args.plan.now in
    let part = c.args.part in
    let is = c.kind.ensures.is_plan in
    let known_is = ap (λ (j : Job). io_opcode (opcode_of j.sqe)) (sym c.job.ensures.value) ∙ sym c.io_opcode.ensures ∙ c.in-Some.is in
    let f = form-is p part share is at c.in-Some.opcode known_is ∙ ap form_of c.in-DatasetManagement.is in
    let before = byte_in (g.C.MemoryCell.bytes c.args.host.now) in
    c.store_ranges.ensures.bytes
    ∙ ap (λ (rs : List (List ℕ)). stored before c.args.bounce (flat_map (λ (r : List ℕ). r) rs)) (c.part_ranges.ensures.value share at)
    ∙ ap (stored before c.args.bounce) (sym (range-bytes p part share is at before f))

pub returns-in-Read-clause-bytes : goal.returns-in-Read-clause-bytes
returns-in-Read-clause-bytes g c = λ share at.
    let p = c.args.plan.now in
    let part = c.args.part in
    let is = c.kind.ensures.is_plan in
    let e = sym c.kind.ensures.made ∙ c.in-Bounced.is in
    let known_is = ap (λ (j : Job). io_opcode (opcode_of j.sqe)) (sym c.job.ensures.value) ∙ sym c.io_opcode.ensures ∙ c.in-Some.is in
    let form = form-is p part share is at c.in-Some.opcode known_is in
    let before = byte_in (g.C.MemoryCell.bytes c.args.host.now) in
    stored-none before c.args.bounce _
    (elim c.in-Read.is [
      | inl read ↦ other-bytes p part share is at before e (Transfer true) (form ∙ ap form_of read) refl
      | inr (inl flush) ↦ other-bytes p part share is at before e Keep (form ∙ ap form_of flush) refl
      | inr (inr zeroes) ↦ other-bytes p part share is at before e Clear (form ∙ ap form_of zeroes) refl
    ])
