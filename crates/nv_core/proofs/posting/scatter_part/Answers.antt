use Rattle.std.proofs.Common.{◌∙◌, ℕ, List, All, length, ap, sym, subst}
use Rattle.nv_core.proofs.Delivers.{part-apart, part-bytes, part-inside, part-mapped}
use Rattle.nv_laws_sound.proofs.Lists.{slice_get-there}
use Rattle.nv_mem.specs.Bytes.{InMemory}
use Rattle.nv_mem.specs.GuestMap.{mapped, span_met}
use Rattle.nv_mem.specs.Places.{places_of, total_len}
use Rattle.nv_mem.specs.declared.piece.Piece.{Piece}
use Rattle.nv_model.specs.Laws.{IsMappedPiece}
use Rattle.nv_model.specs.Memory.{byte_in, bytes_from, image, put_image, scattered}
use Rattle.nv_plan.specs.Made.{shares_made}
use Rattle.nv_world_model.specs.Area.{bounce_page}
use Rattle.nv_core.proofs.posting.scatter_part.Goals as goal

pub scatter-requires-clause-mapped : goal.scatter-requires-clause-mapped
scatter-requires-clause-mapped g c =
    let share = slice_get-there (shares_made c.args.plan.now) c.args.part c.requires.part in
    let bounce = bounce_page c.args.place.mediator c.args.place.lane c.args.place.tag in
    subst (All (IsMappedPiece (mapped c.args.map.now.regions))) (sym (c.part_places.ensures.value share.0 share.1))
    (part-mapped share.0.plan bounce (length (g.C.MemoryCell.bytes c.args.host.now)) c.args.map.now.regions (c.requires.read share.0 share.1))

pub scatter-requires-clause-inside : goal.scatter-requires-clause-inside
scatter-requires-clause-inside g c =
    let share = slice_get-there (shares_made c.args.plan.now) c.args.part c.requires.part in
    let bounce = bounce_page c.args.place.mediator c.args.place.lane c.args.place.tag in
    subst (λ (at : ℕ). InMemory (length (g.C.MemoryCell.bytes c.args.host.now)) at (total_len c.part_places.result.now)) (sym c.bounce_page.ensures)
    (subst (λ (ps : List Piece). InMemory (length (g.C.MemoryCell.bytes c.args.host.now)) bounce (total_len ps)) (sym (c.part_places.ensures.value share.0 share.1))
    (part-inside share.0.plan bounce (length (g.C.MemoryCell.bytes c.args.host.now)) c.args.map.now.regions (c.requires.read share.0 share.1)))

pub scatter-requires-clause-apart : goal.scatter-requires-clause-apart
scatter-requires-clause-apart g c =
    let share = slice_get-there (shares_made c.args.plan.now) c.args.part c.requires.part in
    let bounce = bounce_page c.args.place.mediator c.args.place.lane c.args.place.tag in
    ap (λ (at : ℕ). span_met c.args.map.now.regions at (total_len c.part_places.result.now)) c.bounce_page.ensures
    ∙ ap (λ (ps : List Piece). span_met c.args.map.now.regions bounce (total_len ps)) (c.part_places.ensures.value share.0 share.1)
    ∙ part-apart share.0.plan bounce (length (g.C.MemoryCell.bytes c.args.host.now)) c.args.map.now.regions (c.requires.read share.0 share.1)

pub returns-clause-bytes : goal.returns-clause-bytes
returns-clause-bytes g c = λ share is.
    let bounce = bounce_page c.args.place.mediator c.args.place.lane c.args.place.tag in
    let regions = c.args.map.now.regions in
    let host = byte_in (g.C.MemoryCell.bytes c.args.host.now) in
    c.scatter.ensures.bytes
    ∙ ap (λ (at : ℕ). put_image regions (scattered (image regions host) (places_of c.part_places.result.now) (bytes_from host at (total_len c.part_places.result.now))) host)
    c.bounce_page.ensures
    ∙ ap (λ (ps : List Piece). put_image regions (scattered (image regions host) (places_of ps) (bytes_from host bounce (total_len ps))) host)
    (c.part_places.ensures.value share is)
    ∙ part-bytes share.plan bounce (length (g.C.MemoryCell.bytes c.args.host.now)) regions (c.requires.read share is) host
