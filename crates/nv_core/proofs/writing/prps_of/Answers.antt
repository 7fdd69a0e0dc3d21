use Rattle.std.proofs.Common.{◌≡◌, ◌⊎◌, ◌∙◌, ℕ, All, List, true, arith, ap, sym, subst}
use Rattle.std.proofs.lemmas.List.Elements.{All-filter}
use Rattle.std.specs.List.{range_with_len}
use Rattle.nv_core.proofs.MadeParts.{bounced, direct, few, mapped-each, names-nothing, own, places-direct, some-bytes}
use Rattle.nv_core.proofs.WithBytes.{filter-addresses, filter-fit, filter-total}
use Rattle.nv_entry.specs.declared.status.Status.{Status}
use Rattle.nv_laws_sound.proofs.Lists.{slice_get-there}
use Rattle.nv_mem.specs.GuestMap.{Mapping, mapped}
use Rattle.nv_mem.specs.Places.{total_len}
use Rattle.nv_mem.specs.declared.piece.Piece.{Piece}
use Rattle.nv_model.specs.Laws.{IsMappedPiece}
use Rattle.nv_plan.specs.Made.{shares_made}
use Rattle.nv_plan.specs.Parts.{has_bytes, len_in}
use Rattle.nv_plan.specs.declared.kind.PlanKind.{PlanKind}
use Rattle.nv_plan.specs.declared.kind.PlanKind.TheVariants as kind
use Rattle.nv_prp.specs.Built.{built}
use Rattle.nv_prp.specs.Fits.{host_addresses, places_fit}
use Rattle.nv_world_model.specs.Area.{bounce_page, list_page, prps_of}
use Rattle.nv_world_model.specs.Plan.{Plan}
use Rattle.nv_core.proofs.writing.prps_of.Goals as goal

pub build-requires-clause-mapped : goal.build-requires-clause-mapped
build-requires-clause-mapped c =
    let p = c.args.plan.now in
    let part = c.args.part in
    let s = slice_get-there (shares_made p) part c.requires.part in
    let e = sym c.kind.ensures.made ∙ c.in-Direct.is in
    let pieces = (own p part s.0 c.kind.ensures.is_plan s.1).pieces in
    let are = c.part_places.ensures.value s.0 s.1 ∙ places-direct p part s.0 c.kind.ensures.is_plan s.1 e in
    subst (λ (m : Mapping). All (IsMappedPiece (mapped m.regions)) c.part_places.result.now) (sym c.map.ensures.value)
    (subst (λ (ps : List Piece). All (IsMappedPiece (mapped p.given.memory_map.regions)) ps) (sym are)
    (All-filter has_bytes (IsMappedPiece (mapped p.given.memory_map.regions)) pieces (mapped-each p part s.0 c.kind.ensures.is_plan s.1)))

pub build-requires-clause-fit : goal.build-requires-clause-fit
build-requires-clause-fit c =
    let p = c.args.plan.now in
    let part = c.args.part in
    let s = slice_get-there (shares_made p) part c.requires.part in
    let e = sym c.kind.ensures.made ∙ c.in-Direct.is in
    let pieces = (own p part s.0 c.kind.ensures.is_plan s.1).pieces in
    let are = c.part_places.ensures.value s.0 s.1 ∙ places-direct p part s.0 c.kind.ensures.is_plan s.1 e in
    subst (λ (m : Mapping). places_fit m.regions c.part_places.result.now ≡ true) (sym c.map.ensures.value)
    (subst (λ (ps : List Piece). places_fit p.given.memory_map.regions ps ≡ true) (sym are)
    (filter-fit p.given.memory_map.regions pieces (direct p part s.0 c.kind.ensures.is_plan s.1 e).1.1.1))

pub build-requires-clause-most : goal.build-requires-clause-most
build-requires-clause-most c =
    let p = c.args.plan.now in
    let part = c.args.part in
    let s = slice_get-there (shares_made p) part c.requires.part in
    let e = sym c.kind.ensures.made ∙ c.in-Direct.is in
    let pieces = (own p part s.0 c.kind.ensures.is_plan s.1).pieces in
    let most = few p part s.0 c.kind.ensures.is_plan s.1 in
    let same : total_len c.part_places.result.now ≡ total_len pieces =
    ap total_len (c.part_places.ensures.value s.0 s.1 ∙ places-direct p part s.0 c.kind.ensures.is_plan s.1 e) ∙ filter-total pieces in
    omega (arith, most, same)

pub build_run-requires-clause-some : goal.build_run-requires-clause-some
build_run-requires-clause-some c =
    let p = c.args.plan.now in
    let part = c.args.part in
    let s = slice_get-there (shares_made p) part c.requires.part in
    let e = sym c.kind.ensures.made ∙ c.in-Bounced.is in
    let some = some-bytes p part s.0 c.kind.ensures.is_plan s.1 e (c.requires.some s.0 s.1) in
    let long : c.part_len.result ≡ total_len (own p part s.0 c.kind.ensures.is_plan s.1).pieces =
    c.part_len.ensures.value s.0 s.1 ∙ ap len_in (bounced p part s.0 c.kind.ensures.is_plan s.1 e).0 in
    omega (arith, some, long)

pub returns-in-Answer-clause-value : goal.returns-in-Answer-clause-value
returns-in-Answer-clause-value c = λ share at.
    let p = c.args.plan.now in
    let list = list_page c.args.place.mediator c.args.place.lane c.args.place.tag in
    let bounce = bounce_page c.args.place.mediator c.args.place.lane c.args.place.tag in
    c.nothing.ensures list
    ∙ ap (built list) (sym (names-nothing p c.args.part share c.kind.ensures.is_plan at bounce
    (subst (λ (k : PlanKind). ((st : Status) × (k ≡ kind.Answer st)) ⊎ (k ≡ kind.NoData)) c.kind.ensures.made c.in-Answer.is)))

pub returns-in-Direct-clause-value : goal.returns-in-Direct-clause-value
returns-in-Direct-clause-value c = λ share at.
    let p = c.args.plan.now in
    let part = c.args.part in
    let e = sym c.kind.ensures.made ∙ c.in-Direct.is in
    let pieces = (own p part share c.kind.ensures.is_plan at).pieces in
    let list = list_page c.args.place.mediator c.args.place.lane c.args.place.tag in
    let bounce = bounce_page c.args.place.mediator c.args.place.lane c.args.place.tag in
    c.build.ensures
    ∙ ap (λ (n : ℕ). built n (host_addresses c.map.result.now.regions c.part_places.result.now)) c.list_page.ensures
    ∙ ap (λ (m : Mapping). built list (host_addresses m.regions c.part_places.result.now)) c.map.ensures.value
    ∙ ap (λ (ps : List Piece). built list (host_addresses p.given.memory_map.regions ps))
    (c.part_places.ensures.value share at ∙ places-direct p part share c.kind.ensures.is_plan at e)
    ∙ ap (built list) (filter-addresses p.given.memory_map.regions pieces)
    ∙ ap (λ (plan : Plan). prps_of plan p.given list bounce) (sym (direct p part share c.kind.ensures.is_plan at e).0)

pub returns-in-Bounced-clause-value : goal.returns-in-Bounced-clause-value
returns-in-Bounced-clause-value c = λ share at.
    let p = c.args.plan.now in
    let part = c.args.part in
    let e = sym c.kind.ensures.made ∙ c.in-Bounced.is in
    let list = list_page c.args.place.mediator c.args.place.lane c.args.place.tag in
    let bounce = bounce_page c.args.place.mediator c.args.place.lane c.args.place.tag in
    let b = bounced p part share c.kind.ensures.is_plan at e in
    c.build_run.ensures
    ∙ ap (λ (n : ℕ). built n (range_with_len c.bounce_page.result c.part_len.result)) c.list_page-in-Bounced.ensures
    ∙ ap (λ (n : ℕ). built list (range_with_len n c.part_len.result)) c.bounce_page.ensures
    ∙ ap (λ (n : ℕ). built list (range_with_len bounce n)) (c.part_len.ensures.value share at ∙ ap len_in b.0)
    ∙ ap (λ (plan : Plan). prps_of plan p.given list bounce) (sym b.0)
