-- The units of a share's own work move what the whole's units of their numbers do.
use Rattle.std.proofs.Common.{◌≡◌, ℕ, ◌<◌, ◌||◌, List, [], ◌∷◌, ◌++◌, All, flat_map, length, slice_get, Some, option_to_list}
use Rattle.std.proofs.Common.{arith, refl, sym, ap, ◌∙◌, subst}
use Rattle.std.specs.List.{cons_option, filter_map}
use Rattle.std.proofs.lemmas.List.Elements.{All-contains, All-head, All-tail}
use Rattle.nv_mem.specs.GuestMap.{mapped}
use Rattle.nv_model.specs.Carried.{moved_on, units_moved}
use Rattle.nv_model.specs.Judge.{Form, Work, WorkUnit, form_of}
use Rattle.nv_model.specs.Private.{Moved}
use Rattle.nv_model.proofs.AnyAnswers.{end-sound}
use Rattle.nv_mem.specs.declared.region.Region.{Region}
use Rattle.nv_world_model.specs.Geometry.{Guest, regions_of, shape_of}
use Rattle.nv_world_model.specs.Plan.{Answer, Bounced, Direct, NoData, Plan, go_plan}
use Rattle.nv_world_model.specs.Seat.{work_of as model_work_of}
use Rattle.nv_world_model.specs.Share.{Share, shares_of}
use Rattle.nv_world_model.specs.SharesLaws.{IsPartOf, IsShareOf, MovesAlike}
use Rattle.nv_world_model.proofs.ShareWholes.{shares_of-parts}
use Rattle.nv_world_model.specs.Seat.{form_numbers, numbers_by, units_behind, work_of}
use Rattle.nv_laws_sound.specs.Consistent.{IsPlanned}
use Rattle.nv_laws_sound.proofs.Lists.{slice_get-there, some-same}
use Rattle.nv_laws_sound.proofs.PlanSizes.{go_plan-kinds}
use Rattle.nv_laws.specs.Units.{own_units, part_units}
use Rattle.nv_laws.proofs.units.Runs.{places-below}

-- ---- whose part it is

-- both worlds say alike what a plan's work is
same-work : (plan : Plan) → model_work_of plan ≡ work_of plan
same-work (Answer st) = refl
same-work (NoData work) = refl
same-work (Direct work) = refl
same-work (Bounced work) = refl

-- a share that is planned is a part of its command's work
pub part-of : (guest : Guest) (entry : List ℕ) (share : Share) (is : IsPlanned guest entry share) (own : Work) → work_of share.plan ≡ Some own
    → IsPartOf is.work own share.numbers
part-of guest entry share is own goes =
    let sound = end-sound (mapped (regions_of guest)) guest.limit (shape_of guest).blocks entry is.work is.verdict in
    let part : IsShareOf is.work share =
    All-contains (IsShareOf is.work) (shares_of guest.namespace entry share.whole) share
    (subst (λ p. All (IsShareOf is.work) (shares_of guest.namespace entry p)) (sym is.whole_is)
    (shares_of-parts (regions_of guest) (mapped (regions_of guest)) guest.namespace entry is.work sound)) is.is_share in
    subst (λ w. IsPartOf is.work w share.numbers) (some-same part.0 own (sym part.1.0 ∙ same-work share.plan ∙ goes)) part.1.1

-- the work of a plan
go-work : (form : Form) (regions : List Region) (work : Work) → work_of (go_plan form regions work) ≡ Some work
go-work form regions work =
    go_plan-kinds (λ p. work_of p ≡ Some work) form regions work (λ none. refl) (λ buffer has fits. refl) (λ buffer. refl)

-- is the command's
pub whole-work : (guest : Guest) (entry : List ℕ) (share : Share) (is : IsPlanned guest entry share) → work_of share.whole ≡ Some is.work
whole-work guest entry share is = ap work_of is.whole_is ∙ go-work (form_of is.work.opcode) (regions_of guest) is.work

-- ---- what they move

-- a unit moves what the other does
on-alike : (whole own : Work) (unit other : WorkUnit) (m : Moved) → MovesAlike whole own unit other → moved_on unit whole m ≡ moved_on other own m
on-alike whole own unit other m alike =
    ap (λ (n : Moved). record { memory = n.memory; disk = n.disk; kept = n.kept; differed = m.differed || n.differed })
    (sym (alike.same m.memory m.disk m.kept))

-- so do those of these places, in order
parts-moved : (whole own : Work) (numbers : List ℕ) → IsPartOf whole own numbers → (ks : List ℕ) → All (λ k. k < length numbers) ks → (m : Moved)
    → units_moved (flat_map (λ n. option_to_list (slice_get whole.units n)) (filter_map (slice_get numbers) ks)) whole m
    ≡ units_moved (flat_map (λ k. option_to_list (slice_get own.units k)) ks) own m
unfolding units_moved
parts-moved whole own numbers part [] below m = refl
parts-moved whole own numbers part (k ∷ ks) below m =
    let there = slice_get-there numbers k (All-head (λ j. j < length numbers) k ks below) in
    let each = part.each k there.0 there.1 in
    let unit : WorkUnit = each.0 in
    let other : WorkUnit = each.1.0 in
    let rest : List ℕ = filter_map (slice_get numbers) ks in
    ap (λ o. units_moved (flat_map (λ n. option_to_list (slice_get whole.units n)) (cons_option o rest)) whole m) there.1
    ∙ ap (λ o. units_moved (option_to_list o ++ flat_map (λ n. option_to_list (slice_get whole.units n)) rest) whole m) each.1.1.0
    ∙ ap (units_moved (flat_map (λ n. option_to_list (slice_get whole.units n)) rest) whole) (on-alike whole own unit other m each.1.1.2)
    ∙ parts-moved whole own numbers part ks (All-tail (λ j. j < length numbers) k ks below) (moved_on other own m)
    ∙ sym (ap (λ o. units_moved (option_to_list o ++ flat_map (λ j. option_to_list (slice_get own.units j)) ks) own m) each.1.1.1)

-- a unit of the device's
pub own-moved : (whole own : Work) (share : Share) (unit : ℕ) (m : Moved) → work_of share.plan ≡ Some own → IsPartOf whole own share.numbers
    → length (form_numbers (form_of own.opcode) own) ≡ length own.units
    → units_moved (own_units whole share unit) whole m ≡ units_moved (part_units own unit) own m
unfolding units_behind
own-moved whole own share unit m goes part count =
    let size = part.size in
    ap (λ o. units_moved (flat_map (λ n. option_to_list (slice_get whole.units n)) (numbers_by o share.numbers (unit ∷ []))) whole m) goes
    ∙ parts-moved whole own share.numbers part (units_behind own (unit ∷ []))
    (subst (λ n. All (λ k. k < n) (units_behind own (unit ∷ []))) (omega (arith, count, size))
    (places-below (unit ∷ []) 0 (form_numbers (form_of own.opcode) own))) m
