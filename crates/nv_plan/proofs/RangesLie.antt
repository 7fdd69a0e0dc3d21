-- The ranges of a plan lie in the guest's namespace.
use Rattle.std.proofs.Common.{◌≡◌, ℕ, zero, suc, ◌+◌, ◌-◌, ◌/◌, ◌%◌, ◌^◌, ◌<◌, ◌≤◌, ◌==◌, min, max, cond, Bool, true, All, IsTrue, List, [], ◌∷◌, ◌++◌, length, map}
use Rattle.std.proofs.Common.{Option, Some, None, slice_get, inl, inr, arith, refl, sym, ap, subst, ◌∙◌}
use Rattle.std.specs.Bool.{⊤}
use Rattle.std.specs.List.{Contains, cons_option, list_all}
use Rattle.std.specs.Option.{option_map}
use Rattle.std.proofs.lemmas.Bool.{cases_eq}
use Rattle.std.proofs.lemmas.Bool.Decides.{nat_tests}
use Rattle.std.proofs.lemmas.List.Elements.{All-cons, All-head, All-nil, All-tail}
use Rattle.std.proofs.lemmas.Option.{get_or_from_slice_get, slice_get_within}
use Rattle.byteorder.specs.Numbers.{little_from-bytes}
use Rattle.nv_entry.specs.Layout.{dword, number_at, number_bytes, qword}
use Rattle.nv_entry.specs.Range.{blocks_of, start_of}
use Rattle.nv_mem.specs.GuestMap.{mapped}
use Rattle.nv_mem.specs.declared.region.Region.{Region}
use Rattle.nv_model.specs.Judge.{Clear, Form, Go, Keep, Manage, Transfer, Work, form_of, range_fits}
use Rattle.nv_model.proofs.Endings.{and-true}
use Rattle.nv_model.proofs.Judged.{IsSoundWork}
use Rattle.nv_ns.specs.BlockRange.{Extent}
use Rattle.nv_ns.specs.Extents.{Cut, Namespace, Placed, blocks_in, common, if_any, is_namespace, is_within, place_in, placed}
use Rattle.nv_ns.proofs.Ranges.{InNamespace-tested}
use Rattle.nv_world_model.specs.Area.{first_base, range_place, translated_range}
use Rattle.nv_world_model.specs.Geometry.{regions_of}
use Rattle.nv_world_model.specs.Plan.{Plan, plan_of}
use Rattle.nv_world_model.specs.Seat.{work_of}
use Rattle.nv_world_model.specs.Share.{Share, range_in, ranges_met, shares_of, whole_share}
use Rattle.nv_world_model.proofs.OneExtent.{shares_of-one}
use Rattle.nv_plan.specs.Laws.{LiesIn}
use Rattle.nv_plan.specs.Made.{IsJobsPlan, MadePlan, plan_made, share_made}
use Rattle.nv_plan.specs.Parts.{form_ranges, ranges_of}
use Rattle.nv_plan.proofs.MadeShares.{work-go}
use Rattle.nv_plan.proofs.MetRanges.{count-some, disk_bytes, first-placed, met-elsewhere, met-empty, met-none, met-some}
use Rattle.nv_plan.proofs.OwnParts.{OwnBy, made-own, own-ranges, part-ranges, with-whole}

-- a range on the disk: its bytes are read back, so far as they reach
range-start : (blocks lba : ℕ) → start_of (number_bytes 4 0 ++ number_bytes 4 blocks ++ number_bytes 8 lba) ≡ lba % 2 ^ 64
unfolding qword number_at
range-start blocks lba =
    let whole : lba / 256 ^ 0 ≡ lba = omega arith in
    little_from-bytes 8 0 lba [] ∙ ap (λ (n : ℕ). n % 2 ^ 64) whole

range-blocks : (blocks lba : ℕ) → blocks_of (number_bytes 4 0 ++ number_bytes 4 blocks ++ number_bytes 8 lba) ≡ blocks % 2 ^ 32
unfolding dword number_at
range-blocks blocks lba =
    let whole : blocks / 256 ^ 0 ≡ blocks = omega arith in
    little_from-bytes 4 0 blocks (number_bytes 8 lba) ∙ ap (λ (n : ℕ). n % 2 ^ 32) whole

lies : (extent : Extent) (made : List ℕ) (start blocks : ℕ) → extent.base + extent.blocks < 2 ^ 64
    → blocks ≤ extent.blocks → start ≤ extent.blocks - blocks
    → start_of made ≡ (extent.base + start) % 2 ^ 64 → blocks_of made ≡ blocks % 2 ^ 32
    → LiesIn (extent ∷ []) made
lies extent made start blocks small few low at many =
    record {
      some = λ some. (extent, ((0, omega arith, refl), omega arith, omega arith));
      none = λ none. (omega arith, omega arith);
    }

-- where the one extent has a range
range_place-one : (extent : Extent) (range : List ℕ) → range_fits (extent.blocks + 0) range ≡ true
    → range_place (extent ∷ []) range ≡ extent.base + start_of range
range_place-one extent range fits =
    let inside = InNamespace-tested (start_of range) (blocks_of range) (extent.blocks + 0) fits in
    by_count (blocks_of range) (start_of range) (omega (arith, inside.0, inside.1))
  where
    by_count : (blocks start : ℕ) → start + blocks ≤ extent.blocks
        → cond (blocks == 0) (extent.base + start) (place_in (extent ∷ []) start) ≡ extent.base + start
    by_count blocks start within = grind (arith, nat_tests)

-- a range that fits lies, translated, in the blocks of the one extent
range-lies : (extent : Extent) (range : List ℕ) → extent.base + extent.blocks < 2 ^ 64 → range_fits (extent.blocks + 0) range ≡ true
    → LiesIn (extent ∷ []) (translated_range (extent ∷ []) range)
range-lies extent range small fits =
    let inside = InNamespace-tested (start_of range) (blocks_of range) (extent.blocks + 0) fits in
    let at = range_place-one extent range fits in
    lies extent (translated_range (extent ∷ []) range) (start_of range) (blocks_of range) small (omega (arith, inside.0)) (omega (arith, inside.1, inside.0))
    (range-start (blocks_of range) (range_place (extent ∷ []) range) ∙ ap (λ (n : ℕ). n % 2 ^ 64) at)
    (range-blocks (blocks_of range) (range_place (extent ∷ []) range))

ranges-lie-one : (extent : Extent) (ranges : List (List ℕ)) → extent.base + extent.blocks < 2 ^ 64
    → list_all (range_fits (extent.blocks + 0)) ranges ≡ true → All (LiesIn (extent ∷ [])) (map (translated_range (extent ∷ [])) ranges)
ranges-lie-one extent [] small fit = All-nil (LiesIn (extent ∷ []))
ranges-lie-one extent (range ∷ ranges) small fit =
    let both = and-true (range_fits (extent.blocks + 0) range) (list_all (range_fits (extent.blocks + 0)) ranges) fit in
    All-cons (LiesIn (extent ∷ [])) (translated_range (extent ∷ []) range) (map (translated_range (extent ∷ [])) ranges)
    (range-lies extent range small both.0) (ranges-lie-one extent ranges small both.1)

-- and so each of some, in a namespace of one extent
pub ranges-lie : (ns : Namespace) (ranges : List (List ℕ)) → IsTrue (is_namespace ns) → length ns ≡ 1
    → list_all (range_fits (blocks_in ns)) ranges ≡ true → All (LiesIn ns) (map (translated_range ns) ranges)
ranges-lie [] ranges kept one fit = absurd (omega arith)
ranges-lie (extent ∷ []) ranges kept one fit =
    let few : extent.base + extent.blocks < 2 ^ 64 = grind (arith, nat_tests) in ranges-lie-one extent ranges few fit
ranges-lie (extent ∷ next ∷ rest) ranges kept one fit = absurd (omega arith)

-- with one extent the part is the whole
share-one : (ns : Namespace) (regions : List Region) (mapped : ℕ → Bool) (entry : List ℕ) (work : Work) (part : ℕ) (share : Share)
    → length ns ≡ 1 → IsSoundWork mapped (blocks_in ns) entry work
    → slice_get (shares_of ns entry (plan_of regions (Go work))) part ≡ Some share → share.plan ≡ plan_of regions (Go work)
share-one [] regions mapped entry work part share one sound there = absurd (omega arith)
share-one (extent ∷ []) regions mapped entry work part share one sound there =
    let blocks : extent.blocks + 0 ≡ extent.blocks = omega arith in
    first part (sym (ap (λ (shares : List Share). slice_get shares part)
    (shares_of-one regions mapped entry extent work (subst (λ (n : ℕ). IsSoundWork mapped n entry work) blocks sound))) ∙ there)
  where
    first : (k : ℕ) → slice_get (whole_share (plan_of regions (Go work)) work ∷ []) k ≡ Some share → share.plan ≡ plan_of regions (Go work)
    first zero e = (cc)
    first (suc k) e = absurd (cc)
share-one (extent ∷ next ∷ rest) regions mapped entry work part share one sound there = absurd (omega arith)

form-lie : (form : Form) (ns : Namespace) (work : Work) → IsTrue (is_namespace ns) → length ns ≡ 1
    → list_all (range_fits (blocks_in ns)) work.ranges ≡ true → All (LiesIn ns) (form_ranges form ns work)
form-lie (Transfer dest) ns work kept one fit = All-nil (LiesIn ns)
form-lie Clear ns work kept one fit = All-nil (LiesIn ns)
form-lie Manage ns work kept one fit = ranges-lie ns work.ranges kept one fit
form-lie Keep ns work kept one fit = All-nil (LiesIn ns)

pub ranges-one : (p : MadePlan) (part : ℕ) (share : Share) → IsJobsPlan p → IsTrue (is_namespace p.given.namespace)
    → length p.given.namespace ≡ 1 → share_made part p ≡ Some share → All (LiesIn p.given.namespace) (ranges_of p.given.namespace share.plan)
ranges-one p part share is kept one there =
    let m = made-own p part share is there in
    let same = share-one p.given.namespace (regions_of p.given) (mapped (regions_of p.given)) p.job.sqe m.work part share one m.goes.sound
    (sym (ap (λ (plan : Plan). slice_get (shares_of p.given.namespace p.job.sqe plan) part) m.goes.is) ∙ there) in
    subst (All (LiesIn p.given.namespace))
    (sym (ap (ranges_of p.given.namespace) (same ∙ with-whole (form_of m.work.opcode) (regions_of p.given) m.work)
    ∙ own-ranges (form_of m.work.opcode) (regions_of p.given) p.given.namespace m.work m.work refl))
    (form-lie (form_of m.work.opcode) p.given.namespace m.work kept one m.goes.sound.fit)

-- ---- in several extents

-- an extent that is placed is one of the namespace
placed-extent : (before : ℕ) (ns : Namespace) (k : ℕ) (at : Placed) → slice_get (placed before ns) k ≡ Some at → slice_get ns k ≡ Some at.extent
placed-extent before [] k at is = absurd (cc)
placed-extent before (extent ∷ rest) zero at is = ap (λ (o : Option Placed). option_map (λ (p : Placed). p.extent) o) is
placed-extent before (extent ∷ rest) (suc k) at is = placed-extent (before + extent.blocks) rest k at is

contains : (ns : Namespace) (k : ℕ) (extent : Extent) → slice_get ns k ≡ Some extent → Contains ns extent
contains ns k extent is = (k, slice_get_within ns k extent is, get_or_from_slice_get ns k extent extent is)

-- its blocks have numbers of 64 bits
within-at : (n : ℕ) (ns : Namespace) (k : ℕ) (extent : Extent) → list_all (is_within n) ns ≡ true → slice_get ns k ≡ Some extent
    → extent.base + n < 2 ^ 64
within-at n [] k extent each is = absurd (cc)
within-at n (e ∷ rest) zero extent each is =
    subst (λ (x : Extent). x.base + n < 2 ^ 64) (same extent is) (grind (arith, nat_tests))
  where
    same : (x : Extent) → Some e ≡ Some x → e ≡ x
    same x eq = cc
within-at n (e ∷ rest) (suc k) extent each is = within-at n rest k extent (and-true (is_within n e) (list_all (is_within n) rest) each).1 is

-- what lies there
lies-at : (ns : Namespace) (number : ℕ) (at : Placed) (cut : Cut) → slice_get (placed 0 ns) number ≡ Some at → IsTrue (is_namespace ns)
    → 0 < cut.count → cut.count < 2 ^ 32 → at.extent.base ≤ cut.start → cut.start + cut.count ≤ at.extent.base + at.extent.blocks
    → at.extent.base + blocks_in ns < 2 ^ 64 → at.extent.blocks ≤ blocks_in ns → LiesIn ns (disk_bytes cut.start cut.count)
lies-at ns number at cut is kept some short low high fits few =
    let start = range-start cut.count cut.start in
    let blocks = range-blocks cut.count cut.start in
    let there = contains ns number at.extent (placed-extent 0 ns number at is) in
    record {
      some = λ any. (at.extent, (there, omega arith, omega arith));
      none = λ none. absurd (omega arith);
    }

extent-few : (ns : Namespace) (k : ℕ) (extent : Extent) → slice_get ns k ≡ Some extent → extent.blocks ≤ blocks_in ns
extent-few [] k extent is = absurd (cc)
extent-few (e ∷ rest) zero extent is = let same : e.blocks ≡ extent.blocks = ap (λ (o : Option Extent). blocks_by o) is in omega arith
  where
    blocks_by : Option Extent → ℕ
    blocks_by None = 0
    blocks_by (Some x) = x.blocks
extent-few (e ∷ rest) (suc k) extent is = let on = extent-few rest k extent is in omega arith

namespace-within : (ns : Namespace) → IsTrue (is_namespace ns) → list_all (is_within (blocks_in ns)) ns ≡ true
namespace-within ns kept = grind (arith, nat_tests)

-- what an extent has of a range lies in the namespace
abbrev IfLies : Namespace → Option (List ℕ) → Type 0
IfLies ns None = ⊤
IfLies ns (Some range) = LiesIn ns range

empty-lies : (ns : Namespace) (start base : ℕ) → first_base ns ≡ base → start ≤ blocks_in ns → base + blocks_in ns < 2 ^ 64
    → LiesIn ns (disk_bytes (base + start) 0)
empty-lies ns start base first low fits =
    let at = range-start 0 (base + start) in
    let blocks = range-blocks 0 (base + start) in
    record {
      some = λ any. absurd (omega (arith, any));
      none = λ none. (omega arith, omega arith);
    }

range-met-lies : (ns : Namespace) (number : ℕ) (at : Placed) (range : List ℕ) → slice_get (placed 0 ns) number ≡ Some at → IsTrue (is_namespace ns)
    → range_fits (blocks_in ns) range ≡ true → blocks_of range < 2 ^ 32 → IfLies ns (option_map (translated_range ns) (range_in number at range))
range-met-lies ns number at range is kept fits short =
    let inside = InNamespace-tested (start_of range) (blocks_of range) (blocks_in ns) fits in
    let low = inside.0 in
    let high = inside.1 in
    let within = within-at (blocks_in ns) ns number at.extent (namespace-within ns kept) (placed-extent 0 ns number at is) in
    let few = extent-few ns number at.extent (placed-extent 0 ns number at is) in
    elim (cases_eq (blocks_of range) 0) [
      | inl none ↦ elim (cases_eq number 0) [
        | inl first ↦
            (let base = first-placed ns at (ap (slice_get (placed 0 ns)) (sym first) ∙ is) in
            subst (IfLies ns) (met-empty ns number at range is first none) (empty-lies ns (start_of range) at.extent.base base (omega arith) within))
        | inr behind ↦ subst (IfLies ns) (met-elsewhere ns number at range (omega (arith, behind)) none) tt
      ]
      | inr some ↦ by_cut (omega (arith, some)) (if_any (common at (start_of range) (blocks_of range))) refl low high within few
    ]
  where
    by_cut : 0 < blocks_of range → (o : Option Cut) → if_any (common at (start_of range) (blocks_of range)) ≡ o
        → blocks_of range ≤ blocks_in ns → start_of range ≤ blocks_in ns - blocks_of range
        → at.extent.base + blocks_in ns < 2 ^ 64 → at.extent.blocks ≤ blocks_in ns
        → IfLies ns (option_map (translated_range ns) (range_in number at range))
    by_cut some None meets low high within few = subst (IfLies ns) (met-none ns number at range some meets) tt
    by_cut some (Some cut) meets low high within few =
        let met = count-some (common at (start_of range) (blocks_of range)) cut meets in
        let has = met.0 in
        let start : at.extent.base + (start_of range - at.before) ≡ cut.start = ap (λ (c : Cut). c.start) met.1 in
        let count : min (start_of range + blocks_of range) (at.before + at.extent.blocks) - max (start_of range) at.before ≡ cut.count =
        ap (λ (c : Cut). c.count) met.1 in
        subst (IfLies ns) (met-some ns number at range cut is fits (omega arith) short some meets)
        (lies-at ns number at cut is kept has (omega arith) (omega arith) (omega arith) within few)

-- and so of all
ranges-met-lie : (ns : Namespace) (number : ℕ) (at : Placed) (ranges : List (List ℕ)) → slice_get (placed 0 ns) number ≡ Some at
    → IsTrue (is_namespace ns) → list_all (range_fits (blocks_in ns)) ranges ≡ true → All (λ range. blocks_of range < 2 ^ 32) ranges
    → All (LiesIn ns) (map (translated_range ns) (ranges_met number at ranges))
ranges-met-lie ns number at [] is kept fit short = All-nil (LiesIn ns)
ranges-met-lie ns number at (range ∷ rest) is kept fit short =
    let both = and-true (range_fits (blocks_in ns) range) (list_all (range_fits (blocks_in ns)) rest) fit in
    joined (range_in number at range)
    (range-met-lies ns number at range is kept both.0 (All-head (λ r. blocks_of r < 2 ^ 32) range rest short))
    (ranges-met-lie ns number at rest is kept both.1 (All-tail (λ r. blocks_of r < 2 ^ 32) range rest short))
  where
    joined : (o : Option (List ℕ)) → IfLies ns (option_map (translated_range ns) o)
        → All (LiesIn ns) (map (translated_range ns) (ranges_met number at rest))
        → All (LiesIn ns) (map (translated_range ns) (cons_option o (ranges_met number at rest)))
    joined None lie others = others
    joined (Some r) lie others = All-cons (LiesIn ns) (translated_range ns r) (map (translated_range ns) (ranges_met number at rest)) lie others

form-apart : (form : Form) (p : MadePlan) (work own : Work) (part : ℕ) → IsTrue (is_namespace p.given.namespace)
    → list_all (range_fits (blocks_in p.given.namespace)) work.ranges ≡ true → All (λ range. blocks_of range < 2 ^ 32) work.ranges
    → OwnBy form p.given.namespace p.job.sqe work part own → All (LiesIn p.given.namespace) (form_ranges form p.given.namespace own)
form-apart (Transfer dest) p work own part kept fit short c = All-nil (LiesIn p.given.namespace)
form-apart Clear p work own part kept fit short c = All-nil (LiesIn p.given.namespace)
form-apart Manage p work own part kept fit short c =
    subst (λ (rs : List (List ℕ)). All (LiesIn p.given.namespace) (map (translated_range p.given.namespace) rs)) (sym c.ranges)
    (ranges-met-lie p.given.namespace part c.at work.ranges c.there kept fit short)
form-apart Keep p work own part kept fit short c = All-nil (LiesIn p.given.namespace)

pub ranges-apart : (p : MadePlan) (part : ℕ) (share : Share) (work : Work) → IsJobsPlan p → IsTrue (is_namespace p.given.namespace)
    → share_made part p ≡ Some share → work_of (plan_made p) ≡ Some work → All (λ range. blocks_of range < 2 ^ 32) work.ranges
    → All (LiesIn p.given.namespace) (ranges_of p.given.namespace share.plan)
ranges-apart p part share work is kept there has short =
    let m = made-own p part share is there in
    let same : work ≡ m.work = some_same work m.work (sym has ∙ ap work_of m.goes.is ∙ work-go (form_of m.work.opcode) (regions_of p.given) m.work) in
    subst (All (LiesIn p.given.namespace)) (sym (part-ranges p part share m))
    (form-apart (form_of m.work.opcode) p m.work m.part_is.own part kept m.goes.sound.fit
    (subst (λ (w : Work). All (λ range. blocks_of range < 2 ^ 32) w.ranges) same short) m.part_is.by_form)
  where
    some_same : (a b : Work) → Some a ≡ Some b → a ≡ b
    some_same a b e = cc
