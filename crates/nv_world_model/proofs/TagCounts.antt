-- A command that goes has as many shares as its fields take tags, and these are no more than the extents.
use Rattle.std.proofs.Common.{◌≡◌, ℕ, ◌+◌, ◌<◌, ◌≤◌, Bool, true, false, cond, not, ◌==◌, List, [], ◌∷◌, length, Option, Some, None, refl}
use Rattle.std.proofs.Common.{ap, sym, ◌∙◌, subst, arith}
use Rattle.std.specs.List.{enumerate_from, sum_by}
use Rattle.std.proofs.lemmas.List.{length-map}
use Rattle.std.proofs.lemmas.List.FromFn.{length-enumerate_from}
use Rattle.nv_entry.specs.Opcode.{io_opcode}
use Rattle.nv_entry.specs.Submission.{fuse_of, opcode_of, slba_of}
use Rattle.nv_entry.specs.declared.opcode.IoOpcode.{IoOpcode}
use Rattle.nv_entry.specs.declared.status_code.StatusCode.{StatusCode}
use Rattle.nv_entry.specs.declared.status_code.StatusCode.TheVariants.{InvalidField}
use Rattle.nv_mem.specs.declared.region.Region.{Region}
use Rattle.nv_ns.specs.BlockRange.{InNamespace, in_namespace}
use Rattle.nv_ns.specs.Extents.{Cut, Namespace, Placed, blocks_in, cuts, placed}
use Rattle.nv_ns.proofs.CutWalk.{cuts-walk}
use Rattle.nv_ns.proofs.Ranges.{InNamespace-tested}
use Rattle.nv_ns.proofs.Spelled.{walk-few, walk-sums}
use Rattle.nv_model.specs.Endings.{MayEndIn}
use Rattle.nv_model.specs.Judge.{Clear, Form, Go, Keep, Manage, Transfer, Work, count_of, field_refusal, form_has_blocks, form_of, has_blocks}
use Rattle.nv_model.specs.Judge.{judge, judge_fields, refusal_by_opcode}
use Rattle.nv_model.proofs.AnyAnswers.{end-sound}
use Rattle.nv_model.proofs.Endings.{and-false, not-false}
use Rattle.nv_model.proofs.Judged.{refusal_by_opcode-none}
use Rattle.nv_prp.specs.Fits.{places_fit}
use Rattle.nv_world_model.specs.Plan.{Bounced, Direct, NoData, Plan, go_plan, plan_of, transfer_plan}
use Rattle.nv_world_model.specs.Share.{block_share, form_tags, range_share, shares_by, shares_of, tags_by, tags_of_entry}

-- ---- as many as shares

length-placed : (before : ℕ) (ns : Namespace) → length (placed before ns) ≡ length ns
length-placed before [] = refl
length-placed before (extent ∷ rest) = let more = length-placed (before + extent.blocks) rest in cc

length-shares_by : (form : Form) (ns : Namespace) (entry : List ℕ) (plan : Plan) (work : Work)
    → length (shares_by form ns entry plan work) ≡ form_tags form ns entry
length-shares_by (Transfer dest) ns entry plan work = length-map (cuts ns (slba_of entry) (count_of entry)) (block_share plan work)
length-shares_by Clear ns entry plan work = length-map (cuts ns (slba_of entry) (count_of entry)) (block_share plan work)
length-shares_by Manage ns entry plan work =
    length-map (enumerate_from 0 (placed 0 ns)) (λ (p : ℕ × Placed). range_share plan work p.0 p.1)
    ∙ length-enumerate_from 0 (placed 0 ns) ∙ length-placed 0 ns
length-shares_by Keep ns entry plan work = refl

length-go : (form : Form) (regions : List Region) (ns : Namespace) (entry : List ℕ) (work : Work)
    → length (shares_of ns entry (go_plan form regions work)) ≡ form_tags (form_of work.opcode) ns entry
length-go (Transfer dest) regions ns entry work =
    elim (places_fit regions work.pieces) as (λ b. length (shares_of ns entry (transfer_plan b work)) ≡ form_tags (form_of work.opcode) ns entry) [
      | true ↦ length-shares_by (form_of work.opcode) ns entry (Direct work) work
      | false ↦ length-shares_by (form_of work.opcode) ns entry (Bounced work) work
    ]
length-go Clear regions ns entry work = length-shares_by (form_of work.opcode) ns entry (NoData work) work
length-go Manage regions ns entry work = length-shares_by (form_of work.opcode) ns entry (Bounced work) work
length-go Keep regions ns entry work = length-shares_by (form_of work.opcode) ns entry (NoData work) work

-- a command that goes isn't refused by its fields
not-refused : (refusal : Option StatusCode) (mapped : ℕ → Bool) (limit blocks : ℕ) (entry : List ℕ) (work : Work)
    → MayEndIn (judge_fields refusal mapped limit blocks entry) (Go work) → refusal ≡ None
not-refused (Some code) mapped limit blocks entry work may = cc
not-refused None mapped limit blocks entry work may = refl

end-fields : (mapped : ℕ → Bool) (limit blocks : ℕ) (entry : List ℕ) (work : Work)
    → MayEndIn (judge mapped limit blocks entry) (Go work) → field_refusal blocks entry ≡ None
unfolding judge
end-fields mapped limit blocks entry work may = not-refused (field_refusal blocks entry) mapped limit blocks entry work may

pub shares_of-tags : (regions : List Region) (mapped : ℕ → Bool) (limit : ℕ) (ns : Namespace) (entry : List ℕ) (work : Work)
    → MayEndIn (judge mapped limit (blocks_in ns) entry) (Go work)
    → length (shares_of ns entry (plan_of regions (Go work))) ≡ tags_of_entry ns entry
shares_of-tags regions mapped limit ns entry work goes =
    let fields = end-fields mapped limit (blocks_in ns) entry work goes in
    let known = (end-sound mapped limit (blocks_in ns) entry work goes).opcode in
    let by_fields = ap (λ (o : Option StatusCode). tags_by o (io_opcode (opcode_of entry)) ns entry) fields
    ∙ ap (λ (o : Option IoOpcode). tags_by None o ns entry) known in
    length-go (form_of work.opcode) regions ns entry work ∙ sym by_fields

-- ---- from one to as many as extents

-- so many, at least one and at most `most`
abbrev IsSome : (most count : ℕ) → Type 0
IsSome most count = (1 ≤ count) × (count ≤ most)

some-cuts : (parts : List Cut) (count : ℕ) → sum_by (λ (c : Cut). c.count) parts ≡ count → 0 < count → 1 ≤ length parts
some-cuts [] count sums some = absurd (omega arith)
some-cuts (cut ∷ rest) count sums some = omega arith

cuts-some : (ns : Namespace) (slba count : ℕ) → InNamespace slba count (blocks_in ns) → 0 < count → IsSome (length ns) (length (cuts ns slba count))
cuts-some ns slba count within some =
    let all = ap (λ (parts : List Cut). sum_by (λ (c : Cut). c.count) parts) (cuts-walk ns slba count) ∙ walk-sums 0 ns slba count (omega arith) in
    let few = walk-few 0 ns slba count in
    let same = ap (λ (parts : List Cut). length parts) (cuts-walk ns slba count) in
    (some-cuts (cuts ns slba count) count all some, omega arith)

form_tags-some : (form : Form) (ns : Namespace) (entry : List ℕ) → 0 < length ns
    → (form_has_blocks form ≡ true → InNamespace (slba_of entry) (count_of entry) (blocks_in ns)) → IsSome (length ns) (form_tags form ns entry)
form_tags-some (Transfer dest) ns entry some within = cuts-some ns (slba_of entry) (count_of entry) (within refl) (omega arith)
form_tags-some Clear ns entry some within = cuts-some ns (slba_of entry) (count_of entry) (within refl) (omega arith)
form_tags-some Manage ns entry some within = (omega arith, omega arith)
form_tags-some Keep ns entry some within = (omega arith, omega arith)

-- what the fields let pass, the checks of the opcode do
passed : (blocks : ℕ) (entry : List ℕ) (b : Bool) → cond (not b) (Some InvalidField) (refusal_by_opcode blocks entry (io_opcode (opcode_of entry))) ≡ None
    → refusal_by_opcode blocks entry (io_opcode (opcode_of entry)) ≡ None
passed blocks entry true none = none
passed blocks entry false none = cc

blocks-within : (blocks : ℕ) (entry : List ℕ) (opcode : IoOpcode) → field_refusal blocks entry ≡ None → io_opcode (opcode_of entry) ≡ Some opcode
    → has_blocks opcode ≡ true → InNamespace (slba_of entry) (count_of entry) blocks
blocks-within blocks entry opcode fields known has =
    let none = subst (λ (o : Option IoOpcode). refusal_by_opcode blocks entry o ≡ None) known (passed blocks entry (fuse_of entry == 0) fields) in
    InNamespace-tested (slba_of entry) (count_of entry) blocks
    (not-false (in_namespace (slba_of entry) (count_of entry) blocks)
    (and-false (has_blocks opcode) (not (in_namespace (slba_of entry) (count_of entry) blocks)) (refusal_by_opcode-none blocks entry opcode none) has))

tags_by-some : (refusal : Option StatusCode) (opcode : Option IoOpcode) (ns : Namespace) (entry : List ℕ) → 0 < length ns
    → field_refusal (blocks_in ns) entry ≡ refusal → io_opcode (opcode_of entry) ≡ opcode → IsSome (length ns) (tags_by refusal opcode ns entry)
tags_by-some (Some code) opcode ns entry some fields known = (omega arith, omega arith)
tags_by-some None None ns entry some fields known = (omega arith, omega arith)
tags_by-some None (Some opcode) ns entry some fields known =
    form_tags-some (form_of opcode) ns entry some (λ has. blocks-within (blocks_in ns) entry opcode fields known has)

pub tags_of_entry-some : (ns : Namespace) (entry : List ℕ) → 0 < length ns → (1 ≤ tags_of_entry ns entry) × (tags_of_entry ns entry ≤ length ns)
tags_of_entry-some ns entry some =
    tags_by-some (field_refusal (blocks_in ns) entry) (io_opcode (opcode_of entry)) ns entry some refl refl
