-- What the checks of a command's fields say
use Rattle.std.proofs.Common.{arith, ◌≡◌, ℕ, Bool, true, false, not, ◌&&◌, ◌==◌, nat_lt, cond, Option, Some, None, Ok, Err, List, [], ◌∷◌, refl, subst, ◌≤◌}
use Rattle.std.proofs.lemmas.Bool.Decides.{nat_tests}
use Rattle.nv_entry.specs.Opcode.{io_opcode}
use Rattle.nv_entry.specs.Submission.{opcode_of, psdt_of, fuse_of, slba_of, nsid_of}
use Rattle.nv_entry.specs.Status.{StatusField}
use Rattle.nv_entry.specs.StatusCode.{refused_with}
use Rattle.nv_entry.specs.declared.opcode.IoOpcode.{IoOpcode}
use Rattle.nv_entry.specs.declared.status_code.StatusCode.{StatusCode}
use Rattle.nv_entry.specs.declared.status_code.StatusCode.TheVariants.{InvalidField, InvalidNamespace, LbaOutOfRange}
use Rattle.nv_judge.specs.declared.need.Need.{Need}
use Rattle.nv_judge.specs.Need.{field_verdict, need_of, verdict_by}
use Rattle.nv_ns.specs.BlockRange.{in_namespace}
use Rattle.nv_model.specs.Reading.{first_failing}
use Rattle.nv_model.specs.Judge.{count_of, field_refusal, has_blocks, has_buffer, refusal_by_opcode}
use Rattle.nv_model.specs.Limits.{most_blocks}

-- ---- the verdict of the fields

-- an opcode that is unknown is refused
unknown-refused : (fused : Bool) (blocks : ℕ) (entry : List ℕ)
    → cond fused (Some InvalidField) (refusal_by_opcode blocks entry None) ≡ None → ⊥
unknown-refused true blocks entry e = (cc)
unknown-refused false blocks entry e = (cc)

-- where the fields do not refuse, the opcode is known
known-unless-refused : (blocks : ℕ) (entry : List ℕ) → field_refusal blocks entry ≡ None
    → io_opcode (opcode_of entry) ≡ None → ⊥
known-unless-refused blocks entry none unknown =
    let P : Option IoOpcode → Type 0 = λ o. cond (not (fuse_of entry == 0)) (Some InvalidField) (refusal_by_opcode blocks entry o) ≡ None in
    unknown-refused (not (fuse_of entry == 0)) blocks entry (subst P unknown none)

-- a refusal by the fields is the first failing check's
verdict_by-err : (refusal : Option StatusCode) (opcode : Option IoOpcode) (entry : List ℕ) (st : StatusField)
    → (refusal ≡ None → opcode ≡ None → ⊥)
    → verdict_by refusal opcode entry ≡ Err st → (code : StatusCode) × (refusal ≡ Some code) × (st ≡ refused_with code)
verdict_by-err (Some code) opcode entry st known e = (code, refl, (cc))
verdict_by-err None None entry st known e = absurd (known refl refl)
verdict_by-err None (Some opcode) entry st known e = (cc)

pub field_verdict-err : (blocks : ℕ) (entry : List ℕ) (st : StatusField)
    → field_verdict blocks entry ≡ Err st
    → (code : StatusCode) × (field_refusal blocks entry ≡ Some code) × (st ≡ refused_with code)
field_verdict-err blocks entry st e =
    verdict_by-err (field_refusal blocks entry) (io_opcode (opcode_of entry)) entry st (known-unless-refused blocks entry) e

-- a command that the fields do not refuse
verdict_by-ok : (refusal : Option StatusCode) (opcode : Option IoOpcode) (entry : List ℕ) (need : Need)
    → verdict_by refusal opcode entry ≡ Ok need
    → (refusal ≡ None) × ((known : IoOpcode) × (opcode ≡ Some known) × (need ≡ need_of entry known))
verdict_by-ok (Some code) opcode entry need e = (cc)
verdict_by-ok None None entry need e = (cc)
verdict_by-ok None (Some known) entry need e = (refl, (known, refl, (cc)))

pub field_verdict-ok : (blocks : ℕ) (entry : List ℕ) (need : Need)
    → field_verdict blocks entry ≡ Ok need
    → (field_refusal blocks entry ≡ None) × ((known : IoOpcode) × (io_opcode (opcode_of entry) ≡ Some known) × (need ≡ need_of entry known))
field_verdict-ok blocks entry need e =
    verdict_by-ok (field_refusal blocks entry) (io_opcode (opcode_of entry)) entry need e

-- ---- the blocks

-- the checks of a command whose range is not in the namespace fail
range-checked : (namespace buffer both inside : Bool)
    → first_failing ((namespace, InvalidNamespace) ∷ (buffer, InvalidField) ∷ (both, InvalidField) ∷ (not inside, LbaOutOfRange) ∷ []) ≡ None
    → inside ≡ true
range-checked true buffer both inside e = (cc)
range-checked false true both inside e = (cc)
range-checked false false true inside e = (cc)
range-checked false false false true e = refl
range-checked false false false false e = (cc)

-- the fields of a command that is not fused
not-fused : (fused : Bool) (rest : Option StatusCode) → cond fused (Some InvalidField) rest ≡ None → rest ≡ None
not-fused true rest e = (cc)
not-fused false rest e = e

-- a command over blocks that its fields do not refuse names blocks of the namespace
pub in-namespace : (blocks : ℕ) (entry : List ℕ) (opcode : IoOpcode) → field_refusal blocks entry ≡ None
    → io_opcode (opcode_of entry) ≡ Some opcode → has_blocks opcode ≡ true
    → in_namespace (slba_of entry) (count_of entry) blocks ≡ true
in-namespace blocks entry opcode none known ranged =
    let checked = not-fused (not (fuse_of entry == 0)) (refusal_by_opcode blocks entry (io_opcode (opcode_of entry))) none in
    let P : Option IoOpcode → Type 0 = λ o. refusal_by_opcode blocks entry o ≡ None in
    let Q : Bool → Type 0 =
    λ b. first_failing ((not (nsid_of entry == 1), InvalidNamespace) ∷ (has_buffer opcode && psdt_of entry == 3, InvalidField)
    ∷ (has_buffer opcode && b && nat_lt most_blocks (count_of entry), InvalidField) ∷ (b && not (in_namespace (slba_of entry) (count_of entry) blocks), LbaOutOfRange) ∷ []) ≡ None in
    range-checked (not (nsid_of entry == 1)) (has_buffer opcode && psdt_of entry == 3) (has_buffer opcode && true && nat_lt most_blocks (count_of entry))
    (in_namespace (slba_of entry) (count_of entry) blocks) (subst Q ranged (subst P known checked))

-- a transfer has at most 256 blocks
few-checked : (namespace buffer many inside : Bool)
    → first_failing ((namespace, InvalidNamespace) ∷ (buffer, InvalidField) ∷ (many, InvalidField) ∷ (inside, LbaOutOfRange) ∷ []) ≡ None
    → many ≡ false
few-checked true buffer many inside e = (cc)
few-checked false true many inside e = (cc)
few-checked false false true inside e = (cc)
few-checked false false false inside e = refl

pub count-at_most : (blocks : ℕ) (entry : List ℕ) (opcode : IoOpcode) → field_refusal blocks entry ≡ None
    → io_opcode (opcode_of entry) ≡ Some opcode → has_buffer opcode ≡ true → has_blocks opcode ≡ true
    → count_of entry ≤ 256
count-at_most blocks entry opcode none known buffer ranged =
    let checked = not-fused (not (fuse_of entry == 0)) (refusal_by_opcode blocks entry (io_opcode (opcode_of entry))) none in
    let P : Option IoOpcode → Type 0 = λ o. refusal_by_opcode blocks entry o ≡ None in
    let many : has_buffer opcode && has_blocks opcode && nat_lt most_blocks (count_of entry) ≡ false =
    few-checked (not (nsid_of entry == 1)) (has_buffer opcode && psdt_of entry == 3) (has_buffer opcode && has_blocks opcode && nat_lt most_blocks (count_of entry))
    (has_blocks opcode && not (in_namespace (slba_of entry) (count_of entry) blocks)) (subst P known checked) in
    let B : Bool → Type 0 = λ b. b && has_blocks opcode && nat_lt most_blocks (count_of entry) ≡ false in
    let R : Bool → Type 0 = λ b. true && b && nat_lt most_blocks (count_of entry) ≡ false in
    let few : nat_lt most_blocks (count_of entry) ≡ false = subst R ranged (subst B buffer many) in
    grind (arith, nat_tests)
