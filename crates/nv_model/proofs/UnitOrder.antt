-- Where a command is no Read, the order of its units makes no difference.
use Rattle.std.proofs.Common.{◌≡◌, ℕ, zero, suc, ◌+◌, Bool, true, false, cond, ◌||◌, ◌==◌, nat_lt, List, [], ◌∷◌, All, IfSome, Option, Some, drop, remove}
use Rattle.std.proofs.Common.{replicate, slice_get, take, refl, sym, ap, subst, ◌∙◌, arith, eqb-true, inl, inr}
use Rattle.std.proofs.lemmas.Bool.{cases_eq}
use Rattle.std.proofs.lemmas.List.Elements.{All-append, All-drop, All-head, All-tail, All-take}
use mathlib.Core.Path.{fun_ext}
use Rattle.nv_entry.specs.declared.opcode.IoOpcode.{IoOpcode}
use Rattle.nv_entry.specs.declared.opcode.IoOpcode.TheVariants.{Flush, Write, Read, Compare, WriteZeroes, DatasetManagement}
use Rattle.nv_model.specs.Memory.{gathered, stored}
use Rattle.nv_entry.specs.Submission.{slba_of}
use Rattle.nv_model.specs.Judge.{Form, Transfer, Clear, Manage, Keep, WorkUnit, MoveBlock, ClearBlock, LeaveBlock, KeepAll, Work, form_is_read, form_of}
use Rattle.nv_model.specs.Limits.{block}
use Rattle.nv_model.specs.Private.{Moved, block_bytes, block_moved, differs, marked, places_of_block, unit_moved}
use Rattle.nv_model.specs.Carried.{moved_on, units_moved}
use Rattle.nv_model.specs.Laws.{IsOrderOf}
use Rattle.nv_model.proofs.Units.{IsUnitOf}
use Rattle.nv_model.proofs.StepsAlike.{slice_get-has}

-- ---- what is changed at two places

-- equal in each part
same_parts : (m n : ℕ → ℕ) (d e : ℕ → ℕ → ℕ) (k l : ℕ → Bool) (x y : Bool) → m ≡ n → d ≡ e → k ≡ l → x ≡ y
    → ◌≡◌ {A = Moved} (record { memory = m; disk = d; kept = k; differed = x }) (record { memory = n; disk = e; kept = l; differed = y })
same_parts m n d e k l x y same_memory same_disk same_marks same_differed =
    ap (λ (z : ℕ → ℕ). let r : Moved = record { memory = z; disk = d; kept = k; differed = x } in r) same_memory
    ∙ ap (λ (z : ℕ → ℕ → ℕ). let r : Moved = record { memory = n; disk = z; kept = k; differed = x } in r) same_disk
    ∙ ap (λ (z : ℕ → Bool). let r : Moved = record { memory = n; disk = e; kept = z; differed = x } in r) same_marks
    ∙ ap (λ (z : Bool). let r : Moved = record { memory = n; disk = e; kept = l; differed = z } in r) same_differed

-- what is written at two places, in either order
swapped : {A : Type 0} (at one other : ℕ) (x y z : A) → (one ≡ other → ⊥)
    → cond (at == one) x (cond (at == other) y z) ≡ cond (at == other) y (cond (at == one) x z)
swapped at one other x y z apart =
    (elim (at == one) as (λ p. (at == one) ≡ p → cond p x (cond (at == other) y z) ≡ cond (at == other) y (cond p x z)) [
      | true ↦ λ is.
          (elim (at == other) as (λ q. (at == other) ≡ q → x ≡ cond q y x) [
            | true ↦ λ too. absurd (apart (sym (eqb-true at one is) ∙ eqb-true at other too))
            | false ↦ λ _. refl
          ]) refl
      | false ↦ λ is. refl
    ]) refl

or-swapped : (a b c : Bool) → (a || b) || c ≡ (a || c) || b
or-swapped true b c = refl
or-swapped false true true = refl
or-swapped false true false = refl
or-swapped false false true = refl
or-swapped false false false = refl

or-exchanged : (a b c : Bool) → a || (b || c) ≡ b || (a || c)
or-exchanged true true c = refl
or-exchanged true false c = refl
or-exchanged false true c = refl
or-exchanged false false c = refl

elsewhere : {A : Type 0} (at one : ℕ) (x y : A) → (at ≡ one → ⊥) → cond (at == one) x y ≡ y
elsewhere at one x y apart =
    (elim (at == one) as (λ p. (at == one) ≡ p → cond p x y ≡ y) [
      | true ↦ λ is. absurd (apart (eqb-true at one is))
      | false ↦ λ is. refl
    ]) refl

-- marks that are set to what each of them decides
raised : (kept : ℕ → Bool) (fua : Bool) (one other : ℕ) → (one ≡ other → ⊥)
    → marked (marked kept other (kept other || fua)) one (marked kept other (kept other || fua) one || fua)
    ≡ marked (marked kept one (kept one || fua)) other (marked kept one (kept one || fua) other || fua)
raised kept fua one other apart =
    ap (λ (b : Bool). marked (marked kept other (kept other || fua)) one (b || fua)) (elsewhere one other (kept other || fua) (kept one) apart)
    ∙ fun_ext (λ at. swapped at one other (kept one || fua) (kept other || fua) (kept at) apart)
    ∙ sym (ap (λ (b : Bool). marked (marked kept one (kept one || fua)) other (b || fua)) (elsewhere other one (kept one || fua) (kept other) (λ same. apart (sym same))))

-- ---- two units

-- the first may move before the second
abbrev Commute : Work → WorkUnit → WorkUnit → Type 0
Commute work u v = (m : Moved) → moved_on u work (moved_on v work m) ≡ moved_on v work (moved_on u work m)

-- a block behind another
abbrev block_on : IoOpcode → Work → (index lba : ℕ) → Moved → Moved
block_on opcode work index lba m =
    (let n = block_moved opcode work index lba m.memory m.disk m.kept in
    record { memory = n.memory; disk = n.disk; kept = n.kept; differed = m.differed || n.differed })

blocks-commute : (opcode : IoOpcode) (work : Work) (i a j b : ℕ) (m : Moved) → form_is_read (form_of opcode) ≡ false
    → (a ≡ b → ⊥)
    → block_on opcode work i a (block_on opcode work j b m) ≡ block_on opcode work j b (block_on opcode work i a m)
blocks-commute Read work i a j b m other apart = cc
blocks-commute Write work i a j b m other apart =
    same_parts m.memory m.memory _ _ _ _ _ _ refl
    (fun_ext (λ at. fun_ext (λ offset. swapped at a b
    (stored (λ _. 0) 0 (gathered m.memory (places_of_block work i)) offset) (stored (λ _. 0) 0 (gathered m.memory (places_of_block work j)) offset) (m.disk at offset) apart)))
    (fun_ext (λ at. swapped at a b work.fua work.fua (m.kept at) apart))
    refl
blocks-commute Compare work i a j b m other apart =
    same_parts m.memory m.memory m.disk m.disk _ _ _ _ refl refl
    (raised m.kept work.fua a b apart)
    (or-swapped m.differed (differs (gathered m.memory (places_of_block work j)) (block_bytes m.disk b)) (differs (gathered m.memory (places_of_block work i)) (block_bytes m.disk a)))
blocks-commute WriteZeroes work i a j b m other apart = refl
blocks-commute DatasetManagement work i a j b m other apart = refl
blocks-commute Flush work i a j b m other apart = refl

-- two blocks that are cleared with one mark
clears-commute : (work : Work) (a b : ℕ) (mark : Bool) → Commute work (ClearBlock a mark) (ClearBlock b mark)
clears-commute work a b mark = λ m.
    same_parts m.memory m.memory _ _ _ _ _ _ refl
    (fun_ext (λ at. fun_ext (λ offset. both (at == a) (at == b) (stored (λ _. 0) 0 (replicate block 0) offset) (m.disk at offset))))
    (fun_ext (λ at. both (at == a) (at == b) mark (m.kept at)))
    refl
  where
    both : {A : Type 0} (p q : Bool) (x z : A) → cond p x (cond q x z) ≡ cond q x (cond p x z)
    both true true x z = refl
    both true false x z = refl
    both false true x z = refl
    both false false x z = refl

-- likewise where their marks are the same
cleared-commute : (work : Work) (a b : ℕ) (one other : Bool) → one ≡ other
    → Commute work (ClearBlock a one) (ClearBlock b other)
cleared-commute work a b one other same =
    subst (λ (mark : Bool). Commute work (ClearBlock a one) (ClearBlock b mark)) same (clears-commute work a b one)

-- a block that stays as it is
leave-commutes : (work : Work) (lba : ℕ) (unit : WorkUnit) → Commute work (LeaveBlock lba) unit
leave-commutes work lba unit = λ m.
    let n = unit_moved unit work m.memory m.disk m.kept in
    same_parts n.memory _ n.disk _ n.kept _ _ _ refl refl refl
    (or-none (m.differed || n.differed) ∙ ap (λ (b : Bool). b || n.differed) (sym (or-none m.differed)))
  where
    or-none : (b : Bool) → b || false ≡ b
    or-none true = refl
    or-none false = refl

-- two units of one command that is no Read
units-commute : (work : Work) (entry : List ℕ) (form : Form) (u v : WorkUnit)
    → form_is_read (form_of work.opcode) ≡ false
    → IsUnitOf form entry u → IsUnitOf form entry v → Commute work u v
units-commute work entry (Transfer dest) (MoveBlock i a) (MoveBlock j b) other one two = λ m.
    elim (cases_eq i j) [
      | inl same ↦
          let lba : a ≡ b = one ∙ ap (λ (n : ℕ). slba_of entry + n) same ∙ sym two in
          subst (λ (n : ℕ). moved_on (MoveBlock i a) work (moved_on (MoveBlock n b) work m) ≡ moved_on (MoveBlock n b) work (moved_on (MoveBlock i a) work m)) same
          (subst (λ (n : ℕ). moved_on (MoveBlock i a) work (moved_on (MoveBlock i n) work m) ≡ moved_on (MoveBlock i n) work (moved_on (MoveBlock i a) work m)) lba refl)
      | inr unlike ↦ blocks-commute work.opcode work i a j b m other (λ same. unlike (omega arith))
    ]
units-commute work entry (Transfer dest) (MoveBlock i a) (ClearBlock b mark) other one two = absurd two
units-commute work entry (Transfer dest) (MoveBlock i a) (LeaveBlock b) other one two = absurd two
units-commute work entry (Transfer dest) (MoveBlock i a) (KeepAll all) other one two = absurd two
units-commute work entry (Transfer dest) (ClearBlock a mark) v other one two = absurd one
units-commute work entry (Transfer dest) (LeaveBlock a) v other one two = absurd one
units-commute work entry (Transfer dest) (KeepAll all) v other one two = absurd one
units-commute work entry Clear (ClearBlock a mark) (ClearBlock b also) other one two =
    cleared-commute work a b mark also (one ∙ sym two)
units-commute work entry Clear (ClearBlock a mark) (MoveBlock j b) other one two = absurd two
units-commute work entry Clear (ClearBlock a mark) (LeaveBlock b) other one two = absurd two
units-commute work entry Clear (ClearBlock a mark) (KeepAll all) other one two = absurd two
units-commute work entry Clear (MoveBlock i a) v other one two = absurd one
units-commute work entry Clear (LeaveBlock a) v other one two = absurd one
units-commute work entry Clear (KeepAll all) v other one two = absurd one
units-commute work entry Manage (ClearBlock a mark) (ClearBlock b also) other one two =
    cleared-commute work a b mark also (one ∙ sym two)
units-commute work entry Manage (ClearBlock a mark) (LeaveBlock b) other one two =
    λ m. sym (leave-commutes work b (ClearBlock a mark) m)
units-commute work entry Manage (ClearBlock a mark) (MoveBlock j b) other one two = absurd two
units-commute work entry Manage (ClearBlock a mark) (KeepAll all) other one two = absurd two
units-commute work entry Manage (LeaveBlock a) v other one two = leave-commutes work a v
units-commute work entry Manage (MoveBlock i a) v other one two = absurd one
units-commute work entry Manage (KeepAll all) v other one two = absurd one
units-commute work entry Keep (KeepAll all) (KeepAll some) other one two = λ m.
    same_parts m.memory m.memory m.disk m.disk _ _ _ _ refl refl (fun_ext (λ lba. or-exchanged (nat_lt lba all) (nat_lt lba some) (m.kept lba))) refl
units-commute work entry Keep (KeepAll all) (MoveBlock j b) other one two = absurd two
units-commute work entry Keep (KeepAll all) (ClearBlock b mark) other one two = absurd two
units-commute work entry Keep (KeepAll all) (LeaveBlock b) other one two = absurd two
units-commute work entry Keep (MoveBlock i a) v other one two = absurd one
units-commute work entry Keep (ClearBlock a mark) v other one two = absurd one
units-commute work entry Keep (LeaveBlock a) v other one two = absurd one

-- ---- any order

-- a unit may move before those that stand in front of it
moves-first : (work : Work) (entry : List ℕ) (form : Form) (units : List WorkUnit) (place : ℕ) (unit : WorkUnit) (m : Moved)
    → form_is_read (form_of work.opcode) ≡ false
    → IsUnitOf form entry unit → All (IsUnitOf form entry) units → slice_get units place ≡ Some unit
    → units_moved units work m ≡ units_moved (remove units place) work (moved_on unit work m)
unfolding units_moved
moves-first work entry form [] place unit m other own each found = cc
moves-first work entry form (first ∷ units) zero unit m other own each found =
    let same : first ≡ unit = (cc) in
    ap (λ (u : WorkUnit). units_moved units work (moved_on u work m)) same
moves-first work entry form (first ∷ units) (suc place) unit m other own each found =
    let of_first = All-head (IsUnitOf form entry) first units each in
    moves-first work entry form units place unit (moved_on first work m) other own (All-tail (IsUnitOf form entry) first units each) found
    ∙ ap (units_moved (remove units place) work) (units-commute work entry form unit first other own of_first m)

pub any-order : (work : Work) (entry : List ℕ) (form : Form) (order units : List WorkUnit) (m : Moved)
    → form_is_read (form_of work.opcode) ≡ false
    → All (IsUnitOf form entry) units → IsOrderOf order units → units_moved order work m ≡ units_moved units work m
unfolding units_moved
any-order work entry form [] units m other each none = ap (λ (us : List WorkUnit). units_moved us work m) (sym none)
any-order work entry form (unit ∷ order) units m other each (place, (found, rest)) =
    any-order work entry form order (remove units place) (moved_on unit work m) other
    (All-append (IsUnitOf form entry) (take place units) (drop (suc place) units)
    (All-take (IsUnitOf form entry) place units each) (All-drop (IsUnitOf form entry) (suc place) units each)) rest
    ∙ sym (moves-first work entry form units place unit m other own each found)
  where
    own : IsUnitOf form entry unit
    own =
        subst (λ (o : Option WorkUnit). IfSome o (IsUnitOf form entry)) found (slice_get-has (IsUnitOf form entry) units place each)
