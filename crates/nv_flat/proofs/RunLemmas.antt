-- What a run of one command does: nothing where the command is refused, and else each of its units once, in some order
use Rattle.std.proofs.Common.{◌≡◌, ℕ, zero, suc, Bool, false, All, IfSome, Option, List, [], ◌∷◌, drop, remove, slice_get, take, sym, ap, subst, ◌∙◌}
use Rattle.std.proofs.lemmas.List.Elements.{All-append, All-cons, All-drop, All-nil, All-take}
use Rattle.nv_entry.specs.Status.{StatusField}
use Rattle.nv_model.specs.Judge.{WorkUnit, Work, Go, Refuse, is_read, form_of}
use Rattle.nv_model.specs.Private.{Ended, Moved, Private, Taken, moved_status, verdict_in}
use Rattle.nv_model.specs.Carried.{moved_on, units_moved}
use Rattle.nv_model.specs.Carrying.{unmoved, this_far, at_work}
use Rattle.nv_model.specs.Laws.{IsOrderOf}
use Rattle.nv_model.proofs.CarriedOnly.{moved-only, refused-only}
use Rattle.nv_model.proofs.Judged.{verdict-sound}
use Rattle.nv_model.proofs.StepsAlike.{slice_get-has}
use Rattle.nv_model.proofs.UnitOrder.{any-order}
use Rattle.nv_model.specs.Memory.{byte_in}
use Rattle.nv_disk.specs.Flat.{Flat, moved_of}
use Rattle.nv_flat.specs.Laws.{IsMovedInSomeOrder}
use Rattle.nv_flat.specs.One.{IsRun, newly_taken, private_of, shape_of}
use Rattle.nv_model.proofs.Units.{IsUnitOf, form_units-own}

-- what is seen of two flat controllers whose states are the same
same-seen : (new : Flat) (t : Taken) (q : Private) (differed : Bool) → private_of new t ≡ q
    → moved_of new differed ≡ record { memory = q.memory; disk = q.disk; kept = q.kept; differed = differed }
unfolding moved_of
same-seen new t q differed is =
    ap (λ (x : Private). let r : Moved = record { memory = x.memory; disk = x.disk; kept = x.kept; differed = differed } in r) is

-- a command that is refused
pub refused-unchanged : (old new : Flat) (entry : List ℕ) (st refusal : StatusField)
    → verdict_in (shape_of old) (byte_in old.memory) entry ≡ Refuse refusal → IsRun old entry st new
    → (st ≡ refusal) × (moved_of new false ≡ moved_of old false)
unfolding moved_of
refused-unchanged old new entry st refusal refused run =
    let t : Taken = newly_taken entry in
    let p : Private = private_of old t in
    let only = refused-only (shape_of old) 0 t p (private_of new run.after) st refusal run.carried refused in
    (only.0, same-seen new run.after (this_far 0 t (Ended refusal) p) false only.1)

-- a command that goes
pub units-moved : (old new : Flat) (entry : List ℕ) (st : StatusField) (work : Work)
    → verdict_in (shape_of old) (byte_in old.memory) entry ≡ Go work → IsRun old entry st new
    → IsMovedInSomeOrder old work st new
unfolding moved_of
units-moved old new entry st work goes run =
    let t : Taken = newly_taken entry in
    let p : Private = private_of old t in
    let only = moved-only (shape_of old) 0 t p (private_of new run.after) work st run.carried goes in
    let behind : Moved = units_moved only.order work (moved_of old false) in
    record {
      order = only.order;
      each_once = only.each_once;
      differed = behind.differed;
      moved = same-seen new run.after (at_work 0 t work [] (units_moved only.order work (unmoved p)) p) behind.differed only.behind;
      status = only.status;
    }

-- ---- orders

-- what each of the units has, each of them has in any order
pub All-order : (P : WorkUnit → Type 0) (order units : List WorkUnit) → IsOrderOf order units → All P units
    → All P order
All-order P [] units is each = All-nil P
All-order P (unit ∷ order) units (place, (found, rest)) each =
    All-cons P unit order (here (slice_get-has P units place each))
    (All-order P order (remove units place) rest
    (All-append P (take place units) (drop (suc place) units) (All-take P place units each) (All-drop P (suc place) units each)))
  where
    here : IfSome (slice_get units place) P → P unit
    here some = subst (λ (o : Option WorkUnit). IfSome o P) found some

-- one unit has one order
one-order : (unit : WorkUnit) (order : List WorkUnit) → IsOrderOf order (unit ∷ []) → order ≡ unit ∷ []
one-order unit [] is = (cc)
one-order unit (first ∷ []) (zero, (found, rest)) = (cc)
one-order unit (first ∷ second ∷ order) (zero, (found, (place, (more, rest)))) = (cc)
one-order unit (first ∷ order) (suc place, (found, rest)) = (cc)

pub one-outcome : (old new : Flat) (entry : List ℕ) (st : StatusField) (work : Work) (unit : WorkUnit) (behind : Moved)
    → verdict_in (shape_of old) (byte_in old.memory) entry ≡ Go work → work.units ≡ unit ∷ []
    → behind ≡ moved_on unit work (moved_of old false) → IsRun old entry st new
    → (st ≡ moved_status behind.differed) × (moved_of new behind.differed ≡ behind)
unfolding units_moved moved_of
one-outcome old new entry st work unit behind goes alone is run =
    let r = units-moved old new entry st work goes run in
    let U : List WorkUnit → Type 0 = λ us. IsOrderOf r.order us in
    let order : r.order ≡ unit ∷ [] = one-order unit r.order (subst U alone r.each_once) in
    let moved : moved_of new r.differed ≡ behind = r.moved ∙ ap (λ (us : List WorkUnit). units_moved us work (moved_of old false)) order ∙ sym is in
    let same : r.differed ≡ behind.differed = ap (λ (m : Moved). m.differed) moved in
    (r.status ∙ ap moved_status same, ap (moved_of new) (sym same) ∙ moved)

-- ---- a command that is no Read

pub in-order-outcome : (old new : Flat) (entry : List ℕ) (st : StatusField) (work : Work) (behind : Moved)
    → verdict_in (shape_of old) (byte_in old.memory) entry ≡ Go work → is_read work.opcode ≡ false
    → behind ≡ units_moved work.units work (moved_of old false) → IsRun old entry st new
    → (st ≡ moved_status behind.differed) × (moved_of new behind.differed ≡ behind)
unfolding moved_of
in-order-outcome old new entry st work behind goes other is run =
    let r = units-moved old new entry st work goes run in
    let shape = shape_of old in
    let sound = verdict-sound shape.mapped shape.limit shape.blocks entry (byte_in old.memory) work goes in
    let own : All (IsUnitOf (form_of work.opcode) entry) work.units =
    subst (λ (us : List WorkUnit). All (IsUnitOf (form_of work.opcode) entry) us) (sym sound.units) (form_units-own (form_of work.opcode) shape.blocks entry work.ranges) in
    let moved : moved_of new r.differed ≡ behind = r.moved ∙ any-order work entry (form_of work.opcode) r.order work.units (moved_of old false) other own r.each_once ∙ sym is in
    let same : r.differed ≡ behind.differed = ap (λ (m : Moved). m.differed) moved in
    (r.status ∙ ap moved_status same, ap (moved_of new) (sym same) ∙ moved)
