use Rattle.std.proofs.Common.{◌≡◌, ℕ, ◌*◌, Ok, Err, List, length, sym, ap, subst, ◌∙◌, arith}
use Rattle.nv_entry.specs.Status.{StatusField}
use Rattle.nv_entry.specs.StatusCode.{done_with}
use Rattle.nv_entry.specs.Submission.{deallocate_of}
use Rattle.nv_entry.specs.declared.opcode.IoOpcode.TheVariants.{DatasetManagement}
use Rattle.nv_entry.specs.declared.status_code.StatusCode.TheVariants.{Success}
use Rattle.nv_judge.specs.Need.{need_of}
use Rattle.nv_judge.proofs.RangeLemmas.{ranges-fit}
use Rattle.nv_judge.specs.Ranges.{ranges_verdict}
use Rattle.nv_mem.specs.Places.{Place, places_of}
use Rattle.nv_model.specs.Judge.{range_count_of}
use Rattle.nv_disk.specs.Buffer.{AreBelow}
use Rattle.nv_disk.specs.Flat.{Flat}
use Rattle.nv_flat.specs.One.{IsRun}
use Rattle.nv_judge.proofs.RangeLemmas.{ranges-fit}
use Rattle.nv_flat.proofs.DatasetLemmas.{IsManaged, is-asked, managed, managed-deallocated, managed-kept, managed-refused}
use Rattle.nv_flat.proofs.PieceLemmas.{spelled-usable}
use Rattle.nv_flat.proofs.controller.FlatController.manage_ranges.Goals as goal
use Rattle.nv_flat.proofs.controller.FlatController.manage_ranges.Goals.{then-deallocate, else-deallocate}

pub fetch-requires-clause-in_memory : goal.fetch-requires-clause-in_memory
fetch-requires-clause-in_memory c =
    let usable = spelled-usable c.args.self.now c.args.sqe.now (need_of c.args.sqe.now DatasetManagement) c.args.places.now c.requires.spelled in
    let P : List Place → Type 0 = λ ps. AreBelow (length c.args.self.now.memory) ps in
    let M : Flat → Type 0 = λ f. AreBelow (length f.memory) c.new.result in
    subst M (sym c.self.view_is) (subst P (sym c.new.ensures) usable.below)

pub fetch-requires-clause-enough : goal.fetch-requires-clause-enough
fetch-requires-clause-enough c =
    let total : length (places_of c.args.places.now) ≡ 16 * range_count_of c.args.sqe.now =
    (spelled-usable c.args.self.now c.args.sqe.now (need_of c.args.sqe.now DatasetManagement) c.args.places.now c.requires.spelled).total in
    let all : length c.new.result ≡ length (places_of c.args.places.now) = ap length c.new.ensures in
    let whole = c.requires.whole in
    omega arith

pub returns-in-Err-clause-run : goal.returns-in-Err-clause-run
returns-in-Err-clause-run c =
    let m : IsManaged c.args.self.now c.args.sqe.now c.args.places.now c.fetch.new.out =
    managed c.args.self.now c.args.sqe.now c.args.places.now c.fetch.new.out c.self.inside.memory c.new.result (length c.args.ranges.now)
    c.requires.in_order c.requires.spelled (ap (λ (f : Flat). f.memory) c.self.view_is) c.new.ensures c.requires.whole c.fetch.ensures.bytes in
    let P : ℕ → Type 0 = λ n. Err c.in-Err.status ≡ ranges_verdict n c.fetch.new.out in
    managed-refused c.args.self.now c.args.sqe.now c.args.places.now c.fetch.new.out c.in-Err.status m (sym (subst P c.namespace.ensures.blocks c.in-Err.ensures))

pub returns-clause-run : goal.returns-clause-run
returns-clause-run c =
    let m : IsManaged c.args.self.now c.args.sqe.now c.args.places.now c.fetch.new.out =
    managed c.args.self.now c.args.sqe.now c.args.places.now c.fetch.new.out c.self.inside.memory c.new.result (length c.args.ranges.now)
    c.requires.in_order c.requires.spelled (ap (λ (f : Flat). f.memory) c.self.view_is) c.new.ensures c.requires.whole c.fetch.ensures.bytes in
    let P : ℕ → Type 0 = λ n. Ok c.in_default.field-0 ≡ ranges_verdict n c.fetch.new.out in
    let fit = ranges-fit (length c.args.self.now.disk) c.fetch.new.out (sym (subst P c.namespace.ensures.blocks c.in_default.ensures)) in
    let S : StatusField → Type 0 = λ st. IsRun c.args.self.now c.args.sqe.now st c.if-deallocate.self in
    let G : Flat → Type 0 = λ g. IsRun c.args.self.now c.args.sqe.now (done_with Success) g in
    subst S (sym c.status.ensures)
    (elim c.if-deallocate.branch [
      | then-deallocate w ↦
          subst G (sym w.self-is)
          (managed-deallocated c.args.self.now w.deallocate-then-deallocate.new.self c.args.sqe.now c.args.places.now c.fetch.new.out m fit
          (is-asked c.deallocate.result (deallocate_of c.args.sqe.now) c.deallocate.ensures ∙ w.if-deallocate.true) w.deallocate-then-deallocate.ensures.moved)
      | else-deallocate w ↦
          subst G (sym w.self-is)
          (managed-kept c.args.self.now c.args.sqe.now c.args.places.now c.fetch.new.out m fit
          (is-asked c.deallocate.result (deallocate_of c.args.sqe.now) c.deallocate.ensures ∙ w.if-deallocate.false))
    ])
