-- One command, judged and moved to its end
use Rattle.std.proofs.Common.{◌≡◌, ℕ, Bool, true, false, List, [], refl, sym, subst, ap, Some, ◌∙◌}
use Rattle.nv_entry.specs.Status.{StatusField}
use Rattle.nv_model.specs.Judge.{Work, Refuse, Go}
use Rattle.nv_model.specs.Private.{AtWork, Ended, Moved, Private, moved_status, verdict_in, Taken, step, Bag, no_commands, Progress, ending, Shape}
use Rattle.nv_model.specs.Carried.{units_moved}
use Rattle.nv_model.specs.Carrying.{IsCarriedOut, at_work, this_far}
use Rattle.nv_model.proofs.CarriedOut.{IsCarriedOut-moved, IsCarriedOut-refused}
use Rattle.nv_disk.specs.Flat.{Flat, moved_of, byte_of_block}
use Rattle.nv_flat.specs.One.{IsOutcome, IsRun, newly_taken, private_of, shape_of, completion_posted, serving}
use Rattle.nv_model.specs.Controller.{post}
use Rattle.nv_model.proofs.Bags.{put-twice}
use Rattle.nv_entry.specs.Completion.{completion}
use Rattle.nv_entry.proofs.CompletionLemmas.{length-completion}
use Rattle.nv_entry.specs.Submission.{cid_of}
use Rattle.nv_model.specs.Memory.{byte_in, bytes_from, stored}
use Rattle.nv_model.proofs.MemoryLemmas.{bytes_from-stored}
use Rattle.nv_entry.specs.Layout.{bits}
use Rattle.std.specs.List.{slice_index_or}

-- a command that is this far, alone
this_far-alone : (f : Flat) (entry : List ℕ) (t : Taken) (progress : Progress)
    → this_far 0 t progress (private_of f t) ≡ private_of f (record t { progress = progress })
this_far-alone f entry t progress =
    ap (λ (b : Bag). let q : Private = record { memory = byte_in f.memory; disk = byte_of_block f.disk; kept = (λ lba. slice_index_or f.kept lba false); controller = serving; bag = b } in q)
    (put-twice no_commands 0 (Some t) (Some (record t { progress = progress })))

-- where a completion was stored, its 16 bytes are read back
slot-holds : (memory : ℕ → ℕ) (dw0 sqhd sqid cid : ℕ) (phase : Bool) (st : StatusField)
    → bytes_from (stored memory 0 (completion dw0 sqhd sqid cid phase st)) 0 16 ≡ completion dw0 sqhd sqid cid phase st
slot-holds memory dw0 sqhd sqid cid phase st =
    ap (bytes_from (stored memory 0 (completion dw0 sqhd sqid cid phase st)) 0) (sym (length-completion dw0 sqhd sqid cid phase st))
    ∙ bytes_from-stored memory 0 (completion dw0 sqhd sqid cid phase st)

-- where the command has ended, its completion is the next that is posted
posted-ended : (f : Flat) (shape : Shape) (entry : List ℕ) (progress : Progress) (st : StatusField)
    → ending progress ≡ Some st
    → completion_posted shape (private_of f (record { queue = 1; entry = entry; progress = progress })) ≡ Some (completion 0 1 1 (cid_of entry) true st)
unfolding step post bits
posted-ended f shape entry progress st ended =
    rw ended (ap (λ (bs : List ℕ). Some bs) (slot-holds (byte_in f.memory) 0 1 1 (cid_of entry) true st))

-- a command that is refused
pub refused-run : (f : Flat) (entry : List ℕ) (st : StatusField)
    → verdict_in (shape_of f) (byte_in f.memory) entry ≡ Refuse st → IsRun f entry st f
refused-run f entry st refused =
    record {
      after = record { queue = 1; entry = entry; progress = Ended st };
      carried =
          subst (λ (q : Private). IsCarriedOut (shape_of f) (private_of f (newly_taken entry)) 0 (newly_taken entry) st q)
          (this_far-alone f entry (newly_taken entry) (Ended st))
          (IsCarriedOut-refused (shape_of f) (private_of f (newly_taken entry)) 0 (newly_taken entry) st refl refl refused);
      posted = posted-ended f (shape_of f) entry (Ended st) st refl;
    }

-- a command all of whose units have moved
pub moved-run : (f g : Flat) (entry : List ℕ) (work : Work) (differed : Bool)
    → verdict_in (shape_of f) (byte_in f.memory) entry ≡ Go work
    → moved_of g differed ≡ units_moved work.units work (moved_of f false) → IsRun f entry (moved_status differed) g
unfolding moved_of
moved-run f g entry work differed goes moved =
    let p : Private = private_of f (newly_taken entry) in
    let t : Taken = newly_taken entry in
    let P : Moved → Type 0 = λ m. IsCarriedOut (shape_of f) p 0 t (moved_status m.differed) (at_work 0 t work [] m p) in
    record {
      after = record { queue = 1; entry = entry; progress = AtWork work [] differed };
      carried =
          subst (λ (q : Private). IsCarriedOut (shape_of f) p 0 t (moved_status differed) q)
          (ap (λ (b : Bag). let q : Private = record { memory = byte_in g.memory; disk = byte_of_block g.disk; kept = (λ lba. slice_index_or g.kept lba false); controller = serving; bag = b } in q)
          (put-twice no_commands 0 (Some t) (Some (record t { progress = AtWork work [] differed }))))
          (subst P (sym moved) (IsCarriedOut-moved (shape_of f) p 0 t work refl refl goes));
      posted = posted-ended g (shape_of f) entry (AtWork work [] differed) (moved_status differed) refl;
    }

-- ---- the outcome

-- a command that its fields refuse
pub outcome-refused : (built : Bool) (old new : Flat) (entry : List ℕ) (st : StatusField) → IsRun old entry st new
    → IsOutcome built true old entry st new
outcome-refused true old new entry st run = run
outcome-refused false old new entry st run = run

-- a command that is built
pub outcome-built : (refused : Bool) (old new : Flat) (entry : List ℕ) (st : StatusField) → IsRun old entry st new
    → IsOutcome true refused old entry st new
outcome-built true old new entry st run = run
outcome-built false old new entry st run = run

-- a command that is carried out ends as a run says
pub run-built : (refused : Bool) (old new : Flat) (entry : List ℕ) (st : StatusField)
    → IsOutcome true refused old entry st new → IsRun old entry st new
run-built false old new entry st run = run
run-built true old new entry st run = run

-- and so does one whose fields are refused
pub run-refused : (built : Bool) (old new : Flat) (entry : List ℕ) (st : StatusField)
    → IsOutcome built true old entry st new → IsRun old entry st new
run-refused false old new entry st run = run
run-refused true old new entry st run = run
