-- What becomes of a draft, call by call
use Rattle.std.proofs.Common.{◌≡◌, ℕ, ◌+◌, ◌≤◌, Bool, All, List, [], ◌∷◌, ◌++◌, drop, length, Some, None, Result, Ok, Err, OnErr, OnOk, refl, sym, ap, subst, ◌∙◌}
use Rattle.std.specs.Global.{Box}
use Rattle.std.proofs.lemmas.List.{append-nil, append_assoc}
use Rattle.nv_mem.specs.GuestMap.{Mapping, mapped}
use Rattle.nv_mem.specs.Places.{total_len}
use Rattle.nv_mem.specs.declared.piece.Piece.{Piece}
use Rattle.nv_model.specs.Dialogue.{Dialogue, Ask, End, and_then}
use Rattle.nv_model.specs.Judge.{Go, Refuse, Transfer, Verdict, form_of, judge, judge_reading, read_source, work_of}
use Rattle.nv_model.specs.Reading.{Reading, Faulty, Spells, TooLong}
use Rattle.nv_model.specs.Transcript.{Outcome, ReadDone, Settled, Wanted, fed, first_read, in_transcript}
use Rattle.nv_model.specs.Want.{want_of}
use Rattle.nv_model.specs.declared.want.Want.{Want}
use Rattle.nv_model.specs.declared.want.Want.TheVariants as want
use Rattle.nv_model.proofs.ListsFed.{judged-done, judged-fault, judged-too_long}
use Rattle.nv_entry.specs.StatusCode.{done_with}
use Rattle.nv_entry.specs.declared.status_code.StatusCode.TheVariants.{InternalError}
use Rattle.nv_entry.specs.declared.opcode.IoOpcode.{IoOpcode}
use Rattle.nv_entry.specs.declared.opcode.IoOpcode.TheVariants as opcode
use Rattle.nv_model.proofs.RunPieces.{IsRunPiece}
use Rattle.nv_ns.specs.Extents.{Namespace, blocks_in}
use Rattle.nv_prp.specs.Parse.{Parse as Pages, dialogue_of as pages_of}
use Rattle.nv_sgl.specs.Parse.{Parse as Descriptors, dialogue_of as descriptors_of}
use Rattle.nv_world_model.specs.Geometry.{Guest, regions_of, shape_of}
use Rattle.nv_world_model.specs.Plan.{Plan, plan_of, plan_over, planned}
use Rattle.nv_plan.specs.Drafted.{ComesTo, IsBegun, GoesOn, IsFed, IsGoingOn, IsListed, IsSound, IsSoundStage, IsTurned, IsUnderWay, IsUnmet, Says, ahead_at, ahead_of, front_of, left_of, left_to_read, next_at, next_of}
use Rattle.nv_plan.specs.Drawn.{given_of}
use Rattle.nv_plan.specs.Fed.{IsNext, UnderWay}
use Rattle.nv_plan.specs.Made.{IsJobsPlan, MadePlan, outcome_of}
use Rattle.nv_plan.specs.Outline.{Outline, outlined}
use Rattle.nv_plan.specs.declared.draft.Ahead.{Ahead}
use Rattle.nv_plan.specs.declared.draft.Ahead.TheVariants as ahead
use Rattle.nv_plan.specs.declared.draft.Buffered.{Buffered}
use Rattle.nv_plan.specs.declared.draft.Draft.{Draft}
use Rattle.nv_plan.specs.declared.draft.Stage.{Stage}
use Rattle.nv_plan.specs.declared.draft.Stage.TheVariants as stage
use Rattle.nv_plan.specs.declared.given.GrantRef.{GrantRef}
use Rattle.nv_plan.specs.declared.job.Job.{Job}
use Rattle.nv_plan.specs.declared.next.Next.{Next}
use Rattle.nv_plan.specs.declared.next.Next.TheVariants as next
use Rattle.nv_plan.specs.declared.source.Source.{Source}
use Rattle.nv_plan.proofs.ListParts.{listed-more, listed-on}
use Rattle.nv_plan.proofs.RangeReads.{front-none, source_over}
use Rattle.nv_plan.proofs.ReadsTaken.{first_read-more, first_read-next, meets-own}
use Rattle.nv_plan.proofs.StageReads.{judged_ranges, next-no_read, next-read, next-transfer, source-more, source-on, stage-wanted}

-- a draft of that stage
abbrev pub draft_at : {A : Type 0} → GrantRef → List ℕ → Stage A → Draft A
draft_at given entry s = record { given = given; sqe = entry; stage = s }

-- ---- where nothing is read

pub going-same : {A : Type 0} (given : GrantRef) (entry : List ℕ) (s t : Stage A) → IsSoundStage (given_of given) entry s → t ≡ s
    → IsGoingOn (draft_at given entry s) (draft_at given entry t)
going-same given entry s t sound is =
    record {
      same = record { given = refl; sqe = refl; sound = subst (λ x. IsSoundStage (given_of given) entry x) (sym is) sound };
      left = ap (λ x. ahead_at (blocks_in (given_of given).namespace) entry x) is;
      unmet = λ reads none. subst (λ x. IsUnmet (next_at x) reads) (sym is) none;
    }

-- the source of ranges has come after a list
pub going-turned : {A : Type 0} (given : GrantRef) (entry : List ℕ) (s : Stage A) (source : Source) → next_at s ≡ ahead.Turn
    → IsTurned (draft_at given entry s) source → IsGoingOn (draft_at given entry s) (draft_at given entry (stage.Ranges source))
unfolding first_read
going-turned given entry s source turn turned =
    record {
      same = record { given = refl; sqe = refl; sound = turned.sound };
      left = turned.left;
      unmet = λ reads none. no_reads reads (front_of (left_of source)) (subst (λ (a : Ahead). IsUnmet a reads) turn none);
    }
  where
    no_reads : (reads : List ReadDone) (a : Ahead) → reads ≡ [] → IsUnmet a reads
    no_reads reads (ahead.Read addr len) none = ap (first_read addr len) none
    no_reads reads ahead.Turn none = none
    no_reads reads ahead.End none = tt

-- a source that was not fed has nothing read
pub going-source : {A : Type 0} (given : GrantRef) (entry : List ℕ) (s : Stage A) (source after : Source) → s ≡ stage.Ranges source
    → IsSoundStage (given_of given) entry s → after.places ≡ source.places → after.read ≡ source.read → after.bytes.items ≡ source.bytes.items
    → IsGoingOn (draft_at given entry s) (draft_at given entry (stage.Ranges after))
going-source {A} given entry s source after is sound places read bytes =
    let own = subst (λ (x : Stage A). IsSoundStage (given_of given) entry x) is sound in
    let left : left_of after ≡ left_of source =
    ap (λ (ps : List Piece). drop after.read ps) places ∙ ap (λ (n : ℕ). drop n source.places) read in
    record {
      same = record {
        given = refl;
        sqe = refl;
        sound = record {
          known = own.known;
          short = subst (λ (ps : List Piece). total_len ps ≤ 4096) (sym left) own.short;
          runs = subst (λ (ps : List Piece). All IsRunPiece ps) (sym left) own.runs;
          many =
              ap (λ (bs : List ℕ). length bs + total_len (left_of after)) bytes
              ∙ ap (λ (ps : List Piece). length source.bytes.items + total_len ps) left ∙ own.many;
        };
      };
      left =
          ap (λ (ps : List Piece). and_then (read_source (left_of after) after.bytes.items) (λ bs. End (judged_ranges (given_of given) entry ps bs))) places
          ∙ ap (λ (ps : List Piece). and_then (read_source ps after.bytes.items) (λ bs. End (judged_ranges (given_of given) entry source.places bs))) left
          ∙ ap (λ (bs : List ℕ). and_then (read_source (left_of source) bs) (λ more. End (judged_ranges (given_of given) entry source.places more))) bytes
          ∙ ap (λ (x : Stage A). ahead_at (blocks_in (given_of given).namespace) entry x) (sym is);
      unmet = λ reads none.
          subst (λ (a : Ahead). IsUnmet a reads) (ap front_of (sym left)) (subst (λ (x : Stage A). IsUnmet (next_at x) reads) is none);
    }

-- ---- where bytes are read

pub fed-pages : {A : Type 0} (given : GrantRef) (entry : List ℕ) (s : Stage A) (bytes : List ℕ) (b : Buffered) (parse after : Box Pages)
    → s ≡ stage.Pages b parse → IsSoundStage (given_of given) entry s → ((addr : ℕ) × (next_at s ≡ ahead.Read addr (length bytes)))
    → pages_of after.value ≡ fed (pages_of parse.value) bytes
    → IsFed (draft_at given entry s) bytes (draft_at given entry (stage.Pages b after))
fed-pages {A} given entry s bytes b parse after is sound wanted goes =
    let own : IsListed (given_of given) entry b (pages_of parse.value) = subst (λ (x : Stage A). IsSoundStage (given_of given) entry x) is sound in
    record {
      same = record {
        given = refl;
        sqe = refl;
        sound = listed-more (given_of given) entry b (pages_of parse.value) wanted.0 bytes (length bytes) (pages_of after.value) own
            (next-read b.opcode (want_of (pages_of parse.value)) wanted.0 (length bytes) (ap (λ (x : Stage A). next_at x) (sym is) ∙ wanted.1)) refl goes;
      };
      on = λ addr asked.
          subst (λ (x : Stage A). GoesOn (ahead_at (blocks_in (given_of given).namespace) entry x) addr bytes (and_then (pages_of after.value) (judge_reading (blocks_in (given_of given).namespace) entry b.opcode))) (sym is)
          (listed-on (given_of given) entry b (pages_of parse.value) addr bytes (pages_of after.value) own
          (next-read b.opcode (want_of (pages_of parse.value)) addr (length bytes) (ap (λ (x : Stage A). next_at x) (sym is) ∙ asked)) goes);
    }

pub fed-descriptors : {A : Type 0} (given : GrantRef) (entry : List ℕ) (s : Stage A) (bytes : List ℕ) (b : Buffered) (parse after : Descriptors)
    → s ≡ stage.Descriptors b parse → IsSoundStage (given_of given) entry s → ((addr : ℕ) × (next_at s ≡ ahead.Read addr (length bytes)))
    → descriptors_of after ≡ fed (descriptors_of parse) bytes
    → IsFed (draft_at given entry s) bytes (draft_at given entry (stage.Descriptors b after))
fed-descriptors {A} given entry s bytes b parse after is sound wanted goes =
    let own : IsListed (given_of given) entry b (descriptors_of parse) = subst (λ (x : Stage A). IsSoundStage (given_of given) entry x) is sound in
    record {
      same = record {
        given = refl;
        sqe = refl;
        sound = listed-more (given_of given) entry b (descriptors_of parse) wanted.0 bytes (length bytes) (descriptors_of after) own
            (next-read b.opcode (want_of (descriptors_of parse)) wanted.0 (length bytes) (ap (λ (x : Stage A). next_at x) (sym is) ∙ wanted.1)) refl goes;
      };
      on = λ addr asked.
          subst (λ (x : Stage A). GoesOn (ahead_at (blocks_in (given_of given).namespace) entry x) addr bytes (and_then (descriptors_of after) (judge_reading (blocks_in (given_of given).namespace) entry b.opcode))) (sym is)
          (listed-on (given_of given) entry b (descriptors_of parse) addr bytes (descriptors_of after) own
          (next-read b.opcode (want_of (descriptors_of parse)) addr (length bytes) (ap (λ (x : Stage A). next_at x) (sym is) ∙ asked)) goes);
    }

pub fed-source : {A : Type 0} (given : GrantRef) (entry : List ℕ) (s : Stage A) (bytes : List ℕ) (source after : Source)
    → s ≡ stage.Ranges source → IsSoundStage (given_of given) entry s → ((addr : ℕ) × (next_at s ≡ ahead.Read addr (length bytes)))
    → after.places ≡ source.places → after.read ≡ source.read + 1 → after.bytes.items ≡ source.bytes.items ++ bytes
    → IsFed (draft_at given entry s) bytes (draft_at given entry (stage.Ranges after))
fed-source {A} given entry s bytes source after is sound wanted places read more =
    let own = subst (λ (x : Stage A). IsSoundStage (given_of given) entry x) is sound in
    record {
      same = record {
        given = refl;
        sqe = refl;
        sound = source-more (given_of given) entry source after wanted.0 bytes own (ap (λ (x : Stage A). next_at x) (sym is) ∙ wanted.1) places read more;
      };
      on = λ addr asked.
          subst (λ (x : Stage A). GoesOn (ahead_at (blocks_in (given_of given).namespace) entry x) addr bytes (and_then (read_source (left_of after) after.bytes.items) (λ bs. End (judged_ranges (given_of given) entry after.places bs)))) (sym is)
          (source-on (given_of given) entry source after addr bytes own (ap (λ (x : Stage A). next_at x) (sym is) ∙ asked) places read more);
    }

-- ---- where nothing is wanted, the verdict is there

want-done : (d : Dialogue Reading) → want_of d ≡ want.Done → (pieces : List Piece) × (d ≡ End (Spells pieces))
want-done (End (Spells pieces)) e = (pieces, refl)
want-done (End (Faulty code)) e = absurd (cc)
want-done (End TooLong) e = absurd (cc)
want-done (Ask addr unit left more) e = absurd (cc)

-- it does not hang on what is read
abbrev pub IsEnded : Dialogue Verdict → Type 0
IsEnded d = (v : Verdict) × ((reads : List ReadDone) → in_transcript d [] reads ≡ Settled v)

spelled-ended : (blocks : ℕ) (entry : List ℕ) (o : IoOpcode) (dest : Bool) (pieces : List Piece) → form_of o ≡ Transfer dest
    → IsEnded (judge_reading blocks entry o (Spells pieces))
unfolding in_transcript
spelled-ended blocks entry opcode.Flush dest pieces form = absurd (cc)
spelled-ended blocks entry opcode.Write dest pieces form = (Go (work_of blocks opcode.Write entry pieces []), λ reads. refl)
spelled-ended blocks entry opcode.Read dest pieces form = (Go (work_of blocks opcode.Read entry pieces []), λ reads. refl)
spelled-ended blocks entry opcode.Compare dest pieces form = (Go (work_of blocks opcode.Compare entry pieces []), λ reads. refl)
spelled-ended blocks entry opcode.WriteZeroes dest pieces form = absurd (cc)
spelled-ended blocks entry opcode.DatasetManagement dest pieces form = absurd (cc)

list-ended : (given : Guest) (entry : List ℕ) (b : Buffered) (d : Dialogue Reading) (w : Want) → want_of d ≡ w
    → IsListed given entry b d → next_of b.opcode w ≡ ahead.End
    → IsEnded (and_then d (judge_reading (blocks_in given.namespace) entry b.opcode))
list-ended given entry b d (want.Read addr len) is listed next = absurd (next-no_read b.opcode (want.Read addr len) addr len refl next)
list-ended given entry b d (want.Fault st) is listed next = (Refuse st, λ reads. judged-fault (blocks_in given.namespace) entry b.opcode d st reads is)
list-ended given entry b d want.TooLong is listed next = (Refuse (done_with InternalError), λ reads. judged-too_long (blocks_in given.namespace) entry b.opcode d reads is)
list-ended given entry b d want.Done is listed next =
    let spelled = want-done d is in
    let form = next-transfer b.opcode want.Done listed.buffer refl next in
    let ended = spelled-ended (blocks_in given.namespace) entry b.opcode form.0 spelled.0 form.1 in
    (ended.0, λ reads. judged-done (blocks_in given.namespace) entry b.opcode d spelled.0 reads spelled.1 ∙ ended.1 reads)

pub stage-ended : {A : Type 0} (given : Guest) (entry : List ℕ) (s : Stage A) → IsSoundStage given entry s → next_at s ≡ ahead.End
    → IsEnded (ahead_at (blocks_in given.namespace) entry s)
unfolding in_transcript read_source and_then
stage-ended given entry (stage.Refused st) sound next = (Refuse st, λ reads. refl)
stage-ended given entry (stage.Bare o) sound next = (Go (work_of (blocks_in given.namespace) o entry [] []), λ reads. refl)
stage-ended given entry (stage.Named b runs) sound next = list-ended given entry b (End (Spells runs)) want.Done refl sound next
stage-ended given entry (stage.Pages b parse) sound next = list-ended given entry b (pages_of parse.value) (want_of (pages_of parse.value)) refl sound next
stage-ended given entry (stage.Descriptors b parse) sound next = list-ended given entry b (descriptors_of parse) (want_of (descriptors_of parse)) refl sound next
stage-ended given entry (stage.Ranges source) sound next = (
  judged_ranges given entry source.places source.bytes.items,
  λ reads. ap (λ (ps : List Piece). source_over ps source.bytes.items reads (judged_ranges given entry source.places)) (front-none (left_of source) sound.runs next),
)

-- ---- a plan under way

-- the outcome of its job
pub under_way-outcome : {A : Type 0} (d : Draft A) (job : Job) (w : IsUnderWay d job)
    → outcome_of (given_of d.given) job ≡ planned (regions_of (given_of d.given)) (in_transcript (left_to_read d) [] w.left)
unfolding plan_over
under_way-outcome d job w =
    ap (planned (regions_of (given_of d.given)))
    (ap (in_transcript (judge (shape_of (given_of d.given)).mapped (given_of d.given).limit (blocks_in (given_of d.given).namespace) job.sqe) []) (sym (append-nil job.reads))
    ∙ sym (w.comes []) ∙ ap (in_transcript (left_to_read d) []) (append-nil w.left))

pub under_way-wanted : {A : Type 0} (d : Draft A) (job : Job) (addr len : ℕ) → IsUnderWay d job → next_at d.stage ≡ ahead.Read addr len
    → outcome_of (given_of d.given) job ≡ Wanted addr len
under_way-wanted d job addr len w wants =
    under_way-outcome d job w
    ∙ ap (planned (regions_of (given_of d.given)))
    (stage-wanted (given_of d.given) d.sqe d.stage addr len w.left w.sound wants (subst (λ (a : Ahead). IsUnmet a w.left) wants w.unmet))

pub under_way-settled : {A : Type 0} (d : Draft A) (job : Job) → IsUnderWay d job → next_at d.stage ≡ ahead.End
    → (plan : Plan) × (outcome_of (given_of d.given) job ≡ Settled plan)
under_way-settled d job w ends =
    let ended = stage-ended (given_of d.given) d.sqe d.stage w.sound ends in
    (plan_of (regions_of (given_of d.given)) ended.0, under_way-outcome d job w ∙ ap (planned (regions_of (given_of d.given))) (ended.1 w.left))

-- what is said of it
pub under_way-next : {A : Type 0} (d : Draft A) (job : Job) (n : Next) → IsUnderWay d job → next_at d.stage ≡ ahead_of n
    → IsNext n (record { job = job; given = given_of d.given })
under_way-next d job (next.Read addr len) w is = under_way-wanted d job addr len w is
under_way-next d job next.Done w is = under_way-settled d job w is

-- what its job wants comes next
pub under_way-asked : {A : Type 0} (d : Draft A) (job : Job) (n : Next) (addr len : ℕ) → IsUnderWay d job → next_at d.stage ≡ ahead_of n
    → outcome_of (given_of d.given) job ≡ Wanted addr len → next_at d.stage ≡ ahead.Read addr len
under_way-asked d job (next.Read a l) addr len w is asked =
    let same = sym (under_way-wanted d job a l w is) ∙ asked in
    is ∙ read-same a l addr len same
  where
    read-same : (a l addr len : ℕ) → ◌≡◌ {A = Outcome Plan} (Wanted a l) (Wanted addr len) → ahead.Read a l ≡ ahead.Read addr len
    read-same a l addr len e = let at : a ≡ addr = (cc) in let size : l ≡ len = (cc) in ap (λ (x : ℕ). ahead.Read x l) at ∙ ap (ahead.Read addr) size
under_way-asked d job next.Done addr len w is asked =
    let settled = under_way-settled d job w is in
    absurd (not-both settled.0 addr len (sym settled.1 ∙ asked))
  where
    not-both : (plan : Plan) (addr len : ℕ) → ◌≡◌ {A = Outcome Plan} (Settled plan) (Wanted addr len) → ⊥
    not-both plan addr len e = (cc)

-- where nothing is read
pub under_way-same : {A : Type 0} (d e : Draft A) (job : Job) → IsUnderWay d job → IsGoingOn d e → IsUnderWay e job
under_way-same {A} d e job w on =
    record {
      same = on.same.sqe ∙ w.same;
      sound = on.same.sound;
      left = w.left;
      comes = λ more.
          ap (λ x. in_transcript x [] (w.left ++ more)) on.left ∙ w.comes more
          ∙ ap (λ (g : GrantRef). in_transcript (judge (mapped (regions_of (given_of g))) (given_of g).limit (blocks_in (given_of g).namespace) job.sqe) [] (job.reads ++ more)) (sym on.same.given);
      unmet = on.unmet w.left w.unmet;
    }

-- where what comes next is read
pub under_way-fed : {A : Type 0} (d e : Draft A) (job : Job) (read : ReadDone)
    → IsUnderWay d job → next_at d.stage ≡ ahead.Read read.addr (length read.bytes) → IsFed d read.bytes e
    → IsUnderWay e (record job { reads = job.reads ++ read ∷ [] })
unfolding first_read
under_way-fed d e job read w wants step =
    let none : first_read read.addr (length read.bytes) w.left ≡ None = subst (λ (a : Ahead). IsUnmet a w.left) wants w.unmet in
    record {
      same = step.same.sqe ∙ w.same;
      sound = step.same.sound;
      left = [];
      comes = λ more.
          sym (step.on read.addr wants (w.left ++ read ∷ more) more (first_read-next read.addr (length read.bytes) w.left read more none (meets-own read)))
          ∙ w.comes (read ∷ more)
          ∙ ap (in_transcript (judge (mapped (regions_of (given_of d.given))) (given_of d.given).limit (blocks_in (given_of d.given).namespace) job.sqe) []) (sym (append_assoc job.reads (read ∷ []) more))
          ∙ ap (λ (g : GrantRef). in_transcript (judge (mapped (regions_of (given_of g))) (given_of g).limit (blocks_in (given_of g).namespace) job.sqe) [] ((job.reads ++ read ∷ []) ++ more)) (sym step.same.given);
      unmet = nothing-met (next_at e.stage);
    }
  where
    nothing-met : (a : Ahead) → IsUnmet a []
    nothing-met (ahead.Read addr len) = refl
    nothing-met ahead.Turn = refl
    nothing-met ahead.End = tt

-- ---- the reads of a job, one after another

-- what the loop over them keeps
pub record IsCatchingUp {A : Type 0} (given : GrantRef) (job : Job) (d : Draft A) (reads : List ReadDone) : Type 0 where
  pub own : d.given ≡ given
  pub same : d.sqe ≡ job.sqe
  pub sound : IsSound d
  pub comes : ComesTo d job reads

pub catching-same : {A : Type 0} (given : GrantRef) (job : Job) (d e : Draft A) (reads : List ReadDone)
    → IsCatchingUp given job d reads → IsGoingOn d e → IsCatchingUp given job e reads
catching-same given job d e reads so_far on =
    record {
      own = on.same.given ∙ so_far.own;
      same = on.same.sqe ∙ so_far.same;
      sound = on.same.sound;
      comes = λ more.
          ap (λ x. in_transcript x [] (reads ++ more)) on.left ∙ so_far.comes more
          ∙ ap (λ (g : GrantRef). in_transcript (judge (mapped (regions_of (given_of g))) (given_of g).limit (blocks_in (given_of g).namespace) job.sqe) [] (job.reads ++ more)) (sym on.same.given);
    }

pub catching-fed : {A : Type 0} (given : GrantRef) (job : Job) (d e : Draft A) (reads : List ReadDone) (addr : ℕ) (bytes : List ℕ) (rest : List ReadDone)
    → IsCatchingUp given job d reads → next_at d.stage ≡ ahead.Read addr (length bytes)
    → first_read addr (length bytes) reads ≡ Some (bytes, rest) → IsFed d bytes e
    → IsCatchingUp given job e rest
catching-fed given job d e reads addr bytes rest so_far wants found step =
    record {
      own = step.same.given ∙ so_far.own;
      same = step.same.sqe ∙ so_far.same;
      sound = step.same.sound;
      comes = λ more.
          sym (step.on addr wants (reads ++ more) (rest ++ more) (first_read-more addr (length bytes) reads bytes rest more found))
          ∙ so_far.comes more
          ∙ ap (λ (g : GrantRef). in_transcript (judge (mapped (regions_of (given_of g))) (given_of g).limit (blocks_in (given_of g).namespace) job.sqe) [] (job.reads ++ more)) (sym step.same.given);
    }

-- the same by the length that was wanted
pub catching-read : {A : Type 0} (given : GrantRef) (job : Job) (d e : Draft A) (reads : List ReadDone) (addr len : ℕ) (bytes : List ℕ) (rest : List ReadDone)
    → IsCatchingUp given job d reads → next_at d.stage ≡ ahead.Read addr len → length bytes ≡ len
    → first_read addr len reads ≡ Some (bytes, rest) → IsFed d bytes e
    → IsCatchingUp given job e rest
catching-read given job d e reads addr len bytes rest so_far wants many found step =
    catching-fed given job d e reads addr bytes rest so_far (wants ∙ ap (ahead.Read addr) (sym many)) (ap (λ (n : ℕ). first_read addr n reads) many ∙ found) step

-- before the first
pub catching-start : {A : Type 0} (job : Job) (d : Draft A) (reads : List ReadDone) → IsBegun d job → reads ≡ job.reads
    → IsCatchingUp d.given job d reads
catching-start job d reads begun all =
    record {
      own = refl;
      same = begun.same;
      sound = begun.sound;
      comes = λ more.
          ap (λ x. in_transcript x [] (reads ++ more)) begun.left
          ∙ ap (λ (rs : List ReadDone). in_transcript (judge (mapped (regions_of (given_of d.given))) (given_of d.given).limit (blocks_in (given_of d.given).namespace) d.sqe) [] (rs ++ more)) all
          ∙ ap (λ (e : List ℕ). in_transcript (judge (mapped (regions_of (given_of d.given))) (given_of d.given).limit (blocks_in (given_of d.given).namespace) e) [] (job.reads ++ more)) begun.same;
    }

pub caught-up : {A : Type 0} (given : GrantRef) (job : Job) (d : Draft A) (reads : List ReadDone)
    → IsCatchingUp given job d reads → IsUnmet (next_at d.stage) reads → IsUnderWay d job
caught-up given job d reads so_far none = record { same = so_far.same; sound = so_far.sound; left = reads; comes = so_far.comes; unmet = none }

-- ---- its plan

pub under_way-says : {A : Type 0} (d : Draft A) (job : Job) (outline : Outline) → IsUnderWay d job → Says d outline
    → Settled outline ≡ outlined (given_of d.given).namespace job.sqe (outcome_of (given_of d.given) job)
under_way-says d job outline w says =
    says w.left
    ∙ ap (λ (e : List ℕ). outlined (given_of d.given).namespace e (planned (regions_of (given_of d.given)) (in_transcript (left_to_read d) [] w.left))) w.same
    ∙ ap (outlined (given_of d.given).namespace job.sqe) (sym (under_way-outcome d job w))

-- a plan keeps a copy of what the guest was given
pub made-same : (made : MadePlan) (job : Job) (given : Guest) (memory_map : Mapping) (ns : Namespace) (outline said : Outline)
    → made ≡ record { job = job; given = record { memory_map = memory_map; namespace = ns; limit = given.limit }; outline = outline }
    → memory_map ≡ given.memory_map → ns ≡ given.namespace → outline ≡ said
    → made ≡ record { job = job; given = given; outline = said }
made-same made job given memory_map ns outline said is map_same ns_same says =
    is
    ∙ ap (λ (m : Mapping). record { job = job; given = record { memory_map = m; namespace = ns; limit = given.limit }; outline = outline }) map_same
    ∙ ap (λ (n : Namespace). record { job = job; given = record { memory_map = given.memory_map; namespace = n; limit = given.limit }; outline = outline }) ns_same
    ∙ ap (λ (o : Outline). record { job = job; given = given; outline = o }) says

pub made-jobs : (job : Job) (given : Guest) (memory_map : Mapping) (ns : Namespace) (outline : Outline)
    → memory_map ≡ given.memory_map → ns ≡ given.namespace
    → Settled outline ≡ outlined given.namespace job.sqe (outcome_of given job)
    → IsJobsPlan (record { job = job; given = record { memory_map = memory_map; namespace = ns; limit = given.limit }; outline = outline })
made-jobs job given memory_map ns outline map_same ns_same says =
    subst IsJobsPlan
    (sym (ap (λ (m : Mapping). record { job = job; given = record { memory_map = m; namespace = ns; limit = given.limit }; outline = outline }) map_same
    ∙ ap (λ (n : Namespace). record { job = job; given = record { memory_map = given.memory_map; namespace = n; limit = given.limit }; outline = outline }) ns_same))
    (record { settled = sym says })

-- ---- the calls of a plan under way

-- what it says is wanted
pub wants-next : {A : Type 0} (d e : Draft A) (job : Job) (p : UnderWay) (n : Next) → IsUnderWay d job
    → ◌≡◌ {A = UnderWay} (record { job = job; given = given_of d.given }) p → IsGoingOn d e → next_at e.stage ≡ ahead_of n
    → IsNext n p
wants-next d e job p n w is on next =
    subst (IsNext n) (ap (λ (g : GrantRef). record { job = job; given = given_of g }) on.same.given ∙ is)
    (under_way-next e job n (under_way-same d e job w on) next)

-- what is wanted of its job is what comes next
pub wanted-next : {A : Type 0} (d e : Draft A) (job : Job) (p : UnderWay) (n : Next) (addr len : ℕ) → IsUnderWay d job
    → ◌≡◌ {A = UnderWay} (record { job = job; given = given_of d.given }) p → IsGoingOn d e → next_at e.stage ≡ ahead_of n
    → outcome_of p.given p.job ≡ Wanted addr len
    → next_at e.stage ≡ ahead.Read addr len
wanted-next d e job p n addr len w is on next wanted =
    under_way-asked e job n addr len (under_way-same d e job w on) next
    (ap (λ (q : UnderWay). outcome_of q.given q.job) (ap (λ (g : GrantRef). record { job = job; given = given_of g }) on.same.given ∙ is) ∙ wanted)

-- and goes on with it
pub wanted-fed : {A : Type 0} (d e f : Draft A) (job : Job) (read : ReadDone) → IsUnderWay d job → IsGoingOn d e
    → next_at e.stage ≡ ahead.Read read.addr (length read.bytes) → IsFed e read.bytes f
    → IsUnderWay f (record job { reads = job.reads ++ read ∷ [] })
wanted-fed d e f job read w on next step = under_way-fed e f job read (under_way-same d e job w on) next step

-- so it is whether there was memory or not
pub read-kept : {A T E : Type 0} (r : Result T E) (d e f : Draft A) (job : Job) (read : ReadDone) (reads : List ReadDone) → IsUnderWay d job → IsGoingOn d e
    → next_at e.stage ≡ ahead.Read read.addr (length read.bytes)
    → OnOk r (reads ≡ job.reads ++ read ∷ []) → OnOk r (IsFed e read.bytes f) → OnErr r (reads ≡ job.reads) → OnErr r (IsGoingOn e f)
    → IsUnderWay f (record job { reads = reads })
read-kept (Ok x) d e f job read reads w on next ok step err none =
    subst (λ (rs : List ReadDone). IsUnderWay f (record job { reads = rs })) (sym ok) (wanted-fed d e f job read w on next step)
read-kept (Err y) d e f job read reads w on next ok step err none =
    subst (λ (rs : List ReadDone). IsUnderWay f (record job { reads = rs })) (sym err) (under_way-same e f job (under_way-same d e job w on) none)
