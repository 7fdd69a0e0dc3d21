-- A command that was taken, planned, and carried out or put back.
use Rattle.std.proofs.Common.{◌≡◌, ℕ, ◌<◌, ◌⊎◌, inl, inr, List, [], ◌∷◌, length, None, Some, cond, arith, refl, sym, ap, ◌∙◌, subst}
use Rattle.nv_core.proofs.MadeParts.{made-whole, whole-of}
use Rattle.nv_core.proofs.Waits.{moved-group}
use Rattle.nv_core.specs.Groups.{all_handed, tags_changed}
use Rattle.nv_core.specs.Submit.{IsCarriedOut, IsGoing, IsJobOf, WaitsForPlan, host_behind, host_handed, tags_behind, tail_behind, tail_handed}
use Rattle.nv_entry.specs.StatusCode.{done_with}
use Rattle.nv_entry.specs.declared.status.Status.{Status}
use Rattle.nv_entry.specs.declared.status_code.StatusCode.TheVariants.{Success}
use Rattle.nv_laws_sound.proofs.Lists.{set-same, set-set}
use Rattle.nv_laws_sound.proofs.Planned.{plan_over-is, shares-count}
use Rattle.nv_model.specs.Transcript.{Outcome, ReadDone, Settled}
use Rattle.nv_ns.specs.Extents.{Namespace}
use Rattle.nv_plan.specs.Made.{IsJobsPlan, MadePlan, outcome_of, plan_come, plan_made, shares_made}
use Rattle.nv_plan.specs.Outline.{kind_of}
use Rattle.nv_plan.specs.declared.job.Job.{Job}
use Rattle.nv_plan.specs.declared.kind.PlanKind.TheVariants as kind
use Rattle.nv_world_model.specs.Geometry.{Guest}
use Rattle.nv_world_model.specs.Plan.{Answer, Bounced, Direct, NoData, Plan, plan_over}
use Rattle.nv_world_model.specs.Share.{Share, shares_of, tags_of_entry}
use Rattle.nv_world_model.specs.ShareArea.{is_no_command}
use Rattle.nv_world_model.specs.World.{Command, Ended, Flying, InDevice, Lane, Tag, Taken, group_in, tag_changed}

-- ---- by the kind of a plan

pub kind-answer : (plan : Plan) (st : Status) → kind_of plan ≡ kind.Answer st → plan ≡ Answer st
kind-answer (Answer s) st e = (let same : s ≡ st = cc in ap Answer same)
kind-answer (NoData work) st e = cc
kind-answer (Direct work) st e = cc
kind-answer (Bounced work) st e = cc

pub kind-goes : (plan : Plan) → (kind_of plan ≡ kind.NoData) ⊎ ((kind_of plan ≡ kind.Direct) ⊎ (kind_of plan ≡ kind.Bounced)) → IsGoing plan
kind-goes (Answer st) (inl none) = cc
kind-goes (Answer st) (inr (inl direct)) = cc
kind-goes (Answer st) (inr (inr bounced)) = cc
kind-goes (NoData work) e = tt
kind-goes (Direct work) e = tt
kind-goes (Bounced work) e = tt

-- ---- behind a plan that goes

pub going-host : (plan : Plan) (tags : List ℕ) (guest : Guest) (entry : List ℕ) (mediator lane at : ℕ) (host : ℕ → ℕ) → IsGoing plan
    → host_handed tags (shares_of guest.namespace entry plan) guest entry mediator lane at host ≡ host_behind plan tags guest entry mediator lane at host
going-host (Answer st) tags guest entry mediator lane at host goes = absurd goes
going-host (NoData work) tags guest entry mediator lane at host goes = refl
going-host (Direct work) tags guest entry mediator lane at host goes = refl
going-host (Bounced work) tags guest entry mediator lane at host goes = refl

pub going-tail : (plan : Plan) (tags : List ℕ) (ns : Namespace) (entry : List ℕ) (at : ℕ) → IsGoing plan
    → tail_handed tags (shares_of ns entry plan) at ≡ tail_behind plan tags ns entry at
going-tail (Answer st) tags ns entry at goes = absurd goes
going-tail (NoData work) tags ns entry at goes = refl
going-tail (Direct work) tags ns entry at goes = refl
going-tail (Bounced work) tags ns entry at goes = refl

pub going-tags : (plan : Plan) (tags : List ℕ) (ns : Namespace) (command : Command) (l : Lane) → IsGoing plan
    → all_handed tags (shares_of ns command.entry plan) command l ≡ tags_behind plan tags ns command l
going-tags (Answer st) tags ns command l goes = absurd goes
going-tags (NoData work) tags ns command l goes = refl
going-tags (Direct work) tags ns command l goes = refl
going-tags (Bounced work) tags ns command l goes = refl

-- a plan that goes has shares
pub shares-some : (p : MadePlan) (n : ℕ) → IsJobsPlan p → IsGoing (plan_made p) → n ≡ tags_of_entry p.given.namespace p.job.sqe → 0 < n
    → 0 < length (shares_made p)
shares-some p n is goes many some =
    let count = shares-count p.given p.job.sqe (plan_made p) (made-whole p is goes) in
    omega (arith, count, many, some)

pub come-some : (guest : Guest) (entry : List ℕ) (reads : List ReadDone) (plan : Plan) → plan_over guest entry reads ≡ Settled plan
    → 0 < tags_of_entry guest.namespace entry → IsGoing plan → 0 < length (shares_of guest.namespace entry plan)
come-some guest entry reads plan come some goes =
    let count = shares-count guest entry plan (whole-of guest entry plan (plan_over-is guest entry reads plan come) goes) in
    omega (arith, count, some)

-- ---- a tag that is changed twice

changed-twice : (tag : ℕ) (t now : Tag) (l : Lane) → tag_changed tag now (tag_changed tag t l) ≡ tag_changed tag now l
changed-twice tag t now l = ap (λ (ts : List Tag). let k : Lane = record l { tags = ts } in k) (set-set l.tags tag t now)

shares-twice : (tag : ℕ) (others : List ℕ) (shares : List Share) (command : Command) (t : Tag) (l : Lane) → 0 < length shares
    → all_handed (tag ∷ others) shares command (tag_changed tag t l) ≡ all_handed (tag ∷ others) shares command l
shares-twice tag others [] command t l some = absurd (omega (arith, some))
shares-twice tag others (share ∷ shares) command t l some =
    ap (all_handed others shares command)
    (changed-twice tag t (cond (is_no_command share) (Ended command (done_with Success) (Some share)) (Flying command share InDevice)) l)

plan-twice : (plan : Plan) (tag : ℕ) (others : List ℕ) (ns : Namespace) (command : Command) (t : Tag) (l : Lane)
    → (IsGoing plan → 0 < length (shares_of ns command.entry plan))
    → tags_behind plan (tag ∷ others) ns command (tag_changed tag t l) ≡ tags_behind plan (tag ∷ others) ns command l
plan-twice (Answer st) tag others ns command t l some =
    ap (tags_changed others (Ended command (done_with Success) None)) (changed-twice tag t (Ended command st None) l)
plan-twice (NoData work) tag others ns command t l some = shares-twice tag others (shares_of ns command.entry (NoData work)) command t l (some tt)
plan-twice (Direct work) tag others ns command t l some = shares-twice tag others (shares_of ns command.entry (Direct work)) command t l (some tt)
plan-twice (Bounced work) tag others ns command t l some = shares-twice tag others (shares_of ns command.entry (Bounced work)) command t l (some tt)

-- ---- with the transcript moved out

module _ (ns : Namespace) (l moved : Lane) (tag : ℕ) (waits : WaitsForPlan ns tag l)
    (is : moved ≡ tag_changed tag (Taken waits.led.command []) l) where
  -- and put back
  pub put-back : (new : Lane) (back : List ReadDone) → back ≡ waits.led.reads → new ≡ tag_changed tag (Taken waits.led.command back) moved → new ≡ l
  put-back new back same e =
      e ∙ ap (λ (rs : List ReadDone). tag_changed tag (Taken waits.led.command rs) moved) same
      ∙ ap (tag_changed tag (Taken waits.led.command waits.led.reads)) is
      ∙ changed-twice tag (Taken waits.led.command []) (Taken waits.led.command waits.led.reads) l
      ∙ ap (λ (ts : List Tag). let k : Lane = record l { tags = ts } in k) (set-same l.tags tag (Taken waits.led.command waits.led.reads) waits.led.is)

  -- what was carried out of it was of the tags as they were
  pub carried-on : (plan now : Plan) (guest given : Guest) (mediator lane : ℕ) (host host_new : ℕ → ℕ) (at at_new : ℕ) (new : Lane) → plan ≡ now → guest ≡ given
      → (IsGoing now → 0 < length (shares_of given.namespace waits.led.command.entry now))
      → IsCarriedOut plan guest mediator lane (group_in (Some moved) tag) waits.led.command host host_new at at_new moved new
      → IsCarriedOut now given mediator lane (group_in (Some l) tag) waits.led.command host host_new at at_new l new
  carried-on plan now guest given mediator lane host host_new at at_new new same whose some out =
      let command : Command = waits.led.command in
      let own : IsCarriedOut now given mediator lane (group_in (Some moved) tag) command host host_new at at_new moved new =
      subst (λ (q : Plan). IsCarriedOut q given mediator lane (group_in (Some moved) tag) command host host_new at at_new moved new) same
      (subst (λ (g : Guest). IsCarriedOut plan g mediator lane (group_in (Some moved) tag) command host host_new at at_new moved new) whose out) in
      let there : IsCarriedOut now given mediator lane (group_in (Some l) tag) command host host_new at at_new moved new =
      subst (λ (tags : List ℕ). IsCarriedOut now given mediator lane tags command host host_new at at_new moved new) (moved-group ns l moved tag waits is) own in
      record {
        memory = there.memory;
        tail = there.tail;
        tags_are =
            there.tags_are
            ∙ ap (λ (tags : List ℕ). tags_behind now tags given.namespace command moved) waits.first
            ∙ ap (tags_behind now (tag ∷ waits.others) given.namespace command) is
            ∙ plan-twice now tag waits.others given.namespace command (Taken command []) l some
            ∙ sym (ap (λ (tags : List ℕ). tags_behind now tags given.namespace command l) waits.first);
      }

-- ---- what came of a job

-- what the guest was given, by its parts
pub given-is : (given : Guest) (g : Guest) → g.memory_map ≡ given.memory_map → g.namespace ≡ given.namespace → g.limit ≡ given.limit → g ≡ given
given-is given g one two three =
    ap (λ m. let x : Guest = record { memory_map = m; namespace = g.namespace; limit = g.limit } in x) one
    ∙ ap (λ e. let x : Guest = record { memory_map = given.memory_map; namespace = e; limit = g.limit } in x) two
    ∙ ap (λ (n : ℕ). let x : Guest = record { memory_map = given.memory_map; namespace = given.namespace; limit = n } in x) three

-- what came of the job came of the command
pub outcome-is : (given g : Guest) (lane tag : ℕ) (command : Command) (reads : List ReadDone) (job : Job) (o : Outcome Plan) → g ≡ given
    → IsJobOf lane tag command reads job → outcome_of g job ≡ o → plan_over given command.entry reads ≡ o
outcome-is given g lane tag command reads job o same is e =
    ap (λ (rs : List ReadDone). plan_over given command.entry rs) (sym is.read)
    ∙ ap (λ (bytes : List ℕ). plan_over given bytes job.reads) (sym is.entry)
    ∙ ap (λ (x : Guest). plan_over x job.sqe job.reads) (sym same)
    ∙ e

-- and is the plan that was made of it
pub made-is : (made : MadePlan) (job : Job) (g : Guest) (plan : Plan) → made.job ≡ job → made.given ≡ g → outcome_of g job ≡ Settled plan → plan_made made ≡ plan
made-is made job g plan same whose e =
    ap (λ (j : Job). plan_come (outcome_of made.given j)) same ∙ ap (λ (x : Guest). plan_come (outcome_of x job)) whose ∙ ap plan_come e

-- a tag that was taken has one command, and one transcript
pub one-taken : (c d : Command) (reads more : List ReadDone) → Taken c reads ≡ Taken d more → (c ≡ d) × (reads ≡ more)
one-taken c d reads more e = (let same : c ≡ d = cc in let other : reads ≡ more = cc in (same, other))
