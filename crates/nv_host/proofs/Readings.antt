-- A command that waits for its plan, while its lists are read.
use Rattle.std.proofs.Common.{◌≡◌, ◌∙◌, sym, ap, subst, ℕ, List, slice_get, Option, None, Some, is_some, false, true, refl}
use Rattle.std.specs.Option.{option_map}
use Rattle.nv_core.specs.Jobs.{holder_in, job_in}
use Rattle.nv_core.specs.Submit.{IsCurrentIn, IsOfTag}
use Rattle.nv_core.specs.declared.holding.Holder.{Holder}
use Rattle.nv_host.proofs.ListJobs.{job_read, list-job}
use Rattle.nv_host.proofs.Rests.{own-job, true-false}
use Rattle.nv_host.proofs.Works.{leads_one}
use Rattle.nv_host.specs.Passes.{IsOwn, IsReading, IsWaiting, MayGiveUp}
use Rattle.nv_host.specs.Work.{IsMade, IsWanting, IsWork, Leads, Scene}
use Rattle.nv_host.specs.declared.worked.Scope.TheVariants as scope
use Rattle.nv_laws_sound.proofs.Lists.{some-same}
use Rattle.nv_model.specs.Transcript.{Outcome, ReadDone, Settled, Wanted}
use Rattle.nv_model.specs.declared.reply.Reply.{Reply}
use Rattle.nv_model.specs.declared.reply.Reply.TheVariants as reply
use Rattle.nv_plan.specs.Fed.{IsNext, UnderWay, with_read}
use Rattle.nv_plan.specs.Made.{MadePlan, outcome_of}
use Rattle.nv_plan.specs.Planned.{IsPlanned}
use Rattle.nv_plan.specs.declared.planned.Planned.TheVariants as planned
use Rattle.nv_plan.specs.declared.job.Job.{Job}
use Rattle.nv_plan.specs.declared.next.Next.{Next}
use Rattle.nv_plan.specs.declared.next.Next.TheVariants as next
use Rattle.nv_world_model.specs.Geometry.{Guest}
use Rattle.nv_world_model.specs.Plan.{Plan}
use Rattle.nv_world_model.specs.SetUp.{SetUp}
use Rattle.nv_world_model.specs.World.{Tag, tag_in}
use Rattle.nv_world_model.specs.declared.event.Event.TheVariants as event

abbrev tag_at : Scene → (lane tag : ℕ) → Option Tag
tag_at s lane tag = tag_in (slice_get s.served.side.lanes lane) tag

-- ---- a command that waits

pub waiting-guest : (s : Scene) (guest lane tag : ℕ) (job : Job) (given : Guest) → IsOwn s guest lane tag → job_in lane tag (tag_at s lane tag) ≡ Some job
    → slice_get s.served.setup.geometry.guests job.guest ≡ Some given → IsWaiting guest s job given
waiting-guest s guest lane tag job given held there whose =
    let own = own-job lane tag (tag_at s lane tag) job there in
    record {
      waits = record {
        taken =
            ap (λ (n : ℕ). job_in n job.tag (tag_at s n job.tag)) own.on
            ∙ ap (λ (n : ℕ). job_in lane n (tag_at s lane n)) own.under
            ∙ there;
        whose = whose;
      };
      own =
          ap (λ (n : ℕ). option_map (λ (x : Holder). x.guest) (holder_in (tag_at s n job.tag))) own.on
          ∙ ap (λ (n : ℕ). option_map (λ (x : Holder). x.guest) (holder_in (tag_at s lane n))) own.under
          ∙ ap (option_map (λ (x : Holder). x.guest)) held;
    }

-- whose a job is
pub job-guest : (s : Scene) (guest lane tag : ℕ) (job : Job) → IsOwn s guest lane tag → job_in lane tag (tag_at s lane tag) ≡ Some job → job.guest ≡ guest
job-guest s guest lane tag job held there =
    let own = own-job lane tag (tag_at s lane tag) job there in
    let mine : Holder = record { guest = job.guest; leader = tag } in
    let its : Holder = record { guest = guest; leader = tag } in
    ap (λ (x : Holder). x.guest) (some-same mine its (sym own.holder ∙ held))

-- bytes of its lists that it wants are work
pub waiting-list : (guest : ℕ) (s : Scene) (job : Job) (given : Guest) (addr len : ℕ) → IsWaiting guest s job given → outcome_of given job ≡ Wanted addr len
    → IsWork (scope.Guest guest) s (event.List job.lane job.tag addr len)
waiting-list guest s job given addr len waiting wanted =
    record { own = waiting.own; due_now = (λ w on. (job, given, waiting.waits, wanted)) }

-- and so is its plan
pub waiting-submit : (guest : ℕ) (s : Scene) (job : Job) (given : Guest) (plan : Plan) → IsWaiting guest s job given → outcome_of given job ≡ Settled plan
    → IsWork (scope.Guest guest) s (event.Submit job.lane job.tag)
waiting-submit guest s job given plan waiting settled =
    record { own = waiting.own; due_now = (λ w on. (job, given, plan, waiting.waits, settled)) }

-- so something is due that may want memory
pub waiting-wants : (guest : ℕ) (s : Scene) (job : Job) (given : Guest) → IsWaiting guest s job given → IsWanting (scope.Guest guest) s
waiting-wants guest s job given waiting = by_outcome (outcome_of given job) refl
  where
    by_outcome : (o : Outcome Plan) → outcome_of given job ≡ o → IsWanting (scope.Guest guest) s
    by_outcome (Wanted addr len) e =
        record { event = event.List job.lane job.tag addr len; work = waiting-list guest s job given addr len waiting e; wants = refl }
    by_outcome (Settled plan) e =
        record { event = event.Submit job.lane job.tag; work = waiting-submit guest s job given plan waiting e; wants = refl }

pub some-job : (o : Option Job) → is_some o ≡ true → (job : Job) × (o ≡ Some job)
some-job None is = absurd (true-false false is refl)
some-job (Some job) is = (job, refl)

pub some-is : {A : Type 0} (o : Option A) (x : A) → o ≡ Some x → is_some o ≡ true
some-is o x e = ap is_some e

pub waiting-may : (guest : ℕ) (s : Scene) (job : Job) (given : Guest) → IsWaiting guest s job given → MayGiveUp guest s job.lane job.tag
waiting-may guest s job given waiting =
    record { own = waiting.own; waits = some-is (job_in job.lane job.tag (tag_at s job.lane job.tag)) job waiting.waits.taken }

-- a plan that was made of its job is current, and is work
pub plan-work : (guest lane tag : ℕ) (s : Scene) (job : Job) (given : Guest) (made : MadePlan) → IsOwn s guest lane tag
    → job_in lane tag (tag_at s lane tag) ≡ Some job → slice_get s.served.setup.geometry.guests guest ≡ Some given
    → IsPlanned (planned.Plan made) job given
    → IsCurrentIn s.served.setup.geometry s.served.side.lanes made × IsWork (scope.Guest guest) s (event.Submit made.job.lane made.job.tag)
plan-work guest lane tag s job given made held there whose is =
    let own = own-job lane tag (tag_at s lane tag) job there in
    let its : slice_get s.served.setup.geometry.guests job.guest ≡ Some given =
    ap (slice_get s.served.setup.geometry.guests) (job-guest s guest lane tag job held there) ∙ whose in
    let at : tag_at s job.lane job.tag ≡ tag_at s lane tag = ap (λ (n : ℕ). tag_at s n job.tag) own.on ∙ ap (λ (n : ℕ). tag_at s lane n) own.under in
    let waiting = waiting-guest s guest lane tag job given held there its in
    subst (λ (p : MadePlan). IsCurrentIn s.served.setup.geometry s.served.side.lanes p × IsWork (scope.Guest guest) s (event.Submit p.job.lane p.job.tag)) (sym is.1.1) (
      record { of_tag = subst (λ (t : Option Tag). IsOfTag t job) (sym at) own.current; made_with = its },
      waiting-submit guest s job given is.0 waiting is.1.0,
    )

pub own-may : (guest lane tag : ℕ) (s : Scene) (job : Job) → IsOwn s guest lane tag → job_in lane tag (tag_at s lane tag) ≡ Some job → MayGiveUp guest s lane tag
own-may guest lane tag s job held there =
    record { own = ap (option_map (λ (x : Holder). x.guest)) held; waits = some-is (job_in lane tag (tag_at s lane tag)) job there }

-- ---- after a List

pub reading-on : (guest : ℕ) (a b : Scene) (p q : UnderWay) (addr len : ℕ) (bytes : List ℕ) → IsReading guest a p
    → IsMade (event.List p.job.lane p.job.tag addr len) a (reply.Bytes bytes) b
    → q ≡ with_read p (record { addr = addr; bytes = bytes })
    → IsReading guest b q
reading-on guest a b p q addr len bytes reading made fed =
    let lane : ℕ = p.job.lane in
    let tag : ℕ = p.job.tag in
    let there = list-job a b lane tag addr len p.job bytes reading.waits.taken made in
    let before = own-job lane tag (tag_at a lane tag) p.job reading.waits.taken in
    let after = own-job lane tag (tag_at b lane tag) (job_read p.job addr bytes) there in
    subst (IsReading guest b) (sym fed)
    (record {
      waits = record {
        taken = there;
        whose = ap (λ (u : SetUp). slice_get u.geometry.guests p.job.guest) made.next.setup ∙ reading.waits.whose;
      };
      own = ap (option_map (λ (x : Holder). x.guest)) (after.holder ∙ sym before.holder) ∙ reading.own;
    })

-- ---- what is read next

-- the event is work
pub stride-made : (guest : ℕ) (a b : Scene) (p q : UnderWay) (job : Job) (n : Next) (addr len : ℕ) (r : Reply) → IsReading guest a p → q ≡ p → job ≡ q.job
    → IsNext n p → n ≡ next.Read addr len → IsMade (event.List job.lane job.tag addr len) a r b
    → Leads (scope.Guest guest) 1 a b
stride-made guest a b p q job n addr len r reading same its wants is made =
    let own : job ≡ p.job = its ∙ ap (λ (u : UnderWay). u.job) same in
    let wanted : outcome_of p.given p.job ≡ Wanted addr len = subst (λ (m : Next). IsNext m p) is wants in
    leads_one (scope.Guest guest) (event.List job.lane job.tag addr len) a b r
    (subst (λ (j : Job). IsWork (scope.Guest guest) a (event.List j.lane j.tag addr len)) (sym own) (waiting-list guest a p.job p.given addr len reading wanted)) made

-- and the plan under way has what it read
pub stride-read : (guest : ℕ) (a b : Scene) (p q u : UnderWay) (job : Job) (addr len : ℕ) (r : Reply) (bytes : List ℕ) (read : ReadDone)
    → IsReading guest a p → q ≡ p → job ≡ q.job → IsMade (event.List job.lane job.tag addr len) a r b → r ≡ reply.Bytes bytes
    → read ≡ record { addr = addr; bytes = bytes } → u ≡ with_read q read
    → IsReading guest b u
stride-read guest a b p q u job addr len r bytes read reading same its made is shown fed =
    let own : job ≡ p.job = its ∙ ap (λ (x : UnderWay). x.job) same in
    reading-on guest a b p u addr len bytes reading
    (subst (λ (j : Job). IsMade (event.List j.lane j.tag addr len) a (reply.Bytes bytes) b) own
    (subst (λ (x : Reply). IsMade (event.List job.lane job.tag addr len) a x b) is made))
    (fed ∙ ap (λ (x : UnderWay). with_read x read) same ∙ ap (with_read p) shown)

pub reading-same : (guest : ℕ) (a b : Scene) (p q : UnderWay) → b ≡ a → q ≡ p → IsReading guest a p → IsReading guest b q
reading-same guest a b p q world plan reading =
    subst (λ (x : Scene). IsReading guest x q) (sym world) (subst (IsReading guest a) (sym plan) reading)

pub reading-may : (guest : ℕ) (a b : Scene) (p q : UnderWay) (job : Job) → b ≡ a → q ≡ p → job ≡ q.job → IsReading guest a p → MayGiveUp guest b job.lane job.tag
reading-may guest a b p q job world plan its reading =
    subst (λ (j : Job). MayGiveUp guest b j.lane j.tag) (sym its) (waiting-may guest b q.job q.given (reading-same guest a b p q world plan reading))
