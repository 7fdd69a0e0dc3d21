-- A command that waits for its plan, while its lists are read.
use Rattle.std.proofs.Common.{◌≡◌, ◌∙◌, sym, ap, subst, ℕ, List, slice_get, Some, refl}
use Rattle.std.specs.Option.{option_map}
use Rattle.nv_c.proofs.ListJobs.{list-job}
use Rattle.nv_c.proofs.Works.{leads_one}
use Rattle.nv_host.proofs.Readings.{some-is}
use Rattle.nv_host.proofs.Rests.{own-job}
use Rattle.nv_c.specs.Work.{IsIn, IsReading, IsWaiting, IsWanting, IsWork, Leads, MayGiveUp}
use Rattle.nv_c.specs.declared.working.Scope.{Scope}
use Rattle.nv_c.specs.declared.working.Scope.TheVariants as scope
use Rattle.nv_core.specs.Jobs.{holder_of, job_of}
use Rattle.nv_core.specs.declared.holding.Holder.{Holder}
use Rattle.nv_host.proofs.ListJobs.{job_read}
use Rattle.nv_mediator.specs.Hosted.{Hosted, IsMade, hosted_world}
use Rattle.nv_model.specs.Transcript.{Outcome, ReadDone, Settled, Wanted}
use Rattle.nv_model.specs.declared.reply.Reply.{Reply}
use Rattle.nv_model.specs.declared.reply.Reply.TheVariants as reply
use Rattle.nv_plan.specs.Fed.{IsNext, UnderWay, with_read}
use Rattle.nv_plan.specs.Made.{outcome_of}
use Rattle.nv_plan.specs.declared.job.Job.{Job}
use Rattle.nv_plan.specs.declared.next.Next.{Next}
use Rattle.nv_plan.specs.declared.next.Next.TheVariants as next
use Rattle.nv_world_model.specs.Geometry.{Guest}
use Rattle.nv_world_model.specs.Plan.{Plan}
use Rattle.nv_world_model.specs.SetUp.{SetUp}
use Rattle.nv_world_model.specs.World.{World, tag_of}
use Rattle.nv_world_model.specs.declared.event.Event.TheVariants as event

-- ---- whose the events of a command are

pub own-list : (s : Scope) (w : World) (lane tag addr len : ℕ) → IsIn s w (event.GiveUp lane tag) → IsIn s w (event.List lane tag addr len)
own-list (scope.Guest guest) w lane tag addr len own = own
own-list (scope.Lane n) w lane tag addr len own = own
own-list scope.All w lane tag addr len own = tt

pub own-submit : (s : Scope) (w : World) (lane tag : ℕ) → IsIn s w (event.GiveUp lane tag) → IsIn s w (event.Submit lane tag)
own-submit (scope.Guest guest) w lane tag own = own
own-submit (scope.Lane n) w lane tag own = own
own-submit scope.All w lane tag own = tt

-- ---- a command that waits

pub waiting-guest : (h : Hosted) (guest lane tag : ℕ) (job : Job) (given : Guest)
    → holder_of (hosted_world h) lane tag ≡ Some (record { guest = guest; leader = tag }) → job_of (hosted_world h) lane tag ≡ Some job
    → slice_get h.geometry.guests job.guest ≡ Some given
    → IsWaiting (scope.Guest guest) h job given
waiting-guest h guest lane tag job given held there whose =
    let own = own-job lane tag (tag_of (hosted_world h) lane tag) job there in
    record {
      waits = record {
        taken =
            ap (λ (n : ℕ). job_of (hosted_world h) n job.tag) own.on ∙ ap (λ (n : ℕ). job_of (hosted_world h) lane n) own.under ∙ there;
        whose = whose;
      };
      own =
          ap (λ (n : ℕ). option_map (λ (x : Holder). x.guest) (holder_of (hosted_world h) n job.tag)) own.on
          ∙ ap (λ (n : ℕ). option_map (λ (x : Holder). x.guest) (holder_of (hosted_world h) lane n)) own.under
          ∙ ap (option_map (λ (x : Holder). x.guest)) held;
    }

-- bytes of its lists that it wants are work
pub waiting-list : (s : Scope) (h : Hosted) (job : Job) (given : Guest) (addr len : ℕ) → IsWaiting s h job given → outcome_of given job ≡ Wanted addr len
    → IsWork s h (event.List job.lane job.tag addr len)
waiting-list s h job given addr len waiting wanted =
    record { own = own-list s (hosted_world h) job.lane job.tag addr len waiting.own; next = (job, given, waiting.waits, wanted) }

-- and so is its plan
pub waiting-submit : (s : Scope) (h : Hosted) (job : Job) (given : Guest) (plan : Plan) → IsWaiting s h job given → outcome_of given job ≡ Settled plan
    → IsWork s h (event.Submit job.lane job.tag)
waiting-submit s h job given plan waiting settled =
    record { own = own-submit s (hosted_world h) job.lane job.tag waiting.own; next = (job, given, plan, waiting.waits, settled) }

-- so something comes next that may want memory
pub waiting-wants : (s : Scope) (h : Hosted) (job : Job) (given : Guest) → IsWaiting s h job given → IsWanting s h
waiting-wants s h job given waiting = by_outcome (outcome_of given job) refl
  where
    by_outcome : (o : Outcome Plan) → outcome_of given job ≡ o → IsWanting s h
    by_outcome (Wanted addr len) e =
        record { event = event.List job.lane job.tag addr len; work = waiting-list s h job given addr len waiting e; wants = refl }
    by_outcome (Settled plan) e =
        record { event = event.Submit job.lane job.tag; work = waiting-submit s h job given plan waiting e; wants = refl }

pub waiting-may : (s : Scope) (h : Hosted) (job : Job) (given : Guest) → IsWaiting s h job given → MayGiveUp s h job.lane job.tag
waiting-may s h job given waiting =
    record { own = waiting.own; waits = some-is (job_of (hosted_world h) job.lane job.tag) job waiting.waits.taken }

-- ---- after a List

own-kept : (s : Scope) (v w : World) (lane tag : ℕ) → holder_of w lane tag ≡ holder_of v lane tag → IsIn s v (event.GiveUp lane tag) → IsIn s w (event.GiveUp lane tag)
own-kept (scope.Guest guest) v w lane tag same own = ap (option_map (λ (x : Holder). x.guest)) same ∙ own
own-kept (scope.Lane n) v w lane tag same own = own
own-kept scope.All v w lane tag same own = tt

pub reading-on : (s : Scope) (h k : Hosted) (p q : UnderWay) (addr len : ℕ) (bytes : List ℕ) → IsReading s h p
    → IsMade (event.List p.job.lane p.job.tag addr len) h (reply.Bytes bytes) k
    → q ≡ with_read p (record { addr = addr; bytes = bytes })
    → IsReading s k q
reading-on s h k p q addr len bytes reading made fed =
    let lane : ℕ = p.job.lane in
    let tag : ℕ = p.job.tag in
    let there = list-job h k lane tag addr len p.job bytes reading.waits.taken made in
    let before = own-job lane tag (tag_of (hosted_world h) lane tag) p.job reading.waits.taken in
    let after = own-job lane tag (tag_of (hosted_world k) lane tag) (job_read p.job addr bytes) there in
    subst (IsReading s k) (sym fed)
    (record {
      waits = record {
        taken = there;
        whose = ap (λ (u : SetUp). slice_get u.geometry.guests p.job.guest) made.setup ∙ reading.waits.whose;
      };
      own = own-kept s (hosted_world h) (hosted_world k) lane tag (after.holder ∙ sym before.holder) reading.own;
    })

-- ---- what is read next

-- the event is work
pub stride-made : (s : Scope) (h k : Hosted) (p q : UnderWay) (job : Job) (n : Next) (addr len : ℕ) (r : Reply) → IsReading s h p → q ≡ p → job ≡ q.job
    → IsNext n p → n ≡ next.Read addr len → IsMade (event.List job.lane job.tag addr len) h r k
    → Leads s 1 h k
stride-made s h k p q job n addr len r reading same its wants is made =
    let own : job ≡ p.job = its ∙ ap (λ (u : UnderWay). u.job) same in
    let wanted : outcome_of p.given p.job ≡ Wanted addr len = subst (λ (m : Next). IsNext m p) is wants in
    leads_one s (event.List job.lane job.tag addr len) h k r
    (subst (λ (j : Job). IsWork s h (event.List j.lane j.tag addr len)) (sym own) (waiting-list s h p.job p.given addr len reading wanted)) made

-- and the plan under way has what it read
pub stride-read : (s : Scope) (h k : Hosted) (p q u : UnderWay) (job : Job) (addr len : ℕ) (r : Reply) (bytes : List ℕ) (read : ReadDone)
    → IsReading s h p → q ≡ p → job ≡ q.job → IsMade (event.List job.lane job.tag addr len) h r k → r ≡ reply.Bytes bytes
    → read ≡ record { addr = addr; bytes = bytes } → u ≡ with_read q read
    → IsReading s k u
stride-read s h k p q u job addr len r bytes read reading same its made is shown fed =
    let own : job ≡ p.job = its ∙ ap (λ (x : UnderWay). x.job) same in
    reading-on s h k p u addr len bytes reading
    (subst (λ (j : Job). IsMade (event.List j.lane j.tag addr len) h (reply.Bytes bytes) k) own (subst (λ (x : Reply). IsMade (event.List job.lane job.tag addr len) h x k) is made))
    (fed ∙ ap (λ (x : UnderWay). with_read x read) same ∙ ap (with_read p) shown)

pub reading-same : (s : Scope) (h k : Hosted) (p q : UnderWay) → k ≡ h → q ≡ p → IsReading s h p → IsReading s k q
reading-same s h k p q world plan reading = subst (λ (x : Hosted). IsReading s x q) (sym world) (subst (IsReading s h) (sym plan) reading)

pub reading-may : (s : Scope) (h k : Hosted) (p q : UnderWay) (job : Job) → k ≡ h → q ≡ p → job ≡ q.job → IsReading s h p → MayGiveUp s k job.lane job.tag
reading-may s h k p q job world plan its reading =
    subst (λ (j : Job). MayGiveUp s k j.lane j.tag) (sym its) (waiting-may s k q.job q.given (reading-same s h k p q world plan reading))
