-- What the replies of a Take, a Submit and a Post say: that it was due, and is done, or that nothing has changed.
use Rattle.std.proofs.Common.{◌≡◌, ◌==◌, refl, sym, ap, ◌∙◌, ℕ, ◌&&◌, Bool, true, false, cond, not, List, Option, Some, None, slice_get}
use Rattle.nv_core.proofs.Sides.{own-world}
use Rattle.nv_core.specs.Jobs.{job_in, job_with}
use Rattle.nv_host.proofs.Readings.{waiting-guest, waiting-submit}
use Rattle.nv_host.proofs.Rests.{true-false}
use Rattle.nv_host.proofs.Works.{own-beside, scene-same}
use Rattle.nv_host.specs.Passes.{IsOwn}
use Rattle.nv_host.specs.Served.{IsDone, has_share, is_closed}
use Rattle.nv_host.specs.Work.{IsDue, IsWork, NotDue, Scene}
use Rattle.nv_host.specs.declared.worked.Scope.TheVariants as scope
use Rattle.nv_laws.proofs.related.Goings.{not-telling}
use Rattle.nv_laws.proofs.related.Ways.{device-way, either-way, ended-way, guest-way, lane-way, owner-way, taken-way}
use Rattle.nv_entry.specs.Status.{StatusField}
use Rattle.nv_entry.specs.Submission.{cid_of}
use Rattle.nv_model.specs.Controller.{Posted, front, is_enabled, post}
use Rattle.nv_model.specs.Transcript.{Outcome, ReadDone, Settled, Wanted}
use Rattle.nv_model.specs.declared.reply.Reply.{Reply}
use Rattle.nv_model.specs.declared.reply.Reply.TheVariants as reply
use Rattle.nv_plan.specs.declared.job.Job.{Job}
use Rattle.nv_world_model.proofs.Seats.{owner_of-is, owner_of-number}
use Rattle.nv_world_model.specs.Due.{due}
use Rattle.nv_world_model.specs.Geometry.{Geometry, Guest}
use Rattle.nv_world_model.specs.Plan.{Plan, plan_over}
use Rattle.nv_world_model.specs.Seat.{Owner, owner_of}
use Rattle.nv_world_model.specs.Share.{tags_of_entry}
use Rattle.nv_world_model.specs.Step.{After, deciding, entry_at, is_done, is_io_queue, is_telling, post_all, post_by, replied, statuses_of, step, submit_by, take_front, take_tags}
use Rattle.nv_world_model.specs.World.{Command, Lane, Taken, World, claimed, group, tag_in, tag_of}
use Rattle.nv_world_model.specs.declared.event.Event.{Event}
use Rattle.nv_world_model.specs.declared.event.Event.TheVariants as event

-- ---- what is reported

-- a reply reports nothing but that something was done
abbrev ReportsDone : After → Type 0
ReportsDone a = is_telling a.reply ≡ is_done a.reply

none-done : (w : World) (r : Reply) → is_telling r ≡ false → ReportsDone (replied r w)
none-done w r none = none ∙ sym (not-telling r none)

module _ (w : World) where
  by_tags : (addr queue lane : ℕ) (o : Owner) (tags : Option (List ℕ)) → ReportsDone (take_tags tags addr queue lane o w)
  by_tags addr queue lane o None = refl
  by_tags addr queue lane o (Some tags) = refl

  by_front : (queue lane : ℕ) (l : Lane) (o : Owner) (addr : Option ℕ) → ReportsDone (take_front addr queue lane l o w)
  by_front queue lane l o None = refl
  by_front queue lane l o (Some addr) = by_tags addr queue lane o (claimed (tags_of_entry o.given.namespace (entry_at addr o w)) l.tags)

  take-reports : (geometry : Geometry) (guest queue lane : ℕ) → ReportsDone (step geometry (event.Take guest queue lane) w)
  unfolding step
  take-reports geometry guest queue lane =
      guest-way ReportsDone w (none-done w) (owner_of geometry w guest) _ (λ o found.
      lane-way ReportsDone w (none-done w) (slice_get w.lanes lane) _ (λ l at.
      either-way ReportsDone w (none-done w) (is_io_queue queue) _ _ (λ so. by_front queue lane l o (front o.controller queue)) (λ out. refl)))

  by_outcome : (mediator lane tag : ℕ) (command : Command) (o : Owner) (x : Outcome Plan)
      → ReportsDone (submit_by x mediator lane (group w lane tag) command o w)
  by_outcome mediator lane tag command o (Wanted addr len) = refl
  by_outcome mediator lane tag command o (Settled plan) = refl

  submit-reports : (geometry : Geometry) (lane tag : ℕ) → ReportsDone (step geometry (event.Submit lane tag) w)
  unfolding step
  submit-reports geometry lane tag =
      taken-way ReportsDone w (none-done w) tag (tag_of w lane tag) _ (λ command reads at leads.
      owner-way ReportsDone w (none-done w) (owner_of geometry w command.guest) _ (λ o found.
      device-way ReportsDone w (none-done w) (slice_get w.device lane) _ (λ d there.
      by_outcome geometry.mediator lane tag command o (plan_over o.given command.entry reads))))

  by_room : (st : StatusField) (mediator lane : ℕ) (tags : List ℕ) (o : Owner) (x : Option Posted) → ReportsDone (post_by x st mediator lane tags o w)
  by_room st mediator lane tags o None = refl
  by_room st mediator lane tags o (Some posted) = refl

  by_statuses : (command : Command) (mediator lane : ℕ) (tags : List ℕ) (o : Owner) (x : Option (List StatusField))
      → ReportsDone (post_all x command mediator lane tags o w)
  by_statuses command mediator lane tags o None = refl
  by_statuses command mediator lane tags o (Some sts) =
      either-way ReportsDone w (none-done w) (is_enabled o.controller) _ _
      (λ enabled. by_room (deciding sts) mediator lane tags o (post o.controller command.queue 0 (cid_of command.entry) (deciding sts))) (λ fell. refl)

  post-reports : (geometry : Geometry) (lane tag : ℕ) → ReportsDone (step geometry (event.Post lane tag) w)
  unfolding step
  post-reports geometry lane tag =
      ended-way ReportsDone w (none-done w) tag (tag_of w lane tag) _ (λ command st share at leads.
      owner-way ReportsDone w (none-done w) (owner_of geometry w command.guest) _ (λ o found.
      by_statuses command geometry.mediator lane (group w lane tag) o (statuses_of lane (group w lane tag) w)))

  -- ---- a Submit that is done

  -- the plan of the command that goes by a tag
  record HasPlan (geometry : Geometry) (lane tag : ℕ) : Type 0 where
    command : Command
    reads : List ReadDone
    given : Guest
    plan : Plan
    taken : tag_of w lane tag ≡ Some (Taken command reads)
    leads : (command.leader == tag) ≡ true
    whose : slice_get geometry.guests command.guest ≡ Some given
    settled : plan_over given command.entry reads ≡ Settled plan

  abbrev PlansWhereDone : (geometry : Geometry) (lane tag : ℕ) → After → Type 0
  PlansWhereDone geometry lane tag a = is_done a.reply ≡ true → HasPlan geometry lane tag

  none-plans : (geometry : Geometry) (lane tag : ℕ) (r : Reply) → is_telling r ≡ false → PlansWhereDone geometry lane tag (replied r w)
  none-plans geometry lane tag r none done = absurd (true-false (is_done r) done (not-telling r none))

  submit-plans : (geometry : Geometry) (lane tag : ℕ) → PlansWhereDone geometry lane tag (step geometry (event.Submit lane tag) w)
  unfolding step
  submit-plans geometry lane tag =
      taken-way (PlansWhereDone geometry lane tag) w (none-plans geometry lane tag) tag (tag_of w lane tag) _ (λ command reads at leads.
      owner-way (PlansWhereDone geometry lane tag) w (none-plans geometry lane tag) (owner_of geometry w command.guest) _ (λ o found.
      device-way (PlansWhereDone geometry lane tag) w (none-plans geometry lane tag) (slice_get w.device lane) _ (λ d there.
      settled command reads at leads o found (plan_over o.given command.entry reads) refl)))
    where
      settled : (command : Command) (reads : List ReadDone) → tag_of w lane tag ≡ Some (Taken command reads) → (command.leader == tag) ≡ true
          → (o : Owner) → owner_of geometry w command.guest ≡ Some o → (x : Outcome Plan) → plan_over o.given command.entry reads ≡ x
          → PlansWhereDone geometry lane tag (submit_by x geometry.mediator lane (group w lane tag) command o w)
      settled command reads at leads o found (Wanted addr len) is = λ done. cc
      settled command reads at leads o found (Settled plan) is = λ done.
          record {
            command = command;
            reads = reads;
            given = o.given;
            plan = plan;
            taken = at;
            leads = leads;
            whose =
                ap (slice_get geometry.guests) (owner_of-number geometry w command.guest o found) ∙ (owner_of-is geometry w command.guest o found).given;
            settled = is;
          }

-- ---- what follows from a reply

undone : (r : Reply) → (r ≡ reply.Done → ⊥) → is_done r ≡ false
undone reply.Done other = absurd (other refl)
undone (reply.Bytes bytes) other = refl
undone reply.Idle other = refl
undone reply.Busy other = refl
undone reply.Held other = refl
undone reply.Stale other = refl
undone reply.Unmapped other = refl
undone reply.Ignored other = refl
undone reply.NoMemory other = refl

both : (a b : Bool) → a ≡ true → b ≡ true → (a && b) ≡ true
both true b one two = two
both false b one two = cc

-- nothing has changed where it reports nothing but that something was done, and that is not so
module _ (e : Event) (a : Scene) (r : Reply) (b : Scene) (made : IsDone e a.served a.memory r b.served b.memory)
    (reports : (w : World) → ReportsDone (step a.served.setup.geometry e w)) where
  done-dull : (r ≡ reply.Done → ⊥) → b ≡ a
  done-dull other =
      let w : World = own-world a.served.side a.memory in
      let told = (made.worlds w (own-beside a)).reply in
      let same = made.dull (sym (ap is_telling told) ∙ reports w ∙ ap is_done told ∙ undone r other) in
      scene-same b.served a.served b.memory a.memory same.0 same.1

module _ (a : Scene) (guest queue lane : ℕ) (r : Reply) (b : Scene)
    (made : IsDone (event.Take guest queue lane) a.served a.memory r b.served b.memory) where
  -- a Take was due where it was done
  pub take-due : is_closed a.served lane ≡ false → has_share a.served guest lane ≡ true → r ≡ reply.Done → IsDue a (event.Take guest queue lane)
  unfolding due
  take-due unclosed room done w on = (
    both (not (is_closed a.served lane)) (has_share a.served guest lane) (ap not unclosed) room,
    ap is_done ((made.worlds w on).reply ∙ done),
  )

  -- and was not where it was not done
  pub take-undue : (r ≡ reply.Done → ⊥) → NotDue a (event.Take guest queue lane)
  unfolding due
  take-undue other w on is = true-false (is_done r) (sym (ap is_done (made.worlds w on).reply) ∙ is.1) (undone r other)

  pub take-dull : (r ≡ reply.Done → ⊥) → b ≡ a
  take-dull = done-dull (event.Take guest queue lane) a r b made (λ w. take-reports w a.served.setup.geometry guest queue lane)

module _ (a : Scene) (lane tag : ℕ) (r : Reply) (b : Scene) (made : IsDone (event.Post lane tag) a.served a.memory r b.served b.memory) where
  -- a Post was due where it was done
  pub post-due : r ≡ reply.Done → IsDue a (event.Post lane tag)
  unfolding due
  post-due done w on = (refl, ap is_done ((made.worlds w on).reply ∙ done))

  -- and was not where it was not done
  pub post-undue : (r ≡ reply.Done → ⊥) → NotDue a (event.Post lane tag)
  unfolding due
  post-undue other w on is = true-false (is_done r) (sym (ap is_done (made.worlds w on).reply) ∙ is.1) (undone r other)

  pub post-dull : (r ≡ reply.Done → ⊥) → b ≡ a
  post-dull = done-dull (event.Post lane tag) a r b made (λ w. post-reports w a.served.setup.geometry lane tag)

pub submit-dull : (a : Scene) (lane tag : ℕ) (r : Reply) (b : Scene) → IsDone (event.Submit lane tag) a.served a.memory r b.served b.memory
    → (r ≡ reply.Done → ⊥) → b ≡ a
submit-dull a lane tag r b made =
    done-dull (event.Submit lane tag) a r b made (λ w. submit-reports w a.served.setup.geometry lane tag)

-- a Submit of a guest's command was work where it was done
pub submit-work : (a : Scene) (guest lane tag : ℕ) (r : Reply) (b : Scene) → IsDone (event.Submit lane tag) a.served a.memory r b.served b.memory
    → IsOwn a guest lane tag → r ≡ reply.Done → IsWork (scope.Guest guest) a (event.Submit lane tag)
submit-work a guest lane tag r b made own done =
    let w : World = own-world a.served.side a.memory in
    let p = submit-plans w a.served.setup.geometry lane tag (ap is_done ((made.worlds w (own-beside a)).reply ∙ done)) in
    let job : Job = job_with lane tag p.command p.reads in
    let there : job_in lane tag (tag_in (slice_get a.served.side.lanes lane) tag) ≡ Some job =
    ap (job_in lane tag) p.taken ∙ ap (λ (b : Bool). cond b (Some job) None) p.leads in
    waiting-submit guest a job p.given p.plan (waiting-guest a guest lane tag job p.given own there p.whose) p.settled
