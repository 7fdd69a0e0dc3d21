-- What a List makes of the job of a command that waits for its plan.
use Rattle.std.proofs.Common.{◌≡◌, ℕ, Bool, true, false, ◌==◌, ◌&&◌, cond, List, [], ◌∷◌, ◌++◌, map, nat_le, slice_get, Option, Some, None, refl, sym, ap, ◌∙◌}
use Rattle.std.proofs.lemmas.Option.{none-some, slice_get-map}
use Rattle.std.specs.Option.{option_map}
use Rattle.nv_core.proofs.Sides.{own-world}
use Rattle.nv_core.specs.Front.{IsStepBeside}
use Rattle.nv_core.specs.Jobs.{job_in, job_of, job_with}
use Rattle.nv_host.proofs.Works.{own-beside}
use Rattle.nv_host.specs.Work.{IsMade, Scene}
use Rattle.nv_laws_sound.specs.Unplaced.{unplaced_lane, unplaced_tag}
use Rattle.nv_mem.specs.GuestMap.{all_mapped}
use Rattle.nv_model.specs.Limits.{part_size}
use Rattle.nv_model.specs.Memory.{bytes_from, image}
use Rattle.nv_model.specs.Transcript.{ReadDone}
use Rattle.nv_model.specs.declared.reply.Reply.{Reply}
use Rattle.nv_model.specs.declared.reply.Reply.TheVariants as reply
use Rattle.nv_plan.specs.declared.job.Job.{Job}
use Rattle.nv_world_model.proofs.Seats.{slice_get-set}
use Rattle.nv_world_model.specs.Geometry.{Geometry, regions_of}
use Rattle.nv_world_model.specs.Seat.{Owner, owner_of}
use Rattle.nv_world_model.specs.Step.{After, for_owner, for_taken, list_at, listed, replied, step}
use Rattle.nv_world_model.specs.World.{Command, Ended, Flying, Free, Lane, Tag, Taken, World, changed_at, tag_changed, tag_in, tag_of, with_tag}
use Rattle.nv_world_model.specs.declared.event.Event.TheVariants as event

-- the tag that is changed
tag_in-same : (o : Option Lane) (lanes : List Lane) (lane tag : ℕ) (t now : Tag) → slice_get lanes lane ≡ o → tag_in o tag ≡ Some t
    → tag_in (slice_get (changed_at o lane (tag_changed tag now) lanes) lane) tag ≡ Some now
tag_in-same None lanes lane tag t now at found = absurd (none-some t found)
tag_in-same (Some l) lanes lane tag t now at found =
    ap (λ o. tag_in o tag) (slice_get-set lanes lane l (tag_changed tag now l) at) ∙ slice_get-set l.tags tag t now found

tag_of-same : (w : World) (lane tag : ℕ) (t now : Tag) → tag_of w lane tag ≡ Some t → tag_of (with_tag lane tag now w) lane tag ≡ Some now
tag_of-same w lane tag t now found = tag_in-same (slice_get w.lanes lane) w.lanes lane tag t now refl found

-- a job with one more read
abbrev pub job_read : Job → (addr : ℕ) → (bytes : List ℕ) → Job
job_read job addr bytes = record job { reads = job.reads ++ record { addr = addr; bytes = bytes } ∷ [] }

module _ (geometry : Geometry) (w : World) (lane tag addr len : ℕ) (job : Job) (bytes : List ℕ) (after : World) where
  -- what a step that replies with bytes comes to
  abbrev Goal : Type 0
  Goal = job_of after lane tag ≡ Some (job_read job addr bytes)

  by_listed : (command : Command) (reads : List ReadDone) (o : Owner) → tag_of w lane tag ≡ Some (Taken command reads) → command.leader == tag ≡ true
      → Some (job_with lane tag command reads) ≡ Some job
      → replied (reply.Bytes bytes) after ≡ listed addr len lane tag command reads o w → Goal
  unfolding listed
  by_listed command reads o at leads is e =
      let shown : List ℕ = bytes_from (image (regions_of o.given) w.host) addr len in
      let now : Tag = Taken command (reads ++ record { addr = addr; bytes = shown } ∷ []) in
      let same : bytes ≡ shown = bytes-same bytes shown (ap (λ (a : After). a.reply) e) in
      let tags : tag_of after lane tag ≡ Some now = ap (λ (a : After). tag_of a.world lane tag) e ∙ tag_of-same w lane tag (Taken command reads) now at in
      ap (job_in lane tag) tags
      ∙ ap (λ (b : Bool). cond b (Some (job_with lane tag command (reads ++ record { addr = addr; bytes = shown } ∷ []))) None) leads
      ∙ ap (λ (bs : List ℕ). Some (job_with lane tag command (reads ++ record { addr = addr; bytes = bs } ∷ []))) (sym same)
      ∙ ap (λ (o : Option Job). more o) is
    where
      bytes-same : (xs ys : List ℕ) → reply.Bytes xs ≡ reply.Bytes ys → xs ≡ ys
      bytes-same xs ys e = (cc)

      more : Option Job → Option Job
      more None = None
      more (Some j) = Some (job_read j addr bytes)

  by_owner : (command : Command) (reads : List ReadDone) (o : Option Owner) → tag_of w lane tag ≡ Some (Taken command reads) → command.leader == tag ≡ true
      → Some (job_with lane tag command reads) ≡ Some job
      → replied (reply.Bytes bytes) after ≡ for_owner o w (λ o. list_at addr len lane tag command reads o w) → Goal
  by_owner command reads None at leads is e = absurd (not_stale (ap (λ (a : After). a.reply) e))
    where
      not_stale : reply.Bytes bytes ≡ reply.Stale → ⊥
      not_stale e = (cc)
  by_owner command reads (Some o) at leads is e = by_mapped (all_mapped (regions_of o.given) addr len) (nat_le 1 len && nat_le len part_size) e
    where
      not_unmapped : reply.Bytes bytes ≡ reply.Unmapped → ⊥
      not_unmapped e = (cc)

      not_ignored : reply.Bytes bytes ≡ reply.Ignored → ⊥
      not_ignored e = (cc)

      by_mapped : (m s : Bool)
          → replied (reply.Bytes bytes) after ≡ cond m (cond s (listed addr len lane tag command reads o w) (replied reply.Ignored w)) (replied reply.Unmapped w)
          → Goal
      by_mapped false s e = absurd (not_unmapped (ap (λ (a : After). a.reply) e))
      by_mapped true false e = absurd (not_ignored (ap (λ (a : After). a.reply) e))
      by_mapped true true e = by_listed command reads o at leads is e

  by_tag : (t : Option Tag) → tag_of w lane tag ≡ t → job_in lane tag t ≡ Some job
      → replied (reply.Bytes bytes) after
      ≡ for_taken tag t w (λ command reads. for_owner (owner_of geometry w command.guest) w (λ o. list_at addr len lane tag command reads o w))
      → Goal
  by_tag None at is e = absurd (none-some job is)
  by_tag (Some Free) at is e = absurd (none-some job is)
  by_tag (Some (Flying command share now)) at is e = absurd (none-some job is)
  by_tag (Some (Ended command st share)) at is e = absurd (none-some job is)
  by_tag (Some (Taken command reads)) at is e = by_leader (command.leader == tag) refl is e
    where
      by_leader : (b : Bool) → command.leader == tag ≡ b → cond b (Some (job_with lane tag command reads)) None ≡ Some job
          → replied (reply.Bytes bytes) after
          ≡ cond b (for_owner (owner_of geometry w command.guest) w (λ o. list_at addr len lane tag command reads o w)) (replied reply.Stale w)
          → Goal
      by_leader false leads is e = absurd (none-some job is)
      by_leader true leads is e = by_owner command reads (owner_of geometry w command.guest) at leads is e

  -- so it is of the event's step
  pub step-job : job_of w lane tag ≡ Some job
      → (let a : After = record { world = after; reply = reply.Bytes bytes } in a) ≡ step geometry (event.List lane tag addr len) w
      → job_of after lane tag ≡ Some (job_read job addr bytes)
  unfolding step
  step-job is e = by_tag (tag_of w lane tag) refl is e

-- ---- places

job-placed : (lane tag : ℕ) (t : Option Tag) → job_in lane tag (option_map unplaced_tag t) ≡ job_in lane tag t
job-placed lane tag None = refl
job-placed lane tag (Some Free) = refl
job-placed lane tag (Some (Taken command reads)) = refl
job-placed lane tag (Some (Flying command share at)) = refl
job-placed lane tag (Some (Ended command st share)) = refl

tag-placed : (o : Option Lane) (tag : ℕ) → tag_in (option_map unplaced_lane o) tag ≡ option_map unplaced_tag (tag_in o tag)
tag-placed None tag = refl
tag-placed (Some l) tag = slice_get-map unplaced_tag l.tags tag

-- a job does not depend on where parts are
job-in : (ls : List Lane) (lane tag : ℕ) → job_in lane tag (tag_in (slice_get (map unplaced_lane ls) lane) tag) ≡ job_in lane tag (tag_in (slice_get ls lane) tag)
job-in ls lane tag =
    ap (λ (o : Option Lane). job_in lane tag (tag_in o tag)) (slice_get-map unplaced_lane ls lane)
    ∙ ap (job_in lane tag) (tag-placed (slice_get ls lane) tag)
    ∙ job-placed lane tag (tag_in (slice_get ls lane) tag)

-- a List that replies with bytes adds them to what was read for the command
pub list-job : (old new : Scene) (lane tag addr len : ℕ) (job : Job) (bytes : List ℕ)
    → job_in lane tag (tag_in (slice_get old.served.side.lanes lane) tag) ≡ Some job
    → IsMade (event.List lane tag addr len) old (reply.Bytes bytes) new
    → job_in lane tag (tag_in (slice_get new.served.side.lanes lane) tag) ≡ Some (job_read job addr bytes)
unfolding step
list-job old new lane tag addr len job bytes is made =
    sym (job-in new.served.side.lanes lane tag)
    ∙ ap (λ (ls : List Lane). job_in lane tag (tag_in (slice_get ls lane) tag)) (sym on.world.lanes)
    ∙ job-in a.world.lanes lane tag
    ∙ by_tag geometry w lane tag addr len job bytes a.world (tag_of w lane tag) refl is
    (ap (λ (r : Reply). let x : After = record { world = a.world; reply = r } in x) (sym on.reply))
  where
    geometry : Geometry
    geometry = old.served.setup.geometry

    w : World
    w = own-world old.served.side old.memory

    a : After
    a = step geometry (event.List lane tag addr len) w

    on : IsStepBeside geometry (event.List lane tag addr len) w (reply.Bytes bytes) new.served.side new.memory
    on = made.worlds w (own-beside old)
