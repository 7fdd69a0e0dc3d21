-- Tags that are not among those at a point: none of their commands waits for its plan, or has ended.
use Rattle.std.proofs.Common.{◌≡◌, refl, sym, ap, ◌∙◌, ℕ, zero, suc, ◌+◌, ◌||◌, ◌&&◌, ◌==◌, nat_lt, Bool, true, false, List, [], ◌∷◌, length, slice_get, Option, None, Some, arith}
use Rattle.std.proofs.lemmas.Bool.{eq-eqb, lt-ltb}
use Rattle.std.proofs.lemmas.Option.{none-some}
use Rattle.nv_core.proofs.HeldTags.{in-front, numbers as numbered}
use Rattle.nv_laws_sound.specs.Side.{Side}
use Rattle.nv_core.specs.Jobs.{holder_in, job_in}
use Rattle.nv_core.specs.Tags.{ended_in, is_ended, is_taken, taken_in}
use Rattle.nv_core.specs.declared.holding.Holder.{Holder}
use Rattle.nv_entry.specs.Status.{StatusField}
use Rattle.nv_core.specs.Reaping.{waits_in}
use Rattle.nv_host.proofs.Rests.{due-not, lane-rests, not-there, or-true, own-job, placed, true-false}
use Rattle.nv_host.specs.Passes.{NoneWaitsAt, NothingWaitsAt}
use Rattle.nv_host.specs.Served.{Served}
use Rattle.nv_host.specs.Work.{NotDue, Rests, Scene}
use Rattle.nv_host.specs.declared.worked.Scope.TheVariants as scope
use Rattle.nv_laws_sound.proofs.Lists.{some-same}
use Rattle.nv_model.specs.declared.reply.Reply.TheVariants as reply
use Rattle.nv_plan.specs.declared.job.Job.{Job}
use Rattle.nv_tags.proofs.Rows.{is_among}
use Rattle.nv_world_model.specs.Due.{due}
use Rattle.nv_world_model.specs.Geometry.{Geometry}
use Rattle.nv_world_model.specs.Seat.{Owner, owner_of}
use Rattle.nv_world_model.specs.Share.{Share}
use Rattle.nv_world_model.specs.Step.{After, for_ended, for_owner, post_all, replied, statuses_of, step}
use Rattle.nv_world_model.specs.World.{Command, Ended, Flying, Free, Lane, Tag, Taken, World, group, tag_in, tag_of, tags_where}
use Rattle.nv_world_model.specs.declared.event.Event.TheVariants as event

-- ---- the tags of which a test holds

-- one that is among the others is among all
further : (test : Tag → Bool) (from : ℕ) (u : Tag) (tags : List Tag) (at : ℕ) → is_among (numbered test (from + 1) tags) at ≡ true → (b : Bool) → test u ≡ b
    → is_among (numbered test from (u ∷ tags)) at ≡ true
further test from u tags at rest true is =
    ap (λ (xs : List ℕ). is_among xs at) (in-front test from u tags true is) ∙ ap (λ (b : Bool). (from == at) || b) rest ∙ or-true (from == at)
further test from u tags at rest false is = ap (λ (xs : List ℕ). is_among xs at) (in-front test from u tags false is) ∙ rest

among-from : (test : Tag → Bool) (from : ℕ) (tags : List Tag) (k : ℕ) (t : Tag) → slice_get tags k ≡ Some t → test t ≡ true
    → is_among (numbered test from tags) (from + k) ≡ true
among-from test from [] k t there holds = cc
among-from test from (u ∷ tags) zero t there holds =
    let same : test u ≡ true = ap test (some-same u t there) ∙ holds in
    let here : from ≡ from + 0 = omega arith in
    ap (λ (xs : List ℕ). is_among xs (from + 0)) (in-front test from u tags true same)
    ∙ ap (λ (b : Bool). b || is_among (numbered test (from + 1) tags) (from + 0)) (eq-eqb from (from + 0) here)
among-from test from (u ∷ tags) (suc k) t there holds =
    let number : from + suc k ≡ (from + 1) + k = omega arith in
    further test from u tags (from + suc k) (ap (is_among (numbered test (from + 1) tags)) number ∙ among-from test (from + 1) tags k t there holds) (test u) refl

pub where-among : (test : Tag → Bool) (tags : List Tag) (k : ℕ) (t : Tag) → slice_get tags k ≡ Some t → test t ≡ true → is_among (tags_where test tags) k ≡ true
where-among test tags k t there holds =
    let number : k ≡ 0 + k = omega arith in
    ap (is_among (tags_where test tags)) number ∙ among-from test 0 tags k t there holds

pub both-true : (a b : Bool) → a ≡ true → b ≡ true → a && b ≡ true
both-true true b one two = two
both-true false b one two = cc

-- a tag that is none of them fails the test
pub out-fails : (test : Tag → Bool) (tags : List Tag) (k : ℕ) (t : Tag) → is_among (tags_where test tags) k ≡ false → slice_get tags k ≡ Some t → test t ≡ true → ⊥
out-fails test tags k t out there holds =
    true-false (is_among (tags_where test tags) k) (where-among test tags k t there holds) out

-- ---- what the front has said

-- a group that is what is computed of the side
pub among-same : (of : Side → List ℕ) (f : Side) (h inside : Served) → inside ≡ h → inside.side ≡ f → (tags : List ℕ) → tags ≡ of f
    → (k : ℕ) → is_among tags k ≡ false → is_among (of h.side) k ≡ false
among-same of f h inside view part tags are k out =
    ap (λ (x : Served). is_among (of x.side) k) (sym view) ∙ ap (λ (x : Side). is_among (of x) k) part ∙ sym (ap (λ (xs : List ℕ). is_among xs k) are) ∙ out

-- ---- a tag that is not among those at a point

pub job-not_taken : (o : Option Lane) (lane tag : ℕ) → is_among (taken_in o) tag ≡ false → (job : Job) → job_in lane tag (tag_in o tag) ≡ Some job → ⊥
job-not_taken None lane tag out job is = none-some job is
job-not_taken (Some l) lane tag out job is = by_tag (slice_get l.tags tag) refl is
  where
    by_tag : (t : Option Tag) → slice_get l.tags tag ≡ t → job_in lane tag t ≡ Some job → ⊥
    by_tag None at is = none-some job is
    by_tag (Some Free) at is = none-some job is
    by_tag (Some (Taken command reads)) at is = out-fails is_taken l.tags tag (Taken command reads) out at refl
    by_tag (Some (Flying command share standing)) at is = none-some job is
    by_tag (Some (Ended command st share)) at is = none-some job is

module _ (geometry : Geometry) (w : World) (lane tag : ℕ) where
  abbrev post_by_tag : Option Tag → After
  post_by_tag o =
      for_ended tag o w (λ command.
      for_owner (owner_of geometry w command.guest) w (λ (o : Owner).
      post_all (statuses_of lane (group w lane tag) w) command geometry.mediator lane (group w lane tag) o w))

  pub post-unended : (t : Option Tag) → tag_of w lane tag ≡ t → ((command : Command) (st : StatusField) (share : Option Share) → t ≡ Some (Ended command st share) → ⊥)
      → due geometry (event.Post lane tag) w ≡ false
  unfolding step
  post-unended None at never = due-not geometry (event.Post lane tag) w (replied reply.Ignored w) (ap post_by_tag at) refl
  post-unended (Some Free) at never = due-not geometry (event.Post lane tag) w (replied reply.Stale w) (ap post_by_tag at) refl
  post-unended (Some (Taken command reads)) at never = due-not geometry (event.Post lane tag) w (replied reply.Stale w) (ap post_by_tag at) refl
  post-unended (Some (Flying command share standing)) at never = due-not geometry (event.Post lane tag) w (replied reply.Stale w) (ap post_by_tag at) refl
  post-unended (Some (Ended command st share)) at never = absurd (never command st share refl)

  pub post-not_ended : is_among (ended_in (slice_get w.lanes lane)) tag ≡ false → due geometry (event.Post lane tag) w ≡ false
  post-not_ended out =
      post-unended (tag_of w lane tag) refl (λ command st share at. by_lane (slice_get w.lanes lane) out command st share at)
    where
      by_lane : (o : Option Lane) → is_among (ended_in o) tag ≡ false → (command : Command) (st : StatusField) (share : Option Share)
          → tag_in o tag ≡ Some (Ended command st share) → ⊥
      by_lane None out command st share at = none-some (Ended command st share) at
      by_lane (Some l) out command st share at = out-fails is_ended l.tags tag (Ended command st share) out at refl

-- ---- a command that waits

module _ (s : Scene) (lane tag : ℕ) where
  abbrev here : Option Lane
  here = slice_get s.served.side.lanes lane

  pub not-taken : is_among (taken_in here) tag ≡ false → NothingWaitsAt s lane tag
  not-taken out guest job given waits whose = job-not_taken here lane tag out job waits.taken

  -- nobody's command waits by a tag that nobody has
  pub nobody-waits : holder_in (tag_in here tag) ≡ None → NothingWaitsAt s lane tag
  nobody-waits none guest job given waits whose =
      (let own = own-job lane tag (tag_in here tag) job waits.taken in none-some (let h : Holder = record { guest = job.guest; leader = tag } in h) (sym none ∙ own.holder))

  -- where none of its holder's waits, none does
  pub holder-waits : (h : Holder) → holder_in (tag_in here tag) ≡ Some h → NoneWaitsAt s h.guest lane tag → NothingWaitsAt s lane tag
  holder-waits h is none guest job given waits whose =
      (let own = own-job lane tag (tag_in here tag) job waits.taken in
      none job given waits (sym (ap (λ (x : Holder). x.guest) (some-same h (let o : Holder = record { guest = job.guest; leader = tag } in o) (sym is ∙ own.holder)))))

  pub not-ended : is_among (ended_in here) tag ≡ false → NotDue s (event.Post lane tag)
  not-ended out w on is =
      (not-there s w (event.Post lane tag) tt on (post-not_ended s.served.setup.geometry (placed s w) lane tag out) is.1)

-- what has no news has neither
pub no-part : (ended : List ℕ) (waits : Bool) → (nat_lt 0 (length ended) || waits) ≡ false → (waits ≡ false) × (ended ≡ [])
no-part [] waits none = (none, refl)
no-part (tag ∷ tags) waits none =
    absurd (true-false (nat_lt 0 (length (tag ∷ tags)) || waits) (ap (λ (b : Bool). b || waits) (lt-ltb 0 (length (tag ∷ tags)) (omega arith))) none)

-- a lane where no completion waits, and no part has ended
pub no-news : (s : Scene) (lane : ℕ) → waits_in s.served.setup.geometry lane (slice_get s.served.side.lanes lane) s.memory ≡ false
    → ended_in (slice_get s.served.side.lanes lane) ≡ [] → Rests (scope.Lane lane) s
no-news s lane none ended =
    lane-rests s lane (λ w on is. true-false (waits_in s.served.setup.geometry lane (slice_get s.served.side.lanes lane) s.memory) is none)
    (λ tag. not-ended s lane tag (ap (λ (xs : List ℕ). is_among xs tag) ended))
