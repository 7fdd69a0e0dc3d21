-- A tag whose command the mediator fails.
use Rattle.std.proofs.Common.{◌≡◌, ℕ, ◌<◌, ◌≤◌, ◌⊎◌, inl, inr, Bool, true, false, cond, if◌then◌else◌, count_by, ◌==◌, ◌&&◌, eq-eqb, eqb-true, arith, List, set, slice_get, Option, Some, None, refl, sym, ap, ◌∙◌, subst, nat_lt}
use Rattle.std.proofs.lemmas.Bool.{cases_lt, lt-ltb, ne_eqb}
use Rattle.std.proofs.lemmas.Option.{slice_get_past}
use Rattle.std.specs.Option.{option_map}
use Rattle.std.specs.Prelude.{◌↔◌, IsTrue}
use Rattle.nv_core.proofs.Reaps.{aloft, reaped-as}
use Rattle.nv_core.proofs.Sides.{own-side, own-world}
use Rattle.nv_core.specs.Front.{IsReaped}
use Rattle.nv_laws_sound.specs.Side.{Side, IsKept}
use Rattle.nv_core.specs.Reaping.{answer_of, answer_to, next_completion}
use Rattle.nv_core.specs.Tags.{is_flying}
use Rattle.nv_entry.specs.Completion.{cid_of, phase_of, sqid_of, status_of}
use Rattle.nv_entry.specs.Status.{StatusField, bit}
use Rattle.nv_entry.specs.StatusCode.{done_with}
use Rattle.nv_entry.specs.declared.status_code.StatusCode.TheVariants.{InternalError}
use Rattle.nv_host.specs.Closing.{AreEach, IsLaneAlone, failed}
use Rattle.nv_host.specs.Ending.{IsFailing, failed_at}
use Rattle.nv_laws_sound.proofs.Lists.{count-set, some-same}
use Rattle.nv_model.specs.declared.reply.Reply.TheVariants as reply
use Rattle.nv_world_model.proofs.Seats.{slice_get-set, slice_get-set-other}
use Rattle.nv_world_model.specs.Area.{queue_pair, tag_count}
use Rattle.nv_world_model.specs.Geometry.{Geometry}
use Rattle.nv_world_model.specs.Seat.{completion_at}
use Rattle.nv_world_model.specs.Share.{Share}
use Rattle.nv_world_model.specs.Step.{completion_read, ended_at, passed_on, reaped}
use Rattle.nv_world_model.specs.World.{Command, Ended, Flying, Free, Lane, Standing, Tag, Taken, World, changed_at, tag_changed, tag_in, tag_of, with_lane}

-- ---- a completion that was read

-- no other lane is changed
changed-other : (o : Option Lane) (lanes : List Lane) (lane other : ℕ) (change : Lane → Lane) → (other == lane) ≡ false
    → slice_get (changed_at o lane change lanes) other ≡ slice_get lanes other
changed-other None lanes lane other change apart = refl
changed-other (Some l) lanes lane other change apart = slice_get-set-other lanes lane other (change l) apart

ended-other : (t : Option Tag) (st : StatusField) (lane tag : ℕ) (w : World) (other : ℕ) → (other == lane) ≡ false
    → slice_get (ended_at t st lane tag w).lanes other ≡ slice_get w.lanes other
ended-other None st lane tag w other apart = refl
ended-other (Some Free) st lane tag w other apart = refl
ended-other (Some (Taken command reads)) st lane tag w other apart = refl
ended-other (Some (Flying command share at)) st lane tag w other apart =
    changed-other (slice_get w.lanes lane) w.lanes lane other (tag_changed tag (Ended command (passed_on st) (Some share))) apart
ended-other (Some (Ended command ended share)) st lane tag w other apart = refl

ended-controllers : (t : Option Tag) (st : StatusField) (lane tag : ℕ) (w : World) → (ended_at t st lane tag w).controllers ≡ w.controllers
ended-controllers None st lane tag w = refl
ended-controllers (Some Free) st lane tag w = refl
ended-controllers (Some (Taken command reads)) st lane tag w = refl
ended-controllers (Some (Flying command share at)) st lane tag w = refl
ended-controllers (Some (Ended command ended share)) st lane tag w = refl

module _ (geometry : Geometry) (lane : ℕ) (old new : Side) (memory : List ℕ) where
  abbrev w : World
  w = own-world old memory

  module _ (l : Lane) (found : slice_get old.lanes lane ≡ Some l) (read : IsReaped geometry lane old new memory) where
    abbrev completion : List ℕ
    completion = next_completion geometry lane l memory

    pub reaped-alone : new.tails ≡ old.tails → IsLaneAlone lane old new
    unfolding reaped
    reaped-alone tails =
        let made = read w l (own-side old memory) found in
        let before : World = with_lane lane completion_read w in
        let t : Option Tag = tag_of w lane (cid_of completion) in
        record {
          lanes = (λ other apart.
              ap (λ (v : World). slice_get v.lanes other) made
              ∙ ended-other t (status_of completion) lane (cid_of completion) before other (ne_eqb other lane apart)
              ∙ changed-other (slice_get old.lanes lane) old.lanes lane other completion_read (ne_eqb other lane apart));
          tails = tails;
          controllers =
              ap (λ (v : World). v.controllers) made ∙ ended-controllers t (status_of completion) lane (cid_of completion) before;
        }

    abbrev ended_as : StatusField → Tag → Tag
    ended_as st Free = Free
    ended_as st (Taken command reads) = Taken command reads
    ended_as st (Flying command share at) = Ended command st (Some share)
    ended_as st (Ended command ended share) = Ended command ended share

    pub reaped-lanes : (tag : ℕ) (command : Command) (share : Share) (at : Standing) → slice_get l.tags tag ≡ Some (Flying command share at)
        → tag ≡ cid_of completion
        → new.lanes ≡ set old.lanes lane (completion_read (tag_changed tag (Ended command (passed_on (status_of completion)) (Some share)) l))
    reaped-lanes tag command share at flies named =
        let st : StatusField = passed_on (status_of completion) in
        let mid : Lane = tag_changed tag (Ended command st (Some share)) l in
        ap (λ (v : World). v.lanes) (read w l (own-side old memory) found
        ∙ sym (reaped-as w lane tag l mid (completion_read mid) command share at completion (completion_at geometry w lane l.head)
        (status_of completion) st found flies refl refl
        (λ c x b f. ap (λ (t : Tag). tag_changed tag (ended_as st t) l) (some-same (Flying command share at) (Flying c x b) (sym flies ∙ f)))
        refl named refl))

-- how many tags of a lane are in flight
abbrev pub in_flight : Option Lane → ℕ
in_flight None = 0
in_flight (Some l) = count_by (λ t. is_flying (Some t)) l.tags

-- where it was answered so
pub done-alone : (geometry : Geometry) (lane : ℕ) (old new : Side) (memory : List ℕ) → answer_of geometry lane (slice_get old.lanes lane) memory ≡ Some reply.Done
    → IsReaped geometry lane old new memory → new.tails ≡ old.tails → IsLaneAlone lane old new
done-alone geometry lane old new memory told read tails = by (slice_get old.lanes lane) refl
  where
    by : (o : Option Lane) → slice_get old.lanes lane ≡ o → IsLaneAlone lane old new
    by None none =
        let bad : Some reply.Ignored ≡ Some reply.Done = sym (ap (λ (o : Option Lane). answer_of geometry lane o memory) none) ∙ told in cc
    by (Some l) found = reaped-alone geometry lane old new memory l found read tails

-- a completion that was read has ended one
must-fly : (new queue flies : Bool) → cond new (cond (queue && flies) (Some reply.Done) None) (Some reply.Idle) ≡ Some reply.Done → flies ≡ true
must-fly true true true e = refl
must-fly true true false e = cc
must-fly true false flies e = cc
must-fly false queue flies e = cc

pub reap-fewer : (geometry : Geometry) (lane : ℕ) (old new : Side) (memory : List ℕ) → answer_of geometry lane (slice_get old.lanes lane) memory ≡ Some reply.Done
    → IsReaped geometry lane old new memory → in_flight (slice_get new.lanes lane) < in_flight (slice_get old.lanes lane)
reap-fewer geometry lane old new memory told read = by (slice_get old.lanes lane) refl
  where
    by : (o : Option Lane) → slice_get old.lanes lane ≡ o → in_flight (slice_get new.lanes lane) < in_flight (slice_get old.lanes lane)
    by None none =
        let bad : Some reply.Ignored ≡ Some reply.Done = sym (ap (λ (o : Option Lane). answer_of geometry lane o memory) none) ∙ told in cc
    by (Some l) found =
        let completion : List ℕ = next_completion geometry lane l memory in
        let tag : ℕ = cid_of completion in
        let a = aloft (slice_get l.tags tag)
        (must-fly (phase_of completion == bit l.phase) (sqid_of completion == queue_pair lane) (is_flying (slice_get l.tags tag))
        (sym (ap (λ (o : Option Lane). answer_of geometry lane o memory) found) ∙ told)) in
        let now : Tag = Ended a.command (passed_on (status_of completion)) (Some a.share) in
        let after : Lane = completion_read (tag_changed tag now l) in
        let lanes = reaped-lanes geometry lane old new memory l found read tag a.command a.share a.at a.is refl in
        let is_new : in_flight (slice_get new.lanes lane) ≡ in_flight (Some after) =
        ap (λ (ls : List Lane). in_flight (slice_get ls lane)) lanes ∙ ap in_flight (slice_get-set old.lanes lane l after found) in
        let is_old : in_flight (slice_get old.lanes lane) ≡ in_flight (Some l) = ap in_flight found in
        let fewer = count-set (λ (t : Tag). is_flying (Some t)) l.tags tag (Flying a.command a.share a.at) now a.is in
        omega (arith, is_new, is_old, fewer)

pub alone-same : (lane : ℕ) (side : Side) → IsLaneAlone lane side side
alone-same lane side = record { lanes = (λ other apart. refl); tails = refl; controllers = refl }

pub alone-twice : (lane : ℕ) (old mid new : Side) → IsLaneAlone lane old mid → IsLaneAlone lane mid new → IsLaneAlone lane old new
alone-twice lane old mid new first second =
    record {
      lanes = (λ other apart. second.lanes other apart ∙ first.lanes other apart);
      tails = second.tails ∙ first.tails;
      controllers = second.controllers ∙ first.controllers;
    }

-- ---- the completion of a failure

-- another tag is as it was
kept-each : (o : Option Tag) → option_map (λ (t : Tag). t) o ≡ o
kept-each None = refl
kept-each (Some t) = refl

abbrev one : (tag n : ℕ) → Bool → Tag → Tag
one tag n b t = cond b (failed t) t

stays : (tag n : ℕ) (o : Option Tag) → (n ≡ tag → option_map failed o ≡ o) → (b : Bool) → (n == tag) ≡ b → o ≡ option_map (failed_at tag n) o
stays tag n o still true is =
    sym (ap (λ (b : Bool). option_map (one tag n b) o) is ∙ still (eqb-true n tag is))
stays tag n o still false is = sym (ap (λ (b : Bool). option_map (one tag n b) o) is ∙ kept-each o)

still-each : (tag : ℕ) (tags : List Tag) → option_map failed (slice_get tags tag) ≡ slice_get tags tag
    → (n : ℕ) → slice_get tags n ≡ option_map (failed_at tag n) (slice_get tags n)
still-each tag tags still n =
    stays tag n (slice_get tags n) (λ same. subst (λ k. option_map failed (slice_get tags k) ≡ slice_get tags k) (sym same) still) (n == tag) refl

-- one has ended
ends-each : (tag : ℕ) (tags : List Tag) (command : Command) (share : Share) (at : Standing) → slice_get tags tag ≡ Some (Flying command share at)
    → (n : ℕ) (b : Bool) → (n == tag) ≡ b
    → slice_get (set tags tag (Ended command (done_with InternalError) (Some share))) n ≡ option_map (failed_at tag n) (slice_get tags n)
ends-each tag tags command share at flies n true is =
    let now : Tag = Ended command (done_with InternalError) (Some share) in
    let same : n ≡ tag = eqb-true n tag is in
    ap (slice_get (set tags tag now)) same
    ∙ slice_get-set tags tag (Flying command share at) now flies
    ∙ sym (ap (λ (b : Bool). option_map (one tag n b) (slice_get tags n)) is ∙ ap (option_map failed) (ap (slice_get tags) same ∙ flies))
ends-each tag tags command share at flies n false is =
    slice_get-set-other tags tag n (Ended command (done_with InternalError) (Some share)) is
    ∙ sym (ap (λ (b : Bool). option_map (one tag n b) (slice_get tags n)) is ∙ kept-each (slice_get tags n))

module _ (geometry : Geometry) (lane tag : ℕ) (old new : Side) (memory entry : List ℕ) (phase result : Bool)
    (is : IsFailing lane tag phase entry)
    (wants : (l : Lane) → slice_get old.lanes lane ≡ Some l → phase ≡ l.phase)
    (next : (l : Lane) → slice_get old.lanes lane ≡ Some l → next_completion geometry lane l memory ≡ entry)
    (answer : IsTrue result ↔ (answer_of geometry lane (slice_get old.lanes lane) memory ≡ Some reply.Done))
    (done : IsTrue result → IsReaped geometry lane old new memory) (same : result ≡ false → new ≡ old) where
  -- nothing was read
  unread : (answer_of geometry lane (slice_get old.lanes lane) memory ≡ Some reply.Done → ⊥) → new ≡ old
  unread never = by result refl
    where
      by : (b : Bool) → result ≡ b → new ≡ old
      by false e = same e
      by true e = absurd (never (answer.0 e))

  module _ (l : Lane) (found : slice_get old.lanes lane ≡ Some l) where
    answered : answer_of geometry lane (slice_get old.lanes lane) memory
        ≡ (cond (is_flying (slice_get l.tags tag)) (Some reply.Done) None)
    answered =
        ap (λ (o : Option Lane). answer_of geometry lane o memory) found
        ∙ ap (answer_to lane l) (next l found)
        ∙ ap (λ (b : Bool). cond b (cond (sqid_of entry == queue_pair lane && is_flying (slice_get l.tags (cid_of entry))) (Some reply.Done) None) (Some reply.Idle))
        (eq-eqb (phase_of entry) (bit l.phase) (is.phase_tag ∙ ap bit (wants l found)))
        ∙ ap (λ (b : Bool). cond (b && is_flying (slice_get l.tags (cid_of entry))) (Some reply.Done) None)
        (eq-eqb (sqid_of entry) (queue_pair lane) is.queue)
        ∙ ap (λ (n : ℕ). cond (is_flying (slice_get l.tags n)) (Some reply.Done) None) is.identifier

    pub told-flies : IsTrue result → is_flying (slice_get l.tags tag) ≡ true
    told-flies told = by_flight (is_flying (slice_get l.tags tag)) (sym answered ∙ answer.0 told)
      where
        by_flight : (b : Bool) → (cond b (Some reply.Done) None) ≡ Some reply.Done → b ≡ true
        by_flight true e = refl
        by_flight false e = cc

    keeps : is_flying (slice_get l.tags tag) ≡ false → option_map failed (slice_get l.tags tag) ≡ slice_get l.tags tag
        → AreEach (failed_at tag) lane old new
    keeps lands still n =
        let stayed : new ≡ old =
        unread (λ e. (let bad : None ≡ Some reply.Done = sym (answered ∙ ap (λ (b : Bool). cond b (Some reply.Done) None) lands) ∙ e in cc)) in
        ap (λ (f : Side). tag_in (slice_get f.lanes lane) n) stayed
        ∙ ap (λ (o : Option Lane). tag_in o n) found
        ∙ still-each tag l.tags still n
        ∙ sym (ap (λ (o : Option Lane). option_map (failed_at tag n) (tag_in o n)) found)

    by : (t : Option Tag) → slice_get l.tags tag ≡ t → AreEach (failed_at tag) lane old new
    by None there = keeps (ap is_flying there) (ap (option_map failed) there ∙ sym there)
    by (Some Free) there = keeps (ap is_flying there) (ap (option_map failed) there ∙ sym there)
    by (Some (Taken command reads)) there = keeps (ap is_flying there) (ap (option_map failed) there ∙ sym there)
    by (Some (Ended command st share)) there = keeps (ap is_flying there) (ap (option_map failed) there ∙ sym there)
    by (Some (Flying command share at)) there = λ n.
        let told : IsTrue result = answer.1 (answered ∙ ap (λ (b : Bool). cond b (Some reply.Done) None) (ap is_flying there)) in
        let st : passed_on (status_of (next_completion geometry lane l memory)) ≡ done_with InternalError =
        ap (λ (bytes : List ℕ). passed_on (status_of bytes)) (next l found) ∙ ap passed_on is.status in
        let after : Lane = completion_read (tag_changed tag (Ended command (done_with InternalError) (Some share)) l) in
        let lanes : new.lanes ≡ set old.lanes lane after =
        reaped-lanes geometry lane old new memory l found (done told) tag command share at there (sym (ap cid_of (next l found) ∙ is.identifier))
        ∙ ap (λ (x : StatusField). set old.lanes lane (completion_read (tag_changed tag (Ended command x (Some share)) l))) st in
        ap (λ (ls : List Lane). tag_in (slice_get ls lane) n) lanes
        ∙ ap (λ (o : Option Lane). tag_in o n) (slice_get-set old.lanes lane l after found)
        ∙ ends-each tag l.tags command share at there n (n == tag) refl
        ∙ sym (ap (λ (o : Option Lane). option_map (failed_at tag n) (tag_in o n)) found)

  pub fails-each : AreEach (failed_at tag) lane old new
  fails-each = of (slice_get old.lanes lane) refl
    where
      of : (o : Option Lane) → slice_get old.lanes lane ≡ o → AreEach (failed_at tag) lane old new
      of None none = λ n.
          let stayed : new ≡ old =
          unread (λ e. (let bad : Some reply.Ignored ≡ Some reply.Done = sym (ap (λ (o : Option Lane). answer_of geometry lane o memory) none) ∙ e in cc)) in
          ap (λ (f : Side). tag_in (slice_get f.lanes lane) n) stayed
          ∙ ap (λ (o : Option Lane). tag_in o n) none
          ∙ sym (ap (λ (o : Option Lane). option_map (failed_at tag n) (tag_in o n)) none)
      of (Some l) found = by l found (slice_get l.tags tag) refl

-- ---- tag after tag

-- what becomes of the first so many tags
abbrev pub failed_below : (count tag : ℕ) → Tag → Tag
failed_below count tag t = if nat_lt tag count then failed t else t

-- a lane has its tags
pub no-more : (geometry : Geometry) (side : Side) (lane n : ℕ) → IsKept geometry side → tag_count ≤ n → tag_in (slice_get side.lanes lane) n ≡ None
no-more geometry side lane n kept past = by (slice_get side.lanes lane) refl
  where
    by : (o : Option Lane) → slice_get side.lanes lane ≡ o → tag_in o n ≡ None
    by None none = refl
    by (Some l) found = slice_get_past l.tags n (let many = (kept.lanes lane l found).tags_are in omega (arith, many, past))

pub all-failed : (geometry : Geometry) (count lane : ℕ) (old new : Side) → IsKept geometry old → tag_count ≤ count → AreEach (failed_below count) lane old new
    → AreEach (λ tag t. failed t) lane old new
all-failed geometry count lane old new kept all each n = each n ∙ by (cases_lt n count)
  where
    by : (n < count) ⊎ (count ≤ n) → option_map (failed_below count n) (tag_in (slice_get old.lanes lane) n) ≡ option_map failed (tag_in (slice_get old.lanes lane) n)
    by (inl below) = ap (λ (b : Bool). option_map (λ (t : Tag). cond b (failed t) t) (tag_in (slice_get old.lanes lane) n)) (lt-ltb n count below)
    by (inr past) =
        let none = no-more geometry old lane n kept (omega (arith, all, past)) in
        ap (option_map (failed_below count n)) none ∙ sym (ap (option_map failed) none)
