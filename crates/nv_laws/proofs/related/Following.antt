-- A log is followed where each event is.
use Rattle.std.proofs.Common.{◌≡◌, ℕ, Bool, true, false, not, ◌&&◌, List, [], ◌∷◌, ◌++◌, flat_map, slice_get, Option, Some, None, refl, sym, ap, ◌∙◌, subst}
use Rattle.std.proofs.lemmas.List.{length-replicate}
use Rattle.nv_mem.specs.GuestMap.{IsSound}
use Rattle.nv_model.proofs.Endings.{and-true}
use Rattle.nv_model.specs.Controller.{Controller}
use Rattle.nv_model.specs.Footprint.{completion_slots}
use Rattle.nv_model.specs.Private.{Private, Seen, run_of}
use Rattle.nv_model.specs.declared.act.Act.{Act}
use Rattle.nv_model.specs.declared.reply.Reply.{Reply}
use Rattle.nv_world_model.specs.declared.event.Event.{Event}
use Rattle.nv_world_model.specs.declared.logged.Logged.{Logged}
use Rattle.nv_world_model.specs.Contained.{owner}
use Rattle.nv_world_model.specs.Disciplined.{commands_named, in_order, in_order_by, is_clear, is_disciplined, may_act}
use Rattle.nv_world_model.specs.Geometry.{Geometry, Guest, shape_of}
use Rattle.nv_world_model.specs.Headline.{IsPrivateRun, fails, is_failure, none_failed, start_in}
use Rattle.nv_world_model.specs.Log.{IsReplay, events_of}
use Rattle.nv_world_model.specs.PrivateSteps.{act_of, private_steps, seen_by, steps_of, with_act}
use Rattle.nv_world_model.specs.SetUp.{SetUp, host_refusal_of}
use Rattle.nv_world_model.specs.Step.{is_done, replay, replies, step}
use Rattle.nv_world_model.specs.World.{World, is_that, opening_lane, opening_world}
use Rattle.nv_laws_sound.specs.Consistent.{IsConsistent}
use Rattle.nv_laws_sound.specs.LaidOut.{IsLaidOut}
use Rattle.nv_laws_sound.proofs.CountedSteps.{step-counted}
use Rattle.nv_laws_sound.proofs.CountedRuns.{opening-counted}
use Rattle.nv_laws_sound.proofs.LaidOuts.{host-laid-out}
use Rattle.nv_laws_sound.proofs.Openings.{opening-consistent}
use Rattle.nv_laws_sound.proofs.ManyLanes.{lanes-kept}
use Rattle.nv_laws_sound.proofs.Steps.{replay-consistent, step-consistent}
use Rattle.nv_laws.specs.Following.{EachEventIsFollowed, GoesAlong, IsReached, LogIsFollowed}
use Rattle.nv_laws.specs.Related.{Related}
use Rattle.nv_laws.proofs.related.Beginning.{opening-related, related-agrees}
use Rattle.nv_laws.proofs.related.Runs.{run_behind, run_of-joined}

-- ---- worlds that events have led to

pub step-reached : (host_bytes : ℕ) (geometry : Geometry) (e : Event) (w : World) → IsReached host_bytes geometry w
    → IsReached host_bytes geometry (step geometry e w).world
step-reached host_bytes geometry e w is =
    record {
      laid = subst (λ n. IsLaidOut host_bytes n geometry) (sym (lanes-kept geometry w e)) is.laid;
      consistent = step-consistent host_bytes geometry e w is.laid is.consistent;
      counted = step-counted host_bytes geometry e w is.laid is.consistent is.counted;
    }

pub start-reached : (s : SetUp) (host : ℕ → ℕ) (disk : ℕ → ℕ → ℕ) → host_refusal_of s ≡ None
    → ((number : ℕ) (guest : Guest) → slice_get s.geometry.guests number ≡ Some guest → IsSound guest.memory_map)
    → IsReached s.host_bytes s.geometry (opening_world host disk s.geometry s.lanes)
unfolding opening_world
start-reached s host disk none sound =
    record {
      laid = subst (λ n. IsLaidOut s.host_bytes n s.geometry) (sym (length-replicate s.lanes opening_lane)) (host-laid-out s none sound);
      consistent = opening-consistent host disk s.geometry s.lanes;
      counted = opening-counted host disk s.geometry s.lanes;
    }

-- ---- discipline

-- a state is in order whatever act comes next where it is with one
in_order-by : (c : Option Controller) (a : Option Act) (number : ℕ) (guest : Guest) (w : World) → in_order_by c a number guest w ≡ true
    → in_order_by c None number guest w ≡ true
in_order-by None a number guest w e = refl
in_order-by (Some c) a number guest w e =
    let named = commands_named number guest w c in
    ap (λ b. b && true) (and-true (is_clear (flat_map (λ n. n) named) (completion_slots c)) (may_act a named) e).0

pub in_order-now : (geometry : Geometry) (number : ℕ) (guest : Guest) (log : List Logged) (w : World) → is_disciplined geometry number guest log w ≡ true
    → in_order None number guest w ≡ true
unfolding is_disciplined
in_order-now geometry number guest [] w e = e
in_order-now geometry number guest (l ∷ log) w e =
    in_order-by (slice_get w.controllers number) (act_of number l.event) number guest w
    (and-true (in_order (act_of number l.event) number guest w) (is_disciplined geometry number guest log (step geometry l.event w).world) e).0

-- ---- logs

not-true : (b : Bool) → not b ≡ true → b ≡ false
not-true true e = cc
not-true false e = refl

abbrev first_reply : List Reply → Reply → Reply
first_reply [] r = r
first_reply (x ∷ xs) r = x

abbrev rest_replies : List Reply → List Reply
rest_replies [] = []
rest_replies (x ∷ xs) = xs

with_act-joined : (a : Option Act) (r : Reply) (seen : List Seen) → with_act a r [] ++ seen ≡ with_act a r seen
with_act-joined None r seen = refl
with_act-joined (Some a) r seen = refl

module _ (geometry : Geometry) (host_bytes number : ℕ) (guest : Guest) (given : slice_get geometry.guests number ≡ Some guest)
    (each : EachEventIsFollowed geometry host_bytes number guest) where
  -- an event and the log behind it
  one-more : (l : Logged) (log : List Logged) (w z : World) (p : Private) → (step geometry l.event w).reply ≡ l.reply
      → (one : GoesAlong geometry number guest l.event w p (step geometry l.event w)) → LogIsFollowed geometry number guest log (step geometry l.event w).world z one.run.state
      → LogIsFollowed geometry number guest (l ∷ log) w z p
  unfolding private_steps seen_by
  one-more l log w z p told one rest =
      record {
        run = run_behind one.run rest.run;
        runs = run_of-joined (shape_of guest) (steps_of number guest w l.event l.reply) (private_steps geometry number guest log (step geometry l.event w).world) p one.run rest.run
            (ap (λ r. run_of (shape_of guest) (steps_of number guest w l.event r) p) (sym told) ∙ one.runs) rest.runs;
        seen = ap (λ xs. xs ++ rest.run.seen) (one.seen ∙ ap (λ r. with_act (act_of number l.event) r []) told)
            ∙ ap (λ xs. with_act (act_of number l.event) l.reply [] ++ xs) rest.seen
            ∙ with_act-joined (act_of number l.event) l.reply (seen_by number log);
        related = rest.related;
      }

  pub log-followed : (log : List Logged) (w z : World) (p : Private) → IsReached host_bytes geometry w → none_failed geometry number log w ≡ true
      → is_disciplined geometry number guest log w ≡ true → IsReplay geometry w log z → Related geometry number guest w p
      → LogIsFollowed geometry number guest log w z p
  unfolding private_steps seen_by run_of none_failed is_disciplined replay replies
  log-followed [] w z p reached none disciplined replayed related =
      record {
        run = record { state = p; seen = [] };
        runs = refl;
        seen = refl;
        related = subst (λ x. Related geometry number guest x p) replayed.end related;
      }
  log-followed (l ∷ log) w z p reached none disciplined replayed related =
      let behind = (step geometry l.event w).world in
      let told : (step geometry l.event w).reply ≡ l.reply = ap (λ rs. first_reply rs l.reply) replayed.told in
      let failed = and-true (not (fails number l w)) (none_failed geometry number log behind) none in
      let order = and-true (in_order (act_of number l.event) number guest w) (is_disciplined geometry number guest log behind) disciplined in
      let one = each l.event w p reached
      (record {
        given = given;
        before = order.0;
        behind = in_order-now geometry number guest log behind order.1;
        not_failed = ap (λ r. is_failure l.event && is_done r && is_that number (owner l.event w)) told ∙ not-true (fails number l w) failed.0;
      })
      related in
      one-more l log w z p told one
      (log-followed log behind z one.run.state (step-reached host_bytes geometry l.event w reached) failed.1 order.1
      (record { end = replayed.end; told = ap rest_replies replayed.told }) one.related)

-- from a set-up on
pub private-run : (s : SetUp) (host : ℕ → ℕ) (disk : ℕ → ℕ → ℕ) (log : List Logged) (z : World) (number : ℕ) (guest : Guest) → host_refusal_of s ≡ None
    → ((other : ℕ) (given : Guest) → slice_get s.geometry.guests other ≡ Some given → IsSound given.memory_map)
    → slice_get s.geometry.guests number ≡ Some guest → EachEventIsFollowed s.geometry s.host_bytes number guest
    → (let w = opening_world host disk s.geometry s.lanes in
    none_failed s.geometry number log w ≡ true → is_disciplined s.geometry number guest log w ≡ true
    → IsReplay s.geometry w log z → IsPrivateRun s.geometry number guest log w z)
private-run s host disk log z number guest none sound given each unfailed disciplined replayed =
    let w : World = opening_world host disk s.geometry s.lanes in
    let reached = start-reached s host disk none sound in
    let all = log-followed s.geometry s.host_bytes number guest given each log w z (start_in guest w) reached unfailed disciplined replayed (opening-related s host disk number guest given) in
    record {
      run = all.run;
      runs = all.runs;
      seen = all.seen;
      agrees = related-agrees s.geometry number guest z
          (subst (IsConsistent s.geometry) replayed.end (replay-consistent s.host_bytes s.geometry (events_of log) w reached.laid reached.consistent))
          all.run.state all.related;
    }
