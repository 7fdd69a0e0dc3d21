-- A command that is given up, from its tags to the machine's call, and in each world that has its side.
use Rattle.std.proofs.Common.{◌≡◌, ℕ, List, [], get_or, set, slice_get, Option, Some, sym, ap, ◌∙◌, subst}
use Rattle.nv_core.proofs.CallSteps.{quiet-step}
use Rattle.nv_core.proofs.GroupWorlds.{IsTakenHere, taken-found, taken-there}
use Rattle.nv_core.proofs.SideTags.{call-not-taken, call-taken, ended-lane}
use Rattle.nv_core.specs.Front.{IsSideStep}
use Rattle.nv_core.specs.Groups.{all_ended}
use Rattle.nv_core.specs.Tags.{untaken}
use Rattle.nv_entry.specs.Status.{StatusField}
use Rattle.nv_entry.specs.StatusCode.{done_with}
use Rattle.nv_entry.specs.declared.status_code.StatusCode.TheVariants.{InternalError}
use Rattle.nv_laws_sound.specs.Side.{Side}
use Rattle.nv_machine.proofs.SideWorlds.{begun}
use Rattle.nv_machine.proofs.TakeCalls.{give_up-is}
use Rattle.nv_machine.specs.Doing.{Called, Doing, group_at, replied, tag_at}
use Rattle.nv_machine.specs.InWorld.{side_of}
use Rattle.nv_machine.specs.Machine.{call, called, ended_at_once}
use Rattle.nv_model.specs.Transcript.{ReadDone}
use Rattle.nv_model.specs.declared.reply.Reply.{Reply}
use Rattle.nv_model.specs.declared.reply.Reply.TheVariants as reply
use Rattle.nv_world_model.specs.declared.event.Event.TheVariants as event
use Rattle.nv_world_model.specs.Geometry.{Geometry}
use Rattle.nv_world_model.specs.World.{Command, Lane, Taken, group_in}

module _ (geometry : Geometry) (lane tag : ℕ) where
  -- the call, with any bytes
  abbrev Comes : (before : Side) → Reply → (after : Side) → Type 0
  Comes before r after = (fetched : List ℕ) → call geometry (event.GiveUp lane tag) fetched before ≡ replied r (begun after)

  pub give_up-not : (s : Side) (u : Option Reply) (r : Reply) → u ≡ untaken tag (tag_at s lane tag) → u ≡ Some r → Comes s r s
  unfolding called
  give_up-not s u r is e fetched = call-not-taken tag (tag_at s lane tag) r (begun s) _ (sym is ∙ e)

  pub give_up-done : (s old : Side) (i : ℕ) (l l_new : Lane) (st : StatusField) → s ≡ old → (t : IsTakenHere s.lanes lane tag) → i ≡ lane
      → l ≡ get_or s.lanes i l → st ≡ done_with InternalError
      → ((command : Command) (reads : List ReadDone) → slice_get l.tags tag ≡ Some (Taken command reads)
      → l_new ≡ all_ended (group_in (Some l) tag) command st l)
      → Comes old reply.Done (record s { lanes = set s.lanes i l_new })
  unfolding called
  give_up-done s old i l l_new st same t at has status new =
      let there = taken-there s.lanes lane tag t i l at has in
      let found = taken-found s.lanes lane tag t i l at has in
      let put : Lane → Called = λ k. replied reply.Done (begun (record s { lanes = set s.lanes lane k })) in
      subst (λ (o : Side). Comes o reply.Done (record s { lanes = set s.lanes i l_new })) same
      (subst (λ (n : ℕ). Comes s reply.Done (record s { lanes = set s.lanes n l_new })) (sym at)
      (λ fetched.
      call-taken (begun s) lane tag t (λ command reads. replied reply.Done (ended_at_once lane (group_at s lane tag) command (done_with InternalError) (begun s)))
      ∙ ap (λ (o : Option Lane). replied reply.Done (ended_at_once lane (group_in o tag) t.command (done_with InternalError) (begun s))) found
      ∙ ap (λ (m : Doing). replied reply.Done m) (ended-lane lane (group_in (Some l) tag) t.command (done_with InternalError) (begun s) l found)
      ∙ sym (ap put (new t.command t.reads there ∙ ap (λ (x : StatusField). all_ended (group_in (Some l) tag) t.command x l) status))))

  -- so it is the event
  pub give_up-step : (old new : Side) (memory : List ℕ) (r : Reply) → Comes old r new → IsSideStep geometry (event.GiveUp lane tag) old memory r new memory
  give_up-step old new memory r told =
      quiet-step geometry (event.GiveUp lane tag) [] old new memory r (λ w on. give_up-is geometry w (begun (side_of w)) lane tag []) (told [])
