-- What becomes of the tags of a command in a call that is under way. The lane as it is looked up.
use Rattle.std.proofs.Common.{◌≡◌, ℕ, ◌==◌, Bool, true, false, cond, eq-eqb, List, [], ◌∷◌, set, slice_get, Option, Some, None, refl, sym, ap, ◌∙◌}
use Rattle.nv_core.proofs.GroupWorlds.{IsTakenHere}
use Rattle.nv_core.specs.Groups.{all_ended, tags_changed}
use Rattle.nv_core.specs.Tags.{unled, untaken}
use Rattle.nv_entry.specs.Status.{StatusField}
use Rattle.nv_entry.specs.StatusCode.{done_with}
use Rattle.nv_entry.specs.declared.status_code.StatusCode.TheVariants.{Success}
use Rattle.nv_laws_sound.proofs.Lists.{set-same, set-set, some-same}
use Rattle.nv_machine.specs.Doing.{Called, Doing, for_leader, for_taken, lane_changed, replied, tag_at, tags_put}
use Rattle.nv_machine.specs.Machine.{ended_at_once}
use Rattle.nv_model.specs.Transcript.{ReadDone}
use Rattle.nv_model.specs.declared.reply.Reply.{Reply}
use Rattle.nv_model.specs.declared.reply.Reply.TheVariants as reply
use Rattle.nv_world_model.proofs.Seats.{slice_get-set}
use Rattle.nv_world_model.specs.World.{Command, Ended, Flying, Free, Lane, Tag, Taken, changed_at, tag_changed, tag_in}

-- a lane put into the side
abbrev pub lane_put : (lane : ℕ) → Lane → Doing → Doing
lane_put lane l m = record m { side = record m.side { lanes = set m.side.lanes lane l } }

-- twice
pub lane-twice : (lane : ℕ) (l k : Lane) (m : Doing) → lane_put lane k (lane_put lane l m) ≡ lane_put lane k m
lane-twice lane l k m = ap (λ (ls : List Lane). let n : Doing = record m { side = record m.side { lanes = ls } } in n) (set-set m.side.lanes lane l k)

-- as it is there
pub lane-same : (lane : ℕ) (l : Lane) (m : Doing) → slice_get m.side.lanes lane ≡ Some l → m ≡ lane_put lane l m
lane-same lane l m at = ap (λ (ls : List Lane). let n : Doing = record m { side = record m.side { lanes = ls } } in n) (sym (set-same m.side.lanes lane l at))

-- a lane that is changed
pub changed-lane : (lane : ℕ) (change : Lane → Lane) (m : Doing) (l : Lane) → slice_get m.side.lanes lane ≡ Some l
    → lane_changed lane change m ≡ lane_put lane (change l) m
changed-lane lane change m l at =
    ap (λ (o : Option Lane). let n : Doing = record m { side = record m.side { lanes = changed_at o lane change m.side.lanes } } in n) at

-- tags that are put one after another
pub tags-lane : (lane : ℕ) (tags : List ℕ) (t : Tag) (m : Doing) (l : Lane) → slice_get m.side.lanes lane ≡ Some l
    → tags_put lane tags t m ≡ lane_put lane (tags_changed tags t l) m
unfolding tags_put
tags-lane lane [] t m l at = lane-same lane l m at
tags-lane lane (tag ∷ tags) t m l at =
    let one = tag_changed tag t l in
    ap (tags_put lane tags t) (changed-lane lane (tag_changed tag t) m l at)
    ∙ tags-lane lane tags t (lane_put lane one m) one (slice_get-set m.side.lanes lane l one at)
    ∙ lane-twice lane one (tags_changed tags t one) m

-- the end of a command at once
pub ended-lane : (lane : ℕ) (tags : List ℕ) (command : Command) (st : StatusField) (m : Doing) (l : Lane) → slice_get m.side.lanes lane ≡ Some l
    → ended_at_once lane tags command st m ≡ lane_put lane (all_ended tags command st l) m
ended-lane lane [] command st m l at = lane-same lane l m at
ended-lane lane (tag ∷ tags) command st m l at =
    let others : Tag = Ended command (done_with Success) None in
    let one = tag_changed tag (Ended command st None) l in
    ap (tags_put lane tags others) (changed-lane lane (tag_changed tag (Ended command st None)) m l at)
    ∙ tags-lane lane tags others (lane_put lane one m) one (slice_get-set m.side.lanes lane l one at)
    ∙ lane-twice lane one (tags_changed tags others one) m

-- ---- a command that was taken, by the tag that it goes by

leader-not : (tag : ℕ) (command : Command) (r : Reply) (m : Doing) (done : Called) → unled tag command ≡ Some r → for_leader tag command m done ≡ replied r m
leader-not tag command r m done e = by (command.leader == tag) refl
  where
    by : (b : Bool) → command.leader == tag ≡ b → for_leader tag command m done ≡ replied r m
    by true is = let bad : None ≡ Some r = sym (ap (λ (x : Bool). cond x None (Some reply.Stale)) is) ∙ e in cc
    by false is =
        ap (λ (x : Bool). cond x done (replied reply.Stale m)) is
        ∙ ap (λ (x : Reply). replied x m) (some-same reply.Stale r (sym (ap (λ (x : Bool). cond x None (Some reply.Stale)) is) ∙ e))

-- what is answered where there is none
pub call-not-taken : (tag : ℕ) (t : Option Tag) (r : Reply) (m : Doing) (more : Command → List ReadDone → Called) → untaken tag t ≡ Some r
    → for_taken tag t m more ≡ replied r m
call-not-taken tag None r m more e = ap (λ x. replied x m) (some-same reply.Ignored r e)
call-not-taken tag (Some Free) r m more e = ap (λ x. replied x m) (some-same reply.Stale r e)
call-not-taken tag (Some (Taken command reads)) r m more e = leader-not tag command r m (more command reads) e
call-not-taken tag (Some (Flying command share at)) r m more e = ap (λ x. replied x m) (some-same reply.Stale r e)
call-not-taken tag (Some (Ended command st share)) r m more e = ap (λ x. replied x m) (some-same reply.Stale r e)

-- the call of one
pub call-taken : (m : Doing) (lane tag : ℕ) (t : IsTakenHere m.side.lanes lane tag) (more : Command → List ReadDone → Called)
    → for_taken tag (tag_at m.side lane tag) m more ≡ more t.command t.reads
call-taken m lane tag t more =
    ap (λ (x : Option Tag). for_taken tag x m more) (ap (λ (x : Option Lane). tag_in x tag) t.found ∙ t.there)
    ∙ ap (λ (x : Bool). cond x (more t.command t.reads) (replied reply.Stale m)) (eq-eqb t.command.leader tag t.led)
