-- What becomes of all tags of a command: in a lane, and in the world. Lanes and tags as they are looked up.
use Rattle.std.proofs.Common.{◌≡◌, ℕ, ◌<◌, ◌==◌, Bool, true, false, cond, eq-eqb, eqb-true, List, [], ◌∷◌, get_or, length, set, slice_get, Option, Some, None, arith}
use Rattle.std.proofs.Common.{refl, sym, ap, ◌∙◌, subst}
use Rattle.std.proofs.lemmas.List.Elements.{All-weaker}
use Rattle.std.proofs.lemmas.Option.{slice_get_read, slice_get_within}
use Rattle.nv_core.specs.Ending.{IsEnded}
use Rattle.nv_core.specs.Groups.{AreTaken, all_ended, statuses_in, tags_changed}
use Rattle.nv_laws_sound.specs.Kept.{IsKeptLane}
use Rattle.nv_core.specs.State.{State, world_of}
use Rattle.nv_core.specs.Tags.{IsTaken, state_in, unended, unled, untaken}
use Rattle.nv_entry.specs.Status.{StatusField}
use Rattle.nv_entry.specs.StatusCode.{done_with}
use Rattle.nv_entry.specs.declared.status_code.StatusCode.TheVariants.{Success}
use Rattle.nv_laws_sound.proofs.Folds.{HasTag}
use Rattle.nv_laws_sound.proofs.Lists.{set-same, set-set, some-same}
use Rattle.nv_laws_sound.proofs.Retags.{with_tag-is}
use Rattle.nv_laws_sound.proofs.Stages.{taken-tags}
use Rattle.nv_laws_sound.proofs.TagEvents.{IsTakenBy}
use Rattle.nv_machine.proofs.SideWorlds.{world_with}
use Rattle.nv_model.specs.Transcript.{ReadDone}
use Rattle.nv_model.specs.declared.reply.Reply.{Reply}
use Rattle.nv_model.specs.declared.reply.Reply.TheVariants as reply
use Rattle.nv_tags.specs.declared.state.TagState.TheVariants as state
use Rattle.nv_world_model.proofs.Seats.{slice_get-set}
use Rattle.nv_world_model.specs.Geometry.{Geometry}
use Rattle.nv_world_model.specs.Share.{Share}
use Rattle.nv_world_model.specs.Step.{After, ended_at_once, ended_status, for_ended, for_leader, for_taken, replied, status_before, statuses_of}
use Rattle.nv_world_model.specs.World.{Command, Ended, Flying, Free, Lane, Tag, Taken, World, group, group_in, tag_changed, tag_in, tag_of, with_tags}

-- what was looked up at an index
pub looked-up : {X : Type 0} (xs : List X) (number i : ℕ) (x : X) → i ≡ number → i < length xs → x ≡ get_or xs i x → slice_get xs number ≡ Some x
looked-up xs number i x at below has = subst (λ (k : ℕ). slice_get xs k ≡ Some x) at (slice_get_read xs (length xs) i x refl below has)

-- ---- changes

-- a lane put into a world
abbrev pub with_lane_at : (lane : ℕ) → Lane → World → World
with_lane_at lane l w = record w { lanes = set w.lanes lane l }

-- twice
lane-twice : (lane : ℕ) (l k : Lane) (w : World) → with_lane_at lane k (with_lane_at lane l w) ≡ with_lane_at lane k w
lane-twice lane l k w = ap (λ (ls : List Lane). let v : World = record w { lanes = ls } in v) (set-set w.lanes lane l k)

-- the world's change of tags is the lane's
pub with_tags-lane : (lane : ℕ) (tags : List ℕ) (t : Tag) (w : World) (l : Lane) → slice_get w.lanes lane ≡ Some l
    → with_tags lane tags t w ≡ with_lane_at lane (tags_changed tags t l) w
unfolding with_tags
with_tags-lane lane [] t w l at = ap (λ (ls : List Lane). let v : World = record w { lanes = ls } in v) (sym (set-same w.lanes lane l at))
with_tags-lane lane (tag ∷ tags) t w l at =
    let one = tag_changed tag t l in
    ap (with_tags lane tags t) (with_tag-is lane tag t w l at)
    ∙ with_tags-lane lane tags t (with_lane_at lane one w) one (slice_get-set w.lanes lane l one at)
    ∙ lane-twice lane one (tags_changed tags t one) w

-- so is the end of a command at once
pub ended-lane : (lane : ℕ) (tags : List ℕ) (command : Command) (st : StatusField) (w : World) (l : Lane) → slice_get w.lanes lane ≡ Some l
    → ended_at_once lane tags command st w ≡ with_lane_at lane (all_ended tags command st l) w
ended-lane lane [] command st w l at = ap (λ (ls : List Lane). let v : World = record w { lanes = ls } in v) (sym (set-same w.lanes lane l at))
ended-lane lane (tag ∷ tags) command st w l at =
    let others : Tag = Ended command (done_with Success) None in
    let one = tag_changed tag (Ended command st None) l in
    ap (with_tags lane tags others) (with_tag-is lane tag (Ended command st None) w l at)
    ∙ with_tags-lane lane tags others (with_lane_at lane one w) one (slice_get-set w.lanes lane l one at)
    ∙ lane-twice lane one (tags_changed tags others one) w

-- the statuses of tags
pub statuses-lane : (lane : ℕ) (tags : List ℕ) (w : World) (l : Lane) → slice_get w.lanes lane ≡ Some l → statuses_of lane tags w ≡ statuses_in tags l
unfolding statuses_of
statuses-lane lane [] w l at = refl
statuses-lane lane (tag ∷ tags) w l at =
    ap (λ (o : Option Lane). status_before (ended_status (tag_in o tag)) (statuses_of lane tags w)) at
    ∙ ap (status_before (ended_status (slice_get l.tags tag))) (statuses-lane lane tags w l at)

-- the tags of a command
pub group-lane : (w : World) (lane tag : ℕ) (l : Lane) → slice_get w.lanes lane ≡ Some l → group w lane tag ≡ group_in (Some l) tag
unfolding group
group-lane w lane tag l at = ap (λ (o : Option Lane). group_in o tag) at

-- ---- a command that was taken, by the tag that it goes by

unled-some : (tag : ℕ) (command : Command) (r : Reply) (w : World) (done : After) → unled tag command ≡ Some r → for_leader tag command w done ≡ replied r w
unled-some tag command r w done e = by (command.leader == tag) refl
  where
    by : (b : Bool) → command.leader == tag ≡ b → for_leader tag command w done ≡ replied r w
    by true is = let bad : None ≡ Some r = sym (ap (λ (x : Bool). cond x None (Some reply.Stale)) is) ∙ e in cc
    by false is =
        ap (λ (x : Bool). cond x done (replied reply.Stale w)) is
        ∙ ap (λ (x : Reply). replied x w) (some-same reply.Stale r (sym (ap (λ (x : Bool). cond x None (Some reply.Stale)) is) ∙ e))

unled-none : (tag : ℕ) (command : Command) → unled tag command ≡ None → command.leader ≡ tag
unled-none tag command e = by (command.leader == tag) refl
  where
    by : (b : Bool) → command.leader == tag ≡ b → command.leader ≡ tag
    by true is = eqb-true command.leader tag is
    by false is = let bad : Some reply.Stale ≡ None = sym (ap (λ (x : Bool). cond x None (Some reply.Stale)) is) ∙ e in cc

pub leads : (tag : ℕ) (command : Command) (w : World) (done : After) → command.leader ≡ tag → for_leader tag command w done ≡ done
leads tag command w done is = ap (λ (x : Bool). cond x done (replied reply.Stale w)) (eq-eqb command.leader tag is)

-- what is answered where there is none
pub not-taken : (tag : ℕ) (t : Option Tag) (r : Reply) (w : World) (more : Command → List ReadDone → After) → untaken tag t ≡ Some r
    → for_taken tag t w more ≡ replied r w
not-taken tag None r w more e = ap (λ x. replied x w) (some-same reply.Ignored r e)
not-taken tag (Some Free) r w more e = ap (λ x. replied x w) (some-same reply.Stale r e)
not-taken tag (Some (Taken command reads)) r w more e = unled-some tag command r w (more command reads) e
not-taken tag (Some (Flying command share at)) r w more e = ap (λ x. replied x w) (some-same reply.Stale r e)
not-taken tag (Some (Ended command st share)) r w more e = ap (λ x. replied x w) (some-same reply.Stale r e)

-- where there is one
pub taken-tag : (tag : ℕ) (t : Option Tag) → untaken tag t ≡ None → IsTaken tag t
taken-tag tag None e = cc
taken-tag tag (Some Free) e = cc
taken-tag tag (Some (Taken command reads)) e = record { command = command; reads = reads; is = refl; led = unled-none tag command e }
taken-tag tag (Some (Flying command share at)) e = cc
taken-tag tag (Some (Ended command st share)) e = cc

-- in its lane
pub record IsTakenHere (lanes : List Lane) (lane tag : ℕ) : Type 0 where
  pub at : Lane
  pub command : Command
  pub reads : List ReadDone
  pub found : slice_get lanes lane ≡ Some at
  pub there : slice_get at.tags tag ≡ Some (Taken command reads)
  pub led : command.leader ≡ tag

taken-by : (lanes : List Lane) (lane tag : ℕ) (l : Option Lane) → slice_get lanes lane ≡ l → untaken tag (tag_in l tag) ≡ None → IsTakenHere lanes lane tag
taken-by lanes lane tag None is e = cc
taken-by lanes lane tag (Some at) is e =
    let t = taken-tag tag (slice_get at.tags tag) e in
    record { at = at; command = t.command; reads = t.reads; found = is; there = t.is; led = t.led }

pub taken-in : (lanes old : List Lane) (lane tag : ℕ) (u : Option Reply) → lanes ≡ old → u ≡ untaken tag (tag_in (slice_get old lane) tag) → u ≡ None
    → IsTakenHere lanes lane tag
taken-in lanes old lane tag u same is e =
    taken-by lanes lane tag (slice_get lanes lane) refl
    (subst (λ (ls : List Lane). untaken tag (tag_in (slice_get ls lane) tag) ≡ None) (sym same) (sym is ∙ e))

pub taken-here : (s old : State) (lane tag : ℕ) (u : Option Reply) → s ≡ old → u ≡ untaken tag (tag_of (world_of old) lane tag) → u ≡ None
    → IsTakenHere s.lanes lane tag
taken-here s old lane tag u same is e =
    taken-in s.lanes old.lanes lane tag u (ap (λ (o : State). o.lanes) same) is e

module _ (lanes : List Lane) (lane tag : ℕ) (t : IsTakenHere lanes lane tag) where
  -- its lane is there
  pub taken-below : lane < length lanes
  taken-below = slice_get_within lanes lane t.at t.found

  module _ (i : ℕ) (l : Lane) (at : i ≡ lane) (has : l ≡ get_or lanes i l) where
    -- and is the one that is looked up
    pub taken-lane : t.at ≡ l
    taken-lane =
        let below = taken-below in
        some-same t.at l (sym t.found ∙ looked-up lanes lane i l at (omega arith) has)

    pub taken-there : slice_get l.tags tag ≡ Some (Taken t.command t.reads)
    taken-there = subst (λ (k : Lane). slice_get k.tags tag ≡ Some (Taken t.command t.reads)) taken-lane t.there

    pub taken-found : slice_get lanes lane ≡ Some l
    taken-found = t.found ∙ ap (λ (k : Lane). Some k) taken-lane

    pub taken-state : state_in (slice_get l.tags tag) ≡ Some state.Taken
    taken-state = ap state_in taken-there

    -- what a call of the lane wants of it
    pub taken-led : IsTaken tag (slice_get l.tags tag)
    taken-led = record { command = t.command; reads = t.reads; is = taken-there; led = t.led }

-- the event of it
pub taken-step : (w : World) (lane tag : ℕ) (t : IsTakenHere w.lanes lane tag) (more : Command → List ReadDone → After)
    → for_taken tag (tag_of w lane tag) w more ≡ more t.command t.reads
taken-step w lane tag t more =
    ap (λ (x : Option Tag). for_taken tag x w more) (ap (λ (x : Option Lane). tag_in x tag) t.found ∙ t.there)
    ∙ leads tag t.command w (more t.command t.reads) t.led

-- all its tags were taken
pub all-taken : (geometry : Geometry) (lanes : List Lane) (lane tag i : ℕ) (l : Lane) → IsKeptLane geometry l → IsTakenHere lanes lane tag → i ≡ lane
    → l ≡ get_or lanes i l → AreTaken (group_in (Some l) tag) l
all-taken geometry lanes lane tag i l fine t at has =
    let w : World = world_with (λ at. 0) (record { lanes = lanes; tails = []; controllers = [] }) in
    let found = taken-found lanes lane tag t i l at has in
    let there = taken-there lanes lane tag t i l at has in
    subst (λ (tags : List ℕ). AreTaken tags l) (group-lane w lane tag l found)
    (All-weaker (HasTag (IsTakenBy t.command) w lane) (λ n. state_in (slice_get l.tags n) ≡ Some state.Taken)
    (λ n h. ap (λ (o : Option Lane). state_in (tag_in o n)) (sym found) ∙ ap state_in (h.is ∙ ap (λ (u : Tag). Some u) h.has.is))
    (group w lane tag)
    (taken-tags geometry w lane tag l t.command t.reads found fine.groups
    (ap (λ (o : Option Lane). tag_in o tag) found ∙ there) t.led))

-- ---- a command whose first part has ended, by the tag that it goes by

-- what is answered where there is none
pub not-ended : (tag : ℕ) (t : Option Tag) (r : Reply) (w : World) (more : Command → After) → unended tag t ≡ Some r → for_ended tag t w more ≡ replied r w
not-ended tag None r w more e = ap (λ x. replied x w) (some-same reply.Ignored r e)
not-ended tag (Some Free) r w more e = ap (λ x. replied x w) (some-same reply.Stale r e)
not-ended tag (Some (Taken command reads)) r w more e = ap (λ x. replied x w) (some-same reply.Stale r e)
not-ended tag (Some (Flying command share at)) r w more e = ap (λ x. replied x w) (some-same reply.Stale r e)
not-ended tag (Some (Ended command st share)) r w more e = unled-some tag command r w (more command) e

-- where there is one
pub record IsEndedHere (lanes : List Lane) (lane tag : ℕ) : Type 0 where
  pub at : Lane
  pub command : Command
  pub st : StatusField
  pub share : Option Share
  pub found : slice_get lanes lane ≡ Some at
  pub there : slice_get at.tags tag ≡ Some (Ended command st share)
  pub led : command.leader ≡ tag

ended-in : (lanes : List Lane) (lane tag : ℕ) (at : Lane) (t : Option Tag) → slice_get lanes lane ≡ Some at → slice_get at.tags tag ≡ t → unended tag t ≡ None
    → IsEndedHere lanes lane tag
ended-in lanes lane tag at None found there e = cc
ended-in lanes lane tag at (Some Free) found there e = cc
ended-in lanes lane tag at (Some (Taken command reads)) found there e = cc
ended-in lanes lane tag at (Some (Flying command share standing)) found there e = cc
ended-in lanes lane tag at (Some (Ended command st share)) found there e =
    record { at = at; command = command; st = st; share = share; found = found; there = there; led = unled-none tag command e }

pub ended-by : (lanes : List Lane) (lane tag : ℕ) (l : Option Lane) → slice_get lanes lane ≡ l → unended tag (tag_in l tag) ≡ None → IsEndedHere lanes lane tag
ended-by lanes lane tag None found e = cc
ended-by lanes lane tag (Some at) found e = ended-in lanes lane tag at (slice_get at.tags tag) found refl e

pub ended-here : (s old : State) (lane tag : ℕ) (u : Option Reply) → s ≡ old → u ≡ unended tag (tag_of (world_of old) lane tag) → u ≡ None
    → IsEndedHere s.lanes lane tag
ended-here s old lane tag u same is e =
    ended-by s.lanes lane tag (slice_get s.lanes lane) refl
    (subst (λ (o : State). unended tag (tag_of (world_of o) lane tag) ≡ None) (sym same) (sym is ∙ e))

module _ (lanes : List Lane) (lane tag : ℕ) (t : IsEndedHere lanes lane tag) where
  -- its lane is there
  pub ended-below : lane < length lanes
  ended-below = slice_get_within lanes lane t.at t.found

  module _ (i : ℕ) (l : Lane) (at : i ≡ lane) (has : l ≡ get_or lanes i l) where
    -- and is the one that is looked up
    pub ended-at : t.at ≡ l
    ended-at =
        let below = ended-below in
        some-same t.at l (sym t.found ∙ looked-up lanes lane i l at (omega arith) has)

    pub ended-there : slice_get l.tags tag ≡ Some (Ended t.command t.st t.share)
    ended-there = subst (λ (k : Lane). slice_get k.tags tag ≡ Some (Ended t.command t.st t.share)) ended-at t.there

    pub ended-found : slice_get lanes lane ≡ Some l
    ended-found = t.found ∙ ap (λ (k : Lane). Some k) ended-at

    -- what a call of the lane wants of it
    pub ended-is : IsEnded (slice_get l.tags tag)
    ended-is = record { command = t.command; status = t.st; share = t.share; is = ended-there }

    pub ended-led : (command : Command) (st : StatusField) (share : Option Share) → slice_get l.tags tag ≡ Some (Ended command st share) → command.leader ≡ tag
    ended-led command st share is =
        let one = some-same (Ended t.command t.st t.share) (Ended command st share) (sym ended-there ∙ is) in
        let same : t.command ≡ command = cc in
        ap (λ (c : Command). c.leader) (sym same) ∙ t.led

-- the event of it
pub ended-step : (w : World) (lane tag : ℕ) (t : IsEndedHere w.lanes lane tag) (more : Command → After)
    → for_ended tag (tag_of w lane tag) w more ≡ more t.command
ended-step w lane tag t more =
    ap (λ (x : Option Tag). for_ended tag x w more) (ap (λ (x : Option Lane). tag_in x tag) t.found ∙ t.there)
    ∙ leads tag t.command w (more t.command) t.led
