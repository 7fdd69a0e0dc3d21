-- Each event leaves each guest's controller counting that guest's commands.
use Rattle.std.proofs.Common.{◌≡◌, ℕ, ◌/◌, ◌%◌, ◌<◌, ◌⊎◌, inl, inr, Bool, true, false, cond, List, [], ◌∷◌, length}
use Rattle.std.proofs.Common.{set, slice_get, Option, Some, None, IfSome, arith, refl, sym, ap, ◌∙◌, subst}
use Rattle.std.specs.Bool.{⊤}
use Rattle.std.specs.List.{All}
use Rattle.std.proofs.lemmas.Bool.{cases_eq, ne_eqb}
use Rattle.std.proofs.lemmas.List.{length-take-le}
use Rattle.std.proofs.lemmas.List.Elements.{All-head, All-tail}
use mathlib.Core.Path.{fun_ext}
use Rattle.nv_entry.specs.Status.{StatusField}
use Rattle.nv_entry.specs.StatusCode.{done_with}
use Rattle.nv_entry.specs.Submission.{cid_of}
use Rattle.nv_entry.specs.declared.status_code.StatusCode.TheVariants.{Success}
use Rattle.nv_model.specs.Controller.{Posted, front, is_enabled, post, ran_out}
use Rattle.nv_model.specs.Judge.{Work, is_read}
use Rattle.nv_model.specs.Transcript.{Outcome, ReadDone, Settled, Wanted}
use Rattle.nv_model.proofs.TogetherKept.{IsPosted, post-together, ran_out-together}
use Rattle.nv_world_model.specs.Area.{bounce_page, tag_count}
use Rattle.nv_world_model.specs.Device.{DeviceLane, Held, held_status}
use Rattle.nv_world_model.specs.Geometry.{Geometry}
use Rattle.nv_world_model.specs.Plan.{Answer, Bounced, Direct, NoData, Plan}
use Rattle.nv_world_model.specs.Share.{Share, shares_of, tags_of_entry}
use Rattle.nv_world_model.proofs.Seats.{slice_get-set, slice_get-set-other}
use Rattle.nv_world_model.specs.ShareArea.{is_no_command}
use Rattle.nv_world_model.specs.Seat.{Owner, put_back}
use Rattle.nv_world_model.specs.Step.{carried_out, carry_out, completion_read, deciding, delivered, delivered_all}
use Rattle.nv_world_model.specs.Step.{delivered_by, delivered_from, device_moved, device_post, device_posted, device_took}
use Rattle.nv_world_model.specs.Step.{ended_at_once, entry_at, handed_on, is_success, kept_block, listed, post_all, post_by, posted_to}
use Rattle.nv_world_model.specs.Step.{ran_out_of, reaped, scattered_to, submit_by, submitted, submitted_on, take_front}
use Rattle.nv_world_model.specs.Step.{take_tags, taken_to}
use Rattle.nv_world_model.specs.World.{Command, Ended, Flying, Free, Lane, Tag, Taken, World, changed_at, claimed, group, is_free, tag_in, tag_of}
use Rattle.nv_world_model.specs.World.{with_lane, with_tag}
use Rattle.nv_world_model.proofs.Seats.{IsOwner}
use Rattle.nv_laws_sound.specs.Consistent.{IsConsistent}
use Rattle.nv_laws_sound.specs.Counted.{IsCounted, command_in, commands}
use Rattle.nv_laws_sound.specs.Groups.{AreGroups, command_of, ended_part}
use Rattle.nv_laws_sound.specs.Kept.{IsKeptWorld}
use Rattle.nv_laws_sound.proofs.Commands.{counted-same}
use Rattle.nv_laws_sound.proofs.CountedActs.{HasLane, end-counted, lane-of, retag-counted, stand-counted, still-counted}
use Rattle.nv_laws_sound.proofs.CountedTags.{freed-counted, taken_to-counted}
use Rattle.nv_laws_sound.proofs.Folds.{HasTag, group-distinct, have-other, tag_of-other, with_tags-fold}
use Rattle.nv_laws_sound.proofs.HandedOn.{handed-fold}
use Rattle.nv_laws_sound.proofs.Lists.{slice_get-below}
use Rattle.nv_laws_sound.proofs.Numbers.{AreDistinct, numbers-distinct, numbers_where, take-distinct}
use Rattle.nv_laws_sound.proofs.Slots.{device-there}
use Rattle.nv_laws_sound.proofs.Stages.{taken-tags}
use Rattle.nv_laws_sound.proofs.TagEvents.{IsTakenBy}
use Rattle.nv_laws_sound.proofs.Takes.{IsFree, claimed-free, claimed-is}
use Rattle.nv_laws_sound.proofs.Walks.{either}

module _ (geometry : Geometry) where
  -- ---- what is used of a world

  -- a lane has its tags, and those of each command belong together
  pub record IsWhole (l : Lane) : Type 0 where
    pub many : length l.tags ≡ tag_count
    pub groups : AreGroups geometry l.tags

  abbrev pub AreWhole : World → Type 0
  AreWhole w = (lane : ℕ) (l : Lane) → slice_get w.lanes lane ≡ Some l → IsWhole l

  -- so it is in a consistent world
  pub consistent-whole : (w : World) → IsConsistent geometry w → AreWhole w
  consistent-whole w fine lane l at =
      let d = device-there geometry w lane l fine.of_tags at in
      record { many = (fine.of_tags.lanes lane l d.0 at d.1).positions.tags; groups = fine.groups lane l at }

  -- and in one that keeps what the mediator's side keeps
  pub kept-whole : (w : World) → IsKeptWorld geometry w → AreWhole w
  kept-whole w is lane l at = (let k = is.lanes lane l at in record { many = k.tags_are; groups = k.groups })

  -- ---- takes

  tags-found : (found : Option (List ℕ)) (w : World) (addr queue lane : ℕ) (l : Lane) (o : Owner)
      → claimed (tags_of_entry o.given.namespace (entry_at addr o w)) l.tags ≡ found → 0 < tags_of_entry o.given.namespace (entry_at addr o w)
      → IsOwner geometry w o → IsCounted geometry w → slice_get w.lanes lane ≡ Some l → length l.tags ≡ tag_count → 0 < queue
      → front o.controller queue ≡ Some addr → IsCounted geometry (take_tags found addr queue lane o w).world
  tags-found None w addr queue lane l o e some owns is at sized io front_is = is
  tags-found (Some ns) w addr queue lane l o e some owns is at sized io front_is =
      let count : ℕ = tags_of_entry o.given.namespace (entry_at addr o w) in
      let c = claimed-is count l.tags ns e in
      by ns (ap length c.is ∙ length-take-le count (numbers_where is_free l.tags) c.many)
      (subst (All (HasTag IsFree w lane)) (sym c.is) (claimed-free w lane l count at))
      (subst AreDistinct (sym c.is) (take-distinct count (numbers_where is_free l.tags) (numbers-distinct is_free l.tags)))
    where
      by : (ks : List ℕ) → length ks ≡ tags_of_entry o.given.namespace (entry_at addr o w) → All (HasTag IsFree w lane) ks → AreDistinct ks
          → IsCounted geometry (taken_to addr queue lane ks o w)
      by [] long free apart = absurd (omega (arith, long, some))
      by (n ∷ rest) long free apart = taken_to-counted geometry w o addr queue lane n rest l owns is at sized free apart io front_is

  pub front-found : (found : Option ℕ) (w : World) (queue lane : ℕ) (l : Lane) (o : Owner) → front o.controller queue ≡ found
      → ((addr : ℕ) → 0 < tags_of_entry o.given.namespace (entry_at addr o w))
      → IsOwner geometry w o → IsCounted geometry w → slice_get w.lanes lane ≡ Some l → length l.tags ≡ tag_count → 0 < queue
      → IsCounted geometry (take_front found queue lane l o w).world
  front-found None w queue lane l o e some owns is at sized io = is
  front-found (Some addr) w queue lane l o e some owns is at sized io =
      tags-found (claimed (tags_of_entry o.given.namespace (entry_at addr o w)) l.tags) w addr queue lane l o refl (some addr) owns is at sized io e

  -- ---- a command that waits for its plan

  pub listed-counted : (addr len lane tag : ℕ) (command : Command) (reads : List ReadDone) (o : Owner) (w : World) → tag_of w lane tag ≡ Some (Taken command reads)
      → IsCounted geometry w → IsCounted geometry (listed addr len lane tag command reads o w).world
  unfolding listed
  listed-counted addr len lane tag command reads o w there is =
      retag-counted geometry w lane tag (Taken command reads) (Taken command _) there (λ number. refl) is

  -- a tag that waits becomes another of the same command
  taken-counted : (w : World) (lane tag : ℕ) (t now : Tag) (command : Command) → tag_of w lane tag ≡ Some t → IsTakenBy command t
      → ((number : ℕ) → command_in (Some now) tag number ≡ command_in (Some (Taken command [])) tag number)
      → IsCounted geometry w → IsCounted geometry (with_tag lane tag now w)
  taken-counted w lane tag t now command there taken same is =
      retag-counted geometry w lane tag (Taken command taken.reads) now (there ∙ ap (λ x. Some x) taken.is) same is

  pub ended-counted : (lane : ℕ) (tags : List ℕ) (command : Command) (st : StatusField) (w : World) → All (HasTag (IsTakenBy command) w lane) tags
      → AreDistinct tags → IsCounted geometry w → IsCounted geometry (ended_at_once lane tags command st w)
  ended-counted lane [] command st w have apart is = is
  ended-counted lane (tag ∷ tags) command st w have apart is =
      let h = All-head (HasTag (IsTakenBy command) w lane) tag tags have in
      let z : World = with_tag lane tag (Ended command st None) w in
      with_tags-fold (IsCounted geometry) (IsTakenBy command) lane (Ended command (done_with Success) None)
      (λ v n t holds at taken. taken-counted v lane n t (Ended command (done_with Success) None) command at taken (λ number. refl) holds) tags z
      (have-other (IsTakenBy command) w z lane tag tags (λ other differ. tag_of-other w lane tag other (Ended command st None) differ) apart.0
      (All-tail (HasTag (IsTakenBy command) w lane) tag tags have)) apart.1
      (taken-counted w lane tag h.t (Ended command st None) command h.is h.has (λ number. refl) is)

  submitted-counted : (w : World) (mediator lane tag : ℕ) (command : Command) (t : Tag) (share : Share) (o : Owner) (d : DeviceLane)
      → tag_of w lane tag ≡ Some t → IsTakenBy command t → IsCounted geometry w → IsCounted geometry (submitted mediator lane tag command share o d w)
  unfolding submitted
  submitted-counted w mediator lane tag command t share o d there taken is =
      taken-counted _ lane tag t _ command there taken (λ number. refl) (still-counted geometry w _ refl refl is)

  -- a share is carried out in its tag
  share-counted : (w : World) (mediator lane tag : ℕ) (command : Command) (t : Tag) (share : Share) (o : Owner) → tag_of w lane tag ≡ Some t
      → IsTakenBy command t → IsCounted geometry w → IsCounted geometry (carried_out mediator lane tag command share o w)
  share-counted w mediator lane tag command t share o there taken is = by (is_no_command share)
    where
      on : (d : Option DeviceLane) → IsCounted geometry (submitted_on d mediator lane tag command share o w)
      on None = is
      on (Some d) = submitted-counted w mediator lane tag command t share o d there taken is

      by : (b : Bool) → IsCounted geometry (cond b (with_tag lane tag (Ended command (done_with Success) (Some share)) w)
          (submitted_on (slice_get w.device lane) mediator lane tag command share o w))
      by true = taken-counted w lane tag t (Ended command (done_with Success) (Some share)) command there taken (λ number. refl) is
      by false = on (slice_get w.device lane)

  handed-counted : (mediator lane : ℕ) (tags : List ℕ) (shares : List Share) (command : Command) (o : Owner) (w : World)
      → All (HasTag (IsTakenBy command) w lane) tags → AreDistinct tags → IsCounted geometry w
      → IsCounted geometry (handed_on mediator lane tags shares command o w)
  handed-counted mediator lane tags shares command o w have apart is =
      handed-fold (IsCounted geometry) (λ share. ⊤) mediator lane command o
      (λ z tag t share there taken _ counted. share-counted z mediator lane tag command t share o there taken counted) tags shares w have apart (λ _ _ _. tt) is

  carried-counted : (plan : Plan) (w : World) (mediator lane : ℕ) (tags : List ℕ) (command : Command) (o : Owner)
      → All (HasTag (IsTakenBy command) w lane) tags → AreDistinct tags → IsCounted geometry w
      → IsCounted geometry (carry_out plan mediator lane tags command o w)
  carried-counted (Answer st) w mediator lane tags command o have apart is = ended-counted lane tags command st w have apart is
  carried-counted (NoData work) w mediator lane tags command o have apart is =
      handed-counted mediator lane tags (shares_of o.given.namespace command.entry (NoData work)) command o w have apart is
  carried-counted (Direct work) w mediator lane tags command o have apart is =
      handed-counted mediator lane tags (shares_of o.given.namespace command.entry (Direct work)) command o w have apart is
  carried-counted (Bounced work) w mediator lane tags command o have apart is =
      handed-counted mediator lane tags (shares_of o.given.namespace command.entry (Bounced work)) command o w have apart is

  pub submit-counted : (outcome : Outcome Plan) (w : World) (mediator lane : ℕ) (tags : List ℕ) (command : Command) (o : Owner)
      → All (HasTag (IsTakenBy command) w lane) tags → AreDistinct tags → IsCounted geometry w
      → IsCounted geometry (submit_by outcome mediator lane tags command o w).world
  submit-counted (Wanted addr len) w mediator lane tags command o have apart is = is
  submit-counted (Settled plan) w mediator lane tags command o have apart is = carried-counted plan w mediator lane tags command o have apart is

  -- the tags of a command that waits
  pub all-taken : (w : World) (lane tag : ℕ) (command : Command) (reads : List ReadDone) → AreWhole w
      → tag_of w lane tag ≡ Some (Taken command reads) → command.leader ≡ tag → All (HasTag (IsTakenBy command) w lane) (group w lane tag)
  all-taken w lane tag command reads whole found leads =
      let a = lane-of w lane tag (Taken command reads) found in
      taken-tags geometry w lane tag a.l command reads a.at (whole lane a.l a.at).groups found leads

  -- ---- the device, and what it is told

  pub took-counted : (w : World) (lane : ℕ) (entry : List ℕ) → IsCounted geometry w → IsCounted geometry (device_took lane entry w)
  unfolding device_took
  took-counted w lane entry is = stand-counted geometry _ _ lane (cid_of entry) _ refl (still-counted geometry w _ refl refl is)

  pub moved-counted : (w : World) (blocks lane slot number : ℕ) (h : Held) → IsCounted geometry w → IsCounted geometry (device_moved blocks lane slot number h w)
  unfolding device_moved
  moved-counted w blocks lane slot number h is = still-counted geometry w _ refl refl is

  pub answered-counted : (w : World) (mediator lane slot : ℕ) (st : StatusField) (d : DeviceLane) → IsCounted geometry w
      → IsCounted geometry (device_posted mediator lane slot st d w)
  unfolding device_posted
  answered-counted w mediator lane slot st d is = stand-counted geometry _ _ lane slot _ refl (still-counted geometry w _ refl refl is)

  pub left-posted : (left : List ℕ) (w : World) (mediator lane slot : ℕ) (h : Held) (d : DeviceLane) → IsCounted geometry w
      → IsCounted geometry (device_post left mediator lane slot h d w).world
  left-posted [] w mediator lane slot h d is = answered-counted w mediator lane slot (held_status h) d is
  left-posted (number ∷ left) w mediator lane slot h d is = is

  pub kept-counted : (w : World) (block : ℕ) → IsCounted geometry w → IsCounted geometry (kept_block block w)
  unfolding kept_block
  kept-counted w block is = still-counted geometry w _ refl refl is

  -- a lane that has read a completion has the same tags
  read-same : (w : World) (lane : ℕ) (l : Lane) → slice_get w.lanes lane ≡ Some l → (a b : ℕ) → tag_of (with_lane lane completion_read w) a b ≡ tag_of w a b
  read-same w lane l at a b =
      ap (λ o. tag_in (slice_get (changed_at o lane completion_read w.lanes) a) b) at ∙ by_lane (cases_eq a lane)
    where
      by_lane : (a ≡ lane) ⊎ (a ≡ lane → ⊥) → tag_in (slice_get (set w.lanes lane (completion_read l)) a) b ≡ tag_in (slice_get w.lanes a) b
      by_lane (inl same) =
          subst (λ n. tag_in (slice_get (set w.lanes lane (completion_read l)) n) b ≡ tag_in (slice_get w.lanes n) b) (sym same)
          (ap (λ o. tag_in o b) (slice_get-set w.lanes lane l (completion_read l) at) ∙ sym (ap (λ o. tag_in o b) at))
      by_lane (inr other) = ap (λ o. tag_in o b) (slice_get-set-other w.lanes lane a (completion_read l) (ne_eqb a lane other))

  pub reaped-counted : (w : World) (lane : ℕ) (completion : List ℕ) (l : Lane) → slice_get w.lanes lane ≡ Some l → IsCounted geometry w
      → IsCounted geometry (reaped lane completion w)
  unfolding reaped commands
  reaped-counted w lane completion l at is =
      end-counted geometry _ _ lane _ (with_lane lane completion_read w) (read-same w lane l at lane _)
      (counted-same geometry w (with_lane lane completion_read w) refl
      (λ number. fun_ext (λ name. ap (λ o. command_in o (name % tag_count) number) (read-same w lane l at (name / tag_count) (name % tag_count)))) is)

  -- ---- posts

  -- what is delivered leaves lanes and controllers
  abbrev IsKept : World → World → Type 0
  IsKept w z = (z.lanes ≡ w.lanes) × (z.controllers ≡ w.controllers)

  to-kept : (bounce : ℕ) (work : Work) (o : Owner) (w : World) → IsKept w (scattered_to bounce work o w)
  unfolding scattered_to
  to-kept bounce work o w = (refl, refl)

  plan-kept : (plan : Plan) (bounce : ℕ) (o : Owner) (w : World) → IsKept w (delivered_by plan bounce o w)
  plan-kept (Answer answer) bounce o w = (refl, refl)
  plan-kept (NoData work) bounce o w = (refl, refl)
  plan-kept (Direct work) bounce o w = (refl, refl)
  plan-kept (Bounced work) bounce o w = by (is_read work.opcode)
    where
      by : (b : Bool) → IsKept w (cond b (scattered_to bounce work o w) w)
      by true = to-kept bounce work o w
      by false = (refl, refl)

  from-kept : (t : Option Tag) (bounce : ℕ) (o : Owner) (w : World) → IsKept w (delivered_from t bounce o w)
  from-kept None bounce o w = (refl, refl)
  from-kept (Some Free) bounce o w = (refl, refl)
  from-kept (Some (Taken command reads)) bounce o w = (refl, refl)
  from-kept (Some (Flying command share standing)) bounce o w = (refl, refl)
  from-kept (Some (Ended command st None)) bounce o w = (refl, refl)
  from-kept (Some (Ended command st (Some share))) bounce o w = plan-kept share.plan bounce o w

  all-kept : (mediator lane : ℕ) (tags : List ℕ) (o : Owner) (w : World) → IsKept w (delivered_all mediator lane tags o w)
  unfolding delivered_all
  all-kept mediator lane [] o w = (refl, refl)
  all-kept mediator lane (tag ∷ tags) o w =
      let z : World = delivered_from (tag_of w lane tag) (bounce_page mediator lane tag) o w in
      let first = from-kept (tag_of w lane tag) (bounce_page mediator lane tag) o w in
      let rest = all-kept mediator lane tags o z in
      (rest.0 ∙ first.0, rest.1 ∙ first.1)

  delivered-kept : (st : StatusField) (mediator lane : ℕ) (tags : List ℕ) (o : Owner) (w : World) → IsKept w (delivered st mediator lane tags o w)
  delivered-kept st mediator lane tags o w = by (is_success st)
    where
      by : (b : Bool) → IsKept w (cond b (delivered_all mediator lane tags o w) w)
      by true = all-kept mediator lane tags o w
      by false = (refl, refl)

  ended-has : (command : Command) (st : StatusField) (share : Option Share) → command_of (ended_part command st share) ≡ Some command
  ended-has command st None = refl
  ended-has command st (Some share) = refl

  -- of a command that has ended
  module _ (w : World) (lane tag : ℕ) (command : Command) (ended_with : StatusField) (share : Option Share) (o : Owner) (whole : AreWhole w)
      (is : IsCounted geometry w) (found : tag_of w lane tag ≡ Some (Ended command ended_with share)) (leads : command.leader ≡ tag)
      (owns : IsOwner geometry w o) (whose : o.number ≡ command.guest) where
    place : HasLane w lane tag (Ended command ended_with share)
    place = lane-of w lane tag (Ended command ended_with share) found

    below : tag < tag_count
    below =
        let tags = (whole lane place.l place.at).many in
        let among = slice_get-below place.l.tags tag (Ended command ended_with share) place.found in
        omega (arith, tags, among)

    posted-counted : (posted : Posted) (v : World) → IsKept w v → IsPosted o.controller command.queue posted
        → IsCounted geometry (posted_to posted lane (group w lane tag) o v)
    unfolding posted_to put_back
    posted-counted posted v kept behind =
        freed-counted geometry w _ lane tag command ended_with share o posted.controller place.l below place.at (whole lane place.l place.at).groups
        place.found (ended-has command ended_with share) leads whose owns is kept.0 (ap (λ cs. set cs o.number posted.controller) kept.1)
        behind.0 behind.1 (group-distinct w lane tag)

    out-counted : (v : World) → IsKept w v → is_enabled o.controller ≡ false → IsCounted geometry (ran_out_of command.queue lane (group w lane tag) o v)
    unfolding ran_out_of
    out-counted v kept out =
        let was = is.running o.number o.given o.controller owns.given owns.controller in
        let behind = ran_out-together o.controller command.queue out was.together in
        freed-counted geometry w _ lane tag command ended_with share o (ran_out o.controller command.queue) place.l below place.at
        (whole lane place.l place.at).groups place.found (ended-has command ended_with share) leads whose owns is kept.0
        (ap (λ cs. set cs o.number (ran_out o.controller command.queue)) kept.1) behind.0 behind.1 (group-distinct w lane tag)

    post-found : (found : Option Posted) (st : StatusField) → IfSome found (IsPosted o.controller command.queue)
        → IsCounted geometry (post_by found st geometry.mediator lane (group w lane tag) o w).world
    post-found None st behind = is
    post-found (Some posted) st behind =
        posted-counted posted (delivered st geometry.mediator lane (group w lane tag) o w)
        (delivered-kept st geometry.mediator lane (group w lane tag) o w) behind

    pub post_all-counted : (sts : Option (List StatusField)) → IsCounted geometry (post_all sts command geometry.mediator lane (group w lane tag) o w).world
    post_all-counted None = is
    post_all-counted (Some sts) =
        let was = is.running o.number o.given o.controller owns.given owns.controller in
        let st = deciding sts in
        either (IsCounted geometry) w is (is_enabled o.controller) _ _
        (λ enabled. post-found (post o.controller command.queue 0 (cid_of command.entry) st) st
        (post-together o.controller command.queue 0 (cid_of command.entry) st enabled was.together))
        (λ fell. out-counted (delivered st geometry.mediator lane (group w lane tag) o w)
        (delivered-kept st geometry.mediator lane (group w lane tag) o w) fell)
