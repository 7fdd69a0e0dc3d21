-- Completions are posted, read and passed on: what these events keep of the phase tags.
use Rattle.std.proofs.Common.{◌≡◌, ℕ, ◌<◌, Bool, true, false, cond, List, [], ◌∷◌, length, slice_get, Option, Some, None, arith, refl, sym, ap, ◌∙◌, subst}
use Rattle.nv_entry.specs.Completion.{completion}
use Rattle.nv_entry.specs.Status.{StatusField}
use Rattle.nv_entry.proofs.CompletionLemmas.{length-completion}
use Rattle.nv_entry.specs.Submission.{cid_of}
use Rattle.nv_model.specs.Controller.{Posted, is_enabled, post, ran_out}
use Rattle.nv_model.specs.Judge.{Work, is_read}
use Rattle.nv_model.specs.Memory.{image, stored}
use Rattle.nv_model.specs.declared.reply.Reply.TheVariants as reply
use Rattle.nv_world_model.specs.Area.{bounce_page, completion_slot, queue_pair, tag_count}
use Rattle.nv_world_model.specs.Contained.{tag_stands}
use Rattle.nv_world_model.specs.Device.{DeviceLane, Held, completion_posted, completion_written, held_status, next_phase}
use Rattle.nv_world_model.specs.Geometry.{Geometry, regions_of}
use Rattle.nv_world_model.specs.Plan.{Answer, Bounced, Direct, NoData, Plan}
use Rattle.nv_world_model.specs.Seat.{Owner, put_back}
use Rattle.nv_world_model.specs.Step.{completion_read, deciding, delivered, delivered_all, delivered_by, delivered_from, device_post, device_posted, ended_at}
use Rattle.nv_world_model.specs.Step.{is_success, post_all, post_by, posted_to, ran_out_of, reaped, replied, scattered_to}
use Rattle.nv_world_model.specs.World.{Answered, Command, Ended, Flying, Free, InDevice, Lane, Tag, Taken, World, changed_at, tag_of}
use Rattle.nv_world_model.specs.World.{with_controller, with_device, with_host, with_lane}
use Rattle.nv_laws_sound.specs.Consistent.{ArePositions, IsConsistent, waits_for_mediator}
use Rattle.nv_laws_sound.specs.LaidOut.{IsLaidOut}
use Rattle.nv_laws_sound.proofs.AnswerEvents.{written-elsewhere}
use Rattle.nv_laws_sound.proofs.Lists.{IsThere, Put, Was, count-fewer, set-there, slice_get-below, slice_get-there, some-same}
use Rattle.nv_laws_sound.proofs.MoveEvents.{held-flies}
use Rattle.nv_laws_sound.proofs.Rings.{far}
use Rattle.nv_laws_sound.specs.Phased.{ArePhased, IsPhased}
use Rattle.nv_laws_sound.proofs.phases.Events.{memory-phased, posted-below}
use Rattle.nv_laws_sound.proofs.phases.Kept.{phased-ring, phased-standing, phased-tag, phased-tags, ring-of-lane}
use Rattle.nv_laws_sound.proofs.phases.Posts.{slot-posted}
use Rattle.nv_laws_sound.proofs.phases.Rounds.{wanted-read}

module _ (host_bytes : ℕ) (geometry : Geometry) (w : World) (laid : IsLaidOut host_bytes (length w.lanes) geometry) (is : IsConsistent geometry w)
    (are : ArePhased geometry w) where
  -- ---- the physical controller posts

  module _ (lane slot : ℕ) (st : StatusField) (d : DeviceLane) (h : Held) (there : slice_get w.device lane ≡ Some d)
      (held : slice_get d.held slot ≡ Some (Some h)) where
    -- the mediator's side of the lane
    own : (l : Lane) × (slice_get w.lanes lane ≡ Some l)
    own =
        let among = slice_get-below w.device lane d there in
        let sides = is.of_tags.sides in
        slice_get-there w.lanes lane (omega (arith, among, sides))

    below : lane < length w.lanes
    below = slice_get-below w.lanes lane own.0 own.1

    small : slot < tag_count
    small =
        let sized = (is.of_tags.lanes lane own.0 d own.1 there).positions.held in
        let under = slice_get-below d.held slot (Some h) held in
        omega (arith, sized, under)

    -- there is room for a completion: the tag's own is not among those that wait
    room : far own.0.head d.posted < 64
    room =
        let before = is.of_tags.lanes lane own.0 d own.1 there in
        let tags = before.positions.tags in
        let less = small in
        let t = slice_get-there own.0.tags slot (omega (arith, tags, less)) in
        let holds = held-flies geometry lane slot w.host own.0.head d h t.0 (before.tags slot t.0 (Some h) t.1 held) in
        let waiting = count-fewer (tag_stands waits_for_mediator) own.0.tags slot (Flying holds.command holds.share InDevice) (t.1 ∙ ap (λ x. Some x) holds.flies) refl in
        let many = before.answered_count in
        omega (arith, waiting, many, tags)

    abbrev memory : ℕ → ℕ
    memory = stored w.host (completion_slot geometry.mediator lane d.posted) (completion 0 d.head (queue_pair lane) slot d.phase st)

    posted-at : (n : ℕ) (l : Lane) (x : DeviceLane) → slice_get w.lanes n ≡ Some l → IsThere w.device lane (completion_posted slot d) n x
        → IsPhased geometry memory n l.head l.phase x.posted x.phase
    posted-at n l x at (Put same put) =
        subst (λ y. IsPhased geometry memory n l.head l.phase y.posted y.phase) put
        (subst (λ m. IsPhased geometry memory m l.head l.phase (completion_posted slot d).posted (completion_posted slot d).phase) (sym same)
        (subst (λ y. IsPhased geometry memory lane y.head y.phase (completion_posted slot d).posted (completion_posted slot d).phase) here
        (slot-posted geometry (length w.lanes) lane w.host d slot st below positions.posted (omega (arith, less)) own.0.head own.0.phase positions.read room
        (are lane own.0 d own.1 there))))
      where
        less : slot < tag_count
        less = small

        positions : ArePositions own.0 d
        positions = (is.of_tags.lanes lane own.0 d own.1 there).positions

        here : own.0 ≡ l
        here = some-same own.0 l (sym own.1 ∙ subst (λ m. slice_get w.lanes m ≡ Some l) same at)
    posted-at n l x at (Was apart found) =
        phased-ring geometry w.host memory n l.head l.phase x.posted x.phase
        (ring-of-lane geometry n w.host memory
        (written-elsewhere geometry (length w.lanes) lane w.host d (completion 0 d.head (queue_pair lane) slot d.phase st)
        (length-completion 0 d.head (queue_pair lane) slot d.phase st) below (posted-below geometry w is lane d there) n apart (slice_get-below w.lanes n l at)))
        (posted-below geometry w is n x found) (are n l x at found)

    pub answered-phased : ArePhased geometry (device_posted geometry.mediator lane slot st d w)
    unfolding device_posted completion_written
    answered-phased =
        phased-standing geometry _ (Answered d.posted) lane slot (with_device lane (completion_posted slot) (with_host memory w))
        (λ n l x at under.
        posted-at n l x at (set-there w.device lane (completion_posted slot d) n x
        (subst (λ o. slice_get (changed_at o lane (completion_posted slot) w.device) n ≡ Some x) there under)))

  pub left-phased : (left : List ℕ) (lane slot : ℕ) (h : Held) (d : DeviceLane) → slice_get w.device lane ≡ Some d → slice_get d.held slot ≡ Some (Some h)
      → ArePhased geometry (device_post left geometry.mediator lane slot h d w).world
  left-phased [] lane slot h d there held = answered-phased lane slot (held_status h) d h there held
  left-phased (number ∷ left) lane slot h d there held = are

  -- ---- the mediator reads

  phased-ended : (o : Option Tag) (st : StatusField) (lane tag : ℕ) (z : World) → ArePhased geometry z → ArePhased geometry (ended_at o st lane tag z)
  phased-ended None st lane tag z phased = phased
  phased-ended (Some Free) st lane tag z phased = phased
  phased-ended (Some (Taken command reads)) st lane tag z phased = phased
  phased-ended (Some (Flying command share before)) st lane tag z phased = phased-tag geometry lane tag _ z phased
  phased-ended (Some (Ended command before share)) st lane tag z phased = phased

  read-at : (lane : ℕ) (l : Lane) (d : DeviceLane) → slice_get w.lanes lane ≡ Some l → slice_get w.device lane ≡ Some d → (l.head ≡ d.posted → ⊥)
      → (n : ℕ) (x : Lane) (y : DeviceLane) → IsThere w.lanes lane (completion_read l) n x → slice_get w.device n ≡ Some y
      → IsPhased geometry w.host n x.head x.phase y.posted y.phase
  read-at lane l d at there waits n x y (Put same put) under =
      subst (λ z. IsPhased geometry w.host n z.head z.phase y.posted y.phase) put
      (subst (λ m. IsPhased geometry w.host m (completion_read l).head (completion_read l).phase y.posted y.phase) (sym same)
      (subst (λ z. IsPhased geometry w.host lane (completion_read l).head (completion_read l).phase z.posted z.phase) here
      (record {
        wants = ap (next_phase l.head) before.wants ∙ wanted-read l.head d.posted d.phase positions.read positions.posted waits;
        written = before.written;
        earlier = before.earlier;
      })))
    where
      before : IsPhased geometry w.host lane l.head l.phase d.posted d.phase
      before = are lane l d at there

      positions : ArePositions l d
      positions = (is.of_tags.lanes lane l d at there).positions

      here : d ≡ y
      here = some-same d y (sym there ∙ subst (λ m. slice_get w.device m ≡ Some y) same under)
  read-at lane l d at there waits n x y (Was apart found) under = are n x y found under

  pub reaped-phased : (lane : ℕ) (bytes : List ℕ) (l : Lane) (d : DeviceLane) → slice_get w.lanes lane ≡ Some l → slice_get w.device lane ≡ Some d
      → (l.head ≡ d.posted → ⊥) → ArePhased geometry (reaped lane bytes w)
  unfolding reaped
  reaped-phased lane bytes l d at there waits =
      phased-ended _ _ lane _ (with_lane lane completion_read w) (λ n x y found under.
      read-at lane l d at there waits n x y (set-there w.lanes lane (completion_read l) n x
      (subst (λ o. slice_get (changed_at o lane completion_read w.lanes) n ≡ Some x) at found)) under)

  -- ---- the mediator passes on

  -- the world with another memory, in which the rings are as they were
  record IsHosted (z : World) : Type 0 where
    host : ℕ → ℕ
    is_with : z ≡ with_host host w
    phased : ArePhased geometry (with_host host w)

  unhosted : IsHosted w
  unhosted = record { host = w.host; is_with = refl; phased = are }

  module _ (o : Owner) (given : slice_get geometry.guests o.number ≡ Some o.given) where
    scattered-hosted : (b : Bool) (bounce : ℕ) (work : Work) (z : World) → IsHosted z → IsHosted (cond b (scattered_to bounce work o z) z)
    unfolding scattered_to
    scattered-hosted true bounce work z hosted =
        subst (λ x. IsHosted (scattered_to bounce work o x)) (sym hosted.is_with)
        (record { host = _; is_with = refl; phased = memory-phased host_bytes geometry w laid is are o hosted.host _ given hosted.phased })
    scattered-hosted false bounce work z hosted = hosted

    share-hosted : (plan : Plan) (bounce : ℕ) (z : World) → IsHosted z → IsHosted (delivered_by plan bounce o z)
    share-hosted (Answer answer) bounce z hosted = hosted
    share-hosted (NoData work) bounce z hosted = hosted
    share-hosted (Direct work) bounce z hosted = hosted
    share-hosted (Bounced work) bounce z hosted = scattered-hosted (is_read work.opcode) bounce work z hosted

    tag-hosted : (t : Option Tag) (bounce : ℕ) (z : World) → IsHosted z → IsHosted (delivered_from t bounce o z)
    tag-hosted None bounce z hosted = hosted
    tag-hosted (Some Free) bounce z hosted = hosted
    tag-hosted (Some (Taken command reads)) bounce z hosted = hosted
    tag-hosted (Some (Flying command share standing)) bounce z hosted = hosted
    tag-hosted (Some (Ended command st None)) bounce z hosted = hosted
    tag-hosted (Some (Ended command st (Some share))) bounce z hosted = share-hosted share.plan bounce z hosted

    tags-hosted : (lane : ℕ) (tags : List ℕ) (z : World) → IsHosted z → IsHosted (delivered_all geometry.mediator lane tags o z)
    unfolding delivered_all
    tags-hosted lane [] z hosted = hosted
    tags-hosted lane (tag ∷ tags) z hosted =
        let bounce = bounce_page geometry.mediator lane tag in
        tags-hosted lane tags (delivered_from (tag_of z lane tag) bounce o z) (tag-hosted (tag_of z lane tag) bounce z hosted)

    when-hosted : (b : Bool) (lane : ℕ) (tags : List ℕ) → IsHosted (cond b (delivered_all geometry.mediator lane tags o w) w)
    when-hosted true lane tags = tags-hosted lane tags w unhosted
    when-hosted false lane tags = unhosted

    posted_to-phased : (posted : Posted) (lane : ℕ) (tags : List ℕ) (z : World) → IsHosted z → ArePhased geometry (posted_to posted lane tags o z)
    unfolding posted_to put_back
    posted_to-phased posted lane tags z hosted =
        subst (λ x. ArePhased geometry (posted_to posted lane tags o x)) (sym hosted.is_with)
        (phased-tags geometry lane tags Free (put_back o (stored (image (regions_of o.given) hosted.host) posted.addr posted.entry) posted.controller (with_host hosted.host w))
        (memory-phased host_bytes geometry w laid is are o hosted.host _ given hosted.phased))

    out-phased : (queue lane : ℕ) (tags : List ℕ) (z : World) → IsHosted z → ArePhased geometry (ran_out_of queue lane tags o z)
    unfolding ran_out_of
    out-phased queue lane tags z hosted =
        subst (λ x. ArePhased geometry (ran_out_of queue lane tags o x)) (sym hosted.is_with)
        (phased-tags geometry lane tags Free (with_controller o.number (ran_out o.controller queue) (with_host hosted.host w)) hosted.phased)

    completed-phased : (found : Option Posted) (st : StatusField) (lane : ℕ) (tags : List ℕ)
        → ArePhased geometry (post_by found st geometry.mediator lane tags o w).world
    completed-phased None st lane tags = are
    completed-phased (Some posted) st lane tags =
        posted_to-phased posted lane tags (delivered st geometry.mediator lane tags o w) (when-hosted (is_success st) lane tags)

    left_or_out-phased : (enabled : Bool) (found : Option Posted) (st : StatusField) (queue lane : ℕ) (tags : List ℕ)
        → ArePhased geometry (cond enabled (post_by found st geometry.mediator lane tags o w)
        (replied reply.Done (ran_out_of queue lane tags o (delivered st geometry.mediator lane tags o w)))).world
    left_or_out-phased true found st queue lane tags = completed-phased found st lane tags
    left_or_out-phased false found st queue lane tags =
        out-phased queue lane tags (delivered st geometry.mediator lane tags o w) (when-hosted (is_success st) lane tags)

    pub post-phased : (sts : Option (List StatusField)) (command : Command) (lane : ℕ) (tags : List ℕ)
        → ArePhased geometry (post_all sts command geometry.mediator lane tags o w).world
    post-phased None command lane tags = are
    post-phased (Some sts) command lane tags =
        left_or_out-phased (is_enabled o.controller) (post o.controller command.queue 0 (cid_of command.entry) (deciding sts)) (deciding sts)
        command.queue lane tags
