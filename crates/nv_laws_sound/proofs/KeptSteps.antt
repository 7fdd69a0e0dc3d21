-- What the mediator's side keeps, event by event, whatever is in memory.
use Rattle.std.proofs.Common.{◌≡◌, ℕ, ◌<◌, Bool, true, false, cond, List, [], ◌∷◌, length, set, slice_get, Option, Some, None}
use Rattle.std.proofs.Common.{refl, sym, ap, ◌∙◌, subst}
use Rattle.nv_entry.specs.Completion.{cid_of as completed_cid, status_of}
use Rattle.nv_entry.specs.Status.{StatusField}
use Rattle.nv_entry.specs.StatusCode.{done_with}
use Rattle.nv_entry.specs.declared.status_code.StatusCode.TheVariants.{Success}
use Rattle.nv_mem.specs.GuestMap.{mapped}
use Rattle.nv_model.specs.Admin.{AdminStep, NothingToDo, QueueFull, Stepped, admin}
use Rattle.nv_model.specs.Controller.{Controller, Posted, ran_out, took}
use Rattle.nv_model.specs.Judge.{is_read}
use Rattle.nv_model.specs.Laws.{IsCompletionInPlace, IsSubmissionInPlace, QueuesInPlace}
use Rattle.nv_model.specs.Memory.{image, stored}
use Rattle.nv_model.specs.Private.{ActStep, Acted, Private, acted, step as private_step}
use Rattle.nv_model.specs.Queue.{sqe_size}
use Rattle.nv_model.specs.Transcript.{ReadDone}
use Rattle.nv_model.specs.declared.act.Act.{Act}
use Rattle.nv_model.proofs.AdminKept.{AdminHas, admin-kept}
use Rattle.nv_model.proofs.QueueOrder.{IsKept-in_place}
use Rattle.nv_model.proofs.QueuesKept.{took-kept}
use Rattle.nv_model.proofs.Shown.{length-bytes_from}
use Rattle.nv_model.proofs.StepsKept.{step-kept as private-kept}
use Rattle.nv_world_model.proofs.Seats.{IsOwner}
use Rattle.nv_world_model.proofs.SeatSteps.{Changed, IsPlain, NotDone, NotThere, Shown, act-plain}
use Rattle.nv_world_model.specs.Area.{bounce_page, ring_size, tag_count}
use Rattle.nv_world_model.specs.Device.{DeviceLane, rung}
use Rattle.nv_world_model.specs.Geometry.{Geometry, Guest, regions_of, shape_of}
use Rattle.nv_world_model.specs.Plan.{Answer, Bounced, Direct, NoData, Plan}
use Rattle.nv_world_model.specs.Seat.{Owner, put_back, seat}
use Rattle.nv_world_model.specs.Share.{Share}
use Rattle.nv_world_model.specs.ShareArea.{is_no_command}
use Rattle.nv_world_model.specs.Step.{acted_by, administered_by, carried_out, delivered, delivered_all, delivered_by, delivered_from, ended_at, ended_at_once, is_success}
use Rattle.nv_world_model.specs.Step.{completion_read, listed, posted_to, ran_out_of, reaped, scattered_to, submitted, submitted_on, taken_to}
use Rattle.nv_world_model.specs.World.{Command, Ended, Flying, Free, Lane, Queued, Tag, Taken, World, changed_at, tag_changed, tag_in, tag_of, with_controller}
use Rattle.nv_world_model.specs.World.{with_device, with_host, with_lane, with_tag, with_tags}
use Rattle.nv_laws_sound.specs.Kept.{IsGuests, IsKeptTag, IsKeptWorld}
use Rattle.nv_laws_sound.proofs.GroupsKept.{HasGroups, ends-groups, read-groups, read-tag}
use Rattle.nv_laws_sound.proofs.Lists.{IsThere, Put, Was, length-set, set-there, some-same}
use Rattle.nv_laws_sound.proofs.Retags.{with_tag-is}
use Rattle.nv_laws_sound.proofs.Rings.{next-below}

-- ---- what does not hang together: tag by tag

pub record IsSidedLane (geometry : Geometry) (l : Lane) : Type 0 where
  pub head : l.head < ring_size
  pub tags_are : length l.tags ≡ tag_count
  pub tags : (tag : ℕ) (t : Tag) → slice_get l.tags tag ≡ Some t → IsKeptTag geometry t

pub record IsSided (geometry : Geometry) (w : World) : Type 0 where
  pub lanes : (lane : ℕ) (l : Lane) → slice_get w.lanes lane ≡ Some l → IsSidedLane geometry l
  pub sides : length w.lanes ≡ length w.device
  pub tails : (lane : ℕ) (d : DeviceLane) → slice_get w.device lane ≡ Some d → d.tail < ring_size
  pub controllers : length w.controllers ≡ length geometry.guests
  pub queues : (number : ℕ) (guest : Guest) (c : Controller) → slice_get geometry.guests number ≡ Some guest → slice_get w.controllers number ≡ Some c
      → QueuesInPlace (mapped (regions_of guest)) c

abbrev pub Keeps : Geometry → World → Type 0
Keeps geometry w = IsSided geometry w × HasGroups geometry w.lanes

pub apart : (geometry : Geometry) (w : World) → IsKeptWorld geometry w → Keeps geometry w
apart geometry w is = (
  record {
    lanes = (λ lane l found. let k = is.lanes lane l found in record { head = k.head; tags_are = k.tags_are; tags = k.tags });
    sides = is.sides;
    tails = is.tails;
    controllers = is.controllers;
    queues = is.queues;
  },
  λ lane l found. (is.lanes lane l found).groups,
)

pub together : (geometry : Geometry) (w : World) → Keeps geometry w → IsKeptWorld geometry w
together geometry w keeps =
    let is = keeps.0 in
    record {
      lanes = (λ lane l found. let k = is.lanes lane l found in record { head = k.head; tags_are = k.tags_are; tags = k.tags; groups = keeps.1 lane l found });
      sides = is.sides;
      tails = is.tails;
      controllers = is.controllers;
      queues = is.queues;
    }

module _ (geometry : Geometry) where
  -- ---- changes

  sided-host : (w : World) (host : ℕ → ℕ) → IsSided geometry w → IsSided geometry (with_host host w)
  sided-host w host is = record { lanes = is.lanes; sides = is.sides; tails = is.tails; controllers = is.controllers; queues = is.queues }

  queues-put : (w : World) (number : ℕ) (guest : Guest) (c : Controller) → slice_get geometry.guests number ≡ Some guest
      → QueuesInPlace (mapped (regions_of guest)) c → IsSided geometry w → (other : ℕ) (g : Guest) (x : Controller)
      → slice_get geometry.guests other ≡ Some g → IsThere w.controllers number c other x → QueuesInPlace (mapped (regions_of g)) x
  queues-put w number guest c given there is other g x has (Put same put) =
      let found : Some guest ≡ Some g = sym given ∙ subst (λ n. slice_get geometry.guests n ≡ Some g) same has in
      subst (QueuesInPlace (mapped (regions_of g))) put
      (subst (λ h. QueuesInPlace (mapped (regions_of h)) c) (some-same guest g found) there)
  queues-put w number guest c given there is other g x has (Was apart at) = is.queues other g x has at

  sided-controller : (w : World) (number : ℕ) (guest : Guest) (c : Controller) → slice_get geometry.guests number ≡ Some guest
      → QueuesInPlace (mapped (regions_of guest)) c → IsSided geometry w → IsSided geometry (with_controller number c w)
  sided-controller w number guest c given there is =
      record {
        lanes = is.lanes;
        sides = is.sides;
        tails = is.tails;
        controllers = length-set w.controllers number c ∙ is.controllers;
        queues = (λ other g x has at. queues-put w number guest c given there is other g x has (set-there w.controllers number c other x at));
      }

  sided-put_back : (w : World) (o : Owner) (memory : ℕ → ℕ) (c : Controller) → slice_get geometry.guests o.number ≡ Some o.given
      → QueuesInPlace (mapped (regions_of o.given)) c → IsSided geometry w → IsSided geometry (put_back o memory c w)
  unfolding put_back
  sided-put_back w o memory c given place is = sided-controller (with_host _ w) o.number o.given c given place (sided-host w _ is)

  -- one lane becomes another
  sided-lane : (w : World) (lane : ℕ) (l : Lane) → IsSidedLane geometry l → IsSided geometry w
      → IsSided geometry (record w { lanes = set w.lanes lane l })
  sided-lane w lane l now is =
      record {
        lanes = (λ at x there. by at x (set-there w.lanes lane l at x there));
        sides = length-set w.lanes lane l ∙ is.sides;
        tails = is.tails;
        controllers = is.controllers;
        queues = is.queues;
      }
    where
      by : (at : ℕ) (x : Lane) → IsThere w.lanes lane l at x → IsSidedLane geometry x
      by at x (Put same put) = subst (IsSidedLane geometry) put now
      by at x (Was apart found) = is.lanes at x found

  retagged-lane : (l : Lane) (tag : ℕ) (t : Tag) → IsKeptTag geometry t → IsSidedLane geometry l → IsSidedLane geometry (tag_changed tag t l)
  retagged-lane l tag t kept is =
      record {
        head = is.head;
        tags_are = length-set l.tags tag t ∙ is.tags_are;
        tags = (λ at x there. by at x (set-there l.tags tag t at x there));
      }
    where
      by : (at : ℕ) (x : Tag) → IsThere l.tags tag t at x → IsKeptTag geometry x
      by at x (Put same put) = subst (IsKeptTag geometry) put kept
      by at x (Was apart found) = is.tags at x found

  sided-tag : (w : World) (lane tag : ℕ) (t : Tag) → IsKeptTag geometry t → IsSided geometry w → IsSided geometry (with_tag lane tag t w)
  sided-tag w lane tag t kept is = by (slice_get w.lanes lane) refl
    where
      by : (o : Option Lane) → slice_get w.lanes lane ≡ o → IsSided geometry (with_tag lane tag t w)
      by None none = subst (λ x. IsSided geometry (record w { lanes = changed_at x lane (tag_changed tag t) w.lanes })) (sym none) is
      by (Some l) at =
          subst (IsSided geometry) (sym (with_tag-is lane tag t w l at)) (sided-lane w lane (tag_changed tag t l) (retagged-lane l tag t kept (is.lanes lane l at)) is)

  sided-tags : (lane : ℕ) (tags : List ℕ) (t : Tag) (w : World) → IsKeptTag geometry t → IsSided geometry w → IsSided geometry (with_tags lane tags t w)
  unfolding with_tags
  sided-tags lane [] t w kept is = is
  sided-tags lane (tag ∷ tags) t w kept is = sided-tags lane tags t (with_tag lane tag t w) kept (sided-tag w lane tag t kept is)

  -- the doorbell of a lane is rung
  sided-rung : (w : World) (lane : ℕ) → IsSided geometry w → IsSided geometry (with_device lane rung w)
  sided-rung w lane is = by (slice_get w.device lane) refl
    where
      by : (o : Option DeviceLane) → slice_get w.device lane ≡ o → IsSided geometry (record w { device = changed_at o lane rung w.device })
      by None none = is
      by (Some d) at =
          record {
            lanes = is.lanes;
            sides = is.sides ∙ sym (length-set w.device lane (rung d));
            tails = (λ n x there. one n x (set-there w.device lane (rung d) n x there));
            controllers = is.controllers;
            queues = is.queues;
          }
        where
          one : (n : ℕ) (x : DeviceLane) → IsThere w.device lane (rung d) n x → x.tail < ring_size
          one n x (Put same put) = subst (λ (e : DeviceLane). e.tail < ring_size) put (next-below d.tail (is.tails lane d at))
          one n x (Was apart found) = is.tails n x found

  -- ---- acts and admin commands

  act-by : (w : World) (o : Owner) → IsOwner geometry w o → IsSided geometry w → (x : Acted) → IsPlain (seat geometry o w) x
      → QueuesInPlace (mapped (regions_of o.given)) x.state.controller → IsSided geometry (acted_by x o w).world
  act-by w o owns is x (Changed memory c) place = sided-put_back w o memory c owns.given place is
  act-by w o owns is x (Shown bytes) place = is
  act-by w o owns is x NotThere place = is
  act-by w o owns is x NotDone place = is

  acted-place : (o : Owner) (a : Act) (p : Private) → QueuesInPlace (mapped (regions_of o.given)) p.controller
      → QueuesInPlace (mapped (regions_of o.given)) (acted (shape_of o.given) a p).state.controller
  unfolding private_step
  acted-place o a p place =
      private-kept (shape_of o.given) (IsSubmissionInPlace (mapped (regions_of o.given))) (IsCompletionInPlace (mapped (regions_of o.given)))
      (IsKept-in_place (mapped (regions_of o.given))) (ActStep a) p place

  pub act-sided : (w : World) (o : Owner) (a : Act) → IsOwner geometry w o → IsSided geometry w
      → IsSided geometry (acted_by (acted (shape_of o.given) a (seat geometry o w)) o w).world
  unfolding seat
  act-sided w o a owns is =
      act-by w o owns is _ (act-plain geometry o a w)
      (acted-place o a (seat geometry o w) (is.queues o.number o.given o.controller owns.given owns.controller))

  admin-by : (w : World) (o : Owner) → slice_get geometry.guests o.number ≡ Some o.given → IsSided geometry w → (x : AdminStep)
      → AdminHas (IsSubmissionInPlace (mapped (regions_of o.given))) (IsCompletionInPlace (mapped (regions_of o.given))) x
      → IsSided geometry (administered_by x o w).world
  admin-by w o given is NothingToDo place = is
  admin-by w o given is QueueFull place = is
  admin-by w o given is (Stepped c memory) place = sided-put_back w o memory c given place is

  pub admin-sided : (w : World) (o : Owner) → IsOwner geometry w o → IsSided geometry w
      → IsSided geometry (administered_by (admin (shape_of o.given).mapped (shape_of o.given).blocks o.controller (image (regions_of o.given) w.host)) o w).world
  admin-sided w o owns is =
      admin-by w o owns.given is _
      (admin-kept (mapped (regions_of o.given)) (IsSubmissionInPlace (mapped (regions_of o.given))) (IsCompletionInPlace (mapped (regions_of o.given)))
      (IsKept-in_place (mapped (regions_of o.given))) (shape_of o.given).blocks o.controller (image (regions_of o.given) w.host)
      (is.queues o.number o.given o.controller owns.given owns.controller))

  -- ---- a command that is taken

  pub taken_to-sided : (w : World) (o : Owner) (addr queue lane : ℕ) (tags : List ℕ) → IsOwner geometry w o → IsSided geometry w
      → IsSided geometry (taken_to addr queue lane tags o w)
  unfolding taken_to
  taken_to-sided w o addr queue lane tags owns is =
      let test = mapped (regions_of o.given) in
      let place = took-kept test (IsSubmissionInPlace test) (IsCompletionInPlace test) (IsKept-in_place test) o.controller queue
      (is.queues o.number o.given o.controller owns.given owns.controller) in
      sided-tags lane tags _ (with_controller o.number (took o.controller queue) w)
      (record {
        guest = o.given;
        is = record { given = owns.given; bytes = length-bytes_from (image (regions_of o.given) w.host) addr sqe_size };
        planned = tt;
      })
      (sided-controller w o.number o.given (took o.controller queue) owns.given place is)

  -- a tag that is there is kept
  pub tag-kept : (w : World) (lane tag : ℕ) (t : Tag) → IsSided geometry w → tag_of w lane tag ≡ Some t → IsKeptTag geometry t
  tag-kept w lane tag t is found = by (slice_get w.lanes lane) refl found
    where
      by : (o : Option Lane) → slice_get w.lanes lane ≡ o → tag_in o tag ≡ Some t → IsKeptTag geometry t
      by None at there = cc
      by (Some l) at there = (is.lanes lane l at).tags tag t there

  -- ---- one more read

  pub listed-sided : (addr len lane tag : ℕ) (command : Command) (reads : List ReadDone) (o : Owner) (w : World) → IsSided geometry w
      → tag_of w lane tag ≡ Some (Taken command reads) → IsSided geometry (listed addr len lane tag command reads o w).world
  unfolding listed
  listed-sided addr len lane tag command reads o w is at =
      let was = tag-kept w lane tag (Taken command reads) is at in
      sided-tag w lane tag _ (record { guest = was.guest; is = was.is; planned = was.planned }) is

  -- ---- a command that ends at once

  pub ended_at_once-sided : (lane : ℕ) (tags : List ℕ) (command : Command) (st : StatusField) (w : World) → IsGuests geometry command None
      → IsSided geometry w → IsSided geometry (ended_at_once lane tags command st w)
  ended_at_once-sided lane [] command st w of is = is
  ended_at_once-sided lane (tag ∷ tags) command st w of is =
      sided-tags lane tags _ (with_tag lane tag (Ended command st None) w) of (sided-tag w lane tag (Ended command st None) of is)

  -- ---- one that is handed on

  submitted-sided : (mediator lane tag : ℕ) (command : Command) (share : Share) (o : Owner) (d : DeviceLane) (w : World)
      → IsGuests geometry command (Some share) → IsSided geometry w → IsSided geometry (submitted mediator lane tag command share o d w)
  unfolding submitted
  submitted-sided mediator lane tag command share o d w of is =
      sided-tag (with_device lane rung (with_host _ w)) lane tag (Flying command share (Queued d.tail)) of (sided-rung (with_host _ w) lane (sided-host w _ is))

  pub carried_out-sided : (mediator lane tag : ℕ) (command : Command) (share : Share) (o : Owner) (w : World)
      → IsGuests geometry command (Some share) → IsSided geometry w → IsSided geometry (carried_out mediator lane tag command share o w)
  carried_out-sided mediator lane tag command share o w of is = by (is_no_command share)
    where
      on : (x : Option DeviceLane) → IsSided geometry (submitted_on x mediator lane tag command share o w)
      on None = is
      on (Some d) = submitted-sided mediator lane tag command share o d w of is

      by : (b : Bool) → IsSided geometry (cond b (with_tag lane tag (Ended command (done_with Success) (Some share)) w)
          (submitted_on (slice_get w.device lane) mediator lane tag command share o w))
      by true = sided-tag w lane tag (Ended command (done_with Success) (Some share)) of is
      by false = on (slice_get w.device lane)

  -- ---- a completion is read

  pub read-sided : (w : World) (lane : ℕ) → IsSided geometry w → IsSided geometry (with_lane lane completion_read w)
  read-sided w lane is = by (slice_get w.lanes lane) refl
    where
      by : (o : Option Lane) → slice_get w.lanes lane ≡ o → IsSided geometry (record w { lanes = changed_at o lane completion_read w.lanes })
      by None none = is
      by (Some l) at =
          let was = is.lanes lane l at in
          sided-lane w lane (completion_read l) (record { head = next-below l.head was.head; tags_are = was.tags_are; tags = was.tags }) is

  ended_at-sided : (o : Option Tag) (st : StatusField) (lane tag : ℕ) (w : World) → tag_of w lane tag ≡ o → IsSided geometry w
      → IsSided geometry (ended_at o st lane tag w)
  ended_at-sided None st lane tag w at is = is
  ended_at-sided (Some Free) st lane tag w at is = is
  ended_at-sided (Some (Taken command reads)) st lane tag w at is = is
  ended_at-sided (Some (Flying command share standing)) st lane tag w at is =
      let was = tag-kept w lane tag (Flying command share standing) is at in
      sided-tag w lane tag _ (record { guest = was.guest; is = was.is; planned = was.planned }) is
  ended_at-sided (Some (Ended command before share)) st lane tag w at is = is

  pub reaped-keeps : (lane : ℕ) (completion : List ℕ) (w : World) → Keeps geometry w → Keeps geometry (reaped lane completion w)
  unfolding reaped
  reaped-keeps lane completion w keeps =
      let cid = completed_cid completion in
      let z : World = with_lane lane completion_read w in
      let at = read-tag geometry w lane cid in (
        ended_at-sided (tag_of w lane cid) (status_of completion) lane cid z at (read-sided w lane keeps.0),
        ends-groups geometry (tag_of w lane cid) (status_of completion) lane cid z (read-groups geometry w lane keeps.1) at,
      )

  -- ---- what is delivered, and completed

  -- it changes the host alone
  pub record IsHosted (w v : World) : Type 0 where
    pub host : ℕ → ℕ
    pub is : v ≡ with_host host w

  undelivered : (w : World) → IsHosted w w
  undelivered w = record { host = w.host; is = refl }

  plan-hosted : (plan : Plan) (bounce : ℕ) (o : Owner) (w : World) → IsHosted w (delivered_by plan bounce o w)
  unfolding scattered_to
  plan-hosted (Answer answer) bounce o w = undelivered w
  plan-hosted (NoData work) bounce o w = undelivered w
  plan-hosted (Direct work) bounce o w = undelivered w
  plan-hosted (Bounced work) bounce o w = by (is_read work.opcode)
    where
      by : (b : Bool) → IsHosted w (cond b (scattered_to bounce work o w) w)
      by true = record { host = _; is = refl }
      by false = undelivered w

  tag-hosted : (t : Option Tag) (bounce : ℕ) (o : Owner) (w : World) → IsHosted w (delivered_from t bounce o w)
  tag-hosted None bounce o w = undelivered w
  tag-hosted (Some Free) bounce o w = undelivered w
  tag-hosted (Some (Taken command reads)) bounce o w = undelivered w
  tag-hosted (Some (Flying command share standing)) bounce o w = undelivered w
  tag-hosted (Some (Ended command st None)) bounce o w = undelivered w
  tag-hosted (Some (Ended command st (Some share))) bounce o w = plan-hosted share.plan bounce o w

  all-hosted : (mediator lane : ℕ) (tags : List ℕ) (o : Owner) (w : World) → IsHosted w (delivered_all mediator lane tags o w)
  unfolding delivered_all
  all-hosted mediator lane [] o w = undelivered w
  all-hosted mediator lane (tag ∷ tags) o w =
      let v : World = delivered_from (tag_of w lane tag) (bounce_page mediator lane tag) o w in
      let first = tag-hosted (tag_of w lane tag) (bounce_page mediator lane tag) o w in
      let rest = all-hosted mediator lane tags o v in
      record { host = rest.host; is = rest.is ∙ ap (with_host rest.host) first.is }

  pub delivered-hosted : (st : StatusField) (mediator lane : ℕ) (tags : List ℕ) (o : Owner) (w : World) → IsHosted w (delivered st mediator lane tags o w)
  delivered-hosted st mediator lane tags o w = by (is_success st)
    where
      by : (b : Bool) → IsHosted w (cond b (delivered_all mediator lane tags o w) w)
      by true = all-hosted mediator lane tags o w
      by false = undelivered w

  pub posted_to-sided : (w v : World) (lane : ℕ) (tags : List ℕ) (o : Owner) (posted : Posted) → IsOwner geometry w o → IsHosted w v
      → QueuesInPlace (mapped (regions_of o.given)) posted.controller → IsSided geometry w → IsSided geometry (posted_to posted lane tags o v)
  unfolding posted_to
  posted_to-sided w v lane tags o posted owns d place is =
      sided-tags lane tags Free (put_back o (stored (image (regions_of o.given) v.host) posted.addr posted.entry) posted.controller v) tt
      (sided-put_back v o _ posted.controller owns.given place (subst (IsSided geometry) (sym d.is) (sided-host w d.host is)))

  pub ran_out-sided : (w v : World) (queue lane : ℕ) (tags : List ℕ) (o : Owner) → IsOwner geometry w o → IsHosted w v
      → QueuesInPlace (mapped (regions_of o.given)) (ran_out o.controller queue) → IsSided geometry w → IsSided geometry (ran_out_of queue lane tags o v)
  unfolding ran_out_of
  ran_out-sided w v queue lane tags o owns d place is =
      sided-tags lane tags Free (with_controller o.number (ran_out o.controller queue) v) tt
      (sided-controller v o.number o.given (ran_out o.controller queue) owns.given place (subst (IsSided geometry) (sym d.is) (sided-host w d.host is)))
