-- Each event of a guest or of the mediator keeps that queues begin with pages.
use Rattle.std.proofs.Common.{◌≡◌, ℕ, Bool, true, false, cond, ◌&&◌, List, [], ◌∷◌, nat_le, slice_get, Option, Some, None, refl, sym, ◌∙◌, subst}
use Rattle.nv_entry.specs.Status.{StatusField}
use Rattle.nv_entry.specs.StatusCode.{done_with}
use Rattle.nv_entry.specs.Submission.{cid_of}
use Rattle.nv_entry.specs.declared.status_code.StatusCode.TheVariants.{InternalError, Success}
use Rattle.nv_laws_sound.proofs.KeptSteps.{IsHosted, delivered-hosted}
use Rattle.nv_laws_sound.proofs.Lists.{IsThere, Put, Was, set-there}
use Rattle.nv_laws_sound.proofs.Walks.{device-walk, either, ended-walk, guest-walk, lane-walk, owner-walk, taken-walk}
use Rattle.nv_laws_sound.specs.Mediators.{IsMediators}
use Rattle.nv_machine.specs.InWorld.{AreOnPages}
use Rattle.nv_mem.specs.GuestMap.{all_mapped, mapped}
use Rattle.nv_model.specs.Admin.{AdminStep, NothingToDo, QueueFull, Stepped}
use Rattle.nv_model.specs.Controller.{Controller, Posted, front, is_enabled, post, ran_out, took}
use Rattle.nv_model.specs.Laws.{IsCompletionOnPage, IsSubmissionOnPage, QueuesOnPages}
use Rattle.nv_model.specs.Limits.{part_size}
use Rattle.nv_model.specs.Memory.{image, stored}
use Rattle.nv_model.specs.Private.{ActStep, Acted, Private, acted, step as private_step}
use Rattle.nv_model.specs.Queue.{is_empty}
use Rattle.nv_model.specs.Transcript.{Outcome, Settled, Wanted}
use Rattle.nv_model.specs.declared.act.Act.{Act}
use Rattle.nv_model.proofs.AdminKept.{AdminHas, admin-kept}
use Rattle.nv_model.proofs.QueueOrder.{IsKept-on_pages}
use Rattle.nv_model.proofs.QueuesKept.{HaveBehind, post-kept, ran_out-kept, took-kept}
use Rattle.nv_model.proofs.StepsKept.{step-kept as private-kept}
use Rattle.nv_world_model.proofs.Seats.{owner_of-is}
use Rattle.nv_world_model.proofs.SeatSteps.{Changed, IsPlain, NotDone, NotThere, Shown, act-plain}
use Rattle.nv_world_model.specs.Device.{DeviceLane}
use Rattle.nv_world_model.specs.Geometry.{Geometry, regions_of, shape_of}
use Rattle.nv_world_model.specs.Plan.{Answer, Bounced, Direct, NoData, Plan, plan_over}
use Rattle.nv_world_model.specs.Seat.{Owner, owner_of, put_back, seat}
use Rattle.nv_world_model.specs.Share.{Share, shares_of}
use Rattle.nv_world_model.specs.ShareArea.{is_no_command}
use Rattle.nv_world_model.specs.Step.{acted_by, acted_in, administered_by, administered_in, carried_out, carry_out, deciding, delivered, ended_at, ended_at_once, handed_on}
use Rattle.nv_world_model.specs.Step.{completion_read, is_io_queue, list_at, listed, post_all, post_by, posted_to, ran_out_of, reap, reaped, statuses_of, step, submit_by}
use Rattle.nv_world_model.specs.Step.{submitted, submitted_on, take_from, take_front, take_tags, taken_to}
use Rattle.nv_world_model.specs.World.{Command, Ended, Flying, Free, Lane, Tag, Taken, World, group, tag_of, with_controller, with_lane, with_tag, with_tags}
use Rattle.nv_world_model.specs.declared.event.Event.{Event}
use Rattle.nv_world_model.specs.declared.event.Event.TheVariants as event

-- ---- what leaves the controllers

abbrev SameControllers : World → World → Type 0
SameControllers w v = v.controllers ≡ w.controllers

tags-same : (lane : ℕ) (tags : List ℕ) (t : Tag) (w : World) → SameControllers w (with_tags lane tags t w)
unfolding with_tags
tags-same lane [] t w = refl
tags-same lane (tag ∷ tags) t w = tags-same lane tags t (with_tag lane tag t w)

at_once-same : (lane : ℕ) (tags : List ℕ) (command : Command) (st : StatusField) (w : World) → SameControllers w (ended_at_once lane tags command st w)
at_once-same lane [] command st w = refl
at_once-same lane (tag ∷ tags) command st w = tags-same lane tags (Ended command (done_with Success) None) (with_tag lane tag (Ended command st None) w)

submitted-same : (d : Option DeviceLane) (mediator lane tag : ℕ) (command : Command) (share : Share) (o : Owner) (w : World)
    → SameControllers w (submitted_on d mediator lane tag command share o w)
unfolding submitted
submitted-same None mediator lane tag command share o w = refl
submitted-same (Some d) mediator lane tag command share o w = refl

carried-same : (mediator lane tag : ℕ) (command : Command) (share : Share) (o : Owner) (w : World)
    → SameControllers w (carried_out mediator lane tag command share o w)
carried-same mediator lane tag command share o w = by (is_no_command share)
  where
    by : (b : Bool)
        → SameControllers w (cond b (with_tag lane tag (Ended command (done_with Success) (Some share)) w)
        (submitted_on (slice_get w.device lane) mediator lane tag command share o w))
    by true = refl
    by false = submitted-same (slice_get w.device lane) mediator lane tag command share o w

handed-same : (mediator lane : ℕ) (tags : List ℕ) (shares : List Share) (command : Command) (o : Owner) (w : World)
    → SameControllers w (handed_on mediator lane tags shares command o w)
unfolding handed_on
handed-same mediator lane [] shares command o w = refl
handed-same mediator lane (tag ∷ tags) [] command o w = refl
handed-same mediator lane (tag ∷ tags) (share ∷ shares) command o w =
    handed-same mediator lane tags shares command o (carried_out mediator lane tag command share o w)
    ∙ carried-same mediator lane tag command share o w

plan-same : (plan : Plan) (mediator lane : ℕ) (tags : List ℕ) (command : Command) (o : Owner) (w : World)
    → SameControllers w (carry_out plan mediator lane tags command o w)
plan-same (Answer st) mediator lane tags command o w = at_once-same lane tags command st w
plan-same (NoData work) mediator lane tags command o w = handed-same mediator lane tags (shares_of o.given.namespace command.entry (NoData work)) command o w
plan-same (Direct work) mediator lane tags command o w = handed-same mediator lane tags (shares_of o.given.namespace command.entry (Direct work)) command o w
plan-same (Bounced work) mediator lane tags command o w = handed-same mediator lane tags (shares_of o.given.namespace command.entry (Bounced work)) command o w

ended-same : (t : Option Tag) (st : StatusField) (lane tag : ℕ) (w : World) → SameControllers w (ended_at t st lane tag w)
ended-same None st lane tag w = refl
ended-same (Some Free) st lane tag w = refl
ended-same (Some (Taken command reads)) st lane tag w = refl
ended-same (Some (Flying command share standing)) st lane tag w = refl
ended-same (Some (Ended command before share)) st lane tag w = refl

pub reaped-same : (lane : ℕ) (completion : List ℕ) (w : World) → SameControllers w (reaped lane completion w)
unfolding reaped
reaped-same lane completion w = ended-same (tag_of w lane _) _ lane _ (with_lane lane completion_read w)

-- ---- the events

-- the queues of each controller of a world begin with pages
abbrev Pages : World → Type 0
Pages w = AreOnPages w.controllers

pages-same : (w v : World) → SameControllers w v → Pages w → Pages v
pages-same w v same are = subst AreOnPages (sym same) are

-- a controller is put there
pages-put : (w : World) (number : ℕ) (c : Controller) → QueuesOnPages c → Pages w → Pages (with_controller number c w)
pages-put w number c on are other x at = by (set-there w.controllers number c other x at)
  where
    by : IsThere w.controllers number c other x → QueuesOnPages x
    by (Put same put) = subst QueuesOnPages put on
    by (Was apart was) = are other x was

-- whatever is mapped
module _ (geometry : Geometry) (w : World) (are : Pages w) where
  module _ (o : Owner) (there : slice_get w.controllers o.number ≡ Some o.controller) where
    on : QueuesOnPages o.controller
    on = are o.number o.controller there

    act-by : (x : Acted) → IsPlain (seat geometry o w) x → QueuesOnPages x.state.controller → Pages (acted_by x o w).world
    unfolding put_back
    act-by x (Changed memory c) its = pages-put w o.number c its are
    act-by x (Shown bytes) its = are
    act-by x NotThere its = are
    act-by x NotDone its = are

    acted-on : (a : Act) (p : Private) → QueuesOnPages p.controller → QueuesOnPages (acted (shape_of o.given) a p).state.controller
    unfolding private_step
    acted-on a p its =
        private-kept (shape_of o.given) IsSubmissionOnPage IsCompletionOnPage (IsKept-on_pages (mapped (regions_of o.given))) (ActStep a) p its

    act-pages : (a : Act) → Pages (acted_in geometry a o w).world
    unfolding acted_in seat
    act-pages a = act-by _ (act-plain geometry o a w) (acted-on a (seat geometry o w) on)

    admin-by : (x : AdminStep) → AdminHas IsSubmissionOnPage IsCompletionOnPage x → Pages (administered_by x o w).world
    unfolding put_back
    admin-by NothingToDo its = are
    admin-by QueueFull its = are
    admin-by (Stepped c memory) its = pages-put w o.number c its are

    admin-pages : Pages (administered_in o w).world
    unfolding administered_in
    admin-pages =
        admin-by _ (admin-kept (mapped (regions_of o.given)) IsSubmissionOnPage IsCompletionOnPage (IsKept-on_pages (mapped (regions_of o.given)))
        (shape_of o.given).blocks o.controller (image (regions_of o.given) w.host) on)

    -- ---- Take

    tags-pages : (found : Option (List ℕ)) (addr queue lane : ℕ) → Pages (take_tags found addr queue lane o w).world
    unfolding taken_to
    tags-pages None addr queue lane = are
    tags-pages (Some tags) addr queue lane =
        let c : Controller = took o.controller queue in
        pages-same (with_controller o.number c w) (taken_to addr queue lane tags o w) (tags-same lane tags _ (with_controller o.number c w))
        (pages-put w o.number c
        (took-kept (mapped (regions_of o.given)) IsSubmissionOnPage IsCompletionOnPage (IsKept-on_pages (mapped (regions_of o.given))) o.controller queue on) are)

    front-pages : (found : Option ℕ) (queue lane : ℕ) (l : Lane) → Pages (take_front found queue lane l o w).world
    front-pages None queue lane l = are
    front-pages (Some addr) queue lane l = tags-pages _ addr queue lane

    -- ---- Post

    posted-pages : (p : Posted) (lane : ℕ) (tags : List ℕ) (v : World) → IsHosted geometry w v → QueuesOnPages p.controller → Pages (posted_to p lane tags o v)
    unfolding posted_to put_back
    posted-pages p lane tags v d its =
        let z : World = put_back o (stored (image (regions_of o.given) v.host) p.addr p.entry) p.controller v in
        pages-same z (with_tags lane tags Free z) (tags-same lane tags Free z)
        (pages-put v o.number p.controller its (subst Pages (sym d.is) are))

    posted-by : (found : Option Posted) (st : StatusField) (mediator lane : ℕ) (tags : List ℕ) → HaveBehind IsSubmissionOnPage IsCompletionOnPage found
        → Pages (post_by found st mediator lane tags o w).world
    posted-by None st mediator lane tags its = are
    posted-by (Some p) st mediator lane tags its =
        posted-pages p lane tags (delivered st mediator lane tags o w) (delivered-hosted geometry st mediator lane tags o w) its

    ran_out-pages : (queue lane : ℕ) (tags : List ℕ) (v : World) → IsHosted geometry w v → Pages (ran_out_of queue lane tags o v)
    unfolding ran_out_of
    ran_out-pages queue lane tags v d =
        let c : Controller = ran_out o.controller queue in
        let z : World = with_controller o.number c v in
        pages-same z (with_tags lane tags Free z) (tags-same lane tags Free z)
        (pages-put v o.number c
        (ran_out-kept (mapped (regions_of o.given)) IsSubmissionOnPage IsCompletionOnPage (IsKept-on_pages (mapped (regions_of o.given))) o.controller queue on)
        (subst Pages (sym d.is) are))

    all-pages : (sts : Option (List StatusField)) (command : Command) (mediator lane : ℕ) (tags : List ℕ)
        → Pages (post_all sts command mediator lane tags o w).world
    all-pages None command mediator lane tags = are
    all-pages (Some sts) command mediator lane tags =
        let st : StatusField = deciding sts in
        either Pages w are (is_enabled o.controller) _ _
        (λ enabled. posted-by (post o.controller command.queue 0 (cid_of command.entry) st) st mediator lane tags
        (post-kept (mapped (regions_of o.given)) IsSubmissionOnPage IsCompletionOnPage (IsKept-on_pages (mapped (regions_of o.given))) o.controller
        command.queue 0 (cid_of command.entry) st on))
        (λ fell. ran_out-pages command.queue lane tags (delivered st mediator lane tags o w) (delivered-hosted geometry st mediator lane tags o w))

  -- ---- Submit

  outcome-pages : (outcome : Outcome Plan) (mediator lane : ℕ) (tags : List ℕ) (command : Command) (o : Owner)
      → Pages (submit_by outcome mediator lane tags command o w).world
  outcome-pages (Wanted addr len) mediator lane tags command o = are
  outcome-pages (Settled plan) mediator lane tags command o =
      pages-same w (carry_out plan mediator lane tags command o w) (plan-same plan mediator lane tags command o w) are

  -- each event
  pub pages-kept : (e : Event) → IsMediators e → Pages (step geometry e w).world
  unfolding step listed
  pages-kept (event.Guest guest a) mine =
      guest-walk Pages w are (owner_of geometry w guest) _ (λ o found. act-pages o (owner_of-is geometry w guest o found).controller a)
  pages-kept (event.Admin guest) mine =
      guest-walk Pages w are (owner_of geometry w guest) _ (λ o found. admin-pages o (owner_of-is geometry w guest o found).controller)
  pages-kept (event.Take guest queue lane) mine =
      guest-walk Pages w are (owner_of geometry w guest) _ (λ o found.
      lane-walk Pages w are (slice_get w.lanes lane) (λ l. take_from queue lane l o w) (λ l at.
      either Pages w are (is_io_queue queue) _ _
      (λ io. front-pages o (owner_of-is geometry w guest o found).controller (front o.controller queue) queue lane l) (λ no. are)))
  pages-kept (event.List lane tag addr len) mine =
      taken-walk Pages w are tag (tag_of w lane tag) _ (λ command reads there leads.
      owner-walk Pages w are (owner_of geometry w command.guest) (λ o. list_at addr len lane tag command reads o w) (λ o whose.
      either Pages w are (all_mapped (regions_of o.given) addr len) _ _ (λ fits.
      either Pages w are (nat_le 1 len && nat_le len part_size) _ _ (λ short. are) (λ no. are)) (λ no. are)))
  pages-kept (event.Submit lane tag) mine =
      taken-walk Pages w are tag (tag_of w lane tag) _ (λ command reads there leads.
      owner-walk Pages w are (owner_of geometry w command.guest) _ (λ o whose.
      device-walk Pages w are (slice_get w.device lane)
      (λ d. submit_by (plan_over o.given command.entry reads) geometry.mediator lane (group w lane tag) command o w) (λ d found.
      outcome-pages (plan_over o.given command.entry reads) geometry.mediator lane (group w lane tag) command o)))
  pages-kept (event.GiveUp lane tag) mine =
      taken-walk Pages w are tag (tag_of w lane tag) _ (λ command reads there leads.
      pages-same w (ended_at_once lane (group w lane tag) command (done_with InternalError) w)
      (at_once-same lane (group w lane tag) command (done_with InternalError) w) are)
  pages-kept (event.DevTake lane) mine = absurd mine
  pages-kept (event.DevMove lane slot number) mine = absurd mine
  pages-kept (event.DevPost lane slot) mine = absurd mine
  pages-kept (event.DevFail lane slot st) mine = absurd mine
  pages-kept (event.Keep block) mine = absurd mine
  pages-kept (event.Reap lane) mine =
      lane-walk Pages w are (slice_get w.lanes lane) _ (λ l at.
      device-walk Pages w are (slice_get w.device lane) (λ d. reap geometry lane l d w) (λ d there.
      either Pages w are (is_empty l.head d.posted) _ _ (λ none. are) (λ some. pages-same w (reaped lane _ w) (reaped-same lane _ w) are)))
  pages-kept (event.Post lane tag) mine =
      ended-walk Pages w are tag (tag_of w lane tag) _ (λ command st share there leads.
      owner-walk Pages w are (owner_of geometry w command.guest)
      (λ o. post_all (statuses_of lane (group w lane tag) w) command geometry.mediator lane (group w lane tag) o w) (λ o found.
      all-pages o (owner_of-is geometry w command.guest o found).controller (statuses_of lane (group w lane tag) w) command geometry.mediator lane
      (group w lane tag)))
