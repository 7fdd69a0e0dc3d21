-- A Post in each world that has the side: where the command that has ended was delivered and its completion is stored, it is the definition's step.
use Rattle.std.proofs.Common.{◌≡◌, ℕ, ◌<◌, ◌^◌, Bool, true, false, cond, List, [], ◌∷◌, length, set, slice_get}
use Rattle.std.proofs.Common.{Option, Some, None, IfSome, is_some, arith, refl, sym, ap, ◌∙◌, subst}
use Rattle.std.specs.Option.{option_map}
use Rattle.std.proofs.lemmas.Option.{slice_get_within}
use Rattle.nv_core.proofs.GroupWorlds.{IsEndedHere, ended-step, group-lane, statuses-lane, with_tags-lane}
use Rattle.nv_core.proofs.Placed.{owner, owner-there}
use Rattle.nv_core.proofs.PostParts.{parts-of}
use Rattle.nv_core.specs.Completing.{IsEnding, completion_for, completion_stored, ended_controller, ended_posting, ended_side, may_end}
use Rattle.nv_core.specs.Ending.{AreParts, delivered_host, part_delivered, tag_delivered, tags_delivered}
use Rattle.nv_core.specs.Front.{IsSideOf, IsSideStep, with_side}
use Rattle.nv_core.specs.Groups.{statuses_in, tags_changed}
use Rattle.nv_core.specs.Submit.{IsPlaced}
use Rattle.nv_core.specs.declared.completing.Completion.{Completion}
use Rattle.nv_core.specs.declared.completing.Ending.{Ending}
use Rattle.nv_entry.specs.Status.{StatusField}
use Rattle.nv_entry.specs.Submission.{cid_of}
use Rattle.nv_laws_sound.proofs.Lists.{some-same}
use Rattle.nv_laws_sound.proofs.Tails.{rung-same}
use Rattle.nv_laws_sound.specs.LaidOut.{IsLaidOut}
use Rattle.nv_laws_sound.specs.Side.{IsKept, Side, rung_with}
use Rattle.nv_machine.proofs.SideWorlds.{world_with}
use Rattle.nv_mem.specs.GuestMap.{everywhere, mapped}
use Rattle.nv_mem.specs.Places.{places_of, total_len}
use Rattle.nv_model.specs.Controller.{Controller, Posted, is_enabled, post, ran_out}
use Rattle.nv_model.specs.Judge.{is_read}
use Rattle.nv_model.specs.Memory.{byte_in, bytes_from, image, put_image, scattered}
use Rattle.nv_model.specs.declared.reply.Reply.TheVariants as reply
use Rattle.nv_vctl.proofs.Entries.{post-mapped}
use Rattle.nv_vctl.specs.Vctl.{controller_behind, posting_of}
use Rattle.nv_vctl.specs.declared.posting.Posting.{Posting}
use Rattle.nv_world_model.specs.Area.{bounce_page}
use Rattle.nv_world_model.specs.Device.{DeviceLane}
use Rattle.nv_world_model.specs.Geometry.{Geometry, Guest, regions_of}
use Rattle.nv_world_model.specs.Plan.{Answer, Bounced, Direct, NoData, Plan}
use Rattle.nv_world_model.specs.Seat.{Owner, owner_of, put_back}
use Rattle.nv_world_model.specs.Step.{After, deciding, delivered, delivered_all, delivered_by, delivered_from, for_owner, is_success}
use Rattle.nv_world_model.specs.Step.{post_all, post_at, post_by, posted_to, ran_out_of, replied, scattered_to, statuses_of, step}
use Rattle.nv_world_model.specs.World.{Command, Ended, Flying, Free, Lane, Tag, Taken, World, group, group_in, tag_in, with_controller, with_host, with_tags}
use Rattle.nv_world_model.specs.declared.event.Event.TheVariants as event

-- ---- what is delivered, in the world

by-plan : (plan : Plan) (bounce : ℕ) (o : Owner) (host : ℕ → ℕ) (w : World)
    → delivered_by plan bounce o (with_host host w) ≡ with_host (part_delivered plan bounce (regions_of o.given) host) w
unfolding scattered_to
by-plan (Answer answer) bounce o host w = refl
by-plan (NoData work) bounce o host w = refl
by-plan (Direct work) bounce o host w = refl
by-plan (Bounced work) bounce o host w = by_read (is_read work.opcode)
  where
    by_read : (b : Bool) → cond b (scattered_to bounce work o (with_host host w)) (with_host host w)
        ≡ with_host
        (cond b
        (put_image (regions_of o.given)
        (scattered (image (regions_of o.given) host) (places_of work.pieces) (bytes_from host bounce (total_len work.pieces))) host) host) w
    by_read true = refl
    by_read false = refl

from-tag : (t : Option Tag) (bounce : ℕ) (o : Owner) (host : ℕ → ℕ) (w : World)
    → delivered_from t bounce o (with_host host w) ≡ with_host (tag_delivered t bounce (regions_of o.given) host) w
from-tag None bounce o host w = refl
from-tag (Some Free) bounce o host w = refl
from-tag (Some (Taken command reads)) bounce o host w = refl
from-tag (Some (Flying command share standing)) bounce o host w = refl
from-tag (Some (Ended command st None)) bounce o host w = refl
from-tag (Some (Ended command st (Some share))) bounce o host w = by-plan share.plan bounce o host w

from-tags : (mediator lane : ℕ) (tags : List ℕ) (o : Owner) (host : ℕ → ℕ) (w : World) (l : Lane) → slice_get w.lanes lane ≡ Some l
    → delivered_all mediator lane tags o (with_host host w) ≡ with_host (tags_delivered mediator lane tags l (regions_of o.given) host) w
unfolding delivered_all
from-tags mediator lane [] o host w l at = refl
from-tags mediator lane (tag ∷ tags) o host w l at =
    let bounce = bounce_page mediator lane tag in
    ap (λ (x : Option Lane). delivered_all mediator lane tags o (delivered_from (tag_in x tag) bounce o (with_host host w))) at
    ∙ ap (λ (v : World). delivered_all mediator lane tags o v) (from-tag (slice_get l.tags tag) bounce o host w)
    ∙ from-tags mediator lane tags o (tag_delivered (slice_get l.tags tag) bounce (regions_of o.given) host) w l at

delivered-is : (st : StatusField) (mediator lane : ℕ) (tags : List ℕ) (o : Owner) (w : World) (l : Lane) → slice_get w.lanes lane ≡ Some l
    → delivered st mediator lane tags o w ≡ with_host (delivered_host st mediator lane tags l (regions_of o.given) w.host) w
delivered-is st mediator lane tags o w l at = by (is_success st)
  where
    by : (b : Bool) → cond b (delivered_all mediator lane tags o w) w
        ≡ with_host (cond b (tags_delivered mediator lane tags l (regions_of o.given) w.host) w.host) w
    by true = from-tags mediator lane tags o w.host w l at
    by false = refl

-- ---- what is completed, in the world

module _ (command : Command) (st : StatusField) (mediator lane : ℕ) (tags : List ℕ) (number : ℕ) (guest : Guest) (c : Controller) (w : World) (l : Lane)
    (at : slice_get w.lanes lane ≡ Some l) where
  abbrev out : ℕ → ℕ
  out = delivered_host st mediator lane tags l (regions_of guest) w.host

  abbrev done_after : (host : ℕ → ℕ) → Controller → After
  done_after host k = replied reply.Done (with_tags lane tags Free (with_controller number k (with_host host w)))

  posted-is : (posted : Posted) → post_by (Some posted) st mediator lane tags (owner number guest c) w
      ≡ done_after (completion_stored (Some (record { guest = number; posting = posting_of posted })) (regions_of guest) out) posted.controller
  unfolding posted_to put_back
  posted-is posted =
      ap (λ (v : World). replied reply.Done (posted_to posted lane tags (owner number guest c) v)) (delivered-is st mediator lane tags (owner number guest c) w l at)

  ran_out-is : replied reply.Done (ran_out_of command.queue lane tags (owner number guest c) (delivered st mediator lane tags (owner number guest c) w))
      ≡ done_after out (ran_out c command.queue)
  unfolding ran_out_of
  ran_out-is =
      ap (λ (v : World). replied reply.Done (ran_out_of command.queue lane tags (owner number guest c) v))
      (delivered-is st mediator lane tags (owner number guest c) w l at)

  by-room : (f : Option Posted) → is_some f ≡ true → post_by f st mediator lane tags (owner number guest c) w
      ≡ done_after (completion_stored (completion_for number (option_map posting_of f)) (regions_of guest) out) (controller_behind c f)
  by-room None e = cc
  by-room (Some posted) e = posted-is posted

  by-enabled : (b : Bool) (f : Option Posted) → cond b (is_some f) true ≡ true
      → cond b (post_by f st mediator lane tags (owner number guest c) w)
      (replied reply.Done (ran_out_of command.queue lane tags (owner number guest c) (delivered st mediator lane tags (owner number guest c) w)))
      ≡ done_after (completion_stored (completion_for number (cond b (option_map posting_of f) None)) (regions_of guest) out)
      (cond b (controller_behind c f) (ran_out c command.queue))
  by-enabled true f e = by-room f e
  by-enabled false f e = ran_out-is

  completed-is : may_end command.queue (cid_of command.entry) st c ≡ true
      → post_at command st mediator lane tags (owner number guest c) w
      ≡ done_after (completion_stored (completion_for number (ended_posting command.queue (cid_of command.entry) st c)) (regions_of guest) out)
      (ended_controller command.queue (cid_of command.entry) st c)
  completed-is room = by-enabled (is_enabled c) (post c command.queue 0 (cid_of command.entry) st) room

-- statuses that decide
decided : (o : Option (List StatusField)) (st : StatusField) (command : Command) (mediator lane : ℕ) (tags : List ℕ) (x : Owner) (w : World)
    → option_map deciding o ≡ Some st → post_all o command mediator lane tags x w ≡ post_at command st mediator lane tags x w
decided None st command mediator lane tags x w e = cc
decided (Some sts) st command mediator lane tags x w e =
    ap (λ (y : StatusField). post_at command y mediator lane tags x w) (some-same (deciding sts) st e)

-- ---- a command that has ended and may be completed

module _ (geometry : Geometry) (s : Side) (lane tag : ℕ) (e : Ending) (is : IsEnding lane tag s e) (guest : Guest)
    (given : slice_get geometry.guests e.guest ≡ Some guest) where
  abbrev tags : List ℕ
  tags = group_in (Some is.at) tag

  abbrev own : Ending
  own = record { guest = is.command.guest; queue = is.command.queue; cid = cid_of is.command.entry; status = e.status }

  own-is : own ≡ e
  own-is =
      ap (λ (n : ℕ). let x : Ending = record { guest = n; queue = is.command.queue; cid = cid_of is.command.entry; status = e.status } in x) (sym is.guest_is)
      ∙ ap (λ (n : ℕ). let x : Ending = record e { queue = n; cid = cid_of is.command.entry } in x) (sym is.queue_is)
      ∙ ap (λ (n : ℕ). let x : Ending = record e { cid = n } in x) (sym is.cid_is)

  own-given : slice_get geometry.guests is.command.guest ≡ Some guest
  own-given = ap (λ (n : ℕ). slice_get geometry.guests n) (sym is.guest_is) ∙ given

  -- ---- what its delivery and its completion need

  -- its pages
  pub ending-placed : (memory mediator : ℕ) → IsLaidOut memory (length s.lanes) geometry → mediator ≡ geometry.mediator → memory < 2 ^ 64 → IsKept geometry s
      → IsPlaced mediator lane tag
  ending-placed memory mediator laid same fits kept =
      let below = slice_get_within s.lanes lane is.at is.found in
      let within = slice_get_within is.at.tags tag (Ended is.command is.first is.share) is.there in
      let fine = kept.lanes lane is.at is.found in
      let sized = fine.tags_are in
      let area = laid.area in
      subst (λ (m : ℕ). IsPlaced m lane tag) (sym same)
      (record { aligned = laid.pages; ends = omega (arith, below, area, fits); below = omega (arith, within, sized) })

  -- its parts
  pub ending-parts : (memory : ℕ) → IsLaidOut memory (length s.lanes) geometry → IsKept geometry s → is_success e.status ≡ true
      → AreParts is.command.entry geometry.mediator lane tag is.at memory (regions_of guest)
  ending-parts memory laid kept went =
      parts-of geometry (world_with (λ at. 0) s) lane tag is.at is.found (kept.lanes lane is.at is.found) is.command is.first is.share is.there is.led memory laid guest
      own-given e.status is.decided went

  -- where its completion is stored
  pub ending-mapped : (completion : Option Completion) → IsKept geometry s
      → completion ≡ completion_for e.guest (ended_posting e.queue e.cid e.status is.controller)
      → IfSome completion (λ c. everywhere (mapped (regions_of guest)) c.posting.addr (length c.posting.entry) ≡ true)
  ending-mapped completion kept told = by (is_enabled is.controller) told
    where
      stored-there : (o : Option Posting) → o ≡ option_map posting_of (post is.controller e.queue 0 e.cid e.status) → (x : Option Completion)
          → x ≡ completion_for e.guest o → IfSome x (λ c. everywhere (mapped (regions_of guest)) c.posting.addr (length c.posting.entry) ≡ true)
      stored-there None from x is_x =
          subst (λ (y : Option Completion). IfSome y (λ c. everywhere (mapped (regions_of guest)) c.posting.addr (length c.posting.entry) ≡ true)) (sym is_x) tt
      stored-there (Some p) from x is_x =
          subst (λ (y : Option Completion). IfSome y (λ c. everywhere (mapped (regions_of guest)) c.posting.addr (length c.posting.entry) ≡ true)) (sym is_x)
          (post-mapped (mapped (regions_of guest)) is.controller e.queue 0 e.cid e.status p (kept.queues is.command.guest guest is.controller own-given is.has) from)

      by : (b : Bool) → completion ≡ completion_for e.guest (cond b (option_map posting_of (post is.controller e.queue 0 e.cid e.status)) None)
          → IfSome completion (λ c. everywhere (mapped (regions_of guest)) c.posting.addr (length c.posting.entry) ≡ true)
      by true e_is = stored-there (option_map posting_of (post is.controller e.queue 0 e.cid e.status)) refl completion e_is
      by false e_is = subst (λ (y : Option Completion). IfSome y (λ c. everywhere (mapped (regions_of guest)) c.posting.addr (length c.posting.entry) ≡ true)) (sym e_is) tt

  -- ---- its Post

  module _ (before : List ℕ) (w : World) (on : IsSideOf s before w) where
    found-in : slice_get w.lanes lane ≡ Some is.at
    found-in = ap (λ (ls : List Lane). slice_get ls lane) on.lanes ∙ is.found

    abbrev ended : IsEndedHere w.lanes lane tag
    ended =
        record {
          at = is.at;
          command = is.command;
          st = is.first;
          share = is.share;
          found = found-in;
          there = is.there;
          led = is.led;
        }

    has-in : slice_get w.controllers is.command.guest ≡ Some is.controller
    has-in = ap (λ (cs : List Controller). slice_get cs is.command.guest) on.controllers ∙ is.has

    abbrev o : Owner
    o = owner is.command.guest guest is.controller

    step-is : step geometry (event.Post lane tag) w ≡ post_at is.command e.status geometry.mediator lane tags o w
    unfolding step
    step-is =
        ended-step w lane tag ended
        (λ command. for_owner (owner_of geometry w command.guest) w
        (λ o. post_all (statuses_of lane (group w lane tag) w) command geometry.mediator lane (group w lane tag) o w))
        ∙ ap (λ (ns : List ℕ). for_owner (owner_of geometry w is.command.guest) w (λ o. post_all (statuses_of lane ns w) is.command geometry.mediator lane ns o w))
        (group-lane w lane tag is.at found-in)
        ∙ ap (λ (sts : Option (List StatusField)). for_owner (owner_of geometry w is.command.guest) w (λ o. post_all sts is.command geometry.mediator lane tags o w))
        (statuses-lane lane tags w is.at found-in)
        ∙ ap (λ (x : Option Owner). for_owner x w (λ o. post_all (statuses_in tags is.at) is.command geometry.mediator lane tags o w))
        (owner-there geometry w is.command.guest guest is.controller own-given has-in)
        ∙ decided (statuses_in tags is.at) e.status is.command geometry.mediator lane tags o w is.decided

    abbrev out_of : (host : ℕ → ℕ) → ℕ → ℕ
    out_of host = delivered_host e.status geometry.mediator lane tags is.at (regions_of guest) host

    abbrev stored_as : Ending → (host : ℕ → ℕ) → ℕ → ℕ
    stored_as x host = completion_stored (completion_for x.guest (ended_posting x.queue x.cid x.status is.controller)) (regions_of guest) (out_of host)

    abbrev put_as : Ending → (host : ℕ → ℕ) → World → World
    put_as x host v = record v {
      host = host;
      lanes = set v.lanes lane (tags_changed tags Free is.at);
      controllers = set v.controllers x.guest (ended_controller x.queue x.cid x.status is.controller);
    }

    done-is : (after : List ℕ) → byte_in after ≡ stored_as e w.host → step geometry (event.Post lane tag) w ≡ replied reply.Done (put_as e (byte_in after) w)
    done-is after told =
        step-is
        ∙ completed-is is.command e.status geometry.mediator lane tags is.command.guest guest is.controller w is.at found-in
        (ap (λ (x : Ending). may_end x.queue x.cid x.status is.controller) own-is ∙ is.room)
        ∙ ap (replied reply.Done)
        (with_tags-lane lane tags Free (with_controller is.command.guest _ (with_host _ w)) is.at found-in
        ∙ ap (λ (x : Ending). put_as x (stored_as x w.host) w) own-is ∙ ap (λ (h : ℕ → ℕ). put_as e h w) (sym told))

  -- in each world that has the side
  pub ending-step : (before after : List ℕ)
      → byte_in after ≡ completion_stored (completion_for e.guest (ended_posting e.queue e.cid e.status is.controller)) (regions_of guest)
      (delivered_host e.status geometry.mediator lane tags is.at (regions_of guest) (byte_in before))
      → IsSideStep geometry (event.Post lane tag) s before reply.Done (ended_side lane tag e is.at is.controller s) after
  ending-step before after told w on =
      ap (replied reply.Done)
      (ap (λ (ds : List DeviceLane). let v : World = record (with_side (ended_side lane tag e is.at is.controller s) after w) { device = ds } in v)
      (ap (λ (ts : List ℕ). rung_with ts w.device) (sym on.tails) ∙ rung-same w.device)
      ∙ ap (λ (ls : List Lane). let v : World = record w {
        host = byte_in after;
        lanes = set ls lane (tags_changed tags Free is.at);
        controllers = set s.controllers e.guest (ended_controller e.queue e.cid e.status is.controller);
      } in v) (sym on.lanes)
      ∙ ap (λ (cs : List Controller). let v : World = record w {
        host = byte_in after;
        lanes = set w.lanes lane (tags_changed tags Free is.at);
        controllers = set cs e.guest (ended_controller e.queue e.cid e.status is.controller);
      } in v) (sym on.controllers))
      ∙ sym (done-is before w on after (told ∙ ap (λ (h : ℕ → ℕ). stored_as before w on e h) (sym on.host)))
