-- What submissions, the physical controller's events but a unit's move, reaping and marks leave.
use Rattle.std.proofs.Common.{◌≡◌, ℕ, ◌+◌, ◌<◌, inl, inr, Bool, true, false, cond, ◌==◌, nat_le, List, [], ◌∷◌, length, set}
use Rattle.std.proofs.Common.{slice_get, Option, Some, None, arith, refl, sym, ap, ◌∙◌, subst}
use Rattle.nv_entry.proofs.CompletionLemmas.{length-completion}
use Rattle.nv_entry.specs.Completion.{completion}
use Rattle.nv_entry.specs.Status.{StatusField}
use Rattle.nv_entry.specs.StatusCode.{done_with}
use Rattle.nv_entry.specs.declared.status_code.StatusCode.TheVariants.{Success}
use Rattle.nv_model.specs.Memory.{stored}
use Rattle.nv_model.specs.Transcript.{ReadDone}
use Rattle.nv_world_model.specs.declared.event.Event.TheVariants as event
use Rattle.nv_world_model.specs.Area.{completion_slot, queue_pair, tag_count}
use Rattle.nv_world_model.specs.Contained.{guest_of_one, tag_stands}
use Rattle.nv_world_model.specs.Device.{DeviceLane, Held, completion_posted, completion_written, held_status, next_phase, rung}
use Rattle.nv_world_model.specs.Geometry.{Geometry}
use Rattle.nv_world_model.specs.Share.{Share}
use Rattle.nv_world_model.specs.ShareArea.{is_no_command, share_written}
use Rattle.nv_world_model.specs.Seat.{Owner}
use Rattle.nv_world_model.specs.Step.{carried_out, device_fail, device_post, device_posted, is_success, kept_block, step, submitted, submitted_on}
use Rattle.nv_world_model.specs.View.{is_tag_of}
use Rattle.nv_world_model.specs.World.{Answered, Command, Ended, Flying, InDevice, Lane, Queued, Tag, Taken, World, tag_changed, tag_in, tag_of, with_tag}
use Rattle.nv_laws_sound.specs.Consistent.{IsConsistentOfTags, IsPlanned, waits_for_device, waits_for_mediator}
use Rattle.nv_laws_sound.specs.LaidOut.{IsLaidOut}
use Rattle.nv_laws_sound.proofs.AnswerEvents.{answer-undisturbed, written-elsewhere, written-same}
use Rattle.nv_laws_sound.proofs.Lists.{count-fewer, slice_get-below, slice_get-there, some-same}
use Rattle.nv_laws_sound.proofs.MoveEvents.{held-flies}
use Rattle.nv_laws_sound.proofs.Retags.{is-at, stands-is}
use Rattle.nv_laws_sound.proofs.Rings.{far}
use Rattle.nv_laws_sound.proofs.SubmitEvents.{entered-elsewhere, entered-same, entered-undisturbed, submitted-is}
use Rattle.nv_laws_sound.proofs.Walks.{device-walk, either, held-walk}
use Rattle.nv_laws.specs.Leaving.{Leaves}
use Rattle.nv_laws.proofs.others.Events.{leaves-lanes, leaves-nothing, leaves-tag}
use Rattle.nv_laws.proofs.others.Leaving.{area-left, outside-area}
use Rattle.nv_laws.proofs.others.LeavesFolds.{tag-leaves}
use Rattle.nv_laws.proofs.others.Parts.{held-put, tag-apart}
use Rattle.nv_laws.proofs.others.TagEvents.{of-tag}

module _ (host_bytes : ℕ) (geometry : Geometry) (w : World) (laid : IsLaidOut host_bytes (length w.lanes) geometry) (fine : IsConsistentOfTags geometry w) where
  -- ---- submissions

  submitted-leaves : (lane tag : ℕ) (command : Command) (reads : List ReadDone) (share : Share) (o : Owner) (d : DeviceLane) → tag_of w lane tag ≡ Some (Taken command reads)
      → IsPlanned o.given command.entry share → slice_get w.device lane ≡ Some d
      → Leaves geometry (Some command.guest) w (submitted geometry.mediator lane tag command share o d w)
  unfolding share_written
  submitted-leaves lane tag command reads share o d found planned device =
      let a = is-at geometry w lane tag (Taken command reads) fine found in
      let before = fine.lanes lane a.l d a.at_lane device in
      let tags = before.positions.tags in
      let among = slice_get-below a.l.tags tag (Taken command reads) a.at_tag in
      let tag_below : tag < tag_count = omega (arith, tags, among) in
      let waiting = count-fewer (tag_stands waits_for_device) a.l.tags tag (Taken command reads) a.at_tag refl in
      let many = before.queued_count in
      let room : far d.head d.tail < 64 = omega (arith, waiting, many, tags) in
      let lane_below = slice_get-below w.lanes lane a.l a.at_lane in
      let host = share_written share o.given command.entry geometry.mediator lane tag d.tail w.host in
      let new = Flying command share (Queued d.tail) in
      let same = entered-same host_bytes (length w.lanes) geometry laid o.given command.entry share planned lane tag d.tail tag_below before.positions.tail w.host in
      let tail_below = before.positions.tail in
      subst (Leaves geometry (Some command.guest) w) (sym (submitted-is w geometry.mediator lane tag command share o a.l d a.at_lane device))
      (leaves-tag geometry (Some command.guest) w
      (record w { host = host; lanes = set w.lanes lane (tag_changed tag new a.l); device = set w.device lane (rung d) })
      lane tag a.l (tag_changed tag new a.l) d (rung d) (Taken command reads) new a.at_lane device a.at_tag refl refl refl (λ b apart. refl)
      (λ number differ. tag-apart (Some command.guest) number (Taken command reads) refl differ) (λ number differ. tag-apart (Some command.guest) number new refl differ)
      (record {
        bytes = (λ at out area. (elim (outside-area geometry w at area) [
          | inl before_area ↦ same at (at + 1) (inl (omega (arith, before_area))) (inl (omega (arith, before_area))) at (omega arith) (omega arith)
          | inr behind_area ↦ same at (at + 1) (inr (omega (arith, behind_area, lane_below, tail_below))) (inr (omega (arith, behind_area, lane_below, tag_below))) at (omega arith) (omega arith)
        ]));
        area = (λ number guest addr given differ s.
            area-left geometry w host lane tag a.l.head a.l d (rung d) number addr fine a.at_lane device
            (λ at apart below. entered-elsewhere host_bytes (length w.lanes) geometry laid o.given command.entry share planned lane tag d.tail tag_below before.positions.tail w.host at apart)
            (λ b x apart b_below here.
            entered-undisturbed host_bytes (length w.lanes) geometry laid o.given command.entry share planned lane tag d.tail tag_below
            before.positions.tail w.host b a.l.head d x apart b_below refl
            before.positions.head before.positions.tail room)
            (λ x here.
            subst (λ y. is_tag_of number (Some y) ≡ false) (some-same (Taken command reads) x (sym a.at_tag ∙ here))
            (tag-apart (Some command.guest) number (Taken command reads) refl differ))
            s);
        blocks = (λ at offset out. refl);
        marks = (λ at out k. k);
        controllers = (λ n differ. refl);
      }))

  -- a share is carried out in its tag
  pub carried-leaves : (lane tag : ℕ) (command : Command) (reads : List ReadDone) (share : Share) (o : Owner) → tag_of w lane tag ≡ Some (Taken command reads)
      → IsPlanned o.given command.entry share → Leaves geometry (Some command.guest) w (carried_out geometry.mediator lane tag command share o w)
  carried-leaves lane tag command reads share o found planned = by (is_no_command share)
    where
      handed : (x : Option DeviceLane) → slice_get w.device lane ≡ x → Leaves geometry (Some command.guest) w (submitted_on x geometry.mediator lane tag command share o w)
      handed None device = leaves-nothing geometry (Some command.guest) w
      handed (Some d) device = submitted-leaves lane tag command reads share o d found planned device

      by : (b : Bool) → Leaves geometry (Some command.guest) w (cond b (with_tag lane tag (Ended command (done_with Success) (Some share)) w)
          (submitted_on (slice_get w.device lane) geometry.mediator lane tag command share o w))
      by true =
          tag-leaves geometry (Some command.guest) w lane tag (Taken command reads) (Ended command (done_with Success) (Some share)) found
          (λ number differ. tag-apart (Some command.guest) number (Taken command reads) refl differ)
          (λ number differ. tag-apart (Some command.guest) number (Ended command (done_with Success) (Some share)) refl differ)
      by false = handed (slice_get w.device lane) refl

  -- ---- completions

  answered-leaves : (lane tag : ℕ) (st : StatusField) (l : Lane) (d : DeviceLane) (h : Held) (t : Tag) → slice_get w.lanes lane ≡ Some l → slice_get w.device lane ≡ Some d
      → slice_get l.tags tag ≡ Some t → slice_get d.held tag ≡ Some (Some h)
      → Leaves geometry (guest_of_one (tag_of w lane tag)) w (device_posted geometry.mediator lane tag st d w)
  unfolding device_posted completion_written
  answered-leaves lane tag st l d h t at there found held =
      let before = fine.lanes lane l d at there in
      let lane_below = slice_get-below w.lanes lane l at in
      let holds = held-flies geometry lane tag w.host l.head d h t (before.tags tag t (Some h) found held) in
      let was = Flying holds.command holds.share InDevice in
      let new = Flying holds.command holds.share (Answered d.posted) in
      let flies : slice_get l.tags tag ≡ Some was = found ∙ ap (λ x. Some x) holds.flies in
      let tags = before.positions.tags in
      let waiting = count-fewer (tag_stands waits_for_mediator) l.tags tag was flies refl in
      let many = before.answered_count in
      let room : far l.head d.posted < 64 = omega (arith, waiting, many, tags) in
      let posted_below = before.positions.posted in
      let bytes = completion 0 d.head (queue_pair lane) tag d.phase st in
      let sized = length-completion 0 d.head (queue_pair lane) tag d.phase st in
      let memory = stored w.host (completion_slot geometry.mediator lane d.posted) bytes in
      let same = written-same geometry (length w.lanes) lane w.host d bytes sized lane_below before.positions.posted in
      let whose = holds.command.guest in
      of-tag host_bytes geometry w laid fine lane tag was whose _ (ap (λ x. tag_in x tag) at ∙ flies) refl
      (subst (Leaves geometry (Some whose) w) (sym (stands-is w lane tag l d holds.command holds.share InDevice (Answered d.posted) memory (completion_posted tag) at there flies))
      (leaves-tag geometry (Some whose) w
      (record w { host = memory; lanes = set w.lanes lane (tag_changed tag new l); device = set w.device lane (completion_posted tag d) })
      lane tag l (tag_changed tag new l) d (completion_posted tag d) was new at there flies refl refl refl (λ b apart. held-put d.held tag None b apart)
      (λ number differ. tag-apart (Some whose) number was refl differ) (λ number differ. tag-apart (Some whose) number new refl differ)
      (record {
        bytes = (λ x out area. (elim (outside-area geometry w x area) [
          | inl before_area ↦ same x (x + 1) (inl (omega (arith, before_area))) x (omega arith) (omega arith)
          | inr behind_area ↦ same x (x + 1) (inr (omega (arith, behind_area, lane_below, posted_below))) x (omega arith) (omega arith)
        ]));
        area = (λ number guest addr given differ s.
            area-left geometry w memory lane tag l.head l d (completion_posted tag d) number addr fine at there
            (written-elsewhere geometry (length w.lanes) lane w.host d bytes sized lane_below before.positions.posted)
            (λ b x apart b_below here.
            answer-undisturbed geometry (length w.lanes) lane w.host d bytes sized lane_below before.positions.posted b l.head
            (set d.held tag None) (next_phase d.posted d.phase) x b_below before.positions.read before.positions.head before.positions.tail room)
            (λ x here. subst (λ y. is_tag_of number (Some y) ≡ false) (some-same was x (sym flies ∙ here)) (tag-apart (Some whose) number was refl differ))
            s);
        blocks = (λ x offset out. refl);
        marks = (λ x out k. k);
        controllers = (λ n differ. refl);
      })))

  held-leaves : (lane slot : ℕ) (st : StatusField) (d : DeviceLane) (h : Held) → slice_get w.device lane ≡ Some d → slice_get d.held slot ≡ Some (Some h)
      → Leaves geometry (guest_of_one (tag_of w lane slot)) w (device_posted geometry.mediator lane slot st d w)
  held-leaves lane slot st d h there held =
      let among = slice_get-below w.device lane d there in
      let sides = fine.sides in
      let l = slice_get-there w.lanes lane (omega (arith, among, sides)) in
      let before = fine.lanes lane l.0 d l.1 there in
      let tags = before.positions.tags in
      let sized = before.positions.held in
      let under = slice_get-below d.held slot (Some h) held in
      let t = slice_get-there l.0.tags slot (omega (arith, tags, sized, under)) in
      answered-leaves lane slot st l.0 d h t.0 l.1 there t.1 held

  post-by : (left : List ℕ) (lane slot : ℕ) (d : DeviceLane) (h : Held) → slice_get w.device lane ≡ Some d → slice_get d.held slot ≡ Some (Some h)
      → Leaves geometry (guest_of_one (tag_of w lane slot)) w (device_post left geometry.mediator lane slot h d w).world
  post-by [] lane slot d h there held = held-leaves lane slot (held_status h) d h there held
  post-by (number ∷ left) lane slot d h there held = leaves-nothing geometry (guest_of_one (tag_of w lane slot)) w

  pub device_posts-leave : (lane slot : ℕ) → Leaves geometry (guest_of_one (tag_of w lane slot)) w (step geometry (event.DevPost lane slot) w).world
  unfolding step
  device_posts-leave lane slot =
      let nothing = leaves-nothing geometry (guest_of_one (tag_of w lane slot)) w in
      let P = Leaves geometry (guest_of_one (tag_of w lane slot)) w in
      device-walk P w nothing (slice_get w.device lane) _ (λ d there.
      held-walk P w nothing (slice_get d.held slot) (λ h. device_post h.left geometry.mediator lane slot h d w) (λ h held. post-by h.left lane slot d h there held))

  pub device_fails-leave : (lane slot : ℕ) (st : StatusField) → Leaves geometry (guest_of_one (tag_of w lane slot)) w (step geometry (event.DevFail lane slot st) w).world
  unfolding step
  device_fails-leave lane slot st =
      let nothing = leaves-nothing geometry (guest_of_one (tag_of w lane slot)) w in
      let P = Leaves geometry (guest_of_one (tag_of w lane slot)) w in
      device-walk P w nothing (slice_get w.device lane) _ (λ d there.
      held-walk P w nothing (slice_get d.held slot) (λ h. device_fail geometry.mediator lane slot st d w) (λ h held.
      either P w nothing (is_success st) _ _ (λ good. nothing) (λ bad. held-leaves lane slot st d h there held)))

  -- ---- marks

  pub keeps-leave : (block : ℕ) → Leaves geometry None w (step geometry (event.Keep block) w).world
  unfolding step kept_block
  keeps-leave block =
      either (Leaves geometry None w) w (leaves-nothing geometry None w) (nat_le (block + 1) geometry.disk_blocks) _ _
      (λ there. leaves-lanes geometry None w _ refl refl
      (record {
        bytes = (λ at a b. refl);
        area = (λ n g addr a b c. refl);
        blocks = (λ at offset a. refl);
        marks = (λ at out k. raised (at == block) (w.kept at) k);
        controllers = (λ n d. refl);
      }))
      (λ out. leaves-nothing geometry None w)
    where
      raised : (b kept : Bool) → kept ≡ true → cond b true kept ≡ true
      raised true kept k = refl
      raised false kept k = k
