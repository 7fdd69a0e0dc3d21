-- The private controller of a guest goes along where the device answers the guest's command: no step is made.
use Rattle.std.proofs.Common.{◌≡◌, ℕ, ◌+◌, ◌<◌, ◌≤◌, ◌⊎◌, inl, inr, Bool, true, ◌==◌, List, [], ◌∷◌, length}
use Rattle.std.proofs.Common.{set, slice_get, Option, Some, None, arith, refl, sym, ap, ◌∙◌, eq-eqb, subst}
use Rattle.std.proofs.lemmas.Bool.{cases_lt}
use Rattle.std.specs.List.{filter_map, list_any}
use Rattle.nv_entry.proofs.CompletionLemmas.{length-completion}
use Rattle.nv_entry.specs.Completion.{completion, status_of}
use Rattle.nv_mem.proofs.Images.{guest_of-host}
use Rattle.nv_mem.specs.GuestMap.{guest_of}
use Rattle.nv_model.proofs.MemoryLemmas.{bytes_from-stored, stored-outside}
use Rattle.nv_model.specs.Judge.{Work}
use Rattle.nv_model.specs.Limits.{most_bytes}
use Rattle.nv_model.specs.Memory.{bytes_from, image, stored}
use Rattle.nv_model.specs.Private.{Private, moved_status}
use Rattle.nv_model.specs.Queue.{cqe_size}
use Rattle.nv_model.specs.declared.reply.Reply.TheVariants as reply
use Rattle.nv_world_model.specs.declared.event.Event.TheVariants as event
use Rattle.nv_world_model.specs.Area.{bounce_page, completion_slot, queue_pair, ring_size}
use Rattle.nv_world_model.specs.Contained.{guest_of_one, owner, tag_stands}
use Rattle.nv_world_model.specs.Device.{DeviceLane, Held, completion_posted, completion_written, held_status, next_phase}
use Rattle.nv_world_model.specs.Geometry.{Geometry, Guest, regions_of}
use Rattle.nv_world_model.specs.Plan.{Plan}
use Rattle.nv_world_model.specs.Share.{Share}
use Rattle.nv_world_model.specs.Seat.{held_by, held_in, numbers_behind, numbers_by, rest, tells_difference, work_of}
use Rattle.nv_world_model.specs.Step.{device_post, device_posted, replied, step}
use Rattle.nv_world_model.specs.World.{Answered, Flying, InDevice, Lane, Tag, World, tag_changed, tag_in, tag_of}
use Rattle.nv_world_model.proofs.Seats.{slice_get-set}
use Rattle.nv_laws_sound.specs.Consistent.{IsPlanned, waits_for_mediator}
use Rattle.nv_laws_sound.proofs.AnswerEvents.{answer-undisturbed, written-elsewhere, written-same}
use Rattle.nv_laws_sound.proofs.Lists.{count-fewer, slice_get-below, slice_get-there, some-same}
use Rattle.nv_laws_sound.proofs.MoveEvents.{held-flies}
use Rattle.nv_laws_sound.proofs.Retags.{stands-is}
use Rattle.nv_laws_sound.proofs.Rings.{far}
use Rattle.nv_laws.proofs.others.Behind.{retagged-by}
use Rattle.nv_laws.proofs.others.Leaving.{bytes-elsewhere}
use Rattle.nv_laws.proofs.others.Parts.{held-put}
use Rattle.nv_laws.specs.Following.{GoesAlong, IsReached}
use Rattle.nv_laws.specs.Related.{IsMovedStatus, IsUnderWay, NoReadDiffers, Related, plan_hides}
use Rattle.nv_laws.proofs.related.Statuses.{moved-back, moved-tells, units_behind-none}
use Rattle.nv_laws.proofs.related.Goings.{dull-goes, none-goes}
use Rattle.nv_laws.proofs.related.Views.{status_in, under_way-kept}
use Rattle.nv_laws.proofs.related.Within.{planned-fit}
use Rattle.nv_laws.proofs.related.Ways.{device-way, held-way}
use Rattle.nv_laws.proofs.units.Lies.{image-same}
use Rattle.nv_laws.proofs.headline.Retagged.{retagged}

is-moved : (plan : Plan) (differed : Bool) → NoReadDiffers plan differed → IsMovedStatus plan (moved_status differed)
is-moved plan differed none =
    record {
      status = ap moved_status (sym (moved-tells differed));
      no_read = (λ work is read. moved-tells differed ∙ none work is read);
    }

-- where none of the device's units is left, none of the share's is
none-by : (o : Option Work) (numbers : List ℕ) → numbers_by o numbers [] ≡ []
none-by None numbers = refl
none-by (Some work) numbers = ap (filter_map (slice_get numbers)) (units_behind-none work)

pub none-behind : (share : Share) → numbers_behind share [] ≡ []
none-behind share = none-by (work_of share.plan) share.numbers

module _ (host_bytes : ℕ) (geometry : Geometry) (number : ℕ) (guest : Guest) (given : slice_get geometry.guests number ≡ Some guest)
    (w : World) (reached : IsReached host_bytes geometry w) (p : Private) (related : Related geometry number guest w p) where
  -- ---- completions that are posted

  -- a completion is written to no guest's memory
  slot-apart : (lane posted addr x len : ℕ) → len ≡ cqe_size → lane < length w.lanes → posted < ring_size → guest_of (regions_of guest) x ≡ Some addr
      → (x < completion_slot geometry.mediator lane posted) ⊎ (completion_slot geometry.mediator lane posted + len ≤ x)
  slot-apart lane posted addr x len sized below posted_below there =
      elim (cases_lt x (completion_slot geometry.mediator lane posted)) [
        | inl low ↦ inl low
        | inr from ↦ elim (cases_lt x (completion_slot geometry.mediator lane posted + len)) [
          | inr behind ↦ inr behind
          | inl within ↦
              (let none = reached.laid.outside number guest x given (omega (arith, from)) (omega (arith, within, sized, below, posted_below)) in
              let bad : Some addr ≡ None = sym there ∙ none in
              cc)
        ]
      ]

  completion-image : (lane posted : ℕ) (bytes : List ℕ) → length bytes ≡ cqe_size → lane < length w.lanes → posted < ring_size
      → image (regions_of guest) w.host ≡ image (regions_of guest) (stored w.host (completion_slot geometry.mediator lane posted) bytes)
  completion-image lane posted bytes sized below posted_below =
      sym
      (image-same (regions_of guest) w.host (stored w.host (completion_slot geometry.mediator lane posted) bytes)
      (λ addr x lies.
      stored-outside w.host (completion_slot geometry.mediator lane posted) bytes x
      (slot-apart lane posted addr x (length bytes) sized below posted_below
      (guest_of-host (regions_of guest) addr x (reached.laid.given number guest given).sound.apart lies))))

  posted-related : (lane tag : ℕ) (l : Lane) (d : DeviceLane) (h : Held) (t : Tag) → slice_get w.lanes lane ≡ Some l → slice_get w.device lane ≡ Some d
      → slice_get l.tags tag ≡ Some t → slice_get d.held tag ≡ Some (Some h) → h.left ≡ [] → guest_of_one (tag_of w lane tag) ≡ Some number
      → Related geometry number guest (device_posted geometry.mediator lane tag (held_status h) d w) p
  unfolding device_posted completion_written
  posted-related lane tag l d h t at there found held none own =
      let before = reached.consistent.of_tags.lanes lane l d at there in
      let lane_below = slice_get-below w.lanes lane l at in
      let holds = held-flies geometry lane tag w.host l.head d h t (before.tags tag t (Some h) found held) in
      let command = holds.command in
      let share = holds.share in
      let was = Flying command share InDevice in
      let new = Flying command share (Answered d.posted) in
      let flies : slice_get l.tags tag ≡ Some was = found ∙ ap (λ x. Some x) holds.flies in
      let here : tag_of w lane tag ≡ Some was = ap (λ o. tag_in o tag) at ∙ flies in
      let whose : command.guest ≡ number = some-same command.guest number (sym (ap guest_of_one here) ∙ own) in
      let same_guest : holds.guest ≡ guest = some-same holds.guest guest (sym holds.is.given ∙ ap (slice_get geometry.guests) whose ∙ given) in
      let mine : (command.guest == number) ≡ true = eq-eqb command.guest number whose in
      let planned : IsPlanned guest command.entry share = subst (λ g. IsPlanned g command.entry share) same_guest holds.planned in
      let tags = before.positions.tags in
      let among = slice_get-below l.tags tag was flies in
      let waiting = count-fewer (tag_stands waits_for_mediator) l.tags tag was flies refl in
      let many = before.answered_count in
      let room : far l.head d.posted < 64 = omega (arith, waiting, many, tags) in
      let posted_below = before.positions.posted in
      let bytes = completion 0 d.head (queue_pair lane) tag d.phase (held_status h) in
      let sized = length-completion 0 d.head (queue_pair lane) tag d.phase (held_status h) in
      let slot = completion_slot geometry.mediator lane d.posted in
      let memory = stored w.host slot bytes in
      let bounce = bounce_page geometry.mediator lane tag in
      let shown : bytes_from memory slot cqe_size ≡ bytes = subst (λ n. bytes_from memory slot n ≡ bytes) sized (bytes_from-stored w.host slot bytes) in
      let z = record w { host = memory; lanes = set w.lanes lane (tag_changed tag new l); device = set w.device lane (completion_posted tag d) } in
      let read : status_in geometry z lane d.posted ≡ moved_status h.differed =
      ap status_of shown ∙ moved-back 0 d.head (queue_pair lane) tag d.phase h.differed (omega (arith, among, tags)) in
      let same = completion-image lane d.posted bytes sized lane_below posted_below in
      subst (λ x. Related geometry number guest x p) (sym (stands-is w lane tag l d command share InDevice (Answered d.posted) memory (completion_posted tag) at there flies))
      (retagged host_bytes geometry number guest given w reached lane tag command share InDevice (Answered d.posted) here mine (Some h) None z
      (retagged-by w z lane tag l (tag_changed tag new l) d (completion_posted tag d) was new at there flies refl refl refl (λ b apart. held-put d.held tag None b apart))
      (ap (λ o. held_in o tag) there ∙ ap held_by held)
      (ap (λ o. held_in o tag) (slice_get-set w.device lane d (completion_posted tag d) there) ∙ ap held_by (slice_get-set d.held tag (Some h) None held))
      (bytes-elsewhere geometry w memory lane tag l.head l d (completion_posted tag d) reached.consistent.of_tags at there
      (written-elsewhere geometry (length w.lanes) lane w.host d bytes sized lane_below posted_below)
      (λ b x apart b_below is.
      answer-undisturbed geometry (length w.lanes) lane w.host d bytes sized lane_below posted_below b l.head (set d.held tag None) (next_phase d.posted d.phase) x
      b_below before.positions.read before.positions.head before.positions.tail room))
      p related same refl refl refl
      (ap (λ ns. rest ns h.differed) (ap (numbers_behind share) none ∙ none-behind share)
      ∙ sym (ap (λ s. rest [] (tells_difference s)) read ∙ ap (rest []) (moved-tells h.differed)))
      (λ addr e. ap (λ ns. plan_hides share.plan (λ k. list_any (λ n. n == k) ns) addr) none ∙ e)
      (λ rel. (
        subst (λ ns. IsUnderWay guest command.entry share (λ k. list_any (λ n. n == k) ns) bounce memory p.memory) none
            (under_way-kept guest bounce w.host memory p.memory same
            (written-same geometry (length w.lanes) lane w.host d bytes sized lane_below posted_below bounce (bounce + most_bytes) (inr (omega (arith, posted_below))))
            command.entry share (λ k. list_any (λ n. n == k) h.left) (planned-fit guest command.entry share planned) rel.0),
        subst (IsMovedStatus share.plan) (sym read) (is-moved share.plan h.differed rel.1),
      )))

  pub posts-go : (lane slot : ℕ) → owner (event.DevPost lane slot) w ≡ Some number
      → GoesAlong geometry number guest (event.DevPost lane slot) w p (step geometry (event.DevPost lane slot) w)
  unfolding step
  posts-go lane slot mine =
      let P = GoesAlong geometry number guest (event.DevPost lane slot) w p in
      let dull = dull-goes geometry number guest (event.DevPost lane slot) w p refl related in
      device-way P w dull (slice_get w.device lane) _ (λ d there.
      held-way P w dull (slice_get d.held slot) (λ h. device_post h.left geometry.mediator lane slot h d w) (λ h held. by_left h.left d h there held refl))
    where
      by_left : (left : List ℕ) (d : DeviceLane) (h : Held) → slice_get w.device lane ≡ Some d → slice_get d.held slot ≡ Some (Some h) → h.left ≡ left
          → GoesAlong geometry number guest (event.DevPost lane slot) w p (device_post left geometry.mediator lane slot h d w)
      by_left (k ∷ left) d h there held some = dull-goes geometry number guest (event.DevPost lane slot) w p refl related reply.Idle refl
      by_left [] d h there held none =
          let among = slice_get-below w.device lane d there in
          let sides = reached.consistent.of_tags.sides in
          let l = slice_get-there w.lanes lane (omega (arith, among, sides)) in
          let before = reached.consistent.of_tags.lanes lane l.0 d l.1 there in
          let tags = before.positions.tags in
          let sized = before.positions.held in
          let under = slice_get-below d.held slot (Some h) held in
          let t = slice_get-there l.0.tags slot (omega (arith, tags, sized, under)) in
          none-goes geometry number guest (event.DevPost lane slot) w p refl (replied reply.Done (device_posted geometry.mediator lane slot (held_status h) d w)) refl
          (posted-related lane slot l.0 d h t.0 l.1 there t.1 held none mine)
