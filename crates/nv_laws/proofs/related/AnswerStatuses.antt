-- What the device answers where it posts the completion of a command all of whose units have moved.
use Rattle.std.proofs.Common.{◌≡◌, ℕ, ◌^◌, ◌<◌, List, [], slice_get, Option, Some, None, refl, sym, ap, ◌∙◌, subst}
use Rattle.std.specs.List.{filter_map}
use Rattle.nv_entry.proofs.CompletionLemmas.{length-completion}
use Rattle.nv_entry.specs.Completion.{completion, status_of}
use Rattle.nv_entry.specs.Status.{StatusField}
use Rattle.nv_model.specs.Judge.{Work}
use Rattle.nv_model.specs.Memory.{bytes_from, stored}
use Rattle.nv_model.specs.Private.{moved_status}
use Rattle.nv_model.specs.Queue.{cqe_size}
use Rattle.nv_world_model.specs.Area.{completion_slot, queue_pair}
use Rattle.nv_world_model.specs.Device.{DeviceLane, Held, completion_written, held_status}
use Rattle.nv_world_model.specs.Plan.{Plan}
use Rattle.nv_world_model.specs.Share.{Share}
use Rattle.nv_world_model.specs.Seat.{held_rest, numbers_behind, numbers_by, rest, tells_difference, work_of}
use Rattle.nv_laws_sound.proofs.Shows.{shows-stored}
use Rattle.nv_laws.specs.Related.{IsMovedStatus, NoReadDiffers}
use Rattle.nv_laws.proofs.related.Statuses.{moved-back, moved-tells, units_behind-none}

-- the status of a command all of whose units have moved is such a status
pub held-well : (plan : Plan) (h : Held) → NoReadDiffers plan h.differed → IsMovedStatus plan (held_status h)
held-well plan h none =
    record {
      status = ap moved_status (sym (moved-tells h.differed));
      no_read = (λ work has read. moved-tells h.differed ∙ none work has read);
    }

-- it is the status that stands in its completion
pub answer-status : (mediator lane tag : ℕ) (h : Held) (d : DeviceLane) (host : ℕ → ℕ) → tag < 2 ^ 16
    → status_of (bytes_from (completion_written mediator lane tag (held_status h) d host) (completion_slot mediator lane d.posted) cqe_size) ≡ held_status h
unfolding completion_written
answer-status mediator lane tag h d host below =
    ap status_of
    (subst (λ n. bytes_from (stored host (completion_slot mediator lane d.posted) bytes) (completion_slot mediator lane d.posted) n ≡ bytes)
    (length-completion 0 d.head (queue_pair lane) tag d.phase (held_status h)) (shows-stored host (completion_slot mediator lane d.posted) bytes))
    ∙ moved-back 0 d.head (queue_pair lane) tag d.phase h.differed below
  where
    bytes : List ℕ
    bytes = completion 0 d.head (queue_pair lane) tag d.phase (held_status h)

numbers-none : (o : Option Work) (numbers : List ℕ) → numbers_by o numbers [] ≡ []
numbers-none None numbers = refl
numbers-none (Some work) numbers = ap (filter_map (slice_get numbers)) (units_behind-none work)

-- what has come of a share none of whose units is left is what its status tells
pub none-left-rest : (h : Held) (share : Share) (st : StatusField) → h.left ≡ [] → st ≡ held_status h
    → held_rest (Some h) share ≡ rest [] (tells_difference st)
none-left-rest h share st none is =
    ap (λ left. rest (numbers_behind share left) h.differed) none
    ∙ ap (λ numbers. rest numbers h.differed) (numbers-none (work_of share.plan) share.numbers)
    ∙ sym (ap (rest []) (ap tells_difference is ∙ moved-tells h.differed))
