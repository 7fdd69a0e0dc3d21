-- The mediator as a machine without memory. An event of a guest or of the mediator fetches bytes of the host; with these bytes and the mediator's side it
-- comes to a side, a reply, and effects in memory, in order. Neither the host's memory nor the physical controller is in it. Each event's rule is the one in
-- `Step`, which has its sections of the standard (profile).
use Rattle.std.specs.Prelude.{ℕ, ◌+◌, Bool, true, false, not, ◌&&◌, ◌==◌, nat_le, if◌then◌else◌, List, [], ◌∷◌, ◌++◌, drop, flat_map, length, replicate, slice_get, slice_index, take, Option, Some, None, is_none}
use Rattle.std.specs.List.{range_with_len}
use Rattle.nv_entry.specs.Completion.{cid_of as completed_cid, phase_of, sqid_of, status_of}
use Rattle.nv_entry.specs.Opcode.{admin_opcode}
use Rattle.nv_entry.specs.Status.{StatusField, bit}
use Rattle.nv_entry.specs.StatusCode.{done_with}
use Rattle.nv_entry.specs.Submission.{cid_of, fuse_of, opcode_of, psdt_of}
use Rattle.nv_entry.specs.declared.opcode.AdminOpcode.{AdminOpcode}
use Rattle.nv_entry.specs.declared.opcode.AdminOpcode.TheVariants.{Identify}
use Rattle.nv_entry.specs.declared.status_code.StatusCode.TheVariants.{InternalError, Success}
use Rattle.nv_laws_sound.specs.Side.{Side}
use Rattle.nv_machine.specs.Doing.{Called, Doing, controller_put, for_ended, for_one, for_owner, for_taken, group_at, lane_changed, owner_in, replied, stray}
use Rattle.nv_machine.specs.Doing.{tag_at, tag_put, tags_put, tail_put, told}
use Rattle.nv_machine.specs.Effects.{Effect, Store, completion_stores, copies_from, copies_to, hosts_from, stores}
use Rattle.nv_mem.specs.GuestMap.{all_mapped}
use Rattle.nv_mem.specs.Places.{addresses, places_of}
use Rattle.nv_mem.specs.declared.region.Region.{Region}
use Rattle.nv_model.specs.Admin.{Hidden, Shown, Structure, admin_command, identify_reading, is_queue_full, shown}
use Rattle.nv_model.specs.Controller.{Controller, Deletion, Posted, completion_queue, doorbell, front, is_enabled, is_ready, post, ran_out, reg_read, reg_write}
use Rattle.nv_model.specs.Controller.{took, with_submission}
use Rattle.nv_model.specs.Judge.{Form, Manage, Transfer, Work, form_of, is_read}
use Rattle.nv_model.specs.Limits.{part_size}
use Rattle.nv_model.specs.Queue.{next_slot, sqe_size}
use Rattle.nv_model.specs.Reading.{Reading, Spells}
use Rattle.nv_model.specs.Transcript.{Outcome, ReadDone, Settled, Wanted}
use Rattle.nv_model.specs.declared.act.Act.{Act}
use Rattle.nv_model.specs.declared.act.Act.TheVariants as act
use Rattle.nv_model.specs.declared.reply.Reply.TheVariants as reply
use Rattle.nv_entry.specs.Layout.{number_bytes}
use Rattle.nv_world_model.specs.Area.{bounce_page, completion_slot, list_bytes, list_page, prps_of, queue_pair, ring_size, submission_slot, translated_range}
use Rattle.nv_world_model.specs.Geometry.{Geometry, Guest, regions_of, shape_of}
use Rattle.nv_world_model.specs.Plan.{Answer, Bounced, Plan, plan_over}
use Rattle.nv_world_model.specs.Seat.{Owner}
use Rattle.nv_world_model.specs.Share.{Share, shares_of, tags_of_entry}
use Rattle.nv_world_model.specs.ShareArea.{is_no_command, share_entry}
use Rattle.nv_world_model.specs.Step.{completion_read, deciding, ended_status, is_io_queue, is_success, passed_on, status_before}
use Rattle.nv_world_model.specs.World.{Command, Ended, Flying, Free, Lane, Queued, Tag, Taken, claimed, lowest}
use Rattle.nv_world_model.specs.declared.event.Event.{Event}
use Rattle.nv_world_model.specs.declared.event.Event.TheVariants as event

-- ---- what is fetched: host addresses, a byte of each, in order

abbrev pub from_one : {A : Type 0} → Option A → (A → List ℕ) → List ℕ
from_one None addresses = []
from_one (Some a) addresses = addresses a

-- the entry at the front of a queue
abbrev pub front_entry : Owner → (queue : ℕ) → List ℕ
front_entry o queue = from_one (front o.controller queue) (λ addr. hosts_from (regions_of o.given) addr sqe_size)

-- an admin command is fetched where no deletion waits and its completion can be posted
abbrev pub admin_fetch : Owner → List ℕ
admin_fetch o = if is_none o.controller.deletion && not (is_queue_full (completion_queue o.controller 0)) then front_entry o 0 else []

abbrev pub act_fetch : Act → Owner → List ℕ
act_fetch (act.Load addr len) o = if all_mapped (regions_of o.given) addr len then hosts_from (regions_of o.given) addr len else []
act_fetch _ o = []

-- a part of a list, by the tag that its command goes by
abbrev pub list_fetch : Geometry → Side → (addr len tag : ℕ) → Option Tag → List ℕ
list_fetch geometry s addr len tag (Some (Taken command reads)) = from_one (owner_in geometry s command.guest) (λ o.
    if command.leader == tag && all_mapped (regions_of o.given) addr len && nat_le 1 len && nat_le len part_size
    then hosts_from (regions_of o.given) addr len else [])
list_fetch geometry s addr len tag _ = []

-- of a physical completion the dword with its phase tag is fetched first
unfoldable pub fetch : Geometry → Event → Side → List ℕ
fetch geometry (event.Guest guest a) s = from_one (owner_in geometry s guest) (λ o. act_fetch a o)
fetch geometry (event.Admin guest) s = from_one (owner_in geometry s guest) (λ o. admin_fetch o)
fetch geometry (event.Take guest queue lane) s = from_one (owner_in geometry s guest) (λ o.
    from_one (slice_get s.lanes lane) (λ l. if is_io_queue queue then front_entry o queue else []))
fetch geometry (event.List lane tag addr len) s = list_fetch geometry s addr len tag (tag_at s lane tag)
fetch geometry (event.Reap lane) s = from_one (slice_get s.lanes lane) (λ l. range_with_len (completion_slot geometry.mediator lane l.head + 12) 4)
fetch geometry _ s = []

-- whether a completion has the phase tag that the lane wants, by its last dword
abbrev pub is_new : Lane → (dword : List ℕ) → Bool
is_new l dword = phase_of (replicate 12 0 ++ dword) == bit l.phase

-- what is fetched then, and behind the bytes that were fetched first: of a physical completion the other 12 bytes, where its phase tag is the wanted one
unfoldable pub fetch_then : Geometry → Event → Side → (first : List ℕ) → List ℕ
fetch_then geometry (event.Reap lane) s first = from_one (slice_get s.lanes lane) (λ l.
    if is_new l first then range_with_len (completion_slot geometry.mediator lane l.head) 12 else [])
fetch_then geometry _ s first = []

-- ---- a guest's acts

abbrev pub controlled : Option Controller → Owner → Doing → Called
controlled new o m = for_one new m (λ c. replied reply.Done (controller_put o.number c m))

abbrev pub acted_in : Act → (fetched : List ℕ) → Owner → Doing → Called
acted_in (act.Store addr bytes) fetched o m = if all_mapped (regions_of o.given) addr (length bytes)
    then replied reply.Done (told (stores (regions_of o.given) (addresses addr (length bytes)) bytes) m) else replied reply.Unmapped m
acted_in (act.Load addr len) fetched o m = if all_mapped (regions_of o.given) addr len then replied (reply.Bytes fetched) m else replied reply.Unmapped m
acted_in (act.RegRead offset) fetched o m = for_one (reg_read o.controller offset) m (λ value. replied (reply.Bytes (number_bytes 4 value)) m)
acted_in (act.RegWrite offset value) fetched o m = controlled (reg_write (shape_of o.given).mapped o.controller offset value) o m
acted_in (act.Doorbell offset value) fetched o m = controlled (doorbell o.controller offset value) o m

-- ---- Admin

-- what Identify stores: its structure, where the command's data pointer says
abbrev pub structure_stores : List ℕ → Reading → List Region → List Effect
structure_stores bytes (Spells pieces) regions = stores regions (places_of pieces) bytes
structure_stores bytes _ regions = []

abbrev pub shown_stores : Shown → (entry : List ℕ) → Guest → List Effect
shown_stores (Hidden why) entry given = []
shown_stores (Structure bytes) entry given = structure_stores bytes (identify_reading (shape_of given).mapped entry) (regions_of given)

-- no other admin command stores anything but its completion
abbrev pub opcode_stores : Option AdminOpcode → (entry : List ℕ) → Guest → List Effect
opcode_stores (Some Identify) entry given = if psdt_of entry == 0 then shown_stores (shown (shape_of given).blocks entry) entry given else []
opcode_stores _ entry given = []

abbrev pub admin_stores : (entry : List ℕ) → Guest → List Effect
admin_stores entry given = if fuse_of entry == 0 then opcode_stores (admin_opcode (opcode_of entry)) entry given else []

-- a command that was carried out: its stores, and its completion, where it is completed now
abbrev pub completed_with : Option Posted → List Effect → Owner → Doing → Called
completed_with None effects o m = replied reply.Held m
completed_with (Some p) effects o m =
    replied reply.Done (told (effects ++ completion_stores (regions_of o.given) p.addr p.entry) (controller_put o.number p.controller m))

abbrev pub answered_with : Option (ℕ × StatusField) → (cid : ℕ) → Controller → List Effect → Owner → Doing → Called
answered_with None cid c effects o m = replied reply.Done (told effects (controller_put o.number c m))
answered_with (Some answer) cid c effects o m = completed_with (post c 0 answer.0 cid answer.1) effects o m

-- the admin commands are those of the private controller; none of them depends on memory
abbrev pub front_done : Option ℕ → (entry : List ℕ) → Owner → Doing → Called
front_done None entry o m = replied reply.Idle m
front_done (Some addr) entry o m = if is_queue_full (completion_queue o.controller 0) then replied reply.Held m else
    (let done = admin_command (shape_of o.given).mapped (shape_of o.given).blocks entry (took o.controller 0) (λ at. 0) in
    answered_with done.answer (cid_of entry) done.controller (admin_stores entry o.given) o m)

abbrev pub deletion_done : Deletion → Owner → Doing → Called
deletion_done d o m = if not (slice_index o.controller.taken d.queue == 0) then replied reply.Idle m else
    if is_queue_full (completion_queue o.controller 0) then replied reply.Held m else
    answered_with (Some (0, done_with Success)) d.cid (record (with_submission o.controller d.queue None) { deletion = None }) [] o m

abbrev pub ready_done : Option Deletion → (entry : List ℕ) → Owner → Doing → Called
ready_done (Some d) entry o m = deletion_done d o m
ready_done None entry o m = front_done (front o.controller 0) entry o m

abbrev pub administered_in : (entry : List ℕ) → Owner → Doing → Called
administered_in entry o m = if is_ready o.controller then ready_done o.controller.deletion entry o m else replied reply.Idle m

-- ---- Take

abbrev pub take_tags : Option (List ℕ) → (queue lane : ℕ) → (entry : List ℕ) → Owner → Doing → Called
take_tags None queue lane entry o m = replied reply.Busy m
take_tags (Some tags) queue lane entry o m = (let command : Command = record { guest = o.number; queue = queue; entry = entry; leader = lowest tags } in
    replied reply.Done (tags_put lane tags (Taken command []) (controller_put o.number (took o.controller queue) m)))

abbrev pub take_front : Option ℕ → (queue number : ℕ) → Lane → (entry : List ℕ) → Owner → Doing → Called
take_front None queue number lane entry o m = replied reply.Idle m
take_front (Some addr) queue number lane entry o m = take_tags (claimed (tags_of_entry o.given.namespace entry) lane.tags) queue number entry o m

abbrev pub take_from : (queue number : ℕ) → Lane → (entry : List ℕ) → Owner → Doing → Called
take_from queue number lane entry o m = if is_io_queue queue then take_front (front o.controller queue) queue number lane entry o m else replied reply.Ignored m

-- ---- List

abbrev pub list_at : (addr len lane tag : ℕ) → (fetched : List ℕ) → Command → List ReadDone → Owner → Doing → Called
list_at addr len lane tag fetched command reads o m = if all_mapped (regions_of o.given) addr len then (if nat_le 1 len && nat_le len part_size then
    replied (reply.Bytes fetched) (tag_put lane tag (Taken command (reads ++ record { addr = addr; bytes = fetched } ∷ [])) m)
    else replied reply.Ignored m) else replied reply.Unmapped m

-- ---- Submit and GiveUp

abbrev pub ended_at_once : (lane : ℕ) → (tags : List ℕ) → Command → StatusField → Doing → Doing
ended_at_once lane [] command st m = m
ended_at_once lane (tag ∷ tags) command st m = tags_put lane tags (Ended command (done_with Success) None) (tag_put lane tag (Ended command st None) m)

-- what goes to a tag's bounce pages: the source of a Write or Compare, or the ranges of a Dataset Management as the disk has them
abbrev pub form_effects : Form → Guest → (bounce : ℕ) → Work → List Effect
form_effects (Transfer dest) given bounce work = if dest then [] else copies_from (regions_of given) (places_of work.pieces) bounce
form_effects Manage given bounce work = Store bounce (flat_map (translated_range given.namespace) work.ranges) ∷ []
form_effects _ given bounce work = []

abbrev pub bounce_effects : Plan → Guest → (bounce : ℕ) → List Effect
bounce_effects (Bounced work) given bounce = form_effects (form_of work.opcode) given bounce work
bounce_effects _ given bounce = []

-- the list of a share, its source or ranges, and then its physical entry
abbrev pub share_effects : Share → Guest → (entry : List ℕ) → (mediator lane tag slot : ℕ) → List Effect
share_effects share given entry mediator lane tag slot =
    Store (list_page mediator lane tag) (list_bytes (prps_of share.plan given (list_page mediator lane tag) (bounce_page mediator lane tag)))
    ∷ bounce_effects share.plan given (bounce_page mediator lane tag)
    ++ Store (submission_slot mediator lane slot) (share_entry share given.namespace given entry mediator lane tag) ∷ []

abbrev pub submitted : (mediator lane tag : ℕ) → Command → Share → Owner → (tail : ℕ) → Doing → Doing
submitted mediator lane tag command share o tail m = tag_put lane tag (Flying command share (Queued tail))
    (tail_put lane (next_slot ring_size tail) (told (share_effects share o.given command.entry mediator lane tag tail) m))

abbrev pub submitted_on : Option ℕ → (mediator lane tag : ℕ) → Command → Share → Owner → Doing → Doing
submitted_on None mediator lane tag command share o m = m
submitted_on (Some tail) mediator lane tag command share o m = submitted mediator lane tag command share o tail m

abbrev pub carried_out : (mediator lane tag : ℕ) → Command → Share → Owner → Doing → Doing
carried_out mediator lane tag command share o m = if is_no_command share then tag_put lane tag (Ended command (done_with Success) (Some share)) m
    else submitted_on (slice_get m.side.tails lane) mediator lane tag command share o m

unfoldable pub handed_on : (mediator lane : ℕ) → (tags : List ℕ) → List Share → Command → Owner → Doing → Doing
handed_on mediator lane [] shares command o m = m
handed_on mediator lane (tag ∷ tags) [] command o m = m
handed_on mediator lane (tag ∷ tags) (share ∷ shares) command o m =
    handed_on mediator lane tags shares command o (carried_out mediator lane tag command share o m)

abbrev pub carry_out : Plan → (mediator lane : ℕ) → (tags : List ℕ) → Command → Owner → Doing → Doing
carry_out (Answer st) mediator lane tags command o m = ended_at_once lane tags command st m
carry_out plan mediator lane tags command o m = handed_on mediator lane tags (shares_of o.given.namespace command.entry plan) command o m

abbrev pub submit_by : Outcome Plan → (mediator lane : ℕ) → (tags : List ℕ) → Command → Owner → Doing → Called
submit_by (Wanted addr len) mediator lane tags command o m = replied reply.Stale m
submit_by (Settled plan) mediator lane tags command o m = replied reply.Done (carry_out plan mediator lane tags command o m)

-- ---- Reap

-- a completion of which the last dword was fetched first
abbrev pub in_order : (fetched : List ℕ) → List ℕ
in_order fetched = drop 4 fetched ++ take 4 fetched

abbrev pub ended_at : Option Tag → StatusField → (lane tag : ℕ) → Doing → Doing
ended_at (Some (Flying command share standing)) st lane tag m = tag_put lane tag (Ended command (passed_on st) (Some share)) m
ended_at _ st lane tag m = m

abbrev pub is_flying : Option Tag → Bool
is_flying (Some (Flying command share standing)) = true
is_flying _ = false

-- it names a command that was handed on, by the lane's queue and a tag
abbrev pub names_command : (number : ℕ) → Lane → (completion : List ℕ) → Bool
names_command number l completion = sqid_of completion == queue_pair number && is_flying (slice_get l.tags (completed_cid completion))

abbrev pub reaped_by : (number : ℕ) → Lane → (completion : List ℕ) → Doing → Called
reaped_by number l completion m = if names_command number l completion
    then replied reply.Done (ended_at (slice_get l.tags (completed_cid completion)) (status_of completion) number (completed_cid completion)
    (lane_changed number completion_read m)) else stray m

abbrev pub reap : (number : ℕ) → Lane → (fetched : List ℕ) → Doing → Called
reap number l fetched m = if is_new l (take 4 fetched) then reaped_by number l (in_order fetched) m else replied reply.Idle m

-- ---- Post

abbrev pub delivered_by : Plan → (bounce : ℕ) → Guest → List Effect
delivered_by (Bounced work) bounce given = if is_read work.opcode then copies_to (regions_of given) bounce (places_of work.pieces) else []
delivered_by _ bounce given = []

abbrev pub delivered_from : Option Tag → (bounce : ℕ) → Guest → List Effect
delivered_from (Some (Ended command st (Some share))) bounce given = delivered_by share.plan bounce given
delivered_from _ bounce given = []

-- tag by tag, where the command succeeded
abbrev pub delivery : StatusField → (mediator lane : ℕ) → (tags : List ℕ) → Guest → Side → List Effect
delivery st mediator lane tags given s =
    if is_success st then flat_map (λ tag. delivered_from (tag_at s lane tag) (bounce_page mediator lane tag) given) tags else []

abbrev pub post_by : Option Posted → (delivered : List Effect) → (lane : ℕ) → (tags : List ℕ) → Owner → Doing → Called
post_by None delivered lane tags o m = replied reply.Held m
post_by (Some p) delivered lane tags o m = replied reply.Done (tags_put lane tags Free
    (controller_put o.number p.controller (told (delivered ++ completion_stores (regions_of o.given) p.addr p.entry) m)))

abbrev pub post_at : Command → StatusField → (delivered : List Effect) → (lane : ℕ) → (tags : List ℕ) → Owner → Doing → Called
post_at command st delivered lane tags o m =
    if is_enabled o.controller then post_by (post o.controller command.queue 0 (cid_of command.entry) st) delivered lane tags o m
    else replied reply.Done (tags_put lane tags Free (controller_put o.number (ran_out o.controller command.queue) (told delivered m)))

unfoldable pub statuses_of : (lane : ℕ) → (tags : List ℕ) → Side → Option (List StatusField)
statuses_of lane [] s = Some []
statuses_of lane (tag ∷ tags) s = status_before (ended_status (tag_at s lane tag)) (statuses_of lane tags s)

abbrev pub post_all : Option (List StatusField) → Command → (mediator lane : ℕ) → (tags : List ℕ) → Owner → Doing → Called
post_all None command mediator lane tags o m = replied reply.Stale m
post_all (Some sts) command mediator lane tags o m = post_at command (deciding sts) (delivery (deciding sts) mediator lane tags o.given m.side) lane tags o m

-- ---- the call

-- what an event comes to, with the bytes that were fetched for it; the physical controller's are none of the mediator's
unfoldable pub called : Geometry → Event → (fetched : List ℕ) → Doing → Called
called geometry (event.Guest guest a) fetched m = for_one (owner_in geometry m.side guest) m (λ o. acted_in a fetched o m)
called geometry (event.Admin guest) fetched m = for_one (owner_in geometry m.side guest) m (λ o. administered_in fetched o m)
called geometry (event.Take guest queue lane) fetched m = for_one (owner_in geometry m.side guest) m (λ o.
    for_one (slice_get m.side.lanes lane) m (λ l. take_from queue lane l fetched o m))
called geometry (event.List lane tag addr len) fetched m = for_taken tag (tag_at m.side lane tag) m (λ command reads.
    for_owner (owner_in geometry m.side command.guest) m (λ o. list_at addr len lane tag fetched command reads o m))
called geometry (event.Submit lane tag) fetched m = for_taken tag (tag_at m.side lane tag) m (λ command reads.
    for_owner (owner_in geometry m.side command.guest) m (λ o. for_one (slice_get m.side.tails lane) m (λ tail.
    submit_by (plan_over o.given command.entry reads) geometry.mediator lane (group_at m.side lane tag) command o m)))
called geometry (event.GiveUp lane tag) fetched m = for_taken tag (tag_at m.side lane tag) m (λ command reads.
    replied reply.Done (ended_at_once lane (group_at m.side lane tag) command (done_with InternalError) m))
called geometry (event.Reap lane) fetched m = for_one (slice_get m.side.lanes lane) m (λ l. reap lane l fetched m)
called geometry (event.Post lane tag) fetched m = for_ended tag (tag_at m.side lane tag) m (λ command.
    for_owner (owner_in geometry m.side command.guest) m (λ o. (let tags = group_at m.side lane tag in
    post_all (statuses_of lane tags m.side) command geometry.mediator lane tags o m)))
called geometry _ fetched m = replied reply.Ignored m

-- a call of the mediator with that side
abbrev pub call : Geometry → Event → (fetched : List ℕ) → Side → Called
call geometry e fetched s = called geometry e fetched (record { side = s; effects = [] })
