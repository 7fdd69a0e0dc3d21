-- What each event does to the world, and how it is answered. An event that names a guest, lane, tag, slot or queue that can't be is ignored before
-- all else. Of the other replies that apply, the first in the event's rule is given. A reply that reports no change leaves the world as it was
-- (profile).
use Rattle.std.specs.Prelude.{ℕ, ◌+◌, Bool, true, false, ◌&&◌, ◌==◌, nat_le, if◌then◌else◌, List, [], ◌∷◌, ◌++◌, slice_get, Option, Some, None}
use Rattle.std.specs.List.{list_any}
use Rattle.nv_entry.specs.Completion.{cid_of as completed_cid, status_of}
use Rattle.nv_entry.specs.Status.{StatusField}
use Rattle.nv_entry.specs.StatusCode.{done_with}
use Rattle.nv_entry.specs.Submission.{cid_of}
use Rattle.nv_entry.specs.declared.status_code.StatusCode.TheVariants.{InternalError, Success}
use Rattle.nv_mem.specs.GuestMap.{all_mapped}
use Rattle.nv_mem.specs.Places.{places_of, total_len}
use Rattle.nv_model.specs.declared.act.Act.{Act}
use Rattle.nv_model.specs.declared.reply.Reply.{Reply}
use Rattle.nv_model.specs.declared.reply.Reply.TheVariants as reply
use Rattle.nv_model.specs.Admin.{AdminStep, NothingToDo, QueueFull, Stepped, admin}
use Rattle.nv_model.specs.Controller.{Posted, front, is_enabled, post, ran_out, took}
use Rattle.nv_model.specs.Judge.{Work, is_read}
use Rattle.nv_model.specs.Limits.{last_queue, part_size}
use Rattle.nv_model.specs.Memory.{bytes_from, image, scattered, stored}
use Rattle.nv_model.specs.Private.{Acted, Private, acted, marked}
use Rattle.nv_model.specs.Queue.{is_empty, next_slot, sqe_size}
use Rattle.nv_model.specs.Transcript.{Outcome, ReadDone, Settled, Wanted}
use Rattle.nv_world_model.specs.declared.event.Event.{Event}
use Rattle.nv_world_model.specs.declared.event.Event.TheVariants as event
use Rattle.nv_world_model.specs.Area.{bounce_page, ring_size}
use Rattle.nv_world_model.specs.Device.{DeviceLane, Held, completion_posted, completion_written, device_unit, entry_taken, front_entry, held_status, next_phase, rung, unit_gone, with_held}
use Rattle.nv_world_model.specs.Geometry.{Geometry, regions_of, shape_of}
use Rattle.nv_world_model.specs.Plan.{Answer, Bounced, Plan, plan_over}
use Rattle.nv_world_model.specs.Seat.{Owner, completion_at, owner_of, put_back, seat, with_memory}
use Rattle.nv_world_model.specs.Share.{Share, shares_of, tags_of_entry}
use Rattle.nv_world_model.specs.ShareArea.{is_no_command, share_written}
use Rattle.nv_world_model.specs.World.{Answered, Command, Ended, Flying, Free, InDevice, Lane, Queued, Standing, Tag, Taken, World}
use Rattle.nv_world_model.specs.World.{claimed, group, lowest, tag_of, with_controller, with_device, with_host, with_lane, with_tag, with_tags}

-- the world after an event, and the reply
pub record After : Type 0 where
  pub world : World
  pub reply : Reply

abbrev pub replied : Reply → World → After
replied r w = record { world = w; reply = r }

-- ---- what an event names

-- a guest, a lane, or the device's side of a lane, that is there
abbrev pub for_one : {A : Type 0} → Option A → World → (A → After) → After
for_one None w more = replied reply.Ignored w
for_one (Some a) w more = more a

-- the guest of a command; a command of nobody's is at no point
abbrev pub for_owner : Option Owner → World → (Owner → After) → After
for_owner None w more = replied reply.Stale w
for_owner (Some o) w more = more o

-- a command goes by this tag: by another it is at no point
abbrev pub for_leader : (tag : ℕ) → Command → World → After → After
for_leader tag command w done = if command.leader == tag then done else replied reply.Stale w

-- a command that is Taken, by the tag that it goes by
abbrev pub for_taken : (tag : ℕ) → Option Tag → World → (Command → List ReadDone → After) → After
for_taken tag None w more = replied reply.Ignored w
for_taken tag (Some (Taken command reads)) w more = for_leader tag command w (more command reads)
for_taken tag (Some _) w more = replied reply.Stale w

-- a command whose first part is Ended, by the tag that it goes by
abbrev pub for_ended : (tag : ℕ) → Option Tag → World → (Command → After) → After
for_ended tag None w more = replied reply.Ignored w
for_ended tag (Some (Ended command st share)) w more = for_leader tag command w (more command)
for_ended tag (Some _) w more = replied reply.Stale w

-- a slot whose command is in the device
abbrev pub for_held : Option (Option Held) → World → (Held → After) → After
for_held None w more = replied reply.Ignored w
for_held (Some None) w more = replied reply.Idle w
for_held (Some (Some h)) w more = more h

-- ---- a guest's acts

-- only an act that is done changes anything
abbrev pub act_put_back : Reply → Private → Owner → World → After
act_put_back reply.Done p o w = replied reply.Done (put_back o p.memory p.controller w)
act_put_back r p o w = replied r w

abbrev pub acted_by : Acted → Owner → World → After
acted_by done o w = act_put_back done.reply done.state o w

unfoldable pub acted_in : Geometry → Act → Owner → World → After
acted_in geometry a o w = acted_by (acted (shape_of o.given) a (seat geometry o w)) o w

-- ---- Admin

abbrev pub administered_by : AdminStep → Owner → World → After
administered_by NothingToDo o w = replied reply.Idle w
administered_by QueueFull o w = replied reply.Held w
administered_by (Stepped c memory) o w = replied reply.Done (put_back o memory c w)

unfoldable pub administered_in : Owner → World → After
administered_in o w =
    (let shape = shape_of o.given in
    administered_by (admin shape.mapped shape.blocks o.controller (image (regions_of o.given) w.host)) o w)

-- ---- Take

-- the entry at that guest address
abbrev pub entry_at : (addr : ℕ) → Owner → World → List ℕ
entry_at addr o w = bytes_from (image (regions_of o.given) w.host) addr sqe_size

-- it gets these tags, of which it goes by the lowest, and the queue's head moves on
unfoldable pub taken_to : (addr queue lane : ℕ) → (tags : List ℕ) → Owner → World → World
taken_to addr queue lane tags o w =
    (let command : Command = record { guest = o.number; queue = queue; entry = entry_at addr o w; leader = lowest tags } in
    with_tags lane tags (Taken command []) (with_controller o.number (took o.controller queue) w))

abbrev pub take_tags : Option (List ℕ) → (addr queue lane : ℕ) → Owner → World → After
take_tags None addr queue lane o w = replied reply.Busy w
take_tags (Some tags) addr queue lane o w = replied reply.Done (taken_to addr queue lane tags o w)

-- as many tags as the command may become physical commands, the lowest that are free, or none
abbrev pub take_front : Option ℕ → (queue number : ℕ) → Lane → Owner → World → After
take_front None queue number lane o w = replied reply.Idle w
take_front (Some addr) queue number lane o w =
    take_tags (claimed (tags_of_entry o.given.namespace (entry_at addr o w)) lane.tags) addr queue number o w

-- I/O queues are numbered from 1
abbrev pub is_io_queue : (queue : ℕ) → Bool
is_io_queue queue = nat_le 1 queue && nat_le queue last_queue

abbrev pub take_from : (queue number : ℕ) → Lane → Owner → World → After
take_from queue number lane o w =
    if is_io_queue queue then take_front (front o.controller queue) queue number lane o w else replied reply.Ignored w

-- ---- List

-- the bytes join the transcript
unfoldable pub listed : (addr len lane tag : ℕ) → Command → List ReadDone → Owner → World → After
listed addr len lane tag command reads o w =
    (let bytes = bytes_from (image (regions_of o.given) w.host) addr len in
    replied (reply.Bytes bytes) (with_tag lane tag (Taken command (reads ++ record { addr = addr; bytes = bytes } ∷ [])) w))

abbrev pub list_at : (addr len lane tag : ℕ) → Command → List ReadDone → Owner → World → After
list_at addr len lane tag command reads o w =
    if all_mapped (regions_of o.given) addr len then
    (if nat_le 1 len && nat_le len part_size then listed addr len lane tag command reads o w else replied reply.Ignored w)
    else replied reply.Unmapped w

-- ---- Submit and GiveUp

-- the command ends without a physical one: with that status in the tag that it goes by, which is the first of these,
-- and with success in its others
abbrev pub ended_at_once : (lane : ℕ) → (tags : List ℕ) → Command → StatusField → World → World
ended_at_once lane [] command st w = w
ended_at_once lane (tag ∷ tags) command st w =
    with_tags lane tags (Ended command (done_with Success) None) (with_tag lane tag (Ended command st None) w)

-- list, source or ranges, and physical entry of a share are written, and the doorbell is written
unfoldable pub submitted : (mediator lane tag : ℕ) → Command → Share → Owner → DeviceLane → World → World
submitted mediator lane tag command share o d w =
    with_tag lane tag (Flying command share (Queued d.tail))
    (with_device lane rung (with_host (share_written share o.given command.entry mediator lane tag d.tail w.host) w))

abbrev pub submitted_on : Option DeviceLane → (mediator lane tag : ℕ) → Command → Share → Owner → World → World
submitted_on None mediator lane tag command share o w = w
submitted_on (Some d) mediator lane tag command share o w = submitted mediator lane tag command share o d w

-- a share without a range of its Dataset Management is no physical command: it has ended
abbrev pub carried_out : (mediator lane tag : ℕ) → Command → Share → Owner → World → World
carried_out mediator lane tag command share o w =
    if is_no_command share then with_tag lane tag (Ended command (done_with Success) (Some share)) w
    else submitted_on (slice_get w.device lane) mediator lane tag command share o w

-- the shares in order, each in its tag
unfoldable pub handed_on : (mediator lane : ℕ) → (tags : List ℕ) → List Share → Command → Owner → World → World
handed_on mediator lane [] shares command o w = w
handed_on mediator lane (tag ∷ tags) [] command o w = w
handed_on mediator lane (tag ∷ tags) (share ∷ shares) command o w =
    handed_on mediator lane tags shares command o (carried_out mediator lane tag command share o w)

-- an answer, or the shares of a plan
abbrev pub carry_out : Plan → (mediator lane : ℕ) → (tags : List ℕ) → Command → Owner → World → World
carry_out (Answer st) mediator lane tags command o w = ended_at_once lane tags command st w
carry_out plan mediator lane tags command o w =
    handed_on mediator lane tags (shares_of o.given.namespace command.entry plan) command o w

-- a plan that wants more is no plan yet
abbrev pub submit_by : Outcome Plan → (mediator lane : ℕ) → (tags : List ℕ) → Command → Owner → World → After
submit_by (Wanted addr len) mediator lane tags command o w = replied reply.Stale w
submit_by (Settled plan) mediator lane tags command o w =
    replied reply.Done (carry_out plan mediator lane tags command o w)

-- ---- the physical controller

-- a tag that was handed on is there now
abbrev pub standing_at : Option Tag → Standing → (lane tag : ℕ) → World → World
standing_at (Some (Flying command share before)) standing lane tag w = with_tag lane tag (Flying command share standing) w
standing_at _ standing lane tag w = w

abbrev pub stands : Standing → (lane tag : ℕ) → World → World
stands standing lane tag w = standing_at (tag_of w lane tag) standing lane tag w

-- the front entry is taken into the device
unfoldable pub device_took : (lane : ℕ) → (entry : List ℕ) → World → World
device_took lane entry w = stands InDevice lane (cid_of entry) (with_device lane (entry_taken entry w.host) w)

abbrev pub device_take : (mediator lane : ℕ) → DeviceLane → World → After
device_take mediator lane d w =
    if is_empty d.head d.tail then replied reply.Idle w
    else replied reply.Done (device_took lane (front_entry mediator lane d w.host) w)

-- a unit moves, over the whole host and disk
unfoldable pub device_moved : (disk_blocks lane slot number : ℕ) → Held → World → World
device_moved disk_blocks lane slot number h w =
    (let m = device_unit number disk_blocks h w.host w.disk w.kept in
    record (with_device lane (with_held slot (Some (unit_gone number m.differed h))) w) {
      host = m.memory;
      disk = m.disk;
      kept = m.kept;
    })

abbrev pub device_move : (disk_blocks lane slot number : ℕ) → Held → World → After
device_move disk_blocks lane slot number h w =
    if list_any (λ k. k == number) h.left then replied reply.Done (device_moved disk_blocks lane slot number h w)
    else replied reply.Idle w

-- a physical completion
unfoldable pub device_posted : (mediator lane slot : ℕ) → StatusField → DeviceLane → World → World
device_posted mediator lane slot st d w =
    stands (Answered d.posted) lane slot
    (with_device lane (completion_posted slot) (with_host (completion_written mediator lane slot st d w.host) w))

abbrev pub device_post : (left : List ℕ) → (mediator lane slot : ℕ) → Held → DeviceLane → World → After
device_post [] mediator lane slot h d w = replied reply.Done (device_posted mediator lane slot (held_status h) d w)
device_post (number ∷ left) mediator lane slot h d w = replied reply.Idle w

-- success, whatever the other bits say
abbrev pub is_success : StatusField → Bool
is_success st = st.sct == 0 && st.sc == 0

abbrev pub device_fail : (mediator lane slot : ℕ) → StatusField → DeviceLane → World → After
device_fail mediator lane slot st d w =
    if is_success st then replied reply.Ignored w else replied reply.Done (device_posted mediator lane slot st d w)

-- a block becomes kept
unfoldable pub kept_block : (block : ℕ) → World → World
kept_block block w = record w { kept = marked w.kept block true }

abbrev pub keep : (disk_blocks block : ℕ) → World → After
keep disk_blocks block w =
    if nat_le (block + 1) disk_blocks then replied reply.Done (kept_block block w) else replied reply.Idle w

-- ---- Reap

-- the status that the guest gets: a media error as it is, any other failure as Internal Error
abbrev pub passed_on : StatusField → StatusField
passed_on st =
    if is_success st then done_with Success else
    if st.sct == 2 then st else done_with InternalError

-- a tag that was handed on ends with that status
abbrev pub ended_at : Option Tag → StatusField → (lane tag : ℕ) → World → World
ended_at (Some (Flying command share standing)) st lane tag w = with_tag lane tag (Ended command (passed_on st) (Some share)) w
ended_at _ st lane tag w = w

-- the mediator's side of a lane after one more completion
abbrev pub completion_read : Lane → Lane
completion_read lane = record lane { head = next_slot ring_size lane.head; phase = next_phase lane.head lane.phase }

-- the completion ends its tag
unfoldable pub reaped : (lane : ℕ) → (completion : List ℕ) → World → World
reaped lane completion w =
    ended_at (tag_of w lane (completed_cid completion)) (status_of completion) lane (completed_cid completion)
    (with_lane lane completion_read w)

abbrev pub reap : Geometry → (number : ℕ) → Lane → DeviceLane → World → After
reap geometry number lane d w =
    if is_empty lane.head d.posted then replied reply.Idle w
    else replied reply.Done (reaped number (completion_at geometry w number lane.head) w)

-- ---- Post

-- the bytes of a bounced Read, as far as they are this share's, reach the guest, place by place in order
unfoldable pub scattered_to : (bounce : ℕ) → Work → Owner → World → World
scattered_to bounce work o w =
    (let bytes = bytes_from w.host bounce (total_len work.pieces) in
    with_memory o (scattered (image (regions_of o.given) w.host) (places_of work.pieces) bytes) w)

abbrev pub delivered_by : Plan → (bounce : ℕ) → Owner → World → World
delivered_by (Bounced work) bounce o w = if is_read work.opcode then scattered_to bounce work o w else w
delivered_by _ bounce o w = w

abbrev pub delivered_from : Option Tag → (bounce : ℕ) → Owner → World → World
delivered_from (Some (Ended command st (Some share))) bounce o w = delivered_by share.plan bounce o w
delivered_from _ bounce o w = w

-- tag by tag in order
unfoldable pub delivered_all : (mediator lane : ℕ) → (tags : List ℕ) → Owner → World → World
delivered_all mediator lane [] o w = w
delivered_all mediator lane (tag ∷ tags) o w =
    delivered_all mediator lane tags o (delivered_from (tag_of w lane tag) (bounce_page mediator lane tag) o w)

-- only where the command succeeded
abbrev pub delivered : StatusField → (mediator lane : ℕ) → (tags : List ℕ) → Owner → World → World
delivered st mediator lane tags o w = if is_success st then delivered_all mediator lane tags o w else w

-- the completion is in the guest's queue, and the tags are free
unfoldable pub posted_to : Posted → (lane : ℕ) → (tags : List ℕ) → Owner → World → World
posted_to posted lane tags o w =
    with_tags lane tags Free
    (put_back o (stored (image (regions_of o.given) w.host) posted.addr posted.entry) posted.controller w)

-- the command has run out after a reset, and the tags are free
unfoldable pub ran_out_of : (queue lane : ℕ) → (tags : List ℕ) → Owner → World → World
ran_out_of queue lane tags o w = with_tags lane tags Free (with_controller o.number (ran_out o.controller queue) w)

-- where the completion queue is full nothing is delivered either
abbrev pub post_by : Option Posted → StatusField → (mediator lane : ℕ) → (tags : List ℕ) → Owner → World → After
post_by None st mediator lane tags o w = replied reply.Held w
post_by (Some posted) st mediator lane tags o w =
    replied reply.Done (posted_to posted lane tags o (delivered st mediator lane tags o w))

abbrev pub post_at : Command → StatusField → (mediator lane : ℕ) → (tags : List ℕ) → Owner → World → After
post_at command st mediator lane tags o w =
    if is_enabled o.controller
    then post_by (post o.controller command.queue 0 (cid_of command.entry) st) st mediator lane tags o w
    else replied reply.Done (ran_out_of command.queue lane tags o (delivered st mediator lane tags o w))

-- the status of a tag that has ended
abbrev pub ended_status : Option Tag → Option StatusField
ended_status (Some (Ended command st share)) = Some st
ended_status _ = None

-- those of tags that have all ended, in order
abbrev pub status_before : Option StatusField → Option (List StatusField) → Option (List StatusField)
status_before None sts = None
status_before (Some st) None = None
status_before (Some st) (Some sts) = Some (st ∷ sts)

unfoldable pub statuses_of : (lane : ℕ) → (tags : List ℕ) → World → Option (List StatusField)
statuses_of lane [] w = Some []
statuses_of lane (tag ∷ tags) w = status_before (ended_status (tag_of w lane tag)) (statuses_of lane tags w)

-- the first that isn't success decides
abbrev pub deciding : List StatusField → StatusField
deciding [] = done_with Success
deciding (st ∷ sts) = if is_success st then deciding sts else st

-- a command some tag of which has not ended is not at this point yet
abbrev pub post_all : Option (List StatusField) → Command → (mediator lane : ℕ) → (tags : List ℕ) → Owner → World → After
post_all None command mediator lane tags o w = replied reply.Stale w
post_all (Some sts) command mediator lane tags o w = post_at command (deciding sts) mediator lane tags o w

-- ---- the step

-- an event
unfoldable pub step : Geometry → Event → World → After
step geometry (event.Guest guest a) w = for_one (owner_of geometry w guest) w (λ o. acted_in geometry a o w)
step geometry (event.Admin guest) w = for_one (owner_of geometry w guest) w (λ o. administered_in o w)
step geometry (event.Take guest queue lane) w =
    for_one (owner_of geometry w guest) w (λ o.
    for_one (slice_get w.lanes lane) w (λ l. take_from queue lane l o w))
step geometry (event.List lane tag addr len) w =
    for_taken tag (tag_of w lane tag) w (λ command reads.
    for_owner (owner_of geometry w command.guest) w (λ o. list_at addr len lane tag command reads o w))
step geometry (event.Submit lane tag) w =
    for_taken tag (tag_of w lane tag) w (λ command reads.
    for_owner (owner_of geometry w command.guest) w (λ o.
    for_one (slice_get w.device lane) w (λ d.
    submit_by (plan_over o.given command.entry reads) geometry.mediator lane (group w lane tag) command o w)))
step geometry (event.GiveUp lane tag) w =
    for_taken tag (tag_of w lane tag) w (λ command reads.
    replied reply.Done (ended_at_once lane (group w lane tag) command (done_with InternalError) w))
step geometry (event.DevTake lane) w =
    for_one (slice_get w.device lane) w (λ d. device_take geometry.mediator lane d w)
step geometry (event.DevMove lane slot number) w =
    for_one (slice_get w.device lane) w (λ d.
    for_held (slice_get d.held slot) w (λ h. device_move geometry.disk_blocks lane slot number h w))
step geometry (event.DevPost lane slot) w =
    for_one (slice_get w.device lane) w (λ d.
    for_held (slice_get d.held slot) w (λ h. device_post h.left geometry.mediator lane slot h d w))
step geometry (event.DevFail lane slot st) w =
    for_one (slice_get w.device lane) w (λ d.
    for_held (slice_get d.held slot) w (λ h. device_fail geometry.mediator lane slot st d w))
step geometry (event.Keep block) w = keep geometry.disk_blocks block w
step geometry (event.Reap lane) w =
    for_one (slice_get w.lanes lane) w (λ l.
    for_one (slice_get w.device lane) w (λ d. reap geometry lane l d w))
step geometry (event.Post lane tag) w =
    for_ended tag (tag_of w lane tag) w (λ command.
    for_owner (owner_of geometry w command.guest) w (λ o.
    (let tags = group w lane tag in
    post_all (statuses_of lane tags w) command geometry.mediator lane tags o w)))

-- ---- logs

-- the world after these events, in order
unfoldable pub replay : Geometry → List Event → World → World
replay geometry [] w = w
replay geometry (e ∷ events) w = replay geometry events (step geometry e w).world

-- their replies
unfoldable pub replies : Geometry → List Event → World → List Reply
replies geometry [] w = []
replies geometry (e ∷ events) w = (step geometry e w).reply ∷ replies geometry events (step geometry e w).world

-- ---- what replies report

-- whether a reply is Done
abbrev pub is_done : Reply → Bool
is_done reply.Done = true
is_done _ = false

-- whether a reply reports a change, or bytes
abbrev pub is_telling : Reply → Bool
is_telling reply.Done = true
is_telling (reply.Bytes bytes) = true
is_telling _ = false
