-- A lane of the device, looked up and changed
use Rattle.std.proofs.Common.{◌≡◌, ℕ, zero, suc, ◌+◌, ◌<◌, ◌≤◌, Bool, List, [], ◌∷◌, length, sym, ap, subst, ◌∙◌, arith, set, get_or}
use Rattle.nv_entry.specs.Completion.{completion}
use Rattle.nv_entry.specs.Status.{StatusField}
use Rattle.nv_mem.specs.Bytes.{after_store}
use Rattle.nv_model.specs.Memory.{byte_in, stored}
use Rattle.nv_model.proofs.MemoryLemmas.{stored-list}
use Rattle.nv_world_model.specs.Area.{completion_slot, queue_pair}
use Rattle.nv_world_model.specs.Device.{DeviceLane, completion_written}
use Rattle.nv_device.specs.Physical.{lane_of, no_lane, with_lane}
use Rattle.nv_device.specs.State.{Physical}

-- what stands at an index that is there, whatever is said of the others
pub got : {X : Type 0} (xs : List X) (i : ℕ) (x other : X) → i < length xs → x ≡ get_or xs i x → x ≡ get_or xs i other
got [] i x other within is = absurd (omega arith)
got (y ∷ xs) zero x other within is = is
got (y ∷ xs) (suc i) x other within is = got xs i x other (omega arith) is

-- a lane that was looked up
pub lane-got : (p : Physical) (lane i : ℕ) (d : DeviceLane) → i ≡ lane → lane < length p.lanes → d ≡ get_or p.lanes i d → d ≡ lane_of p lane
lane-got p lane i d same within is =
    let there : i < length p.lanes = omega arith in
    got p.lanes i d no_lane there is ∙ ap (λ (k : ℕ). get_or p.lanes k no_lane) same

-- a lane that was looked up and changed
pub lane-changed : (p : Physical) (lane i : ℕ) (d new : DeviceLane) (change : DeviceLane → DeviceLane) → i ≡ lane → lane < length p.lanes
    → d ≡ get_or p.lanes i d → new ≡ change d
    → (let r : Physical = record p { lanes = set p.lanes i new } in r) ≡ with_lane lane (change (lane_of p lane)) p
lane-changed p lane i d new change same within is changed =
    ap (λ (k : ℕ). let r : Physical = record p { lanes = set p.lanes k new } in r) same
    ∙ ap (λ (l : DeviceLane). with_lane lane l p) (changed ∙ ap change (lane-got p lane i d same within is))

-- a completion that is stored
pub completion-stored : (host : List ℕ) (mediator lane slot addr : ℕ) (st : StatusField) (d : DeviceLane) (bytes : List ℕ)
    → addr + length bytes ≤ length host → addr ≡ completion_slot mediator lane d.posted
    → bytes ≡ completion 0 d.head (queue_pair lane) slot d.phase st
    → byte_in (after_store host addr bytes) ≡ completion_written mediator lane slot st d (byte_in host)
unfolding byte_in completion_written
completion-stored host mediator lane slot addr st d bytes inside at is =
    sym (stored-list host addr bytes inside)
    ∙ ap (λ (a : ℕ). stored (byte_in host) a bytes) at
    ∙ ap (stored (byte_in host) (completion_slot mediator lane d.posted)) is

-- completions whose fields are equal
pub same-completion : (head head2 queue queue2 cid cid2 : ℕ) (phase phase2 : Bool) (st : StatusField) → head ≡ head2 → queue ≡ queue2 → cid ≡ cid2 → phase ≡ phase2
    → completion 0 head queue cid phase st ≡ completion 0 head2 queue2 cid2 phase2 st
same-completion head head2 queue queue2 cid cid2 phase phase2 st heads queues cids phases =
    ap (λ (h : ℕ). completion 0 h queue cid phase st) heads
    ∙ ap (λ (q : ℕ). completion 0 head2 q cid phase st) queues
    ∙ ap (λ (i : ℕ). completion 0 head2 queue2 i phase st) cids
    ∙ ap (λ (p : Bool). completion 0 head2 queue2 cid2 p st) phases

-- a lane of a device that was looked up in its fields
pub lane-seen : (p inside : Physical) (lane i : ℕ) (d : DeviceLane) → inside ≡ p → i ≡ lane → lane < length p.lanes → d ≡ get_or inside.lanes i d → d ≡ lane_of p lane
lane-seen p inside lane i d view same within is =
    let L : Physical → Type 0 = λ q. lane < length q.lanes in
    lane-got inside lane i d same (subst L (sym view) within) is ∙ ap (λ (q : Physical). lane_of q lane) view
