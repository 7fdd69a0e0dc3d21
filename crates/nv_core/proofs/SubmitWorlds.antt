-- A plan that is carried out: in the host, the device and a lane, and in the world.
use Rattle.std.proofs.Common.{◌≡◌, ℕ, true, false, cond, List, [], ◌∷◌, map, set, slice_get, Option, Some, refl, sym, ap, ◌∙◌}
use Rattle.std.proofs.lemmas.List.{map-set}
use Rattle.nv_core.proofs.GroupWorlds.{ended-lane}
use Rattle.nv_core.specs.Groups.{all_ended, all_handed}
use Rattle.nv_core.specs.Submit.{host_behind, host_handed, tags_behind, tail_behind, tail_handed}
use Rattle.nv_entry.specs.StatusCode.{done_with}
use Rattle.nv_entry.specs.declared.status_code.StatusCode.TheVariants.{Success}
use Rattle.nv_laws_sound.proofs.Lists.{set-same, set-set}
use Rattle.nv_laws_sound.proofs.Retags.{with_tag-is}
use Rattle.nv_laws_sound.proofs.SubmitEvents.{submitted-is}
use Rattle.nv_laws_sound.specs.Unplaced.{unplaced, unplaced_lane, unplaced_tag}
use Rattle.nv_model.specs.Queue.{next_slot}
use Rattle.nv_ns.specs.Extents.{Namespace}
use Rattle.nv_world_model.proofs.Seats.{slice_get-set}
use Rattle.nv_world_model.specs.Area.{ring_size}
use Rattle.nv_world_model.specs.Device.{DeviceLane, rung}
use Rattle.nv_world_model.specs.Plan.{Answer, Bounced, Direct, NoData, Plan}
use Rattle.nv_world_model.specs.Seat.{Owner}
use Rattle.nv_world_model.specs.Share.{Share, shares_of}
use Rattle.nv_world_model.specs.ShareArea.{is_no_command, share_written}
use Rattle.nv_world_model.specs.Step.{carry_out, handed_on, submitted_on}
use Rattle.nv_world_model.specs.World.{Command, Ended, Flying, InDevice, Lane, Queued, Tag, World, tag_changed, with_tag}

-- a world with another host, and with a lane put into it, on both sides
abbrev pub put_into : (lane : ℕ) → (host : ℕ → ℕ) → DeviceLane → Lane → World → World
put_into lane host d l w = record w { host = host; device = set w.device lane d; lanes = set w.lanes lane l }

-- as they are in it
pub put-same : (w : World) (lane : ℕ) (d : DeviceLane) (l : Lane) → slice_get w.lanes lane ≡ Some l → slice_get w.device lane ≡ Some d
    → put_into lane w.host d l w ≡ w
put-same w lane d l at there =
    ap (λ (ds : List DeviceLane). let v : World = record w { device = ds; lanes = set w.lanes lane l } in v) (set-same w.device lane d there)
    ∙ ap (λ (ls : List Lane). let v : World = record w { lanes = ls } in v) (set-same w.lanes lane l at)

-- the lane alone
put-lane : (w : World) (lane : ℕ) (d : DeviceLane) (l : Lane) → slice_get w.device lane ≡ Some d
    → put_into lane w.host d l w ≡ (let v : World = record w { lanes = set w.lanes lane l } in v)
put-lane w lane d l there =
    ap (λ (ds : List DeviceLane). let v : World = record w { device = ds; lanes = set w.lanes lane l } in v) (set-same w.device lane d there)

-- twice
put-twice : (w : World) (lane : ℕ) (f g : ℕ → ℕ) (d e : DeviceLane) (l k : Lane) → put_into lane g e k (put_into lane f d l w) ≡ put_into lane g e k w
put-twice w lane f g d e l k =
    ap (λ (ds : List DeviceLane). let v : World = record w { host = g; device = ds; lanes = set (set w.lanes lane l) lane k } in v) (set-set w.device lane d e)
    ∙ ap (λ (ls : List Lane). let v : World = record w { host = g; device = set w.device lane e; lanes = ls } in v) (set-set w.lanes lane l k)

-- ---- lanes that are the same but for places

pub changed-alike : (tag : ℕ) (t u : Tag) (l k : Lane) → unplaced_tag t ≡ unplaced_tag u → unplaced_lane l ≡ unplaced_lane k
    → unplaced_lane (tag_changed tag t l) ≡ unplaced_lane (tag_changed tag u k)
changed-alike tag t u l k tags lanes =
    ap (λ (ts : List Tag). let x : Lane = record l { tags = ts } in x) (map-set unplaced_tag l.tags tag t)
    ∙ ap (λ (x : Lane). let y : Lane = record x { tags = set x.tags tag (unplaced_tag t) } in y) lanes
    ∙ ap (λ (v : Tag). let y : Lane = record k { tags = set (map unplaced_tag k.tags) tag v } in y) tags
    ∙ sym (ap (λ (ts : List Tag). let x : Lane = record k { tags = ts } in x) (map-set unplaced_tag k.tags tag u))

pub put-alike : (lane : ℕ) (host : ℕ → ℕ) (d : DeviceLane) (l k : Lane) (w : World) → unplaced_lane l ≡ unplaced_lane k
    → unplaced (put_into lane host d l w) ≡ unplaced (put_into lane host d k w)
put-alike lane host d l k w same =
    ap (λ (ls : List Lane). let v : World = record w { host = host; device = set w.device lane d; lanes = ls } in v)
    (map-set unplaced_lane w.lanes lane l ∙ ap (set (map unplaced_lane w.lanes) lane) same ∙ sym (map-set unplaced_lane w.lanes lane k))

-- a command that is handed on, and where its entries are: the first in that slot of the submission ring
abbrev all_queued : (tags : List ℕ) → List Share → (at : ℕ) → Command → Lane → Lane
all_queued [] shares at command l = l
all_queued (tag ∷ tags) [] at command l = l
all_queued (tag ∷ tags) (share ∷ shares) at command l =
    cond (is_no_command share) (all_queued tags shares at command (tag_changed tag (Ended command (done_with Success) (Some share)) l))
    (all_queued tags shares (next_slot ring_size at) command (tag_changed tag (Flying command share (Queued at)) l))

queued-alike : (tags : List ℕ) (shares : List Share) (at : ℕ) (command : Command) (l k : Lane) → unplaced_lane l ≡ unplaced_lane k
    → unplaced_lane (all_queued tags shares at command l) ≡ unplaced_lane (all_handed tags shares command k)
queued-alike [] shares at command l k same = same
queued-alike (tag ∷ tags) [] at command l k same = same
queued-alike (tag ∷ tags) (share ∷ shares) at command l k same =
    elim (is_no_command share) as (λ b.
    unplaced_lane (cond b (all_queued tags shares at command (tag_changed tag (Ended command (done_with Success) (Some share)) l))
    (all_queued tags shares (next_slot ring_size at) command (tag_changed tag (Flying command share (Queued at)) l)))
    ≡ unplaced_lane (all_handed tags shares command (tag_changed tag (cond b (Ended command (done_with Success) (Some share)) (Flying command share InDevice)) k))) [
      | true ↦ queued-alike tags shares at command (tag_changed tag (Ended command (done_with Success) (Some share)) l)
          (tag_changed tag (Ended command (done_with Success) (Some share)) k)
          (changed-alike tag (Ended command (done_with Success) (Some share)) (Ended command (done_with Success) (Some share)) l k refl same)
      | false ↦ queued-alike tags shares (next_slot ring_size at) command (tag_changed tag (Flying command share (Queued at)) l)
          (tag_changed tag (Flying command share InDevice) k)
          (changed-alike tag (Flying command share (Queued at)) (Flying command share InDevice) l k refl same)
    ]

-- ---- shares

-- shares that are handed on, each in its tag
pub handed-is : (mediator lane : ℕ) (tags : List ℕ) (shares : List Share) (command : Command) (o : Owner) (w : World) (l : Lane) (d : DeviceLane)
    → slice_get w.lanes lane ≡ Some l → slice_get w.device lane ≡ Some d
    → handed_on mediator lane tags shares command o w
    ≡ put_into lane (host_handed tags shares o.given command.entry mediator lane d.tail w.host) (record d { tail = tail_handed tags shares d.tail })
    (all_queued tags shares d.tail command l) w
unfolding handed_on
handed-is mediator lane [] shares command o w l d at there = sym (put-same w lane d l at there)
handed-is mediator lane (tag ∷ tags) [] command o w l d at there = sym (put-same w lane d l at there)
handed-is mediator lane (tag ∷ tags) (share ∷ shares) command o w l d at there =
    let written : ℕ → ℕ = share_written share o.given command.entry mediator lane tag d.tail w.host in
    let ended : Tag = Ended command (done_with Success) (Some share) in
    let flying : Tag = Flying command share (Queued d.tail) in
    let rest = λ (host : ℕ → ℕ) (e : DeviceLane) (k : Lane).
    handed-is mediator lane tags shares command o (put_into lane host e k w) k e
    (slice_get-set w.lanes lane l k at) (slice_get-set w.device lane d e there)
    ∙ put-twice w lane host (host_handed tags shares o.given command.entry mediator lane e.tail host) e (record e { tail = tail_handed tags shares e.tail }) k
    (all_queued tags shares e.tail command k) in
    elim (is_no_command share) as (λ b.
    handed_on mediator lane tags shares command o (cond b (with_tag lane tag ended w) (submitted_on (slice_get w.device lane) mediator lane tag command share o w))
    ≡ put_into lane (host_handed tags shares o.given command.entry mediator lane (cond b d.tail (next_slot ring_size d.tail)) (cond b w.host written))
    (record d { tail = tail_handed tags shares (cond b d.tail (next_slot ring_size d.tail)) })
    (cond b (all_queued tags shares d.tail command (tag_changed tag ended l))
    (all_queued tags shares (next_slot ring_size d.tail) command (tag_changed tag flying l))) w) [
      | true ↦
          ap (handed_on mediator lane tags shares command o)
          (with_tag-is lane tag ended w l at ∙ sym (put-lane w lane d (tag_changed tag ended l) there))
          ∙ rest w.host d (tag_changed tag ended l)
      | false ↦
          ap (handed_on mediator lane tags shares command o)
          (ap (λ (x : Option DeviceLane). submitted_on x mediator lane tag command share o w) there
          ∙ submitted-is w mediator lane tag command share o l d at there)
          ∙ rest written (rung d) (tag_changed tag flying l)
    ]

-- ---- a plan

abbrev queued_behind : Plan → (tags : List ℕ) → Namespace → Command → (at : ℕ) → Lane → Lane
queued_behind (Answer st) tags ns command at l = all_ended tags command st l
queued_behind (NoData work) tags ns command at l = all_queued tags (shares_of ns command.entry (NoData work)) at command l
queued_behind (Direct work) tags ns command at l = all_queued tags (shares_of ns command.entry (Direct work)) at command l
queued_behind (Bounced work) tags ns command at l = all_queued tags (shares_of ns command.entry (Bounced work)) at command l

behind-alike : (plan : Plan) (tags : List ℕ) (ns : Namespace) (command : Command) (at : ℕ) (l : Lane)
    → unplaced_lane (tags_behind plan tags ns command l) ≡ unplaced_lane (queued_behind plan tags ns command at l)
behind-alike (Answer st) tags ns command at l = refl
behind-alike (NoData work) tags ns command at l = sym (queued-alike tags (shares_of ns command.entry (NoData work)) at command l l refl)
behind-alike (Direct work) tags ns command at l = sym (queued-alike tags (shares_of ns command.entry (Direct work)) at command l l refl)
behind-alike (Bounced work) tags ns command at l = sym (queued-alike tags (shares_of ns command.entry (Bounced work)) at command l l refl)

module _ (w : World) (mediator lane : ℕ) (tags : List ℕ) (command : Command) (o : Owner) (l : Lane) (d : DeviceLane) (at : slice_get w.lanes lane ≡ Some l)
    (there : slice_get w.device lane ≡ Some d) where
  carried-is : (plan : Plan) → put_into lane (host_behind plan tags o.given command.entry mediator lane d.tail w.host)
      (record d { tail = tail_behind plan tags o.given.namespace command.entry d.tail }) (queued_behind plan tags o.given.namespace command d.tail l) w
      ≡ carry_out plan mediator lane tags command o w
  carried-is (Answer st) = put-lane w lane d (all_ended tags command st l) there ∙ sym (ended-lane lane tags command st w l at)
  carried-is (NoData work) = sym (handed-is mediator lane tags (shares_of o.given.namespace command.entry (NoData work)) command o w l d at there)
  carried-is (Direct work) = sym (handed-is mediator lane tags (shares_of o.given.namespace command.entry (Direct work)) command o w l d at there)
  carried-is (Bounced work) = sym (handed-is mediator lane tags (shares_of o.given.namespace command.entry (Bounced work)) command o w l d at there)

  -- what is left of it without places
  pub carried-alike : (plan : Plan) → unplaced (put_into lane (host_behind plan tags o.given command.entry mediator lane d.tail w.host)
      (record d { tail = tail_behind plan tags o.given.namespace command.entry d.tail }) (tags_behind plan tags o.given.namespace command l) w)
      ≡ unplaced (carry_out plan mediator lane tags command o w)
  carried-alike plan =
      put-alike lane (host_behind plan tags o.given command.entry mediator lane d.tail w.host)
      (record d { tail = tail_behind plan tags o.given.namespace command.entry d.tail }) (tags_behind plan tags o.given.namespace command l)
      (queued_behind plan tags o.given.namespace command d.tail l) w (behind-alike plan tags o.given.namespace command d.tail l)
      ∙ ap unplaced (carried-is plan)
