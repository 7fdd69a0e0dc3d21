-- A command's shares, each handed on in its tag: what is kept share by share, and what the tags have then.
use Rattle.std.proofs.Common.{◌≡◌, ℕ, Bool, true, false, cond, ◌==◌, List, [], ◌∷◌, length, map, set, slice_get, Option, Some, None}
use Rattle.std.proofs.Common.{refl, sym, ap, ◌∙◌, subst}
use Rattle.std.specs.List.{All}
use Rattle.std.proofs.lemmas.List.{length-map}
use Rattle.std.proofs.lemmas.List.Elements.{All-cons, All-head, All-nil, All-tail}
use Rattle.nv_entry.specs.Status.{StatusField}
use Rattle.nv_entry.specs.StatusCode.{done_with}
use Rattle.nv_entry.specs.declared.status_code.StatusCode.TheVariants.{Success}
use Rattle.nv_mem.specs.declared.region.Region.{Region}
use Rattle.nv_model.specs.Judge.{Clear, Form, Keep, Manage, Transfer, Work}
use Rattle.nv_model.specs.Transcript.{ReadDone}
use Rattle.nv_prp.specs.Fits.{places_fit}
use Rattle.nv_world_model.specs.Device.{DeviceLane, rung}
use Rattle.nv_world_model.specs.Geometry.{Geometry, Guest}
use Rattle.nv_world_model.specs.Plan.{Answer, Bounced, Direct, Plan, go_plan}
use Rattle.nv_world_model.specs.Share.{Share, shares_of, tags_of_entry}
use Rattle.nv_world_model.proofs.Seats.{slice_get-set}
use Rattle.nv_world_model.specs.ShareArea.{is_no_command, share_written}
use Rattle.nv_world_model.specs.Seat.{Owner}
use Rattle.nv_world_model.specs.Step.{carried_out, handed_on, submitted, submitted_on}
use Rattle.nv_world_model.specs.World.{Command, Ended, Flying, Lane, Queued, Tag, Taken, World, group, tag_changed, tag_of, with_device, with_host, with_tag}
use Rattle.nv_laws_sound.specs.Groups.{AllHanded, Handed, Part, command_of, part_of, parts_of}
use Rattle.nv_laws_sound.proofs.Folds.{HasTag, group-numbers, have-other, parts-set, tag_of-other}
use Rattle.nv_laws_sound.proofs.GroupsKept.{HasGroups, groups-set, put-groups}
use Rattle.nv_laws_sound.proofs.Lists.{set-same, set-set, some-same}
use Rattle.nv_laws_sound.proofs.Numbers.{AreDistinct, puts}
use Rattle.nv_laws_sound.proofs.Planned.{IsWhole, shares-count}
use Rattle.nv_laws_sound.proofs.Retags.{with_tag-is}
use Rattle.nv_laws_sound.proofs.Stages.{group-count, leader-at, reading}
use Rattle.nv_laws_sound.proofs.SubmitEvents.{submitted-is}
use Rattle.nv_laws_sound.proofs.TagEvents.{IsTakenBy}

-- an answer is no plan of a command that goes
pub no-answer : (st : StatusField) (form : Form) (regions : List Region) (work : Work) → Answer st ≡ go_plan form regions work → ⊥
no-answer st (Transfer dest) regions work e =
    (elim (places_fit regions work.pieces) as (λ b. Answer st ≡ cond b (Direct work) (Bounced work) → ⊥) [ true ↦ λ bad. cc | false ↦ λ bad. cc ]) e
no-answer st Clear regions work e = cc
no-answer st Manage regions work e = cc
no-answer st Keep regions work e = cc

-- ---- one share

-- the tag has that share, nothing else of the lanes is other, and the lane has its device's side
pub record IsCarried (w z : World) (lane tag : ℕ) (l : Lane) (command : Command) (share : Share) : Type 0 where
  pub now : Tag
  pub lanes : z.lanes ≡ set w.lanes lane (tag_changed tag now l)
  pub part : part_of now ≡ Handed command share
  pub d : DeviceLane
  pub device : slice_get z.device lane ≡ Some d

pub carried-is : (w : World) (mediator lane tag : ℕ) (command : Command) (share : Share) (o : Owner) (l : Lane) (d : DeviceLane)
    → slice_get w.lanes lane ≡ Some l → slice_get w.device lane ≡ Some d
    → IsCarried w (carried_out mediator lane tag command share o w) lane tag l command share
carried-is w mediator lane tag command share o l d at there = by (is_no_command share)
  where
    by : (b : Bool) → IsCarried w (cond b (with_tag lane tag (Ended command (done_with Success) (Some share)) w)
        (submitted_on (slice_get w.device lane) mediator lane tag command share o w)) lane tag l command share
    by true =
        let now : Tag = Ended command (done_with Success) (Some share) in
        let same = with_tag-is lane tag now w l at in
        record { now = now; lanes = ap (λ (z : World). z.lanes) same; part = refl; d = d; device = ap (λ (z : World). slice_get z.device lane) same ∙ there }
    by false =
        let same = ap (λ x. submitted_on x mediator lane tag command share o w) there ∙ submitted-is w mediator lane tag command share o l d at there in
        record {
          now = Flying command share (Queued d.tail);
          lanes = ap (λ (z : World). z.lanes) same;
          part = refl;
          d = rung d;
          device = ap (λ (z : World). slice_get z.device lane) same ∙ slice_get-set w.device lane d (rung d) there;
        }

-- a share is carried out in its tag, and leaves the other tags
submitted-other : (w : World) (mediator lane tag other : ℕ) (command : Command) (share : Share) (o : Owner) (d : DeviceLane) → (other == tag) ≡ false
    → tag_of (submitted mediator lane tag command share o d w) lane other ≡ tag_of w lane other
unfolding submitted
submitted-other w mediator lane tag other command share o d apart =
    let written = share_written share o.given command.entry mediator lane tag d.tail w.host in
    tag_of-other (with_device lane rung (with_host written w)) lane tag other (Flying command share (Queued d.tail)) apart

pub share-other : (w : World) (mediator lane tag other : ℕ) (command : Command) (share : Share) (o : Owner) → (other == tag) ≡ false
    → tag_of (carried_out mediator lane tag command share o w) lane other ≡ tag_of w lane other
share-other w mediator lane tag other command share o apart = by (is_no_command share)
  where
    on : (d : Option DeviceLane) → tag_of (submitted_on d mediator lane tag command share o w) lane other ≡ tag_of w lane other
    on None = refl
    on (Some d) = submitted-other w mediator lane tag other command share o d apart

    by : (b : Bool) → tag_of (cond b (with_tag lane tag (Ended command (done_with Success) (Some share)) w)
        (submitted_on (slice_get w.device lane) mediator lane tag command share o w)) lane other ≡ tag_of w lane other
    by true = tag_of-other w lane tag other (Ended command (done_with Success) (Some share)) apart
    by false = on (slice_get w.device lane)

-- ---- all shares

-- what each share of a command keeps that waits in its tag, all keep
pub handed-fold : (P : World → Type 0) (Q : Share → Type 0) (mediator lane : ℕ) (command : Command) (o : Owner)
    → ((z : World) (tag : ℕ) (t : Tag) (share : Share) → tag_of z lane tag ≡ Some t → IsTakenBy command t → Q share → P z
    → P (carried_out mediator lane tag command share o z))
    → (tags : List ℕ) (shares : List Share) (w : World) → All (HasTag (IsTakenBy command) w lane) tags → AreDistinct tags → All Q shares → P w
    → P (handed_on mediator lane tags shares command o w)
unfolding handed_on
handed-fold P Q mediator lane command o each [] shares w have apart all is = is
handed-fold P Q mediator lane command o each (tag ∷ tags) [] w have apart all is = is
handed-fold P Q mediator lane command o each (tag ∷ tags) (share ∷ shares) w have apart all is =
    let h = All-head (HasTag (IsTakenBy command) w lane) tag tags have in
    let z : World = carried_out mediator lane tag command share o w in
    handed-fold P Q mediator lane command o each tags shares z
    (have-other (IsTakenBy command) w z lane tag tags (λ other differ. share-other w mediator lane tag other command share o differ) apart.0
    (All-tail (HasTag (IsTakenBy command) w lane) tag tags have)) apart.1 (All-tail Q share shares all)
    (each w tag h.t share h.is h.has (All-head Q share shares all) is)

-- the tags of the lane, whose parts are the shares
pub record IsHanded (w z : World) (lane : ℕ) (l : Lane) (ns : List ℕ) (command : Command) (shares : List Share) : Type 0 where
  pub tags : List Tag
  pub lanes : z.lanes ≡ set w.lanes lane (record l { tags = tags })
  pub parts : parts_of tags ≡ puts ns (map (Handed command) shares) (parts_of l.tags)

unhanded : (w : World) (lane : ℕ) (l : Lane) → slice_get w.lanes lane ≡ Some l → w.lanes ≡ set w.lanes lane (record l { tags = l.tags })
unhanded w lane l at = sym (set-same w.lanes lane l at)

pub handed_on-is : (mediator lane : ℕ) (tags : List ℕ) (shares : List Share) (command : Command) (o : Owner) (w : World) (l : Lane) (d : DeviceLane)
    → slice_get w.lanes lane ≡ Some l → slice_get w.device lane ≡ Some d
    → IsHanded w (handed_on mediator lane tags shares command o w) lane l tags command shares
unfolding handed_on
handed_on-is mediator lane [] shares command o w l d at there = record { tags = l.tags; lanes = unhanded w lane l at; parts = refl }
handed_on-is mediator lane (tag ∷ tags) [] command o w l d at there = record { tags = l.tags; lanes = unhanded w lane l at; parts = refl }
handed_on-is mediator lane (tag ∷ tags) (share ∷ shares) command o w l d at there =
    let z : World = carried_out mediator lane tag command share o w in
    let c = carried-is w mediator lane tag command share o l d at there in
    let one : Lane = tag_changed tag c.now l in
    let here : slice_get z.lanes lane ≡ Some one = ap (λ ls. slice_get ls lane) c.lanes ∙ slice_get-set w.lanes lane l one at in
    let h = handed_on-is mediator lane tags shares command o z one c.d here c.device in
    record {
      tags = h.tags;
      lanes = h.lanes ∙ ap (λ ls. set ls lane (record l { tags = h.tags })) c.lanes ∙ set-set w.lanes lane one (record l { tags = h.tags });
      parts =
          h.parts ∙ ap (puts tags (map (Handed command) shares)) (parts-set l.tags tag c.now)
          ∙ ap (λ p. puts tags (map (Handed command) shares) (set (parts_of l.tags) tag p)) c.part;
    }

all-handed : (command : Command) (shares : List Share) → All (λ v. command_of v ≡ Some command) (map (Handed command) shares)
all-handed command [] = All-nil (λ v. command_of v ≡ Some command)
all-handed command (share ∷ shares) =
    All-cons (λ v. command_of v ≡ Some command) (Handed command share) (map (Handed command) shares) refl (all-handed command shares)

-- a plan's shares in the tags of the command that they are of are a group
pub handed-groups : (geometry : Geometry) (w : World) (lane leader : ℕ) (l : Lane) (d : DeviceLane) (command : Command) (reads : List ReadDone) (o : Owner)
    (plan : Plan) → HasGroups geometry w.lanes → slice_get w.lanes lane ≡ Some l → slice_get w.device lane ≡ Some d
    → tag_of w lane leader ≡ Some (Taken command reads) → command.leader ≡ leader → slice_get geometry.guests command.guest ≡ Some o.given
    → IsWhole o.given command.entry plan
    → HasGroups geometry (handed_on geometry.mediator lane (group w lane leader) (shares_of o.given.namespace command.entry plan) command o w).lanes
handed-groups geometry w lane leader l d command reads o plan groups at there found leads given whole =
    let is = groups lane l at in
    let shares : List Share = shares_of o.given.namespace command.entry plan in
    let ns = group w lane leader in
    let h = handed_on-is geometry.mediator lane ns shares command o w l d at there in
    let spelled = group-numbers w lane leader l at in
    let group_is = reading geometry w lane leader l command reads at is found leads in
    let same : o.given ≡ group_is.guest = some-same o.given group_is.guest (sym given ∙ group_is.given) in
    let vs : List Part = map (Handed command) shares in
    let count : length vs ≡ length ns =
    length-map shares (Handed command) ∙ shares-count o.given command.entry plan whole
    ∙ ap (λ (g : Guest). tags_of_entry g.namespace command.entry) same
    ∙ sym (group-count geometry w lane leader l command reads at is found leads) in
    let grouped = put-groups geometry w lane leader l command (Taken command reads) groups at
    (leader-at geometry w lane leader l command reads at is found leads) refl leads vs h.tags
    (h.parts ∙ ap (λ ks. puts ks vs (parts_of l.tags)) spelled) (count ∙ ap length spelled) (all-handed command shares)
    (λ guest whose. AllHanded plan (ap (λ (g : Guest). map (Handed command) (shares_of g.namespace command.entry plan))
    (some-same o.given guest (sym given ∙ whose)))) in
    subst (HasGroups geometry) (sym h.lanes) (groups-set geometry w.lanes lane (record l { tags = h.tags }) groups grouped)
