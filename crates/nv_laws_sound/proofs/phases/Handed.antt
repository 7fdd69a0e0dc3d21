-- A command is handed on, share by share, each in a tag of its own: this keeps the phase tags of the completion rings.
use Rattle.std.proofs.Common.{◌≡◌, ℕ, ◌<◌, ◌⊎◌, inl, inr, Bool, true, false, cond, List, [], ◌∷◌, length, slice_get, Option, Some, None, arith, refl, sym, subst}
use Rattle.std.specs.Prelude.{◌≢◌}
use Rattle.std.specs.Bool.{⊤}
use Rattle.std.specs.List.{All}
use Rattle.std.proofs.lemmas.Bool.{cases_eq, ne_eqb}
use Rattle.std.proofs.lemmas.List.Elements.{All-head, All-tail, All-weaker}
use Rattle.nv_entry.specs.StatusCode.{done_with}
use Rattle.nv_entry.specs.declared.status_code.StatusCode.TheVariants.{Success}
use Rattle.nv_model.specs.Transcript.{Outcome, ReadDone, Settled, Wanted}
use Rattle.nv_world_model.specs.Area.{completion_slot, ring_size, tag_count}
use Rattle.nv_world_model.specs.Device.{DeviceLane, rung}
use Rattle.nv_world_model.specs.Geometry.{Geometry}
use Rattle.nv_world_model.specs.Plan.{Answer, Bounced, Direct, NoData, Plan, plan_over}
use Rattle.nv_world_model.specs.Seat.{Owner}
use Rattle.nv_world_model.specs.Share.{Share, shares_of}
use Rattle.nv_world_model.specs.ShareArea.{is_no_command, share_written}
use Rattle.nv_world_model.specs.Step.{carried_out, carry_out, handed_on, submit_by, submitted, submitted_on}
use Rattle.nv_world_model.specs.World.{Command, Ended, Flying, Queued, Tag, Taken, World, group, tag_of, with_device, with_host, with_tag}
use Rattle.nv_laws_sound.specs.Consistent.{IsConsistent, IsPlanned}
use Rattle.nv_laws_sound.specs.LaidOut.{IsLaidOut}
use Rattle.nv_laws_sound.proofs.Folds.{HasTag, group-has}
use Rattle.nv_laws_sound.proofs.Lists.{slice_get-below, slice_get-there}
use Rattle.nv_laws_sound.proofs.Planned.{Answers, IsAnswerOr, IsWhole, Plans, plan_over-is, shares-planned}
use Rattle.nv_laws_sound.proofs.Retags.{is-at}
use Rattle.nv_laws_sound.proofs.Rings.{next-below}
use Rattle.nv_laws_sound.proofs.SubmitEvents.{entered-elsewhere, entered-same}
use Rattle.nv_laws_sound.specs.Phased.{ArePhased}
use Rattle.nv_laws_sound.proofs.phases.Events.{ended-phased}
use Rattle.nv_laws_sound.proofs.phases.Kept.{SameRing, changed-one, phased-device, phased-host, phased-tag, ring-of-lane}

-- the device's places are slots of its rings
record AreSlots (d : DeviceLane) : Type 0 where
  tail : d.tail < ring_size
  posted : d.posted < ring_size

-- so they are in each lane
abbrev HaveSlots : World → Type 0
HaveSlots w = (lane : ℕ) (d : DeviceLane) → slice_get w.device lane ≡ Some d → AreSlots d

slots-rung : (lane : ℕ) (w : World) → HaveSlots w → HaveSlots (with_device lane rung w)
slots-rung lane w have n d there =
    let was = changed-one (λ (x y : DeviceLane). AreSlots x → AreSlots y) w.device lane rung (λ x slots. slots)
    (λ x slots. record { tail = next-below x.tail slots.tail; posted = slots.posted }) n d there in
    was.alike (have n was.was was.there)

module _ (host_bytes : ℕ) (geometry : Geometry) (lanes : ℕ) (laid : IsLaidOut host_bytes lanes geometry) (lane : ℕ) (command : Command) (o : Owner) where
  -- what each share keeps
  abbrev Keeps : World → Type 0
  Keeps z = ArePhased geometry z × HaveSlots z

  submitted-kept : (tag : ℕ) (share : Share) (d : DeviceLane) (z : World) → tag < tag_count → IsPlanned o.given command.entry share
      → slice_get z.device lane ≡ Some d → Keeps z → Keeps (submitted geometry.mediator lane tag command share o d z)
  unfolding submitted share_written
  submitted-kept tag share d z tag_below planned device keeps =
      let slots = keeps.1 lane d device in
      let tail_below : d.tail < ring_size = slots.tail in
      let memory = share_written share o.given command.entry geometry.mediator lane tag d.tail z.host in
      let rings : (n : ℕ) → (n ≡ lane) ⊎ (n ≢ lane) → SameRing geometry n z.host memory =
      λ n choice. elim choice [
        | inl here ↦ subst (λ m. SameRing geometry m z.host memory) (sym here)
            (entered-same host_bytes lanes geometry laid o.given command.entry share planned lane tag d.tail tag_below tail_below z.host
            (completion_slot geometry.mediator lane 0) (completion_slot geometry.mediator lane ring_size)
            (inr (omega (arith, tail_below))) (inl (omega arith)))
        | inr apart ↦ ring-of-lane geometry n z.host memory
            (entered-elsewhere host_bytes lanes geometry laid o.given command.entry share planned lane tag d.tail tag_below tail_below z.host n (ne_eqb n lane apart))
      ] in (
        phased-tag geometry lane tag (Flying command share (Queued d.tail)) (with_device lane rung (with_host memory z))
            (phased-device geometry lane rung (with_host memory z) (λ x. (refl, refl))
            (phased-host geometry z memory (λ n below. rings n (cases_eq n lane)) (λ n x there. (keeps.1 n x there).posted) keeps.0)),
        slots-rung lane (with_host memory z) keeps.1,
      )

  handed-kept : (device : Option DeviceLane) (tag : ℕ) (share : Share) (z : World) → slice_get z.device lane ≡ device → tag < tag_count
      → IsPlanned o.given command.entry share → Keeps z → Keeps (submitted_on device geometry.mediator lane tag command share o z)
  handed-kept None tag share z at tag_below planned keeps = keeps
  handed-kept (Some d) tag share z at tag_below planned keeps = submitted-kept tag share d z tag_below planned at keeps

  carried-kept : (b : Bool) (tag : ℕ) (share : Share) (z : World) → tag < tag_count → IsPlanned o.given command.entry share → Keeps z
      → Keeps (cond b (with_tag lane tag (Ended command (done_with Success) (Some share)) z)
      (submitted_on (slice_get z.device lane) geometry.mediator lane tag command share o z))
  carried-kept true tag share z tag_below planned keeps =
      (phased-tag geometry lane tag (Ended command (done_with Success) (Some share)) z keeps.0, keeps.1)
  carried-kept false tag share z tag_below planned keeps = handed-kept (slice_get z.device lane) tag share z refl tag_below planned keeps

  -- all shares in order
  handed_on-kept : (tags : List ℕ) (shares : List Share) (z : World) → All (λ tag. tag < tag_count) tags
      → All (IsPlanned o.given command.entry) shares → Keeps z → Keeps (handed_on geometry.mediator lane tags shares command o z)
  unfolding handed_on
  handed_on-kept [] shares z below planned keeps = keeps
  handed_on-kept (tag ∷ tags) [] z below planned keeps = keeps
  handed_on-kept (tag ∷ tags) (share ∷ shares) z below planned keeps =
      handed_on-kept tags shares (carried_out geometry.mediator lane tag command share o z)
      (All-tail (λ n. n < tag_count) tag tags below) (All-tail (IsPlanned o.given command.entry) share shares planned)
      (carried-kept (is_no_command share) tag share z (All-head (λ n. n < tag_count) tag tags below)
      (All-head (IsPlanned o.given command.entry) share shares planned) keeps)

module _ (host_bytes : ℕ) (geometry : Geometry) (w : World) (laid : IsLaidOut host_bytes (length w.lanes) geometry) (is : IsConsistent geometry w)
    (are : ArePhased geometry w) where
  have_slots : HaveSlots w
  have_slots lane d there =
      let among = slice_get-below w.device lane d there in
      let sides = is.of_tags.sides in
      let l = slice_get-there w.lanes lane (omega (arith, among, sides)) in
      let positions = (is.of_tags.lanes lane l.0 d l.1 there).positions in
      record { tail = positions.tail; posted = positions.posted }

  module _ (lane tag : ℕ) (command : Command) (reads : List ReadDone) (o : Owner) (found : tag_of w lane tag ≡ Some (Taken command reads)) where
    tags-below : All (λ n. n < tag_count) (group w lane tag)
    tags-below =
        let a = is-at geometry w lane tag (Taken command reads) is.of_tags found in
        All-weaker (HasTag (λ (t : Tag). ⊤) w lane) (λ n. n < tag_count) (λ n has. below n has) (group w lane tag)
        (group-has (λ (t : Tag). ⊤) w lane tag a.l a.at_lane (λ n t there goes. tt))
      where
        below : (n : ℕ) → HasTag (λ (t : Tag). ⊤) w lane n → n < tag_count
        below n has =
            let a = is-at geometry w lane n has.t is.of_tags has.is in
            let sized = (is.of_tags.lanes lane a.l a.d a.at_lane a.at_device).positions.tags in
            let among = slice_get-below a.l.tags n has.t a.at_tag in
            omega (arith, sized, among)

    shares-phased : (plan : Plan) → IsWhole o.given command.entry plan
        → ArePhased geometry (handed_on geometry.mediator lane (group w lane tag) (shares_of o.given.namespace command.entry plan) command o w)
    shares-phased plan whole =
        (handed_on-kept host_bytes geometry (length w.lanes) laid lane command o (group w lane tag) (shares_of o.given.namespace command.entry plan) w
        tags-below (shares-planned o.given command.entry plan whole) (are, have_slots)).0

    carried-phased : (plan : Plan) → IsAnswerOr o.given command.entry plan
        → ArePhased geometry (carry_out plan geometry.mediator lane (group w lane tag) command o w)
    carried-phased (Answer st) kind = ended-phased host_bytes geometry w laid is are lane (group w lane tag) command st
    carried-phased (NoData work) (Plans whole) = shares-phased (NoData work) whole
    carried-phased (Direct work) (Plans whole) = shares-phased (Direct work) whole
    carried-phased (Bounced work) (Plans whole) = shares-phased (Bounced work) whole
    carried-phased (NoData work) (Answers st fails same) = cc
    carried-phased (Direct work) (Answers st fails same) = cc
    carried-phased (Bounced work) (Answers st fails same) = cc

    pub submit-phased : (outcome : Outcome Plan) → plan_over o.given command.entry reads ≡ outcome
        → ArePhased geometry (submit_by outcome geometry.mediator lane (group w lane tag) command o w).world
    submit-phased (Wanted addr len) over = are
    submit-phased (Settled plan) over = carried-phased plan (plan_over-is o.given command.entry reads plan over)
