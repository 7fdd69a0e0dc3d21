-- The private controller of a guest goes along, without a step, where a completion of the guest's is read.
use Rattle.std.proofs.Common.{◌≡◌, ℕ, ◌<◌, ◌⊎◌, inl, inr, Bool, true, false, cond, ◌==◌, List, [], set, slice_get, Option, Some, None}
use Rattle.std.proofs.Common.{arith, refl, sym, ap, ◌∙◌, eq-eqb, eqb-true, subst}
use Rattle.std.proofs.lemmas.Bool.{cases_eq, eqb-false}
use Rattle.nv_entry.specs.Status.{StatusField}
use Rattle.nv_model.specs.Private.{Private}
use Rattle.nv_model.specs.Queue.{is_empty}
use Rattle.nv_model.specs.declared.reply.Reply.TheVariants as reply
use Rattle.nv_world_model.specs.declared.event.Event.TheVariants as event
use Rattle.nv_world_model.specs.Area.{bounce_page, tag_count}
use Rattle.nv_world_model.specs.Device.{DeviceLane, Held}
use Rattle.nv_world_model.specs.Geometry.{Geometry, Guest}
use Rattle.nv_world_model.specs.Share.{Share}
use Rattle.nv_world_model.specs.Contained.{is_answered_at, owner, tag_stands}
use Rattle.nv_world_model.specs.Seat.{Rest, completion_at, member_in, members, name_of, rest, rest_at, rests_of, tag_rest, tells_difference}
use Rattle.nv_world_model.specs.Step.{After, completion_read, ended_at, passed_on, reap, reaped, replied, step}
use Rattle.nv_world_model.specs.View.{guest_of_tag, own_held, own_tag}
use Rattle.nv_world_model.specs.World.{Answered, Command, Ended, Flying, Lane, Tag, World, tag_changed, tag_in, tag_of, with_lane}
use Rattle.nv_laws_sound.specs.Groups.{part_of}
use Rattle.nv_laws_sound.proofs.Folds.{tag-part}
use Rattle.nv_laws_sound.proofs.Lists.{set-same, slice_get-below, slice_get-there, some-same}
use Rattle.nv_laws_sound.proofs.ReapEvents.{answered-at, ended-is}
use Rattle.nv_laws_sound.proofs.Rings.{between-head, far-some}
use Rattle.nv_laws.proofs.others.Behind.{IsRetagged, retagged-by}
use Rattle.nv_laws.proofs.others.RingEvents.{next-is}
use Rattle.nv_laws.specs.Following.{GoesAlong, IsReached}
use Rattle.nv_laws.specs.Related.{IsMovedStatus, IsTagRelated, IsUnderWay, Related, hides, none_left}
use Rattle.nv_laws.proofs.related.Goings.{dull-goes, none-goes}
use Rattle.nv_laws.proofs.related.Rests.{led, rests-by}
use Rattle.nv_laws.proofs.related.Retold.{IsRetold, members-of, one-told, retag-related}
use Rattle.nv_laws.proofs.related.Statuses.{passed_on-moved}
use Rattle.nv_laws.proofs.related.Tags.{own-as, put-same, tag-below}
use Rattle.nv_laws.proofs.related.Views.{device_of, status_in}
use Rattle.nv_laws.proofs.related.Ways.{device-way, either-way, lane-way}

module _ (host_bytes : ℕ) (geometry : Geometry) (number : ℕ) (guest : Guest) (given : slice_get geometry.guests number ≡ Some guest)
    (w : World) (reached : IsReached host_bytes geometry w) (p : Private) (related : Related geometry number guest w p) where
  module _ (lane tag : ℕ) (l : Lane) (d : DeviceLane) (command : Command) (share : Share) (at_lane : slice_get w.lanes lane ≡ Some l)
      (at_device : slice_get w.device lane ≡ Some d) (flies : slice_get l.tags tag ≡ Some (Flying command share (Answered l.head)))
      (mine : (command.guest == number) ≡ true) where
    abbrev before : Tag
    before = Flying command share (Answered l.head)

    abbrev st : StatusField
    st = status_in geometry w lane l.head

    abbrev now : Tag
    now = Ended command (passed_on st) (Some share)

    abbrev behind : World
    behind = record w { lanes = set w.lanes lane (tag_changed tag now (completion_read l)) }

    there : tag_of w lane tag ≡ Some before
    there = ap (λ o. tag_in o tag) at_lane ∙ flies

    -- what was known of it
    was : (held : Option Held)
        → IsTagRelated (Some before) guest held (status_in geometry w lane) (bounce_page geometry.mediator lane tag) w.host p.memory
        → IsUnderWay guest command.entry share none_left (bounce_page geometry.mediator lane tag) w.host p.memory × IsMovedStatus share.plan st
    was held e = (record { steady = e.0.steady; buffer = e.0.buffer }, e.1)

    well : IsUnderWay guest command.entry share none_left (bounce_page geometry.mediator lane tag) w.host p.memory × IsMovedStatus share.plan st
    well =
        was (own_held number (tag_of w lane tag) (device_of w lane tag))
        (subst (λ o. IsTagRelated o guest (own_held number (tag_of w lane tag) (device_of w lane tag)) (status_in geometry w lane) (bounce_page geometry.mediator lane tag) w.host p.memory)
        (ap (own_tag number) there ∙ ap (λ b. cond b (Some before) None) mine) (related.tags lane tag))

    same_status : passed_on st ≡ st
    same_status = passed_on-moved share.plan st well.1

    changed : IsRetagged lane tag now w behind
    changed =
        retagged-by w behind lane tag l (tag_changed tag now (completion_read l)) d d before now at_lane at_device flies refl refl
        (sym (set-same w.device lane d at_device)) (λ b apart. refl)

    -- the command goes by the tag that it went by
    led-kept : (other b : ℕ) → led other (tag_of w lane b) ≡ led other (tag_of behind lane b)
    led-kept other b =
        elim (cases_eq b tag) [
          | inl same ↦ subst (λ n. led other (tag_of w lane n) ≡ led other (tag_of behind lane n)) (sym same) (ap (led other) there ∙ sym (ap (led other) changed.here))
          | inr apart ↦ ap (led other) (sym (changed.tags lane b (λ same also. apart also)))
        ]

    retold : IsRetold geometry number guest lane command.leader (λ b. b == tag) w behind
    retold =
        one-told geometry number guest lane command.leader tag before now w behind changed there refl refl (λ a b u addr away own bytes. refl) refl refl refl

    hides-as : (b : Bool) (held : Option Held) (addr : ℕ) → hides (cond b (Some now) None) held addr ≡ hides (cond b (Some before) None) held addr
    hides-as true held addr = refl
    hides-as false held addr = refl

    hidden-as : (addr : ℕ) (held other : Option Held) → hides (own_tag number (tag_of behind lane tag)) other addr ≡ false
        → hides (own_tag number (tag_of w lane tag)) held addr ≡ false
    hidden-as addr held other none =
        ap (λ o. hides (own_tag number o) held addr) there ∙ sym (hides-as (command.guest == number) held addr)
        ∙ ended-any (command.guest == number) held other ∙ sym (ap (λ o. hides (own_tag number o) other addr) changed.here) ∙ none
      where
        ended-any : (b : Bool) (held other : Option Held) → hides (cond b (Some now) None) held addr ≡ hides (cond b (Some now) None) other addr
        ended-any true held other = refl
        ended-any false held other = refl

    -- ---- what has come of the command

    rest-here : rest_at geometry w lane tag ≡ rest_at geometry behind lane tag
    unfolding rest_at
    rest-here =
        ap (λ o. tag_rest o (device_of w lane tag) (status_in geometry w lane)) there
        ∙ ap (λ s. rest [] (tells_difference s)) (sym same_status)
        ∙ sym (ap (λ o. tag_rest o (device_of behind lane tag) (status_in geometry behind lane)) changed.here)

    rest-away : (b : ℕ) → (b ≡ tag → ⊥) → rest_at geometry w lane b ≡ rest_at geometry behind lane b
    unfolding rest_at
    rest-away b apart =
        ap (λ o. tag_rest o (device_of w lane b) (status_in geometry w lane)) (sym (changed.tags lane b (λ same also. apart also)))

    rests-as : rests_of geometry w lane command.leader ≡ rests_of geometry behind lane command.leader
    rests-as =
        rests-by geometry w behind lane command.leader (led-kept command.leader)
        (λ b goes. elim (cases_eq b tag) [
          | inl same ↦ subst (λ n. rest_at geometry w lane n ≡ rest_at geometry behind lane n) (sym same) rest-here
          | inr apart ↦ rest-away b apart
        ])

    -- the tag that it goes by tells of the same command
    first-as : (b : ℕ) (rests : List Rest) → (b ≡ tag) ⊎ (b ≡ tag → ⊥) → member_in (tag_of w lane b) b number rests ≡ member_in (tag_of behind lane b) b number rests
    first-as b rests (inl same) =
        subst (λ n. member_in (tag_of w lane n) n number rests ≡ member_in (tag_of behind lane n) n number rests) (sym same)
        (ap (λ o. member_in o tag number rests) there ∙ sym (ap (λ o. member_in o tag number rests) changed.here))
    first-as b rests (inr apart) = ap (λ o. member_in o b number rests) (sym (changed.tags lane b (λ same also. apart also)))

    tag_below : tag < tag_count
    tag_below = tag-below host_bytes geometry number guest given w reached p related lane tag before there

    leader-below : command.leader < tag_count
    leader-below =
        let m = reached.consistent.groups lane l at_lane tag (part_of before) command (tag-part l.tags tag before flies) refl in
        let low = m.low in
        let high = tag_below in
        omega (arith, low, high)

    member-as : members geometry w number (name_of lane command.leader)
        ≡ member_in (tag_of behind lane command.leader) command.leader number (rests_of geometry behind lane command.leader)
    member-as =
        members-of geometry w number lane command.leader leader-below
        ∙ ap (λ rests. member_in (tag_of w lane command.leader) command.leader number rests) rests-as
        ∙ first-as command.leader (rests_of geometry behind lane command.leader) (cases_eq command.leader tag)

    reaped-related : Related geometry number guest behind p
    reaped-related =
        subst (λ bag. Related geometry number guest behind (record p { bag = bag })) (put-same p.bag (name_of lane command.leader))
        (retag-related geometry number guest w behind reached.consistent lane command.leader (λ b. b == tag) leader-below retold p related
        (p.bag (name_of lane command.leader)) p.controller related.controller
        (λ b addr is none.
        subst (λ n. hides (own_tag number (tag_of w lane n)) (own_held number (tag_of w lane n) (device_of w lane n)) addr ≡ false) (sym (eqb-true b tag is))
        (hidden-as addr (own_held number (tag_of w lane tag) (device_of w lane tag)) (own_held number (tag_of behind lane tag) (device_of behind lane tag))
        (subst (λ n. hides (own_tag number (tag_of behind lane n)) (own_held number (tag_of behind lane n) (device_of behind lane n)) addr ≡ false) (eqb-true b tag is) none)))
        (related.bag (name_of lane command.leader) ∙ member-as)
        (λ b is.
        subst (λ n. IsTagRelated (own_tag number (tag_of behind lane n)) guest (own_held number (tag_of behind lane n) (device_of behind lane n)) (status_in geometry behind lane)
        (bounce_page geometry.mediator lane n) w.host p.memory) (sym (eqb-true b tag is))
        (own-as number (tag_of behind lane tag) now
        (λ o. IsTagRelated o guest (own_held number (tag_of behind lane tag) (device_of behind lane tag)) (status_in geometry behind lane) (bounce_page geometry.mediator lane tag) w.host p.memory)
        changed.here mine (well.0, subst (IsMovedStatus share.plan) (sym same_status) well.1))))

  -- ---- the event

  module _ (lane : ℕ) (own : owner (event.Reap lane) w ≡ Some number) where
    abbrev Goes : After → Type 0
    Goes = GoesAlong geometry number guest (event.Reap lane) w p

    reaped-goes : (tag : ℕ) (l : Lane) (d : DeviceLane) (held : Option Held) (t : Tag) → slice_get w.lanes lane ≡ Some l → slice_get w.device lane ≡ Some d
        → slice_get l.tags tag ≡ Some t → slice_get d.held tag ≡ Some held → tag_stands (is_answered_at l.head) t ≡ true
        → Goes (replied reply.Done (reaped lane (completion_at geometry w lane l.head) w))
    unfolding reaped
    reaped-goes tag l d held t at there found under next =
        let sound = reached.consistent.of_tags.lanes lane l d at there in
        let a = answered-at geometry lane tag l.head w.host l.head d held t (sound.tags tag t held found under) next in
        let flies : slice_get l.tags tag ≡ Some (Flying a.command a.share (Answered l.head)) = found ∙ ap (λ x. Some x) a.flies in
        let whose : Some a.command.guest ≡ Some number =
        sym (next-is host_bytes geometry w reached.laid reached.consistent.of_tags lane l d tag t at there found next ∙ ap guest_of_tag a.flies) ∙ own in
        none-goes geometry number guest (event.Reap lane) w p refl (replied reply.Done (reaped lane (completion_at geometry w lane l.head) w)) refl
        (subst (λ n. Related geometry number guest (ended_at (tag_of w lane n) (status_in geometry w lane l.head) lane n (with_lane lane completion_read w)) p) (sym a.identifier)
        (subst (λ x. Related geometry number guest x p)
        (sym (ended-is w lane tag l a.command a.share (Answered l.head) (status_in geometry w lane l.head) at flies))
        (reaped-related lane tag l d a.command a.share at there flies (eq-eqb a.command.guest number (some-same a.command.guest number whose)))))

    pub reaps-go : Goes (step geometry (event.Reap lane) w)
    unfolding step
    reaps-go =
        let dull = dull-goes geometry number guest (event.Reap lane) w p refl related in
        lane-way Goes w dull (slice_get w.lanes lane) _ (λ l at.
        device-way Goes w dull (slice_get w.device lane) (λ d. reap geometry lane l d w) (λ d there.
        either-way Goes w dull (is_empty l.head d.posted) _ _ (λ none. dull reply.Idle refl) (λ some.
        (let sound = reached.consistent.of_tags.lanes lane l d at there in
        let waits : l.head ≡ d.posted → ⊥ = eqb-false l.head d.posted some in
        let next = sound.answered l.head (between-head l.head d.posted sound.positions.read sound.positions.posted (far-some l.head d.posted sound.positions.read sound.positions.posted waits)) in
        let tags = sound.positions.tags in
        let sized = sound.positions.held in
        let among = slice_get-below l.tags next.tag next.there next.is in
        let held = slice_get-there d.held next.tag (omega (arith, tags, sized, among)) in
        reaped-goes next.tag l d held.0 next.there at there next.is held.1 next.stands))))
