-- A command's shares are handed on one after the other, each in its tag: those tags have them, and all other tags are as they were, with their bytes.
use Rattle.std.proofs.Common.{◌≡◌, ℕ, zero, suc, ◌<◌, Bool, true, false, cond, ◌||◌, ◌==◌, List, [], ◌∷◌, length, set, slice_get, Some}
use Rattle.std.proofs.Common.{arith, refl, sym, ap, ◌∙◌, eq-eqb, subst}
use Rattle.std.specs.List.{All}
use Rattle.std.proofs.lemmas.List.Elements.{All-head, All-tail}
use Rattle.nv_entry.specs.StatusCode.{done_with}
use Rattle.nv_entry.specs.declared.status_code.StatusCode.TheVariants.{Success}
use Rattle.nv_model.specs.Transcript.{ReadDone}
use Rattle.nv_world_model.specs.Area.{tag_count}
use Rattle.nv_world_model.specs.Contained.{tag_stands}
use Rattle.nv_world_model.specs.Device.{DeviceLane, rung}
use Rattle.nv_world_model.specs.Geometry.{Geometry}
use Rattle.nv_world_model.specs.Share.{Share}
use Rattle.nv_world_model.specs.ShareArea.{is_no_command, share_written}
use Rattle.nv_world_model.specs.Seat.{Owner}
use Rattle.nv_world_model.specs.Step.{carried_out, handed_on, submitted_on}
use Rattle.nv_world_model.specs.World.{Command, Ended, Flying, Lane, Queued, Tag, Taken, World, tag_changed, tag_of, with_tag}
use Rattle.nv_laws_sound.specs.Consistent.{IsConsistentOfTags, IsPlanned, waits_for_device}
use Rattle.nv_laws_sound.specs.LaidOut.{IsLaidOut}
use Rattle.nv_laws_sound.proofs.Folds.{HasTag, have-other}
use Rattle.nv_laws_sound.proofs.Lists.{count-fewer, length-set, set-same, slice_get-below}
use Rattle.nv_laws_sound.proofs.Numbers.{AreDistinct}
use Rattle.nv_laws_sound.proofs.Retags.{is-at, with_tag-is}
use Rattle.nv_laws_sound.proofs.Rings.{far}
use Rattle.nv_laws_sound.proofs.SubmitEvents.{carried_out-consistent, entered-elsewhere, entered-undisturbed, submitted-is}
use Rattle.nv_laws_sound.proofs.TagEvents.{IsTakenBy}
use Rattle.nv_world_model.proofs.Seats.{slice_get-set}
use Rattle.nv_laws.specs.Leaving.{IsBytes}
use Rattle.nv_laws.proofs.others.Behind.{IsRetagged, retagged-by}
use Rattle.nv_laws.proofs.others.Leaving.{bytes-elsewhere}
use Rattle.nv_laws.proofs.related.Changing.{none-touched, touched}
use Rattle.nv_laws.proofs.related.Views.{device_of}

-- what a tag is behind its share: a physical command that waits for the device, or, without a range, one that has ended
pub data IsCarriedAs (command : Command) (share : Share) : Tag → Type 0 where
  IsOver : is_no_command share ≡ true → IsCarriedAs command share (Ended command (done_with Success) (Some share))
  Waits : (slot : ℕ) → IsCarriedAs command share (Flying command share (Queued slot))

pub record HasShare (z : World) (lane b : ℕ) (command : Command) (share : Share) : Type 0 where
  pub now : Tag
  pub is : tag_of z lane b ≡ Some now
  pub kind : IsCarriedAs command share now

-- the tags have the shares in order, and nothing of other tags is other
pub record AreHanded (geometry : Geometry) (lane : ℕ) (ns : List ℕ) (shares : List Share) (command : Command) (w z : World) : Type 0 where
  pub each : (i b : ℕ) (share : Share) → slice_get ns i ≡ Some b → slice_get shares i ≡ Some share → HasShare z lane b command share
  pub tags : (a b : ℕ) → ((a ≡ lane) → touched ns b ≡ true → ⊥) → tag_of z a b ≡ tag_of w a b
  pub held : (a b : ℕ) → ((a ≡ lane) → touched ns b ≡ true → ⊥) → device_of z a b ≡ device_of w a b
  pub bytes : (a b : ℕ) (t : Tag) (addr : ℕ) → ((a ≡ lane) → touched ns b ≡ true → ⊥) → tag_of w a b ≡ Some t → IsBytes geometry.mediator a b t addr
      → w.host addr ≡ z.host addr
  pub disk : z.disk ≡ w.disk
  pub kept : z.kept ≡ w.kept
  pub controllers : z.controllers ≡ w.controllers

-- ---- one share

record IsOne (geometry : Geometry) (lane n : ℕ) (share : Share) (command : Command) (w y : World) : Type 0 where
  now : Tag
  kind : IsCarriedAs command share now
  changed : IsRetagged lane n now w y
  bytes : (a b : ℕ) (t : Tag) (addr : ℕ) → ((a ≡ lane) → (b ≡ n) → ⊥) → tag_of w a b ≡ Some t → IsBytes geometry.mediator a b t addr
      → w.host addr ≡ y.host addr
  lanes : length y.lanes ≡ length w.lanes
  disk : y.disk ≡ w.disk
  kept : y.kept ≡ w.kept
  controllers : y.controllers ≡ w.controllers
  d : DeviceLane
  device : slice_get y.device lane ≡ Some d

module _ (host_bytes : ℕ) (geometry : Geometry) (lane : ℕ) (command : Command) (o : Owner) (given : slice_get geometry.guests command.guest ≡ Some o.given) where
  module _ (n : ℕ) (share : Share) (reads : List ReadDone) (w : World) (laid : IsLaidOut host_bytes (length w.lanes) geometry)
      (fine : IsConsistentOfTags geometry w) (found : tag_of w lane n ≡ Some (Taken command reads)) (l : Lane) (d : DeviceLane)
      (at : slice_get w.lanes lane ≡ Some l) (there : slice_get w.device lane ≡ Some d) (in_lane : slice_get l.tags n ≡ Some (Taken command reads))
      (planned : IsPlanned o.given command.entry share) where
    abbrev over : Tag
    over = Ended command (done_with Success) (Some share)

    abbrev waiting : Tag
    waiting = Flying command share (Queued d.tail)

    abbrev host : ℕ → ℕ
    host = share_written share o.given command.entry geometry.mediator lane n d.tail w.host

    abbrev rung_world : World
    rung_world = record w { host = host; lanes = set w.lanes lane (tag_changed n waiting l); device = set w.device lane (rung d) }

    room : far d.head d.tail < 64
    room =
        let before = fine.lanes lane l d at there in
        let waiting = count-fewer (tag_stands waits_for_device) l.tags n (Taken command reads) in_lane refl in
        let many = before.queued_count in
        let tags = before.positions.tags in
        omega (arith, waiting, many, tags)

    below : n < tag_count
    below =
        let sized = (fine.lanes lane l d at there).positions.tags in
        let among = slice_get-below l.tags n (Taken command reads) in_lane in
        omega (arith, sized, among)

    over-is : is_no_command share ≡ true → IsOne geometry lane n share command w (with_tag lane n over w)
    over-is none =
        let same = with_tag-is lane n over w l at in
        subst (IsOne geometry lane n share command w) (sym same)
        (record {
          now = over;
          kind = IsOver none;
          changed = retagged-by w (record w { lanes = set w.lanes lane (tag_changed n over l) }) lane n l (tag_changed n over l) d d (Taken command reads) over at there in_lane refl refl
              (sym (set-same w.device lane d there)) (λ b apart. refl);
          bytes = (λ a b t addr apart here by. refl);
          lanes = length-set w.lanes lane (tag_changed n over l);
          disk = refl;
          kept = refl;
          controllers = refl;
          d = d;
          device = there;
        })

    waits-is : IsOne geometry lane n share command w rung_world
    unfolding share_written
    waits-is =
        let before = fine.lanes lane l d at there in
        record {
          now = waiting;
          kind = Waits d.tail;
          changed = retagged-by w rung_world lane n l (tag_changed n waiting l) d (rung d) (Taken command reads) waiting at there in_lane refl refl refl (λ b apart. refl);
          bytes = (λ a b t addr apart here by.
              bytes-elsewhere geometry w host lane n l.head l d (rung d) fine at there
              (λ other differ other_below.
              entered-elsewhere host_bytes (length w.lanes) geometry laid o.given command.entry share planned lane n d.tail below before.positions.tail w.host other differ)
              (λ other x differ other_below is.
              entered-undisturbed host_bytes (length w.lanes) geometry laid o.given command.entry share planned lane n d.tail below
              before.positions.tail w.host other l.head d x differ other_below refl before.positions.head before.positions.tail room)
              a b t addr apart here by);
          lanes = length-set w.lanes lane (tag_changed n waiting l);
          disk = refl;
          kept = refl;
          controllers = refl;
          d = rung d;
          device = slice_get-set w.device lane d (rung d) there;
        }

    one-by : IsOne geometry lane n share command w (carried_out geometry.mediator lane n command share o w)
    one-by = by (is_no_command share) refl
      where
        by : (b : Bool) → is_no_command share ≡ b
            → IsOne geometry lane n share command w (cond b (with_tag lane n over w) (submitted_on (slice_get w.device lane) geometry.mediator lane n command share o w))
        by true none = over-is none
        by false some =
            subst (IsOne geometry lane n share command w)
            (sym (ap (λ x. submitted_on x geometry.mediator lane n command share o w) there ∙ submitted-is w geometry.mediator lane n command share o l d at there)) waits-is

  one-share : (n : ℕ) (share : Share) (reads : List ReadDone) (w : World) → IsLaidOut host_bytes (length w.lanes) geometry
      → IsConsistentOfTags geometry w → tag_of w lane n ≡ Some (Taken command reads)
      → IsPlanned o.given command.entry share → IsOne geometry lane n share command w (carried_out geometry.mediator lane n command share o w)
  one-share n share reads w laid fine found planned =
      let a = is-at geometry w lane n (Taken command reads) fine found in
      one-by n share reads w laid fine found a.l a.d a.at_lane a.at_device a.at_tag planned

  -- ---- all shares

  nothing-handed : (ns : List ℕ) (shares : List Share) (w : World)
      → ((i b : ℕ) (share : Share) → slice_get ns i ≡ Some b → slice_get shares i ≡ Some share → ⊥) → AreHanded geometry lane ns shares command w w
  nothing-handed ns shares w none =
      record {
        each = (λ i b share at there. absurd (none i b share at there));
        tags = (λ a b away. refl);
        held = (λ a b away. refl);
        bytes = (λ a b t addr away here by. refl);
        disk = refl;
        kept = refl;
        controllers = refl;
      }

  -- away from all is away from the first, and from the rest
  away-first : (n : ℕ) (ns : List ℕ) (a b : ℕ) → ((a ≡ lane) → touched (n ∷ ns) b ≡ true → ⊥) → (a ≡ lane) → (b ≡ n) → ⊥
  away-first n ns a b away same also = away same (ap (λ c. c || touched ns b) (eq-eqb n b (sym also)))

  away-rest : (n : ℕ) (ns : List ℕ) (a b : ℕ) → ((a ≡ lane) → touched (n ∷ ns) b ≡ true → ⊥) → (a ≡ lane) → touched ns b ≡ true → ⊥
  away-rest n ns a b away same any = away same (by (n == b))
    where
      by : (c : Bool) → (c || touched ns b) ≡ true
      by true = refl
      by false = any

  pub all-handed : (ns : List ℕ) (shares : List Share) (w : World) → IsLaidOut host_bytes (length w.lanes) geometry → IsConsistentOfTags geometry w
      → All (IsPlanned o.given command.entry) shares → All (HasTag (IsTakenBy command) w lane) ns → AreDistinct ns
      → AreHanded geometry lane ns shares command w (handed_on geometry.mediator lane ns shares command o w)
  unfolding handed_on
  all-handed [] shares w laid fine planned have apart = nothing-handed [] shares w (λ i b share at there. cc)
  all-handed (n ∷ ns) [] w laid fine planned have apart = nothing-handed (n ∷ ns) [] w (λ i b share at there. cc)
  all-handed (n ∷ ns) (share ∷ shares) w laid fine planned have apart =
      let first = All-head (HasTag (IsTakenBy command) w lane) n ns have in
      let found : tag_of w lane n ≡ Some (Taken command first.has.reads) = first.is ∙ ap (λ x. Some x) first.has.is in
      let y : World = carried_out geometry.mediator lane n command share o w in
      let mine = All-head (IsPlanned o.given command.entry) share shares planned in
      let one = one-share n share first.has.reads w laid fine found mine in
      let now : IsConsistentOfTags geometry y =
      carried_out-consistent host_bytes geometry w lane n command first.has.reads share o laid fine found given mine in
      let rest = all-handed ns shares y (subst (λ many. IsLaidOut host_bytes many geometry) (sym one.lanes) laid) now
      (All-tail (IsPlanned o.given command.entry) share shares planned)
      (have-other (IsTakenBy command) w y lane n ns (λ other differ. one.changed.tags lane other (λ same also. (let bad : true ≡ false = sym (eq-eqb other n also) ∙ differ in cc))) apart.0
      (All-tail (HasTag (IsTakenBy command) w lane) n ns have)) apart.1 in
      record {
        each = each-one rest one;
        tags = (λ a b away. rest.tags a b (away-rest n ns a b away) ∙ one.changed.tags a b (away-first n ns a b away));
        held = (λ a b away. rest.held a b (away-rest n ns a b away) ∙ one.changed.held a b (away-first n ns a b away));
        bytes = (λ a b t addr away here by.
            one.bytes a b t addr (away-first n ns a b away) here by
            ∙ rest.bytes a b t addr (away-rest n ns a b away) (one.changed.tags a b (away-first n ns a b away) ∙ here) by);
        disk = rest.disk ∙ one.disk;
        kept = rest.kept ∙ one.kept;
        controllers = rest.controllers ∙ one.controllers;
      }
    where
      each-one : AreHanded geometry lane ns shares command (carried_out geometry.mediator lane n command share o w)
          (handed_on geometry.mediator lane ns shares command o (carried_out geometry.mediator lane n command share o w))
          → IsOne geometry lane n share command w (carried_out geometry.mediator lane n command share o w)
          → (i b : ℕ) (other : Share) → slice_get (n ∷ ns) i ≡ Some b → slice_get (share ∷ shares) i ≡ Some other
          → HasShare (handed_on geometry.mediator lane ns shares command o (carried_out geometry.mediator lane n command share o w)) lane b command other
      each-one rest one zero b other at there =
          let same : n ≡ b = cc in
          let also : share ≡ other = cc in
          subst (λ x. HasShare (handed_on geometry.mediator lane ns shares command o (carried_out geometry.mediator lane n command share o w)) lane x command other) same
          (subst (HasShare (handed_on geometry.mediator lane ns shares command o (carried_out geometry.mediator lane n command share o w)) lane n command) also
          (record {
            now = one.now;
            is = rest.tags lane n (λ here any. (let bad : true ≡ false = sym any ∙ none-touched n ns apart.0 in cc)) ∙ one.changed.here;
            kind = one.kind;
          }))
      each-one rest one (suc i) b other at there = rest.each i b other at there
