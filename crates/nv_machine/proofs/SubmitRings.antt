-- Each slot that the tail of a submission ring passes in a Submit has the entry of one of the command's tags.
use Rattle.std.proofs.Common.{◌≡◌, ℕ, ◌%◌, ◌<◌, ◌≤◌, Bool, true, false, cond, ◌==◌, List, [], ◌∷◌, ◌++◌, length, slice_get, All}
use Rattle.std.proofs.Common.{Option, Some, None, arith, eqb-true, refl, sym, ap, ◌∙◌, subst}
use Rattle.std.specs.List.{Contains}
use Rattle.std.proofs.lemmas.Bool.{eqb-false, ne_eqb}
use Rattle.std.proofs.lemmas.List.Elements.{All-cons, All-head, All-nil, All-tail, All-weaker, Contains-append_left, Contains-append_right}
use Rattle.nv_entry.specs.StatusCode.{done_with}
use Rattle.nv_entry.specs.declared.status_code.StatusCode.TheVariants.{Success}
use Rattle.nv_laws_sound.proofs.Folds.{tag_of-other}
use Rattle.nv_laws_sound.proofs.Lists.{some-same}
use Rattle.nv_laws_sound.proofs.Numbers.{AreDistinct}
use Rattle.nv_laws_sound.proofs.Rings.{between-less, next-below}
use Rattle.nv_laws_sound.specs.Consistent.{IsBetween, IsPlanned}
use Rattle.nv_laws_sound.specs.Side.{Side}
use Rattle.nv_machine.specs.Contained.{HasEntry}
use Rattle.nv_machine.specs.Doing.{Doing, tag_at, tag_put}
use Rattle.nv_machine.specs.Effects.{Effect, Store}
use Rattle.nv_machine.specs.Machine.{bounce_effects, carried_out, handed_on, share_effects, submitted_on}
use Rattle.nv_machine.proofs.ContainedFetch.{AreSound}
use Rattle.nv_machine.proofs.FetchedHosts.{nothing}
use Rattle.nv_machine.proofs.OwnTags.{IsGuestsTag}
use Rattle.nv_machine.proofs.SideWorlds.{world_with}
use Rattle.nv_machine.proofs.SubmitEffects.{Hands, hands-on}
use Rattle.nv_model.specs.Limits.{page}
use Rattle.nv_model.specs.Queue.{next_slot}
use Rattle.nv_model.specs.Transcript.{ReadDone}
use Rattle.nv_world_model.specs.Area.{bounce_page, list_bytes, list_page, prps_of, ring_size, submission_slot}
use Rattle.nv_world_model.specs.Geometry.{Geometry}
use Rattle.nv_world_model.specs.Seat.{Owner}
use Rattle.nv_world_model.specs.Share.{Share}
use Rattle.nv_world_model.specs.ShareArea.{is_no_command, share_entry}
use Rattle.nv_world_model.specs.World.{Command, Ended, Flying, Lane, Queued, Tag, Taken, changed_at, tag_changed, tag_in}
use Rattle.nv_world_model.proofs.Seats.{slice_get-set}

-- a tag waits for the plan of that command
pub record IsTakenTag (command : Command) (lane : ℕ) (s : Side) (tag : ℕ) : Type 0 where
  pub reads : List ReadDone
  pub there : tag_at s lane tag ≡ Some (Taken command reads)

pub taken-guests : (command : Command) (lane : ℕ) (s : Side) (tag : ℕ) → IsTakenTag command lane s tag → IsGuestsTag command.guest lane s tag
taken-guests command lane s tag is = record { t = Taken command is.reads; there = is.there; whose = refl }

-- a tag that is put where one was is there
put-there : (lanes : List Lane) (lane tag : ℕ) (old now : Tag) (o : Option Lane) → slice_get lanes lane ≡ o → tag_in o tag ≡ Some old
    → tag_in (slice_get (changed_at o lane (tag_changed tag now) lanes) lane) tag ≡ Some now
put-there lanes lane tag old now None at was = cc
put-there lanes lane tag old now (Some l) at was =
    ap (λ (x : Option Lane). tag_in x tag) (slice_get-set lanes lane l (tag_changed tag now l) at) ∙ slice_get-set l.tags tag old now was

-- another is as it was
pub put-other : (m : Doing) (lane tag other : ℕ) (now : Tag) → (other == tag) ≡ false → tag_at (tag_put lane tag now m).side lane other ≡ tag_at m.side lane other
put-other m lane tag other now apart = tag_of-other (world_with nothing m.side) lane tag other now apart

-- no slot lies between a position and itself
pub between-none : (tail slot : ℕ) → tail < ring_size → IsBetween tail tail slot → ⊥
between-none tail slot low is = let before = is.before in absurd (omega arith)

module _ (geometry : Geometry) (sound : AreSound geometry) (aligned : geometry.mediator % page ≡ 0) (s : Side) (lane : ℕ) (command : Command) (o : Owner)
    (given : slice_get geometry.guests command.guest ≡ Some o.given) where
  -- the tags as they were
  abbrev Still : Doing → ℕ → Type 0
  Still m tag = tag_at m.side lane tag ≡ tag_at s lane tag

  abbrev Mine : ℕ → Type 0
  Mine = IsTakenTag command lane s

  still-behind : (m : Doing) (tag : ℕ) (now : Tag) (tags : List ℕ) → All (λ n. (n == tag) ≡ false) tags → All (Still m) tags
      → All (Still (tag_put lane tag now m)) tags
  still-behind m tag now [] apart still = All-nil (Still (tag_put lane tag now m))
  still-behind m tag now (n ∷ tags) apart still =
      All-cons (Still (tag_put lane tag now m)) n tags
      (put-other m lane tag n now (All-head (λ k. (k == tag) ≡ false) n tags apart) ∙ All-head (Still m) n tags still)
      (still-behind m tag now tags (All-tail (λ k. (k == tag) ≡ false) n tags apart) (All-tail (Still m) n tags still))

  -- a share changes its own tag alone
  carried-other : (tag other : ℕ) (share : Share) (m : Doing) → (other == tag) ≡ false
      → tag_at (carried_out geometry.mediator lane tag command share o m).side lane other ≡ tag_at m.side lane other
  carried-other tag other share m apart = by (is_no_command share) (slice_get m.side.tails lane)
    where
      by : (b : Bool) (t : Option ℕ)
          → tag_at (cond b (tag_put lane tag (Ended command (done_with Success) (Some share)) m)
          (submitted_on t geometry.mediator lane tag command share o m)).side lane other ≡ tag_at m.side lane other
      by true t = put-other m lane tag other (Ended command (done_with Success) (Some share)) apart
      by false None = refl
      by false (Some tail) = put-other m lane tag other (Flying command share (Queued tail)) apart

  handed-other : (tags : List ℕ) (shares : List Share) (m : Doing) (other : ℕ) → All (λ n. (n == other) ≡ false) tags
      → tag_at (handed_on geometry.mediator lane tags shares command o m).side lane other ≡ tag_at m.side lane other
  unfolding handed_on
  handed-other [] shares m other apart = refl
  handed-other (tag ∷ tags) [] m other apart = refl
  handed-other (tag ∷ tags) (share ∷ shares) m other apart =
      handed-other tags shares (carried_out geometry.mediator lane tag command share o m) other (All-tail (λ n. (n == other) ≡ false) tag tags apart)
      ∙ carried-other tag other share m (turned tag other (All-head (λ n. (n == other) ≡ false) tag tags apart))
    where
      turned : (n k : ℕ) → (n == k) ≡ false → (k == n) ≡ false
      turned n k apart = ne_eqb k n (λ same. eqb-false n k apart (sym same))

  -- that slot of the ring has an entry
  abbrev Has : Doing → ℕ → Type 0
  Has n slot = HasEntry geometry n.side command.guest lane slot n.effects

  -- one share, and what comes behind it
  module _ (tag few tail : ℕ) (share : Share) (m : Doing) (more : Doing → Doing) (at : slice_get m.side.tails lane ≡ Some tail) (low : tail < ring_size)
      (mine : Mine tag) (still : Still m tag) (tags : List ℕ)
      (apart : All (λ n. (n == tag) ≡ false) tags) (others : All (Still m) tags)
      (keeps : (z : Doing) → tag_at (more z).side lane tag ≡ tag_at z.side lane tag)
      (hands : (z : Doing) (next : ℕ) → slice_get z.side.tails lane ≡ Some next → next < ring_size
      → Hands geometry sound aligned s lane command o given z (more z) next few)
      (rest : (z : Doing) (next : ℕ) → slice_get z.side.tails lane ≡ Some next → next < ring_size → All (Still z) tags → (behind slot : ℕ)
      → slice_get (more z).side.tails lane ≡ Some behind → IsBetween next behind slot → Has (more z) slot) where
    -- its own slot
    own-entry : Has (more (submitted_on (Some tail) geometry.mediator lane tag command share o m)) tail
    own-entry =
        let z : Doing = submitted_on (Some tail) geometry.mediator lane tag command share o m in
        let list : ℕ = list_page geometry.mediator lane tag in
        let bounce : ℕ = bounce_page geometry.mediator lane tag in
        let first : Effect = Store list (list_bytes (prps_of share.plan o.given list bounce)) in
        let last : Effect = Store (submission_slot geometry.mediator lane tail) (share_entry share o.given.namespace o.given command.entry geometry.mediator lane tag) in
        let own : List Effect = share_effects share o.given command.entry geometry.mediator lane tag tail in
        let h = hands z (next_slot ring_size tail) (slice_get-set m.side.tails lane tail (next_slot ring_size tail) at) (next-below tail low) in
        let one : Contains own last =
        Contains-append_right (first ∷ bounce_effects share.plan o.given bounce) (last ∷ []) last (0, omega arith, refl) in
        record {
          tag = tag;
          command = command;
          whose = refl;
          given = o.given;
          is = given;
          share = share;
          stored =
              subst (λ (es : List Effect). Contains es last) (sym h.are)
              (Contains-append_left (m.effects ++ own) h.extra last (Contains-append_right m.effects own last one));
          flies =
              keeps z
              ∙ put-there m.side.lanes lane tag (Taken command mine.reads) (Flying command share (Queued tail)) (slice_get m.side.lanes lane) refl (still ∙ mine.there);
        }

    entry-next : (behind slot : ℕ) → slice_get (more (carried_out geometry.mediator lane tag command share o m)).side.tails lane ≡ Some behind
        → IsBetween tail behind slot → Has (more (carried_out geometry.mediator lane tag command share o m)) slot
    entry-next behind slot there between = by (is_no_command share) (slice_get m.side.tails lane) at there
      where
        flown : slice_get (more (submitted_on (Some tail) geometry.mediator lane tag command share o m)).side.tails lane ≡ Some behind
            → (b : Bool) → (slot == tail) ≡ b → Has (more (submitted_on (Some tail) geometry.mediator lane tag command share o m)) slot
        flown found true here =
            subst (Has (more (submitted_on (Some tail) geometry.mediator lane tag command share o m))) (sym (eqb-true slot tail here)) own-entry
        flown found false differ =
            let z : Doing = submitted_on (Some tail) geometry.mediator lane tag command share o m in
            let next : ℕ = next_slot ring_size tail in
            let on = slice_get-set m.side.tails lane tail next at in
            let h = hands z next on (next-below tail low) in
            let same : h.behind ≡ behind = some-same h.behind behind (sym h.there ∙ found) in
            let high : behind < ring_size = subst (λ n. n < ring_size) same h.slot in
            rest z next on (next-below tail low) (still-behind m tag (Flying command share (Queued tail)) tags apart others) behind slot found
            (between-less tail behind slot low high between (λ equal. eqb-false slot tail differ equal))

        by : (b : Bool) (t : Option ℕ) → t ≡ Some tail
            → slice_get (more (cond b (tag_put lane tag (Ended command (done_with Success) (Some share)) m)
            (submitted_on t geometry.mediator lane tag command share o m))).side.tails lane ≡ Some behind
            → Has (more (cond b (tag_put lane tag (Ended command (done_with Success) (Some share)) m)
            (submitted_on t geometry.mediator lane tag command share o m))) slot
        by true t is found =
            rest (tag_put lane tag (Ended command (done_with Success) (Some share)) m) tail at low
            (still-behind m tag (Ended command (done_with Success) (Some share)) tags apart others) behind slot found between
        by false t is found =
            subst (λ (x : Option ℕ). slice_get (more (submitted_on x geometry.mediator lane tag command share o m)).side.tails lane ≡ Some behind
            → Has (more (submitted_on x geometry.mediator lane tag command share o m)) slot) (sym is) (λ f. flown f (slot == tail) refl) found

  -- the shares in order
  pub entries-on : (tags : List ℕ) (shares : List Share) (m : Doing) (tail : ℕ) → slice_get m.side.tails lane ≡ Some tail → tail < ring_size
      → length tags ≤ 64 → AreDistinct tags → All Mine tags → All (Still m) tags → All (IsPlanned o.given command.entry) shares → (behind slot : ℕ)
      → slice_get (handed_on geometry.mediator lane tags shares command o m).side.tails lane ≡ Some behind → IsBetween tail behind slot
      → Has (handed_on geometry.mediator lane tags shares command o m) slot
  unfolding handed_on
  entries-on [] shares m tail at low room apart mine still are behind slot there between =
      absurd (between-none tail slot low (subst (λ n. IsBetween tail n slot) (some-same behind tail (sym there ∙ at)) between))
  entries-on (tag ∷ tags) [] m tail at low room apart mine still are behind slot there between =
      absurd (between-none tail slot low (subst (λ n. IsBetween tail n slot) (some-same behind tail (sym there ∙ at)) between))
  entries-on (tag ∷ tags) (share ∷ shares) m tail at low room apart mine still are behind slot there between =
      let guests = All-weaker Mine (IsGuestsTag command.guest lane s) (taken-guests command lane s) tags (All-tail Mine tag tags mine) in
      let later = All-tail (IsPlanned o.given command.entry) share shares are in
      entry-next tag (length tags) tail share m (λ z. handed_on geometry.mediator lane tags shares command o z) at low
      (All-head Mine tag tags mine) (All-head (Still m) tag tags still) tags apart.0
      (All-tail (Still m) tag tags still) (λ z. handed-other tags shares z tag apart.0)
      (λ z next found below. hands-on geometry sound aligned s lane command o given tags shares z next found below (omega (arith, room)) guests later)
      (λ z next found below same past one on among.
      entries-on tags shares z next found below (omega (arith, room)) apart.1 (All-tail Mine tag tags mine) same later past one on among)
      behind slot there between
