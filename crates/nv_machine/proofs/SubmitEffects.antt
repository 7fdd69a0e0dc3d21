-- The effects of a Submit are in the owner's pages, but for physical entries in the next slots of the submission ring.
use Rattle.std.proofs.Common.{◌≡◌, ℕ, suc, ◌%◌, ◌<◌, ◌≤◌, Bool, true, false, cond, List, [], ◌∷◌, ◌++◌, length, slice_get, All}
use Rattle.std.proofs.Common.{Option, Some, append-nil, append_assoc, arith, refl, sym, ◌∙◌, subst}
use Rattle.std.proofs.lemmas.List.Elements.{All-append, All-cons, All-head, All-nil, All-tail, All-weaker}
use Rattle.nv_entry.specs.StatusCode.{done_with}
use Rattle.nv_entry.specs.declared.status_code.StatusCode.TheVariants.{Success}
use Rattle.nv_laws_sound.proofs.PlanSizes.{entry-length, list-short, ranges-short}
use Rattle.nv_laws_sound.proofs.Rings.{between-head, between-was, far, next-below}
use Rattle.nv_laws_sound.specs.Consistent.{IsBetween, IsPlanned}
use Rattle.nv_laws_sound.specs.Side.{Side}
use Rattle.nv_machine.specs.Contained.{IsOwn, MayDo, NextSlot}
use Rattle.nv_machine.specs.Doing.{Doing, tag_put}
use Rattle.nv_machine.specs.Effects.{Effect, Store}
use Rattle.nv_machine.specs.Machine.{bounce_effects, carried_out, handed_on, share_effects, submitted_on}
use Rattle.nv_machine.proofs.ContainedFetch.{AreSound}
use Rattle.nv_machine.proofs.OwnEffects.{Within, bounce-within, list-within, mine-may}
use Rattle.nv_machine.proofs.OwnPages.{plan-few}
use Rattle.nv_machine.proofs.OwnTags.{IsGuestsTag}
use Rattle.nv_model.specs.Limits.{page}
use Rattle.nv_model.specs.Queue.{next_slot, sqe_size}
use Rattle.nv_world_model.specs.Area.{bounce_page, list_bytes, list_page, prps_of, ring_size, submission_slot}
use Rattle.nv_world_model.specs.Geometry.{Geometry}
use Rattle.nv_world_model.specs.Seat.{Owner}
use Rattle.nv_world_model.specs.Share.{Share}
use Rattle.nv_world_model.specs.ShareArea.{is_no_command, share_entry}
use Rattle.nv_world_model.specs.World.{Command, Ended}
use Rattle.nv_world_model.proofs.Seats.{slice_get-set}

-- an effect in what is the owner's, or an entry in a slot between two positions of a lane's submission ring
pub data Does (geometry : Geometry) (s : Side) (number lane tail behind : ℕ) (e : Effect) : Type 0 where
  InOwn : Within (IsOwn geometry s number) e → Does geometry s number lane tail behind e
  InSlot : (slot : ℕ) (bytes : List ℕ) → length bytes ≡ sqe_size → IsBetween tail behind slot
      → e ≡ Store (submission_slot geometry.mediator lane slot) bytes → Does geometry s number lane tail behind e

-- it may be done where these are the tails before and after
pub does-may : (geometry : Geometry) (s after : Side) (number lane tail behind : ℕ) → slice_get s.tails lane ≡ Some tail
    → slice_get after.tails lane ≡ Some behind → (e : Effect) → Does geometry s number lane tail behind e → MayDo geometry s after (Some number) e
does-may geometry s after number lane tail behind before then e (InOwn within) = mine-may geometry s after number e within
does-may geometry s after number lane tail behind before then e (InSlot slot bytes size between is) =
    subst (MayDo geometry s after (Some number)) (sym is)
    (λ i below. NextSlot lane tail behind slot before then between (omega arith) (omega (arith, below, size)))

-- positions of a ring that are few slots apart
far-one : (tail behind few : ℕ) → tail < ring_size → behind < ring_size → far (next_slot ring_size tail) behind ≤ few → few < 64
    → (0 < far tail behind) × (far tail behind ≤ suc few)
far-one tail behind few low high near room = (omega arith, omega arith)

far-none : (tail few : ℕ) → tail < ring_size → far tail tail ≤ few
far-none tail few low = omega arith

module _ (geometry : Geometry) (sound : AreSound geometry) (aligned : geometry.mediator % page ≡ 0) (s : Side) (lane : ℕ) (command : Command) (o : Owner)
    (given : slice_get geometry.guests command.guest ≡ Some o.given) where
  -- the effects of one call, or of a part of it: how the tail goes on, and which are added
  pub record Hands (m n : Doing) (tail few : ℕ) : Type 0 where
    pub behind : ℕ
    pub there : slice_get n.side.tails lane ≡ Some behind
    pub slot : behind < ring_size
    pub near : far tail behind ≤ few
    pub extra : List Effect
    pub are : n.effects ≡ m.effects ++ extra
    pub may : All (Does geometry s command.guest lane tail behind) extra

  abbrev Mine : ℕ → Type 0
  Mine = IsGuestsTag command.guest lane s

  -- nothing was handed on
  hands-none : (m : Doing) (tail few : ℕ) → slice_get m.side.tails lane ≡ Some tail → tail < ring_size → Hands m m tail few
  hands-none m tail few at low =
      record {
        behind = tail;
        there = at;
        slot = low;
        near = far-none tail few low;
        extra = [];
        are = sym (append-nil m.effects);
        may = All-nil (Does geometry s command.guest lane tail tail);
      }

  -- a share's list, source or ranges, and entry
  share-does : (tag tail behind : ℕ) (share : Share) → Mine tag → IsPlanned o.given command.entry share → tail < ring_size → behind < ring_size
      → 0 < far tail behind
      → All (Does geometry s command.guest lane tail behind) (share_effects share o.given command.entry geometry.mediator lane tag tail)
  share-does tag tail behind share mine is low high some =
      let Do : Effect → Type 0 = Does geometry s command.guest lane tail behind in
      let list : ℕ = list_page geometry.mediator lane tag in
      let bounce : ℕ = bounce_page geometry.mediator lane tag in
      let bytes : List ℕ = list_bytes (prps_of share.plan o.given list bounce) in
      let entry : List ℕ = share_entry share o.given.namespace o.given command.entry geometry.mediator lane tag in
      let last : Effect = Store (submission_slot geometry.mediator lane tail) entry in
      let few = list-short o.given command.entry share list bounce (omega (arith, aligned)) is in
      All-cons Do (Store list bytes) (bounce_effects share.plan o.given bounce ++ last ∷ [])
      (InOwn (list-within geometry sound s command.guest o.given given lane tag mine bytes few))
      (All-append Do (bounce_effects share.plan o.given bounce) (last ∷ [])
      (All-weaker (Within (IsOwn geometry s command.guest)) Do (λ e within. InOwn within) (bounce_effects share.plan o.given bounce)
      (bounce-within geometry sound s command.guest o.given given lane tag mine share.plan (plan-few o.given command.entry share is)
      (ranges-short o.given command.entry share is)))
      (All-cons Do last []
      (InSlot tail entry (entry-length share o.given command.entry geometry.mediator lane tag) (between-head tail behind low high some) refl) (All-nil Do)))

  -- what lies behind the next slot lies behind this one
  further : (tail behind : ℕ) → tail < ring_size → behind < ring_size → 0 < far tail behind → (e : Effect)
      → Does geometry s command.guest lane (next_slot ring_size tail) behind e → Does geometry s command.guest lane tail behind e
  further tail behind low high some e (InOwn within) = InOwn within
  further tail behind low high some e (InSlot slot bytes size between is) =
      InSlot slot bytes size (between-was tail behind slot low high some between) is

  -- one share, and what comes behind it
  module _ (tag few tail : ℕ) (share : Share) (m : Doing) (more : Doing → Doing) (at : slice_get m.side.tails lane ≡ Some tail) (low : tail < ring_size)
      (room : few < 64) (mine : Mine tag) (is : IsPlanned o.given command.entry share)
      (rest : (z : Doing) (next : ℕ) → slice_get z.side.tails lane ≡ Some next → next < ring_size → Hands z (more z) next few) where
    -- it is no command
    hands-ended : Hands m (more (tag_put lane tag (Ended command (done_with Success) (Some share)) m)) tail (suc few)
    hands-ended =
        let h = rest (tag_put lane tag (Ended command (done_with Success) (Some share)) m) tail at low in
        let near = h.near in
        record { behind = h.behind; there = h.there; slot = h.slot; near = omega (arith, near); extra = h.extra; are = h.are; may = h.may }

    -- or its entry is in the slot at the tail
    hands-flying : Hands m (more (submitted_on (Some tail) geometry.mediator lane tag command share o m)) tail (suc few)
    hands-flying =
        let next : ℕ = next_slot ring_size tail in
        let own : List Effect = share_effects share o.given command.entry geometry.mediator lane tag tail in
        let h = rest (submitted_on (Some tail) geometry.mediator lane tag command share o m) next (slice_get-set m.side.tails lane tail next at) (next-below tail low) in
        let one = far-one tail h.behind few low h.slot h.near room in
        record {
          behind = h.behind;
          there = h.there;
          slot = h.slot;
          near = one.1;
          extra = own ++ h.extra;
          are = h.are ∙ append_assoc m.effects own h.extra;
          may =
              All-append (Does geometry s command.guest lane tail h.behind) own h.extra (share-does tag tail h.behind share mine is low h.slot one.0)
              (All-weaker (Does geometry s command.guest lane next h.behind) (Does geometry s command.guest lane tail h.behind)
              (λ e does. further tail h.behind low h.slot one.0 e does) h.extra h.may);
        }

    hands-next : Hands m (more (carried_out geometry.mediator lane tag command share o m)) tail (suc few)
    hands-next = by (is_no_command share) (slice_get m.side.tails lane) at
      where
        by : (b : Bool) (t : Option ℕ) → t ≡ Some tail
            → Hands m (more (cond b (tag_put lane tag (Ended command (done_with Success) (Some share)) m)
            (submitted_on t geometry.mediator lane tag command share o m))) tail (suc few)
        by true t there = hands-ended
        by false t there =
            subst (λ (x : Option ℕ). Hands m (more (submitted_on x geometry.mediator lane tag command share o m)) tail (suc few)) (sym there) hands-flying

  -- the shares in order
  pub hands-on : (tags : List ℕ) (shares : List Share) (m : Doing) (tail : ℕ) → slice_get m.side.tails lane ≡ Some tail → tail < ring_size
      → length tags ≤ 64 → All Mine tags → All (IsPlanned o.given command.entry) shares
      → Hands m (handed_on geometry.mediator lane tags shares command o m) tail (length tags)
  unfolding handed_on
  hands-on [] shares m tail at low room mine are = hands-none m tail 0 at low
  hands-on (tag ∷ tags) [] m tail at low room mine are = hands-none m tail (length (tag ∷ tags)) at low
  hands-on (tag ∷ tags) (share ∷ shares) m tail at low room mine are =
      hands-next tag (length tags) tail share m (λ z. handed_on geometry.mediator lane tags shares command o z) at low (omega (arith, room))
      (All-head Mine tag tags mine) (All-head (IsPlanned o.given command.entry) share shares are)
      (λ z next there below. hands-on tags shares z next there below (omega (arith, room)) (All-tail Mine tag tags mine)
      (All-tail (IsPlanned o.given command.entry) share shares are))

  -- what is handed on of a call that begins may be done
  pub handed-may : (tags : List ℕ) (shares : List Share) (tail : ℕ) → slice_get s.tails lane ≡ Some tail → tail < ring_size
      → length tags ≤ 64 → All Mine tags → All (IsPlanned o.given command.entry) shares
      → (let n : Doing = handed_on geometry.mediator lane tags shares command o (record { side = s; effects = [] }) in
      All (MayDo geometry s n.side (Some command.guest)) n.effects)
  handed-may tags shares tail at low room mine are =
      let n : Doing = handed_on geometry.mediator lane tags shares command o (record { side = s; effects = [] }) in
      let h = hands-on tags shares (record { side = s; effects = [] }) tail at low room mine are in
      subst (All (MayDo geometry s n.side (Some command.guest))) (sym h.are)
      (All-weaker (Does geometry s command.guest lane tail h.behind) (MayDo geometry s n.side (Some command.guest))
      (does-may geometry s n.side command.guest lane tail h.behind at h.there) h.extra h.may)
