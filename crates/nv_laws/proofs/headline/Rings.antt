-- The private controller of a guest goes along where the device takes the guest's command or answers it, and where the mediator reaps it: no step is
-- made.
use Rattle.std.proofs.Common.{◌≡◌, ℕ, ◌^◌, ◌<◌, Bool, true, false, ◌&&◌, ◌==◌, List, [], ◌∷◌, length, set, slice_get}
use Rattle.std.proofs.Common.{Option, Some, None, arith, refl, sym, ap, ◌∙◌, eq-eqb, subst}
use Rattle.std.specs.List.{list_any, range_with_len}
use Rattle.std.proofs.lemmas.Bool.{eqb-false}
use Rattle.nv_mem.specs.Places.{At}
use Rattle.nv_model.specs.Judge.{Clear, Form, Keep, Manage, Transfer, Work, form_of, is_read}
use Rattle.nv_model.specs.Private.{Private, numbers_of, places_of_block}
use Rattle.nv_model.specs.Queue.{is_empty, next_slot}
use Rattle.nv_ns.specs.Extents.{blocks_in}
use Rattle.nv_model.specs.declared.reply.Reply.TheVariants as reply
use Rattle.nv_world_model.specs.declared.event.Event.TheVariants as event
use Rattle.nv_world_model.specs.Area.{bounce_page, ring_size, tag_count}
use Rattle.nv_world_model.specs.Contained.{is_queued_at, owner, tag_stands}
use Rattle.nv_world_model.specs.Device.{DeviceLane, Held, front_entry, held_of}
use Rattle.nv_world_model.specs.Geometry.{Geometry, Guest}
use Rattle.nv_world_model.specs.Plan.{Answer, Bounced, Direct, NoData, Plan}
use Rattle.nv_world_model.specs.Share.{Share}
use Rattle.nv_world_model.specs.ShareArea.{share_entry}
use Rattle.nv_world_model.specs.Seat.{held_by, held_in, numbers_behind, rest}
use Rattle.nv_world_model.specs.Step.{device_take, device_took, replied, step}
use Rattle.nv_world_model.specs.View.{guest_of_tag}
use Rattle.nv_world_model.specs.World.{Flying, InDevice, Lane, Queued, Tag, World, tag_changed, tag_in, tag_of}
use Rattle.nv_world_model.proofs.Seats.{slice_get-set}
use Rattle.nv_laws_sound.specs.Consistent.{IsPlanned}
use Rattle.nv_laws_sound.proofs.HeldEntries.{held-all}
use Rattle.nv_laws_sound.proofs.Lists.{slice_get-below, slice_get-there, some-same}
use Rattle.nv_laws_sound.proofs.OwnWork.{own-of}
use Rattle.nv_laws_sound.proofs.PlanSizes.{own_work}
use Rattle.nv_laws_sound.proofs.EntryFields.{own_units}
use Rattle.nv_laws_sound.proofs.Rings.{between-head, far-some}
use Rattle.nv_laws_sound.proofs.TakenEvents.{queued-at, took-world}
use Rattle.nv_laws.proofs.others.Behind.{retagged-by}
use Rattle.nv_laws.proofs.others.Parts.{held-put}
use Rattle.nv_laws.proofs.others.RingEvents.{front-is}
use Rattle.nv_laws.specs.Following.{GoesAlong, IsReached}
use Rattle.nv_laws.specs.Related.{IsUnderWay, Related, form_has_bytes, is_left, left_where, plan_hides}
use Rattle.nv_laws.proofs.related.Keeping.{row-any}
use Rattle.nv_laws.proofs.related.Goings.{dull-goes, none-goes}
use Rattle.nv_laws.proofs.related.Within.{planned-own}
use Rattle.nv_laws.proofs.related.Ways.{device-way, either-way}
use Rattle.nv_laws.proofs.headline.Retagged.{retagged}
use Rattle.nv_laws.proofs.headline.Whole.{all-behind, buffer-fewer, placed-below, unit_total}

-- ---- hidden bytes

-- a command none of whose units has moved hides nothing
any-never : {X : Type 0} (xs : List X) → list_any (λ _. false) xs ≡ false
any-never [] = refl
any-never (x ∷ xs) = any-never xs

and-never : (b c : Bool) → c ≡ false → (b && c) ≡ false
and-never true c e = e
and-never false c e = refl

unmoved-hides : (plan : Plan) (addr : ℕ) → plan_hides plan (λ number. true) addr ≡ false
unmoved-hides (Answer st) addr = refl
unmoved-hides (NoData work) addr = refl
unmoved-hides (Direct work) addr = refl
unmoved-hides (Bounced work) addr = and-never (is_read work.opcode) _ (any-never (numbers_of work))

-- ---- taken into the device

differed-none : (entry : List ℕ) (host : ℕ → ℕ) → (held_of entry host).differed ≡ false
unfolding held_of
differed-none entry host = refl

module _ (guest : Guest) (entry : List ℕ) (share : Share) (is : IsPlanned guest entry share) (h : Held)
    (left : h.left ≡ range_with_len 0 (unit_total guest entry share is)) (none : h.differed ≡ false) where
  abbrev own : Work
  own = own_work guest entry share is

  -- what has come of it is that none of its units has moved
  pub taken-rest : blocks_in guest.namespace < 2 ^ 32 → rest share.numbers false ≡ rest (numbers_behind share h.left) h.differed
  taken-rest few =
      sym (ap (λ ns. rest ns h.differed) (ap (numbers_behind share) left ∙ all-behind guest entry share is few) ∙ ap (rest share.numbers) none)

  is-in : (index : ℕ) → index < unit_total guest entry share is → is_left (Some h) index ≡ true
  is-in index below =
      ap (λ ns. list_any (λ k. k == index) ns) left
      ∙ row-any index 0 (unit_total guest entry share is) (omega arith) (omega (arith, below))

  -- no byte more has to be in its pages
  same-form : (form : Form) (work : Work) (index i addr : ℕ) → own ≡ work → form_of own.opcode ≡ form → slice_get (places_of_block work index) i ≡ Some (At addr)
      → form_has_bytes form (is_left (Some h) index) ≡ true → form_has_bytes form true ≡ true
  same-form (Transfer true) work index i addr same form at has =
      let here : slice_get (places_of_block own index) i ≡ Some (At addr) = subst (λ (x : Work). slice_get (places_of_block x index) i ≡ Some (At addr)) (sym same) at in
      let bad : true ≡ false = sym has ∙ ap (λ b. form_has_bytes (Transfer true) b) (is-in index (placed-below guest entry share is true index i (At addr) form here)) in
      cc
  same-form (Transfer false) work index i addr same form at has = refl
  same-form Clear work index i addr same form at has = has
  same-form Manage work index i addr same form at has = has
  same-form Keep work index i addr same form at has = has

  pub taken-way : (bounce slot : ℕ) (host memory : ℕ → ℕ) → IsUnderWay guest entry share (left_where (Queued slot) None) bounce host memory
      → IsUnderWay guest entry share (left_where InDevice (Some h)) bounce host memory
  taken-way bounce slot host memory was =
      record {
        steady = was.steady;
        buffer = buffer-fewer share.plan (λ number. true) (is_left (Some h)) bounce host memory
            (λ work index i addr goes at has.
            (let same : own ≡ work = some-same own work (sym (planned-own guest entry share is) ∙ goes) in
            subst (λ (x : Work). form_has_bytes (form_of x.opcode) true ≡ true) same
            (same-form (form_of own.opcode) work index i addr same refl at
            (subst (λ (x : Work). form_has_bytes (form_of x.opcode) (is_left (Some h) index) ≡ true) (sym same) has)))) was.buffer;
      }

module _ (host_bytes : ℕ) (geometry : Geometry) (number : ℕ) (guest : Guest) (given : slice_get geometry.guests number ≡ Some guest)
    (w : World) (reached : IsReached host_bytes geometry w) (p : Private) (related : Related geometry number guest w p) where
  few_here : blocks_in guest.namespace < 2 ^ 32
  few_here = (reached.laid.given number guest given).small

  -- ---- takes

  took-related : (lane tag : ℕ) (l : Lane) (d : DeviceLane) (held : Option Held) (t : Tag) → slice_get w.lanes lane ≡ Some l → slice_get w.device lane ≡ Some d
      → slice_get l.tags tag ≡ Some t → slice_get d.held tag ≡ Some held → tag_stands (is_queued_at d.head) t ≡ true → guest_of_tag t ≡ Some number
      → Related geometry number guest (device_took lane (front_entry geometry.mediator lane d w.host) w) p
  took-related lane tag l d held t at there found under next own =
      let before = reached.consistent.of_tags.lanes lane l d at there in
      let tags = before.positions.tags in
      let among = slice_get-below l.tags tag t found in
      let tag_below : tag < tag_count = omega (arith, tags, among) in
      let lane_below = slice_get-below w.lanes lane l at in
      let a = queued-at geometry lane tag d.head w.host l.head d held t (before.tags tag t held found under) next in
      let whose : a.command.guest ≡ number = some-same a.command.guest number (sym (ap guest_of_tag a.flies) ∙ own) in
      let same_guest : a.guest ≡ guest = some-same a.guest guest (sym a.is.given ∙ ap (slice_get geometry.guests) whose ∙ given) in
      let mine : (a.command.guest == number) ≡ true = eq-eqb a.command.guest number whose in
      let planned : IsPlanned guest a.command.entry a.share = subst (λ g. IsPlanned g a.command.entry a.share) same_guest a.planned in
      let entry = share_entry a.share a.guest.namespace a.guest a.command.entry geometry.mediator lane tag in
      let as_ours : entry ≡ share_entry a.share guest.namespace guest a.command.entry geometry.mediator lane tag =
      ap (λ (g : Guest). share_entry a.share g.namespace g a.command.entry geometry.mediator lane tag) same_guest in
      let h : Held = held_of entry w.host in
      let part = own-of guest a.command.entry a.share planned in
      let all : h.left ≡ range_with_len 0 (unit_total guest a.command.entry a.share planned) = ap (λ (e : List ℕ). (held_of e w.host).left) as_ours
      ∙ held-all host_bytes (length w.lanes) geometry reached.laid number guest given lane tag lane_below tag_below a.command.entry a.share planned a.some w.host
      ∙ ap (λ o. range_with_len 0 (own_units (form_of o) part.own)) (sym part.opcode) in
      let few : blocks_in guest.namespace < 2 ^ 32 = few_here in
      let new = Flying a.command a.share InDevice in
      let was = Flying a.command a.share (Queued d.head) in
      let flies : slice_get l.tags tag ≡ Some was = found ∙ ap (λ x. Some x) a.flies in
      let here : tag_of w lane tag ≡ Some was = ap (λ o. tag_in o tag) at ∙ flies in
      let behind = record d { head = next_slot ring_size d.head; held = set d.held tag (Some h) } in
      let z = record w { lanes = set w.lanes lane (tag_changed tag new l); device = set w.device lane behind } in
      let none_held : slice_get d.held tag ≡ Some None = under ∙ ap (λ x. Some x) a.not_held in
      took-world (λ x. Related geometry number guest x p) geometry w lane tag l d held t a tag_below at there found
      (retagged host_bytes geometry number guest given w reached lane tag a.command a.share (Queued d.head) InDevice here mine None (Some h) z
      (retagged-by w z lane tag l (tag_changed tag new l) d behind was new at there flies refl refl refl (λ b apart. held-put d.held tag (Some h) b apart))
      (ap (λ o. held_in o tag) there ∙ ap held_by none_held)
      (ap (λ o. held_in o tag) (slice_get-set w.device lane d behind there) ∙ ap held_by (slice_get-set d.held tag None (Some h) none_held))
      (λ x b y addr apart found_there bytes. refl)
      p related refl refl refl refl
      (taken-rest guest a.command.entry a.share planned h all (differed-none entry w.host) few)
      (λ addr e. unmoved-hides a.share.plan addr)
      (λ rel. (
        taken-way guest a.command.entry a.share planned h all (differed-none entry w.host) (bounce_page geometry.mediator lane tag) d.head w.host p.memory rel.0,
        (λ work goes read. differed-none entry w.host),
      )))

  pub takes-go : (lane : ℕ) → owner (event.DevTake lane) w ≡ Some number
      → GoesAlong geometry number guest (event.DevTake lane) w p (step geometry (event.DevTake lane) w)
  unfolding step
  takes-go lane mine =
      let dull = dull-goes geometry number guest (event.DevTake lane) w p refl related in
      let P = GoesAlong geometry number guest (event.DevTake lane) w p in
      device-way P w dull (slice_get w.device lane) (λ d. device_take geometry.mediator lane d w) (λ d there.
      either-way P w dull (is_empty d.head d.tail) _ _ (λ none. dull reply.Idle refl) (λ some.
      (let among = slice_get-below w.device lane d there in
      let sides = reached.consistent.of_tags.sides in
      let l = slice_get-there w.lanes lane (omega (arith, among, sides)) in
      let before = reached.consistent.of_tags.lanes lane l.0 d l.1 there in
      let waits : d.head ≡ d.tail → ⊥ = eqb-false d.head d.tail some in
      let next = before.queued d.head (between-head d.head d.tail before.positions.head before.positions.tail (far-some d.head d.tail before.positions.head before.positions.tail waits)) in
      let tags = before.positions.tags in
      let sized = before.positions.held in
      let inside = slice_get-below l.0.tags next.tag next.there next.is in
      let held = slice_get-there d.held next.tag (omega (arith, tags, sized, inside)) in
      none-goes geometry number guest (event.DevTake lane) w p refl (replied reply.Done (device_took lane (front_entry geometry.mediator lane d w.host) w)) refl
      (took-related lane next.tag l.0 d held.0 next.there l.1 there next.is held.1 next.stands
      (sym (front-is host_bytes geometry w reached.laid reached.consistent.of_tags lane l.0 d next.tag next.there l.1 there next.is next.stands) ∙ mine)))))
