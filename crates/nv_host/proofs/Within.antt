-- `HostMediator::work` leaves a guest within its share of a lane.
use Rattle.std.proofs.Common.{◌≡◌, ℕ, ◌+◌, ◌≤◌, ◌&&◌, ◌==◌, nat_le, Bool, true, false, cond, List, [], ◌∷◌, slice_get, Some}
use Rattle.std.specs.Bool.{⊤}
use Rattle.std.proofs.Common.{arith, refl, sym, ap, ◌∙◌, subst, eqb-true, leb-true}
use Rattle.nv_core.specs.Held.{held_in}
use Rattle.nv_host.proofs.Works.{made-next, own-beside}
use Rattle.nv_host.specs.Served.{IsNext, Served, has_share, is_offered}
use Rattle.nv_host.specs.Shares.{is_within, most_given, most_needed, needed_of}
use Rattle.nv_host.specs.Sharing.{IsWithin}
use Rattle.nv_host.specs.InRow.{AreMadeBy}
use Rattle.nv_host.specs.Work.{HasEnded, IsMade, IsOneMade, IsWork, Leads, Scene}
use Rattle.nv_host.specs.declared.worked.Scope.{Scope}
use Rattle.nv_host.specs.declared.worked.Why.{Why}
use Rattle.nv_host.specs.declared.worked.Why.TheVariants as why
use Rattle.nv_core.proofs.Sides.{own-world}
use Rattle.nv_model.proofs.Endings.{and-true}
use Rattle.nv_model.specs.declared.reply.Reply.{Reply}
use Rattle.nv_world_model.specs.Geometry.{Guest}
use Rattle.nv_world_model.specs.SetUp.{SetUp}
use Rattle.nv_world_model.specs.declared.event.Event.{Event}
use Rattle.nv_world_model.specs.declared.event.Event.TheVariants as event

module _ (guest lane : ℕ) where
  -- ---- one event

  -- the guest has room in its share for what an event gives it
  abbrev IsRoomy : Event → Served → Type 0
  IsRoomy e h =
      (given : Guest) (spare : ℕ) → slice_get h.setup.geometry.guests guest ≡ Some given → slice_get h.spare guest ≡ Some spare
      → held_in guest (slice_get h.side.lanes lane) + most_given h.setup.geometry.guests e guest lane ≤ most_needed given + spare

  next-within : (e : Event) (old new : Served) (before : List ℕ) (r : Reply) (after : List ℕ) → IsNext e old before r new after → IsRoomy e old
      → IsWithin guest lane new
  next-within e old new before r after next room = λ given spare at there.
      (let fits =
      room given spare (ap (λ (s : SetUp). slice_get s.geometry.guests guest) (sym next.setup) ∙ at)
      (ap (λ (spares : List ℕ). slice_get spares guest) (sym next.spare) ∙ there) in
      let most = next.tags guest lane in
      omega (arith, fits, most))

  -- a command is taken of a guest whose share has room
  take-room : (h : Served) (number on : ℕ) (given : Guest) (spare : ℕ) → has_share h number on ≡ true
      → slice_get h.setup.geometry.guests guest ≡ Some given → slice_get h.spare guest ≡ Some spare
      → held_in guest (slice_get h.side.lanes lane) ≤ most_needed given + spare → (b : Bool) → (guest == number && lane == on) ≡ b
      → held_in guest (slice_get h.side.lanes lane) + cond b (needed_of (slice_get h.setup.geometry.guests guest)) 0 ≤ most_needed given + spare
  take-room h number on given spare share at there within false is = omega (arith, within)
  take-room h number on given spare share at there within true is =
      (let both = and-true (guest == number) (lane == on) is in
      let own : has_share h guest lane ≡ true =
      ap (λ (n : ℕ). has_share h n lane) (eqb-true guest number both.0) ∙ ap (has_share h number) (eqb-true lane on both.1) ∙ share in
      let fits : nat_le (held_in guest (slice_get h.side.lanes lane)) spare ≡ true =
      sym (ap (is_within (held_in guest (slice_get h.side.lanes lane))) there) ∙ own in
      let few = leb-true (held_in guest (slice_get h.side.lanes lane)) spare fits in
      let needed : needed_of (slice_get h.setup.geometry.guests guest) ≡ most_needed given = ap needed_of at in
      omega (arith, few, needed))

  -- only a Take is asked about
  abbrev HasOwnShare : Event → Served → Type 0
  HasOwnShare (event.Take guest queue on) h = has_share h guest on ≡ true
  HasOwnShare _ h = ⊤

  roomy : (e : Event) (h : Served) → HasOwnShare e h → IsWithin guest lane h → IsRoomy e h
  roomy (event.Take number queue on) h share within = λ given spare at there.
      take-room h number on given spare share at there (within given spare at there) (guest == number && lane == on) refl
  roomy e h share within = λ given spare at there. (let fits = within given spare at there in omega (arith, fits))

  own-share : (sc : Scope) (s : Scene) (e : Event) → IsWork sc s e → HasOwnShare e s.served
  own-share sc s (event.Take guest queue on) work =
      (and-true (is_offered s.served (event.Take guest queue on)) (has_share s.served guest on)
      (work.due_now (own-world s.served.side s.memory) (own-beside s)).0).1
  own-share sc s e work = tt

  made-within : (e : Event) (a : Scene) (r : Reply) (b : Scene) → IsMade e a r b → HasOwnShare e a.served → IsWithin guest lane a.served → IsWithin guest lane b.served
  made-within e a r b made share within =
      next-within e a.served b.served a.memory r b.memory (made-next e a r b made) (roomy e a.served share within)

  -- ---- a call

  all-within : (sc : Scope) (es : List Event) (a b : Scene) → AreMadeBy Scene (IsOneMade sc) es a b → IsWithin guest lane a.served → IsWithin guest lane b.served
  unfolding AreMadeBy
  all-within sc [] a b made within = subst (λ (s : Scene). IsWithin guest lane s.served) (sym made) within
  all-within sc (e ∷ es) a b made within =
      all-within sc es made.0 b made.2 (made-within e a made.1.reply made.0 made.1.made (own-share sc a e made.1.work) within)

  leads-within : (sc : Scope) (count : ℕ) (a b : Scene) → Leads sc count a b → IsWithin guest lane a.served → IsWithin guest lane b.served
  leads-within sc count a b leads within = all-within sc leads.events a b leads.made within

  pub ended-keeps : (sc : Scope) (most done : ℕ) (enough : Type 0) (y : Why) (a b : Scene) → HasEnded sc most done enough y a b
      → IsWithin guest lane a.served → IsWithin guest lane b.served
  ended-keeps sc most done enough why.Enough a b ended within = leads-within sc done a b ended.0 within
  ended-keeps sc most done enough why.Starved a b ended within = leads-within sc done a b ended.0 within
  ended-keeps sc most done enough why.GaveUp a b ended within =
      (let up = ended.0 in
      made-within (event.GiveUp up.last.lane up.last.tag) up.before up.last.reply b up.last.made tt (leads-within sc up.less a up.before up.leads within))
  ended-keeps sc most done enough (why.Stray on) a b ended within = leads-within sc done a b ended.0 within
