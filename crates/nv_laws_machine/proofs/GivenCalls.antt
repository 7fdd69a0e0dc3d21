-- Calls without memory lead from a sound side to sound sides, whichever bytes they were given.
use Rattle.std.proofs.Common.{◌≡◌, ℕ, zero, suc, ◌+◌, ◌<◌, arith, Bool, true, false, cond, ◌&&◌, ◌==◌, eq-eqb, nat_le, List, [], ◌∷◌, length, slice_get, take, Option, Some, None, refl, sym, ap, ◌∙◌, subst}
use Rattle.std.specs.List.{range_with_len}
use Rattle.nv_laws_machine.specs.Given.{AreAnswered, Asked, AsksForNone, Given, IsGiven, Unasked, side_given}
use Rattle.nv_laws_sound.specs.LaidOut.{IsLaidOut}
use Rattle.nv_laws_sound.specs.Side.{IsKept, Side, opening_side}
use Rattle.nv_machine.proofs.CallWalks.{either, one-walk, owner-walk, owner_in-named, taken-walk}
use Rattle.nv_machine.proofs.ContainedCalls.{call-contained, opening-reached}
use Rattle.nv_machine.proofs.FetchedHosts.{hosts-length}
use Rattle.nv_machine.proofs.Reached.{IsReached, reached-kept}
use Rattle.nv_machine.proofs.SideWorlds.{begun}
use Rattle.nv_machine.specs.Contained.{IsContained}
use Rattle.nv_machine.specs.Doing.{Called, Doing, owner_in, tag_at}
use Rattle.nv_machine.specs.Effects.{hosts_from}
use Rattle.nv_machine.specs.Machine.{call, called, fetch, fetch_then, from_one, front_entry, is_new, list_fetch, take_front}
use Rattle.nv_mem.specs.GuestMap.{all_mapped, everywhere, mapped}
use Rattle.nv_model.proofs.MemoryAlike.{front-mapped}
use Rattle.nv_model.specs.Controller.{front}
use Rattle.nv_model.specs.Limits.{part_size}
use Rattle.nv_model.specs.Queue.{sqe_size}
use Rattle.nv_model.specs.Transcript.{ReadDone}
use Rattle.nv_world_model.specs.Area.{completion_slot}
use Rattle.nv_world_model.specs.Geometry.{Geometry, regions_of}
use Rattle.nv_world_model.specs.Seat.{Owner}
use Rattle.nv_world_model.specs.Step.{is_io_queue}
use Rattle.nv_world_model.specs.World.{Command, Lane, Tag, Taken}
use Rattle.nv_world_model.specs.declared.event.Event.{Event}
use Rattle.nv_world_model.specs.declared.event.Event.TheVariants as event

-- what holds of each of some addresses holds everywhere in them
everywhere-each : (test : ℕ → Bool) (addr len : ℕ) → ((i : ℕ) → i < len → test (addr + i) ≡ true) → everywhere test addr len ≡ true
unfolding everywhere
everywhere-each test addr zero each = refl
everywhere-each test addr (suc len) each =
    ap (λ (b : Bool). b && everywhere test addr len) (each len (omega arith)) ∙ everywhere-each test addr len (λ i below. each i (omega (arith, below)))

-- ---- a call that asks for nothing changes nothing, whatever it is given

module _ (geometry : Geometry) (s : Side) (kept : IsKept geometry s) where
  abbrev Stays : Doing → Type 0
  Stays m = m.side ≡ s

  -- an entry is asked for where there is one
  front-some : (number queue lane addr : ℕ) (o : Owner) (l : Lane) → owner_in geometry s number ≡ Some o → slice_get s.lanes lane ≡ Some l
      → is_io_queue queue ≡ true → front o.controller queue ≡ Some addr → fetch geometry (event.Take number queue lane) s ≡ [] → ⊥
  unfolding fetch
  front-some number queue lane addr o l owns there io at none =
      let named = owner_in-named geometry s number o owns in
      let some : fetch geometry (event.Take number queue lane) s ≡ hosts_from (regions_of o.given) addr sqe_size =
      ap (λ (x : Option Owner). from_one x (λ o. from_one (slice_get s.lanes lane) (λ l. cond (is_io_queue queue) (front_entry o queue) []))) owns
      ∙ ap (λ (x : Option Lane). from_one x (λ l. cond (is_io_queue queue) (front_entry o queue) [])) there
      ∙ ap (λ (b : Bool). cond b (front_entry o queue) []) io
      ∙ ap (λ (f : Option ℕ). from_one f (λ a. hosts_from (regions_of o.given) a sqe_size)) at in
      let many : length (hosts_from (regions_of o.given) addr sqe_size) ≡ sqe_size =
      hosts-length (regions_of o.given) addr sqe_size
      (everywhere-each (mapped (regions_of o.given)) addr sqe_size
      (front-mapped (mapped (regions_of o.given)) o.controller queue addr (kept.queues o.number o.given o.controller named.given named.controller) at)) in
      let bad : sqe_size ≡ 0 = sym many ∙ ap length (sym some ∙ none) in
      cc

  take-stays : (number queue lane : ℕ) (entry : List ℕ) → fetch geometry (event.Take number queue lane) s ≡ []
      → Stays (call geometry (event.Take number queue lane) entry s).now
  unfolding called
  take-stays number queue lane entry none =
      one-walk Stays (begun s) refl (owner_in geometry s number) _ (λ o owns.
      one-walk Stays (begun s) refl (slice_get s.lanes lane) _ (λ l there.
      either Stays (begun s) refl (is_io_queue queue) _ _ (λ io. by o l owns there io (front o.controller queue) refl) (λ other. refl)))
    where
      by : (o : Owner) (l : Lane) → owner_in geometry s number ≡ Some o → slice_get s.lanes lane ≡ Some l → is_io_queue queue ≡ true → (f : Option ℕ)
          → front o.controller queue ≡ f → Stays (take_front f queue lane l entry o (begun s)).now
      by o l owns there io None at = refl
      by o l owns there io (Some addr) at = absurd (front-some number queue lane addr o l owns there io at none)

  -- a part of a list is asked for where it is read
  part-some : (lane tag addr len : ℕ) (command : Command) (reads : List ReadDone) (o : Owner) → tag_at s lane tag ≡ Some (Taken command reads)
      → command.leader ≡ tag → owner_in geometry s command.guest ≡ Some o → all_mapped (regions_of o.given) addr len ≡ true
      → (nat_le 1 len && nat_le len part_size) ≡ true → fetch geometry (event.List lane tag addr len) s ≡ [] → ⊥
  unfolding fetch
  part-some lane tag addr zero command reads o there leads owns mapped fits none = cc
  part-some lane tag addr (suc len) command reads o there leads owns mapped fits none =
      let some : fetch geometry (event.List lane tag addr (suc len)) s ≡ hosts_from (regions_of o.given) addr (suc len) =
      ap (λ (t : Option Tag). list_fetch geometry s addr (suc len) tag t) there
      ∙ ap (λ (x : Option Owner). from_one x (λ o. cond (command.leader == tag && all_mapped (regions_of o.given) addr (suc len) && nat_le 1 (suc len)
      && nat_le (suc len) part_size) (hosts_from (regions_of o.given) addr (suc len)) [])) owns
      ∙ ap (λ (b : Bool). cond b (hosts_from (regions_of o.given) addr (suc len)) [])
      (all-four (command.leader == tag) (all_mapped (regions_of o.given) addr (suc len)) (nat_le 1 (suc len)) (nat_le (suc len) part_size)
      (eq-eqb command.leader tag leads) mapped fits) in
      let bad : suc len ≡ 0 = sym (hosts-length (regions_of o.given) addr (suc len) mapped) ∙ ap length (sym some ∙ none) in
      cc
    where
      all-four : (a b c d : Bool) → a ≡ true → b ≡ true → (c && d) ≡ true → (a && b && c && d) ≡ true
      all-four true true c d first second rest = rest
      all-four true false c d first second rest = cc
      all-four false b c d first second rest = cc

  list-stays : (lane tag addr len : ℕ) (fetched : List ℕ) → fetch geometry (event.List lane tag addr len) s ≡ []
      → Stays (call geometry (event.List lane tag addr len) fetched s).now
  unfolding called
  list-stays lane tag addr len fetched none =
      taken-walk Stays (begun s) refl tag (tag_at s lane tag) _ (λ command reads there leads.
      owner-walk Stays (begun s) refl (owner_in geometry s command.guest) _ (λ o owns.
      either Stays (begun s) refl (all_mapped (regions_of o.given) addr len) _ _ (λ mapped.
      either Stays (begun s) refl (nat_le 1 len && nat_le len part_size) _ _
      (λ fits. absurd (part-some lane tag addr len command reads o there leads owns mapped fits none)) (λ other. refl)) (λ other. refl)))

  -- and the other dwords of a completion where the last one is the wanted one
  dwords-some : (lane : ℕ) (l : Lane) (dword : List ℕ) → slice_get s.lanes lane ≡ Some l → is_new l dword ≡ true
      → fetch_then geometry (event.Reap lane) s dword ≡ [] → ⊥
  unfolding fetch_then
  dwords-some lane l dword there new none =
      let bad : range_with_len (completion_slot geometry.mediator lane l.head) 12 ≡ [] =
      sym (ap (λ (o : Option Lane). from_one o (λ l. cond (is_new l dword) (range_with_len (completion_slot geometry.mediator lane l.head) 12) [])) there
      ∙ ap (λ (b : Bool). cond b (range_with_len (completion_slot geometry.mediator lane l.head) 12) []) new) ∙ none in
      cc

  reap-stays : (lane : ℕ) (fetched : List ℕ) → fetch_then geometry (event.Reap lane) s (take 4 fetched) ≡ []
      → Stays (call geometry (event.Reap lane) fetched s).now
  unfolding called
  reap-stays lane fetched none =
      one-walk Stays (begun s) refl (slice_get s.lanes lane) _ (λ l there.
      either Stays (begun s) refl (is_new l (take 4 fetched)) _ _ (λ new. absurd (dwords-some lane l (take 4 fetched) there new none)) (λ other. refl))

  unasked-stays : (e : Event) (fetched : List ℕ) → AsksForNone geometry e s fetched → Stays (call geometry e fetched s).now
  unasked-stays (event.Guest guest a) fetched none = absurd none
  unasked-stays (event.Admin guest) fetched none = absurd none
  unasked-stays (event.Take guest queue lane) fetched none = take-stays guest queue lane fetched none
  unasked-stays (event.List lane tag addr len) fetched none = list-stays lane tag addr len fetched none
  unasked-stays (event.Submit lane tag) fetched none = absurd none
  unasked-stays (event.GiveUp lane tag) fetched none = absurd none
  unasked-stays (event.DevTake lane) fetched none = absurd none
  unasked-stays (event.DevMove lane slot number) fetched none = absurd none
  unasked-stays (event.DevPost lane slot) fetched none = absurd none
  unasked-stays (event.DevFail lane slot st) fetched none = absurd none
  unasked-stays (event.Keep block) fetched none = absurd none
  unasked-stays (event.Reap lane) fetched none = reap-stays lane fetched none
  unasked-stays (event.Post lane tag) fetched none = absurd none

-- ---- the row

module _ (host_bytes lanes : ℕ) (geometry : Geometry) (laid : IsLaidOut host_bytes lanes geometry) where
  behind-reached : (s : Side) (one : Given) → IsReached lanes geometry s → IsGiven geometry s one
      → IsReached lanes geometry (call geometry one.event one.fetched s).now.side
  behind-reached s one reached (Asked fits) = reached-kept host_bytes lanes geometry laid s reached one.event one.fetched fits
  behind-reached s one reached (Unasked none) =
      subst (IsReached lanes geometry) (sym (unasked-stays geometry s reached.kept one.event one.fetched none)) reached

  all-reached : (given : List Given) (s : Side) → IsReached lanes geometry s → AreAnswered geometry given s → IsReached lanes geometry (side_given given s)
  unfolding AreAnswered side_given
  all-reached [] s reached are = reached
  all-reached (one ∷ more) s reached are =
      all-reached more one.side
      (subst (IsReached lanes geometry) (ap (λ (c : Called). c.now.side) are.0.is) (behind-reached s one reached are.0.given)) are.1

  pub given-contained : (given : List Given) → AreAnswered geometry given (opening_side geometry lanes) → (e : Event) (fetched : List ℕ)
      → IsContained geometry e fetched (side_given given (opening_side geometry lanes))
  given-contained given are e fetched =
      call-contained host_bytes lanes geometry laid e fetched (side_given given (opening_side geometry lanes))
      (all-reached given (opening_side geometry lanes) (opening-reached geometry lanes) are)
