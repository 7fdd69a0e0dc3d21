-- What a call fetches is the owner's, or of the slot that a Reap reads next.
use Rattle.std.proofs.Common.{◌≡◌, ℕ, zero, suc, ◌+◌, ◌<◌, ◌≤◌, ◌&&◌, ◌==◌, true, List, [], nat_le, not, slice_get, Option, Some, None}
use Rattle.std.proofs.Common.{is_none, is_some, arith, ap, sym, subst, refl, All}
use Rattle.std.proofs.lemmas.List.Elements.{All-cons, All-nil, All-weaker}
use Rattle.std.specs.List.{range_with_len}
use Rattle.nv_laws_sound.specs.Side.{Side}
use Rattle.nv_machine.specs.Contained.{MayFetch, guest_for}
use Rattle.nv_machine.specs.Doing.{owner_in, tag_at}
use Rattle.nv_machine.specs.Effects.{hosts_from}
use Rattle.nv_machine.specs.Machine.{act_fetch, fetch, fetch_then, from_one, front_entry, is_new, list_fetch}
use Rattle.nv_machine.proofs.CallWalks.{owner_in-named}
use Rattle.nv_machine.proofs.Hosts.{hosts-own}
use Rattle.nv_mem.specs.GuestMap.{IsSound, all_mapped}
use Rattle.nv_mem.specs.MapRuns.{InImage}
use Rattle.nv_mem.proofs.Images.{guest_of-host}
use Rattle.nv_model.proofs.QueuesKept.{by_test}
use Rattle.nv_model.specs.Admin.{is_queue_full}
use Rattle.nv_model.specs.Controller.{completion_queue, front}
use Rattle.nv_model.specs.Limits.{part_size}
use Rattle.nv_model.specs.Queue.{sqe_size}
use Rattle.nv_model.specs.declared.act.Act.{Act}
use Rattle.nv_model.specs.declared.act.Act.TheVariants as act
use Rattle.nv_world_model.specs.Area.{completion_slot}
use Rattle.nv_world_model.specs.Contained.{guest_of_one}
use Rattle.nv_world_model.specs.Geometry.{Geometry, Guest, regions_of}
use Rattle.nv_world_model.specs.Seat.{Owner}
use Rattle.nv_world_model.specs.Step.{is_io_queue}
use Rattle.nv_world_model.specs.View.{in_image}
use Rattle.nv_world_model.specs.World.{Ended, Flying, Free, Tag, Taken}
use Rattle.nv_world_model.specs.declared.event.Event.{Event}
use Rattle.nv_world_model.specs.declared.event.Event.TheVariants as event

-- the maps of the guests are sound
abbrev pub AreSound : Geometry → Type 0
AreSound geometry = (number : ℕ) (guest : Guest) → slice_get geometry.guests number ≡ Some guest → IsSound guest.memory_map

-- what lies in a guest's regions is its memory
pub image-is : (guest : Guest) (at : ℕ) → IsSound guest.memory_map → InImage (regions_of guest) at → in_image guest at ≡ true
image-is guest at sound is = ap (λ (o : Option ℕ). is_some o) (guest_of-host (regions_of guest) is.0 at sound.apart is.1)

-- addresses in a row
row-all : (P : ℕ → Type 0) (at len : ℕ) → ((a : ℕ) → at ≤ a → a < at + len → P a) → All P (range_with_len at len)
row-all P at zero each = All-nil P
row-all P at (suc len) each =
    All-cons P at (range_with_len (at + 1) len) (each at (omega arith) (omega arith))
    (row-all P (at + 1) len (λ a low high. each a (omega (arith, low)) (omega (arith, high))))

-- of one that may not be there
from_one-all : {A : Type 0} (P : ℕ → Type 0) (found : Option A) (addresses : A → List ℕ) → ((a : A) → found ≡ Some a → All P (addresses a))
    → All P (from_one found addresses)
from_one-all P None addresses each = All-nil P
from_one-all P (Some a) addresses each = each a refl

module _ (geometry : Geometry) (sound : AreSound geometry) (s : Side) where
  -- an address of a guest's memory
  abbrev Of : (number : ℕ) → (at : ℕ) → Type 0
  Of number at = (given : Guest) × ((slice_get geometry.guests number ≡ Some given) × (in_image given at ≡ true))

  hosts-of : (number : ℕ) (o : Owner) (addr len : ℕ) → owner_in geometry s number ≡ Some o → All (Of number) (hosts_from (regions_of o.given) addr len)
  hosts-of number o addr len whose =
      let owns = owner_in-named geometry s number o whose in
      let given : slice_get geometry.guests number ≡ Some o.given = subst (λ n. slice_get geometry.guests n ≡ Some o.given) (sym owns.same) owns.given in
      All-weaker (InImage (regions_of o.given)) (Of number) (λ at is. (o.given, (given, image-is o.given at (sound o.number o.given owns.given) is)))
      (hosts_from (regions_of o.given) addr len) (hosts-own (regions_of o.given) addr len)

  front-of : (number queue : ℕ) (o : Owner) → owner_in geometry s number ≡ Some o → All (Of number) (front_entry o queue)
  front-of number queue o whose =
      from_one-all (Of number) (front o.controller queue) _ (λ addr there. hosts-of number o addr sqe_size whose)

  act-of : (number : ℕ) (a : Act) (o : Owner) → owner_in geometry s number ≡ Some o → All (Of number) (act_fetch a o)
  act-of number (act.Store addr bytes) o whose = All-nil (Of number)
  act-of number (act.Load addr len) o whose =
      by_test (All (Of number)) (all_mapped (regions_of o.given) addr len) (hosts_from (regions_of o.given) addr len) [] (λ there. hosts-of number o addr len whose) (λ no. All-nil (Of number))
  act-of number (act.RegRead offset) o whose = All-nil (Of number)
  act-of number (act.RegWrite offset value) o whose = All-nil (Of number)
  act-of number (act.Doorbell offset value) o whose = All-nil (Of number)

  list-of : (lane tag addr len : ℕ) (t : Option Tag) → All (MayFetch geometry (event.List lane tag addr len) s (guest_of_one t)) (list_fetch geometry s addr len tag t)
  list-of lane tag addr len None = All-nil _
  list-of lane tag addr len (Some Free) = All-nil _
  list-of lane tag addr len (Some (Taken command reads)) =
      from_one-all (Of command.guest) (owner_in geometry s command.guest) _ (λ o whose.
      by_test (All (Of command.guest)) (command.leader == tag && all_mapped (regions_of o.given) addr len && nat_le 1 len && nat_le len part_size)
      (hosts_from (regions_of o.given) addr len) [] (λ there. hosts-of command.guest o addr len whose) (λ no. All-nil (Of command.guest)))
  list-of lane tag addr len (Some (Flying command share standing)) = All-nil _
  list-of lane tag addr len (Some (Ended command st share)) = All-nil _

  -- what is fetched first
  pub first-may : (e : Event) (fetched : List ℕ) → All (MayFetch geometry e s (guest_for e fetched s)) (fetch geometry e s)
  unfolding fetch
  first-may (event.Guest guest a) fetched = from_one-all (Of guest) (owner_in geometry s guest) _ (λ o whose. act-of guest a o whose)
  first-may (event.Admin guest) fetched =
      from_one-all (Of guest) (owner_in geometry s guest) _ (λ o whose.
      by_test (All (Of guest)) (is_none o.controller.deletion && not (is_queue_full (completion_queue o.controller 0))) (front_entry o 0) []
      (λ may. front-of guest 0 o whose) (λ no. All-nil (Of guest)))
  first-may (event.Take guest queue lane) fetched =
      from_one-all (Of guest) (owner_in geometry s guest) _ (λ o whose.
      from_one-all (Of guest) (slice_get s.lanes lane) _ (λ l there.
      by_test (All (Of guest)) (is_io_queue queue) (front_entry o queue) [] (λ io. front-of guest queue o whose) (λ no. All-nil (Of guest))))
  first-may (event.List lane tag addr len) fetched = list-of lane tag addr len (tag_at s lane tag)
  first-may (event.Submit lane tag) fetched = All-nil _
  first-may (event.GiveUp lane tag) fetched = All-nil _
  first-may (event.DevTake lane) fetched = All-nil _
  first-may (event.DevMove lane slot number) fetched = All-nil _
  first-may (event.DevPost lane slot) fetched = All-nil _
  first-may (event.DevFail lane slot st) fetched = All-nil _
  first-may (event.Keep block) fetched = All-nil _
  first-may (event.Reap lane) fetched =
      from_one-all (MayFetch geometry (event.Reap lane) s (guest_for (event.Reap lane) fetched s)) (slice_get s.lanes lane) _ (λ l there.
      row-all (MayFetch geometry (event.Reap lane) s (guest_for (event.Reap lane) fetched s)) (completion_slot geometry.mediator lane l.head + 12) 4
      (λ a low high. (l, (there, (omega (arith, low), omega (arith, high))))))
  first-may (event.Post lane tag) fetched = All-nil _

  -- and what is fetched then
  pub then-may : (e : Event) (fetched first : List ℕ) → All (MayFetch geometry e s (guest_for e fetched s)) (fetch_then geometry e s first)
  unfolding fetch_then
  then-may (event.Guest guest a) fetched first = All-nil _
  then-may (event.Admin guest) fetched first = All-nil _
  then-may (event.Take guest queue lane) fetched first = All-nil _
  then-may (event.List lane tag addr len) fetched first = All-nil _
  then-may (event.Submit lane tag) fetched first = All-nil _
  then-may (event.GiveUp lane tag) fetched first = All-nil _
  then-may (event.DevTake lane) fetched first = All-nil _
  then-may (event.DevMove lane slot number) fetched first = All-nil _
  then-may (event.DevPost lane slot) fetched first = All-nil _
  then-may (event.DevFail lane slot st) fetched first = All-nil _
  then-may (event.Keep block) fetched first = All-nil _
  then-may (event.Reap lane) fetched first =
      let May : ℕ → Type 0 = MayFetch geometry (event.Reap lane) s (guest_for (event.Reap lane) fetched s) in
      from_one-all May (slice_get s.lanes lane) _ (λ l there.
      by_test (All May) (is_new l first) (range_with_len (completion_slot geometry.mediator lane l.head) 12) []
      (λ new. row-all May (completion_slot geometry.mediator lane l.head) 12 (λ a low high. (l, (there, (omega (arith, low), omega (arith, high))))))
      (λ old. All-nil May))
  then-may (event.Post lane tag) fetched first = All-nil _
