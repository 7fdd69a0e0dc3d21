-- Whichever bytes a call has fetched of a guest, there is a world that has them there, and the same bytes in the mediator's area.
use Rattle.std.proofs.Common.{◌≡◌, ℕ, ◌<◌, ◌≤◌, Bool, true, false, cond, not, ◌&&◌, ◌==◌, List, [], ◌∷◌, ◌++◌, length, map, nat_le, slice_get, take, All}
use Rattle.std.proofs.Common.{Option, Some, None, is_none, is_some, arith, refl, sym, ap, ◌∙◌}
use Rattle.std.proofs.lemmas.List.Elements.{All-weaker}
use Rattle.nv_fine.proofs.Within.{map-same}
use Rattle.nv_laws_sound.proofs.Changes.{host-consistent}
use Rattle.nv_laws_sound.proofs.phases.Events.{posted-below}
use Rattle.nv_laws_sound.proofs.phases.Kept.{phased-host, ring-of-lane}
use Rattle.nv_laws_sound.specs.Area.{SameInLane}
use Rattle.nv_laws_sound.specs.LaidOut.{IsLaidOut}
use Rattle.nv_laws_sound.specs.Side.{IsKept, Side}
use Rattle.nv_machine.proofs.CallWalks.{owner_in-named}
use Rattle.nv_machine.proofs.ContainedFetch.{image-is}
use Rattle.nv_machine.proofs.FetchedHosts.{hosts-length, showing-there, showing_to}
use Rattle.nv_machine.proofs.Hosts.{hosts-own, hosts-read}
use Rattle.nv_machine.specs.Contained.{IsFetched}
use Rattle.nv_machine.specs.Doing.{owner_in, tag_at}
use Rattle.nv_machine.specs.Effects.{hosts_from}
use Rattle.nv_machine.specs.InWorld.{IsLive, IsNoReap, side_of}
use Rattle.nv_machine.specs.Machine.{act_fetch, fetch, fetch_then, from_one, front_entry, list_fetch}
use Rattle.nv_mem.proofs.Counts.{all_mapped-true}
use Rattle.nv_mem.specs.GuestMap.{all_mapped, mapped}
use Rattle.nv_mem.specs.MapRuns.{InImage}
use Rattle.nv_model.proofs.MemoryAlike.{front-mapped}
use Rattle.nv_model.specs.Admin.{is_queue_full}
use Rattle.nv_model.specs.Controller.{completion_queue, front}
use Rattle.nv_model.specs.Limits.{part_size}
use Rattle.nv_model.specs.Queue.{sqe_size}
use Rattle.nv_model.specs.declared.act.Act.{Act}
use Rattle.nv_model.specs.declared.act.Act.TheVariants as act
use Rattle.nv_world_model.specs.Area.{lane_start}
use Rattle.nv_world_model.specs.Geometry.{Geometry, regions_of}
use Rattle.nv_world_model.specs.Seat.{Owner}
use Rattle.nv_world_model.specs.Step.{is_io_queue}
use Rattle.nv_world_model.specs.View.{in_image}
use Rattle.nv_world_model.specs.World.{Ended, Flying, Free, Tag, Taken, World, with_host}
use Rattle.nv_world_model.specs.declared.event.Event.{Event}
use Rattle.nv_world_model.specs.declared.event.Event.TheVariants as event

-- ---- what is fetched

-- nothing, or a run of a guest's memory
pub data IsFetch (geometry : Geometry) (s : Side) (addresses : List ℕ) : Type 0 where
  Nothing : addresses ≡ [] → IsFetch geometry s addresses
  Run : (number : ℕ) (o : Owner) (addr len : ℕ) → owner_in geometry s number ≡ Some o → all_mapped (regions_of o.given) addr len ≡ true
      → addresses ≡ hosts_from (regions_of o.given) addr len → IsFetch geometry s addresses

module _ (geometry : Geometry) (s : Side) (kept : IsKept geometry s) where
  abbrev Its : List ℕ → Type 0
  Its addresses = IsFetch geometry s addresses

  one-run : {A : Type 0} (found : Option A) (addresses : A → List ℕ) → ((a : A) → found ≡ Some a → Its (addresses a)) → Its (from_one found addresses)
  one-run None addresses each = Nothing refl
  one-run (Some a) addresses each = each a refl

  when-run : (b : Bool) (xs : List ℕ) → (b ≡ true → Its xs) → Its (cond b xs [])
  when-run true xs so = so refl
  when-run false xs so = Nothing refl

  front-run : (number queue : ℕ) (o : Owner) → owner_in geometry s number ≡ Some o → Its (front_entry o queue)
  front-run number queue o whose =
      one-run (front o.controller queue) (λ addr. hosts_from (regions_of o.given) addr sqe_size) (λ addr at.
      (let n = owner_in-named geometry s number o whose in
      Run number o addr sqe_size whose
      (all_mapped-true (regions_of o.given) addr sqe_size
      (front-mapped (mapped (regions_of o.given)) o.controller queue addr (kept.queues o.number o.given o.controller n.given n.controller) at)) refl))

  act-run : (number : ℕ) (a : Act) (o : Owner) → owner_in geometry s number ≡ Some o → Its (act_fetch a o)
  act-run number (act.Store addr bytes) o whose = Nothing refl
  act-run number (act.Load addr len) o whose =
      when-run (all_mapped (regions_of o.given) addr len) (hosts_from (regions_of o.given) addr len) (λ there. Run number o addr len whose there refl)
  act-run number (act.RegRead offset) o whose = Nothing refl
  act-run number (act.RegWrite offset value) o whose = Nothing refl
  act-run number (act.Doorbell offset value) o whose = Nothing refl

  list-run : (addr len tag : ℕ) (t : Option Tag) → Its (list_fetch geometry s addr len tag t)
  list-run addr len tag None = Nothing refl
  list-run addr len tag (Some Free) = Nothing refl
  list-run addr len tag (Some (Taken command reads)) =
      one-run (owner_in geometry s command.guest) _ (λ o whose.
      when-run (command.leader == tag && all_mapped (regions_of o.given) addr len && nat_le 1 len && nat_le len part_size) (hosts_from (regions_of o.given) addr len)
      (λ so. Run command.guest o addr len whose
      (second (command.leader == tag) (all_mapped (regions_of o.given) addr len) (nat_le 1 len) (nat_le len part_size) so) refl))
    where
      second : (a b c d : Bool) → (a && b && c && d) ≡ true → b ≡ true
      second true true c d so = refl
      second true false c d so = cc
      second false b c d so = cc
  list-run addr len tag (Some (Flying command share standing)) = Nothing refl
  list-run addr len tag (Some (Ended command st share)) = Nothing refl

  pub fetch-run : (e : Event) → IsNoReap e → Its (fetch geometry e s)
  unfolding fetch
  fetch-run (event.Guest guest a) other = one-run (owner_in geometry s guest) _ (λ o whose. act-run guest a o whose)
  fetch-run (event.Admin guest) other =
      one-run (owner_in geometry s guest) _ (λ o whose.
      when-run (is_none o.controller.deletion && not (is_queue_full (completion_queue o.controller 0))) (front_entry o 0) (λ may. front-run guest 0 o whose))
  fetch-run (event.Take guest queue lane) other =
      one-run (owner_in geometry s guest) _ (λ o whose.
      one-run (slice_get s.lanes lane) _ (λ l there. when-run (is_io_queue queue) (front_entry o queue) (λ io. front-run guest queue o whose)))
  fetch-run (event.List lane tag addr len) other = list-run addr len tag (tag_at s lane tag)
  fetch-run (event.Submit lane tag) other = Nothing refl
  fetch-run (event.GiveUp lane tag) other = Nothing refl
  fetch-run (event.DevTake lane) other = Nothing refl
  fetch-run (event.DevMove lane slot number) other = Nothing refl
  fetch-run (event.DevPost lane slot) other = Nothing refl
  fetch-run (event.DevFail lane slot st) other = Nothing refl
  fetch-run (event.Keep block) other = Nothing refl
  fetch-run (event.Reap lane) other = absurd other
  fetch-run (event.Post lane tag) other = Nothing refl

-- nothing but a Reap fetches twice
pub then-none : (geometry : Geometry) (s : Side) (first : List ℕ) (e : Event) → IsNoReap e → fetch_then geometry e s first ≡ []
unfolding fetch_then
then-none geometry s first (event.Guest guest a) other = refl
then-none geometry s first (event.Admin guest) other = refl
then-none geometry s first (event.Take guest queue lane) other = refl
then-none geometry s first (event.List lane tag addr len) other = refl
then-none geometry s first (event.Submit lane tag) other = refl
then-none geometry s first (event.GiveUp lane tag) other = refl
then-none geometry s first (event.DevTake lane) other = refl
then-none geometry s first (event.DevMove lane slot number) other = refl
then-none geometry s first (event.DevPost lane slot) other = refl
then-none geometry s first (event.DevFail lane slot st) other = refl
then-none geometry s first (event.Keep block) other = refl
then-none geometry s first (event.Reap lane) other = absurd other
then-none geometry s first (event.Post lane tag) other = refl

-- ---- a memory that has them

-- a memory that is the same in the mediator's area, in which a call fetches these bytes
pub record IsShown (geometry : Geometry) (w : World) (e : Event) (fetched : List ℕ) : Type 0 where
  pub host : ℕ → ℕ
  pub same : (at : ℕ) → geometry.mediator ≤ at → at < lane_start geometry.mediator (length w.lanes) → w.host at ≡ host at
  pub there : (let first = map host (fetch geometry e (side_of w)) in first ++ map host (fetch_then geometry e (side_of w) first)) ≡ fetched

nothing-more : (xs : List ℕ) → xs ++ [] ≡ xs
nothing-more [] = refl
nothing-more (x ∷ xs) = ap (λ (ys : List ℕ). x ∷ ys) (nothing-more xs)

no-bytes : (xs : List ℕ) → length xs ≡ 0 → [] ≡ xs
no-bytes [] is = refl
no-bytes (x ∷ xs) is = absurd (omega (arith, is))

module _ (host_bytes : ℕ) (geometry : Geometry) (w : World) (laid : IsLaidOut host_bytes (length w.lanes) geometry) (live : IsLive geometry w)
    (kept : IsKept geometry (side_of w)) where
  pub shown : (e : Event) → IsNoReap e → (fetched : List ℕ) → IsFetched geometry e (side_of w) fetched → IsShown geometry w e fetched
  shown e other fetched size = by (fetch-run geometry (side_of w) kept e other)
    where
      many : length fetched ≡ length (fetch geometry e (side_of w))
      many =
          let none = ap (λ (xs : List ℕ). length xs) (then-none geometry (side_of w) (take (length (fetch geometry e (side_of w))) fetched) e other) in
          omega (arith, size, none)

      fetches : (host : ℕ → ℕ) (xs : List ℕ) → fetch geometry e (side_of w) ≡ xs → map host xs ≡ fetched
          → (let first = map host (fetch geometry e (side_of w)) in first ++ map host (fetch_then geometry e (side_of w) first)) ≡ fetched
      fetches host xs are is =
          let first : List ℕ = map host (fetch geometry e (side_of w)) in
          ap (λ (ys : List ℕ). first ++ map host ys) (then-none geometry (side_of w) first e other) ∙ nothing-more first ∙ ap (map host) are ∙ is

      by : IsFetch geometry (side_of w) (fetch geometry e (side_of w)) → IsShown geometry w e fetched
      by (Nothing none) =
          record {
            host = w.host;
            same = λ at low high. refl;
            there = fetches w.host [] none (no-bytes fetched (many ∙ ap (λ (xs : List ℕ). length xs) none));
          }
      by (Run number o addr len whose fits are) =
          record {
            host = host;
            same = λ at low high. sym (ap (λ (x : Bool). cond x (showing_to (Some o) addr fetched at) (w.host at)) (outside at low high));
            there = fetches host (hosts_from (regions_of o.given) addr len) are reads;
          }
        where
          host : ℕ → ℕ
          host at = cond (in_image o.given at) (showing_to (Some o) addr fetched at) (w.host at)

          given : slice_get geometry.guests o.number ≡ Some o.given
          given = (owner_in-named geometry (side_of w) number o whose).given

          outside : (at : ℕ) → geometry.mediator ≤ at → at < lane_start geometry.mediator (length w.lanes) → in_image o.given at ≡ false
          outside at low high = ap (λ (x : Option ℕ). is_some x) (laid.outside o.number o.given at given low high)

          size_is : length fetched ≡ len
          size_is = many ∙ ap (λ (xs : List ℕ). length xs) are ∙ hosts-length (regions_of o.given) addr len fits

          inside : All (λ at. host at ≡ showing_to (Some o) addr fetched at) (hosts_from (regions_of o.given) addr len)
          inside =
              All-weaker (InImage (regions_of o.given)) (λ at. host at ≡ showing_to (Some o) addr fetched at)
              (λ at is. ap (λ (x : Bool). cond x (showing_to (Some o) addr fetched at) (w.host at)) (image-is o.given at (laid.given o.number o.given given).sound is))
              (hosts_from (regions_of o.given) addr len) (hosts-own (regions_of o.given) addr len)

          reads : map host (hosts_from (regions_of o.given) addr len) ≡ fetched
          reads =
              map-same host (showing_to (Some o) addr fetched) (hosts_from (regions_of o.given) addr len) inside
              ∙ hosts-read (regions_of o.given) addr len (showing_to (Some o) addr fetched) fits
              ∙ sym (showing-there (Some o) o addr len fetched refl (laid.given o.number o.given given).sound.apart size_is fits)

  -- the world with that memory is as events leave it, too
  pub shown-live : (host : ℕ → ℕ) → ((at : ℕ) → geometry.mediator ≤ at → at < lane_start geometry.mediator (length w.lanes) → w.host at ≡ host at)
      → IsLive geometry (with_host host w)
  shown-live host same =
      record {
        consistent = record { of_tags = host-consistent geometry w host laid.pages in_lane live.consistent.of_tags; groups = live.consistent.groups };
        phased =
            phased-host geometry w host (λ lane below. ring-of-lane geometry lane w.host host (in_lane lane below)) (posted-below geometry w live.consistent) live.phased;
        on_pages = live.on_pages;
      }
    where
      in_lane : (lane : ℕ) → lane < length w.lanes → SameInLane w.host host geometry.mediator lane
      in_lane lane below at low high = same at (omega (arith, low)) (omega (arith, below, high))
