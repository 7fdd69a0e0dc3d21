-- Each event of a guest or of the mediator is a call, with the bytes that are fetched in the world.
use Rattle.std.proofs.Common.{◌≡◌, ℕ, zero, suc, ◌+◌, ◌<◌, arith, Bool, true, false, cond, not, ◌&&◌, ◌==◌, eq-eqb, nat_le, List, [], ◌∷◌, ◌++◌, length, map, slice_get, Option, Some, is_none, refl, sym, ap, ◌∙◌}
use Rattle.nv_laws_sound.proofs.KeptWorlds.{kept-consistent, kept-world}
use Rattle.nv_laws_sound.proofs.Tails.{length-tails}
use Rattle.nv_laws_sound.specs.Kept.{IsKeptWorld}
use Rattle.nv_laws_sound.specs.LaidOut.{IsLaidOut}
use Rattle.nv_laws_sound.specs.Mediators.{IsMediators}
use Rattle.nv_laws_sound.specs.Side.{IsKept}
use Rattle.nv_machine.specs.Doing.{Doing, owner_in}
use Rattle.nv_machine.specs.Effects.{hosts_from}
use Rattle.nv_machine.specs.InWorld.{AreOnPages, IsLive, IsNoReap, called_in, fetched_in, in_world, side_of}
use Rattle.nv_machine.specs.Machine.{act_fetch, admin_fetch, call, fetch, fetch_then, from_one, front_entry, list_fetch}
use Rattle.nv_machine.proofs.ActCalls.{acts-are}
use Rattle.nv_machine.proofs.AdminCalls.{admins-are}
use Rattle.nv_machine.proofs.Hosts.{hosts-read}
use Rattle.nv_machine.proofs.InWorlds.{Is, in-first}
use Rattle.nv_machine.proofs.PostCalls.{post-is}
use Rattle.nv_machine.proofs.ReapCalls.{reap-is}
use Rattle.nv_machine.proofs.SubmitCalls.{submit-is}
use Rattle.nv_machine.proofs.TakeCalls.{give_up-is, list-is, take-is}
use Rattle.nv_mem.specs.GuestMap.{all_mapped, everywhere, mapped}
use Rattle.nv_model.proofs.MemoryAlike.{front-mapped}
use Rattle.nv_model.specs.Admin.{is_queue_full}
use Rattle.nv_model.specs.Controller.{Deletion, completion_queue, front}
use Rattle.nv_model.specs.Limits.{part_size}
use Rattle.nv_model.specs.Memory.{bytes_from, image}
use Rattle.nv_model.specs.Queue.{sqe_size}
use Rattle.nv_model.specs.declared.act.Act.{Act}
use Rattle.nv_model.specs.declared.act.Act.TheVariants as act
use Rattle.nv_world_model.proofs.Seats.{owner_of-is}
use Rattle.nv_world_model.specs.Geometry.{Geometry, regions_of}
use Rattle.nv_world_model.specs.Seat.{Owner}
use Rattle.nv_world_model.specs.Step.{is_io_queue, step}
use Rattle.nv_world_model.specs.World.{Lane, Tag, World}
use Rattle.nv_world_model.specs.declared.event.Event.{Event}
use Rattle.nv_world_model.specs.declared.event.Event.TheVariants as event

-- what holds of each of some addresses holds everywhere in them
everywhere-each : (test : ℕ → Bool) (addr len : ℕ) → ((i : ℕ) → i < len → test (addr + i) ≡ true) → everywhere test addr len ≡ true
unfolding everywhere
everywhere-each test addr zero each = refl
everywhere-each test addr (suc len) each =
    ap (λ (b : Bool). b && everywhere test addr len) (each len (omega arith)) ∙ everywhere-each test addr len (λ i below. each i (omega (arith, below)))

nothing-more : (xs : List ℕ) → xs ++ [] ≡ xs
nothing-more [] = refl
nothing-more (x ∷ xs) = ap (λ (ys : List ℕ). x ∷ ys) (nothing-more xs)

module _ (host_bytes : ℕ) (geometry : Geometry) (w : World) (laid : IsLaidOut host_bytes (length w.lanes) geometry) (keeps : IsKeptWorld geometry w)
    (on_pages : AreOnPages w.controllers) where
  abbrev begun : Doing
  begun = record { side = side_of w; effects = [] }

  kept : IsKept geometry (side_of w)
  kept = kept-world geometry w keeps

  -- the memory of a call that begins is the world's
  begun-host : (in_world w begun).host ≡ w.host
  begun-host = ap (λ (v : World). v.host) (in-first w)

  -- ---- what is read

  -- bytes of a guest
  guest-read : (o : Owner) (addr len : ℕ) → all_mapped (regions_of o.given) addr len ≡ true
      → map w.host (hosts_from (regions_of o.given) addr len) ++ [] ≡ bytes_from (image (regions_of o.given) (in_world w begun).host) addr len
  guest-read o addr len there =
      nothing-more (map w.host (hosts_from (regions_of o.given) addr len))
      ∙ hosts-read (regions_of o.given) addr len w.host there
      ∙ ap (λ (h : ℕ → ℕ). bytes_from (image (regions_of o.given) h) addr len) (sym begun-host)

  -- the entry at the front of a queue
  front-read : (number : ℕ) (o : Owner) (queue addr : ℕ) → owner_in geometry (side_of w) number ≡ Some o → front o.controller queue ≡ Some addr
      → map w.host (front_entry o queue) ++ [] ≡ bytes_from (image (regions_of o.given) (in_world w begun).host) addr sqe_size
  front-read number o queue addr whose at =
      let owns = owner_of-is geometry w number o whose in
      ap (λ (f : Option ℕ). map w.host (from_one f (λ a. hosts_from (regions_of o.given) a sqe_size)) ++ []) at
      ∙ guest-read o addr sqe_size
      (everywhere-each (mapped (regions_of o.given)) addr sqe_size
      (front-mapped (mapped (regions_of o.given)) o.controller queue addr (kept.queues o.number o.given o.controller owns.given owns.controller) at))

  -- ---- the events

  taken : (number queue lane : ℕ) → Is w (call geometry (event.Take number queue lane) (fetched_in geometry (event.Take number queue lane) w) (side_of w))
      (step geometry (event.Take number queue lane) (in_world w begun))
  unfolding fetch fetch_then
  taken number queue lane =
      take-is geometry w begun number queue lane (fetched_in geometry (event.Take number queue lane) w) (λ o l addr whose there io at.
      ap (λ (x : Option Owner). map w.host (from_one x (λ o. from_one (slice_get w.lanes lane) (λ l. cond (is_io_queue queue) (front_entry o queue) []))) ++ []) whose
      ∙ ap (λ (x : Option Lane). map w.host (from_one x (λ l. cond (is_io_queue queue) (front_entry o queue) [])) ++ []) there
      ∙ ap (λ (b : Bool). map w.host (cond b (front_entry o queue) []) ++ []) io
      ∙ front-read number o queue addr whose at)

  listed : (lane tag addr len : ℕ) → Is w (call geometry (event.List lane tag addr len) (fetched_in geometry (event.List lane tag addr len) w) (side_of w))
      (step geometry (event.List lane tag addr len) (in_world w begun))
  unfolding fetch fetch_then
  listed lane tag addr len =
      list-is geometry w begun lane tag addr len (fetched_in geometry (event.List lane tag addr len) w) (λ o command reads there leads whose mapped fits.
      ap (λ (t : Option Tag). map w.host (list_fetch geometry (side_of w) addr len tag t) ++ []) there
      ∙ ap (λ (x : Option Owner). map w.host (from_one x (λ o. cond (command.leader == tag && all_mapped (regions_of o.given) addr len && nat_le 1 len && nat_le len part_size)
      (hosts_from (regions_of o.given) addr len) [])) ++ []) whose
      ∙ ap (λ (b : Bool). map w.host (cond b (hosts_from (regions_of o.given) addr len) []) ++ [])
      (all-four (command.leader == tag) (all_mapped (regions_of o.given) addr len) (nat_le 1 len) (nat_le len part_size) (eq-eqb command.leader tag leads) mapped fits)
      ∙ guest-read o addr len mapped)
    where
      all-four : (a b c d : Bool) → a ≡ true → b ≡ true → (c && d) ≡ true → (a && b && c && d) ≡ true
      all-four true true c d first second rest = rest
      all-four true false c d first second rest = cc
      all-four false b c d first second rest = cc

  acted : (number : ℕ) (a : Act) → Is w (call geometry (event.Guest number a) (fetched_in geometry (event.Guest number a) w) (side_of w))
      (step geometry (event.Guest number a) (in_world w begun))
  unfolding fetch fetch_then
  acted number a =
      acts-are host_bytes geometry w begun laid number a (fetched_in geometry (event.Guest number a) w) (λ o addr len whose loads mapped.
      ap (λ (x : Option Owner). map w.host (from_one x (λ o. act_fetch a o)) ++ []) whose
      ∙ ap (λ (x : Act). map w.host (act_fetch x o) ++ []) loads
      ∙ ap (λ (b : Bool). map w.host (cond b (hosts_from (regions_of o.given) addr len) []) ++ []) mapped
      ∙ guest-read o addr len mapped)

  administered : (number : ℕ) → Is w (call geometry (event.Admin number) (fetched_in geometry (event.Admin number) w) (side_of w))
      (step geometry (event.Admin number) (in_world w begun))
  unfolding fetch fetch_then
  administered number =
      admins-are host_bytes geometry w begun laid kept on_pages number (fetched_in geometry (event.Admin number) w) (λ o addr whose none room at.
      ap (λ (x : Option Owner). map w.host (from_one x (λ o. admin_fetch o)) ++ []) whose
      ∙ ap (λ (d : Option Deletion). map w.host (cond (is_none d && not (is_queue_full (completion_queue o.controller 0))) (front_entry o 0) []) ++ []) none
      ∙ ap (λ (b : Bool). map w.host (cond (not b) (front_entry o 0) []) ++ []) room
      ∙ front-read number o 0 addr whose at)

  each : (e : Event) → IsMediators e → IsNoReap e → Is w (call geometry e (fetched_in geometry e w) (side_of w)) (step geometry e (in_world w begun))
  each (event.Guest number a) mine other = acted number a
  each (event.Admin number) mine other = administered number
  each (event.Take number queue lane) mine other = taken number queue lane
  each (event.List lane tag addr len) mine other = listed lane tag addr len
  each (event.Submit lane tag) mine other =
      submit-is host_bytes geometry w begun laid kept (length-tails w.device) lane tag (fetched_in geometry (event.Submit lane tag) w)
  each (event.GiveUp lane tag) mine other = give_up-is geometry w begun lane tag (fetched_in geometry (event.GiveUp lane tag) w)
  each (event.DevTake lane) mine other = absurd mine
  each (event.DevMove lane slot number) mine other = absurd mine
  each (event.DevPost lane slot) mine other = absurd mine
  each (event.DevFail lane slot st) mine other = absurd mine
  each (event.Keep block) mine other = absurd mine
  each (event.Reap lane) mine other = absurd other
  each (event.Post lane tag) mine other =
      post-is host_bytes geometry w begun laid kept on_pages lane tag (fetched_in geometry (event.Post lane tag) w)

  pub kept-is : (e : Event) → IsMediators e → IsNoReap e
      → called_in w (call geometry e (fetched_in geometry e w) (side_of w)) ≡ Some (step geometry e w)
  kept-is e mine other = each e mine other ∙ ap (λ (v : World). Some (step geometry e v)) (in-first w)

-- and a Reap, where the world is as events leave it
pub event-is : (host_bytes : ℕ) (geometry : Geometry) (w : World) (laid : IsLaidOut host_bytes (length w.lanes) geometry) (live : IsLive geometry w)
    (e : Event) → IsMediators e → called_in w (call geometry e (fetched_in geometry e w) (side_of w)) ≡ Some (step geometry e w)
event-is host_bytes geometry w laid live e mine = by e mine
  where
    other : (e : Event) → IsMediators e → IsNoReap e → called_in w (call geometry e (fetched_in geometry e w) (side_of w)) ≡ Some (step geometry e w)
    other e mine is = kept-is host_bytes geometry w laid (kept-consistent geometry w live.consistent) live.on_pages e mine is

    by : (e : Event) → IsMediators e → called_in w (call geometry e (fetched_in geometry e w) (side_of w)) ≡ Some (step geometry e w)
    by (event.Guest number a) mine = other (event.Guest number a) mine tt
    by (event.Admin number) mine = other (event.Admin number) mine tt
    by (event.Take number queue lane) mine = other (event.Take number queue lane) mine tt
    by (event.List lane tag addr len) mine = other (event.List lane tag addr len) mine tt
    by (event.Submit lane tag) mine = other (event.Submit lane tag) mine tt
    by (event.GiveUp lane tag) mine = other (event.GiveUp lane tag) mine tt
    by (event.DevTake lane) mine = absurd mine
    by (event.DevMove lane slot number) mine = absurd mine
    by (event.DevPost lane slot) mine = absurd mine
    by (event.DevFail lane slot st) mine = absurd mine
    by (event.Keep block) mine = absurd mine
    by (event.Reap lane) mine = reap-is geometry w live.consistent live.phased lane
    by (event.Post lane tag) mine = other (event.Post lane tag) mine tt
