-- The mediator's side stays sound, whichever calls are made and whichever bytes are fetched for them.
use Rattle.std.proofs.Common.{◌≡◌, ℕ, ◌+◌, Bool, true, false, cond, not, ◌&&◌, ◌==◌, List, [], length, nat_le, slice_get, take, Option, Some, None}
use Rattle.std.proofs.Common.{is_none, arith, eq-eqb, refl, sym, ap, ◌∙◌, subst}
use Rattle.nv_entry.specs.Completion.{cid_of as completed_cid, status_of}
use Rattle.nv_laws_sound.proofs.KeptEvents.{reaped-kept, step-kept}
use Rattle.nv_laws_sound.proofs.KeptWorlds.{kept-world}
use Rattle.nv_laws_sound.proofs.Lists.{some-same}
use Rattle.nv_laws_sound.specs.Kept.{IsKeptWorld}
use Rattle.nv_laws_sound.specs.LaidOut.{IsLaidOut}
use Rattle.nv_laws_sound.specs.Mediators.{IsMediators}
use Rattle.nv_laws_sound.specs.Side.{AreKept, IsKept, Side}
use Rattle.nv_machine.specs.Contained.{IsFetched}
use Rattle.nv_machine.specs.Doing.{Called, Doing, lane_changed, owner_in, tag_at}
use Rattle.nv_machine.specs.InWorld.{AreOnPages, after_in, in_world}
use Rattle.nv_machine.specs.Effects.{hosts_from}
use Rattle.nv_machine.specs.Machine.{act_fetch, admin_fetch, call, called, ended_at, list_fetch, fetch, fetch_then, from_one, front_entry, in_order, is_new, names_command, reap, take_from}
use Rattle.nv_machine.proofs.ActCalls.{acts-are}
use Rattle.nv_machine.proofs.AdminCalls.{admins-are}
use Rattle.nv_machine.proofs.CallWalks.{either, one-walk, owner_in-named}
use Rattle.nv_machine.proofs.ContainedOthers.{rest-left}
use Rattle.nv_machine.proofs.FetchedHosts.{hosts-length, nothing, showing-there, showing_to}
use Rattle.nv_machine.proofs.InWorlds.{Is}
use Rattle.nv_machine.proofs.PagesKept.{pages-kept, reaped-same}
use Rattle.nv_machine.proofs.PostCalls.{post-is}
use Rattle.nv_machine.proofs.SideWorlds.{begun, begun-with, kept-with, many-with, tails-behind, world_with}
use Rattle.nv_machine.proofs.SubmitCalls.{submit-is}
use Rattle.nv_machine.proofs.TakeCalls.{give_up-is, list-is, take-is}
use Rattle.nv_mem.proofs.Counts.{all_mapped-true}
use Rattle.nv_mem.specs.GuestMap.{all_mapped, mapped}
use Rattle.nv_model.specs.Controller.{Deletion, completion_queue, front}
use Rattle.nv_model.specs.Admin.{is_queue_full}
use Rattle.nv_model.specs.Limits.{part_size}
use Rattle.nv_model.specs.Memory.{bytes_from, image}
use Rattle.nv_model.specs.Queue.{sqe_size}
use Rattle.nv_model.specs.Transcript.{ReadDone}
use Rattle.nv_model.specs.declared.act.Act.{Act}
use Rattle.nv_model.specs.declared.act.Act.TheVariants as act
use Rattle.nv_model.specs.declared.reply.Reply.{Reply}
use Rattle.nv_model.proofs.MemoryAlike.{front-mapped}
use Rattle.nv_world_model.specs.Contained.{guest_of_one}
use Rattle.nv_world_model.specs.Geometry.{Geometry, regions_of}
use Rattle.nv_world_model.specs.Seat.{Owner}
use Rattle.nv_world_model.specs.Step as step
use Rattle.nv_world_model.specs.World.{Command, Ended, Flying, Free, Lane, Tag, Taken, World, tag_in, with_lane}
use Rattle.nv_world_model.specs.declared.event.Event.{Event}
use Rattle.nv_world_model.specs.declared.event.Event.TheVariants as event

-- a side is sound, and has so many lanes
pub record IsReached (lanes : ℕ) (geometry : Geometry) (s : Side) : Type 0 where
  pub kept : IsKept geometry s
  pub on_pages : AreOnPages s.controllers
  pub many : length s.lanes ≡ lanes

-- what a call comes to in a world, whatever its reply is
world-behind : (w : World) (c : Called) (a : step.After) → Is w c a → in_world w c.now ≡ a.world
world-behind w c a is = by c.reply is
  where
    by : (r : Option Reply) → after_in w c r ≡ Some a → in_world w c.now ≡ a.world
    by None e = cc
    by (Some r) e = ap (λ (x : step.After). x.world) (some-same _ a e)

module _ (host_bytes lanes : ℕ) (geometry : Geometry) (laid : IsLaidOut host_bytes lanes geometry) (s : Side) (reached : IsReached lanes geometry s) where
  laid-here : IsLaidOut host_bytes (length s.lanes) geometry
  laid-here = subst (λ n. IsLaidOut host_bytes n geometry) (sym reached.many) laid

  -- a call that comes to a world in which the mediator's side is kept
  kept-behind : (host : ℕ → ℕ) (m : Doing) → length m.side.tails ≡ length s.tails → IsKeptWorld geometry (in_world (world_with host s) m)
      → AreOnPages m.side.controllers → IsReached lanes geometry m.side
  kept-behind host m many is on =
      let kept : IsKept geometry m.side =
      subst (λ ts. AreKept geometry m.side.lanes ts m.side.controllers) (tails-behind host s m many) (kept-world geometry (in_world (world_with host s) m) is) in
      record { kept = kept; on_pages = on; many = sym kept.many ∙ many ∙ reached.kept.many ∙ reached.many }

  -- one that comes to what an event does there
  behind : (host : ℕ → ℕ) (e : Event) (fetched : List ℕ) → IsMediators e
      → Is (world_with host s) (call geometry e fetched s) (step.step geometry e (in_world (world_with host s) (begun s)))
      → IsReached lanes geometry (call geometry e fetched s).now.side
  behind host e fetched mine is =
      let w : World = world_with host s in
      let v : World = in_world w (begun s) in
      let here : IsKeptWorld geometry v = subst (IsKeptWorld geometry) (sym (begun-with host s)) (kept-with host s geometry reached.kept) in
      let same = world-behind w (call geometry e fetched s) (step.step geometry e v) is in
      kept-behind host (call geometry e fetched s).now (rest-left geometry s reached.kept e fetched).many
      (subst (IsKeptWorld geometry) (sym same) (step-kept host_bytes geometry e v mine laid-here here))
      (subst (λ (x : World). AreOnPages x.controllers) (sym same) (pages-kept geometry v reached.on_pages e mine))

  -- ---- what was fetched is in the world

  -- the memory of that world
  abbrev memory-of : (host : ℕ → ℕ) → ℕ → ℕ
  memory-of host = (in_world (world_with host s) (begun s)).host

  memory-is : (host : ℕ → ℕ) → memory-of host ≡ host
  memory-is host = ap (λ (x : World). x.host) (begun-with host s)

  fetched-there : (x : Option Owner) (number : ℕ) (o : Owner) (addr len : ℕ) (bytes : List ℕ) → x ≡ Some o → owner_in geometry s number ≡ Some o
      → length bytes ≡ len → all_mapped (regions_of o.given) addr len ≡ true
      → bytes ≡ bytes_from (image (regions_of o.given) (memory-of (showing_to x addr bytes))) addr len
  fetched-there x number o addr len bytes is whose size there =
      let given = (owner_in-named geometry s number o whose).given in
      showing-there x o addr len bytes is (laid.given o.number o.given given).sound.apart size there
      ∙ ap (λ (h : ℕ → ℕ). bytes_from (image (regions_of o.given) h) addr len) (sym (memory-is (showing_to x addr bytes)))

  -- the entry at the front of a queue is mapped
  front-there : (number queue addr : ℕ) (o : Owner) → owner_in geometry s number ≡ Some o → front o.controller queue ≡ Some addr
      → all_mapped (regions_of o.given) addr sqe_size ≡ true
  front-there number queue addr o whose at =
      let n = owner_in-named geometry s number o whose in
      all_mapped-true (regions_of o.given) addr sqe_size
      (front-mapped (mapped (regions_of o.given)) o.controller queue addr (reached.kept.queues o.number o.given o.controller n.given n.controller) at)

  -- as many bytes as addresses of a run that is mapped
  run-size : (o : Owner) (addr len : ℕ) (addresses bytes : List ℕ) → addresses ≡ hosts_from (regions_of o.given) addr len
      → all_mapped (regions_of o.given) addr len ≡ true → length bytes ≡ length addresses + 0 → length bytes ≡ len
  run-size o addr len addresses bytes is there size =
      let many = ap length is ∙ hosts-length (regions_of o.given) addr len there in omega (arith, size, many)

  -- ---- a guest's act

  -- where an act loads
  abbrev load_addr : Act → ℕ
  load_addr (act.Load addr len) = addr
  load_addr _ = 0

  load-fetched : (number : ℕ) (o : Owner) (addr len : ℕ) (fetched : List ℕ) → owner_in geometry s number ≡ Some o
      → all_mapped (regions_of o.given) addr len ≡ true → IsFetched geometry (event.Guest number (act.Load addr len)) s fetched → length fetched ≡ len
  unfolding fetch fetch_then
  load-fetched number o addr len fetched whose there size =
      run-size o addr len _ fetched
      (ap (λ (x : Option Owner). from_one x (λ o. act_fetch (act.Load addr len) o)) whose
      ∙ ap (λ (b : Bool). cond b (hosts_from (regions_of o.given) addr len) []) there) there size

  load-there : (number : ℕ) (o : Owner) (a : Act) (addr len : ℕ) (fetched : List ℕ) → owner_in geometry s number ≡ Some o → a ≡ act.Load addr len
      → all_mapped (regions_of o.given) addr len ≡ true → IsFetched geometry (event.Guest number a) s fetched
      → fetched ≡ bytes_from (image (regions_of o.given) (memory-of (showing_to (owner_in geometry s number) (load_addr a) fetched))) addr len
  load-there number o a addr len fetched whose is there size =
      subst (λ (b : Act). IsFetched geometry (event.Guest number b) s fetched
      → fetched ≡ bytes_from (image (regions_of o.given) (memory-of (showing_to (owner_in geometry s number) (load_addr b) fetched))) addr len) (sym is)
      (λ got. fetched-there (owner_in geometry s number) number o addr len fetched whose whose (load-fetched number o addr len fetched whose there got) there) size

  guest-reached : (number : ℕ) (a : Act) (fetched : List ℕ) → IsFetched geometry (event.Guest number a) s fetched
      → IsReached lanes geometry (call geometry (event.Guest number a) fetched s).now.side
  guest-reached number a fetched size =
      let host : ℕ → ℕ = showing_to (owner_in geometry s number) (load_addr a) fetched in
      behind host (event.Guest number a) fetched tt
      (acts-are host_bytes geometry (world_with host s) (begun s) laid-here number a fetched
      (λ o addr len whose is there. load-there number o a addr len fetched whose is there size))

  -- ---- entries

  -- where the front entry is
  abbrev or_zero : Option ℕ → ℕ
  or_zero None = 0
  or_zero (Some addr) = addr

  abbrev front_addr : Option Owner → (queue : ℕ) → ℕ
  front_addr None queue = 0
  front_addr (Some o) queue = or_zero (front o.controller queue)

  entry-there : (number queue addr : ℕ) (o : Owner) (fetched : List ℕ) → owner_in geometry s number ≡ Some o → front o.controller queue ≡ Some addr
      → length fetched ≡ length (front_entry o queue) + 0
      → fetched ≡ bytes_from (image (regions_of o.given)
      (memory-of (showing_to (owner_in geometry s number) (front_addr (owner_in geometry s number) queue) fetched))) addr sqe_size
  entry-there number queue addr o fetched whose at size =
      let there = front-there number queue addr o whose at in
      let place : front_addr (owner_in geometry s number) queue ≡ addr = ap (λ (x : Option Owner). front_addr x queue) whose ∙ ap or_zero at in
      let many = run-size o addr sqe_size (front_entry o queue) fetched
      (ap (λ (f : Option ℕ). from_one f (λ a. hosts_from (regions_of o.given) a sqe_size)) at) there size in
      subst (λ (a : ℕ). fetched ≡ bytes_from (image (regions_of o.given) (memory-of (showing_to (owner_in geometry s number) a fetched))) addr sqe_size) (sym place)
      (fetched-there (owner_in geometry s number) number o addr sqe_size fetched whose whose many there)

  admin-fetched : (number : ℕ) (o : Owner) (fetched : List ℕ) → owner_in geometry s number ≡ Some o → o.controller.deletion ≡ None
      → is_queue_full (completion_queue o.controller 0) ≡ false → IsFetched geometry (event.Admin number) s fetched
      → length fetched ≡ length (front_entry o 0) + 0
  unfolding fetch fetch_then
  admin-fetched number o fetched whose none room size =
      size ∙ ap (λ (xs : List ℕ). length xs + 0)
      (ap (λ (x : Option Owner). from_one x (λ o. admin_fetch o)) whose
      ∙ ap (λ (d : Option Deletion). cond (is_none d && not (is_queue_full (completion_queue o.controller 0))) (front_entry o 0) []) none
      ∙ ap (λ (b : Bool). cond (true && not b) (front_entry o 0) []) room)

  admin-reached : (number : ℕ) (fetched : List ℕ) → IsFetched geometry (event.Admin number) s fetched
      → IsReached lanes geometry (call geometry (event.Admin number) fetched s).now.side
  admin-reached number fetched size =
      let host : ℕ → ℕ = showing_to (owner_in geometry s number) (front_addr (owner_in geometry s number) 0) fetched in
      behind host (event.Admin number) fetched tt
      (admins-are host_bytes geometry (world_with host s) (begun s) laid-here reached.kept reached.on_pages number fetched
      (λ o addr whose none room at. entry-there number 0 addr o fetched whose at (admin-fetched number o fetched whose none room size)))

  take-fetched : (number queue lane : ℕ) (o : Owner) (l : Lane) (fetched : List ℕ) → owner_in geometry s number ≡ Some o → slice_get s.lanes lane ≡ Some l
      → step.is_io_queue queue ≡ true → IsFetched geometry (event.Take number queue lane) s fetched → length fetched ≡ length (front_entry o queue) + 0
  unfolding fetch fetch_then
  take-fetched number queue lane o l fetched whose found io size =
      size ∙ ap (λ (xs : List ℕ). length xs + 0)
      (ap (λ (x : Option Owner). from_one x (λ o. from_one (slice_get s.lanes lane) (λ l. cond (step.is_io_queue queue) (front_entry o queue) []))) whose
      ∙ ap (λ (x : Option Lane). from_one x (λ l. cond (step.is_io_queue queue) (front_entry o queue) [])) found
      ∙ ap (λ (b : Bool). cond b (front_entry o queue) []) io)

  -- where there is no such lane nothing happens
  take-nowhere : (number queue lane : ℕ) (fetched : List ℕ) → slice_get s.lanes lane ≡ None
      → (call geometry (event.Take number queue lane) fetched s).now.side ≡ s
  unfolding called
  take-nowhere number queue lane fetched none =
      one-walk (λ n. n.side ≡ s) (begun s) refl (owner_in geometry s number) _ (λ o whose.
      one-walk (λ n. n.side ≡ s) (begun s) refl (slice_get s.lanes lane) (λ l. take_from queue lane l fetched o (begun s)) (λ l at. absurd (nowhere l (sym none ∙ at))))
    where
      nowhere : (l : Lane) → None ≡ Some l → ⊥
      nowhere l is = cc

  take-reached : (number queue lane : ℕ) (fetched : List ℕ) → IsFetched geometry (event.Take number queue lane) s fetched
      → IsReached lanes geometry (call geometry (event.Take number queue lane) fetched s).now.side
  take-reached number queue lane fetched size = by (slice_get s.lanes lane) refl
    where
      by : (x : Option Lane) → slice_get s.lanes lane ≡ x → IsReached lanes geometry (call geometry (event.Take number queue lane) fetched s).now.side
      by None none = subst (IsReached lanes geometry) (sym (take-nowhere number queue lane fetched none)) reached
      by (Some l) found =
          let host : ℕ → ℕ = showing_to (owner_in geometry s number) (front_addr (owner_in geometry s number) queue) fetched in
          behind host (event.Take number queue lane) fetched tt
          (take-is geometry (world_with host s) (begun s) number queue lane fetched
          (λ o k addr whose there io at. entry-there number queue addr o fetched whose at (take-fetched number queue lane o l fetched whose found io size)))

  -- ---- a part of a list

  -- who is named by a tag
  abbrev owner_by_tag : Option ℕ → Option Owner
  owner_by_tag None = None
  owner_by_tag (Some number) = owner_in geometry s number

  list-fetched : (lane tag addr len : ℕ) (o : Owner) (command : Command) (reads : List ReadDone) (fetched : List ℕ)
      → tag_at s lane tag ≡ Some (Taken command reads) → command.leader ≡ tag → owner_in geometry s command.guest ≡ Some o
      → all_mapped (regions_of o.given) addr len ≡ true → (nat_le 1 len && nat_le len part_size) ≡ true
      → IsFetched geometry (event.List lane tag addr len) s fetched → length fetched ≡ len
  unfolding fetch fetch_then
  list-fetched lane tag addr len o command reads fetched there leads whose mapped_there fits size =
      let Hosts : List ℕ = hosts_from (regions_of o.given) addr len in
      run-size o addr len _ fetched
      (ap (list_fetch geometry s addr len tag) there
      ∙ ap (λ (x : Option Owner). from_one x (λ o.
      cond (command.leader == tag && all_mapped (regions_of o.given) addr len && nat_le 1 len && nat_le len part_size) (hosts_from (regions_of o.given) addr len) [])) whose
      ∙ ap (λ (b : Bool). cond (b && all_mapped (regions_of o.given) addr len && nat_le 1 len && nat_le len part_size) Hosts []) (eq-eqb command.leader tag leads)
      ∙ ap (λ (b : Bool). cond (b && nat_le 1 len && nat_le len part_size) Hosts []) mapped_there
      ∙ ap (λ (b : Bool). cond b Hosts []) fits) mapped_there size

  list-reached : (lane tag addr len : ℕ) (fetched : List ℕ) → IsFetched geometry (event.List lane tag addr len) s fetched
      → IsReached lanes geometry (call geometry (event.List lane tag addr len) fetched s).now.side
  list-reached lane tag addr len fetched size =
      let x : Option Owner = owner_by_tag (guest_of_one (tag_at s lane tag)) in
      let host : ℕ → ℕ = showing_to x addr fetched in
      behind host (event.List lane tag addr len) fetched tt
      (list-is geometry (world_with host s) (begun s) lane tag addr len fetched
      (λ o command reads there leads whose mapped_there fits.
      fetched-there x command.guest o addr len fetched (ap (λ (t : Option Tag). owner_by_tag (guest_of_one t)) there ∙ whose) whose
      (list-fetched lane tag addr len o command reads fetched there leads whose mapped_there fits size) mapped_there))

  -- ---- a completion

  ended-in : (w : World) (t : Option Tag) (completion : List ℕ) (lane : ℕ) (n : Doing)
      → in_world w (ended_at t (status_of completion) lane (completed_cid completion) n)
      ≡ step.ended_at t (status_of completion) lane (completed_cid completion) (in_world w n)
  ended-in w None completion lane n = refl
  ended-in w (Some Free) completion lane n = refl
  ended-in w (Some (Taken command reads)) completion lane n = refl
  ended-in w (Some (Flying command share standing)) completion lane n = refl
  ended-in w (Some (Ended command st share)) completion lane n = refl

  ended-many : (t : Option Tag) (completion : List ℕ) (lane : ℕ) (n : Doing)
      → length (ended_at t (status_of completion) lane (completed_cid completion) n).side.tails ≡ length n.side.tails
  ended-many None completion lane n = refl
  ended-many (Some Free) completion lane n = refl
  ended-many (Some (Taken command reads)) completion lane n = refl
  ended-many (Some (Flying command share standing)) completion lane n = refl
  ended-many (Some (Ended command st share)) completion lane n = refl

  completion-reached : (lane : ℕ) (l : Lane) (completion : List ℕ) → slice_get s.lanes lane ≡ Some l
      → IsReached lanes geometry
      (ended_at (slice_get l.tags (completed_cid completion)) (status_of completion) lane (completed_cid completion)
      (lane_changed lane step.completion_read (begun s))).side
  unfolding step.reaped
  completion-reached lane l completion found =
      let w : World = world_with nothing s in
      let v : World = in_world w (begun s) in
      let t : Option Tag = slice_get l.tags (completed_cid completion) in
      let n : Doing = ended_at t (status_of completion) lane (completed_cid completion) (lane_changed lane step.completion_read (begun s)) in
      let here : IsKeptWorld geometry v = subst (IsKeptWorld geometry) (sym (begun-with nothing s)) (kept-with nothing s geometry reached.kept) in
      let same : in_world w n ≡ step.reaped lane completion v =
      ended-in w t completion lane (lane_changed lane step.completion_read (begun s))
      ∙ ap (λ (x : Option Lane). step.ended_at (tag_in x (completed_cid completion)) (status_of completion) lane (completed_cid completion)
      (with_lane lane step.completion_read v)) (sym found) in
      kept-behind nothing n (ended-many t completion lane (lane_changed lane step.completion_read (begun s)))
      (subst (IsKeptWorld geometry) (sym same) (reaped-kept geometry lane completion v here))
      (subst AreOnPages (sym (ap (λ (x : World). x.controllers) same ∙ reaped-same lane completion v)) reached.on_pages)

  reap-reached : (lane : ℕ) (fetched : List ℕ) → IsReached lanes geometry (call geometry (event.Reap lane) fetched s).now.side
  unfolding called
  reap-reached lane fetched =
      let Fine : Doing → Type 0 = λ n. IsReached lanes geometry n.side in
      one-walk Fine (begun s) reached (slice_get s.lanes lane) (λ l. reap lane l fetched (begun s)) (λ l at.
      either Fine (begun s) reached (is_new l (take 4 fetched)) _ _ (λ new.
      either Fine (begun s) reached (names_command lane l (in_order fetched)) _ _
      (λ names. completion-reached lane l (in_order fetched) at) (λ strays. reached)) (λ old. reached))

  -- ---- each call

  pub reached-kept : (e : Event) (fetched : List ℕ) → IsFetched geometry e s fetched → IsReached lanes geometry (call geometry e fetched s).now.side
  unfolding called
  reached-kept (event.Guest guest a) fetched size = guest-reached guest a fetched size
  reached-kept (event.Admin guest) fetched size = admin-reached guest fetched size
  reached-kept (event.Take guest queue lane) fetched size = take-reached guest queue lane fetched size
  reached-kept (event.List lane tag addr len) fetched size = list-reached lane tag addr len fetched size
  reached-kept (event.Submit lane tag) fetched size =
      behind nothing (event.Submit lane tag) fetched tt
      (submit-is host_bytes geometry (world_with nothing s) (begun s) laid-here reached.kept (many-with nothing s) lane tag fetched)
  reached-kept (event.GiveUp lane tag) fetched size =
      behind nothing (event.GiveUp lane tag) fetched tt (give_up-is geometry (world_with nothing s) (begun s) lane tag fetched)
  reached-kept (event.DevTake lane) fetched size = reached
  reached-kept (event.DevMove lane slot number) fetched size = reached
  reached-kept (event.DevPost lane slot) fetched size = reached
  reached-kept (event.DevFail lane slot st) fetched size = reached
  reached-kept (event.Keep block) fetched size = reached
  reached-kept (event.Reap lane) fetched size = reap-reached lane fetched
  reached-kept (event.Post lane tag) fetched size =
      behind nothing (event.Post lane tag) fetched tt
      (post-is host_bytes geometry (world_with nothing s) (begun s) laid-here reached.kept reached.on_pages lane tag fetched)
