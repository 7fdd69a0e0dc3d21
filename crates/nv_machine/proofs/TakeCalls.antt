-- Take, List and GiveUp in a world.
use Rattle.std.proofs.Common.{◌≡◌, ℕ, true, ◌&&◌, nat_le, List, [], ◌∷◌, ◌++◌, slice_get, Option, Some, None, refl, ap, ◌∙◌}
use Rattle.nv_entry.specs.Status.{StatusField}
use Rattle.nv_entry.specs.StatusCode.{done_with}
use Rattle.nv_entry.specs.declared.status_code.StatusCode.TheVariants.{InternalError, Success}
use Rattle.nv_machine.specs.Doing.{Doing, controller_put, group_at, owner_in, replied, tag_at, tag_put}
use Rattle.nv_machine.specs.InWorld.{called_in, in_world}
use Rattle.nv_machine.specs.Machine.{called, ended_at_once, list_at, take_from, take_front, take_tags}
use Rattle.nv_machine.proofs.Cases.{both-cond, both-one, both-owner, both-taken}
use Rattle.nv_machine.proofs.InWorlds.{Is, in-tags_put}
use Rattle.nv_mem.specs.GuestMap.{all_mapped}
use Rattle.nv_model.specs.Controller.{front, took}
use Rattle.nv_model.specs.Limits.{part_size}
use Rattle.nv_model.specs.Memory.{bytes_from, image}
use Rattle.nv_model.specs.Transcript.{ReadDone}
use Rattle.nv_model.specs.declared.reply.Reply.TheVariants as reply
use Rattle.nv_world_model.specs.Geometry.{Geometry, regions_of}
use Rattle.nv_world_model.specs.Seat.{Owner}
use Rattle.nv_world_model.specs.Share.{tags_of_entry}
use Rattle.nv_world_model.specs.Step as step
use Rattle.nv_world_model.specs.World.{Command, Ended, Lane, Taken, World, claimed, group, lowest}
use Rattle.nv_world_model.specs.declared.event.Event.TheVariants as event

module _ (w : World) (m : Doing) (o : Owner) where
  abbrev v : World
  v = in_world w m

  -- ---- Take

  tags-taken : (t : Option (List ℕ)) (addr queue lane : ℕ)
      → Is w (take_tags t queue lane (step.entry_at addr o v) o m) (step.take_tags t addr queue lane o v)
  unfolding step.taken_to
  tags-taken None addr queue lane = refl
  tags-taken (Some tags) addr queue lane =
      let command : Command = record { guest = o.number; queue = queue; entry = step.entry_at addr o v; leader = lowest tags } in
      ap (λ (x : World). let a : step.After = record { world = x; reply = reply.Done } in Some a)
      (in-tags_put w lane tags (Taken command []) (controller_put o.number (took o.controller queue) m))

  front-taken : (f : Option ℕ) (queue lane : ℕ) (l : Lane) (entry : List ℕ) → ((addr : ℕ) → f ≡ Some addr → entry ≡ step.entry_at addr o v)
      → Is w (take_front f queue lane l entry o m) (step.take_front f queue lane l o v)
  front-taken None queue lane l entry is = refl
  front-taken (Some addr) queue lane l entry is =
      ap (λ (e : List ℕ). called_in w (take_front (Some addr) queue lane l e o m)) (is addr refl)
      ∙ tags-taken (claimed (tags_of_entry o.given.namespace (step.entry_at addr o v)) l.tags) addr queue lane

  from-taken : (queue lane : ℕ) (l : Lane) (entry : List ℕ)
      → ((addr : ℕ) → step.is_io_queue queue ≡ true → front o.controller queue ≡ Some addr → entry ≡ step.entry_at addr o v)
      → Is w (take_from queue lane l entry o m) (step.take_from queue lane l o v)
  from-taken queue lane l entry is =
      both-cond w m (step.is_io_queue queue) _ _ _ _ (λ io. front-taken (front o.controller queue) queue lane l entry (λ addr. is addr io)) (λ none. refl)

  -- ---- List

  bytes-listed : (addr len lane tag : ℕ) (fetched : List ℕ) (command : Command) (reads : List ReadDone)
      → (all_mapped (regions_of o.given) addr len ≡ true → (nat_le 1 len && nat_le len part_size) ≡ true
      → fetched ≡ bytes_from (image (regions_of o.given) v.host) addr len)
      → Is w (list_at addr len lane tag fetched command reads o m) (step.list_at addr len lane tag command reads o v)
  unfolding step.listed
  bytes-listed addr len lane tag fetched command reads is =
      both-cond w m (all_mapped (regions_of o.given) addr len) _ _ _ _ (λ there.
      both-cond w m (nat_le 1 len && nat_le len part_size) _ _ _ _
      (λ fits. ap (λ (bytes : List ℕ). called_in w
      (replied (reply.Bytes bytes) (tag_put lane tag (Taken command (reads ++ record { addr = addr; bytes = bytes } ∷ [])) m))) (is there fits))
      (λ no. refl)) (λ no. refl)

-- ---- GiveUp

pub at_once-ended : (w : World) (m : Doing) (lane : ℕ) (tags : List ℕ) (command : Command) (st : StatusField)
    → in_world w (ended_at_once lane tags command st m) ≡ step.ended_at_once lane tags command st (in_world w m)
at_once-ended w m lane [] command st = refl
at_once-ended w m lane (tag ∷ tags) command st =
    in-tags_put w lane tags (Ended command (done_with Success) None) (tag_put lane tag (Ended command st None) m)

-- ---- the events

module _ (geometry : Geometry) (w : World) (m : Doing) where
  pub take-is : (number queue lane : ℕ) (entry : List ℕ)
      → ((o : Owner) (l : Lane) (addr : ℕ) → owner_in geometry m.side number ≡ Some o → slice_get m.side.lanes lane ≡ Some l
      → step.is_io_queue queue ≡ true → front o.controller queue ≡ Some addr → entry ≡ step.entry_at addr o (in_world w m))
      → Is w (called geometry (event.Take number queue lane) entry m) (step.step geometry (event.Take number queue lane) (in_world w m))
  unfolding called step.step
  take-is number queue lane entry is =
      both-one w m (owner_in geometry m.side number) _ _ (λ o whose.
      both-one w m (slice_get m.side.lanes lane) _ _ (λ l there.
      from-taken w m o queue lane l entry (λ addr. is o l addr whose there)))

  pub list-is : (lane tag addr len : ℕ) (fetched : List ℕ)
      → ((o : Owner) (command : Command) (reads : List ReadDone) → tag_at m.side lane tag ≡ Some (Taken command reads) → command.leader ≡ tag
      → owner_in geometry m.side command.guest ≡ Some o
      → all_mapped (regions_of o.given) addr len ≡ true → (nat_le 1 len && nat_le len part_size) ≡ true
      → fetched ≡ bytes_from (image (regions_of o.given) (in_world w m).host) addr len)
      → Is w (called geometry (event.List lane tag addr len) fetched m) (step.step geometry (event.List lane tag addr len) (in_world w m))
  unfolding called step.step
  list-is lane tag addr len fetched is =
      both-taken w m tag (tag_at m.side lane tag) _ _ (λ command reads there leads.
      both-owner w m (owner_in geometry m.side command.guest) _ _ (λ o whose.
      bytes-listed w m o addr len lane tag fetched command reads (is o command reads there leads whose)))

  pub give_up-is : (lane tag : ℕ) (fetched : List ℕ)
      → Is w (called geometry (event.GiveUp lane tag) fetched m) (step.step geometry (event.GiveUp lane tag) (in_world w m))
  unfolding called step.step group
  give_up-is lane tag fetched =
      both-taken w m tag (tag_at m.side lane tag) _ _ (λ command reads there leads.
      ap (λ (x : World). let a : step.After = record { world = x; reply = reply.Done } in Some a)
      (at_once-ended w m lane (group_at m.side lane tag) command (done_with InternalError)))
