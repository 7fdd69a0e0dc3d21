-- Each event keeps the phase tags of the completion rings.
use Rattle.std.proofs.Common.{◌≡◌, ℕ, ◌<◌, ◌⊎◌, inl, inr, List, [], ◌∷◌, length, slice_get, Option, Some, None, arith, refl, sym, subst}
use Rattle.std.specs.Prelude.{◌≢◌}
use Rattle.std.proofs.lemmas.Bool.{cases_eq, ne_eqb}
use Rattle.nv_entry.specs.Status.{StatusField}
use Rattle.nv_entry.specs.Submission.{cid_of}
use Rattle.nv_model.specs.Admin.{AdminStep, NothingToDo, QueueFull, Stepped}
use Rattle.nv_model.specs.Controller.{took}
use Rattle.nv_model.specs.Memory.{put_image}
use Rattle.nv_model.specs.Private.{Private}
use Rattle.nv_model.specs.Transcript.{ReadDone}
use Rattle.nv_model.specs.declared.reply.Reply.{Reply}
use Rattle.nv_model.specs.declared.reply.Reply.TheVariants as reply
use Rattle.nv_world_model.specs.Area.{completion_slot, ring_size, tag_count}
use Rattle.nv_world_model.specs.Device.{DeviceLane, Held, device_unit, entry_taken, with_held}
use Rattle.nv_world_model.specs.Geometry.{Geometry, regions_of}
use Rattle.nv_world_model.specs.Seat.{Owner, put_back, with_memory}
use Rattle.nv_world_model.specs.Share.{tags_of_entry}
use Rattle.nv_world_model.specs.Step.{act_put_back, administered_by, device_moved, device_took, ended_at_once, entry_at, kept_block, listed}
use Rattle.nv_world_model.specs.Step.{take_front, take_tags, taken_to}
use Rattle.nv_world_model.specs.World.{Command, Ended, InDevice, Lane, World, claimed, with_controller, with_host, with_tag}
use Rattle.nv_laws_sound.specs.Consistent.{IsConsistent}
use Rattle.nv_laws_sound.specs.LaidOut.{IsLaidOut}
use Rattle.nv_laws_sound.proofs.Changes.{put_image-area}
use Rattle.nv_laws_sound.proofs.Lists.{slice_get-below, slice_get-there}
use Rattle.nv_laws_sound.proofs.MoveEvents.{area-same, held-flies, moved-elsewhere}
use Rattle.nv_laws_sound.specs.Phased.{ArePhased}
use Rattle.nv_laws_sound.proofs.phases.Kept.{SameRing, phased-device, phased-host, phased-standing, phased-tag, phased-tags, ring-of-lane}

-- the slot that is written next is one of the ring
pub posted-below : (geometry : Geometry) (w : World) → IsConsistent geometry w → (lane : ℕ) (d : DeviceLane) → slice_get w.device lane ≡ Some d → d.posted < ring_size
posted-below geometry w is lane d there =
    let among = slice_get-below w.device lane d there in
    let sides = is.of_tags.sides in
    let l = slice_get-there w.lanes lane (omega (arith, among, sides)) in
    (is.of_tags.lanes lane l.0 d l.1 there).positions.posted

module _ (host_bytes : ℕ) (geometry : Geometry) (w : World) (laid : IsLaidOut host_bytes (length w.lanes) geometry) (is : IsConsistent geometry w)
    (are : ArePhased geometry w) where
  -- ---- a guest's memory

  pub memory-phased : (o : Owner) (host : ℕ → ℕ) (memory : ℕ → ℕ) → slice_get geometry.guests o.number ≡ Some o.given
      → ArePhased geometry (with_host host w) → ArePhased geometry (with_memory o memory (with_host host w))
  memory-phased o host memory given phased =
      phased-host geometry (with_host host w) (put_image (regions_of o.given) memory host)
      (λ lane below. ring-of-lane geometry lane host (put_image (regions_of o.given) memory host)
      (put_image-area host_bytes (length w.lanes) geometry o.number o.given memory host lane laid given below))
      (posted-below geometry w is) phased

  pub act-phased : (r : Reply) (p : Private) (o : Owner) → slice_get geometry.guests o.number ≡ Some o.given → ArePhased geometry (act_put_back r p o w).world
  unfolding put_back
  act-phased reply.Done p o given = memory-phased o w.host p.memory given are
  act-phased (reply.Bytes bytes) p o given = are
  act-phased reply.Idle p o given = are
  act-phased reply.Busy p o given = are
  act-phased reply.Held p o given = are
  act-phased reply.Stale p o given = are
  act-phased reply.Unmapped p o given = are
  act-phased reply.Ignored p o given = are
  act-phased reply.NoMemory p o given = are

  pub admin-phased : (x : AdminStep) (o : Owner) → slice_get geometry.guests o.number ≡ Some o.given → ArePhased geometry (administered_by x o w).world
  unfolding put_back
  admin-phased NothingToDo o given = are
  admin-phased QueueFull o given = are
  admin-phased (Stepped c memory) o given = memory-phased o w.host memory given are

  -- ---- a command is taken, read for and ended

  taken-phased : (addr queue lane : ℕ) (tags : List ℕ) (o : Owner) → ArePhased geometry (taken_to addr queue lane tags o w)
  unfolding taken_to
  taken-phased addr queue lane tags o = phased-tags geometry lane tags _ (with_controller o.number (took o.controller queue) w) are

  tags-phased : (tags : Option (List ℕ)) (addr queue lane : ℕ) (o : Owner) → ArePhased geometry (take_tags tags addr queue lane o w).world
  tags-phased None addr queue lane o = are
  tags-phased (Some tags) addr queue lane o = taken-phased addr queue lane tags o

  pub front-phased : (addr : Option ℕ) (queue lane : ℕ) (l : Lane) (o : Owner) → ArePhased geometry (take_front addr queue lane l o w).world
  front-phased None queue lane l o = are
  front-phased (Some addr) queue lane l o =
      tags-phased (claimed (tags_of_entry o.given.namespace (entry_at addr o w)) l.tags) addr queue lane o

  pub listed-phased : (addr len lane tag : ℕ) (command : Command) (reads : List ReadDone) (o : Owner) → ArePhased geometry (listed addr len lane tag command reads o w).world
  unfolding listed
  listed-phased addr len lane tag command reads o = phased-tag geometry lane tag _ w are

  pub ended-phased : (lane : ℕ) (tags : List ℕ) (command : Command) (st : StatusField) → ArePhased geometry (ended_at_once lane tags command st w)
  ended-phased lane [] command st = are
  ended-phased lane (tag ∷ tags) command st = phased-tags geometry lane tags _ (with_tag lane tag (Ended command st None) w) (phased-tag geometry lane tag _ w are)

  -- ---- the physical controller takes an entry, and moves a unit

  pub took-phased : (lane : ℕ) (entry : List ℕ) → ArePhased geometry (device_took lane entry w)
  unfolding device_took
  took-phased lane entry =
      phased-standing geometry _ InDevice lane (cid_of entry) _ (phased-device geometry lane (entry_taken entry w.host) w (λ x. (refl, refl)) are)

  pub moved-phased : (lane slot number : ℕ) (d : DeviceLane) (h : Held) → slice_get w.device lane ≡ Some d → slice_get d.held slot ≡ Some (Some h)
      → ArePhased geometry (device_moved geometry.disk_blocks lane slot number h w)
  unfolding device_moved
  moved-phased lane slot number d h there held =
      let among = slice_get-below w.device lane d there in
      let sides = is.of_tags.sides in
      let l = slice_get-there w.lanes lane (omega (arith, among, sides)) in
      let before = is.of_tags.lanes lane l.0 d l.1 there in
      let tags = before.positions.tags in
      let sized = before.positions.held in
      let under = slice_get-below d.held slot (Some h) held in
      let below : lane < length w.lanes = omega (arith, among, sides) in
      let slot_below : slot < tag_count = omega (arith, sized, under) in
      let t = slice_get-there l.0.tags slot (omega (arith, tags, sized, under)) in
      let holds = held-flies geometry lane slot w.host l.0.head d h t.0 (before.tags slot t.0 (Some h) t.1 held) in
      let memory = (device_unit number geometry.disk_blocks h w.host w.disk w.kept).memory in
      let rings : (n : ℕ) → n < length w.lanes → (n ≡ lane) ⊎ (n ≢ lane) → SameRing geometry n w.host memory =
      λ n n_below choice. elim choice [
        | inl here ↦ subst (λ m. SameRing geometry m w.host memory) (sym here)
            (area-same host_bytes geometry (length w.lanes) lane slot laid below slot_below holds.guest holds.command.guest holds.is.given holds.command.entry holds.share holds.planned h
            w.host holds.in_device number w.disk w.kept (completion_slot geometry.mediator lane 0) (completion_slot geometry.mediator lane ring_size)
            (omega arith) (omega (arith, below)) (inl (omega arith)))
        | inr apart ↦ ring-of-lane geometry n w.host memory
            (moved-elsewhere host_bytes geometry (length w.lanes) lane slot laid below slot_below holds.guest holds.command.guest holds.is.given holds.command.entry holds.share holds.planned h
            w.host holds.in_device number w.disk w.kept n (ne_eqb n lane apart) n_below)
      ] in
      phased-device geometry lane (with_held slot _) (with_host memory w) (λ x. (refl, refl))
      (phased-host geometry w memory (λ n n_below. rings n n_below (cases_eq n lane)) (posted-below geometry w is) are)

  -- ---- a block becomes kept

  pub kept-phased : (block : ℕ) → ArePhased geometry (kept_block block w)
  unfolding kept_block
  kept-phased block = are
