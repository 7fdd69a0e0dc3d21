-- A guest's acts and admin steps change its controller alone of the mediator's side.
use Rattle.std.proofs.Common.{◌≡◌, ℕ, not, ◌==◌, List, [], length, slice_index, Option, Some, None, refl}
use Rattle.nv_entry.specs.Layout.{number_bytes}
use Rattle.nv_entry.specs.Status.{StatusField}
use Rattle.nv_entry.specs.Submission.{cid_of}
use Rattle.nv_laws_sound.specs.Side.{Side}
use Rattle.nv_machine.specs.Doing.{Doing, for_one, replied}
use Rattle.nv_machine.specs.Effects.{Effect}
use Rattle.nv_machine.specs.Machine.{acted_in, admin_stores, administered_in, answered_with, completed_with, controlled, front_done, ready_done}
use Rattle.nv_machine.proofs.AdminWords.{carried_by, no_memory}
use Rattle.nv_machine.proofs.CallWalks.{either}
use Rattle.nv_machine.proofs.SideWorlds.{begun}
use Rattle.nv_mem.specs.GuestMap.{all_mapped}
use Rattle.nv_model.specs.Admin.{AdminEffect, admin_command, answered, is_queue_full}
use Rattle.nv_model.specs.Controller.{Controller, Deletion, Posted, completion_queue, doorbell, front, is_ready, post, reg_read, reg_write, took, with_submission}
use Rattle.nv_model.specs.declared.act.Act.{Act}
use Rattle.nv_model.specs.declared.act.Act.TheVariants as act
use Rattle.nv_model.specs.declared.reply.Reply.TheVariants as reply
use Rattle.nv_world_model.specs.Geometry.{regions_of, shape_of}
use Rattle.nv_world_model.specs.Seat.{Owner}

module _ (o : Owner) (s : Side) where
  -- lanes and tails are as they were
  abbrev Alone : Doing → Type 0
  Alone n = (n.side.lanes ≡ s.lanes) × (n.side.tails ≡ s.tails)

  controlled-alone : (c : Option Controller) → Alone (controlled c o (begun s)).now
  controlled-alone None = (refl, refl)
  controlled-alone (Some c) = (refl, refl)

  register-alone : (value : Option ℕ) → Alone (for_one value (begun s) (λ value. replied (reply.Bytes (number_bytes 4 value)) (begun s))).now
  register-alone None = (refl, refl)
  register-alone (Some value) = (refl, refl)

  pub acted-alone : (a : Act) (fetched : List ℕ) → Alone (acted_in a fetched o (begun s)).now
  acted-alone (act.Store addr bytes) fetched = either Alone (begun s) (refl, refl) (all_mapped (regions_of o.given) addr (length bytes)) _ _ (λ fits. (refl, refl)) (λ no. (refl, refl))
  acted-alone (act.Load addr len) fetched = either Alone (begun s) (refl, refl) (all_mapped (regions_of o.given) addr len) _ _ (λ fits. (refl, refl)) (λ no. (refl, refl))
  acted-alone (act.RegRead offset) fetched = register-alone (reg_read o.controller offset)
  acted-alone (act.RegWrite offset value) fetched = controlled-alone (reg_write (shape_of o.given).mapped o.controller offset value)
  acted-alone (act.Doorbell offset value) fetched = controlled-alone (doorbell o.controller offset value)

  completed-alone : (p : Option Posted) (es : List Effect) → Alone (completed_with p es o (begun s)).now
  completed-alone None es = (refl, refl)
  completed-alone (Some p) es = (refl, refl)

  answered-alone : (answer : Option (ℕ × StatusField)) (cid : ℕ) (c : Controller) (es : List Effect) → Alone (answered_with answer cid c es o (begun s)).now
  answered-alone None cid c es = (refl, refl)
  answered-alone (Some answer) cid c es = completed-alone (post c 0 answer.0 cid answer.1) es

  carried-alone : (done : AdminEffect) (cid : ℕ) (es : List Effect) → Alone (carried_by done cid es o (begun s)).now
  carried-alone done cid es = answered-alone done.answer cid done.controller es

  front-alone : (found : Option ℕ) (entry : List ℕ) → Alone (front_done found entry o (begun s)).now
  front-alone None entry = (refl, refl)
  front-alone (Some addr) entry =
      either Alone (begun s) (refl, refl) (is_queue_full (completion_queue o.controller 0)) _ _ (λ full. (refl, refl)) (λ room.
      carried-alone (admin_command (shape_of o.given).mapped (shape_of o.given).blocks entry (took o.controller 0) no_memory) (cid_of entry) (admin_stores entry o.given))

  ready-alone : (waiting : Option Deletion) (entry : List ℕ) → Alone (ready_done waiting entry o (begun s)).now
  ready-alone None entry = front-alone (front o.controller 0) entry
  ready-alone (Some d) entry =
      either Alone (begun s) (refl, refl) (not (slice_index o.controller.taken d.queue == 0)) _ _ (λ waits. (refl, refl)) (λ gone.
      either Alone (begun s) (refl, refl) (is_queue_full (completion_queue o.controller 0)) _ _ (λ full. (refl, refl)) (λ room.
      carried-alone (answered 0 (record (with_submission o.controller d.queue None) { deletion = None }) no_memory) d.cid []))

  pub administered-alone : (entry : List ℕ) → Alone (administered_in entry o (begun s)).now
  administered-alone entry = either Alone (begun s) (refl, refl) (is_ready o.controller) _ _ (λ ready. ready-alone o.controller.deletion entry) (λ no. (refl, refl))
