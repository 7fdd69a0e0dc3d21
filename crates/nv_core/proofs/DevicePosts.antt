-- Completions that the physical controller posts, from the device to the world.
use Rattle.std.proofs.Common.{◌≡◌, ℕ, ◌<◌, Bool, true, false, cond, ◌&&◌, ◌==◌, eq-eqb, eqb-true, nat_lt, List, [], ◌∷◌, length, set, slice_get, Option}
use Rattle.std.proofs.Common.{Some, None, is_some, refl, sym, ap, ◌∙◌, subst}
use Rattle.std.specs.Prelude.{◌↔◌, IfSome, IsTrue}
use Rattle.nv_core.specs.State.{IsOf, IsSameSize, IsStep, State, world_of}
use Rattle.nv_core.proofs.DeviceNeeds.{IsHoldingAt, holding-at}
use Rattle.nv_core.proofs.DeviceSteps.{after, held_event, no-slot, none-held, same-world, some-held, stays}
use Rattle.nv_core.proofs.Placed.{same-size}
use Rattle.nv_device.specs.Physical.{done_where, has_ended, held_at, is_over, lane_of}
use Rattle.nv_device.specs.State.{Physical}
use Rattle.nv_device.specs.Posting.{IsPosted}
use Rattle.nv_device.specs.declared.response.Response.TheVariants as response
use Rattle.nv_entry.specs.Status.{StatusField}
use Rattle.nv_model.specs.Memory.{byte_in}
use Rattle.nv_model.proofs.Endings.{and-true}
use Rattle.nv_model.specs.declared.reply.Reply.TheVariants as reply
use Rattle.nv_disk.specs.Flat.{byte_of_block}
use Rattle.nv_disk.specs.Marks.{mark_of}
use Rattle.nv_world_model.specs.Area.{tag_count}
use Rattle.nv_world_model.specs.Device.{DeviceLane, Held, completion_posted, completion_written, held_status}
use Rattle.nv_world_model.specs.Geometry.{Geometry}
use Rattle.nv_world_model.specs.Step.{After, device_fail, device_post, device_posted, is_success, replied, step}
use Rattle.nv_world_model.specs.World.{Answered, Flying, InDevice, Lane, Tag, World, tag_changed}
use Rattle.nv_world_model.specs.declared.event.Event.TheVariants as event
use Rattle.nv_laws_sound.proofs.Retags.{stands-is}

-- ---- the world with a completion

module _ (geometry : Geometry) (s : State) (lane slot : ℕ) (h : Held) (a : IsHoldingAt geometry s lane slot h) where
  -- its tag flies
  flies : slice_get a.sides.l.tags slot ≡ Some (Flying a.holds.command a.holds.share InDevice)
  flies = a.at_tag ∙ ap (λ (t : Tag). Some t) a.holds.flies

  -- the lanes with the tag answered
  abbrev pub answered : List Lane
  answered = set s.lanes lane (tag_changed slot (Flying a.holds.command a.holds.share (Answered a.sides.d.posted)) a.sides.l)

  posted-world : (st : StatusField) (host : List ℕ) (device : Physical) → IsOf geometry s → IsPosted lane slot st s.host s.device host device
      → world_of (record s { host = host; device = device; lanes = answered }) ≡ device_posted geometry.mediator lane slot st a.sides.d (world_of s)
  unfolding device_posted
  posted-world st host device of p =
      let w = world_of s in
      let d = a.sides.d in
      let written = completion_written geometry.mediator lane slot st d (byte_in s.host) in
      let behind : World = record w { host = written; lanes = answered; device = set s.device.lanes lane (completion_posted slot d) } in
      same-world (world_of (record s { host = host; device = device; lanes = answered })) behind
      (p.host
      ∙ ap (λ (m : ℕ). completion_written m lane slot st (lane_of s.device lane) (byte_in s.host)) of.mediator
      ∙ ap (λ (x : DeviceLane). completion_written geometry.mediator lane slot st x (byte_in s.host)) a.sides.seen)
      (ap (λ (q : Physical). byte_of_block q.disk) p.device)
      (ap (λ (q : Physical). mark_of q.kept) p.device)
      (ap (λ (q : Physical). q.lanes) p.device ∙ ap (λ (x : DeviceLane). set s.device.lanes lane (completion_posted slot x)) a.sides.seen)
      refl refl
      ∙ sym (stands-is w lane slot a.sides.l d a.holds.command a.holds.share InDevice (Answered d.posted) written (completion_posted slot) a.sides.at_lane a.sides.at_device flies)

-- ---- the events

-- host, disk and area are as large as before
posted-size : (s : State) (lane slot : ℕ) (st : StatusField) (host : List ℕ) (device : Physical) (lanes : List Lane) → IsPosted lane slot st s.host s.device host device
    → length host ≡ length s.host → IsSameSize s (record s { host = host; device = device; lanes = lanes })
posted-size s lane slot st host device lanes p sized =
    record {
      host = sized;
      mediator = ap (λ (q : Physical). q.mediator) p.device;
      blocks = ap (λ (q : Physical). length q.disk) p.device;
    }

-- a command that has ended
pub record HasEnded (o : Option Held) : Type 0 where
  pub h : Held
  pub there : o ≡ Some h
  pub over : h.left ≡ []

over-none : (left : List ℕ) → response.Done ≡ done_where (is_over left) → left ≡ []
over-none [] e = refl
over-none (number ∷ left) e = cc

pub ended-by : (o : Option Held) → response.Done ≡ done_where (has_ended o) → HasEnded o
ended-by None e = cc
ended-by (Some h) e = record { h = h; there = refl; over = over-none h.left e }

module _ (geometry : Geometry) (s : State) (is : IsOf geometry s) (lane slot : ℕ) where
  abbrev posts : Held → DeviceLane → After
  posts h d = device_post h.left geometry.mediator lane slot h d (world_of s)

  abbrev fails : StatusField → Held → DeviceLane → After
  fails st h d = device_fail geometry.mediator lane slot st d (world_of s)

  pub post-no_slot : (nat_lt lane (length s.device.lanes) && nat_lt slot tag_count) ≡ false → IsStep geometry (event.DevPost lane slot) s reply.Ignored s
  unfolding step
  post-no_slot none = record { after = sym (no-slot geometry s is lane slot posts none); size = same-size s }

  pub fail-no_slot : (st : StatusField) → (nat_lt lane (length s.device.lanes) && nat_lt slot tag_count) ≡ false
      → IsStep geometry (event.DevFail lane slot st) s reply.Ignored s
  unfolding step
  fail-no_slot st none = record { after = sym (no-slot geometry s is lane slot (fails st) none); size = same-size s }

  -- units are left, or there is no command
  pub post-not : (host : List ℕ) (device : Physical) → lane < length s.device.lanes → slot < tag_count
      → response.Idle ≡ done_where (has_ended (held_at s.device lane slot)) → (device ≡ s.device) × (host ≡ s.host)
      → IsStep geometry (event.DevPost lane slot) s reply.Idle (record s { host = host; device = device })
  unfolding step
  post-not host device below slot_below told same =
      stays geometry (event.DevPost lane slot) s reply.Idle host device same (by_held (held_at s.device lane slot) refl told)
    where
      by_left : (left : List ℕ) (h : Held) (d : DeviceLane) → response.Idle ≡ done_where (is_over left)
          → device_post left geometry.mediator lane slot h d (world_of s) ≡ replied reply.Idle (world_of s)
      by_left [] h d e = cc
      by_left (number ∷ left) h d e = refl

      by_held : (o : Option Held) → held_at s.device lane slot ≡ o → response.Idle ≡ done_where (has_ended o)
          → held_event posts lane slot (world_of s) ≡ replied reply.Idle (world_of s)
      by_held None e told = none-held geometry s is lane slot posts below slot_below e
      by_held (Some h) e told =
          let a = holding-at geometry s lane slot h is below e in
          some-held geometry s is lane slot posts h a ∙ by_left h.left h a.sides.d told

  -- the completion of a command that has ended
  pub post-done : (host : List ℕ) (device : Physical) (o : HasEnded (held_at s.device lane slot)) → (a : IsHoldingAt geometry s lane slot o.h)
      → IfSome (held_at s.device lane slot) (λ h. IsPosted lane slot (held_status h) s.host s.device host device)
      → length host ≡ length s.host
      → IsStep geometry (event.DevPost lane slot) s reply.Done (record s { host = host; device = device; lanes = answered geometry s lane slot o.h a })
  unfolding step
  post-done host device o a done sized =
      let p : IsPosted lane slot (held_status o.h) s.host s.device host device =
      subst (λ (x : Option Held). IfSome x (λ h. IsPosted lane slot (held_status h) s.host s.device host device)) o.there done in
      record {
        after =
            ap (λ (w : World). after w reply.Done) (posted-world geometry s lane slot o.h a (held_status o.h) host device is p)
            ∙ sym (some-held geometry s is lane slot posts o.h a
            ∙ ap (λ (left : List ℕ). device_post left geometry.mediator lane slot o.h a.sides.d (world_of s)) o.over);
        size = posted-size s lane slot (held_status o.h) host device (answered geometry s lane slot o.h a) p sized;
      }

  -- no command that could fail
  pub fail-idle : (st : StatusField) → lane < length s.device.lanes → slot < tag_count → is_some (held_at s.device lane slot) ≡ false
      → IsStep geometry (event.DevFail lane slot st) s reply.Idle s
  unfolding step
  fail-idle st below slot_below none =
      record { after = sym (none-held geometry s is lane slot (fails st) below slot_below (empty (held_at s.device lane slot) none)); size = same-size s }
    where
      empty : (o : Option Held) → is_some o ≡ false → o ≡ None
      empty None e = refl
      empty (Some h) e = cc

  -- a failure with success
  pub fail-success : (st : StatusField) (h : Held) → IsHoldingAt geometry s lane slot h → is_success st ≡ true
      → IsStep geometry (event.DevFail lane slot st) s reply.Ignored s
  unfolding step
  fail-success st h a success =
      record {
        after =
            sym (some-held geometry s is lane slot (fails st) h a
            ∙ ap (λ (b : Bool). cond b (replied reply.Ignored (world_of s)) (replied reply.Done (device_posted geometry.mediator lane slot st a.sides.d (world_of s)))) success);
        size = same-size s;
      }

  -- the completion of a command that fails
  pub fail-done : (st : StatusField) (h : Held) (host : List ℕ) (device : Physical) → (a : IsHoldingAt geometry s lane slot h) → is_success st ≡ false
      → IsPosted lane slot st s.host s.device host device → length host ≡ length s.host
      → IsStep geometry (event.DevFail lane slot st) s reply.Done (record s { host = host; device = device; lanes = answered geometry s lane slot h a })
  unfolding step
  fail-done st h host device a failure p sized =
      record {
        after =
            ap (λ (w : World). after w reply.Done) (posted-world geometry s lane slot h a st host device is p)
            ∙ sym (some-held geometry s is lane slot (fails st) h a
            ∙ ap (λ (b : Bool). cond b (replied reply.Ignored (world_of s)) (replied reply.Done (device_posted geometry.mediator lane slot st a.sides.d (world_of s)))) failure);
        size = posted-size s lane slot st host device (answered geometry s lane slot h a) p sized;
      }

-- ---- what was told

-- a command is there
pub some-there_by : (o : Option Held) (b : Bool) → b ≡ is_some o → b ≡ true → (h : Held) × (o ≡ Some h)
some-there_by None b is e = (let bad : true ≡ false = sym e ∙ is in cc)
some-there_by (Some h) b is e = (h, refl)

-- whether a status is that of success
pub success-told : (st : StatusField) (b : Bool) → IsTrue b ↔ ((st.sct ≡ 0) × (st.sc ≡ 0)) → is_success st ≡ b
success-told st true tells =
    let both = tells.0 refl in
    ap (λ (x : Bool). x && st.sc == 0) (eq-eqb st.sct 0 both.0) ∙ eq-eqb st.sc 0 both.1
success-told st false tells = by_test (is_success st) refl
  where
    by_test : (t : Bool) → is_success st ≡ t → is_success st ≡ false
    by_test false e = e
    by_test true e =
        let both = and-true (st.sct == 0) (st.sc == 0) e in
        let bad : false ≡ true = tells.1 (eqb-true st.sct 0 both.0, eqb-true st.sc 0 both.1) in
        cc
