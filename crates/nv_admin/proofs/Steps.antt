-- The steps of the admin queue: what is posted, what is stored, and what is kept.
use Rattle.std.proofs.Common.{◌≡◌, ℕ, Bool, true, false, List, Option, Some, None, refl, ap, ◌∙◌}
use Rattle.std.specs.List.{AllPairs}
use Rattle.std.specs.Option.{option_map}
use Rattle.nv_mem.specs.GuestMap.{IsApart, mapped}
use Rattle.nv_mem.specs.declared.region.Region.{Region}
use Rattle.nv_model.specs.Admin.{NothingToDo, admin, admin_ready}
use Rattle.nv_model.specs.Admin.{finish_deletion, front_command}
use Rattle.nv_model.specs.Controller.{Controller, Deletion, Posted, completion_queue, front, is_ready, submission_queue, took, took_of}
use Rattle.nv_model.specs.Memory.{image, put_image, stored}
use Rattle.nv_model.specs.Queue.{SubmissionQueue}
use Rattle.nv_model.proofs.MemoryAlike.{stored-at}
use Rattle.nv_model.proofs.PutImages.{image-put_image, put_image-own, put_image-twice}
use Rattle.nv_vctl.specs.Vctl.{controller_behind as behind_post, posting_of}
use Rattle.nv_vctl.specs.declared.posting.Posting.{Posting}
use Rattle.nv_admin.specs.Administering.{completed_with, completion_behind}
use Rattle.nv_admin.specs.Identify.{Stored}
use Rattle.nv_admin.specs.declared.reply.Admin.TheVariants as reply

-- ---- what is posted

-- a completion that is posted
pub posted-event : (c d before : Controller) (found : Option Posted) (s : Option Stored) (p : Posting) → Some p ≡ option_map posting_of found
    → d ≡ behind_post c found
    → completed_with found s before ≡ record { reply = reply.Done; controller = d; stored = s; completion = Some p }
posted-event c d before None s p is state = cc
posted-event c d before (Some posted) s p is state =
    let same : p ≡ posting_of posted = cc in rw (same, state) refl

-- an entry that is stored in a memory that was put back
put-stored : (rs : List Region) (memory before now : ℕ → ℕ) (addr : ℕ) (entry : List ℕ) → AllPairs IsApart rs → now ≡ put_image rs memory before
    → put_image rs (stored (image rs now) addr entry) now ≡ put_image rs (stored memory addr entry) before
put-stored rs memory before now addr entry apart is =
    ap (λ (h : ℕ → ℕ). put_image rs (stored (image rs h) addr entry) h) is
    ∙ put_image-twice rs memory (stored (image rs (put_image rs memory before)) addr entry) (stored memory addr entry) before apart
    (λ at there. stored-at (image rs (put_image rs memory before)) memory addr entry at (image-put_image rs memory before at apart there))

-- so is a completion, if there is one
pub put-completion : (rs : List Region) (memory before now : ℕ → ℕ) (o : Option Posting) → AllPairs IsApart rs → now ≡ put_image rs memory before
    → put_image rs (completion_behind o (image rs now)) now ≡ put_image rs (completion_behind o memory) before
put-completion rs memory before now None apart is = put_image-own rs now apart ∙ is
put-completion rs memory before now (Some p) apart is = put-stored rs memory before now p.addr p.entry apart is

-- ---- which step it is

pub admin-idle : (mapped : ℕ → Bool) (blocks : ℕ) (c : Controller) (memory : ℕ → ℕ) → is_ready c ≡ false → admin mapped blocks c memory ≡ NothingToDo
unfolding admin
admin-idle mapped blocks c memory not_ready = rw not_ready refl

pub admin-deletes : (mapped : ℕ → Bool) (blocks : ℕ) (c : Controller) (memory : ℕ → ℕ) (d : Deletion) → is_ready c ≡ true → c.deletion ≡ Some d
    → admin mapped blocks c memory ≡ finish_deletion d c memory
unfolding admin
admin-deletes mapped blocks c memory d up waits =
    rw up (ap (λ (o : Option Deletion). admin_ready o mapped blocks c memory) waits)

pub admin-commands : (mapped : ℕ → Bool) (blocks : ℕ) (c : Controller) (memory : ℕ → ℕ) → is_ready c ≡ true → c.deletion ≡ None
    → admin mapped blocks c memory ≡ front_command (front c 0) mapped blocks c memory
unfolding admin
admin-commands mapped blocks c memory up none =
    rw up (ap (λ (o : Option Deletion). admin_ready o mapped blocks c memory) none)

-- what taking it keeps
pub took-keeps : (c : Controller)
    → (is_ready (took c 0) ≡ is_ready c) × ((took c 0).deletion ≡ c.deletion) × (completion_queue (took c 0) 0 ≡ completion_queue c 0)
unfolding took
took-keeps c = by_queue (submission_queue c 0)
  where
    by_queue : (o : Option SubmissionQueue)
        → (is_ready (took_of o c 0) ≡ is_ready c) × ((took_of o c 0).deletion ≡ c.deletion)
        × (completion_queue (took_of o c 0) 0 ≡ completion_queue c 0)
    by_queue None = (refl, refl, refl)
    by_queue (Some q) = (refl, refl, refl)
