-- What is known of a command's effect, and of what it stores.
use Rattle.std.proofs.Common.{◌≡◌, ℕ, zero, suc, ◌<◌, Bool, true, false, cond, ◌==◌, eq-eqb, eqb-true, List, [], ◌∷◌, length, set, slice_get, Option, Some, None}
use Rattle.std.proofs.Common.{IsSome, arith, refl, sym, ap}
use Rattle.nv_entry.specs.declared.opcode.AdminOpcode.{AdminOpcode}
use Rattle.nv_entry.specs.declared.data_pointer.DataPointer.TheVariants as pointer
use Rattle.nv_entry.specs.declared.status_code.StatusCode.TheVariants as code
use Rattle.nv_entry.specs.Opcode.{admin_opcode, data_pointer}
use Rattle.nv_entry.specs.Submission.{fuse_of, opcode_of, psdt_of}
use Rattle.nv_mem.specs.GuestMap.{mapped}
use Rattle.nv_model.specs.Admin.{admin_command, done_by, done_with_opcode, refused}
use Rattle.nv_model.specs.Controller.{Controller, queue_count, queue_of}
use Rattle.nv_vctl.specs.Vctl.{IsIoQueue}
use Rattle.nv_vctl.proofs.Whole.{queue-below}
use Rattle.nv_admin.specs.Identify.{command_stored, done_stored, opcode_stored}

-- ---- what is kept

-- the queue of another number stays
pub queue_of-set_other : {Q : Type 0} (xs : List (Option Q)) (y : ℕ) (o : Option Q) → 0 < y
    → queue_of (slice_get (set xs y o) 0) ≡ queue_of (slice_get xs 0)
queue_of-set_other [] y o io = refl
queue_of-set_other (x ∷ xs) zero o io = absurd (omega arith)
queue_of-set_other (x ∷ xs) (suc y) o io = refl

-- a queue that is there, and is not the admin queue, is an I/O queue
pub IsIoQueue-there : {Q : Type 0} (xs : List (Option Q)) (y : ℕ) → length xs ≡ queue_count → 0 < y → IsSome (queue_of (slice_get xs y)) → IsIoQueue y
IsIoQueue-there xs y size io there = let below = queue-below xs y there in (io, omega arith)

-- ---- what is checked of every command

differ-eqb : (a b : ℕ) → (a ≡ b → ⊥) → (a == b) ≡ false
differ-eqb a b differ =
    (elim (a == b) as (λ v. (a == b) ≡ v → v ≡ false) [ true ↦ λ is. absurd (differ (eqb-true a b is)) | false ↦ λ is. refl ]) refl

-- a fused command, by what FUSE is
pub command-fused : (mapped : ℕ → Bool) (blocks : ℕ) (entry : List ℕ) (c : Controller) (memory : ℕ → ℕ)
    → (fuse_of entry ≡ 0 → ⊥)
    → admin_command mapped blocks entry c memory ≡ refused code.InvalidField c memory
unfolding admin_command
command-fused mapped blocks entry c memory some =
    let is : (fuse_of entry == 0) ≡ false = differ-eqb (fuse_of entry) 0 some in rw is refl

-- one that is not
pub command-alone : (mapped : ℕ → Bool) (blocks : ℕ) (entry : List ℕ) (c : Controller) (memory : ℕ → ℕ) (o : Option AdminOpcode)
    → fuse_of entry ≡ 0
    → o ≡ admin_opcode (opcode_of entry) → admin_command mapped blocks entry c memory ≡ done_with_opcode o mapped blocks entry c memory
unfolding admin_command
command-alone mapped blocks entry c memory o none is =
    let zero : (fuse_of entry == 0) ≡ true = eq-eqb (fuse_of entry) 0 none in
    rw zero (ap (λ (opcode : Option AdminOpcode). done_with_opcode opcode mapped blocks entry c memory) (sym is))

-- PSDT of region pages is 0
prp-zero : (psdt : ℕ) → pointer.Prp ≡ data_pointer psdt → (psdt == 0) ≡ true
prp-zero psdt is =
    (elim (psdt == 0) as (λ b. pointer.Prp ≡ cond b pointer.Prp (cond (psdt == 3) pointer.Reserved pointer.Sgl) → b ≡ true) [
      | true ↦ λ e. refl
      | false ↦ λ e. not_prp (psdt == 3) e
    ]) is
  where
    not_prp : (b : Bool) → pointer.Prp ≡ cond b pointer.Reserved pointer.Sgl → false ≡ true
    not_prp true e = cc
    not_prp false e = cc

pub command-pages : (mapped : ℕ → Bool) (blocks : ℕ) (entry : List ℕ) (c : Controller) (memory : ℕ → ℕ) (opcode : AdminOpcode)
    → pointer.Prp ≡ data_pointer (psdt_of entry)
    → done_with_opcode (Some opcode) mapped blocks entry c memory ≡ done_by opcode mapped blocks entry c memory
command-pages mapped blocks entry c memory opcode is = let zero = prp-zero (psdt_of entry) is in rw zero refl

pub command-pointer : (mapped : ℕ → Bool) (blocks : ℕ) (entry : List ℕ) (c : Controller) (memory : ℕ → ℕ) (opcode : AdminOpcode)
    → (pointer.Prp ≡ data_pointer (psdt_of entry) → ⊥)
    → done_with_opcode (Some opcode) mapped blocks entry c memory ≡ refused code.InvalidField c memory
command-pointer mapped blocks entry c memory opcode other =
    (elim (psdt_of entry == 0) as (λ b. (psdt_of entry == 0) ≡ b
    → cond b (done_by opcode mapped blocks entry c memory) (refused code.InvalidField c memory) ≡ refused code.InvalidField c memory) [
      | true ↦ λ is. absurd (other (sym (rw is refl)))
      | false ↦ λ is. refl
    ]) refl

-- ---- what it stores

pub stored-fused : (mapped : ℕ → Bool) (blocks : ℕ) (entry : List ℕ) → (fuse_of entry ≡ 0 → ⊥) → command_stored mapped blocks entry ≡ None
stored-fused mapped blocks entry some = let is : (fuse_of entry == 0) ≡ false = differ-eqb (fuse_of entry) 0 some in rw is refl

pub stored-alone : (mapped : ℕ → Bool) (blocks : ℕ) (entry : List ℕ) (o : Option AdminOpcode) → fuse_of entry ≡ 0
    → o ≡ admin_opcode (opcode_of entry) → command_stored mapped blocks entry ≡ opcode_stored o mapped blocks entry
stored-alone mapped blocks entry o none is =
    let zero : (fuse_of entry == 0) ≡ true = eq-eqb (fuse_of entry) 0 none in
    rw zero (ap (λ (opcode : Option AdminOpcode). opcode_stored opcode mapped blocks entry) (sym is))

pub stored-pages : (mapped : ℕ → Bool) (blocks : ℕ) (entry : List ℕ) (opcode : AdminOpcode) → pointer.Prp ≡ data_pointer (psdt_of entry)
    → opcode_stored (Some opcode) mapped blocks entry ≡ done_stored opcode mapped blocks entry
stored-pages mapped blocks entry opcode is = let zero = prp-zero (psdt_of entry) is in rw zero refl

pub stored-pointer : (mapped : ℕ → Bool) (blocks : ℕ) (entry : List ℕ) (opcode : AdminOpcode)
    → (pointer.Prp ≡ data_pointer (psdt_of entry) → ⊥) → opcode_stored (Some opcode) mapped blocks entry ≡ None
stored-pointer mapped blocks entry opcode other =
    (elim (psdt_of entry == 0) as (λ b. (psdt_of entry == 0) ≡ b → cond b (done_stored opcode mapped blocks entry) None ≡ None) [
      | true ↦ λ is. absurd (other (sym (rw is refl)))
      | false ↦ λ is. refl
    ]) refl
