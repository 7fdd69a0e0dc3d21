use Rattle.std.proofs.Common.{◌≡◌, ◌*◌, ◌<◌, ◌/◌, ◌^◌, inl, inr, ℕ, Bool, true, false, arith, mod-lt}
use Rattle.std.proofs.lemmas.Bool.{cases_eq}
use Rattle.std.specs.Prelude.{IsTrue}
use Rattle.nv_entry.specs.Layout.{bits, dword}
use Rattle.nv_entry.specs.Submission.{deallocate_of}
use Rattle.nv_core.proofs.physical_entry.deallocate_dword.Goals as goal

-- a bit that is not 1 is 0
not-set : (b : Bool) (bit : ℕ) → bit < 2 → (bit ≡ 1 → IsTrue b) → b ≡ false → 0 ≡ 4 * bit
not-set true bit below one e = cc
not-set false bit below one e =
    elim (cases_eq bit 1) [
      | inl is ↦ (let bad : IsTrue false = one is in cc)
      | inr differs ↦ omega arith
    ]

pub returns-else-deallocate : goal.returns-else-deallocate
unfolding bits
returns-else-deallocate c =
    not-set c.deallocate.result (deallocate_of c.args.sqe.now) (mod-lt (dword c.args.sqe.now 11 / 2 ^ 2) (omega arith)) c.deallocate.ensures.1
    c.if-deallocate.false
