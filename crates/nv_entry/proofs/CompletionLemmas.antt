-- The fields of the entry that `completion` builds
use Rattle.std.proofs.Common.{◌≡◌, ℕ, ◌+◌, ◌*◌, ◌^◌, ◌<◌, ◌==◌, Bool, true, false, List, [], ◌∷◌, length, arith, refl, ap, ◌∙◌}
use Rattle.nv_entry.specs.Layout.{FitDwords, bits, bytes_of_dwords, dword, number_at}
use Rattle.nv_entry.specs.Dwords.{FitDwords-four, dword_back}
use Rattle.nv_entry.specs.Status.{StatusField, bit, status}
use Rattle.nv_entry.specs.Completion.{IsCompletion, completion, dnr_of, sc_of, sct_of, status_of}

-- a bit is below 2
pub bit-lt : (set : Bool) → bit set < 2
bit-lt true = omega arith
bit-lt false = omega arith

-- each field of the built entry is the one that it was built from
pub IsCompletion-completion : (dw0 sqhd sqid cid : ℕ) (phase : Bool) (st : StatusField)
    → dw0 < 2 ^ 32 → sqhd < 2 ^ 16 → sqid < 2 ^ 16 → cid < 2 ^ 16 → st.sct < 8 → st.sc < 256
    → IsCompletion dw0 sqhd sqid cid phase st (completion dw0 sqhd sqid cid phase st)
unfolding completion bits
IsCompletion-completion dw0 sqhd sqid cid phase st h0 hh hq hc ht hs =
    let p = bit-lt phase in
    let d = bit-lt st.dnr in
    let queue : ℕ = sqhd + 2 ^ 16 * sqid in
    let command : ℕ = cid + 2 ^ 16 * bit phase + 2 ^ 17 * st.sc + 2 ^ 25 * st.sct + 2 ^ 31 * bit st.dnr in
    let ds : List ℕ = dw0 ∷ 0 ∷ queue ∷ command ∷ [] in
    let fit : FitDwords ds = FitDwords-four dw0 0 queue command h0 (omega arith) (omega arith) (omega arith) in
    let e0 = dword_back ds 0 fit (omega arith) in
    let e1 = dword_back ds 1 fit (omega arith) in
    let e2 = dword_back ds 2 fit (omega arith) in
    let e3 = dword_back ds 3 fit (omega arith) in
    record {
      command_specific = e0;
      reserved = e1;
      head = rw e2 (omega arith);
      queue = rw e2 (omega arith);
      identifier = rw e3 (omega arith);
      phase_tag = rw e3 (omega arith);
      status_code = rw e3 (omega arith);
      status_code_type = rw e3 (omega arith);
      retry_delay = rw e3 (omega arith);
      more = rw e3 (omega arith);
      do_not_retry = rw e3 (omega arith);
    }

-- it has 16 bytes
pub length-completion : (dw0 sqhd sqid cid : ℕ) (phase : Bool) (st : StatusField)
    → length (completion dw0 sqhd sqid cid phase st) ≡ 16
unfolding completion bytes_of_dwords
length-completion dw0 sqhd sqid cid phase st = refl

-- ---- its status, whatever stands in its first three dwords

completion-sct : (dw0 sqhd sqid cid : ℕ) (phase : Bool) (st : StatusField) → cid < 2 ^ 16 → st.sct < 8 → st.sc < 256
    → sct_of (completion dw0 sqhd sqid cid phase st) ≡ st.sct
unfolding completion bits dword number_at bytes_of_dwords
completion-sct dw0 sqhd sqid cid phase st below type code = (let p = bit-lt phase in let d = bit-lt st.dnr in omega arith)

completion-sc : (dw0 sqhd sqid cid : ℕ) (phase : Bool) (st : StatusField) → cid < 2 ^ 16 → st.sct < 8 → st.sc < 256
    → sc_of (completion dw0 sqhd sqid cid phase st) ≡ st.sc
unfolding completion bits dword number_at bytes_of_dwords
completion-sc dw0 sqhd sqid cid phase st below type code = (let p = bit-lt phase in let d = bit-lt st.dnr in omega arith)

completion-dnr : (dw0 sqhd sqid cid : ℕ) (phase : Bool) (st : StatusField) → cid < 2 ^ 16 → st.sct < 8 → st.sc < 256
    → dnr_of (completion dw0 sqhd sqid cid phase st) ≡ bit st.dnr
unfolding completion bits dword number_at bytes_of_dwords
completion-dnr dw0 sqhd sqid cid phase st below type code = (let p = bit-lt phase in let d = bit-lt st.dnr in omega arith)

bit-is : (b : Bool) → (bit b == 1) ≡ b
bit-is true = refl
bit-is false = refl

-- a status is read back from its completion, whatever queue and head stand there
pub completion-back : (dw0 sqhd sqid cid : ℕ) (phase : Bool) (st : StatusField) → cid < 2 ^ 16 → st.sct < 8 → st.sc < 256
    → status_of (completion dw0 sqhd sqid cid phase st) ≡ st
completion-back dw0 sqhd sqid cid phase st below type code =
    let entry = completion dw0 sqhd sqid cid phase st in
    ap (λ (n : ℕ). status n (sc_of entry) (dnr_of entry == 1)) (completion-sct dw0 sqhd sqid cid phase st below type code)
    ∙ ap (λ (n : ℕ). status st.sct n (dnr_of entry == 1)) (completion-sc dw0 sqhd sqid cid phase st below type code)
    ∙ ap (status st.sct st.sc) (ap (λ (n : ℕ). n == 1) (completion-dnr dw0 sqhd sqid cid phase st below type code) ∙ bit-is st.dnr)
