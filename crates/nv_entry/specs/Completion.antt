-- The fields of a completion queue entry, 16 bytes: Base Specification 2.0, "Common Completion Queue Entry"
use Rattle.std.specs.Prelude.{ℕ, ◌+◌, ◌*◌, ◌^◌, ◌≡◌, ◌==◌, Bool, List, [], ◌∷◌}
use Rattle.nv_entry.specs.Layout.{dword, bits, bytes_of_dwords}
use Rattle.nv_entry.specs.Status.{StatusField, status, bit}

-- DW0, command specific
abbrev pub dw0_of : List ℕ → ℕ
dw0_of entry = dword entry 0

-- DW1, reserved
abbrev pub dw1_of : List ℕ → ℕ
dw1_of entry = dword entry 1

-- SQHD, the submission queue's head: bits 15:0 of DW2
abbrev pub sqhd_of : List ℕ → ℕ
sqhd_of entry = bits (dword entry 2) 15 0

-- SQID, the submission queue's identifier: bits 31:16 of DW2
abbrev pub sqid_of : List ℕ → ℕ
sqid_of entry = bits (dword entry 2) 31 16

-- CID, the command identifier: bits 15:0 of DW3
abbrev pub cid_of : List ℕ → ℕ
cid_of entry = bits (dword entry 3) 15 0

-- P, the phase tag: bit 16 of DW3
abbrev pub phase_of : List ℕ → ℕ
phase_of entry = bits (dword entry 3) 16 16

-- SC, the status code: bits 24:17 of DW3
abbrev pub sc_of : List ℕ → ℕ
sc_of entry = bits (dword entry 3) 24 17

-- SCT, the status code type: bits 27:25 of DW3
abbrev pub sct_of : List ℕ → ℕ
sct_of entry = bits (dword entry 3) 27 25

-- CRD, the command retry delay: bits 29:28 of DW3
abbrev pub crd_of : List ℕ → ℕ
crd_of entry = bits (dword entry 3) 29 28

-- M, more: bit 30 of DW3
abbrev pub more_of : List ℕ → ℕ
more_of entry = bits (dword entry 3) 30 30

-- DNR, do not retry: bit 31 of DW3
abbrev pub dnr_of : List ℕ → ℕ
dnr_of entry = bits (dword entry 3) 31 31

-- the status in an entry
abbrev pub status_of : List ℕ → StatusField
status_of entry = status (sct_of entry) (sc_of entry) (dnr_of entry == 1)

-- the entry with these fields; DW1, CRD and M are 0
unfoldable pub completion : ℕ → ℕ → ℕ → ℕ → Bool → StatusField → List ℕ
completion dw0 sqhd sqid cid phase st =
    bytes_of_dwords (
    dw0 ∷ 0 ∷ (sqhd + 2 ^ 16 * sqid)
    ∷ (cid + 2 ^ 16 * bit phase + 2 ^ 17 * st.sc + 2 ^ 25 * st.sct + 2 ^ 31 * bit st.dnr) ∷ []
    )

-- an entry whose fields are these: each of the ten, and the reserved dword and bits 0
pub record IsCompletion (dw0 sqhd sqid cid : ℕ) (phase : Bool) (st : StatusField) (entry : List ℕ) : Type 0 where
  pub command_specific : dw0_of entry ≡ dw0
  pub reserved : dw1_of entry ≡ 0
  pub head : sqhd_of entry ≡ sqhd
  pub queue : sqid_of entry ≡ sqid
  pub identifier : cid_of entry ≡ cid
  pub phase_tag : phase_of entry ≡ bit phase
  pub status_code : sc_of entry ≡ st.sc
  pub status_code_type : sct_of entry ≡ st.sct
  pub retry_delay : crd_of entry ≡ 0
  pub more : more_of entry ≡ 0
  pub do_not_retry : dnr_of entry ≡ bit st.dnr
