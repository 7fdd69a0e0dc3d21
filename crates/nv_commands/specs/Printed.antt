-- What the program prints of an entry: its fields
use Rattle.std.specs.Prelude.{ℕ, Bool, ◌==◌, if◌then◌else◌, List, [], ◌∷◌, ◌++◌, codes}
use Rattle.std.specs.Fmt.{decimal}
use Rattle.std.specs.Int.{bytes_high_first}
use Rattle.hex.specs.Hex.{encode_lower}
use Rattle.nv_entry.specs.Submission.{opcode_of, fuse_of, psdt_of, cid_of, nsid_of, sgl_of, cdw_of}
use Rattle.nv_entry.specs.Completion as cqe
use Rattle.nv_print.specs.Printed.{line_feed}

-- a number of so many bytes, all their digits in base 16
abbrev pub hex_number : (bytes n : ℕ) → List ℕ
hex_number bytes n = encode_lower (bytes_high_first bytes n)

-- a byte, both its digits in base 16
abbrev pub hex_byte : ℕ → List ℕ
hex_byte n = encode_lower (n ∷ [])

-- a bit as a digit
abbrev pub flag : Bool → List ℕ
flag is_set = if is_set then codes "1" else codes "0"

-- the line of a submission queue entry: numbers in base 16 as wide as their field, FUSE and PSDT in base 10, and the data pointer's bytes in
-- the order of memory
abbrev pub submission_line : List ℕ → List ℕ
submission_line entry =
    (codes "opc=" ++ hex_byte (opcode_of entry))
    ++ (codes " fuse=" ++ decimal (fuse_of entry))
    ++ (codes " psdt=" ++ decimal (psdt_of entry))
    ++ (codes " cid=" ++ hex_number 2 (cid_of entry))
    ++ (codes " nsid=" ++ hex_number 4 (nsid_of entry))
    ++ (codes " dptr=" ++ encode_lower (sgl_of entry))
    ++ (codes " cdw10=" ++ hex_number 4 (cdw_of 10 entry))
    ++ (codes " cdw11=" ++ hex_number 4 (cdw_of 11 entry))
    ++ (codes " cdw12=" ++ hex_number 4 (cdw_of 12 entry))
    ++ (codes " cdw13=" ++ hex_number 4 (cdw_of 13 entry))
    ++ (codes " cdw14=" ++ hex_number 4 (cdw_of 14 entry))
    ++ (codes " cdw15=" ++ hex_number 4 (cdw_of 15 entry))
    ++ line_feed

-- the line of a completion queue entry: numbers in base 16 as wide as their field, and its status field by its parts: SCT and CRD in base 10,
-- bits as digits
abbrev pub completion_line : List ℕ → List ℕ
completion_line entry =
    (codes "dw0=" ++ hex_number 4 (cqe.dw0_of entry))
    ++ (codes " sqhd=" ++ hex_number 2 (cqe.sqhd_of entry))
    ++ (codes " sqid=" ++ hex_number 2 (cqe.sqid_of entry))
    ++ (codes " cid=" ++ hex_number 2 (cqe.cid_of entry))
    ++ (codes " p=" ++ flag (cqe.phase_of entry == 1))
    ++ (codes " sct=" ++ decimal (cqe.sct_of entry))
    ++ (codes " sc=" ++ hex_byte (cqe.sc_of entry))
    ++ (codes " crd=" ++ decimal (cqe.crd_of entry))
    ++ (codes " m=" ++ flag (cqe.more_of entry == 1))
    ++ (codes " dnr=" ++ flag (cqe.dnr_of entry == 1))
    ++ line_feed
