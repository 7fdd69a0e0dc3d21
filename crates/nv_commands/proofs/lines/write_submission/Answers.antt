-- each field is printed behind those before it
use Rattle.std.proofs.Common.{[], ◌∷◌, ◌++◌, ap, ◌∙◌, codes}
use Rattle.std.specs.Fmt.{decimal}
use Rattle.hex.specs.Hex.{encode_lower}
use Rattle.nv_entry.specs.Submission.{opcode_of, fuse_of, psdt_of, cid_of, nsid_of, sgl_of, cdw_of}
use Rattle.nv_commands.specs.Printed.{hex_byte, hex_number}
use Rattle.nv_print.proofs.Growing.{Appends-last, Appends-then}
use Rattle.nv_print.specs.Printed.{line_feed}
use Rattle.nv_commands.proofs.LineLemmas.{bytes_field, hex_field, number_field}
use Rattle.nv_commands.proofs.lines.write_submission.Goals as goal

pub returns : goal.returns
returns g c =
    let entry = c.args.entry.now in
    let to_opcode = codes "opc=" ++ hex_byte (opcode_of entry) in
    let with_opcode = bytes_field _ _ (codes "opc=") _ (opcode_of entry ∷ []) (c.to_be_bytes.ensures ∙ ap (λ n. n ∷ []) c.opcode.ensures) c.in_ok-print_hex.ensures in
    let to_fuse = to_opcode ++ (codes " fuse=" ++ decimal (fuse_of entry)) in
    let with_fuse = Appends-then _ _ _ to_opcode (codes " fuse=" ++ decimal (fuse_of entry)) with_opcode
    (number_field _ _ (codes " fuse=") _ (fuse_of entry) c.fuse.ensures c.in_ok-print_number.ensures) in
    let to_psdt = to_fuse ++ (codes " psdt=" ++ decimal (psdt_of entry)) in
    let with_psdt = Appends-then _ _ _ to_fuse (codes " psdt=" ++ decimal (psdt_of entry)) with_fuse
    (number_field _ _ (codes " psdt=") _ (psdt_of entry) c.psdt.ensures.value c.in_ok-print_number-2.ensures) in
    let to_cid = to_psdt ++ (codes " cid=" ++ hex_number 2 (cid_of entry)) in
    let with_cid = Appends-then _ _ _ to_psdt (codes " cid=" ++ hex_number 2 (cid_of entry)) with_psdt
    (hex_field _ _ (codes " cid=") _ 2 _ (cid_of entry) c.to_be_bytes-2.ensures c.cid.ensures c.in_ok-print_hex-2.ensures) in
    let to_nsid = to_cid ++ (codes " nsid=" ++ hex_number 4 (nsid_of entry)) in
    let with_nsid = Appends-then _ _ _ to_cid (codes " nsid=" ++ hex_number 4 (nsid_of entry)) with_cid
    (hex_field _ _ (codes " nsid=") _ 4 _ (nsid_of entry) c.to_be_bytes-3.ensures c.nsid.ensures c.in_ok-print_hex-3.ensures) in
    let to_sgl = to_nsid ++ (codes " dptr=" ++ encode_lower (sgl_of entry)) in
    let with_sgl = Appends-then _ _ _ to_nsid (codes " dptr=" ++ encode_lower (sgl_of entry)) with_nsid
    (bytes_field _ _ (codes " dptr=") _ (sgl_of entry) (c.bytes.ensures ∙ c.sgl.ensures) c.in_ok-print_hex-4.ensures) in
    let to_cdw10 = to_sgl ++ (codes " cdw10=" ++ hex_number 4 (cdw_of 10 entry)) in
    let with_cdw10 = Appends-then _ _ _ to_sgl (codes " cdw10=" ++ hex_number 4 (cdw_of 10 entry)) with_sgl
    (hex_field _ _ (codes " cdw10=") _ 4 _ (cdw_of 10 entry) c.to_be_bytes-4.ensures c.cdw10.ensures c.in_ok-print_hex-5.ensures) in
    let to_cdw11 = to_cdw10 ++ (codes " cdw11=" ++ hex_number 4 (cdw_of 11 entry)) in
    let with_cdw11 = Appends-then _ _ _ to_cdw10 (codes " cdw11=" ++ hex_number 4 (cdw_of 11 entry)) with_cdw10
    (hex_field _ _ (codes " cdw11=") _ 4 _ (cdw_of 11 entry) c.to_be_bytes-5.ensures c.cdw11.ensures c.in_ok-print_hex-6.ensures) in
    let to_cdw12 = to_cdw11 ++ (codes " cdw12=" ++ hex_number 4 (cdw_of 12 entry)) in
    let with_cdw12 = Appends-then _ _ _ to_cdw11 (codes " cdw12=" ++ hex_number 4 (cdw_of 12 entry)) with_cdw11
    (hex_field _ _ (codes " cdw12=") _ 4 _ (cdw_of 12 entry) c.to_be_bytes-6.ensures c.cdw12.ensures c.in_ok-print_hex-7.ensures) in
    let to_cdw13 = to_cdw12 ++ (codes " cdw13=" ++ hex_number 4 (cdw_of 13 entry)) in
    let with_cdw13 = Appends-then _ _ _ to_cdw12 (codes " cdw13=" ++ hex_number 4 (cdw_of 13 entry)) with_cdw12
    (hex_field _ _ (codes " cdw13=") _ 4 _ (cdw_of 13 entry) c.to_be_bytes-7.ensures c.cdw13.ensures c.in_ok-print_hex-8.ensures) in
    let to_cdw14 = to_cdw13 ++ (codes " cdw14=" ++ hex_number 4 (cdw_of 14 entry)) in
    let with_cdw14 = Appends-then _ _ _ to_cdw13 (codes " cdw14=" ++ hex_number 4 (cdw_of 14 entry)) with_cdw13
    (hex_field _ _ (codes " cdw14=") _ 4 _ (cdw_of 14 entry) c.to_be_bytes-8.ensures c.cdw14.ensures c.in_ok-print_hex-9.ensures) in
    let to_cdw15 = to_cdw14 ++ (codes " cdw15=" ++ hex_number 4 (cdw_of 15 entry)) in
    let with_cdw15 = Appends-then _ _ _ to_cdw14 (codes " cdw15=" ++ hex_number 4 (cdw_of 15 entry)) with_cdw14
    (hex_field _ _ (codes " cdw15=") _ 4 _ (cdw_of 15 entry) c.to_be_bytes-9.ensures c.cdw15.ensures c.in_ok-print_hex-10.ensures) in
    Appends-last _ _ _ to_cdw15 line_feed _ with_cdw15 c.end_line.ensures
