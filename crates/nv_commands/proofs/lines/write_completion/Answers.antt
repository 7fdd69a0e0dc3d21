-- each field is printed behind those before it
use Rattle.std.proofs.Common.{[], ◌∷◌, ◌++◌, ◌==◌, ap, ◌∙◌, codes}
use Rattle.std.specs.Fmt.{decimal}
use Rattle.nv_entry.specs.Completion.{dw0_of, sqhd_of, sqid_of, cid_of, phase_of, sct_of, sc_of, crd_of, more_of, dnr_of}
use Rattle.nv_commands.specs.Printed.{hex_byte, hex_number, flag}
use Rattle.nv_print.proofs.Growing.{Appends-last, Appends-then}
use Rattle.nv_print.specs.Printed.{line_feed}
use Rattle.nv_commands.proofs.LineLemmas.{as_test, bytes_field, flag_field, hex_field, number_field}
use Rattle.nv_commands.proofs.lines.write_completion.Goals as goal

pub returns : goal.returns
returns g c =
    let entry = c.args.entry.now in
    let to_dw0 = codes "dw0=" ++ hex_number 4 (dw0_of entry) in
    let with_dw0 = hex_field _ _ (codes "dw0=") _ 4 _ (dw0_of entry) c.to_be_bytes.ensures c.dw0.ensures c.in_ok-print_hex.ensures in
    let to_sqhd = to_dw0 ++ (codes " sqhd=" ++ hex_number 2 (sqhd_of entry)) in
    let with_sqhd = Appends-then _ _ _ to_dw0 (codes " sqhd=" ++ hex_number 2 (sqhd_of entry)) with_dw0
    (hex_field _ _ (codes " sqhd=") _ 2 _ (sqhd_of entry) c.to_be_bytes-2.ensures c.sqhd.ensures c.in_ok-print_hex-2.ensures) in
    let to_sqid = to_sqhd ++ (codes " sqid=" ++ hex_number 2 (sqid_of entry)) in
    let with_sqid = Appends-then _ _ _ to_sqhd (codes " sqid=" ++ hex_number 2 (sqid_of entry)) with_sqhd
    (hex_field _ _ (codes " sqid=") _ 2 _ (sqid_of entry) c.to_be_bytes-3.ensures c.sqid.ensures c.in_ok-print_hex-3.ensures) in
    let to_cid = to_sqid ++ (codes " cid=" ++ hex_number 2 (cid_of entry)) in
    let with_cid = Appends-then _ _ _ to_sqid (codes " cid=" ++ hex_number 2 (cid_of entry)) with_sqid
    (hex_field _ _ (codes " cid=") _ 2 _ (cid_of entry) c.to_be_bytes-4.ensures c.cid.ensures c.in_ok-print_hex-4.ensures) in
    let to_phase = to_cid ++ (codes " p=" ++ flag (phase_of entry == 1)) in
    let with_phase = Appends-then _ _ _ to_cid (codes " p=" ++ flag (phase_of entry == 1)) with_cid
    (flag_field _ _ (codes " p=") _ (phase_of entry == 1) (as_test _ _ 1 c.phase.ensures) c.in_ok-print_flag.ensures) in
    let to_sct = to_phase ++ (codes " sct=" ++ decimal (sct_of entry)) in
    let with_sct = Appends-then _ _ _ to_phase (codes " sct=" ++ decimal (sct_of entry)) with_phase
    (number_field _ _ (codes " sct=") _ (sct_of entry) c.sct.ensures.value c.in_ok-print_number.ensures) in
    let to_sc = to_sct ++ (codes " sc=" ++ hex_byte (sc_of entry)) in
    let with_sc = Appends-then _ _ _ to_sct (codes " sc=" ++ hex_byte (sc_of entry)) with_sct
    (bytes_field _ _ (codes " sc=") _ (sc_of entry ∷ []) (c.to_be_bytes-5.ensures ∙ ap (λ n. n ∷ []) c.sc.ensures) c.in_ok-print_hex-5.ensures) in
    let to_crd = to_sc ++ (codes " crd=" ++ decimal (crd_of entry)) in
    let with_crd = Appends-then _ _ _ to_sc (codes " crd=" ++ decimal (crd_of entry)) with_sc (number_field _ _ (codes " crd=") _ (crd_of entry) c.crd.ensures c.in_ok-print_number-2.ensures) in
    let to_more = to_crd ++ (codes " m=" ++ flag (more_of entry == 1)) in
    let with_more = Appends-then _ _ _ to_crd (codes " m=" ++ flag (more_of entry == 1)) with_crd
    (flag_field _ _ (codes " m=") _ (more_of entry == 1) (as_test _ _ 1 c.more.ensures) c.in_ok-print_flag-2.ensures) in
    let to_dnr = to_more ++ (codes " dnr=" ++ flag (dnr_of entry == 1)) in
    let with_dnr = Appends-then _ _ _ to_more (codes " dnr=" ++ flag (dnr_of entry == 1)) with_more (flag_field _ _ (codes " dnr=") _ (dnr_of entry == 1) c.dnr.ensures c.in_ok-print_flag-3.ensures) in
    Appends-last _ _ _ to_dnr line_feed _ with_dnr c.end_line.ensures
