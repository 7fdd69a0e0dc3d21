use Rattle.std.proofs.Common.{Some, ◌*◌, ◌++◌, ap, arith, length, length-drop, refl, sym, take, ◌∙◌}
use Rattle.std.proofs.lemmas.List.{append-nil}
use Rattle.std.specs.Option.{option_map}
use Rattle.nv_once_script.specs.OnceNumber.{or_bad_bytes}
use Rattle.nv_once_script.proofs.HexadecimalLemmas.{none_behind, spelled_by_parts, to_end, told_err, told_ok}
use Rattle.nv_once_script.proofs.once.hexadecimal.spell.Goals as goal

pub returns-in-Ok : goal.returns-in-Ok
returns-in-Ok c =
    let done = c.spell_blocks-done.result in
    let bytes = c.spell_blocks-done.new.bytes in
    let out = c.decode_to_slice.new.out in
    let rest = told_ok _ _ c.in-Ok.field-0 out refl c.in-Ok.ensures.value in
    let parts = spelled_by_parts c.args.digits.now bytes _ done _ (omega arith) (omega arith) (to_end (2 * done) c.args.digits.now)
    (ap length (to_end done bytes) ∙ length-drop done bytes) c.spell_blocks-done.ensures.spelled in
    ap or_bad_bytes (parts ∙ ap (option_map (λ more. take done bytes ++ more)) rest)
    ∙ ap (λ t. or_bad_bytes (Some (take done bytes ++ t))) (sym (ap (λ t. out ++ t) (none_behind done bytes) ∙ append-nil out))

pub returns-in-Err : goal.returns-in-Err
returns-in-Err c =
    let done = c.spell_blocks-done.result in
    let bytes = c.spell_blocks-done.new.bytes in
    let rest = told_err _ _ c.in-Err.field-0 c.decode_to_slice.new.out refl c.in-Err.ensures.value in
    let parts = spelled_by_parts c.args.digits.now bytes _ done _ (omega arith) (omega arith) (to_end (2 * done) c.args.digits.now)
    (ap length (to_end done bytes) ∙ length-drop done bytes) c.spell_blocks-done.ensures.spelled in
    ap or_bad_bytes (parts ∙ ap (option_map (λ more. take done bytes ++ more)) rest)
