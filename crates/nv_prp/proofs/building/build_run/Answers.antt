use Rattle.std.proofs.Common.{◌≡◌, ◌%◌, ◌≤◌, length, arith, sym, ap, subst, ◌∙◌}
use Rattle.std.specs.List.{range_with_len}
use Rattle.std.proofs.lemmas.List.FromFn.{length-range_with_len}
use Rattle.nv_prp.specs.Met.{Met, met_more, prps_met}
use Rattle.nv_prp.proofs.Builds.{fit-row, met-room, prps_met-built}
use Rattle.nv_prp.proofs.building.build_run.Goals as goal

pub add_row-requires-clause-room : goal.add_row-requires-clause-room
add_row-requires-clause-room c =
    let four : c.args.addr % 4 ≡ 0 = let start = c.requires.start in omega arith in
    let count = length-range_with_len c.args.addr c.args.len in
    let most : length (range_with_len c.args.addr c.args.len) ≤ 131072 = let most = c.requires.most in omega arith in
    subst
    (λ (m : Met). length (met_more m (range_with_len c.args.addr c.args.len)).entries ≤ 32)
    (sym c.nothing-met.ensures) (met-room (range_with_len c.args.addr c.args.len) (fit-row c.args.addr c.args.len c.requires.some four) most)

pub returns : goal.returns
returns c =
    c.prps.ensures
    ∙ ap (prps_met c.args.list_page) (c.add_row.ensures ∙ ap (λ (m : Met). met_more m (range_with_len c.args.addr c.args.len)) c.nothing-met.ensures)
    ∙ prps_met-built c.args.list_page (range_with_len c.args.addr c.args.len)
