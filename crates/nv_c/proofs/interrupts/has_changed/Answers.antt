use Rattle.std.proofs.Common.{◌≡◌, ◌∙◌, length, rules, arith, sym}
use lib.Pointwise.{bytes_decides}
use Rattle.nv_c.proofs.Seen.{mapped-to}
use Rattle.nv_c.specs.Serving.{vector_kept}
use Rattle.nv_c.proofs.interrupts.has_changed.Goals as goal

pub returns-then-eq-clause-now : goal.returns-then-eq-clause-now
returns-then-eq-clause-now c =
    let count : length c.args.pending.now ≡ 9 = c.told-pending in
    (bytes_decides c.args.vectors.now c.map-now.result).0 (sym c.if-eq.ensures)
    ∙ mapped-to vector_kept c.args.pending.now c.map-now.result 0 (c.map-now.ensures.items.long ∙ sym count)
    (λ i d below. let call = c.map-now.ensures.items.at i d 0 (omega (arith, count, below)) in search (rules, call.2))

pub returns-clause-now : goal.returns-clause-now
returns-clause-now c =
    let count : length c.args.pending.now ≡ 9 = c.told-pending in
    c.copy_from_slice.ensures.after
    ∙ mapped-to vector_kept c.args.pending.now c.map-now.result 0 (c.map-now.ensures.items.long ∙ sym count)
    (λ i d below. let call = c.map-now.ensures.items.at i d 0 (omega (arith, count, below)) in search (rules, call.2))
