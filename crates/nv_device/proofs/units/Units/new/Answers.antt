use Rattle.std.proofs.Common.{Bool, List, length, sym, ap, ◌∙◌}
use Rattle.std.proofs.lemmas.List.FromFn.{length-range_with_len}
use Rattle.nv_device.specs.Units.{numbers_marked}
use Rattle.nv_device.proofs.UnitMarks.{numbers-all}
use Rattle.nv_device.proofs.units.Units.new.Goals as goal

pub invariant_of-result : goal.invariant_of-result
invariant_of-result c =
    sym (ap (λ (marks : List Bool). length (numbers_marked 0 marks)) c.in_ok-all_left.ensures
    ∙ ap length (numbers-all 0 c.args.count) ∙ length-range_with_len 0 c.args.count)

pub returns : goal.returns
returns c = ap (numbers_marked 0) c.in_ok-all_left.ensures ∙ numbers-all 0 c.args.count
