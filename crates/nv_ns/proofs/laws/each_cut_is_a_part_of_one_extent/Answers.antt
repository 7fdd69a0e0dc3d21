use Rattle.std.proofs.Common.{◌<◌, ◌≤◌, List, length, sym, subst}
use Rattle.std.specs.List.{All}
use Rattle.nv_ns.specs.Extents.{Cut}
use Rattle.nv_ns.specs.Laws.{LiesInOne, NamesBlocks}
use Rattle.nv_ns.proofs.Spelled.{walk-few, walk-lies, walk-names, walk-some}
use Rattle.nv_ns.proofs.CutWalk.{cuts-walk}
use Rattle.nv_ns.proofs.laws.each_cut_is_a_part_of_one_extent.Goals as goal

pub returns-clause-some : goal.returns-clause-some
returns-clause-some c = λ ns slba count.
    subst (All (λ (cut : Cut). 0 < cut.count)) (sym (cuts-walk ns slba count)) (walk-some 0 ns slba count)

pub returns-clause-lies : goal.returns-clause-lies
returns-clause-lies c = λ ns slba count. subst (All (LiesInOne ns)) (sym (cuts-walk ns slba count)) (walk-lies 0 ns slba count)

pub returns-clause-names : goal.returns-clause-names
returns-clause-names c = λ ns slba count.
    subst (All (NamesBlocks ns slba count)) (sym (cuts-walk ns slba count)) (walk-names ns slba count)

pub returns-clause-few : goal.returns-clause-few
returns-clause-few c = λ ns slba count.
    subst (λ (parts : List Cut). length parts ≤ length ns) (sym (cuts-walk ns slba count)) (walk-few 0 ns slba count)
