use Rattle.std.proofs.Common.{◌≡◌, List, take, Some, ap, sym, ◌∙◌, arith}
use Rattle.std.specs.List.{slice_get}
use Rattle.nv_ns.specs.Extents.{Cut}
use Rattle.nv_ns.specs.Laws.{blocks_cut}
use Rattle.nv_ns.proofs.Spelled.{walk-firsts, walk-sums}
use Rattle.nv_ns.proofs.CutWalk.{cuts-walk, walk, walk-none}
use Rattle.nv_ns.proofs.laws.cuts_are_the_run.Goals as goal

pub returns-clause-all : goal.returns-clause-all
returns-clause-all c = λ ns slba count within.
    ap blocks_cut (cuts-walk ns slba count) ∙ walk-sums 0 ns slba count (omega arith)

pub returns-clause-in_order : goal.returns-clause-in_order
returns-clause-in_order c = λ ns slba count i cut is.
    let same = cuts-walk ns slba count in
    let got : slice_get (walk 0 ns slba count) i ≡ Some cut = sym (ap (λ (parts : List Cut). slice_get parts i) same) ∙ is in
    let first = walk-firsts 0 ns slba count i cut got in
    let sum = ap (λ (parts : List Cut). blocks_cut (take i parts)) same in omega arith

pub returns-clause-none : goal.returns-clause-none
returns-clause-none c = λ ns slba. cuts-walk ns slba 0 ∙ walk-none 0 ns slba
