use Rattle.std.proofs.Common.{ap, ◌∙◌, arith}
use Rattle.std.specs.List.{flat_map}
use Rattle.nv_ns.specs.Laws.{places_of_cut}
use Rattle.nv_ns.proofs.Spelled.{walk-spells}
use Rattle.nv_ns.proofs.CutWalk.{cuts-walk}
use Rattle.nv_ns.proofs.laws.cuts_spell_the_blocks.Goals as goal

pub returns : goal.returns
returns c = λ ns slba count within.
    ap (flat_map places_of_cut) (cuts-walk ns slba count) ∙ walk-spells 0 ns slba count (omega arith)
