use Rattle.std.proofs.Common.{◌*◌, arith}
use Rattle.nv_model.specs.Limits.{block}
use Rattle.nv_world_model.proofs.CutFits.{cut_pieces-fit}
use Rattle.nv_world_model.proofs.laws.shares.what_fits_prp_fits_cut_at_a_block.Goals as goal

pub returns : goal.returns
returns c = λ regions first count pieces each fits some within.
    cut_pieces-fit regions (block * first) (block * count) pieces each fits (omega arith) (omega arith) (omega arith)
