use Rattle.nv_world_model.proofs.CutPieces.{places_of-cut_pieces}
use Rattle.nv_world_model.proofs.laws.shares.what_is_cut_out_lies_there.Goals as goal

pub returns : goal.returns
returns c = λ skip len pieces. places_of-cut_pieces skip len pieces
