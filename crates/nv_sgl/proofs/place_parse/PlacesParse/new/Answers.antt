use Rattle.std.proofs.Common.{◌++◌, List, ◌∙◌, ap, arith}
use Rattle.nv_mem.specs.declared.piece.Piece.{Piece}
use Rattle.nv_entry.specs.Descriptor.{kind_of}
use Rattle.nv_model.specs.Sgl.{pieces_by}
use Rattle.nv_sgl.proofs.Parses.{reading_of-own}
use Rattle.nv_sgl.proofs.place_parse.PlacesParse.new.Goals as goal

pub returns : goal.returns
returns c =
    reading_of-own _ _ _ 1024 _ c.at_own-cursor.result _ _ (omega arith) c.at_own-cursor.ensures c.look_at.ensures.behind
    (c.in_ok-push_piece.ensures ∙ ap (λ (ps : List Piece). ps ++ pieces_by (kind_of c.args.first) c.args.dest c.args.first) c.new-places.ensures)
