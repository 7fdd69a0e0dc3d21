use Rattle.std.proofs.Common.{◌++◌, [], ◌∙◌, ap}
use Rattle.std.proofs.lemmas.Result.{on_ok_weaker}
use Rattle.std.specs.Option.{option_map_or}
use Rattle.nv_sgl.specs.Chain.{pieces_in}
use Rattle.nv_sgl.proofs.Chains.{pieces_in-nil, pieces_in-pushed}
use Rattle.nv_sgl.proofs.chain.Chain.+push_pieces.Goals as goal
use Rattle.nv_sgl.proofs.chain.Chain.+push_pieces.Goals.{in-Some+in_ok-push_pieces, in_default}

pub returns : goal.returns
returns g t c =
    on_ok_weaker
    c.push_array.result
    (pieces_in-pushed
    c.args.dest c.args.places.now c.match-self.places c.push_array.new.places c.self.inside.blocks.items c.deref-2.result.now
    (option_map_or (λ older. older.value) c.self.inside.next []) c.args.self.now c.self.view_is c.deref-2.ensures.value
    (elim c.match-self.branch [
      | in-Some+in_ok-push_pieces w ↦
          rw w.in-Some.is
          (w.places-is ∙ w.in_ok-push_pieces.ensures ∙ ap (λ chain. c.args.places.now ++ pieces_in c.args.dest chain) w.deref.ensures)
      | in_default w ↦ rw w.in_default.is (w.places-is ∙ pieces_in-nil c.args.dest c.args.places.now)
    ]))
    c.push_array.ensures
