use Rattle.std.proofs.Common.{sym, ◌∙◌}
use Rattle.nv_mem.specs.GuestMap.{mapped}
use Rattle.nv_model.proofs.Spelled.{read_prp-sized}
use Rattle.nv_prp.specs.Cursor.{reading_from}
use Rattle.nv_prp.specs.Parse.{dialogue_of}
use Rattle.nv_prp.proofs.parse.PrpParse.new.Goals as goal

pub returns-clause-dialogue : goal.returns-clause-dialogue
unfolding dialogue_of reading_from
returns-clause-dialogue c = c.start-cursor.ensures.dialogue

pub returns-clause-sized : goal.returns-clause-sized
unfolding dialogue_of reading_from
returns-clause-sized c =
    c.start-cursor.ensures.dialogue
    ∙ sym (read_prp-sized (mapped c.args.map.now.regions) c.args.prp1 c.args.prp2 c.args.need)
