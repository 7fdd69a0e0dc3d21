use Rattle.std.proofs.Common.{◌++◌, ap, sym, ◌∙◌, append_assoc, codes, subst}
use Rattle.std.specs.Fmt.{HasWritten, decimal}
use Rattle.nv_replay.specs.Refused.{refusal_text}
use Rattle.nv_replay.proofs.refusal.SetUpRefusalDisplay.fmt.Goals as goal

pub returns-in-Map-clause-writes : goal.returns-in-Map-clause-writes
returns-in-Map-clause-writes g c =
    let number = decimal c.in-Map.guest in
    let name = c.map_error_text-error.result.now in
    let spelled = ap refusal_text c.in-Map.is
    ∙ ap (λ text. codes "guest " ++ number ++ codes " map refused: " ++ text) (sym c.map_error_text-error.ensures)
    ∙ append_assoc (codes "guest " ++ number) (codes " map refused: ") name
    ∙ append_assoc (codes "guest ") number (codes " map refused: " ++ name)
    in
    λ plain done. subst (λ text. HasWritten {W = g.row.W.Denot} g.W.Write.write_str_gives c.args.f.now text c.write.new.self) (sym spelled) (c.write.ensures.writes plain done)
