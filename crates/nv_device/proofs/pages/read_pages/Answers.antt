use Rattle.std.proofs.Common.{◌++◌, ◌∷◌, [], List, sym, ap, ◌∙◌}
use Rattle.nv_mem.specs.declared.piece.Piece.{Piece}
use Rattle.nv_mem.specs.declared.piece.Piece.TheVariants.{Run}
use Rattle.nv_device.specs.Pages.{spells}
use Rattle.nv_device.proofs.PageLemmas.{host_reading-behind}
use Rattle.nv_device.proofs.pages.read_pages.Goals as goal

pub read_behind-requires-clause-spelled : goal.read_behind-requires-clause-spelled
read_behind-requires-clause-spelled c =
    ap spells (sym (host_reading-behind c.args.host.now c.args.prp1 c.args.prp2 c.args.len c.min-first.result c.push.new.self c.requires.some c.min-first.ensures
    (c.in_ok-push.ensures.ok ∙ ap (λ (ps : List Piece). ps ++ Run c.args.prp1 c.min-first.result ∷ []) (c.reserve.ensures ∙ c.new-places.ensures)) c.requires.spelled))
    ∙ c.requires.spelled

pub returns-clause-read : goal.returns-clause-read
returns-clause-read c =
    host_reading-behind c.args.host.now c.args.prp1 c.args.prp2 c.args.len c.min-first.result c.push.new.self c.requires.some c.min-first.ensures
    (c.in_ok-push.ensures.ok ∙ ap (λ (ps : List Piece). ps ++ Run c.args.prp1 c.min-first.result ∷ []) (c.reserve.ensures ∙ c.new-places.ensures)) c.requires.spelled
    ∙ c.in_ok-read_behind.ensures.read
