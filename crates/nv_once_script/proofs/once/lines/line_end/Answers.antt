use Rattle.std.proofs.Common.{arith, refl}
use Rattle.nv_once_script.proofs.OnceLinesLemmas.{first-feed}
use Rattle.nv_once_script.proofs.once.lines.line_end.Goals as goal

pub returns-then-feeds-ne0 : goal.returns-then-feeds-ne0
returns-then-feeds-ne0 c =
    first-feed c.args.text.now c.feeds-feeds.result _ c.if-text-ge-LANES.true c.feeds-feeds.ensures (omega (arith, c.if-feeds-ne0.true)) refl
