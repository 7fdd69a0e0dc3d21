use Rattle.std.proofs.Common.{ap, arith}
use Rattle.std.specs.List.{slice_split}
use Rattle.nv_once_script.specs.OnceWords.{lines_of}
use Rattle.nv_once_script.proofs.OnceLinesLemmas.{is_feed, few-lines}
use Rattle.nv_once_script.proofs.once.lines.Lines.of.Goals as goal

pub returns-clause-lines : goal.returns-clause-lines
unfolding lines_of
returns-clause-lines c = ap (slice_split is_feed) c.before_last_feed.ensures.front

pub returns-clause-few : goal.returns-clause-few
returns-clause-few c =
    let shorter = c.before_last_feed.ensures.shorter in
    let few = few-lines c.before_last_feed.result.now in
    omega arith
