use Rattle.nv_once_script.proofs.OnceWordsLemmas.{without_last_feed-fed, without_last_feed-other, without_last_feed-none}
use Rattle.nv_once_script.proofs.once.lines.before_last_feed.Goals as goal

pub returns-in-Some-clause-front : goal.returns-in-Some-clause-front
returns-in-Some-clause-front c =
    without_last_feed-fed c.args.text.now c.in-Some.front.now c.in-Some.last.now c.in-Some.ensures.cases.0 c.if-last-eq10.true

pub returns-in_default-clause-front : goal.returns-in_default-clause-front
returns-in_default-clause-front c =
    without_last_feed-other c.args.text.now c.in-Some.front.now c.in-Some.last.now c.in-Some.ensures.cases.0 c.if-last-eq10.false

pub returns-in_default-2-clause-front : goal.returns-in_default-2-clause-front
returns-in_default-2-clause-front c = without_last_feed-none c.args.text.now (rw c.in_default.is at c.split_last.ensures.cases)
