use Rattle.std.proofs.Common.{length, ◌∙◌, arith}
use Rattle.nv_once_script.proofs.OnceScriptLemmas.{drop-next, drop-last, count_check-missing, count_check-many, count_check-right}
use Rattle.nv_once_script.proofs.once.words.Words.check_count.Goals as goal

pub returns-in_default : goal.returns-in_default
returns-in_default c =
    let all = drop-last c.args.self.now c.loop-found._found c.loop-found.invariant.0 (c.loop-found.invariant.1 ∙ c.in_default.ensures.steps.0) in
    count_check-missing (length c.args.self.now) c.args.wanted (omega (arith, all))

pub loop-found-preserved : goal.loop-found-preserved
loop-found-preserved c =
    drop-next c.args.self.now _ _ c.loop-found._found (c.loop-found.invariant.1 ∙ c.in-Some.ensures.steps)

pub returns-in-None : goal.returns-in-None
returns-in-None c =
    let all = drop-last c.args.self.now c.loop-found._found c.loop-found.invariant.0 (c.loop-found.invariant.1 ∙ c.in-None.ensures.steps.0) in
    count_check-right (length c.args.self.now) c.args.wanted (omega (arith, all))

pub returns-in-Some-next : goal.returns-in-Some-next
returns-in-Some-next c =
    let more = drop-next c.args.self.now _ _ c.loop-found._found (c.loop-found.invariant.1 ∙ c.in-Some-next.ensures.steps) in
    count_check-many (length c.args.self.now) c.args.wanted (omega (arith, more.0))
