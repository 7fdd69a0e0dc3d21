use Rattle.std.proofs.Common.{rules, tests, not, eqb}
use Rattle.std.proofs.lemmas.Iterator.{YieldsList-from_slice}
use Rattle.std.proofs.lemmas.Iterator.Search.{position_from_yields_List}
use Rattle.nv_once_script.proofs.OnceWordsLemmas.{unwrap_or-position}
use Rattle.nv_once_script.proofs.once.word.leading_spaces.Goals as goal

pub returns : goal.returns
returns c =
    let text = c.args.text.now in
    let found = position_from_yields_List (λ b. not (eqb b 32)) _ _ c.position.result c.position.ensures.ran (YieldsList-from_slice text (cc)) (λ x b q k. search (rules, tests)) in
    rw c.unwrap_or.ensures (unwrap_or-position (λ b. not (eqb b 32)) text c.position.result found)
