use Rattle.std.proofs.Common.{sym, ◌∙◌}
use Rattle.nv_replay_script.proofs.LeadingLemmas.{leading_word}
use Rattle.nv_replay_script.proofs.vocabulary.leading.Goals as goal

pub returns-in-Some : goal.returns-in-Some
returns-in-Some c =
    let name = c.likely-keyword.result.0.now in
    let stripped = c.in_ok-behind.ensures.cases in
    let first = c.in-Some.ensures in (
      name,
      leading_word c.args.line.now name c.in_ok-behind.behind.now c.likely-keyword.result.1 c.likely-keyword.ensures stripped.0 stripped.1
          first.item.3.0 (sym (first.item.3.1 0) ∙ c.if-byte-eq32.true),
      c.likely-keyword.ensures,
    )
