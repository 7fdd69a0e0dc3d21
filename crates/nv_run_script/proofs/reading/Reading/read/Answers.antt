use Rattle.std.proofs.Common.{Option, sym, ap, ◌∙◌}
use Rattle.std.specs.Option.{ok_or}
use Rattle.std.proofs.lemmas.Result.{err_from_is_err_and}
use Rattle.nv_once_script.specs.declared.once.fault.FaultKind.TheVariants.{UnknownWord}
use Rattle.nv_replay_script.specs.declared.vocabulary.Keyword.{Keyword}
use Rattle.nv_run_script.specs.RunScript.{after_keyword, progress}
use Rattle.nv_once_script.specs.OnceWords.{words_of}
use Rattle.nv_replay_script.specs.ReplayVocabulary.{keyword_of}
use Rattle.nv_once_script.proofs.OnceFoldLemmas.{after_words-none, after_words-unknown, after_words-known}
use Rattle.nv_run_script.proofs.reading.Reading.read.Goals as goal

pub returns-in_default : goal.returns-in_default
returns-in_default c =
    after_words-none keyword_of (after_keyword c.args.number (progress c.args.self.now)) (progress c.args.self.now) (words_of c.args.line.now)
    (sym c.of-words.ensures ∙ c.in_default.ensures.steps.0)

pub returns-in_err-keyword : goal.returns-in_err-keyword
returns-in_err-keyword c =
    let unknown = ap (λ (o : Option Keyword). ok_or o UnknownWord) (sym c.look_up.ensures) ∙ sym c.ok_or.ensures.value ∙ c.in_err-keyword.was in
    let p = err_from_is_err_and c.from_residual.result c.from_residual.ensures.1 in
    rw (p.1, p.2)
    (after_words-unknown keyword_of (after_keyword c.args.number (progress c.args.self.now)) (progress c.args.self.now) (words_of c.args.line.now) _ _ _
    (sym c.of-words.ensures ∙ c.in-Some.ensures.steps) unknown)

pub returns : goal.returns
returns c =
    let known = ap (λ (o : Option Keyword). ok_or o UnknownWord) (sym c.look_up.ensures) ∙ sym c.ok_or.ensures.value ∙ c.in_ok-keyword.was in
    rw (after_words-known keyword_of (after_keyword c.args.number (progress c.args.self.now)) (progress c.args.self.now) (words_of c.args.line.now) _ _ _
    (sym c.of-words.ensures ∙ c.in-Some.ensures.steps) known)
    c.add.ensures
