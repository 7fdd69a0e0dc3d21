use Rattle.std.proofs.Common.{◌≡◌, ℕ, Option, Ok, sym, ap, ◌∙◌, length}
use Rattle.std.specs.Option.{ok_or}
use Rattle.std.proofs.lemmas.Result.{err_from_is_err_and}
use Rattle.nv_once_script.specs.declared.once.fault.FaultKind.TheVariants.{UnknownWord}
use Rattle.nv_once_script.specs.declared.once.vocabulary.Keyword.{Keyword}
use Rattle.nv_once_script.specs.OnceScript.{counted_keyword, progress}
use Rattle.nv_once_script.specs.OnceVocabulary.{arguments_of, count_check, keyword_of}
use Rattle.nv_once_script.specs.OnceWords.{words_of}
use Rattle.nv_once_script.proofs.OnceFoldLemmas.{after_words-none, after_words-unknown, after_words-known}
use Rattle.nv_once_script.proofs.OnceScriptLemmas.{counted_keyword-right, counted_keyword-wrong}
use Rattle.nv_once_script.proofs.once.reading.Reading.read.Goals as goal

pub returns-in_default : goal.returns-in_default
returns-in_default c =
    after_words-none keyword_of (counted_keyword (progress c.args.self.now)) (progress c.args.self.now) (words_of c.args.line.now)
    (sym c.of-words.ensures ∙ c.in_default.ensures.steps.0)

pub returns-in_err-keyword : goal.returns-in_err-keyword
returns-in_err-keyword c =
    let unknown = ap (λ (o : Option Keyword). ok_or o UnknownWord) (sym c.look_up.ensures) ∙ sym c.ok_or.ensures.value ∙ c.in_err-keyword.was in
    let p = err_from_is_err_and c.from_residual.result c.from_residual.ensures.1 in
    rw (p.1, p.2)
    (after_words-unknown keyword_of (counted_keyword (progress c.args.self.now)) (progress c.args.self.now) (words_of c.args.line.now) _ _ _
    (sym c.of-words.ensures ∙ c.in-Some.ensures.steps) unknown)

pub returns-in_err-check_count : goal.returns-in_err-check_count
returns-in_err-check_count c =
    let known = ap (λ (o : Option Keyword). ok_or o UnknownWord) (sym c.look_up.ensures) ∙ sym c.ok_or.ensures.value ∙ c.in_ok-keyword.was in
    let wrong = ap (λ (n : ℕ). count_check (length c.next_name.new.self) n) (sym c.arguments.ensures) ∙ sym c.check_count.ensures ∙ c.in_err-check_count.was in
    let p = err_from_is_err_and c.from_residual-in_err-check_count.result c.from_residual-in_err-check_count.ensures.1 in
    rw (p.1, p.2)
    (after_words-known keyword_of (counted_keyword (progress c.args.self.now)) (progress c.args.self.now) (words_of c.args.line.now) _ _ _
    (sym c.of-words.ensures ∙ c.in-Some.ensures.steps) known
    ∙ counted_keyword-wrong (progress c.args.self.now) c.in_ok-keyword.keyword c.next_name.new.self _ wrong)

pub returns : goal.returns
returns c =
    let known = ap (λ (o : Option Keyword). ok_or o UnknownWord) (sym c.look_up.ensures) ∙ sym c.ok_or.ensures.value ∙ c.in_ok-keyword.was in
    let right : count_check (length c.next_name.new.self) (arguments_of c.in_ok-keyword.keyword) ≡ Ok tt =
    ap (λ (n : ℕ). count_check (length c.next_name.new.self) n) (sym c.arguments.ensures) ∙ sym c.check_count.ensures ∙ c.in_ok-check_count.was in
    rw (after_words-known keyword_of (counted_keyword (progress c.args.self.now)) (progress c.args.self.now) (words_of c.args.line.now) _ _ _
    (sym c.of-words.ensures ∙ c.in-Some.ensures.steps) known)
    (rw (counted_keyword-right (progress c.args.self.now) c.in_ok-keyword.keyword c.next_name.new.self tt right) c.add.ensures)
