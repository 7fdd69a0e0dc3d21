use Rattle.std.proofs.Common.{Option, ap}
use Rattle.std.specs.Option.{ok_or}
use Rattle.nv_once_script.specs.declared.once.fault.FaultKind.TheVariants.{UnknownWord}
use Rattle.nv_once_script.specs.OnceWords.{words_of}
use Rattle.nv_replay_script.specs.declared.vocabulary.Keyword.{Keyword}
use Rattle.nv_replay_script.specs.ReplayScript.{after_keyword, progress}
use Rattle.nv_replay_script.specs.ReplayVocabulary.{keyword_of}
use Rattle.nv_once_script.proofs.OnceFoldLemmas.{after_words-known}
use Rattle.nv_replay_script.proofs.reading.Reading.read.Goals as goal

pub returns-in-Some : goal.returns-in-Some
returns-in-Some c =
    let (first, words, keyword) = c.in-Some.ensures in
    let known = ap (λ (o : Option Keyword). ok_or o UnknownWord) keyword in
    rw (after_words-known keyword_of (after_keyword (progress c.args.self.now)) (progress c.args.self.now) (words_of c.args.line.now) first _ _ words known)
    (rw c.of.ensures at c.add.ensures)
