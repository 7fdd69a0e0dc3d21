use Rattle.std.proofs.Common.{◌∙◌}
use Rattle.nv_once_script.proofs.OnceWordsLemmas.{ends_word, first-byte}
use Rattle.nv_once_script.proofs.once.word.long_word_end.Goals as goal

pub returns : goal.returns
returns c = c.unwrap_or.ensures ∙ first-byte ends_word c.args.text.now c.memchr2.result c.memchr2.ensures
