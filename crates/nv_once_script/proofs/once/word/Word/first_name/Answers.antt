use Rattle.std.proofs.Common.{arith}
use Rattle.nv_once_script.proofs.OnceWordsLemmas.{ends_word, first_word-none, first_word-some, is_no_space, position_or_len-le}
use Rattle.nv_once_script.proofs.once.word.Word.first_name.Goals as goal

pub split_at-requires : goal.split_at-requires
split_at-requires c = omega (arith, c.leading_spaces.ensures, position_or_len-le is_no_space c.args.line.now)

pub returns-then-end-eq0 : goal.returns-then-end-eq0
returns-then-end-eq0 c =
    first_word-none c.args.line.now c.split_at.result.1.now _ _ c.leading_spaces.ensures c.split_at.ensures.back c.word_end-end.ensures c.if-end-eq0.true

pub split_at-requires-2 : goal.split_at-requires-2
split_at-requires-2 c = omega (arith, c.word_end-end.ensures, position_or_len-le ends_word c.split_at.result.1.now)

pub returns : goal.returns
returns c =
    first_word-some c.args.line.now c.split_at.result.1.now _ _ _ _ c.leading_spaces.ensures c.split_at.ensures.back c.word_end-end.ensures (omega (arith, c.if-end-eq0.false))
    c.split_at-2.ensures.front c.split_at-2.ensures.back
