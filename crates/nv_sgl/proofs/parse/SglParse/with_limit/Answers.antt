use Rattle.std.proofs.Common.{ap, arith}
use Rattle.nv_sgl.specs.declared.cursor.Cursor.{Cursor}
use Rattle.nv_sgl.proofs.Parses.{dialogue_of-own, total_len-own}
use Rattle.nv_sgl.proofs.parse.SglParse.with_limit.Goals as goal

pub invariant_of-result : goal.invariant_of-result
invariant_of-result g c = record {
  in_range = c.look_at.ensures.in_range;
  total = let none = ap (λ (s : Cursor). s.total) c.at_own-cursor.ensures in
      let more = c.look_at.ensures.behind.total in
      let own = total_len-own c.args.dest c.args.first c.in_ok-own.field-0 c.in_ok-own.ensures in omega arith;
}

pub returns-clause-dialogue : goal.returns-clause-dialogue
returns-clause-dialogue g c =
    dialogue_of-own _ _ _ _ _ c.at_own-cursor.result _ _ c.requires c.at_own-cursor.ensures c.look_at.ensures.behind c.in_ok-own.ensures
