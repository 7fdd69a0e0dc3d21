use Rattle.std.proofs.Common.{◌≡◌, ◌+◌, ◌≤◌, length, true, arith, sym, ◌∙◌}
use Rattle.nv_sgl.specs.Cursor.{is_asking}
use Rattle.nv_sgl.proofs.Parts.{ended, none_left, NamesSoFar-end, NamesSoFar-next}
use Rattle.nv_sgl.proofs.cursor.read_places.Goals as goal

pub loop-rest-preserved : goal.loop-rest-preserved
loop-rest-preserved c =
    let asking : is_asking c.loop-rest.cursor ≡ true = sym c.is_asking.ensures ∙ c.loop-rest-test.true in
    let less : length c.in-Some.more.now + 16 ≡ length c.loop-rest.rest.now = c.in-Some.ensures.cases.2 in
    let some : 16 ≤ length c.loop-rest.rest.now = omega arith in
    NamesSoFar-next
    _ _ _ _ _ _ _ _ _ _ _ _ _ c.loop-rest.invariant asking some c.pass_one.ensures (c.of-d.ensures ∙ c.in-Some.ensures.cases.0)
    c.in-Some.ensures.cases.1 c.in_ok-take.ensures.named c.in_ok-take.ensures.behind c.in_ok-take.ensures.in_range

pub returns-after-loop-rest : goal.returns-after-loop-rest
returns-after-loop-rest c =
    NamesSoFar-end
    _ _ _ _ _ _ _ _ c.loop-rest.invariant (ended _ _ _ _ _ (sym c.is_asking.ensures ∙ c.loop-rest-test.false))

pub returns-in_default : goal.returns-in_default
returns-in_default c =
    NamesSoFar-end
    _ _ _ _ _ _ _ _ c.loop-rest.invariant (none_left _ _ _ _ _ c.loop-rest.invariant.whole c.in_default.ensures.cases)
