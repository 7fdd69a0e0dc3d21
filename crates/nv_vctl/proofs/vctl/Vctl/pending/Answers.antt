use Rattle.std.proofs.Common.{◌≡◌, List, Option, None, length, map, rules, arith, sym, ap, ◌∙◌, Bor}
use Rattle.std.proofs.lemmas.List.{length-map}
use Rattle.nv_model.specs.Controller.{pending}
use Rattle.nv_model.specs.Queue.{CompletionQueue, raised}
use Rattle.nv_vctl.proofs.Mapped.{mapped}
use Rattle.nv_vctl.proofs.vctl.Vctl.pending.Goals as goal

pub returns : goal.returns
returns c =
    let now = (λ (r : Bor (Option CompletionQueue)). r.now) in
    let count : length c.self.inside.completion ≡ 9 = c.self.invariant.together.completion_count in
    let refs : length c.each_ref.result ≡ 9 = sym (length-map c.each_ref.result now) ∙ ap (λ (qs : List (Option CompletionQueue)). length qs) c.each_ref.ensures.items ∙ count in
    mapped now raised c.each_ref.result c.map.result None (c.map.ensures.items.long ∙ sym refs)
    (λ i d below. let call = c.map.ensures.items.at i d None (omega (arith, refs, below)) in search (rules, call.2))
    ∙ ap (map raised) c.each_ref.ensures.items ∙ ap pending c.self.view_is
