use Rattle.std.proofs.Common.{◌∙◌, ℕ, List, All, length, slice_get, ap, sym, subst}
use Rattle.std.proofs.lemmas.List.Elements.{All-head, All-tail}
use Rattle.nv_core.specs.Ending.{IsReadPart, tags_delivered}
use Rattle.nv_model.specs.Memory.{byte_in}
use Rattle.nv_world_model.specs.Area.{bounce_page}
use Rattle.nv_core.proofs.posting.deliver_others.Goals as goal

pub deliver_part-requires-clause-part : goal.deliver_part-requires-clause-part
deliver_part-requires-clause-part g c =
    let place = c.args.place in
    let P : ℕ → Type 0 =
    λ (t : ℕ). IsReadPart (bounce_page place.mediator place.lane t) (length (g.C.MemoryCell.bytes c.args.host.now)) c.args.map.now.regions (slice_get c.args.ring.now.tags t) in
    subst (λ (n : ℕ). IsReadPart (bounce_page place.mediator place.lane c.in-Some.tag) n c.args.map.now.regions (slice_get c.args.ring.now.tags c.in-Some.tag))
    (sym c.loop-tag.invariant.len)
    (All-head P c.in-Some.tag c.pop.new.self (subst (All P) c.in-Some.ensures.lowest c.loop-tag.invariant.parts))

pub loop-tag-preserved : goal.loop-tag-preserved
loop-tag-preserved g c =
    let place = c.args.place in
    let regions = c.args.map.now.regions in
    let P : ℕ → Type 0 =
    λ (t : ℕ). IsReadPart (bounce_page place.mediator place.lane t) (length (g.C.MemoryCell.bytes c.args.host.now)) regions (slice_get c.args.ring.now.tags t) in
    record {
      len = c.deliver_part.ensures.len ∙ c.loop-tag.invariant.len;
      goes =
          ap (λ (h : ℕ → ℕ). tags_delivered place.mediator place.lane c.pop.new.self c.args.ring.now regions h) c.deliver_part.ensures.bytes
          ∙ ap (λ (tags : List ℕ). tags_delivered place.mediator place.lane tags c.args.ring.now regions (byte_in (g.C.MemoryCell.bytes c.loop-tag.host))) (sym c.in-Some.ensures.lowest)
          ∙ c.loop-tag.invariant.goes;
      parts = All-tail P c.in-Some.tag c.pop.new.self (subst (All P) c.in-Some.ensures.lowest c.loop-tag.invariant.parts);
    }
