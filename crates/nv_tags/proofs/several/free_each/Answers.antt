use Rattle.std.proofs.Common.{ℕ, List, length-set, set, arith, refl, sym, ap, ◌∙◌}
use Rattle.nv_tags.specs.Numbers.{ByGuest, ByQueue}
use Rattle.nv_tags.specs.Tags.{set_each}
use Rattle.nv_tags.specs.declared.state.TagState.TheVariants as state
use Rattle.nv_tags.proofs.Owners.{AreGoing-one}
use Rattle.nv_tags.proofs.several.free_each.Goals as goal

pub loop-tag-preserved : goal.loop-tag-preserved
loop-tag-preserved c =
    record {
      size = length-set c.loop-tag.states c.from-at.result state.Free ∙ c.loop-tag.invariant.size;
      owned_are = c.disown.ensures.size;
      queued_are = c.disown-in-Some.ensures.size;
      goes =
          ap (λ (n : ℕ). set_each c.pop.new.self state.Free (set c.loop-tag.states n state.Free)) c.from-at.ensures
          ∙ sym (ap (λ (ts : List ℕ). set_each ts state.Free c.loop-tag.states) c.in-Some.ensures.lowest)
          ∙ c.loop-tag.invariant.goes;
      owned_go =
          AreGoing-one ByGuest c.loop-tag.left c.pop.new.self c.args.claims.now c.loop-tag.owned c.disown.new.masks c.args.tags c.args.owned.now _ c.in-Some.tag
          c.from-at.result c.index-claims-at.result c.in-Some.ensures.lowest (omega arith) c.from-at.ensures c.from.ensures c.disown.ensures.bits
          c.loop-tag.invariant.owned_go;
      queued_go =
          AreGoing-one ByQueue c.loop-tag.left c.pop.new.self c.args.claims.now c.loop-tag.queued c.disown-in-Some.new.masks c.args.tags c.args.queued.now _ c.in-Some.tag
          c.from-at.result c.index-claims-at-in-Some.result c.in-Some.ensures.lowest (omega arith) c.from-at.ensures refl c.disown-in-Some.ensures.bits
          c.loop-tag.invariant.queued_go;
    }
