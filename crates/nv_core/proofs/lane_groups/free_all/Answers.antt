use Rattle.std.proofs.Common.{◌<◌, ◌∙◌, All, ℕ, List, ap, subst, sym}
use Rattle.std.proofs.lemmas.List.Elements.{All-tail}
use Rattle.std.specs.Vec.{vec_len}
use Rattle.nv_core.specs.declared.progress.Progress.TheVariants as progress
use Rattle.nv_tags.specs.Tags.{set_each}
use Rattle.nv_core.proofs.lane_groups.free_all.Goals as goal

pub loop-tag-preserved : goal.loop-tag-preserved
loop-tag-preserved c =
    let so_far = c.loop-tag.invariant in
    let first = c.in-Some.ensures.lowest in
    record {
      size = c.keep.ensures.len ∙ so_far.size;
      below =
          All-tail (λ (tag : ℕ). tag < vec_len c.args.kept.now) c.in-Some.tag c.pop.new.self
          (subst (All (λ (tag : ℕ). tag < vec_len c.args.kept.now)) first so_far.below);
      goes =
          ap (set_each c.pop.new.self progress.Nothing) c.keep.ensures.items
          ∙ sym (ap (λ (tags : List ℕ). set_each tags progress.Nothing c.loop-tag.kept.items) first)
          ∙ so_far.goes;
    }
