use Rattle.std.proofs.Common.{ℕ, List, ◌≡◌, All, length, rules, subst, sym, ap, ◌∙◌}
use Rattle.std.specs.Vec.{vec_len, vec_capacity}
use Rattle.nv_disk.proofs.StoredLemmas.{blocks-sized, length-blocks}
use Rattle.nv_disk.proofs.blocks.Blocks.len.Goals as goal

pub returns-clause-value : goal.returns-clause-value
returns-clause-value c =
    let size : vec_len c.self.inside.entries ≡ length c.self.inside.entries.items = search rules in
    c.len.ensures ∙ size ∙ sym (length-blocks c.self.inside.stored.items c.self.inside.entries.items) ∙ ap (λ (bs : List (List ℕ)). length bs) c.self.view_is

pub returns-clause-sized : goal.returns-clause-sized
returns-clause-sized c =
    let W : List (List ℕ) → Type 0 = λ bs. All (λ (block : List ℕ). length block ≡ 512) bs in
    subst W c.self.view_is (blocks-sized (vec_capacity c.self.inside.stored) c.self.inside.entries.items c.self.inside.stored.items c.self.invariant)
