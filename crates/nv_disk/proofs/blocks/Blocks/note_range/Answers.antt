use Rattle.std.proofs.Common.{rules, ℕ, List, ◌≡◌, ◌+◌, ◌++◌, length, replicate, take, drop, sym, ap, ◌∙◌, arith}
use Rattle.std.specs.Vec.{vec_len, with_items}
use Rattle.std.proofs.lemmas.List.{with_items_is}
use Rattle.nv_disk.specs.Stored.{blocks_of}
use Rattle.nv_disk.proofs.StoredLemmas.{length-blocks}
use Rattle.nv_disk.proofs.blocks.Blocks.note_range.Goals as goal

pub clear_entries-requires : goal.clear_entries-requires
clear_entries-requires c =
    let same = length-blocks c.self.inside.stored.items c.self.inside.entries.items in
    let seen = ap (λ (bs : List (List ℕ)). length bs) c.self.view_is in
    let lent = ap (λ (es : List ℕ). length es) c.deref_mut.ensures.value in
    let within = c.requires in
    omega arith

pub returns : goal.returns
returns c =
    let size : vec_len c.self.inside.entries ≡ length c.self.inside.entries.items = search rules in
    let lent : length c.deref_mut.result.now ≡ length c.self.inside.entries.items = ap (λ (es : List ℕ). length es) c.deref_mut.ensures.value in
    let items : (with_items c.self.inside.entries c.clear_entries.new.entries).items ≡ c.clear_entries.new.entries =
    with_items_is c.self.inside.entries c.clear_entries.new.entries (c.clear_entries.ensures.size ∙ lent ∙ sym size) in
    ap (blocks_of c.self.inside.stored.items) items
    ∙ c.clear_entries.ensures.shown c.self.inside.stored.items
    ∙ ap (λ (es : List ℕ). cleared (blocks_of c.self.inside.stored.items es)) c.deref_mut.ensures.value
    ∙ ap cleared c.self.view_is
  where
    cleared : List (List ℕ) → List (List ℕ)
    cleared bs = take c.args.start bs ++ (replicate c.args.count (replicate 512 0) ++ drop (c.args.start + c.args.count) bs)
