use Rattle.std.proofs.Common.{ℕ, List, true, false, ◌≡◌, ◌+◌, ◌-◌, ◌*◌, ◌/◌, ◌<◌, length, replicate, take, drop, sym, ap, ◌∙◌, arith}
use Rattle.std.specs.List.{slice_index_or}
use Rattle.std.proofs.lemmas.Grind.{get_or_default_zero}
use Rattle.std.proofs.lemmas.List.{length-replicate}
use Rattle.nv_disk.specs.Stored.{blocks_of, is_blank}
use Rattle.nv_disk.proofs.StoredLemmas.{length-blocks, place-stored, row-blank, row-inside, row-shown}
use Rattle.nv_disk.proofs.blocks.Blocks.row.Goals as goal

pub index-requires : goal.index-requires
index-requires c =
    let same = length-blocks c.self.inside.stored.items c.self.inside.entries.items in
    let seen = ap (λ (bs : List (List ℕ)). length bs) c.self.view_is in
    let within = c.requires in
    omega arith

pub count_blank-requires-clause-within : goal.count_blank-requires-clause-within
count_blank-requires-clause-within c =
    let same = length-blocks c.self.inside.stored.items c.self.inside.entries.items in
    let seen = ap (λ (bs : List (List ℕ)). length bs) c.self.view_is in
    let lent = ap (λ (ps : List ℕ). length ps) c.deref.ensures.value in
    let within = c.requires in
    omega arith

pub count_blank-requires-clause-first : goal.count_blank-requires-clause-first
count_blank-requires-clause-first c =
    let same = length-blocks c.self.inside.stored.items c.self.inside.entries.items in
    let seen = ap (λ (bs : List (List ℕ)). length bs) c.self.view_is in
    let within = c.requires in
    let below : c.args.block < length c.self.inside.entries.items = omega arith in
    ap (λ (ps : List ℕ). is_blank (slice_index_or ps c.args.block 0)) c.deref.ensures.value
    ∙ ap is_blank (sym (c.index.ensures ∙ get_or_default_zero c.self.inside.entries.items c.args.block c.index.result.now below)) ∙ sym c.is_blank.ensures ∙ c.if-is_blank.true

pub zero_row-requires : goal.zero_row-requires
zero_row-requires c =
    let counted = c.count_blank.ensures in
    omega arith

pub returns-then-is_blank-clause-value : goal.returns-then-is_blank-clause-value
returns-then-is_blank-clause-value c =
    let same = length-blocks c.self.inside.stored.items c.self.inside.entries.items in
    let seen = ap (λ (bs : List (List ℕ)). length bs) c.self.view_is in
    let within = c.requires in
    let counted = c.count_blank.ensures in
    let n : ℕ = c.count_blank.result in
    let blank : (i : ℕ) → i < n → is_blank (slice_index_or c.self.inside.entries.items (c.args.block + i) 0) ≡ true =
    λ i low. ap (λ (ps : List ℕ). is_blank (slice_index_or ps (c.args.block + i) 0)) (sym c.deref.ensures.value) ∙ c.count_blank.ensures.blank i low in
    let many : length c.zero_row.result.now ≡ n = ap (λ (bs : List (List ℕ)). length bs) c.zero_row.ensures ∙ length-replicate n (replicate {A = ℕ} 512 0) in
    c.zero_row.ensures
    ∙ sym (row-blank c.self.inside.stored.items c.self.inside.entries.items c.args.block n (omega arith) blank)
    ∙ ap (λ (k : ℕ). take k (drop c.args.block (blocks_of c.self.inside.stored.items c.self.inside.entries.items))) (sym many)
    ∙ ap (λ (bs : List (List ℕ)). take (length c.zero_row.result.now) (drop c.args.block bs)) c.self.view_is

pub returns-then-is_blank-clause-some : goal.returns-then-is_blank-clause-some
returns-then-is_blank-clause-some c =
    let counted = c.count_blank.ensures in
    let many = ap (λ (bs : List (List ℕ)). length bs) c.zero_row.ensures ∙ length-replicate c.count_blank.result (replicate {A = ℕ} 512 0) in
    omega arith

pub returns-then-is_blank-clause-most : goal.returns-then-is_blank-clause-most
returns-then-is_blank-clause-most c =
    let counted = c.count_blank.ensures in
    let many = ap (λ (bs : List (List ℕ)). length bs) c.zero_row.ensures ∙ length-replicate c.count_blank.result (replicate {A = ℕ} 512 0) in
    omega arith

pub count_in_row-count-requires-clause-within : goal.count_in_row-count-requires-clause-within
count_in_row-count-requires-clause-within c =
    let same = length-blocks c.self.inside.stored.items c.self.inside.entries.items in
    let seen = ap (λ (bs : List (List ℕ)). length bs) c.self.view_is in
    let lent = ap (λ (ps : List ℕ). length ps) c.deref-2.ensures.value in
    let within = c.requires in
    omega arith

pub count_in_row-count-requires-clause-first : goal.count_in_row-count-requires-clause-first
count_in_row-count-requires-clause-first c =
    let same = length-blocks c.self.inside.stored.items c.self.inside.entries.items in
    let seen = ap (λ (bs : List (List ℕ)). length bs) c.self.view_is in
    let within = c.requires in
    let below : c.args.block < length c.self.inside.entries.items = omega arith in
    ap (λ (ps : List ℕ). slice_index_or ps c.args.block 0) c.deref-2.ensures.value
    ∙ sym (c.index.ensures ∙ get_or_default_zero c.self.inside.entries.items c.args.block c.index.result.now below)

pub part-requires : goal.part-requires
part-requires c =
    let same = length-blocks c.self.inside.stored.items c.self.inside.entries.items in
    let seen = ap (λ (bs : List (List ℕ)). length bs) c.self.view_is in
    let lent = ap (λ (bs : List (List ℕ)). length bs) c.deref-3.ensures.value in
    let within = c.requires in
    let counted = c.count_in_row-count.ensures in
    let inside = row-inside c.self.inside.stored.items c.self.inside.entries.items c.args.block c.index.result.now c.count_in_row-count.result
    c.self.invariant.there c.count_in_row-count.ensures.some (omega arith)
    (λ i low. ap (λ (ps : List ℕ). slice_index_or ps (c.args.block + i) 0) (sym c.deref-2.ensures.value) ∙ c.count_in_row-count.ensures.row i low) in
    let told : is_blank c.index.result.now ≡ false = sym c.is_blank.ensures ∙ c.if-is_blank.false in
    let two = (place-stored c.index.result.now told).0 in
    omega arith

pub returns-clause-value : goal.returns-clause-value
returns-clause-value c =
    let same = length-blocks c.self.inside.stored.items c.self.inside.entries.items in
    let seen = ap (λ (bs : List (List ℕ)). length bs) c.self.view_is in
    let within = c.requires in
    let counted = c.count_in_row-count.ensures in
    let told : is_blank c.index.result.now ≡ false = sym c.is_blank.ensures ∙ c.if-is_blank.false in
    let two = (place-stored c.index.result.now told).0 in
    let row : (i : ℕ) → i < c.count_in_row-count.result → slice_index_or c.self.inside.entries.items (c.args.block + i) 0 ≡ c.index.result.now + 2 * i =
    λ i low. ap (λ (ps : List ℕ). slice_index_or ps (c.args.block + i) 0) (sym c.deref-2.ensures.value) ∙ c.count_in_row-count.ensures.row i low in
    let inside = row-inside c.self.inside.stored.items c.self.inside.entries.items c.args.block c.index.result.now c.count_in_row-count.result
    c.self.invariant.there c.count_in_row-count.ensures.some (omega arith) row in
    let first : c.index.result.now / 2 ≡ c.index.result.now / 2 - 1 + 1 = omega arith in
    let part : c.part.result.now ≡ take c.count_in_row-count.result (drop (c.index.result.now / 2 - 1) c.self.inside.stored.items) =
    c.part.ensures.part ∙ ap (λ (bs : List (List ℕ)). take c.count_in_row-count.result (drop (c.index.result.now / 2 - 1) bs)) c.deref-3.ensures.value in
    let len = c.part.ensures.len in
    part
    ∙ sym (row-shown c.self.inside.stored.items c.self.inside.entries.items c.args.block c.index.result.now (c.index.result.now / 2 - 1) c.count_in_row-count.result
    (omega arith) (omega arith) told first row)
    ∙ ap (λ (n : ℕ). take n (drop c.args.block (blocks_of c.self.inside.stored.items c.self.inside.entries.items))) (sym len)
    ∙ ap (λ (bs : List (List ℕ)). take (length c.part.result.now) (drop c.args.block bs)) c.self.view_is

pub returns-clause-some : goal.returns-clause-some
returns-clause-some c =
    let len = c.part.ensures.len in
    let counted = c.count_in_row-count.ensures in
    omega arith

pub returns-clause-most : goal.returns-clause-most
returns-clause-most c =
    let len = c.part.ensures.len in
    let counted = c.count_in_row-count.ensures in
    omega arith
