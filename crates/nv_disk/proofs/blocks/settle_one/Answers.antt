use Rattle.std.proofs.Common.{rules, ℕ, List, [], ◌∷◌, ◌++◌, ◌+◌, ◌*◌, ◌/◌, ◌≡◌, length, replicate, set, ap, subst, sym, ◌∙◌, arith}
use Rattle.std.specs.List.{slice_index_or}
use Rattle.std.specs.Vec.{vec_len, vec_capacity}
use Rattle.std.proofs.lemmas.Grind.{get_or_default_zero}
use Rattle.nv_disk.specs.Stored.{IsStored, blocks_of, places_of}
use Rattle.nv_disk.proofs.StoredLemmas.{blocks-settled, counted-fewer, entry-there, length-places, place-told, places-settled, settled}
use Rattle.nv_disk.proofs.blocks.settle_one.Goals as goal

pub returns-then-place-ne0-clause-there : goal.returns-then-place-ne0-clause-there
returns-then-place-ne0-clause-there c =
    let entry = c.index.ensures ∙ get_or_default_zero c.args.entries.now.items c.args.block c.index.result.now c.requires.block in
    let there = entry-there (length c.args.stored.now.items) c.args.entries.now.items c.args.block c.index.result.now c.requires.stored.there c.requires.block entry in
    let some = c.if-place-ne0.true in
    omega arith

pub push_reserved-requires : goal.push_reserved-requires
push_reserved-requires c =
    let entry = c.index.ensures ∙ get_or_default_zero c.args.entries.now.items c.args.block c.index.result.now c.requires.block in
    let places = length-places c.args.entries.now.items in
    let none : slice_index_or (places_of c.args.entries.now.items) c.args.block 0 ≡ 0 =
    place-told c.args.entries.now.items c.args.block c.requires.block ∙ ap (λ (k : ℕ). k / 2) (sym entry) ∙ c.if-place-ne0.false in
    let fewer = counted-fewer (places_of c.args.entries.now.items) c.args.block (omega arith) none in
    let kept = c.requires.stored in
    omega arith

pub overflow_cast-next : goal.overflow_cast-next
overflow_cast-next c =
    let entry = c.index.ensures ∙ get_or_default_zero c.args.entries.now.items c.args.block c.index.result.now c.requires.block in
    let places = length-places c.args.entries.now.items in
    let none : slice_index_or (places_of c.args.entries.now.items) c.args.block 0 ≡ 0 =
    place-told c.args.entries.now.items c.args.block c.requires.block ∙ ap (λ (k : ℕ). k / 2) (sym entry) ∙ c.if-place-ne0.false in
    let fewer = counted-fewer (places_of c.args.entries.now.items) c.args.block (omega arith) none in
    let kept = c.requires.stored in
    omega arith

pub returns-clause-few : goal.returns-clause-few
returns-clause-few c =
    let entry = c.index.ensures ∙ get_or_default_zero c.args.entries.now.items c.args.block c.index.result.now c.requires.block in
    let places = length-places c.args.entries.now.items in
    let none : slice_index_or (places_of c.args.entries.now.items) c.args.block 0 ≡ 0 =
    place-told c.args.entries.now.items c.args.block c.requires.block ∙ ap (λ (k : ℕ). k / 2) (sym entry) ∙ c.if-place-ne0.false in
    let fewer = counted-fewer (places_of c.args.entries.now.items) c.args.block (omega arith) none in
    let kept = c.requires.stored in
    omega arith

pub returns-clause-stored : goal.returns-clause-stored
returns-clause-stored c =
    let entry = c.index.ensures ∙ get_or_default_zero c.args.entries.now.items c.args.block c.index.result.now c.requires.block in
    let places = length-places c.args.entries.now.items in
    let none : slice_index_or (places_of c.args.entries.now.items) c.args.block 0 ≡ 0 =
    place-told c.args.entries.now.items c.args.block c.requires.block ∙ ap (λ (k : ℕ). k / 2) (sym entry) ∙ c.if-place-ne0.false in
    let size : vec_len c.args.stored.now ≡ length c.args.stored.now.items = search rules in
    let next : c.len-next.result ≡ length c.args.stored.now.items = c.len-next.ensures ∙ size in
    let W : ℕ → Type 0 = λ n. IsStored n (set (places_of c.args.entries.now.items) c.args.block (length c.args.stored.now.items + 1)) (c.args.stored.now.items ++ replicate 512 0 ∷ []) in
    let X : List ℕ → Type 0 = λ ps. IsStored (vec_capacity c.push_reserved.new.self) ps (c.args.stored.now.items ++ replicate 512 0 ∷ []) in
    let Y : ℕ → Type 0 = λ n. IsStored (vec_capacity c.push_reserved.new.self)
    (places_of (set c.args.entries.now.items c.args.block (2 * (n + 1) + 1))) (c.args.stored.now.items ++ replicate 512 0 ∷ []) in
    let Z : List (List ℕ) → Type 0 = λ xs. IsStored (vec_capacity c.push_reserved.new.self) (places_of (set c.args.entries.now.items c.args.block (2 * (c.len-next.result + 1) + 1))) xs in
    subst Z (sym c.push_reserved.ensures.items)
    (subst Y (sym next)
    (subst X (sym (places-settled c.args.entries.now.items c.args.block (length c.args.stored.now.items)))
    (subst W (sym c.push_reserved.ensures.capacity)
    (settled _ (places_of c.args.entries.now.items) c.args.stored.now.items c.args.block c.requires.stored (omega arith) none))))

pub returns-clause-same : goal.returns-clause-same
returns-clause-same c =
    let entry = c.index.ensures ∙ get_or_default_zero c.args.entries.now.items c.args.block c.index.result.now c.requires.block in
    let none : slice_index_or c.args.entries.now.items c.args.block 0 / 2 ≡ 0 = ap (λ (k : ℕ). k / 2) (sym entry) ∙ c.if-place-ne0.false in
    let size : vec_len c.args.stored.now ≡ length c.args.stored.now.items = search rules in
    let next : c.len-next.result ≡ length c.args.stored.now.items = c.len-next.ensures ∙ size in
    ap (λ (xs : List (List ℕ)). blocks_of xs (set c.args.entries.now.items c.args.block (2 * (c.len-next.result + 1) + 1))) c.push_reserved.ensures.items
    ∙ ap (λ (n : ℕ). blocks_of (c.args.stored.now.items ++ replicate 512 0 ∷ []) (set c.args.entries.now.items c.args.block (2 * (n + 1) + 1))) next
    ∙ blocks-settled c.args.stored.now.items c.args.entries.now.items c.args.block c.requires.stored.there c.requires.block none
