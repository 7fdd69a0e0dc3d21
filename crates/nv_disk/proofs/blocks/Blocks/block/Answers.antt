use Rattle.std.proofs.Common.{ℕ, List, [], true, false, ◌≡◌, ◌-◌, ◌/◌, ◌<◌, length, sym, ap, ◌∙◌, arith}
use Rattle.std.specs.List.{slice_index_or}
use Rattle.std.proofs.lemmas.Grind.{get_or_default_zero}
use Rattle.std.proofs.lemmas.List.{get_or_default}
use Rattle.nv_disk.specs.Stored.{is_blank}
use Rattle.nv_disk.proofs.StoredLemmas.{block-shown, entry-there, length-blocks, place-stored, shown-none, shown-told}
use Rattle.nv_disk.proofs.blocks.Blocks.block.Goals as goal

pub index-requires : goal.index-requires
index-requires c =
    let same = length-blocks c.self.inside.stored.items c.self.inside.entries.items in
    let seen = ap (λ (bs : List (List ℕ)). length bs) c.self.view_is in
    omega arith

pub returns-then-is_blank-clause-value : goal.returns-then-is_blank-clause-value
returns-then-is_blank-clause-value c = λ other.
    let same = length-blocks c.self.inside.stored.items c.self.inside.entries.items in
    let seen = ap (λ (bs : List (List ℕ)). length bs) c.self.view_is in
    let below : c.args.block < length c.self.inside.entries.items = omega arith in
    let blank : is_blank (slice_index_or c.self.inside.entries.items c.args.block 0) ≡ true =
    ap is_blank (sym (c.index.ensures ∙ get_or_default_zero c.self.inside.entries.items c.args.block c.index.result.now below)) ∙ sym c.is_blank.ensures ∙ c.if-is_blank.true in
    sym (ap (λ (bs : List (List ℕ)). slice_index_or bs c.args.block other) (sym c.self.view_is)
    ∙ block-shown c.self.inside.stored.items c.self.inside.entries.items c.args.block other below
    ∙ shown-none c.self.inside.stored.items (slice_index_or c.self.inside.entries.items c.args.block 0) blank)

pub index-requires-2 : goal.index-requires-2
index-requires-2 c =
    let same = length-blocks c.self.inside.stored.items c.self.inside.entries.items in
    let seen = ap (λ (bs : List (List ℕ)). length bs) c.self.view_is in
    let below : c.args.block < length c.self.inside.entries.items = omega arith in
    let entry = c.index.ensures ∙ get_or_default_zero c.self.inside.entries.items c.args.block c.index.result.now below in
    let told : is_blank c.index.result.now ≡ false = sym c.is_blank.ensures ∙ c.if-is_blank.false in
    let two = (place-stored c.index.result.now told).0 in
    let there = entry-there (length c.self.inside.stored.items) c.self.inside.entries.items c.args.block c.index.result.now c.self.invariant.there below entry in
    omega arith

pub returns-clause-value : goal.returns-clause-value
returns-clause-value c = λ other.
    let same = length-blocks c.self.inside.stored.items c.self.inside.entries.items in
    let seen = ap (λ (bs : List (List ℕ)). length bs) c.self.view_is in
    let below : c.args.block < length c.self.inside.entries.items = omega arith in
    let entry = c.index.ensures ∙ get_or_default_zero c.self.inside.entries.items c.args.block c.index.result.now below in
    let told : is_blank c.index.result.now ≡ false = sym c.is_blank.ensures ∙ c.if-is_blank.false in
    let two = (place-stored c.index.result.now told).0 in
    let there = entry-there (length c.self.inside.stored.items) c.self.inside.entries.items c.args.block c.index.result.now c.self.invariant.there below entry in
    let inside : c.index.result.now / 2 - 1 < length c.self.inside.stored.items = omega arith in
    c.index-2.ensures
    ∙ get_or_default c.self.inside.stored.items (c.index.result.now / 2 - 1) c.index-2.result.now [] inside
    ∙ sym (ap (λ (bs : List (List ℕ)). slice_index_or bs c.args.block other) (sym c.self.view_is)
    ∙ block-shown c.self.inside.stored.items c.self.inside.entries.items c.args.block other below
    ∙ shown-told c.self.inside.stored.items _ c.index.result.now (sym entry) told)

pub returns-clause-sized : goal.returns-clause-sized
returns-clause-sized c =
    let same = length-blocks c.self.inside.stored.items c.self.inside.entries.items in
    let seen = ap (λ (bs : List (List ℕ)). length bs) c.self.view_is in
    let below : c.args.block < length c.self.inside.entries.items = omega arith in
    let entry = c.index.ensures ∙ get_or_default_zero c.self.inside.entries.items c.args.block c.index.result.now below in
    let told : is_blank c.index.result.now ≡ false = sym c.is_blank.ensures ∙ c.if-is_blank.false in
    let two = (place-stored c.index.result.now told).0 in
    let there = entry-there (length c.self.inside.stored.items) c.self.inside.entries.items c.args.block c.index.result.now c.self.invariant.there below entry in
    let inside : c.index.result.now / 2 - 1 < length c.self.inside.stored.items = omega arith in
    ap (λ (xs : List ℕ). length xs) c.index-2.ensures ∙ c.self.invariant.sized (c.index.result.now / 2 - 1) c.index-2.result.now inside
