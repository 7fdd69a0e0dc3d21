use Rattle.std.proofs.Common.{◌≡◌, ℕ, ◌/◌, ◌%◌, ◌<◌, List, ◌++◌, length, take, drop, slice_index_or, slice_set, arith, refl, sym, ap, subst, ◌∙◌}
use Rattle.nv_zeroed.specs.Chunks.{IsMemory, after_store, bytes_at, memory_of}
use Rattle.nv_zeroed.proofs.Lists.{copied, earlier-at, earlier-set, later-at, later-set, seat}
use Rattle.nv_zeroed.proofs.zeroed.Zeroed.copy_part.Goals as goal

pub index_mut-requires : goal.index_mut-requires
index_mut-requires c =
    let any = c.if-len-eq0.false in
    let some : 0 < c.args.len = omega (arith, any) in
    let from_seat : c.args.from / 262144 < length c.self.inside.chunks.items =
    seat 262144 c.args.from c.args.len c.self.inside.len c.self.inside.chunks.items c.args.self.now (omega arith) c.self.invariant c.self.view_is some c.requires.from in
    omega arith

pub split_at_mut-low-requires : goal.split_at_mut-low-requires
split_at_mut-low-requires c =
    let any = c.if-len-eq0.false in
    let some : 0 < c.args.len = omega (arith, any) in
    let to_seat : c.args.to / 262144 < length c.self.inside.chunks.items =
    seat 262144 c.args.to c.args.len c.self.inside.len c.self.inside.chunks.items c.args.self.now (omega arith) c.self.invariant c.self.view_is some c.requires.to in
    let all = c.deref_mut.ensures.len in
    omega arith

pub bounds-high-0 : goal.bounds-high-0
bounds-high-0 c =
    let any = c.if-len-eq0.false in
    let some : 0 < c.args.len = omega (arith, any) in
    let to_seat : c.args.to / 262144 < length c.self.inside.chunks.items =
    seat 262144 c.args.to c.args.len c.self.inside.len c.self.inside.chunks.items c.args.self.now (omega arith) c.self.invariant c.self.view_is some c.requires.to in
    let all = c.deref_mut.ensures.len in
    let back = c.split_at_mut-low.ensures.back_len in
    let there : 0 < length c.split_at_mut-low.result.1.now = omega arith in
    there

pub invariant_of-self : goal.invariant_of-self
invariant_of-self c =
    let any = c.if-len-eq0.false in
    let some : 0 < c.args.len = omega (arith, any) in
    (copied 262144 (c.args.from / 262144) (c.args.from / 262144) c.args.from c.args.to c.args.len c.self.inside.len c.self.inside.chunks.items
    c.index_mut.result.now c.index_mut.result.now c.copy.new.self c.args.self.now (omega arith) c.self.invariant c.self.view_is some c.requires.from c.requires.to
    c.requires.from_chunk c.requires.to_chunk refl c.if-source-target.true c.index_mut.ensures.value c.index_mut.ensures.value c.copy.ensures).1

-- a copy to a later chunk: what the memory is behind it, and that its chunks are a memory's
upward : (c : goal.After-self-then-source-target-2-3-1)
    → (memory_of c.self.inside.len (take c.self.inside.chunks.len (c.split_at_mut-low.result.0.now
    ++ slice_set c.split_at_mut-low.result.1.now 0 c.copy_of.new.self
    ++ drop (length (c.split_at_mut-low.result.0.now ++ slice_set c.split_at_mut-low.result.1.now 0 c.copy_of.new.self)) c.self.inside.chunks.items))
    ≡ after_store c.args.self.now c.args.to (bytes_at c.args.self.now c.args.from c.args.len))
    × IsMemory 262144 c.self.inside.len (take c.self.inside.chunks.len (c.split_at_mut-low.result.0.now
    ++ slice_set c.split_at_mut-low.result.1.now 0 c.copy_of.new.self
    ++ drop (length (c.split_at_mut-low.result.0.now ++ slice_set c.split_at_mut-low.result.1.now 0 c.copy_of.new.self)) c.self.inside.chunks.items))
upward c =
    let any = c.if-len-eq0.false in
    let some : 0 < c.args.len = omega (arith, any) in
    let is : c.self.inside.chunks.items ≡ c.split_at_mut-low.result.0.now ++ c.split_at_mut-low.result.1.now = sym c.deref_mut.ensures.value ∙ c.split_at_mut-low.ensures.value in
    let all : length c.self.inside.chunks.items ≡ c.self.inside.chunks.len = omega arith in
    let front : length c.split_at_mut-low.result.0.now ≡ c.args.to / 262144 = c.split_at_mut-low.ensures.front_len in
    let less = c.if-source-target-2.true in
    let below : c.args.from / 262144 < length c.split_at_mut-low.result.0.now = omega arith in
    let set = later-set c.self.inside.chunks.items c.split_at_mut-low.result.0.now c.split_at_mut-low.result.1.now (c.args.to / 262144) c.self.inside.chunks.len c.copy_of.new.self is front all in
    let both = copied 262144 (c.args.to / 262144) (c.args.from / 262144) c.args.from c.args.to c.args.len c.self.inside.len c.self.inside.chunks.items
    c.index-low-source.result c.index-high-0.result c.copy_of.new.self c.args.self.now (omega arith) c.self.invariant c.self.view_is some c.requires.from c.requires.to
    c.requires.from_chunk c.requires.to_chunk refl refl
    (earlier-at c.self.inside.chunks.items c.split_at_mut-low.result.0.now c.split_at_mut-low.result.1.now (c.args.from / 262144) c.index-low-source.result is below c.index-low-source.is)
    (later-at c.self.inside.chunks.items c.split_at_mut-low.result.0.now c.split_at_mut-low.result.1.now (c.args.to / 262144) c.index-high-0.result is front c.index-high-0.is)
    (c.copy_of.ensures
    ∙ ap (λ (xs : List ℕ). after_store xs (c.args.to % 262144)
    (bytes_at (slice_index_or c.split_at_mut-low.result.0.now (c.args.from / 262144) c.index-low-source.result)
    (c.args.from % 262144) c.args.len)) (sym c.index-high-0.is)
    ∙ ap (λ (xs : List ℕ). after_store c.index-high-0.result (c.args.to % 262144) (bytes_at xs (c.args.from % 262144) c.args.len)) (sym c.index-low-source.is)) in
    subst (λ (xs : List (List ℕ)). (memory_of c.self.inside.len xs ≡ after_store c.args.self.now c.args.to (bytes_at c.args.self.now c.args.from c.args.len))
    × IsMemory 262144 c.self.inside.len xs) (sym set) both

pub invariant_of-self-then-source-target-2 : goal.invariant_of-self-then-source-target-2
invariant_of-self-then-source-target-2 c =
    (upward c).1

pub split_at_mut-low-requires-else-source-target-2 : goal.split_at_mut-low-requires-else-source-target-2
split_at_mut-low-requires-else-source-target-2 c =
    let any = c.if-len-eq0.false in
    let some : 0 < c.args.len = omega (arith, any) in
    let from_seat : c.args.from / 262144 < length c.self.inside.chunks.items =
    seat 262144 c.args.from c.args.len c.self.inside.len c.self.inside.chunks.items c.args.self.now (omega arith) c.self.invariant c.self.view_is some c.requires.from in
    let all = c.deref_mut-else-source-target-2.ensures.len in
    omega arith

pub bounds-high-0-else-source-target-2 : goal.bounds-high-0-else-source-target-2
bounds-high-0-else-source-target-2 c =
    let any = c.if-len-eq0.false in
    let some : 0 < c.args.len = omega (arith, any) in
    let from_seat : c.args.from / 262144 < length c.self.inside.chunks.items =
    seat 262144 c.args.from c.args.len c.self.inside.len c.self.inside.chunks.items c.args.self.now (omega arith) c.self.invariant c.self.view_is some c.requires.from in
    let all = c.deref_mut-else-source-target-2.ensures.len in
    let back = c.split_at_mut-low-else-source-target-2.ensures.back_len in
    let there : 0 < length c.split_at_mut-low-else-source-target-2.result.1.now = omega arith in
    there

-- and to an earlier one
downward : (c : goal.After-self-else-source-target-2-3-1)
    → (memory_of c.self.inside.len (take c.self.inside.chunks.len
    (slice_set c.split_at_mut-low-else-source-target-2.result.0.now (c.args.to / 262144) c.copy_of-else-source-target-2.new.self
    ++ c.split_at_mut-low-else-source-target-2.result.1.now
    ++ drop (length (slice_set c.split_at_mut-low-else-source-target-2.result.0.now (c.args.to / 262144) c.copy_of-else-source-target-2.new.self
    ++ c.split_at_mut-low-else-source-target-2.result.1.now)) c.self.inside.chunks.items))
    ≡ after_store c.args.self.now c.args.to (bytes_at c.args.self.now c.args.from c.args.len))
    × IsMemory 262144 c.self.inside.len (take c.self.inside.chunks.len
    (slice_set c.split_at_mut-low-else-source-target-2.result.0.now (c.args.to / 262144) c.copy_of-else-source-target-2.new.self
    ++ c.split_at_mut-low-else-source-target-2.result.1.now
    ++ drop (length (slice_set c.split_at_mut-low-else-source-target-2.result.0.now (c.args.to / 262144) c.copy_of-else-source-target-2.new.self
    ++ c.split_at_mut-low-else-source-target-2.result.1.now)) c.self.inside.chunks.items))
downward c =
    let any = c.if-len-eq0.false in
    let some : 0 < c.args.len = omega (arith, any) in
    let is : c.self.inside.chunks.items ≡ c.split_at_mut-low-else-source-target-2.result.0.now ++ c.split_at_mut-low-else-source-target-2.result.1.now =
    sym c.deref_mut-else-source-target-2.ensures.value ∙ c.split_at_mut-low-else-source-target-2.ensures.value in
    let all : length c.self.inside.chunks.items ≡ c.self.inside.chunks.len = omega arith in
    let front : length c.split_at_mut-low-else-source-target-2.result.0.now ≡ c.args.from / 262144 = c.split_at_mut-low-else-source-target-2.ensures.front_len in
    let less = c.if-source-target-2.false in
    let other = c.if-source-target.false in
    let below : c.args.to / 262144 < length c.split_at_mut-low-else-source-target-2.result.0.now = omega (arith, other) in
    let set = earlier-set c.self.inside.chunks.items c.split_at_mut-low-else-source-target-2.result.0.now c.split_at_mut-low-else-source-target-2.result.1.now
    (c.args.to / 262144) c.self.inside.chunks.len c.copy_of-else-source-target-2.new.self is below all in
    let both = copied 262144 (c.args.to / 262144) (c.args.from / 262144) c.args.from c.args.to c.args.len c.self.inside.len c.self.inside.chunks.items
    c.index-high-0-else-source-target-2.result c.index-low-target.result c.copy_of-else-source-target-2.new.self c.args.self.now
    (omega arith) c.self.invariant c.self.view_is some c.requires.from c.requires.to
    c.requires.from_chunk c.requires.to_chunk refl refl
    (later-at c.self.inside.chunks.items c.split_at_mut-low-else-source-target-2.result.0.now c.split_at_mut-low-else-source-target-2.result.1.now
    (c.args.from / 262144) c.index-high-0-else-source-target-2.result is front c.index-high-0-else-source-target-2.is)
    (earlier-at c.self.inside.chunks.items c.split_at_mut-low-else-source-target-2.result.0.now c.split_at_mut-low-else-source-target-2.result.1.now
    (c.args.to / 262144) c.index-low-target.result is below c.index-low-target.is)
    (c.copy_of-else-source-target-2.ensures
    ∙ ap (λ (xs : List ℕ). after_store xs (c.args.to % 262144)
    (bytes_at (slice_index_or c.split_at_mut-low-else-source-target-2.result.1.now 0 c.index-high-0-else-source-target-2.result)
    (c.args.from % 262144) c.args.len)) (sym c.index-low-target.is)
    ∙ ap (λ (xs : List ℕ). after_store c.index-low-target.result (c.args.to % 262144) (bytes_at xs (c.args.from % 262144) c.args.len)) (sym c.index-high-0-else-source-target-2.is)) in
    subst (λ (xs : List (List ℕ)). (memory_of c.self.inside.len xs ≡ after_store c.args.self.now c.args.to (bytes_at c.args.self.now c.args.from c.args.len))
    × IsMemory 262144 c.self.inside.len xs) (sym set) both

pub invariant_of-self-else-source-target-2 : goal.invariant_of-self-else-source-target-2
invariant_of-self-else-source-target-2 c =
    (downward c).1

pub returns-then-source-target : goal.returns-then-source-target
returns-then-source-target c =
    let any = c.if-len-eq0.false in
    let some : 0 < c.args.len = omega (arith, any) in
    (copied 262144 (c.args.from / 262144) (c.args.from / 262144) c.args.from c.args.to c.args.len c.self.inside.len c.self.inside.chunks.items
    c.index_mut.result.now c.index_mut.result.now c.copy.new.self c.args.self.now (omega arith) c.self.invariant c.self.view_is some c.requires.from c.requires.to
    c.requires.from_chunk c.requires.to_chunk refl c.if-source-target.true c.index_mut.ensures.value c.index_mut.ensures.value c.copy.ensures).0

pub returns-then-source-target-2 : goal.returns-then-source-target-2
returns-then-source-target-2 c =
    (upward c).0

pub returns-else-source-target-2 : goal.returns-else-source-target-2
returns-else-source-target-2 c =
    (downward c).0
