-- Lemmas on dialogues with two memories that agree on what is asked for.
use Rattle.std.proofs.Common.{◌≡◌, ℕ, zero, suc, ◌+◌, List, arith, refl}
use Rattle.std.proofs.lemmas.List.Elements.{All-head, All-tail}
use Rattle.nv_model.specs.Memory.{bytes_from}
use Rattle.nv_model.specs.Dialogue.{Dialogue, End, Ask, asked, in_memory}
use Rattle.nv_model.specs.Judge.{judge}
use Rattle.nv_model.specs.Footprint.{io_named}
use Rattle.nv_model.specs.Private.{Shape}
use Rattle.nv_model.specs.Laws.{AgreeAt, AgreeOn}

-- memories that agree on the bytes give the same bytes
pub bytes_from-agree : (memory other : ℕ → ℕ) (addr len : ℕ) → AgreeAt memory other (addr, len)
    → bytes_from memory addr len ≡ bytes_from other addr len
unfolding bytes_from
bytes_from-agree memory other addr zero agree = refl
bytes_from-agree memory other addr (suc len) agree =
    let start : addr + 0 ≡ addr = omega arith in
    let first : memory addr ≡ other addr = rw start at (agree 0 (omega arith)) in
    let rest = bytes_from-agree memory other (suc addr) len
    (λ i below. let next : suc addr + i ≡ addr + suc i = omega arith in rw next (agree (suc i) (omega arith))) in
    rw (first, rest) refl

-- a dialogue ends in the same value
pub in_memory-agree : {A : Type 0} (memory other : ℕ → ℕ) (d : Dialogue A) → AgreeOn memory other (asked memory d)
    → in_memory other d ≡ in_memory memory d
unfolding in_memory asked
in_memory-agree memory other (End value) agree = refl
in_memory-agree memory other (Ask addr unit left next) agree =
    let same = bytes_from-agree memory other addr unit (All-head (AgreeAt memory other) (addr, unit) _ agree) in
    rw (← same) (in_memory-agree memory other (next (bytes_from memory addr unit)) (All-tail (AgreeAt memory other) (addr, unit) _ agree))

-- and asks for the same
pub asked-agree : {A : Type 0} (memory other : ℕ → ℕ) (d : Dialogue A) → AgreeOn memory other (asked memory d)
    → asked other d ≡ asked memory d
unfolding asked
asked-agree memory other (End value) agree = refl
asked-agree memory other (Ask addr unit left next) agree =
    let same = bytes_from-agree memory other addr unit (All-head (AgreeAt memory other) (addr, unit) _ agree) in
    rw (← same, asked-agree memory other (next (bytes_from memory addr unit)) (All-tail (AgreeAt memory other) (addr, unit) _ agree)) refl

-- and so a command names the same bytes
pub io_named-agree : (shape : Shape) (memory other : ℕ → ℕ) (entry : List ℕ)
    → AgreeOn memory other (asked memory (judge shape.mapped shape.limit shape.blocks entry))
    → io_named shape other entry ≡ io_named shape memory entry
io_named-agree shape memory other entry agree =
    rw (asked-agree memory other (judge shape.mapped shape.limit shape.blocks entry) agree, in_memory-agree memory other (judge shape.mapped shape.limit shape.blocks entry) agree) refl
