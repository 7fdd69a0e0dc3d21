-- What effects come to at an address which they store at, and copy nothing to.
use Rattle.std.proofs.Common.{◌≡◌, ◌≢◌, ℕ, suc, ◌+◌, ◌<◌, ◌≤◌, inl, inr, Bool, true, false, cond, ◌==◌, List, [], ◌∷◌, length, map, All}
use Rattle.std.proofs.Common.{⊎_elim, arith, refl, sym, ap, ◌∙◌}
use Rattle.std.proofs.lemmas.Bool.{cases_lt}
use Rattle.std.proofs.lemmas.List.Elements.{All-append, All-cons, All-head, All-nil, All-tail}
use Rattle.std.specs.List.{enumerate_from, flat_map}
use Rattle.nv_fine.specs.Fine.{parts_of}
use Rattle.nv_machine.proofs.Effects.{effects_on-append}
use Rattle.nv_machine.specs.Effects.{Copy, Effect, Store, effect_on, effects_on, writes_to}
use Rattle.nv_model.proofs.MemoryAlike.{stored-at}
use Rattle.nv_model.proofs.MemoryLemmas.{stored-cons, stored-nil, stored-outside}
use Rattle.nv_model.specs.Memory.{stored}

-- ---- one effect

-- an effect copies nothing to an address
abbrev pub IsSteady : (at : ℕ) → Effect → Type 0
IsSteady at (Store to bytes) = Unit {0}
IsSteady at (Copy from to) = at ≢ to

-- it leaves an address alone
abbrev pub Spares : (at : ℕ) → Effect → Type 0
Spares at e = writes_to e at ≡ false

-- a byte that is copied elsewhere
copied-off : (host : ℕ → ℕ) (byte to at : ℕ) → at ≢ to → stored host to (byte ∷ []) at ≡ host at
copied-off host byte to at apart =
    ⊎_elim (λ before. stored-outside host to (byte ∷ []) at (inl before))
    (λ from. stored-outside host to (byte ∷ []) at (inr (omega (arith, from, apart)))) (cases_lt at to)

-- so it comes there to the same in two memories that are the same there
effect_on-at : (e : Effect) (host other : ℕ → ℕ) (at : ℕ) → IsSteady at e → host at ≡ other at → effect_on e host at ≡ effect_on e other at
effect_on-at (Store to bytes) host other at steady same = stored-at host other to bytes at same
effect_on-at (Copy from to) host other at steady same =
    copied-off host (host from) to at steady ∙ same ∙ sym (copied-off other (other from) to at steady)

pub effects_on-at : (es : List Effect) (host other : ℕ → ℕ) (at : ℕ) → All (IsSteady at) es → host at ≡ other at → effects_on es host at ≡ effects_on es other at
unfolding effects_on
effects_on-at [] host other at steady same = same
effects_on-at (e ∷ es) host other at steady same =
    effects_on-at es (effect_on e host) (effect_on e other) at (All-tail (IsSteady at) e es steady)
    (effect_on-at e host other at (All-head (IsSteady at) e es steady) same)

-- ---- parts

-- what holds of each store of one byte of these
pub bytes-each : (P : Effect → Type 0) (to : ℕ) (bytes : List ℕ) (k : ℕ)
    → ((i byte : ℕ) → k ≤ i → i < k + length bytes → P (Store (to + i) (byte ∷ []))) → All P (map (λ b. Store (to + b.0) (b.1 ∷ [])) (enumerate_from k bytes))
bytes-each P to [] k each = All-nil P
bytes-each P to (x ∷ bytes) k each =
    All-cons P (Store (to + k) (x ∷ [])) (map (λ b. Store (to + b.0) (b.1 ∷ [])) (enumerate_from (k + 1) bytes)) (each k x (omega arith) (omega arith))
    (bytes-each P to bytes (k + 1) (λ i byte low high. each i byte (omega (arith, low)) (omega (arith, high))))

-- what holds of a store and of those of each byte of it holds of the parts of an effect
pub parts-each : (P : Effect → Type 0) (e : Effect) → P e
    → ((to : ℕ) (bytes : List ℕ) → e ≡ Store to bytes → (i byte : ℕ) → i < length bytes → P (Store (to + i) (byte ∷ []))) → All P (parts_of e)
parts-each P (Copy from to) holds each = All-cons P (Copy from to) [] holds (All-nil P)
parts-each P (Store to bytes) holds each = by (length bytes == 4)
  where
    by : (whole : Bool) → All P (cond whole (Store to bytes ∷ []) (map (λ b. Store (to + b.0) (b.1 ∷ [])) (enumerate_from 0 bytes)))
    by true = All-cons P (Store to bytes) [] holds (All-nil P)
    by false = bytes-each P to bytes 0 (λ i byte low high. each to bytes refl i byte (omega (arith, high)))

pub all-parts : (P : Effect → Type 0) (es : List Effect) → ((e : Effect) → P e → All P (parts_of e)) → All P es → All P (flat_map parts_of es)
all-parts P [] each holds = All-nil P
all-parts P (e ∷ es) each holds =
    All-append P (parts_of e) (flat_map parts_of es) (each e (All-head P e es holds)) (all-parts P es each (All-tail P e es holds))

-- bytes one by one come to all of them at once
bytes-on : (to : ℕ) (bytes : List ℕ) (k : ℕ) (host : ℕ → ℕ) (at : ℕ)
    → effects_on (map (λ b. Store (to + b.0) (b.1 ∷ [])) (enumerate_from k bytes)) host at ≡ stored host (to + k) bytes at
unfolding effects_on
bytes-on to [] k host at = ap (λ (h : ℕ → ℕ). h at) (sym (stored-nil host (to + k)))
bytes-on to (x ∷ bytes) k host at =
    let next : to + (k + 1) ≡ suc (to + k) = omega arith in
    bytes-on to bytes (k + 1) (stored host (to + k) (x ∷ [])) at
    ∙ ap (λ (n : ℕ). stored (stored host (to + k) (x ∷ [])) n bytes at) next
    ∙ ap (λ (h : ℕ → ℕ). h at) (stored-cons host (to + k) x bytes)

parts-on : (e : Effect) (host : ℕ → ℕ) (at : ℕ) → effects_on (parts_of e) host at ≡ effect_on e host at
unfolding effects_on
parts-on (Copy from to) host at = refl
parts-on (Store to bytes) host at = by (length bytes == 4)
  where
    by : (whole : Bool) → effects_on (cond whole (Store to bytes ∷ []) (map (λ b. Store (to + b.0) (b.1 ∷ [])) (enumerate_from 0 bytes))) host at ≡ stored host to bytes at
    by true = refl
    by false =
        let start : to + 0 ≡ to = omega arith in
        bytes-on to bytes 0 host at ∙ ap (λ (n : ℕ). stored host n bytes at) start

-- the parts of effects come to what the effects do
pub all-parts-on : (es : List Effect) (host : ℕ → ℕ) (at : ℕ) → All (IsSteady at) es → effects_on (flat_map parts_of es) host at ≡ effects_on es host at
unfolding effects_on
all-parts-on [] host at steady = refl
all-parts-on (e ∷ es) host at steady =
    let later = All-tail (IsSteady at) e es steady in
    ap (λ (h : ℕ → ℕ). h at) (effects_on-append (parts_of e) (flat_map parts_of es) host)
    ∙ all-parts-on es (effects_on (parts_of e) host) at later
    ∙ effects_on-at es (effects_on (parts_of e) host) (effect_on e host) at later (parts-on e host at)
