-- Where effects write and read.
use Rattle.std.proofs.Common.{◌≡◌, ℕ, suc, ◌+◌, ◌-◌, ◌%◌, ◌<◌, ◌≤◌, true, false, List, [], ◌∷◌, ◌++◌, length, take, drop}
use Rattle.std.proofs.Common.{Option, Some, None, arith, refl, sym, ap, ◌∙◌, subst, eq-eqb}
use Rattle.std.proofs.lemmas.Bool.Decides.{nat_tests}
use Rattle.std.proofs.lemmas.List.{length-drop, length-take-le}
use Rattle.std.proofs.lemmas.List.Elements.{All-append, All-cons, All-head, All-nil, All-tail, All-weaker}
use Rattle.std.specs.List.{All}
use Rattle.nv_machine.specs.Effects.{Copy, Effect, ReadsIn, Store, WritesIn, effect_on, effects_on, writes_to}
use Rattle.nv_machine.specs.Effects.{completion_stores, copies_from, copies_to, copy_from, copy_to, host_of_place, store_at, stores}
use Rattle.nv_machine.proofs.Effects.{effects_on-elsewhere, page-of-entry}
use Rattle.nv_machine.proofs.Hosts.{row-in-page}
use Rattle.nv_mem.specs.GuestMap.{IsSound, Mapping, all_mapped, host_of}
use Rattle.nv_mem.specs.MapRuns.{InImage, IsContiguous}
use Rattle.nv_mem.specs.Places.{At, Bucket, Place}
use Rattle.nv_mem.specs.declared.region.Region.{Region}
use Rattle.nv_model.specs.Memory.{stored}
use Rattle.nv_model.proofs.MemoryAlike.{stored-at}

-- ---- what is left alone

-- effects that write in a part leave what is not in it
not-written : (P : ℕ → Type 0) (e : Effect) (at : ℕ) → WritesIn P e → (P at → ⊥) → writes_to e at ≡ false
not-written P e at within outside =
    (elim (writes_to e at) as (λ b. writes_to e at ≡ b → b ≡ false) [ true ↦ λ is. absurd (outside (within at is)) | false ↦ λ is. refl ]) refl

pub effects_on-outside : (P : ℕ → Type 0) (effects : List Effect) (host : ℕ → ℕ) (at : ℕ) → All (WritesIn P) effects → (P at → ⊥)
    → effects_on effects host at ≡ host at
effects_on-outside P effects host at within outside =
    effects_on-elsewhere effects host at
    (All-weaker (WritesIn P) (λ (e : Effect). writes_to e at ≡ false) (λ e here. not-written P e at here outside) effects within)

-- ---- what an effect comes to depends on what it reads

-- a byte that is the same in both memories stays so
effect_on-same : (P : ℕ → Type 0) (e : Effect) (host other : ℕ → ℕ) (at : ℕ) → ReadsIn P e → ((a : ℕ) → P a → host a ≡ other a) → host at ≡ other at
    → effect_on e host at ≡ effect_on e other at
effect_on-same P (Store to bytes) host other at reads alike same = stored-at host other to bytes at same
effect_on-same P (Copy from to) host other at reads alike same =
    ap (λ (b : ℕ). stored host to (b ∷ []) at) (alike from (reads from (eq-eqb from from refl)))
    ∙ stored-at host other to (other from ∷ []) at same

pub effects_on-same : (P : ℕ → Type 0) (effects : List Effect) (host other : ℕ → ℕ) (at : ℕ) → All (ReadsIn P) effects
    → ((a : ℕ) → P a → host a ≡ other a) → host at ≡ other at → effects_on effects host at ≡ effects_on effects other at
unfolding effects_on
effects_on-same P [] host other at reads alike same = same
effects_on-same P (e ∷ effects) host other at reads alike same =
    let first : ReadsIn P e = All-head (ReadsIn P) e effects reads in
    effects_on-same P effects (effect_on e host) (effect_on e other) at (All-tail (ReadsIn P) e effects reads)
    (λ a there. effect_on-same P e host other a first alike (alike a there)) (effect_on-same P e host other at first alike same)

-- ---- where stores and copies write

-- a byte at one address
byte-written : (P : ℕ → Type 0) (to at : ℕ) (byte : ℕ) → P to → writes_to (Store to (byte ∷ [])) at ≡ true → P at
byte-written P to at byte there is = let same : to ≡ at = grind (arith, nat_tests) in subst P same there

copy-written : (P : ℕ → Type 0) (from to at : ℕ) → P to → writes_to (Copy from to) at ≡ true → P at
copy-written P from to at there is = let same : to ≡ at = grind (arith, nat_tests) in subst P same there

-- where a place lies is in the guest's memory
place-own : (rs : List Region) (place : Place) (to : ℕ) → host_of_place rs place ≡ Some to → InImage rs to
place-own rs Bucket to is = cc
place-own rs (At addr) to is = (addr, is)

-- bytes that are stored at places are in the guest's memory
store_at-written : (rs : List Region) (place : Place) (byte : ℕ) → All (WritesIn (InImage rs)) (store_at (host_of_place rs place) (byte ∷ []))
store_at-written rs place byte =
    (elim (host_of_place rs place) as (λ o. host_of_place rs place ≡ o → All (WritesIn (InImage rs)) (store_at o (byte ∷ []))) [
      | None ↦ λ is. All-nil (WritesIn (InImage rs))
      | Some to ↦ λ is.
          All-cons (WritesIn (InImage rs)) (Store to (byte ∷ [])) [] (λ at. byte-written (InImage rs) to at byte (place-own rs place to is)) (All-nil (WritesIn (InImage rs)))
    ]) refl

pub stores-written : (rs : List Region) (places : List Place) (bytes : List ℕ) → All (WritesIn (InImage rs)) (stores rs places bytes)
stores-written rs [] bytes = All-nil (WritesIn (InImage rs))
stores-written rs (place ∷ places) [] = All-nil (WritesIn (InImage rs))
stores-written rs (place ∷ places) (byte ∷ bytes) =
    All-append (WritesIn (InImage rs)) (store_at (host_of_place rs place) (byte ∷ [])) (stores rs places bytes) (store_at-written rs place byte) (stores-written rs places bytes)

-- and bytes that are copied to places
copy_to-written : (rs : List Region) (place : Place) (from : ℕ) → All (WritesIn (InImage rs)) (copy_to from (host_of_place rs place))
copy_to-written rs place from =
    (elim (host_of_place rs place) as (λ o. host_of_place rs place ≡ o → All (WritesIn (InImage rs)) (copy_to from o)) [
      | None ↦ λ is. All-nil (WritesIn (InImage rs))
      | Some to ↦ λ is.
          All-cons (WritesIn (InImage rs)) (Copy from to) [] (λ at. copy-written (InImage rs) from to at (place-own rs place to is)) (All-nil (WritesIn (InImage rs)))
    ]) refl

pub copies_to-written : (rs : List Region) (from : ℕ) (places : List Place) → All (WritesIn (InImage rs)) (copies_to rs from places)
copies_to-written rs from [] = All-nil (WritesIn (InImage rs))
copies_to-written rs from (place ∷ places) =
    All-append (WritesIn (InImage rs)) (copy_to from (host_of_place rs place)) (copies_to rs (suc from) places) (copy_to-written rs place from)
    (copies_to-written rs (suc from) places)

-- bytes that are copied from places lie one after another
copy_from-written : (P : ℕ → Type 0) (to : ℕ) (from : Option ℕ) → P to → WritesIn P (copy_from to from)
copy_from-written P to None there = λ at. byte-written P to at 0 there
copy_from-written P to (Some from) there = λ at. copy-written P from to at there

pub copies_from-written : (rs : List Region) (places : List Place) (to : ℕ)
    → All (WritesIn (λ (at : ℕ). (to ≤ at) × (at < to + length places))) (copies_from rs places to)
copies_from-written rs [] to = All-nil (WritesIn (λ (at : ℕ). (to ≤ at) × (at < to + 0)))
copies_from-written rs (place ∷ places) to =
    let Within : ℕ → Type 0 = λ at. (to ≤ at) × (at < to + length (place ∷ places)) in
    All-cons (WritesIn Within) (copy_from to (host_of_place rs place)) (copies_from rs places (suc to))
    (copy_from-written Within to (host_of_place rs place) (omega arith, omega arith))
    (All-weaker (WritesIn (λ (at : ℕ). (suc to ≤ at) × (at < suc to + length places))) (WritesIn Within)
    (λ e within at is. let there = within at is in let low = there.0 in let high = there.1 in (omega arith, omega arith))
    (copies_from rs places (suc to)) (copies_from-written rs places (suc to)))

-- a completion that lies in a row is in the guest's memory
part-written : (rs : List Region) (addr at : ℕ) (skip : ℕ) (bytes : List ℕ) → IsContiguous rs addr at 16 → skip + length bytes ≤ 16
    → WritesIn (InImage rs) (Store (at + skip) bytes)
part-written rs addr at skip bytes run fits = λ a is.
    let low : at + skip ≤ a = grind (arith, nat_tests) in
    let high : a < at + skip + length bytes = grind (arith, nat_tests) in
    let same : at + (a - at) ≡ a = omega arith in
    (addr + (a - at), run.contiguous (a - at) (omega arith) ∙ ap (λ (h : ℕ). Some h) same)

completion_stores-row_written : (rs : List Region) (addr at : ℕ) (entry : List ℕ) → length entry ≡ 16 → IsContiguous rs addr at 16
    → All (WritesIn (InImage rs)) (completion_stores rs addr entry)
completion_stores-row_written rs addr at entry size run =
    let Own : Effect → Type 0 = WritesIn (InImage rs) in
    let from : addr ≡ addr + 0 = omega arith in
    let first : host_of rs addr ≡ Some (at + 0) = ap (host_of rs) from ∙ run.contiguous 0 (omega arith) in
    let second : host_of rs (addr + 12) ≡ Some (at + 12) = run.contiguous 12 (omega arith) in
    let front : length (take 12 entry) ≡ 12 = length-take-le 12 entry (omega arith) in
    let back : length (drop 12 entry) ≡ length entry - 12 = length-drop 12 entry in
    subst (λ (o : Option ℕ). All Own (store_at o (take 12 entry) ++ store_at (host_of rs (addr + 12)) (drop 12 entry))) (sym first)
    (All-cons Own (Store (at + 0) (take 12 entry)) (store_at (host_of rs (addr + 12)) (drop 12 entry)) (part-written rs addr at 0 (take 12 entry) run (omega arith))
    (subst (λ (o : Option ℕ). All Own (store_at o (drop 12 entry))) (sym second)
    (All-cons Own (Store (at + 12) (drop 12 entry)) [] (part-written rs addr at 12 (drop 12 entry) run (omega arith)) (All-nil Own))))

pub completion_stores-written : (m : Mapping) (addr : ℕ) (entry : List ℕ) → IsSound m → addr % 16 ≡ 0 → length entry ≡ 16
    → all_mapped m.regions addr 16 ≡ true → All (WritesIn (InImage m.regions)) (completion_stores m.regions addr entry)
completion_stores-written m addr entry sound aligned size there =
    let row = row-in-page m addr 16 sound (omega arith) (page-of-entry addr aligned) there in
    completion_stores-row_written m.regions addr row.0 entry size row.1

-- ---- where they read

-- a store reads nothing
Store-read : (P : ℕ → Type 0) (to : ℕ) (bytes : List ℕ) → ReadsIn P (Store to bytes)
Store-read P to bytes = λ at is. cc

Copy-read : (P : ℕ → Type 0) (from to : ℕ) → P from → ReadsIn P (Copy from to)
Copy-read P from to there = λ at is. let same : from ≡ at = grind (arith, nat_tests) in subst P same there

-- stores to a place, or at an address, read nothing
pub store_at-read : (P : ℕ → Type 0) (to : Option ℕ) (bytes : List ℕ) → All (ReadsIn P) (store_at to bytes)
store_at-read P None bytes = All-nil (ReadsIn P)
store_at-read P (Some to) bytes = All-cons (ReadsIn P) (Store to bytes) [] (Store-read P to bytes) (All-nil (ReadsIn P))

pub stores-read : (P : ℕ → Type 0) (rs : List Region) (places : List Place) (bytes : List ℕ) → All (ReadsIn P) (stores rs places bytes)
stores-read P rs [] bytes = All-nil (ReadsIn P)
stores-read P rs (place ∷ places) [] = All-nil (ReadsIn P)
stores-read P rs (place ∷ places) (byte ∷ bytes) =
    All-append (ReadsIn P) (store_at (host_of_place rs place) (byte ∷ [])) (stores rs places bytes) (store_at-read P (host_of_place rs place) (byte ∷ []))
    (stores-read P rs places bytes)

pub completion_stores-read : (P : ℕ → Type 0) (rs : List Region) (addr : ℕ) (entry : List ℕ) → All (ReadsIn P) (completion_stores rs addr entry)
completion_stores-read P rs addr entry =
    All-append (ReadsIn P) (store_at (host_of rs addr) (take 12 entry)) (store_at (host_of rs (addr + 12)) (drop 12 entry))
    (store_at-read P (host_of rs addr) (take 12 entry)) (store_at-read P (host_of rs (addr + 12)) (drop 12 entry))

-- copies to places read one byte after another
copy_to-read : (P : ℕ → Type 0) (from : ℕ) (to : Option ℕ) → P from → All (ReadsIn P) (copy_to from to)
copy_to-read P from None there = All-nil (ReadsIn P)
copy_to-read P from (Some to) there = All-cons (ReadsIn P) (Copy from to) [] (Copy-read P from to there) (All-nil (ReadsIn P))

pub copies_to-read : (rs : List Region) (from : ℕ) (places : List Place)
    → All (ReadsIn (λ (at : ℕ). (from ≤ at) × (at < from + length places))) (copies_to rs from places)
copies_to-read rs from [] = All-nil (ReadsIn (λ (at : ℕ). (from ≤ at) × (at < from + 0)))
copies_to-read rs from (place ∷ places) =
    let Within : ℕ → Type 0 = λ at. (from ≤ at) × (at < from + length (place ∷ places)) in
    All-append (ReadsIn Within) (copy_to from (host_of_place rs place)) (copies_to rs (suc from) places)
    (copy_to-read Within from (host_of_place rs place) (omega arith, omega arith))
    (All-weaker (ReadsIn (λ (at : ℕ). (suc from ≤ at) × (at < suc from + length places))) (ReadsIn Within)
    (λ e within at is. let there = within at is in let low = there.0 in let high = there.1 in (omega arith, omega arith))
    (copies_to rs (suc from) places) (copies_to-read rs (suc from) places))

-- and copies from places the guest's memory
copy_from-read : (rs : List Region) (to : ℕ) (place : Place) → ReadsIn (InImage rs) (copy_from to (host_of_place rs place))
copy_from-read rs to place =
    (elim (host_of_place rs place) as (λ o. host_of_place rs place ≡ o → ReadsIn (InImage rs) (copy_from to o)) [
      | None ↦ λ is. Store-read (InImage rs) to (0 ∷ [])
      | Some from ↦ λ is. Copy-read (InImage rs) from to (place-own rs place from is)
    ]) refl

pub copies_from-read : (rs : List Region) (places : List Place) (to : ℕ) → All (ReadsIn (InImage rs)) (copies_from rs places to)
copies_from-read rs [] to = All-nil (ReadsIn (InImage rs))
copies_from-read rs (place ∷ places) to =
    All-cons (ReadsIn (InImage rs)) (copy_from to (host_of_place rs place)) (copies_from rs places (suc to)) (copy_from-read rs to place)
    (copies_from-read rs places (suc to))
