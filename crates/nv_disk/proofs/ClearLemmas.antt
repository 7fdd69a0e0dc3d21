-- Blocks in a row that are cleared, and marks in a row that are set
use Rattle.std.proofs.Common.{◌≡◌, ℕ, zero, suc, ◌+◌, ◌≤◌, Bool, true, List, ◌++◌, length, replicate, set, take, drop, refl, sym, ap, ◌∙◌, arith}
use Rattle.std.specs.List.{range_with_len}
use Rattle.std.proofs.lemmas.List.{length-set}
use Rattle.nv_model.specs.Carrying.{cleared}
use Rattle.nv_disk.specs.Flat.{flat, moved_of}
use Rattle.nv_disk.specs.Marks.{mark_of, raised}
use Rattle.nv_disk.proofs.MoveLemmas.{cleared-more, cleared-none, cleared-set, marks-raised}
use Rattle.nv_disk.proofs.ReadLemmas.{raised-more, raised-none}
use Rattle.nv_disk.proofs.Ranged.{ranged}
use Rattle.nv_disk.proofs.RangeLemmas.{length-ranged, ranged-is}

cleared-ranged : (memory : List ℕ) (disk : List (List ℕ)) (kept : List Bool) (start n : ℕ) (mark differed : Bool)
    → start + n ≤ length disk → length kept ≡ length disk
    → moved_of (flat memory (ranged disk start n (replicate 512 0)) (ranged kept start n mark)) differed
    ≡ cleared (range_with_len start n) mark (moved_of (flat memory disk kept) differed)
unfolding ranged
cleared-ranged memory disk kept start zero mark differed within sized =
    sym (cleared-none mark (moved_of (flat memory disk kept) differed) start 0 refl)
cleared-ranged memory disk kept start (suc n) mark differed within sized =
    let blocks : length (set disk start (replicate 512 0)) ≡ length disk = length-set disk start (replicate 512 0) in
    let marks : length (set kept start mark) ≡ length kept = length-set kept start mark in
    cleared-ranged memory (set disk start (replicate 512 0)) (set kept start mark) (start + 1) n mark differed (omega arith) (marks ∙ sized ∙ sym blocks)
    ∙ ap (cleared (range_with_len (start + 1) n) mark) (cleared-set memory disk kept start mark differed (omega arith) (omega arith))
    ∙ sym (cleared-more mark (moved_of (flat memory disk kept) differed) start (suc n) n refl)

-- blocks in a row are cleared as one after another
pub cleared-range : (memory : List ℕ) (disk blocks : List (List ℕ)) (kept marks : List Bool) (start n : ℕ) (mark differed : Bool)
    → start + n ≤ length disk → length kept ≡ length disk
    → blocks ≡ take start disk ++ (replicate n (replicate 512 0) ++ drop (start + n) disk)
    → marks ≡ take start kept ++ (replicate n mark ++ drop (start + n) kept)
    → moved_of (flat memory blocks marks) differed ≡ cleared (range_with_len start n) mark (moved_of (flat memory disk kept) differed)
cleared-range memory disk blocks kept marks start n mark differed within sized are set =
    ap (λ (bs : List (List ℕ)). moved_of (flat memory bs marks) differed) (are ∙ sym (ranged-is disk start n (replicate 512 0) within))
    ∙ ap (λ (ms : List Bool). moved_of (flat memory (ranged disk start n (replicate 512 0)) ms) differed) (set ∙ sym (ranged-is kept start n mark (omega arith)))
    ∙ cleared-ranged memory disk kept start n mark differed within sized

raised-ranged : (kept : List Bool) (start n : ℕ) → start + n ≤ length kept → mark_of (ranged kept start n true) ≡ raised true start n (mark_of kept)
unfolding ranged
raised-ranged kept start zero within = sym (raised-none true start 0 (mark_of kept) refl)
raised-ranged kept start (suc n) within =
    let size : length (set kept start true) ≡ length kept = length-set kept start true in
    raised-ranged (set kept start true) (start + 1) n (omega arith)
    ∙ ap (raised true (start + 1) n) (marks-raised kept start (omega arith))
    ∙ sym (raised-more true start (suc n) n (mark_of kept) refl)

-- marks in a row are set as one after another
pub raised-range : (kept marks : List Bool) (start n : ℕ) → start + n ≤ length kept → marks ≡ take start kept ++ (replicate n true ++ drop (start + n) kept)
    → mark_of marks ≡ raised true start n (mark_of kept)
raised-range kept marks start n within set =
    ap mark_of (set ∙ sym (ranged-is kept start n true within)) ∙ raised-ranged kept start n within

-- as many as there were
pub length-range : {X : Type 0} (xs ys : List X) (start n : ℕ) (x : X) → start + n ≤ length xs → ys ≡ take start xs ++ (replicate n x ++ drop (start + n) xs)
    → length ys ≡ length xs
length-range {X} xs ys start n x within are =
    ap (λ (zs : List X). length zs) (are ∙ sym (ranged-is xs start n x within)) ∙ length-ranged xs start n x
