-- Two controllers that are seen alike.
use Rattle.std.proofs.Common.{◌≡◌, ℕ, ◌<◌, false, List, [], length, get_or, sym, ap, subst, ◌∙◌}
use Rattle.std.proofs.lemmas.List.{ext_get_or}
use Rattle.std.proofs.lemmas.List.Elements.{All-get_or}
use Rattle.nv_model.specs.Memory.{byte_in}
use Rattle.nv_model.specs.Limits.{block}
use Rattle.nv_model.specs.Private.{Moved}
use Rattle.nv_disk.specs.Flat.{Flat, flat, moved_of}
use Rattle.nv_flat.specs.Laws.{IsAsLarge}

pub equal-lists : (f g : Flat) → IsAsLarge f g → moved_of f false ≡ moved_of g false → f ≡ g
unfolding moved_of byte_in
equal-lists f g large alike =
    let memory : f.memory ≡ g.memory = ext_get_or 0 f.memory g.memory large.memory (λ i. λ below. ap (λ (m : Moved). m.memory i) alike) in
    let disk : f.disk ≡ g.disk =
    ext_get_or [] f.disk g.disk large.disk (λ i. λ below.
    ext_get_or 0 (get_or f.disk i []) (get_or g.disk i [])
    (All-get_or (λ (bytes : List ℕ). length bytes ≡ block) f.disk i [] below large.blocks_of_one
    ∙ sym (All-get_or (λ (bytes : List ℕ). length bytes ≡ block) g.disk i [] (subst (λ (n : ℕ). i < n) large.disk below) large.blocks_of_other))
    (λ offset. λ within. ap (λ (m : Moved). m.disk i offset) alike)) in
    let kept : f.kept ≡ g.kept = ext_get_or false f.kept g.kept large.kept (λ i. λ below. ap (λ (m : Moved). m.kept i) alike) in
    ap (λ (bytes : List ℕ). flat bytes f.disk f.kept) memory
    ∙ ap (λ (blocks : List (List ℕ)). flat g.memory blocks f.kept) disk ∙ ap (flat g.memory g.disk) kept
