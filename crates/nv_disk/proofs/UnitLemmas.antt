-- Units that move no bytes
use Rattle.std.proofs.Common.{◌≡◌, ℕ, Bool, true, false, ◌||◌, nat_lt, List, length, replicate, refl, sym, arith, inl, inr}
use Rattle.std.specs.List.{slice_index_or}
use Rattle.std.proofs.lemmas.Bool.Decides.{nat_tests}
use Rattle.std.proofs.lemmas.Bool.{cases_lt}
use Rattle.std.proofs.lemmas.List.{get_or-replicate, get_or_past, length-replicate}
use mathlib.Core.Path.{fun_ext}
use Rattle.nv_model.specs.Judge.{KeepAll, Work}
use Rattle.nv_model.specs.Carried.{moved_on}
use Rattle.nv_model.proofs.UnitWords.{or-false}
use Rattle.nv_model.specs.Memory.{byte_in}
use Rattle.nv_disk.specs.Flat.{byte_of_block, flat, moved_of}
use Rattle.nv_disk.proofs.MoveLemmas.{moved}

-- every block kept
pub keep-all : (work : Work) (memory : List ℕ) (disk : List (List ℕ)) (kept : List Bool) (blocks : ℕ) (differed : Bool) → length kept ≡ blocks
    → moved_of (flat memory disk (replicate blocks true)) differed ≡ moved_on (KeepAll blocks) work (moved_of (flat memory disk kept) differed)
unfolding moved_of
keep-all work memory disk kept blocks differed sized =
    moved (byte_in memory) _ (byte_of_block disk) _ _ _ differed (differed || false) refl refl (fun_ext (λ lba. marks lba)) (sym (or-false differed))
  where
    marks : (lba : ℕ) → slice_index_or (replicate blocks true) lba false ≡ nat_lt lba blocks || slice_index_or kept lba false
    marks lba =
        elim (cases_lt lba blocks) [
          | inl below ↦ let all = get_or-replicate blocks lba true false below in grind (arith, nat_tests, all)
          | inr past ↦
              let len : length (replicate blocks true) ≡ blocks = length-replicate blocks true in
              let none = get_or_past (replicate blocks true) lba false (omega arith) in
              let other = get_or_past kept lba false (omega arith) in
              grind (arith, nat_tests, none, other)
        ]
